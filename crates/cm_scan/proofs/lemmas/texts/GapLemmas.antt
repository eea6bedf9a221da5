-- Spaces, tabs and line feeds skipped, one byte at a time.
use Rattle.std.proofs.Common.{◌≡◌, ◌≢◌, ℕ, suc, ◌+◌, ◌<◌, ◌≤◌, true, false, List, [], ◌∷◌, length, drop, get_or, Some, None, refl, sym, ap, ◌∙◌, arith, add-one, drop-cons}
use Rattle.std.proofs.lemmas.List.{drop_all}
use Rattle.std.proofs.lemmas.Bool.Decides.{nat_tests}
use Rattle.cm_scan.specs.Words.{is_space_or_tab, skip, trim_start}
use Rattle.cm_scan.specs.spans.Tags.{after_line_ending, after_gap}
use Rattle.cm_scan.specs.inlines.Links.{at_line_end, after_line}

trim-cons : (b : ℕ) (bs : List ℕ) → is_space_or_tab b ≡ true → trim_start (b ∷ bs) ≡ trim_start bs
unfolding skip
trim-cons b bs h = grind (arith, nat_tests, h)

trim-kept : (b : ℕ) (bs : List ℕ) → is_space_or_tab b ≡ false → trim_start (b ∷ bs) ≡ b ∷ bs
unfolding skip
trim-kept b bs h = grind (arith, nat_tests, h)

-- a space or a tab is skipped
pub trim-step : (bs : List ℕ) (i : ℕ) → i < length bs → is_space_or_tab (get_or bs i 0) ≡ true → trim_start (drop (i + 1) bs) ≡ trim_start (drop i bs)
trim-step bs i within h = rw (drop-cons bs i 0, add-one) (sym (trim-cons (get_or bs i 0) (drop (suc i) bs) h))

-- any other byte stays
pub trim-stop : (bs : List ℕ) (i : ℕ) → i < length bs → is_space_or_tab (get_or bs i 0) ≡ false → trim_start (drop i bs) ≡ drop i bs
trim-stop bs i within h = rw (drop-cons bs i 0) (trim-kept (get_or bs i 0) (drop (suc i) bs) h)

-- of nothing nothing is left
pub trim-none : (bs : List ℕ) (i : ℕ) → length bs ≤ i → trim_start (drop i bs) ≡ drop i bs
unfolding skip
trim-none bs i past = let none : drop i bs ≡ [] = drop_all i bs past in rw none refl

-- a space or a tab is ASCII
pub blank-ascii : (b : ℕ) → is_space_or_tab b ≡ true → b < 128
blank-ascii b h = grind (arith, nat_tests, h)

ending-other : (b : ℕ) (bs : List ℕ) → b ≢ 10 → after_line_ending (b ∷ bs) ≡ b ∷ bs
ending-other b bs h = grind (arith, nat_tests, h)

pub gap-feed : (text : List ℕ) (at end : ℕ) → drop end text ≡ trim_start (drop at text) → end < length text → get_or text end 0 ≡ 10 → after_gap (drop at text) ≡ trim_start (drop (end + 1) text)
unfolding after_gap
gap-feed text at end e within h =
    ap after_line_ending (sym e ∙ drop-cons text end 0 within ∙ ap (λ b. b ∷ drop (suc end) text) h) ∙ rw (add-one) refl

pub gap-other : (text : List ℕ) (at end : ℕ) → drop end text ≡ trim_start (drop at text) → end < length text → get_or text end 0 ≢ 10 → after_gap (drop at text) ≡ drop end text
unfolding after_gap
gap-other text at end e within h =
    let front = drop-cons text end 0 within in
    ap after_line_ending (sym e ∙ front) ∙ ending-other (get_or text end 0) (drop (suc end) text) h ∙ sym front

pub gap-end : (text : List ℕ) (at end : ℕ) → drop end text ≡ trim_start (drop at text) → length text ≤ end → after_gap (drop at text) ≡ drop end text
unfolding after_gap
gap-end text at end e past = let none : drop end text ≡ [] = drop_all end text past in ap after_line_ending (sym e ∙ none) ∙ sym none

-- the end of a line
feed-next : (bs : List ℕ) → at_line_end (10 ∷ bs) ≡ Some bs
feed-next bs = refl

no-feed : (b : ℕ) (bs : List ℕ) → b ≢ 10 → at_line_end (b ∷ bs) ≡ None
no-feed b bs h = grind (arith, nat_tests, h)

pub line-feed : (text : List ℕ) (at end : ℕ) → drop end text ≡ trim_start (drop at text) → end < length text → get_or text end 0 ≡ 10 → Some (drop (end + 1) text) ≡ after_line (drop at text)
unfolding after_line
line-feed text at end e within h =
    sym (ap at_line_end (sym e ∙ drop-cons text end 0 within ∙ ap (λ b. b ∷ drop (suc end) text) h) ∙ rw (add-one) refl)

pub line-other : (text : List ℕ) (at end : ℕ) → drop end text ≡ trim_start (drop at text) → end < length text → get_or text end 0 ≢ 10 → None ≡ after_line (drop at text)
unfolding after_line
line-other text at end e within h = sym (ap at_line_end (sym e ∙ drop-cons text end 0 within) ∙ no-feed (get_or text end 0) (drop (suc end) text) h)

pub line-end : (text : List ℕ) (at end : ℕ) → drop end text ≡ trim_start (drop at text) → length text ≤ end → Some (drop end text) ≡ after_line (drop at text)
unfolding after_line
line-end text at end e past = let none : drop end text ≡ [] = drop_all end text past in sym (ap at_line_end (sym e ∙ none) ∙ ap Some (sym none))
