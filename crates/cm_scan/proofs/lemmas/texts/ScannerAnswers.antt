-- What a scanner returns, against the definition.
use Rattle.std.proofs.Common.{◌≡◌, ℕ, zero, suc, ◌+◌, ◌-◌, ◌≤◌, ◌<◌, ◌==◌, ◌&&◌, nat_le, Bool, true, false, List, [], ◌∷◌, length, drop, get_or, Option, Some, None, refl, sym, ap, subst, ◌∙◌, arith, length-take, length-drop}
use Rattle.std.specs.List.{slice_range, list_all}
use Rattle.std.specs.Str.{IsCharBoundary}
use Rattle.std.proofs.lemmas.Bool.Decides.{nat_tests}
use Rattle.cm_scan.specs.Scanned.{IsAt}
use Rattle.cm_scan.specs.Words.{begins_with, given}
use Rattle.cm_scan.specs.spans.Tags.{is_blank_byte}
use Rattle.cm_scan.specs.inlines.Links.{Reading, keep_if, up_to_closing, characters, is_label, label}
use Rattle.cm_scan.specs.steps.LinkSteps.{fits}

-- a byte that comes next is at the place
pub begins-at : (b : ℕ) (text : List ℕ) (at : ℕ) → begins_with b (drop at text) ≡ true → (at < length text) × (drop at text ≡ b ∷ drop (suc at) text) × (get_or text at 0 ≡ b)
begins-at b [] zero h = absurd (cc)
begins-at b [] (suc at) h = absurd (cc)
begins-at b (c ∷ cs) zero h = let same : c ≡ b = grind (arith, nat_tests, h) in (omega arith, ap (λ n. n ∷ cs) same, same)
begins-at b (c ∷ cs) (suc at) h = let rest = begins-at b cs at h in (omega (arith, rest.0), rest.1, rest.2)

label-none : (bs : List ℕ) → begins_with 91 bs ≡ false → label bs ≡ None
unfolding label
label-none [] h = refl
label-none (b ∷ bs) h = grind (arith, h)

label-inside : (bs : List ℕ) → label (91 ∷ bs) ≡ keep_if is_label (up_to_closing (λ c. c == 93) (λ c. c == 91) false bs)
unfolding label
label-inside bs = refl

-- no label where no bracket comes next
pub label-not_next : (text : List ℕ) (at : ℕ) (next : Bool) → next ≡ begins_with 91 (drop at text) → next ≡ false → None ≡ label (drop at text)
label-not_next text at next e h = sym (label-none (drop at text) (sym e ∙ h))

left_of : (a b : Bool) → (a && b) ≡ true → a ≡ true
left_of true b h = refl
left_of false b h = absurd (cc)

-- what is kept is what was read
kept-test : (kept : Bool) (s r : Reading) → Some r ≡ given kept s → (kept ≡ true) × (r ≡ s)
kept-test true s r h = (refl, grind (arith, h))
kept-test false s r h = absurd (cc)

kept-is : (test : Reading → Bool) (s r : Reading) → Some r ≡ keep_if test (Some s) → r ≡ s
kept-is test s r h = (kept-test (test s) s r h).1

kept-passes : (test : Reading → Bool) (s r : Reading) → Some r ≡ keep_if test (Some s) → test s ≡ true
kept-passes test s r h = (kept-test (test s) s r h).0

kept-label : (o : Option Reading) → keep_if (fits 999 true) o ≡ None → keep_if is_label o ≡ None
kept-label None h = refl
kept-label (Some r) h = grind (arith, h)

-- the label's cases, by what is between its brackets
label-at : (text : List ℕ) (at : ℕ) (next : Bool) → next ≡ begins_with 91 (drop at text) → next ≡ true
    → label (drop at text) ≡ keep_if is_label (up_to_closing (λ c. c == 93) (λ c. c == 91) false (drop (suc at) text))
label-at text at next e h = ap label (begins-at 91 text at (sym e ∙ h)).1 ∙ label-inside (drop (suc at) text)

pub label-absent : (text : List ℕ) (at : ℕ) (next : Bool) → next ≡ begins_with 91 (drop at text) → next ≡ true
    → None ≡ keep_if (fits 999 true) (up_to_closing (λ c. c == 93) (λ c. c == 91) false (drop (suc at) text)) → None ≡ label (drop at text)
label-absent text at next e h none = sym (label-at text at next e h ∙ kept-label (up_to_closing (λ c. c == 93) (λ c. c == 91) false (drop (suc at) text)) (sym none))

kept-blank : (o : Option Reading) (r : Reading) → Some r ≡ keep_if (fits 999 true) o → list_all is_blank_byte r.text ≡ true → None ≡ keep_if is_label o
kept-blank None r h b = absurd (cc)
kept-blank (Some s) r h b = let same : r ≡ s = kept-is (fits 999 true) s r h in
    let blank : list_all is_blank_byte s.text ≡ true = sym (ap (λ (t : Reading). list_all is_blank_byte t.text) same) ∙ b in grind (arith, blank)

kept-some : (o : Option Reading) (r : Reading) → Some r ≡ keep_if (fits 999 true) o → list_all is_blank_byte r.text ≡ false → Some r ≡ keep_if is_label o
kept-some None r h b = absurd (cc)
kept-some (Some s) r h b =
    let same : r ≡ s = kept-is (fits 999 true) s r h in
    let some : list_all is_blank_byte s.text ≡ false = sym (ap (λ (t : Reading). list_all is_blank_byte t.text) same) ∙ b in
    let few : nat_le (characters s.text) 999 ≡ true = left_of (nat_le (characters s.text) 999) true (kept-passes (fits 999 true) s r h) in
    let passes : is_label s ≡ true = rw (few, some) refl in
    ap Some same ∙ ap (λ v. given v s) (sym passes)

pub label-blank : (text : List ℕ) (at : ℕ) (next blank : Bool) (r : Reading) → next ≡ begins_with 91 (drop at text) → next ≡ true
    → Some r ≡ keep_if (fits 999 true) (up_to_closing (λ c. c == 93) (λ c. c == 91) false (drop (suc at) text)) → blank ≡ list_all is_blank_byte r.text → blank ≡ true
    → None ≡ label (drop at text)
label-blank text at next blank r e h some b t = kept-blank (up_to_closing (λ c. c == 93) (λ c. c == 91) false (drop (suc at) text)) r some (sym b ∙ t) ∙ sym (label-at text at next e h)

pub label-some : (text : List ℕ) (at : ℕ) (next blank : Bool) (r : Reading) → next ≡ begins_with 91 (drop at text) → next ≡ true
    → Some r ≡ keep_if (fits 999 true) (up_to_closing (λ c. c == 93) (λ c. c == 91) false (drop (suc at) text)) → blank ≡ list_all is_blank_byte r.text → blank ≡ false
    → Some r ≡ label (drop at text)
label-some text at next blank r e h some b t = kept-some (up_to_closing (λ c. c == 93) (λ c. c == 91) false (drop (suc at) text)) r some (sym b ∙ t) ∙ sym (label-at text at next e h)

-- the part between a byte and the one that ends it
pub enclosed-none : (F : List ℕ → Option Reading) (text copy : List ℕ) (at : ℕ) → copy ≡ text → None ≡ F (drop (at + 1) copy) → None ≡ F (drop (suc at) text)
enclosed-none F text copy at same none = none ∙ ap (λ t. F (drop (at + 1) t)) same ∙ (let first : at + 1 ≡ suc at = omega arith in ap (λ n. F (drop n text)) first)

pub enclosed-some : (F : List ℕ → Option Reading) (text copy inside : List ℕ) (at end : ℕ) → copy ≡ text → inside ≡ slice_range text (at + 1) end
    → Some (record { text = slice_range copy (at + 1) end; rest = drop (suc end) copy }) ≡ F (drop (at + 1) copy)
    → Some (record { text = inside; rest = drop (end + 1) text }) ≡ F (drop (suc at) text)
enclosed-some F text copy inside at end same i some =
    let read : Some (record { text = slice_range text (at + 1) end; rest = drop (suc end) text }) ≡ F (drop (at + 1) text)
    = subst (λ t. Some (record { text = slice_range t (at + 1) end; rest = drop (suc end) t }) ≡ F (drop (at + 1) t)) same some in
    let next : suc end ≡ end + 1 = omega arith in
    let first : at + 1 ≡ suc at = omega arith in
    ap (λ t. Some (record { text = t; rest = drop (end + 1) text })) i ∙ ap (λ n. Some (record { text = slice_range text (at + 1) end; rest = drop n text })) (sym next)
    ∙ read ∙ ap (λ n. F (drop n text)) first

-- a part between two places
pub part-at : (text part : List ℕ) (from to : ℕ) → part ≡ slice_range text from to → from ≤ to → IsCharBoundary text from → IsCharBoundary text to → IsAt text from part
part-at text part from to is low start end =
    let count : length (slice_range text from to) ≡ to - from = omega (arith, length-take (to - from) (drop from text), length-drop from text, end.0, low) in
    let place : from + length part ≡ to = omega (arith, ap length is, count, low) in
    record { start = start; end = subst (IsCharBoundary text) (sym place) end; is = ap (slice_range text from) place ∙ sym is }
