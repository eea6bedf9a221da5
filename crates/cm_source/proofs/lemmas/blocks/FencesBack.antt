-- Spelled code blocks are read as they were: no line of the text closes the fence.
use Rattle.std.proofs.Common.{◌≡◌, ℕ, zero, suc, ◌+◌, ◌<◌, ◌≤◌, ◌==◌, ◌&&◌, ◌||◌, not, Bool, true, false, List, [], ◌∷◌, ◌++◌, length, replicate, refl, sym, ◌∙◌, ap, subst, arith, Some, None, append_assoc, append-nil, le_refl, if◌then◌else◌}
use Rattle.std.proofs.lemmas.Bool.{le-leb, lt-leb, and_parts, and_from, or_parts, not-true}
use Rattle.std.proofs.Math.Bool.{and-false}
use Rattle.std.specs.Prelude.{max, nat_le}
use Rattle.std.specs.List.{flat_map, list_all, list_any}
use Rattle.cm_text.specs.Rules.{Rules}
use Rattle.cm_text.specs.Lines.{LineView, with_line_feed}
use Rattle.cm_text.specs.Indentation.{indent_of, strip_from}
use Rattle.cm_scan.specs.Words.{is_space_or_tab, is_blank_text, is_empty, skip, trim_start, trim, run_length, after_run, given}
use Rattle.cm_scan.specs.spans.Autolinks.{ends_with}
use Rattle.cm_scan.specs.blocks.LineForms.{atx_heading, underline, backticks_or, opening_fence, fence_of, Fence, is_closing_fence}
use Rattle.cm_scan.specs.blocks.Starts.{OpeningFence, start_of_content, can_interrupt, interrupts_paragraph}
use Rattle.cm_scan.specs.blocks.Parts.{info_of, code, Parts, leaf}
use Rattle.cm_scan.specs.blocks.Blocks.{Taken, taken, closes_fence, fenced, parts_of}
use Rattle.cm_scan.specs.laws.BlockLaws.{is_unindented, none_closes, text_without}
use Rattle.cm_scan.proofs.lemmas.blocks.PartsByCases.{fence_case}
use Rattle.cm_scan.proofs.lemmas.blocks.SingleBlocks.{unindented_line, fenced_up_to_its_end}
use Rattle.cm_source.specs.Texts.{longest_run, spelled_text}
use Rattle.cm_source.specs.Spelling.{in_front, ended_lines, fence_around, code_lines}
use Rattle.cm_source.specs.InlineRefusals.{has_nul}
use Rattle.cm_source.specs.Refusals.{is_code_text}
use Rattle.cm_source.specs.steps.Sources.{is_clean, is_one_line, IsInfoSource}
use Rattle.cm_source.proofs.lemmas.refusals.HtmlAlone.{ended-whole}
use Rattle.cm_source.proofs.lemmas.blocks.SequenceLines.{at, Have, no_lines, a_line, have-split}
use Rattle.cm_source.proofs.lemmas.blocks.SequenceFits.{Inner, Interrupts, LeafFits}
use Rattle.cm_source.proofs.lemmas.blocks.LeavesBack.{clean-front, inside-line, is_inside_line}
use Rattle.cm_source.proofs.lemmas.spelling.SpelledTexts.{run-within, longest-at-least}
use Rattle.cm_source.proofs.lemmas.shared.AllPass.{all-both, all-times}

-- runs of backticks

blank-no-tick : (b : ℕ) → is_space_or_tab b ≡ true → (b == 96) ≡ false
blank-no-tick b h = grind (arith, h)

trimmed-within : (t : List ℕ) → run_length 96 (trim_start t) ≤ longest_run 0 t
unfolding run_length longest_run skip
trimmed-within [] = omega arith
trimmed-within (b ∷ t) = go (is_space_or_tab b) refl (trimmed-within t)
  where
    go : (v : Bool) → is_space_or_tab b ≡ v → run_length 96 (trim_start t) ≤ longest_run 0 t → run_length 96 (elim v as (λ _. List ℕ) [ true ↦ trim_start t | false ↦ b ∷ t ]) ≤ longest_run 0 (b ∷ t)
    go true h l =
        let k : longest_run 0 (b ∷ t) ≡ max 0 (longest_run 0 t) = ap (λ (v : Bool). if v then longest_run 1 t else max 0 (longest_run 0 t)) (blank-no-tick b h) in
        omega (arith, k, l)
    go false h m = let l : 0 + run_length 96 (b ∷ t) ≤ longest_run 0 (b ∷ t) = run-within 0 (b ∷ t) in omega (arith, l)

data AllWithin (m : ℕ) : List (List ℕ) → Type 0 where
  none_within : AllWithin m []
  line_within : {t : List ℕ} {ts : List (List ℕ)} → longest_run 0 t ≤ m → AllWithin m ts → AllWithin m (t ∷ ts)

-- the given number of backticks are before the first line
data Within (n m : ℕ) : List (List ℕ) → Type 0 where
  nothing_within : Within n m []
  first_within : {t : List ℕ} {ts : List (List ℕ)} → longest_run n t ≤ m → AllWithin m ts → Within n m (t ∷ ts)

all-more : {m k : ℕ} {ts : List (List ℕ)} → m ≤ k → AllWithin m ts → AllWithin k ts
all-more h none_within = none_within
all-more {m = m} {k = k} h (line_within {t = t} l a) = line_within (let goal : longest_run 0 t ≤ k = omega (arith, h, l) in goal) (all-more h a)

as-all : {m : ℕ} {ts : List (List ℕ)} → Within 0 m ts → AllWithin m ts
as-all nothing_within = none_within
as-all (first_within l a) = line_within l a

tick-front : (n m : ℕ) (ts : List (List ℕ)) → suc n ≤ m → Within (suc n) m ts → Within n m (in_front 96 ts)
unfolding longest_run
tick-front n m [] h w = first_within h none_within
tick-front n m (t ∷ ts) h (first_within l a) = first_within l a

other-front : (b n m : ℕ) (ts : List (List ℕ)) → (b == 96) ≡ false → Within 0 m ts → Within n (max n m) (in_front b ts)
unfolding longest_run
other-front b n m [] h w = first_within (let e : longest_run n (b ∷ []) ≡ max n 0 = ap (λ (v : Bool). if v then suc n else max n 0) h in let goal : longest_run n (b ∷ []) ≤ max n m = omega (arith, e) in goal) none_within
other-front b n m (t ∷ ts) h (first_within l a) =
    first_within (let e : longest_run n (b ∷ t) ≡ max n (longest_run 0 t) = ap (λ (v : Bool). if v then longest_run (suc n) t else max n (longest_run 0 t)) h in let goal : longest_run n (b ∷ t) ≤ max n m = omega (arith, e, l) in goal)
    (all-more (let goal : m ≤ max n m = omega arith in goal) a)

lines-within : (n : ℕ) (text : List ℕ) → Within n (longest_run n text) (ended_lines text)
unfolding longest_run ended_lines
lines-within n [] = nothing_within
lines-within n (b ∷ bs) = go (b == 10) (b == 96) refl refl (lines-within 0 bs) (lines-within (suc n) bs)
  where
    go : (v w : Bool) → (b == 10) ≡ v → (b == 96) ≡ w → Within 0 (longest_run 0 bs) (ended_lines bs) → Within (suc n) (longest_run (suc n) bs) (ended_lines bs)
        → Within n (if w then longest_run (suc n) bs else max n (longest_run 0 bs)) (if v then [] ∷ ended_lines bs else in_front b (ended_lines bs))
    go true true h k x y = absurd (both b h k)
      where
        both : (b : ℕ) → (b == 10) ≡ true → (b == 96) ≡ true → ⊥
        both b h k = grind (arith, h, k)
    go true false h k x y = first_within (let goal : n ≤ max n (longest_run 0 bs) = omega arith in goal) (all-more (let goal : longest_run 0 bs ≤ max n (longest_run 0 bs) = omega arith in goal) (as-all x))
    go false true h k x y =
        let tick : b ≡ 96 = grind (arith, k) in
        subst (λ c. Within n (longest_run (suc n) bs) (in_front c (ended_lines bs))) (sym tick) (tick-front n (longest_run (suc n) bs) (ended_lines bs) (longest-at-least (suc n) bs) y)
    go false false h k x y = other-front b n (longest_run 0 bs) (ended_lines bs) k x

-- a fence of the given number of backticks

run-fence : (k : ℕ) (info : List ℕ) → list_any (λ b. b == 96) info ≡ false → run_length 96 (replicate k 96 ++ info) ≡ k
unfolding run_length
run-fence (suc k) info h = ap suc (run-fence k info h)
run-fence zero [] h = refl
run-fence zero (b ∷ info) h = ap (λ (v : Bool). elim v as (λ _. ℕ) [ true ↦ suc (run_length 96 info) | false ↦ 0 ]) (or_parts (b == 96) (list_any (λ b. b == 96) info) h).0

after-fence : (k : ℕ) (info : List ℕ) → list_any (λ b. b == 96) info ≡ false → after_run 96 (replicate k 96 ++ info) ≡ info
unfolding after_run
after-fence (suc k) info h = after-fence k info h
after-fence zero [] h = refl
after-fence zero (b ∷ info) h = ap (λ (v : Bool). elim v as (λ _. List ℕ) [ true ↦ after_run 96 info | false ↦ b ∷ info ]) (or_parts (b == 96) (list_any (λ b. b == 96) info) h).0

abbrev fence_with : ℕ → List ℕ → Fence
fence_with k info = record { marker = 96; count = k; info = info }

opening-reads : (k : ℕ) (info : List ℕ) → 3 ≤ k → trim info ≡ info → list_any (λ b. b == 96) info ≡ false → opening_fence (replicate k 96 ++ info) ≡ Some (fence_with k info)
unfolding opening_fence fence_of
opening-reads k info three t h =
    let text = replicate k 96 ++ info in
    ap (λ n. backticks_or (given (nat_le 3 n) (record { marker = 96; count = n; info = trim (after_run 96 text) })) (fence_of 126 text)) (run-fence k info h)
    ∙ ap (λ v. backticks_or (given v (record { marker = 96; count = k; info = trim (after_run 96 text) })) (fence_of 126 text)) (le-leb 3 k three)
    ∙ ap (λ i. backticks_or (Some (record { marker = 96; count = k; info = trim i })) (fence_of 126 text)) (after-fence k info h)
    ∙ ap (λ i. backticks_or (Some (record { marker = 96; count = k; info = i })) (fence_of 126 text)) t
    ∙ ap (λ v. given (not v) (fence_with k info)) h

fence-first : (k : ℕ) (info : List ℕ) → 3 ≤ k → (rest : List ℕ) × (replicate k 96 ++ info ≡ 96 ∷ rest)
fence-first zero info h = absurd (let goal : ⊥ = omega (arith, h) in goal)
fence-first (suc k) info h = (replicate k 96 ++ info, refl)

fence-bare : (k : ℕ) (info : List ℕ) → 3 ≤ k → is_unindented (replicate k 96 ++ info) ≡ true
fence-bare k info three = let (rest, e) = fence-first k info three in ap is_unindented e

tick-no_underline : (rest : List ℕ) → underline (96 ∷ rest) ≡ None
unfolding underline run_length after_run
tick-no_underline rest = refl

-- the lines of the text

stays-fenced : (k c : ℕ) (info t : List ℕ) → longest_run 0 t < k → closes_fence (fence_with k info) (at c t) ≡ false
unfolding is_closing_fence
stays-fenced k c info t h =
    let l : run_length 96 (trim_start t) ≤ longest_run 0 t = trimmed-within t in
    let less : run_length 96 (trim_start t) < k = omega (arith, h, l) in
    ap (λ v. nat_le (indent_of (at c t)) 3 && (v && is_blank_text (after_run 96 (trim_start t)))) (lt-leb k (run_length 96 (trim_start t)) less)
    ∙ and-false (nat_le (indent_of (at c t)) 3)

none-close : (k m : ℕ) (info : List ℕ) → m < k → {ls : List LineView} {ts : List (List ℕ)} → Have ls ts → AllWithin m ts → none_closes (fence_with k info) ls ≡ true
none-close k m info h no_lines w = refl
none-close k m info h (a_line {c = c} {t = t} {ls = ls} have) (line_within l w) =
    ap (λ v. not v && none_closes (fence_with k info) ls) (stays-fenced k c info t (let goal : longest_run 0 t < k = omega (arith, l, h) in goal)) ∙ none-close k m info h have w

strip-none : (c : ℕ) (t : List ℕ) → strip_from 0 c t ≡ (c, t)
strip-none c [] = refl
strip-none c (b ∷ t) = refl

text-of-lines : {ls : List LineView} {ts : List (List ℕ)} → Have ls ts → text_without 0 ls ≡ flat_map with_line_feed ts
text-of-lines no_lines = refl
text-of-lines (a_line {c = c} {t = t} {ls = ls} have) = ap (λ (p : ℕ × List ℕ). with_line_feed p.1 ++ text_without 0 ls) (strip-none c t) ∙ ap (λ l. with_line_feed t ++ l) (text-of-lines have)

pub length-of-lines : {ls : List LineView} {ts : List (List ℕ)} → Have ls ts → length ls ≡ length ts
length-of-lines no_lines = refl
length-of-lines (a_line have) = ap suc (length-of-lines have)

have-one : {ls : List LineView} {t : List ℕ} → Have ls (t ∷ []) → (c : ℕ) × (ls ≡ at c t ∷ [])
have-one (a_line {c = c} no_lines) = (c, refl)

-- no byte of them is a line ending or U+0000

pub ended-clean : (s : List ℕ) → is_clean s ≡ true → list_all is_one_line (ended_lines s) ≡ true
unfolding ended_lines
ended-clean [] h = refl
ended-clean (b ∷ bs) h = let (first, more) = and_parts (not (b == 0) && not (b == 13)) (is_clean bs) h in go (b == 10) refl first (ended-clean bs more)
  where
    go : (v : Bool) → (b == 10) ≡ v → (not (b == 0) && not (b == 13)) ≡ true → list_all is_one_line (ended_lines bs) ≡ true
        → list_all is_one_line (if v then [] ∷ ended_lines bs else in_front b (ended_lines bs)) ≡ true
    go true e first more = more
    go false e first more = clean-front b (ended_lines bs) (inside-line b first e) more

pub clean-of : (s : List ℕ) → has_nul s ≡ false → list_any (λ b. b == 13) s ≡ false → is_clean s ≡ true
clean-of [] h k = refl
clean-of (b ∷ bs) h k =
    let (zero_not, more) = or_parts (b == 0) (has_nul bs) h in
    let (return_not, others) = or_parts (b == 13) (list_any (λ b. b == 13) bs) k in
    ap (λ v. (not v && not (b == 13)) && is_clean bs) zero_not ∙ ap (λ v. not v && is_clean bs) return_not ∙ clean-of bs more others

module _ (rules : Rules) where
  tick-start : (f : Fence) (rest : List ℕ) → opening_fence (96 ∷ rest) ≡ Some f → start_of_content rules (96 ∷ rest) ≡ OpeningFence f
  unfolding start_of_content atx_heading run_length after_run
  tick-start f rest e = rw e refl

  fence-start : (k : ℕ) (info : List ℕ) → 3 ≤ k → trim info ≡ info → list_any (λ b. b == 96) info ≡ false → start_of_content rules (replicate k 96 ++ info) ≡ OpeningFence (fence_with k info)
  fence-start k info three t h =
      let (rest, e) = fence-first k info three in
      ap (start_of_content rules) e ∙ tick-start (fence_with k info) rest (ap opening_fence (sym e) ∙ opening-reads k info three t h)

  closes-here : (k c : ℕ) (info : List ℕ) → 3 ≤ k → closes_fence (fence_with k info) (at c (replicate k 96 ++ [])) ≡ true
  unfolding is_closing_fence
  closes-here k c info three =
      let reads = unindented_line rules (at c (replicate k 96 ++ [])) refl (fence-bare k [] three) in
      ap (λ n. nat_le n 3 && is_closing_fence (fence_with k info) (trim_start (replicate k 96 ++ []))) reads.no_columns
      ∙ ap (is_closing_fence (fence_with k info)) reads.content
      ∙ ap (λ n. nat_le k n && is_blank_text (after_run 96 (replicate k 96 ++ []))) (run-fence k [] refl)
      ∙ ap (λ v. v && is_blank_text (after_run 96 (replicate k 96 ++ []))) (le-leb k k (le_refl k))
      ∙ ap is_blank_text (after-fence k [] refl)

  module _ (word text : List ℕ) (h : IsInfoSource (spelled_text true true word)) (same : info_of rules (spelled_text true true word) ≡ word) (has_text : is_code_text text ≡ true) where
    abbrev info : List ℕ
    info = spelled_text true true word

    abbrev k : ℕ
    k = max 3 (suc (longest_run 0 text))

    three : 3 ≤ k
    three = omega arith

    code-back : (ls rest : List LineView) → Have ls (code_lines word text) → parts_of rules (ls ++ rest) ≡ leaf (code word text) (suc (1 + length (ended_lines text))) (parts_of rules rest)
    code-back ls rest (a_line {c = c} {ls = further} have) =
        let less : longest_run 0 text < k = omega arith in
        let (own, last, parted, mine, its) = have-split (ended_lines text) (replicate k 96 ∷ []) further have in
        let (d, one) = have-one its in
        let open_line = at c (replicate k 96 ++ info) in
        let close_line = at d (replicate k 96 ++ []) in
        let all : further ++ rest ≡ own ++ close_line ∷ rest
        = ap (λ l. l ++ rest) (parted ∙ ap (λ l. own ++ l) one) ∙ append_assoc own (at d (replicate k 96) ∷ []) rest ∙ ap (λ t. own ++ at d t ∷ rest) (sym (append-nil (replicate k 96))) in
        let inside : fenced (fence_with k info) 0 [] 1 (further ++ rest) ≡ taken (text_without 0 own) (suc (1 + length own)) rest
        = ap (fenced (fence_with k info) 0 [] 1) all
        ∙ fenced_up_to_its_end (fence_with k info) 0 1 [] own rest close_line (none-close k (longest_run 0 text) info less mine (as-all (lines-within 0 text))) (closes-here k d info three) in
        let reads = unindented_line rules open_line refl (fence-bare k info three) in
        fence_case rules (fence_with k info) open_line (further ++ rest) (reads.not_blank, reads.start ∙ fence-start k info three h.trimmed h.no_backtick)
        ∙ ap (λ i. by_taken (fenced (fence_with k info) i [] 1 (further ++ rest))) reads.no_columns
        ∙ ap by_taken inside
        ∙ ap (λ i. leaf (code i (text_without 0 own)) (suc (1 + length own)) (parts_of rules rest)) same
        ∙ ap (λ t. leaf (code word t) (suc (1 + length own)) (parts_of rules rest)) (text-of-lines mine ∙ ended-whole text (and_parts (is_empty text || ends_with 10 text) (not (list_any (λ b. b == 13) text)) has_text).0)
        ∙ ap (λ n. leaf (code word text) (suc (1 + n)) (parts_of rules rest)) (length-of-lines mine)
      where
        by_taken : Taken → Parts
        by_taken t = leaf (code (info_of rules info) t.text) t.lines (parts_of rules t.following)

    code-inner : Inner (code_lines word text)
    code-inner =
        let (rest, e) = fence-first k info three in
        record {
          first = record { line = 96 ∷ rest; further = ended_lines text ++ (fence_around text ∷ []); lines = ap (λ l. l ∷ ended_lines text ++ (fence_around text ∷ [])) e; bare = refl };
          no_dashes = refl;
          no_stars = refl;
        }

    code-interrupts : Interrupts rules (code_lines word text)
    unfolding interrupts_paragraph
    code-interrupts =
        let (rest, e) = fence-first k info three in
        let bare = fence-bare k info three in
        record {
          first = record { line = replicate k 96 ++ info; further = ended_lines text ++ (fence_around text ∷ []); lines = refl; bare = bare };
          interrupts = λ c. ap (λ s. can_interrupt s (at c (replicate k 96 ++ info))) ((unindented_line rules (at c (replicate k 96 ++ info)) refl bare).start ∙ fence-start k info three h.trimmed h.no_backtick);
          no_underline = ap underline e ∙ tick-no_underline rest;
        }

    code-clean : has_nul text ≡ false → list_all is_one_line (code_lines word text) ≡ true
    code-clean none =
        let fence = all-times is_inside_line k 96 refl in
        let clear = not-true (list_any (λ b. b == 13) text) (and_parts (is_empty text || ends_with 10 text) (not (list_any (λ b. b == 13) text)) has_text).1 in
        all-both is_one_line ((replicate k 96 ++ info) ∷ ended_lines text) (replicate k 96 ∷ [])
        (and_from (is_one_line (replicate k 96 ++ info)) (list_all is_one_line (ended_lines text)) (all-both is_inside_line (replicate k 96) info fence h.clean) (ended-clean text (clean-of text none clear)))
        (ap (λ v. v && true) fence)

    pub code-fits : has_nul text ≡ false → LeafFits rules (record { part = code word text; lines = code_lines word text })
    code-fits none = record {
      inner = code-inner;
      back = λ ls rest have follows. code-back ls rest have;
      interrupts = λ v. code-interrupts;
      clean = code-clean none;
    }
