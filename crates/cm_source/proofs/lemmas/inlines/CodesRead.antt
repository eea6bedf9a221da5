-- A spelled code span is read as it is.
use Rattle.std.proofs.Common.{◌≡◌, ℕ, zero, suc, ◌+◌, ◌<◌, ◌≤◌, max, Bool, true, false, cond, not, ◌&&◌, ◌||◌, ◌==◌, List, [], ◌∷◌, ◌++◌, replicate, drop, Option, Some, None, refl, sym, ap, subst, ◌∙◌, arith, le_refl, append_assoc}
use Rattle.std.specs.List.{list_all}
use Rattle.std.proofs.lemmas.Bool.{and_parts, and_right, or_parts, cond-true, cond-false, eqb-true, eq-eqb, ne_eqb, false≢true}
use Rattle.cm_text.specs.Rules.{Rules}
use Rattle.cm_tree.specs.declared.tree.Inline.TheVariants.{Code}
use Rattle.cm_scan.specs.Words.{is_empty, begins_with, run_length, after_run}
use Rattle.cm_scan.specs.inlines.Links.{Reading, beyond}
use Rattle.cm_scan.specs.spans.Autolinks.{ends_with}
use Rattle.cm_scan.specs.spans.CodeSpans.{up_to_run, one_line, but_last, stripped, code_span, span_content}
use Rattle.cm_scan.specs.inlines.Atoms.{AtomRead, Plain, Whole, read, or_byte, backtick_atom, markup_atom, atom_at}
use Rattle.cm_scan.specs.steps.SpanSteps.{spanned}
use Rattle.cm_source.specs.Texts.{longest_run, is_padded, spelled_code}
use Rattle.cm_source.specs.InlineRefusals.{has_line_ending}
use Rattle.cm_source.proofs.lemmas.inlines.BytesRead.{atom_left, reading, run_none}
use Rattle.cm_source.proofs.lemmas.spelling.SpelledTexts.{run-within}

-- ---- the run at the front

run_of_marks : (n : ℕ) (rest : List ℕ) → run_length 96 (replicate n 96 ++ rest) ≡ n + run_length 96 rest
unfolding run_length
run_of_marks zero rest = omega arith
run_of_marks (suc n) rest = omega (arith, run_of_marks n rest)

after_marks : (n : ℕ) (rest : List ℕ) → begins_with 96 rest ≡ false → after_run 96 (replicate n 96 ++ rest) ≡ rest
unfolding after_run
after_marks zero rest e = (run_none 96 rest e).1
after_marks (suc n) rest e = after_marks n rest e

marks_alone : (n : ℕ) (rest : List ℕ) → begins_with 96 rest ≡ false → run_length 96 (replicate n 96 ++ rest) ≡ n
marks_alone n rest e = omega (arith, run_of_marks n rest, (run_none 96 rest e).0)

-- ---- runs inside a text

-- a backtick is right before what follows the text, where the mark says whether one is before the text
ends_in_run : (in_run : Bool) → List ℕ → Bool
ends_in_run in_run [] = in_run
ends_in_run in_run (b ∷ bs) = ends_in_run (b == 96) bs

ends_as : (b : ℕ) (bs : List ℕ) → ends_in_run (b == 96) bs ≡ ends_with 96 (b ∷ bs)
unfolding ends_in_run ends_with
ends_as b [] = refl
ends_as b (c ∷ cs) = ends_as c cs

run_within : (text rest : List ℕ) → ends_in_run true text ≡ false → run_length 96 (text ++ rest) ≡ run_length 96 text
unfolding run_length ends_in_run
run_within [] rest e = absurd (false≢true (sym e))
run_within (b ∷ bs) rest e = go (b == 96) e (λ h. run_within bs rest h)
  where
    go : (t : Bool) → ends_in_run t bs ≡ false → (ends_in_run true bs ≡ false → run_length 96 (bs ++ rest) ≡ run_length 96 bs)
        → elim t as (λ _. ℕ) [ true ↦ suc (run_length 96 (bs ++ rest)) | false ↦ 0 ] ≡ elim t as (λ _. ℕ) [ true ↦ suc (run_length 96 bs) | false ↦ 0 ]
    go true e further = ap suc (further e)
    go false e further = refl

longer_before : (before : ℕ) (text : List ℕ) → longest_run before text ≤ longest_run (suc before) text
unfolding longest_run
longer_before before [] = omega arith
longer_before before (b ∷ bs) = go (b == 96) (longer_before (suc before) bs)
  where
    go : (t : Bool) → longest_run (suc before) bs ≤ longest_run (suc (suc before)) bs
        → cond t (longest_run (suc before) bs) (max before (longest_run 0 bs)) ≤ cond t (longest_run (suc (suc before)) bs) (max (suc before) (longest_run 0 bs))
    go true h = h
    go false h = omega arith

longest_of_rest : (b n : ℕ) (bs : List ℕ) → longest_run 0 (b ∷ bs) ≤ n → longest_run 0 bs ≤ n
unfolding longest_run
longest_of_rest b n bs h = go (b == 96) h
  where
    go : (t : Bool) → cond t (longest_run 1 bs) (max 0 (longest_run 0 bs)) ≤ n → longest_run 0 bs ≤ n
    go true h = omega (arith, h, longer_before 0 bs)
    go false h = omega (arith, h)

-- ---- up to the second run

shorter_run : (m n : ℕ) → m < n → (m == n) ≡ false
shorter_run m n h = ne_eqb m n (λ e. absurd (omega (arith, h, e)))

up_to_marks : (n : ℕ) (rest : List ℕ) → begins_with 96 rest ≡ false → (text : List ℕ) (in_run : Bool) → ends_in_run in_run text ≡ false → longest_run 0 text ≤ n
    → up_to_run (suc n) in_run (text ++ (replicate (suc n) 96 ++ rest)) ≡ Some (reading text rest)
unfolding up_to_run ends_in_run
up_to_marks n rest r [] true e l = absurd (false≢true (sym e))
up_to_marks n rest r [] false e l =
    ap (λ t. elim t as (λ _. Option Reading) [ true ↦ Some (reading [] (after_run 96 (replicate (suc n) 96 ++ rest))) | false ↦ beyond 96 (up_to_run (suc n) true (replicate n 96 ++ rest)) ])
    (eq-eqb (run_length 96 (replicate (suc n) 96 ++ rest)) (suc n) (marks_alone (suc n) rest r))
    ∙ ap (λ t. Some (reading [] t)) (after_marks (suc n) rest r)
up_to_marks n rest r (b ∷ bs) in_run e l =
    ap (λ t. elim t as (λ _. Option Reading) [ true ↦ Some (reading [] (after_run 96 ((b ∷ bs) ++ marks))) | false ↦ beyond b (up_to_run (suc n) (b == 96) (bs ++ marks)) ]) (goes_on (b == 96) in_run refl e)
    ∙ ap (beyond b) (up_to_marks n rest r bs (b == 96) e (longest_of_rest b n bs l))
  where
    marks : List ℕ
    marks = replicate (suc n) 96 ++ rest

    goes_on : (tick within : Bool) → (b == 96) ≡ tick → ends_in_run (b == 96) bs ≡ false → (tick && not within && (run_length 96 ((b ∷ bs) ++ marks) == suc n)) ≡ false
    goes_on false within f e = refl
    goes_on true true f e = refl
    goes_on true false f e =
        let same : run_length 96 ((b ∷ bs) ++ marks) ≡ run_length 96 (b ∷ bs) = run_within (b ∷ bs) marks e in
        shorter_run (run_length 96 ((b ∷ bs) ++ marks)) (suc n) (omega (arith, same, run-within 0 (b ∷ bs), l))

-- between two runs of more backticks than any run inside
span_read : (n : ℕ) (text rest : List ℕ) → begins_with 96 rest ≡ false → begins_with 96 (text ++ (replicate (suc n) 96 ++ rest)) ≡ false → ends_in_run false text ≡ false → longest_run 0 text ≤ n
    → code_span (replicate (suc n) 96 ++ (text ++ (replicate (suc n) 96 ++ rest))) ≡ Some (reading (stripped (one_line text)) rest)
unfolding code_span
span_read n text rest r b e l =
    ap (λ k. spanned k (after_run 96 (replicate (suc n) 96 ++ inside))) (marks_alone (suc n) inside b)
    ∙ ap (spanned (suc n)) (after_marks (suc n) inside b)
    ∙ ap span_content (up_to_marks n rest r text false e l)
  where
    inside : List ℕ
    inside = text ++ (replicate (suc n) 96 ++ rest)

-- ---- the content

one_line_already : (text : List ℕ) → has_line_ending text ≡ false → one_line text ≡ text
one_line_already [] h = refl
one_line_already (b ∷ bs) h =
    let parts = or_parts (b == 10 || b == 13) (has_line_ending bs) h in
    ap (λ t. cond t 32 b ∷ one_line bs) (or_parts (b == 10) (b == 13) parts.0).0 ∙ ap (λ t. b ∷ t) (one_line_already bs parts.1)

no_ending_pushed : (text : List ℕ) → has_line_ending text ≡ false → has_line_ending (text ++ 32 ∷ []) ≡ false
no_ending_pushed [] h = refl
no_ending_pushed (b ∷ bs) h =
    let parts = or_parts (b == 10 || b == 13) (has_line_ending bs) h in
    ap (λ t. t || has_line_ending (bs ++ 32 ∷ [])) parts.0 ∙ no_ending_pushed bs parts.1

space_ends_run : (in_run : Bool) (text : List ℕ) → ends_in_run in_run (text ++ 32 ∷ []) ≡ false
unfolding ends_in_run
space_ends_run in_run [] = refl
space_ends_run in_run (b ∷ bs) = space_ends_run (b == 96) bs

ends_with_space : (text : List ℕ) → ends_with 32 (text ++ 32 ∷ []) ≡ true
unfolding ends_with
ends_with_space [] = refl
ends_with_space (b ∷ []) = refl
ends_with_space (b ∷ c ∷ cs) = ends_with_space (c ∷ cs)

longest_with_space : (before : ℕ) (text : List ℕ) → longest_run before (text ++ 32 ∷ []) ≡ longest_run before text
unfolding longest_run
longest_with_space before [] = omega arith
longest_with_space before (b ∷ bs) = go (b == 96) (longest_with_space (suc before) bs) (longest_with_space 0 bs)
  where
    go : (t : Bool) → longest_run (suc before) (bs ++ 32 ∷ []) ≡ longest_run (suc before) bs → longest_run 0 (bs ++ 32 ∷ []) ≡ longest_run 0 bs
        → cond t (longest_run (suc before) (bs ++ 32 ∷ [])) (max before (longest_run 0 (bs ++ 32 ∷ []))) ≡ cond t (longest_run (suc before) bs) (max before (longest_run 0 bs))
    go true h k = h
    go false h k = ap (max before) k

longest_padded : (text : List ℕ) → longest_run 0 (32 ∷ (text ++ 32 ∷ [])) ≤ longest_run 0 text
unfolding longest_run
longest_padded text = omega (arith, longest_with_space 0 text)

abbrev are_spaces : List ℕ → Bool
are_spaces text = list_all (λ b. b == 32) text

spaces_pushed : (text : List ℕ) → are_spaces text ≡ false → are_spaces (text ++ 32 ∷ []) ≡ false
spaces_pushed [] e = absurd (false≢true (sym e))
spaces_pushed (b ∷ bs) e = go (b == 32) e (λ h. spaces_pushed bs h)
  where
    go : (t : Bool) → (t && are_spaces bs) ≡ false → (are_spaces bs ≡ false → are_spaces (bs ++ 32 ∷ []) ≡ false) → (t && are_spaces (bs ++ 32 ∷ [])) ≡ false
    go true e further = further e
    go false e further = refl

but_last_pushed : (text : List ℕ) → but_last (text ++ 32 ∷ []) ≡ text
unfolding but_last
but_last_pushed [] = refl
but_last_pushed (b ∷ []) = refl
but_last_pushed (b ∷ c ∷ cs) = ap (λ t. b ∷ t) (but_last_pushed (c ∷ cs))

spaces_end_no_run : (in_run : Bool) (text : List ℕ) → is_empty text ≡ false → are_spaces text ≡ true → ends_in_run in_run text ≡ false
unfolding ends_in_run
spaces_end_no_run in_run [] e h = absurd (false≢true (sym e))
spaces_end_no_run in_run (b ∷ []) e h = subst (λ c. (c == 96) ≡ false) (sym (eqb-true b 32 (and_parts (b == 32) true h).0)) refl
spaces_end_no_run in_run (b ∷ c ∷ cs) e h = spaces_end_no_run (b == 96) (c ∷ cs) refl (and_parts (b == 32) (are_spaces (c ∷ cs)) h).1

tick_no_space : (text : List ℕ) → begins_with 96 text ≡ true → are_spaces text ≡ false
tick_no_space [] e = absurd (false≢true e)
tick_no_space (b ∷ bs) e = subst (λ c. ((c == 32) && are_spaces bs) ≡ false) (sym (eqb-true b 96 e)) refl

ends_nonempty : (text : List ℕ) → is_empty text ≡ false → ends_in_run false text ≡ ends_with 96 text
unfolding ends_in_run
ends_nonempty [] e = absurd (false≢true (sym e))
ends_nonempty (b ∷ bs) e = ends_as b bs

-- a text of spaces isn't padded
padded_no_spaces : (text : List ℕ) → is_empty text ≡ false → is_padded text ≡ true → are_spaces text ≡ false
padded_no_spaces text e p = go (begins_with 96 text) (ends_with 96 text) (are_spaces text) refl refl refl p
  where
    go : (a b all : Bool) → begins_with 96 text ≡ a → ends_with 96 text ≡ b → are_spaces text ≡ all → (a || b || begins_with 32 text && ends_with 32 text && not all) ≡ true → all ≡ false
    go a b false f g h k = refl
    go true b true f g h k = sym h ∙ tick_no_space text f
    go false true true f g h k = absurd (false≢true (sym (sym (ends_nonempty text e) ∙ spaces_end_no_run false text e h) ∙ g))
    go false false true f g h k = absurd (false≢true (sym (and_right (begins_with 32 text && ends_with 32 text) false refl) ∙ k))

padded_stripped : (text : List ℕ) → are_spaces text ≡ false → stripped (32 ∷ (text ++ 32 ∷ [])) ≡ text
unfolding stripped
padded_stripped text e =
    cond-true (true && ends_with 32 (32 ∷ (text ++ 32 ∷ [])) && not (are_spaces (32 ∷ (text ++ 32 ∷ [])))) (but_last (text ++ 32 ∷ [])) (32 ∷ (text ++ 32 ∷ []))
    (ap (λ t. true && t && not (are_spaces (text ++ 32 ∷ []))) (ends_with_space (32 ∷ text)) ∙ ap (λ t. true && true && not t) (spaces_pushed text e))
    ∙ but_last_pushed text

begins_nonempty : (b : ℕ) (text rest : List ℕ) → is_empty text ≡ false → begins_with b text ≡ false → begins_with b (text ++ rest) ≡ false
begins_nonempty b [] rest e h = absurd (false≢true (sym e))
begins_nonempty b (c ∷ cs) rest e h = h

code_read : (text rest : List ℕ) → is_empty text ≡ false → has_line_ending text ≡ false → begins_with 96 rest ≡ false → code_span (spelled_code text ++ rest) ≡ Some (reading text rest)
unfolding spelled_code stripped
code_read text rest some line r = go (is_padded text) refl
  where
    marks : List ℕ
    marks = replicate (suc (longest_run 0 text)) 96

    padded : List ℕ
    padded = 32 ∷ (text ++ 32 ∷ [])

    go : (t : Bool) → is_padded text ≡ t → code_span ((marks ++ cond t (32 ∷ []) [] ++ text ++ cond t (32 ∷ []) [] ++ marks) ++ rest) ≡ Some (reading text rest)
    go true p =
        ap code_span (simp append_assoc)
        ∙ span_read (longest_run 0 text) padded rest r refl (space_ends_run false (32 ∷ text)) (longest_padded text)
        ∙ ap (λ t. Some (reading (stripped t) rest)) (one_line_already padded (no_ending_pushed text line))
        ∙ ap (λ t. Some (reading t rest)) (padded_stripped text (padded_no_spaces text some p))
    go false p =
        let outer = or_parts (begins_with 96 text || ends_with 96 text) (begins_with 32 text && ends_with 32 text && not (are_spaces text)) p in
        let ticks = or_parts (begins_with 96 text) (ends_with 96 text) outer.0 in
        ap code_span (simp append_assoc)
        ∙ span_read (longest_run 0 text) text rest r (begins_nonempty 96 text (marks ++ rest) some ticks.0) (ends_nonempty text some ∙ ticks.1) (le_refl (longest_run 0 text))
        ∙ ap (λ t. Some (reading (stripped t) rest)) (one_line_already text line)
        ∙ ap (λ t. Some (reading t rest)) (cond-false (begins_with 32 text && ends_with 32 text && not (are_spaces text)) _ text outer.1)

pub atom_code : (rules : Rules) (before text rest : List ℕ) → is_empty text ≡ false → has_line_ending text ≡ false → begins_with 96 rest ≡ false
    → atom_at rules before 96 (drop 1 (spelled_code text) ++ rest) ≡ atom_left (Whole (Code text)) rest
unfolding atom_at markup_atom backtick_atom spelled_code
atom_code rules before text rest some line r =
    ap (λ (o : Option Reading). or_byte 96 (drop 1 (spelled_code text) ++ rest) (elim o as (λ _. Option AtomRead) [
      | Some span ↦ read (Whole (Code span.text)) span.rest
      | None ↦ read (Plain (replicate (run_length 96 (spelled_code text ++ rest)) 96)) (after_run 96 (spelled_code text ++ rest))
    ])) (code_read text rest some line r)
