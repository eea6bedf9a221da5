-- The lines of a text: that it has one list of them, and that it is the one that is computed.
use Rattle.std.proofs.Common.{◌≡◌, ℕ, Bool, true, false, cond, not, ◌&&◌, ◌==◌, List, [], ◌∷◌, ◌++◌, length, map, refl, sym, ap, subst, ◌∙◌, arith, append_assoc, append-nil, length-append, true≢false}
use Rattle.std.proofs.lemmas.Bool.{and_parts, eqb-true}
use Rattle.cm_text.specs.LineText.{is_line, is_line_ending}
use Rattle.cm_text.specs.Lines.{Ending, LineFeed, CarriageReturnLineFeed, CarriageReturn, EndOfText, begins_with_line_feed, Ends, AreLinesOf, last_line, lines_after, lines_of, plain_line, LinesAreDetermined, LinesAreComputed, LinesAreLines, with_line_feed, LinesWithLineFeeds}
use Rattle.std.specs.List.{list_all, flat_map}
use Rattle.cm_text.specs.Cut.{Cut, cut_byte, cut_more, end_line, nothing_cut, LinesAreCut}
use Rattle.cm_text.proofs.lemmas.CutLemmas.{is_line-append}

-- the cut comes to the lines that are left
cut_lines : (bs : List ℕ) (cut : Cut) → (cut_more cut bs).ended ++ map plain_line (last_line (cut_more cut bs).partial)
    ≡ cut.ended ++ map plain_line (lines_after cut.after_return cut.partial bs)
cut_lines [] cut = refl
cut_lines (b ∷ bs) cut = cut_lines bs (cut_byte cut b) ∙ by_tests (b == 10) (b == 13) cut.after_return
  where
    by_tests : (feed return after_return : Bool) →
        (let next = cond feed (cond after_return (record cut { after_return = false }) (end_line cut false)) (cond return (end_line cut true) (record cut { partial = cut.partial ++ b ∷ []; after_return = false })) in
        next.ended ++ map plain_line (lines_after next.after_return next.partial bs))
        ≡ cut.ended ++ map plain_line (elim feed [
          | true ↦ elim after_return [ true ↦ lines_after false cut.partial bs | false ↦ cut.partial ∷ lines_after false [] bs ]
          | false ↦ elim return [ true ↦ cut.partial ∷ lines_after true [] bs | false ↦ lines_after false (cut.partial ++ b ∷ []) bs ]
        ])
    by_tests true return true = refl
    by_tests true return false = append_assoc cut.ended (plain_line cut.partial ∷ []) _
    by_tests false true after_return = append_assoc cut.ended (plain_line cut.partial ∷ []) _
    by_tests false false after_return = refl

pub lines_are_cut : LinesAreCut
lines_are_cut text = sym (cut_lines text nothing_cut)

-- one byte of `lines_after`, by the tests of that byte
abbrev step_lines : (feed return after_return : Bool) (line : List ℕ) (b : ℕ) (bs : List ℕ) → List (List ℕ)
step_lines true return true line b bs = lines_after false line bs
step_lines true return false line b bs = line ∷ lines_after false [] bs
step_lines false true after_return line b bs = line ∷ lines_after true [] bs
step_lines false false after_return line b bs = lines_after false (line ++ b ∷ []) bs

lines_after-cons : (after_return : Bool) (line : List ℕ) (b : ℕ) (bs : List ℕ)
    → lines_after after_return line (b ∷ bs) ≡ step_lines (b == 10) (b == 13) after_return line b bs
lines_after-cons after_return line b bs = by_tests (b == 10) (b == 13) after_return
  where
    by_tests : (feed return after_return : Bool) →
        (let lines : List (List ℕ) = elim feed [
          | true ↦ elim after_return [ true ↦ lines_after false line bs | false ↦ line ∷ lines_after false [] bs ]
          | false ↦ elim return [ true ↦ line ∷ lines_after true [] bs | false ↦ lines_after false (line ++ b ∷ []) bs ]
        ] in lines) ≡ step_lines feed return after_return line b bs
    by_tests true return true = refl
    by_tests true return false = refl
    by_tests false true after_return = refl
    by_tests false false after_return = refl

-- what is left of a text, where a line feed at its start may belong to a carriage return before it
abbrev left_after : Bool → List ℕ → List ℕ
left_after false text = text
left_after true [] = []
left_after true (b ∷ bs) = cond (b == 10) bs (b ∷ bs)

left_after-other : (after_return : Bool) (b : ℕ) (bs : List ℕ) → (b == 10) ≡ false → left_after after_return (b ∷ bs) ≡ b ∷ bs
left_after-other false b bs other = refl
left_after-other true b bs other = ap (λ t. cond t bs (b ∷ bs)) other

-- a carriage return ends a line, together with a line feed after it
return_ends : (line bs : List ℕ) → (ending : Ending) × Ends ending line (left_after true bs) (line ++ 13 ∷ bs)
return_ends line [] = (CarriageReturn, (refl, refl))
return_ends line (b ∷ bs) = by_test (b == 10) refl
  where
    by_test : (feed : Bool) → (b == 10) ≡ feed → (ending : Ending) × Ends ending line (cond feed bs (b ∷ bs)) (line ++ 13 ∷ b ∷ bs)
    by_test true is = (CarriageReturnLineFeed, ap (λ n. line ++ 13 ∷ n ∷ bs) (eqb-true b 10 is))
    by_test false is = (CarriageReturn, (refl, is))

plain_end : (line : List ℕ) (b : ℕ) → is_line line ≡ true → (b == 10) ≡ false → (b == 13) ≡ false → is_line (line ++ b ∷ []) ≡ true
plain_end line b is feed return = is_line-append line (b ∷ []) is (rw (feed, return) refl)

computed_from : (after_return : Bool) (line text : List ℕ) → is_line line ≡ true
    → AreLinesOf (line ++ left_after after_return text) (lines_after after_return line text)
computed_from after_return line [] is = last after_return line is
  where
    last : (after_return : Bool) (line : List ℕ) → is_line line ≡ true → AreLinesOf (line ++ left_after after_return []) (last_line line)
    last true [] is = refl
    last false [] is = refl
    last true (c ∷ cs) is = (is, (EndOfText, ([], ((append-nil (c ∷ cs), (λ e. cc), refl), refl))))
    last false (c ∷ cs) is = (is, (EndOfText, ([], ((append-nil (c ∷ cs), (λ e. cc), refl), refl))))
computed_from after_return line (b ∷ bs) is =
    rw (lines_after-cons after_return line b bs) (by_tests (b == 10) (b == 13) after_return refl refl
    (computed_from false line bs is) (computed_from false [] bs refl) (computed_from true [] bs refl) (computed_from false (line ++ b ∷ []) bs))
  where
    by_tests : (feed return after_return : Bool) → (b == 10) ≡ feed → (b == 13) ≡ return
        → AreLinesOf (line ++ bs) (lines_after false line bs) → AreLinesOf bs (lines_after false [] bs) → AreLinesOf (left_after true bs) (lines_after true [] bs)
        → (is_line (line ++ b ∷ []) ≡ true → AreLinesOf ((line ++ b ∷ []) ++ bs) (lines_after false (line ++ b ∷ []) bs))
        → AreLinesOf (line ++ left_after after_return (b ∷ bs)) (step_lines feed return after_return line b bs)
    by_tests true return true f r same next skipped more =
        let P : List ℕ → Type 0 = λ t. AreLinesOf (line ++ t) (lines_after false line bs) in
        subst P (sym (ap (λ t. cond t bs (b ∷ bs)) f)) same
    by_tests true return false f r same next skipped more = (is, (LineFeed, (bs, (ap (λ n. line ++ n ∷ bs) (eqb-true b 10 f), next))))
    by_tests false true after f r same next skipped more =
        let ends = return_ends line bs in
        let P : List ℕ → Type 0 = λ t. Ends ends.0 line (left_after true bs) t in
        (is, (ends.0, (left_after true bs, (subst P (ap (λ n. line ++ n ∷ bs) (sym (eqb-true b 13 r)) ∙ ap (λ t. line ++ t) (sym (left_after-other after b bs f))) ends.1, skipped))))
    by_tests false false after f r same next skipped more =
        let P : List ℕ → Type 0 = λ t. AreLinesOf t (lines_after false (line ++ b ∷ []) bs) in
        subst P (append_assoc line (b ∷ []) bs ∙ ap (λ t. line ++ t) (sym (left_after-other after b bs f))) (more (plain_end line b is f r))

pub lines_are_computed : LinesAreComputed
lines_are_computed text = computed_from false [] text refl

-- a text that starts with a line ending, or is at its end
abbrev at_ending : List ℕ → Bool
at_ending [] = true
at_ending (b ∷ bs) = is_line_ending b

not_both : (b : Bool) (c : Bool) → not b && c ≡ true → b ≡ true → ⊥
not_both true c h k = cc
not_both false c h k = cc

-- a text is a line and an ending in one way
split_unique : (line other x y : List ℕ) → is_line line ≡ true → is_line other ≡ true → at_ending x ≡ true → at_ending y ≡ true
    → line ++ x ≡ other ++ y → (line ≡ other) × (x ≡ y)
split_unique [] [] x y l m h k same = (refl, same)
split_unique [] (c ∷ cs) [] y l m h k same = absurd cc
split_unique [] (c ∷ cs) (d ∷ x) y l m h k same =
    let first : d ≡ c = cc in
    absurd (not_both (is_line_ending c) (is_line cs) m (ap is_line_ending (sym first) ∙ h))
split_unique (c ∷ cs) [] x [] l m h k same = absurd cc
split_unique (c ∷ cs) [] x (d ∷ y) l m h k same =
    let first : d ≡ c = cc in
    absurd (not_both (is_line_ending c) (is_line cs) l (ap is_line_ending (sym first) ∙ k))
split_unique (c ∷ cs) (d ∷ ds) x y l m h k same =
    let first : c ≡ d = cc in
    let rest : cs ++ x ≡ ds ++ y = cc in
    let both = split_unique cs ds x y (and_parts _ _ l).1 (and_parts _ _ m).1 h k rest in
    (let e = both.0 in cc, both.1)

-- what is after a line
abbrev tail_of : Ending → List ℕ → List ℕ
tail_of LineFeed rest = 10 ∷ rest
tail_of CarriageReturnLineFeed rest = 13 ∷ 10 ∷ rest
tail_of CarriageReturn rest = 13 ∷ rest
tail_of EndOfText rest = []

tail_ends : (ending : Ending) (rest : List ℕ) → at_ending (tail_of ending rest) ≡ true
tail_ends LineFeed rest = refl
tail_ends CarriageReturnLineFeed rest = refl
tail_ends CarriageReturn rest = refl
tail_ends EndOfText rest = refl

parted : (ending : Ending) (line rest text : List ℕ) → Ends ending line rest text → text ≡ line ++ tail_of ending rest
parted LineFeed line rest text h = h
parted CarriageReturnLineFeed line rest text h = h
parted CarriageReturn line rest text h = h.0
parted EndOfText line rest text h = h.0 ∙ sym (append-nil line)

same_rest : (one two : Ending) (line other rest later text : List ℕ) → Ends one line rest text → Ends two other later text
    → tail_of one rest ≡ tail_of two later → rest ≡ later
same_rest LineFeed LineFeed line other rest later text h k same = cc
same_rest LineFeed CarriageReturnLineFeed line other rest later text h k same = cc
same_rest LineFeed CarriageReturn line other rest later text h k same = cc
same_rest LineFeed EndOfText line other rest later text h k same = cc
same_rest CarriageReturnLineFeed LineFeed line other rest later text h k same = cc
same_rest CarriageReturnLineFeed CarriageReturnLineFeed line other rest later text h k same = cc
same_rest CarriageReturnLineFeed CarriageReturn line other rest later text h k same =
    let begins : later ≡ 10 ∷ rest = cc in
    absurd (true≢false (sym (ap begins_with_line_feed begins) ∙ k.1))
same_rest CarriageReturnLineFeed EndOfText line other rest later text h k same = cc
same_rest CarriageReturn LineFeed line other rest later text h k same = cc
same_rest CarriageReturn CarriageReturnLineFeed line other rest later text h k same =
    let begins : rest ≡ 10 ∷ later = cc in
    absurd (true≢false (sym (ap begins_with_line_feed begins) ∙ h.1))
same_rest CarriageReturn CarriageReturn line other rest later text h k same = cc
same_rest CarriageReturn EndOfText line other rest later text h k same = cc
same_rest EndOfText LineFeed line other rest later text h k same = cc
same_rest EndOfText CarriageReturnLineFeed line other rest later text h k same = cc
same_rest EndOfText CarriageReturn line other rest later text h k same = cc
same_rest EndOfText EndOfText line other rest later text h k same = h.2 ∙ sym k.2

not_nothing : (line rest : List ℕ) (b : ℕ) → [] ≡ line ++ b ∷ rest → ⊥
not_nothing line rest b h = omega (arith, ap length h, length-append line (b ∷ rest))

-- a text with a line isn't empty
some_text : (ending : Ending) (line rest text : List ℕ) → text ≡ [] → Ends ending line rest text → ⊥
some_text LineFeed line rest text none h = not_nothing line rest 10 (sym none ∙ h)
some_text CarriageReturnLineFeed line rest text none h = not_nothing line (10 ∷ rest) 13 (sym none ∙ h)
some_text CarriageReturn line rest text none h = not_nothing line rest 13 (sym none ∙ h.0)
some_text EndOfText line rest text none h = h.1 (sym h.0 ∙ none)

pub lines_are_determined : LinesAreDetermined
lines_are_determined text [] [] h k = refl
lines_are_determined text [] (other ∷ others) h k = absurd (some_text k.1.0 other k.1.1.0 text h k.1.1.1.0)
lines_are_determined text (line ∷ lines) [] h k = absurd (some_text h.1.0 line h.1.1.0 text k h.1.1.1.0)
lines_are_determined text (line ∷ lines) (other ∷ others) h k =
    let one = h.1.0 in let two = k.1.0 in
    let rest = h.1.1.0 in let later = k.1.1.0 in
    let both = split_unique line other (tail_of one rest) (tail_of two later) h.0 k.0 (tail_ends one rest) (tail_ends two later)
    (sym (parted one line rest text h.1.1.1.0) ∙ parted two other later text k.1.1.1.0) in
    let same = same_rest one two line other rest later text h.1.1.1.0 k.1.1.1.0 both.1 in
    let P : List ℕ → Type 0 = λ t. AreLinesOf t others in
    let more = lines_are_determined rest lines others h.1.1.1.1 (subst P (sym same) k.1.1.1.1) in
    ap (λ l. l ∷ lines) both.0 ∙ ap (λ ls. other ∷ ls) more

-- lines that line feeds end

pub lines_are_lines : LinesAreLines
lines_are_lines text [] h = refl
lines_are_lines text (line ∷ lines) (is, (ending, (rest, (ends, more)))) = ap (λ v. v && list_all is_line lines) is ∙ lines_are_lines rest lines more

are-lines : (lines : List (List ℕ)) → list_all is_line lines ≡ true → AreLinesOf (flat_map with_line_feed lines) lines
are-lines [] h = refl
are-lines (line ∷ lines) h =
    let parts = and_parts (is_line line) (list_all is_line lines) h in
    (parts.0, (LineFeed, (flat_map with_line_feed lines, (append_assoc line (10 ∷ []) (flat_map with_line_feed lines), are-lines lines parts.1))))

pub lines_with_line_feeds : LinesWithLineFeeds
lines_with_line_feeds lines h =
    let text = flat_map with_line_feed lines in lines_are_determined text (lines_of text) lines (lines_are_computed text) (are-lines lines h)
