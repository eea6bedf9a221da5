-- The lines that have ended, as more bytes come.
use Rattle.std.proofs.Common.{◌≡◌, ℕ, ◌-◌, ◌+◌, ◌<◌, ◌≤◌, Bool, true, false, ◌&&◌, List, [], ◌∷◌, ◌++◌, length, take, map, refl, sym, ap, subst, ◌∙◌, arith, ⊎_elim, append_assoc, append-nil, take_all, take-append-drop}
use Rattle.std.specs.Str.Lossy.{utf8_valid_len}
use Rattle.std.proofs.lemmas.Bool.{cases_lt, and_parts}
use Rattle.std.proofs.lemmas.List.{take-append-le}
use Rattle.std.proofs.lemmas.List.Folds.{list_all-append}
use Rattle.std.proofs.Math.Seq.{take-append-add}
use Rattle.cm_text.specs.LineText.{is_line}
use Rattle.cm_text.specs.Lines.{LineView, AreLinesOf, lines_of, last_line, plain_line, plain_lines_of, text_of}
use Rattle.cm_text.specs.Cut.{Cut, IsFront, cut_more, nothing_cut}
use Rattle.cm_text.specs.Faults.{left_of, after_valid}
use Rattle.cm_text.specs.Feed.{cut_valid, cut_bytes}
use Rattle.cm_text.proofs.lemmas.Utf8Lemmas.{valid_front-IsUtf8}
use Rattle.cm_text.proofs.lemmas.LinesLemmas.{lines_are_computed, lines_are_cut}
use Rattle.cm_text.proofs.lemmas.FeedLemmas.{cut_shift, valid_stays}
use Rattle.cm_scan.specs.laws.PartLaws.{AreLines}

-- the bytes within the limit, as more bytes come
pub wider : (limit : ℕ) (bytes more : List ℕ) → take limit (bytes ++ more) ≡ take limit bytes ++ take (limit - length bytes) more
wider limit bytes more = ⊎_elim
    (λ (past : limit < length bytes).
    let none : limit - length bytes ≡ 0 = omega arith in
    take-append-le limit bytes more (omega arith) ∙ sym (append-nil (take limit bytes)) ∙ ap (λ n. take limit bytes ++ take n more) (sym none))
    (λ (within : length bytes ≤ limit).
    let n = limit - length bytes in
    let room : limit ≡ length bytes + n = omega arith in
    ap (λ k. take k (bytes ++ more)) room ∙ take-append-add bytes more n ∙ ap (λ t. t ++ take n more) (sym (take_all limit bytes within)))
    (cases_lt limit (length bytes))

-- the cut continues where it was
pub cut_on : (limit : ℕ) (bytes more : List ℕ)
    → cut_bytes limit (bytes ++ more) ≡ cut_valid (cut_bytes limit bytes) (after_valid limit bytes ++ take (limit - length bytes) more)
cut_on limit bytes more =
    let window = take limit bytes in
    let n = utf8_valid_len window in
    let rest = take (limit - length bytes) more in
    ap (cut_valid nothing_cut) (wider limit bytes more ∙ ap (λ t. t ++ rest) (sym (take-append-drop n window)) ∙ append_assoc (take n window) (left_of window) rest)
    ∙ cut_shift nothing_cut (take n window) (left_of window ++ rest) (valid_front-IsUtf8 window)

-- lines that have ended stay
pub ended_stay : (limit : ℕ) (bytes more : List ℕ) → IsFront (cut_bytes limit bytes).ended (cut_bytes limit (bytes ++ more)).ended
ended_stay limit bytes more =
    let P : Cut → Type 0 = λ d. IsFront (cut_bytes limit bytes).ended d.ended in
    subst P (sym (cut_on limit bytes more)) (valid_stays (cut_bytes limit bytes) (after_valid limit bytes ++ take (limit - length bytes) more))

-- the lines of a text hold no line ending
lines_are_lines : (text : List ℕ) (lines : List (List ℕ)) → AreLinesOf text lines → AreLines (map plain_line lines)
lines_are_lines text [] h = refl
lines_are_lines text (line ∷ lines) h = both (is_line line) _ h.0 (lines_are_lines h.1.1.0 lines h.1.1.1.1)
  where
    both : (a b : Bool) → a ≡ true → b ≡ true → a && b ≡ true
    both true b h k = k
    both false b h k = h

pub all_are_lines : (text : List ℕ) → AreLines (plain_lines_of text)
all_are_lines text = lines_are_lines text (lines_of text) (lines_are_computed text)

-- nor do those of a front
pub front_are_lines : (front rest : List LineView) → AreLines (front ++ rest) → AreLines front
front_are_lines front rest h = (and_parts _ _ (sym (list_all-append (λ line. is_line line.text) front rest) ∙ h)).0

-- nor those that have ended
pub ended_are_lines : (limit : ℕ) (bytes : List ℕ) → AreLines (cut_bytes limit bytes).ended
ended_are_lines limit bytes =
    let window = take limit bytes in
    let text = text_of (take (utf8_valid_len window) window) in
    front_are_lines (cut_more nothing_cut text).ended (map plain_line (last_line (cut_more nothing_cut text).partial)) (subst AreLines (lines_are_cut text) (all_are_lines text))
