-- How a line starts that is nothing but text, whatever follows in it.
use Rattle.std.proofs.Common.{◌≡◌, ℕ, zero, suc, ◌==◌, ◌&&◌, ◌||◌, not, Bool, true, false, List, [], ◌∷◌, ◌++◌, replicate, Option, None, refl, sym, ap, subst, ◌∙◌, codes}
use Rattle.std.specs.Prelude.{if◌then◌else◌, nat_le, length}
use Rattle.std.specs.List.{list_any}
use Rattle.std.specs.Char.{is_ascii_digit}
use Rattle.std.proofs.lemmas.Bool.{cond-true, cond-false, eqb-true}
use Rattle.cm_text.specs.Rules.{Rules}
use Rattle.cm_scan.specs.Words.{is_space_or_tab, skip, front_of, run_length, after_run, given, trim, trim_start, keep_byte, trim_end_by, trim_end}
use Rattle.cm_scan.specs.blocks.LineForms.{backticks_or, ItemMarker, is_thematic_break, atx_heading, underline, opening_fence, fence_of, item_marker, bullet_marker, ordered_marker, marker_after, is_number, decimal_value, ordered_kind, marker_at_gap}
use Rattle.cm_scan.specs.blocks.HtmlBlocks.{html_start}
use Rattle.cm_scan.specs.blocks.Starts.{TextLine, start_of_content}
use Rattle.cm_scan.specs.laws.BlockLaws.{is_unindented}
use Rattle.cm_source.specs.Spelling.{in_front, parted_lines}
use Rattle.cm_source.specs.steps.Sources.{is_only, IsTextLine, AllTextLines}
use Rattle.cm_scan.proofs.lemmas.blocks.QuietStarts.{starters, is_quiet, no-fence-of, no-level, no-number, unmarked-start}
use Rattle.cm_scan.proofs.lemmas.texts.ToldApart.{differs, none-passes}

-- the bytes at which, after stars or tildes, a marker or a run may end
abbrev pub enders : List ℕ
enders = codes "*~ \t\n"

unfoldable pub is_inner : ℕ → Bool
is_inner b = not (list_any (λ c. b == c) enders)

-- neither `.` nor `)` follows the digits at its start
unfoldable pub ends_number : List ℕ → Bool
ends_number [] = true
ends_number (b ∷ bs) = elim (is_ascii_digit b) [ true ↦ ends_number bs | false ↦ not (b == 46) && not (b == 41) ]

-- the first line of a text
unfoldable pub seen_view : List ℕ → List ℕ
seen_view [] = []
seen_view (b ∷ bs) = if b == 10 then [] else b ∷ seen_view bs

-- how a line starts that is nothing but text
pub data Front : List ℕ → Type 0 where
  quiet : (b : ℕ) (bs : List ℕ) → is_quiet b ≡ true → is_ascii_digit b ≡ false → Front (b ∷ bs)
  number : (b : ℕ) (bs : List ℕ) → is_ascii_digit b ≡ true → ends_number (b ∷ bs) ≡ true → Front (b ∷ bs)
  one_star : (b : ℕ) (bs : List ℕ) → is_inner b ≡ true → Front (42 ∷ b ∷ bs)
  two_stars : (b : ℕ) (bs : List ℕ) → is_inner b ≡ true → Front (42 ∷ 42 ∷ b ∷ bs)
  two_tildes : (b : ℕ) (bs : List ℕ) → is_inner b ≡ true → Front (126 ∷ 126 ∷ b ∷ bs)
  backticks : (n b : ℕ) (bs : List ℕ) → (b == 96) ≡ false → (b == 10) ≡ false → list_any (λ c. c == 96) (seen_view (b ∷ bs)) ≡ true
      → Front (replicate (suc n) 96 ++ b ∷ bs)

-- a line that is text, the first of its paragraph or not
pub record IsText (rules : Rules) (line : List ℕ) : Type 0 where
  pub bare : is_unindented line ≡ true
  pub starts : start_of_content rules line ≡ TextLine
  pub no_underline : underline line ≡ None
  pub no_dashes : is_only 45 line ≡ false
  pub no_stars : is_only 42 line ≡ false

-- ---- lines

line-keeps : (b : ℕ) (bs : List ℕ) → (b == 10) ≡ false → seen_view (b ∷ bs) ≡ b ∷ seen_view bs
unfolding seen_view
line-keeps b bs e = cond-false (b == 10) [] (b ∷ seen_view bs) e

line-run : (n : ℕ) (rest : List ℕ) → seen_view (replicate n 96 ++ rest) ≡ replicate n 96 ++ seen_view rest
unfolding seen_view
line-run zero rest = refl
line-run (suc n) rest = ap (λ l. 96 ∷ l) (line-run n rest)

pub ends-digit : (b : ℕ) (bs : List ℕ) → is_ascii_digit b ≡ true → ends_number (b ∷ bs) ≡ ends_number bs
unfolding ends_number
ends-digit b bs e = ap (λ v. elim v as (λ _. Bool) [ true ↦ ends_number bs | false ↦ not (b == 46) && not (b == 41) ]) e

pub ends-other : (b : ℕ) (bs : List ℕ) → is_ascii_digit b ≡ false → ends_number (b ∷ bs) ≡ (not (b == 46) && not (b == 41))
unfolding ends_number
ends-other b bs e = ap (λ v. elim v as (λ _. Bool) [ true ↦ ends_number bs | false ↦ not (b == 46) && not (b == 41) ]) e

line-ends : (bs : List ℕ) → ends_number bs ≡ true → ends_number (seen_view bs) ≡ true
unfolding seen_view ends_number
line-ends [] e = refl
line-ends (b ∷ bs) e = go (b == 10) (is_ascii_digit b) refl refl (line-ends bs)
  where
    -- the end of a line, a digit, another byte
    go : (v d : Bool) → (b == 10) ≡ v → is_ascii_digit b ≡ d → (ends_number bs ≡ true → ends_number (seen_view bs) ≡ true) → ends_number (seen_view (b ∷ bs)) ≡ true
    go true d p q again = ap ends_number (cond-true (b == 10) [] (b ∷ seen_view bs) p)
    go false true p q again = ap ends_number (line-keeps b bs p) ∙ ends-digit b (seen_view bs) q ∙ again (sym (ends-digit b bs q) ∙ e)
    go false false p q again = ap ends_number (line-keeps b bs p) ∙ ends-other b (seen_view bs) q ∙ sym (ends-other b bs q) ∙ e

unmarked-text : (rules : Rules) (b : ℕ) (bs : List ℕ) → is_quiet b ≡ true → ordered_marker (b ∷ bs) ≡ None → IsText rules (b ∷ bs)
unfolding is_quiet
unmarked-text rules b bs q none =
    let no : (c : ℕ) → is_quiet c ≡ false → (b == c) ≡ false = λ c. differs is_quiet b c q in
    record {
      bare = rw (no 32 refl, no 9 refl) refl;
      starts = unmarked-start rules b bs q none;
      no_underline = no-level b bs (no 61 refl) (no 45 refl);
      no_dashes = rw (no 45 refl, no 32 refl, no 9 refl) refl;
      no_stars = rw (no 42 refl, no 32 refl, no 9 refl) refl;
    }

quiet-line : (b : ℕ) → is_quiet b ≡ true → (b == 10) ≡ false
unfolding is_quiet
quiet-line b q = differs is_quiet b 10 q refl

inner-line : (b : ℕ) → is_inner b ≡ true → (b == 10) ≡ false
unfolding is_inner
inner-line b q = differs is_inner b 10 q refl

-- ---- a number

both-other : (b : ℕ) → (not (b == 46) && not (b == 41)) ≡ true → ((b == 46) ≡ false) × ((b == 41) ≡ false)
both-other b e = go (b == 46) (b == 41) e
  where
    go : (v w : Bool) → (not v && not w) ≡ true → (v ≡ false) × (w ≡ false)
    go false false k = (refl, refl)
    go true w k = absurd (cc k)
    go false true k = absurd (cc k)

no-delimiter : (digits : List ℕ) (b : ℕ) (bs : List ℕ) → (b == 46) ≡ false → (b == 41) ≡ false → marker_after digits (b ∷ bs) ≡ None
unfolding marker_after
no-delimiter digits b bs p q = go (is_number digits)
  where
    go : (v : Bool) → elim v as (λ _. Option ItemMarker) [ true ↦ marker_at_gap (ordered_kind (decimal_value digits) b) (length digits) bs | false ↦ None ] ≡ None
    go true = rw (p, q) refl
    go false = refl

no-marker : (digits text : List ℕ) → ends_number text ≡ true → marker_after digits (skip is_ascii_digit text) ≡ None
unfolding skip marker_after
no-marker digits [] e = refl
no-marker digits (b ∷ bs) e = go (is_ascii_digit b) refl (no-marker digits bs)
  where
    go : (d : Bool) → is_ascii_digit b ≡ d → (ends_number bs ≡ true → marker_after digits (skip is_ascii_digit bs) ≡ None) → marker_after digits (skip is_ascii_digit (b ∷ bs)) ≡ None
    go true d again = ap (λ v. marker_after digits (elim v as (λ _. List ℕ) [ true ↦ skip is_ascii_digit bs | false ↦ b ∷ bs ])) d ∙ again (sym (ends-digit b bs d) ∙ e)
    go false d again =
        let other = both-other b (sym (ends-other b bs d) ∙ e) in
        ap (λ v. marker_after digits (elim v as (λ _. List ℕ) [ true ↦ skip is_ascii_digit bs | false ↦ b ∷ bs ])) d ∙ no-delimiter digits b bs other.0 other.1

-- a digit starts nothing but a marker
digit-quiet : (b : ℕ) → is_ascii_digit b ≡ true → is_quiet b ≡ true
unfolding is_quiet
digit-quiet b d = ap not (none-passes is_ascii_digit b starters d refl)

number-text : (rules : Rules) (b : ℕ) (bs : List ℕ) → is_ascii_digit b ≡ true → ends_number (b ∷ bs) ≡ true → IsText rules (b ∷ bs)
unfolding ordered_marker
number-text rules b bs d e = unmarked-text rules b bs (digit-quiet b d) (no-marker (front_of is_ascii_digit (b ∷ bs)) (b ∷ bs) e)

-- ---- stars and tildes

star-start : (rules : Rules) (b : ℕ) (bs : List ℕ) → is_inner b ≡ true → start_of_content rules (42 ∷ b ∷ bs) ≡ TextLine
unfolding is_inner start_of_content atx_heading opening_fence fence_of html_start is_thematic_break item_marker bullet_marker ordered_marker marker_after run_length after_run skip front_of
star-start rules b bs q = rw (differs is_inner b 42 q refl, differs is_inner b 32 q refl, differs is_inner b 9 q refl) refl

star-text : (rules : Rules) (b : ℕ) (bs : List ℕ) → is_inner b ≡ true → IsText rules (42 ∷ b ∷ bs)
unfolding is_inner underline run_length
star-text rules b bs q = record { bare = refl; starts = star-start rules b bs q; no_underline = refl; no_dashes = refl; no_stars = rw (differs is_inner b 42 q refl, differs is_inner b 32 q refl, differs is_inner b 9 q refl) refl }

stars-start : (rules : Rules) (b : ℕ) (bs : List ℕ) → is_inner b ≡ true → start_of_content rules (42 ∷ 42 ∷ b ∷ bs) ≡ TextLine
unfolding is_inner start_of_content atx_heading opening_fence fence_of html_start is_thematic_break item_marker bullet_marker ordered_marker marker_after run_length after_run skip front_of
stars-start rules b bs q = rw (differs is_inner b 42 q refl, differs is_inner b 32 q refl, differs is_inner b 9 q refl) refl

stars-text : (rules : Rules) (b : ℕ) (bs : List ℕ) → is_inner b ≡ true → IsText rules (42 ∷ 42 ∷ b ∷ bs)
unfolding is_inner underline run_length
stars-text rules b bs q = record { bare = refl; starts = stars-start rules b bs q; no_underline = refl; no_dashes = refl; no_stars = rw (differs is_inner b 42 q refl, differs is_inner b 32 q refl, differs is_inner b 9 q refl) refl }

tildes-start : (rules : Rules) (b : ℕ) (bs : List ℕ) → is_inner b ≡ true → start_of_content rules (126 ∷ 126 ∷ b ∷ bs) ≡ TextLine
unfolding is_inner start_of_content atx_heading opening_fence fence_of html_start is_thematic_break item_marker bullet_marker ordered_marker marker_after run_length after_run skip front_of
tildes-start rules b bs q = rw (differs is_inner b 126 q refl) refl

tildes-text : (rules : Rules) (b : ℕ) (bs : List ℕ) → is_inner b ≡ true → IsText rules (126 ∷ 126 ∷ b ∷ bs)
unfolding underline run_length
tildes-text rules b bs q = record { bare = refl; starts = tildes-start rules b bs q; no_underline = refl; no_dashes = refl; no_stars = refl }

-- ---- backticks

holds_backtick : List ℕ → Bool
holds_backtick t = list_any (λ c. c == 96) t

front-kept : (t : List ℕ) → holds_backtick t ≡ true → holds_backtick (trim_start t) ≡ true
unfolding skip holds_backtick
front-kept [] e = absurd (cc e)
front-kept (b ∷ bs) e = go (is_space_or_tab b) refl (front-kept bs)
  where
    go : (v : Bool) → is_space_or_tab b ≡ v → (holds_backtick bs ≡ true → holds_backtick (trim_start bs) ≡ true)
        → holds_backtick (elim (is_space_or_tab b) as (λ _. List ℕ) [ true ↦ trim_start bs | false ↦ b ∷ bs ]) ≡ true
    go true p again = ap (λ v. holds_backtick (elim v as (λ _. List ℕ) [ true ↦ trim_start bs | false ↦ b ∷ bs ])) p
        ∙ again (sym (ap (λ v. v || holds_backtick bs) (differs is_space_or_tab b 96 p refl)) ∙ e)
    go false p again = ap (λ v. holds_backtick (elim v as (λ _. List ℕ) [ true ↦ trim_start bs | false ↦ b ∷ bs ])) p ∙ e

end-kept : (t : List ℕ) → holds_backtick t ≡ true → holds_backtick (trim_end t) ≡ true
unfolding trim_end_by holds_backtick
end-kept [] e = absurd (cc e)
end-kept (b ∷ bs) e = go (trim_end bs) (end-kept bs) (b == 96) refl
  where
    -- the byte is the last one, or not
    last : (v : Bool) → is_space_or_tab b ≡ v → (b == 96) ≡ true → holds_backtick (if v then [] else b ∷ []) ≡ true
    last true p q = absurd (cc (p, sym (ap is_space_or_tab (eqb-true b 96 q))))
    last false p q = ap (λ v. v || false) q

    go : (left : List ℕ) → (holds_backtick bs ≡ true → holds_backtick left ≡ true) → (v : Bool) → (b == 96) ≡ v → holds_backtick (keep_byte is_space_or_tab b left) ≡ true
    go [] again true q = last (is_space_or_tab b) refl q
    go [] again false q = absurd (cc (again (sym (ap (λ v. v || holds_backtick bs) q) ∙ e)))
    go (c ∷ cs) again true q = ap (λ v. v || holds_backtick (c ∷ cs)) q
    go (c ∷ cs) again false q = ap (λ v. v || holds_backtick (c ∷ cs)) q ∙ again (sym (ap (λ v. v || holds_backtick bs) q) ∙ e)

run-left : (n b : ℕ) (bs : List ℕ) → (b == 96) ≡ false → after_run 96 (replicate n 96 ++ b ∷ bs) ≡ b ∷ bs
unfolding after_run
run-left zero b bs e = ap (λ v. elim v as (λ _. List ℕ) [ true ↦ after_run 96 bs | false ↦ b ∷ bs ]) e
run-left (suc n) b bs e = run-left n b bs e

-- no fence, since what would be its info string holds a backtick
fence-holds : (text : List ℕ) → holds_backtick (trim (after_run 96 text)) ≡ true → fence_of 126 text ≡ None → opening_fence text ≡ None
unfolding opening_fence fence_of holds_backtick
fence-holds text e none = go (nat_le 3 (run_length 96 text))
  where
    go : (v : Bool) → backticks_or (given v (record { marker = 96; count = run_length 96 text; info = trim (after_run 96 text) })) (fence_of 126 text) ≡ None
    go true = ap (λ v. given (not v) (record { marker = 96; count = run_length 96 text; info = trim (after_run 96 text) })) e
    go false = none

ticks-start : (rules : Rules) (bs : List ℕ) → opening_fence (96 ∷ bs) ≡ None → start_of_content rules (96 ∷ bs) ≡ TextLine
unfolding start_of_content atx_heading html_start is_thematic_break item_marker bullet_marker ordered_marker marker_after run_length after_run skip front_of
ticks-start rules bs none = rw none refl

ticks-text : (rules : Rules) (n b : ℕ) (bs : List ℕ) → (b == 96) ≡ false → holds_backtick (b ∷ bs) ≡ true → IsText rules (replicate (suc n) 96 ++ b ∷ bs)
unfolding underline run_length fence_of
ticks-text rules n b bs e holds =
    let rest = replicate n 96 ++ b ∷ bs in
    let kept = ap (λ t. holds_backtick (trim t)) (run-left (suc n) b bs e) ∙ end-kept (trim_start (b ∷ bs)) (front-kept (b ∷ bs) holds) in
    record { bare = refl; starts = ticks-start rules rest (fence-holds (96 ∷ rest) kept (no-fence-of 126 96 rest refl)); no_underline = refl; no_dashes = refl; no_stars = refl }

-- ---- the first line of a text with such a front

pub front-line : (rules : Rules) (text : List ℕ) → Front text → IsText rules (seen_view text)
unfolding seen_view holds_backtick
front-line rules text (quiet b bs q d) = subst (IsText rules) (sym (line-keeps b bs (quiet-line b q))) (unmarked-text rules b (seen_view bs) q (no-number b (seen_view bs) d))
front-line rules text (number b bs d e) =
    let kept = line-keeps b bs (quiet-line b (digit-quiet b d)) in
    subst (IsText rules) (sym kept) (number-text rules b (seen_view bs) d (sym (ap ends_number kept) ∙ line-ends (b ∷ bs) e))
front-line rules text (one_star b bs q) = subst (λ l. IsText rules (42 ∷ l)) (sym (line-keeps b bs (inner-line b q))) (star-text rules b (seen_view bs) q)
front-line rules text (two_stars b bs q) = subst (λ l. IsText rules (42 ∷ 42 ∷ l)) (sym (line-keeps b bs (inner-line b q))) (stars-text rules b (seen_view bs) q)
front-line rules text (two_tildes b bs q) = subst (λ l. IsText rules (126 ∷ 126 ∷ l)) (sym (line-keeps b bs (inner-line b q))) (tildes-text rules b (seen_view bs) q)
front-line rules text (backticks n b bs e no_end holds) =
    subst (IsText rules) (sym (line-run (suc n) (b ∷ bs) ∙ ap (λ l. replicate (suc n) 96 ++ l) (line-keeps b bs no_end)))
    (ticks-text rules n b (seen_view bs) e (sym (ap holds_backtick (line-keeps b bs no_end)) ∙ holds))

-- ---- all lines of a text

-- each line starts with such a front, the first one where the text is at the start of a line
unfoldable pub LinesBegin : (at_front : Bool) → List ℕ → Type 0
LinesBegin at_front [] = at_front ≡ false
LinesBegin at_front (b ∷ bs) = (at_front ≡ true → Front (b ∷ bs)) × LinesBegin (b == 10) bs

-- the lines after the first one
unfoldable pub further_lines : List ℕ → List (List ℕ)
further_lines [] = []
further_lines (b ∷ bs) = if b == 10 then parted_lines bs else further_lines bs

pub parted-lines : (text : List ℕ) → parted_lines text ≡ seen_view text ∷ further_lines text
unfolding parted_lines seen_view further_lines
parted-lines [] = refl
parted-lines (b ∷ bs) = go (b == 10) refl (parted-lines bs)
  where
    go : (v : Bool) → (b == 10) ≡ v → parted_lines bs ≡ seen_view bs ∷ further_lines bs
        → (if v then [] ∷ parted_lines bs else in_front b (parted_lines bs)) ≡ (if v then [] else b ∷ seen_view bs) ∷ (if v then parted_lines bs else further_lines bs)
    go true p again = refl
    go false p again = ap (in_front b) again

is-further : (rules : Rules) (line : List ℕ) → IsText rules line → IsTextLine rules line
is-further rules line t = record { bare = t.bare; starts = t.starts; no_underline = t.no_underline }

pub first-front : (text : List ℕ) → LinesBegin true text → Front text
unfolding LinesBegin
first-front [] begin = absurd (cc begin)
first-front (b ∷ bs) begin = begin.0 refl

pub lines-are-text : (rules : Rules) (at_front : Bool) (text : List ℕ) → LinesBegin at_front text → AllTextLines rules (further_lines text)
unfolding LinesBegin further_lines
lines-are-text rules at_front [] begin = tt
lines-are-text rules at_front (b ∷ bs) begin = go (b == 10) refl begin.1 (lines-are-text rules (b == 10) bs begin.1)
  where
    go : (v : Bool) → (b == 10) ≡ v → LinesBegin (b == 10) bs → AllTextLines rules (further_lines bs) → AllTextLines rules (if v then parted_lines bs else further_lines bs)
    go true p here again = subst (AllTextLines rules) (sym (parted-lines bs)) (is-further rules (seen_view bs) (front-line rules bs (first-front bs (subst (λ v. LinesBegin v bs) p here))), again)
    go false p here again = again
