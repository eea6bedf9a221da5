-- Single blocks, with any lines after them.
use Rattle.std.proofs.Common.{◌≡◌, ℕ, zero, suc, ◌+◌, Bool, true, false, not, ◌&&◌, ◌||◌, List, [], ◌∷◌, ◌++◌, length, drop, Some, None, refl, sym, ap, ◌∙◌, arith, append_assoc, append-nil}
use Rattle.std.proofs.lemmas.Bool.{and_parts, not-true}
use Rattle.std.specs.Prelude.{nat_le, nat_lt, if◌then◌else◌}
use Rattle.std.specs.List.{list_all, flat_map}
use Rattle.cm_text.specs.Rules.{Rules}
use Rattle.cm_text.specs.Lines.{LineView}
use Rattle.cm_text.specs.Indentation.{indent_of, strip_columns}
use Rattle.cm_tree.specs.declared.tree.ListKind.{ListKind}
use Rattle.cm_tree.specs.declared.tree.ListKind.TheVariants.{Dash, Plus, Star, Dot, Paren}
use Rattle.cm_scan.specs.Words.{is_space_or_tab, is_blank_text, skip, trim_start, given}
use Rattle.cm_scan.specs.blocks.Lines.{is_blank, content_of, past, with_ending}
use Rattle.cm_scan.specs.blocks.LineForms.{underline, Fence, ItemMarker, marker_width, is_same_kind}
use Rattle.cm_scan.specs.blocks.HtmlBlocks.{HtmlKind, is_html_end}
use Rattle.cm_scan.specs.blocks.Starts.{start_of_content, start_of, underline_of, after_quote_marker, after_marker, content_offset, content_column, first_content}
use Rattle.cm_scan.specs.blocks.Parts.{Parts, list, ItemParts, item, next_items, put_before, put_item}
use Rattle.cm_scan.specs.blocks.Blocks.{add_text, NextLine, GoesOn, Ends, Underlines, TextRun, text_run, Taken, taken, closes_fence, fenced, html_to_end, html_to_blank, html_lines}
use Rattle.cm_scan.specs.laws.BlockLaws.{is_unindented, UnindentedLine, after_columns, QuoteAndSpace, QuoteAlone, ContentAt, ItemAndSpace, ItemAlone, no_more, one_goes_on, RunUpToItsEnd, RunUpToItsUnderline, none_closes, text_without, FencedUpToItsEnd, FencedToTheLast, none_ends, HtmlUpToItsEnd, first_is_blank, HtmlUpToABlankLine, KindOfItself, blank_lines, ItemBeforeItsList, ItemByItself}
use Rattle.cm_scan.specs.steps.LineSteps.{start_by, underline_if}

-- Lines at the margin

first-byte : (b : ℕ) (bs : List ℕ) → is_unindented (b ∷ bs) ≡ true → is_space_or_tab b ≡ false
first-byte b bs e = not-true (is_space_or_tab b) e

no-columns : (line : LineView) → is_unindented line.text ≡ true → indent_of line ≡ 0
no-columns line e = go line.text e
  where
    go : (text : List ℕ) → is_unindented text ≡ true → indent_of (record line { text = text }) ≡ 0
    go [] e = refl
    go (b ∷ bs) e = grind (arith, first-byte b bs e)

trim-none : (text : List ℕ) → is_unindented text ≡ true → trim_start text ≡ text
unfolding skip
trim-none [] e = refl
trim-none (b ∷ bs) e = ap (λ (v : Bool). elim v as (λ _. List ℕ) [ true ↦ trim_start bs | false ↦ b ∷ bs ]) (first-byte b bs e)

text-not-blank : (text : List ℕ) → is_unindented text ≡ true → is_blank_text text ≡ false
text-not-blank [] e = sym e
text-not-blank (b ∷ bs) e = ap (λ v. v && is_blank_text bs) (first-byte b bs e)

pub unindented_line : UnindentedLine
unfolding start_of underline_of
unindented_line rules line eager e = record {
  not_blank = text-not-blank line.text e;
  no_columns = no-columns line e;
  content = trim-none line.text e;
  start = ap (λ v. start_by v (nat_le 4 (indent_of line)) (start_of_content rules (content_of line))) eager
      ∙ ap (λ n. start_by false (nat_le 4 n) (start_of_content rules (content_of line))) (no-columns line e)
      ∙ ap (start_of_content rules) (trim-none line.text e);
  level = ap (λ v. underline_if (not v && nat_le (indent_of line) 3) (content_of line)) eager
      ∙ ap (λ n. underline_if (nat_le n 3) (content_of line)) (no-columns line e)
      ∙ ap underline (trim-none line.text e);
}

-- Markers and a space after them

strip-space : (line : LineView) (text : List ℕ) → line.text ≡ 32 ∷ text → strip_columns 1 line ≡ after_columns 1 text line
strip-space line text e = ap (λ t. strip_columns 1 (record line { text = t })) e ∙ strip-nothing text
  where
    strip-nothing : (text : List ℕ) → strip_columns 1 (record line { text = 32 ∷ text }) ≡ after_columns 1 text line
    strip-nothing [] = refl
    strip-nothing (b ∷ bs) = refl

pub quote_and_space : QuoteAndSpace
unfolding after_quote_marker past skip
quote_and_space line text e =
    ap (λ t. after_quote_marker (record line { text = t })) e
    ∙ strip-space (record { column = line.column + 0 + 1; text = 32 ∷ text; lazy = line.lazy }) text refl
    ∙ ap (λ n. record { column = n; text = text; lazy = line.lazy }) (let same : line.column + 0 + 1 + 1 ≡ line.column + 2 = omega arith in same)

pub quote_alone : QuoteAlone
unfolding after_quote_marker past skip
quote_alone line e =
    ap (λ t. after_quote_marker (record line { text = t })) e
    ∙ ap (λ n. record { column = n; text = []; lazy = line.lazy }) (let same : line.column + 0 + 1 ≡ line.column + 1 = omega arith in same)

-- what is after a marker at the margin
beyond-is : (marker : ItemMarker) (line : LineView) (text : List ℕ) → is_unindented line.text ≡ true → drop (marker_width marker) line.text ≡ text
    → after_marker marker line ≡ after_columns (marker_width marker) text line
unfolding past
beyond-is marker line text e h =
    ap (λ t. record { column = line.column + indent_of line + marker_width marker; text = drop (marker_width marker) t; lazy = line.lazy }) (trim-none line.text e)
    ∙ ap (λ t. record { column = line.column + indent_of line + marker_width marker; text = t; lazy = line.lazy }) h
    ∙ ap (λ n. record { column = n; text = text; lazy = line.lazy }) (let none : indent_of line ≡ 0 = no-columns line e in omega (arith, none))

content-by : (marker : ItemMarker) (line beyond first : LineView) → is_unindented line.text ≡ true → after_marker marker line ≡ beyond → content_offset beyond ≡ 1
    → strip_columns 1 beyond ≡ first → ContentAt marker line first
unfolding content_column first_content
content-by marker line beyond first e is offset stripped = (
  let none : indent_of line ≡ 0 = no-columns line e in
      let one : content_offset (after_marker marker line) ≡ 1 = ap content_offset is ∙ offset in
      omega (arith, none, one),
  ap (λ l. strip_columns (content_offset l) l) is ∙ ap (λ n. strip_columns n beyond) offset ∙ stripped,
)

-- a space before something else is one column
offset-of-one : (line : LineView) (text : List ℕ) → line.text ≡ 32 ∷ text → is_unindented text ≡ true → content_offset line ≡ 1
unfolding content_offset
offset-of-one line text e h =
    ap (λ t. content_offset (record line { text = t })) e
    ∙ ap (λ v. if v || nat_lt 4 columns then 1 else columns) (text-not-blank text h)
    ∙ ap (λ n. if nat_lt 4 n then 1 else n) one
  where
    columns : ℕ
    columns = indent_of (record line { text = 32 ∷ text })

    one : columns ≡ 1
    one = let none : indent_of (record { column = line.column + 1; text = text; lazy = line.lazy }) ≡ 0 = no-columns (record { column = line.column + 1; text = text; lazy = line.lazy }) h in omega (arith, none)

drop-front : (front text : List ℕ) (n : ℕ) → length front ≡ n → drop n (front ++ text) ≡ text
drop-front [] text zero e = refl
drop-front [] text (suc n) e = absurd (cc e)
drop-front (b ∷ bs) text zero e = absurd (cc e)
drop-front (b ∷ bs) text (suc n) e = drop-front bs text n (omega (arith, e))

unindented-front : (front text : List ℕ) → is_unindented front ≡ true → is_unindented (front ++ text) ≡ true
unindented-front [] text e = absurd (cc e)
unindented-front (b ∷ bs) text e = e

pub item_and_space : ItemAndSpace
item_and_space marker line mark text e width bare h =
    let unindented : is_unindented line.text ≡ true = ap is_unindented e ∙ unindented-front mark (32 ∷ text) bare in
    let beyond = after_columns (marker_width marker) (32 ∷ text) line in
    content-by marker line beyond (after_columns (suc (marker_width marker)) text line) unindented
    (beyond-is marker line (32 ∷ text) unindented (ap (drop (marker_width marker)) e ∙ drop-front mark (32 ∷ text) (marker_width marker) width))
    (offset-of-one beyond text refl h)
    (strip-space beyond text refl ∙ ap (λ n. record { column = n; text = text; lazy = line.lazy }) (omega arith))

drop-all : (text : List ℕ) (n : ℕ) → length text ≡ n → drop n text ≡ []
drop-all text n e = ap (drop n) (sym (append-nil text)) ∙ drop-front text [] n e

pub item_alone : ItemAlone
unfolding content_offset
item_alone marker line width unindented =
    content-by marker line (after_columns (marker_width marker) [] line) (after_columns (marker_width marker) [] line) unindented
    (beyond-is marker line [] unindented (drop-all line.text (marker_width marker) width)) refl refl

-- Runs of text

abbrev by_next : Rules → List ℕ → LineView → List LineView → NextLine → TextRun
by_next rules source line lines next = elim next as (λ _. TextRun) [
  | GoesOn ↦ text_run rules (add_text source line) lines
  | Ends ↦ record { source = source; level = None; following = line ∷ lines }
  | Underlines level ↦ record { source = source; level = Some level; following = lines }
]

pub run_up_to_its_end : RunUpToItsEnd
unfolding text_run
run_up_to_its_end rules source longer [] [] no_more h = refl
run_up_to_its_end rules source longer [] (line ∷ lines) no_more h = ap (by_next rules source line lines) h
run_up_to_its_end rules source longer (line ∷ lines) rest (one_goes_on e more) h =
    ap (by_next rules source line (lines ++ rest)) e ∙ run_up_to_its_end rules (add_text source line) longer lines rest more h

pub run_up_to_its_underline : RunUpToItsUnderline
unfolding text_run
run_up_to_its_underline rules source longer [] rest last level no_more h = ap (by_next rules source last rest) h
run_up_to_its_underline rules source longer (line ∷ lines) rest last level (one_goes_on e more) h =
    ap (by_next rules source line (lines ++ last ∷ rest)) e ∙ run_up_to_its_underline rules (add_text source line) longer lines rest last level more h

-- Fenced code and HTML

abbrev by_closing : Fence → ℕ → ℕ → List ℕ → LineView → List LineView → Bool → Taken
by_closing fence columns n text line lines v = elim v as (λ _. Taken) [
  | true ↦ taken text (suc n) lines
  | false ↦ fenced fence columns (text ++ with_ending (strip_columns columns line)) (suc n) lines
]

-- one line more
longer-taken : (text own others : List ℕ) (k l : ℕ) (rest : List LineView) → k ≡ l → taken ((text ++ own) ++ others) k rest ≡ taken (text ++ (own ++ others)) l rest
longer-taken text own others k l rest e = ap (λ t. taken t k rest) (append_assoc text own others) ∙ ap (λ n. taken (text ++ (own ++ others)) n rest) e

pub fenced_up_to_its_end : FencedUpToItsEnd
unfolding fenced
fenced_up_to_its_end fence columns n text [] rest last none_is h =
    ap (by_closing fence columns n text last rest) h
    ∙ ap (λ t. taken t (suc n) rest) (sym (append-nil text)) ∙ ap (λ k. taken (text ++ []) (suc k) rest) (let same : n ≡ n + 0 = omega arith in same)
fenced_up_to_its_end fence columns n text (line ∷ lines) rest last none_is h =
    let own = with_ending (strip_columns columns line) in
    ap (by_closing fence columns n text line (lines ++ last ∷ rest)) (not-true (closes_fence fence line) (and_parts (not (closes_fence fence line)) (none_closes fence lines) none_is).0)
    ∙ fenced_up_to_its_end fence columns (suc n) (text ++ own) lines rest last (and_parts (not (closes_fence fence line)) (none_closes fence lines) none_is).1 h
    ∙ longer-taken text own (text_without columns lines) (suc (suc n + length lines)) (suc (n + suc (length lines))) rest (omega arith)

pub fenced_to_the_last : FencedToTheLast
unfolding fenced
fenced_to_the_last fence columns n text [] none_is = ap (λ t. taken t n []) (sym (append-nil text)) ∙ ap (λ k. taken (text ++ []) k []) (let same : n ≡ n + 0 = omega arith in same)
fenced_to_the_last fence columns n text (line ∷ lines) none_is =
    let own = with_ending (strip_columns columns line) in
    ap (by_closing fence columns n text line lines) (not-true (closes_fence fence line) (and_parts (not (closes_fence fence line)) (none_closes fence lines) none_is).0)
    ∙ fenced_to_the_last fence columns (suc n) (text ++ own) lines (and_parts (not (closes_fence fence line)) (none_closes fence lines) none_is).1
    ∙ longer-taken text own (text_without columns lines) (suc n + length lines) (n + suc (length lines)) [] (omega arith)

abbrev by_end : HtmlKind → ℕ → List ℕ → LineView → List LineView → Bool → Taken
by_end kind n text line lines v = elim v as (λ _. Taken) [
  | true ↦ taken (text ++ with_ending line) (suc n) lines
  | false ↦ html_to_end kind (text ++ with_ending line) (suc n) lines
]

to-its-end : (kind : HtmlKind) (text : List ℕ) (n : ℕ) (lines rest : List LineView) (last : LineView) → none_ends kind lines ≡ true → is_html_end kind last.text ≡ true
    → html_to_end kind text n (lines ++ last ∷ rest) ≡ taken (text ++ (flat_map with_ending lines ++ with_ending last)) (suc (n + length lines)) rest
unfolding html_to_end
to-its-end kind text n [] rest last none_is h = ap (by_end kind n text last rest) h ∙ ap (λ k. taken (text ++ with_ending last) (suc k) rest) (let same : n ≡ n + 0 = omega arith in same)
to-its-end kind text n (line ∷ lines) rest last none_is h =
    let own = with_ending line in
    let others = flat_map with_ending lines in
    ap (by_end kind n text line (lines ++ last ∷ rest)) (not-true (is_html_end kind line.text) (and_parts (not (is_html_end kind line.text)) (none_ends kind lines) none_is).0)
    ∙ to-its-end kind (text ++ own) (suc n) lines rest last (and_parts (not (is_html_end kind line.text)) (none_ends kind lines) none_is).1 h
    ∙ longer-taken text own (others ++ with_ending last) (suc (suc n + length lines)) (suc (n + suc (length lines))) rest (omega arith)
    ∙ ap (λ t. taken (text ++ t) (suc (n + suc (length lines))) rest) (sym (append_assoc own others (with_ending last)))

pub html_up_to_its_end : HtmlUpToItsEnd
unfolding html_lines
html_up_to_its_end kind lines rest last at_word none_is h =
    ap (λ v. if v then html_to_blank [] 0 (lines ++ last ∷ rest) else html_to_end kind [] 0 (lines ++ last ∷ rest)) at_word
    ∙ to-its-end kind [] 0 lines rest last none_is h
    ∙ ap (λ k. taken (flat_map with_ending lines ++ with_ending last) (suc k) rest) (let same : 0 + length lines ≡ length lines = omega arith in same)

abbrev by_blank : ℕ → List ℕ → LineView → List LineView → Bool → Taken
by_blank n text line lines v = elim v as (λ _. Taken) [
  | true ↦ taken text n (line ∷ lines)
  | false ↦ html_to_blank (text ++ with_ending line) (suc n) lines
]

to-a-blank : (text : List ℕ) (n : ℕ) (lines rest : List LineView) → list_all (λ line. not (is_blank line)) lines ≡ true → first_is_blank rest ≡ true
    → html_to_blank text n (lines ++ rest) ≡ taken (text ++ flat_map with_ending lines) (n + length lines) rest
unfolding html_to_blank
to-a-blank text n [] [] none_is h = ap (λ t. taken t n []) (sym (append-nil text)) ∙ ap (λ k. taken (text ++ []) k []) (let same : n ≡ n + 0 = omega arith in same)
to-a-blank text n [] (last ∷ rest) none_is h =
    ap (by_blank n text last rest) h ∙ ap (λ t. taken t n (last ∷ rest)) (sym (append-nil text)) ∙ ap (λ k. taken (text ++ []) k (last ∷ rest)) (let same : n ≡ n + 0 = omega arith in same)
to-a-blank text n (line ∷ lines) rest none_is h =
    let own = with_ending line in
    let others = list_all (λ (line : LineView). not (is_blank line)) lines in
    ap (by_blank n text line (lines ++ rest)) (not-true (is_blank line) (and_parts (not (is_blank line)) others none_is).0)
    ∙ to-a-blank (text ++ own) (suc n) lines rest (and_parts (not (is_blank line)) others none_is).1 h
    ∙ longer-taken text own (flat_map with_ending lines) (suc n + length lines) (n + suc (length lines)) rest (omega arith)

pub html_up_to_a_blank_line : HtmlUpToABlankLine
unfolding html_lines
html_up_to_a_blank_line kind lines rest at_blank none_is h =
    ap (λ v. if v then html_to_blank [] 0 (lines ++ rest) else html_to_end kind [] 0 (lines ++ rest)) at_blank
    ∙ to-a-blank [] 0 lines rest none_is h
    ∙ ap (λ k. taken (flat_map with_ending lines) k rest) (let same : 0 + length lines ≡ length lines = omega arith in same)

-- Items

pub kind_of_itself : KindOfItself
kind_of_itself Dash = refl
kind_of_itself Plus = refl
kind_of_itself Star = refl
kind_of_itself (Dot n) = refl
kind_of_itself (Paren n) = refl

next-beyond : (kind other : ListKind) (n m : ℕ) (rest : Parts) (items : ItemParts) → is_same_kind kind other ≡ true
    → next_items kind m (blank_lines n (list other items rest)) ≡ Some (m + n, items, rest)
unfolding next_items
next-beyond kind other zero m rest items e = ap (λ v. given v (m, items, rest)) e ∙ ap (λ k. Some (k, items, rest)) (let same : m ≡ m + 0 = omega arith in same)
next-beyond kind other (suc n) m rest items e = next-beyond kind other n (suc m) rest items e ∙ ap (λ k. Some (k, items, rest)) (let same : suc m + n ≡ m + suc n = omega arith in same)

pub item_before_its_list : ItemBeforeItsList
unfolding put_item
item_before_its_list kind other n inside rest items e =
    ap (put_before kind inside (blank_lines n (list other items rest))) (next-beyond kind other n 0 rest items e)
    ∙ ap (λ k. list kind (item inside k items) rest) (let same : 0 + n ≡ n = omega arith in same)

pub item_by_itself : ItemByItself
unfolding put_item
item_by_itself kind inside rest e = ap (put_before kind inside rest) e
