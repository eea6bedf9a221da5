-- The parts of lines have as many lines as there are, and each leaf has one at least.
use Rattle.std.proofs.Common.{◌≡◌, ℕ, zero, suc, ◌+◌, ◌<◌, ◌≤◌, Bool, true, false, List, [], ◌∷◌, ◌++◌, length, refl, sym, ◌∙◌, ap, arith, le_refl, Some, None, IfSome, length-append}
use Rattle.std.specs.Prelude.{⊤, Option, ◌==◌, if◌then◌else◌}
use Rattle.std.specs.List.{list_all}
use Rattle.cm_text.specs.Rules.{Rules}
use Rattle.cm_text.specs.LineText.{is_line}
use Rattle.cm_text.specs.Lines.{LineView}
use Rattle.cm_text.specs.Indentation.{indent_of}
use Rattle.cm_tree.specs.declared.tree.ListKind.{ListKind}
use Rattle.cm_scan.specs.Words.{is_space_or_tab, is_blank_text, is_empty, skip, trim_start, keep_byte, trim_end_by, trim_end}
use Rattle.cm_scan.specs.blocks.Lines.{is_blank, content_of, marks}
use Rattle.cm_scan.specs.blocks.LineForms.{Fence, ItemMarker}
use Rattle.cm_scan.specs.blocks.HtmlBlocks.{HtmlKind}
use Rattle.cm_scan.specs.inlines.Links.{LinkDefinition, label, link_definition, Definitions, definitions_within, definitions_of}
use Rattle.cm_scan.specs.blocks.Starts.{Start, QuoteMarker, start_of, Continuation, Stays, StaysIfOpen, Leaves, after_quote_marker, continuation_in_quote, first_content, continuation_in_item}
use Rattle.cm_scan.specs.blocks.Parts.{LeafPart, Parts, none, blank, leaf, quote, list, ItemParts, leaves_paragraph_open, next_items, put_before, put_item, put_leaves}
use Rattle.cm_scan.specs.blocks.Blocks.{add_text, rest_of, NextLine, GoesOn, Ends, Underlines, next_line, TextRun, text_run, line_feeds, line_count, definition_leaves, content_leaf, leaves_of_run, fenced, html_to_end, html_to_blank, html_lines, indented, Inside, inside, is_bare}
use Rattle.cm_scan.specs.blocks.Starts.{IndentedCode, AtxHeading, OpeningFence, HtmlStart, BreakLine, ItemStart, TextLine, content_column}
use Rattle.cm_scan.specs.blocks.Blocks.{code_line, quote_parts, item_parts, fence_parts, html_parts, code_parts, text_parts, parts_by_start, parts_of, blocks_of, owners_of}
use Rattle.cm_scan.specs.blocks.Parts.{line_owners}
use Rattle.cm_scan.specs.blocks.Lines.{size}
use Rattle.cm_scan.specs.laws.PartLaws.{OneOwnerALine, RunsInOrder}
use Rattle.cm_scan.proofs.lemmas.texts.ByteSums.{AddsUp, NoMore, sum-append, sum-after_quote_marker, sum-first_content, no_more-quote, no_more-item}
use Rattle.cm_scan.proofs.lemmas.blocks.LineSizes.{by_continuation, marks-after_quote_marker, marks-first_content, keeps-quote, keeps-item, size-fenced, size-html_lines, size-indented, size-text_run, size-following, size-inner, some-inner}
use Rattle.cm_scan.proofs.lemmas.blocks.PartsByCases.{no_lines, blank_case, starting}
use Rattle.cm_scan.proofs.lemmas.links.LineFeedsLeft.{feeds-skip, takes_a_line}
use Rattle.cm_scan.specs.laws.Looseness.{line_total, items_total, HaveLines, ItemsHaveLines, PartsHaveLines}
use Rattle.cm_scan.proofs.lemmas.blocks.OwnersOfLines.{one_owner_a_line, leaves_in_order, tree-leaves}

-- lines without line feeds

abbrev pub Plain : List LineView → Type 0
Plain [] = ⊤
Plain (line ∷ lines) = (line_feeds line.text ≡ 0) × Plain lines

plain-append : (ks ls : List LineView) → Plain ks → Plain ls → Plain (ks ++ ls)
plain-append [] ls h k = k
plain-append (l ∷ ks) ls h k = (h.0, plain-append ks ls h.1 k)

no_feeds : (text : List ℕ) → is_line text ≡ true → line_feeds text ≡ 0
unfolding line_feeds
no_feeds [] e = refl
no_feeds (b ∷ bs) e = let h : is_line bs ≡ true → line_feeds bs ≡ 0 = no_feeds bs in grind (arith, e, h)

pub plain_lines : (lines : List LineView) → list_all (λ line. is_line line.text) lines ≡ true → Plain lines
plain_lines [] e = tt
plain_lines (l ∷ ls) e =
    let h : is_line l.text ≡ true = grind (arith, e) in
    let k : list_all (λ line. is_line line.text) ls ≡ true = grind (arith, e) in
    (no_feeds l.text h, plain_lines ls k)

feeds-one_more : (b : ℕ) (bs : List ℕ) → line_feeds (b ∷ bs) ≡ (if b == 10 then 1 else 0) + line_feeds bs
unfolding line_feeds
feeds-one_more b bs = grind arith

feeds-adds : AddsUp line_feeds
unfolding line_feeds
feeds-adds = record { of_byte = λ b. if b == 10 then 1 else 0; of_nothing = refl; one_more = feeds-one_more; of_space = refl }

-- the lines of a container and those that follow are all

abbrev LetsIn : (Bool → LineView → Continuation) → Type 0
LetsIn continuation = (bare : Bool) (line : LineView) → NoMore line_feeds line (continuation bare line)

-- this number of lines, without line feeds
abbrev Whole : ℕ → Inside → Type 0
Whole n i = (length i.inner + length i.following ≡ n) × Plain i.inner × Plain i.following

zero-le : (n m : ℕ) → n ≤ m → m ≡ 0 → n ≡ 0
zero-le n m h e = omega (arith, h, e)

pub inside-whole : (rules : Rules) (parts : List LineView → Parts) (continuation : Bool → LineView → Continuation) → LetsIn continuation → (so_far lines : List LineView)
    → Plain so_far → Plain lines → Whole (length so_far + length lines) (inside rules parts continuation so_far lines)
unfolding inside
inside-whole rules parts continuation lets so_far [] h k = (refl, h, k)
inside-whole rules parts continuation lets so_far (line ∷ lines) h k =
    go (continuation (is_bare so_far) line) (lets (is_bare so_far) line) (λ inner. inside-whole rules parts continuation lets (so_far ++ inner ∷ []) lines)
  where
    n : ℕ
    n = length so_far + suc (length lines)

    longer : (inner : LineView) → line_feeds inner.text ≤ line_feeds line.text
        → ((inner : LineView) → Plain (so_far ++ inner ∷ []) → Plain lines → Whole (length (so_far ++ inner ∷ []) + length lines) (inside rules parts continuation (so_far ++ inner ∷ []) lines))
        → Whole n (inside rules parts continuation (so_far ++ inner ∷ []) lines)
    longer inner le more =
        let w = more inner (plain-append so_far (inner ∷ []) h (zero-le _ _ le k.0, tt)) k.1 in
        (omega (arith, w.0, length-append so_far (inner ∷ [])), w.1, w.2)

    go : (p : Continuation) → NoMore line_feeds line p
        → ((inner : LineView) → Plain (so_far ++ inner ∷ []) → Plain lines → Whole (length (so_far ++ inner ∷ []) + length lines) (inside rules parts continuation (so_far ++ inner ∷ []) lines))
        → Whole n (by_continuation rules parts continuation so_far line lines p)
    go (Stays inner) le more = longer inner le more
    go (StaysIfOpen inner) le more = by_open (leaves_paragraph_open (parts so_far))
      where
        by_open : (v : Bool) → Whole n (elim v as (λ _. Inside) [
          | true ↦ inside rules parts continuation (so_far ++ inner ∷ []) lines
          | false ↦ record { inner = so_far; following = line ∷ lines }
        ])
        by_open true = longer inner le more
        by_open false = (refl, h, k)
    go Leaves le more = (refl, h, k)

-- the lines of one leaf

fenced-count : (fence : Fence) (columns : ℕ) (text : List ℕ) (n : ℕ) (lines : List LineView)
    → (fenced fence columns text n lines).lines + length (fenced fence columns text n lines).following ≡ n + length lines
unfolding fenced
fenced-count fence columns text n [] = refl
fenced-count fence columns text n (line ∷ lines) =
    let h : (s : List ℕ) → (fenced fence columns s (suc n) lines).lines + length (fenced fence columns s (suc n) lines).following ≡ suc n + length lines
    = λ s. fenced-count fence columns s (suc n) lines in
    grind (arith, h)

to_end-count : (kind : HtmlKind) (text : List ℕ) (n : ℕ) (lines : List LineView)
    → (html_to_end kind text n lines).lines + length (html_to_end kind text n lines).following ≡ n + length lines
unfolding html_to_end
to_end-count kind text n [] = refl
to_end-count kind text n (line ∷ lines) =
    let h : (s : List ℕ) → (html_to_end kind s (suc n) lines).lines + length (html_to_end kind s (suc n) lines).following ≡ suc n + length lines
    = λ s. to_end-count kind s (suc n) lines in
    grind (arith, h)

to_blank-count : (text : List ℕ) (n : ℕ) (lines : List LineView)
    → (html_to_blank text n lines).lines + length (html_to_blank text n lines).following ≡ n + length lines
unfolding html_to_blank
to_blank-count text n [] = refl
to_blank-count text n (line ∷ lines) =
    let h : (s : List ℕ) → (html_to_blank s (suc n) lines).lines + length (html_to_blank s (suc n) lines).following ≡ suc n + length lines
    = λ s. to_blank-count s (suc n) lines in
    grind (arith, h)

indented-count : (text : List ℕ) (n : ℕ) (blanks lines : List LineView)
    → (indented text n blanks lines).lines + length (indented text n blanks lines).following ≡ n + length blanks + length lines
unfolding indented
indented-count text n blanks [] = omega arith
indented-count text n blanks (line ∷ lines) =
    let h : (s : List ℕ) (m : ℕ) → (indented s m [] lines).lines + length (indented s m [] lines).following ≡ m + length {A = LineView} [] + length lines
    = λ s m. indented-count s m [] lines in
    let k : (indented text n (blanks ++ line ∷ []) lines).lines + length (indented text n (blanks ++ line ∷ []) lines).following ≡ n + length (blanks ++ line ∷ []) + length lines
    = indented-count text n (blanks ++ line ∷ []) lines in
    let more : length (blanks ++ line ∷ []) ≡ length blanks + length (line ∷ []) = length-append blanks (line ∷ []) in
    let kept : length (blanks ++ line ∷ lines) ≡ length blanks + length (line ∷ lines) = length-append blanks (line ∷ lines) in
    grind (arith, h, k, more, kept)

fenced-fewer : (fence : Fence) (columns : ℕ) (text : List ℕ) (n : ℕ) (lines : List LineView) → length (fenced fence columns text n lines).following ≤ length lines
unfolding fenced
fenced-fewer fence columns text n [] = le_refl _
fenced-fewer fence columns text n (line ∷ lines) =
    let h : (s : List ℕ) → length (fenced fence columns s (suc n) lines).following ≤ length lines = λ s. fenced-fewer fence columns s (suc n) lines in
    grind (arith, h)

to_end-fewer : (kind : HtmlKind) (text : List ℕ) (n : ℕ) (lines : List LineView) → length (html_to_end kind text n lines).following ≤ length lines
unfolding html_to_end
to_end-fewer kind text n [] = le_refl _
to_end-fewer kind text n (line ∷ lines) =
    let h : (s : List ℕ) → length (html_to_end kind s (suc n) lines).following ≤ length lines = λ s. to_end-fewer kind s (suc n) lines in
    grind (arith, h)

to_blank-fewer : (text : List ℕ) (n : ℕ) (lines : List LineView) → length (html_to_blank text n lines).following ≤ length lines
unfolding html_to_blank
to_blank-fewer text n [] = le_refl _
to_blank-fewer text n (line ∷ lines) =
    let h : (s : List ℕ) → length (html_to_blank s (suc n) lines).following ≤ length lines = λ s. to_blank-fewer s (suc n) lines in
    grind (arith, h)

-- an HTML block has its first line
html-fewer : (kind : HtmlKind) (line : LineView) (lines : List LineView) → is_blank line ≡ false → length (html_lines kind (line ∷ lines)).following ≤ length lines
unfolding html_lines html_to_end html_to_blank
html-fewer kind line lines e =
    let h : (s : List ℕ) → length (html_to_end kind s 1 lines).following ≤ length lines = λ s. to_end-fewer kind s 1 lines in
    let k : (s : List ℕ) → length (html_to_blank s 1 lines).following ≤ length lines = λ s. to_blank-fewer s 1 lines in
    grind (arith, e, h, k)

html-count : (kind : HtmlKind) (lines : List LineView) → (html_lines kind lines).lines + length (html_lines kind lines).following ≡ length lines
unfolding html_lines
html-count kind lines =
    let h : (html_to_end kind [] 0 lines).lines + length (html_to_end kind [] 0 lines).following ≡ 0 + length lines = to_end-count kind [] 0 lines in
    let k : (html_to_blank [] 0 lines).lines + length (html_to_blank [] 0 lines).following ≡ 0 + length lines = to_blank-count [] 0 lines in
    grind (arith, h, k)

indented-some : (text : List ℕ) (n : ℕ) (blanks lines : List LineView) → n ≤ (indented text n blanks lines).lines
unfolding indented
indented-some text n blanks [] = le_refl _
indented-some text n blanks (line ∷ lines) =
    let h : (s : List ℕ) (m : ℕ) → m ≤ (indented s m [] lines).lines = λ s m. indented-some s m [] lines in
    let k : n ≤ (indented text n (blanks ++ line ∷ []) lines).lines = indented-some text n (blanks ++ line ∷ []) lines in
    grind (arith, h, k)

-- what follows has no line feeds either

fenced-plain : (fence : Fence) (columns : ℕ) (text : List ℕ) (n : ℕ) (lines : List LineView) → Plain lines → Plain (fenced fence columns text n lines).following
unfolding fenced
fenced-plain fence columns text n [] h = tt
fenced-plain fence columns text n (line ∷ lines) h =
    let k : (s : List ℕ) → Plain (fenced fence columns s (suc n) lines).following = λ s. fenced-plain fence columns s (suc n) lines h.1 in
    let l = h.1 in
    grind (arith, k, l)

to_end-plain : (kind : HtmlKind) (text : List ℕ) (n : ℕ) (lines : List LineView) → Plain lines → Plain (html_to_end kind text n lines).following
unfolding html_to_end
to_end-plain kind text n [] h = tt
to_end-plain kind text n (line ∷ lines) h =
    let k : (s : List ℕ) → Plain (html_to_end kind s (suc n) lines).following = λ s. to_end-plain kind s (suc n) lines h.1 in
    let l = h.1 in
    grind (arith, k, l)

to_blank-plain : (text : List ℕ) (n : ℕ) (lines : List LineView) → Plain lines → Plain (html_to_blank text n lines).following
unfolding html_to_blank
to_blank-plain text n [] h = tt
to_blank-plain text n (line ∷ lines) h =
    let k : (s : List ℕ) → Plain (html_to_blank s (suc n) lines).following = λ s. to_blank-plain s (suc n) lines h.1 in
    grind (arith, k, h)

indented-plain : (text : List ℕ) (n : ℕ) (blanks lines : List LineView) → Plain blanks → Plain lines → Plain (indented text n blanks lines).following
unfolding indented
indented-plain text n blanks [] b h = b
indented-plain text n blanks (line ∷ lines) b h =
    let k : (s : List ℕ) (m : ℕ) → Plain (indented s m [] lines).following = λ s m. indented-plain s m [] lines tt h.1 in
    let l : Plain (indented text n (blanks ++ line ∷ []) lines).following = indented-plain text n (blanks ++ line ∷ []) lines (plain-append blanks (line ∷ []) b (h.0, tt)) h.1 in
    let m : Plain (blanks ++ line ∷ lines) = plain-append blanks (line ∷ lines) b h in
    grind (arith, k, l, m)

html-plain : (kind : HtmlKind) (lines : List LineView) → Plain lines → Plain (html_lines kind lines).following
unfolding html_lines
html-plain kind lines h =
    let k : Plain (html_to_end kind [] 0 lines).following = to_end-plain kind [] 0 lines h in
    let l : Plain (html_to_blank [] 0 lines).following = to_blank-plain [] 0 lines h in
    grind (arith, k, l)

-- a run of text

-- a first byte that is neither space nor tab
abbrev pub Firm : List ℕ → Type 0
Firm [] = ⊥
Firm (b ∷ bs) = is_space_or_tab b ≡ false

pub firm-content : (text : List ℕ) → is_blank_text text ≡ false → Firm (trim_start text)
unfolding skip
firm-content [] e = grind (arith, e)
firm-content (b ∷ bs) e =
    let h : is_blank_text bs ≡ false → Firm (trim_start bs) = firm-content bs in
    grind (arith, e, h)

pub firm-add_text : (source : List ℕ) (line : LineView) → Firm source → Firm (add_text source line)
firm-add_text [] line h = absurd h
firm-add_text (b ∷ bs) line h = h

feeds-add_text : (source : List ℕ) (line : LineView) → Firm source → line_feeds line.text ≡ 0 → line_feeds (add_text source line) ≡ suc (line_feeds source)
unfolding line_feeds
feeds-add_text [] line h e = absurd h
feeds-add_text (b ∷ bs) line h e =
    let k : line_feeds ((b ∷ bs) ++ 10 ∷ content_of line) ≡ line_feeds (b ∷ bs) + line_feeds (10 ∷ content_of line) = sum-append line_feeds feeds-adds (b ∷ bs) (10 ∷ content_of line) in
    let l : line_feeds (content_of line) ≤ line_feeds line.text = feeds-skip is_space_or_tab line.text in
    omega (arith, k, l, e)

abbrev underline_lines : Option ℕ → ℕ
underline_lines None = 0
underline_lines (Some level) = 1

-- what is left above an underline isn't nothing
abbrev HasContent : TextRun → Type 0
HasContent run = IfSome run.level (λ level. is_empty (rest_of run.source) ≡ false)

-- a run of the given number of lines
record RunOf (n : ℕ) (run : TextRun) : Type 0 where
  firm : Firm run.source
  counted : line_feeds run.source + underline_lines run.level + length run.following ≡ n
  plain : Plain run.following
  content : HasContent run

pub underlined : (rules : Rules) (source : List ℕ) (line : LineView) (level : ℕ) → next_line rules source line ≡ Underlines level → is_empty (rest_of source) ≡ false
unfolding next_line
underlined rules source line level e = grind (arith, e)

text_run-of : (rules : Rules) (source : List ℕ) (lines : List LineView) → Firm source → Plain lines → RunOf (line_feeds source + length lines) (text_run rules source lines)
unfolding text_run
text_run-of rules source [] h p = record { firm = h; counted = omega arith; plain = tt; content = tt }
text_run-of rules source (line ∷ lines) h p =
    go (next_line rules source line) (λ level e. underlined rules source line level e) (text_run-of rules (add_text source line) lines (firm-add_text source line h) p.1)
  where
    go : (next : NextLine) → ((level : ℕ) → next ≡ Underlines level → is_empty (rest_of source) ≡ false)
        → RunOf (line_feeds (add_text source line) + length lines) (text_run rules (add_text source line) lines)
        → RunOf (line_feeds source + suc (length lines)) (elim next as (λ _. TextRun) [
          | GoesOn ↦ text_run rules (add_text source line) lines
          | Ends ↦ record { source = source; level = None; following = line ∷ lines }
          | Underlines level ↦ record { source = source; level = Some level; following = lines }
        ])
    go GoesOn u more = record { firm = more.firm; counted = omega (arith, more.counted, feeds-add_text source line h p.0); plain = more.plain; content = more.content }
    go Ends u more = record { firm = h; counted = omega arith; plain = p; content = tt }
    go (Underlines level) u more = record { firm = h; counted = omega arith; plain = p.1; content = u level refl }

-- trimming takes no line feed, and not all

feeds-keep_byte : (b : ℕ) (bs : List ℕ) → line_feeds (keep_byte is_space_or_tab b bs) ≡ line_feeds (b ∷ bs)
unfolding line_feeds
feeds-keep_byte b [] = grind arith
feeds-keep_byte b (c ∷ cs) = refl

pub feeds_trimmed : (text : List ℕ) → line_feeds (trim_end text) ≡ line_feeds text
unfolding trim_end_by line_feeds
feeds_trimmed [] = refl
feeds_trimmed (b ∷ bs) =
    let h : line_feeds (trim_end bs) ≡ line_feeds bs = feeds_trimmed bs in
    let k : line_feeds (keep_byte is_space_or_tab b (trim_end bs)) ≡ line_feeds (b ∷ trim_end bs) = feeds-keep_byte b (trim_end bs) in
    grind (arith, h, k)

firm-keep_byte : (b : ℕ) (bs : List ℕ) → is_space_or_tab b ≡ false → Firm (keep_byte is_space_or_tab b bs)
firm-keep_byte b [] e = grind (arith, e)
firm-keep_byte b (c ∷ cs) e = e

firm-trim_end : (text : List ℕ) → Firm text → Firm (trim_end text)
unfolding trim_end_by
firm-trim_end [] h = absurd h
firm-trim_end (b ∷ bs) h = firm-keep_byte b (trim_end bs) h

count-firm : (text : List ℕ) → Firm text → line_count text ≡ suc (line_feeds text)
count-firm [] h = absurd h
count-firm (b ∷ bs) h = refl

-- the leaves of a run

lines_of_leaves : List (LeafPart × ℕ) → ℕ
lines_of_leaves [] = 0
lines_of_leaves (x ∷ xs) = x.1 + lines_of_leaves xs

AllSome : List (LeafPart × ℕ) → Type 0
AllSome [] = ⊤
AllSome (x ∷ xs) = (0 < x.1) × AllSome xs

lines-append : (xs ys : List (LeafPart × ℕ)) → lines_of_leaves (xs ++ ys) ≡ lines_of_leaves xs + lines_of_leaves ys
unfolding lines_of_leaves
lines-append [] ys = omega arith
lines-append (x ∷ xs) ys = omega (arith, lines-append xs ys)

some-append : (xs ys : List (LeafPart × ℕ)) → AllSome xs → AllSome ys → AllSome (xs ++ ys)
unfolding AllSome
some-append [] ys h k = k
some-append (x ∷ xs) ys h k = (h.0, some-append xs ys h.1 k)

-- the definitions at the start of a text, and the lines of what is left
record Definers (text : List ℕ) (found : Definitions) : Type 0 where
  counted : lines_of_leaves (definition_leaves text found.taken) + line_count found.left ≡ line_count text
  some : AllSome (definition_leaves text found.taken)

count-cons : (b : ℕ) (bs : List ℕ) → line_count (b ∷ bs) ≡ suc (line_feeds (b ∷ bs))
count-cons b bs = refl

none-empty : (d : LinkDefinition) → ¬ (link_definition [] ≡ Some d)
unfolding link_definition label
none-empty d e = cc

definers : (n : ℕ) (text : List ℕ) → Definers text (definitions_within n text)
unfolding definitions_within definition_leaves lines_of_leaves AllSome
definers zero text = record { counted = omega arith; some = tt }
definers (suc n) text = go (link_definition text) (takes_a_line text) refl (λ rest. definers n rest)
  where
    go : (found : Option LinkDefinition) → IfSome found (λ d. line_count d.rest ≤ line_feeds text) → link_definition text ≡ found
        → ((rest : List ℕ) → Definers rest (definitions_within n rest)) → Definers text (elim found as (λ _. Definitions) [
          | Some d ↦ let more = definitions_within n d.rest in record { taken = d ∷ more.taken; left = more.left }
          | None ↦ record { taken = []; left = text }
        ])
    go None h e more_of = record { counted = omega arith; some = tt }
    go (Some d) h e more_of =
        let more = more_of d.rest in
        let fewer : line_count d.rest < line_count text = below text d h e in
        record { counted = omega (arith, more.counted, fewer); some = (omega (arith, fewer), more.some) }
      where
        below : (t : List ℕ) (d : LinkDefinition) → line_count d.rest ≤ line_feeds t → link_definition t ≡ Some d → line_count d.rest < line_count t
        below [] d h e = absurd (none-empty d e)
        below (b ∷ bs) d h e = omega (arith, h, count-cons b bs)

-- what is left of a run, as a leaf
content-count : (level : Option ℕ) (left : List ℕ) → IfSome level (λ l. is_empty left ≡ false) → lines_of_leaves (content_leaf level left) ≡ line_count left + underline_lines level
unfolding lines_of_leaves
content-count None [] h = refl
content-count (Some level) [] h = grind (arith, h)
content-count None (b ∷ bs) h = omega arith
content-count (Some level) (b ∷ bs) h = omega arith

content-some : (level : Option ℕ) (left : List ℕ) → AllSome (content_leaf level left)
unfolding AllSome
content-some None [] = tt
content-some (Some level) [] = tt
content-some None (b ∷ bs) = (omega arith, tt)
content-some (Some level) (b ∷ bs) = (omega arith, tt)

run-count : (n : ℕ) (run : TextRun) → RunOf n run → lines_of_leaves (leaves_of_run run) + length run.following ≡ suc n
unfolding leaves_of_run definitions_of rest_of
run-count n run r =
    let source = trim_end run.source in
    let found = definitions_within (length source) source in
    let d = definers (length source) source in
    omega (
      arith,
      lines-append (definition_leaves source found.taken) (content_leaf run.level found.left),
      d.counted,
      content-count run.level found.left r.content,
      count-firm source (firm-trim_end run.source r.firm),
      feeds_trimmed run.source,
      r.counted,
    )

run-some : (run : TextRun) → AllSome (leaves_of_run run)
unfolding leaves_of_run definitions_of
run-some run =
    let source = trim_end run.source in
    let found = definitions_within (length source) source in
    some-append (definition_leaves source found.taken) (content_leaf run.level found.left) (definers (length source) source).some (content-some run.level found.left)

leaves-count : (xs : List (LeafPart × ℕ)) (p : Parts) → line_total (put_leaves xs p) ≡ lines_of_leaves xs + line_total p
unfolding put_leaves line_total lines_of_leaves
leaves-count [] p = omega arith
leaves-count (x ∷ xs) p = omega (arith, leaves-count xs p)

leaves-have : (xs : List (LeafPart × ℕ)) (p : Parts) → AllSome xs → HaveLines p → HaveLines (put_leaves xs p)
unfolding put_leaves HaveLines AllSome
leaves-have [] p h k = k
leaves-have (x ∷ xs) p h k = (h.0, leaves-have xs p h.1 k)

-- an item before what follows it

abbrev Following : Type 0
Following = ℕ × ItemParts × Parts

abbrev CountsOn : ℕ → Option Following → Type 0
CountsOn n found = IfSome found (λ (f : Following). f.0 + (items_total f.1 + line_total f.2) ≡ n)

next-count : (kind : ListKind) (n : ℕ) (p : Parts) → CountsOn (n + line_total p) (next_items kind n p)
unfolding next_items line_total
next-count kind n none = tt
next-count kind n (blank rest) = let h : CountsOn (suc n + line_total rest) (next_items kind (suc n) rest) = next-count kind (suc n) rest in grind (arith, h)
next-count kind n (leaf x lines rest) = tt
next-count kind n (quote inside rest) = tt
next-count kind n (list other items rest) = grind arith

abbrev ItemsHaveLinesOn : Option Following → Type 0
ItemsHaveLinesOn found = IfSome found (λ (f : Following). ItemsHaveLines f.1 × HaveLines f.2)

next-have : (kind : ListKind) (n : ℕ) (p : Parts) → HaveLines p → ItemsHaveLinesOn (next_items kind n p)
unfolding next_items HaveLines
next-have kind n none h = tt
next-have kind n (blank rest) h = next-have kind (suc n) rest h
next-have kind n (leaf x lines rest) h = tt
next-have kind n (quote inside rest) h = tt
next-have kind n (list other items rest) h = grind (arith, h)

item-count : (kind : ListKind) (inside p : Parts) → line_total (put_item kind inside p) ≡ line_total inside + line_total p
unfolding put_item line_total items_total
item-count kind inside p = go (next_items kind 0 p) (next-count kind 0 p)
  where
    go : (found : Option Following) → CountsOn (0 + line_total p) found → line_total (put_before kind inside p found) ≡ line_total inside + line_total p
    go None h = omega arith
    go (Some f) h = omega (arith, h)

item-have : (kind : ListKind) (inside p : Parts) → 0 < line_total inside → HaveLines inside → HaveLines p → HaveLines (put_item kind inside p)
unfolding put_item HaveLines ItemsHaveLines
item-have kind inside p some h k = go (next_items kind 0 p) (next-have kind 0 p k)
  where
    go : (found : Option Following) → ItemsHaveLinesOn found → HaveLines (put_before kind inside p found)
    go None l = ((some, h), k)
    go (Some f) l = ((some, h, l.0), l.1)

-- all lines

-- parts that have just these lines, where each leaf has one at least
abbrev Good : Parts → ℕ → Type 0
Good p n = (line_total p ≡ n) × HaveLines p

module _ (rules : Rules) (line : LineView) (lines : List LineView) (plain : Plain (line ∷ lines)) (firm : is_blank line ≡ false)
    (good : (ls : List LineView) → size ls < size (line ∷ lines) → Plain ls → Good (parts_of rules ls) (length ls)) where
  good-rest : Good (parts_of rules lines) (length lines)
  unfolding size
  good-rest = good lines (omega arith) plain.1

  -- a leaf of the given number of lines, and what follows it
  good-leaf : (x : LeafPart) (n : ℕ) (following : List LineView) → 0 < n → size following < size (line ∷ lines) → Plain following
      → n + length following ≡ suc (length lines) → Good (leaf x n (parts_of rules following)) (suc (length lines))
  unfolding line_total HaveLines
  good-leaf x n following some less p counted = let g = good following less p in (omega (arith, g.0, counted), (some, g.1))

  good-one : (x : LeafPart) → Good (leaf x 1 (parts_of rules lines)) (suc (length lines))
  unfolding size
  good-one x = good-leaf x 1 lines (omega arith) (omega arith) plain.1 (omega arith)

  good-fence : (fence : Fence) → Good (fence_parts rules (parts_of rules) fence line lines) (suc (length lines))
  unfolding fence_parts size
  good-fence fence =
      let t = fenced fence (indent_of line) [] 1 lines in
      let counted = fenced-count fence (indent_of line) [] 1 lines in
      let less : size t.following ≤ size lines = size-fenced fence (indent_of line) [] 1 lines in
      let fewer : length t.following ≤ length lines = fenced-fewer fence (indent_of line) [] 1 lines in
      good-leaf _ t.lines t.following (omega (arith, counted, fewer)) (omega (arith, less)) (fenced-plain fence (indent_of line) [] 1 lines plain.1) (omega (arith, counted))

  good-html : (kind : HtmlKind) → Good (html_parts rules (parts_of rules) kind line lines) (suc (length lines))
  unfolding html_parts
  good-html kind =
      let t = html_lines kind (line ∷ lines) in
      let counted = html-count kind (line ∷ lines) in
      let fewer : length t.following ≤ length lines = html-fewer kind line lines firm in
      good-leaf _ t.lines t.following (omega (arith, counted, fewer)) (size-html_lines kind line lines firm) (html-plain kind (line ∷ lines) plain) (omega (arith, counted))

  good-code : Good (code_parts rules (parts_of rules) line lines) (suc (length lines))
  unfolding code_parts size
  good-code =
      let t = indented (code_line line) 1 [] lines in
      let counted : t.lines + length t.following ≡ 1 + length {A = LineView} [] + length lines = indented-count (code_line line) 1 [] lines in
      let some : 1 ≤ t.lines = indented-some (code_line line) 1 [] lines in
      let less : size t.following ≤ size [] + size lines = size-indented (code_line line) 1 [] lines in
      good-leaf _ t.lines t.following (omega (arith, some)) (omega (arith, less)) (indented-plain (code_line line) 1 [] lines tt plain.1) (omega (arith, counted))

  good-text : Good (text_parts rules (parts_of rules) line lines) (suc (length lines))
  unfolding text_parts size
  good-text =
      let run = text_run rules (content_of line) lines in
      let r = text_run-of rules (content_of line) lines (firm-content line.text firm) plain.1 in
      let less : size run.following ≤ size lines = size-text_run rules (content_of line) lines in
      let g = good run.following (omega (arith, less)) r.plain in
      let none : line_feeds (content_of line) ≡ 0 = zero-le _ _ (feeds-skip is_space_or_tab line.text) plain.0 in (
        omega (arith, leaves-count (leaves_of_run run) (parts_of rules run.following), run-count _ run r, g.0, none),
        leaves-have (leaves_of_run run) (parts_of rules run.following) (run-some run) g.1,
      )

  good-quote : Good (quote_parts rules (parts_of rules) line lines) (suc (length lines))
  unfolding quote_parts size line_total HaveLines
  good-quote =
      let continuation : Bool → LineView → Continuation = λ bare l. continuation_in_quote rules l in
      let first = after_quote_marker line in
      let less : marks first.text < marks line.text = marks-after_quote_marker line firm in
      let i = inside rules (parts_of rules) continuation (first ∷ []) lines in
      let w = inside-whole rules (parts_of rules) continuation (λ bare l. no_more-quote line_feeds feeds-adds rules l) (first ∷ []) lines
      (zero-le _ _ (sum-after_quote_marker line_feeds feeds-adds line) plain.0, tt) plain.1 in
      let g = good i.inner (omega (arith, size-inner rules (parts_of rules) continuation (λ bare l. keeps-quote rules l) (first ∷ []) lines)) w.1 in
      let h = good i.following (omega (arith, size-following rules (parts_of rules) continuation (first ∷ []) lines)) w.2 in
      let some : 0 < length i.inner = some-inner rules (parts_of rules) continuation (first ∷ []) lines (omega arith) in
      (omega (arith, w.0, g.0, h.0), (omega (arith, g.0, some), g.1, h.1))

  good-item : (marker : ItemMarker) → Good (item_parts rules (parts_of rules) marker line lines) (suc (length lines))
  unfolding item_parts size
  good-item marker =
      let continuation = continuation_in_item rules (content_column marker line) in
      let first = first_content marker line in
      let less : marks first.text < marks line.text = marks-first_content marker line firm in
      let i = inside rules (parts_of rules) continuation (first ∷ []) lines in
      let w = inside-whole rules (parts_of rules) continuation (no_more-item line_feeds feeds-adds rules (content_column marker line)) (first ∷ []) lines
      (zero-le _ _ (sum-first_content line_feeds feeds-adds marker line) plain.0, tt) plain.1 in
      let g = good i.inner (omega (arith, size-inner rules (parts_of rules) continuation (keeps-item rules (content_column marker line)) (first ∷ []) lines)) w.1 in
      let h = good i.following (omega (arith, size-following rules (parts_of rules) continuation (first ∷ []) lines)) w.2 in
      let some : 0 < length i.inner = some-inner rules (parts_of rules) continuation (first ∷ []) lines (omega arith) in (
        omega (arith, item-count marker.kind (parts_of rules i.inner) (parts_of rules i.following), w.0, g.0, h.0),
        item-have marker.kind (parts_of rules i.inner) (parts_of rules i.following) (omega (arith, g.0, some)) g.1 h.1,
      )

  good-start : (start : Start) → Good (parts_by_start rules (parts_of rules) start line lines) (suc (length lines))
  unfolding parts_by_start
  good-start IndentedCode = good-code
  good-start QuoteMarker = good-quote
  good-start (AtxHeading h) = good-one _
  good-start (OpeningFence fence) = good-fence fence
  good-start (HtmlStart kind) = good-html kind
  good-start BreakLine = good-one _
  good-start (ItemStart marker) = good-item marker
  good-start TextLine = good-text

good-within : (rules : Rules) (n : ℕ) (lines : List LineView) → size lines ≤ n → Plain lines → Good (parts_of rules lines) (length lines)
unfolding size line_total HaveLines
good-within rules zero [] h p = rw (no_lines rules) (refl, tt)
good-within rules zero (line ∷ lines) h p = absurd (omega arith)
good-within rules (suc n) [] h p = rw (no_lines rules) (refl, tt)
good-within rules (suc n) (line ∷ lines) h p = go (is_blank line) refl (λ ls less q. good-within rules n ls (omega (arith, h, less)) q)
  where
    go : (v : Bool) → is_blank line ≡ v → ((ls : List LineView) → size ls < size (line ∷ lines) → Plain ls → Good (parts_of rules ls) (length ls))
        → Good (parts_of rules (line ∷ lines)) (suc (length lines))
    go true e good = let g = good lines (omega arith) p.1 in rw (blank_case rules line lines e) (ap suc g.0, g.1)
    go false e good = rw (starting rules (start_of rules line) line lines (e, refl)) (good-start rules line lines p e good (start_of rules line))

pub one_owner : OneOwnerALine
unfolding owners_of line_owners
one_owner rules lines e =
    one_owner_a_line 0 (parts_of rules lines) ∙ (good-within rules (size lines) lines (le_refl _) (plain_lines lines e)).0

pub parts_have_lines : PartsHaveLines
parts_have_lines rules lines e = (good-within rules (size lines) lines (le_refl _) (plain_lines lines e)).1

pub in_order : RunsInOrder
unfolding owners_of line_owners blocks_of
in_order rules lines e =
    leaves_in_order (parts_of rules lines) (parts_have_lines rules lines e)
    ∙ ap Some (sym (tree-leaves (parts_of rules lines)))

-- the owners of lines
pub ruleset owners = (one_owner, in_order)
