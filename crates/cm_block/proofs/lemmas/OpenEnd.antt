-- What is open says whether the last line is a paragraph's or a definition's.
use Rattle.std.specs.Prelude.{⊤, ◌&&◌, nat_le, replicate}
use Rattle.std.proofs.Common.{◌≡◌, ℕ, zero, suc, ◌<◌, Bool, true, false, List, [], ◌∷◌, ◌++◌, length, refl, ◌∙◌, sym, ap, arith, Option, Some, None, le_refl, subst}
use Rattle.std.proofs.lemmas.List.{append_assoc, append-nil}
use Rattle.cm_text.specs.Rules.{Rules}
use Rattle.cm_text.specs.Lines.{LineView}
use Rattle.cm_text.specs.Indentation.{indent_of}
use Rattle.cm_tree.specs.declared.tree.ListKind.{ListKind}
use Rattle.cm_scan.specs.Words.{is_space_or_tab, is_empty, keep_byte, trim_end_by, trim_end, given}
use Rattle.cm_scan.specs.blocks.Lines.{is_blank, marks}
use Rattle.cm_scan.specs.blocks.LineForms.{is_same_kind}
use Rattle.cm_scan.specs.blocks.HtmlBlocks.{HtmlKind, is_html_end, ends_at_blank_line}
use Rattle.cm_scan.specs.inlines.Links.{LinkDefinition, Definitions, link_definition, definitions_within, definitions_of}
use Rattle.cm_scan.specs.blocks.Starts.{Start, IndentedCode, QuoteMarker, AtxHeading, OpeningFence, HtmlStart, BreakLine, ItemStart, TextLine, start_of, continuation_in_quote, continuation_in_item}
use Rattle.cm_scan.specs.blocks.Parts.{LeafPart, is_open_leaf, Parts, none, blank, leaf, quote, list, ItemParts, leaves_open_after, items_leave_open, leaves_paragraph_open, next_items, put_before, put_item}
use Rattle.cm_scan.specs.blocks.Blocks.{rest_of, NextLine, GoesOn, Ends, Underlines, next_line, definition_leaves, content_leaf, leaves_of_run, closes_fence}
use Rattle.cm_scan.specs.laws.PartLaws.{goes_inward}
use Rattle.cm_scan.proofs.lemmas.blocks.CountedLines.{Firm, firm-content, firm-add_text, underlined}
use Rattle.cm_block.specs.OpenLeaf.{OpenLeaf, no_leaf, open_text, open_code, open_fence, open_html, run_leaves, closed_leaves, is_open_text, LeafLine, stays_open, is_last, line_of_text, line_of_code, line_of_fence, line_of_html, line_of_leaf, LineOpens, begins_nothing, begins_leaf, begins_quote, begins_item, begin_of_start, begin_of}
use Rattle.cm_block.specs.Machine.{ClosedPart, closed_blank, closed_leaf, closed_quote, closed_item, put, put_all, Open, in_leaf, in_quote, in_item, has_open_text, Change, change, parts_of_leaves, closing, leaf_change, begin_by, begin_within, begin, after_closing, leaf_step, step, Machine, new_machine, take_line, take_lines}
use Rattle.cm_block.proofs.lemmas.BeginCases.{OfInner, inner-less, of-less}

-- whether the last line of some closed parts is a paragraph's or a definition's; the mark is the answer for the lines before
abbrev pub closed_part_open : ClosedPart → Bool
closed_part_open closed_blank = false
closed_part_open (closed_leaf x lines) = is_open_leaf x
closed_part_open (closed_quote inside) = leaves_paragraph_open inside
closed_part_open (closed_item kind inside) = leaves_paragraph_open inside

abbrev pub last_open : (before : Bool) → List ClosedPart → Bool
last_open before [] = before
last_open before (closed_part ∷ closed_parts) = last_open (closed_part_open closed_part) closed_parts

last_open-append : (before : Bool) (ps qs : List ClosedPart) → last_open before (ps ++ qs) ≡ last_open (last_open before ps) qs
last_open-append before [] qs = refl
last_open-append before (x ∷ ps) qs = last_open-append (closed_part_open x) ps qs

-- a reading that there is
pub given-is : {A : Type 0} (b : Bool) (x y : A) → given b x ≡ Some y → x ≡ y
given-is {A = A} true x y e = ap (λ (v : Option A). elim v as (λ _. A) [ Some z ↦ z | None ↦ x ]) e
given-is false x y e = grind (arith, e)

-- an item before what follows
next-open : (kind : ListKind) (n : ℕ) (before : Bool) (p : Parts) (following : ℕ × ItemParts × Parts) → next_items kind n p ≡ Some following
    → leaves_open_after before p ≡ leaves_open_after (items_leave_open following.1) following.2
unfolding next_items leaves_open_after
next-open kind n before none following e = grind (arith, e)
next-open kind n before (blank p) following e = next-open kind (suc n) false p following e
next-open kind n before (leaf x m p) following e = grind (arith, e)
next-open kind n before (quote c p) following e = grind (arith, e)
next-open kind n before (list other items p) following e =
    ap (λ (f : ℕ × ItemParts × Parts). leaves_open_after (items_leave_open f.1) f.2) (given-is (is_same_kind kind other) (n, items, p) following e)

put-open : (x : ClosedPart) (before : Bool) (p : Parts) → leaves_open_after before (put x p) ≡ leaves_open_after (closed_part_open x) p
unfolding put_item leaves_open_after leaves_paragraph_open
put-open closed_blank before p = refl
put-open (closed_leaf x n) before p = refl
put-open (closed_quote c) before p = refl
put-open (closed_item kind c) before p = go (next_items kind 0 p) refl
  where
    go : (v : Option (ℕ × ItemParts × Parts)) → next_items kind 0 p ≡ v → leaves_open_after before (put_before kind c p v) ≡ leaves_open_after (leaves_open_after false c) p
    go None e = refl
    go (Some following) e = sym (next-open kind 0 (leaves_open_after false c) p following e)

put_all-open : (ps : List ClosedPart) (before : Bool) (p : Parts) → leaves_open_after before (put_all ps p) ≡ leaves_open_after (last_open before ps) p
unfolding put_all
put_all-open [] before p = refl
put_all-open (x ∷ ps) before p = put-open x before (put_all ps p) ∙ put_all-open ps (closed_part_open x) p

ends-open : (ps : List ClosedPart) → leaves_paragraph_open (put_all ps none) ≡ last_open false ps
unfolding leaves_paragraph_open leaves_open_after
ends-open ps = put_all-open ps false none

-- the source of a run of text

some-keep_byte : (b : ℕ) (bs : List ℕ) → is_space_or_tab b ≡ false → is_empty (keep_byte is_space_or_tab b bs) ≡ false
some-keep_byte b [] e = grind (arith, e)
some-keep_byte b (c ∷ cs) e = refl

some-trim_end : (text : List ℕ) → Firm text → is_empty (trim_end text) ≡ false
unfolding trim_end_by
some-trim_end [] h = absurd h
some-trim_end (b ∷ bs) h = some-keep_byte b (trim_end bs) h

-- its leaves

parts_of_leaves-append : (xs ys : List (LeafPart × ℕ)) → parts_of_leaves (xs ++ ys) ≡ parts_of_leaves xs ++ parts_of_leaves ys
parts_of_leaves-append [] ys = refl
parts_of_leaves-append (x ∷ xs) ys = ap (λ ps. closed_leaf x.0 x.1 ∷ ps) (parts_of_leaves-append xs ys)

definitions-open : (text : List ℕ) (ds : List LinkDefinition) → last_open true (parts_of_leaves (definition_leaves text ds)) ≡ true
unfolding definition_leaves
definitions-open text [] = refl
definitions-open text (d ∷ ds) = definitions-open d.rest ds

-- where no definition is taken, all is left
definitions-left : (n : ℕ) (text : List ℕ) → (definitions_within n text).taken ≡ [] → (definitions_within n text).left ≡ text
unfolding definitions_within
definitions-left zero text e = refl
definitions-left (suc n) text e = go (link_definition text) e
  where
    found : Option LinkDefinition → Definitions
    found v = elim v as (λ _. Definitions) [
      | Some d ↦ let more = definitions_within n d.rest in record { taken = d ∷ more.taken; left = more.left }
      | None ↦ record { taken = []; left = text }
    ]

    go : (v : Option LinkDefinition) → (found v).taken ≡ [] → (found v).left ≡ text
    go None e = refl
    go (Some d) e = grind (arith, e)

pub true-false : true ≡ false → ⊥
true-false e = grind (arith, e)

leaves-open : (source left : List ℕ) (taken : List LinkDefinition) (before : Bool) → (taken ≡ [] → left ≡ source) → is_empty source ≡ false
    → last_open before (parts_of_leaves (definition_leaves source taken ++ content_leaf None left)) ≡ true
unfolding definition_leaves
leaves-open source (b ∷ t) taken before same h =
    ap (λ ps. last_open before ps) (parts_of_leaves-append (definition_leaves source taken) (content_leaf None (b ∷ t)))
    ∙ last_open-append before (parts_of_leaves (definition_leaves source taken)) (parts_of_leaves (content_leaf None (b ∷ t)))
leaves-open source [] (d ∷ ds) before same h =
    ap (λ ps. last_open before ps) (parts_of_leaves-append (definition_leaves source (d ∷ ds)) [])
    ∙ last_open-append before (parts_of_leaves (definition_leaves source (d ∷ ds))) []
    ∙ definitions-open d.rest ds
leaves-open source [] [] before same h = absurd (true-false (ap is_empty (same refl) ∙ h))

-- a run that is closed ends in a paragraph or a definition
pub run-open : (source : List ℕ) (before : Bool) → Firm source → last_open before (parts_of_leaves (run_leaves None source)) ≡ true
unfolding leaves_of_run definitions_of
run-open source before h =
    let text = trim_end source in
    let found = definitions_of text in
    leaves-open text found.left found.taken before (definitions-left (length text) text) (some-trim_end source h)

-- one that is underlined doesn't
content-closed : (before : Bool) (level : ℕ) (text : List ℕ) → is_empty text ≡ false → last_open before (parts_of_leaves (content_leaf (Some level) text)) ≡ false
content-closed before level [] e = grind (arith, e)
content-closed before level (b ∷ t) e = refl

heading-closed : (source : List ℕ) (level : ℕ) (before : Bool) → is_empty (rest_of source) ≡ false → last_open before (parts_of_leaves (run_leaves (Some level) source)) ≡ false
unfolding leaves_of_run rest_of
heading-closed source level before h =
    let text = trim_end source in
    let found = definitions_of text in
    ap (λ ps. last_open before ps) (parts_of_leaves-append (definition_leaves text found.taken) (content_leaf (Some level) found.left))
    ∙ last_open-append before (parts_of_leaves (definition_leaves text found.taken)) (parts_of_leaves (content_leaf (Some level) found.left))
    ∙ content-closed _ level found.left h

-- what the states that lines lead to keep: a run of text is firm; where nothing is open, the last line is no paragraph's; an item isn't
-- without anything

-- an open leaf that a line has started or continued
abbrev pub SoundLeaf : OpenLeaf → Type 0
SoundLeaf no_leaf = ⊥
SoundLeaf (open_text source) = Firm source
SoundLeaf _ = ⊤

abbrev pub FitLeaf : List ClosedPart → OpenLeaf → Type 0
FitLeaf closed_parts no_leaf = last_open false closed_parts ≡ false
FitLeaf closed_parts (open_text source) = Firm source
FitLeaf closed_parts _ = ⊤

abbrev pub NotFresh : List ClosedPart → Open (List ClosedPart) → Type 0
NotFresh [] (in_leaf no_leaf) = ⊥
NotFresh _ _ = ⊤

unfoldable pub Fit : List ClosedPart → Open (List ClosedPart) → Type 0
Fit closed_parts (in_leaf x) = FitLeaf closed_parts x
Fit closed_parts (in_quote closed now) = Fit closed now
Fit closed_parts (in_item kind column bare closed now) = NotFresh closed now × Fit closed now

blanks-closed : (n : ℕ) → last_open false (replicate n closed_blank) ≡ false
blanks-closed zero = refl
blanks-closed (suc n) = blanks-closed n

leaf-open : (x : OpenLeaf) (closed_parts : List ClosedPart) → FitLeaf closed_parts x → is_open_text x ≡ last_open (last_open false closed_parts) (closing (in_leaf x))
unfolding closing closed_leaves
leaf-open no_leaf closed_parts h = sym h
leaf-open (open_text source) closed_parts h = sym (ap (λ ps. last_open (last_open false closed_parts) ps) (append-nil (parts_of_leaves (run_leaves None source))) ∙ run-open source _ h)
leaf-open (open_code text lines blank_text blank_lines) closed_parts h = sym (blanks-closed blank_lines)
leaf-open (open_fence fence columns text lines) closed_parts h = refl
leaf-open (open_html kind text lines) closed_parts h = refl

open-last : (now : Open (List ClosedPart)) (closed_parts : List ClosedPart) → Fit closed_parts now → has_open_text now ≡ last_open (last_open false closed_parts) (closing now)
unfolding Fit has_open_text closing
open-last (in_leaf x) closed_parts h = leaf-open x closed_parts h
open-last (in_quote closed now) closed_parts h = open-last now closed h ∙ sym (last_open-append false closed (closing now)) ∙ sym (ends-open (closed ++ closing now))
open-last (in_item kind column bare closed now) closed_parts h = open-last now closed h.1 ∙ sym (last_open-append false closed (closing now)) ∙ sym (ends-open (closed ++ closing now))

pub fit-open : (now : Open (List ClosedPart)) (closed_parts : List ClosedPart) → Fit closed_parts now → has_open_text now ≡ leaves_paragraph_open (put_all (closed_parts ++ closing now) none)
fit-open now closed_parts h = open-last now closed_parts h ∙ sym (last_open-append false closed_parts (closing now)) ∙ sym (ends-open (closed_parts ++ closing now))

-- each line of a leaf, and what a line starts, is sound

abbrev pub SoundLine : LeafLine → Type 0
SoundLine (stays_open x) = SoundLeaf x
SoundLine (is_last leaves) = (before : Bool) → last_open before (parts_of_leaves leaves) ≡ false

html-sound : (kind : HtmlKind) (text : List ℕ) (lines : ℕ) (line : LineView) (ends : Bool) → SoundLine (line_of_html kind text lines line ends)
html-sound kind text lines line true = λ before. refl
html-sound kind text lines line false = tt

abbrev pub SoundLineOf : Option LeafLine → Type 0
SoundLineOf None = ⊤
SoundLineOf (Some l) = SoundLine l

pub sound-line : (rules : Rules) (x : OpenLeaf) (closed_parts : List ClosedPart) (line : LineView) → FitLeaf closed_parts x → SoundLineOf (line_of_leaf rules x line)
unfolding line_of_leaf
sound-line rules no_leaf closed_parts line h = tt
sound-line rules (open_text source) closed_parts line h = go (next_line rules source line) refl
  where
    go : (v : NextLine) → next_line rules source line ≡ v → SoundLineOf (line_of_text source line v)
    go GoesOn e = firm-add_text source line h
    go Ends e = tt
    go (Underlines level) e = λ before. heading-closed source level before (underlined rules source line level e)
sound-line rules (open_code text lines blank_text blank_lines) closed_parts line h = go (is_blank line) (nat_le 4 (indent_of line))
  where
    go : (a b : Bool) → SoundLineOf (line_of_code text lines blank_text blank_lines line a b)
    go true b = tt
    go false true = tt
    go false false = tt
sound-line rules (open_fence fence columns text lines) closed_parts line h = go (closes_fence fence line)
  where
    go : (b : Bool) → SoundLine (line_of_fence fence columns text lines line b)
    go true = λ before. refl
    go false = tt
sound-line rules (open_html kind text lines) closed_parts line h = go (ends_at_blank_line kind && is_blank line)
  where
    go : (a : Bool) → SoundLineOf (elim a as (λ _. Option LeafLine) [ true ↦ None | false ↦ Some (line_of_html kind text lines line (is_html_end kind line.text)) ])
    go true = tt
    go false = html-sound kind text lines line (is_html_end kind line.text)

abbrev pub SoundBegin : LineOpens → Type 0
SoundBegin (begins_leaf l) = SoundLine l
SoundBegin _ = ⊤

start-sound : (rules : Rules) (line : LineView) → is_blank line ≡ false → (start : Start) → SoundBegin (begin_of_start rules start line)
start-sound rules line e IndentedCode = tt
start-sound rules line e QuoteMarker = tt
start-sound rules line e (AtxHeading h) = λ before. refl
start-sound rules line e (OpeningFence fence) = tt
start-sound rules line e (HtmlStart kind) = html-sound kind [] 0 line (is_html_end kind line.text)
start-sound rules line e BreakLine = λ before. refl
start-sound rules line e (ItemStart marker) = tt
start-sound rules line e TextLine = firm-content line.text e

pub begin-sound : (rules : Rules) (line : LineView) → SoundBegin (begin_of rules line)
unfolding begin_of
begin-sound rules line = go (is_blank line) refl
  where
    go : (v : Bool) → is_blank line ≡ v → SoundBegin (elim v as (λ _. LineOpens) [ true ↦ begins_nothing | false ↦ begin_of_start rules (start_of rules line) line ])
    go true e = tt
    go false e = start-sound rules line e (start_of rules line)

-- a change after any closed parts keeps it

abbrev pub Fits : List ClosedPart → Change → Type 0
Fits closed_parts c = Fit (closed_parts ++ c.closed) c.now × NotFresh c.closed c.now

pub not-fresh-beyond : (ps qs : List ClosedPart) (now : Open (List ClosedPart)) → NotFresh qs now → NotFresh (ps ++ qs) now
not-fresh-beyond [] qs now h = h
not-fresh-beyond (x ∷ ps) qs now h = tt

-- there are some
abbrev pub HasLeaves : List (LeafPart × ℕ) → Type 0
HasLeaves [] = ⊥
HasLeaves (x ∷ xs) = ⊤

-- if leaves say whether a paragraph is left open, there are some
pub some-closed : (leaves : List (LeafPart × ℕ)) → ((before : Bool) → last_open before (parts_of_leaves leaves) ≡ false) → HasLeaves leaves
some-closed [] h = absurd (true-false (h true))
some-closed (x ∷ xs) h = tt

pub some-open : (leaves : List (LeafPart × ℕ)) → last_open false (parts_of_leaves leaves) ≡ true → HasLeaves leaves
some-open [] h = absurd (true-false (sym h))
some-open (x ∷ xs) h = tt

not-fresh-leaves : (leaves : List (LeafPart × ℕ)) → HasLeaves leaves → NotFresh (parts_of_leaves leaves) (in_leaf no_leaf)
not-fresh-leaves [] h = absurd h
not-fresh-leaves (x ∷ xs) h = tt

last-push : (ps : List ClosedPart) (x : ClosedPart) → closed_part_open x ≡ false → last_open false (ps ++ x ∷ []) ≡ false
last-push ps x e = last_open-append false ps (x ∷ []) ∙ e

fits-leaf : (closed_parts : List ClosedPart) (l : LeafLine) → SoundLine l → Fits closed_parts (leaf_change l)
unfolding Fit
fits-leaf closed_parts (is_last leaves) h = (last_open-append false closed_parts (parts_of_leaves leaves) ∙ h _, not-fresh-leaves leaves (some-closed leaves h))
fits-leaf closed_parts (stays_open no_leaf) h = absurd h
fits-leaf closed_parts (stays_open (open_text source)) h = (h, tt)
fits-leaf closed_parts (stays_open (open_code text lines blank_text blank_lines)) h = (tt, tt)
fits-leaf closed_parts (stays_open (open_fence fence columns text lines)) h = (tt, tt)
fits-leaf closed_parts (stays_open (open_html kind text lines)) h = (tt, tt)

fits-by : (begin : LineView → Change) (closed_parts : List ClosedPart) (b : LineOpens) → SoundBegin b → OfInner (λ inner. Fits [] (begin inner)) b → Fits closed_parts (begin_by begin b)
unfolding Fit
fits-by begin closed_parts begins_nothing h i = (last-push closed_parts closed_blank refl, tt)
fits-by begin closed_parts (begins_leaf l) h i = fits-leaf closed_parts l h
fits-by begin closed_parts (begins_quote inner) h i = (i.0, tt)
fits-by begin closed_parts (begins_item kind column inner) h i = ((i.1, i.0), tt)

fits-within : (rules : Rules) (n : ℕ) (line : LineView) → marks line.text < n → (closed_parts : List ClosedPart) → Fits closed_parts (begin_within rules n line)
unfolding begin_within
fits-within rules zero line less closed_parts = absurd (omega arith)
fits-within rules (suc n) line less closed_parts =
    fits-by (λ l. begin_within rules n l) closed_parts (begin_of rules line) (begin-sound rules line)
    (of-less (λ l. marks l.text < marks line.text) _ (λ l fewer. fits-within rules n l (omega arith) []) (begin_of rules line) (inner-less rules line))

fits-begin : (rules : Rules) (line : LineView) (closed_parts : List ClosedPart) → Fits closed_parts (begin rules line)
unfolding begin
fits-begin rules line closed_parts = fits-within rules (suc (marks line.text)) line (le_refl _) closed_parts

fits-after : (rules : Rules) (closed_parts closed : List ClosedPart) (line : LineView) → Fits closed_parts (after_closing rules closed line)
fits-after rules closed_parts closed line =
    let h : Fits (closed_parts ++ closed) (begin rules line) = fits-begin rules line (closed_parts ++ closed) in
    (subst (λ ps. Fit ps (begin rules line).now) (append_assoc closed_parts closed (begin rules line).closed) h.0, not-fresh-beyond closed (begin rules line).closed (begin rules line).now h.1)

pub fits-step : (rules : Rules) (now : Open (List ClosedPart)) (line : LineView) (closed_parts : List ClosedPart) → Fit closed_parts now → Fits closed_parts (step rules now line)
unfolding Fit step
fits-step rules (in_leaf x) line closed_parts h = go (line_of_leaf rules x line) (sound-line rules x closed_parts line h)
  where
    go : (v : Option LeafLine) → SoundLineOf v → Fits closed_parts (leaf_step rules x line v)
    go None s = fits-after rules closed_parts (closing (in_leaf x)) line
    go (Some l) s = fits-leaf closed_parts l s
fits-step rules (in_quote closed now) line closed_parts h = go (goes_inward (continuation_in_quote rules line) (has_open_text now)) (λ inner. fits-step rules now inner closed h)
  where
    go : (v : Option LineView) → ((inner : LineView) → Fits closed (step rules now inner)) → Fits closed_parts (elim v as (λ _. Change) [
      | Some inner ↦ let c = step rules now inner in change [] (in_quote (closed ++ c.closed) c.now)
      | None ↦ after_closing rules (closing (in_quote closed now)) line
    ])
    go None f = fits-after rules closed_parts (closing (in_quote closed now)) line
    go (Some inner) f = ((f inner).0, tt)
fits-step rules (in_item kind column bare closed now) line closed_parts h =
    go (goes_inward (continuation_in_item rules column bare line) (has_open_text now)) (λ inner. fits-step rules now inner closed h.1)
  where
    go : (v : Option LineView) → ((inner : LineView) → Fits closed (step rules now inner)) → Fits closed_parts (elim v as (λ _. Change) [
      | Some inner ↦ let c = step rules now inner in change [] (in_item kind column false (closed ++ c.closed) c.now)
      | None ↦ after_closing rules (closing (in_item kind column bare closed now)) line
    ])
    go None f = fits-after rules closed_parts (closing (in_item kind column bare closed now)) line
    go (Some inner) f = ((not-fresh-beyond closed (step rules now inner).closed (step rules now inner).now (f inner).1, (f inner).0), tt)

fit-take : (rules : Rules) (m : Machine) (lines : List LineView) → Fit m.closed m.now → Fit (take_lines rules m lines).closed (take_lines rules m lines).now
unfolding take_lines take_line
fit-take rules m [] h = h
fit-take rules m (line ∷ lines) h = fit-take rules (take_line rules m line) lines (fits-step rules m.now line m.closed h).0

pub fit-new : Fit [] (in_leaf no_leaf)
unfolding Fit
fit-new = refl

pub fit-lines : (rules : Rules) (lines : List LineView) → Fit (take_lines rules new_machine lines).closed (take_lines rules new_machine lines).now
fit-lines rules lines = fit-take rules new_machine lines fit-new
