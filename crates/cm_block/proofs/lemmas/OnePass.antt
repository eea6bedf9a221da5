-- One pass over the lines gives their parts. What is open is taken with the lines that follow it: so each kind of open block is
-- compared with its case of the definition, and nothing is said of one more line at the end.
use Rattle.std.specs.Prelude.{◌&&◌, nat_le, replicate, if◌then◌else◌}
use Rattle.std.specs.List.{flat_map, list_all}
use Rattle.std.proofs.Common.{◌≡◌, ℕ, zero, suc, ◌+◌, ◌<◌, ◌≤◌, Bool, true, false, List, [], ◌∷◌, ◌++◌, length, refl, ◌∙◌, sym, ap, ap₂, arith, Option, Some, None, le_refl, subst}
use Rattle.std.proofs.lemmas.List.{append_assoc, append-nil, length_push}
use Rattle.cm_text.specs.Rules.{Rules}
use Rattle.cm_text.specs.Lines.{LineView}
use Rattle.cm_text.specs.Indentation.{indent_of, strip_columns}
use Rattle.cm_tree.specs.declared.tree.ListKind.{ListKind}
use Rattle.cm_scan.specs.blocks.Lines.{is_blank, content_of, with_ending, marks, size}
use Rattle.cm_scan.specs.blocks.LineForms.{Fence, is_closing_fence}
use Rattle.cm_scan.specs.blocks.HtmlBlocks.{HtmlKind, RawText, Comment, Instruction, Declaration, CharacterData, BlockTag, AnyTag, is_html_end, ends_at_blank_line}
use Rattle.cm_scan.specs.blocks.Starts.{Start, IndentedCode, QuoteMarker, AtxHeading, OpeningFence, HtmlStart, BreakLine, ItemStart, TextLine, start_of, Continuation, Stays, StaysIfOpen, Leaves, after_quote_marker, continuation_in_quote, content_column, first_content, continuation_in_item}
use Rattle.cm_scan.specs.blocks.Parts.{LeafPart, heading, code, html, thematic_break, Parts, none, blank, leaf, leaves_paragraph_open, put_leaves, info_of}
use Rattle.cm_scan.specs.blocks.Blocks.{add_text, NextLine, GoesOn, Ends, Underlines, next_line, TextRun, text_run, leaves_of_run, Taken, taken, closes_fence, fenced, html_to_end, html_to_blank, html_lines, code_line, indented, Inside, inside, is_bare, quote_parts, item_parts, fence_parts, html_parts, code_parts, text_parts, parts_by_start, parts_of}
use Rattle.cm_scan.specs.laws.PartLaws.{goes_inward, next_inward}
use Rattle.cm_scan.proofs.lemmas.blocks.LineSizes.{marks-after_quote_marker, marks-first_content, Keeps, keeps-quote, keeps-item, size-append}
use Rattle.cm_scan.proofs.lemmas.blocks.PartsByCases.{no_lines, blank_case, starting, inside-in, inside-out}
use Rattle.cm_block.specs.OpenLeaf.{OpenLeaf, no_leaf, open_text, open_code, open_fence, open_html, run_leaves, closed_leaves, blank_lines_after, LeafLine, stays_open, is_last, line_of_text, line_of_code, line_of_fence, line_of_html, line_of_leaf, LineOpens, begins_nothing, begin_of_start, begin_of, open_as}
use Rattle.cm_block.specs.Machine.{ClosedPart, closed_blank, closed_quote, closed_item, put, put_all, Open, in_leaf, in_quote, in_item, has_open_text, Change, change, parts_of_leaves, closing, leaf_change, begin_by, begin, after_closing, leaf_step, step, Machine, new_machine, take_line, take_lines, close, parts_in_one_pass}
use Rattle.cm_block.specs.Laws.{OnePass}
use Rattle.cm_block.proofs.lemmas.BeginCases.{begin-cases}
use Rattle.cm_block.proofs.lemmas.OpenEnd.{true-false, Fit, fit-open, fit-lines}

-- closed parts

put_all-append : (ps qs : List ClosedPart) (p : Parts) → put_all (ps ++ qs) p ≡ put_all ps (put_all qs p)
unfolding put_all
put_all-append [] qs p = refl
put_all-append (x ∷ ps) qs p = ap (put x) (put_all-append ps qs p)

put-leaves : (xs : List (LeafPart × ℕ)) (p : Parts) → put_all (parts_of_leaves xs) p ≡ put_leaves xs p
unfolding put_all put_leaves
put-leaves [] p = refl
put-leaves (x ∷ xs) p = ap (leaf x.0 x.1) (put-leaves xs p)

-- the given number of blank lines before
put_blanks : ℕ → Parts → Parts
put_blanks zero p = p
put_blanks (suc n) p = blank (put_blanks n p)

put-blanks : (n : ℕ) (p : Parts) → put_all (replicate n closed_blank) p ≡ put_blanks n p
unfolding put_all put_blanks
put-blanks zero p = refl
put-blanks (suc n) p = ap blank (put-blanks n p)

-- the lines of a fence, whose info plays no part
fenced-alike : (rules : Rules) (fence : Fence) (columns : ℕ) (text : List ℕ) (m : ℕ) (lines : List LineView) → fenced (open_as rules fence) columns text m lines ≡ fenced fence columns text m lines
unfolding fenced is_closing_fence
fenced-alike rules fence columns text m [] = refl
fenced-alike rules fence columns text m (line ∷ lines) = go (closes_fence fence line) (fenced-alike rules fence columns more (suc m) lines)
  where
    more : List ℕ
    more = text ++ with_ending (strip_columns columns line)

    go : (v : Bool) → fenced (open_as rules fence) columns more (suc m) lines ≡ fenced fence columns more (suc m) lines
        → elim v as (λ _. Taken) [ true ↦ taken text (suc m) lines | false ↦ fenced (open_as rules fence) columns more (suc m) lines ]
        ≡ elim v as (λ _. Taken) [ true ↦ taken text (suc m) lines | false ↦ fenced fence columns more (suc m) lines ]
    go true e = refl
    go false e = e

put-closing : (x : OpenLeaf) (p : Parts) → put_all (closing (in_leaf x)) p ≡ put_leaves (closed_leaves x) (put_blanks (blank_lines_after x) p)
unfolding closing
put-closing x p =
    put_all-append (parts_of_leaves (closed_leaves x)) (replicate (blank_lines_after x) closed_blank) p
    ∙ put-leaves (closed_leaves x) _
    ∙ ap (put_leaves (closed_leaves x)) (put-blanks (blank_lines_after x) p)

-- the lines of a container, by the continuation of the next

bare-more : (s : LineView) (ss : List LineView) (i : LineView) → is_bare (s ∷ ss ++ i ∷ []) ≡ false
bare-more s [] i = refl
bare-more s (t ∷ ts) i = refl

-- what goes inward has no more marks
keeps-inward : (line i : LineView) (p : Continuation) (b : Bool) → Keeps line p → goes_inward p b ≡ Some i → marks i.text ≤ marks line.text
keeps-inward line i (Stays inner) b k e = subst (λ (v : Option LineView). elim v as (λ _. Type 0) [ Some i ↦ marks i.text ≤ marks line.text | None ↦ ⊥ ]) e k
keeps-inward line i (StaysIfOpen inner) true k e = subst (λ (v : Option LineView). elim v as (λ _. Type 0) [ Some i ↦ marks i.text ≤ marks line.text | None ↦ ⊥ ]) e k
keeps-inward line i (StaysIfOpen inner) false k e = grind (arith, e)
keeps-inward line i Leaves b k e = grind (arith, e)

size-cons : (line : LineView) (lines : List LineView) → size (line ∷ lines) ≡ suc (marks line.text + size lines)
unfolding size
size-cons line lines = refl

size-nil : size [] ≡ 0
unfolding size
size-nil = refl

-- an HTML block of a kind that a blank line ends has no other end
blank-kind : (kind : HtmlKind) (text : List ℕ) → ends_at_blank_line kind ≡ true → is_html_end kind text ≡ false
unfolding is_html_end
blank-kind RawText text e = grind (arith, e)
blank-kind Comment text e = grind (arith, e)
blank-kind Instruction text e = grind (arith, e)
blank-kind Declaration text e = grind (arith, e)
blank-kind CharacterData text e = grind (arith, e)
blank-kind BlockTag text e = refl
blank-kind AnyTag text e = refl

-- blank lines that wait for indented code

all-push : (ls : List LineView) (l : LineView) → list_all is_blank ls ≡ true → is_blank l ≡ true → list_all is_blank (ls ++ l ∷ []) ≡ true
all-push [] l e h = grind (arith, e, h)
all-push (k ∷ ks) l e h = let g : list_all is_blank ks ≡ true → list_all is_blank (ks ++ l ∷ []) ≡ true = λ e. all-push ks l e h in grind (arith, e, g)

all-first : (l : LineView) (ls : List LineView) → list_all is_blank (l ∷ ls) ≡ true → is_blank l ≡ true
all-first l ls e = grind (arith, e)

all-rest : (l : LineView) (ls : List LineView) → list_all is_blank (l ∷ ls) ≡ true → list_all is_blank ls ≡ true
all-rest l ls e = grind (arith, e)

code_lines-push : (ls : List LineView) (l : LineView) → flat_map code_line (ls ++ l ∷ []) ≡ flat_map code_line ls ++ code_line l
code_lines-push [] l = append-nil (code_line l)
code_lines-push (k ∷ ks) l = ap (λ t. code_line k ++ t) (code_lines-push ks l) ∙ sym (append_assoc (code_line k) (flat_map code_line ks) (code_line l))

module _ (rules : Rules) where
  parts-blanks : (blanks lines : List LineView) → list_all is_blank blanks ≡ true → parts_of rules (blanks ++ lines) ≡ put_blanks (length blanks) (parts_of rules lines)
  unfolding put_blanks
  parts-blanks [] lines e = refl
  parts-blanks (l ∷ blanks) lines e = blank_case rules l (blanks ++ lines) (all-first l blanks e) ∙ ap blank (parts-blanks blanks lines (all-rest l blanks e))

  -- what is open and the lines that follow come to these closed parts
  unfoldable finish : Open (List ClosedPart) → List LineView → List ClosedPart
  finish now [] = closing now
  finish now (line ∷ lines) = let c = step rules now line in c.closed ++ finish c.now lines

  -- the parts that the lines come to
  abbrev pass : List LineView → Parts
  pass lines = put_all (finish (in_leaf no_leaf) lines) none

  close-lines : (m : Machine) (lines : List LineView) → close (take_lines rules m lines) ≡ put_all (m.closed ++ finish m.now lines) none
  unfolding close take_lines take_line finish
  close-lines m [] = refl
  close-lines m (line ∷ lines) =
      close-lines (take_line rules m line) lines
      ∙ ap (λ ps. put_all ps none) (append_assoc m.closed (step rules m.now line).closed (finish (step rules m.now line).now lines))

  pass-close : (lines : List LineView) → pass lines ≡ parts_in_one_pass rules lines
  unfolding parts_in_one_pass
  pass-close lines = sym (close-lines new_machine lines)

  finish-step : (now : Open (List ClosedPart)) (line : LineView) (lines : List LineView) (c : Change) → step rules now line ≡ c → finish now (line ∷ lines) ≡ c.closed ++ finish c.now lines
  unfolding finish
  finish-step now line lines c e = ap (λ (c : Change). c.closed ++ finish c.now lines) e

  -- with nothing open the line starts something
  finish-begin : (line : LineView) (lines : List LineView) → finish (in_leaf no_leaf) (line ∷ lines) ≡ (begin rules line).closed ++ finish (begin rules line).now lines
  unfolding finish step line_of_leaf closing closed_leaves
  finish-begin line lines = refl

  finish-closing : (now : Open (List ClosedPart)) (line : LineView) (lines : List LineView) (closed : List ClosedPart) → step rules now line ≡ after_closing rules closed line
      → put_all (finish now (line ∷ lines)) none ≡ put_all closed (pass (line ∷ lines))
  finish-closing now line lines closed e =
      ap (λ ps. put_all ps none) (finish-step now line lines _ e ∙ append_assoc closed (begin rules line).closed (finish (begin rules line).now lines) ∙ ap (λ ps. closed ++ ps) (sym (finish-begin line lines)))
      ∙ put_all-append closed _ none

  -- a leaf with the next line

  leaf-goes-on : (l : LeafLine) (lines : List LineView) → List ClosedPart
  leaf-goes-on l lines = (leaf_change l).closed ++ finish (leaf_change l).now lines

  leaf-line : (x : OpenLeaf) (line : LineView) (lines : List LineView) (v : Option LeafLine) → line_of_leaf rules x line ≡ v → finish (in_leaf x) (line ∷ lines) ≡ (leaf_step rules x line v).closed ++ finish (leaf_step rules x line v).now lines
  unfolding step
  leaf-line x line lines v e = finish-step (in_leaf x) line lines _ (ap (leaf_step rules x line) e)

  leaf-stays : (x y : OpenLeaf) (line : LineView) (lines : List LineView) → line_of_leaf rules x line ≡ Some (stays_open y)
      → put_all (finish (in_leaf x) (line ∷ lines)) none ≡ put_all (finish (in_leaf y) lines) none
  leaf-stays x y line lines e = ap (λ ps. put_all ps none) (leaf-line x line lines (Some (stays_open y)) e)

  leaf-last : (x : OpenLeaf) (leaves : List (LeafPart × ℕ)) (line : LineView) (lines : List LineView) → line_of_leaf rules x line ≡ Some (is_last leaves)
      → put_all (finish (in_leaf x) (line ∷ lines)) none ≡ put_leaves leaves (pass lines)
  leaf-last x leaves line lines e = ap (λ ps. put_all ps none) (leaf-line x line lines (Some (is_last leaves)) e) ∙ put_all-append (parts_of_leaves leaves) _ none ∙ put-leaves leaves _

  leaf-none : (x : OpenLeaf) (line : LineView) (lines : List LineView) → line_of_leaf rules x line ≡ None
      → put_all (finish (in_leaf x) (line ∷ lines)) none ≡ put_leaves (closed_leaves x) (put_blanks (blank_lines_after x) (pass (line ∷ lines)))
  unfolding step
  leaf-none x line lines e = finish-closing (in_leaf x) line lines (closing (in_leaf x)) (ap (leaf_step rules x line) e) ∙ put-closing x _

  leaf-end : (x : OpenLeaf) → put_all (finish (in_leaf x) []) none ≡ put_leaves (closed_leaves x) (put_blanks (blank_lines_after x) (parts_of rules []))
  unfolding finish
  leaf-end x = put-closing x none ∙ ap (λ p. put_leaves (closed_leaves x) (put_blanks (blank_lines_after x) p)) (sym (no_lines rules))

  -- the state that lines lead to

  pub take_lines-append : (m : Machine) (ks ls : List LineView) → take_lines rules m (ks ++ ls) ≡ take_lines rules (take_lines rules m ks) ls
  unfolding take_lines
  take_lines-append m [] ls = refl
  take_lines-append m (k ∷ ks) ls = take_lines-append (take_line rules m k) ks ls

  -- and one line more
  reached-more : (so_far : List LineView) (ps : List ClosedPart) (o : Open (List ClosedPart)) (i : LineView) → take_lines rules new_machine so_far ≡ change ps o
      → take_lines rules new_machine (so_far ++ i ∷ []) ≡ change (ps ++ (step rules o i).closed) (step rules o i).now
  unfolding take_lines take_line
  reached-more so_far ps o i e = take_lines-append new_machine so_far (i ∷ []) ∙ ap (λ m. take_line rules m i) e

  reached-close : (so_far : List LineView) (ps : List ClosedPart) (o : Open (List ClosedPart)) → take_lines rules new_machine so_far ≡ change ps o
      → parts_in_one_pass rules so_far ≡ put_all (ps ++ closing o) none
  unfolding parts_in_one_pass close
  reached-close so_far ps o e = ap close e

  -- it says whether a lazy continuation line can follow
  open-reached : (so_far : List LineView) (ps : List ClosedPart) (o : Open (List ClosedPart)) → take_lines rules new_machine so_far ≡ change ps o
      → parts_in_one_pass rules so_far ≡ parts_of rules so_far → leaves_paragraph_open (parts_of rules so_far) ≡ has_open_text o
  open-reached so_far ps o e same =
      ap leaves_paragraph_open (sym same ∙ reached-close so_far ps o e)
      ∙ sym (fit-open o ps (subst (λ (m : Machine). Fit m.closed m.now) e (fit-lines rules so_far)))

  begun : (line : LineView) → take_lines rules new_machine (line ∷ []) ≡ change (begin rules line).closed (begin rules line).now
  unfolding take_lines take_line step line_of_leaf closing closed_leaves
  begun line = refl

  abbrev put_taken : (List ℕ → LeafPart) → Taken → Parts
  put_taken leaf_of t = leaf (leaf_of t.text) t.lines (parts_of rules t.following)

  abbrev put_run : TextRun → Parts
  put_run run = put_leaves (leaves_of_run run) (parts_of rules run.following)

  -- every kind of open block with the lines that follow it, where fewer lines are known to agree
  module _ (n : ℕ) (shorter : (ls : List LineView) → size ls < n → parts_in_one_pass rules ls ≡ parts_of rules ls) where
    pass-less : (ls : List LineView) → size ls < n → pass ls ≡ parts_of rules ls
    pass-less ls less = pass-close ls ∙ shorter ls less

    text-pass : (source : List ℕ) (lines : List LineView) → size lines < n → put_all (finish (in_leaf (open_text source)) lines) none ≡ put_run (text_run rules source lines)
    unfolding text_run line_of_leaf closed_leaves put_blanks leaves_of_run
    text-pass source [] less = leaf-end (open_text source)
    text-pass source (line ∷ lines) less = go (next_line rules source line) refl (text-pass (add_text source line) lines (omega (arith, size-cons line lines)))
      where
        x : OpenLeaf
        x = open_text source

        run : NextLine → TextRun
        run v = elim v as (λ _. TextRun) [
          | GoesOn ↦ text_run rules (add_text source line) lines
          | Ends ↦ record { source = source; level = None; following = line ∷ lines }
          | Underlines level ↦ record { source = source; level = Some level; following = lines }
        ]

        go : (v : NextLine) → next_line rules source line ≡ v → put_all (finish (in_leaf (open_text (add_text source line))) lines) none ≡ put_run (text_run rules (add_text source line) lines)
            → put_all (finish (in_leaf x) (line ∷ lines)) none ≡ put_run (run v)
        go GoesOn e more = leaf-stays x (open_text (add_text source line)) line lines (ap (line_of_text source line) e) ∙ more
        go Ends e more = leaf-none x line lines (ap (line_of_text source line) e) ∙ ap (put_leaves (run_leaves None source)) (pass-less (line ∷ lines) less)
        go (Underlines level) e more =
            leaf-last x (run_leaves (Some level) source) line lines (ap (line_of_text source line) e)
            ∙ ap (put_leaves (run_leaves (Some level) source)) (pass-less lines (omega (arith, size-cons line lines)))

    fence-pass : (fence : Fence) (columns : ℕ) (text : List ℕ) (m : ℕ) (lines : List LineView) → size lines < n
        → put_all (finish (in_leaf (open_fence fence columns text m)) lines) none ≡ put_taken (code fence.info) (fenced fence columns text m lines)
    unfolding fenced line_of_leaf closed_leaves put_blanks put_leaves
    fence-pass fence columns text m [] less = leaf-end (open_fence fence columns text m)
    fence-pass fence columns text m (line ∷ lines) less =
        go (closes_fence fence line) refl (fence-pass fence columns (text ++ with_ending (strip_columns columns line)) (suc m) lines (omega (arith, size-cons line lines)))
      where
        x : OpenLeaf
        x = open_fence fence columns text m

        more_text : List ℕ
        more_text = text ++ with_ending (strip_columns columns line)

        go : (v : Bool) → closes_fence fence line ≡ v
            → put_all (finish (in_leaf (open_fence fence columns more_text (suc m))) lines) none ≡ put_taken (code fence.info) (fenced fence columns more_text (suc m) lines)
            → put_all (finish (in_leaf x) (line ∷ lines)) none
            ≡ put_taken (code fence.info) (elim v as (λ _. Taken) [ true ↦ taken text (suc m) lines | false ↦ fenced fence columns more_text (suc m) lines ])
        go true e more =
            leaf-last x ((code fence.info text, suc m) ∷ []) line lines (ap (λ b. Some (line_of_fence fence columns text m line b)) e)
            ∙ ap (leaf (code fence.info text) (suc m)) (pass-less lines (omega (arith, size-cons line lines)))
        go false e more = leaf-stays x (open_fence fence columns more_text (suc m)) line lines (ap (λ b. Some (line_of_fence fence columns text m line b)) e) ∙ more

    code-pass : (text : List ℕ) (m : ℕ) (blanks lines : List LineView) → list_all is_blank blanks ≡ true → size lines < n
        → put_all (finish (in_leaf (open_code text m (flat_map code_line blanks) (length blanks))) lines) none ≡ put_taken (code []) (indented text m blanks lines)
    unfolding indented line_of_leaf closed_leaves put_leaves
    code-pass text m blanks [] all less =
        leaf-end (open_code text m (flat_map code_line blanks) (length blanks))
        ∙ ap (leaf (code [] text) m) (sym (parts-blanks blanks [] all) ∙ ap (parts_of rules) (append-nil blanks))
    code-pass text m blanks (line ∷ lines) all less =
        go (is_blank line) (nat_le 4 (indent_of line)) refl refl
        (λ h. code-pass text m (blanks ++ line ∷ []) lines h (omega (arith, size-cons line lines)))
        (code-pass (text ++ flat_map code_line blanks ++ code_line line) (m + length blanks + 1) [] lines refl (omega (arith, size-cons line lines)))
      where
        t : List ℕ
        t = flat_map code_line blanks

        x : OpenLeaf
        x = open_code text m t (length blanks)

        longer : OpenLeaf
        longer = open_code (text ++ t ++ code_line line) (m + length blanks + 1) [] 0

        by : (a b : Bool) → is_blank line ≡ a → nat_le 4 (indent_of line) ≡ b → line_of_leaf rules x line ≡ line_of_code text m t (length blanks) line a b
        by a b e h = ap₂ (λ a b. line_of_code text m t (length blanks) line a b) e h

        go : (a b : Bool) → is_blank line ≡ a → nat_le 4 (indent_of line) ≡ b
            → (list_all is_blank (blanks ++ line ∷ []) ≡ true
            → put_all (finish (in_leaf (open_code text m (flat_map code_line (blanks ++ line ∷ [])) (length (blanks ++ line ∷ [])))) lines) none ≡ put_taken (code []) (indented text m (blanks ++ line ∷ []) lines))
            → put_all (finish (in_leaf longer) lines) none ≡ put_taken (code []) (indented (text ++ t ++ code_line line) (m + length blanks + 1) [] lines)
            → put_all (finish (in_leaf x) (line ∷ lines)) none ≡ put_taken (code []) (elim a as (λ _. Taken) [
              | true ↦ indented text m (blanks ++ line ∷ []) lines
              | false ↦ elim b as (λ _. Taken) [
                | true ↦ indented (text ++ t ++ code_line line) (m + length blanks + 1) [] lines
                | false ↦ taken text m (blanks ++ line ∷ lines)
              ]
            ])
        go true b e h waits adds =
            leaf-stays x (open_code text m (t ++ code_line line) (suc (length blanks))) line lines (by true b e h)
            ∙ ap₂ (λ t k. put_all (finish (in_leaf (open_code text m t k)) lines) none) (sym (code_lines-push blanks line)) (count blanks line)
            ∙ waits (all-push blanks line all e)
          where
            count : (ls : List LineView) (l : LineView) → suc (length ls) ≡ length (ls ++ l ∷ [])
            count ls l = omega (arith, length_push ls l)
        go false true e h waits adds = leaf-stays x longer line lines (by false true e h) ∙ adds
        go false false e h waits adds =
            leaf-none x line lines (by false false e h)
            ∙ ap (λ p. leaf (code [] text) m (put_blanks (length blanks) p)) (pass-less (line ∷ lines) less)
            ∙ ap (leaf (code [] text) m) (sym (parts-blanks blanks (line ∷ lines) all))

    -- an HTML block that a blank line ends
    html-line : (kind : HtmlKind) (text : List ℕ) (m : ℕ) (line : LineView) (a b c : Bool) → ends_at_blank_line kind ≡ a → is_blank line ≡ b → is_html_end kind line.text ≡ c
        → line_of_leaf rules (open_html kind text m) line ≡ (elim (a && b) as (λ _. Option LeafLine) [ true ↦ None | false ↦ Some (line_of_html kind text m line c) ])
    unfolding line_of_leaf
    html-line kind text m line a b c ea eb ec =
        ap₂ (λ a b. elim (a && b) as (λ _. Option LeafLine) [ true ↦ None | false ↦ Some (line_of_html kind text m line (is_html_end kind line.text)) ]) ea eb
        ∙ ap (λ c. elim (a && b) as (λ _. Option LeafLine) [ true ↦ None | false ↦ Some (line_of_html kind text m line c) ]) ec

    blank-pass : (kind : HtmlKind) → ends_at_blank_line kind ≡ true → (text : List ℕ) (m : ℕ) (lines : List LineView) → size lines < n
        → put_all (finish (in_leaf (open_html kind text m)) lines) none ≡ put_taken html (html_to_blank text m lines)
    unfolding html_to_blank closed_leaves put_blanks put_leaves
    blank-pass kind h text m [] less = leaf-end (open_html kind text m)
    blank-pass kind h text m (line ∷ lines) less = go (is_blank line) refl (blank-pass kind h (text ++ with_ending line) (suc m) lines (omega (arith, size-cons line lines)))
      where
        x : OpenLeaf
        x = open_html kind text m

        go : (v : Bool) → is_blank line ≡ v
            → put_all (finish (in_leaf (open_html kind (text ++ with_ending line) (suc m))) lines) none ≡ put_taken html (html_to_blank (text ++ with_ending line) (suc m) lines)
            → put_all (finish (in_leaf x) (line ∷ lines)) none ≡ put_taken html (elim v as (λ _. Taken) [ true ↦ taken text m (line ∷ lines) | false ↦ html_to_blank (text ++ with_ending line) (suc m) lines ])
        go true e more = leaf-none x line lines (html-line kind text m line true true false h e (blank-kind kind line.text h)) ∙ ap (leaf (html text) m) (pass-less (line ∷ lines) less)
        go false e more = leaf-stays x (open_html kind (text ++ with_ending line) (suc m)) line lines (html-line kind text m line true false false h e (blank-kind kind line.text h)) ∙ more

    -- one that an end condition ends
    end-pass : (kind : HtmlKind) → ends_at_blank_line kind ≡ false → (text : List ℕ) (m : ℕ) (lines : List LineView) → size lines < n
        → put_all (finish (in_leaf (open_html kind text m)) lines) none ≡ put_taken html (html_to_end kind text m lines)
    unfolding html_to_end closed_leaves put_blanks put_leaves
    end-pass kind h text m [] less = leaf-end (open_html kind text m)
    end-pass kind h text m (line ∷ lines) less = go (is_html_end kind line.text) refl (end-pass kind h (text ++ with_ending line) (suc m) lines (omega (arith, size-cons line lines)))
      where
        x : OpenLeaf
        x = open_html kind text m

        go : (v : Bool) → is_html_end kind line.text ≡ v
            → put_all (finish (in_leaf (open_html kind (text ++ with_ending line) (suc m))) lines) none ≡ put_taken html (html_to_end kind (text ++ with_ending line) (suc m) lines)
            → put_all (finish (in_leaf x) (line ∷ lines)) none ≡ put_taken html (elim v as (λ _. Taken) [ true ↦ taken (text ++ with_ending line) (suc m) lines | false ↦ html_to_end kind (text ++ with_ending line) (suc m) lines ])
        go true e more =
            leaf-last x ((html (text ++ with_ending line), suc m) ∷ []) line lines (html-line kind text m line false (is_blank line) true h refl e)
            ∙ ap (leaf (html (text ++ with_ending line)) (suc m)) (pass-less lines (omega (arith, size-cons line lines)))
        go false e more = leaf-stays x (open_html kind (text ++ with_ending line) (suc m)) line lines (html-line kind text m line false (is_blank line) false h refl e) ∙ more

    -- a quote or an item, by the closed part that it gives and the continuations of further lines in it
    module _ (container : Bool → List ClosedPart → Open (List ClosedPart) → Open (List ClosedPart)) (closed_part : Parts → ClosedPart) (continuation : Bool → LineView → Continuation)
        (closes : (bare : Bool) (ps : List ClosedPart) (o : Open (List ClosedPart)) → closing (container bare ps o) ≡ closed_part (put_all (ps ++ closing o) none) ∷ [])
        (stays : (bare : Bool) (ps : List ClosedPart) (o : Open (List ClosedPart)) (line i : LineView) → goes_inward (continuation bare line) (has_open_text o) ≡ Some i
        → step rules (container bare ps o) line ≡ change [] (container false (ps ++ (step rules o i).closed) (step rules o i).now))
        (goes : (bare : Bool) (ps : List ClosedPart) (o : Open (List ClosedPart)) (line : LineView) → goes_inward (continuation bare line) (has_open_text o) ≡ None
        → step rules (container bare ps o) line ≡ after_closing rules (closing (container bare ps o)) line)
        (keeps : (bare : Bool) (line : LineView) → Keeps line (continuation bare line)) where
      abbrev put_inside : Inside → Parts
      put_inside i = put (closed_part (parts_of rules i.inner)) (parts_of rules i.following)

      closed-inside : (so_far : List LineView) (bare : Bool) (ps : List ClosedPart) (o : Open (List ClosedPart)) (p : Parts) → take_lines rules new_machine so_far ≡ change ps o → size so_far < n
          → put_all (closing (container bare ps o)) p ≡ put (closed_part (parts_of rules so_far)) p
      unfolding put_all
      closed-inside so_far bare ps o p e less =
          ap (λ xs. put_all xs p) (closes bare ps o)
          ∙ ap (λ inner. put (closed_part inner) p) (sym (reached-close so_far ps o e) ∙ shorter so_far less)

      container-pass : (first : LineView) (so_far lines : List LineView) (ps : List ClosedPart) (o : Open (List ClosedPart)) → take_lines rules new_machine (first ∷ so_far) ≡ change ps o
          → size (first ∷ so_far) + size lines < n
          → put_all (finish (container (is_bare (first ∷ so_far)) ps o) lines) none ≡ put_inside (inside rules (parts_of rules) continuation (first ∷ so_far) lines)
      unfolding finish inside
      container-pass first so_far [] ps o e less =
          closed-inside (first ∷ so_far) (is_bare (first ∷ so_far)) ps o none e (omega arith)
          ∙ ap (put (closed_part (parts_of rules (first ∷ so_far)))) (sym (no_lines rules))
      container-pass first so_far (line ∷ lines) ps o e less =
          go (goes_inward (continuation bare line) (has_open_text o)) refl
          (ap (goes_inward (continuation bare line)) (open-reached (first ∷ so_far) ps o e (shorter (first ∷ so_far) (omega arith))))
          (λ i h. container-pass first (so_far ++ i ∷ []) lines (ps ++ (step rules o i).closed) (step rules o i).now (reached-more (first ∷ so_far) ps o i e) h)
        where
          bare : Bool
          bare = is_bare (first ∷ so_far)

          go : (v : Option LineView) → goes_inward (continuation bare line) (has_open_text o) ≡ v → next_inward rules continuation (first ∷ so_far) line ≡ goes_inward (continuation bare line) (has_open_text o)
              → ((i : LineView) → size (first ∷ so_far ++ i ∷ []) + size lines < n
              → put_all (finish (container (is_bare (first ∷ so_far ++ i ∷ [])) (ps ++ (step rules o i).closed) (step rules o i).now) lines) none
              ≡ put_inside (inside rules (parts_of rules) continuation (first ∷ so_far ++ i ∷ []) lines))
              → put_all (finish (container bare ps o) (line ∷ lines)) none ≡ put_inside (inside rules (parts_of rules) continuation (first ∷ so_far) (line ∷ lines))
          go None a b more =
              finish-closing (container bare ps o) line lines (closing (container bare ps o)) (goes bare ps o line a)
              ∙ closed-inside (first ∷ so_far) bare ps o (pass (line ∷ lines)) e (omega arith)
              ∙ ap (put (closed_part (parts_of rules (first ∷ so_far)))) (pass-less (line ∷ lines) (omega arith))
              ∙ ap put_inside (sym (inside-out rules continuation (first ∷ so_far) line lines (b ∙ a)))
          go (Some i) a b more =
              ap (λ ps. put_all ps none) (finish-step (container bare ps o) line lines _ (stays bare ps o line i a))
              ∙ ap (λ b. put_all (finish (container b (ps ++ (step rules o i).closed) (step rules o i).now) lines) none) (sym (bare-more first so_far i))
              ∙ more i (omega (arith, size-append (first ∷ so_far) (i ∷ []), keeps-inward line i (continuation bare line) (has_open_text o) (keeps bare line) a, size-cons line lines, size-cons i [], size-nil))
              ∙ ap put_inside (sym (inside-in rules continuation (first ∷ so_far) line i lines (b ∙ a)))

  -- the two containers

  quote-stays : (ps : List ClosedPart) (o : Open (List ClosedPart)) (line i : LineView) → goes_inward (continuation_in_quote rules line) (has_open_text o) ≡ Some i
      → step rules (in_quote ps o) line ≡ change [] (in_quote (ps ++ (step rules o i).closed) (step rules o i).now)
  unfolding step
  quote-stays ps o line i e = ap (λ (v : Option LineView). elim v as (λ _. Change) [
    | Some inner ↦ let c = step rules o inner in change [] (in_quote (ps ++ c.closed) c.now)
    | None ↦ after_closing rules (closing (in_quote ps o)) line
  ]) e

  quote-goes : (ps : List ClosedPart) (o : Open (List ClosedPart)) (line : LineView) → goes_inward (continuation_in_quote rules line) (has_open_text o) ≡ None
      → step rules (in_quote ps o) line ≡ after_closing rules (closing (in_quote ps o)) line
  unfolding step
  quote-goes ps o line e = ap (λ (v : Option LineView). elim v as (λ _. Change) [
    | Some inner ↦ let c = step rules o inner in change [] (in_quote (ps ++ c.closed) c.now)
    | None ↦ after_closing rules (closing (in_quote ps o)) line
  ]) e

  quote-closes : (ps : List ClosedPart) (o : Open (List ClosedPart)) → closing (in_quote ps o) ≡ closed_quote (put_all (ps ++ closing o) none) ∷ []
  unfolding closing
  quote-closes ps o = refl

  item-stays : (kind : ListKind) (column : ℕ) (bare : Bool) (ps : List ClosedPart) (o : Open (List ClosedPart)) (line i : LineView) → goes_inward (continuation_in_item rules column bare line) (has_open_text o) ≡ Some i
      → step rules (in_item kind column bare ps o) line ≡ change [] (in_item kind column false (ps ++ (step rules o i).closed) (step rules o i).now)
  unfolding step
  item-stays kind column bare ps o line i e = ap (λ (v : Option LineView). elim v as (λ _. Change) [
    | Some inner ↦ let c = step rules o inner in change [] (in_item kind column false (ps ++ c.closed) c.now)
    | None ↦ after_closing rules (closing (in_item kind column bare ps o)) line
  ]) e

  item-goes : (kind : ListKind) (column : ℕ) (bare : Bool) (ps : List ClosedPart) (o : Open (List ClosedPart)) (line : LineView) → goes_inward (continuation_in_item rules column bare line) (has_open_text o) ≡ None
      → step rules (in_item kind column bare ps o) line ≡ after_closing rules (closing (in_item kind column bare ps o)) line
  unfolding step
  item-goes kind column bare ps o line e = ap (λ (v : Option LineView). elim v as (λ _. Change) [
    | Some inner ↦ let c = step rules o inner in change [] (in_item kind column false (ps ++ c.closed) c.now)
    | None ↦ after_closing rules (closing (in_item kind column bare ps o)) line
  ]) e

  item-closes : (kind : ListKind) (column : ℕ) (bare : Bool) (ps : List ClosedPart) (o : Open (List ClosedPart)) → closing (in_item kind column bare ps o) ≡ closed_item kind (put_all (ps ++ closing o) none) ∷ []
  unfolding closing
  item-closes kind column bare ps o = refl

  -- a first line with the lines that follow it

  module _ (line : LineView) (lines : List LineView) (shorter : (ls : List LineView) → size ls < size (line ∷ lines) → parts_in_one_pass rules ls ≡ parts_of rules ls) where
    less : size lines < size (line ∷ lines)
    less = omega (arith, size-cons line lines)

    abbrev comes_to : Change → Parts
    comes_to c = put_all (c.closed ++ finish c.now lines) none

    begins-leaf : (x : LeafPart) → comes_to (leaf_change (is_last ((x, 1) ∷ []))) ≡ leaf x 1 (parts_of rules lines)
    unfolding put_all
    begins-leaf x = ap (leaf x 1) (pass-less _ shorter lines less)

    html-begun : (kind : HtmlKind) → is_blank line ≡ false → comes_to (leaf_change (line_of_html kind [] 0 line (is_html_end kind line.text))) ≡ html_parts rules (parts_of rules) kind line lines
    unfolding html_parts html_lines html_to_end html_to_blank put_all
    html-begun kind e = go (ends_at_blank_line kind) (is_html_end kind line.text) refl refl
      where
        ended : Bool → Taken
        ended w = elim w as (λ _. Taken) [ true ↦ taken (with_ending line) 1 lines | false ↦ html_to_end kind (with_ending line) 1 lines ]

        blanked : Bool → Taken
        blanked b = elim b as (λ _. Taken) [ true ↦ taken [] 0 (line ∷ lines) | false ↦ html_to_blank (with_ending line) 1 lines ]

        go : (v w : Bool) → ends_at_blank_line kind ≡ v → is_html_end kind line.text ≡ w
            → comes_to (leaf_change (line_of_html kind [] 0 line w)) ≡ put_taken html (if v then blanked (is_blank line) else ended w)
        go true true a b = absurd (true-false (sym b ∙ blank-kind kind line.text a))
        go true false a b = blank-pass _ shorter kind a (with_ending line) 1 lines less ∙ ap (λ b. put_taken html (blanked b)) (sym e)
        go false true a b = begins-leaf (html (with_ending line))
        go false false a b = end-pass _ shorter kind a (with_ending line) 1 lines less

    by-start : (start : Start) → is_blank line ≡ false → comes_to (begin_by (begin rules) (begin_of_start rules start line)) ≡ parts_by_start rules (parts_of rules) start line lines
    unfolding parts_by_start code_parts fence_parts text_parts quote_parts item_parts
    by-start IndentedCode e = code-pass _ shorter (code_line line) 1 [] lines refl less
    by-start QuoteMarker e =
        container-pass _ shorter (λ bare ps o. in_quote ps o) closed_quote (λ bare l. continuation_in_quote rules l) (λ bare. quote-closes) (λ bare. quote-stays) (λ bare. quote-goes) (λ bare l. keeps-quote rules l)
        (after_quote_marker line) [] lines _ _ (begun (after_quote_marker line))
        (omega (arith, marks-after_quote_marker line e, size-cons line lines, size-cons (after_quote_marker line) [], size-nil))
    by-start (AtxHeading h) e = begins-leaf (heading h.level h.content)
    by-start (OpeningFence fence) e =
        fence-pass _ shorter (open_as rules fence) (indent_of line) [] 1 lines less
        ∙ ap (put_taken (code (info_of rules fence.info))) (fenced-alike rules fence (indent_of line) [] 1 lines)
    by-start (HtmlStart kind) e = html-begun kind e
    by-start BreakLine e = begins-leaf thematic_break
    by-start (ItemStart marker) e =
        let column = content_column marker line in
        container-pass _ shorter (in_item marker.kind column) (closed_item marker.kind) (continuation_in_item rules column) (item-closes marker.kind column) (item-stays marker.kind column) (item-goes marker.kind column) (keeps-item rules column)
        (first_content marker line) [] lines _ _ (begun (first_content marker line))
        (omega (arith, marks-first_content marker line e, size-cons line lines, size-cons (first_content marker line) [], size-nil))
    by-start TextLine e = text-pass _ shorter (content_of line) lines less

    by-cases : pass (line ∷ lines) ≡ parts_of rules (line ∷ lines)
    unfolding begin_of put_all
    by-cases = ap (λ ps. put_all ps none) (finish-begin line lines) ∙ ap comes_to (begin-cases rules line) ∙ go (is_blank line) refl
      where
        begins : Bool → LineOpens
        begins v = elim v as (λ _. LineOpens) [ true ↦ begins_nothing | false ↦ begin_of_start rules (start_of rules line) line ]

        go : (v : Bool) → is_blank line ≡ v → comes_to (begin_by (begin rules) (begins v)) ≡ parts_of rules (line ∷ lines)
        go true e = ap blank (pass-less _ shorter lines less) ∙ sym (blank_case rules line lines e)
        go false e = by-start (start_of rules line) e ∙ sym (starting rules (start_of rules line) line lines (e, refl))

  one_pass-within : (n : ℕ) (lines : List LineView) → size lines < n → parts_in_one_pass rules lines ≡ parts_of rules lines
  unfolding parts_in_one_pass take_lines close closing closed_leaves put_all
  one_pass-within zero lines fewer = absurd (omega arith)
  one_pass-within (suc n) [] fewer = sym (no_lines rules)
  one_pass-within (suc n) (line ∷ lines) fewer = sym (pass-close (line ∷ lines)) ∙ by-cases line lines (λ ls l. one_pass-within n ls (omega arith))

pub one_pass : OnePass
one_pass rules lines = one_pass-within rules (suc (size lines)) lines (le_refl _)
