-- The parts of a list of lines are given by the cases on its first line, with no word of how deep the calls go.
use Rattle.std.proofs.Common.{◌≡◌, ℕ, zero, suc, ◌+◌, ◌<◌, ◌≤◌, Bool, true, false, List, [], ◌∷◌, ◌++◌, Some, None, refl, ◌∙◌, ap, arith, le_refl}
use Rattle.cm_text.specs.Rules.{Rules}
use Rattle.cm_text.specs.Lines.{LineView}
use Rattle.cm_text.specs.Indentation.{indent_of}
use Rattle.cm_scan.specs.blocks.Lines.{is_blank, content_of, marks, size}
use Rattle.cm_scan.specs.blocks.LineForms.{Fence, ItemMarker}
use Rattle.cm_scan.specs.blocks.HtmlBlocks.{HtmlKind}
use Rattle.cm_scan.specs.blocks.Parts.{info_of, Parts, code, html, heading, thematic_break, blank, leaf, quote, put_item, put_leaves}
use Rattle.cm_scan.specs.blocks.Starts.{Start, IndentedCode, QuoteMarker, AtxHeading, OpeningFence, HtmlStart, BreakLine, ItemStart, TextLine, start_of, Continuation, after_quote_marker, continuation_in_quote, content_column, first_content, continuation_in_item}
use Rattle.cm_scan.specs.blocks.Blocks.{text_run, leaves_of_run, fenced, html_lines, indented, code_line, Inside, inside, quote_parts, item_parts, fence_parts, html_parts, code_parts, text_parts, parts_by_start, parts_by_cases, parts_within, parts_of}
use Rattle.cm_scan.specs.laws.PartLaws.{NoLines, FixedPoint, BlankCase, Begins, BreakCase, HeadingCase, FenceCase, HtmlCase, CodeCase, TextCase, next_inward, AllStay, no_more, one_stays, FirstLeaves, OneMoreStays, QuoteCase, ItemCase}
use Rattle.cm_scan.proofs.lemmas.blocks.LineSizes.{marks-after_quote_marker, marks-first_content, keeps-quote, keeps-item, size-text_run, size-fenced, size-html_lines, size-indented, size-following, size-inner, inside-agree}

-- two functions that agree on all that is smaller agree by the cases
module _ (rules : Rules) (f g : List LineView → Parts) (line : LineView) (lines : List LineView)
    (agree : (ls : List LineView) → size ls < size (line ∷ lines) → f ls ≡ g ls) where
  agree-rest : f lines ≡ g lines
  unfolding size
  agree-rest = agree lines (omega arith)

  agree-quote : is_blank line ≡ false → quote_parts rules f line lines ≡ quote_parts rules g line lines
  unfolding quote_parts size
  agree-quote e =
      let continuation : Bool → LineView → _ = λ bare l. continuation_in_quote rules l in
      let first = after_quote_marker line in
      let less : marks first.text < marks line.text = marks-after_quote_marker line e in
      let same : inside rules f continuation (first ∷ []) lines ≡ inside rules g continuation (first ∷ []) lines
      = inside-agree rules f g continuation (size (first ∷ []) + size lines) (λ so_far lt. agree so_far (omega arith)) (λ bare l. keeps-quote rules l) (first ∷ []) lines (le_refl _) in
      let i = inside rules f continuation (first ∷ []) lines in
      let inner : f i.inner ≡ g i.inner = agree _ (omega (arith, size-inner rules f continuation (λ bare l. keeps-quote rules l) (first ∷ []) lines)) in
      let following : f i.following ≡ g i.following = agree _ (omega (arith, size-following rules f continuation (first ∷ []) lines)) in
      rw (inner, following) (ap (λ (r : Inside). quote (g r.inner) (g r.following)) same)

  agree-item : (marker : ItemMarker) → is_blank line ≡ false → item_parts rules f marker line lines ≡ item_parts rules g marker line lines
  unfolding item_parts size
  agree-item marker e =
      let continuation = continuation_in_item rules (content_column marker line) in
      let first = first_content marker line in
      let less : marks first.text < marks line.text = marks-first_content marker line e in
      let same : inside rules f continuation (first ∷ []) lines ≡ inside rules g continuation (first ∷ []) lines
      = inside-agree rules f g continuation (size (first ∷ []) + size lines) (λ so_far lt. agree so_far (omega arith)) (keeps-item rules (content_column marker line)) (first ∷ []) lines (le_refl _) in
      let i = inside rules f continuation (first ∷ []) lines in
      let inner : f i.inner ≡ g i.inner = agree _ (omega (arith, size-inner rules f continuation (keeps-item rules (content_column marker line)) (first ∷ []) lines)) in
      let following : f i.following ≡ g i.following = agree _ (omega (arith, size-following rules f continuation (first ∷ []) lines)) in
      rw (inner, following) (ap (λ (r : Inside). put_item marker.kind (g r.inner) (g r.following)) same)

  agree-text : text_parts rules f line lines ≡ text_parts rules g line lines
  unfolding text_parts size
  agree-text =
      let run = text_run rules (content_of line) lines in
      ap (λ p. put_leaves (leaves_of_run run) p) (agree run.following (omega (arith, size-text_run rules (content_of line) lines)))

  agree-fence : (fence : Fence) → fence_parts rules f fence line lines ≡ fence_parts rules g fence line lines
  unfolding fence_parts size
  agree-fence fence =
      let t = fenced fence (indent_of line) [] 1 lines in
      ap (λ p. leaf (code (info_of rules fence.info) t.text) t.lines p) (agree t.following (omega (arith, size-fenced fence (indent_of line) [] 1 lines)))

  agree-html : (kind : HtmlKind) → is_blank line ≡ false → html_parts rules f kind line lines ≡ html_parts rules g kind line lines
  unfolding html_parts size
  agree-html kind e =
      let t = html_lines kind (line ∷ lines) in
      ap (λ p. leaf (html t.text) t.lines p) (agree t.following (size-html_lines kind line lines e))

  agree-code : code_parts rules f line lines ≡ code_parts rules g line lines
  unfolding code_parts size
  agree-code =
      let t = indented (code_line line) 1 [] lines in
      ap (λ p. leaf (code [] t.text) t.lines p) (agree t.following (omega (arith, size-indented (code_line line) 1 [] lines)))

  agree-start : (start : Start) → is_blank line ≡ false → parts_by_start rules f start line lines ≡ parts_by_start rules g start line lines
  unfolding parts_by_start
  agree-start IndentedCode e = agree-code
  agree-start QuoteMarker e = agree-quote e
  agree-start (AtxHeading h) e = ap (λ p. leaf (heading h.level h.content) 1 p) agree-rest
  agree-start (OpeningFence fence) e = agree-fence fence
  agree-start (HtmlStart kind) e = agree-html kind e
  agree-start BreakLine e = ap (λ p. leaf thematic_break 1 p) agree-rest
  agree-start (ItemStart marker) e = agree-item marker e
  agree-start TextLine e = agree-text

  agree-cases : parts_by_cases rules f (line ∷ lines) ≡ parts_by_cases rules g (line ∷ lines)
  unfolding parts_by_cases
  agree-cases = go (is_blank line) (λ e. agree-start (start_of rules line) e)
    where
      go : (v : Bool) → (v ≡ false → parts_by_start rules f (start_of rules line) line lines ≡ parts_by_start rules g (start_of rules line) line lines)
          → (elim v as (λ _. Parts) [ true ↦ blank (f lines) | false ↦ parts_by_start rules f (start_of rules line) line lines ])
          ≡ (elim v as (λ _. Parts) [ true ↦ blank (g lines) | false ↦ parts_by_start rules g (start_of rules line) line lines ])
      go true h = ap blank agree-rest
      go false h = h refl

-- any depth that suffices gives the same
within-agree : (rules : Rules) (n m : ℕ) (lines : List LineView) → size lines ≤ n → size lines ≤ m → parts_within rules n lines ≡ parts_within rules m lines
unfolding parts_within parts_by_cases size
within-agree rules zero zero lines h k = refl
within-agree rules zero (suc m) [] h k = refl
within-agree rules zero (suc m) (line ∷ lines) h k = absurd (omega arith)
within-agree rules (suc n) zero [] h k = refl
within-agree rules (suc n) zero (line ∷ lines) h k = absurd (omega arith)
within-agree rules (suc n) (suc m) [] h k = refl
within-agree rules (suc n) (suc m) (line ∷ lines) h k =
    agree-cases rules (λ fewer. parts_within rules n fewer) (λ fewer. parts_within rules m fewer) line lines
    (λ ls lt. within-agree rules n m ls (omega arith) (omega arith))

-- the parts are given by the cases
pub fixed_point : FixedPoint
unfolding parts_of parts_within size
fixed_point rules line lines =
    agree-cases rules (λ fewer. parts_within rules (marks line.text + size lines) fewer) (parts_of rules) line lines
    (λ ls lt. within-agree rules (marks line.text + size lines) (size ls) ls (omega arith) (le_refl _))

pub no_lines : NoLines
unfolding parts_of parts_within size
no_lines rules = refl

pub blank_case : BlankCase
unfolding parts_by_cases
blank_case rules line lines e =
    fixed_point rules line lines
    ∙ ap (λ (v : Bool). elim v as (λ _. Parts) [ true ↦ blank (parts_of rules lines) | false ↦ parts_by_start rules (parts_of rules) (start_of rules line) line lines ]) e

-- a line that isn't blank, by what it starts
pub starting : (rules : Rules) (start : Start) (line : LineView) (lines : List LineView) → Begins rules line start
    → parts_of rules (line ∷ lines) ≡ parts_by_start rules (parts_of rules) start line lines
unfolding parts_by_cases
starting rules start line lines begins =
    fixed_point rules line lines
    ∙ ap (λ (v : Bool). elim v as (λ _. Parts) [ true ↦ blank (parts_of rules lines) | false ↦ parts_by_start rules (parts_of rules) (start_of rules line) line lines ]) begins.0
    ∙ ap (λ v. parts_by_start rules (parts_of rules) v line lines) begins.1

pub break_case : BreakCase
unfolding parts_by_start
break_case rules line lines begins = starting rules BreakLine line lines begins

pub heading_case : HeadingCase
unfolding parts_by_start
heading_case rules h line lines begins = starting rules (AtxHeading h) line lines begins

pub fence_case : FenceCase
unfolding parts_by_start fence_parts
fence_case rules fence line lines begins = starting rules (OpeningFence fence) line lines begins

pub html_case : HtmlCase
unfolding parts_by_start html_parts
html_case rules kind line lines begins = starting rules (HtmlStart kind) line lines begins

pub code_case : CodeCase
unfolding parts_by_start code_parts
code_case rules line lines begins = starting rules IndentedCode line lines begins

pub text_case : TextCase
unfolding parts_by_start text_parts
text_case rules line lines begins = starting rules TextLine line lines begins

-- containers

pub inside-in : (rules : Rules) (continuation : Bool → LineView → Continuation) (so_far : List LineView) (line i : LineView) (lines : List LineView)
    → next_inward rules continuation so_far line ≡ Some i → inside rules (parts_of rules) continuation so_far (line ∷ lines) ≡ inside rules (parts_of rules) continuation (so_far ++ i ∷ []) lines
unfolding inside
inside-in rules continuation so_far line i lines stays = grind (arith, stays)

pub inside-out : (rules : Rules) (continuation : Bool → LineView → Continuation) (so_far : List LineView) (line : LineView) (lines : List LineView)
    → next_inward rules continuation so_far line ≡ None → inside rules (parts_of rules) continuation so_far (line ∷ lines) ≡ record { inner = so_far; following = line ∷ lines }
unfolding inside
inside-out rules continuation so_far line lines leaves = grind (arith, leaves)

inside-split : (rules : Rules) (continuation : Bool → LineView → Continuation) (so_far lines inner rest : List LineView) → AllStay rules continuation so_far lines inner
    → FirstLeaves rules continuation inner rest → inside rules (parts_of rules) continuation so_far (lines ++ rest) ≡ record { inner = inner; following = rest }
unfolding inside
inside-split rules continuation so_far lines inner [] no_more leaves = refl
inside-split rules continuation so_far lines inner (line ∷ rest) no_more leaves = inside-out rules continuation so_far line rest leaves
inside-split rules continuation so_far lines inner rest (one_stays {lines = ls} {line = l} {i = i} stays more) leaves =
    inside-in rules continuation so_far l i (ls ++ rest) stays ∙ inside-split rules continuation _ _ inner rest more leaves

pub one_more_stays : OneMoreStays
one_more_stays rules continuation so_far lines inner line i no_more stays = one_stays stays no_more
one_more_stays rules continuation so_far lines inner line i (one_stays first more) stays = one_stays first (one_more_stays rules continuation _ _ inner line i more stays)

pub quote_case : QuoteCase
unfolding parts_by_start quote_parts
quote_case rules line lines inner rest begins all leaves =
    starting rules QuoteMarker line (lines ++ rest) begins
    ∙ ap (λ (r : Inside). quote (parts_of rules r.inner) (parts_of rules r.following)) (inside-split rules _ _ lines inner rest all leaves)

pub item_case : ItemCase
unfolding parts_by_start item_parts
item_case rules marker line lines inner rest begins all leaves =
    starting rules (ItemStart marker) line (lines ++ rest) begins
    ∙ ap (λ (r : Inside). put_item marker.kind (parts_of rules r.inner) (parts_of rules r.following)) (inside-split rules _ _ lines inner rest all leaves)

-- the cases whatever the first line is, those of leaves and of blank lines, and those of containers
pub ruleset all_cases = (no_lines, fixed_point)

pub ruleset leaf_cases = (blank_case, break_case, heading_case, fence_case, html_case, code_case, text_case)

pub ruleset container_cases = (quote_case, item_case, one_more_stays)
