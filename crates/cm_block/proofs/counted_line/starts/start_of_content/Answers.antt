use Rattle.std.specs.Option.{option_map}
use Rattle.std.proofs.Common.{◌≡◌, drop, get_or, refl, sym, ◌∙◌, arith}
use Rattle.cm_scan.specs.Words.{given, ◌<|>◌}
use Rattle.cm_scan.specs.blocks.LineForms.{is_thematic_break, atx_heading, opening_fence, item_marker}
use Rattle.cm_scan.specs.blocks.HtmlBlocks.{html_start}
use Rattle.cm_scan.specs.blocks.Starts.{QuoteMarker, AtxHeading, OpeningFence, HtmlStart, BreakLine, ItemStart, TextLine, or_text, start_of_content}
use Rattle.cm_block.proofs.lemmas.StartLemmas.{starts-none, starts-quote, starts-heading, starts-fence, starts-html, starts-break, starts-item, item-byte, in-front, in-none}
use Rattle.cm_block.proofs.counted_line.starts.start_of_content.Goals as goal

pub returns-then-is_empty : goal.returns-then-is_empty
returns-then-is_empty c =
    in-none (λ t. TextLine ≡ start_of_content c.args.rules t) c.as_bytes-bytes.result.now c.args.text.now c.as_bytes-bytes.ensures.value
    (sym c.is_empty.ensures ∙ c.if-is_empty.true) (starts-none c.args.rules)

pub returns-in-62 : goal.returns-in-62
returns-in-62 c =
    in-front (λ t. QuoteMarker ≡ start_of_content c.args.rules t) c.as_bytes-bytes.result.now c.args.text.now c.as_bytes-bytes.ensures.value
    (sym c.is_empty.ensures ∙ c.if-is_empty.false) 62 c.in-62.is (starts-quote c.args.rules (drop 1 c.as_bytes-bytes.result.now))

pub returns-in-35 : goal.returns-in-35
returns-in-35 c =
    c.heading_or_text.ensures
    ∙ in-front (λ t. or_text (option_map AtxHeading (atx_heading t)) ≡ start_of_content c.args.rules t) c.as_bytes-bytes.result.now c.args.text.now c.as_bytes-bytes.ensures.value
    (sym c.is_empty.ensures ∙ c.if-is_empty.false) 35 c.in-35.is (starts-heading c.args.rules (drop 1 c.as_bytes-bytes.result.now))

pub returns-then-begins_fence : goal.returns-then-begins_fence
returns-then-begins_fence c =
    c.fence_or_text.ensures
    ∙ in-front (λ t. or_text (option_map OpeningFence (opening_fence t)) ≡ start_of_content c.args.rules t) c.as_bytes-bytes.result.now c.args.text.now c.as_bytes-bytes.ensures.value
    (sym c.is_empty.ensures ∙ c.if-is_empty.false) (get_or c.as_bytes-bytes.result.now 0 0) refl (starts-fence c.args.rules (get_or c.as_bytes-bytes.result.now 0 0) (drop 1 c.as_bytes-bytes.result.now) (sym c.begins_fence.ensures ∙ c.if-begins_fence.true))

pub returns-in-60 : goal.returns-in-60
returns-in-60 c =
    c.html_or_text.ensures
    ∙ in-front (λ t. or_text (option_map HtmlStart (html_start c.args.rules t)) ≡ start_of_content c.args.rules t) c.as_bytes-bytes.result.now c.args.text.now c.as_bytes-bytes.ensures.value
    (sym c.is_empty.ensures ∙ c.if-is_empty.false) 60 c.in-60.is (starts-html c.args.rules (drop 1 c.as_bytes-bytes.result.now))

pub returns-then-begins_break : goal.returns-then-begins_break
returns-then-begins_break c =
    c.break_or_item.ensures
    ∙ in-front (λ t. or_text (given (is_thematic_break t) BreakLine <|> option_map ItemStart (item_marker t)) ≡ start_of_content c.args.rules t) c.as_bytes-bytes.result.now c.args.text.now c.as_bytes-bytes.ensures.value
    (sym c.is_empty.ensures ∙ c.if-is_empty.false) (get_or c.as_bytes-bytes.result.now 0 0) refl (starts-break c.args.rules (get_or c.as_bytes-bytes.result.now 0 0) (drop 1 c.as_bytes-bytes.result.now) (sym c.begins_break.ensures ∙ c.if-begins_break.true))

pub returns-in_default : goal.returns-in_default
returns-in_default c =
    c.item_or_text.ensures
    ∙ in-front (λ t. or_text (option_map ItemStart (item_marker t)) ≡ start_of_content c.args.rules t) c.as_bytes-bytes.result.now c.args.text.now c.as_bytes-bytes.ensures.value
    (sym c.is_empty.ensures ∙ c.if-is_empty.false) (get_or c.as_bytes-bytes.result.now 0 0) refl (starts-item c.args.rules (get_or c.as_bytes-bytes.result.now 0 0) (drop 1 c.as_bytes-bytes.result.now)
    (item-byte (get_or c.as_bytes-bytes.result.now 0 0) (λ e. absurd (omega (arith, e))) (λ e. absurd (omega (arith, e))) (λ e. absurd (omega (arith, e)))
    (sym c.begins_break.ensures ∙ c.if-begins_break.false) (sym c.begins_fence.ensures ∙ c.if-begins_fence.false)))
