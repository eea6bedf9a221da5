use Rattle.std.proofs.Common.{◌≡◌, ℕ, ap, refl}
use Rattle.std.specs.Fmt.{digits}
use Rattle.percent_encoding.specs.Percent.{percent_encode_byte}
use Rattle.cm_tree.specs.declared.tree.Inline.TheViews.{outs-Text as text, outs-Code as code_span, outs-Html as raw, outs-Soft as soft, outs-Hard as hard, outs-Emph as emph, outs-Strong as strong, outs-Strike as strike, outs-Link as link, outs-Image as image}
use Rattle.cm_tree.specs.declared.tree.Inline.{Inline, map-Inline, out-Inline}
use Rattle.cm_tree.specs.declared.tree.Inline.TheFolds.{fold-Inline, fold_out-Inline}
use Rattle.cm_tree.specs.declared.tree.Block.TheVariants.{outs-Paragraph, outs-Heading, outs-Code, outs-Html, outs-Break, outs-Definition, outs-Quote, outs-List}
use Rattle.cm_tree.specs.declared.tree.Block.{Block, map-Block, out-Block}
use Rattle.cm_tree.specs.declared.tree.Block.TheFolds.{fold-Block, fold_out-Block}
use Rattle.cm_html.specs.Escape.{is_kept, destination_byte, class_word}
use Rattle.cm_html.specs.Html.{Rendered, inline_step, Written, block_step}
use Rattle.cm_html.specs.Listing.{Listed, listed_inline_step, listed_step}
use Rattle.cm_html.specs.WorkedExamples.{TextExamples, InlineExamples, LeafExamples, ContainerExamples, ListingExamples}
use Rattle.cm_html.proofs.laws.worked_examples.Goals as goal

texts : TextExamples
unfolding is_kept destination_byte class_word percent_encode_byte
texts = record {
  references = refl;
  destination = refl;
  destination_kept = refl;
  destination_space = refl;
  class_of_words = refl;
  class_before_tab = refl;
  class_of_nothing = refl;
}

inlines : InlineExamples
unfolding is_kept destination_byte percent_encode_byte
inlines = record {
  text = simp (fold_out-Inline Rendered inline_step, text);
  code_span = simp (fold_out-Inline Rendered inline_step, code_span);
  raw = simp (fold_out-Inline Rendered inline_step, raw);
  breaks = simp (fold_out-Inline Rendered inline_step, soft, hard);
  strike = simp (fold_out-Inline Rendered inline_step, strike, emph, text);
  emphasis = simp (fold_out-Inline Rendered inline_step, emph, strong, text);
  link = simp (fold_out-Inline Rendered inline_step, link, text);
  link_in_link = simp (fold_out-Inline Rendered inline_step, link, text);
  strike_in_an_image = simp (fold_out-Inline Rendered inline_step, image, strike, text);
  image = simp (fold_out-Inline Rendered inline_step, image, emph, text);
  image_in_image = simp (fold_out-Inline Rendered inline_step, image, hard, raw, text);
}

leaves : LeafExamples
unfolding class_word digits
leaves = record {
  paragraph = simp (fold_out-Block Written block_step, outs-Paragraph, fold_out-Inline Rendered inline_step, text);
  heading = simp (fold_out-Block Written block_step, outs-Heading, fold_out-Inline Rendered inline_step, text);
  code = simp (fold_out-Block Written block_step, outs-Code);
  code_with_class = simp (fold_out-Block Written block_step, outs-Code);
  raw = simp (fold_out-Block Written block_step, outs-Html);
  break_line = simp (fold_out-Block Written block_step, outs-Break);
  definition = simp (fold_out-Block Written block_step, outs-Definition);
}

containers : ContainerExamples
unfolding class_word digits
containers = record {
  quote = simp (fold_out-Block Written block_step, outs-Quote, outs-Paragraph, fold_out-Inline Rendered inline_step, text);
  ordered = simp (fold_out-Block Written block_step, outs-List);
  tight_item = simp (fold_out-Block Written block_step, outs-List, outs-Paragraph, outs-Code, fold_out-Inline Rendered inline_step, text);
  first_is_whole = simp (fold_out-Block Written block_step, outs-List, outs-Break);
  only_a_definition = simp (fold_out-Block Written block_step, outs-List, outs-Definition);
  definition_between = simp (fold_out-Block Written block_step, outs-List, outs-Definition, outs-Paragraph, outs-Break, fold_out-Inline Rendered inline_step, text);
  definition_in_front = simp (fold_out-Block Written block_step, outs-List, outs-Definition, outs-Paragraph, fold_out-Inline Rendered inline_step, text);
  loose = simp (fold_out-Block Written block_step, outs-List, outs-Paragraph, fold_out-Inline Rendered inline_step, text);
  quote_in_item = simp (fold_out-Block Written block_step, outs-List, outs-Quote, outs-Paragraph, fold_out-Inline Rendered inline_step, text);
}

-- what one step lists at a depth
block_at : (b : Block) (depth : ℕ)
    → fold-Block Listed listed_step b depth ≡ listed_step (map-Block Block Listed (fold-Block Listed listed_step) (out-Block b)) depth
block_at b depth = ap (λ listing. listing depth) (fold_out-Block Listed listed_step b)

inline_at : (b : Inline) (depth : ℕ)
    → fold-Inline Listed listed_inline_step b depth
    ≡ listed_inline_step (map-Inline Inline Listed (fold-Inline Listed listed_inline_step) (out-Inline b)) depth
inline_at b depth = ap (λ listing. listing depth) (fold_out-Inline Listed listed_inline_step b)

listings : ListingExamples
unfolding digits
listings = record {
  quotes = refl;
  strike = simp (block_at, outs-Paragraph, inline_at, strike, text);
  emphasis = simp (block_at, outs-Paragraph, inline_at, emph, strong, text);
  quote_in_item = simp (block_at, outs-List, outs-Quote, outs-Paragraph, inline_at, text);
  leaves = simp (block_at, outs-Heading, outs-Code, outs-Html, outs-Break, outs-Definition);
  lists = simp (block_at, outs-List);
  inlines_listed = simp (block_at, outs-Paragraph, inline_at, code_span, raw, soft, hard, link, image, text);
}

pub returns : goal.returns
returns c = record { texts = texts; inlines = inlines; leaves = leaves; containers = containers; listings = listings }
