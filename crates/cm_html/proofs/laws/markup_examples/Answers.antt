use Rattle.std.proofs.Common.{◌≡◌, Bool, ap, refl}
use Rattle.std.specs.Fmt.{digits}
use Rattle.percent_encoding.specs.Percent.{percent_encode_byte}
use Rattle.cm_tree.specs.declared.tree.Inline.TheViews.{outs-Text as text, outs-Html as raw, outs-Emph as emph, outs-Strike as strike, outs-Link as link, outs-Image as image}
use Rattle.cm_tree.specs.declared.tree.Inline.TheFolds.{fold_out-Inline}
use Rattle.cm_tree.specs.declared.tree.Block.TheVariants.{outs-Paragraph, outs-Heading, outs-Code, outs-Html, outs-Break, outs-Quote, outs-List}
use Rattle.cm_tree.specs.declared.tree.Block.{Block, map-Block, out-Block}
use Rattle.cm_tree.specs.declared.tree.Block.TheFolds.{fold_out-Block}
use Rattle.cm_html.specs.Escape.{is_kept, destination_byte, class_word}
use Rattle.cm_html.specs.Html.{Rendered, inline_step, Written, block_step}
use Rattle.cm_tree.specs.HeadingLevels.{level_step}
use Rattle.cm_tree.specs.RawHtml.{raw_inline_step, raw_block_step}
use Rattle.cm_html.specs.Tags.{Tags, inline_tags, block_tags, tags_of_block}
use Rattle.cm_text.specs.Rules.{profile}
use Rattle.cm_text.specs.Addresses.{address_scheme}
use Rattle.cm_tree.specs.Followed.{followed_inline_step, followed_block_step}
use Rattle.cm_html.specs.MarkupExamples.{safe, AddressMarkupExamples, FollowedExamples, MarkupExamples, RawHtmlExamples, TextMarkupExamples}
use Rattle.cm_html.proofs.laws.markup_examples.Goals as goal

-- the tags of one block, by whether it is in a tight item
block_at : (b : Block) (tight : Bool) → tags_of_block b tight ≡ block_tags (map-Block Block (Bool → Tags) tags_of_block (out-Block b)) tight
block_at b tight = ap (λ tags. tags tight) (fold_out-Block (Bool → Tags) block_tags b)

markup : MarkupExamples
markup = record {
  nothing = refl;
  tags = refl;
  references = refl;
  titled_link = refl;
  any_scheme = refl;
  image = refl;
  language = refl;
  list = refl;
  script = refl;
  left_open = refl;
  wrong_end = refl;
  end_alone = refl;
  half_tag = refl;
  bare_greater = refl;
  bare_quotation = refl;
  bare_ampersand = refl;
  other_reference = refl;
  handler = refl;
  handler_of_a_paragraph = refl;
  greater_in_a_value = refl;
  comment = refl;
  other_class = refl;
  start_without_a_number = refl;
}

addresses : AddressMarkupExamples
unfolding address_scheme
addresses = record {
  no_address = refl;
  path = refl;
  other_host = refl;
  https = refl;
  mail = refl;
  script = refl;
  script_after_a_space = refl;
  script_around_a_line_feed = refl;
  image = refl;
  other_values = refl;
  one_word = refl;
  two_words = refl;
  two_words_by_the_profile = refl;
}

texts : TextMarkupExamples
unfolding is_kept destination_byte class_word percent_encode_byte digits
texts = record {
  script = simp (fold_out-Block Written block_step, outs-Paragraph, fold_out-Inline Rendered inline_step, text);
  reference = simp (fold_out-Block Written block_step, outs-Paragraph, fold_out-Inline Rendered inline_step, text);
  title = simp (fold_out-Block Written block_step, outs-Paragraph, fold_out-Inline Rendered inline_step, link, text);
  scheme = simp (fold_out-Block Written block_step, outs-Paragraph, fold_out-Inline Rendered inline_step, link, text);
  destination = simp (fold_out-Block Written block_step, outs-Paragraph, fold_out-Inline Rendered inline_step, link, text);
  alternative_text = simp (fold_out-Block Written block_step, outs-Paragraph, fold_out-Inline Rendered inline_step, image, text, raw);
  info = simp (fold_out-Block Written block_step, outs-Code);
  info_with_a_line_feed = simp (fold_out-Block Written block_step, outs-Code);
  tags_with_a_title = simp (block_at, outs-Paragraph, fold_out-Inline Tags inline_tags, link, text);
  tags_of_a_tight_item = simp (block_at, outs-List, outs-Break, outs-Paragraph, fold_out-Inline Tags inline_tags, strike, text);
  items_are_markup = simp (fold_out-Block Written block_step, outs-List, outs-Quote, outs-Break, outs-Paragraph, fold_out-Inline Rendered inline_step, text);
}

raws : RawHtmlExamples
unfolding digits
raws = record {
  raw = simp (fold_out-Block Written block_step, outs-Paragraph, fold_out-Inline Rendered inline_step, raw);
  raw_in_a_quote = simp (fold_out-Block Bool raw_block_step, outs-Quote, outs-Paragraph, fold_out-Inline Bool raw_inline_step, emph, raw);
  raw_in_an_item = simp (fold_out-Block Bool raw_block_step, outs-List, outs-Paragraph, fold_out-Inline Bool raw_inline_step, strike, raw);
  block = simp (fold_out-Block Bool raw_block_step, outs-Html);
  raw_in_an_image = simp (fold_out-Block Bool raw_block_step, outs-Paragraph, fold_out-Inline Bool raw_inline_step, image);
  text = simp (fold_out-Block Bool raw_block_step, outs-Paragraph, fold_out-Inline Bool raw_inline_step, text);
  seventh_level = simp (fold_out-Block Written block_step, outs-Heading);
  seventh_level_in_a_quote = simp (fold_out-Block Bool level_step, outs-Quote, outs-Heading);
  sixth_level = simp (fold_out-Block Bool level_step, outs-Quote, outs-Heading);
}

follows : FollowedExamples
unfolding address_scheme
follows = record {
  link = simp (fold_out-Block Bool (followed_block_step safe), outs-Paragraph, fold_out-Inline Bool (followed_inline_step safe), link, text);
  script = simp (fold_out-Block Bool (followed_block_step safe), outs-Paragraph, fold_out-Inline Bool (followed_inline_step safe), link);
  script_by_the_profile = simp (fold_out-Block Bool (followed_block_step profile), outs-Paragraph, fold_out-Inline Bool (followed_inline_step profile), link);
  image_in_a_quote = simp (fold_out-Block Bool (followed_block_step safe), outs-Quote, outs-Paragraph, fold_out-Inline Bool (followed_inline_step safe), emph, image);
  link_in_an_image = simp (fold_out-Block Bool (followed_block_step safe), outs-Paragraph, fold_out-Inline Bool (followed_inline_step safe), image);
  info = simp (fold_out-Block Bool (followed_block_step safe), outs-Code);
  info_with_a_line_feed = simp (fold_out-Block Bool (followed_block_step safe), outs-Code);
}

pub returns : goal.returns
returns c = record { markup = markup; addresses = addresses; texts = texts; raw = raws; followed = follows }
