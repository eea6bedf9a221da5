use Rattle.std.proofs.Common.{refl}
use Rattle.cm_scan.specs.blocks.HtmlBlocks.{html_start}
use Rattle.cm_scan.specs.blocks.Parts.{info_of}
use Rattle.cm_scan.proofs.lemmas.InlineComputing.{inline_structure}
use Rattle.cm_scan.proofs.rule_laws.rule_examples.Goals as goal

pub returns : goal.returns
unfolding html_start info_of inline_structure
returns c = record { raw_text = refl; comment_block = refl; instruction_block = refl; declaration_block = refl; character_data_block = refl; block_tag = refl; any_tag = refl; tag = refl; closing_tag = refl; instruction = refl; declaration = refl; character_data = refl; comment = refl; link = refl; link_in_capitals = refl; link_by_references = refl; link_by_an_escape = refl; link_in_angles = refl; link_around_a_tab = refl; image = refl; autolink = refl; address = refl; web = refl; path = refl; reference = refl; full_reference = refl; reference_after_no_link = refl; link_inside_what_is_none = refl; info_over_lines = refl; info_by_the_profile = refl }
