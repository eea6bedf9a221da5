use Rattle.std.proofs.Common.{sym, ◌∙◌}
use Rattle.std.specs.Prelude.{is_ok, string_bytes}
use Rattle.cm_block.proofs.lemmas.FeedLemmas.{feeds_with_part}
use Rattle.cm_block.proofs.leaf_text.LeafText.push.Goals as goal

pub invariant_of-self : goal.invariant_of-self
invariant_of-self c =
    c.self.invariant
    ∙ sym (feeds_with_part (is_ok c.push_str.result) (string_bytes c.self.inside.text) c.args.part.now _ c.requires c.push_str.ensures.bytes)
