use Rattle.std.proofs.Common.{ap, false, map, true}
use Rattle.std.proofs.lemmas.List.{drop_all}
use Rattle.cm_html.proofs.lemmas.ItemLemmas.{inside_added}
use Rattle.cm_html.specs.Html.{written}
use Rattle.cm_html.proofs.blocks.+blocks.Goals as goal

pub push_loose-returns : goal.push_loose-returns
push_loose-returns t c =
    inside_added false c.loop-block.first (map written c.args.blocks.now) _ c.args.out.now c.loop-block.out
    (ap (map written) (drop_all c.loop-block.block-index c.args.blocks.now c.loop-block-test.false)) c.loop-block.invariant

pub push_tight-returns : goal.push_tight-returns
push_tight-returns t c =
    inside_added true c.loop-block.fresh (map written c.args.blocks.now) _ c.args.out.now c.loop-block.out
    (ap (map written) (drop_all c.loop-block.block-index c.args.blocks.now c.loop-block-test.false)) c.loop-block.invariant
