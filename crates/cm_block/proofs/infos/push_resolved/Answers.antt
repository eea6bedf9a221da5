use Rattle.std.proofs.Common.{◌∙◌, ◌++◌, map, sym, ap, string_bytes}
use Rattle.std.proofs.lemmas.Result.{on_ok_weaker}
use Rattle.cm_scan.specs.blocks.Parts.{as_space}
use Rattle.cm_block.proofs.lemmas.InfoLemmas.{line_space_ascii, others_stay, one_by_one, info_as_read, info_on_one_line}
use Rattle.cm_block.proofs.infos.push_resolved.Goals as goal

pub push_replaced-requires-clause-ascii : goal.push_replaced-requires-clause-ascii
push_replaced-requires-clause-ascii c = line_space_ascii

pub push_replaced-requires-clause-others : goal.push_replaced-requires-clause-others
push_replaced-requires-clause-others c = others_stay

pub returns-then-raw_html : goal.returns-then-raw_html
returns-then-raw_html c source is =
    c.in_ok-push_str.ensures.bytes
    ∙ ap (λ t. string_bytes c.args.info.now ++ t) (is ∙ info_as_read c.args.rules source (sym c.raw_html.ensures ∙ c.if-raw_html.true))

pub returns : goal.returns
returns c =
    let old = string_bytes c.args.info.now in
    let resolved = c.args.resolved.now in
    on_ok_weaker c.push_replaced.result (λ pushed source is.
    pushed
    ∙ ap (λ t. old ++ t) (one_by_one resolved ∙ ap (map as_space) is ∙ info_on_one_line c.args.rules source (sym c.raw_html.ensures ∙ c.if-raw_html.false))) c.push_replaced.ensures.replaced
