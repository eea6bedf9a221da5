use Rattle.std.proofs.Common.{Ok, ◌∙◌, ap, length, subst, sym}
use Rattle.std.proofs.lemmas.Result.{err_from_is_err_and}
use Rattle.cm_tool.specs.Rewriting.{kept_tree}
use Rattle.cm_tool.specs.steps.PlainSources.{Spelled}
use Rattle.cm_tool.proofs.lemmas.ReadLemmas.{read_whole}
use Rattle.cm_tool.proofs.lemmas.RewritingLemmas.{was_lost, went_out, writes_back}
use Rattle.cm_tool.proofs.outputs.rewrite.Goals as goal

pub returns-in_err-write_all-clause-exact : goal.returns-in_err-write_all-clause-exact
returns-in_err-write_all-clause-exact g c =
    let p = err_from_is_err_and c.from_residual-in_err-write_all.result c.from_residual-in_err-write_all.ensures.1 in
    let limits = c.args.limits in
    let outline = c.in_ok-outline.ensures in
    let bytes = outline.0 in
    let made = c.in_ok-plain_source_of_outline.ensures bytes outline.2.2 in
    let read = read_whole limits c.in_ok-outline.outline _ _ bytes outline.2 made.0 in
    let spelled = subst (Spelled limits.rules (kept_tree limits.rules bytes)) c.in_ok-text.was made.1 in
    rw (p.1, p.2) (bytes, outline.1, was_lost limits bytes _ _ _ _ read c.in_ok-text.text spelled c.as_bytes.result.now c.in_err-write_all.field-0.0.written c.as_bytes.ensures.value c.in_err-write_all.ensures.wrote)

pub returns-in_err-write_all-clause-back : goal.returns-in_err-write_all-clause-back
returns-in_err-write_all-clause-back g c =
    let exact = returns-in_err-write_all-clause-exact g c in
    (exact.0, exact.1, writes_back c.from_residual-in_err-write_all.result c.args.limits exact.0 (g.R.Source.seen c.args.source.now) (g.R.Source.seen c.read_outline.new.source) (g.W.Sink.seen c.args.sink.now) (g.W.Sink.seen c.write_all.new.sink) exact.2)

pub returns-clause-exact : goal.returns-clause-exact
returns-clause-exact g c =
    let limits = c.args.limits in
    let outline = c.in_ok-outline.ensures in
    let bytes = outline.0 in
    let made = c.in_ok-plain_source_of_outline.ensures bytes outline.2.2 in
    let read = read_whole limits c.in_ok-outline.outline _ _ bytes outline.2 made.0 in
    let spelled = subst (Spelled limits.rules (kept_tree limits.rules bytes)) c.in_ok-text.was made.1 in
    (bytes, outline.1, went_out limits bytes _ _ _ _ read c.in_ok-text.text spelled c.as_bytes.result.now c.len.result c.as_bytes.ensures.value (c.len.ensures ∙ sym c.as_bytes.ensures.len ∙ ap length c.as_bytes.ensures.value) c.in_ok-write_all.ensures.wrote)

pub returns-clause-back : goal.returns-clause-back
returns-clause-back g c =
    let exact = returns-clause-exact g c in
    (exact.0, exact.1, writes_back (Ok c.len.result) c.args.limits exact.0 (g.R.Source.seen c.args.source.now) (g.R.Source.seen c.read_outline.new.source) (g.W.Sink.seen c.args.sink.now) (g.W.Sink.seen c.write_all.new.sink) exact.2)
