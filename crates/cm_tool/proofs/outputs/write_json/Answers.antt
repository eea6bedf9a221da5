use Rattle.std.proofs.Common.{rules}
use Rattle.std.proofs.lemmas.Result.{err_from_is_err_and}
use Rattle.cm_tool.proofs.lemmas.JsonLemmas.{json_lost, json_written}
use Rattle.cm_tool.proofs.lemmas.ReadLemmas.{read_whole}
use Rattle.cm_tool.proofs.outputs.write_json.Goals as goal

pub returns-in_err-write : goal.returns-in_err-write
returns-in_err-write g c =
    let p = err_from_is_err_and c.from_residual-in_err-write.result c.from_residual-in_err-write.ensures.1 in
    let limits = c.args.limits in
    let outline = c.in_ok-outline.ensures in
    let bytes = outline.0 in
    let json = c.in_ok-json.ensures bytes outline.2.2 in
    rw (p.1, p.2) (
      bytes,
      outline.1,
      json_lost limits bytes _ _ _ _ (read_whole limits c.in_ok-outline.outline _ _ bytes outline.2 json.0) c.in_ok-json.json _ json.1.0 json.1.1 c.in_ok-push_line_feed.ensures
          c.in_err-write.field-0.0 c.in_err-write.ensures,
    )

pub returns : goal.returns
returns g c =
    let limits = c.args.limits in
    let outline = c.in_ok-outline.ensures in
    let bytes = outline.0 in
    let json = c.in_ok-json.ensures bytes outline.2.2 in (
      bytes,
      outline.1,
      json_written limits bytes _ _ _ _ (read_whole limits c.in_ok-outline.outline _ _ bytes outline.2 json.0) c.in_ok-json.json _ json.1.0 json.1.1 c.in_ok-push_line_feed.ensures
          c.in_ok-write.field-0 c.in_ok-write.ensures,
    )

pub returns-in_err-json : goal.returns-in_err-json
returns-in_err-json g c = search rules
