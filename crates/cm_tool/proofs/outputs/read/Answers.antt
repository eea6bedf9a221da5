use Rattle.cm_tool.proofs.lemmas.ReadLemmas.{doc_read}
use Rattle.cm_tool.proofs.outputs.read.Goals as goal

pub returns : goal.returns
returns g c =
    let read = c.in_ok-outline.ensures in
    (read.0, read.1, doc_read c.args.limits c.in_ok-outline.outline _ _ read.0 read.2 c.doc_of_outline.result (c.doc_of_outline.ensures read.0 read.2.2))
