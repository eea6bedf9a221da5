use Rattle.std.proofs.Common.{◌≡◌, ◌<◌, not, length, ap, ◌∙◌, arith}
use Rattle.cm_json.specs.Mdast.{ends_in_line_feed}
use Rattle.cm_json.proofs.lemmas.CodeLemmas.{ends-tells, empty-ends-not}
use Rattle.cm_json.proofs.code.ends_in_line_feed.Goals as goal

pub returns-then-not-is_empty : goal.returns-then-not-is_empty
returns-then-not-is_empty c =
    let bytes = c.as_bytes-bytes.result.now in
    let some : 0 < length bytes = grind arith in
    ends-tells bytes some ∙ ap ends_in_line_feed c.as_bytes-bytes.ensures.value

pub returns-else-not-is_empty : goal.returns-else-not-is_empty
returns-else-not-is_empty c =
    let bytes = c.as_bytes-bytes.result.now in
    let none : length bytes ≡ 0 = grind arith in
    ap not c.if-not-is_empty.false ∙ empty-ends-not bytes none ∙ ap ends_in_line_feed c.as_bytes-bytes.ensures.value
