use Rattle.std.proofs.Common.{◌++◌, refl}
use Rattle.std.specs.Prelude.{string_bytes}
use Rattle.cm_source.proofs.lemmas.spelling.WrittenLineLemmas.{when-ok, then-ok, lays-text}
use Rattle.cm_source.proofs.source_lines.SourceLines.push.Goals as goal

pub returns : goal.returns
returns c =
    let old = c.args.self.now in
    then-ok c.push_str.result (λ is. lays-text old _ c.args.text.now is refl refl refl c.requires)
    (when-ok c.push_str.result (string_bytes c.push_str.new.self) (string_bytes old.text ++ c.args.text.now) (string_bytes old.text) c.push_str.ensures.bytes)
