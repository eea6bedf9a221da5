use Rattle.std.proofs.Common.{refl}
use Rattle.cm_source.specs.Texts.{spelled_text}
use Rattle.cm_source.proofs.lemmas.spelling.WrittenLineLemmas.{then-ok, lays-text}
use Rattle.cm_source.proofs.lemmas.shared.BytesOfSpellings.{text-without}
use Rattle.cm_source.proofs.inlines.spell_text.Goals as goal

pub returns : goal.returns
returns c =
    then-ok c.push_text.result (λ is. lays-text c.args.source.now _ (spelled_text c.args.first c.args.last c.args.text.now) is refl refl refl (text-without c.args.first c.args.last c.args.text.now)) c.push_text.ensures
