use Rattle.std.proofs.Common.{refl}
use Rattle.cm_source.specs.Texts.{spelled_target}
use Rattle.cm_source.proofs.lemmas.spelling.WrittenLineLemmas.{then-ok, lays-text}
use Rattle.cm_source.proofs.lemmas.shared.BytesOfSpellings.{target-without}
use Rattle.cm_source.proofs.inlines.spell_target.Goals as goal

pub returns : goal.returns
returns c =
    then-ok c.push_target.result (λ is. lays-text c.args.source.now _ (spelled_target c.args.dest.now c.args.title.now) is refl refl refl (target-without c.args.dest.now c.args.title.now)) c.push_target.ensures
