use Rattle.std.proofs.Common.{ℕ, ◌==◌, refl, arith}
use Rattle.std.proofs.lemmas.Simd.{zip2_splat}
use Rattle.cm_text.proofs.lemmas.SearchLemmas.{masked}
use Rattle.cm_source.proofs.inline_refusals.texts.NulByteKind.lanes.Goals as goal

pub returns : goal.returns
returns c =
    let v = c.args.lanes in
    masked _ (λ b. b == 0) refl v _ (omega arith) c.fits-lanes.1 (zip2_splat {Y = ℕ} _ v 16 0 c.fits-lanes.0)
