use Rattle.std.proofs.Common.{ℕ, refl, arith}
use Rattle.std.proofs.lemmas.Simd.{zip2_splat}
use Rattle.cm_text.proofs.lemmas.SearchLemmas.{masked}
use Rattle.cm_json.specs.steps.Phrases.{is_held}
use Rattle.cm_json.proofs.phrases.HeldByteKind.lanes.Goals as goal

pub returns : goal.returns
returns c =
    let v = c.args.lanes in
    let long = c.fits-lanes.0 in
    masked _ is_held refl v _ (omega arith) c.fits-lanes.1 (zip2_splat {Y = ℕ} _ v 16 32 long)
