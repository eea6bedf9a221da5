use Rattle.std.proofs.Common.{ℕ, refl, arith}
use Rattle.std.proofs.lemmas.Simd.{zip2_splat}
use Rattle.cm_text.specs.Search.{is_no_space}
use Rattle.cm_text.proofs.lemmas.SearchLemmas.{masked}
use Rattle.cm_text.proofs.search.NoSpaceByteKind.lanes.Goals as goal

pub returns : goal.returns
returns c = masked _ is_no_space refl c.args.lanes _ (omega arith) c.fits-lanes.1 (zip2_splat {Y = ℕ} _ c.args.lanes 16 32 c.fits-lanes.0)
