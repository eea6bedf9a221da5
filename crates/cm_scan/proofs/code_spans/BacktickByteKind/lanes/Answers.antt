use Rattle.std.proofs.Common.{ℕ, refl, arith}
use Rattle.std.proofs.lemmas.Simd.{zip2_splat}
use Rattle.memchr.specs.Find.{is_byte}
use Rattle.cm_text.proofs.lemmas.SearchLemmas.{masked}
use Rattle.cm_scan.proofs.code_spans.BacktickByteKind.lanes.Goals as goal

pub returns : goal.returns
returns c = masked _ (is_byte 96) refl c.args.lanes _ (omega arith) c.fits-lanes.1 (zip2_splat {Y = ℕ} _ c.args.lanes 16 96 c.fits-lanes.0)
