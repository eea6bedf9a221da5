use Rattle.std.proofs.Common.{ℕ, bit_or, refl, sym, arith}
use Rattle.std.proofs.lemmas.List.{map-id}
use Rattle.memchr.specs.Find.{is_byte2}
use Rattle.cm_text.proofs.lemmas.SearchLemmas.{hits, joined, masked}
use Rattle.cm_text.proofs.unescaping.UnescapedByteKind.lanes.Goals as goal

pub returns : goal.returns
returns c =
    let v = c.args.lanes in
    let long = c.fits-lanes.0 in
    let equal = λ (byte : ℕ). hits v (λ x. x) byte 16 long (sym (map-id v)) in
    masked _ (is_byte2 92 38) refl v _ (omega arith) c.fits-lanes.1 (joined bit_or _ _ v (equal 92) (equal 38))
