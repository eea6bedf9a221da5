use Rattle.std.proofs.Common.{ℕ, ◌<◌, ◌/◌, ◌^◌, bit_and, arith}
use Rattle.std.proofs.lemmas.Simd.{zip2_splat}
use Rattle.cm_text.proofs.lemmas.SearchLemmas.{last-bits, last-few, looks-up, looked-up, places-ok, joined, hits, masked}
use Rattle.cm_html.specs.steps.Bytes.{is_changed}
use Rattle.cm_html.specs.declared.search.TheConstants.{PLAIN_LOW, PLAIN_HIGH}
use Rattle.cm_html.proofs.lemmas.Destinations.{changed-looked-up}
use Rattle.cm_html.proofs.search.ChangedByteKind.lanes.Goals as goal

abbrev front : ℕ → ℕ
front x = x / 2 ^ 4

front-few : (x : ℕ) → x < 256 → front x < 16
front-few x small = omega arith

pub swizzle-low : goal.swizzle-low
swizzle-low c = places-ok c.args.lanes c.fits-lanes.0 c.fits-lanes.1

pub swizzle-high : goal.swizzle-high
swizzle-high c =
    let v = c.args.lanes in
    looks-up front front-few v _ c.fits-lanes.0 c.fits-lanes.1 (zip2_splat {Y = ℕ} (λ a b. a / 2 ^ b) v 16 4 c.fits-lanes.0)

pub returns : goal.returns
returns c =
    let v = c.args.lanes in
    let long = c.fits-lanes.0 in
    let low = looked-up (λ x. bit_and x 15) last-few PLAIN_LOW v _ long c.fits-lanes.1 (last-bits v long) in
    let high = looked-up front front-few PLAIN_HIGH v _ long c.fits-lanes.1 (zip2_splat {Y = ℕ} (λ a b. a / 2 ^ b) v 16 4 long) in
    masked _ is_changed changed-looked-up v _ (omega arith) c.fits-lanes.1 (hits v _ 0 16 long (joined bit_and _ _ v low high))
