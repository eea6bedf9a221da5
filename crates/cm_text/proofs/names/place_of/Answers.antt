use Rattle.std.proofs.Common.{◌<◌, ◌+◌, ◌-◌, ◌/◌, ℕ, ap, sym, ◌∙◌, nat_cmp, arith}
use Rattle.std.specs.Cmp.Lexicographic.{slice_cmp}
use Rattle.std.proofs.lemmas.Map.Lookups.{exact_bytes}
use Rattle.cm_text.proofs.lemmas.NameLemmas.{after_middle, before_middle}
use Rattle.cm_text.proofs.names.place_of.Goals as goal

half_within : (low high : ℕ) → low < high → low + (high - low) / 2 < high
half_within low high h = omega arith

pub loop-low-preserved-in-Less : goal.loop-low-preserved-in-Less
loop-low-preserved-in-Less c =
    let low = c.loop-low.low in
    let high = c.loop-low.high in
    let middle = low + (high - low) / 2 in
    let below = half_within low high c.loop-low-test.true in
    let less = ap (λ t. slice_cmp nat_cmp t c.args.name.now) (sym c.name_at.ensures) ∙ sym c.cmp.ensures ∙ c.in-Less.is in
    record {
      within = c.loop-low.invariant.within;
      nowhere_else = λ i within same.
          let after = after_middle c.args.name.now middle i (omega (arith, below, c.loop-low.invariant.within)) less same in
          (omega (arith, after), (c.loop-low.invariant.nowhere_else i within same).1);
    }

pub returns-in-Equal-clause-some : goal.returns-in-Equal-clause-some
returns-in-Equal-clause-some c =
    let below = half_within c.loop-low.low c.loop-low.high c.loop-low-test.true in (
      omega (arith, below, c.loop-low.invariant.within),
      sym c.name_at.ensures ∙ exact_bytes c.name_at.result.now c.args.name.now (sym c.cmp.ensures ∙ c.in-Equal.is),
    )

pub loop-low-preserved : goal.loop-low-preserved
loop-low-preserved c =
    let low = c.loop-low.low in
    let high = c.loop-low.high in
    let middle = low + (high - low) / 2 in
    let below = half_within low high c.loop-low-test.true in
    let greater = ap (λ t. slice_cmp nat_cmp t c.args.name.now) (sym c.name_at.ensures) ∙ sym c.cmp.ensures ∙ c.in-Greater.is in
    record {
      within = omega (arith, below, c.loop-low.invariant.within);
      nowhere_else = λ i within same.
          ((c.loop-low.invariant.nowhere_else i within same).0, before_middle c.args.name.now middle i within greater same);
    }
