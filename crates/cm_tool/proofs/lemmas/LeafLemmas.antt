-- How deep the inlines of one leaf nest.
use Rattle.std.proofs.Common.{◌≡◌, ◌≢◌, ◌-◌, ◌^◌, ◌≤◌, ◌<◌, ℕ, List, true, false, length, drop, sym, ap, subst, arith}
use Rattle.std.specs.Prelude.{slice_range}
use Rattle.std.proofs.lemmas.List.{length-take}
use Rattle.std.proofs.lemmas.Bool.{ltb-false, ltb-true}
use Rattle.cm_text.specs.Rules.{Rules}
use Rattle.cm_tree.specs.Depth.{inlines_depth}
use Rattle.cm_tree.specs.declared.tree.Inline.{Inline}
use Rattle.cm_tree.specs.Definitions.{Targets}
use Rattle.cm_scan.specs.inlines.Brackets.{Defined, defined_in}
use Rattle.cm_scan.specs.inlines.Inlines.{inlines_of, depth_of_leaf, nests_past}
use Rattle.cm_inline.specs.declared.fault.InlineFault.{InlineFault}
use Rattle.cm_inline.specs.declared.fault.InlineFault.TheVariants as inline
use Rattle.cm_inline.specs.Reading.{Refused}

-- ---- one leaf

-- inlines that don't nest past the limit, and inlines that do
pub leaf_within : (rules : Rules) (defined : Defined) (limit : ℕ) (source : List ℕ) (inlines : List Inline)
    → inlines ≡ inlines_of rules defined source → nests_past rules defined limit source ≡ false → inlines_depth inlines ≤ limit
unfolding depth_of_leaf
leaf_within rules defined limit source inlines are within = subst (λ i. inlines_depth i ≤ limit) (sym are) (ltb-false limit (inlines_depth (inlines_of rules defined source)) within)

leaf_past : (rules : Rules) (defined : Defined) (limit : ℕ) (source : List ℕ)
    → nests_past rules defined limit source ≡ true → limit < inlines_depth (inlines_of rules defined source)
unfolding depth_of_leaf
leaf_past rules defined limit source past = ltb-true limit (inlines_depth (inlines_of rules defined source)) past

pub leaf_refused : (rules : Rules) (targets : Targets) (limit : ℕ) (source : List ℕ) (fault : InlineFault) → Refused fault rules targets limit source
    → fault ≡ inline.InlinesTooDeep → limit < inlines_depth (inlines_of rules (defined_in targets) source)
leaf_refused rules targets limit source inline.InlinesTooDeep past is = leaf_past rules (defined_in targets) limit source past
leaf_refused rules targets limit source inline.SourceTooLong long is = absurd (cc is)
leaf_refused rules targets limit source inline.NoMemory past is = cc

-- a source between two places of 32 bits isn't too long
pub never_long : (rules : Rules) (targets : Targets) (limit : ℕ) (text : List ℕ) (from to : ℕ) (source : List ℕ) (fault : InlineFault) → source ≡ slice_range text from to → to < 2 ^ 32
    → Refused fault rules targets limit source → fault ≢ inline.SourceTooLong
never_long rules targets limit text from to source inline.InlinesTooDeep are few refused = λ e. absurd (cc e)
never_long rules targets limit text from to source inline.NoMemory are few refused = λ e. absurd (cc e)
never_long rules targets limit text from to source inline.SourceTooLong are few long = λ e. omega (arith, long, few, ap length are, length-take (to - from) (drop from text))
