-- Worked examples: the faults of inputs.
use Rattle.std.specs.Prelude.{◌≡◌, ℕ, ◌^◌, [], ◌∷◌, ◌++◌, codes, Some, None}
use Rattle.cm_text.specs.Rules.{profile}
use Rattle.cm_text.specs.Limits.{LimitsView}
use Rattle.cm_tool.specs.declared.fault.Fault.TheVariants.{NotUtf8, BlocksTooDeep, InlinesTooDeep}
use Rattle.cm_tool.specs.Faults.{fault_of, settled_fault_of}

-- the limits with this number of quotes and items around a line, and of inlines inside one another
abbrev pub at_most : (blocks inlines : ℕ) → LimitsView
at_most blocks inlines = record { bytes = 2 ^ 28; blocks = blocks; inlines = inlines; rules = profile }

pub record FaultExamples : Type 0 where
  pub line_before_a_fault : settled_fault_of (at_most 1 100) (codes "> > a\n" ++ 0xFF ∷ []) ≡ Some (BlocksTooDeep 1)
  pub line_cut_by_a_fault : fault_of (at_most 1 100) (codes "> > a" ++ 0xFF ∷ []) ≡ Some (NotUtf8 5)
  pub past_the_limit : fault_of (at_most 2 100) (codes "a\n> > > b\n") ≡ Some (BlocksTooDeep 2)
  pub within_the_limit : fault_of (at_most 3 100) (codes "> > > a\n") ≡ None
  pub carriage_return : settled_fault_of (at_most 1 100) (codes "> > a\r") ≡ Some (BlocksTooDeep 1)
  pub unended : settled_fault_of (at_most 1 100) (codes "> > a") ≡ None
  pub unended_at_the_end : fault_of (at_most 1 100) (codes "> > a") ≡ Some (BlocksTooDeep 1)
  pub second_leaf : fault_of (at_most 1 1) (codes "***\n***a***\n") ≡ Some (InlinesTooDeep 2)
  pub leaf_within_the_limit : fault_of (at_most 1 2) (codes "***\n***a***\n") ≡ None
  pub leaf_not_settled : settled_fault_of (at_most 1 1) (codes "***\n***a***\n") ≡ None
  pub line_before_a_leaf : fault_of (at_most 1 1) (codes "***a***\n> > b\n") ≡ Some (BlocksTooDeep 2)
