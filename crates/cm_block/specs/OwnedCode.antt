-- `Owned` as a tuple of its fields, by which its values are compared: the view of a parser needs it. A reader
-- of the contracts needn't believe it.
use Rattle.std.specs.Prelude.{ℕ, List, refl}
use Rattle.std.specs.Coded.{Coded, code_by, coded_ℕ, coded_list, coded×}
use Rattle.cm_tree.specs.contracts.tree.Owner as owner
use Rattle.cm_tree.specs.declared.tree.Owner.{Owner}
use Rattle.cm_tree.specs.Definitions.{Targets}
use Rattle.cm_block.specs.Stack.{Owned}

-- the fields as a tuple
abbrev pub owned_code : Coded Owned
owned_code =
    code_by (List Owner × (ℕ × Targets))
    (coded× (coded_list owner.the_row.coded) (coded× coded_ℕ (coded_list (coded× (coded_list coded_ℕ) (coded× (coded_list coded_ℕ) (coded_list coded_ℕ))))))
    (λ o. (o.owners, (o.leaves, o.table))) (λ t. record { owners = t.0; leaves = t.1.0; table = t.1.1 }) (λ _. refl)
