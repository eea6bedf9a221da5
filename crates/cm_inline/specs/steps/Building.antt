-- Inlines as far as the code has made them.
use Rattle.std.specs.Prelude.{◌≡◌, ℕ, true, List, [], ◌∷◌, ◌++◌, length, drop, reverse}
use Rattle.cm_tree.specs.Definitions.{Targets}
use Rattle.cm_tree.specs.declared.tree.Inline.{Inline}
use Rattle.cm_inline.specs.declared.brackets.Reader.{Reader}
use Rattle.cm_inline.specs.declared.made.Made.{Made}
use Rattle.cm_inline.specs.steps.pairing.Events.{Built, build, ended, innermost, others, nothing_built}
use Rattle.cm_inline.specs.steps.Marks.{events_in, AreLaid}
use Rattle.cm_inline.specs.steps.Writing.{events_from}

-- the last list is that of the innermost node
abbrev pub built_in : Made → Built
built_in m = record { content = m.content; text = m.text; outer = reverse m.outer.items }

-- a node starts
abbrev pub opened : Built → Built
opened m = record { content = []; text = []; outer = ended m ∷ m.outer }

-- a node ends, and this is made of what it holds
abbrev pub closed : Built → Inline → Built
closed m inline = record { content = innermost m.outer ++ inline ∷ []; text = []; outer = others m.outer }

-- The inlines are made of the marks before one, and of the text up to a place after them.
pub record IsBuiltTo (source : List ℕ) (targets : Targets) (reader : Reader) (m : Built) (from at : ℕ) : Type 0 where
  pub laid : AreLaid true source targets reader.runs.list.runs reader.links.items from (length source) (drop at reader.marks.items)
  pub same : build nothing_built (events_in source targets reader) ≡ build m (events_from source targets reader from (drop at reader.marks.items))
