-- What calls return that may refuse a tree.
use Rattle.std.specs.Prelude.{◌≡◌, List, Option, Some, None, Result, Ok, Err, String, string_bytes}
use Rattle.std.specs.declared.alloc.Global.{Global}
use Rattle.cm_text.specs.Rules.{Rules}
use Rattle.cm_tree.specs.declared.tree.Block.{Block}
use Rattle.cm_source.specs.declared.fault.SourceFault.{SourceFault}
use Rattle.cm_source.specs.declared.fault.SourceFault.TheVariants.{Unspellable, NoMemory}
use Rattle.cm_source.specs.declared.why.Why.{Why}
use Rattle.cm_source.specs.Refusals.{refusal_of, IsSpellable}
use Rattle.cm_source.specs.Spelling.{spelling_of}

-- the reason to refuse a tree, or `Ok` if there is none
abbrev pub ok_unless : Option Why → Result (Unit {0}) Why
ok_unless None = Ok tt
ok_unless (Some why) = Err why

-- the spelling of a tree that can be spelled, or the reason why it can't be; memory may be refused
abbrev pub Spells : Result (String Global) SourceFault → Rules → List Block → Type 0
Spells (Ok text) rules blocks = IsSpellable rules blocks × (string_bytes text ≡ spelling_of blocks)
Spells (Err (Unspellable why)) rules blocks = refusal_of rules blocks ≡ Some why
Spells (Err NoMemory) rules blocks = IsSpellable rules blocks
