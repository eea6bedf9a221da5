-- Plain source of blocks, each of which is freed once it is spelled.
use Rattle.std.specs.Prelude.{◌≡◌, List, ◌++◌, Option, Some, None, Result, Ok, Err, String, string_bytes}
use Rattle.std.specs.declared.alloc.Global.{Global}
use Rattle.cm_text.specs.Rules.{Rules}
use Rattle.cm_tree.specs.declared.tree.Block.{Block}
use Rattle.cm_source.specs.declared.speller.Speller.{Speller}
use Rattle.cm_source.specs.declared.why.Why.{Why}
use Rattle.cm_source.specs.Refusals.{refusal_of, IsSpellable}
use Rattle.cm_source.specs.Speller.{HasSpelled}
use Rattle.cm_source.specs.Spelling.{spelling_of}
use Rattle.cm_tool.specs.declared.outlines.plain_source.PlainSource as code

-- a speller that stands for these blocks, or why they can't be spelled, whatever is after them
abbrev pub Spells : Option Why → Speller → Rules → List Block → Type 0
Spells None speller rules blocks = HasSpelled rules speller blocks
Spells (Some why) speller rules blocks = (others : List Block) → refusal_of rules (blocks ++ others) ≡ Some why

abbrev pub HasTaken : Rules → code.PlainSource → List Block → Type 0
HasTaken rules source blocks = Spells source.refused source.speller rules blocks

-- the spelling of these blocks, or why they can't be spelled
abbrev pub Spelled : Rules → List Block → Result (String Global) Why → Type 0
Spelled rules blocks (Ok text) = IsSpellable rules blocks × (string_bytes text ≡ spelling_of blocks)
Spelled rules blocks (Err why) = refusal_of rules blocks ≡ Some why
