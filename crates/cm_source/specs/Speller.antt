-- What a speller has spelled.
use Rattle.std.specs.Prelude.{◌≡◌, List, [], ◌∷◌, ◌++◌, map, Option, Some, None, false}
use Rattle.cm_text.specs.Rules.{Rules}
use Rattle.cm_tree.specs.declared.tree.Block.{Block}
use Rattle.cm_source.specs.declared.speller.Speller as code
use Rattle.cm_source.specs.declared.fault.SourceFault.{SourceFault}
use Rattle.cm_source.specs.declared.fault.SourceFault.TheVariants.{Unspellable, NoMemory}
use Rattle.cm_source.specs.Refusals.{BlockFace, JudgedBlock, judged_block, refusal_of, IsSpellable}
use Rattle.cm_source.specs.Spelling.{spelling_of}
use Rattle.cm_source.specs.Faces.{seen}
use Rattle.cm_source.specs.BetweenLines.{IsBetween}

-- what the next block sees of the last of these
abbrev pub face_after : (before : Option BlockFace) → List JudgedBlock → Option BlockFace
face_after before [] = before
face_after before (next ∷ others) = face_after (Some next.face) others

-- The speller uses these rules. These blocks can be spelled, and it holds their spelling.
pub record HasSpelled (rules : Rules) (speller : code.Speller) (blocks : List Block) : Type 0 where
  pub same_rules : speller.rules ≡ rules
  pub spellable : IsSpellable rules blocks
  pub spelled : IsBetween speller.source false (spelling_of blocks) [] []
  pub last : seen speller.before ≡ face_after None (map (judged_block rules) blocks)
  pub fine : speller.failed ≡ false

-- Why a block isn't spelled after these: they can't be spelled with it, whatever follows; memory may be refused.
abbrev pub Refuses : SourceFault → Rules → List Block → Block → Type 0
Refuses (Unspellable why) rules blocks block = (others : List Block) → refusal_of rules (blocks ++ block ∷ others) ≡ Some why
Refuses NoMemory rules blocks block = IsSpellable rules (blocks ++ block ∷ [])
