-- Plain source of blocks that are freed one after another.
use Rattle.std.proofs.Common.{◌≡◌, ◌∙◌, List, [], ◌∷◌, ◌++◌, Bool, true, false, not, cond, refl, sym, ap, subst, append_assoc, append-nil, Some, None}
use Rattle.std.specs.Prelude.{Option, map}
use Rattle.std.specs.Option.{is_some}
use Rattle.cm_text.specs.Rules.{Rules}
use Rattle.cm_tree.specs.declared.tree.Block.{Block}
use Rattle.cm_source.specs.declared.speller.Speller.{Speller}
use Rattle.cm_source.specs.declared.fault.SourceFault.TheVariants.{Unspellable}
use Rattle.cm_source.specs.declared.why.Why.{Why}
use Rattle.cm_source.specs.Definitions.{cleared, is_definition, kept, without_definitions}
use Rattle.cm_source.specs.Refusals.{refusal_of}
use Rattle.cm_source.specs.Speller.{HasSpelled, Refuses}
use Rattle.cm_tool.specs.declared.outlines.plain_source.PlainSource as code
use Rattle.cm_tool.specs.steps.PlainSources.{Spells, HasTaken}

-- one more block after those that a source has taken

pub now_refused : (refused : Option Why) (speller : Speller) (rules : Rules) (blocks : List Block) (block : Block) (why : Why) → is_some refused ≡ false
    → (HasSpelled rules speller blocks → Refuses (Unspellable why) rules blocks block) → Spells refused speller rules blocks
    → (others : List Block) → refusal_of rules ((blocks ++ block ∷ []) ++ others) ≡ Some why
now_refused None speller rules blocks block why none told takes others = ap (refusal_of rules) (append_assoc blocks (block ∷ []) others) ∙ told takes others
now_refused (Some other) speller rules blocks block why none told takes others = absurd (cc none)

pub refused_for : (refused : Option Why) (speller : Speller) (rules : Rules) (blocks : List Block) (why : Why) → refused ≡ Some why → Spells refused speller rules blocks
    → refusal_of rules blocks ≡ Some why
refused_for refused speller rules blocks why is takes = ap (refusal_of rules) (sym (append-nil blocks)) ∙ subst (λ r. Spells r speller rules blocks) is takes []

-- definitions are taken out of blocks one after another

kept-parts : (block : Block) (blocks : List Block) → kept (block ∷ blocks) ≡ kept (block ∷ []) ++ kept blocks
kept-parts block blocks = go (is_definition block)
  where
    go : (d : Bool) → cond (not d) (block ∷ kept blocks) (kept blocks) ≡ cond (not d) (block ∷ []) [] ++ kept blocks
    go true = refl
    go false = refl

-- A source has taken blocks which, with the blocks that are left without their definitions, are a whole.
abbrev pub Takes : Rules → List Block → code.PlainSource → List Block → Type 0
Takes rules left source whole = (taken : List Block) × HasTaken rules source taken × (taken ++ without_definitions left ≡ whole)

pub takes_next : (rules : Rules) (block : Block) (left : List Block) (old new : code.PlainSource) (whole : List Block)
    → ((now : Rules) (blocks : List Block) → HasTaken now old blocks → HasTaken now new (blocks ++ without_definitions (block ∷ [])))
    → Takes rules (block ∷ left) old whole → Takes rules left new whole
takes_next rules block left old new whole pushed so_far =
    let taken = so_far.0 in
    let next = without_definitions (block ∷ []) in (
      taken ++ next,
      pushed rules taken so_far.1,
      append_assoc taken next (without_definitions left) ∙ ap (λ t. taken ++ t) (sym (kept-parts (cleared block) (map cleared left))) ∙ so_far.2,
    )

pub all_taken : (rules : Rules) (source : code.PlainSource) (whole : List Block) → Takes rules [] source whole → HasTaken rules source whole
all_taken rules source whole so_far = subst (HasTaken rules source) (sym (append-nil so_far.0) ∙ so_far.2) so_far.1
