use Rattle.std.proofs.Common.{true, false, sym, ap, ◌∙◌}
use Rattle.unicode.specs.GeneralCategory.{general_category_eq}
use Rattle.ucd_category.specs.declared.GeneralCategory.TheVariants.{SpaceSeparator}
use Rattle.cm_text.proofs.lemmas.CharacterLemmas.{is_space-ascii, is_space-beyond, below_ascii, other_category}
use Rattle.cm_text.proofs.characters.is_space.Goals as goal

pub returns-then-is_ascii : goal.returns-then-is_ascii
returns-then-is_ascii c = c.is_ascii_space.ensures ∙ is_space-ascii c.args.c (below_ascii c.args.c (sym c.is_ascii.ensures ∙ c.if-is_ascii.true))

pub returns-in-SpaceSeparator : goal.returns-in-SpaceSeparator
returns-in-SpaceSeparator c =
    is_space-beyond c.args.c true (sym c.is_ascii.ensures ∙ c.if-is_ascii.false)
    (ap (λ g. general_category_eq g SpaceSeparator) (sym c.in-SpaceSeparator.is) ∙ ap (λ g. general_category_eq g SpaceSeparator) c.for_char.ensures)

pub returns-in_default : goal.returns-in_default
returns-in_default c =
    is_space-beyond c.args.c false (sym c.is_ascii.ensures ∙ c.if-is_ascii.false)
    (sym (other_category c.for_char.result SpaceSeparator c.in_default.not-SpaceSeparator) ∙ ap (λ g. general_category_eq g SpaceSeparator) c.for_char.ensures)
