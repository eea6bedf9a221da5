use Rattle.std.proofs.Common.{refl, sym, ◌∙◌, arith}
use Rattle.unicode.specs.GeneralCategoryGroup.{in_group}
use Rattle.ucd_category.specs.declared.GeneralCategoryGroup.TheVariants.{Symbol}
use Rattle.cm_text.proofs.lemmas.CharacterLemmas.{is_punct-ascii, is_punct-groups, below_ascii}
use Rattle.cm_text.proofs.characters.is_punct_by.Goals as goal

pub returns-then-is_ascii : goal.returns-then-is_ascii
returns-then-is_ascii c = c.is_ascii_punct.ensures ∙ is_punct-ascii c.args.rules c.args.c (below_ascii c.args.c (sym c.is_ascii.ensures ∙ c.if-is_ascii.true))

pub returns-then-contains : goal.returns-then-contains
returns-then-contains c =
    let same = is_punct-groups c.args.rules c.args.c c.for_char-category.result c.args.rules.older c.contains.result (in_group Symbol c.for_char-category.result)
    (sym c.is_ascii.ensures ∙ c.if-is_ascii.false) c.for_char-category.ensures refl c.contains.ensures refl in
    grind (arith, c.if-contains.true, same)

pub returns-else-not-is_older : goal.returns-else-not-is_older
returns-else-not-is_older c =
    let same = is_punct-groups c.args.rules c.args.c c.for_char-category.result c.is_older.result c.contains.result (in_group Symbol c.for_char-category.result)
    (sym c.is_ascii.ensures ∙ c.if-is_ascii.false) c.for_char-category.ensures c.is_older.ensures c.contains.ensures refl in
    grind (arith, c.if-contains.false, c.if-not-is_older.false, same)

pub returns-then-not-is_older : goal.returns-then-not-is_older
returns-then-not-is_older c =
    let same = is_punct-groups c.args.rules c.args.c c.for_char-category.result c.is_older.result c.contains.result c.contains-then-not-is_older.result
    (sym c.is_ascii.ensures ∙ c.if-is_ascii.false) c.for_char-category.ensures c.is_older.ensures c.contains.ensures c.contains-then-not-is_older.ensures in
    grind (arith, c.if-contains.false, c.if-not-is_older.true, same)
