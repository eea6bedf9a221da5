use Rattle.std.proofs.Common.{◌≡◌, ◌<◌, ◌∙◌, sym, arith, false}
use Rattle.cm_text.specs.Characters.{is_space, is_punct_by}
use Rattle.cm_text.proofs.lemmas.CharacterLemmas.{is_space-ascii, is_punct-ascii}
use Rattle.cm_scan.specs.inlines.Delimiters.{neighbour}
use Rattle.cm_inline.proofs.flanking.Neighbour.of.Goals as goal

-- a letter is neither white space nor punctuation
pub returns-in-Some : goal.returns-in-Some
unfolding neighbour
returns-in-Some c =
    let b = c.in-Some.c in
    let below : b < 128 = omega (arith, c.if-is_ascii_alphabetic.ensures.cases) in
    let space : is_space b ≡ false = sym (is_space-ascii b below) ∙ grind (arith, c.if-is_ascii_alphabetic.ensures.cases) in
    let punct : is_punct_by c.args.rules b ≡ false = sym (is_punct-ascii c.args.rules b below) ∙ grind (arith, c.if-is_ascii_alphabetic.ensures.cases) in
    grind (arith, space, punct, c.in-Some.is)
