use Rattle.std.specs.Int.{is_in_range}
use Rattle.std.proofs.Common.{◌≡◌, ◌-◌, ◌∙◌, true, false, length, sym, arith}
use Rattle.std.proofs.lemmas.Bool.Decides.{nat_tests}
use Rattle.cm_scan.proofs.lemmas.spans.AutolinkParts.{absolute-other, absolute-letter, absolute-no_letter}
use Rattle.cm_scan.proofs.autolink_contents.is_absolute.Goals.{then-scheme-lt2-via-then-scheme-lt2, then-scheme-lt2-via-else-scheme-lt2+then-scheme-gt32}
use Rattle.cm_scan.proofs.autolink_contents.is_absolute.Goals as goal

pub returns-then-scheme-lt2-clause-absolute : goal.returns-then-scheme-lt2-clause-absolute
returns-then-scheme-lt2-clause-absolute g c =
    let other : is_in_range 2 32 (length c.args.inside.now - length c.skip_scheme-rest.result) ≡ false = elim c.then-scheme-lt2.branch [
      | then-scheme-lt2-via-then-scheme-lt2 w ↦ grind (arith, nat_tests, w.if-scheme-lt2.true, c.len.ensures, c.len-2.ensures)
      | then-scheme-lt2-via-else-scheme-lt2+then-scheme-gt32 w ↦ grind (arith, nat_tests, w.if-scheme-gt32.true, c.len.ensures, c.len-2.ensures)
    ] in
    absolute-other c.args.inside.now c.skip_scheme-rest.result c.skip_scheme-rest.ensures.skipped other

pub returns-then-is_letter_next-clause-absolute : goal.returns-then-is_letter_next-clause-absolute
returns-then-is_letter_next-clause-absolute g c =
    let few : is_in_range 2 32 (length c.args.inside.now - length c.skip_scheme-rest.result) ≡ true = grind (arith, nat_tests, c.if-scheme-lt2.false, c.if-scheme-gt32.false, c.len.ensures, c.len-2.ensures) in
    c.is_byte_next.ensures.next ∙ absolute-letter c.args.inside.now c.skip_scheme-rest.result c.skip_scheme-rest.ensures.skipped few (sym c.is_letter_next.ensures.next ∙ c.if-is_letter_next.true)

pub returns-else-is_letter_next-clause-absolute : goal.returns-else-is_letter_next-clause-absolute
returns-else-is_letter_next-clause-absolute g c =
    c.if-is_letter_next.false ∙ absolute-no_letter c.args.inside.now c.skip_scheme-rest.result c.skip_scheme-rest.ensures.skipped (sym c.is_letter_next.ensures.next ∙ c.if-is_letter_next.false)
