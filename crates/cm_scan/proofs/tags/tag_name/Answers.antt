use Rattle.std.proofs.Common.{◌∙◌, length, sym, ap, arith}
use Rattle.std.proofs.lemmas.Grind.{common_steps}
use Rattle.cm_scan.specs.spans.Reach.{tag_reach}
use Rattle.cm_scan.specs.steps.TagNames.{continues_name}
use Rattle.cm_scan.specs.spans.Tags.{tag_name}
use Rattle.cm_scan.proofs.lemmas.spans.TagParts.{name_found, name_other, name_nothing}
use Rattle.cm_scan.proofs.lemmas.spans.ReachLemmas.{reach_plain, letter_plain, name_plain, skipped_reach}
use Rattle.cm_scan.proofs.tags.tag_name.Goals as goal

pub returns-in_err-b-clause-read : goal.returns-in_err-b-clause-read
returns-in_err-b-clause-read g c =
    let none = ap tag_name c.in_err-b.ensures.read ∙ name_nothing in
    grind (arith, common_steps, none)

pub returns-then-not-is_letter-clause-read : goal.returns-then-not-is_letter-clause-read
returns-then-not-is_letter-clause-read g c =
    ap tag_name c.in_ok-b.ensures.read ∙ name_other c.in_ok-b.b c.in_ok-b.beyond (sym c.is_letter.ensures ∙ c.if-not-is_letter.true)

pub returns-clause-read : goal.returns-clause-read
returns-clause-read g c =
    let is = ap tag_name c.in_ok-b.ensures.read ∙ name_found c.in_ok-b.b c.in_ok-b.beyond (sym c.is_letter.ensures ∙ c.if-not-is_letter.false) in
    rw (c.lend-name.ensures.front, c.len.ensures, c.len-2.ensures, c.skip_name-rest.ensures.skipped, c.in_ok-b.ensures.read) (sym (ap tag_name c.in_ok-b.ensures.read) ∙ is)

pub returns-clause-some : goal.returns-clause-some
returns-clause-some g c =
    let beyond = c.in_ok-b.beyond in
    let step = ap (tag_reach 0) c.in_ok-b.ensures.read ∙ reach_plain c.in_ok-b.b beyond (letter_plain c.in_ok-b.b (sym c.is_letter.ensures ∙ c.if-not-is_letter.false)) in
    let long = ap length c.in_ok-b.ensures.read in
    let along = skipped_reach continues_name name_plain beyond c.skip_name-rest.result c.skip_name-rest.ensures.skipped in
    omega (arith, step, long, along, c.first.ensures.looks, c.skip_name-rest.ensures.looks, c.skip_name-rest.ensures.shorter, c.lend-name.ensures.looks, c.len.ensures, c.len-2.ensures)
