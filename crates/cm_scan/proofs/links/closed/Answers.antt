use Rattle.std.proofs.Common.{◌∙◌, ◌==◌, ◌-◌, sym, ap, arith, get_or, cond}
use Rattle.cm_scan.specs.steps.LinkSteps.{is_barred, is_plain}
use Rattle.cm_scan.proofs.lemmas.links.BracketedParts.{part-none, part-end, part-stop, part-kept, closes-no_blanks, barred-no_spaces, bool_byte-is, part-plain, ended, here-and-beyond}
use Rattle.cm_scan.proofs.links.closed.Goals as goal

pub returns-then-is_end-clause-read : goal.returns-then-is_end-clause-read
returns-then-is_end-clause-read c =
    let ends = ended c.loop-at.escaped (get_or c.args.text.now c.loop-at.at 0 == c.args.bounds.close) (sym c.is_end.ensures ∙ c.if-is_end.true) in
    sym (part-end (λ x. x == c.args.bounds.close) (is_barred c.args.bounds.open c.args.bounds.one_line) c.loop-at.left c.args.bounds.blank_lines c.loop-at.escaped
    c.args.text.now c.args.from c.loop-at.at c.loop-at-test.true ends.0 ends.1)
    ∙ c.loop-at.invariant.read

pub returns-then-is_refused-clause-read : goal.returns-then-is_refused-clause-read
returns-then-is_refused-clause-read c =
    sym (part-stop (λ x. x == c.args.bounds.close) (is_barred c.args.bounds.open c.args.bounds.one_line)
    (closes-no_blanks c.args.bounds.close c.requires.no_blanks.1) (barred-no_spaces c.args.bounds.open c.args.bounds.one_line c.requires.no_blanks.0)
    c.loop-at.left c.args.bounds.blank_lines c.loop-at.escaped c.args.text.now c.args.from c.loop-at.at c.loop-at-test.true
    (sym c.is_end.ensures ∙ c.if-is_end.false) (sym c.is_refused.ensures.refused ∙ c.if-is_refused.true))
    ∙ c.loop-at.invariant.read

pub loop-at-preserved-then-is_plain : goal.loop-at-preserved-then-is_plain
loop-at-preserved-then-is_plain c =
    let end = c.plain_end-beyond.result in
    let within = c.plain_end-beyond.ensures.within in
    record {
      read = part-plain c.args.bounds.open c.args.bounds.close c.args.bounds.one_line c.requires.no_blanks.0 c.requires.no_blanks.1 c.requires.marks.0 c.requires.marks.1
          c.args.bounds.blank_lines c.args.text.now c.args.from (end - c.loop-at.at - 1) c.loop-at.left (c.loop-at.left - (end - c.loop-at.at)) c.loop-at.at end c.loop-at.escaped
          (omega (arith, within)) (omega (arith, within, c.if-left-gt0.true)) c.loop-at.invariant.within.0 within.1
          (here-and-beyond is_plain c.args.text.now c.loop-at.at end (sym c.is_plain.ensures ∙ c.if-is_plain.true) c.plain_end-beyond.ensures.plain)
          ∙ c.loop-at.invariant.read;
      within = (omega (arith, c.loop-at.invariant.within.0, within), within.1);
    }

pub loop-at-preserved : goal.loop-at-preserved
loop-at-preserved c = record {
  read = part-kept (λ x. x == c.args.bounds.close) (is_barred c.args.bounds.open c.args.bounds.one_line)
      (closes-no_blanks c.args.bounds.close c.requires.no_blanks.1) (barred-no_spaces c.args.bounds.open c.args.bounds.one_line c.requires.no_blanks.0)
      c.loop-at.left c.from-left.result c.args.bounds.blank_lines c.loop-at.escaped c.escapes_next-escaped.result c.args.text.now c.args.from c.loop-at.at
      c.loop-at.invariant.within.0 c.loop-at-test.true
      (sym c.is_end.ensures ∙ c.if-is_end.false) (sym c.is_refused.ensures.refused ∙ c.if-is_refused.false)
      (c.from-left.ensures ∙ bool_byte-is c.begins_character.result ∙ ap (λ v. cond v 1 0) c.begins_character.ensures) c.escapes_next-escaped.ensures.escapes
      ∙ c.loop-at.invariant.read;
  within = (omega (arith, c.loop-at.invariant.within.0), omega (arith, c.loop-at-test.true));
}

pub returns-clause-read : goal.returns-clause-read
returns-clause-read c =
    sym (part-none (λ x. x == c.args.bounds.close) (is_barred c.args.bounds.open c.args.bounds.one_line) c.loop-at.left c.args.bounds.blank_lines c.loop-at.escaped
    c.args.text.now c.args.from c.loop-at.at (omega (arith, c.loop-at-test.false)))
    ∙ c.loop-at.invariant.read
