use Rattle.std.proofs.Common.{◌∙◌, sym, arith}
use Rattle.cm_scan.proofs.lemmas.links.BracketedParts.{escapes-here}
use Rattle.cm_scan.proofs.links.escapes_next.Goals as goal

pub returns : goal.returns
returns c = record { escapes = rw (c.if-escaped.false) (c.is_ascii_punct.ensures ∙ sym (escapes-here c.args.text.now c.args.at (omega (arith, c.if-text-at-ne92.false)) (omega (arith, c.if-at-text.false, c.requires)))) }
