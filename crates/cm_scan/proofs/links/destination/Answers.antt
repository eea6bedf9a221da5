use Rattle.std.proofs.Common.{◌∙◌, ap, drop}
use Rattle.cm_scan.specs.Words.{begins_with}
use Rattle.cm_scan.specs.Scanned.{reading_of}
use Rattle.cm_scan.proofs.lemmas.links.TitlesAndDestinations.{destination-bare, destination-angle}
use Rattle.cm_scan.proofs.links.destination.Goals as goal

pub returns-then-not-is_next-clause-read : goal.returns-then-not-is_next-clause-read
returns-then-not-is_next-clause-read c =
    destination-bare c.args.text.now c.args.at c.is_next.result (reading_of c.args.text.now c.bare.result)
    (c.is_next.ensures.next ∙ ap (λ t. begins_with 60 (drop c.args.at t)) c.as_bytes.ensures.value) c.if-not-is_next.true c.bare.ensures.read

pub returns-clause-read : goal.returns-clause-read
returns-clause-read c =
    destination-angle c.args.text.now c.args.at c.is_next.result (reading_of c.args.text.now c.enclosed.result)
    (c.is_next.ensures.next ∙ ap (λ t. begins_with 60 (drop c.args.at t)) c.as_bytes.ensures.value) c.if-not-is_next.false c.enclosed.ensures.read
