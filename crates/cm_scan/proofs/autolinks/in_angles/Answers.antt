use Rattle.std.proofs.Common.{◌∙◌, ℕ, List, Option, Some, option_map, drop, length, length-take-le, ap, sym, arith}
use Rattle.cm_scan.specs.spans.Reach.{link_reach}
use Rattle.cm_scan.proofs.lemmas.spans.AutolinkParts.{angles-nothing, angles-other, angles-ended, angles-open, angles-some}
use Rattle.cm_scan.proofs.lemmas.spans.AutolinkReach.{reach-inside}
use Rattle.cm_scan.proofs.autolinks.in_angles.Goals as goal

pub returns-in_err-b-clause-read : goal.returns-in_err-b-clause-read
returns-in_err-b-clause-read g c =
    ap (λ (o : Option (List ℕ × List ℕ)). option_map (λ r. record { text = r.0; rest = r.1 }) o) c.from_residual.ensures ∙ angles-nothing c.args.text.now c.in_err-b.ensures.read

pub returns-then-b-ne60-clause-read : goal.returns-then-b-ne60-clause-read
returns-then-b-ne60-clause-read g c = angles-other c.args.text.now c.in_ok-b.b c.in_ok-b.inside c.in_ok-b.ensures.read c.if-b-ne60.true

pub returns-in_err-c-clause-read : goal.returns-in_err-c-clause-read
returns-in_err-c-clause-read g c =
    ap (λ (o : Option (List ℕ × List ℕ)). option_map (λ r. record { text = r.0; rest = r.1 }) o) c.from_residual-in_err-c.ensures
    ∙ angles-ended c.args.text.now c.in_ok-b.b c.in_ok-b.inside c.in_ok-b.ensures.read c.if-b-ne60.false c.next_of-len.result c.next_of-len.ensures.next (sym c.after.ensures ∙ c.in_err-c.ensures.read)

pub returns-then-c-ne62-clause-read : goal.returns-then-c-ne62-clause-read
returns-then-c-ne62-clause-read g c =
    angles-open c.args.text.now c.in_ok-b.b c.in_ok-b.inside c.in_ok-b.ensures.read c.if-b-ne60.false c.next_of-len.result c.next_of-len.ensures.next c.in_ok-c.c c.in_ok-c.rest (sym c.after.ensures ∙ c.in_ok-c.ensures.read) c.if-c-ne62.true

pub returns-clause-read : goal.returns-clause-read
returns-clause-read g c =
    let rest = c.in_ok-c.rest in
    ap (λ t. Some (record { text = t; rest = rest })) c.front.ensures
    ∙ angles-some c.args.text.now c.in_ok-b.b c.in_ok-b.inside c.in_ok-b.ensures.read c.if-b-ne60.false c.next_of-len.result c.next_of-len.ensures.next c.in_ok-c.c rest (sym c.after.ensures ∙ c.in_ok-c.ensures.read) c.if-c-ne62.false

pub returns-in_err-c-clause-looks : goal.returns-in_err-c-clause-looks
returns-in_err-c-clause-looks g c =
    let whole = ap (λ t. link_reach (drop 1 t)) c.in_ok-b.ensures.read in
    let inside = reach-inside c.in_ok-b.inside c.next_of-len.result c.next_of-len.ensures.next in
    omega (arith, whole, inside, c.first.ensures.looks, c.next_of-len.ensures.looks, c.first-2.ensures.looks)

pub returns-then-c-ne62-clause-looks : goal.returns-then-c-ne62-clause-looks
returns-then-c-ne62-clause-looks g c =
    let whole = ap (λ t. link_reach (drop 1 t)) c.in_ok-b.ensures.read in
    let inside = reach-inside c.in_ok-b.inside c.next_of-len.result c.next_of-len.ensures.next in
    omega (arith, whole, inside, c.first.ensures.looks, c.next_of-len.ensures.looks, c.first-2.ensures.looks)

pub returns-clause-looks : goal.returns-clause-looks
returns-clause-looks g c =
    let whole = ap (λ t. link_reach (drop 1 t)) c.in_ok-b.ensures.read in
    let inside = reach-inside c.in_ok-b.inside c.next_of-len.result c.next_of-len.ensures.next in
    omega (arith, whole, inside, c.first.ensures.looks, c.next_of-len.ensures.looks, c.first-2.ensures.looks)

pub returns-clause-inside : goal.returns-clause-inside
returns-clause-inside g c =
    let whole = ap (λ t. link_reach (drop 1 t)) c.in_ok-b.ensures.read in
    let inside = reach-inside c.in_ok-b.inside c.next_of-len.result c.next_of-len.ensures.next in
    omega (arith, whole, inside, ap length c.front.ensures, length-take-le c.next_of-len.result c.in_ok-b.inside c.next_of-len.ensures.within)
