use Rattle.std.specs.Int.{is_in_range}
use Rattle.std.proofs.Common.{◌≡◌, ◌-◌, ◌<◌, ◌||◌, ◌∙◌, true, false, length, drop, sym, ap, arith}
use Rattle.std.proofs.lemmas.Bool.Decides.{nat_tests}
use Rattle.cm_scan.specs.Words.{begins_with}
use Rattle.cm_scan.proofs.lemmas.spans.AutolinkParts.{label-size, label-hyphen, label-bytes}
use Rattle.cm_scan.proofs.autolink_contents.is_host_label.Goals.{then-len-lt1-via-then-len-lt1, then-len-lt1-via-else-len-lt1+then-len-gt63}
use Rattle.cm_scan.proofs.autolink_contents.is_host_label.Goals.{then-is_byte_next-via-then-is_byte_next, then-is_byte_next-via-else-is_byte_next+then-is_byte_next-2}
use Rattle.cm_scan.proofs.autolink_contents.is_host_label.Goals as goal

pub returns-then-len-lt1-clause-label : goal.returns-then-len-lt1-clause-label
returns-then-len-lt1-clause-label g c =
    let other : is_in_range 1 63 (length c.args.label.now) ≡ false = elim c.then-len-lt1.branch [
      | then-len-lt1-via-then-len-lt1 w ↦ grind (arith, nat_tests, w.if-len-lt1.true, c.len-len.ensures)
      | then-len-lt1-via-else-len-lt1+then-len-gt63 w ↦ grind (arith, nat_tests, w.if-len-gt63.true, c.len-len.ensures)
    ] in
    label-size c.args.label.now other

pub returns-then-is_byte_next-clause-label : goal.returns-then-is_byte_next-clause-label
returns-then-is_byte_next-clause-label g c =
    let label = c.args.label.now in
    let some : 0 < length label = omega (arith, c.if-len-lt1.false, c.len-len.ensures) in
    elim c.then-is_byte_next.branch [
      | then-is_byte_next-via-then-is_byte_next w ↦ label-hyphen label some (ap (λ t. t || begins_with 45 (drop (length label - 1) label)) (sym c.is_byte_next.ensures.next ∙ w.if-is_byte_next.true))
      | then-is_byte_next-via-else-is_byte_next+then-is_byte_next-2 w ↦
          let last = ap (begins_with 45) (ap (λ n. drop (n - 1) label) (sym c.len-len.ensures) ∙ sym w.after.ensures) ∙ sym w.is_byte_next-else-is_byte_next.ensures.next ∙ w.if-is_byte_next-2.true in
          label-hyphen label some (grind (arith, last))
    ]

pub returns-clause-label : goal.returns-clause-label
returns-clause-label g c =
    let label = c.args.label.now in
    let some : 0 < length label = omega (arith, c.if-len-lt1.false, c.len-len.ensures) in
    let few : is_in_range 1 63 (length label) ≡ true = grind (arith, nat_tests, some, c.if-len-gt63.false, c.len-len.ensures) in
    let first = sym c.is_byte_next.ensures.next ∙ c.if-is_byte_next.false in
    let last = ap (begins_with 45) (ap (λ n. drop (n - 1) label) (sym c.len-len.ensures) ∙ sym c.after.ensures) ∙ sym c.is_byte_next-else-is_byte_next.ensures.next ∙ c.if-is_byte_next-2.false in
    c.has_host_bytes.ensures.bytes ∙ label-bytes label some few first last
