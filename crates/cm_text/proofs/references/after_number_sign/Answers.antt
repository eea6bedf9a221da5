use Rattle.std.proofs.Common.{ap, sym, ◌∙◌, refl, arith}
use Rattle.std.specs.Char.{is_ascii_hexdigit}
use Rattle.cm_text.specs.References.{before_semicolon, numbered}
use Rattle.cm_text.specs.ReferenceReach.{reference_reach}
use Rattle.cm_text.proofs.lemmas.ReferenceLemmas.{reference-small_x, reference-great_x, reference-decimal}
use Rattle.cm_text.proofs.lemmas.ReferenceReach.{begins_reach}
use Rattle.cm_text.proofs.references.after_number_sign.Goals.{then-begins_with-via-then-begins_with, then-begins_with-via-else-begins_with+then-begins_with-2}
use Rattle.cm_text.proofs.references.after_number_sign.Goals as goal

pub returns-then-begins_with-clause-read : goal.returns-then-begins_with-clause-read
returns-then-begins_with-clause-read g c =
    c.hexadecimal.ensures.read ∙ ap (λ t. numbered 16 6 4 (before_semicolon is_ascii_hexdigit t)) c.after.ensures ∙ sym (elim c.then-begins_with.branch [
      | then-begins_with-via-then-begins_with w ↦ reference-small_x c.args.text.now (sym c.begins_with.ensures.begins ∙ w.if-begins_with.true)
      | then-begins_with-via-else-begins_with+then-begins_with-2 w ↦ reference-great_x c.args.text.now (sym w.begins_with-else-begins_with.ensures.begins ∙ w.if-begins_with-2.true)
    ])

pub returns-clause-read : goal.returns-clause-read
returns-clause-read g c = c.decimal.ensures.read ∙ sym (reference-decimal c.args.text.now (sym c.begins_with.ensures.begins ∙ c.if-begins_with.false) (sym c.begins_with-else-begins_with.ensures.begins ∙ c.if-begins_with-2.false))

pub returns-then-begins_with-clause-looks : goal.returns-then-begins_with-clause-looks
returns-then-begins_with-clause-looks g c = elim c.then-begins_with.branch [
  | then-begins_with-via-then-begins_with w ↦
      let first = begins_reach 120 c.args.text.now refl (sym c.begins_with.ensures.begins ∙ w.if-begins_with.true) in
      omega (arith, first, ap reference_reach c.after.ensures, c.begins_with.ensures.looks, w.looks-is, c.hexadecimal.ensures.looks)
  | then-begins_with-via-else-begins_with+then-begins_with-2 w ↦
      let first = begins_reach 88 c.args.text.now refl (sym w.begins_with-else-begins_with.ensures.begins ∙ w.if-begins_with-2.true) in
      omega (arith, first, ap reference_reach c.after.ensures, c.begins_with.ensures.looks, w.begins_with-else-begins_with.ensures.looks, w.looks-is, c.hexadecimal.ensures.looks)
]
