use Rattle.cm_inline.proofs.lemmas.Words.{◌≡◌, ◌∙◌, get_or, sym, ap, refl, false}
use Rattle.cm_inline.specs.steps.Marks.{is_escaped}
use Rattle.cm_inline.specs.steps.Reads.{Stands}
use Rattle.cm_inline.proofs.lemmas.AtomLemmas.{escaped-is, text-is, stays-lone}
use Rattle.cm_inline.proofs.atoms.byte.Goals as goal

pub returns-then-is_escaped : goal.returns-then-is_escaped
returns-then-is_escaped c = record {
  atom = let source = c.args.source.now in
      let b = get_or source c.args.at 0 in
      let stands : Stands source c.args.at b = record { short = c.requires.short; within = c.requires.within; boundary = c.requires.boundary; byte = refl } in
      let escaped = ap (λ t. is_escaped (get_or t c.args.at 0)) (sym c.as_bytes.ensures.value) ∙ sym c.is_escaped.ensures ∙ c.if-is_escaped.true in
      λ rules. escaped-is rules source c.args.at b c.utf8.source stands c.requires.ascii c.requires.lone escaped;
}

pub returns : goal.returns
returns c = record {
  atom = let source = c.args.source.now in
      let b = get_or source c.args.at 0 in
      let stands : Stands source c.args.at b = record { short = c.requires.short; within = c.requires.within; boundary = c.requires.boundary; byte = refl } in
      let plain : is_escaped b ≡ false = ap (λ t. is_escaped (get_or t c.args.at 0)) (sym c.as_bytes.ensures.value) ∙ sym c.is_escaped.ensures ∙ c.if-is_escaped.false in
      λ rules. text-is rules source c.args.at b c.utf8.source stands c.requires.ascii c.requires.lone (stays-lone b c.requires.lone plain);
}
