use Rattle.std.proofs.Common.{ap, option_map, sym, ◌∙◌, Some}
use Rattle.cm_text.specs.NamedReferences.{names}
use Rattle.cm_text.specs.References.{entry, chars_of}
use Rattle.cm_text.proofs.lemmas.NameLemmas.{place-entry, no-entry}
use Rattle.cm_text.proofs.names.look_up.Goals as goal

pub returns-in_err-place_of : goal.returns-in_err-place_of
returns-in_err-place_of c = record { found = ap (option_map chars_of) c.from_residual.ensures ∙ sym (no-entry c.args.name.now c.in_err-place_of.ensures.none) }

pub returns : goal.returns
returns c = record {
  found = let found = c.in_ok-place_of.ensures.some in
      ap (λ t. Some t) c.characters_at.ensures ∙ sym (place-entry c.in_ok-place_of.field-0 found.0) ∙ ap (λ t. entry names t) found.1;
}
