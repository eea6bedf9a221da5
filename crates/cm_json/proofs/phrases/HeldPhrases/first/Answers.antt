use Rattle.std.proofs.Common.{◌≡◌, ◌∙◌, ◌+◌, ◌++◌, Some, take, drop, flat_map, sym, ap}
use Rattle.std.specs.List.{position}
use Rattle.std.proofs.lemmas.List.Quantifiers.{position-Some}
use Rattle.cm_text.proofs.lemmas.ReplacedLemmas.{replaced-found, replaced-none}
use Rattle.cm_json.specs.steps.Phrases.{is_held, written}
use Rattle.cm_json.proofs.lemmas.PhraseLemmas.{free_is_written}
use Rattle.cm_json.proofs.phrases.HeldPhrases.first.Goals as goal

pub phrase-requires : goal.phrase-requires
phrase-requires c = (position-Some is_held c.args.bytes.now c.in_ok-at.at 0 (sym c.in_ok-at.ensures)).1

pub returns-clause-some : goal.returns-clause-some
returns-clause-some c =
    let bytes = c.args.bytes.now in
    let at = c.in_ok-at.at in
    let found : position is_held bytes ≡ Some at = sym c.in_ok-at.ensures in (
      (position-Some is_held bytes at 0 found).0,
      replaced-found is_held written free_is_written bytes at found ∙ ap (λ p. take at bytes ++ (p ++ flat_map written (drop (at + 1) bytes))) (sym c.phrase.ensures),
    )

pub returns-in_err-at-clause-none : goal.returns-in_err-at-clause-none
returns-in_err-at-clause-none c = λ none. replaced-none is_held written free_is_written c.args.bytes.now (sym c.in_err-at.ensures)
