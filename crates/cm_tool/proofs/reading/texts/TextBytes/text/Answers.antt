use Rattle.std.proofs.Common.{ap, rules, subst, sym}
use Rattle.std.specs.Prelude.{option_map}
use Rattle.std.proofs.lemmas.Result.{err_from_is_err_and}
use Rattle.cm_text.specs.Faults.{text_fault}
use Rattle.cm_tool.specs.ToldFaults.{told}
use Rattle.cm_tool.specs.steps.Texts.{TextSoFar, HasGathered}
use Rattle.cm_tool.proofs.lemmas.ParserLemmas.{no_fault}
use Rattle.cm_tool.proofs.lemmas.TextLemmas.{feed_told, feed_goes, had_none, sound_is_utf8}
use Rattle.cm_tool.proofs.reading.texts.TextBytes.text.Goals as goal

pub returns-in_err-end-clause-told : goal.returns-in_err-end-clause-told
returns-in_err-end-clause-told c =
    let p = err_from_is_err_and c.from_residual.result c.from_residual.ensures.1 in
    let t = c.self.inside in
    let fault = c.in_err-end.field-0.0 in
    rw (p.1, p.2) (λ limits bytes stands.
    let s = subst (λ (t : TextSoFar). HasGathered limits t bytes) (sym c.self.view_is) stands in
    rw (← s.same, ← s.limit) (feed_told fault (text_fault t.feed.limit t.bytes.items)
    (c.in_err-end.ensures.told s.sound t.bytes.items 0 (feed_goes t.feed t.bytes.items c.self.invariant.0 c.self.invariant.1 s.sound))))

pub unwrap-requires : goal.unwrap-requires
unwrap-requires c =
    let t = c.self.inside in
    let sound = had_none t.feed c.end.new.self c.in_ok-end.ensures.failed (no_fault _ _ c.in_ok-end.ensures.answer) in
    c.from_utf8.ensures.succeeds (sound_is_utf8 t.feed.limit t.bytes.items
    (c.in_ok-end.ensures.told sound t.bytes.items 0 (feed_goes t.feed t.bytes.items c.self.invariant.0 c.self.invariant.1 sound)))

pub returns-clause-text : goal.returns-clause-text
returns-clause-text c = λ limits bytes stands.
    let t = c.self.inside in
    let s = subst (λ (t : TextSoFar). HasGathered limits t bytes) (sym c.self.view_is) stands in
    rw (← s.same, ← s.limit) (
      ap (option_map told) (c.in_ok-end.ensures.told s.sound t.bytes.items 0 (feed_goes t.feed t.bytes.items c.self.invariant.0 c.self.invariant.1 s.sound)),
      search rules,
    )
