use Rattle.std.proofs.Common.{◌≡◌, ◌⊎◌, ◌∙◌, sym, ap, arith, inl, inr}
use Rattle.cm_scan.specs.spans.Tags.{is_unquoted}
use Rattle.cm_scan.specs.spans.Reach.{tag_reach}
use Rattle.cm_scan.proofs.lemmas.spans.ReachLemmas.{reach_some, reach_quote, reach_plain, unquoted_plain, skipped_reach, map_some}
use Rattle.cm_scan.proofs.tags.after_value.Goals.{then-b-eq34-via-then-b-eq34, then-b-eq34-via-else-b-eq34+then-b-eq39}
use Rattle.cm_scan.proofs.tags.after_value.Goals as goal

pub returns-in_err-b-clause-none : goal.returns-in_err-b-clause-none
returns-in_err-b-clause-none g c = λ _. omega (arith, reach_some 0 c.args.bytes.now, c.first.ensures.looks)

pub returns-then-b-eq34-clause-some : goal.returns-then-b-eq34-clause-some
returns-then-b-eq34-clause-some g c =
    let is : (c.in_ok-b.b ≡ 34) ⊎ (c.in_ok-b.b ≡ 39) = elim c.then-b-eq34.branch [ then-b-eq34-via-then-b-eq34 w ↦ inl w.if-b-eq34.true | then-b-eq34-via-else-b-eq34+then-b-eq39 w ↦ inr w.if-b-eq39.true ] in
    let step = ap (tag_reach 0) c.in_ok-b.ensures.read ∙ reach_quote c.in_ok-b.b c.in_ok-b.beyond is in
    map_some c.after_quoted.result _ _ (c.after_quoted.ensures.some is) (λ rest h. omega (arith, h, step, c.first.ensures.looks))

pub returns-then-b-eq34-clause-none : goal.returns-then-b-eq34-clause-none
returns-then-b-eq34-clause-none g c =
    let is : (c.in_ok-b.b ≡ 34) ⊎ (c.in_ok-b.b ≡ 39) = elim c.then-b-eq34.branch [ then-b-eq34-via-then-b-eq34 w ↦ inl w.if-b-eq34.true | then-b-eq34-via-else-b-eq34+then-b-eq39 w ↦ inr w.if-b-eq39.true ] in
    let step = ap (tag_reach 0) c.in_ok-b.ensures.read ∙ reach_quote c.in_ok-b.b c.in_ok-b.beyond is in
    λ none. omega (arith, c.after_quoted.ensures.none is none, step, c.first.ensures.looks)

pub returns-then-not-is_unquoted-clause-none : goal.returns-then-not-is_unquoted-clause-none
returns-then-not-is_unquoted-clause-none g c = λ _. omega (arith, reach_some 0 c.args.bytes.now, c.first.ensures.looks)

pub returns-clause-some : goal.returns-clause-some
returns-clause-some g c =
    let beyond = c.in_ok-b.beyond in
    let step = ap (tag_reach 0) c.in_ok-b.ensures.read ∙ reach_plain c.in_ok-b.b beyond (unquoted_plain c.in_ok-b.b (sym c.is_unquoted.ensures ∙ c.if-not-is_unquoted.false)) in
    let along = skipped_reach is_unquoted unquoted_plain beyond c.skip_unquoted.result c.skip_unquoted.ensures.skipped in
    omega (arith, step, along, c.skip_unquoted.ensures.looks, c.skip_unquoted.ensures.shorter, c.first.ensures.looks)
