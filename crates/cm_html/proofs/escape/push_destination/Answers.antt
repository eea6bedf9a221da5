use Rattle.std.proofs.lemmas.Grind.{common_steps}
use Rattle.std.proofs.Common.{◌≡◌, not, sym, subst, ap, arith, ◌∙◌, ◌++◌}
use Rattle.std.specs.Prelude.{string_bytes, OnOk}
use Rattle.percent_encoding.specs.Iter.{encoded_text}
use Rattle.std.specs.List.{list_all}
use Rattle.cm_html.specs.Escape.{escape}
use Rattle.cm_html.specs.steps.Bytes.{is_changed}
use Rattle.cm_html.proofs.lemmas.Destinations.{encoded, unchanged}
use Rattle.cm_html.proofs.escape.push_destination.Goals as goal

pub loop-piece-init : goal.loop-piece-init
loop-piece-init c =
    ap (λ t. string_bytes c.args.out.now ++ escape t)
    (ap encoded_text c.into_iter-piece-iterator.ensures.into_iter_gives ∙ c.utf8_percent_encode-piece-items.ensures.text ∙ encoded c.args.destination.now)

pub returns-then-is_unchanged : goal.returns-then-is_unchanged
returns-then-is_unchanged c =
    let same = unchanged c.args.destination.now (ap (list_all (λ b. not (is_changed b))) (sym c.as_bytes.ensures.value) ∙ sym c.is_unchanged.ensures ∙ c.if-is_unchanged.true) in
    subst (λ t. OnOk c.push_str.result (string_bytes c.push_str.new.self ≡ string_bytes c.args.out.now ++ t)) (sym same) (grind (arith, common_steps))
