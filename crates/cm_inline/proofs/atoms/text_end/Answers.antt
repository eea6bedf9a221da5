use Rattle.cm_inline.proofs.lemmas.Words.{◌≡◌, get_or, ap, ◌∙◌, arith, next_place, is_marked, not-same, rules}
use Rattle.cm_inline.proofs.lemmas.TextLemmas.{text-to-markup, text-to-spaces}
use Rattle.cm_inline.proofs.atoms.text_end.Goals as goal
use Rattle.cm_inline.proofs.atoms.text_end.Goals.{else-end-source-via-then-end-source+else-as_bytes-end-eq10, else-end-source-via-else-end-source}

pub returns-then-as_bytes-end-eq10 : goal.returns-then-as_bytes-end-eq10
returns-then-as_bytes-end-eq10 c = record { text = search (rules, text-to-spaces) }

pub returns : goal.returns
returns c = record {
  text = let source = c.args.source.now in
      let end = c.next_marked-end.result in
      let place : end ≡ next_place is_marked source c.args.at = c.next_marked-end.ensures.next ∙ ap (λ t. next_place is_marked t c.args.at) c.as_bytes.ensures.value in
      text-to-markup source c.args.at end c.requires.0 place (λ some. elim c.else-end-source.branch [
        | else-end-source-via-then-end-source+else-as_bytes-end-eq10 w ↦ not-same (get_or source end 0) 10 (λ e. absurd (omega (arith, w.if-as_bytes-end-eq10.false, ap (λ t. get_or t end 0) w.as_bytes-then-end-source.ensures.value, e)))
        | else-end-source-via-else-end-source w ↦ absurd (omega (arith, some, w.if-end-source.false))
      ]);
}
