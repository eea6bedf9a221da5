use Rattle.std.proofs.Common.{◌∙◌, ◌+◌, get_or, sym, arith}
use Rattle.cm_text.proofs.lemmas.SearchLemmas.{past-unmarked, marked-there, past-escaped, no-markup}
use Rattle.cm_text.proofs.search.next_markup.Goals as goal

pub loop-at-init : goal.loop-at-init
loop-at-init c =
    let bytes = c.args.bytes.now in
    let place = c.next_marked-at.ensures.next in
    record {
      same = past-unmarked bytes c.args.from c.next_marked-at.result place;
      within = omega (arith, place);
      marked = marked-there bytes c.args.from c.next_marked-at.result place;
    }

pub loop-at-preserved : goal.loop-at-preserved
loop-at-preserved c =
    let bytes = c.args.bytes.now in
    let at = c.loop-at.at in
    let place = c.next_marked-at-in-loop-at.ensures.next in
    let escaped = sym c.is_only_escaped.ensures ∙ c.if-is_only_escaped.true in
    record {
      same = past-unmarked bytes (at + 1) c.next_marked-at-in-loop-at.result place
          ∙ past-escaped bytes at c.loop-at-test.true (no-markup (get_or bytes at 0) escaped)
          ∙ c.loop-at.invariant.same;
      within = omega (arith, place);
      marked = marked-there bytes (at + 1) c.next_marked-at-in-loop-at.result place;
    }
