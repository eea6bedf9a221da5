use Rattle.std.proofs.Common.{◌+◌, arith, drop, string_bytes, sym, take}
use Rattle.std.proofs.lemmas.Grind.{common_steps}
use Rattle.cm_text.proofs.lemmas.TextLemmas.{more_text, nul-first, nul-nowhere}
use Rattle.cm_text.proofs.texts.text_of.Goals as goal

pub loop-at-preserved : goal.loop-at-preserved
loop-at-preserved c =
    let bytes = c.as_bytes.result.now in
    let first = c.in-Some.ensures in
    let cut = nul-first bytes c.in-Some.at first.0.high first.1 first.0.before in (
      c.cut_at.ensures.after_utf8,
      rw (c.in_ok-push_str-2.ensures.bytes, c.in_ok-push_str.ensures.bytes, c.cut_at.ensures.before, c.cut_at.ensures.after, sym c.as_bytes.ensures.value)
          (more_text (string_bytes c.loop-at.text) (take c.in-Some.at bytes) (drop (c.in-Some.at + 1) bytes) bytes c.args.whole.now cut
          (rw (sym c.as_bytes.ensures.value) at c.loop-at.invariant.1)),
    )

pub returns : goal.returns
returns c = record {
  text = let whole = nul-nowhere c.as_bytes.result.now c.in_default.ensures in
      grind (arith, common_steps, c.loop-at.invariant.1, whole);
}
