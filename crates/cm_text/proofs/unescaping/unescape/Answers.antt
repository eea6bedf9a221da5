use Rattle.std.proofs.Common.{◌++◌, ap, sym, ◌∙◌, string_bytes, arith}
use Rattle.std.proofs.lemmas.Grind.{common_steps}
use Rattle.cm_text.specs.Unescaping.{unescape}
use Rattle.cm_text.proofs.lemmas.UnescapingLemmas.{run-before, run-whole, round}
use Rattle.cm_text.proofs.unescaping.unescape.Goals as goal

pub loop-at-preserved : goal.loop-at-preserved
loop-at-preserved c =
    let rest = c.loop-at.rest.now in
    let found = run-before rest c.as_bytes.result.now c.in-Some.at c.as_bytes.ensures.value c.in-Some.ensures.found in (
      c.range_from-rest.utf8,
      round (unescape c.args.text.now) rest c.range.result.now c.range_from.result.now c.range_from-rest.result.now
          (string_bytes c.loop-at.unescaped) (string_bytes c.push_str.new.self) (string_bytes c.push_special.new.out) c.in-Some.at c.in_ok-len.len
          found.2 c.range.ensures.value c.in_ok-push_str.ensures.bytes c.range_from.ensures.value c.in_ok-len.ensures.read c.range_from-rest.ensures.value c.loop-at.invariant.1,
    )

pub returns : goal.returns
returns c = record {
  unescaped = let rest = c.loop-at.rest.now in
      c.in_ok-push_str-2.ensures.bytes
      ∙ ap (λ t. string_bytes c.loop-at.unescaped ++ t) (sym (run-whole rest c.as_bytes.result.now c.as_bytes.ensures.value c.in_default.ensures.found))
      ∙ c.loop-at.invariant.1;
}

pub push_special-requires-clause-ascii : goal.push_special-requires-clause-ascii
push_special-requires-clause-ascii c = grind (arith, common_steps)

pub range_from-rest-requires : goal.range_from-rest-requires
range_from-rest-requires c = grind (arith, common_steps)
