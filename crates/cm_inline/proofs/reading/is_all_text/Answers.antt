use Rattle.cm_inline.proofs.lemmas.Words.{◌≡◌, ◌+◌, get_or, sym, ap, ◌∙◌, arith, IsCharBoundary-after_ascii, rules}
use Rattle.cm_inline.proofs.lemmas.PlainLemmas.{text-start, text-further, feed-further, plain-further, plain-feed, all-text}
use Rattle.cm_inline.proofs.reading.is_all_text.Goals as goal

pub loop-end-init : goal.loop-end-init
loop-end-init c = search (rules, text-further, text-start, plain-further)

pub text_end-end-requires : goal.text_end-end-requires
text_end-end-requires c =
    let source = c.args.source.now in
    let byte : get_or source c.loop-end.end 0 ≡ 10 = ap (λ t. get_or t c.loop-end.end 0) (sym c.as_bytes.ensures.value) ∙ c.if-as_bytes-end-ne10.false in
    IsCharBoundary-after_ascii source c.loop-end.end c.utf8.source (omega (arith, c.loop-end-test.true)) (omega (arith, byte))

pub loop-end-preserved : goal.loop-end-preserved
loop-end-preserved c =
    let source = c.args.source.now in
    let byte : get_or source c.loop-end.end 0 ≡ 10 = ap (λ t. get_or t c.loop-end.end 0) (sym c.as_bytes.ensures.value) ∙ c.if-as_bytes-end-ne10.false in
    record {
      boundary = c.text_end-end.ensures.text.boundary;
      read = text-further source (c.loop-end.end + 1) c.text_end-end.result c.text_end-end.ensures.text (feed-further source c.loop-end.end (omega (arith, c.loop-end-test.true)) byte c.loop-end.invariant.read);
      plain = plain-further source (c.loop-end.end + 1) c.text_end-end.result c.text_end-end.ensures.text (plain-feed source c.loop-end.end (omega (arith, c.loop-end-test.true)) byte c.loop-end.invariant.plain);
    }

pub returns : goal.returns
returns c = record { text = λ _. all-text c.args.source.now c.loop-end.end (omega (arith, c.loop-end-test.false)) c.loop-end.invariant.read c.loop-end.invariant.plain }
