use Rattle.std.proofs.Common.{Bool, ◌||◌, ◌+◌, List, map, drop, sym, ap, ◌∙◌}
use Rattle.cm_tree.specs.declared.tree.Inline.{Inline}
use Rattle.cm_source.specs.InlineRefusals.{Judged, judged, hold_emphasis}
use Rattle.cm_source.proofs.lemmas.refusals.RefusalLemmas.{from-next, from-end}
use Rattle.cm_tree.proofs.lemmas.InlineFolds as inline_fold
use Rattle.cm_source.specs.InlineRefusals as refusals
use Rattle.cm_source.proofs.inline_refusals.emphasis.+emphasis.Goals as goal

pub has_emphasis-returns-in-Link : goal.has_emphasis-returns-in-Link
has_emphasis-returns-in-Link t c = λ rules.
    c.hold_emphasis.ensures rules ∙ ap (λ l. hold_emphasis (map (judged rules) l)) c.as_slice.ensures ∙ sym (ap (λ (j : Judged). j.has_emphasis) (ap (judged rules) c.in-Link.is ∙ inline_fold.link (refusals.inline_step rules) c.in-Link.dest c.in-Link.title c.in-Link.content))

pub has_emphasis-returns-in-Image : goal.has_emphasis-returns-in-Image
has_emphasis-returns-in-Image t c = λ rules.
    c.hold_emphasis-in-Image.ensures rules ∙ ap (λ l. hold_emphasis (map (judged rules) l)) c.as_slice-in-Image.ensures ∙ sym (ap (λ (j : Judged). j.has_emphasis) (ap (judged rules) c.in-Image.is ∙ inline_fold.image (refusals.inline_step rules) c.in-Image.dest c.in-Image.title c.in-Image.content))

pub hold_emphasis-loop-inline-preserved : goal.hold_emphasis-loop-inline-preserved
hold_emphasis-loop-inline-preserved t c = λ rules.
    let among : List Inline → Bool = λ l. hold_emphasis (map (judged rules) l) in
    let rest = drop (c.loop-inline.inline-index + 1) c.args.inlines.now in
    sym (from-next among c.args.inlines.now c.loop-inline.inline-index c.inline-item.result c.loop-inline-test.true c.inline-item.is
    ∙ ap (λ v. v || among rest) (sym (c.has_emphasis.ensures rules) ∙ c.if-has_emphasis.false)) ∙ c.loop-inline.invariant rules

pub hold_emphasis-returns-then-has_emphasis : goal.hold_emphasis-returns-then-has_emphasis
hold_emphasis-returns-then-has_emphasis t c = λ rules.
    let among : List Inline → Bool = λ l. hold_emphasis (map (judged rules) l) in
    let rest = drop (c.loop-inline.inline-index + 1) c.args.inlines.now in
    sym (from-next among c.args.inlines.now c.loop-inline.inline-index c.inline-item.result c.loop-inline-test.true c.inline-item.is
    ∙ ap (λ v. v || among rest) (sym (c.has_emphasis.ensures rules) ∙ c.if-has_emphasis.true)) ∙ c.loop-inline.invariant rules

pub hold_emphasis-returns : goal.hold_emphasis-returns
hold_emphasis-returns t c = λ rules.
    let among : List Inline → Bool = λ l. hold_emphasis (map (judged rules) l) in
    sym (from-end among c.args.inlines.now c.loop-inline.inline-index c.loop-inline-test.false) ∙ c.loop-inline.invariant rules
