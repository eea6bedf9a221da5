use Rattle.std.proofs.Common.{Bool, ◌||◌, ◌+◌, List, map, drop, sym, ap, ◌∙◌}
use Rattle.cm_tree.specs.declared.tree.Inline.{Inline}
use Rattle.cm_source.specs.InlineRefusals.{Judged, judged, hold_link}
use Rattle.cm_source.proofs.lemmas.refusals.RefusalLemmas.{from-next, from-end}
use Rattle.cm_tree.proofs.lemmas.InlineFolds as inline_fold
use Rattle.cm_source.specs.InlineRefusals as refusals
use Rattle.cm_source.proofs.inline_refusals.links.+links.Goals as goal

pub has_link-returns-in-Emph : goal.has_link-returns-in-Emph
has_link-returns-in-Emph t c = λ rules.
    c.hold_link.ensures rules ∙ ap (λ l. hold_link (map (judged rules) l)) c.as_slice.ensures ∙ sym (ap (λ (j : Judged). j.has_link) (ap (judged rules) c.in-Emph.is ∙ inline_fold.emph (refusals.inline_step rules) c.in-Emph.content))

pub has_link-returns-in-Strong : goal.has_link-returns-in-Strong
has_link-returns-in-Strong t c = λ rules.
    c.hold_link-in-Strong.ensures rules ∙ ap (λ l. hold_link (map (judged rules) l)) c.as_slice-in-Strong.ensures ∙ sym (ap (λ (j : Judged). j.has_link) (ap (judged rules) c.in-Strong.is ∙ inline_fold.strong (refusals.inline_step rules) c.in-Strong.content))

pub has_link-returns-in-Strike : goal.has_link-returns-in-Strike
has_link-returns-in-Strike t c = λ rules.
    c.hold_link-in-Strike.ensures rules ∙ ap (λ l. hold_link (map (judged rules) l)) c.as_slice-in-Strike.ensures ∙ sym (ap (λ (j : Judged). j.has_link) (ap (judged rules) c.in-Strike.is ∙ inline_fold.strike (refusals.inline_step rules) c.in-Strike.content))

pub has_link-returns-in-Image : goal.has_link-returns-in-Image
has_link-returns-in-Image t c = λ rules.
    c.hold_link-in-Image.ensures rules ∙ ap (λ l. hold_link (map (judged rules) l)) c.as_slice-in-Image.ensures ∙ sym (ap (λ (j : Judged). j.has_link) (ap (judged rules) c.in-Image.is ∙ inline_fold.image (refusals.inline_step rules) c.in-Image.dest c.in-Image.title c.in-Image.content))

pub hold_link-loop-inline-preserved : goal.hold_link-loop-inline-preserved
hold_link-loop-inline-preserved t c = λ rules.
    let among : List Inline → Bool = λ l. hold_link (map (judged rules) l) in
    let rest = drop (c.loop-inline.inline-index + 1) c.args.inlines.now in
    sym (from-next among c.args.inlines.now c.loop-inline.inline-index c.inline-item.result c.loop-inline-test.true c.inline-item.is
    ∙ ap (λ v. v || among rest) (sym (c.has_link.ensures rules) ∙ c.if-has_link.false)) ∙ c.loop-inline.invariant rules

pub hold_link-returns-then-has_link : goal.hold_link-returns-then-has_link
hold_link-returns-then-has_link t c = λ rules.
    let among : List Inline → Bool = λ l. hold_link (map (judged rules) l) in
    let rest = drop (c.loop-inline.inline-index + 1) c.args.inlines.now in
    sym (from-next among c.args.inlines.now c.loop-inline.inline-index c.inline-item.result c.loop-inline-test.true c.inline-item.is
    ∙ ap (λ v. v || among rest) (sym (c.has_link.ensures rules) ∙ c.if-has_link.true)) ∙ c.loop-inline.invariant rules

pub hold_link-returns : goal.hold_link-returns
hold_link-returns t c = λ rules.
    let among : List Inline → Bool = λ l. hold_link (map (judged rules) l) in
    sym (from-end among c.args.inlines.now c.loop-inline.inline-index c.loop-inline-test.false) ∙ c.loop-inline.invariant rules
