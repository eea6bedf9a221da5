use Rattle.std.proofs.Common.{◌+◌, false, [], ◌∷◌, ◌++◌, map, drop, refl, sym, ap, subst, ◌∙◌, append_assoc, append-nil}
use Rattle.std.specs.Prelude.{codes}
use Rattle.std.proofs.lemmas.List.{drop_more, drop_all, take_rest}
use Rattle.cm_source.specs.Texts.{spelled_target}
use Rattle.cm_source.specs.Inlines.{spelled, spelled_inlines, is_line_end}
use Rattle.cm_source.specs.steps.WrittenLines.{Lays}
use Rattle.cm_source.proofs.lemmas.spelling.WrittenLineLemmas.{then-ok, lays-then, lays-nothing}
use Rattle.cm_source.proofs.lemmas.shared.Alike.{its-spelling}
use Rattle.cm_tree.proofs.lemmas.InlineFolds as inline_fold
use Rattle.cm_source.specs.Inlines as spelling
use Rattle.cm_source.proofs.inlines.+inlines.Goals as goal

pub spell_between-returns : goal.spell_between-returns
spell_between-returns t c =
    let start = c.args.source.now in
    let mark = c.args.mark.now in
    let content = spelled_inlines false false c.args.content.now in
    then-ok c.push-2.result (λ last. lays-then start c.spell_inlines.new.source c.push-2.new.self (mark ++ content) mark
    (lays-then start c.push.new.self c.spell_inlines.new.source mark content c.in_ok-push.ensures c.in_ok-spell_inlines.ensures) last) c.push-2.ensures

pub spell_link-returns : goal.spell_link-returns
spell_link-returns t c =
    let start = c.args.source.now in
    let mark = c.args.mark.now in
    let content = spelled_inlines false false c.args.content.now in
    then-ok c.spell_target.result (λ last. lays-then start c.spell_inlines.new.source c.spell_target.new.source (mark ++ content) (spelled_target c.args.dest.now c.args.title.now)
    (lays-then start c.push.new.self c.spell_inlines.new.source mark content c.in_ok-push.ensures c.in_ok-spell_inlines.ensures) last) c.spell_target.ensures

pub spell_inline-returns-in-Emph : goal.spell_inline-returns-in-Emph
spell_inline-returns-in-Emph t c =
    let start = c.args.source.now in
    let end = c.spell_between.new.source in
    let shape = ap (λ content. codes "*" ++ spelled_inlines false false content ++ codes "*") c.as_slice.ensures ∙ sym (ap (λ i. (spelled i).spelling c.args.first c.args.last) c.in-Emph.is ∙ its-spelling (inline_fold.emph spelling.inline_step c.in-Emph.content) c.args.first c.args.last) in
    then-ok c.spell_between.result (subst (Lays start end) shape) c.spell_between.ensures

pub spell_inline-returns-in-Strong : goal.spell_inline-returns-in-Strong
spell_inline-returns-in-Strong t c =
    let start = c.args.source.now in
    let end = c.spell_between-in-Strong.new.source in
    let shape = ap (λ content. codes "**" ++ spelled_inlines false false content ++ codes "**") c.as_slice-in-Strong.ensures ∙ sym (ap (λ i. (spelled i).spelling c.args.first c.args.last) c.in-Strong.is ∙ its-spelling (inline_fold.strong spelling.inline_step c.in-Strong.content) c.args.first c.args.last) in
    then-ok c.spell_between-in-Strong.result (subst (Lays start end) shape) c.spell_between-in-Strong.ensures

pub spell_inline-returns-in-Strike : goal.spell_inline-returns-in-Strike
spell_inline-returns-in-Strike t c =
    let start = c.args.source.now in
    let end = c.spell_between-in-Strike.new.source in
    let shape = ap (λ content. codes "~~" ++ spelled_inlines false false content ++ codes "~~") c.as_slice-in-Strike.ensures ∙ sym (ap (λ i. (spelled i).spelling c.args.first c.args.last) c.in-Strike.is ∙ its-spelling (inline_fold.strike spelling.inline_step c.in-Strike.content) c.args.first c.args.last) in
    then-ok c.spell_between-in-Strike.result (subst (Lays start end) shape) c.spell_between-in-Strike.ensures

pub spell_inline-returns-in-Link : goal.spell_inline-returns-in-Link
spell_inline-returns-in-Link t c =
    let start = c.args.source.now in
    let end = c.spell_link.new.source in
    let i = c.in-Link in
    let shape = ap (λ content. codes "[" ++ spelled_inlines false false content ++ spelled_target c.as_str-in-Link.result.now c.as_str-in-Link-2.result.now) c.as_slice-in-Link.ensures
    ∙ ap (λ dest. codes "[" ++ spelled_inlines false false i.content ++ spelled_target dest c.as_str-in-Link-2.result.now) c.as_str-in-Link.ensures
    ∙ ap (λ title. codes "[" ++ spelled_inlines false false i.content ++ spelled_target i.dest title) c.as_str-in-Link-2.ensures
    ∙ sym (ap (λ i. (spelled i).spelling c.args.first c.args.last) i.is ∙ its-spelling (inline_fold.link spelling.inline_step i.dest i.title i.content) c.args.first c.args.last) in
    then-ok c.spell_link.result (subst (Lays start end) shape) c.spell_link.ensures

pub spell_inline-returns-in-Image : goal.spell_inline-returns-in-Image
spell_inline-returns-in-Image t c =
    let start = c.args.source.now in
    let end = c.spell_link-in-Image.new.source in
    let i = c.in-Image in
    let shape = ap (λ content. codes "![" ++ spelled_inlines false false content ++ spelled_target c.as_str-in-Image.result.now c.as_str-in-Image-2.result.now) c.as_slice-in-Image.ensures
    ∙ ap (λ dest. codes "![" ++ spelled_inlines false false i.content ++ spelled_target dest c.as_str-in-Image-2.result.now) c.as_str-in-Image.ensures
    ∙ ap (λ title. codes "![" ++ spelled_inlines false false i.content ++ spelled_target i.dest title) c.as_str-in-Image-2.ensures
    ∙ sym (ap (λ i. (spelled i).spelling c.args.first c.args.last) i.is ∙ its-spelling (inline_fold.image spelling.inline_step i.dest i.title i.content) c.args.first c.args.last) in
    then-ok c.spell_link-in-Image.result (subst (Lays start end) shape) c.spell_link-in-Image.ensures

pub spell_inlines-loop-at-init : goal.spell_inlines-loop-at-init
spell_inlines-loop-at-init t c = ([], lays-nothing c.args.source.now, refl)

pub spell_inlines-loop-at-preserved : goal.spell_inlines-loop-at-preserved
spell_inlines-loop-at-preserved t c =
    let inv = c.loop-at.invariant in
    let last = c.args.last in
    let next = c.index-inlines-at.result in
    let rest = drop (c.loop-at.at + 1) c.args.inlines.now in
    let own = (spelled next).spelling c.loop-at.first c.is_line_end.result in
    let step = drop_more c.args.inlines.now c.loop-at.at next c.loop-at-test.true ∙ ap (λ i. i ∷ rest) (sym c.index-inlines-at.is) in
    let end = c.is_line_end.ensures ∙ ap (λ t. is_line_end last (map spelled t)) (take_rest c.args.inlines.now (c.loop-at.at + 1)) in (
      inv.0 ++ own,
      lays-then c.args.source.now c.loop-at.source c.spell_inline.new.source inv.0 own inv.1 c.in_ok-spell_inline.ensures,
      inv.2 ∙ ap (λ t. inv.0 ++ spelled_inlines c.loop-at.first last t) step
          ∙ ap (λ end. inv.0 ++ ((spelled next).spelling c.loop-at.first end ++ spelled_inlines (spelled next).begins_line last rest)) (sym end)
          ∙ ap (λ begins. inv.0 ++ (own ++ spelled_inlines begins last rest)) (sym c.begins_line-first.ensures)
          ∙ sym (append_assoc inv.0 own (spelled_inlines c.begins_line-first.result last rest)),
    )

pub spell_inlines-returns : goal.spell_inlines-returns
spell_inlines-returns t c =
    let inv = c.loop-at.invariant in
    let nothing = ap (λ t. inv.0 ++ spelled_inlines c.loop-at.first c.args.last t) (drop_all c.loop-at.at c.args.inlines.now c.loop-at-test.false) ∙ append-nil inv.0 in
    subst (Lays c.args.source.now c.loop-at.source) (sym (inv.2 ∙ nothing)) inv.1
