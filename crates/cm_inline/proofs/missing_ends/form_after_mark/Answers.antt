use Rattle.cm_inline.proofs.lemmas.Words.{codes, ◌∷◌, ◌∙◌, sym, ap, arith}
use Rattle.cm_inline.proofs.lemmas.FormStarts.{word-rest, word-none, starts-comment, starts-section, starts-declaration, needed-older, needed-none, needed-no-letter}
use Rattle.cm_inline.proofs.missing_ends.form_after_mark.Goals as goal

pub returns-then-starts_with-clause-start : goal.returns-then-starts_with-clause-start
returns-then-starts_with-clause-start g c =
    starts-comment c.args.older c.args.inside.now c.then_some.result c.then_some.ensures (word-rest (codes "--") c.args.inside.now c.starts_with.result c.starts_with.ensures.starts c.if-starts_with.true)

pub returns-then-starts_with-clause-none : goal.returns-then-starts_with-clause-none
returns-then-starts_with-clause-none g c = λ none.
    needed-older c.args.older c.args.inside.now c.then_some.result c.then_some.ensures none (word-rest (codes "--") c.args.inside.now c.starts_with.result c.starts_with.ensures.starts c.if-starts_with.true)

pub returns-then-starts_with-2-clause-start : goal.returns-then-starts_with-2-clause-start
returns-then-starts_with-2-clause-start g c =
    starts-section c.args.older c.args.inside.now (word-rest (codes "[CDATA[") c.args.inside.now c.starts_with-2.result c.starts_with-2.ensures.starts c.if-starts_with-2.true)

pub returns-in_err-b-clause-none : goal.returns-in_err-b-clause-none
returns-in_err-b-clause-none g c = λ _. needed-none c.args.older c.args.inside.now c.in_err-b.ensures.read

pub returns-clause-start : goal.returns-clause-start
returns-clause-start g c =
    starts-declaration c.args.older c.args.inside.now c.in_ok-b.b c.in_ok-b.field-0-1 c.is_ascii_alphabetic.result c.then_some-2.result c.in_ok-b.ensures.read c.is_ascii_alphabetic.ensures.value c.then_some-2.ensures

pub returns-clause-none : goal.returns-clause-none
returns-clause-none g c = λ none.
    needed-no-letter c.args.older c.args.inside.now c.in_ok-b.b c.in_ok-b.field-0-1 c.is_ascii_alphabetic.result c.then_some-2.result c.in_ok-b.ensures.read c.is_ascii_alphabetic.ensures.value c.then_some-2.ensures none
    (word-none (codes "--") c.args.inside.now c.starts_with.result c.starts_with.ensures.starts c.if-starts_with.false)
    (word-none (codes "[CDATA[") c.args.inside.now c.starts_with-2.result c.starts_with-2.ensures.starts c.if-starts_with-2.false)
