use Rattle.cm_inline.proofs.lemmas.Words.{◌∷◌, ◌∙◌, refl, sym, subst, ap, arith}
use Rattle.cm_inline.proofs.lemmas.FormStarts.{starts-instruction, needed-alone, needed-mark, needed-other, map-starts}
use Rattle.cm_inline.proofs.missing_ends.form_of.Goals as goal

pub returns-in_err-c-clause-none : goal.returns-in_err-c-clause-none
returns-in_err-c-clause-none g c = λ _. needed-alone c.args.rules.older c.args.text.now c.in_err-c.ensures.read

pub returns-in-63-clause-start : goal.returns-in-63-clause-start
returns-in-63-clause-start g c = starts-instruction c.args.rules.older c.args.text.now c.in_ok-c.inside (c.in_ok-c.ensures.read ∙ ap (λ m. m ∷ c.in_ok-c.inside) c.in-63.is)

pub returns-in-33-clause-start : goal.returns-in-33-clause-start
returns-in-33-clause-start g c =
    map-starts c.args.rules.older c.is_older.result c.args.text.now c.in_ok-c.inside c.form_after_mark.result c.is_older.ensures (c.in_ok-c.ensures.read ∙ ap (λ m. m ∷ c.in_ok-c.inside) c.in-33.is) c.form_after_mark.ensures.start

pub returns-in-33-clause-none : goal.returns-in-33-clause-none
returns-in-33-clause-none g c = λ none.
    needed-mark c.args.rules.older c.is_older.result c.args.text.now c.in_ok-c.inside c.is_older.ensures (c.in_ok-c.ensures.read ∙ ap (λ m. m ∷ c.in_ok-c.inside) c.in-33.is) (c.form_after_mark.ensures.none none)

pub returns-in_default-clause-none : goal.returns-in_default-clause-none
returns-in_default-clause-none g c = λ _. needed-other c.args.rules.older c.args.text.now c.in_ok-c.c c.in_ok-c.inside c.in_ok-c.ensures.read (λ e. absurd (omega (arith, e))) (λ e. absurd (omega (arith, e)))
