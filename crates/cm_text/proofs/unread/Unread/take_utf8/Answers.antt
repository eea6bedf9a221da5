use Rattle.std.proofs.Common.{◌∙◌, sym, ap, subst, is_some}
use Rattle.std.proofs.lemmas.Str.{utf8_valid_len-IsUtf8}
use Rattle.cm_text.specs.Lines.{text_of}
use Rattle.cm_text.specs.Cut.{Cut, cut_of, cut_more, IsFront}
use Rattle.cm_text.specs.Feed.{cut_valid}
use Rattle.cm_text.proofs.lemmas.FeedLemmas.{valid_stays}
use Rattle.cm_text.proofs.lemmas.CutLemmas.{on_err}
use Rattle.cm_text.proofs.lemmas.Utf8Lemmas.{take_valid, sound_whole}
use Rattle.cm_text.proofs.unread.Unread.take_utf8.Goals as goal

pub returns-in_err-take-in-Ok-clause-err : goal.returns-in_err-take-in-Ok-clause-err
returns-in_err-take-in-Ok-clause-err c =
    let P : Cut → Type 0 = λ d. IsFront d.ended (cut_valid (cut_of c.args.self.now) c.args.bytes.now).ended in
    on_err c.from_residual.result (subst P (sym c.in_err-take-in-Ok.ensures.err) (valid_stays (cut_of c.args.self.now) c.args.bytes.now))

pub returns-in_err-take-in-Err-clause-err : goal.returns-in_err-take-in-Err-clause-err
returns-in_err-take-in-Err-clause-err c =
    let P : Cut → Type 0 = λ d. IsFront d.ended (cut_valid (cut_of c.args.self.now) c.args.bytes.now).ended in
    on_err c.from_residual-in_err-take-in-Err.result (subst P (sym c.in_err-take-in-Err.ensures.err) (valid_stays (cut_of c.args.self.now) c.args.bytes.now))

pub returns-in_ok-take-in-Ok-clause-len : goal.returns-in_ok-take-in-Ok-clause-len
returns-in_ok-take-in-Ok-clause-len c = sym (utf8_valid_len-IsUtf8 c.args.bytes.now c.in-Ok.ensures.cases.1)

pub returns-in_ok-take-in-Ok-clause-broken : goal.returns-in_ok-take-in-Ok-clause-broken
returns-in_ok-take-in-Ok-clause-broken c = sym (ap is_some (sound_whole c.args.bytes.now c.in-Ok.ensures.cases.1))

pub returns-in_ok-take-in-Ok-clause-ok : goal.returns-in_ok-take-in-Ok-clause-ok
returns-in_ok-take-in-Ok-clause-ok c =
    let whole = take_valid c.args.bytes.now c.in-Ok.ensures.cases.1 in
    c.in_ok-take-in-Ok.ensures.ok ∙ ap (λ t. cut_more (cut_of c.args.self.now) (text_of t)) (c.in-Ok.ensures.cases.0 ∙ sym whole)
