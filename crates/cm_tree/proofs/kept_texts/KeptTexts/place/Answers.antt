use Rattle.std.proofs.Common.{◌++◌, ap, ◌∙◌, arith}
use Rattle.cm_tree.proofs.lemmas.TargetLemmas.{same-goes-on, goes-on, goes-on-more}
use Rattle.cm_tree.proofs.lemmas.KeptLemmas.{all-beyond, keeps-beyond}
use Rattle.cm_tree.proofs.kept_texts.KeptTexts.place.Goals as goal

pub returns-in_err-push_str-clause-goes_on : goal.returns-in_err-push_str-clause-goes_on
returns-in_err-push_str-clause-goes_on c = same-goes-on _ _ c.in_err-push_str.ensures.bytes

pub returns-in_err-push_str-2-clause-goes_on : goal.returns-in_err-push_str-2-clause-goes_on
returns-in_err-push_str-2-clause-goes_on c = goes-on _ c.args.label.now _ (c.in_err-push_str-2.ensures.bytes ∙ c.in_ok-push_str.ensures.bytes) c.utf8.label

pub returns-in_err-push_str-3-clause-goes_on : goal.returns-in_err-push_str-3-clause-goes_on
returns-in_err-push_str-3-clause-goes_on c =
    goes-on-more _ _ _ (goes-on _ c.args.label.now _ c.in_ok-push_str.ensures.bytes c.utf8.label)
    (goes-on _ c.args.dest.now _ (c.in_err-push_str-3.ensures.bytes ∙ c.in_ok-push_str-2.ensures.bytes) c.utf8.dest)

pub returns-clause-kept : goal.returns-clause-kept
returns-clause-kept c =
    keeps-beyond _ c.args.label.now c.args.dest.now c.args.title.now _
    (c.in_ok-push_str-3.ensures.bytes ∙ ap (λ t. t ++ c.args.title.now) (c.in_ok-push_str-2.ensures.bytes ∙ ap (λ t. t ++ c.args.dest.now) c.in_ok-push_str.ensures.bytes))
    c.utf8.label c.utf8.dest c.utf8.title _ (omega arith)

pub returns-clause-goes_on : goal.returns-clause-goes_on
returns-clause-goes_on c =
    all-beyond _ c.args.label.now c.args.dest.now c.args.title.now _
    (c.in_ok-push_str-3.ensures.bytes ∙ ap (λ t. t ++ c.args.title.now) (c.in_ok-push_str-2.ensures.bytes ∙ ap (λ t. t ++ c.args.dest.now) c.in_ok-push_str.ensures.bytes))
    c.utf8.label c.utf8.dest c.utf8.title
