use Rattle.cm_inline.proofs.lemmas.Words.{◌-◌, ◌++◌, sym, ap, subst, ◌∙◌}
use Rattle.cm_inline.specs.steps.Entries.{last_entry, before_last, leaving}
use Rattle.cm_inline.specs.steps.Runs.{Listing}
use Rattle.cm_inline.specs.steps.pairing.States.{run_at}
use Rattle.cm_inline.specs.steps.Slots.{IsAt, removed}
use Rattle.cm_inline.proofs.lemmas.SlotLemmas.{second-at, second-gone, second-left, left-read}
use Rattle.cm_inline.proofs.pairing.make_pair.Goals as goal
use Rattle.cm_inline.proofs.pairing.make_pair.Goals.{then-left-eq0, else-left-eq0}

pub remove-requires : goal.remove-requires
remove-requires c =
    let opener = c.args.opener in
    subst (IsAt _) (sym c.leave.ensures.entries) (second-at opener.number opener.run (run_at c.leave.new.self.runs opener.number) c.args.list.now.entries c.requires.opener c.requires.falling)

pub returns-clause-entries : goal.returns-clause-entries
returns-clause-entries c =
    let opener = c.args.opener in
    let es = c.args.list.now.entries in
    let n = opener.number in
    let left = opener.run.run.left - c.used-count.result in
    let used_is = ap (λ k. last_entry es ++ leaving (opener.run.run.left - k) (before_last es)) c.used-count.ensures.used in
    let q = run_at c.leave.new.self.runs n in
    elim c.if-left-eq0.branch [
      | then-left-eq0 w ↦ ap (λ (l : Listing). l.entries) w.list-is ∙ w.remove.ensures.entries ∙ ap (removed n) c.leave.ensures.entries
          ∙ second-gone n left opener.run q es c.requires.opener c.requires.falling w.if-left-eq0.true ∙ used_is
      | else-left-eq0 w ↦ ap (λ (l : Listing). l.entries) w.list-is ∙ c.leave.ensures.entries
          ∙ second-left n left opener.run q es c.requires.opener c.requires.falling w.if-left-eq0.false (left-read n left c.in_ok-opened.opened opener.run c.args.list.now.runs c.leave.new.self.runs c.requires.there c.requires.read c.leave.ensures.runs) ∙ used_is
    ]
