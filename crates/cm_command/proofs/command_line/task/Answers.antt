use Rattle.std.proofs.Common.{◌≡◌, ◌∙◌, [], ap, sym, subst, Option, IsSomeAnd, inl, inr, map, string_bytes}
use Rattle.clap.specs.Words.{App, fault_of, is_simple, is_simple_and_free, subcommand_of, kind_of, IsAmong}
use Rattle.cm_command.specs.CommandLine.{found_for, stops_of, Found, IsTaskOf}
use Rattle.cm_command.specs.steps.Arguments.{IsJob}
use Rattle.cm_command.proofs.lemmas.CommandLineLemmas.{cmk_is_simple, cmk_reads_simply, is_mistake, no_kinds, only_memory}
use Rattle.cm_command.proofs.lemmas.AskedLemmas.{asked_right, asked_task, asked_wrong}
use Rattle.cm_command.proofs.lemmas.WalkedLemmas.{is_job}
use Rattle.cm_command.proofs.command_line.task.Goals as goal

pub task_of-requires : goal.task_of-requires
task_of-requires c =
    let is_cmk = c.in_ok-command.ensures in
    let words = map string_bytes c.args.words.now in
    let right = subst (λ (a : App). fault_of a words ≡ []) is_cmk (c.in-Ok.ensures.kinds (ap is_simple_and_free is_cmk ∙ cmk_is_simple)) in
    let found = (c.in-Ok.ensures.matches (ap is_simple is_cmk ∙ cmk_reads_simply)).1 ∙ ap (λ (a : App). subcommand_of a words) is_cmk in
    subst (λ (f : Option Found). IsSomeAnd f IsJob) (sym found) (is_job words right)

pub returns-in_ok-task_of-in-Ok-clause-right : goal.returns-in_ok-task_of-in-Ok-clause-right
returns-in_ok-task_of-in-Ok-clause-right c =
    let is_cmk = c.in_ok-command.ensures in
    subst (λ (a : App). fault_of a (map string_bytes c.args.words.now) ≡ []) is_cmk
    (c.in-Ok.ensures.kinds (ap is_simple_and_free is_cmk ∙ cmk_is_simple))

pub returns-in-Err-clause-stops : goal.returns-in-Err-clause-stops
returns-in-Err-clause-stops c =
    let is_cmk = c.in_ok-command.ensures in
    elim (c.in-Err.ensures.kinds (ap is_simple_and_free is_cmk ∙ cmk_is_simple)) [
      | inl refused ↦ inl (c.stop_of.ensures.memory refused)
      | inr among ↦ inr (kind_of c.in-Err.error, subst (λ (a : App). IsAmong (kind_of c.in-Err.error) (fault_of a (map string_bytes c.args.words.now))) is_cmk among, c.stop_of.ensures.kind)
    ]

pub returns-in_ok-task_of-in-Ok-clause-asked : goal.returns-in_ok-task_of-in-Ok-clause-asked
returns-in_ok-task_of-in-Ok-clause-asked c name job choices file text meant words_are once number plain =
    let is_cmk = c.in_ok-command.ensures in
    let found = (c.in-Ok.ensures.matches (ap is_simple is_cmk ∙ cmk_reads_simply)).1 ∙ ap (λ (a : App). subcommand_of a (map string_bytes c.args.words.now)) is_cmk ∙ ap found_for words_are in
    asked_task name job choices file c.in_ok-task_of-in-Ok.field-0 text meant once number plain
    (subst (λ (f : Option Found). IsTaskOf f c.in_ok-task_of-in-Ok.field-0) found c.in_ok-task_of-in-Ok.ensures)

pub returns-in_ok-task_of-in-Ok-clause-out_of_range : goal.returns-in_ok-task_of-in-Ok-clause-out_of_range
returns-in_ok-task_of-in-Ok-clause-out_of_range c name job choices file text meant words_are once out numbers plain =
    let is_cmk = c.in_ok-command.ensures in
    let right = subst (λ (a : App). fault_of a (map string_bytes c.args.words.now) ≡ []) is_cmk (c.in-Ok.ensures.kinds (ap is_simple_and_free is_cmk ∙ cmk_is_simple)) in
    no_kinds _ _ (sym (ap stops_of words_are ∙ asked_wrong name job choices file text meant once out numbers plain) ∙ right)

pub returns-in-Err-clause-asked : goal.returns-in-Err-clause-asked
returns-in-Err-clause-asked c name job choices file text meant words_are once number plain =
    let is_cmk = c.in_ok-command.ensures in
    only_memory (kind_of c.in-Err.error) _ c.stop_of.result (c.in-Err.ensures.kinds (ap is_simple_and_free is_cmk ∙ cmk_is_simple))
    c.stop_of.ensures.memory
    (ap (λ (a : App). fault_of a (map string_bytes c.args.words.now)) is_cmk ∙ ap stops_of words_are ∙ asked_right name job choices file text meant once number plain)

pub returns-in-Err-clause-out_of_range : goal.returns-in-Err-clause-out_of_range
returns-in-Err-clause-out_of_range c name job choices file text meant words_are once out numbers plain =
    let is_cmk = c.in_ok-command.ensures in
    is_mistake (kind_of c.in-Err.error) _ c.stop_of.result (c.in-Err.ensures.kinds (ap is_simple_and_free is_cmk ∙ cmk_is_simple))
    c.stop_of.ensures.memory c.stop_of.ensures.kind
    (ap (λ (a : App). fault_of a (map string_bytes c.args.words.now)) is_cmk ∙ ap stops_of words_are ∙ asked_wrong name job choices file text meant once out numbers plain)

pub returns-in_ok-task_of-in-Ok-clause-found : goal.returns-in_ok-task_of-in-Ok-clause-found
returns-in_ok-task_of-in-Ok-clause-found c =
    let is_cmk = c.in_ok-command.ensures in
    let found = (c.in-Ok.ensures.matches (ap is_simple is_cmk ∙ cmk_reads_simply)).1 ∙ ap (λ (a : App). subcommand_of a (map string_bytes c.args.words.now)) is_cmk in
    subst (λ (f : Option Found). IsTaskOf f c.in_ok-task_of-in-Ok.field-0) found c.in_ok-task_of-in-Ok.ensures
