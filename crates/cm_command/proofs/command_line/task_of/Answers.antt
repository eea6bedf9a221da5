use Rattle.std.proofs.Common.{◌≡◌, ◌∙◌, ap, sym, subst, Option, Some}
use Rattle.std.specs.Prelude.{option_map}
use Rattle.clap.specs.Words.{found_of, rows_of}
use Rattle.cm_command.specs.CommandLine.{in_form, is_set, job_of, json_name, Found, IsTaskOf}
use Rattle.cm_command.specs.declared.job.Job.{Job}
use Rattle.cm_command.specs.declared.job.Task.{Task}
use Rattle.cm_command.proofs.lemmas.CommandLineLemmas.{found_is, job_options, limits_of_job}
use Rattle.cm_command.proofs.command_line.task_of.Goals as goal

pub in_form-requires : goal.in_form-requires
in_form-requires c =
    let rows_are = rw c.unwrap.ensures at c.subcommand.ensures.rows in
    let name_is = rw c.unwrap.ensures at c.subcommand.ensures.name in
    let rows = rows_of (found_of c.unwrap.result.1.now) in
    job_options c.args.matches.now c.unwrap.result.0.now rows c.unwrap-job.result (found_is c.args.matches.now c.unwrap.result.0.now rows rows_are name_is) c.requires
    (sym c.job_of.ensures ∙ c.unwrap-job.ensures)

pub limits_for_job-requires : goal.limits_for_job-requires
limits_for_job-requires c =
    let rows_are = rw c.unwrap.ensures at c.subcommand.ensures.rows in
    let name_is = rw c.unwrap.ensures at c.subcommand.ensures.name in
    let rows = rows_of (found_of c.unwrap.result.1.now) in
    job_options c.args.matches.now c.unwrap.result.0.now rows c.unwrap-job.result (found_is c.args.matches.now c.unwrap.result.0.now rows rows_are name_is) c.requires
    (sym c.job_of.ensures ∙ c.unwrap-job.ensures)

pub returns : goal.returns
returns c =
    let rows_are = rw c.unwrap.ensures at c.subcommand.ensures.rows in
    let name_is = rw c.unwrap.ensures at c.subcommand.ensures.name in
    let rows = rows_of (found_of c.unwrap.result.1.now) in
    let found = found_is c.args.matches.now c.unwrap.result.0.now rows rows_are name_is in
    let named : job_of c.unwrap.result.0.now ≡ Some c.unwrap-job.result = sym c.job_of.ensures ∙ c.unwrap-job.ensures in
    let task : Task = record { job = c.in_form.result; file = c.in_ok-file_of.field-0; limits = c.limits_for_job.result } in
    subst (λ (f : Option Found). IsTaskOf f task) (sym found)
    (record {
      job = ap (option_map (λ (job : Job). in_form job (is_set json_name rows))) named ∙ ap Some (sym c.in_form.ensures);
      file = sym c.in_ok-file_of.ensures;
      limits = limits_of_job (job_of c.unwrap.result.0.now) c.unwrap-job.result rows named ∙ c.limits_for_job.ensures;
    })
