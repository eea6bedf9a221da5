use Rattle.std.proofs.Common.{subst, inl, inr}
use Rattle.clap.specs.Words.{found_of, rows_of}
use Rattle.cm_command.specs.declared.job.Job.{Job}
use Rattle.cm_command.specs.steps.Arguments.{OptionsAreRead}
use Rattle.cm_command.proofs.command_line.limits_for_job.Goals as goal

pub limits_of-requires : goal.limits_of-requires
limits_of-requires c = elim c.in-Render.is [
  | inl is ↦ subst (λ (job : Job). OptionsAreRead job (rows_of (found_of c.args.found.now))) is c.requires
  | inr (inl is) ↦ (subst (λ (job : Job). OptionsAreRead job (rows_of (found_of c.args.found.now))) is c.requires).0
  | inr (inr (inl is)) ↦ subst (λ (job : Job). OptionsAreRead job (rows_of (found_of c.args.found.now))) is c.requires
  | inr (inr (inr is)) ↦ subst (λ (job : Job). OptionsAreRead job (rows_of (found_of c.args.found.now))) is c.requires
]
