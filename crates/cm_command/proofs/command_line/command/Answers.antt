use Rattle.std.proofs.Common.{◌≡◌, ◌∙◌, ap, ap₂, codes, rules}
use Rattle.std.proofs.lemmas.Result.{IfOk-weaker}
use Rattle.clap.specs.Words.{App, app_of, with_subcommand}
use Rattle.cm_command.specs.CommandLine.{cmk_top, job_app, tree_app}
use Rattle.cm_command.proofs.command_line.command.Goals as goal

pub returns : goal.returns
returns c =
    let top_is : app_of c.subcommand_required.result ≡ cmk_top = search rules in
    let with_render : app_of c.in_ok-subcommand.field-0 ≡ with_subcommand cmk_top (job_app (codes "render")).top =
    c.in_ok-subcommand.ensures.shape c.in_ok-job_command.ensures.local
    ∙ ap₂ with_subcommand top_is (ap (λ (a : App). a.top) c.in_ok-job_command.ensures.app) in
    let with_tree : app_of c.in_ok-subcommand-2.field-0 ≡ with_subcommand (with_subcommand cmk_top (job_app (codes "render")).top) tree_app.top =
    c.in_ok-subcommand-2.ensures.shape c.in_ok-tree_command.ensures.local
    ∙ ap₂ with_subcommand with_render (ap (λ (a : App). a.top) c.in_ok-tree_command.ensures.app) in
    let with_rewrite : app_of c.in_ok-subcommand-3.field-0 ≡ with_subcommand (with_subcommand (with_subcommand cmk_top (job_app (codes "render")).top) tree_app.top) (job_app (codes "rewrite")).top =
    c.in_ok-subcommand-3.ensures.shape c.in_ok-job_command-2.ensures.local
    ∙ ap₂ with_subcommand with_tree (ap (λ (a : App). a.top) c.in_ok-job_command-2.ensures.app) in
    IfOk-weaker c.subcommand-4.result _ _ (λ made adds. adds.shape c.in_ok-examples_command.ensures.local
    ∙ ap₂ with_subcommand with_rewrite (ap (λ (a : App). a.top) c.in_ok-examples_command.ensures.app)) c.subcommand-4.ensures
