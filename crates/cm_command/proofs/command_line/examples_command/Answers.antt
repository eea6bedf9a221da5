use Rattle.std.proofs.Common.{◌≡◌, ◌∙◌, ap, ap₂, codes, rules}
use Rattle.std.proofs.lemmas.Result.{IfOk-weaker}
use Rattle.clap.specs.Words.{app_of, new_app, rule_of, with_rule}
use Rattle.cm_command.specs.CommandLine.{needed_file_rule, with_flags}
use Rattle.cm_command.proofs.command_line.examples_command.Goals as goal

pub returns-clause-app : goal.returns-clause-app
returns-clause-app c =
    let about_is : app_of c.about.result ≡ new_app (codes "examples") = search rules in
    let file_is : rule_of c.required.result ≡ needed_file_rule = search rules in
    let with_file : app_of c.in_ok-command.command ≡ with_rule (new_app (codes "examples")) needed_file_rule =
    c.in_ok-command.ensures.shape (search rules) ∙ ap₂ with_rule about_is file_is in
    IfOk-weaker c.with_flags.result _ _ (λ made is. is ∙ ap with_flags with_file) c.with_flags.ensures.app

pub returns-clause-local : goal.returns-clause-local
returns-clause-local c = c.with_flags.ensures.local (search (rules, c.in_ok-command.ensures.globals))
