use Rattle.std.proofs.Common.{◌≡◌, ◌∙◌, ap, ap₂, rules}
use Rattle.std.proofs.lemmas.Result.{IfOk-weaker}
use Rattle.clap.specs.Words.{App, app_of, new_app, with_rule}
use Rattle.cm_command.specs.CommandLine.{Blocks, Bytes, Inlines, file_rule, limit_rule, with_flags}
use Rattle.cm_command.proofs.command_line.job_command.Goals as goal

pub returns-clause-app : goal.returns-clause-app
returns-clause-app c =
    let about_is : app_of c.about.result ≡ new_app c.args.name.now = search rules in
    let file_app : App = with_rule (new_app c.args.name.now) file_rule in
    let bytes_app : App = with_rule file_app (limit_rule Bytes) in
    let blocks_app : App = with_rule bytes_app (limit_rule Blocks) in
    let with_file : app_of c.in_ok-arg.field-0 ≡ file_app = c.in_ok-arg.ensures.shape c.file_arg.ensures.local ∙ ap₂ with_rule about_is c.file_arg.ensures.rule in
    let with_bytes : app_of c.in_ok-arg-2.field-0 ≡ bytes_app = c.in_ok-arg-2.ensures.shape c.limit_arg.ensures.local ∙ ap₂ with_rule with_file c.limit_arg.ensures.rule in
    let with_blocks : app_of c.in_ok-arg-3.field-0 ≡ blocks_app = c.in_ok-arg-3.ensures.shape c.limit_arg-2.ensures.local ∙ ap₂ with_rule with_bytes c.limit_arg-2.ensures.rule in
    let with_inlines : app_of c.in_ok-command.command ≡ with_rule blocks_app (limit_rule Inlines) =
    c.in_ok-command.ensures.shape c.limit_arg-3.ensures.local ∙ ap₂ with_rule with_blocks c.limit_arg-3.ensures.rule in
    IfOk-weaker c.with_flags.result _ _ (λ made is. is ∙ ap with_flags with_inlines) c.with_flags.ensures.app

pub returns-clause-local : goal.returns-clause-local
returns-clause-local c =
    c.with_flags.ensures.local (search (rules, c.in_ok-arg.ensures.globals, c.in_ok-arg-2.ensures.globals, c.in_ok-arg-3.ensures.globals, c.in_ok-command.ensures.globals))
