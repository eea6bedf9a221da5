use Rattle.std.proofs.Common.{◌≡◌, ◌∙◌, ap₂, codes, refl, rules}
use Rattle.std.proofs.lemmas.Result.{IfOk-weaker}
use Rattle.clap.specs.Words.{App, app_of, with_rule}
use Rattle.cm_command.specs.CommandLine.{flag_rule}
use Rattle.cm_command.proofs.command_line.with_flags.Goals as goal

pub returns-clause-app : goal.returns-clause-app
returns-clause-app c =
    let older_app : App = with_rule (app_of c.args.command) (flag_rule (codes "older")) in
    let strike_app : App = with_rule older_app (flag_rule (codes "strike")) in
    let html_app : App = with_rule strike_app (flag_rule (codes "no-html")) in
    let with_older : app_of c.in_ok-arg.field-0 ≡ older_app = c.in_ok-arg.ensures.shape c.flag_arg.ensures.local ∙ ap₂ with_rule refl c.flag_arg.ensures.rule in
    let with_strike : app_of c.in_ok-arg-2.field-0 ≡ strike_app = c.in_ok-arg-2.ensures.shape c.flag_arg-2.ensures.local ∙ ap₂ with_rule with_older c.flag_arg-2.ensures.rule in
    let with_html : app_of c.in_ok-arg-3.field-0 ≡ html_app = c.in_ok-arg-3.ensures.shape c.flag_arg-3.ensures.local ∙ ap₂ with_rule with_strike c.flag_arg-3.ensures.rule in
    let with_links : app_of c.in_ok-arg-4.field-0 ≡ with_rule html_app (flag_rule (codes "web-links")) =
    c.in_ok-arg-4.ensures.shape c.flag_arg-4.ensures.local ∙ ap₂ with_rule with_html c.flag_arg-4.ensures.rule in
    IfOk-weaker c.arg-5.result _ _ (λ made adds. adds.shape c.flag_arg-5.ensures.local ∙ ap₂ with_rule with_links c.flag_arg-5.ensures.rule) c.arg-5.ensures

pub returns-clause-local : goal.returns-clause-local
returns-clause-local c no_globals =
    IfOk-weaker c.arg-5.result _ _ (λ made adds. search (rules, no_globals, adds.globals, c.in_ok-arg.ensures.globals, c.in_ok-arg-2.ensures.globals, c.in_ok-arg-3.ensures.globals, c.in_ok-arg-4.ensures.globals)) c.arg-5.ensures
