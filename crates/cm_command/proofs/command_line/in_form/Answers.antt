use Rattle.std.proofs.Common.{◌∙◌, ap₂, sym}
use Rattle.cm_command.specs.CommandLine.{in_form}
use Rattle.cm_command.proofs.lemmas.CommandLineLemmas.{json_read}
use Rattle.cm_command.proofs.command_line.in_form.Goals as goal

pub returns-then-get_flag : goal.returns-then-get_flag
returns-then-get_flag c =
    let set_is = json_read c.args.found.now c.args.job c.get_flag.result c.in-Tree.is c.requires (c.get_flag.ensures.value, c.get_flag.ensures.other) in
    sym (ap₂ in_form c.in-Tree.is (sym set_is ∙ c.if-get_flag.true))

pub returns-else-get_flag : goal.returns-else-get_flag
returns-else-get_flag c =
    let set_is = json_read c.args.found.now c.args.job c.get_flag.result c.in-Tree.is c.requires (c.get_flag.ensures.value, c.get_flag.ensures.other) in
    sym (ap₂ in_form c.in-Tree.is (sym set_is ∙ c.if-get_flag.false))
