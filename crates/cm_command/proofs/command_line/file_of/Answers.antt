use Rattle.std.proofs.Common.{◌∙◌, ap, codes, Some, sym}
use Rattle.std.specs.Prelude.{option_and_then}
use Rattle.clap.specs.Words.{found_of}
use Rattle.clap.proofs.WalkLemmas.{first_value-rows}
use Rattle.cm_command.specs.CommandLine.{file_named}
use Rattle.cm_command.proofs.lemmas.CommandLineLemmas.{other_file}
use Rattle.cm_command.proofs.command_line.file_of.Goals as goal

pub returns-in_ok-from_str-in-Some : goal.returns-in_ok-from_str-in-Some
returns-in_ok-from_str-in-Some c =
    ap Some c.in_ok-from_str-in-Some.ensures.ok
    ∙ sym (other_file c.in-Some.name.now c.in-Some.not-text)
    ∙ ap (option_and_then file_named) (c.in-Some.ensures ∙ first_value-rows (found_of c.args.found.now) (codes "file"))

pub returns-in-Some-text : goal.returns-in-Some-text
returns-in-Some-text c =
    sym (ap file_named c.in-Some-text.is-text)
    ∙ ap (option_and_then file_named) (c.in-Some-text.ensures ∙ first_value-rows (found_of c.args.found.now) (codes "file"))

pub returns-in-None : goal.returns-in-None
returns-in-None c = ap (option_and_then file_named) (c.in-None.ensures ∙ first_value-rows (found_of c.args.found.now) (codes "file"))
