use Rattle.std.proofs.Common.{refl}
use Rattle.clap.proofs.OnLiterals.{clap_on_literals}
use Rattle.cm_command.proofs.laws.worked_examples.Goals as goal

pub returns : goal.returns
unfolding clap_on_literals
returns c = record {
  job = refl;
  file = refl;
  standard_input = refl;
  file_called_hyphen = refl;
  limits = refl;
  older = refl;
  strike = refl;
  no_html = refl;
  web_links = refl;
  safe = refl;
  both = refl;
  right = refl;
  no_file = refl;
  version = refl;
  version_letter = refl;
  no_version_of_a_job = refl;
  listing = refl;
  json = refl;
  json_after_a_file = refl;
  json_file = refl;
  json_limits = refl;
  file_called_json = refl;
  json_twice = refl;
  json_with_a_value = refl;
  no_json_of_render = refl;
  no_json_of_rewrite = refl;
  no_json_of_examples = refl;
  no_blocks = refl;
}
