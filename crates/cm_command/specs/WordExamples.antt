-- Worked examples: what the words of `cmk examples`, of `cmk tree --json`, and those for the version ask for, as clap reads them.
use Rattle.std.specs.Prelude.{◌≡◌, ◌^◌, false, true, List, [], ◌∷◌, Some, None, codes}
use Rattle.clap.specs.Words.{Text}
use Rattle.clap.specs.declared.error.kind.ErrorKind.TheVariants.{ArgumentConflict, DisplayVersion, MissingRequiredArgument, TooManyValues, UnknownArgument}
use Rattle.cm_text.specs.Rules.{older_rules, profile}
use Rattle.cm_command.specs.declared.job.Job.TheVariants.{Examples, Tree, TreeJson}
use Rattle.cm_command.specs.CommandLine.{file_in, found_for, job_in, limits_in, stops_of}

-- the words of the program's name, the subcommand and these
abbrev pub examples_with : List Text → List Text
examples_with words = codes "cmk" ∷ codes "examples" ∷ words

abbrev pub tree_with : List Text → List Text
tree_with words = codes "cmk" ∷ codes "tree" ∷ words

pub record WordExamples : Type 0 where
  pub job : job_in (found_for (examples_with (codes "f" ∷ []))) ≡ Some Examples
  pub file : file_in (found_for (examples_with (codes "f" ∷ codes "--older" ∷ []))) ≡ Some (codes "f")
  pub standard_input : file_in (found_for (examples_with (codes "-" ∷ []))) ≡ None
  pub file_called_hyphen : file_in (found_for (examples_with (codes "./-" ∷ []))) ≡ Some (codes "./-")
  pub limits : limits_in (found_for (examples_with (codes "f" ∷ []))) ≡ Some (record { bytes = 2 ^ 28; blocks = 100; inlines = 100; rules = profile })
  pub older : limits_in (found_for (examples_with (codes "--older" ∷ codes "f" ∷ []))) ≡ Some (record { bytes = 2 ^ 28; blocks = 100; inlines = 100; rules = older_rules })
  pub strike : limits_in (found_for (examples_with (codes "f" ∷ codes "--strike" ∷ [])))
      ≡ Some (record { bytes = 2 ^ 28; blocks = 100; inlines = 100; rules = record profile { strike = true } })
  pub no_html : limits_in (found_for (examples_with (codes "--no-html" ∷ codes "f" ∷ [])))
      ≡ Some (record { bytes = 2 ^ 28; blocks = 100; inlines = 100; rules = record profile { raw_html = false } })
  pub web_links : limits_in (found_for (examples_with (codes "f" ∷ codes "--web-links" ∷ [])))
      ≡ Some (record { bytes = 2 ^ 28; blocks = 100; inlines = 100; rules = record profile { any_address = false } })
  pub safe : limits_in (found_for (examples_with (codes "f" ∷ codes "--safe" ∷ [])))
      ≡ Some (record { bytes = 2 ^ 28; blocks = 100; inlines = 100; rules = record profile { raw_html = false; any_address = false } })
  pub both : limits_in (found_for (examples_with (codes "--web-links" ∷ codes "f" ∷ codes "--no-html" ∷ [])))
      ≡ Some (record { bytes = 2 ^ 28; blocks = 100; inlines = 100; rules = record profile { raw_html = false; any_address = false } })
  pub right : stops_of (examples_with (codes "f" ∷ codes "--older" ∷ codes "--strike" ∷ [])) ≡ []
  pub no_file : stops_of (examples_with (codes "--older" ∷ [])) ≡ MissingRequiredArgument ∷ []
  pub version : stops_of (codes "cmk" ∷ codes "--version" ∷ []) ≡ DisplayVersion ∷ []
  pub version_letter : stops_of (codes "cmk" ∷ codes "-V" ∷ []) ≡ DisplayVersion ∷ []
  pub no_version_of_a_job : stops_of (codes "cmk" ∷ codes "render" ∷ codes "--version" ∷ []) ≡ UnknownArgument ∷ []
  pub listing : job_in (found_for (tree_with (codes "f" ∷ []))) ≡ Some Tree
  pub json : job_in (found_for (tree_with (codes "--json" ∷ []))) ≡ Some TreeJson
  pub json_after_a_file : job_in (found_for (tree_with (codes "f" ∷ codes "--json" ∷ []))) ≡ Some TreeJson
  pub json_file : file_in (found_for (tree_with (codes "--json" ∷ codes "f" ∷ []))) ≡ Some (codes "f")
  pub json_limits : limits_in (found_for (tree_with (codes "--json" ∷ codes "--blocks" ∷ codes "3" ∷ codes "--strike" ∷ [])))
      ≡ Some (record { bytes = 2 ^ 28; blocks = 3; inlines = 100; rules = record profile { strike = true } })
  pub file_called_json : job_in (found_for (tree_with (codes "--" ∷ codes "--json" ∷ []))) ≡ Some Tree
  pub json_twice : stops_of (tree_with (codes "--json" ∷ codes "--json" ∷ [])) ≡ ArgumentConflict ∷ []
  pub json_with_a_value : stops_of (tree_with (codes "--json=1" ∷ [])) ≡ TooManyValues ∷ []
  pub no_json_of_render : stops_of (codes "cmk" ∷ codes "render" ∷ codes "--json" ∷ []) ≡ UnknownArgument ∷ []
  pub no_json_of_rewrite : stops_of (codes "cmk" ∷ codes "rewrite" ∷ codes "--json" ∷ []) ≡ UnknownArgument ∷ []
  pub no_json_of_examples : stops_of (examples_with (codes "f" ∷ codes "--json" ∷ [])) ≡ UnknownArgument ∷ []
  pub no_blocks : stops_of (examples_with (codes "f" ∷ codes "--blocks" ∷ codes "3" ∷ [])) ≡ UnknownArgument ∷ []
