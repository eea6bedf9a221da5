-- What the words of a command line ask for. How `clap` reads the words is said in its own terms, by the command line of `cmk`: a version,
-- and a subcommand for each job.
use Rattle.std.specs.Prelude.{◌≡◌, ◌≢◌, ◌⊎◌, ◌==◌, ◌^◌, ◌&&◌, ◌||◌, ⊤, ℕ, Bool, true, false, not, List, [], ◌∷◌, ◌++◌, if◌then◌else◌, Option, Some, None, Result, Ok, Err, codes, flat_map, fold, string_bytes, find, option_map, option_and_then, unwrap_or}
use Rattle.std.specs.List.{list_all, list_any}
use Rattle.std.specs.Option.{option_map_or}
use Rattle.std.specs.Str.{bytes_eq}
use Rattle.std.specs.Str.Parse.{digits_value, without_leading_plus}
use Rattle.clap.specs.Words.{App, Kinds, Row, Rule, Text, fault_of, first_of, new_app, new_rule, subcommand_of, with_rule, with_subcommand, IsAmong}
use Rattle.clap.specs.ValueTests.{is_unsigned_in}
use Rattle.clap.specs.declared.builder.action.ArgAction.TheVariants.{SetTrue}
use Rattle.clap.specs.declared.builder.value_parser.ValueParser.TheVariants.{Unsigned}
use Rattle.clap.specs.declared.error.kind.ErrorKind.{ErrorKind}
use Rattle.clap.specs.declared.error.kind.ErrorKind.TheVariants.{DisplayHelp, DisplayVersion, OutOfMemory}
use Rattle.cm_text.specs.Limits.{LimitsView, limits_for}
use Rattle.cm_text.specs.Rules.{Rules}
use Rattle.cm_command.specs.declared.job.Job.{Job}
use Rattle.cm_command.specs.declared.job.Job.TheVariants.{Render, Tree, TreeJson, Rewrite, Examples}
use Rattle.cm_command.specs.declared.job.Task.{Task}
use Rattle.cm_command.specs.declared.job.Stop.{Stop}
use Rattle.cm_command.specs.declared.job.Stop.TheVariants.{Help, Wrong, NoMemory}

-- the argument FILE
abbrev pub file_rule : Rule
file_rule = record (new_rule (codes "file")) { value_names = 1 }

-- the same, required
abbrev pub needed_file_rule : Rule
needed_file_rule = record file_rule { required = true }

-- the option `--name N`, a number from 1 on, and what it is by default
abbrev pub number_rule : Text → (most : ℕ) → (standard : Text) → Rule
number_rule name most standard = record (new_rule name) {
  long = Some name;
  value_names = 1;
  parser = Some (Unsigned 1 most);
  defaults = standard ∷ [];
}

-- the limits that have an option
pub data Limit : Type 0 where
  Bytes : Limit
  Blocks : Limit
  Inlines : Limit

abbrev pub limit_name : Limit → Text
limit_name Bytes = codes "bytes"
limit_name Blocks = codes "blocks"
limit_name Inlines = codes "inlines"

-- the greatest number of a limit; the least is 1
abbrev pub most : Limit → ℕ
most Bytes = 2 ^ 30
most Blocks = 500
most Inlines = 500

-- the number that a limit is by default
abbrev pub standard : Limit → Text
standard Bytes = codes "268435456"
standard Blocks = codes "100"
standard Inlines = codes "100"

abbrev pub limit_rule : Limit → Rule
limit_rule limit = number_rule (limit_name limit) (most limit) (standard limit)

-- the flag `--name`, which takes no value
abbrev pub flag_rule : Text → Rule
flag_rule name = record (new_rule name) { long = Some name; action = Some SetTrue }

-- the flags
pub data Flag : Type 0 where
  Older : Flag
  Strike : Flag
  NoHtml : Flag
  WebLinks : Flag
  Safe : Flag

abbrev pub flag_name : Flag → Text
flag_name Older = codes "older"
flag_name Strike = codes "strike"
flag_name NoHtml = codes "no-html"
flag_name WebLinks = codes "web-links"
flag_name Safe = codes "safe"

-- the subcommand with each flag, in the order of their help
abbrev pub with_flags : App → App
with_flags app = fold (λ (a : App) flag. with_rule a (flag_rule (flag_name flag))) app (Older ∷ Strike ∷ NoHtml ∷ WebLinks ∷ Safe ∷ [])

-- A subcommand that reads a text has FILE, the limits and the flags.
abbrev pub job_app : Text → App
job_app name =
    with_flags (with_rule (with_rule (with_rule (with_rule (new_app name) file_rule) (limit_rule Bytes)) (limit_rule Blocks)) (limit_rule Inlines))

-- the name of the flag that writes the tree as JSON
abbrev pub json_name : Text
json_name = codes "json"

-- The subcommand that writes the tree of a text has `--json` too.
abbrev pub tree_app : App
tree_app = with_rule (job_app (codes "tree")) (flag_rule json_name)

-- The subcommand that reads a file of examples, under the standard limits, needs FILE, and has the flags alone.
abbrev pub examples_app : App
examples_app = with_flags (with_rule (new_app (codes "examples")) needed_file_rule)

-- the name of the subcommand for a job
abbrev pub name_of : Job → Text
name_of Render = codes "render"
name_of Tree = codes "tree"
name_of TreeJson = codes "tree"
name_of Rewrite = codes "rewrite"
name_of Examples = codes "examples"

-- the job is done on a text, and not on a file of examples
abbrev pub reads_a_text : Job → Bool
reads_a_text Examples = false
reads_a_text _ = true

-- the command line of `cmk`, which requires a subcommand and has a version
abbrev pub cmk_top : App
cmk_top = let a = new_app (codes "cmk") in record a { top = record a.top { has_version = true; subcommand_required = true } }

-- the same with its subcommands
abbrev pub cmk_app : App
cmk_app = with_subcommand (with_subcommand (with_subcommand (with_subcommand cmk_top (job_app (name_of Render)).top) tree_app.top) (job_app (name_of Rewrite)).top) examples_app.top

-- the name of a subcommand, and what is found for its arguments
abbrev pub Found : Type 0
Found = Text × List Row

-- what the words name: a subcommand, and its arguments
abbrev pub found_for : List Text → Option Found
found_for words = subcommand_of cmk_app words

-- the job of the subcommand of this name, without its options
abbrev pub job_of : Text → Option Job
job_of name = find (λ job. bytes_eq (name_of job) name) (Render ∷ Tree ∷ Rewrite ∷ Examples ∷ [])

-- the file that the word FILE names; `-` is standard input
abbrev pub file_named : Text → Option Text
file_named word = if bytes_eq word (codes "-") then None else Some word

-- the file of a subcommand, or none for standard input
abbrev pub file_at : List Row → Option Text
file_at rows = option_and_then file_named (first_of (codes "file") rows)

abbrev pub file_in : Option Found → Option Text
file_in found = option_and_then (λ f. file_at f.1) found

-- the limits with these numbers and these rules
abbrev pub limits_with : Rules → (bytes blocks inlines : ℕ) → Option LimitsView
limits_with rules bytes blocks inlines = option_map (λ (limits : LimitsView). record limits { rules = rules }) (limits_for bytes blocks inlines)

-- a number, as it is written
abbrev pub as_number : Text → ℕ
as_number number = digits_value 10 (without_leading_plus number)

-- the flag of this name is set
abbrev pub is_set : Text → List Row → Bool
is_set name rows = option_map_or (λ value. bytes_eq value (codes "true")) (first_of name rows) false

-- the job of a subcommand: with `--json` the tree is written as JSON
abbrev pub in_form : Job → (json : Bool) → Job
in_form Tree true = TreeJson
in_form job _ = job

-- the job that is named
abbrev pub job_in : Option Found → Option Job
job_in found = option_and_then (λ f. option_map (λ job. in_form job (is_set json_name f.1)) (job_of f.0)) found

-- The rules of these flags. `--safe` is `--no-html` and `--web-links`.
abbrev pub rules_for : (Flag → Bool) → Rules
rules_for is_on = record {
  older = is_on Older;
  strike = is_on Strike;
  raw_html = not (is_on NoHtml || is_on Safe);
  any_address = not (is_on WebLinks || is_on Safe);
}

-- the rules of the flags that are set
abbrev pub rules_in : List Row → Rules
rules_in rows = rules_for (λ flag. is_set (flag_name flag) rows)

-- the number of a limit
abbrev pub number_at : Limit → List Row → Option ℕ
number_at limit rows = option_map as_number (first_of (limit_name limit) rows)

-- the limits with numbers that may be there
abbrev pub limits_from : Rules → (bytes blocks inlines : Option ℕ) → Option LimitsView
limits_from rules bytes blocks inlines =
    option_and_then (λ most_bytes. option_and_then (λ most_blocks. option_and_then (limits_with rules most_bytes most_blocks) inlines) blocks) bytes

-- the limits of the options of a subcommand
abbrev pub limits_at : List Row → Option LimitsView
limits_at rows = limits_from (rules_in rows) (number_at Bytes rows) (number_at Blocks rows) (number_at Inlines rows)

-- the limits of a job; examples are read under the standard ones
abbrev pub limits_for_job : Job → List Row → Option LimitsView
limits_for_job Examples rows = limits_with (rules_in rows) (2 ^ 28) 100 100
limits_for_job _ rows = limits_at rows

-- the limits of what is named
abbrev pub limits_in : Option Found → Option LimitsView
limits_in found = option_and_then (λ f. option_and_then (λ job. limits_for_job job f.1) (job_of f.0)) found

-- the task has the job, the file and the limits that the words name
pub record IsTaskOf (found : Option Found) (task : Task) : Type 0 where
  pub job : job_in found ≡ Some task.job
  pub file : file_in found ≡ option_map string_bytes task.file
  pub limits : limits_in found ≡ Some task.limits

-- an option as it is given: a limit and its number, as it is written, a flag, or `--json`
pub data Choice : Type 0 where
  Number : Limit → Text → Choice
  Set : Flag → Choice
  Json : Choice

-- the name of the option
abbrev pub option_of : Choice → Text
option_of (Number limit number) = limit_name limit
option_of (Set flag) = flag_name flag
option_of Json = json_name

-- the words that give an option
abbrev pub words_of : Choice → List Text
words_of (Number limit number) = (codes "--" ++ limit_name limit) ∷ number ∷ []
words_of (Set flag) = (codes "--" ++ flag_name flag) ∷ []
words_of Json = codes "--json" ∷ []

-- The words after the program's name that ask for a job on a text with these options, in their order, and with this file or none.
abbrev pub words_for : Job → List Choice → Option Text → List Text
words_for job choices file = name_of job ∷ flat_map words_of choices ++ option_map_or (λ f. f ∷ []) file []

-- the option of this name is given
abbrev pub is_given : Text → List Choice → Bool
is_given name choices = list_any (λ choice. bytes_eq name (option_of choice)) choices

-- `--json` is given for the tree as JSON, and for no other job
abbrev pub are_for : Job → List Choice → Bool
are_for TreeJson choices = is_given json_name choices
are_for _ choices = not (is_given json_name choices)

-- no option is given twice
abbrev pub each_once : List Choice → Bool
each_once [] = true
each_once (choice ∷ choices) = not (is_given (option_of choice) choices) && each_once choices

-- the numbers that are given
abbrev pub numbers_in : List Choice → List Text
numbers_in [] = []
numbers_in (Number limit number ∷ choices) = number ∷ numbers_in choices
numbers_in (Set flag ∷ choices) = numbers_in choices
numbers_in (Json ∷ choices) = numbers_in choices

-- the value of an option; that of a flag is `true`
abbrev pub value_of : Choice → Text
value_of (Number limit number) = number
value_of (Set flag) = codes "true"
value_of Json = codes "true"

-- the value of the option of this name, if it is given
abbrev pub given_for : Text → List Choice → Option Text
given_for name choices = option_map value_of (find (λ choice. bytes_eq (option_of choice) name) choices)

-- the number of a limit: the one that is given, or the standard one
abbrev pub number_for : Limit → List Choice → ℕ
number_for limit choices = as_number (unwrap_or (given_for (limit_name limit) choices) (standard limit))

-- the rules of these options
abbrev pub rules_by : List Choice → Rules
rules_by choices = rules_for (λ flag. is_given (flag_name flag) choices)

-- the limits of these options, with the rules of the flags
abbrev pub limits_by : List Choice → Option LimitsView
limits_by choices = limits_with (rules_by choices) (number_for Bytes choices) (number_for Blocks choices) (number_for Inlines choices)

-- the word is a hyphen followed by more
abbrev pub is_option : Text → Bool
is_option [] = false
is_option (byte ∷ []) = false
is_option (byte ∷ next ∷ bytes) = byte == 45

-- the word is a number in the range of a limit
abbrev pub is_limit : Limit → Text → Bool
is_limit limit = is_unsigned_in 1 (most limit)

abbrev pub is_in_range : Choice → Bool
is_in_range (Number limit number) = is_limit limit number
is_in_range _ = true

-- the numbers that are given are in their ranges
abbrev pub are_limits : List Choice → Bool
are_limits choices = list_all is_in_range choices

-- a number that is given is a hyphen followed by more
abbrev pub hold_an_option : List Choice → Bool
hold_an_option choices = list_any is_option (numbers_in choices)

-- the kinds of stop that the words ask for: none, a mistake, or a request for help or the version
abbrev pub stops_of : List Text → Kinds
stops_of words = fault_of cmk_app words

-- help is for a request for help or the version, and a wrong command line has a mistake
abbrev pub StopsBy : ErrorKind → Stop → Type 0
StopsBy kind (Help text) = (kind ≡ DisplayHelp) ⊎ (kind ≡ DisplayVersion)
StopsBy kind (Wrong text) = (kind ≢ OutOfMemory) × (kind ≢ DisplayHelp) × (kind ≢ DisplayVersion)
StopsBy kind NoMemory = ⊤

-- memory ran out, or the words ask for this stop
abbrev pub StopsFor : Kinds → Stop → Type 0
StopsFor kinds stop = (stop ≡ NoMemory) ⊎ ((kind : ErrorKind) × IsAmong kind kinds × StopsBy kind stop)

-- this job on this file under these limits, unless memory ran out
abbrev pub IsTaskFor : Job → Option Text → Option LimitsView → Result Task Stop → Type 0
IsTaskFor job file limits (Ok task) =
    (task.job ≡ job) × (option_map string_bytes task.file ≡ file) × (Some task.limits ≡ limits)
IsTaskFor job file limits (Err stop) = stop ≡ NoMemory

-- a wrong command line, unless memory ran out
abbrev pub IsMistake : Result Task Stop → Type 0
IsMistake (Err (Wrong text)) = ⊤
IsMistake (Err NoMemory) = ⊤
IsMistake _ = ⊥
