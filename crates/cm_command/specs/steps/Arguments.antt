-- What is found for the arguments of a subcommand fits them.
use Rattle.std.specs.Prelude.{◌≡◌, Bool, true, ◌||◌, List, Some, if◌then◌else◌, codes}
use Rattle.std.specs.Str.{bytes_eq}
use Rattle.clap.specs.Words.{Row, Text, first_of, one_of}
use Rattle.cm_command.specs.declared.job.Job.{Job}
use Rattle.cm_command.specs.declared.job.Job.TheVariants.{Examples, Tree}
use Rattle.cm_command.specs.CommandLine.{Flag, Found, Limit, Bytes, Blocks, Inlines, flag_name, is_limit, job_of, json_name, limit_name}

-- the value fits the argument of this name: a number in its range, `true` or `false`, or any text
abbrev pub fits : Text → Text → Bool
fits name value =
    if bytes_eq name (codes "bytes") then is_limit Bytes value
    else if bytes_eq name (codes "blocks") then is_limit Blocks value
    else if bytes_eq name (codes "inlines") then is_limit Inlines value
    else if bytes_eq name (codes "file") then true
    else bytes_eq value (codes "true") || bytes_eq value (codes "false")

-- the argument of this name has a value, as it is written, that fits it
pub record IsRead (name : Text) (rows : List Row) : Type 0 where
  pub text : Text
  pub is_first : first_of name rows ≡ Some text
  pub is_read : one_of name rows ≡ Some text
  pub is_fit : fits name text ≡ true

-- the flags of a subcommand have values that fit them
abbrev pub FlagsAreRead : List Row → Type 0
FlagsAreRead rows = (flag : Flag) → IsRead (flag_name flag) rows

-- the options of a subcommand that reads a text have values that fit them
pub record AreRead (rows : List Row) : Type 0 where
  pub limits : (limit : Limit) → IsRead (limit_name limit) rows
  pub flags : FlagsAreRead rows

-- the options of a job's subcommand have values that fit them
abbrev pub OptionsAreRead : Job → List Row → Type 0
OptionsAreRead Examples rows = FlagsAreRead rows
OptionsAreRead Tree rows = AreRead rows × IsRead json_name rows
OptionsAreRead _ rows = AreRead rows

-- a subcommand that is a job, with values of its options
pub record IsJob (found : Found) : Type 0 where
  pub job : Job
  pub named : job_of found.0 ≡ Some job
  pub options : OptionsAreRead job found.1
