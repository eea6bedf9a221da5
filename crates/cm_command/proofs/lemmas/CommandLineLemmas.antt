-- How clap reads the command line of cmk.
use Rattle.std.proofs.Common.{◌≡◌, ◌∙◌, ◌≤◌, ◌^◌, ℕ, List, [], ◌∷◌, Some, None, refl, ap, ap₂, sym, subst, inl, inr, bytes_eq, arith, Option, true, false, ◌||◌}
use Rattle.std.specs.Prelude.{◌⊎◌, ⊤, Result, Err, ◌==◌, ◌&&◌, codes, cond, option_and_then, option_map, unwrap_or, Bool, IsSomeAnd}
use Rattle.std.proofs.lemmas.Bool.{eqb-true, le-leb}
use Rattle.std.specs.Str.Parse.{ParsesUnsigned, ExplainsUnsignedError, HasUnsignedDigitsIfOk, digits_value, without_leading_plus}
use Rattle.std.specs.declared.num.ParseIntError.{ParseIntError}
use Rattle.clap.proofs.WalkLemmas.{one_text-rows}
use Rattle.clap.specs.Words.{Text, one_text, is_simple, is_simple_and_free, IsUnsignedIn, ReadsOne, one_of}
use Rattle.clap.proofs.OnLiterals.{clap_on_literals}
use Rattle.clap.specs.declared.builder.value_parser.ValueParser.TheVariants.{Unsigned}
use Rattle.clap.proofs.ValueTestLemmas.{accepts-Accepts}
use Rattle.clap.specs.declared.error.kind.ErrorKind.TheVariants.{ValueValidation}
use Rattle.cm_text.specs.Limits.{limits_for}
use Rattle.cm_text.specs.Rules.{profile}
use Rattle.clap.specs.Lexer.{long_of, long_of_rest, short_of, short_of_rest, strip_byte}
use Rattle.clap.specs.declared.parser.matches.ArgMatches.{ArgMatches}
use Rattle.clap.specs.declared.parser.matches.ArgMatches.TheViews.{out-ArgMatches, out-SubCommand}
use Rattle.clap.specs.Words.{Row, found_of, rows_of, subcommand_name_of, subcommand_rows_of}
use Rattle.std.specs.Box.{box_value}
use Rattle.clap.specs.Words.{Kinds, IsAmong}
use Rattle.clap.specs.declared.error.kind.ErrorKind.{ErrorKind}
use Rattle.clap.specs.declared.error.kind.ErrorKind.TheVariants.{DisplayHelp, DisplayVersion, OutOfMemory}
use Rattle.cm_command.specs.declared.job.Job.{Job}
use Rattle.cm_command.specs.declared.job.Job.TheVariants.{Tree}
use Rattle.cm_command.specs.declared.job.Stop.{Stop}
use Rattle.cm_command.specs.declared.job.Stop.TheVariants.{Help, Wrong, NoMemory}
use Rattle.cm_command.specs.CommandLine.{Found, IsMistake, Limit, StopsBy, as_number, cmk_app, file_named, is_limit, most, is_option, is_set, job_of, json_name, limits_for_job}
use Rattle.cm_command.specs.steps.Arguments.{IsJob, IsRead, OptionsAreRead, fits}
use Rattle.std.proofs.lemmas.Slice.Eq.{bytes_eq-Decides}

pub cmk_is_simple : is_simple_and_free cmk_app ≡ true
unfolding clap_on_literals
cmk_is_simple = refl

pub cmk_reads_simply : is_simple cmk_app ≡ true
unfolding clap_on_literals
cmk_reads_simply = refl

-- what `parse` gives for a text, at `usize`
abbrev pub Gives : Text → Result ℕ ParseIntError → Type 0
Gives t r = ParsesUnsigned 64 10 t r × ExplainsUnsignedError 10 t r × HasUnsignedDigitsIfOk t r

-- a number in its range is read as that number
pub read_in_range : (limit : Limit) (text : Text) (r : Option ℕ) → ReadsOne Gives text r → is_limit limit text ≡ true
    → (n : ℕ) × (r ≡ Some n) × (n ≡ digits_value 10 (without_leading_plus text)) × (1 ≤ n) × (n ≤ most limit)
read_in_range limit text (Some n) read in_range =
    let passed : IsUnsignedIn 1 (most limit) text = accepts-Accepts false (Unsigned 1 (most limit)) text in_range in
    let value = read.0.1 in
    (n, refl, value, rw value passed.2, rw value passed.3)
read_in_range limit text None read in_range =
    let passed : IsUnsignedIn 1 (most limit) text = accepts-Accepts false (Unsigned 1 (most limit)) text in_range in
    absurd (read.1.0 (passed.0, passed.1))

-- what was read is the number as it is written
pub number_read : (limit : Limit) (text : Text) (r : Option ℕ) (n : ℕ) → ReadsOne Gives text r → is_limit limit text ≡ true → r ≡ Some n
    → (as_number text ≡ n) × (1 ≤ n) × (n ≤ most limit)
number_read limit text r n read in_range is =
    let got = read_in_range limit text r read in_range in
    let same : got.0 ≡ n = ap (λ (o : Option ℕ). unwrap_or o 0) (sym got.1 ∙ is) in
    (sym got.2 ∙ same, subst (λ k. 1 ≤ k) same got.3, subst (λ k. k ≤ most limit) same got.4)

-- numbers in their ranges give the limits with them
pub limits_made : (bytes blocks inlines : ℕ) → (1 ≤ bytes) × (bytes ≤ 2 ^ 30) → (1 ≤ blocks) × (blocks ≤ 500) → (1 ≤ inlines) × (inlines ≤ 500)
    → limits_for bytes blocks inlines ≡ Some (record { bytes = bytes; blocks = blocks; inlines = inlines; rules = profile })
limits_made bytes blocks inlines of_bytes of_blocks of_inlines =
    rw (
      le-leb 1 bytes of_bytes.0,
      le-leb bytes (2 ^ 30) of_bytes.1,
      le-leb 1 blocks of_blocks.0,
      le-leb blocks 500 of_blocks.1,
      le-leb 1 inlines of_inlines.0,
      le-leb inlines 500 of_inlines.1,
    ) refl

-- the name of a subcommand is that of what is found
name_found : (matches : ArgMatches) → subcommand_name_of matches ≡ option_map (λ (f : Found). f.0) (subcommand_rows_of matches)
name_found matches = by_cases (λ b. (out-SubCommand (box_value b)).name.now) (λ b. rows_of (found_of (out-SubCommand (box_value b)).matches)) (out-ArgMatches matches).subcommand
  where
    by_cases : {B : Type 0} (name : B → Text) (rows : B → List Row) (o : Option B) → option_map name o ≡ option_map (λ (f : Found). f.0) (option_map (λ b. (name b, rows b)) o)
    by_cases name rows None = refl
    by_cases name rows (Some b) = refl

-- what is found, by its name and its rows
pub found_is : (matches : ArgMatches) (name : Text) (rows : List Row) → Some rows ≡ option_map (λ (f : Found). f.1) (subcommand_rows_of matches)
    → Some name ≡ subcommand_name_of matches → subcommand_rows_of matches ≡ Some (name, rows)
found_is matches name rows rows_are name_is = by_cases (subcommand_rows_of matches) rows_are (name_is ∙ name_found matches)
  where
    pair : Text → List Row → Option Found
    pair n r = Some (n, r)

    by_cases : (found : Option Found) → Some rows ≡ option_map (λ (f : Found). f.1) found → Some name ≡ option_map (λ (f : Found). f.0) found → found ≡ Some (name, rows)
    by_cases None rows_are name_is = cc
    by_cases (Some f) rows_are name_is =
        ap₂ pair (sym (ap (λ (o : Option Text). unwrap_or o name) name_is)) (sym (ap (λ (o : Option (List Row)). unwrap_or o rows) rows_are))

-- ---- flags

-- what `get_flag` gives, by the text that it reads
abbrev pub ReadsFlag : Option Text → Bool → Type 0
ReadsFlag read result = (read ≡ Some (codes "true") → result ≡ true) × (read ≡ Some (codes "false") → result ≡ false)

-- a flag with a value that fits it is read as it is set
pub flag_read : (name : Text) (rows : List Row) (result : Bool) → IsRead name rows → ((value : Text) → fits name value ≡ (bytes_eq value (codes "true") || bytes_eq value (codes "false")))
    → ReadsFlag (one_of name rows) result → result ≡ is_set name rows
flag_read name rows result r is_flag reads =
    either (bytes_eq r.text (codes "true")) (bytes_eq r.text (codes "false")) refl refl (sym (is_flag r.text) ∙ r.is_fit)
  where
    either : (yes_is no_is : Bool) → bytes_eq r.text (codes "true") ≡ yes_is → bytes_eq r.text (codes "false") ≡ no_is → (yes_is || no_is) ≡ true
        → result ≡ is_set name rows
    either true no_is is_true is_false fit =
        let text_is = (bytes_eq-Decides r.text (codes "true")).0 is_true in
        rw (r.is_first, is_true) (reads.0 (r.is_read ∙ ap Some text_is))
    either false true is_true is_false fit =
        let text_is = (bytes_eq-Decides r.text (codes "false")).0 is_false in
        rw (r.is_first, is_true) (reads.1 (r.is_read ∙ ap Some text_is))
    either false false is_true is_false fit = cc

-- `--json` is read as it is set
pub json_read : (matches : ArgMatches) (job : Job) (result : Bool) → job ≡ Tree → OptionsAreRead job (rows_of (found_of matches))
    → ReadsFlag (one_text (found_of matches) json_name) result → result ≡ is_set json_name (rows_of (found_of matches))
json_read matches job result is options reads =
    let rows = rows_of (found_of matches) in
    let text = one_text-rows (found_of matches) json_name in
    flag_read json_name rows result (subst (λ (j : Job). OptionsAreRead j rows) is options).1 (λ value. refl) (λ same. reads.0 (text ∙ same), λ same. reads.1 (text ∙ same))

-- ---- the file

-- a word other than `-` names the file of its name
pub other_file : (word : Text) → (word ≡ codes "-" → ⊥) → file_named word ≡ Some word
other_file word other = either (bytes_eq word (codes "-")) refl
  where
    either : (is : Bool) → bytes_eq word (codes "-") ≡ is → cond is None (Some word) ≡ Some word
    either true same = absurd (other ((bytes_eq-Decides word (codes "-")).0 same))
    either false same = refl

-- ---- the words for a job

-- a word that is no option, as a hyphen alone, is neither `--` nor a flag
pub no_dashes : (word : Text) → is_option word ≡ false → bytes_eq word (45 ∷ 45 ∷ []) ≡ false
no_dashes [] plain = refl
no_dashes (b ∷ []) plain = alone (b == 45)
  where
    alone : (is : Bool) → (is && false) ≡ false
    alone true = refl
    alone false = refl
no_dashes (b ∷ next ∷ bs) plain = rw (plain) refl

pub no_long : (word : Text) → is_option word ≡ false → long_of word ≡ None
no_long [] plain = refl
no_long (b ∷ []) plain = alone (b == 45)
  where
    alone : (is : Bool) → option_and_then long_of_rest (option_and_then (strip_byte 45) (cond is (Some []) None)) ≡ None
    alone true = refl
    alone false = refl
no_long (b ∷ next ∷ bs) plain = rw (plain) refl

pub no_short : (word : Text) → is_option word ≡ false → short_of word ≡ None
no_short [] plain = refl
no_short (b ∷ []) plain = alone (b == 45)
  where
    alone : (is : Bool) → option_and_then short_of_rest (cond is (Some []) None) ≡ None
    alone true = refl
    alone false = refl
no_short (b ∷ next ∷ bs) plain = rw (plain) refl

-- a number is no option
pub plain_limit : (limit : Limit) (word : Text) → is_limit limit word ≡ true → is_option word ≡ false
plain_limit limit [] in_range = refl
plain_limit limit (b ∷ []) in_range = refl
plain_limit limit (b ∷ next ∷ bs) in_range = first (b == 45) refl
  where
    first : (is : Bool) → (b == 45) ≡ is → (b == 45) ≡ false
    first true same =
        let passed : IsUnsignedIn 1 (most limit) (45 ∷ next ∷ bs) = accepts-Accepts false (Unsigned 1 (most limit)) (45 ∷ next ∷ bs) (rw (eqb-true b 45 same) at in_range) in
        let digit = passed.0.1.0 in
        absurd (omega arith)
    first false same = same

-- ---- stops

pub no_kinds : (k : ErrorKind) (ks : Kinds) → k ∷ ks ≡ [] → ⊥
no_kinds k ks same = subst (IsAmong k) same (inl refl)

-- where the words call for no stop, memory ran out
pub only_memory : (kind : ErrorKind) (kinds : Kinds) (stop : Stop) → (kind ≡ OutOfMemory) ⊎ IsAmong kind kinds
    → (kind ≡ OutOfMemory → stop ≡ NoMemory) → kinds ≡ [] → stop ≡ NoMemory
only_memory kind kinds stop (inl refused) memory none = memory refused
only_memory kind kinds stop (inr among) memory none = absurd (subst (λ (ks : Kinds). IsAmong kind ks) none among)

abbrev IsHelp : Stop → Type 0
IsHelp (Help text) = ⊤
IsHelp _ = ⊥

abbrev AsksForHelp : ErrorKind → Type 0
AsksForHelp DisplayHelp = ⊤
AsksForHelp DisplayVersion = ⊤
AsksForHelp _ = ⊥

-- a value that is refused makes a mistake
pub is_mistake : (kind : ErrorKind) (kinds : Kinds) (stop : Stop) → (kind ≡ OutOfMemory) ⊎ IsAmong kind kinds
    → (kind ≡ OutOfMemory → stop ≡ NoMemory) → StopsBy kind stop → kinds ≡ ValueValidation ∷ [] → IsMistake (Err stop)
is_mistake kind kinds NoMemory reasons memory by are = tt
is_mistake kind kinds (Wrong text) reasons memory by are = tt
is_mistake kind kinds (Help text) (inl refused) memory by are = subst IsHelp (memory refused) tt
is_mistake kind kinds (Help text) (inr among) memory by are =
    only (asks by) (subst (λ (ks : Kinds). IsAmong kind ks) are among)
  where
    asks : (kind ≡ DisplayHelp) ⊎ (kind ≡ DisplayVersion) → AsksForHelp kind
    asks (inl is) = subst AsksForHelp (sym is) tt
    asks (inr is) = subst AsksForHelp (sym is) tt

    only : AsksForHelp kind → (kind ≡ ValueValidation) ⊎ ⊥ → ⊥
    only help (inl is) = subst AsksForHelp is help
    only help (inr none) = none

-- one name has one job
pub same_job : (a b : Job) → Some a ≡ Some b → a ≡ b
same_job a b is = ap (λ (o : Option Job). unwrap_or o a) is

-- what is found for the options of the job that is named
pub job_options : (matches : ArgMatches) (name : Text) (rows : List Row) (job : Job) → subcommand_rows_of matches ≡ Some (name, rows)
    → IsSomeAnd (subcommand_rows_of matches) IsJob → job_of name ≡ Some job → OptionsAreRead job rows
job_options matches name rows job found is named =
    let read = subst (λ (f : Option Found). IsSomeAnd f IsJob) found is in
    subst (λ j. OptionsAreRead j rows) (same_job read.job job (sym read.named ∙ named)) read.options

-- the limits are those of the job that is named
pub limits_of_job : (named : Option Job) (job : Job) (rows : List Row) → named ≡ Some job
    → option_and_then (λ j. limits_for_job j rows) named ≡ limits_for_job job rows
limits_of_job named job rows is = ap (λ (o : Option Job). option_and_then (λ j. limits_for_job j rows) o) is
