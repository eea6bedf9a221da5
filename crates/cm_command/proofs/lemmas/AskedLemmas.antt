-- How clap reads the words that ask for a job: its name, options in any order, and a file or none.
use Rattle.std.proofs.Common.{◌≡◌, ◌∙◌, ◌&&◌, ◌||◌, List, [], ◌∷◌, ◌++◌, map, Option, Some, None, Bool, true, false, not, refl, sym, subst, ap, ap₂, append-nil, append_assoc, arith}
use Rattle.std.specs.Prelude.{codes, cond, find, flat_map, fold, is_some, option_and_then, option_map, slice_get, slice_index_or, string_bytes, unwrap_or, IfSome, ⊤}
use Rattle.std.specs.List.{AllByRecursion}
use Rattle.std.specs.Option.{option_map_or, option_or}
use Rattle.std.specs.Str.{bytes_eq}
use Rattle.std.proofs.lemmas.List.Folds.{find-append, list_any-append}
use Rattle.clap.specs.Kinds.{Kinds, or_else}
use Rattle.clap.specs.Walk.{Held, Names, Row, Rule, Text, Walk, finished, first_of, has_row, idle, is_empty, is_pending, nothing_held, pushed, reacted, rows_after, settled, walk_from, walked, with_default}
use Rattle.clap.specs.Simple.{Shape, entered, filled, names_of, with_index}
use Rattle.clap.specs.Faults.{check_fault, defaults_fault, entered_fault, given_default_fault, level_fault, settle_fault, walk_fault}
use Rattle.clap.specs.declared.error.kind.ErrorKind.TheVariants.{ArgumentConflict, ValueValidation}
use Rattle.clap.specs.declared.parser.matches.ValueSource.TheVariants.{CommandLine}
use Rattle.clap.specs.declared.builder.value_parser.Reading.TheVariants.{AsWritten}
use Rattle.clap.proofs.OnLiterals.{clap_on_literals}
use Rattle.cm_command.specs.declared.job.Job.{Job}
use Rattle.cm_command.specs.declared.job.Job.TheVariants.{Render, Tree, TreeJson, Rewrite, Examples}
use Rattle.cm_command.specs.declared.job.Task.{Task}
use Rattle.cm_command.specs.CommandLine.{are_for, are_limits, each_once, file_in, file_named, file_rule, found_for, given_for, hold_an_option, in_form, is_given, is_limit, is_option, is_set, job_in, json_name, limit_name, limits_at, limits_by, limits_from, limits_in, name_of, number_at, number_for, option_of, reads_a_text, rules_in, standard, stops_of, value_of, words_for, words_of, as_number, Bytes, Blocks, Choice, Inlines, IsTaskOf, Json, Limit, Number, Set, Flag, Older, Strike, NoHtml, WebLinks, Safe, flag_name, flag_rule, rules_for}
use Rattle.cm_command.proofs.lemmas.CommandLineLemmas.{no_dashes, no_long, no_short, plain_limit}
use Rattle.cm_command.proofs.lemmas.RowLemmas.{first_default, or_assoc, row_by, used_new, with_defaults}
use Rattle.cm_command.proofs.lemmas.WalkedLemmas.{cmk_built, job_rules, last_rules, takes_json}

-- ---- the name of a job enters its subcommand

-- a walk that has met the subcommand of this name, with the words after it
abbrev at_subcommand : Text → List Text → Walk
at_subcommand name after = record { held = nothing_held; waiting = idle; position = 1; is_trailing = false; stopped = Some (name, after) }

stays : (c : List Rule) (names : Names) (name : Text) (after words : List Text)
    → fold (walked c names) (at_subcommand name after) words ≡ at_subcommand name (after ++ words)
unfolding walked
stays c names name after [] = ap (at_subcommand name) (sym (append-nil after))
stays c names name after (word ∷ words) =
    stays c names name (after ++ word ∷ []) words ∙ ap (at_subcommand name) (append_assoc after (word ∷ []) words)

stays_right : (s : Shape) (names : Names) (name : Text) (after words : List Text) → walk_fault s names (at_subcommand name after) words ≡ []
unfolding walked walk_fault
stays_right s names name after [] = refl
stays_right s names name after (word ∷ words) = stays_right s names name (after ++ word ∷ []) words

-- the subcommand of this name, once it is built
abbrev job_shape : (json : Bool) → Text → Shape
job_shape json name = record (slice_index_or cmk_built.subs 0 cmk_built.top) { name = name; rules = job_rules json }

abbrev top_names : Names
top_names = names_of cmk_built

enters_tree : (name : Text) (words : List Text) → found_for (name ∷ codes "tree" ∷ words) ≡ Some (codes "tree", rows_after (job_rules true) [] words)
unfolding clap_on_literals
enters_tree name words = ap (λ (w : Walk). entered cmk_built w.stopped) (stays cmk_built.top.rules top_names (codes "tree") [] words)

pub enters : (name : Text) (job : Job) (words : List Text) → reads_a_text job ≡ true → found_for (name ∷ name_of job ∷ words) ≡ Some (name_of job, rows_after (job_rules (takes_json job)) [] words)
unfolding clap_on_literals
enters name Render words text = ap (λ (w : Walk). entered cmk_built w.stopped) (stays cmk_built.top.rules top_names (codes "render") [] words)
enters name Tree words text = enters_tree name words
enters name TreeJson words text = enters_tree name words
enters name Rewrite words text = ap (λ (w : Walk). entered cmk_built w.stopped) (stays cmk_built.top.rules top_names (codes "rewrite") [] words)
enters name Examples words text = cc

-- what is left to go wrong, once the walk has ended
abbrev after_walk : Walk → Kinds → Kinds
after_walk end first =
    or_else first (or_else (entered_fault cmk_built end.stopped) (or_else (settle_fault cmk_built.top.rules false end.held)
    (or_else (defaults_fault (settled cmk_built.top.rules end.held).rows cmk_built.top.rules)
    (check_fault cmk_built.top (fold with_default (settled cmk_built.top.rules end.held).rows cmk_built.top.rules) (is_some (entered cmk_built end.stopped))))))

or_none : (ks : Kinds) → or_else ks [] ≡ ks
or_none [] = refl
or_none (k ∷ ks) = refl

enters_tree_right : (name : Text) (words : List Text)
    → stops_of (name ∷ codes "tree" ∷ words) ≡ level_fault (job_shape true (codes "tree")) [] nothing_held words false []
unfolding clap_on_literals
enters_tree_right name words =
    ap₂ after_walk (stays cmk_built.top.rules top_names (codes "tree") [] words) (stays_right cmk_built.top top_names (codes "tree") [] words)
    ∙ or_none (level_fault (job_shape true (codes "tree")) [] nothing_held words false [])

pub enters_right : (name : Text) (job : Job) (words : List Text) → reads_a_text job ≡ true
    → stops_of (name ∷ name_of job ∷ words) ≡ level_fault (job_shape (takes_json job) (name_of job)) [] nothing_held words false []
unfolding clap_on_literals
enters_right name Render words text =
    ap₂ after_walk (stays cmk_built.top.rules top_names (codes "render") [] words) (stays_right cmk_built.top top_names (codes "render") [] words)
    ∙ or_none (level_fault (job_shape false (codes "render")) [] nothing_held words false [])
enters_right name Tree words text = enters_tree_right name words
enters_right name TreeJson words text = enters_tree_right name words
enters_right name Rewrite words text =
    ap₂ after_walk (stays cmk_built.top.rules top_names (codes "rewrite") [] words) (stays_right cmk_built.top top_names (codes "rewrite") [] words)
    ∙ or_none (level_fault (job_shape false (codes "rewrite")) [] nothing_held words false [])
enters_right name Examples words text = cc

or_else_assoc : (a b c : Kinds) → or_else (or_else a b) c ≡ or_else a (or_else b c)
or_else_assoc [] b c = refl
or_else_assoc (k ∷ ks) b c = refl

-- ---- rows, kinds and truths

-- a flag that has no row makes no fault of its own
flag_turn : (first rest : Kinds) (has : Bool) → has ≡ false
    → or_else (or_else (or_else first (or_else (cond (has && true) (ArgumentConflict ∷ []) []) [])) []) rest ≡ or_else first rest
flag_turn [] rest false new = refl
flag_turn (k ∷ ks) rest false new = refl
flag_turn first rest true new = cc

-- the row that an option makes
abbrev row_for : Choice → Row
row_for choice = record { id = option_of choice; values = value_of choice ∷ []; count = None; source = Some CommandLine; reading = AsWritten }

-- what an option alone does wrong
abbrev own_fault : Choice → Kinds
own_fault (Number limit number) = cond (is_limit limit number) [] (ValueValidation ∷ [])
own_fault (Set flag) = []
own_fault Json = []

-- a number that has no row makes no fault but its own
number_turn : (has fit : Bool) → has ≡ false
    → or_else (cond (has && true) (ArgumentConflict ∷ []) []) (or_else (cond fit [] (ValueValidation ∷ [])) []) ≡ cond fit [] (ValueValidation ∷ [])
number_turn false true new = refl
number_turn false false new = refl
number_turn true fit new = cc

abbrev file_words : Option Text → List Text
file_words file = option_map_or (λ f. f ∷ []) file []

abbrev file_rows : Option Text → List Row
file_rows None = []
file_rows (Some f) = record { id = codes "file"; values = f ∷ []; count = None; source = Some CommandLine; reading = AsWritten } ∷ []

and_false : (b : Bool) → (b && false) ≡ false
and_false true = refl
and_false false = refl

abbrev file_arg : Rule
file_arg = with_index 1 (filled file_rule)

file_turn : (first : Kinds) (is_there has : Bool) → has ≡ false
    → or_else (or_else (cond (is_there && false) [] first) []) (or_else (cond (has && true) (ArgumentConflict ∷ []) []) []) ≡ first
file_turn [] true false new = refl
file_turn [] false false new = refl
file_turn (k ∷ ks) true false new = refl
file_turn (k ∷ ks) false false new = refl
file_turn first is_there true new = cc

abbrev all_fault : List Choice → Kinds
all_fault [] = []
all_fault (choice ∷ choices) = or_else (own_fault choice) (all_fault choices)

-- neither an option nor the file has a row among these
abbrev AreNew : List Choice → List Row → Type 0
AreNew choices rows = (has_row (codes "file") rows ≡ false) × AllByRecursion (λ choice. has_row (option_of choice) rows ≡ false) choices

both_false : (a b : Bool) → a ≡ false → b ≡ false → (a || b) ≡ false
both_false false false e f = refl
both_false false true e f = f
both_false true b e f = cc

no_such : (b c : Bool) → (not b && c) ≡ true → (b ≡ false) × (c ≡ true)
no_such false true once = (refl, refl)
no_such false false once = cc
no_such true c once = cc

either_false : (a b : Bool) → (a || b) ≡ false → (a ≡ false) × (b ≡ false)
either_false false false e = (refl, refl)
either_false false true e = cc
either_false true b e = cc

both_true : (a b : Bool) → (a && b) ≡ true → (a ≡ true) × (b ≡ true)
both_true true b e = (refl, e)
both_true false b e = cc

-- what a number does wrong goes before what follows does
number_fault : (fit rest : Bool) {later : Kinds} → later ≡ cond rest [] (ValueValidation ∷ [])
    → or_else (cond fit [] (ValueValidation ∷ [])) later ≡ cond (fit && rest) [] (ValueValidation ∷ [])
number_fault true rest is = is
number_fault false rest is = refl

-- a row that joins has another name
still_no : (id : Text) (rows : List Row) (r : Row) → has_row id rows ≡ false → bytes_eq r.id id ≡ false → has_row id (rows ++ r ∷ []) ≡ false
still_no id rows r new other = list_any-append (λ (x : Row). bytes_eq x.id id) rows (r ∷ []) ∙ both_false _ _ new (both_false _ _ other refl)

no_file : (choice : Choice) → bytes_eq (option_of choice) (codes "file") ≡ false
no_file (Number Bytes number) = refl
no_file (Number Blocks number) = refl
no_file (Number Inlines number) = refl
no_file (Set Older) = refl
no_file (Set Strike) = refl
no_file (Set NoHtml) = refl
no_file (Set WebLinks) = refl
no_file (Set Safe) = refl
no_file Json = refl

still_new : (choice : Choice) (choices : List Choice) (rows : List Row) → is_given (option_of choice) choices ≡ false
    → AllByRecursion (λ c. has_row (option_of c) rows ≡ false) choices
    → AllByRecursion (λ c. has_row (option_of c) (rows ++ row_for choice ∷ []) ≡ false) choices
still_new choice [] rows other new = tt
still_new choice (c ∷ choices) rows other new =
    let apart = either_false _ _ other in
    (still_no (option_of c) rows (row_for choice) new.0 apart.0, still_new choice choices rows apart.1 new.1)

all_new : (choices : List Choice) → AreNew choices []
all_new choices = (refl, each choices)
  where
    each : (cs : List Choice) → AllByRecursion (λ choice. has_row (option_of choice) [] ≡ false) cs
    each [] = tt
    each (c ∷ cs) = (refl, each cs)

abbrev HasRightDefault : Rule → Type 0
HasRightDefault a = cond (is_empty a.defaults) [] (given_default_fault a a.defaults) ≡ []

defaults_right : (rows : List Row) (c : List Rule) → AllByRecursion HasRightDefault c → defaults_fault rows c ≡ []
unfolding defaults_fault
defaults_right rows [] right = refl
defaults_right rows (a ∷ c) right =
    ap₂ or_else (either (has_row a.id rows) (is_empty a.defaults) right.0) (defaults_right (with_default rows a) c right.1)
  where
    either : (has none : Bool) → cond none [] (given_default_fault a a.defaults) ≡ [] → cond (has || none) [] (given_default_fault a a.defaults) ≡ []
    either true none right = refl
    either false none right = right

-- numbers in their range don't
limits_plain : (choices : List Choice) → are_limits choices ≡ true → hold_an_option choices ≡ false
limits_plain [] all = refl
limits_plain (Number limit number ∷ choices) all =
    let apart = both_true _ _ all in both_false _ _ (plain_limit limit number apart.0) (limits_plain choices apart.1)
limits_plain (Set flag ∷ choices) all = limits_plain choices all
limits_plain (Json ∷ choices) all = limits_plain choices all

-- the first number out of its range is what goes wrong
numbers_fault : (choices : List Choice) → all_fault choices ≡ cond (are_limits choices) [] (ValueValidation ∷ [])
numbers_fault [] = refl
numbers_fault (Number limit number ∷ choices) = number_fault (is_limit limit number) (are_limits choices) (numbers_fault choices)
numbers_fault (Set flag ∷ choices) = numbers_fault choices
numbers_fault (Json ∷ choices) = numbers_fault choices

no_file_row : (choices : List Choice) → row_by (codes "file") (map row_for choices) ≡ None
no_file_row [] = refl
no_file_row (choice ∷ choices) = ap (λ b. cond b (Some (row_for choice)) (row_by (codes "file") (map row_for choices))) (no_file choice) ∙ no_file_row choices

text_of : Option Row → Option Text
text_of row = option_and_then (λ (r : Row). slice_get r.values 0) row

-- the value of an option that is given, or else this row's
value_row : (name default : Text) (row : Option Row) → text_of row ≡ Some default → (choices : List Choice)
    → text_of (option_or (row_by name (map row_for choices)) row) ≡ Some (unwrap_or (given_for name choices) default)
unfolding text_of
value_row name default row is [] = is
value_row name default row is (choice ∷ choices) = go (bytes_eq (option_of choice) name) (value_row name default row is choices)
  where
    go : (b : Bool) → text_of (option_or (row_by name (map row_for choices)) row) ≡ Some (unwrap_or (given_for name choices) default)
        → text_of (option_or (cond b (Some (row_for choice)) (row_by name (map row_for choices))) row)
        ≡ Some (unwrap_or (option_map value_of (cond b (Some choice) (find (λ c. bytes_eq (option_of c) name) choices))) default)
    go true rest = refl
    go false rest = rest

is_true : Option Row → Bool
is_true row = option_map_or (λ value. bytes_eq value (codes "true")) (text_of row) false

-- no option that takes a number has this name
abbrev IsNoNumber : Text → Type 0
IsNoNumber name = (limit : Limit) → bytes_eq (limit_name limit) name ≡ false

apart_from : (name : Text) → bytes_eq (limit_name Bytes) name ≡ false → bytes_eq (limit_name Blocks) name ≡ false → bytes_eq (limit_name Inlines) name ≡ false
    → IsNoNumber name
apart_from name bytes blocks inlines Bytes = bytes
apart_from name bytes blocks inlines Blocks = blocks
apart_from name bytes blocks inlines Inlines = inlines

-- no flag has the name of an option that takes a number
no_number : (flag : Flag) → IsNoNumber (flag_name flag)
no_number Older = apart_from (flag_name Older) refl refl refl
no_number Strike = apart_from (flag_name Strike) refl refl refl
no_number NoHtml = apart_from (flag_name NoHtml) refl refl refl
no_number WebLinks = apart_from (flag_name WebLinks) refl refl refl
no_number Safe = apart_from (flag_name Safe) refl refl refl

swapped : (a b : Text) → bytes_eq a b ≡ bytes_eq b a
swapped [] [] = refl
swapped [] (y ∷ ys) = refl
swapped (x ∷ xs) [] = refl
swapped (x ∷ xs) (y ∷ ys) = ap₂ (λ s t. s && t) (grind arith) (swapped xs ys)

-- the value of a flag is `true` where it is given
value_given : (name : Text) → IsNoNumber name → (choices : List Choice)
    → bytes_eq (unwrap_or (given_for name choices) (codes "false")) (codes "true") ≡ is_given name choices
value_given name other [] = refl
value_given name other (choice ∷ choices) = at choice (value_given name other choices)
  where
    Given : List Choice → Type 0
    Given cs = bytes_eq (unwrap_or (given_for name cs) (codes "false")) (codes "true") ≡ is_given name cs

    past : (c : Choice) → bytes_eq (option_of c) name ≡ false → Given choices → Given (c ∷ choices)
    past c apart rest = rw (swapped name (option_of c), apart) rest

    at_flag : (c : Choice) (same : Bool) → value_of c ≡ codes "true" → bytes_eq (option_of c) name ≡ same → Given choices → Given (c ∷ choices)
    at_flag c true is same rest = rw (swapped name (option_of c), same, is) refl
    at_flag c false is apart rest = past c apart rest

    at : (c : Choice) → Given choices → Given (c ∷ choices)
    at (Number limit number) rest = past (Number limit number) (other limit) rest
    at (Set g) rest = at_flag (Set g) (bytes_eq (flag_name g) name) refl refl rest
    at Json rest = at_flag Json (bytes_eq json_name name) refl refl rest

apart : (given : Bool) → not given ≡ true → given ≡ true → false ≡ true
apart true meant given = meant
apart false meant given = given

-- ---- `--json`

-- what is held after it
abbrev json_held : (json : Bool) → Held → Held
json_held json h = reacted (job_rules json) (filled (flag_rule json_name)) [] h

json_walked : (h : Held) (words : List Text)
    → fold (walked (job_rules true) []) (walk_from h) (words_of Json ++ words) ≡ fold (walked (job_rules true) []) (walk_from (json_held true h)) words
unfolding clap_on_literals
json_walked h words = refl

json_right : (json : Bool) → json ≡ true → (name : Text) (h : Held) (words : List Text) → has_row json_name (settled (job_rules json) h).rows ≡ false
    → walk_fault (job_shape json name) [] (walk_from h) (words_of Json ++ words)
    ≡ or_else (settle_fault (job_rules json) false h) (walk_fault (job_shape json name) [] (walk_from (json_held json h)) words)
unfolding clap_on_literals
json_right true taken name h words new =
    flag_turn (settle_fault (job_rules true) false h) (walk_fault (job_shape true name) [] (walk_from (json_held true h)) words)
    (has_row json_name (settled (job_rules true) h).rows) new
json_right false taken name h words new = cc

last_defaults_right : (json : Bool) → AllByRecursion HasRightDefault (last_rules json)
last_defaults_right true = (refl, (refl, tt))
last_defaults_right false = (refl, tt)

-- nothing is required of the words
check_right : (json : Bool) (name : Text) (rows : List Row) → check_fault (job_shape json name) rows false ≡ []
check_right true name rows = refl
check_right false name rows = refl

no_file_default : (json : Bool) → first_default (codes "file") (job_rules json) ≡ None
no_file_default true = refl
no_file_default false = refl

json_default : (file : Option Text) → text_of (option_or (row_by json_name (file_rows file)) (first_default json_name (job_rules true))) ≡ Some (codes "false")
unfolding text_of
json_default None = refl
json_default (Some f) = refl

-- ---- the options of a job, whose subcommand has `--json` or not

module _ (json : Bool) where
  abbrev rules : List Rule
  rules = job_rules json

  abbrev shape : Text → Shape
  shape = job_shape json

  -- the subcommand takes the option, and its number is no option
  abbrev pub IsPlainChoice : Choice → Type 0
  IsPlainChoice (Number limit number) = is_option number ≡ false
  IsPlainChoice (Set flag) = ⊤
  IsPlainChoice Json = json ≡ true

  -- what is held after an option
  abbrev after : Choice → Held → Held
  after (Number limit number) h = record { rows = (settled rules h).rows; pending = Some (limit_name limit, number ∷ []); skip = h.skip }
  after (Set flag) h = reacted rules (filled (flag_rule (flag_name flag))) [] h
  after Json h = reacted rules (filled (flag_rule json_name)) [] h

  -- the option has no row among what is held
  abbrev IsNew : Held → Choice → Type 0
  IsNew h choice = has_row (option_of choice) (settled rules h).rows ≡ false

  choice_walked : (choice : Choice) (h : Held) (words : List Text) → IsPlainChoice choice
      → fold (walked rules []) (walk_from h) (words_of choice ++ words) ≡ fold (walked rules []) (walk_from (after choice h)) words
  unfolding clap_on_literals
  choice_walked (Number Bytes number) h words plain = rw (no_dashes number plain, no_long number plain, no_short number plain) refl
  choice_walked (Number Blocks number) h words plain = rw (no_dashes number plain, no_long number plain, no_short number plain) refl
  choice_walked (Number Inlines number) h words plain = rw (no_dashes number plain, no_long number plain, no_short number plain) refl
  choice_walked (Set Older) h words plain = refl
  choice_walked (Set Strike) h words plain = refl
  choice_walked (Set NoHtml) h words plain = refl
  choice_walked (Set WebLinks) h words plain = refl
  choice_walked (Set Safe) h words plain = refl
  choice_walked Json h words taken =
      subst (λ b. fold (walked (job_rules b) []) (walk_from h) (words_of Json ++ words) ≡ fold (walked (job_rules b) []) (walk_from (json_held b h)) words) (sym taken) (json_walked h words)

  choice_settled : (choice : Choice) (h : Held) → IsNew h choice → (settled rules (after choice h)).rows ≡ (settled rules h).rows ++ row_for choice ∷ []
  choice_settled (Number Bytes number) h new = used_new (limit_name Bytes) (number ∷ []) (settled rules h).rows new
  choice_settled (Number Blocks number) h new = used_new (limit_name Blocks) (number ∷ []) (settled rules h).rows new
  choice_settled (Number Inlines number) h new = used_new (limit_name Inlines) (number ∷ []) (settled rules h).rows new
  choice_settled (Set flag) h new = used_new (flag_name flag) (codes "true" ∷ []) (settled rules h).rows new
  choice_settled Json h new = used_new json_name (codes "true" ∷ []) (settled rules h).rows new

  choice_right : (name : Text) (choice : Choice) (h : Held) (words : List Text) → IsPlainChoice choice → IsNew h choice
      → walk_fault (shape name) [] (walk_from h) (words_of choice ++ words)
      ≡ or_else (settle_fault rules false h) (walk_fault (shape name) [] (walk_from (after choice h)) words)
  unfolding clap_on_literals
  choice_right name (Number Bytes number) h words plain new =
      rw (no_dashes number plain, no_long number plain, no_short number plain)
      (ap (λ first. or_else first (walk_fault (shape name) [] (walk_from (after (Number Bytes number) h)) words)) (or_none (settle_fault rules false h)))
  choice_right name (Number Blocks number) h words plain new =
      rw (no_dashes number plain, no_long number plain, no_short number plain)
      (ap (λ first. or_else first (walk_fault (shape name) [] (walk_from (after (Number Blocks number) h)) words)) (or_none (settle_fault rules false h)))
  choice_right name (Number Inlines number) h words plain new =
      rw (no_dashes number plain, no_long number plain, no_short number plain)
      (ap (λ first. or_else first (walk_fault (shape name) [] (walk_from (after (Number Inlines number) h)) words)) (or_none (settle_fault rules false h)))
  choice_right name Json h words taken new = json_right json taken name h words new
  choice_right name (Set flag) h words plain new = by_flag flag (flag_turn (settle_fault rules false h)
      (walk_fault (shape name) [] (walk_from (after (Set flag) h)) words) (has_row (flag_name flag) (settled rules h).rows) new)
    where
      Turn : Flag → Type 0
      Turn f = or_else (or_else (or_else (settle_fault rules false h) (or_else (cond (has_row (flag_name f) (settled rules h).rows && true) (ArgumentConflict ∷ []) []) [])) [])
          (walk_fault (shape name) [] (walk_from (after (Set f) h)) words)
          ≡ or_else (settle_fault rules false h) (walk_fault (shape name) [] (walk_from (after (Set f) h)) words)

      by_flag : (f : Flag) → Turn f → walk_fault (shape name) [] (walk_from h) (words_of (Set f) ++ words)
          ≡ or_else (settle_fault rules false h) (walk_fault (shape name) [] (walk_from (after (Set f) h)) words)
      by_flag Older turn = turn
      by_flag Strike turn = turn
      by_flag NoHtml turn = turn
      by_flag WebLinks turn = turn
      by_flag Safe turn = turn

  choice_pending : (choice : Choice) (h : Held) → IsNew h choice → settle_fault rules false (after choice h) ≡ own_fault choice
  choice_pending (Number Bytes number) h new = number_turn (has_row (limit_name Bytes) (settled rules h).rows) (is_limit Bytes number) new
  choice_pending (Number Blocks number) h new = number_turn (has_row (limit_name Blocks) (settled rules h).rows) (is_limit Blocks number) new
  choice_pending (Number Inlines number) h new = number_turn (has_row (limit_name Inlines) (settled rules h).rows) (is_limit Inlines number) new
  choice_pending (Set flag) h new = refl
  choice_pending Json h new = refl

  -- ---- the file

  abbrev after_file : Option Text → Held → Held
  after_file None h = h
  after_file (Some f) h = record { rows = (settled rules h).rows; pending = Some (codes "file", f ∷ []); skip = h.skip }

  file_walked : (file : Option Text) (h : Held) → IfSome file (λ f. is_option f ≡ false)
      → (fold (walked rules []) (walk_from h) (file_words file)).held ≡ after_file file h
  unfolding clap_on_literals
  file_walked None h plain = refl
  file_walked (Some f) h plain =
      rw (no_dashes f plain, no_long f plain, no_short f plain)
      (ap (λ b. pushed (codes "file") f (cond b h (settled rules h))) (and_false (is_pending file_arg h.pending)))

  file_settled : (file : Option Text) (h : Held) → has_row (codes "file") (settled rules h).rows ≡ false
      → (settled rules (after_file file h)).rows ≡ (settled rules h).rows ++ file_rows file
  file_settled None h new = sym (append-nil _)
  file_settled (Some f) h new = used_new (codes "file") (f ∷ []) (settled rules h).rows new

  file_right : (name : Text) (file : Option Text) (h : Held) → IfSome file (λ f. is_option f ≡ false) → has_row (codes "file") (settled rules h).rows ≡ false
      → or_else (walk_fault (shape name) [] (walk_from h) (file_words file)) (settle_fault rules false (after_file file h)) ≡ settle_fault rules false h
  unfolding clap_on_literals
  file_right name None h plain new = refl
  file_right name (Some f) h plain new =
      rw (no_dashes f plain, no_long f plain, no_short f plain)
      (file_turn (settle_fault rules false h) (is_pending file_arg h.pending) (has_row (codes "file") (settled rules h).rows) new)

  -- ---- all options, and then the file

  abbrev held_after : List Choice → Held → Held
  held_after [] h = h
  held_after (choice ∷ choices) h = held_after choices (after choice h)

  abbrev ArePlain : List Choice → Type 0
  ArePlain = AllByRecursion IsPlainChoice

  -- what is new before an option is new after it
  new_after : (choice : Choice) (choices : List Choice) (h : Held) → each_once (choice ∷ choices) ≡ true → AreNew (choice ∷ choices) (settled rules h).rows
      → AreNew choices (settled rules (after choice h)).rows
  new_after choice choices h once new =
      rw (choice_settled choice h new.1.0) (
        still_no (codes "file") (settled rules h).rows (row_for choice) new.0 (no_file choice),
        still_new choice choices (settled rules h).rows (no_such _ _ once).0 new.1.1,
      )

  options_walked : (choices : List Choice) (h : Held) (words : List Text) → ArePlain choices
      → fold (walked rules []) (walk_from h) (flat_map words_of choices ++ words) ≡ fold (walked rules []) (walk_from (held_after choices h)) words
  options_walked [] h words plain = refl
  options_walked (choice ∷ choices) h words plain =
      ap (fold (walked rules []) (walk_from h)) (append_assoc (words_of choice) (flat_map words_of choices) words)
      ∙ choice_walked choice h (flat_map words_of choices ++ words) plain.0 ∙ options_walked choices (after choice h) words plain.1

  options_settled : (choices : List Choice) (h : Held) → each_once choices ≡ true → AreNew choices (settled rules h).rows
      → ((settled rules (held_after choices h)).rows ≡ (settled rules h).rows ++ map row_for choices)
      × (has_row (codes "file") (settled rules (held_after choices h)).rows ≡ false)
  options_settled [] h once new = (sym (append-nil _), new.0)
  options_settled (choice ∷ choices) h once new =
      let rest = options_settled choices (after choice h) (no_such _ _ once).1 (new_after choice choices h once new) in
      (rest.0 ∙ ap (λ rows. rows ++ map row_for choices) (choice_settled choice h new.1.0) ∙ append_assoc (settled rules h).rows (row_for choice ∷ []) (map row_for choices), rest.1)

  -- what goes wrong in the words, and in what they leave pending
  abbrev whole_fault : Text → Held → List Text → Kinds
  whole_fault name h words =
      or_else (walk_fault (shape name) [] (walk_from h) words) (settle_fault rules false (fold (walked rules []) (walk_from h) words).held)

  choice_whole : (name : Text) (choice : Choice) (h : Held) (words : List Text) → IsPlainChoice choice → IsNew h choice
      → whole_fault name h (words_of choice ++ words) ≡ or_else (settle_fault rules false h) (whole_fault name (after choice h) words)
  choice_whole name choice h words plain new =
      ap₂ (λ ks (w : Walk). or_else ks (settle_fault rules false w.held)) (choice_right name choice h words plain new) (choice_walked choice h words plain)
      ∙ or_else_assoc (settle_fault rules false h) (walk_fault (shape name) [] (walk_from (after choice h)) words) _

  options_right : (name : Text) (choices : List Choice) (file : Option Text) (h : Held) → each_once choices ≡ true → AreNew choices (settled rules h).rows
      → ArePlain choices → IfSome file (λ f. is_option f ≡ false)
      → whole_fault name h (flat_map words_of choices ++ file_words file) ≡ or_else (settle_fault rules false h) (all_fault choices)
  options_right name [] file h once new plain plain_file =
      ap (λ g. or_else (walk_fault (shape name) [] (walk_from h) (file_words file)) (settle_fault rules false g)) (file_walked file h plain_file)
      ∙ file_right name file h plain_file new.0 ∙ sym (or_none (settle_fault rules false h))
  options_right name (choice ∷ choices) file h once new plain plain_file =
      ap (whole_fault name h) (append_assoc (words_of choice) (flat_map words_of choices) (file_words file))
      ∙ choice_whole name choice h (flat_map words_of choices ++ file_words file) plain.0 new.1.0
      ∙ ap (or_else (settle_fault rules false h))
      (options_right name choices file (after choice h) (no_such _ _ once).1 (new_after choice choices h once new) plain.1 plain_file
      ∙ ap (λ ks. or_else ks (all_fault choices)) (choice_pending choice h new.1.0))

  -- ---- defaults at the end

  job_defaults_right : AllByRecursion HasRightDefault rules
  job_defaults_right = (refl, (refl, (refl, (refl, (refl, (refl, (refl, (refl, (refl, last_defaults_right json)))))))))

  level_right : (name : Text) (words : List Text) → level_fault (shape name) [] nothing_held words false [] ≡ whole_fault name nothing_held words
  level_right name words =
      let end = (fold (walked rules []) (walk_from nothing_held) words).held in
      let wrong = walk_fault (shape name) [] (walk_from nothing_held) words in
      ap₂ (λ ks others. or_else wrong (or_else (settle_fault rules false end) (or_else ks others))) (defaults_right (settled rules end).rows rules job_defaults_right)
      (check_right json name (finished rules end))
      ∙ ap (or_else wrong) (or_none (settle_fault rules false end))

  -- where no number is an option, the options are plain
  plain_numbers : (choices : List Choice) → hold_an_option choices ≡ false → (is_given json_name choices ≡ true → json ≡ true) → ArePlain choices
  plain_numbers [] plain taken = tt
  plain_numbers (Number limit number ∷ choices) plain taken =
      let apart = either_false _ _ plain in (apart.0, plain_numbers choices apart.1 (λ given. taken (by_number limit given)))
    where
      by_number : (l : Limit) → is_given json_name choices ≡ true → is_given json_name (Number l number ∷ choices) ≡ true
      by_number Bytes given = given
      by_number Blocks given = given
      by_number Inlines given = given
  plain_numbers (Set flag ∷ choices) plain taken = (tt, plain_numbers choices plain (λ given. taken (by_flag flag given)))
    where
      by_flag : (f : Flag) → is_given json_name choices ≡ true → is_given json_name (Set f ∷ choices) ≡ true
      by_flag Older given = given
      by_flag Strike given = given
      by_flag NoHtml given = given
      by_flag WebLinks given = given
      by_flag Safe given = given
  plain_numbers (Json ∷ choices) plain taken = (taken refl, plain_numbers choices plain (λ given. taken refl))

  -- ---- what is found at the end

  -- the rows at the end
  abbrev end_rows : List Choice → Option Text → List Row
  end_rows choices file = fold with_default (map row_for choices ++ file_rows file) rules

  -- a name has the row of its option or of the file, or its default
  end_row : (id : Text) (choices : List Choice) (file : Option Text) (o : Option Row) → row_by id (map row_for choices) ≡ o
      → row_by id (end_rows choices file) ≡ option_or o (option_or (row_by id (file_rows file)) (first_default id rules))
  end_row id choices file o is =
      with_defaults id (map row_for choices ++ file_rows file) rules
      ∙ ap (λ x. option_or x (first_default id rules))
      (find-append (λ (r : Row). bytes_eq r.id id) (map row_for choices) (file_rows file) ∙ ap (λ x. option_or x (row_by id (file_rows file))) is)
      ∙ or_assoc o (row_by id (file_rows file)) (first_default id rules)

  end_file : (choices : List Choice) (file : Option Text) → first_of (codes "file") (end_rows choices file) ≡ file
  unfolding text_of
  end_file choices file = ap text_of (end_row (codes "file") choices file None (no_file_row choices) ∙ ap (option_or (row_by (codes "file") (file_rows file))) (no_file_default json)) ∙ either file
    where
      either : (f : Option Text) → text_of (option_or (row_by (codes "file") (file_rows f)) None) ≡ f
      either None = refl
      either (Some t) = refl

  limit_default : (limit : Limit) (file : Option Text)
      → text_of (option_or (row_by (limit_name limit) (file_rows file)) (first_default (limit_name limit) rules)) ≡ Some (standard limit)
  unfolding text_of
  limit_default Bytes None = refl
  limit_default Bytes (Some f) = refl
  limit_default Blocks None = refl
  limit_default Blocks (Some f) = refl
  limit_default Inlines None = refl
  limit_default Inlines (Some f) = refl

  -- a limit has the number that is given, or the standard one
  end_number : (limit : Limit) (choices : List Choice) (file : Option Text) → number_at limit (end_rows choices file) ≡ Some (number_for limit choices)
  unfolding text_of
  end_number limit choices file =
      let name = limit_name limit in
      ap (option_map as_number)
      (ap text_of (end_row name choices file (row_by name (map row_for choices)) refl)
      ∙ value_row name (standard limit) (option_or (row_by name (file_rows file)) (first_default name rules)) (limit_default limit file) choices)

  flag_default : (flag : Flag) (file : Option Text)
      → text_of (option_or (row_by (flag_name flag) (file_rows file)) (first_default (flag_name flag) rules)) ≡ Some (codes "false")
  unfolding text_of
  flag_default Older None = refl
  flag_default Older (Some f) = refl
  flag_default Strike None = refl
  flag_default Strike (Some f) = refl
  flag_default NoHtml None = refl
  flag_default NoHtml (Some f) = refl
  flag_default WebLinks None = refl
  flag_default WebLinks (Some f) = refl
  flag_default Safe None = refl
  flag_default Safe (Some f) = refl

  -- a flag is set where it is given
  end_set : (name : Text) → IsNoNumber name → (choices : List Choice) (file : Option Text)
      → text_of (option_or (row_by name (file_rows file)) (first_default name rules)) ≡ Some (codes "false")
      → is_set name (end_rows choices file) ≡ is_given name choices
  unfolding text_of is_true
  end_set name other choices file default =
      ap is_true (end_row name choices file (row_by name (map row_for choices)) refl)
      ∙ ap (λ value. option_map_or (λ v. bytes_eq v (codes "true")) value false)
      (value_row name (codes "false") (option_or (row_by name (file_rows file)) (first_default name rules)) default choices)
      ∙ value_given name other choices

  end_flag : (choices : List Choice) (file : Option Text) (flag : Flag) → is_set (flag_name flag) (end_rows choices file) ≡ is_given (flag_name flag) choices
  end_flag choices file flag = end_set (flag_name flag) (no_number flag) choices file (flag_default flag file)

  end_limits : (choices : List Choice) (file : Option Text) → limits_at (end_rows choices file) ≡ limits_by choices
  end_limits choices file =
      let rows = end_rows choices file in
      ap₂ (λ bytes blocks. limits_from (rules_in rows) bytes blocks (number_at Inlines rows)) (end_number Bytes choices file) (end_number Blocks choices file)
      ∙ (λ i. limits_from (rules_for (λ flag. end_flag choices file flag i)) (Some (number_for Bytes choices)) (Some (number_for Blocks choices)) (end_number Inlines choices file i))

-- ---- the words that ask for a job

-- a job for which `--json` may be given has it in its subcommand
taken : (job : Job) (choices : List Choice) → are_for job choices ≡ true → is_given json_name choices ≡ true → takes_json job ≡ true
taken Render choices meant given = apart (is_given json_name choices) meant given
taken Tree choices meant given = refl
taken TreeJson choices meant given = refl
taken Rewrite choices meant given = apart (is_given json_name choices) meant given
taken Examples choices meant given = apart (is_given json_name choices) meant given

asked_plain : (job : Job) (choices : List Choice) → are_for job choices ≡ true → hold_an_option choices ≡ false → ArePlain (takes_json job) choices
asked_plain job choices meant plain = plain_numbers (takes_json job) choices plain (taken job choices meant)

asked_fault : (name : Text) (job : Job) (choices : List Choice) (file : Option Text) → reads_a_text job ≡ true → each_once choices ≡ true
    → ArePlain (takes_json job) choices → IfSome file (λ f. is_option f ≡ false) → stops_of (name ∷ words_for job choices file) ≡ all_fault choices
asked_fault name job choices file text once plain plain_file =
    let json = takes_json job in
    let words = flat_map words_of choices ++ file_words file in
    enters_right name job words text ∙ level_right json (name_of job) words
    ∙ options_right json (name_of job) choices file nothing_held once (all_new choices) plain plain_file

pub asked_right : (name : Text) (job : Job) (choices : List Choice) (file : Option Text) → reads_a_text job ≡ true → are_for job choices ≡ true
    → each_once choices ≡ true → are_limits choices ≡ true → IfSome file (λ f. is_option f ≡ false)
    → stops_of (name ∷ words_for job choices file) ≡ []
asked_right name job choices file text meant once numbers plain =
    asked_fault name job choices file text once (asked_plain job choices meant (limits_plain choices numbers)) plain
    ∙ numbers_fault choices ∙ ap (λ b. cond b [] (ValueValidation ∷ [])) numbers

pub asked_wrong : (name : Text) (job : Job) (choices : List Choice) (file : Option Text) → reads_a_text job ≡ true → are_for job choices ≡ true
    → each_once choices ≡ true → are_limits choices ≡ false → hold_an_option choices ≡ false → IfSome file (λ f. is_option f ≡ false)
    → stops_of (name ∷ words_for job choices file) ≡ ValueValidation ∷ []
asked_wrong name job choices file text meant once out numbers plain =
    asked_fault name job choices file text once (asked_plain job choices meant numbers) plain
    ∙ numbers_fault choices ∙ ap (λ b. cond b [] (ValueValidation ∷ [])) out

asked_found : (name : Text) (job : Job) (choices : List Choice) (file : Option Text) → reads_a_text job ≡ true → each_once choices ≡ true
    → ArePlain (takes_json job) choices → IfSome file (λ f. is_option f ≡ false)
    → found_for (name ∷ words_for job choices file) ≡ Some (name_of job, end_rows (takes_json job) choices file)
asked_found name job choices file text once plain plain_file =
    let json = takes_json job in
    let end = held_after json choices nothing_held in
    let rows = options_settled json choices nothing_held once (all_new choices) in
    let held = ap (λ (w : Walk). w.held) (options_walked json choices nothing_held (file_words file) plain) ∙ file_walked json file end plain_file in
    enters name job (flat_map words_of choices ++ file_words file) text
    ∙ ap (λ h. Some (name_of job, fold with_default (settled (job_rules json) h).rows (job_rules json))) held
    ∙ ap (λ rs. Some (name_of job, fold with_default rs (job_rules json)))
    (file_settled json file end rows.1 ∙ ap (λ rs. rs ++ file_rows file) rows.0)

-- `--json` is set where it is given
end_json : (choices : List Choice) (file : Option Text) → is_set json_name (end_rows true choices file) ≡ is_given json_name choices
end_json choices file = end_set true json_name (apart_from json_name refl refl refl) choices file (json_default file)

-- the job that is found is the one that is asked for
asked_job : (job : Job) (choices : List Choice) (file : Option Text) → are_for job choices ≡ true
    → job_in (Some (name_of job, end_rows (takes_json job) choices file)) ≡ Some job
asked_job Render choices file meant = refl
asked_job Tree choices file meant =
    ap (λ b. Some (in_form Tree b)) (end_json choices file) ∙ listed (is_given json_name choices) meant
  where
    listed : (given : Bool) → not given ≡ true → Some (in_form Tree given) ≡ Some Tree
    listed true meant = cc
    listed false meant = refl
asked_job TreeJson choices file meant = ap (λ b. Some (in_form Tree b)) (end_json choices file ∙ meant)
asked_job Rewrite choices file meant = refl
asked_job Examples choices file meant = refl

-- so the task is the one that they ask for
pub asked_task : (name : Text) (job : Job) (choices : List Choice) (file : Option Text) (task : Task) → reads_a_text job ≡ true → are_for job choices ≡ true
    → each_once choices ≡ true → are_limits choices ≡ true → IfSome file (λ f. is_option f ≡ false)
    → IsTaskOf (found_for (name ∷ words_for job choices file)) task
    → (task.job ≡ job) × (option_map string_bytes task.file ≡ option_and_then file_named file) × (Some task.limits ≡ limits_by choices)
asked_task name job choices file task text meant once numbers plain is =
    let json = takes_json job in
    let found = asked_found name job choices file text once (asked_plain job choices meant (limits_plain choices numbers)) plain in (
      ap (λ (o : Option Job). unwrap_or o job) (sym is.job ∙ ap job_in found ∙ asked_job job choices file meant),
      sym is.file ∙ ap file_in found ∙ ap (option_and_then file_named) (end_file json choices file),
      sym is.limits ∙ ap limits_in found ∙ of_text job json text ∙ end_limits json choices file,
    )
  where
    of_text : (j : Job) (json : Bool) → reads_a_text j ≡ true → limits_in (Some (name_of j, end_rows json choices file)) ≡ limits_at (end_rows json choices file)
    of_text Render json t = refl
    of_text Tree json t = refl
    of_text TreeJson json t = refl
    of_text Rewrite json t = refl
    of_text Examples json t = cc
