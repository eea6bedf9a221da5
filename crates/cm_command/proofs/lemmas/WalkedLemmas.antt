-- What clap finds in words that call for no stop, at the subcommands of cmk: values of the options that fit them.
use Rattle.std.proofs.Common.{◌≡◌, ◌∙◌, List, [], ◌∷◌, ◌++◌, ◌&&◌, ◌||◌, ℕ, zero, suc, length, drop, Option, Some, None, Bool, true, false, not, refl, sym, subst, bytes_eq, true≢false, ◌==◌, arith, ne_eqb}
use Rattle.std.specs.Prelude.{codes, cond, encode_utf8, fold, find, is_some, option_map, slice_get, slice_index_or, IfSome, IsSomeAnd, ⊤}
use Rattle.std.specs.List.{AllByRecursion}
use Rattle.std.specs.Option.{option_map_or, option_or}
use Rattle.std.specs.Str.{chars}
use Rattle.std.proofs.lemmas.Slice.Eq.{bytes_eq-Decides}
use Rattle.clap.specs.Lexer.{long_of, short_of}
use Rattle.clap.specs.Kinds.{Kinds, or_else, range_kinds, value_kinds}
use Rattle.clap.specs.Walk.{Held, Names, Outcome, Row, Rule, Step, Text, Waiting, Walk, after_flag, answers_to, finished, arg_by_id, arg_by_index, arg_by_long, arg_by_short, at_row, attached_value, bundle, bundle_met, bundle_step, default_rows, done, flag_met, has_row, idle, is_pending, long_met, long_or_other, more_values, next, option, option_met, option_word, plain, plain_word, positional, reacted, reading_by, refused, settled, settled_rows, short_met, short_or_plain, subcommand, subcommand_met, subcommand_or_other, takes_several, takes_values, to_positional, trailing, used, used_by_id, value, values_or_missing, waits, walk, walk_from, nothing_held, rows_after, walked, walked_from, with_default, with_values, without, word_met, after_step}
use Rattle.clap.specs.Simple.{App, Shape, argument_words, built, built_leaf, entered, filled, help_rule, names_of, rows_at, with_index}
use Rattle.clap.specs.Faults.{bundle_fault, bundle_step_fault, check_fault, defaults_fault, entered_fault, level_fault, flag_word_fault, flags_fault, long_fault, option_fault, other_fault, positional_fault, react_fault, repeat_fault, settle_fault, short_fault, step_fault, stray_fault, turn_fault, use_fault, walk_fault, word_fault}
use Rattle.clap.specs.declared.builder.value_parser.Reading.{Reading}
use Rattle.clap.specs.declared.builder.value_parser.Reading.TheVariants.{AsWritten}
use Rattle.clap.specs.declared.builder.value_parser.ValueParser.TheVariants.{Unsigned}
use Rattle.clap.specs.declared.error.kind.ErrorKind.{ErrorKind}
use Rattle.clap.specs.declared.error.kind.ErrorKind.TheVariants as kind
use Rattle.clap.specs.declared.parser.matches.ValueSource.{ValueSource}
use Rattle.clap.specs.declared.parser.matches.ValueSource.TheVariants.{CommandLine, DefaultValue}
use Rattle.cm_command.specs.declared.job.Job.{Job}
use Rattle.cm_command.specs.declared.job.Job.TheVariants.{Render, Tree, TreeJson, Rewrite, Examples}
use Rattle.cm_command.specs.CommandLine.{cmk_app, examples_app, file_rule, flag_name, flag_rule, found_for, is_limit, json_name, Limit, Bytes, Blocks, Inlines, limit_name, limit_rule, most, job_of, reads_a_text, stops_of, Flag, Older, Strike, NoHtml, WebLinks, Safe}
use Rattle.cm_command.specs.steps.Arguments.{IsJob, AreRead, FlagsAreRead, IsRead, fits}
use Rattle.cm_command.proofs.lemmas.RowLemmas.{first_default, row_by, with_defaults}

-- ---- kinds that are none

pub no_first : (a b : Kinds) → or_else a b ≡ [] → a ≡ []
no_first [] b none = refl
no_first (k ∷ ks) b none = none

pub no_second : (a b : Kinds) → or_else a b ≡ [] → b ≡ []
no_second [] b none = none
no_second (k ∷ ks) b none = cc

passes : (b : Bool) (k : ErrorKind) → cond b [] (k ∷ []) ≡ [] → b ≡ true
passes true k none = refl
passes false k none = cc

-- ---- rows

-- the first value fits the argument of this name
abbrev FirstFits : Text → List Text → Type 0
FirstFits id [] = ⊥
FirstFits id (v ∷ vs) = fits id v ≡ true

more_fit : (id : Text) (vs more : List Text) → FirstFits id vs → FirstFits id (vs ++ more)
more_fit id [] more h = absurd h
more_fit id (v ∷ vs) more h = h

-- the row has such a value, as it is written
abbrev pub IsFine : Row → Type 0
IsFine r = (r.reading ≡ AsWritten) × FirstFits r.id r.values

abbrev pub AreFine : List Row → Type 0
AreFine = AllByRecursion IsFine

both_fine : (xs ys : List Row) → AreFine xs → AreFine ys → AreFine (xs ++ ys)
both_fine [] ys f g = g
both_fine (x ∷ xs) ys f g = (f.0, both_fine xs ys f.1 g)

at_row_fine : (id : Text) (change : Row → List Row) (missing rows : List Row) → AreFine rows → ((r : Row) → IsFine r → AreFine (change r))
    → AreFine missing → AreFine (at_row id change missing rows)
at_row_fine id change missing [] fine changed added = added
at_row_fine id change missing (r ∷ rs) fine changed added = go (bytes_eq r.id id) (at_row_fine id change missing rs fine.1 changed added)
  where
    go : (b : Bool) → AreFine (at_row id change missing rs) → AreFine (cond b (change r ++ rs) (r ∷ at_row id change missing rs))
    go true rest = both_fine (change r) rs (changed r fine.0) fine.1
    go false rest = (fine.0, rest)

with_values_fine : (id : Text) (s : ValueSource) (values : List Text) (rows : List Row) → FirstFits id values → AreFine rows
    → AreFine (with_values id AsWritten s values rows)
with_values_fine id s values rows new fine =
    at_row_fine id (more_values s values) _ rows fine (λ r f. ((f.0, more_fit r.id r.values values f.1), tt)) ((refl, new), tt)

without_fine : (id : Text) (rows : List Row) → AreFine rows → AreFine (without id rows)
without_fine id rows fine = at_row_fine id (λ _. []) [] rows fine (λ r f. tt) tt

-- ---- one use of an argument

-- a use that is no fault keeps the rows fine
abbrev pub IsFineRule : Rule → Type 0
IsFineRule a = (again : Bool) (values : List Text) (rows : List Row) → use_fault again a values rows ≡ [] → AreFine rows → AreFine (used a values rows)

set_fine : (id : Text) (values : List Text) (rows : List Row) → FirstFits id values → AreFine rows
    → AreFine (with_values id AsWritten CommandLine values (without id rows))
set_fine id values rows new fine = with_values_fine id CommandLine values _ new (without_fine id rows fine)

file_fine : (needed : Bool) → IsFineRule (with_index 1 (filled (record file_rule { required = needed })))
file_fine needed again [] rows none fine = absurd (cc)
file_fine needed again (v ∷ vs) rows none fine = set_fine (codes "file") (v ∷ vs) rows refl fine

limit_fine : (limit : Limit) → ((value : Text) → fits (limit_name limit) value ≡ is_limit limit value) → IsFineRule (filled (limit_rule limit))
limit_fine limit fit again values rows none fine = set_fine (limit_name limit) _ rows (in_range values none) fine
  where
    in_range : (vs : List Text) → use_fault again (filled (limit_rule limit)) vs rows ≡ [] → FirstFits (limit_name limit) (values_or_missing (filled (limit_rule limit)) vs)
    in_range [] none = cc
    in_range (v ∷ vs) none =
        let set = no_second (range_kinds 1 1 (length (v ∷ vs))) _ none in
        let value = no_second (repeat_fault again (limit_name limit) rows) _ set in
        fit v ∙ passes (is_limit limit v) _ (no_first (value_kinds false (Unsigned 1 (most limit)) v) _ value)

flag_fine : (name : Text) → fits name (codes "true") ≡ true → IsFineRule (filled (flag_rule name))
flag_fine name fit again [] rows none fine = set_fine name (codes "true" ∷ []) rows fit fine
flag_fine name fit again (v ∷ vs) rows none fine =
    let takes_none = passes (0 == length (v ∷ vs)) _ (no_first (range_kinds 0 0 (length (v ∷ vs))) _ none) in
    absurd (true≢false (sym takes_none ∙ ne_eqb 0 (length (v ∷ vs)) (λ same. omega arith)))

help_fine : IsFineRule (filled help_rule)
help_fine again values rows none fine = fine

found_fine : (test : Rule → Bool) (c : List Rule) → AllByRecursion IsFineRule c → IfSome (find test c) IsFineRule
found_fine test [] fine = tt
found_fine test (a ∷ c) fine = go (test a) (found_fine test c fine.1)
  where
    go : (b : Bool) → IfSome (find test c) IsFineRule → IfSome (cond b (Some a) (find test c)) IsFineRule
    go true rest = fine.0
    go false rest = rest

-- ---- the walk

module _ (s : Shape) (rules : AllByRecursion IsFineRule s.rules) where
  settled_fine : (h : Held) → settle_fault s.rules s.args_override_self h ≡ [] → AreFine h.rows → AreFine (settled s.rules h).rows
  settled_fine h none fine = pending h.pending none
    where
      by_id : (found : Option Rule) (values : List Text) → IfSome found IsFineRule
          → option_map_or (λ a. use_fault s.args_override_self a values h.rows) found [] ≡ [] → AreFine (used_by_id found values h.rows)
      by_id None values is none = fine
      by_id (Some a) values is none = is s.args_override_self values h.rows none fine

      pending : (p : Option (Text × List Text))
          → option_map_or (λ q. option_map_or (λ a. use_fault s.args_override_self a q.1 h.rows) (arg_by_id s.rules q.0) []) p [] ≡ []
          → AreFine (settled_rows s.rules p h.rows)
      pending None none = fine
      pending (Some q) none = by_id (arg_by_id s.rules q.0) q.1 (found_fine _ s.rules rules) none

  reacted_fine : (a : Rule) (values : List Text) (h : Held) → IsFineRule a → react_fault s.rules s.args_override_self a values h ≡ []
      → AreFine h.rows → AreFine (reacted s.rules a values h).rows
  reacted_fine a values h is none fine =
      is s.args_override_self values (settled s.rules h).rows (no_second (settle_fault s.rules s.args_override_self h) _ none)
      (settled_fine h (no_first _ _ none) fine)

  option_fine : (a : Rule) (v : Option Text) (h : Held) → IsFineRule a → option_fault s.rules s.args_override_self a v h ≡ []
      → AreFine h.rows → AreFine (option_met s.rules a v h).0.rows
  option_fine a (Some v) h is none fine = reacted_fine a (v ∷ []) h is none fine
  option_fine a None h is none fine = settled_fine h none fine

  long_fine : (found : Option Rule) (v : Option Text) (h : Held) → IfSome found IsFineRule → long_fault s.rules s.args_override_self found v h ≡ []
      → AreFine h.rows → AreFine (long_met s.rules found v h).0.rows
  long_fine None v h is none fine = fine
  long_fine (Some a) v h is none fine = either (takes_values a) v none
    where
      either : (b : Bool) (u : Option Text)
          → cond b (option_fault s.rules s.args_override_self a u h) (cond (is_some u) (kind.TooManyValues ∷ []) (react_fault s.rules s.args_override_self a [] h)) ≡ []
          → AreFine (cond b (option_met s.rules a u h) (flag_met s.rules a u h)).0.rows
      either true u none = option_fine a u h is none fine
      either false (Some x) none = fine
      either false None none = reacted_fine a [] h is none fine

  short_fine : (found : Option Rule) (rest : Text) (h : Held) (met : Held → Held × Outcome) (fault : Held → Kinds) → IfSome found IsFineRule
      → ((g : Held) → fault g ≡ [] → AreFine g.rows → AreFine (met g).0.rows)
      → short_fault s.rules s.args_override_self found rest h fault ≡ [] → AreFine h.rows → AreFine (short_met s.rules found rest h met).0.rows
  short_fine None rest h met fault is more none fine = fine
  short_fine (Some a) rest h met fault is more none fine = either (takes_values a) none
    where
      either : (b : Bool)
          → cond b (option_fault s.rules s.args_override_self a (attached_value rest) h) (or_else (react_fault s.rules s.args_override_self a [] h) (fault (reacted s.rules a [] h))) ≡ []
          → AreFine (cond b (option_met s.rules a (attached_value rest) h) (met (reacted s.rules a [] h))).0.rows
      either true none = option_fine a (attached_value rest) h is none fine
      either false none =
          more (reacted s.rules a [] h) (no_second (react_fault s.rules s.args_override_self a [] h) _ none) (reacted_fine a [] h is (no_first _ _ none) fine)

  bundle_step_fine : (x : Option ℕ) (flags : Text) (skip : ℕ) (so_far : Outcome) (h : Held) (met : Text → ℕ → Outcome → Held → Held × Outcome) (fault : Text → ℕ → Held → Kinds)
      → ((left : Text) (n : ℕ) (o : Outcome) (g : Held) → fault left n g ≡ [] → AreFine g.rows → AreFine (met left n o g).0.rows)
      → bundle_step_fault s.rules s.args_override_self x flags skip h fault ≡ [] → AreFine h.rows → AreFine (bundle_step s.rules x flags skip so_far h met).0.rows
  bundle_step_fine None flags skip so_far h met fault more none fine = fine
  bundle_step_fine (Some x) flags zero so_far h met fault more none fine =
      let rest = drop (length (encode_utf8 x)) flags in
      short_fine (arg_by_short s.rules x) rest h (met rest 0 done) (fault rest 0) (found_fine _ s.rules rules) (λ g none fine. more rest 0 done g none fine) none fine
  bundle_step_fine (Some x) flags (suc skip) so_far h met fault more none fine = more (drop (length (encode_utf8 x)) flags) skip so_far h none fine

  bundle_fine : (k : ℕ) (flags : Text) (skip : ℕ) (so_far : Outcome) (h : Held) → flags_fault s.rules s.args_override_self k flags skip h ≡ []
      → AreFine h.rows → AreFine (bundle_met s.rules k flags skip so_far h).0.rows
  unfolding bundle_met flags_fault
  bundle_fine zero flags skip so_far h none fine = fine
  bundle_fine (suc k) flags skip so_far h none fine =
      bundle_step_fine (slice_get (chars flags) 0) flags skip so_far h (bundle_met s.rules k) (flags_fault s.rules s.args_override_self k) (bundle_fine k) none fine

  option_rows : (found : Option Rule) (id word : Text) (h : Held) → (option_word found id word h).0.rows ≡ h.rows
  option_rows None id word h = refl
  option_rows (Some a) id word h = refl

  plain_rows : (waiting : Waiting) (word : Text) (h : Held) → (plain_word s.rules waiting word h).0.rows ≡ h.rows
  plain_rows (option id) word h = option_rows (arg_by_id s.rules id) id word h
  plain_rows idle word h = refl
  plain_rows positional word h = refl

  flag_rows : (waiting : Waiting) (word : Text) (h : Held) (o : Outcome) → (after_flag s.rules waiting word h o).0.rows ≡ h.rows
  flag_rows waiting word h done = refl
  flag_rows waiting word h (waits id) = refl
  flag_rows waiting word h plain = plain_rows waiting word h
  flag_rows waiting word h refused = plain_rows waiting word h

  word_flag_fine : (waiting : Waiting) (word : Text) (long : Option (Text × Option Text)) (h : Held)
      → flag_word_fault s.rules s.args_override_self long word h ≡ [] → AreFine h.rows → AreFine (long_or_other s.rules waiting word long h).0.rows
  word_flag_fine waiting word (Some p) h none fine =
      subst AreFine (sym (flag_rows waiting word _ (long_met s.rules (arg_by_long s.rules p.0) p.1 h).1))
      (long_fine (arg_by_long s.rules p.0) p.1 h (found_fine _ s.rules rules) none fine)
  word_flag_fine waiting word None h none fine = short (short_of word) none
    where
      short : (o : Option Text) → option_map_or (λ flags. bundle_fault s.rules s.args_override_self flags h) o [] ≡ []
          → AreFine (short_or_plain s.rules waiting word o h).0.rows
      short (Some flags) none =
          subst AreFine (sym (flag_rows waiting word _ (bundle s.rules flags h).1))
          (bundle_fine (length flags) flags h.skip plain (record h { skip = 0 }) none fine)
      short None none = subst AreFine (sym (plain_rows waiting word h)) fine

  word_fine : (names : Names) (is_trailing : Bool) (waiting : Waiting) (position : ℕ) (word : Text) (h : Held)
      → word_fault s names is_trailing waiting word h ≡ [] → AreFine h.rows → AreFine (word_met s.rules names is_trailing waiting position word h).0.rows
  word_fine names true waiting position word h none fine = fine
  word_fine names false waiting position word h none fine = other (subcommand_met names waiting word) none
    where
      hyphens : (b : Bool) → cond b [] (flag_word_fault s.rules s.args_override_self (long_of word) word h) ≡ []
          → AreFine (cond b (h, trailing position) (long_or_other s.rules waiting word (long_of word) h)).0.rows
      hyphens true none = fine
      hyphens false none = word_flag_fine waiting word (long_of word) h none fine

      other : (o : Option Text) → other_fault s o word h ≡ [] → AreFine (subcommand_or_other s.rules o waiting position word h).0.rows
      other (Some name) none = fine
      other None none = hyphens (bytes_eq word (45 ∷ 45 ∷ [])) none

  step_fine : (word : Text) (w : Walk) (h : Held) (step : Step) → step_fault s w.position h step ≡ [] → AreFine h.rows
      → AreFine (after_step s.rules word w h step).held.rows
  step_fine word w h (next waiting) none fine = fine
  step_fine word w h (trailing position) none fine = fine
  step_fine word w h (subcommand name) none fine = fine
  step_fine word w h value none fine = place (arg_by_index s.rules w.position) none
    where
      goes_on : (a : Rule) (b : Bool) → cond b [] (settle_fault s.rules s.args_override_self h) ≡ [] → AreFine (cond b h (settled s.rules h)).rows
      goes_on a true none = fine
      goes_on a false none = settled_fine h none fine

      place : (found : Option Rule) → option_map_or (λ a. positional_fault s.rules s.args_override_self a h) found (stray_fault s) ≡ []
          → AreFine (to_positional s.rules found word w h).held.rows
      place None none = fine
      place (Some a) none = goes_on a (is_pending a h.pending && takes_several a) none

  walked_from_fine : (names : Names) (stopped : Option (Text × List Text)) (w : Walk) (word : Text)
      → cond (is_some stopped) [] (or_else (word_fault s names w.is_trailing w.waiting word w.held)
      (step_fault s w.position (word_met s.rules names w.is_trailing w.waiting w.position word w.held).0 (word_met s.rules names w.is_trailing w.waiting w.position word w.held).1)) ≡ []
      → AreFine w.held.rows → AreFine (walked_from s.rules names stopped w word).held.rows
  walked_from_fine names (Some p) w word none fine = fine
  walked_from_fine names None w word none fine =
      let met = word_met s.rules names w.is_trailing w.waiting w.position word w.held in
      step_fine word w met.0 met.1 (no_second (word_fault s names w.is_trailing w.waiting word w.held) _ none)
      (word_fine names w.is_trailing w.waiting w.position word w.held (no_first _ _ none) fine)

  walked_fine : (names : Names) (w : Walk) (word : Text) → turn_fault s names w word ≡ [] → AreFine w.held.rows → AreFine (walked s.rules names w word).held.rows
  unfolding walked
  walked_fine names w word none fine = walked_from_fine names w.stopped w word none fine

  pub walk_fine : (names : Names) (w : Walk) (words : List Text) → walk_fault s names w words ≡ [] → AreFine w.held.rows
      → AreFine (fold (walked s.rules names) w words).held.rows
  unfolding walk_fault
  walk_fine names w [] none fine = fine
  walk_fine names w (word ∷ rest) none fine =
      walk_fine names (walked s.rules names w word) rest (no_second (turn_fault s names w word) _ none)
      (walked_fine names w word (no_first _ _ none) fine)

-- ---- defaults, and the values that are read

abbrev FirstFitsIfAny : Text → List Text → Type 0
FirstFitsIfAny id [] = ⊤
FirstFitsIfAny id (v ∷ vs) = fits id v ≡ true

-- the default of an argument fits it
abbrev HasFineDefault : Rule → Type 0
HasFineDefault a = (reading_by a ≡ AsWritten) × FirstFitsIfAny a.id a.defaults

default_fine : (a : Rule) (rows : List Row) → HasFineDefault a → AreFine rows → AreFine (with_default rows a)
default_fine a rows is fine = either (has_row a.id rows)
  where
    named : (how : Reading) (values : List Text) → how ≡ AsWritten → FirstFitsIfAny a.id values → AreFine (default_rows a.id how values rows)
    named how [] reads fit = fine
    named how (v ∷ vs) reads fit =
        subst (λ (x : Reading). AreFine (with_values a.id x DefaultValue (v ∷ vs) rows)) (sym reads) (with_values_fine a.id DefaultValue (v ∷ vs) rows fit fine)

    either : (b : Bool) → AreFine (cond b rows (default_rows a.id (reading_by a) a.defaults rows))
    either true = fine
    either false = named (reading_by a) a.defaults is.0 is.1

defaults_fine : (c : List Rule) (rows : List Row) → AllByRecursion HasFineDefault c → AreFine rows → AreFine (fold with_default rows c)
defaults_fine [] rows rules fine = fine
defaults_fine (a ∷ c) rows rules fine = defaults_fine c (with_default rows a) rules.1 (default_fine a rows rules.0 fine)

first_text : (id : Text) (vs : List Text) → FirstFits id vs → (t : Text) × (slice_get vs 0 ≡ Some t) × (fits id t ≡ true)
first_text id [] h = absurd h
first_text id (v ∷ vs) h = (v, refl, h)

-- an argument that has a row is read
row_read : (id : Text) (rows : List Row) → AreFine rows → is_some (row_by id rows) ≡ true → IsRead id rows
row_read id [] fine has = cc
row_read id (r ∷ rs) fine has = either (bytes_eq r.id id) refl (row_read id rs fine.1) has
  where
    rest : bytes_eq r.id id ≡ false → IsRead id rs → IsRead id (r ∷ rs)
    rest other l = record { text = l.text; is_first = rw (other) l.is_first; is_read = rw (other) l.is_read; is_fit = l.is_fit }

    here : bytes_eq r.id id ≡ true → IsRead id (r ∷ rs)
    here same =
        let got = first_text r.id r.values fine.0.1 in
        record {
          text = got.0;
          is_first = rw (same) got.1;
          is_read = rw (same, fine.0.0, got.1) refl;
          is_fit = subst (λ (name : Text). fits name got.0 ≡ true) ((bytes_eq-Decides r.id id).0 same) got.2;
        }

    either : (b : Bool) → bytes_eq r.id id ≡ b → (is_some (row_by id rs) ≡ true → IsRead id rs) → is_some (cond b (Some r) (row_by id rs)) ≡ true → IsRead id (r ∷ rs)
    either true same later has = here same
    either false other later has = rest other (later has)

-- an argument with a default has a row
has_default : (id : Text) (rows : List Row) (c : List Rule) → is_some (first_default id c) ≡ true → is_some (row_by id (fold with_default rows c)) ≡ true
has_default id rows c default = rw (with_defaults id rows c) (either (row_by id rows))
  where
    either : (o : Option Row) → is_some (option_or o (first_default id c)) ≡ true
    either None = default
    either (Some r) = refl

-- the rules of the flags, before these
abbrev flag_rules : List Rule → List Rule
flag_rules rules =
    filled (flag_rule (codes "older")) ∷ filled (flag_rule (codes "strike")) ∷ filled (flag_rule (codes "no-html"))
    ∷ filled (flag_rule (codes "web-links")) ∷ filled (flag_rule (codes "safe")) ∷ rules

-- the last rules of a job's subcommand, with `--json` or without it
abbrev pub last_rules : (json : Bool) → List Rule
last_rules true = filled (flag_rule json_name) ∷ filled help_rule ∷ []
last_rules false = filled help_rule ∷ []

-- the rules of a job's subcommand, once it is built
abbrev pub job_rules : (json : Bool) → List Rule
job_rules json =
    with_index 1 (filled file_rule) ∷ filled (limit_rule Bytes) ∷ filled (limit_rule Blocks) ∷ filled (limit_rule Inlines) ∷ flag_rules (last_rules json)

-- the subcommand of a job has `--json`
abbrev pub takes_json : Job → Bool
takes_json Tree = true
takes_json TreeJson = true
takes_json _ = false

flags_fine : (rules : List Rule) → AllByRecursion IsFineRule rules → AllByRecursion IsFineRule
    (flag_rules rules)
flags_fine rules later =
    (flag_fine (codes "older") refl, (flag_fine (codes "strike") refl, (flag_fine (codes "no-html") refl, (flag_fine (codes "web-links") refl, (flag_fine (codes "safe") refl, later)))))

flags_default : (rules : List Rule) → AllByRecursion HasFineDefault rules → AllByRecursion HasFineDefault
    (flag_rules rules)
flags_default rules later = ((refl, refl), ((refl, refl), ((refl, refl), ((refl, refl), ((refl, refl), later)))))

last_rules_fine : (json : Bool) → AllByRecursion IsFineRule (last_rules json)
last_rules_fine true = (flag_fine json_name refl, (help_fine, tt))
last_rules_fine false = (help_fine, tt)

job_rules_fine : (json : Bool) → AllByRecursion IsFineRule (job_rules json)
job_rules_fine json =
    (file_fine false, (limit_fine Bytes (λ v. refl), (limit_fine Blocks (λ v. refl), (limit_fine Inlines (λ v. refl), flags_fine (last_rules json) (last_rules_fine json)))))

last_defaults_fine : (json : Bool) → AllByRecursion HasFineDefault (last_rules json)
last_defaults_fine true = ((refl, refl), ((refl, tt), tt))
last_defaults_fine false = ((refl, tt), tt)

job_defaults_fine : (json : Bool) → AllByRecursion HasFineDefault (job_rules json)
job_defaults_fine json = ((refl, tt), ((refl, refl), ((refl, refl), ((refl, refl), flags_default (last_rules json) (last_defaults_fine json)))))

-- those of the subcommand `examples`
abbrev example_rules : List Rule
example_rules = (built_leaf examples_app.top).rules

example_rules_fine : AllByRecursion IsFineRule example_rules
example_rules_fine = (file_fine true, flags_fine (filled help_rule ∷ []) (help_fine, tt))

example_defaults_fine : AllByRecursion HasFineDefault example_rules
example_defaults_fine = ((refl, tt), flags_default (filled help_rule ∷ []) ((refl, tt), tt))

-- an option of a subcommand that has a default is read
option_read : (id : Text) (s : Shape) (words : List Text) → AllByRecursion IsFineRule s.rules → AllByRecursion HasFineDefault s.rules
    → is_some (first_default id s.rules) ≡ true → level_fault s [] nothing_held words false [] ≡ [] → IsRead id (rows_after s.rules [] words)
option_read id s words of_job defaults default none =
    let walked_so = walk_fine s of_job [] (walk_from nothing_held) words (no_first _ _ none) tt in
    let settled_none = no_first (settle_fault s.rules s.args_override_self (walk s.rules [] nothing_held words).held) _
    (no_second (walk_fault s [] (walk_from nothing_held) words) _ none) in
    let rows = (settled s.rules (walk s.rules [] nothing_held words).held).rows in
    let fine = settled_fine s of_job (walk s.rules [] nothing_held words).held settled_none walked_so in
    row_read id _ (defaults_fine s.rules rows defaults fine) (has_default id rows s.rules default)

abbrev FlagDefault : Flag → List Rule → Type 0
FlagDefault flag rules = is_some (first_default (flag_name flag) rules) ≡ true

job_default : (json : Bool) (flag : Flag) → FlagDefault flag (job_rules json)
job_default json Older = refl
job_default json Strike = refl
job_default json NoHtml = refl
job_default json WebLinks = refl
job_default json Safe = refl

abbrev LimitDefault : Limit → List Rule → Type 0
LimitDefault limit rules = is_some (first_default (limit_name limit) rules) ≡ true

limit_default : (json : Bool) (limit : Limit) → LimitDefault limit (job_rules json)
limit_default json Bytes = refl
limit_default json Blocks = refl
limit_default json Inlines = refl

example_default : (flag : Flag) → FlagDefault flag example_rules
example_default Older = refl
example_default Strike = refl
example_default NoHtml = refl
example_default WebLinks = refl
example_default Safe = refl

-- what is found for the options of a subcommand that reads a text
job_options : (json : Bool) (s : Shape) (words : List Text) → s.rules ≡ job_rules json → level_fault s [] nothing_held words false [] ≡ []
    → AreRead (rows_after s.rules [] words)
job_options json s words rules none =
    let of_job = subst (AllByRecursion IsFineRule) (sym rules) (job_rules_fine json) in
    let defaults = subst (AllByRecursion HasFineDefault) (sym rules) (job_defaults_fine json) in
    record {
      limits = λ limit. option_read (limit_name limit) s words of_job defaults (subst (LimitDefault limit) (sym rules) (limit_default json limit)) none;
      flags = λ flag. option_read (flag_name flag) s words of_job defaults (subst (FlagDefault flag) (sym rules) (job_default json flag)) none;
    }

-- what is found for `--json`
json_option : (s : Shape) (words : List Text) → s.rules ≡ job_rules true → level_fault s [] nothing_held words false [] ≡ []
    → IsRead json_name (rows_after s.rules [] words)
json_option s words rules none =
    option_read json_name s words (subst (AllByRecursion IsFineRule) (sym rules) (job_rules_fine true))
    (subst (AllByRecursion HasFineDefault) (sym rules) (job_defaults_fine true)) (rw (rules) refl) none

-- and for the options of `examples`
example_options : (s : Shape) (words : List Text) → s.rules ≡ example_rules → level_fault s [] nothing_held words false [] ≡ []
    → FlagsAreRead (rows_after s.rules [] words)
example_options s words rules none =
    let of_job = subst (AllByRecursion IsFineRule) (sym rules) example_rules_fine in
    let defaults = subst (AllByRecursion HasFineDefault) (sym rules) example_defaults_fine in
    λ flag. option_read (flag_name flag) s words of_job defaults (subst (FlagDefault flag) (sym rules) (example_default flag)) none

-- ---- the subcommand

-- the word is no subcommand, or one other than `help`
abbrev IsNoHelp : Step → Type 0
IsNoHelp (subcommand name) = bytes_eq name (codes "help") ≡ false
IsNoHelp _ = ⊤

option_no_help : (c : List Rule) (waiting : Waiting) (word : Text) (h : Held) → IsNoHelp (plain_word c waiting word h).1
option_no_help c (option id) word h = tt
option_no_help c idle word h = tt
option_no_help c positional word h = tt

flag_no_help : (c : List Rule) (waiting : Waiting) (word : Text) (h : Held) (o : Outcome) → IsNoHelp (after_flag c waiting word h o).1
flag_no_help c waiting word h done = tt
flag_no_help c waiting word h (waits id) = tt
flag_no_help c waiting word h plain = option_no_help c waiting word h
flag_no_help c waiting word h refused = option_no_help c waiting word h

long_no_help : (c : List Rule) (waiting : Waiting) (word : Text) (long : Option (Text × Option Text)) (h : Held) → IsNoHelp (long_or_other c waiting word long h).1
long_no_help c waiting word (Some p) h = flag_no_help c waiting word _ _
long_no_help c waiting word None h = short (short_of word)
  where
    short : (o : Option Text) → IsNoHelp (short_or_plain c waiting word o h).1
    short (Some flags) = flag_no_help c waiting word _ _
    short None = option_no_help c waiting word h

module _ (s : Shape) (has_help : s.disable_help_subcommand ≡ false) where
  word_no_help : (names : Names) (is_trailing : Bool) (waiting : Waiting) (position : ℕ) (word : Text) (h : Held)
      → word_fault s names is_trailing waiting word h ≡ [] → IsNoHelp (word_met s.rules names is_trailing waiting position word h).1
  word_no_help names true waiting position word h none = tt
  word_no_help names false waiting position word h none = other (subcommand_met names waiting word) none
    where
      hyphens : (b : Bool) → IsNoHelp (cond b (h, trailing position) (long_or_other s.rules waiting word (long_of word) h)).1
      hyphens true = tt
      hyphens false = long_no_help s.rules waiting word (long_of word) h

      named : (b : Bool) → cond (b && not s.disable_help_subcommand) (kind.DisplayHelp ∷ kind.InvalidSubcommand ∷ []) [] ≡ [] → b ≡ false
      named true none = absurd (let bad = rw has_help at none in cc)
      named false none = refl

      other : (o : Option Text) → other_fault s o word h ≡ [] → IsNoHelp (subcommand_or_other s.rules o waiting position word h).1
      other (Some name) none = named (bytes_eq name (codes "help")) none
      other None none = hyphens (bytes_eq word (45 ∷ 45 ∷ []))

  abbrev EntersNoHelp : Option (Text × List Text) → Type 0
  EntersNoHelp stopped = IfSome stopped (λ p. bytes_eq p.0 (codes "help") ≡ false)

  placed_no_help : (found : Option Rule) (word : Text) (w : Walk) (h : Held) → w.stopped ≡ None → EntersNoHelp (to_positional s.rules found word w h).stopped
  placed_no_help None word w h open_still = subst EntersNoHelp (sym open_still) tt
  placed_no_help (Some a) word w h open_still = tt

  step_no_help : (word : Text) (w : Walk) (h : Held) (step : Step) → w.stopped ≡ None → IsNoHelp step → EntersNoHelp (after_step s.rules word w h step).stopped
  step_no_help word w h (next waiting) open_still is = subst EntersNoHelp (sym open_still) tt
  step_no_help word w h (trailing position) open_still is = subst EntersNoHelp (sym open_still) tt
  step_no_help word w h (subcommand name) open_still is = is
  step_no_help word w h value open_still is = placed_no_help (arg_by_index s.rules w.position) word w h open_still

  walked_from_no_help : (names : Names) (stopped : Option (Text × List Text)) (w : Walk) (word : Text) → w.stopped ≡ stopped
      → cond (is_some stopped) [] (or_else (word_fault s names w.is_trailing w.waiting word w.held)
      (step_fault s w.position (word_met s.rules names w.is_trailing w.waiting w.position word w.held).0 (word_met s.rules names w.is_trailing w.waiting w.position word w.held).1)) ≡ []
      → EntersNoHelp stopped → EntersNoHelp (walked_from s.rules names stopped w word).stopped
  walked_from_no_help names (Some p) w word same none is = is
  walked_from_no_help names None w word same none is =
      let met = word_met s.rules names w.is_trailing w.waiting w.position word w.held in
      step_no_help word w met.0 met.1 same (word_no_help names w.is_trailing w.waiting w.position word w.held (no_first _ _ none))

  walked_no_help : (names : Names) (w : Walk) (word : Text) → turn_fault s names w word ≡ [] → EntersNoHelp w.stopped → EntersNoHelp (walked s.rules names w word).stopped
  unfolding walked
  walked_no_help names w word none is = walked_from_no_help names w.stopped w word refl none is

  walk_no_help : (names : Names) (w : Walk) (words : List Text) → walk_fault s names w words ≡ [] → EntersNoHelp w.stopped
      → EntersNoHelp (fold (walked s.rules names) w words).stopped
  unfolding walk_fault
  walk_no_help names w [] none is = is
  walk_no_help names w (word ∷ rest) none is =
      walk_no_help names (walked s.rules names w word) rest (no_second (turn_fault s names w word) _ none) (walked_no_help names w word (no_first _ _ none) is)

-- ---- the command line

abbrev pub cmk_built : App
cmk_built = built cmk_app

entered_text : (s : Shape) (job : Job) (words : List Text) → s.rules ≡ job_rules (takes_json job) → reads_a_text job ≡ true → job_of s.name ≡ Some job
    → level_fault s [] nothing_held words false [] ≡ [] → IsJob (rows_at s words)
entered_text s Render words rules text named none = record { job = Render; named = named; options = job_options false s words rules none }
entered_text s Tree words rules text named none =
    record { job = Tree; named = named; options = (job_options true s words rules none, json_option s words rules none) }
entered_text s TreeJson words rules text named none = record { job = TreeJson; named = named; options = job_options true s words rules none }
entered_text s Rewrite words rules text named none = record { job = Rewrite; named = named; options = job_options false s words rules none }
entered_text s Examples words rules text named none = cc

entered_examples : (s : Shape) (words : List Text) → s.rules ≡ example_rules → job_of s.name ≡ Some Examples
    → level_fault s [] nothing_held words false [] ≡ [] → IsJob (rows_at s words)
entered_examples s words rules named none = record { job = Examples; named = named; options = example_options s words rules none }

names_help : (name : Text) → (bytes_eq (codes "help") name || false) ≡ true → bytes_eq name (codes "help") ≡ false → ⊥
names_help name same other =
    let is = (bytes_eq-Decides (codes "help") name).0 (or_false _ same) in
    true≢false (sym ((bytes_eq-Decides name (codes "help")).1 (sym is)) ∙ other)
  where
    or_false : (b : Bool) → (b || false) ≡ true → b ≡ true
    or_false true e = refl
    or_false false e = e

entered_is_job : (stop : Option (Text × List Text)) (rows : List Row) → entered_fault cmk_built stop ≡ []
    → IfSome stop (λ p. bytes_eq p.0 (codes "help") ≡ false) → check_fault cmk_built.top rows (is_some (entered cmk_built stop)) ≡ []
    → IsSomeAnd (entered cmk_built stop) IsJob
entered_is_job None rows none is check = cc
entered_is_job (Some p) rows none is check =
    named (answers_to p.0 (codes "render", [])) (answers_to p.0 (codes "tree", [])) (answers_to p.0 (codes "rewrite", [])) (answers_to p.0 (codes "examples", [])) (answers_to p.0 (codes "help", [])) refl none check
  where
    sub : ℕ → Shape
    sub n = slice_index_or cmk_built.subs n cmk_built.top

    found : Bool → Bool → Bool → Bool → Bool → Option Shape
    found is_render is_tree is_rewrite is_examples is_help =
        cond is_render (Some (sub 0)) (cond is_tree (Some (sub 1)) (cond is_rewrite (Some (sub 2)) (cond is_examples (Some (sub 3)) (cond is_help (Some (sub 4)) None))))

    named : (is_render is_tree is_rewrite is_examples is_help : Bool) → answers_to p.0 (codes "help", []) ≡ is_help
        → option_map_or (λ s. level_fault s [] nothing_held p.1 false []) (found is_render is_tree is_rewrite is_examples is_help) [] ≡ []
        → check_fault cmk_built.top rows (is_some (option_map (λ s. rows_at s p.1) (found is_render is_tree is_rewrite is_examples is_help))) ≡ []
        → IsSomeAnd (option_map (λ s. rows_at s p.1) (found is_render is_tree is_rewrite is_examples is_help)) IsJob
    named true is_tree is_rewrite is_examples is_help same none check = entered_text (sub 0) Render p.1 refl refl refl none
    named false true is_rewrite is_examples is_help same none check = entered_text (sub 1) Tree p.1 refl refl refl none
    named false false true is_examples is_help same none check = entered_text (sub 2) Rewrite p.1 refl refl refl none
    named false false false true is_help same none check = entered_examples (sub 3) p.1 refl refl none
    named false false false false true same none check = absurd (names_help p.0 same is)
    named false false false false false same none check = cc

-- words that call for no stop name a job, with values of its options that fit them
pub is_job : (words : List Text) → stops_of words ≡ [] → IsSomeAnd (found_for words) IsJob
is_job words none =
    let given = argument_words cmk_app words in
    let names = names_of cmk_built in
    let end = walk cmk_built.top.rules names nothing_held given in
    let walk_none = no_first (walk_fault cmk_built.top names (walk_from nothing_held) given) _ none in
    let below = no_second (walk_fault cmk_built.top names (walk_from nothing_held) given) _ none in
    let after = no_second (entered_fault cmk_built end.stopped) _ below in
    let defaults = no_second (settle_fault cmk_built.top.rules cmk_built.top.args_override_self end.held) _ after in
    let check = no_second (defaults_fault (settled cmk_built.top.rules end.held).rows cmk_built.top.rules) _ defaults in
    entered_is_job end.stopped (finished cmk_built.top.rules end.held) (no_first (entered_fault cmk_built end.stopped) _ below)
    (walk_no_help cmk_built.top refl names (walk_from nothing_held) given walk_none tt) check
