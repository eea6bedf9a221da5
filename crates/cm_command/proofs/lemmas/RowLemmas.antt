-- Rows of arguments: where one joins, and what is found among them by name.
use Rattle.std.proofs.Common.{◌≡◌, ◌∙◌, List, [], ◌∷◌, ◌++◌, ◌||◌, Option, Some, None, Bool, true, false, refl, sym, ap, subst, bytes_eq, true≢false, append-nil}
use Rattle.std.specs.Prelude.{cond, find, fold}
use Rattle.std.specs.Option.{option_or}
use Rattle.std.proofs.lemmas.List.Folds.{find-append}
use Rattle.std.proofs.lemmas.Slice.Eq.{bytes_eq-Decides}
use Rattle.clap.specs.Walk.{Row, Rule, Text, at_row, default_rows, has_row, more_values, reading_by, with_default, with_values, without}
use Rattle.clap.specs.declared.builder.value_parser.Reading.{Reading}
use Rattle.clap.specs.declared.builder.value_parser.Reading.TheVariants.{AsWritten}
use Rattle.clap.specs.declared.parser.matches.ValueSource.TheVariants.{CommandLine, DefaultValue}

-- the first row of this name
abbrev pub row_by : Text → List Row → Option Row
row_by id rows = find (λ r. bytes_eq r.id id) rows

none_has : (id : Text) (rows : List Row) → row_by id rows ≡ None → has_row id rows ≡ false
none_has id [] none = refl
none_has id (r ∷ rs) none = go (bytes_eq r.id id) (none_has id rs) none
  where
    go : (b : Bool) → (row_by id rs ≡ None → has_row id rs ≡ false) → cond b (Some r) (row_by id rs) ≡ None → (b || has_row id rs) ≡ false
    go true rest none = cc
    go false rest none = rest none

-- where no row has the name, a change joins at the end
joins : (id : Text) (change : Row → List Row) (missing rows : List Row) → has_row id rows ≡ false → at_row id change missing rows ≡ rows ++ missing
joins id change missing [] other = refl
joins id change missing (r ∷ rs) other = go (bytes_eq r.id id) (joins id change missing rs) other
  where
    go : (b : Bool) → (has_row id rs ≡ false → at_row id change missing rs ≡ rs ++ missing) → (b || has_row id rs) ≡ false
        → cond b (change r ++ rs) (r ∷ at_row id change missing rs) ≡ r ∷ (rs ++ missing)
    go true rest other = cc
    go false rest other = ap (λ more. r ∷ more) (rest other)

-- a use of an argument that has no row yet adds one
pub used_new : (id : Text) (values : List Text) (rows : List Row) → has_row id rows ≡ false
    → with_values id AsWritten CommandLine values (without id rows)
    ≡ rows ++ record { id = id; values = values; count = None; source = Some CommandLine; reading = AsWritten } ∷ []
used_new id values rows other =
    ap (with_values id AsWritten CommandLine values) (joins id (λ _. []) [] rows other ∙ append-nil rows)
    ∙ joins id (more_values CommandLine values) _ rows other

-- ---- defaults

abbrev pub default_row : Text → Reading → List Text → Option Row
default_row id how [] = None
default_row id how (v ∷ vs) = Some (record { id = id; values = v ∷ vs; count = None; source = Some DefaultValue; reading = how })

-- what the default of an argument gives for this name
abbrev pub own_default : Text → Rule → Option Row
own_default id a = cond (bytes_eq a.id id) (default_row a.id (reading_by a) a.defaults) None

abbrev pub first_default : Text → List Rule → Option Row
first_default id [] = None
first_default id (a ∷ c) = option_or (own_default id a) (first_default id c)

or_none : (o : Option Row) → o ≡ option_or o None
or_none None = refl
or_none (Some r) = refl

pub or_assoc : (a b c : Option Row) → option_or (option_or a b) c ≡ option_or a (option_or b c)
or_assoc None b c = refl
or_assoc (Some r) b c = refl

one_default : (id : Text) (rows : List Row) (a : Rule) → row_by id (with_default rows a) ≡ option_or (row_by id rows) (own_default id a)
one_default id rows a = either (has_row a.id rows) refl
  where
    -- an argument of this name has a row, so the default adds none
    there : (o default : Option Row) (b : Bool) → bytes_eq a.id id ≡ b → row_by id rows ≡ o → has_row a.id rows ≡ true → o ≡ option_or o (cond b default None)
    there (Some r) default b same is has = refl
    there None default false same is has = refl
    there None default true same is has =
        let name_is = (bytes_eq-Decides a.id id).0 same in
        absurd (true≢false (sym has ∙ subst (λ (t : Text). has_row t rows ≡ false) (sym name_is) (none_has id rows is)))

    -- no row has the argument's name, and its default, if it has one, joins
    new : (how : Reading) (values : List Text) (b : Bool) → has_row a.id rows ≡ false → bytes_eq a.id id ≡ b
        → row_by id (default_rows a.id how values rows) ≡ option_or (row_by id rows) (cond b (default_row a.id how values) None)
    new how [] true other same = or_none (row_by id rows)
    new how [] false other same = or_none (row_by id rows)
    new how (v ∷ vs) b other same =
        ap (row_by id) (joins a.id (more_values DefaultValue (v ∷ vs)) _ rows other) ∙ find-append (λ (r : Row). bytes_eq r.id id) rows _
        ∙ ap (λ e. option_or (row_by id rows) (cond e (default_row a.id how (v ∷ vs)) None)) same

    either : (b : Bool) → has_row a.id rows ≡ b
        → row_by id (cond b rows (default_rows a.id (reading_by a) a.defaults rows)) ≡ option_or (row_by id rows) (own_default id a)
    either true has = there (row_by id rows) (default_row a.id (reading_by a) a.defaults) (bytes_eq a.id id) refl refl has
    either false other = new (reading_by a) a.defaults (bytes_eq a.id id) other refl

-- after the defaults a name has the row that it had, or its first default
pub with_defaults : (id : Text) (rows : List Row) (c : List Rule) → row_by id (fold with_default rows c) ≡ option_or (row_by id rows) (first_default id c)
with_defaults id rows [] = or_none (row_by id rows)
with_defaults id rows (a ∷ c) =
    with_defaults id (with_default rows a) c ∙ ap (λ o. option_or o (first_default id c)) (one_default id rows a)
    ∙ or_assoc (row_by id rows) (own_default id a) (first_default id c)
