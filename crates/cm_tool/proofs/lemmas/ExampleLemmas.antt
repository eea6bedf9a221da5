-- The examples of a file, part by part.
use Rattle.std.proofs.Common.{◌≡◌, ◌∙◌, ◌+◌, ◌++◌, ◌^◌, ℕ, zero, suc, Bool, true, false, cond, List, [], ◌∷◌, Option, Some, None, refl, sym, ap, ap₂, map, append_assoc, append-nil, add-one, get_or, ◌<◌, ◌≤◌, drop, ne_eqb, subst, length, length-append, arith, IsUtf8}
use Rattle.std.specs.List.{count_by}
use Rattle.std.specs.Option.{option_or}
use Rattle.cm_tool.specs.Writing.{converted}
use Rattle.std.specs.Prelude.{Result, string_bytes, unwrap_or, Ok, Err, OnOk, is_ok, option_map}
use Rattle.std.specs.Str.{bytes_eq, chars}
use Rattle.std.proofs.lemmas.Bool.{and_parts}
use Rattle.std.proofs.lemmas.List.{length-map}
use Rattle.std.proofs.lemmas.List.Sums.{sum_by-cons}
use Rattle.std.proofs.lemmas.Str.{IsUtf8-nil, chars_from_encodes, chars_past_char, encode_same, length-encode, len_utf8_bounds}
use lib.Utf8.{encode, encodes, scalars}
use Rattle.cm_text.specs.Limits.{LimitsView, limits_for}
use Rattle.cm_tool.specs.declared.fault.Fault.{Fault}
use Rattle.cm_tool.specs.declared.fault.Fault.TheVariants.{NotUtf8, TooLong, BlocksTooDeep, InlinesTooDeep, NoMemory, ReadFailed, WriteFailed, Unspellable, BadExampleFile, ExampleDiffers}
use Rattle.cm_tool.specs.Faults.{fault_of}
use Rattle.cm_tool.specs.Parsing.{TellsFault}
use Rattle.cm_tool.proofs.lemmas.TellingLemmas.{tells_other}
use Rattle.cm_tool.specs.ExampleFiles.{Example, Examines, examples_of, report_on, reported, sound_report, agrees, difference_of, differences_from, first_fault, standard_limits, DifferenceView, closing_line, example_line, examples_from, middle_line, put_example, tab_for_arrow, InHtml, InSource, Outside}
use Rattle.cm_text.specs.Rules.{Rules}
use Rattle.cm_tool.specs.declared.example_files.Example as code
use Rattle.cm_tool.specs.declared.example_files.comparing.Difference.{Difference}
use Rattle.cm_tool.specs.declared.example_files.comparing.Report.{Report}
use Rattle.cm_tool.specs.steps.ExampleSteps.{Part, example_of, part_from}

-- what comes of a file whose source is this, and of one whose HTML is this
abbrev after_source : ℕ → Option Part → Result (List Example) ℕ
after_source opened None = Err opened
after_source opened (Some part) = examples_from (InHtml opened part.text []) part.number part.beyond

abbrev after_html : ℕ → List ℕ → Option Part → Result (List Example) ℕ
after_html opened source None = Err opened
after_html opened source (Some part) = put_example (record { source = source; html = part.text }) (examples_from Outside part.number part.beyond)

abbrev found : Type 0
found = Result (List Example) ℕ

source_taken : (opened number : ℕ) (so_far : List ℕ) (lines : List (List ℕ))
    → examples_from (InSource opened so_far) number lines ≡ after_source opened (part_from middle_line so_far number lines)
source_taken opened number so_far [] = refl
source_taken opened number so_far (line ∷ lines) =
    go (bytes_eq line middle_line) (bytes_eq line closing_line) (source_taken opened (number + 1) (so_far ++ example_line line) lines)
  where
    more : found
    more = examples_from (InSource opened (so_far ++ example_line line)) (number + 1) lines

    part : Option Part
    part = part_from middle_line (so_far ++ example_line line) (number + 1) lines

    here : Option Part
    here = Some (record { text = so_far; number = number + 1; beyond = lines })

    go : (is_middle is_closing : Bool) → more ≡ after_source opened part
        → elim is_middle as (λ _. found) [ true ↦ examples_from (InHtml opened so_far []) (number + 1) lines | false ↦ elim is_closing as (λ _. found) [ true ↦ Err opened | false ↦ more ] ]
        ≡ after_source opened (elim is_middle as (λ _. Option Part) [ true ↦ here | false ↦ elim is_closing as (λ _. Option Part) [ true ↦ None | false ↦ part ] ])
    go true is_closing rest = refl
    go false true rest = refl
    go false false rest = rest

html_taken : (opened number : ℕ) (source so_far : List ℕ) (lines : List (List ℕ))
    → examples_from (InHtml opened source so_far) number lines ≡ after_html opened source (part_from closing_line so_far number lines)
html_taken opened number source so_far [] = refl
html_taken opened number source so_far (line ∷ lines) =
    go (bytes_eq line closing_line) (html_taken opened (number + 1) source (so_far ++ example_line line) lines)
  where
    more : found
    more = examples_from (InHtml opened source (so_far ++ example_line line)) (number + 1) lines

    part : Option Part
    part = part_from closing_line (so_far ++ example_line line) (number + 1) lines

    here : Option Part
    here = Some (record { text = so_far; number = number + 1; beyond = lines })

    done : found
    done = put_example (record { source = source; html = so_far }) (examples_from Outside (number + 1) lines)

    go : (is_closing : Bool) → more ≡ after_html opened source part
        → elim is_closing as (λ _. found) [ true ↦ done | false ↦ more ]
        ≡ after_html opened source (elim is_closing as (λ _. Option Part) [ true ↦ here | false ↦ elim is_closing as (λ _. Option Part) [ true ↦ None | false ↦ part ] ])
    go true rest = refl
    go false rest = rest

module _ {T : Type 0} (f : T → Part) (o : Option T) (opened number : ℕ) (lines : List (List ℕ)) where
  pub no_source : option_map f o ≡ part_from middle_line [] number lines → o ≡ None → examples_from (InSource opened []) number lines ≡ Err opened
  no_source is none = source_taken opened number [] lines ∙ ap (after_source opened) (sym is ∙ ap (option_map f) none)

  pub with_source : (t : T) → option_map f o ≡ part_from middle_line [] number lines → o ≡ Some t
      → examples_from (InSource opened []) number lines ≡ examples_from (InHtml opened (f t).text []) (f t).number (f t).beyond
  with_source t is some = source_taken opened number [] lines ∙ ap (after_source opened) (sym is ∙ ap (option_map f) some)

  pub no_html : (source : List ℕ) → option_map f o ≡ part_from closing_line [] number lines → o ≡ None → examples_from (InHtml opened source []) number lines ≡ Err opened
  no_html source is none = html_taken opened number source [] lines ∙ ap (after_html opened source) (sym is ∙ ap (option_map f) none)

  pub with_html : (t : T) (source : List ℕ) → option_map f o ≡ part_from closing_line [] number lines → o ≡ Some t
      → examples_from (InHtml opened source []) number lines
      ≡ put_example (record { source = source; html = (f t).text }) (examples_from Outside (f t).number (f t).beyond)
  with_html t source is some = html_taken opened number source [] lines ∙ ap (after_html opened source) (sym is ∙ ap (option_map f) some)

-- what is left of a text after a character is a text
pub rest_utf8 : (rest beyond : List ℕ) (c : ℕ) → IsUtf8 rest → rest ≡ encode c ++ beyond → IsUtf8 beyond
rest_utf8 rest beyond c u is = go u.0 u.1.0 (sym is ∙ sym u.1.1)
  where
    go : (cs : List ℕ) → scalars cs ≡ true → encode c ++ beyond ≡ encodes cs → IsUtf8 beyond
    go [] all same = absurd (omega (arith, ap length same, length-append (encode c) beyond, length-encode c, (len_utf8_bounds c).0))
    go (d ∷ ds) all same = (ds, ((and_parts _ _ all).1, sym (encode_same c d beyond (encodes ds) same).1))

-- one character of a line
pub char_put : (made rest beyond whole : List ℕ) (c put : ℕ) → IsUtf8 rest → rest ≡ encode c ++ beyond → put ≡ tab_for_arrow c
    → made ++ example_line rest ≡ whole → (made ++ encode put) ++ example_line beyond ≡ whole
char_put made rest beyond whole c put utf8 is put_is so_far =
    append_assoc made (encode put) (example_line beyond)
    ∙ ap (λ t. made ++ t) (ap (λ p. encode p ++ example_line beyond) put_is ∙ sym (append_assoc (encode (tab_for_arrow c)) (encodes (map tab_for_arrow (chars beyond))) (10 ∷ []))
    ∙ ap (λ cs. encodes (map tab_for_arrow cs) ++ 10 ∷ []) (sym (chars_past_char rest beyond c utf8 is)))
    ∙ so_far

pub is_arrow : (c : ℕ) → c ≡ 0x2192 → 9 ≡ tab_for_arrow c
is_arrow c is = subst (λ x. 9 ≡ tab_for_arrow x) (sym is) refl

pub no_arrow : (c : ℕ) → (c ≡ 0x2192 → ⊥) → c ≡ tab_for_arrow c
no_arrow c other = ap (λ b. cond b 9 c) (sym (ne_eqb c 0x2192 other))

-- its end
pub line_put : (made rest whole : List ℕ) → length rest ≡ 0 → made ++ example_line rest ≡ whole → made ++ 10 ∷ [] ≡ whole
line_put made [] whole none so_far =
    ap (λ cs. made ++ (encodes (map tab_for_arrow cs) ++ 10 ∷ [])) (chars_from_encodes [] [] IsUtf8-nil refl) ∙ so_far
line_put made (b ∷ rest) whole none so_far = absurd (omega (arith, none))

pub if_put : {E : Type 0} (r : Result (Unit {0}) E) (old new put whole : List ℕ) → new ≡ cond (is_ok r) (old ++ put) old → old ++ put ≡ whole → OnOk r (new ≡ whole)
if_put (Ok x) old new put whole is done = is ∙ done
if_put (Err e) old new put whole is done = tt

-- ---- reports

-- the results of the given number of these examples
pub record SoFar (rules : Rules) (examples : List code.Example) (agree : ℕ) (differ : List Difference) (at : ℕ) : Type 0 where
  pub bound : agree ≤ at
  pub agreed : agree + count_by (agrees rules) (map example_of (drop at examples)) ≡ count_by (agrees rules) (map example_of examples)
  pub sound : first_fault rules (map example_of (drop at examples)) ≡ first_fault rules (map example_of examples)
  pub differed : map difference_of differ ++ differences_from rules (at + 1) (map example_of (drop at examples)) ≡ differences_from rules 1 (map example_of examples)

module _ (rules : Rules) (examples : List code.Example) (agree : ℕ) (differ : List Difference) (at : ℕ) (e : code.Example)
    (next : drop at examples ≡ e ∷ drop (at + 1) examples) (so_far : SoFar rules examples agree differ at) where
  abbrev beyond : List Example
  beyond = map example_of (drop (at + 1) examples)

  sound_next : fault_of (standard_limits rules) (string_bytes e.source) ≡ None → first_fault rules beyond ≡ first_fault rules (map example_of examples)
  sound_next none =
      ap (λ o. option_or o (first_fault rules beyond)) (sym none) ∙ ap (λ xs. first_fault rules (map example_of xs)) (sym next) ∙ so_far.sound

  counted : (b : Bool) → agrees rules (example_of e) ≡ b
      → agree + (cond b 1 0 + count_by (agrees rules) beyond) ≡ count_by (agrees rules) (map example_of examples)
  counted b is =
      ap (λ v. agree + (cond v 1 0 + count_by (agrees rules) beyond)) (sym is)
      ∙ ap (λ n. agree + n) (sym (sum_by-cons (λ x. cond (agrees rules x) 1 0) (example_of e) beyond))
      ∙ ap (λ xs. agree + count_by (agrees rules) (map example_of xs)) (sym next) ∙ so_far.agreed

  abbrev pub told : DifferenceView
  told = record { number = at + 1; expected = string_bytes e.html; got = converted rules (string_bytes e.source) }

  listed : (b : Bool) → agrees rules (example_of e) ≡ b
      → map difference_of differ ++ (cond b [] (told ∷ []) ++ differences_from rules (at + 1 + 1) beyond) ≡ differences_from rules 1 (map example_of examples)
  listed b is =
      ap (λ v. map difference_of differ ++ (cond v [] (told ∷ []) ++ differences_from rules (at + 1 + 1) beyond)) (sym is)
      ∙ ap (λ xs. map difference_of differ ++ differences_from rules (at + 1) (map example_of xs)) (sym next) ∙ so_far.differed

  -- one more agrees
  pub one_agrees : fault_of (standard_limits rules) (string_bytes e.source) ≡ None → agrees rules (example_of e) ≡ true
      → SoFar rules examples (agree + 1) differ (at + 1)
  one_agrees none is = record {
    bound = omega (arith, so_far.bound);
    agreed = omega (arith, counted true is);
    sound = sound_next none;
    differed = listed true is;
  }

  -- one more differs
  pub one_differs : (more : List Difference) → fault_of (standard_limits rules) (string_bytes e.source) ≡ None → agrees rules (example_of e) ≡ false
      → map difference_of more ≡ map difference_of differ ++ told ∷ [] → SoFar rules examples agree more (at + 1)
  one_differs more none is more_are = record {
    bound = omega (arith, so_far.bound);
    agreed = omega (arith, counted false is);
    sound = sound_next none;
    differed = ap (λ t. t ++ differences_from rules (at + 1 + 1) beyond) more_are
        ∙ append_assoc (map difference_of differ) (told ∷ []) (differences_from rules (at + 1 + 1) beyond) ∙ listed false is;
  }

  -- one has a fault
  pub one_fault : (fault : Fault) → TellsFault fault (fault_of (standard_limits rules) (string_bytes e.source)) → TellsFault fault (first_fault rules (map example_of examples))
  one_fault fault h = tells_other (fault_of (standard_limits rules) (string_bytes e.source)) (first_fault rules (map example_of examples)) first fault h
    where
      first : (fault : Fault) → fault_of (standard_limits rules) (string_bytes e.source) ≡ Some fault → first_fault rules (map example_of examples) ≡ Some fault
      first fault is =
          sym so_far.sound ∙ ap (λ xs. first_fault rules (map example_of xs)) next ∙ ap (λ o. option_or o (first_fault rules beyond)) is

-- the element at a place, and what is after it
pub drop_at : {X : Type 0} (xs : List X) (k : ℕ) (d : X) → k < length xs → d ≡ get_or xs k d → drop k xs ≡ d ∷ drop (k + 1) xs
drop_at {X = X} xs k d within is = rw add-one (go xs k within) ∙ ap (λ x. x ∷ drop (k + 1) xs) (sym is)
  where
    go : (ys : List X) (n : ℕ) → n < length ys → drop n ys ≡ get_or ys n d ∷ drop (suc n) ys
    go [] n within = absurd (omega (arith, within))
    go (y ∷ ys) zero within = refl
    go (y ∷ ys) (suc n) within = go ys n (omega (arith, within))

-- the standard limits with other rules
pub standard_is : (standard limits : LimitsView) (rules : Rules) → Some standard ≡ limits_for (2 ^ 28) 100 100 → limits ≡ record standard { rules = rules }
    → limits ≡ standard_limits rules
standard_is standard limits rules is made = made ∙ ap (λ (o : Option LimitsView). record (unwrap_or o standard) { rules = rules }) is

-- what was rendered is the source of the example, under these limits
module _ (limits : LimitsView) (rules : Rules) (text source : List ℕ) (same : limits ≡ standard_limits rules) (is : text ≡ source) where
  pub told_of_source : (fault : Fault) → TellsFault fault (fault_of limits text) → TellsFault fault (fault_of (standard_limits rules) source)
  told_of_source fault h = subst (λ t. TellsFault fault (fault_of (standard_limits rules) t)) is (subst (λ l. TellsFault fault (fault_of l text)) same h)

  pub sound_source : fault_of limits text ≡ None → fault_of (standard_limits rules) source ≡ None
  sound_source h = subst (λ t. fault_of (standard_limits rules) t ≡ None) is (subst (λ l. fault_of l text ≡ None) same h)

  pub html_of_source : (got : List ℕ) → got ≡ converted limits.rules text → got ≡ converted rules source
  html_of_source got h = subst (λ t. got ≡ converted rules t) is (subst (λ (l : LimitsView). got ≡ converted l.rules text) same h)

-- how it compares
pub compared : (rules : Rules) (e : code.Example) (got html : List ℕ) (same b : Bool) → got ≡ converted rules (string_bytes e.source) → html ≡ string_bytes e.html
    → same ≡ bytes_eq got html → same ≡ b → agrees rules (example_of e) ≡ b
compared rules e got html same b got_is html_is is which = ap₂ bytes_eq (sym got_is) (sym html_is) ∙ sym is ∙ which

-- a fault of a source
pub source_told : (rules : Rules) (text : List ℕ) (examples : List Example) (fault : Fault) → examples_of text ≡ Ok examples
    → TellsFault fault (first_fault rules examples) → Examines (Err fault) rules text
source_told rules text examples fault found h = by_fault fault h
  where
    told_as : (fault : Fault) → first_fault rules examples ≡ Some fault → Err fault ≡ report_on rules text
    told_as fault is = sym (ap (reported rules) found ∙ ap (λ o. sound_report o rules examples) is)

    by_fault : (fault : Fault) → TellsFault fault (first_fault rules examples) → Examines (Err fault) rules text
    by_fault (NotUtf8 at) h = told_as (NotUtf8 at) h
    by_fault (TooLong at) h = told_as (TooLong at) h
    by_fault (BlocksTooDeep line) h = told_as (BlocksTooDeep line) h
    by_fault (InlinesTooDeep leaf) h = told_as (InlinesTooDeep leaf) h
    by_fault NoMemory h = tt
    by_fault ReadFailed h = absurd h
    by_fault (WriteFailed written) h = absurd h
    by_fault (Unspellable why) h = absurd h
    by_fault (BadExampleFile line) h = absurd h
    by_fault (ExampleDiffers number) h = absurd h

-- all have been compared
module _ (rules : Rules) (text : List ℕ) (examples : List code.Example) (report : Report) (at : ℕ) (found : examples_of text ≡ Ok (map example_of examples))
    (none : drop at examples ≡ []) (so_far : SoFar rules examples report.agree report.differ.items at) where
  abbrev all : List Example
  all = map example_of examples

  all_sound : first_fault rules all ≡ None
  all_sound = sym so_far.sound ∙ ap (λ xs. first_fault rules (map example_of xs)) none

  all_agree : report.agree ≡ count_by (agrees rules) all
  all_agree = omega (arith, so_far.agreed, ap (λ xs. count_by (agrees rules) (map example_of xs)) none)

  all_differ : map difference_of report.differ.items ≡ differences_from rules 1 all
  all_differ =
      sym (append-nil (map difference_of report.differ.items))
      ∙ ap (λ xs. map difference_of report.differ.items ++ differences_from rules (at + 1) (map example_of xs)) (sym none) ∙ so_far.differed

  pub all_compared : report.total ≡ length examples → Examines (Ok report) rules text
  all_compared total =
      ap₂ (λ agree differ. Ok (record { total = report.total; agree = agree; differ = differ })) all_agree all_differ
      ∙ ap (λ n. Ok (record { total = n; agree = count_by (agrees rules) all; differ = differences_from rules 1 all })) (total ∙ sym (length-map examples example_of))
      ∙ sym (ap (reported rules) found ∙ ap (λ o. sound_report o rules all) all_sound)
