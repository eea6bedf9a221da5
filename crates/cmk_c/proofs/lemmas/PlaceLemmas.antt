-- The line of a fault is no further than the text is long, so its place has 64 bits.
use Rattle.std.proofs.Common.{◌≡◌, ◌∙◌, ◌≤◌, ◌<◌, ◌^◌, ◌==◌, ℕ, suc, Bool, true, false, List, [], ◌∷◌, ◌++◌, length, take, Option, Some, None, refl, sym, ap, subst, arith}
use Rattle.std.specs.Prelude.{Err, IfErr, IfSome, Ok, Result, Vec, nat_lt, if◌then◌else◌, option_map, unwrap_or}
use Rattle.std.specs.declared.alloc.Global.{Global}
use Rattle.std.specs.List.{position}
use Rattle.std.specs.Option.{option_or}
use Rattle.std.specs.Str.Lossy.{replacement_bytes}
use Rattle.std.proofs.lemmas.List.{length-map, length-take}
use Rattle.std.proofs.lemmas.List.Quantifiers.{position-Some}
use Rattle.cm_text.specs.declared.fault.TextFault.{TextFault}
use Rattle.cm_text.specs.Rules.{Rules, profile}
use Rattle.cm_text.specs.Limits.{LimitsView, in_range}
use Rattle.cm_text.specs.Lines.{LineView, but_last, ended_lines_of, ends_a_line, last_line, lines_after, lines_of, plain_line, plain_lines_of, text_of}
use Rattle.cm_text.specs.Faults.{text_fault, valid_len}
use Rattle.cm_text.proofs.lemmas.FeedLemmas.{within_limit}
use Rattle.cm_scan.specs.blocks.Blocks.{first_too_deep}
use Rattle.cm_scan.specs.laws.PartLaws.{AreLines}
use Rattle.cm_block.specs.Depths.{line_depths}
use Rattle.cm_block.specs.Stack.{Stack, empty_stack, push_line}
use Rattle.cm_block.proofs.lemmas.Depths.{too_deep_at_once}
use Rattle.cm_source.specs.Refusals.{refusal_of}
use Rattle.cm_source.specs.declared.why.Why.{Why}
use Rattle.cm_tool.specs.declared.fault.Fault.{Fault}
use Rattle.cm_tool.specs.declared.fault.Fault.TheVariants.{NotUtf8, TooLong, BlocksTooDeep, InlinesTooDeep, NoMemory, ReadFailed, WriteFailed, Unspellable, BadExampleFile, ExampleDiffers}
use Rattle.cm_tool.specs.ToldFaults.{told}
use Rattle.cm_tool.specs.Faults.{fault_by, fault_of, sound_front}
use Rattle.cm_tool.specs.Rewriting.{kept_tree}
use Rattle.cm_tool.proofs.lemmas.EndedLemmas.{all_are_lines, front_are_lines}
use Rattle.cm_tool.proofs.lemmas.SettledLemmas.{sound_text}
use Rattle.cmk_c.specs.Calls.{Gives, limits_asked, or_standard, rewriting_fault, rules_asked, with_rules}
use Rattle.cmk_c.specs.declared.options.Options.{Options}
use Rattle.cmk_c.specs.steps.Places.{HasPlace}

-- how many lines a text has

last_alone : (line : List ℕ) → length (last_line line) ≤ 1
last_alone [] = omega arith
last_alone (b ∷ bs) = omega arith

-- one more byte ends one line at most
module _ (bytes : List ℕ) (few : (after_return : Bool) (line : List ℕ) → length (lines_after after_return line (text_of bytes)) ≤ suc (length bytes)) where
  one_more : (after_return : Bool) (line : List ℕ) (b : ℕ) → length (lines_after after_return line (text_of (b ∷ bytes))) ≤ suc (suc (length bytes))
  one_more after_return line b = by_nul (b == 0)
    where
      by_ending : (feed return after : Bool) → length {A = List ℕ} (elim feed [
        | true ↦ elim after [ true ↦ lines_after false line (text_of bytes) | false ↦ line ∷ lines_after false [] (text_of bytes) ]
        | false ↦ elim return [ true ↦ line ∷ lines_after true [] (text_of bytes) | false ↦ lines_after false (line ++ b ∷ []) (text_of bytes) ]
      ]) ≤ suc (suc (length bytes))
      by_ending true return true = let less = few false line in omega (arith, less)
      by_ending true return false = let less = few false [] in omega (arith, less)
      by_ending false true after = let less = few true [] in omega (arith, less)
      by_ending false false after = let less = few false (line ++ b ∷ []) in omega (arith, less)

      by_nul : (nul : Bool) → length (lines_after after_return line ((if nul then replacement_bytes else b ∷ []) ++ text_of bytes)) ≤ suc (suc (length bytes))
      by_nul true = let less = few false (line ++ 239 ∷ [] ++ 191 ∷ [] ++ 189 ∷ []) in omega (arith, less)
      by_nul false = by_ending (b == 10) (b == 13) after_return

lines_few : (after_return : Bool) (line bytes : List ℕ) → length (lines_after after_return line (text_of bytes)) ≤ suc (length bytes)
lines_few after_return line [] = last_alone line
lines_few after_return line (b ∷ bytes) = one_more bytes (λ after l. lines_few after l bytes) after_return line b

plain_few : (bytes : List ℕ) → length (plain_lines_of (text_of bytes)) ≤ suc (length bytes)
plain_few bytes = subst (λ n. n ≤ suc (length bytes)) (sym (length-map (lines_of (text_of bytes)) plain_line)) (lines_few false [] bytes)

but_last_fewer : (lines : List LineView) → length (but_last lines) ≤ length lines
but_last_fewer [] = omega arith
but_last_fewer (line ∷ []) = omega arith
but_last_fewer (line ∷ next ∷ lines) = let fewer = but_last_fewer (next ∷ lines) in omega (arith, fewer)

but_last_front : (lines : List LineView) → (rest : List LineView) × (lines ≡ but_last lines ++ rest)
but_last_front [] = ([], refl)
but_last_front (line ∷ []) = (line ∷ [], refl)
but_last_front (line ∷ next ∷ lines) = let front = but_last_front (next ∷ lines) in (front.0, ap (λ ls. line ∷ ls) front.1)

-- the first line too deep is one of them

depths_counted : (rules : Rules) (stack : Stack) (lines : List LineView) → length (line_depths rules stack lines) ≡ length lines
unfolding line_depths
depths_counted rules stack [] = refl
depths_counted rules stack (line ∷ lines) = ap suc (depths_counted rules (push_line rules stack line) lines)

none-some : (n : ℕ) (place : Option ℕ) → place ≡ None → place ≡ Some n → ⊥
none-some n place none some = cc

deep_within : (rules : Rules) (limit n : ℕ) (lines : List LineView) → AreLines lines → first_too_deep rules limit lines ≡ Some n → n ≤ length lines
deep_within rules limit n lines are e = by (position (λ depth. nat_lt limit depth) depths) refl
  where
    depths : List ℕ
    depths = line_depths rules empty_stack lines

    found : option_map suc (position (λ depth. nat_lt limit depth) depths) ≡ Some n
    found = sym (too_deep_at_once rules limit lines are) ∙ e

    by : (place : Option ℕ) → position (λ depth. nat_lt limit depth) depths ≡ place → n ≤ length lines
    by None is = absurd (none-some n _ (ap (option_map suc) is) found)
    by (Some i) is =
        let within : i < length depths = (position-Some (λ depth. nat_lt limit depth) depths i 0 is).0 in
        let same : suc i ≡ n = ap (λ (o : Option ℕ). unwrap_or o 0) (sym (ap (option_map suc) is) ∙ found) in
        let counted : length depths ≡ length lines = depths_counted rules empty_stack lines in
        omega (arith, within, same, counted)

-- so it is of a text within a limit

all_within : (limits : LimitsView) (bytes : List ℕ) (n : ℕ) → first_too_deep limits.rules limits.blocks (plain_lines_of (text_of bytes)) ≡ Some n → n ≤ suc (length bytes)
all_within limits bytes n e =
    let deep = deep_within limits.rules limits.blocks n (plain_lines_of (text_of bytes)) (all_are_lines (text_of bytes)) e in
    let few = plain_few bytes in
    omega (arith, deep, few)

ended_within : (limits : LimitsView) (bytes : List ℕ) (n : ℕ) → first_too_deep limits.rules limits.blocks (ended_lines_of (text_of bytes)) ≡ Some n → n ≤ suc (length bytes)
ended_within limits bytes n = by (ends_a_line (text_of bytes))
  where
    lines : List LineView
    lines = plain_lines_of (text_of bytes)

    by : (ends : Bool) → first_too_deep limits.rules limits.blocks (if ends then lines else but_last lines) ≡ Some n → n ≤ suc (length bytes)
    by true e = all_within limits bytes n e
    by false e =
        let front = but_last_front lines in
        let deep = deep_within limits.rules limits.blocks n (but_last lines)
        (front_are_lines (but_last lines) front.0 (subst AreLines front.1 (all_are_lines (text_of bytes)))) e in
        let fewer = but_last_fewer lines in
        let few = plain_few bytes in
        omega (arith, deep, fewer, few)

abbrev line_of : Option Fault → Option ℕ
line_of (Some (BlocksTooDeep line)) = Some line
line_of fault = None

of_lines : (found : Option ℕ) (line : ℕ) → option_map BlocksTooDeep found ≡ Some (BlocksTooDeep line) → found ≡ Some line
of_lines None line e = cc
of_lines (Some n) line e = ap line_of e

of_text : (found : Option ℕ) (wrong : TextFault) (line : ℕ) → option_or (option_map BlocksTooDeep found) (Some (told wrong)) ≡ Some (BlocksTooDeep line) → found ≡ Some line
of_text (Some n) wrong line e = ap line_of e
of_text None wrong line e = absurd (not_deep wrong e)
  where
    not_deep : (wrong : TextFault) → Some (told wrong) ≡ Some (BlocksTooDeep line) → ⊥
    not_deep (TextFault.NotUtf8 at) e = cc
    not_deep (TextFault.TooLong at) e = cc
    not_deep TextFault.NoMemory e = cc

of_leaf : (found leaf : Option ℕ) (line : ℕ) → option_or (option_map BlocksTooDeep found) (option_map InlinesTooDeep leaf) ≡ Some (BlocksTooDeep line) → found ≡ Some line
of_leaf (Some n) leaf line e = ap line_of e
of_leaf None None line e = cc
of_leaf None (Some n) line e = cc

line_within : (limits : LimitsView) (text : List ℕ) (line : ℕ) → fault_of limits text ≡ Some (BlocksTooDeep line) → line ≤ suc limits.bytes
line_within limits text line = by (text_fault limits.bytes text) refl
  where
    front : List ℕ
    front = sound_front limits.bytes text

    short : length front ≤ limits.bytes
    short =
        let outer = length-take (valid_len limits.bytes text) (take limits.bytes text) in
        let inner = length-take limits.bytes text in
        omega (arith, outer, inner)

    by : (wrong : Option TextFault) → text_fault limits.bytes text ≡ wrong → fault_by wrong limits text ≡ Some (BlocksTooDeep line) → line ≤ suc limits.bytes
    by (Some fault) is e =
        let within = ended_within limits front line (of_text _ fault line e) in
        omega (arith, within, short)
    by None is e =
        let within = all_within limits text line (of_leaf _ _ line e) in
        let whole = within_limit limits.bytes text (sound_text limits.bytes text is).0 in
        omega (arith, within, whole)

-- a fault that is given has a place

pub no_memory_has_place : (result : Result (Vec ℕ Global) Fault) → IfErr result (λ f. f ≡ NoMemory) → IfErr result HasPlace
no_memory_has_place (Ok v) memory = tt
no_memory_has_place (Err f) memory = subst HasPlace (sym memory) tt

few_bytes : (limits : LimitsView) → in_range limits.bytes limits.blocks limits.inlines ≡ true → limits.bytes ≤ 2 ^ 30
few_bytes limits range = grind (arith, range)

-- the limits that are asked for have few bytes
pub asked_few : (options : Options) → IfSome (limits_asked options) (λ limits. limits.bytes ≤ 2 ^ 30)
asked_few options = by (in_range bytes blocks inlines) refl
  where
    bytes : ℕ
    bytes = or_standard options.bytes (2 ^ 28)

    blocks : ℕ
    blocks = or_standard options.blocks 100

    inlines : ℕ
    inlines = or_standard options.inlines 100

    asked : Bool → Option LimitsView
    asked fit = option_map (with_rules (rules_asked options))
        (if fit then Some (record { bytes = bytes; blocks = blocks; inlines = inlines; rules = profile }) else None)

    by : (fit : Bool) → in_range bytes blocks inlines ≡ fit → IfSome (asked fit) (λ limits. limits.bytes ≤ 2 ^ 30)
    by true is = few_bytes (record { bytes = bytes; blocks = blocks; inlines = inlines; rules = profile }) is
    by false is = tt

module _ (limits : LimitsView) (text : List ℕ) (small : limits.bytes ≤ 2 ^ 30) where
  pub told_has_place : (fault : Fault) (output : List ℕ) → Gives (fault_of limits text) output (Err fault) → HasPlace fault
  told_has_place (BlocksTooDeep line) output gives = let within = line_within limits text line gives in omega (arith, within, small)
  told_has_place (NotUtf8 at) output gives = tt
  told_has_place (TooLong at) output gives = tt
  told_has_place (InlinesTooDeep leaf) output gives = tt
  told_has_place NoMemory output gives = tt
  told_has_place ReadFailed output gives = tt
  told_has_place (WriteFailed written) output gives = tt
  told_has_place (Unspellable why) output gives = tt
  told_has_place (BadExampleFile line) output gives = tt
  told_has_place (ExampleDiffers number) output gives = tt

  not_unspellable : (found : Option Fault) (why : Option Why) (line : ℕ) → option_or found (option_map Unspellable why) ≡ Some (BlocksTooDeep line) → found ≡ Some (BlocksTooDeep line)
  not_unspellable (Some fault) why line e = e
  not_unspellable None None line e = cc
  not_unspellable None (Some why) line e = cc

  pub unrewritten_has_place : (fault : Fault) (output : List ℕ) → Gives (rewriting_fault limits text) output (Err fault) → HasPlace fault
  unrewritten_has_place (BlocksTooDeep line) output gives =
      told_has_place (BlocksTooDeep line) output (not_unspellable (fault_of limits text) (refusal_of limits.rules (kept_tree limits.rules text)) line gives)
  unrewritten_has_place (NotUtf8 at) output gives = tt
  unrewritten_has_place (TooLong at) output gives = tt
  unrewritten_has_place (InlinesTooDeep leaf) output gives = tt
  unrewritten_has_place NoMemory output gives = tt
  unrewritten_has_place ReadFailed output gives = tt
  unrewritten_has_place (WriteFailed written) output gives = tt
  unrewritten_has_place (Unspellable why) output gives = tt
  unrewritten_has_place (BadExampleFile line) output gives = tt
  unrewritten_has_place (ExampleDiffers number) output gives = tt
