-- The bytes so far settle a fault of an input just where the parser's test says so.
use Rattle.std.proofs.Common.{◌≡◌, ℕ, zero, suc, ◌-◌, ◌+◌, ◌<◌, ◌≤◌, Bool, true, false, cond, List, [], ◌∷◌, ◌++◌, length, take, IsUtf8, Option, Some, None, is_some, nat_lt, refl, sym, ap, subst, ◌∙◌, arith, append-nil, length-append, take_all}
use Rattle.std.specs.Prelude.{⊤}
use Rattle.std.specs.Option.{option_map, option_or}
use Rattle.std.specs.Str.Lossy.{utf8_valid_len, utf8_error_len}
use Rattle.std.specs.Str.{is_utf8, chars}
use Rattle.std.proofs.lemmas.Bool.{ltb-false, ltb-true}
use Rattle.std.proofs.lemmas.List.{take-append-le}
use Rattle.std.proofs.lemmas.List.Elements.{All-nil, All-cons}
use Rattle.std.proofs.lemmas.Str.{utf8_valid_len_le}
use Rattle.std.proofs.Math.ListN.{drop_of_length-le}
use Rattle.cm_text.specs.declared.fault.TextFault.{TextFault}
use Rattle.cm_text.specs.declared.fault.TextFault.TheVariants as text
use Rattle.cm_text.specs.Limits.{LimitsView}
use Rattle.cm_text.specs.Lines.{LineView, text_of}
use Rattle.cm_text.specs.Cut.{Cut, cut_more, nothing_cut}
use Rattle.cm_text.specs.Faults.{left_of, valid_len, after_valid, settled_fault, text_fault}
use Rattle.cm_text.specs.Feed.{cut_valid, cut_bytes}
use Rattle.cm_text.specs.Settled.{AreBytes}
use Rattle.cm_text.proofs.lemmas.Utf8Lemmas.{valid_front-IsUtf8}
use Rattle.cm_text.proofs.lemmas.FeedLemmas.{settled_text, within_limit, valid_shift}
use Rattle.cm_text.proofs.lemmas.SettledLemmas.{settled_is_told as text_is_told}
use Rattle.cm_scan.specs.blocks.Blocks.{first_too_deep}
use Rattle.cm_scan.specs.laws.PartLaws.{AreLines}
use Rattle.cm_block.proofs.lemmas.Depths.{too_deep_stays}
use Rattle.cm_tool.specs.declared.fault.Fault.{Fault}
use Rattle.cm_tool.specs.declared.fault.Fault.TheVariants.{BlocksTooDeep, InlinesTooDeep}
use Rattle.cm_tool.specs.Parsing.{TellsFault}
use Rattle.cm_tool.specs.ToldFaults.{told}
use Rattle.cm_tool.specs.Faults.{SettledIsTold, fault_of, settled_fault_of}
use Rattle.cm_tool.proofs.lemmas.TellingLemmas.{tells_other}
use Rattle.cm_tool.specs.FaultOrder.{of_two, of_four, fault_met, settled_fault_met, ended_deep, all_deep, leaf_deep}
use Rattle.cm_tool.proofs.lemmas.OrderLemmas.{faults_in_order}
use Rattle.cm_tool.proofs.lemmas.EndedLemmas.{wider, cut_on, ended_stay, ended_are_lines}
use lib.Utf8.{encode}

-- the fault of a line or of a leaf is no fault of a text
abbrev IsOfText : Fault → Type 0
IsOfText (BlocksTooDeep line) = ⊥
IsOfText (InlinesTooDeep leaf) = ⊥
IsOfText _ = ⊤

told_of_text : (f : TextFault) → IsOfText (told f)
told_of_text (text.NotUtf8 at) = tt
told_of_text (text.TooLong at) = tt
told_of_text text.NoMemory = tt

some_same : {A : Type 0} {x y : A} → Some x ≡ Some y → x ≡ y
some_same e = cc

not_of_text : (all leaf : Option ℕ) (f : TextFault) → of_two all leaf ≡ Some (told f) → ⊥
not_of_text (Some n) leaf f e = subst IsOfText (sym (some_same e)) (told_of_text f)
not_of_text None (Some n) f e = subst IsOfText (sym (some_same e)) (told_of_text f)
not_of_text None None f e = cc

told_same : (f g : TextFault) → told f ≡ told g → f ≡ g
told_same (text.NotUtf8 at) (text.NotUtf8 to) e = cc
told_same (text.NotUtf8 at) (text.TooLong to) e = cc
told_same (text.NotUtf8 at) text.NoMemory e = cc
told_same (text.TooLong at) (text.NotUtf8 to) e = cc
told_same (text.TooLong at) (text.TooLong to) e = cc
told_same (text.TooLong at) text.NoMemory e = cc
told_same text.NoMemory (text.NotUtf8 to) e = cc
told_same text.NoMemory (text.TooLong to) e = cc
told_same text.NoMemory text.NoMemory e = refl

-- a fault of the text comes from the text
from_text : (ended : Option ℕ) (wrong : Option TextFault) (all leaf : Option ℕ) (f : TextFault) → of_four ended wrong all leaf ≡ Some (told f) → wrong ≡ Some f
from_text (Some n) wrong all leaf f e = absurd (subst IsOfText (sym (some_same e)) (told_of_text f))
from_text None (Some g) all leaf f e = ap Some (told_same g f (some_same e))
from_text None None all leaf f e = absurd (not_of_text all leaf f e)

-- where the bytes aren't UTF-8, the fault is at the end of the longest well-formed prefix
not_utf8_at : (limit : ℕ) (bytes : List ℕ) (at : ℕ) → text_fault limit bytes ≡ Some (text.NotUtf8 at) → at ≡ valid_len limit bytes
not_utf8_at limit bytes at e = by_tests (is_some (utf8_error_len (after_valid limit bytes))) (nat_lt limit (length bytes)) (nat_lt (valid_len limit bytes) (length bytes)) (valid_len limit bytes) e
  where
    by_tests : (wrong past short : Bool) (n : ℕ)
        → (let settled = cond wrong (Some (text.NotUtf8 n)) (cond past (Some (text.TooLong limit)) None) in
        cond (is_some settled) settled (cond short (Some (text.NotUtf8 n)) None)) ≡ Some (text.NotUtf8 at) → at ≡ n
    by_tests true past short n e = cc
    by_tests false true short n e = cc
    by_tests false false true n e = cc
    by_tests false false false n e = cc

-- where they are too long, there is a byte past the limit
too_long_past : (limit : ℕ) (bytes : List ℕ) (at : ℕ) → settled_fault limit bytes ≡ Some (text.TooLong at) → limit < length bytes
too_long_past limit bytes at e = ltb-true limit (length bytes) (by_tests (is_some (utf8_error_len (after_valid limit bytes))) (nat_lt limit (length bytes)) (valid_len limit bytes) e)
  where
    by_tests : (wrong past : Bool) (n : ℕ) → cond wrong (Some (text.NotUtf8 n)) (cond past (Some (text.TooLong limit)) None) ≡ Some (text.TooLong at) → past ≡ true
    by_tests true past n e = cc
    by_tests false true n e = refl
    by_tests false false n e = cc

-- lack of memory is no fault of bytes
never_memory : (limit : ℕ) (bytes : List ℕ) → settled_fault limit bytes ≡ Some text.NoMemory → ⊥
never_memory limit bytes e = by_tests (is_some (utf8_error_len (after_valid limit bytes))) (nat_lt limit (length bytes)) (valid_len limit bytes) e
  where
    by_tests : (wrong past : Bool) (n : ℕ) → cond wrong (Some (text.NotUtf8 n)) (cond past (Some (text.TooLong limit)) None) ≡ Some text.NoMemory → ⊥
    by_tests true past n e = cc
    by_tests false true n e = cc
    by_tests false false n e = cc

-- after a fault that is settled no line ends
same_cut : (limit : ℕ) (bytes more : List ℕ) (f : TextFault) → AreBytes more → settled_fault limit bytes ≡ Some f
    → cut_bytes limit (bytes ++ more) ≡ cut_bytes limit bytes
same_cut limit bytes more (text.NotUtf8 at) are e =
    let window = take limit bytes in
    let here = not_utf8_at limit bytes at (settled_text limit bytes (text.NotUtf8 at) e) in
    let there = not_utf8_at limit (bytes ++ more) at ((text_is_told limit bytes (text.NotUtf8 at)).0 e more are) in
    ap (λ t. cut_more nothing_cut (text_of t)) (ap (λ n. take n (take limit (bytes ++ more))) (sym there ∙ here) ∙ ap (take (valid_len limit bytes)) (wider limit bytes more)
    ∙ take-append-le (valid_len limit bytes) window (take (limit - length bytes) more) (utf8_valid_len_le window))
same_cut limit bytes more (text.TooLong at) are e =
    let past = too_long_past limit bytes at e in
    ap (cut_valid nothing_cut) (take-append-le limit bytes more (omega arith))
same_cut limit bytes more text.NoMemory are e = absurd (never_memory limit bytes e)

-- without a fault of the text, all bytes are within the limit and UTF-8
pub sound_text : (limit : ℕ) (bytes : List ℕ) → text_fault limit bytes ≡ None → (settled_fault limit bytes ≡ None) × (length bytes ≤ valid_len limit bytes)
sound_text limit bytes sound =
    let two = none_of_two (settled_fault limit bytes) _ _ sound in
    (two.0, ltb-false _ _ two.1)
  where
    none_of_two : (o : Option TextFault) (t : Bool) (at : TextFault) → cond (is_some o) o (cond t (Some at) None) ≡ None → (o ≡ None) × (t ≡ false)
    none_of_two None false at h = (refl, refl)
    none_of_two None true at h = cc
    none_of_two (Some f) t at h = cc

-- no text starts with the byte 255
none_valid : (n : ℕ) → utf8_valid_len (take n (255 ∷ [])) ≡ 0
unfolding utf8_valid_len is_utf8 chars encode
none_valid zero = refl
none_valid (suc zero) = refl
none_valid (suc (suc n)) = refl

-- after a text that byte ends no line and is wrong
no_line_ends : (limit : ℕ) (bytes : List ℕ) → text_fault limit bytes ≡ None
    → (cut_bytes limit (bytes ++ 255 ∷ []) ≡ cut_bytes limit bytes) × (text_fault limit (bytes ++ 255 ∷ []) ≡ None → ⊥)
no_line_ends limit bytes sound =
    let parts = sound_text limit bytes sound in
    let whole : take limit bytes ≡ bytes = take_all limit bytes (within_limit limit bytes parts.0) in
    let all : length bytes ≤ utf8_valid_len bytes = subst (λ w. length bytes ≤ utf8_valid_len w) whole parts.1 in
    let u : IsUtf8 bytes = subst IsUtf8 (take_all (utf8_valid_len bytes) bytes all) (valid_front-IsUtf8 bytes) in
    let rest : List ℕ = take (limit - length bytes) (255 ∷ []) in
    let none : utf8_valid_len rest ≡ 0 = none_valid (limit - length bytes) in
    let left : after_valid limit bytes ≡ [] = ap left_of whole ∙ drop_of_length-le bytes all in
    let long : valid_len limit (bytes ++ 255 ∷ []) ≡ length bytes + 0 =
    ap utf8_valid_len (wider limit bytes (255 ∷ []) ∙ ap (λ w. w ++ rest) whole) ∙ valid_shift bytes rest u ∙ ap (λ n. length bytes + n) none in (
      cut_on limit bytes (255 ∷ []) ∙ ap (λ t. cut_valid (cut_bytes limit bytes) (t ++ rest)) left ∙ ap (λ n. cut_more (cut_bytes limit bytes) (text_of (take n rest))) none,
      too_short (length bytes) (length (bytes ++ 255 ∷ [])) (valid_len limit (bytes ++ 255 ∷ [])) (length-append bytes (255 ∷ [])) long (λ still. (sound_text limit (bytes ++ 255 ∷ []) still).1),
    )
  where
    too_short : {P : Type 0} (n all valid : ℕ) → all ≡ n + 1 → valid ≡ n + 0 → (P → all ≤ valid) → P → ⊥
    too_short n all valid e f fits p = omega (arith, e, f, fits p)

module _ (limits : LimitsView) where
  -- every input that starts with the bytes has the fault
  abbrev SettlesMet : List ℕ → Fault → Type 0
  SettlesMet bytes fault = (more : List ℕ) → AreBytes more → fault_met limits (bytes ++ more) ≡ Some fault

  -- what is reported stays so
  stays : (bytes more : List ℕ) (fault : Fault) → AreBytes more → settled_fault_met limits bytes ≡ Some fault → fault_met limits (bytes ++ more) ≡ Some fault
  stays bytes more fault are is = by_cases (ended_deep limits bytes) (settled_fault limits.bytes bytes) refl refl is
    where
      by_cases : (ended : Option ℕ) (wrong : Option TextFault) → ended_deep limits bytes ≡ ended → settled_fault limits.bytes bytes ≡ wrong
          → option_or (option_map BlocksTooDeep ended) (option_map told wrong) ≡ Some fault → fault_met limits (bytes ++ more) ≡ Some fault
      by_cases (Some n) wrong e s is =
          let lines = (cut_bytes limits.bytes bytes).ended in
          let front = ended_stay limits.bytes bytes more in
          let P : List LineView → Type 0 = λ all. first_too_deep limits.rules limits.blocks all ≡ Some n in
          let still : ended_deep limits (bytes ++ more) ≡ Some n =
          subst P (sym front.1) (too_deep_stays limits.rules limits.blocks n lines front.0 (subst AreLines front.1 (ended_are_lines limits.bytes (bytes ++ more))) e) in
          ap (λ o. of_four o (text_fault limits.bytes (bytes ++ more)) (all_deep limits (bytes ++ more)) (leaf_deep limits (bytes ++ more))) still ∙ is
      by_cases None (Some f) e s is =
          let still : ended_deep limits (bytes ++ more) ≡ None = ap (λ (d : Cut). first_too_deep limits.rules limits.blocks d.ended) (same_cut limits.bytes bytes more f are s) ∙ e in
          let wrong = (text_is_told limits.bytes bytes f).0 s more are in
          ap (λ o. of_four o (text_fault limits.bytes (bytes ++ more)) (all_deep limits (bytes ++ more)) (leaf_deep limits (bytes ++ more))) still
          ∙ ap (λ t. of_four None t (all_deep limits (bytes ++ more)) (leaf_deep limits (bytes ++ more))) wrong ∙ is
      by_cases None None e s is = cc

  -- A fault that every input has that starts with the bytes is reported. Where nothing is reported, the byte 255, which is in no text, makes the
  -- input faulty and ends no line.
  not_settled : (bytes : List ℕ) (fault : Fault) → ended_deep limits bytes ≡ None → settled_fault limits.bytes bytes ≡ None → SettlesMet bytes fault → ⊥
  not_settled bytes fault none nothing settles = by_cases (text_fault limits.bytes bytes) refl
    where
      now : fault_met limits bytes ≡ Some fault
      now = ap (fault_met limits) (sym (append-nil bytes)) ∙ settles [] (All-nil (λ n. n < 256))

      next : List ℕ
      next = bytes ++ 255 ∷ []

      by_next : (all leaf : Option ℕ) (wrong : Option TextFault) → of_four None None all leaf ≡ Some fault → of_four None wrong (all_deep limits next) (leaf_deep limits next) ≡ Some fault
          → (wrong ≡ None → ⊥) → ⊥
      by_next all leaf None e f some = some refl
      by_next all leaf (Some g) e f some = not_of_text all leaf g (e ∙ sym f)

      by_cases : (wrong : Option TextFault) → text_fault limits.bytes bytes ≡ wrong → ⊥
      by_cases (Some f) t =
          let at_end : Some (told f) ≡ Some fault = sym (ap (λ o. of_four o (Some f) (all_deep limits bytes) (leaf_deep limits bytes)) none) ∙ sym (ap (λ w. of_four (ended_deep limits bytes) w (all_deep limits bytes) (leaf_deep limits bytes)) t) ∙ now in
          let told_now : settled_fault limits.bytes bytes ≡ Some f =
          (text_is_told limits.bytes bytes f).1 (λ more are. from_text (ended_deep limits (bytes ++ more)) (text_fault limits.bytes (bytes ++ more)) (all_deep limits (bytes ++ more)) (leaf_deep limits (bytes ++ more)) f (settles more are ∙ sym at_end)) in
          let both : None ≡ Some f = sym nothing ∙ told_now in
          cc
      by_cases None t =
          let broken = no_line_ends limits.bytes bytes t in
          let still : ended_deep limits next ≡ None = ap (λ (d : Cut). first_too_deep limits.rules limits.blocks d.ended) broken.0 ∙ none in
          by_next (all_deep limits bytes) (leaf_deep limits bytes) (text_fault limits.bytes next)
          (sym (ap (λ o. of_four o None (all_deep limits bytes) (leaf_deep limits bytes)) none) ∙ sym (ap (λ w. of_four (ended_deep limits bytes) w (all_deep limits bytes) (leaf_deep limits bytes)) t) ∙ now)
          (sym (ap (λ o. of_four o (text_fault limits.bytes next) (all_deep limits next) (leaf_deep limits next)) still) ∙ settles (255 ∷ []) (All-cons (λ n. n < 256) 255 [] (omega arith) (All-nil (λ n. n < 256))))
          broken.1

  comes_back : (bytes : List ℕ) (fault : Fault) → SettlesMet bytes fault → settled_fault_met limits bytes ≡ Some fault
  comes_back bytes fault settles = by_cases (ended_deep limits bytes) (settled_fault limits.bytes bytes) refl refl
    where
      now : fault_met limits bytes ≡ Some fault
      now = ap (fault_met limits) (sym (append-nil bytes)) ∙ settles [] (All-nil (λ n. n < 256))

      by_cases : (ended : Option ℕ) (wrong : Option TextFault) → ended_deep limits bytes ≡ ended → settled_fault limits.bytes bytes ≡ wrong
          → option_or (option_map BlocksTooDeep ended) (option_map told wrong) ≡ Some fault
      by_cases (Some n) wrong e s = sym (ap (λ o. of_four o (text_fault limits.bytes bytes) (all_deep limits bytes) (leaf_deep limits bytes)) e) ∙ now
      by_cases None (Some f) e s =
          sym (ap (λ o. of_four o (Some f) (all_deep limits bytes) (leaf_deep limits bytes)) e)
          ∙ sym (ap (λ w. of_four (ended_deep limits bytes) w (all_deep limits bytes) (leaf_deep limits bytes)) (settled_text limits.bytes bytes f s)) ∙ now
      by_cases None None e s = absurd (not_settled bytes fault e s settles)

pub settled_is_told : SettledIsTold
settled_is_told limits bytes fault = (
  λ is more are. (faults_in_order limits (bytes ++ more)).0 ∙ stays limits bytes more fault are (sym (faults_in_order limits bytes).1 ∙ is),
  λ settles. (faults_in_order limits bytes).1 ∙ comes_back limits bytes fault (λ more are. sym (faults_in_order limits (bytes ++ more)).0 ∙ settles more are),
)

-- a fault that bytes settle is theirs where they are all
pub tells_whole : (limits : LimitsView) (bytes : List ℕ) (fault : Fault) → TellsFault fault (settled_fault_of limits bytes) → TellsFault fault (fault_of limits bytes)
tells_whole limits bytes fault tells = tells_other (settled_fault_of limits bytes) (fault_of limits bytes) whole fault tells
  where
    whole : (f : Fault) → settled_fault_of limits bytes ≡ Some f → fault_of limits bytes ≡ Some f
    whole f e = ap (fault_of limits) (sym (append-nil bytes)) ∙ (settled_is_told limits bytes f).0 e [] (All-nil (λ b. b < 256))
