-- The table of names: what holds of each place, by computation, and what a search then finds.
use Rattle.std.proofs.Common.{◌≡◌, ◌≢◌, ℕ, zero, suc, ◌+◌, ◌<◌, ◌≤◌, Bool, true, false, not, ◌&&◌, ◌||◌, nat_lt, nat_le, List, [], ◌∷◌, map, length, get_or, Option, Some, None, refl, sym, ap, subst, ◌∙◌, arith}
use Rattle.std.proofs.lemmas.Bool.Decides.{nat_tests}
use Rattle.std.specs.List.{range_with_len}
use Rattle.std.specs.List.Sorted.{IsSortedBy, IsNonDecreasingBy}
use Rattle.std.specs.Ordering.{is_lt, nat_cmp, ordering_index}
use Rattle.std.specs.Cmp.Lexicographic.{slice_cmp}
use Rattle.std.specs.declared.cmp.Ordering.TheVariants.{Less, Greater}
use Rattle.std.proofs.lemmas.Cmp.{nat_list_cmp_total, tied_itself}
use Rattle.std.proofs.lemmas.List.FromFn.{get_or-map-range_with_len, length-map-range_with_len}
use Rattle.std.proofs.lemmas.List.Sorted.{searchable_from_sorted}
use Rattle.std.specs.List.{list_all}
use Rattle.std.specs.Str.{bytes_eq}
use Rattle.std.proofs.lemmas.Slice.Eq.{bytes_eq-Decides}
use Rattle.cm_text.specs.NamedReferences.{names}
use Rattle.cm_text.specs.References.{entry}
use Rattle.cm_text.specs.steps.NameTable.{names_joined, start_at, first_at, name_at, characters_at}

-- the given number of consecutive numbers pass a test
pub passes : (ℕ → Bool) → ℕ → ℕ → Bool
passes test from zero = true
passes test from (suc count) = test from && passes test (from + 1) count

passes-later : (test : ℕ → Bool) (from i : ℕ) (later : Bool) → nat_lt from i ≡ later → test from ≡ true
    → (from + 1 ≤ i → test i ≡ true) → from ≤ i → test i ≡ true
passes-later test from i true e first others above = others (grind (arith, nat_tests, e))
passes-later test from i false e first others above =
    let same : from ≡ i = grind (arith, nat_tests, e) in subst (λ n. test n ≡ true) same first

-- then each of them does
passes-at : (test : ℕ → Bool) (from count : ℕ) → passes test from count ≡ true → (i : ℕ) → from ≤ i → i < from + count → test i ≡ true
unfolding passes
passes-at test from zero h i above below = absurd (omega arith)
passes-at test from (suc count) h i above below =
    let first : test from ≡ true = grind (arith, h) in
    let others : passes test (from + 1) count ≡ true = grind (arith, h) in
    passes-later test from i (nat_lt from i) refl first (λ later. passes-at test (from + 1) count others i later (omega arith)) above

-- each name lies within the text of all
rises : ℕ → Bool
rises i = nat_le (start_at i) (start_at (i + 1)) && nat_le (start_at (i + 1)) 871

all_rise : passes rises 0 177 ≡ true
unfolding passes rises start_at
all_rise = refl

pub length-names : length names_joined ≡ 871
unfolding names_joined
length-names = refl

pub starts_rise : (i : ℕ) → i < 177 → (start_at i ≤ start_at (i + 1)) × (start_at (i + 1) ≤ length names_joined)
unfolding rises
starts_rise i within =
    let both : (nat_le (start_at i) (start_at (i + 1)) && nat_le (start_at (i + 1)) 871) ≡ true = passes-at rises 0 177 all_rise i (omega arith) (omega arith) in
    (grind (arith, nat_tests, both), rw length-names (grind (arith, nat_tests, both)))

keys : List (List ℕ)
keys = map name_at (range_with_len 0 177)

length-keys : length keys ≡ 177
unfolding keys
length-keys = length-map-range_with_len name_at 0 177

key_at : (i : ℕ) (d : List ℕ) → i < 177 → get_or keys i d ≡ name_at i
unfolding keys
key_at i d within = get_or-map-range_with_len name_at 0 177 i i d within (omega arith)

-- the names ascend by their bytes
ascends : ℕ → Bool
ascends i = not (is_lt (slice_cmp nat_cmp (name_at (i + 1)) (name_at i)))

all_ascend : passes ascends 0 176 ≡ true
unfolding passes ascends name_at start_at names_joined
all_ascend = refl

keys-sorted : IsSortedBy (λ a b. is_lt (slice_cmp nat_cmp a b)) keys
unfolding ascends
keys-sorted k d low high =
    let next : k + 1 < 177 = omega (arith, high, length-keys) in
    let up : not (is_lt (slice_cmp nat_cmp (name_at (k + 1)) (name_at k))) ≡ true = passes-at ascends 0 176 all_ascend k (omega arith) (omega arith) in
    rw (key_at (k + 1) d next, key_at k d (omega arith)) (grind (arith, up))

-- so what a comparison with a name returns doesn't fall along the table
compared : (name : List ℕ) (i j : ℕ) → i ≤ j → j < 177
    → ordering_index (slice_cmp nat_cmp (name_at i) name) ≤ ordering_index (slice_cmp nat_cmp (name_at j) name)
compared name i j up within =
    let rise : IsNonDecreasingBy (λ y. ordering_index (slice_cmp nat_cmp y name)) keys = searchable_from_sorted nat_list_cmp_total (λ k. k) keys name keys-sorted in
    let here = rise i j [] up (omega (arith, length-keys)) in
    rw (key_at i [] (omega arith), key_at j [] within) at here

itself : (name : List ℕ) (j : ℕ) → name_at j ≡ name → ordering_index (slice_cmp nat_cmp (name_at j) name) ≡ 1
itself name j same = ap (λ t. ordering_index (slice_cmp nat_cmp t name)) same ∙ ap ordering_index (tied_itself nat_list_cmp_total name)

apart-low : (name : List ℕ) (middle j : ℕ) (before : Bool) → nat_le j middle ≡ before → middle < 177
    → slice_cmp nat_cmp (name_at middle) name ≡ Less → name_at j ≡ name → middle < j
apart-low name middle j true e m less same =
    let one = itself name j same in
    let none : ordering_index (slice_cmp nat_cmp (name_at middle) name) ≡ 0 = ap ordering_index less in
    let up = compared name j middle (grind (arith, nat_tests, e)) m in
    absurd (omega (arith, one, none, up))
apart-low name middle j false e m less same = grind (arith, nat_tests, e)

-- a name that is greater than the one in the middle is after it
pub after_middle : (name : List ℕ) (middle j : ℕ) → middle < 177 → slice_cmp nat_cmp (name_at middle) name ≡ Less → name_at j ≡ name → middle < j
after_middle name middle j = apart-low name middle j (nat_le j middle) refl

apart-high : (name : List ℕ) (middle j : ℕ) (after : Bool) → nat_le middle j ≡ after → j < 177
    → slice_cmp nat_cmp (name_at middle) name ≡ Greater → name_at j ≡ name → j < middle
apart-high name middle j true e within greater same =
    let one = itself name j same in
    let two : ordering_index (slice_cmp nat_cmp (name_at middle) name) ≡ 2 = ap ordering_index greater in
    let up = compared name middle j (grind (arith, nat_tests, e)) within in
    absurd (omega (arith, one, two, up))
apart-high name middle j false e within greater same = grind (arith, nat_tests, e)

-- and one that comes before it before it
pub before_middle : (name : List ℕ) (middle j : ℕ) → j < 177 → slice_cmp nat_cmp (name_at middle) name ≡ Greater → name_at j ≡ name → j < middle
before_middle name middle j = apart-high name middle j (nat_le middle j) refl

-- the same characters
same_entry : Option (List ℕ) → List ℕ → Bool
same_entry None characters = false
same_entry (Some found) characters = bytes_eq found characters

same_entry-is : (found : Option (List ℕ)) (characters : List ℕ) → same_entry found characters ≡ true → found ≡ Some characters
unfolding same_entry
same_entry-is None characters h = absurd (cc)
same_entry-is (Some found) characters h = ap (λ t. Some t) ((bytes_eq-Decides found characters).0 h)

-- each place of the table holds what the names of references have
agrees : ℕ → Bool
agrees i = same_entry (entry names (name_at i)) (characters_at i)

all_agree : passes agrees 0 177 ≡ true
unfolding passes agrees same_entry names name_at start_at names_joined characters_at first_at
all_agree = refl

pub place-entry : (i : ℕ) → i < 177 → entry names (name_at i) ≡ Some (characters_at i)
unfolding agrees
place-entry i within = same_entry-is (entry names (name_at i)) (characters_at i) (passes-at agrees 0 177 all_agree i (omega arith) (omega arith))

-- a name is in the table
stands : List ℕ → ℕ → ℕ → Bool
stands name from zero = false
stands name from (suc count) = bytes_eq (name_at from) name || stands name (from + 1) count

-- each name of a reference does
all_stand : list_all (λ e. stands e.0 0 177) names ≡ true
unfolding stands names name_at start_at names_joined
all_stand = refl

differs : (xs ys : List ℕ) (same : Bool) → bytes_eq xs ys ≡ same → xs ≢ ys → same ≡ false
differs xs ys true e h = absurd (h ((bytes_eq-Decides xs ys).0 e))
differs xs ys false e h = refl

stands-not : (name : List ℕ) (from count : ℕ) → ((i : ℕ) → i < from + count → name_at i ≢ name) → stands name from count ≡ false
unfolding stands
stands-not name from zero h = refl
stands-not name from (suc count) h =
    let here : bytes_eq (name_at from) name ≡ false = differs (name_at from) name (bytes_eq (name_at from) name) refl (h from (omega arith)) in
    let others : stands name (from + 1) count ≡ false = stands-not name (from + 1) count (λ i below. h i (omega arith)) in
    rw (here, others)

both_true : (a b : Bool) → (a && b) ≡ true → (a ≡ true) × (b ≡ true)
both_true true b h = (refl, h)
both_true false b h = absurd (cc)

-- so what is nowhere in the table is no name
entry-step : (name : List ℕ) (e : List ℕ × List ℕ) (es : List (List ℕ × List ℕ)) (same : Bool) → bytes_eq e.0 name ≡ same
    → stands name 0 177 ≡ false → stands e.0 0 177 ≡ true → entry es name ≡ None
    → elim same as (λ _. Option (List ℕ)) [ true ↦ Some e.1 | false ↦ entry es name ] ≡ None
entry-step name e es true q h placed rest =
    let alike : e.0 ≡ name = (bytes_eq-Decides e.0 name).0 q in
    let never : true ≡ false = sym placed ∙ ap (λ t. stands t 0 177) alike ∙ h in
    absurd (cc)
entry-step name e es false q h placed rest = rest

entry-none : (name : List ℕ) (entries : List (List ℕ × List ℕ)) → stands name 0 177 ≡ false → list_all (λ e. stands e.0 0 177) entries ≡ true → entry entries name ≡ None
entry-none name [] h all = refl
entry-none name (e ∷ es) h all =
    let both = both_true (stands e.0 0 177) (list_all (λ x. stands x.0 0 177) es) all in
    entry-step name e es (bytes_eq e.0 name) refl h both.0 (entry-none name es h both.1)

pub no-entry : (name : List ℕ) → ((i : ℕ) → i < 177 → name_at i ≢ name) → entry names name ≡ None
no-entry name h = entry-none name names (stands-not name 0 177 (λ i below. h i (omega arith))) all_stand
