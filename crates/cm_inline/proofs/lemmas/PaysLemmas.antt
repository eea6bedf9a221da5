-- The looks for which a source that is read up to a place pays.
use Rattle.cm_inline.proofs.lemmas.Words.{◌≡◌, ℕ, zero, ◌+◌, ◌*◌, ◌^◌, ◌<◌, ◌≤◌, Bool, true, false, List, [], ◌∷◌, ◌++◌, length, take, drop, get_or, reverse, Some}
use Rattle.cm_inline.proofs.lemmas.Words.{refl, sym, ap, subst, ◌∙◌, arith, nat_lt, if◌then◌else◌, slice_range, drop_more, reverse-append, sum_by-append, sum_by-cons}
use Rattle.cm_inline.proofs.lemmas.Words.{same_Some, Rules, Atom, markup_atom, atom_at, Defined, Run, with_item, item_step, one_by_one, nat_tests, rules}
use Rattle.std.proofs.lemmas.List.{append-nil}
use Rattle.cm_scan.specs.inlines.Pairing as items
use Rattle.cm_scan.specs.inlines.DelimiterRuns.{run_in, runs_after, runs_of, characters_of}
use Rattle.cm_scan.proofs.lemmas.inlines.DelimiterRuns.{runs-go-on, runs-beyond-text, runs-in-pieces, runs_are_few}
use Rattle.cm_inline.specs.Closers.{all_kinds, kinds_with, kinds_by}
use Rattle.cm_inline.specs.Reading.{looks_at_most}
use Rattle.cm_inline.specs.steps.Brackets.{closed_at}
use Rattle.cm_inline.specs.steps.Pairs.{IsOf, Keeps, allowed, allowance, item_emphases}
use Rattle.cm_inline.specs.steps.Reads.{Stands, atom_in, item_for, IsNew, IsAtom, IsTextTo, characters_ahead, text_items, Pays}
use Rattle.cm_inline.proofs.lemmas.AllowanceLemmas.{of-append, allowance-more, emphases-more}
use Rattle.cm_inline.proofs.lemmas.SliceLemmas.{slice-front, before-later, before-one}
use Rattle.cm_inline.proofs.lemmas.WholeLemmas.{step_at, adds-item, bracket-at, text-pieces, nat_lt-false}

-- the characters ahead: those of what is read at a place, if it is a run, and those after it

step-counts : (rules : Rules) (defined : Defined) (source : List ℕ) (so_far more : List items.Item) (at end : ℕ) → at < length source → at < end
    → step_at rules defined source at (reverse so_far) ≡ record { items = reverse more; rest = drop end source }
    → characters_ahead rules defined source so_far at ≡ characters_of (run_in (atom_in rules source at).atom) + characters_ahead rules defined source more end
step-counts rules defined source so_far more at end within further gives =
    let b = get_or source at 0 in
    let before = reverse (take at source) in
    let items = reverse so_far in
    let taken = slice_range source (at + 1) end in
    let beyond : drop (at + 1) source ≡ taken ++ drop end source = slice-front source (at + 1) end (omega (arith, further)) in
    let own = run_in (atom_in rules source at).atom in
    grind (arith, nat_tests, drop_more, runs-go-on, step_at, before-one, sum_by-append)

text-on : (rules : Rules) (defined : Defined) (source : List ℕ) (so_far : List items.Item) (at end : ℕ) → IsTextTo source at end
    → characters_ahead rules defined source (so_far ++ items.Characters (slice_range source at end) ∷ []) end ≡ characters_ahead rules defined source so_far at
text-on rules defined source so_far at end is =
    let text = slice_range source at end in
    let before = reverse (take at source) in
    let back = reverse so_far in
    ap characters_of (sym (
    ap (λ t. runs_after rules defined zero before t back) (slice-front source at end is.low)
    ∙ runs-beyond-text rules defined before text (drop end source) back is.plain is.spaces
    ∙ ap (λ p. runs_after rules defined zero p (drop end source) (reverse (one_by_one text) ++ back)) (sym (before-later source at end is.low))
    ∙ runs-in-pieces rules defined zero (reverse (take end source)) (drop end source) (reverse (one_by_one text) ++ back) (reverse (so_far ++ items.Characters (slice_range source at end) ∷ [])) (text-pieces source so_far at end)
    ))

-- the most looks for each character of a run
abbrev looks_with : (strike : Bool) → ℕ
looks_with strike = kinds_with strike + 2

-- the sum of what is paid, where the given number of looks are allowed for each character
one-more : (strike : Bool) (looks paid own whole ahead later total : ℕ) → looks + paid + looks_with strike * ahead ≤ looks_with strike * total → ahead ≡ whole + later → own ≤ looks_with strike * whole
    → looks + (paid + own) + looks_with strike * later ≤ looks_with strike * total
one-more strike looks paid own whole ahead later total p e f = grind (arith, nat_tests)

-- a new item
new-is : (kinds : ℕ) (item : items.Item) → IsNew kinds item → IsOf kinds item × (item_emphases item ≡ 0)
new-is kinds item fresh = grind (arith, nat_tests)

run-pays : (strike : Bool) (run : Run) → IsNew (kinds_with strike) (items.Delimiters run) → allowed (kinds_with strike) (items.Delimiters run) ≤ looks_with strike * characters_of (run ∷ [])
run-pays strike run fresh = grind (arith, nat_tests, sum_by-cons)

atom-pays : (strike : Bool) (a : Atom) (rest : List ℕ) (item : items.Item) → item_for a rest ≡ Some item → IsNew (kinds_with strike) item → allowed (kinds_with strike) item ≤ looks_with strike * characters_of (run_in a)
atom-pays strike a rest item e fresh = grind (arith, nat_tests, same_Some, run-pays)

-- nothing is read yet
pub nothing-pays : (rules : Rules) (defined : Defined) (source : List ℕ) (so_far : List items.Item) (looks : ℕ) → so_far ≡ [] → looks ≡ 0 → Pays rules defined source so_far 0 looks
unfolding runs_of
nothing-pays rules defined source so_far looks none first = grind (arith, nat_tests)

-- text more
pub text-pays : (rules : Rules) (defined : Defined) (source : List ℕ) (so_far : List items.Item) (at end looks : ℕ) → IsTextTo source at end → Pays rules defined source so_far at looks → Pays rules defined source (so_far ++ text_items source at end) end looks
text-pays rules defined source so_far at end looks is p = go (nat_lt at end) refl
  where
    go : (some : Bool) → nat_lt at end ≡ some → Pays rules defined source (so_far ++ (if some then items.Characters (slice_range source at end) ∷ [] else [])) end looks
    go true e =
        let counts = text-on rules defined source so_far at end is in
        record {
          are = of-append (kinds_by rules) so_far (items.Characters (slice_range source at end) ∷ []) p.are (tt, tt);
          paid = subst (λ n. looks + allowance (kinds_by rules) (so_far ++ items.Characters (slice_range source at end) ∷ []) + looks_at_most rules * n ≤ looks_at_most rules * characters_of (runs_of rules defined source)) (sym counts)
              (subst (λ n. looks + n + looks_at_most rules * characters_ahead rules defined source so_far at ≤ looks_at_most rules * characters_of (runs_of rules defined source))
              (sym (let more = allowance-more (kinds_by rules) so_far (items.Characters (slice_range source at end)) in let same : allowance (kinds_by rules) (so_far ++ items.Characters (slice_range source at end) ∷ []) ≡ allowance (kinds_by rules) so_far = omega (arith, more) in same)) p.paid);
          made = omega (arith, p.made, emphases-more so_far (items.Characters (slice_range source at end)));
        }
    go false e =
        let same : end ≡ at = omega (arith, is.low, nat_lt-false at end e) in
        subst (λ t. Pays rules defined source t end looks) (sym (append-nil so_far)) (subst (λ n. Pays rules defined source so_far n looks) (sym same) p)

-- an atom more
pub atom-more-pays : (rules : Rules) (defined : Defined) (source : List ℕ) (so_far : List items.Item) (at : ℕ) (item : items.Item) (end looks : ℕ) → at < length source → IsAtom rules source at item end → Pays rules defined source so_far at looks
    → Pays rules defined source (so_far ++ item ∷ []) end looks
unfolding item_step
atom-more-pays rules defined source so_far at item end looks within is p =
    let items = reverse so_far in
    let a = atom_in rules source at in
    let step = adds-item rules defined items a.atom a.rest item is.item_is
    ∙ ap (λ t. with_item items item t) is.rest
    ∙ ap (λ t. record { items = t; rest = drop end source }) (sym (reverse-append so_far (item ∷ []))) in
    let counts = step-counts rules defined source so_far (so_far ++ item ∷ []) at end within is.further step in
    let new = new-is (kinds_by rules) item is.fresh in
    record {
      are = of-append (kinds_by rules) so_far (item ∷ []) p.are (new.0, tt);
      paid = subst (λ n. looks + n + looks_at_most rules * characters_ahead rules defined source (so_far ++ item ∷ []) end ≤ looks_at_most rules * characters_of (runs_of rules defined source)) (sym (allowance-more (kinds_by rules) so_far item))
          (one-more rules.strike looks (allowance (kinds_by rules) so_far) (allowed (kinds_by rules) item) (characters_of (run_in a.atom)) (characters_ahead rules defined source so_far at)
          (characters_ahead rules defined source (so_far ++ item ∷ []) end) (characters_of (runs_of rules defined source)) p.paid counts (atom-pays rules.strike a.atom a.rest item is.item_is is.fresh));
      made = omega (arith, p.made, emphases-more so_far item, new.1);
    }

-- what a `]` makes, with looks that are paid for
closing-pays : (strike : Bool) (looks later before after ahead total : ℕ) → looks + before + looks_with strike * ahead ≤ looks_with strike * total → later + after ≤ looks + before
    → later + after + looks_with strike * ahead ≤ looks_with strike * total
closing-pays strike looks later before after ahead total p e = grind (arith, nat_tests)

none-in-bracket : (rules : Rules) (source : List ℕ) (at : ℕ) → Stands source at 93 → characters_of (run_in (atom_in rules source at).atom) ≡ 0
unfolding atom_at markup_atom
none-in-bracket rules source at stands = ap (λ b. characters_of (run_in (atom_at rules (reverse (take at source)) b (drop (at + 1) source)).atom)) stands.byte

pub closed-pays : (rules : Rules) (defined : Defined) (source : List ℕ) (so_far more : List items.Item) (at end looks later : ℕ) → Stands source at 93 → Pays rules defined source so_far at looks
    → at < end → Keeps looks so_far later more → closed_at rules defined source so_far at ≡ record { items = reverse more; rest = drop end source } → Pays rules defined source more end later
closed-pays rules defined source so_far more at end looks later stands p further keeps closed = grind (arith, nat_tests, step-counts, bracket-at, none-in-bracket, closing-pays)

-- what is paid for is little

allowed-twice : (strike : Bool) (item : items.Item) → allowed all_kinds item ≤ 2 * allowed (kinds_with strike) item
allowed-twice strike item = grind (arith, nat_tests)

twice : (strike : Bool) (all : List items.Item) → allowance all_kinds all ≤ 2 * allowance (kinds_with strike) all
twice strike [] = omega arith
twice strike (item ∷ all) = omega (arith, sum_by-cons (allowed all_kinds) item all, sum_by-cons (allowed (kinds_with strike)) item all, allowed-twice strike item, twice strike all)

few-of : (strike : Bool) (looks paid ahead total size : ℕ) → looks + paid + looks_with strike * ahead ≤ looks_with strike * total → total ≤ size → size < 2 ^ 64 → looks + 2 * paid < 2 ^ 127
few-of strike looks paid ahead total size p low small = grind (arith, nat_tests)

pub pays-few : (rules : Rules) (defined : Defined) (source : List ℕ) (so_far : List items.Item) (at looks : ℕ) → Pays rules defined source so_far at looks → length source < 2 ^ 64 → looks + allowance all_kinds so_far < 2 ^ 127
pays-few rules defined source so_far at looks p small =
    let few = few-of rules.strike looks (allowance (kinds_by rules) so_far) (characters_ahead rules defined source so_far at) (characters_of (runs_of rules defined source)) (length source) p.paid (runs_are_few rules defined source).1 small in
    omega (arith, few, twice rules.strike so_far)

most-of : (strike : Bool) (looks paid ahead total : ℕ) → looks + paid + looks_with strike * ahead ≤ looks_with strike * total → looks + paid ≤ looks_with strike * total
most-of strike looks paid ahead total p = grind (arith, nat_tests)

-- so the looks are no more than the runs allow
pub pays-most : (rules : Rules) (defined : Defined) (source : List ℕ) (so_far : List items.Item) (at looks : ℕ) → Pays rules defined source so_far at looks
    → looks + allowance (kinds_by rules) so_far ≤ looks_at_most rules * characters_of (runs_of rules defined source)
pays-most rules defined source so_far at looks p = search most-of
