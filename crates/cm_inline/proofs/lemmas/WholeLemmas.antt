-- How a source is read from one place to the next.
use Rattle.cm_inline.proofs.lemmas.Words.{◌≡◌, ℕ, zero, ◌+◌, ◌-◌, ◌^◌, ◌<◌, ◌≤◌, true, false, List, [], ◌∷◌, ◌++◌, length, take, drop, get_or, reverse, Some, refl}
use Rattle.cm_inline.proofs.lemmas.Words.{sym, ap, subst, ◌∙◌, arith, nat_lt, slice_range, nat_tests, reverse-append, reverse-reverse, drop_more, drop_all, Rules}
use Rattle.cm_inline.proofs.lemmas.Words.{Targets, inlines_depth, emphasis_of, one_by_one, in_pieces, Atom, Defined, Bracketed, defined_in, with_item, add_atom}
use Rattle.cm_inline.proofs.lemmas.Words.{item_step, items_after, inlines_of, depth_of_leaf, nests_past, plain_front_is_text, InlineFault, InlinesTooDeep, rules}
use Rattle.std.proofs.lemmas.List.{append-nil}
use Rattle.std.proofs.lemmas.List.Concat.{flat_map-append}
use Rattle.cm_scan.specs.inlines.Pairing as pairing
use Rattle.cm_scan.specs.inlines.Inlines as inlines
use Rattle.cm_scan.proofs.lemmas.inlines.ReadingSteps.{reading_goes_on, bracket_step}
use Rattle.cm_scan.proofs.lemmas.inlines.PairingInPieces.{texts_in_pieces}
use Rattle.cm_scan.proofs.lemmas.inlines.ReadingInPieces.{reading_in_pieces}
use Rattle.cm_inline.specs.Reading.{Refused}
use Rattle.cm_inline.specs.declared.fault.InlineFault.TheVariants.{SourceTooLong}
use Rattle.cm_inline.specs.steps.Brackets.{closed_at}
use Rattle.cm_inline.specs.steps.Depths.{items_depth}
use Rattle.cm_inline.specs.steps.Reads.{Stands, item_for, IsAtom, IsTextTo, ahead, text_items}
use Rattle.cm_inline.proofs.lemmas.DeeperLemmas.{emphasis-deeper, after-deeper}
use Rattle.cm_inline.proofs.lemmas.PairDepthLemmas.{reverse-depth}
use Rattle.cm_inline.proofs.lemmas.SliceLemmas.{slice-front, before-later, before-one}

-- the items from a place on, after items that have the last first
abbrev pub items_from : Rules → Defined → List ℕ → ℕ → List pairing.Item → List pairing.Item
items_from rules defined source at items = items_after rules defined zero (reverse (take at source)) (drop at source) items

-- one step at a place
abbrev pub step_at : Rules → Defined → List ℕ → ℕ → List pairing.Item → Bracketed
step_at rules defined source at items = item_step rules defined (reverse (take at source)) (get_or source at 0) (drop (at + 1) source) items

-- a step takes the source up to a place
step-on : (rules : Rules) (defined : Defined) (source : List ℕ) (at end : ℕ) (items : List pairing.Item) → at < length source → at < end → (step_at rules defined source at items).rest ≡ drop end source
    → items_from rules defined source at items ≡ items_from rules defined source end (step_at rules defined source at items).items
step-on rules defined source at end items within further rest =
    let b = get_or source at 0 in
    let before = reverse (take at source) in
    let taken = slice_range source (at + 1) end in
    let beyond : drop (at + 1) source ≡ taken ++ drop end source = slice-front source (at + 1) end (omega (arith, further)) in
    grind (arith, nat_tests, drop_more, reading_goes_on, before-one)

pub ahead-step : (rules : Rules) (defined : Defined) (source : List ℕ) (so_far more : List pairing.Item) (at end : ℕ) → at < length source → at < end
    → step_at rules defined source at (reverse so_far) ≡ record { items = reverse more; rest = drop end source }
    → ahead rules defined source more end ≡ ahead rules defined source so_far at
ahead-step rules defined source so_far more at end within further gives =
    ap (λ t. in_pieces (reverse t)) (
    ap (items_from rules defined source end) (ap (λ (s : Bracketed). s.items) (sym gives))
    ∙ sym (step-on rules defined source at end (reverse so_far) within further (ap (λ (s : Bracketed). s.rest) gives))
    )

-- an atom that puts one item
pub adds-item : (rules : Rules) (defined : Defined) (items : List pairing.Item) (a : Atom) (rest : List ℕ) (i : pairing.Item) → item_for a rest ≡ Some i → add_atom rules defined items a rest ≡ with_item items i rest
unfolding add_atom
adds-item rules defined items a rest i e = grind (arith, nat_tests)

pub ahead-atom : (rules : Rules) (defined : Defined) (source : List ℕ) (so_far : List pairing.Item) (at : ℕ) (item : pairing.Item) (end : ℕ) → at < length source → IsAtom rules source at item end
    → ahead rules defined source (so_far ++ item ∷ []) end ≡ ahead rules defined source so_far at
unfolding item_step
ahead-atom rules defined source so_far at item end within is = grind (arith, nat_tests, ahead-step, adds-item, reverse-append)

pub bracket-at : (rules : Rules) (defined : Defined) (source : List ℕ) (so_far : List pairing.Item) (at : ℕ) → Stands source at 93 → step_at rules defined source at (reverse so_far) ≡ closed_at rules defined source so_far at
bracket-at rules defined source so_far at stands = grind (arith, nat_tests, bracket_step)

pub ahead-bracket : (rules : Rules) (defined : Defined) (source : List ℕ) (so_far more : List pairing.Item) (at end : ℕ) → Stands source at 93 → at < end
    → closed_at rules defined source so_far at ≡ record { items = reverse more; rest = drop end source }
    → ahead rules defined source more end ≡ ahead rules defined source so_far at
ahead-bracket rules defined source so_far more at end stands further closed = search (ahead-step, bracket-at)

pieces-pieces : (text : List ℕ) → in_pieces (one_by_one text) ≡ one_by_one text
pieces-pieces [] = refl
pieces-pieces (b ∷ bs) = ap (λ t. pairing.Characters (b ∷ []) ∷ t) (pieces-pieces bs)

pub text-pieces : (source : List ℕ) (so_far : List pairing.Item) (at end : ℕ) → let text = slice_range source at end in
    in_pieces (reverse (reverse (one_by_one text) ++ reverse so_far)) ≡ in_pieces (reverse (reverse (so_far ++ pairing.Characters (slice_range source at end) ∷ [])))
text-pieces source so_far at end = search (rules, reverse-append, reverse-reverse, flat_map-append, pieces-pieces)

text-on : (rules : Rules) (defined : Defined) (source : List ℕ) (so_far : List pairing.Item) (at end : ℕ) → IsTextTo source at end
    → ahead rules defined source (so_far ++ pairing.Characters (slice_range source at end) ∷ []) end ≡ ahead rules defined source so_far at
text-on rules defined source so_far at end is =
    let text = slice_range source at end in
    let before = reverse (take at source) in
    let items = reverse so_far in
    sym (
    ap (λ t. in_pieces (reverse t)) (
    ap (λ t. items_after rules defined zero before t items) (slice-front source at end is.low)
    ∙ plain_front_is_text rules defined before text (drop end source) items is.plain is.spaces
    ∙ ap (λ p. items_after rules defined zero p (drop end source) (reverse (one_by_one text) ++ items)) (sym (before-later source at end is.low))
    )
    ∙ reading_in_pieces rules defined zero (reverse (take end source)) (drop end source) (reverse (one_by_one text) ++ items) (reverse (so_far ++ pairing.Characters (slice_range source at end) ∷ [])) (text-pieces source so_far at end)
    )

pub nat_lt-false : (a b : ℕ) → nat_lt a b ≡ false → b ≤ a
nat_lt-false a b e = grind (arith, nat_tests, e)

pub ahead-text : (rules : Rules) (defined : Defined) (source : List ℕ) (so_far : List pairing.Item) (at end : ℕ) → IsTextTo source at end
    → ahead rules defined source (so_far ++ text_items source at end) end ≡ ahead rules defined source so_far at
ahead-text rules defined source so_far at end is = grind (arith, nat_tests, text-on, nat_lt-false, append-nil)

-- at the start and at the end of a source
pub ahead-start : (rules : Rules) (defined : Defined) (source : List ℕ) → ahead rules defined source [] zero ≡ in_pieces (inlines.items_of rules defined source)
unfolding inlines.items_of
ahead-start rules defined source = refl

pub ahead-end : (rules : Rules) (defined : Defined) (source : List ℕ) (so_far : List pairing.Item) (at : ℕ) → length source ≤ at → ahead rules defined source so_far at ≡ in_pieces so_far
unfolding items_after
ahead-end rules defined source so_far at past = search (drop_all, reverse-reverse)

-- the inlines of items that are a source's, in pieces
pub inlines-are : (rules : Rules) (defined : Defined) (source : List ℕ) (items : List pairing.Item) → in_pieces items ≡ in_pieces (inlines.items_of rules defined source) → emphasis_of items ≡ inlines_of rules defined source
unfolding inlines_of
inlines-are rules defined source items same = sym (texts_in_pieces items) ∙ ap emphasis_of same ∙ texts_in_pieces (inlines.items_of rules defined source)

-- What a `]` makes is never less deep once reading went on.
pub closed-deeper : (rules : Rules) (defined : Defined) (source : List ℕ) (so_far : List pairing.Item) (at limit : ℕ) → Stands source at 93 → limit < items_depth (closed_at rules defined source so_far at).items
    → limit < inlines_depth (emphasis_of (ahead rules defined source so_far at))
unfolding items_after
closed-deeper rules defined source so_far at limit stands deep =
    let b = get_or source at 0 in
    let before = reverse (take at source) in
    let bs = drop (at + 1) source in
    let items = reverse so_far in
    let next = item_step rules defined before b bs items in
    let later = items_from rules defined source at items in
    let first : later ≡ items_after rules defined (length bs - length next.rest) (b ∷ before) bs next.items = ap (λ t. items_after rules defined zero before t items) (drop_more source at 0 stands.within) in
    let kept : items_depth next.items ≤ items_depth later = subst (λ t. items_depth next.items ≤ items_depth t) (sym first) (after-deeper rules defined (length bs - length next.rest) (b ∷ before) bs next.items) in
    let same : items_depth next.items ≡ items_depth (closed_at rules defined source so_far at).items = ap (λ (s : Bracketed). items_depth s.items) (bracket-at rules defined source so_far at stands) in
    let whole : inlines_depth (emphasis_of (ahead rules defined source so_far at)) ≡ inlines_depth (emphasis_of (reverse later)) = ap inlines_depth (texts_in_pieces (reverse later)) in
    omega (arith, deep, kept, same, whole, emphasis-deeper (reverse later), reverse-depth later)

-- the leaf nests past the limit
pub nests : (rules : Rules) (defined : Defined) (limit : ℕ) (source : List ℕ) (items : List pairing.Item) → in_pieces items ≡ in_pieces (inlines.items_of rules defined source) → limit < inlines_depth (emphasis_of items)
    → nests_past rules defined limit source ≡ true
unfolding depth_of_leaf
nests rules defined limit source items same deep = grind (arith, nat_tests, inlines-are)

pub nests-ahead : (rules : Rules) (defined : Defined) (limit : ℕ) (source : List ℕ) (items : List pairing.Item) → items ≡ in_pieces (inlines.items_of rules defined source) → limit < inlines_depth (emphasis_of items)
    → nests_past rules defined limit source ≡ true
nests-ahead rules defined limit source items same deep = grind (arith, nat_tests, texts_in_pieces, nests)

-- a fault of the reading
pub refused : (told : InlineFault) (rules : Rules) (targets : Targets) (limit : ℕ) (source : List ℕ) → (told ≡ InlinesTooDeep → nests_past rules (defined_in targets) limit source ≡ true)
    → (told ≡ SourceTooLong → 2 ^ 32 ≤ length source) → Refused told rules targets limit source
refused told rules targets limit source deep long = grind (arith, nat_tests)

pub within-limit : (rules : Rules) (defined : Defined) (limit : ℕ) (source : List ℕ) (items : List pairing.Item) → in_pieces items ≡ in_pieces (inlines.items_of rules defined source) → inlines_depth (emphasis_of items) ≤ limit
    → nests_past rules defined limit source ≡ false
unfolding depth_of_leaf
within-limit rules defined limit source items same low = grind (arith, nat_tests, inlines-are)
