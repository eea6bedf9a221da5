-- What follows the right bracket of a link or an image, by what comes next in the source.
use Rattle.cm_scan.specs.Words.{given, ◌<|>◌, ◌and_then◌}
use Rattle.cm_inline.proofs.lemmas.Words.{◌≡◌, ◌≢◌, ℕ, suc, ◌+◌, ◌<◌, ◌≤◌, ◌==◌, Bool, true, false, List, [], ◌∷◌, ◌++◌, length, drop, get_or, Option, Some, None}
use Rattle.cm_inline.proofs.lemmas.Words.{IfSome, codes, refl, sym, ap, subst, ◌∙◌, arith, length-append, length-drop, slice_range, IsCharBoundary, drop_more, Rules}
use Rattle.cm_inline.proofs.lemmas.Words.{Target, begins_with, after_word, Reading, label, Defined, target_of, target_between, end_if_followed, end_at, begins-at}
use Rattle.cm_inline.proofs.lemmas.Words.{nat_tests}
use Rattle.std.proofs.Common.{option_map, Result, IfOk, if◌then◌else◌}
use Rattle.cm_tree.specs.Definitions.{target_if_followed, target_numbered}
use Rattle.cm_scan.specs.Scanned.{IsAt}
use Rattle.cm_scan.specs.spans.Tags.{is_blank_next, after_gap}
use Rattle.cm_scan.specs.inlines.Links.{destination, title}
use Rattle.cm_scan.specs.inlines.Brackets as brackets
use Rattle.cm_scan.specs.inlines.Brackets.{closed, after_destination, inline_end, collapsed_or_shortcut, reference_end}
use Rattle.cm_scan.proofs.lemmas.inlines.LeftByEachStep.{end_at-end}
use Rattle.cm_inline.specs.declared.leaf.Leaf.{Leaf}
use Rattle.cm_inline.specs.declared.links.LinkEnd.{LinkEnd}
use Rattle.cm_inline.specs.declared.links.Target.TheVariants as written
use Rattle.cm_inline.specs.steps.Reads.{Stands}
use Rattle.cm_inline.specs.steps.Marks.{target_in}
use Rattle.cm_inline.specs.steps.Leaves.{defined_by}
use Rattle.cm_inline.specs.steps.Links.{ends_of, leads_to, after_brackets, IsPlaced}
use Rattle.cm_inline.proofs.lemmas.SliceLemmas.{slice-front}
use Rattle.cm_inline.proofs.lemmas.LabelLemmas.{label_between, no_label_between}
use Rattle.cm_text.specs.Addresses.{is_followed}
use Rattle.cm_text.specs.Unescaping.{unescape}

-- The next byte

-- a byte that comes next in a copy of a text
pub next-of : (b : ℕ) (text copy : List ℕ) (at : ℕ) (next : Bool) → copy ≡ text → next ≡ begins_with b (drop at copy) → next ≡ begins_with b (drop at text)
next-of b text copy at next same h = subst (λ t. next ≡ begins_with b (drop at t)) same h

abbrev if_next : Bool → List ℕ → List ℕ → Option (List ℕ)
if_next next word rest = elim next [ true ↦ after_word word rest | false ↦ None ]

word-by : (b : ℕ) (word : List ℕ) (c : ℕ) (cs : List ℕ) (next : Bool) → (c == b) ≡ next → after_word (b ∷ word) (c ∷ cs) ≡ if_next next word cs
unfolding after_word
word-by b word c cs next h = ap (λ v. if_next v word cs) h

word-none : (b : ℕ) (word text : List ℕ) → begins_with b text ≡ false → after_word (b ∷ word) text ≡ None
unfolding after_word
word-none b word text h = grind (arith, nat_tests, word-by)

word-next : (b : ℕ) (word text : List ℕ) (at : ℕ) → begins_with b (drop at text) ≡ true → after_word (b ∷ word) (drop at text) ≡ after_word word (drop (at + 1) text)
word-next b word text at h =
    let next = (begins-at b text at h).1 in
    let one : suc at ≡ at + 1 = omega arith in
    ap (after_word (b ∷ word)) next ∙ word-by b word b (drop (suc at) text) true (ap (begins_with b) (sym next) ∙ h) ∙ ap (λ n. after_word word (drop n text)) one

word-all : (text : List ℕ) → after_word [] text ≡ Some text
unfolding after_word
word-all text = refl

word-one : (b : ℕ) (text : List ℕ) (at : ℕ) → begins_with b (drop at text) ≡ true → after_word (b ∷ []) (drop at text) ≡ Some (drop (at + 1) text)
word-one b text at h = word-next b [] text at h ∙ word-all (drop (at + 1) text)

-- The end of an inline link

abbrev ended : List ℕ → List ℕ → Option (List ℕ) → Option brackets.LinkEnd
ended dest title o = option_map (brackets.link_end (unescape dest, unescape title)) o

pub not-closed : (dest title text : List ℕ) (at end : ℕ) → drop end text ≡ after_gap (drop at text) → begins_with 41 (drop end text) ≡ false → closed dest title (drop at text) ≡ None
not-closed dest title text at end gap next = ap (λ t. ended dest title (after_word (codes ")") t)) (sym gap) ∙ ap (ended dest title) (word-none 41 [] (drop end text) next)

pub is-closed : (dest title text : List ℕ) (at end : ℕ) → drop end text ≡ after_gap (drop at text) → begins_with 41 (drop end text) ≡ true
    → closed dest title (drop at text) ≡ Some (record { dest = unescape dest; title = unescape title; rest = drop (end + 1) text })
is-closed dest title text at end gap next = ap (λ t. ended dest title (after_word (codes ")") t)) (sym gap) ∙ ap (ended dest title) (word-one 41 text end next)

abbrev titled : List ℕ → List ℕ → Option Reading → Option brackets.LinkEnd
titled dest text o = elim o [ Some t ↦ closed dest t.text t.rest | None ↦ closed dest [] text ]

abbrev parted : List ℕ → List ℕ → Bool → Option brackets.LinkEnd
parted dest text blank = elim blank [ true ↦ titled dest text (title (after_gap text)) | false ↦ closed dest [] text ]

pub not-parted : (dest text : List ℕ) → is_blank_next text ≡ false → after_destination dest text ≡ closed dest [] text
unfolding after_destination
not-parted dest text blank = ap (parted dest text) blank

pub by-title : (dest text gap : List ℕ) (o : Option Reading) → is_blank_next text ≡ true → gap ≡ after_gap text → o ≡ title gap → after_destination dest text ≡ titled dest text o
unfolding after_destination
by-title dest text gap o blank same h = ap (parted dest text) blank ∙ ap (titled dest text) (ap title (sym same) ∙ sym h)

abbrev in_parentheses : List ℕ → Option Reading → Option brackets.LinkEnd
in_parentheses inside o = elim o [ Some d ↦ after_destination d.text d.rest | None ↦ closed [] [] inside ]

abbrev opened : Option (List ℕ) → Option brackets.LinkEnd
opened o = o and_then λ inside. in_parentheses inside (destination (after_gap inside))

pub no-inline_end : (text : List ℕ) → begins_with 40 text ≡ false → inline_end text ≡ None
unfolding inline_end
no-inline_end text next = ap opened (word-none 40 [] text next)

pub by-destination : (text gap : List ℕ) (at : ℕ) (o : Option Reading) → begins_with 40 (drop at text) ≡ true → gap ≡ after_gap (drop (at + 1) text) → o ≡ destination gap
    → inline_end (drop at text) ≡ in_parentheses (drop (at + 1) text) o
unfolding inline_end
by-destination text gap at o next same h = ap opened (word-one 40 text at next) ∙ ap (in_parentheses (drop (at + 1) text)) (ap destination (sym same) ∙ sym h)

-- a destination starts after `<` if that comes next
pub from-by : (found next : Bool) (gap : ℕ) → found ≡ next → (if found then gap + 1 else gap) ≡ (if next then gap + 1 else gap)
from-by found next gap h = ap (λ (b : Bool). if b then gap + 1 else gap) h

-- a part that is at a place of a source
pub part-from : (source part : List ℕ) (place from : ℕ) → IsAt source place part → place ≡ from → slice_range source from (from + length part) ≡ part
part-from source part place from at same = subst (λ n. slice_range source n (n + length part) ≡ part) same at.is

-- References

abbrev either : Defined → List ℕ → List ℕ → Option Reading → Option brackets.LinkEnd
either defined between text o = elim o [ Some l ↦ leads_to (target_of defined l.text) l.rest | None ↦ collapsed_or_shortcut (target_between defined between) text ]

pub by-full : (defined : Defined) (between text : List ℕ) (l : Reading) → Some l ≡ label text → reference_end defined between text ≡ leads_to (target_of defined l.text) l.rest
unfolding reference_end
by-full defined between text l h = ap (either defined between text) (sym h)

abbrev without : List ℕ → Option (List ℕ) → List ℕ
without text o = elim o [ Some rest ↦ rest | None ↦ text ]

-- by the two brackets that follow, or by what follows
not-full : (target : Option Target) (text : List ℕ) → collapsed_or_shortcut target text ≡ leads_to target (after_brackets text)
not-full target text = grind (arith, nat_tests)

pub by-between : (defined : Defined) (between text : List ℕ) (target : Option Target) → None ≡ label text → target ≡ target_between defined between
    → reference_end defined between text ≡ leads_to target (after_brackets text)
unfolding reference_end
by-between defined between text target h same =
    ap (either defined between text) (sym h) ∙ not-full (target_between defined between) text ∙ ap (λ t. leads_to t (after_brackets text)) (sym same)

-- `[]` comes next
pub both-brackets : (text : List ℕ) (at : ℕ) → begins_with 91 (drop at text) ≡ true → begins_with 93 (drop (at + 1) text) ≡ true → drop (at + 2) text ≡ after_brackets (drop at text)
both-brackets text at left right =
    let two : at + 1 + 1 ≡ at + 2 = omega arith in
    sym (ap (without (drop at text)) (word-next 91 (93 ∷ []) text at left ∙ word-one 93 text (at + 1) right) ∙ ap (λ n. drop n text) two)

pub not-both : (text : List ℕ) (at : ℕ) → (begins_with 91 (drop at text) ≡ true → begins_with 93 (drop (at + 1) text) ≡ false) → drop at text ≡ after_brackets (drop at text)
not-both text at h = go (begins_with 91 (drop at text)) refl
  where
    go : (next : Bool) → begins_with 91 (drop at text) ≡ next → drop at text ≡ after_brackets (drop at text)
    go true e = sym (ap (without (drop at text)) (word-next 91 (93 ∷ []) text at e ∙ word-none 93 [] (drop (at + 1) text) (h e)))
    go false e = sym (ap (without (drop at text)) (word-none 91 (93 ∷ []) (drop at text) e))

-- The label between the brackets

module _ (source : List ℕ) (before at : ℕ) where
  pub between-brackets : (beyond : ℕ) → beyond ≡ before + 1 → before < length source → get_or source before 0 ≡ 91 → beyond ≤ at → Stands source at 93
      → drop before source ≡ 91 ∷ (slice_range source beyond at ++ 93 ∷ drop (at + 1) source)
  between-brackets beyond place within byte low stands =
      drop_more source before 0 within ∙ ap (λ b. b ∷ drop (before + 1) source) byte ∙ ap (λ n. 91 ∷ drop n source) (sym place)
      ∙ ap (λ t. 91 ∷ t) (slice-front source beyond at low ∙ ap (λ t. slice_range source beyond at ++ t) (drop_more source at 0 stands.within ∙ ap (λ b. b ∷ drop (at + 1) source) stands.byte))

  pub no-label : (defined : Defined) (beyond : ℕ) → beyond ≡ before + 1 → before < length source → get_or source before 0 ≡ 91 → beyond ≤ at → Stands source at 93 → None ≡ label (drop before source)
      → None ≡ target_between defined (slice_range source beyond at)
  no-label defined beyond place within byte low stands h =
      sym (no_label_between defined (slice_range source beyond at) (drop (at + 1) source) None (ap label (sym (between-brackets beyond place within byte low stands)) ∙ sym h) tt)

  pub other-label : (defined : Defined) (beyond end : ℕ) (inside : List ℕ) → beyond ≡ before + 1 → before < length source → get_or source before 0 ≡ 91 → beyond ≤ at → Stands source at 93
      → Some (record { text = inside; rest = drop end source }) ≡ label (drop before source) → end ≤ length source → end ≢ at + 1
      → None ≡ target_between defined (slice_range source beyond at)
  other-label defined beyond end inside place within byte low stands h short other =
      sym (no_label_between defined (slice_range source beyond at) (drop (at + 1) source) (Some (record { text = inside; rest = drop end source }))
      (ap label (sym (between-brackets beyond place within byte low stands)) ∙ sym h)
      (λ same. other (omega (arith, same, short, stands.within, length-drop end source, length-drop (at + 1) source))))

  pub this-label : (defined : Defined) (beyond end : ℕ) (inside : List ℕ) → beyond ≡ before + 1 → before < length source → get_or source before 0 ≡ 91 → beyond ≤ at → Stands source at 93
      → Some (record { text = inside; rest = drop end source }) ≡ label (drop before source) → end ≡ at + 1
      → target_of defined inside ≡ target_between defined (slice_range source beyond at)
  this-label defined beyond end inside place within byte low stands h same =
      let found = label_between defined (slice_range source beyond at) (drop (at + 1) source) (record { text = inside; rest = drop end source })
      (ap label (sym (between-brackets beyond place within byte low stands)) ∙ sym h) (ap (λ n. length (drop n source)) same) in
      ap (target_of defined) found.0 ∙ sym found.1

-- the end of a reference by the number of its definition, whose address the rules follow
module _ (rules : Rules) (leaf : Leaf) (end : ℕ) where
  abbrev by_number : Option ℕ → Option LinkEnd
  by_number entry = option_map (λ number. record { target = written.Defined number; end = end }) entry

  number-leads : (entry : Option ℕ) → ends_of leaf (by_number entry) ≡ leads_to (option_map (target_numbered leaf.definitions.now) entry) (drop end leaf.source.now)
  number-leads entry = grind (arith, nat_tests)

  leads-followed : (target : Option Target) (rest : List ℕ) → leads_to (target_if_followed rules target) rest ≡ end_if_followed rules (leads_to target rest)
  leads-followed target rest = grind (arith, nat_tests)

  pub numbered-end : (target : Option Target) (entry : Option ℕ) → option_map (target_numbered leaf.definitions.now) entry ≡ target_if_followed rules target
      → ends_of leaf (by_number entry) ≡ end_if_followed rules (leads_to target (drop end leaf.source.now))
  numbered-end target entry h = number-leads entry ∙ ap (λ o. leads_to o (drop end leaf.source.now)) h ∙ leads-followed target (drop end leaf.source.now)

-- The whole

-- the result of a scanner that may have found nothing
pub turned : {E : Type 0} (leaf : Leaf) (r : Result (Option LinkEnd) E) (a b : Option brackets.LinkEnd) → a ≡ b → IfOk r (λ found. ends_of leaf found ≡ a) → IfOk r (λ found. ends_of leaf found ≡ b)
turned leaf r a b e h = subst (λ x. IfOk r (λ found. ends_of leaf found ≡ x)) e h

module _ (rules : Rules) (leaf : Leaf) where
  -- an end that was found ends after the right bracket
  pub ends-beyond : (at : ℕ) (between : List ℕ) (e : LinkEnd) → at < length leaf.source.now → ends_of leaf (Some e) ≡ end_at rules (defined_by leaf) between (drop (at + 1) leaf.source.now)
      → IsCharBoundary leaf.source.now e.end → at < e.end
  ends-beyond at between e within h boundary =
      let source = leaf.source.now in
      let target = target_in source leaf.definitions.now e.target in
      let left = end_at-end rules (defined_by leaf) between (drop (at + 1) source) (record { dest = target.0; title = target.1; rest = drop e.end source }) (sym h) in
      omega (arith, within, boundary.0, ap length left.is, length-append left.front (drop e.end source), length-drop (at + 1) source, length-drop e.end source)

  -- an end that was found, if one was, is after the right bracket
  pub placed : {E : Type 0} (at : ℕ) (between : List ℕ) (r : Result (Option LinkEnd) E) → at < length leaf.source.now
      → IfOk r (λ found. ends_of leaf found ≡ end_at rules (defined_by leaf) between (drop (at + 1) leaf.source.now)) → IfOk r (λ found. IfSome found (IsPlaced leaf))
      → IfOk r (λ found. IfSome found (λ e. (at < e.end) × IsPlaced leaf e))
  placed at between r within h place = grind (arith, nat_tests, ends-beyond)

  abbrev first_of : List ℕ → List ℕ → Option brackets.LinkEnd → Option brackets.LinkEnd
  first_of between text o = o <|> end_if_followed rules (reference_end (defined_by leaf) between text)

  -- an inline link's end goes first
  pub inline-first : (between text : List ℕ) (found : Option LinkEnd) (e : LinkEnd) → found ≡ Some e → ends_of leaf found ≡ end_if_followed rules (inline_end text)
      → ends_of leaf (Some e) ≡ end_at rules (defined_by leaf) between text
  unfolding end_at
  inline-first between text found e same h = ap (first_of between text) (ap (ends_of leaf) (sym same) ∙ h)

  pub no-inline : (between text : List ℕ) (found : Option LinkEnd) → found ≡ None → ends_of leaf found ≡ end_if_followed rules (inline_end text)
      → end_if_followed rules (reference_end (defined_by leaf) between text) ≡ end_at rules (defined_by leaf) between text
  unfolding end_at
  no-inline between text found none h = ap (first_of between text) (ap (ends_of leaf) (sym none) ∙ h)

-- an end by whether the rules follow where it leads
module _ (rules : Rules) (end : brackets.LinkEnd) where
  pub end-followed : is_followed rules end.dest ≡ true → Some end ≡ end_if_followed rules (Some end)
  end-followed on = sym (ap (λ (t : Bool). given t end) on)
