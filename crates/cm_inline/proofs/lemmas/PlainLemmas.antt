-- Lines of text with soft line breaks between them.
use Rattle.cm_inline.proofs.lemmas.Words.{◌≡◌, ℕ, zero, ◌+◌, ◌-◌, ◌<◌, ◌≤◌, ◌==◌, Bool, true, false, List, [], ◌∷◌, ◌++◌, length, take, drop, get_or, map, reverse}
use Rattle.cm_inline.proofs.lemmas.Words.{None, codes, refl, sym, ap, ◌∙◌, arith, append_assoc, take-add, nat_lt, if◌then◌else◌, list_all, slice_range, and_parts}
use Rattle.cm_inline.proofs.lemmas.Words.{eqb-true, nat_tests, drop_all, drop_more, map-append, reverse-append, reverse-reverse, flat_map-append, Rules, inlines_depth}
use Rattle.cm_inline.proofs.lemmas.Words.{fold_out-Inline, Soft, escape_byte, escape, Rendered, inline_step, inlines_html, rendered, Item, Characters, Finished}
use Rattle.cm_inline.proofs.lemmas.Words.{settled_after, settled, pair_all, one_by_one, Defined, items_after, inlines_of, depth_of_leaf, is_plain_byte}
use Rattle.cm_inline.proofs.lemmas.Words.{plain_front_is_text, rules}
use Rattle.std.proofs.Common.{take_all}
use Rattle.cm_tree.specs.declared.tree.Inline.TheVariants.{outs-Soft}
use Rattle.cm_scan.specs.inlines.Pairing.{pair_leftmost}
use Rattle.cm_scan.specs.inlines.Inlines as inlines
use Rattle.cm_scan.proofs.lemmas.inlines.ReadingSteps.{spaces_and_line_feed}
use Rattle.cm_scan.proofs.lemmas.inlines.PairingLemmas.{pair_all-stop}
use Rattle.cm_inline.specs.steps.Depths.{items_depth}
use Rattle.cm_inline.specs.steps.Marks.{stays_text}
use Rattle.cm_inline.specs.steps.Reads.{IsAllText, IsTextTo}
use Rattle.cm_inline.proofs.lemmas.PairDepthLemmas.{settled-items}
use Rattle.cm_inline.proofs.lemmas.DepthLemmas.{soft-depth}
use Rattle.cm_inline.proofs.lemmas.HtmlLemmas.{text-html}
use Rattle.cm_inline.proofs.lemmas.JoinLemmas.{all-append}
use Rattle.cm_inline.proofs.lemmas.ReadingLemmas.{before-html}
use Rattle.cm_inline.proofs.lemmas.SliceLemmas.{slice-front, before-later, one-slice}
use Rattle.cm_inline.proofs.lemmas.StandLemmas.{stays-any}
use Rattle.cm_inline.proofs.lemmas.WholeLemmas.{items_from}

-- a byte as an item: a line feed is a soft line break
abbrev line_item : ℕ → Item
line_item b = if b == 10 then Finished Soft else Characters (b ∷ [])

abbrev line_items : List ℕ → List Item
line_items text = map line_item text

-- A source up to a place comes to its bytes as items.
abbrev pub ReadsAsText : List ℕ → ℕ → Type 0
ReadsAsText source at = (rules : Rules) (defined : Defined) → items_after rules defined zero [] source [] ≡ items_from rules defined source at (reverse (line_items (take at source)))

pub text-start : (source : List ℕ) → ReadsAsText source 0
text-start source = λ rules defined. refl

front-with : (source : List ℕ) (at end : ℕ) → at ≤ end → take end source ≡ take at source ++ slice_range source at end
front-with source at end low =
    let place : at + (end - at) ≡ end = omega (arith, low) in
    ap (λ n. take n source) (sym place) ∙ take-add at (end - at) source

-- a byte of text is no line feed
plain-items : (text : List ℕ) → list_all is_plain_byte text ≡ true → one_by_one text ≡ line_items text
plain-items [] plain = refl
plain-items (b ∷ bs) plain =
    let parts = and_parts (is_plain_byte b) (list_all is_plain_byte bs) plain in
    ap (λ feed. (if feed then Finished Soft else Characters (b ∷ [])) ∷ one_by_one bs) (sym (other b parts.0)) ∙ ap (λ t. line_item b ∷ t) (plain-items bs parts.1)
  where
    other : (b : ℕ) → is_plain_byte b ≡ true → (b == 10) ≡ false
    other b e = grind (arith, nat_tests, e)

-- No byte up to a place is escaped.
abbrev pub IsPlainTo : List ℕ → ℕ → Type 0
IsPlainTo source at = list_all (stays_text false) (take at source) ≡ true

plain-join : (source : List ℕ) (at end : ℕ) → at ≤ end → list_all (stays_text false) (slice_range source at end) ≡ true → IsPlainTo source at → IsPlainTo source end
plain-join source at end low text plain = ap (list_all (stays_text false)) (front-with source at end low) ∙ all-append (stays_text false) (take at source) (slice_range source at end) plain text

pub plain-further : (source : List ℕ) (at end : ℕ) → IsTextTo source at end → IsPlainTo source at → IsPlainTo source end
plain-further source at end is = plain-join source at end is.low (stays-any false (slice_range source at end) is.stays)

pub plain-feed : (source : List ℕ) (at : ℕ) → at < length source → get_or source at 0 ≡ 10 → IsPlainTo source at → IsPlainTo source (at + 1)
plain-feed source at within byte = plain-join source at (at + 1) (omega arith) (ap (list_all (stays_text false)) (one-slice source at within ∙ ap (λ b. b ∷ []) byte))

-- text more
pub text-further : (source : List ℕ) (at end : ℕ) → IsTextTo source at end → ReadsAsText source at → ReadsAsText source end
text-further source at end is read = λ rules defined.
    let front = take at source in
    let text = slice_range source at end in
    let before = reverse front in
    let items = reverse (line_items front) in
    let same : reverse (one_by_one text) ++ items ≡ reverse (line_items (take end source)) =
    ap (λ t. reverse t ++ items) (plain-items text is.plain) ∙ sym (reverse-append (line_items front) (line_items text))
    ∙ ap reverse (sym (map-append line_item front text)) ∙ ap (λ t. reverse (line_items t)) (sym (front-with source at end is.low)) in
    read rules defined
    ∙ ap (λ t. items_after rules defined zero before t items) (slice-front source at end is.low)
    ∙ plain_front_is_text rules defined before text (drop end source) items is.plain is.spaces
    ∙ ap (λ p. items_after rules defined zero p (drop end source) (reverse (one_by_one text) ++ items)) (sym (before-later source at end is.low))
    ∙ ap (items_from rules defined source end) same

-- a line feed after it
pub feed-further : (source : List ℕ) (at : ℕ) → at < length source → get_or source at 0 ≡ 10 → ReadsAsText source at → ReadsAsText source (at + 1)
feed-further source at within byte read = λ rules defined.
    let front = take at source in
    let before = reverse front in
    let items = reverse (line_items front) in
    let rest = drop (at + 1) source in
    let whole : take (at + 1) source ≡ front ++ 10 ∷ [] = front-with source at (at + 1) (omega arith) ∙ ap (λ t. front ++ t) (one-slice source at within ∙ ap (λ b. b ∷ []) byte) in
    let same : Finished Soft ∷ items ≡ reverse (line_items (take (at + 1) source)) =
    sym (ap (λ t. reverse (line_items t)) whole ∙ ap reverse (map-append line_item front (10 ∷ [])) ∙ reverse-append (line_items front) (line_item 10 ∷ [])) in
    read rules defined
    ∙ ap (λ t. items_after rules defined zero before t items) (drop_more source at 0 within ∙ ap (λ b. b ∷ rest) byte)
    ∙ spaces_and_line_feed rules defined before rest zero items
    ∙ ap (λ p. items_after rules defined zero p rest (Finished Soft ∷ items)) (sym (ap reverse whole ∙ reverse-append front (10 ∷ [])))
    ∙ ap (items_from rules defined source (at + 1)) same

-- the items of such a source
all-items : (source : List ℕ) (at : ℕ) → length source ≤ at → ReadsAsText source at → (rules : Rules) (defined : Defined) → inlines.items_of rules defined source ≡ line_items source
unfolding inlines.items_of items_after
all-items source at past read rules defined = grind (arith, nat_tests, drop_all, reverse-reverse, take_all)

-- nothing among them pairs
none-pairs : (text : List ℕ) (before : List Item) → pair_leftmost before (line_items text) ≡ None
unfolding pair_leftmost
none-pairs [] before = refl
none-pairs (b ∷ bs) before = go (b == 10) (λ item. none-pairs bs (item ∷ before))
  where
    go : (feed : Bool) → ((item : Item) → pair_leftmost (item ∷ before) (line_items bs) ≡ None) → pair_leftmost before ((if feed then Finished Soft else Characters (b ∷ [])) ∷ line_items bs) ≡ None
    go true rest = rest (Finished Soft)
    go false rest = rest (Characters (b ∷ []))

soft-html : (rendered Soft).html ≡ codes "\n"
soft-html = simp (fold_out-Inline Rendered inline_step, outs-Soft)

settled-html : (before text : List ℕ) → inlines_html (settled_after before (line_items text)) ≡ escape before ++ escape text
unfolding settled_after
settled-html before [] = before-html before []
settled-html before (b ∷ bs) = go (b == 10) refl (λ text. settled-html text bs)
  where
    go : (feed : Bool) → (b == 10) ≡ feed → ((text : List ℕ) → inlines_html (settled_after text (line_items bs)) ≡ escape text ++ escape bs)
        → inlines_html (settled_after before ((if feed then Finished Soft else Characters (b ∷ [])) ∷ line_items bs)) ≡ escape before ++ escape (b ∷ bs)
    go true e rest =
        before-html before (Soft ∷ settled_after [] (line_items bs))
        ∙ ap (λ t. escape before ++ (t ++ inlines_html (settled_after [] (line_items bs)))) soft-html
        ∙ ap (λ t. escape before ++ 10 ∷ t) (rest [])
        ∙ ap (λ n. escape before ++ (escape_byte n ++ escape bs)) (sym (eqb-true b 10 e))
    go false e rest =
        rest (before ++ b ∷ []) ∙ sym (flat_map-append escape_byte (before ++ b ∷ []) bs)
        ∙ ap escape (append_assoc before (b ∷ []) bs) ∙ flat_map-append escape_byte before (b ∷ bs)

none-deep : (text : List ℕ) → items_depth (line_items text) ≡ 0
none-deep [] = refl
none-deep (b ∷ bs) = search (rules, soft-depth, (none-deep bs))

inlines-are : (source : List ℕ) (at : ℕ) → length source ≤ at → ReadsAsText source at → (rules : Rules) (defined : Defined) → inlines_of rules defined source ≡ settled (line_items source)
unfolding inlines_of
inlines-are source at past read rules defined =
    ap (λ t. settled (pair_all t)) (all-items source at past read rules defined) ∙ ap settled (pair_all-stop (line_items source) (none-pairs source []))

pub all-text : (source : List ℕ) (at : ℕ) → length source ≤ at → ReadsAsText source at → IsPlainTo source at → IsAllText source
unfolding depth_of_leaf
all-text source at past read plain = record {
  html = λ rules defined. ap inlines_html (inlines-are source at past read rules defined) ∙ settled-html [] source ∙ text-html source (ap (list_all (stays_text false)) (sym (take_all at source past)) ∙ plain);
  flat = λ rules defined limit. ap (nat_lt limit) (ap inlines_depth (inlines-are source at past read rules defined) ∙ settled-items (line_items source) ∙ none-deep source) ∙ none-below limit;
}
  where
    none-below : (limit : ℕ) → nat_lt limit 0 ≡ false
    none-below limit = grind (arith, nat_tests)
