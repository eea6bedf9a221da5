-- Containers that a line starts, opened one after another.
use Rattle.std.proofs.Common.{◌≡◌, ℕ, ◌≤◌, Bool, true, false, List, [], ◌∷◌, ◌++◌, length, refl, ◌∙◌, sym, ap, ap₂, arith}
use Rattle.cm_text.specs.Rules.{Rules}
use Rattle.cm_text.specs.Lines.{LineView}
use Rattle.cm_tree.specs.declared.tree.ListKind.{ListKind}
use Rattle.cm_tree.specs.declared.tree.Owner.TheVariants.{Marker}
use Rattle.cm_scan.specs.blocks.Lines.{is_blank}
use Rattle.cm_scan.specs.blocks.Starts.{Start, ItemStart, start_of}
use Rattle.cm_block.specs.OpenLeaf.{no_leaf, LeafLine, LineOpens, begins_nothing, begins_leaf, begins_quote, begins_item, begin_of_start, begin_of}
use Rattle.cm_block.specs.Level.{Level, empty_level, push_blank, block_opens, item_opens}
use Rattle.cm_block.specs.Stack.{Owned, own_lines, blank_owner, push_leaf_line, push_by, push_begin}
use Rattle.cm_block.specs.Depths.{nesting}
use Rattle.cm_block.specs.Frames.{a_quote, an_item, Frame}
use Rattle.cm_block.specs.steps.FrameSteps.{within, quoted_in, quoted_by}
use Rattle.cm_scan.specs.declared.markers.ItemMarker as code_marker
use Rattle.cm_block.specs.declared.counted_line.starts.Start as code_start
use Rattle.cm_block.specs.declared.counted_line.starts.Start.TheVariants as variants
use Rattle.cm_block.specs.steps.StartViews.{seen}
use Rattle.cm_block.specs.steps.ContinuationViews.{begins_quote as begins_quote_marker, StartsItem}
use Rattle.cm_block.specs.steps.FirstLines.{begins_container}
use Rattle.cm_block.specs.steps.FrameStarts.{begun_in, blank_in, left_in}
use Rattle.cm_block.proofs.lemmas.FrameStartLemmas.{frame, push-cases, not-nothing, IsBegin, blank-begins, begins-nothing, begins-leaf, begins-quote, begins-item, begins-bare-item, within-append, within-nesting, nest-nesting, nest-within, nest-last}

-- a line that isn't blank doesn't ask whether a marker was taken

module _ (rules : Rules) where
  marked-by : (q p : Bool) (s : Owned) (v : Level) (b : LineOpens) → IsBegin b → push_by (push_begin rules) q s v b ≡ push_by (push_begin rules) p s v b
  marked-by q p s v begins_nothing h = absurd h
  marked-by q p s v (begins_leaf l) h = refl
  marked-by q p s v (begins_quote inner) h = refl
  marked-by q p s v (begins_item kind column inner) h = refl

  marked-same : (q p : Bool) (s : Owned) (v : Level) (line : LineView) → is_blank line ≡ false → push_begin rules q s v line ≡ push_begin rules p s v line
  marked-same q p s v line some =
      push-cases rules q s v line ∙ marked-by q p s v (begin_of rules line) (not-nothing rules line some) ∙ sym (push-cases rules p s v line)

  -- what it starts, by its start
  pub begins-as : (line : LineView) (start : Start) → is_blank line ≡ false → start_of rules line ≡ start → begin_of rules line ≡ begin_of_start rules start line
  unfolding begin_of
  begins-as line start some is = go (is_blank line) some
    where
      go : (b : Bool) → b ≡ false → (elim b as (λ _. LineOpens) [ true ↦ begins_nothing | false ↦ begin_of_start rules (start_of rules line) line ]) ≡ begin_of_start rules start line
      go true e = absurd (cc e)
      go false e = ap (λ s. begin_of_start rules s line) is

  -- an item, as it shows by its first bytes
  pub item_begins : (line : LineView) (kind : ListKind) (column : ℕ) (inner : LineView) → StartsItem line kind column inner → begin_of rules line ≡ begins_item kind column inner
  item_begins line kind column inner item =
      begins-as line (ItemStart item.marker) item.some (item.starts rules)
      ∙ ap₂ (begins_item item.marker.kind) item.column_is item.inner_is
      ∙ ap (λ k. begins_item k column inner) item.kind_is

quoted-last : (q : Bool) (fs : List Frame) (f : Frame) → quoted_by q (fs ++ f ∷ []) ≡ quoted_in f.container (quoted_by q fs)
unfolding quoted_by
quoted-last q [] f = refl
quoted-last q (g ∷ gs) f = quoted-last (quoted_in g.container q) gs f

module _ (rules : Rules) (fs : List Frame) (v : Level) (line : LineView) (owned : Owned) where
  pub quote_next : (inner : LineView) → begin_of rules line ≡ begins_quote inner
      → begun_in rules fs v line owned ≡ begun_in rules (fs ++ frame (block_opens v) a_quote ∷ []) empty_level inner owned
  quote_next inner is =
      ap (within fs) (begins-quote rules (quoted_by false fs) owned v line inner is)
      ∙ sym (within-append fs (f ∷ []) (push_begin rules true owned empty_level inner))
      ∙ ap (λ q. within (fs ++ f ∷ []) (push_begin rules q owned empty_level inner)) (sym (quoted-last false fs f))
    where
      f : Frame
      f = frame (block_opens v) a_quote

  module _ (kind : ListKind) (inner : LineView) (column : ℕ) (is : begin_of rules line ≡ begins_item kind column inner) where
    opened-frame : Frame
    opened-frame = frame (item_opens v kind) (an_item kind column)

    pub item_next : is_blank inner ≡ false
        → begun_in rules fs v line owned ≡ begun_in rules (fs ++ frame (item_opens v kind) (an_item kind column) ∷ []) empty_level inner owned
    unfolding opened-frame
    item_next more =
        ap (within fs) (begins-item rules (quoted_by false fs) owned v line inner kind column is more)
        ∙ sym (within-append fs (opened-frame ∷ []) (push_begin rules true owned empty_level inner))
        ∙ ap (within (fs ++ opened-frame ∷ [])) (marked-same _ true (quoted_by false (fs ++ opened-frame ∷ [])) owned empty_level inner more)

    pub item_bare : is_blank inner ≡ true
        → begun_in rules fs v line owned ≡ blank_in true (fs ++ frame (item_opens v kind) (an_item kind column) ∷ []) empty_level owned
    unfolding opened-frame
    item_bare none =
        ap (within fs) (begins-bare-item rules (quoted_by false fs) owned v line inner kind column is none)
        ∙ sym (nest-last true fs opened-frame empty_level no_leaf (own_lines owned (Marker ∷ [])))

  pub blank_next : is_blank line ≡ true → begun_in rules fs v line owned ≡ blank_in false fs v owned
  blank_next none =
      ap (within fs) (begins-nothing rules (quoted_by false fs) owned v line (blank-begins rules line none))
      ∙ sym (nest-within fs (push_blank v) no_leaf (own_lines owned (blank_owner (quoted_by false fs) ∷ [])))

  pub leaf_next : (start : Start) (l : LeafLine) → begin_of rules line ≡ begin_of_start rules start line → begins_leaf l ≡ begin_of_start rules start line
      → begun_in rules fs v line owned ≡ within fs (push_leaf_line owned (block_opens v) l)
  leaf_next start l is at = ap (within fs) (begins-leaf rules (quoted_by false fs) owned v line l (is ∙ sym at))

  pub deeper : length fs ≤ nesting (begun_in rules fs v line owned).now
  deeper = omega (arith, within-nesting fs (push_begin rules (quoted_by false fs) owned v line))

-- what is left, where the line is blank or not

module _ (rules : Rules) where
  pub left_blank : (bare : Bool) (fs : List Frame) (v : Level) (line : LineView) (owned : Owned) → is_blank line ≡ true → left_in rules bare fs v line owned ≡ blank_in bare fs v owned
  left_blank true fs v line owned none = refl
  left_blank false fs v line owned none = blank_next _ fs v line owned none

  pub left_some : (bare : Bool) (fs : List Frame) (v : Level) (line : LineView) (owned : Owned) → bare ≡ false → left_in rules bare fs v line owned ≡ begun_in rules fs v line owned
  left_some true fs v line owned e = absurd (cc e)
  left_some false fs v line owned e = refl

pub not_bare : (bare blank : Bool) → (bare ≡ true → blank ≡ true) → blank ≡ false → bare ≡ false
not_bare true blank h e = absurd (cc (h refl, e))
not_bare false blank h e = refl

module _ (rules : Rules) where
  pub stays_left : (bare : Bool) (fs gs : List Frame) (v w : Level) (line : LineView) (owned : Owned) → bare ≡ false → gs ≡ fs → w ≡ v
      → begun_in rules fs v line owned ≡ left_in rules bare gs w line owned
  stays_left bare fs gs v w line owned e frames level =
      sym (left_some _ bare gs w line owned e ∙ ap₂ (λ hs u. begun_in rules hs u line owned) frames level)

  -- after an item's marker, by whether the rest of the line is blank
  pub item_left : (bare : Bool) (fs gs : List Frame) (v w : Level) (line : LineView) (owned : Owned) (kind : ListKind) (inner : LineView) (column : ℕ)
      → begin_of rules line ≡ begins_item kind column inner → bare ≡ is_blank inner
      → gs ≡ fs ++ frame (item_opens v kind) (an_item kind column) ∷ [] → w ≡ empty_level
      → begun_in rules fs v line owned ≡ left_in rules bare gs w inner owned
  item_left true fs gs v w line owned kind inner column is none frames level =
      item_bare _ fs v line owned kind inner column is (sym none)
      ∙ sym (ap₂ (λ hs u. blank_in true hs u owned) frames level)
  item_left false fs gs v w line owned kind inner column is more frames level =
      item_next _ fs v line owned kind inner column is (sym more)
      ∙ sym (ap₂ (λ hs u. begun_in rules hs u inner owned) frames level)

-- what is neither a quote's nor an item's marker
pub no_container : (start : code_start.Start) → begins_quote_marker (seen start) ≡ false → ((m : code_marker.ItemMarker) → start ≡ variants.Item m → ⊥) → begins_container (seen start) ≡ false
no_container variants.IndentedCode h k = refl
no_container variants.QuoteMarker h k = absurd (cc h)
no_container (variants.Atx x) h k = refl
no_container (variants.Fence x) h k = refl
no_container (variants.Html x) h k = refl
no_container variants.Break h k = refl
no_container (variants.Item m) h k = absurd (k m refl)
no_container variants.TextLine h k = refl

module _ (rules : Rules) where
  -- as many are open as there are containers, or more
  pub left_deep : (bare : Bool) (fs : List Frame) (v : Level) (line : LineView) (owned : Owned) → length fs ≤ nesting (left_in rules bare fs v line owned).now
  left_deep true fs v line owned = omega (arith, nest-nesting true fs v no_leaf)
  left_deep false fs v line owned = deeper _ fs v line owned
