-- Blocks that are before all that is open play no part in what is done there.
use Rattle.std.proofs.Common.{◌≡◌, ◌∙◌, ◌&&◌, ◌||◌, Bool, true, false, List, [], ◌∷◌, ◌++◌, length, Option, Some, None, refl, sym, ap, append_assoc, arith}
use Rattle.std.proofs.lemmas.List.{same_from_push}
use Rattle.cm_text.specs.Rules.{Rules}
use Rattle.cm_text.specs.Lines.{LineView}
use Rattle.cm_tree.specs.declared.tree.Block.{Block}
use Rattle.cm_tree.specs.declared.tree.ListKind.{ListKind}
use Rattle.cm_scan.specs.blocks.LineForms.{is_same_kind}
use Rattle.cm_block.specs.Level.{OpenList, Level, with_list, closed_blocks, separated_next, block_opens, block_closes, Item, with_item, item_closes, item_opens, item_opens_in, list_opens, list_goes_on}
use Rattle.cm_block.specs.Stack.{item_of}
use Rattle.cm_block.specs.Frames.{Container, a_quote, an_item, Frame}
use Rattle.cm_block.specs.steps.FrameSteps.{matching, quoted_by, close_container, is_continued_by}
use Rattle.cm_block.specs.steps.LevelSteps.{has_list_of, is_list_of, goes_on}
use Rattle.cm_block.specs.steps.FrontViews.{level_after, frames_after, innermost}
use Rattle.cm_block.proofs.lemmas.FrameStartLemmas.{frame}

-- What is closed before a list that opens may be closed already.
pub items-open-again : (kind : ListKind) (level : Level) → has_list_of level kind ≡ false → item_opens (block_opens level) kind ≡ item_opens level kind
items-open-again kind level other = ap (λ mark. opened mark) (settled level.has_block (separated_next level)) ∙ by-list level.open_list other
  where
    opened : Bool → Level
    opened mark = record { blocks = closed_blocks level; open_list = Some (record { kind = kind; loose = false; items = [] }); has_block = true; ends_blank = false; separated = mark }

    settled : (has mark : Bool) → mark || has && false ≡ mark
    settled true true = refl
    settled true false = refl
    settled false true = refl
    settled false false = refl

    by-list : (list : Option OpenList) → is_list_of list kind ≡ false → list_opens level kind ≡ item_opens_in level list kind
    by-list None other = refl
    by-list (Some list) other = ap (λ same. elim same [ true ↦ list_goes_on level list | false ↦ list_opens level kind ]) (sym other)

-- The next item of a list opens where the one before is closed.

pub item-closes : (kind : ListKind) (container : Container) (outer level inside : Level) → is_continued_by kind container outer ≡ true → item_closes level (item_of inside) ≡ close_container container level inside
item-closes kind a_quote outer level inside continued = absurd (cc continued)
item-closes kind (an_item k column) outer level inside continued = refl

abbrev with_closed : Item → Level → Option OpenList → Level
with_closed item level list = record { blocks = level.blocks; open_list = with_item list item; has_block = true; ends_blank = item.ends_blank; separated = level.separated }

pub next-opens : (kind : ListKind) (container : Container) (level : Level) (item : Item) → is_continued_by kind container level ≡ true → goes_on (item_closes level item) ≡ item_opens (item_closes level item) kind
next-opens kind a_quote level item continued = absurd (cc continued)
next-opens kind (an_item k column) level item continued = by-list level.open_list continued
  where
    by-kind : (list : OpenList) (same : Bool) → same ≡ true → goes_on (with_closed item level (Some list)) ≡ elim same as (λ _. Level) [
      | true ↦ list_goes_on (with_closed item level (Some list)) (record { kind = list.kind; loose = list.loose || item.separated; items = list.items ++ item.blocks ∷ [] })
      | false ↦ list_opens (with_closed item level (Some list)) kind
    ]
    by-kind list true is = refl
    by-kind list false is = absurd (cc is)

    by-list : (list : Option OpenList) → is_list_of list kind ≡ true → goes_on (with_closed item level list) ≡ item_opens_in (with_closed item level list) (with_item list item) kind
    by-list None is = absurd (cc is)
    by-list (Some list) is = by-kind list (is_same_kind list.kind kind) is

module _ (front : List Block) where
  -- ---- one level

  abbrev with_blocks : Level → List Block → Level
  with_blocks level blocks = record { blocks = blocks; open_list = level.open_list; has_block = level.has_block; ends_blank = level.ends_blank; separated = level.separated }

  pub closed-beyond : (blocks : List Block) (list : Option OpenList) → with_list (front ++ blocks) list ≡ front ++ with_list blocks list
  closed-beyond blocks None = refl
  closed-beyond blocks (Some list) = append_assoc front blocks _

  pub opens-beyond : (level : Level) → block_opens (level_after front level) ≡ level_after front (block_opens level)
  opens-beyond level = ap (with_blocks (block_opens level)) (closed-beyond level.blocks level.open_list)

  pub closes-beyond : (block : Block) (level : Level) → block_closes (level_after front level) block ≡ level_after front (block_closes level block)
  closes-beyond block level = ap (with_blocks (block_closes level block)) (append_assoc front level.blocks (block ∷ []))

  list-opens-beyond : (kind : ListKind) (level : Level) → list_opens (level_after front level) kind ≡ level_after front (list_opens level kind)
  list-opens-beyond kind level = ap (with_blocks (list_opens level kind)) (closed-beyond level.blocks level.open_list)

  item-opens-in : (kind : ListKind) (level : Level) (list : Option OpenList) → item_opens_in (level_after front level) list kind ≡ level_after front (item_opens_in level list kind)
  item-opens-in kind level None = list-opens-beyond kind level
  item-opens-in kind level (Some list) = by-kind (is_same_kind list.kind kind)
    where
      by-kind : (same : Bool) → elim same [ true ↦ list_goes_on (level_after front level) list | false ↦ list_opens (level_after front level) kind ]
          ≡ level_after front (elim same [ true ↦ list_goes_on level list | false ↦ list_opens level kind ])
      by-kind true = refl
      by-kind false = list-opens-beyond kind level

  pub item-opens-beyond : (kind : ListKind) (level : Level) → item_opens (level_after front level) kind ≡ level_after front (item_opens level kind)
  item-opens-beyond kind level = item-opens-in kind level level.open_list

  -- ---- the innermost level

  pub inner-does : (does : Level → Level) → ((level : Level) → does (level_after front level) ≡ level_after front (does level)) → (frames : List Frame) (level : Level)
      → innermost front frames (does level) ≡ does (innermost front frames level)
  inner-does does same [] level = sym (same level)
  inner-does does same (f ∷ fs) level = refl

  pub inner-closes : (block : Block) (frames : List Frame) (level : Level) → innermost front frames (block_closes level block) ≡ block_closes (innermost front frames level) block
  inner-closes block frames level = inner-does (λ l. block_closes l block) (closes-beyond block) frames level

  pub inner-item-closes : (item : Item) (frames : List Frame) (level : Level) → innermost front frames (item_closes level item) ≡ item_closes (innermost front frames level) item
  inner-item-closes item [] level = refl
  inner-item-closes item (f ∷ fs) level = refl

  pub inner-list : (frames : List Frame) (level : Level) → (innermost front frames level).open_list ≡ level.open_list
  inner-list [] level = refl
  inner-list (f ∷ fs) level = refl

  -- a container is opened
  pub frames-push : (frames : List Frame) (level : Level) (container : Container)
      → frames_after front (frames ++ frame level container ∷ []) ≡ frames_after front frames ++ frame (innermost front frames level) container ∷ []
  frames-push [] level container = refl
  frames-push (f ∷ fs) level container = refl

  pub inner-pushed : (frames : List Frame) (f : Frame) (level : Level) → innermost front (frames ++ f ∷ []) level ≡ level
  inner-pushed [] f level = refl
  inner-pushed (g ∷ gs) f level = refl

  -- a container is closed
  pub last-taken : (frames outer : List Frame) (f last : Frame) → frames_after front (frames ++ f ∷ []) ≡ outer ++ last ∷ []
      → (frames_after front frames ≡ outer) × ((innermost front frames f.level ≡ last.level) × (f.container ≡ last.container))
  last-taken [] outer f last all =
      let same = same_from_push [] outer (frame (level_after front f.level) f.container) last all in
      (same.0, (ap (λ (x : Frame). x.level) same.1, ap (λ (x : Frame). x.container) same.1))
  last-taken (g ∷ gs) outer f last all =
      let same = same_from_push (frames_after front (g ∷ gs)) outer f last all in
      (same.0, (ap (λ (x : Frame). x.level) same.1, ap (λ (x : Frame). x.container) same.1))

  -- no container is open
  pub none-inside : (frames : List Frame) (level : Level) → frames_after front frames ≡ [] → innermost front frames level ≡ level_after front level
  none-inside [] level none = refl
  none-inside (f ∷ fs) level none = absurd (omega (arith, ap length none))

  -- ---- what reads the containers alone

  pub matching-beyond : (rules : Rules) (bare open_text : Bool) (frames : List Frame) (line : LineView) → matching rules bare open_text (frames_after front frames) line ≡ matching rules bare open_text frames line
  unfolding matching
  matching-beyond rules bare open_text [] line = refl
  matching-beyond rules bare open_text (f ∷ fs) line = refl

  pub quoted-beyond : (quoted : Bool) (frames : List Frame) → quoted_by quoted (frames_after front frames) ≡ quoted_by quoted frames
  unfolding quoted_by
  quoted-beyond quoted [] = refl
  quoted-beyond quoted (f ∷ fs) = refl

  pub length-beyond : (frames : List Frame) → length (frames_after front frames) ≡ length frames
  length-beyond [] = refl
  length-beyond (f ∷ fs) = refl
