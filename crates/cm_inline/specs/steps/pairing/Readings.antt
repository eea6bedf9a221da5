-- Known readings of events, as the loops over parts go: the HTML, with an image's alternative text up to its end, and how deep they nest.
use Rattle.std.specs.Prelude.{◌≡◌, ℕ, suc, ◌+◌, ◌-◌, ◌≤◌, Bool, true, false, ◌==◌, if◌then◌else◌, max, List, [], ◌∷◌, ◌++◌, flat_map, replicate, codes, Option, Some, None, ⊤}
use Rattle.cm_tree.specs.Depth.{depth_of}
use Rattle.cm_html.specs.declared.elements.Element.TheVariants.{Emph, Strong, Strike}
use Rattle.cm_html.specs.Elements.{start_tag, end_tag}
use Rattle.cm_html.specs.Escape.{escape}
use Rattle.cm_html.specs.Html.{rendered, link_start, image_start, title_html}
use Rattle.cm_scan.specs.inlines.Pairing.{Item}
use Rattle.cm_inline.specs.steps.Depths.{items_depth}
use Rattle.cm_inline.specs.steps.pairing.Events.{Event, Text, Rest, Whole, Tag, Emphasis, StrongEmphasis, Strikethrough, LinkTag, Start, End, Means, leaf}

abbrev pub start_html : Tag → List ℕ
start_html Emphasis = start_tag Emph
start_html StrongEmphasis = start_tag Strong
start_html Strikethrough = start_tag Strike
start_html (LinkTag number false dest title) = link_start dest title
start_html (LinkTag number true dest title) = image_start dest

abbrev pub end_html : Tag → List ℕ
end_html Emphasis = end_tag Emph
end_html StrongEmphasis = end_tag Strong
end_html Strikethrough = end_tag Strike
end_html (LinkTag number false dest title) = codes "</a>"
end_html (LinkTag number true dest title) = codes "\"" ++ title_html title ++ codes " />"

-- tags are written, or the alternative text of the image of this number
pub data Mode : Type 0 where
  Tags : Mode
  Alternative : ℕ → Mode

abbrev pub is_number : ℕ → Tag → Bool
is_number n (LinkTag number image dest title) = number == n
is_number n tag = false

abbrev pub mode_of : Tag → Mode
mode_of (LinkTag number true dest title) = Alternative number
mode_of tag = Tags

-- the HTML so far, and what is written
pub record Page : Type 0 where
  pub html : List ℕ
  pub mode : Mode

abbrev pub page : List ℕ → Mode → Page
page html mode = record { html = html; mode = mode }

abbrev pub write : List ℕ → Mode → Event → Page
write html mode (Text t) = page (html ++ escape t) mode
write html mode (Rest number run) = page (html ++ escape (replicate run.left run.character)) mode
write html Tags (Whole i) = page (html ++ (rendered i).html) Tags
write html (Alternative n) (Whole i) = page (html ++ escape (rendered i).plain) (Alternative n)
write html Tags (Start tag) = page (html ++ start_html tag) (mode_of tag)
write html (Alternative n) (Start tag) = page html (Alternative n)
write html Tags (End tag) = page (html ++ end_html tag) Tags
write html (Alternative n) (End tag) = if is_number n tag then page (html ++ end_html tag) Tags else page html (Alternative n)

unfoldable pub write_all : Page → List Event → Page
write_all p [] = p
write_all p (f ∷ fs) = write_all (write p.html p.mode f) fs

-- what an item writes among tags, and in an alternative text
abbrev pub item_html : Item → List ℕ
item_html item = (write [] Tags (leaf item)).html

abbrev pub item_plain : Item → List ℕ
item_plain item = (write [] (Alternative 0) (leaf item)).html

-- no end of a link of this number is among events
abbrev pub IsFree : ℕ → Event → Type 0
IsFree n (End tag) = is_number n tag ≡ false
IsFree n f = ⊤

abbrev pub AreFree : ℕ → List Event → Type 0
AreFree n [] = ⊤
AreFree n (f ∷ fs) = IsFree n f × AreFree n fs

-- the events write what the items write
pub record Writes (fs : List Event) (items : List Item) : Type 0 where
  pub tags : (html : List ℕ) → write_all (page html Tags) fs ≡ page (html ++ flat_map item_html items) Tags
  pub alternative : (html : List ℕ) (n : ℕ) → AreFree n fs → write_all (page html (Alternative n)) fs ≡ page (html ++ flat_map item_plain items) (Alternative n)

-- how deep it nests, and how deep at most so far; nothing comes of an end where nothing is open
unfoldable pub deepest : (depth most : ℕ) → List Event → Option ℕ
deepest depth most [] = if depth == 0 then Some most else None
deepest depth most (Text t ∷ fs) = deepest depth most fs
deepest depth most (Rest number run ∷ fs) = deepest depth most fs
deepest depth most (Whole i ∷ fs) = deepest depth (max most (depth + depth_of i)) fs
deepest depth most (Start tag ∷ fs) = deepest (depth + 1) (max most (depth + 1)) fs
deepest depth most (End tag ∷ fs) = if depth == 0 then None else deepest (depth - 1) most fs

-- events nest as the items do, wherever they stand
abbrev pub Nests : List Event → List Item → Type 0
Nests fs items = (depth most : ℕ) (more : List Event) → depth ≤ most → deepest depth most (fs ++ more) ≡ deepest depth (max most (depth + items_depth items)) more

-- how many starts there are
abbrev pub starts_in : List Event → ℕ
starts_in [] = 0
starts_in (Start tag ∷ fs) = suc (starts_in fs)
starts_in (f ∷ fs) = starts_in fs

-- each start is one level at most, and an autolink one more
pub record IsNear (fs : List Event) (items : List Item) : Type 0 where
  pub bound : items_depth items ≤ starts_in fs + 1

-- an image's number is not that of a link inside it
abbrev pub IsAlone : Tag → List Event → Type 0
IsAlone (LinkTag number true dest title) fs = AreFree number fs
IsAlone tag fs = ⊤

-- The events stand for the items, wherever they stand: they come to the same inlines, write the same, and nest as deep.
pub record StandFor (fs : List Event) (items : List Item) : Type 0 where
  pub means : Means fs items
  pub writes : Writes fs items
  pub nests : Nests fs items
  pub near : IsNear fs items
