-- What parts are read as: texts, inlines that stand by themselves, starts and ends.
use Rattle.std.specs.Prelude.{◌≡◌, ℕ, Bool, true, false, ◌==◌, if◌then◌else◌, List, [], ◌∷◌, ◌++◌, map, replicate}
use Rattle.cm_tree.specs.declared.tree.Inline.{Inline}
use Rattle.cm_tree.specs.declared.tree.Inline.TheVariants.{Emph, Strong, Strike, Link, Image}
use Rattle.cm_scan.specs.inlines.Delimiters.{Run}
use Rattle.cm_scan.specs.inlines.Pairing.{Item, Characters, Finished, Linked, Delimiters, Opener, bracket_text, text_before}

-- what a start and an end make of what holds between them
pub data Tag : Type 0 where
  Emphasis : Tag
  StrongEmphasis : Tag
  Strikethrough : Tag
  LinkTag : (number : ℕ) → (image : Bool) → (dest title : List ℕ) → Tag

abbrev pub made_of : Tag → List Inline → Inline
made_of Emphasis content = Emph content
made_of StrongEmphasis content = Strong content
made_of Strikethrough content = Strike content
made_of (LinkTag number false dest title) content = Link dest title content
made_of (LinkTag number true dest title) content = Image dest title content

-- what a pair makes, by the character and how many of them are used
abbrev pub tag_of : (character count : ℕ) → Tag
tag_of character count = if character == 126 then Strikethrough else (if count == 2 then StrongEmphasis else Emphasis)

-- Text; what is left of a run, by its number; an inline; and the start and the end of emphasis, of a link or an image.
pub data Event : Type 0 where
  Text : List ℕ → Event
  Rest : (number : ℕ) → Run → Event
  Whole : Inline → Event
  Start : Tag → Event
  End : Tag → Event

-- Inlines as far as they are made: those of the innermost node that is open, the text after them, and the inlines of the nodes around it.
pub record Built : Type 0 where
  pub content : List Inline
  pub text : List ℕ
  pub outer : List (List Inline)

abbrev pub ended : Built → List Inline
ended m = m.content ++ text_before m.text []

abbrev pub innermost : List (List Inline) → List Inline
innermost [] = []
innermost (c ∷ cs) = c

abbrev pub others : List (List Inline) → List (List Inline)
others [] = []
others (c ∷ cs) = cs

abbrev pub add_text : Built → List ℕ → Built
add_text m t = record { content = m.content; text = m.text ++ t; outer = m.outer }

abbrev pub add_inline : Built → Inline → Built
add_inline m i = record { content = m.content ++ text_before m.text (i ∷ []); text = []; outer = m.outer }

-- one more
abbrev pub build_one : Built → Event → Built
build_one m (Text t) = add_text m t
build_one m (Rest number run) = add_text m (replicate run.left run.character)
build_one m (Whole i) = add_inline m i
build_one m (Start tag) = record { content = []; text = []; outer = ended m ∷ m.outer }
build_one m (End tag) = record { content = innermost m.outer ++ made_of tag (ended m) ∷ []; text = []; outer = others m.outer }

unfoldable pub build : Built → List Event → Built
build m [] = m
build m (f ∷ fs) = build (build_one m f) fs

-- an item alone
abbrev pub leaf : Item → Event
leaf (Characters t) = Text t
leaf (Finished i) = Whole i
leaf (Linked i) = Whole i
leaf (Delimiters r) = Text (replicate r.left r.character)
leaf (Opener image source) = Text (bracket_text image)

abbrev pub leaves : List Item → List Event
leaves items = map leaf items

-- the events come to what the items come to, wherever they stand
abbrev pub Means : List Event → List Item → Type 0
Means fs items = (m : Built) → build m fs ≡ build m (leaves items)

abbrev pub nothing_built : Built
nothing_built = record { content = []; text = []; outer = [] }

-- the inlines of events
abbrev pub inlines_of : List Event → List Inline
inlines_of fs = ended (build nothing_built fs)
