-- Links and images by their brackets (CommonMark 0.31.2, 6.3 Links, 6.4 Images). The items so far are in reverse.
use Rattle.std.specs.Prelude.{ℕ, ◌-◌, Bool, true, false, not, ◌&&◌, ◌||◌, List, [], ◌∷◌, ◌++◌, length, take, reverse, Option, Some, None, codes, if◌then◌else◌}
use Rattle.std.specs.Option.{option_map}
use Rattle.std.specs.Str.{byte}
use Rattle.cm_text.specs.Rules.{Rules}
use Rattle.cm_text.specs.Addresses.{is_followed}
use Rattle.cm_text.specs.Labels.{fold_label}
use Rattle.cm_text.specs.Unescaping.{unescape}
use Rattle.cm_tree.specs.Definitions.{Target, Targets, target_under}
use Rattle.cm_tree.specs.declared.tree.Inline.TheVariants.{Link, Image}
use Rattle.cm_scan.specs.Words.{is_empty, after_word, given, ◌<|>◌, ◌and_then◌}
use Rattle.cm_scan.specs.spans.Tags.{is_blank_next, after_gap}
use Rattle.cm_scan.specs.inlines.Links.{label, destination, title}
use Rattle.cm_scan.specs.inlines.Pairing.{Item, Characters, Finished, Linked, Opener, bracket_text, emphasis_of}

-- the destination and title of a link or an image, and what is left of the source after it
pub record LinkEnd : Type 0 where
  pub dest : List ℕ
  pub title : List ℕ
  pub rest : List ℕ

abbrev pub link_end : Target → List ℕ → LinkEnd
link_end target rest = record { dest = target.0; title = target.1; rest = rest }

-- the end of an inline link: a gap, and `)`; destination and title as they are written
abbrev pub closed : (dest title : List ℕ) → List ℕ → Option LinkEnd
closed dest title text = option_map (link_end (unescape dest, unescape title)) (after_word (codes ")") (after_gap text))

-- after a destination: a title that a gap separates from it, or none, and the end
unfoldable pub after_destination : (dest : List ℕ) → List ℕ → Option LinkEnd
after_destination dest text = elim (is_blank_next text) [
  | true ↦ elim (title (after_gap text)) [ Some t ↦ closed dest t.text t.rest | None ↦ closed dest [] text ]
  | false ↦ closed dest [] text
]

-- An inline link consists of a link text followed immediately by a left parenthesis `(`, an optional link destination, an optional
-- link title, and a right parenthesis `)`. These four components may be separated by spaces, tabs, and up to one line ending. There
-- is no title without a destination.
unfoldable pub inline_end : List ℕ → Option LinkEnd
inline_end text = after_word (codes "(") text and_then λ inside. elim (destination (after_gap inside)) [
  | Some d ↦ after_destination d.text d.rest
  | None ↦ closed [] [] inside
]

-- the target of each folded label, if it is defined
abbrev pub Defined : Type 0
Defined = List ℕ → Option Target

-- the definitions of a document's table
abbrev pub defined_in : Targets → Defined
defined_in targets folded = target_under folded targets

abbrev pub target_of : Defined → List ℕ → Option Target
target_of defined source = defined (fold_label source)

-- the source between the brackets is a link label that matches a definition
abbrev pub target_between : Defined → List ℕ → Option Target
target_between defined source = label (codes "[" ++ source ++ codes "]") and_then λ l.
    elim (is_empty l.rest) [ true ↦ target_of defined source | false ↦ None ]

-- A collapsed reference link consists of a link label that matches a link reference definition elsewhere in the document, followed
-- by the string `[]`. A shortcut reference link is not followed by `[]` or a link label.
abbrev pub collapsed_or_shortcut : Option Target → List ℕ → Option LinkEnd
collapsed_or_shortcut None text = None
collapsed_or_shortcut (Some target) text = elim (after_word (codes "[]") text) [ Some rest ↦ Some (link_end target rest) | None ↦ Some (link_end target text) ]

-- A full reference link consists of a link text immediately followed by a link label that matches a link reference definition. Where
-- a label follows that matches none, there is no other reference link either.
unfoldable pub reference_end : Defined → (between : List ℕ) → List ℕ → Option LinkEnd
reference_end defined between text = elim (label text) [
  | Some l ↦ elim (target_of defined l.text) [ Some target ↦ Some (link_end target l.rest) | None ↦ None ]
  | None ↦ collapsed_or_shortcut (target_between defined between) text
]

-- an end whose address the rules follow
abbrev pub end_if_followed : Rules → Option LinkEnd → Option LinkEnd
end_if_followed rules found = found and_then λ end. given (is_followed rules end.dest) end

-- What follows a `]` with this source between it and its opener: the end of an inline link, or else a reference, if the rules follow its
-- address (6.3 Links, 6.4 Images).
unfoldable pub end_at : Rules → Defined → (between : List ℕ) → List ℕ → Option LinkEnd
end_at rules defined between text =
    end_if_followed rules (inline_end text) <|> end_if_followed rules (reference_end defined between text)

-- what is before the nearest opener of a `]`, the opener with the source after it, and what is between them
pub record OpenerFound : Type 0 where
  pub before : List Item
  pub image : Bool
  pub source : List ℕ
  pub inside : List Item

unfoldable pub last_opener : List Item → List Item → Option OpenerFound
last_opener [] inside = None
last_opener (Opener image source ∷ before) inside = Some (record { before = before; image = image; source = source; inside = inside })
last_opener (item ∷ before) inside = last_opener before (item ∷ inside)

abbrev pub is_linked : Item → Bool
is_linked (Linked inline) = true
is_linked _ = false

-- a link that a `]` made, at any depth
unfoldable pub holds_link : List Item → Bool
holds_link [] = false
holds_link (item ∷ items) = is_linked item || holds_link items

-- The link or image with these items as its content. An image that contains a link counts as one.
abbrev pub made : (image : Bool) → (dest title : List ℕ) → List Item → Item
made false dest title inside = Linked (Link dest title (emphasis_of inside))
made true dest title inside =
    if holds_link inside then Linked (Image dest title (emphasis_of inside)) else Finished (Image dest title (emphasis_of inside))

-- the items after a `]`, in reverse, and what is left of the source
pub record Bracketed : Type 0 where
  pub items : List Item
  pub rest : List ℕ

abbrev pub bracket_is_text : List Item → List Item
bracket_is_text items = Characters (codes "]") ∷ items

-- both brackets are text
abbrev pub brackets_are_text : OpenerFound → List Item
brackets_are_text found = bracket_is_text (reverse found.inside ++ Characters (bracket_text found.image) ∷ found.before)

-- the source after an opener, up to what is left
unfoldable pub source_up_to : (source left : List ℕ) → List ℕ
source_up_to source left = take (length source - length left) source

-- A `]` with an opener, and what follows it. Links may not contain other links, at any level of nesting: a `[` with a link after it is
-- text.
unfoldable pub closed_by_bracket : Rules → Defined → OpenerFound → List ℕ → Bracketed
closed_by_bracket rules defined found rest = elim (not found.image && holds_link found.inside) [
  | true ↦ record { items = brackets_are_text found; rest = rest }
  | false ↦ elim (end_at rules defined (source_up_to found.source (byte "]" ∷ rest)) rest) [
    | Some end ↦ record { items = made found.image end.dest end.title found.inside ∷ found.before; rest = end.rest }
    | None ↦ record { items = brackets_are_text found; rest = rest }
  ]
]

-- A `]` makes a link or an image with the nearest `[` or `![` that is still open, if what follows is the end of one; otherwise both
-- brackets are text. Links may not contain other links, at any level of nesting (6.3 Links, 6.4 Images).
unfoldable pub close_bracket : Rules → Defined → List Item → List ℕ → Bracketed
close_bracket rules defined items rest = elim (last_opener items []) [
  | Some found ↦ closed_by_bracket rules defined found rest
  | None ↦ record { items = bracket_is_text items; rest = rest }
]
