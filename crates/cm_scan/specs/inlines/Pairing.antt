-- The items of a leaf while it is read, and emphasis by repeated pairing (CommonMark 0.31.2, 6.2 Emphasis and strong emphasis).
use Rattle.std.specs.Prelude.{ℕ, zero, suc, ◌-◌, Bool, true, false, ◌&&◌, ◌==◌, nat_le, List, [], ◌∷◌, ◌++◌, reverse, replicate, sum_by, Option, Some, None, codes, if◌then◌else◌}
use Rattle.cm_tree.specs.declared.tree.Inline.{Inline}
use Rattle.cm_tree.specs.declared.tree.Inline.TheVariants.{Text, Emph, Strong, Strike}
use Rattle.cm_scan.specs.inlines.Delimiters.{Run, delimiters_match}

-- Characters of text; an inline that is finished; a finished link that a `]` made, or an image that contains one; a delimiter run;
-- and `[` or `![` with the source after it.
pub data Item : Type 0 where
  Characters : List ℕ → Item
  Finished : Inline → Item
  Linked : Inline → Item
  Delimiters : Run → Item
  Opener : (image : Bool) → List ℕ → Item

-- `![` or `[` as text
abbrev pub bracket_text : (image : Bool) → List ℕ
bracket_text true = codes "!["
bracket_text false = codes "["

-- a text before inlines, unless it is empty
abbrev pub text_before : List ℕ → List Inline → List Inline
text_before [] inlines = inlines
text_before (b ∷ bs) inlines = Text (b ∷ bs) ∷ inlines

-- The inlines of items that nothing more is made of, after characters of the text before them.
unfoldable pub settled_after : List ℕ → List Item → List Inline
settled_after text [] = text_before text []
settled_after text (Characters more ∷ items) = settled_after (text ++ more) items
settled_after text (Finished inline ∷ items) = text_before text (inline ∷ settled_after [] items)
settled_after text (Linked inline ∷ items) = text_before text (inline ∷ settled_after [] items)
settled_after text (Delimiters run ∷ items) = settled_after (text ++ replicate run.left run.character) items
settled_after text (Opener image source ∷ items) = settled_after (text ++ bracket_text image) items

-- The inlines of items that nothing more is made of: what isn't finished is text, and adjacent texts are one.
abbrev pub settled : List Item → List Inline
settled items = settled_after [] items

-- two characters of each run if both have two left, or else one
abbrev pub used : Run → Run → ℕ
used opener closer = if nat_le 2 opener.left && nat_le 2 closer.left then 2 else 1

-- strong emphasis for two characters of each run, emphasis for one, and strikethrough for tildes
abbrev pub emphasised : (character count : ℕ) → List Inline → Inline
emphasised character count content = if character == 126 then Strike content else (if count == 2 then Strong content else Emph content)

-- a run without the given number of its characters, or nothing if none is left
abbrev pub without : ℕ → Run → List Item
without count run = if nat_le run.left count then [] else Delimiters (record run { left = run.left - count }) ∷ []

-- the items with a pair made of an opener and a closer; runs between them become text
unfoldable pub paired : List Item → Run → List Item → Run → List Item → List Item
paired before opener inside closer after =
    let count = used opener closer in
    before ++ without count opener ++ (Finished (emphasised closer.character count (settled inside)) ∷ without count closer) ++ after

-- the items before an opener, the opener, and the items between it and its closer
pub record Opened : Type 0 where
  pub before : List Item
  pub opener : Run
  pub inside : List Item

-- the nearest opener of a closer; the items before it are given in reverse, and then those already passed
unfoldable pub nearest_opener : Run → List Item → List Item → Option Opened
nearest_opener closer [] inside = None
nearest_opener closer (Delimiters run ∷ before) inside = elim (run.opens && delimiters_match closer run) [
  | true ↦ Some (record { before = reverse before; opener = run; inside = inside })
  | false ↦ nearest_opener closer before (Delimiters run ∷ inside)
]
nearest_opener closer (item ∷ before) inside = nearest_opener closer before (item ∷ inside)

-- The pair of the leftmost run that can close emphasis and has an opener, with the nearest one. The items before are given in
-- reverse, and none of them is such a run.
unfoldable pub pair_leftmost : List Item → List Item → Option (List Item)
pair_leftmost before [] = None
pair_leftmost before (Delimiters run ∷ after) = elim run.closes [
  | true ↦ elim (nearest_opener run before []) [
    | Some found ↦ Some (paired found.before found.opener found.inside run after)
    | None ↦ pair_leftmost (Delimiters run ∷ before) after
  ]
  | false ↦ pair_leftmost (Delimiters run ∷ before) after
]
pair_leftmost before (item ∷ after) = pair_leftmost (item ∷ before) after

-- the same among all items
abbrev pub pair_once : List Item → Option (List Item)
pair_once items = pair_leftmost [] items

-- at most the given number of pairs, one after another
unfoldable pub pairs_within : ℕ → List Item → List Item
pairs_within zero items = items
pairs_within (suc n) items = elim (pair_once items) [ Some more ↦ pairs_within n more | None ↦ items ]

-- what an item adds to a bound of the number of pairs: each pair uses up two or more
abbrev pub room : Item → ℕ
room (Delimiters run) = suc run.left
room _ = zero

-- The items once no run can close emphasis with a matching opener before it: as long as there are such runs, the leftmost and its
-- nearest opener make a pair.
unfoldable pub pair_all : List Item → List Item
pair_all items = pairs_within (sum_by room items) items

-- the inlines of items once all pairs are made
abbrev pub emphasis_of : List Item → List Inline
emphasis_of items = settled (pair_all items)
