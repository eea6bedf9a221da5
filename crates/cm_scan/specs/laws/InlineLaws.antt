-- Laws of the definitions of inlines.
use Rattle.std.specs.Prelude.{◌≡◌, ℕ, zero, Bool, true, false, not, ◌&&◌, ◌||◌, ◌==◌, nat_le, if◌then◌else◌, List, [], ◌∷◌, ◌++◌, replicate, reverse}
use Rattle.std.specs.List.{list_all}
use Rattle.cm_text.specs.Rules.{Rules}
use Rattle.cm_text.specs.Search.{is_marked}
use Rattle.cm_tree.specs.declared.tree.Inline.TheVariants.{Soft, Hard}
use Rattle.cm_scan.specs.Words.{begins_with}
use Rattle.cm_scan.specs.spans.Autolinks.{ends_with}
use Rattle.cm_scan.specs.inlines.Pairing.{Item, Finished, text_before}
use Rattle.cm_scan.specs.inlines.Pieces.{one_by_one}
use Rattle.cm_scan.specs.inlines.Atoms.{is_markup}
use Rattle.cm_scan.specs.inlines.Brackets.{Defined, close_bracket}
use Rattle.cm_scan.specs.inlines.Inlines.{item_step, items_after, inlines_of}

-- Reading continues after a step as if the source started there: only the bytes before it matter, and the items so far.
abbrev pub ReadingGoesOn : Type 0
ReadingGoesOn = (rules : Rules) (defined : Defined) (before : List ℕ) (b : ℕ) (taken rest : List ℕ) (items : List Item)
    → (item_step rules defined before b (taken ++ rest) items).rest ≡ rest
    → items_after rules defined zero before (b ∷ (taken ++ rest)) items
    ≡ items_after rules defined zero (reverse taken ++ b ∷ before) rest (item_step rules defined before b (taken ++ rest) items).items

-- What a step leaves of a source is an end of it.
abbrev pub StepLeavesAnEnd : Type 0
StepLeavesAnEnd = (rules : Rules) (defined : Defined) (before : List ℕ) (b : ℕ) (bs : List ℕ) (items : List Item)
    → (taken : List ℕ) × (bs ≡ taken ++ (item_step rules defined before b bs items).rest)

-- At a `]` the step is that of brackets, whatever comes before it.
abbrev pub BracketStep : Type 0
BracketStep = (rules : Rules) (defined : Defined) (before rest : List ℕ) (items : List Item)
    → item_step rules defined before 93 rest items ≡ close_bracket rules defined items rest

-- a space, or a byte that starts no markup
abbrev pub is_plain_byte : ℕ → Bool
is_plain_byte b = b == 32 || not (is_markup b)

-- The bytes that `next_marked` skips are plain.
abbrev pub UnmarkedIsPlain : Type 0
UnmarkedIsPlain = (b : ℕ) → is_marked b ≡ false → is_plain_byte b ≡ true

-- A source of plain bytes is one text, itself, with any rules and definitions.
abbrev pub PlainIsItself : Type 0
PlainIsItself = (rules : Rules) (defined : Defined) (source : List ℕ) → list_all is_plain_byte source ≡ true
    → inlines_of rules defined source ≡ text_before source []

-- the text doesn't end with a space before a space or a line feed, so its spaces stay text
abbrev pub keeps_spaces : List ℕ → List ℕ → Bool
keeps_spaces rest text = not ((begins_with 32 rest || begins_with 10 rest) && ends_with 32 text)

-- Plain bytes are text, whatever follows, except for spaces at their end before a space or a line feed.
abbrev pub PlainFrontIsText : Type 0
PlainFrontIsText = (rules : Rules) (defined : Defined) (before text rest : List ℕ) (items : List Item) → list_all is_plain_byte text ≡ true
    → keeps_spaces rest text ≡ true
    → items_after rules defined zero before (text ++ rest) items
    ≡ items_after rules defined zero (reverse text ++ before) rest (reverse (one_by_one text) ++ items)

-- Spaces and a line feed are a line break: hard with two spaces or more, and soft with fewer.
abbrev pub SpacesAndLineFeed : Type 0
SpacesAndLineFeed = (rules : Rules) (defined : Defined) (before rest : List ℕ) (n : ℕ) (items : List Item) → items_after rules defined zero before (replicate n 32 ++ 10 ∷ rest) items
    ≡ items_after rules defined zero (10 ∷ (replicate n 32 ++ before)) rest (Finished (if nat_le 2 n then Hard else Soft) ∷ items)
