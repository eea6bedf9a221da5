-- What starts at a place of a source, and what reading on from there brings.
use Rattle.std.specs.Prelude.{◌≡◌, ℕ, zero, ◌+◌, ◌-◌, ◌*◌, ◌^◌, ◌<◌, ◌≤◌, ◌==◌, ◌||◌, if◌then◌else◌, nat_lt, Bool, true, false, List, [], ◌∷◌, ◌++◌, Option, Some, None, length, take, drop, reverse, slice_index, encode_utf8_all, replicate, ⊤}
use Rattle.std.specs.List.{list_all, slice_range}
use Rattle.std.specs.Str.{IsCharBoundary, byte}
use Rattle.cm_text.specs.Rules.{Rules}
use Rattle.cm_text.specs.References.{chars_of}
use Rattle.cm_tree.specs.declared.tree.Inline.{Inline}
use Rattle.cm_tree.specs.declared.tree.Inline.TheVariants as inline
use Rattle.cm_scan.specs.inlines.Pairing as items
use Rattle.cm_scan.specs.inlines.Pairing.{Item}
use Rattle.cm_scan.specs.inlines.Atoms.{Atom, Plain, Whole, Delimiter, OpenBracket, CloseBracket, AtomRead, atom_at}
use Rattle.cm_scan.specs.inlines.Pieces.{in_pieces}
use Rattle.cm_scan.specs.inlines.Brackets.{Defined}
use Rattle.cm_scan.specs.spans.CodeSpans.{one_line}
use Rattle.cm_html.specs.Html.{inlines_html}
use Rattle.cm_scan.specs.inlines.Inlines.{items_after, inlines_of, nests_past}
use Rattle.cm_scan.specs.laws.InlineLaws.{is_plain_byte, keeps_spaces}
use Rattle.cm_scan.specs.inlines.DelimiterRuns.{runs_after, runs_of, characters_of}
use Rattle.cm_inline.specs.Closers.{kinds_by}
use Rattle.cm_inline.specs.Emphases.{emphases_of}
use Rattle.cm_inline.specs.Reading.{looks_at_most}
use Rattle.cm_inline.specs.declared.atoms.Atom.{Atom as ReadAtom}
use Rattle.cm_inline.specs.declared.atoms.Atom.TheVariants as read
use Rattle.cm_inline.specs.declared.marks.Kind.{Kind}
use Rattle.cm_inline.specs.declared.marks.Kind.TheVariants as kinds
use Rattle.cm_inline.specs.steps.Marks.{is_escaped, stays_text}
use Rattle.cm_inline.specs.steps.Runs.{byte_of, run_of}
use Rattle.cm_inline.specs.steps.Searching.{kind}
use Rattle.cm_inline.specs.steps.Standalone.{IsBetween, autolink}
use Rattle.cm_inline.specs.steps.Pairs.{AreOf, allowance, items_emphases}

-- this byte is at the place, where a character starts, in a source whose places have 32 bits
pub record Stands (source : List ℕ) (at b : ℕ) : Type 0 where
  pub short : length source < 2 ^ 32
  pub within : at < length source
  pub boundary : IsCharBoundary source at
  pub byte : slice_index source at ≡ b

-- the atom at a place of a source
abbrev pub atom_in : Rules → List ℕ → ℕ → AtomRead
atom_in rules source at = atom_at rules (reverse (take at source)) (slice_index source at) (drop (at + 1) source)

-- What is between the places is text, after which the source is at its end or has an ASCII character.
pub record IsTextTo (source : List ℕ) (at end : ℕ) : Type 0 where
  pub low : at ≤ end
  pub boundary : IsCharBoundary source end
  pub plain : list_all is_plain_byte (slice_range source at end) ≡ true
  pub spaces : keeps_spaces (drop end source) (slice_range source at end) ≡ true
  pub stays : list_all (stays_text true) (slice_range source at end) ≡ true
  pub ascii : end < length source → slice_index source end < 128

-- By all rules and whatever is defined, the HTML of a source is the source, and nothing nests in it.
pub record IsAllText (source : List ℕ) : Type 0 where
  pub html : (rules : Rules) (defined : Defined) → inlines_html (inlines_of rules defined source) ≡ source
  pub flat : (rules : Rules) (defined : Defined) (limit : ℕ) → nests_past rules defined limit source ≡ false

-- a byte with which a line break can start
abbrev pub is_break_byte : ℕ → Bool
is_break_byte b = b == byte "\n" || b == byte " "

-- what an atom puts among the items; a `]` puts nothing by itself
abbrev pub item_for : Atom → List ℕ → Option items.Item
item_for (Plain text) rest = Some (items.Characters text)
item_for (Whole inline) rest = Some (items.Finished inline)
item_for (Delimiter run) rest = Some (items.Delimiters run)
item_for (OpenBracket image) rest = Some (items.Opener image rest)
item_for CloseBracket rest = None

-- An item that an atom puts holds no emphasis yet, and a run is of the first kinds, of which there is the given number, and has all its characters left.
abbrev pub IsNew : (kinds : ℕ) → items.Item → Type 0
IsNew kinds (items.Finished inline) = emphases_of inline ≡ 0
IsNew kinds (items.Linked inline) = emphases_of inline ≡ 0
IsNew kinds (items.Delimiters run) = (kind run < kinds) × (run.left ≡ run.whole) × (1 ≤ run.whole)
IsNew kinds _ = ⊤

-- The atom at the place, which ends at the other, puts the item.
pub record IsAtom (rules : Rules) (source : List ℕ) (at : ℕ) (item : Item) (end : ℕ) : Type 0 where
  pub rest : (atom_in rules source at).rest ≡ drop end source
  pub item_is : item_for (atom_in rules source at).atom (atom_in rules source at).rest ≡ Some item
  pub further : at < end
  pub within : end ≤ length source
  pub boundary : IsCharBoundary source end
  pub fresh : IsNew (kinds_by rules) item

-- the inline that a mark of its own is
abbrev pub inline_in : List ℕ → (at end : ℕ) → Kind → Inline
inline_in source at end (kinds.Code from to) = inline.Code (one_line (slice_range source from to))
inline_in source at end kinds.Html = inline.Html (slice_range source at end)
inline_in source at end (kinds.Autolink is_address) = autolink is_address (slice_range source (at + 1) (end - 1))
inline_in source at end kinds.Hard = inline.Hard
inline_in source at end _ = inline.Soft

-- the item of an atom that was read
abbrev pub item_in : List ℕ → (at end : ℕ) → ReadAtom → Item
item_in source at end read.Text = items.Characters (slice_range source at end)
item_in source at end read.Escaped = items.Characters (slice_range source at end)
item_in source at end read.Escape = items.Characters (slice_range source (at + 1) end)
item_in source at end (read.Reference chars) = items.Characters (encode_utf8_all (chars_of chars))
item_in source at end (read.Whole kind) = items.Finished (inline_in source at end kind)
item_in source at end read.LineFeed = items.Finished inline.Soft
item_in source at end (read.Opener image) = items.Opener image (drop end source)
item_in source at end (read.Run run) = items.Delimiters (run_of run)

-- a mark that is an inline of its own has its places in the source
abbrev pub IsInline : List ℕ → (at end : ℕ) → Kind → Type 0
IsInline source at end (kinds.Code from to) = IsBetween source from to
IsInline source at end kinds.Html = ⊤
IsInline source at end (kinds.Autolink is_address) = IsBetween source (at + 1) (end - 1)
IsInline source at end kinds.Soft = ⊤
IsInline source at end kinds.Hard = ⊤
IsInline source at end _ = ⊥

-- what the source has where an atom was read
abbrev pub IsThere : List ℕ → (at end : ℕ) → ReadAtom → Type 0
IsThere source at end read.Text = list_all (stays_text true) (slice_range source at end) ≡ true
IsThere source at end read.Escaped = (b : ℕ) × (is_escaped b ≡ true) × (slice_range source at end ≡ b ∷ [])
IsThere source at end read.Escape = (b : ℕ) × (end ≡ at + 2) × IsCharBoundary source (at + 1) × (slice_range source (at + 1) end ≡ b ∷ []) × (b ≡ slice_index source (at + 1)) × ((b == byte "\n") ≡ false)
IsThere source at end (read.Reference chars) = ⊤
IsThere source at end (read.Whole kind) = IsInline source at end kind
IsThere source at end read.LineFeed = (end ≡ at + 1) × (slice_range source at end ≡ byte "\n" ∷ [])
IsThere source at end (read.Opener image) = (at + length (items.bracket_text image) ≡ end) × (drop at source ≡ items.bracket_text image ++ drop end source)
IsThere source at end (read.Run run) = slice_range source at end ≡ replicate run.whole (byte_of run.marker)

-- An atom was read at the place.
pub record Begins (rules : Rules) (source : List ℕ) (at : ℕ) (atom : ReadAtom) (end : ℕ) : Type 0 where
  pub is : IsAtom rules source at (item_in source at end atom) end
  pub there : IsThere source at end atom

-- the items to which reading on from a place brings these, with each text in pieces of a byte
abbrev pub ahead : Rules → Defined → List ℕ → List Item → ℕ → List Item
ahead rules defined source so_far at = in_pieces (reverse (items_after rules defined zero (reverse (take at source)) (drop at source) (reverse so_far)))

-- the source between two places as text, if there is any
abbrev pub text_items : List ℕ → (from to : ℕ) → List Item
text_items source from to = if nat_lt from to then items.Characters (slice_range source from to) ∷ [] else []

-- how many characters the delimiter runs have that follow a place, where these items are before it
abbrev pub characters_ahead : Rules → Defined → List ℕ → List Item → ℕ → ℕ
characters_ahead rules defined source so_far at = characters_of (runs_after rules defined zero (reverse (take at source)) (drop at source) (reverse so_far))

-- A source is read up to a place with the given number of looks: the looks for which the items pay and those that the runs ahead allow are
-- enough, and each emphasis that was made took one.
pub record Pays (rules : Rules) (defined : Defined) (source : List ℕ) (so_far : List Item) (at looks : ℕ) : Type 0 where
  pub are : AreOf (kinds_by rules) so_far
  pub paid : looks + allowance (kinds_by rules) so_far + looks_at_most rules * characters_ahead rules defined source so_far at ≤ looks_at_most rules * characters_of (runs_of rules defined source)
  pub made : items_emphases so_far ≤ looks
