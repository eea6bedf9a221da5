-- The marks of a source, with the text around them, as events.
use Rattle.std.specs.Prelude.{◌≡◌, ℕ, ◌+◌, ◌-◌, ◌^◌, ◌<◌, Bool, true, false, not, ◌&&◌, ◌==◌, ◌||◌, if◌then◌else◌, List, [], ◌∷◌, ◌++◌, length, map, get_or, replicate, encode_utf8, ⊤}
use Rattle.std.specs.List.{slice_range, list_all}
use Rattle.std.specs.Str.{byte}
use Rattle.cm_text.specs.Unescaping.{unescape}
use Rattle.cm_tree.specs.Definitions.{Target, Targets, target_numbered}
use Rattle.cm_tree.specs.declared.tree.Inline.TheVariants as inlines
use Rattle.cm_scan.specs.spans.CodeSpans.{one_line}
use Rattle.cm_inline.specs.declared.marks.Kind.{Kind}
use Rattle.cm_inline.specs.declared.marks.Kind.TheVariants as kinds
use Rattle.cm_inline.specs.declared.marks.Mark.{Mark}
use Rattle.cm_inline.specs.declared.links.Target.{Target as PlacedTarget}
use Rattle.cm_inline.specs.declared.links.Target.TheVariants.{Written, Defined}
use Rattle.cm_inline.specs.declared.brackets.Link.{Link}
use Rattle.cm_inline.specs.declared.brackets.Reader.{Reader}
use Rattle.cm_inline.specs.declared.runs.Run.{Run as HeldRun}
use Rattle.cm_inline.specs.steps.pairing.Events.{Tag, LinkTag, Event, Text, Whole, Start, End}
use Rattle.cm_inline.specs.steps.pairing.Parts.{Part, Numbered, Known, events_of}
use Rattle.cm_inline.specs.steps.pairing.States.{AreChained, run_at}
use Rattle.cm_inline.specs.steps.pairing.Readings.{Tags, page, write_all}
use Rattle.cm_inline.specs.steps.Runs.{byte_of, runs_in, pairs_in}
use Rattle.cm_inline.specs.steps.Standalone.{IsBetween, autolink}

-- the destination and the title of a link, by their places or by the number of a definition
abbrev pub target_in : List ℕ → Targets → PlacedTarget → Target
target_in source targets (Written dest dest_end title title_end) = (unescape (slice_range source dest dest_end), unescape (slice_range source title title_end))
target_in source targets (Defined entry) = target_numbered targets entry

abbrev pub link_tag : List ℕ → Targets → ℕ → Link → Tag
link_tag source targets number link = LinkTag number link.image (target_in source targets link.target).0 (target_in source targets link.target).1

abbrev pub no_link : Link
no_link = record { image = false; target = Written 0 0 0 0 }

abbrev pub tag_numbered : List ℕ → Targets → List Link → ℕ → Tag
tag_numbered source targets links number = link_tag source targets number (get_or links number no_link)

abbrev pub mark_at : (at end : ℕ) → Kind → Mark
mark_at at end kind = record { at = at; end = end; kind = kind }

-- the part that a mark is
abbrev pub part_of_kind : List ℕ → Targets → List Link → (at end : ℕ) → Kind → Part
part_of_kind source targets links at end kinds.Plain = Known (Text (slice_range source at end) ∷ [])
part_of_kind source targets links at end kinds.Escaped = Known (Text (slice_range source at end) ∷ [])
part_of_kind source targets links at end kinds.Nothing = Known []
part_of_kind source targets links at end (kinds.Character c) = Known (Text (encode_utf8 c) ∷ [])
part_of_kind source targets links at end (kinds.Code from to) = Known (Whole (inlines.Code (one_line (slice_range source from to))) ∷ [])
part_of_kind source targets links at end kinds.Html = Known (Whole (inlines.Html (slice_range source at end)) ∷ [])
part_of_kind source targets links at end (kinds.Autolink is_address) = Known (Whole (autolink is_address (slice_range source (at + 1) (end - 1))) ∷ [])
part_of_kind source targets links at end kinds.Soft = Known (Whole inlines.Soft ∷ [])
part_of_kind source targets links at end kinds.Hard = Known (Whole inlines.Hard ∷ [])
part_of_kind source targets links at end (kinds.Run number) = Numbered number
part_of_kind source targets links at end (kinds.Start number) = Known (Start (tag_numbered source targets links number) ∷ [])
part_of_kind source targets links at end (kinds.End number) = Known (End (tag_numbered source targets links number) ∷ [])

abbrev pub part_of : List ℕ → Targets → List Link → Mark → Part
part_of source targets links mark = part_of_kind source targets links mark.at mark.end mark.kind

-- a byte of text: a line feed is a soft line break
abbrev pub text_event : ℕ → Event
text_event b = if b == byte "\n" then Whole inlines.Soft else Text (b ∷ [])

abbrev pub text_part : ℕ → Part
text_part b = Known (text_event b ∷ [])

abbrev pub texts : List ℕ → List Part
texts text = map text_part text

-- the marks between two places, and the text around them
unfoldable pub parts_between : List ℕ → Targets → List Link → (from to : ℕ) → List Mark → List Part
parts_between source targets links from to [] = texts (slice_range source from to)
parts_between source targets links from to (m ∷ ms) = texts (slice_range source from m.at) ++ part_of source targets links m ∷ parts_between source targets links m.end to ms

-- the parts of a whole source, and the events
abbrev pub parts_in : List ℕ → Targets → Reader → List Part
parts_in source targets reader = parts_between source targets reader.links.items 0 (length source) reader.marks.items

abbrev pub events_in : List ℕ → Targets → Reader → List Event
events_in source targets reader = events_of (runs_in reader.runs.list.runs) (pairs_in reader.runs.pairs.items) (parts_in source targets reader)

-- a byte that HTML has as a reference
abbrev pub is_escaped : ℕ → Bool
is_escaped b = b == byte "&" || b == byte "<" || b == byte ">" || b == byte "\""

-- what HTML doesn't have as it is of a code span: `&`, `<`, `>`, `"` and a line feed; and a backtick, which ends it
abbrev pub is_changed_in_code : ℕ → Bool
is_changed_in_code b = b == 38 || b == 60 || b == 62 || b == 34 || b == 10 || b == 96

-- a space, or a line feed, which becomes one
abbrev pub is_space_in_code : ℕ → Bool
is_space_in_code b = b == 32 || b == 10

-- a byte of the text between marks; if lines are wanted, a line feed has a mark
abbrev pub stays_text : (lines : Bool) → ℕ → Bool
stays_text lines b = not (is_escaped b) && not (lines && b == byte "\n")

-- text without a mark
pub record IsUnmarked (lines : Bool) (source : List ℕ) (from to : ℕ) : Type 0 where
  pub between : IsBetween source from to
  pub text : list_all (stays_text lines) (slice_range source from to) ≡ true

-- the places of a link's destination and title part characters, and its definition is one of the table
abbrev pub IsTargetIn : List ℕ → Targets → PlacedTarget → Type 0
IsTargetIn source targets (Written dest dest_end title title_end) = IsBetween source dest dest_end × IsBetween source title title_end
IsTargetIn source targets (Defined entry) = entry < length targets

pub record IsLinkIn (source : List ℕ) (targets : Targets) (links : List Link) (number : ℕ) : Type 0 where
  pub known : number < length links
  pub target : IsTargetIn source targets (get_or links number no_link).target

-- what is needed of a mark besides that its places part characters
abbrev pub IsOfKind : List ℕ → Targets → List HeldRun → List Link → (at end : ℕ) → Kind → Type 0
IsOfKind source targets runs links at end kinds.Plain = list_all (stays_text false) (slice_range source at end) ≡ true
IsOfKind source targets runs links at end kinds.Escaped = (b : ℕ) × (is_escaped b ≡ true) × (slice_range source at end ≡ b ∷ [])
IsOfKind source targets runs links at end (kinds.Code from to) = IsBetween source from to
IsOfKind source targets runs links at end (kinds.Autolink is_address) = IsBetween source (at + 1) (end - 1)
IsOfKind source targets runs links at end (kinds.Run number) =
    (number < length runs) × (slice_range source at end ≡ replicate (run_at runs number).run.whole (byte_of (run_at runs number).run.marker))
IsOfKind source targets runs links at end (kinds.Start number) = IsLinkIn source targets links number
IsOfKind source targets runs links at end (kinds.End number) = IsLinkIn source targets links number
IsOfKind source targets runs links at end _ = ⊤

-- marks in order between two places, with text around them
abbrev pub AreLaid : (lines : Bool) → List ℕ → Targets → List HeldRun → List Link → (from to : ℕ) → List Mark → Type 0
AreLaid lines source targets runs links from to [] = IsUnmarked lines source from to
AreLaid lines source targets runs links from to (m ∷ ms) =
    IsUnmarked lines source from m.at × IsBetween source m.at m.end × IsOfKind source targets runs links m.at m.end m.kind × AreLaid lines source targets runs links m.end to ms

-- A source was read to its end, and nothing more is made of its marks: they can be written from it.
pub record IsSettled (lines : Bool) (source : List ℕ) (targets : Targets) (reader : Reader) : Type 0 where
  pub short : length source < 2 ^ 32
  pub laid : AreLaid lines source targets reader.runs.list.runs reader.links.items 0 (length source) reader.marks.items
  pub chained : AreChained (runs_in reader.runs.list.runs) (pairs_in reader.runs.pairs.items)
  pub ends : (write_all (page [] Tags) (events_in source targets reader)).mode ≡ Tags
