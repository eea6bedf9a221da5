-- A source as far as it is read, with text or an atom more.
use Rattle.cm_inline.proofs.lemmas.Words.{◌≡◌, ℕ, ◌+◌, ◌^◌, ◌<◌, ◌≤◌, ◌==◌, Bool, true, false, ◌||◌, List, [], ◌∷◌, ◌++◌, length, drop, reverse, Option, Some, None}
use Rattle.cm_inline.proofs.lemmas.Words.{refl, sym, ap, subst, ◌∙◌, arith, append-nil, length-append, nat_lt, if◌then◌else◌, IsUtf8, encode_utf8, encode_utf8_all}
use Rattle.cm_inline.proofs.lemmas.Words.{slice_range, list_all, concat, IsCharBoundary, nat_tests, reverse-append, map-append, length-map, get_or_push}
use Rattle.cm_inline.proofs.lemmas.Words.{IsCharBoundary-start, Rules, Chars, chars_of, Targets, Defined, defined_in, is_linked, holds_link, Item, Characters}
use Rattle.cm_inline.proofs.lemmas.Words.{Finished, Opener, bracket_text, Bracket, Reader, DelimiterRun, Mark, MissingEnds, Kind, HeldRun, rules}
use Rattle.std.specs.Prelude.{not, ◌&&◌, slice_index}
use Rattle.cm_inline.specs.declared.atoms.Atom.{Atom}
use Rattle.cm_inline.specs.declared.atoms.Atom.TheVariants as atoms
use Rattle.cm_inline.specs.declared.marks.Kind.TheVariants as kinds
use Rattle.cm_inline.specs.steps.pairing.Events.{Event, Text, Whole}
use Rattle.cm_tree.specs.declared.tree.Inline.TheVariants as inline
use Rattle.cm_inline.specs.steps.pairing.Parts.{Pair, PairedRun, Part, Known, events_of, IsNoRun}
use Rattle.cm_inline.specs.steps.pairing.Passes.{number_after}
use Rattle.cm_inline.specs.steps.pairing.Readings.{starts_in, StandFor}
use Rattle.cm_inline.specs.steps.pairing.Segments.{Segment, Waiting, Made, is_run, items_in, all_parts, numbers_in, fresh}
use Rattle.cm_inline.specs.steps.Brackets.{MarkedLeaf, is_opener, has_opener, AreClosed, opened, AreOpen, View, view_of, leaf_of, events_for, IsRead, IsReadTo, Reading, marks_for, runs_for, numbers_for, brackets_for, Puts}
use Rattle.cm_inline.specs.steps.Marks.{mark_at, part_of_kind, texts, parts_between, stays_text, is_escaped, IsUnmarked, IsOfKind, AreLaid}
use Rattle.cm_inline.specs.steps.Missing.{Knows}
use Rattle.cm_inline.specs.steps.Reads.{IsAtom, item_in, inline_in, IsThere, IsInline, IsTextTo, Pays, ahead, text_items}
use Rattle.cm_inline.specs.steps.Standalone.{IsBetween}
use Rattle.cm_inline.specs.steps.Runs.{run_of, runs_in, pairs_in, paired_run}
use Rattle.cm_inline.proofs.lemmas.DepthLemmas.{inline-shallow}
use Rattle.cm_inline.proofs.lemmas.JoinLemmas.{later-more, parts-none, parts-one}
use Rattle.cm_inline.proofs.lemmas.OpenLemmas.{open-more, open-later, open-opened, items-append, all_parts-append, numbers-append}
use Rattle.cm_inline.proofs.lemmas.PaysLemmas.{nothing-pays, text-pays, atom-more-pays}
use Rattle.cm_inline.proofs.lemmas.ClosingLemmas.{chain-zero}
use Rattle.cm_inline.proofs.lemmas.ReadingLemmas.{starts-append}
use Rattle.cm_inline.proofs.lemmas.SliceLemmas.{slice-none}
use Rattle.cm_inline.specs.steps.Searching.{IsMarked}
use Rattle.cm_inline.proofs.lemmas.StandLemmas.{events-more, text-stands, cut-stands, opener-stands, inline-stands, known-made, texts-known, texts-stand, stays-any, AreKnown, runs-append}
use Rattle.cm_inline.proofs.lemmas.CallerLemmas.{beyond-append, segments-append, segments-push, chained-none, chained-push}
use Rattle.cm_inline.proofs.lemmas.WholeLemmas.{ahead-start, ahead-text, ahead-atom}
use Rattle.cm_inline.proofs.lemmas.LaidLemmas.{events-append}
use Rattle.cm_inline.proofs.lemmas.KeptLemmas.{segments-parts}

-- between a place and itself there is no text
pub none-laid : (lines : Bool) (source : List ℕ) (at : ℕ) → IsCharBoundary source at → IsUnmarked lines source at at
none-laid lines source at boundary = record { between = (omega arith, boundary, boundary); text = ap (list_all (stays_text lines)) (slice-none source at) }

-- views that are the same in each part
pub same-view : (v w : View) → v.lines ≡ w.lines → v.marks ≡ w.marks → v.runs ≡ w.runs → v.waiting ≡ w.waiting → v.pairs ≡ w.pairs → v.links ≡ w.links → v.links_end ≡ w.links_end → v.ends ≡ w.ends → v ≡ w
same-view v w lines marks runs waiting pairs links links_end ends = search rules

abbrev pub fresh_view : Bool → MissingEnds → View
fresh_view lines ends = record { lines = lines; marks = []; runs = []; waiting = []; pairs = []; links = []; links_end = 0; ends = ends }

fresh-read : (source : List ℕ) (targets : Targets) (lines : Bool) (ends : MissingEnds) → length source < 2 ^ 32 → IsUtf8 source → Knows source ends → IsRead source targets 0 (fresh_view lines ends) [] []
unfolding items_in all_parts numbers_in has_opener events_of number_after
fresh-read source targets lines ends short utf8 knows =
    let start = IsCharBoundary-start source utf8 in
    search (rules, parts-none, none-laid, chained-none)

-- Nothing is read yet.
pub nothing-read : (rules : Rules) (source : List ℕ) (targets : Targets) (reader : Reader) (lines : Bool) → length source < 2 ^ 32 → IsUtf8 source → view_of reader ≡ fresh_view lines reader.ends → reader.brackets.items ≡ []
    → reader.runs.list.looks ≡ 0 → Knows source reader.ends → Reading rules source targets 0 reader
unfolding items_in
nothing-read rules source targets reader lines short utf8 fresh brackets looks knows = search (
  (subst (λ bs. IsRead source targets 0 (view_of reader) (reverse bs) []) (sym brackets) (subst (λ v. IsRead source targets 0 v [] []) (sym fresh) (fresh-read source targets lines reader.ends short utf8 knows))),
  (ahead-start rules (defined_in targets) source),
  (nothing-pays rules (defined_in targets) source [] reader.runs.list.looks refl looks),
)

-- starts among texts
pub texts-start : (runs : List PairedRun) (pairs : List Pair) (text : List ℕ) → starts_in (events_of runs pairs (texts text)) ≡ 0
unfolding events_of
texts-start runs pairs [] = refl
texts-start runs pairs (b ∷ bs) = search (rules, (texts-start runs pairs bs))

pub starts-more : (runs : List PairedRun) (pairs : List Pair) (xs ys : List Segment)
    → starts_in (events_of runs pairs (all_parts (xs ++ ys))) ≡ starts_in (events_of runs pairs (all_parts xs)) + starts_in (events_of runs pairs (all_parts ys))
starts-more runs pairs xs ys =
    ap (λ t. starts_in (events_of runs pairs t)) (all_parts-append xs ys) ∙ ap starts_in (events-append runs pairs (all_parts xs) (all_parts ys)) ∙ starts-append (events_of runs pairs (all_parts xs)) (events_of runs pairs (all_parts ys))

-- Marks more, which stand for an item that is no run, no bracket and no link.
pub record AreMore (source : List ℕ) (targets : Targets) (v : View) (at end : ℕ) (marks : List Mark) (parts : List Part) (item : Item) : Type 0 where
  pub further : at < end
  pub boundary : IsCharBoundary source end
  pub laid : AreLaid v.lines source targets v.runs v.links at end marks
  pub parts_are : parts ≡ parts_between source targets v.links at end marks
  pub known : AreKnown parts
  pub other : is_run item ≡ false
  pub closed : is_opener item ≡ false
  pub unlinked : is_linked item ≡ false
  pub stands : StandFor (events_of (runs_in v.runs) (pairs_in v.pairs) parts) (item ∷ [])
  pub no_start : starts_in (events_of (runs_in v.runs) (pairs_in v.pairs) parts) ≡ 0

abbrev pub more_view : View → List Mark → MissingEnds → View
more_view v marks ends = record { lines = v.lines; marks = v.marks ++ marks; runs = v.runs; waiting = v.waiting; pairs = v.pairs; links = v.links; links_end = v.links_end; ends = ends }

-- a segment more, with no run in it and no start
module _ (source : List ℕ) (targets : Targets) (v : View) (bs : List Bracket) (segments : List Segment) (at end : ℕ) (parts : List Part) (item : Item) (ends : MissingEnds) (further : at < end) (boundary : IsCharBoundary source end) (knows : Knows source ends)
    (known : AreKnown parts) (other : is_run item ≡ false) (stands : StandFor (events_of (runs_in v.runs) (pairs_in v.pairs) parts) (item ∷ [])) (no_start : starts_in (events_of (runs_in v.runs) (pairs_in v.pairs) parts) ≡ 0) (r : IsRead source targets at v bs segments) where
  abbrev more : List Segment
  more = Made parts item (number_after 0 segments) ∷ []

  pub made-read : (now : List Bracket) (marks : List Mark) → AreOpen (leaf_of source targets v) now (segments ++ more) (v.marks ++ marks) end false → IsRead source targets end (more_view v marks ends) now (segments ++ more)
  unfolding all_parts numbers_in number_after
  made-read now marks are = grind (arith, nat_tests, segments-append, known-made, runs-append, append-nil, numbers-append, length-append, beyond-append, starts-more)

pub more-read : (source : List ℕ) (targets : Targets) (v : View) (bs : List Bracket) (segments : List Segment) (at end : ℕ) (marks : List Mark) (parts : List Part) (item : Item) (ends : MissingEnds) → AreMore source targets v at end marks parts item → Knows source ends
    → IsRead source targets at v bs segments → IsRead source targets end (more_view v marks ends) bs (segments ++ Made parts item (number_after 0 segments) ∷ [])
unfolding all_parts items_in has_opener holds_link
more-read source targets v bs segments at end marks parts item ends m knows r =
    let leaf = leaf_of source targets v in
    let more = Made parts item (number_after 0 segments) ∷ [] in
    let closed : AreClosed leaf at end more marks = record { parts = append-nil parts ∙ m.parts_are; laid = m.laid; none = ap (λ b. b || false) m.closed } in
    made-read source targets v bs segments at end parts item ends m.further m.boundary knows m.known m.other m.stands m.no_start r bs marks
    (open-more leaf bs segments more v.marks marks at end false (subst (λ b. AreOpen leaf bs segments v.marks at ((b || false) || false)) (sym m.unlinked) r.open_are) closed)

-- An atom as marks that stand for its item, unless it is a run or a bracket.

stays-apart : (b : ℕ) → is_escaped b ≡ false → (b == 10) ≡ false → stays_text true b ≡ true
stays-apart b e f = ap (λ v. not v && not (true && b == 10)) e ∙ ap not f

module _ (source : List ℕ) (targets : Targets) (v : View) (at end : ℕ) (start : IsCharBoundary source at) (further : at < end) (boundary : IsCharBoundary source end) where
  abbrev runs_v : List PairedRun
  runs_v = runs_in v.runs

  abbrev pairs_v : List Pair
  pairs_v = pairs_in v.pairs

  abbrev low : at ≤ end
  low = omega (arith, further)

  abbrev More : (marks : List Mark) (parts : List Part) (item : Item) → Type 0
  More marks parts item = AreMore source targets v at end marks parts item

  -- marks and parts that are no run, no bracket and no link
  more-by : (marks : List Mark) (parts : List Part) (item : Item) → AreLaid v.lines source targets v.runs v.links at end marks → parts ≡ parts_between source targets v.links at end marks → AreKnown parts
      → (is_run item ≡ false) × (is_opener item ≡ false) × (is_linked item ≡ false) → StandFor (events_of runs_v pairs_v parts) (item ∷ []) → starts_in (events_of runs_v pairs_v parts) ≡ 0 → More marks parts item
  more-by marks parts item laid same known other stands starts =
      record { further = further; boundary = boundary; laid = laid; parts_are = same; known = known; other = other.0; closed = other.1; unlinked = other.2; stands = stands; no_start = starts }

  -- text, of which each byte stays text
  text-more : list_all (stays_text true) (slice_range source at end) ≡ true → More [] (texts (slice_range source at end)) (Characters (slice_range source at end))
  unfolding parts_between
  text-more stays = search (rules, more-by, stays-any, texts-known, texts-stand, texts-start)

  -- one mark of a known event
  one-more : (kind : Kind) (e : Event) (item : Item) → part_of_kind source targets v.links at end kind ≡ Known (e ∷ []) → IsOfKind source targets v.runs v.links at end kind → IsNoRun e → starts_in (e ∷ []) ≡ 0
      → (is_run item ≡ false) × (is_opener item ≡ false) × (is_linked item ≡ false) → StandFor (e ∷ []) (item ∷ []) → More (mark_at at end kind ∷ []) (Known (e ∷ []) ∷ []) item
  unfolding events_of
  one-more kind e item part is none starts other stands =
      more-by (mark_at at end kind ∷ []) (Known (e ∷ []) ∷ []) item (none-laid v.lines source at start, (low, start, boundary), is, none-laid v.lines source end boundary)
      (ap (λ p. p ∷ []) (sym part) ∙ sym (parts-one v.lines source targets v.runs v.links (mark_at at end kind))) ((none, tt), tt) other stands starts

  -- an inline of its own
  whole-part : (kind : Kind) → IsInline source at end kind → (part_of_kind source targets v.links at end kind ≡ Known (Whole (inline_in source at end kind) ∷ [])) × IsOfKind source targets v.runs v.links at end kind
  whole-part kind is = grind (arith, nat_tests)

  pub whole-more : (kind : Kind) → IsInline source at end kind → More (mark_at at end kind ∷ []) (Known (Whole (inline_in source at end kind) ∷ []) ∷ []) (Finished (inline_in source at end kind))
  whole-more kind is =
      let i = inline_in source at end kind in
      let part = whole-part kind is in
      one-more kind (Whole i) (Finished i) part.0 part.1 tt refl (refl, refl, refl) (inline-stands i (inline-shallow source at end kind))

  -- a character that HTML escapes
  pub escaped-more : IsThere source at end atoms.Escaped → More (mark_at at end kinds.Escaped ∷ []) (Known (Text (slice_range source at end) ∷ []) ∷ []) (Characters (slice_range source at end))
  escaped-more is = one-more kinds.Escaped (Text (slice_range source at end)) (Characters (slice_range source at end)) refl is tt refl (refl, refl, refl) (text-stands (slice_range source at end))

  -- a line feed
  pub feed-more : (lines : Bool) → v.lines ≡ lines → IsThere source at end atoms.LineFeed → More (if lines then mark_at at end kinds.Soft ∷ [] else []) (Known (Whole inline.Soft ∷ []) ∷ []) (Finished inline.Soft)
  unfolding events_of parts_between
  feed-more true e is = whole-more kinds.Soft tt
  feed-more false e is =
      more-by [] (Known (Whole inline.Soft ∷ []) ∷ []) (Finished inline.Soft)
      (record { between = (low, start, boundary); text = ap (λ l. list_all (stays_text l) (slice_range source at end)) e ∙ ap (list_all (stays_text false)) is.1 })
      (sym (ap texts is.1)) ((tt, tt), tt) (refl, refl, refl) (inline-stands inline.Soft (inline-shallow source at end kinds.Soft)) refl

  -- the characters of a reference
  pub reference-more : (chars : Chars) (second : Option ℕ) → chars.second ≡ second
      → More (mark_at at end (kinds.Character chars.first) ∷ (elim second as (λ _. List Mark) [ None ↦ [] | Some c ↦ mark_at end end (kinds.Character c) ∷ [] ]))
      (Known (Text (encode_utf8 chars.first) ∷ []) ∷ (elim second as (λ _. List Part) [ None ↦ [] | Some c ↦ Known (Text (encode_utf8 c) ∷ []) ∷ [] ])) (Characters (encode_utf8_all (chars_of chars)))
  unfolding events_of parts_between
  reference-more chars None e =
      let first = encode_utf8 chars.first in
      let same : concat (first ∷ []) ≡ encode_utf8_all (chars_of chars) = ap (λ o. encode_utf8_all (chars.first ∷ elim o as (λ _. List ℕ) [ None ↦ [] | Some second ↦ second ∷ [] ])) (sym e) in
      one-more (kinds.Character chars.first) (Text first) (Characters (encode_utf8_all (chars_of chars))) refl tt tt refl (refl, refl, refl) (subst (λ t. StandFor (Text first ∷ []) (Characters t ∷ [])) same (cut-stands (first ∷ [])))
  reference-more chars (Some c) e =
      let first = encode_utf8 chars.first in
      let second = encode_utf8 c in
      let same : concat (first ∷ second ∷ []) ≡ encode_utf8_all (chars_of chars) = ap (λ o. encode_utf8_all (chars.first ∷ elim o as (λ _. List ℕ) [ None ↦ [] | Some second ↦ second ∷ [] ])) (sym e) in
      let whole : end ≤ end = omega arith in
      more-by (mark_at at end (kinds.Character chars.first) ∷ mark_at end end (kinds.Character c) ∷ []) (Known (Text first ∷ []) ∷ Known (Text second ∷ []) ∷ []) (Characters (encode_utf8_all (chars_of chars)))
      (none-laid v.lines source at start, (low, start, boundary), tt, (none-laid v.lines source end boundary, (whole, boundary, boundary), tt, none-laid v.lines source end boundary))
      (simp (slice-none source at, slice-none source end)) ((tt, tt), ((tt, tt), tt)) (refl, refl, refl)
      (subst (λ t. StandFor (Text first ∷ Text second ∷ []) (Characters t ∷ [])) same (cut-stands (first ∷ second ∷ []))) refl

  -- a backslash and what it escapes
  abbrev escape_marks : Bool → List Mark
  escape_marks escaped = mark_at at (at + 1) kinds.Nothing ∷ (if escaped then mark_at (at + 1) end kinds.Escaped ∷ [] else [])

  abbrev escape_parts : Bool → List Part
  escape_parts escaped = Known [] ∷ (if escaped then Known (Text (slice_range source (at + 1) end) ∷ []) ∷ [] else texts (slice_range source (at + 1) end))

  pub escape-more : (escaped : Bool) → is_escaped (slice_index source (at + 1)) ≡ escaped → IsThere source at end atoms.Escape → More (escape_marks escaped) (escape_parts escaped) (Characters (slice_range source (at + 1) end))
  unfolding events_of parts_between
  escape-more escaped e is = go escaped (ap is_escaped is.4 ∙ e)
    where
      text : List ℕ
      text = slice_range source (at + 1) end

      first : IsBetween source at (at + 1)
      first = (omega arith, start, is.2)

      second : IsBetween source (at + 1) end
      second = (omega (arith, is.1), is.2, boundary)

      go : (escaped : Bool) → is_escaped is.0 ≡ escaped → More (escape_marks escaped) (escape_parts escaped) (Characters text)
      go true e =
          more-by (escape_marks true) (escape_parts true) (Characters text)
          (none-laid v.lines source at start, first, tt, (none-laid v.lines source (at + 1) is.2, second, (is.0, e, is.3), none-laid v.lines source end boundary))
          (simp (slice-none source at, slice-none source (at + 1), slice-none source end)) (tt, ((tt, tt), tt)) (refl, refl, refl) (text-stands text) refl
      go false e =
          let stays : list_all (stays_text true) text ≡ true = ap (list_all (stays_text true)) is.3 ∙ ap (λ v. v && true) (stays-apart is.0 e is.5) in
          more-by (escape_marks false) (escape_parts false) (Characters text) (none-laid v.lines source at start, first, tt, record { between = second; text = stays-any v.lines text stays })
          (simp (slice-none source at)) (tt, texts-known text) (refl, refl, refl) (texts-stand runs_v pairs_v text stays) (texts-start runs_v pairs_v text)

-- Text more, of which each byte stays text.
pub record IsText (source : List ℕ) (at end : ℕ) : Type 0 where
  pub further : at < end
  pub boundary : IsCharBoundary source end
  pub stays : list_all (stays_text true) (slice_range source at end) ≡ true

abbrev pub text_segment : List ℕ → List Segment → (at end : ℕ) → Segment
text_segment source segments at end = Made (texts (slice_range source at end)) (Characters (slice_range source at end)) (number_after 0 segments)

pub text-read : (source : List ℕ) (targets : Targets) (v : View) (bs : List Bracket) (segments : List Segment) (at end : ℕ) → IsText source at end → IsRead source targets at v bs segments
    → IsRead source targets end v bs (segments ++ text_segment source segments at end ∷ [])
text-read source targets v bs segments at end is r =
    let text = slice_range source at end in
    subst (λ ms. IsRead source targets end (record v { marks = ms }) bs (segments ++ text_segment source segments at end ∷ [])) (append-nil v.marks)
    (more-read source targets v bs segments at end [] (texts text) (Characters text) v.ends (text-more source targets v at end r.boundary is.further is.boundary is.stays) r.knows r)

-- the items with text more
pub text-items : (source : List ℕ) (segments : List Segment) (at end : ℕ) → items_in (segments ++ text_segment source segments at end ∷ []) ≡ items_in segments ++ Characters (slice_range source at end) ∷ []
unfolding items_in
text-items source segments at end = items-append segments (text_segment source segments at end ∷ [])

-- Text before anything.
pub text-goes : (rules : Rules) (source : List ℕ) (targets : Targets) (at end : ℕ) (reader : Reader) → IsTextTo source at end → Reading rules source targets at reader → Reading rules source targets end reader
text-goes rules source targets at end reader is g = go (nat_lt at end) refl
  where
    defined : Defined
    defined = defined_in targets

    looks : ℕ
    looks = reader.runs.list.looks

    by : (some : Bool) → nat_lt at end ≡ some → (more : List Segment) → items_in more ≡ items_in g.segments ++ (if some then Characters (slice_range source at end) ∷ [] else []) → IsReadTo source targets end reader more → Reading rules source targets end reader
    by some e more same read =
        let all : items_in more ≡ items_in g.segments ++ text_items source at end = same ∙ ap (λ v. items_in g.segments ++ (if v then Characters (slice_range source at end) ∷ [] else [])) (sym e) in
        record {
          segments = more;
          read = read;
          goes = ap (λ t. ahead rules defined source t end) all ∙ ahead-text rules defined source (items_in g.segments) at end is ∙ g.goes;
          pays = subst (λ t. Pays rules defined source t end looks) (sym all) (text-pays rules defined source (items_in g.segments) at end looks is g.pays);
        }

    go : (some : Bool) → nat_lt at end ≡ some → Reading rules source targets end reader
    go true e =
        let further : at < end = grind (arith, nat_tests, e) in
        by true e (g.segments ++ text_segment source g.segments at end ∷ []) (text-items source g.segments at end)
        (text-read source targets (view_of reader) (reverse reader.brackets.items) g.segments at end (record { further = further; boundary = is.boundary; stays = is.stays }) g.read)
    go false e =
        let none : end ≤ at = grind (arith, nat_tests, e) in
        let same : at ≡ end = omega (arith, none, is.low) in
        subst (λ n. Reading rules source targets n reader) same g

-- A run more, which waits.
abbrev pub run_view : View → (at end : ℕ) → DelimiterRun → MissingEnds → View
run_view v at end run ends = record {
  lines = v.lines;
  marks = v.marks ++ mark_at at end (kinds.Run (length v.runs)) ∷ [];
  runs = v.runs ++ record { run = run; opened = 0; from = 0; to = 0 } ∷ [];
  waiting = v.waiting ++ length v.runs ∷ [];
  pairs = v.pairs;
  links = v.links;
  links_end = v.links_end;
  ends = ends;
}

marker-marked : (run : DelimiterRun) → IsMarked (run_of run)
marker-marked run = search rules

module _ (source : List ℕ) (targets : Targets) (v : View) (bs : List Bracket) (segments : List Segment) (at end : ℕ) (run : DelimiterRun) (ends : MissingEnds) (start : IsCharBoundary source at) (further : at < end)
    (boundary : IsCharBoundary source end) (there : IsThere source at end (atoms.Run run)) (some : 1 ≤ run.left) (knows : Knows source ends) (r : IsRead source targets at v bs segments) where
  abbrev with_run : View
  with_run = run_view v at end run ends

  abbrev held_run : HeldRun
  held_run = record { run = run; opened = 0; from = 0; to = 0 }

  abbrev one_run : List Segment
  one_run = Waiting (length v.runs) (run_of run) ∷ []

  abbrev run_leaf : MarkedLeaf
  run_leaf = leaf_of source targets with_run

  runs-are : runs_in with_run.runs ≡ runs_in v.runs ++ fresh (run_of run) ∷ []
  runs-are = map-append paired_run v.runs (held_run ∷ [])

  run-closed : AreClosed run_leaf at end one_run (mark_at at end (kinds.Run (length v.runs)) ∷ [])
  unfolding all_parts items_in has_opener
  run-closed = search (rules, get_or_push, length-append, parts-one, none-laid)

  run-later : AreOpen run_leaf bs segments v.marks at false
  run-later =
      subst (λ ls. AreOpen (record run_leaf { links = ls }) bs segments v.marks at false) (append-nil v.links)
      (open-later (leaf_of source targets v) with_run.runs [] bs segments v.marks at false (later-more v.runs (held_run ∷ [])) r.open_are)

  run-open : AreOpen run_leaf bs (segments ++ one_run) with_run.marks end false
  unfolding items_in holds_link
  run-open = open-more run_leaf bs segments one_run v.marks (mark_at at end (kinds.Run (length v.runs)) ∷ []) at end false run-later run-closed

  run-starts : starts_in (events_for with_run (segments ++ one_run)) ≡ starts_in (events_for v segments)
  unfolding all_parts events_of
  run-starts = search (rules, runs-are, events-more, segments-parts, get_or_push, length-map, chain-zero, starts-more)

  pub run-read : IsRead source targets end with_run bs (segments ++ one_run)
  unfolding numbers_in number_after
  run-read = grind (arith, nat_tests, run-open, length-map, runs-are, segments-push, runs-append, marker-marked, numbers-append, chained-push, length-append, beyond-append, run-starts)

-- A bracket more, which is open.
abbrev pub bracket_view : View → (at end : ℕ) → MissingEnds → View
bracket_view v at end ends = more_view v (mark_at at end kinds.Plain ∷ []) ends

module _ (source : List ℕ) (targets : Targets) (v : View) (bs : List Bracket) (segments : List Segment) (at end : ℕ) (image : Bool) (ends : MissingEnds) (start : IsCharBoundary source at) (further : at < end)
    (boundary : IsCharBoundary source end) (there : IsThere source at end (atoms.Opener image)) (knows : Knows source ends) (r : IsRead source targets at v bs segments) where
  abbrev new_bracket : Bracket
  new_bracket = record { mark = length v.marks; image = image; end = end; waiting = length v.waiting }

  abbrev one_bracket : List Segment
  one_bracket = opened source new_bracket (number_after 0 segments) ∷ []

  pub bracket-read : IsRead source targets end (bracket_view v at end ends) (new_bracket ∷ bs) (segments ++ one_bracket)
  unfolding events_of
  bracket-read =
      made-read source targets v bs segments at end (Known (Text (bracket_text image) ∷ []) ∷ []) (Opener image (drop end source)) ends further boundary knows ((tt, tt), tt) refl (opener-stands image (drop end source)) refl r
      (new_bracket ∷ bs) (mark_at at end kinds.Plain ∷ [])
      (open-opened (leaf_of source targets v) bs new_bracket (number_after 0 segments) segments v.marks at r.open_are (record { place = there.0; front = there.1; start = start; end = boundary }) refl (ap length r.waiting) r.links_low
      (none-laid v.lines source end boundary))

-- What an atom puts is read.
abbrev pub put_view : View → List ℕ → (at end : ℕ) → Atom → MissingEnds → View
put_view v source at end atom ends = record {
  lines = v.lines;
  marks = v.marks ++ marks_for v.lines source at end (length v.runs) atom;
  runs = v.runs ++ runs_for atom;
  waiting = v.waiting ++ numbers_for (length v.runs) atom;
  pairs = v.pairs;
  links = v.links;
  links_end = v.links_end;
  ends = ends;
}

pub record PutRead (source : List ℕ) (targets : Targets) (at end : ℕ) (v : View) (bs : List Bracket) (segments : List Segment) (atom : Atom) (ends : MissingEnds) : Type 0 where
  pub more : List Segment
  pub items : items_in (segments ++ more) ≡ items_in segments ++ item_in source at end atom ∷ []
  pub read : IsRead source targets end (put_view v source at end atom ends) (reverse (brackets_for (length v.marks) (length v.waiting) end atom) ++ bs) (segments ++ more)

module _ (source : List ℕ) (targets : Targets) (v : View) (bs : List Bracket) (segments : List Segment) (at end : ℕ) (ends : MissingEnds) (further : at < end) (boundary : IsCharBoundary source end) (knows : Knows source ends)
    (r : IsRead source targets at v bs segments) where
  -- with no run and no bracket
  simply : (atom : Atom) (marks : List Mark) (parts : List Part) → runs_for atom ≡ [] → numbers_for (length v.runs) atom ≡ [] → brackets_for (length v.marks) (length v.waiting) end atom ≡ [] → marks_for v.lines source at end (length v.runs) atom ≡ marks
      → AreMore source targets v at end marks parts (item_in source at end atom) → PutRead source targets at end v bs segments atom ends
  unfolding items_in
  simply atom marks parts runs numbers brackets same m =
      let more = Made parts (item_in source at end atom) (number_after 0 segments) ∷ [] in
      let view : more_view v marks ends ≡ put_view v source at end atom ends =
      same-view (more_view v marks ends) (put_view v source at end atom ends) refl (ap (λ t. v.marks ++ t) (sym same)) (sym (append-nil v.runs) ∙ ap (λ t. v.runs ++ t) (sym runs)) (sym (append-nil v.waiting) ∙ ap (λ t. v.waiting ++ t) (sym numbers)) refl refl refl refl in
      search (
        rules,
        (items-append segments more),
        (subst (λ b. IsRead source targets end (put_view v source at end atom ends) (reverse b ++ bs) (segments ++ more)) (sym brackets)
            (subst (λ w. IsRead source targets end w bs (segments ++ more)) view (more-read source targets v bs segments at end marks parts (item_in source at end atom) ends m knows r))),
      )

  pub put-read : (rules : Rules) (atom : Atom) → IsAtom rules source at (item_in source at end atom) end → IsThere source at end atom → PutRead source targets at end v bs segments atom ends
  unfolding items_in
  put-read rules atoms.Text is there = simply atoms.Text [] (texts (slice_range source at end)) refl refl refl refl (text-more source targets v at end r.boundary further boundary there)
  put-read rules atoms.Escaped is there =
      simply atoms.Escaped (mark_at at end kinds.Escaped ∷ []) (Known (Text (slice_range source at end) ∷ []) ∷ []) refl refl refl refl (escaped-more source targets v at end r.boundary further boundary there)
  put-read rules atoms.Escape is there =
      let escaped = is_escaped (slice_index source (at + 1)) in
      simply atoms.Escape (escape_marks source targets v at end r.boundary further boundary escaped) (escape_parts source targets v at end r.boundary further boundary escaped) refl refl refl refl
      (escape-more source targets v at end r.boundary further boundary escaped refl there)
  put-read rules (atoms.Reference chars) is there =
      simply (atoms.Reference chars) (marks_for v.lines source at end (length v.runs) (atoms.Reference chars))
      (Known (Text (encode_utf8 chars.first) ∷ []) ∷ (elim chars.second as (λ _. List Part) [ None ↦ [] | Some c ↦ Known (Text (encode_utf8 c) ∷ []) ∷ [] ])) refl refl refl refl
      (reference-more source targets v at end r.boundary further boundary chars chars.second refl)
  put-read rules (atoms.Whole kind) is there =
      simply (atoms.Whole kind) (mark_at at end kind ∷ []) (Known (Whole (inline_in source at end kind) ∷ []) ∷ []) refl refl refl refl (whole-more source targets v at end r.boundary further boundary kind there)
  put-read rules atoms.LineFeed is there =
      simply atoms.LineFeed (if v.lines then mark_at at end kinds.Soft ∷ [] else []) (Known (Whole inline.Soft ∷ []) ∷ []) refl refl refl refl (feed-more source targets v at end r.boundary further boundary v.lines refl there)
  put-read rules (atoms.Opener image) is there =
      let more = one_bracket source targets v bs segments at end image ends r.boundary further boundary there knows r in
      record {
        more = more;
        items = items-append segments more;
        read = subst (λ w. IsRead source targets end w (record { mark = length v.marks; image = image; end = end; waiting = length v.waiting } ∷ bs) (segments ++ more))
            (same-view (bracket_view v at end ends) (put_view v source at end (atoms.Opener image) ends) refl refl (sym (append-nil v.runs)) (sym (append-nil v.waiting)) refl refl refl refl)
            (bracket-read source targets v bs segments at end image ends r.boundary further boundary there knows r);
      }
  put-read rules (atoms.Run run) is there =
      let more = one_run source targets v bs segments at end run ends r.boundary further boundary there (omega (arith, is.fresh.1, is.fresh.2)) knows r in
      record {
        more = more;
        items = items-append segments more;
        read = run-read source targets v bs segments at end run ends r.boundary further boundary there (omega (arith, is.fresh.1, is.fresh.2)) knows r;
      }

-- An atom at a place, read on from there.
pub put-goes : (rules : Rules) (source : List ℕ) (targets : Targets) (at end : ℕ) (old new : Reader) → at < length source → Puts rules source at end old new → Reading rules source targets at old → Reading rules source targets end new
put-goes rules source targets at end old new within p g =
    let is = p.begins.is in
    let v = view_of old in
    let bs = reverse old.brackets.items in
    let more = brackets_for (length v.marks) (length v.waiting) end p.atom in
    let read = put-read source targets v bs g.segments at end new.ends is.further is.boundary p.knows g.read rules p.atom is p.begins.there in
    let view : view_of new ≡ put_view v source at end p.atom new.ends =
    same-view (view_of new) (put_view v source at end p.atom new.ends) p.lines p.marks p.runs p.waiting (ap (λ x. x.items) p.pairs) (ap (λ x. x.items) p.links) p.links_end refl in
    let brackets : reverse new.brackets.items ≡ reverse more ++ bs = ap reverse p.brackets ∙ reverse-append old.brackets.items more in
    let items = read.items in
    let looks : new.runs.list.looks ≡ old.runs.list.looks = p.looks in
    search (
      (subst (λ b. IsRead source targets end (view_of new) b (g.segments ++ read.more)) (sym brackets)
          (subst (λ w. IsRead source targets end w (reverse more ++ bs) (g.segments ++ read.more)) (sym view) read.read)),
      (ap (λ t. ahead rules (defined_in targets) source t end) items ∙ ahead-atom rules (defined_in targets) source (items_in g.segments) at (item_in source at end p.atom) end within is ∙ g.goes),
      (subst (λ n. Pays rules (defined_in targets) source (items_in (g.segments ++ read.more)) end n) (sym looks)
          (subst (λ t. Pays rules (defined_in targets) source t end old.runs.list.looks) (sym items)
          (atom-more-pays rules (defined_in targets) source (items_in g.segments) at (item_in source at end p.atom) end old.runs.list.looks within is g.pays))),
    )
