-- Blocks, spelled line by line.
use Rattle.std.proofs.Common.{◌≡◌, ℕ, zero, suc, ◌+◌, Bool, true, false, List, [], ◌∷◌, ◌++◌, length, map, not, replicate, refl, sym, ap, subst, ◌∙◌, append_assoc, append-nil, ◌==◌, arith}
use Rattle.std.specs.Prelude.{codes, string_bytes, flat_map}
use Rattle.std.specs.Fmt.{decimal}
use Rattle.cm_scan.specs.Words.{keep_byte, trim_end_by, trim_end_spaces}
use Rattle.std.proofs.lemmas.Bool.{eqb-true}
use Rattle.cm_tree.specs.declared.tree.Inline.{Inline}
use Rattle.cm_source.specs.Inlines.{spelled_content}
use Rattle.cm_tree.specs.declared.tree.Block.{Block}
use Rattle.cm_tree.specs.declared.tree.ListKind.{ListKind}
use Rattle.cm_tree.specs.declared.tree.ListKind.TheVariants.{Dash, Plus, Star, Dot, Paren}
use Rattle.cm_source.specs.declared.source_lines.SourceLines.{SourceLines}
use Rattle.cm_source.specs.Spelling.{after_space, gap, joined, spaced, quoted, quote_lines, marker, indented, item_lines, lines_of_block}
use Rattle.cm_source.specs.steps.WrittenLines.{beyond, further_lines, all_lines, next_begun, next_front, or_empty_line, Writes, Enters, Leaves}
use Rattle.cm_source.specs.BetweenLines.{IsBetween}
use Rattle.cm_source.proofs.lemmas.spelling.WrittenLineLemmas.{kept-front, all-alike}

-- some lines, where there was a gap before the first or none
abbrev pub gapped : (now apart : Bool) → List (List (List ℕ)) → List (List ℕ)
gapped now apart [] = []
gapped now apart (first ∷ others) = gap now ++ first ++ flat_map (λ lines. gap apart ++ lines) others

pub gapped-on : (now apart : Bool) (first : List (List ℕ)) (others : List (List (List ℕ))) → gapped now apart (first ∷ others) ≡ (gap now ++ first) ++ gapped apart apart others
gapped-on now apart first [] = refl
gapped-on now apart first (next ∷ others) = refl

-- a mark before lines
module _ (mark further : List ℕ) (outer : List (List ℕ) → List (List ℕ)) where
  -- the lines of a container have the same content after its mark, in the container, after what was before it
  abbrev pub Marks : Type 0
  Marks = (first front : List ℕ) (lines : List (List ℕ)) → all_lines (first ++ mark) (front ++ further) (or_empty_line lines) ≡ all_lines first front (outer lines)

  abbrev pub IsSome : Type 0
  IsSome = (lines : List (List ℕ)) → (line : List ℕ) × (rest : List (List ℕ)) × (outer lines ≡ line ∷ rest)

  pub container-writes : (one two three four : SourceLines) (kept : ℕ) (lines : List (List ℕ)) → Marks → IsSome → Enters one two mark further → Writes two three lines → Leaves three four kept → kept ≡ length (string_bytes one.front) → Writes one four (outer lines)
  container-writes one two three four kept lines marks some enters writes leaves same begun done first front is =
      let (line, rest, e) = some lines in
      let inside = writes true done (first ++ mark) (front ++ further) (enters begun done first front is) in
      let left = leaves done (first ++ mark) front further lines (same ∙ ap length is.front_is) inside in
      let place = ap (λ t. done ++ t) (marks first front lines) in
      let after = subst (λ t. IsBetween four false t front front) place left in
      subst (λ t. IsBetween four (next_begun begun t) (done ++ all_lines first front (outer lines)) (next_front first front t) front) (sym e) after

-- a quote

quoted-beyond : (front line : List ℕ) → beyond (front ++ codes "> ") line ≡ beyond front (quoted line)
unfolding trim_end_by
quoted-beyond front [] = kept-front front (codes "> ") 62 [] refl
quoted-beyond front (b ∷ bs) = append_assoc front (codes "> ") (b ∷ bs)

quoted-further : (front : List ℕ) (lines : List (List ℕ)) → further_lines (front ++ codes "> ") lines ≡ further_lines front (map quoted lines)
quoted-further front [] = refl
quoted-further front (line ∷ lines) = ap (λ t. (t ++ 10 ∷ []) ++ further_lines (front ++ codes "> ") lines) (quoted-beyond front line) ∙ ap (λ t. (beyond front (quoted line) ++ 10 ∷ []) ++ t) (quoted-further front lines)

pub quote-marks : Marks (codes "> ") (codes "> ") quote_lines
quote-marks first front [] = ap (λ t. t ++ 10 ∷ []) (quoted-beyond first [])
quote-marks first front (line ∷ lines) = ap (λ t. t ++ 10 ∷ further_lines (front ++ codes "> ") lines) (quoted-beyond first line) ∙ ap (λ t. beyond first (quoted line) ++ 10 ∷ t) (quoted-further front lines)

pub quote-some : IsSome (codes "> ") (codes "> ") quote_lines
quote-some [] = (quoted [], [], refl)
quote-some (line ∷ lines) = (quoted line, map quoted lines, refl)

-- an item

-- no spaces follow a mark, and it has some byte
pub record IsMark (mark : List ℕ) : Type 0 where
  pub byte : ℕ
  pub rest : List ℕ
  pub is : mark ≡ byte ∷ rest
  pub stripped : (front : List ℕ) → trim_end_spaces (front ++ (mark ++ codes " ")) ≡ front ++ mark

marked-beyond : (mark front line : List ℕ) → IsMark mark → beyond (front ++ (mark ++ codes " ")) line ≡ beyond front (mark ++ spaced line)
marked-beyond mark front [] m = m.stripped front ∙ ap (λ t. front ++ t) m.is ∙ ap (λ t. beyond front t) (sym (append-nil mark ∙ m.is))
marked-beyond mark front (b ∷ bs) m =
    append_assoc front (mark ++ codes " ") (b ∷ bs) ∙ ap (λ t. front ++ t) (append_assoc mark (codes " ") (b ∷ bs)) ∙ ap (λ t. front ++ (t ++ 32 ∷ b ∷ bs)) m.is ∙ ap (λ t. beyond front (t ++ 32 ∷ b ∷ bs)) (sym m.is)

spaces-gone : (front : List ℕ) (n : ℕ) → trim_end_spaces (front ++ replicate n 32) ≡ trim_end_spaces front
unfolding trim_end_by
spaces-gone [] zero = refl
spaces-gone [] (suc n) = ap (keep_byte (λ c. c == 32) 32) (spaces-gone [] n)
spaces-gone (b ∷ bs) n = ap (keep_byte (λ c. c == 32) b) (spaces-gone bs n)

indented-beyond : (front line : List ℕ) (n : ℕ) → beyond (front ++ replicate n 32) line ≡ beyond front (indented n line)
indented-beyond front [] n = spaces-gone front n
indented-beyond front (b ∷ bs) zero = append_assoc front [] (b ∷ bs)
indented-beyond front (b ∷ bs) (suc n) = append_assoc front (replicate (suc n) 32) (b ∷ bs)

indented-further : (front : List ℕ) (lines : List (List ℕ)) (n : ℕ) → further_lines (front ++ replicate n 32) lines ≡ further_lines front (map (indented n) lines)
indented-further front [] n = refl
indented-further front (line ∷ lines) n =
    ap (λ t. (t ++ 10 ∷ []) ++ further_lines (front ++ replicate n 32) lines) (indented-beyond front line n) ∙ ap (λ t. (beyond front (indented n line) ++ 10 ∷ []) ++ t) (indented-further front lines n)

item-marks : (mark : List ℕ) → IsMark mark → Marks (mark ++ codes " ") (replicate (length mark + 1) 32) (item_lines mark)
item-marks mark m first front [] = ap (λ t. t ++ 10 ∷ []) (marked-beyond mark first [] m) ∙ ap (λ t. beyond first t ++ 10 ∷ []) (append-nil mark)
item-marks mark m first front (line ∷ lines) =
    ap (λ t. t ++ 10 ∷ further_lines (front ++ replicate (length mark + 1) 32) lines) (marked-beyond mark first line m)
    ∙ ap (λ t. beyond first (mark ++ spaced line) ++ 10 ∷ t) (indented-further front lines (length mark + 1))

item-some : (mark : List ℕ) → IsSome (mark ++ codes " ") (replicate (length mark + 1) 32) (item_lines mark)
item-some mark [] = (mark, [], refl)
item-some mark (line ∷ lines) = (mark ++ spaced line, map (indented (length mark + 1)) lines, refl)

byte-mark : (b : ℕ) → (mark : List ℕ) → mark ≡ b ∷ [] → trim_end_spaces (b ∷ codes " ") ≡ b ∷ [] → IsMark mark
byte-mark b mark is strips = record {
  byte = b;
  rest = [];
  is = is;
  stripped = λ front. ap (λ t. trim_end_spaces (front ++ (t ++ codes " "))) is ∙ kept-front front (b ∷ codes " ") b [] strips ∙ ap (λ t. front ++ t) (strips ∙ sym is);
}

number-mark : (start b : ℕ) → trim_end_spaces (b ∷ codes " ") ≡ b ∷ [] → IsMark (decimal start ++ b ∷ [])
number-mark start b strips = go (decimal start) refl
  where
    stripped : (front : List ℕ) → trim_end_spaces (front ++ ((decimal start ++ b ∷ []) ++ codes " ")) ≡ front ++ (decimal start ++ b ∷ [])
    stripped front =
        ap trim_end_spaces (ap (λ t. front ++ t) (append_assoc (decimal start) (b ∷ []) (codes " ")) ∙ sym (append_assoc front (decimal start) (b ∷ codes " ")))
        ∙ kept-front (front ++ decimal start) (b ∷ codes " ") b [] strips ∙ ap (λ t. (front ++ decimal start) ++ t) strips ∙ append_assoc front (decimal start) (b ∷ [])

    go : (digits : List ℕ) → decimal start ≡ digits → IsMark (decimal start ++ b ∷ [])
    go [] e = record { byte = b; rest = []; is = ap (λ t. t ++ b ∷ []) e; stripped = stripped }
    go (d ∷ ds) e = record { byte = d; rest = ds ++ b ∷ []; is = ap (λ t. t ++ b ∷ []) e; stripped = stripped }

is-mark : (kind : ListKind) → IsMark (marker kind)
unfolding trim_end_by
is-mark Dash = byte-mark 45 (codes "-") refl refl
is-mark Plus = byte-mark 43 (codes "+") refl refl
is-mark Star = byte-mark 42 (codes "*") refl refl
is-mark (Dot start) = number-mark start 46 refl
is-mark (Paren start) = number-mark start 41 refl

pub quote-writes : (one two three four : SourceLines) (kept : ℕ) (lines : List (List ℕ)) → Enters one two (codes "> ") (codes "> ") → Writes two three lines → Leaves three four kept → kept ≡ length (string_bytes one.front) → Writes one four (quote_lines lines)
quote-writes one two three four kept lines = container-writes (codes "> ") (codes "> ") quote_lines one two three four kept lines quote-marks quote-some

pub item-writes : (one two three four : SourceLines) (kept : ℕ) (kind : ListKind) (lines : List (List ℕ)) → Enters one two (marker kind ++ codes " ") (replicate (length (marker kind) + 1) 32) → Writes two three lines → Leaves three four kept → kept ≡ length (string_bytes one.front)
    → Writes one four (item_lines (marker kind) lines)
item-writes one two three four kept kind lines =
    container-writes (marker kind ++ codes " ") (replicate (length (marker kind) + 1) 32) (item_lines (marker kind)) one two three four kept lines (item-marks (marker kind) (is-mark kind)) (item-some (marker kind))

-- leaves

pub spaced-content : (content : List Inline) → (length content == 0) ≡ false → after_space content ≡ codes " " ++ spelled_content content
spaced-content [] e = absurd (cc e)
spaced-content (inline ∷ content) e = refl

pub no-content : (content : List Inline) → (length content == 0) ≡ true → after_space content ≡ []
no-content [] e = refl
no-content (inline ∷ content) e = let none : length (inline ∷ content) ≡ 0 = eqb-true (length (inline ∷ content)) 0 e in absurd (omega (arith, none))

-- the lines of items, each by itself, and of all

abbrev pub item_lines_of : ListKind → (tight : Bool) → List (List Block) → List (List (List ℕ))
item_lines_of kind tight items = map (λ blocks. item_lines (marker kind) (joined (not tight) blocks)) (map (map lines_of_block) items)

abbrev pub lines_of_items : ListKind → (tight : Bool) → List (List Block) → List (List ℕ)
lines_of_items kind tight items = joined (not tight) (item_lines_of kind tight items)

-- lines with nothing before them

beyond-nothing : (line : List ℕ) → beyond [] line ≡ line
unfolding trim_end_by
beyond-nothing [] = refl
beyond-nothing (b ∷ bs) = refl

further-nothing : (lines : List (List ℕ)) → further_lines [] lines ≡ flat_map (λ line. line ++ 10 ∷ []) lines
further-nothing [] = refl
further-nothing (line ∷ lines) = ap (λ t. (t ++ 10 ∷ []) ++ further_lines [] lines) (beyond-nothing line) ∙ ap (λ t. (line ++ 10 ∷ []) ++ t) (further-nothing lines)

-- lines that are written after others
pub written-beyond : (lines : List (List ℕ)) (old new : SourceLines) (done : List ℕ) → IsBetween old false done [] [] → Writes old new lines
    → IsBetween new false (done ++ flat_map (λ line. line ++ 10 ∷ []) lines) [] []
written-beyond [] old new done is writes = writes false done [] [] is
written-beyond (line ∷ lines) old new done is writes =
    subst (λ t. IsBetween new false (done ++ t) [] []) (all-alike [] (line ∷ lines) ∙ further-nothing (line ∷ lines)) (writes false done [] [] is)

-- a document's lines
pub text-is : (lines : List (List ℕ)) (empty new : SourceLines) → IsBetween empty false [] [] [] → Writes empty new lines → string_bytes new.text ≡ flat_map (λ line. line ++ 10 ∷ []) lines
text-is lines empty new nothing writes = (written-beyond lines empty new [] nothing writes).stands.0
