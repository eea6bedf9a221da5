-- What the blocks of a sequence are to those around them, as it is judged.
use Rattle.std.proofs.Common.{◌≡◌, ◌==◌, ◌&&◌, ◌||◌, not, Bool, true, false, List, [], ◌∷◌, refl, sym, ◌∙◌, Option, Some}
use Rattle.std.proofs.lemmas.Bool.{false≢true, and_parts, and_from}
use Rattle.cm_tree.specs.declared.tree.ListKind.{ListKind}
use Rattle.cm_tree.specs.declared.tree.ListKind.TheVariants.{Dash, Plus, Star, Dot, Paren}
use Rattle.cm_scan.specs.blocks.LineForms.{is_same_kind}
use Rattle.cm_scan.specs.blocks.Starts.{starts_at_one}
use Rattle.cm_scan.specs.blocks.Parts.{LeafPart, paragraph, heading, code, html, thematic_break, definition}
use Rattle.cm_source.specs.Refusals.{BlockFace, ParagraphFace, CodeBlockFace, QuoteFace, ListFace, OtherBlockFace, is_list, begins_late, can_follow, is_tight_item, has_two, is_after_same}
use Rattle.cm_source.specs.steps.Sequences.{Sequence, is_none, no_blocks, leaf_then, quote_then, list_then, is_paragraph, is_code, first_inside, interrupts_alone, fits_tight, has_two_blocks, begins_with_list, begins_with_kind}

abbrev pub leaf_face : LeafPart → BlockFace
leaf_face (paragraph source) = ParagraphFace
leaf_face (code info text) = CodeBlockFace
leaf_face _ = OtherBlockFace

abbrev pub faces_of : Sequence → List BlockFace
faces_of no_blocks = []
faces_of (leaf_then x rest) = leaf_face x.part ∷ faces_of rest
faces_of (quote_then inside rest) = QuoteFace ∷ faces_of rest
faces_of (list_then kind tight items rest) = ListFace kind (not (is_none (first_inside items))) ∷ faces_of rest

-- a list comes first, and one of its kind is right before
abbrev pub clashes : (before : Option BlockFace) → List BlockFace → Bool
clashes before (ListFace kind filled ∷ others) = is_after_same kind before
clashes before _ = false

pub no-faces : (o : Sequence) → faces_of o ≡ [] → is_none o ≡ true
no-faces no_blocks h = refl
no-faces (leaf_then x rest) h = absurd (cc h)
no-faces (quote_then inside rest) h = absurd (cc h)
no-faces (list_then kind tight items rest) h = absurd (cc h)

pub some-face : (o : Sequence) (face : BlockFace) (others : List BlockFace) → faces_of o ≡ face ∷ others → is_none o ≡ false
some-face no_blocks face others h = absurd (cc h)
some-face (leaf_then x rest) face others h = refl
some-face (quote_then inside rest) face others h = refl
some-face (list_then kind tight items rest) face others h = refl

-- a second block, and a list before

pub has-two : (o : Sequence) → has_two (faces_of o) ≡ has_two_blocks o
has-two no_blocks = refl
has-two (leaf_then x rest) = beyond (leaf_face x.part) rest
  where
    beyond : (face : BlockFace) (rest : Sequence) → has_two (face ∷ faces_of rest) ≡ not (is_none rest)
    beyond face no_blocks = refl
    beyond face (leaf_then x rest) = refl
    beyond face (quote_then inside rest) = refl
    beyond face (list_then kind tight items rest) = refl
has-two (quote_then inside no_blocks) = refl
has-two (quote_then inside (leaf_then x rest)) = refl
has-two (quote_then inside (quote_then more rest)) = refl
has-two (quote_then inside (list_then kind tight items rest)) = refl
has-two (list_then kind tight items no_blocks) = refl
has-two (list_then kind tight items (leaf_then x rest)) = refl
has-two (list_then kind tight items (quote_then inside rest)) = refl
has-two (list_then kind tight items (list_then other loose others rest)) = refl

pub list-first : (o : Sequence) → is_list (faces_of o) ≡ begins_with_list o
list-first no_blocks = refl
list-first (leaf_then x rest) = leaf-first x.part (faces_of rest)
  where
    leaf-first : (part : LeafPart) (others : List BlockFace) → is_list (leaf_face part ∷ others) ≡ false
    leaf-first (paragraph source) others = refl
    leaf-first (heading level content) others = refl
    leaf-first (code info text) others = refl
    leaf-first (html text) others = refl
    leaf-first thematic_break others = refl
    leaf-first (definition label dest title) others = refl
list-first (quote_then inside rest) = refl
list-first (list_then kind tight items rest) = refl

-- lists of the same kind

same-kind : (one other : ListKind) → is_same_kind one other ≡ is_same_kind other one
same-kind Dash Dash = refl
same-kind Dash Plus = refl
same-kind Dash Star = refl
same-kind Dash (Dot n) = refl
same-kind Dash (Paren n) = refl
same-kind Plus Dash = refl
same-kind Plus Plus = refl
same-kind Plus Star = refl
same-kind Plus (Dot n) = refl
same-kind Plus (Paren n) = refl
same-kind Star Dash = refl
same-kind Star Plus = refl
same-kind Star Star = refl
same-kind Star (Dot n) = refl
same-kind Star (Paren n) = refl
same-kind (Dot m) Dash = refl
same-kind (Dot m) Plus = refl
same-kind (Dot m) Star = refl
same-kind (Dot m) (Dot n) = refl
same-kind (Dot m) (Paren n) = refl
same-kind (Paren m) Dash = refl
same-kind (Paren m) Plus = refl
same-kind (Paren m) Star = refl
same-kind (Paren m) (Dot n) = refl
same-kind (Paren m) (Paren n) = refl

pub no-clash : (kind : ListKind) (filled : Bool) (o : Sequence) → clashes (Some (ListFace kind filled)) (faces_of o) ≡ false → begins_with_kind kind o ≡ false
no-clash kind filled no_blocks h = refl
no-clash kind filled (leaf_then x rest) h = refl
no-clash kind filled (quote_then inside rest) h = refl
no-clash kind filled (list_then other tight items rest) h = same-kind kind other ∙ h

pub leaf-apart : (before : Option BlockFace) (part : LeafPart) (others : List BlockFace) → clashes before (leaf_face part ∷ others) ≡ false
leaf-apart before (paragraph source) others = refl
leaf-apart before (heading level content) others = refl
leaf-apart before (code info text) others = refl
leaf-apart before (html text) others = refl
leaf-apart before thematic_break others = refl
leaf-apart before (definition label dest title) others = refl

-- the blocks of an item of a tight list

record AreTwo (part : LeafPart) (next : BlockFace) (others : List BlockFace) : Type 0 where
  pub first : is_paragraph part ≡ true
  pub second : can_follow next ≡ true
  pub last : others ≡ []

are-two : (part : LeafPart) (next : BlockFace) (others : List BlockFace) → is_tight_item (leaf_face part ∷ next ∷ others) ≡ true → AreTwo part next others
are-two (paragraph source) next [] h = record { first = refl; second = h; last = refl }
are-two (paragraph source) next (face ∷ others) h = absurd (false≢true h)
are-two (heading level content) next others h = absurd (false≢true h)
are-two (code info text) next others h = absurd (false≢true h)
are-two (html text) next others h = absurd (false≢true h)
are-two thematic_break next others h = absurd (false≢true h)
are-two (definition label dest title) next others h = absurd (false≢true h)

code-follows : (part : LeafPart) → can_follow (leaf_face part) ≡ true → is_code part ≡ true
code-follows (code info text) h = refl
code-follows (paragraph source) h = absurd (false≢true h)
code-follows (heading level content) h = absurd (false≢true h)
code-follows (html text) h = absurd (false≢true h)
code-follows thematic_break h = absurd (false≢true h)
code-follows (definition label dest title) h = absurd (false≢true h)

not-not : (v : Bool) → not (not v) ≡ v
not-not true = refl
not-not false = refl

starts-early : (kind : ListKind) → not (begins_late kind) ≡ starts_at_one kind
starts-early Dash = refl
starts-early Plus = refl
starts-early Star = refl
starts-early (Dot n) = not-not (n == 1)
starts-early (Paren n) = not-not (n == 1)

follows-leaf : (x : LeafPart) (o : Sequence) → is_tight_item (leaf_face x ∷ faces_of o) ≡ true → (is_none o || is_paragraph x && interrupts_alone o) ≡ true
follows-leaf x no_blocks h = refl
follows-leaf x (leaf_then y rest) h =
    let two = are-two x (leaf_face y.part) (faces_of rest) h in
    and_from (is_paragraph x) (is_none rest && is_code y.part) two.first (and_from (is_none rest) (is_code y.part) (no-faces rest two.last) (code-follows y.part two.second))
follows-leaf x (quote_then inside rest) h =
    let two = are-two x QuoteFace (faces_of rest) h in
    and_from (is_paragraph x) (is_none rest) two.first (no-faces rest two.last)
follows-leaf x (list_then kind tight items rest) h =
    let filled = not (is_none (first_inside items)) in
    let two = are-two x (ListFace kind filled) (faces_of rest) h in
    let (some, early) = and_parts filled (not (begins_late kind)) two.second in
    and_from (is_paragraph x) (is_none rest && starts_at_one kind && filled) two.first
    (and_from (is_none rest && starts_at_one kind) filled (and_from (is_none rest) (starts_at_one kind) (no-faces rest two.last) (sym (starts-early kind) ∙ early)) some)

pub tight-item : (o : Sequence) → is_tight_item (faces_of o) ≡ true → fits_tight o ≡ true
tight-item no_blocks h = refl
tight-item (leaf_then x rest) h = follows-leaf x.part rest h
tight-item (quote_then inside no_blocks) h = refl
tight-item (quote_then inside (leaf_then x rest)) h = absurd (false≢true h)
tight-item (quote_then inside (quote_then more rest)) h = absurd (false≢true h)
tight-item (quote_then inside (list_then kind tight items rest)) h = absurd (false≢true h)
tight-item (list_then kind tight items no_blocks) h = refl
tight-item (list_then kind tight items (leaf_then x rest)) h = absurd (false≢true h)
tight-item (list_then kind tight items (quote_then inside rest)) h = absurd (false≢true h)
tight-item (list_then kind tight items (list_then other loose others rest)) h = absurd (false≢true h)
