-- The lines of a sequence have no byte that can't be in a line.
use Rattle.std.proofs.Common.{◌≡◌, ℕ, ◌+◌, ◌&&◌, not, Bool, true, false, List, [], ◌∷◌, ◌++◌, length, map, replicate, refl, ap}
use Rattle.std.proofs.lemmas.Bool.{and_parts, and_from}
use Rattle.std.specs.List.{list_all}
use Rattle.cm_text.specs.Rules.{Rules}
use Rattle.cm_tree.specs.declared.tree.ListKind.{ListKind}
use Rattle.cm_source.specs.Spelling.{spaced, quoted, quote_lines, indented, item_lines, marker, gap}
use Rattle.cm_source.specs.steps.Sources.{is_one_line}
use Rattle.cm_source.specs.steps.Sequences.{Sequence, no_blocks, leaf_then, quote_then, list_then, SequenceItems, last_one, one_and, gap_before, block_lines, lines_of_items}
use Rattle.cm_source.proofs.lemmas.blocks.SequenceFits.{FitAll, ItemsFit}
use Rattle.cm_source.proofs.lemmas.blocks.LeavesBack.{is_inside_line}
use Rattle.cm_source.proofs.lemmas.shared.AllPass.{all-both, all-times}

abbrev are_clean : List (List ℕ) → Bool
are_clean lines = list_all is_one_line lines

gap-clean : (v : Bool) → are_clean (gap v) ≡ true
gap-clean true = refl
gap-clean false = refl

spaced-clean : (t : List ℕ) → is_one_line t ≡ true → is_one_line (spaced t) ≡ true
spaced-clean [] h = refl
spaced-clean (b ∷ t) h = h

map-clean : (f : List ℕ → List ℕ) → ((t : List ℕ) → is_one_line t ≡ true → is_one_line (f t) ≡ true) → (ts : List (List ℕ)) → are_clean ts ≡ true → are_clean (map f ts) ≡ true
map-clean f one [] h = refl
map-clean f one (t ∷ ts) h =
    let (first, more) = and_parts (is_one_line t) (are_clean ts) h in
    and_from (is_one_line (f t)) (are_clean (map f ts)) (one t first) (map-clean f one ts more)

quote-clean : (ts : List (List ℕ)) → are_clean ts ≡ true → are_clean (quote_lines ts) ≡ true
quote-clean [] h = refl
quote-clean (t ∷ ts) h = map-clean quoted spaced-clean (t ∷ ts) h

indented-clean : (n : ℕ) (t : List ℕ) → is_one_line t ≡ true → is_one_line (indented n t) ≡ true
indented-clean n [] h = refl
indented-clean n (b ∷ t) h = all-both is_inside_line (replicate n 32) (b ∷ t) (all-times is_inside_line n 32 refl) h

item-clean : (mark : List ℕ) → is_one_line mark ≡ true → (ts : List (List ℕ)) → are_clean ts ≡ true → are_clean (item_lines mark ts) ≡ true
item-clean mark m [] h = ap (λ v. v && true) m
item-clean mark m (t ∷ ts) h =
    let (first, more) = and_parts (is_one_line t) (are_clean ts) h in
    and_from (is_one_line (mark ++ spaced t)) (are_clean (map (indented (length mark + 1)) ts)) (all-both is_inside_line mark (spaced t) m (spaced-clean t first))
    (map-clean (indented (length mark + 1)) (indented-clean (length mark + 1)) ts more)

with-gap : (ts : List (List ℕ)) (v : Bool) (us : List (List ℕ)) → are_clean ts ≡ true → are_clean us ≡ true → are_clean (ts ++ gap v ++ us) ≡ true
with-gap ts v us h k = all-both is_one_line (ts ++ gap v) us (all-both is_one_line ts (gap v) h (gap-clean v)) k

module _ (rules : Rules) where
  mutual
    unfolding FitAll ItemsFit block_lines lines_of_items

    pub blocks-clean : (a e : Bool) (o : Sequence) → FitAll rules o → are_clean (block_lines a e o) ≡ true
    blocks-clean a e no_blocks fit = refl
    blocks-clean a e (leaf_then x rest) fit = with-gap x.lines (gap_before a e rest) (block_lines a e rest) fit.0.clean (blocks-clean a e rest fit.1)
    blocks-clean a e (quote_then inside rest) fit =
        with-gap (quote_lines (block_lines true false inside)) (gap_before a e rest) (block_lines a e rest) (quote-clean (block_lines true false inside) (blocks-clean true false inside fit.0)) (blocks-clean a e rest fit.1)
    blocks-clean a e (list_then kind tight items rest) fit =
        with-gap (lines_of_items kind tight items) (gap_before a e rest) (block_lines a e rest) (items-clean kind fit.0.clean tight items fit.1) (blocks-clean a e rest fit.4)

    items-clean : (kind : ListKind) → is_one_line (marker kind) ≡ true → (tight : Bool) (items : SequenceItems) → ItemsFit rules tight items → are_clean (lines_of_items kind tight items) ≡ true
    items-clean kind m tight (last_one inside) fit = item-clean (marker kind) m (block_lines (not tight) false inside) (blocks-clean (not tight) false inside fit.2)
    items-clean kind m tight (one_and inside items) fit =
        with-gap (item_lines (marker kind) (block_lines (not tight) false inside)) (not tight) (lines_of_items kind tight items)
        (item-clean (marker kind) m (block_lines (not tight) false inside) (blocks-clean (not tight) false inside fit.2)) (items-clean kind m tight items fit.3)
