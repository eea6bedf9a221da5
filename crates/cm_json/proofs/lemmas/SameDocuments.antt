-- Documents are told apart by their JSON: each is found again.
use Rattle.std.proofs.Common.{◌≡◌, ℕ, suc, ◌+◌, ◌<◌, ◌^◌, true, false, cond, List, [], ◌∷◌, length, codes, map, refl, ap, ap₂, sym, ◌∙◌, arith}
use Rattle.std.specs.List.{list_any}
use Rattle.std.proofs.lemmas.Bool.{or_parts}
use Rattle.json.specs.Json.{Json, array, object, Items, no_items, item, Members, no_members, member}
use Rattle.json.specs.Tree.{HasNumbers, ItemsHaveNumbers, MembersHaveNumbers}
use Rattle.json.proofs.Printed.Decimals.{IsNumber-decimal}
use Rattle.cm_tree.specs.declared.tree.Block.{Block}
use Rattle.cm_tree.specs.declared.tree.Owner.{Owner}
use Rattle.cm_scan.specs.laws.PartLaws.{leaves_in}
use Rattle.cm_json.specs.Mdast.{count, is_marker, marker_lines, markers, value_of}
use Rattle.cm_tree.specs.HeadingLevels.{all_of}
use Rattle.cm_json.specs.SameDocuments.{IsInOrder, is_in_range, SameJsonSameDocument}
use Rattle.cm_json.proofs.lemmas.BlocksBack.{count_back, count-back, blocks_back, all_spans, all-back}
use Rattle.cm_json.proofs.lemmas.Numbers.{lines-numbers}
use Rattle.cm_json.proofs.lemmas.OwnersBack.{runs, markers_of, owners_back, owners-back}
use Rattle.cm_json.proofs.lemmas.Printed.{same_value}

-- ---- lines with only markers

abbrev counts_back : Items → List ℕ
counts_back no_items = []
counts_back (item j js) = count_back j ∷ counts_back js

abbrev markers_back : Members → List ℕ
markers_back (member k (array js) more) = counts_back js
markers_back _ = []

counts-back : (owners : List Owner) (passed : ℕ) → passed + length owners < 2 ^ 63 → counts_back (marker_lines passed owners) ≡ markers_of passed owners
counts-back [] passed small = refl
counts-back (owner ∷ owners) passed small =
    let next : passed + 1 ≡ suc passed = omega arith in
    let rest = counts-back owners (passed + 1) (omega (arith, small)) ∙ ap (λ n. markers_of n owners) next in
    elim (is_marker owner) as (λ b. counts_back (cond b (item (count (passed + 1)) (marker_lines (passed + 1) owners)) (marker_lines (passed + 1) owners))
    ≡ cond b (suc passed ∷ markers_of (suc passed) owners) (markers_of (suc passed) owners)) [
      | true ↦ ap₂ (λ n ns. n ∷ ns) (count-back (passed + 1) (omega (arith, small)) ∙ next) rest
      | false ↦ rest
    ]

no-marker : (owners : List Owner) (passed : ℕ) → list_any is_marker owners ≡ false → markers_of passed owners ≡ []
no-marker [] passed none = refl
no-marker (owner ∷ owners) passed none =
    let (here, more) = or_parts (is_marker owner) (list_any is_marker owners) none in
    ap (λ b. cond b (suc passed ∷ markers_of (suc passed) owners) (markers_of (suc passed) owners)) here ∙ no-marker owners (suc passed) more

markers-back : (owners : List Owner) → length owners < 2 ^ 63 → markers_back (markers owners) ≡ markers_of 0 owners
markers-back owners small = elim (list_any is_marker owners) as (λ b. list_any is_marker owners ≡ b
    → markers_back (cond b (member (codes "markers") (array (marker_lines 0 owners)) no_members) no_members) ≡ markers_of 0 owners) [
      | true ↦ λ e. counts-back owners 0 (omega (arith, small))
      | false ↦ λ e. sym (no-marker owners 0 e)
    ] refl

marker_lines-numbers : (owners : List Owner) (passed : ℕ) → passed + length owners < 2 ^ 63 → ItemsHaveNumbers (marker_lines passed owners)
marker_lines-numbers [] passed small = tt
marker_lines-numbers (owner ∷ owners) passed small =
    let rest = marker_lines-numbers owners (passed + 1) (omega (arith, small)) in
    elim (is_marker owner) as (λ b. ItemsHaveNumbers (cond b (item (count (passed + 1)) (marker_lines (passed + 1) owners)) (marker_lines (passed + 1) owners))) [
      | true ↦ (IsNumber-decimal (passed + 1) (omega (arith, small)), rest)
      | false ↦ rest
    ]

markers-numbers : (owners : List Owner) → length owners < 2 ^ 63 → MembersHaveNumbers (markers owners)
markers-numbers owners small =
    elim (list_any is_marker owners) as (λ b. MembersHaveNumbers (cond b (member (codes "markers") (array (marker_lines 0 owners)) no_members) no_members)) [
      | true ↦ (marker_lines-numbers owners 0 (omega (arith, small)), tt)
      | false ↦ tt
    ]

-- ---- documents

abbrev blocks_of : Json → List Block
blocks_of (object (member a t (member b told (member c (array js) no_members)))) = blocks_back js
blocks_of _ = []

abbrev owners_of : Json → List Owner
owners_of (object (member a t (member b (object (member c (array (item one (item n no_items))) told)) (member d (array js) no_members)))) =
    owners_back (count_back n) 1 0 (all_spans js) (markers_back told)
owners_of _ = []

-- each number of its JSON is one of JSON
pub numbers : (blocks : List Block) (owners : List Owner) → all_of (map is_in_range blocks) ≡ true → length owners < 2 ^ 63 → HasNumbers (value_of blocks owners)
numbers blocks owners in_range lines =
    let small : (0 + 1 < 2 ^ 64) × (length owners < 2 ^ 64) = (omega arith, omega (arith, lines)) in
    (tt, (lines-numbers 0 (length owners) (markers owners) small (markers-numbers owners lines), ((all-back blocks owners in_range lines).have, tt)))

module _ (blocks : List Block) (owners : List Owner) (order : IsInOrder blocks owners) where
  blocks-back : blocks_of (value_of blocks owners) ≡ blocks
  blocks-back = (all-back blocks owners order.in_range order.lines).back

  owners-of-back : owners_of (value_of blocks owners) ≡ owners
  owners-of-back =
      ap₂ (λ n (spans : List (ℕ × ℕ)). owners_back n 1 0 spans (markers_back (markers owners))) (count-back (length owners) (omega (arith, order.lines))) (all-back blocks owners order.in_range order.lines).lines
      ∙ ap (λ ms. owners_back (length owners) 1 0 (runs owners (leaves_in blocks) 0) ms) (markers-back owners order.lines)
      ∙ owners-back owners (leaves_in blocks) order.runs

pub same_document : SameJsonSameDocument
same_document b c o p one two same =
    let value = same_value (value_of b o) (value_of c p) (numbers b o one.in_range one.lines) (numbers c p two.in_range two.lines) same in
    (sym (blocks-back b o one) ∙ ap blocks_of value ∙ blocks-back c p two, sym (owners-of-back b o one) ∙ ap owners_of value ∙ owners-of-back c p two)
