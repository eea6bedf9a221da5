-- Which lines have only markers.
use Rattle.std.proofs.Common.{◌≡◌, ℕ, suc, ◌+◌, ◌<◌, Bool, true, false, cond, List, codes, drop, length, slice_index_or, drop-cons, ap, sym, ◌∙◌, arith}
use Rattle.std.specs.List.{list_any}
use Rattle.json.specs.Json.{Items, item, Members, no_members, member, array}
use Rattle.cm_tree.specs.declared.tree.Owner.{Owner}
use Rattle.cm_tree.specs.declared.tree.Owner.TheVariants.{Leaf}
use Rattle.cm_json.specs.Mdast.{count, is_marker, marker_lines, markers}

-- those from one line on, by whether it has
pub at_line : (owners : List Owner) (i : ℕ) → i < length owners
    → marker_lines i (drop i owners)
    ≡ cond (is_marker (slice_index_or owners i (Leaf 0))) (item (count (i + 1)) (marker_lines (i + 1) (drop (i + 1) owners))) (marker_lines (i + 1) (drop (i + 1) owners))
at_line owners i within =
    let next : suc i ≡ i + 1 = omega arith in
    ap (marker_lines i) (drop-cons owners i (Leaf 0) within)
    ∙ ap (λ n. cond (is_marker (slice_index_or owners i (Leaf 0))) (item (count (i + 1)) (marker_lines (i + 1) (drop n owners))) (marker_lines (i + 1) (drop n owners))) next

-- what `data` has of them, by whether there are any
abbrev pub told : List Owner → Bool → Members
told owners some = cond some (member (codes "markers") (array (marker_lines 0 owners)) no_members) no_members

pub none_told : (owners : List Owner) → list_any is_marker owners ≡ false → markers owners ≡ no_members
none_told owners none = ap (told owners) none

pub some_told : (owners : List Owner) → list_any is_marker owners ≡ true → markers owners ≡ member (codes "markers") (array (marker_lines 0 owners)) no_members
some_told owners some = ap (told owners) some

-- those from one line on are those of the line and those after it
module _ (owners : List Owner) (i : ℕ) (within : i < length owners) where
  abbrev rest : Items
  rest = marker_lines (i + 1) (drop (i + 1) owners)

  abbrev here : Bool → Items
  here marker = cond marker (item (count (i + 1)) rest) rest

  pub no_marker : is_marker (slice_index_or owners i (Leaf 0)) ≡ false → rest ≡ marker_lines i (drop i owners)
  no_marker other = sym (at_line owners i within ∙ ap here other)

  pub a_marker : is_marker (slice_index_or owners i (Leaf 0)) ≡ true → item (count (i + 1)) rest ≡ marker_lines i (drop i owners)
  a_marker is = sym (at_line owners i within ∙ ap here is)
