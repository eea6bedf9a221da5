-- Emphasis in one pass from the left (CommonMark 0.31.2, Appendix: A parsing strategy). Each run that can close emphasis looks for
-- its nearest opener.
use Rattle.std.specs.Prelude.{◌≡◌, ℕ, zero, suc, ◌-◌, true, false, List, [], ◌∷◌, ◌++◌, reverse, Some, None, codes, nat_le}
use Rattle.cm_tree.specs.declared.tree.Inline.TheVariants.{Text, Emph, Strong}
use Rattle.cm_scan.specs.inlines.Delimiters.{Run}
use Rattle.cm_scan.specs.inlines.Pairing.{Item, Characters, Finished, Delimiters, Opened, nearest_opener, settled, used, emphasised, without, pair_all}

-- The items up to the emphasis of a new pair: those before the opener, what is left of the opener, and the emphasis.
abbrev pub up_to_pair : Opened → Run → List Item
up_to_pair found closer =
    let count = used found.opener closer in
    found.before ++ without count found.opener ++ Finished (emphasised closer.character count (settled found.inside)) ∷ []

-- what is left of the closer of a pair
abbrev pub closer_left : Opened → Run → Run
closer_left found closer = record closer { left = closer.left - used found.opener closer }

-- The items up to a run that can close emphasis, in reverse: it makes a pair with its nearest opener, and what is left of it continues
-- in the same way, for at most the given number of pairs. If it has no opener it is left unchanged.
unfoldable pub closed_within : ℕ → List Item → Run → List Item
closed_within zero before closer = Delimiters closer ∷ before
closed_within (suc n) before closer = elim (nearest_opener closer before []) [
  | Some found ↦ elim (nat_le closer.left (used found.opener closer)) [
    | true ↦ reverse (up_to_pair found closer)
    | false ↦ closed_within n (reverse (up_to_pair found closer)) (closer_left found closer)
  ]
  | None ↦ Delimiters closer ∷ before
]

-- The same with as many pairs as the run can make: each takes at least one of its characters, and a run with none left can make one
-- pair.
abbrev pub closed_by : List Item → Run → List Item
closed_by before closer = closed_within (suc closer.left) before closer

-- The items up to an item, in reverse, after that item: only a run that can close emphasis makes pairs.
abbrev pub passed : List Item → Item → List Item
passed before (Delimiters run) = elim run.closes [ true ↦ closed_by before run | false ↦ Delimiters run ∷ before ]
passed before item = item ∷ before

-- The items after one pass over those that follow, given those before them in reverse.
unfoldable pub pass_from : List Item → List Item → List Item
pass_from before [] = reverse before
pass_from before (item ∷ after) = pass_from (passed before item) after

-- the items after one pass over them from the left
abbrev pub one_pass : List Item → List Item
one_pass items = pass_from [] items

-- Repeated pairing makes what one pass from the left makes.
abbrev pub PairsInOnePass : Type 0
PairsInOnePass = (items : List Item) → pair_all items ≡ one_pass items

-- a run with the given number of stars, which may only open or only close
abbrev pub opening_stars : ℕ → Item
opening_stars n = Delimiters (record { character = 42; whole = n; left = n; opens = true; closes = false })

abbrev pub closing_stars : ℕ → Item
closing_stars n = Delimiters (record { character = 42; whole = n; left = n; opens = false; closes = true })

-- Worked examples of one pass: a closer that makes two pairs, and one that makes a pair and stays with what is left of it.
pub record OnePassExamples : Type 0 where
  pub two_pairs :
      one_pass (opening_stars 1 ∷ Characters (codes "a") ∷ opening_stars 2 ∷ Characters (codes "b") ∷ closing_stars 3 ∷ Characters (codes "c") ∷ [])
      ≡ Finished (Emph (Text (codes "a") ∷ Strong (Text (codes "b") ∷ []) ∷ [])) ∷ Characters (codes "c") ∷ []
  pub one_star_left :
      one_pass (opening_stars 2 ∷ Characters (codes "a") ∷ closing_stars 3 ∷ Characters (codes "b") ∷ [])
      ≡ Finished (Strong (Text (codes "a") ∷ []))
      ∷ Delimiters (record { character = 42; whole = 3; left = 1; opens = false; closes = true }) ∷ Characters (codes "b") ∷ []
