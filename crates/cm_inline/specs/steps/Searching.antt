-- The search for an opener among those before a closer, with bottoms.
use Rattle.std.specs.Prelude.{◌≡◌, ◌⊎◌, ℕ, suc, ◌+◌, ◌%◌, ◌<◌, true, false, ◌==◌, cond, nat_lt, List, [], ◌∷◌, get_or, sum_by, take, replicate, Option, Some, None}
use Rattle.cm_scan.specs.inlines.Delimiters.{Run}
use Rattle.cm_inline.specs.Closers.{all_kinds, kinds_of_one, kinds_without_tildes}
use Rattle.cm_inline.specs.steps.Entries.{Entry, Listed, reserve, answers}

-- The kind of a closer: its character, whether it can also open, its whole length by 3; closers of tildes are of one kind.
unfoldable pub kind : Run → ℕ
kind run = cond (run.character == 126) kinds_without_tildes (cond (run.character == 95) kinds_of_one 0 + cond run.opens 3 0 + run.whole % 3)

-- a run of stars, of underscores or of tildes
abbrev pub IsMarked : Run → Type 0
IsMarked run = (run.character ≡ 42) ⊎ (run.character ≡ 95) ⊎ (run.character ≡ 126)

-- the first entry that opens for a closer, the bottom not passed, and how often an entry is read until then
unfoldable pub find_opener : Run → ℕ → List Entry → Option Entry
find_opener c bottom [] = None
find_opener c bottom (e ∷ es) = cond (nat_lt e.place bottom) None (cond (answers c e) (Some e) (find_opener c bottom es))

unfoldable pub looks_for : Run → ℕ → List Entry → ℕ
looks_for c bottom [] = 0
looks_for c bottom (e ∷ es) = cond (nat_lt e.place bottom) 0 (suc (cond (answers c e) 0 (looks_for c bottom es)))

-- the entries from the one that is found on
unfoldable pub from_found : Run → ℕ → List Entry → List Entry
from_found c bottom [] = []
from_found c bottom (e ∷ es) = cond (nat_lt e.place bottom) [] (cond (answers c e) (e ∷ es) (from_found c bottom es))

-- no entry below a bottom opens for a closer
abbrev pub NoneBeneath : Run → ℕ → List Entry → Type 0
NoneBeneath c bottom [] = Unit {0}
NoneBeneath c bottom (e ∷ es) = (e.place < bottom → answers c e ≡ false) × NoneBeneath c bottom es

abbrev pub NoneAnswers : Run → List Entry → Type 0
NoneAnswers c [] = Unit {0}
NoneAnswers c (e ∷ es) = (answers c e ≡ false) × NoneAnswers c es

-- each kind of closer has its bottom
abbrev pub AreSound : List ℕ → List Entry → Type 0
AreSound bottoms es = (c : Run) → IsMarked c → c.closes ≡ true → NoneBeneath c (get_or bottoms (kind c) 0) es

-- how many characters are left in the entries
abbrev pub characters : List Entry → ℕ
characters = sum_by (λ e. e.run.left)

-- The looks made, those that may still be made for the given number of first kinds of closers, and one for each character left
abbrev pub spent : (kinds : ℕ) → Listed → List ℕ → ℕ
spent kinds l bottoms = l.looks + reserve (take kinds bottoms) l.entries + characters l.entries

-- no bottom is known
abbrev pub zeros : List ℕ
zeros = replicate all_kinds 0
