-- The runs that may open as contracts see them: the last first, each with its number.
use Rattle.std.specs.Prelude.{◌≡◌, ℕ, ◌+◌, ◌<◌, ◌≤◌, Bool, true, ◌&&◌, ◌==◌, if◌then◌else◌, nat_le, List, [], ◌∷◌, ◌++◌, length, take, drop, sum_by, count_by, ⊤}
use Rattle.cm_scan.specs.inlines.Delimiters.{Run, delimiters_match}

-- an entry: the number of its run among those of the leaf, and the run
pub record Entry : Type 0 where
  pub place : ℕ
  pub run : Run

-- the entries with the last first, how often one was read, and the number of the run at hand
pub record Listed : Type 0 where
  pub entries : List Entry
  pub looks : ℕ
  pub next : ℕ

-- the last entry, if there is one, and those before it
abbrev pub last_entry : List Entry → List Entry
last_entry entries = take 1 entries

abbrev pub before_last : List Entry → List Entry
before_last entries = drop 1 entries

-- the runs may open, and something is left of each
abbrev pub AllOpen : List Entry → Type 0
AllOpen [] = ⊤
AllOpen (e ∷ es) = (e.run.opens ≡ true) × (1 ≤ e.run.left) × AllOpen es

-- what is left of the last entry, if anything is, and those before it
abbrev pub left_of : ℕ → Entry → List Entry
left_of left e = if left == 0 then [] else record e { run = record e.run { left = left } } ∷ []

abbrev pub leaving : ℕ → List Entry → List Entry
leaving left [] = []
leaving left (e ∷ es) = left_of left e ++ es

-- the numbers of the entries are below this one
abbrev pub Below : ℕ → List Entry → Type 0
Below n [] = Unit {0}
Below n (e ∷ es) = (e.place < n) × Below n es

-- the numbers fall, from the last entry on
abbrev pub Falling : List Entry → Type 0
Falling [] = Unit {0}
Falling (e ∷ es) = Below e.place es × Falling es

-- how many entries are at a bottom or above it
abbrev pub above : ℕ → List Entry → ℕ
above bottom entries = count_by (λ e. nat_le bottom e.place) entries

-- The looks in vain that may still be made: one for each kind of closer at each entry that its bottom leaves in reach,
-- and one for each entry when it is taken out between a pair.
unfoldable pub reserve : List ℕ → List Entry → ℕ
reserve bottoms entries = sum_by (λ b. above b entries) bottoms + length entries

-- the entry opens for a closer
abbrev pub answers : Run → Entry → Bool
answers closer e = e.run.opens && delimiters_match closer e.run
