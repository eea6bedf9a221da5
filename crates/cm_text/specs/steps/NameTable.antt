-- The table in which names are looked up. It is shown to have the names of references.
use Rattle.std.specs.Prelude.{ℕ, ◌+◌, ◌-◌, ◌==◌, if◌then◌else◌, List, [], ◌∷◌, take, drop, slice_index}
use Rattle.cm_text.specs.declared.names.TheConstants.{NAMES, STARTS, CHARACTERS}

unfoldable pub names_joined : List ℕ
names_joined = NAMES.now

unfoldable pub start_at : ℕ → ℕ
start_at i = slice_index STARTS i

unfoldable pub first_at : ℕ → ℕ
first_at i = slice_index CHARACTERS i

-- a name by its place
unfoldable pub name_at : ℕ → List ℕ
name_at i = take (start_at (i + 1) - start_at i) (drop (start_at i) names_joined)

-- and its characters: ngE, at place 122, is the one name of two characters
unfoldable pub characters_at : ℕ → List ℕ
characters_at i = first_at i ∷ (if i == 122 then 0x338 ∷ [] else [])
