-- The formed texts of a writing, by the numbers of their forms and by their texts.
use Rattle.std.specs.Prelude.{◌≡◌, ℕ, List, [], ◌∷◌}
use Rattle.std.specs.declared.cmp.Ordering.{Ordering}
use Rattle.std.specs.Ordering.{nat_cmp, ordering_then}
use Rattle.std.specs.Cmp.Lexicographic.{slice_cmp}
use Rattle.cm_html.specs.declared.forms.Form.{Form}
use Rattle.cm_html.specs.declared.forms.Form.TheVariants.{Destination, Escaped, Quoted, Json}
use Rattle.cm_html.specs.Forms.{formed}

abbrev pub number_of : Form → ℕ
number_of Destination = 0
number_of Escaped = 1
number_of Quoted = 2
number_of Json = 3

-- the number of a form, and a text
abbrev pub Key : Type 0
Key = ℕ × List ℕ

-- the text in the form of this number
abbrev pub IsFormed : Key → List ℕ → Type 0
IsFormed key made = (form : Form) → number_of form ≡ key.0 → made ≡ formed form key.1

-- so are all entries
abbrev pub AreFormed : List (Key × List ℕ) → Type 0
AreFormed [] = Unit {0}
AreFormed (e ∷ es) = IsFormed e.0 e.1 × AreFormed es

-- keys as the map has them: by their numbers, and then by their texts
abbrev pub key_cmp : Key → Key → Ordering
key_cmp j k = ordering_then (nat_cmp j.0 k.0) (slice_cmp nat_cmp j.1 k.1)
