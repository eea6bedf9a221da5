-- Texts without some bytes at their ends.
use Rattle.std.specs.Prelude.{ℕ, Bool, true, false, List, [], ◌∷◌, if◌then◌else◌}

-- what is left of a text after the bytes at its start that pass a test
unfoldable pub skip : (ℕ → Bool) → List ℕ → List ℕ
skip test [] = []
skip test (b ∷ bs) = elim (test b) [ true ↦ skip test bs | false ↦ b ∷ bs ]

-- a byte before what is left of the text after it: nothing if that is empty and the byte passes
abbrev pub keep_byte : (ℕ → Bool) → ℕ → List ℕ → List ℕ
keep_byte test b [] = if test b then [] else b ∷ []
keep_byte test b (c ∷ cs) = b ∷ c ∷ cs

-- a text without the bytes at its end that pass a test
unfoldable pub trim_end_by : (ℕ → Bool) → List ℕ → List ℕ
trim_end_by test [] = []
trim_end_by test (b ∷ bs) = keep_byte test b (trim_end_by test bs)
