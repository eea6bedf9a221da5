-- The number of a label, by which a table finds it.
use Rattle.std.specs.Prelude.{ℕ, ◌+◌, ◌*◌, ◌^◌, ◌%◌, List, [], ◌∷◌}

-- one byte more: added, and the sum times an odd number, in 64 bits
abbrev pub number_step : ℕ → ℕ → ℕ
number_step number b = (number + b) % 2 ^ 64 * 5871781006564002453 % 2 ^ 64

abbrev pub number_from : ℕ → List ℕ → ℕ
number_from number [] = number
number_from number (b ∷ bs) = number_from (number_step number b) bs

unfoldable pub number_of : List ℕ → ℕ
number_of label = number_from 0 label
