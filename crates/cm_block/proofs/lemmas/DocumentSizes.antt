-- How many bytes the texts of a document's blocks have.
use Rattle.std.proofs.Common.{◌≡◌, ℕ, zero, suc, ◌+◌, ◌*◌, ◌≤◌, ◌==◌, Bool, true, false, List, [], ◌∷◌, ◌++◌, length, map, refl, arith, le_refl}
use Rattle.std.specs.Prelude.{if◌then◌else◌}
use Rattle.std.specs.List.{flat_map}
use Rattle.std.specs.Str.Lossy.{replacement_bytes}
use Rattle.cm_text.specs.Rules.{Rules}
use Rattle.cm_text.specs.Lines.{LineView, text_of_byte, text_of, last_line, lines_after, lines_of, plain_line, plain_lines_of}
use Rattle.cm_scan.specs.blocks.Blocks.{parts_of}
use Rattle.cm_block.proofs.lemmas.TextSizes.{byte_weight, weight, weight_of}
use Rattle.cm_block.specs.Sizes.{part_sizes, TextsAreShort}
use Rattle.cm_block.proofs.lemmas.PartSizes.{part-sizes}

weight-append : (bs cs : List ℕ) → weight (bs ++ cs) ≡ weight bs + weight cs
unfolding weight
weight-append [] cs = omega arith
weight-append (b ∷ bs) cs = omega (arith, weight-append bs cs)

-- the bytes of a document

byte-weight : (b : ℕ) → weight (text_of_byte b) ≤ 3
unfolding weight
byte-weight b = go (b == 0) (b == 9)
  where
    go : (null tab : Bool) → weight (if null then replacement_bytes else b ∷ []) ≤ 3
    go true tab = grind arith
    go false tab = grind arith

text-weight : (bytes : List ℕ) → weight (text_of bytes) ≤ 3 * length bytes
unfolding weight
text-weight [] = omega arith
text-weight (b ∷ bs) = omega (arith, weight-append (text_of_byte b) (text_of bs), byte-weight b, text-weight bs)

-- its lines, after the part of a line that has been read

abbrev line_weights : List (List ℕ) → ℕ
line_weights lines = weight_of (map plain_line lines)

last-weight : (line : List ℕ) → line_weights (last_line line) ≤ weight line + 1
unfolding weight weight_of
last-weight [] = omega arith
last-weight (b ∷ bs) = omega arith

after-weight : (after_return : Bool) (line text : List ℕ) → line_weights (lines_after after_return line text) ≤ weight line + weight text + 1
unfolding weight weight_of
after-weight after_return line [] = omega (arith, last-weight line)
after-weight after_return line (b ∷ bs) =
    let h : (l : List ℕ) → line_weights (lines_after false l bs) ≤ weight l + weight bs + 1 = λ l. after-weight false l bs in
    let k : line_weights (lines_after true [] bs) ≤ weight [] + weight bs + 1 = after-weight true [] bs in
    let longer : weight (line ++ b ∷ []) ≡ weight line + weight (b ∷ []) = weight-append line (b ∷ []) in
    grind (arith, h, k, longer)

lines-weight : (text : List ℕ) → weight_of (plain_lines_of text) ≤ weight text + 1
unfolding weight
lines-weight text = omega (arith, after-weight false [] text)

pub texts_are_short : TextsAreShort
texts_are_short rules bytes =
    omega (arith, part-sizes rules (plain_lines_of (text_of bytes)), lines-weight (text_of bytes), text-weight bytes)
