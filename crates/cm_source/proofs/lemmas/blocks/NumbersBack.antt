-- The numbers of ordered lists, as they are written.
use Rattle.std.proofs.Common.{◌≡◌, ℕ, ◌+◌, ◌-◌, ◌*◌, ◌^◌, ◌<◌, true, List, length, refl, ◌∙◌, ap, arith}
use Rattle.std.proofs.lemmas.Bool.{le-leb, and_parts}
use Rattle.std.proofs.lemmas.Bool.Decides.{nat_tests}
use Rattle.std.proofs.lemmas.Fmt.{digits_decimal, digits_value-decimal, decimal_nonempty, length-decimal-le}
use Rattle.std.proofs.lemmas.Str.Parse.{IsDigitsTest, IsNumeralModel, FoldsDigits, numerals_by_fold}
use Rattle.std.specs.Prelude.{nat_le, ◌&&◌}
use Rattle.std.specs.List.{list_all, fold}
use Rattle.std.specs.Fmt.{decimal}
use Rattle.std.specs.Char.{is_ascii_digit}
use Rattle.cm_scan.specs.blocks.LineForms.{most_digits, is_number, decimal_value}

AreDigits : List ℕ → Type 0
AreDigits ds = list_all is_ascii_digit ds ≡ true

value_after : ℕ → List ℕ → ℕ
value_after n ds = fold (λ n b. n * 10 + (b - 48)) n ds

tells : IsDigitsTest AreDigits
unfolding AreDigits
tells = record {
  empty = refl;
  parts = λ c cs h. (let d = (and_parts (is_ascii_digit c) (list_all is_ascii_digit cs) h).0 in grind (arith, nat_tests, d), (and_parts (is_ascii_digit c) (list_all is_ascii_digit cs) h).1);
  more = λ c cs r h. let d : is_ascii_digit c ≡ true = grind (arith, nat_tests, r) in ap (λ v. v && list_all is_ascii_digit cs) d ∙ h;
}

folds : FoldsDigits value_after
unfolding value_after
folds = record { empty = λ n. refl; more = λ n c cs r. refl }

model : IsNumeralModel AreDigits (value_after 0)
model = numerals_by_fold AreDigits tells value_after folds

module _ (n : ℕ) (small : n < 10 ^ most_digits) where
  small_enough : n < 2 ^ 64
  small_enough = omega (arith, small)

  pub digits-are : list_all is_ascii_digit (decimal n) ≡ true
  unfolding AreDigits
  digits-are = digits_decimal model n small_enough

  pub value-is : decimal_value (decimal n) ≡ n
  unfolding value_after
  value-is = digits_value-decimal model n small_enough

  pub short-is : is_number (decimal n) ≡ true
  short-is =
      ap (λ v. v && nat_le (length (decimal n)) most_digits) (le-leb 1 (length (decimal n)) (decimal_nonempty n small_enough))
      ∙ le-leb (length (decimal n)) most_digits (length-decimal-le most_digits n (omega arith) small small_enough)
