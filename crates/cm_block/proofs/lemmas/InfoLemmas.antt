-- Infos of code blocks, by bytes.
use Rattle.std.proofs.Common.{◌≡◌, ℕ, ◌<◌, true, false, List, [], ◌∷◌, map, refl, sym, ap, arith}
use Rattle.std.specs.Prelude.{flat_map, if◌then◌else◌}
use Rattle.cm_text.specs.Rules.{Rules}
use Rattle.cm_text.specs.Unescaping.{unescape}
use Rattle.cm_tree.specs.Followed.{is_line_space}
use Rattle.cm_scan.specs.blocks.Parts.{as_space, info_of}

pub line_space_ascii : (b : ℕ) → is_line_space b ≡ true → b < 128
line_space_ascii b h = grind (arith, h)

pub others_stay : (b : ℕ) → is_line_space b ≡ false → as_space b ∷ [] ≡ b ∷ []
others_stay b h = ap (λ t. (if t then 32 else b) ∷ []) h

pub one_by_one : (bs : List ℕ) → flat_map (λ b. as_space b ∷ []) bs ≡ map as_space bs
one_by_one [] = refl
one_by_one (b ∷ bs) = ap (λ t. as_space b ∷ t) (one_by_one bs)

module _ (rules : Rules) (source : List ℕ) where
  pub info_as_read : rules.raw_html ≡ true → unescape source ≡ info_of rules source
  unfolding info_of
  info_as_read on = sym (ap (λ t. if t then unescape source else map as_space (unescape source)) on)

  pub info_on_one_line : rules.raw_html ≡ false → map as_space (unescape source) ≡ info_of rules source
  unfolding info_of
  info_on_one_line off = sym (ap (λ t. if t then unescape source else map as_space (unescape source)) off)
