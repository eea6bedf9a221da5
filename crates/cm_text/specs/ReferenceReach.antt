-- How many bytes a character reference may look at, by cases on the bytes.
use Rattle.std.specs.Prelude.{◌≡◌, ◌≤◌, ℕ, suc, ◌+◌, ◌==◌, ◌||◌, List, [], ◌∷◌, length, codes, if◌then◌else◌}
use Rattle.std.specs.Str.{byte}
use Rattle.std.specs.Char.{is_ascii_alphanumeric}

-- After its ampersand, a reference looks up to the first byte that is no letter, digit or `#`.
unfoldable pub reference_reach : List ℕ → ℕ
reference_reach [] = 1
reference_reach (b ∷ bs) = if is_ascii_alphanumeric b || b == byte "#" then suc (reference_reach bs) else 1

-- how far the references reach together that start at each `&`
unfoldable pub reference_reaches : List ℕ → ℕ
reference_reaches [] = 0
reference_reaches (b ∷ bs) = (if b == byte "&" then reference_reach bs else 0) + reference_reaches bs

-- References reach over each byte at most once, wherever they start: a reference ends where the next one starts.
abbrev pub ReferencesReachOnce : Type 0
ReferencesReachOnce = (text : List ℕ) → reference_reaches text ≤ length text

pub record ReachExamples : Type 0 where
  pub semicolon : reference_reach (codes "amp; b") ≡ 4
  pub number : reference_reach (codes "#x1F; b") ≡ 5
  pub next_reference : reference_reach (codes "am&amp;") ≡ 3
  pub end : reference_reach (codes "amp") ≡ 4
  pub together : reference_reaches (codes "a & b &am&amp; c") ≡ 1 + 3 + 4
