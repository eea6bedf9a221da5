-- The line feeds of texts.
use Rattle.std.proofs.Common.{◌≡◌, ℕ, zero, suc, ◌+◌, ◌≤◌, Bool, true, false, List, [], ◌∷◌, ◌++◌, length, replicate, refl, ap, ◌∙◌, arith}
use Rattle.std.specs.Prelude.{if◌then◌else◌}
use Rattle.cm_text.specs.LineText.{is_line}
use Rattle.cm_scan.specs.blocks.Blocks.{line_feeds}

-- no text has more of them than bytes
pub feeds_within : (text : List ℕ) → line_feeds text ≤ length text
unfolding line_feeds
feeds_within [] = omega arith
feeds_within (b ∷ bs) = let h : line_feeds bs ≤ length bs = feeds_within bs in grind (arith, h)

pub feeds_append : (bs cs : List ℕ) → line_feeds (bs ++ cs) ≡ line_feeds bs + line_feeds cs
unfolding line_feeds
feeds_append [] cs = omega arith
feeds_append (b ∷ bs) cs = let h : line_feeds (bs ++ cs) ≡ line_feeds bs + line_feeds cs = feeds_append bs cs in grind (arith, h)

pub no_feeds : line_feeds [] ≡ 0
unfolding line_feeds
no_feeds = refl

-- a line has none, and no spaces do

feeds-spaces : (n : ℕ) → line_feeds (replicate n 32) ≡ 0
unfolding line_feeds
feeds-spaces zero = refl
feeds-spaces (suc n) = feeds-spaces n

pub feeds_of_line : (text : List ℕ) → is_line text ≡ true → line_feeds text ≡ 0
unfolding line_feeds
feeds_of_line [] e = refl
feeds_of_line (b ∷ bs) e = let h : is_line bs ≡ true → line_feeds bs ≡ 0 = feeds_of_line bs in grind (arith, e, h)

pub feeds_of_view : (n : ℕ) (rest : List ℕ) → is_line rest ≡ true → line_feeds (replicate n 32 ++ rest) ≡ 0
feeds_of_view n rest e = omega (arith, feeds_append (replicate n 32) rest, feeds-spaces n, feeds_of_line rest e)

-- a line feed is one more
pub feeds_ended : (text : List ℕ) → line_feeds (text ++ 10 ∷ []) ≡ suc (line_feeds text)
unfolding line_feeds
feeds_ended text = let h : line_feeds (text ++ 10 ∷ []) ≡ line_feeds text + line_feeds (10 ∷ []) = feeds_append text (10 ∷ []) in grind (arith, h)

-- with a part of a line after it, or without it, a text has as many
pub feeds_with_part : (ok : Bool) (old part new : List ℕ) → is_line part ≡ true → new ≡ (if ok then old ++ part else old) → line_feeds new ≡ line_feeds old
feeds_with_part true old part new line e = ap line_feeds e ∙ feeds_append old part ∙ omega (arith, feeds_of_line part line)
feeds_with_part false old part new line e = ap line_feeds e

-- nor does a line after a text bring more
pub feeds_after : (text : List ℕ) (n : ℕ) (rest : List ℕ) → is_line rest ≡ true → line_feeds (text ++ (replicate n 32 ++ rest)) ≡ line_feeds text
feeds_after text n rest e = omega (arith, feeds_append text (replicate n 32 ++ rest), feeds_of_view n rest e)

pub feeds_of_first : (text before : List ℕ) (n : ℕ) (rest : List ℕ) → before ≡ [] → text ≡ before ++ (replicate n 32 ++ rest) → is_line rest ≡ true → line_feeds text ≡ 0
feeds_of_first text before n rest none e line = ap line_feeds (e ∙ ap (λ xs. xs ++ (replicate n 32 ++ rest)) none) ∙ feeds_of_view n rest line
