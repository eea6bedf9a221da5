-- What is before the first element that a search finds.
use Rattle.std.proofs.Common.{◌≡◌, ℕ, ◌<◌, ◌≤◌, Bool, true, Some, None, List, length, take, sym, arith, take_all}
use Rattle.std.specs.List.{position, position_or_len}
use Rattle.cm_html.specs.Escape.{is_space_or_tab, class_word}

found_at : (p : ℕ → Bool) (bs : List ℕ) (i : ℕ) → position p bs ≡ Some i → position_or_len p bs ≡ i
found_at p bs i found = grind arith

-- a search that finds nothing has skipped the whole text
pub none_left : (p : ℕ → Bool) (bs : List ℕ) → position p bs ≡ None → length bs ≤ position_or_len p bs
none_left p bs none = grind arith

pub word-found : (bs : List ℕ) (i : ℕ) → position is_space_or_tab bs ≡ Some i → take i bs ≡ class_word bs
unfolding class_word
word-found bs i found = let e = found_at is_space_or_tab bs i found in cc

pub word-none : (bs : List ℕ) → position is_space_or_tab bs ≡ None → bs ≡ class_word bs
unfolding class_word
word-none bs none = sym (take_all (position_or_len is_space_or_tab bs) bs (none_left is_space_or_tab bs none))

pub gap_ascii : (b : ℕ) → is_space_or_tab b ≡ true → b < 128
gap_ascii b gap = grind arith
