-- How many kinds of closers there are. Closers of one kind match the same openers (CommonMark 0.31.2, 6.2 Emphasis and strong emphasis,
-- rules 9 and 10).
use Rattle.std.specs.Prelude.{ℕ, ◌+◌, ◌*◌, Bool, if◌then◌else◌}
use Rattle.cm_text.specs.Rules.{Rules}

-- the kinds of closers of one character, a star or an underscore: by whether they can also open, and by their length by 3
abbrev pub kinds_of_one : ℕ
kinds_of_one = 2 * 3

abbrev pub kinds_without_tildes : ℕ
kinds_without_tildes = 2 * kinds_of_one

-- all kinds: closers of tildes are of one kind
abbrev pub all_kinds : ℕ
all_kinds = kinds_without_tildes + 1

abbrev pub kinds_with : (strike : Bool) → ℕ
kinds_with strike = if strike then all_kinds else kinds_without_tildes

-- the kinds that the rules know: tildes are delimiters with strikethrough
abbrev pub kinds_by : Rules → ℕ
kinds_by rules = kinds_with rules.strike
