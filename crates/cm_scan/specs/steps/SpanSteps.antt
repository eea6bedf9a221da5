-- The steps that the scanners of code spans, autolinks and raw HTML take.
use Rattle.std.specs.Prelude.{ℕ, Bool, ◌-◌, ◌||◌, ◌==◌, List, length, Option, option_map}
use Rattle.std.specs.Borrow.{Bor}
use Rattle.std.specs.List.{slice_split}
use Rattle.std.specs.Str.{byte}
use Rattle.std.specs.Char.{is_ascii_alphanumeric}
use Rattle.cm_text.specs.Rules.{Rules}
use Rattle.cm_text.specs.Addresses.{is_followed}
use Rattle.cm_scan.specs.Words.{given, ◌and_then◌}
use Rattle.cm_scan.specs.inlines.Links.{Reading}
use Rattle.cm_scan.specs.spans.Tags.{Named}
use Rattle.cm_scan.specs.spans.CodeSpans.{as_written, span_content}
use Rattle.cm_scan.specs.spans.Autolinks.{Autolink}
use Rattle.cm_scan.specs.spans.Angles.{Angled, Tagged, before}
use Rattle.cm_scan.specs.spans.Tags.{after_gap}

-- what is left of a text, which a step returns as a slice
abbrev pub left_of : Option (Bor (List ℕ)) → Option (List ℕ)
left_of rest = option_map (λ r. r.now) rest

-- a letter, a digit or a hyphen, which a label of a host is made of
abbrev pub is_host_byte : ℕ → Bool
is_host_byte b = is_ascii_alphanumeric b || b == 45

-- the labels of a host, between its dots
abbrev pub labels : List ℕ → List (List ℕ)
labels host = slice_split (λ b. b == byte ".") host

-- what is between angle brackets, if a `>` follows it
abbrev pub ended : List ℕ → Option (List ℕ) → Option Reading
ended inside rest = option_map (λ r. record { text = inside; rest = r }) rest

-- an autolink whose address the rules follow
abbrev pub link_if_followed : Rules → Option Autolink → Option Autolink
link_if_followed rules found = found and_then λ link. given (is_followed rules link.destination) link

-- raw HTML as it is written
abbrev pub tagged : List ℕ → Option (List ℕ) → Option Angled
tagged text rest = option_map (λ r. Tagged (record { text = before r text; rest = r })) rest

-- the code span after the given number of backticks
abbrev pub spanned : ℕ → List ℕ → Option Reading
spanned n text = span_content (as_written n text)

-- what is left after a tag
abbrev pub after_tag : Option Named → Option (List ℕ)
after_tag tag = option_map (λ t. t.rest) tag

-- how many bytes a gap at the start has
abbrev pub gap_length : List ℕ → ℕ
gap_length text = length text - length (after_gap text)
