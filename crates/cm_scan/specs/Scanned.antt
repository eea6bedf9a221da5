-- How the result of a scanner is compared with the definitions: what it read, and what is left after that.
use Rattle.std.specs.Prelude.{◌≡◌, ◌+◌, List, drop, length, option_map, ℕ, Option, Some, None, Bool, if◌then◌else◌, ◌++◌, codes}
use Rattle.std.specs.Borrow.{Bor}
use Rattle.std.specs.List.{slice_range}
use Rattle.std.specs.Str.{IsCharBoundary}
use Rattle.cm_scan.specs.inlines.Links.{Reading, LinkDefinition}
use Rattle.cm_scan.specs.spans.Autolinks.{Autolink}
use Rattle.cm_scan.specs.spans.Angles.{before}

-- what was read, if anything was, with the place where it ends
abbrev pub ending : {A : Type 0} → Option A → ℕ → Option (A × ℕ)
ending None end = None
ending (Some x) end = Some (x, end)

-- the result of a scanner: the part that it read, and what is left after the place where it ended
abbrev pub reading_of : List ℕ → Option (Bor (List ℕ) × ℕ) → Option Reading
reading_of text read = option_map (λ r. record { text = r.0.now; rest = drop r.1 text }) read

-- the part up to a run, and what is left after it, by the places where the run starts and ends
abbrev pub run_at : List ℕ → ℕ → Option (ℕ × ℕ) → Option Reading
run_at text from run = option_map (λ r. record { text = slice_range text from r.0; rest = drop r.1 text }) run

-- a part is at a place of a text, and its ends part characters
pub record IsAt (text : List ℕ) (place : ℕ) (part : List ℕ) : Type 0 where
  pub start : IsCharBoundary text place
  pub end : IsCharBoundary text (place + length part)
  pub is : slice_range text place (place + length part) ≡ part

-- a definition with these parts
abbrev pub definition_with : List ℕ → List ℕ → List ℕ → List ℕ → LinkDefinition
definition_with label dest title rest = record { label = label; dest = dest; title = title; rest = rest }

-- An autolink with this text: the destination of an email address is `mailto:` and the text, and of any other
-- the text.
abbrev pub autolink_with : (address : Bool) → List ℕ → List ℕ → Autolink
autolink_with address text rest = record { destination = if address then codes "mailto:" ++ text else text; text = text; rest = rest }

-- all that was read of a text, as it is written, given what is left after it
abbrev pub whole_of : List ℕ → Option (List ℕ) → Option Reading
whole_of text rest = option_map (λ r. record { text = before r text; rest = r }) rest
