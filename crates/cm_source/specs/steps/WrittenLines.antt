-- Source that is written line by line: what comes before a line, as markers and indentation, is written with it.
use Rattle.std.specs.Prelude.{◌≡◌, ℕ, ◌==◌, if◌then◌else◌, List, [], ◌∷◌, ◌++◌, length, flat_map, string_bytes, Bool, true, false}
use Rattle.cm_scan.specs.Words.{trim_end_spaces}
use Rattle.cm_source.specs.BetweenLines.{IsBetween, IsEnded}
use Rattle.cm_source.specs.declared.source_lines.SourceLines.{SourceLines}

-- a line after what is before it; before an empty one no spaces are at the end
abbrev pub beyond : (front line : List ℕ) → List ℕ
beyond front [] = trim_end_spaces front
beyond front (b ∷ bs) = front ++ b ∷ bs

-- further lines, each ended by a line feed
abbrev pub further_lines : (front : List ℕ) → List (List ℕ) → List ℕ
further_lines front lines = flat_map (λ line. beyond front line ++ 10 ∷ []) lines

-- lines, the first after something else
abbrev pub all_lines : (first front : List ℕ) → List (List ℕ) → List ℕ
all_lines first front [] = []
all_lines first front (line ∷ lines) = beyond first line ++ 10 ∷ further_lines front lines

-- what is before the line that follows
abbrev pub next_front : (first front : List ℕ) → List (List ℕ) → List ℕ
next_front first front [] = first
next_front first front (line ∷ lines) = front

abbrev pub next_begun : (begun : Bool) → List (List ℕ) → Bool
next_begun begun [] = begun
next_begun begun (line ∷ lines) = false

-- a place in a line: the lines before it, what is before it, and its content so far
pub record Place : Type 0 where
  pub done : List ℕ
  pub first : List ℕ
  pub last : List ℕ

pub record IsInside (source : SourceLines) (place : Place) (front : List ℕ) : Type 0 where
  pub text : string_bytes source.text ≡ place.done ++ place.first ++ place.last
  pub begun : source.begun ≡ true
  pub line : source.line ≡ length (place.done ++ place.first)
  pub front_is : string_bytes source.front ≡ front
  pub ended : IsEnded place.done

-- the lines up to a place, once its line is ended
abbrev pub up_to : Place → List ℕ
up_to place = place.done ++ beyond place.first place.last ++ 10 ∷ []

-- where a content leads that is in lines
unfoldable pub lay : (front : List ℕ) → Place → List ℕ → Place
lay front place [] = place
lay front place (b ∷ bs) =
    lay front (if b == 10 then record { done = up_to place; first = front; last = [] } else record place { last = place.last ++ b ∷ [] }) bs

-- what calls do: write lines, start and end one, and write in one
abbrev pub Writes : SourceLines → SourceLines → List (List ℕ) → Type 0
Writes old new lines = (begun : Bool) (done first front : List ℕ) → IsBetween old begun done first front
    → IsBetween new (next_begun begun lines) (done ++ all_lines first front lines) (next_front first front lines) front

abbrev pub BeginsLine : SourceLines → SourceLines → Type 0
BeginsLine old new = (begun : Bool) (done first front : List ℕ) → IsBetween old begun done first front → IsInside new (record { done = done; first = first; last = [] }) front

abbrev pub Ends : SourceLines → SourceLines → Type 0
Ends old new = (place : Place) (front : List ℕ) → IsInside old place front → IsBetween new false (up_to place) front front

abbrev pub Lays : SourceLines → SourceLines → List ℕ → Type 0
Lays old new content = (place : Place) (front : List ℕ) → IsInside old place front → IsInside new (lay front place content) front

-- a container is entered after a mark, and something is before its further lines
abbrev pub Enters : SourceLines → SourceLines → (mark further : List ℕ) → Type 0
Enters old new mark further = (begun : Bool) (done first front : List ℕ) → IsBetween old begun done first front → IsBetween new true done (first ++ mark) (front ++ further)

-- one empty line, where there is no line
abbrev pub or_empty_line : List (List ℕ) → List (List ℕ)
or_empty_line [] = [] ∷ []
or_empty_line (line ∷ lines) = line ∷ lines

-- A container whose first line had started is left: if no line of it was ended, an empty one is. Further lines are then preceded again
-- by what preceded them before, which was the given number of bytes.
abbrev pub Leaves : SourceLines → SourceLines → (front : ℕ) → Type 0
Leaves old new front = (done first outer further : List ℕ) (lines : List (List ℕ)) → front ≡ length outer → IsBetween old (next_begun true lines) (done ++ all_lines first (outer ++ further) lines) (next_front first (outer ++ further) lines) (outer ++ further)
    → IsBetween new false (done ++ all_lines first (outer ++ further) (or_empty_line lines)) outer outer
