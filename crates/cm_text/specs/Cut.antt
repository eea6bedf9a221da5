-- A text that comes in pieces, cut into lines as far as it has come.
use Rattle.std.specs.Prelude.{◌≡◌, ℕ, Bool, true, false, ◌==◌, if◌then◌else◌, List, [], ◌∷◌, ◌++◌, map, drop}
use Rattle.std.specs.List.{fold}
use Rattle.std.specs.String.{string_bytes}
use Rattle.std.specs.Str.{byte}
use Rattle.cm_text.specs.declared.unread.Unread.{Unread}
use Rattle.cm_text.specs.Lines.{LineView, plain_line, last_line, plain_lines_of, ended_lines_of}

-- the lines that have ended, the text of the line after them, and whether the last byte was a carriage return
pub record Cut : Type 0 where
  pub ended : List LineView
  pub partial : List ℕ
  pub after_return : Bool

-- an empty cut; the mark says whether a carriage return came last
abbrev pub begun : (after_return : Bool) → Cut
begun after_return = record { ended = []; partial = []; after_return = after_return }

-- the cut of no text
abbrev pub nothing_cut : Cut
nothing_cut = begun false

-- the line after those that have ended ends too
abbrev pub end_line : Cut → Bool → Cut
end_line cut after_return =
    record { ended = cut.ended ++ plain_line cut.partial ∷ []; partial = []; after_return = after_return }

-- a cut after one more byte
abbrev pub cut_byte : Cut → ℕ → Cut
cut_byte cut b =
    if b == byte "\n" then (if cut.after_return then record cut { after_return = false } else end_line cut false)
    else (if b == byte "\r" then end_line cut true else record cut { partial = cut.partial ++ b ∷ []; after_return = false })

-- a cut after more text
abbrev pub cut_more : Cut → List ℕ → Cut
cut_more cut text = fold cut_byte cut text

-- a cut without the given number of its first lines
abbrev pub without : ℕ → Cut → Cut
without taken cut = record cut { ended = drop taken cut.ended }

-- the cut of the unread text that a line buffer holds
abbrev pub cut_of : Unread → Cut
cut_of unread = cut_more (begun unread.after_return) (drop unread.passed (string_bytes unread.text))

-- the first list is a prefix of the second
abbrev pub IsFront : List LineView → List LineView → Type 0
IsFront front all = (rest : List LineView) × (all ≡ front ++ rest)

-- the lines of a text are the lines that its cut has ended, and the last one
abbrev pub LinesAreCut : Type 0
LinesAreCut = (text : List ℕ)
    → plain_lines_of text ≡ (cut_more nothing_cut text).ended ++ map plain_line (last_line (cut_more nothing_cut text).partial)

-- the lines that the cut of a text has ended are those of the text that have ended
abbrev pub EndedLinesAreCut : Type 0
EndedLinesAreCut = (text : List ℕ) → (cut_more nothing_cut text).ended ≡ ended_lines_of text
