-- A page: a text with insertions, which are other texts at places of it.
use Rattle.std.specs.Prelude.{◌≡◌, ℕ, ◌+◌, ◌≤◌, List, [], ◌∷◌, ◌++◌, length, drop, Result, Ok, Err}
use Rattle.std.specs.List.{slice_range}
use Rattle.std.specs.Str.{IsCharBoundary}
use Rattle.cm_text.specs.DeviceViews.{SinkView}
use Rattle.cm_text.specs.Writing.{Wrote, WroteFront}
use Rattle.cm_text.specs.declared.writing.WriteFailed.{WriteFailed}
use Rattle.cm_html.specs.declared.page.Insertion.{Insertion}
use Rattle.cm_html.specs.declared.outgoing.Outgoing.{Outgoing}

-- what is in the text from a place on
abbrev pub with_insertions : (from : ℕ) → List ℕ → List Insertion → List ℕ
with_insertions from text [] = drop from text
with_insertions from text (i ∷ is) = (slice_range text from i.place ++ i.text) ++ with_insertions i.place text is

-- from a place of the text on their places follow one another, and at each of them a character starts, or the text ends
abbrev pub AreInOrder : (from : ℕ) → List ℕ → List Insertion → Type 0
AreInOrder from text [] = IsCharBoundary text from
AreInOrder from text (i ∷ is) = IsCharBoundary text from × (from ≤ i.place) × AreInOrder i.place text is

-- A piece was written after the given number of bytes, and the result is how many were written then; or a write failed after a prefix of it.
abbrev pub WritesMore : Result ℕ WriteFailed → (written : ℕ) → (piece : List ℕ) → SinkView → SinkView → Type 0
WritesMore (Ok n) written piece old new = Wrote old new piece 0 × (n ≡ written + length piece)
WritesMore (Err failed) written piece old new = (front : ℕ) × WroteFront old new piece front × (failed.written ≡ written + front)

-- what waited and this piece are written or wait now, and no write failed
pub record Added (old new : Outgoing) (piece : List ℕ) (from to : SinkView) : Type 0 where
  pub gone : List ℕ
  pub parts : gone ++ new.waiting.items ≡ old.waiting.items ++ piece
  pub counted : new.written ≡ old.written + length gone
  pub wrote : Wrote from to gone 0

-- that, or a write failed after a prefix of what waited and the piece
abbrev pub Adds : {T : Type 0} → Result T WriteFailed → Outgoing → Outgoing → (piece : List ℕ) → SinkView → SinkView → Type 0
Adds (Ok x) old new piece from to = Added old new piece from to
Adds (Err failed) old new piece from to = WritesMore (Err failed) old.written (old.waiting.items ++ piece) from to
