-- The slots of the delimiter list, and the entries that their links make.
use Rattle.std.specs.Prelude.{◌≡◌, ℕ, zero, suc, ◌≤◌, ◌<◌, ◌^◌, nat_lt, ◌==◌, cond, List, [], ◌∷◌, length, get_or, set, map}
use Rattle.cm_inline.specs.declared.runs.Slot.{Slot}
use Rattle.cm_inline.specs.declared.runs.Run.{Run as HeldRun}
use Rattle.cm_inline.specs.steps.Entries.{Entry}
use Rattle.cm_inline.specs.steps.Runs.{entry_of}
use Rattle.cm_inline.specs.steps.pairing.States.{no_run}

abbrev pub no_slot : Slot
no_slot = record { run = no_run; before = 0; after = 0 }

abbrev pub slot_at : List Slot → ℕ → Slot
slot_at slots n = get_or slots n no_slot

abbrev pub held_in : List Slot → List HeldRun
held_in slots = map (λ s. s.run) slots

abbrev pub entry_at : List Slot → ℕ → Entry
entry_at slots n = entry_of n (slot_at slots n).run

-- the entries of the slots below a number, from the one of a link on, which is counted from 1
unfoldable pub chain : ℕ → List Slot → ℕ → List Entry
chain zero slots up = []
chain (suc n) slots up = cond (up == suc n) (entry_at slots n ∷ chain n slots (slot_at slots n).before) (chain n slots up)

-- The entries from the one of a link on, linked both ways: the one of the next link follows the first of them, and each is followed by the one before it here.
abbrev pub Linked : List Slot → (next up : ℕ) → List Entry → Type 0
Linked slots next up [] = up ≡ 0
Linked slots next up (e ∷ es) = (up ≡ suc e.place) × (e ≡ entry_at slots e.place) × ((slot_at slots e.place).after ≡ next) × ((slot_at slots e.place).before ≤ e.place)
    × Linked slots (suc e.place) (slot_at slots e.place).before es

-- the entries of the list, from its last on, are linked both ways
pub record AreLinked (slots : List Slot) (last : ℕ) : Type 0 where
  pub linked : Linked slots 0 last (chain (length slots) slots last)
  pub within : last ≤ length slots
  pub few : length slots < 2 ^ 32

-- the entries below a number
unfoldable pub upto : ℕ → List Entry → List Entry
upto up [] = []
upto up (e ∷ es) = cond (nat_lt e.place up) (e ∷ es) (upto up es)

-- the link to the last entry, which is the first here
abbrev pub first_up : List Entry → ℕ
first_up [] = 0
first_up (e ∷ es) = suc e.place

-- a link is to one of the entries, or to none
abbrev pub IsAt : ℕ → List Entry → Type 0
IsAt up es = up ≡ first_up (upto up es)

-- the entries without the one of a number
unfoldable pub removed : ℕ → List Entry → List Entry
removed number [] = []
removed number (e ∷ es) = cond (e.place == number) es (e ∷ removed number es)

-- the entries with another run of a number, if that is one of them
unfoldable pub rewritten : ℕ → HeldRun → List Entry → List Entry
rewritten number run [] = []
rewritten number run (e ∷ es) = cond (e.place == number) (entry_of number run) e ∷ rewritten number run es

-- the slots with another neighbour after the one of a link, if there is one, and before it
abbrev pub with_after : (link after : ℕ) → List Slot → List Slot
with_after zero after slots = slots
with_after (suc n) after slots = set slots n (record { run = (slot_at slots n).run; before = (slot_at slots n).before; after = after })

abbrev pub with_before : (link before : ℕ) → List Slot → List Slot
with_before zero before slots = slots
with_before (suc n) before slots = set slots n (record { run = (slot_at slots n).run; before = before; after = (slot_at slots n).after })
