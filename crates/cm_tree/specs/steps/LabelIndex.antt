-- How an entry of the table of definitions is found by its label: in one of few slots, or in a tree.
use Rattle.std.specs.Prelude.{◌≡◌, ◌≢◌, ℕ, suc, ◌+◌, ◌-◌, ◌/◌, ◌^◌, ◌<◌, ◌≤◌, List, [], length, get_or, set, bit_and, Option, Some, None, IsSome, cond, ◌⊎◌}
use Rattle.std.specs.BTreeMap.{get_by_text}
use Rattle.std.specs.Str.{bytes_eq}
use Rattle.cm_tree.specs.declared.label_index.LabelIndex.{LabelIndex}
use Rattle.cm_text.specs.LabelNumbers.{number_of}

-- the number of slots in which a label may be
abbrev pub near : ℕ
near = 8

-- the hash of a label: the upper half of its number
abbrev pub hash_of : List ℕ → ℕ
hash_of label = number_of label / 2 ^ 32

-- the first of the slots for labels of a hash
abbrev pub home : List ℕ → ℕ → ℕ
home slots hash = bit_and hash (length slots - near)

-- the entry that the tree has for a label
abbrev pub crowded : LabelIndex → List ℕ → Option ℕ
crowded index label = get_by_text index.crowded label

-- A slot near this home has an entry, counted from 1, and no slot before it is free.
pub record IsReached (slots : List ℕ) (home entry : ℕ) : Type 0 where
  pub slot : ℕ
  pub from : home ≤ slot
  pub to : slot < home + near
  pub is : get_or slots slot 0 ≡ suc entry
  pub passed : (s : ℕ) → home ≤ s → s < slot → get_or slots s 0 ≢ 0

-- An entry is found by its label.
abbrev pub IsFound : LabelIndex → ℕ → List ℕ → Type 0
IsFound index entry label = IsReached index.slots.items (home index.slots.items (hash_of label)) entry ⊎ (crowded index label ≡ Some entry)

-- one of the labels, and which
abbrev pub IsLabel : List (List ℕ) → ℕ → List ℕ → Type 0
IsLabel labels entry label = (entry < length labels) × (get_or labels entry [] ≡ label)

-- No slot near this home is free.
abbrev pub IsFull : List ℕ → ℕ → Type 0
IsFull slots home = (s : ℕ) → home ≤ s → s < home + near → s < length slots → get_or slots s 0 ≢ 0

-- No slot is free for an entry under this label, or no slot can name an entry of this number.
abbrev pub HasNoSlot : List ℕ → List ℕ → ℕ → Type 0
HasNoSlot slots label entry = IsFull slots (home slots (hash_of label)) ⊎ (2 ^ 32 - 1 ≤ entry)

-- All entries are found by these labels, and nothing else is. Those in the tree have no slot.
pub record IsIndex (index : LabelIndex) (labels : List (List ℕ)) : Type 0 where
  pub named : (slot : ℕ) → get_or index.slots.items slot 0 ≤ length labels
  pub apart : (label : List ℕ) (entry : ℕ) → crowded index label ≡ Some entry → IsLabel labels entry label
  pub full : (label : List ℕ) (entry : ℕ) → crowded index label ≡ Some entry → HasNoSlot index.slots.items label entry
  pub found : (entry : ℕ) → entry < length labels → IsFound index entry (get_or labels entry [])

-- No label is there twice.
abbrev pub AreDistinct : List (List ℕ) → Type 0
AreDistinct labels = (i j : ℕ) → i < j → j < length labels → get_or labels i [] ≢ get_or labels j []

-- A label isn't there.
abbrev pub IsNew : List (List ℕ) → List ℕ → Type 0
IsNew labels label = (entry : ℕ) → entry < length labels → get_or labels entry [] ≢ label

-- the first free slot near a home
pub record IsFree (slots : List ℕ) (home slot : ℕ) : Type 0 where
  pub from : home ≤ slot
  pub to : slot < home + near
  pub within : slot < length slots
  pub free : get_or slots slot 0 ≡ 0
  pub passed : (s : ℕ) → home ≤ s → s < slot → get_or slots s 0 ≢ 0

-- one entry more, in a free slot
pub record GoesInSlot (old new : LabelIndex) (label : List ℕ) (entry : ℕ) : Type 0 where
  pub slot : ℕ
  pub free : IsFree old.slots.items (home old.slots.items (hash_of label)) slot
  pub small : entry < 2 ^ 32 - 1
  pub is : new.slots.items ≡ set old.slots.items slot (suc entry)
  pub same : (l : List ℕ) → crowded new l ≡ crowded old l

-- one entry more in the tree, which hasn't had the label
pub record IsPutInTree (old new : LabelIndex) (label : List ℕ) (entry : ℕ) : Type 0 where
  pub absent : crowded old label ≡ None
  pub is : (l : List ℕ) → crowded new l ≡ cond (bytes_eq label l) (Some entry) (crowded old l)

-- the same, where no slot is free for it
pub record GoesInTree (old new : LabelIndex) (label : List ℕ) (entry : ℕ) : Type 0 where
  pub full : HasNoSlot old.slots.items label entry
  pub same : new.slots.items ≡ old.slots.items
  pub put : IsPutInTree old new label entry

abbrev pub GoesIn : LabelIndex → LabelIndex → List ℕ → ℕ → Type 0
GoesIn old new label entry = GoesInSlot old new label entry ⊎ GoesInTree old new label entry

-- nothing changes
pub record IsSame (old new : LabelIndex) : Type 0 where
  pub same : new.slots.items ≡ old.slots.items
  pub is : (l : List ℕ) → crowded new l ≡ crowded old l

-- nothing changes, since the tree has the label
pub record IsThere (old new : LabelIndex) (label : List ℕ) : Type 0 where
  pub there : IsSome (crowded old label)
  pub same : IsSame old new

-- No entry that is reached in the slots from this home on has the label.
abbrev pub IsPassed : List ℕ → ℕ → List (List ℕ) → List ℕ → Type 0
IsPassed slots home labels label = (entry : ℕ) → entry < length labels → IsReached slots home entry → get_or labels entry [] ≢ label
