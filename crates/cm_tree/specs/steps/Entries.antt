-- The entries of the table of definitions, whose labels, destinations and titles lie in one text or are shared.
use Rattle.std.specs.Prelude.{◌≡◌, ℕ, List, [], ◌∷◌, map, ⊤}
use Rattle.cm_text.specs.Addresses.{is_web_address}
use Rattle.cm_tree.specs.declared.entries.Entry.{Entry}
use Rattle.cm_tree.specs.declared.label_index.LabelIndex.{LabelIndex}
use Rattle.cm_tree.specs.Definitions.{Target}
use Rattle.cm_tree.specs.steps.KeptTexts.{kept_label, kept_target, IsKept}
use Rattle.cm_tree.specs.steps.LabelIndex.{hash_of, IsIndex, AreDistinct}

-- the label of an entry, where this is the text
abbrev pub label_in : List ℕ → Entry → List ℕ
label_in text e = kept_label text e.texts

abbrev pub labels_in : List ℕ → List Entry → List (List ℕ)
labels_in text entries = map (label_in text) entries

-- the entries, each as its label and where that leads
abbrev pub entries_in : List ℕ → List Entry → List (List ℕ × Target)
entries_in text entries = map (λ e. (label_in text e, kept_target text e.texts)) entries

-- the places of an entry are places of the text, and it has its label's hash, and whether its address is the web's
pub record IsEntry (text : List ℕ) (e : Entry) : Type 0 where
  pub kept : IsKept text e.texts
  pub hash : e.hash ≡ hash_of (label_in text e)
  pub web : e.is_web ≡ is_web_address (kept_target text e.texts).0

abbrev pub AreEntries : List ℕ → List Entry → Type 0
AreEntries text [] = ⊤
AreEntries text (e ∷ es) = IsEntry text e × AreEntries text es

-- so are those of all entries, no label is there twice, and each entry is found by its label
pub record AreKept (text : List ℕ) (entries : List Entry) (index : LabelIndex) : Type 0 where
  pub there : AreEntries text entries
  pub distinct : AreDistinct (labels_in text entries)
  pub found : IsIndex index (labels_in text entries)

-- an entry for a label that keeps a target
pub record IsMade (text : List ℕ) (e : Entry) (label : List ℕ) (target : Target) : Type 0 where
  pub there : IsEntry text e
  pub is_label : label_in text e ≡ label
  pub is_target : kept_target text e.texts ≡ target
