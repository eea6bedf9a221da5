-- The texts of a definition: places in a text that holds many, or texts on the heap.
use Rattle.std.specs.Prelude.{◌≡◌, ℕ, ◌+◌, List, ◌++◌, ⊤}
use Rattle.std.specs.List.{slice_range}
use Rattle.std.specs.Str.{IsUtf8}
use Rattle.cm_tree.specs.declared.kept_texts.KeptTexts.{KeptTexts}
use Rattle.cm_tree.specs.declared.kept_texts.KeptTexts.TheVariants as kept
use Rattle.cm_tree.specs.Definitions.{Target}
use Rattle.cm_tree.specs.RawBlocks.{IsBetween}

-- a text, and the same text with more after it
pub record GoesOn (old new : List ℕ) : Type 0 where
  pub more : List ℕ
  pub utf8 : IsUtf8 more
  pub is : new ≡ old ++ more

-- the label, given the text that holds many
abbrev pub kept_label : List ℕ → KeptTexts → List ℕ
kept_label text (kept.Placed from label dest title) = slice_range text from (from + label)
kept_label text (kept.Shared shared) = shared.value.label

-- the destination and the title
abbrev pub kept_target : List ℕ → KeptTexts → Target
kept_target text (kept.Placed from label dest title) = (slice_range text (from + label) (from + label + dest), slice_range text (from + label + dest) (from + label + dest + title))
kept_target text (kept.Shared shared) = (shared.value.dest, shared.value.title)

-- the places are places of the text, and boundaries of characters
abbrev pub IsKept : List ℕ → KeptTexts → Type 0
IsKept text (kept.Placed from label dest title) =
    IsBetween text from (from + label) × IsBetween text (from + label) (from + label + dest) × IsBetween text (from + label + dest) (from + label + dest + title)
IsKept text (kept.Shared shared) = ⊤

-- what is kept are this label and this target
pub record Keeps (text : List ℕ) (keeper : KeptTexts) (label : List ℕ) (target : Target) : Type 0 where
  pub there : IsKept text keeper
  pub is_label : kept_label text keeper ≡ label
  pub is_target : kept_target text keeper ≡ target
