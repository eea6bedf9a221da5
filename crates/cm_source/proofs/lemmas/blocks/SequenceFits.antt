-- What the leaves and lists of a sequence need, so that its lines read back.
use Rattle.std.proofs.Common.{◌≡◌, ℕ, suc, ◌+◌, Bool, true, false, List, ◌∷◌, ◌++◌, length, None}
use Rattle.std.specs.Prelude.{⊤, not, ◌||◌}
use Rattle.std.specs.List.{list_all}
use Rattle.cm_text.specs.Rules.{Rules}
use Rattle.cm_text.specs.Lines.{LineView}
use Rattle.cm_tree.specs.declared.tree.ListKind.{ListKind}
use Rattle.cm_scan.specs.blocks.LineForms.{ItemMarker, underline}
use Rattle.cm_scan.specs.blocks.Starts.{ItemStart, start_of_content, interrupts_paragraph}
use Rattle.cm_scan.specs.blocks.Parts.{LeafPart, paragraph, code, html, leaf}
use Rattle.cm_scan.specs.blocks.Blocks.{line_count, parts_of}
use Rattle.cm_scan.specs.laws.BlockLaws.{is_unindented}
use Rattle.cm_source.specs.Spelling.{ended_lines, marker}
use Rattle.cm_source.specs.steps.Sources.{is_only, is_one_line}
use Rattle.cm_source.specs.steps.Sequences.{SpelledLeaf, Sequence, no_blocks, leaf_then, quote_then, list_then, SequenceItems, last_one, one_and, is_code, fits_tight, can_be_loose, begins_with_list, begins_with_kind}
use Rattle.cm_source.proofs.lemmas.blocks.SequenceLines.{at, Have}
use Rattle.cm_source.proofs.lemmas.blocks.ContinuationsBack.{Apart, MarkerReads}

-- the first of a block's lines
pub record First (ts : List (List ℕ)) : Type 0 where
  pub line : List ℕ
  pub further : List (List ℕ)
  pub lines : ts ≡ line ∷ further
  pub bare : is_unindented line ≡ true

-- one that can be after a bullet
pub record Inner (ts : List (List ℕ)) : Type 0 where
  pub first : First ts
  pub no_dashes : is_only 45 first.line ≡ false
  pub no_stars : is_only 42 first.line ≡ false

-- one that starts an item
pub record Marked (rules : Rules) (ts : List (List ℕ)) : Type 0 where
  pub first : First ts
  pub read : ItemMarker
  pub starts : start_of_content rules first.line ≡ ItemStart read

-- one that interrupts a paragraph
pub record Interrupts (rules : Rules) (ts : List (List ℕ)) : Type 0 where
  pub first : First ts
  pub interrupts : (c : ℕ) → interrupts_paragraph rules (at c first.line) ≡ true
  pub no_underline : underline first.line ≡ None

-- what follows a leaf: nothing, an empty line, or, where it is a paragraph, a line that interrupts it
pub data Follows (rules : Rules) : LeafPart → List LineView → Type 0 where
  apart_from : {x : LeafPart} {rest : List LineView} → Apart rest → Follows rules x rest
  interrupted : {source line : List ℕ} {c : ℕ} {rest : List LineView} → is_unindented line ≡ true → interrupts_paragraph rules (at c line) ≡ true → underline line ≡ None
      → Follows rules (paragraph source) (at c line ∷ rest)

-- how many lines a leaf has
abbrev pub leaf_size : LeafPart → ℕ
leaf_size (paragraph source) = line_count source
leaf_size (code info text) = suc (1 + length (ended_lines text))
leaf_size (html text) = length (ended_lines text)
leaf_size _ = 1

-- its lines are read as the leaf, and they have no byte that can't be in a line
pub record LeafFits (rules : Rules) (x : SpelledLeaf) : Type 0 where
  pub inner : Inner x.lines
  pub back : (ls rest : List LineView) → Have ls x.lines → Follows rules x.part rest → parts_of rules (ls ++ rest) ≡ leaf x.part (leaf_size x.part) (parts_of rules rest)
  pub interrupts : is_code x.part ≡ true → Interrupts rules x.lines
  pub clean : list_all is_one_line x.lines ≡ true

pub record KindFits (rules : Rules) (kind : ListKind) : Type 0 where
  pub reads : MarkerReads rules kind
  pub clean : is_one_line (marker kind) ≡ true

-- the blocks read back
module _ (rules : Rules) where
  unfoldable mutual
    pub FitAll : Sequence → Type 0
    FitAll no_blocks = ⊤
    FitAll (leaf_then x rest) = LeafFits rules x × FitAll rest
    FitAll (quote_then inside rest) = FitAll inside × FitAll rest
    FitAll (list_then kind tight items rest) =
        KindFits rules kind × ItemsFit tight items × ((tight || can_be_loose items) ≡ true) × (begins_with_kind kind rest ≡ false) × FitAll rest

    pub ItemsFit : (tight : Bool) → SequenceItems → Type 0
    ItemsFit tight (last_one inside) = (begins_with_list inside ≡ false) × ((not tight || fits_tight inside) ≡ true) × FitAll inside
    ItemsFit tight (one_and inside items) = (begins_with_list inside ≡ false) × ((not tight || fits_tight inside) ≡ true) × FitAll inside × ItemsFit tight items
