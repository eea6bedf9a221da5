-- The order in which a parser meets faults gives the fault of the input.
use Rattle.std.proofs.Common.{◌≡◌, ℕ, List, ◌++◌, map, refl, sym, ap, subst, ◌∙◌, Option, Some, None}
use Rattle.std.specs.Option.{option_map, option_or}
use Rattle.cm_text.specs.declared.fault.TextFault.{TextFault}
use Rattle.cm_text.specs.Limits.{LimitsView}
use Rattle.cm_text.specs.Lines.{text_of, plain_line, last_line, plain_lines_of}
use Rattle.cm_text.specs.Faults.{settled_fault, text_fault}
use Rattle.cm_text.specs.Feed.{cut_bytes}
use Rattle.cm_text.proofs.lemmas.FeedLemmas.{whole_lines}
use Rattle.cm_text.proofs.lemmas.EndedLines.{ended_lines_are_cut}
use Rattle.cm_scan.specs.blocks.Blocks.{first_too_deep}
use Rattle.cm_scan.specs.laws.PartLaws.{AreLines}
use Rattle.cm_block.proofs.lemmas.Depths.{too_deep_stays}
use Rattle.cm_tool.specs.declared.fault.Fault.TheVariants.{BlocksTooDeep}
use Rattle.cm_tool.specs.ToldFaults.{told}
use Rattle.cm_tool.specs.Faults.{too_deep, sound_front, ended_too_deep, fault_by}
use Rattle.cm_tool.specs.FaultOrder.{ended_deep, all_deep, leaf_deep, of_two, of_four, fault_met, FaultsInOrder}
use Rattle.cm_tool.proofs.lemmas.EndedLemmas.{all_are_lines}

module _ (limits : LimitsView) (bytes : List ℕ) where
  ended_are : ended_too_deep limits bytes ≡ option_map BlocksTooDeep (ended_deep limits bytes)
  ended_are = ap (too_deep limits) (sym (ended_lines_are_cut (text_of (sound_front limits.bytes bytes))))

  -- without a fault of the text, the lines that have ended are the first of all
  all_after_ended : (ended leaf : Option ℕ) → ended_deep limits bytes ≡ ended → text_fault limits.bytes bytes ≡ None
      → option_or (option_map BlocksTooDeep ended) (of_two (all_deep limits bytes) leaf) ≡ of_two (all_deep limits bytes) leaf
  all_after_ended None leaf deep sound = refl
  all_after_ended (Some n) leaf deep sound =
      let lines = (cut_bytes limits.bytes bytes).ended in
      let rest = map plain_line (last_line (cut_bytes limits.bytes bytes).partial) in
      let whole : plain_lines_of (text_of bytes) ≡ lines ++ rest = whole_lines limits.bytes bytes sound in
      let first = too_deep_stays limits.rules limits.blocks n lines rest (subst AreLines whole (all_are_lines (text_of bytes))) deep in
      sym (ap (λ all. of_two (first_too_deep limits.rules limits.blocks all) leaf) whole ∙ ap (λ all. of_two all leaf) first)

  by_text : (wrong : Option TextFault) → text_fault limits.bytes bytes ≡ wrong
      → fault_by wrong limits bytes ≡ of_four (ended_deep limits bytes) wrong (all_deep limits bytes) (leaf_deep limits bytes)
  by_text (Some fault) is = ap (λ first. option_or first (Some (told fault))) ended_are
  by_text None is = sym (all_after_ended (ended_deep limits bytes) (leaf_deep limits bytes) refl is)

  pub in_order : fault_by (text_fault limits.bytes bytes) limits bytes ≡ fault_met limits bytes
  in_order = by_text (text_fault limits.bytes bytes) refl

pub faults_in_order : FaultsInOrder
faults_in_order limits bytes =
    (in_order limits bytes, ap (λ first. option_or first (option_map told (settled_fault limits.bytes bytes))) (ended_are limits bytes))
