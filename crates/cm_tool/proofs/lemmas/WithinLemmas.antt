-- Which texts have no fault, and that what is spelled has none.
use Rattle.std.proofs.Common.{◌≡◌, ℕ, ◌≤◌, cond, List, length, take, Option, Some, None, refl, sym, ◌∙◌, ap, subst, take_all}
use Rattle.std.specs.Prelude.{◌↔◌, IsUtf8, option_map}
use Rattle.std.specs.Option.{option_or}
use Rattle.std.proofs.lemmas.Bool.{le-ltb}
use Rattle.cm_text.specs.declared.fault.TextFault.{TextFault}
use Rattle.cm_text.specs.declared.fault.TextFault.TheVariants.{TooLong}
use Rattle.cm_text.specs.Limits.{LimitsView}
use Rattle.cm_text.specs.Lines.{text_of, plain_lines_of}
use Rattle.cm_text.specs.Faults.{text_fault, valid_len}
use Rattle.cm_text.proofs.lemmas.FeedLemmas.{within_limit}
use Rattle.cm_text.proofs.lemmas.SettledLemmas as settled
use Rattle.cm_text.proofs.lemmas.Utf8Lemmas.{valid_front-IsUtf8}
use Rattle.cm_tree.specs.Depth.{greatest, blocks_depth}
use Rattle.cm_scan.specs.blocks.Blocks.{first_too_deep}
use Rattle.cm_scan.specs.Documents.{tree_of}
use Rattle.cm_source.specs.Spelling.{spelling_of}
use Rattle.cm_source.proofs.lemmas.DocumentsBack.{trees_read_back}
use Rattle.cm_tool.specs.declared.fault.Fault.{Fault}
use Rattle.cm_tool.specs.declared.fault.Fault.TheVariants.{BlocksTooDeep, InlinesTooDeep}
use Rattle.cm_tool.specs.ToldFaults.{told}
use Rattle.cm_tool.specs.Faults.{fault_of, fault_by, ended_too_deep}
use Rattle.cm_tool.specs.Leaves.{first_leaf_past, leaf_depths}
use Rattle.cm_tool.specs.Within.{IsWithin, NoFaultJustWithin, SpelledWithoutFault}
use Rattle.cm_tool.proofs.lemmas.DepthLemmas.{none_after, none_too_deep}
use Rattle.cm_tool.proofs.lemmas.EndedLemmas.{all_are_lines}
use Rattle.cm_tool.proofs.lemmas.SettledLemmas.{sound_text}

-- the bytes of a text without a fault of its own
sound_bytes : (limit : ℕ) (bytes : List ℕ) → (text_fault limit bytes ≡ None) ↔ (IsUtf8 bytes × (length bytes ≤ limit))
sound_bytes limit bytes = (from_none, to_none)
  where
    from_none : text_fault limit bytes ≡ None → IsUtf8 bytes × (length bytes ≤ limit)
    from_none none =
        let parts = sound_text limit bytes none in
        let within = within_limit limit bytes parts.0 in
        let whole : take limit bytes ≡ bytes = take_all limit bytes within in
        let front = valid_front-IsUtf8 (take limit bytes) in
        (subst IsUtf8 (ap (λ t. take (valid_len limit bytes) t) whole ∙ take_all (valid_len limit bytes) bytes parts.1) front, within)

    to_none : IsUtf8 bytes × (length bytes ≤ limit) → text_fault limit bytes ≡ None
    to_none sound =
        settled.sound_text limit bytes sound.0
        ∙ ap (λ past. cond past (Some (TooLong limit)) None) (le-ltb limit (length bytes) sound.1)

-- no fault is reported just where there is none of the three

none-of-two : (line leaf : Option ℕ) → (option_or (option_map BlocksTooDeep line) (option_map InlinesTooDeep leaf) ≡ None) ↔ ((line ≡ None) × (leaf ≡ None))
none-of-two None None = (λ e. (refl, refl), λ both. refl)
none-of-two None (Some n) = (λ e. cc, λ both. cc)
none-of-two (Some n) leaf = (λ e. cc, λ both. cc)

some-last : (first : Option Fault) (fault : Fault) → option_or first (Some fault) ≡ None → ⊥
some-last None fault e = cc
some-last (Some other) fault e = cc

text-sound : (limits : LimitsView) (bytes : List ℕ) (wrong : Option TextFault) → fault_by wrong limits bytes ≡ None → wrong ≡ None
text-sound limits bytes None e = refl
text-sound limits bytes (Some fault) e = absurd (some-last (ended_too_deep limits bytes) (told fault) e)

pub no_fault_just_within : NoFaultJustWithin
no_fault_just_within limits bytes = (from_none, to_none)
  where
    line : Option ℕ
    line = first_too_deep limits.rules limits.blocks (plain_lines_of (text_of bytes))

    leaf : Option ℕ
    leaf = first_leaf_past limits.inlines (tree_of limits.rules bytes)

    lines-within : (line ≡ None) ↔ (blocks_depth (tree_of limits.rules bytes) ≤ limits.blocks)
    lines-within = none_too_deep limits.rules limits.blocks (plain_lines_of (text_of bytes)) (all_are_lines (text_of bytes))

    leaves-within : (leaf ≡ None) ↔ (greatest (leaf_depths (tree_of limits.rules bytes)) ≤ limits.inlines)
    leaves-within = none_after limits.inlines 1 (leaf_depths (tree_of limits.rules bytes))

    from_none : fault_of limits bytes ≡ None → IsUtf8 bytes × (length bytes ≤ limits.bytes) × IsWithin limits (tree_of limits.rules bytes)
    from_none none =
        let sound = text-sound limits bytes (text_fault limits.bytes bytes) none in
        let text = (sound_bytes limits.bytes bytes).0 sound in
        let both = (none-of-two line leaf).0 (ap (λ wrong. fault_by wrong limits bytes) (sym sound) ∙ none) in
        (text.0, text.1, (lines-within.0 both.0, leaves-within.0 both.1))

    to_none : IsUtf8 bytes × (length bytes ≤ limits.bytes) × IsWithin limits (tree_of limits.rules bytes) → fault_of limits bytes ≡ None
    to_none within =
        ap (λ wrong. fault_by wrong limits bytes) ((sound_bytes limits.bytes bytes).1 (within.0, within.1))
        ∙ (none-of-two line leaf).1 (lines-within.1 within.2.0, leaves-within.1 within.2.1)

pub spelled_without_fault : SpelledWithoutFault
spelled_without_fault limits blocks e utf8 short within =
    (no_fault_just_within limits (spelling_of blocks)).1
    (utf8, short, subst (IsWithin limits) (sym (trees_read_back limits.rules blocks e utf8)) within)
