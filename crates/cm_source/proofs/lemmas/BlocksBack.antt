-- The blocks of a spelling are those that were spelled.
use Rattle.std.proofs.Common.{◌≡◌, ℕ, ◌==◌, not, true, false, List, [], ◌∷◌, ◌++◌, map, refl, sym, ◌∙◌, ap, arith}
use Rattle.std.proofs.lemmas.Bool.{and_parts, and_from}
use Rattle.std.specs.Prelude.{if◌then◌else◌}
use Rattle.std.specs.List.{flat_map, list_all}
use Rattle.std.specs.Str.Lossy.{replacement_bytes}
use Rattle.cm_text.specs.LineText.{is_line, is_line_ending}
use Rattle.cm_text.specs.Lines.{text_of, plain_line, with_line_feed}
use Rattle.cm_text.specs.Rules.{Rules}
use Rattle.cm_text.proofs.lemmas.CutLemmas.{text_of-append}
use Rattle.cm_text.proofs.lemmas.LinesLemmas.{lines_with_line_feeds}
use Rattle.cm_tree.specs.declared.tree.Block.{Block}
use Rattle.cm_scan.specs.blocks.Blocks.{blocks_of}
use Rattle.cm_source.specs.ReadingBack.{BlocksReadBack, SpellingIsText}
use Rattle.cm_source.specs.Refusals.{IsSpellable}
use Rattle.cm_source.specs.Spelling.{lines_of_blocks}
use Rattle.cm_source.specs.steps.Sources.{is_one_line}
use Rattle.cm_source.specs.steps.Sequences.{sequence_of}
use Rattle.cm_source.proofs.lemmas.blocks.CleanLines.{blocks-clean}
use Rattle.cm_source.proofs.lemmas.blocks.SequenceBack.{reads-back}
use Rattle.cm_source.proofs.lemmas.blocks.LeavesBack.{is_inside_line}
use Rattle.cm_source.proofs.lemmas.sources.SourceLemmas.{contents_give_sources}
use Rattle.cm_source.proofs.lemmas.blocks.SpellableBlocks.{tree-stands}

no-ending : (b : ℕ) → is_inside_line b ≡ true → not (is_line_ending b) ≡ true
no-ending b h = grind (arith, h)

line-of : (t : List ℕ) → is_one_line t ≡ true → is_line t ≡ true
line-of [] h = refl
line-of (b ∷ t) h =
    let (first, more) = and_parts (is_inside_line b) (is_one_line t) h in
    and_from (not (is_line_ending b)) (is_line t) (no-ending b first) (line-of t more)

lines-of : (lines : List (List ℕ)) → list_all is_one_line lines ≡ true → list_all is_line lines ≡ true
lines-of [] h = refl
lines-of (t ∷ lines) h =
    let (first, more) = and_parts (is_one_line t) (list_all is_one_line lines) h in
    and_from (is_line t) (list_all is_line lines) (line-of t first) (lines-of lines more)

-- no U+0000

no-nul : (b : ℕ) → is_inside_line b ≡ true → (b == 0) ≡ false
no-nul b h = grind (arith, h)

text-of-line : (t : List ℕ) → is_one_line t ≡ true → text_of t ≡ t
text-of-line [] h = refl
text-of-line (b ∷ t) h =
    let (first, more) = and_parts (is_inside_line b) (is_one_line t) h in
    ap (λ v. (if v then replacement_bytes else b ∷ []) ++ text_of t) (no-nul b first) ∙ ap (λ l. b ∷ l) (text-of-line t more)

text-of-lines : (lines : List (List ℕ)) → list_all is_one_line lines ≡ true → text_of (flat_map with_line_feed lines) ≡ flat_map with_line_feed lines
text-of-lines [] h = refl
text-of-lines (t ∷ lines) h =
    let (first, more) = and_parts (is_one_line t) (list_all is_one_line lines) h in
    text_of-append (with_line_feed t) (flat_map with_line_feed lines)
    ∙ ap (λ l. l ++ text_of (flat_map with_line_feed lines)) (text_of-append t (10 ∷ []) ∙ ap with_line_feed (text-of-line t first))
    ∙ ap (λ l. with_line_feed t ++ l) (text-of-lines lines more)

spelled-clean : (rules : Rules) (blocks : List Block) → IsSpellable rules blocks → list_all is_one_line (lines_of_blocks true blocks) ≡ true
spelled-clean rules blocks h =
    let all = tree-stands rules (contents_give_sources rules) blocks h in
    ap (list_all is_one_line) (sym (all.lines true)) ∙ blocks-clean rules true false (sequence_of blocks) all.fits

pub blocks_read_back : BlocksReadBack
blocks_read_back rules blocks h =
    let all = tree-stands rules (contents_give_sources rules) blocks h in
    ap (λ lines. blocks_of rules (map plain_line lines)) (lines_with_line_feeds (lines_of_blocks true blocks) (lines-of (lines_of_blocks true blocks) (spelled-clean rules blocks h)) ∙ sym (all.lines true))
    ∙ reads-back rules (sequence_of blocks) all.fits
    ∙ all.blocks

pub spelling_is_text : SpellingIsText
spelling_is_text rules blocks h = text-of-lines (lines_of_blocks true blocks) (spelled-clean rules blocks h)
