-- A spelling in UTF-8 is that of a tree whose contents are texts in UTF-8.
use Rattle.std.proofs.Common.{◌≡◌, ℕ, zero, suc, ◌+◌, Bool, true, not, List, [], ◌∷◌, ◌++◌, length, map, flat_map, replicate, IsUtf8, Option, Some, None, refl, subst, ◌∙◌, arith, append_assoc}
use Rattle.std.specs.Prelude.{⊤}
use Rattle.std.proofs.lemmas.Bool.{and_from}
use Rattle.std.proofs.lemmas.Str.{IsUtf8-append, IsUtf8-nil}
use Rattle.cm_text.specs.Rules.{Rules}
use Rattle.cm_text.proofs.lemmas.Utf8Lemmas.{IsUtf8-cancel}
use Rattle.cm_tree.specs.declared.tree.Inline.{Inline}
use Rattle.cm_tree.specs.declared.tree.ListKind.{ListKind}
use Rattle.cm_tree.specs.declared.tree.Block.{Block}
use Rattle.cm_tree.specs.declared.tree.Block.TheViews.{outs-Code, outs-Html, outs-Break, outs-Definition}
use Rattle.cm_tree.specs.declared.tree.Block.TheFolds.{fold_out-Block}
use Rattle.cm_source.specs.Inlines.{spelled_content}
use Rattle.cm_source.specs.InlineRefusals.{refused, paragraph_refusal, heading_refusal, of_paragraph, of_heading}
use Rattle.cm_source.specs.Refusals.{BlockFace, judged_block, refusal_of_all, refusal_of_items, list_reasons}
use Rattle.cm_source.specs.Spelling.{parted_lines, spaced, after_space, gap, joined, quoted, quote_lines, marker, indented, item_lines, lines_of_block, lines_of_blocks}
use Rattle.cm_source.specs.steps.Utf8Inlines.{all_of, has_utf8}
use Rattle.cm_source.specs.steps.Utf8Blocks.{utf8_step, has_texts}
use Rattle.cm_source.specs.steps.Fitting.{SpellingsHaveTexts}
use Rattle.cm_source.proofs.lemmas.shared.AcceptedLemmas.{or-none}
use Rattle.cm_source.proofs.lemmas.fitting.Neighbours.{ascii-utf8}
use Rattle.cm_source.proofs.lemmas.fitting.InlineEdges.{split-ascii}
use Rattle.cm_source.proofs.lemmas.fitting.TextsAreUtf8.{accepted-texts}
use Rattle.cm_source.proofs.lemmas.refusals.BlockRefusals.{seen_items}
use Rattle.cm_source.proofs.lemmas.shared.Alike.{refused-as}
use Rattle.cm_source.proofs.lemmas.shared.BlockInduction.{AllHold, ItemsHold, Cases, all-by-cases}
use Rattle.cm_source.proofs.lemmas.blocks.LeavesBack.{with_lines, join-all, parted-joined}
use Rattle.cm_tree.proofs.lemmas.BlockFolds as block_fold
use Rattle.cm_source.specs.Spelling as spelling
use Rattle.cm_source.specs.Refusals as refusals

-- ---- lines

abbrev AllUtf8 : List (List ℕ) → Type 0
AllUtf8 [] = ⊤
AllUtf8 (line ∷ lines) = IsUtf8 line × AllUtf8 lines

abbrev EachUtf8 : List (List (List ℕ)) → Type 0
EachUtf8 [] = ⊤
EachUtf8 (lines ∷ others) = AllUtf8 lines × EachUtf8 others

both-parts : (xs ys : List (List ℕ)) → AllUtf8 (xs ++ ys) → AllUtf8 xs × AllUtf8 ys
both-parts [] ys u = (tt, u)
both-parts (x ∷ xs) ys u = let more = both-parts xs ys u.1 in ((u.0, more.0), more.1)

-- lines that line feeds end
ended-utf8 : (lines : List (List ℕ)) → IsUtf8 (flat_map (λ line. line ++ 10 ∷ []) lines) → AllUtf8 lines
ended-utf8 [] u = tt
ended-utf8 (line ∷ lines) u =
    let rest = flat_map (λ line. line ++ 10 ∷ []) lines in
    let parts = split-ascii line 10 rest (omega arith) (subst IsUtf8 (append_assoc line (10 ∷ []) rest) u) in
    (parts.0, ended-utf8 lines parts.1)

-- lines that line feeds part, put together again
beyond-utf8 : (front : List ℕ) (lines : List (List ℕ)) → IsUtf8 front → AllUtf8 lines → IsUtf8 (with_lines front lines)
unfolding with_lines
beyond-utf8 front [] f u = f
beyond-utf8 front (line ∷ lines) f u = beyond-utf8 (front ++ 10 ∷ line) lines (IsUtf8-append front (10 ∷ line) f (IsUtf8-append (10 ∷ []) line (ascii-utf8 (10 ∷ []) refl) u.0)) u.1

joined-back : (lines : List (List ℕ)) → AllUtf8 lines → IsUtf8 (join-all lines)
joined-back [] u = IsUtf8-nil
joined-back (line ∷ lines) u = beyond-utf8 line lines u.0 u.1

parted-utf8 : (text : List ℕ) → AllUtf8 (parted_lines text) → IsUtf8 text
parted-utf8 text u = subst IsUtf8 (parted-joined text) (joined-back (parted_lines text) u)

-- ---- what is before lines

joined-beyond : (apart : Bool) (others : List (List (List ℕ))) → AllUtf8 (flat_map (λ lines. gap apart ++ lines) others) → EachUtf8 others
joined-beyond apart [] u = tt
joined-beyond apart (lines ∷ others) u =
    let parts = both-parts (gap apart ++ lines) (flat_map (λ lines. gap apart ++ lines) others) u in
    ((both-parts (gap apart) lines parts.0).1, joined-beyond apart others parts.1)

joined-utf8 : (apart : Bool) (all : List (List (List ℕ))) → AllUtf8 (joined apart all) → EachUtf8 all
joined-utf8 apart [] u = tt
joined-utf8 apart (first ∷ others) u = let parts = both-parts first (flat_map (λ lines. gap apart ++ lines) others) u in (parts.0, joined-beyond apart others parts.1)

-- a line after a mark and a space
spaced-utf8 : (mark line : List ℕ) → IsUtf8 (mark ++ spaced line) → IsUtf8 line
spaced-utf8 mark [] u = IsUtf8-nil
spaced-utf8 mark (b ∷ bs) u = (split-ascii mark 32 (b ∷ bs) (omega arith) u).1

spaces-utf8 : (n : ℕ) (line : List ℕ) → IsUtf8 (replicate n 32 ++ line) → IsUtf8 line
spaces-utf8 zero line u = u
spaces-utf8 (suc n) line u = spaces-utf8 n line (IsUtf8-cancel (32 ∷ []) (replicate n 32 ++ line) (ascii-utf8 (32 ∷ []) refl) u)

quoted-utf8 : (lines : List (List ℕ)) → AllUtf8 (map quoted lines) → AllUtf8 lines
quoted-utf8 [] u = tt
quoted-utf8 (line ∷ lines) u = (spaced-utf8 (62 ∷ []) line u.0, quoted-utf8 lines u.1)

quote-utf8 : (lines : List (List ℕ)) → AllUtf8 (quote_lines lines) → AllUtf8 lines
quote-utf8 [] u = tt
quote-utf8 (line ∷ lines) u = quoted-utf8 (line ∷ lines) u

indented-utf8 : (columns : ℕ) (lines : List (List ℕ)) → AllUtf8 (map (indented columns) lines) → AllUtf8 lines
indented-utf8 columns [] u = tt
indented-utf8 columns ([] ∷ lines) u = (IsUtf8-nil, indented-utf8 columns lines u.1)
indented-utf8 columns ((b ∷ bs) ∷ lines) u = (spaces-utf8 columns (b ∷ bs) u.0, indented-utf8 columns lines u.1)

item-utf8 : (mark : List ℕ) (lines : List (List ℕ)) → AllUtf8 (item_lines mark lines) → AllUtf8 lines
item-utf8 mark [] u = tt
item-utf8 mark (line ∷ lines) u = (spaced-utf8 mark line u.0, indented-utf8 (length mark + 1) lines u.1)

-- ---- blocks

module _ (rules : Rules) where
  abbrev HasTexts : Block → Type 0
  HasTexts b = (before : Option BlockFace) → (judged_block rules b).refusal before ≡ None → AllUtf8 (lines_of_block b) → has_texts b ≡ true

  all-texts : (blocks : List Block) → AllHold HasTexts blocks → (before : Option BlockFace) → refusal_of_all before (map (judged_block rules) blocks) ≡ None → EachUtf8 (map lines_of_block blocks)
      → all_of (map has_texts blocks) ≡ true
  unfolding AllHold
  all-texts [] hold before e u = refl
  all-texts (b ∷ bs) hold before e u =
      let parts = or-none ((judged_block rules b).refusal before) (refusal_of_all (Some (judged_block rules b).face) (map (judged_block rules) bs)) e in
      and_from (has_texts b) (all_of (map has_texts bs)) (hold.0 before parts.0 u.0) (all-texts bs hold.1 (Some (judged_block rules b).face) parts.1 u.1)

  items-texts : (kind : ListKind) (tight : Bool) (items : List (List Block)) → ItemsHold HasTexts items → refusal_of_items (map (map (judged_block rules)) items) ≡ None
      → EachUtf8 (map (λ blocks. item_lines (marker kind) (joined (not tight) blocks)) (map (map lines_of_block) items)) → all_of (map all_of (map (map has_texts) items)) ≡ true
  unfolding ItemsHold
  items-texts kind tight [] hold e u = refl
  items-texts kind tight (item ∷ items) hold e u =
      let parts = or-none (refusal_of_all None (map (judged_block rules) item)) (refusal_of_items (map (map (judged_block rules)) items)) e in
      let lines = map lines_of_block item in
      and_from (all_of (map has_texts item)) (all_of (map all_of (map (map has_texts) items)))
      (all-texts item hold.0 None parts.0 (joined-utf8 (not tight) lines (item-utf8 (marker kind) (joined (not tight) lines) u.0)))
      (items-texts kind tight items hold.1 parts.1 u.1)

  -- after the marks of a heading
  beyond-marks : (level : ℕ) (content : List Inline) → heading_refusal rules content ≡ None → IsUtf8 (replicate level 35 ++ after_space content) → all_of (map has_utf8 content) ≡ true
  beyond-marks level [] e u = refl
  beyond-marks level (i ∷ is) e u =
      accepted-texts rules of_heading (i ∷ is) e (split-ascii (replicate level 35) 32 (spelled_content (i ∷ is)) (omega arith) u).1

  texts-cases : Cases HasTexts
  texts-cases = record {
    paragraph = λ content before e u.
        let accepted = (or-none _ (paragraph_refusal rules content) (refused-as (block_fold.paragraph (refusals.block_step rules) content) before e)).1 in
        block_fold.paragraph utf8_step content ∙ accepted-texts rules of_paragraph content accepted
        (parted-utf8 (spelled_content content) (subst AllUtf8 (block_fold.paragraph spelling.block_step content) u));
    heading = λ level content before e u.
        let accepted = (or-none _ (heading_refusal rules content) (refused-as (block_fold.heading (refusals.block_step rules) level content) before e)).1 in
        block_fold.heading utf8_step level content ∙ beyond-marks level content accepted (parted-utf8 (replicate level 35 ++ after_space content) (subst AllUtf8 (block_fold.heading spelling.block_step level content) u));
    code = λ info text before e u. simp (fold_out-Block Bool utf8_step, outs-Code);
    html = λ text before e u. simp (fold_out-Block Bool utf8_step, outs-Html);
    thematic_break = λ before e u. simp (fold_out-Block Bool utf8_step, outs-Break);
    definition = λ label dest title before e u. simp (fold_out-Block Bool utf8_step, outs-Definition);
    quote = λ blocks hold before e u.
        let lines = map lines_of_block blocks in
        block_fold.quote utf8_step blocks ∙ all-texts blocks hold None (refused-as (block_fold.quote (refusals.block_step rules) blocks) before e) (joined-utf8 true lines (quote-utf8 (joined true lines) (subst AllUtf8 (block_fold.quote spelling.block_step blocks) u)));
    list = λ kind tight items hold before e u.
        let accepted = (or-none (refused (list_reasons kind tight (seen_items rules items) before)) (refusal_of_items (map (map (judged_block rules)) items)) (refused-as (block_fold.list (refusals.block_step rules) kind tight items) before e)).1 in
        block_fold.list utf8_step kind tight items ∙ items-texts kind tight items hold accepted
        (joined-utf8 (not tight) (map (λ blocks. item_lines (marker kind) (joined (not tight) blocks)) (map (map lines_of_block) items)) (subst AllUtf8 (block_fold.list spelling.block_step kind tight items) u));
  }

pub spellings_have_texts : SpellingsHaveTexts
spellings_have_texts rules blocks e u =
    all-texts rules blocks (all-by-cases (HasTexts rules) (texts-cases rules) blocks) None e (joined-utf8 true (map lines_of_block blocks) (ended-utf8 (lines_of_blocks true blocks) u))
