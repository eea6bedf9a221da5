-- Blocks that are spelled one after another.
use Rattle.std.proofs.Common.{◌≡◌, ◌∙◌, ℕ, List, [], ◌∷◌, ◌++◌, map, Option, Some, None, Ok, Err, true, false, refl, sym, ap, subst, append_assoc, append-nil}
use Rattle.std.specs.Prelude.{flat_map}
use Rattle.std.specs.Option.{is_some}
use Rattle.std.proofs.lemmas.List.{map-append}
use Rattle.std.proofs.lemmas.List.Concat.{flat_map-append}
use Rattle.cm_text.specs.Rules.{Rules}
use Rattle.cm_tree.specs.declared.tree.Block.{Block}
use Rattle.cm_scan.specs.Words.{◌<|>◌}
use Rattle.cm_source.specs.declared.why.Why.{Why}
use Rattle.cm_source.specs.declared.fault.SourceFault.TheVariants.{Unspellable}
use Rattle.cm_source.specs.declared.refusals.Face.{Face as SeenFace}
use Rattle.cm_source.specs.declared.speller.Speller as code
use Rattle.cm_source.specs.Answers.{ok_unless}
use Rattle.cm_source.specs.Refusals.{BlockFace, JudgedBlock, judged_block, refusal_of_all, refusal_of, IsSpellable}
use Rattle.cm_source.specs.Speller.{face_after, HasSpelled, Refuses}
use Rattle.cm_source.specs.Spelling.{gap, joined, lines_of_block, lines_of_blocks, spelling_of}
use Rattle.cm_source.specs.Faces.{seen}
use Rattle.cm_source.specs.steps.WrittenLines.{Writes}
use Rattle.cm_source.specs.BetweenLines.{IsBetween}
use Rattle.cm_source.proofs.lemmas.spelling.SpelledBlocks.{written-beyond}
use Rattle.cm_source.proofs.lemmas.refusals.RefusalLemmas.{no-reason}

-- why blocks are refused that are after others

or-more : (first second third : Option Why) → first <|> (second <|> third) ≡ (first <|> second) <|> third
or-more None second third = refl
or-more (Some why) second third = refl

refusal-beyond : (before : Option BlockFace) (blocks others : List JudgedBlock) → refusal_of_all before (blocks ++ others) ≡ refusal_of_all before blocks <|> refusal_of_all (face_after before blocks) others
refusal-beyond before [] others = refl
refusal-beyond before (next ∷ blocks) others =
    ap (λ r. next.refusal before <|> r) (refusal-beyond (Some next.face) blocks others)
    ∙ or-more (next.refusal before) (refusal_of_all (Some next.face) blocks) (refusal_of_all (face_after (Some next.face) blocks) others)

face-beyond : (before : Option BlockFace) (blocks : List JudgedBlock) (last : JudgedBlock) → face_after before (blocks ++ last ∷ []) ≡ Some last.face
face-beyond before [] last = refl
face-beyond before (next ∷ blocks) last = face-beyond (Some next.face) blocks last

module _ (rules : Rules) (blocks : List Block) (block : Block) where
  abbrev last_seen : Option BlockFace
  last_seen = face_after None (map (judged_block rules) blocks)

  beyond-is : (others : List Block) → IsSpellable rules blocks → refusal_of rules (blocks ++ block ∷ others) ≡ (judged_block rules block).refusal last_seen <|> refusal_of_all (Some (judged_block rules block).face) (map (judged_block rules) others)
  beyond-is others e =
      ap (refusal_of_all None) (map-append (judged_block rules) blocks (block ∷ others))
      ∙ refusal-beyond None (map (judged_block rules) blocks) (map (judged_block rules) (block ∷ others))
      ∙ ap (λ r. r <|> refusal_of_all last_seen (map (judged_block rules) (block ∷ others))) e

  pub one-more : IsSpellable rules blocks → (judged_block rules block).refusal last_seen ≡ None → IsSpellable rules (blocks ++ block ∷ [])
  one-more e fine = beyond-is [] e ∙ ap (λ r. r <|> None) fine

  pub refuses : (why : Why) → IsSpellable rules blocks → Err why ≡ ok_unless ((judged_block rules block).refusal last_seen) → Refuses (Unspellable why) rules blocks block
  refuses why e told others = beyond-is others e ∙ go ((judged_block rules block).refusal last_seen) told
    where
      go : (reason : Option Why) → Err why ≡ ok_unless reason → reason <|> refusal_of_all (Some (judged_block rules block).face) (map (judged_block rules) others) ≡ Some why
      go None told = absurd (cc told)
      go (Some other) told = let same : other ≡ why = cc told in ap Some same

-- the lines of blocks and one after them

some-beyond : (before : Option BlockFace) (blocks : List JudgedBlock) → is_some before ≡ true → is_some (face_after before blocks) ≡ true
some-beyond before [] some = some
some-beyond before (next ∷ blocks) some = some-beyond (Some next.face) blocks refl

seen-some : (before : Option SeenFace) → is_some before ≡ is_some (seen before)
seen-some None = refl
seen-some (Some face) = refl

joined-more : (first last : List (List ℕ)) (others : List (List (List ℕ))) → joined true (first ∷ (others ++ last ∷ [])) ≡ joined true (first ∷ others) ++ (gap true ++ last)
joined-more first last others =
    let apart : List (List ℕ) → List (List ℕ) = λ lines. gap true ++ lines in
    ap (λ t. first ++ t) (flat_map-append apart others (last ∷ []) ∙ ap (λ t. flat_map apart others ++ t) (append-nil (apart last)))
    ∙ sym (append_assoc first (flat_map apart others) (apart last))

lines-beyond : (rules : Rules) (blocks : List Block) (block : Block)
    → lines_of_blocks true (blocks ++ block ∷ []) ≡ lines_of_blocks true blocks ++ (gap (is_some (face_after None (map (judged_block rules) blocks))) ++ lines_of_block block)
lines-beyond rules [] block = append-nil (lines_of_block block)
lines-beyond rules (first ∷ blocks) block =
    ap (joined true) (map-append lines_of_block (first ∷ blocks) (block ∷ []))
    ∙ joined-more (lines_of_block first) (lines_of_block block) (map lines_of_block blocks)
    ∙ ap (λ some. lines_of_blocks true (first ∷ blocks) ++ (gap some ++ lines_of_block block)) (sym (some-beyond (Some (judged_block rules first).face) (map (judged_block rules) blocks) refl))

-- a speller with one more block

pub fits-beyond : (rules : Rules) (old : code.Speller) (blocks : List Block) (block : Block) → HasSpelled rules old blocks → Ok tt ≡ ok_unless ((judged_block old.rules block).refusal (seen old.before)) → IsSpellable rules (blocks ++ block ∷ [])
fits-beyond rules old blocks block stands fine =
    one-more rules blocks block stands.spellable
    (ap (judged_block rules block).refusal (sym stands.last) ∙ ap (λ r. (judged_block r block).refusal (seen old.before)) (sym stands.same_rules) ∙ no-reason ((judged_block old.rules block).refusal (seen old.before)) fine)

pub refused-beyond : (rules : Rules) (old : code.Speller) (blocks : List Block) (block : Block) (why : Why) → HasSpelled rules old blocks → Err why ≡ ok_unless ((judged_block old.rules block).refusal (seen old.before)) → Refuses (Unspellable why) rules blocks block
refused-beyond rules old blocks block why stands told =
    refuses rules blocks block why stands.spellable (told ∙ ap (λ r. ok_unless ((judged_block r block).refusal (seen old.before))) stands.same_rules ∙ ap (λ f. ok_unless ((judged_block rules block).refusal f)) stands.last)

pub goes-on-beyond : (rules : Rules) (old new : code.Speller) (blocks : List Block) (block : Block) → HasSpelled rules old blocks → new.rules ≡ old.rules → Ok tt ≡ ok_unless ((judged_block old.rules block).refusal (seen old.before))
    → Writes old.source new.source (gap (is_some old.before) ++ lines_of_block block) → seen new.before ≡ Some (judged_block rules block).face → new.failed ≡ false → HasSpelled rules new (blocks ++ block ∷ [])
goes-on-beyond rules old new blocks block stands same fine writes last sound =
    let lines = gap (is_some old.before) ++ lines_of_block block in
    let ended : List ℕ → List ℕ = λ line. line ++ 10 ∷ [] in
    let some = seen-some old.before ∙ ap is_some stands.last in
    let spelled : spelling_of (blocks ++ block ∷ []) ≡ spelling_of blocks ++ flat_map ended lines =
    ap (flat_map ended) (lines-beyond rules blocks block ∙ ap (λ s. lines_of_blocks true blocks ++ (gap s ++ lines_of_block block)) (sym some)) ∙ flat_map-append ended (lines_of_blocks true blocks) lines in
    record {
      same_rules = same ∙ stands.same_rules;
      spellable = fits-beyond rules old blocks block stands fine;
      spelled = subst (λ t. IsBetween new.source false t [] []) (sym spelled) (written-beyond lines old.source new.source (spelling_of blocks) stands.spelled writes);
      last = last ∙ sym (ap (face_after None) (map-append (judged_block rules) blocks (block ∷ [])) ∙ face-beyond None (map (judged_block rules) blocks) (judged_block rules block));
      fine = sound;
    }
