-- A parser after lines of text, which continue the open run, or open one.
use Rattle.std.proofs.Common.{◌≡◌, ℕ, ◌+◌, ◌-◌, ◌*◌, ◌^◌, min, ◌<◌, ◌≤◌, ◌==◌, Bool, true, false, ◌&&◌, ◌||◌, List, [], ◌∷◌, ◌++◌, length, map, refl, ◌∙◌, sym, ap, ap₂, subst, arith, append_assoc}
use Rattle.std.specs.Prelude.{not, is_some, nat_le, nat_lt}
use Rattle.std.specs.List.{list_all}
use Rattle.std.proofs.lemmas.Bool.{and_parts, eqb-true}
use Rattle.std.proofs.lemmas.Bool.Decides.{nat_tests}
use Rattle.cm_text.specs.Rules.{Rules}
use Rattle.cm_text.specs.LineText.{is_line}
use Rattle.cm_text.specs.Lines.{LineView, plain_line}
use Rattle.cm_text.specs.Indentation.{indent_of}
use Rattle.cm_text.specs.TextLines.{is_text_after, are_text}
use Rattle.cm_scan.specs.Words.{trim_start}
use Rattle.cm_scan.specs.blocks.Lines.{content_of}
use Rattle.cm_scan.specs.blocks.Blocks.{add_text}
use Rattle.cm_block.specs.OpenLeaf.{OpenLeaf, no_leaf, open_text, open_code, open_fence, open_html, is_open_text, is_no_leaf, stays_open}
use Rattle.cm_block.specs.Machine.{Open}
use Rattle.cm_block.specs.Level.{Level, block_opens}
use Rattle.cm_block.specs.Lazy.{with_text}
use Rattle.cm_block.specs.Stack.{Owned, stack, push_line}
use Rattle.cm_block.specs.Frames.{Container, a_quote, an_item, Frame, opened, is_last, nest, stack_with}
use Rattle.cm_block.specs.steps.LineTests.{Tested}
use Rattle.cm_block.specs.steps.TextRuns.{add_lines}
use Rattle.cm_block.specs.declared.parser.BlockParser as parser
use Rattle.cm_block.specs.declared.leaf_kind.LeafKind.TheVariants.{Run}
use Rattle.cm_block.specs.LeafViews.{leaf_of}
use Rattle.cm_block.specs.Parser.{stack_of, takes_text, HasTaken}
use Rattle.cm_block.specs.Tests.{count_in, count_open, count_of}
use Rattle.cm_block.specs.steps.ParserSteps.{with_run}
use Rattle.cm_block.proofs.lemmas.ContainerLemmas.{count_taken}
use Rattle.cm_block.proofs.lemmas.Frames.{open_text_of}
use Rattle.cm_block.proofs.lemmas.ParserLemmas.{stack_stays, stands_next}
use Rattle.cm_block.proofs.lemmas.TextGoesOn.{text_goes_on}
use Rattle.cm_block.proofs.lemmas.TextOpens.{indent-beyond, opens}
use Rattle.cm_block.proofs.lemmas.TextRunLemmas.{content_after, content_text}

-- the open containers in a row, with more text in the innermost
text-nested : (bare : Bool) (fs : List Frame) (v : Level) (source : List ℕ) (line : LineView)
    → nest false fs v (open_text (add_text source line)) ≡ ((nest bare fs v (open_text source)).0, with_text (nest bare fs v (open_text source)).1 line)
unfolding nest with_text
text-nested bare [] v source line = refl
text-nested bare (f ∷ fs) v source line = go f.container (text-nested bare fs v source line)
  where
    inside : Level × Open Level
    inside = nest bare fs v (open_text source)

    here : Container → Bool → Level × Open Level → Level × Open Level
    here c b i = (f.level, opened c b i.0 i.1)

    there : Container → Level × Open Level
    there c = (f.level, with_text (opened c (bare && is_last fs) inside.0 inside.1) line)

    more : Level × Open Level
    more = (inside.0, with_text inside.1 line)

    go : (c : Container) → nest false fs v (open_text (add_text source line)) ≡ more → here c (false && is_last fs) (nest false fs v (open_text (add_text source line))) ≡ there c
    go a_quote h = ap (here a_quote false) h
    go (an_item kind column) h = ap (here (an_item kind column) false) h

text-pushed : (rules : Rules) (bare : Bool) (fs : List Frame) (v : Level) (source : List ℕ) (s : Owned) (line : LineView) → is_text_after 0 (content_of line) ≡ true
    → stack_with false fs v (open_text (add_text source line)) s ≡ push_line rules (stack_with bare fs v (open_text source) s) line
unfolding push_line
text-pushed rules bare fs v source s line text =
    let now = nest bare fs v (open_text source) in
    ap (λ (n : Level × Open Level). stack n.0 n.1 s) (text-nested bare fs v source line)
    ∙ sym (text_goes_on rules line false s now.0 now.1 text (open_text_of bare fs v (open_text source)))

-- one line more

-- what else is as it was, and how often lines were read
record Goes (old new : parser.BlockParser) (times : ℕ) : Type 0 where
  frames : new.stack.frames ≡ old.stack.frames
  level : new.stack.level ≡ old.stack.level
  bare : new.stack.bare ≡ false
  owners : new.owners ≡ old.owners
  limits : new.limits ≡ old.limits
  fault : new.fault ≡ old.fault
  tests : new.tests ≡ min (old.tests + times) (2 ^ 128 - 1)

text-next : (old new : parser.BlockParser) (lines : List LineView) (source : List ℕ) (line : LineView) → leaf_of old.leaf ≡ open_text source
    → leaf_of new.leaf ≡ open_text (add_text source line) → Goes old new 2 → old.limits.blocks ≤ 500 → is_text_after 0 (content_of line) ≡ true → is_line line.text ≡ true
    → HasTaken old lines → HasTaken new (lines ++ line ∷ [])
text-next old new lines source line before now g few text one h =
    stands_next old new lines line line 2 refl one h pushed (omega (arith, h.few, ap length g.frames)) few tested g.tests g.limits g.fault
  where
    same : stack_of new ≡ stack_with false old.stack.frames old.stack.level (open_text (add_text source line)) old.owners
    same =
        ap₂ (λ b (gs : List Frame). stack_with b gs new.stack.level (leaf_of new.leaf) new.owners) g.bare g.frames
        ∙ ap₂ (λ w x. stack_with false old.stack.frames w x new.owners) g.level now
        ∙ ap (λ o. stack_with false old.stack.frames old.stack.level (open_text (add_text source line)) o) g.owners

    pushed : stack_of new ≡ push_line old.limits.rules (stack_of old) line
    pushed =
        same ∙ text-pushed old.limits.rules old.stack.bare old.stack.frames old.stack.level source old.owners line text
        ∙ ap (λ x. push_line old.limits.rules (stack_with old.stack.bare old.stack.frames old.stack.level x old.owners) line) (sym before)

    fewer : count_of (stack_of new) - count_of (stack_of old) ≤ 0
    fewer =
        count_taken old.stack.bare old.stack.frames old.stack.level (leaf_of old.leaf) old.owners old.owners (stays_open (open_text (add_text source line))) (stack_of new)
        (same ∙ stack_stays false old.stack.frames old.stack.frames old.stack.level old.stack.level (open_text (add_text source line)) old.owners refl refl refl)

    tested : Tested (count_of (stack_of new) - count_of (stack_of old)) (old.limits.blocks + 5) 0 2
    tested = (λ below. omega (arith, fewer), omega arith)

-- and all of them

-- a line of text, by its content
abbrev begins : List ℕ → Bool
begins line = is_text_after 0 (trim_start line)

begins-beyond : (spaces : ℕ) (lines : List (List ℕ)) → are_text spaces lines ≡ true → list_all begins lines ≡ true
begins-beyond spaces [] h = refl
begins-beyond spaces (line ∷ lines) h =
    let parts = and_parts (is_text_after spaces line) (are_text 0 lines) h in
    ap₂ (λ a b. a && b) (ap (is_text_after 0) (content_after spaces line parts.0) ∙ content_text spaces line parts.0) (begins-beyond 0 lines parts.1)

texts-stand : (texts : List (List ℕ)) (old new : parser.BlockParser) (lines : List LineView) (source : List ℕ) → 0 < length texts
    → leaf_of old.leaf ≡ open_text source → leaf_of new.leaf ≡ open_text (add_lines source (map plain_line texts)) → Goes old new (2 * length texts) → old.limits.blocks ≤ 500
    → list_all begins texts ≡ true → list_all is_line texts ≡ true → HasTaken old lines → HasTaken new (lines ++ map plain_line texts)
texts-stand [] old new lines source some before now g few text one h = absurd (omega (arith, some))
texts-stand (l ∷ []) old new lines source some before now g few text one h =
    text-next old new lines source (plain_line l) before now g few (and_parts (begins l) true text).0 (and_parts (is_line l) true one).0 h
texts-stand (l ∷ m ∷ ms) old new lines source some before now g few text one h =
    let begun = and_parts (begins l) (list_all begins (m ∷ ms)) text in
    let are = and_parts (is_line l) (list_all is_line (m ∷ ms)) one in
    let line = plain_line l in
    let mid : parser.BlockParser = record new { leaf = record { kind = Run; text = add_text source line; blank_lines = new.leaf.blank_lines; info = new.leaf.info; empty = λ e. absurd (cc (e)) }; tests = min (old.tests + 2) (2 ^ 128 - 1) } in
    let first = text-next old mid lines source line before refl
    (record { frames = g.frames; level = g.level; bare = g.bare; owners = g.owners; limits = g.limits; fault = g.fault; tests = refl }) few begun.0 are.0 h in
    let rest : Goes mid new (2 * length (m ∷ ms)) = record {
      frames = refl;
      level = refl;
      bare = g.bare;
      owners = refl;
      limits = refl;
      fault = refl;
      tests = omega (arith, g.tests);
    } in
    subst (HasTaken new) (append_assoc lines (line ∷ []) (map plain_line (m ∷ ms)))
    (texts-stand (m ∷ ms) mid new (lines ++ line ∷ []) (add_text source line) (omega arith) refl now rest (omega (arith, few, ap (λ k. k.blocks) g.limits)) begun.1 are.1 first)

-- where nothing is open, the first opens a run

record Opens (old new : parser.BlockParser) (times : ℕ) : Type 0 where
  frames : new.stack.frames ≡ old.stack.frames
  level : new.stack.level ≡ block_opens old.stack.level
  bare : new.stack.bare ≡ false
  owners : new.owners ≡ old.owners
  limits : new.limits ≡ old.limits
  fault : new.fault ≡ old.fault
  tests : new.tests ≡ min (old.tests + times) (2 ^ 128 - 1)

text-first : (old new : parser.BlockParser) (lines : List LineView) (line : LineView) → old.stack.frames ≡ [] → leaf_of old.leaf ≡ no_leaf
    → leaf_of new.leaf ≡ open_text (content_of line) → Opens old new 2 → old.limits.blocks ≤ 500 → is_text_after 0 (content_of line) ≡ true → line.lazy ≡ false
    → nat_le 4 (indent_of line) ≡ false → is_line line.text ≡ true → HasTaken old lines → HasTaken new (lines ++ line ∷ [])
unfolding nest count_open
text-first old new lines line top before now g few text eager near one h =
    stands_next old new lines line line 2 refl one h pushed (omega (arith, h.few, ap length g.frames)) few tested g.tests g.limits g.fault
  where
    is-old : stack_of old ≡ stack_with old.stack.bare [] old.stack.level no_leaf old.owners
    is-old = ap₂ (λ (fs : List Frame) x. stack_with old.stack.bare fs old.stack.level x old.owners) top before

    is-new : stack_of new ≡ stack_with false [] (block_opens old.stack.level) (open_text (content_of line)) old.owners
    is-new =
        ap₂ (λ b (fs : List Frame). stack_with b fs new.stack.level (leaf_of new.leaf) new.owners) g.bare (g.frames ∙ top)
        ∙ ap₂ (λ v x. stack_with false [] v x new.owners) g.level now
        ∙ ap (λ o. stack_with false [] (block_opens old.stack.level) (open_text (content_of line)) o) g.owners

    pushed : stack_of new ≡ push_line old.limits.rules (stack_of old) line
    pushed = is-new ∙ opens old.limits.rules line text eager near old.stack.bare old.stack.level old.owners ∙ ap (λ s. push_line old.limits.rules s line) (sym is-old)

    fewer : count_of (stack_of new) - count_of (stack_of old) ≤ 0
    fewer =
        let before_count : count_of (stack_of old) ≡ count_in old.stack.level + 0 = ap count_of is-old in
        let after_count : count_of (stack_of new) ≡ count_in old.stack.level + 0 = ap count_of is-new in
        omega (arith, before_count, after_count)

    tested : Tested (count_of (stack_of new) - count_of (stack_of old)) (old.limits.blocks + 5) 0 2
    tested = (λ below. omega (arith, fewer), omega arith)

first-text : (spaces : ℕ) (l : List ℕ) → spaces < 4 → is_text_after spaces l ≡ true
    → (is_text_after 0 (content_of (plain_line l)) ≡ true) × (nat_le 4 (indent_of (plain_line l)) ≡ false)
first-text spaces l near text = (
  ap (is_text_after 0) (content_after spaces l text) ∙ content_text spaces l text,
  ap (nat_le 4) (indent-beyond spaces 0 l text) ∙ below,
)
  where
    below : nat_le 4 spaces ≡ false
    below = grind (arith, nat_tests, near)

texts-open : (texts : List (List ℕ)) (spaces : ℕ) (old new : parser.BlockParser) (lines : List LineView) → 0 < length texts → spaces < 4 → old.stack.frames ≡ []
    → leaf_of old.leaf ≡ no_leaf → leaf_of new.leaf ≡ open_text (add_lines [] (map plain_line texts)) → Opens old new (2 * length texts) → old.limits.blocks ≤ 500
    → are_text spaces texts ≡ true → list_all is_line texts ≡ true → HasTaken old lines → HasTaken new (lines ++ map plain_line texts)
texts-open [] spaces old new lines some near top before now g few text one h = absurd (omega (arith, some))
texts-open (l ∷ []) spaces old new lines some near top before now g few text one h =
    let first = first-text spaces l near (and_parts (is_text_after spaces l) true text).0 in
    text-first old new lines (plain_line l) top before now g few first.0 refl first.1 (and_parts (is_line l) true one).0 h
texts-open (l ∷ m ∷ ms) spaces old new lines some near top before now g few text one h =
    let parts = and_parts (is_text_after spaces l) (are_text 0 (m ∷ ms)) text in
    let are = and_parts (is_line l) (list_all is_line (m ∷ ms)) one in
    let first = first-text spaces l near parts.0 in
    let line = plain_line l in
    let mid : parser.BlockParser = record new { leaf = record { kind = Run; text = content_of line; blank_lines = new.leaf.blank_lines; info = new.leaf.info; empty = λ e. absurd (cc (e)) }; tests = min (old.tests + 2) (2 ^ 128 - 1) } in
    let opened = text-first old mid lines line top before refl
    (record { frames = g.frames; level = g.level; bare = g.bare; owners = g.owners; limits = g.limits; fault = g.fault; tests = refl }) few first.0 refl first.1 are.0 h in
    let rest : Goes mid new (2 * length (m ∷ ms)) = record {
      frames = refl;
      level = refl;
      bare = g.bare;
      owners = refl;
      limits = refl;
      fault = refl;
      tests = omega (arith, g.tests);
    } in
    subst (HasTaken new) (append_assoc lines (line ∷ []) (map plain_line (m ∷ ms)))
    (texts-stand (m ∷ ms) mid new (lines ++ line ∷ []) (content_of line) (omega arith) refl now rest (omega (arith, few, ap (λ k. k.blocks) g.limits)) (begins-beyond 0 (m ∷ ms) parts.1) are.1 opened)

-- in both cases

pub text_stands : (texts : List (List ℕ)) (spaces : ℕ) (old new : parser.BlockParser) (lines : List LineView) → 0 < length texts → takes_text old spaces ≡ true
    → new.stack.level ≡ (with_run old.stack.level (leaf_of old.leaf)).0
    → ((source : List ℕ) → (with_run old.stack.level (leaf_of old.leaf)).1 ≡ open_text source → leaf_of new.leaf ≡ open_text (add_lines source (map plain_line texts)))
    → new.stack.frames ≡ old.stack.frames → new.stack.bare ≡ false → new.owners ≡ old.owners → new.limits ≡ old.limits
    → new.fault ≡ old.fault → new.tests ≡ min (old.tests + 2 * length texts) (2 ^ 128 - 1) → old.limits.blocks ≤ 500
    → are_text spaces texts ≡ true → list_all is_line texts ≡ true → HasTaken old lines → HasTaken new (lines ++ map plain_line texts)
text_stands texts spaces old new lines some takes level now frames bare owners limits fault tests few text one h = go (leaf_of old.leaf) refl
  where
    taken : (is_open_text (leaf_of old.leaf) || (nat_lt spaces 4 && (length old.stack.frames == 0 && is_no_leaf (leaf_of old.leaf)))) ≡ true
    taken = (and_parts (not (is_some old.fault)) (is_open_text (leaf_of old.leaf) || (nat_lt spaces 4 && (length old.stack.frames == 0 && is_no_leaf (leaf_of old.leaf)))) takes).1

    nothing : OpenLeaf → Bool
    nothing x = nat_lt spaces 4 && (length old.stack.frames == 0 && is_no_leaf x)

    nothing-open : nat_lt spaces 4 ≡ true → (length old.stack.frames == 0) ≡ true → leaf_of old.leaf ≡ no_leaf → HasTaken new (lines ++ map plain_line texts)
    nothing-open near top is =
        texts-open texts spaces old new lines some (grind (arith, nat_tests, near)) (no-frames old.stack.frames (eqb-true _ _ top)) is
        (now [] (ap (λ x. (with_run old.stack.level x).1) is))
        (record { frames = frames; level = level ∙ ap (λ x. (with_run old.stack.level x).0) is; bare = bare; owners = owners; limits = limits; fault = fault; tests = tests })
        few text one h
      where
        no-frames : (fs : List Frame) → length fs ≡ 0 → fs ≡ []
        no-frames [] e = refl
        no-frames (f ∷ fs) e = absurd (omega (arith, e))

    other : (x : OpenLeaf) → leaf_of old.leaf ≡ x → is_open_text x ≡ false → is_no_leaf x ≡ false → ⊥
    other x is no_text some_leaf =
        let all : (is_open_text x || nothing x) ≡ true = sym (ap (λ y. is_open_text y || nothing y) is) ∙ taken in
        let parts = and_parts (nat_lt spaces 4) _ (sym (ap (λ b. b || nothing x) no_text) ∙ all) in
        let leaf = (and_parts (length old.stack.frames == 0) _ parts.1).1 in
        let wrong : true ≡ false = sym leaf ∙ some_leaf in cc

    go : (x : OpenLeaf) → leaf_of old.leaf ≡ x → HasTaken new (lines ++ map plain_line texts)
    go (open_text source) is =
        texts-stand texts old new lines source some is (now source (ap (λ x. (with_run old.stack.level x).1) is))
        (record { frames = frames; level = level ∙ ap (λ x. (with_run old.stack.level x).0) is; bare = bare; owners = owners; limits = limits; fault = fault; tests = tests })
        few (begins-beyond spaces texts text) one h
    go no_leaf is =
        let all : nothing no_leaf ≡ true = sym (ap (λ x. is_open_text x || nothing x) is) ∙ taken in
        let parts = and_parts (nat_lt spaces 4) _ all in
        nothing-open parts.0 (and_parts (length old.stack.frames == 0) _ parts.1).0 is
    go (open_code t ls blank_text blank_lines) is = absurd (other (open_code t ls blank_text blank_lines) is refl refl)
    go (open_fence fence columns t ls) is = absurd (other (open_fence fence columns t ls) is refl refl)
    go (open_html kind t ls) is = absurd (other (open_html kind t ls) is refl refl)
