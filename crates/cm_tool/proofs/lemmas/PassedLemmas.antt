-- Lines of a buffer that have been passed.
use Rattle.std.proofs.Common.{◌≡◌, ◌∙◌, ℕ, ◌+◌, ◌≤◌, List, [], ◌∷◌, ◌++◌, ap, sym, subst, arith, drop, length, append_assoc, length-append, append-nil, refl}
use Rattle.cm_text.specs.Lines.{LineView}
use Rattle.cm_text.specs.Feed.{Feed, StandsFor, with_ready}
use Rattle.cm_text.specs.Lines.{plain_lines_of, lines_of, plain_line}
use Rattle.cm_text.specs.TextLines.{AreTextLines}
use Rattle.std.proofs.lemmas.List.{length-map}
use Rattle.cm_block.specs.declared.parser.BlockParser.{BlockParser}
use Rattle.cm_block.specs.Parser.{HasTaken}
use Rattle.cm_tool.specs.steps.Handing.{Passed, Hands}

pub none_passed : (old : Feed) → Passed old old []
none_passed old = record { same = refl; parts = refl; stands = λ bytes taken h. subst (StandsFor old bytes) (omega arith) h }

-- one more
pub one_passed : (old middle new : Feed) (front : List LineView) (line : LineView) → Passed old middle front → middle.cut.ended ≡ line ∷ drop 1 middle.cut.ended
    → new ≡ with_ready (drop 1 middle.cut.ended) middle
    → ((bytes : List ℕ) (taken : ℕ) → StandsFor middle bytes taken → StandsFor new bytes (taken + 1)) → Passed old new (front ++ line ∷ [])
one_passed old middle new front line so_far first passed stands =
    let rest : new.cut.ended ≡ drop 1 middle.cut.ended = ap (λ (f : Feed). f.cut.ended) passed in
    record {
      same = passed ∙ ap (with_ready (drop 1 middle.cut.ended)) so_far.same ∙ ap (λ t. with_ready t old) (sym rest);
      parts = append_assoc front (line ∷ []) new.cut.ended ∙ ap (λ t. front ++ t) (ap (λ t. line ∷ t) rest ∙ sym first) ∙ so_far.parts;
      stands = λ bytes taken h.
          let same : (taken + length front) + 1 ≡ taken + length (front ++ line ∷ []) = omega (arith, length-append front (line ∷ [])) in
          subst (StandsFor new bytes) same (stands bytes (taken + length front) (so_far.stands bytes taken h));
    }

-- lines of text at once
module _ (old new : Feed) (text : List ℕ) (spaces count : ℕ) (h : AreTextLines text spaces count)
    (first : old.cut.ended ≡ plain_lines_of text ++ drop count old.cut.ended) where
  size : length (plain_lines_of text) ≡ count
  size = length-map (lines_of text) plain_line ∙ sym h.counted

  pub text_within : count ≤ length old.cut.ended
  text_within = omega (arith, ap length first, length-append (plain_lines_of text) (drop count old.cut.ended), size)

  pub text_passed : new ≡ with_ready (drop count old.cut.ended) old
      → ((bytes : List ℕ) (taken : ℕ) → StandsFor old bytes taken → StandsFor new bytes (taken + count)) → Passed old new (plain_lines_of text)
  text_passed passed stands =
      let rest : new.cut.ended ≡ drop count old.cut.ended = ap (λ (f : Feed). f.cut.ended) passed in
      record {
        same = passed ∙ ap (λ t. with_ready t old) (sym rest);
        parts = ap (λ t. plain_lines_of text ++ t) rest ∙ sym first;
        stands = λ bytes taken s. subst (λ n. StandsFor new bytes (taken + n)) (sym size) (stands bytes taken s);
      }

-- some, and then others
pub passed_then : (old middle new : Feed) (front more : List LineView) → Passed old middle front → Passed middle new more → Passed old new (front ++ more)
passed_then old middle new front more before after = record {
  same = after.same ∙ ap (with_ready new.cut.ended) before.same;
  parts = append_assoc front more new.cut.ended ∙ ap (λ t. front ++ t) after.parts ∙ before.parts;
  stands = λ bytes taken h.
      subst (StandsFor new bytes) (omega (arith, length-append front more)) (after.stands bytes (taken + length front) (before.stands bytes taken h));
}

pub hands_then : (old middle new : Feed) (before between after : BlockParser) → Hands old before middle between → Hands middle between new after → Hands old before new after
hands_then old middle new before between after first second = (
  first.0 ++ second.0,
  passed_then old middle new first.0 second.0 first.1 second.1,
  λ lines h. subst (HasTaken after) (append_assoc lines first.0 second.0) (second.2 (lines ++ first.0) (first.2 lines h)),
)

-- all
module _ (old new : Feed) (before after : BlockParser) (hands : Hands old before new after) (none : new.cut.ended ≡ []) where
  front : hands.0 ≡ old.cut.ended
  front = sym (append-nil hands.0) ∙ ap (λ t. hands.0 ++ t) (sym none) ∙ hands.1.parts

  pub all_passed : new ≡ with_ready [] old
  all_passed = hands.1.same ∙ ap (λ t. with_ready t old) none

  pub all_stands : (bytes : List ℕ) (taken : ℕ) → StandsFor old bytes taken → StandsFor new bytes (taken + length old.cut.ended)
  all_stands bytes taken h = subst (λ t. StandsFor new bytes (taken + length t)) front (hands.1.stands bytes taken h)

  pub all_handed : (lines : List LineView) → HasTaken before lines → HasTaken after (lines ++ old.cut.ended)
  all_handed lines h = subst (λ t. HasTaken after (lines ++ t)) front (hands.2 lines h)
