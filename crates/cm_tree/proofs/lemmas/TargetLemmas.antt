-- Texts that go on, and a target that the profile follows.
use Rattle.std.proofs.Common.{◌≡◌, ℕ, List, [], ◌++◌, length, take, Option, Some, None, refl, sym, ap, subst, ◌∙◌, append_assoc}
use Rattle.std.specs.Str.{IsUtf8, IsCharBoundary}
use Rattle.std.proofs.lemmas.List.{append-nil, take_at}
use Rattle.std.proofs.lemmas.Str.{IsUtf8-nil, IsUtf8-append, IsCharBoundary-at_seam}
use Rattle.cm_text.specs.Rules.{profile}
use Rattle.cm_tree.specs.Definitions.{Target, target_if_followed}
use Rattle.cm_tree.specs.RawBlocks.{IsBetween}
use Rattle.cm_tree.specs.steps.KeptTexts.{GoesOn}
use Rattle.cm_tree.proofs.lemmas.RawLemmas.{boundary-grows}

pub goes-on : (old more new : List ℕ) → new ≡ old ++ more → IsUtf8 more → GoesOn old new
goes-on old more new is utf8 = record { more = more; utf8 = utf8; is = is }

pub same-goes-on : (old new : List ℕ) → new ≡ old → GoesOn old new
same-goes-on old new same = goes-on old [] new (same ∙ sym (append-nil old)) IsUtf8-nil

pub goes-on-more : (old new newer : List ℕ) → GoesOn old new → GoesOn new newer → GoesOn old newer
goes-on-more old new newer one two =
    goes-on old (one.more ++ two.more) newer (two.is ∙ ap (λ t. t ++ two.more) one.is ∙ append_assoc old one.more two.more) (IsUtf8-append one.more two.more one.utf8 two.utf8)

pub between-grows : (old new : List ℕ) (from to : ℕ) → GoesOn old new → IsBetween old from to → IsBetween new from to
between-grows old new from to grows between =
    (between.0, boundary-grows old grows.more new from grows.is grows.utf8 between.1, boundary-grows old grows.more new to grows.is grows.utf8 between.2)

-- where the rest starts

pub seam : (old new : List ℕ) (n : ℕ) → length old ≡ n → GoesOn old new → IsCharBoundary new n
seam old new n at grows = subst (IsCharBoundary new) at (IsCharBoundary-at_seam new old grows.more grows.is grows.utf8)

pub cut-back : (old new : List ℕ) (n : ℕ) → length old ≡ n → GoesOn old new → take n new ≡ old
cut-back old new n at grows = ap (take n) grows.is ∙ ap (λ k. take k (old ++ grows.more)) (sym at) ∙ take_at old grows.more (length old) refl

-- with the profile each address is followed
pub any_target : (target : Option Target) → target_if_followed profile target ≡ target
any_target None = refl
any_target (Some target) = refl
