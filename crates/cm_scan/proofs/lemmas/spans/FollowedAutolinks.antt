-- Autolinks whose address the rules follow.
use Rattle.std.proofs.Common.{◌≡◌, ℕ, Bool, true, false, ◌||◌, List, ◌++◌, Option, Some, None, codes, refl, sym, ap, ◌∙◌}
use Rattle.cm_scan.specs.Words.{given}
use Rattle.cm_text.specs.Rules.{Rules}
use Rattle.cm_text.specs.Addresses.{address_scheme, is_web_address, is_followed}
use Rattle.cm_scan.specs.spans.Autolinks.{Autolink, autolink, followed_autolink}
use Rattle.cm_scan.specs.steps.SpanSteps.{link_if_followed}

or-true : (t : Bool) → (t || true) ≡ true
or-true true = refl
or-true false = refl

-- an e-mail address always leads on
pub mail-followed : (rules : Rules) (text : List ℕ) → is_followed rules (codes "mailto:" ++ text) ≡ true
unfolding address_scheme
mail-followed rules text = or-true rules.any_address

module _ (rules : Rules) (text : List ℕ) where
  pub none-followed : autolink text ≡ None → None ≡ followed_autolink rules text
  unfolding followed_autolink
  none-followed e = sym (ap (link_if_followed rules) e)

  module _ (link : Autolink) (found : autolink text ≡ Some link) where
    pub link-followed : is_followed rules link.destination ≡ true → Some link ≡ followed_autolink rules text
    unfolding followed_autolink
    link-followed e = sym (ap (link_if_followed rules) found ∙ ap (λ t. given t link) e)

    pub link-not-followed : is_followed rules link.destination ≡ false → None ≡ followed_autolink rules text
    unfolding followed_autolink
    link-not-followed e = sym (ap (link_if_followed rules) found ∙ ap (λ t. given t link) e)

  -- rules that follow every address
  pub all-followed : rules.any_address ≡ true → followed_autolink rules text ≡ autolink text
  unfolding followed_autolink
  all-followed all = go (autolink text)
    where
      go : (o : Option Autolink) → link_if_followed rules o ≡ o
      go None = refl
      go (Some link) = ap (λ t. given (t || is_web_address link.destination) link) all
