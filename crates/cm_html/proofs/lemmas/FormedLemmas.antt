-- What is found among formed texts, and one more of them.
use Rattle.std.proofs.Common.{◌≡◌, ℕ, Bool, List, [], ◌∷◌, Some, true, false, cond, refl, ap, sym, subst, ◌∙◌}
use Rattle.std.specs.Prelude.{Result, Ok, Err, MatchResult, IfOk}
use Rattle.std.specs.Map.{lookup}
use Rattle.std.specs.BTreeMap.{is_at, insert_entry}
use Rattle.std.specs.Ordering.{nat_cmp, is_eq, match_ordering, ordering_then}
use Rattle.std.specs.declared.cmp.Ordering.{Ordering}
use Rattle.std.specs.declared.cmp.Ordering.TheVariants.{Less, Equal, Greater}
use Rattle.std.specs.Cmp.Lexicographic.{slice_cmp}
use Rattle.std.specs.FinMap.{slice_cmp-IsAntisymmetric, nat_cmp-IsAntisymmetric}
use Rattle.cm_html.specs.declared.forms.Form.{Form}
use Rattle.cm_html.specs.declared.forms.Form.TheVariants.{Destination, Escaped, Quoted, Json}
use Rattle.cm_html.specs.Forms.{formed}
use Rattle.cm_html.specs.steps.FormedTexts.{Key, number_of, IsFormed, AreFormed, key_cmp}

equal_of : (o : Ordering) → is_eq o ≡ true → o ≡ Equal
equal_of Equal h = refl
equal_of Less h = cc
equal_of Greater h = cc

both_equal : (a b : Ordering) → ordering_then a b ≡ Equal → (a ≡ Equal) × (b ≡ Equal)
both_equal Less b h = cc
both_equal Equal b h = (refl, h)
both_equal Greater b h = cc

-- keys that the map takes for one are one
same_key : (j k : Key) → key_cmp j k ≡ Equal → j ≡ k
same_key j k tie =
    let parts = both_equal (nat_cmp j.0 k.0) (slice_cmp nat_cmp j.1 k.1) tie in
    let number : j.0 ≡ k.0 = nat_cmp-IsAntisymmetric j.0 k.0 parts.0 in
    let text : j.1 ≡ k.1 = slice_cmp-IsAntisymmetric nat_cmp-IsAntisymmetric j.1 k.1 parts.1 in
    λ i. (number i, text i)

found_by_test : (b : Bool) (e : Key × List ℕ) (es : List (Key × List ℕ)) (k : Key) (made : List ℕ) → is_eq (key_cmp k e.0) ≡ b → IsFormed e.0 e.1
    → cond b (Some e.1) (lookup (is_at (key_cmp k)) es) ≡ Some made → (lookup (is_at (key_cmp k)) es ≡ Some made → IsFormed k made) → IsFormed k made
found_by_test true e es k made there formed found rest =
    let here : e.1 ≡ made = cc in
    subst (λ j. IsFormed j made) (sym (same_key k e.0 (equal_of _ there))) (subst (IsFormed e.0) here formed)
found_by_test false e es k made there formed found rest = rest found

-- what is found under a key is the text of the key, formed
pub found_is_formed : (es : List (Key × List ℕ)) (k : Key) (made : List ℕ) → AreFormed es → lookup (is_at (key_cmp k)) es ≡ Some made → IsFormed k made
found_is_formed [] k made formed found = cc
found_is_formed (e ∷ es) k made formed found =
    found_by_test (is_eq (key_cmp k e.0)) e es k made refl formed.0 found (found_is_formed es k made formed.1)

-- one more
pub stay_formed : (es : List (Key × List ℕ)) (k : Key) (made : List ℕ) → AreFormed es → IsFormed k made → AreFormed (insert_entry key_cmp es k made)
stay_formed [] k made formed one = (one, tt)
stay_formed (e ∷ es) k made formed one =
    elim (key_cmp k e.0) as (λ o. key_cmp k e.0 ≡ o → AreFormed (match_ordering o ((k, made) ∷ e ∷ es) ((e.0, made) ∷ es) (e ∷ insert_entry key_cmp es k made))) [
      | Less ↦ λ o. (one, formed)
      | Equal ↦ λ o. (subst (λ j. IsFormed j made) (same_key k e.0 o) one, formed.1)
      | Greater ↦ λ o. (formed.0, stay_formed es k made formed.1 one)
    ] refl

same_form : (f g : Form) → number_of f ≡ number_of g → f ≡ g
same_form Destination Destination h = refl
same_form Destination Escaped h = cc
same_form Destination Quoted h = cc
same_form Destination Json h = cc
same_form Escaped Destination h = cc
same_form Escaped Escaped h = refl
same_form Escaped Quoted h = cc
same_form Escaped Json h = cc
same_form Quoted Destination h = cc
same_form Quoted Escaped h = cc
same_form Quoted Quoted h = refl
same_form Quoted Json h = cc
same_form Json Destination h = cc
same_form Json Escaped h = cc
same_form Json Quoted h = cc
same_form Json Json h = refl

-- a text that was made in this form
pub is_formed : (form : Form) (number : ℕ) (text key_text made : List ℕ) → number ≡ number_of form → key_text ≡ text → made ≡ formed form text → IsFormed (number, key_text) made
is_formed form number text key_text made numbered same is = λ other at.
    is ∙ ap (formed form) (sym same) ∙ ap (λ f. formed f key_text) (same_form form other (sym (at ∙ numbered)))

pub copied : {E : Type 0} (r : Result (List ℕ) E) (there wanted : List ℕ) (Q : E → Type 0) → MatchResult r (λ copy. copy ≡ there) Q → there ≡ wanted → IfOk r (λ copy. copy ≡ wanted)
copied (Ok copy) there wanted Q same is = same ∙ is
copied (Err e) there wanted Q same is = tt
