-- Three pieces written one after another.
use Rattle.std.proofs.Common.{◌≡◌, ℕ, List, ◌++◌, Result, OnOk, ap, ◌∙◌, append_assoc}
use Rattle.std.specs.Prelude.{Ok, Err}

pub enclosed : {T E : Type 0} (r : Result T E) (old start middle end one two new : List ℕ) → one ≡ old ++ start → two ≡ one ++ middle → OnOk r (new ≡ two ++ end) → OnOk r (new ≡ old ++ (start ++ middle ++ end))
enclosed (Ok x) old start middle end one two new e f g = g ∙ ap (λ t. t ++ end) (f ∙ ap (λ t. t ++ middle) e ∙ append_assoc old start middle) ∙ append_assoc old (start ++ middle) end
enclosed (Err x) old start middle end one two new e f g = tt
