-- Owners of consecutive blank lines.
use Rattle.std.proofs.Common.{◌≡◌, ℕ, zero, suc, Bool, [], ◌∷◌, replicate, sym, ap, ◌∙◌}
use Rattle.std.proofs.lemmas.List.{append_assoc, append-nil}
use Rattle.cm_block.specs.Stack.{Owned, own_lines, blank_owner, own_blanks}

pub blanks_at_once : (in_a_quote : Bool) (n : ℕ) (owned : Owned) → own_lines owned (replicate n (blank_owner in_a_quote)) ≡ own_blanks in_a_quote n owned
unfolding own_blanks
blanks_at_once q zero owned = ap (λ os. record owned { owners = os }) (append-nil owned.owners)
blanks_at_once q (suc n) owned =
    ap (λ os. record owned { owners = os }) (sym (append_assoc owned.owners (blank_owner q ∷ []) (replicate n (blank_owner q))))
    ∙ blanks_at_once q n (own_lines owned (blank_owner q ∷ []))
