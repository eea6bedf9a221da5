-- What the table of definitions has at a folded label.
use Rattle.std.proofs.Common.{◌≡◌, ℕ, Bool, List, [], ◌∷◌, ◌++◌, Option, Some, None, true, false, cond, is_some, refl, ap, sym, ◌∙◌}
use Rattle.std.specs.Str.{bytes_eq}
use Rattle.std.specs.Option.{option_or}
use Rattle.std.proofs.lemmas.Slice.Eq.{bytes_eq-Decides}
use Rattle.cm_text.specs.Labels.{fold_label}
use Rattle.cm_tree.specs.Definitions.{Target, Targets, target_under, add_first, add_all, first_under, FirstCounts}

-- what comes first counts

under-append : (ds es : Targets) (q : List ℕ) → target_under q (ds ++ es) ≡ option_or (target_under q ds) (target_under q es)
under-append [] es q = refl
under-append (d ∷ ds) es q = elim (bytes_eq d.0 q) as (λ b. cond b (Some d.1) (target_under q (ds ++ es)) ≡ option_or (cond b (Some d.1) (target_under q ds)) (target_under q es)) [
  | true ↦ refl
  | false ↦ under-append ds es q
]

unchanged : (b : Bool) (r : Option Target) (v : Target) → (b ≡ true → is_some r ≡ true) → r ≡ option_or r (cond b (Some v) None)
unchanged b (Some w) v h = refl
unchanged true None v h = let e = h refl in cc
unchanged false None v h = refl

or_none : (r : Option Target) → option_or r None ≡ r
or_none (Some w) = refl
or_none None = refl

one_after : (r : Option Target) (b : Bool) (v : Target) (s : Option Target) → option_or (option_or r (cond b (Some v) None)) s ≡ option_or r (cond b (Some v) s)
one_after (Some w) b v s = refl
one_after None true v s = refl
one_after None false v s = refl

under_added : (ds : Targets) (k : List ℕ) (v : Target) (q : List ℕ) → target_under q (add_first ds k v) ≡ option_or (target_under q ds) (cond (bytes_eq k q) (Some v) None)
under_added ds k v q =
    let case : (b : Bool) → is_some (target_under k ds) ≡ b → target_under q (cond b ds (ds ++ (k, v) ∷ [])) ≡ option_or (target_under q ds) (cond (bytes_eq k q) (Some v) None) = elim [
      | true ↦ λ e. unchanged (bytes_eq k q) (target_under q ds) v (λ t. ap (λ p. is_some (target_under p ds)) (sym ((bytes_eq-Decides k q).0 t)) ∙ e)
      | false ↦ λ e. under-append ds ((k, v) ∷ []) q
    ] in case (is_some (target_under k ds)) refl

under_all : (es : List (List ℕ × Target)) (ds : Targets) (q : List ℕ) → target_under q (add_all ds es) ≡ option_or (target_under q ds) (first_under q es)
under_all [] ds q = sym (or_none (target_under q ds))
under_all (e ∷ es) ds q = under_all es (add_first ds (fold_label e.0) e.1) q
    ∙ ap (λ r. option_or r (first_under q es)) (under_added ds (fold_label e.0) e.1 q)
    ∙ one_after (target_under q ds) (bytes_eq (fold_label e.0) q) e.1 (first_under q es)

pub first_counts : FirstCounts
first_counts ds label = under_all ds [] (fold_label label)
