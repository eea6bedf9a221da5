-- What a `]` does to the looks for which items pay.
use Rattle.cm_inline.proofs.lemmas.Words.{◌≡◌, ℕ, ◌+◌, Bool, List, [], ◌∷◌, ◌++◌, ap, ◌∙◌, arith, made, Item, Characters, Opener, emphasis_of, rules, nat_tests}
use Rattle.cm_inline.specs.Emphases.{emphases}
use Rattle.cm_inline.specs.steps.Pairs.{IsOf, AreLooks, Keeps, allowed, allowance}
use Rattle.cm_inline.proofs.lemmas.EmphasisLemmas.{both-hold, made-holds}
use Rattle.cm_inline.proofs.lemmas.AllowanceLemmas.{of-append, of-split, allowance-both, allowance-one}

made-free : (kinds : ℕ) (image : Bool) (dest title : List ℕ) (inside : List Item) → IsOf kinds (made image dest title inside) × (allowed kinds (made image dest title inside) ≡ 0)
made-free kinds image dest title inside = grind (arith, nat_tests)

-- what items pay for is paid for by each in turn
first-pays : (kinds : ℕ) (item : Item) (items : List Item) → allowance kinds (item ∷ items) ≡ allowed kinds item + allowance kinds items
first-pays kinds item items = allowance-both kinds (item ∷ []) items ∙ ap (λ n. n + allowance kinds items) (allowance-one kinds item)

module _ (looks : ℕ) (outside inside : List Item) (image : Bool) (after : List ℕ) where
  abbrev whole : List Item
  whole = outside ++ Opener image after ∷ inside

  -- a link or an image
  pub keeps-link : (dest title : List ℕ) (later : ℕ) → AreLooks looks inside later (emphases (emphasis_of inside)) → Keeps looks whole later (outside ++ made image dest title inside ∷ [])
  keeps-link dest title later w = record {
    are = λ kinds is. (let parts = of-split kinds outside (Opener image after ∷ inside) is in of-append kinds outside (made image dest title inside ∷ []) parts.0 ((made-free kinds image dest title inside).0, tt));
    paid = λ kinds is.
        let parts = of-split kinds outside (Opener image after ∷ inside) is in
        omega (
          arith,
          w.paid kinds parts.1.1,
          allowance-both kinds outside (Opener image after ∷ inside),
          first-pays kinds (Opener image after) inside,
          allowance-both kinds outside (made image dest title inside ∷ []),
          allowance-one kinds (made image dest title inside),
          (made-free kinds image dest title inside).1,
        );
    made = omega (arith, w.made, both-hold outside (Opener image after ∷ inside), both-hold outside (made image dest title inside ∷ []), made-holds image dest title inside);
  }

  -- brackets as text
  pub keeps-text : (opener closer : List ℕ) → Keeps looks whole looks (outside ++ Characters opener ∷ (inside ++ Characters closer ∷ []))
  keeps-text opener closer = record {
    are = λ kinds is.
        let parts = of-split kinds outside (Opener image after ∷ inside) is in
        of-append kinds outside (Characters opener ∷ (inside ++ Characters closer ∷ [])) parts.0 (tt, of-append kinds inside (Characters closer ∷ []) parts.1.1 (tt, tt));
    paid = λ kinds is. omega (
      arith,
      allowance-both kinds outside (Opener image after ∷ inside),
      first-pays kinds (Opener image after) inside,
      allowance-both kinds outside (Characters opener ∷ (inside ++ Characters closer ∷ [])),
      first-pays kinds (Characters opener) (inside ++ Characters closer ∷ []),
      allowance-both kinds inside (Characters closer ∷ []),
      allowance-one kinds (Characters closer),
    );
    made = omega (
      arith,
      both-hold outside (Opener image after ∷ inside),
      both-hold outside (Characters opener ∷ (inside ++ Characters closer ∷ [])),
      both-hold inside (Characters closer ∷ []),
    );
  }

-- a `]` without a bracket
pub keeps-closer : (looks : ℕ) (items : List Item) (text : List ℕ) → Keeps looks items looks (items ++ Characters text ∷ [])
keeps-closer looks items text =
    first_of (search (rules, of-append, allowance-both, allowance-one, both-hold), grind (arith, nat_tests, of-append, allowance-both, allowance-one, both-hold))
