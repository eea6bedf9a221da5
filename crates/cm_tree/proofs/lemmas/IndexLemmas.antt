-- How an entry is found by its label, and what one entry more changes.
use Rattle.std.proofs.Common.{◌≡◌, ◌≢◌, ℕ, suc, ◌+◌, ◌-◌, ◌<◌, ◌≤◌, List, [], ◌∷◌, ◌++◌, length, get_or, take, IfSome, IsSome, bit_and, Option, Some, None, Bool, true, false, cond, refl, sym, ap, subst, ◌∙◌, arith, ◌⊎◌, inl, inr}
use Rattle.std.specs.Str.{bytes_eq}
use Rattle.std.proofs.lemmas.Bool.{cases_eq, cases_lt, cond-true, cond-false, false_from_ne_true}
use Rattle.std.proofs.lemmas.List.{length_push, get_or_push, get_or_append_left, get_or-set_same, get_or-set_other, length-set, take_more, length-take-le, get_or-take}
use Rattle.std.proofs.lemmas.Slice.Eq.{bytes_eq-Decides}
use Rattle.cm_tree.specs.declared.label_index.LabelIndex.{LabelIndex}
use Rattle.cm_tree.specs.steps.LabelIndex.{near, hash_of, home, crowded, IsReached, IsFound, IsLabel, IsFull, HasNoSlot, IsIndex, AreDistinct, IsNew, GoesInSlot, GoesInTree, GoesIn, IsSame, IsThere, IsPassed}

some-not-none : (i : ℕ) (r : Option ℕ) → r ≡ Some i → r ≡ None → ⊥
some-not-none i r s n = let wrong : Some i ≡ None = sym s ∙ n in cc

-- a label that was neither met in its slots nor in the tree isn't there
pub absent : (index : LabelIndex) (labels : List (List ℕ)) (label : List ℕ) → IsIndex index labels
    → IsPassed index.slots.items (home index.slots.items (hash_of label)) labels label → crowded index label ≡ None → IsNew labels label
absent index labels label is passed none entry within same = elim (is.found entry within) [
  | inl reached ↦ passed entry within (subst (λ l. IsReached index.slots.items (home index.slots.items (hash_of l)) entry) same reached) same
  | inr there ↦ some-not-none entry (crowded index label) (subst (λ l. crowded index l ≡ Some entry) same there) none
]

-- one label more

module _ (labels : List (List ℕ)) (label : List ℕ) where
  pub label-before : (entry : ℕ) → entry < length labels → get_or (labels ++ label ∷ []) entry [] ≡ get_or labels entry []
  label-before entry within = get_or_append_left labels (label ∷ []) [] entry within

  pub label-last : (entry : ℕ) → entry ≡ length labels → get_or (labels ++ label ∷ []) entry [] ≡ label
  label-last entry at = get_or_push labels label [] entry (sym at)

  more : length (labels ++ label ∷ []) ≡ length labels + 1
  more = length_push labels label

  -- a label is one of those before, or the last one
  pub each : (P : ℕ → Type 0) → ((entry : ℕ) → entry < length labels → P entry) → P (length labels) → (entry : ℕ) → entry < length (labels ++ label ∷ []) → P entry
  each P before last entry within = elim (cases_lt entry (length labels)) [
    | inl l ↦ before entry l
    | inr g ↦ let l : entry < length labels + 1 = subst (λ n. entry < n) more within in
        let same : length labels ≡ entry = omega arith in subst P same last
  ]

  pub still-label : (entry : ℕ) (l : List ℕ) → IsLabel labels entry l → IsLabel (labels ++ label ∷ []) entry l
  still-label entry l is = ((let m = more in omega arith), label-before entry is.0 ∙ is.1)

  pub distinct-more : AreDistinct labels → IsNew labels label → AreDistinct (labels ++ label ∷ [])
  distinct-more distinct new i j less within = elim (cases_lt j (length labels)) [
    | inl l ↦ λ same. let k : i < length labels = omega arith in distinct i j less l (sym (label-before i k) ∙ same ∙ label-before j l)
    | inr g ↦ λ same. let m = more in let at : j ≡ length labels = omega arith in
        let k : i < length labels = omega arith in new i k (sym (label-before i k) ∙ same ∙ label-last j at)
  ]

-- one entry more in the index

module _ (old new : LabelIndex) (labels : List (List ℕ)) (label : List ℕ) (is : IsIndex old labels) (absent : IsNew labels label) where
  slot-set : (put : GoesInSlot old new label (length labels)) (s : ℕ) → s ≢ put.slot → get_or new.slots.items s 0 ≡ get_or old.slots.items s 0
  slot-set put s ne = ap (λ ss. get_or ss s 0) put.is ∙ get_or-set_other old.slots.items put.slot s (suc (length labels)) 0 ne

  slot-put : (put : GoesInSlot old new label (length labels)) → get_or new.slots.items put.slot 0 ≡ suc (length labels)
  slot-put put = ap (λ ss. get_or ss put.slot 0) put.is ∙ get_or-set_same old.slots.items put.slot (suc (length labels)) 0 put.free.within

  home-same : (put : GoesInSlot old new label (length labels)) (hash : ℕ) → home new.slots.items hash ≡ home old.slots.items hash
  home-same put hash = ap (λ ss. home ss hash) put.is ∙ ap (λ n. bit_and hash (n - near)) (length-set old.slots.items put.slot (suc (length labels)))

  -- a slot that isn't free stays so
  slot-stays : (put : GoesInSlot old new label (length labels)) (s : ℕ) → get_or old.slots.items s 0 ≢ 0 → get_or new.slots.items s 0 ≡ get_or old.slots.items s 0
  slot-stays put s used = slot-set put s (λ same. used (ap (λ t. get_or old.slots.items t 0) same ∙ put.free.free))

  reached-still : (put : GoesInSlot old new label (length labels)) (hash entry : ℕ) → IsReached old.slots.items (home old.slots.items hash) entry
      → IsReached new.slots.items (home new.slots.items hash) entry
  reached-still put hash entry r = subst (λ h. IsReached new.slots.items h entry) (sym (home-same put hash)) (record {
    slot = r.slot;
    from = r.from;
    to = r.to;
    is = slot-stays put r.slot (λ free. let wrong : suc entry ≡ 0 = sym r.is ∙ free in cc) ∙ r.is;
    passed = λ s f l free. r.passed s f l (sym (slot-stays put s (r.passed s f l)) ∙ free);
  })

  reached-now : (put : GoesInSlot old new label (length labels)) → IsReached new.slots.items (home new.slots.items (hash_of label)) (length labels)
  reached-now put = subst (λ h. IsReached new.slots.items h (length labels)) (sym (home-same put (hash_of label))) (record {
    slot = put.slot;
    from = put.free.from;
    to = put.free.to;
    is = slot-put put;
    passed = λ s f l free. put.free.passed s f l (sym (slot-set put s (λ same. omega arith)) ∙ free);
  })

  full-still : (put : GoesInSlot old new label (length labels)) (hash : ℕ) → IsFull old.slots.items (home old.slots.items hash) → IsFull new.slots.items (home new.slots.items hash)
  full-still put hash full = subst (IsFull new.slots.items) (sym (home-same put hash)) (λ s from to within free.
      let used = full s from to (let same = ap length put.is in let kept = length-set old.slots.items put.slot (suc (length labels)) in omega arith) in
      used (sym (slot-stays put s used) ∙ free))

  in-slot : GoesInSlot old new label (length labels) → IsIndex new (labels ++ label ∷ [])
  in-slot put = record {
    named = λ s. let m = length_push labels label in elim (cases_eq s put.slot) [
      | inl same ↦ let it = ap (λ t. get_or new.slots.items t 0) same ∙ slot-put put in omega arith
      | inr ne ↦ let it = slot-set put s ne in let le = is.named s in omega arith
    ];
    apart = λ l entry there. still-label labels label entry l (is.apart l entry (sym (put.same l) ∙ there));
    full = λ l entry there. elim (is.full l entry (sym (put.same l) ∙ there)) [
      | inl full ↦ inl (full-still put (hash_of l) full)
      | inr large ↦ inr large
    ];
    found = each labels label (λ entry. IsFound new entry (get_or (labels ++ label ∷ []) entry []))
        (λ entry within. subst (IsFound new entry) (sym (label-before labels label entry within)) (elim (is.found entry within) [
          | inl r ↦ inl (reached-still put (hash_of (get_or labels entry [])) entry r)
          | inr there ↦ inr (put.same (get_or labels entry []) ∙ there)
        ]))
        (subst (IsFound new (length labels)) (sym (label-last labels label (length labels) refl)) (inl (reached-now put)));
  }

  crowded-other : (put : GoesInTree old new label (length labels)) (l : List ℕ) → (label ≡ l → ⊥) → crowded new l ≡ crowded old l
  crowded-other put l ne = put.put.is l ∙ cond-false _ _ _ (false_from_ne_true _ (λ t. ne ((bytes_eq-Decides label l).0 t)))

  crowded-put : (put : GoesInTree old new label (length labels)) (l : List ℕ) → label ≡ l → crowded new l ≡ Some (length labels)
  crowded-put put l same = put.put.is l ∙ cond-true _ _ _ ((bytes_eq-Decides label l).1 same)

  in-tree : GoesInTree old new label (length labels) → IsIndex new (labels ++ label ∷ [])
  in-tree put = record {
    named = λ s. let m = length_push labels label in let it = ap (λ ss. get_or ss s 0) put.same in let le = is.named s in omega arith;
    apart = λ l entry there. by_label l entry there (Decides-cases label l);
    full = λ l entry there. subst (λ ss. HasNoSlot ss l entry) (sym put.same) (no-slot l entry there (Decides-cases label l));
    found = each labels label (λ entry. IsFound new entry (get_or (labels ++ label ∷ []) entry []))
        (λ entry within. subst (IsFound new entry) (sym (label-before labels label entry within)) (elim (is.found entry within) [
          | inl r ↦ inl (subst (λ ss. IsReached ss (home ss (hash_of (get_or labels entry []))) entry) (sym put.same) r)
          | inr there ↦ inr (crowded-other put (get_or labels entry []) (λ same. absent entry within (sym same)) ∙ there)
        ]))
        (subst (IsFound new (length labels)) (sym (label-last labels label (length labels) refl)) (inr (crowded-put put label refl)));
  }
    where
      Decides-cases : (a b : List ℕ) → (a ≡ b) ⊎ (a ≡ b → ⊥)
      Decides-cases a b = elim (bytes_eq a b) as (λ r. bytes_eq a b ≡ r → (a ≡ b) ⊎ (a ≡ b → ⊥)) [
        | true ↦ λ t. inl ((bytes_eq-Decides a b).0 t)
        | false ↦ λ f. inr (λ same. let wrong : true ≡ false = sym ((bytes_eq-Decides a b).1 same) ∙ f in cc)
      ] refl

      by_label : (l : List ℕ) (entry : ℕ) → crowded new l ≡ Some entry → (label ≡ l) ⊎ (label ≡ l → ⊥) → IsLabel (labels ++ label ∷ []) entry l
      by_label l entry there (inl same) =
          let at : length labels ≡ entry = ap (elim [ Some n ↦ n | None ↦ 0 ]) (sym (crowded-put put l same) ∙ there) in
          let m = length_push labels label in
          ((omega arith), label-last labels label entry (sym at) ∙ same)
      by_label l entry there (inr ne) = still-label labels label entry l (is.apart l entry (sym (crowded-other put l ne) ∙ there))

      no-slot : (l : List ℕ) (entry : ℕ) → crowded new l ≡ Some entry → (label ≡ l) ⊎ (label ≡ l → ⊥) → HasNoSlot old.slots.items l entry
      no-slot l entry there (inl same) =
          let at : length labels ≡ entry = ap (elim [ Some n ↦ n | None ↦ 0 ]) (sym (crowded-put put l same) ∙ there) in
          subst (λ n. HasNoSlot old.slots.items l n) at (subst (λ k. HasNoSlot old.slots.items k (length labels)) same put.full)
      no-slot l entry there (inr ne) = is.full l entry (sym (crowded-other put l ne) ∙ there)

  pub put-index : GoesIn old new label (length labels) → IsIndex new (labels ++ label ∷ [])
  put-index (inl put) = in-slot put
  put-index (inr put) = in-tree put

pub same-index : (old new : LabelIndex) (labels : List (List ℕ)) → IsSame old new → IsIndex old labels → IsIndex new labels
same-index old new labels same is = record {
  named = λ s. subst (λ ss. get_or ss s 0 ≤ length labels) (sym same.same) (is.named s);
  apart = λ l entry there. is.apart l entry (sym (same.is l) ∙ there);
  full = λ l entry there. subst (λ ss. HasNoSlot ss l entry) (sym same.same) (is.full l entry (sym (same.is l) ∙ there));
  found = λ entry within. elim (is.found entry within) [
    | inl r ↦ inl (subst (λ ss. IsReached ss (home ss (hash_of (get_or labels entry []))) entry) (sym same.same) r)
    | inr there ↦ inr (same.is (get_or labels entry []) ∙ there)
  ];
}

-- an entry that the tree has is one of the entries
pub tree-there : (index : LabelIndex) (labels : List (List ℕ)) (label : List ℕ) (found : Option ℕ) → IsIndex index labels → found ≡ crowded index label
    → IfSome found (λ entry. IsLabel labels entry label)
tree-there index labels label None is e = tt
tree-there index labels label (Some entry) is e = is.apart label entry (sym e)

pub some-there : (index : LabelIndex) (labels : List (List ℕ)) (label : List ℕ) (found : Option ℕ) → IsIndex index labels → found ≡ crowded index label → IsSome found
    → (P : Type 0) → ((entry : ℕ) → IsLabel labels entry label → P) → P
some-there index labels label (Some entry) is e some P then = then entry (is.apart label entry (sym e))
some-there index labels label None is e some P then = cc

-- a label that was neither met in its slots nor in the tree, where it goes in

pub goes-in-new : (old new : LabelIndex) (labels : List (List ℕ)) (label : List ℕ) → IsIndex old labels
    → IsPassed old.slots.items (home old.slots.items (hash_of label)) labels label → GoesIn old new label (length labels) → IsNew labels label
goes-in-new old new labels label is passed (inr put) = absent old labels label is passed put.put.absent
goes-in-new old new labels label is passed (inl put) = λ entry within same. elim (is.found entry within) [
  | inl reached ↦ passed entry within (subst (λ l. IsReached old.slots.items (home old.slots.items (hash_of l)) entry) same reached) same
  | inr there ↦ elim (is.full label entry (subst (λ l. crowded old l ≡ Some entry) same there)) [
    | inl full ↦ full put.slot put.free.from put.free.to put.free.within put.free.free
    | inr large ↦ absurd (let small = put.small in omega arith)
  ]
]

-- a label of the tree that is put there again with what it had

module _ (old once twice : LabelIndex) (label : List ℕ) (entry : ℕ) (put : (l : List ℕ) → crowded once l ≡ cond (bytes_eq label l) (Some entry) (crowded old l)) where
  pub put-there : crowded once label ≡ Some entry
  put-there = put label ∙ cond-true _ _ _ ((bytes_eq-Decides label label).1 refl)

  pub put-back : (first : ℕ) → crowded old label ≡ Some first → ((l : List ℕ) → crowded twice l ≡ cond (bytes_eq label l) (Some first) (crowded once l))
      → (l : List ℕ) → crowded twice l ≡ crowded old l
  put-back first was again l = again l ∙ elim (bytes_eq label l) as (λ b. bytes_eq label l ≡ b → cond b (Some first) (crowded once l) ≡ crowded old l) [
    | true ↦ λ t. sym was ∙ ap (crowded old) ((bytes_eq-Decides label l).0 t)
    | false ↦ λ f. put l ∙ cond-false _ _ _ f
  ] refl

-- the labels so far, and the next one

module _ (old new : LabelIndex) (labels : List (List ℕ)) (at : ℕ) (label : List ℕ) (within : at < length labels) (distinct : AreDistinct labels) (is : label ≡ get_or labels at [])
    (before : IsIndex old (take at labels)) where
  count : length (take at labels) ≡ at
  count = length-take-le at labels (omega arith)

  new-label : IsNew (take at labels) label
  new-label entry less same = let low : entry < at = let all = count in omega arith in distinct entry at low within (sym (get_or-take at labels entry [] low) ∙ same ∙ is)

  pub index-more : (added : Bool) → (added ≡ true → GoesIn old new label at) → (added ≡ false → IsThere old new label) → IsIndex new (take (at + 1) labels)
  index-more true put there = subst (IsIndex new) (ap (λ l. take at labels ++ l ∷ []) is ∙ sym (take_more labels at [] within))
      (put-index old new (take at labels) label before new-label (subst (GoesIn old new label) (sym count) (put refl)))
  index-more false put there =
      some-there old (take at labels) label (crowded old label) before refl (there refl).there _ (λ entry it. absurd (new-label entry it.0 it.1))
