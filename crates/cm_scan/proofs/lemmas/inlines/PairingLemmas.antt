-- Laws of repeated pairing.
use Rattle.std.proofs.Common.{◌≡◌, ℕ, zero, suc, ◌-◌, ◌<◌, ◌≤◌, Bool, true, false, cond, ◌&&◌, List, [], ◌∷◌, ◌++◌, reverse, sum_by, Option, Some, None, refl, sym, ap, subst, ◌∙◌, arith, append_assoc, append-nil, nat_le, zero-add}
use Rattle.std.proofs.lemmas.Grind.{reverse_onto}
use Rattle.std.proofs.lemmas.Option.{none-some, same_Some}
use Rattle.std.proofs.lemmas.Bool.{cond-true, cond-false, leb-false}
use Rattle.std.proofs.lemmas.List.Sums.{sum_by-append, sum_by-cons}
use Rattle.cm_scan.specs.inlines.Delimiters.{Run, delimiters_match}
use Rattle.cm_scan.specs.inlines.Pairing.{Item, Characters, Finished, Linked, Delimiters, Opener, Opened, nearest_opener, pair_leftmost, pair_once, pairs_within, pair_all, paired, room, used, emphasised, settled, without}

pub reverse-first : {A : Type 0} (c : A) (front before : List A) → reverse (c ∷ front) ++ before ≡ reverse front ++ c ∷ before
reverse-first c front before = ap (λ l. l ++ before) (reverse_onto front c []) ∙ append_assoc (reverse front) (c ∷ []) before

-- what a search finds at a run
abbrev pub opened_at : Run → List Item → List Item → Opened
opened_at run before inside = record { before = reverse before; opener = run; inside = inside }

-- the nearest opener, one run at a time
pub nearest-found : (c r : Run) (before inside : List Item) → (r.opens && delimiters_match c r) ≡ true → nearest_opener c (Delimiters r ∷ before) inside ≡ Some (opened_at r before inside)
unfolding nearest_opener
nearest-found c r before inside e = ap (λ (b : Bool). elim b as (λ _. Option Opened) [ true ↦ Some (opened_at r before inside) | false ↦ nearest_opener c before (Delimiters r ∷ inside) ]) e

pub nearest-passes : (c r : Run) (before inside : List Item) → (r.opens && delimiters_match c r) ≡ false → nearest_opener c (Delimiters r ∷ before) inside ≡ nearest_opener c before (Delimiters r ∷ inside)
unfolding nearest_opener
nearest-passes c r before inside e = ap (λ (b : Bool). elim b as (λ _. Option Opened) [ true ↦ Some (opened_at r before inside) | false ↦ nearest_opener c before (Delimiters r ∷ inside) ]) e

-- what the search takes apart is what it was given
abbrev pub together : Opened → List Item
together found = found.before ++ Delimiters found.opener ∷ found.inside

pub nearest-splits : (c : Run) (before inside : List Item) (found : Opened) → nearest_opener c before inside ≡ Some found → reverse before ++ inside ≡ together found
unfolding nearest_opener
nearest-splits c [] inside found e = absurd (none-some found e)
nearest-splits c (Characters t ∷ before) inside found e = reverse-first (Characters t) before inside ∙ nearest-splits c before (Characters t ∷ inside) found e
nearest-splits c (Finished i ∷ before) inside found e = reverse-first (Finished i) before inside ∙ nearest-splits c before (Finished i ∷ inside) found e
nearest-splits c (Linked i ∷ before) inside found e = reverse-first (Linked i) before inside ∙ nearest-splits c before (Linked i ∷ inside) found e
nearest-splits c (Opener b n ∷ before) inside found e = reverse-first (Opener b n) before inside ∙ nearest-splits c before (Opener b n ∷ inside) found e
nearest-splits c (Delimiters r ∷ before) inside found e = reverse-first (Delimiters r) before inside ∙ go (r.opens && delimiters_match c r) refl (λ h. nearest-splits c before (Delimiters r ∷ inside) found h)
  where
    go : (b : Bool) → (r.opens && delimiters_match c r) ≡ b → (nearest_opener c before (Delimiters r ∷ inside) ≡ Some found → reverse before ++ Delimiters r ∷ inside ≡ together found) → reverse before ++ Delimiters r ∷ inside ≡ together found
    go true h further = ap together (same_Some (opened_at r before inside) found (sym (nearest-found c r before inside h) ∙ e))
    go false h further = further (sym (nearest-passes c r before inside h) ∙ e)

-- the pair of an opener that was found
abbrev pub pair_of : Opened → Run → List Item → List Item
pair_of found r after = paired found.before found.opener found.inside r after

abbrev pub pair_or_go_on : List Item → Run → List Item → Option Opened → Option (List Item)
pair_or_go_on before r after o = elim o as (λ _. Option (List Item)) [ Some found ↦ Some (pair_of found r after) | None ↦ pair_leftmost (Delimiters r ∷ before) after ]

-- the leftmost closer with an opener, one run at a time
pub leftmost-no_closer : (r : Run) (before after : List Item) → r.closes ≡ false → pair_leftmost before (Delimiters r ∷ after) ≡ pair_leftmost (Delimiters r ∷ before) after
unfolding pair_leftmost
leftmost-no_closer r before after e = ap (λ (b : Bool). elim b as (λ _. Option (List Item)) [ true ↦ pair_or_go_on before r after (nearest_opener r before []) | false ↦ pair_leftmost (Delimiters r ∷ before) after ]) e

leftmost-closer : (r : Run) (before after : List Item) (o : Option Opened) → r.closes ≡ true → nearest_opener r before [] ≡ o → pair_leftmost before (Delimiters r ∷ after) ≡ pair_or_go_on before r after o
unfolding pair_leftmost
leftmost-closer r before after o h e =
    ap (λ (b : Bool). elim b as (λ _. Option (List Item)) [ true ↦ pair_or_go_on before r after (nearest_opener r before []) | false ↦ pair_leftmost (Delimiters r ∷ before) after ]) h
    ∙ ap (pair_or_go_on before r after) e

pub leftmost-no_opener : (r : Run) (before after : List Item) → nearest_opener r before [] ≡ None → pair_leftmost before (Delimiters r ∷ after) ≡ pair_leftmost (Delimiters r ∷ before) after
leftmost-no_opener r before after e = go r.closes refl
  where
    go : (b : Bool) → r.closes ≡ b → pair_leftmost before (Delimiters r ∷ after) ≡ pair_leftmost (Delimiters r ∷ before) after
    go false h = leftmost-no_closer r before after h
    go true h = leftmost-closer r before after None h e

pub leftmost-pairs : (r : Run) (before after : List Item) (found : Opened) → r.closes ≡ true → nearest_opener r before [] ≡ Some found → pair_leftmost before (Delimiters r ∷ after) ≡ Some (pair_of found r after)
leftmost-pairs r before after found h e = leftmost-closer r before after (Some found) h e

-- a run from which a character or more is taken counts for less
pub without-room : (n : ℕ) (r : Run) → 1 ≤ n → sum_by room (without n r) < room (Delimiters r)
without-room n r p = go (nat_le r.left n) refl
  where
    rest : List Item
    rest = Delimiters (record r { left = r.left - n }) ∷ []

    go : (b : Bool) → nat_le r.left n ≡ b → sum_by room (without n r) < room (Delimiters r)
    go true e = subst (λ l. sum_by room l < suc r.left) (sym (cond-true (nat_le r.left n) [] rest e)) (omega arith)
    go false e =
        let h : n < r.left = leb-false r.left n e in
        subst (λ l. sum_by room l < suc r.left) (sym (cond-false (nat_le r.left n) [] rest e)) (omega arith)

pub used-some : (o c : Run) → 1 ≤ used o c
used-some o c = one_or_two (nat_le 2 o.left && nat_le 2 c.left)
  where
    one_or_two : (b : Bool) → 1 ≤ cond b 2 1
    one_or_two true = omega arith
    one_or_two false = omega arith

-- a pair that is made counts for less than what it is made of
fewer : {A : Type 0} (f : A → ℕ) (before : List A) (o : A) (inside : List A) (c : A) (after new_o new_c : List A) → sum_by f new_o < f o → sum_by f new_c < f c →
    sum_by f (before ++ new_o ++ new_c ++ after) < sum_by f (before ++ o ∷ inside ++ c ∷ after)
fewer f before o inside c after new_o new_c p q =
    omega (
      arith,
      sum_by-append f (before ++ new_o ++ new_c) after,
      sum_by-append f (before ++ new_o) new_c,
      sum_by-append f before new_o,
      sum_by-append f (before ++ o ∷ inside) (c ∷ after),
      sum_by-append f before (o ∷ inside),
      sum_by-cons f o inside,
      sum_by-cons f c after,
    )

pub paired-room : (before : List Item) (o : Run) (inside : List Item) (c : Run) (after : List Item) →
    sum_by room (paired before o inside c after) < sum_by room (before ++ Delimiters o ∷ inside ++ Delimiters c ∷ after)
unfolding paired
paired-room before o inside c after =
    let n = used o c in
    let e = Finished (emphasised c.character n (settled inside)) in
    fewer room before (Delimiters o) inside (Delimiters c) after (without n o) (e ∷ without n c)
    (without-room n o (used-some o c))
    (subst (λ k. k < room (Delimiters c)) (sym (sum_by-cons room e (without n c) ∙ zero-add (sum_by room (without n c)))) (without-room n c (used-some o c)))

-- the opener that a search finds fits the closer
nearest-fits : (c : Run) (before inside : List Item) (found : Opened) → nearest_opener c before inside ≡ Some found
    → (found.opener.opens && delimiters_match c found.opener) ≡ true
unfolding nearest_opener
nearest-fits c [] inside found e = absurd (none-some found e)
nearest-fits c (Characters t ∷ before) inside found e = nearest-fits c before (Characters t ∷ inside) found e
nearest-fits c (Finished i ∷ before) inside found e = nearest-fits c before (Finished i ∷ inside) found e
nearest-fits c (Linked i ∷ before) inside found e = nearest-fits c before (Linked i ∷ inside) found e
nearest-fits c (Opener b n ∷ before) inside found e = nearest-fits c before (Opener b n ∷ inside) found e
nearest-fits c (Delimiters r ∷ before) inside found e =
    go (r.opens && delimiters_match c r) refl (λ h. nearest-fits c before (Delimiters r ∷ inside) found h)
  where
    go : (b : Bool) → (r.opens && delimiters_match c r) ≡ b
        → (nearest_opener c before (Delimiters r ∷ inside) ≡ Some found → (found.opener.opens && delimiters_match c found.opener) ≡ true)
        → (found.opener.opens && delimiters_match c found.opener) ≡ true
    go true h further =
        let same = same_Some (opened_at r before inside) found (sym (nearest-found c r before inside h) ∙ e) in
        ap (λ (o : Opened). o.opener.opens && delimiters_match c o.opener) (sym same) ∙ h
    go false h further = further (sym (nearest-passes c r before inside h) ∙ e)

same-character : (c o : Run) → (o.opens && delimiters_match c o) ≡ true → o.character ≡ c.character
unfolding delimiters_match
same-character c o e = grind (arith, e)

-- what a pair is made of
pub record Split (items out : List Item) : Type 0 where
  pub found : Opened
  pub closer : Run
  pub after : List Item
  pub whole : items ≡ together found ++ Delimiters closer ∷ after
  pub result : out ≡ pair_of found closer after
  pub same : found.opener.character ≡ closer.character

moved : (i : Item) (before after out : List Item) → Split (reverse (i ∷ before) ++ after) out → Split (reverse before ++ i ∷ after) out
moved i before after out = subst (λ l. Split l out) (reverse-first i before after)

pub leftmost-splits : (before after out : List Item) → pair_leftmost before after ≡ Some out → Split (reverse before ++ after) out
unfolding pair_leftmost
leftmost-splits before [] out e = absurd (none-some out e)
leftmost-splits before (Characters t ∷ after) out e = moved (Characters t) before after out (leftmost-splits (Characters t ∷ before) after out e)
leftmost-splits before (Finished i ∷ after) out e = moved (Finished i) before after out (leftmost-splits (Finished i ∷ before) after out e)
leftmost-splits before (Linked i ∷ after) out e = moved (Linked i) before after out (leftmost-splits (Linked i ∷ before) after out e)
leftmost-splits before (Opener b n ∷ after) out e = moved (Opener b n) before after out (leftmost-splits (Opener b n ∷ before) after out e)
leftmost-splits before (Delimiters r ∷ after) out e = go r.closes (nearest_opener r before []) refl refl (λ h. moved (Delimiters r) before after out (leftmost-splits (Delimiters r ∷ before) after out h))
  where
    go : (b : Bool) (o : Option Opened) → r.closes ≡ b → nearest_opener r before [] ≡ o →
        (pair_leftmost (Delimiters r ∷ before) after ≡ Some out → Split (reverse before ++ Delimiters r ∷ after) out) → Split (reverse before ++ Delimiters r ∷ after) out
    go false o h s further = further (sym (leftmost-no_closer r before after h) ∙ e)
    go true None h s further = further (sym (leftmost-no_opener r before after s) ∙ e)
    go true (Some found) h s further = record {
      found = found;
      closer = r;
      after = after;
      whole = ap (λ l. l ++ Delimiters r ∷ after) (sym (append-nil (reverse before)) ∙ nearest-splits r before [] found s);
      result = sym (same_Some (pair_of found r after) out (sym (leftmost-pairs r before after found h s) ∙ e));
      same = same-character r found.opener (nearest-fits r before [] found s);
    }

-- each pair makes the room less
pub pairing-falls : (items out : List Item) → pair_once items ≡ Some out → sum_by room out < sum_by room items
pairing-falls items out e =
    let s = leftmost-splits [] items out e in
    subst (λ l. sum_by room l < sum_by room items) (sym s.result)
    (subst (λ l. sum_by room (pair_of s.found s.closer s.after) < sum_by room l) (sym s.whole)
    (paired-room s.found.before s.found.opener s.found.inside s.closer s.after))

-- the loop, one pair at a time
pub pairs-step : (n : ℕ) (items out : List Item) → pair_once items ≡ Some out → pairs_within (suc n) items ≡ pairs_within n out
unfolding pairs_within
pairs-step n items out e = ap (λ (o : Option (List Item)). elim o as (λ _. List Item) [ Some more ↦ pairs_within n more | None ↦ items ]) e

pub pairs-stop : (n : ℕ) (items : List Item) → pair_once items ≡ None → pairs_within n items ≡ items
unfolding pairs_within
pairs-stop zero items e = refl
pairs-stop (suc n) items e = ap (λ (o : Option (List Item)). elim o as (λ _. List Item) [ Some more ↦ pairs_within n more | None ↦ items ]) e

-- any two numbers of pairs that are enough give the same
pub pairs-enough : (n m : ℕ) (items : List Item) → sum_by room items ≤ n → sum_by room items ≤ m → pairs_within n items ≡ pairs_within m items
pairs-enough zero m items p q = go (pair_once items) refl
  where
    go : (o : Option (List Item)) → pair_once items ≡ o → pairs_within zero items ≡ pairs_within m items
    go None e = pairs-stop zero items e ∙ sym (pairs-stop m items e)
    go (Some out) e = let h : sum_by room out < sum_by room items = pairing-falls items out e in absurd (omega arith)
pairs-enough (suc n) m items p q = go (pair_once items) m refl p q (λ k out. pairs-enough n k out)
  where
    go : (o : Option (List Item)) (m : ℕ) → pair_once items ≡ o → sum_by room items ≤ suc n → sum_by room items ≤ m →
        ((k : ℕ) (out : List Item) → sum_by room out ≤ n → sum_by room out ≤ k → pairs_within n out ≡ pairs_within k out) →
        pairs_within (suc n) items ≡ pairs_within m items
    go None m e p q further = pairs-stop (suc n) items e ∙ sym (pairs-stop m items e)
    go (Some out) zero e p q further = let h : sum_by room out < sum_by room items = pairing-falls items out e in absurd (omega arith)
    go (Some out) (suc k) e p q further =
        let h : sum_by room out < sum_by room items = pairing-falls items out e in
        pairs-step n items out e ∙ further k out (omega arith) (omega arith) ∙ sym (pairs-step k items out e)

-- one pair made changes nothing in what all pairs give; without one to make, the items stay
pub pair_all-once : (items out : List Item) → pair_once items ≡ Some out → pair_all items ≡ pair_all out
unfolding pair_all
pair_all-once items out e =
    let h : sum_by room out < sum_by room items = pairing-falls items out e in
    pairs-enough (sum_by room items) (suc (sum_by room items)) items (omega arith) (omega arith)
    ∙ pairs-step (sum_by room items) items out e ∙ pairs-enough (sum_by room items) (sum_by room out) out (omega arith) (omega arith)

pub pair_all-stop : (items : List Item) → pair_once items ≡ None → pair_all items ≡ items
unfolding pair_all
pair_all-stop items e = pairs-stop (sum_by room items) items e
