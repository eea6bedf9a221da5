-- Repeated pairing in one pass from the left: the items before a place have the last first, and nothing in them pairs.
use Rattle.std.proofs.Common.{◌≡◌, ℕ, zero, suc, ◌-◌, ◌<◌, ◌≤◌, Bool, true, false, ◌&&◌, List, [], ◌∷◌, ◌++◌, reverse, Option, Some, None, refl, sym, ap, subst, ◌∙◌, arith, append_assoc, append-nil, nat_le}
use Rattle.std.proofs.lemmas.List.{reverse-reverse}
use Rattle.std.proofs.lemmas.Grind.{reverse_onto}
use Rattle.std.proofs.lemmas.Option.{none-some, same_Some}
use Rattle.std.proofs.lemmas.Bool.{cond-true, cond-false, leb-false}
use Rattle.cm_tree.specs.declared.tree.Inline.{Inline}
use Rattle.cm_scan.specs.inlines.Delimiters.{Run, delimiters_match}
use Rattle.cm_scan.specs.inlines.Pairing.{Item, Characters, Finished, Linked, Delimiters, Opener, Opened, nearest_opener, pair_leftmost, pair_once, pair_all, paired, used, emphasised, settled, without}
use Rattle.cm_scan.specs.inlines.OnePass.{up_to_pair, closer_left, closed_within, closed_by, passed, pass_from, PairsInOnePass}
use Rattle.cm_scan.proofs.lemmas.inlines.PairingLemmas.{reverse-first, nearest-splits, opened_at, pair_of, leftmost-no_closer, leftmost-no_opener, leftmost-pairs, used-some, pair_all-once, pair_all-stop}

-- nothing in the items pairs
abbrev pub IsUnpaired : List Item → Type 0
IsUnpaired items = pair_once items ≡ None

-- the search goes past items that don't pair
pub leftmost-skips : (xs ys before : List Item) → pair_leftmost before xs ≡ None → pair_leftmost before (xs ++ ys) ≡ pair_leftmost (reverse xs ++ before) ys
unfolding pair_leftmost
leftmost-skips [] ys before e = refl
leftmost-skips (Characters t ∷ xs) ys before e = leftmost-skips xs ys (Characters t ∷ before) e ∙ ap (λ b. pair_leftmost b ys) (sym (reverse-first (Characters t) xs before))
leftmost-skips (Finished i ∷ xs) ys before e = leftmost-skips xs ys (Finished i ∷ before) e ∙ ap (λ b. pair_leftmost b ys) (sym (reverse-first (Finished i) xs before))
leftmost-skips (Linked i ∷ xs) ys before e = leftmost-skips xs ys (Linked i ∷ before) e ∙ ap (λ b. pair_leftmost b ys) (sym (reverse-first (Linked i) xs before))
leftmost-skips (Opener b n ∷ xs) ys before e = leftmost-skips xs ys (Opener b n ∷ before) e ∙ ap (λ b. pair_leftmost b ys) (sym (reverse-first (Opener b n) xs before))
leftmost-skips (Delimiters r ∷ xs) ys before e = go r.closes (nearest_opener r before []) refl refl
    (λ h. leftmost-skips xs ys (Delimiters r ∷ before) h ∙ ap (λ b. pair_leftmost b ys) (sym (reverse-first (Delimiters r) xs before)))
  where
    go : (b : Bool) (o : Option Opened) → r.closes ≡ b → nearest_opener r before [] ≡ o →
        (pair_leftmost (Delimiters r ∷ before) xs ≡ None → pair_leftmost (Delimiters r ∷ before) (xs ++ ys) ≡ pair_leftmost (reverse (Delimiters r ∷ xs) ++ before) ys) →
        pair_leftmost before (Delimiters r ∷ (xs ++ ys)) ≡ pair_leftmost (reverse (Delimiters r ∷ xs) ++ before) ys
    go false o h s further = leftmost-no_closer r before (xs ++ ys) h ∙ further (sym (leftmost-no_closer r before xs h) ∙ e)
    go true None h s further = leftmost-no_opener r before (xs ++ ys) s ∙ further (sym (leftmost-no_opener r before xs s) ∙ e)
    go true (Some found) h s further = absurd (none-some (pair_of found r xs) (sym e ∙ leftmost-pairs r before xs found h s))

-- a pair among the items is one with anything after them
pub leftmost-keeps : (xs ys before out : List Item) → pair_leftmost before xs ≡ Some out → pair_leftmost before (xs ++ ys) ≡ Some (out ++ ys)
unfolding pair_leftmost paired
leftmost-keeps [] ys before out e = absurd (none-some out e)
leftmost-keeps (Characters t ∷ xs) ys before out e = leftmost-keeps xs ys (Characters t ∷ before) out e
leftmost-keeps (Finished i ∷ xs) ys before out e = leftmost-keeps xs ys (Finished i ∷ before) out e
leftmost-keeps (Linked i ∷ xs) ys before out e = leftmost-keeps xs ys (Linked i ∷ before) out e
leftmost-keeps (Opener b n ∷ xs) ys before out e = leftmost-keeps xs ys (Opener b n ∷ before) out e
leftmost-keeps (Delimiters r ∷ xs) ys before out e = go r.closes (nearest_opener r before []) refl refl (λ h. leftmost-keeps xs ys (Delimiters r ∷ before) out h)
  where
    go : (b : Bool) (o : Option Opened) → r.closes ≡ b → nearest_opener r before [] ≡ o →
        (pair_leftmost (Delimiters r ∷ before) xs ≡ Some out → pair_leftmost (Delimiters r ∷ before) (xs ++ ys) ≡ Some (out ++ ys)) →
        pair_leftmost before (Delimiters r ∷ (xs ++ ys)) ≡ Some (out ++ ys)
    go false o h s further = leftmost-no_closer r before (xs ++ ys) h ∙ further (sym (leftmost-no_closer r before xs h) ∙ e)
    go true None h s further = leftmost-no_opener r before (xs ++ ys) s ∙ further (sym (leftmost-no_opener r before xs s) ∙ e)
    go true (Some found) h s further =
        leftmost-pairs r before (xs ++ ys) found h s
        ∙ ap Some (sym (append_assoc _ xs ys) ∙ ap (λ l. l ++ ys) (same_Some (pair_of found r xs) out (sym (leftmost-pairs r before xs found h s) ∙ e)))

-- where the items before a place don't pair, the search starts at the place
pub pair_once-from : (before after : List Item) → IsUnpaired (reverse before) → pair_once (reverse before ++ after) ≡ pair_leftmost before after
pair_once-from before after e =
    leftmost-skips (reverse before) after [] e ∙ ap (λ b. pair_leftmost b after) (append-nil (reverse (reverse before)) ∙ reverse-reverse before)

-- what is before items that don't pair doesn't pair
pub unpaired-front : (xs ys : List Item) → IsUnpaired (xs ++ ys) → IsUnpaired xs
unpaired-front xs ys e = go (pair_once xs) refl
  where
    go : (o : Option (List Item)) → pair_once xs ≡ o → IsUnpaired xs
    go None h = h
    go (Some out) h = absurd (none-some (out ++ ys) (sym e ∙ leftmost-keeps xs ys [] out h))

-- how many characters are left makes no difference to a search
abbrev pub with_left : ℕ → Run → Run
with_left m r = record r { left = m }

pub nearest-left : (m : ℕ) (r : Run) (before inside : List Item) → nearest_opener (with_left m r) before inside ≡ nearest_opener r before inside
unfolding nearest_opener delimiters_match
nearest-left m r [] inside = refl
nearest-left m r (Characters t ∷ before) inside = nearest-left m r before (Characters t ∷ inside)
nearest-left m r (Finished i ∷ before) inside = nearest-left m r before (Finished i ∷ inside)
nearest-left m r (Linked i ∷ before) inside = nearest-left m r before (Linked i ∷ inside)
nearest-left m r (Opener b n ∷ before) inside = nearest-left m r before (Opener b n ∷ inside)
nearest-left m r (Delimiters d ∷ before) inside =
    ap (λ (o : Option Opened). elim (d.opens && delimiters_match r d) as (λ _. Option Opened) [ true ↦ Some (opened_at d before inside) | false ↦ o ]) (nearest-left m r before (Delimiters d ∷ inside))

unpaired-run : (m : ℕ) (r : Run) (before : List Item) → pair_leftmost before (Delimiters r ∷ []) ≡ None → pair_leftmost before (Delimiters (with_left m r) ∷ []) ≡ None
unfolding pair_leftmost
unpaired-run m r before e = go r.closes (nearest_opener r before []) refl refl
  where
    go : (b : Bool) (o : Option Opened) → r.closes ≡ b → nearest_opener r before [] ≡ o → pair_leftmost before (Delimiters (with_left m r) ∷ []) ≡ None
    go false o h s = leftmost-no_closer (with_left m r) before [] h
    go true None h s = leftmost-no_opener (with_left m r) before [] (nearest-left m r before [] ∙ s)
    go true (Some found) h s = absurd (none-some (pair_of found r []) (sym e ∙ leftmost-pairs r before [] found h s))

-- with less of a run at their end, items that don't pair don't either
pub unpaired-without : (n : ℕ) (r : Run) (xs : List Item) → IsUnpaired (xs ++ Delimiters r ∷ []) → IsUnpaired (xs ++ without n r)
unpaired-without n r xs e = go (nat_le r.left n) refl
  where
    rest : List Item
    rest = Delimiters (with_left (r.left - n) r) ∷ []

    front : IsUnpaired xs
    front = unpaired-front xs (Delimiters r ∷ []) e

    turned : (ys : List Item) → pair_once (xs ++ ys) ≡ pair_leftmost (reverse xs) ys
    turned ys = leftmost-skips xs ys [] front ∙ ap (λ b. pair_leftmost b ys) (append-nil (reverse xs))

    go : (b : Bool) → nat_le r.left n ≡ b → IsUnpaired (xs ++ without n r)
    go true h = subst (λ l. IsUnpaired (xs ++ l)) (sym (cond-true (nat_le r.left n) [] rest h)) (subst IsUnpaired (sym (append-nil xs)) front)
    go false h =
        subst (λ l. IsUnpaired (xs ++ l)) (sym (cond-false (nat_le r.left n) [] rest h))
        (turned rest ∙ unpaired-run (r.left - n) r (reverse xs) (sym (turned (Delimiters r ∷ [])) ∙ e))

pub unpaired-finished : (i : Inline) (xs : List Item) → IsUnpaired xs → IsUnpaired (xs ++ Finished i ∷ [])
unfolding pair_leftmost
unpaired-finished i xs e = leftmost-skips xs (Finished i ∷ []) [] e

-- once a pair is made, what comes up to the new emphasis doesn't pair
pub unpaired-up_to : (before : List Item) (c : Run) (found : Opened) → IsUnpaired (reverse before) → nearest_opener c before [] ≡ Some found → IsUnpaired (up_to_pair found c)
unpaired-up_to before c found e s =
    let n = used found.opener c in
    unpaired-finished (emphasised c.character n (settled found.inside)) (found.before ++ without n found.opener)
    (unpaired-without n found.opener found.before (unpaired-front (found.before ++ Delimiters found.opener ∷ []) found.inside
    (subst IsUnpaired (sym (append-nil (reverse before)) ∙ nearest-splits c before [] found s ∙ sym (append_assoc found.before (Delimiters found.opener ∷ []) found.inside)) e)))

-- and the items are those up to it, and then what is left of the closer and the rest
pub paired-parts : (found : Opened) (c : Run) (after : List Item) → pair_of found c after ≡ up_to_pair found c ++ (without (used found.opener c) c ++ after)
unfolding paired
paired-parts found c after =
    let n = used found.opener c in
    let e = Finished (emphasised c.character n (settled found.inside)) in
    append_assoc (found.before ++ without n found.opener) (e ∷ without n c) after
    ∙ sym (append_assoc (found.before ++ without n found.opener) (e ∷ []) (without n c ++ after))

-- The items come to what is before and after a place: nothing before it pairs, and all pairs of what is there now are all
-- pairs of the items.
pub record Processed (items before after : List Item) : Type 0 where
  pub unpaired : IsUnpaired (reverse before)
  pub same : pair_all items ≡ pair_all (reverse before ++ after)

pub processed-start : (items : List Item) → Processed items [] items
unfolding pair_leftmost
processed-start items = record { unpaired = refl; same = refl }

-- an item that pairs with nothing before it is passed
pub processed-passes : (items before : List Item) (i : Item) (after : List Item) → Processed items before (i ∷ after) → pair_leftmost before (i ∷ []) ≡ None → Processed items (i ∷ before) after
processed-passes items before i after p h = record {
  unpaired = ap pair_once (reverse_onto before i []) ∙ pair_once-from before (i ∷ []) p.unpaired ∙ h;
  same = p.same ∙ ap pair_all (sym (reverse-first i before after));
}

-- a closer with an opener makes the pair
pub processed-pair : (items before : List Item) (c : Run) (after : List Item) (found : Opened) → Processed items before (Delimiters c ∷ after) → c.closes ≡ true → nearest_opener c before [] ≡ Some found →
    Processed items (reverse (up_to_pair found c)) (without (used found.opener c) c ++ after)
processed-pair items before c after found p h s = record {
  unpaired = subst IsUnpaired (sym (reverse-reverse (up_to_pair found c))) (unpaired-up_to before c found p.unpaired s);
  same = p.same
      ∙ pair_all-once (reverse before ++ Delimiters c ∷ after) (pair_of found c after) (pair_once-from before (Delimiters c ∷ after) p.unpaired ∙ leftmost-pairs c before after found h s)
      ∙ ap pair_all (paired-parts found c after ∙ ap (λ l. l ++ (without (used found.opener c) c ++ after)) (sym (reverse-reverse (up_to_pair found c))));
}

-- at the end all pairs are made
pub processed-end : (items before : List Item) → Processed items before [] → pair_all items ≡ reverse before
processed-end items before p = p.same ∙ ap pair_all (append-nil (reverse before)) ∙ pair_all-stop (reverse before) p.unpaired

-- a run that may close, one pair at a time
abbrev pub closed_rest : ℕ → Run → Opened → Bool → List Item
closed_rest n c found b = elim b as (λ _. List Item) [ true ↦ reverse (up_to_pair found c) | false ↦ closed_within n (reverse (up_to_pair found c)) (closer_left found c) ]

abbrev pub closed_case : ℕ → List Item → Run → Option Opened → List Item
closed_case n before c o = elim o as (λ _. List Item) [ Some found ↦ closed_rest n c found (nat_le c.left (used found.opener c)) | None ↦ Delimiters c ∷ before ]

pub closed-none : (n : ℕ) (before : List Item) (c : Run) → nearest_opener c before [] ≡ None → closed_within (suc n) before c ≡ Delimiters c ∷ before
unfolding closed_within
closed-none n before c e = ap (closed_case n before c) e

pub closed-gone : (n : ℕ) (before : List Item) (c : Run) (found : Opened) → nearest_opener c before [] ≡ Some found → nat_le c.left (used found.opener c) ≡ true → closed_within (suc n) before c ≡ reverse (up_to_pair found c)
unfolding closed_within
closed-gone n before c found e h = ap (closed_case n before c) e ∙ ap (closed_rest n c found) h

pub closed-more : (n : ℕ) (before : List Item) (c : Run) (found : Opened) → nearest_opener c before [] ≡ Some found → nat_le c.left (used found.opener c) ≡ false →
    closed_within (suc n) before c ≡ closed_within n (reverse (up_to_pair found c)) (closer_left found c)
unfolding closed_within
closed-more n before c found e h = ap (closed_case n before c) e ∙ ap (closed_rest n c found) h

-- a run that may close makes its pairs
pub processed-closer : (n : ℕ) (items before : List Item) (c : Run) (after : List Item) → Processed items before (Delimiters c ∷ after) → c.closes ≡ true → c.left < n → Processed items (closed_within n before c) after
unfolding pair_leftmost
processed-closer zero items before c after p h q = absurd (omega arith)
processed-closer (suc n) items before c after p h q = go (nearest_opener c before []) refl (λ now rest. processed-closer n items now rest after)
  where
    go : (o : Option Opened) → nearest_opener c before [] ≡ o →
        ((now : List Item) (rest : Run) → Processed items now (Delimiters rest ∷ after) → rest.closes ≡ true → rest.left < n → Processed items (closed_within n now rest) after) →
        Processed items (closed_within (suc n) before c) after
    go None s further = subst (λ l. Processed items l after) (sym (closed-none n before c s)) (processed-passes items before (Delimiters c) after p (leftmost-no_opener c before [] s))
    go (Some found) s further = part (nat_le c.left count) refl
      where
        count : ℕ
        count = used found.opener c

        now : List Item
        now = reverse (up_to_pair found c)

        made : Processed items now (without count c ++ after)
        made = processed-pair items before c after found p h s

        part : (b : Bool) → nat_le c.left count ≡ b → Processed items (closed_within (suc n) before c) after
        part true k =
            subst (λ l. Processed items l after) (sym (closed-gone n before c found s k))
            (subst (λ l. Processed items now (l ++ after)) (cond-true (nat_le c.left count) [] (Delimiters (closer_left found c) ∷ []) k) made)
        part false k =
            let some : 1 ≤ count = used-some found.opener c in
            let more : count < c.left = leb-false c.left count k in
            subst (λ l. Processed items l after) (sym (closed-more n before c found s k))
            (further now (closer_left found c) (subst (λ l. Processed items now (l ++ after)) (cond-false (nat_le c.left count) [] (Delimiters (closer_left found c) ∷ []) k) made) h (omega arith))

-- each item in its turn
pub processed-item : (items before : List Item) (i : Item) (after : List Item) → Processed items before (i ∷ after) → Processed items (passed before i) after
unfolding pair_leftmost
processed-item items before (Characters t) after p = processed-passes items before (Characters t) after p refl
processed-item items before (Finished i) after p = processed-passes items before (Finished i) after p refl
processed-item items before (Linked i) after p = processed-passes items before (Linked i) after p refl
processed-item items before (Opener b n) after p = processed-passes items before (Opener b n) after p refl
processed-item items before (Delimiters r) after p = go r.closes refl
  where
    turn : Bool → List Item
    turn b = elim b as (λ _. List Item) [ true ↦ closed_by before r | false ↦ Delimiters r ∷ before ]

    go : (b : Bool) → r.closes ≡ b → Processed items (passed before (Delimiters r)) after
    go true h = subst (λ l. Processed items l after) (sym (ap turn h)) (processed-closer (suc r.left) items before r after p h (omega arith))
    go false h = subst (λ l. Processed items l after) (sym (ap turn h)) (processed-passes items before (Delimiters r) after p (leftmost-no_closer r before [] h))

pub processed-all : (items before after : List Item) → Processed items before after → pair_all items ≡ pass_from before after
unfolding pass_from
processed-all items before [] p = processed-end items before p
processed-all items before (i ∷ after) p = processed-all items (passed before i) after (processed-item items before i after p)

pub pairs_in_one_pass : PairsInOnePass
pairs_in_one_pass items = processed-all items [] items (processed-start items)

-- any two numbers of pairs that are enough for a closer give the same
pub closed-enough : (n m : ℕ) (before : List Item) (c : Run) → c.left < n → c.left < m → closed_within n before c ≡ closed_within m before c
closed-enough zero m before c p q = absurd (omega arith)
closed-enough (suc n) zero before c p q = absurd (omega arith)
closed-enough (suc n) (suc m) before c p q = go (nearest_opener c before []) refl (λ now rest. closed-enough n m now rest)
  where
    go : (o : Option Opened) → nearest_opener c before [] ≡ o →
        ((now : List Item) (rest : Run) → rest.left < n → rest.left < m → closed_within n now rest ≡ closed_within m now rest) →
        closed_within (suc n) before c ≡ closed_within (suc m) before c
    go None s further = closed-none n before c s ∙ sym (closed-none m before c s)
    go (Some found) s further = part (nat_le c.left (used found.opener c)) refl
      where
        part : (b : Bool) → nat_le c.left (used found.opener c) ≡ b → closed_within (suc n) before c ≡ closed_within (suc m) before c
        part true k = closed-gone n before c found s k ∙ sym (closed-gone m before c found s k)
        part false k =
            let some : 1 ≤ used found.opener c = used-some found.opener c in
            let more : used found.opener c < c.left = leb-false c.left (used found.opener c) k in
            closed-more n before c found s k ∙ further (reverse (up_to_pair found c)) (closer_left found c) (omega arith) (omega arith) ∙ sym (closed-more m before c found s k)

-- A closer with no opener stays, one that is used up leaves the pair, and what is left of any other continues after the pair.
pub closed_by-none : (before : List Item) (c : Run) → nearest_opener c before [] ≡ None → closed_by before c ≡ Delimiters c ∷ before
closed_by-none before c s = closed-none c.left before c s

pub closed_by-gone : (before : List Item) (c : Run) (found : Opened) → nearest_opener c before [] ≡ Some found → nat_le c.left (used found.opener c) ≡ true → closed_by before c ≡ reverse (up_to_pair found c)
closed_by-gone before c found s k = closed-gone c.left before c found s k

pub closed_by-more : (before : List Item) (c : Run) (found : Opened) → nearest_opener c before [] ≡ Some found → nat_le c.left (used found.opener c) ≡ false →
    closed_by before c ≡ closed_by (reverse (up_to_pair found c)) (closer_left found c)
closed_by-more before c found s k =
    let some : 1 ≤ used found.opener c = used-some found.opener c in
    let more : used found.opener c < c.left = leb-false c.left (used found.opener c) k in
    closed-more c.left before c found s k
    ∙ closed-enough c.left (suc (closer_left found c).left) (reverse (up_to_pair found c)) (closer_left found c) (omega arith) (omega arith)
