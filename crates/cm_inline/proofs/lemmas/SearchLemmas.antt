-- The search down the list finds the nearest opener among the items, within the looks that may still be made.
use Rattle.cm_inline.proofs.lemmas.Words.{◌≡◌, ◌⊎◌, inl, inr, ℕ, zero, suc, ◌<◌, ◌≤◌, Bool, true, false, cond, ◌&&◌, nat_le, List, [], ◌∷◌, ◌++◌, length, get_or, set}
use Rattle.cm_inline.proofs.lemmas.Words.{Option, Some, None, refl, sym, ap, subst, ◌∙◌, arith, cond-true, cond-false, ltb-true, ltb-false, le-leb, same_Some}
use Rattle.cm_inline.proofs.lemmas.Words.{get_or-set_other, Run}
use Rattle.std.proofs.Common.{nat_lt}
use Rattle.std.proofs.lemmas.Option.{none-some}
use Rattle.cm_inline.specs.steps.Entries.{Entry, answers, above, Below, Falling}
use Rattle.cm_inline.specs.steps.Searching.{kind, IsMarked, find_opener, looks_for, from_found, NoneBeneath, NoneAnswers, AreSound}
use Rattle.cm_inline.proofs.lemmas.BottomLemmas.{kind-match}
use Rattle.cm_inline.proofs.lemmas.ReserveLemmas.{above-cons}
use Rattle.cm_inline.proofs.lemmas.NumberLemmas.{nat-split as nat_split}

-- what a search finds: the entries passed, the opener, and how many looks it takes
pub record FoundBy (c : Run) (bottom : ℕ) (es : List Entry) (e : Entry) : Type 0 where
  pub passed : List Entry
  pub below : List Entry
  pub whole : es ≡ passed ++ e ∷ below
  pub none : NoneAnswers c passed
  pub opens : answers c e ≡ true
  pub looks : looks_for c bottom es ≡ suc (length passed)
  pub left : from_found c bottom es ≡ e ∷ below

pub find-found : (c : Run) (bottom : ℕ) (es : List Entry) (e : Entry) → find_opener c bottom es ≡ Some e → FoundBy c bottom es e
unfolding find_opener looks_for from_found
find-found c bottom [] e h = absurd (none-some e h)
find-found c bottom (x ∷ es) e h = go (nat_lt x.place bottom) refl (answers c x) refl (find-found c bottom es e)
  where
    rest : Option Entry
    rest = cond (answers c x) (Some x) (find_opener c bottom es)

    go : (b : Bool) → nat_lt x.place bottom ≡ b → (a : Bool) → answers c x ≡ a → (find_opener c bottom es ≡ Some e → FoundBy c bottom es e) → FoundBy c bottom (x ∷ es) e
    go true p a q ih = absurd (none-some e (sym (cond-true (nat_lt x.place bottom) None rest p) ∙ h))
    go false p true q ih =
        let same : x ≡ e = same_Some x e (sym (cond-false (nat_lt x.place bottom) None rest p ∙ cond-true (answers c x) (Some x) (find_opener c bottom es) q) ∙ h) in
        record {
          passed = [];
          below = es;
          whole = ap (λ (y : Entry). y ∷ es) same;
          none = tt;
          opens = ap (answers c) (sym same) ∙ q;
          looks = cond-false (nat_lt x.place bottom) 0 (suc (cond (answers c x) 0 (looks_for c bottom es))) p ∙ ap suc (cond-true (answers c x) 0 (looks_for c bottom es) q);
          left = cond-false (nat_lt x.place bottom) [] (cond (answers c x) (x ∷ es) (from_found c bottom es)) p ∙ cond-true (answers c x) (x ∷ es) (from_found c bottom es) q ∙ ap (λ (y : Entry). y ∷ es) same;
        }
    go false p false q ih =
        let f : FoundBy c bottom es e = ih (sym (cond-false (nat_lt x.place bottom) None rest p ∙ cond-false (answers c x) (Some x) (find_opener c bottom es) q) ∙ h) in
        record {
          passed = x ∷ f.passed;
          below = f.below;
          whole = ap (λ l. x ∷ l) f.whole;
          none = (q, f.none);
          opens = f.opens;
          looks = cond-false (nat_lt x.place bottom) 0 (suc (cond (answers c x) 0 (looks_for c bottom es))) p ∙ ap suc (cond-false (answers c x) 0 (looks_for c bottom es) q ∙ f.looks);
          left = cond-false (nat_lt x.place bottom) [] (cond (answers c x) (x ∷ es) (from_found c bottom es)) p ∙ cond-false (answers c x) (x ∷ es) (from_found c bottom es) q ∙ f.left;
        }

beneath-all : (c : Run) (bottom : ℕ) (es : List Entry) → Below bottom es → NoneBeneath c bottom es → NoneAnswers c es
beneath-all c bottom [] b h = tt
beneath-all c bottom (e ∷ es) b h = (h.0 b.0, beneath-all c bottom es b.1 h.1)

pub below-more : (n m : ℕ) (es : List Entry) → n ≤ m → Below n es → Below m es
below-more n m [] p h = tt
below-more n m (e ∷ es) p h = let q : e.place < n = h.0 in (omega arith, below-more n m es p h.1)

abbrev one_if : Bool → ℕ
one_if b = cond b 1 0

-- a search in vain: each look was at an entry from the bottom on
pub none-looks : (c : Run) (bottom : ℕ) (es : List Entry) → find_opener c bottom es ≡ None → looks_for c bottom es ≤ above bottom es
unfolding find_opener looks_for
none-looks c bottom [] h = omega arith
none-looks c bottom (x ∷ es) h = go (nat_lt x.place bottom) refl (answers c x) refl (none-looks c bottom es)
  where
    rest : Option Entry
    rest = cond (answers c x) (Some x) (find_opener c bottom es)

    looks_here : ℕ
    looks_here = suc (cond (answers c x) 0 (looks_for c bottom es))

    go : (b : Bool) → nat_lt x.place bottom ≡ b → (a : Bool) → answers c x ≡ a → (find_opener c bottom es ≡ None → looks_for c bottom es ≤ above bottom es) → looks_for c bottom (x ∷ es) ≤ above bottom (x ∷ es)
    go true p a q ih = let none : looks_for c bottom (x ∷ es) ≡ zero = cond-true (nat_lt x.place bottom) 0 looks_here p in omega (arith, none)
    go false p true q ih = absurd (none-some x (sym h ∙ cond-false (nat_lt x.place bottom) None rest p ∙ cond-true (answers c x) (Some x) (find_opener c bottom es) q))
    go false p false q ih =
        let r : looks_for c bottom es ≤ above bottom es = ih (sym (cond-false (nat_lt x.place bottom) None rest p ∙ cond-false (answers c x) (Some x) (find_opener c bottom es) q) ∙ h) in
        let s : looks_for c bottom (x ∷ es) ≡ suc (looks_for c bottom es) = cond-false (nat_lt x.place bottom) 0 looks_here p ∙ ap suc (cond-false (answers c x) 0 (looks_for c bottom es) q) in
        let high : bottom ≤ x.place = ltb-false x.place bottom p in
        let one : one_if (nat_le bottom x.place) ≡ suc zero = ap one_if (le-leb bottom x.place high) in
        omega (arith, r, s, above-cons bottom x es, one)

-- and no entry opens
pub find-none : (c : Run) (bottom : ℕ) (es : List Entry) → Falling es → NoneBeneath c bottom es → find_opener c bottom es ≡ None → NoneAnswers c es
unfolding find_opener
find-none c bottom [] f n h = tt
find-none c bottom (x ∷ es) f n h = go (nat_lt x.place bottom) refl (answers c x) refl (find-none c bottom es f.1 n.1)
  where
    rest : Option Entry
    rest = cond (answers c x) (Some x) (find_opener c bottom es)

    go : (b : Bool) → nat_lt x.place bottom ≡ b → (a : Bool) → answers c x ≡ a → (find_opener c bottom es ≡ None → NoneAnswers c es) → NoneAnswers c (x ∷ es)
    go true p a q ih =
        let low : x.place < bottom = ltb-true x.place bottom p in
        beneath-all c bottom (x ∷ es) (low, below-more x.place bottom es (omega (arith, low)) f.0) n
    go false p true q ih = absurd (none-some x (sym h ∙ cond-false (nat_lt x.place bottom) None rest p ∙ cond-true (answers c x) (Some x) (find_opener c bottom es) q))
    go false p false q ih = (q, ih (sym (cond-false (nat_lt x.place bottom) None rest p ∙ cond-false (answers c x) (Some x) (find_opener c bottom es) q) ∙ h))

-- the bottom of a kind is raised when none opens for it
pub sound-raise : (bs : List ℕ) (c : Run) (n : ℕ) (es : List Entry) → kind c < length bs → IsMarked c → c.closes ≡ true → NoneAnswers c es → AreSound bs es → AreSound (set bs (kind c) n) es
sound-raise bs c n es l m h none s d md hd = go (nat_split (kind d) (kind c))
  where
    all : (xs : List Entry) (b : ℕ) → kind c ≡ kind d → NoneAnswers c xs → NoneBeneath d b xs
    all [] b k a = tt
    all (x ∷ xs) b k a = (λ p. ap (λ y. x.run.opens && y) (sym (kind-match c d x.run m md h hd k)) ∙ a.0, all xs b k a.1)

    go : (kind d ≡ kind c) ⊎ (kind d ≡ kind c → ⊥) → NoneBeneath d (get_or (set bs (kind c) n) (kind d) 0) es
    go (inl q) = all es (get_or (set bs (kind c) n) (kind d) 0) (sym q) none
    go (inr q) = subst (λ b. NoneBeneath d b es) (sym (get_or-set_other bs (kind c) (kind d) n 0 q)) (s d md hd)

-- soundness lasts when entries go, and when one comes
beneath-front : (c : Run) (b : ℕ) (xs ys : List Entry) → NoneBeneath c b (xs ++ ys) → NoneBeneath c b ys
beneath-front c b [] ys h = h
beneath-front c b (x ∷ xs) ys h = beneath-front c b xs ys h.1

pub sound-below : (bs : List ℕ) (xs ys : List Entry) → AreSound bs (xs ++ ys) → AreSound bs ys
sound-below bs xs ys s c m h = beneath-front c (get_or bs (kind c) 0) xs ys (s c m h)

pub sound-push : (bs : List ℕ) (e : Entry) (es : List Entry) → ((k : ℕ) → get_or bs k 0 ≤ e.place) → AreSound bs es → AreSound bs (e ∷ es)
sound-push bs e es p s c m h = ((λ q. (let r : get_or bs (kind c) 0 ≤ e.place = p (kind c) in absurd (omega (arith, r, q)))), s c m h)
