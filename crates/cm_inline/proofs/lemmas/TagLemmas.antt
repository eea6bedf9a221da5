-- The ends and the starts of pairs at a run, one after another.
use Rattle.cm_inline.proofs.lemmas.Words.{◌≡◌, ℕ, zero, suc, ◌+◌, ◌-◌, ◌<◌, ◌≤◌, ◌==◌, List, [], ◌∷◌, ◌++◌, length, take, drop, get_or, reverse, refl, sym, ap, subst}
use Rattle.cm_inline.proofs.lemmas.Words.{◌∙◌, arith, append_assoc, cond-false, ne_eqb, drop_more, drop_all, length-take, length-take-le, length-reverse, get_or-take}
use Rattle.cm_inline.proofs.lemmas.Words.{reverse-append, take-append-drop, get_or-map, Emphasis, nat_tests}
use Rattle.cm_inline.specs.declared.pairing.Pair as made
use Rattle.cm_inline.specs.steps.pairing.Events.{Event, Start, End}
use Rattle.cm_inline.specs.steps.pairing.Readings.{Tags, Page, page, mode_of, write_all, start_html, end_html}
use Rattle.cm_inline.specs.steps.pairing.Parts.{Pair, chain, starts, ends, ends_between}
use Rattle.cm_inline.specs.steps.pairing.States.{no_pair}
use Rattle.cm_inline.specs.steps.Runs.{tag_in, pair_in, pairs_in}
use Rattle.cm_inline.specs.steps.Writing.{ComeBefore}
use Rattle.cm_inline.proofs.lemmas.PartLemmas.{chain-goes}

pub length-pairs : (ps : List made.Pair) → length (pairs_in ps) ≡ length ps
length-pairs [] = refl
length-pairs (p ∷ ps) = ap suc (length-pairs ps)

-- the pair at a place
pub pair-at : (ps : List made.Pair) (n : ℕ) (d : made.Pair) → n < length ps → get_or (pairs_in ps) n no_pair ≡ pair_in (get_or ps n d)
pair-at ps n d h = get_or-map pair_in ps n d no_pair h

pub ends-next : (ps : List made.Pair) (at to : ℕ) (d : made.Pair) → at < to → to ≤ length ps → ends_between (pairs_in ps) at to ≡ End (tag_in (get_or ps at d).emphasis) ∷ ends_between (pairs_in ps) (at + 1) to
ends-next ps at to d low high =
    let long : length (take to (pairs_in ps)) ≡ to = length-take-le to (pairs_in ps) (omega (arith, length-pairs ps)) in
    ap ends (drop_more (take to (pairs_in ps)) at no_pair (omega (arith, long)))
    ∙ ap (λ (q : Pair). End q.tag ∷ ends_between (pairs_in ps) (at + 1) to) (get_or-take to (pairs_in ps) at no_pair low ∙ pair-at ps at d (omega (arith, low, high)))

pub ends-last : (pairs : List Pair) (at to : ℕ) → to ≤ at → ends_between pairs at to ≡ []
ends-last pairs at to h = ap ends (drop_all at (take to pairs) (omega (arith, length-take to pairs)))

-- chains stay where pairs follow
chain-before : (ps qs : List Pair) (n : ℕ) → n ≤ length qs → chain (ps ++ qs) n ≡ chain qs n
unfolding chain
chain-before [] qs n h = refl
chain-before (p ∷ ps) qs n h =
    cond-false (n == suc (length (ps ++ qs))) (Start p.tag ∷ chain (ps ++ qs) p.before) (chain (ps ++ qs) n) (ne_eqb n (suc (length (ps ++ qs))) (λ e. absurd (omega (arith, e, h, longer ps)))) ∙ chain-before ps qs n h
  where
    longer : (ps : List Pair) → length qs ≤ length (ps ++ qs)
    longer [] = omega arith
    longer (p ∷ ps) = omega (arith, longer ps)

pub starts-none : (pairs : List Pair) → starts pairs 0 ≡ []
unfolding chain
starts-none pairs = go (reverse pairs)
  where
    go : (ps : List Pair) → chain ps 0 ≡ []
    go [] = refl
    go (p ∷ ps) = cond-false (0 == suc (length ps)) (Start p.tag ∷ chain ps p.before) (chain ps 0) (ne_eqb 0 (suc (length ps)) (λ e. absurd (omega (arith, e)))) ∙ go ps

starts-at : (pairs : List Pair) (n : ℕ) → n < length pairs → (get_or pairs n no_pair).before ≤ n → starts pairs (n + 1) ≡ Start (get_or pairs n no_pair).tag ∷ starts pairs (get_or pairs n no_pair).before
starts-at pairs n h chained =
    let p = get_or pairs n no_pair in
    let front = take n pairs in
    let back = drop (n + 1) pairs in
    let parts : pairs ≡ front ++ (p ∷ back) = sym (take-append-drop n pairs) ∙ ap (λ t. front ++ t) (drop_more pairs n no_pair h) in
    let turned : reverse pairs ≡ reverse back ++ (p ∷ reverse front) = ap reverse parts ∙ reverse-append front (p ∷ back) ∙ ap (λ t. t ++ reverse front) (turn p back) ∙ append_assoc (reverse back) (p ∷ []) (reverse front) in
    let long : length (reverse front) ≡ n = length-reverse front ∙ length-take-le n pairs (omega (arith, h)) in
    let one : chain (reverse pairs) (n + 1) ≡ Start p.tag ∷ chain (reverse front) p.before =
    ap (λ t. chain t (n + 1)) turned ∙ chain-before (reverse back) (p ∷ reverse front) (n + 1) (omega (arith, long)) ∙ chain-goes p (reverse front) (n + 1) (omega (arith, long)) in
    let rest : chain (reverse pairs) p.before ≡ chain (reverse front) p.before =
    ap (λ t. chain t p.before) (turned ∙ sym (append_assoc (reverse back) (p ∷ []) (reverse front))) ∙ chain-before (reverse back ++ p ∷ []) (reverse front) p.before (omega (arith, long, chained)) in
    one ∙ ap (λ t. Start p.tag ∷ t) (sym rest)
  where
    turn : (p : Pair) (back : List Pair) → reverse (p ∷ back) ≡ reverse back ++ p ∷ []
    turn p back = reverse-append (p ∷ []) back

pub record NextStart (ps : List made.Pair) (n : ℕ) (p : made.Pair) : Type 0 where
  pub is : starts (pairs_in ps) n ≡ Start (tag_in p.emphasis) ∷ starts (pairs_in ps) p.before
  pub before : p.before < n

pub starts-next : (ps : List made.Pair) (n : ℕ) (d : made.Pair) → (n ≡ 0 → ⊥) → n ≤ length ps → ComeBefore (pairs_in ps) → NextStart ps n (get_or ps (n - 1) d)
starts-next ps zero d some h chained = absurd (some refl)
starts-next ps (suc n) d some h chained =
    let low : n < length ps = omega (arith, h) in
    let place : suc n - 1 ≡ n = omega arith in
    let p = get_or ps n d in
    let is : get_or (pairs_in ps) n no_pair ≡ pair_in p = pair-at ps n d low in
    let before : (get_or (pairs_in ps) n no_pair).before ≤ n = chained n (omega (arith, low, length-pairs ps)) in
    let one : n + 1 ≡ suc n = omega arith in
    let first : p.before ≤ n = subst (λ (q : Pair). q.before ≤ n) is before in
    let found : NextStart ps (suc n) p = record {
      is = subst (λ (q : Pair). starts (pairs_in ps) (suc n) ≡ Start q.tag ∷ starts (pairs_in ps) q.before) is (ap (starts (pairs_in ps)) (sym one) ∙ starts-at (pairs_in ps) n (omega (arith, low, length-pairs ps)) before);
      before = omega (arith, first);
    } in
    subst (λ k. NextStart ps (suc n) (get_or ps k d)) (sym place) found

-- and what they write

pub end-written : (html new : List ℕ) (emphasis : Emphasis) (events more : List Event) (whole : Page) → new ≡ html ++ end_html (tag_in emphasis) → events ≡ End (tag_in emphasis) ∷ more
    → write_all (page html Tags) events ≡ whole → write_all (page new Tags) more ≡ whole
unfolding write_all
end-written html new emphasis events more whole e f h = ap (λ t. write_all (page t Tags) more) e ∙ sym (ap (write_all (page html Tags)) f) ∙ h

mode-tags : (emphasis : Emphasis) → mode_of (tag_in emphasis) ≡ Tags
mode-tags emphasis = grind (arith, nat_tests)

pub start-written : (html new : List ℕ) (emphasis : Emphasis) (events more : List Event) (whole : Page) → new ≡ html ++ start_html (tag_in emphasis) → events ≡ Start (tag_in emphasis) ∷ more
    → write_all (page html Tags) events ≡ whole → write_all (page new Tags) more ≡ whole
unfolding write_all
start-written html new emphasis events more whole e f h =
    ap (λ t. write_all (page t Tags) more) e ∙ ap (λ m. write_all (page (html ++ start_html (tag_in emphasis)) m) more) (sym (mode-tags emphasis)) ∙ sym (ap (write_all (page html Tags)) f) ∙ h

pub none-written : (html : List ℕ) (events : List Event) (whole : Page) → events ≡ [] → write_all (page html Tags) events ≡ whole → whole ≡ page html Tags
unfolding write_all
none-written html events whole e h = sym h ∙ ap (write_all (page html Tags)) e
