-- Runs of text: their line feeds, and the definitions at their start, one after the other.
use Rattle.std.proofs.Common.{◌≡◌, ℕ, zero, suc, ◌+◌, ◌<◌, ◌≤◌, ◌-◌, Bool, true, false, List, [], ◌∷◌, length, drop, Option, Some, None, IfSome, ◌⊎◌, inl, inr, refl, sym, ap, ◌∙◌, subst, arith, drop-cons, add-one}
use Rattle.std.specs.Prelude.{◌==◌}
use Rattle.std.proofs.lemmas.List.{drop_all}
use Rattle.std.proofs.lemmas.Bool.Decides.{nat_tests}
use Rattle.memchr.specs.Find.{is_byte, places, places_from}
use Rattle.cm_scan.specs.Words.{begins_with}
use Rattle.cm_scan.specs.inlines.Links.{LinkDefinition, label, link_definition, Definitions, definitions_within, definitions_of}
use Rattle.cm_scan.specs.blocks.Blocks.{line_feeds, line_count}
use Rattle.cm_scan.specs.Scanned.{definition_with}
use Rattle.cm_scan.proofs.lemmas.links.LineFeedsLeft.{takes_a_line}
use Rattle.cm_block.proofs.lemmas.FeedLemmas.{feeds_within}

-- the places of line feeds are as many as these

places-feeds : (text : List ℕ) (i n : ℕ) → i + n ≡ length text → length (places_from (is_byte 10) text i n) ≡ line_feeds (drop i text)
unfolding places_from line_feeds
places-feeds text i zero e =
    let none : drop i text ≡ [] = drop_all i text (omega arith) in
    rw none refl
places-feeds text i (suc n) e =
    let within : i < length text = omega arith in
    let h : length (places_from (is_byte 10) text (i + 1) n) ≡ line_feeds (drop (i + 1) text) = places-feeds text (i + 1) n (omega arith) in
    rw (drop-cons text i 0, ← add-one) (grind (arith, h))

pub feeds_counted : (text : List ℕ) → length (places (is_byte 10) text) ≡ line_feeds text
feeds_counted text = places-feeds text 0 (length text - 0) (omega arith)

-- one place more is counted
pub one_counted : (count bound place : ℕ) (before after : List ℕ) → before ≡ place ∷ after → count + length before ≡ bound → count + 1 + length after ≡ bound
one_counted count bound place before after is sum =
    let sum' : count + length (place ∷ after) ≡ bound = subst (λ xs. count + length xs ≡ bound) is sum in
    omega (arith, sum')

-- Definitions are read one after the other: how far they may be counted doesn't matter, where it is far enough.

none_of_none : link_definition [] ≡ None
unfolding link_definition label
none_of_none = refl

abbrev Enough : ℕ → List ℕ → Type 0
Enough n text = (link_definition text ≡ None) ⊎ (line_feeds text < n)

nothing : (n : ℕ) (text : List ℕ) → link_definition text ≡ None → definitions_within n text ≡ record { taken = []; left = text }
unfolding definitions_within
nothing zero text e = refl
nothing (suc n) text e = grind (arith, e)

takes : (text : List ℕ) (d : LinkDefinition) → link_definition text ≡ Some d → line_count d.rest ≤ line_feeds text
takes text d e =
    let P : Option LinkDefinition → Type 0 = λ found. IfSome found (λ x. line_count x.rest ≤ line_feeds text) in
    subst P e (takes_a_line text)

enough-rest : (n : ℕ) (text rest : List ℕ) → line_count rest ≤ line_feeds text → line_feeds text < suc n → Enough n rest
enough-rest n text [] h k = inl none_of_none
enough-rest n text (b ∷ bs) h k = inr (omega arith)

feeds-below : (n : ℕ) (text : List ℕ) (d : LinkDefinition) → link_definition text ≡ Some d → Enough n text → line_feeds text < n
feeds-below n text d e (inl none) = absurd (cc)
feeds-below n text d e (inr below) = below

more : (n : ℕ) (text : List ℕ) (d : LinkDefinition) → link_definition text ≡ Some d
    → definitions_within (suc n) text ≡ record { taken = d ∷ (definitions_within n d.rest).taken; left = (definitions_within n d.rest).left }
unfolding definitions_within
more n text d e = grind (arith, e)

same : (n m : ℕ) (text : List ℕ) → Enough n text → Enough m text → definitions_within n text ≡ definitions_within m text
same zero m text h k = nothing zero text (none h) ∙ sym (nothing m text (none h))
  where
    none : Enough 0 text → link_definition text ≡ None
    none (inl e) = e
    none (inr below) = absurd (omega (arith, below))
same (suc n) m text h k = by_first (link_definition text) refl (λ l rest. same n l rest)
  where
    Same : Type 0
    Same = (l : ℕ) (rest : List ℕ) → Enough n rest → Enough l rest → definitions_within n rest ≡ definitions_within l rest

    go : (l : ℕ) (d : LinkDefinition) → link_definition text ≡ Some d → line_feeds text < l → Same → definitions_within (suc n) text ≡ definitions_within l text
    go zero d e below again = absurd (omega (arith, below))
    go (suc l) d e below again =
        let fewer = takes text d e in
        let first = enough-rest n text d.rest fewer (feeds-below (suc n) text d e h) in
        let second = enough-rest l text d.rest fewer below in
        more n text d e
        ∙ ap (λ (r : Definitions). record { taken = d ∷ r.taken; left = r.left }) (again l d.rest first second)
        ∙ sym (more l text d e)

    by_first : (found : Option LinkDefinition) → link_definition text ≡ found → Same → definitions_within (suc n) text ≡ definitions_within m text
    by_first None e again = nothing (suc n) text e ∙ sym (nothing m text e)
    by_first (Some d) e again = go m d e (feeds-below m text d e k) again

-- as many as the text has bytes is enough
enough-length : (text : List ℕ) → Enough (length text) text
unfolding line_feeds link_definition label
enough-length [] = inl none_of_none
enough-length (b ∷ bs) = go (b == 91) refl
  where
    go : (v : Bool) → (b == 91) ≡ v → Enough (suc (length bs)) (b ∷ bs)
    go true e =
        let h : line_feeds bs ≤ length bs = feeds_within bs in
        let k : b ≡ 91 = grind (arith, nat_tests, e) in
        inr (rw k (omega (arith, h)))
    go false e = inl (grind (arith, e))

-- a text that starts with no bracket starts with no definition

no-bracket : (text : List ℕ) → begins_with 91 (drop 0 text) ≡ false → None ≡ link_definition text
unfolding link_definition label
no-bracket [] e = refl
no-bracket (b ∷ bs) e = sym (grind (arith, e))

pub no_definition : (text bytes : List ℕ) (bracket : Bool) → bytes ≡ text → bracket ≡ begins_with 91 (drop 0 bytes) → bracket ≡ false → None ≡ link_definition text
no_definition text bytes bracket same is none = no-bracket text (ap (λ t. begins_with 91 (drop 0 t)) (sym same) ∙ sym is ∙ none)

pub definitions_none : (text : List ℕ) → link_definition text ≡ None → definitions_of text ≡ record { taken = []; left = text }
unfolding definitions_of
definitions_none text e = nothing (length text) text e

pub definitions_some : (text : List ℕ) (d : LinkDefinition) → link_definition text ≡ Some d
    → definitions_of text ≡ record { taken = d ∷ (definitions_of d.rest).taken; left = (definitions_of d.rest).left }
unfolding definitions_of
definitions_some [] d e = absurd (cc none_of_none)
definitions_some (b ∷ bs) d e =
    let below = feeds-below (suc (length bs)) (b ∷ bs) d e (enough-length (b ∷ bs)) in
    let rest = enough-rest (length bs) (b ∷ bs) d.rest (takes (b ∷ bs) d e) below in
    more (length bs) (b ∷ bs) d e
    ∙ ap (λ (r : Definitions). record { taken = d ∷ r.taken; left = r.left }) (same (length bs) (length d.rest) d.rest rest (enough-length d.rest))

-- a definition has lines
pub fewer_lines : (text : List ℕ) (d : LinkDefinition) → link_definition text ≡ Some d → line_count d.rest < line_count text
fewer_lines [] d e = absurd (cc none_of_none)
fewer_lines (b ∷ bs) d e = omega (arith, takes (b ∷ bs) d e)

-- the same for what a scanner read: what is left of the text is the definition's rest

abbrev pub read_at : (label dest title text : List ℕ) (end : ℕ) → LinkDefinition
read_at label dest title text end = definition_with label dest title (drop end text)

pub next_fewer : (text left label dest title : List ℕ) (end : ℕ) → Some (read_at label dest title text end) ≡ link_definition text → left ≡ drop end text
    → line_count left < line_count text
next_fewer text left label dest title end e k =
    rw k (fewer_lines text (read_at label dest title text end) (sym e))

pub next_left : (text left label dest title : List ℕ) (end : ℕ) → Some (read_at label dest title text end) ≡ link_definition text → left ≡ drop end text
    → (definitions_of left).left ≡ (definitions_of text).left
next_left text left label dest title end e k =
    ap (λ l. (definitions_of l).left) k
    ∙ sym (ap (λ (r : Definitions). r.left) (definitions_some text (read_at label dest title text end) (sym e)))

pub none_left : (text : List ℕ) → None ≡ link_definition text → text ≡ (definitions_of text).left
none_left text e = sym (ap (λ (r : Definitions). r.left) (definitions_none text (sym e)))
