-- A start and an end round events that stand for items.
use Rattle.cm_inline.proofs.lemmas.Words.{◌≡◌, ℕ, List, [], ◌∷◌, ◌++◌, zero, refl, sym, ap, ◌∙◌, append_assoc, map-append, Inline, Run, Item, Characters, Finished}
use Rattle.cm_inline.proofs.lemmas.Words.{Linked, Delimiters, Opener, text_before, settled, settled_after, emphasised, rules, nat_tests, arith, replicate, append-nil}
use Rattle.cm_inline.specs.steps.pairing.Events.{Event, Rest, Tag, Start, End, Built, made_of, tag_of, ended, innermost, others, build_one, build, leaf, leaves, Means, nothing_built, inlines_of, add_text}

pub build-append : (m : Built) (fs gs : List Event) → build m (fs ++ gs) ≡ build (build m fs) gs
unfolding build
build-append m [] gs = refl
build-append m (f ∷ fs) gs = build-append (build_one m f) fs gs

-- events after one another stand for items after one another
pub means-append : (fs gs : List Event) (xs ys : List Item) → Means fs xs → Means gs ys → Means (fs ++ gs) (xs ++ ys)
means-append fs gs xs ys f g m =
    build-append m fs gs ∙ g (build m fs) ∙ ap (λ t. build t (leaves ys)) (f m) ∙ sym (build-append m (leaves xs) (leaves ys)) ∙ ap (build m) (sym (map-append leaf xs ys))

pub means-rest : (number : ℕ) (r : Run) → Means (Rest number r ∷ []) (Delimiters r ∷ [])
unfolding build
means-rest number r m = refl

text-split : (text : List ℕ) (more : List Inline) → text_before text more ≡ text_before text [] ++ more
text-split text more = grind (arith, nat_tests)

-- what items make of what holds before them
pub leaves-outer : (items : List Item) (m : Built) → (build m (leaves items)).outer ≡ m.outer
unfolding build
leaves-outer [] m = refl
leaves-outer (Characters t ∷ items) m = leaves-outer items (build_one m (leaf (Characters t)))
leaves-outer (Finished i ∷ items) m = leaves-outer items (build_one m (leaf (Finished i)))
leaves-outer (Linked i ∷ items) m = leaves-outer items (build_one m (leaf (Linked i)))
leaves-outer (Delimiters r ∷ items) m = leaves-outer items (build_one m (leaf (Delimiters r)))
leaves-outer (Opener b s ∷ items) m = leaves-outer items (build_one m (leaf (Opener b s)))

beyond : (content more : List Inline) (text : List ℕ) (i : Inline) → (content ++ text_before text (i ∷ [])) ++ more ≡ content ++ text_before text (i ∷ more)
beyond content more text i =
    ap (λ t. (content ++ t) ++ more) (text-split text (i ∷ [])) ∙ append_assoc content (text_before text [] ++ i ∷ []) more
    ∙ ap (λ t. content ++ t) (append_assoc (text_before text []) (i ∷ []) more ∙ sym (text-split text (i ∷ more)))

pub leaves-settle : (items : List Item) (m : Built) → ended (build m (leaves items)) ≡ m.content ++ settled_after m.text items
unfolding build settled_after
leaves-settle [] m = refl
leaves-settle (Characters t ∷ items) m = leaves-settle items (build_one m (leaf (Characters t)))
leaves-settle (Finished i ∷ items) m = leaves-settle items (build_one m (leaf (Finished i))) ∙ beyond m.content (settled_after [] items) m.text i
leaves-settle (Linked i ∷ items) m = leaves-settle items (build_one m (leaf (Linked i))) ∙ beyond m.content (settled_after [] items) m.text i
leaves-settle (Delimiters r ∷ items) m = leaves-settle items (build_one m (leaf (Delimiters r)))
leaves-settle (Opener b s ∷ items) m = leaves-settle items (build_one m (leaf (Opener b s)))

-- a run of which nothing is left stands for nothing
pub means-empty : (number : ℕ) (r : Run) → r.left ≡ zero → Means (Rest number r ∷ []) []
unfolding build
means-empty number r e m = ap (λ n. add_text m (replicate n r.character)) e ∙ ap (λ t. text t) (append-nil m.text)
  where
    text : List ℕ → Built
    text t = record { content = m.content; text = t; outer = m.outer }

-- a start and an end
pub means-wrap : (fs : List Event) (inside : List Item) (tag : Tag) → Means fs inside → Means (Start tag ∷ fs ++ End tag ∷ []) (Finished (made_of tag (settled inside)) ∷ [])
unfolding build
means-wrap fs inside tag h m =
    let opened = build_one m (Start tag) in
    build-append opened fs (End tag ∷ [])
    ∙ ap (λ t. build_one t (End tag)) (h opened)
    ∙ ap (λ o. closed o (ended (build opened (leaves inside)))) (leaves-outer inside opened)
    ∙ ap (closed (ended m ∷ m.outer)) (leaves-settle inside opened)
    ∙ ap (λ c. made c) (append_assoc m.content (text_before m.text []) (made_of tag (settled inside) ∷ []) ∙ ap (λ t. m.content ++ t) (sym (text-split m.text (made_of tag (settled inside) ∷ []))))
  where
    closed : List (List Inline) → List Inline → Built
    closed o inlines = record { content = innermost o ++ made_of tag inlines ∷ []; text = []; outer = others o }

    made : List Inline → Built
    made c = record { content = c; text = []; outer = m.outer }

pub tag-makes : (character count : ℕ) (content : List Inline) → made_of (tag_of character count) content ≡ emphasised character count content
tag-makes character count content = search rules

pub means-settles : (fs : List Event) (items : List Item) → Means fs items → inlines_of fs ≡ settled items
means-settles fs items h = ap ended (h nothing_built) ∙ leaves-settle items nothing_built
