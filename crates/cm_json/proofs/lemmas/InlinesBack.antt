-- Inlines are told by their nodes: each is found again.
use Rattle.std.proofs.Common.{◌≡◌, ℕ, ◌==◌, Bool, true, false, cond, ◌&&◌, not, ◌||◌, List, [], ◌∷◌, ◌++◌, append-nil, append_assoc, codes, map, refl, ap, ap₂, sym, subst, ◌∙◌, arith}
use Rattle.json.specs.Json.{Json, string, array, object, Items, no_items, item, no_members, member}
use Rattle.cm_tree.specs.declared.tree.Inline.{Inline, Inline-F, map-Inline}
use Rattle.cm_tree.specs.declared.tree.Inline.TheOpen as inline
use Rattle.cm_tree.specs.declared.tree.Inline.TheVariants.{Text, Code, Html, Soft, Hard, Emph, Strong, Strike, Link, Image}
use Rattle.cm_tree.specs.declared.tree.Inline.TheViews.{roll-Inline}
use Rattle.cm_tree.specs.declared.tree.Inline.TheFolds.{ind-Inline}
use Rattle.cm_json.specs.Mdast.{Inlined, node, resource, inline_step, inlined, after_text, goes_on, nodes_after, nodes, inline_nodes, optional, literal, has_line_feed, ends_in_line_feed, line_feed_text, needs_children, description, alternative, join_plain, is_empty, image}
use Rattle.cm_tree.proofs.lemmas.InlineFolds as inline_fold

-- ---- what a node is of

abbrev pub optional_back : Json → List ℕ
optional_back (string s) = s
optional_back _ = []

-- the first byte of a type tells which it is
abbrev pub first : List ℕ → ℕ
first [] = 0
first (b ∷ bs) = b

-- a text, unless it is empty
abbrev some_text : List ℕ → List Inline
some_text [] = []
some_text (b ∷ bs) = Text (b ∷ bs) ∷ []

-- the texts and soft breaks of a text node, after a text
abbrev lines_back : List ℕ → List ℕ → List Inline
lines_back before [] = some_text before
lines_back before (b ∷ bs) = cond (b == 10) (some_text before ++ Soft ∷ lines_back [] bs) (lines_back (before ++ b ∷ []) bs)

abbrev text_back : List ℕ → List Inline
text_back [] = Text [] ∷ []
text_back (b ∷ bs) = lines_back [] (b ∷ bs)

abbrev literal_back : ℕ → List ℕ → List Inline
literal_back type value = cond (type == 116) (text_back value) (cond (type == 105) (Code value) (Html value) ∷ [])

abbrev group_back : ℕ → List Inline → Inline
group_back type content = cond (type == 101) (Emph content) (cond (type == 115) (Strong content) (Strike content))

abbrev mutual
  pub inline_back : Json → List Inline
  inline_back (object (member k (string type) no_members)) = Hard ∷ []
  inline_back (object (member k (string type) (member l (string value) no_members))) = literal_back (first type) value
  inline_back (object (member k (string type) (member l (array js) no_members))) = group_back (first type) (inlines_back js) ∷ []
  inline_back (object (member k (string type) (member l (object told) (member m (string value) no_members)))) = Text value ∷ []
  inline_back (object (member k (string type) (member l (string dest) (member m title (member n (array js) no_members))))) = Link dest (optional_back title) (inlines_back js) ∷ []
  inline_back (object (member k (string type) (member l (string dest) (member m title (member n (string alt) no_members))))) = Image dest (optional_back title) (some_text alt) ∷ []
  inline_back (object (member k (string type) (member l (object (member o (array js) no_members)) (member m (string dest) (member n title (member p alt no_members)))))) =
      Image dest (optional_back title) (inlines_back js) ∷ []
  inline_back _ = Hard ∷ []

  pub inlines_back : Items → List Inline
  inlines_back no_items = []
  inlines_back (item j js) = inline_back j ++ inlines_back js

-- ---- each comes back

pub optional-back : (s : List ℕ) → optional_back (optional s) ≡ s
optional-back [] = refl
optional-back (b ∷ bs) = refl

-- An inline comes back from its node, or from the text node that it goes on in.
record ComesBackAs (i : Inline) (v : Inlined) : Type 0 where
  own : is_empty v.joins ≡ true → (described : Bool) → inline_back (v.value described) ≡ i ∷ []
  joined : is_empty v.joins ≡ false → (begun : List ℕ) → goes_on begun v.joins ≡ true → lines_back [] (begun ++ v.joins) ≡ lines_back [] begun ++ i ∷ []

abbrev ComesBack : Inline → Type 0
ComesBack i = ComesBackAs i (inlined i)

abbrev Proved : Type 0
Proved = (i : Inline) × ComesBack i

abbrev them : List Proved → List Inline
them es = map (λ e. e.0) es

text-comes : (begun : List ℕ) (rest : Items) → inlines_back (after_text begun rest) ≡ lines_back [] begun ++ inlines_back rest
text-comes [] rest = refl
text-comes (b ∷ bs) rest = refl

-- the next one after an open text node, and the others
next-back : (i : Inline) (v : Inlined) (described : Bool) (begun : List ℕ) (others : List Inline) (own on apart : Items) → ComesBackAs i v → inlines_back own ≡ others
    → inlines_back on ≡ lines_back [] (begun ++ v.joins) ++ others → inlines_back apart ≡ lines_back [] v.joins ++ others
    → inlines_back (cond (is_empty v.joins) (after_text begun (item (v.value described) own)) (cond (goes_on begun v.joins) on (after_text begun apart))) ≡ lines_back [] begun ++ i ∷ others
next-back i v described begun others own on apart comes one two three =
    elim (is_empty v.joins) as (λ b. is_empty v.joins ≡ b → inlines_back (cond b (after_text begun (item (v.value described) own)) (cond (goes_on begun v.joins) on (after_text begun apart))) ≡ lines_back [] begun ++ i ∷ others) [
      | true ↦ λ e. text-comes begun (item (v.value described) own) ∙ ap₂ (λ is rest. lines_back [] begun ++ (is ++ rest)) (comes.own e described) one
      | false ↦ λ e. elim (goes_on begun v.joins) as (λ b. goes_on begun v.joins ≡ b → inlines_back (cond b on (after_text begun apart)) ≡ lines_back [] begun ++ i ∷ others) [
        | true ↦ λ goes. two ∙ ap (λ is. is ++ others) (comes.joined e begun goes) ∙ append_assoc (lines_back [] begun) (i ∷ []) others
        | false ↦ λ apart_is. text-comes begun apart ∙ ap (λ is. lines_back [] begun ++ is) (three ∙ ap (λ is. is ++ others) (comes.joined e [] refl))
      ] refl
    ] refl

after-back : (described : Bool) (begun : List ℕ) (es : List Proved) → inlines_back (nodes_after described begun (map inlined (them es))) ≡ lines_back [] begun ++ them es
after-back described begun [] = text-comes begun no_items
after-back described begun (e ∷ es) =
    let v = inlined e.0 in
    next-back e.0 v described begun (them es) _ _ _ e.1 (after-back described [] es) (after-back described (begun ++ v.joins) es) (after-back described v.joins es)

nodes-back : (described : Bool) (es : List Proved) → inlines_back (nodes described (map inlined (them es))) ≡ them es
nodes-back described es = after-back described [] es

back : (i : Inline) (v : Inlined) → inlined i ≡ v → ComesBackAs i v → ComesBack i
back i v is comes = subst (ComesBackAs i) (sym is) comes

-- one with a node of its own
alone : (i : Inline) (v : Inlined) → v.joins ≡ [] → ((described : Bool) → inline_back (v.value described) ≡ i ∷ []) → ComesBackAs i v
alone i v none comes = record { own = λ e. comes; joined = λ e. absurd (cc (sym (ap is_empty none) ∙ e)) }

-- a soft break after texts and breaks
break-back : (before begun : List ℕ) → lines_back before (begun ++ codes "\n") ≡ lines_back before begun ++ Soft ∷ []
break-back before [] = refl
break-back before (b ∷ bs) =
    elim (b == 10) as (λ t. cond t (some_text before ++ Soft ∷ lines_back [] (bs ++ codes "\n")) (lines_back (before ++ b ∷ []) (bs ++ codes "\n"))
    ≡ cond t (some_text before ++ Soft ∷ lines_back [] bs) (lines_back (before ++ b ∷ []) bs) ++ Soft ∷ []) [
      | true ↦ ap (λ is. some_text before ++ Soft ∷ is) (break-back [] bs) ∙ sym (append_assoc (some_text before) (Soft ∷ lines_back [] bs) (Soft ∷ []))
      | false ↦ break-back (before ++ b ∷ []) bs
    ]

none-first : (b : ℕ) (bs : List ℕ) → has_line_feed (b ∷ bs) ≡ false → (b == 10) ≡ false
none-first b bs none = grind arith

none-rest : (b : ℕ) (bs : List ℕ) → has_line_feed (b ∷ bs) ≡ false → has_line_feed bs ≡ false
none-rest b bs none = grind arith

-- a text without a line feed
plain-lines : (before text : List ℕ) → has_line_feed text ≡ false → lines_back before text ≡ some_text (before ++ text)
plain-lines before [] none = ap some_text (sym (append-nil before))
plain-lines before (b ∷ bs) none =
    ap (λ t. cond t (some_text before ++ Soft ∷ lines_back [] bs) (lines_back (before ++ b ∷ []) bs)) (none-first b bs none)
    ∙ plain-lines (before ++ b ∷ []) bs (none-rest b bs none)
    ∙ ap some_text (append_assoc before (b ∷ []) bs)

-- a text after a soft break
text-after : (before begun : List ℕ) (b : ℕ) (bs : List ℕ) → ends_in_line_feed begun ≡ true → has_line_feed (b ∷ bs) ≡ false
    → lines_back before (begun ++ b ∷ bs) ≡ lines_back before begun ++ Text (b ∷ bs) ∷ []
unfolding ends_in_line_feed
text-after before [] b bs ended none = cc
text-after before (x ∷ []) b bs ended none =
    ap (λ t. cond t (some_text before ++ Soft ∷ lines_back [] (b ∷ bs)) (lines_back (before ++ x ∷ []) (b ∷ bs))) ended
    ∙ ap (λ is. some_text before ++ Soft ∷ is) (plain-lines [] (b ∷ bs) none)
    ∙ sym (append_assoc (some_text before) (Soft ∷ []) (Text (b ∷ bs) ∷ []))
    ∙ ap (λ t. cond t (some_text before ++ Soft ∷ []) (some_text (before ++ x ∷ [])) ++ Text (b ∷ bs) ∷ []) (sym ended)
text-after before (x ∷ y ∷ ys) b bs ended none =
    elim (x == 10) as (λ t. cond t (some_text before ++ Soft ∷ lines_back [] (y ∷ ys ++ b ∷ bs)) (lines_back (before ++ x ∷ []) (y ∷ ys ++ b ∷ bs))
    ≡ cond t (some_text before ++ Soft ∷ lines_back [] (y ∷ ys)) (lines_back (before ++ x ∷ []) (y ∷ ys)) ++ Text (b ∷ bs) ∷ []) [
      | true ↦ ap (λ is. some_text before ++ Soft ∷ is) (text-after [] (y ∷ ys) b bs ended none) ∙ sym (append_assoc (some_text before) (Soft ∷ lines_back [] (y ∷ ys)) (Text (b ∷ bs) ∷ []))
      | false ↦ text-after (before ++ x ∷ []) (y ∷ ys) b bs ended none
    ]

ends-none : (text : List ℕ) → has_line_feed text ≡ false → ends_in_line_feed text ≡ false
unfolding ends_in_line_feed
ends-none [] none = refl
ends-none (b ∷ []) none = none-first b [] none
ends-none (b ∷ c ∷ bs) none = ends-none (c ∷ bs) (none-rest b (c ∷ bs) none)

or-false : (b : Bool) → (b || false) ≡ true → b ≡ true
or-false true is = refl
or-false false is = cc

-- a text that goes on in a text node
text-on : (b : ℕ) (bs begun : List ℕ) → has_line_feed (b ∷ bs) ≡ false → goes_on begun (b ∷ bs) ≡ true → lines_back [] (begun ++ b ∷ bs) ≡ lines_back [] begun ++ Text (b ∷ bs) ∷ []
text-on b bs [] none goes = plain-lines [] (b ∷ bs) none
text-on b bs (x ∷ xs) none goes =
    let ended : (ends_in_line_feed (x ∷ xs) || false) ≡ true = ap (λ t. ends_in_line_feed (x ∷ xs) || t) (sym (ends-none (b ∷ bs) none)) ∙ goes in
    text-after [] (x ∷ xs) b bs (or-false (ends_in_line_feed (x ∷ xs)) ended) none

abbrev text_as : Bool → List ℕ → Inlined
text_as b value = record { value = λ described. cond b (line_feed_text value) (literal (codes "text") value); joins = cond b [] value; plain = value; is_text = not (is_empty value) }

text-back : (value : List ℕ) (b : Bool) → has_line_feed value ≡ b → ComesBackAs (Text value) (text_as b value)
text-back value true some = alone (Text value) (text_as true value) refl (λ described. refl)
text-back [] false none = alone (Text []) (text_as false []) refl (λ described. refl)
text-back (b ∷ bs) false none = record { own = λ e. cc; joined = λ e begun goes. text-on b bs begun none goes }

soft-back : ComesBackAs Soft (inline_step inline.Soft)
soft-back = record { own = λ e. cc; joined = λ e begun goes. break-back [] begun }

-- a text that isn't empty is told by its part of the alternative text
abbrev IsTold : Inline → Type 0
IsTold i = (inlined i).is_text ≡ true → some_text ((inlined i).plain ++ []) ≡ i ∷ []

told_as : (i : Inline) (v : Inlined) → inlined i ≡ v → (v.is_text ≡ true → some_text (v.plain ++ []) ≡ i ∷ []) → IsTold i
told_as i v is tells text = subst (λ (w : Inlined). w.is_text ≡ true → some_text (w.plain ++ []) ≡ i ∷ []) (sym is) tells text

text-told : (text : List ℕ) → not (is_empty text) ≡ true → some_text (text ++ []) ≡ Text text ∷ []
text-told [] some = cc
text-told (b ∷ bs) some = ap (λ t. Text (b ∷ t) ∷ []) (append-nil bs)

told-layer : (y : Inline-F Inline) → IsTold (roll-Inline y)
unfolding roll-Inline denote.Hole.Carrier.roll
told-layer (inline.Text text) = told_as (Text text) _ (inline_fold.text inline_step text) (text-told text)
told-layer (inline.Code text) = told_as (Code text) _ (inline_fold.code inline_step text) (λ text. cc)
told-layer (inline.Html text) = told_as (Html text) _ (inline_fold.html inline_step text) (λ text. cc)
told-layer inline.Soft = told_as Soft _ (inline_fold.soft inline_step) (λ text. cc)
told-layer inline.Hard = told_as Hard _ (inline_fold.hard inline_step) (λ text. cc)
told-layer (inline.Emph content) = told_as (Emph content) _ (inline_fold.emph inline_step content) (λ text. cc)
told-layer (inline.Strong content) = told_as (Strong content) _ (inline_fold.strong inline_step content) (λ text. cc)
told-layer (inline.Strike content) = told_as (Strike content) _ (inline_fold.strike inline_step content) (λ text. cc)
told-layer (inline.Link dest title content) = told_as (Link dest title content) _ (inline_fold.link inline_step dest title content) (λ text. cc)
told-layer (inline.Image dest title content) = told_as (Image dest title content) _ (inline_fold.image inline_step dest title content) (λ text. cc)

told : (i : Inline) → IsTold i
told = ind-Inline IsTold (λ x y is. subst (λ z. IsTold (roll-Inline z)) is (told-layer (map-Inline ((i : Inline) × IsTold i) Inline (λ e. e.0) y)))

not-false : (b : Bool) → not b ≡ false → b ≡ true
not-false true none = refl
not-false false none = cc

-- the description of an image whose alternative text tells it
plain-back : (es : List Proved) → needs_children (map inlined (them es)) ≡ false → some_text (join_plain (map inlined (them es))) ≡ them es
plain-back [] none = refl
plain-back (e ∷ []) none = told e.0 (not-false (inlined e.0).is_text none)
plain-back (e ∷ f ∷ es) none = cc

image-back : (dest title : List ℕ) (es : List Proved) (described : Bool) → inline_back (image dest title (map inlined (them es)) described) ≡ Image dest title (them es) ∷ []
image-back dest title es described =
    let content = map inlined (them es) in
    elim (needs_children content) as (λ b. needs_children content ≡ b
    → inline_back (node (codes "image") (description b (nodes true content) (resource dest title (member (codes "alt") (alternative (b && described) (join_plain content)) no_members))))
    ≡ Image dest title (them es) ∷ []) [
      | true ↦ λ e. ap₂ (λ t is. Image dest t is ∷ []) (optional-back title) (nodes-back true es)
      | false ↦ λ e. ap₂ (λ t is. Image dest t is ∷ []) (optional-back title) (plain-back es e)
    ] refl

layer : (y : Inline-F Proved) → ComesBack (roll-Inline (map-Inline Proved Inline (λ e. e.0) y))
unfolding roll-Inline denote.Hole.Carrier.roll
layer (inline.Text text) = back (Text text) _ (inline_fold.text inline_step text) (text-back text (has_line_feed text) refl)
layer (inline.Code text) = back (Code text) _ (inline_fold.code inline_step text) (alone (Code text) _ refl (λ described. refl))
layer (inline.Html text) = back (Html text) _ (inline_fold.html inline_step text) (alone (Html text) _ refl (λ described. refl))
layer inline.Soft = back Soft _ (inline_fold.soft inline_step) soft-back
layer inline.Hard = back Hard _ (inline_fold.hard inline_step) (alone Hard _ refl (λ described. refl))
layer (inline.Emph es) = back (Emph (them es)) _ (inline_fold.emph inline_step (them es)) (alone (Emph (them es)) _ refl (λ described. ap (λ is. Emph is ∷ []) (nodes-back described es)))
layer (inline.Strong es) = back (Strong (them es)) _ (inline_fold.strong inline_step (them es)) (alone (Strong (them es)) _ refl (λ described. ap (λ is. Strong is ∷ []) (nodes-back described es)))
layer (inline.Strike es) = back (Strike (them es)) _ (inline_fold.strike inline_step (them es)) (alone (Strike (them es)) _ refl (λ described. ap (λ is. Strike is ∷ []) (nodes-back described es)))
layer (inline.Link dest title es) =
    back (Link dest title (them es)) _ (inline_fold.link inline_step dest title (them es)) (alone (Link dest title (them es)) _ refl (λ described. ap₂ (λ t is. Link dest t is ∷ []) (optional-back title) (nodes-back described es)))
layer (inline.Image dest title es) = back (Image dest title (them es)) _ (inline_fold.image inline_step dest title (them es)) (alone (Image dest title (them es)) _ refl (λ described. image-back dest title es described))

inline-back : (i : Inline) → ComesBack i
inline-back = ind-Inline ComesBack (λ x y is. subst (λ z. ComesBack (roll-Inline z)) is (layer y))

abbrev proved : List Inline → List Proved
proved [] = []
proved (i ∷ is) = (i, inline-back i) ∷ proved is

them-proved : (is : List Inline) → them (proved is) ≡ is
them-proved [] = refl
them-proved (i ∷ is) = ap (λ is. i ∷ is) (them-proved is)

pub inlines-back : (is : List Inline) → inlines_back (inline_nodes false is) ≡ is
inlines-back is = subst (λ (js : List Inline). inlines_back (inline_nodes false js) ≡ js) (them-proved is) (nodes-back false (proved is))
