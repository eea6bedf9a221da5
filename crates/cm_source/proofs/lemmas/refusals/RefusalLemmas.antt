-- Reasons to refuse, one after another, and how inlines are judged, by their kinds.
use Rattle.std.proofs.Common.{◌≡◌, List, [], ◌∷◌, map, Bool, true, false, not, ◌||◌, ◌&&◌, ◌==◌, ℕ, suc, ◌<◌, ◌≤◌, ◌+◌, ◌-◌, length, drop, get_or, length-drop, eq-eqb, arith, Option, Some, None, Ok, Err, refl, sym, ap, ◌∙◌}
use Rattle.std.specs.Prelude.{slice_get, Result, option_map}
use Rattle.std.specs.List.{list_any}
use Rattle.std.specs.Option.{is_some}
use Rattle.std.specs.Result.{IsErrAnd}
use Rattle.std.proofs.lemmas.Bool.{ne_eqb}
use Rattle.std.proofs.lemmas.List.{drop_more, drop_all}
use Rattle.cm_text.specs.Rules.{Rules}
use Rattle.cm_tree.specs.declared.tree.Inline.{Inline}
use Rattle.cm_scan.specs.Words.{is_empty, ◌<|>◌}
use Rattle.cm_scan.specs.inlines.Links.{Reading}
use Rattle.cm_scan.specs.spans.RawHtml.{raw_html}
use Rattle.cm_scan.specs.spans.Autolinks.{Autolink, followed_autolink}
use Rattle.cm_scan.specs.spans.Angles.{Angled, Addressed, Tagged, before, at_angle}
use Rattle.cm_scan.specs.Scanned.{whole_of}
use Rattle.cm_scan.specs.steps.SpanSteps.{tagged}
use Rattle.cm_source.specs.declared.why.Why.{Why}
use Rattle.cm_source.specs.Answers.{ok_unless}
use Rattle.cm_source.specs.InlineRefusals.{refused, Face, is_none, first_of, last_of, is_whitespace, is_plain, Judged, first_face, last_face, has_wrong_edge, is_one_tag, judged}

pub stops : (first second : Option Why) (why : Why) → Err why ≡ ok_unless first → Err why ≡ ok_unless (first <|> second)
stops None second why e = absurd (cc e)
stops (Some other) second why e = e

pub goes-on : (first second : Option Why) → Ok tt ≡ ok_unless first → ok_unless second ≡ ok_unless (first <|> second)
goes-on None second e = refl
goes-on (Some why) second e = absurd (cc e)

pub no-reason : (reason : Option Why) → Ok tt ≡ ok_unless reason → reason ≡ None
no-reason None e = refl
no-reason (Some why) e = absurd (cc e)

-- what a list comes to from an index on

module _ {X R : Type 0} (f : List X → R) (xs : List X) where
  pub from-next : (i : ℕ) (x : X) → i < length xs → x ≡ get_or xs i x → f (drop i xs) ≡ f (x ∷ drop (i + 1) xs)
  from-next i x within is = ap f (drop_more xs i x within ∙ ap (λ y. y ∷ drop (i + 1) xs) (sym is))

  pub from-end : (i : ℕ) → length xs ≤ i → f (drop i xs) ≡ f []
  from-end i past = ap f (drop_all i xs past)

pub first-item : {X : Type 0} (xs : List X) (x : X) → Some x ≡ slice_get xs 0 → (rest : List X) × (xs ≡ x ∷ rest)
first-item [] x e = absurd (cc e)
first-item (y ∷ ys) x e = let same : x ≡ y = cc e in (ys, ap (λ z. z ∷ ys) (sym same))

pub last-is : (rules : Rules) (xs : List Inline) (x : Inline) → Some x ≡ slice_get xs (length xs - 1) → last_face (map (judged rules) xs) ≡ Some (judged rules x).face
last-is rules [] x e = absurd (cc e)
last-is rules (y ∷ []) x e = let same : x ≡ y = cc e in ap (λ z. Some (judged rules z).face) (sym same)
last-is rules (y ∷ z ∷ zs) x e =
    let more : length (y ∷ z ∷ zs) - 1 ≡ suc (length zs) = omega arith in
    let less : length zs ≡ length (z ∷ zs) - 1 = omega arith in
    last-is rules (z ∷ zs) x (e ∙ ap (slice_get (y ∷ z ∷ zs)) more ∙ ap (slice_get (z ∷ zs)) less)

-- the error of a `?`
pub told-error : (r : Result (Unit {0}) Why) (why : Why) → IsErrAnd r (λ e. e ≡ why) → r ≡ Err why
told-error (Ok x) why is = absurd is
told-error (Err e) why is = ap Err is

-- reasons in a list, each as it is reported

pub this-reason : (told holds : Bool) (why : Why) (others : List (Bool × Why)) (error : Why) → Err error ≡ ok_unless (refused ((told, why) ∷ [])) → told ≡ holds
    → Err error ≡ ok_unless (refused ((holds, why) ∷ others))
this-reason told holds why others error e same = go holds (e ∙ ap (λ v. ok_unless (refused ((v, why) ∷ []))) same)
  where
    go : (holds : Bool) → Err error ≡ ok_unless (refused ((holds, why) ∷ [])) → Err error ≡ ok_unless (refused ((holds, why) ∷ others))
    go true k = k
    go false k = absurd (cc k)

pub next-reason : (told holds : Bool) (why : Why) (others : List (Bool × Why)) (answer : Result (Unit {0}) Why) → Ok tt ≡ ok_unless (refused ((told, why) ∷ [])) → told ≡ holds
    → answer ≡ ok_unless (refused others) → answer ≡ ok_unless (refused ((holds, why) ∷ others))
next-reason told holds why others answer e same later = go holds (e ∙ ap (λ v. ok_unless (refused ((v, why) ∷ []))) same)
  where
    go : (holds : Bool) → Ok tt ≡ ok_unless (refused ((holds, why) ∷ [])) → answer ≡ ok_unless (refused ((holds, why) ∷ others))
    go true k = absurd (cc k)
    go false k = later

pub last-reason : (told holds : Bool) (why : Why) (answer : Result (Unit {0}) Why) → answer ≡ ok_unless (refused ((told, why) ∷ [])) → told ≡ holds → answer ≡ ok_unless (refused ((holds, why) ∷ []))
last-reason told holds why answer e same = e ∙ ap (λ v. ok_unless (refused ((v, why) ∷ []))) same

pub empty-is : {X : Type 0} (xs : List X) → (length xs == 0) ≡ not (list_any (λ x. true) xs)
empty-is [] = refl
empty-is (x ∷ xs) = ne_eqb (length (x ∷ xs)) 0 (λ e. omega (arith, e))

-- the edges of emphasis

abbrev pub is_wrong : Rules → (outside inside : Option ℕ) → Bool
is_wrong rules outside inside = is_whitespace inside || is_plain rules outside && not (is_plain rules inside)

or-assoc : (x y z : Bool) → (x || (y || z)) ≡ ((x || y) || z)
or-assoc true y z = refl
or-assoc false y z = refl

pub some-face : (rules : Rules) (content : List Inline) → (length content == 0) ≡ false → is_none (first_face (map (judged rules) content)) ≡ false
some-face rules [] e = absurd (cc e)
some-face rules (i ∷ is) e = refl

pub edges : (rules : Rules) (before : Option Face) (content : List Judged) (after : Option Face) (one other : Bool) → is_none (first_face content) ≡ false
    → one ≡ is_wrong rules (last_of before) (first_of (first_face content)) → other ≡ is_wrong rules (first_of after) (last_of (last_face content))
    → (one || other) ≡ has_wrong_edge rules before content after
edges rules before content after one other some e f =
    let first = first_of (first_face content) in
    let last = last_of (last_face content) in
    let a = is_whitespace first in
    let b = is_plain rules (last_of before) && not (is_plain rules first) in
    let c = is_whitespace last in
    let d = is_plain rules (first_of after) && not (is_plain rules last) in
    ap (λ v. v || other) e ∙ ap (λ v. (a || b) || v) f ∙ or-assoc (a || b) c d ∙ ap (λ v. (((v || a) || b) || c) || d) (sym some)

-- what is read of a text after `<`

pub some-read : {A B : Type 0} (f : A → B) (r : Option A) (o : Option B) → option_map f r ≡ o → is_some r ≡ true → (y : B) × (o ≡ Some y)
some-read f None o e some = absurd (cc some)
some-read f (Some x) o e some = (f x, sym e)

pub none-read : {A B : Type 0} (f : A → B) (r : Option A) (o : Option B) → option_map f r ≡ o → is_some r ≡ false → o ≡ None
none-read f None o e none = sym e
none-read f (Some x) o e none = absurd (cc none)

abbrev is_tag : Option Angled → Bool
is_tag None = false
is_tag (Some (Addressed link)) = false
is_tag (Some (Tagged tag)) = is_empty tag.rest

tag-is : (rules : Rules) (text : List ℕ) → is_one_tag rules text ≡ is_tag (at_angle rules text)
tag-is rules text = go (at_angle rules text)
  where
    go : (o : Option Angled) → (elim o as (λ _. Bool) [ Some (Tagged tag) ↦ is_empty tag.rest | Some (Addressed link) ↦ false | None ↦ false ]) ≡ is_tag o
    go None = refl
    go (Some (Addressed link)) = refl
    go (Some (Tagged tag)) = refl

pub link-no_tag : (rules : Rules) (text : List ℕ) (link : Autolink) → followed_autolink rules text ≡ Some link → is_one_tag rules text ≡ false
unfolding at_angle
link-no_tag rules text link e = tag-is rules text ∙ ap (λ o. is_tag (elim o as (λ _. Option Angled) [ Some l ↦ Some (Addressed l) | None ↦ tagged text (raw_html rules text) ])) e

by-tag : (rules : Rules) (text : List ℕ) → followed_autolink rules text ≡ None → is_one_tag rules text ≡ is_tag (tagged text (raw_html rules text))
unfolding at_angle
by-tag rules text e = tag-is rules text ∙ ap (λ o. is_tag (elim o as (λ _. Option Angled) [ Some l ↦ Some (Addressed l) | None ↦ tagged text (raw_html rules text) ])) e

pub no-tag : (rules : Rules) (text : List ℕ) → followed_autolink rules text ≡ None → None ≡ whole_of text (raw_html rules text) → is_one_tag rules text ≡ false
no-tag rules text none e = by-tag rules text none ∙ go (raw_html rules text) e
  where
    go : (o : Option (List ℕ)) → None ≡ whole_of text o → is_tag (tagged text o) ≡ false
    go None e = refl
    go (Some r) e = absurd (cc e)

pub one-tag : (rules : Rules) (text : List ℕ) (read : Reading) → followed_autolink rules text ≡ None → Some read ≡ whole_of text (raw_html rules text) → is_one_tag rules text ≡ is_empty read.rest
one-tag rules text read none e = by-tag rules text none ∙ go (raw_html rules text) e
  where
    go : (o : Option (List ℕ)) → Some read ≡ whole_of text o → is_tag (tagged text o) ≡ is_empty read.rest
    go None e = absurd (cc e)
    go (Some r) e = let same : read ≡ record { text = before r text; rest = r } = cc e in ap (λ (t : Reading). is_empty t.rest) (sym same)

pub at-end : (text : List ℕ) (n : ℕ) → n ≤ length text → (n == length text) ≡ is_empty (drop n text)
at-end text n within = go (drop n text) (length-drop n text)
  where
    go : (rest : List ℕ) → length rest ≡ length text - n → (n == length text) ≡ is_empty rest
    go [] e = eq-eqb n (length text) (omega (arith, e, within))
    go (b ∷ bs) e = ne_eqb n (length text) (λ same. omega (arith, e, same))
