-- What is on a page, while more is put after it.
use Rattle.std.proofs.Common.{◌≡◌, ℕ, length-take-le, ◌+◌, ◌-◌, ◌≤◌, List, [], ◌∷◌, ◌++◌, length, take, drop, sym, ap, ap₂, subst, ◌∙◌, inl, inr, arith, string_bytes, append_assoc, append-nil, length-append, length-drop, take_all}
use Rattle.std.specs.Prelude.{String, Result, Ok, Err, OnOk, OnErr, is_ok, if◌then◌else◌}
use Rattle.std.specs.List.{slice_range, concat}
use Rattle.std.specs.Str.{IsUtf8, IsCharBoundary}
use Rattle.std.proofs.lemmas.Bool.{cases_lt}
use Rattle.std.proofs.lemmas.List.Folds.{concat-append}
use Rattle.std.proofs.Math.Seq.{drop-append_seam}
use Rattle.std.proofs.lemmas.List.{take-append-le, drop-append-le, get_or_append_left, take_at}
use Rattle.std.proofs.lemmas.Str.{IsUtf8-string_bytes, IsCharBoundary-end, IsCharBoundary-start, IsCharBoundary-from_take}
use Rattle.cm_html.specs.declared.page.Insertion.{Insertion}
use Rattle.cm_html.specs.steps.Pages.{with_insertions, AreInOrder}

-- ---- places

pub first_place : (from : ℕ) (text : List ℕ) (is : List Insertion) → AreInOrder from text is → IsCharBoundary text from
first_place from text [] order = order
first_place from text (i ∷ is) order = order.0

place_grows : (text more grown : List ℕ) (at : ℕ) → grown ≡ text ++ more → IsUtf8 text → IsUtf8 grown → IsCharBoundary text at → IsCharBoundary grown at
place_grows text more grown at is utf8 later place = elim (cases_lt at (length text)) [
  | inl low ↦ subst (λ g. IsCharBoundary g at) (sym is) (omega (arith, low, length-append text more), λ _ continues. rw (get_or_append_left text more 0 at low) (place.1 low (rw (get_or_append_left text more 0 at low) at continues)))
  | inr high ↦
      let end : length text ≡ at = omega (arith, high, place.0) in
      let front : text ≡ take at grown = sym (ap (take at) is ∙ take_at text more at end) in
      IsCharBoundary-from_take grown at later (omega (arith, end, ap length is, length-append text more)) (subst IsUtf8 front utf8)
]

-- more text after them
order_grows : (from : ℕ) (text more grown : List ℕ) (is : List Insertion) → grown ≡ text ++ more → IsUtf8 text → IsUtf8 grown → AreInOrder from text is → AreInOrder from grown is
order_grows from text more grown [] pushed utf8 later order = place_grows text more grown from pushed utf8 later order
order_grows from text more grown (i ∷ is) pushed utf8 later order =
    (place_grows text more grown from pushed utf8 later order.0, order.1, order_grows i.place text more grown is pushed utf8 later order.2)

-- one more at the end
pub order_after : (from : ℕ) (text : List ℕ) (is : List Insertion) (i : Insertion) → i.place ≡ length text → AreInOrder from text is → AreInOrder from text (is ++ i ∷ [])
order_after from text [] i at order = (order, omega (arith, order.0, at), subst (IsCharBoundary text) (sym at) (IsCharBoundary-end text))
order_after from text (j ∷ is) i at order = (order.0, order.1, order_after j.place text is i at order.2)

-- ---- bytes

slice_same : (from to : ℕ) (text more : List ℕ) → from ≤ to → to ≤ length text → slice_range (text ++ more) from to ≡ slice_range text from to
slice_same from to text more order within =
    ap (take (to - from)) (drop-append-le from text more (omega (arith, order, within)))
    ∙ take-append-le (to - from) (drop from text) more (omega (arith, order, within, length-drop from text))

-- more text after a page
text_after : (from : ℕ) (text more : List ℕ) (is : List Insertion) → AreInOrder from text is → with_insertions from (text ++ more) is ≡ with_insertions from text is ++ more
text_after from text more [] order = drop-append-le from text more order.0
text_after from text more (i ∷ is) order =
    ap₂ (λ part rest. (part ++ i.text) ++ rest) (slice_same from i.place text more order.1 (first_place i.place text is order.2).0) (text_after i.place text more is order.2)
    ∙ sym (append_assoc (slice_range text from i.place ++ i.text) (with_insertions i.place text is) more)

drop_whole : (text : List ℕ) → drop (length text) text ≡ []
drop_whole text = ap (drop (length text)) (sym (append-nil text)) ∙ drop-append_seam text []

-- one more insertion after a page
pub insertion_after : (from : ℕ) (text : List ℕ) (is : List Insertion) (i : Insertion) → i.place ≡ length text → AreInOrder from text is
    → with_insertions from text (is ++ i ∷ []) ≡ with_insertions from text is ++ i.text
insertion_after from text [] i at order =
    ap (λ n. (slice_range text from n ++ i.text) ++ drop n text) at
    ∙ ap₂ (λ part rest. (part ++ i.text) ++ rest) (take_all (length text - from) (drop from text) (omega (arith, length-drop from text))) (drop_whole text)
    ∙ append-nil (drop from text ++ i.text)
insertion_after from text (j ∷ is) i at order =
    ap (λ t. (slice_range text from j.place ++ j.text) ++ t) (insertion_after j.place text is i at order.2)
    ∙ sym (append_assoc (slice_range text from j.place ++ j.text) (with_insertions j.place text is) i.text)

-- ---- text is put after a page, unless memory runs out

module _ {Z : Type 0} (old new : String Z) (more : List ℕ) (is : List Insertion) (order : AreInOrder 0 (string_bytes old) is) where
  in_order : string_bytes new ≡ string_bytes old ++ more → AreInOrder 0 (string_bytes new) is
  in_order pushed = order_grows 0 (string_bytes old) more (string_bytes new) is pushed (IsUtf8-string_bytes old) (IsUtf8-string_bytes new) order

  stands_after : string_bytes new ≡ string_bytes old ++ more → (seen : List ℕ) → with_insertions 0 (string_bytes old) is ≡ seen
      → with_insertions 0 (string_bytes new) is ≡ seen ++ more
  stands_after pushed seen view = ap (λ t. with_insertions 0 t is) pushed ∙ text_after 0 (string_bytes old) more is order ∙ ap (λ t. t ++ more) view

  -- by a call that leaves the text as it is then
  module _ {T E : Type 0} where
    pub pushed_in_order : (r : Result T E) → string_bytes new ≡ (if is_ok r then string_bytes old ++ more else string_bytes old) → AreInOrder 0 (string_bytes new) is
    pushed_in_order (Ok x) pushed = in_order pushed
    pushed_in_order (Err e) pushed = subst (λ t. AreInOrder 0 t is) (sym pushed) order

    pub pushed_beyond : (r : Result T E) → string_bytes new ≡ (if is_ok r then string_bytes old ++ more else string_bytes old)
        → (seen : List ℕ) → with_insertions 0 (string_bytes old) is ≡ seen → OnOk r (with_insertions 0 (string_bytes new) is ≡ seen ++ more)
    pushed_beyond (Ok x) pushed seen view = stands_after pushed seen view
    pushed_beyond (Err e) pushed seen view = tt

    -- with one that may have added a prefix, after which no insertion stays
    settled_by_case : (r : Result T E) (kept : List Insertion) → OnOk r (string_bytes new ≡ string_bytes old ++ more) → OnOk r (kept ≡ is) → OnErr r (kept ≡ [])
        → AreInOrder 0 (string_bytes new) kept
    settled_by_case (Ok x) kept pushed same none = subst (AreInOrder 0 (string_bytes new)) (sym same) (in_order pushed)
    settled_by_case (Err e) kept pushed same none = subst (AreInOrder 0 (string_bytes new)) (sym none) (IsCharBoundary-start (string_bytes new) (IsUtf8-string_bytes new))

    after_by_case : (r : Result T E) (kept : List Insertion) → OnOk r (string_bytes new ≡ string_bytes old ++ more) → OnOk r (kept ≡ is)
        → (seen : List ℕ) → with_insertions 0 (string_bytes old) is ≡ seen → OnOk r (with_insertions 0 (string_bytes new) kept ≡ seen ++ more)
    after_by_case (Ok x) kept pushed same seen view = ap (with_insertions 0 (string_bytes new)) same ∙ stands_after pushed seen view
    after_by_case (Err e) kept pushed same seen view = tt

    pub settled_in_order : (pushed r : Result T E) (kept : List Insertion) → r ≡ pushed → OnOk pushed (string_bytes new ≡ string_bytes old ++ more) → OnOk r (kept ≡ is)
        → OnErr r (kept ≡ []) → AreInOrder 0 (string_bytes new) kept
    settled_in_order pushed r kept handed done same none =
        settled_by_case r kept (subst (λ q. OnOk q (string_bytes new ≡ string_bytes old ++ more)) (sym handed) done) same none

    pub settled_beyond : (pushed r : Result T E) (kept : List Insertion) → r ≡ pushed → OnOk pushed (string_bytes new ≡ string_bytes old ++ more) → OnOk r (kept ≡ is)
        → (seen : List ℕ) → with_insertions 0 (string_bytes old) is ≡ seen → OnOk r (with_insertions 0 (string_bytes new) kept ≡ seen ++ more)
    settled_beyond pushed r kept handed done same seen view =
        after_by_case r kept (subst (λ q. OnOk q (string_bytes new ≡ string_bytes old ++ more)) (sym handed) done) same seen view

-- ---- lengths

-- those of the insertions together
abbrev pub lengths : List Insertion → ℕ
lengths [] = 0
lengths (i ∷ is) = length i.text + lengths is

length_from : (from : ℕ) (text : List ℕ) (is : List Insertion) → AreInOrder from text is → from + length (with_insertions from text is) ≡ length text + lengths is
length_from from text [] order = omega (arith, order.0, length-drop from text)
length_from from text (i ∷ is) order =
    let within = first_place i.place text is order.2 in
    let part : length (slice_range text from i.place) ≡ i.place - from = length-take-le (i.place - from) (drop from text) (omega (arith, order.1, within.0, length-drop from text)) in
    omega (arith, order.1, part, length_from i.place text is order.2, length-append (slice_range text from i.place ++ i.text) (with_insertions i.place text is), length-append (slice_range text from i.place) i.text)

pub length_page : (text : List ℕ) (is : List Insertion) → AreInOrder 0 text is → length (with_insertions 0 text is) ≡ length text + lengths is
length_page text is order = omega (arith, length_from 0 text is order)

-- ---- pages

-- the last page is put after the full ones, and a new one is the last
pub laid_aside : (pages new : List (List ℕ)) (old full page fresh : List ℕ) → new ≡ pages ++ full ∷ [] → full ≡ old → fresh ≡ page → page ≡ []
    → (seen : List ℕ) → concat pages ++ old ≡ seen → concat new ++ fresh ≡ seen
laid_aside pages new old full page fresh pushed same opened empty seen view =
    ap₂ (λ items last. concat items ++ last) pushed (opened ∙ empty) ∙ append-nil (concat (pages ++ full ∷ []))
    ∙ concat-append pages (full ∷ []) ∙ ap (λ t. concat pages ++ t) (append-nil full ∙ same) ∙ view
