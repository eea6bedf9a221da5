-- What has gone out of a text that is written in pieces.
use Rattle.std.proofs.Common.{◌≡◌, ℕ, ◌+◌, ◌-◌, ◌*◌, ◌<◌, ◌≤◌, List, [], ◌∷◌, ◌++◌, length, take, drop, get_or, suc, refl, sym, ap, ap₂, subst, ◌∙◌, arith, append_assoc, append-nil, length-append, length-drop, mul-suc, take_all}
use Rattle.std.specs.Io.KnownBytes.{Appends}
use Rattle.std.proofs.Math.Seq.{drop-cons, drop-drop, take-append-add}
use Rattle.std.proofs.lemmas.List.{take-append-le}
use Rattle.std.specs.Prelude.{Result, Ok, Err, Option, Some, None, flat_map}
use Rattle.std.specs.List.{slice_range, concat}
use Rattle.std.proofs.lemmas.List.Concat.{flat_map-append}
use Rattle.cm_text.specs.DeviceViews.{SinkView}
use Rattle.cm_text.specs.Writing.{Wrote}
use Rattle.cm_text.specs.declared.writing.WriteFailed.{WriteFailed}
use Rattle.cm_text.proofs.lemmas.WriteLemmas.{appends-append}
use Rattle.cm_html.specs.steps.Pages.{Added, Adds, WritesMore, with_insertions}
use Rattle.cm_html.specs.declared.page.Insertion.{Insertion}
use Rattle.cm_html.specs.declared.outgoing.Outgoing.{Outgoing}

-- what is written after what was written

module _ (a b c : SinkView) (first second : List ℕ) (before : Wrote a b first 0) where
  whole : (failures : ℕ) → Wrote b c second failures → Wrote a c (first ++ second) failures
  whole failures out = record {
    appends = appends-append a.taken b.taken c.taken first second before.appends out.appends;
    failed = omega (arith, before.failed, out.failed);
  }

  front : (n failures : ℕ) → Wrote b c (take n second) failures → Wrote a c (take (length first + n) (first ++ second)) failures
  front n failures out = record {
    appends = subst (λ t. Appends a.taken c.taken t) (sym (take-append-add first second n)) (appends-append a.taken b.taken c.taken first (take n second) before.appends out.appends);
    failed = omega (arith, before.failed, out.failed);
  }

  pub beyond : (r : Result ℕ WriteFailed) (written between : ℕ) → between ≡ written + length first → WritesMore r between second b c → WritesMore r written (first ++ second) a c
  beyond (Ok n) written between at out = (whole 0 out.0, omega (arith, at, out.1, length-append first second))
  beyond (Err e) written between at out =
      (length first + out.0, (front out.0 1 out.1.0, omega (arith, out.1.1, length-append first second)), omega (arith, at, out.2))

-- what is lost of a front is lost of the whole
lost : (b c : SinkView) (first second : List ℕ) (failed : WriteFailed) (written : ℕ) → WritesMore (Err failed) written first b c → WritesMore (Err failed) written (first ++ second) b c
lost b c first second failed written out =
    (out.0, (subst (λ t. Wrote b c t 1) (sym (take-append-le out.0 first second out.1.1)) out.1.0, omega (arith, out.1.1, length-append first second)), out.2)

-- ---- what waits to be written

nothing : (a : Option (List ℕ)) → Appends a a []
nothing None = tt
nothing (Some xs) = sym (append-nil xs)

-- nothing is added
pub none_added : (o : Outgoing) (a : SinkView) → Added o o [] a a
none_added o a = record {
  gone = [];
  parts = sym (append-nil o.waiting.items);
  counted = omega arith;
  wrote = record { appends = nothing a.taken; failed = omega arith };
}

-- what waits and what was written decide what is added
pub added_alike : {T : Type 0} (a b : SinkView) (piece : List ℕ) (old alike new : Outgoing) (r : Result T WriteFailed) → alike.waiting.items ≡ old.waiting.items → alike.written ≡ old.written
    → Adds r alike new piece a b → Adds r old new piece a b
added_alike a b piece old alike new (Ok x) waiting written added = record {
  gone = added.gone;
  parts = added.parts ∙ ap (λ t. t ++ piece) waiting;
  counted = omega (arith, added.counted, written);
  wrote = added.wrote;
}
added_alike a b piece old alike new (Err e) waiting written out =
    subst (λ n. WritesMore (Err e) n (old.waiting.items ++ piece) a b) written (subst (λ t. WritesMore (Err e) alike.written (t ++ piece) a b) waiting out)

-- what isn't added to a sink of a piece isn't added of a longer one
pub cut_short : (a b : SinkView) (first second : List ℕ) (old new : Outgoing) (failed : WriteFailed) → WritesMore (Err failed) old.written (old.waiting.items ++ first) a b
    → WritesMore (Err failed) old.written (old.waiting.items ++ (first ++ second)) a b
cut_short a b first second old new failed out =
    subst (λ t. WritesMore (Err failed) old.written t a b) (append_assoc old.waiting.items first second) (lost a b (old.waiting.items ++ first) second failed old.written out)

module _ (a b : SinkView) (first second : List ℕ) (old mid : Outgoing) (added : Added old mid first a b) where
  joined : added.gone ++ (mid.waiting.items ++ second) ≡ old.waiting.items ++ (first ++ second)
  joined = sym (append_assoc added.gone mid.waiting.items second) ∙ ap (λ t. t ++ second) added.parts ∙ append_assoc old.waiting.items first second

  -- one piece after another
  pub both : {T : Type 0} (r : Result T WriteFailed) (new : Outgoing) (c : SinkView) → Adds r mid new second b c → Adds r old new (first ++ second) a c
  both (Ok x) new c next = record {
    gone = added.gone ++ next.gone;
    parts = append_assoc added.gone next.gone new.waiting.items ∙ ap (λ t. added.gone ++ t) next.parts ∙ joined;
    counted = omega (arith, added.counted, next.counted, length-append added.gone next.gone);
    wrote = whole a b c added.gone next.gone added.wrote 0 next.wrote;
  }
  both (Err e) new c out =
      subst (λ t. WritesMore (Err e) old.written t a c) joined (beyond a b c added.gone (mid.waiting.items ++ second) added.wrote (Err e) old.written mid.written added.counted out)

  -- what is left doesn't make more bytes than the whole
  pub still_fits : (limit : ℕ) → old.written + length (old.waiting.items ++ (first ++ second)) < limit → mid.written + length (mid.waiting.items ++ second) < limit
  still_fits limit fits = omega (arith, fits, added.counted, ap length joined, length-append added.gone (mid.waiting.items ++ second))

-- Of the whole, this is left to be added.
pub record Sent (old now : Outgoing) (all left : List ℕ) (a b : SinkView) : Type 0 where
  pub done : List ℕ
  pub parts : done ++ left ≡ all
  pub added : Added old now done a b

-- all of it is
pub all_left : (o : Outgoing) (all : List ℕ) (a : SinkView) → Sent o o all all a a
all_left o all a = record { done = []; parts = refl; added = none_added o a }

module _ (old now : Outgoing) (all left : List ℕ) (a b : SinkView) (sent : Sent old now all left a b) where
  -- what is left doesn't make more bytes than the whole
  pub left_fits : (limit : ℕ) → old.written + length (old.waiting.items ++ all) < limit → now.written + length (now.waiting.items ++ left) < limit
  left_fits limit fits = still_fits a b sent.done left old now sent.added limit (subst (λ t. old.written + length (old.waiting.items ++ t) < limit) (sym sent.parts) fits)

  -- the rest is added, or not
  pub last_sent : {T : Type 0} (r : Result T WriteFailed) (new : Outgoing) (c : SinkView) → Adds r now new left b c → Adds r old new all a c
  last_sent r new c out = subst (λ t. Adds r old new t a c) sent.parts (both a b sent.done left old now sent.added r new c out)

  module _ (piece rest : List ℕ) (split : piece ++ rest ≡ left) where
    pub piece_fits : (limit : ℕ) → old.written + length (old.waiting.items ++ all) < limit → now.written + length (now.waiting.items ++ piece) < limit
    piece_fits limit fits =
        omega (arith, left_fits limit fits, ap length split, length-append piece rest, length-append now.waiting.items left, length-append now.waiting.items piece)

    -- the next piece is added
    pub next_sent : (new : Outgoing) (c : SinkView) → Added now new piece b c → Sent old new all rest a c
    next_sent new c added = record {
      done = sent.done ++ piece;
      parts = append_assoc sent.done piece rest ∙ ap (λ t. sent.done ++ t) split ∙ sent.parts;
      added = both a b sent.done piece old now sent.added {T = Unit} (Ok tt) new c added;
    }

    -- the next piece isn't
    pub next_lost : (new : Outgoing) (c : SinkView) (failed : WriteFailed) → WritesMore (Err failed) now.written (now.waiting.items ++ piece) b c
        → WritesMore (Err failed) old.written (old.waiting.items ++ all) a c
    next_lost new c failed out =
        last_sent {T = ℕ} (Err failed) new c (subst (λ t. WritesMore (Err failed) now.written (now.waiting.items ++ t) b c) split (cut_short b c piece rest now new failed out))

-- the whole has been added, and what waits is written, or not
pub finished : (old now : Outgoing) (all : List ℕ) (a b c : SinkView) → old.waiting.items ≡ [] → old.written ≡ 0 → Added old now all a b
    → (r : Result ℕ WriteFailed) → WritesMore r now.written now.waiting.items b c → WritesMore r 0 all a c
finished old now all a b c waiting written added r out =
    subst (λ t. WritesMore r 0 t a c) (added.parts ∙ ap (λ t. t ++ all) waiting)
    (beyond a b c added.gone now.waiting.items added.wrote r 0 now.written (omega (arith, added.counted, written)) out)

-- a text, up to the first byte that is held for a phrase
pub cut : (f : ℕ → List ℕ) (rest before after shown phrase : List ℕ) (at : ℕ) → flat_map f rest ≡ take at rest ++ (phrase ++ flat_map f (drop (at + 1) rest))
    → before ≡ take at rest → after ≡ drop at rest → shown ≡ phrase
    → (before ++ shown) ++ flat_map f (take (length after - 1) (drop 1 after)) ≡ flat_map f rest
cut f rest before after shown phrase at found starts ends is =
    let left : take (length after - 1) (drop 1 after) ≡ drop (at + 1) rest = take_all _ (drop 1 after) (omega (arith, length-drop 1 after)) ∙ ap (drop 1) ends ∙ drop-drop 1 at rest in
    ap (λ t. (before ++ shown) ++ flat_map f t) left
    ∙ append_assoc before shown (flat_map f (drop (at + 1) rest))
    ∙ ap₂ (λ first next. first ++ (next ++ flat_map f (drop (at + 1) rest))) starts is
    ∙ sym found

-- each byte is written as it is
pub as_it_is : (bytes : List ℕ) → flat_map (λ b. b ∷ []) bytes ≡ bytes
as_it_is [] = refl
as_it_is (b ∷ bytes) = ap (λ t. b ∷ t) (as_it_is bytes)

-- or as up to a number of them
pub no_longer : (f : ℕ → List ℕ) (longest : ℕ) → ((b : ℕ) → length (f b) ≤ longest) → (bytes : List ℕ) → length (flat_map f bytes) ≤ longest * length bytes
no_longer f longest short [] = omega arith
no_longer f longest short (b ∷ bytes) =
    omega (arith, short b, no_longer f longest short bytes, length-append (f b) (flat_map f bytes), mul-suc longest (length bytes))

-- the item at a place, and those after it
pub next_item : {A : Type 0} (xs : List A) (at : ℕ) (x : A) → at < length xs → get_or xs at x ≡ x → drop at xs ≡ x ∷ drop (at + 1) xs
next_item xs at x low here =
    let next : suc at ≡ at + 1 = omega arith in
    drop-cons xs at x low ∙ ap₂ (λ first n. first ∷ drop n xs) here next

-- the page at a place is written before those after it
pub page_first : (f : ℕ → List ℕ) (pages : List (List ℕ)) (at : ℕ) (page : List ℕ) → at < length pages → get_or pages at page ≡ page
    → flat_map f page ++ flat_map f (concat (drop (at + 1) pages)) ≡ flat_map f (concat (drop at pages))
page_first f pages at page low here = sym (flat_map-append f page (concat (drop (at + 1) pages))) ∙ ap (λ ps. flat_map f (concat ps)) (sym (next_item pages at page low here))

-- the text up to an insertion, and what is inserted, before what comes next
pub insertion_first : (f : ℕ → List ℕ) (from at : ℕ) (text inserted : List ℕ) (is : List Insertion) (i : Insertion) → at < length is → get_or is at i ≡ i → inserted ≡ i.text
    → flat_map f (slice_range text from i.place ++ inserted) ++ flat_map f (with_insertions i.place text (drop (at + 1) is)) ≡ flat_map f (with_insertions from text (drop at is))
insertion_first f from at text inserted is i low here same =
    let others = with_insertions i.place text (drop (at + 1) is) in
    sym (flat_map-append f (slice_range text from i.place ++ inserted) others)
    ∙ ap (λ t. flat_map f ((slice_range text from i.place ++ t) ++ others)) same
    ∙ ap (λ l. flat_map f (with_insertions from text l)) (sym (next_item is at i low here))
