-- What each inline of a leaf holds, if each that reading finishes does: by induction over the items, their pairing and the source.
use Rattle.std.proofs.Common.{◌≡◌, ℕ, zero, suc, ◌-◌, Bool, true, false, not, ◌&&◌, ◌||◌, List, [], ◌∷◌, ◌++◌, length, replicate, reverse, map, sum_by, Option, Some, None, codes, refl, sym, ap, subst, ◌∙◌, IfSome, nat_le}
use Rattle.std.specs.Prelude.{⊤, ◌==◌, if◌then◌else◌, drop, encode_utf8_all}
use Rattle.std.proofs.lemmas.Option.{none-some}
use Rattle.std.proofs.lemmas.List.{reverse-append}
use Rattle.cm_text.specs.Rules.{Rules}
use Rattle.cm_text.specs.Addresses.{is_followed}
use Rattle.cm_tree.specs.declared.tree.Inline.{Inline}
use Rattle.cm_tree.specs.declared.tree.Inline.TheVariants.{Text, Code, Html, Soft, Hard, Emph, Strong, Strike, Link, Image, outs-Text, outs-Code, outs-Html, outs-Soft, outs-Hard, outs-Emph, outs-Strong, outs-Strike, outs-Link, outs-Image}
use Rattle.cm_tree.specs.declared.tree.Inline.TheFolds.{fold_out-Inline}
use Rattle.cm_tree.specs.RawHtml.{raw_inline_step, inline_has_raw, inlines_have_raw}
use Rattle.cm_tree.specs.HeadingLevels.{all_of}
use Rattle.cm_tree.specs.Followed.{followed_inline_step, inline_is_followed}
use Rattle.cm_scan.specs.inlines.Delimiters.{Run, delimiters_match}
use Rattle.cm_scan.specs.inlines.Pairing.{Item, Characters, Finished, Linked, Delimiters, Opener, Opened, bracket_text, text_before, settled_after, settled, used, emphasised, without, paired, nearest_opener, pair_leftmost, pair_once, pairs_within, pair_all, room, emphasis_of}
use Rattle.cm_scan.specs.Words.{run_length, after_run, after_word, given, ◌<|>◌}
use Rattle.cm_text.specs.Unescaping.{escape}
use Rattle.cm_text.specs.References.{reference}
use Rattle.cm_scan.specs.spans.CodeSpans.{code_span}
use Rattle.cm_scan.specs.inlines.Links.{Reading}
use Rattle.cm_scan.specs.spans.RawHtml.{raw_html}
use Rattle.cm_scan.specs.spans.Autolinks.{Autolink, autolink, followed_autolink}
use Rattle.cm_scan.specs.spans.Angles.{Angled, Addressed, Tagged, at_angle}
use Rattle.cm_scan.specs.inlines.Atoms.{Atom, Plain, Whole, Delimiter, OpenBracket, CloseBracket, AtomRead, read, link_of, backtick_atom, angle_atom, backslash_atom, reference_atom, break_atom, run_atom, tilde_atom, bang_atom, is_markup, markup_atom, byte_atom, or_byte, atom_at}
use Rattle.cm_scan.specs.inlines.Brackets.{LinkEnd, Defined, inline_end, reference_end, end_if_followed, end_at, OpenerFound, last_opener, holds_link, made, Bracketed, bracket_is_text, brackets_are_text, source_up_to, closed_by_bracket, close_bracket}
use Rattle.cm_scan.specs.inlines.Inlines.{add_atom, item_step, items_after, items_of, inlines_of}
use Rattle.cm_scan.proofs.lemmas.spans.RawHtmlGoesOn.{raw-off}
use Rattle.cm_scan.specs.laws.RuleLaws.{NoRawHtml, InlinesFollowed}
use Rattle.cm_scan.specs.steps.SpanSteps.{link_if_followed, tagged}

-- ---- any property that text and emphasis keep

-- what an inline holds, and what inlines do
record Kept : Type 1 where
  Ok : Inline → Type 0
  All : List Inline → Type 0
  nothing : All []
  more : (i : Inline) (is : List Inline) → Ok i → All is → All (i ∷ is)
  text : (t : List ℕ) → Ok (Text t)
  emph : (is : List Inline) → All is → Ok (Emph is)
  strong : (is : List Inline) → All is → Ok (Strong is)
  strike : (is : List Inline) → All is → Ok (Strike is)

module _ (K : Kept) where
  abbrev ItemOk : Item → Type 0
  ItemOk (Finished i) = K.Ok i
  ItemOk (Linked i) = K.Ok i
  ItemOk _ = ⊤

  abbrev ItemsOk : List Item → Type 0
  ItemsOk [] = ⊤
  ItemsOk (x ∷ xs) = ItemOk x × ItemsOk xs

  both-ok : (xs ys : List Item) → ItemsOk xs → ItemsOk ys → ItemsOk (xs ++ ys)
  both-ok [] ys h k = k
  both-ok (x ∷ xs) ys h k = (h.0, both-ok xs ys h.1 k)

  reverse-ok : (xs : List Item) → ItemsOk xs → ItemsOk (reverse xs)
  reverse-ok [] h = tt
  reverse-ok (x ∷ xs) h = subst ItemsOk (sym (reverse-append (x ∷ []) xs)) (both-ok (reverse xs) (x ∷ []) (reverse-ok xs h.1) (h.0, tt))

  text_before-ok : (t : List ℕ) (is : List Inline) → K.All is → K.All (text_before t is)
  text_before-ok [] is h = h
  text_before-ok (b ∷ bs) is h = K.more (Text (b ∷ bs)) is (K.text (b ∷ bs)) h

  settled-ok : (t : List ℕ) (xs : List Item) → ItemsOk xs → K.All (settled_after t xs)
  unfolding settled_after
  settled-ok t [] h = text_before-ok t [] K.nothing
  settled-ok t (Characters more ∷ xs) h = settled-ok (t ++ more) xs h.1
  settled-ok t (Finished i ∷ xs) h = text_before-ok t (i ∷ settled_after [] xs) (K.more i (settled_after [] xs) h.0 (settled-ok [] xs h.1))
  settled-ok t (Linked i ∷ xs) h = text_before-ok t (i ∷ settled_after [] xs) (K.more i (settled_after [] xs) h.0 (settled-ok [] xs h.1))
  settled-ok t (Delimiters run ∷ xs) h = settled-ok (t ++ replicate run.left run.character) xs h.1
  settled-ok t (Opener image source ∷ xs) h = settled-ok (t ++ bracket_text image) xs h.1

  -- pairing

  emphasised-ok : (character count : ℕ) (is : List Inline) → K.All is → K.Ok (emphasised character count is)
  emphasised-ok character count is h = go (character == 126) (count == 2)
    where
      go : (s t : Bool) → K.Ok (if s then Strike is else (if t then Strong is else Emph is))
      go true t = K.strike is h
      go false true = K.strong is h
      go false false = K.emph is h

  without-ok : (n : ℕ) (r : Run) → ItemsOk (without n r)
  without-ok n r = go (nat_le r.left n)
    where
      go : (t : Bool) → ItemsOk (if t then [] else Delimiters (record r { left = r.left - n }) ∷ [])
      go true = tt
      go false = (tt, tt)

  paired-ok : (before : List Item) (o : Run) (inside : List Item) (c : Run) (after : List Item) → ItemsOk before → ItemsOk inside → ItemsOk after → ItemsOk (paired before o inside c after)
  unfolding paired
  paired-ok before o inside c after h i a =
      let n = used o c in
      let pair : Item = Finished (emphasised c.character n (settled inside)) in
      both-ok (before ++ without n o ++ (pair ∷ without n c)) after
      (both-ok (before ++ without n o) (pair ∷ without n c) (both-ok before (without n o) h (without-ok n o))
      (emphasised-ok c.character n (settled inside) (settled-ok [] inside i), without-ok n c)) a

  abbrev OpenedOk : Option Opened → Type 0
  OpenedOk found = IfSome found (λ (o : Opened). ItemsOk o.before × ItemsOk o.inside)

  nearest-ok : (c : Run) (before inside : List Item) → ItemsOk before → ItemsOk inside → OpenedOk (nearest_opener c before inside)
  unfolding nearest_opener
  nearest-ok c [] inside h i = tt
  nearest-ok c (Characters t ∷ before) inside h i = nearest-ok c before (Characters t ∷ inside) h.1 (tt, i)
  nearest-ok c (Finished x ∷ before) inside h i = nearest-ok c before (Finished x ∷ inside) h.1 (h.0, i)
  nearest-ok c (Linked x ∷ before) inside h i = nearest-ok c before (Linked x ∷ inside) h.1 (h.0, i)
  nearest-ok c (Opener b n ∷ before) inside h i = nearest-ok c before (Opener b n ∷ inside) h.1 (tt, i)
  nearest-ok c (Delimiters run ∷ before) inside h i = go (run.opens && delimiters_match c run) (nearest-ok c before (Delimiters run ∷ inside) h.1 (tt, i))
    where
      go : (t : Bool) → OpenedOk (nearest_opener c before (Delimiters run ∷ inside))
          → OpenedOk (elim t [ true ↦ Some (record { before = reverse before; opener = run; inside = inside }) | false ↦ nearest_opener c before (Delimiters run ∷ inside) ])
      go true k = (reverse-ok before h.1, i)
      go false k = k

  abbrev PairOk : Option (List Item) → Type 0
  PairOk found = IfSome found (λ (xs : List Item). ItemsOk xs)

  leftmost-ok : (before xs : List Item) → ItemsOk before → ItemsOk xs → PairOk (pair_leftmost before xs)
  unfolding pair_leftmost
  leftmost-ok before [] h k = tt
  leftmost-ok before (Characters t ∷ after) h k = leftmost-ok (Characters t ∷ before) after (tt, h) k.1
  leftmost-ok before (Finished x ∷ after) h k = leftmost-ok (Finished x ∷ before) after (k.0, h) k.1
  leftmost-ok before (Linked x ∷ after) h k = leftmost-ok (Linked x ∷ before) after (k.0, h) k.1
  leftmost-ok before (Opener b n ∷ after) h k = leftmost-ok (Opener b n ∷ before) after (tt, h) k.1
  leftmost-ok before (Delimiters run ∷ after) h k =
      go run.closes (nearest_opener run before []) (nearest-ok run before [] h tt) (leftmost-ok (Delimiters run ∷ before) after (tt, h) k.1)
    where
      go : (t : Bool) (found : Option Opened) → OpenedOk found → PairOk (pair_leftmost (Delimiters run ∷ before) after)
          → PairOk (elim t [
            | true ↦ elim found [
              | Some o ↦ Some (paired o.before o.opener o.inside run after)
              | None ↦ pair_leftmost (Delimiters run ∷ before) after
            ]
            | false ↦ pair_leftmost (Delimiters run ∷ before) after
          ])
      go true (Some o) f m = paired-ok o.before o.opener o.inside run after f.0 f.1 k.1
      go true None f m = m
      go false found f m = m

  pairs-ok : (n : ℕ) (xs : List Item) → ItemsOk xs → ItemsOk (pairs_within n xs)
  unfolding pairs_within
  pairs-ok zero xs h = h
  pairs-ok (suc n) xs h = go (pair_once xs) (leftmost-ok [] xs tt h) (λ ys k. pairs-ok n ys k)
    where
      go : (found : Option (List Item)) → PairOk found → ((ys : List Item) → ItemsOk ys → ItemsOk (pairs_within n ys))
          → ItemsOk (elim found [ Some ys ↦ pairs_within n ys | None ↦ xs ])
      go None f further = h
      go (Some ys) f further = further ys f

  emphasis-ok : (xs : List Item) → ItemsOk xs → K.All (emphasis_of xs)
  unfolding pair_all
  emphasis-ok xs h = settled-ok [] (pair_all xs) (pairs-ok (sum_by room xs) xs h)

  -- ---- reading

  abbrev AtomOk : Atom → Type 0
  AtomOk (Whole i) = K.Ok i
  AtomOk _ = ⊤

  abbrev EndOk : Option LinkEnd → Type 0
  EndOk found = IfSome found (λ (end : LinkEnd). (is : List Inline) → K.All is → K.Ok (Link end.dest end.title is) × K.Ok (Image end.dest end.title is))

  abbrev FoundOk : Option OpenerFound → Type 0
  FoundOk found = IfSome found (λ (o : OpenerFound). ItemsOk o.before × ItemsOk o.inside)

  last-ok : (xs inside : List Item) → ItemsOk xs → ItemsOk inside → FoundOk (last_opener xs inside)
  unfolding last_opener
  last-ok [] inside h i = tt
  last-ok (Characters t ∷ before) inside h i = last-ok before (Characters t ∷ inside) h.1 (tt, i)
  last-ok (Finished x ∷ before) inside h i = last-ok before (Finished x ∷ inside) h.1 (h.0, i)
  last-ok (Linked x ∷ before) inside h i = last-ok before (Linked x ∷ inside) h.1 (h.0, i)
  last-ok (Delimiters r ∷ before) inside h i = last-ok before (Delimiters r ∷ inside) h.1 (tt, i)
  last-ok (Opener image source ∷ before) inside h i = (h.1, i)

  made-ok : (image : Bool) (end : LinkEnd) (inside : List Item) → EndOk (Some end) → ItemsOk inside → ItemOk (made image end.dest end.title inside)
  made-ok false end inside e i = (e (emphasis_of inside) (emphasis-ok inside i)).0
  made-ok true end inside e i = go (holds_link inside)
    where
      go : (t : Bool) → ItemOk (if t then Linked (Image end.dest end.title (emphasis_of inside)) else Finished (Image end.dest end.title (emphasis_of inside)))
      go true = (e (emphasis_of inside) (emphasis-ok inside i)).1
      go false = (e (emphasis_of inside) (emphasis-ok inside i)).1

  brackets-ok : (found : OpenerFound) → ItemsOk found.before → ItemsOk found.inside → ItemsOk (brackets_are_text found)
  brackets-ok found h i = (tt, both-ok (reverse found.inside) (Characters (bracket_text found.image) ∷ found.before) (reverse-ok found.inside i) (tt, h))

  module _ (rules : Rules) (defined : Defined)
      (whole : (before : List ℕ) (b : ℕ) (bs : List ℕ) → AtomOk (atom_at rules before b bs).atom)
      (ends : (between text : List ℕ) → EndOk (end_at rules defined between text)) where
    closed-ok : (found : OpenerFound) (rest : List ℕ) → ItemsOk found.before → ItemsOk found.inside → ItemsOk (closed_by_bracket rules defined found rest).items
    unfolding closed_by_bracket
    closed-ok found rest h i =
        go (not found.image && holds_link found.inside) (end_at rules defined (source_up_to found.source (93 ∷ rest)) rest) (ends (source_up_to found.source (93 ∷ rest)) rest)
      where
        by : Bool → Option LinkEnd → Bracketed
        by t end = elim t as (λ _. Bracketed) [
          | true ↦ record { items = brackets_are_text found; rest = rest }
          | false ↦ elim end as (λ _. Bracketed) [
            | Some e ↦ record { items = made found.image e.dest e.title found.inside ∷ found.before; rest = e.rest }
            | None ↦ record { items = brackets_are_text found; rest = rest }
          ]
        ]

        go : (t : Bool) (end : Option LinkEnd) → EndOk end → ItemsOk (by t end).items
        go true end e = brackets-ok found h i
        go false None e = brackets-ok found h i
        go false (Some end) e = (made-ok found.image end found.inside e i, h)

    bracket-ok : (xs : List Item) (rest : List ℕ) → ItemsOk xs → ItemsOk (close_bracket rules defined xs rest).items
    unfolding close_bracket
    bracket-ok xs rest h = go (last_opener xs []) (last-ok xs [] h tt)
      where
        by : Option OpenerFound → Bracketed
        by o = elim o as (λ _. Bracketed) [ Some found ↦ closed_by_bracket rules defined found rest | None ↦ record { items = bracket_is_text xs; rest = rest } ]

        go : (o : Option OpenerFound) → FoundOk o → ItemsOk (by o).items
        go None f = (tt, h)
        go (Some found) f = closed-ok found rest f.0 f.1

    add-ok : (xs : List Item) (a : Atom) (rest : List ℕ) → AtomOk a → ItemsOk xs → ItemsOk (add_atom rules defined xs a rest).items
    unfolding add_atom
    add-ok xs (Plain t) rest a h = (tt, h)
    add-ok xs (Whole i) rest a h = (a, h)
    add-ok xs (Delimiter run) rest a h = (tt, h)
    add-ok xs (OpenBracket image) rest a h = (tt, h)
    add-ok xs CloseBracket rest a h = bracket-ok xs rest h

    after-ok : (n : ℕ) (before source : List ℕ) (xs : List Item) → ItemsOk xs → ItemsOk (items_after rules defined n before source xs)
    unfolding items_after item_step
    after-ok n before [] xs h = h
    after-ok (suc n) before (b ∷ bs) xs h = after-ok n (b ∷ before) bs xs h
    after-ok zero before (b ∷ bs) xs h =
        let a = atom_at rules before b bs in
        let next = item_step rules defined before b bs xs in
        after-ok (length bs - length next.rest) (b ∷ before) bs next.items (add-ok xs a.atom a.rest (whole before b bs) h)

    inlines-ok : (source : List ℕ) → K.All (inlines_of rules defined source)
    unfolding inlines_of items_of
    inlines-ok source = emphasis-ok (items_of rules defined source) (reverse-ok (items_after rules defined zero [] source []) (after-ok zero [] source [] tt))

  -- the atoms, if those at `<` are; the others are text, code, breaks and marks
  module _ (rules : Rules) (code : (t : List ℕ) → K.Ok (Code t)) (soft : K.Ok Soft) (hard : K.Ok Hard)
      (address : (link : Autolink) → is_followed rules link.destination ≡ true → K.Ok (link_of link))
      (tag : (text rest : List ℕ) → raw_html rules text ≡ Some rest → (t : List ℕ) → K.Ok (Html t)) where
    abbrev ReadOk : Option AtomRead → Type 0
    ReadOk found = IfSome found (λ (a : AtomRead). AtomOk a.atom)

    backtick-ok : (text : List ℕ) → ReadOk (backtick_atom text)
    unfolding backtick_atom
    backtick-ok text = go (code_span text)
      where
        go : (o : Option Reading) → ReadOk (elim o [ Some span ↦ read (Whole (Code span.text)) span.rest | None ↦ read (Plain (replicate (run_length 96 text) 96)) (after_run 96 text) ])
        go None = tt
        go (Some span) = code span.text

    abbrev AngledOk : Option Angled → Type 0
    AngledOk (Some (Addressed link)) = K.Ok (link_of link)
    AngledOk (Some (Tagged t)) = K.Ok (Html t.text)
    AngledOk None = ⊤

    at_angle-ok : (text : List ℕ) → AngledOk (at_angle rules text)
    unfolding at_angle followed_autolink
    at_angle-ok text = go (autolink text)
      where
        by : Option Autolink → Option Angled
        by o = elim o as (λ _. Option Angled) [ Some link ↦ Some (Addressed link) | None ↦ tagged text (raw_html rules text) ]

        other : (o : Option (List ℕ)) → raw_html rules text ≡ o → AngledOk (tagged text o)
        other None e = tt
        other (Some rest) e = tag text rest e _

        judged : (link : Autolink) (t : Bool) → is_followed rules link.destination ≡ t → AngledOk (by (given t link))
        judged link true e = address link e
        judged link false e = other (raw_html rules text) refl

        go : (o : Option Autolink) → AngledOk (by (link_if_followed rules o))
        go None = other (raw_html rules text) refl
        go (Some link) = judged link (is_followed rules link.destination) refl

    angle-ok : (text : List ℕ) → ReadOk (angle_atom rules text)
    unfolding angle_atom
    angle-ok text = go (at_angle rules text) (at_angle-ok text)
      where
        go : (o : Option Angled) → AngledOk o
            → ReadOk (elim o [
              | Some (Addressed link) ↦ read (Whole (link_of link)) link.rest
              | Some (Tagged t) ↦ read (Whole (Html t.text)) t.rest
              | None ↦ None
            ])
        go None h = tt
        go (Some (Addressed link)) h = h
        go (Some (Tagged t)) h = h

    backslash-ok : (text : List ℕ) → ReadOk (backslash_atom text)
    unfolding backslash_atom
    backslash-ok text = go (after_word (codes "\\\n") text) (escape text)
      where
        go : (o : Option (List ℕ)) (e : Option (List ℕ × ℕ))
            → ReadOk (elim o [ Some rest ↦ read (Whole Hard) rest | None ↦ elim e [ Some escaped ↦ read (Plain escaped.0) (drop escaped.1 text) | None ↦ None ] ])
        go (Some rest) e = hard
        go None None = tt
        go None (Some e) = tt

    break-ok : (text : List ℕ) → ReadOk (break_atom text)
    unfolding break_atom
    break-ok text = go (after_word (codes "\n") (after_run 32 text))
      where
        one : (t : Bool) → K.Ok (if t then Hard else Soft)
        one true = hard
        one false = soft

        go : (o : Option (List ℕ)) → ReadOk (elim o [ Some rest ↦ read (Whole (if nat_le 2 (run_length 32 text) then Hard else Soft)) rest | None ↦ None ])
        go None = tt
        go (Some rest) = one (nat_le 2 (run_length 32 text))

    reference-ok : (text : List ℕ) → ReadOk (reference_atom text)
    unfolding reference_atom
    reference-ok text = go (reference text)
      where
        go : (o : Option (List ℕ × ℕ)) → ReadOk (elim o [ Some found ↦ read (Plain (encode_utf8_all found.0)) (drop found.1 text) | None ↦ None ])
        go None = tt
        go (Some found) = tt

    run-ok : (before : List ℕ) (character : ℕ) (text : List ℕ) → ReadOk (run_atom rules before character text)
    unfolding run_atom
    run-ok before character text = tt

    tilde-ok : (before text : List ℕ) → ReadOk (tilde_atom rules before text)
    unfolding tilde_atom
    tilde-ok before text = go (rules.strike && run_length 126 text == 2)
      where
        go : (t : Bool) → ReadOk (elim t [ true ↦ run_atom rules before 126 text | false ↦ read (Plain (replicate (run_length 126 text) 126)) (after_run 126 text) ])
        go true = run-ok before 126 text
        go false = tt

    bang-ok : (text : List ℕ) → ReadOk (bang_atom text)
    unfolding bang_atom
    bang-ok text = go (after_word (codes "![") text)
      where
        go : (o : Option (List ℕ)) → ReadOk (elim o [ Some rest ↦ read (OpenBracket true) rest | None ↦ None ])
        go None = tt
        go (Some rest) = tt

    choice : (t : Bool) (a b : Option AtomRead) → ReadOk a → ReadOk b → ReadOk (if t then a else b)
    choice true a b h k = h
    choice false a b h k = k

    markup-ok : (before : List ℕ) (b : ℕ) (bs : List ℕ) → ReadOk (markup_atom rules before b bs)
    unfolding markup_atom
    markup-ok before b bs =
        choice (b == 96) (backtick_atom (b ∷ bs)) _ (backtick-ok (b ∷ bs))
        (choice (b == 60) (angle_atom rules (b ∷ bs)) _ (angle-ok (b ∷ bs))
        (choice (b == 92) (backslash_atom (b ∷ bs)) _ (backslash-ok (b ∷ bs))
        (choice (b == 38) (reference_atom (b ∷ bs)) _ (reference-ok (b ∷ bs))
        (choice (b == 10 || b == 32) (break_atom (b ∷ bs)) _ (break-ok (b ∷ bs))
        (choice (b == 126) (tilde_atom rules before (b ∷ bs)) _ (tilde-ok before (b ∷ bs))
        (choice (b == 33) (bang_atom (b ∷ bs)) _ (bang-ok (b ∷ bs))
        (choice (b == 91) (read (OpenBracket false) bs) _ tt
        (choice (b == 93) (read CloseBracket bs) (run_atom rules before b (b ∷ bs)) tt (run-ok before b (b ∷ bs))))))))))

    whole-ok : (before : List ℕ) (b : ℕ) (bs : List ℕ) → AtomOk (atom_at rules before b bs).atom
    unfolding atom_at
    whole-ok before b bs = go (is_markup b) (markup_atom rules before b bs) (markup-ok before b bs)
      where
        by : Bool → Option AtomRead → AtomRead
        by t o = elim t as (λ _. AtomRead) [ true ↦ or_byte b bs o | false ↦ byte_atom b bs ]

        go : (t : Bool) (o : Option AtomRead) → ReadOk o → AtomOk (by t o).atom
        go false o h = tt
        go true None h = tt
        go true (Some a) h = h

-- ---- raw HTML

abbrev free-kept : Kept
free-kept = record {
  Ok = λ i. inline_has_raw i ≡ false;
  All = λ is. inlines_have_raw is ≡ false;
  nothing = refl;
  more = λ i is h k. ap (λ t. t || inlines_have_raw is) h ∙ k;
  text = λ t. simp (fold_out-Inline Bool raw_inline_step, outs-Text);
  emph = λ is h. simp (fold_out-Inline Bool raw_inline_step, outs-Emph) h;
  strong = λ is h. simp (fold_out-Inline Bool raw_inline_step, outs-Strong) h;
  strike = λ is h. simp (fold_out-Inline Bool raw_inline_step, outs-Strike) h;
}

free-link : (dest title : List ℕ) (is : List Inline) → inlines_have_raw is ≡ false → inline_has_raw (Link dest title is) ≡ false
free-link dest title is h = simp (fold_out-Inline Bool raw_inline_step, outs-Link) h

free-image : (dest title : List ℕ) (is : List Inline) → inline_has_raw (Image dest title is) ≡ false
free-image dest title is = simp (fold_out-Inline Bool raw_inline_step, outs-Image)

free-code : (t : List ℕ) → inline_has_raw (Code t) ≡ false
free-code t = simp (fold_out-Inline Bool raw_inline_step, outs-Code)

free-soft : inline_has_raw Soft ≡ false
free-soft = simp (fold_out-Inline Bool raw_inline_step, outs-Soft)

free-hard : inline_has_raw Hard ≡ false
free-hard = simp (fold_out-Inline Bool raw_inline_step, outs-Hard)

free-text : (t : List ℕ) → inlines_have_raw (Text t ∷ []) ≡ false
free-text t = simp (fold_out-Inline Bool raw_inline_step, outs-Text)

free-end : (found : Option LinkEnd) → EndOk free-kept found
free-end None = tt
free-end (Some end) = λ is h. (free-link end.dest end.title is h, free-image end.dest end.title is)

pub no_raw_html : NoRawHtml
no_raw_html rules off defined source =
    inlines-ok free-kept rules defined
    (whole-ok free-kept rules free-code free-soft free-hard
    (λ link followed. free-link link.destination [] (Text link.text ∷ []) (free-text link.text))
    (λ text rest e t. absurd (none-some rest (sym (raw-off rules text off) ∙ e))))
    (λ between text. free-end (end_at rules defined between text))
    source

-- ---- addresses

abbrev led-kept : Rules → Kept
led-kept rules = record {
  Ok = λ i. inline_is_followed rules i ≡ true;
  All = λ is. all_of (map (inline_is_followed rules) is) ≡ true;
  nothing = refl;
  more = λ i is h k. ap (λ t. t && all_of (map (inline_is_followed rules) is)) h ∙ k;
  text = λ t. simp (fold_out-Inline Bool (followed_inline_step rules), outs-Text);
  emph = λ is h. simp (fold_out-Inline Bool (followed_inline_step rules), outs-Emph) h;
  strong = λ is h. simp (fold_out-Inline Bool (followed_inline_step rules), outs-Strong) h;
  strike = λ is h. simp (fold_out-Inline Bool (followed_inline_step rules), outs-Strike) h;
}

module _ (rules : Rules) where
  led-link : (dest title : List ℕ) (is : List Inline) → is_followed rules dest ≡ true → all_of (map (inline_is_followed rules) is) ≡ true → inline_is_followed rules (Link dest title is) ≡ true
  led-link dest title is f h = simp (fold_out-Inline Bool (followed_inline_step rules), outs-Link) (ap (λ t. t && all_of (map (inline_is_followed rules) is)) f ∙ h)

  led-image : (dest title : List ℕ) (is : List Inline) → is_followed rules dest ≡ true → inline_is_followed rules (Image dest title is) ≡ true
  led-image dest title is f = simp (fold_out-Inline Bool (followed_inline_step rules), outs-Image) f

  led-code : (t : List ℕ) → inline_is_followed rules (Code t) ≡ true
  led-code t = simp (fold_out-Inline Bool (followed_inline_step rules), outs-Code)

  led-html : (t : List ℕ) → inline_is_followed rules (Html t) ≡ true
  led-html t = simp (fold_out-Inline Bool (followed_inline_step rules), outs-Html)

  led-soft : inline_is_followed rules Soft ≡ true
  led-soft = simp (fold_out-Inline Bool (followed_inline_step rules), outs-Soft)

  led-hard : inline_is_followed rules Hard ≡ true
  led-hard = simp (fold_out-Inline Bool (followed_inline_step rules), outs-Hard)

  led-text : (t : List ℕ) → all_of (map (inline_is_followed rules) (Text t ∷ [])) ≡ true
  led-text t = simp (fold_out-Inline Bool (followed_inline_step rules), outs-Text)

  judged-end : (o : Option LinkEnd) → EndOk (led-kept rules) (end_if_followed rules o)
  judged-end None = tt
  judged-end (Some end) = go (is_followed rules end.dest) refl
    where
      go : (t : Bool) → is_followed rules end.dest ≡ t → EndOk (led-kept rules) (given t end)
      go true e = λ is h. (led-link end.dest end.title is e h, led-image end.dest end.title is e)
      go false e = tt

  led-end : (defined : Defined) (between text : List ℕ) → EndOk (led-kept rules) (end_at rules defined between text)
  unfolding end_at
  led-end defined between text = go (end_if_followed rules (inline_end text)) (judged-end (inline_end text))
    where
      go : (o : Option LinkEnd) → EndOk (led-kept rules) o
          → EndOk (led-kept rules) (o <|> end_if_followed rules (reference_end defined between text))
      go (Some end) h = h
      go None h = judged-end (reference_end defined between text)

pub inlines_followed : InlinesFollowed
inlines_followed rules defined source =
    inlines-ok (led-kept rules) rules defined
    (whole-ok (led-kept rules) rules (led-code rules) (led-soft rules) (led-hard rules)
    (λ link followed. led-link rules link.destination [] (Text link.text ∷ []) followed (led-text rules link.text))
    (λ text rest e t. led-html rules t))
    (led-end rules defined)
    source
