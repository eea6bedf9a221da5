-- A spelling in UTF-8 is that of texts in UTF-8.
use Rattle.std.proofs.Common.{◌≡◌, ℕ, zero, suc, ◌<◌, ◌≤◌, ◌+◌, ◌||◌, ◌&&◌, Bool, true, false, List, [], ◌∷◌, ◌++◌, length, drop, map, replicate, codes, IsUtf8, Option, Some, None, get_or, if◌then◌else◌, refl, sym, ap, subst, ◌∙◌, arith, append_assoc, append-nil, length-append, inl, inr, ◌⊎◌}
use Rattle.std.specs.Char.{is_ascii}
use Rattle.std.specs.List.{list_all}
use Rattle.std.specs.Str.{is_utf8}
use Rattle.std.proofs.lemmas.Bool.{and_parts, and_from, and_left, and_right, cases_lt, lt-ltb}
use Rattle.std.proofs.lemmas.Str.{IsUtf8-append, IsUtf8-nil, IsUtf8-encode, is_utf8-from_IsUtf8, encode_ascii, length-encode, len_utf8_bounds}
use lib.Utf8.{scalar, scalars, encode, encodes}
use Rattle.cm_text.proofs.lemmas.Utf8Lemmas.{IsUtf8-cancel}
use Rattle.cm_text.specs.Rules.{Rules}
use Rattle.cm_tree.specs.declared.tree.Inline.{Inline}
use Rattle.cm_tree.specs.declared.tree.Inline.TheOpen as inline
use Rattle.cm_tree.specs.declared.tree.Inline.TheVariants.{Text, Code, Html, Soft, Hard, Emph, Strong, Strike, Link, Image}
use Rattle.cm_scan.specs.Words.{is_empty}
use Rattle.cm_source.specs.Texts.{numbered, edge_byte, spelled_bytes, spelled_text, is_padded, longest_run, spelled_code, spelled_title, spelled_target}
use Rattle.cm_source.specs.Inlines.{Spelled, join, is_line_end, between, spelled, spelled_inlines, spelled_content}
use Rattle.cm_source.specs.Inlines as spelling
use Rattle.cm_source.specs.InlineRefusals.{Face, is_text, Place, Judged, first_face, further_in, inside_link, refusal_of_all, emphasis, judged}
use Rattle.cm_source.specs.InlineRefusals as refusals
use Rattle.cm_source.specs.steps.Utf8Inlines.{all_of, has_utf8, utf8_step}
use Rattle.cm_source.proofs.lemmas.spelling.SpelledTexts.{inner-text}
use Rattle.cm_source.proofs.lemmas.shared.InlineInduction.{AllHold, Cases, by-cases, all-by-cases}
use Rattle.cm_source.proofs.lemmas.shared.AcceptedLemmas.{or-none, Accepted, text-accepted, html-accepted, emph-accepted, strong-accepted, strike-accepted, link-accepted, image-accepted}
use Rattle.cm_source.proofs.lemmas.fitting.Neighbours.{ascii-utf8, edge-ascii, AllHigh, high-bytes, high-byte}
use Rattle.cm_source.proofs.lemmas.fitting.SpellingsAreUtf8.{ticks-utf8, utf8-as}
use Rattle.cm_source.proofs.lemmas.fitting.InlineEdges.{second-fails, split-ascii, before-ascii, Ends}
use Rattle.cm_source.proofs.lemmas.fitting.EdgesOfKinds.{code-ends, html-ends, soft-ends, hard-ends, between-ends, link-ends, image-ends}
use Rattle.cm_source.proofs.lemmas.shared.ByteSpellings.{SpellsByte, ByNumber, Escaped, AsItIs, spells_edge}
use Rattle.cm_tree.proofs.lemmas.InlineFolds as inline_fold

-- ---- texts

spelling-first : (b : ℕ) (front : List ℕ) → SpellsByte b front → b < 128 → (x : ℕ) × (ys : List ℕ) × (front ≡ x ∷ ys) × (x < 128)
spelling-first b front (ByNumber low) h = (38, drop 1 (numbered b), refl, omega arith)
spelling-first b front (Escaped punct tick) h = (92, b ∷ [], refl, omega arith)
spelling-first b front (AsItIs printed plain) h = (b, [], refl, h)

-- high bytes at the start of a spelled text are in the text
high-front : (hs more : List ℕ) (last : Bool) (text : List ℕ) → AllHigh hs → hs ++ more ≡ spelled_text false last text → (beyond : List ℕ) × (text ≡ hs ++ beyond) × (more ≡ spelled_text false last beyond)
unfolding spelled_text
high-front [] more last text h e = (text, refl, e)
high-front (h ∷ hs) more last [] k e = absurd (omega (arith, ap length e))
high-front (h ∷ hs) more last (b ∷ bs) k e = go (cases_lt b 128) (high-front hs more last bs k.1)
  where
    at_edge : Bool
    at_edge = last && is_empty bs

    go : (b < 128) ⊎ (128 ≤ b) → (hs ++ more ≡ spelled_text false last bs → (beyond : List ℕ) × (bs ≡ hs ++ beyond) × (more ≡ spelled_text false last beyond))
        → (beyond : List ℕ) × (b ∷ bs ≡ (h ∷ hs) ++ beyond) × (more ≡ spelled_text false last beyond)
    go (inl low) again =
        let first = spelling-first b (edge_byte at_edge b) (spells_edge at_edge b) low in
        let same = e ∙ ap (λ l. l ++ spelled_text false last bs) first.2 in
        let head : h ≡ first.0 = ap (λ l. get_or l 0 0) same in
        absurd (omega (arith, head, k.0, first.3))
    go (inr high) again =
        let same = e ∙ ap (λ l. l ++ spelled_text false last bs) (high-byte at_edge b high) in
        let head : h ≡ b = ap (λ l. get_or l 0 0) same in
        let rest = again (ap (drop 1) same) in
        (rest.0, ap (λ l. b ∷ l) rest.1 ∙ ap (λ n. n ∷ hs ++ rest.0) (sym head), rest.2)

text-within : (n : ℕ) (first last : Bool) (text : List ℕ) → length text ≤ n → IsUtf8 (spelled_text first last text) → IsUtf8 text
unfolding spelled_text
text-within n first last [] few u = IsUtf8-nil
text-within zero first last (b ∷ bs) few u = absurd (omega (arith, few))
text-within (suc n) first last (b ∷ bs) few u = go (cases_lt b 128) (λ first last text few u. text-within n first last text few u)
  where
    at_edge : Bool
    at_edge = first || last && is_empty bs

    characters : (cs : List ℕ) → 128 ≤ b → scalars cs ≡ true → encodes cs ≡ b ∷ spelled_text false last bs → ((text : List ℕ) → length text ≤ n → IsUtf8 (spelled_text false last text) → IsUtf8 text) → IsUtf8 (b ∷ bs)
    characters [] high s e again = absurd (omega (arith, ap length e))
    characters (c ∷ cs) high s e again = by-width (cases_lt c 128)
      where
        by-width : (c < 128) ⊎ (128 ≤ c) → IsUtf8 (b ∷ bs)
        by-width (inl low) =
            let head : c ≡ b = ap (λ l. get_or l 0 0) (ap (λ l. l ++ encodes cs) (sym (encode_ascii c low)) ∙ e) in
            absurd (omega (arith, head, low, high))
        by-width (inr beyond) = by-bytes (encode c) refl (high-bytes c beyond)
          where
            by-bytes : (ds : List ℕ) → encode c ≡ ds → AllHigh ds → IsUtf8 (b ∷ bs)
            by-bytes [] f h = absurd (omega (arith, ap length f, length-encode c, (len_utf8_bounds c).0))
            by-bytes (d ∷ ds) f h =
                let parts = and_parts (scalar c) (scalars cs) s in
                let same = ap (λ l. l ++ encodes cs) (sym f) ∙ e in
                let head : d ≡ b = ap (λ l. get_or l 0 0) same in
                let front = high-front ds (encodes cs) last bs h.1 (ap (drop 1) same) in
                let size : length bs ≡ length ds + length front.0 = ap length front.1 ∙ length-append ds front.0 in
                let beyond = again front.0 (omega (arith, few, size)) (cs, (parts.1, front.2)) in
                let whole : encode c ++ front.0 ≡ b ∷ bs = ap (λ l. l ++ front.0) f ∙ ap (λ n. n ∷ ds ++ front.0) head ∙ ap (λ l. b ∷ l) (sym front.1) in
                subst IsUtf8 whole (IsUtf8-append (encode c) front.0 (IsUtf8-encode c parts.0) beyond)

    go : (b < 128) ⊎ (128 ≤ b) → ((first last : Bool) (text : List ℕ) → length text ≤ n → IsUtf8 (spelled_text first last text) → IsUtf8 text) → IsUtf8 (b ∷ bs)
    go (inl low) again =
        let beyond = IsUtf8-cancel (edge_byte at_edge b) (spelled_text false last bs) (ascii-utf8 (edge_byte at_edge b) (edge-ascii at_edge b low)) u in
        IsUtf8-append (b ∷ []) bs (ascii-utf8 (b ∷ []) (ap (λ t. t && true) (lt-ltb b 128 low))) (again false last bs (omega (arith, few)) beyond)
    go (inr high) again = characters u.0 high u.1.0 (u.1.1 ∙ ap (λ l. l ++ spelled_text false last bs) (high-byte at_edge b high)) (λ text few u. again false last text few u)

pub text-back : (first last : Bool) (text : List ℕ) → IsUtf8 (spelled_text first last text) → IsUtf8 text
text-back first last text u = text-within (length text) first last text (omega arith) u

-- ---- the strings of each kind

bytes-back : (text : List ℕ) → IsUtf8 (spelled_bytes text) → IsUtf8 text
bytes-back text u = text-back false false text (subst IsUtf8 (sym (inner-text text)) u)

code-back : (text : List ℕ) → IsUtf8 (spelled_code text) → IsUtf8 text
unfolding spelled_code
code-back text u = go (is_padded text) u
  where
    more : List ℕ
    more = replicate (longest_run 0 text) 96

    go : (p : Bool) → IsUtf8 ((96 ∷ more) ++ (if p then 32 ∷ [] else []) ++ text ++ (if p then 32 ∷ [] else []) ++ 96 ∷ more) → IsUtf8 text
    go true v =
        let front = (96 ∷ more) ++ 32 ∷ [] in
        let whole : front ++ text ++ 32 ∷ [] ++ 96 ∷ more ≡ (front ++ text) ++ 32 ∷ 96 ∷ more = append_assoc (front ++ text) (32 ∷ []) (96 ∷ more) in
        IsUtf8-cancel front text (IsUtf8-append (96 ∷ more) (32 ∷ []) (ticks-utf8 (suc (longest_run 0 text))) (ascii-utf8 (32 ∷ []) refl)) (split-ascii (front ++ text) 32 (96 ∷ more) (omega arith) (subst IsUtf8 whole v)).0
    go false v =
        let whole : (96 ∷ more) ++ [] ++ text ++ [] ++ 96 ∷ more ≡ ((96 ∷ more) ++ text) ++ 96 ∷ more = ap (λ l. l ++ text ++ [] ++ 96 ∷ more) (append-nil (96 ∷ more)) ∙ ap (λ l. l ++ 96 ∷ more) (append-nil ((96 ∷ more) ++ text)) in
        IsUtf8-cancel (96 ∷ more) text (ticks-utf8 (suc (longest_run 0 text))) (split-ascii ((96 ∷ more) ++ text) 96 more (omega arith) (subst IsUtf8 whole v)).0

title-back : (title : List ℕ) → IsUtf8 (spelled_title title) → IsUtf8 title
title-back [] u = IsUtf8-nil
title-back (b ∷ bs) u =
    bytes-back (b ∷ bs) (IsUtf8-cancel (codes " \"") (spelled_bytes (b ∷ bs)) (ascii-utf8 (codes " \"") refl) (before-ascii (codes " \"" ++ spelled_bytes (b ∷ bs)) 34 (omega arith) u))

target-back : (dest title : List ℕ) → IsUtf8 (spelled_target dest title) → IsUtf8 dest × IsUtf8 title
unfolding spelled_target
target-back dest title u =
    let front = codes "](<" ++ spelled_bytes dest in
    let inside = before-ascii (front ++ codes ">" ++ spelled_title title) 41 (omega arith) u in
    let parts = split-ascii front 62 (spelled_title title) (omega arith) (subst IsUtf8 (append_assoc front (codes ">") (spelled_title title)) inside) in
    (bytes-back dest (IsUtf8-cancel (codes "](<") (spelled_bytes dest) (ascii-utf8 (codes "](<") refl) parts.0), title-back title parts.1)

-- a mark and a content before an ASCII byte
between-back : (start content : List ℕ) (x : ℕ) (more : List ℕ) → list_all is_ascii start ≡ true → x < 128 → IsUtf8 (start ++ content ++ x ∷ more) → IsUtf8 content
between-back start content x more low h u = IsUtf8-cancel start content (ascii-utf8 start low) (split-ascii (start ++ content) x more h u).0

-- what follows the content of a link
target-beyond : (front dest title : List ℕ) → IsUtf8 (front ++ spelled_target dest title) → IsUtf8 front × IsUtf8 (spelled_target dest title)
unfolding spelled_target
target-beyond front dest title u =
    let before = (split-ascii front 93 _ (omega arith) u).0 in
    (before, IsUtf8-cancel front (spelled_target dest title) before u)

-- ---- inlines

-- an inline other than a text starts and ends with bytes of ASCII
record Seam (spelling : (first last : Bool) → List ℕ) : Type 0 where
  x : ℕ
  y : ℕ
  first_low : x < 128
  last_low : y < 128
  ends : Ends spelling x y

record Edged (j : Judged) (s : Spelled) (before : Option Face) : Type 0 where
  apart : (is_text before && is_text (Some j.face)) ≡ false
  seam : is_text (Some j.face) ≡ false → Seam s.spelling

edged-so : (j k : Judged) (s t : Spelled) (before : Option Face) → j ≡ k → s ≡ t → Edged k t before → Edged j s before
edged-so j k s t before e f edged = subst (λ v. Edged v s before) (sym e) (subst (λ w. Edged k w before) (sym f) edged)

-- of a kind that is no text
not-text : (k : Judged) (t : Spelled) (before : Option Face) (x y : ℕ) → is_text (Some k.face) ≡ false → x < 128 → y < 128 → Ends t.spelling x y → Edged k t before
not-text k t before x y e h i ends = record { apart = and_right (is_text before) (is_text (Some k.face)) e; seam = λ _. record { x = x; y = y; first_low = h; last_low = i; ends = ends } }

module _ (rules : Rules) where
  abbrev IsEdged : Inline → Type 0
  IsEdged i = (place : Place) (before after : Option Face) → Accepted rules place before after i → Edged (judged rules i) (spelled i) before

  edged-emphasis : (strike : Bool) (i : Inline) (content : List Inline) (mark : List ℕ) (x : ℕ) (more zs : List ℕ) (before : Option Face) → judged rules i ≡ emphasis rules strike (map (judged rules) content)
      → spelled i ≡ between mark (map spelled content) mark → mark ≡ x ∷ more → mark ≡ zs ++ x ∷ [] → x < 128 → Edged (judged rules i) (spelled i) before
  edged-emphasis strike i content mark x more zs before e f g h low =
      let k = emphasis rules strike (map (judged rules) content) in
      let t = between mark (map spelled content) mark in
      edged-so (judged rules i) k (spelled i) t before e f (not-text k t before x x refl low low (between-ends mark mark (map spelled content) x x more zs g h))

  edged-cases : Cases IsEdged
  edged-cases = record {
    text = λ text place before after e.
        let a = text-accepted rules place before after text e in
        edged-so (judged rules (Text text)) (refusals.inline_step rules (inline.Text text)) (spelled (Text text)) (spelling.inline_step (inline.Text text)) before (inline_fold.text (refusals.inline_step rules) text) (inline_fold.text spelling.inline_step text)
        (record { apart = and_left (is_text before) true a.apart; seam = λ t. absurd (cc t) });
    code = λ text place before after e.
        let k = refusals.inline_step rules (inline.Code text) in
        let t = spelling.inline_step (inline.Code text) in
        edged-so (judged rules (Code text)) k (spelled (Code text)) t before (inline_fold.code (refusals.inline_step rules) text) (inline_fold.code spelling.inline_step text) (not-text k t before 96 96 refl (omega arith) (omega arith) (code-ends text));
    html = λ text place before after e.
        let k = refusals.inline_step rules (inline.Html text) in
        let t = spelling.inline_step (inline.Html text) in
        edged-so (judged rules (Html text)) k (spelled (Html text)) t before (inline_fold.html (refusals.inline_step rules) text) (inline_fold.html spelling.inline_step text)
        (not-text k t before 60 62 refl (omega arith) (omega arith) (html-ends rules text (html-accepted rules place before after text e).one_tag));
    soft = λ place before after e.
        let k = refusals.inline_step rules inline.Soft in
        let t = spelling.inline_step inline.Soft in
        edged-so (judged rules Soft) k (spelled Soft) t before (inline_fold.soft (refusals.inline_step rules)) (inline_fold.soft spelling.inline_step) (not-text k t before 10 10 refl (omega arith) (omega arith) soft-ends);
    hard = λ place before after e.
        let k = refusals.inline_step rules inline.Hard in
        let t = spelling.inline_step inline.Hard in
        edged-so (judged rules Hard) k (spelled Hard) t before (inline_fold.hard (refusals.inline_step rules)) (inline_fold.hard spelling.inline_step) (not-text k t before 92 10 refl (omega arith) (omega arith) hard-ends);
    emph = λ content hold place before after e. edged-emphasis false (Emph content) content (codes "*") 42 [] [] before (inline_fold.emph (refusals.inline_step rules) content) (inline_fold.emph spelling.inline_step content) refl refl (omega arith);
    strong = λ content hold place before after e. edged-emphasis false (Strong content) content (codes "**") 42 (42 ∷ []) (42 ∷ []) before (inline_fold.strong (refusals.inline_step rules) content) (inline_fold.strong spelling.inline_step content) refl refl (omega arith);
    strike = λ content hold place before after e. edged-emphasis true (Strike content) content (codes "~~") 126 (126 ∷ []) (126 ∷ []) before (inline_fold.strike (refusals.inline_step rules) content) (inline_fold.strike spelling.inline_step content) refl refl (omega arith);
    link = λ dest title content hold place before after e.
        let k = refusals.inline_step rules (inline.Link dest title (map (judged rules) content)) in
        let t = between (codes "[") (map spelled content) (spelled_target dest title) in
        edged-so (judged rules (Link dest title content)) k (spelled (Link dest title content)) t before (inline_fold.link (refusals.inline_step rules) dest title content) (inline_fold.link spelling.inline_step dest title content)
        (not-text k t before 91 41 refl (omega arith) (omega arith) (link-ends dest title (map spelled content)));
    image = λ dest title content hold place before after e.
        let k = refusals.inline_step rules (inline.Image dest title (map (judged rules) content)) in
        let t = between (codes "![") (map spelled content) (spelled_target dest title) in
        edged-so (judged rules (Image dest title content)) k (spelled (Image dest title content)) t before (inline_fold.image (refusals.inline_step rules) dest title content) (inline_fold.image spelling.inline_step dest title content)
        (not-text k t before 33 41 refl (omega arith) (omega arith) (image-ends dest title (map spelled content)));
  }

  edged : (i : Inline) → IsEdged i
  edged = by-cases IsEdged edged-cases

  -- an inline and what follows it are UTF-8, since a byte of ASCII is between them
  apart-utf8 : (place : Place) (face : Option Face) (first last : Bool) (i : Inline) (is : List Inline) → refusal_of_all place face (map (judged rules) (i ∷ is)) ≡ None
      → let s = (spelled i).spelling first (is_line_end last (map spelled is)) in let more = join (spelled i).begins_line last (map spelled is) in IsUtf8 (s ++ more) → IsUtf8 s × IsUtf8 more
  apart-utf8 place face first last i is e u =
      let others = map (judged rules) is in
      let parts = or-none ((judged rules i).refusal place face (first_face others)) (refusal_of_all (further_in place) (Some (judged rules i).face) others) e in
      go (is_text (Some (judged rules i).face)) refl (edged i place face (first_face others) parts.0) is parts.1 u
    where
      s : List Inline → List ℕ
      s is = (spelled i).spelling first (is_line_end last (map spelled is))

      more : List Inline → List ℕ
      more is = join (spelled i).begins_line last (map spelled is)

      go : (t : Bool) → is_text (Some (judged rules i).face) ≡ t → Edged (judged rules i) (spelled i) face → (is : List Inline)
          → refusal_of_all (further_in place) (Some (judged rules i).face) (map (judged rules) is) ≡ None → IsUtf8 (s is ++ more is) → IsUtf8 (s is) × IsUtf8 (more is)
      go false t edge is e u =
          let seam = edge.seam t in
          let back = seam.ends.back first (is_line_end last (map spelled is)) in
          let whole : s is ++ more is ≡ back.0 ++ seam.y ∷ more is = ap (λ l. l ++ more is) back.1 ∙ append_assoc back.0 (seam.y ∷ []) (more is) in
          let both = split-ascii back.0 seam.y (more is) seam.last_low (subst IsUtf8 whole u) in
          (subst IsUtf8 (sym back.1) (IsUtf8-append back.0 (seam.y ∷ []) both.0 (ascii-utf8 (seam.y ∷ []) (ap (λ v. v && true) (lt-ltb seam.y 128 seam.last_low)))), both.1)
      go true t edge [] e u = (subst IsUtf8 (append-nil (s [])) u, IsUtf8-nil)
      go true t edge (k ∷ ks) e u =
          let face = (judged rules i).face in
          let others = map (judged rules) ks in
          let parts = or-none ((judged rules k).refusal (further_in place) (Some face) (first_face others)) (refusal_of_all (further_in (further_in place)) (Some (judged rules k).face) others) e in
          let edge = edged k (further_in place) (Some face) (first_face others) parts.0 in
          let seam = edge.seam (second-fails (is_text (Some face)) (is_text (Some (judged rules k).face)) edge.apart t) in
          let front = seam.ends.front (spelled i).begins_line (is_line_end last (map spelled ks)) in
          let beyond = join (spelled k).begins_line last (map spelled ks) in
          let own = (split-ascii (s (k ∷ ks)) seam.x (front.0 ++ beyond) seam.first_low (subst IsUtf8 (ap (λ l. s (k ∷ ks) ++ (l ++ beyond)) front.1) u)).0 in
          (own, IsUtf8-cancel (s (k ∷ ks)) (more (k ∷ ks)) own u)

  abbrev HasTexts : Inline → Type 0
  HasTexts i = (place : Place) (before after : Option Face) → Accepted rules place before after i → (first last : Bool) → IsUtf8 ((spelled i).spelling first last) → has_utf8 i ≡ true

  content-back : (content : List Inline) → AllHold HasTexts content → (place : Place) (face : Option Face) (first last : Bool) → refusal_of_all place face (map (judged rules) content) ≡ None
      → IsUtf8 (join first last (map spelled content)) → all_of (map has_utf8 content) ≡ true
  unfolding AllHold
  content-back [] hold place face first last e u = refl
  content-back (i ∷ is) hold place face first last e u =
      let others = map (judged rules) is in
      let parts = or-none ((judged rules i).refusal place face (first_face others)) (refusal_of_all (further_in place) (Some (judged rules i).face) others) e in
      let both = apart-utf8 place face first last i is e u in
      and_from (has_utf8 i) (all_of (map has_utf8 is))
      (hold.0 place face (first_face others) parts.0 first (is_line_end last (map spelled is)) both.0)
      (content-back is hold.1 (further_in place) (Some (judged rules i).face) (spelled i).begins_line last parts.1 both.1)

  -- between brackets, whose content is such as its spelling is
  linked-back : (mark dest title : List ℕ) (content : List Inline) → list_all is_ascii mark ≡ true → IsUtf8 (mark ++ spelled_inlines false false content ++ spelled_target dest title)
      → (IsUtf8 (spelled_inlines false false content) → all_of (map has_utf8 content) ≡ true) → (is_utf8 dest && is_utf8 title && all_of (map has_utf8 content)) ≡ true
  linked-back mark dest title content low u inside =
      let inner = spelled_inlines false false content in
      let parts = target-beyond (mark ++ inner) dest title u in
      let strings = target-back dest title parts.1 in
      and_from (is_utf8 dest && is_utf8 title) (all_of (map has_utf8 content))
      (and_from (is_utf8 dest) (is_utf8 title) (is_utf8-from_IsUtf8 dest strings.0) (is_utf8-from_IsUtf8 title strings.1))
      (inside (IsUtf8-cancel mark inner (ascii-utf8 mark low) parts.0))

  texts-cases : Cases HasTexts
  texts-cases = record {
    text = λ text place before after e first last u. inline_fold.text utf8_step text ∙ is_utf8-from_IsUtf8 text (text-back first last text (utf8-as (inline_fold.text spelling.inline_step text) first last u));
    code = λ text place before after e first last u. inline_fold.code utf8_step text ∙ is_utf8-from_IsUtf8 text (code-back text (utf8-as (inline_fold.code spelling.inline_step text) first last u));
    html = λ text place before after e first last u. inline_fold.html utf8_step text ∙ is_utf8-from_IsUtf8 text (utf8-as (inline_fold.html spelling.inline_step text) first last u);
    soft = λ place before after e first last u. (inline_fold.soft utf8_step);
    hard = λ place before after e first last u. (inline_fold.hard utf8_step);
    emph = λ content hold place before after e first last u.
        inline_fold.emph utf8_step content ∙ content-back content hold (further_in place) None false false (emph-accepted rules place before after content e).inside
        (between-back (codes "*") (join false false (map spelled content)) 42 [] refl (omega arith) (utf8-as (inline_fold.emph spelling.inline_step content) first last u));
    strong = λ content hold place before after e first last u.
        inline_fold.strong utf8_step content ∙ content-back content hold (further_in place) None false false (strong-accepted rules place before after content e).inside
        (between-back (codes "**") (join false false (map spelled content)) 42 (42 ∷ []) refl (omega arith) (utf8-as (inline_fold.strong spelling.inline_step content) first last u));
    strike = λ content hold place before after e first last u.
        inline_fold.strike utf8_step content ∙ content-back content hold (further_in place) None false false (strike-accepted rules place before after content e).inside
        (between-back (codes "~~") (join false false (map spelled content)) 126 (126 ∷ []) refl (omega arith) (utf8-as (inline_fold.strike spelling.inline_step content) first last u));
    link = λ dest title content hold place before after e first last u.
        inline_fold.link utf8_step dest title content ∙ linked-back (codes "[") dest title content refl (utf8-as (inline_fold.link spelling.inline_step dest title content) first last u)
        (content-back content hold (inside_link place) None false false (link-accepted rules place before after dest title content e).inside);
    image = λ dest title content hold place before after e first last u.
        inline_fold.image utf8_step dest title content ∙ linked-back (codes "![") dest title content refl (utf8-as (inline_fold.image spelling.inline_step dest title content) first last u)
        (content-back content hold (further_in place) None false false (image-accepted rules place before after dest title content e).inside);
  }

  pub accepted-texts : (place : Place) (content : List Inline) → refusal_of_all place None (map (judged rules) content) ≡ None → IsUtf8 (spelled_content content) → all_of (map has_utf8 content) ≡ true
  accepted-texts place content e u = content-back content (all-by-cases HasTexts texts-cases content) place None true true e u
