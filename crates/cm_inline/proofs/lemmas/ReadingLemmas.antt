-- A start and an end write, and nest, as the inline does that is made of what holds between.
use Rattle.cm_inline.proofs.lemmas.Words.{◌≡◌, ℕ, zero, ◌+◌, ◌≤◌, Bool, true, false, cond, ◌==◌, max, List, [], ◌∷◌, ◌++◌, map, Some, refl, sym, ap, subst, ◌∙◌, arith}
use Rattle.cm_inline.proofs.lemmas.Words.{append-nil, append_assoc, cond-true, cond-false, eq-eqb, ne_eqb, flat_map-append, Inline, fold_out-Inline, outs-Text}
use Rattle.cm_inline.proofs.lemmas.Words.{outs-Link, outs-Image, outs-Emph, outs-Strong, outs-Strike, depth_step, depth_of, inlines_depth, escape_byte, escape}
use Rattle.cm_inline.proofs.lemmas.Words.{Rendered, inline_step, inlines_html, rendered, Run, Item, emphasised, Characters, Finished, Linked, Delimiters, Opener}
use Rattle.cm_inline.proofs.lemmas.Words.{bracket_text, text_before, settled_after, settled, rules, nat_tests, codes}
use Rattle.std.specs.Prelude.{replicate, flat_map}
use Rattle.cm_tree.specs.declared.tree.Inline.TheVariants as inlines
use Rattle.cm_html.specs.Html.{join_plain, image_html, image_start, title_html}
use Rattle.cm_inline.proofs.lemmas.InlineDepthLemmas.{both, settled-after-depth}
use Rattle.cm_inline.specs.steps.pairing.Events.{Event, Rest, Tag, Emphasis, StrongEmphasis, Strikethrough, LinkTag, Start, End, made_of, tag_of}
use Rattle.cm_inline.proofs.lemmas.EventLemmas.{means-append, means-rest, means-empty, means-wrap, tag-makes}
use Rattle.cm_inline.specs.steps.pairing.Readings.{start_html, end_html, Tags, Alternative, is_number, mode_of, page, write_all, item_html, item_plain, AreFree, IsAlone, Writes, deepest, Nests, starts_in, IsNear, StandFor}
use Rattle.cm_inline.proofs.lemmas.WriteLemmas.{write-append}
use Rattle.cm_inline.specs.steps.Depths.{items_depth}

free-split : (n : ℕ) (fs gs : List Event) → AreFree n (fs ++ gs) → AreFree n fs × AreFree n gs
free-split n [] gs h = (tt, h)
free-split n (f ∷ fs) gs h = ((h.0, (free-split n fs gs h.1).0), (free-split n fs gs h.1).1)

pub writes-append : (fs gs : List Event) (xs ys : List Item) → Writes fs xs → Writes gs ys → Writes (fs ++ gs) (xs ++ ys)
writes-append fs gs xs ys f g = record {
  tags = λ html. write-append (page html Tags) fs gs ∙ ap (λ p. write_all p gs) (f.tags html) ∙ g.tags (html ++ flat_map item_html xs)
      ∙ ap (λ t. page t Tags) (append_assoc html (flat_map item_html xs) (flat_map item_html ys) ∙ ap (λ t. html ++ t) (sym (flat_map-append item_html xs ys)));
  alternative = λ html n free. (let both = free-split n fs gs free in write-append (page html (Alternative n)) fs gs ∙ ap (λ p. write_all p gs) (f.alternative html n both.0) ∙ g.alternative (html ++ flat_map item_plain xs) n both.1
      ∙ ap (λ t. page t (Alternative n)) (append_assoc html (flat_map item_plain xs) (flat_map item_plain ys) ∙ ap (λ t. html ++ t) (sym (flat_map-append item_plain xs ys))));
}

-- what items write is what the inlines write that they come to

text-html : (text : List ℕ) → (rendered (inlines.Text text)).html ≡ escape text
text-html text = simp (fold_out-Inline Rendered inline_step, outs-Text)

text-plain : (text : List ℕ) → (rendered (inlines.Text text)).plain ≡ text
text-plain text = simp (fold_out-Inline Rendered inline_step, outs-Text)

abbrev plain_of : List Inline → List ℕ
plain_of content = join_plain (map rendered content)

pub before-html : (text : List ℕ) (more : List Inline) → inlines_html (text_before text more) ≡ escape text ++ inlines_html more
before-html text more = grind (arith, nat_tests, text-html)

before-plain : (text : List ℕ) (more : List Inline) → escape (plain_of (text_before text more)) ≡ escape text ++ escape (plain_of more)
before-plain text more = grind (arith, nat_tests, text-plain, flat_map-append)

longer : (text more rest : List ℕ) → escape (text ++ more) ++ rest ≡ escape text ++ (escape more ++ rest)
longer text more rest = ap (λ t. t ++ rest) (flat_map-append escape_byte text more) ∙ append_assoc (escape text) (escape more) rest

html-after : (text : List ℕ) (items : List Item) → inlines_html (settled_after text items) ≡ escape text ++ flat_map item_html items
unfolding settled_after
html-after text [] = before-html text []
html-after text (Characters t ∷ items) = html-after (text ++ t) items ∙ longer text t (flat_map item_html items)
html-after text (Delimiters r ∷ items) = html-after (text ++ replicate r.left r.character) items ∙ longer text (replicate r.left r.character) (flat_map item_html items)
html-after text (Opener b s ∷ items) = html-after (text ++ bracket_text b) items ∙ longer text (bracket_text b) (flat_map item_html items)
html-after text (Finished i ∷ items) = before-html text (i ∷ settled_after [] items) ∙ ap (λ t. escape text ++ ((rendered i).html ++ t)) (html-after [] items)
html-after text (Linked i ∷ items) = before-html text (i ∷ settled_after [] items) ∙ ap (λ t. escape text ++ ((rendered i).html ++ t)) (html-after [] items)

plain-after : (text : List ℕ) (items : List Item) → escape (plain_of (settled_after text items)) ≡ escape text ++ flat_map item_plain items
unfolding settled_after
plain-after text [] = before-plain text []
plain-after text (Characters t ∷ items) = plain-after (text ++ t) items ∙ longer text t (flat_map item_plain items)
plain-after text (Delimiters r ∷ items) = plain-after (text ++ replicate r.left r.character) items ∙ longer text (replicate r.left r.character) (flat_map item_plain items)
plain-after text (Opener b s ∷ items) = plain-after (text ++ bracket_text b) items ∙ longer text (bracket_text b) (flat_map item_plain items)
plain-after text (Finished i ∷ items) =
    before-plain text (i ∷ settled_after [] items) ∙ ap (λ t. escape text ++ t) (flat_map-append escape_byte (rendered i).plain (plain_of (settled_after [] items)) ∙ ap (λ t. escape (rendered i).plain ++ t) (plain-after [] items))
plain-after text (Linked i ∷ items) =
    before-plain text (i ∷ settled_after [] items) ∙ ap (λ t. escape text ++ t) (flat_map-append escape_byte (rendered i).plain (plain_of (settled_after [] items)) ∙ ap (λ t. escape (rendered i).plain ++ t) (plain-after [] items))

pub settled-html : (items : List Item) → inlines_html (settled items) ≡ flat_map item_html items
settled-html items = html-after [] items

-- so the events of a leaf write the HTML of its inlines
pub writes-inlines : (fs : List Event) (items : List Item) → Writes fs items → write_all (page [] Tags) fs ≡ page (inlines_html (settled items)) Tags
writes-inlines fs items w = w.tags [] ∙ ap (λ t. page t Tags) (sym (settled-html items))

-- a start and an end
image-is : (dest title : List ℕ) (content : List Inline) → (rendered (inlines.Image dest title content)).html ≡ image_html dest title (plain_of content)
image-is dest title content = simp (fold_out-Inline Rendered inline_step, outs-Image)

image-html : (number : ℕ) (dest title : List ℕ) (content : List Inline) → (rendered (inlines.Image dest title content)).html ≡ start_html (LinkTag number true dest title) ++ escape (plain_of content) ++ end_html (LinkTag number true dest title)
image-html number dest title content =
    let a = image_start dest ++ escape (plain_of content) in
    image-is dest title content ∙ append_assoc (a ++ codes "\"") (title_html title) (codes " />") ∙ append_assoc a (codes "\"") (title_html title ++ codes " />") ∙ ap (λ t. a ++ t) (sym (append_assoc (codes "\"") (title_html title) (codes " />")))

made-plain : (tag : Tag) (content : List Inline) → (rendered (made_of tag content)).plain ≡ plain_of content
made-plain Emphasis content = simp (fold_out-Inline Rendered inline_step, outs-Emph)
made-plain StrongEmphasis content = simp (fold_out-Inline Rendered inline_step, outs-Strong)
made-plain Strikethrough content = simp (fold_out-Inline Rendered inline_step, outs-Strike)
made-plain (LinkTag number false dest title) content = simp (fold_out-Inline Rendered inline_step, outs-Link)
made-plain (LinkTag number true dest title) content = simp (fold_out-Inline Rendered inline_step, outs-Image)

around : (html start inner end whole : List ℕ) → whole ≡ start ++ inner ++ end → ((html ++ start) ++ inner) ++ end ≡ html ++ (whole ++ [])
around html start inner end whole h = append_assoc (html ++ start) inner end ∙ append_assoc html start (inner ++ end) ∙ ap (λ t. html ++ t) (sym (append_assoc start inner end) ∙ sym h ∙ sym (append-nil whole))

pub writes-wrap : (fs : List Event) (inside : List Item) (tag : Tag) → Writes fs inside → IsAlone tag fs → Writes (Start tag ∷ fs ++ End tag ∷ []) (Finished (made_of tag (settled inside)) ∷ [])
unfolding write_all
writes-wrap fs inside tag w alone = record { tags = tags tag alone; alternative = alternative }
  where
    content : List Inline
    content = settled inside

    plain : (start end : List ℕ) (html : List ℕ) (s : Tag) → (rendered (made_of s content)).html ≡ start ++ inlines_html content ++ end → ((html ++ start) ++ flat_map item_html inside) ++ end ≡ html ++ ((rendered (made_of s content)).html ++ [])
    plain start end html s h = around html start (flat_map item_html inside) end (rendered (made_of s content)).html (h ∙ ap (λ t. start ++ t ++ end) (settled-html inside))

    whole : (s : Tag) (html : List ℕ) → mode_of s ≡ Tags → (rendered (made_of s content)).html ≡ start_html s ++ inlines_html content ++ end_html s
        → write_all (page (html ++ start_html s) (mode_of s)) (fs ++ End s ∷ []) ≡ page (html ++ ((rendered (made_of s content)).html ++ [])) Tags
    whole s html m h =
        ap (λ k. write_all (page (html ++ start_html s) k) (fs ++ End s ∷ [])) m ∙ write-append (page (html ++ start_html s) Tags) fs (End s ∷ []) ∙ ap (λ p. write_all p (End s ∷ [])) (w.tags (html ++ start_html s))
        ∙ ap (λ t. page t Tags) (plain (start_html s) (end_html s) html s h)

    tags : (s : Tag) → IsAlone s fs → (html : List ℕ) → write_all (page html Tags) (Start s ∷ fs ++ End s ∷ []) ≡ page (html ++ ((rendered (made_of s content)).html ++ [])) Tags
    tags Emphasis a html = whole Emphasis html refl (simp (fold_out-Inline Rendered inline_step, outs-Emph))
    tags StrongEmphasis a html = whole StrongEmphasis html refl (simp (fold_out-Inline Rendered inline_step, outs-Strong))
    tags Strikethrough a html = whole Strikethrough html refl (simp (fold_out-Inline Rendered inline_step, outs-Strike))
    tags (LinkTag n false dest title) a html = whole (LinkTag n false dest title) html refl (simp (fold_out-Inline Rendered inline_step, outs-Link))
    tags (LinkTag n true dest title) a html =
        let s = LinkTag n true dest title in
        write-append (page (html ++ start_html s) (Alternative n)) fs (End s ∷ []) ∙ ap (λ p. write_all p (End s ∷ [])) (w.alternative (html ++ start_html s) n a)
        ∙ cond-true (n == n) (page (((html ++ start_html s) ++ flat_map item_plain inside) ++ end_html s) Tags) (page ((html ++ start_html s) ++ flat_map item_plain inside) (Alternative n)) (eq-eqb n n refl)
        ∙ ap (λ t. page t Tags) (around html (start_html s) (flat_map item_plain inside) (end_html s) (rendered (made_of s content)).html (image-html n dest title content ∙ ap (λ t. start_html s ++ t ++ end_html s) (plain-after [] inside)))

    alternative : (html : List ℕ) (n : ℕ) → AreFree n (Start tag ∷ fs ++ End tag ∷ []) → write_all (page html (Alternative n)) (Start tag ∷ fs ++ End tag ∷ []) ≡ page (html ++ (escape (rendered (made_of tag content)).plain ++ [])) (Alternative n)
    alternative html n free =
        let both = free-split n fs (End tag ∷ []) free.1 in
        write-append (page html (Alternative n)) fs (End tag ∷ []) ∙ ap (λ p. write_all p (End tag ∷ [])) (w.alternative html n both.0)
        ∙ cond-false (is_number n tag) (page ((html ++ flat_map item_plain inside) ++ end_html tag) Tags) (page (html ++ flat_map item_plain inside) (Alternative n)) both.1.0
        ∙ ap (λ t. page (html ++ t) (Alternative n)) (sym (plain-after [] inside) ∙ sym (ap escape (made-plain tag content)) ∙ sym (append-nil (escape (rendered (made_of tag content)).plain)))

-- and how deep

pub nests-append : (fs gs : List Event) (xs ys : List Item) → Nests fs xs → Nests gs ys → Nests (fs ++ gs) (xs ++ ys)
nests-append fs gs xs ys f g depth most more h =
    ap (deepest depth most) (append_assoc fs gs more) ∙ f depth most (gs ++ more) h ∙ g depth (max most (depth + items_depth xs)) more (omega (arith, h))
    ∙ ap (λ n. deepest depth n more) (omega (arith, both xs ys))

made-depth : (tag : Tag) (content : List Inline) → depth_of (made_of tag content) ≡ inlines_depth content + 1
made-depth Emphasis content = simp (fold_out-Inline ℕ depth_step, outs-Emph)
made-depth StrongEmphasis content = simp (fold_out-Inline ℕ depth_step, outs-Strong)
made-depth Strikethrough content = simp (fold_out-Inline ℕ depth_step, outs-Strike)
made-depth (LinkTag number false dest title) content = simp (fold_out-Inline ℕ depth_step, outs-Link)
made-depth (LinkTag number true dest title) content = simp (fold_out-Inline ℕ depth_step, outs-Image)

pub nests-wrap : (fs : List Event) (inside : List Item) (tag : Tag) → Nests fs inside → Nests (Start tag ∷ fs ++ End tag ∷ []) (Finished (made_of tag (settled inside)) ∷ [])
unfolding deepest
nests-wrap fs inside tag w depth most more h = search (rules, append_assoc, cond-false, ne_eqb, made-depth, settled-after-depth)

-- so nothing ends that isn't open, and the greatest depth is that of the inlines
pub nests-all : (fs : List Event) (items : List Item) → Nests fs items → deepest 0 0 fs ≡ Some (inlines_depth (settled items))
unfolding deepest
nests-all fs items n = ap (deepest 0 0) (sym (append-nil fs)) ∙ n 0 0 [] (omega arith) ∙ ap Some (omega (arith, settled-after-depth [] items))

pub starts-append : (fs gs : List Event) → starts_in (fs ++ gs) ≡ starts_in fs + starts_in gs
starts-append [] gs = omega arith
starts-append (Start s ∷ fs) gs = omega (arith, starts-append fs gs)
starts-append (_ ∷ fs) gs = starts-append fs gs

pub near-append : (fs gs : List Event) (xs ys : List Item) → IsNear fs xs → IsNear gs ys → IsNear (fs ++ gs) (xs ++ ys)
near-append fs gs xs ys f g = record { bound = omega (arith, f.bound, g.bound, starts-append fs gs, both xs ys) }

pub near-wrap : (fs : List Event) (inside : List Item) (tag : Tag) → IsNear fs inside → IsNear (Start tag ∷ fs ++ End tag ∷ []) (Finished (made_of tag (settled inside)) ∷ [])
near-wrap fs inside tag n = record { bound = omega (arith, n.bound, starts-append fs (End tag ∷ []), made-depth tag (settled inside), settled-after-depth [] inside) }

-- all readings together

pub reads-append : (fs gs : List Event) (xs ys : List Item) → StandFor fs xs → StandFor gs ys → StandFor (fs ++ gs) (xs ++ ys)
reads-append fs gs xs ys f g = search (rules, means-append, writes-append, nests-append, near-append)

no-more : (depth most : ℕ) → depth ≤ most → most ≡ max most (depth + 0)
no-more depth most h = omega (arith, h)

pub reads-none : StandFor [] []
unfolding write_all
reads-none = search rules

pub reads-rest : (number : ℕ) (r : Run) → StandFor (Rest number r ∷ []) (Delimiters r ∷ [])
unfolding write_all deepest
reads-rest number r = search (rules, means-rest, append-nil, no-more)

pub reads-empty : (number : ℕ) (r : Run) → r.left ≡ zero → StandFor (Rest number r ∷ []) []
unfolding write_all deepest
reads-empty number r e = search (rules, means-empty, no-more)

pub reads-wrap : (fs : List Event) (inside : List Item) (tag : Tag) → StandFor fs inside → IsAlone tag fs → StandFor (Start tag ∷ fs ++ End tag ∷ []) (Finished (made_of tag (settled inside)) ∷ [])
reads-wrap fs inside tag r alone = search (rules, means-wrap, writes-wrap, nests-wrap, near-wrap)

pub reads-pair : (fs : List Event) (inside : List Item) (character count : ℕ) → StandFor fs inside
    → StandFor (Start (tag_of character count) ∷ fs ++ End (tag_of character count) ∷ []) (Finished (emphasised character count (settled inside)) ∷ [])
reads-pair fs inside character count r =
    let tag = tag_of character count in
    subst (λ i. StandFor (Start tag ∷ fs ++ End tag ∷ []) (Finished i ∷ [])) (tag-makes character count (settled inside)) (reads-wrap fs inside tag r (alone (character == 126) (count == 2)))
  where
    alone : (b d : Bool) → IsAlone (cond b Strikethrough (cond d StrongEmphasis Emphasis)) fs
    alone true d = tt
    alone false true = tt
    alone false false = tt
