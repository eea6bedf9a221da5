-- The tags in the HTML of inlines without raw HTML, whose addresses the rules follow.
use Rattle.std.proofs.Common.{◌≡◌, ℕ, Bool, true, false, ◌&&◌, List, [], ◌∷◌, ◌++◌, codes, map, ap, refl, sym, subst, ◌∙◌}
use Rattle.std.proofs.lemmas.Bool.{and_parts, or_parts, false≢true}
use Rattle.cm_text.specs.Rules.{Rules}
use Rattle.cm_text.specs.Addresses.{is_followed}
use Rattle.cm_tree.specs.declared.tree.Inline.{Inline, Inline-F, map-Inline}
use Rattle.cm_tree.specs.declared.tree.Inline.TheOpen as inline
use Rattle.cm_tree.specs.declared.tree.Inline.TheViews.{roll-Inline}
use Rattle.cm_tree.specs.declared.tree.Inline.TheFolds.{fold-roll-Inline, ind-Inline}
use Rattle.cm_html.specs.Escape.{escape, destination_html}
use Rattle.cm_html.specs.Html.{Rendered, inline_step, rendered, join_html, join_plain, inlines_html, title_html, link_start, image_start, image_html}
use Rattle.cm_html.specs.Markup.Place.{InText, InTag, InValue}
use Rattle.cm_html.specs.Markup.{Place, is_text, may_be_value}
use Rattle.cm_tree.specs.RawHtml.{any_of, raw_inline_step, inline_has_raw, inlines_have_raw}
use Rattle.cm_tree.specs.HeadingLevels.{all_of}
use Rattle.cm_tree.specs.Followed.{followed_inline_step, inline_is_followed, inlines_are_followed}
use Rattle.cm_html.specs.Tags.{Tags, join_tags, element, link_tag, image_tag, inline_tags, tags_of_inline, tags_of_inlines}
use Rattle.cm_html.proofs.lemmas.MarkupSteps.{Goes, Balanced, and_then, empty_balanced, append_balanced, element_balanced}
use Rattle.cm_html.proofs.lemmas.MarkupTexts.{escaped, escape_is_text, destination_is_text, value_read, value_closed, attribute}
use Rattle.cm_html.proofs.lemmas.WrittenSchemes.{written_is_followed}

-- any text may be the value of most attributes
any_value : (value : List ℕ) → is_text value ≡ true → (is_text value && true) ≡ true
any_value value is = ap (λ t. t && true) is

-- where something leads
followed_value : (rules : Rules) (dest : List ℕ) → is_followed rules dest ≡ true → (is_text (destination_html dest) && is_followed rules (destination_html dest)) ≡ true
followed_value rules dest follows = ap (λ t. t && is_followed rules (destination_html dest)) (destination_is_text dest) ∙ written_is_followed rules dest follows

-- a tag with a title, if there is one
abbrev with_title : List ℕ → List ℕ → List ℕ
with_title tag [] = tag
with_title tag (b ∷ bs) = tag ++ codes " title=" ++ codes "\"\""

module _ (rules : Rules) where
  -- ---- links and images

  titled : (tag title : List ℕ) (names : List (List ℕ)) → Goes rules (InTag tag names) (codes " title=\"") [] (InValue (tag ++ codes " title=") [] names)
      → ((value : List ℕ) → is_text value ≡ true → may_be_value rules (tag ++ codes " title=") value ≡ true)
      → Goes rules (InTag tag names) (title_html title) [] (InTag (with_title tag title) names)
  titled tag [] names opens may = λ rest. refl
  titled tag (b ∷ bs) names opens may =
      let is = escape_is_text (b ∷ bs) in
      attribute rules (InTag tag names) (tag ++ codes " title=") (codes " title=\"") (escape (b ∷ bs)) names opens is (may (escape (b ∷ bs)) is)

  link_ends : (title : List ℕ) (names : List (List ℕ))
      → Goes rules (InTag (with_title (codes "a href=\"\"") title) names) (codes ">") (link_tag title ∷ []) (InText (codes "a" ∷ names))
  link_ends [] names = λ rest. refl
  link_ends (b ∷ bs) names = λ rest. refl

  link_opens : (dest title : List ℕ) → is_followed rules dest ≡ true → (names : List (List ℕ)) → Goes rules (InText names) (link_start dest title) (link_tag title ∷ []) (InText (codes "a" ∷ names))
  link_opens dest title follows names =
      let leads : Place = InTag (codes "a href=\"\"") names in
      let whole : Place = InTag (with_title (codes "a href=\"\"") title) names in
      let front : List ℕ = codes "<a href=\"" ++ destination_html dest ++ codes "\"" in
      let is = destination_is_text dest in
      and_then rules (InText names) whole (InText (codes "a" ∷ names)) [] (link_tag title ∷ []) (front ++ title_html title) (codes ">")
      (and_then rules (InText names) leads whole [] [] front (title_html title)
      (attribute rules (InText names) (codes "a href=") (codes "<a href=\"") (destination_html dest) names (λ rest. refl) is (followed_value rules dest follows))
      (titled (codes "a href=\"\"") title names (λ rest. refl) any_value))
      (link_ends title names)

  image_ends : (title : List ℕ) (names : List (List ℕ))
      → Goes rules (InTag (with_title (codes "img src=\"\" alt=\"\"") title) names) (codes " />") (image_tag title ∷ []) (InText names)
  image_ends [] names = λ rest. refl
  image_ends (b ∷ bs) names = λ rest. refl

  -- to the front of its alternative text
  image_opens : (dest : List ℕ) → is_followed rules dest ≡ true → (names : List (List ℕ)) → Goes rules (InText names) (image_start dest) [] (InValue (codes "img src=\"\" alt=") [] names)
  image_opens dest follows names =
      let lies : Place = InTag (codes "img src=\"\"") names in
      let value : Place = InValue (codes "img src=") (destination_html dest) names in
      let is = destination_is_text dest in
      and_then rules (InText names) value (InValue (codes "img src=\"\" alt=") [] names) [] [] (codes "<img src=\"" ++ destination_html dest) (codes "\" alt=\"")
      (and_then rules (InText names) (InValue (codes "img src=") [] names) value [] [] (codes "<img src=\"") (destination_html dest)
      (λ rest. refl) (value_read rules (codes "img src=") [] (destination_html dest) names is))
      (and_then rules value lies (InValue (codes "img src=\"\" alt=") [] names) [] [] (codes "\"") (codes " alt=\"")
      (value_closed rules (codes "img src=") (destination_html dest) names (followed_value rules dest follows)) (λ rest. refl))

  image_balanced : (dest title plain : List ℕ) → is_followed rules dest ≡ true → Balanced rules (image_html dest title plain) (image_tag title ∷ [])
  image_balanced dest title plain follows names =
      let described : Place = InTag (codes "img src=\"\" alt=\"\"") names in
      let whole : Place = InTag (with_title (codes "img src=\"\" alt=\"\"") title) names in
      let front : List ℕ = image_start dest ++ escape plain ++ codes "\"" in
      let is = escape_is_text plain in
      and_then rules (InText names) whole (InText names) [] (image_tag title ∷ []) (front ++ title_html title) (codes " />")
      (and_then rules (InText names) described whole [] [] front (title_html title)
      (attribute rules (InText names) (codes "img src=\"\" alt=") (image_start dest) (escape plain) names (image_opens dest follows names) is (any_value (escape plain) is))
      (titled (codes "img src=\"\" alt=\"\"") title names (λ rest. refl) any_value))
      (image_ends title names)

  -- ---- the tree

  abbrev HasItsTags : Inline → Type 0
  HasItsTags i = inline_has_raw i ≡ false → inline_is_followed rules i ≡ true → Balanced rules (rendered i).html (tags_of_inline i)

  -- inlines, each with its proof
  abbrev Proved : Type 0
  Proved = (i : Inline) × HasItsTags i

  abbrev inlines_in : List Proved → List Inline
  inlines_in proved = map (λ e. e.0) proved

  content_balanced : (es : List Proved) → any_of (map inline_has_raw (inlines_in es)) ≡ false → all_of (map (inline_is_followed rules) (inlines_in es)) ≡ true
      → Balanced rules (join_html (map rendered (inlines_in es))) (join_tags (map tags_of_inline (inlines_in es)))
  content_balanced [] free follow = empty_balanced rules
  content_balanced (e ∷ es) free follow =
      let none = or_parts (inline_has_raw e.0) (any_of (map inline_has_raw (inlines_in es))) free in
      let all = and_parts (inline_is_followed rules e.0) (all_of (map (inline_is_followed rules) (inlines_in es))) follow in
      append_balanced rules (tags_of_inline e.0) (join_tags (map tags_of_inline (inlines_in es))) (rendered e.0).html (join_html (map rendered (inlines_in es)))
      (e.1 none.0 all.0) (content_balanced es none.1 all.1)

  -- an element around a content
  round_content : (name tag end start close : List ℕ) (es : List Proved) → any_of (map inline_has_raw (inlines_in es)) ≡ false → all_of (map (inline_is_followed rules) (inlines_in es)) ≡ true
      → ((names : List (List ℕ)) → Goes rules (InText names) start (tag ∷ []) (InText (name ∷ names)))
      → ((names : List (List ℕ)) → Goes rules (InText (name ∷ names)) close (end ∷ []) (InText names))
      → Balanced rules (start ++ join_html (map rendered (inlines_in es)) ++ close) (element tag (join_tags (map tags_of_inline (inlines_in es))) end)
  round_content name tag end start close es free follow opens closes =
      element_balanced rules name tag end start (join_html (map rendered (inlines_in es))) close (join_tags (map tags_of_inline (inlines_in es))) opens (content_balanced es free follow) closes

  -- one inline, from the inlines of its content
  layer : (y : Inline-F Proved) → raw_inline_step (map-Inline Inline Bool inline_has_raw (map-Inline Proved Inline (λ e. e.0) y)) ≡ false
      → followed_inline_step rules (map-Inline Inline Bool (inline_is_followed rules) (map-Inline Proved Inline (λ e. e.0) y)) ≡ true
      → Balanced rules (inline_step (map-Inline Inline Rendered rendered (map-Inline Proved Inline (λ e. e.0) y))).html
      (inline_tags (map-Inline Inline Tags tags_of_inline (map-Inline Proved Inline (λ e. e.0) y)))
  layer (inline.Text text) free follow = escaped rules text
  layer (inline.Code text) free follow = element_balanced rules (codes "code") (codes "code") (codes "/code") (codes "<code>") (escape text) (codes "</code>") [] (λ names rest. refl) (escaped rules text) (λ names rest. refl)
  layer (inline.Html text) free follow = absurd (false≢true (sym free))
  layer inline.Soft free follow = λ names rest. refl
  layer inline.Hard free follow = λ names rest. refl
  layer (inline.Emph es) free follow = round_content (codes "em") (codes "em") (codes "/em") (codes "<em>") (codes "</em>") es free follow (λ names rest. refl) (λ names rest. refl)
  layer (inline.Strong es) free follow = round_content (codes "strong") (codes "strong") (codes "/strong") (codes "<strong>") (codes "</strong>") es free follow (λ names rest. refl) (λ names rest. refl)
  layer (inline.Strike es) free follow = round_content (codes "del") (codes "del") (codes "/del") (codes "<del>") (codes "</del>") es free follow (λ names rest. refl) (λ names rest. refl)
  layer (inline.Link dest title es) free follow =
      let parts = and_parts (is_followed rules dest) (all_of (map (inline_is_followed rules) (inlines_in es))) follow in
      round_content (codes "a") (link_tag title) (codes "/a") (link_start dest title) (codes "</a>") es free parts.1 (link_opens dest title parts.0) (λ names rest. refl)
  layer (inline.Image dest title es) free follow = image_balanced dest title (join_plain (map rendered (inlines_in es))) follow

  rolled : (x : Inline-F Inline)
      → (raw_inline_step (map-Inline Inline Bool inline_has_raw x) ≡ false
      → followed_inline_step rules (map-Inline Inline Bool (inline_is_followed rules) x) ≡ true
      → Balanced rules (inline_step (map-Inline Inline Rendered rendered x)).html (inline_tags (map-Inline Inline Tags tags_of_inline x)))
      → HasItsTags (roll-Inline x)
  rolled x of_layer free follow =
      subst (λ s. Balanced rules s.html (tags_of_inline (roll-Inline x))) (sym (fold-roll-Inline Rendered inline_step x))
      (subst (λ tags. Balanced rules (inline_step (map-Inline Inline Rendered rendered x)).html tags) (sym (fold-roll-Inline Tags inline_tags x))
      (of_layer (sym (fold-roll-Inline Bool raw_inline_step x) ∙ free) (sym (fold-roll-Inline Bool (followed_inline_step rules) x) ∙ follow)))

  inline_balanced : (i : Inline) → HasItsTags i
  inline_balanced = ind-Inline HasItsTags (λ x y is. subst (λ z. HasItsTags (roll-Inline z)) is (rolled (map-Inline Proved Inline (λ e. e.0) y) (layer y)))

  pub inlines_balanced : (inlines : List Inline) → inlines_have_raw inlines ≡ false → inlines_are_followed rules inlines ≡ true → Balanced rules (inlines_html inlines) (tags_of_inlines inlines)
  inlines_balanced [] free follow = empty_balanced rules
  inlines_balanced (i ∷ is) free follow =
      let none = or_parts (inline_has_raw i) (inlines_have_raw is) free in
      let all = and_parts (inline_is_followed rules i) (inlines_are_followed rules is) follow in
      append_balanced rules (tags_of_inline i) (tags_of_inlines is) (rendered i).html (inlines_html is) (inline_balanced i none.0 all.0) (inlines_balanced is none.1 all.1)
