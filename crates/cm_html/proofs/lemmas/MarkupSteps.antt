-- Where a reader of markup is after some bytes, and the tags that it has met, whatever follows the bytes.
use Rattle.std.proofs.Common.{◌≡◌, ℕ, Option, Some, List, [], ◌∷◌, ◌++◌, ap, refl, sym, ◌∙◌, append-nil}
use Rattle.std.proofs.lemmas.List.{append_assoc}
use Rattle.cm_text.specs.Rules.{Rules}
use Rattle.cm_html.specs.Markup.Place.{InText}
use Rattle.cm_html.specs.Markup.{Place, tags_from, tags_in, and_tag, and_tags}
use Rattle.cm_html.specs.Tags.{Tags, element}

and_tags_append : (s t : Tags) (following : Option Tags) → and_tags s (and_tags t following) ≡ and_tags (s ++ t) following
and_tags_append [] t following = refl
and_tags_append (tag ∷ s) t following = ap (and_tag tag) (and_tags_append s t following)

known : (tags : Tags) → and_tags tags (Some []) ≡ Some tags
known [] = refl
known (tag ∷ tags) = ap (and_tag tag) (known tags)

module _ (rules : Rules) where
  abbrev pub Goes : Place → List ℕ → Tags → Place → Type 0
  Goes before bytes tags after = (rest : List ℕ) → tags_from rules before (bytes ++ rest) ≡ and_tags tags (tags_from rules after rest)

  -- bytes that close what they open
  abbrev pub Balanced : List ℕ → Tags → Type 0
  Balanced bytes tags = (names : List (List ℕ)) → Goes (InText names) bytes tags (InText names)

  pub and_then : (a b c : Place) (s t : Tags) (xs ys : List ℕ) → Goes a xs s b → Goes b ys t c → Goes a (xs ++ ys) (s ++ t) c
  and_then a b c s t xs ys first second rest =
      ap (tags_from rules a) (append_assoc xs ys rest) ∙ first (ys ++ rest) ∙ ap (and_tags s) (second rest) ∙ and_tags_append s t (tags_from rules c rest)

  pub empty_balanced : Balanced [] []
  empty_balanced names rest = refl

  pub append_balanced : (s t : Tags) (xs ys : List ℕ) → Balanced xs s → Balanced ys t → Balanced (xs ++ ys) (s ++ t)
  append_balanced s t xs ys first second names = and_then (InText names) (InText names) (InText names) s t xs ys (first names) (second names)

  -- between two tags, with more open inside
  pub between_tags : (inner names : List (List ℕ)) (s t u : Tags) (start html end : List ℕ)
      → Goes (InText names) start s (InText inner) → Balanced html t → Goes (InText inner) end u (InText names)
      → Goes (InText names) (start ++ html ++ end) (s ++ t ++ u) (InText names)
  between_tags inner names s t u start html end opens balanced closes =
      and_then (InText names) (InText inner) (InText names) (s ++ t) u (start ++ html) end
      (and_then (InText names) (InText inner) (InText inner) s t start html opens (balanced inner)) closes

  -- an element of this name
  pub element_balanced : (name tag end start html close : List ℕ) (tags : Tags)
      → ((names : List (List ℕ)) → Goes (InText names) start (tag ∷ []) (InText (name ∷ names))) → Balanced html tags
      → ((names : List (List ℕ)) → Goes (InText (name ∷ names)) close (end ∷ []) (InText names))
      → Balanced (start ++ html ++ close) (element tag tags end)
  element_balanced name tag end start html close tags opens balanced closes names =
      between_tags (name ∷ names) names (tag ∷ []) tags (end ∷ []) start html close (opens names) balanced (closes names)

  -- what is balanced is markup
  pub balanced_whole : (html : List ℕ) (tags : Tags) → Balanced html tags → tags_in rules html ≡ Some tags
  balanced_whole html tags balanced = ap (λ bytes. tags_from rules (InText []) bytes) (sym (append-nil html)) ∙ balanced [] [] ∙ known tags
