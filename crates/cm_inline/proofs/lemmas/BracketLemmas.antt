-- What a `]` makes of the items before it.
use Rattle.cm_inline.proofs.lemmas.Words.{◌≡◌, ℕ, ◌+◌, ◌<◌, ◌≤◌, Bool, true, false, not, ◌&&◌, ◌||◌, List, [], ◌∷◌, ◌++◌, length, drop, reverse, Option, Some, None}
use Rattle.cm_inline.proofs.lemmas.Words.{refl, sym, ap, ◌∙◌, arith, append_assoc, length-drop, nat_lt, slice_range, reverse-append, Rules, Item, Characters, Finished}
use Rattle.cm_inline.proofs.lemmas.Words.{Linked, Delimiters, Opener, bracket_text, Defined, LinkEnd, Bracketed, OpenerFound, last_opener, end_at, holds_link, made}
use Rattle.cm_inline.proofs.lemmas.Words.{bracket_is_text, brackets_are_text, closed_by_bracket, close_bracket, Bracket, nat_tests, rules}
use Rattle.std.proofs.lemmas.List.{append-nil}
use Rattle.cm_scan.specs.inlines.Brackets.{source_up_to}
use Rattle.cm_inline.specs.steps.Brackets.{is_opener, has_opener, closed_at, end_for}

-- no opener is among items without open brackets
no-opener : (items before after : List Item) → has_opener items ≡ false → last_opener (reverse items ++ before) after ≡ last_opener before (items ++ after)
unfolding has_opener last_opener
no-opener [] before after none = refl
no-opener (x ∷ items) before after none =
    ap (λ t. last_opener (t ++ before) after) (reverse-append (x ∷ []) items)
    ∙ ap (λ t. last_opener t after) (append_assoc (reverse items) (x ∷ []) before)
    ∙ go x none (λ y e. no-opener items (y ∷ before) after e)
  where
    go : (x : Item) → is_opener x || has_opener items ≡ false
        → ((y : Item) → has_opener items ≡ false → last_opener (reverse items ++ y ∷ before) after ≡ last_opener (y ∷ before) (items ++ after))
        → last_opener (reverse items ++ x ∷ before) after ≡ last_opener before (x ∷ (items ++ after))
    go (Characters text) e again = again (Characters text) e
    go (Finished inline) e again = again (Finished inline) e
    go (Linked inline) e again = again (Linked inline) e
    go (Delimiters run) e again = again (Delimiters run) e
    go (Opener image source) e again = absurd (cc e)

-- what the search for an opener comes to
abbrev decided : Rules → Defined → List Item → List ℕ → Option OpenerFound → Bracketed
decided rules defined items rest o = elim o as (λ _. Bracketed) [ Some found ↦ closed_by_bracket rules defined found rest | None ↦ record { items = bracket_is_text items; rest = rest } ]

-- without an opener a `]` is text
pub closes-nothing : (rules : Rules) (defined : Defined) (source : List ℕ) (items : List Item) (at : ℕ) → has_opener items ≡ false
    → closed_at rules defined source items at ≡ record { items = reverse (items ++ Characters (93 ∷ []) ∷ []); rest = drop (at + 1) source }
unfolding close_bracket last_opener
closes-nothing rules defined source items at none =
    let rest = drop (at + 1) source in
    ap (decided rules defined (reverse items) rest) (ap (λ t. last_opener t []) (sym (append-nil (reverse items))) ∙ no-opener items [] [] none)
    ∙ ap (λ t. record { items = t; rest = rest }) (sym (reverse-append items (Characters (93 ∷ []) ∷ [])))

-- The items with both brackets as text, and with a link or an image of what is between them.
abbrev pub left_as_text : (outer inner : List Item) → (image : Bool) → List Item
left_as_text outer inner image = outer ++ Characters (bracket_text image) ∷ (inner ++ Characters (93 ∷ []) ∷ [])

abbrev pub link_made : (outer inner : List Item) → (image : Bool) → (dest title : List ℕ) → List Item
link_made outer inner image dest title = outer ++ made image dest title inner ∷ []

-- what comes of both brackets, by what follows them
abbrev pub closed_or : (outer inner : List Item) → (image : Bool) → List ℕ → Option LinkEnd → Bracketed
closed_or outer inner image rest None = record { items = reverse (left_as_text outer inner image); rest = rest }
closed_or outer inner image rest (Some end) = record { items = reverse (link_made outer inner image end.dest end.title); rest = end.rest }

module _ (rules : Rules) (defined : Defined) (source : List ℕ) (outer inner : List Item) (b : Bracket) (at : ℕ) where
  abbrev found : OpenerFound
  found = record { before = reverse outer; image = b.image; source = drop b.end source; inside = inner }

  abbrev rest : List ℕ
  rest = drop (at + 1) source

  abbrev opener : Item
  opener = Opener b.image (drop b.end source)

  opener-found : has_opener inner ≡ false → last_opener (reverse (outer ++ opener ∷ inner)) [] ≡ Some found
  unfolding last_opener
  opener-found none =
      ap (λ t. last_opener t []) (reverse-append outer (opener ∷ inner) ∙ ap (λ t. t ++ reverse outer) (reverse-append (opener ∷ []) inner) ∙ append_assoc (reverse inner) (opener ∷ []) (reverse outer))
      ∙ no-opener inner (opener ∷ reverse outer) [] none
      ∙ ap (λ t. Some (record { before = reverse outer; image = b.image; source = drop b.end source; inside = t })) (append-nil inner)

  text-turned : brackets_are_text found ≡ reverse (left_as_text outer inner b.image)
  text-turned =
      let first = Characters (bracket_text b.image) in
      let last = Characters (93 ∷ []) in
      sym (
      reverse-append outer (first ∷ (inner ++ last ∷ []))
      ∙ ap (λ t. t ++ reverse outer) (reverse-append (first ∷ []) (inner ++ last ∷ []) ∙ ap (λ t. t ++ first ∷ []) (reverse-append inner (last ∷ [])))
      ∙ append_assoc (last ∷ reverse inner) (first ∷ []) (reverse outer)
      )

  -- the source between both brackets
  between-is : b.end ≤ at → at < length source → source_up_to (drop b.end source) (93 ∷ rest) ≡ slice_range source b.end at
  unfolding source_up_to
  between-is low within = grind (arith, nat_tests, length-drop)

  abbrev by_end : Option LinkEnd → Bracketed
  by_end o = elim o as (λ _. Bracketed) [
    | Some end ↦ record { items = made b.image end.dest end.title inner ∷ reverse outer; rest = end.rest }
    | None ↦ record { items = brackets_are_text found; rest = rest }
  ]

  end-turned : (o : Option LinkEnd) → by_end o ≡ closed_or outer inner b.image rest o
  end-turned o = grind (arith, nat_tests, text-turned, reverse-append)

  -- a `]` with an opener
  pub closes-opener : (links_end : ℕ) → has_opener inner ≡ false → holds_link inner ≡ nat_lt b.mark links_end → b.end ≤ at → at < length source
      → closed_at rules defined source (outer ++ opener ∷ inner) at ≡ closed_or outer inner b.image rest (end_for rules defined source b links_end at)
  unfolding close_bracket closed_by_bracket
  closes-opener links_end none links low within =
      ap (decided rules defined (reverse (outer ++ opener ∷ inner)) rest) (opener-found none)
      ∙ ap (λ v. refused v (end_at rules defined (source_up_to (drop b.end source) (93 ∷ rest)) rest)) (ap (λ v. not b.image && v) links)
      ∙ ap (λ t. refused (not b.image && nat_lt b.mark links_end) (end_at rules defined t rest)) (between-is low within)
      ∙ either (not b.image && nat_lt b.mark links_end) (end_at rules defined (slice_range source b.end at) rest)
    where
      refused : Bool → Option LinkEnd → Bracketed
      refused v o = elim v as (λ _. Bracketed) [ true ↦ record { items = brackets_are_text found; rest = rest } | false ↦ by_end o ]

      either : (v : Bool) (o : Option LinkEnd) → refused v o ≡ closed_or outer inner b.image rest (elim v as (λ _. Option LinkEnd) [ true ↦ None | false ↦ o ])
      either true o = end-turned None
      either false o = end-turned o
