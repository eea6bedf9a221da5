-- No definition is at the start of a spelled content: a link there ends where no colon follows.
use Rattle.std.proofs.Common.{◌≡◌, ℕ, zero, suc, ◌==◌, ◌&&◌, ◌||◌, not, Bool, true, false, List, [], ◌∷◌, ◌++◌, replicate, map, Option, Some, None, codes, refl, sym, ap, ◌∙◌, append_assoc}
use Rattle.std.specs.Prelude.{if◌then◌else◌}
use Rattle.std.specs.List.{list_all}
use Rattle.std.specs.Fmt.{decimal}
use Rattle.std.specs.Char.{is_ascii_digit}
use Rattle.std.proofs.lemmas.Bool.{or_parts, or_from, and_parts, and_right, not-true, or_right}
use Rattle.cm_text.specs.Rules.{Rules}
use Rattle.cm_text.specs.Characters.{is_ascii_punct}
use Rattle.cm_tree.specs.declared.tree.Inline.{Inline}
use Rattle.cm_tree.specs.declared.tree.Inline.TheVariants.{Text, Code, Html, Soft, Hard, Emph, Strong, Strike, Link, Image}
use Rattle.cm_scan.specs.Words.{is_empty, begins_with, after_word, is_at_word, holds_word, given, ◌<|>◌, ◌and_then◌}
use Rattle.cm_scan.specs.spans.Tags.{after_gap}
use Rattle.cm_scan.specs.inlines.Links.{Reading, beyond, keep_if, escapes_next, up_to_closing, is_label, label, LinkDefinition, destination, titled, untitled, link_definition, definitions_within, definitions_of}
use Rattle.cm_source.specs.Inlines.{Spelled, spelled, join, is_line_end, between}
use Rattle.cm_source.specs.Texts.{numbered, edge_byte, spelled_text, longest_run, is_padded, spelled_code, spelled_target}
use Rattle.cm_source.specs.InlineRefusals.{Face, Place, judged, further_in, inside_link, first_face, refusal_of_all, ends_a_label}
use Rattle.cm_source.proofs.lemmas.shared.AcceptedLemmas.{or-none, Accepted, text-accepted, code-accepted, html-accepted, emph-accepted, strong-accepted, strike-accepted, link-accepted}
use Rattle.cm_source.proofs.lemmas.shared.InlineInduction.{AllHold, Cases, by-cases, all-by-cases}
use Rattle.cm_source.proofs.lemmas.shared.BytesOfSpellings.{all-digits}
use Rattle.cm_source.proofs.lemmas.shared.OneTag.{tag-begins, tag-ends}
use Rattle.cm_source.proofs.lemmas.spelling.SpelledTexts.{escapes-none}
use Rattle.cm_source.proofs.lemmas.shared.ByteSpellings.{SpellsByte, ByNumber, Escaped, AsItIs, spells_edge}
use Rattle.cm_scan.proofs.lemmas.texts.ToldApart.{differs, differs'}
use Rattle.cm_source.proofs.lemmas.shared.AllPass.{all-both, all-so}
use Rattle.cm_tree.proofs.lemmas.InlineFolds as inline_fold
use Rattle.cm_source.specs.Inlines as spelling

-- ---- where a label ends

-- No colon follows the first bracket that isn't escaped, if it is a right one. The mark says that the first byte is escaped.
unfoldable pub is_no_label : (is_escaped : Bool) → List ℕ → Bool
is_no_label is_escaped [] = true
is_no_label true (b ∷ bs) = is_no_label false bs
is_no_label false (b ∷ bs) = if b == 93 then not (begins_with 58 bs) else (if b == 91 then true else is_no_label (escapes_next b bs) bs)

-- what a text is read as up to its first right bracket
abbrev bracketed : Bool → List ℕ → Option Reading
bracketed is_escaped text = up_to_closing (λ c. c == 93) (λ c. c == 91) is_escaped text

-- no colon follows
unfoldable NoColon : Option Reading → Type 0
NoColon None = Unit {0}
NoColon (Some r) = after_word (codes ":") r.rest ≡ None

no-colon-beyond : (b : ℕ) (r : Option Reading) → NoColon r → NoColon (beyond b r)
unfolding NoColon
no-colon-beyond b None e = tt
no-colon-beyond b (Some r) e = e

no-colon-next : (bs : List ℕ) → not (begins_with 58 bs) ≡ true → after_word (codes ":") bs ≡ None
unfolding after_word
no-colon-next [] e = refl
no-colon-next (b ∷ bs) e = go (b == 58) e
  where
    go : (v : Bool) → not v ≡ true → elim v as (λ _. Option (List ℕ)) [ true ↦ Some bs | false ↦ None ] ≡ None
    go false k = refl
    go true k = absurd (cc k)

no-colon : (is_escaped : Bool) (text : List ℕ) → is_no_label is_escaped text ≡ true → NoColon (bracketed is_escaped text)
unfolding is_no_label up_to_closing NoColon
no-colon is_escaped [] e = tt
no-colon true (b ∷ bs) e = no-colon-beyond b (bracketed false bs) (no-colon false bs e)
no-colon false (b ∷ bs) e = go (b == 93) (b == 91) e (no-colon (escapes_next b bs) bs)
  where
    go : (closes opens : Bool) → (if closes then not (begins_with 58 bs) else (if opens then true else is_no_label (escapes_next b bs) bs)) ≡ true
        → (is_no_label (escapes_next b bs) bs ≡ true → NoColon (bracketed (escapes_next b bs) bs))
        → NoColon (elim closes as (λ _. Option Reading) [
          | true ↦ Some (record { text = []; rest = bs })
          | false ↦ elim opens as (λ _. Option Reading) [ true ↦ None | false ↦ beyond b (bracketed (escapes_next b bs) bs) ]
        ])
    go true opens k again = no-colon-next bs k
    go false true k again = tt
    go false false k again = no-colon-beyond b (bracketed (escapes_next b bs) bs) (again k)

by_label : Option Reading → Option LinkDefinition
by_label found = found and_then λ l. after_word (codes ":") l.rest and_then λ rest. destination (after_gap rest) and_then λ d.
    titled l.text d.text d.rest <|> untitled l.text d.text d.rest

label-none : (found : Option Reading) → NoColon found → by_label (keep_if is_label found) ≡ None
unfolding by_label NoColon
label-none None e = refl
label-none (Some r) e = go (is_label r)
  where
    go : (v : Bool) → by_label (given v r) ≡ None
    go false = refl
    go true = ap (λ (w : Option (List ℕ)). w and_then λ rest. destination (after_gap rest) and_then λ d.
        titled r.text d.text d.rest <|> untitled r.text d.text d.rest) e

bracket-none : (text : List ℕ) → is_no_label false text ≡ true → link_definition (91 ∷ text) ≡ None
unfolding link_definition label by_label
bracket-none text e = label-none (bracketed false text) (no-colon false text e)

other-none : (b : ℕ) (text : List ℕ) → (b == 91) ≡ false → link_definition (b ∷ text) ≡ None
unfolding link_definition label by_label
other-none b text e = ap (λ v. by_label (elim v as (λ _. Option Reading) [ true ↦ keep_if is_label (bracketed false text) | false ↦ None ])) e

pub defines-nothing : (text : List ℕ) → link_definition text ≡ None → definitions_of text ≡ record { taken = []; left = text }
unfolding definitions_of definitions_within
defines-nothing [] e = refl
defines-nothing (b ∷ bs) e = rw (e, definitions_within) refl

-- ---- texts that pass

passes_byte : ℕ → Bool
passes_byte b = not (b == 91) && (not (b == 92) && not (b == 93))

one-passes : (b : ℕ) (more : List ℕ) → (b == 91) ≡ false → (b == 92) ≡ false → (b == 93) ≡ false → is_no_label false more ≡ true → is_no_label false (b ∷ more) ≡ true
unfolding is_no_label
one-passes b more e f g h = goes (escapes-none b more f)
  where
    goes : escapes_next b more ≡ false → is_no_label false (b ∷ more) ≡ true
    goes k = ap (λ v. if v then not (begins_with 58 more) else (if b == 91 then true else is_no_label (escapes_next b more) more)) g
        ∙ ap (λ v. if v then true else is_no_label (escapes_next b more) more) e ∙ ap (λ v. is_no_label v more) k ∙ h

all-pass : (text more : List ℕ) → list_all passes_byte text ≡ true → is_no_label false more ≡ true → is_no_label false (text ++ more) ≡ true
unfolding passes_byte
all-pass [] more e h = h
all-pass (b ∷ bs) more e h =
    let parts = and_parts (passes_byte b) (list_all passes_byte bs) e in
    let first = and_parts (not (b == 91)) (not (b == 92) && not (b == 93)) parts.0 in
    let others = and_parts (not (b == 92)) (not (b == 93)) first.1 in
    one-passes b (bs ++ more) (not-true (b == 91) first.0) (not-true (b == 92) others.0) (not-true (b == 93) others.1) (all-pass bs more parts.1 h)

digit-passes : (b : ℕ) → is_ascii_digit b ≡ true → passes_byte b ≡ true
unfolding passes_byte
digit-passes b d = ap (λ v. not v && (not (b == 92) && not (b == 93))) (differs is_ascii_digit b 91 d refl)
    ∙ ap (λ v. not v && not (b == 93)) (differs is_ascii_digit b 92 d refl) ∙ ap not (differs is_ascii_digit b 93 d refl)

spelling-passes : (b : ℕ) (front : List ℕ) → SpellsByte b front → (more : List ℕ) → is_no_label false more ≡ true → is_no_label false (front ++ more) ≡ true
unfolding passes_byte is_no_label
spelling-passes b front (ByNumber low) more h =
    all-pass (numbered b) more (all-both passes_byte (decimal b) (59 ∷ []) (all-so is_ascii_digit passes_byte digit-passes (decimal b) (all-digits b low)) refl) h
spelling-passes b front (Escaped punct tick) more h = ap (λ v. is_no_label v (b ∷ more)) punct ∙ h
spelling-passes b front (AsItIs printed punct) more h =
    one-passes b more (differs' is_ascii_punct b 91 punct refl) (differs' is_ascii_punct b 92 punct refl) (differs' is_ascii_punct b 93 punct refl) h

text-passes : (first last : Bool) (text more : List ℕ) → is_no_label false more ≡ true → is_no_label false (spelled_text first last text ++ more) ≡ true
unfolding spelled_text
text-passes first last [] more h = h
text-passes first last (b ∷ bs) more h =
    let at_edge = first || last && is_empty bs in
    ap (is_no_label false) (append_assoc (edge_byte at_edge b) (spelled_text false last bs) more)
    ∙ spelling-passes b (edge_byte at_edge b) (spells_edge at_edge b) (spelled_text false last bs ++ more) (text-passes false last bs more h)

-- ---- code and raw HTML

-- whatever is escaped
abbrev PassesEither : List ℕ → Type 0
PassesEither text = (v : Bool) → is_no_label v text ≡ true

either-byte : (b : ℕ) (more : List ℕ) → (b == 91) ≡ false → (b == 92) ≡ false → (b == 93) ≡ false → is_no_label false more ≡ true → PassesEither (b ∷ more)
unfolding is_no_label
either-byte b more e f g h true = h
either-byte b more e f g h false = one-passes b more e f g h

ticks-pass : (n : ℕ) (more : List ℕ) → is_no_label false more ≡ true → is_no_label false (replicate n 96 ++ more) ≡ true
ticks-pass zero more h = h
ticks-pass (suc n) more h = one-passes 96 (replicate n 96 ++ more) refl refl refl (ticks-pass n more h)

held-next : (b : ℕ) (bs : List ℕ) → holds_word (codes "]:") (b ∷ bs) ≡ false → (b == 93) ≡ true → begins_with 58 bs ≡ false
unfolding holds_word is_at_word
held-next b bs e p = go bs (sym (ap (λ v. v && is_at_word (58 ∷ []) bs) p) ∙ (or_parts (b == 93 && is_at_word (58 ∷ []) bs) (holds_word (codes "]:") bs) e).0)
  where
    go : (bs : List ℕ) → is_at_word (58 ∷ []) bs ≡ false → begins_with 58 bs ≡ false
    go [] k = refl
    go (c ∷ cs) k = at (c == 58) k
      where
        at : (v : Bool) → (v && true) ≡ false → v ≡ false
        at false k = refl
        at true k = absurd (cc k)

held-further : (b : ℕ) (bs : List ℕ) → holds_word (codes "]:") (b ∷ bs) ≡ false → holds_word (codes "]:") bs ≡ false
unfolding holds_word
held-further b bs e = (or_parts (is_at_word (codes "]:") (b ∷ bs)) (holds_word (codes "]:") bs) e).1

-- a text that holds no `]:`, before a byte that is no colon
words-pass : (text : List ℕ) (z : ℕ) (more : List ℕ) → holds_word (codes "]:") text ≡ false → (z == 58) ≡ false → PassesEither (z ∷ more) → PassesEither (text ++ z ∷ more)
unfolding is_no_label
words-pass [] z more e other h v = h v
words-pass (b ∷ bs) z more e other h true = words-pass bs z more (held-further b bs e) other h false
words-pass (b ∷ bs) z more e other h false = go (b == 93) (b == 91) refl (words-pass bs z more (held-further b bs e) other h)
  where
    next : (bs : List ℕ) → begins_with 58 bs ≡ false → begins_with 58 (bs ++ z ∷ more) ≡ false
    next [] k = other
    next (c ∷ cs) k = k

    go : (closes opens : Bool) → (b == 93) ≡ closes → PassesEither (bs ++ z ∷ more)
        → (if closes then not (begins_with 58 (bs ++ z ∷ more)) else (if opens then true else is_no_label (escapes_next b (bs ++ z ∷ more)) (bs ++ z ∷ more))) ≡ true
    go true opens p again = ap not (next bs (held-next b bs e p))
    go false true p again = refl
    go false false p again = again (escapes_next b (bs ++ z ∷ more))

code-passes : (text more : List ℕ) → holds_word (codes "]:") text ≡ false → is_no_label false more ≡ true → is_no_label false (spelled_code text ++ more) ≡ true
unfolding spelled_code
code-passes text more e h = go (is_padded text)
  where
    go : (v : Bool) → is_no_label false (replicate (suc (longest_run 0 text)) 96 ++ (if v then 32 ∷ [] else []) ++ text ++ (if v then 32 ∷ [] else []) ++ replicate (suc (longest_run 0 text)) 96 ++ more) ≡ true
    go true =
        let n = longest_run 0 text in
        let marks = replicate (suc n) 96 in
        let shape : marks ++ (32 ∷ []) ++ text ++ (32 ∷ []) ++ marks ++ more ≡ marks ++ (32 ∷ (text ++ 32 ∷ (marks ++ more))) = simp append_assoc in
        ap (is_no_label false) shape ∙ ticks-pass (suc n) (32 ∷ (text ++ 32 ∷ (marks ++ more)))
        (one-passes 32 (text ++ 32 ∷ (marks ++ more)) refl refl refl
        (words-pass text 32 (marks ++ more) e refl (either-byte 32 (marks ++ more) refl refl refl (ticks-pass (suc n) more h)) false))
    go false =
        let n = longest_run 0 text in
        let marks = replicate (suc n) 96 in
        let shape : marks ++ [] ++ text ++ [] ++ marks ++ more ≡ marks ++ (text ++ 96 ∷ (replicate n 96 ++ more)) = simp append_assoc in
        ap (is_no_label false) shape ∙ ticks-pass (suc n) (text ++ 96 ∷ (replicate n 96 ++ more))
        (words-pass text 96 (replicate n 96 ++ more) e refl (either-byte 96 (replicate n 96 ++ more) refl refl refl (ticks-pass n more h)) false)

held-front : (front : List ℕ) (z : ℕ) → holds_word (codes "]:") (front ++ z ∷ []) ≡ false → holds_word (codes "]:") front ≡ false
unfolding holds_word is_at_word
held-front [] z e = refl
held-front (b ∷ []) z e = or_from ((b == 93) && false) false (and_right (b == 93) false refl) refl
held-front (b ∷ c ∷ cs) z e =
    let parts = or_parts (is_at_word (codes "]:") (b ∷ c ∷ cs)) (holds_word (codes "]:") (c ∷ cs ++ z ∷ [])) e in
    or_from (is_at_word (codes "]:") (b ∷ c ∷ cs)) (holds_word (codes "]:") (c ∷ cs)) parts.0 (held-front (c ∷ cs) z parts.1)

-- ---- kinds of inlines in a link that opens a paragraph

module _ (rules : Rules) where
  abbrev Passes : Inline → Type 0
  Passes i = (place : Place) → place.in_opening_link ≡ true → (before after : Option Face) → Accepted rules place before after i → (first last : Bool) (more : List ℕ)
      → is_no_label false more ≡ true → is_no_label false ((spelled i).spelling first last ++ more) ≡ true

  content-passes : (is : List Inline) → AllHold Passes is → (place : Place) → place.in_opening_link ≡ true → (before : Option Face)
      → refusal_of_all place before (map (judged rules) is) ≡ None → (first last : Bool) (more : List ℕ)
      → is_no_label false more ≡ true → is_no_label false (join first last (map spelled is) ++ more) ≡ true
  unfolding AllHold
  content-passes [] all place within before e first last more h = h
  content-passes (i ∷ is) all place within before e first last more h =
      let after = first_face (map (judged rules) is) in
      let parts = or-none ((judged rules i).refusal place before after) (refusal_of_all (further_in place) (Some (judged rules i).face) (map (judged rules) is)) e in
      let ends = is_line_end last (map spelled is) in
      let further = join (spelled i).begins_line last (map spelled is) in
      ap (is_no_label false) (append_assoc ((spelled i).spelling first ends) further more)
      ∙ all.0 place within before after parts.0 first ends (further ++ more)
      (content-passes is all.1 (further_in place) within (Some (judged rules i).face) parts.1 (spelled i).begins_line last more h)

  abbrev told : (i : Inline) (s : Spelled) → spelled i ≡ s → (first last : Bool) (more : List ℕ) → is_no_label false (s.spelling first last ++ more) ≡ true
      → is_no_label false ((spelled i).spelling first last ++ more) ≡ true
  told i s e first last more k = ap (λ (z : Spelled). is_no_label false (z.spelling first last ++ more)) e ∙ k

  -- stars or tildes around a content
  round-passes : (marks : List ℕ) → list_all passes_byte marks ≡ true → (is : List Inline) → AllHold Passes is → (place : Place) → place.in_opening_link ≡ true
      → refusal_of_all place None (map (judged rules) is) ≡ None → (first last : Bool) (more : List ℕ) → is_no_label false more ≡ true
      → is_no_label false ((between marks (map spelled is) marks).spelling first last ++ more) ≡ true
  round-passes marks plain is all place within e first last more h =
      let content = join false false (map spelled is) in
      ap (is_no_label false) (append_assoc (marks ++ content) marks more ∙ append_assoc marks content (marks ++ more))
      ∙ all-pass marks (content ++ (marks ++ more)) plain (content-passes is all place within None e false false (marks ++ more) (all-pass marks more plain h))

  no-pair : (place : Place) → place.in_opening_link ≡ true → (text : List ℕ) → ends_a_label place text ≡ false → holds_word (codes "]:") text ≡ false
  no-pair place within text e = sym (ap (λ v. v && holds_word (codes "]:") text) within) ∙ e

  html-passes : (text more : List ℕ) → (front : List ℕ) → text ≡ front ++ 62 ∷ [] → holds_word (codes "]:") text ≡ false → is_no_label false more ≡ true → is_no_label false (text ++ more) ≡ true
  html-passes text more front is e h =
      ap (λ t. is_no_label false (t ++ more)) is ∙ ap (is_no_label false) (append_assoc front (62 ∷ []) more)
      ∙ words-pass front 62 more (held-front front 62 (sym (ap (holds_word (codes "]:")) is) ∙ e)) refl (either-byte 62 more refl refl refl h) false

  passes : Cases Passes
  unfolding is_no_label passes_byte
  passes = record {
    text = λ text place within before after e first last more h. told (Text text) _ (inline_fold.text spelling.inline_step text) first last more (text-passes first last text more h);
    code = λ text place within before after e first last more h. told (Code text) _ (inline_fold.code spelling.inline_step text) first last more
        (code-passes text more (no-pair place within text (code-accepted rules place before after text e).no_label) h);
    html = λ text place within before after e first last more h.
        let a = html-accepted rules place before after text e in
        let tag = tag-ends rules text a.one_tag in
        told (Html text) _ (inline_fold.html spelling.inline_step text) first last more (html-passes text more tag.0 tag.1 (no-pair place within text a.no_label) h);
    soft = λ place within before after e first last more h. told Soft _ (inline_fold.soft spelling.inline_step) first last more (one-passes 10 more refl refl refl h);
    hard = λ place within before after e first last more h. told Hard _ (inline_fold.hard spelling.inline_step) first last more (one-passes 10 more refl refl refl h);
    emph = λ is all place within before after e first last more h. told (Emph is) _ (inline_fold.emph spelling.inline_step is) first last more
        (round-passes (codes "*") refl is all (further_in place) within (emph-accepted rules place before after is e).inside first last more h);
    strong = λ is all place within before after e first last more h. told (Strong is) _ (inline_fold.strong spelling.inline_step is) first last more
        (round-passes (codes "**") refl is all (further_in place) within (strong-accepted rules place before after is e).inside first last more h);
    strike = λ is all place within before after e first last more h. told (Strike is) _ (inline_fold.strike spelling.inline_step is) first last more
        (round-passes (codes "~~") refl is all (further_in place) within (strike-accepted rules place before after is e).inside first last more h);
    link = λ dest title is all place within before after e first last more h. told (Link dest title is) _ (inline_fold.link spelling.inline_step dest title is) first last more refl;
    image = λ dest title is all place within before after e first last more h. told (Image dest title is) _ (inline_fold.image spelling.inline_step dest title is) first last more refl;
  }

  -- ---- the first inline of a paragraph

  abbrev DefinesNothing : Inline → Type 0
  DefinesNothing i = (place : Place) → place.opens_paragraph ≡ true → (after : Option Face) → Accepted rules place None after i → (last : Bool) (more : List ℕ)
      → link_definition ((spelled i).spelling true last ++ more) ≡ None

  abbrev none-told : (i : Inline) (s : Spelled) → spelled i ≡ s → (last : Bool) (more : List ℕ) → link_definition (s.spelling true last ++ more) ≡ None
      → link_definition ((spelled i).spelling true last ++ more) ≡ None
  none-told i s e last more k = ap (λ (z : Spelled). link_definition (z.spelling true last ++ more)) e ∙ k

  spelling-none : (b : ℕ) (front : List ℕ) → SpellsByte b front → (more : List ℕ) → link_definition (front ++ more) ≡ None
  spelling-none b front (ByNumber low) more = other-none 38 _ refl
  spelling-none b front (Escaped punct tick) more = other-none 92 (b ∷ more) refl
  spelling-none b front (AsItIs printed punct) more = other-none b more (differs' is_ascii_punct b 91 punct refl)

  text-none : (last : Bool) (text more : List ℕ) → is_empty text ≡ false → link_definition (spelled_text true last text ++ more) ≡ None
  unfolding spelled_text
  text-none last [] more some = absurd (cc some)
  text-none last (b ∷ bs) more some =
      ap link_definition (append_assoc (edge_byte true b) (spelled_text false last bs) more) ∙ spelling-none b (edge_byte true b) (spells_edge true b) (spelled_text false last bs ++ more)

  link-none : (dest title : List ℕ) (is : List Inline) (place : Place) → place.opens_paragraph ≡ true → refusal_of_all (inside_link place) None (map (judged rules) is) ≡ None
      → (first last : Bool) (more : List ℕ) → link_definition ((between (codes "[") (map spelled is) (spelled_target dest title)).spelling first last ++ more) ≡ None
  unfolding spelled_target is_no_label
  link-none dest title is place opens e first last more =
      let content = join false false (map spelled is) in
      let target = spelled_target dest title in
      ap (λ t. link_definition (91 ∷ t)) (append_assoc content target more)
      ∙ bracket-none (content ++ (target ++ more))
      (content-passes is (all-by-cases Passes passes is) (inside_link place) (or_right place.in_opening_link place.opens_paragraph opens) None e false false (target ++ more) refl)

  first-none : (i : Inline) → DefinesNothing i
  unfolding spelled_code
  first-none = by-cases DefinesNothing (record {
    text = λ text place opens after e last more. none-told (Text text) _ (inline_fold.text spelling.inline_step text) last more (text-none last text more (text-accepted rules place None after text e).nonempty);
    code = λ text place opens after e last more. none-told (Code text) _ (inline_fold.code spelling.inline_step text) last more (other-none 96 _ refl);
    html = λ text place opens after e last more.
        let tag = tag-begins rules text (html-accepted rules place None after text e).one_tag in
        none-told (Html text) _ (inline_fold.html spelling.inline_step text) last more (ap (λ t. link_definition (t ++ more)) tag.1 ∙ other-none 60 (tag.0 ++ more) refl);
    soft = λ place opens after e last more. none-told Soft _ (inline_fold.soft spelling.inline_step) last more (other-none 10 more refl);
    hard = λ place opens after e last more. none-told Hard _ (inline_fold.hard spelling.inline_step) last more (other-none 92 (10 ∷ more) refl);
    emph = λ is all place opens after e last more. none-told (Emph is) _ (inline_fold.emph spelling.inline_step is) last more (other-none 42 _ refl);
    strong = λ is all place opens after e last more. none-told (Strong is) _ (inline_fold.strong spelling.inline_step is) last more (other-none 42 _ refl);
    strike = λ is all place opens after e last more. none-told (Strike is) _ (inline_fold.strike spelling.inline_step is) last more (other-none 126 _ refl);
    link = λ dest title is all place opens after e last more. none-told (Link dest title is) _ (inline_fold.link spelling.inline_step dest title is) last more
        (link-none dest title is place opens (link-accepted rules place None after dest title is e).inside true last more);
    image = λ dest title is all place opens after e last more. none-told (Image dest title is) _ (inline_fold.image spelling.inline_step dest title is) last more (other-none 33 _ refl);
  })

  -- no definition is at the start of a paragraph's content
  pub content-none : (i : Inline) (is : List Inline) (place : Place) → place.opens_paragraph ≡ true → refusal_of_all place None (map (judged rules) (i ∷ is)) ≡ None
      → (last : Bool) → link_definition (join true last (map spelled (i ∷ is))) ≡ None
  content-none i is place opens e last =
      let after = first_face (map (judged rules) is) in
      first-none i place opens after (or-none ((judged rules i).refusal place None after) (refusal_of_all (further_in place) (Some (judged rules i).face) (map (judged rules) is)) e).0
      (is_line_end last (map spelled is)) (join (spelled i).begins_line last (map spelled is))
