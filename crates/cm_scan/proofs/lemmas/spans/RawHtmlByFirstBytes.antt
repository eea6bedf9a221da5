-- Raw HTML in a text, by the bytes that it starts with.
use Rattle.std.proofs.Common.{◌≡◌, ℕ, suc, ◌+◌, ◌-◌, ◌<◌, ◌≤◌, true, false, List, [], ◌∷◌, ◌++◌, length, take, drop, get_or, Option, Some, None, codes, IsUtf8, refl, sym, ap, subst, ◌∙◌, arith, drop-drop, get_or-drop, length-drop, length-append}
use Rattle.std.specs.List.{slice_range}
use Rattle.std.specs.Str.{IsCharBoundary}
use Rattle.std.specs.Char.{is_ascii_alphabetic}
use Rattle.std.proofs.Math.Seq.{drop-append_seam}
use Rattle.std.proofs.lemmas.Str.{IsCharBoundary-after_ascii}
use Rattle.cm_text.specs.Rules.{Rules}
use Rattle.cm_scan.specs.Words.{after_word, ◌<|>◌}
use Rattle.cm_scan.specs.spans.Tags.{tag_name, open_tag, closing_tag}
use Rattle.cm_scan.specs.inlines.Links.{Reading}
use Rattle.cm_scan.specs.spans.RawHtml.{beyond_word, from_to, short_end, after_comment, comment, after_declaration, declaration, html_tag, raw_html}
use Rattle.cm_scan.specs.spans.Angles.{before}
use Rattle.cm_scan.specs.Scanned.{whole_of}
use Rattle.cm_scan.specs.steps.SpanSteps.{after_tag}
use Rattle.cm_scan.proofs.lemmas.spans.RawHtmlGoesOn.{word-front}
use Rattle.cm_scan.proofs.lemmas.texts.EndsOfTexts.{IsEnd}
use Rattle.cm_scan.proofs.lemmas.spans.RawHtmlEnds.{raw_html-ends}

-- the end of a comment without a text

module _ (inside : List ℕ) where
  pub short-here : (rest : List ℕ) → Some rest ≡ after_word (codes ">") inside → Some rest ≡ short_end inside
  unfolding short_end
  short-here rest h = ap (λ o. o <|> after_word (codes "->") inside) h

  pub short-next : None ≡ after_word (codes ">") inside → short_end inside ≡ after_word (codes "->") inside
  unfolding short_end
  short-next h = sym (ap (λ o. o <|> after_word (codes "->") inside) h)

  -- a comment after its start

  module _ (rest : List ℕ) (short : Some rest ≡ short_end inside) where
    pub comment-refused : None ≡ after_comment true inside
    unfolding after_comment
    comment-refused = grind (arith, short)

    pub comment-short : Some rest ≡ after_comment false inside
    unfolding after_comment
    comment-short = ap (λ o. o <|> beyond_word (codes "-->") inside) short

  module _ (long : None ≡ short_end inside) where
    pub comment-long : beyond_word (codes "-->") inside ≡ after_comment false inside
    unfolding after_comment
    comment-long = ap (λ o. o <|> beyond_word (codes "-->") inside) long

    pub comment-open : None ≡ beyond_word (codes "--") inside → None ≡ after_comment true inside
    unfolding after_comment
    comment-open h = grind (arith, long, h)

    pub comment-strict : (rest : List ℕ) → Some rest ≡ beyond_word (codes "--") inside → after_word (codes ">") rest ≡ after_comment true inside
    unfolding after_comment
    comment-strict rest h = grind (arith, long, h)

-- a declaration after its start

pub declaration-none : None ≡ after_declaration []
unfolding after_declaration
declaration-none = refl

pub declaration-other : (b : ℕ) (bs : List ℕ) → is_ascii_alphabetic b ≡ false → None ≡ after_declaration (b ∷ bs)
unfolding after_declaration
declaration-other b bs h = grind (arith, h)

pub declaration-letter : (b : ℕ) (bs : List ℕ) → is_ascii_alphabetic b ≡ true → beyond_word (codes ">") bs ≡ after_declaration (b ∷ bs)
unfolding after_declaration
declaration-letter b bs h = grind (arith, h)

-- after `<!`

first-alone : (o : Option (List ℕ)) → o <|> None ≡ o
first-alone None = refl
first-alone (Some r) = refl

module _ (rules : Rules) where
  mark-dashes : (inside : List ℕ) → html_tag rules (60 ∷ 33 ∷ 45 ∷ 45 ∷ inside) ≡ after_comment rules.older inside <|> None
  unfolding html_tag open_tag closing_tag comment from_to declaration after_declaration after_word tag_name
  mark-dashes inside = refl

  mark-bracket : (inside : List ℕ) → html_tag rules (60 ∷ 33 ∷ (codes "[CDATA[" ++ inside)) ≡ beyond_word (codes "]]>") inside
  unfolding html_tag open_tag closing_tag comment from_to declaration after_declaration after_word tag_name
  mark-bracket inside = refl

  module _ (inside : List ℕ) where
    pub mark-comment : (rest : List ℕ) → Some rest ≡ after_word (codes "--") inside → after_comment rules.older rest ≡ html_tag rules (60 ∷ 33 ∷ inside)
    mark-comment rest h =
        sym (ap (λ t. html_tag rules (60 ∷ 33 ∷ t)) (word-front (codes "--") inside rest (sym h)) ∙ mark-dashes rest ∙ first-alone (after_comment rules.older rest))

    pub mark-section : (rest : List ℕ) → Some rest ≡ after_word (codes "[CDATA[") inside → beyond_word (codes "]]>") rest ≡ html_tag rules (60 ∷ 33 ∷ inside)
    mark-section rest h = sym (ap (λ t. html_tag rules (60 ∷ 33 ∷ t)) (word-front (codes "[CDATA[") inside rest (sym h)) ∙ mark-bracket rest)

    abbrev ended : Option (List ℕ) → Option (List ℕ)
    ended o = elim o as (λ _. Option (List ℕ)) [ Some t ↦ beyond_word (codes "]]>") t | None ↦ None ]

    abbrev commented : Option (List ℕ) → Option (List ℕ)
    commented o = elim o as (λ _. Option (List ℕ)) [ Some t ↦ after_comment rules.older t | None ↦ None ]

    mark-parts : html_tag rules (60 ∷ 33 ∷ inside) ≡ (commented (after_word (codes "--") inside) <|> after_declaration inside <|> ended (after_word (codes "[CDATA[") inside))
    unfolding html_tag open_tag closing_tag comment from_to declaration after_word tag_name
    mark-parts = refl

    pub mark-declaration : None ≡ after_word (codes "--") inside → None ≡ after_word (codes "[CDATA[") inside → after_declaration inside ≡ html_tag rules (60 ∷ 33 ∷ inside)
    mark-declaration h k =
        sym (mark-parts ∙ ap (λ o. commented o <|> after_declaration inside <|> ended (after_word (codes "[CDATA[") inside)) (sym h)
        ∙ ap (λ o. after_declaration inside <|> ended o) (sym k) ∙ first-alone (after_declaration inside))

  -- any raw HTML

  pub html-none : None ≡ html_tag rules []
  unfolding html_tag open_tag closing_tag comment from_to declaration after_word
  html-none = refl

  pub html-other : (b : ℕ) (bs : List ℕ) → (b ≡ 60 → ⊥) → None ≡ html_tag rules (b ∷ bs)
  unfolding html_tag open_tag closing_tag comment from_to declaration after_word
  html-other b bs h = grind (arith, h)

  pub html-end : None ≡ html_tag rules (60 ∷ [])
  unfolding html_tag open_tag closing_tag comment from_to declaration after_word tag_name
  html-end = refl

  pub html-instruction : (beyond : List ℕ) → beyond_word (codes "?>") beyond ≡ html_tag rules (60 ∷ 63 ∷ beyond)
  unfolding html_tag open_tag closing_tag comment from_to declaration after_word tag_name
  html-instruction beyond = sym (first-alone (beyond_word (codes "?>") beyond))

  pub html-closing : (beyond : List ℕ) → after_tag (closing_tag (60 ∷ 47 ∷ beyond)) ≡ html_tag rules (60 ∷ 47 ∷ beyond)
  unfolding html_tag open_tag comment from_to declaration after_word tag_name
  html-closing beyond = sym (first-alone (after_tag (closing_tag (60 ∷ 47 ∷ beyond))))

  html-alone : (c : ℕ) (beyond : List ℕ) → (c ≡ 33 → ⊥) → (c ≡ 63 → ⊥) → (c ≡ 47 → ⊥) → html_tag rules (60 ∷ c ∷ beyond) ≡ after_tag (open_tag (60 ∷ c ∷ beyond)) <|> None
  unfolding html_tag closing_tag comment from_to declaration after_word
  html-alone c beyond h k l = grind (arith, h, k, l)

  pub html-open : (c : ℕ) (beyond : List ℕ) → (c ≡ 33 → ⊥) → (c ≡ 63 → ⊥) → (c ≡ 47 → ⊥) → after_tag (open_tag (60 ∷ c ∷ beyond)) ≡ html_tag rules (60 ∷ c ∷ beyond)
  html-open c beyond h k l = sym (html-alone c beyond h k l ∙ first-alone (after_tag (open_tag (60 ∷ c ∷ beyond))))

-- the whole of it, by what is left

drop-past : (front rest : List ℕ) → drop (length front + 1) (front ++ 62 ∷ rest) ≡ rest
drop-past front rest = sym (drop-drop 1 (length front) (front ++ 62 ∷ rest)) ∙ ap (drop 1) (drop-append_seam front (62 ∷ rest))

get_or-seam : (front rest : List ℕ) → get_or (front ++ 62 ∷ rest) (length front) 0 ≡ 62
get_or-seam [] rest = refl
get_or-seam (b ∷ bs) rest = get_or-seam bs rest

-- where what is left starts
pub record Cut (text : List ℕ) (at : ℕ) (rest : List ℕ) : Type 0 where
  pub beyond : drop (length text - length rest) text ≡ rest
  pub low : at < length text - length rest
  pub high : length rest < length text
  pub bracket : get_or text (length text - length rest - 1) 0 ≡ 62

pub cut-at : (text : List ℕ) (at : ℕ) (rest : List ℕ) → at ≤ length text → IsEnd (62 ∷ rest) (drop at text) → Cut text at rest
cut-at text at rest within ends =
    let n : length (drop at text) ≡ length ends.front + suc (length rest) = ap length ends.is ∙ length-append ends.front (62 ∷ rest) in
    let size : length text ≡ at + length ends.front + suc (length rest) = omega (arith, within, length-drop at text, n) in
    let place : length text - length rest - 1 ≡ at + length ends.front = omega (arith, size) in
    let next : length text - length rest ≡ at + (length ends.front + 1) = omega (arith, size) in
    record {
      beyond = ap (λ k. drop k text) next ∙ sym (drop-drop (length ends.front + 1) at text) ∙ ap (drop (length ends.front + 1)) ends.is ∙ drop-past ends.front rest;
      low = omega (arith, size);
      high = omega (arith, size);
      bracket = ap (λ k. get_or text k 0) place ∙ sym (get_or-drop at text (length ends.front) 0) ∙ ap (λ t. get_or t (length ends.front) 0) ends.is ∙ get_or-seam ends.front rest;
    }

pub html-cut : (rules : Rules) (text : List ℕ) (at : ℕ) (rest : List ℕ) → at ≤ length text → raw_html rules (drop at text) ≡ Some rest → Cut text at rest
html-cut rules text at rest within h = cut-at text at rest within (raw_html-ends rules (drop at text) rest h)

-- the part that a scanner returns
part-before : (text part : List ℕ) (at : ℕ) (rest : List ℕ) → at ≤ length text → part ≡ slice_range text at (length text - length rest) → part ≡ before rest (drop at text)
unfolding before
part-before text part at rest within same =
    let size : length text - length rest - at ≡ length (drop at text) - length rest = omega (arith, within, length-drop at text) in
    same ∙ ap (λ n. take n (drop at text)) size

abbrev part_and : List ℕ → List ℕ → Option Reading
part_and part rest = Some (record { text = part; rest = rest })

same-reading : (a b r s : List ℕ) → a ≡ b → r ≡ s → part_and a r ≡ part_and b s
same-reading a b r s e h = ap (λ t. part_and t r) e ∙ ap (part_and b) h

pub whole-some : (rules : Rules) (text part : List ℕ) (at : ℕ) (rest : List ℕ) → at ≤ length text → Cut text at rest → raw_html rules (drop at text) ≡ Some rest
    → part ≡ slice_range text at (length text - length rest)
    → Some (record { text = part; rest = drop (length text - length rest) text }) ≡ whole_of (drop at text) (raw_html rules (drop at text))
whole-some rules text part at rest within cut h same =
    same-reading part (before rest (drop at text)) (drop (length text - length rest) text) rest (part-before text part at rest within same) cut.beyond
    ∙ sym (ap (whole_of (drop at text)) h)

-- it is the boundary of a character
pub cut-boundary : (text : List ℕ) (at : ℕ) (rest : List ℕ) → IsUtf8 text → Cut text at rest → IsCharBoundary text (length text - length rest)
cut-boundary text at rest utf8 cut =
    let last : length text - length rest - 1 + 1 ≡ length text - length rest = omega (arith, cut.low) in
    subst (IsCharBoundary text) last (IsCharBoundary-after_ascii text (length text - length rest - 1) utf8 (omega (arith, cut.high, cut.low)) (omega (arith, cut.bracket)))
