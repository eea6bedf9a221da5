-- Raw HTML with more text after.
use Rattle.std.specs.Char.{is_ascii_alphabetic}
use Rattle.std.proofs.Common.{◌≡◌, ℕ, ◌≤◌, Bool, true, false, ◌==◌, List, [], ◌∷◌, ◌++◌, length, Option, Some, None, codes, refl, sym, ap, ◌∙◌, arith}
use Rattle.std.proofs.lemmas.Bool.{eqb-true}
use Rattle.cm_text.specs.Rules.{Rules}
use Rattle.cm_scan.specs.Words.{after_word, ◌<|>◌, ◌and_then◌}
use Rattle.cm_scan.specs.spans.Tags.{Named, tag_name, with_rest, after_gap, open_tag, closing_tag}
use Rattle.cm_scan.specs.spans.RawHtml.{beyond_word, from_to, short_end, after_comment, comment, instruction, after_declaration, declaration, character_data, html_tag, raw_html}
use Rattle.cm_scan.specs.laws.SpanLaws.{RawHtmlGoesOn, WholeRawHtmlGoesOn}
use Rattle.cm_scan.specs.steps.SpanSteps.{after_tag}
use Rattle.cm_scan.proofs.lemmas.texts.WordsGoOn.{false-true, none-some, some-same, word-extends, word-other, word-length, past-length, past-extends, from_to-extends}
use Rattle.cm_scan.proofs.lemmas.spans.TagsGoOn.{longer, open_tag-extends, closing_tag-extends}

-- comments

short-extends : (text x rest : List ℕ) → short_end text ≡ Some rest → short_end (text ++ x) ≡ Some (rest ++ x)
unfolding short_end
short-extends text x rest e = go (after_word (codes ">") text) refl e
  where
    go : (o : Option (List ℕ)) → after_word (codes ">") text ≡ o → o <|> after_word (codes "->") text ≡ Some rest → after_word (codes ">") (text ++ x) <|> after_word (codes "->") (text ++ x) ≡ Some (rest ++ x)
    go (Some r) f e = ap (λ o. o <|> after_word (codes "->") (text ++ x)) (word-extends (codes ">") text x r f) ∙ ap (λ t. Some (t ++ x)) (some-same e)
    go None f e =
        ap (λ o. o <|> after_word (codes "->") (text ++ x)) (word-other (codes ">") text x f (let l : 2 ≤ length text = word-length (codes "->") text rest e in omega (arith, l)))
        ∙ word-extends (codes "->") text x rest e

short-other : (text x : List ℕ) → short_end text ≡ None → 2 ≤ length text → short_end (text ++ x) ≡ None
unfolding short_end
short-other text x e l = go (after_word (codes ">") text) refl e
  where
    go : (o : Option (List ℕ)) → after_word (codes ">") text ≡ o → o <|> after_word (codes "->") text ≡ None → after_word (codes ">") (text ++ x) <|> after_word (codes "->") (text ++ x) ≡ None
    go (Some r) f e = none-some (sym e)
    go None f e =
        ap (λ o. o <|> after_word (codes "->") (text ++ x)) (word-other (codes ">") text x f (let goal : 1 ≤ length text = omega (arith, l) in goal))
        ∙ word-other (codes "->") text x e l

after_comment-extends : (older : Bool) (text x rest : List ℕ) → after_comment older text ≡ Some rest → after_comment older (text ++ x) ≡ Some (rest ++ x)
unfolding after_comment
after_comment-extends false text x rest e = go (short_end text) refl e
  where
    go : (o : Option (List ℕ)) → short_end text ≡ o → o <|> beyond_word (codes "-->") text ≡ Some rest → short_end (text ++ x) <|> beyond_word (codes "-->") (text ++ x) ≡ Some (rest ++ x)
    go (Some r) f e = ap (λ o. o <|> beyond_word (codes "-->") (text ++ x)) (short-extends text x r f) ∙ ap (λ t. Some (t ++ x)) (some-same e)
    go None f e =
        ap (λ o. o <|> beyond_word (codes "-->") (text ++ x)) (short-other text x f (let l : 3 ≤ length text = past-length (codes "-->") text rest e in omega (arith, l)))
        ∙ past-extends (codes "-->") text x rest e
after_comment-extends true text x rest e = go (short_end text) refl e
  where
    ended : Option (List ℕ) → Option (List ℕ)
    ended o = elim o as (λ _. Option (List ℕ)) [ Some r ↦ after_word (codes ">") r | None ↦ None ]

    by : List ℕ → Option (List ℕ) → Option (List ℕ)
    by t o = elim o as (λ _. Option (List ℕ)) [ Some r ↦ None | None ↦ ended (beyond_word (codes "--") t) ]

    go : (o : Option (List ℕ)) → short_end text ≡ o → by text o ≡ Some rest → by (text ++ x) (short_end (text ++ x)) ≡ Some (rest ++ x)
    go (Some r) f e = none-some e
    go None f e = first (beyond_word (codes "--") text) refl e
      where
        first : (o : Option (List ℕ)) → beyond_word (codes "--") text ≡ o → ended o ≡ Some rest → by (text ++ x) (short_end (text ++ x)) ≡ Some (rest ++ x)
        first None g e = none-some e
        first (Some r) g e =
            ap (by (text ++ x)) (short-other text x f (past-length (codes "--") text r g))
            ∙ ap ended (past-extends (codes "--") text x r g)
            ∙ word-extends (codes ">") r x rest e

pub comment-extends : (older : Bool) (text x rest : List ℕ) → comment older text ≡ Some rest → comment older (text ++ x) ≡ Some (rest ++ x)
unfolding comment
comment-extends older text x rest e = go (after_word (codes "<!--") text) refl e
  where
    by : Option (List ℕ) → Option (List ℕ)
    by o = elim o as (λ _. Option (List ℕ)) [ Some inside ↦ after_comment older inside | None ↦ None ]

    go : (o : Option (List ℕ)) → after_word (codes "<!--") text ≡ o → by o ≡ Some rest → by (after_word (codes "<!--") (text ++ x)) ≡ Some (rest ++ x)
    go None f e = none-some e
    go (Some inside) f e = ap by (word-extends (codes "<!--") text x inside f) ∙ after_comment-extends older inside x rest e

-- declarations

after_declaration-extends : (text x rest : List ℕ) → after_declaration text ≡ Some rest → after_declaration (text ++ x) ≡ Some (rest ++ x)
unfolding after_declaration
after_declaration-extends [] x rest e = none-some e
after_declaration-extends (b ∷ bs) x rest e = go (is_ascii_alphabetic b) e
  where
    by : List ℕ → Bool → Option (List ℕ)
    by t c = elim c as (λ _. Option (List ℕ)) [ true ↦ beyond_word (codes ">") t | false ↦ None ]

    go : (c : Bool) → by bs c ≡ Some rest → by (bs ++ x) c ≡ Some (rest ++ x)
    go true e = past-extends (codes ">") bs x rest e
    go false e = none-some e

pub declaration-extends : (text x rest : List ℕ) → declaration text ≡ Some rest → declaration (text ++ x) ≡ Some (rest ++ x)
unfolding declaration
declaration-extends text x rest e = go (after_word (codes "<!") text) refl e
  where
    by : Option (List ℕ) → Option (List ℕ)
    by o = elim o as (λ _. Option (List ℕ)) [ Some inside ↦ after_declaration inside | None ↦ None ]

    go : (o : Option (List ℕ)) → after_word (codes "<!") text ≡ o → by o ≡ Some rest → by (after_word (codes "<!") (text ++ x)) ≡ Some (rest ++ x)
    go None f e = none-some e
    go (Some inside) f e = ap by (word-extends (codes "<!") text x inside f) ∙ after_declaration-extends inside x rest e

-- what a text starts with says which form it can be

pub word-front : (word text rest : List ℕ) → after_word word text ≡ Some rest → text ≡ word ++ rest
unfolding after_word
word-front [] text rest e = some-same e
word-front (w ∷ ws) [] rest e = none-some e
word-front (w ∷ ws) (b ∷ bs) rest e = go (b == w) refl e (λ h. word-front ws bs rest h)
  where
    go : (c : Bool) → (b == w) ≡ c → elim c as (λ _. Option (List ℕ)) [ true ↦ after_word ws bs | false ↦ None ] ≡ Some rest → (after_word ws bs ≡ Some rest → bs ≡ ws ++ rest) → b ∷ bs ≡ w ∷ (ws ++ rest)
    go true f e k = ap (λ c. c ∷ bs) (eqb-true b w f) ∙ ap (λ t. w ∷ t) (k e)
    go false f e k = none-some e

module _ (rules : Rules) (inside rest : List ℕ) where
  closing-alone : after_tag (closing_tag (60 ∷ 47 ∷ inside)) ≡ Some rest → html_tag rules (60 ∷ 47 ∷ inside) ≡ Some rest
  unfolding html_tag open_tag after_word tag_name
  closing-alone e = ap (λ o. o <|> comment rules.older (60 ∷ 47 ∷ inside) <|> instruction (60 ∷ 47 ∷ inside) <|> declaration (60 ∷ 47 ∷ inside) <|> character_data (60 ∷ 47 ∷ inside)) e

  comment-alone : comment rules.older (60 ∷ 33 ∷ 45 ∷ 45 ∷ inside) ≡ Some rest → html_tag rules (60 ∷ 33 ∷ 45 ∷ 45 ∷ inside) ≡ Some rest
  unfolding html_tag open_tag closing_tag after_word tag_name
  comment-alone e = ap (λ o. o <|> instruction (60 ∷ 33 ∷ 45 ∷ 45 ∷ inside) <|> declaration (60 ∷ 33 ∷ 45 ∷ 45 ∷ inside) <|> character_data (60 ∷ 33 ∷ 45 ∷ 45 ∷ inside)) e

  instruction-alone : instruction (60 ∷ 63 ∷ inside) ≡ Some rest → html_tag rules (60 ∷ 63 ∷ inside) ≡ Some rest
  unfolding html_tag open_tag closing_tag comment after_word tag_name
  instruction-alone e = ap (λ o. o <|> declaration (60 ∷ 63 ∷ inside) <|> character_data (60 ∷ 63 ∷ inside)) e

  character_data-alone : character_data (60 ∷ 33 ∷ 91 ∷ inside) ≡ Some rest → html_tag rules (60 ∷ 33 ∷ 91 ∷ inside) ≡ Some rest
  unfolding html_tag open_tag closing_tag comment from_to declaration after_declaration after_word tag_name
  character_data-alone e = e

declaration-alone : (rules : Rules) (inside rest : List ℕ) → declaration (60 ∷ 33 ∷ inside) ≡ Some rest → html_tag rules (60 ∷ 33 ∷ inside) ≡ Some rest
unfolding html_tag open_tag closing_tag comment from_to declaration after_declaration after_word tag_name
declaration-alone rules [] rest e = none-some e
declaration-alone rules (b ∷ bs) rest e = go (b == 45) refl
  where
    letter : is_ascii_alphabetic b ≡ true
    letter = cases (is_ascii_alphabetic b) e
      where
        cases : (c : Bool) → elim c as (λ _. Option (List ℕ)) [ true ↦ beyond_word (codes ">") bs | false ↦ None ] ≡ Some rest → c ≡ true
        cases true h = refl
        cases false h = none-some h

    by : Bool → Option (List ℕ)
    by c = elim (elim c as (λ _. Option (List ℕ)) [ true ↦ after_word (codes "-") bs | false ↦ None ]) as (λ _. Option (List ℕ)) [ Some inside ↦ after_comment rules.older inside | None ↦ None ]
        <|> declaration (60 ∷ 33 ∷ b ∷ bs) <|> character_data (60 ∷ 33 ∷ b ∷ bs)

    go : (c : Bool) → (b == 45) ≡ c → by c ≡ Some rest
    go true f = false-true (sym (ap is_ascii_alphabetic (eqb-true b 45 f)) ∙ letter)
    go false f = ap (λ o. o <|> character_data (60 ∷ 33 ∷ b ∷ bs)) e

-- a text that has a reading starts with the reading's first word
begun : (word : List ℕ) (reading : List ℕ → Option (List ℕ)) (text rest : List ℕ)
    → elim (after_word word text) as (λ _. Option (List ℕ)) [ Some inside ↦ reading inside | None ↦ None ] ≡ Some rest → (inside : List ℕ) × (text ≡ word ++ inside)
begun word reading text rest e = go (after_word word text) refl e
  where
    go : (o : Option (List ℕ)) → after_word word text ≡ o → elim o as (λ _. Option (List ℕ)) [ Some inside ↦ reading inside | None ↦ None ] ≡ Some rest → (inside : List ℕ) × (text ≡ word ++ inside)
    go (Some inside) f e = (inside, word-front word text inside f)
    go None f e = none-some e

-- the law

module _ (rules : Rules) (text x : List ℕ) where
  pub closing-goes-on : (tag : Named) → closing_tag text ≡ Some tag → html_tag rules (text ++ x) ≡ Some (tag.rest ++ x)
  unfolding closing_tag
  closing-goes-on tag e = go (after_word (codes "</") text) refl e
    where
      go : (o : Option (List ℕ)) → after_word (codes "</") text ≡ o → (o and_then λ inside. tag_name inside and_then λ t. with_rest t.name (after_word (codes ">") (after_gap t.rest))) ≡ Some tag
          → html_tag rules (text ++ x) ≡ Some (tag.rest ++ x)
      go None f h = none-some h
      go (Some inside) f h =
          let front : text ≡ 60 ∷ 47 ∷ inside = word-front (codes "</") text inside f in
          let read : closing_tag (60 ∷ 47 ∷ (inside ++ x)) ≡ Some (longer tag x) = ap (λ t. closing_tag (t ++ x)) (sym front) ∙ closing_tag-extends text x tag e in
          ap (λ t. html_tag rules (t ++ x)) front ∙ closing-alone rules (inside ++ x) (tag.rest ++ x) (ap after_tag read)

  module _ (rest : List ℕ) where
    pub comment-goes-on : comment rules.older text ≡ Some rest → html_tag rules (text ++ x) ≡ Some (rest ++ x)
    unfolding comment
    comment-goes-on e =
        let front = begun (codes "<!--") (after_comment rules.older) text rest e in
        ap (λ t. html_tag rules (t ++ x)) front.1
        ∙ comment-alone rules (front.0 ++ x) (rest ++ x) (ap (λ t. comment rules.older (t ++ x)) (sym front.1) ∙ comment-extends rules.older text x rest e)

    pub instruction-goes-on : instruction text ≡ Some rest → html_tag rules (text ++ x) ≡ Some (rest ++ x)
    unfolding from_to
    instruction-goes-on e =
        let front = begun (codes "<?") (beyond_word (codes "?>")) text rest e in
        ap (λ t. html_tag rules (t ++ x)) front.1
        ∙ instruction-alone rules (front.0 ++ x) (rest ++ x) (ap (λ t. instruction (t ++ x)) (sym front.1) ∙ from_to-extends (codes "<?") (codes "?>") text x rest e)

    pub declaration-goes-on : declaration text ≡ Some rest → html_tag rules (text ++ x) ≡ Some (rest ++ x)
    unfolding declaration
    declaration-goes-on e =
        let front = begun (codes "<!") after_declaration text rest e in
        ap (λ t. html_tag rules (t ++ x)) front.1
        ∙ declaration-alone rules (front.0 ++ x) (rest ++ x) (ap (λ t. declaration (t ++ x)) (sym front.1) ∙ declaration-extends text x rest e)

    pub character_data-goes-on : character_data text ≡ Some rest → html_tag rules (text ++ x) ≡ Some (rest ++ x)
    unfolding from_to
    character_data-goes-on e =
        let front = begun (codes "<![CDATA[") (beyond_word (codes "]]>")) text rest e in
        ap (λ t. html_tag rules (t ++ x)) front.1
        ∙ character_data-alone rules (codes "CDATA[" ++ (front.0 ++ x)) (rest ++ x) (ap (λ t. character_data (t ++ x)) (sym front.1) ∙ from_to-extends (codes "<![CDATA[") (codes "]]>") text x rest e)

pub tag_goes_on : (rules : Rules) (text rest x : List ℕ) → html_tag rules text ≡ Some rest → html_tag rules (text ++ x) ≡ Some (rest ++ x)
unfolding html_tag
tag_goes_on rules text rest x e = opening (open_tag text) refl e
  where
    fourth : (o : Option (List ℕ)) → instruction text ≡ o → o <|> declaration text <|> character_data text ≡ Some rest → html_tag rules (text ++ x) ≡ Some (rest ++ x)
    fourth (Some r) f h = instruction-goes-on rules text x r f ∙ ap (λ t. Some (t ++ x)) (some-same h)
    fourth None f h = fifth (declaration text) refl h
      where
        fifth : (o : Option (List ℕ)) → declaration text ≡ o → o <|> character_data text ≡ Some rest → html_tag rules (text ++ x) ≡ Some (rest ++ x)
        fifth (Some r) g h = declaration-goes-on rules text x r g ∙ ap (λ t. Some (t ++ x)) (some-same h)
        fifth None g h = character_data-goes-on rules text x rest h

    third : (o : Option (List ℕ)) → comment rules.older text ≡ o → o <|> instruction text <|> declaration text <|> character_data text ≡ Some rest → html_tag rules (text ++ x) ≡ Some (rest ++ x)
    third (Some r) f h = comment-goes-on rules text x r f ∙ ap (λ t. Some (t ++ x)) (some-same h)
    third None f h = fourth (instruction text) refl h

    closing : (o : Option Named) → closing_tag text ≡ o → after_tag o <|> comment rules.older text <|> instruction text <|> declaration text <|> character_data text ≡ Some rest
        → html_tag rules (text ++ x) ≡ Some (rest ++ x)
    closing (Some tag) f h = closing-goes-on rules text x tag f ∙ ap (λ t. Some (t ++ x)) (some-same h)
    closing None f h = third (comment rules.older text) refl h

    others : List ℕ → Option Named → Option (List ℕ)
    others t o = after_tag o <|> after_tag (closing_tag t) <|> comment rules.older t <|> instruction t <|> declaration t <|> character_data t

    opening : (o : Option Named) → open_tag text ≡ o → others text o ≡ Some rest → html_tag rules (text ++ x) ≡ Some (rest ++ x)
    opening (Some tag) f h = ap (others (text ++ x)) (open_tag-extends text x tag f) ∙ ap (λ t. Some (t ++ x)) (some-same h)
    opening None f h = closing (closing_tag text) refl h

-- where the rules have raw HTML

module _ (rules : Rules) (text : List ℕ) where
  pub raw-on : rules.raw_html ≡ true → raw_html rules text ≡ html_tag rules text
  unfolding raw_html
  raw-on on = ap (λ (t : Bool). elim t as (λ _. Option (List ℕ)) [ true ↦ html_tag rules text | false ↦ None ]) on

  pub raw-off : rules.raw_html ≡ false → raw_html rules text ≡ None
  unfolding raw_html
  raw-off off = ap (λ (t : Bool). elim t as (λ _. Option (List ℕ)) [ true ↦ html_tag rules text | false ↦ None ]) off

  pub no-tag : html_tag rules text ≡ None → raw_html rules text ≡ None
  no-tag e = go rules.raw_html refl
    where
      go : (t : Bool) → rules.raw_html ≡ t → raw_html rules text ≡ None
      go true on = raw-on on ∙ e
      go false off = raw-off off

  pub raw-tag : (rest : List ℕ) → raw_html rules text ≡ Some rest → (rules.raw_html ≡ true) × (html_tag rules text ≡ Some rest)
  raw-tag rest e = go rules.raw_html refl
    where
      go : (t : Bool) → rules.raw_html ≡ t → (rules.raw_html ≡ true) × (html_tag rules text ≡ Some rest)
      go true on = (on, sym (raw-on on) ∙ e)
      go false off = none-some (sym (raw-off off) ∙ e)

pub raw_html_goes_on : RawHtmlGoesOn
raw_html_goes_on rules text rest x e =
    let tag = raw-tag rules text rest e in
    raw-on rules (text ++ x) tag.0 ∙ tag_goes_on rules text rest x tag.1

pub whole_raw_html_goes_on : WholeRawHtmlGoesOn
whole_raw_html_goes_on rules text x e = raw_html_goes_on rules text [] x e
