-- Raw HTML with the older rules is raw HTML.
use Rattle.std.proofs.Common.{◌≡◌, ℕ, Bool, true, false, ◌==◌, List, [], ◌∷◌, ◌++◌, Option, Some, None, codes, refl, sym, ap, ◌∙◌, append-nil}
use Rattle.cm_text.specs.Rules.{profile, older_rules}
use Rattle.cm_scan.specs.Words.{after_word, ◌<|>◌}
use Rattle.cm_scan.specs.spans.Tags.{Named, open_tag, closing_tag}
use Rattle.cm_scan.specs.spans.RawHtml.{beyond_word, short_end, after_comment, comment, instruction, declaration, character_data, html_tag, raw_html}
use Rattle.cm_scan.specs.laws.SpanLaws.{OlderIsRead}
use Rattle.cm_scan.specs.steps.SpanSteps.{after_tag}
use Rattle.cm_scan.proofs.lemmas.texts.WordsGoOn.{none-some, some-same}
use Rattle.cm_scan.proofs.lemmas.spans.RawHtmlGoesOn.{word-front, closing-goes-on, comment-goes-on, instruction-goes-on, declaration-goes-on, character_data-goes-on}

-- an end of a comment starts with two hyphens
no-hyphens : (text : List ℕ) → after_word (codes "--") text ≡ None → after_word (codes "-->") text ≡ None
unfolding after_word
no-hyphens [] e = refl
no-hyphens (b ∷ []) e = go (b == 45)
  where
    go : (c : Bool) → elim c as (λ _. Option (List ℕ)) [ true ↦ None | false ↦ None ] ≡ None
    go true = refl
    go false = refl
no-hyphens (b ∷ c ∷ bs) e = go (b == 45) (c == 45) e
  where
    by : Option (List ℕ) → Bool → Bool → Option (List ℕ)
    by o d f = elim d as (λ _. Option (List ℕ)) [ true ↦ elim f as (λ _. Option (List ℕ)) [ true ↦ o | false ↦ None ] | false ↦ None ]

    go : (d f : Bool) → by (Some bs) d f ≡ None → by (after_word (codes ">") bs) d f ≡ None
    go true true e = none-some (sym e)
    go true false e = refl
    go false f e = refl

hyphens-read : (rest : List ℕ) → beyond_word (codes "-->") (45 ∷ 45 ∷ 62 ∷ rest) ≡ Some rest
unfolding beyond_word after_word
hyphens-read rest = refl

past-both : (text between rest : List ℕ) → beyond_word (codes "--") text ≡ Some between → after_word (codes ">") between ≡ Some rest → beyond_word (codes "-->") text ≡ Some rest
unfolding beyond_word
past-both [] between rest e h = none-some e
past-both (b ∷ bs) between rest e h = go (after_word (codes "--") (b ∷ bs)) refl e (λ g. past-both bs between rest g h)
  where
    by : Option (List ℕ) → Option (List ℕ)
    by o = elim o as (λ _. Option (List ℕ)) [ Some r ↦ Some r | None ↦ beyond_word (codes "-->") bs ]

    go : (o : Option (List ℕ)) → after_word (codes "--") (b ∷ bs) ≡ o → elim o as (λ _. Option (List ℕ)) [ Some r ↦ Some r | None ↦ beyond_word (codes "--") bs ] ≡ Some between
        → (beyond_word (codes "--") bs ≡ Some between → beyond_word (codes "-->") bs ≡ Some rest) → by (after_word (codes "-->") (b ∷ bs)) ≡ Some rest
    go (Some r) f e k =
        ap (beyond_word (codes "-->")) (word-front (codes "--") (b ∷ bs) r f ∙ ap (λ t. 45 ∷ 45 ∷ t) (some-same e ∙ word-front (codes ">") between rest h))
        ∙ hyphens-read rest
    go None f e k = ap by (no-hyphens (b ∷ bs) f) ∙ k e

pub older-inside : (text rest : List ℕ) → after_comment true text ≡ Some rest → after_comment false text ≡ Some rest
unfolding after_comment
older-inside text rest e = go (short_end text) (beyond_word (codes "--") text) refl e
  where
    go : (short first : Option (List ℕ)) → beyond_word (codes "--") text ≡ first → elim short as (λ _. Option (List ℕ)) [
      | Some r ↦ None
      | None ↦ elim first as (λ _. Option (List ℕ)) [ Some r ↦ after_word (codes ">") r | None ↦ None ]
    ] ≡ Some rest → short <|> beyond_word (codes "-->") text ≡ Some rest
    go (Some r) first f e = none-some e
    go None None f e = none-some e
    go None (Some r) f e = past-both text r rest f e

older-comment : (text rest : List ℕ) → comment true text ≡ Some rest → comment false text ≡ Some rest
unfolding comment
older-comment text rest e = go (after_word (codes "<!--") text) e
  where
    by : Bool → Option (List ℕ) → Option (List ℕ)
    by older o = elim o as (λ _. Option (List ℕ)) [ Some inside ↦ after_comment older inside | None ↦ None ]

    go : (o : Option (List ℕ)) → by true o ≡ Some rest → by false o ≡ Some rest
    go None e = none-some e
    go (Some inside) e = older-inside inside rest e

-- nothing after the text
nothing-beyond : (text rest : List ℕ) → html_tag profile (text ++ []) ≡ Some (rest ++ []) → html_tag profile text ≡ Some rest
nothing-beyond text rest e = ap (html_tag profile) (sym (append-nil text)) ∙ e ∙ ap Some (append-nil rest)

older-tag : (text rest : List ℕ) → html_tag older_rules text ≡ Some rest → html_tag profile text ≡ Some rest
unfolding html_tag
older-tag text rest e = go (open_tag text) (closing_tag text) (comment true text) (instruction text) (declaration text) refl refl refl refl refl e
  where
    go : (a b : Option Named) (c d f : Option (List ℕ)) → open_tag text ≡ a → closing_tag text ≡ b → comment true text ≡ c → instruction text ≡ d → declaration text ≡ f
        → after_tag a <|> after_tag b <|> c <|> d <|> f <|> character_data text ≡ Some rest → html_tag profile text ≡ Some rest
    go (Some tag) b c d f p q r s t e =
        ap (λ (o : Option Named). after_tag o <|> after_tag (closing_tag text) <|> comment false text <|> instruction text <|> declaration text <|> character_data text) p ∙ e
    go None (Some tag) c d f p q r s t e = nothing-beyond text tag.rest (closing-goes-on profile text [] tag q) ∙ e
    go None None (Some left) d f p q r s t e = nothing-beyond text left (comment-goes-on profile text [] left (older-comment text left r)) ∙ e
    go None None None (Some left) f p q r s t e = nothing-beyond text left (instruction-goes-on profile text [] left s) ∙ e
    go None None None None (Some left) p q r s t e = nothing-beyond text left (declaration-goes-on profile text [] left t) ∙ e
    go None None None None None p q r s t e = nothing-beyond text rest (character_data-goes-on profile text [] rest e)

pub older_is_read : OlderIsRead
unfolding raw_html
older_is_read text rest e = older-tag text rest e
