-- What starts an HTML block, after its `<`.
use Rattle.std.proofs.Common.{◌≡◌, ℕ, Bool, true, false, ◌&&◌, List, [], ◌∷◌, Option, Some, None, codes, refl, sym, ap, arith, ◌∙◌, nat_eq}
use Rattle.std.specs.Prelude.{not}
use Rattle.std.specs.List.{starts_with}
use Rattle.std.specs.Char.{is_ascii_alphabetic}
use Rattle.std.specs.Str.{str_to_ascii_lowercase}
use Rattle.cm_text.specs.Rules.{Rules}
use Rattle.cm_scan.specs.Words.{is_at_word, is_blank_text, is_among, after_word, given, ◌<|>◌}
use Rattle.cm_scan.specs.spans.Tags.{Named, tag_name, open_tag, closing_tag}
use Rattle.cm_scan.specs.blocks.HtmlBlocks.{HtmlKind, RawText, Comment, Instruction, Declaration, CharacterData, BlockTag, AnyTag, raw_text_names, block_names, is_at_tag_end, is_raw_text_start, is_declaration_start, is_block_tag_start, is_any_tag_start, html_start}
use Rattle.cm_scan.proofs.lemmas.blocks.WordsInAnyCase.{starts_at}

-- condition 4

pub declaration_alone : is_declaration_start (60 ∷ []) ≡ false
unfolding is_declaration_start after_word
declaration_alone = refl

pub declaration_other : (b : ℕ) (bs : List ℕ) → (b ≡ 33 → ⊥) → is_declaration_start (60 ∷ b ∷ bs) ≡ false
unfolding is_declaration_start after_word
declaration_other b bs other = grind (arith, other)

pub declaration_ends : is_declaration_start (60 ∷ 33 ∷ []) ≡ false
unfolding is_declaration_start after_word
declaration_ends = refl

pub declaration_letter : (b : ℕ) (bs : List ℕ) → is_declaration_start (60 ∷ 33 ∷ b ∷ bs) ≡ is_ascii_alphabetic b
unfolding is_declaration_start after_word
declaration_letter b bs = refl

pub ruleset declarations = (declaration_alone, declaration_other, declaration_ends, declaration_letter)

-- condition 6

module _ (rules : Rules) (beyond inside : List ℕ) (name : Some inside ≡ (after_word (codes "</") (60 ∷ beyond) <|> after_word (codes "<") (60 ∷ beyond))) where
  pub block_none : tag_name inside ≡ None → is_block_tag_start rules (60 ∷ beyond) ≡ false
  unfolding is_block_tag_start
  block_none none = grind (arith, sym name, none)

  pub block_named : (tag : Named) → tag_name inside ≡ Some tag
      → is_block_tag_start rules (60 ∷ beyond) ≡ (is_among (block_names rules) (str_to_ascii_lowercase tag.name) && is_at_tag_end tag.rest)
  unfolding is_block_tag_start
  block_named tag found = grind (arith, sym name, found)

-- condition 7

open-slash : (inside : List ℕ) → open_tag (60 ∷ 47 ∷ inside) ≡ None
unfolding open_tag tag_name after_word
open-slash inside = refl

closing-other : (b : ℕ) (bs : List ℕ) → (b ≡ 47 → ⊥) → closing_tag (60 ∷ b ∷ bs) ≡ None
unfolding closing_tag after_word
closing-other b bs other = grind (arith, other)

pub any_nothing : is_any_tag_start (60 ∷ []) ≡ false
unfolding is_any_tag_start closing_tag open_tag tag_name after_word
any_nothing = refl

module _ (inside : List ℕ) where
  pub any_closing_none : closing_tag (60 ∷ 47 ∷ inside) ≡ None → is_any_tag_start (60 ∷ 47 ∷ inside) ≡ false
  unfolding is_any_tag_start
  any_closing_none none = grind (arith, none, open-slash inside)

  pub any_closing : (tag : Named) → closing_tag (60 ∷ 47 ∷ inside) ≡ Some tag → is_any_tag_start (60 ∷ 47 ∷ inside) ≡ is_blank_text tag.rest
  unfolding is_any_tag_start
  any_closing tag found = grind (arith, found)

module _ (b : ℕ) (bs : List ℕ) (other : b ≡ 47 → ⊥) where
  pub any_open_none : open_tag (60 ∷ b ∷ bs) ≡ None → is_any_tag_start (60 ∷ b ∷ bs) ≡ false
  unfolding is_any_tag_start
  any_open_none none = grind (arith, none, closing-other b bs other)

  pub any_open : (tag : Named) → open_tag (60 ∷ b ∷ bs) ≡ Some tag
      → is_any_tag_start (60 ∷ b ∷ bs) ≡ (is_blank_text tag.rest && not (is_among raw_text_names (str_to_ascii_lowercase tag.name)))
  unfolding is_any_tag_start
  any_open tag found = grind (arith, found, closing-other b bs other)

-- all seven

pub starts : (rules : Rules) → rules.raw_html ≡ true → (beyond : List ℕ) → html_start rules (60 ∷ beyond)
    ≡ (given (is_raw_text_start (60 ∷ beyond)) RawText
    <|> given (is_at_word (codes "!--") beyond) Comment
    <|> given (is_at_word (codes "?") beyond) Instruction
    <|> given (is_declaration_start (60 ∷ beyond)) Declaration
    <|> given (is_at_word (codes "![CDATA[") beyond) CharacterData
    <|> given (is_block_tag_start rules (60 ∷ beyond)) BlockTag
    <|> given (is_any_tag_start (60 ∷ beyond)) AnyTag)
unfolding html_start is_at_word
starts rules on beyond = ap by on
  where
    by : Bool → Option HtmlKind
    by t = elim t as (λ _. Option HtmlKind) [
      | true ↦ given (is_raw_text_start (60 ∷ beyond)) RawText
          <|> given (is_at_word (codes "<!--") (60 ∷ beyond)) Comment
          <|> given (is_at_word (codes "<?") (60 ∷ beyond)) Instruction
          <|> given (is_declaration_start (60 ∷ beyond)) Declaration
          <|> given (is_at_word (codes "<![CDATA[") (60 ∷ beyond)) CharacterData
          <|> given (is_block_tag_start rules (60 ∷ beyond)) BlockTag
          <|> given (is_any_tag_start (60 ∷ beyond)) AnyTag
      | false ↦ None
    ]

pub no_start : (rules : Rules) (b : ℕ) (bs : List ℕ) → (b ≡ 60 → ⊥) → html_start rules (b ∷ bs) ≡ None
unfolding html_start
no_start rules b bs other = grind (arith, other)

pub no_start_without : (rules : Rules) → rules.raw_html ≡ false → (text : List ℕ) → html_start rules text ≡ None
unfolding html_start
no_start_without rules off [] = refl
no_start_without rules off (b ∷ bs) = grind (arith, off)

pub no_start_at_end : (rules : Rules) → html_start rules [] ≡ None
unfolding html_start
no_start_at_end rules = refl

-- the same as the code asks it
pub code_starts : (rules : Rules) → rules.raw_html ≡ true → (beyond : List ℕ) → html_start rules (60 ∷ beyond)
    ≡ (given (is_raw_text_start (60 ∷ beyond)) RawText
    <|> given (starts_with nat_eq beyond (codes "!--")) Comment
    <|> given (starts_with nat_eq beyond (codes "?")) Instruction
    <|> given (is_declaration_start (60 ∷ beyond)) Declaration
    <|> given (starts_with nat_eq beyond (codes "![CDATA[")) CharacterData
    <|> given (is_block_tag_start rules (60 ∷ beyond)) BlockTag
    <|> given (is_any_tag_start (60 ∷ beyond)) AnyTag)
code_starts rules on beyond =
    starts rules on beyond ∙ rw (starts_at (codes "!--") beyond, starts_at (codes "?") beyond, starts_at (codes "![CDATA[") beyond) refl

-- what each line comes to
pub ruleset html_starts = (code_starts, no_start, no_start_without, no_start_at_end)
