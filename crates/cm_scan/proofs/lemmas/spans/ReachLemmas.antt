-- How far tags look.
use Rattle.std.proofs.Common.{◌≡◌, ℕ, zero, suc, ◌+◌, ◌*◌, ◌<◌, ◌≤◌, ◌==◌, ◌||◌, ◌⊎◌, Bool, true, false, List, [], ◌∷◌, Option, Some, None, IfSome, ◌-◌, ◌++◌, length, drop, get_or, codes, refl, sym, ap, ◌∙◌, arith, add-one, length-append}
use Rattle.std.specs.Prelude.{if◌then◌else◌}
use Rattle.std.specs.Char.{is_ascii_alphabetic}
use Rattle.cm_scan.specs.Words.{skip, is_space_or_tab, after_word, is_at_word}
use Rattle.cm_scan.specs.spans.Tags.{begins_attribute, continues_attribute, is_unquoted, is_blank_next, after_line_ending, after_gap}
use Rattle.cm_scan.specs.steps.TagNames.{continues_name}
use Rattle.cm_text.specs.Rules.{Rules}
use Rattle.cm_scan.specs.spans.RawHtml.{beyond_word, html_tag}
use Rattle.cm_scan.specs.spans.Reach.{tag_reach, tag_reaches, dash_reach, declared, needed_after_mark, mark_reach, needed, html_reach}
use Rattle.cm_scan.proofs.lemmas.spans.RawHtmlEnds.{tag-ends}

-- One in each kind of quotation marks, one outside, and those to come: at most three at once.
pub three_tags : (bs : List ℕ) → tag_reach 0 bs + tag_reach 34 bs + tag_reach 39 bs + tag_reaches bs ≤ 3 * length bs + 3
unfolding tag_reach tag_reaches
three_tags [] = omega arith
three_tags (b ∷ bs) = grind (arith, three_tags bs)

pub map_some : {A : Type 0} (o : Option A) (P Q : A → Type 0) → IfSome o P → ((x : A) → P x → Q x) → IfSome o Q
map_some None P Q h f = tt
map_some (Some x) P Q h f = f x h

-- a quotation mark, `<` or `>`
abbrev pub is_special : ℕ → Bool
is_special b = b == 34 || b == 39 || b == 60 || b == 62

pub reach_some : (quote : ℕ) (bs : List ℕ) → 1 ≤ tag_reach quote bs
unfolding tag_reach
reach_some quote [] = omega arith
reach_some quote (b ∷ bs) = grind arith

pub reach_plain : (b : ℕ) (bs : List ℕ) → is_special b ≡ false → tag_reach 0 (b ∷ bs) ≡ suc (tag_reach 0 bs)
unfolding tag_reach
reach_plain b bs p = grind arith

pub reach_quote : (b : ℕ) (bs : List ℕ) → (b ≡ 34) ⊎ (b ≡ 39) → tag_reach 0 (b ∷ bs) ≡ suc (tag_reach b bs)
unfolding tag_reach
reach_quote b bs p = grind arith

-- which bytes are plain

pub blank_plain : (b : ℕ) → is_space_or_tab b ≡ true → is_special b ≡ false
blank_plain b p = grind arith

pub name_plain : (b : ℕ) → continues_name b ≡ true → is_special b ≡ false
name_plain b p = grind arith

pub letter_plain : (b : ℕ) → is_ascii_alphabetic b ≡ true → is_special b ≡ false
letter_plain b p = grind arith

pub attribute_plain : (b : ℕ) → continues_attribute b ≡ true → is_special b ≡ false
attribute_plain b p = grind arith

pub begins_plain : (b : ℕ) → begins_attribute b ≡ true → is_special b ≡ false
begins_plain b p = grind arith

pub unquoted_plain : (b : ℕ) → is_unquoted b ≡ true → is_special b ≡ false
unquoted_plain b p = grind arith

-- runs of plain bytes

skip_cons : (test : ℕ → Bool) (b : ℕ) (bs : List ℕ) → test b ≡ true → skip test (b ∷ bs) ≡ skip test bs
unfolding skip
skip_cons test b bs p = grind (arith, p)

skip_other : (test : ℕ → Bool) (b : ℕ) (bs : List ℕ) → test b ≡ false → skip test (b ∷ bs) ≡ b ∷ bs
unfolding skip
skip_other test b bs p = grind (arith, p)

skip_reach : (test : ℕ → Bool) → ((b : ℕ) → test b ≡ true → is_special b ≡ false) → (bs : List ℕ) → tag_reach 0 bs + length (skip test bs) ≡ length bs + tag_reach 0 (skip test bs)
unfolding skip
skip_reach test plain [] = omega arith
skip_reach test plain (b ∷ bs) = elim (test b) as (λ t. test b ≡ t → tag_reach 0 (b ∷ bs) + length (skip test (b ∷ bs)) ≡ length (b ∷ bs) + tag_reach 0 (skip test (b ∷ bs))) [
  | true ↦ λ p. rw (skip_cons test b bs p) (omega (arith, reach_plain b bs (plain b p), skip_reach test plain bs))
  | false ↦ λ p. rw (skip_other test b bs p) (omega arith)
] refl

pub skipped_reach : (test : ℕ → Bool) → ((b : ℕ) → test b ≡ true → is_special b ≡ false) → (bs rest : List ℕ) → rest ≡ skip test bs → tag_reach 0 bs + length rest ≡ length bs + tag_reach 0 rest
skipped_reach test plain bs rest e = rw e (skip_reach test plain bs)

line_reach : (bs : List ℕ) → tag_reach 0 bs + length (after_line_ending bs) ≡ length bs + tag_reach 0 (after_line_ending bs)
line_reach [] = omega arith
line_reach (b ∷ bs) = elim (b == 10) as (λ t. (b == 10) ≡ t → tag_reach 0 (b ∷ bs) + length (after_line_ending (b ∷ bs)) ≡ length (b ∷ bs) + tag_reach 0 (after_line_ending (b ∷ bs))) [
  | true ↦ λ p. rw p (omega (arith, reach_plain b bs (grind (arith, p)), skip_reach is_space_or_tab blank_plain bs))
  | false ↦ λ p. rw p (omega arith)
] refl

gap-reach : (bs : List ℕ) → tag_reach 0 bs + length (after_gap bs) ≡ length bs + tag_reach 0 (after_gap bs)
unfolding after_gap
gap-reach bs = omega (arith, skip_reach is_space_or_tab blank_plain bs, line_reach (skip is_space_or_tab bs))

pub gap_reach : (bs rest : List ℕ) → rest ≡ after_gap bs → tag_reach 0 bs + length rest ≡ length bs + tag_reach 0 rest
gap_reach bs rest e = rw e (gap-reach bs)

skip_less : (test : ℕ → Bool) (bs : List ℕ) → length (skip test bs) ≤ length bs
unfolding skip
skip_less test [] = omega arith
skip_less test (b ∷ bs) = elim (test b) as (λ t. test b ≡ t → length (skip test (b ∷ bs)) ≤ length (b ∷ bs)) [
  | true ↦ λ p. rw (skip_cons test b bs p) (omega (arith, skip_less test bs))
  | false ↦ λ p. rw (skip_other test b bs p) (omega arith)
] refl

line_less : (bs : List ℕ) → length (after_line_ending bs) ≤ length bs
line_less [] = omega arith
line_less (b ∷ bs) = elim (b == 10) as (λ t. (b == 10) ≡ t → length (after_line_ending (b ∷ bs)) ≤ length (b ∷ bs)) [
  | true ↦ λ p. rw p (omega (arith, skip_less is_space_or_tab bs))
  | false ↦ λ p. rw p (omega arith)
] refl

-- a gap that begins takes a byte
pub gap_some : (bs : List ℕ) → is_blank_next bs ≡ true → length (after_gap bs) < length bs
unfolding after_gap
gap_some [] p = cc
gap_some (b ∷ bs) p = elim (is_space_or_tab b) as (λ t. is_space_or_tab b ≡ t → length (after_gap (b ∷ bs)) < length (b ∷ bs)) [
  | true ↦ λ blank. rw (skip_cons is_space_or_tab b bs blank) (omega (arith, skip_less is_space_or_tab bs, line_less (skip is_space_or_tab bs)))
  | false ↦ λ other. let feed : (b == 10) ≡ true = grind (arith, p, other) in rw (skip_other is_space_or_tab b bs other) (rw feed (omega (arith, skip_less is_space_or_tab bs)))
] refl

pub gap_within : (bs : List ℕ) → length (after_gap bs) ≤ length bs
unfolding after_gap
gap_within bs = omega (arith, skip_less is_space_or_tab bs, line_less (skip is_space_or_tab bs))

-- inside of quotation marks

inside_step : (quote b : ℕ) (bs : List ℕ) → 0 < quote → (b ≡ quote → ⊥) → tag_reach quote (b ∷ bs) ≡ suc (tag_reach quote bs)
unfolding tag_reach
inside_step quote b bs some other = grind (arith, other)

inside_end : (quote : ℕ) (bs : List ℕ) → 0 < quote → tag_reach quote (quote ∷ bs) ≡ suc (tag_reach 0 bs)
unfolding tag_reach
inside_end quote bs some = grind arith

pub above_zero : (quote : ℕ) → (quote ≡ 34) ⊎ (quote ≡ 39) → 0 < quote
above_zero quote is = grind arith

pub quoted_vain : (quote : ℕ) (bs : List ℕ) → 0 < quote → ((k : ℕ) → k < length bs → get_or bs k 0 ≡ quote → ⊥) → tag_reach quote bs ≡ length bs + 1
unfolding tag_reach
quoted_vain quote [] some none = refl
quoted_vain quote (b ∷ bs) some none = omega (arith, inside_step quote b bs some (none 0 (omega arith)), quoted_vain quote bs some (λ k within. none (suc k) (omega arith)))

quoted-found : (quote : ℕ) (bs : List ℕ) (i : ℕ) → 0 < quote → i < length bs → get_or bs i 0 ≡ quote → ((k : ℕ) → k < i → get_or bs k 0 ≡ quote → ⊥)
    → tag_reach quote bs ≡ suc i + tag_reach 0 (drop (suc i) bs)
quoted-found quote [] i some within same none = absurd (omega arith)
quoted-found quote (b ∷ bs) zero some within same none =
    let here : b ≡ quote = same in
    let one = ap (λ q. tag_reach quote (q ∷ bs)) here ∙ inside_end quote bs some in
    omega (arith, one)
quoted-found quote (b ∷ bs) (suc i) some within same none =
    omega (arith, inside_step quote b bs some (none 0 (omega arith)), quoted-found quote bs i some (omega arith) same (λ k below. none (suc k) (omega arith)))

pub quoted_found : (quote : ℕ) (bs : List ℕ) (i : ℕ) → 0 < quote → i < length bs → get_or bs i 0 ≡ quote → ((k : ℕ) → k < i → get_or bs k 0 ≡ quote → ⊥)
    → tag_reach quote bs ≡ i + 1 + tag_reach 0 (drop (i + 1) bs)
quoted_found quote bs i some within same none = rw add-one (quoted-found quote bs i some within same none)

-- what raw HTML looks at

pub chosen : (a b : Bool) (x y : ℕ) → a ≡ b → (if a then x else y) ≡ (if b then x else y)
chosen a b x y e = ap (λ (t : Bool). if t then x else y) e

pub chosen_true : (a : Bool) (x y : ℕ) → a ≡ true → (if a then x else y) ≡ x
chosen_true a x y e = ap (λ (t : Bool). if t then x else y) e

pub chosen_false : (a : Bool) (x y : ℕ) → a ≡ false → (if a then x else y) ≡ y
chosen_false a x y e = ap (λ (t : Bool). if t then x else y) e

pub dash_found : (inside rest : List ℕ) → Some rest ≡ beyond_word (codes "--") inside → dash_reach inside ≡ length inside - length rest
dash_found inside rest h = ap (λ (o : Option (List ℕ)). elim o as (λ _. ℕ) [ Some r ↦ length inside - length r | None ↦ length inside ]) (sym h)

pub dash_none : (inside : List ℕ) → None ≡ beyond_word (codes "--") inside → dash_reach inside ≡ length inside
dash_none inside h = ap (λ (o : Option (List ℕ)). elim o as (λ _. ℕ) [ Some r ↦ length inside - length r | None ↦ length inside ]) (sym h)

pub declared_letter : (inside : List ℕ) (b : ℕ) (bs : List ℕ) → inside ≡ b ∷ bs → is_ascii_alphabetic b ≡ true → declared inside ≡ length bs
unfolding declared
declared_letter inside b bs e letter = rw e (chosen_true (is_ascii_alphabetic b) (length bs) 0 letter)

module _ (older : Bool) (inside : List ℕ) where
  pub needed_comment : (comment : List ℕ) → Some comment ≡ after_word (codes "--") inside
      → needed_after_mark older inside + mark_reach older inside ≡ (if older then dash_reach comment else length comment)
  unfolding needed_after_mark mark_reach after_word beyond_word
  needed_comment comment h = rw (← h) (go older)
    where
      go : (o : Bool) → (if o then 0 else length comment) + (if o then dash_reach comment else 0) ≡ (if o then dash_reach comment else length comment)
      go true = omega arith
      go false = omega arith

  pub needed_section : (section : List ℕ) → None ≡ after_word (codes "--") inside → Some section ≡ after_word (codes "[CDATA[") inside → needed_after_mark older inside ≡ length section
  unfolding needed_after_mark after_word
  needed_section section h k = rw (← h) (rw (← k) refl)

  pub needed_declared : None ≡ after_word (codes "--") inside → None ≡ after_word (codes "[CDATA[") inside → needed_after_mark older inside ≡ declared inside
  unfolding needed_after_mark after_word declared
  needed_declared h k = rw (← h) (rw (← k) refl)

  pub html_some : 1 ≤ html_reach older inside
  unfolding html_reach
  html_some = go inside
    where
      go : (text : List ℕ) → 1 ≤ html_reach older text
      go [] = omega arith
      go (b ∷ []) = omega arith
      go (b ∷ c ∷ bs) = grind arith

module _ (older : Bool) (text : List ℕ) (b : ℕ) where
  pub html_one : text ≡ b ∷ [] → html_reach older text ≡ 2
  unfolding html_reach
  html_one e = rw e refl

  module _ (bs : List ℕ) where
    pub html_mark : text ≡ b ∷ 33 ∷ bs → html_reach older text ≡ mark_reach older bs + 16
    unfolding html_reach
    html_mark e = rw e refl

    pub html_instruction : text ≡ b ∷ 63 ∷ bs → html_reach older text ≡ 2
    unfolding html_reach
    html_instruction e = rw e refl

    pub needed_mark : text ≡ b ∷ 33 ∷ bs → needed older text ≡ needed_after_mark older bs
    unfolding needed
    needed_mark e = rw e refl

    pub needed_instruction : text ≡ b ∷ 63 ∷ bs → needed older text ≡ length bs
    unfolding needed
    needed_instruction e = rw e refl

  pub html_other_reach : (c : ℕ) (bs : List ℕ) → text ≡ b ∷ c ∷ bs → (c ≡ 33 → ⊥) → (c ≡ 63 → ⊥) → html_reach older text ≡ 8 * tag_reach 0 (c ∷ bs) + 2
  unfolding html_reach
  html_other_reach c bs e other other' = rw e (grind (arith, other, other'))

pub tag_shorter : (rules : Rules) (text rest : List ℕ) → html_tag rules text ≡ Some rest → length rest ≤ length text
tag_shorter rules text rest h =
    let ends = tag-ends rules text rest h in
    omega (arith, ap length ends.is, length-append ends.front (62 ∷ rest))

-- what is left after a word is shorter
pub word-shorter : (word text rest : List ℕ) → after_word word text ≡ Some rest → length rest ≤ length text
unfolding after_word
word-shorter [] text rest e = grind (arith, e)
word-shorter (w ∷ ws) [] rest e = cc
word-shorter (w ∷ ws) (b ∷ bs) rest e = grind (arith, e, word-shorter ws bs rest)

pub word-fits : (word text : List ℕ) → is_at_word word text ≡ true → length word ≤ length text
unfolding is_at_word
word-fits [] text e = omega arith
word-fits (w ∷ ws) [] e = cc
word-fits (w ∷ ws) (b ∷ bs) e = grind (arith, e, word-fits ws bs)
