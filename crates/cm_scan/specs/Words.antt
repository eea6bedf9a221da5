-- Small definitions on texts, which several grammars share. A text is its UTF-8 bytes.
use Rattle.std.specs.Prelude.{ℕ, suc, Bool, true, false, ◌&&◌, ◌||◌, List, [], ◌∷◌, Option, Some, None, ◌==◌}
use Rattle.std.specs.List.{list_all, list_any}
use Rattle.std.specs.Str.{byte, bytes_eq}
pub use Rattle.cm_text.specs.Characters.{is_space_or_tab}
unfoldable pub use Rattle.cm_text.specs.References.{after_word}
pub use Rattle.cm_text.specs.References.{begins_with}
unfoldable pub use Rattle.cm_text.specs.Trims.{skip, trim_end_by}
pub use Rattle.cm_text.specs.Trims.{keep_byte}

-- the bytes at the start of a text that pass a test
unfoldable pub front_of : (ℕ → Bool) → List ℕ → List ℕ
front_of test [] = []
front_of test (b ∷ bs) = elim (test b) [ true ↦ b ∷ front_of test bs | false ↦ [] ]

-- how many times a byte is repeated at the start of a text
unfoldable pub run_length : ℕ → List ℕ → ℕ
run_length marker [] = 0
run_length marker (b ∷ bs) = elim (b == marker) [ true ↦ suc (run_length marker bs) | false ↦ 0 ]

-- what is left of a text after that run
unfoldable pub after_run : ℕ → List ℕ → List ℕ
after_run marker [] = []
after_run marker (b ∷ bs) = elim (b == marker) [ true ↦ after_run marker bs | false ↦ b ∷ bs ]

-- a text without the spaces and tabs at its start
abbrev pub trim_start : List ℕ → List ℕ
trim_start text = skip is_space_or_tab text

-- a text without the spaces and tabs at its end
abbrev pub trim_end : List ℕ → List ℕ
trim_end text = trim_end_by is_space_or_tab text

-- a text without the spaces at its end
abbrev pub trim_end_spaces : List ℕ → List ℕ
trim_end_spaces text = trim_end_by (λ b. b == byte " ") text

-- a text without the spaces and tabs at both ends
abbrev pub trim : List ℕ → List ℕ
trim text = trim_end (trim_start text)

-- a text of nothing but spaces and tabs
abbrev pub is_blank_text : List ℕ → Bool
is_blank_text text = list_all is_space_or_tab text

-- a space, a tab or the end of the line comes next
abbrev pub is_at_gap : List ℕ → Bool
is_at_gap [] = true
is_at_gap (b ∷ bs) = is_space_or_tab b

-- a text without bytes
abbrev pub is_empty : List ℕ → Bool
is_empty [] = true
is_empty (b ∷ bs) = false

-- the text starts with the word
unfoldable pub is_at_word : List ℕ → List ℕ → Bool
is_at_word [] text = true
is_at_word (w ∷ ws) [] = false
is_at_word (w ∷ ws) (b ∷ bs) = b == w && is_at_word ws bs

-- the text contains the word
unfoldable pub holds_word : List ℕ → List ℕ → Bool
holds_word word [] = is_at_word word []
holds_word word (b ∷ bs) = is_at_word word (b ∷ bs) || holds_word word bs

-- the word is one of these
abbrev pub is_among : List (List ℕ) → List ℕ → Bool
is_among words word = list_any (λ w. bytes_eq w word) words

infixr 6 ◌<|>◌
-- the first of two readings, or the second if there is no first
abbrev pub ◌<|>◌ : {A : Type 0} → Option A → Option A → Option A
(Some x) <|> second = Some x
None <|> second = second

-- a value, if the test passes
abbrev pub given : {A : Type 0} → Bool → A → Option A
given true x = Some x
given false x = None

infixl 5 ◌and_then◌
-- what a second reading makes of the first; none if there is no first
abbrev pub ◌and_then◌ : {A B : Type 0} → Option A → (A → Option B) → Option B
None and_then more = None
(Some x) and_then more = more x
