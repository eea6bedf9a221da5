-- How many bytes raw HTML and autolinks may look at, by cases on the bytes.
use Rattle.std.specs.Prelude.{ℕ, suc, ◌+◌, ◌*◌, ◌-◌, ◌==◌, ◌||◌, Bool, true, false, List, [], ◌∷◌, length, Some, None, codes, if◌then◌else◌}
use Rattle.std.specs.Str.{byte}
use Rattle.std.specs.Char.{is_ascii_alphabetic}
use Rattle.cm_scan.specs.Words.{after_word}
use Rattle.cm_scan.specs.spans.RawHtml.{beyond_word}
use Rattle.cm_scan.specs.spans.Autolinks.{is_inside}

-- After its `<`, an autolink looks up to the first byte that is in none.
unfoldable pub link_reach : List ℕ → ℕ
link_reach [] = 1
link_reach (b ∷ bs) = if is_inside b then suc (link_reach bs) else 1

-- how far the autolinks reach together that start at each `<`
unfoldable pub link_reaches : List ℕ → ℕ
link_reaches [] = 0
link_reaches (b ∷ bs) = (if b == byte "<" then link_reach bs else 0) + link_reaches bs

-- A tag looks up to the first `<` or `>` outside of quotation marks. `quote` is the quotation mark that is open, or 0.
unfoldable pub tag_reach : (quote : ℕ) → List ℕ → ℕ
tag_reach quote [] = 1
tag_reach quote (b ∷ bs) = elim (quote == 0) [
  | true ↦ elim (b == byte "<" || b == byte ">") [ true ↦ 1 | false ↦ suc (tag_reach (if b == byte "\"" || b == byte "'" then b else 0) bs) ]
  | false ↦ suc (tag_reach (if b == quote then 0 else quote) bs)
]

-- how far the tags reach together that start at each `<`
unfoldable pub tag_reaches : List ℕ → ℕ
tag_reaches [] = 0
tag_reaches (b ∷ bs) = (if b == byte "<" then tag_reach 0 bs else 0) + tag_reaches bs

-- how far the next `--` is: with the older rules it ends a comment, or shows that there is none
abbrev pub dash_reach : List ℕ → ℕ
dash_reach inside = elim (beyond_word (codes "--") inside) as (λ _. ℕ) [ Some rest ↦ length inside - length rest | None ↦ length inside ]

-- after `<!`, how far an older comment looks
unfoldable pub mark_reach : (older : Bool) → List ℕ → ℕ
mark_reach older inside = elim (after_word (codes "--") inside) as (λ _. ℕ) [ Some comment ↦ if older then dash_reach comment else 0 | None ↦ 0 ]

-- What raw HTML at the start of a text looks at, but for a search to the end of the text: 8 bytes for each that a tag reaches.
unfoldable pub html_reach : (older : Bool) → List ℕ → ℕ
html_reach older [] = 1
html_reach older (b ∷ []) = 2
html_reach older (b ∷ c ∷ bs) =
    if c == byte "!" then mark_reach older bs + 16
    else if c == byte "?" then 2
    else 8 * tag_reach 0 (c ∷ bs) + 2

-- what is left after `<!` and a letter
unfoldable pub declared : List ℕ → ℕ
declared [] = 0
declared (b ∷ bs) = if is_ascii_alphabetic b then length bs else 0

-- after `<!`, what is left of a text that ends at the first place of a word
unfoldable pub needed_after_mark : (older : Bool) → List ℕ → ℕ
needed_after_mark older inside = elim (after_word (codes "--") inside) as (λ _. ℕ) [
  | Some comment ↦ if older then 0 else length comment
  | None ↦ elim (after_word (codes "[CDATA[") inside) as (λ _. ℕ) [ Some section ↦ length section | None ↦ declared inside ]
]

-- What is left of a text that starts with a comment, a processing instruction, a CDATA section or a declaration: without its end, the search
-- for that looks at all of it. An older comment isn't such a text.
unfoldable pub needed : (older : Bool) → List ℕ → ℕ
needed older [] = 0
needed older (b ∷ []) = 0
needed older (b ∷ c ∷ bs) =
    if c == byte "!" then needed_after_mark older bs
    else if c == byte "?" then length bs
    else 0
