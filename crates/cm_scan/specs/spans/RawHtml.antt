-- Raw HTML (CommonMark 0.31.2, 6.6 Raw HTML). Each reading gives what is left of the text after it. With the older rules the text
-- of a comment doesn't start with `>` or `->`, doesn't end with `-`, and contains no `--`.
use Rattle.std.specs.Prelude.{ℕ, Bool, true, false, List, [], ◌∷◌, Option, Some, None, codes}
use Rattle.std.specs.Option.{option_map}
use Rattle.std.specs.Char.{is_ascii_alphabetic}
use Rattle.cm_text.specs.Rules.{Rules}
use Rattle.cm_scan.specs.Words.{after_word, ◌<|>◌}
use Rattle.cm_scan.specs.spans.Tags.{open_tag, closing_tag}

-- what is left after the first place of a nonempty word
unfoldable pub beyond_word : List ℕ → List ℕ → Option (List ℕ)
beyond_word word [] = None
beyond_word word (b ∷ bs) = elim (after_word word (b ∷ bs)) [ Some rest ↦ Some rest | None ↦ beyond_word word bs ]

-- one string, and a text up to another
unfoldable pub from_to : List ℕ → List ℕ → List ℕ → Option (List ℕ)
from_to start end text = elim (after_word start text) [ Some inside ↦ beyond_word end inside | None ↦ None ]

-- what is left after `>` or `->`, which end a comment directly after `<!--`
unfoldable pub short_end : List ℕ → Option (List ℕ)
short_end inside = after_word (codes ">") inside <|> after_word (codes "->") inside

-- After `<!--`. A comment consists of `<!-->`, `<!--->`, or `<!--`, a string of characters not including the string `-->`, and
-- `-->`. With the older rules the first `--` belongs to the `-->` at the end, and neither `>` nor `->` comes next.
unfoldable pub after_comment : Bool → List ℕ → Option (List ℕ)
after_comment false inside = short_end inside <|> beyond_word (codes "-->") inside
after_comment true inside = elim (short_end inside) [
  | Some rest ↦ None
  | None ↦ elim (beyond_word (codes "--") inside) [ Some rest ↦ after_word (codes ">") rest | None ↦ None ]
]

unfoldable pub comment : Bool → List ℕ → Option (List ℕ)
comment older text = elim (after_word (codes "<!--") text) [ Some inside ↦ after_comment older inside | None ↦ None ]

-- A processing instruction consists of the string `<?`, a string of characters not including the string `?>`, and the string `?>`.
abbrev pub instruction : List ℕ → Option (List ℕ)
instruction text = from_to (codes "<?") (codes "?>") text

-- after `<!`: an ASCII letter, and a text up to `>`
unfoldable pub after_declaration : List ℕ → Option (List ℕ)
after_declaration [] = None
after_declaration (b ∷ bs) = elim (is_ascii_alphabetic b) [ true ↦ beyond_word (codes ">") bs | false ↦ None ]

-- A declaration consists of the string `<!`, an ASCII letter, zero or more characters not including the character `>`, and the
-- character `>`.
unfoldable pub declaration : List ℕ → Option (List ℕ)
declaration text = elim (after_word (codes "<!") text) [ Some inside ↦ after_declaration inside | None ↦ None ]

-- A CDATA section consists of the string `<![CDATA[`, a string of characters not including the string `]]>`, and the string `]]>`.
abbrev pub character_data : List ℕ → Option (List ℕ)
character_data text = from_to (codes "<![CDATA[") (codes "]]>") text

-- An HTML tag consists of an open tag, a closing tag, an HTML comment, a processing instruction, a declaration, or a CDATA
-- section. No text starts with two of them.
unfoldable pub html_tag : Rules → List ℕ → Option (List ℕ)
html_tag rules text = option_map (λ tag. tag.rest) (open_tag text) <|> option_map (λ tag. tag.rest) (closing_tag text)
    <|> comment rules.older text <|> instruction text <|> declaration text <|> character_data text

-- what is left after an HTML tag; with rules without raw HTML there is none
unfoldable pub raw_html : Rules → List ℕ → Option (List ℕ)
raw_html rules text = elim rules.raw_html [ true ↦ html_tag rules text | false ↦ None ]
