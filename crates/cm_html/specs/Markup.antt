-- What markup is: text, and tags of a fixed list, each closed in its place. The tags in some bytes are found from the left, with the
-- names of the open elements. The rules decide which addresses and classes can be in it.
use Rattle.std.specs.Prelude.{ℕ, ◌==◌, Bool, true, false, not, ◌&&◌, ◌||◌, Option, Some, None, List, [], ◌∷◌, ◌++◌, codes, drop, if◌then◌else◌}
use Rattle.std.specs.Option.{is_some, option_map}
use Rattle.std.specs.Char.{is_ascii_digit}
use Rattle.std.specs.List.{list_any, list_all, before_first}
use Rattle.std.specs.Str.{bytes_eq, byte}
use Rattle.cm_text.specs.Rules.{Rules}
use Rattle.cm_text.specs.Characters.{is_space_or_tab}
use Rattle.cm_text.specs.Addresses.{is_followed}
use Rattle.cm_tree.specs.Followed.{is_line_space}

-- the text starts with this word
abbrev pub begins : List ℕ → List ℕ → Bool
begins [] text = true
begins (c ∷ cs) [] = false
begins (c ∷ cs) (b ∷ bs) = c == b && begins cs bs

-- what follows the `&` of a reference
abbrev pub references : List (List ℕ)
references = codes "amp;" ∷ codes "lt;" ∷ codes "gt;" ∷ codes "quot;" ∷ []

-- A byte of a text, given what follows it: no `<`, `>` or `"`, and a `&` only at the start of one of the four references.
abbrev pub may_stand : ℕ → List ℕ → Bool
may_stand b next = if b == byte "&" then list_any (λ reference. begins reference next) references else not (b == byte "<" || b == byte ">" || b == byte "\"")

-- bytes that are text
abbrev pub is_text : List ℕ → Bool
is_text [] = true
is_text (b ∷ bs) = may_stand b bs && is_text bs

-- The tags that open an element. A tag is what is between `<` and `>`, without what is in its quotes.
abbrev pub opening_tags : List (List ℕ)
opening_tags =
    codes "p" ∷ codes "h1" ∷ codes "h2" ∷ codes "h3" ∷ codes "h4" ∷ codes "h5" ∷ codes "h6"
    ∷ codes "pre" ∷ codes "code" ∷ codes "code class=\"\"" ∷ codes "blockquote"
    ∷ codes "ul" ∷ codes "ol" ∷ codes "ol start=\"\"" ∷ codes "li"
    ∷ codes "em" ∷ codes "strong" ∷ codes "del" ∷ codes "a href=\"\"" ∷ codes "a href=\"\" title=\"\"" ∷ []

-- the tags of an element without content
abbrev pub lone_tags : List (List ℕ)
lone_tags = codes "hr /" ∷ codes "br /" ∷ codes "img src=\"\" alt=\"\" /" ∷ codes "img src=\"\" alt=\"\" title=\"\" /" ∷ []

-- HTML's spaces, which separate classes
abbrev pub is_html_space : ℕ → Bool
is_html_space b = is_space_or_tab b || is_line_space b

-- The name of a language after `language-`. With rules without raw HTML it is one word.
abbrev pub is_class : Rules → List ℕ → Bool
is_class rules value = begins (codes "language-") value && (rules.raw_html || not (list_any is_html_space value))

-- What can be in quotes after this part of a tag: a text; for a class the name of a language, for a start a number, and for a link or an
-- image an address that the rules follow.
abbrev pub may_be_value : Rules → List ℕ → List ℕ → Bool
may_be_value rules tag value =
    is_text value
    && (if bytes_eq tag (codes "code class=") then is_class rules value
    else (if bytes_eq tag (codes "ol start=") then list_all is_ascii_digit value
    else (if bytes_eq tag (codes "a href=") || bytes_eq tag (codes "img src=") then is_followed rules value else true)))

-- Where a reader is, with the names of the open elements, the innermost first: in text; in a tag, with what was read of it; in a value,
-- with the tag before it and what was read of the value; or after what is no markup.
pub data Place : Type 0 where
  InText : List (List ℕ) → Place
  InTag : List ℕ → List (List ℕ) → Place
  InValue : List ℕ → List ℕ → List (List ℕ) → Place
  Refused : Place

-- after the closing tag of an element, which must be the innermost
abbrev pub closed : List ℕ → List (List ℕ) → Place
closed name [] = Refused
closed name (innermost ∷ names) = if bytes_eq name innermost then InText names else Refused

-- after a tag
abbrev pub after_tag : List ℕ → List (List ℕ) → Place
after_tag tag names =
    if begins (codes "/") tag then closed (drop 1 tag) names
    else (if list_any (bytes_eq tag) lone_tags then InText names
    else (if list_any (bytes_eq tag) opening_tags then InText (before_first (λ b. b == byte " ") tag ∷ names) else Refused))

-- after one more byte, given what follows it
abbrev pub beyond : Rules → Place → ℕ → List ℕ → Place
beyond rules (InText names) b next = if b == byte "<" then InTag [] names else (if may_stand b next then InText names else Refused)
beyond rules (InTag tag names) b next =
    if b == byte ">" then after_tag tag names else (if b == byte "\"" then InValue tag [] names else InTag (tag ++ b ∷ []) names)
beyond rules (InValue tag value names) b next =
    if b == byte "\""
    then (if may_be_value rules tag value then InTag (tag ++ codes "\"\"") names else Refused)
    else InValue tag (value ++ b ∷ []) names
beyond rules Refused b next = Refused

-- the tag that this byte ends
abbrev pub ended : Place → ℕ → List (List ℕ)
ended (InTag tag names) b = if b == byte ">" then tag ∷ [] else []
ended place b = []

-- tags before those that follow, if there is nothing but markup
abbrev pub and_tag : List ℕ → Option (List (List ℕ)) → Option (List (List ℕ))
and_tag tag tags = option_map (λ more. tag ∷ more) tags

abbrev pub and_tags : List (List ℕ) → Option (List (List ℕ)) → Option (List (List ℕ))
and_tags [] following = following
and_tags (tag ∷ tags) following = and_tag tag (and_tags tags following)

-- at the end nothing is open
abbrev pub at_end : Place → Option (List (List ℕ))
at_end (InText []) = Some []
at_end _ = None

abbrev pub tags_from : Rules → Place → List ℕ → Option (List (List ℕ))
tags_from rules place [] = at_end place
tags_from rules place (b ∷ bs) = and_tags (ended place b) (tags_from rules (beyond rules place b bs) bs)

-- the tags in some bytes, in order, each without what is in its quotes, or none if the bytes aren't markup
abbrev pub tags_in : Rules → List ℕ → Option (List (List ℕ))
tags_in rules bytes = tags_from rules (InText []) bytes

-- The bytes are markup: text without `<`, `>` and `"`, in which `&` starts one of four references, and tags of a fixed list, each closed
-- in its place, whose values are such text.
abbrev pub is_markup : Rules → List ℕ → Bool
is_markup rules bytes = is_some (tags_in rules bytes)
