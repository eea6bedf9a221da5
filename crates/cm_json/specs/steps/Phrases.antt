-- The phrases of JSON that are held as one byte each.
use Rattle.std.specs.Prelude.{ℕ, Bool, nat_lt, cond, List, [], ◌∷◌, codes, get_or, flat_map}

-- each at the position of its byte; the byte 0 and the line feed are themselves
abbrev pub phrases : List (List ℕ)
phrases =
    (0 ∷ [])
    ∷ codes "{\"type\":\"text\",\"value\":\""
    ∷ codes ",\"value\":"
    ∷ codes "\"},"
    ∷ codes "{\"type\":\"break\"}"
    ∷ codes "{\"type\":\"emphasis\",\"children\":["
    ∷ codes "{\"type\":\"strong\",\"children\":["
    ∷ codes "{\"type\":\"inlineCode\",\"value\":"
    ∷ codes "{\"type\":\"link\""
    ∷ codes "{\"type\":\"image\""
    ∷ codes "\n"
    ∷ codes ",\"children\":["
    ∷ codes ",\"url\":"
    ∷ codes ",\"title\":"
    ∷ codes "null"
    ∷ codes ",\"alt\":"
    ∷ codes "{\"type\":\"paragraph\""
    ∷ codes ",\"data\":{\"lines\":["
    ∷ codes "{\"type\":\"heading\""
    ∷ codes ",\"depth\":"
    ∷ codes "{\"type\":\"code\""
    ∷ codes ",\"lang\":"
    ∷ codes ",\"meta\":"
    ∷ codes "{\"type\":\"html\""
    ∷ codes "{\"type\":\"thematicBreak\""
    ∷ codes "{\"type\":\"definition\""
    ∷ codes ",\"identifier\":"
    ∷ codes ",\"label\":"
    ∷ codes "{\"type\":\"blockquote\",\"children\":["
    ∷ codes "{\"type\":\"listItem\",\"spread\":"
    ∷ codes "{\"type\":\"list\""
    ∷ codes ",\"spread\":"
    ∷ []

-- the bytes that JSON has by an escape, so that they are free
abbrev pub is_held : ℕ → Bool
is_held b = nat_lt b 32

-- what is written for a byte, and for a text
abbrev pub written : ℕ → List ℕ
written b = cond (is_held b) (get_or phrases b []) (b ∷ [])

abbrev pub expanded : List ℕ → List ℕ
expanded = flat_map written
