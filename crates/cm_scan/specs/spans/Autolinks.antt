-- Autolinks (CommonMark 0.31.2, 6.5 Autolinks): what is between `<` and the next `>` decides.
use Rattle.std.specs.Prelude.{ℕ, Bool, true, false, not, ◌&&◌, ◌||◌, List, [], ◌∷◌, ◌++◌, length, Option, Some, None, ◌==◌, if◌then◌else◌, codes}
use Rattle.std.specs.List.{list_all, list_any, slice_split}
use Rattle.std.specs.Option.{option_map}
use Rattle.std.specs.Str.{byte}
use Rattle.std.specs.Int.{is_in_range}
use Rattle.std.specs.Char.{is_ascii_alphabetic, is_ascii_alphanumeric, is_ascii_control}
use Rattle.cm_text.specs.Rules.{Rules}
use Rattle.cm_text.specs.Addresses.{is_followed}
use Rattle.cm_scan.specs.Words.{is_empty, begins_with, skip, front_of, after_word, given, ◌and_then◌}
use Rattle.cm_scan.specs.inlines.Links.{Reading}

-- ASCII control characters, space, `<`, and `>` are in no autolink.
abbrev pub is_inside : ℕ → Bool
is_inside b = not (is_ascii_control b || b == byte " " || b == byte "<" || b == byte ">")

-- `<`, characters that can be inside, and `>`
unfoldable pub in_angles : List ℕ → Option Reading
in_angles text = after_word (codes "<") text and_then λ inside.
    option_map (λ rest. record { text = front_of is_inside inside; rest = rest }) (after_word (codes ">") (skip is_inside inside))

-- A scheme is any sequence of 2-32 characters beginning with an ASCII letter and followed by any combination of ASCII letters,
-- digits, or the symbols plus ("+"), period ("."), or hyphen ("-").
abbrev pub continues_scheme : ℕ → Bool
continues_scheme b = is_ascii_alphanumeric b || b == byte "+" || b == byte "." || b == byte "-"

unfoldable pub is_scheme : List ℕ → Bool
is_scheme [] = false
is_scheme (b ∷ bs) = is_ascii_alphabetic b && is_in_range 1 31 (length bs)

-- An absolute URI consists of a scheme followed by a colon (:) followed by zero or more characters.
unfoldable pub is_absolute : List ℕ → Bool
is_absolute text = is_scheme (front_of continues_scheme text) && begins_with (byte ":") (skip continues_scheme text)

abbrev pub stands_in_address : ℕ → Bool
stands_in_address b = is_ascii_alphanumeric b || list_any (λ c. b == c) (codes ".!#$%&'*+/=?^_`{|}~-")

-- the text ends with this byte
unfoldable pub ends_with : ℕ → List ℕ → Bool
ends_with c [] = false
ends_with c (b ∷ bs) = elim (is_empty bs) [ true ↦ b == c | false ↦ ends_with c bs ]

-- a label of a host: 1 to 63 letters, digits or hyphens, with no hyphen at its ends
unfoldable pub is_host_label : List ℕ → Bool
is_host_label label = is_in_range 1 63 (length label) && list_all (λ b. is_ascii_alphanumeric b || b == byte "-") label && not (begins_with (byte "-") label) && not (ends_with (byte "-") label)

-- An email address is anything that matches the non-normative regex from the HTML5 spec: characters, `@`, and labels with dots
-- between them.
unfoldable pub is_address : List ℕ → Bool
is_address text = not (is_empty (front_of stands_in_address text)) && elim (after_word (codes "@") (skip stands_in_address text)) [
  | Some host ↦ list_all is_host_label (slice_split (λ b. b == byte ".") host)
  | None ↦ false
]

-- an autolink: its destination, its text, and what is left after it
pub record Autolink : Type 0 where
  pub destination : List ℕ
  pub text : List ℕ
  pub rest : List ℕ

unfoldable pub as_autolink : Reading → Option Autolink
as_autolink r =
    if is_absolute r.text then Some (record { destination = r.text; text = r.text; rest = r.rest })
    else (if is_address r.text then Some (record { destination = codes "mailto:" ++ r.text; text = r.text; rest = r.rest }) else None)

-- an absolute URI or an email address between `<` and `>`
unfoldable pub autolink : List ℕ → Option Autolink
autolink text = elim (in_angles text) [ Some r ↦ as_autolink r | None ↦ None ]

-- the autolink at the start of a text, if the rules follow its address
unfoldable pub followed_autolink : Rules → List ℕ → Option Autolink
followed_autolink rules text = autolink text and_then λ link. given (is_followed rules link.destination) link
