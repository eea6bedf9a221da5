-- The atoms of a leaf's source (CommonMark 0.31.2, chapter 6). Its lines are separated by line feeds. The byte at a place says
-- what is tried there. If nothing fits, that byte is text.
use Rattle.std.specs.Prelude.{ℕ, Bool, true, false, ◌&&◌, ◌||◌, ◌==◌, nat_le, if◌then◌else◌, List, [], ◌∷◌, drop, reverse, replicate, slice_get, Option, Some, None, codes, chars, encode_utf8_all}
use Rattle.std.specs.Str.{byte}
use Rattle.cm_text.specs.Rules.{Rules}
use Rattle.cm_text.specs.References.{reference}
use Rattle.cm_text.specs.Unescaping.{escape}
use Rattle.cm_tree.specs.declared.tree.Inline.{Inline}
use Rattle.cm_tree.specs.declared.tree.Inline.TheVariants.{Text, Code, Html, Soft, Hard, Link}
use Rattle.cm_scan.specs.Words.{run_length, after_run, after_word}
use Rattle.cm_scan.specs.spans.Autolinks.{Autolink}
use Rattle.cm_scan.specs.spans.CodeSpans.{code_span}
use Rattle.cm_scan.specs.spans.Angles.{Addressed, Tagged, at_angle}
use Rattle.cm_scan.specs.inlines.Delimiters.{Run, neighbour, may_open, may_close}

-- Characters of text; another inline; a delimiter run; `[` or `![`; and `]`.
pub data Atom : Type 0 where
  Plain : List ℕ → Atom
  Whole : Inline → Atom
  Delimiter : Run → Atom
  OpenBracket : (image : Bool) → Atom
  CloseBracket : Atom

-- an atom, and what is left of the source after it
pub record AtomRead : Type 0 where
  pub atom : Atom
  pub rest : List ℕ

abbrev pub read : Atom → List ℕ → Option AtomRead
read atom rest = Some (record { atom = atom; rest = rest })

-- a code span, or else the whole run of backticks as text (6.1 Code spans)
unfoldable pub backtick_atom : List ℕ → Option AtomRead
backtick_atom text = elim (code_span text) [
  | Some span ↦ read (Whole (Code span.text)) span.rest
  | None ↦ read (Plain (replicate (run_length (byte "`") text) (byte "`"))) (after_run (byte "`") text)
]

abbrev pub link_of : Autolink → Inline
link_of link = Link link.destination [] (Text link.text ∷ [])

-- an autolink or raw HTML (6.5 Autolinks, 6.6 Raw HTML)
unfoldable pub angle_atom : Rules → List ℕ → Option AtomRead
angle_atom rules text = elim (at_angle rules text) [
  | Some (Addressed link) ↦ read (Whole (link_of link)) link.rest
  | Some (Tagged tag) ↦ read (Whole (Html tag.text)) tag.rest
  | None ↦ None
]

-- a hard line break, or an escaped character (6.7 Hard line breaks, 2.4 Backslash escapes)
unfoldable pub backslash_atom : List ℕ → Option AtomRead
backslash_atom text = elim (after_word (codes "\\\n") text) [
  | Some rest ↦ read (Whole Hard) rest
  | None ↦ elim (escape text) [ Some escaped ↦ read (Plain escaped.0) (drop escaped.1 text) | None ↦ None ]
]

-- the characters of a reference (2.5 Entity and numeric character references)
unfoldable pub reference_atom : List ℕ → Option AtomRead
reference_atom text = elim (reference text) [ Some found ↦ read (Plain (encode_utf8_all found.0)) (drop found.1 text) | None ↦ None ]

-- A line ending with the spaces before it: a hard line break after two spaces or more, or else a soft one (6.7 Hard line breaks,
-- 6.8 Soft line breaks).
unfoldable pub break_atom : List ℕ → Option AtomRead
break_atom text = elim (after_word (codes "\n") (after_run (byte " ") text)) [
  | Some rest ↦ read (Whole (if nat_le 2 (run_length (byte " ") text) then Hard else Soft)) rest
  | None ↦ None
]

-- the first character of the source after a delimiter run
abbrev pub first_character : List ℕ → Option ℕ
first_character text = slice_get (chars text) 0

-- the last character of what comes before a delimiter run, whose bytes are in reverse
abbrev pub last_character : List ℕ → Option ℕ
last_character before = slice_get (reverse (chars (reverse before))) 0

-- a run of the given number of characters between its neighbours in the source
unfoldable pub run_between : Rules → (character count : ℕ) → (before rest : List ℕ) → Run
run_between rules character count before rest =
    let b = neighbour rules (last_character before) in
    let a = neighbour rules (first_character rest) in
    record { character = character; whole = count; left = count; opens = may_open character b a; closes = may_close character b a }

-- A delimiter run is a sequence of one or more `*` characters that is not preceded or followed by a non-backslash-escaped `*`
-- character, or the same of `_` (6.2 Emphasis and strong emphasis).
unfoldable pub run_atom : Rules → (before : List ℕ) → ℕ → List ℕ → Option AtomRead
run_atom rules before character text =
    let rest = after_run character text in
    read (Delimiter (run_between rules character (run_length character text) before rest)) rest

-- With strikethrough a run of exactly two tildes is a delimiter run; each other run of tildes is text.
unfoldable pub tilde_atom : Rules → (before : List ℕ) → List ℕ → Option AtomRead
tilde_atom rules before text = elim (rules.strike && run_length (byte "~") text == 2) [
  | true ↦ run_atom rules before (byte "~") text
  | false ↦ read (Plain (replicate (run_length (byte "~") text) (byte "~"))) (after_run (byte "~") text)
]

-- `![`, the opener of an image (6.4 Images)
unfoldable pub bang_atom : List ℕ → Option AtomRead
bang_atom text = elim (after_word (codes "![") text) [ Some rest ↦ read (OpenBracket true) rest | None ↦ None ]

-- the bytes that can start an atom other than one byte of text: those of markup, a line feed, and a space, since a line
-- ending may follow
abbrev pub is_markup : ℕ → Bool
is_markup b =
    b == byte "\n" || b == byte " " || b == byte "!" || b == byte "&" || b == byte "*" || b == byte "<" || b == byte "["
    || b == byte "\\" || b == byte "]" || b == byte "_" || b == byte "`" || b == byte "~"

-- the atom that such a byte starts, if it starts one
unfoldable pub markup_atom : Rules → (before : List ℕ) → ℕ → List ℕ → Option AtomRead
markup_atom rules before b bs =
    if b == byte "`" then backtick_atom (b ∷ bs)
    else if b == byte "<" then angle_atom rules (b ∷ bs)
    else if b == byte "\\" then backslash_atom (b ∷ bs)
    else if b == byte "&" then reference_atom (b ∷ bs)
    else if b == byte "\n" || b == byte " " then break_atom (b ∷ bs)
    else if b == byte "~" then tilde_atom rules before (b ∷ bs)
    else if b == byte "!" then bang_atom (b ∷ bs)
    else if b == byte "[" then read (OpenBracket false) bs
    else if b == byte "]" then read CloseBracket bs
    else run_atom rules before b (b ∷ bs)

-- the byte alone, as text
abbrev pub byte_atom : ℕ → List ℕ → AtomRead
byte_atom b bs = record { atom = Plain (b ∷ []); rest = bs }

abbrev pub or_byte : ℕ → List ℕ → Option AtomRead → AtomRead
or_byte b bs None = byte_atom b bs
or_byte b bs (Some a) = a

-- The atom at the start of a source, by its first byte: characters of text, a whole inline, a delimiter run, `[`, `![` or `]`.
-- The bytes before it are in reverse.
unfoldable pub atom_at : Rules → (before : List ℕ) → ℕ → List ℕ → AtomRead
atom_at rules before b bs = elim (is_markup b) [ true ↦ or_byte b bs (markup_atom rules before b bs) | false ↦ byte_atom b bs ]
