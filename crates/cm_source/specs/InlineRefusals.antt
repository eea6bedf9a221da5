-- Which inlines can't be spelled so that they read back, and why not (CommonMark 0.31.2, chapter 6). The reason is the first in
-- document order, parents first.
use Rattle.std.specs.Prelude.{ℕ, Bool, true, false, not, ◌==◌, ◌&&◌, ◌||◌, if◌then◌else◌, List, [], ◌∷◌, map, reverse, Option, Some, None, codes}
use Rattle.std.specs.List.{list_any}
use Rattle.std.specs.Char.{is_ascii_control}
use Rattle.std.specs.Str.{byte}
use Rattle.cm_text.specs.Rules.{Rules}
use Rattle.cm_text.specs.Addresses.{is_followed}
use Rattle.cm_text.specs.Characters.{is_space, is_punct_by}
use Rattle.cm_tree.specs.declared.tree.Inline.{Inline, Inline-F}
use Rattle.cm_tree.specs.declared.tree.Inline.TheOpen as inline
use Rattle.cm_tree.specs.declared.tree.Inline.TheFolds.{fold-Inline}
use Rattle.cm_scan.specs.Words.{is_empty, holds_word, ◌<|>◌}
use Rattle.cm_scan.specs.spans.Angles.{Addressed, Tagged, at_angle}
use Rattle.cm_scan.specs.inlines.Atoms.{first_character, last_character}
use Rattle.cm_source.specs.declared.why.Why.{Why}
use Rattle.cm_source.specs.declared.why.Why.TheVariants.{Nul, Text, EmphasisNested, EmphasisTouching, EmphasisEdge, CodeSpan, RawHtml, LinkInLink, LineBreak, StrikeOff, AddressOff}

-- the first of these reasons that holds
abbrev pub refused : List (Bool × Why) → Option Why
refused [] = None
refused (reason ∷ reasons) = if reason.0 then Some reason.1 else refused reasons

-- U+0000 in a string
abbrev pub has_nul : List ℕ → Bool
has_nul text = list_any (λ b. b == 0) text

abbrev pub has_line_ending : List ℕ → Bool
has_line_ending text = list_any (λ b. b == byte "\n" || b == byte "\r") text

-- What the inlines around an inline see of it: what it is, and of a text its first and its last character.
pub data Face : Type 0 where
  TextFace : (first last : Option ℕ) → Face
  CodeFace : Face
  BreakFace : Face
  EmphasisFace : Face
  OtherFace : Face

abbrev pub is_text : Option Face → Bool
is_text (Some (TextFace first last)) = true
is_text _ = false

abbrev pub is_code : Option Face → Bool
is_code (Some CodeFace) = true
is_code _ = false

abbrev pub is_break : Option Face → Bool
is_break (Some BreakFace) = true
is_break _ = false

abbrev pub is_emphasis : Option Face → Bool
is_emphasis (Some EmphasisFace) = true
is_emphasis _ = false

abbrev pub is_none : Option Face → Bool
is_none None = true
is_none (Some face) = false

abbrev pub first_of : Option Face → Option ℕ
first_of (Some (TextFace first last)) = first
first_of _ = None

abbrev pub last_of : Option Face → Option ℕ
last_of (Some (TextFace first last)) = last
last_of _ = None

-- Unicode whitespace
abbrev pub is_whitespace : Option ℕ → Bool
is_whitespace None = false
is_whitespace (Some c) = is_space c

-- a character that is neither Unicode whitespace, nor an ASCII control character, nor Unicode punctuation
abbrev pub is_plain : Rules → Option ℕ → Bool
is_plain rules None = false
is_plain rules (Some c) = not (is_space c) && not (is_ascii_control c) && not (is_punct_by rules c)

-- Where an inline is: in a heading, as the first of a paragraph, in a link that is the first of a paragraph.
pub record Place : Type 0 where
  pub heading : Bool
  pub opens_paragraph : Bool
  pub in_opening_link : Bool

-- An inline as it is judged: what others see of it, whether it is or contains emphasis or a link, and why it is refused, at a place
-- and between its neighbours.
pub record Judged : Type 0 where
  pub face : Face
  pub has_emphasis : Bool
  pub has_link : Bool
  pub refusal : Place → (before after : Option Face) → Option Why

abbrev pub first_face : List Judged → Option Face
first_face [] = None
first_face (first ∷ others) = Some first.face

abbrev pub last_face : List Judged → Option Face
last_face [] = None
last_face (last ∷ []) = Some last.face
last_face (first ∷ next ∷ others) = last_face (next ∷ others)

abbrev pub hold_emphasis : List Judged → Bool
hold_emphasis content = list_any (λ (i : Judged). i.has_emphasis) content

abbrev pub hold_link : List Judged → Bool
hold_link content = list_any (λ (i : Judged). i.has_link) content

-- after the first inline of a paragraph, or inside it
abbrev pub further_in : Place → Place
further_in place = record place { opens_paragraph = false }

abbrev pub inside_link : Place → Place
inside_link place = record { heading = place.heading; opens_paragraph = false; in_opening_link = place.in_opening_link || place.opens_paragraph }

-- inlines, one after another
abbrev pub refusal_of_all : Place → (before : Option Face) → List Judged → Option Why
refusal_of_all place before [] = None
refusal_of_all place before (next ∷ others) = next.refusal place before (first_face others) <|> refusal_of_all (further_in place) (Some next.face) others

-- An edge of emphasis is wrong if it has no content, if that starts with whitespace, or if a plain character comes before it and it
-- doesn't start with one; and so at its end.
abbrev pub has_wrong_edge : Rules → (before : Option Face) → List Judged → (after : Option Face) → Bool
has_wrong_edge rules before content after =
    is_none (first_face content)
    || is_whitespace (first_of (first_face content))
    || is_plain rules (last_of before) && not (is_plain rules (first_of (first_face content)))
    || is_whitespace (last_of (last_face content))
    || is_plain rules (first_of after) && not (is_plain rules (last_of (last_face content)))

-- Emphasis is refused if it contains emphasis, directly follows emphasis, or has a wrong edge.
abbrev pub emphasis_reasons : Rules → List Judged → (before after : Option Face) → List (Bool × Why)
emphasis_reasons rules content before after =
    (hold_emphasis content, EmphasisNested) ∷ (is_emphasis before, EmphasisTouching) ∷ (has_wrong_edge rules before content after, EmphasisEdge) ∷ []

-- Emphasis as it is judged. Strikethrough is refused if the rules have none.
abbrev pub emphasis : Rules → (strike : Bool) → List Judged → Judged
emphasis rules strike content = record {
  face = EmphasisFace;
  has_emphasis = true;
  has_link = hold_link content;
  refusal = λ place before after.
      refused (emphasis_reasons rules content before after) <|> refused ((strike && not rules.strike, StrikeOff) ∷ []) <|> refusal_of_all (further_in place) None content;
}

-- `]:` in a link that is the first of a paragraph, which would be read as a definition
abbrev pub ends_a_label : Place → List ℕ → Bool
ends_a_label place text = place.in_opening_link && holds_word (codes "]:") text

-- the text is read as one tag, comment, instruction, declaration or CDATA section, and nothing else
abbrev pub is_one_tag : Rules → List ℕ → Bool
is_one_tag rules text = elim (at_angle rules text) [ Some (Tagged tag) ↦ is_empty tag.rest | Some (Addressed link) ↦ false | None ↦ false ]

-- A code span is refused if it has U+0000 or a line ending, is empty, directly follows another, or would end the label of a
-- definition.
abbrev pub code_reasons : Place → List ℕ → Option Face → List (Bool × Why)
code_reasons place text before = (has_nul text, Nul) ∷ (is_empty text || has_line_ending text || is_code before || ends_a_label place text, CodeSpan) ∷ []

-- Raw HTML is refused if it has U+0000 or a line ending, isn't one tag, starts a paragraph, directly follows a line break, or would
-- end the label of a definition.
abbrev pub html_reasons : Rules → Place → List ℕ → Option Face → List (Bool × Why)
html_reasons rules place text before =
    (has_nul text, Nul) ∷ (has_line_ending text || not (is_one_tag rules text) || place.opens_paragraph || is_break before || ends_a_label place text, RawHtml) ∷ []

-- A line break is refused in a heading, as the first or the last inline, and directly after another.
abbrev pub break_reasons : Place → (before after : Option Face) → List (Bool × Why)
break_reasons place before after = (place.heading || is_none before || is_none after || is_break before, LineBreak) ∷ []

-- A link is refused if its destination or title has U+0000, if it contains a link, or if the rules don't follow its address.
abbrev pub link_reasons : Rules → (dest title : List ℕ) → List Judged → List (Bool × Why)
link_reasons rules dest title content =
    (has_nul dest || has_nul title, Nul) ∷ (hold_link content, LinkInLink) ∷ (not (is_followed rules dest), AddressOff) ∷ []

-- An image is refused if its destination or title has U+0000, or if the rules don't follow its address.
abbrev pub image_reasons : Rules → (dest title : List ℕ) → List (Bool × Why)
image_reasons rules dest title = (has_nul dest || has_nul title, Nul) ∷ (not (is_followed rules dest), AddressOff) ∷ []

-- an inline without content
abbrev pub leaf : Face → (Place → (before after : Option Face) → List (Bool × Why)) → Judged
leaf face reasons = record { face = face; has_emphasis = false; has_link = false; refusal = λ place before after. refused (reasons place before after) }

-- One inline, given how each inline of its content is judged. A text is refused if it has U+0000, is empty, or directly follows
-- another.
abbrev pub inline_step : Rules → Inline-F Judged → Judged
inline_step rules (inline.Text text) =
    leaf (TextFace (first_character text) (last_character (reverse text))) (λ place before after. (has_nul text, Nul) ∷ (is_empty text || is_text before, Text) ∷ [])
inline_step rules (inline.Code text) = leaf CodeFace (λ place before after. code_reasons place text before)
inline_step rules (inline.Html text) = leaf OtherFace (λ place before after. html_reasons rules place text before)
inline_step rules inline.Soft = leaf BreakFace break_reasons
inline_step rules inline.Hard = leaf BreakFace break_reasons
inline_step rules (inline.Emph content) = emphasis rules false content
inline_step rules (inline.Strong content) = emphasis rules false content
inline_step rules (inline.Strike content) = emphasis rules true content
inline_step rules (inline.Link dest title content) = record {
  face = OtherFace;
  has_emphasis = hold_emphasis content;
  has_link = true;
  refusal = λ place before after. refused (link_reasons rules dest title content) <|> refusal_of_all (inside_link place) None content;
}
inline_step rules (inline.Image dest title content) = record {
  face = OtherFace;
  has_emphasis = hold_emphasis content;
  has_link = hold_link content;
  refusal = λ place before after. refused (image_reasons rules dest title) <|> refusal_of_all (further_in place) None content;
}

abbrev pub judged : Rules → Inline → Judged
judged rules = fold-Inline Judged (inline_step rules)

-- the content of a paragraph, and of a heading
abbrev pub of_paragraph : Place
of_paragraph = record { heading = false; opens_paragraph = true; in_opening_link = false }

abbrev pub of_heading : Place
of_heading = record { heading = true; opens_paragraph = false; in_opening_link = false }

-- the first reason against the content of a paragraph, in document order, if there is one
abbrev pub paragraph_refusal : Rules → List Inline → Option Why
paragraph_refusal rules content = refusal_of_all of_paragraph None (map (judged rules) content)

-- the first reason against the content of a heading, in document order, if there is one
abbrev pub heading_refusal : Rules → List Inline → Option Why
heading_refusal rules content = refusal_of_all of_heading None (map (judged rules) content)
