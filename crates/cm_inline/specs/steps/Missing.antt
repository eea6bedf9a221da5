-- Words that are known to be nowhere in the rest of a source.
use Rattle.std.specs.Prelude.{◌≡◌, ℕ, ◌+◌, ◌*◌, ◌<◌, ◌≤◌, nat_lt, Bool, true, false, List, ◌++◌, length, drop, get_or, codes, Option, Some, None, ⊤, if◌then◌else◌}
use Rattle.std.specs.Option.{option_map_or}
use Rattle.std.specs.Str.{byte}
use Rattle.std.specs.Ordering.{nat_cmp}
use Rattle.std.specs.BTreeMap.{BTreeMap, get}
use Rattle.cm_text.specs.Rules.{Rules}
use Rattle.cm_text.specs.ReferenceReach.{reference_reach}
use Rattle.std.specs.Char.{is_ascii_alphabetic}
use Rattle.cm_scan.specs.spans.RawHtml.{beyond_word}
use Rattle.cm_scan.specs.spans.Reach.{html_reach, link_reach}
use Rattle.cm_scan.specs.spans.CodeSpans.{up_to_run}
use Rattle.cm_inline.specs.declared.missing_ends.Form.{Form}
use Rattle.cm_inline.specs.declared.missing_ends.Form.TheVariants.{Comment, Instruction, CharacterData, Declaration}
use Rattle.cm_inline.specs.declared.missing_ends.MissingEnds.{MissingEnds}

-- the words with which a form starts and ends
abbrev pub start_of : Form → List ℕ
start_of Comment = codes "<!--"
start_of Instruction = codes "<?"
start_of CharacterData = codes "<![CDATA["
start_of Declaration = codes "<!"

abbrev pub end_of : Form → List ℕ
end_of Comment = codes "-->"
end_of Instruction = codes "?>"
end_of CharacterData = codes "]]>"
end_of Declaration = codes ">"

-- A text starts with a form, but for its end. With the older rules a comment is over at the next `--`, and is none of the forms.
pub record Starts (older : Bool) (text : List ℕ) (form : Form) : Type 0 where
  pub rest : List ℕ
  pub is : text ≡ start_of form ++ rest
  pub strict : form ≡ Comment → older ≡ false
  pub letter : form ≡ Declaration → is_ascii_alphabetic (get_or rest 0 0) ≡ true

-- The form started at the place, if that is in the source, and its end is nowhere after that start.
pub record Lacks (source : List ℕ) (form : Form) (at : ℕ) : Type 0 where
  pub started : at < length source → (rest : List ℕ) × (drop at source ≡ start_of form ++ rest)
  pub missing : (later : ℕ) → at + length (start_of form) ≤ later → beyond_word (end_of form) (drop later source) ≡ None

-- where a form started whose end is missing, or the length of the source
abbrev pub missing_from : MissingEnds → Form → ℕ
missing_from ends Comment = ends.comment
missing_from ends Instruction = ends.instruction
missing_from ends CharacterData = ends.character_data
missing_from ends Declaration = ends.declaration

-- the same, once this form lacks its end
abbrev pub remembered : Form → ℕ → MissingEnds → MissingEnds
remembered Comment at ends = record { comment = at; instruction = ends.instruction; character_data = ends.character_data; declaration = ends.declaration; backticks = ends.backticks }
remembered Instruction at ends = record { comment = ends.comment; instruction = at; character_data = ends.character_data; declaration = ends.declaration; backticks = ends.backticks }
remembered CharacterData at ends = record { comment = ends.comment; instruction = ends.instruction; character_data = at; declaration = ends.declaration; backticks = ends.backticks }
remembered Declaration at ends = record { comment = ends.comment; instruction = ends.instruction; character_data = ends.character_data; declaration = at; backticks = ends.backticks }

-- after the last backtick string of this length that a map of them has, or the start where it has none
abbrev pub after_last : BTreeMap ℕ ℕ → ℕ → ℕ
after_last last count = option_map_or (λ end. end) (get nat_cmp last count) 0

-- a backtick string of a length follows each place before this one that has no backtick
abbrev pub FollowsUpTo : List ℕ → ℕ → ℕ → Type 0
FollowsUpTo source count end =
    (from : ℕ) → from < end → (get_or source from 0 ≡ byte "`" → ⊥) → up_to_run count false (drop from source) ≡ None → ⊥

-- The last backtick string of each length ends where the map says: none of its length follows that place, and one
-- follows each place before.
pub record AreLast (source : List ℕ) (last : BTreeMap ℕ ℕ) : Type 0 where
  pub none : (count : ℕ) → up_to_run count false (drop (after_last last count) source) ≡ None
  pub some : (count end : ℕ) → get nat_cmp last count ≡ Some end → FollowsUpTo source count end

abbrev pub AreLastIfKnown : List ℕ → Option (BTreeMap ℕ ℕ) → Type 0
AreLastIfKnown source None = ⊤
AreLastIfKnown source (Some last) = AreLast source last

-- What is known of this source is so.
pub record Knows (source : List ℕ) (ends : MissingEnds) : Type 0 where
  pub forms : (form : Form) → Lacks source form (missing_from ends form)
  pub backticks : AreLastIfKnown source ends.backticks

-- from some place no further on than this one, no backtick string of this length follows
abbrev pub NoneFrom : List ℕ → ℕ → ℕ → Type 0
NoneFrom source count start = (from : ℕ) × (from ≤ start) × (up_to_run count false (drop from source) ≡ None)

-- what is remembered of forms is before a place
abbrev pub IsPast : List ℕ → ℕ → MissingEnds → Type 0
IsPast source at ends = (form : Form) → missing_from ends form < length source → missing_from ends form < at

-- one search to the end of a source of this length, as long as none was in vain
unfoldable pub spare_from : (from len : ℕ) → ℕ
spare_from from len = if nat_lt from len then 0 else len

-- what the searches that may still be made in vain look at
abbrev pub spare : List ℕ → MissingEnds → ℕ
spare source ends =
    spare_from ends.comment (length source) + spare_from ends.instruction (length source) + spare_from ends.character_data (length source)
    + spare_from ends.declaration (length source)

-- the search in vain for the end of a code span, and that for the last backtick strings, as long as none was made
abbrev pub code_spare : List ℕ → MissingEnds → ℕ
code_spare source ends = elim ends.backticks as (λ _. ℕ) [ None ↦ 21 * length source + 16 | Some last ↦ 0 ]

-- what an autolink at a place looks at
abbrev pub link_room : List ℕ → ℕ → ℕ
link_room source at = 7 * link_reach (drop (at + 1) source) + 33

-- what raw HTML at a place looks at besides
abbrev pub html_room : Rules → List ℕ → ℕ → ℕ
html_room rules source at = 11 + html_reach rules.older (drop at source)

-- what a reference at a place looks at
abbrev pub reference_room : List ℕ → ℕ → ℕ
reference_room source at = 2 * reference_reach (drop (at + 1) source) + 2
