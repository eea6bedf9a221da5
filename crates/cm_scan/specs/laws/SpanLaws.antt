-- Laws of raw HTML, autolinks and code spans, whatever follows the text.
use Rattle.std.specs.Prelude.{◌≡◌, ◌≤◌, ◌*◌, ℕ, length, Bool, true, not, List, [], ◌∷◌, ◌++◌, Some, None}
use Rattle.cm_text.specs.Rules.{Rules, profile, older_rules}
use Rattle.cm_scan.specs.Words.{begins_with}
use Rattle.cm_scan.specs.inlines.Links.{Reading}
use Rattle.cm_scan.specs.spans.RawHtml.{beyond_word, raw_html}
use Rattle.cm_scan.specs.spans.Autolinks.{Autolink, autolink}
use Rattle.cm_scan.specs.spans.CodeSpans.{code_span}
use Rattle.cm_scan.specs.spans.Reach.{tag_reaches, link_reaches}
use Rattle.cm_scan.specs.spans.Angles.{Angled, Addressed, Tagged, at_angle}

-- Raw HTML at the start of a text is the same with more after the text.
abbrev pub RawHtmlGoesOn : Type 0
RawHtmlGoesOn = (rules : Rules) (text rest beyond : List ℕ) → raw_html rules text ≡ Some rest → raw_html rules (text ++ beyond) ≡ Some (rest ++ beyond)

-- A text that is raw HTML as a whole is so with anything after it.
abbrev pub WholeRawHtmlGoesOn : Type 0
WholeRawHtmlGoesOn = (rules : Rules) (text beyond : List ℕ) → raw_html rules text ≡ Some [] → raw_html rules (text ++ beyond) ≡ Some beyond

-- An autolink at the start of a text is the same with more after the text.
abbrev pub AutolinkGoesOn : Type 0
AutolinkGoesOn = (text beyond : List ℕ) (link : Autolink) → autolink text ≡ Some link
    → autolink (text ++ beyond) ≡ Some (record { destination = link.destination; text = link.text; rest = link.rest ++ beyond })

-- Raw HTML that is no autolink doesn't become one with more after the text.
abbrev pub NoAutolinkGoesOn : Type 0
NoAutolinkGoesOn = (rules : Rules) (text rest beyond : List ℕ) → raw_html rules text ≡ Some rest → autolink text ≡ None → autolink (text ++ beyond) ≡ None

-- what follows doesn't start with a backtick, if nothing is left of the text
abbrev pub keeps_run : List ℕ → List ℕ → Bool
keeps_run [] beyond = not (begins_with 96 beyond)
keeps_run (b ∷ bs) beyond = true

-- A code span at the start of a text is the same with more after the text, unless that makes its last
-- backtick string longer.
abbrev pub CodeSpanGoesOn : Type 0
CodeSpanGoesOn = (text beyond : List ℕ) (span : Reading) → code_span text ≡ Some span → keeps_run span.rest beyond ≡ true
    → code_span (text ++ beyond) ≡ Some (record { text = span.text; rest = span.rest ++ beyond })

-- the same autolink or raw HTML, with more left after it
abbrev pub longer_angled : Angled → List ℕ → Angled
longer_angled (Addressed link) beyond = Addressed (record { destination = link.destination; text = link.text; rest = link.rest ++ beyond })
longer_angled (Tagged tag) beyond = Tagged (record { text = tag.text; rest = tag.rest ++ beyond })

-- What a `<` starts is the same with more after the text.
abbrev pub AngledGoesOn : Type 0
AngledGoesOn = (rules : Rules) (text beyond : List ℕ) (angled : Angled) → at_angle rules text ≡ Some angled → at_angle rules (text ++ beyond) ≡ Some (longer_angled angled beyond)

-- A text that `<` starts and that is raw HTML as a whole is so with anything after it.
abbrev pub WholeTagGoesOn : Type 0
WholeTagGoesOn = (rules : Rules) (text beyond : List ℕ) → at_angle rules text ≡ Some (Tagged (record { text = text; rest = [] }))
    → at_angle rules (text ++ beyond) ≡ Some (Tagged (record { text = text; rest = beyond }))

-- Raw HTML with the older rules is raw HTML with the profile, and ends at the same place.
abbrev pub OlderIsRead : Type 0
OlderIsRead = (text rest : List ℕ) → raw_html older_rules text ≡ Some rest → raw_html profile text ≡ Some rest

-- A text that starts with the one word is no raw HTML if it doesn't contain the other.
abbrev pub NeedsEnd : List ℕ → List ℕ → Type 0
NeedsEnd start end = (rules : Rules) (beyond : List ℕ) → beyond_word end (start ++ beyond) ≡ None → raw_html rules (start ++ beyond) ≡ None

-- Tags reach over each byte at most three times, wherever they start: one outside of quotation marks, and one in each kind of them.
abbrev pub TagsReachThrice : Type 0
TagsReachThrice = (text : List ℕ) → tag_reaches text ≤ 3 * length text

-- Autolinks reach over each byte at most once, wherever they start: an autolink ends where the next one starts.
abbrev pub AutolinksReachOnce : Type 0
AutolinksReachOnce = (text : List ℕ) → link_reaches text ≤ length text
