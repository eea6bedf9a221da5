-- What starts with `<` in a leaf's source.
use Rattle.std.specs.Prelude.{ℕ, ◌-◌, List, length, take, Option, Some, None}
use Rattle.std.specs.Option.{option_map}
use Rattle.cm_text.specs.Rules.{Rules}
use Rattle.cm_scan.specs.inlines.Links.{Reading}
use Rattle.cm_scan.specs.spans.RawHtml.{raw_html}
use Rattle.cm_scan.specs.spans.Autolinks.{Autolink, followed_autolink}

-- an autolink, or raw HTML
pub data Angled : Type 0 where
  Addressed : Autolink → Angled
  Tagged : Reading → Angled

-- what comes before the rest of a text
unfoldable pub before : List ℕ → List ℕ → List ℕ
before rest text = take (length text - length rest) text

-- what a `<` starts: an autolink whose address the rules follow, or else raw HTML as it is written (6.5 Autolinks, 6.6 Raw HTML)
unfoldable pub at_angle : Rules → List ℕ → Option Angled
at_angle rules text = elim (followed_autolink rules text) [
  | Some link ↦ Some (Addressed link)
  | None ↦ option_map (λ rest. Tagged (record { text = before rest text; rest = rest })) (raw_html rules text)
]
