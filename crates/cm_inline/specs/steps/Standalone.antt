-- Places in a source, and the HTML of an autolink.
use Rattle.std.specs.Prelude.{ℕ, Bool, ◌≤◌, List, [], ◌∷◌, ◌++◌, codes, if◌then◌else◌}
use Rattle.std.specs.Str.{IsCharBoundary}
use Rattle.cm_tree.specs.declared.tree.Inline.{Inline}
use Rattle.cm_tree.specs.declared.tree.Inline.TheVariants.{Text, Link}
use Rattle.cm_html.specs.Escape.{escape}
use Rattle.cm_html.specs.Html.{link_html}

-- the places part characters of the source
abbrev pub IsBetween : List ℕ → ℕ → ℕ → Type 0
IsBetween source from to = (from ≤ to) × IsCharBoundary source from × IsCharBoundary source to

-- an autolink, and its HTML
abbrev pub autolink : (is_address : Bool) → List ℕ → Inline
autolink is_address text = Link (if is_address then codes "mailto:" ++ text else text) [] (Text text ∷ [])

abbrev pub autolink_html : (is_address : Bool) → List ℕ → List ℕ
autolink_html is_address text = link_html (if is_address then codes "mailto:" ++ text else text) [] (escape text)
