-- The alternative text of images, as a walk over their content adds it.
use Rattle.std.specs.Prelude.{ℕ, List, map}
use Rattle.cm_tree.specs.declared.tree.Inline.{Inline}
use Rattle.cm_html.specs.Html.{join_plain, rendered}

-- that of an image with this content
abbrev pub alternative_text : List Inline → List ℕ
alternative_text inlines = join_plain (map rendered inlines)
