-- Parts of HTML that functions write.
use Rattle.std.specs.Prelude.{ℕ, Bool, true, List, ◌++◌, codes}
use Rattle.cm_html.specs.declared.elements.Element.TheVariants.{Paragraph, Quote, Item, Code}
use Rattle.cm_html.specs.Elements.{element_html}
use Rattle.cm_html.specs.Escape.{escape}
use Rattle.cm_html.specs.Html.{Written, inside_from}

abbrev pub code_span_html : List ℕ → List ℕ
code_span_html text = element_html Code (escape text)

abbrev pub paragraph_html : List ℕ → List ℕ
paragraph_html html = element_html Paragraph html

abbrev pub quote_html : List ℕ → List ℕ
quote_html html = element_html Quote html

-- the start of a code block with a class word
abbrev pub class_start : List ℕ → List ℕ
class_start word = codes "<pre><code class=\"language-" ++ escape word ++ codes "\">"

-- the inside of an item
abbrev pub inside : (tight : Bool) → List Written → List ℕ
inside tight ws = inside_from tight true ws

abbrev pub item_html : Bool → List Written → List ℕ
item_html tight item = element_html Item (inside tight item)
