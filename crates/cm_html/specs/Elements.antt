-- The tags of elements without attributes.
use Rattle.std.specs.Prelude.{ℕ, List, ◌++◌, codes}
use Rattle.cm_html.specs.declared.elements.Element.{Element}
use Rattle.cm_html.specs.declared.elements.Element.TheVariants.{Paragraph, Quote, Item, Code, Emph, Strong, Strike}

-- The start tag of an element. That of a block quote is followed by a line feed.
abbrev pub start_tag : Element → List ℕ
start_tag Paragraph = codes "<p>"
start_tag Quote = codes "<blockquote>\n"
start_tag Item = codes "<li>"
start_tag Code = codes "<code>"
start_tag Emph = codes "<em>"
start_tag Strong = codes "<strong>"
start_tag Strike = codes "<del>"

-- The end tag of an element. That of a block is followed by a line feed.
abbrev pub end_tag : Element → List ℕ
end_tag Paragraph = codes "</p>\n"
end_tag Quote = codes "</blockquote>\n"
end_tag Item = codes "</li>\n"
end_tag Code = codes "</code>"
end_tag Emph = codes "</em>"
end_tag Strong = codes "</strong>"
end_tag Strike = codes "</del>"

-- an element with this content
abbrev pub element_html : Element → List ℕ → List ℕ
element_html element html = start_tag element ++ html ++ end_tag element
