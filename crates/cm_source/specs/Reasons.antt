-- What the reasons against spelling a tree are called.
use Rattle.std.specs.Prelude.{ℕ, List, codes}
use Rattle.cm_source.specs.declared.why.Why.{Why}
use Rattle.cm_source.specs.declared.why.Why.TheVariants as why

-- the text of a reason
abbrev pub reason_text : Why → List ℕ
reason_text why.Definition = codes "a definition"
reason_text why.Nul = codes "U+0000"
reason_text why.Shape = codes "a malformed node"
reason_text why.Text = codes "an empty or divided text"
reason_text why.EmphasisNested = codes "emphasis in emphasis"
reason_text why.EmphasisTouching = codes "emphasis beside emphasis"
reason_text why.EmphasisEdge = codes "an edge of emphasis"
reason_text why.CodeSpan = codes "a code span"
reason_text why.RawHtml = codes "raw HTML"
reason_text why.LinkInLink = codes "a link in a link"
reason_text why.LineBreak = codes "a line break"
reason_text why.CodeText = codes "the text of a code block"
reason_text why.HtmlBlock = codes "an HTML block"
reason_text why.AdjacentLists = codes "two lists of one type side by side"
reason_text why.ItemBeginsWithList = codes "an item that begins with a list"
reason_text why.Looseness = codes "a loose or tight list"
reason_text why.StrikeOff = codes "strikethrough while it is off"
reason_text why.AddressOff = codes "an address that isn't followed"
reason_text why.InfoOff = codes "an info of several lines while raw HTML is off"
