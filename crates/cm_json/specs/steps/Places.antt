-- What is written of a list of inlines from a place on.
use Rattle.std.specs.Prelude.{ℕ, Bool, true, false, List, [], ◌∷◌, ◌++◌, codes, cond}
use Rattle.json.specs.Print.{escape}
use Rattle.cm_json.specs.declared.inlines.InlinePlace.{InlinePlace}
use Rattle.cm_json.specs.declared.inlines.InlinePlace.TheVariants.{First, AfterNode, AfterText, AfterBreak}
use Rattle.cm_json.specs.Mdast.{Inlined, is_empty, ends_in_line_feed}
use Rattle.cm_json.specs.Printing.{text, comma}

-- the start of a text node
abbrev pub text_front : List ℕ
text_front = codes "{\"type\":\"text\",\"value\":\""

abbrev pub before_node : InlinePlace → List ℕ
before_node First = []
before_node AfterNode = codes ","
before_node AfterText = codes "\"},"
before_node AfterBreak = codes "\"},"

-- before a text in a text node, or before a soft break
abbrev pub before_joined : (is_break : Bool) → InlinePlace → List ℕ
before_joined is_break First = text_front
before_joined is_break AfterNode = codes "," ++ text_front
before_joined true AfterText = []
before_joined false AfterText = codes "\"}," ++ text_front
before_joined is_break AfterBreak = []

abbrev pub after_all : InlinePlace → List ℕ
after_all First = codes "]"
after_all AfterNode = codes "]"
after_all AfterText = codes "\"}]"
after_all AfterBreak = codes "\"}]"

-- the place after a text in a text node, or after a soft break
abbrev pub after_joined : (is_break : Bool) → InlinePlace
after_joined true = AfterBreak
after_joined false = AfterText

-- these inlines, written from a place on, with the closing bracket
abbrev pub left : (described : Bool) → InlinePlace → List Inlined → List ℕ
left described place [] = after_all place
left described place (one ∷ more) =
    cond (is_empty one.joins) (before_node place ++ (text (one.value described) ++ left described AfterNode more))
    (before_joined (ends_in_line_feed one.joins) place ++ (escape one.joins ++ left described (after_joined (ends_in_line_feed one.joins)) more))

-- the place after the nodes that follow, or do not, and an open text
abbrev pub place_after : (follows : Bool) → (begun : List ℕ) → InlinePlace
place_after true [] = AfterNode
place_after false [] = First
place_after follows (b ∷ bs) = after_joined (ends_in_line_feed (b ∷ bs))

-- what has been written of an open text node
abbrev pub opened : (follows : Bool) → (begun : List ℕ) → List ℕ
opened follows [] = []
opened follows (b ∷ bs) = comma follows ++ (text_front ++ escape (b ∷ bs))
