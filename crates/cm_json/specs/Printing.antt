-- How a value of JSON is written, part by part.
use Rattle.std.specs.Prelude.{ℕ, Bool, true, false, List, [], ◌++◌, codes, cond}
use Rattle.json.specs.Json.{Json, null, boolean, number, string, array, object, Items, no_items, item, Members, no_members, member}
use Rattle.json.specs.Print.{escape}

abbrev pub between_quotes : List ℕ → List ℕ
between_quotes s = codes "\"" ++ escape s ++ codes "\""

-- a comma, if there is a value before
abbrev pub comma : Bool → List ℕ
comma follows = cond follows (codes ",") []

abbrev pub truth : Bool → List ℕ
truth true = codes "true"
truth false = codes "false"

abbrev mutual
  pub text : Json → List ℕ
  text null = codes "null"
  text (boolean b) = truth b
  text (number s) = s
  text (string s) = between_quotes s
  text (array js) = codes "[" ++ items_text false js
  text (object ms) = codes "{" ++ members_text false ms

  -- the values of an array with its closing bracket; the mark says whether there are values before
  pub items_text : Bool → Items → List ℕ
  items_text follows no_items = codes "]"
  items_text follows (item j js) = comma follows ++ text j ++ items_text true js

  pub members_text : Bool → Members → List ℕ
  members_text follows no_members = codes "}"
  members_text follows (member k j ms) = comma follows ++ between_quotes k ++ codes ":" ++ text j ++ members_text true ms
