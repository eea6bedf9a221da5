-- Texts and soft breaks share text nodes: what is written of a list of inlines from a place on.
use Rattle.std.proofs.Common.{◌≡◌, ℕ, Bool, true, false, cond, ◌||◌, List, [], ◌∷◌, ◌++◌, codes, refl, ap, ap₂, sym, ◌∙◌, append_assoc}
use Rattle.json.specs.Json.{Json, Items, no_items, item}
use Rattle.json.specs.Print.{escape, escape_byte}
use Rattle.cm_json.specs.declared.inlines.InlinePlace.TheVariants.{AfterNode}
use Rattle.cm_json.specs.Mdast.{Inlined, literal, is_empty, ends_in_line_feed, goes_on, after_text, nodes_after}
use Rattle.cm_json.specs.Printing.{text, items_text, comma}
use Rattle.cm_json.specs.steps.Places.{text_front, before_node, before_joined, after_all, after_joined, left, place_after, opened}

escape-append : (xs ys : List ℕ) → escape (xs ++ ys) ≡ escape xs ++ escape ys
escape-append [] ys = refl
escape-append (x ∷ xs) ys = ap (λ l. escape_byte x ++ l) (escape-append xs ys) ∙ sym (append_assoc (escape_byte x) (escape xs) (escape ys))

pub ends-append : (xs : List ℕ) (b : ℕ) (bs : List ℕ) → ends_in_line_feed (xs ++ b ∷ bs) ≡ ends_in_line_feed (b ∷ bs)
unfolding ends_in_line_feed
ends-append [] b bs = refl
ends-append (x ∷ []) b bs = refl
ends-append (x ∷ y ∷ ys) b bs = ends-append (y ∷ ys) b bs

-- a text node before others
text-item : (follows : Bool) (b : ℕ) (bs : List ℕ) (rest : Items)
    → items_text follows (item (literal (codes "text") (b ∷ bs)) rest) ≡ opened follows (b ∷ bs) ++ (codes "\"}" ++ items_text true rest)
unfolding escape_byte
text-item follows b bs rest =
    let e = escape (b ∷ bs) in
    let r = items_text true rest in
    append_assoc (comma follows) (text_front ++ ((e ++ codes "\"") ++ codes "}")) r
    ∙ ap (λ t. comma follows ++ (text_front ++ t)) (append_assoc (e ++ codes "\"") (codes "}") r ∙ append_assoc e (codes "\"") (codes "}" ++ r))
    ∙ ap (λ t. comma follows ++ t) (sym (append_assoc text_front e (codes "\"}" ++ r)))
    ∙ sym (append_assoc (comma follows) (text_front ++ e) (codes "\"}" ++ r))

all-after : (is_break : Bool) → codes "\"}]" ≡ after_all (after_joined is_break)
all-after true = refl
all-after false = refl

node-before : (is_break : Bool) → codes "\"}," ≡ before_node (after_joined is_break)
node-before true = refl
node-before false = refl

-- a text or a soft break that goes on, after a text or a soft break
goes-on : (before is_break : Bool) → (before || is_break) ≡ true → before_joined is_break (after_joined before) ≡ []
goes-on true is_break on = refl
goes-on false true on = refl
goes-on false false on = cc

-- one that doesn't is a text after a text
goes-apart : (before is_break : Bool) → (before || is_break) ≡ false → before_joined is_break (after_joined before) ≡ codes "\"}," ++ text_front
goes-apart true is_break apart = cc
goes-apart false true apart = cc
goes-apart false false apart = refl

-- the last of them
none-left : (described follows : Bool) (begun : List ℕ) → items_text follows (after_text begun no_items) ≡ opened follows begun ++ left described (place_after follows begun) []
none-left described true [] = refl
none-left described false [] = refl
none-left described follows (b ∷ bs) = text-item follows b bs no_items ∙ ap (λ t. opened follows (b ∷ bs) ++ t) (all-after (ends_in_line_feed (b ∷ bs)))

abbrev IsLeft : (described : Bool) → List Inlined → Type 0
IsLeft described es = (follows : Bool) (begun : List ℕ) → items_text follows (nodes_after described begun es) ≡ opened follows begun ++ left described (place_after follows begun) es

-- a node of its own
own-left : (described : Bool) (v : Json) (more : List Inlined) → IsLeft described more → (follows : Bool) (begun : List ℕ)
    → items_text follows (after_text begun (item v (nodes_after described [] more)))
    ≡ opened follows begun ++ (before_node (place_after follows begun) ++ (text v ++ left described AfterNode more))
own-left described v more is true [] = ap (λ t. codes "," ++ (text v ++ t)) (is true [])
own-left described v more is false [] = ap (λ t. text v ++ t) (is true [])
own-left described v more is follows (b ∷ bs) =
    text-item follows b bs (item v (nodes_after described [] more))
    ∙ ap (λ t. opened follows (b ∷ bs) ++ (codes "\"}," ++ (text v ++ t))) (is true [])
    ∙ ap (λ t. opened follows (b ∷ bs) ++ (t ++ (text v ++ left described AfterNode more))) (node-before (ends_in_line_feed (b ∷ bs)))

-- in the text node that is open
on-left : (described : Bool) (j : ℕ) (js : List ℕ) (more : List Inlined) → IsLeft described more → (follows : Bool) (begun : List ℕ) → goes_on begun (j ∷ js) ≡ true
    → items_text follows (nodes_after described (begun ++ j ∷ js) more)
    ≡ opened follows begun ++ (before_joined (ends_in_line_feed (j ∷ js)) (place_after follows begun) ++ (escape (j ∷ js) ++ left described (after_joined (ends_in_line_feed (j ∷ js))) more))
on-left described j js more is true [] on =
    is true (j ∷ js) ∙ ap (λ t. codes "," ++ t) (append_assoc text_front (escape (j ∷ js)) (left described (after_joined (ends_in_line_feed (j ∷ js))) more))
on-left described j js more is false [] on =
    is false (j ∷ js) ∙ append_assoc text_front (escape (j ∷ js)) (left described (after_joined (ends_in_line_feed (j ∷ js))) more)
on-left described j js more is follows (b ∷ bs) on =
    let ended = ends_in_line_feed (j ∷ js) in
    let rest = left described (after_joined ended) more in
    is follows ((b ∷ bs) ++ j ∷ js)
    ∙ ap₂ (λ e p. (comma follows ++ (text_front ++ e)) ++ left described p more) (escape-append (b ∷ bs) (j ∷ js)) (ap after_joined (ends-append (b ∷ bs) j js))
    ∙ ap (λ t. (comma follows ++ t) ++ rest) (sym (append_assoc text_front (escape (b ∷ bs)) (escape (j ∷ js))))
    ∙ ap (λ t. t ++ rest) (sym (append_assoc (comma follows) (text_front ++ escape (b ∷ bs)) (escape (j ∷ js))))
    ∙ append_assoc (opened follows (b ∷ bs)) (escape (j ∷ js)) rest
    ∙ ap (λ t. opened follows (b ∷ bs) ++ (t ++ (escape (j ∷ js) ++ rest))) (sym (goes-on (ends_in_line_feed (b ∷ bs)) ended on))

-- in a new text node
apart-left : (described : Bool) (j : ℕ) (js : List ℕ) (more : List Inlined) → IsLeft described more → (follows : Bool) (begun : List ℕ) → goes_on begun (j ∷ js) ≡ false
    → items_text follows (after_text begun (nodes_after described (j ∷ js) more))
    ≡ opened follows begun ++ (before_joined (ends_in_line_feed (j ∷ js)) (place_after follows begun) ++ (escape (j ∷ js) ++ left described (after_joined (ends_in_line_feed (j ∷ js))) more))
apart-left described j js more is follows [] apart = cc
apart-left described j js more is follows (b ∷ bs) apart =
    let ended = ends_in_line_feed (j ∷ js) in
    let rest = left described (after_joined ended) more in
    text-item follows b bs (nodes_after described (j ∷ js) more)
    ∙ ap (λ t. opened follows (b ∷ bs) ++ (codes "\"}" ++ t)) (is true (j ∷ js) ∙ ap (λ t. codes "," ++ t) (append_assoc text_front (escape (j ∷ js)) rest))
    ∙ ap (λ t. opened follows (b ∷ bs) ++ (t ++ (escape (j ∷ js) ++ rest))) (sym (goes-apart (ends_in_line_feed (b ∷ bs)) ended apart))

-- the next one
next-left : (described : Bool) (joins : List ℕ) (v : Json) (more : List Inlined) → IsLeft described more → (follows : Bool) (begun : List ℕ)
    → items_text follows (cond (is_empty joins) (after_text begun (item v (nodes_after described [] more)))
    (cond (goes_on begun joins) (nodes_after described (begun ++ joins) more) (after_text begun (nodes_after described joins more))))
    ≡ opened follows begun ++ cond (is_empty joins) (before_node (place_after follows begun) ++ (text v ++ left described AfterNode more))
    (before_joined (ends_in_line_feed joins) (place_after follows begun) ++ (escape joins ++ left described (after_joined (ends_in_line_feed joins)) more))
next-left described [] v more is follows begun = own-left described v more is follows begun
next-left described (j ∷ js) v more is follows begun =
    elim (goes_on begun (j ∷ js)) as (λ b. goes_on begun (j ∷ js) ≡ b → items_text follows (cond b (nodes_after described (begun ++ j ∷ js) more) (after_text begun (nodes_after described (j ∷ js) more)))
    ≡ opened follows begun ++ (before_joined (ends_in_line_feed (j ∷ js)) (place_after follows begun) ++ (escape (j ∷ js) ++ left described (after_joined (ends_in_line_feed (j ∷ js))) more))) [
      | true ↦ λ e. on-left described j js more is follows begun e
      | false ↦ λ e. apart-left described j js more is follows begun e
    ] refl

pub is-left : (described : Bool) (es : List Inlined) → IsLeft described es
is-left described [] follows begun = none-left described follows begun
is-left described (one ∷ more) follows begun = next-left described one.joins (one.value described) more (is-left described more) follows begun
