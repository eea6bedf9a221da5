-- Blocks are told by their nodes: each is found again, and so are the lines of its leaves.
use Rattle.std.proofs.Common.{◌≡◌, ℕ, zero, suc, ◌+◌, ◌≤◌, ◌<◌, ◌^◌, ◌==◌, nat_lt, Bool, true, false, cond, ◌&&◌, not, List, [], ◌∷◌, ◌++◌, length, length-drop, take, drop, codes, map, refl, ap, ap₂, sym, subst, ◌∙◌, arith}
use Rattle.std.proofs.lemmas.Fmt.{decimal_is_IsNumeral}
use Rattle.std.specs.Str.Parse.{digits_value}
use Rattle.std.specs.List.{position_or_len, list_all}
use Rattle.cm_text.specs.Characters.{is_space_or_tab}
use Rattle.json.specs.Json.{Json, boolean, number, string, array, object, Items, no_items, item, Members, no_members, member}
use Rattle.cm_tree.specs.declared.tree.ListKind.{ListKind}
use Rattle.cm_tree.specs.declared.tree.ListKind.TheVariants.{Dash, Plus, Star, Dot, Paren}
use Rattle.cm_tree.specs.declared.tree.Block.{Block, Block-F, map-Block}
use Rattle.cm_tree.specs.declared.tree.Block.TheOpen as block
use Rattle.cm_tree.specs.declared.tree.Block.TheVariants.{Paragraph, Heading, Code, Html, Break, Definition, Quote, List as ListBlock}
use Rattle.cm_tree.specs.declared.tree.Owner.{Owner}
use Rattle.cm_json.specs.Mdast.{optional, count, lines, final_newline, info_member, ends_in_line_feed, is_plain_info, without_line_feed, language, meta, skip_spaces, starts_without_space, order, block_step}
use Rattle.json.specs.Tree.{HasNumbers, ItemsHaveNumbers, MembersHaveNumbers}
use Rattle.cm_tree.specs.declared.tree.Owner.TheVariants.{Leaf, Marker, Blank}
use Rattle.cm_json.specs.Mdast.{leaf, leaf_start, leaf_end, run_length, has_leaf, is_not_of}
use Rattle.std.proofs.lemmas.Bool.{ltb-true}
use Rattle.json.proofs.Printed.Decimals.{IsNumber-decimal}
use Rattle.cm_tree.specs.HeadingLevels.{all_of}
use Rattle.cm_tree.specs.declared.tree.Block.TheVariants.{outs-Paragraph, outs-Heading, outs-Code, outs-Html, outs-Break, outs-Definition, outs-Quote, outs-List}
use Rattle.cm_tree.specs.declared.tree.Block.TheViews.{roll-Block}
use Rattle.cm_tree.specs.declared.tree.Block.TheFolds.{fold-Block, ind-Block, fold_out-Block}
use Rattle.cm_scan.specs.laws.PartLaws.{leaves_step, total, total_of_all}
use Rattle.cm_json.specs.Mdast.{Placed, placed, all_placed, list_item, node, children, spread_member, resource, valued, inline_nodes, raw_label}
use Rattle.cm_json.specs.SameDocuments.{is_start_in_range, range_step, is_in_range}
use Rattle.cm_json.proofs.lemmas.Numbers.{leaf-numbers, list-numbers, optional-numbers, inlines-numbers, info-numbers, label-numbers, final_newline-numbers}
use Rattle.std.specs.Str.{bytes_eq}
use Rattle.std.proofs.lemmas.Slice.Eq.{bytes_eq-Decides}
use Rattle.cm_text.specs.Labels.{fold_label}
use Rattle.cm_text.specs.Unescaping.{unescape}
use Rattle.cm_json.proofs.lemmas.OwnersBack.{runs, run_end}
use Rattle.cm_json.proofs.lemmas.InlinesBack.{optional_back, optional-back, first, inlines_back, inlines-back}
use Rattle.cm_tree.proofs.lemmas.BlockFolds as block_fold

-- ---- what a node is of

abbrev pub count_back : Json → ℕ
count_back (number s) = digits_value 10 s
count_back _ = 0

-- by the first byte of its marker, and the number of its first item
abbrev kind_back : ℕ → Json → ListKind
kind_back marker start = cond (marker == 45) Dash (cond (marker == 43) Plus (cond (marker == 42) Star (cond (marker == 46) (Dot (count_back start)) (Paren (count_back start)))))

abbrev joined : List ℕ → List ℕ → List ℕ
joined lang [] = lang
joined lang (b ∷ bs) = lang ++ 32 ∷ b ∷ bs

abbrev info_back : List ℕ → List ℕ → Members → List ℕ
info_back lang meta (member k (string info) more) = info
info_back lang meta _ = joined lang meta

-- by what `data` has of the label
abbrev label_back : Members → List ℕ → List ℕ
label_back (member k (string raw) more) label = raw
label_back _ label = label

abbrev ended_back : Members → Bool
ended_back no_members = true
ended_back (member k (boolean b) more) = b
ended_back (member k _ more) = ended_back more

abbrev value_back : Bool → List ℕ → List ℕ
value_back ended value = cond ended (value ++ 10 ∷ []) value

abbrev mutual
  pub block_back : Json → Block
  block_back (object (member a t (member b (array js) no_members))) = Quote (blocks_back js)
  block_back (object (member a t (member b (object told) no_members))) = Break
  block_back (object (member a t (member b told (member c (array js) no_members)))) = Paragraph (inlines_back js)
  block_back (object (member a t (member b (object (member c ls told)) (member d (string value) no_members)))) = Html (value_back (ended_back told) value)
  block_back (object (member a t (member b told (member c level (member d (array js) no_members))))) = Heading (count_back level) (inlines_back js)
  block_back (object (member a t (member b (object (member c ls told)) (member d lang (member e meta (member f (string value) no_members)))))) =
      Code (info_back (optional_back lang) (optional_back meta) told) (value_back (ended_back told) value)
  block_back (object (member a t (member b (object (member c ls told)) (member d (string id) (member e (string label) (member f (string dest) (member g title no_members))))))) = Definition (label_back told label) dest (optional_back title)
  block_back (object (member a t (member b (object (member m (string marker) no_members)) (member c (boolean ordered) (member d start (member e (boolean spread) (member f (array js) no_members))))))) =
      ListBlock (kind_back (first marker) start) (not spread) (items_back js)
  block_back _ = Break

  pub blocks_back : Items → List Block
  blocks_back no_items = []
  blocks_back (item j js) = block_back j ∷ blocks_back js

  pub items_back : Items → List (List Block)
  items_back no_items = []
  items_back (item (object (member a t (member b spread (member c (array js) no_members)))) more) = blocks_back js ∷ items_back more
  items_back (item _ more) = [] ∷ items_back more

-- the lines of its leaves, the first and the last of each
abbrev mutual
  pub spans_back : Json → List (ℕ × ℕ)
  spans_back (object (member a t (member b (array js) no_members))) = all_spans js
  spans_back (object (member a t (member b (object (member c (array (item s (item e no_items))) told)) more))) = (count_back s, count_back e) ∷ []
  spans_back (object (member a t (member b (object (member m (string marker) no_members)) (member c ordered (member d start (member e spread (member f (array js) no_members))))))) = item_spans js
  spans_back _ = []

  pub all_spans : Items → List (ℕ × ℕ)
  all_spans no_items = []
  all_spans (item j js) = spans_back j ++ all_spans js

  pub item_spans : Items → List (ℕ × ℕ)
  item_spans no_items = []
  item_spans (item (object (member a t (member b spread (member c (array js) no_members)))) more) = all_spans js ++ item_spans more
  item_spans (item _ more) = item_spans more

-- ---- parts of nodes come back

pub count-back : (n : ℕ) → n < 2 ^ 64 → count_back (count n) ≡ n
count-back n small = (decimal_is_IsNumeral n small).1

ends-back : (text : List ℕ) → ends_in_line_feed text ≡ true → without_line_feed text ++ 10 ∷ [] ≡ text
unfolding ends_in_line_feed without_line_feed
ends-back [] ends = cc
ends-back (b ∷ []) ends = ap (λ t. cond t [] (b ∷ []) ++ 10 ∷ []) ends ∙ ap (λ c. c ∷ []) (grind arith)
ends-back (b ∷ c ∷ bs) ends = ap (λ t. b ∷ t) (ends-back (c ∷ bs) ends)

unended-back : (text : List ℕ) → ends_in_line_feed text ≡ false → without_line_feed text ≡ text
unfolding ends_in_line_feed without_line_feed
unended-back [] ends = refl
unended-back (b ∷ []) ends = ap (λ t. cond t [] (b ∷ [])) ends
unended-back (b ∷ c ∷ bs) ends = ap (λ t. b ∷ t) (unended-back (c ∷ bs) ends)

value-back : (text : List ℕ) → value_back (ended_back (final_newline text)) (without_line_feed text) ≡ text
value-back text =
    elim (ends_in_line_feed text) as (λ b. ends_in_line_feed text ≡ b → value_back (ended_back (cond b no_members (member (codes "finalNewline") (boolean false) no_members))) (without_line_feed text) ≡ text) [
      | true ↦ λ e. ends-back text e
      | false ↦ λ e. unended-back text e
    ] refl

ended-info : (info : List ℕ) (told : Members) → ended_back (info_member info told) ≡ ended_back told
ended-info info told = elim (is_plain_info info) as (λ b. ended_back (cond b told (member (codes "info") (string info) told)) ≡ ended_back told) [ true ↦ refl | false ↦ refl ]

-- what a language and what follows it make

place-next : (b : ℕ) (bs : List ℕ) → is_space_or_tab b ≡ false → position_or_len is_space_or_tab (b ∷ bs) ≡ suc (position_or_len is_space_or_tab bs)
place-next b bs other = grind arith

place-first : (b : ℕ) (bs : List ℕ) → is_space_or_tab b ≡ true → position_or_len is_space_or_tab (b ∷ bs) ≡ 0
place-first b bs space = grind arith

language-next : (b : ℕ) (bs : List ℕ) → is_space_or_tab b ≡ false → language (b ∷ bs) ≡ b ∷ language bs
unfolding language
language-next b bs other = ap (λ n. take n (b ∷ bs)) (place-next b bs other)

meta-next : (b : ℕ) (bs : List ℕ) → is_space_or_tab b ≡ false → meta (b ∷ bs) ≡ meta bs
unfolding meta
meta-next b bs other =
    let next : position_or_len is_space_or_tab (b ∷ bs) + 1 ≡ suc (position_or_len is_space_or_tab bs + 1) = omega (arith, place-next b bs other) in
    ap (λ n. skip_spaces (drop n (b ∷ bs))) next

joined-next : (b : ℕ) (lang meta : List ℕ) → joined (b ∷ lang) meta ≡ b ∷ joined lang meta
joined-next b lang [] = refl
joined-next b lang (c ∷ cs) = refl

without-space : (bs : List ℕ) → starts_without_space bs ≡ true → joined [] (skip_spaces bs) ≡ 32 ∷ bs
unfolding skip_spaces
without-space [] starts = cc
without-space (b ∷ bs) starts =
    let other : is_space_or_tab b ≡ false = grind arith in
    ap (λ t. joined [] (cond t (skip_spaces bs) (b ∷ bs))) other

joined-space : (b : ℕ) (bs : List ℕ) → is_space_or_tab b ≡ true → (b == 32 && starts_without_space bs) ≡ true → joined (language (b ∷ bs)) (meta (b ∷ bs)) ≡ b ∷ bs
unfolding language meta
joined-space b bs space plain =
    let is : b ≡ 32 = grind arith in
    let starts : starts_without_space bs ≡ true = grind arith in
    ap (λ n. joined (take n (b ∷ bs)) (skip_spaces (drop (n + 1) (b ∷ bs)))) (place-first b bs space)
    ∙ without-space bs starts
    ∙ ap (λ c. c ∷ bs) (sym is)

empty-back : joined (language []) (meta []) ≡ []
unfolding language meta skip_spaces
empty-back = refl

joined-back : (info : List ℕ) → is_plain_info info ≡ true → joined (language info) (meta info) ≡ info
unfolding is_plain_info
joined-back [] plain = empty-back
joined-back (b ∷ bs) plain = elim (is_space_or_tab b) as (λ t. is_space_or_tab b ≡ t → joined (language (b ∷ bs)) (meta (b ∷ bs)) ≡ b ∷ bs) [
  | true ↦ λ e. joined-space b bs e (sym (ap (λ t. cond t (b == 32 && starts_without_space bs) (is_plain_info bs)) e) ∙ plain)
  | false ↦ λ e.
      ap₂ joined (language-next b bs e) (meta-next b bs e)
      ∙ joined-next b (language bs) (meta bs)
      ∙ ap (λ t. b ∷ t) (joined-back bs (sym (ap (λ t. cond t (b == 32 && starts_without_space bs) (is_plain_info bs)) e) ∙ plain))
] refl

label-back : (label : List ℕ) → label_back (raw_label label) (unescape label) ≡ label
label-back label = elim (bytes_eq (unescape label) label) as (λ b. bytes_eq (unescape label) label ≡ b → label_back (cond b no_members (member (codes "label") (string label) no_members)) (unescape label) ≡ label) [
  | true ↦ λ e. (bytes_eq-Decides (unescape label) label).0 e
  | false ↦ λ e. refl
] refl

newline-joined : (lang meta text : List ℕ) → info_back lang meta (final_newline text) ≡ joined lang meta
newline-joined lang meta text =
    elim (ends_in_line_feed text) as (λ b. info_back lang meta (cond b no_members (member (codes "finalNewline") (boolean false) no_members)) ≡ joined lang meta) [ true ↦ refl | false ↦ refl ]

info-back : (info text : List ℕ) → info_back (optional_back (optional (language info))) (optional_back (optional (meta info))) (info_member info (final_newline text)) ≡ info
info-back info text =
    ap₂ (λ lang meta. info_back lang meta (info_member info (final_newline text))) (optional-back (language info)) (optional-back (meta info))
    ∙ (elim (is_plain_info info) as (λ b. is_plain_info info ≡ b → info_back (language info) (meta info) (cond b (final_newline text) (member (codes "info") (string info) (final_newline text))) ≡ info) [
      | true ↦ λ e. newline-joined (language info) (meta info) text ∙ joined-back info e
      | false ↦ λ e. refl
    ] refl)

code-back : (s e : ℕ) (told : Members) (lang meta value : List ℕ)
    → block_back (object (member (codes "type") (string (codes "code")) (member (codes "data") (object (lines s e told)) (member (codes "lang") (optional lang) (member (codes "meta") (optional meta) (member (codes "value") (string value) no_members))))))
    ≡ Code (info_back (optional_back (optional lang)) (optional_back (optional meta)) told) (value_back (ended_back told) value)
code-back s e told [] [] value = refl
code-back s e told [] (c ∷ cs) value = refl
code-back s e told (b ∷ bs) [] value = refl
code-back s e told (b ∷ bs) (c ∷ cs) value = refl

-- ---- blocks come back

-- what is found of a block, or of several, after the given number of lines
pub record Found (owners : List Owner) (leaves passed end : ℕ) (Told : Type 0) (Numbers : Type 0) (spans : List (ℕ × ℕ)) : Type 0 where
  pub back : Told
  pub have : Numbers
  pub lines : spans ≡ runs owners leaves passed
  pub ends : end ≡ run_end owners leaves passed
  pub within : end ≤ length owners

abbrev BlockFound : List Owner → ℕ → Block → Json × ℕ → ℕ → Type 0
BlockFound owners leaves b node passed = Found owners leaves passed node.1 (block_back node.0 ≡ b) (HasNumbers node.0) (spans_back node.0)

abbrev BlocksFound : List Owner → ℕ → List Block → Items × ℕ → ℕ → Type 0
BlocksFound owners leaves bs nodes passed = Found owners leaves passed nodes.1 (blocks_back nodes.0 ≡ bs) (ItemsHaveNumbers nodes.0) (all_spans nodes.0)

abbrev ItemsFound : List Owner → ℕ → List (List Block) → Items × ℕ → ℕ → Type 0
ItemsFound owners leaves items nodes passed = Found owners leaves passed nodes.1 (items_back nodes.0 ≡ items) (ItemsHaveNumbers nodes.0) (item_spans nodes.0)

-- the lines of more leaves

runs-more : (owners : List Owner) (m n passed : ℕ) → runs owners (m + n) passed ≡ runs owners m passed ++ runs owners n (run_end owners m passed)
runs-more owners zero n passed =
    let same : zero + n ≡ n = omega arith in
    ap (λ k. runs owners k passed) same
runs-more owners (suc m) n passed =
    let next : suc m + n ≡ suc (m + n) = omega arith in
    ap (λ k. runs owners k passed) next ∙ ap (λ t. (leaf_start owners passed + 1, leaf_end owners passed) ∷ t) (runs-more owners m n (leaf_end owners passed))

end-more : (owners : List Owner) (m n passed : ℕ) → run_end owners (m + n) passed ≡ run_end owners n (run_end owners m passed)
end-more owners zero n passed =
    let same : zero + n ≡ n = omega arith in
    ap (λ k. run_end owners k passed) same
end-more owners (suc m) n passed =
    let next : suc m + n ≡ suc (m + n) = omega arith in
    ap (λ k. run_end owners k passed) next ∙ end-more owners m n (leaf_end owners passed)

-- two pieces, one after the other
spans-both : (owners : List Owner) (m n passed mid : ℕ) (one two : List (ℕ × ℕ)) → one ≡ runs owners m passed → mid ≡ run_end owners m passed → two ≡ runs owners n mid
    → one ++ two ≡ runs owners (m + n) passed
spans-both owners m n passed mid one two e f g = ap₂ (λ a b. a ++ b) e (g ∙ ap (runs owners n) f) ∙ sym (runs-more owners m n passed)

ends-both : (owners : List Owner) (m n passed mid end : ℕ) → mid ≡ run_end owners m passed → end ≡ run_end owners n mid → end ≡ run_end owners (m + n) passed
ends-both owners m n passed mid end f g = g ∙ ap (run_end owners n) f ∙ sym (end-more owners m n passed)

-- a leaf ends within the lines

place-within : (p : Owner → Bool) (os : List Owner) → position_or_len p os ≤ length os
place-within p [] = omega arith
place-within p (o ∷ os) = grind (arith, place-within p os)

run-within : (os : List Owner) → run_length os ≤ length os
run-within [] = omega arith
run-within (Leaf n ∷ os) = omega (arith, place-within (is_not_of n) os)
run-within (Marker ∷ os) = omega arith
run-within (Blank ∷ os) = omega arith

start-within : (owners : List Owner) (passed : ℕ) → passed ≤ length owners → leaf_start owners passed ≤ length owners
start-within owners passed within = omega (arith, place-within has_leaf (drop passed owners), length-drop passed owners)

end-within : (owners : List Owner) (passed : ℕ) → passed ≤ length owners → leaf_end owners passed ≤ length owners
end-within owners passed within =
    let start = leaf_start owners passed in
    omega (arith, start-within owners passed within, run-within (drop start owners), length-drop start owners)

module _ (owners : List Owner) (small : length owners < 2 ^ 63) (passed : ℕ) (within : passed ≤ length owners) where
  -- a leaf
  leaf-found : (b : Block) (type : List ℕ) (inside more : Members) → block_back (leaf owners type inside more passed).0 ≡ b → MembersHaveNumbers inside → MembersHaveNumbers more
      → BlockFound owners 1 b (leaf owners type inside more passed) passed
  leaf-found b type inside more back told have =
      let start = start-within owners passed within in
      let end = end-within owners passed within in
      let fits : (leaf_start owners passed + 1 < 2 ^ 64) × (leaf_end owners passed < 2 ^ 64) = (omega (arith, start, small), omega (arith, end, small)) in
      record {
        back = back;
        have = leaf-numbers type (leaf_start owners passed) (leaf_end owners passed) inside more fits told have;
        lines = ap₂ (λ s e. (s, e) ∷ []) (count-back (leaf_start owners passed + 1) fits.0) (count-back (leaf_end owners passed) fits.1);
        ends = refl;
        within = end;
      }

-- ---- blocks one after another

abbrev leaves_of : Block → ℕ
leaves_of = fold-Block ℕ leaves_step

abbrev ComesBack : Block → Type 0
ComesBack b = is_in_range b ≡ true → (owners : List Owner) → length owners < 2 ^ 63 → (passed : ℕ) → passed ≤ length owners → BlockFound owners (leaves_of b) b (placed owners b passed) passed

abbrev Proved : Type 0
Proved = (b : Block) × ComesBack b

abbrev those : List Proved → List Block
those es = map (λ e. e.0) es

both-true : (a b : Bool) → (a && b) ≡ true → (a ≡ true) × (b ≡ true)
both-true true b both = (refl, both)
both-true false b both = cc

module _ (owners : List Owner) (small : length owners < 2 ^ 63) where
  blocks-found : (es : List Proved) → all_of (map is_in_range (those es)) ≡ true → (passed : ℕ) → passed ≤ length owners
      → BlocksFound owners (total (map leaves_of (those es))) (those es) (all_placed (map (placed owners) (those es)) passed) passed
  blocks-found [] fit passed within = record { back = refl; have = tt; lines = refl; ends = refl; within = within }
  blocks-found (e ∷ es) fit passed within =
      let (here, more) = both-true (is_in_range e.0) (all_of (map is_in_range (those es))) fit in
      let one = e.1 here owners small passed within in
      let mid = (placed owners e.0 passed).1 in
      let rest = blocks-found es more mid one.within in
      record {
        back = ap₂ (λ b bs. b ∷ bs) one.back rest.back;
        have = (one.have, rest.have);
        lines = spans-both owners (leaves_of e.0) (total (map leaves_of (those es))) passed mid (spans_back (placed owners e.0 passed).0) (all_spans (all_placed (map (placed owners) (those es)) mid).0) one.lines one.ends rest.lines;
        ends = ends-both owners (leaves_of e.0) (total (map leaves_of (those es))) passed mid (all_placed (map (placed owners) (those es)) mid).1 one.ends rest.ends;
        within = rest.within;
      }

  items-found : (spread : Bool) (ess : List (List Proved)) → list_all all_of (map (map is_in_range) (map those ess)) ≡ true → (passed : ℕ) → passed ≤ length owners
      → ItemsFound owners (total_of_all (map (map leaves_of) (map those ess))) (map those ess) (all_placed (map (list_item spread) (map (map (placed owners)) (map those ess))) passed) passed
  items-found spread [] fit passed within = record { back = refl; have = tt; lines = refl; ends = refl; within = within }
  items-found spread (es ∷ ess) fit passed within =
      let (here, more) = both-true (all_of (map is_in_range (those es))) (list_all all_of (map (map is_in_range) (map those ess))) fit in
      let one = blocks-found es here passed within in
      let mid = (all_placed (map (placed owners) (those es)) passed).1 in
      let rest = items-found spread ess more mid one.within in
      let others = all_placed (map (list_item spread) (map (map (placed owners)) (map those ess))) mid in
      record {
        back = ap₂ (λ b bs. b ∷ bs) one.back rest.back;
        have = ((tt, (tt, (one.have, tt))), rest.have);
        lines = spans-both owners (total (map leaves_of (those es))) (total_of_all (map (map leaves_of) (map those ess))) passed mid (all_spans (all_placed (map (placed owners) (those es)) passed).0) (item_spans others.0) one.lines one.ends rest.lines;
        ends = ends-both owners (total (map leaves_of (those es))) (total_of_all (map (map leaves_of) (map those ess))) passed mid others.1 one.ends rest.ends;
        within = rest.within;
      }

-- ---- one block

-- a block as it is known
known : (b : Block) (fits : Bool) (leaves : ℕ) (f : List Owner → Placed) → is_in_range b ≡ fits → leaves_of b ≡ leaves → ((owners : List Owner) → placed owners b ≡ f owners)
    → (fits ≡ true → (owners : List Owner) → length owners < 2 ^ 63 → (passed : ℕ) → passed ≤ length owners → BlockFound owners leaves b (f owners passed) passed) → ComesBack b
known b fits leaves f numbers many is found fit owners small passed within =
    subst (λ (g : Placed). BlockFound owners (leaves_of b) b (g passed) passed) (sym (is owners))
    (subst (λ (n : ℕ). BlockFound owners n b (f owners passed) passed) (sym many) (found (sym numbers ∙ fit) owners small passed within))

kind-back : (kind : ListKind) (spread : Bool) (items : Items) (bs : List (List Block)) → is_start_in_range kind ≡ true → items_back items ≡ bs
    → block_back (node (codes "list") (order kind (spread_member spread (children items)))) ≡ ListBlock kind (not spread) bs
kind-back Dash spread items bs fits back = ap (ListBlock Dash (not spread)) back
kind-back Plus spread items bs fits back = ap (ListBlock Plus (not spread)) back
kind-back Star spread items bs fits back = ap (ListBlock Star (not spread)) back
kind-back (Dot start) spread items bs fits back = ap₂ (λ n bs. ListBlock (Dot n) (not spread) bs) (count-back start (omega (arith, ltb-true start (2 ^ 32) fits))) back
kind-back (Paren start) spread items bs fits back = ap₂ (λ n bs. ListBlock (Paren n) (not spread) bs) (count-back start (omega (arith, ltb-true start (2 ^ 32) fits))) back

kind-spans : (kind : ListKind) (spread : Bool) (items : Items) → spans_back (node (codes "list") (order kind (spread_member spread (children items)))) ≡ item_spans items
kind-spans Dash spread items = refl
kind-spans Plus spread items = refl
kind-spans Star spread items = refl
kind-spans (Dot start) spread items = refl
kind-spans (Paren start) spread items = refl

not-not : (b : Bool) → not (not b) ≡ b
not-not true = refl
not-not false = refl

layer : (y : Block-F Proved) → ComesBack (roll-Block (map-Block Proved Block (λ e. e.0) y))
unfolding roll-Block denote.Hole.Carrier.roll
layer (block.Paragraph content) =
    known (Paragraph content) true 1 _ (simp (fold_out-Block Bool range_step, outs-Paragraph)) (simp (fold_out-Block ℕ leaves_step, outs-Paragraph)) (λ owners. block_fold.paragraph (block_step owners) content)
    (λ fit owners small passed within. leaf-found owners small passed within (Paragraph content) (codes "paragraph") no_members (children (inline_nodes false content)) (ap Paragraph (inlines-back content)) tt (inlines-numbers content, tt))
layer (block.Heading level content) =
    known (Heading level content) (nat_lt level (2 ^ 8)) 1 _ (simp (fold_out-Block Bool range_step, outs-Heading)) (simp (fold_out-Block ℕ leaves_step, outs-Heading)) (λ owners. block_fold.heading (block_step owners) level content)
    (λ fit owners small passed within.
    let low : level < 2 ^ 64 = omega (arith, ltb-true level (2 ^ 8) fit) in
    leaf-found owners small passed within (Heading level content) (codes "heading") no_members (member (codes "depth") (count level) (children (inline_nodes false content)))
    (ap₂ Heading (count-back level low) (inlines-back content)) tt (IsNumber-decimal level low, (inlines-numbers content, tt)))
layer (block.Code info text) =
    known (Code info text) true 1 _ (simp (fold_out-Block Bool range_step, outs-Code)) (simp (fold_out-Block ℕ leaves_step, outs-Code)) (λ owners. block_fold.code (block_step owners) info text)
    (λ fit owners small passed within.
    let told = info_member info (final_newline text) in
    leaf-found owners small passed within (Code info text) (codes "code") told
    (member (codes "lang") (optional (language info)) (member (codes "meta") (optional (meta info)) (valued (without_line_feed text))))
    (code-back (leaf_start owners passed) (leaf_end owners passed) told (language info) (meta info) (without_line_feed text)
    ∙ ap₂ Code (info-back info text) (ap (λ b. value_back b (without_line_feed text)) (ended-info info (final_newline text)) ∙ value-back text))
    (info-numbers info (final_newline text) (final_newline-numbers text)) (optional-numbers (language info), (optional-numbers (meta info), (tt, tt))))
layer (block.Html text) =
    known (Html text) true 1 _ (simp (fold_out-Block Bool range_step, outs-Html)) (simp (fold_out-Block ℕ leaves_step, outs-Html)) (λ owners. block_fold.html (block_step owners) text)
    (λ fit owners small passed within. leaf-found owners small passed within (Html text) (codes "html") (final_newline text) (valued (without_line_feed text)) (ap Html (value-back text)) (final_newline-numbers text) (tt, tt))
layer block.Break =
    known Break true 1 _ (simp (fold_out-Block Bool range_step, outs-Break)) (simp (fold_out-Block ℕ leaves_step, outs-Break)) (λ owners. (block_fold.thematic_break (block_step owners)))
    (λ fit owners small passed within. leaf-found owners small passed within Break (codes "thematicBreak") no_members no_members refl tt tt)
layer (block.Definition label dest title) =
    known (Definition label dest title) true 1 _ (simp (fold_out-Block Bool range_step, outs-Definition)) (simp (fold_out-Block ℕ leaves_step, outs-Definition)) (λ owners. block_fold.definition (block_step owners) label dest title)
    (λ fit owners small passed within.
    leaf-found owners small passed within (Definition label dest title) (codes "definition") (raw_label label)
    (member (codes "identifier") (string (fold_label label)) (member (codes "label") (string (unescape label)) (resource dest title no_members)))
    (ap₂ (λ l t. Definition l dest t) (label-back label) (optional-back title)) (label-numbers label)
    (tt, (tt, (tt, (optional-numbers title, tt)))))
layer (block.Quote es) =
    known (Quote (those es)) (all_of (map is_in_range (those es))) (total (map leaves_of (those es))) _ (simp (fold_out-Block Bool range_step, outs-Quote)) (simp (fold_out-Block ℕ leaves_step, outs-Quote)) (λ owners. block_fold.quote (block_step owners) (those es))
    (λ fit owners small passed within.
    let found = blocks-found owners small es fit passed within in
    record { back = ap Quote found.back; have = (tt, (found.have, tt)); lines = found.lines; ends = found.ends; within = found.within })
layer (block.List kind tight ess) =
    known (ListBlock kind tight (map those ess)) (is_start_in_range kind && list_all all_of (map (map is_in_range) (map those ess))) (total_of_all (map (map leaves_of) (map those ess))) _
    (simp (fold_out-Block Bool range_step, outs-List)) (simp (fold_out-Block ℕ leaves_step, outs-List)) (λ owners. block_fold.list (block_step owners) kind tight (map those ess))
    (λ fit owners small passed within.
    let (start, more) = both-true (is_start_in_range kind) (list_all all_of (map (map is_in_range) (map those ess))) fit in
    let found = items-found owners small (not tight) ess more passed within in
    let nodes = (all_placed (map (list_item (not tight)) (map (map (placed owners)) (map those ess))) passed).0 in
    record {
      back = kind-back kind (not tight) nodes (map those ess) start found.back ∙ ap (λ t. ListBlock kind t (map those ess)) (not-not tight);
      have = list-numbers kind (not tight) nodes start found.have;
      lines = kind-spans kind (not tight) nodes ∙ found.lines;
      ends = found.ends;
      within = found.within;
    })

pub block-back : (b : Block) → ComesBack b
block-back = ind-Block ComesBack (λ x y is. subst (λ z. ComesBack (roll-Block z)) is (layer y))

abbrev proved : List Block → List Proved
proved [] = []
proved (b ∷ bs) = (b, block-back b) ∷ proved bs

those-proved : (bs : List Block) → those (proved bs) ≡ bs
those-proved [] = refl
those-proved (b ∷ bs) = ap (λ bs. b ∷ bs) (those-proved bs)

pub all-back : (bs : List Block) (owners : List Owner) → all_of (map is_in_range bs) ≡ true → length owners < 2 ^ 63
    → BlocksFound owners (total (map leaves_of bs)) bs (all_placed (map (placed owners) bs) 0) 0
all-back bs owners fit small =
    subst (λ (cs : List Block). BlocksFound owners (total (map leaves_of cs)) cs (all_placed (map (placed owners) cs) 0) 0) (those-proved bs)
    (blocks-found owners small (proved bs) (ap (λ (cs : List Block). all_of (map is_in_range cs)) (those-proved bs) ∙ fit) 0 (omega arith))
