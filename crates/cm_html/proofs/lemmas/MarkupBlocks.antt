-- The tags in the HTML of blocks without raw HTML, which hold only what the rules read.
use Rattle.std.proofs.Common.{◌≡◌, ℕ, zero, suc, ◌==◌, ◌/◌, ◌%◌, ◌<◌, Bool, true, false, ◌&&◌, cond, List, [], ◌∷◌, ◌++◌, codes, map, ap, refl, sym, subst, ◌∙◌, arith}
use Rattle.std.specs.Prelude.{if◌then◌else◌, nat_le}
use Rattle.std.specs.List.{list_all, list_any}
use Rattle.std.specs.Char.{is_ascii_digit}
use Rattle.std.specs.Fmt.{decimal, digits, digits_onto, digit_glyph}
use Rattle.std.proofs.lemmas.Bool.{and_parts, or_parts, false≢true, leb-true, agree_below_at}
use Rattle.cm_tree.specs.declared.tree.Block.{Block, Block-F, map-Block}
use Rattle.cm_tree.specs.declared.tree.Block.TheOpen as block
use Rattle.cm_tree.specs.declared.tree.Block.TheViews.{roll-Block}
use Rattle.cm_tree.specs.declared.tree.Block.TheFolds.{fold-roll-Block, ind-Block}
use Rattle.cm_tree.specs.declared.tree.ListKind.{ListKind}
use Rattle.cm_tree.specs.declared.tree.ListKind.TheVariants.{Dash, Plus, Star, Dot, Paren}
use Rattle.cm_html.specs.Escape.{escape, class_word}
use Rattle.cm_html.specs.Html.{inlines_html, Written, block_step, written, alone, all_alone, line_feed_if, inside_from, items_html, heading_html, code_html, code_start, ordered_start, list_start, list_end, html_of}
use Rattle.cm_html.specs.Html.Written.{Nothing, Inlines, Whole}
use Rattle.cm_text.specs.Rules.{Rules, profile}
use Rattle.cm_tree.specs.Followed.{is_read_info, followed_block_step, block_is_followed, blocks_are_followed}
use Rattle.cm_tree.specs.HeadingLevels.{is_level, all_of, level_step, has_levels, have_levels}
use Rattle.cm_html.specs.Markup.Place.{InText, InValue}
use Rattle.cm_html.specs.Markup.{is_text, may_stand}
use Rattle.cm_tree.specs.RawHtml.{any_of, raw_block_step, block_has_raw, blocks_have_raw}
use Rattle.cm_html.specs.Tags.{Tags, element, tags_of_inlines, code_tag, ordered_tag, list_element, join_blocks, join_items, block_tags, tags_of_block, TextIsNoMarkup, AddressesStay}
use Rattle.cm_html.specs.steps.HtmlParts.{paragraph_html, quote_html, inside, item_html}
use Rattle.cm_html.proofs.lemmas.MarkupSteps.{Goes, Balanced, and_then, between_tags, element_balanced, empty_balanced, append_balanced, balanced_whole}
use Rattle.cm_html.proofs.lemmas.MarkupTexts.{by_byte, stands, escaped, escape_is_text, value_read}
use Rattle.cm_html.proofs.lemmas.MarkupInlines.{inlines_balanced}
use Rattle.cm_html.proofs.lemmas.MarkupClasses.{ClassStays, class_stays}
use Rattle.cm_html.proofs.lemmas.FollowedByProfile.{profile_follows}

past_level : (level : ℕ) → 6 < level → is_level level ≡ true → ⊥
past_level level past is = let within = leb-true level 6 (and_parts (nat_le 1 level) (nat_le level 6) is).1 in omega (arith, past, within)

by_level : (P : ℕ → Type 0) → P 1 → P 2 → P 3 → P 4 → P 5 → P 6 → (level : ℕ) → is_level level ≡ true → P level
by_level P one two three four five six zero is = absurd (false≢true is)
by_level P one two three four five six (suc zero) is = one
by_level P one two three four five six (suc (suc zero)) is = two
by_level P one two three four five six (suc (suc (suc zero))) is = three
by_level P one two three four five six (suc (suc (suc (suc zero)))) is = four
by_level P one two three four five six (suc (suc (suc (suc (suc zero))))) is = five
by_level P one two three four five six (suc (suc (suc (suc (suc (suc zero)))))) is = six
by_level P one two three four five six (suc (suc (suc (suc (suc (suc (suc n))))))) is = absurd (past_level (suc (suc (suc (suc (suc (suc (suc n))))))) (omega arith) is)

-- a number is written in digits

glyph : (n : ℕ) → is_ascii_digit (digit_glyph false (n % 10)) ≡ true
glyph n =
    let small : n % 10 < 10 = omega arith in
    agree_below_at (λ d. is_ascii_digit (digit_glyph false d)) (λ d. true) 10 (n % 10) refl small

digits_all : (k n : ℕ) (later : List ℕ) → list_all is_ascii_digit later ≡ true → list_all is_ascii_digit (digits_onto k 10 false n later) ≡ true
digits_all zero n later all = all
digits_all (suc k) n later all = either (n / 10 == 0) (digits_all k (n / 10) (digit_glyph false (n % 10) ∷ later))
  where
    more : list_all is_ascii_digit (digit_glyph false (n % 10) ∷ later) ≡ true
    more = ap (λ t. t && list_all is_ascii_digit later) (glyph n) ∙ all

    either : (t : Bool)
        → (list_all is_ascii_digit (digit_glyph false (n % 10) ∷ later) ≡ true → list_all is_ascii_digit (digits_onto k 10 false (n / 10) (digit_glyph false (n % 10) ∷ later)) ≡ true)
        → list_all is_ascii_digit (if t then digit_glyph false (n % 10) ∷ later else digits_onto k 10 false (n / 10) (digit_glyph false (n % 10) ∷ later)) ≡ true
    either true deeper = more
    either false deeper = deeper more

decimal_all : (n : ℕ) → list_all is_ascii_digit (decimal n) ≡ true
unfolding digits
decimal_all n = digits_all 64 n [] refl

digit_stands : (b : ℕ) (next : List ℕ) → is_ascii_digit b ≡ true → may_stand b next ≡ true
digit_stands b next = by_byte (λ c. is_ascii_digit c ≡ true → may_stand c next ≡ true)
    (λ is. absurd (false≢true is)) (λ is. absurd (false≢true is)) (λ is. absurd (false≢true is)) (λ is. absurd (false≢true is))
    (λ c n38 n60 n62 n34 is. stands c next n38 n60 n62 n34) b

digits_are_text : (bs : List ℕ) → list_all is_ascii_digit bs ≡ true → is_text bs ≡ true
digits_are_text [] all = refl
digits_are_text (b ∷ bs) all =
    let parts = and_parts (is_ascii_digit b) (list_all is_ascii_digit bs) all in
    ap (λ t. t && is_text bs) (digit_stands b bs parts.0) ∙ digits_are_text bs parts.1

module _ (rules : Rules) where
  -- ---- leaves

  paragraph_balanced : (html : List ℕ) (tags : Tags) → Balanced rules html tags → Balanced rules (paragraph_html html) (element (codes "p") tags (codes "/p"))
  paragraph_balanced html tags balanced =
      element_balanced rules (codes "p") (codes "p") (codes "/p") (codes "<p>") html (codes "</p>\n") tags (λ names rest. refl) balanced (λ names rest. refl)

  -- a level that is written with this digit
  one_digit : (digit : ℕ) (html : List ℕ) (tags : Tags)
      → ((names : List (List ℕ)) → Goes rules (InText names) (codes "<h" ++ digit ∷ codes ">") ((codes "h" ++ digit ∷ []) ∷ []) (InText ((codes "h" ++ digit ∷ []) ∷ names)))
      → Balanced rules html tags
      → ((names : List (List ℕ)) → Goes rules (InText ((codes "h" ++ digit ∷ []) ∷ names)) (codes "</h" ++ digit ∷ codes ">\n") ((codes "/h" ++ digit ∷ []) ∷ []) (InText names))
      → Balanced rules (codes "<h" ++ digit ∷ codes ">" ++ html ++ (codes "</h" ++ digit ∷ codes ">\n")) (element (codes "h" ++ digit ∷ []) tags (codes "/h" ++ digit ∷ []))
  one_digit digit html tags opens balanced closes =
      element_balanced rules (codes "h" ++ digit ∷ []) (codes "h" ++ digit ∷ []) (codes "/h" ++ digit ∷ []) (codes "<h" ++ digit ∷ codes ">") html (codes "</h" ++ digit ∷ codes ">\n") tags
      opens balanced closes

  heading_balanced : (level : ℕ) (html : List ℕ) (tags : Tags) → is_level level ≡ true → Balanced rules html tags
      → Balanced rules (heading_html level html) (element (codes "h" ++ decimal level) tags (codes "/h" ++ decimal level))
  unfolding digits
  heading_balanced level html tags is balanced =
      by_level (λ n. Balanced rules (heading_html n html) (element (codes "h" ++ decimal n) tags (codes "/h" ++ decimal n)))
      (one_digit 49 html tags (λ names rest. refl) balanced (λ names rest. refl))
      (one_digit 50 html tags (λ names rest. refl) balanced (λ names rest. refl))
      (one_digit 51 html tags (λ names rest. refl) balanced (λ names rest. refl))
      (one_digit 52 html tags (λ names rest. refl) balanced (λ names rest. refl))
      (one_digit 53 html tags (λ names rest. refl) balanced (λ names rest. refl))
      (one_digit 54 html tags (λ names rest. refl) balanced (λ names rest. refl))
      level is

  code_opens : (word : List ℕ) → ClassStays rules word → (names : List (List ℕ)) → Goes rules (InText names) (code_start word) (codes "pre" ∷ code_tag word ∷ []) (InText (codes "code" ∷ codes "pre" ∷ names))
  code_opens [] stays names = λ rest. refl
  code_opens (b ∷ bs) stays names =
      let value : List ℕ = escape (b ∷ bs) in
      let tag : List ℕ = codes "code class=" in
      let inner : List (List ℕ) = codes "pre" ∷ names in
      and_then rules (InText names) (InValue tag (codes "language-" ++ value) inner) (InText (codes "code" ∷ inner)) (codes "pre" ∷ []) (code_tag (b ∷ bs) ∷ []) (codes "<pre><code class=\"language-" ++ value) (codes "\">")
      (and_then rules (InText names) (InValue tag (codes "language-") inner) (InValue tag (codes "language-" ++ value) inner) (codes "pre" ∷ []) [] (codes "<pre><code class=\"language-") value
      (λ rest. refl) (value_read rules tag (codes "language-") value inner (escape_is_text (b ∷ bs))))
      (λ rest. rw (escape_is_text (b ∷ bs), stays))

  code_balanced : (info text : List ℕ) → is_read_info rules info ≡ true → Balanced rules (code_html info text) (codes "pre" ∷ code_tag (class_word info) ∷ codes "/code" ∷ codes "/pre" ∷ [])
  code_balanced info text reads names =
      between_tags rules (codes "code" ∷ codes "pre" ∷ names) names (codes "pre" ∷ code_tag (class_word info) ∷ []) [] (codes "/code" ∷ codes "/pre" ∷ []) (code_start (class_word info)) (escape text) (codes "</code></pre>\n")
      (code_opens (class_word info) (class_stays rules info reads) names) (escaped rules text) (λ rest. refl)

  -- ---- quotes and lists

  quote_balanced : (html : List ℕ) (tags : Tags) → Balanced rules html tags → Balanced rules (quote_html html) (element (codes "blockquote") tags (codes "/blockquote"))
  quote_balanced html tags balanced =
      element_balanced rules (codes "blockquote") (codes "blockquote") (codes "/blockquote") (codes "<blockquote>\n") html (codes "</blockquote>\n") tags (λ names rest. refl) balanced (λ names rest. refl)

  start_opens : (number : List ℕ) (names : List (List ℕ)) → list_all is_ascii_digit number ≡ true
      → Goes rules (InText names) (codes "<ol start=\"" ++ number ++ codes "\">\n") (codes "ol start=\"\"" ∷ []) (InText (codes "ol" ∷ names))
  start_opens number names all =
      let tag : List ℕ = codes "ol start=" in
      let is : is_text number ≡ true = digits_are_text number all in
      and_then rules (InText names) (InValue tag number names) (InText (codes "ol" ∷ names)) [] (codes "ol start=\"\"" ∷ []) (codes "<ol start=\"" ++ number) (codes "\">\n")
      (and_then rules (InText names) (InValue tag [] names) (InValue tag number names) [] [] (codes "<ol start=\"") number (λ rest. refl) (value_read rules tag [] number names is))
      (λ rest. rw (is, all))

  ordered_opens : (start : ℕ) (names : List (List ℕ)) → Goes rules (InText names) (ordered_start start) (ordered_tag start ∷ []) (InText (codes "ol" ∷ names))
  ordered_opens start names = either (start == 1)
    where
      either : (t : Bool) → Goes rules (InText names) (cond t (codes "<ol>\n") (codes "<ol start=\"" ++ decimal start ++ codes "\">\n")) (cond t (codes "ol") (codes "ol start=\"\"") ∷ []) (InText (codes "ol" ∷ names))
      either true = λ rest. refl
      either false = start_opens (decimal start) names (decimal_all start)

  bullets_balanced : (html : List ℕ) (tags : Tags) → Balanced rules html tags → Balanced rules (codes "<ul>\n" ++ html ++ codes "</ul>\n") (element (codes "ul") tags (codes "/ul"))
  bullets_balanced html tags balanced =
      element_balanced rules (codes "ul") (codes "ul") (codes "/ul") (codes "<ul>\n") html (codes "</ul>\n") tags (λ names rest. refl) balanced (λ names rest. refl)

  ordered_balanced : (start : ℕ) (html : List ℕ) (tags : Tags) → Balanced rules html tags
      → Balanced rules (ordered_start start ++ html ++ codes "</ol>\n") (element (ordered_tag start) tags (codes "/ol"))
  ordered_balanced start html tags balanced =
      element_balanced rules (codes "ol") (ordered_tag start) (codes "/ol") (ordered_start start) html (codes "</ol>\n") tags (ordered_opens start) balanced (λ names rest. refl)

  list_balanced : (kind : ListKind) (html : List ℕ) (tags : Tags) → Balanced rules html tags → Balanced rules (list_start kind ++ html ++ list_end kind) (list_element kind tags)
  list_balanced Dash html tags balanced = bullets_balanced html tags balanced
  list_balanced Plus html tags balanced = bullets_balanced html tags balanced
  list_balanced Star html tags balanced = bullets_balanced html tags balanced
  list_balanced (Dot start) html tags balanced = ordered_balanced start html tags balanced
  list_balanced (Paren start) html tags balanced = ordered_balanced start html tags balanced

  -- ---- blocks one after another

  -- what a block writes has these tags, by whether it is in a tight item
  abbrev HasTags : Written → (Bool → Tags) → Type 0
  HasTags Nothing tags = (tight : Bool) → tags tight ≡ []
  HasTags (Inlines html) tags = Balanced rules html (tags true) × (tags false ≡ element (codes "p") (tags true) (codes "/p"))
  HasTags (Whole html) tags = (tight : Bool) → Balanced rules html (tags tight)

  abbrev HaveTags : List Written → List (Bool → Tags) → Type 0
  HaveTags [] [] = Unit
  HaveTags [] (t ∷ ts) = ⊥
  HaveTags (w ∷ ws) [] = ⊥
  HaveTags (w ∷ ws) (t ∷ ts) = HasTags w t × HaveTags ws ts

  abbrev ItemsHaveTags : List (List Written) → List (List (Bool → Tags)) → Type 0
  ItemsHaveTags [] [] = Unit
  ItemsHaveTags [] (t ∷ ts) = ⊥
  ItemsHaveTags (item ∷ items) [] = ⊥
  ItemsHaveTags (item ∷ items) (t ∷ ts) = HaveTags item t × ItemsHaveTags items ts

  alone_balanced : (w : Written) (tags : Bool → Tags) → HasTags w tags → Balanced rules (alone w) (tags false)
  alone_balanced Nothing tags has = subst (λ t. Balanced rules [] t) (sym (has false)) (empty_balanced rules)
  alone_balanced (Inlines html) tags has = subst (λ t. Balanced rules (paragraph_html html) t) (sym has.1) (paragraph_balanced html (tags true) has.0)
  alone_balanced (Whole html) tags has = has false

  all_alone_balanced : (ws : List Written) (ts : List (Bool → Tags)) → HaveTags ws ts → Balanced rules (all_alone ws) (join_blocks false ts)
  all_alone_balanced [] [] have = empty_balanced rules
  all_alone_balanced [] (t ∷ ts) have = absurd have
  all_alone_balanced (w ∷ ws) [] have = absurd have
  all_alone_balanced (w ∷ ws) (t ∷ ts) have = append_balanced rules (t false) (join_blocks false ts) (alone w) (all_alone ws) (alone_balanced w t have.0) (all_alone_balanced ws ts have.1)

  feed_balanced : (fresh : Bool) → Balanced rules (line_feed_if fresh) []
  feed_balanced true = λ names rest. refl
  feed_balanced false = empty_balanced rules

  from_balanced : (tight fresh : Bool) (ws : List Written) (ts : List (Bool → Tags)) → HaveTags ws ts → Balanced rules (inside_from tight fresh ws) (join_blocks tight ts)
  from_balanced tight fresh [] [] have = empty_balanced rules
  from_balanced tight fresh [] (t ∷ ts) have = absurd have
  from_balanced tight fresh (w ∷ ws) [] have = absurd have
  from_balanced tight fresh (Nothing ∷ ws) (t ∷ ts) have =
      subst (λ tags. Balanced rules (inside_from tight fresh ws) (tags ++ join_blocks tight ts)) (sym (have.0 tight)) (from_balanced tight fresh ws ts have.1)
  from_balanced true fresh (Inlines html ∷ ws) (t ∷ ts) have =
      append_balanced rules (t true) (join_blocks true ts) html (inside_from true true ws) have.0.0 (from_balanced true true ws ts have.1)
  from_balanced false fresh (Inlines html ∷ ws) (t ∷ ts) have =
      append_balanced rules (t false) (join_blocks false ts) (line_feed_if fresh ++ paragraph_html html) (inside_from false false ws)
      (append_balanced rules [] (t false) (line_feed_if fresh) (paragraph_html html) (feed_balanced fresh) (alone_balanced (Inlines html) t have.0))
      (from_balanced false false ws ts have.1)
  from_balanced tight fresh (Whole html ∷ ws) (t ∷ ts) have =
      append_balanced rules (t tight) (join_blocks tight ts) (line_feed_if fresh ++ html) (inside_from tight false ws)
      (append_balanced rules [] (t tight) (line_feed_if fresh) html (feed_balanced fresh) (have.0 tight))
      (from_balanced tight false ws ts have.1)

  inside_balanced : (tight : Bool) (ws : List Written) (ts : List (Bool → Tags)) → HaveTags ws ts → Balanced rules (inside tight ws) (join_blocks tight ts)
  inside_balanced tight ws ts have = from_balanced tight true ws ts have

  items_balanced : (tight : Bool) (items : List (List Written)) (ts : List (List (Bool → Tags))) → ItemsHaveTags items ts → Balanced rules (items_html tight items) (join_items tight ts)
  items_balanced tight [] [] have = empty_balanced rules
  items_balanced tight [] (t ∷ ts) have = absurd have
  items_balanced tight (item ∷ items) [] have = absurd have
  items_balanced tight (item ∷ items) (t ∷ ts) have =
      append_balanced rules (element (codes "li") (join_blocks tight t) (codes "/li")) (join_items tight ts) (item_html tight item) (items_html tight items)
      (element_balanced rules (codes "li") (codes "li") (codes "/li") (codes "<li>") (inside tight item) (codes "</li>\n") (join_blocks tight t)
      (λ names rest. refl) (inside_balanced tight item t have.0) (λ names rest. refl))
      (items_balanced tight items ts have.1)

  -- ---- the tree

  abbrev HasItsTags : Block → Type 0
  HasItsTags b = block_has_raw b ≡ false → has_levels b ≡ true → block_is_followed rules b ≡ true → HasTags (written b) (tags_of_block b)

  -- blocks, each with its proof
  abbrev Proved : Type 0
  Proved = (b : Block) × HasItsTags b

  abbrev blocks_in : List Proved → List Block
  blocks_in proved = map (λ e. e.0) proved

  blocks_have : (es : List Proved) → any_of (map block_has_raw (blocks_in es)) ≡ false → all_of (map has_levels (blocks_in es)) ≡ true
      → all_of (map (block_is_followed rules) (blocks_in es)) ≡ true
      → HaveTags (map written (blocks_in es)) (map tags_of_block (blocks_in es))
  blocks_have [] free levels follow = tt
  blocks_have (e ∷ es) free levels follow =
      let none = or_parts (block_has_raw e.0) (any_of (map block_has_raw (blocks_in es))) free in
      let all = and_parts (has_levels e.0) (all_of (map has_levels (blocks_in es))) levels in
      let follows = and_parts (block_is_followed rules e.0) (all_of (map (block_is_followed rules) (blocks_in es))) follow in
      (e.1 none.0 all.0 follows.0, blocks_have es none.1 all.1 follows.1)

  items_have : (items : List (List Proved)) → list_any any_of (map (map block_has_raw) (map blocks_in items)) ≡ false → list_all all_of (map (map has_levels) (map blocks_in items)) ≡ true
      → list_all all_of (map (map (block_is_followed rules)) (map blocks_in items)) ≡ true
      → ItemsHaveTags (map (map written) (map blocks_in items)) (map (map tags_of_block) (map blocks_in items))
  items_have [] free levels follow = tt
  items_have (item ∷ items) free levels follow =
      let none = or_parts (any_of (map block_has_raw (blocks_in item))) (list_any any_of (map (map block_has_raw) (map blocks_in items))) free in
      let all = and_parts (all_of (map has_levels (blocks_in item))) (list_all all_of (map (map has_levels) (map blocks_in items))) levels in
      let follows = and_parts (all_of (map (block_is_followed rules) (blocks_in item))) (list_all all_of (map (map (block_is_followed rules)) (map blocks_in items))) follow in
      (blocks_have item none.0 all.0 follows.0, items_have items none.1 all.1 follows.1)

  -- one block, from the blocks inside
  layer : (y : Block-F Proved) → raw_block_step (map-Block Block Bool block_has_raw (map-Block Proved Block (λ e. e.0) y)) ≡ false
      → level_step (map-Block Block Bool has_levels (map-Block Proved Block (λ e. e.0) y)) ≡ true
      → followed_block_step rules (map-Block Block Bool (block_is_followed rules) (map-Block Proved Block (λ e. e.0) y)) ≡ true
      → HasTags (block_step (map-Block Block Written written (map-Block Proved Block (λ e. e.0) y)))
      (block_tags (map-Block Block (Bool → Tags) tags_of_block (map-Block Proved Block (λ e. e.0) y)))
  layer (block.Paragraph inlines) free levels follow = (inlines_balanced rules inlines free follow, refl)
  layer (block.Heading level inlines) free levels follow = λ tight. heading_balanced level (inlines_html inlines) (tags_of_inlines inlines) levels (inlines_balanced rules inlines free follow)
  layer (block.Code info text) free levels follow = λ tight. code_balanced info text follow
  layer (block.Html text) free levels follow = absurd (false≢true (sym free))
  layer block.Break free levels follow = λ tight names rest. refl
  layer (block.Definition label dest title) free levels follow = λ tight. refl
  layer (block.Quote es) free levels follow = λ tight.
      quote_balanced (all_alone (map written (blocks_in es))) (join_blocks false (map tags_of_block (blocks_in es)))
      (all_alone_balanced (map written (blocks_in es)) (map tags_of_block (blocks_in es)) (blocks_have es free levels follow))
  layer (block.List kind item_tight items) free levels follow = λ tight.
      let inner : List (List Written) = map (map written) (map blocks_in items) in
      let tags : List (List (Bool → Tags)) = map (map tags_of_block) (map blocks_in items) in
      list_balanced kind (items_html item_tight inner) (join_items item_tight tags) (items_balanced item_tight inner tags (items_have items free levels follow))

  rolled : (x : Block-F Block)
      → (raw_block_step (map-Block Block Bool block_has_raw x) ≡ false → level_step (map-Block Block Bool has_levels x) ≡ true
      → followed_block_step rules (map-Block Block Bool (block_is_followed rules) x) ≡ true
      → HasTags (block_step (map-Block Block Written written x)) (block_tags (map-Block Block (Bool → Tags) tags_of_block x)))
      → HasItsTags (roll-Block x)
  rolled x of_layer free levels follow =
      subst (λ w. HasTags w (tags_of_block (roll-Block x))) (sym (fold-roll-Block Written block_step x))
      (subst (λ tags. HasTags (block_step (map-Block Block Written written x)) tags) (sym (fold-roll-Block (Bool → Tags) block_tags x))
      (of_layer (sym (fold-roll-Block Bool raw_block_step x) ∙ free) (sym (fold-roll-Block Bool level_step x) ∙ levels) (sym (fold-roll-Block Bool (followed_block_step rules) x) ∙ follow)))

  block_has_tags : (b : Block) → HasItsTags b
  block_has_tags = ind-Block HasItsTags (λ x y is. subst (λ z. HasItsTags (roll-Block z)) is (rolled (map-Block Proved Block (λ e. e.0) y) (layer y)))

  all_have_tags : (blocks : List Block) → blocks_have_raw blocks ≡ false → have_levels blocks ≡ true → blocks_are_followed rules blocks ≡ true → HaveTags (map written blocks) (map tags_of_block blocks)
  all_have_tags [] free levels follow = tt
  all_have_tags (b ∷ bs) free levels follow =
      let none = or_parts (block_has_raw b) (blocks_have_raw bs) free in
      let all = and_parts (has_levels b) (have_levels bs) levels in
      let follows = and_parts (block_is_followed rules b) (blocks_are_followed rules bs) follow in
      (block_has_tags b none.0 all.0 follows.0, all_have_tags bs none.1 all.1 follows.1)

pub addresses_stay : AddressesStay
addresses_stay rules blocks free levels follow =
    balanced_whole rules (html_of blocks) (join_blocks false (map tags_of_block blocks))
    (all_alone_balanced rules (map written blocks) (map tags_of_block blocks) (all_have_tags rules blocks free levels follow))

pub text_is_no_markup : TextIsNoMarkup
text_is_no_markup blocks free levels = addresses_stay profile blocks free levels (profile_follows blocks)
