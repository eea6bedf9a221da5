-- Places of lines in containers.
use Rattle.std.specs.Prelude.{min, nat_le, ◌-◌, ◌==◌, ◌||◌}
use Rattle.std.proofs.lemmas.Bool.{and_parts, eqb-true}
use Rattle.std.proofs.lemmas.List.{append_assoc, replicate-append-replicate, length-append, length-replicate}
use Rattle.std.proofs.lemmas.Bool.Decides.{nat_tests}
use Rattle.std.proofs.Common.{◌≡◌, ◌≢◌, ℕ, zero, suc, ◌+◌, ◌*◌, ◌^◌, ◌<◌, ◌≤◌, Bool, true, false, cond, not, ◌&&◌, List, [], ◌∷◌, ◌++◌, length, replicate, drop, None, refl, sym, ◌∙◌, ap, ap₂, arith}
use Rattle.std.specs.List.{position_or_len}
use Rattle.cm_text.specs.Rules.{Rules}
use Rattle.cm_text.specs.Search.{is_no_space}
use Rattle.cm_text.specs.Lines.{LineView}
use Rattle.cm_text.specs.LineText.{is_line, tabs}
use Rattle.cm_scan.specs.Words.{given, is_blank_text, run_length}
use Rattle.cm_scan.specs.blocks.Lines.{is_blank, content_of, past, as_lazy}
use Rattle.cm_scan.specs.blocks.Starts.{Start, IndentedCode, QuoteMarker, AtxHeading, OpeningFence, HtmlStart, BreakLine, ItemStart, TextLine, start_of, Continuation, Stays, StaysIfOpen, Leaves, may_be_lazy, continuation_if_lazy, after_quote_marker, quote_continuation, continuation_in_quote, after_marker, content_offset, content_column, first_content, continuation_in_item}
use Rattle.cm_scan.specs.blocks.LineForms.{ItemMarker}
use Rattle.cm_scan.specs.laws.PartLaws.{goes_inward}
use Rattle.cm_text.specs.Indentation.{indent_of, strip_columns, after_indent}
use Rattle.cm_text.specs.Views.{seen_view}
use Rattle.cm_text.specs.declared.view.View.{View}
use Rattle.cm_text.proofs.lemmas.StripLemmas.{strip_takes_columns}
use Rattle.cm_block.specs.steps.ContinuationViews.{begins_quote}
use Rattle.cm_block.proofs.lemmas.StartLemmas.{content_left}

pub blank_spaces : (n : ℕ) (text : List ℕ) → is_blank_text (replicate n 32 ++ text) ≡ is_blank_text text
blank_spaces zero text = refl
blank_spaces (suc n) text = let h : is_blank_text (replicate n 32 ++ text) ≡ is_blank_text text = blank_spaces n text in grind (arith, h)

module _ (rules : Rules) where
  pub lazy_blank : (line : LineView) → is_blank line ≡ true → Leaves ≡ continuation_if_lazy rules line
  unfolding continuation_if_lazy
  lazy_blank line blank = grind (arith, blank)

  pub lazy_other : (line : LineView) (start : Start) → is_blank line ≡ false → start ≡ start_of rules line → may_be_lazy start ≡ false → Leaves ≡ continuation_if_lazy rules line
  unfolding continuation_if_lazy
  lazy_other line start some is other =
      let e : may_be_lazy (start_of rules line) ≡ false = rw is at other in
      grind (arith, some, e)

  lazy_stays : (line : LineView) (start : Start) → is_blank line ≡ false → start ≡ start_of rules line → may_be_lazy start ≡ true → StaysIfOpen (as_lazy line) ≡ continuation_if_lazy rules line
  unfolding continuation_if_lazy
  lazy_stays line start some is may =
      let e : may_be_lazy (start_of rules line) ≡ true = rw is at may in
      grind (arith, some, e)

  -- while a paragraph is left open
  pub lazy_given : (line : LineView) (start : Start) → is_blank line ≡ false → start ≡ start_of rules line
      → given (may_be_lazy start) (as_lazy line) ≡ goes_inward (continuation_if_lazy rules line) true
  lazy_given line start some is = go (may_be_lazy start) refl
    where
      go : (may : Bool) → may_be_lazy start ≡ may → given may (as_lazy line) ≡ goes_inward (continuation_if_lazy rules line) true
      go true may = ap (λ p. goes_inward p true) (lazy_stays line start some is may)
      go false other = ap (λ p. goes_inward p true) (lazy_other line start some is other)

  -- a lazy continuation line goes inward only where a paragraph is left open
  pub lazy_closed : (line : LineView) → None ≡ goes_inward (continuation_if_lazy rules line) false
  unfolding continuation_if_lazy
  lazy_closed line = go (not (is_blank line) && may_be_lazy (start_of rules line))
    where
      go : (b : Bool) → None ≡ goes_inward (elim b as (λ _. Continuation) [ true ↦ StaysIfOpen (as_lazy line) | false ↦ Leaves ]) false
      go true = refl
      go false = refl

-- continuations in a quote

module _ (rules : Rules) where
  pub in_quote_as : (line : LineView) → start_of rules line ≡ QuoteMarker → continuation_in_quote rules line ≡ Stays (after_quote_marker line)
  unfolding continuation_in_quote
  in_quote_as line e = ap (λ start. quote_continuation rules start line) e

  pub in_quote_if_lazy : (line : LineView) → begins_quote (start_of rules line) ≡ false → continuation_in_quote rules line ≡ continuation_if_lazy rules line
  unfolding continuation_in_quote
  in_quote_if_lazy line e = go (start_of rules line) e
    where
      go : (start : Start) → begins_quote start ≡ false → quote_continuation rules start line ≡ continuation_if_lazy rules line
      go IndentedCode e = refl
      go QuoteMarker e = absurd (cc e)
      go (AtxHeading h) e = refl
      go (OpeningFence f) e = refl
      go (HtmlStart k) e = refl
      go BreakLine e = refl
      go (ItemStart m) e = refl
      go TextLine e = refl

-- continuations in an item

module _ (rules : Rules) (column : ℕ) (bare : Bool) (line : LineView) where
  pub in_item_lazy : line.lazy ≡ true → continuation_in_item rules column bare line ≡ continuation_if_lazy rules line
  unfolding continuation_in_item
  in_item_lazy e = grind (arith, e)

  pub in_item_blank : line.lazy ≡ false → is_blank line ≡ true → bare ≡ false → continuation_in_item rules column bare line ≡ Stays (strip_columns column line)
  unfolding continuation_in_item
  in_item_blank e b n = grind (arith, e, b, n)

  pub in_item_bare : line.lazy ≡ false → is_blank line ≡ true → bare ≡ true → continuation_in_item rules column bare line ≡ Leaves
  unfolding continuation_in_item
  in_item_bare e b n = grind (arith, e, b, n)

  pub in_item_near : line.lazy ≡ false → is_blank line ≡ false → indent_of line < column → continuation_in_item rules column bare line ≡ continuation_if_lazy rules line
  unfolding continuation_in_item
  in_item_near e b n = let h : nat_le column (indent_of line) ≡ false = grind (arith, n) in grind (arith, e, b, h)

  pub in_item_far : line.lazy ≡ false → is_blank line ≡ false → column ≤ indent_of line → continuation_in_item rules column bare line ≡ Stays (strip_columns column line)
  unfolding continuation_in_item
  in_item_far e b n = let h : nat_le column (indent_of line) ≡ true = grind (arith, n) in grind (arith, e, b, h)

  pub in_item_leaves : line.lazy ≡ false → (bare && is_blank line) ≡ true → continuation_in_item rules column bare line ≡ Leaves
  in_item_leaves e both = go bare (is_blank line) refl refl both
    where
      go : (b k : Bool) → bare ≡ b → is_blank line ≡ k → (b && k) ≡ true → continuation_in_item rules column bare line ≡ Leaves
      go true true is blank both = in_item_bare e blank is
      go true false is blank both = absurd (cc both)
      go false k is blank both = absurd (cc both)

  -- a blank line, which ends it, is no lazy continuation line either
  pub in_item_ends : line.lazy ≡ false → (bare && is_blank line) ≡ true → continuation_in_item rules column bare line ≡ continuation_if_lazy rules line
  in_item_ends e both = in_item_leaves e both ∙ lazy_blank rules line (and_parts bare (is_blank line) both).1

  -- there is more of it than its marker, or the line isn't blank
  pub in_item_with_more : line.lazy ≡ false → (bare && is_blank line) ≡ false → continuation_in_item rules column bare line ≡ continuation_in_item rules column false line
  unfolding continuation_in_item
  in_item_with_more e more = go bare (is_blank line) refl refl more
    where
      go : (b k : Bool) → bare ≡ b → is_blank line ≡ k → (b && k) ≡ false → continuation_in_item rules column bare line ≡ continuation_in_item rules column false line
      go true true is blank more = absurd (cc more)
      go true false is blank more = grind (arith, e, is, blank)
      go false k is blank more = grind (arith, is)

  pub in_item_stays : line.lazy ≡ false → (bare && is_blank line) ≡ false → (nat_le column (indent_of line) || is_blank line) ≡ true
      → continuation_in_item rules column bare line ≡ Stays (strip_columns column line)
  in_item_stays e more either = go bare (is_blank line) (nat_le column (indent_of line)) refl refl refl more either
    where
      go : (b k r : Bool) → bare ≡ b → is_blank line ≡ k → nat_le column (indent_of line) ≡ r → (b && k) ≡ false → (r || k) ≡ true
          → continuation_in_item rules column bare line ≡ Stays (strip_columns column line)
      go true true r is blank reach more either = absurd (cc more)
      go false true r is blank reach more either = in_item_blank e blank is
      go b false true is blank reach more either = in_item_far e blank (grind (arith, nat_tests, reach))
      go b false false is blank reach more either = absurd (cc either)

  pub in_item_lazily : line.lazy ≡ false → (nat_le column (indent_of line) || is_blank line) ≡ false → continuation_in_item rules column bare line ≡ continuation_if_lazy rules line
  in_item_lazily e neither = go (is_blank line) (nat_le column (indent_of line)) refl refl neither
    where
      go : (k r : Bool) → is_blank line ≡ k → nat_le column (indent_of line) ≡ r → (r || k) ≡ false → continuation_in_item rules column bare line ≡ continuation_if_lazy rules line
      go true true blank reach neither = absurd (cc neither)
      go true false blank reach neither = absurd (cc neither)
      go false true blank reach neither = absurd (cc neither)
      go false false blank reach neither = in_item_near e blank (grind (arith, nat_tests, reach))

-- a line of which as many columns are taken as there are up to a column

columns-taken : (column : ℕ) (line inner : LineView) → inner ≡ strip_columns column line → inner.column ≡ line.column + min column (indent_of line)
columns-taken column line inner is = ap (λ (l : LineView). l.column) is ∙ (strip_takes_columns column line).0

pub far_enough : (column : ℕ) (line inner : LineView) (blank : Bool) → inner ≡ strip_columns column line → inner.column - line.column ≡ column → (inner.column - line.column == column) ≡ (nat_le column (indent_of line) || blank)
far_enough column line inner blank is far =
    let taken = columns-taken column line inner is in
    let reach : nat_le column (indent_of line) ≡ true = grind (arith, nat_tests, taken, far) in
    grind (arith, nat_tests, reach, far)

pub not_far_enough : (column : ℕ) (line inner : LineView) (blank : Bool) → inner ≡ strip_columns column line → inner.column - line.column ≢ column → blank ≡ (nat_le column (indent_of line) || blank)
not_far_enough column line inner blank is near =
    let taken = columns-taken column line inner is in
    let reach : nat_le column (indent_of line) ≡ false = grind (arith, nat_tests, taken, near) in
    grind (arith, reach)

pub taken_goes_on : (column : ℕ) (line inner : LineView) → inner ≡ strip_columns column line → line.column ≤ inner.column
taken_goes_on column line inner is =
    let taken = columns-taken column line inner is in
    grind (arith, taken)

-- a line without some columns of its indentation

blank-after : (text : List ℕ) → is_blank_text text ≡ is_blank_text (after_indent text)
blank-after [] = refl
blank-after (b ∷ bs) = let h : is_blank_text bs ≡ is_blank_text (after_indent bs) = blank-after bs in grind (arith, h)

module _ (n : ℕ) (line inner : LineView) (is : inner ≡ strip_columns n line) where
  pub blank_inside : is_blank inner ≡ is_blank line
  blank_inside =
      blank-after inner.text
      ∙ ap is_blank_text (ap (λ (l : LineView). after_indent l.text) is ∙ (strip_takes_columns n line).2)
      ∙ sym (blank-after line.text)

  pub near_inside : inner.column - line.column < n → indent_of line < n
  near_inside near = let taken = columns-taken n line inner is in grind (arith, near, taken)

  pub far_inside : n ≤ inner.column - line.column → n ≤ indent_of line
  far_inside far = let taken = columns-taken n line inner is in grind (arith, far, taken)

-- a line after a marker

pub past_content : (line : LineView) (n k : ℕ) (view : View) → n ≡ indent_of line → seen_view view ≡ strip_columns n line → view.spaces ≡ 0
    → record { column = view.column + k; text = drop k view.rest.now; lazy = view.lazy } ≡ past k line
unfolding past
past_content line n k view all left none =
    ap₂ (λ c (t : List ℕ). record { column = c; text = drop k t; lazy = view.lazy }) columns (content_left line n view all left none)
    ∙ ap (λ z. record { column = line.column + indent_of line + k; text = drop k (content_of line); lazy = z }) (ap (λ (l : LineView). l.lazy) left)
  where
    columns : view.column + k ≡ line.column + indent_of line + k
    columns =
        let taken : view.column ≡ line.column + min n (indent_of line) = ap (λ (l : LineView). l.column) left ∙ (strip_takes_columns n line).0 in
        let least : min n (indent_of line) ≡ indent_of line = grind (arith, all) in
        omega (arith, taken, least)

-- the columns after an item's marker

pub offset_blank : (beyond : LineView) → is_blank beyond ≡ true → 1 ≡ content_offset beyond
unfolding content_offset
offset_blank beyond e = grind (arith, e)

pub offset_far : (beyond : LineView) → is_blank beyond ≡ false → 4 < indent_of beyond → 1 ≡ content_offset beyond
unfolding content_offset
offset_far beyond e n = grind (arith, e, n)

pub offset_near : (beyond : LineView) → is_blank beyond ≡ false → indent_of beyond ≤ 4 → indent_of beyond ≡ content_offset beyond
unfolding content_offset
offset_near beyond e n = grind (arith, e, n)

pub after_quote : (line inner : LineView) (view : View) → seen_view view ≡ past 1 line → inner ≡ strip_columns 1 (seen_view view) → inner ≡ after_quote_marker line
unfolding after_quote_marker
after_quote line inner view at is = is ∙ ap (strip_columns 1) at

pub column_is : (marker : ItemMarker) (line beyond : LineView) (indent offset : ℕ) → beyond ≡ after_marker marker line → indent ≡ indent_of line → offset ≡ content_offset beyond
    → indent + (marker.digits + 1) + offset ≡ content_column marker line
unfolding content_column
column_is marker line beyond indent offset at in_front is =
    let there : offset ≡ content_offset (after_marker marker line) = is ∙ ap content_offset at in
    omega (arith, in_front, there)

pub first_is_content : (marker : ItemMarker) (line beyond : LineView) (offset : ℕ) → beyond ≡ after_marker marker line → offset ≡ content_offset beyond
    → strip_columns offset beyond ≡ first_content marker line
unfolding first_content
first_is_content marker line beyond offset at is = ap₂ strip_columns (is ∙ ap content_offset at) at

-- the spaces at the start of a text, and what is after them

pub some_spaces : (n : ℕ) (text : List ℕ) → n ≤ run_length 32 text → text ≡ replicate n 32 ++ drop n text
unfolding run_length
some_spaces zero text few = refl
some_spaces (suc n) [] few = absurd (omega (arith, few))
some_spaces (suc n) (b ∷ bs) few = go (b == 32) refl (some_spaces n bs) few
  where
    go : (space : Bool) → (b == 32) ≡ space → (n ≤ run_length 32 bs → bs ≡ replicate n 32 ++ drop n bs)
        → suc n ≤ elim space as (λ _. ℕ) [ true ↦ suc (run_length 32 bs) | false ↦ 0 ]
        → b ∷ bs ≡ 32 ∷ replicate n 32 ++ drop n bs
    go true e again few = ap₂ (λ c cs. c ∷ cs) (eqb-true b 32 e) (again (omega (arith, few)))
    go false e again few = absurd (omega (arith, few))

pub run_within : (text : List ℕ) → run_length 32 text ≤ length text
unfolding run_length
run_within [] = omega arith
run_within (b ∷ bs) = go (b == 32) (run_within bs)
  where
    go : (space : Bool) → run_length 32 bs ≤ length bs → elim space as (λ _. ℕ) [ true ↦ suc (run_length 32 bs) | false ↦ 0 ] ≤ suc (length bs)
    go true h = omega (arith, h)
    go false h = omega arith

spaces-front : (text : List ℕ) → replicate (run_length 32 text) 32 ++ drop (run_length 32 text) text ≡ text
unfolding run_length
spaces-front [] = refl
spaces-front (b ∷ bs) = go (b == 32) refl (spaces-front bs)
  where
    go : (space : Bool) → (b == 32) ≡ space → replicate (run_length 32 bs) 32 ++ drop (run_length 32 bs) bs ≡ bs
        → replicate (elim space as (λ _. ℕ) [ true ↦ suc (run_length 32 bs) | false ↦ 0 ]) 32
        ++ drop (elim space as (λ _. ℕ) [ true ↦ suc (run_length 32 bs) | false ↦ 0 ]) (b ∷ bs) ≡ b ∷ bs
    go true e again = ap₂ (λ c cs. c ∷ cs) (sym (eqb-true b 32 e)) again
    go false e again = refl

replicate-more : (n m : ℕ) (text : List ℕ) → replicate (n + m) 32 ++ text ≡ replicate n 32 ++ (replicate m 32 ++ text)
replicate-more n m text = ap (λ xs. xs ++ text) (sym (replicate-append-replicate n m 32)) ∙ append_assoc (replicate n 32) (replicate m 32) text

line-beyond : (n : ℕ) (rest : List ℕ) → is_line (replicate n 32 ++ rest) ≡ true → is_line rest ≡ true
line-beyond zero rest h = h
line-beyond (suc n) rest h = line-beyond n rest h

tabs-beyond : (n : ℕ) (rest : List ℕ) → tabs (replicate n 32 ++ rest) ≡ tabs rest
tabs-beyond zero rest = refl
tabs-beyond (suc n) rest = tabs-beyond n rest

module _ (text rest : List ℕ) (spaces : ℕ) (run : spaces ≡ run_length 32 text) (beyond : rest ≡ drop spaces text) where
  front : replicate spaces 32 ++ rest ≡ text
  front = ap₂ (λ n t. replicate n 32 ++ t) run (beyond ∙ ap (λ n. drop n text) run) ∙ spaces-front text

  pub columns_line : is_line text ≡ true → is_line rest ≡ true
  columns_line h = line-beyond spaces rest (ap is_line front ∙ h)

  pub columns_fit : (before : ℕ) → before + length text + 3 * tabs text < 2 ^ 64 → before + spaces + length rest + 3 * tabs rest < 2 ^ 64
  columns_fit before h =
      omega (arith, h, ap length front, length-append (replicate spaces 32) rest, length-replicate {A = ℕ} spaces 32, ap tabs front, tabs-beyond spaces rest)

  pub columns_seen : (n : ℕ) → replicate (n + spaces) 32 ++ rest ≡ replicate n 32 ++ text
  columns_seen n = replicate-more n spaces rest ∙ ap (λ t. replicate n 32 ++ t) front

-- the spaces before a text, as the search counts them
pub spaces_run : (text : List ℕ) → run_length 32 text ≡ position_or_len is_no_space text
unfolding run_length
spaces_run [] = refl
spaces_run (b ∷ bs) = go (b == 32) (spaces_run bs)
  where
    go : (is : Bool) → run_length 32 bs ≡ position_or_len is_no_space bs
        → elim is as (λ _. ℕ) [ true ↦ suc (run_length 32 bs) | false ↦ 0 ] ≡ cond (not (not is)) (1 + position_or_len is_no_space bs) 0
    go true rest = omega (arith, rest)
    go false rest = refl
