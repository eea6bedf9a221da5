-- An item that shows by its first bytes: its marker, one space, and a byte that is neither blank nor the first of the marker.
use Rattle.std.proofs.Common.{◌≡◌, ℕ, zero, suc, ◌+◌, ◌-◌, ◌<◌, ◌≤◌, Bool, true, false, ◌==◌, ◌&&◌, ◌||◌, List, [], ◌∷◌, ◌++◌, length, take, drop, drop-cons, get_or, replicate, Some, refl, ◌∙◌, sym, ap, ap₂, subst, arith}
use Rattle.std.specs.Prelude.{cond, nat_le}
use Rattle.std.specs.List.{list_all, count_by}
use Rattle.std.proofs.lemmas.Bool.Decides.{nat_tests}
use Rattle.cm_text.specs.Rules.{Rules}
use Rattle.cm_text.specs.Lines.{LineView}
use Rattle.cm_text.specs.Indentation.{indent_from, indent_of, strip_from, strip_columns}
use Rattle.cm_text.specs.LineText.{tabs}
use Rattle.cm_text.specs.Views.{seen_view}
use Rattle.cm_text.proofs.lemmas.IndentationLemmas.{tabs-cons}
use Rattle.cm_text.proofs.lemmas.UnescapingLemmas.{boundary-at}
use Rattle.std.specs.Str.{IsCharBoundary, IsUtf8}
use Rattle.std.specs.Char.{is_ascii_digit}
use Rattle.std.specs.Option.{option_map}
use Rattle.cm_block.proofs.lemmas.MarkerPlaces.{marked}
use Rattle.cm_text.specs.declared.view.View.{View}
use Rattle.cm_scan.specs.Words.{is_space_or_tab, is_blank_text, trim_start, skip, given, ◌<|>◌}
use Rattle.cm_scan.specs.blocks.Lines.{is_blank, content_of, past}
use Rattle.cm_scan.specs.blocks.LineForms.{ItemMarker, fewest_marks, is_break_of, is_thematic_break, bullet_kind, marker_at_gap, bullet_marker, ordered_marker, item_marker}
use Rattle.cm_tree.specs.declared.tree.ListKind.{ListKind}
use Rattle.cm_scan.specs.blocks.Starts.{BreakLine, ItemStart, or_text, start_of_content, start_of, after_marker, content_offset}
use Rattle.cm_scan.proofs.lemmas.texts.ToldApart.{differs}
use Rattle.cm_block.specs.steps.StartViews.{begins_break, begins_fence}
use Rattle.cm_block.specs.steps.ContinuationViews.{begins_plain, PlainMarker, StartsPlainly, StartsItem}
use Rattle.cm_block.proofs.lemmas.ContinuationLemmas.{column_is, first_is_content}
use Rattle.cm_block.proofs.lemmas.StartLemmas.{starts-break, starts-item, item-byte, no-item, starts_content}

-- a text that starts with something, after spaces

module _ (b : ℕ) (bs : List ℕ) (plain : is_space_or_tab b ≡ false) where
  indent-none : (column : ℕ) → indent_from column (b ∷ bs) ≡ 0
  indent-none column = grind (arith, nat_tests, plain)

  indent-spaces : (n column : ℕ) → indent_from column (replicate n 32 ++ b ∷ bs) ≡ n
  indent-spaces zero column = indent-none column
  indent-spaces (suc n) column = let h : indent_from (column + 1) (replicate n 32 ++ b ∷ bs) ≡ n = indent-spaces n (column + 1) in omega (arith, h)

  content-spaces : (n : ℕ) → trim_start (replicate n 32 ++ b ∷ bs) ≡ b ∷ bs
  unfolding skip
  content-spaces zero = ap (λ v. elim v as (λ _. List ℕ) [ true ↦ skip is_space_or_tab bs | false ↦ b ∷ bs ]) plain
  content-spaces (suc n) = content-spaces n

  some-text : (n : ℕ) → is_blank_text (replicate n 32 ++ b ∷ bs) ≡ false
  some-text zero = grind (arith, plain)
  some-text (suc n) = some-text n

pub plain_content : (n : ℕ) (text : List ℕ) → begins_plain text ≡ true → text ≡ trim_start (replicate n 32 ++ text)
plain_content n [] plain = absurd (cc (plain))
plain_content n (b ∷ bs) plain = sym (content-spaces b bs (grind (arith, plain)) n)

pub plain_indent : (n column : ℕ) (text : List ℕ) → begins_plain text ≡ true → indent_from column (replicate n 32 ++ text) ≡ n
plain_indent n column [] plain = absurd (cc (plain))
plain_indent n column (b ∷ bs) plain = indent-spaces b bs (grind (arith, plain)) n column

pub plain_some : (n : ℕ) (text : List ℕ) → begins_plain text ≡ true → is_blank_text (replicate n 32 ++ text) ≡ false
plain_some n [] plain = absurd (cc (plain))
plain_some n (b ∷ bs) plain = some-text b bs (grind (arith, plain)) n

-- no thematic break has two different bytes that aren't blank

all-fails : (p : ℕ → Bool) (xs : List ℕ) (k : ℕ) → k < length xs → p (get_or xs k 0) ≡ false → list_all p xs ≡ false
all-fails p [] k within e = absurd (omega (arith, within))
all-fails p (x ∷ xs) zero within e = ap (λ v. v && list_all p xs) e
all-fails p (x ∷ xs) (suc k) within e = go (p x) (all-fails p xs k (omega (arith, within)) e)
  where
    go : (v : Bool) → list_all p xs ≡ false → (v && list_all p xs) ≡ false
    go true h = h
    go false h = refl

module _ (text : List ℕ) (b k : ℕ) (some : 0 < length text) (first : get_or text 0 0 ≡ b) (plain : is_space_or_tab b ≡ false)
    (within : k < length text) (plainly : is_space_or_tab (get_or text k 0) ≡ false) (other : (get_or text k 0 == b) ≡ false) where
  not-break-of : (marker : ℕ) → is_break_of marker text ≡ false
  not-break-of marker = go (b == marker) refl
    where
      fails : (i : ℕ) → i < length text → (get_or text i 0 == marker || is_space_or_tab (get_or text i 0)) ≡ false → is_break_of marker text ≡ false
      fails i inside e = ap (λ v. v && nat_le fewest_marks (count_by (λ x. x == marker) text)) (all-fails (λ x. x == marker || is_space_or_tab x) text i inside e)

      go : (same : Bool) → (b == marker) ≡ same → is_break_of marker text ≡ false
      go true e =
          let is : b ≡ marker = grind (arith, nat_tests, e) in
          let differ : (get_or text k 0 == marker) ≡ false = subst (λ m. (get_or text k 0 == m) ≡ false) is other in
          fails k within (ap₂ (λ v w. v || w) differ plainly)
      go false e = fails 0 some (ap₂ (λ v w. v || w) (ap (λ x. x == marker) first ∙ e) (ap is_space_or_tab first ∙ plain))

  pub no_break : is_thematic_break text ≡ false
  unfolding is_thematic_break
  no_break = rw (not-break-of 45, not-break-of 95, not-break-of 42) refl

-- a text that starts with a marker

module _ (b : ℕ) (bs : List ℕ) (m : ItemMarker) (marks : item_marker (b ∷ bs) ≡ Some m) where
  -- its first byte is none with which no marker starts
  not-other : (test : ℕ → Bool) → test 45 ≡ false → test 43 ≡ false → test 42 ≡ false → ((c : ℕ) → test c ≡ true → is_ascii_digit c ≡ false) → test b ≡ false
  not-other test h p s d = go (test b) refl
    where
      go : (v : Bool) → test b ≡ v → v ≡ false
      go true e = absurd (cc (marks, no-item b bs (differs test b 45 e h) (differs test b 43 e p) (differs test b 42 e s) (d b e)))
      go false e = refl

  pub marked_plain : is_space_or_tab b ≡ false
  marked_plain = not-other is_space_or_tab refl refl refl (λ c e. grind (arith, nat_tests, e))

  not-byte : (c : ℕ) → (45 == c) ≡ false → (43 == c) ≡ false → (42 == c) ≡ false → is_ascii_digit c ≡ false → (b == c) ≡ false
  not-byte c h p s d = not-other (λ x. x == c) h p s (λ x e. let is : x ≡ c = grind (arith, nat_tests, e) in ap is_ascii_digit is ∙ d)

  module _ (rules : Rules) (unbroken : is_thematic_break (b ∷ bs) ≡ false) where
    pub starts_marked : start_of_content rules (b ∷ bs) ≡ ItemStart m
    starts_marked = go (begins_break b) refl
      where
        differ : (c : ℕ) → (b == c) ≡ false → b ≡ c → ⊥
        differ c e is = absurd (grind (arith, nat_tests, e, is))

        go : (v : Bool) → begins_break b ≡ v → start_of_content rules (b ∷ bs) ≡ ItemStart m
        go true e = sym (starts-break rules b bs e) ∙ ap₂ (λ t o. or_text (given t BreakLine <|> option_map ItemStart o)) unbroken marks
        go false e =
            sym (starts-item rules b bs
            (item-byte b (differ 62 (not-byte 62 refl refl refl refl)) (differ 35 (not-byte 35 refl refl refl refl)) (differ 60 (not-byte 60 refl refl refl refl)) e
            (not-other begins_fence refl refl refl (λ c h. grind (arith, nat_tests, h)))))
            ∙ ap (λ o. or_text (option_map ItemStart o)) marks

-- a bullet before a space

bullet-before : (b : ℕ) (bs : List ℕ) (kind : ListKind) → bullet_kind b ≡ Some kind → item_marker (b ∷ 32 ∷ bs) ≡ Some (record { kind = kind; digits = 0 })
unfolding item_marker bullet_marker
bullet-before b bs kind e = ap (λ k. marker_at_gap k 0 (32 ∷ bs) <|> ordered_marker (b ∷ 32 ∷ bs)) e

pub bullet_marks : (text bytes : List ℕ) (b : ℕ) (kind : ListKind) → bullet_kind b ≡ Some kind → bytes ≡ text → 2 ≤ length bytes → get_or bytes 0 0 ≡ b → get_or bytes 1 0 ≡ 32
    → item_marker text ≡ Some (record { kind = kind; digits = 0 })
bullet_marks text bytes b kind bullet is many first space = ap item_marker (sym is) ∙ go bytes many first space
  where
    go : (t : List ℕ) → 2 ≤ length t → get_or t 0 0 ≡ b → get_or t 1 0 ≡ 32 → item_marker t ≡ Some (record { kind = kind; digits = 0 })
    go [] many first space = absurd (omega (arith, many))
    go (x ∷ []) many first space = absurd (omega (arith, many))
    go (x ∷ y ∷ ys) many first space = ap₂ (λ i j. item_marker (i ∷ j ∷ ys)) first space ∙ bullet-before b ys kind bullet

-- the line

module _ (b : ℕ) (bs : List ℕ) (m : ItemMarker) (end : ℕ) (at : PlainMarker (b ∷ bs) m end) (n : ℕ) (near : n ≤ 3) (line : LineView) (eager : line.lazy ≡ false)
    (shows : line.text ≡ replicate n 32 ++ b ∷ bs) where
  first : is_space_or_tab b ≡ false
  first = marked_plain b bs m at.marks

  indent : indent_of line ≡ n
  indent = ap (indent_from line.column) shows ∙ indent-spaces b bs first n line.column

  content : content_of line ≡ b ∷ bs
  content = ap trim_start shows ∙ content-spaces b bs first n

  starts : (rules : Rules) → start_of rules line ≡ ItemStart m
  starts rules =
      sym (starts_content rules line eager (omega (arith, indent, near))) ∙ ap (start_of_content rules) content
      ∙ starts_marked b bs m at.marks rules (no_break (b ∷ bs) b (end + 1) (omega (arith, at.within)) refl first at.within at.plain at.other)

  module _ (after : LineView) (is : after ≡ after_marker m line) where
    c : ℕ
    c = get_or (b ∷ bs) (end + 1) 0

    cs : List ℕ
    cs = drop (suc (end + 1)) (b ∷ bs)

    rest : drop (suc m.digits) (b ∷ bs) ≡ 32 ∷ c ∷ cs
    unfolding c cs
    rest =
        let width : suc m.digits ≡ end = omega (arith, at.ends) in
        ap (λ i. drop i (b ∷ bs)) width ∙ drop-cons (b ∷ bs) end 0 (omega (arith, at.within)) ∙ ap₂ (λ x xs. x ∷ xs) at.space (ap (λ i. drop i (b ∷ bs)) (let e : suc end ≡ end + 1 = omega arith in e) ∙ drop-cons (b ∷ bs) (end + 1) 0 at.within)

    follows : after.text ≡ 32 ∷ c ∷ cs
    unfolding past
    follows = ap (λ (l : LineView). l.text) is ∙ ap (drop (suc m.digits)) content ∙ rest

    one-column : indent_of after ≡ 1
    unfolding c
    one-column =
        let none : indent_from (after.column + 1) (c ∷ cs) ≡ 0 = indent-none c cs at.plain (after.column + 1) in
        ap (indent_from after.column) follows ∙ omega (arith, none)

    offset : content_offset after ≡ 1
    unfolding content_offset c
    offset =
        let some : is_blank after ≡ false = ap is_blank_text follows ∙ some-text c cs at.plain 1 in
        rw (some, one-column) refl

    inner : LineView
    inner = record { column = line.column + n + (end + 1); text = drop (end + 1) (b ∷ bs); lazy = line.lazy }

    enters : inner ≡ strip_columns 1 after
    unfolding inner c cs past
    enters =
        let left : drop (end + 1) (b ∷ bs) ≡ c ∷ cs = drop-cons (b ∷ bs) (end + 1) 0 at.within in
        let place : line.column + n + (end + 1) ≡ after.column + 1 = omega (arith, ap (λ (l : LineView). l.column) is, indent, at.ends) in
        ap₂ (λ i t. record { column = i; text = t; lazy = line.lazy }) place left
        ∙ ap (λ z. record { column = after.column + 1; text = c ∷ cs; lazy = z }) (sym (ap (λ (l : LineView). l.lazy) is))
        ∙ sym (ap (λ t. let k = strip_from 1 after.column t in record { column = k.0; text = k.1; lazy = after.lazy }) follows)

    item : (column : ℕ) → column ≡ n + end + 1 → StartsItem line m.kind column inner
    unfolding c
    item column place = record {
      marker = m;
      starts = starts;
      kind_is = refl;
      column_is = omega (arith, column_is m line after n 1 is (sym indent) (sym offset), place, at.ends);
      inner_is = sym (first_is_content m line after 1 is (sym offset)) ∙ sym enters;
      some = ap is_blank_text shows ∙ some-text b bs first n;
      more = ap is_blank enters ∙ ap (λ t. is_blank_text (strip_from 1 after.column t).1) follows ∙ some-text c cs at.plain 0;
    }

tabs-one-more : (text : List ℕ) (k : ℕ) → k < length text → get_or text k 0 ≡ 32 → tabs (take (suc k) text) ≡ tabs (take k text)
tabs-one-more [] k within e = absurd (omega (arith, within))
tabs-one-more (x ∷ xs) zero within e = ap (λ b. tabs (b ∷ [])) e
tabs-one-more (x ∷ xs) (suc k) within e =
    tabs-cons x (take (suc k) xs) ∙ ap (λ n. cond (x == 9) 1 0 + n) (tabs-one-more xs k (omega (arith, within)) e) ∙ sym (tabs-cons x (take k xs))

module _ (line : View) (m : ItemMarker) (end : ℕ) (h : StartsPlainly line m end) where
  pub plain_starts : (rules : Rules) → start_of rules (seen_view line) ≡ ItemStart m
  plain_starts rules = go line.rest.now refl h.at
    where
      go : (text : List ℕ) → line.rest.now ≡ text → PlainMarker text m end → start_of rules (seen_view line) ≡ ItemStart m
      go [] e at = absurd (omega (arith, at.within))
      go (b ∷ bs) e at = starts b bs m end at line.spaces h.near (seen_view line) h.eager (ap (λ t. replicate line.spaces 32 ++ t) e) rules

  pub plain_shows : is_blank (seen_view line) ≡ false
  plain_shows = go line.rest.now refl h.at
    where
      go : (text : List ℕ) → line.rest.now ≡ text → PlainMarker text m end → is_blank (seen_view line) ≡ false
      go [] e at = absurd (omega (arith, at.within))
      go (b ∷ bs) e at = ap (λ t. is_blank_text (replicate line.spaces 32 ++ t)) e ∙ some-text b bs (marked_plain b bs m at.marks) line.spaces

  pub plain_item : (column : ℕ) (entered : LineView) → column ≡ line.spaces + end + 1
      → entered ≡ record { column = line.column + line.spaces + (end + 1); text = drop (end + 1) line.rest.now; lazy = line.lazy } → StartsItem (seen_view line) m.kind column entered
  unfolding inner
  plain_item column entered place is = go line.rest.now refl h.at
    where
      go : (text : List ℕ) → line.rest.now ≡ text → PlainMarker text m end → StartsItem (seen_view line) m.kind column entered
      go [] e at = absurd (omega (arith, at.within))
      go (b ∷ bs) e at =
          subst (λ (l : LineView). StartsItem (seen_view line) m.kind column l)
          (sym (is ∙ ap (λ t. record { column = line.column + line.spaces + (end + 1); text = drop (end + 1) t; lazy = line.lazy }) e))
          (item b bs m end at line.spaces h.near (seen_view line) h.eager (ap (λ t. replicate line.spaces 32 ++ t) e) (after_marker m (seen_view line)) refl column place)

  -- no tab is before the content
  pub plain_tabs : (text : List ℕ) → text ≡ line.rest.now → tabs (take (end + 1) text) ≡ 0
  plain_tabs text is =
      let width : end ≡ suc m.digits = omega (arith, h.at.ends) in
      ap (λ t. tabs (take (end + 1) t)) is
      ∙ ap (λ i. tabs (take i line.rest.now)) (let e : end + 1 ≡ suc end = omega arith in e)
      ∙ tabs-one-more line.rest.now end (omega (arith, h.at.within)) h.at.space
      ∙ ap (λ i. tabs (take i line.rest.now)) width
      ∙ (marked line.rest.now m h.at.marks).plain

  pub plain_boundary : (text : List ℕ) → text ≡ line.rest.now → IsUtf8 text → IsCharBoundary text (end + 1)
  plain_boundary text is utf8 =
      let width : end + 1 - 1 ≡ end = omega arith in
      let byte : get_or text (end + 1 - 1) 0 ≡ 32 = ap₂ (λ t i. get_or t i 0) is width ∙ h.at.space in
      boundary-at text (end + 1) utf8 (omega arith, omega (arith, h.at.within, ap length is), omega (arith, byte))
