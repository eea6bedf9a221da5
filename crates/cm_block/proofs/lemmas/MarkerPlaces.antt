-- What is at the start of a line that starts an item, and after its marker.
use Rattle.std.proofs.Common.{◌≡◌, ℕ, zero, suc, ◌+◌, ◌<◌, ◌≤◌, ◌==◌, Bool, true, false, List, [], ◌∷◌, ◌++◌, length, drop, take, Option, Some, None, refl, ◌∙◌, sym, ap, subst, arith, add-one}
use Rattle.std.specs.Prelude.{nat_le}
use Rattle.std.specs.Str.{IsCharBoundary}
use Rattle.std.specs.List.{slice_index}
use Rattle.std.specs.Char.{is_ascii_digit}
use Rattle.cm_text.specs.Rules.{Rules}
use Rattle.cm_text.specs.Lines.{LineView}
use Rattle.cm_text.specs.LineText.{tabs}
use Rattle.cm_text.specs.Indentation.{indent_of}
use Rattle.cm_scan.specs.Words.{begins_with, front_of, skip, is_at_gap, given, ◌<|>◌}
use Rattle.cm_scan.specs.blocks.Lines.{content_of}
use Rattle.cm_scan.specs.blocks.LineForms.{most_digits, Heading, Fence, ItemMarker, is_thematic_break, atx_heading, opening_fence, bullet_kind, ordered_kind, marker_at_gap, bullet_marker, decimal_value, is_number, marker_after, ordered_marker, item_marker}
use Rattle.cm_tree.specs.declared.tree.ListKind.{ListKind}
use Rattle.cm_scan.specs.blocks.HtmlBlocks.{HtmlKind, html_start}
use Rattle.cm_scan.specs.blocks.Starts.{Start, QuoteMarker, ItemStart, start_of_content, start_of}
use Rattle.cm_scan.specs.steps.LineSteps.{start_by}
use Rattle.cm_block.specs.steps.ContinuationViews.{begins_quote}
use Rattle.cm_block.proofs.lemmas.StartLemmas.{first, starts_lazy, starts_code, starts_content}
use Rattle.std.proofs.lemmas.Bool.Decides.{nat_tests}

-- a marker at the start of a text
pub record Marked (text : List ℕ) (marker : ItemMarker) : Type 0 where
  pub few : marker.digits ≤ most_digits
  pub within : suc marker.digits ≤ length text
  pub plain : tabs (take (suc marker.digits) text) ≡ 0
  pub gap : is_at_gap (drop (suc marker.digits) text) ≡ true

marker-is : (kind : Option ListKind) (digits : ℕ) (beyond : List ℕ) (m : ItemMarker) → marker_at_gap kind digits beyond ≡ Some m
    → (m.digits ≡ digits) × (is_at_gap beyond ≡ true)
marker-is None digits beyond m e = absurd (cc e)
marker-is (Some kind) digits beyond m e = go (is_at_gap beyond) refl e
  where
    go : (b : Bool) → is_at_gap beyond ≡ b → given b (record { kind = kind; digits = digits }) ≡ Some m → (m.digits ≡ digits) × (is_at_gap beyond ≡ true)
    go true g e = (ap (λ (o : Option ItemMarker). elim o [ Some n ↦ n.digits | None ↦ digits ]) (sym e), g)
    go false g e = absurd (cc e)

bullet-plain : (b : ℕ) (bs : List ℕ) (m : ItemMarker) → bullet_marker (b ∷ bs) ≡ Some m → (b == 9) ≡ false
unfolding bullet_marker
bullet-plain b bs m e = grind (arith, e)

front-skip : (test : ℕ → Bool) (text : List ℕ) → front_of test text ++ skip test text ≡ text
unfolding front_of skip
front-skip test [] = refl
front-skip test (b ∷ bs) = let h : front_of test bs ++ skip test bs ≡ bs = front-skip test bs in go (test b) h
  where
    go : (v : Bool) → front_of test bs ++ skip test bs ≡ bs
        → (elim v as (λ _. List ℕ) [ true ↦ b ∷ front_of test bs | false ↦ [] ]) ++ (elim v as (λ _. List ℕ) [ true ↦ skip test bs | false ↦ b ∷ bs ]) ≡ b ∷ bs
    go true h = ap (λ t. b ∷ t) h
    go false h = refl

digits-plain : (text rest : List ℕ) → tabs (front_of is_ascii_digit text ++ rest) ≡ tabs rest
unfolding front_of
digits-plain [] rest = refl
digits-plain (b ∷ bs) rest = let h : tabs (front_of is_ascii_digit bs ++ rest) ≡ tabs rest = digits-plain bs rest in grind (arith, h)

take-beyond : (ds cs : List ℕ) (c : ℕ) → take (suc (length ds)) (ds ++ c ∷ cs) ≡ ds ++ c ∷ []
take-beyond [] cs c = refl
take-beyond (d ∷ ds) cs c = ap (λ t. d ∷ t) (take-beyond ds cs c)

drop-beyond : (ds cs : List ℕ) (c : ℕ) → drop (suc (length ds)) (ds ++ c ∷ cs) ≡ cs
drop-beyond [] cs c = refl
drop-beyond (d ∷ ds) cs c = drop-beyond ds cs c

length-beyond : (ds cs : List ℕ) (c : ℕ) → suc (length ds) ≤ length (ds ++ c ∷ cs)
length-beyond [] cs c = omega arith
length-beyond (d ∷ ds) cs c = omega (arith, length-beyond ds cs c)

-- a number of bytes, and a byte after them
of-width : (ds cs : List ℕ) (c : ℕ) (m : ItemMarker) → m.digits ≡ length ds → length ds ≤ most_digits → tabs (ds ++ c ∷ []) ≡ 0 → is_at_gap cs ≡ true → Marked (ds ++ c ∷ cs) m
of-width ds cs c m width few plain gap = record {
  few = omega (arith, width, few);
  within = omega (arith, width, length-beyond ds cs c);
  plain = subst (λ n. tabs (take (suc n) (ds ++ c ∷ cs)) ≡ 0) (sym width) (ap tabs (take-beyond ds cs c) ∙ plain);
  gap = subst (λ n. is_at_gap (drop (suc n) (ds ++ c ∷ cs)) ≡ true) (sym width) (ap is_at_gap (drop-beyond ds cs c) ∙ gap);
}

one-plain : (b : ℕ) → (b == 9) ≡ false → tabs (b ∷ []) ≡ 0
one-plain b h = grind (arith, h)

kind-plain : (n c digits : ℕ) (beyond : List ℕ) (m : ItemMarker) → marker_at_gap (ordered_kind n c) digits beyond ≡ Some m → (c == 9) ≡ false
kind-plain n c digits beyond m e = grind (arith, e)

number-few : (ds : List ℕ) → is_number ds ≡ true → length ds ≤ most_digits
number-few ds e = grind (arith, e)

ordered-marked : (text rest : List ℕ) (m : ItemMarker) → skip is_ascii_digit text ≡ rest → marker_after (front_of is_ascii_digit text) rest ≡ Some m → Marked text m
unfolding marker_after
ordered-marked text [] m is e = absurd (cc e)
ordered-marked text (c ∷ cs) m is e = go (is_number ds) refl e
  where
    ds : List ℕ
    ds = front_of is_ascii_digit text

    whole : ds ++ c ∷ cs ≡ text
    whole = ap (λ r. ds ++ r) (sym is) ∙ front-skip is_ascii_digit text

    go : (b : Bool) → is_number ds ≡ b → (elim b as (λ _. Option ItemMarker) [ true ↦ marker_at_gap (ordered_kind (decimal_value ds) c) (length ds) cs | false ↦ None ]) ≡ Some m → Marked text m
    go false n e = absurd (cc e)
    go true n e =
        let h = marker-is (ordered_kind (decimal_value ds) c) (length ds) cs m e in
        subst (λ t. Marked t m) whole
        (of-width ds cs c m h.0 (number-few ds n) (digits-plain text (c ∷ []) ∙ one-plain c (kind-plain (decimal_value ds) c (length ds) cs m e)) h.1)

pub marked : (text : List ℕ) (m : ItemMarker) → item_marker text ≡ Some m → Marked text m
unfolding item_marker bullet_marker ordered_marker
marked [] m e = ordered-marked [] (skip is_ascii_digit []) m refl e
marked (b ∷ bs) m e = go (bullet_marker (b ∷ bs)) refl e
  where
    go : (o : Option ItemMarker) → bullet_marker (b ∷ bs) ≡ o → (o <|> ordered_marker (b ∷ bs)) ≡ Some m → Marked (b ∷ bs) m
    go (Some n) is e =
        let h = marker-is (bullet_kind b) 0 bs m (is ∙ e) in
        of-width [] bs b m h.0 (omega arith) (one-plain b (bullet-plain b bs m (is ∙ e))) h.1
    go None is e = ordered-marked (b ∷ bs) (skip is_ascii_digit (b ∷ bs)) m refl e

-- a line that starts an item has its marker after at most 3 columns

first-item : (q : Bool) (h : Option Heading) (f : Option Fence) (k : Option HtmlKind) (b : Bool) (i : Option ItemMarker) (m : ItemMarker)
    → first q h f k b i ≡ ItemStart m → i ≡ Some m
first-item true h f k b i m e = absurd (cc e)
first-item false (Some h) f k b i m e = absurd (cc e)
first-item false None (Some f) k b i m e = absurd (cc e)
first-item false None None (Some k) b i m e = absurd (cc e)
first-item false None None None true i m e = absurd (cc e)
first-item false None None None false (Some n) m e = ap (λ (s : Start). elim s [ ItemStart x ↦ Some x | _ ↦ None ]) e
first-item false None None None false None m e = absurd (cc e)

module _ (rules : Rules) where
  pub item-begins : (line : LineView) (m : ItemMarker) → start_of rules line ≡ ItemStart m → (indent_of line < 4) × (item_marker (content_of line) ≡ Some m)
  unfolding start_of start_of_content
  item-begins line m e = go line.lazy (nat_le 4 (indent_of line)) refl e
    where
      text : List ℕ
      text = content_of line

      near : nat_le 4 (indent_of line) ≡ false → indent_of line < 4
      near h = grind (arith, h)

      go : (lazy far : Bool) → nat_le 4 (indent_of line) ≡ far
          → start_by lazy far (start_of_content rules text) ≡ ItemStart m
          → (indent_of line < 4) × (item_marker text ≡ Some m)
      go true far h e = absurd (cc e)
      go false true h e = absurd (cc e)
      go false false h e = (near h, first-item (begins_with 62 text) (atx_heading text) (opening_fence text) (html_start rules text) (is_thematic_break text) (item_marker text) m e)

-- a quote starts just where a `>` is after at most 3 columns

quote-first : (h : Option Heading) (f : Option Fence) (k : Option HtmlKind) (b : Bool) (i : Option ItemMarker) → begins_quote (first false h f k b i) ≡ false
quote-first (Some h) f k b i = refl
quote-first None (Some f) k b i = refl
quote-first None None (Some k) b i = refl
quote-first None None None true i = refl
quote-first None None None false (Some i) = refl
quote-first None None None false None = refl

module _ (rules : Rules) where
  pub no-quote : (text : List ℕ) → begins_with 62 text ≡ false → begins_quote (start_of_content rules text) ≡ false
  unfolding start_of_content
  no-quote text e =
      ap (λ q. begins_quote (first q (atx_heading text) (opening_fence text) (html_start rules text) (is_thematic_break text) (item_marker text))) e
      ∙ quote-first (atx_heading text) (opening_fence text) (html_start rules text) (is_thematic_break text) (item_marker text)

  pub a-quote : (text : List ℕ) → begins_with 62 text ≡ true → start_of_content rules text ≡ QuoteMarker
  unfolding start_of_content
  a-quote text e = ap (λ q. first q (atx_heading text) (opening_fence text) (html_start rules text) (is_thematic_break text) (item_marker text)) e

  -- a line whose content doesn't start with its marker
  pub no_quote : (line : LineView) → begins_with 62 (content_of line) ≡ false → begins_quote (start_of rules line) ≡ false
  no_quote line e = go line.lazy (nat_le 4 (indent_of line)) refl refl
    where
      go : (lazy far : Bool) → line.lazy ≡ lazy → nat_le 4 (indent_of line) ≡ far → begins_quote (start_of rules line) ≡ false
      go true far is reach = ap begins_quote (sym (starts_lazy rules line is))
      go false true is reach = ap begins_quote (sym (starts_code rules line is (grind (arith, nat_tests, reach))))
      go false false is reach = ap begins_quote (sym (starts_content rules line is (grind (arith, nat_tests, reach)))) ∙ no-quote (content_of line) e

pub quote_plain : (text : List ℕ) → begins_with 62 text ≡ true → tabs (take 1 text) ≡ 0
quote_plain [] e = absurd (cc e)
quote_plain (b ∷ bs) e = grind (arith, nat_tests, e)

gap-byte : (b : ℕ) (bs : List ℕ) → is_at_gap (b ∷ bs) ≡ true → b < 128
gap-byte b bs e = grind (arith, e)

gap-at : (text : List ℕ) (k : ℕ) → is_at_gap (drop k text) ≡ true → k < length text → slice_index text k < 128
gap-at [] k e less = absurd (omega arith)
gap-at (b ∷ bs) zero e less = gap-byte b bs e
gap-at (b ∷ bs) (suc k) e less = gap-at bs k e (omega arith)

pub gap_boundary : (text : List ℕ) (m : ItemMarker) → Marked text m → IsCharBoundary text (m.digits + 1)
gap_boundary text m h =
    let here : m.digits + 1 < length text → slice_index text (m.digits + 1) < 128 = λ less. gap-at text (m.digits + 1) (rw add-one h.gap) less in
    (omega (arith, h.within), λ less far. absurd (omega (arith, here less, far)))
