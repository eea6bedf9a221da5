-- Lines of text, one after another.
use Rattle.std.proofs.Common.{◌≡◌, ◌∙◌, ℕ, zero, suc, ◌+◌, ◌-◌, ◌<◌, ◌≤◌, Bool, true, false, ◌==◌, ◌&&◌, List, [], ◌∷◌, ◌++◌, length, map, take, drop, get_or, refl, sym, ap, ap₂, subst, arith, append_assoc, append-nil, length-append, length-drop, take-append-drop, take-add, add-one, IsUtf8, IsCharBoundary, drop-cons, drop-drop, drop_at, drop_of_length-le, length-take-le, get_or-drop, get_or-take}
use Rattle.std.specs.List.{list_all, flat_map}
use Rattle.std.proofs.lemmas.Bool.{and_parts, eqb-true}
use Rattle.std.proofs.lemmas.Grind.{flat_map-append}
use Rattle.std.proofs.lemmas.List.{length-map, get_or_at}
use Rattle.std.proofs.lemmas.Str.{IsCharBoundary-start, IsCharBoundary-after_ascii}
use Rattle.std.proofs.lemmas.List.Folds.{list_all-append}
use Rattle.cm_text.specs.LineText.{is_line}
use Rattle.cm_text.specs.Lines.{LineView, lines_of, plain_line, plain_lines_of, with_line_feed}
use Rattle.cm_text.specs.Cut.{Cut, cut_more, begun, without}
use Rattle.cm_text.specs.TextLines.{begins_text, is_text_after, are_text, AreTextLines}
use Rattle.cm_text.specs.declared.text_lines.TextAhead.{TextAhead}
use Rattle.cm_text.specs.steps.FirstLine.{IsFirstLine}
use Rattle.cm_text.specs.steps.TextAhead.{IsAhead}
use Rattle.cm_text.proofs.lemmas.CutLemmas.{beyond, line_ends, at_byte}
use Rattle.cm_text.proofs.lemmas.LinesLemmas.{lines_are_computed, lines_are_lines, lines_with_line_feeds}

-- the lines of a text are lines
pub all_lines : (text : List ℕ) → list_all is_line (lines_of text) ≡ true
all_lines text = lines_are_lines text (lines_of text) (lines_are_computed text)

-- the cut of lines, each with its line feed, and of more after them
pub lines_cut : (lines : List (List ℕ)) (more : List ℕ) → list_all is_line lines ≡ true
    → cut_more (begun false) (flat_map with_line_feed lines ++ more) ≡ beyond (map plain_line lines) (cut_more (begun false) more)
lines_cut [] more h = refl
lines_cut (line ∷ lines) more h =
    let parts = and_parts (is_line line) (list_all is_line lines) h in
    let rest = flat_map with_line_feed lines in
    ap (cut_more (begun false)) (append_assoc (with_line_feed line) rest more ∙ append_assoc line (10 ∷ []) (rest ++ more))
    ∙ line_ends line 10 (rest ++ more) parts.0 refl
    ∙ ap (beyond (plain_line line ∷ [])) (lines_cut lines more parts.1)

-- one line more

-- how many spaces the next line of text may start with, after the given number of lines
abbrev pub next_spaces : ℕ → ℕ → ℕ
next_spaces zero spaces = spaces
next_spaces (suc n) spaces = 0

pub no_spaces : (n spaces : ℕ) → next_spaces (n + 1) spaces ≡ 0
no_spaces n spaces = ap (λ m. next_spaces m spaces) (add-one n)

pub text_after : (spaces : ℕ) (line : List ℕ) → ((k : ℕ) → k < spaces → get_or line k 0 ≡ 32) → spaces < length line → begins_text (get_or line spaces 0) ≡ true
    → is_text_after spaces line ≡ true
text_after spaces [] front within begins = absurd (omega (arith, within))
text_after zero (b ∷ bs) front within begins = begins
text_after (suc n) (b ∷ bs) front within begins =
    let first : b ≡ 32 = front 0 (omega arith) in
    ap (λ c. (c == 32) && is_text_after n bs) first ∙ text_after n bs (λ k below. front (suc k) (omega (arith, below))) (omega (arith, within)) begins

pub text_more : (spaces : ℕ) (lines : List (List ℕ)) (line : List ℕ) → are_text spaces lines ≡ true → is_text_after (next_spaces (length lines) spaces) line ≡ true
    → are_text spaces (lines ++ line ∷ []) ≡ true
text_more spaces [] line h k = ap (λ b. b && true) k
text_more spaces (l ∷ ls) line h k =
    let parts = and_parts (is_text_after spaces l) (are_text 0 ls) h in
    ap (λ b. b && are_text 0 (ls ++ line ∷ [])) parts.0 ∙ text_more 0 ls line parts.1 (plain (length ls) k)
  where
    plain : (n : ℕ) → is_text_after 0 line ≡ true → is_text_after (next_spaces n 0) line ≡ true
    plain zero k = k
    plain (suc n) k = k

-- a line and its line feed
pub line_taken : (text : List ℕ) (n : ℕ) → n < length text → get_or text n 0 ≡ 10 → take (n + 1) text ≡ with_line_feed (take n text)
line_taken text n within feed =
    take-add n 1 text ∙ ap (λ t. take n text ++ take 1 t) (drop-cons text n 0 within) ∙ ap (λ b. take n text ++ b ∷ []) feed

module _ (text : List ℕ) (at line : ℕ) (lines : take at text ≡ flat_map with_line_feed (lines_of (take at text)))
    (first : IsFirstLine line (drop at text)) (within : line < length (drop at text)) (feed : get_or (drop at text) line 0 ≡ 10) where
  pub more_taken : take (at + (line + 1)) text ≡ flat_map with_line_feed (lines_of (take at text) ++ take line (drop at text) ∷ [])
  more_taken =
      take-add at (line + 1) text ∙ ap₂ (λ t w. t ++ w) lines (line_taken (drop at text) line within feed ∙ sym (append-nil (with_line_feed (take line (drop at text)))))
      ∙ sym (flat_map-append with_line_feed (lines_of (take at text)) (take line (drop at text) ∷ []))

  pub more_lines : lines_of (take (at + (line + 1)) text) ≡ lines_of (take at text) ++ take line (drop at text) ∷ []
  more_lines =
      ap lines_of more_taken
      ∙ lines_with_line_feeds (lines_of (take at text) ++ take line (drop at text) ∷ [])
      (list_all-append is_line (lines_of (take at text)) (take line (drop at text) ∷ []) ∙ ap₂ (λ a b. a && (b && true)) (all_lines (take at text)) first.plain)

-- one more line of text is ahead
module _ (text : List ℕ) (a : TextAhead) (h : IsAhead a text) (within : a.len + a.line < length text) (feed : get_or text (a.len + a.line) 0 ≡ 10) where
  abbrev next : List ℕ
  next = take a.line (drop a.len text)

  inside : a.line < length (drop a.len text)
  inside = omega (arith, within, length-drop a.len text)

  feed-inside : get_or (drop a.len text) a.line 0 ≡ 10
  feed-inside = get_or-drop a.len text a.line 0 ∙ feed

  byte-at : (k : ℕ) → k < a.line → get_or next k 0 ≡ get_or text (a.len + k) 0
  byte-at k below = get_or-take a.line (drop a.len text) k 0 below ∙ get_or-drop a.len text k 0

  next-length : length next ≡ a.line
  next-length = length-take-le a.line (drop a.len text) (omega (arith, inside))

  pub boundary_next : IsUtf8 text → IsCharBoundary text (a.len + (a.line + 1))
  boundary_next utf8 = subst (IsCharBoundary text) (omega arith) (IsCharBoundary-after_ascii text (a.len + a.line) utf8 within (omega (arith, feed)))

  -- without lines there are no bytes
  none-taken : 0 ≡ length (lines_of (take a.len text)) → a.len ≡ 0
  none-taken none =
      omega (arith, length-take-le a.len text h.within, ap length (h.lines ∙ ap (flat_map with_line_feed) (nothing (lines_of (take a.len text)) (sym none))))
    where
      nothing : (lines : List (List ℕ)) → length lines ≡ 0 → lines ≡ []
      nothing [] e = refl
      nothing (l ∷ ls) e = absurd (omega (arith, e))

  next-text : (n first : ℕ) → n ≡ length (lines_of (take a.len text)) → first ≡ a.len + next_spaces n a.spaces → first < a.len + a.line
      → begins_text (get_or text first 0) ≡ true → ((k : ℕ) → k < a.spaces → get_or text k 0 ≡ 32) → is_text_after (next_spaces n a.spaces) next ≡ true
  next-text zero first is at before begins front =
      text_after a.spaces next (λ k below. byte-at k (omega (arith, below, at, before)) ∙ ap (λ n. get_or text n 0) (omega (arith, none-taken is)) ∙ front k below)
      (omega (arith, before, at, next-length)) (ap begins_text (byte-at a.spaces (omega (arith, before, at)) ∙ ap (λ k. get_or text k 0) (sym at)) ∙ begins)
  next-text (suc n) first is at before begins front =
      text_after 0 next (λ k below. absurd (omega (arith, below))) (omega (arith, before, at, next-length))
      (ap begins_text (byte-at 0 (omega (arith, before, at)) ∙ ap (λ k. get_or text k 0) (sym at)) ∙ begins)

  pub text_next : (first len line : ℕ) → first ≡ a.len + next_spaces a.count a.spaces → first < a.len + a.line → begins_text (get_or text first 0) ≡ true
      → ((k : ℕ) → k < a.spaces → get_or text k 0 ≡ 32) → len ≡ a.len + (a.line + 1) → IsUtf8 text → IsFirstLine line (drop len text)
      → IsAhead (record { spaces = a.spaces; count = a.count + 1; len = len; line = line }) text
  text_next first len line at before begins front is utf8 beyond =
      let taken : take len text ≡ flat_map with_line_feed (lines_of (take a.len text) ++ next ∷ []) = ap (λ n. take n text) is ∙ more_taken text a.len a.line h.lines h.first inside feed-inside in
      let lines : lines_of (take len text) ≡ lines_of (take a.len text) ++ next ∷ [] = ap (λ n. lines_of (take n text)) is ∙ more_lines text a.len a.line h.lines h.first inside feed-inside in
      record {
        within = omega (arith, is, within);
        boundary = subst (IsCharBoundary text) (sym is) (boundary_next utf8);
        lines = taken ∙ ap (flat_map with_line_feed) (sym lines);
        counted = omega (arith, h.counted, ap length lines, length-append (lines_of (take a.len text)) (next ∷ []));
        are_text = ap (are_text a.spaces) lines ∙ text_more a.spaces (lines_of (take a.len text)) next h.are_text
            (subst (λ n. is_text_after (next_spaces n a.spaces) next ≡ true) h.counted (next-text a.count first h.counted at before begins front));
        first = beyond;
      }

-- the lines of text that were found before what is unread
module _ (after_return : Bool) (text : List ℕ) (at : ℕ) (a : TextAhead) (waits : after_return ≡ true → at ≡ length text)
    (h : IsAhead a (drop at text)) (some : 0 < a.count) where
  abbrev found : List (List ℕ)
  found = lines_of (take a.len (drop at text))

  some-bytes : (n : ℕ) → n ≡ a.len → 0 < n
  some-bytes zero is = absurd (omega (arith, some, h.counted, ap (λ k. length (lines_of (take k (drop at text)))) (sym is)))
  some-bytes (suc n) is = omega arith

  not-waiting : after_return ≡ false
  not-waiting = go after_return waits
    where
      go : (r : Bool) → (r ≡ true → at ≡ length text) → r ≡ false
      go true waits = absurd (omega (arith, some-bytes a.len refl, h.within, waits refl, length-drop at text))
      go false waits = refl

  ahead-cut : cut_more (begun after_return) (drop at text) ≡ beyond (map plain_line found) (cut_more (begun false) (drop a.len (drop at text)))
  ahead-cut =
      ap (λ r. cut_more (begun r) (drop at text)) not-waiting
      ∙ ap (cut_more (begun false)) (sym (take-append-drop a.len (drop at text)) ∙ ap (λ t. t ++ drop a.len (drop at text)) h.lines)
      ∙ lines_cut found (drop a.len (drop at text)) (all_lines (take a.len (drop at text)))

  left-beyond : (later : List LineView) → drop a.count (map plain_line found ++ later) ≡ later
  left-beyond later = drop_at (map plain_line found) later a.count (length-map found plain_line ∙ sym h.counted)

  -- they are lent,
  pub text_lent : (lines : List ℕ) → lines ≡ take a.len (drop at text)
      → (cut_more (begun after_return) (drop at text)).ended ≡ plain_lines_of lines ++ drop a.count (cut_more (begun after_return) (drop at text)).ended
  text_lent lines is =
      let more = (cut_more (begun false) (drop a.len (drop at text))).ended in
      let all = ap (λ (c : Cut). c.ended) ahead-cut in
      all ∙ ap₂ (λ t w. plain_lines_of t ++ w) (sym is) (sym (left-beyond more) ∙ ap (drop a.count) (sym all))

  -- and passed
  pub text_passed : cut_more (begun after_return) (drop (at + a.len) text) ≡ without a.count (cut_more (begun after_return) (drop at text))
  text_passed =
      let more = cut_more (begun false) (drop a.len (drop at text)) in
      ap₂ (λ r t. cut_more (begun r) t) not-waiting (sym (drop-drop a.len at text))
      ∙ ap (λ t. record more { ended = t }) (sym (left-beyond more.ended)) ∙ ap (without a.count) (sym ahead-cut)

-- passed one by one
pub passed_more : (n : ℕ) (cut : Cut) → without 1 (without n cut) ≡ without (n + 1) cut
passed_more n cut = ap (λ t. record cut { ended = t }) (drop-drop 1 n cut.ended)

-- what is between the spaces before and the last line feed

last-feed : (lines : List (List ℕ)) → 0 < length lines → (front : List ℕ) × (flat_map with_line_feed lines ≡ front ++ 10 ∷ [])
last-feed [] some = absurd (omega (arith, some))
last-feed (line ∷ []) some = (line, append-nil (with_line_feed line))
last-feed (line ∷ next ∷ lines) some =
    let rest = last-feed (next ∷ lines) (omega arith) in
    (with_line_feed line ++ rest.0, ap (λ t. with_line_feed line ++ t) rest.1 ∙ sym (append_assoc (with_line_feed line) rest.0 (10 ∷ [])))

-- the spaces, and a byte after them
spaces-first : (spaces : ℕ) (text : List ℕ) → is_text_after spaces text ≡ true → (spaces < length text) × ((k : ℕ) → k < spaces → get_or text k 0 ≡ 32)
spaces-first spaces [] h = absurd (cc (h))
spaces-first zero (b ∷ bs) h = (omega arith, λ k below. absurd (omega (arith, below)))
spaces-first (suc n) (b ∷ bs) h =
    let parts = and_parts (b == 32) (is_text_after n bs) h in
    let rest = spaces-first n bs parts.1 in
    (omega (arith, rest.0), at (eqb-true b 32 parts.0) rest.1)
  where
    at : b ≡ 32 → ((k : ℕ) → k < n → get_or bs k 0 ≡ 32) → (k : ℕ) → k < suc n → get_or (b ∷ bs) k 0 ≡ 32
    at first rest zero below = first
    at first rest (suc k) below = rest k (omega (arith, below))

text-beyond-more : (spaces : ℕ) (text more : List ℕ) → is_text_after spaces text ≡ true → is_text_after spaces (text ++ more) ≡ true
text-beyond-more spaces [] more h = absurd (cc (h))
text-beyond-more zero (b ∷ bs) more h = h
text-beyond-more (suc n) (b ∷ bs) more h =
    let parts = and_parts (b == 32) (is_text_after n bs) h in
    ap (λ v. v && is_text_after n (bs ++ more)) parts.0 ∙ text-beyond-more n bs more parts.1

first-beyond : (spaces : ℕ) (lines : List (List ℕ)) → 0 < length lines → are_text spaces lines ≡ true → is_text_after spaces (flat_map with_line_feed lines) ≡ true
first-beyond spaces [] some h = absurd (omega (arith, some))
first-beyond spaces (line ∷ lines) some h =
    let parts = and_parts (is_text_after spaces line) (are_text 0 lines) h in
    text-beyond-more spaces (with_line_feed line) (flat_map with_line_feed lines) (text-beyond-more spaces line (10 ∷ []) parts.0)

module _ (text : List ℕ) (spaces count : ℕ) (h : AreTextLines text spaces count) where
  some-lines : 0 < length (lines_of text)
  some-lines = omega (arith, h.some, h.counted)

  pub begins_as_text : is_text_after spaces text ≡ true
  begins_as_text = subst (λ t. is_text_after spaces t ≡ true) (sym h.lines) (first-beyond spaces (lines_of text) some-lines h.are_text)

  ends-feed : (front : List ℕ) × (text ≡ front ++ 10 ∷ [])
  ends-feed = let last = last-feed (lines_of text) some-lines in (last.0, h.lines ∙ last.1)

  pub feed_last : get_or text (length text - 1) 0 ≡ 10
  feed_last =
      let front = ends-feed.0 in
      let at : length text - 1 ≡ length front = omega (arith, ap length ends-feed.1, length-append front (10 ∷ [])) in
      ap₂ (λ t n. get_or t n 0) ends-feed.1 at ∙ get_or_at front 10 [] 0 (length front) refl

  pub spaces_within : spaces < length text
  spaces_within = (spaces-first spaces text begins_as_text).0

  pub spaces_boundary : IsUtf8 text → IsCharBoundary text spaces
  spaces_boundary utf8 = go spaces (spaces-first spaces text begins_as_text).1 spaces_within
    where
      go : (n : ℕ) → ((k : ℕ) → k < n → get_or text k 0 ≡ 32) → n < length text → IsCharBoundary text n
      go zero front within = IsCharBoundary-start text utf8
      go (suc n) front within = subst (IsCharBoundary text) (add-one n) (IsCharBoundary-after_ascii text n utf8 (omega (arith, within)) (omega (arith, front n (omega arith))))

  pub not_last : spaces ≤ length text - 1
  not_last = omega (arith, spaces_within)

  pub content_is : (content : List ℕ) → content ≡ take (length text - 1 - spaces) (drop spaces text) → drop spaces text ≡ content ++ 10 ∷ []
  content_is content is =
      let rest = drop spaces text in
      let size = length-drop spaces text in
      let last : get_or rest (length text - 1 - spaces) 0 ≡ 10 = get_or-drop spaces text (length text - 1 - spaces) 0 ∙ ap (λ n. get_or text n 0) (omega (arith, not_last)) ∙ feed_last in
      at_byte rest (length text - 1 - spaces) (omega (arith, size, spaces_within))
      ∙ ap₂ (λ t b. t ++ b ∷ drop (length text - 1 - spaces + 1) rest) (sym is) last
      ∙ ap (λ t. content ++ 10 ∷ t) (drop_of_length-le rest {i = length text - 1 - spaces + 1} (omega (arith, size, spaces_within)))
