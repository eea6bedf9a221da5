-- The containers that a line stays in, one after another.
use Rattle.std.proofs.Common.{◌≡◌, ℕ, zero, suc, ◌+◌, ◌-◌, ◌<◌, ◌≤◌, ◌==◌, Bool, true, false, ◌&&◌, not, List, [], ◌∷◌, ◌++◌, length, take, drop, get_or, Option, Some, None, refl, ◌∙◌, sym, ap, ap₂, arith}
use Rattle.cm_text.specs.Rules.{Rules}
use Rattle.cm_text.specs.Lines.{LineView}
use Rattle.cm_text.specs.Indentation.{indent_of, strip_columns}
use Rattle.cm_scan.specs.blocks.Lines.{is_blank, past, as_lazy}
use Rattle.cm_scan.specs.laws.PartLaws.{goes_inward}
use Rattle.cm_scan.specs.blocks.Starts.{Start, IndentedCode, QuoteMarker, AtxHeading, OpeningFence, HtmlStart, BreakLine, ItemStart, TextLine, start_of, Continuation, Stays, StaysIfOpen, Leaves, may_be_lazy, continuation_if_lazy, after_quote_marker, quote_continuation, continuation_in_quote, item_continuation, continuation_in_item}
use Rattle.std.specs.Prelude.{nat_le}
use Rattle.std.specs.List.{slice_index_or}
use Rattle.cm_block.specs.declared.stack.Frame as code
use Rattle.cm_tree.specs.RawBlocks.{Raw}
use Rattle.cm_block.specs.declared.stack.Container.TheVariants as variants
use Rattle.cm_tree.specs.declared.tree.ListKind.{ListKind}
use Rattle.cm_block.specs.steps.FrameViews.{container_of, frame_in, frames_in}
use Rattle.cm_block.specs.Level.{Level}
use Rattle.cm_block.proofs.lemmas.Lazy.{starts_text, continuation-quote, continuation-item}
use Rattle.std.proofs.lemmas.Bool.{eqb-true}
use Rattle.std.proofs.lemmas.List.{length_push, length-take-le, take_all, drop_all}
use Rattle.cm_block.specs.Frames.{Container, a_quote, an_item, Frame, Row, is_last}
use Rattle.cm_block.specs.steps.FrameSteps.{continuation_in, inward, matching, beyond, LeavesNext, quoted_in, quoted_by, close_container, close_frames, closed_to}

-- closing from the inside out
pub close_last : (fs : List Frame) (f : Frame) (level : Level) → close_frames (fs ++ f ∷ []) level ≡ close_frames fs (close_container f.container f.level level)
unfolding close_frames
close_last [] f level = refl
close_last (g ∷ fs) f level = ap (close_container g.container g.level) (close_last fs f level)

pub length_frames : (raw : Raw) (frames : List code.Frame) → length (frames_in raw frames) ≡ length frames
length_frames raw [] = refl
length_frames raw (f ∷ fs) = ap suc (length_frames raw fs)

-- the containers from a place on

pub frames_at : (raw : Raw) (frames : List code.Frame) (i : ℕ) (f : code.Frame) → i < length frames → f ≡ slice_index_or frames i f
    → drop i (frames_in raw frames) ≡ frame_in raw f ∷ drop (suc i) (frames_in raw frames)
frames_at raw [] i f less is = absurd (omega arith)
frames_at raw (g ∷ gs) zero f less is = ap (λ h. frame_in raw h ∷ frames_in raw gs) (sym is)
frames_at raw (g ∷ gs) (suc i) f less is = frames_at raw gs i f (omega arith) is

pub frames_end : (raw : Raw) (frames : List code.Frame) (i : ℕ) → length frames ≤ i → drop i (frames_in raw frames) ≡ []
frames_end raw [] i past = drop-nothing i
  where
    drop-nothing : (i : ℕ) → drop i (frames_in raw []) ≡ []
    drop-nothing zero = refl
    drop-nothing (suc i) = refl
frames_end raw (g ∷ gs) zero past = absurd (omega arith)
frames_end raw (g ∷ gs) (suc i) past = frames_end raw gs i (omega arith)

pub last_at : (raw : Raw) (frames : List code.Frame) (i : ℕ) → i < length frames → (i == length frames - 1) ≡ is_last (drop (suc i) (frames_in raw frames))
last_at raw [] i less = absurd (omega arith)
last_at raw (f ∷ []) zero less = refl
last_at raw (f ∷ []) (suc i) less = absurd (omega arith)
last_at raw (f ∷ g ∷ fs) zero less = grind arith
last_at raw (f ∷ g ∷ fs) (suc i) less =
    let h : (i == length (g ∷ fs) - 1) ≡ is_last (drop (suc i) (frames_in raw (g ∷ fs))) = last_at raw (g ∷ fs) i (omega arith) in
    same ∙ h
  where
    same : (suc i == length (f ∷ g ∷ fs) - 1) ≡ (i == length (g ∷ fs) - 1)
    same = grind arith

module _ (rules : Rules) (bare open_text : Bool) (i : ℕ) (f : Frame) (rest : List Frame) (line : LineView) where
  -- the line stays in the next container
  pub match_next : (from : List Frame) (is_bare : Bool) (inner : LineView) → from ≡ f ∷ rest → is_bare ≡ (bare && is_last rest)
      → Some inner ≡ inward rules f.container is_bare open_text line
      → beyond i (matching rules bare open_text from line) ≡ beyond (suc i) (matching rules bare open_text rest inner)
  unfolding matching
  match_next from is_bare inner at is stays =
      ap (λ fs. beyond i (matching rules bare open_text fs line)) at
      ∙ ap by_continuation (sym (stays ∙ ap (λ b. inward rules f.container b open_text line) is))
      ∙ ap (λ n. (n, (matching rules bare open_text rest inner).1)) (sum (matching rules bare open_text rest inner).0)
    where
      by_continuation : Option LineView → ℕ × LineView
      by_continuation o = beyond i (elim o [ Some inner ↦ let inside = matching rules bare open_text rest inner in (suc inside.0, inside.1) | None ↦ (0, line) ])

      sum : (n : ℕ) → i + suc n ≡ suc i + n
      sum n = omega arith

  -- or not
  pub match_stop : (from : List Frame) (is_bare : Bool) → from ≡ f ∷ rest → is_bare ≡ (bare && is_last rest)
      → None ≡ inward rules f.container is_bare open_text line
      → beyond i (matching rules bare open_text from line) ≡ (i, line)
  unfolding matching
  match_stop from is_bare at is leaves =
      ap (λ fs. beyond i (matching rules bare open_text fs line)) at
      ∙ ap by_continuation (sym (leaves ∙ ap (λ b. inward rules f.container b open_text line) is))
      ∙ ap (λ n. (n, line)) none
    where
      by_continuation : Option LineView → ℕ × LineView
      by_continuation o = beyond i (elim o [ Some inner ↦ let inside = matching rules bare open_text rest inner in (suc inside.0, inside.1) | None ↦ (0, line) ])

      none : i + 0 ≡ i
      none = omega arith

pub match_end : (rules : Rules) (bare open_text : Bool) (i n : ℕ) (from : List Frame) (line : LineView) → from ≡ [] → i ≡ n
    → beyond i (matching rules bare open_text from line) ≡ (n, line)
unfolding matching
match_end rules bare open_text i n from line at is = ap (λ fs. beyond i (matching rules bare open_text fs line)) at ∙ ap (λ k. (k, line)) sum
  where
    sum : i + 0 ≡ n
    sum = omega (arith, is)

-- one more item, with the line after the containers before it

pub frames_from : (raw : Raw) (frames : List code.Frame) (i : ℕ) (other : code.Frame) → i < length frames
    → drop i (frames_in raw frames) ≡ frame_in raw (get_or frames i other) ∷ drop (suc i) (frames_in raw frames)
frames_from raw [] i other less = absurd (omega arith)
frames_from raw (g ∷ gs) zero other less = refl
frames_from raw (g ∷ gs) (suc i) other less = frames_from raw gs i other (omega arith)

module _ (raw : Raw) (frames : List code.Frame) (i : ℕ) (other : code.Frame) (kind : ListKind) (column : ℕ) (line : LineView)
    (less : i < length frames) (is : (get_or frames i other).container ≡ variants.Item kind column) where
  pub leaves_item : ((rules : Rules) → continuation_in_item rules column false line ≡ continuation_if_lazy rules line) → LeavesNext (frames_in raw frames) i line
  leaves_item continuation = (
    frame_in raw (get_or frames i other),
    (frames_from raw frames i other less, λ rules. ap (λ c. continuation_in rules (container_of c) false line) is ∙ continuation rules),
  )

  pub goes_into_item : (rules : Rules) (open_text : Bool) (inner : LineView) → continuation_in_item rules column false line ≡ Stays inner
      → beyond i (matching rules false open_text (drop i (frames_in raw frames)) line)
      ≡ beyond (suc i) (matching rules false open_text (drop (suc i) (frames_in raw frames)) inner)
  unfolding inward
  goes_into_item rules open_text inner stays =
      match_next rules false open_text i (frame_in raw (get_or frames i other)) (drop (suc i) (frames_in raw frames)) line
      (drop i (frames_in raw frames)) false inner (frames_from raw frames i other less) refl
      (ap (λ p. goes_inward p open_text) (sym stays) ∙ ap (λ c. goes_inward (continuation_in rules (container_of c) false line) open_text) (sym is))

-- a line that has gone into a container as a lazy continuation line

-- the line, where there is one
held : LineView → Option LineView → LineView
held other (Some line) = line
held other None = other

module _ (rules : Rules) (open_text : Bool) (line inner : LineView) where
  from-lazy : Some inner ≡ goes_inward (continuation_if_lazy rules line) open_text → (open_text ≡ true) × (is_blank inner ≡ false)
  unfolding continuation_if_lazy held
  from-lazy = go (is_blank line) (may_be_lazy (start_of rules line)) open_text refl
    where
      go : (blank may o : Bool) → is_blank line ≡ blank
          → Some inner ≡ goes_inward (elim (not blank && may) as (λ _. Continuation) [ true ↦ StaysIfOpen (as_lazy line) | false ↦ Leaves ]) o → (o ≡ true) × (is_blank inner ≡ false)
      go true may o blank e = absurd (cc e)
      go false false o blank e = absurd (cc e)
      go false true false blank e = absurd (cc e)
      go false true true blank e = (refl, ap (λ l. is_blank (held inner l)) e ∙ blank)

  from-quote : (start : Start) → start_of rules line ≡ start → Some inner ≡ goes_inward (quote_continuation rules start line) open_text → inner.lazy ≡ true
      → (open_text ≡ true) × (is_blank inner ≡ false)
  unfolding after_quote_marker past held
  from-quote QuoteMarker is e lazy =
      let same : inner.lazy ≡ line.lazy = ap (λ l. (held inner l).lazy) e in
      let text : start_of rules line ≡ TextLine = starts_text rules line (sym same ∙ lazy) in
      absurd (cc (is, text))
  from-quote IndentedCode is e lazy = from-lazy e
  from-quote (AtxHeading h) is e lazy = from-lazy e
  from-quote (OpeningFence f) is e lazy = from-lazy e
  from-quote (HtmlStart k) is e lazy = from-lazy e
  from-quote BreakLine is e lazy = from-lazy e
  from-quote (ItemStart m) is e lazy = from-lazy e
  from-quote TextLine is e lazy = from-lazy e

  from-item : (column : ℕ) (bare : Bool) → Some inner ≡ goes_inward (continuation_in_item rules column bare line) open_text → inner.lazy ≡ true
      → (open_text ≡ true) × (is_blank inner ≡ false)
  unfolding continuation_in_item held
  from-item column bare = go line.lazy (is_blank line) bare (nat_le column (indent_of line)) refl
    where
      stays : line.lazy ≡ false → Some inner ≡ Some (strip_columns column line) → inner.lazy ≡ true → (open_text ≡ true) × (is_blank inner ≡ false)
      stays marked e lazy =
          let same : inner.lazy ≡ line.lazy = ap (λ l. (held inner l).lazy) e in
          absurd (cc (marked, same, lazy))

      go : (l blank b reaches : Bool) → line.lazy ≡ l
          → Some inner ≡ goes_inward (elim l as (λ _. Continuation) [
            | true ↦ continuation_if_lazy rules line
            | false ↦ item_continuation blank b reaches (strip_columns column line) (continuation_if_lazy rules line)
          ]) open_text → inner.lazy ≡ true → (open_text ≡ true) × (is_blank inner ≡ false)
      go true blank b reaches marked e lazy = from-lazy e
      go false true true reaches marked e lazy = absurd (cc e)
      go false true false reaches marked e lazy = stays marked e lazy
      go false false b true marked e lazy = stays marked e lazy
      go false false b false marked e lazy = from-lazy e

  from-container : (c : Container) (bare : Bool) → Some inner ≡ inward rules c bare open_text line → inner.lazy ≡ true → (open_text ≡ true) × (is_blank inner ≡ false)
  unfolding inward continuation_in_quote
  from-container a_quote bare e lazy = from-quote (start_of rules line) refl e lazy
  from-container (an_item kind column) bare e lazy = from-item column bare e lazy

module _ (rules : Rules) (bare open_text : Bool) (line : LineView) (lazy : line.lazy ≡ true) (some : is_blank line ≡ false) (left_open : open_text ≡ true) where
  goes-in : (c : Container) (b : Bool) → inward rules c b open_text line ≡ Some line
  unfolding inward
  goes-in a_quote b = ap₂ goes_inward (continuation-quote rules line lazy some) left_open
  goes-in (an_item kind column) b = ap₂ goes_inward (continuation-item rules line lazy some column b) left_open

  goes-into-all : (fs : List Frame) → matching rules bare open_text fs line ≡ (length fs, line)
  unfolding matching
  goes-into-all [] = refl
  goes-into-all (f ∷ fs) = ap by_continuation (goes-in f.container (bare && is_last fs)) ∙ ap (λ (m : ℕ × LineView). (suc m.0, m.1)) (goes-into-all fs)
    where
      by_continuation : Option LineView → ℕ × LineView
      by_continuation o = elim o [ Some inner ↦ let inside = matching rules bare open_text fs inner in (suc inside.0, inside.1) | None ↦ (0, line) ]

rest-length : (raw : Raw) (frames : List code.Frame) (i : ℕ) → i < length frames → suc i + length (drop (suc i) (frames_in raw frames)) ≡ length frames
rest-length raw [] i less = absurd (omega arith)
rest-length raw (f ∷ fs) zero less = omega (arith, length_frames raw fs)
rest-length raw (f ∷ fs) (suc i) less = let h : suc i + length (drop (suc i) (frames_in raw fs)) ≡ length fs = rest-length raw fs i (omega arith) in omega (arith, h)

-- goes into all of the others
pub match_lazy : (rules : Rules) (bare open_text : Bool) (c : Container) (is_bare : Bool) (line inner : LineView) (rest : List Frame)
    → Some inner ≡ inward rules c is_bare open_text line → inner.lazy ≡ true → matching rules bare open_text rest inner ≡ (length rest, inner)
match_lazy rules bare open_text c is_bare line inner rest stays lazy =
    let facts = from-container rules open_text line inner c is_bare stays lazy in
    goes-into-all rules bare open_text inner lazy facts.1 facts.0 rest

pub beyond_all : (raw : Raw) (frames : List code.Frame) (i : ℕ) (m : ℕ × LineView) (line : LineView) → i < length frames → m ≡ (length (drop (suc i) (frames_in raw frames)), line)
    → (length frames, line) ≡ beyond (suc i) m
beyond_all raw frames i m line less is = ap (λ n. (n, line)) (sym (rest-length raw frames i less)) ∙ ap (beyond (suc i)) (sym is)

-- quotes

pub quoted_true : (fs : List Frame) → true ≡ quoted_by true fs
unfolding quoted_by
quoted_true [] = refl
quoted_true (f ∷ fs) = quoted_true fs ∙ ap (λ b. quoted_by b fs) (go f.container)
  where
    go : (c : Container) → true ≡ quoted_in c true
    go a_quote = refl
    go (an_item kind column) = refl

-- the last container

pub frames_last : (raw : Raw) (frames : List code.Frame) (f : code.Frame) → frames_in raw (frames ++ f ∷ []) ≡ frames_in raw frames ++ frame_in raw f ∷ []
frames_last raw [] f = refl
frames_last raw (g ∷ gs) f = ap (λ t. frame_in raw g ∷ t) (frames_last raw gs f)

pub drop_last : (n : ℕ) (fs : List Frame) (f : Frame) → n ≤ length fs → drop n (fs ++ f ∷ []) ≡ drop n fs ++ f ∷ []
drop_last zero fs f within = refl
drop_last (suc n) [] f within = absurd (omega arith)
drop_last (suc n) (g ∷ gs) f within = drop_last n gs f (omega arith)

pub take_last : (n : ℕ) (fs : List Frame) (f : Frame) → n ≤ length fs → take n (fs ++ f ∷ []) ≡ take n fs
take_last zero fs f within = refl
take_last (suc n) [] f within = absurd (omega arith)
take_last (suc n) (g ∷ gs) f within = ap (λ t. g ∷ t) (take_last n gs f (omega arith))

pub closed_last : (n : ℕ) (fs : List Frame) (f : Frame) (level next : Level) → n ≤ length fs → next ≡ close_container f.container f.level level
    → close_frames (drop n fs) next ≡ close_frames (drop n (fs ++ f ∷ [])) level
closed_last n fs f level next within is =
    ap (close_frames (drop n fs)) is ∙ sym (close_last (drop n fs) f level) ∙ ap (λ gs. close_frames gs level) (sym (drop_last n fs f within))

ends_in : (fs : List Frame) → 0 < length fs → (outer : List Frame) × ((last : Frame) × (fs ≡ outer ++ last ∷ []))
ends_in [] some = absurd (omega arith)
ends_in (f ∷ []) some = ([], (f, refl))
ends_in (f ∷ g ∷ fs) some = let rest = ends_in (g ∷ fs) (omega arith) in (f ∷ rest.0, (rest.1.0, ap (λ t. f ∷ t) rest.1.1))

-- one more container is closed, so that one fewer is open, and closing the rest comes to the same
pub one_closed : (depth : ℕ) (before after : Row) → depth < length before.frames
    → ((outer : List Frame) (last : Frame) → before.frames ≡ outer ++ last ∷ [] → (after.frames ≡ outer) × (after.level ≡ close_container last.container last.level before.level))
    → (length before.frames ≡ length after.frames + 1)
    × ((take depth after.frames ≡ take depth before.frames) × (close_frames (drop depth after.frames) after.level ≡ close_frames (drop depth before.frames) before.level))
one_closed depth before after many closes =
    let ends = ends_in before.frames (omega (arith, many)) in
    let outer = ends.0 in
    let last = ends.1.0 in
    let all = ends.1.1 in
    let closed = closes outer last all in
    let size : length before.frames ≡ length outer + 1 = ap length all ∙ length_push outer last in
    let within : depth ≤ length outer = omega (arith, many, size) in (
      omega (arith, size, ap length closed.0),
      (
        ap (take depth) closed.0 ∙ sym (take_last depth outer last within) ∙ ap (take depth) (sym all),
        ap (λ fs. close_frames (drop depth fs) after.level) closed.0
            ∙ closed_last depth outer last before.level after.level within closed.1
            ∙ ap (λ fs. close_frames (drop depth fs) before.level) (sym all),
      ),
    )

-- the first of the containers that are to be closed is the last of those left when the others are
pub cut_last : (depth : ℕ) (fs : List Frame) → depth < length fs → (last : Frame) × ((take (depth + 1) fs ≡ take depth fs ++ last ∷ [])
    × ((level : Level) → close_container last.container last.level (close_frames (drop (depth + 1) fs) level) ≡ close_frames (drop depth fs) level))
unfolding close_frames
cut_last depth [] many = absurd (omega arith)
cut_last zero (f ∷ fs) many = (f, (refl, λ level. refl))
cut_last (suc depth) (f ∷ fs) many =
    let next : suc depth + 1 ≡ suc (depth + 1) = omega arith in
    let last = cut_last depth fs (omega arith) in (
      last.0,
      (
        ap (λ n. take n (f ∷ fs)) next ∙ ap (λ t. f ∷ t) last.1.0,
        λ level. ap (λ n. close_container last.0.container last.0.level (close_frames (drop n (f ∷ fs)) level)) next ∙ last.1.1 level,
      ),
    )

-- a row in which the others are closed, by its fields
pub closed_row : (depth : ℕ) (before after : Row) → after.frames ≡ take depth before.frames → after.level ≡ close_frames (drop depth before.frames) before.level → after.bare ≡ before.bare
    → after ≡ closed_to depth before
closed_row depth before after frames level bare =
    ap₂ (λ fs v. record { frames = fs; bare = after.bare; level = v }) frames level
    ∙ ap (λ b. record { frames = take depth before.frames; bare = b; level = close_frames (drop depth before.frames) before.level }) bare

-- closing all but one, and then that one, comes to the same
pub closed_twice : (depth : ℕ) (row : Row) → depth < length row.frames → closed_to depth (closed_to (depth + 1) row) ≡ closed_to depth row
unfolding close_frames
closed_twice depth row many =
    let last = cut_last depth row.frames many in
    let rest = close_frames (drop (depth + 1) row.frames) row.level in
    let long : length (take depth row.frames) ≡ depth = length-take-le depth row.frames (omega (arith, many)) in
    ap₂ (λ fs level. record { frames = fs; bare = row.bare; level = level })
    (ap (take depth) last.1.0 ∙ take_last depth (take depth row.frames) last.0 (omega (arith, long)) ∙ take_all depth (take depth row.frames) (omega (arith, long)))
    (ap (λ fs. close_frames (drop depth fs) rest) last.1.0
    ∙ sym (closed_last depth (take depth row.frames) last.0 rest _ (omega (arith, long)) refl)
    ∙ ap (λ fs. close_frames fs (close_container last.0.container last.0.level rest)) (drop_all depth (take depth row.frames) (omega (arith, long)))
    ∙ last.1.1 row.level)

pub nothing_left : (fs : List Frame) (depth : ℕ) (level : Level) → length fs ≤ depth → level ≡ close_frames (drop depth fs) level
unfolding close_frames
nothing_left [] zero level few = refl
nothing_left [] (suc depth) level few = refl
nothing_left (f ∷ fs) zero level few = absurd (omega arith)
nothing_left (f ∷ fs) (suc depth) level few = nothing_left fs depth level (omega arith)

-- the next container is an item in which the line doesn't stay by itself

module _ (rules : Rules) (open_text : Bool) (raw : Raw) (frames : List code.Frame) (i : ℕ) (line : LineView)
    (next : LeavesNext (frames_in raw frames) i line) where
  pub all_lazily : (inner : LineView) → i < length frames → Some inner ≡ goes_inward (continuation_if_lazy rules line) open_text → inner.lazy ≡ true
      → (length frames, inner) ≡ beyond i (matching rules false open_text (drop i (frames_in raw frames)) line)
  unfolding inward
  all_lazily inner less goes lazy =
      let rest = drop (suc i) (frames_in raw frames) in
      let stays : Some inner ≡ inward rules next.0.container false open_text line = goes ∙ ap (λ p. goes_inward p open_text) (sym (next.1.1 rules)) in
      beyond_all raw frames i (matching rules false open_text rest inner) inner less (match_lazy rules false open_text next.0.container false line inner rest stays lazy)
      ∙ sym (match_next rules false open_text i next.0 rest line (drop i (frames_in raw frames)) false inner next.1.0 refl stays)

  pub none_lazily : None ≡ goes_inward (continuation_if_lazy rules line) open_text
      → (i, line) ≡ beyond i (matching rules false open_text (drop i (frames_in raw frames)) line)
  unfolding inward
  none_lazily leaves =
      sym (match_stop rules false open_text i next.0 (drop (suc i) (frames_in raw frames)) line (drop i (frames_in raw frames)) false next.1.0 refl
      (leaves ∙ ap (λ p. goes_inward p open_text) (sym (next.1.1 rules))))

-- all containers stay open
pub all_stay : (n : ℕ) (fs : List Frame) (v : Level) → n ≡ length fs → (fs ≡ take n fs) × (v ≡ close_frames (drop n fs) v)
unfolding close_frames
all_stay n fs v is = (sym (take_all n fs (omega (arith, is))), ap (λ gs. close_frames gs v) (sym (drop_all n fs (omega (arith, is)))))

-- none is open
pub none_open : (rules : Rules) (bare run : Bool) (raw : Raw) (frames : List code.Frame) (line : LineView) → (length frames == 0) ≡ true → (0, line) ≡ matching rules bare run (frames_in raw frames) line
unfolding matching
none_open rules bare run raw [] line e = refl
none_open rules bare run raw (f ∷ fs) line e = absurd (omega (arith, eqb-true (length (f ∷ fs)) 0 e))
