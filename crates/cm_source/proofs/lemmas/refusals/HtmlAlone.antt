-- A text that, read alone, is one HTML block which ends with its last line.
use Rattle.std.proofs.Common.{◌≡◌, ℕ, suc, ◌==◌, ◌&&◌, ◌||◌, not, Bool, true, false, List, [], ◌∷◌, ◌++◌, length, drop, map, refl, sym, ap, subst, ◌∙◌, Option, Some, None, append_assoc, append-nil, length-append, arith, if◌then◌else◌}
use Rattle.std.proofs.Math.Bool.{and-true, and-false}
use mathlib.Core.Bool.{beq}
use Rattle.std.proofs.lemmas.Bool.{eqb-true, ne_eqb, and_parts, not-true, true_from_ne_false, false_from_ne_true}
use Rattle.std.proofs.lemmas.Slice.Eq.{bytes_eq-Decides}
use Rattle.std.proofs.lemmas.Grind.{flat_map-append}
use Rattle.std.proofs.lemmas.List.Folds.{list_all-append, list_any-append}
use Rattle.std.specs.Option.{is_some}
use Rattle.std.specs.List.{flat_map, list_all, list_any}
use Rattle.std.specs.Str.{bytes_eq}
use Rattle.cm_text.specs.LineText.{is_line, is_line_ending}
use Rattle.cm_text.specs.Rules.{Rules}
use Rattle.cm_text.specs.Lines.{plain_line, plain_lines_of, lines_of, lines_after, with_line_feed}
use Rattle.cm_text.proofs.lemmas.LinesLemmas.{lines_are_computed, lines_are_lines, lines_with_line_feeds}
use Rattle.cm_scan.specs.Words.{is_empty, begins_with, is_blank_text, given, run_length, after_run}
use Rattle.cm_scan.specs.spans.Autolinks.{ends_with}
use Rattle.cm_scan.specs.blocks.LineForms.{atx_heading, opening_fence, fence_of}
use Rattle.cm_scan.specs.blocks.HtmlBlocks.{HtmlKind, html_start, is_html_end, ends_at_blank_line}
use Rattle.cm_scan.specs.blocks.Starts.{HtmlStart, start_of_content}
use Rattle.cm_scan.specs.blocks.Parts.{Parts, none, blank, leaf, quote, list, html}
use Rattle.cm_scan.specs.blocks.Blocks.{Taken, taken, html_to_end, html_to_blank, html_lines, parts_of}
use Rattle.cm_scan.proofs.lemmas.blocks.PartsByCases.{html_case, no_lines}
use Rattle.cm_scan.proofs.lemmas.blocks.SingleBlocks.{unindented_line}
use Rattle.cm_source.proofs.lemmas.spelling.NoLineFeeds.{ended-last}
use Rattle.cm_source.specs.Spelling.{in_front, ended_lines}
use Rattle.cm_source.specs.Refusals.{is_code_text, last_line, first_line, is_html_ended, is_html_part, is_html_block}
use Rattle.cm_source.specs.steps.HtmlLines.{ends_as_last, fits, is_none_left, all_fit, fit_from}
use Rattle.cm_scan.proofs.lemmas.blocks.QuietStarts.{no-html-start}

-- the text of lines that line feeds end
abbrev pub ended : List (List ℕ) → List ℕ
ended lines = flat_map with_line_feed lines

-- the lines that an HTML block takes, and those that it leaves

pub record Takes (done : List ℕ) (lines : List (List ℕ)) (t : Taken) : Type 0 where
  pub used : List (List ℕ)
  pub left : List (List ℕ)
  pub lines_are : lines ≡ used ++ left
  pub text : t.text ≡ done ++ ended used
  pub following : t.following ≡ map plain_line left

nothing-taken : (done : List ℕ) (lines : List (List ℕ)) (t : Taken) → t.text ≡ done → t.following ≡ map plain_line lines → Takes done lines t
nothing-taken done lines t text following = record { used = []; left = lines; lines_are = refl; text = text ∙ sym (append-nil done); following = following }

one-taken : (done line : List ℕ) (lines : List (List ℕ)) (t : Taken) → t.text ≡ done ++ with_line_feed line → t.following ≡ map plain_line lines → Takes done (line ∷ lines) t
one-taken done line lines t text following =
    record { used = line ∷ []; left = lines; lines_are = refl; text = text ∙ ap (λ l. done ++ l) (sym (append-nil (with_line_feed line))); following = following }

taken-as : {done : List ℕ} {lines : List (List ℕ)} (t other : Taken) → t ≡ other → Takes done lines other → Takes done lines t
taken-as t other at h = record {
  used = h.used;
  left = h.left;
  lines_are = h.lines_are;
  text = ap (λ (t : Taken). t.text) at ∙ h.text;
  following = ap (λ (t : Taken). t.following) at ∙ h.following;
}

one-more : (done line : List ℕ) (lines : List (List ℕ)) (t more : Taken) → t ≡ more → Takes (done ++ with_line_feed line) lines more → Takes done (line ∷ lines) t
one-more done line lines t more at h = record {
  used = line ∷ h.used;
  left = h.left;
  lines_are = ap (λ l. line ∷ l) h.lines_are;
  text = ap (λ (t : Taken). t.text) at ∙ h.text ∙ append_assoc done (with_line_feed line) (ended h.used);
  following = ap (λ (t : Taken). t.following) at ∙ h.following;
}

pub fits-blank : (kind : HtmlKind) (line : List ℕ) (last : Bool) → ends_at_blank_line kind ≡ true → fits kind line last ≡ not (is_blank_text line)
unfolding fits
fits-blank kind line last e = ap (λ v. if v then not (is_blank_text line) else ends_as_last (is_html_end kind line) last) e

pub fits-end : (kind : HtmlKind) (line : List ℕ) (last : Bool) → ends_at_blank_line kind ≡ false → fits kind line last ≡ ends_as_last (is_html_end kind line) last
unfolding fits
fits-end kind line last e = ap (λ v. if v then not (is_blank_text line) else ends_as_last (is_html_end kind line) last) e

-- the end of an HTML block is on this line, or isn't, as the last line has it
pub ends-as : (kind : HtmlKind) (line : List ℕ) (last : Bool) (end : Option ℕ) (some : Bool) → end ≡ given (is_html_end kind (drop 0 line)) (length line) → some ≡ is_some end
    → beq some last ≡ ends_as_last (is_html_end kind line) last
ends-as kind line last end some e f = ap (λ v. beq v last) (f ∙ ap is_some e) ∙ go (is_html_end kind line) last
  where
    go : (v last : Bool) → beq (is_some (given v (length line))) last ≡ ends_as_last v last
    go true true = refl
    go true false = refl
    go false true = refl
    go false false = refl

-- up to a blank line
record ToBlank (kind : HtmlKind) (done : List ℕ) (n : ℕ) (lines : List (List ℕ)) : Type 0 where
  pub takes : Takes done lines (html_to_blank done n (map plain_line lines))
  pub fit : all_fit kind lines ≡ is_none_left takes.left

to-blank : (kind : HtmlKind) → ends_at_blank_line kind ≡ true → (lines : List (List ℕ)) (done : List ℕ) (n : ℕ) → ToBlank kind done n lines
unfolding html_to_blank nothing-taken one-more
to-blank kind by [] done n = record { takes = nothing-taken done [] _ refl refl; fit = refl }
to-blank kind by (line ∷ lines) done n = go (is_blank_text line) refl (to-blank kind by lines (done ++ with_line_feed line) (suc n))
  where
    stop : Taken
    stop = taken done n (map plain_line (line ∷ lines))

    more : Taken
    more = html_to_blank (done ++ with_line_feed line) (suc n) (map plain_line lines)

    first : (v : Bool) → is_blank_text line ≡ v → all_fit kind (line ∷ lines) ≡ (not v && all_fit kind lines)
    first v e = ap (λ v. v && all_fit kind lines) (fits-blank kind line (is_none_left lines) by ∙ ap not e)

    go : (v : Bool) → is_blank_text line ≡ v → ToBlank kind (done ++ with_line_feed line) (suc n) lines → ToBlank kind done n (line ∷ lines)
    go true e again =
        let at : html_to_blank done n (map plain_line (line ∷ lines)) ≡ stop = ap (λ (v : Bool). elim v as (λ _. Taken) [ true ↦ stop | false ↦ more ]) e in
        record { takes = nothing-taken done (line ∷ lines) _ (ap (λ (t : Taken). t.text) at) (ap (λ (t : Taken). t.following) at); fit = first true e }
    go false e again =
        let at : html_to_blank done n (map plain_line (line ∷ lines)) ≡ more = ap (λ (v : Bool). elim v as (λ _. Taken) [ true ↦ stop | false ↦ more ]) e in
        record { takes = one-more done line lines _ more at again.takes; fit = first false e ∙ again.fit }

-- up to a line that meets the end condition
record ToEnd (kind : HtmlKind) (done : List ℕ) (n : ℕ) (lines : List (List ℕ)) : Type 0 where
  pub takes : Takes done lines (html_to_end kind done n (map plain_line lines))
  pub fit : all_fit kind lines ≡ (is_none_left takes.left && is_html_end kind (last_line lines))

to-end : (kind : HtmlKind) → ends_at_blank_line kind ≡ false → (line : List ℕ) (lines : List (List ℕ)) (done : List ℕ) (n : ℕ) → ToEnd kind done n (line ∷ lines)
unfolding html_to_end one-taken one-more
to-end kind by line [] done n = go (is_html_end kind line) refl
  where
    whole : Taken
    whole = taken (done ++ with_line_feed line) (suc n) []

    first : all_fit kind (line ∷ []) ≡ (true && is_html_end kind line)
    first = ap (λ v. v && true) (fits-end kind line true by) ∙ and-true (is_html_end kind line)

    go : (v : Bool) → is_html_end kind line ≡ v → ToEnd kind done n (line ∷ [])
    go v e =
        let at : html_to_end kind done n (map plain_line (line ∷ [])) ≡ whole = same (is_html_end kind line) in
        record { takes = one-taken done line [] _ (ap (λ (t : Taken). t.text) at) (ap (λ (t : Taken). t.following) at); fit = first }
      where
        same : (v : Bool) → (elim v as (λ _. Taken) [ true ↦ whole | false ↦ html_to_end kind (done ++ with_line_feed line) (suc n) [] ]) ≡ whole
        same true = refl
        same false = refl
to-end kind by line (next ∷ lines) done n = go (is_html_end kind line) refl (to-end kind by next lines (done ++ with_line_feed line) (suc n))
  where
    stop : Taken
    stop = taken (done ++ with_line_feed line) (suc n) (map plain_line (next ∷ lines))

    more : Taken
    more = html_to_end kind (done ++ with_line_feed line) (suc n) (map plain_line (next ∷ lines))

    first : (v : Bool) → is_html_end kind line ≡ v → all_fit kind (line ∷ next ∷ lines) ≡ (not v && all_fit kind (next ∷ lines))
    first v e = ap (λ v. v && all_fit kind (next ∷ lines)) (fits-end kind line false by ∙ ap not e)

    go : (v : Bool) → is_html_end kind line ≡ v → ToEnd kind (done ++ with_line_feed line) (suc n) (next ∷ lines) → ToEnd kind done n (line ∷ next ∷ lines)
    go true e again =
        let at : html_to_end kind done n (map plain_line (line ∷ next ∷ lines)) ≡ stop = ap (λ (v : Bool). elim v as (λ _. Taken) [ true ↦ stop | false ↦ more ]) e in
        record { takes = one-taken done line (next ∷ lines) _ (ap (λ (t : Taken). t.text) at) (ap (λ (t : Taken). t.following) at); fit = first true e }
    go false e again =
        let at : html_to_end kind done n (map plain_line (line ∷ next ∷ lines)) ≡ more = ap (λ (v : Bool). elim v as (λ _. Taken) [ true ↦ stop | false ↦ more ]) e in
        record { takes = one-more done line (next ∷ lines) _ more at again.takes; fit = first false e ∙ again.fit }

-- either
record Whole (kind : HtmlKind) (lines : List (List ℕ)) : Type 0 where
  pub takes : Takes [] lines (html_lines kind (map plain_line lines))
  pub fit : all_fit kind lines ≡ (is_none_left takes.left && (ends_at_blank_line kind || is_html_end kind (last_line lines)))

whole : (kind : HtmlKind) (line : List ℕ) (lines : List (List ℕ)) → Whole kind (line ∷ lines)
unfolding html_lines taken-as
whole kind line lines = go (ends_at_blank_line kind) refl
  where
    all : List (List ℕ)
    all = line ∷ lines

    go : (v : Bool) → ends_at_blank_line kind ≡ v → Whole kind (line ∷ lines)
    go true e =
        let h = to-blank kind e all [] 0 in
        let at : html_lines kind (map plain_line all) ≡ html_to_blank [] 0 (map plain_line all) = ap (λ v. if v then html_to_blank [] 0 (map plain_line all) else html_to_end kind [] 0 (map plain_line all)) e in
        record {
          takes = taken-as _ _ at h.takes;
          fit = h.fit ∙ sym (and-true (is_none_left h.takes.left)) ∙ ap (λ v. is_none_left h.takes.left && (v || is_html_end kind (last_line all))) (sym e);
        }
    go false e =
        let h = to-end kind e line lines [] 0 in
        let at : html_lines kind (map plain_line all) ≡ html_to_end kind [] 0 (map plain_line all) = ap (λ v. if v then html_to_blank [] 0 (map plain_line all) else html_to_end kind [] 0 (map plain_line all)) e in
        record {
          takes = taken-as _ _ at h.takes;
          fit = h.fit ∙ ap (λ v. is_none_left h.takes.left && (v || is_html_end kind (last_line all))) (sym e);
        }

-- the text of an HTML block is the whole of the text just where no line is left

no-part : (text read : List ℕ) (n : ℕ) (parts : Parts) → bytes_eq read text ≡ false → is_html_part text (leaf (html read) n parts) ≡ false
no-part text read n none e = e
no-part text read n (blank rest) e = refl
no-part text read n (leaf x lines rest) e = refl
no-part text read n (quote inside rest) e = refl
no-part text read n (list kind items rest) e = refl

some-more : (used : List (List ℕ)) (line : List ℕ) (lines : List (List ℕ)) → ended used ≡ ended (used ++ line ∷ lines) → ⊥
some-more used line lines e =
    let parts = ap length (e ∙ flat_map-append with_line_feed used (line ∷ lines)) in
    absurd (omega (arith, parts, length-append (ended used) (ended (line ∷ lines)), length-append (with_line_feed line) (ended lines), length-append line (10 ∷ [])))

part-is : (rules : Rules) (lines : List (List ℕ)) (text : List ℕ) (t : Taken) → (h : Takes [] lines t) → text ≡ ended lines → is_html_part text (leaf (html t.text) t.lines (parts_of rules t.following)) ≡ is_none_left h.left
part-is rules lines text t h is = go h.left refl
  where
    go : (left : List (List ℕ)) → h.left ≡ left → is_html_part text (leaf (html t.text) t.lines (parts_of rules t.following)) ≡ is_none_left left
    go [] e =
        let all : lines ≡ h.used = h.lines_are ∙ ap (λ l. h.used ++ l) e ∙ append-nil h.used in
        let read : t.text ≡ text = h.text ∙ ap ended (sym all) ∙ sym is in
        ap (λ p. is_html_part text (leaf (html t.text) t.lines p)) (ap (parts_of rules) (h.following ∙ ap (map plain_line) e) ∙ no_lines rules)
        ∙ (bytes_eq-Decides t.text text).1 read
    go (line ∷ more) e =
        no-part text t.text t.lines (parts_of rules t.following)
        (false_from_ne_true _ (λ same. some-more h.used line more (sym h.text ∙ (bytes_eq-Decides t.text text).0 same ∙ is ∙ ap ended (h.lines_are ∙ ap (λ l. h.used ++ l) e))))

-- a text of lines that line feeds end has these lines

is-feed : (b : ℕ) → (b == 10) ≡ true → 10 ≡ b
is-feed b e = sym (eqb-true b 10 e)

some-line : (b : ℕ) (bs : List ℕ) → (first : List ℕ) × (more : List (List ℕ)) × (ended_lines (b ∷ bs) ≡ first ∷ more)
unfolding ended_lines
some-line b bs = go (b == 10) (ended_lines bs)
  where
    go : (v : Bool) (lines : List (List ℕ)) → (first : List ℕ) × (more : List (List ℕ)) × ((if v then [] ∷ lines else in_front b lines) ≡ first ∷ more)
    go true lines = ([], lines, refl)
    go false [] = (b ∷ [], [], refl)
    go false (line ∷ lines) = (b ∷ line, lines, refl)

pub ended-whole : (text : List ℕ) → (is_empty text || ends_with 10 text) ≡ true → ended (ended_lines text) ≡ text
unfolding ended_lines ends_with
ended-whole [] h = refl
ended-whole (b ∷ []) h = ap (λ v. ended (if v then [] ∷ [] else in_front b [])) h ∙ ap (λ x. x ∷ []) (is-feed b h)
ended-whole (b ∷ c ∷ cs) h = let s = some-line c cs in go (b == 10) refl s.0 s.1 s.2 (ended-whole (c ∷ cs) h)
  where
    go : (v : Bool) → (b == 10) ≡ v → (first : List ℕ) (more : List (List ℕ)) → ended_lines (c ∷ cs) ≡ first ∷ more → ended (ended_lines (c ∷ cs)) ≡ c ∷ cs
        → ended (if v then [] ∷ ended_lines (c ∷ cs) else in_front b (ended_lines (c ∷ cs))) ≡ b ∷ c ∷ cs
    go true e first more is again = ap (λ t. 10 ∷ t) again ∙ ap (λ x. x ∷ c ∷ cs) (is-feed b e)
    go false e first more is again = ap (λ l. ended (in_front b l)) is ∙ ap (λ l. b ∷ ended l) (sym is) ∙ ap (λ t. b ∷ t) again

abbrev has_return : List ℕ → Bool
has_return text = list_any (λ b. b == 13) text

front-line : (b : ℕ) (lines : List (List ℕ)) → is_line_ending b ≡ false → list_all is_line lines ≡ true → list_all is_line (in_front b lines) ≡ true
front-line b [] plain are = ap (λ v. (not v && true) && true) plain
front-line b (line ∷ lines) plain are = ap (λ v. (not v && is_line line) && list_all is_line lines) plain ∙ are

ended-are-lines : (text : List ℕ) → has_return text ≡ false → list_all is_line (ended_lines text) ≡ true
unfolding ended_lines
ended-are-lines [] clear = refl
ended-are-lines (b ∷ bs) clear = go (b == 10) refl (b == 13) refl clear (λ h. ended-are-lines bs h)
  where
    go : (v : Bool) → (b == 10) ≡ v → (w : Bool) → (b == 13) ≡ w → (w || has_return bs) ≡ false → (has_return bs ≡ false → list_all is_line (ended_lines bs) ≡ true) → list_all is_line (if v then [] ∷ ended_lines bs else in_front b (ended_lines bs)) ≡ true
    go v e true k h again = absurd (cc h)
    go true e false k h again = again h
    go false e false k h again = front-line b (ended_lines bs) (ap (λ v. v || b == 13) e ∙ k) (again h)

-- and the other way around

ends-beyond : (front : List ℕ) (b : ℕ) (bs : List ℕ) → ends_with 10 (front ++ b ∷ bs) ≡ ends_with 10 (b ∷ bs)
unfolding ends_with
ends-beyond [] b bs = refl
ends-beyond (c ∷ []) b bs = refl
ends-beyond (c ∷ d ∷ front) b bs = ends-beyond (d ∷ front) b bs

ends-whole : (lines : List (List ℕ)) → (is_empty (ended lines) || ends_with 10 (ended lines)) ≡ true
unfolding ends_with
ends-whole [] = refl
ends-whole (line ∷ lines) = ends-some (with_line_feed line ++ ended lines) (ap (ends_with 10) (append_assoc line (10 ∷ []) (ended lines)) ∙ ends-beyond line 10 (ended lines) ∙ go (ended lines) (ends-whole lines))
  where
    ends-some : (text : List ℕ) → ends_with 10 text ≡ true → (is_empty text || ends_with 10 text) ≡ true
    ends-some [] h = refl
    ends-some (b ∷ bs) h = h

    go : (rest : List ℕ) → (is_empty rest || ends_with 10 rest) ≡ true → ends_with 10 (10 ∷ rest) ≡ true
    go [] h = refl
    go (b ∷ bs) h = h

line-no-return : (line : List ℕ) → is_line line ≡ true → has_return line ≡ false
line-no-return [] h = refl
line-no-return (b ∷ bs) h =
    let parts = and_parts (not (is_line_ending b)) (is_line bs) h in
    let plain : (b == 13) ≡ false = grind (arith, parts.0) in
    ap (λ v. v || has_return bs) plain ∙ line-no-return bs parts.1

lines-no-return : (lines : List (List ℕ)) → list_all is_line lines ≡ true → has_return (ended lines) ≡ false
lines-no-return [] h = refl
lines-no-return (line ∷ lines) h =
    let parts = and_parts (is_line line) (list_all is_line lines) h in
    list_any-append (λ b. b == 13) (with_line_feed line) (ended lines)
    ∙ ap (λ v. v || has_return (ended lines)) (list_any-append (λ b. b == 13) line (10 ∷ []) ∙ ap (λ v. v || false) (line-no-return line parts.0))
    ∙ lines-no-return lines parts.1

ended-code : (lines : List (List ℕ)) → list_all is_line lines ≡ true → is_code_text (ended lines) ≡ true
ended-code lines h = ap (λ v. v && not (has_return (ended lines))) (ends-whole lines) ∙ ap not (lines-no-return lines h)

-- the first line of a text without a line feed is the text
pub line-alone : (text : List ℕ) → list_any (λ b. b == 10) text ≡ false → text ≡ first_line (ended_lines text)
unfolding ended_lines
line-alone [] clear = refl
line-alone (b ∷ bs) clear = ap first_line (sym (ended-last b bs clear))

-- one line more

none-left : (text : List ℕ) → is_none_left (ended_lines text) ≡ (length text == 0)
unfolding ended_lines
none-left [] = refl
none-left (b ∷ bs) = ap is_none_left (some-line b bs).2 ∙ sym (ne_eqb (length (b ∷ bs)) 0 (λ e. omega (arith, e)))

pub fit-first : (kind : HtmlKind) (rest line beyond : List ℕ) (told last : Bool) → ended_lines rest ≡ line ∷ ended_lines beyond → last ≡ (length beyond == 0) → told ≡ fits kind line last
    → all_fit kind (ended_lines rest) ≡ (told && all_fit kind (ended_lines beyond))
fit-first kind rest line beyond told last is e f =
    ap (all_fit kind) is ∙ ap (λ v. fits kind line v && all_fit kind (ended_lines beyond)) (none-left beyond ∙ sym e) ∙ ap (λ v. v && all_fit kind (ended_lines beyond)) (sym f)

-- the whole

pub html-starts : (rules : Rules) (kind : HtmlKind) (f : List ℕ) → html_start rules (60 ∷ f) ≡ Some kind → start_of_content rules (60 ∷ f) ≡ HtmlStart kind
unfolding start_of_content atx_heading opening_fence fence_of run_length after_run
html-starts rules kind f e = rw e refl

parts-are : (rules : Rules) (kind : HtmlKind) (f : List ℕ) (g : List (List ℕ)) → html_start rules (60 ∷ f) ≡ Some kind → let t = html_lines kind (map plain_line ((60 ∷ f) ∷ g)) in
    parts_of rules (map plain_line ((60 ∷ f) ∷ g)) ≡ leaf (html t.text) t.lines (parts_of rules t.following)
parts-are rules kind f g e =
    let reads = unindented_line rules (plain_line (60 ∷ f)) refl refl in
    html_case rules kind (plain_line (60 ∷ f)) (map plain_line g) (reads.not_blank, reads.start ∙ html-starts rules kind f e)

abbrev ended_by : Option HtmlKind → List ℕ → Bool
ended_by None last = false
ended_by (Some kind) last = ends_at_blank_line kind || is_html_end kind last

ended-is : (rules : Rules) (text : List ℕ) → is_html_ended rules text ≡ ended_by (html_start rules (first_line (lines_of text))) (last_line (lines_of text))
ended-is rules text = go (html_start rules (first_line (lines_of text)))
  where
    go : (o : Option HtmlKind) → (elim o as (λ _. Bool) [ Some kind ↦ ends_at_blank_line kind || is_html_end kind (last_line (lines_of text)) | None ↦ false ]) ≡ ended_by o (last_line (lines_of text))
    go None = refl
    go (Some kind) = refl

no-start : (rules : Rules) (text : List ℕ) → html_start rules (first_line (lines_of text)) ≡ None → is_html_block rules text ≡ false
no-start rules text e =
    ap (λ v. (begins_with 60 text && is_html_part text (parts_of rules (plain_lines_of text))) && v) (ended-is rules text ∙ ap (λ o. ended_by o (last_line (lines_of text))) e)
    ∙ and-false (begins_with 60 text && is_html_part text (parts_of rules (plain_lines_of text)))

block-is : (rules : Rules) (kind : HtmlKind) (f : List ℕ) (g : List (List ℕ)) (text : List ℕ) → html_start rules (60 ∷ f) ≡ Some kind → lines_of text ≡ (60 ∷ f) ∷ g → text ≡ ended ((60 ∷ f) ∷ g)
    → is_html_block rules text ≡ all_fit kind ((60 ∷ f) ∷ g)
block-is rules kind f g text e lines is =
    let all = (60 ∷ f) ∷ g in
    let w = whole kind (60 ∷ f) g in
    let t = html_lines kind (map plain_line all) in
    let begins : begins_with 60 text ≡ true = ap (begins_with 60) is in
    let part = ap (λ l. is_html_part text (parts_of rules (map plain_line l))) lines ∙ ap (is_html_part text) (parts-are rules kind f g e) ∙ part-is rules all text t w.takes is in
    let ends = ended-is rules text ∙ ap (λ l. ended_by (html_start rules (first_line l)) (last_line l)) lines ∙ ap (λ o. ended_by o (last_line all)) e in
    ap (λ v. (v && is_html_part text (parts_of rules (plain_lines_of text))) && is_html_ended rules text) begins
    ∙ ap (λ v. v && is_html_ended rules text) part ∙ ap (λ v. is_none_left w.takes.left && v) ends ∙ sym w.fit

pub starts-angle : (rules : Rules) (line : List ℕ) (kind : HtmlKind) → html_start rules line ≡ Some kind → (f : List ℕ) × (line ≡ 60 ∷ f)
unfolding html_start
starts-angle rules [] kind e = absurd (cc e)
starts-angle rules (b ∷ bs) kind e =
    (bs, ap (λ x. x ∷ bs) (eqb-true b 60 (true_from_ne_false (b == 60) (λ is. let none = no-html-start rules b bs is in absurd (cc (none, e))))))

pub lines-from : (lines : List (List ℕ)) (f : List ℕ) → first_line lines ≡ 60 ∷ f → (g : List (List ℕ)) × (lines ≡ (60 ∷ f) ∷ g)
lines-from [] f e = absurd (cc e)
lines-from (line ∷ lines) f e = (lines, ap (λ l. l ∷ lines) e)

pub is-html : (rules : Rules) (text : List ℕ) → is_code_text text ≡ true → is_html_block rules text ≡ fit_from (html_start rules (first_line (ended_lines text))) (ended_lines text)
is-html rules text h =
    let parts = and_parts (is_empty text || ends_with 10 text) (not (has_return text)) h in
    let same = ended-whole text parts.0 in
    let are = ended-are-lines text (not-true (has_return text) parts.1) in
    go (html_start rules (first_line (ended_lines text))) refl same (ap lines_of (sym same) ∙ lines_with_line_feeds (ended_lines text) are)
  where
    go : (o : Option HtmlKind) → html_start rules (first_line (ended_lines text)) ≡ o → ended (ended_lines text) ≡ text → lines_of text ≡ ended_lines text → is_html_block rules text ≡ fit_from o (ended_lines text)
    go None e same lines = no-start rules text (ap (λ l. html_start rules (first_line l)) lines ∙ e)
    go (Some kind) e same lines =
        let angle = starts-angle rules (first_line (ended_lines text)) kind e in
        let from = lines-from (ended_lines text) angle.0 angle.1 in
        block-is rules kind angle.0 from.0 text (ap (html_start rules) (sym angle.1) ∙ e) (lines ∙ from.1) (sym same ∙ ap ended from.1) ∙ ap (all_fit kind) (sym from.1)

-- a text that isn't made of lines which line feeds end

first-lines : (r : Bool) (b : ℕ) (l text : List ℕ) → (f : List ℕ) × (g : List (List ℕ)) × (lines_after r (b ∷ l) text ≡ (b ∷ f) ∷ g)
first-lines r b l [] = (l, [], refl)
first-lines r b l (x ∷ text) = go (x == 10) r (x == 13) (first-lines false b l text) (first-lines false b (l ++ x ∷ []) text)
  where
    go : (v r w : Bool) → (f : List ℕ) × (g : List (List ℕ)) × (lines_after false (b ∷ l) text ≡ (b ∷ f) ∷ g) → (f : List ℕ) × (g : List (List ℕ)) × (lines_after false (b ∷ (l ++ x ∷ [])) text ≡ (b ∷ f) ∷ g)
        → (f : List ℕ) × (g : List (List ℕ)) × ((elim v as (λ _. List (List ℕ)) [
          | true ↦ elim r as (λ _. List (List ℕ)) [ true ↦ lines_after false (b ∷ l) text | false ↦ (b ∷ l) ∷ lines_after false [] text ]
          | false ↦ elim w as (λ _. List (List ℕ)) [ true ↦ (b ∷ l) ∷ lines_after true [] text | false ↦ lines_after false (b ∷ (l ++ x ∷ [])) text ]
        ]) ≡ (b ∷ f) ∷ g)
    go true true w same further = same
    go true false w same further = (l, lines_after false [] text, refl)
    go false r true same further = (l, lines_after true [] text, refl)
    go false r false same further = further

no-html-angle : (rules : Rules) (bs : List ℕ) → is_code_text (60 ∷ bs) ≡ false → is_html_block rules (60 ∷ bs) ≡ false
no-html-angle rules bs h = let s = first-lines false 60 [] bs in go (html_start rules (60 ∷ s.0)) refl s.2
  where
    go : (o : Option HtmlKind) {f : List ℕ} {g : List (List ℕ)} → html_start rules (60 ∷ f) ≡ o → lines_of (60 ∷ bs) ≡ (60 ∷ f) ∷ g → is_html_block rules (60 ∷ bs) ≡ false
    go None e lines = no-start rules (60 ∷ bs) (ap (λ l. html_start rules (first_line l)) lines ∙ e)
    go (Some kind) {f = f} {g = g} e lines =
        let all = (60 ∷ f) ∷ g in
        let w = whole kind (60 ∷ f) g in
        let t = html_lines kind (map plain_line all) in
        let are = ap (list_all is_line) (sym (lines ∙ w.takes.lines_are)) ∙ lines_are_lines (60 ∷ bs) (lines_of (60 ∷ bs)) (lines_are_computed (60 ∷ bs)) in
        let used = (and_parts (list_all is_line w.takes.used) (list_all is_line w.takes.left) (sym (list_all-append is_line w.takes.used w.takes.left) ∙ are)).0 in
        let differs : bytes_eq t.text (60 ∷ bs) ≡ false = false_from_ne_true _ (λ e.
        let code = ap is_code_text (sym ((bytes_eq-Decides t.text (60 ∷ bs)).0 e) ∙ w.takes.text) ∙ ended-code w.takes.used used in absurd (cc (code, h))) in
        let part = ap (λ l. is_html_part (60 ∷ bs) (parts_of rules (map plain_line l))) lines ∙ ap (is_html_part (60 ∷ bs)) (parts-are rules kind f g e) ∙ no-part (60 ∷ bs) t.text t.lines (parts_of rules t.following) differs in
        ap (λ v. v && is_html_ended rules (60 ∷ bs)) part

pub no-html : (rules : Rules) (text : List ℕ) → is_code_text text ≡ false → is_html_block rules text ≡ false
no-html rules [] h = refl
no-html rules (b ∷ bs) h = go (b == 60) refl
  where
    go : (v : Bool) → (b == 60) ≡ v → is_html_block rules (b ∷ bs) ≡ false
    go true e = let same = eqb-true b 60 e in subst (λ c. is_html_block rules (c ∷ bs) ≡ false) (sym same) (no-html-angle rules bs (ap (λ c. is_code_text (c ∷ bs)) (sym same) ∙ h))
    go false e = ap (λ v. (v && is_html_part (b ∷ bs) (parts_of rules (plain_lines_of (b ∷ bs)))) && is_html_ended rules (b ∷ bs)) e
