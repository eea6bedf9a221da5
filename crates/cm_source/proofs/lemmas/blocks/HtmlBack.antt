-- Spelled HTML blocks are read as they were.
use Rattle.std.proofs.Common.{◌≡◌, ℕ, suc, ◌==◌, ◌&&◌, ◌||◌, not, Bool, true, false, List, [], ◌∷◌, ◌++◌, length, refl, sym, ◌∙◌, ap, subst, arith, Option, Some, None, append_assoc, append-nil, length-append}
use Rattle.std.proofs.lemmas.Bool.{false≢true, and_parts, not-true}
use Rattle.std.proofs.lemmas.Grind.{flat_map-append}
use Rattle.std.specs.List.{flat_map, list_all, list_any}
use Rattle.cm_text.specs.Rules.{Rules}
use Rattle.cm_text.specs.Lines.{LineView, with_line_feed}
use Rattle.cm_scan.specs.Words.{is_empty}
use Rattle.cm_scan.specs.spans.Autolinks.{ends_with}
use Rattle.cm_scan.specs.blocks.Lines.{is_blank, with_ending}
use Rattle.cm_scan.specs.blocks.HtmlBlocks.{HtmlKind, html_start, is_html_end, ends_at_blank_line}
use Rattle.cm_scan.specs.blocks.Parts.{html, Parts, leaf}
use Rattle.cm_scan.specs.blocks.Blocks.{Taken, taken, html_lines, parts_of}
use Rattle.cm_scan.specs.laws.BlockLaws.{none_ends, first_is_blank}
use Rattle.cm_scan.proofs.lemmas.blocks.PartsByCases.{html_case}
use Rattle.cm_scan.proofs.lemmas.blocks.SingleBlocks.{unindented_line, html_up_to_its_end, html_up_to_a_blank_line}
use Rattle.cm_source.specs.Spelling.{ended_lines}
use Rattle.cm_source.specs.InlineRefusals.{has_nul}
use Rattle.cm_source.specs.Refusals.{first_line, is_code_text, is_html_block}
use Rattle.cm_source.specs.steps.HtmlLines.{fits, is_none_left, all_fit, fit_from}
use Rattle.cm_source.proofs.lemmas.refusals.HtmlAlone.{fits-blank, fits-end, ended-whole, html-starts, starts-angle, lines-from, is-html, no-html}
use Rattle.cm_source.proofs.lemmas.blocks.SequenceLines.{at, Have, no_lines, a_line, have-first}
use Rattle.cm_source.proofs.lemmas.blocks.ContinuationsBack.{Apart, at_end, before_empty}
use Rattle.cm_source.proofs.lemmas.blocks.SequenceFits.{Follows, apart_from, LeafFits}
use Rattle.cm_source.proofs.lemmas.blocks.FencesBack.{ended-clean, clean-of, length-of-lines}

text-of-all : {ls : List LineView} {ts : List (List ℕ)} → Have ls ts → flat_map with_ending ls ≡ flat_map with_line_feed ts
text-of-all no_lines = refl
text-of-all (a_line {t = t} have) = ap (λ l. with_line_feed t ++ l) (text-of-all have)

blank-first : {rest : List LineView} → Apart rest → first_is_blank rest ≡ true
blank-first at_end = refl
blank-first before_empty = refl

module _ (kind : HtmlKind) where
  -- up to a blank line

  none-blank : {ls : List LineView} {ts : List (List ℕ)} → ends_at_blank_line kind ≡ true → Have ls ts → all_fit kind ts ≡ true → list_all (λ l. not (is_blank l)) ls ≡ true
  none-blank by no_lines h = refl
  none-blank by (a_line {t = t} {ls = ls} {ts = ts} have) h =
      let (first, more) = and_parts (fits kind t (is_none_left ts)) (all_fit kind ts) h in
      ap (λ v. v && list_all (λ (l : LineView). not (is_blank l)) ls) (sym (fits-blank kind t (is_none_left ts) by) ∙ first) ∙ none-blank by have more

  -- up to the line that meets the end condition

  record UpToEnd (ls : List LineView) : Type 0 where
    pub front : List LineView
    pub last : LineView
    pub same : ls ≡ front ++ last ∷ []
    pub none : none_ends kind front ≡ true
    pub ends : is_html_end kind last.text ≡ true

  up-to-end : (ts : List (List ℕ)) (t : List ℕ) (ls : List LineView) → ends_at_blank_line kind ≡ false → Have ls (t ∷ ts) → all_fit kind (t ∷ ts) ≡ true → UpToEnd ls
  up-to-end [] t ls by (a_line {c = c} no_lines) h =
      let first = (and_parts (fits kind t true) true h).0 in
      record { front = []; last = at c t; same = refl; none = refl; ends = sym (fits-end kind t true by) ∙ first }
  up-to-end (u ∷ us) t ls by (a_line {c = c} {ls = further} have) h =
      let (first, more) = and_parts (fits kind t false) (all_fit kind (u ∷ us)) h in
      let again = up-to-end us u further by have more in
      record {
        front = at c t ∷ again.front;
        last = again.last;
        same = ap (λ l. at c t ∷ l) again.same;
        none = ap (λ v. v && none_ends kind again.front) (sym (fits-end kind t false by) ∙ first) ∙ again.none;
        ends = again.ends;
      }

  lines-back : (t : List ℕ) (ts : List (List ℕ)) (ls rest : List LineView) → Have ls (t ∷ ts) → all_fit kind (t ∷ ts) ≡ true → Apart rest
      → html_lines kind (ls ++ rest) ≡ taken (flat_map with_line_feed (t ∷ ts)) (length (t ∷ ts)) rest
  lines-back t ts ls rest have h apart = either (ends_at_blank_line kind) refl ∙ ap (λ s. taken s (length ls) rest) (text-of-all have) ∙ ap (λ n. taken (flat_map with_line_feed (t ∷ ts)) n rest) (length-of-lines have)
    where
      either : (v : Bool) → ends_at_blank_line kind ≡ v → html_lines kind (ls ++ rest) ≡ taken (flat_map with_ending ls) (length ls) rest
      either true by = html_up_to_a_blank_line kind ls rest by (none-blank by have h) (blank-first apart)
      either false by =
          let up = up-to-end ts t ls by have h in
          let own = flat_map with_ending up.front in
          ap (λ l. html_lines kind (l ++ rest)) up.same
          ∙ ap (html_lines kind) (append_assoc up.front (up.last ∷ []) rest)
          ∙ html_up_to_its_end kind up.front rest up.last by up.none up.ends
          ∙ ap (λ s. taken s (suc (length up.front)) rest) (ap (λ s. own ++ s) (sym (append-nil (with_ending up.last))) ∙ sym (flat_map-append with_ending up.front (up.last ∷ [])))
          ∙ ap (λ n. taken (flat_map with_ending (up.front ++ up.last ∷ [])) n rest) (let goal : suc (length up.front) ≡ length (up.front ++ up.last ∷ []) = omega (arith, length-append up.front (up.last ∷ [])) in goal)
          ∙ ap (λ l. taken (flat_map with_ending l) (length l) rest) (sym up.same)

html-apart : {text : List ℕ} {rest : List LineView} {rules : Rules} → Follows rules (html text) rest → Apart rest
html-apart (apart_from apart) = apart

module _ (rules : Rules) (text : List ℕ) where
  -- it is made of lines that line feeds end, and they are the block's
  record IsWhole : Type 0 where
    pub kind : HtmlKind
    pub first : List ℕ
    pub further : List (List ℕ)
    pub lines : ended_lines text ≡ (60 ∷ first) ∷ further
    pub starts : html_start rules (60 ∷ first) ≡ Some kind
    pub fit : all_fit kind ((60 ∷ first) ∷ further) ≡ true

  has-lines : is_html_block rules text ≡ true → is_code_text text ≡ true
  has-lines h = go (is_code_text text) refl
    where
      go : (v : Bool) → is_code_text text ≡ v → v ≡ true
      go true e = refl
      go false e = sym (no-html rules text e) ∙ h

  is-whole : is_html_block rules text ≡ true → IsWhole
  is-whole h = go (html_start rules (first_line (ended_lines text))) refl (sym (is-html rules text (has-lines h)) ∙ h)
    where
      go : (o : Option HtmlKind) → html_start rules (first_line (ended_lines text)) ≡ o → fit_from o (ended_lines text) ≡ true → IsWhole
      go None e fit = absurd (false≢true fit)
      go (Some kind) e fit =
          let (first, is) = starts-angle rules (first_line (ended_lines text)) kind e in
          let (further, lines) = lines-from (ended_lines text) first is in
          record { kind = kind; first = first; further = further; lines = lines; starts = ap (html_start rules) (sym is) ∙ e; fit = ap (all_fit kind) (sym lines) ∙ fit }

  html-back : (h : is_html_block rules text ≡ true) → (ls rest : List LineView) → Have ls (ended_lines text) → Apart rest
      → parts_of rules (ls ++ rest) ≡ leaf (html text) (length (ended_lines text)) (parts_of rules rest)
  html-back h ls rest have apart =
      let w = is-whole h in
      let all = (60 ∷ w.first) ∷ w.further in
      let mine = subst (Have ls) w.lines have in
      let (c, further, same, more) = have-first mine in
      let reads = unindented_line rules (at c (60 ∷ w.first)) refl refl in
      ap (λ l. parts_of rules (l ++ rest)) same
      ∙ html_case rules w.kind (at c (60 ∷ w.first)) (further ++ rest) (reads.not_blank, reads.start ∙ html-starts rules w.kind w.first w.starts)
      ∙ ap (λ l. by_taken (html_lines w.kind (l ++ rest))) (sym same)
      ∙ ap by_taken (lines-back w.kind (60 ∷ w.first) w.further ls rest mine w.fit apart)
      ∙ ap (λ ts. leaf (html (flat_map with_line_feed ts)) (length ts) (parts_of rules rest)) (sym w.lines)
      ∙ ap (λ t. leaf (html t) (length (ended_lines text)) (parts_of rules rest)) (ended-whole text (and_parts (is_empty text || ends_with 10 text) (not (list_any (λ b. b == 13) text)) (has-lines h)).0)
    where
      by_taken : Taken → Parts
      by_taken t = leaf (html t.text) t.lines (parts_of rules t.following)

  pub html-fits : has_nul text ≡ false → is_html_block rules text ≡ true → LeafFits rules (record { part = html text; lines = ended_lines text })
  html-fits none h =
      let w = is-whole h in
      let clear = not-true (list_any (λ b. b == 13) text) (and_parts (is_empty text || ends_with 10 text) (not (list_any (λ b. b == 13) text)) (has-lines h)).1 in
      record {
        inner = record { first = record { line = 60 ∷ w.first; further = w.further; lines = w.lines; bare = refl }; no_dashes = refl; no_stars = refl };
        back = λ ls rest have follows. html-back h ls rest have (html-apart follows);
        interrupts = λ v. absurd (false≢true v);
        clean = ended-clean text (clean-of text none clear);
      }
