-- Which lines stay in a spelled quote or item, and which leave it; so quotes and items read back, if their content does.
use Rattle.std.proofs.Common.{◌≡◌, ℕ, suc, ◌+◌, Bool, true, false, not, ◌&&◌, List, [], ◌∷◌, ◌++◌, length, map, drop, replicate, refl, sym, ◌∙◌, ap, subst, arith, Option, Some, None, append_assoc, append-nil}
use Rattle.std.proofs.lemmas.Bool.{false≢true, le-leb, lt-leb}
use Rattle.std.proofs.Math.Seq.{drop-append_seam}
use Rattle.std.specs.Prelude.{nat_le}
use Rattle.cm_text.specs.Rules.{Rules}
use Rattle.cm_text.specs.Lines.{LineView}
use Rattle.cm_text.specs.Indentation.{indent_of, strip_columns}
use Rattle.cm_tree.specs.declared.tree.ListKind.{ListKind}
use Rattle.cm_scan.specs.Words.{is_blank_text, skip, run_length, after_run}
use Rattle.cm_scan.specs.blocks.Lines.{is_blank, past, as_lazy}
use Rattle.cm_scan.specs.blocks.LineForms.{ItemMarker, marker_width, is_thematic_break, atx_heading, opening_fence, fence_of, item_marker, bullet_marker, ordered_marker, marker_after, underline}
use Rattle.cm_scan.specs.blocks.HtmlBlocks.{html_start}
use Rattle.cm_scan.specs.blocks.Starts.{Start, QuoteMarker, ItemStart, start_of, start_of_content, after_quote_marker, after_marker, starts_at_one, can_interrupt, interrupts_paragraph, Continuation, StaysIfOpen, Leaves, quote_continuation, continuation_in_quote, continuation_if_lazy, may_be_lazy, item_continuation, continuation_in_item, content_column, first_content}
use Rattle.cm_scan.specs.blocks.Parts.{Parts, leaves_paragraph_open, quote, put_item, none, blank}
use Rattle.cm_scan.specs.blocks.Blocks.{is_bare, parts_of}
use Rattle.cm_scan.specs.laws.PartLaws.{goes_inward, next_inward, AllStay, no_more, one_stays, FirstLeaves}
use Rattle.cm_scan.specs.laws.BlockLaws.{is_unindented}
use Rattle.cm_scan.proofs.lemmas.blocks.PartsByCases.{quote_case, item_case, blank_case, no_lines as no_lines_case}
use Rattle.cm_scan.proofs.lemmas.blocks.SingleBlocks.{unindented_line, item_and_space, item_alone}
use Rattle.cm_source.specs.Spelling.{spaced, quoted, indented, item_lines, marker}
use Rattle.cm_source.specs.steps.Sources.{is_only}
use Rattle.cm_source.proofs.lemmas.blocks.SequenceLines.{at, Have, no_lines, a_line, indent-spaces, strip-indented, beyond-quote}

-- what follows a block: nothing, or an empty line
pub data Apart : List LineView → Type 0 where
  at_end : Apart []
  before_empty : {c : ℕ} {ls : List LineView} → Apart (at c [] ∷ ls)

-- a marker as it is read
pub record MarkerReads (rules : Rules) (kind : ListKind) : Type 0 where
  pub read : ItemMarker
  pub same : read.kind ≡ kind
  pub width : length (marker kind) ≡ marker_width read
  pub bare : is_unindented (marker kind) ≡ true
  pub starts : (t : List ℕ) → is_only 45 t ≡ false → is_only 42 t ≡ false → start_of_content rules (marker kind ++ 32 ∷ t) ≡ ItemStart read
  pub starts_alone : start_of_content rules (marker kind) ≡ ItemStart read
  pub no_underline : (t : List ℕ) → is_unindented t ≡ true → underline (marker kind ++ 32 ∷ t) ≡ None

pub bare-front : (front t : List ℕ) → is_unindented front ≡ true → is_unindented (front ++ t) ≡ true
bare-front [] t e = absurd (false≢true e)
bare-front (b ∷ front) t e = e

pub spaced-bare : (t : List ℕ) → is_unindented t ≡ true → spaced t ≡ 32 ∷ t
spaced-bare [] e = absurd (false≢true e)
spaced-bare (b ∷ t) e = refl

module _ (rules : Rules) where
  -- Quotes

  pub quote-start : (c : ℕ) (t : List ℕ) → start_of rules (at c (quoted t)) ≡ QuoteMarker
  unfolding start_of_content
  quote-start c t = (unindented_line rules (at c (quoted t)) refl refl).start

  abbrev in_quote : Bool → LineView → Continuation
  in_quote bare l = continuation_in_quote rules l

  goes-in-quote : (so_far : List LineView) (c d : ℕ) (t : List ℕ) → after_quote_marker (at c (quoted t)) ≡ at d t → next_inward rules in_quote so_far (at c (quoted t)) ≡ Some (at d t)
  unfolding continuation_in_quote
  goes-in-quote so_far c d t e =
      ap (λ (s : Start). goes_inward (quote_continuation rules s (at c (quoted t))) (leaves_paragraph_open (parts_of rules so_far))) (quote-start c t)
      ∙ ap (λ l. Some l) e

  all-in-quote : (ts : List (List ℕ)) (ls so_far : List LineView) → Have ls (map quoted ts) → (inner : List LineView) × Have inner ts × AllStay rules in_quote so_far ls (so_far ++ inner)
  all-in-quote [] ls so_far no_lines = ([], no_lines, subst (AllStay rules in_quote so_far []) (sym (append-nil so_far)) no_more)
  all-in-quote (t ∷ ts) ls so_far (a_line {c = c} {ls = further} have) =
      let (d, e) = beyond-quote c t in
      let (inner, more, all) = all-in-quote ts further (so_far ++ at d t ∷ []) have in
      (at d t ∷ inner, a_line more, one_stays (goes-in-quote so_far c d t e) (subst (AllStay rules in_quote (so_far ++ at d t ∷ []) further) (append_assoc so_far (at d t ∷ []) inner) all))

  out-of-quote : (inner rest : List LineView) → Apart rest → FirstLeaves rules in_quote inner rest
  unfolding continuation_in_quote continuation_if_lazy start_of start_of_content atx_heading opening_fence fence_of html_start is_thematic_break item_marker bullet_marker ordered_marker marker_after run_length after_run skip
  out-of-quote inner rest at_end = tt
  out-of-quote inner rest before_empty = refl

  -- a quote, from what its content is read as
  pub quote-back : (t : List ℕ) (ts : List (List ℕ)) (ls rest : List LineView) (p : Parts) → ((inner : List LineView) → Have inner (t ∷ ts) → parts_of rules inner ≡ p)
      → Have ls (map quoted (t ∷ ts)) → Apart rest → parts_of rules (ls ++ rest) ≡ quote p (parts_of rules rest)
  quote-back t ts ls rest p content (a_line {c = c} {ls = further} have) apart =
      let (d, e) = beyond-quote c t in
      let first = after_quote_marker (at c (quoted t)) in
      let (inner, more, all) = all-in-quote ts further (first ∷ []) have in
      let whole : Have (first ∷ inner) (t ∷ ts) = subst (λ l. Have (l ∷ inner) (t ∷ ts)) (sym e) (a_line more) in
      quote_case rules (at c (quoted t)) further (first ∷ inner) rest ((unindented_line rules (at c (quoted t)) refl refl).not_blank, quote-start c t) all (out-of-quote _ rest apart)
      ∙ ap (λ q. quote q (parts_of rules rest)) (content _ whole)

  -- Items

  -- a line at the margin stays at most where it is lazy
  at-margin : (n c : ℕ) (bare : Bool) (t : List ℕ) → is_unindented t ≡ true → continuation_in_item rules (suc n) bare (at c t) ≡ continuation_if_lazy rules (at c t)
  unfolding continuation_in_item
  at-margin n c bare t b =
      let l = at c t in
      let reads = unindented_line rules l refl b in
      let inner = strip_columns (suc n) l in
      ap (λ v. item_continuation v bare (nat_le (suc n) (indent_of l)) inner (continuation_if_lazy rules l)) reads.not_blank
      ∙ ap (λ i. item_continuation false bare (nat_le (suc n) i) inner (continuation_if_lazy rules l)) reads.no_columns
      ∙ ap (λ v. item_continuation false bare v inner (continuation_if_lazy rules l)) (lt-leb (suc n) 0 (omega arith))

  abbrev lazily : LineView → Bool → Continuation
  lazily l v = elim v as (λ _. Continuation) [ true ↦ StaysIfOpen (as_lazy l) | false ↦ Leaves ]

  -- a line that starts an item of whatever kind leaves each item
  pub marker-leaves : (n c : ℕ) (t : List ℕ) (m : ItemMarker) (inner rest : List LineView) → is_unindented t ≡ true → start_of_content rules t ≡ ItemStart m
      → FirstLeaves rules (continuation_in_item rules (suc n)) inner (at c t ∷ rest)
  unfolding continuation_if_lazy
  marker-leaves n c t m inner rest b s =
      let l = at c t in
      let reads = unindented_line rules l refl b in
      let left_open = leaves_paragraph_open (parts_of rules inner) in
      ap (λ p. goes_inward p left_open) (at-margin n c (is_bare inner) t b)
      ∙ ap (λ v. goes_inward (lazily l (not v && may_be_lazy (start_of rules l))) left_open) reads.not_blank
      ∙ ap (λ v. goes_inward (lazily l (may_be_lazy v)) left_open) (reads.start ∙ s)

  -- a line at the margin leaves an item that leaves no paragraph open
  pub bare-leaves : (n c : ℕ) (t : List ℕ) (inner rest : List LineView) → is_unindented t ≡ true → leaves_paragraph_open (parts_of rules inner) ≡ false
      → FirstLeaves rules (continuation_in_item rules (suc n)) inner (at c t ∷ rest)
  unfolding continuation_if_lazy
  bare-leaves n c t inner rest b closed =
      let l = at c t in
      let left_open = leaves_paragraph_open (parts_of rules inner) in
      ap (λ p. goes_inward p left_open) (at-margin n c (is_bare inner) t b)
      ∙ ap (goes_inward (continuation_if_lazy rules l)) closed
      ∙ either (not (is_blank l) && may_be_lazy (start_of rules l))
    where
      either : (v : Bool) → goes_inward (lazily (at c t) v) false ≡ None
      either true = refl
      either false = refl

  -- the further lines stay
  stays-in-item : (so_far : List LineView) (n c d : ℕ) (t : List ℕ) → is_bare so_far ≡ false → strip_columns n (at c (indented n t)) ≡ at d t
      → next_inward rules (continuation_in_item rules n) so_far (at c (indented n t)) ≡ Some (at d t)
  unfolding continuation_in_item
  stays-in-item so_far n c d [] e s =
      let l = at c [] in
      ap (λ v. goes_inward (item_continuation true v (nat_le n (indent_of l)) (strip_columns n l) (continuation_if_lazy rules l)) (leaves_paragraph_open (parts_of rules so_far))) e
      ∙ ap (λ l. Some l) s
  stays-in-item so_far n c d (b ∷ t) e s =
      let spaces = indent-spaces n c (b ∷ t) in
      ap (λ v. by_column (is_blank l) v (is_bare so_far)) (le-leb n (indent_of l) (omega (arith, spaces)))
      ∙ ap (by_column (is_blank l) true) e
      ∙ always (is_blank l)
      ∙ ap (λ l. Some l) s
    where
      l : LineView
      l = at c (replicate n 32 ++ b ∷ t)

      by_column : Bool → Bool → Bool → Option LineView
      by_column w reaches bare = goes_inward (item_continuation w bare reaches (strip_columns n l) (continuation_if_lazy rules l)) (leaves_paragraph_open (parts_of rules so_far))

      always : (w : Bool) → by_column w true false ≡ Some (strip_columns n l)
      always true = refl
      always false = refl

  not-bare : (c : ℕ) (t : List ℕ) (more : List LineView) → is_unindented t ≡ true → is_bare (at c t ∷ more) ≡ false
  not-bare c t [] e = (unindented_line rules (at c t) refl e).not_blank
  not-bare c t (l ∷ more) e = refl

  all-in-item : (n : ℕ) (first : LineView) (ts : List (List ℕ)) (ls so_far : List LineView) → ((more : List LineView) → is_bare (first ∷ more) ≡ false)
      → Have ls (map (indented n) ts) → (inner : List LineView) × Have inner ts × AllStay rules (continuation_in_item rules n) (first ∷ so_far) ls ((first ∷ so_far) ++ inner)
  all-in-item n first [] ls so_far b no_lines = ([], no_lines, subst (AllStay rules (continuation_in_item rules n) (first ∷ so_far) []) (sym (append-nil (first ∷ so_far))) no_more)
  all-in-item n first (t ∷ ts) ls so_far b (a_line {c = c} {ls = further} have) =
      let (d, e) = strip-indented n c t in
      let (inner, more, all) = all-in-item n first ts further (so_far ++ at d t ∷ []) b have in
      (at d t ∷ inner, a_line more, one_stays (stays-in-item (first ∷ so_far) n c d t (b so_far) e) (subst (AllStay rules (continuation_in_item rules n) (first ∷ so_far ++ at d t ∷ []) further) (append_assoc (first ∷ so_far) (at d t ∷ []) inner) all))

  module _ (kind : ListKind) (r : MarkerReads rules kind) where
    -- it can interrupt a paragraph
    pub marker-interrupts : (c : ℕ) (t : List ℕ) → is_unindented t ≡ true → is_only 45 t ≡ false → is_only 42 t ≡ false → starts_at_one kind ≡ true
        → interrupts_paragraph rules (at c (marker kind ++ 32 ∷ t)) ≡ true
    unfolding interrupts_paragraph past
    marker-interrupts c t b dashes stars one =
        let l = at c (marker kind ++ 32 ∷ t) in
        let bare = bare-front (marker kind) (32 ∷ t) r.bare in
        let reads = unindented_line rules l refl bare in
        ap (λ s. can_interrupt s l) (reads.start ∙ r.starts t dashes stars)
        ∙ ap (λ k. starts_at_one k && not (is_blank (after_marker r.read l))) r.same
        ∙ ap (λ v. v && not (is_blank (after_marker r.read l))) one
        ∙ ap (λ s. not (is_blank_text (drop (marker_width r.read) s))) reads.content
        ∙ ap (λ n. not (is_blank_text (drop n (marker kind ++ 32 ∷ t)))) (sym r.width)
        ∙ ap (λ s. not (is_blank_text s)) (drop-append_seam (marker kind) (32 ∷ t))
        ∙ ap not (unindented_line rules (at c t) refl b).not_blank

    -- an item, from what its content is read as
    pub item-back : (t : List ℕ) (ts : List (List ℕ)) (ls rest : List LineView) (p : Parts) → is_unindented t ≡ true → is_only 45 t ≡ false → is_only 42 t ≡ false
        → ((inner : List LineView) → Have inner (t ∷ ts) → parts_of rules inner ≡ p) → Have ls (item_lines (marker kind) (t ∷ ts))
        → ((inner : List LineView) → Have inner (t ∷ ts) → FirstLeaves rules (continuation_in_item rules (suc (marker_width r.read))) inner rest)
        → parts_of rules (ls ++ rest) ≡ put_item kind p (parts_of rules rest)
    item-back [] ts ls rest p b dashes stars content have out = absurd (false≢true b)
    item-back (x ∷ xs) ts ls rest p b dashes stars content (a_line {c = c} {ls = further} have) out =
        let t = x ∷ xs in
        let l = at c (marker kind ++ 32 ∷ t) in
        let n = suc (marker_width r.read) in
        let bare = bare-front (marker kind) (32 ∷ t) r.bare in
        let reads = unindented_line rules l refl bare in
        let (column, first) = item_and_space r.read l (marker kind) t refl r.width r.bare b in
        let d = c + n in
        let have' : Have further (map (indented n) ts) = let k : length (marker kind) + 1 ≡ n = omega (arith, r.width) in subst (λ k. Have further (map (indented k) ts)) k have in
        let (inner, more, all) = all-in-item n (at d t) ts further [] (λ m. not-bare d t m b) have' in
        let whole : Have (at d t ∷ inner) (t ∷ ts) = a_line more in
        let all' : AllStay rules (continuation_in_item rules (content_column r.read l)) (first_content r.read l ∷ []) further (at d t ∷ inner)
        = subst (λ f. AllStay rules (continuation_in_item rules (content_column r.read l)) (f ∷ []) further (at d t ∷ inner)) (sym first) (subst (λ n. AllStay rules (continuation_in_item rules n) (at d t ∷ []) further (at d t ∷ inner)) (sym column) all) in
        let out' : FirstLeaves rules (continuation_in_item rules (content_column r.read l)) (at d t ∷ inner) rest = subst (λ n. FirstLeaves rules (continuation_in_item rules n) (at d t ∷ inner) rest) (sym column) (out _ whole) in
        item_case rules r.read l further (at d t ∷ inner) rest (reads.not_blank, reads.start ∙ r.starts t dashes stars) all' out'
        ∙ ap (λ q. put_item r.read.kind q (parts_of rules rest)) (content _ whole)
        ∙ ap (λ k. put_item k p (parts_of rules rest)) r.same

    -- one with nothing in it
    pub bare-item-back : (ls rest : List LineView) → Have ls (item_lines (marker kind) [])
        → ((d : ℕ) → FirstLeaves rules (continuation_in_item rules (suc (marker_width r.read))) (at d [] ∷ []) rest)
        → parts_of rules (ls ++ rest) ≡ put_item kind (blank none) (parts_of rules rest)
    bare-item-back ls rest (a_line {c = c} no_lines) out =
        let l = at c (marker kind) in
        let reads = unindented_line rules l refl r.bare in
        let (column, first) = item_alone r.read l r.width r.bare in
        let d = c + marker_width r.read in
        let all : AllStay rules (continuation_in_item rules (content_column r.read l)) (first_content r.read l ∷ []) [] (at d [] ∷ [])
        = subst (λ f. AllStay rules (continuation_in_item rules (content_column r.read l)) (f ∷ []) [] (at d [] ∷ [])) (sym first) no_more in
        let out' : FirstLeaves rules (continuation_in_item rules (content_column r.read l)) (at d [] ∷ []) rest = subst (λ n. FirstLeaves rules (continuation_in_item rules n) (at d [] ∷ []) rest) (sym column) (out d) in
        item_case rules r.read l [] (at d [] ∷ []) rest (reads.not_blank, reads.start ∙ r.starts_alone) all out'
        ∙ ap (λ q. put_item r.read.kind q (parts_of rules rest)) (blank_case rules (at d []) [] refl ∙ ap blank (no_lines_case rules))
        ∙ ap (λ k. put_item k (blank none) (parts_of rules rest)) r.same
