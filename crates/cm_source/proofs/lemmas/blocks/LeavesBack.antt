-- Spelled headings, breaks and paragraphs are read as they were.
use Rattle.std.proofs.Common.{◌≡◌, ℕ, zero, suc, ◌==◌, ◌&&◌, not, Bool, true, false, List, [], ◌∷◌, ◌++◌, replicate, refl, sym, ◌∙◌, ap, subst, arith, Some, None, append_assoc, if◌then◌else◌}
use Rattle.std.proofs.lemmas.Bool.{false≢true, and_parts, eqb-true}
use Rattle.std.specs.Prelude.{nat_le}
use Rattle.std.specs.List.{list_all}
use Rattle.cm_text.specs.Rules.{Rules}
use Rattle.cm_text.specs.Lines.{LineView}
use Rattle.cm_tree.specs.declared.tree.Inline.{Inline}
use Rattle.cm_scan.specs.Words.{is_at_gap, is_empty, skip, trim, run_length, after_run, given}
use Rattle.cm_scan.specs.blocks.LineForms.{Heading, atx_heading, without_closing, underline, opening_fence, fence_of, is_thematic_break, item_marker, bullet_marker, ordered_marker, marker_after}
use Rattle.cm_scan.specs.blocks.HtmlBlocks.{html_start}
use Rattle.cm_scan.specs.inlines.Links.{definitions_of}
use Rattle.cm_scan.specs.blocks.Starts.{AtxHeading, start_of_content, can_interrupt, interrupts_paragraph, underline_of}
use Rattle.cm_scan.specs.blocks.Parts.{paragraph, heading, thematic_break, Parts, leaf, put_leaves}
use Rattle.cm_scan.specs.blocks.Blocks.{add_text, rest_of, NextLine, GoesOn, Ends, by_underline, next_line, TextRun, text_run, line_count, definition_leaves, content_leaf, leaves_of_run, parts_of}
use Rattle.cm_scan.specs.laws.BlockLaws.{is_unindented, AllGoOn, no_more, one_goes_on, FirstEnds}
use Rattle.cm_scan.specs.steps.LineSteps.{by_interruption}
use Rattle.cm_scan.proofs.lemmas.blocks.PartsByCases.{break_case, heading_case, text_case}
use Rattle.cm_scan.proofs.lemmas.blocks.SingleBlocks.{unindented_line, run_up_to_its_end}
use Rattle.cm_source.specs.Inlines.{spelled_content}
use Rattle.cm_source.specs.Spelling.{break_line, in_front, parted_lines, after_space, heading_lines}
use Rattle.cm_source.specs.steps.Sources.{is_clean, is_one_line, IsTextLine, AllTextLines, IsParagraphSource, IsHeadingSource}
use Rattle.cm_source.proofs.lemmas.blocks.SequenceLines.{at, Have, no_lines, a_line, have-first}
use Rattle.cm_source.proofs.lemmas.blocks.ContinuationsBack.{at_end, before_empty}
use Rattle.cm_source.proofs.lemmas.blocks.SequenceFits.{Follows, apart_from, interrupted, LeafFits}
use Rattle.cm_source.proofs.lemmas.sources.LineFronts.{seen_view, further_lines, parted-lines}
use Rattle.cm_source.proofs.lemmas.shared.AllPass.{all-both, all-times}

-- a byte that may be in a line
abbrev pub is_inside_line : ℕ → Bool
is_inside_line b = not (b == 0) && (not (b == 10) && not (b == 13))

-- the lines of a text

pub clean-front : (b : ℕ) (lines : List (List ℕ)) → is_inside_line b ≡ true → list_all is_one_line lines ≡ true → list_all is_one_line (in_front b lines) ≡ true
clean-front b [] h k = ap (λ v. (v && true) && true) h
clean-front b (line ∷ lines) h k = ap (λ v. (v && is_one_line line) && list_all is_one_line lines) h ∙ k

pub inside-line : (b : ℕ) → (not (b == 0) && not (b == 13)) ≡ true → (b == 10) ≡ false → is_inside_line b ≡ true
inside-line b h k = grind (arith, h, k)

parted-clean : (s : List ℕ) → is_clean s ≡ true → list_all is_one_line (parted_lines s) ≡ true
unfolding parted_lines
parted-clean [] h = refl
parted-clean (b ∷ bs) h = let (first, more) = and_parts (not (b == 0) && not (b == 13)) (is_clean bs) h in go (b == 10) refl first (parted-clean bs more)
  where
    go : (v : Bool) → (b == 10) ≡ v → (not (b == 0) && not (b == 13)) ≡ true → list_all is_one_line (parted_lines bs) ≡ true
        → list_all is_one_line (if v then [] ∷ parted_lines bs else in_front b (parted_lines bs)) ≡ true
    go true e first more = more
    go false e first more = clean-front b (parted_lines bs) (inside-line b first e) more

parted-alone : (s : List ℕ) → is_one_line s ≡ true → parted_lines s ≡ s ∷ []
unfolding parted_lines
parted-alone [] h = refl
parted-alone (b ∷ bs) h =
    let (first, more) = and_parts (is_inside_line b) (is_one_line bs) h in
    ap (λ v. if v then [] ∷ parted_lines bs else in_front b (parted_lines bs)) (no-feed b first) ∙ ap (in_front b) (parted-alone bs more)
  where
    no-feed : (b : ℕ) → is_inside_line b ≡ true → (b == 10) ≡ false
    no-feed b h = grind (arith, h)

-- Headings

-- what is after the `#` of a heading whose content has this source
record EndsHashes (beyond source : List ℕ) : Type 0 where
  pub none : run_length 35 beyond ≡ 0
  pub after : after_run 35 beyond ≡ beyond
  pub gap : is_at_gap beyond ≡ true
  pub trims : trim beyond ≡ trim source
  pub clean : is_one_line source ≡ true → is_one_line beyond ≡ true

ends-hashes : (content : List Inline) → EndsHashes (after_space content) (spelled_content content)
unfolding run_length after_run skip
ends-hashes [] = record { none = refl; after = refl; gap = refl; trims = refl; clean = λ h. refl }
ends-hashes (i ∷ content) = record { none = refl; after = refl; gap = refl; trims = refl; clean = λ h. h }

hashes-length : (n : ℕ) (beyond : List ℕ) → run_length 35 beyond ≡ 0 → run_length 35 (replicate n 35 ++ beyond) ≡ n
unfolding run_length
hashes-length zero beyond h = h
hashes-length (suc n) beyond h = ap suc (hashes-length n beyond h)

hashes-after : (n : ℕ) (beyond : List ℕ) → after_run 35 beyond ≡ beyond → after_run 35 (replicate n 35 ++ beyond) ≡ beyond
unfolding after_run
hashes-after zero beyond h = h
hashes-after (suc n) beyond h = hashes-after n beyond h

heading-reads : (n : ℕ) (beyond t : List ℕ) → nat_le 1 n ≡ true → nat_le n 6 ≡ true → EndsHashes beyond t → IsHeadingSource t → atx_heading (replicate n 35 ++ beyond) ≡ Some (record { level = n; content = t })
unfolding atx_heading
heading-reads n beyond t low high e h =
    let text = replicate n 35 ++ beyond in
    ap (λ k. given (nat_le 1 k && nat_le k 6 && is_at_gap (after_run 35 text)) (record { level = k; content = trim (without_closing true (trim (after_run 35 text))) })) (hashes-length n beyond e.none)
    ∙ ap (λ s. given (nat_le 1 n && nat_le n 6 && is_at_gap s) (record { level = n; content = trim (without_closing true (trim s)) })) (hashes-after n beyond e.after)
    ∙ ap (λ v. given (v && nat_le n 6 && is_at_gap beyond) (record { level = n; content = trim (without_closing true (trim beyond)) })) low
    ∙ ap (λ v. given (v && is_at_gap beyond) (record { level = n; content = trim (without_closing true (trim beyond)) })) high
    ∙ ap (λ v. given v (record { level = n; content = trim (without_closing true (trim beyond)) })) e.gap
    ∙ ap (λ s. Some (record { level = n; content = trim (without_closing true s) })) (e.trims ∙ h.trimmed)
    ∙ ap (λ s. Some (record { level = n; content = trim s })) h.unclosed
    ∙ ap (λ s. Some (record { level = n; content = s })) h.trimmed

hash-first : (n : ℕ) (beyond : List ℕ) → nat_le 1 n ≡ true → (rest : List ℕ) × (replicate n 35 ++ beyond ≡ 35 ∷ rest)
hash-first zero beyond h = absurd (false≢true h)
hash-first (suc n) beyond h = (replicate n 35 ++ beyond, refl)

bare-not-empty : (t : List ℕ) → is_unindented t ≡ true → is_empty t ≡ false
bare-not-empty [] h = absurd (false≢true h)
bare-not-empty (b ∷ t) h = refl

-- more lines after a source that isn't empty
unfoldable pub with_lines : List ℕ → List (List ℕ) → List ℕ
with_lines source [] = source
with_lines source (t ∷ ts) = with_lines (source ++ 10 ∷ t) ts

not-empty : (s t : List ℕ) → is_empty s ≡ false → is_empty (s ++ t) ≡ false
not-empty [] t h = absurd (false≢true (sym h))
not-empty (b ∷ s) t h = refl

-- the lines of a text, parted and joined
join-in-front : (a source : List ℕ) (ts : List (List ℕ)) → with_lines (a ++ source) ts ≡ a ++ with_lines source ts
unfolding with_lines
join-in-front a source [] = refl
join-in-front a source (t ∷ ts) = ap (λ s. with_lines s ts) (append_assoc a source (10 ∷ t)) ∙ join-in-front a (source ++ 10 ∷ t) ts

abbrev pub join-all : List (List ℕ) → List ℕ
join-all [] = []
join-all (t ∷ ts) = with_lines t ts

pub parted-joined : (s : List ℕ) → join-all (parted_lines s) ≡ s
unfolding parted_lines with_lines
parted-joined [] = refl
parted-joined (b ∷ bs) = let again : join-all (parted_lines bs) ≡ bs = parted-joined bs in go (b == 10) refl (seen_view bs) (further_lines bs) (parted-lines bs) again
  where
    go : (v : Bool) → (b == 10) ≡ v → (f : List ℕ) (g : List (List ℕ)) → parted_lines bs ≡ f ∷ g → join-all (parted_lines bs) ≡ bs → join-all (if v then [] ∷ parted_lines bs else in_front b (parted_lines bs)) ≡ b ∷ bs
    go true h f g e again = ap (λ l. join-all ([] ∷ l)) e ∙ join-in-front (10 ∷ []) f g ∙ ap (λ l. 10 ∷ join-all l) (sym e) ∙ ap (λ l. 10 ∷ l) again ∙ ap (λ x. x ∷ bs) (sym (eqb-true b 10 h))
    go false h f g e again = ap (λ l. join-all (in_front b l)) e ∙ join-in-front (b ∷ []) f g ∙ ap (λ l. b ∷ join-all l) (sym e) ∙ ap (λ l. b ∷ l) again

with-lines-not-empty : (s : List ℕ) (ts : List (List ℕ)) → is_empty s ≡ false → is_empty (with_lines s ts) ≡ false
unfolding with_lines
with-lines-not-empty s [] h = h
with-lines-not-empty s (t ∷ ts) h = with-lines-not-empty (s ++ 10 ∷ t) ts (not-empty s (10 ∷ t) h)

module _ (rules : Rules) where
  -- Breaks

  break-back : (ls rest : List LineView) → Have ls (break_line ∷ []) → parts_of rules (ls ++ rest) ≡ leaf thematic_break 1 (parts_of rules rest)
  unfolding start_of_content atx_heading opening_fence fence_of html_start is_thematic_break item_marker bullet_marker ordered_marker marker_after run_length after_run skip
  break-back ls rest (a_line {c = c} no_lines) = let reads = unindented_line rules (at c break_line) refl refl in break_case rules (at c break_line) rest (reads.not_blank, reads.start)

  pub break-fits : LeafFits rules (record { part = thematic_break; lines = break_line ∷ [] })
  break-fits = record {
    inner = record { first = record { line = break_line; further = []; lines = refl; bare = refl }; no_dashes = refl; no_stars = refl };
    back = λ ls rest have follows. break-back ls rest have;
    interrupts = λ h. absurd (false≢true h);
    clean = refl;
  }

  -- Headings

  heading-start : (h : Heading) (rest : List ℕ) → atx_heading (35 ∷ rest) ≡ Some h → start_of_content rules (35 ∷ rest) ≡ AtxHeading h
  unfolding start_of_content
  heading-start h rest e = rw e refl

  module _ (n : ℕ) (content : List Inline) (low : nat_le 1 n ≡ true) (high : nat_le n 6 ≡ true) (h : IsHeadingSource (spelled_content content)) where
    abbrev hash_line : List ℕ
    hash_line = replicate n 35 ++ after_space content

    line-clean : is_one_line hash_line ≡ true
    line-clean = all-both is_inside_line (replicate n 35) (after_space content) (all-times is_inside_line n 35 refl) ((ends-hashes content).clean h.clean)

    heading-back : (ls rest : List LineView) → Have ls (hash_line ∷ []) → parts_of rules (ls ++ rest) ≡ leaf (heading n (spelled_content content)) 1 (parts_of rules rest)
    heading-back ls rest (a_line {c = c} no_lines) =
        let (hashes, e) = hash-first n (after_space content) low in
        let found : Heading = record { level = n; content = (spelled_content content) } in
        let starts : start_of_content rules hash_line ≡ AtxHeading found
        = ap (start_of_content rules) e
        ∙ heading-start found hashes (ap atx_heading (sym e) ∙ heading-reads n (after_space content) (spelled_content content) low high (ends-hashes content) h) in
        let reads = unindented_line rules (at c hash_line) refl (ap is_unindented e) in
        heading_case rules found (at c hash_line) rest (reads.not_blank, reads.start ∙ starts)

    one : heading_lines n content ≡ hash_line ∷ []
    one = parted-alone hash_line line-clean

    pub heading-fits : LeafFits rules (record { part = heading n (spelled_content content); lines = heading_lines n content })
    heading-fits =
        let (hashes, e) = hash-first n (after_space content) low in
        record {
          inner = record { first = record { line = 35 ∷ hashes; further = []; lines = one ∙ ap (λ l. l ∷ []) e; bare = refl }; no_dashes = refl; no_stars = refl };
          back = λ ls rest have follows. heading-back ls rest (subst (Have ls) one have);
          interrupts = λ v. absurd (false≢true v);
          clean = ap (list_all is_one_line) one ∙ ap (λ v. v && true) line-clean;
        }

  -- Paragraphs

  abbrev by_blank : List ℕ → LineView → Bool → NextLine
  by_blank source l v = elim v as (λ _. NextLine) [ true ↦ Ends | false ↦ by_underline (underline_of l) (not (is_empty (rest_of source))) (interrupts_paragraph rules l) ]

  goes-on : (source : List ℕ) (c : ℕ) (t : List ℕ) → IsTextLine rules t → next_line rules source (at c t) ≡ GoesOn
  unfolding next_line interrupts_paragraph
  goes-on source c t h =
      let l = at c t in
      let reads = unindented_line rules l refl h.bare in
      ap (by_blank source l) reads.not_blank
      ∙ ap (λ u. by_underline u (not (is_empty (rest_of source))) (interrupts_paragraph rules l)) (reads.level ∙ h.no_underline)
      ∙ ap (λ s. by_interruption (can_interrupt s l)) (reads.start ∙ h.starts)

  ends-at : (source : List ℕ) (c : ℕ) (t : List ℕ) → is_unindented t ≡ true → interrupts_paragraph rules (at c t) ≡ true → underline t ≡ None → next_line rules source (at c t) ≡ Ends
  unfolding next_line
  ends-at source c t b i u =
      let l = at c t in
      let reads = unindented_line rules l refl b in
      ap (by_blank source l) reads.not_blank
      ∙ ap (λ u. by_underline u (not (is_empty (rest_of source))) (interrupts_paragraph rules l)) (reads.level ∙ u)
      ∙ ap by_interruption i

  first-ends : (x source : List ℕ) (rest : List LineView) → Follows rules (paragraph x) rest → FirstEnds rules source rest
  unfolding next_line
  first-ends x source rest (apart_from at_end) = tt
  first-ends x source rest (apart_from before_empty) = refl
  first-ends x source rest (interrupted {line = t} {c = c} b i u) = ends-at source c t b i u

  add-line : (source : List ℕ) (c : ℕ) (t : List ℕ) → is_empty source ≡ false → is_unindented t ≡ true → add_text source (at c t) ≡ source ++ 10 ∷ t
  add-line [] c t h b = absurd (false≢true (sym h))
  add-line (s ∷ ss) c t h b = ap (λ l. (s ∷ ss) ++ 10 ∷ l) (unindented_line rules (at c t) refl b).content

  all-go-on : (ts : List (List ℕ)) (ls : List LineView) → Have ls ts → AllTextLines rules ts → (source : List ℕ) → is_empty source ≡ false → AllGoOn rules source ls (with_lines source ts)
  unfolding with_lines
  all-go-on [] ls no_lines h source n = no_more
  all-go-on (t ∷ ts) ls (a_line {c = c} {ls = further} have) h source n =
      let first : IsTextLine rules t = h.0 in
      one_goes_on (goes-on source c t first)
      (subst (λ s. AllGoOn rules s further (with_lines (source ++ 10 ∷ t) ts)) (sym (add-line source c t n first.bare)) (all-go-on ts further have h.1 (source ++ 10 ∷ t) (not-empty source (10 ∷ t) n)))

  paragraph-back : (s : List ℕ) (ls rest : List LineView) → IsParagraphSource rules s → Have ls (parted_lines s) → Follows rules (paragraph s) rest → parts_of rules (ls ++ rest) ≡ leaf (paragraph s) (line_count s) (parts_of rules rest)
  unfolding leaves_of_run definition_leaves put_leaves
  paragraph-back s ls rest p have follows =
      let (c, further, same, more) = have-first (subst (Have ls) p.lines have) in
      let whole = with_lines p.first p.further in
      let filled = bare-not-empty p.first p.bare in
      let run : text_run rules p.first (further ++ rest) ≡ record { source = whole; level = None; following = rest }
      = run_up_to_its_end rules p.first whole further rest (all-go-on p.further further more p.others p.first filled) (first-ends s whole rest follows) in
      let source : whole ≡ s = ap join-all (sym p.lines) ∙ parted-joined s in
      let reads = unindented_line rules (at c p.first) refl p.bare in
      ap (λ l. parts_of rules (l ++ rest)) same
      ∙ text_case rules (at c p.first) (further ++ rest) (reads.not_blank, reads.start ∙ p.starts)
      ∙ ap (λ t. put_leaves (leaves_of_run (text_run rules t (further ++ rest))) (parts_of rules (text_run rules t (further ++ rest)).following)) reads.content
      ∙ ap (λ (r : TextRun). put_leaves (leaves_of_run r) (parts_of rules r.following)) run
      ∙ ap (λ t. put_leaves (leaves_of_run (record { source = t; level = None; following = rest })) (parts_of rules rest)) source
      ∙ ap by_source p.trimmed
      ∙ ap (λ d. put_leaves (definition_leaves s d.taken ++ content_leaf None d.left) (parts_of rules rest)) p.defines_nothing
      ∙ content s (sym (ap is_empty source) ∙ with-lines-not-empty p.first p.further filled)
    where
      by_source : List ℕ → Parts
      by_source t = put_leaves (definition_leaves t (definitions_of t).taken ++ content_leaf None (definitions_of t).left) (parts_of rules rest)

      content : (t : List ℕ) → is_empty t ≡ false → put_leaves (content_leaf None t) (parts_of rules rest) ≡ leaf (paragraph t) (line_count t) (parts_of rules rest)
      content [] e = absurd (false≢true (sym e))
      content (b ∷ t) e = refl

  pub paragraph-fits : (s : List ℕ) → IsParagraphSource rules s → LeafFits rules (record { part = paragraph s; lines = parted_lines s })
  paragraph-fits s p = record {
    inner = record { first = record { line = p.first; further = p.further; lines = p.lines; bare = p.bare }; no_dashes = p.no_dashes; no_stars = p.no_stars };
    back = λ ls rest have follows. paragraph-back s ls rest p have follows;
    interrupts = λ v. absurd (false≢true v);
    clean = parted-clean s p.clean;
  }
