-- What the markers of items are read as.
use Rattle.std.proofs.Common.{◌≡◌, ℕ, suc, ◌<◌, ◌^◌, ◌==◌, ◌&&◌, not, Bool, true, false, List, [], ◌∷◌, ◌++◌, length, refl, sym, ◌∙◌, ap, arith, Option, Some, None, append_assoc}
use Rattle.std.proofs.lemmas.Bool.{false≢true, and_parts}
use Rattle.std.proofs.lemmas.Bool.Decides.{nat_tests}
use Rattle.std.proofs.lemmas.List.Folds.{list_all-append}
use Rattle.std.specs.List.{list_all}
use Rattle.std.specs.Fmt.{decimal}
use Rattle.std.specs.Char.{is_ascii_digit}
use Rattle.cm_text.specs.Rules.{Rules}
use Rattle.cm_tree.specs.declared.tree.ListKind.{ListKind}
use Rattle.cm_tree.specs.declared.tree.ListKind.TheVariants.{Dash, Plus, Star, Dot, Paren}
use Rattle.cm_scan.specs.Words.{is_space_or_tab, is_at_gap, skip, front_of, run_length, after_run, given, ◌<|>◌}
use Rattle.cm_scan.specs.blocks.LineForms.{most_digits, atx_heading, underline, opening_fence, fence_of, is_thematic_break, ItemMarker, item_marker, bullet_marker, ordered_marker, marker_after, marker_at_gap, ordered_kind, is_number, decimal_value}
use Rattle.cm_scan.specs.blocks.HtmlBlocks.{html_start}
use Rattle.cm_scan.specs.blocks.Starts.{ItemStart, start_of_content}
use Rattle.cm_scan.specs.laws.BlockLaws.{is_unindented}
use Rattle.cm_scan.proofs.lemmas.blocks.SingleBlocks.{unindented_line}
use Rattle.cm_source.specs.Spelling.{marker}
use Rattle.cm_source.specs.Refusals.{begins_too_high}
use Rattle.cm_source.specs.steps.Sources.{is_only, is_one_line}
use Rattle.cm_source.proofs.lemmas.blocks.NumbersBack.{digits-are, value-is, short-is}
use Rattle.cm_source.proofs.lemmas.blocks.ContinuationsBack.{MarkerReads}
use Rattle.cm_source.proofs.lemmas.blocks.SequenceFits.{KindFits}
use Rattle.cm_scan.proofs.lemmas.blocks.QuietStarts.{no-level}

digits-front : (ds : List ℕ) (p : ℕ) (rest : List ℕ) → list_all is_ascii_digit ds ≡ true → is_ascii_digit p ≡ false → front_of is_ascii_digit (ds ++ p ∷ rest) ≡ ds
unfolding front_of
digits-front [] p rest all e = ap (λ (v : Bool). elim v as (λ _. List ℕ) [ true ↦ p ∷ front_of is_ascii_digit rest | false ↦ [] ]) e
digits-front (d ∷ ds) p rest all e =
    let (h, more) = and_parts (is_ascii_digit d) (list_all is_ascii_digit ds) all in
    ap (λ (v : Bool). elim v as (λ _. List ℕ) [ true ↦ d ∷ front_of is_ascii_digit (ds ++ p ∷ rest) | false ↦ [] ]) h
    ∙ ap (λ l. d ∷ l) (digits-front ds p rest more e)

digits-skip : (ds : List ℕ) (p : ℕ) (rest : List ℕ) → list_all is_ascii_digit ds ≡ true → is_ascii_digit p ≡ false → skip is_ascii_digit (ds ++ p ∷ rest) ≡ p ∷ rest
unfolding skip
digits-skip [] p rest all e = ap (λ (v : Bool). elim v as (λ _. List ℕ) [ true ↦ skip is_ascii_digit rest | false ↦ p ∷ rest ]) e
digits-skip (d ∷ ds) p rest all e =
    let (h, more) = and_parts (is_ascii_digit d) (list_all is_ascii_digit ds) all in
    ap (λ (v : Bool). elim v as (λ _. List ℕ) [ true ↦ skip is_ascii_digit (ds ++ p ∷ rest) | false ↦ d ∷ (ds ++ p ∷ rest) ]) h
    ∙ digits-skip ds p rest more e

no-bullet : (d : ℕ) (rest : List ℕ) → is_ascii_digit d ≡ true → bullet_marker (d ∷ rest) ≡ None
unfolding bullet_marker
no-bullet d rest h = grind (arith, h)

width-is : (ds : List ℕ) (p : ℕ) → length (ds ++ p ∷ []) ≡ suc (length ds)
width-is [] p = refl
width-is (d ∷ ds) p = ap suc (width-is ds p)

digit-clean : (d : ℕ) → is_ascii_digit d ≡ true → (not (d == 0) && (not (d == 10) && not (d == 13))) ≡ true
digit-clean d h = grind (arith, h)

digits-clean : (ds : List ℕ) → list_all is_ascii_digit ds ≡ true → is_one_line ds ≡ true
digits-clean [] h = refl
digits-clean (d ∷ ds) h =
    let (first, more) = and_parts (is_ascii_digit d) (list_all is_ascii_digit ds) h in
    ap (λ v. v && is_one_line ds) (digit-clean d first) ∙ digits-clean ds more

module _ (rules : Rules) where
  dash-starts : (t : List ℕ) → is_only 45 t ≡ false → start_of_content rules (45 ∷ 32 ∷ t) ≡ ItemStart (record { kind = Dash; digits = 0 })
  unfolding start_of_content atx_heading opening_fence fence_of html_start is_thematic_break item_marker bullet_marker run_length after_run
  dash-starts t d = rw d refl

  star-starts : (t : List ℕ) → is_only 42 t ≡ false → start_of_content rules (42 ∷ 32 ∷ t) ≡ ItemStart (record { kind = Star; digits = 0 })
  unfolding start_of_content atx_heading opening_fence fence_of html_start is_thematic_break item_marker bullet_marker run_length after_run
  star-starts t d = rw d refl

  plus-starts : (t : List ℕ) → start_of_content rules (43 ∷ 32 ∷ t) ≡ ItemStart (record { kind = Plus; digits = 0 })
  unfolding start_of_content atx_heading opening_fence fence_of html_start is_thematic_break item_marker bullet_marker run_length after_run
  plus-starts t = refl

  dash-alone : start_of_content rules (45 ∷ []) ≡ ItemStart (record { kind = Dash; digits = 0 })
  unfolding start_of_content atx_heading opening_fence fence_of html_start is_thematic_break item_marker bullet_marker run_length after_run
  dash-alone = refl

  star-alone : start_of_content rules (42 ∷ []) ≡ ItemStart (record { kind = Star; digits = 0 })
  unfolding start_of_content atx_heading opening_fence fence_of html_start is_thematic_break item_marker bullet_marker run_length after_run
  star-alone = refl

  plus-alone : start_of_content rules (43 ∷ []) ≡ ItemStart (record { kind = Plus; digits = 0 })
  unfolding start_of_content atx_heading opening_fence fence_of html_start is_thematic_break item_marker bullet_marker run_length after_run
  plus-alone = refl

  dash-no_underline : (t : List ℕ) → is_unindented t ≡ true → underline (45 ∷ 32 ∷ t) ≡ None
  unfolding underline run_length after_run
  dash-no_underline t b = ap (λ v. given v 2) (unindented_line rules (record { column = 0; text = t; lazy = false }) refl b).not_blank

  digit-starts : (d : ℕ) (rest : List ℕ) (m : ItemMarker) → is_ascii_digit d ≡ true → item_marker (d ∷ rest) ≡ Some m → start_of_content rules (d ∷ rest) ≡ ItemStart m
  unfolding start_of_content atx_heading opening_fence fence_of html_start is_thematic_break run_length after_run
  digit-starts d rest m h e = grind (arith, h, e)

  -- digits and what is after them
  module _ (ds : List ℕ) (p : ℕ) (kind : ListKind) (all : list_all is_ascii_digit ds ≡ true) (short : is_number ds ≡ true) (other : is_ascii_digit p ≡ false) (kind-is : ordered_kind (decimal_value ds) p ≡ Some kind) where
    number-marker : ItemMarker
    number-marker = record { kind = kind; digits = length ds }

    ordered-is : (rest : List ℕ) → is_at_gap rest ≡ true → ordered_marker (ds ++ p ∷ rest) ≡ Some number-marker
    unfolding ordered_marker marker_after number-marker
    ordered-is rest gap =
        ap (λ f. marker_after f (skip is_ascii_digit (ds ++ p ∷ rest))) (digits-front ds p rest all other)
        ∙ ap (marker_after ds) (digits-skip ds p rest all other)
        ∙ ap (λ (v : Bool). elim v as (λ _. Option ItemMarker) [ true ↦ marker_at_gap (ordered_kind (decimal_value ds) p) (length ds) rest | false ↦ None ]) short
        ∙ ap (λ k. marker_at_gap k (length ds) rest) kind-is
        ∙ ap (λ v. given v (record { kind = kind; digits = length ds })) gap

    some-digit : (d : ℕ) × (more : List ℕ) × (ds ≡ d ∷ more) × (is_ascii_digit d ≡ true)
    some-digit = go ds all short
      where
        go : (ds : List ℕ) → list_all is_ascii_digit ds ≡ true → is_number ds ≡ true → (d : ℕ) × (more : List ℕ) × (ds ≡ d ∷ more) × (is_ascii_digit d ≡ true)
        go [] a s = absurd (false≢true s)
        go (d ∷ more) a s = (d, more, refl, (and_parts (is_ascii_digit d) (list_all is_ascii_digit more) a).0)

    number-starts : (rest : List ℕ) → is_at_gap rest ≡ true → start_of_content rules (ds ++ p ∷ rest) ≡ ItemStart number-marker
    unfolding item_marker
    number-starts rest gap =
        let (d, more, e, h) = some-digit in
        let first : ds ++ p ∷ rest ≡ d ∷ (more ++ p ∷ rest) = ap (λ l. l ++ p ∷ rest) e in
        let marker : item_marker (d ∷ (more ++ p ∷ rest)) ≡ Some number-marker = ap (λ o. o <|> ordered_marker (d ∷ (more ++ p ∷ rest))) (no-bullet d _ h) ∙ ap ordered_marker (sym first) ∙ ordered-is rest gap in
        ap (start_of_content rules) first ∙ digit-starts d (more ++ p ∷ rest) number-marker h marker

    number-bare : is_unindented (ds ++ p ∷ []) ≡ true
    number-bare =
        let (d, more, e, h) = some-digit in
        ap (λ l. is_unindented (l ++ p ∷ [])) e ∙ digit-bare d h
      where
        digit-bare : (d : ℕ) → is_ascii_digit d ≡ true → not (is_space_or_tab d) ≡ true
        digit-bare d h = grind (arith, h)

    number-no_underline : (rest : List ℕ) → underline (ds ++ p ∷ rest) ≡ None
    number-no_underline rest =
        let (d, more, e, h) = some-digit in
        ap (λ l. underline (l ++ p ∷ rest)) e ∙ no-level d (more ++ p ∷ rest) (grind (arith, h)) (grind (arith, h))

    number-reads : marker kind ≡ ds ++ p ∷ [] → MarkerReads rules kind
    unfolding number-marker
    number-reads mark = record {
      read = number-marker;
      same = refl;
      width = ap length mark ∙ width-is ds p;
      bare = ap is_unindented mark ∙ number-bare;
      starts = λ t dashes stars. ap (λ m. start_of_content rules (m ++ 32 ∷ t)) mark ∙ ap (start_of_content rules) (append_assoc ds (p ∷ []) (32 ∷ t)) ∙ number-starts (32 ∷ t) refl;
      starts_alone = ap (start_of_content rules) mark ∙ number-starts [] refl;
      no_underline = λ t b. ap (λ m. underline (m ++ 32 ∷ t)) mark ∙ ap underline (append_assoc ds (p ∷ []) (32 ∷ t)) ∙ number-no_underline (32 ∷ t);
    }

    number-fits : marker kind ≡ ds ++ p ∷ [] → is_one_line (p ∷ []) ≡ true → KindFits rules kind
    number-fits mark clean = record {
      reads = number-reads mark;
      clean = ap is_one_line mark ∙ list_all-append (λ b. not (b == 0) && (not (b == 10) && not (b == 13))) ds (p ∷ []) ∙ ap (λ v. v && is_one_line (p ∷ [])) (digits-clean ds all) ∙ clean;
    }

  below : (n : ℕ) → begins_too_high (Dot n) ≡ false → n < 10 ^ most_digits
  below n h = grind (arith, nat_tests, h)

  pub kind-fits : (kind : ListKind) → begins_too_high kind ≡ false → KindFits rules kind
  kind-fits Dash h = record {
    reads = record { read = record { kind = Dash; digits = 0 }; same = refl; width = refl; bare = refl; starts = λ t d s. dash-starts t d; starts_alone = dash-alone; no_underline = λ t b. dash-no_underline t b };
    clean = refl;
  }
  kind-fits Plus h = record {
    reads = record { read = record { kind = Plus; digits = 0 }; same = refl; width = refl; bare = refl; starts = λ t d s. plus-starts t; starts_alone = plus-alone; no_underline = λ t b. no-level 43 (32 ∷ t) refl refl };
    clean = refl;
  }
  kind-fits Star h = record {
    reads = record { read = record { kind = Star; digits = 0 }; same = refl; width = refl; bare = refl; starts = λ t d s. star-starts t s; starts_alone = star-alone; no_underline = λ t b. no-level 42 (32 ∷ t) refl refl };
    clean = refl;
  }
  kind-fits (Dot n) h =
      let small = below n h in
      number-fits (decimal n) 46 (Dot n) (digits-are n small) (short-is n small) refl (ap (λ v. Some (Dot v)) (value-is n small)) refl refl
  kind-fits (Paren n) h =
      let small = below n h in
      number-fits (decimal n) 41 (Paren n) (digits-are n small) (short-is n small) refl (ap (λ v. Some (Paren v)) (value-is n small)) refl refl
