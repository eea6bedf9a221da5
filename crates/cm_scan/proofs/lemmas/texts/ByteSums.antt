-- Sums over the bytes of a text, as how many line feeds it has: what a container leaves of a line has no more.
use Rattle.std.proofs.Common.{◌≡◌, ℕ, zero, suc, ◌+◌, ◌-◌, ◌≤◌, Bool, List, [], ◌∷◌, ◌++◌, drop, arith, le_refl}
use Rattle.std.specs.Prelude.{⊤, replicate}
use Rattle.cm_text.specs.Rules.{Rules}
use Rattle.cm_text.specs.Lines.{LineView}
use Rattle.cm_text.specs.Indentation.{blank_width, strip_from, strip_columns}
use Rattle.cm_scan.specs.Words.{is_space_or_tab, skip, trim_start}
use Rattle.cm_scan.specs.blocks.Lines.{past}
use Rattle.cm_scan.specs.blocks.LineForms.{ItemMarker}
use Rattle.cm_scan.specs.blocks.Starts.{Start, start_of, Continuation, Stays, StaysIfOpen, Leaves, continuation_if_lazy, after_quote_marker, quote_continuation, continuation_in_quote, content_offset, after_marker, first_content, continuation_in_item}

-- each byte adds its own, and a space nothing
pub record AddsUp (total : List ℕ → ℕ) : Type 0 where
  pub of_byte : ℕ → ℕ
  pub of_nothing : total [] ≡ 0
  pub one_more : (b : ℕ) (bs : List ℕ) → total (b ∷ bs) ≡ of_byte b + total bs
  pub of_space : of_byte 32 ≡ 0

-- a line that stays goes inward with no more
abbrev pub NoMore : (List ℕ → ℕ) → LineView → Continuation → Type 0
NoMore total line (Stays inner) = total inner.text ≤ total line.text
NoMore total line (StaysIfOpen inner) = total inner.text ≤ total line.text
NoMore total line Leaves = ⊤

module _ (total : List ℕ → ℕ) (adds : AddsUp total) where
  pub sum-drop : (n : ℕ) (bs : List ℕ) → total (drop n bs) ≤ total bs
  sum-drop zero bs = le_refl _
  sum-drop (suc n) [] = le_refl _
  sum-drop (suc n) (b ∷ bs) =
      let h : total (drop n bs) ≤ total bs = sum-drop n bs in
      omega (arith, h, adds.one_more b bs)

  pub sum-append : (bs cs : List ℕ) → total (bs ++ cs) ≡ total bs + total cs
  sum-append [] cs = omega (arith, adds.of_nothing)
  sum-append (b ∷ bs) cs =
      let h : total (bs ++ cs) ≡ total bs + total cs = sum-append bs cs in
      omega (arith, h, adds.one_more b bs, adds.one_more b (bs ++ cs))

  sum-spaces : (n : ℕ) → total (replicate n 32) ≡ 0
  sum-spaces zero = adds.of_nothing
  sum-spaces (suc n) =
      let h : total (replicate n 32) ≡ 0 = sum-spaces n in
      omega (arith, h, adds.one_more 32 (replicate n 32), adds.of_space)

  pub sum-skip : (test : ℕ → Bool) (bs : List ℕ) → total (skip test bs) ≤ total bs
  unfolding skip
  sum-skip test [] = le_refl _
  sum-skip test (b ∷ bs) =
      let h : total (skip test bs) ≤ total bs = sum-skip test bs in
      let k = adds.one_more b bs in
      grind (arith, h, k)

  sum-strip_from : (n column : ℕ) (bs : List ℕ) → total (strip_from n column bs).1 ≤ total bs
  sum-strip_from n column [] = le_refl _
  sum-strip_from n column (b ∷ bs) =
      let width = blank_width column b in
      let h : total (strip_from (n - width) (column + width) bs).1 ≤ total bs = sum-strip_from (n - width) (column + width) bs in
      let k : total (replicate (width - n) 32 ++ bs) ≡ total (replicate (width - n) 32) + total bs = sum-append (replicate (width - n) 32) bs in
      let z : total (replicate (width - n) 32) ≡ 0 = sum-spaces (width - n) in
      let more = adds.one_more b bs in
      grind (arith, h, k, z, more)

  pub sum-strip : (n : ℕ) (line : LineView) → total (strip_columns n line).text ≤ total line.text
  sum-strip n line = sum-strip_from n line.column line.text

  sum-past : (n : ℕ) (line : LineView) → total (past n line).text ≤ total line.text
  unfolding past
  sum-past n line = omega (arith, sum-drop n (trim_start line.text), sum-skip is_space_or_tab line.text)

  pub sum-after_quote_marker : (line : LineView) → total (after_quote_marker line).text ≤ total line.text
  unfolding after_quote_marker
  sum-after_quote_marker line = omega (arith, sum-strip 1 (past 1 line), sum-past 1 line)

  pub sum-first_content : (marker : ItemMarker) (line : LineView) → total (first_content marker line).text ≤ total line.text
  unfolding first_content
  sum-first_content marker line =
      omega (arith, sum-strip (content_offset (after_marker marker line)) (after_marker marker line), sum-past (suc marker.digits) line)

  no_more-lazy : (rules : Rules) (line : LineView) → NoMore total line (continuation_if_lazy rules line)
  unfolding continuation_if_lazy
  no_more-lazy rules line = let h : total line.text ≤ total line.text = le_refl _ in grind (arith, h)

  pub no_more-quote : (rules : Rules) (line : LineView) → NoMore total line (continuation_in_quote rules line)
  unfolding continuation_in_quote
  no_more-quote rules line = go (start_of rules line)
    where
      go : (start : Start) → NoMore total line (quote_continuation rules start line)
      go start =
          let h : NoMore total line (continuation_if_lazy rules line) = no_more-lazy rules line in
          let k : total (after_quote_marker line).text ≤ total line.text = sum-after_quote_marker line in
          grind (arith, h, k)

  pub no_more-item : (rules : Rules) (column : ℕ) (bare : Bool) (line : LineView) → NoMore total line (continuation_in_item rules column bare line)
  unfolding continuation_in_item
  no_more-item rules column bare line =
      let h : NoMore total line (continuation_if_lazy rules line) = no_more-lazy rules line in
      let k : total (strip_columns column line).text ≤ total line.text = sum-strip column line in
      grind (arith, h, k)
