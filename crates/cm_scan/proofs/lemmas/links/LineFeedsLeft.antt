-- Each reading leaves a rest with no more line feeds than the text, and a definition takes whole lines.
use Rattle.std.proofs.Common.{ℕ, ◌≤◌, ◌==◌, Bool, true, false, List, [], ◌∷◌, arith, le_refl, Some, None, IfSome}
use Rattle.std.specs.Prelude.{◌||◌, Option, codes}
use Rattle.cm_scan.specs.Words.{skip, trim_start, after_word, ◌<|>◌, ◌and_then◌}
use Rattle.cm_scan.specs.spans.Tags.{after_gap, after_line_ending, is_blank_next}
use Rattle.cm_scan.specs.inlines.Links.{Reading, beyond, keep_if, escapes_next, up_to_closing, is_label, label, opened_by, bare_run, is_filled, has_no_blank_line, destination, title_in, title, LinkDefinition, at_line_end, after_line, defined, titled, untitled, link_definition}
use Rattle.cm_scan.specs.blocks.Blocks.{line_feeds, line_count}

pub feeds-skip : (test : ℕ → Bool) (text : List ℕ) → line_feeds (skip test text) ≤ line_feeds text
unfolding skip line_feeds
feeds-skip test [] = le_refl _
feeds-skip test (b ∷ bs) = let h : line_feeds (skip test bs) ≤ line_feeds bs = feeds-skip test bs in grind (arith, h)

feeds-after_gap : (text : List ℕ) → line_feeds (after_gap text) ≤ line_feeds text
unfolding after_gap line_feeds
feeds-after_gap text = go (trim_start text) (feeds-skip _ text)
  where
    go : (s : List ℕ) → line_feeds s ≤ line_feeds text → line_feeds (after_line_ending s) ≤ line_feeds text
    go [] h = h
    go (b ∷ bs) h = let k : line_feeds (trim_start bs) ≤ line_feeds bs = feeds-skip _ bs in grind (arith, h, k)

abbrev NoMore : List ℕ → Option (List ℕ) → Type 0
NoMore text rest = IfSome rest (λ r. line_feeds r ≤ line_feeds text)

abbrev Leaves : List ℕ → Option Reading → Type 0
Leaves text read = IfSome read (λ r. line_feeds r.rest ≤ line_feeds text)

feeds-after_word : (word text : List ℕ) → NoMore text (after_word word text)
unfolding after_word line_feeds
feeds-after_word [] text = le_refl _
feeds-after_word (w ∷ ws) [] = tt
feeds-after_word (w ∷ ws) (b ∷ bs) = let h : NoMore bs (after_word ws bs) = feeds-after_word ws bs in grind (arith, h)

-- a byte before makes a text no shorter in line feeds
feeds-beyond : (b : ℕ) (bs : List ℕ) (r : Option Reading) → Leaves bs r → Leaves (b ∷ bs) (beyond b r)
unfolding line_feeds
feeds-beyond b bs None h = tt
feeds-beyond b bs (Some r) h = grind (arith, h)

feeds-closed_by : (closes forbidden : ℕ → Bool) (escaped : Bool) (text : List ℕ) → Leaves text (up_to_closing closes forbidden escaped text)
unfolding up_to_closing line_feeds
feeds-closed_by closes forbidden escaped [] = tt
feeds-closed_by closes forbidden true (b ∷ bs) = feeds-beyond b bs _ (feeds-closed_by closes forbidden false bs)
feeds-closed_by closes forbidden false (b ∷ bs) =
    let h : Leaves (b ∷ bs) (beyond b (up_to_closing closes forbidden (escapes_next b bs) bs)) = feeds-beyond b bs _ (feeds-closed_by closes forbidden (escapes_next b bs) bs) in
    grind (arith, h)

feeds-keep_if : (test : Reading → Bool) (text : List ℕ) (r : Option Reading) → Leaves text r → Leaves text (keep_if test r)
feeds-keep_if test text None h = tt
feeds-keep_if test text (Some r) h = grind (arith, h)

feeds-more : (b : ℕ) (bs : List ℕ) (r : Option Reading) → Leaves bs r → Leaves (b ∷ bs) r
unfolding line_feeds
feeds-more b bs None h = tt
feeds-more b bs (Some r) h = grind (arith, h)

-- what is read after a first byte
feeds-kept : (b : ℕ) (bs : List ℕ) (test : Reading → Bool) (r : Option Reading) → Leaves bs r → Leaves (b ∷ bs) (keep_if test r)
feeds-kept b bs test r h = feeds-more b bs _ (feeds-keep_if test bs r h)

feeds-label : (text : List ℕ) → Leaves text (label text)
unfolding label line_feeds
feeds-label [] = tt
feeds-label (b ∷ bs) =
    let r = up_to_closing (λ c. c == 93) (λ c. c == 91) false bs in
    let h : Leaves (b ∷ bs) (keep_if is_label r) = feeds-kept b bs is_label r (feeds-closed_by (λ c. c == 93) (λ c. c == 91) false bs) in
    grind (arith, h)

feeds-bare_run : (opened : ℕ) (escaped : Bool) (text : List ℕ) → Leaves text (bare_run opened escaped text)
unfolding bare_run line_feeds
feeds-bare_run opened escaped [] = grind arith
feeds-bare_run opened true (b ∷ bs) = feeds-beyond b bs _ (feeds-bare_run opened false bs)
feeds-bare_run opened false (b ∷ bs) =
    let h : Leaves (b ∷ bs) (beyond b (bare_run (opened_by opened b) (escapes_next b bs) bs)) = feeds-beyond b bs _ (feeds-bare_run (opened_by opened b) (escapes_next b bs) bs) in
    grind (arith, h)

feeds-destination : (text : List ℕ) → Leaves text (destination text)
unfolding destination line_feeds
feeds-destination [] = tt
feeds-destination (b ∷ bs) =
    let r = up_to_closing (λ c. c == 62) (λ c. c == 60 || c == 10) false bs in
    let h : Leaves (b ∷ bs) r = feeds-more b bs r (feeds-closed_by (λ c. c == 62) (λ c. c == 60 || c == 10) false bs) in
    let k : Leaves (b ∷ bs) (keep_if is_filled (bare_run 0 false (b ∷ bs))) = feeds-keep_if is_filled (b ∷ bs) _ (feeds-bare_run 0 false (b ∷ bs)) in
    grind (arith, h, k)

feeds-title_in : (b : ℕ) (text : List ℕ) → Leaves text (title_in b text)
unfolding title_in
feeds-title_in b text =
    let h = feeds-closed_by (λ c. c == 34) (λ c. false) false text in
    let k = feeds-closed_by (λ c. c == 39) (λ c. false) false text in
    let l = feeds-closed_by (λ c. c == 41) (λ c. c == 40) false text in
    grind (arith, h, k, l)

feeds-title : (text : List ℕ) → Leaves text (title text)
unfolding title
feeds-title [] = tt
feeds-title (b ∷ bs) = feeds-kept b bs has_no_blank_line (title_in b bs) (feeds-title_in b bs)

-- after a line's end there are fewer lines than in a text that isn't empty

abbrev Fewer : List ℕ → Option (List ℕ) → Type 0
Fewer text rest = IfSome rest (λ r. line_count r ≤ line_feeds text)

fewer-at_line_end : (text : List ℕ) → Fewer text (at_line_end text)
unfolding line_feeds
fewer-at_line_end [] = le_refl _
fewer-at_line_end (b ∷ []) = grind arith
fewer-at_line_end (b ∷ c ∷ cs) = grind arith

fewer-after_line : (text : List ℕ) → Fewer text (after_line text)
unfolding after_line
fewer-after_line text =
    let h : Fewer (trim_start text) (at_line_end (trim_start text)) = fewer-at_line_end (trim_start text) in
    let k : line_feeds (trim_start text) ≤ line_feeds text = feeds-skip _ text in
    grind (arith, h, k)

-- a definition takes at least a line
abbrev TakesALine : List ℕ → Option LinkDefinition → Type 0
TakesALine text read = IfSome read (λ d. line_count d.rest ≤ line_feeds text)

takes-untitled : (label dest text : List ℕ) → TakesALine text (untitled label dest text)
unfolding untitled
takes-untitled label dest text = let h : Fewer text (after_line text) = fewer-after_line text in grind (arith, h)

takes-defined : (l d t text : List ℕ) (rest : Option (List ℕ)) → Fewer text rest → TakesALine text (defined l d t rest)
takes-defined l d t text None h = tt
takes-defined l d t text (Some rest) h = h

fewer-further : (text beyond : List ℕ) (rest : Option (List ℕ)) → line_feeds beyond ≤ line_feeds text → Fewer beyond rest → Fewer text rest
fewer-further text beyond None h k = tt
fewer-further text beyond (Some rest) h k = omega (arith, h, k)

takes-titled : (l d text : List ℕ) → TakesALine text (titled l d text)
unfolding titled
takes-titled l d text = by_gap (is_blank_next text)
  where
    by_title : (r : Option Reading) → Leaves (after_gap text) r
        → TakesALine text (elim r as (λ _. Option LinkDefinition) [ Some s ↦ defined l d s.text (after_line s.rest) | None ↦ None ])
    by_title None h = tt
    by_title (Some s) h =
        takes-defined l d s.text text (after_line s.rest)
        (fewer-further text s.rest (after_line s.rest) (omega (arith, h, feeds-after_gap text)) (fewer-after_line s.rest))

    by_gap : (v : Bool) → TakesALine text (elim v as (λ _. Option LinkDefinition) [
      | true ↦ elim (title (after_gap text)) [ Some s ↦ defined l d s.text (after_line s.rest) | None ↦ None ]
      | false ↦ None
    ])
    by_gap true = by_title (title (after_gap text)) (feeds-title (after_gap text))
    by_gap false = tt

takes-either : (text : List ℕ) (first second : Option LinkDefinition) → TakesALine text first → TakesALine text second → TakesALine text (first <|> second)
takes-either text None second h k = k
takes-either text (Some d) second h k = h

takes-beyond : (label text whole : List ℕ) (d : Option Reading) → line_feeds text ≤ line_feeds whole → Leaves text d
    → TakesALine whole (d and_then λ r. titled label r.text r.rest <|> untitled label r.text r.rest)
takes-beyond label text whole None h k = tt
takes-beyond label text whole (Some r) h k =
    let l = takes-either r.rest (titled label r.text r.rest) (untitled label r.text r.rest) (takes-titled label r.text r.rest) (takes-untitled label r.text r.rest) in
    grind (arith, h, k, l)

pub takes_a_line : (text : List ℕ) → TakesALine text (link_definition text)
unfolding link_definition
takes_a_line text = by_label (label text) (feeds-label text)
  where
    by_colon : (l : Reading) → line_feeds l.rest ≤ line_feeds text → (colon : Option (List ℕ)) → NoMore l.rest colon
        → TakesALine text (colon and_then λ rest. destination (after_gap rest) and_then λ d. titled l.text d.text d.rest <|> untitled l.text d.text d.rest)
    by_colon l h None k = tt
    by_colon l h (Some rest) k =
        let g : line_feeds (after_gap rest) ≤ line_feeds rest = feeds-after_gap rest in
        takes-beyond l.text (after_gap rest) text (destination (after_gap rest)) (omega (arith, g, h, k)) (feeds-destination (after_gap rest))

    by_label : (l : Option Reading) → Leaves text l
        → TakesALine text (l and_then λ l. after_word (codes ":") l.rest and_then λ rest. destination (after_gap rest) and_then λ d.
        titled l.text d.text d.rest <|> untitled l.text d.text d.rest)
    by_label None h = tt
    by_label (Some l) h = by_colon l h (after_word (codes ":") l.rest) (feeds-after_word (codes ":") l.rest)
