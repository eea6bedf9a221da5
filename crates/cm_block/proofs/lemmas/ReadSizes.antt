-- What is read of a text, with what is left, is no longer than the text.
use Rattle.std.proofs.Common.{◌≡◌, ℕ, zero, suc, ◌+◌, ◌-◌, ◌≤◌, ◌==◌, Bool, true, false, List, [], ◌∷◌, ◌++◌, length, drop, refl, sym, ap, subst, ◌∙◌, arith, le_refl, Option, Some, None, length-append}
use Rattle.std.specs.Prelude.{⊤, ◌||◌, ◌&&◌, not, codes, if◌then◌else◌}
use Rattle.std.specs.List.{list_all}
use Rattle.std.specs.Str.{byte}
use Rattle.std.specs.Char.{is_ascii_control}
use Rattle.cm_scan.specs.Words.{skip, trim_start, trim_end, trim_end_by, keep_byte, trim, after_run, after_word, given, ◌<|>◌, ◌and_then◌, is_space_or_tab}
use Rattle.cm_scan.specs.spans.Tags.{after_line_ending, after_gap, is_blank_next}
use Rattle.cm_scan.specs.inlines.Links.{Reading, beyond, keep_if, escapes_next, up_to_closing, is_label, label, opened_by, bare_run, Definitions, is_filled, destination, has_no_blank_line, title_in, title, LinkDefinition, at_line_end, after_line, defined, titled, untitled, link_definition, definitions_within, definitions_of}
use Rattle.cm_scan.specs.blocks.LineForms.{without_closing}

-- parts of a text

pub skip-length : (test : ℕ → Bool) (text : List ℕ) → length (skip test text) ≤ length text
unfolding skip
skip-length test [] = le_refl _
skip-length test (b ∷ bs) =
    let h : length (skip test bs) ≤ length bs = skip-length test bs in
    grind (arith, h)

run-length : (marker : ℕ) (text : List ℕ) → length (after_run marker text) ≤ length text
unfolding after_run
run-length marker [] = le_refl _
run-length marker (b ∷ bs) =
    let h : length (after_run marker bs) ≤ length bs = run-length marker bs in
    grind (arith, h)

kept-length : (test : ℕ → Bool) (b : ℕ) (bs : List ℕ) → length (keep_byte test b bs) ≤ suc (length bs)
kept-length test b [] = grind arith
kept-length test b (c ∷ cs) = omega arith

pub trimmed-length : (test : ℕ → Bool) (text : List ℕ) → length (trim_end_by test text) ≤ length text
unfolding trim_end_by
trimmed-length test [] = le_refl _
trimmed-length test (b ∷ bs) =
    omega (arith, trimmed-length test bs, kept-length test b (trim_end_by test bs))

trim-length : (text : List ℕ) → length (trim text) ≤ length text
trim-length text = omega (arith, trimmed-length is_space_or_tab (trim_start text), skip-length is_space_or_tab text)

closing-length : (after_gap : Bool) (text : List ℕ) → length (without_closing after_gap text) ≤ length text
unfolding without_closing
closing-length after_gap [] = le_refl _
closing-length after_gap (b ∷ bs) =
    let h : length (without_closing (is_space_or_tab b) bs) ≤ length bs = closing-length (is_space_or_tab b) bs in
    grind (arith, h)

-- the content of a heading, and the info string of a fence

pub heading-length : (marker : ℕ) (text : List ℕ) → length (trim (without_closing true (trim (after_run marker text)))) ≤ length text
heading-length marker text =
    omega (
      arith,
      trim-length (without_closing true (trim (after_run marker text))),
      closing-length true (trim (after_run marker text)),
      trim-length (after_run marker text),
      run-length marker text,
    )

pub info-length : (marker : ℕ) (text : List ℕ) → length (trim (after_run marker text)) ≤ length text
info-length marker text = omega (arith, trim-length (after_run marker text), run-length marker text)

-- readings

abbrev Fits : ℕ → Option Reading → Type 0
Fits n None = ⊤
Fits n (Some r) = length r.text + length r.rest ≤ n

fits-more : (n m : ℕ) (r : Option Reading) → n ≤ m → Fits n r → Fits m r
fits-more n m None more h = tt
fits-more n m (Some r) more h = omega (arith, more, h)

fits-beyond : (b : ℕ) (bs : List ℕ) (r : Option Reading) → Fits (length bs) r → Fits (length (b ∷ bs)) (beyond b r)
fits-beyond b bs None h = tt
fits-beyond b bs (Some r) h = omega (arith, h)

fits-kept : (n : ℕ) (test : Reading → Bool) (r : Option Reading) → Fits n r → Fits n (keep_if test r)
fits-kept n test None h = tt
fits-kept n test (Some r) h = go (test r)
  where
    go : (kept : Bool) → Fits n (given kept r)
    go true = h
    go false = tt

fits-closing : (closes forbidden : ℕ → Bool) (escaped : Bool) (text : List ℕ) → Fits (length text) (up_to_closing closes forbidden escaped text)
unfolding up_to_closing
fits-closing closes forbidden escaped [] = tt
fits-closing closes forbidden true (b ∷ bs) = fits-beyond b bs _ (fits-closing closes forbidden false bs)
fits-closing closes forbidden false (b ∷ bs) = go (fits-beyond b bs _ (fits-closing closes forbidden (escapes_next b bs) bs)) (closes b) (forbidden b)
  where
    longer : Option Reading
    longer = beyond b (up_to_closing closes forbidden (escapes_next b bs) bs)

    go : Fits (length (b ∷ bs)) longer → (closed forbids : Bool) → Fits (length (b ∷ bs)) (elim closed [
      | true ↦ Some (record { text = []; rest = bs })
      | false ↦ elim forbids [ true ↦ None | false ↦ longer ]
    ])
    go h true forbids = omega arith
    go h false true = tt
    go h false false = h

fits-bare : (opened : ℕ) (escaped : Bool) (text : List ℕ) → Fits (length text) (bare_run opened escaped text)
unfolding bare_run
fits-bare opened escaped [] = go (opened == 0)
  where
    go : (closed : Bool) → Fits 0 (given closed (record { text = []; rest = [] }))
    go true = omega arith
    go false = tt
fits-bare opened true (b ∷ bs) = fits-beyond b bs _ (fits-bare opened false bs)
fits-bare opened false (b ∷ bs) =
    go (fits-beyond b bs _ (fits-bare (opened_by opened b) (escapes_next b bs) bs)) (b == byte " " || is_ascii_control b || (b == byte ")" && opened == 0)) (opened == 0)
    (b == byte "(" && opened == 32)
  where
    longer : Option Reading
    longer = beyond b (bare_run (opened_by opened b) (escapes_next b bs) bs)

    go : Fits (length (b ∷ bs)) longer → (ends closed deep : Bool) → Fits (length (b ∷ bs)) (elim ends [
      | true ↦ given closed (record { text = []; rest = b ∷ bs })
      | false ↦ elim deep [ true ↦ None | false ↦ longer ]
    ])
    go h true true deep = omega arith
    go h true false deep = tt
    go h false closed true = tt
    go h false closed false = h

fits-label : (text : List ℕ) → Fits (length text) (label text)
unfolding label
fits-label [] = tt
fits-label (b ∷ bs) = go (b == byte "[")
  where
    inside : Fits (length (b ∷ bs)) (up_to_closing (λ c. c == byte "]") (λ c. c == byte "[") false bs)
    inside = fits-more (length bs) (length (b ∷ bs)) _ (omega arith) (fits-closing (λ c. c == byte "]") (λ c. c == byte "[") false bs)

    go : (opens : Bool) → Fits (length (b ∷ bs)) (elim opens [
      | true ↦ keep_if is_label (up_to_closing (λ c. c == byte "]") (λ c. c == byte "[") false bs)
      | false ↦ None
    ])
    go true = fits-kept (length (b ∷ bs)) is_label _ inside
    go false = tt

fits-destination : (text : List ℕ) → Fits (length text) (destination text)
unfolding destination
fits-destination [] = tt
fits-destination (b ∷ bs) = go (b == byte "<")
  where
    go : (opens : Bool) → Fits (length (b ∷ bs)) (elim opens [
      | true ↦ up_to_closing (λ c. c == byte ">") (λ c. c == byte "<" || c == byte "\n") false bs
      | false ↦ keep_if is_filled (bare_run 0 false (b ∷ bs))
    ])
    go true = fits-more (length bs) (length (b ∷ bs)) _ (omega arith) (fits-closing (λ c. c == byte ">") (λ c. c == byte "<" || c == byte "\n") false bs)
    go false = fits-kept (length (b ∷ bs)) is_filled _ (fits-bare 0 false (b ∷ bs))

fits-title : (text : List ℕ) → Fits (length text) (title text)
unfolding title title_in
fits-title [] = tt
fits-title (b ∷ bs) = fits-kept (length (b ∷ bs)) has_no_blank_line _ (fits-more (length bs) (length (b ∷ bs)) _ (omega arith) (go (b == byte "\"") (b == byte "'") (b == byte "(")))
  where
    go : (double single round : Bool) → Fits (length bs) (
        if double then up_to_closing (λ c. c == byte "\"") (λ c. false) false bs
        else (if single then up_to_closing (λ c. c == byte "'") (λ c. false) false bs
        else (if round then up_to_closing (λ c. c == byte ")") (λ c. c == byte "(") false bs
        else None)))
    go true single round = fits-closing (λ c. c == byte "\"") (λ c. false) false bs
    go false true round = fits-closing (λ c. c == byte "'") (λ c. false) false bs
    go false false true = fits-closing (λ c. c == byte ")") (λ c. c == byte "(") false bs
    go false false false = tt

-- what is left of a text

abbrev Left : ℕ → Option (List ℕ) → Type 0
Left n None = ⊤
Left n (Some rest) = length rest ≤ n

left-more : (n m : ℕ) (rest : Option (List ℕ)) → n ≤ m → Left n rest → Left m rest
left-more n m None more h = tt
left-more n m (Some rest) more h = omega (arith, more, h)

left-line : (text : List ℕ) → Left (length text) (after_line text)
unfolding after_line
left-line text = go (trim_start text) (skip-length is_space_or_tab text)
  where
    go : (rest : List ℕ) → length rest ≤ length text → Left (length text) (at_line_end rest)
    go [] h = omega arith
    go (b ∷ bs) h = at (b == byte "\n")
      where
        at : (feeds : Bool) → Left (length text) (given feeds bs)
        at true = omega (arith, h)
        at false = tt

left-word : (word text : List ℕ) → Left (length text) (after_word word text)
unfolding after_word
left-word [] text = le_refl _
left-word (w ∷ ws) [] = tt
left-word (w ∷ ws) (b ∷ bs) = go (left-more (length bs) (length (b ∷ bs)) _ (omega arith) (left-word ws bs)) (b == w)
  where
    go : Left (length (b ∷ bs)) (after_word ws bs) → (same : Bool) → Left (length (b ∷ bs)) (elim same [ true ↦ after_word ws bs | false ↦ None ])
    go h true = h
    go h false = tt

gap-length : (text : List ℕ) → length (after_gap text) ≤ length text
unfolding after_gap
gap-length text = omega (arith, ending (trim_start text), skip-length is_space_or_tab text)
  where
    ending : (rest : List ℕ) → length (after_line_ending rest) ≤ length rest
    ending [] = le_refl _
    ending (b ∷ bs) = at (b == byte "\n") (skip-length is_space_or_tab bs)
      where
        at : (feeds : Bool) → length (trim_start bs) ≤ length bs → length (if feeds then trim_start bs else b ∷ bs) ≤ length (b ∷ bs)
        at true h = omega (arith, h)
        at false h = le_refl _

-- definitions

abbrev definition_size : LinkDefinition → ℕ
definition_size d = length d.label + length d.dest + length d.title

abbrev Holds : ℕ → Option LinkDefinition → Type 0
Holds n None = ⊤
Holds n (Some d) = definition_size d + length d.rest ≤ n

holds-defined : (n k : ℕ) (label dest title : List ℕ) (rest : Option (List ℕ)) → Left k rest → length label + length dest + length title + k ≤ n
    → Holds n (defined label dest title rest)
holds-defined n k label dest title None h e = tt
holds-defined n k label dest title (Some rest) h e = omega (arith, h, e)

holds-untitled : (n : ℕ) (label dest text : List ℕ) → length label + length dest + length text ≤ n → Holds n (untitled label dest text)
unfolding untitled
holds-untitled n label dest text e = holds-defined n (length text) label dest [] (after_line text) (left-line text) (omega (arith, e))

holds-titled : (n : ℕ) (label dest text : List ℕ) → length label + length dest + length text ≤ n → Holds n (titled label dest text)
unfolding titled
holds-titled n label dest text e = go (is_blank_next text) (title (after_gap text)) (fits-title (after_gap text))
  where
    go : (gap : Bool) (r : Option Reading) → Fits (length (after_gap text)) r
        → Holds n (elim gap [ true ↦ elim r [ Some r ↦ defined label dest r.text (after_line r.rest) | None ↦ None ] | false ↦ None ])
    go false r h = tt
    go true None h = tt
    go true (Some r) h = holds-defined n (length r.rest) label dest r.text (after_line r.rest) (left-line r.rest) (omega (arith, h, e, gap-length text))

holds-either : (n : ℕ) (first second : Option LinkDefinition) → Holds n first → Holds n second → Holds n (first <|> second)
holds-either n None second h k = k
holds-either n (Some d) second h k = h

holds-definition : (text : List ℕ) → Holds (length text) (link_definition text)
unfolding link_definition
holds-definition text = labelled (label text) (fits-label text)
  where
    n : ℕ
    n = length text

    addressed : (l rest : List ℕ) (d : Option Reading) → Fits (length rest) d → length l + length rest ≤ n
        → Holds n (d and_then λ d. titled l d.text d.rest <|> untitled l d.text d.rest)
    addressed l rest None h e = tt
    addressed l rest (Some d) h e = holds-either n _ _ (holds-titled n l d.text d.rest (omega (arith, h, e))) (holds-untitled n l d.text d.rest (omega (arith, h, e)))

    colon : (l rest : List ℕ) (r : Option (List ℕ)) → Left (length rest) r → length l + length rest ≤ n
        → Holds n (r and_then λ rest. destination (after_gap rest) and_then λ d. titled l d.text d.rest <|> untitled l d.text d.rest)
    colon l rest None h e = tt
    colon l rest (Some r) h e = addressed l (after_gap r) (destination (after_gap r)) (fits-destination (after_gap r)) (omega (arith, h, e, gap-length r))

    labelled : (r : Option Reading) → Fits n r
        → Holds n (r and_then λ l. after_word (codes ":") l.rest and_then λ rest. destination (after_gap rest) and_then λ d.
        titled l.text d.text d.rest <|> untitled l.text d.text d.rest)
    labelled None h = tt
    labelled (Some l) h = colon l.text l.rest (after_word (codes ":") l.rest) (left-word (codes ":") l.rest) h

abbrev pub definition_sizes : List LinkDefinition → ℕ
definition_sizes [] = 0
definition_sizes (d ∷ ds) = definition_size d + definition_sizes ds

definitions-within : (n : ℕ) (text : List ℕ) → definition_sizes (definitions_within n text).taken + length (definitions_within n text).left ≤ length text
unfolding definitions_within
definitions-within zero text = omega arith
definitions-within (suc n) text = go (link_definition text) (holds-definition text) (λ rest. definitions-within n rest)
  where
    go : (d : Option LinkDefinition) → Holds (length text) d
        → ((rest : List ℕ) → definition_sizes (definitions_within n rest).taken + length (definitions_within n rest).left ≤ length rest)
        → let found : Definitions = elim d [
          | Some d ↦ let more = definitions_within n d.rest in record { taken = d ∷ more.taken; left = more.left }
          | None ↦ record { taken = []; left = text }
        ] in definition_sizes found.taken + length found.left ≤ length text
    go None h more = omega arith
    go (Some d) h more = omega (arith, h, more d.rest)

pub definitions-length : (text : List ℕ) → definition_sizes (definitions_of text).taken + length (definitions_of text).left ≤ length text
unfolding definitions_of
definitions-length text = definitions-within (length text) text
