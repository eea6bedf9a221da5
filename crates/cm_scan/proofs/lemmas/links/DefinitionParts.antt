-- A link reference definition, by its parts.
use Rattle.std.proofs.Common.{◌≡◌, ℕ, suc, ◌+◌, Bool, true, false, List, [], ◌∷◌, drop, Option, Some, None, codes, refl, sym, ap, subst, ◌∙◌, arith}
use Rattle.cm_scan.specs.Words.{begins_with, after_word, ◌<|>◌, ◌and_then◌}
use Rattle.cm_scan.specs.spans.Tags.{is_blank_next, after_gap}
use Rattle.cm_scan.specs.inlines.Links.{Reading, LinkDefinition, label, destination, title, after_line, defined, titled, untitled, link_definition}
use Rattle.cm_scan.specs.Scanned.{definition_with}
use Rattle.cm_scan.proofs.lemmas.texts.ScannerAnswers.{begins-at}

-- a place after a gap, in a text and its copy
pub gap-of : (text copy : List ℕ) (at gap : ℕ) → copy ≡ text → drop gap copy ≡ after_gap (drop at copy) → drop gap text ≡ after_gap (drop at text)
gap-of text copy at gap same h = subst (λ t. drop gap t ≡ after_gap (drop at t)) same h

pub titled-no : (l d text : List ℕ) (blank : Bool) → blank ≡ is_blank_next text → blank ≡ false → None ≡ titled l d text
unfolding titled
titled-no l d text blank e h =
    sym (ap (λ v. elim v as (λ _. Option LinkDefinition) [
      | true ↦ elim (title (after_gap text)) [ Some s ↦ defined l d s.text (after_line s.rest) | None ↦ None ]
      | false ↦ None
    ]) (sym e ∙ h))

-- after a gap
titled-by : (l d text : List ℕ) (r : Option Reading) → is_blank_next text ≡ true → title (after_gap text) ≡ r
    → titled l d text ≡ elim r as (λ _. Option LinkDefinition) [ Some s ↦ defined l d s.text (after_line s.rest) | None ↦ None ]
unfolding titled
titled-by l d text r h t =
    ap (λ v. elim v as (λ _. Option LinkDefinition) [
      | true ↦ elim (title (after_gap text)) [ Some s ↦ defined l d s.text (after_line s.rest) | None ↦ None ]
      | false ↦ None
    ]) h
    ∙ ap (λ o. elim o as (λ _. Option LinkDefinition) [ Some s ↦ defined l d s.text (after_line s.rest) | None ↦ None ]) t

pub titled-absent : (l d text gap : List ℕ) (blank : Bool) → blank ≡ is_blank_next text → blank ≡ true → gap ≡ after_gap text → None ≡ title gap → None ≡ titled l d text
titled-absent l d text gap blank e h g t = sym (titled-by l d text None (sym e ∙ h) (ap title (sym g) ∙ sym t))

pub titled-open : (l d text gap : List ℕ) (blank : Bool) (r : Reading) → blank ≡ is_blank_next text → blank ≡ true → gap ≡ after_gap text → Some r ≡ title gap → None ≡ after_line r.rest
    → None ≡ titled l d text
titled-open l d text gap blank r e h g t n = sym (titled-by l d text (Some r) (sym e ∙ h) (ap title (sym g) ∙ sym t) ∙ ap (defined l d r.text) (sym n))

pub titled-some : (l d text gap rest : List ℕ) (blank : Bool) (r : Reading) → blank ≡ is_blank_next text → blank ≡ true → gap ≡ after_gap text → Some r ≡ title gap → Some rest ≡ after_line r.rest
    → Some (definition_with l d r.text rest) ≡ titled l d text
titled-some l d text gap rest blank r e h g t n = sym (titled-by l d text (Some r) (sym e ∙ h) (ap title (sym g) ∙ sym t) ∙ ap (defined l d r.text) (sym n))

-- no title
pub end-none : (l d text : List ℕ) → None ≡ titled l d text → None ≡ after_line text → None ≡ (titled l d text <|> untitled l d text)
unfolding untitled
end-none l d text t n = sym (ap (λ o. o <|> untitled l d text) (sym t) ∙ ap (defined l d []) (sym n))

pub end-some : (l d text rest : List ℕ) → None ≡ titled l d text → Some rest ≡ after_line text → Some (definition_with l d [] rest) ≡ (titled l d text <|> untitled l d text)
unfolding untitled
end-some l d text rest t n = sym (ap (λ o. o <|> untitled l d text) (sym t) ∙ ap (defined l d []) (sym n))

-- the whole
abbrev after_colon : Reading → List ℕ → Option LinkDefinition
after_colon l rest = destination (after_gap rest) and_then λ d. titled l.text d.text d.rest <|> untitled l.text d.text d.rest

abbrev after_label : Reading → Option LinkDefinition
after_label l = after_word (codes ":") l.rest and_then after_colon l

by-label : (text : List ℕ) (l : Option Reading) → label text ≡ l → link_definition text ≡ (l and_then after_label)
unfolding link_definition
by-label text l h = ap (λ o. o and_then after_label) h

no-colon : (bs : List ℕ) → begins_with 58 bs ≡ false → after_word (codes ":") bs ≡ None
unfolding after_word
no-colon [] h = refl
no-colon (b ∷ bs) h = ap (λ v. elim v as (λ _. Option (List ℕ)) [ true ↦ after_word [] bs | false ↦ None ]) h

colon-next : (bs : List ℕ) → after_word (codes ":") (58 ∷ bs) ≡ Some bs
unfolding after_word
colon-next bs = refl

pub no-label : (text : List ℕ) → None ≡ label text → None ≡ link_definition text
no-label text h = sym (by-label text None (sym h))

by-colon : (l : Reading) (c : Option (List ℕ)) → after_word (codes ":") l.rest ≡ c → after_label l ≡ (c and_then after_colon l)
by-colon l c h = ap (λ o. o and_then after_colon l) h

pub label-alone : (text : List ℕ) (l : Reading) (next : Bool) → Some l ≡ label text → next ≡ begins_with 58 l.rest → next ≡ false → None ≡ link_definition text
label-alone text l next h e n = sym (by-label text (Some l) (sym h) ∙ by-colon l None (no-colon l.rest (sym e ∙ n)))

-- after the colon
beyond-colon : (text : List ℕ) (l : Reading) (bs : List ℕ) (d : Option Reading) → Some l ≡ label text → l.rest ≡ 58 ∷ bs → destination (after_gap bs) ≡ d
    → link_definition text ≡ (d and_then λ r. titled l.text r.text r.rest <|> untitled l.text r.text r.rest)
beyond-colon text l bs d h c e =
    by-label text (Some l) (sym h) ∙ by-colon l (Some bs) (ap (after_word (codes ":")) c ∙ colon-next bs)
    ∙ ap (λ o. o and_then λ r. titled l.text r.text r.rest <|> untitled l.text r.text r.rest) e

pub no-destination : (text whole : List ℕ) (inside : List ℕ) (colon gap : ℕ) (next : Bool) → Some (record { text = inside; rest = drop colon whole }) ≡ label text → next ≡ begins_with 58 (drop colon whole) → next ≡ true
    → drop gap whole ≡ after_gap (drop (colon + 1) whole) → None ≡ destination (drop gap whole) → None ≡ link_definition text
no-destination text whole inside colon gap next h e n g d =
    let first : colon + 1 ≡ suc colon = omega arith in
    sym (beyond-colon text (record { text = inside; rest = drop colon whole }) (drop (suc colon) whole) None h (begins-at 58 whole colon (sym e ∙ n)).1
    (ap destination (sym (g ∙ ap (λ k. after_gap (drop k whole)) first)) ∙ sym d))

pub whole-definition : (text whole inside : List ℕ) (colon gap : ℕ) (next : Bool) (d : Reading) (made : Option LinkDefinition)
    → Some (record { text = inside; rest = drop colon whole }) ≡ label text → next ≡ begins_with 58 (drop colon whole) → next ≡ true
    → drop gap whole ≡ after_gap (drop (colon + 1) whole) → Some d ≡ destination (drop gap whole) → made ≡ (titled inside d.text d.rest <|> untitled inside d.text d.rest) → made ≡ link_definition text
whole-definition text whole inside colon gap next d made h e n g s m =
    let first : colon + 1 ≡ suc colon = omega arith in
    m ∙ sym (beyond-colon text (record { text = inside; rest = drop colon whole }) (drop (suc colon) whole) (Some d) h (begins-at 58 whole colon (sym e ∙ n)).1
    (ap destination (sym (g ∙ ap (λ k. after_gap (drop k whole)) first)) ∙ sym s))
