-- Code spans with more text after.
use Rattle.std.proofs.Common.{◌≡◌, ℕ, zero, suc, Bool, true, false, not, ◌==◌, ◌&&◌, List, [], ◌∷◌, ◌++◌, Option, Some, None, refl, sym, ap, ◌∙◌}
use Rattle.cm_scan.specs.Words.{is_empty, run_length, after_run}
use Rattle.cm_scan.specs.inlines.Links.{Reading, beyond}
use Rattle.cm_scan.specs.spans.CodeSpans.{up_to_run, one_line, stripped, code_span, span_content}
use Rattle.cm_scan.specs.laws.SpanLaws.{keeps_run, CodeSpanGoesOn}
use Rattle.cm_scan.specs.steps.SpanSteps.{spanned}
use Rattle.cm_scan.proofs.lemmas.texts.WordsGoOn.{longer, false-true, none-some}

reading_of : Reading → Option Reading → Reading
reading_of r None = r
reading_of r (Some other) = other

same-reading : (a b : Reading) → Some a ≡ Some b → a ≡ b
unfolding reading_of
same-reading a b e = ap (reading_of a) e

not-some : (b : Bool) → not b ≡ true → b ≡ false
not-some true e = sym e
not-some false e = refl

-- what a run at the start leaves
run-grows : (text x : List ℕ) → keeps_run (after_run 96 text) x ≡ true → run_length 96 (text ++ x) ≡ run_length 96 text
unfolding run_length after_run
run-grows [] [] e = refl
run-grows [] (b ∷ bs) e = ap (λ c. elim c as (λ _. ℕ) [ true ↦ suc (run_length 96 bs) | false ↦ 0 ]) (not-some (b == 96) e)
run-grows (b ∷ bs) x e = go (b == 96) e (λ h. run-grows bs x h)
  where
    go : (c : Bool) → keeps_run (elim c as (λ _. List ℕ) [ true ↦ after_run 96 bs | false ↦ b ∷ bs ]) x ≡ true → (keeps_run (after_run 96 bs) x ≡ true → run_length 96 (bs ++ x) ≡ run_length 96 bs)
        → elim c as (λ _. ℕ) [ true ↦ suc (run_length 96 (bs ++ x)) | false ↦ 0 ] ≡ elim c as (λ _. ℕ) [ true ↦ suc (run_length 96 bs) | false ↦ 0 ]
    go true e k = ap suc (k e)
    go false e k = refl

run-left : (text x : List ℕ) → keeps_run (after_run 96 text) x ≡ true → after_run 96 (text ++ x) ≡ after_run 96 text ++ x
unfolding after_run
run-left [] [] e = refl
run-left [] (b ∷ bs) e = ap (λ c. elim c as (λ _. List ℕ) [ true ↦ after_run 96 bs | false ↦ b ∷ bs ]) (not-some (b == 96) e)
run-left (b ∷ bs) x e = go (b == 96) e (λ h. run-left bs x h)
  where
    go : (c : Bool) → keeps_run (elim c as (λ _. List ℕ) [ true ↦ after_run 96 bs | false ↦ b ∷ bs ]) x ≡ true → (keeps_run (after_run 96 bs) x ≡ true → after_run 96 (bs ++ x) ≡ after_run 96 bs ++ x)
        → elim c as (λ _. List ℕ) [ true ↦ after_run 96 (bs ++ x) | false ↦ b ∷ (bs ++ x) ] ≡ elim c as (λ _. List ℕ) [ true ↦ after_run 96 bs | false ↦ b ∷ bs ] ++ x
    go true e k = k e
    go false e k = refl

left-keeps : (text x : List ℕ) → is_empty text ≡ false → keeps_run text x ≡ true
left-keeps [] x e = false-true (sym e)
left-keeps (b ∷ bs) x e = refl

-- inside a run that goes to the end no run starts
no-run : (n : ℕ) (text : List ℕ) → is_empty (after_run 96 text) ≡ true → up_to_run n true text ≡ None
unfolding up_to_run after_run
no-run n [] e = refl
no-run n (b ∷ bs) e = go (b == 96) (run_length 96 (b ∷ bs) == n) e (λ h. no-run n bs h)
  where
    go : (c d : Bool) → is_empty (elim c as (λ _. List ℕ) [ true ↦ after_run 96 bs | false ↦ b ∷ bs ]) ≡ true → (is_empty (after_run 96 bs) ≡ true → up_to_run n true bs ≡ None)
        → elim (c && false && d) as (λ _. Option Reading) [ true ↦ Some (record { text = []; rest = after_run 96 (b ∷ bs) }) | false ↦ beyond b (up_to_run n c bs) ] ≡ None
    go false d e k = false-true e
    go true d e k = ap (beyond b) (k e)

-- so after a run in which one is found something is left
run-ends : (n : ℕ) (text : List ℕ) (r : Reading) → up_to_run n true text ≡ Some r → is_empty (after_run 96 text) ≡ false
run-ends n text r e = go (is_empty (after_run 96 text)) refl
  where
    go : (c : Bool) → is_empty (after_run 96 text) ≡ c → c ≡ false
    go true f = none-some (sym (no-run n text f) ∙ e)
    go false f = refl

first-of-run : (b : ℕ) (bs : List ℕ) → (b == 96) ≡ true → after_run 96 (b ∷ bs) ≡ after_run 96 bs
unfolding after_run
first-of-run b bs e = ap (λ c. elim c as (λ _. List ℕ) [ true ↦ after_run 96 bs | false ↦ b ∷ bs ]) e

something-left : (n : ℕ) (text : List ℕ) (r : Reading) → up_to_run n false text ≡ Some r → is_empty text ≡ false
unfolding up_to_run
something-left n [] r e = none-some e
something-left n (b ∷ bs) r e = refl

up_to_run-extends : (n : ℕ) (in_run : Bool) (text x : List ℕ) (r : Reading) → up_to_run n in_run text ≡ Some r → keeps_run r.rest x ≡ true → up_to_run n in_run (text ++ x) ≡ Some (longer r x)
unfolding up_to_run
up_to_run-extends n in_run [] x r e h = none-some e
up_to_run-extends n in_run (b ∷ bs) x r e h = go (b == 96) in_run (run_length 96 (b ∷ bs) == n) refl refl e (λ s f g. up_to_run-extends n (b == 96) bs x s f g)
  where
    by : List ℕ → Bool → Bool → Bool → Option Reading
    by t c d f = elim (c && not d && f) as (λ _. Option Reading) [ true ↦ Some (record { text = []; rest = after_run 96 (b ∷ t) }) | false ↦ beyond b (up_to_run n c t) ]

    same_run : keeps_run (after_run 96 (b ∷ bs)) x ≡ true → (run_length 96 (b ∷ (bs ++ x)) == n) ≡ (run_length 96 (b ∷ bs) == n)
    same_run k = ap (λ m. m == n) (run-grows (b ∷ bs) x k)

    further : (c : Bool) → (b == 96) ≡ c → beyond b (up_to_run n c bs) ≡ Some r
        → ((s : Reading) → up_to_run n (b == 96) bs ≡ Some s → keeps_run s.rest x ≡ true → up_to_run n (b == 96) (bs ++ x) ≡ Some (longer s x))
        → beyond b (up_to_run n c (bs ++ x)) ≡ Some (longer r x)
    further c p e k = found (up_to_run n c bs) refl e
      where
        found : (o : Option Reading) → up_to_run n c bs ≡ o → beyond b o ≡ Some r → beyond b (up_to_run n c (bs ++ x)) ≡ Some (longer r x)
        found None q e = none-some e
        found (Some s) q e =
            let same : record { text = b ∷ s.text; rest = s.rest } ≡ r = same-reading (record { text = b ∷ s.text; rest = s.rest }) r e in
            ap (λ v. beyond b (up_to_run n v (bs ++ x))) (sym p)
            ∙ ap (beyond b) (k s (ap (λ v. up_to_run n v bs) p ∙ q) (ap (λ (t : Reading). keeps_run t.rest x) same ∙ h))
            ∙ ap (λ (t : Reading). Some (longer t x)) same

    go : (c d f : Bool) → (b == 96) ≡ c → (run_length 96 (b ∷ bs) == n) ≡ f → by bs c d f ≡ Some r
        → ((s : Reading) → up_to_run n (b == 96) bs ≡ Some s → keeps_run s.rest x ≡ true → up_to_run n (b == 96) (bs ++ x) ≡ Some (longer s x))
        → by (bs ++ x) c d (run_length 96 (b ∷ (bs ++ x)) == n) ≡ Some (longer r x)
    go false d f p q e k = further false p e k
    go true true f p q e k = further true p e k
    go true false true p q e k =
        let same : record { text = []; rest = after_run 96 (b ∷ bs) } ≡ r = same-reading (record { text = []; rest = after_run 96 (b ∷ bs) }) r e in
        let keeps : keeps_run (after_run 96 (b ∷ bs)) x ≡ true = ap (λ (t : Reading). keeps_run t.rest x) same ∙ h in
        ap (by (bs ++ x) true false) (same_run keeps ∙ q)
        ∙ ap (λ t. Some (record { text = []; rest = t })) (run-left (b ∷ bs) x keeps)
        ∙ ap (λ (t : Reading). Some (longer t x)) same
    go true false false p q e k =
        ap (by (bs ++ x) true false) (same_run (left-keeps (after_run 96 (b ∷ bs)) x (run_further (up_to_run n true bs) refl e)) ∙ q)
        ∙ further true p e k
      where
        run_further : (o : Option Reading) → up_to_run n true bs ≡ o → beyond b o ≡ Some r → is_empty (after_run 96 (b ∷ bs)) ≡ false
        run_further None g e = none-some e
        run_further (Some s) g e = ap is_empty (first-of-run b bs p) ∙ run-ends n bs s g

pub code_span_goes_on : CodeSpanGoesOn
unfolding code_span
code_span_goes_on text x span e h = go (run_length 96 text) refl e
  where
    go : (n : ℕ) → run_length 96 text ≡ n → spanned n (after_run 96 text) ≡ Some span → spanned (run_length 96 (text ++ x)) (after_run 96 (text ++ x)) ≡ Some (longer span x)
    go zero f e = none-some e
    go (suc n) f e = found (up_to_run (suc n) false (after_run 96 text)) refl e
      where
        found : (o : Option Reading) → up_to_run (suc n) false (after_run 96 text) ≡ o → span_content o ≡ Some span → spanned (run_length 96 (text ++ x)) (after_run 96 (text ++ x)) ≡ Some (longer span x)
        found None g e = none-some e
        found (Some r) g e =
            let same : record { text = stripped (one_line r.text); rest = r.rest } ≡ span = same-reading (record { text = stripped (one_line r.text); rest = r.rest }) span e in
            let keeps : keeps_run (after_run 96 text) x ≡ true = left-keeps (after_run 96 text) x (something-left (suc n) (after_run 96 text) r g) in
            ap (λ m. spanned m (after_run 96 (text ++ x))) (run-grows text x keeps ∙ f)
            ∙ ap (spanned (suc n)) (run-left text x keeps)
            ∙ ap span_content (up_to_run-extends (suc n) false (after_run 96 text) x r g (ap (λ (t : Reading). keeps_run t.rest x) same ∙ h))
            ∙ ap (λ (t : Reading). Some (longer t x)) same
