-- How code spans, autolinks, raw HTML and line breaks are written.
use Rattle.std.proofs.Common.{◌≡◌, ◌⊎◌, ℕ, zero, suc, ◌-◌, Bool, true, false, not, ◌&&◌, ◌==◌, List, [], ◌∷◌, ◌++◌, replicate, length, take, Option, Some, None, codes, if◌then◌else◌, nat_le, refl, sym, ap, subst, ◌∙◌, arith, append_assoc, length-append, inl, inr}
use Rattle.std.proofs.Math.Seq.{take-length, take-append-le}
use Rattle.std.proofs.lemmas.Bool.{eqb-true}
use Rattle.std.proofs.lemmas.Bool.Decides.{nat_tests}
use Rattle.std.proofs.lemmas.Option.{same_Some}
use Rattle.cm_text.specs.Rules.{Rules}
use Rattle.cm_text.specs.Addresses.{is_followed}
use Rattle.cm_tree.specs.declared.tree.Inline.{Inline, out-Inline}
use Rattle.cm_tree.specs.declared.tree.Inline.TheVariants.{Text, Code, Html, Soft, Hard, outs-Code, outs-Html, outs-Soft, outs-Hard, outs-Link}
use Rattle.cm_scan.specs.Words.{run_length, after_run, skip, front_of, after_word, given, ◌and_then◌}
use Rattle.cm_scan.specs.inlines.Links.{Reading, beyond}
use Rattle.cm_scan.specs.spans.CodeSpans.{up_to_run, one_line, stripped, as_written, span_content, code_span}
use Rattle.cm_scan.specs.spans.Autolinks.{Autolink, is_inside, in_angles, is_absolute, is_address, as_autolink, autolink, followed_autolink}
use Rattle.cm_scan.specs.spans.RawHtml.{raw_html}
use Rattle.cm_scan.specs.spans.Angles.{Angled, Addressed, Tagged, before, at_angle}
use Rattle.cm_scan.specs.inlines.Atoms.{link_of}
use Rattle.cm_scan.specs.steps.SpanSteps.{ended, link_if_followed, tagged}
use Rattle.cm_scan.specs.laws.CutLaws.{IsBetween, IsWritten}
use Rattle.cm_scan.proofs.lemmas.texts.WordsGoOn.{none-some}
use Rattle.cm_scan.proofs.lemmas.spans.RawHtmlGoesOn.{word-front}
use Rattle.cm_scan.proofs.lemmas.spans.RawHtmlEnds.{raw_html-ends}

abbrev pub first_byte : List ℕ → ℕ
first_byte [] = 0
first_byte (b ∷ bs) = b

-- the source of an inline at the start of a text
pub record Written (inline : Inline) (text rest : List ℕ) : Type 0 where
  pub source : List ℕ
  pub is : text ≡ source ++ rest
  pub law : IsWritten (out-Inline inline) source

-- what comes before what is left
pub front-of : (front rest : List ℕ) → take (length (front ++ rest) - length rest) (front ++ rest) ≡ front
front-of front rest = ap (λ n. take n (front ++ rest)) count ∙ take-append-le (length front) front rest (omega arith) ∙ take-length front
  where
    count : length (front ++ rest) - length rest ≡ length front
    count = omega (arith, length-append front rest)

-- Runs and code spans

pub run-whole : (marker : ℕ) (bs : List ℕ) → bs ≡ replicate (run_length marker bs) marker ++ after_run marker bs
unfolding run_length after_run
run-whole marker [] = refl
run-whole marker (b ∷ bs) = go (b == marker) refl (run-whole marker bs)
  where
    go : (c : Bool) → (b == marker) ≡ c → bs ≡ replicate (run_length marker bs) marker ++ after_run marker bs
        → b ∷ bs ≡ replicate (elim c as (λ _. ℕ) [ true ↦ suc (run_length marker bs) | false ↦ 0 ]) marker ++
        (elim c as (λ _. List ℕ) [ true ↦ after_run marker bs | false ↦ b ∷ bs ])
    go true h e = ap (λ t. b ∷ t) e ∙ ap (λ x. x ∷ (replicate (run_length marker bs) marker ++ after_run marker bs)) (eqb-true b marker h)
    go false h e = refl

last-of : (a b c : Bool) → (a && b && c) ≡ true → c ≡ true
last-of true true c h = h
last-of true false c h = absurd (cc h)
last-of false b c h = absurd (cc h)

up_to-whole : (n : ℕ) (in_run : Bool) (text : List ℕ) (r : Reading) → up_to_run n in_run text ≡ Some r
    → text ≡ r.text ++ (replicate n 96 ++ r.rest)
unfolding up_to_run
up_to-whole n in_run [] r e = none-some e
up_to-whole n in_run (b ∷ bs) r e =
    go (b == 96 && not in_run && run_length 96 (b ∷ bs) == n) refl e (up_to_run n (b == 96) bs) refl (λ s h. up_to-whole n (b == 96) bs s h)
  where
    Whole-in : List ℕ → Reading → Type 0
    Whole-in text s = text ≡ s.text ++ (replicate n 96 ++ s.rest)

    go : (c : Bool) → (b == 96 && not in_run && run_length 96 (b ∷ bs) == n) ≡ c
        → elim c as (λ _. Option Reading) [
          | true ↦ Some (record {
            text = [];
            rest = after_run 96 (b ∷ bs);
          })
          | false ↦ beyond b (up_to_run n (b == 96) bs)
        ] ≡ Some r
        → (o : Option Reading) → up_to_run n (b == 96) bs ≡ o → ((s : Reading) → o ≡ Some s → Whole-in bs s) → Whole-in (b ∷ bs) r
    go true h e o f k =
        subst (Whole-in (b ∷ bs)) (same_Some _ r e)
        (run-whole 96 (b ∷ bs) ∙ ap (λ m. replicate m 96 ++ after_run 96 (b ∷ bs))
        (eqb-true (run_length 96 (b ∷ bs)) n (last-of (b == 96) (not in_run) (run_length 96 (b ∷ bs) == n) h)))
    go false h e None f k = none-some (sym (ap (beyond b) f) ∙ e)
    go false h e (Some s) f k =
        subst (Whole-in (b ∷ bs)) (same_Some (record { text = b ∷ s.text; rest = s.rest }) r (sym (ap (beyond b) f) ∙ e))
        (ap (λ t. b ∷ t) (k s refl))

pub code-written : (text : List ℕ) (span : Reading) → code_span text ≡ Some span → Written (Code span.text) text span.rest
unfolding code_span
code-written text span e = by (run_length 96 text) (run-whole 96 text) e
  where
    rest : List ℕ
    rest = after_run 96 text

    grouped : (marks content left : List ℕ) → marks ++ (content ++ (marks ++ left)) ≡ (marks ++ (content ++ marks)) ++ left
    grouped marks content left = simp append_assoc refl

    by : (n : ℕ) → text ≡ replicate n 96 ++ rest → span_content (as_written n rest) ≡ Some span → Written (Code span.text) text span.rest
    by zero whole e = none-some e
    by (suc n) whole e = go (up_to_run (suc n) false rest) refl e
      where
        marks : List ℕ
        marks = replicate (suc n) 96

        go : (o : Option Reading) → up_to_run (suc n) false rest ≡ o → span_content o ≡ Some span → Written (Code span.text) text span.rest
        go None f e = none-some e
        go (Some r) f e =
            let same = same_Some (record { text = stripped (one_line r.text); rest = r.rest }) span e in
            record {
              source = marks ++ (r.text ++ marks);
              is = whole ∙ ap (λ t. marks ++ t) (up_to-whole (suc n) false rest r f) ∙ grouped marks r.text r.rest
                  ∙ ap (λ (s : Reading). (marks ++ (r.text ++ marks)) ++ s.rest) same;
              law = subst (λ i. IsWritten i (marks ++ (r.text ++ marks))) (sym (outs-Code span.text))
                  (n, r.text, refl, ap (λ (s : Reading). s.text) (sym same));
            }

-- Autolinks and raw HTML

front-whole : (test : ℕ → Bool) (bs : List ℕ) → bs ≡ front_of test bs ++ skip test bs
unfolding front_of skip
front-whole test [] = refl
front-whole test (b ∷ bs) = go (test b) (front-whole test bs)
  where
    go : (c : Bool) → bs ≡ front_of test bs ++ skip test bs
        → b ∷ bs ≡ elim c as (λ _. List ℕ) [ true ↦ b ∷ front_of test bs | false ↦ [] ] ++ elim c as (λ _. List ℕ)
        [ true ↦ skip test bs | false ↦ b ∷ bs ]
    go true e = ap (λ t. b ∷ t) e
    go false e = refl

angles-whole : (text : List ℕ) (r : Reading) → in_angles text ≡ Some r → text ≡ codes "<" ++ (r.text ++ (codes ">" ++ r.rest))
unfolding in_angles
angles-whole text r e = go (after_word (codes "<") text) refl e
  where
    inside-of : Option (List ℕ) → Option Reading
    inside-of o = o and_then λ inside. ended (front_of is_inside inside) (after_word (codes ">") (skip is_inside inside))

    go : (o : Option (List ℕ)) → after_word (codes "<") text ≡ o → inside-of o ≡ Some r
        → text ≡ codes "<" ++ (r.text ++ (codes ">" ++ r.rest))
    go None f e = none-some e
    go (Some inside) f e = by (after_word (codes ">") (skip is_inside inside)) refl e
      where
        front : List ℕ
        front = front_of is_inside inside

        by : (o : Option (List ℕ)) → after_word (codes ">") (skip is_inside inside) ≡ o → ended front o ≡ Some r
            → text ≡ codes "<" ++ (r.text ++ (codes ">" ++ r.rest))
        by None g e = none-some e
        by (Some rest) g e =
            subst (λ (s : Reading). text ≡ codes "<" ++ (s.text ++ (codes ">" ++ s.rest))) (same_Some (record {
              text = front;
              rest = rest;
            }) r e)
            (word-front (codes "<") text inside f ∙ ap (λ t. codes "<" ++ t)
            (front-whole is_inside inside ∙ ap (λ t. front ++ t) (word-front (codes ">") (skip is_inside inside) rest g)))

link-written : (text : List ℕ) (link : Autolink) → autolink text ≡ Some link → Written (link_of link) text link.rest
unfolding autolink as_autolink
link-written text link e = go (in_angles text) refl e
  where
    grouped : (a b c d : List ℕ) → a ++ (b ++ (c ++ d)) ≡ (a ++ (b ++ c)) ++ d
    grouped a b c d = simp append_assoc refl

    go : (o : Option Reading) → in_angles text ≡ o → elim o as (λ _. Option Autolink) [ Some r ↦ as_autolink r | None ↦ None ] ≡ Some link
        → Written (link_of link) text link.rest
    go None f e = none-some e
    go (Some r) f e = by (is_absolute r.text) (is_address r.text) e
      where
        link_to : List ℕ → Autolink
        link_to dest = record { destination = dest; text = r.text; rest = r.rest }

        source : List ℕ
        source = codes "<" ++ (r.text ++ codes ">")

        to : (dest : List ℕ) → (dest ≡ r.text) ⊎ (dest ≡ codes "mailto:" ++ r.text) → Some (link_to dest) ≡ Some link
            → Written (link_of link) text link.rest
        to dest is e = subst (λ (l : Autolink). Written (link_of l) text l.rest) (same_Some (link_to dest) link e) (record {
          source = source;
          is = angles-whole text r f ∙ grouped (codes "<") r.text (codes ">") r.rest;
          law = subst (λ i. IsWritten i source) (sym (outs-Link dest [] (Text r.text ∷ []))) (r.text, refl, is, refl, refl);
        })

        by : (absolute address : Bool)
            → (if absolute then Some (link_to r.text) else (if address then Some (link_to (codes "mailto:" ++ r.text)) else None)) ≡ Some link
            → Written (link_of link) text link.rest
        by true address e = to r.text (inl refl) e
        by false true e = to (codes "mailto:" ++ r.text) (inr refl) e
        by false false e = none-some e

-- what ends with `>` after a `<` is between them
between-angles : (bs front rest : List ℕ) → 60 ∷ bs ≡ front ++ 62 ∷ rest → IsBetween (codes "<") (codes ">") (front ++ codes ">")
between-angles bs [] rest e = absurd (omega (arith, ap first_byte e))
between-angles bs (x ∷ xs) rest e = (xs, ap (λ c. c ∷ (xs ++ codes ">")) (sym (ap first_byte e)))

html-written : (rules : Rules) (bs rest : List ℕ) → raw_html rules (60 ∷ bs) ≡ Some rest
    → Written (Html (before rest (60 ∷ bs))) (60 ∷ bs) rest
unfolding before
html-written rules bs rest e =
    let text : List ℕ = 60 ∷ bs in
    let end = raw_html-ends rules text rest e in
    let whole : text ≡ (end.front ++ codes ">") ++ rest = end.is ∙ sym (append_assoc end.front (codes ">") rest) in
    let front : take (length text - length rest) text ≡ end.front ++ codes ">" =
    ap (λ t. take (length t - length rest) t) whole ∙ front-of (end.front ++ codes ">") rest in
    record {
      source = take (length text - length rest) text;
      is = whole ∙ ap (λ t. t ++ rest) (sym front);
      law = subst (λ i. IsWritten i (take (length text - length rest) text)) (sym (outs-Html (take (length text - length rest) text)))
          (refl, subst (IsBetween (codes "<") (codes ">")) (sym front) (between-angles bs end.front rest end.is));
    }

unfoldable pub inline_in : Angled → Inline
inline_in (Addressed link) = link_of link
inline_in (Tagged tag) = Html tag.text

unfoldable pub left_after : Angled → List ℕ
left_after (Addressed link) = link.rest
left_after (Tagged tag) = tag.rest

pub angle-written : (rules : Rules) (bs : List ℕ) (found : Angled) → at_angle rules (60 ∷ bs) ≡ Some found
    → Written (inline_in found) (60 ∷ bs) (left_after found)
unfolding at_angle followed_autolink inline_in left_after
angle-written rules bs found e = go (autolink text) (raw_html rules text) refl refl e
  where
    text : List ℕ
    text = 60 ∷ bs

    tag : (html : Option (List ℕ)) → raw_html rules text ≡ html → tagged text html ≡ Some found
        → Written (inline_in found) text (left_after found)
    tag None g e = none-some e
    tag (Some rest) g e =
        subst (λ f. Written (inline_in f) text (left_after f)) (same_Some (Tagged (record {
          text = before rest text;
          rest = rest;
        })) found e) (html-written rules bs rest g)

    go : (link : Option Autolink) (html : Option (List ℕ)) → autolink text ≡ link → raw_html rules text ≡ html
        → elim (link_if_followed rules link) as (λ _. Option Angled)
        [ Some link ↦ Some (Addressed link) | None ↦ tagged text html ] ≡ Some found → Written (inline_in found) text (left_after found)
    go None html f g e = tag html g e
    go (Some link) html f g e = by (is_followed rules link.destination) e
      where
        by : (t : Bool)
            → elim (given t link) as (λ _. Option Angled) [ Some link ↦ Some (Addressed link) | None ↦ tagged text html ] ≡ Some found
            → Written (inline_in found) text (left_after found)
        by true e = subst (λ f. Written (inline_in f) text (left_after f)) (same_Some (Addressed link) found e) (link-written text link f)
        by false e = tag html g e

-- Line breaks

pub break-written : (text rest : List ℕ) → after_word (codes "\n") (after_run 32 text) ≡ Some rest
    → Written (if nat_le 2 (run_length 32 text) then Hard else Soft) text rest
break-written text rest e = record { source = spaces ++ codes "\n"; is = whole; law = law (nat_le 2 (run_length 32 text)) refl }
  where
    spaces : List ℕ
    spaces = replicate (run_length 32 text) 32

    whole : text ≡ (spaces ++ codes "\n") ++ rest
    whole = run-whole 32 text ∙ ap (λ t. spaces ++ t) (word-front (codes "\n") (after_run 32 text) rest e)
        ∙ sym (append_assoc spaces (codes "\n") rest)

    law : (hard : Bool) → nat_le 2 (run_length 32 text) ≡ hard → IsWritten (out-Inline (if hard then Hard else Soft)) (spaces ++ codes "\n")
    law true h =
        subst (λ i. IsWritten i (spaces ++ codes "\n")) (sym outs-Hard) (inl (run_length 32 text, grind (arith, nat_tests, h), refl))
    law false h = subst (λ i. IsWritten i (spaces ++ codes "\n")) (sym outs-Soft) (run_length 32 text, grind (arith, nat_tests, h), refl)

pub backslash-written : (text rest : List ℕ) → after_word (codes "\\\n") text ≡ Some rest → Written Hard text rest
backslash-written text rest e = record {
  source = codes "\\\n";
  is = word-front (codes "\\\n") text rest e;
  law = subst (λ i. IsWritten i (codes "\\\n")) (sym outs-Hard) (inr refl);
}
