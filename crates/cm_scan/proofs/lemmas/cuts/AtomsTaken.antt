-- What each atom takes of a source.
use Rattle.std.proofs.Common.{◌≡◌, ℕ, suc, Bool, true, false, ◌&&◌, ◌||◌, ◌==◌, List, [], ◌∷◌, ◌++◌, replicate, Option, Some, None, codes, encode_utf8_all, if◌then◌else◌, refl, sym, ap, subst, ◌∙◌, ◌<◌, arith, drop}
use Rattle.std.specs.Prelude.{nat_le}
use Rattle.std.proofs.lemmas.Bool.{eqb-true, false≢true}
use Rattle.std.proofs.lemmas.Bool.Decides.{nat_tests}
use Rattle.std.proofs.lemmas.List.{append_cancel_right}
use Rattle.std.proofs.lemmas.Option.{same_Some}
use Rattle.std.proofs.lemmas.Str.{encode_ascii}
use Rattle.cm_text.specs.Rules.{Rules}
use Rattle.cm_text.specs.Characters.{is_ascii_punct}
use Rattle.cm_text.specs.References.{reference}
use Rattle.cm_text.specs.Unescaping.{escape, special}
use Rattle.cm_text.proofs.lemmas.ReferenceLemmas.{reference-none}
use Rattle.cm_text.proofs.lemmas.UnescapingLemmas.{special-escape, special-reference}
use Rattle.cm_tree.specs.declared.tree.Inline.{Inline, out-Inline}
use Rattle.cm_tree.specs.declared.tree.Inline.TheVariants.{Code, Html, Soft, Hard}
use Rattle.cm_scan.specs.Words.{run_length, after_run, after_word}
use Rattle.cm_scan.specs.inlines.Links.{Reading}
use Rattle.cm_scan.specs.spans.CodeSpans.{code_span}
use Rattle.cm_scan.specs.spans.Angles.{Angled, Addressed, Tagged, at_angle}
use Rattle.cm_scan.specs.inlines.Delimiters.{Run}
use Rattle.cm_scan.specs.inlines.Pairing.{bracket_text}
use Rattle.cm_scan.specs.inlines.Atoms.{Atom, AtomRead, Plain, Whole, Delimiter, OpenBracket, CloseBracket, read, link_of, backtick_atom, angle_atom, backslash_atom, reference_atom, break_atom, run_between, run_atom, tilde_atom, bang_atom, is_markup, markup_atom, byte_atom, or_byte, atom_at}
use Rattle.cm_scan.specs.inlines.Cuts.{IsTextOf, first_atom}
use Rattle.cm_scan.specs.laws.CutLaws.{is_itself, IsWritten}
use Rattle.cm_scan.proofs.lemmas.texts.WordsGoOn.{none-some}
use Rattle.cm_scan.proofs.lemmas.texts.EndsOfTexts.{IsEnd}
use Rattle.cm_scan.proofs.lemmas.spans.RawHtmlGoesOn.{word-front}
use Rattle.cm_scan.proofs.lemmas.inlines.LeftByEachStep.{atom-left}
use Rattle.cm_scan.proofs.lemmas.cuts.WrittenSpans.{first_byte, Written, run-whole, code-written, inline_in, left_after, angle-written, break-written, backslash-written}
use Rattle.cm_scan.proofs.lemmas.cuts.ResolvedTexts.{byte-itself, plain-byte, run-itself, special-text}

-- what may be left of a delimiter run
abbrev pub may_be_left : (character left : ℕ) → Bool
may_be_left character left = (character == 42 || character == 95) && nat_le 1 left || character == 126 && left == 2

-- what is known of what an atom takes, with what is left after it
abbrev pub AtomLaw : Atom → (piece rest : List ℕ) → Type 0
AtomLaw (Plain t) piece rest = IsTextOf t piece rest
AtomLaw (Whole inline) piece rest = IsWritten (out-Inline inline) piece
AtomLaw (Delimiter run) piece rest = (piece ≡ replicate run.left run.character) × (may_be_left run.character run.left ≡ true)
AtomLaw (OpenBracket image) piece rest = piece ≡ bracket_text image
AtomLaw CloseBracket piece rest = piece ≡ 93 ∷ []

pub record Took (b : ℕ) (bs : List ℕ) (a : AtomRead) : Type 0 where
  pub taken : List ℕ
  pub is : bs ≡ taken ++ a.rest
  pub law : AtomLaw a.atom (b ∷ taken) a.rest

-- what an atom, or else the byte alone, takes
Takes : Option AtomRead → ℕ → List ℕ → Type 0
Takes o b bs = IsEnd (or_byte b bs o).rest bs → Took b bs (or_byte b bs o)

takes-byte : (b : ℕ) (bs : List ℕ) → special (b ∷ bs) ≡ None → Took b bs (byte_atom b bs)
takes-byte b bs e = record { taken = []; is = refl; law = byte-itself b bs e }

takes-none : (b : ℕ) (bs : List ℕ) → special (b ∷ bs) ≡ None → Takes None b bs
unfolding Takes
takes-none b bs e end = takes-byte b bs e

-- the piece of a text before what is left of it
piece-is : (b : ℕ) (bs taken rest piece : List ℕ) → bs ≡ taken ++ rest → b ∷ bs ≡ piece ++ rest → piece ≡ b ∷ taken
piece-is b bs taken rest piece is whole = append_cancel_right piece (b ∷ taken) rest (sym whole ∙ ap (λ t. b ∷ t) is)

takes-whole : (inline : Inline) (rest : List ℕ) (b : ℕ) (bs : List ℕ) → Written inline (b ∷ bs) rest → Takes (read (Whole inline) rest) b bs
unfolding Takes
takes-whole inline rest b bs written end = record {
  taken = end.front;
  is = end.is;
  law = subst (IsWritten (out-Inline inline)) (piece-is b bs end.front rest written.source end.is written.is) written.law;
}

takes-plain : (t rest : List ℕ) (b : ℕ) (bs : List ℕ) → ((taken : List ℕ) → bs ≡ taken ++ rest → IsTextOf t (b ∷ taken) rest)
    → Takes (read (Plain t) rest) b bs
unfolding Takes
takes-plain t rest b bs law end = record { taken = end.front; is = end.is; law = law end.front end.is }

takes-this : (atom : Atom) (rest taken : List ℕ) (b : ℕ) (bs : List ℕ) → bs ≡ taken ++ rest → AtomLaw atom (b ∷ taken) rest
    → Takes (read atom rest) b bs
unfolding Takes
takes-this atom rest taken b bs is law end = record { taken = taken; is = is; law = law }

plain-is : (b c : ℕ) (bs : List ℕ) → (b == c) ≡ true → is_itself c ≡ true → special (b ∷ bs) ≡ None
plain-is b c bs h its = plain-byte b bs (ap is_itself (eqb-true b c h) ∙ its)

-- runs

run-some : (marker b : ℕ) (bs : List ℕ) → (b == marker) ≡ true → run_length marker (b ∷ bs) ≡ suc (run_length marker bs)
unfolding run_length
run-some marker b bs e = ap (λ c. elim c as (λ _. ℕ) [ true ↦ suc (run_length marker bs) | false ↦ 0 ]) e

run-rest : (marker b : ℕ) (bs : List ℕ) → (b == marker) ≡ true → after_run marker (b ∷ bs) ≡ after_run marker bs
unfolding after_run
run-rest marker b bs e = ap (λ c. elim c as (λ _. List ℕ) [ true ↦ after_run marker bs | false ↦ b ∷ bs ]) e

-- a run that starts nothing is text
text-run : (marker b : ℕ) (bs : List ℕ) → is_itself marker ≡ true
    → Takes (read (Plain (replicate (run_length marker (b ∷ bs)) marker)) (after_run marker (b ∷ bs))) b bs
text-run marker b bs its =
    takes-plain run rest b bs (λ taken is.
    subst (λ s. IsTextOf run s rest) (piece-is b bs taken rest run is (run-whole marker (b ∷ bs)))
    (run-itself (run_length marker (b ∷ bs)) marker rest its))
  where
    run : List ℕ
    run = replicate (run_length marker (b ∷ bs)) marker

    rest : List ℕ
    rest = after_run marker (b ∷ bs)

-- each atom

backtick-takes : (b : ℕ) (bs : List ℕ) → (b == 96) ≡ true → Takes (backtick_atom (b ∷ bs)) b bs
unfolding backtick_atom
backtick-takes b bs h = go (code_span (b ∷ bs)) refl
  where
    go : (o : Option Reading) → code_span (b ∷ bs) ≡ o → Takes (elim o as (λ _. Option AtomRead) [
      | Some span ↦ read (Whole (Code span.text)) span.rest
      | None ↦ read (Plain (replicate (run_length 96 (b ∷ bs)) 96)) (after_run 96 (b ∷ bs))
    ]) b bs
    go (Some span) e = takes-whole (Code span.text) span.rest b bs (code-written (b ∷ bs) span e)
    go None e = text-run 96 b bs refl

angle-takes : (rules : Rules) (b : ℕ) (bs : List ℕ) → (b == 60) ≡ true → Takes (angle_atom rules (b ∷ bs)) b bs
unfolding angle_atom inline_in left_after
angle-takes rules b bs h = go (at_angle rules (b ∷ bs)) refl
  where
    written : (found : Angled) → at_angle rules (b ∷ bs) ≡ Some found → Written (inline_in found) (b ∷ bs) (left_after found)
    written found e =
        let is = eqb-true b 60 h in
        subst (λ c. Written (inline_in found) (c ∷ bs) (left_after found)) (sym is)
        (angle-written rules bs found (ap (λ c. at_angle rules (c ∷ bs)) (sym is) ∙ e))

    go : (o : Option Angled) → at_angle rules (b ∷ bs) ≡ o → Takes (elim o as (λ _. Option AtomRead) [
      | Some (Addressed link) ↦ read (Whole (link_of link)) link.rest
      | Some (Tagged tag) ↦ read (Whole (Html tag.text)) tag.rest
      | None ↦ None
    ]) b bs
    go None e = takes-none b bs (plain-is b 60 bs h refl)
    go (Some (Addressed link)) e = takes-whole (link_of link) link.rest b bs (written (Addressed link) e)
    go (Some (Tagged tag)) e = takes-whole (Html tag.text) tag.rest b bs (written (Tagged tag) e)

-- an escape stands for one byte
escaped-itself : (text : List ℕ) (escaped : List ℕ × ℕ) → escape text ≡ Some escaped → encode_utf8_all escaped.0 ≡ escaped.0
escaped-itself [] escaped e = none-some e
escaped-itself (b ∷ []) escaped e = none-some e
escaped-itself (b ∷ c ∷ rest) escaped e = go (b == 92) (is_ascii_punct c) refl e
  where
    low : is_ascii_punct c ≡ true → c < 128
    low h = grind (arith, nat_tests, h)

    go : (v w : Bool) → is_ascii_punct c ≡ w → (if v && w then Some (c ∷ [], 2) else None) ≡ Some escaped
        → encode_utf8_all escaped.0 ≡ escaped.0
    go true true h e =
        subst (λ (p : List ℕ × ℕ). encode_utf8_all p.0 ≡ p.0) (same_Some (c ∷ [], 2) escaped e) (ap (λ t. t ++ []) (encode_ascii c (low h)))
    go true false h e = none-some e
    go false w h e = none-some e

backslash-takes : (b : ℕ) (bs : List ℕ) → (b == 92) ≡ true → Takes (backslash_atom (b ∷ bs)) b bs
unfolding backslash_atom
backslash-takes b bs h = go (after_word (codes "\\\n") (b ∷ bs)) refl (escape (b ∷ bs)) refl
  where
    no-reference : reference (b ∷ bs) ≡ None
    no-reference = reference-none (b ∷ bs) (ap (λ c. c == 38) (eqb-true b 92 h))

    go : (o : Option (List ℕ)) → after_word (codes "\\\n") (b ∷ bs) ≡ o → (p : Option (List ℕ × ℕ)) → escape (b ∷ bs) ≡ p
        → Takes (elim o as (λ _. Option AtomRead) [
          | Some rest ↦ read (Whole Hard) rest
          | None ↦ elim p as (λ _. Option AtomRead) [ Some escaped ↦ read (Plain escaped.0) (drop escaped.1 (b ∷ bs)) | None ↦ None ]
        ]) b bs
    go (Some rest) f p g = takes-whole Hard rest b bs (backslash-written (b ∷ bs) rest f)
    go None f None g = takes-none b bs (special-reference (b ∷ bs) (sym g) ∙ no-reference)
    go None f (Some escaped) g = takes-plain escaped.0 (drop escaped.1 (b ∷ bs)) b bs (λ taken is.
        subst (λ t. IsTextOf t (b ∷ taken) (drop escaped.1 (b ∷ bs))) (escaped-itself (b ∷ bs) escaped g)
        (special-text b taken (drop escaped.1 (b ∷ bs)) escaped.0 escaped.1
        (ap (λ t. special (b ∷ t)) (sym is) ∙ sym (special-escape (b ∷ bs) escaped.0 escaped.1 (sym g)))
        (ap (λ t. drop escaped.1 (b ∷ t)) (sym is))))

reference-takes : (b : ℕ) (bs : List ℕ) → (b == 38) ≡ true → Takes (reference_atom (b ∷ bs)) b bs
unfolding reference_atom
reference-takes b bs h = go (reference (b ∷ bs)) refl
  where
    no-escape : (bs : List ℕ) → escape (38 ∷ bs) ≡ None
    no-escape [] = refl
    no-escape (c ∷ cs) = refl

    same : special (b ∷ bs) ≡ reference (b ∷ bs)
    same = special-reference (b ∷ bs) (sym (ap (λ c. escape (c ∷ bs)) (eqb-true b 38 h) ∙ no-escape bs))

    go : (o : Option (List ℕ × ℕ)) → reference (b ∷ bs) ≡ o
        → Takes (elim o as (λ _. Option AtomRead) [
          | Some found ↦ read (Plain (encode_utf8_all found.0)) (drop found.1 (b ∷ bs))
          | None ↦ None
        ]) b bs
    go None f = takes-none b bs (same ∙ f)
    go (Some found) f = takes-plain (encode_utf8_all found.0) (drop found.1 (b ∷ bs)) b bs (λ taken is.
        special-text b taken (drop found.1 (b ∷ bs)) found.0 found.1 (ap (λ t. special (b ∷ t)) (sym is) ∙ same ∙ f)
        (ap (λ t. drop found.1 (b ∷ t)) (sym is)))

break-takes : (b : ℕ) (bs : List ℕ) → (b == 10 || b == 32) ≡ true → Takes (break_atom (b ∷ bs)) b bs
unfolding break_atom
break-takes b bs h = go (after_word (codes "\n") (after_run 32 (b ∷ bs))) refl
  where
    go : (o : Option (List ℕ)) → after_word (codes "\n") (after_run 32 (b ∷ bs)) ≡ o
        → Takes (elim o as (λ _. Option AtomRead) [
          | Some rest ↦ read (Whole (if nat_le 2 (run_length 32 (b ∷ bs)) then Hard else Soft)) rest
          | None ↦ None
        ]) b bs
    go None e = takes-none b bs (plain-byte b bs (grind (arith, nat_tests, h)))
    go (Some rest) e = takes-whole (if nat_le 2 (run_length 32 (b ∷ bs)) then Hard else Soft) rest b bs (break-written (b ∷ bs) rest e)

run-takes : (rules : Rules) (before : List ℕ) (character b : ℕ) (bs : List ℕ) → (b == character) ≡ true
    → may_be_left character (run_length character (b ∷ bs)) ≡ true → Takes (run_atom rules before character (b ∷ bs)) b bs
unfolding run_atom run_between
run-takes rules before character b bs h fits =
    takes-this (Delimiter run) (after_run character (b ∷ bs)) (replicate (run_length character bs) character) b bs
    (run-whole character bs ∙ ap (λ t. replicate (run_length character bs) character ++ t) (sym (run-rest character b bs h))) (
      ap (λ x. x ∷ replicate (run_length character bs) character) (eqb-true b character h) ∙ ap (λ n. replicate n character)
          (sym (run-some character b bs h)),
      fits,
    )
  where
    run : Run
    run = run_between rules character (run_length character (b ∷ bs)) before (after_run character (b ∷ bs))

tilde-takes : (rules : Rules) (before : List ℕ) (b : ℕ) (bs : List ℕ) → (b == 126) ≡ true → Takes (tilde_atom rules before (b ∷ bs)) b bs
unfolding tilde_atom
tilde-takes rules before b bs h = go rules.strike (run_length 126 (b ∷ bs) == 2) refl
  where
    go : (v w : Bool) → (run_length 126 (b ∷ bs) == 2) ≡ w → Takes (elim (v && w) as (λ _. Option AtomRead) [
      | true ↦ run_atom rules before 126 (b ∷ bs)
      | false ↦ read (Plain (replicate (run_length 126 (b ∷ bs)) 126)) (after_run 126 (b ∷ bs))
    ]) b bs
    go true true e = run-takes rules before 126 b bs h e
    go true false e = text-run 126 b bs refl
    go false w e = text-run 126 b bs refl

abbrev pub other_bytes : List ℕ → List ℕ
other_bytes [] = []
other_bytes (b ∷ bs) = bs

bang-takes : (b : ℕ) (bs : List ℕ) → (b == 33) ≡ true → Takes (bang_atom (b ∷ bs)) b bs
unfolding bang_atom
bang-takes b bs h = go (after_word (codes "![") (b ∷ bs)) refl
  where
    go : (o : Option (List ℕ))
        → after_word (codes "![") (b ∷ bs) ≡ o
        → Takes (elim o as (λ _. Option AtomRead) [ Some rest ↦ read (OpenBracket true) rest | None ↦ None ]) b bs
    go (Some rest) f =
        let whole = word-front (codes "![") (b ∷ bs) rest f in
        takes-this (OpenBracket true) rest (91 ∷ []) b bs (ap other_bytes whole) (ap (λ x. x ∷ 91 ∷ []) (ap first_byte whole))
    go None f = takes-none b bs (plain-is b 33 bs h refl)

-- one case after another
or-else : (c : Bool) (o p : Option AtomRead) (b : ℕ) (bs : List ℕ) → (c ≡ true → Takes o b bs) → (c ≡ false → Takes p b bs)
    → Takes (if c then o else p) b bs
or-else true o p b bs h k = h refl
or-else false o p b bs h k = k refl

itself : (b : ℕ) → (b == b) ≡ true
itself b = grind (arith, nat_tests)

markup-takes : (rules : Rules) (before : List ℕ) (b : ℕ) (bs : List ℕ) → is_markup b ≡ true → Takes (markup_atom rules before b bs) b bs
unfolding markup_atom
markup-takes rules before b bs markup =
    or-else (b == 96) _ _ b bs (backtick-takes b bs) (λ h0.
    or-else (b == 60) _ _ b bs (angle-takes rules b bs) (λ h1.
    or-else (b == 92) _ _ b bs (backslash-takes b bs) (λ h2.
    or-else (b == 38) _ _ b bs (reference-takes b bs) (λ h3.
    or-else (b == 10 || b == 32) _ _ b bs (break-takes b bs) (λ h4.
    or-else (b == 126) _ _ b bs (tilde-takes rules before b bs) (λ h5.
    or-else (b == 33) _ _ b bs (bang-takes b bs) (λ h6.
    or-else (b == 91) _ _ b bs (λ h. takes-this (OpenBracket false) bs [] b bs refl (ap (λ x. x ∷ []) (eqb-true b 91 h))) (λ h7.
    or-else (b == 93) _ _ b bs (λ h. takes-this CloseBracket bs [] b bs refl (ap (λ x. x ∷ []) (eqb-true b 93 h))) (λ h8.
    run-takes rules before b b bs (itself b)
    (fits (run_length b bs) (run-some b b bs (itself b)) (grind (arith, nat_tests, markup, h0, h1, h2, h3, h4, h5, h6, h7, h8))))))))))))
  where
    fits : (n : ℕ) → run_length b (b ∷ bs) ≡ suc n → (b == 42 || b == 95) ≡ true → may_be_left b (run_length b (b ∷ bs)) ≡ true
    fits n e h = grind (arith, nat_tests, e, h)

pub atom-takes : (rules : Rules) (before : List ℕ) (b : ℕ) (bs : List ℕ) → Took b bs (atom_at rules before b bs)
unfolding atom_at Takes
atom-takes rules before b bs = go (is_markup b) refl (atom-left rules before b bs).end
  where
    go : (v : Bool) → is_markup b ≡ v
        → IsEnd (elim v as (λ _. AtomRead) [ true ↦ or_byte b bs (markup_atom rules before b bs) | false ↦ byte_atom b bs ]).rest bs
        → Took b bs (elim v as (λ _. AtomRead) [ true ↦ or_byte b bs (markup_atom rules before b bs) | false ↦ byte_atom b bs ])
    go true e end = markup-takes rules before b bs e end
    go false e end = takes-byte b bs (plain-byte b bs (grind (arith, nat_tests, e)))

-- an inline without inlines inside is the same whatever comes before it
Alike : Option AtomRead → Option AtomRead → ℕ → List ℕ → Type 0
Alike o p b bs =
    (inline : Inline) (rest : List ℕ) → or_byte b bs o ≡ record { atom = Whole inline; rest = rest }
    → or_byte b bs p ≡ record { atom = Whole inline; rest = rest }

alike-same : (o : Option AtomRead) (b : ℕ) (bs : List ℕ) → Alike o o b bs
unfolding Alike
alike-same o b bs inline rest e = e

alike-else : (c : Bool) (o p q : Option AtomRead) (b : ℕ) (bs : List ℕ) → Alike p q b bs
    → Alike (if c then o else p) (if c then o else q) b bs
unfolding Alike
alike-else true o p q b bs h = λ inline rest e. e
alike-else false o p q b bs h = h

abbrev pub is_whole : Atom → Bool
is_whole (Whole inline) = true
is_whole _ = false

alike-run : (rules : Rules) (before : List ℕ) (character b : ℕ) (bs : List ℕ) (p : Option AtomRead)
    → Alike (run_atom rules before character (b ∷ bs)) p b bs
unfolding Alike run_atom
alike-run rules before character b bs p inline rest e = absurd (false≢true (ap (λ (a : AtomRead). is_whole a.atom) e))

alike-tilde : (rules : Rules) (before : List ℕ) (b : ℕ) (bs : List ℕ)
    → Alike (tilde_atom rules before (b ∷ bs)) (tilde_atom rules [] (b ∷ bs)) b bs
unfolding tilde_atom
alike-tilde rules before b bs = go (rules.strike && run_length 126 (b ∷ bs) == 2)
  where
    plain : Option AtomRead
    plain = read (Plain (replicate (run_length 126 (b ∷ bs)) 126)) (after_run 126 (b ∷ bs))

    go : (v : Bool) → Alike (elim v as (λ _. Option AtomRead) [ true ↦ run_atom rules before 126 (b ∷ bs) | false ↦ plain ])
        (elim v as (λ _. Option AtomRead) [ true ↦ run_atom rules [] 126 (b ∷ bs) | false ↦ plain ]) b bs
    go true = alike-run rules before 126 b bs _
    go false = alike-same plain b bs

alike-markup : (rules : Rules) (before : List ℕ) (b : ℕ) (bs : List ℕ)
    → Alike (markup_atom rules before b bs) (markup_atom rules [] b bs) b bs
unfolding markup_atom
alike-markup rules before b bs =
    alike-else (b == 96) _ _ _ b bs (alike-else (b == 60) _ _ _ b bs (alike-else (b == 92) _ _ _ b bs
    (alike-else (b == 38) _ _ _ b bs (alike-else (b == 10 || b == 32) _ _ _ b bs (both (b == 126))))))
  where
    others : List ℕ → Option AtomRead
    others before =
        if b == 33 then bang_atom (b ∷ bs) else if b == 91 then read (OpenBracket false) bs else if b == 93 then read CloseBracket bs
        else run_atom rules before b (b ∷ bs)

    both : (c : Bool)
        → Alike (if c then tilde_atom rules before (b ∷ bs) else others before) (if c then tilde_atom rules [] (b ∷ bs) else others []) b bs
    both true = alike-tilde rules before b bs
    both false =
        alike-else (b == 33) _ _ _ b bs
        (alike-else (b == 91) _ _ _ b bs (alike-else (b == 93) _ _ _ b bs (alike-run rules before b b bs _)))

pub whole-anywhere : (rules : Rules) (before : List ℕ) (b : ℕ) (bs : List ℕ) (inline : Inline) (rest : List ℕ)
    → atom_at rules before b bs ≡ record { atom = Whole inline; rest = rest } → first_atom rules (b ∷ bs) ≡ read (Whole inline) rest
unfolding atom_at Alike
whole-anywhere rules before b bs inline rest e = ap (λ (a : AtomRead). Some a) (go (is_markup b) e)
  where
    go : (v : Bool)
        → elim v as (λ _. AtomRead) [ true ↦ or_byte b bs (markup_atom rules before b bs) | false ↦ byte_atom b bs ] ≡ record {
          atom = Whole inline;
          rest = rest;
        }
        → elim v as (λ _. AtomRead) [ true ↦ or_byte b bs (markup_atom rules [] b bs) | false ↦ byte_atom b bs ] ≡ record {
          atom = Whole inline;
          rest = rest;
        }
    go true e = alike-markup rules before b bs inline rest e
    go false e = e

-- and it is written as its kind is
pub atom-written : (rules : Rules) (source : List ℕ) (inline : Inline) (after : List ℕ)
    → first_atom rules (source ++ after) ≡ read (Whole inline) after → IsWritten (out-Inline inline) source
atom-written rules source inline after e = go (source ++ after) refl e
  where
    go : (text : List ℕ) → source ++ after ≡ text → first_atom rules text ≡ read (Whole inline) after → IsWritten (out-Inline inline) source
    go [] is e = none-some e
    go (b ∷ bs) is e =
        let took = subst (λ (a : AtomRead). Took b bs a) (same_Some (atom_at rules [] b bs) _ e) (atom-takes rules [] b bs) in
        subst (IsWritten (out-Inline inline)) (sym (piece-is b bs took.taken after source took.is (sym is))) took.law
