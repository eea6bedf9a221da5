-- A spelled content ends with neither a space nor a tab, nor with a `#` that would close a heading; the same holds of the start of a heading's.
use Rattle.std.proofs.Common.{◌≡◌, ℕ, zero, suc, ◌==◌, ◌&&◌, ◌||◌, not, Bool, true, false, List, [], ◌∷◌, ◌++◌, replicate, map, Option, Some, None, codes, refl, sym, ap, subst, ◌∙◌, append-nil}
use Rattle.std.specs.Prelude.{if◌then◌else◌}
use Rattle.std.specs.List.{list_all}
use Rattle.std.specs.Fmt.{decimal}
use Rattle.std.specs.Char.{is_ascii_control}
use Rattle.std.proofs.lemmas.Bool.{and_parts, eqb-true, cond-false, and_right, or_right}
use Rattle.cm_text.specs.Rules.{Rules}
use Rattle.cm_text.specs.Characters.{is_ascii_punct}
use Rattle.cm_tree.specs.declared.tree.Inline.{Inline}
use Rattle.cm_tree.specs.declared.tree.Inline.TheVariants.{Text, Code, Html, Emph, Strong, Strike, Link, Image}
use Rattle.cm_scan.specs.Words.{is_space_or_tab, is_empty, skip, keep_byte, trim_end_by, trim_end, trim_start}
use Rattle.cm_scan.specs.blocks.LineForms.{without_closing}
use Rattle.cm_scan.specs.laws.BlockLaws.{is_unindented}
use Rattle.cm_source.specs.Inlines.{Spelled, spelled, join, is_line_end}
use Rattle.cm_source.specs.Texts.{numbered, edge_byte, spelled_byte, spelled_bytes, spelled_title, spelled_text, longest_run, padding, spelled_code, spelled_target}
use Rattle.cm_source.specs.InlineRefusals.{Face, Place, judged, further_in, first_face, refusal_of_all}
use Rattle.cm_source.proofs.lemmas.shared.AcceptedLemmas.{or-none, Accepted, text-accepted, html-accepted, soft-accepted, hard-accepted}
use Rattle.cm_source.proofs.lemmas.shared.InlineInduction.{by-cases}
use Rattle.cm_source.proofs.lemmas.sources.LineFronts.{ends_number, seen_view, Front, front-line}
use Rattle.cm_source.proofs.lemmas.sources.ContentFronts.{text-front}
use Rattle.cm_source.proofs.lemmas.shared.OneTag.{tag-begins, tag-ends}
use Rattle.cm_source.proofs.lemmas.blocks.ContinuationsBack.{bare-front}
use Rattle.cm_source.proofs.lemmas.shared.ByteSpellings.{SpellsByte, ByNumber, Escaped, AsItIs, no-control, spells_byte}
use Rattle.cm_scan.proofs.lemmas.texts.ToldApart.{differs, differs'}
use Rattle.cm_tree.proofs.lemmas.InlineFolds as inline_fold
use Rattle.cm_source.specs.Inlines as spelling

-- the last byte is neither blank nor an unescaped `#`; the mark says that the first byte is escaped
unfoldable pub ends_well : (is_escaped : Bool) → List ℕ → Bool
ends_well is_escaped [] = true
ends_well is_escaped (b ∷ []) = not (is_space_or_tab b) && (is_escaped || not (b == 35))
ends_well is_escaped (b ∷ c ∷ cs) = ends_well (b == 92) (c ∷ cs)

any-mark : (v : Bool) (text : List ℕ) → ends_well false text ≡ true → ends_well v text ≡ true
unfolding ends_well
any-mark false text e = e
any-mark true [] e = refl
any-mark true (b ∷ []) e = ap (λ v. v && true) (and_parts (not (is_space_or_tab b)) (not (b == 35)) e).0
any-mark true (b ∷ c ∷ cs) e = e

ends-beyond : (front : List ℕ) (b : ℕ) (bs : List ℕ) → ends_well false (b ∷ bs) ≡ true → (v : Bool) → ends_well v (front ++ b ∷ bs) ≡ true
unfolding ends_well
ends-beyond [] b bs e v = any-mark v (b ∷ bs) e
ends-beyond (c ∷ []) b bs e v = any-mark (c == 92) (b ∷ bs) e
ends-beyond (c ∷ d ∷ ds) b bs e v = ends-beyond (d ∷ ds) b bs e (c == 92)

-- a text that isn't empty and ends well
pub record EndsWell (text : List ℕ) : Type 0 where
  pub some : is_empty text ≡ false
  pub well : ends_well false text ≡ true

some-beyond : (front rest : List ℕ) → is_empty rest ≡ false → is_empty (front ++ rest) ≡ false
some-beyond [] rest e = e
some-beyond (b ∷ bs) rest e = refl

beyond : (front rest : List ℕ) → EndsWell rest → EndsWell (front ++ rest)
beyond front [] e = absurd (cc e.some)
beyond front (b ∷ bs) e = record { some = some-beyond front (b ∷ bs) refl; well = ends-beyond front b bs e.well false }

-- ---- what that means

pub trimmed-end : (v : Bool) (text : List ℕ) → ends_well v text ≡ true → trim_end text ≡ text
unfolding ends_well trim_end_by
trimmed-end v [] e = refl
trimmed-end v (b ∷ []) e = go (is_space_or_tab b) (and_parts (not (is_space_or_tab b)) (v || not (b == 35)) e).0
  where
    go : (w : Bool) → not w ≡ true → (if w then [] else b ∷ []) ≡ b ∷ []
    go false k = refl
    go true k = absurd (cc k)
trimmed-end v (b ∷ c ∷ cs) e = ap (keep_byte is_space_or_tab b) (trimmed-end (b == 92) (c ∷ cs) e)

no-hashes : (text : List ℕ) → is_empty text ≡ false → ends_well false text ≡ true → list_all (λ c. c == 35) text ≡ false
unfolding ends_well
no-hashes [] some e = absurd (cc some)
no-hashes (b ∷ []) some e = go (b == 35) (and_parts (not (is_space_or_tab b)) (not (b == 35)) e).1
  where
    go : (w : Bool) → not w ≡ true → (w && true) ≡ false
    go false k = refl
    go true k = absurd (cc k)
no-hashes (b ∷ c ∷ cs) some e = go (b == 35) refl (no-hashes (c ∷ cs) refl)
  where
    go : (w : Bool) → (b == 35) ≡ w → (ends_well false (c ∷ cs) ≡ true → list_all (λ d. d == 35) (c ∷ cs) ≡ false) → (w && list_all (λ d. d == 35) (c ∷ cs)) ≡ false
    go false p again = refl
    go true p again = again (sym (ap (λ v. ends_well v (c ∷ cs)) (ap (λ d. d == 92) (eqb-true b 35 p))) ∙ e)

not-both : (b : ℕ) → (is_space_or_tab b && (b == 92)) ≡ false
not-both b = go (b == 92) refl
  where
    go : (w : Bool) → (b == 92) ≡ w → (is_space_or_tab b && w) ≡ false
    go true p = ap (λ c. is_space_or_tab c && true) (eqb-true b 92 p)
    go false p = and_right (is_space_or_tab b) false refl

pub unclosed : (after_gap v : Bool) (text : List ℕ) → (after_gap && v) ≡ false → ends_well v text ≡ true → without_closing after_gap text ≡ text
unfolding without_closing ends_well
unclosed after_gap v [] apart e = refl
unclosed after_gap v (b ∷ []) apart e = cond-false (after_gap && list_all (λ c. c == 35) (b ∷ [])) [] (b ∷ []) (closes after_gap v apart e)
  where
    closes : (after_gap v : Bool) → (after_gap && v) ≡ false → ends_well v (b ∷ []) ≡ true → (after_gap && list_all (λ c. c == 35) (b ∷ [])) ≡ false
    closes false v apart e = refl
    closes true true apart e = absurd (cc apart)
    closes true false apart e = no-hashes (b ∷ []) refl e
unclosed after_gap v (b ∷ c ∷ cs) apart e =
    cond-false (after_gap && list_all (λ d. d == 35) (b ∷ c ∷ cs)) [] (b ∷ without_closing (is_space_or_tab b) (c ∷ cs)) (closes after_gap)
    ∙ ap (λ t. b ∷ t) (unclosed (is_space_or_tab b) (b == 92) (c ∷ cs) (not-both b) e)
  where
    closes : (after_gap : Bool) → (after_gap && list_all (λ d. d == 35) (b ∷ c ∷ cs)) ≡ false
    closes false = refl
    closes true = no-hashes (b ∷ c ∷ cs) refl e

pub trimmed-start : (text : List ℕ) → is_unindented text ≡ true → trim_start text ≡ text
unfolding skip
trimmed-start [] e = refl
trimmed-start (b ∷ bs) e = go (is_space_or_tab b) e
  where
    go : (w : Bool) → not w ≡ true → elim w as (λ _. List ℕ) [ true ↦ trim_start bs | false ↦ b ∷ bs ] ≡ b ∷ bs
    go false k = refl
    go true k = absurd (cc k)

-- ---- kinds of inlines

spelling-ends-well : (b : ℕ) (front : List ℕ) → SpellsByte b front → (b == 32) ≡ false → EndsWell front
unfolding ends_well
spelling-ends-well b front (ByNumber low) space = beyond (codes "&#" ++ decimal b) (codes ";") (record { some = refl; well = refl })
spelling-ends-well b front (Escaped punct tick) space = record { some = refl; well = ap (λ v. not v && true) (blank b punct) }
  where
    blank : (c : ℕ) → is_ascii_punct c ≡ true → is_space_or_tab c ≡ false
    blank c punct = ap (λ v. v || c == 9) (differs is_ascii_punct c 32 punct refl) ∙ differs is_ascii_punct c 9 punct refl
spelling-ends-well b front (AsItIs printed punct) space = record {
  some = refl;
  well = ap (λ v. not (v || b == 9) && not (b == 35)) space ∙ ap (λ v. not v && not (b == 35)) (differs' is_ascii_control b 9 (no-control b printed) refl) ∙ ap not (differs' is_ascii_punct b 35 punct refl);
}

last-well : (b : ℕ) → EndsWell (edge_byte true b)
unfolding ends_well
last-well b = go (b == 32) refl
  where
    go : (v : Bool) → (b == 32) ≡ v → EndsWell (if v then numbered 32 else spelled_byte b)
    go true p = beyond (codes "&#" ++ decimal 32) (codes ";") (record { some = refl; well = refl })
    go false p = spelling-ends-well b (spelled_byte b) (spells_byte b) p

pub text-well : (first : Bool) (text : List ℕ) → is_empty text ≡ false → EndsWell (spelled_text first true text)
unfolding spelled_text
text-well first [] some = absurd (cc some)
text-well first (b ∷ []) some = subst EndsWell (sym (append-nil (edge_byte (first || true) b)) ∙ refl) (subst (λ v. EndsWell (edge_byte v b)) (sym (or_right first true refl)) (last-well b))
text-well first (b ∷ c ∷ cs) some = beyond (edge_byte (first || false) b) (spelled_text false true (c ∷ cs)) (text-well false (c ∷ cs) refl)

ticks-well : (n : ℕ) → EndsWell (replicate (suc n) 96)
unfolding ends_well
ticks-well zero = record { some = refl; well = refl }
ticks-well (suc n) = beyond (96 ∷ []) (replicate (suc n) 96) (ticks-well n)

module _ (rules : Rules) where
  abbrev LastEnds : Inline → Type 0
  LastEnds i = (place : Place) (before : Option Face) → Accepted rules place before None i → (first : Bool) → EndsWell ((spelled i).spelling first true)

  abbrev told : (i : Inline) (s : Spelled) → spelled i ≡ s → (first : Bool) → EndsWell (s.spelling first true) → EndsWell ((spelled i).spelling first true)
  told i s e first ends = subst (λ (z : Spelled). EndsWell (z.spelling first true)) (sym e) ends

  last-ends : (i : Inline) → LastEnds i
  unfolding spelled_code spelled_target ends_well
  last-ends = by-cases LastEnds (record {
    text = λ text place before e first. told (Text text) _ (inline_fold.text spelling.inline_step text) first (text-well first text (text-accepted rules place before None text e).nonempty);
    code = λ text place before e first. told (Code text) _ (inline_fold.code spelling.inline_step text) first
        (beyond (replicate (suc (longest_run 0 text)) 96 ++ padding text ++ text ++ padding text) (replicate (suc (longest_run 0 text)) 96) (ticks-well (longest_run 0 text)));
    html = λ text place before e first.
        let tag = tag-ends rules text (html-accepted rules place before None text e).one_tag in
        told (Html text) _ (inline_fold.html spelling.inline_step text) first (subst EndsWell (sym tag.1) (beyond tag.0 (62 ∷ []) (record { some = refl; well = refl })));
    soft = λ place before e first. absurd (cc (soft-accepted rules place before None e).in_front);
    hard = λ place before e first. absurd (cc (hard-accepted rules place before None e).in_front);
    emph = λ is all place before e first. told (Emph is) _ (inline_fold.emph spelling.inline_step is) first (beyond (codes "*" ++ join false false (map spelled is)) (codes "*") (record { some = refl; well = refl }));
    strong = λ is all place before e first. told (Strong is) _ (inline_fold.strong spelling.inline_step is) first (beyond (codes "**" ++ join false false (map spelled is)) (codes "**") (record { some = refl; well = refl }));
    strike = λ is all place before e first. told (Strike is) _ (inline_fold.strike spelling.inline_step is) first (beyond (codes "~~" ++ join false false (map spelled is)) (codes "~~") (record { some = refl; well = refl }));
    link = λ dest title is all place before e first. told (Link dest title is) _ (inline_fold.link spelling.inline_step dest title is) first
        (beyond (codes "[" ++ join false false (map spelled is)) (spelled_target dest title) (beyond (codes "](<" ++ spelled_bytes dest ++ codes ">" ++ spelled_title title) (codes ")") (record { some = refl; well = refl })));
    image = λ dest title is all place before e first. told (Image dest title is) _ (inline_fold.image spelling.inline_step dest title is) first
        (beyond (codes "![" ++ join false false (map spelled is)) (spelled_target dest title) (beyond (codes "](<" ++ spelled_bytes dest ++ codes ">" ++ spelled_title title) (codes ")") (record { some = refl; well = refl })));
  })

  pub content-ends : (i : Inline) (is : List Inline) (place : Place) (before : Option Face) → refusal_of_all place before (map (judged rules) (i ∷ is)) ≡ None
      → (first : Bool) → EndsWell (join first true (map spelled (i ∷ is)))
  content-ends i [] place before e first =
      subst EndsWell (sym (append-nil ((spelled i).spelling first true))) (last-ends i place before (or-none ((judged rules i).refusal place before None) None e).0 first)
  content-ends i (j ∷ js) place before e first =
      let parts = or-none ((judged rules i).refusal place before (Some (judged rules j).face)) (refusal_of_all (further_in place) (Some (judged rules i).face) (map (judged rules) (j ∷ js))) e in
      beyond ((spelled i).spelling first (is_line_end true (map spelled (j ∷ js)))) (join (spelled i).begins_line true (map spelled (j ∷ js)))
      (content-ends j js (further_in place) (Some (judged rules i).face) parts.1 (spelled i).begins_line)

  -- ---- the front of a heading's content

  abbrev BeginsBare : Inline → Type 0
  BeginsBare i = (place : Place) (after : Option Face) → Accepted rules place None after i → (last : Bool) → is_unindented ((spelled i).spelling true last) ≡ true

  abbrev bare-told : (i : Inline) (s : Spelled) → spelled i ≡ s → (last : Bool) → is_unindented (s.spelling true last) ≡ true → is_unindented ((spelled i).spelling true last) ≡ true
  bare-told i s e last bare = ap (λ (z : Spelled). is_unindented (z.spelling true last)) e ∙ bare

  whole-line : (text : List ℕ) → is_unindented (seen_view text) ≡ true → is_unindented text ≡ true
  unfolding seen_view
  whole-line [] e = e
  whole-line (b ∷ bs) e = go (b == 10) e
    where
      go : (v : Bool) → is_unindented (if v then [] else b ∷ seen_view bs) ≡ true → is_unindented (b ∷ bs) ≡ true
      go true k = absurd (cc k)
      go false k = k

  pub text-bare : (last : Bool) (text : List ℕ) → is_empty text ≡ false → is_unindented (spelled_text true last text) ≡ true
  unfolding ends_number
  text-bare last [] some = absurd (cc some)
  text-bare last (b ∷ bs) some =
      let front = subst Front (append-nil (spelled_text true last (b ∷ bs))) (text-front last b bs [] refl) in
      whole-line (spelled_text true last (b ∷ bs)) (front-line rules (spelled_text true last (b ∷ bs)) front).bare

  begins-bare : (i : Inline) → BeginsBare i
  unfolding spelled_code
  begins-bare = by-cases BeginsBare (record {
    text = λ text place after e last. bare-told (Text text) _ (inline_fold.text spelling.inline_step text) last (text-bare last text (text-accepted rules place None after text e).nonempty);
    code = λ text place after e last. bare-told (Code text) _ (inline_fold.code spelling.inline_step text) last refl;
    html = λ text place after e last.
        let tag = tag-begins rules text (html-accepted rules place None after text e).one_tag in
        bare-told (Html text) _ (inline_fold.html spelling.inline_step text) last (ap is_unindented tag.1);
    soft = λ place after e last. absurd (cc (soft-accepted rules place None after e).beyond);
    hard = λ place after e last. absurd (cc (hard-accepted rules place None after e).beyond);
    emph = λ is all place after e last. bare-told (Emph is) _ (inline_fold.emph spelling.inline_step is) last refl;
    strong = λ is all place after e last. bare-told (Strong is) _ (inline_fold.strong spelling.inline_step is) last refl;
    strike = λ is all place after e last. bare-told (Strike is) _ (inline_fold.strike spelling.inline_step is) last refl;
    link = λ dest title is all place after e last. bare-told (Link dest title is) _ (inline_fold.link spelling.inline_step dest title is) last refl;
    image = λ dest title is all place after e last. bare-told (Image dest title is) _ (inline_fold.image spelling.inline_step dest title is) last refl;
  })

  pub content-bare : (i : Inline) (is : List Inline) (place : Place) → refusal_of_all place None (map (judged rules) (i ∷ is)) ≡ None
      → (last : Bool) → is_unindented (join true last (map spelled (i ∷ is))) ≡ true
  content-bare i is place e last =
      let after = first_face (map (judged rules) is) in
      bare-front ((spelled i).spelling true (is_line_end last (map spelled is))) (join (spelled i).begins_line last (map spelled is))
      (begins-bare i place after (or-none ((judged rules i).refusal place None after) (refusal_of_all (further_in place) (Some (judged rules i).face) (map (judged rules) is)) e).0 (is_line_end last (map spelled is)))
