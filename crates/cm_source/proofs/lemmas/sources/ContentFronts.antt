-- Each line of a content that can be spelled starts with what is nothing but text.
use Rattle.std.proofs.Common.{◌≡◌, ℕ, suc, ◌==◌, ◌&&◌, ◌||◌, ◌⊎◌, inl, inr, not, Bool, true, false, List, [], ◌∷◌, ◌++◌, replicate, map, Option, Some, None, codes, refl, sym, ap, subst, ◌∙◌, append_assoc, append-nil}
use Rattle.std.specs.Prelude.{if◌then◌else◌}
use Rattle.std.specs.Str.{chars}
use Rattle.std.specs.List.{list_all, list_any}
use Rattle.std.specs.Char.{is_ascii_control, is_ascii_digit}
use Rattle.std.proofs.lemmas.Bool.{or_parts, or_right, and_parts, eqb-true, not-true}
use Rattle.cm_text.specs.Rules.{Rules}
use Rattle.cm_text.specs.Characters.{is_ascii_punct}
use Rattle.cm_text.proofs.lemmas.Computing.{character_kinds}
use Rattle.cm_tree.specs.declared.tree.Inline.{Inline}
use Rattle.cm_tree.specs.declared.tree.Inline.TheVariants.{Text, Code, Html, Soft, Hard, Emph, Strong, Strike, Link, Image}
use Rattle.cm_scan.specs.Words.{is_empty, begins_with}
use Rattle.cm_scan.specs.spans.Autolinks.{ends_with}
use Rattle.cm_source.specs.Inlines.{Spelled, spelled, join, is_line_end, between}
use Rattle.cm_source.specs.Texts.{numbered, edge_byte, spelled_byte, spelled_text, longest_run, is_padded, padding, spelled_code, spelled_target}
use Rattle.cm_source.specs.InlineRefusals.{Face, Place, Judged, judged, further_in, inside_link, first_face, refusal_of_all, has_wrong_edge, is_text, is_break, is_none, is_whitespace, is_plain, first_of, last_of, last_face, hold_emphasis}
use Rattle.cm_source.proofs.lemmas.shared.AcceptedLemmas.{or-none, Accepted, text-accepted, code-accepted, html-accepted, soft-accepted, hard-accepted, EmphasisAccepted, emph-accepted, strong-accepted, strike-accepted, link-accepted, image-accepted}
use Rattle.cm_source.proofs.lemmas.shared.InlineInduction.{AllHold, Cases, by-cases, all-by-cases}
use Rattle.cm_source.proofs.lemmas.sources.KeptBytes.{is_line_byte, one-line, padding-line, text-is-line, code-is-line, target-is-line}
use Rattle.cm_scan.proofs.lemmas.blocks.QuietStarts.{starters, is_quiet}
use Rattle.cm_source.proofs.lemmas.sources.LineFronts.{enders, is_inner, ends_number, ends-digit, ends-other, seen_view, Front, quiet, number, one_star, two_stars, two_tildes, backticks, LinesBegin}
use Rattle.cm_source.proofs.lemmas.shared.OneTag.{tag-begins}
use Rattle.cm_source.proofs.lemmas.shared.ByteSpellings.{SpellsByte, ByNumber, Escaped, AsItIs, no-control, spells_byte, spells_edge}
use Rattle.cm_scan.proofs.lemmas.texts.ToldApart.{differs', none-passes}
use Rattle.cm_source.proofs.lemmas.shared.AllPass.{all-both}
use Rattle.cm_tree.proofs.lemmas.InlineFolds as inline_fold
use Rattle.cm_source.specs.Inlines as spelling
use Rattle.cm_source.specs.InlineRefusals as refusals

-- ---- quiet and inner bytes

-- neither ASCII punctuation nor a control character nor a space
abbrev is_unmarked : ℕ → Bool
is_unmarked b = not (is_ascii_punct b) && not (is_ascii_control b) && not (b == 32)

unmarked : (b : ℕ) → is_ascii_punct b ≡ false → is_ascii_control b ≡ false → (b == 32) ≡ false → is_unmarked b ≡ true
unmarked b punct control space = rw (punct, control, space) refl

quiet-itself : (b : ℕ) → is_unmarked b ≡ true → is_quiet b ≡ true
unfolding is_quiet
quiet-itself b e = ap not (none-passes is_unmarked b starters e refl)

inner-itself : (b : ℕ) → is_unmarked b ≡ true → is_inner b ≡ true
unfolding is_inner
inner-itself b e = ap not (none-passes is_unmarked b enders e refl)

-- a text that starts with an inner byte
pub record StartsInner (text : List ℕ) : Type 0 where
  pub byte : ℕ
  pub rest : List ℕ
  pub is : text ≡ byte ∷ rest
  pub inner : is_inner byte ≡ true

inner-more : (text more : List ℕ) → StartsInner text → StartsInner (text ++ more)
inner-more text more s = record { byte = s.byte; rest = s.rest ++ more; is = ap (λ t. t ++ more) s.is; inner = s.inner }

starts-with : (b : ℕ) (rest : List ℕ) → is_inner b ≡ true → StartsInner (b ∷ rest)
starts-with b rest inner = record { byte = b; rest = rest; is = refl; inner = inner }

-- ---- texts

spelling-ends : (b : ℕ) (front : List ℕ) → SpellsByte b front → (rest : List ℕ) → ends_number rest ≡ true → ends_number (front ++ rest) ≡ true
unfolding ends_number
spelling-ends b front (ByNumber low) rest e = refl
spelling-ends b front (Escaped punct tick) rest e = refl
spelling-ends b front (AsItIs printed punct) rest e = go (is_ascii_digit b) refl
  where
    go : (v : Bool) → is_ascii_digit b ≡ v → ends_number (b ∷ rest) ≡ true
    go true d = ends-digit b rest d ∙ e
    go false d = ends-other b rest d
        ∙ ap (λ v. not v && not (b == 41)) (differs' is_ascii_punct b 46 punct refl) ∙ ap not (differs' is_ascii_punct b 41 punct refl)

text-ends : (last : Bool) (text more : List ℕ) → ends_number more ≡ true → ends_number (spelled_text false last text ++ more) ≡ true
unfolding spelled_text
text-ends last [] more e = e
text-ends last (b ∷ bs) more e =
    let at_edge = last && is_empty bs in
    ap ends_number (append_assoc (edge_byte at_edge b) (spelled_text false last bs) more)
    ∙ spelling-ends b (edge_byte at_edge b) (spells_edge at_edge b) (spelled_text false last bs ++ more) (text-ends last bs more e)

spelling-front : (b : ℕ) (front : List ℕ) → SpellsByte b front → (b == 32) ≡ false → (rest : List ℕ) → ends_number rest ≡ true → Front (front ++ rest)
unfolding is_quiet
spelling-front b front (ByNumber low) space rest e = quiet 38 _ refl refl
spelling-front b front (Escaped punct tick) space rest e = quiet 92 _ refl refl
spelling-front b front (AsItIs printed punct) space rest e = go (is_ascii_digit b) refl
  where
    go : (v : Bool) → is_ascii_digit b ≡ v → Front (b ∷ rest)
    go true d = number b rest d (ends-digit b rest d ∙ e)
    go false d = quiet b rest (quiet-itself b (unmarked b punct (no-control b printed) space)) d

spelling-filled : (b : ℕ) (front : List ℕ) → SpellsByte b front → (rest : List ℕ) → is_empty (front ++ rest) ≡ false
spelling-filled b front (ByNumber low) rest = refl
spelling-filled b front (Escaped punct tick) rest = refl
spelling-filled b front (AsItIs printed punct) rest = refl

pub text-front : (last : Bool) (b : ℕ) (bs more : List ℕ) → ends_number more ≡ true → Front (spelled_text true last (b ∷ bs) ++ more)
unfolding spelled_text is_quiet
text-front last b bs more e = go (b == 32) refl
  where
    go : (v : Bool) → (b == 32) ≡ v → Front ((if v then numbered 32 else spelled_byte b) ++ spelled_text false last bs ++ more)
    go true p = quiet 38 _ refl refl
    go false p = subst Front (sym (append_assoc (spelled_byte b) (spelled_text false last bs) more))
        (spelling-front b (spelled_byte b) (spells_byte b) p (spelled_text false last bs ++ more) (text-ends last bs more e))

-- inside stars or tildes no text starts with a space
spelling-inner : (b : ℕ) (front : List ℕ) → SpellsByte b front → (b == 32) ≡ false → (rest : List ℕ) → StartsInner (front ++ rest)
unfolding is_inner
spelling-inner b front (ByNumber low) space rest = starts-with 38 _ refl
spelling-inner b front (Escaped punct tick) space rest = starts-with 92 _ refl
spelling-inner b front (AsItIs printed punct) space rest = starts-with b rest (inner-itself b (unmarked b punct (no-control b printed) space))

text-inner : (last : Bool) (b : ℕ) (bs : List ℕ) → (b == 32) ≡ false → StartsInner (spelled_text false last (b ∷ bs))
unfolding spelled_text
text-inner last b bs space = spelling-inner b (edge_byte (last && is_empty bs) b) (spells_edge (last && is_empty bs) b) space (spelled_text false last bs)

-- ---- code spans

line-byte : (b : ℕ) (bs : List ℕ) → list_all is_line_byte (b ∷ bs) ≡ true → ((b == 10) ≡ false) × (list_all is_line_byte bs ≡ true)
unfolding is_line_byte
line-byte b bs e =
    let parts = and_parts (is_line_byte b) (list_all is_line_byte bs) e in
    let some = and_parts (not (b == 0)) (not (b == 10) && not (b == 13)) parts.0 in
    (not-true (b == 10) (and_parts (not (b == 10)) (not (b == 13)) some.1).0, parts.1)

line-has : (inside rest : List ℕ) → list_all is_line_byte inside ≡ true → list_any (λ c. c == 96) (seen_view (inside ++ 96 ∷ rest)) ≡ true
unfolding seen_view
line-has [] rest e = refl
line-has (b ∷ bs) rest e =
    let parts = line-byte b bs e in
    ap (λ v. list_any (λ c. c == 96) (if v then [] else b ∷ seen_view (bs ++ 96 ∷ rest))) parts.0
    ∙ or_right (b == 96) (list_any (λ c. c == 96) (seen_view (bs ++ 96 ∷ rest))) (line-has bs rest parts.1)

-- what is between the backticks
between_ticks : List ℕ → List ℕ
between_ticks text = padding text ++ text ++ padding text

record StartsPlain (text : List ℕ) : Type 0 where
  byte : ℕ
  rest : List ℕ
  is : text ≡ byte ∷ rest
  no_backtick : (byte == 96) ≡ false

inside-begins : (text : List ℕ) → is_empty text ≡ false → StartsPlain (between_ticks text)
unfolding between_ticks
inside-begins [] e = absurd (cc e)
inside-begins (b ∷ bs) e = go (is_padded (b ∷ bs)) refl
  where
    space : Bool → List ℕ
    space v = if v then 32 ∷ [] else []

    go : (v : Bool) → is_padded (b ∷ bs) ≡ v → StartsPlain (space v ++ (b ∷ bs) ++ space v)
    go true p = record { byte = 32; rest = (b ∷ bs) ++ 32 ∷ []; is = refl; no_backtick = refl }
    go false p =
        let most = or_parts (begins_with 96 (b ∷ bs) || ends_with 96 (b ∷ bs)) (begins_with 32 (b ∷ bs) && ends_with 32 (b ∷ bs) && not (list_all (λ c. c == 32) (b ∷ bs))) p in
        record { byte = b; rest = bs ++ []; is = refl; no_backtick = (or_parts (b == 96) (ends_with 96 (b ∷ bs)) most.0).0 }

code-front : (text : List ℕ) → is_empty text ≡ false → list_all is_line_byte text ≡ true → (more : List ℕ) → Front (spelled_code text ++ more)
unfolding spelled_code between_ticks
code-front text some e more =
    let n = longest_run 0 text in
    let marks = replicate (suc n) 96 in
    let inside = between_ticks text in
    let s = inside-begins text some in
    let line = all-both is_line_byte (padding text ++ text) (padding text) (all-both is_line_byte (padding text) text (padding-line text) e) (padding-line text) in
    let shape : spelled_code text ++ more ≡ marks ++ (inside ++ (marks ++ more)) = simp append_assoc in
    let beyond : inside ++ (marks ++ more) ≡ s.byte ∷ (s.rest ++ (marks ++ more)) = ap (λ t. t ++ (marks ++ more)) s.is in
    subst Front (sym (shape ∙ ap (λ t. marks ++ t) beyond))
    (backticks n s.byte (s.rest ++ (marks ++ more)) s.no_backtick (line-byte s.byte s.rest (sym (ap (list_all is_line_byte) s.is) ∙ line)).0
    (sym (ap (λ t. list_any (λ c. c == 96) (seen_view t)) beyond) ∙ line-has inside (replicate n 96 ++ more) line))

-- ---- lines

lines-inside : (text more : List ℕ) → list_all is_line_byte text ≡ true → LinesBegin false more → LinesBegin false (text ++ more)
unfolding LinesBegin
lines-inside [] more e begin = begin
lines-inside (b ∷ bs) more e begin =
    let parts = line-byte b bs e in
    ((λ (h : false ≡ true). absurd (cc h)), subst (λ v. LinesBegin v (bs ++ more)) (sym parts.0) (lines-inside bs more parts.1 begin))

begin-with : (first : Bool) (text more : List ℕ) → is_empty text ≡ false → list_all is_line_byte text ≡ true → (first ≡ true → Front (text ++ more)) → LinesBegin false more → LinesBegin first (text ++ more)
unfolding LinesBegin
begin-with first [] more some e front begin = absurd (cc some)
begin-with first (b ∷ bs) more some e front begin =
    let parts = line-byte b bs e in
    (front, subst (λ v. LinesBegin v (bs ++ more)) (sym parts.0) (lines-inside bs more parts.1 begin))

-- ---- kinds of inlines

-- a line starts with an inline only at the start of a paragraph and after a break
abbrev FirstIs : Bool → Place → Option Face → Type 0
FirstIs first place before = first ≡ true → ((place.opens_paragraph ≡ true) × (before ≡ None)) ⊎ (is_break before ≡ true)

false-not-first : (place : Place) (before : Option Face) → FirstIs false place before
false-not-first place before e = absurd (cc e)

module _ (rules : Rules) where
  -- what starts after an inline is known from what others see of it
  abbrev SameBreak : Inline → Type 0
  SameBreak i = (spelled i).begins_line ≡ is_break (Some (judged rules i).face)

  same-break : (i : Inline) → SameBreak i
  same-break = by-cases SameBreak (record {
    text = λ text. rw (inline_fold.text spelling.inline_step text, inline_fold.text (refusals.inline_step rules) text) refl;
    code = λ text. rw (inline_fold.code spelling.inline_step text, inline_fold.code (refusals.inline_step rules) text) refl;
    html = λ text. rw (inline_fold.html spelling.inline_step text, inline_fold.html (refusals.inline_step rules) text) refl;
    soft = rw (inline_fold.soft spelling.inline_step, (inline_fold.soft (refusals.inline_step rules))) refl;
    hard = rw (inline_fold.hard spelling.inline_step, (inline_fold.hard (refusals.inline_step rules))) refl;
    emph = λ is all. rw (inline_fold.emph spelling.inline_step is, inline_fold.emph (refusals.inline_step rules) is) refl;
    strong = λ is all. rw (inline_fold.strong spelling.inline_step is, inline_fold.strong (refusals.inline_step rules) is) refl;
    strike = λ is all. rw (inline_fold.strike spelling.inline_step is, inline_fold.strike (refusals.inline_step rules) is) refl;
    link = λ dest title is all. rw (inline_fold.link spelling.inline_step dest title is, inline_fold.link (refusals.inline_step rules) dest title is) refl;
    image = λ dest title is all. rw (inline_fold.image spelling.inline_step dest title is, inline_fold.image (refusals.inline_step rules) dest title is) refl;
  })

  -- a break isn't the last inline of a content
  abbrev NotLast : Inline → Type 0
  NotLast i = (place : Place) (before : Option Face) → Accepted rules place before None i → is_break (Some (judged rules i).face) ≡ false

  not-last : (i : Inline) → NotLast i
  not-last = by-cases NotLast (record {
    text = λ text place before e. ap (λ (j : Judged). is_break (Some j.face)) (inline_fold.text (refusals.inline_step rules) text);
    code = λ text place before e. ap (λ (j : Judged). is_break (Some j.face)) (inline_fold.code (refusals.inline_step rules) text);
    html = λ text place before e. ap (λ (j : Judged). is_break (Some j.face)) (inline_fold.html (refusals.inline_step rules) text);
    soft = λ place before e. absurd (cc (soft-accepted rules place before None e).in_front);
    hard = λ place before e. absurd (cc (hard-accepted rules place before None e).in_front);
    emph = λ is all place before e. ap (λ (j : Judged). is_break (Some j.face)) (inline_fold.emph (refusals.inline_step rules) is);
    strong = λ is all place before e. ap (λ (j : Judged). is_break (Some j.face)) (inline_fold.strong (refusals.inline_step rules) is);
    strike = λ is all place before e. ap (λ (j : Judged). is_break (Some j.face)) (inline_fold.strike (refusals.inline_step rules) is);
    link = λ dest title is all place before e. ap (λ (j : Judged). is_break (Some j.face)) (inline_fold.link (refusals.inline_step rules) dest title is);
    image = λ dest title is all place before e. ap (λ (j : Judged). is_break (Some j.face)) (inline_fold.image (refusals.inline_step rules) dest title is);
  })

  -- no digit, no `.` and no `)` follows a text
  abbrev EndsNumber : Inline → Type 0
  EndsNumber i = (place : Place) (before after : Option Face) → Accepted rules place before after i → is_text before ≡ true → (first last : Bool) (more : List ℕ)
      → ends_number ((spelled i).spelling first last ++ more) ≡ true

  abbrev ends-told : (i : Inline) (s : Spelled) → spelled i ≡ s → (first last : Bool) (more : List ℕ) → ends_number (s.spelling first last ++ more) ≡ true
      → ends_number ((spelled i).spelling first last ++ more) ≡ true
  ends-told i s e first last more ends = ap (λ (z : Spelled). ends_number (z.spelling first last ++ more)) e ∙ ends

  number-ends : (i : Inline) → EndsNumber i
  unfolding ends_number spelled_code
  number-ends = by-cases EndsNumber (record {
    text = λ text place before after e is first last more. absurd (cc (sym (text-accepted rules place before after text e).apart ∙ is));
    code = λ text place before after e is first last more. ends-told (Code text) _ (inline_fold.code spelling.inline_step text) first last more refl;
    html = λ text place before after e is first last more.
        let tag = tag-begins rules text (html-accepted rules place before after text e).one_tag in
        ends-told (Html text) _ (inline_fold.html spelling.inline_step text) first last more (ap (λ t. ends_number (t ++ more)) tag.1);
    soft = λ place before after e is first last more. ends-told Soft _ (inline_fold.soft spelling.inline_step) first last more refl;
    hard = λ place before after e is first last more. ends-told Hard _ (inline_fold.hard spelling.inline_step) first last more refl;
    emph = λ is all place before after e text first last more. ends-told (Emph is) _ (inline_fold.emph spelling.inline_step is) first last more refl;
    strong = λ is all place before after e text first last more. ends-told (Strong is) _ (inline_fold.strong spelling.inline_step is) first last more refl;
    strike = λ is all place before after e text first last more. ends-told (Strike is) _ (inline_fold.strike spelling.inline_step is) first last more refl;
    link = λ dest title is all place before after e text first last more. ends-told (Link dest title is) _ (inline_fold.link spelling.inline_step dest title is) first last more refl;
    image = λ dest title is all place before after e text first last more. ends-told (Image dest title is) _ (inline_fold.image spelling.inline_step dest title is) first last more refl;
  })

  -- ---- the first inline of emphasis

  abbrev BeginsInner : Inline → Type 0
  BeginsInner i = (place : Place) (after : Option Face) → Accepted rules place None after i → (judged rules i).has_emphasis ≡ false
      → is_whitespace (first_of (Some (judged rules i).face)) ≡ false → (last : Bool) → StartsInner ((spelled i).spelling false last)

  abbrev inner-told : (i : Inline) (s : Spelled) → spelled i ≡ s → (last : Bool) → StartsInner (s.spelling false last) → StartsInner ((spelled i).spelling false last)
  inner-told i s e last starts = subst (λ (z : Spelled). StartsInner (z.spelling false last)) (sym e) starts

  space-first : (bs : List ℕ) → is_whitespace (first_of (Some (judged rules (Text (32 ∷ bs))).face)) ≡ true
  unfolding chars character_kinds
  space-first [] = ap (λ (j : Judged). is_whitespace (first_of (Some j.face))) (inline_fold.text (refusals.inline_step rules) (32 ∷ []))
  space-first (c ∷ cs) = ap (λ (j : Judged). is_whitespace (first_of (Some j.face))) (inline_fold.text (refusals.inline_step rules) (32 ∷ c ∷ cs))

  first-inner : (last : Bool) (text : List ℕ) → is_empty text ≡ false → is_whitespace (first_of (Some (judged rules (Text text)).face)) ≡ false → StartsInner (spelled_text false last text)
  first-inner last [] some space = absurd (cc some)
  first-inner last (b ∷ bs) some space = text-inner last b bs (go (b == 32) refl)
    where
      -- a space is whitespace
      go : (v : Bool) → (b == 32) ≡ v → (b == 32) ≡ false
      go false p = p
      go true p = absurd (cc (sym (ap (λ c. is_whitespace (first_of (Some (judged rules (Text (c ∷ bs))).face))) (eqb-true b 32 p) ∙ space-first bs) ∙ space))

  begins-inner : (i : Inline) → BeginsInner i
  unfolding spelled_code is_inner
  begins-inner = by-cases BeginsInner (record {
    text = λ text place after e flat space last.
        inner-told (Text text) _ (inline_fold.text spelling.inline_step text) last (first-inner last text (text-accepted rules place None after text e).nonempty space);
    code = λ text place after e flat space last. inner-told (Code text) _ (inline_fold.code spelling.inline_step text) last (starts-with 96 _ refl);
    html = λ text place after e flat space last.
        let tag = tag-begins rules text (html-accepted rules place None after text e).one_tag in
        inner-told (Html text) _ (inline_fold.html spelling.inline_step text) last (subst StartsInner (sym tag.1) (starts-with 60 tag.0 refl));
    soft = λ place after e flat space last. absurd (cc (soft-accepted rules place None after e).beyond);
    hard = λ place after e flat space last. absurd (cc (hard-accepted rules place None after e).beyond);
    emph = λ is all place after e flat space last. absurd (cc (sym (ap (λ (j : Judged). j.has_emphasis) (inline_fold.emph (refusals.inline_step rules) is)) ∙ flat));
    strong = λ is all place after e flat space last. absurd (cc (sym (ap (λ (j : Judged). j.has_emphasis) (inline_fold.strong (refusals.inline_step rules) is)) ∙ flat));
    strike = λ is all place after e flat space last. absurd (cc (sym (ap (λ (j : Judged). j.has_emphasis) (inline_fold.strike (refusals.inline_step rules) is)) ∙ flat));
    link = λ dest title is all place after e flat space last. inner-told (Link dest title is) _ (inline_fold.link spelling.inline_step dest title is) last
        (starts-with 91 _ refl);
    image = λ dest title is all place after e flat space last. inner-told (Image dest title is) _ (inline_fold.image spelling.inline_step dest title is) last
        (starts-with 33 _ refl);
  })

  -- the content of emphasis that isn't refused
  content-inner : (strike : Bool) (is : List Inline) (place : Place) (before after : Option Face) → EmphasisAccepted rules strike (map (judged rules) is) place before after
      → StartsInner (join false false (map spelled is))
  content-inner strike is place before after e = go is (ones is e.edge).0 (ones is e.edge).1 e.flat e.inside
    where
      ones : (is : List Inline) → has_wrong_edge rules before (map (judged rules) is) after ≡ false
          → (is_none (first_face (map (judged rules) is)) ≡ false) × (is_whitespace (first_of (first_face (map (judged rules) is))) ≡ false)
      ones is e =
          let c = map (judged rules) is in
          let a = is_none (first_face c) in
          let b = is_whitespace (first_of (first_face c)) in
          let m = is_plain rules (last_of before) && not (is_plain rules (first_of (first_face c))) in
          let n = is_whitespace (last_of (last_face c)) in
          let o = is_plain rules (first_of after) && not (is_plain rules (last_of (last_face c))) in
          or_parts a b (or_parts (a || b) m (or_parts (a || b || m) n (or_parts (a || b || m || n) o e).0).0).0

      go : (is : List Inline) → is_none (first_face (map (judged rules) is)) ≡ false → is_whitespace (first_of (first_face (map (judged rules) is))) ≡ false
          → hold_emphasis (map (judged rules) is) ≡ false → refusal_of_all (further_in place) None (map (judged rules) is) ≡ None → StartsInner (join false false (map spelled is))
      go [] some space flat inside = absurd (cc some)
      go (i ∷ is) some space flat inside =
          inner-more ((spelled i).spelling false (is_line_end false (map spelled is))) (join (spelled i).begins_line false (map spelled is))
          (begins-inner i (further_in place) (first_face (map (judged rules) is)) (or-none ((judged rules i).refusal (further_in place) None (first_face (map (judged rules) is))) _ inside).0
          (or_parts (judged rules i).has_emphasis (hold_emphasis (map (judged rules) is)) flat).0 space (is_line_end false (map spelled is)))

  -- ---- lines of contents

  abbrev Fronts : Inline → Type 0
  Fronts i = (place : Place) (before after : Option Face) → Accepted rules place before after i → (first last : Bool) → FirstIs first place before → (more : List ℕ)
      → (is_text (Some (judged rules i).face) ≡ true → ends_number more ≡ true) → LinesBegin (spelled i).begins_line more
      → LinesBegin first ((spelled i).spelling first last ++ more)

  content-fronts : (i : Inline) (is : List Inline) → Fronts i → AllHold Fronts is → (place : Place) (before : Option Face)
      → refusal_of_all place before (map (judged rules) (i ∷ is)) ≡ None → (first last : Bool) → FirstIs first place before → (more : List ℕ)
      → ends_number more ≡ true → LinesBegin false more → LinesBegin first (join first last (map spelled (i ∷ is)) ++ more)
  unfolding AllHold
  content-fronts i [] here all place before e first last front more ends begin =
      let accepted = (or-none ((judged rules i).refusal place before None) None e).0 in
      subst (λ t. LinesBegin first (t ++ more)) (sym (append-nil ((spelled i).spelling first last)))
      (here place before None accepted first last front more (λ is. ends)
      (subst (λ v. LinesBegin v more) (sym (same-break i ∙ not-last i place before accepted)) begin))
  content-fronts i (j ∷ js) here all place before e first last front more ends begin =
      let face = Some (judged rules i).face in
      let parts = or-none ((judged rules i).refusal place before (Some (judged rules j).face)) (refusal_of_all (further_in place) face (map (judged rules) (j ∷ js))) e in
      let next = or-none ((judged rules j).refusal (further_in place) face (first_face (map (judged rules) js))) _ parts.1 in
      let line_end = is_line_end last (map spelled (j ∷ js)) in
      let further = join (spelled i).begins_line last (map spelled (j ∷ js)) in
      let beyond = join (spelled j).begins_line last (map spelled js) in
      let next_end = is_line_end last (map spelled js) in
      subst (LinesBegin first) (sym (append_assoc ((spelled i).spelling first line_end) further more))
      (here place before (Some (judged rules j).face) parts.0 first line_end front (further ++ more)
      (λ is. ap ends_number (append_assoc ((spelled j).spelling (spelled i).begins_line next_end) beyond more)
      ∙ number-ends j (further_in place) face (first_face (map (judged rules) js)) next.0 is (spelled i).begins_line next_end (beyond ++ more))
      (content-fronts j js all.0 all.1 (further_in place) face parts.1 (spelled i).begins_line last (λ b. inr (sym (same-break i) ∙ b)) more ends begin))

  -- stars, tildes or a bracket around a content
  round-front : (first last : Bool) (start close : List ℕ) (is : List Inline) → is_empty start ≡ false → list_all is_line_byte start ≡ true → list_all is_line_byte close ≡ true
      → AllHold Fronts is → (place : Place) → refusal_of_all place None (map (judged rules) is) ≡ None → (more : List ℕ)
      → ends_number (close ++ more) ≡ true → (first ≡ true → Front (start ++ (join false false (map spelled is) ++ (close ++ more)))) → LinesBegin false more
      → LinesBegin first ((between start (map spelled is) close).spelling first last ++ more)
  unfolding AllHold
  round-front first last start close is some s c all place inside more ends front begin =
      let content = join false false (map spelled is) in
      subst (LinesBegin first) (sym (append_assoc (start ++ content) close more ∙ append_assoc start content (close ++ more)))
      (begin-with first start (content ++ (close ++ more)) some s front (go is all inside))
    where
      go : (is : List Inline) → AllHold Fronts is → refusal_of_all place None (map (judged rules) is) ≡ None → LinesBegin false (join false false (map spelled is) ++ (close ++ more))
      go [] all inside = lines-inside close more c begin
      go (i ∷ is) all inside = content-fronts i is all.0 all.1 place None inside false false (false-not-first place None) (close ++ more) ends (lines-inside close more c begin)

  abbrev front-told : (i : Inline) (s : Spelled) → spelled i ≡ s → (first last : Bool) (more : List ℕ) → LinesBegin (spelled i).begins_line more
      → (LinesBegin s.begins_line more → LinesBegin first (s.spelling first last ++ more)) → LinesBegin first ((spelled i).spelling first last ++ more)
  front-told i s e first last more begin goes =
      subst (λ (z : Spelled). LinesBegin first (z.spelling first last ++ more)) (sym e) (goes (subst (λ (z : Spelled). LinesBegin z.begins_line more) e begin))

  -- no line starts with raw HTML, nor with a break
  not-first : (place : Place) (before : Option Face) → (place.opens_paragraph ≡ true → before ≡ None → ⊥) → is_break before ≡ false → (first : Bool) → FirstIs first place before → first ≡ false
  not-first place before apart broken false front = refl
  not-first place before apart broken true front = go (front refl)
    where
      go : ((place.opens_paragraph ≡ true) × (before ≡ None)) ⊎ (is_break before ≡ true) → true ≡ false
      go (inl both) = absurd (apart both.0 both.1)
      go (inr is) = absurd (cc (is, broken))

  text-begins : (first last : Bool) (text more : List ℕ) → is_empty text ≡ false → ends_number more ≡ true → LinesBegin false more → LinesBegin first (spelled_text first last text ++ more)
  unfolding spelled_text
  text-begins first last [] more some ends begin = absurd (cc some)
  text-begins first last (b ∷ bs) more some ends begin = go first
    where
      filled : (at_edge : Bool) → is_empty (edge_byte at_edge b ++ spelled_text false last bs) ≡ false
      filled at_edge = spelling-filled b (edge_byte at_edge b) (spells_edge at_edge b) (spelled_text false last bs)

      go : (first : Bool) → LinesBegin first (spelled_text first last (b ∷ bs) ++ more)
      go true = begin-with true (spelled_text true last (b ∷ bs)) more (filled true) (text-is-line true last (b ∷ bs)) (λ e. text-front last b bs more ends) begin
      go false = begin-with false (spelled_text false last (b ∷ bs)) more (filled (last && is_empty bs)) (text-is-line false last (b ∷ bs)) (λ e. absurd (cc e)) begin

  stars-front : (first last : Bool) (strike : Bool) (is : List Inline) (place : Place) (before after : Option Face) → EmphasisAccepted rules strike (map (judged rules) is) place before after
      → AllHold Fronts is → (marks : List ℕ) → is_empty marks ≡ false → list_all is_line_byte marks ≡ true → (more : List ℕ) → ends_number (marks ++ more) ≡ true
      → ((b : ℕ) (rest : List ℕ) → is_inner b ≡ true → Front (marks ++ b ∷ rest)) → LinesBegin false more
      → LinesBegin first ((between marks (map spelled is) marks).spelling first last ++ more)
  stars-front first last strike is place before after a all marks some line more ends front begin =
      let s = content-inner strike is place before after a in
      round-front first last marks marks is some line line all (further_in place) a.inside more ends
      (λ e. subst (λ t. Front (marks ++ (t ++ (marks ++ more)))) (sym s.is) (front s.byte (s.rest ++ (marks ++ more)) s.inner)) begin

  fronts : Cases Fronts
  unfolding ends_number is_line_byte LinesBegin spelled_target spelled_code is_quiet
  fronts = record {
    text = λ text place before after e first last front more ends begin. front-told (Text text) _ (inline_fold.text spelling.inline_step text) first last more begin
        (text-begins first last text more (text-accepted rules place before after text e).nonempty (ends (ap (λ (j : Judged). is_text (Some j.face)) (inline_fold.text (refusals.inline_step rules) text))));
    code = λ text place before after e first last front more ends begin.
        let a = code-accepted rules place before after text e in
        let line = one-line text a.no_nul a.one_line in
        front-told (Code text) _ (inline_fold.code spelling.inline_step text) first last more begin
        (begin-with first (spelled_code text) more refl (code-is-line text line) (λ is. code-front text a.nonempty line more));
    html = λ text place before after e first last front more ends begin.
        let a = html-accepted rules place before after text e in
        let inside = not-first place before (λ opens none. cc (opens, a.not_first)) a.no_break first front in
        front-told (Html text) _ (inline_fold.html spelling.inline_step text) first last more begin
        (λ rest. subst (λ v. LinesBegin v (text ++ more)) (sym inside) (lines-inside text more (one-line text a.no_nul a.one_line) rest));
    soft = λ place before after e first last front more ends begin.
        let a = soft-accepted rules place before after e in
        let inside = not-first place before (λ opens none. cc (ap is_none none, a.beyond)) a.apart first front in
        front-told Soft _ (inline_fold.soft spelling.inline_step) first last more begin (λ rest. subst (λ v. LinesBegin v (10 ∷ more)) (sym inside) ((λ (h : false ≡ true). absurd (cc h)), rest));
    hard = λ place before after e first last front more ends begin.
        let a = hard-accepted rules place before after e in
        let inside = not-first place before (λ opens none. cc (ap is_none none, a.beyond)) a.apart first front in
        front-told Hard _ (inline_fold.hard spelling.inline_step) first last more begin
        (λ rest. subst (λ v. LinesBegin v (92 ∷ 10 ∷ more)) (sym inside) ((λ (h : false ≡ true). absurd (cc h)), ((λ (h : false ≡ true). absurd (cc h)), rest)));
    emph = λ is all place before after e first last front more ends begin. front-told (Emph is) _ (inline_fold.emph spelling.inline_step is) first last more begin
        (stars-front first last false is place before after (emph-accepted rules place before after is e) all (codes "*") refl refl more refl (λ b rest inner. one_star b rest inner));
    strong = λ is all place before after e first last front more ends begin. front-told (Strong is) _ (inline_fold.strong spelling.inline_step is) first last more begin
        (stars-front first last false is place before after (strong-accepted rules place before after is e) all (codes "**") refl refl more refl (λ b rest inner. two_stars b rest inner));
    strike = λ is all place before after e first last front more ends begin. front-told (Strike is) _ (inline_fold.strike spelling.inline_step is) first last more begin
        (stars-front first last true is place before after (strike-accepted rules place before after is e) all (codes "~~") refl refl more refl (λ b rest inner. two_tildes b rest inner));
    link = λ dest title is all place before after e first last front more ends begin. front-told (Link dest title is) _ (inline_fold.link spelling.inline_step dest title is) first last more begin
        (round-front first last (codes "[") (spelled_target dest title) is refl refl (target-is-line dest title) all (inside_link place) (link-accepted rules place before after dest title is e).inside more refl
        (λ h. quiet 91 _ refl refl));
    image = λ dest title is all place before after e first last front more ends begin. front-told (Image dest title is) _ (inline_fold.image spelling.inline_step dest title is) first last more begin
        (round-front first last (codes "![") (spelled_target dest title) is refl refl (target-is-line dest title) all (further_in place) (image-accepted rules place before after dest title is e).inside more refl
        (λ h. quiet 33 _ refl refl));
  }

  -- the lines of a paragraph's content
  pub paragraph-lines : (i : Inline) (is : List Inline) (place : Place) → place.opens_paragraph ≡ true → refusal_of_all place None (map (judged rules) (i ∷ is)) ≡ None
      → LinesBegin true (join true true (map spelled (i ∷ is)))
  unfolding LinesBegin ends_number AllHold
  paragraph-lines i is place opens e =
      let all = all-by-cases Fronts fronts (i ∷ is) in
      subst (LinesBegin true) (append-nil (join true true (map spelled (i ∷ is))))
      (content-fronts i is all.0 all.1 place None e true true (λ h. inl (opens, refl)) [] refl refl)
