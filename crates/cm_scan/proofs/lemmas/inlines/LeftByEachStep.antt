-- What each step of the reading of inlines leaves of its source, and how long the runs are that it reads.
use Rattle.std.proofs.Common.{◌≡◌, ℕ, zero, suc, ◌+◌, Bool, true, false, not, ◌&&◌, ◌||◌, ◌==◌, List, [], ◌∷◌, ◌++◌, length, drop, Option, Some, None, codes, refl, sym, ap, subst, ◌∙◌, ◌≤◌, arith, append_assoc, length-append, inl, inr}
use Rattle.std.proofs.lemmas.List.Sums.{sum_by-cons}
use Rattle.std.specs.Prelude.{nat_le, replicate, encode_utf8_all, if◌then◌else◌}
use Rattle.std.specs.Str.Parse.{digits_value}
use Rattle.std.specs.Int.{is_in_range}
use Rattle.std.specs.Char.{is_ascii_control}
use Rattle.std.proofs.lemmas.Bool.{eqb-true}
use Rattle.std.proofs.lemmas.Bool.Decides.{nat_tests}
use Rattle.std.specs.Option.{option_map}
use Rattle.cm_text.specs.Rules.{Rules}
use Rattle.cm_text.specs.Addresses.{is_followed}
use Rattle.cm_text.specs.Characters.{is_ascii_punct}
use Rattle.cm_text.specs.NamedReferences.{names}
use Rattle.cm_text.specs.References.{numbered, numbered_character, entry, named, between, decimal_reference, hexadecimal_reference, entity_reference, first_of_all, reference}
use Rattle.cm_text.specs.Unescaping.{escape, unescape}
use Rattle.cm_tree.specs.Definitions.{Target}
use Rattle.cm_tree.specs.declared.tree.Inline.TheVariants.{Code, Html, Soft, Hard}
use Rattle.cm_scan.specs.Words.{run_length, after_run, skip, front_of, after_word, given, ◌<|>◌, ◌and_then◌}
use Rattle.cm_scan.specs.spans.Tags.{is_blank_next, after_gap}
use Rattle.cm_scan.specs.inlines.Links.{Reading, beyond, keep_if, escapes_next, up_to_closing, opened_by, bare_run, is_label, label, is_filled, destination, has_no_blank_line, title_in, title}
use Rattle.cm_scan.specs.spans.CodeSpans.{up_to_run, code_span, span_content}
use Rattle.cm_scan.specs.spans.Autolinks.{Autolink, is_inside, in_angles, is_absolute, is_address, as_autolink, autolink, followed_autolink}
use Rattle.cm_scan.specs.spans.RawHtml.{raw_html}
use Rattle.cm_scan.specs.spans.Angles.{Angled, Addressed, Tagged, at_angle}
use Rattle.cm_scan.specs.inlines.Delimiters.{Run}
use Rattle.cm_scan.specs.inlines.Atoms.{Atom, AtomRead, Plain, Whole, Delimiter, OpenBracket, CloseBracket, read, link_of, backtick_atom, angle_atom, backslash_atom, reference_atom, break_atom, run_between, run_atom, tilde_atom, bang_atom, is_markup, markup_atom, byte_atom, or_byte, atom_at}
use Rattle.cm_scan.specs.inlines.Pairing.{Item}
use Rattle.cm_scan.specs.inlines.Brackets.{LinkEnd, Defined, closed, after_destination, inline_end, target_of, target_between, link_end, collapsed_or_shortcut, reference_end, end_if_followed, end_at, OpenerFound, last_opener, holds_link, made, Bracketed, bracket_is_text, brackets_are_text, source_up_to, closed_by_bracket, close_bracket}
use Rattle.cm_scan.specs.inlines.Inlines.{add_atom, item_step}
use Rattle.cm_scan.specs.laws.InlineLaws.{StepLeavesAnEnd}
use Rattle.cm_scan.specs.inlines.DelimiterRuns.{run_in, characters_of}
use Rattle.cm_scan.specs.steps.SpanSteps.{link_if_followed, ended, tagged, spanned}
use Rattle.cm_scan.proofs.lemmas.texts.WordsGoOn.{none-some}
use Rattle.cm_scan.proofs.lemmas.texts.EndsOfTexts.{IsEnd, whole-end, same-left, beyond-byte, end-of-end, end-beyond-one, drop-end, word-end, skip-end, run-end, gap-end}
use Rattle.cm_scan.specs.laws.CutLaws.{IsTail}
use Rattle.cm_scan.proofs.lemmas.spans.RawHtmlGoesOn.{word-front}
use Rattle.cm_scan.proofs.lemmas.spans.RawHtmlEnds.{raw_html-ends}

-- what was read, where something was
some-is : {A : Type 0} {a b : A} → Some a ≡ Some b → a ≡ b
some-is {A} {a} e = ap (λ (o : Option A). elim o as (λ _. A) [ None ↦ a | Some c ↦ c ]) e

-- a part of a text between two bytes, and what is left after it
record Between (first last : ℕ) (rest text : List ℕ) : Type 0 where
  pub inside : List ℕ
  pub is : text ≡ first ∷ (inside ++ last ∷ rest)

between-ends : (first last : ℕ) (bs rest text : List ℕ) → text ≡ first ∷ bs → IsEnd (last ∷ rest) bs → Between first last rest text
between-ends first last bs rest text e h = record { inside = h.front; is = e ∙ ap (λ t. first ∷ t) h.is }

-- Readings

beyond-end : (b : ℕ) (bs : List ℕ) (o : Option Reading) (r : Reading) → beyond b o ≡ Some r → ((s : Reading) → o ≡ Some s → IsEnd s.rest bs) → IsEnd r.rest (b ∷ bs)
beyond-end b bs None r e k = none-some e
beyond-end b bs (Some s) r e k = same-left s.rest r.rest (ap (λ (t : Reading). t.rest) (some-is e)) (beyond-byte b bs (k s refl))

given-is : {A : Type 0} (test : Bool) (a b : A) → given test a ≡ Some b → a ≡ b
given-is true a b e = some-is e
given-is false a b e = none-some e

kept-is : (test : Reading → Bool) (o : Option Reading) (r : Reading) → keep_if test o ≡ Some r → o ≡ Some r
kept-is test None r e = none-some e
kept-is test (Some s) r e = ap (λ (t : Reading). Some t) (given-is (test s) s r e)

-- what is left after the byte that closes it
record Closed (closes : ℕ → Bool) (rest text : List ℕ) : Type 0 where
  pub last : ℕ
  pub passes : closes last ≡ true
  pub end : IsEnd (last ∷ rest) text

beyond-last : (closes : ℕ → Bool) (b : ℕ) (bs : List ℕ) (o : Option Reading) (r : Reading) → beyond b o ≡ Some r
    → ((s : Reading) → o ≡ Some s → Closed closes s.rest bs) → Closed closes r.rest (b ∷ bs)
beyond-last closes b bs None r e k = none-some e
beyond-last closes b bs (Some s) r e k =
    let c = k s refl in
    subst (λ (t : Reading). Closed closes t.rest (b ∷ bs)) (some-is e) (record {
      last = c.last;
      passes = c.passes;
      end = beyond-byte b bs c.end;
    })

closed_by-last : (closes forbidden : ℕ → Bool) (escaped : Bool) (text : List ℕ) (r : Reading)
    → up_to_closing closes forbidden escaped text ≡ Some r → Closed closes r.rest text
unfolding up_to_closing
closed_by-last closes forbidden escaped [] r e = none-some e
closed_by-last closes forbidden true (b ∷ bs) r e =
    beyond-last closes b bs (up_to_closing closes forbidden false bs) r e (λ s h. closed_by-last closes forbidden false bs s h)
closed_by-last closes forbidden false (b ∷ bs) r e =
    go (closes b) refl (forbidden b) e (λ s h. closed_by-last closes forbidden (escapes_next b bs) bs s h)
  where
    inside : Option Reading
    inside = up_to_closing closes forbidden (escapes_next b bs) bs

    go : (last : Bool) → closes b ≡ last → (barred : Bool)
        → elim last as (λ _. Option Reading) [
          | true ↦ Some (record {
            text = [];
            rest = bs;
          })
          | false ↦ elim barred as (λ _. Option Reading) [ true ↦ None | false ↦ beyond b inside ]
        ] ≡ Some r
        → ((s : Reading) → inside ≡ Some s → Closed closes s.rest bs) → Closed closes r.rest (b ∷ bs)
    go true h barred e k =
        subst (λ (t : Reading). Closed closes t.rest (b ∷ bs)) (some-is e) (record { last = b; passes = h; end = whole-end (b ∷ bs) })
    go false h true e k = none-some e
    go false h false e k = beyond-last closes b bs inside r e k

closed_by-end : (closes forbidden : ℕ → Bool) (escaped : Bool) (text : List ℕ) (r : Reading)
    → up_to_closing closes forbidden escaped text ≡ Some r → IsEnd r.rest text
closed_by-end closes forbidden escaped text r e =
    let c = closed_by-last closes forbidden escaped text r e in end-of-end c.end (beyond-byte c.last r.rest (whole-end r.rest))

bare-end : (opened : ℕ) (escaped : Bool) (text : List ℕ) (r : Reading) → bare_run opened escaped text ≡ Some r → IsEnd r.rest text
unfolding bare_run
bare-end opened escaped [] r e = same-left [] r.rest (ap (λ (t : Reading). t.rest) (given-is (opened == 0) _ r e)) (whole-end [])
bare-end opened true (b ∷ bs) r e = beyond-end b bs (bare_run opened false bs) r e (λ s h. bare-end opened false bs s h)
bare-end opened false (b ∷ bs) r e =
    go (b == 32 || is_ascii_control b || (b == 41 && opened == 0)) (b == 40 && opened == 32) e (λ s h. bare-end (opened_by opened b) (escapes_next b bs) bs s h)
  where
    inside : Option Reading
    inside = bare_run (opened_by opened b) (escapes_next b bs) bs

    go : (last deep : Bool) → elim last as (λ _. Option Reading) [
      | true ↦ given (opened == 0) (record { text = []; rest = b ∷ bs })
      | false ↦ elim deep as (λ _. Option Reading) [ true ↦ None | false ↦ beyond b inside ]
    ] ≡ Some r → ((s : Reading) → inside ≡ Some s → IsEnd s.rest bs) → IsEnd r.rest (b ∷ bs)
    go true deep e k = same-left (b ∷ bs) r.rest (ap (λ (t : Reading). t.rest) (given-is (opened == 0) _ r e)) (whole-end (b ∷ bs))
    go false true e k = none-some e
    go false false e k = beyond-end b bs inside r e k

-- a label between its brackets
label-between : (text : List ℕ) (r : Reading) → label text ≡ Some r → Between 91 93 r.rest text
unfolding label
label-between [] r e = none-some e
label-between (b ∷ bs) r e = go (b == 91) refl e
  where
    inside : Option Reading
    inside = up_to_closing (λ c. c == 93) (λ c. c == 91) false bs

    go : (next : Bool) → (b == 91) ≡ next → elim next as (λ _. Option Reading) [ true ↦ keep_if is_label inside | false ↦ None ] ≡ Some r
        → Between 91 93 r.rest (b ∷ bs)
    go true h e =
        let c = closed_by-last (λ c. c == 93) (λ c. c == 91) false bs r (kept-is is_label inside r e) in
        between-ends 91 93 bs r.rest (b ∷ bs) (ap (λ x. x ∷ bs) (eqb-true b 91 h))
        (same-left (c.last ∷ r.rest) (93 ∷ r.rest) (ap (λ x. x ∷ r.rest) (eqb-true c.last 93 c.passes)) c.end)
    go false h e = none-some e

destination-end : (text : List ℕ) (r : Reading) → destination text ≡ Some r → IsEnd r.rest text
unfolding destination
destination-end [] r e = none-some e
destination-end (b ∷ bs) r e = go (b == 60) e
  where
    angled : Option Reading
    angled = up_to_closing (λ c. c == 62) (λ c. c == 60 || c == 10) false bs

    bare : Option Reading
    bare = bare_run 0 false (b ∷ bs)

    go : (next : Bool) → elim next as (λ _. Option Reading) [ true ↦ angled | false ↦ keep_if is_filled bare ] ≡ Some r → IsEnd r.rest (b ∷ bs)
    go true e = beyond-byte b bs (closed_by-end (λ c. c == 62) (λ c. c == 60 || c == 10) false bs r e)
    go false e = bare-end 0 false (b ∷ bs) r (kept-is is_filled bare r e)

title-end : (text : List ℕ) (r : Reading) → title text ≡ Some r → IsEnd r.rest text
unfolding title title_in
title-end [] r e = none-some e
title-end (b ∷ bs) r e = beyond-byte b bs (go (b == 34) (b == 39) (b == 40) (kept-is has_no_blank_line (title_in b bs) r e))
  where
    go : (double single parenthesis : Bool) → (if double then up_to_closing (λ c. c == 34) (λ c. false) false bs
        else (if single then up_to_closing (λ c. c == 39) (λ c. false) false bs
        else (if parenthesis then up_to_closing (λ c. c == 41) (λ c. c == 40) false bs else None))) ≡ Some r → IsEnd r.rest bs
    go true single parenthesis e = closed_by-end (λ c. c == 34) (λ c. false) false bs r e
    go false true parenthesis e = closed_by-end (λ c. c == 39) (λ c. false) false bs r e
    go false false true e = closed_by-end (λ c. c == 41) (λ c. c == 40) false bs r e
    go false false false e = none-some e

-- The ends of links and images

closed-end : (dest title text : List ℕ) (end : LinkEnd) → closed dest title text ≡ Some end → IsEnd (41 ∷ end.rest) text
closed-end dest title text end e = go (after_word (codes ")") (after_gap text)) refl e
  where
    go : (o : Option (List ℕ)) → after_word (codes ")") (after_gap text) ≡ o
        → option_map (link_end (unescape dest, unescape title)) o ≡ Some end → IsEnd (41 ∷ end.rest) text
    go None f e = none-some e
    go (Some rest) f e =
        same-left (after_gap text) (41 ∷ end.rest) (word-front (codes ")") (after_gap text) rest f
        ∙ ap (λ (t : LinkEnd). 41 ∷ t.rest) (some-is e)) (gap-end text)

after_destination-end : (dest text : List ℕ) (end : LinkEnd) → after_destination dest text ≡ Some end → IsEnd (41 ∷ end.rest) text
unfolding after_destination
after_destination-end dest text end e = go (is_blank_next text) (title (after_gap text)) refl e
  where
    go : (blank : Bool) (o : Option Reading) → title (after_gap text) ≡ o → elim blank as (λ _. Option LinkEnd) [
      | true ↦ elim o as (λ _. Option LinkEnd) [ Some t ↦ closed dest t.text t.rest | None ↦ closed dest [] text ]
      | false ↦ closed dest [] text
    ] ≡ Some end → IsEnd (41 ∷ end.rest) text
    go true (Some t) f e = end-of-end (end-of-end (gap-end text) (title-end (after_gap text) t f)) (closed-end dest t.text t.rest end e)
    go true None f e = closed-end dest [] text end e
    go false o f e = closed-end dest [] text end e

inline_end-between : (text : List ℕ) (end : LinkEnd) → inline_end text ≡ Some end → Between 40 41 end.rest text
unfolding inline_end
inline_end-between text end e = go (after_word (codes "(") text) refl e
  where
    in_parentheses : List ℕ → Option Reading → Option LinkEnd
    in_parentheses inside o = elim o as (λ _. Option LinkEnd) [ Some d ↦ after_destination d.text d.rest | None ↦ closed [] [] inside ]

    go : (o : Option (List ℕ)) → after_word (codes "(") text ≡ o
        → (o and_then λ inside. in_parentheses inside (destination (after_gap inside))) ≡ Some end → Between 40 41 end.rest text
    go None f e = none-some e
    go (Some inside) f e =
        between-ends 40 41 inside end.rest text (word-front (codes "(") text inside f) (by (destination (after_gap inside)) refl e)
      where
        by : (o : Option Reading) → destination (after_gap inside) ≡ o → in_parentheses inside o ≡ Some end → IsEnd (41 ∷ end.rest) inside
        by (Some d) g e = end-of-end (end-of-end (gap-end inside) (destination-end (after_gap inside) d g)) (after_destination-end d.text d.rest end e)
        by None g e = closed-end [] [] inside end e

-- what follows the `]`, with what is left
pub record Tailed (rest text : List ℕ) : Type 0 where
  pub tail : List ℕ
  pub is : text ≡ tail ++ rest
  pub law : IsTail tail

parenthesised : (rest text : List ℕ) → Between 40 41 rest text → Tailed rest text
parenthesised rest text w =
    record {
      tail = 40 ∷ (w.inside ++ 41 ∷ []);
      is = w.is ∙ ap (λ t. 40 ∷ t) (sym (append_assoc w.inside (41 ∷ []) rest));
      law = inr (inl (w.inside, refl));
    }

in-brackets : (rest text : List ℕ) → Between 91 93 rest text → Tailed rest text
in-brackets rest text w =
    record {
      tail = 91 ∷ (w.inside ++ 93 ∷ []);
      is = w.is ∙ ap (λ t. 91 ∷ t) (sym (append_assoc w.inside (93 ∷ []) rest));
      law = inr (inr (w.inside, refl));
    }

left-as : (text a b : List ℕ) → a ≡ b → Tailed a text → Tailed b text
left-as text a b e w = subst (λ t. Tailed t text) e w

reference_end-tail : (defined : Defined) (source text : List ℕ) (end : LinkEnd) → reference_end defined source text ≡ Some end
    → Tailed end.rest text
unfolding reference_end
reference_end-tail defined source text end e = go (label text) refl e
  where
    full : Reading → Option LinkEnd
    full l = elim (target_of defined l.text) [ Some target ↦ Some (link_end target l.rest) | None ↦ None ]

    full-tail : (l : Reading) → full l ≡ Some end → Tailed l.rest text → Tailed end.rest text
    full-tail l e h = by (target_of defined l.text) e
      where
        by : (o : Option Target) → elim o as (λ _. Option LinkEnd) [ Some target ↦ Some (link_end target l.rest) | None ↦ None ] ≡ Some end
            → Tailed end.rest text
        by None e = none-some e
        by (Some target) e = left-as text l.rest end.rest (ap (λ (t : LinkEnd). t.rest) (some-is e)) h

    other : (o : Option Target) → collapsed_or_shortcut o text ≡ Some end → Tailed end.rest text
    other None e = none-some e
    other (Some target) e = by (after_word (codes "[]") text) refl e
      where
        by : (next : Option (List ℕ)) → after_word (codes "[]") text ≡ next
            → elim next as (λ _. Option LinkEnd)
            [ Some rest ↦ Some (link_end target rest) | None ↦ Some (link_end target text) ] ≡ Some end → Tailed end.rest text
        by (Some rest) f e =
            left-as text rest end.rest (ap (λ (t : LinkEnd). t.rest) (some-is e)) (in-brackets rest text (record {
              inside = [];
              is = word-front (codes "[]") text rest f;
            }))
        by None f e =
            left-as text text end.rest (ap (λ (t : LinkEnd). t.rest) (some-is e)) (record { tail = []; is = refl; law = inl refl })

    go : (o : Option Reading) → label text ≡ o
        → elim o as (λ _. Option LinkEnd)
        [ Some l ↦ full l | None ↦ collapsed_or_shortcut (target_between defined source) text ] ≡ Some end → Tailed end.rest text
    go (Some l) f e = full-tail l e (in-brackets l.rest text (label-between text l f))
    go None f e = other (target_between defined source) e

pub end_at-tail : (rules : Rules) (defined : Defined) (source text : List ℕ) (end : LinkEnd) → end_at rules defined source text ≡ Some end
    → Tailed end.rest text
unfolding end_at
end_at-tail rules defined source text end e = go (end_if_followed rules (inline_end text)) refl e
  where
    followed : (o : Option LinkEnd) (found : LinkEnd) → end_if_followed rules o ≡ Some found → o ≡ Some found
    followed None found f = none-some f
    followed (Some other) found f = by (is_followed rules other.dest) f
      where
        by : (t : Bool) → given t other ≡ Some found → Some other ≡ Some found
        by true f = f
        by false f = none-some f

    go : (o : Option LinkEnd) → end_if_followed rules (inline_end text) ≡ o
        → (o <|> end_if_followed rules (reference_end defined source text)) ≡ Some end → Tailed end.rest text
    go (Some found) f e =
        left-as text found.rest end.rest (ap (λ (t : LinkEnd). t.rest) (some-is e))
        (parenthesised found.rest text (inline_end-between text found (followed (inline_end text) found f)))
    go None f e = reference_end-tail defined source text end (followed (reference_end defined source text) end e)

pub end_at-end : (rules : Rules) (defined : Defined) (source text : List ℕ) (end : LinkEnd) → end_at rules defined source text ≡ Some end
    → IsEnd end.rest text
end_at-end rules defined source text end e = let t = end_at-tail rules defined source text end e in record { front = t.tail; is = t.is }

by_bracket-end : (rules : Rules) (defined : Defined) (found : OpenerFound) (rest : List ℕ) → IsEnd (closed_by_bracket rules defined found rest).rest rest
unfolding closed_by_bracket
by_bracket-end rules defined found rest = go (not found.image && holds_link found.inside) (end_at rules defined source rest) refl
  where
    source : List ℕ
    source = source_up_to found.source (93 ∷ rest)

    as_text : Bracketed
    as_text = record { items = brackets_are_text found; rest = rest }

    go : (barred : Bool) (o : Option LinkEnd) → end_at rules defined source rest ≡ o → IsEnd (elim barred as (λ _. Bracketed) [
      | true ↦ as_text
      | false ↦ elim o as (λ _. Bracketed) [ Some end ↦ record { items = made found.image end.dest end.title found.inside ∷ found.before; rest = end.rest } | None ↦ as_text ]
    ]).rest rest
    go true o f = whole-end rest
    go false None f = whole-end rest
    go false (Some end) f = end_at-end rules defined source rest end f

bracket-end : (rules : Rules) (defined : Defined) (items : List Item) (rest : List ℕ) → IsEnd (close_bracket rules defined items rest).rest rest
unfolding close_bracket
bracket-end rules defined items rest = go (last_opener items [])
  where
    go : (o : Option OpenerFound) → IsEnd (elim o as (λ _. Bracketed) [ Some found ↦ closed_by_bracket rules defined found rest | None ↦ record { items = bracket_is_text items; rest = rest } ]).rest rest
    go (Some found) = by_bracket-end rules defined found rest
    go None = whole-end rest

-- Atoms: what they leave is an end of the source after its first byte

-- a word of a byte or more
word-beyond : (w : ℕ) (ws : List ℕ) (b : ℕ) (bs rest : List ℕ) → after_word (w ∷ ws) (b ∷ bs) ≡ Some rest → IsEnd rest bs
unfolding after_word
word-beyond w ws b bs rest e = go (b == w) e
  where
    go : (c : Bool) → elim c as (λ _. Option (List ℕ)) [ true ↦ after_word ws bs | false ↦ None ] ≡ Some rest → IsEnd rest bs
    go true e = word-end ws bs rest e
    go false e = none-some e

-- a run of the first byte
run-beyond : (marker b : ℕ) (bs : List ℕ) → (b == marker) ≡ true → IsEnd (after_run marker (b ∷ bs)) bs
unfolding after_run
run-beyond marker b bs e = go (b == marker) e
  where
    go : (c : Bool) → c ≡ true → IsEnd (elim c as (λ _. List ℕ) [ true ↦ after_run marker bs | false ↦ b ∷ bs ]) bs
    go true e = run-end marker bs
    go false e = absurd (cc e)

up_to-end : (n : ℕ) (in_run : Bool) (text : List ℕ) (r : Reading) → up_to_run n in_run text ≡ Some r → IsEnd r.rest text
unfolding up_to_run
up_to-end n in_run [] r e = none-some e
up_to-end n in_run (b ∷ bs) r e = go (b == 96 && not in_run && run_length 96 (b ∷ bs) == n) e (λ s h. up_to-end n (b == 96) bs s h)
  where
    inside : Option Reading
    inside = up_to_run n (b == 96) bs

    go : (c : Bool) → elim c as (λ _. Option Reading) [ true ↦ Some (record { text = []; rest = after_run 96 (b ∷ bs) }) | false ↦ beyond b inside ] ≡ Some r
        → ((s : Reading) → inside ≡ Some s → IsEnd s.rest bs) → IsEnd r.rest (b ∷ bs)
    go true e k = same-left (after_run 96 (b ∷ bs)) r.rest (ap (λ (t : Reading). t.rest) (some-is e)) (run-end 96 (b ∷ bs))
    go false e k = beyond-end b bs inside r e k

spanned-end : (n : ℕ) (text : List ℕ) (r : Reading) → spanned n text ≡ Some r → IsEnd r.rest text
spanned-end zero text r e = none-some e
spanned-end (suc n) text r e = go (up_to_run (suc n) false text) refl e
  where
    go : (o : Option Reading) → up_to_run (suc n) false text ≡ o → span_content o ≡ Some r → IsEnd r.rest text
    go None f e = none-some e
    go (Some s) f e = same-left s.rest r.rest (ap (λ (t : Reading). t.rest) (some-is e)) (up_to-end (suc n) false text s f)

-- what an atom leaves of the source after its first byte, where a run is as long as what it takes
pub record Left (a : AtomRead) (bs : List ℕ) : Type 0 where
  pub end : IsEnd a.rest bs
  pub some : length (run_in a.atom) ≤ characters_of (run_in a.atom)
  pub few : characters_of (run_in a.atom) + length a.rest ≤ suc (length bs)

abbrev Leaves : Option AtomRead → List ℕ → Type 0
Leaves o bs = (a : AtomRead) → o ≡ Some a → Left a bs

leaves-none : (bs : List ℕ) → Leaves None bs
leaves-none bs found e = none-some e

-- an atom that is no run
left : (a : AtomRead) (bs : List ℕ) → run_in a.atom ≡ [] → IsEnd a.rest bs → Left a bs
left a bs plain h =
    let none : length (run_in a.atom) ≡ 0 = ap length plain in
    let nothing : characters_of (run_in a.atom) ≡ 0 = ap characters_of plain in
    let size : length bs ≡ length h.front + length a.rest = ap length h.is ∙ length-append h.front a.rest in
    record { end = h; some = omega (arith, none); few = omega (arith, nothing, size) }

leaves : (a : AtomRead) (bs : List ℕ) → run_in a.atom ≡ [] → IsEnd a.rest bs → Leaves (Some a) bs
leaves a bs plain h found e = subst (λ t. Left t bs) (some-is e) (left a bs plain h)

backtick-leaves : (b : ℕ) (bs : List ℕ) → (b == 96) ≡ true → Leaves (backtick_atom (b ∷ bs)) bs
unfolding backtick_atom code_span
backtick-leaves b bs h = go (spanned (run_length 96 (b ∷ bs)) (after_run 96 (b ∷ bs))) refl
  where
    go : (o : Option Reading) → spanned (run_length 96 (b ∷ bs)) (after_run 96 (b ∷ bs)) ≡ o → Leaves (elim o as (λ _. Option AtomRead) [
      | Some span ↦ read (Whole (Code span.text)) span.rest
      | None ↦ read (Plain (replicate (run_length 96 (b ∷ bs)) 96)) (after_run 96 (b ∷ bs))
    ]) bs
    go (Some span) f = leaves _ bs refl (end-of-end (run-beyond 96 b bs h) (spanned-end (run_length 96 (b ∷ bs)) (after_run 96 (b ∷ bs)) span f))
    go None f = leaves _ bs refl (run-beyond 96 b bs h)

link-beyond : (b : ℕ) (bs : List ℕ) (link : Autolink) → autolink (b ∷ bs) ≡ Some link → IsEnd link.rest bs
unfolding autolink in_angles as_autolink
link-beyond b bs link e = go (after_word (codes "<") (b ∷ bs)) refl e
  where
    link_at : Option Reading → Option Autolink
    link_at o = elim o as (λ _. Option Autolink) [ Some r ↦ as_autolink r | None ↦ None ]

    made-end : (r : Reading) → as_autolink r ≡ Some link → r.rest ≡ link.rest
    made-end r e = by (is_absolute r.text) (is_address r.text) e
      where
        by : (absolute address : Bool) → (if absolute then Some (record { destination = r.text; text = r.text; rest = r.rest })
            else (if address then Some (record { destination = codes "mailto:" ++ r.text; text = r.text; rest = r.rest }) else None)) ≡ Some link → r.rest ≡ link.rest
        by true address e = ap (λ (t : Autolink). t.rest) (some-is e)
        by false true e = ap (λ (t : Autolink). t.rest) (some-is e)
        by false false e = none-some e

    inside-end : (inside : List ℕ) (o : Option (List ℕ)) → after_word (codes ">") (skip is_inside inside) ≡ o → link_at (ended (front_of is_inside inside) o) ≡ Some link → IsEnd link.rest inside
    inside-end inside None f e = none-some e
    inside-end inside (Some rest) f e =
        end-of-end (skip-end is_inside inside) (same-left rest link.rest (made-end (record { text = front_of is_inside inside; rest = rest }) e) (word-end (codes ">") (skip is_inside inside) rest f))

    go : (o : Option (List ℕ)) → after_word (codes "<") (b ∷ bs) ≡ o
        → link_at (o and_then λ inside. ended (front_of is_inside inside) (after_word (codes ">") (skip is_inside inside))) ≡ Some link → IsEnd link.rest bs
    go None f e = none-some e
    go (Some inside) f e = end-of-end (word-beyond 60 [] b bs inside f) (inside-end inside (after_word (codes ">") (skip is_inside inside)) refl e)

angle-leaves : (rules : Rules) (b : ℕ) (bs : List ℕ) → Leaves (angle_atom rules (b ∷ bs)) bs
unfolding angle_atom at_angle followed_autolink
angle-leaves rules b bs = go (autolink (b ∷ bs)) (raw_html rules (b ∷ bs)) refl refl
  where
    atom_of : Option Angled → Option AtomRead
    atom_of o = elim o as (λ _. Option AtomRead) [
      | Some (Addressed link) ↦ read (Whole (link_of link)) link.rest
      | Some (Tagged tag) ↦ read (Whole (Html tag.text)) tag.rest
      | None ↦ None
    ]

    tag : (html : Option (List ℕ)) → raw_html rules (b ∷ bs) ≡ html → Leaves (atom_of (tagged (b ∷ bs) html)) bs
    tag (Some rest) g = leaves _ bs refl (end-beyond-one 62 b rest bs (raw_html-ends rules (b ∷ bs) rest g))
    tag None g = leaves-none bs

    go : (link : Option Autolink) (html : Option (List ℕ)) → autolink (b ∷ bs) ≡ link → raw_html rules (b ∷ bs) ≡ html
        → Leaves (atom_of (elim (link_if_followed rules link) as (λ _. Option Angled) [ Some link ↦ Some (Addressed link) | None ↦ tagged (b ∷ bs) html ])) bs
    go None html f g = tag html g
    go (Some link) html f g = by (is_followed rules link.destination)
      where
        by : (t : Bool) → Leaves (atom_of (elim (given t link) as (λ _. Option Angled) [
          | Some link ↦ Some (Addressed link)
          | None ↦ tagged (b ∷ bs) html
        ])) bs
        by true = leaves _ bs refl (link-beyond b bs link f)
        by false = tag html g

escape-two : (text : List ℕ) (escaped : List ℕ × ℕ) → escape text ≡ Some escaped → escaped.1 ≡ 2
escape-two [] escaped e = none-some e
escape-two (b ∷ []) escaped e = none-some e
escape-two (b ∷ c ∷ rest) escaped e = go (b == 92 && is_ascii_punct c) e
  where
    go : (v : Bool) → (if v then Some (c ∷ [], 2) else None) ≡ Some escaped → escaped.1 ≡ 2
    go true e = sym (ap (λ (p : List ℕ × ℕ). p.1) (some-is e))
    go false e = none-some e

-- after some bytes of which one is the first
dropped : (n m : ℕ) (b : ℕ) (bs : List ℕ) → n ≡ suc m → IsEnd (drop n (b ∷ bs)) bs
dropped n m b bs e = same-left (drop m bs) (drop n (b ∷ bs)) (ap (λ k. drop k (b ∷ bs)) (sym e)) (drop-end m bs)

backslash-leaves : (b : ℕ) (bs : List ℕ) → Leaves (backslash_atom (b ∷ bs)) bs
unfolding backslash_atom
backslash-leaves b bs = go (after_word (codes "\\\n") (b ∷ bs)) (escape (b ∷ bs)) refl refl
  where
    go : (o : Option (List ℕ)) (p : Option (List ℕ × ℕ)) → after_word (codes "\\\n") (b ∷ bs) ≡ o → escape (b ∷ bs) ≡ p → Leaves (elim o as (λ _. Option AtomRead) [
      | Some rest ↦ read (Whole Hard) rest
      | None ↦ elim p as (λ _. Option AtomRead) [ Some escaped ↦ read (Plain escaped.0) (drop escaped.1 (b ∷ bs)) | None ↦ None ]
    ]) bs
    go (Some rest) p f g = leaves _ bs refl (word-beyond 92 (10 ∷ []) b bs rest f)
    go None (Some escaped) f g = leaves _ bs refl (dropped escaped.1 1 b bs (escape-two (b ∷ bs) escaped g))
    go None None f g = leaves-none bs

-- a reference has two bytes or more
abbrev HasOne : Option (List ℕ × ℕ) → Type 0
HasOne o = (found : List ℕ × ℕ) → o ≡ Some found → (m : ℕ) × (found.1 ≡ suc m)

none-one : HasOne None
none-one found e = none-some e

numbered-one : (radix most round : ℕ) (o : Option (List ℕ)) → HasOne (numbered radix most (suc round) o)
numbered-one radix most round None found e = none-some e
numbered-one radix most round (Some digits) found e = go (is_in_range 1 most (length digits)) e
  where
    go : (v : Bool) → (if v then Some (numbered_character (digits_value radix digits) ∷ [], suc round + length digits) else None) ≡ Some found → (m : ℕ) × (found.1 ≡ suc m)
    go true e = (round + length digits, (let same : suc round + length digits ≡ found.1 = ap (λ (p : List ℕ × ℕ). p.1) (some-is e) in omega (arith, same)))
    go false e = none-some e

named-one : (o : Option (List ℕ)) → HasOne (named o)
named-one None found e = none-some e
named-one (Some name) found e = go (entry names name) e
  where
    go : (o : Option (List ℕ)) → elim o as (λ _. Option (List ℕ × ℕ)) [ None ↦ None | Some characters ↦ Some (characters, 2 + length name) ] ≡ Some found → (m : ℕ) × (found.1 ≡ suc m)
    go None e = none-some e
    go (Some characters) e = (1 + length name, (let same : 2 + length name ≡ found.1 = ap (λ (p : List ℕ × ℕ). p.1) (some-is e) in omega (arith, same)))

first-one : (o : Option (List ℕ × ℕ)) (others : List (Option (List ℕ × ℕ))) → HasOne o → HasOne (first_of_all others) → HasOne (first_of_all (o ∷ others))
first-one None others h k = k
first-one (Some found) others h k = h

reference-one : (text : List ℕ) → HasOne (reference text)
unfolding reference
reference-one text =
    first-one (decimal_reference text) _ (numbered-one 10 7 2 (between (codes "&#") _ text))
    (first-one (hexadecimal_reference (codes "&#x") text) _ (numbered-one 16 6 3 (between (codes "&#x") _ text))
    (first-one (hexadecimal_reference (codes "&#X") text) _ (numbered-one 16 6 3 (between (codes "&#X") _ text))
    (first-one (entity_reference text) [] (named-one (between (codes "&") _ text)) none-one)))

reference-leaves : (b : ℕ) (bs : List ℕ) → Leaves (reference_atom (b ∷ bs)) bs
unfolding reference_atom
reference-leaves b bs = go (reference (b ∷ bs)) refl
  where
    go : (o : Option (List ℕ × ℕ)) → reference (b ∷ bs) ≡ o
        → Leaves (elim o as (λ _. Option AtomRead) [ Some found ↦ read (Plain (encode_utf8_all found.0)) (drop found.1 (b ∷ bs)) | None ↦ None ]) bs
    go (Some found) f = let (m, e) = reference-one (b ∷ bs) found f in leaves _ bs refl (dropped found.1 m b bs e)
    go None f = leaves-none bs

break-leaves : (b : ℕ) (bs : List ℕ) → Leaves (break_atom (b ∷ bs)) bs
unfolding break_atom after_run
break-leaves b bs = go (b == 32) refl
  where
    broken : (rest : List ℕ) → Option (List ℕ) → Option AtomRead
    broken text o = elim o as (λ _. Option AtomRead) [ Some rest ↦ read (Whole (if nat_le 2 (run_length 32 text) then Hard else Soft)) rest | None ↦ None ]

    ended-at : (o : Option (List ℕ)) → ((rest : List ℕ) → o ≡ Some rest → IsEnd rest bs) → Leaves (broken (b ∷ bs) o) bs
    ended-at None k = leaves-none bs
    ended-at (Some rest) k = leaves _ bs refl (k rest refl)

    go : (space : Bool) → (b == 32) ≡ space → Leaves (broken (b ∷ bs) (after_word (codes "\n") (elim space as (λ _. List ℕ) [ true ↦ after_run 32 bs | false ↦ b ∷ bs ]))) bs
    go true e = ended-at (after_word (codes "\n") (after_run 32 bs)) (λ rest f. end-of-end (run-end 32 bs) (word-end (codes "\n") (after_run 32 bs) rest f))
    go false e = ended-at (after_word (codes "\n") (b ∷ bs)) (λ rest f. word-beyond 10 [] b bs rest f)

run-size : (marker : ℕ) (text : List ℕ) → run_length marker text + length (after_run marker text) ≡ length text
unfolding run_length after_run
run-size marker [] = refl
run-size marker (b ∷ bs) = go (b == marker) (run-size marker bs)
  where
    go : (c : Bool) → run_length marker bs + length (after_run marker bs) ≡ length bs
        → (elim c as (λ _. ℕ) [ true ↦ suc (run_length marker bs) | false ↦ 0 ]) + length (elim c as (λ _. List ℕ) [ true ↦ after_run marker bs | false ↦ b ∷ bs ]) ≡ suc (length bs)
    go true e = omega (arith, e)
    go false e = omega arith

run-some : (marker b : ℕ) (bs : List ℕ) → (b == marker) ≡ true → 1 ≤ run_length marker (b ∷ bs)
unfolding run_length
run-some marker b bs e = go (b == marker) e
  where
    go : (c : Bool) → c ≡ true → 1 ≤ elim c as (λ _. ℕ) [ true ↦ suc (run_length marker bs) | false ↦ 0 ]
    go true e = omega arith
    go false e = absurd (cc e)

run-leaves : (rules : Rules) (before : List ℕ) (character b : ℕ) (bs : List ℕ) → (b == character) ≡ true → Leaves (run_atom rules before character (b ∷ bs)) bs
unfolding run_atom run_between
run-leaves rules before character b bs h found e = subst (λ t. Left t bs) (some-is e) run-left
  where
    run : Run
    run = run_between rules character (run_length character (b ∷ bs)) before (after_run character (b ∷ bs))

    one : characters_of (run ∷ []) ≡ run_length character (b ∷ bs) + 0
    one = sum_by-cons (λ (r : Run). r.whole) run []

    run-left : Left (record { atom = Delimiter run; rest = after_run character (b ∷ bs) }) bs
    run-left = record {
      end = run-beyond character b bs h;
      some = (let some : 1 ≤ run_length character (b ∷ bs) = run-some character b bs h in omega (arith, some, one));
      few = (let size : run_length character (b ∷ bs) + length (after_run character (b ∷ bs)) ≡ suc (length bs) = run-size character (b ∷ bs) in omega (arith, size, one));
    }

tilde-leaves : (rules : Rules) (before : List ℕ) (b : ℕ) (bs : List ℕ) → (b == 126) ≡ true → Leaves (tilde_atom rules before (b ∷ bs)) bs
unfolding tilde_atom
tilde-leaves rules before b bs h = go (rules.strike && run_length 126 (b ∷ bs) == 2)
  where
    go : (v : Bool) → Leaves (elim v as (λ _. Option AtomRead) [
      | true ↦ run_atom rules before 126 (b ∷ bs)
      | false ↦ read (Plain (replicate (run_length 126 (b ∷ bs)) 126)) (after_run 126 (b ∷ bs))
    ]) bs
    go true = run-leaves rules before 126 b bs h
    go false = leaves _ bs refl (run-beyond 126 b bs h)

bang-leaves : (b : ℕ) (bs : List ℕ) → Leaves (bang_atom (b ∷ bs)) bs
unfolding bang_atom
bang-leaves b bs = go (after_word (codes "![") (b ∷ bs)) refl
  where
    go : (o : Option (List ℕ)) → after_word (codes "![") (b ∷ bs) ≡ o → Leaves (elim o as (λ _. Option AtomRead) [ Some rest ↦ read (OpenBracket true) rest | None ↦ None ]) bs
    go (Some rest) f = leaves _ bs refl (word-beyond 33 (91 ∷ []) b bs rest f)
    go None f = leaves-none bs

itself : (b : ℕ) → (b == b) ≡ true
itself b = grind (arith, nat_tests)

-- one case after another
or-else : (c : Bool) (o p : Option AtomRead) (bs : List ℕ) → (c ≡ true → Leaves o bs) → Leaves p bs → Leaves (if c then o else p) bs
or-else true o p bs h k = h refl
or-else false o p bs h k = k

markup-leaves : (rules : Rules) (before : List ℕ) (b : ℕ) (bs : List ℕ) → Leaves (markup_atom rules before b bs) bs
unfolding markup_atom
markup-leaves rules before b bs =
    or-else (b == 96) _ _ bs (λ h. backtick-leaves b bs h)
    (or-else (b == 60) _ _ bs (λ h. angle-leaves rules b bs)
    (or-else (b == 92) _ _ bs (λ h. backslash-leaves b bs)
    (or-else (b == 38) _ _ bs (λ h. reference-leaves b bs)
    (or-else (b == 10 || b == 32) _ _ bs (λ h. break-leaves b bs)
    (or-else (b == 126) _ _ bs (λ h. tilde-leaves rules before b bs h)
    (or-else (b == 33) _ _ bs (λ h. bang-leaves b bs)
    (or-else (b == 91) _ _ bs (λ h. leaves _ bs refl (whole-end bs))
    (or-else (b == 93) _ _ bs (λ h. leaves _ bs refl (whole-end bs)) (run-leaves rules before b b bs (itself b))))))))))

pub atom-left : (rules : Rules) (before : List ℕ) (b : ℕ) (bs : List ℕ) → Left (atom_at rules before b bs) bs
unfolding atom_at
atom-left rules before b bs = go (is_markup b)
  where
    by : (o : Option AtomRead) → Leaves o bs → Left (or_byte b bs o) bs
    by None k = left (byte_atom b bs) bs refl (whole-end bs)
    by (Some a) k = k a refl

    go : (v : Bool) → Left (elim v as (λ _. AtomRead) [ true ↦ or_byte b bs (markup_atom rules before b bs) | false ↦ byte_atom b bs ]) bs
    go true = by (markup_atom rules before b bs) (markup-leaves rules before b bs)
    go false = left (byte_atom b bs) bs refl (whole-end bs)

-- a bracket may leave less than its atom does
added-end : (rules : Rules) (defined : Defined) (items : List Item) (a : AtomRead) → IsEnd (add_atom rules defined items a.atom a.rest).rest a.rest
unfolding add_atom
added-end rules defined items a = go a.atom
  where
    go : (atom : Atom) → IsEnd (add_atom rules defined items atom a.rest).rest a.rest
    go (Plain text) = whole-end a.rest
    go (Whole inline) = whole-end a.rest
    go (Delimiter run) = whole-end a.rest
    go (OpenBracket image) = whole-end a.rest
    go CloseBracket = bracket-end rules defined items a.rest

pub step-left : (rules : Rules) (defined : Defined) (before : List ℕ) (b : ℕ) (bs : List ℕ) (items : List Item)
    → IsEnd (item_step rules defined before b bs items).rest (atom_at rules before b bs).rest
unfolding item_step
step-left rules defined before b bs items = added-end rules defined items (atom_at rules before b bs)

pub step_leaves_an_end : StepLeavesAnEnd
step_leaves_an_end rules defined before b bs items =
    let whole = end-of-end (atom-left rules before b bs).end (step-left rules defined before b bs items) in (whole.front, whole.is)
