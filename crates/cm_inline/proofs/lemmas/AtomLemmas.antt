-- What starts at a place of a source, by the byte that is there.
use Rattle.cm_inline.proofs.lemmas.Words.{◌≡◌, ℕ, zero, suc, ◌+◌, ◌-◌, ◌<◌, ◌==◌, ◌&&◌, ◌||◌, not, Bool, true, false, List, [], ◌∷◌, length, take, drop, get_or}
use Rattle.cm_inline.proofs.lemmas.Words.{reverse, Option, Some, None, codes, refl, sym, ap, subst, ◌∙◌, arith, length-append, length-drop, drop-drop, get_or-drop}
use Rattle.cm_inline.proofs.lemmas.Words.{IsUtf8, if◌then◌else◌, encode_utf8_all, slice_range, list_all, IsCharBoundary, eqb-true, drop_more}
use Rattle.cm_inline.proofs.lemmas.Words.{IsCharBoundary-after_ascii, Rules, is_ascii_punct, chars_of, Chars, begins_with, run_length, after_run, after_word, Reading}
use Rattle.cm_inline.proofs.lemmas.Words.{Autolink, followed_autolink, raw_html, before, one_line, stripped, whole_of, link_of, markup_atom, atom_at, none-some}
use Rattle.cm_inline.proofs.lemmas.Words.{begins-at, not-same, Marker, Tilde, DelimiterRun, nat_tests, rules, replicate}
use Rattle.std.specs.Prelude.{nat_le}
use Rattle.cm_text.specs.References.{reference, reference_at}
use Rattle.cm_tree.specs.declared.tree.Inline.TheVariants as inline
use Rattle.cm_scan.specs.spans.Angles.{Angled, Addressed, Tagged, at_angle}
use Rattle.cm_scan.specs.spans.CodeSpans.{code_span, span_content}
use Rattle.cm_scan.specs.inlines.Delimiters as delimiters
use Rattle.cm_scan.specs.inlines.Pairing as items
use Rattle.cm_scan.specs.inlines.Atoms.{is_markup, AtomRead, Plain, Whole, Delimiter, OpenBracket, read, or_byte, byte_atom, backtick_atom, angle_atom, backslash_atom, reference_atom, break_atom, run_between, run_atom, tilde_atom, bang_atom}
use Rattle.cm_scan.specs.steps.SpanSteps.{tagged}
use Rattle.cm_scan.proofs.lemmas.texts.WordsGoOn.{false-true}
use Rattle.cm_scan.proofs.lemmas.inlines.LeftByEachStep.{atom-left}
use Rattle.cm_inline.proofs.lemmas.BottomLemmas.{kind-small, kind-untilded}
use Rattle.cm_inline.proofs.lemmas.EmphasisLemmas.{code-holds, html-holds, hard-holds, soft-holds, autolink-holds}
use Rattle.cm_inline.specs.declared.atoms.Atom.{Atom as ReadAtom}
use Rattle.cm_inline.specs.declared.atoms.Atom.TheVariants as read
use Rattle.cm_inline.specs.steps.Marks.{is_escaped, stays_text}
use Rattle.cm_inline.specs.declared.marks.Kind.TheVariants as kinds
use Rattle.cm_inline.specs.steps.Runs.{byte_of, run_of}
use Rattle.cm_inline.specs.Closers.{kinds_with, kinds_by}
use Rattle.cm_inline.specs.Emphases.{emphases_of}
use Rattle.cm_inline.specs.steps.Searching.{kind}
use Rattle.cm_inline.specs.steps.Reads.{Stands, atom_in, is_break_byte, item_for, IsNew, IsAtom, Begins}

-- the source from the place on
front : (source : List ℕ) (at b : ℕ) → Stands source at b → drop at source ≡ b ∷ drop (at + 1) source
front source at b s = drop_more source at 0 s.within ∙ ap (λ c. c ∷ drop (at + 1) source) s.byte

here : (rules : Rules) (source : List ℕ) (at b : ℕ) → Stands source at b → atom_in rules source at ≡ atom_at rules (reverse (take at source)) b (drop (at + 1) source)
here rules source at b s = ap (λ c. atom_at rules (reverse (take at source)) c (drop (at + 1) source)) s.byte

-- an atom takes a byte or more
further : (rules : Rules) (source : List ℕ) (at end : ℕ) → at < length source → (atom_in rules source at).rest ≡ drop end source → at < end
further rules source at end within rest =
    let left = atom-left rules (reverse (take at source)) (get_or source at 0) (drop (at + 1) source) in
    let size : length (drop (at + 1) source) ≡ length left.end.front + length (atom_in rules source at).rest = ap length left.end.is ∙ length-append left.end.front (atom_in rules source at).rest in
    omega (arith, within, size, ap length rest, length-drop (at + 1) source, length-drop end source)

-- a run of a byte that stays text
pub run-stays : (b : ℕ) → stays_text true b ≡ true → (n : ℕ) → list_all (stays_text true) (replicate n b) ≡ true
run-stays b h zero = refl
run-stays b h (suc n) = ap (λ v. v && list_all (stays_text true) (replicate n b)) h ∙ run-stays b h n

pub marker-stays : (m : Marker) → stays_text true (byte_of m) ≡ true
marker-stays m = grind (arith, nat_tests)

module _ (rules : Rules) (source : List ℕ) (at : ℕ) where
  is-atom : (item : items.Item) (end : ℕ) (a : AtomRead) → at < length source → atom_in rules source at ≡ a → a.rest ≡ drop end source → item_for a.atom a.rest ≡ Some item
      → IsCharBoundary source end → IsNew (kinds_by rules) item → IsAtom rules source at item end
  is-atom item end a within same rest is boundary fresh = grind (arith, nat_tests, further)

  -- a run

  run-front : (m : ℕ) (text : List ℕ) → take (run_length m text) text ≡ replicate (run_length m text) m
  unfolding run_length
  run-front m [] = refl
  run-front m (b ∷ bs) = grind (arith, nat_tests, eqb-true, (run-front m bs))

  run-is : (m end : ℕ) (a : AtomRead) → Stands source at m → end ≡ at + run_length m (drop at source) → drop end source ≡ after_run m (drop at source) → IsCharBoundary source end
      → atom_in rules source at ≡ a → a.rest ≡ after_run m (drop at source) → item_for a.atom a.rest ≡ Some (items.Characters (replicate (run_length m (drop at source)) m)) → ((n : ℕ) → list_all (stays_text true) (replicate n m) ≡ true) → Begins rules source at read.Text end
  run-is m end a s run left boundary same rest item stays =
      let size : end - at ≡ run_length m (drop at source) = omega (arith, run) in
      let text : slice_range source at end ≡ replicate (run_length m (drop at source)) m = ap (λ n. take n (drop at source)) size ∙ run-front m (drop at source) in
      grind (arith, nat_tests, is-atom)

  -- one byte as text

  one-byte : (b : ℕ) → Stands source at b → slice_range source at (at + 1) ≡ b ∷ []
  one-byte b s = let one : at + 1 - at ≡ 1 = omega arith in ap (λ n. take n (drop at source)) one ∙ ap (take 1) (front source at b s)

  beyond-byte : (b : ℕ) → IsUtf8 source → Stands source at b → b < 128 → IsCharBoundary source (at + 1)
  beyond-byte b utf8 s ascii = IsCharBoundary-after_ascii source at utf8 s.within (omega (arith, s.byte, ascii))

  byte-is : (b : ℕ) (a : AtomRead) → IsUtf8 source → Stands source at b → b < 128 → atom_in rules source at ≡ a → a.rest ≡ drop (at + 1) source → item_for a.atom a.rest ≡ Some (items.Characters (b ∷ []))
      → IsAtom rules source at (items.Characters (slice_range source at (at + 1))) (at + 1)
  byte-is b a utf8 s ascii same rest item =
      is-atom (items.Characters (slice_range source at (at + 1))) (at + 1) a s.within same rest (item ∙ sym (ap (λ t. Some (items.Characters t)) (one-byte b s))) (beyond-byte b utf8 s ascii) tt

  -- as text, or as a character that HTML escapes
  text-byte : (b : ℕ) → Stands source at b → stays_text true b ≡ true → IsAtom rules source at (items.Characters (slice_range source at (at + 1))) (at + 1) → Begins rules source at read.Text (at + 1)
  text-byte b s stays is = record { is = is; there = ap (list_all (stays_text true)) (one-byte b s) ∙ ap (λ v. v && true) stays }

  escaped-byte : (b : ℕ) → Stands source at b → is_escaped b ≡ true → IsAtom rules source at (items.Characters (slice_range source at (at + 1))) (at + 1) → Begins rules source at read.Escaped (at + 1)
  escaped-byte b s escaped is = record { is = is; there = (b, escaped, one-byte b s) }

  -- the byte after it
  next-stands : (b c : ℕ) → IsUtf8 source → Stands source at b → b < 128 → begins_with c (drop (at + 1) source) ≡ true → Stands source (at + 1) c
  next-stands b c utf8 s ascii next = first_of (search (begins-at, beyond-byte), grind (arith, nat_tests, begins-at, beyond-byte))

  -- a code span, or a backtick string as text

  abbrev span_or : List ℕ → Option Reading → Option AtomRead
  span_or text o = elim o as (λ _. Option AtomRead) [ Some span ↦ read (Whole (inline.Code span.text)) span.rest | None ↦ read (Plain (replicate (run_length 96 text) 96)) (after_run 96 text) ]

  tick-in : (o : Option Reading) → Stands source at 96 → o ≡ code_span (drop at source) → atom_in rules source at ≡ or_byte 96 (drop (at + 1) source) (span_or (drop at source) o)
  unfolding atom_at markup_atom backtick_atom
  tick-in o s h =
      here rules source at 96 s ∙ ap (λ t. or_byte 96 (drop (at + 1) source) (backtick_atom t)) (sym (front source at 96 s))
      ∙ ap (λ t. or_byte 96 (drop (at + 1) source) (span_or (drop at source) t)) (sym h)

  pub code-span-is : (inside : List ℕ) (end : ℕ) → Stands source at 96 → span_content (Some (record { text = inside; rest = drop end source })) ≡ code_span (drop at source) → IsCharBoundary source end
      → IsAtom rules source at (items.Finished (inline.Code (stripped (one_line inside)))) end
  code-span-is inside end s h boundary =
      is-atom _ end (record { atom = Whole (inline.Code (stripped (one_line inside))); rest = drop end source }) s.within
      (tick-in (Some (record { text = stripped (one_line inside); rest = drop end source })) s h) refl refl boundary (code-holds (stripped (one_line inside)))

  pub backticks-are : (end : ℕ) → Stands source at 96 → None ≡ code_span (drop at source) → end ≡ at + run_length 96 (drop at source) → drop end source ≡ after_run 96 (drop at source)
      → IsCharBoundary source end → Begins rules source at read.Text end
  backticks-are end s h run left boundary =
      run-is 96 end (record { atom = Plain (replicate (run_length 96 (drop at source)) 96); rest = after_run 96 (drop at source) }) s run left boundary (tick-in None s h) refl refl (run-stays 96 refl)

  -- an autolink, raw HTML, or `<` as text

  abbrev angled_or : Option Angled → Option AtomRead
  angled_or o = elim o as (λ _. Option AtomRead) [
    | Some angled ↦ elim angled as (λ _. Option AtomRead) [ Addressed link ↦ read (Whole (link_of link)) link.rest | Tagged tag ↦ read (Whole (inline.Html tag.text)) tag.rest ]
    | None ↦ None
  ]

  abbrev link_or : Option Autolink → Option Angled
  link_or o = elim o as (λ _. Option Angled) [ Some link ↦ Some (Addressed link) | None ↦ tagged (drop at source) (raw_html rules (drop at source)) ]

  angle-in : (o : Option Autolink) → Stands source at 60 → o ≡ followed_autolink rules (drop at source) → atom_in rules source at ≡ or_byte 60 (drop (at + 1) source) (angled_or (link_or o))
  unfolding atom_at markup_atom angle_atom at_angle
  angle-in o s h =
      here rules source at 60 s ∙ ap (λ t. or_byte 60 (drop (at + 1) source) (angle_atom rules t)) (sym (front source at 60 s))
      ∙ ap (λ t. or_byte 60 (drop (at + 1) source) (angled_or (link_or t))) (sym h)

  pub link-is : (link : Autolink) (end : ℕ) → Stands source at 60 → Some link ≡ followed_autolink rules (drop at source) → link.rest ≡ drop end source → IsCharBoundary source end → IsAtom rules source at (items.Finished (link_of link)) end
  link-is link end s h rest boundary = is-atom _ end (record { atom = Whole (link_of link); rest = link.rest }) s.within (angle-in (Some link) s h) rest refl boundary (autolink-holds link)

  html-in : (o : Option (List ℕ)) → Stands source at 60 → None ≡ followed_autolink rules (drop at source) → raw_html rules (drop at source) ≡ o → atom_in rules source at ≡ or_byte 60 (drop (at + 1) source) (angled_or (tagged (drop at source) o))
  html-in o s h e = angle-in None s h ∙ ap (λ t. or_byte 60 (drop (at + 1) source) (angled_or (tagged (drop at source) t))) e

  whole-read : (text html rest : List ℕ) (o : Option (List ℕ)) → Some (record { text = html; rest = rest }) ≡ whole_of text o → (o ≡ Some rest) × (html ≡ before rest text)
  whole-read text html rest o h = grind (arith, nat_tests, none-some)

  none-read : (text : List ℕ) (o : Option (List ℕ)) → None ≡ whole_of text o → o ≡ None
  none-read text o h = grind (arith, nat_tests, none-some)

  pub html-is : (html : List ℕ) (end : ℕ) → Stands source at 60 → None ≡ followed_autolink rules (drop at source) → Some (record { text = html; rest = drop end source }) ≡ whole_of (drop at source) (raw_html rules (drop at source))
      → IsCharBoundary source end → IsAtom rules source at (items.Finished (inline.Html html)) end
  html-is html end s h e boundary =
      let parts = whole-read (drop at source) html (drop end source) (raw_html rules (drop at source)) e in
      is-atom _ end (record { atom = Whole (inline.Html (before (drop end source) (drop at source))); rest = drop end source }) s.within (html-in (Some (drop end source)) s h parts.0) refl
      (sym (ap (λ t. Some (items.Finished (inline.Html t))) parts.1)) boundary (html-holds html)

  pub angle-is-text : IsUtf8 source → Stands source at 60 → None ≡ followed_autolink rules (drop at source) → None ≡ whole_of (drop at source) (raw_html rules (drop at source)) → Begins rules source at read.Escaped (at + 1)
  angle-is-text utf8 s h e =
      escaped-byte 60 s refl (byte-is 60 (byte_atom 60 (drop (at + 1) source)) utf8 s (omega arith) (html-in None s h (none-read (drop at source) (raw_html rules (drop at source)) e)) refl refl)

  -- a hard line break, an escaped character, or a backslash as text

  slash-in : (rest : List ℕ) → Stands source at 92 → drop (at + 1) source ≡ rest → atom_in rules source at ≡ or_byte 92 rest (backslash_atom (92 ∷ rest))
  unfolding atom_at markup_atom
  slash-in rest s e = here rules source at 92 s ∙ ap (λ t. or_byte 92 t (backslash_atom (92 ∷ t))) e

  pub hard-is : IsUtf8 source → Stands source at 92 → begins_with 10 (drop (at + 1) source) ≡ true → Begins rules source at (read.Whole kinds.Hard) (at + 2)
  unfolding backslash_atom after_word
  hard-is utf8 s next =
      let feed = next-stands 92 10 utf8 s (omega arith) next in
      let end : at + 1 + 1 ≡ at + 2 = omega arith in
      search
      (is-atom _ (at + 2) (record { atom = Whole inline.Hard; rest = drop (at + 1 + 1) source }) s.within (slash-in (10 ∷ drop (at + 1 + 1) source) s (front source (at + 1) 10 feed))
      (ap (λ n. drop n source) end) refl (subst (IsCharBoundary source) end (IsCharBoundary-after_ascii source (at + 1) utf8 feed.within (omega (arith, feed.byte)))) hard-holds)

  abbrev escape_or : Option (List ℕ × ℕ) → List ℕ → Option AtomRead
  escape_or o text = elim o as (λ _. Option AtomRead) [ Some escaped ↦ read (Plain escaped.0) (drop escaped.1 text) | None ↦ None ]

  pub escape-is : (c : ℕ) → IsUtf8 source → Stands source at 92 → at + 1 < length source → get_or source (at + 1) 0 ≡ c → c < 128 → is_ascii_punct c ≡ true → Begins rules source at read.Escape (at + 2)
  unfolding backslash_atom after_word
  escape-is c utf8 s within byte ascii punct =
      let boundary = beyond-byte 92 utf8 s (omega arith) in
      let next : Stands source (at + 1) c = record { short = s.short; within = within; boundary = boundary; byte = byte } in
      let end : at + 1 + 1 ≡ at + 2 = omega arith in
      let beyond : IsCharBoundary source (at + 2) = subst (IsCharBoundary source) end (IsCharBoundary-after_ascii source (at + 1) utf8 within (omega (arith, byte, ascii))) in
      let one : at + 2 - (at + 1) ≡ 1 = omega arith in
      let text : slice_range source (at + 1) (at + 2) ≡ c ∷ [] = ap (λ n. take n (drop (at + 1) source)) one ∙ ap (take 1) (front source (at + 1) c next) in
      record {
        is = is-atom (items.Characters (slice_range source (at + 1) (at + 2))) (at + 2) (record { atom = Plain (c ∷ []); rest = drop (at + 1 + 1) source }) s.within
            (slash-in (c ∷ drop (at + 1 + 1) source) s (front source (at + 1) c next) ∙ escaped (c == 10) (no-feed c punct)) (ap (λ n. drop n source) end)
            (sym (ap (λ t. Some (items.Characters t)) text)) beyond tt;
        there = (c, refl, boundary, text, sym byte, no-feed c punct);
      }
    where
      no-feed : (c : ℕ) → is_ascii_punct c ≡ true → (c == 10) ≡ false
      no-feed c punct = grind (arith, punct)

      escaped : (feed : Bool) → feed ≡ false
          → or_byte 92 (c ∷ drop (at + 1 + 1) source) (elim (elim feed as (λ _. Option (List ℕ)) [ true ↦ Some (drop (at + 1 + 1) source) | false ↦ None ]) as (λ _. Option AtomRead) [
            | Some rest ↦ read (Whole inline.Hard) rest
            | None ↦ escape_or (if is_ascii_punct c then Some (c ∷ [], 2) else None) (92 ∷ c ∷ drop (at + 1 + 1) source)
          ]) ≡ record { atom = Plain (c ∷ []); rest = drop (at + 1 + 1) source }
      escaped true e = false-true (sym e)
      escaped false e = ap (λ p. or_byte 92 (c ∷ drop (at + 1 + 1) source) (escape_or (if p then Some (c ∷ [], 2) else None) (92 ∷ c ∷ drop (at + 1 + 1) source))) punct

  -- nothing of these follows the backslash
  escapes-none : (text : List ℕ) → begins_with 10 text ≡ false → (0 < length text → is_ascii_punct (get_or text 0 0) ≡ false) → or_byte 92 text (backslash_atom (92 ∷ text)) ≡ byte_atom 92 text
  unfolding backslash_atom after_word
  escapes-none [] feed punct = refl
  escapes-none (c ∷ cs) feed punct =
      ap (λ f. or_byte 92 (c ∷ cs) (elim (elim f as (λ _. Option (List ℕ)) [ true ↦ Some cs | false ↦ None ]) as (λ _. Option AtomRead) [
        | Some rest ↦ read (Whole inline.Hard) rest
        | None ↦ escape_or (if is_ascii_punct c then Some (c ∷ [], 2) else None) (92 ∷ c ∷ cs)
      ])) feed
      ∙ ap (λ p. or_byte 92 (c ∷ cs) (escape_or (if p then Some (c ∷ [], 2) else None) (92 ∷ c ∷ cs))) (punct (omega arith))

  pub backslash-is-text : IsUtf8 source → Stands source at 92 → begins_with 10 (drop (at + 1) source) ≡ false → (at + 1 < length source → is_ascii_punct (get_or source (at + 1) 0) ≡ false)
      → Begins rules source at read.Text (at + 1)
  backslash-is-text utf8 s feed punct =
      let nothing : at + 1 + 0 ≡ at + 1 = omega arith in
      text-byte 92 s refl (byte-is 92 (byte_atom 92 (drop (at + 1) source)) utf8 s (omega arith)
      (slash-in (drop (at + 1) source) s refl ∙ escapes-none (drop (at + 1) source) feed
      (λ some. ap is_ascii_punct (get_or-drop (at + 1) source 0 0 ∙ ap (λ n. get_or source n 0) nothing) ∙ punct (omega (arith, some, length-drop (at + 1) source)))) refl refl)

  -- a reference, or `&` as text

  abbrev reference_or : List ℕ → Option (List ℕ × ℕ) → Option AtomRead
  reference_or text o = elim o as (λ _. Option AtomRead) [ Some found ↦ read (Plain (encode_utf8_all found.0)) (drop found.1 text) | None ↦ None ]

  ampersand-in : (o : Option (List ℕ × ℕ)) → Stands source at 38 → reference (drop at source) ≡ o → atom_in rules source at ≡ or_byte 38 (drop (at + 1) source) (reference_or (drop at source) o)
  unfolding atom_at markup_atom reference_atom
  ampersand-in o s e =
      here rules source at 38 s ∙ ap (λ t. or_byte 38 (drop (at + 1) source) (reference_atom t)) (sym (front source at 38 s))
      ∙ ap (λ t. or_byte 38 (drop (at + 1) source) (reference_or (drop at source) t)) e

  pub reference-is : (chars : Chars) (end : ℕ) → Stands source at 38 → Some (chars_of chars, end) ≡ reference_at source at → IsCharBoundary source end → Begins rules source at (read.Reference chars) end
  reference-is chars end s h boundary = go (reference (drop at source)) refl h
    where
      go : (o : Option (List ℕ × ℕ)) → reference (drop at source) ≡ o → Some (chars_of chars, end) ≡ elim o as (λ _. Option (List ℕ × ℕ)) [ None ↦ None | Some found ↦ Some (found.0, at + found.1) ]
          → Begins rules source at (read.Reference chars) end
      go None e g = none-some (sym g)
      go (Some found) e g =
          let same : chars_of chars ≡ found.0 = ap chars_in g in
          let place : end ≡ at + found.1 = ap end_in g in
          record {
            is = is-atom _ end (record { atom = Plain (encode_utf8_all found.0); rest = drop found.1 (drop at source) }) s.within (ampersand-in (Some found) s e)
                (drop-drop found.1 at source ∙ ap (λ n. drop n source) (sym place)) (sym (ap (λ t. Some (items.Characters (encode_utf8_all t))) same)) boundary tt;
            there = tt;
          }
        where
          chars_in : Option (List ℕ × ℕ) → List ℕ
          chars_in None = []
          chars_in (Some r) = r.0

          end_in : Option (List ℕ × ℕ) → ℕ
          end_in None = 0
          end_in (Some r) = r.1

  pub ampersand-is-text : IsUtf8 source → Stands source at 38 → None ≡ reference_at source at → Begins rules source at read.Escaped (at + 1)
  ampersand-is-text utf8 s h = escaped-byte 38 s refl (byte-is 38 (byte_atom 38 (drop (at + 1) source)) utf8 s (omega arith) (ampersand-in None s (go (reference (drop at source)) h)) refl refl)
    where
      go : (o : Option (List ℕ × ℕ)) → None ≡ elim o as (λ _. Option (List ℕ × ℕ)) [ None ↦ None | Some found ↦ Some (found.0, at + found.1) ] → o ≡ None
      go None g = refl
      go (Some found) g = none-some g

  -- a line ending with the spaces before it, or a space as text

  abbrev break_or : List ℕ → Option (List ℕ) → Option AtomRead
  break_or text o = elim o as (λ _. Option AtomRead) [ Some rest ↦ read (Whole (if nat_le 2 (run_length 32 text) then inline.Hard else inline.Soft)) rest | None ↦ None ]

  abbrev BreakRead : ℕ → Type 0
  BreakRead b = atom_at rules (reverse (take at source)) b (drop (at + 1) source) ≡ or_byte b (drop (at + 1) source) (break_atom (b ∷ drop (at + 1) source))

  feed-read : BreakRead 10
  unfolding atom_at markup_atom
  feed-read = refl

  space-read : BreakRead 32
  unfolding atom_at markup_atom
  space-read = refl

  break-in : (b : ℕ) (o : Option (List ℕ)) → Stands source at b → is_break_byte b ≡ true → after_word (codes "\n") (after_run 32 (drop at source)) ≡ o
      → atom_in rules source at ≡ or_byte b (drop (at + 1) source) (break_or (drop at source) o)
  unfolding break_atom
  break-in b o s is e =
      here rules source at b s ∙ by (b == 10) refl is ∙ ap (λ t. or_byte b (drop (at + 1) source) (break_atom t)) (sym (front source at b s))
      ∙ ap (λ t. or_byte b (drop (at + 1) source) (break_or (drop at source) t)) e
    where
      by : (feed : Bool) → (b == 10) ≡ feed → (feed || b == 32) ≡ true → BreakRead b
      by true p h = subst BreakRead (sym (eqb-true b 10 p)) feed-read
      by false p h = subst BreakRead (sym (eqb-true b 32 h)) space-read

  feed-next : (text : List ℕ) → begins_with 10 text ≡ true → after_word (codes "\n") text ≡ Some (drop 1 text)
  unfolding after_word
  feed-next text h = grind (arith, nat_tests, false-true)

  no-feed-next : (text : List ℕ) → begins_with 10 text ≡ false → after_word (codes "\n") text ≡ None
  unfolding after_word
  no-feed-next text h = grind (arith, nat_tests)

  pub break-is : (b feed : ℕ) → IsUtf8 source → Stands source at b → is_break_byte b ≡ true → feed ≡ at + run_length 32 (drop at source) → drop feed source ≡ after_run 32 (drop at source)
      → begins_with 10 (drop feed source) ≡ true → IsAtom rules source at (items.Finished (if nat_le 2 (feed - at) then inline.Hard else inline.Soft)) (feed + 1)
  break-is b feed utf8 s is run left next =
      let size : feed - at ≡ run_length 32 (drop at source) = omega (arith, run) in
      let found = begins-at 10 source feed next in
      is-atom _ (feed + 1) (record { atom = Whole (if nat_le 2 (run_length 32 (drop at source)) then inline.Hard else inline.Soft); rest = drop 1 (drop feed source) }) s.within
      (break-in b (Some (drop 1 (drop feed source))) s is (ap (after_word (codes "\n")) (sym left) ∙ feed-next (drop feed source) next))
      (drop-drop 1 feed source) (sym (ap (λ n. Some (items.Finished (if nat_le 2 n then inline.Hard else inline.Soft))) size))
      (IsCharBoundary-after_ascii source feed utf8 found.0 (omega (arith, found.2))) (none (nat_le 2 (feed - at)))
    where
      none : (hard : Bool) → emphases_of (if hard then inline.Hard else inline.Soft) ≡ 0
      none true = hard-holds
      none false = soft-holds

  -- a line feed with no space before it
  pub feed-is : IsUtf8 source → Stands source at 10 → Begins rules source at read.LineFeed (at + 1)
  unfolding run_length after_run
  feed-is utf8 s =
      let first : drop at source ≡ 10 ∷ drop (at + 1) source = front source at 10 s in
      let none : run_length 32 (drop at source) ≡ 0 = ap (run_length 32) first in
      let stays : after_run 32 (drop at source) ≡ drop at source = ap (after_run 32) first ∙ sym first in
      let size : at - at ≡ 0 = omega arith in
      record {
        is = subst (λ n. IsAtom rules source at (items.Finished (if nat_le 2 n then inline.Hard else inline.Soft)) (at + 1)) size
            (break-is 10 at utf8 s refl (omega (arith, none)) (sym stays) (ap (begins_with 10) first));
        there = (refl, one-byte 10 s);
      }

  pub space-is-text : (b feed : ℕ) → IsUtf8 source → Stands source at b → is_break_byte b ≡ true → drop feed source ≡ after_run 32 (drop at source)
      → begins_with 10 (drop feed source) ≡ false → (b ≡ 32) → Begins rules source at read.Text (at + 1)
  space-is-text b feed utf8 s is left next space =
      text-byte b s (ap (stays_text true) space) (byte-is b (byte_atom b (drop (at + 1) source)) utf8 s (small b is)
      (break-in b None s is (ap (after_word (codes "\n")) (sym left) ∙ no-feed-next (drop feed source) next)) refl refl)
    where
      small : (b : ℕ) → is_break_byte b ≡ true → b < 128
      small b h = grind (arith, h)

  -- `![`, or `!` as text

  bang-in : (rest : List ℕ) → Stands source at 33 → drop (at + 1) source ≡ rest → atom_in rules source at ≡ or_byte 33 rest (bang_atom (33 ∷ rest))
  unfolding atom_at markup_atom
  bang-in rest s e = here rules source at 33 s ∙ ap (λ t. or_byte 33 t (bang_atom (33 ∷ t))) e

  pub image-is : IsUtf8 source → Stands source at 33 → begins_with 91 (drop (at + 1) source) ≡ true → Begins rules source at (read.Opener true) (at + 2)
  unfolding bang_atom after_word
  image-is utf8 s next =
      let bracket = next-stands 33 91 utf8 s (omega arith) next in
      let end : at + 1 + 1 ≡ at + 2 = omega arith in
      let beyond : IsCharBoundary source (at + 2) = subst (IsCharBoundary source) end (IsCharBoundary-after_ascii source (at + 1) utf8 bracket.within (omega (arith, bracket.byte))) in
      let rest : drop (at + 1 + 1) source ≡ drop (at + 2) source = ap (λ n. drop n source) end in
      record {
        is = is-atom _ (at + 2) (record { atom = OpenBracket true; rest = drop (at + 1 + 1) source }) s.within (bang-in (91 ∷ drop (at + 1 + 1) source) s (front source (at + 1) 91 bracket)) rest
            (ap (λ t. Some (items.Opener true t)) rest) beyond tt;
        there = (refl, front source at 33 s ∙ ap (λ t. 33 ∷ t) (front source (at + 1) 91 bracket ∙ ap (λ t. 91 ∷ t) rest));
      }

  alone-bang : (text : List ℕ) → begins_with 91 text ≡ false → or_byte 33 text (bang_atom (33 ∷ text)) ≡ byte_atom 33 text
  unfolding bang_atom after_word
  alone-bang text h = grind (arith, nat_tests)

  pub bang-is-text : IsUtf8 source → Stands source at 33 → begins_with 91 (drop (at + 1) source) ≡ false → Begins rules source at read.Text (at + 1)
  bang-is-text utf8 s next = text-byte 33 s refl (byte-is 33 (byte_atom 33 (drop (at + 1) source)) utf8 s (omega arith) (bang-in (drop (at + 1) source) s refl ∙ alone-bang (drop (at + 1) source) next) refl refl)

  -- `[`

  pub opener-is : IsUtf8 source → Stands source at 91 → Begins rules source at (read.Opener false) (at + 1)
  unfolding atom_at markup_atom
  opener-is utf8 s = grind (arith, nat_tests, beyond-byte, is-atom, here, front)

  -- a run of a marker

  -- tildes are of a run only with strikethrough
  known : (m : Marker) (strike two : Bool) (run : delimiters.Run) → run.character ≡ byte_of m → (not (byte_of m == 126) || strike && two) ≡ true → kind run < kinds_with strike
  known m strike two run is e = grind (arith, nat_tests, kind-small, kind-untilded)

  abbrev run_read : ℕ → List ℕ → AtomRead
  run_read m text = record { atom = Delimiter (run_between rules m (run_length m (m ∷ text)) (reverse (take at source)) (after_run m (m ∷ text))); rest = after_run m (m ∷ text) }

  -- tildes are a run just where there are two of them and strikethrough is on
  abbrev is_struck : ℕ → List ℕ → Bool
  is_struck m text = not (m == 126) || rules.strike && run_length m (m ∷ text) == 2

  abbrev marker_read : ℕ → List ℕ → Bool → AtomRead
  marker_read m text struck = elim struck as (λ _. AtomRead) [ true ↦ run_read m text | false ↦ record { atom = Plain (replicate (run_length m (m ∷ text)) m); rest = after_run m (m ∷ text) } ]

  tildes-read : (text : List ℕ) (both : Bool) → or_byte 126 text (elim both as (λ _. Option AtomRead) [ true ↦ Some (run_read 126 text) | false ↦ read (Plain (replicate (run_length 126 (126 ∷ text)) 126)) (after_run 126 (126 ∷ text)) ]) ≡ marker_read 126 text both
  tildes-read text both = grind (arith, nat_tests)

  marker-read : (m : Marker) (text : List ℕ) → atom_at rules (reverse (take at source)) (byte_of m) text ≡ marker_read (byte_of m) text (is_struck (byte_of m) text)
  unfolding atom_at markup_atom tilde_atom run_atom
  marker-read Tilde text = tildes-read text (rules.strike && run_length 126 (126 ∷ text) == 2)
  marker-read _ text = refl

  marker-in : (m : Marker) → Stands source at (byte_of m) → atom_in rules source at ≡ marker_read (byte_of m) (drop (at + 1) source) (is_struck (byte_of m) (drop (at + 1) source))
  marker-in m s = here rules source at (byte_of m) s ∙ marker-read m (drop (at + 1) source)

  pub marker-text-is : (m : Marker) (end : ℕ) → Stands source at (byte_of m) → (not (byte_of m == 126) || rules.strike && end - at == 2) ≡ false → end ≡ at + run_length (byte_of m) (drop at source)
      → drop end source ≡ after_run (byte_of m) (drop at source) → IsCharBoundary source end → Begins rules source at read.Text end
  marker-text-is m end s struck run left boundary =
      let b = byte_of m in
      let f = front source at b s in
      let count : end - at ≡ run_length b (b ∷ drop (at + 1) source) = omega (arith, run, ap (run_length b) f) in
      run-is b end (marker_read b (drop (at + 1) source) false) s run left boundary
      (marker-in m s ∙ ap (marker_read b (drop (at + 1) source)) (ap (λ n. not (b == 126) || rules.strike && n == 2) (sym count) ∙ struck))
      (ap (after_run b) (sym f)) (ap (λ t. Some (items.Characters (replicate (run_length b t) b))) (sym f)) (run-stays b (marker-stays m))

  pub marker-run-is : (m : Marker) (run : DelimiterRun) (end : ℕ) → Stands source at (byte_of m) → (not (byte_of m == 126) || rules.strike && end - at == 2) ≡ true → end ≡ at + run_length (byte_of m) (drop at source)
      → drop end source ≡ after_run (byte_of m) (drop at source) → IsCharBoundary source end → run_of run ≡ run_between rules (byte_of m) (end - at) (reverse (take at source)) (drop end source)
      → Begins rules source at (read.Run run) end
  unfolding run_between
  marker-run-is m run end s struck size left boundary is =
      let b = byte_of m in
      let f = front source at b s in
      let count : end - at ≡ run_length b (b ∷ drop (at + 1) source) = omega (arith, size, ap (run_length b) f) in
      let same = marker-in m s ∙ ap (marker_read b (drop (at + 1) source)) (ap (λ n. not (b == 126) || rules.strike && n == 2) (sym count) ∙ struck) in
      let rest = ap (after_run b) (sym f) ∙ sym left in
      let low : at < end = further rules source at end s.within (ap (λ (t : AtomRead). t.rest) same ∙ rest) in
      let whole : run.left ≡ end - at = ap (λ (r : delimiters.Run). r.left) is in
      let size_is : end - at ≡ run_length b (drop at source) = omega (arith, size) in
      let long_is : run.whole ≡ run_length b (drop at source) = ap (λ (r : delimiters.Run). r.whole) is ∙ size_is in
      let character : byte_of run.marker ≡ b = ap (λ (r : delimiters.Run). r.character) is in
      search (
        (is-atom (items.Delimiters (run_of run)) end (run_read b (drop (at + 1) source)) s.within same rest
            (ap (λ r. Some (items.Delimiters r)) (ap (λ n. run_between rules b n (reverse (take at source)) (after_run b (b ∷ drop (at + 1) source))) (sym count)
            ∙ ap (run_between rules b (end - at) (reverse (take at source))) rest ∙ sym is)) boundary (
              known m rules.strike (end - at == 2) (run_of run) (ap (λ (r : delimiters.Run). r.character) is) struck,
              whole
                  ∙ sym (ap (λ (r : delimiters.Run). r.whole) is),
              (let long : run.whole ≡ end - at = ap (λ (r : delimiters.Run). r.whole) is in omega (arith, long, low)),
            )),
        (ap (λ n. take n (drop at source)) size_is ∙ run-front b (drop at source) ∙ ap (λ n. replicate n b) (sym long_is) ∙ ap (replicate run.whole) (sym character)),
      )

  -- a byte by itself

  pub lone-is : (b : ℕ) → IsUtf8 source → Stands source at b → b < 128 → is_markup b ≡ false → IsAtom rules source at (items.Characters (slice_range source at (at + 1))) (at + 1)
  unfolding atom_at
  lone-is b utf8 s ascii lone =
      byte-is b (byte_atom b (drop (at + 1) source)) utf8 s ascii
      (here rules source at b s ∙ ap (λ m. elim m as (λ _. AtomRead) [ true ↦ or_byte b (drop (at + 1) source) (markup_atom rules (reverse (take at source)) b (drop (at + 1) source)) | false ↦ byte_atom b (drop (at + 1) source) ]) lone) refl refl

-- a byte that is none of those
pub lone-byte : (b : ℕ) → (b ≡ 10 → ⊥) → (b ≡ 32 → ⊥) → (b ≡ 33 → ⊥) → (b ≡ 38 → ⊥) → (b ≡ 42 → ⊥) → (b ≡ 60 → ⊥) → (b ≡ 91 → ⊥) → (b ≡ 92 → ⊥) → (b ≡ 93 → ⊥) → (b ≡ 95 → ⊥) → (b ≡ 96 → ⊥) → (b ≡ 126 → ⊥)
    → is_markup b ≡ false
lone-byte b feed space bang ampersand star angle left slash right underscore tick tilde = search (rules, not-same)

-- a byte alone that is text, or that HTML escapes
module _ (rules : Rules) (source : List ℕ) (at : ℕ) where
  abbrev Alone : (atom : ReadAtom) → Type 0
  Alone atom = Begins rules source at atom (at + 1)

  pub escaped-is : (b : ℕ) → IsUtf8 source → Stands source at b → b < 128 → is_markup b ≡ false → is_escaped b ≡ true → Alone read.Escaped
  escaped-is b utf8 s ascii lone escaped = escaped-byte rules source at b s escaped (lone-is rules source at b utf8 s ascii lone)

  pub text-is : (b : ℕ) → IsUtf8 source → Stands source at b → b < 128 → is_markup b ≡ false → stays_text true b ≡ true → Alone read.Text
  text-is b utf8 s ascii lone stays = text-byte rules source at b s stays (lone-is rules source at b utf8 s ascii lone)

-- a byte that HTML doesn't escape, and that is no line feed
pub stays-lone : (b : ℕ) → is_markup b ≡ false → is_escaped b ≡ false → stays_text true b ≡ true
stays-lone b lone plain = ap (λ v. not v && not (true && b == 10)) plain ∙ ap not (not-same b 10 (λ e. false-true (sym lone ∙ ap is_markup e)))
