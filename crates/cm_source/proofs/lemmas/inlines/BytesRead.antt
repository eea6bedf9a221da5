-- What a front of a source is read as, and a spelled text by its bytes.
use Rattle.std.proofs.Common.{◌≡◌, ℕ, zero, suc, ◌<◌, Bool, true, false, ◌&&◌, ◌||◌, ◌==◌, List, [], ◌∷◌, ◌++◌, length, reverse, drop, codes, Option, Some, None, encode_utf8_all, refl, sym, ap, subst, ◌∙◌, arith, append_assoc}
use Rattle.std.specs.Prelude.{if◌then◌else◌, nat_le}
use Rattle.std.proofs.lemmas.Bool.{or_parts, cond_both, eqb-true, false≢true}
use Rattle.std.proofs.lemmas.Bool.Decides.{nat_tests}
use Rattle.std.proofs.lemmas.List.{reverse-append}
use lib.Seq.{drop_at}
use Rattle.cm_text.specs.Rules.{Rules}
use Rattle.cm_text.specs.Characters.{is_ascii_punct}
use Rattle.cm_text.specs.Unescaping.{escape}
use Rattle.cm_tree.specs.declared.tree.Inline.TheVariants.{Soft, Hard}
use Rattle.cm_scan.specs.Words.{is_empty, begins_with, run_length, after_word, after_run}
use Rattle.cm_scan.specs.inlines.Links.{Reading}
use Rattle.cm_scan.specs.inlines.Pairing.{Item, Characters}
use Rattle.cm_scan.specs.inlines.Pieces.{one_by_one}
use Rattle.cm_scan.specs.inlines.Atoms.{Atom, AtomRead, Plain, Whole, read, is_markup, backslash_atom, reference_atom, break_atom, markup_atom, byte_atom, or_byte, atom_at}
use Rattle.cm_scan.specs.inlines.Brackets.{Defined, Bracketed}
use Rattle.cm_scan.specs.inlines.Inlines.{add_atom, item_step, items_after}
use Rattle.cm_scan.proofs.lemmas.inlines.ReadingSteps.{reading_goes_on}
use Rattle.cm_scan.proofs.lemmas.inlines.PairingLemmas.{reverse-first}
use Rattle.cm_source.specs.Texts.{numbered, spelled_byte, edge_byte, spelled_text}
use Rattle.cm_source.specs.InlineRefusals.{has_nul}
use Rattle.cm_source.specs.steps.ContentBack.{is_before_line_end}
use Rattle.cm_source.proofs.lemmas.shared.ByteSpellings.{SpellsByte, ByNumber, Escaped, AsItIs, is_numbered, spells_byte, number_read}
use Rattle.cm_source.proofs.lemmas.inlines.UnescapeBack.{ascii_alone, escape_here}

-- Where a front is after these bytes and before the rest, reading continues after it with these items put to those so far.
abbrev pub ReadsAs : Rules → Defined → (before front rest : List ℕ) → List Item → Type 0
ReadsAs rules defined before front rest made =
    (items : List Item) → items_after rules defined zero before (front ++ rest) items ≡ items_after rules defined zero (reverse front ++ before) rest (reverse made ++ items)

abbrev pub left_with : List Item → List ℕ → Bracketed
left_with items rest = record { items = items; rest = rest }

abbrev pub atom_left : Atom → List ℕ → AtomRead
atom_left atom rest = record { atom = atom; rest = rest }

abbrev pub reading : (text rest : List ℕ) → Reading
reading text rest = record { text = text; rest = rest }

-- no run starts here
pub run_none : (c : ℕ) (text : List ℕ) → begins_with c text ≡ false → (run_length c text ≡ 0) × (after_run c text ≡ text)
unfolding run_length after_run
run_none c [] e = (refl, refl)
run_none c (b ∷ bs) e = (ap (λ t. elim t as (λ _. ℕ) [ true ↦ suc (run_length c bs) | false ↦ 0 ]) e, ap (λ t. elim t as (λ _. List ℕ) [ true ↦ after_run c bs | false ↦ b ∷ bs ]) e)

-- ---- the atoms of a spelled byte

atom_plain : (rules : Rules) (before : List ℕ) (b : ℕ) (bs : List ℕ) → is_markup b ≡ false → atom_at rules before b bs ≡ byte_atom b bs
unfolding atom_at
atom_plain rules before b bs e = ap (λ t. elim t as (λ _. AtomRead) [ true ↦ or_byte b bs (markup_atom rules before b bs) | false ↦ byte_atom b bs ]) e

no_feed : (text : List ℕ) → begins_with 10 text ≡ false → after_word (codes "\n") text ≡ None
unfolding after_word
no_feed [] e = refl
no_feed (b ∷ bs) e = ap (λ t. elim t as (λ _. Option (List ℕ)) [ true ↦ Some bs | false ↦ None ]) e

atom_space : (rules : Rules) (before rest : List ℕ) → is_before_line_end rest ≡ false → atom_at rules before 32 rest ≡ byte_atom 32 rest
unfolding atom_at markup_atom break_atom after_run
atom_space rules before rest e =
    ap (λ o. or_byte 32 rest (elim o as (λ _. Option AtomRead) [ Some left ↦ read (Whole (if nat_le 2 (run_length 32 (32 ∷ rest)) then Hard else Soft)) left | None ↦ None ])) (no_feed (after_run 32 rest) e)

punct_no_feed : (b : ℕ) → is_ascii_punct b ≡ true → (b == 10) ≡ false
punct_no_feed b e = grind (arith, nat_tests, e)

atom_escape : (rules : Rules) (before : List ℕ) (b : ℕ) (rest : List ℕ) → is_ascii_punct b ≡ true → atom_at rules before 92 (b ∷ rest) ≡ atom_left (Plain (b ∷ [])) rest
unfolding atom_at markup_atom backslash_atom after_word
atom_escape rules before b rest e =
    ap (λ t. or_byte 92 (b ∷ rest) (by (elim t as (λ _. Option (List ℕ)) [ true ↦ Some rest | false ↦ None ]) (escape (92 ∷ b ∷ rest)))) (punct_no_feed b e)
    ∙ ap (λ o. or_byte 92 (b ∷ rest) (by None o)) (escape_here b rest e)
  where
    by : Option (List ℕ) → Option (List ℕ × ℕ) → Option AtomRead
    by o p = elim o [ Some rest ↦ read (Whole Hard) rest | None ↦ elim p as (λ _. Option AtomRead) [ Some escaped ↦ read (Plain escaped.0) (drop escaped.1 (92 ∷ b ∷ rest)) | None ↦ None ] ]

atom_number : (rules : Rules) (before : List ℕ) (b : ℕ) (rest : List ℕ) → b < 128 → (b == 0) ≡ false
    → atom_at rules before 38 (drop 1 (numbered b) ++ rest) ≡ atom_left (Plain (b ∷ [])) rest
unfolding atom_at markup_atom reference_atom
atom_number rules before b rest low some =
    ap (λ o. or_byte 38 (drop 1 (numbered b) ++ rest) (by o)) (number_read b rest low some)
    ∙ ap (λ t. atom_left (Plain t) (drop (length (numbered b)) (numbered b ++ rest))) (ascii_alone b low)
    ∙ ap (λ t. atom_left (Plain (b ∷ [])) t) (drop_at (numbered b) rest (length (numbered b)) refl)
  where
    by : Option (List ℕ × ℕ) → Option AtomRead
    by o = elim o [ Some found ↦ read (Plain (encode_utf8_all found.0)) (drop found.1 (numbered b ++ rest)) | None ↦ None ]

-- ---- where a line ends

pub no-line-here : (b : ℕ) (rest : List ℕ) → (b == 32) ≡ false → (b == 10) ≡ false → is_before_line_end (b ∷ rest) ≡ false
unfolding after_run
no-line-here b rest e f = ap (λ t. begins_with 10 (elim t as (λ _. List ℕ) [ true ↦ after_run 32 rest | false ↦ b ∷ rest ])) e ∙ f

printed_no_feed : (b : ℕ) → is_numbered b ≡ false → (b == 10) ≡ false
printed_no_feed b e = grind (arith, nat_tests, e)

-- none ends right before a byte that is no space
spelling_no_line : (b : ℕ) (front rest : List ℕ) → SpellsByte b front → (b == 32) ≡ false → is_before_line_end (front ++ rest) ≡ false
unfolding after_run
spelling_no_line b front rest (ByNumber low) e = refl
spelling_no_line b front rest (Escaped punct tick) e = refl
spelling_no_line b front rest (AsItIs printed plain) e = no-line-here b rest e (printed_no_feed b printed)

edge_no_line : (at_edge : Bool) (b : ℕ) (rest : List ℕ) → (at_edge ≡ false → is_before_line_end rest ≡ false) → is_before_line_end (edge_byte at_edge b ++ rest) ≡ false
unfolding spelled_byte after_run
edge_no_line true b rest h = cond_both (b == 32) (numbered 32) (spelled_byte b) (λ t. is_before_line_end (t ++ rest) ≡ false) (λ e. refl) (λ e. spelling_no_line b (spelled_byte b) rest (spells_byte b) e)
edge_no_line false b rest h = go (b == 32) refl
  where
    go : (t : Bool) → (b == 32) ≡ t → is_before_line_end (spelled_byte b ++ rest) ≡ false
    go true e = subst (λ c. is_before_line_end (spelled_byte c ++ rest) ≡ false) (sym (eqb-true b 32 e)) (h refl)
    go false e = spelling_no_line b (spelled_byte b) rest (spells_byte b) e

-- none ends after a byte of a text that is no edge
text_no_line : (first last : Bool) (bs rest : List ℕ) → (last ≡ false → is_before_line_end rest ≡ false) → (first || last && is_empty bs) ≡ false
    → is_before_line_end (spelled_text false last bs ++ rest) ≡ false
unfolding spelled_text
text_no_line first false [] rest h e = h refl
text_no_line first true [] rest h e = absurd (false≢true (sym (or_parts first true e).1))
text_no_line first last (b ∷ bs) rest h e =
    subst (λ t. is_before_line_end t ≡ false) (sym (append_assoc (edge_byte (last && is_empty bs) b) (spelled_text false last bs) rest))
    (edge_no_line (last && is_empty bs) b (spelled_text false last bs ++ rest) (λ f. text_no_line false last bs rest h f))

-- ---- reading on

module _ (rules : Rules) (defined : Defined) where
  -- where one step takes a front, reading continues after it
  pub step_read : (before : List ℕ) (b : ℕ) (taken rest : List ℕ) (items more : List Item) → item_step rules defined before b (taken ++ rest) items ≡ left_with more rest
      → items_after rules defined zero before (b ∷ taken ++ rest) items ≡ items_after rules defined zero (reverse (b ∷ taken) ++ before) rest more
  step_read before b taken rest items more e =
      reading_goes_on rules defined before b taken rest items (ap (λ (next : Bracketed). next.rest) e)
      ∙ ap (λ (next : Bracketed). items_after rules defined zero (reverse taken ++ b ∷ before) rest next.items) e
      ∙ ap (λ passed. items_after rules defined zero passed rest more) (sym (reverse-first b taken before))

  -- the step at an atom
  pub atom_step : (before : List ℕ) (b : ℕ) (bs : List ℕ) (items : List Item) (a : AtomRead) → atom_at rules before b bs ≡ a → item_step rules defined before b bs items ≡ add_atom rules defined items a.atom a.rest
  unfolding item_step
  atom_step before b bs items a e = ap (λ (r : AtomRead). add_atom rules defined items r.atom r.rest) e

  pub reads_nothing : (before rest : List ℕ) → ReadsAs rules defined before [] rest []
  reads_nothing before rest items = refl

  -- one front, and another after it
  pub reads_then : (before front further rest : List ℕ) (made more : List Item) → ReadsAs rules defined before front (further ++ rest) made → ReadsAs rules defined (reverse front ++ before) further rest more
      → ReadsAs rules defined before (front ++ further) rest (made ++ more)
  reads_then before front further rest made more h k items =
      ap (λ t. items_after rules defined zero before t items) (append_assoc front further rest)
      ∙ h items ∙ k (reverse made ++ items)
      ∙ ap (λ passed. items_after rules defined zero passed rest (reverse more ++ (reverse made ++ items))) (sym (append_assoc (reverse further) (reverse front) before) ∙ ap (λ t. t ++ before) (sym (reverse-append front further)))
      ∙ ap (λ all. items_after rules defined zero (reverse (front ++ further) ++ before) rest all) (sym (append_assoc (reverse more) (reverse made) items) ∙ ap (λ t. t ++ items) (sym (reverse-append made more)))

  reads_plain : (before : List ℕ) (b : ℕ) (taken rest text : List ℕ) → atom_at rules before b (taken ++ rest) ≡ atom_left (Plain text) rest → ReadsAs rules defined before (b ∷ taken) rest (Characters text ∷ [])
  unfolding add_atom
  reads_plain before b taken rest text e items = step_read before b taken rest items (Characters text ∷ items) (atom_step before b (taken ++ rest) items (atom_left (Plain text) rest) e)

  reads_number : (before : List ℕ) (b : ℕ) (rest : List ℕ) → b < 128 → (b == 0) ≡ false → ReadsAs rules defined before (numbered b) rest (one_by_one (b ∷ []))
  reads_number before b rest low some = reads_plain before 38 (drop 1 (numbered b)) rest (b ∷ []) (atom_number rules before b rest low some)

  no_markup : (b : ℕ) → is_numbered b ≡ false → is_ascii_punct b ≡ false → (b == 32) ≡ false → is_markup b ≡ false
  no_markup b e f g = grind (arith, nat_tests, e, f, g)

  reads_spelling : (before : List ℕ) (b : ℕ) (front rest : List ℕ) → SpellsByte b front → (b == 0) ≡ false → ((b == 32) ≡ true → is_before_line_end rest ≡ false) → ReadsAs rules defined before front rest (one_by_one (b ∷ []))
  reads_spelling before b front rest (ByNumber low) some h = reads_number before b rest low some
  reads_spelling before b front rest (Escaped punct tick) some h = reads_plain before 92 (b ∷ []) rest (b ∷ []) (atom_escape rules before b rest punct)
  reads_spelling before b front rest (AsItIs printed plain) some h = go (b == 32) refl
    where
      go : (t : Bool) → (b == 32) ≡ t → ReadsAs rules defined before (b ∷ []) rest (one_by_one (b ∷ []))
      go false e = reads_plain before b [] rest (b ∷ []) (atom_plain rules before b rest (no_markup b printed plain e))
      go true e = subst (λ c. ReadsAs rules defined before (c ∷ []) rest (one_by_one (c ∷ []))) (sym (eqb-true b 32 e)) (reads_plain before 32 [] rest (32 ∷ []) (atom_space rules before rest (h e)))

  reads_edge : (before : List ℕ) (at_edge : Bool) (b : ℕ) (rest : List ℕ) → (b == 0) ≡ false → (at_edge ≡ false → is_before_line_end rest ≡ false) → ReadsAs rules defined before (edge_byte at_edge b) rest (one_by_one (b ∷ []))
  reads_edge before false b rest some h = reads_spelling before b (spelled_byte b) rest (spells_byte b) some (λ e. h refl)
  reads_edge before true b rest some h = cond_both (b == 32) (numbered 32) (spelled_byte b) (λ front. ReadsAs rules defined before front rest (one_by_one (b ∷ [])))
      (λ e. subst (λ c. ReadsAs rules defined before (numbered 32) rest (one_by_one (c ∷ []))) (sym (eqb-true b 32 e)) (reads_number before 32 rest (omega arith) refl))
      (λ e. reads_spelling before b (spelled_byte b) rest (spells_byte b) some (λ g. absurd (false≢true (sym e ∙ g))))

  -- a text is read byte by byte
  pub reads_text : (before : List ℕ) (first last : Bool) (text rest : List ℕ) → has_nul text ≡ false → (last ≡ false → is_before_line_end rest ≡ false) → ReadsAs rules defined before (spelled_text first last text) rest (one_by_one text)
  unfolding spelled_text
  reads_text before first last [] rest some h = reads_nothing before rest
  reads_text before first last (b ∷ bs) rest some h =
      let parts = or_parts (b == 0) (has_nul bs) some in
      let here = edge_byte (first || last && is_empty bs) b in
      reads_then before here (spelled_text false last bs) rest (one_by_one (b ∷ [])) (one_by_one bs)
      (reads_edge before (first || last && is_empty bs) b (spelled_text false last bs ++ rest) parts.0 (λ e. text_no_line first last bs rest h e))
      (reads_text (reverse here ++ before) false last bs rest parts.1 h)
