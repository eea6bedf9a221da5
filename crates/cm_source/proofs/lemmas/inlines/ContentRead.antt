-- Contents that fit read back.
use Rattle.std.proofs.Common.{◌≡◌, ℕ, zero, suc, Bool, true, false, not, ◌&&◌, ◌||◌, ◌==◌, List, [], ◌∷◌, ◌++◌, replicate, reverse, map, drop, codes, Option, Some, None, refl, sym, ap, subst, ◌∙◌, append_assoc, append-nil}
use Rattle.std.specs.Prelude.{⊤, if◌then◌else◌}
use Rattle.std.proofs.lemmas.List.{reverse-append, reverse-reverse}
use Rattle.cm_text.specs.Rules.{Rules}
use Rattle.cm_text.specs.Addresses.{is_followed}
use Rattle.cm_tree.specs.declared.tree.Inline.{Inline}
use Rattle.cm_tree.specs.declared.tree.Inline.TheVariants.{Text, Code, Html, Soft, Hard, Link, Image}
use Rattle.cm_scan.specs.Words.{is_empty, begins_with, run_length, after_run, after_word}
use Rattle.cm_scan.specs.inlines.Delimiters.{Run}
use Rattle.cm_scan.specs.inlines.Pairing.{Item, Characters, Finished, Linked, Delimiters, Opener, emphasis_of, emphasised}
use Rattle.cm_scan.specs.inlines.Pieces.{one_by_one}
use Rattle.cm_scan.specs.inlines.Atoms.{AtomRead, Plain, Whole, Delimiter, OpenBracket, read, or_byte, backslash_atom, break_atom, run_between, run_atom, tilde_atom, bang_atom, markup_atom, atom_at}
use Rattle.cm_scan.specs.inlines.Brackets.{Defined, Bracketed, LinkEnd, link_end, OpenerFound, last_opener, is_linked, holds_link, made, bracket_is_text, brackets_are_text, source_up_to, end_at, closed_by_bracket, close_bracket}
use Rattle.cm_scan.specs.inlines.Inlines.{add_atom, items_after, items_of, inlines_of}
use Rattle.cm_scan.proofs.lemmas.inlines.ReadingSteps.{bracket_step}
use Rattle.cm_scan.proofs.lemmas.inlines.PairingLemmas.{reverse-first}
use Rattle.cm_source.specs.Texts.{spelled_text, spelled_code, spelled_target}
use Rattle.cm_source.specs.Inlines.{is_line_end, join, spelled, spelled_inlines, spelled_content}
use Rattle.cm_source.specs.InlineRefusals.{has_nul, is_text, first_face, hold_link, Judged, judged}
use Rattle.cm_source.specs.InlineRefusals as refusals
use Rattle.cm_source.specs.steps.ContentBack.{Mark, Star, TwoStars, TwoTildes, character_of, count_of, written, is_known, IsBetween, Fits, FitsText, FitsCode, FitsHtml, FitsSoft, FitsHard, FitsEmphasis, FitsLink, FitsImage, FitsAll, FitsNone, FitsNext, FittingReadsBack}
use Rattle.cm_source.proofs.lemmas.inlines.BytesRead.{ReadsAs, left_with, atom_left, run_none, step_read, atom_step, reads_nothing, reads_then, reads_text}
use Rattle.cm_source.proofs.lemmas.inlines.CodesRead.{atom_code}
use Rattle.cm_source.proofs.lemmas.inlines.TagsRead.{some_tag, atom_tag}
use Rattle.cm_source.proofs.lemmas.inlines.TargetsRead.{end_read}
use Rattle.cm_source.proofs.lemmas.shared.Alike.{its-spelling}
use Rattle.cm_source.proofs.lemmas.inlines.InlineItems.{Shape, Nothing, Bytes, Marked, opening, closing, emphasis, emphasis_is}
use Rattle.cm_source.proofs.lemmas.inlines.InlineItems as shape
use Rattle.cm_tree.proofs.lemmas.InlineFolds as inline_fold
use Rattle.cm_source.specs.Inlines as spelling

-- ---- how an inline is seen and spelled

-- whether it is a text, and whether it is or holds a link
record Seen (rules : Rules) (inline : Inline) (as_text as_link : Bool) : Type 0 where
  text : is_text (Some (judged rules inline).face) ≡ as_text
  link : (judged rules inline).has_link ≡ as_link

seen-as : (rules : Rules) {inline : Inline} {j : Judged} → judged rules inline ≡ j → Seen rules inline (is_text (Some j.face)) j.has_link
seen-as rules e = record { text = ap (λ (j : Judged). is_text (Some j.face)) e; link = ap (λ (j : Judged). j.has_link) e }

marked_seen : (rules : Rules) (mark : Mark) (content : List Inline) → Seen rules (emphasised (character_of mark) (count_of mark) content) false (hold_link (map (judged rules) content))
marked_seen rules Star content = seen-as rules (inline_fold.emph (refusals.inline_step rules) content)
marked_seen rules TwoStars content = seen-as rules (inline_fold.strong (refusals.inline_step rules) content)
marked_seen rules TwoTildes content = seen-as rules (inline_fold.strike (refusals.inline_step rules) content)

marked_is : (mark : Mark) (content : List Inline) (first last : Bool) → (spelled (emphasised (character_of mark) (count_of mark) content)).spelling first last ≡ written mark ++ spelled_inlines false false content ++ written mark
marked_is Star content first last = its-spelling (inline_fold.emph spelling.inline_step content) first last
marked_is TwoStars content first last = its-spelling (inline_fold.strong spelling.inline_step content) first last
marked_is TwoTildes content first last = its-spelling (inline_fold.strike spelling.inline_step content) first last

-- ---- items without brackets

abbrev IsNoBracket : Item → Type 0
IsNoBracket (Opener image source) = ⊥
IsNoBracket _ = ⊤

NoBrackets : List Item → Type 0
NoBrackets [] = ⊤
NoBrackets (item ∷ items) = IsNoBracket item × NoBrackets items

brackets_append : (xs ys : List Item) → NoBrackets xs → NoBrackets ys → NoBrackets (xs ++ ys)
unfolding NoBrackets
brackets_append [] ys h k = k
brackets_append (x ∷ xs) ys h k = (h.0, brackets_append xs ys h.1 k)

brackets_bytes : (text : List ℕ) → NoBrackets (one_by_one text)
unfolding NoBrackets
brackets_bytes [] = tt
brackets_bytes (b ∷ bs) = (tt, brackets_bytes bs)

brackets_reverse : (xs : List Item) → NoBrackets xs → NoBrackets (reverse xs)
unfolding NoBrackets
brackets_reverse [] h = tt
brackets_reverse (x ∷ xs) h = subst NoBrackets (sym (reverse-append (x ∷ []) xs)) (brackets_append (reverse xs) (x ∷ []) (brackets_reverse xs h.1) (h.0, tt))

-- and links among items

links_append : (xs ys : List Item) → holds_link (xs ++ ys) ≡ (holds_link xs || holds_link ys)
unfolding holds_link
links_append [] ys = refl
links_append (x ∷ xs) ys = go (is_linked x) (links_append xs ys)
  where
    go : (t : Bool) → holds_link (xs ++ ys) ≡ (holds_link xs || holds_link ys) → (t || holds_link (xs ++ ys)) ≡ ((t || holds_link xs) || holds_link ys)
    go true h = refl
    go false h = h

links_bytes : (text : List ℕ) → holds_link (one_by_one text) ≡ false
unfolding holds_link
links_bytes [] = refl
links_bytes (b ∷ bs) = links_bytes bs

-- ---- the nearest opener

abbrev found_at : (before : List Item) (image : Bool) (source : List ℕ) (inside : List Item) → OpenerFound
found_at before image source inside = record { before = before; image = image; source = source; inside = inside }

opener_found : (xs items inside : List Item) (image : Bool) (source : List ℕ) → NoBrackets xs → last_opener (xs ++ Opener image source ∷ items) inside ≡ Some (found_at items image source (reverse xs ++ inside))
unfolding last_opener NoBrackets
opener_found [] items inside image source h = refl
opener_found (Characters text ∷ xs) items inside image source h =
    opener_found xs items (Characters text ∷ inside) image source h.1 ∙ ap (λ t. Some (found_at items image source t)) (sym (reverse-first (Characters text) xs inside))
opener_found (Finished inline ∷ xs) items inside image source h =
    opener_found xs items (Finished inline ∷ inside) image source h.1 ∙ ap (λ t. Some (found_at items image source t)) (sym (reverse-first (Finished inline) xs inside))
opener_found (Linked inline ∷ xs) items inside image source h =
    opener_found xs items (Linked inline ∷ inside) image source h.1 ∙ ap (λ t. Some (found_at items image source t)) (sym (reverse-first (Linked inline) xs inside))
opener_found (Delimiters run ∷ xs) items inside image source h =
    opener_found xs items (Delimiters run ∷ inside) image source h.1 ∙ ap (λ t. Some (found_at items image source t)) (sym (reverse-first (Delimiters run) xs inside))
opener_found (Opener image' source' ∷ xs) items inside image source h = absurd h.0

-- what a `]` makes, followed by this end
bracket_closes : (rules : Rules) (defined : Defined) (text rest dest title : List ℕ) (items inside : List Item) (image : Bool) (source : List ℕ) → NoBrackets inside → (not image && holds_link inside) ≡ false
    → ((between : List ℕ) → end_at rules defined between text ≡ Some (link_end (dest, title) rest))
    → close_bracket rules defined (reverse inside ++ Opener image source ∷ items) text ≡ left_with (made image dest title inside ∷ items) rest
unfolding close_bracket closed_by_bracket
bracket_closes rules defined text rest dest title items inside image source h l e =
    ap by_opener (opener_found (reverse inside) items [] image source (brackets_reverse inside h) ∙ ap (λ t. Some (found_at items image source t)) (append-nil (reverse (reverse inside)) ∙ reverse-reverse inside))
    ∙ ap by_links l
    ∙ ap by_end (e (source_up_to source (93 ∷ text)))
  where
    found : OpenerFound
    found = found_at items image source inside

    by_opener : Option OpenerFound → Bracketed
    by_opener o = elim o [ Some f ↦ closed_by_bracket rules defined f text | None ↦ left_with (bracket_is_text (reverse inside ++ Opener image source ∷ items)) text ]

    by_end : Option LinkEnd → Bracketed
    by_end o = elim o [ Some end ↦ left_with (made image end.dest end.title inside ∷ items) end.rest | None ↦ left_with (brackets_are_text found) text ]

    by_links : Bool → Bracketed
    by_links t = elim t [ true ↦ left_with (brackets_are_text found) text | false ↦ by_end (end_at rules defined (source_up_to source (93 ∷ text)) text) ]

-- ---- atoms

atom_soft : (rules : Rules) (before rest : List ℕ) → atom_at rules before 10 rest ≡ atom_left (Whole Soft) rest
unfolding atom_at markup_atom break_atom after_run after_word run_length
atom_soft rules before rest = refl

atom_hard : (rules : Rules) (before rest : List ℕ) → atom_at rules before 92 (10 ∷ rest) ≡ atom_left (Whole Hard) rest
unfolding atom_at markup_atom backslash_atom after_word
atom_hard rules before rest = refl

-- `[` and `![`
abbrev bracket_bytes : (image : Bool) → List ℕ
bracket_bytes false = codes "["
bracket_bytes true = codes "!["

-- a run of the length of a mark

-- the first byte of a mark, and the others
abbrev further : Mark → List ℕ
further mark = drop 1 (written mark)

atom_run : (rules : Rules) (mark : Mark) (before rest : List ℕ) → is_known rules mark ≡ true → begins_with (character_of mark) rest ≡ false
    → atom_at rules before (character_of mark) (further mark ++ rest) ≡ atom_left (Delimiter (run_between rules (character_of mark) (count_of mark) before rest)) rest
unfolding atom_at markup_atom tilde_atom run_atom run_length after_run
atom_run rules Star before rest known e =
    let alone = run_none 42 rest e in
    ap (λ t. atom_left (Delimiter (run_between rules 42 (suc (run_length 42 rest)) before t)) t) alone.1 ∙ ap (λ n. atom_left (Delimiter (run_between rules 42 (suc n) before rest)) rest) alone.0
atom_run rules TwoStars before rest known e =
    let alone = run_none 42 rest e in
    ap (λ t. atom_left (Delimiter (run_between rules 42 (suc (suc (run_length 42 rest))) before t)) t) alone.1 ∙ ap (λ n. atom_left (Delimiter (run_between rules 42 (suc (suc n)) before rest)) rest) alone.0
atom_run rules TwoTildes before rest known e =
    let alone = run_none 126 rest e in
    ap (λ t. or_byte 126 (126 ∷ rest) (by (t && suc (suc (run_length 126 rest)) == 2))) known
    ∙ ap (λ n. or_byte 126 (126 ∷ rest) (by (suc (suc n) == 2))) alone.0
    ∙ ap (λ t. atom_left (Delimiter (run_between rules 126 (suc (suc (run_length 126 rest))) before t)) t) alone.1 ∙ ap (λ n. atom_left (Delimiter (run_between rules 126 (suc (suc n)) before rest)) rest) alone.0
  where
    by : Bool → Option AtomRead
    by t = elim t [
      | true ↦ run_atom rules before 126 (126 ∷ 126 ∷ rest)
      | false ↦ read (Plain (replicate (suc (suc (run_length 126 rest))) 126)) (after_run 126 rest)
    ]

-- ---- reading

reverse_mark : (mark : Mark) → reverse (written mark) ≡ written mark
reverse_mark Star = refl
reverse_mark TwoStars = refl
reverse_mark TwoTildes = refl

first_of_mark : (mark : Mark) → written mark ≡ character_of mark ∷ further mark
first_of_mark Star = refl
first_of_mark TwoStars = refl
first_of_mark TwoTildes = refl

-- a run that may open, and one that may close
opening_is : (rules : Rules) (mark : Mark) (before rest : List ℕ) → (run_between rules (character_of mark) (count_of mark) before rest).opens ≡ true
    → run_between rules (character_of mark) (count_of mark) before rest ≡ opening mark (run_between rules (character_of mark) (count_of mark) before rest).closes
unfolding run_between
opening_is rules mark before rest e =
    let run : Run = run_between rules (character_of mark) (count_of mark) before rest in
    ap (λ (t : Bool). record { character = character_of mark; whole = count_of mark; left = count_of mark; opens = t; closes = run.closes }) e

closing_is : (rules : Rules) (mark : Mark) (before rest : List ℕ) → (run_between rules (character_of mark) (count_of mark) before rest).closes ≡ true
    → run_between rules (character_of mark) (count_of mark) before rest ≡ closing mark (run_between rules (character_of mark) (count_of mark) before rest).opens
unfolding run_between
closing_is rules mark before rest e =
    let run : Run = run_between rules (character_of mark) (count_of mark) before rest in
    ap (λ (t : Bool). record { character = character_of mark; whole = count_of mark; left = count_of mark; opens = run.opens; closes = t }) e

module _ (rules : Rules) (defined : Defined) where
  -- with these items so far, and those after the front
  Goes : (before front rest : List ℕ) → List Item → List Item → Type 0
  Goes before front rest items more = items_after rules defined zero before (front ++ rest) items ≡ items_after rules defined zero (reverse front ++ before) rest more

  goes_then : (before front further rest : List ℕ) (items more most : List Item) → Goes before front (further ++ rest) items more → Goes (reverse front ++ before) further rest more most → Goes before (front ++ further) rest items most
  unfolding Goes
  goes_then before front further rest items more most h k =
      ap (λ t. items_after rules defined zero before t items) (append_assoc front further rest)
      ∙ h ∙ k
      ∙ ap (λ passed. items_after rules defined zero passed rest most) (sym (append_assoc (reverse further) (reverse front) before) ∙ ap (λ t. t ++ before) (sym (reverse-append front further)))

  goes_open : (before rest : List ℕ) (items : List Item) (image : Bool) → Goes before (bracket_bytes image) rest items (Opener image rest ∷ items)
  unfolding Goes add_atom atom_at markup_atom bang_atom after_word
  goes_open before rest items false = step_read rules defined before 91 [] rest items (Opener false rest ∷ items) (atom_step rules defined before 91 rest items (atom_left (OpenBracket false) rest) refl)
  goes_open before rest items true = step_read rules defined before 33 (91 ∷ []) rest items (Opener true rest ∷ items) (atom_step rules defined before 33 (91 ∷ rest) items (atom_left (OpenBracket true) rest) refl)

  -- what is between brackets, with a target after it
  reads_brackets : (before content dest title rest : List ℕ) (inside : List Item) (image : Bool) → NoBrackets inside → (not image && holds_link inside) ≡ false → has_nul dest ≡ false → has_nul title ≡ false → is_followed rules dest ≡ true
      → ReadsAs rules defined (reverse (bracket_bytes image) ++ before) content (spelled_target dest title ++ rest) inside
      → ReadsAs rules defined before (bracket_bytes image ++ (content ++ spelled_target dest title)) rest (made image dest title inside ∷ [])
  unfolding Goes spelled_target
  reads_brackets before content dest title rest inside image h l d t f inner items =
      let target : List ℕ = spelled_target dest title in
      let opened : List ℕ = reverse (bracket_bytes image) ++ before in
      let opener : Item = Opener image ((content ++ target) ++ rest) in
      let out : List Item = made image dest title inside ∷ items in
      goes_then before (bracket_bytes image) (content ++ target) rest items (opener ∷ items) out (goes_open before ((content ++ target) ++ rest) items image)
      (goes_then opened content target rest (opener ∷ items) (reverse inside ++ opener ∷ items) out (inner (opener ∷ items))
      (step_read rules defined (reverse content ++ opened) 93 (drop 1 target) rest (reverse inside ++ opener ∷ items) out
      (bracket_step rules defined (reverse content ++ opened) (drop 1 target ++ rest) (reverse inside ++ opener ∷ items)
      ∙ bracket_closes rules defined (drop 1 target ++ rest) rest dest title items inside image ((content ++ target) ++ rest) h l (λ between. end_read rules defined between dest title rest d t f))))

  reads_whole : (before : List ℕ) (b : ℕ) (taken rest : List ℕ) (inline : Inline) → atom_at rules before b (taken ++ rest) ≡ atom_left (Whole inline) rest → ReadsAs rules defined before (b ∷ taken) rest (Finished inline ∷ [])
  unfolding add_atom
  reads_whole before b taken rest inline e items = step_read rules defined before b taken rest items (Finished inline ∷ items) (atom_step rules defined before b (taken ++ rest) items (atom_left (Whole inline) rest) e)

  reads_run : (mark : Mark) (before rest : List ℕ) (run : Run) → is_known rules mark ≡ true → begins_with (character_of mark) rest ≡ false → run_between rules (character_of mark) (count_of mark) before rest ≡ run
      → ReadsAs rules defined before (written mark) rest (Delimiters run ∷ [])
  unfolding add_atom
  reads_run mark before rest run known ends is = subst (λ t. ReadsAs rules defined before t rest (Delimiters run ∷ [])) (sym (first_of_mark mark)) (λ items.
      step_read rules defined before (character_of mark) (further mark) rest items (Delimiters run ∷ items)
      (atom_step rules defined before (character_of mark) (further mark ++ rest) items (atom_left (Delimiter run) rest) (atom_run rules mark before rest known ends ∙ ap (λ r. atom_left (Delimiter r) rest) is)))

  -- An inline is read as items, before what follows where no text comes next to a text.
  record IsRead (runs : Bool) (before front rest : List ℕ) (inline : Inline) : Type 0 where
    items : List Item
    shaped : (text_first : Bool) (inlines : List Inline) (others : List Item) → (is_text (Some (judged rules inline).face) && text_first) ≡ false → Shape runs text_first inlines others
        → Shape runs (is_text (Some (judged rules inline).face)) (inline ∷ inlines) (items ++ others)
    brackets : NoBrackets items
    links : holds_link items ≡ (judged rules inline).has_link
    reads : ReadsAs rules defined before front rest items

  record AreRead (runs : Bool) (before front rest : List ℕ) (inlines : List Inline) : Type 0 where
    items : List Item
    shaped : Shape runs (is_text (first_face (map (judged rules) inlines))) inlines items
    brackets : NoBrackets items
    links : holds_link items ≡ hold_link (map (judged rules) inlines)
    reads : ReadsAs rules defined before front rest items

  -- an inline that is one item, marked as a link or not
  abbrev single : (linked : Bool) → Inline → Item
  single linked inline = if linked then Linked inline else Finished inline

  one_item : (runs : Bool) (before front rest : List ℕ) (inline : Inline) (linked : Bool) → Seen rules inline false linked → ReadsAs rules defined before front rest (single linked inline ∷ []) → IsRead runs before front rest inline
  unfolding NoBrackets holds_link
  one_item runs before front rest inline true seen reads = record {
    items = Linked inline ∷ [];
    shaped = λ text_first inlines others e s. subst (λ t. Shape runs t (inline ∷ inlines) (Linked inline ∷ others)) (sym seen.text) (shape.Link s);
    brackets = (tt, tt);
    links = sym seen.link;
    reads = reads;
  }
  one_item runs before front rest inline false seen reads = record {
    items = Finished inline ∷ [];
    shaped = λ text_first inlines others e s. subst (λ t. Shape runs t (inline ∷ inlines) (Finished inline ∷ others)) (sym seen.text) (shape.Whole s);
    brackets = (tt, tt);
    links = sym seen.link;
    reads = reads;
  }

  read_text : (runs first last : Bool) (before text rest : List ℕ) → is_empty text ≡ false → has_nul text ≡ false → (last ≡ false → begins_with 10 (after_run 32 rest) ≡ false)
      → IsRead runs before (spelled_text first last text) rest (Text text)
  read_text runs first last before text rest some free line =
      let seen = seen-as rules (inline_fold.text (refusals.inline_step rules) text) in
      record {
        items = one_by_one text;
        shaped = λ text_first inlines others e s.
            subst (λ t. Shape runs t (Text text ∷ inlines) (one_by_one text ++ others)) (sym seen.text)
            (Bytes some (subst (λ t. Shape runs t inlines others) (sym (ap (λ t. t && text_first) seen.text) ∙ e) s));
        brackets = brackets_bytes text;
        links = links_bytes text ∙ sym seen.link;
        reads = reads_text rules defined before first last text rest free line;
      }

  -- a content between marks
  read_marked : (mark : Mark) (before front rest : List ℕ) (content : List Inline) → IsBetween rules mark before front rest → AreRead false (written mark ++ before) front (written mark ++ rest) content
      → IsRead true before (written mark ++ front ++ written mark) rest (emphasis mark content)
  unfolding NoBrackets holds_link
  read_marked mark before front rest content between inner =
      let seen = marked_seen rules mark content in
      let inside = inner.items in
      let whole : List ℕ = front ++ (written mark ++ rest) in
      let passed : List ℕ = reverse (written mark ++ front) ++ before in
      let same_rest : front ++ written mark ++ rest ≡ whole = append_assoc front (written mark) rest in
      let same_passed : reverse front ++ written mark ++ before ≡ passed = ap (λ t. t ++ before) (ap (λ t. reverse front ++ t) (sym (reverse_mark mark)) ∙ sym (reverse-append (written mark) front)) in
      let opens : (run_between rules (character_of mark) (count_of mark) before whole).opens ≡ true = subst (λ t. (run_between rules (character_of mark) (count_of mark) before t).opens ≡ true) same_rest between.opens in
      let closes : (run_between rules (character_of mark) (count_of mark) passed rest).closes ≡ true = subst (λ t. (run_between rules (character_of mark) (count_of mark) t rest).closes ≡ true) same_passed between.closes in
      let first = opening mark (run_between rules (character_of mark) (count_of mark) before whole).closes in
      let second = closing mark (run_between rules (character_of mark) (count_of mark) passed rest).opens in
      record {
        items = (Delimiters first ∷ inside) ++ Delimiters second ∷ [];
        shaped = λ text_first inlines others e s.
            subst (λ t. Shape true t (emphasis mark content ∷ inlines) (((Delimiters first ∷ inside) ++ Delimiters second ∷ []) ++ others)) (sym seen.text)
            (subst (λ t. Shape true false (emphasis mark content ∷ inlines) t) (sym (append_assoc (Delimiters first ∷ inside) (Delimiters second ∷ []) others))
            (Marked mark (run_between rules (character_of mark) (count_of mark) passed rest).opens (run_between rules (character_of mark) (count_of mark) before whole).closes inner.shaped s));
        brackets = (tt, brackets_append inside (Delimiters second ∷ []) inner.brackets (tt, tt));
        links = links_append inside (Delimiters second ∷ []) ∙ or_none (holds_link inside) ∙ inner.links ∙ sym seen.link;
        reads = reads_then rules defined before (written mark ++ front) (written mark) rest (Delimiters first ∷ inside) (Delimiters second ∷ [])
            (reads_then rules defined before (written mark) front (written mark ++ rest) (Delimiters first ∷ []) inside
            (reads_run mark before whole first between.known (subst (λ t. begins_with (character_of mark) t ≡ false) same_rest between.first_ends) (opening_is rules mark before whole opens))
            (subst (λ t. ReadsAs rules defined (t ++ before) front (written mark ++ rest) inside) (sym (reverse_mark mark)) inner.reads))
            (reads_run mark passed rest second between.known between.second_ends (closing_is rules mark passed rest closes));
      }
    where
      or_none : (t : Bool) → (t || (false || false)) ≡ t
      or_none true = refl
      or_none false = refl

  -- and between brackets
  read_link : (runs : Bool) (before front rest dest title : List ℕ) (content : List Inline) → has_nul dest ≡ false → has_nul title ≡ false → hold_link (map (judged rules) content) ≡ false → is_followed rules dest ≡ true
      → AreRead true (91 ∷ before) front (spelled_target dest title ++ rest) content
      → IsRead runs before (codes "[" ++ (front ++ spelled_target dest title)) rest (Link dest title content)
  read_link runs before front rest dest title content d t none f inner =
      one_item runs before (codes "[" ++ (front ++ spelled_target dest title)) rest (Link dest title content) true (seen-as rules (inline_fold.link (refusals.inline_step rules) dest title content))
      (subst (λ c. ReadsAs rules defined before (codes "[" ++ (front ++ spelled_target dest title)) rest (Linked (Link dest title c) ∷ [])) (emphasis_is inner.shaped)
      (reads_brackets before front dest title rest inner.items false inner.brackets (inner.links ∙ none) d t f inner.reads))

  read_image : (runs : Bool) (before front rest dest title : List ℕ) (content : List Inline) → has_nul dest ≡ false → has_nul title ≡ false → is_followed rules dest ≡ true
      → AreRead true (91 ∷ 33 ∷ before) front (spelled_target dest title ++ rest) content
      → IsRead runs before (codes "![" ++ (front ++ spelled_target dest title)) rest (Image dest title content)
  read_image runs before front rest dest title content d t f inner =
      one_item runs before whole rest image (hold_link (map (judged rules) content)) (seen-as rules (inline_fold.image (refusals.inline_step rules) dest title content))
      (subst (λ linked. ReadsAs rules defined before whole rest (single linked image ∷ [])) inner.links
      (subst (λ c. ReadsAs rules defined before whole rest (single (holds_link inner.items) (Image dest title c) ∷ [])) (emphasis_is inner.shaped)
      (reads_brackets before front dest title rest inner.items true inner.brackets refl d t f inner.reads)))
    where
      whole : List ℕ
      whole = codes "![" ++ (front ++ spelled_target dest title)

      image : Inline
      image = Image dest title content

  read_html : (runs : Bool) (before text rest : List ℕ) → refusals.is_one_tag rules text ≡ true → IsRead runs before text rest (Html text)
  read_html runs before [] rest e = absurd (some_tag rules e)
  read_html runs before (b ∷ bs) rest e = one_item runs before (b ∷ bs) rest (Html (b ∷ bs)) false (seen-as rules (inline_fold.html (refusals.inline_step rules) (b ∷ bs))) (reads_whole before b bs rest (Html (b ∷ bs)) (atom_tag rules before b bs rest e))

  read_code : (runs : Bool) (before text rest : List ℕ) → is_empty text ≡ false → refusals.has_line_ending text ≡ false → begins_with 96 rest ≡ false → IsRead runs before (spelled_code text) rest (Code text)
  unfolding spelled_code
  read_code runs before text rest some line ends =
      one_item runs before (spelled_code text) rest (Code text) false (seen-as rules (inline_fold.code (refusals.inline_step rules) text)) (reads_whole before 96 (drop 1 (spelled_code text)) rest (Code text) (atom_code rules before text rest some line ends))

  mutual
    unfolding NoBrackets holds_link

    read_one : {emphasised first last : Bool} {before : List ℕ} {inline : Inline} {rest : List ℕ} → Fits rules emphasised first last before inline rest
        → IsRead emphasised before ((spelled inline).spelling first last) rest inline
    read_one {emphasised} {first} {last} {before} {inline} {rest} (FitsText {text = text} some free line) =
        subst (λ t. IsRead emphasised before t rest (Text text)) (sym (its-spelling (inline_fold.text spelling.inline_step text) first last)) (read_text emphasised first last before text rest some free line)
    read_one {emphasised} {first} {last} {before} {inline} {rest} (FitsCode {text = text} some line ends) =
        subst (λ t. IsRead emphasised before t rest (Code text)) (sym (its-spelling (inline_fold.code spelling.inline_step text) first last)) (read_code emphasised before text rest some line ends)
    read_one {emphasised} {first} {last} {before} {inline} {rest} (FitsHtml {text = text} tag) =
        subst (λ t. IsRead emphasised before t rest (Html text)) (sym (its-spelling (inline_fold.html spelling.inline_step text) first last)) (read_html emphasised before text rest tag)
    read_one {emphasised} {first} {last} {before} {inline} {rest} FitsSoft =
        subst (λ t. IsRead emphasised before t rest Soft) (sym (its-spelling (inline_fold.soft spelling.inline_step) first last)) (one_item emphasised before (10 ∷ []) rest Soft false (seen-as rules (inline_fold.soft (refusals.inline_step rules))) (reads_whole before 10 [] rest Soft (atom_soft rules before rest)))
    read_one {emphasised} {first} {last} {before} {inline} {rest} FitsHard =
        subst (λ t. IsRead emphasised before t rest Hard) (sym (its-spelling (inline_fold.hard spelling.inline_step) first last)) (one_item emphasised before (92 ∷ 10 ∷ []) rest Hard false (seen-as rules (inline_fold.hard (refusals.inline_step rules))) (reads_whole before 92 (10 ∷ []) rest Hard (atom_hard rules before rest)))
    read_one {emphasised} {first} {last} {before} {inline} {rest} (FitsEmphasis {content = content} mark between fits) =
        subst (λ t. IsRead true before t rest (emphasis mark content)) (sym (marked_is mark content first last)) (read_marked mark before (spelled_inlines false false content) rest content between (read_all fits))
    read_one {emphasised} {first} {last} {before} {inline} {rest} (FitsLink {dest = dest} {title = title} {content = content} d t none f fits) =
        subst (λ s. IsRead emphasised before s rest (Link dest title content)) (sym (its-spelling (inline_fold.link spelling.inline_step dest title content) first last ∙ append_assoc (codes "[") (spelled_inlines false false content) (spelled_target dest title)))
        (read_link emphasised before (spelled_inlines false false content) rest dest title content d t none f (read_all fits))
    read_one {emphasised} {first} {last} {before} {inline} {rest} (FitsImage {dest = dest} {title = title} {content = content} d t f fits) =
        subst (λ s. IsRead emphasised before s rest (Image dest title content)) (sym (its-spelling (inline_fold.image spelling.inline_step dest title content) first last ∙ append_assoc (codes "![") (spelled_inlines false false content) (spelled_target dest title)))
        (read_image emphasised before (spelled_inlines false false content) rest dest title content d t f (read_all fits))

    read_all : {emphasised first last : Bool} {before : List ℕ} {inlines : List Inline} {rest : List ℕ} → FitsAll rules emphasised first last before inlines rest
        → AreRead emphasised before (join first last (map spelled inlines)) rest inlines
    read_all {emphasised} {first} {last} {before} {inlines} {rest} FitsNone = record { items = []; shaped = Nothing; brackets = tt; links = refl; reads = reads_nothing rules defined before rest }
    read_all {emphasised} {first} {last} {before} {inlines} {rest} (FitsNext {next = next} {inlines = others} apart fits more) =
        let one = read_one fits in
        let all = read_all more in
        record {
          items = one.items ++ all.items;
          shaped = one.shaped (is_text (first_face (map (judged rules) others))) others all.items apart all.shaped;
          brackets = brackets_append one.items all.items one.brackets all.brackets;
          links = links_append one.items all.items ∙ ap (λ t. t || holds_link all.items) one.links ∙ ap (λ t. (judged rules next).has_link || t) all.links;
          reads = reads_then rules defined before ((spelled next).spelling first (is_line_end last (map spelled others))) (join (spelled next).begins_line last (map spelled others)) rest one.items all.items one.reads all.reads;
        }

pub fitting_reads_back : FittingReadsBack
unfolding inlines_of items_of items_after
fitting_reads_back rules defined content fits =
    let source : List ℕ = spelled_content content in
    let all = read_all rules defined fits in
    ap (λ items. emphasis_of (reverse items)) (ap (λ t. items_after rules defined zero [] t []) (sym (append-nil source)) ∙ all.reads [] ∙ append-nil (reverse all.items))
    ∙ ap emphasis_of (reverse-reverse all.items)
    ∙ emphasis_is all.shaped
