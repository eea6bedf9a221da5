-- The lines of a sequence are read as its parts, and so as its blocks.
use Rattle.std.proofs.Common.{◌≡◌, ℕ, suc, ◌+◌, Bool, true, false, List, [], ◌∷◌, ◌++◌, length, map, refl, sym, ◌∙◌, ap, subst, None, append_assoc, append-nil}
use Rattle.std.proofs.lemmas.Bool.{false≢true, and_parts, or_left, not-true}
use Rattle.std.proofs.Math.Bool.{and-false}
use Rattle.std.proofs.lemmas.List.{map-append}
use Rattle.std.specs.Prelude.{not, ◌&&◌, ◌||◌}
use Rattle.cm_text.specs.Rules.{Rules}
use Rattle.cm_text.specs.Lines.{LineView, plain_line}
use Rattle.cm_tree.specs.declared.tree.ListKind.{ListKind}
use Rattle.cm_scan.specs.Words.{run_length, after_run}
use Rattle.cm_scan.specs.blocks.LineForms.{ItemMarker, marker_width, underline}
use Rattle.cm_scan.specs.blocks.Starts.{ItemStart, start_of_content, interrupts_paragraph, can_interrupt, continuation_in_item, starts_at_one}
use Rattle.cm_scan.specs.blocks.Parts.{LeafPart, paragraph, heading, code, html, thematic_break, definition, Parts, none, blank, leaf, quote, list, ItemParts, item, leaves_paragraph_open, next_items, put_item, blocks_of_parts}
use Rattle.cm_scan.specs.blocks.Blocks.{parts_of, blocks_of}
use Rattle.cm_scan.specs.laws.PartLaws.{FirstLeaves}
use Rattle.cm_scan.specs.laws.BlockLaws.{is_unindented}
use Rattle.cm_scan.proofs.lemmas.blocks.PartsByCases.{blank_case, no_lines as no_lines_case}
use Rattle.cm_scan.proofs.lemmas.blocks.SingleBlocks.{kind_of_itself, item_before_its_list, item_by_itself}
use Rattle.cm_source.specs.Spelling.{spaced, quoted, quote_lines, indented, item_lines, marker, gap}
use Rattle.cm_source.specs.steps.Sequences.{SpelledLeaf, Sequence, is_none, no_blocks, leaf_then, quote_then, list_then, SequenceItems, last_one, one_and, tree, gap_before, block_lines, lines_of_items, is_paragraph, is_code, first_inside, interrupts_alone, fits_tight, begins_with_list}
use Rattle.cm_source.proofs.lemmas.blocks.SequenceLines.{at, Have, no_lines, a_line, have-split, have-first}
use Rattle.cm_source.proofs.lemmas.blocks.ContinuationsBack.{Apart, at_end, before_empty, quote-start, quote-back, MarkerReads, bare-front, spaced-bare, marker-interrupts, marker-leaves, bare-leaves, item-back, bare-item-back}
use Rattle.cm_source.proofs.lemmas.blocks.SequenceFits.{First, Inner, Marked, Interrupts, Follows, apart_from, interrupted, leaf_size, FitAll, ItemsFit}
use Rattle.cm_source.proofs.lemmas.blocks.SequenceParts.{blank_if, or_blank, last_is_bare, one_if, concrete, concrete_items, closed, same-tree, next-none}

-- an empty line after the blocks
tail-end : (front : List (List ℕ)) (a : Bool) (rest : Sequence) → (is_none rest ≡ false → block_lines a true rest ≡ block_lines a false rest ++ [] ∷ [])
    → front ++ gap (gap_before a true rest) ++ block_lines a true rest ≡ (front ++ gap (gap_before a false rest) ++ block_lines a false rest) ++ [] ∷ []
unfolding block_lines
tail-end front a no_blocks ih = append-nil (front ++ [] ∷ []) ∙ ap (λ l. l ++ [] ∷ []) (sym (append-nil front)) ∙ ap (λ l. l ++ [] ∷ []) (sym (append-nil (front ++ [])))
tail-end front a (leaf_then x rest) ih = ap (λ l. front ++ gap a ++ l) (ih refl) ∙ sym (append_assoc (front ++ gap a) (block_lines a false (leaf_then x rest)) ([] ∷ []))
tail-end front a (quote_then inside rest) ih = ap (λ l. front ++ gap a ++ l) (ih refl) ∙ sym (append_assoc (front ++ gap a) (block_lines a false (quote_then inside rest)) ([] ∷ []))
tail-end front a (list_then k t is rest) ih = ap (λ l. front ++ gap a ++ l) (ih refl) ∙ sym (append_assoc (front ++ gap a) (block_lines a false (list_then k t is rest)) ([] ∷ []))

lines-end : (a : Bool) (o : Sequence) → is_none o ≡ false → block_lines a true o ≡ block_lines a false o ++ [] ∷ []
unfolding block_lines
lines-end a no_blocks h = absurd (false≢true (sym h))
lines-end a (leaf_then x rest) h = tail-end x.lines a rest (λ n. lines-end a rest n)
lines-end a (quote_then inside rest) h = tail-end (quote_lines (block_lines true false inside)) a rest (λ n. lines-end a rest n)
lines-end a (list_then k t is rest) h = tail-end (lines_of_items k t is) a rest (λ n. lines-end a rest n)

item-lines-end : (mark : List ℕ) (ts : List (List ℕ)) → First ts → item_lines mark (ts ++ [] ∷ []) ≡ item_lines mark ts ++ [] ∷ []
item-lines-end mark [] f = let no_lines = f.lines in absurd (cc no_lines)
item-lines-end mark (t ∷ ts) f = ap (λ l. (mark ++ spaced t) ∷ l) (map-append (indented (length mark + 1)) ts ([] ∷ []))

lines-of-one : (mark : List ℕ) (a e : Bool) (o : Sequence) → is_none o ≡ false → First (block_lines a false o) → item_lines mark (block_lines a false o) ++ gap e ≡ item_lines mark (block_lines a e o)
lines-of-one mark a true o h f = sym (item-lines-end mark (block_lines a false o) f) ∙ ap (item_lines mark) (sym (lines-end a o h))
lines-of-one mark a false o h f = append-nil (item_lines mark (block_lines a false o))

-- first lines

first-append : {ts : List (List ℕ)} (us : List (List ℕ)) → First ts → First (ts ++ us)
first-append us f = record { line = f.line; further = f.further ++ us; lines = ap (λ l. l ++ us) f.lines; bare = f.bare }

inner-append : {ts : List (List ℕ)} (us : List (List ℕ)) → Inner ts → Inner (ts ++ us)
unfolding first-append
inner-append us i = record { first = first-append us i.first; no_dashes = i.no_dashes; no_stars = i.no_stars }

quote-inner : (ts : List (List ℕ)) → Inner (quote_lines ts)
quote-inner [] = record { first = record { line = quoted []; further = []; lines = refl; bare = refl }; no_dashes = refl; no_stars = refl }
quote-inner (t ∷ ts) = record { first = record { line = quoted t; further = map quoted ts; lines = refl; bare = refl }; no_dashes = refl; no_stars = refl }

none-tight : (o : Sequence) → is_none o ≡ true → fits_tight o ≡ true
none-tight no_blocks h = refl
none-tight (leaf_then x rest) h = absurd (false≢true h)
none-tight (quote_then inside rest) h = absurd (false≢true h)
none-tight (list_then k t is rest) h = absurd (false≢true h)

alone-tight : (o : Sequence) → interrupts_alone o ≡ true → fits_tight o ≡ true
alone-tight no_blocks h = refl
alone-tight (leaf_then x rest) h = or_left (is_none rest) (is_paragraph x.part && interrupts_alone rest) (and_parts (is_none rest) (is_code x.part) h).0
alone-tight (quote_then inside rest) h = h
alone-tight (list_then k t is rest) h = (and_parts (is_none rest) (starts_at_one k) (and_parts (is_none rest && starts_at_one k) (not (is_none (first_inside is))) h).0).0

tight-beyond : (a : Bool) (rest : Sequence) → (a || is_none rest) ≡ true → (a || fits_tight rest) ≡ true
tight-beyond true rest h = refl
tight-beyond false rest h = none-tight rest h

tight-beyond-leaf : (a : Bool) (x : SpelledLeaf) (rest : Sequence) → (a || (is_none rest || is_paragraph x.part && interrupts_alone rest)) ≡ true → (a || fits_tight rest) ≡ true
tight-beyond-leaf true x rest h = refl
tight-beyond-leaf false x no_blocks h = refl
tight-beyond-leaf false x (leaf_then y rest) h = alone-tight (leaf_then y rest) (and_parts (is_paragraph x.part) (interrupts_alone (leaf_then y rest)) h).1
tight-beyond-leaf false x (quote_then inside rest) h = alone-tight (quote_then inside rest) (and_parts (is_paragraph x.part) (interrupts_alone (quote_then inside rest)) h).1
tight-beyond-leaf false x (list_then k t is rest) h = alone-tight (list_then k t is rest) (and_parts (is_paragraph x.part) (interrupts_alone (list_then k t is rest)) h).1

apart-beyond : (a e : Bool) (rest : Sequence) (tail : List LineView) → (a || is_none rest) ≡ true → Have tail (gap (gap_before a e rest) ++ block_lines a e rest) → Apart tail
unfolding block_lines
apart-beyond a true no_blocks tail h (a_line have) = before_empty
apart-beyond a false no_blocks tail h no_lines = at_end
apart-beyond true e (leaf_then x rest) tail h (a_line have) = before_empty
apart-beyond true e (quote_then inside rest) tail h (a_line have) = before_empty
apart-beyond true e (list_then k t is rest) tail h (a_line have) = before_empty
apart-beyond false e (leaf_then x rest) tail h have = absurd (false≢true h)
apart-beyond false e (quote_then inside rest) tail h have = absurd (false≢true h)
apart-beyond false e (list_then k t is rest) tail h have = absurd (false≢true h)

put-more : (kind : ListKind) (v : Bool) (p q : Parts) (items : ItemParts) → put_item kind p (blank_if v (list kind items q)) ≡ list kind (item p (one_if v) items) q
put-more kind true p q items = item_before_its_list kind kind 1 p q items (kind_of_itself kind)
put-more kind false p q items = item_before_its_list kind kind 0 p q items (kind_of_itself kind)

-- what follows an item, with an empty line between or not
data After (rules : Rules) : Bool → List LineView → Type 0 where
  nothing_follows : {e : Bool} → After rules e []
  block_follows : {c : ℕ} {t : List ℕ} {rest : List LineView} → is_unindented t ≡ true → After rules true (at c t ∷ rest)
  marker_follows : {e : Bool} {c : ℕ} {t : List ℕ} {rest : List LineView} {m : ItemMarker} → is_unindented t ≡ true → start_of_content rules t ≡ ItemStart m → After rules e (at c t ∷ rest)

module _ (rules : Rules) where
  parts-blank_if : (v : Bool) (ls : List LineView) (ts : List (List ℕ)) (p : Parts) → Have ls (gap v ++ ts) → ((ms : List LineView) → Have ms ts → parts_of rules ms ≡ p) → parts_of rules ls ≡ blank_if v p
  parts-blank_if true ls ts p (a_line {c = c} {ls = further} have) content = blank_case rules (at c []) further refl ∙ ap blank (content further have)
  parts-blank_if false ls ts p have content = content ls have

  -- one item before what follows

  out-of-bare : (n : ℕ) (rest : List LineView) (d : ℕ) → After rules false rest → FirstLeaves rules (continuation_in_item rules (suc n)) (at d [] ∷ []) rest
  out-of-bare n rest d nothing_follows = tt
  out-of-bare n rest d (marker_follows {c = c} {t = t} {rest = ls} {m = m} b s) = marker-leaves rules n c t m (at d [] ∷ []) ls b s

  bare-item : (kind : ListKind) (r : MarkerReads rules kind) (e : Bool) (own rest : List LineView) → Have own (marker kind ∷ [] ++ gap e) → After rules e rest
      → parts_of rules (own ++ rest) ≡ put_item kind (blank none) (blank_if e (parts_of rules rest))
  unfolding continuation_in_item
  bare-item kind r false own rest have after = bare-item-back rules kind r own rest have (λ d. out-of-bare (marker_width r.read) rest d after)
  bare-item kind r true own rest (a_line {c = c} (a_line {c = d} no_lines)) after =
      bare-item-back rules kind r (at c (marker kind) ∷ []) (at d [] ∷ rest) (a_line no_lines) (λ d. refl)
      ∙ ap (put_item kind (blank none)) (blank_case rules (at d []) rest refl)

  out-of-item : (n : ℕ) (a e : Bool) (o : Sequence) (inner rest : List LineView) → is_none o ≡ false → parts_of rules inner ≡ concrete a e o → After rules e rest
      → FirstLeaves rules (continuation_in_item rules (suc n)) inner rest
  unfolding leaves_paragraph_open
  out-of-item n a e o inner rest h reads nothing_follows = tt
  out-of-item n a e o inner rest h reads (marker_follows {c = c} {t = t} {rest = ls} {m = m} b s) = marker-leaves rules n c t m inner ls b s
  out-of-item n a e o inner rest h reads (block_follows {c = c} {t = t} {rest = ls} b) = bare-leaves rules n c t inner ls b (ap leaves_paragraph_open reads ∙ closed a false o h)

  whole-item : (kind : ListKind) (r : MarkerReads rules kind) (a e : Bool) (o : Sequence) (own rest : List LineView) → is_none o ≡ false → Inner (block_lines a e o)
      → ((inner : List LineView) → Have inner (block_lines a e o) → parts_of rules inner ≡ concrete a e o)
      → Have own (item_lines (marker kind) (block_lines a e o)) → After rules e rest → parts_of rules (own ++ rest) ≡ put_item kind (concrete a e o) (parts_of rules rest)
  whole-item kind r a e o own rest h i content have after =
      let f = i.first in
      item-back rules kind r f.line f.further own rest (concrete a e o) f.bare i.no_dashes i.no_stars
      (λ inner own. content inner (subst (Have inner) (sym f.lines) own))
      (subst (λ ts. Have own (item_lines (marker kind) ts)) f.lines have)
      (λ inner own. out-of-item (marker_width r.read) a e o inner rest h (content inner (subst (Have inner) (sym f.lines) own)) after)

  one-item : (kind : ListKind) (r : MarkerReads rules kind) (a e : Bool) (o : Sequence) (own rest : List LineView) → ((e : Bool) → is_none o ≡ false → Inner (block_lines a e o))
      → ((inner : List LineView) → Have inner (block_lines a e o) → parts_of rules inner ≡ concrete a e o)
      → Have own (item_lines (marker kind) (block_lines a false o) ++ gap e) → After rules e rest
      → parts_of rules (own ++ rest) ≡ put_item kind (or_blank o (concrete a e o)) (blank_if (e && is_none o) (parts_of rules rest))
  unfolding block_lines
  one-item kind r a true no_blocks own rest i content have after = bare-item kind r true own rest have after
  one-item kind r a false no_blocks own rest i content have after = bare-item kind r false own rest have after
  one-item kind r a e (leaf_then x more) own rest i content have after =
      whole-item kind r a e (leaf_then x more) own rest refl (i e refl) content (subst (Have own) (lines-of-one (marker kind) a e (leaf_then x more) refl (i false refl).first) have) after
      ∙ ap (λ v. put_item kind (concrete a e (leaf_then x more)) (blank_if v (parts_of rules rest))) (sym (and-false e))
  one-item kind r a e (quote_then inside more) own rest i content have after =
      whole-item kind r a e (quote_then inside more) own rest refl (i e refl) content (subst (Have own) (lines-of-one (marker kind) a e (quote_then inside more) refl (i false refl).first) have) after
      ∙ ap (λ v. put_item kind (concrete a e (quote_then inside more)) (blank_if v (parts_of rules rest))) (sym (and-false e))
  one-item kind r a e (list_then k t is more) own rest i content have after =
      whole-item kind r a e (list_then k t is more) own rest refl (i e refl) content (subst (Have own) (lines-of-one (marker kind) a e (list_then k t is more) refl (i false refl).first) have) after
      ∙ ap (λ v. put_item kind (concrete a e (list_then k t is more)) (blank_if v (parts_of rules rest))) (sym (and-false e))

  marked-append : {ts : List (List ℕ)} (us : List (List ℕ)) → Marked rules ts → Marked rules (ts ++ us)
  unfolding first-append
  marked-append us m = record { first = first-append us m.first; read = m.read; starts = m.starts }

  interrupts-append : {ts : List (List ℕ)} (us : List (List ℕ)) → Interrupts rules ts → Interrupts rules (ts ++ us)
  unfolding first-append
  interrupts-append us i = record { first = first-append us i.first; interrupts = i.interrupts; no_underline = i.no_underline }

  quote-interrupts : (ts : List (List ℕ)) → Interrupts rules (quote_lines ts)
  unfolding interrupts_paragraph underline run_length after_run quote-inner
  quote-interrupts [] = record { first = (quote-inner []).first; interrupts = λ c. ap (λ s. can_interrupt s (at c (quoted []))) (quote-start rules c []); no_underline = refl }
  quote-interrupts (t ∷ ts) = record { first = (quote-inner (t ∷ ts)).first; interrupts = λ c. ap (λ s. can_interrupt s (at c (quoted t))) (quote-start rules c t); no_underline = refl }

  follow-close : (x : LeafPart) (ts : List (List ℕ)) (tail : List LineView) → is_paragraph x ≡ true → Interrupts rules ts → Have tail ts → Follows rules x tail
  follow-close (paragraph source) ts tail h i have =
      let (c, further, same, more) = have-first (subst (Have tail) i.first.lines have) in
      subst (Follows rules (paragraph source)) (sym same) (interrupted i.first.bare (i.interrupts c) i.no_underline)
  follow-close (heading n t) ts tail h i have = absurd (false≢true h)
  follow-close (code n t) ts tail h i have = absurd (false≢true h)
  follow-close (html t) ts tail h i have = absurd (false≢true h)
  follow-close thematic_break ts tail h i have = absurd (false≢true h)
  follow-close (definition l d t) ts tail h i have = absurd (false≢true h)

  after-marked : (v : Bool) (ts : List (List ℕ)) (its rest : List LineView) → Marked rules ts → Have its ts → After rules v (its ++ rest)
  after-marked v ts its rest m have =
      let (c, further, same, more) = have-first (subst (Have its) m.first.lines have) in
      subst (λ l. After rules v (l ++ rest)) (sym same) (marker_follows m.first.bare m.starts)

  after-first : (ts : List (List ℕ)) (its : List LineView) → First ts → Have its ts → After rules true its
  after-first ts its f have =
      let (c, further, same, more) = have-first (subst (Have its) f.lines have) in
      subst (After rules true) (sym same) (block_follows f.bare)

  empty-inside : (inner : List LineView) → Have inner ([] ∷ []) → parts_of rules inner ≡ blank none
  empty-inside inner (a_line {c = c} no_lines) = blank_case rules (at c []) [] refl ∙ ap blank (no_lines_case rules)

  inner-of : (o : Sequence) (a e : Bool) → is_none o ≡ false → begins_with_list o ≡ false → FitAll rules o → Inner (block_lines a e o)
  unfolding block_lines FitAll
  inner-of no_blocks a e h k fit = absurd (false≢true (sym h))
  inner-of (leaf_then x rest) a e h k fit = inner-append _ (inner-append _ fit.0.inner)
  inner-of (quote_then inside rest) a e h k fit = inner-append _ (inner-append _ (quote-inner _))
  inner-of (list_then kind t is rest) a e h k fit = absurd (false≢true (sym k))

  marked-by : (kind : ListKind) (r : MarkerReads rules kind) (ts : List (List ℕ)) → Inner ts → Marked rules (item_lines (marker kind) ts)
  marked-by kind r ts i =
      let further = map (indented (length (marker kind) + 1)) i.first.further in
      record {
        first = record {
          line = marker kind ++ 32 ∷ i.first.line;
          further = further;
          lines = ap (item_lines (marker kind)) i.first.lines ∙ ap (λ s. (marker kind ++ s) ∷ further) (spaced-bare i.first.line i.first.bare);
          bare = bare-front (marker kind) (32 ∷ i.first.line) r.bare;
        };
        read = r.read;
        starts = r.starts i.first.line i.no_dashes i.no_stars;
      }

  marked-item : (kind : ListKind) (r : MarkerReads rules kind) (a : Bool) (o : Sequence) → begins_with_list o ≡ false → FitAll rules o → Marked rules (item_lines (marker kind) (block_lines a false o))
  unfolding block_lines
  marked-item kind r a no_blocks h fit = record { first = record { line = marker kind; further = []; lines = refl; bare = r.bare }; read = r.read; starts = r.starts_alone }
  marked-item kind r a (leaf_then x rest) h fit = marked-by kind r _ (inner-of (leaf_then x rest) a false refl h fit)
  marked-item kind r a (quote_then inside rest) h fit = marked-by kind r _ (inner-of (quote_then inside rest) a false refl h fit)
  marked-item kind r a (list_then k t is rest) h fit = absurd (false≢true (sym h))

  items-marked : (kind : ListKind) (r : MarkerReads rules kind) (tight : Bool) (items : SequenceItems) → ItemsFit rules tight items → Marked rules (lines_of_items kind tight items)
  unfolding lines_of_items ItemsFit
  items-marked kind r tight (last_one inside) fit = marked-item kind r (not tight) inside fit.0 fit.2
  items-marked kind r tight (one_and inside items) fit = marked-append _ (marked-append _ (marked-item kind r (not tight) inside fit.0 fit.2))

  first-of : (o : Sequence) (a e : Bool) → is_none o ≡ false → FitAll rules o → First (block_lines a e o)
  unfolding block_lines FitAll
  first-of no_blocks a e h fit = absurd (false≢true (sym h))
  first-of (leaf_then x rest) a e h fit = first-append _ (first-append _ fit.0.inner.first)
  first-of (quote_then inside rest) a e h fit = first-append _ (first-append _ (quote-inner _).first)
  first-of (list_then kind t is rest) a e h fit = first-append _ (first-append _ (items-marked kind fit.0.reads t is fit.1).first)

  item-interrupts : (kind : ListKind) (r : MarkerReads rules kind) (ts : List (List ℕ)) → starts_at_one kind ≡ true → Inner ts → Interrupts rules (item_lines (marker kind) ts)
  unfolding marked-by
  item-interrupts kind r ts one i = record {
    first = (marked-by kind r ts i).first;
    interrupts = λ c. marker-interrupts rules kind r c i.first.line i.first.bare i.no_dashes i.no_stars one;
    no_underline = r.no_underline i.first.line i.first.bare;
  }

  items-interrupt : (kind : ListKind) (r : MarkerReads rules kind) (tight : Bool) (items : SequenceItems) → starts_at_one kind ≡ true → is_none (first_inside items) ≡ false
      → ItemsFit rules tight items → Interrupts rules (lines_of_items kind tight items)
  unfolding lines_of_items ItemsFit
  items-interrupt kind r tight (last_one inside) one h fit = item-interrupts kind r _ one (inner-of inside (not tight) false h fit.0 fit.2)
  items-interrupt kind r tight (one_and inside items) one h fit = interrupts-append _ (interrupts-append _ (item-interrupts kind r _ one (inner-of inside (not tight) false h fit.0 fit.2)))

  interrupting : (o : Sequence) (a e : Bool) → interrupts_alone o ≡ true → FitAll rules o → Interrupts rules (block_lines a e o)
  unfolding block_lines FitAll
  interrupting no_blocks a e h fit = absurd (false≢true h)
  interrupting (leaf_then x rest) a e h fit = interrupts-append _ (interrupts-append _ (fit.0.interrupts (and_parts (is_none rest) (is_code x.part) h).1))
  interrupting (quote_then inside rest) a e h fit = interrupts-append _ (interrupts-append _ (quote-interrupts _))
  interrupting (list_then k t is rest) a e h fit =
      let one : starts_at_one k ≡ true = (and_parts (is_none rest) (starts_at_one k) (and_parts (is_none rest && starts_at_one k) (not (is_none (first_inside is))) h).0).1 in
      let some : is_none (first_inside is) ≡ false = not-true _ (and_parts (is_none rest && starts_at_one k) (not (is_none (first_inside is))) h).1 in
      interrupts-append _ (interrupts-append _ (items-interrupt k fit.0.reads t is one some fit.1))

  -- a block that follows a paragraph without an empty line
  right-beyond : (x : SpelledLeaf) (e : Bool) (rest : Sequence) (tail : List LineView) → (is_paragraph x.part && interrupts_alone rest) ≡ true → FitAll rules rest → Have tail (block_lines false e rest) → Follows rules x.part tail
  right-beyond x e rest tail h fit have =
      let (first, second) = and_parts (is_paragraph x.part) (interrupts_alone rest) h in
      follow-close x.part (block_lines false e rest) tail first (interrupting rest false e second fit) have

  follow : (x : SpelledLeaf) (a e : Bool) (rest : Sequence) (tail : List LineView) → (a || (is_none rest || is_paragraph x.part && interrupts_alone rest)) ≡ true → FitAll rules rest
      → Have tail (gap (gap_before a e rest) ++ block_lines a e rest) → Follows rules x.part tail
  follow x true e rest tail h fit have = apart_from (apart-beyond true e rest tail refl have)
  follow x false e no_blocks tail h fit have = apart_from (apart-beyond false e no_blocks tail refl have)
  follow x false e (leaf_then y rest) tail h fit have = right-beyond x e (leaf_then y rest) tail h fit have
  follow x false e (quote_then inside rest) tail h fit have = right-beyond x e (quote_then inside rest) tail h fit have
  follow x false e (list_then k t is rest) tail h fit have = right-beyond x e (list_then k t is rest) tail h fit have

  after-list : (a e : Bool) (rest : Sequence) (tail : List LineView) → (a || is_none rest) ≡ true → FitAll rules rest → Have tail (block_lines a e rest) → After rules (gap_before a e rest) tail
  unfolding block_lines
  after-list a e no_blocks tail h fit no_lines = nothing_follows
  after-list true e (leaf_then x rest) tail h fit have = after-first _ tail (first-of (leaf_then x rest) true e refl fit) have
  after-list true e (quote_then inside rest) tail h fit have = after-first _ tail (first-of (quote_then inside rest) true e refl fit) have
  after-list true e (list_then k t is rest) tail h fit have = after-first _ tail (first-of (list_then k t is rest) true e refl fit) have
  after-list false e (leaf_then x rest) tail h fit have = absurd (false≢true h)
  after-list false e (quote_then inside rest) tail h fit have = absurd (false≢true h)
  after-list false e (list_then k t is rest) tail h fit have = absurd (false≢true h)

  quote-by : (ts : List (List ℕ)) (p : Parts) (own tail : List LineView) → First ts → ((inner : List LineView) → Have inner ts → parts_of rules inner ≡ p) → Have own (quote_lines ts) → Apart tail
      → parts_of rules (own ++ tail) ≡ quote p (parts_of rules tail)
  quote-by ts p own tail f content have apart =
      quote-back rules f.line f.further own tail p (λ inner h. content inner (subst (Have inner) (sym f.lines) h)) (subst (λ ts. Have own (quote_lines ts)) f.lines have) apart

  whole-quote : (o : Sequence) (own tail : List LineView) → FitAll rules o → ((inner : List LineView) → Have inner (block_lines true false o) → parts_of rules inner ≡ concrete true false o)
      → Have own (quote_lines (block_lines true false o)) → Apart tail → parts_of rules (own ++ tail) ≡ quote (or_blank o (concrete true false o)) (parts_of rules tail)
  unfolding block_lines
  whole-quote no_blocks own tail fit content have apart = quote-back rules [] [] own tail (blank none) empty-inside have apart
  whole-quote (leaf_then x rest) own tail fit content have apart = quote-by _ _ own tail (first-of (leaf_then x rest) true false refl fit) content have apart
  whole-quote (quote_then inside rest) own tail fit content have apart = quote-by _ _ own tail (first-of (quote_then inside rest) true false refl fit) content have apart
  whole-quote (list_then k t is rest) own tail fit content have apart = quote-by _ _ own tail (first-of (list_then k t is rest) true false refl fit) content have apart

  mutual
    unfolding FitAll ItemsFit block_lines lines_of_items concrete concrete_items

    pub back : (o : Sequence) (a e : Bool) (ls : List LineView) → FitAll rules o → (a || fits_tight o) ≡ true → Have ls (block_lines a e o) → parts_of rules ls ≡ concrete a e o
    back no_blocks a e ls fit ok no_lines = no_lines_case rules
    back (leaf_then x rest) a e ls fit ok have =
        let (own, tail, eq, mine, its) = have-split x.lines (gap (gap_before a e rest) ++ block_lines a e rest) ls (subst (Have ls) (append_assoc x.lines (gap (gap_before a e rest)) (block_lines a e rest)) have) in
        ap (parts_of rules) eq
        ∙ fit.0.back own tail mine (follow x a e rest tail ok fit.1 its)
        ∙ ap (leaf x.part (leaf_size x.part)) (parts-blank_if (gap_before a e rest) tail (block_lines a e rest) (concrete a e rest) its (λ ms h. back rest a e ms fit.1 (tight-beyond-leaf a x rest ok) h))
    back (quote_then inside rest) a e ls fit ok have =
        let front = quote_lines (block_lines true false inside) in
        let (own, tail, eq, mine, its) = have-split front (gap (gap_before a e rest) ++ block_lines a e rest) ls (subst (Have ls) (append_assoc front (gap (gap_before a e rest)) (block_lines a e rest)) have) in
        ap (parts_of rules) eq
        ∙ whole-quote inside own tail fit.0 (λ inner h. back inside true false inner fit.0 refl h) mine (apart-beyond a e rest tail ok its)
        ∙ ap (quote (or_blank inside (concrete true false inside))) (parts-blank_if (gap_before a e rest) tail (block_lines a e rest) (concrete a e rest) its (λ ms h. back rest a e ms fit.1 (tight-beyond a rest ok) h))
    back (list_then kind tight items rest) a e ls fit ok have =
        let g = gap_before a e rest in
        let (own, tail, eq, mine, its) = have-split (lines_of_items kind tight items ++ gap g) (block_lines a e rest) ls have in
        let reads : parts_of rules tail ≡ concrete a e rest = back rest a e tail fit.4 (tight-beyond a rest ok) its in
        ap (parts_of rules) eq
        ∙ items-back items kind fit.0.reads tight g own tail fit.1 mine (after-list a e rest tail ok fit.4 its)
        (ap (λ q. next_items kind 0 (blank_if (g && last_is_bare items) q)) reads ∙ next-none kind (g && last_is_bare items) a e rest fit.3)
        ∙ ap (λ q. list kind (concrete_items tight g items) (blank_if (g && last_is_bare items) q)) reads

    items-back : (items : SequenceItems) (kind : ListKind) (r : MarkerReads rules kind) (tight e : Bool) (ls rest : List LineView) → ItemsFit rules tight items
        → Have ls (lines_of_items kind tight items ++ gap e) → After rules e rest → next_items kind 0 (blank_if (e && last_is_bare items) (parts_of rules rest)) ≡ None
        → parts_of rules (ls ++ rest) ≡ list kind (concrete_items tight e items) (blank_if (e && last_is_bare items) (parts_of rules rest))
    items-back (last_one inside) kind r tight e ls rest fit have after next =
        one-item kind r (not tight) e inside ls rest (λ e n. inner-of inside (not tight) e n fit.0 fit.2) (λ inner h. back inside (not tight) e inner fit.2 fit.1 h) have after
        ∙ item_by_itself kind _ _ next
    items-back (one_and inside items) kind r tight e ls rest fit have after next =
        let front = item_lines (marker kind) (block_lines (not tight) false inside) ++ gap (not tight) in
        let more = lines_of_items kind tight items in
        let (own, its, eq, mine, theirs) = have-split front (more ++ gap e) ls (subst (Have ls) (append_assoc front more (gap e)) have) in
        ap (λ l. parts_of rules (l ++ rest)) eq
        ∙ ap (parts_of rules) (append_assoc own its rest)
        ∙ one-item kind r (not tight) (not tight) inside own (its ++ rest) (λ e n. inner-of inside (not tight) e n fit.0 fit.2) (λ inner h. back inside (not tight) (not tight) inner fit.2 fit.1 h) mine
        (after-marked (not tight) _ its rest (marked-append (gap e) (items-marked kind r tight items fit.3)) theirs)
        ∙ ap (λ q. put_item kind (or_blank inside (concrete (not tight) (not tight) inside)) (blank_if (not tight && is_none inside) q)) (items-back items kind r tight e its rest fit.3 theirs after next)
        ∙ put-more kind (not tight && is_none inside) _ _ (concrete_items tight e items)

  have-lines : (ts : List (List ℕ)) → Have (map plain_line ts) ts
  have-lines [] = no_lines
  have-lines (t ∷ ts) = a_line (have-lines ts)

  -- spelled blocks read back
  pub reads-back : (o : Sequence) → FitAll rules o → blocks_of rules (map plain_line (block_lines true false o)) ≡ tree o
  unfolding blocks_of
  reads-back o fit = ap blocks_of_parts (back o true false (map plain_line (block_lines true false o)) fit refl (have-lines (block_lines true false o))) ∙ same-tree rules true false o fit
