-- How inlines are read, step by step.
use Rattle.std.proofs.Common.{◌≡◌, ℕ, zero, suc, ◌-◌, Bool, true, false, not, ◌&&◌, ◌||◌, ◌==◌, List, [], ◌∷◌, ◌++◌, length, replicate, reverse, Option, Some, None, codes, refl, sym, ap, subst, ◌∙◌, arith, append_assoc, append-nil, length-append}
use Rattle.std.specs.Prelude.{sum_by, nat_le, if◌then◌else◌}
use Rattle.cm_tree.specs.declared.tree.Inline.TheVariants.{Soft, Hard}
use Rattle.std.specs.List.{list_all}
use Rattle.std.proofs.lemmas.Bool.{eqb-true, and_parts}
use Rattle.std.proofs.lemmas.Bool.Decides.{nat_tests}
use Rattle.std.proofs.lemmas.List.{reverse-append, reverse-reverse}
use Rattle.cm_text.specs.Rules.{Rules}
use Rattle.cm_scan.specs.Words.{is_empty, begins_with, run_length, after_word, after_run}
use Rattle.cm_scan.specs.inlines.Pairing.{Item, Characters, Finished, settled_after, pairs_within, pair_all, room}
use Rattle.cm_scan.specs.inlines.Atoms.{AtomRead, Whole, read, is_markup, break_atom, markup_atom, byte_atom, or_byte, atom_at}
use Rattle.cm_scan.specs.inlines.Brackets.{Defined, Bracketed}
use Rattle.cm_scan.specs.inlines.Inlines.{add_atom, item_step, items_after, items_of, inlines_of}
use Rattle.cm_scan.specs.laws.InlineLaws.{ReadingGoesOn, BracketStep, is_plain_byte, UnmarkedIsPlain, PlainIsItself, keeps_spaces, PlainFrontIsText, SpacesAndLineFeed}
use Rattle.cm_scan.specs.inlines.Pieces.{one_by_one}
use Rattle.cm_scan.proofs.lemmas.inlines.PairingInPieces.{settled-one_by_one, no-room}
use Rattle.cm_scan.specs.spans.Autolinks.{ends_with}

-- bytes that belong to what was read last are skipped
passed-over : (rules : Rules) (defined : Defined) (before taken rest : List ℕ) (items : List Item)
    → items_after rules defined (length taken) before (taken ++ rest) items ≡ items_after rules defined zero (reverse taken ++ before) rest items
unfolding items_after
passed-over rules defined before [] rest items = refl
passed-over rules defined before (b ∷ bs) rest items =
    passed-over rules defined (b ∷ before) bs rest items
    ∙ ap (λ passed. items_after rules defined zero passed rest items)
    (sym (append_assoc (reverse bs) (b ∷ []) before) ∙ ap (λ passed. passed ++ before) (sym (reverse-append (b ∷ []) bs)))

pub reading_goes_on : ReadingGoesOn
unfolding items_after
reading_goes_on rules defined before b taken rest items left =
    let step = item_step rules defined before b (taken ++ rest) items in
    let count : length (taken ++ rest) - length step.rest ≡ length taken = omega (arith, length-append taken rest, ap length left) in
    ap (λ n. items_after rules defined n (b ∷ before) (taken ++ rest) step.items) count
    ∙ passed-over rules defined (b ∷ before) taken rest step.items

pub bracket_step : BracketStep
unfolding item_step add_atom atom_at markup_atom
bracket_step rules defined before rest items = refl

pub unmarked_is_plain : UnmarkedIsPlain
unmarked_is_plain b e = grind (arith, nat_tests, e)

-- the first byte of a source without markup, and the others

no-line-ending : (b : ℕ) → is_plain_byte b ≡ true → (b == 10) ≡ false
no-line-ending b plain = grind (arith, nat_tests, plain)

-- the text ends with a space before a byte, and after one
beyond-first : (b : ℕ) (bs rest : List ℕ) → is_empty bs ≡ false → keeps_spaces rest (b ∷ bs) ≡ keeps_spaces rest bs
unfolding ends_with
beyond-first b [] rest e = absurd (cc e)
beyond-first b (c ∷ cs) rest e = refl

-- no line ending follows its spaces
no-break : (text rest : List ℕ) → list_all is_plain_byte text ≡ true → is_empty text ≡ false → keeps_spaces rest text ≡ true → after_word (codes "\n") (after_run 32 (text ++ rest)) ≡ None
unfolding after_word after_run ends_with
no-break [] rest plain some parts = absurd (cc some)
no-break (b ∷ bs) rest plain some parts =
    go (λ e k. no-break bs rest (and_parts (is_plain_byte b) (list_all is_plain_byte bs) plain).1 e k) (b == 32) refl (is_empty bs) refl
  where
    other : (feed : Bool) → feed ≡ false → elim feed as (λ _. Option (List ℕ)) [ true ↦ Some (bs ++ rest) | false ↦ None ] ≡ None
    other true e = absurd (cc e)
    other false e = refl

    -- neither a space nor a line feed follows the last space
    last : (rest : List ℕ) → not ((begins_with 32 rest || begins_with 10 rest) && true) ≡ true → after_word (codes "\n") (after_run 32 rest) ≡ None
    last [] e = refl
    last (c ∷ cs) e = by (c == 32) (c == 10) refl e
      where
        fed : (feed : Bool) → feed ≡ false → elim feed as (λ _. Option (List ℕ)) [ true ↦ Some cs | false ↦ None ] ≡ None
        fed true e = absurd (cc e)
        fed false e = refl

        by : (space feed : Bool) → (c == 10) ≡ feed → not ((space || feed) && true) ≡ true
            → after_word (codes "\n") (elim space as (λ _. List ℕ) [ true ↦ after_run 32 cs | false ↦ c ∷ cs ]) ≡ None
        by true feed q e = absurd (cc e)
        by false true q e = absurd (cc e)
        by false false q e = fed (c == 10) q

    go : (is_empty bs ≡ false → keeps_spaces rest bs ≡ true → after_word (codes "\n") (after_run 32 (bs ++ rest)) ≡ None) → (space : Bool) → (b == 32) ≡ space → (empty : Bool) → is_empty bs ≡ empty
        → after_word (codes "\n") (elim space as (λ _. List ℕ) [ true ↦ after_run 32 (bs ++ rest) | false ↦ b ∷ (bs ++ rest) ]) ≡ None
    go again false p empty e = other (b == 10) (no-line-ending b (and_parts (is_plain_byte b) (list_all is_plain_byte bs) plain).0)
    go again true p false e = again e (sym (beyond-first b bs rest e) ∙ parts)
    go again true p true e =
        let nothing : bs ≡ [] = empty-is bs e in
        ap (λ t. after_word (codes "\n") (after_run 32 (t ++ rest))) nothing
        ∙ last rest (ap (λ v. not ((begins_with 32 rest || begins_with 10 rest) && v)) (sym p) ∙ ap (λ t. keeps_spaces rest (b ∷ t)) (sym nothing) ∙ parts)
      where
        empty-is : (t : List ℕ) → is_empty t ≡ true → t ≡ []
        empty-is [] e = refl
        empty-is (c ∷ cs) e = absurd (cc e)

-- so its first byte is read as text
pub plain-atom : (rules : Rules) (before : List ℕ) (b : ℕ) (bs rest : List ℕ) → list_all is_plain_byte (b ∷ bs) ≡ true → keeps_spaces rest (b ∷ bs) ≡ true → atom_at rules before b (bs ++ rest) ≡ byte_atom b (bs ++ rest)
unfolding atom_at markup_atom break_atom
plain-atom rules before b bs rest plain parts = go (is_markup b) refl
  where
    space : (is_space markup : Bool) → (is_space || not markup) ≡ true → markup ≡ true → is_space ≡ true
    space true markup e m = refl
    space false true e m = absurd (cc e)
    space false false e m = absurd (cc m)

    none : list_all is_plain_byte (32 ∷ bs) ≡ true → keeps_spaces rest (32 ∷ bs) ≡ true → markup_atom rules before 32 (bs ++ rest) ≡ None
    none h k = ap (λ (o : Option (List ℕ)). elim o as (λ _. Option AtomRead) [ Some left ↦ read (Whole (if nat_le 2 (run_length 32 (32 ∷ (bs ++ rest))) then Hard else Soft)) left | None ↦ None ]) (no-break (32 ∷ bs) rest h refl k)

    go : (markup : Bool) → is_markup b ≡ markup
        → elim markup as (λ _. AtomRead) [ true ↦ or_byte b (bs ++ rest) (markup_atom rules before b (bs ++ rest)) | false ↦ byte_atom b (bs ++ rest) ] ≡ byte_atom b (bs ++ rest)
    go false e = refl
    go true e =
        let is : b ≡ 32 = eqb-true b 32 (space (b == 32) (is_markup b) (and_parts (is_plain_byte b) (list_all is_plain_byte bs) plain).0 e) in
        ap (or_byte b (bs ++ rest)) (subst (λ c. markup_atom rules before c (bs ++ rest) ≡ None) (sym is)
        (none (subst (λ c. list_all is_plain_byte (c ∷ bs) ≡ true) is plain) (subst (λ c. keeps_spaces rest (c ∷ bs) ≡ true) is parts)))

-- and so do the others
pub further-keeps : (b : ℕ) (bs rest : List ℕ) → keeps_spaces rest (b ∷ bs) ≡ true → keeps_spaces rest bs ≡ true
unfolding ends_with
further-keeps b [] rest parts = none (begins_with 32 rest || begins_with 10 rest)
  where
    none : (next : Bool) → not (next && false) ≡ true
    none true = refl
    none false = refl
further-keeps b (c ∷ cs) rest parts = sym (beyond-first b (c ∷ cs) rest refl) ∙ parts

pub plain_front_is_text : PlainFrontIsText
unfolding items_after item_step add_atom ends_with
plain_front_is_text rules defined before [] rest items plain parts = refl
plain_front_is_text rules defined before (b ∷ bs) rest items plain parts =
    ap (λ (a : AtomRead). by (add_atom rules defined items a.atom a.rest)) (plain-atom rules before b bs rest plain parts)
    ∙ ap (λ n. items_after rules defined n (b ∷ before) (bs ++ rest) (Characters (b ∷ []) ∷ items)) nothing
    ∙ plain_front_is_text rules defined (b ∷ before) bs rest (Characters (b ∷ []) ∷ items) (and_parts (is_plain_byte b) (list_all is_plain_byte bs) plain).1 (further-keeps b bs rest parts)
    ∙ ap (λ passed. items_after rules defined zero passed rest (reverse (one_by_one bs) ++ Characters (b ∷ []) ∷ items)) (sym (append_assoc (reverse bs) (b ∷ []) before) ∙ ap (λ t. t ++ before) (sym (reverse-append (b ∷ []) bs)))
    ∙ ap (items_after rules defined zero (reverse (b ∷ bs) ++ before) rest) (sym (append_assoc (reverse (one_by_one bs)) (Characters (b ∷ []) ∷ []) items)
    ∙ ap (λ all. all ++ items) (sym (reverse-append (Characters (b ∷ []) ∷ []) (one_by_one bs))))
  where
    by : Bracketed → List Item
    by next = items_after rules defined (length (bs ++ rest) - length next.rest) (b ∷ before) (bs ++ rest) next.items

    nothing : length (bs ++ rest) - length (bs ++ rest) ≡ 0
    nothing = omega arith

plain-items : (rules : Rules) (defined : Defined) (source : List ℕ) → list_all is_plain_byte source ≡ true → items_after rules defined zero [] source [] ≡ reverse (one_by_one source)
unfolding items_after
plain-items rules defined source plain =
    ap (λ t. items_after rules defined zero [] t []) (sym (append-nil source)) ∙ plain_front_is_text rules defined [] source [] [] plain refl
    ∙ append-nil (reverse (one_by_one source))

-- a line break

spaces-run : (n : ℕ) (rest : List ℕ) → (run_length 32 (replicate n 32 ++ 10 ∷ rest) ≡ n) × (after_run 32 (replicate n 32 ++ 10 ∷ rest) ≡ 10 ∷ rest)
unfolding run_length after_run
spaces-run zero rest = (refl, refl)
spaces-run (suc n) rest = (ap suc (spaces-run n rest).0, (spaces-run n rest).1)

break-here : (n : ℕ) (rest : List ℕ) → break_atom (replicate n 32 ++ 10 ∷ rest) ≡ read (Whole (if nat_le 2 n then Hard else Soft)) rest
unfolding break_atom after_word
break-here n rest =
    ap (λ t. broken (run_length 32 text) (after_word (codes "\n") t)) (spaces-run n rest).1 ∙ ap (λ k. broken k (Some rest)) (spaces-run n rest).0
  where
    text : List ℕ
    text = replicate n 32 ++ 10 ∷ rest

    broken : ℕ → Option (List ℕ) → Option AtomRead
    broken k o = elim o as (λ _. Option AtomRead) [ Some left ↦ read (Whole (if nat_le 2 k then Hard else Soft)) left | None ↦ None ]

-- the step at its first byte
feed-step : (rules : Rules) (defined : Defined) (before bs : List ℕ) (items : List Item) (a : AtomRead) → break_atom (10 ∷ bs) ≡ Some a
    → item_step rules defined before 10 bs items ≡ add_atom rules defined items a.atom a.rest
unfolding item_step atom_at markup_atom
feed-step rules defined before bs items a e = ap (λ o. by (or_byte 10 bs o)) e
  where
    by : AtomRead → Bracketed
    by read = add_atom rules defined items read.atom read.rest

space-step : (rules : Rules) (defined : Defined) (before bs : List ℕ) (items : List Item) (a : AtomRead) → break_atom (32 ∷ bs) ≡ Some a
    → item_step rules defined before 32 bs items ≡ add_atom rules defined items a.atom a.rest
unfolding item_step atom_at markup_atom
space-step rules defined before bs items a e = ap (λ o. by (or_byte 32 bs o)) e
  where
    by : AtomRead → Bracketed
    by read = add_atom rules defined items read.atom read.rest

spaces-back : (n : ℕ) (before : List ℕ) → replicate n 32 ++ 32 ∷ before ≡ 32 ∷ (replicate n 32 ++ before)
spaces-back zero before = refl
spaces-back (suc n) before = ap (λ t. 32 ∷ t) (spaces-back n before)

reverse-spaces : (n : ℕ) → reverse {A = ℕ} (replicate n 32) ≡ replicate n 32
reverse-spaces zero = refl
reverse-spaces (suc n) =
    reverse-append {A = ℕ} (32 ∷ []) (replicate n 32) ∙ ap (λ t. t ++ 32 ∷ []) (reverse-spaces n) ∙ spaces-back n [] ∙ ap (λ t. 32 ∷ t) (append-nil (replicate n 32))

pub spaces_and_line_feed : SpacesAndLineFeed
unfolding add_atom
spaces_and_line_feed rules defined before rest zero items =
    let step = feed-step rules defined before rest items _ (break-here 0 rest) in
    reading_goes_on rules defined before 10 [] rest items (ap (λ (next : Bracketed). next.rest) step)
    ∙ ap (λ (next : Bracketed). items_after rules defined zero (10 ∷ before) rest next.items) step
spaces_and_line_feed rules defined before rest (suc n) items =
    let taken : List ℕ = replicate n 32 ++ 10 ∷ [] in
    let same : taken ++ rest ≡ replicate n 32 ++ 10 ∷ rest = append_assoc (replicate n 32) (10 ∷ []) rest in
    let step = space-step rules defined before (taken ++ rest) items _ (ap (λ t. break_atom (32 ∷ t)) same ∙ break-here (suc n) rest) in
    let beyond : reverse taken ++ 32 ∷ before ≡ 10 ∷ (replicate (suc n) 32 ++ before) =
    ap (λ t. t ++ 32 ∷ before) (reverse-append (replicate n 32) (10 ∷ []) ∙ ap (λ t. 10 ∷ t) (reverse-spaces n)) ∙ ap (λ t. 10 ∷ t) (spaces-back n before) in
    ap (λ t. items_after rules defined zero before (32 ∷ t) items) (sym same)
    ∙ reading_goes_on rules defined before 32 taken rest items (ap (λ (next : Bracketed). next.rest) step)
    ∙ ap (λ (next : Bracketed). items_after rules defined zero (reverse taken ++ 32 ∷ before) rest next.items) step
    ∙ ap (λ passed. items_after rules defined zero passed rest (Finished (if nat_le 2 (suc n) then Hard else Soft) ∷ items)) beyond

-- nothing pairs
no-pairs : (n : ℕ) (items : List Item) → n ≡ 0 → pairs_within n items ≡ items
unfolding pairs_within
no-pairs n items none = ap (λ k. pairs_within k items) none

pub plain_is_itself : PlainIsItself
unfolding inlines_of items_of pair_all settled_after
plain_is_itself rules defined source plain =
    ap (λ all. settled_after [] (pairs_within (sum_by room all) all)) items
    ∙ ap (settled_after []) (no-pairs (sum_by room (one_by_one source)) (one_by_one source) (no-room source))
    ∙ ap (settled_after []) (sym (append-nil (one_by_one source))) ∙ settled-one_by_one [] source []
  where
    items : reverse (items_after rules defined zero [] source []) ≡ one_by_one source
    items = ap reverse (plain-items rules defined source plain) ∙ reverse-reverse (one_by_one source)
