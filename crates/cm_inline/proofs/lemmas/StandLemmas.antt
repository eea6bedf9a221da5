-- Texts cut in pieces, and what marks that were read stand for.
use Rattle.cm_inline.proofs.lemmas.Words.{◌≡◌, ℕ, ◌≤◌, ◌==◌, ◌&&◌, Bool, true, false, List, [], ◌∷◌, ◌++◌, map, refl, sym, ap, subst, ◌∙◌, arith, append_assoc}
use Rattle.cm_inline.proofs.lemmas.Words.{append-nil, if◌then◌else◌, list_all, concat, and_parts, nat_tests, flat_map-append, escape, escape_byte, depth_of, Inline}
use Rattle.cm_inline.proofs.lemmas.Words.{Item, Characters, Finished, Opener, bracket_text, get_or_append_left, rules}
use Rattle.cm_tree.specs.declared.tree.Inline.TheVariants as inline
use Rattle.cm_inline.specs.steps.pairing.ClosingRuns.{AreUnder}
use Rattle.cm_inline.specs.steps.pairing.Events.{Event, Text, Whole, Rest, Built, build, add_text}
use Rattle.cm_inline.specs.steps.pairing.Parts.{Pair, PairedRun, Part, Numbered, Known, events_of, AreParts, Rising, HaveNoRun, IsNoRun}
use Rattle.cm_inline.specs.steps.pairing.Readings.{Mode, page, write_all, deepest, StandFor}
use Rattle.cm_inline.specs.steps.pairing.Paired.{AreRuns}
use Rattle.cm_inline.specs.steps.pairing.Segments.{Segment, Waiting, Made, is_run, IsMade}
use Rattle.cm_inline.specs.steps.Marks.{text_event, texts, stays_text}

-- texts side by side
abbrev pub text_events : List (List ℕ) → List Event
text_events ts = map (λ t. Text t) ts

text-more : (m : Built) (t : List ℕ) (u : List ℕ) → add_text (add_text m t) u ≡ add_text m (t ++ u)
text-more m t u = ap (λ x. record { content = m.content; text = x; outer = m.outer }) (append_assoc m.text t u)

cut-means : (ts : List (List ℕ)) (m : Built) → build m (text_events ts) ≡ add_text m (concat ts)
unfolding build
cut-means [] m = ap (λ x. record { content = m.content; text = x; outer = m.outer }) (sym (append-nil m.text))
cut-means (t ∷ ts) m = cut-means ts (add_text m t) ∙ text-more m t (concat ts)

cut-writes : (ts : List (List ℕ)) (html : List ℕ) (mode : Mode) → write_all (page html mode) (text_events ts) ≡ page (html ++ escape (concat ts)) mode
unfolding write_all
cut-writes [] html mode = ap (λ t. page t mode) (sym (append-nil html))
cut-writes (t ∷ ts) html mode =
    cut-writes ts (html ++ escape t) mode
    ∙ ap (λ t. page t mode) (append_assoc html (escape t) (escape (concat ts)) ∙ ap (λ t. html ++ t) (sym (flat_map-append escape_byte t (concat ts))))

cut-nests : (ts : List (List ℕ)) (depth most : ℕ) (more : List Event) → deepest depth most (text_events ts ++ more) ≡ deepest depth most more
unfolding deepest
cut-nests [] depth most more = refl
cut-nests (t ∷ ts) depth most more = cut-nests ts depth most more

-- Texts side by side stand for the characters of them all.
pub cut-stands : (ts : List (List ℕ)) → StandFor (text_events ts) (Characters (concat ts) ∷ [])
unfolding build write_all
cut-stands ts = search (rules, cut-means, cut-writes, append-nil, cut-nests)

-- a text of which each byte stays text
abbrev bytes-of : List ℕ → List (List ℕ)
bytes-of text = map (λ b. b ∷ []) text

bytes-whole : (text : List ℕ) → concat (bytes-of text) ≡ text
bytes-whole [] = refl
bytes-whole (b ∷ bs) = ap (λ t. b ∷ t) (bytes-whole bs)

no-feed : (b : ℕ) → stays_text true b ≡ true → (b == 10) ≡ false
no-feed b h = grind (arith, nat_tests, h)

byte-events : (text : List ℕ) → list_all (stays_text true) text ≡ true → map text_event text ≡ text_events (bytes-of text)
byte-events [] h = refl
byte-events (b ∷ bs) h =
    let parts = and_parts (stays_text true b) (list_all (stays_text true) bs) h in
    ap (λ v. (if v then Whole inline.Soft else Text (b ∷ [])) ∷ map text_event bs) (no-feed b parts.0) ∙ ap (λ t. Text (b ∷ []) ∷ t) (byte-events bs parts.1)

pub bytes-stand : (text : List ℕ) → list_all (stays_text true) text ≡ true → StandFor (map text_event text) (Characters text ∷ [])
bytes-stand text h =
    subst (λ fs. StandFor fs (Characters text ∷ [])) (sym (byte-events text h)) (subst (λ t. StandFor (text_events (bytes-of text)) (Characters t ∷ [])) (bytes-whole text) (cut-stands (bytes-of text)))

-- One event that an item is.
pub text-stands : (t : List ℕ) → StandFor (Text t ∷ []) (Characters t ∷ [])
text-stands t = subst (λ u. StandFor (Text t ∷ []) (Characters u ∷ [])) (append-nil t) (cut-stands (t ∷ []))

pub opener-stands : (image : Bool) (source : List ℕ) → StandFor (Text (bracket_text image) ∷ []) (Opener image source ∷ [])
unfolding build write_all deepest
opener-stands image source = search rules

pub inline-stands : (i : Inline) → depth_of i ≤ 1 → StandFor (Whole i ∷ []) (Finished i ∷ [])
unfolding build write_all deepest
inline-stands i shallow = search rules

-- parts that hold no run
abbrev pub AreKnown : List Part → Type 0
AreKnown [] = Unit {0}
AreKnown (Numbered number ∷ ms) = ⊥
AreKnown (Known fs ∷ ms) = HaveNoRun fs × AreKnown ms

known-parts : (runs : List PairedRun) (pairs : List Pair) (ms : List Part) → AreKnown ms → AreParts runs pairs ms
known-parts runs pairs [] h = tt
known-parts runs pairs (Numbered number ∷ ms) h = absurd h
known-parts runs pairs (Known fs ∷ ms) h = (h.0, known-parts runs pairs ms h.1)

known-under : (n : ℕ) (ms : List Part) → AreKnown ms → AreUnder n ms
known-under n [] h = tt
known-under n (Numbered number ∷ ms) h = absurd h
known-under n (Known fs ∷ ms) h = known-under n ms h.1

none-rising : (low : ℕ) (fs gs : List Event) → HaveNoRun fs → Rising low gs → Rising low (fs ++ gs)
none-rising low [] gs h r = r
none-rising low (Rest number run ∷ fs) gs h r = absurd h.0
none-rising low (_ ∷ fs) gs h r = none-rising low fs gs h.1 r

known-rising : (low : ℕ) (runs : List PairedRun) (pairs : List Pair) (ms : List Part) → AreKnown ms → Rising low (events_of runs pairs ms)
unfolding events_of
known-rising low runs pairs [] h = tt
known-rising low runs pairs (Numbered number ∷ ms) h = absurd h
known-rising low runs pairs (Known fs ∷ ms) h = none-rising low fs (events_of runs pairs ms) h.0 (known-rising low runs pairs ms h.1)

-- So they are made of an item that they stand for.
pub known-made : (runs : List PairedRun) (pairs : List Pair) (low : ℕ) (ms : List Part) (item : Item) → AreKnown ms → is_run item ≡ false → StandFor (events_of runs pairs ms) (item ∷ []) → IsMade runs pairs low ms item low
known-made runs pairs low ms item known other means = search (rules, known-parts, known-rising, known-under)

-- text
pub texts-known : (text : List ℕ) → AreKnown (texts text)
texts-known [] = tt
texts-known (b ∷ bs) = (((elim (b == 10) as (λ feed. IsNoRun (if feed then Whole inline.Soft else Text (b ∷ []))) [ true ↦ tt | false ↦ tt ]), tt), texts-known bs)

pub texts-events : (runs : List PairedRun) (pairs : List Pair) (text : List ℕ) → events_of runs pairs (texts text) ≡ map text_event text
unfolding events_of
texts-events runs pairs [] = refl
texts-events runs pairs (b ∷ bs) = ap (λ t. text_event b ∷ t) (texts-events runs pairs bs)

pub texts-stand : (runs : List PairedRun) (pairs : List Pair) (text : List ℕ) → list_all (stays_text true) text ≡ true → StandFor (events_of runs pairs (texts text)) (Characters text ∷ [])
texts-stand runs pairs text h = subst (λ fs. StandFor fs (Characters text ∷ [])) (sym (texts-events runs pairs text)) (bytes-stand text h)

-- what stays text with lines does without
pub stays-any : (lines : Bool) (text : List ℕ) → list_all (stays_text true) text ≡ true → list_all (stays_text lines) text ≡ true
stays-any true text h = h
stays-any false [] h = refl
stays-any false (b ∷ bs) h =
    let parts = and_parts (stays_text true b) (list_all (stays_text true) bs) h in
    ap (λ v. v && list_all (stays_text false) bs) (weaker b parts.0) ∙ stays-any false bs parts.1
  where
    weaker : (b : ℕ) → stays_text true b ≡ true → stays_text false b ≡ true
    weaker b h = grind (arith, nat_tests, h)

-- Segments, one after another, and with more runs.
pub runs-append : (xs ys : List Segment) → AreRuns xs → AreRuns ys → AreRuns (xs ++ ys)
runs-append [] ys h g = g
runs-append (Waiting number run ∷ xs) ys h g = (h.0, h.1, runs-append xs ys h.2 g)
runs-append (Made parts item high ∷ xs) ys h g = runs-append xs ys h g

pub runs-split : (xs ys : List Segment) → AreRuns (xs ++ ys) → AreRuns xs × AreRuns ys
runs-split [] ys h = (tt, h)
runs-split (Waiting number run ∷ xs) ys h = let rest = runs-split xs ys h.2 in ((h.0, h.1, rest.0), rest.1)
runs-split (Made parts item high ∷ xs) ys h = runs-split xs ys h

pub events-more : (runs more : List PairedRun) (pairs : List Pair) (ms : List Part) → AreParts runs pairs ms → events_of (runs ++ more) pairs ms ≡ events_of runs pairs ms
unfolding events_of
events-more runs more pairs [] h = refl
events-more runs more pairs (Numbered number ∷ ms) h = search (rules, get_or_append_left, (events-more runs more pairs ms h.3))
events-more runs more pairs (Known fs ∷ ms) h = ap (λ t. fs ++ t) (events-more runs more pairs ms h.1)
