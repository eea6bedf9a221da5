-- Source that is written line by line.
use Rattle.std.proofs.Common.{◌≡◌, ◌⊎◌, inl, inr, ℕ, ◌==◌, ◌||◌, Bool, true, false, zero, suc, ◌+◌, ◌<◌, ◌≤◌, List, [], ◌∷◌, ◌++◌, length, take, get_or, replicate, refl, sym, ap, subst, ◌∙◌, append_assoc, append-nil, length-append, arith}
use Rattle.std.specs.Prelude.{string_bytes, if◌then◌else◌, Result, Ok, Err, is_ok, OnOk}
use Rattle.std.specs.List.{list_any}
use Rattle.std.proofs.lemmas.List.Concat.{flat_map-append}
use Rattle.std.proofs.Math.Seq.{take-append_seam, get_or-append_seam}
use Rattle.cm_scan.proofs.lemmas.texts.TrimLemmas.{trimmed}
use Rattle.cm_scan.specs.Words.{keep_byte, trim_end_by, trim_end_spaces}
use Rattle.cm_source.specs.declared.source_lines.SourceLines.{SourceLines}
use Rattle.cm_source.specs.Spelling.{in_front, parted_lines}
use Rattle.cm_source.specs.steps.WrittenLines.{beyond, further_lines, all_lines, next_front, next_begun, Place, IsInside, up_to, lay, Writes, BeginsLine, Ends, Lays, Enters, Leaves}
use Rattle.cm_source.specs.BetweenLines.{StandsAt, IsEnded, IsBetween}
use Rattle.cm_source.proofs.lemmas.sources.LineFronts.{seen_view, parted-lines}
use Rattle.cm_source.proofs.lemmas.sources.LineFronts as parted

-- what keeps something of its end keeps all before it
pub kept-front : (front rest : List ℕ) (b : ℕ) (bs : List ℕ) → trim_end_spaces rest ≡ b ∷ bs → trim_end_spaces (front ++ rest) ≡ front ++ trim_end_spaces rest
unfolding trim_end_by
kept-front [] rest b bs e = refl
kept-front (c ∷ cs) rest b bs e = ap (keep_byte (λ c. c == 32) c) (kept-front cs rest b bs e) ∙ kept cs
  where
    kept : (cs : List ℕ) → keep_byte (λ c. c == 32) c (cs ++ trim_end_spaces rest) ≡ c ∷ (cs ++ trim_end_spaces rest)
    kept [] = ap (λ t. keep_byte (λ c. c == 32) c t) e ∙ ap (λ t. c ∷ t) (sym e)
    kept (d ∷ ds) = refl

feed-kept : (rest text : List ℕ) → trim_end_spaces (10 ∷ text) ≡ 10 ∷ trim_end_spaces text
unfolding trim_end_by
feed-kept rest text = go (trim_end_spaces text)
  where
    go : (t : List ℕ) → keep_byte (λ c. c == 32) 10 t ≡ 10 ∷ t
    go [] = refl
    go (b ∷ bs) = refl

-- a line feed at the end
pub feed-ended : (front : List ℕ) → IsEnded (front ++ 10 ∷ [])
feed-ended front text =
    ap trim_end_spaces (append_assoc front (10 ∷ []) text) ∙ kept-front front (10 ∷ text) 10 (trim_end_spaces text) (feed-kept [] text)
    ∙ ap (λ t. front ++ t) (feed-kept [] text) ∙ sym (append_assoc front (10 ∷ []) (trim_end_spaces text))

-- the spaces at the end of a text start where it is stripped
pub stripped-end : (text : List ℕ) → length (trim_end_spaces text) ≤ length text × (length (trim_end_spaces text) < length text → get_or text (length (trim_end_spaces text)) 0 ≡ 32) × (take (length (trim_end_spaces text)) text ≡ trim_end_spaces text)
stripped-end text =
    let t = trimmed text in
    let n = length (trim_end_spaces text) in
    let size : length text ≡ n + length (replicate {A = ℕ} t.count 32) = ap length t.is ∙ length-append (trim_end_spaces text) (replicate t.count 32) in (
      omega (arith, size),
      λ some. (ap (λ s. get_or s n 0) t.is ∙ first t.count (omega (arith, some, size))),
      ap (take n) t.is ∙ take-append_seam (trim_end_spaces text) (replicate t.count 32),
    )
  where
    first : (count : ℕ) → 0 < length (replicate {A = ℕ} count 32) → get_or (trim_end_spaces text ++ replicate count 32) (length (trim_end_spaces text)) 0 ≡ 32
    first zero some = absurd (omega (arith, some))
    first (suc count) some = get_or-append_seam (trim_end_spaces text) 32 (replicate count 32) 0

-- content that is in lines

pub lay-more : (front : List ℕ) (place : Place) (xs ys : List ℕ) → lay front place (xs ++ ys) ≡ lay front (lay front place xs) ys
unfolding lay
lay-more front place [] ys = refl
lay-more front place (b ∷ bs) ys = lay-more front (if b == 10 then record { done = up_to place; first = front; last = [] } else record place { last = place.last ++ b ∷ [] }) bs ys

-- what is in one line
pub lay-inside : (front : List ℕ) (place : Place) (text : List ℕ) → list_any (λ b. b == 10) text ≡ false → lay front place text ≡ record place { last = place.last ++ text }
unfolding lay
lay-inside front place [] none = ap (λ t. record place { last = t }) (sym (append-nil place.last))
lay-inside front place (b ∷ bs) none = go (b == 10) none (λ h. lay-inside front (record place { last = place.last ++ b ∷ [] }) bs h)
  where
    more : Place
    more = record place { last = place.last ++ b ∷ [] }

    go : (feed : Bool) → feed || list_any (λ b. b == 10) bs ≡ false → (list_any (λ b. b == 10) bs ≡ false → lay front more bs ≡ record more { last = more.last ++ bs })
        → lay front (if feed then record { done = up_to place; first = front; last = [] } else more) bs ≡ record place { last = place.last ++ b ∷ bs }
    go true none again = absurd (cc none)
    go false none again = again none ∙ ap (λ t. record place { last = t }) (append_assoc place.last (b ∷ []) bs)

-- the lines of a content, of which the first starts with what is written of it already
abbrev put_front : List ℕ → List (List ℕ) → List (List ℕ)
put_front last [] = []
put_front last (line ∷ lines) = (last ++ line) ∷ lines

pub all-alike : (front : List ℕ) (lines : List (List ℕ)) → all_lines front front lines ≡ further_lines front lines
all-alike front [] = refl
all-alike front (line ∷ lines) = sym (append_assoc (beyond front line) (10 ∷ []) (further_lines front lines))

put-nothing : (lines : List (List ℕ)) → put_front [] lines ≡ lines
put-nothing [] = refl
put-nothing (line ∷ lines) = refl

-- where a content leads, once its last line is ended
pub laid-lines : (front : List ℕ) (place : Place) (content : List ℕ) → up_to (lay front place content) ≡ place.done ++ all_lines place.first front (put_front place.last (parted_lines content))
unfolding lay parted_lines
laid-lines front place [] = ap (λ t. place.done ++ beyond place.first t ++ 10 ∷ []) (sym (append-nil place.last)) ∙ append_assoc place.done (beyond place.first (place.last ++ [])) (10 ∷ [])
laid-lines front place (b ∷ bs) = go (b == 10) (laid-lines front (record { done = up_to place; first = front; last = [] }) bs) (laid-lines front (record place { last = place.last ++ b ∷ [] }) bs)
  where
    broken : Place
    broken = record { done = up_to place; first = front; last = [] }

    more : Place
    more = record place { last = place.last ++ b ∷ [] }

    go : (feed : Bool) → up_to (lay front broken bs) ≡ up_to place ++ all_lines front front (put_front [] (parted_lines bs))
        → up_to (lay front more bs) ≡ place.done ++ all_lines place.first front (put_front (place.last ++ b ∷ []) (parted_lines bs))
        → up_to (lay front (if feed then broken else more) bs)
        ≡ place.done ++ all_lines place.first front (put_front place.last (if feed then [] ∷ parted_lines bs else in_front b (parted_lines bs)))
    go true after further =
        after ∙ ap (λ t. up_to place ++ all_lines front front t) (put-nothing (parted_lines bs)) ∙ ap (λ t. up_to place ++ t) (all-alike front (parted_lines bs))
        ∙ append_assoc (place.done ++ beyond place.first place.last) (10 ∷ []) (further_lines front (parted_lines bs))
        ∙ append_assoc place.done (beyond place.first place.last) (10 ∷ further_lines front (parted_lines bs))
        ∙ ap (λ t. place.done ++ (beyond place.first t ++ 10 ∷ further_lines front (parted_lines bs))) (sym (append-nil place.last))
    go false after further =
        let line = seen_view bs in
        let lines = parted.further_lines bs in
        let e = parted-lines bs in
        further
        ∙ ap (λ t. place.done ++ all_lines place.first front (put_front (place.last ++ b ∷ []) t)) e
        ∙ ap (λ t. place.done ++ all_lines place.first front (t ∷ lines)) (append_assoc place.last (b ∷ []) line)
        ∙ ap (λ t. place.done ++ all_lines place.first front (put_front place.last (in_front b t))) (sym e)

-- calls

pub when-ok : {T E A : Type 0} (r : Result T E) (new done old : A) → new ≡ (if is_ok r then done else old) → OnOk r (new ≡ done)
when-ok (Ok t) new done old e = e
when-ok (Err f) new done old e = tt

pub then-ok : {T E P Q : Type 0} (r : Result T E) → (P → Q) → OnOk r P → OnOk r Q
then-ok (Ok x) f p = f p
then-ok (Err e) f p = tt

pub lays-text : (old new : SourceLines) (text : List ℕ) → string_bytes new.text ≡ string_bytes old.text ++ text → new.front ≡ old.front → new.begun ≡ old.begun → new.line ≡ old.line → list_any (λ b. b == 10) text ≡ false → Lays old new text
lays-text old new text pushed same begun line none place front is = subst (λ p. IsInside new p front) (sym (lay-inside front place text none)) (record {
  text = pushed ∙ ap (λ t. t ++ text) is.text ∙ append_assoc (place.done ++ place.first) place.last text;
  begun = begun ∙ is.begun;
  line = line ∙ is.line;
  front_is = ap string_bytes same ∙ is.front_is;
  ended = is.ended;
})

pub lays-then : (one two three : SourceLines) (xs ys : List ℕ) → Lays one two xs → Lays two three ys → Lays one three (xs ++ ys)
lays-then one two three xs ys first second place front is = subst (λ p. IsInside three p front) (sym (lay-more front place xs ys)) (second (lay front place xs) front (first place front is))

pub lays-nothing : (source : SourceLines) → Lays source source []
unfolding lay
lays-nothing source place front is = is

-- a line broken
pub lays-break : (one two three : SourceLines) → Ends one two → BeginsLine two three → Lays one three (10 ∷ [])
unfolding lay
lays-break one two three ends begins place front is = begins false (up_to place) front front (ends place front is)

-- a content that is between the start and the end of a line
pub writes-content : (one two three four : SourceLines) (content : List ℕ) → BeginsLine one two → Lays two three content → Ends three four → Writes one four (parted_lines content)
writes-content one two three four content begins lays ends begun done first front is =
    let start : Place = record { done = done; first = first; last = [] } in
    let e = parted-lines content in
    subst (λ t. IsBetween four (next_begun begun t) (done ++ all_lines first front t) (next_front first front t) front) (sym e)
    (subst (λ t. IsBetween four false t front front) (laid-lines front start content ∙ ap (λ t. done ++ all_lines first front (put_front [] t)) e)
    (ends (lay front start content) front (lays start front (begins begun done first front is))))

-- no line, and some lines and others after them
pub writes-nothing : (source : SourceLines) → Writes source source []
writes-nothing source begun done first front is = subst (λ t. IsBetween source begun t first front) (sym (append-nil done)) is

pub writes-then : (one two three : SourceLines) (lines more : List (List ℕ)) → Writes one two lines → Writes two three more → Writes one three (lines ++ more)
writes-then one two three [] more writes then_writes begun done first front is =
    then_writes begun done first front (subst (λ t. IsBetween two begun t first front) (append-nil done) (writes begun done first front is))
writes-then one two three (line ∷ lines) more writes then_writes begun done first front is = go more (then_writes false (done ++ all_lines first front (line ∷ lines)) front front (writes begun done first front is))
  where
    shape : (more : List (List ℕ)) → (done ++ all_lines first front (line ∷ lines)) ++ all_lines front front more ≡ done ++ all_lines first front (line ∷ (lines ++ more))
    shape more =
        append_assoc done (all_lines first front (line ∷ lines)) (all_lines front front more)
        ∙ ap (λ t. done ++ t) (append_assoc (beyond first line) (10 ∷ further_lines front lines) (all_lines front front more)
        ∙ ap (λ t. beyond first line ++ 10 ∷ (further_lines front lines ++ t)) (all-alike front more)
        ∙ ap (λ t. beyond first line ++ 10 ∷ t) (sym (flat_map-append (λ l. beyond front l ++ 10 ∷ []) lines more)))

    go : (more : List (List ℕ)) → IsBetween three (next_begun false more) ((done ++ all_lines first front (line ∷ lines)) ++ all_lines front front more) (next_front front front more) front
        → IsBetween three false (done ++ all_lines first front (line ∷ (lines ++ more))) front front
    go [] is = subst (λ t. IsBetween three false t front front) (shape []) is
    go (m ∷ ms) is = subst (λ t. IsBetween three false t front front) (shape (m ∷ ms)) is

pub parted-one : (text : List ℕ) → list_any (λ b. b == 10) text ≡ false → parted_lines text ≡ text ∷ []
unfolding parted_lines
parted-one [] none = refl
parted-one (b ∷ bs) none = go (b == 10) none (λ h. parted-one bs h)
  where
    go : (feed : Bool) → feed || list_any (λ b. b == 10) bs ≡ false → (list_any (λ b. b == 10) bs ≡ false → parted_lines bs ≡ bs ∷ []) → (if feed then [] ∷ parted_lines bs else in_front b (parted_lines bs)) ≡ (b ∷ bs) ∷ []
    go true none again = absurd (cc none)
    go false none again = ap (in_front b) (again none)

-- a line that has started
pub begun-already : (old : SourceLines) → old.begun ≡ true → BeginsLine old old
begun-already old some begun done first front is =
    let stands = subst (λ b. StandsAt b old.line (string_bytes old.text) done first front) (sym is.begun_is ∙ some) is.stands in
    record { text = stands.0 ∙ sym (append-nil (done ++ first)); begun = some; line = stands.1 ∙ ap length stands.0; front_is = is.front_is; ended = is.ended }

-- a line ended: where its content is empty the spaces before it go
pub ends-line : (old new : SourceLines)
    → ((old.line ≡ length (string_bytes old.text)) × (string_bytes new.text ≡ trim_end_spaces (string_bytes old.text) ++ 10 ∷ []) ⊎ (old.line ≡ length (string_bytes old.text) → ⊥) × (string_bytes new.text ≡ string_bytes old.text ++ 10 ∷ []))
    → new.front ≡ old.front → new.begun ≡ false → Ends old new
ends-line old new text same none place front is = record {
  begun_is = none;
  stands = (pushed place.last is.text text, refl);
  front_is = ap string_bytes same ∙ is.front_is;
  ended = feed-ended (place.done ++ beyond place.first place.last);
}
  where
    at : List ℕ
    at = place.done ++ place.first

    pushed : (last : List ℕ) → string_bytes old.text ≡ at ++ last
        → ((old.line ≡ length (string_bytes old.text)) × (string_bytes new.text ≡ trim_end_spaces (string_bytes old.text) ++ 10 ∷ []) ⊎ (old.line ≡ length (string_bytes old.text) → ⊥) × (string_bytes new.text ≡ string_bytes old.text ++ 10 ∷ []))
        → string_bytes new.text ≡ (place.done ++ beyond place.first last) ++ 10 ∷ []
    pushed [] whole (inl (e, f)) = f ∙ ap (λ t. trim_end_spaces t ++ 10 ∷ []) (whole ∙ append-nil at) ∙ ap (λ t. t ++ 10 ∷ []) (is.ended place.first)
    pushed [] whole (inr (e, f)) = absurd (e (is.line ∙ ap length (sym (whole ∙ append-nil at))))
    pushed (b ∷ bs) whole (inl (e, f)) = absurd (omega (arith, e, is.line, ap length whole, length-append at (b ∷ bs)))
    pushed (b ∷ bs) whole (inr (e, f)) = f ∙ ap (λ t. t ++ 10 ∷ []) (whole ∙ append_assoc place.done place.first (b ∷ bs))

-- a container entered
pub enters : (one two new : SourceLines) (mark further : List ℕ) → BeginsLine one two → string_bytes new.text ≡ string_bytes two.text ++ mark → new.line ≡ length (string_bytes new.text) → new.begun ≡ two.begun → string_bytes new.front ≡ string_bytes two.front ++ further
    → Enters one new mark further
enters one two new mark further begins text line same front_is begun done first front is =
    let inside = begins begun done first front is in
    let whole = text ∙ ap (λ t. t ++ mark) (inside.text ∙ append-nil (done ++ first)) ∙ append_assoc done first mark in
    record {
      begun_is = same ∙ inside.begun;
      stands = (whole, line);
      front_is = front_is ∙ ap (λ t. t ++ further) inside.front_is;
      ended = inside.ended;
    }

-- and left: what is before further lines is cut back to what was before
cut-back : (mid new : SourceLines) (front : ℕ) (done outer further : List ℕ) → front ≡ length outer → string_bytes new.text ≡ string_bytes mid.text → new.begun ≡ mid.begun → string_bytes new.front ≡ take front (string_bytes mid.front)
    → IsBetween mid false done (outer ++ further) (outer ++ further) → IsBetween new false done outer outer
cut-back mid new front done outer further long text same cut is = record {
  begun_is = same ∙ is.begun_is;
  stands = (text ∙ is.stands.0, refl);
  front_is = cut ∙ ap (take front) is.front_is ∙ ap (λ n. take n (outer ++ further)) long ∙ take-append_seam outer further;
  ended = is.ended;
}

pub leaves-begun : (old mid new : SourceLines) (front : ℕ) → old.begun ≡ true → Ends old mid → string_bytes new.text ≡ string_bytes mid.text → new.begun ≡ mid.begun → string_bytes new.front ≡ take front (string_bytes mid.front) → Leaves old new front
leaves-begun old mid new front some ends text same cut done first outer further [] long is =
    let inside = begun-already old some true (done ++ []) first (outer ++ further) is in
    let place = ap (λ t. (t ++ beyond first []) ++ 10 ∷ []) (append-nil done) ∙ append_assoc done (beyond first []) (10 ∷ []) in
    let after = ends (record { done = done ++ []; first = first; last = [] }) (outer ++ further) inside in
    cut-back mid new front (done ++ (beyond first [] ++ 10 ∷ [])) outer further long text same cut (subst (λ t. IsBetween mid false t (outer ++ further) (outer ++ further)) place after)
leaves-begun old mid new front some ends text same cut done first outer further (line ∷ lines) long is = absurd (cc (sym some ∙ is.begun_is))

pub leaves-ended : (old new : SourceLines) (front : ℕ) → old.begun ≡ false → string_bytes new.text ≡ string_bytes old.text → new.begun ≡ old.begun → string_bytes new.front ≡ take front (string_bytes old.front) → Leaves old new front
leaves-ended old new front none text same cut done first outer further [] long is = absurd (cc (sym none ∙ is.begun_is))
leaves-ended old new front none text same cut done first outer further (line ∷ lines) long is = cut-back old new front (done ++ all_lines first (outer ++ further) (line ∷ lines)) outer further long text same cut is
