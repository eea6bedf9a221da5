-- A part between brackets, read one byte at a time.
use Rattle.std.proofs.Common.{◌≡◌, ℕ, zero, suc, ◌+◌, ◌-◌, ◌<◌, ◌≤◌, ◌==◌, ◌&&◌, ◌||◌, not, cond, nat_le, nat_lt, Bool, true, false, List, [], ◌∷◌, ◌++◌, length, take, drop, get_or, Option, Some, None, IfSome, refl, sym, ap, ap₂, subst, ◌∙◌, arith, add-one, drop-cons, append_assoc, ⊎_elim}
use mir.Val.{bool_byte}
use Rattle.std.specs.List.{slice_range}
use Rattle.std.proofs.Math.Seq.{take-suc}
use Rattle.std.proofs.lemmas.List.{append-nil, drop_all, get_or-drop, length-drop}
use Rattle.std.proofs.lemmas.List.Sums.{sum_by-cons}
use Rattle.std.proofs.lemmas.Bool.{and_parts, eqb-true, true≢false, cases_lt}
use Rattle.std.proofs.lemmas.Bool.Decides.{nat_tests}
use Rattle.cm_text.specs.Characters.{is_ascii_punct}
use Rattle.cm_scan.specs.Words.{is_space_or_tab, skip, trim_start, begins_with}
use Rattle.cm_scan.specs.spans.Tags.{is_blank_byte}
use Rattle.cm_scan.specs.inlines.Links.{Reading, beyond, keep_if, escapes_next, up_to_closing, characters, has_blank_line}
use Rattle.cm_scan.specs.steps.LinkSteps.{closed_at, begins_character, fits, is_barred, blank_follows, is_plain, is_refused}

-- whether the byte after this one is escaped
abbrev pub mark : Bool → ℕ → List ℕ → Bool
mark escaped b bs = not escaped && escapes_next b bs

-- a line feed escapes nothing, and neither does a space or a tab
no-mark : (escaped : Bool) (b : ℕ) (bs : List ℕ) → is_blank_byte b ≡ true → mark escaped b bs ≡ false
no-mark true b bs h = refl
no-mark false b [] h = refl
no-mark false b (c ∷ cs) h = grind (arith, nat_tests, h)

-- a test that no space, tab or line feed passes
abbrev pub NoBlanks : (ℕ → Bool) → Type 0
NoBlanks test = (b : ℕ) → is_blank_byte b ≡ true → test b ≡ false

-- a test that no space or tab passes
abbrev pub NoSpaces : (ℕ → Bool) → Type 0
NoSpaces test = (b : ℕ) → is_space_or_tab b ≡ true → test b ≡ false

pub closes-no_blanks : (close : ℕ) → is_blank_byte close ≡ false → NoBlanks (λ b. b == close)
closes-no_blanks close h b blank = grind (arith, nat_tests, h, blank)

pub barred-no_spaces : (open_byte : ℕ) (one_line : Bool) → is_blank_byte open_byte ≡ false → NoSpaces (is_barred open_byte one_line)
barred-no_spaces open_byte true h b blank = grind (arith, nat_tests, h, blank)
barred-no_spaces open_byte false h b blank = grind (arith, nat_tests, h, blank)

-- what holds after a byte
if-beyond : (P Q : Reading → Type 0) (b : ℕ) (o : Option Reading) → ((r : Reading) → P r → Q (record { text = b ∷ r.text; rest = r.rest })) → IfSome o P → IfSome (beyond b o) Q
if-beyond P Q b None step h = tt
if-beyond P Q b (Some r) step h = step r h

if-all : (P : Reading → Type 0) (o : Option Reading) → ((r : Reading) → P r) → IfSome o P
if-all P None h = tt
if-all P (Some r) h = h r

if-some : (P Q : Reading → Type 0) (o : Option Reading) → ((r : Reading) → P r → Q r) → IfSome o P → IfSome o Q
if-some P Q None step h = tt
if-some P Q (Some r) step h = step r h

none-of : (a b c : Bool) → (a || b || c) ≡ false → (a ≡ false) × (b ≡ false) × (c ≡ false)
none-of true b c h = absurd (cc)
none-of false true c h = absurd (cc)
none-of false false c h = (refl, refl, h)

right_of : (a b : Bool) → (a && b) ≡ true → b ≡ true
right_of true b h = h
right_of false b h = absurd (cc)

if-any : (o : Option Reading) → IfSome o (λ r. Unit {0})
if-any None = tt
if-any (Some r) = tt

characters-cons : (b : ℕ) (bs : List ℕ) → characters (b ∷ bs) ≡ cond (begins_character b) 1 0 + characters bs
characters-cons b bs = sum_by-cons (λ x. cond (begins_character x) 1 0) b bs

too-long : (b : ℕ) (blank_lines : Bool) (o : Option Reading) → begins_character b ≡ true → keep_if (fits 0 blank_lines) (beyond b o) ≡ None
too-long b blank_lines None h = refl
too-long b blank_lines (Some r) h = let more = characters-cons b r.text in grind (arith, nat_tests, h, more)

fits-more : (most b : ℕ) (blank_lines : Bool) (r : Reading) → (most == 0 && begins_character b) ≡ false → (not blank_lines && blank_follows b r.text) ≡ false
    → fits most blank_lines (record { text = b ∷ r.text; rest = r.rest }) ≡ fits (most - cond (begins_character b) 1 0) blank_lines r
unfolding has_blank_line
fits-more most b blank_lines r h k =
    let more = characters-cons b r.text in
    let same : nat_le (characters (b ∷ r.text)) most ≡ nat_le (characters r.text) (most - cond (begins_character b) 1 0) = grind (arith, nat_tests, h, more) in
    let lines : has_blank_line (b ∷ r.text) ≡ (blank_follows b r.text || has_blank_line r.text) = refl in
    rw same (grind (arith, lines, k))

keep-more : (most b : ℕ) (blank_lines : Bool) (o : Option Reading) → (most == 0 && begins_character b) ≡ false
    → IfSome o (λ r. (not blank_lines && blank_follows b r.text) ≡ false)
    → keep_if (fits most blank_lines) (beyond b o) ≡ beyond b (keep_if (fits (most - cond (begins_character b) 1 0) blank_lines) o)
keep-more most b blank_lines None h k = refl
keep-more most b blank_lines (Some r) h k =
    let same : fits most blank_lines (record { text = b ∷ r.text; rest = r.rest }) ≡ fits (most - cond (begins_character b) 1 0) blank_lines r = fits-more most b blank_lines r h k in
    grind (arith, same)

keep-blank : (most b : ℕ) (o : Option Reading) → IfSome o (λ r. blank_follows b r.text ≡ true) → keep_if (fits most false) (beyond b o) ≡ None
unfolding has_blank_line
keep-blank most b None k = refl
keep-blank most b (Some r) k = grind (arith, nat_tests, k)

module _ (closes forbidden : ℕ → Bool) where
  closed-more : (escaped : Bool) (b : ℕ) (bs : List ℕ) → (not escaped && closes b) ≡ false → (not escaped && forbidden b) ≡ false
      → up_to_closing closes forbidden escaped (b ∷ bs) ≡ beyond b (up_to_closing closes forbidden (mark escaped b bs) bs)
  unfolding up_to_closing
  closed-more true b bs h k = refl
  closed-more false b bs h k = grind (arith, h, k)

  closed-forbidden : (b : ℕ) (bs : List ℕ) → closes b ≡ false → forbidden b ≡ true → up_to_closing closes forbidden false (b ∷ bs) ≡ None
  unfolding up_to_closing
  closed-forbidden b bs h k = grind (arith, h, k)

  closed-closes : (b : ℕ) (bs : List ℕ) → closes b ≡ true → up_to_closing closes forbidden false (b ∷ bs) ≡ Some (record { text = []; rest = bs })
  unfolding up_to_closing
  closed-closes b bs h = grind (arith, h)

  module _ (c : NoBlanks closes) (f : NoSpaces forbidden) where
    -- the part that is read starts with a blank line where the text does
    blank-same : (bs : List ℕ) → IfSome (up_to_closing closes forbidden false bs) (λ r. begins_with 10 (trim_start r.text) ≡ begins_with 10 (trim_start bs))
    unfolding up_to_closing skip
    blank-same [] = tt
    blank-same (b ∷ bs) = by_byte (is_space_or_tab b) (b == 10) refl refl (blank-same bs)
      where
        by_byte : (blank feed : Bool) → is_space_or_tab b ≡ blank → (b == 10) ≡ feed
            → IfSome (up_to_closing closes forbidden false bs) (λ r. begins_with 10 (trim_start r.text) ≡ begins_with 10 (trim_start bs))
            → IfSome (up_to_closing closes forbidden false (b ∷ bs)) (λ r. begins_with 10 (trim_start r.text) ≡ begins_with 10 (trim_start (b ∷ bs)))
        by_byte true feed h k l =
            let blank : is_blank_byte b ≡ true = grind (arith, h) in
            let more = closed-more false b bs (c b blank) (f b h) ∙ ap (λ m. beyond b (up_to_closing closes forbidden m bs)) (no-mark false b bs blank) in
            subst (λ o. IfSome o (λ r. begins_with 10 (trim_start r.text) ≡ begins_with 10 (trim_start (b ∷ bs)))) (sym more)
            (if-beyond (λ r. begins_with 10 (trim_start r.text) ≡ begins_with 10 (trim_start bs)) (λ r. begins_with 10 (trim_start r.text) ≡ begins_with 10 (trim_start (b ∷ bs))) b
            (up_to_closing closes forbidden false bs) (λ r e. grind (arith, h, e)) l)
        by_byte false true h k l =
            let blank : is_blank_byte b ≡ true = grind (arith, k) in
            by_feed (forbidden b) refl (c b blank)
          where
            by_feed : (barred : Bool) → forbidden b ≡ barred → closes b ≡ false
                → IfSome (up_to_closing closes forbidden false (b ∷ bs)) (λ r. begins_with 10 (trim_start r.text) ≡ begins_with 10 (trim_start (b ∷ bs)))
            by_feed true q p = subst (λ o. IfSome o (λ r. begins_with 10 (trim_start r.text) ≡ begins_with 10 (trim_start (b ∷ bs)))) (sym (closed-forbidden b bs p q)) tt
            by_feed false q p = subst (λ o. IfSome o (λ r. begins_with 10 (trim_start r.text) ≡ begins_with 10 (trim_start (b ∷ bs)))) (sym (closed-more false b bs p q))
                (if-beyond (λ r. Unit {0}) (λ r. begins_with 10 (trim_start r.text) ≡ begins_with 10 (trim_start (b ∷ bs))) b
                (up_to_closing closes forbidden (mark false b bs) bs) (λ r e. grind (arith, h, k)) (if-any _))
        by_byte false false h k l = by_test (closes b) (forbidden b) refl refl
          where
            by_test : (closing barred : Bool) → closes b ≡ closing → forbidden b ≡ barred
                → IfSome (up_to_closing closes forbidden false (b ∷ bs)) (λ r. begins_with 10 (trim_start r.text) ≡ begins_with 10 (trim_start (b ∷ bs)))
            by_test true barred p q = subst (λ o. IfSome o (λ r. begins_with 10 (trim_start r.text) ≡ begins_with 10 (trim_start (b ∷ bs)))) (sym (closed-closes b bs p)) (grind (arith, h, k))
            by_test false true p q = subst (λ o. IfSome o (λ r. begins_with 10 (trim_start r.text) ≡ begins_with 10 (trim_start (b ∷ bs)))) (sym (closed-forbidden b bs p q)) tt
            by_test false false p q = subst (λ o. IfSome o (λ r. begins_with 10 (trim_start r.text) ≡ begins_with 10 (trim_start (b ∷ bs)))) (sym (closed-more false b bs p q))
                (if-beyond (λ r. Unit {0}) (λ r. begins_with 10 (trim_start r.text) ≡ begins_with 10 (trim_start (b ∷ bs))) b
                (up_to_closing closes forbidden (mark false b bs) bs) (λ r e. grind (arith, h, k)) (if-any _))

-- a part with up to the given number of characters, with or without blank lines
abbrev pub part : (ℕ → Bool) → (ℕ → Bool) → ℕ → Bool → Bool → List ℕ → Option Reading
part closes forbidden most blank_lines escaped text = keep_if (fits most blank_lines) (up_to_closing closes forbidden escaped text)

-- bytes before what was read
abbrev pub ahead : List ℕ → Option Reading → Option Reading
ahead front None = None
ahead front (Some r) = Some (record { text = front ++ r.text; rest = r.rest })

abbrev pub ahead_from : List ℕ → ℕ → ℕ → Option Reading → Option Reading
ahead_from text from at o = ahead (slice_range text from at) o

pub ahead-beyond : (front : List ℕ) (b : ℕ) (o : Option Reading) → ahead front (beyond b o) ≡ ahead (front ++ b ∷ []) o
ahead-beyond front b None = refl
ahead-beyond front b (Some r) = ap (λ t. Some (record { text = t; rest = r.rest })) (sym (append_assoc front (b ∷ []) r.text))

pub slice-none : (text : List ℕ) (from : ℕ) → slice_range text from from ≡ []
slice-none text from = let none : from - from ≡ 0 = omega arith in rw none refl

pub slice-more : (text : List ℕ) (from at : ℕ) → from ≤ at → at < length text → slice_range text from (suc at) ≡ slice_range text from at ++ get_or text at 0 ∷ []
slice-more text from at low high =
    let next : suc at - from ≡ suc (at - from) = omega (arith, low) in
    let place : from + (at - from) ≡ at = omega (arith, low) in
    let short : at - from < length (drop from text) = simp length-drop (omega (arith, low, high)) in
    ap (λ n. take n (drop from text)) next ∙ take-suc (drop from text) (at - from) 0 short
    ∙ ap (λ b. slice_range text from at ++ b ∷ []) (get_or-drop from text (at - from) 0 ∙ ap (λ n. get_or text n 0) place)

-- the end of the text
pub part-none : (closes forbidden : ℕ → Bool) (most : ℕ) (blank_lines escaped : Bool) (text : List ℕ) (from at : ℕ) → length text ≤ at
    → ahead_from text from at (part closes forbidden most blank_lines escaped (drop at text)) ≡ None
unfolding up_to_closing
part-none closes forbidden most blank_lines escaped text from at past =
    let none : drop at text ≡ [] = drop_all at text past in
    rw none (nothing escaped)
  where
    nothing : (escaped : Bool) → ahead_from text from at (part closes forbidden most blank_lines escaped []) ≡ None
    nothing true = refl
    nothing false = refl

module _ (closes forbidden : ℕ → Bool) where
  part-closes : (most : ℕ) (blank_lines : Bool) (b : ℕ) (bs : List ℕ) → closes b ≡ true → part closes forbidden most blank_lines false (b ∷ bs) ≡ Some (record { text = []; rest = bs })
  unfolding has_blank_line
  part-closes most blank_lines b bs h = ap (keep_if (fits most blank_lines)) (closed-closes closes forbidden b bs h) ∙ grind arith

  -- the byte that closes
  pub part-end : (most : ℕ) (blank_lines escaped : Bool) (text : List ℕ) (from at : ℕ) → at < length text → escaped ≡ false → closes (get_or text at 0) ≡ true
      → ahead_from text from at (part closes forbidden most blank_lines escaped (drop at text)) ≡ closed_at text from (Some at)
  part-end most blank_lines escaped text from at within e h =
      rw (drop-cons text at 0, e)
      (ap (ahead_from text from at) (part-closes most blank_lines (get_or text at 0) (drop (suc at) text) h)
      ∙ ap (λ t. Some (record { text = t; rest = drop (suc at) text })) (append-nil (slice_range text from at)))

  module _ (c : NoBlanks closes) (f : NoSpaces forbidden) where
    -- a blank line that follows is read
    follows-same : (b : ℕ) (bs : List ℕ) (escaped : Bool) → IfSome (up_to_closing closes forbidden (mark escaped b bs) bs) (λ r. blank_follows b r.text ≡ blank_follows b bs)
    follows-same b bs escaped = by_byte (b == 10) refl
      where
        by_byte : (feed : Bool) → (b == 10) ≡ feed → IfSome (up_to_closing closes forbidden (mark escaped b bs) bs) (λ r. blank_follows b r.text ≡ blank_follows b bs)
        by_byte false h = if-all (λ r. blank_follows b r.text ≡ blank_follows b bs) (up_to_closing closes forbidden (mark escaped b bs) bs) (λ r. grind (arith, h))
        by_byte true h =
            let blank : is_blank_byte b ≡ true = grind (arith, h) in
            subst (λ m. IfSome (up_to_closing closes forbidden m bs) (λ r. blank_follows b r.text ≡ blank_follows b bs)) (sym (no-mark escaped b bs blank))
            (if-some (λ r. begins_with 10 (trim_start r.text) ≡ begins_with 10 (trim_start bs)) (λ r. blank_follows b r.text ≡ blank_follows b bs) (up_to_closing closes forbidden false bs)
            (λ r e. ap (λ t. b == 10 && t) e) (blank-same closes forbidden c f bs))

    -- a byte that is skipped
    part-more : (most : ℕ) (blank_lines escaped : Bool) (b : ℕ) (bs : List ℕ) → (not escaped && closes b) ≡ false → (not escaped && forbidden b) ≡ false
        → (most == 0 && begins_character b) ≡ false → (not blank_lines && blank_follows b bs) ≡ false
        → part closes forbidden most blank_lines escaped (b ∷ bs) ≡ beyond b (part closes forbidden (most - cond (begins_character b) 1 0) blank_lines (mark escaped b bs) bs)
    part-more most blank_lines escaped b bs h k l m =
        ap (keep_if (fits most blank_lines)) (closed-more closes forbidden escaped b bs h k)
        ∙ keep-more most b blank_lines (up_to_closing closes forbidden (mark escaped b bs) bs) l
        (if-some (λ r. blank_follows b r.text ≡ blank_follows b bs) (λ r. (not blank_lines && blank_follows b r.text) ≡ false) (up_to_closing closes forbidden (mark escaped b bs) bs)
        (λ r e. ap (λ t. not blank_lines && t) e ∙ m) (follows-same b bs escaped))

    pub part-step : (most : ℕ) (blank_lines escaped : Bool) (text : List ℕ) (from at : ℕ) → from ≤ at → at < length text
        → (not escaped && closes (get_or text at 0)) ≡ false → (not escaped && forbidden (get_or text at 0)) ≡ false
        → (most == 0 && begins_character (get_or text at 0)) ≡ false → (not blank_lines && blank_follows (get_or text at 0) (drop (suc at) text)) ≡ false
        → ahead_from text from (suc at) (part closes forbidden (most - cond (begins_character (get_or text at 0)) 1 0) blank_lines (mark escaped (get_or text at 0) (drop (suc at) text)) (drop (suc at) text))
        ≡ ahead_from text from at (part closes forbidden most blank_lines escaped (drop at text))
    part-step most blank_lines escaped text from at low high h k l m =
        let b = get_or text at 0 in
        let bs = drop (suc at) text in
        let o = part closes forbidden (most - cond (begins_character b) 1 0) blank_lines (mark escaped b bs) bs in
        ap (λ t. ahead t o) (slice-more text from at low high) ∙ sym (ahead-beyond (slice_range text from at) b o)
        ∙ ap (ahead_from text from at) (sym (part-more most blank_lines escaped b bs h k l m))
        ∙ ap (λ t. ahead_from text from at (part closes forbidden most blank_lines escaped t)) (sym (drop-cons text at 0 high))

    part-refused : (most : ℕ) (blank_lines escaped : Bool) (b : ℕ) (bs : List ℕ) → (not escaped && closes b) ≡ false
        → is_refused most blank_lines (not escaped && forbidden b) b bs ≡ true
        → part closes forbidden most blank_lines escaped (b ∷ bs) ≡ None
    part-refused most blank_lines escaped b bs h k = by_test (not escaped && forbidden b) (most == 0 && begins_character b) refl refl
      where
        more : (not escaped && forbidden b) ≡ false → up_to_closing closes forbidden escaped (b ∷ bs) ≡ beyond b (up_to_closing closes forbidden (mark escaped b bs) bs)
        more e = closed-more closes forbidden escaped b bs h e

        by_test : (barred long : Bool) → (not escaped && forbidden b) ≡ barred → (most == 0 && begins_character b) ≡ long → part closes forbidden most blank_lines escaped (b ∷ bs) ≡ None
        by_test true long e l =
            let plain : escaped ≡ false = grind (arith, e) in
            let closing : closes b ≡ false = grind (arith, plain, h) in
            let barred : forbidden b ≡ true = grind (arith, e) in
            ap (λ m. part closes forbidden most blank_lines m (b ∷ bs)) plain ∙ ap (keep_if (fits most blank_lines)) (closed-forbidden closes forbidden b bs closing barred)
        by_test false true e l =
            let none : most ≡ 0 = grind (arith, nat_tests, l) in
            let begins : begins_character b ≡ true = grind (arith, l) in
            ap (keep_if (fits most blank_lines)) (more e) ∙ ap (λ n. keep_if (fits n blank_lines) (beyond b (up_to_closing closes forbidden (mark escaped b bs) bs))) none
            ∙ too-long b blank_lines (up_to_closing closes forbidden (mark escaped b bs) bs) begins
        by_test false false e l =
            let blank : blank_lines ≡ false = grind (arith, e, l, k) in
            let follows : blank_follows b bs ≡ true = right_of (not blank_lines) (blank_follows b bs) (grind (arith, e, l, k)) in
            ap (keep_if (fits most blank_lines)) (more e) ∙ ap (λ v. keep_if (fits most v) (beyond b (up_to_closing closes forbidden (mark escaped b bs) bs))) blank
            ∙ keep-blank most b (up_to_closing closes forbidden (mark escaped b bs) bs)
            (if-some (λ r. blank_follows b r.text ≡ blank_follows b bs) (λ r. blank_follows b r.text ≡ true) (up_to_closing closes forbidden (mark escaped b bs) bs)
            (λ r e. e ∙ follows) (follows-same b bs escaped))

    -- a byte that may not be there
    pub part-stop : (most : ℕ) (blank_lines escaped : Bool) (text : List ℕ) (from at : ℕ) → at < length text
        → (not escaped && closes (get_or text at 0)) ≡ false
        → is_refused most blank_lines (not escaped && forbidden (get_or text at 0)) (get_or text at 0) (drop (suc at) text) ≡ true
        → ahead_from text from at (part closes forbidden most blank_lines escaped (drop at text)) ≡ None
    part-stop most blank_lines escaped text from at within h k =
        ap (λ t. ahead_from text from at (part closes forbidden most blank_lines escaped t)) (drop-cons text at 0 within)
        ∙ ap (ahead_from text from at) (part-refused most blank_lines escaped (get_or text at 0) (drop (suc at) text) h k)

    -- the same with what the loop keeps
    pub part-kept : (most begun : ℕ) (blank_lines escaped next : Bool) (text : List ℕ) (from at : ℕ) → from ≤ at → at < length text
        → (not escaped && closes (get_or text at 0)) ≡ false
        → is_refused most blank_lines (not escaped && forbidden (get_or text at 0)) (get_or text at 0) (drop (suc at) text) ≡ false
        → begun ≡ cond (begins_character (get_or text at 0)) 1 0 → next ≡ mark escaped (get_or text at 0) (drop (suc at) text)
        → ahead_from text from (at + 1) (part closes forbidden (most - begun) blank_lines next (drop (at + 1) text))
        ≡ ahead_from text from at (part closes forbidden most blank_lines escaped (drop at text))
    part-kept most begun blank_lines escaped next text from at low high h k n m =
        let b = get_or text at 0 in
        let bs = drop (suc at) text in
        let parts = none-of (not escaped && forbidden b) (most == 0 && begins_character b) (not blank_lines && blank_follows b bs) k in
        rw (n, m, add-one) (part-step most blank_lines escaped text from at low high h parts.0 parts.1 parts.2)

-- what is plain: neither end nor barred, a character of its own, no backslash and no line feed
pub record IsPlain (open_byte close_byte b : ℕ) : Type 0 where
  pub unbarred : (b == open_byte) ≡ false
  pub no_end : (b == close_byte) ≡ false
  pub begins : begins_character b ≡ true
  pub escapes : (b == 92) ≡ false
  pub feed : (b == 10) ≡ false

differs : (b c : ℕ) → is_plain b ≡ true → is_plain c ≡ false → (b == c) ≡ false
differs b c h k = go (b == c) refl
  where
    go : (same : Bool) → (b == c) ≡ same → same ≡ false
    go true e = absurd (true≢false (sym h ∙ ap is_plain (eqb-true b c e) ∙ k))
    go false e = refl

one-byte : (b : ℕ) → nat_lt b 128 ≡ true → begins_character b ≡ true
one-byte b h = grind (arith, nat_tests, h)

plain_byte : (open_byte close_byte b : ℕ) → is_plain open_byte ≡ false → is_plain close_byte ≡ false → is_plain b ≡ true → IsPlain open_byte close_byte b
plain_byte open_byte close_byte b o c h = record {
  unbarred = differs b open_byte h o;
  no_end = differs b close_byte h c;
  begins = one-byte b (and_parts _ _ h).0;
  escapes = differs b 92 h refl;
  feed = differs b 10 h refl;
}

plain-barred : (open_byte : ℕ) (one_line : Bool) (b : ℕ) → (b == open_byte) ≡ false → (b == 10) ≡ false → is_barred open_byte one_line b ≡ false
plain-barred open_byte true b h k = grind (arith, h, k)
plain-barred open_byte false b h k = h

neither : (escaped test : Bool) → test ≡ false → (not escaped && test) ≡ false
neither true test h = refl
neither false test h = h

pub plain-mark : (escaped : Bool) (b : ℕ) (bs : List ℕ) → (b == 92) ≡ false → false ≡ mark escaped b bs
plain-mark true b bs h = refl
plain-mark false b [] h = refl
plain-mark false b (c ∷ cs) h = grind (arith, h)

plain-allowed : (most : ℕ) (blank_lines escaped barred : Bool) (b : ℕ) (bs : List ℕ) → 0 < most → barred ≡ false → (b == 10) ≡ false
    → is_refused most blank_lines (not escaped && barred) b bs ≡ false
plain-allowed most blank_lines escaped barred b bs l h k =
    let some : (most == 0) ≡ false = grind (arith, nat_tests, l) in
    let here : (not escaped && barred) ≡ false = neither escaped barred h in
    grind (arith, some, here, k)

-- plain bytes are skipped
module _ (open_byte close_byte : ℕ) (one_line : Bool) (o : is_blank_byte open_byte ≡ false) (c : is_blank_byte close_byte ≡ false)
    (u : is_plain open_byte ≡ false) (e : is_plain close_byte ≡ false) (blank_lines : Bool) (text : List ℕ) (from : ℕ) where
  -- what is read from a place on, with up to the given number of characters
  abbrev from-here : (at most : ℕ) (escaped : Bool) → Option Reading
  from-here at most escaped = ahead_from text from at (part (λ c. c == close_byte) (is_barred open_byte one_line) most blank_lines escaped (drop at text))

  one-plain : (most at : ℕ) (escaped : Bool) → from ≤ at → at < length text → 0 < most → is_plain (get_or text at 0) ≡ true
      → from-here (at + 1) (most - 1) false ≡ from-here at most escaped
  one-plain most at escaped low high l h =
      let plain = plain_byte open_byte close_byte (get_or text at 0) u e h in
      let barred = plain-barred open_byte one_line (get_or text at 0) plain.unbarred plain.feed in
      part-kept (λ c. c == close_byte) (is_barred open_byte one_line) (closes-no_blanks close_byte c) (barred-no_spaces open_byte one_line o)
      most 1 blank_lines escaped false text from at low high
      (neither escaped _ plain.no_end) (plain-allowed most blank_lines escaped _ (get_or text at 0) (drop (suc at) text) l barred plain.feed)
      (ap (λ v. cond v 1 0) (sym plain.begins)) (plain-mark escaped (get_or text at 0) (drop (suc at) text) plain.escapes)

  pub part-plain : (n most left at end : ℕ) (escaped : Bool) → end ≡ at + suc n → left + suc n ≡ most → from ≤ at → end ≤ length text
      → ((k : ℕ) → at ≤ k → k < end → is_plain (get_or text k 0) ≡ true) → from-here end left false ≡ from-here at most escaped
  part-plain zero most left at end escaped count few low high plain =
      let next : end ≡ at + 1 = omega (arith, count) in
      let fewer : left ≡ most - 1 = omega (arith, few) in
      ap₂ (λ a m. from-here a m false) next fewer
      ∙ one-plain most at escaped low (omega (arith, count, high)) (omega (arith, few)) (plain at (omega arith) (omega (arith, count)))
  part-plain (suc n) most left at end escaped count few low high plain =
      part-plain n (most - 1) left (at + 1) end false (omega (arith, count)) (omega (arith, few)) (omega (arith, low)) high (λ k from_next under. plain k (omega (arith, from_next)) under)
      ∙ one-plain most at escaped low (omega (arith, count, high)) (omega (arith, few)) (plain at (omega arith) (omega (arith, count)))

-- an unescaped byte
pub ended : (escaped closing : Bool) → (not escaped && closing) ≡ true → (escaped ≡ false) × (closing ≡ true)
ended true closing h = absurd (cc)
ended false closing h = (refl, h)

pub bool_byte-is : (v : Bool) → bool_byte v ≡ cond v 1 0
bool_byte-is true = refl
bool_byte-is false = refl

-- whether the byte at a place escapes the one after it
pub escapes-at : (text : List ℕ) (at : ℕ) → get_or text at 0 ≡ 92 → suc at < length text
    → escapes_next (get_or text at 0) (drop (suc at) text) ≡ is_ascii_punct (get_or text (suc at) 0)
escapes-at text at h within = rw (drop-cons text (suc at) 0, h) refl

pub escapes-here : (text : List ℕ) (at : ℕ) → get_or text at 0 ≡ 92 → suc at < length text
    → escapes_next (get_or text at 0) (drop (suc at) text) ≡ is_ascii_punct (get_or text (at + 1) 0)
escapes-here text at h within = rw (add-one) (escapes-at text at h within)

-- the byte at a place, and those after it
pub here-and-beyond : (test : ℕ → Bool) (text : List ℕ) (at end : ℕ) → test (get_or text at 0) ≡ true → ((k : ℕ) → at + 1 ≤ k → k < end → test (get_or text k 0) ≡ true)
    → (k : ℕ) → at ≤ k → k < end → test (get_or text k 0) ≡ true
here-and-beyond test text at end here beyond k low under = ⊎_elim
    (λ past. beyond k (omega (arith, past)) under)
    (λ same. let is : at ≡ k = omega (arith, low, same) in subst (λ j. test (get_or text j 0) ≡ true) is here)
    (cases_lt at k)
