-- A label between two brackets, with more text after them and without.
use Rattle.std.specs.Int.{is_in_range}
use Rattle.cm_inline.proofs.lemmas.Words.{◌≡◌, ◌≢◌, ℕ, ◌<◌, ◌≤◌, ◌==◌, not, cond, Bool, true, false, List, [], ◌∷◌, ◌++◌, length, Option, Some, None, IfSome, refl}
use Rattle.cm_inline.proofs.lemmas.Words.{sym, ap, subst, ◌∙◌, arith, list_all, and_parts, le-leb, nat_tests, sum_by-cons, is_empty, Reading, beyond, label, Target}
use Rattle.cm_inline.proofs.lemmas.Words.{Defined, target_of, target_between}
use Rattle.std.proofs.Common.{ap₂}
use Rattle.std.proofs.lemmas.List.{length-append}
use Rattle.cm_text.specs.Labels.{is_gap}
use Rattle.cm_text.specs.PlainLabels.{is_bracketing, is_bare}
use Rattle.cm_scan.specs.spans.Tags.{is_blank_byte}
use Rattle.cm_scan.specs.Words.{given, ◌and_then◌}
use Rattle.cm_scan.specs.inlines.Links.{keep_if, escapes_next, up_to_closing, characters, is_label}
use Rattle.cm_scan.proofs.lemmas.links.BracketedParts.{ahead}

-- up to the first right bracket that nothing escapes
abbrev inside_of : Bool → List ℕ → Option Reading
inside_of escaped text = up_to_closing (λ c. c == 93) (λ c. c == 91) escaped text

-- a text with a right bracket after it, and what follows
abbrev closing : List ℕ → List ℕ → List ℕ
closing between more = between ++ 93 ∷ more

-- Where reading ends that starts between brackets: at the right one, before it, nowhere, or after it.
data Ends (escaped : Bool) (between : List ℕ) : Type 0 where
  at_bracket : ((more : List ℕ) → inside_of escaped (closing between more) ≡ Some (record { text = between; rest = more })) → Ends escaped between
  earlier : (front left : List ℕ) → ((more : List ℕ) → inside_of escaped (closing between more) ≡ Some (record { text = front; rest = closing left more })) → Ends escaped between
  nowhere : ((more : List ℕ) → inside_of escaped (closing between more) ≡ None) → Ends escaped between
  reaching : ((more : List ℕ) → inside_of escaped (closing between more) ≡ ahead (closing between []) (inside_of false more)) → Ends escaped between

-- what follows the bracket doesn't matter for what is escaped before it
escapes-same : (b : ℕ) (bs more : List ℕ) → escapes_next b (closing bs more) ≡ escapes_next b (closing bs [])
escapes-same b [] more = refl
escapes-same b (c ∷ cs) more = refl

beyond-ahead : (b : ℕ) (front : List ℕ) (o : Option Reading) → beyond b (ahead front o) ≡ ahead (b ∷ front) o
beyond-ahead b front o = grind (arith, nat_tests)

-- a byte that is skipped
passed : (escaped mark : Bool) (b : ℕ) (bs : List ℕ) → ((more : List ℕ) → inside_of escaped (closing (b ∷ bs) more) ≡ beyond b (inside_of mark (closing bs more)))
    → Ends mark bs → Ends escaped (b ∷ bs)
passed escaped mark b bs step (at_bracket h) = at_bracket (λ more. step more ∙ ap (beyond b) (h more))
passed escaped mark b bs step (earlier front left h) = earlier (b ∷ front) left (λ more. step more ∙ ap (beyond b) (h more))
passed escaped mark b bs step (nowhere h) = nowhere (λ more. step more ∙ ap (beyond b) (h more))
passed escaped mark b bs step (reaching h) = reaching (λ more. step more ∙ ap (beyond b) (h more) ∙ beyond-ahead b (closing bs []) (inside_of false more))

closes-here : (b : ℕ) (bs : List ℕ) → (b == 93) ≡ true → inside_of false (b ∷ bs) ≡ Some (record { text = []; rest = bs })
unfolding up_to_closing
closes-here b bs h = grind (arith, h)

refused-here : (b : ℕ) (bs : List ℕ) → (b == 93) ≡ false → (b == 91) ≡ true → inside_of false (b ∷ bs) ≡ None
unfolding up_to_closing
refused-here b bs h k = grind (arith, h, k)

goes-on : (b : ℕ) (bs : List ℕ) → (b == 93) ≡ false → (b == 91) ≡ false → inside_of false (b ∷ bs) ≡ beyond b (inside_of (escapes_next b bs) bs)
unfolding up_to_closing
goes-on b bs h k = grind (arith, h, k)

escaped-here : (b : ℕ) (bs : List ℕ) → inside_of true (b ∷ bs) ≡ beyond b (inside_of false bs)
unfolding up_to_closing
escaped-here b bs = refl

beyond-one : (b : ℕ) (o : Option Reading) → beyond b o ≡ ahead (b ∷ []) o
beyond-one b o = grind (arith, nat_tests)

where_it_ends : (escaped : Bool) (between : List ℕ) → Ends escaped between
where_it_ends true [] = reaching (λ more. escaped-here 93 more ∙ beyond-one 93 (inside_of false more))
where_it_ends false [] = at_bracket (λ more. closes-here 93 more refl)
where_it_ends true (b ∷ bs) = passed true false b bs (λ more. escaped-here b (closing bs more)) (where_it_ends false bs)
where_it_ends false (b ∷ bs) = go (b == 93) (b == 91) refl refl (where_it_ends (escapes_next b (closing bs [])) bs)
  where
    go : (closes forbids : Bool) → (b == 93) ≡ closes → (b == 91) ≡ forbids → Ends (escapes_next b (closing bs [])) bs → Ends false (b ∷ bs)
    go true forbids h k ends = earlier [] bs (λ more. closes-here b (closing bs more) h)
    go false true h k ends = nowhere (λ more. refused-here b (closing bs more) h k)
    go false false h k ends = passed false (escapes_next b (closing bs [])) b bs
        (λ more. goes-on b (closing bs more) h k ∙ ap (λ m. beyond b (inside_of m (closing bs more))) (escapes-same b bs more)) ends

-- what is left after a right bracket is less than the text
less-beyond : (b : ℕ) (bs : List ℕ) (o : Option Reading) → IfSome o (λ r. length r.rest < length bs) → IfSome (beyond b o) (λ r. length r.rest < length (b ∷ bs))
less-beyond b bs o h = grind (arith, nat_tests)

less-left : (escaped : Bool) (text : List ℕ) → IfSome (inside_of escaped text) (λ r. length r.rest < length text)
unfolding up_to_closing
less-left true [] = tt
less-left false [] = tt
less-left true (b ∷ bs) = less-beyond b bs (inside_of false bs) (less-left false bs)
less-left false (b ∷ bs) = go (b == 93) (b == 91) refl refl (less-beyond b bs (inside_of (escapes_next b bs) bs) (less-left (escapes_next b bs) bs))
  where
    less : Option Reading → Type 0
    less o = IfSome o (λ r. length r.rest < length (b ∷ bs))

    go : (closes forbids : Bool) → (b == 93) ≡ closes → (b == 91) ≡ forbids → less (beyond b (inside_of (escapes_next b bs) bs)) → less (inside_of false (b ∷ bs))
    go true forbids h k more = subst less (sym (closes-here b bs h)) (omega arith)
    go false true h k more = subst less (sym (refused-here b bs h k)) tt
    go false false h k more = subst less (sym (goes-on b bs h k)) more

-- the label that a left bracket starts
label-of : (bs : List ℕ) (o : Option Reading) → inside_of false bs ≡ o → label (91 ∷ bs) ≡ keep_if is_label o
unfolding label
label-of bs o h = ap (keep_if is_label) h

-- what a reading of the brackets alone comes to
abbrev found_by : Defined → List ℕ → Option Reading → Option Target
found_by defined between read = read and_then λ l. elim (is_empty l.rest) [ true ↦ target_of defined between | false ↦ None ]

target-by : (defined : Defined) (between : List ℕ) (read : Option Reading) → label (91 ∷ closing between []) ≡ read → target_between defined between ≡ found_by defined between read
target-by defined between read h = ap (found_by defined between) h

-- what is kept was read, and is a label
kept : (o : Option Reading) (r : Reading) → keep_if is_label o ≡ Some r → (o ≡ Some r) × (is_label r ≡ true)
kept o r h = grind (arith, nat_tests)

ahead-less : (n : ℕ) (front : List ℕ) (o : Option Reading) (r : Reading) → IfSome o (λ t. length t.rest < n) → ahead front o ≡ Some r → length r.rest < n
ahead-less n front o r less h = grind (arith, nat_tests)

-- A label that ends with the bracket after the part between is the part itself, and has its target.
pub label_between : (defined : Defined) (between rest : List ℕ) (r : Reading) → label (91 ∷ closing between rest) ≡ Some r → length r.rest ≡ length rest
    → (r.text ≡ between) × (target_between defined between ≡ target_of defined between)
label_between defined between rest r read ends = go (where_it_ends false between)
  where
    go : Ends false between → (r.text ≡ between) × (target_between defined between ≡ target_of defined between)
    go (at_bracket h) =
        let whole = kept (Some (record { text = between; rest = rest })) r (sym (label-of (closing between rest) (Some (record { text = between; rest = rest })) (h rest)) ∙ read) in
        let same : r.text ≡ between = ap (λ (o : Option Reading). elim o as (λ _. List ℕ) [ None ↦ [] | Some q ↦ q.text ]) (sym whole.0) in
        let passes : is_label (record { text = between; rest = [] }) ≡ true = sym (ap (λ t. is_label (record { text = t; rest = [] })) same) ∙ whole.1 in (
          same,
          target-by defined between (Some (record { text = between; rest = [] }))
              (label-of (closing between []) (Some (record { text = between; rest = [] })) (h []) ∙ ap (λ b. given b (record { text = between; rest = [] })) passes),
        )
    go (earlier front left h) =
        let whole = kept (Some (record { text = front; rest = closing left rest })) r (sym (label-of (closing between rest) (Some (record { text = front; rest = closing left rest })) (h rest)) ∙ read) in
        let same : closing left rest ≡ r.rest = ap (λ (o : Option Reading). elim o as (λ _. List ℕ) [ None ↦ [] | Some q ↦ q.rest ]) whole.0 in
        absurd (omega (arith, ends, ap length same, length-append left (93 ∷ rest)))
    go (nowhere h) = absurd (let none = sym (label-of (closing between rest) None (h rest)) ∙ read in cc)
    go (reaching h) =
        let o = ahead (closing between []) (inside_of false rest) in
        let whole = kept o r (sym (label-of (closing between rest) o (h rest)) ∙ read) in
        let less = ahead-less (length rest) (closing between []) (inside_of false rest) r (less-left false rest) whole.0 in
        absurd (omega (arith, ends, less))

nothing-inside : inside_of false [] ≡ None
unfolding up_to_closing
nothing-inside = refl

left-empty : (left : List ℕ) → is_empty (closing left []) ≡ false
left-empty [] = refl
left-empty (b ∷ bs) = refl

-- Where what is read isn't a label that ends with that bracket, there is no target.
pub no_label_between : (defined : Defined) (between rest : List ℕ) (o : Option Reading) → label (91 ∷ closing between rest) ≡ o → IfSome o (λ r. length r.rest ≢ length rest)
    → target_between defined between ≡ None
no_label_between defined between rest o read ends = go (where_it_ends false between)
  where
    here : Reading
    here = record { text = between; rest = [] }

    by_test : (b : Bool) → is_label here ≡ b → given b (record { text = between; rest = rest }) ≡ o → IfSome o (λ r. length r.rest ≢ length rest) → given b here ≡ None
    by_test true e h n = let not_same : length rest ≢ length rest = subst (λ (q : Option Reading). IfSome q (λ r. length r.rest ≢ length rest)) (sym h) n in absurd (not_same refl)
    by_test false e h n = refl

    found-earlier : (b : Bool) (front left : List ℕ) → found_by defined between (given b (record { text = front; rest = closing left [] })) ≡ None
    found-earlier true front left = ap (λ v. elim v as (λ _. Option Target) [ true ↦ target_of defined between | false ↦ None ]) (left-empty left)
    found-earlier false front left = refl

    go : Ends false between → target_between defined between ≡ None
    go (at_bracket h) = target-by defined between None (label-of (closing between []) (Some here) (h [])
        ∙ by_test (is_label here) refl (sym (label-of (closing between rest) (Some (record { text = between; rest = rest })) (h rest)) ∙ read) ends)
    go (earlier front left h) =
        let r : Reading = record { text = front; rest = closing left [] } in
        target-by defined between (given (is_label r) r) (label-of (closing between []) (Some r) (h [])) ∙ found-earlier (is_label r) front left
    go (nowhere h) = target-by defined between None (label-of (closing between []) None (h []))
    go (reaching h) = target-by defined between None (label-of (closing between []) (ahead (closing between []) (inside_of false [])) (h [])
        ∙ ap (λ q. keep_if is_label (ahead (closing between []) q)) nothing-inside)

-- Between brackets without a bracket and a backslash

bare-byte : (b : ℕ) → not (is_bracketing b) ≡ true → ((b == 93) ≡ false) × ((b == 91) ≡ false) × ((b == 92) ≡ false)
bare-byte b h = (grind (arith, nat_tests, h), grind (arith, nat_tests, h), grind (arith, nat_tests, h))

escapes-nothing : (b : ℕ) (bs : List ℕ) → (b == 92) ≡ false → escapes_next b bs ≡ false
escapes-nothing b bs h = grind (arith, nat_tests)

bare_inside : (between : List ℕ) → list_all (λ b. not (is_bracketing b)) between ≡ true → inside_of false (closing between []) ≡ Some (record { text = between; rest = [] })
bare_inside [] h = closes-here 93 [] refl
bare_inside (b ∷ bs) h =
    let parts = and_parts (not (is_bracketing b)) (list_all (λ c. not (is_bracketing c)) bs) h in
    let byte = bare-byte b parts.0 in
    goes-on b (closing bs []) byte.0 byte.1
    ∙ ap (λ m. beyond b (inside_of m (closing bs []))) (escapes-nothing b (closing bs []) byte.2)
    ∙ ap (beyond b) (bare_inside bs parts.1)

fewer-characters : (text : List ℕ) → characters text ≤ length text
fewer-characters [] = omega arith
fewer-characters (b ∷ bs) = omega (arith, sum_by-cons (λ c. cond (not (is_in_range 128 191 c)) 1 0) b bs, fewer-characters bs, at-most-one (not (is_in_range 128 191 b)))
  where
    at-most-one : (kind : Bool) → cond kind 1 0 ≤ 1
    at-most-one true = omega arith
    at-most-one false = omega arith

no_blank : (b : ℕ) → not (is_gap b) ≡ true → is_blank_byte b ≡ false
no_blank b h = grind (arith, nat_tests, h)

-- A bare text that is short is a label, and has its target.
pub bare_between : (defined : Defined) (between : List ℕ) → is_bare between ≡ true → length between ≤ 999 → target_between defined between ≡ target_of defined between
bare_between defined between bare short = grind (arith, nat_tests, and_parts, le-leb, fewer-characters, no_blank, target-by, label-of, bare_inside, ap₂)
