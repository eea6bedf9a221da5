-- What is spelled of a text has no line feed.
use Rattle.std.proofs.Common.{◌≡◌, ℕ, ◌+◌, ◌<◌, ◌≤◌, ◌==◌, ◌||◌, Bool, true, false, List, [], ◌∷◌, ◌++◌, length, take, drop, get_or, replicate, Some, None, refl, sym, ap, ◌∙◌, arith, suc, zero, take_all}
use Rattle.std.specs.Prelude.{if◌then◌else◌}
use Rattle.std.specs.List.{list_any, position, position_or_len}
use Rattle.std.proofs.lemmas.List.{drop_more, take-append-drop}
use Rattle.std.proofs.lemmas.List.Quantifiers.{position-Some}
use Rattle.std.proofs.lemmas.List.Sums.{fails_before_first}
use Rattle.std.proofs.lemmas.Bool.{eqb-true}
use Rattle.std.proofs.lemmas.List.Folds.{list_any-append}
use Rattle.cm_source.specs.Spelling.{in_front, ended_lines}

abbrev pub has_feed : List ℕ → Bool
has_feed text = list_any (λ b. b == 10) text

pub both-without : (xs ys : List ℕ) → has_feed xs ≡ false → has_feed ys ≡ false → has_feed (xs ++ ys) ≡ false
both-without xs ys e f = list_any-append (λ b. b == 10) xs ys ∙ ap (λ v. v || has_feed ys) e ∙ f

-- a text up to its first line feed

none-before : (i : ℕ) (text : List ℕ) → ((k : ℕ) → k < i → (get_or text k 0 == 10) ≡ false) → has_feed (take i text) ≡ false
none-before zero text none = refl
none-before (suc i) [] none = refl
none-before (suc i) (b ∷ bs) none = ap (λ v. v || has_feed (take i bs)) (none 0 (omega arith)) ∙ none-before i bs (λ k low. none (suc k) (omega (arith, low)))

pub feed-at : (text : List ℕ) (i : ℕ) → position (λ b. b == 10) text ≡ Some i → (has_feed (take i text) ≡ false) × (text ≡ take i text ++ 10 ∷ drop (i + 1) text)
feed-at text i found =
    let first = position-Some (λ b. b == 10) text i 0 found in
    (none-before i text first.2, sym (take-append-drop i text) ∙ ap (λ t. take i text ++ t) (drop_more text i 0 first.0 ∙ ap (λ b. b ∷ drop (i + 1) text) (eqb-true (get_or text i 0) 10 first.1)))

pub no-feed : (text : List ℕ) → position (λ b. b == 10) text ≡ None → has_feed text ≡ false
no-feed text none =
    let past : length text ≤ position_or_len (λ b. b == 10) text = grind (arith, none) in
    ap has_feed (sym (take_all (length text) text (omega arith))) ∙ none-before (length text) text (λ k low. fails_before_first (λ b. b == 10) text k 0 (omega (arith, low, past)))

-- the lines of a text that line feeds end

pub ended-first : (line rest : List ℕ) → has_feed line ≡ false → ended_lines (line ++ 10 ∷ rest) ≡ line ∷ ended_lines rest
unfolding ended_lines
ended-first [] rest none = refl
ended-first (b ∷ bs) rest none = go (b == 10) none (λ h. ended-first bs rest h)
  where
    go : (feed : Bool) → feed || has_feed bs ≡ false → (has_feed bs ≡ false → ended_lines (bs ++ 10 ∷ rest) ≡ bs ∷ ended_lines rest)
        → (if feed then [] ∷ ended_lines (bs ++ 10 ∷ rest) else in_front b (ended_lines (bs ++ 10 ∷ rest))) ≡ (b ∷ bs) ∷ ended_lines rest
    go true none again = absurd (cc none)
    go false none again = ap (in_front b) (again none)

-- a line that is cut off at a line feed, and what is after that
pub cut-first : (text line beyond : List ℕ) (i : ℕ) → position (λ b. b == 10) text ≡ Some i → line ≡ take i text → beyond ≡ drop (i + 1) text → ended_lines text ≡ line ∷ ended_lines beyond
cut-first text line beyond i found before after =
    let at = feed-at text i found in
    ap ended_lines at.1 ∙ ended-first (take i text) (drop (i + 1) text) at.0 ∙ ap (λ l. l ∷ ended_lines (drop (i + 1) text)) (sym before) ∙ ap (λ t. line ∷ ended_lines t) (sym after)

pub cut-ascii : (text : List ℕ) (i : ℕ) → position (λ b. b == 10) text ≡ Some i → get_or text i 0 < 128
cut-ascii text i found = let byte = eqb-true (get_or text i 0) 10 (position-Some (λ b. b == 10) text i 0 found).1 in omega (arith, byte)

pub ended-last : (b : ℕ) (bs : List ℕ) → has_feed (b ∷ bs) ≡ false → ended_lines (b ∷ bs) ≡ (b ∷ bs) ∷ []
unfolding ended_lines
ended-last b [] none = go (b == 10) none
  where
    go : (feed : Bool) → feed || false ≡ false → (if feed then [] ∷ [] else in_front b []) ≡ (b ∷ []) ∷ []
    go true none = absurd (cc none)
    go false none = refl
ended-last b (c ∷ cs) none = go (b == 10) none (λ h. ended-last c cs h)
  where
    go : (feed : Bool) → feed || has_feed (c ∷ cs) ≡ false → (has_feed (c ∷ cs) ≡ false → ended_lines (c ∷ cs) ≡ (c ∷ cs) ∷ [])
        → (if feed then [] ∷ ended_lines (c ∷ cs) else in_front b (ended_lines (c ∷ cs))) ≡ (b ∷ c ∷ cs) ∷ []
    go true none again = absurd (cc none)
    go false none again = ap (in_front b) (again none)

pub ended-nothing : (text : List ℕ) → (length text == 0) ≡ true → ended_lines text ≡ []
unfolding ended_lines
ended-nothing [] e = refl
ended-nothing (b ∷ bs) e = let none : length (b ∷ bs) ≡ 0 = eqb-true (length (b ∷ bs)) 0 e in absurd (omega (arith, none))

pub ended-rest : (text : List ℕ) → (length text == 0) ≡ false → has_feed text ≡ false → ended_lines text ≡ text ∷ []
ended-rest [] e none = absurd (cc e)
ended-rest (b ∷ bs) e none = ended-last b bs none

pub marks-without : (mark n : ℕ) → (mark == 10) ≡ false → has_feed (replicate n mark) ≡ false
marks-without mark zero other = refl
marks-without mark (suc n) other = ap (λ v. v || has_feed (replicate n mark)) other ∙ marks-without mark n other
