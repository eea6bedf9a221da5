-- The lines of a text that have ended, by the cut of the text.
use Rattle.std.proofs.Common.{◌≡◌, ℕ, Bool, true, false, cond, ◌||◌, ◌==◌, List, [], ◌∷◌, ◌++◌, map, length, get_or, refl, sym, ap, subst, arith, ◌-◌, ◌<◌, ◌∙◌, append-nil}
use Rattle.cm_text.specs.Lines.{LineView, last_line, plain_line, plain_lines_of, ends_a_line, but_last}
use Rattle.cm_text.specs.Cut.{Cut, cut_byte, cut_more, begun, end_line, nothing_cut, EndedLinesAreCut}
use Rattle.cm_text.specs.LineText.{is_line_ending}
use Rattle.cm_text.proofs.lemmas.LinesLemmas.{lines_are_cut}

-- the last line of a text that has come so far: none, where a line has just ended
abbrev LastLine : (ended : Bool) → List ℕ → Type 0
LastLine true partial = last_line partial ≡ []
LastLine false partial = last_line partial ≡ partial ∷ []

-- a carriage return that came last leaves no text after it
abbrev IsFresh : Cut → Type 0
IsFresh cut = cut.after_return ≡ true → cut.partial ≡ []

abbrev next_cut : (feed return after_return : Bool) → Cut → ℕ → Cut
next_cut feed return after_return cut b =
    cond feed (cond after_return (record cut { after_return = false }) (end_line cut false)) (cond return (end_line cut true) (record cut { partial = cut.partial ++ b ∷ []; after_return = false }))

some_line : (xs : List ℕ) (b : ℕ) → last_line (xs ++ b ∷ []) ≡ (xs ++ b ∷ []) ∷ []
some_line [] b = refl
some_line (x ∷ xs) b = refl

one_byte : (feed return after_return : Bool) (cut : Cut) (b : ℕ) → (after_return ≡ true → cut.partial ≡ [])
    → LastLine (feed || return) (next_cut feed return after_return cut b).partial
one_byte true return true cut b fresh = ap last_line (fresh refl)
one_byte true return false cut b fresh = refl
one_byte false true after_return cut b fresh = refl
one_byte false false after_return cut b fresh = some_line cut.partial b

stays_fresh : (feed return after_return : Bool) (cut : Cut) (b : ℕ) → IsFresh (next_cut feed return after_return cut b)
stays_fresh true return true cut b e = cc
stays_fresh true return false cut b e = cc
stays_fresh false true after_return cut b e = refl
stays_fresh false false after_return cut b e = cc

last_by_bytes : (cut : Cut) (b : ℕ) (bs : List ℕ) → IsFresh cut → LastLine (ends_a_line (b ∷ bs)) (cut_more cut (b ∷ bs)).partial
last_by_bytes cut b [] fresh = one_byte (b == 10) (b == 13) cut.after_return cut b fresh
last_by_bytes cut b (c ∷ bs) fresh = last_by_bytes (cut_byte cut b) c bs (stays_fresh (b == 10) (b == 13) cut.after_return cut b)

-- the last line of a text that isn't empty
pub last_of : (after_return : Bool) (text : List ℕ) → 0 < length text → LastLine (ends_a_line text) (cut_more (begun after_return) text).partial
last_of after_return [] some = absurd (omega arith)
last_of after_return (b ∷ bs) some = last_by_bytes (begun after_return) b bs (λ e. refl)

fresh_more : (cut : Cut) (text : List ℕ) → IsFresh cut → IsFresh (cut_more cut text)
fresh_more cut [] fresh = fresh
fresh_more cut (b ∷ bs) fresh = fresh_more (cut_byte cut b) bs (stays_fresh (b == 10) (b == 13) cut.after_return cut b)

-- A line that nothing ended is ended by a line feed.
end_added : (cut : Cut) → IsFresh cut → LastLine false cut.partial → (cut_byte cut 10).ended ≡ cut.ended ++ map plain_line (last_line cut.partial)
end_added cut fresh open_line = go cut.after_return cut.partial fresh open_line ∙ ap (λ l. cut.ended ++ map plain_line l) (sym open_line)
  where
    nothing : {A : Type 0} (partial : List ℕ) → partial ≡ [] → last_line partial ≡ partial ∷ [] → A
    nothing [] is some = cc
    nothing (b ∷ bs) is some = cc

    go : (after_return : Bool) (partial : List ℕ) → (after_return ≡ true → partial ≡ []) → last_line partial ≡ partial ∷ []
        → (cond after_return (record { ended = cut.ended; partial = partial; after_return = false }) (end_line (record cut { partial = partial }) false)).ended
        ≡ cut.ended ++ plain_line partial ∷ []
    go false partial fresh some = refl
    go true partial fresh some = nothing partial (fresh refl) some

pub last_ends : (after_return : Bool) (text : List ℕ) → 0 < length text → ends_a_line text ≡ false
    → (cut_more (cut_more (begun after_return) text) (10 ∷ [])).ended
    ≡ (cut_more (begun after_return) text).ended ++ map plain_line (last_line (cut_more (begun after_return) text).partial)
last_ends after_return text some open_end =
    end_added (cut_more (begun after_return) text) (fresh_more (begun after_return) text (λ e. refl))
    (subst (λ ended. LastLine ended (cut_more (begun after_return) text).partial) open_end (last_of after_return text some))

-- Nothing is added where one has ended, or there is none.
pub none_open : (after_return : Bool) (text : List ℕ) → ends_a_line text ≡ true
    → (cut_more (begun after_return) text).ended
    ≡ (cut_more (begun after_return) text).ended ++ map plain_line (last_line (cut_more (begun after_return) text).partial)
none_open after_return [] ended = refl
none_open after_return (b ∷ bs) ended =
    let cut = cut_more (begun after_return) (b ∷ bs) in
    sym (append-nil cut.ended)
    ∙ ap (λ l. cut.ended ++ map plain_line l) (sym (subst (λ e. LastLine e cut.partial) ended (last_of after_return (b ∷ bs) (omega arith))))

pub nothing_open : (after_return : Bool) (text : List ℕ) → length text ≡ 0
    → (cut_more (begun after_return) text).ended
    ≡ (cut_more (begun after_return) text).ended ++ map plain_line (last_line (cut_more (begun after_return) text).partial)
nothing_open after_return [] none = refl
nothing_open after_return (b ∷ bs) none = absurd (omega arith)

-- the last byte decides
pub ends_by_last : (text : List ℕ) → 0 < length text → ends_a_line text ≡ is_line_ending (get_or text (length text - 1) 0)
ends_by_last [] some = absurd (omega arith)
ends_by_last (b ∷ bs) some =
    let last : length bs ≡ length (b ∷ bs) - 1 = omega arith in
    go b bs ∙ ap (λ n. is_line_ending (get_or (b ∷ bs) n 0)) last
  where
    go : (b : ℕ) (bs : List ℕ) → ends_a_line (b ∷ bs) ≡ is_line_ending (get_or (b ∷ bs) (length bs) 0)
    go b [] = refl
    go b (c ∷ bs) = go c bs

but_last-snoc : (xs : List LineView) (x : LineView) → but_last (xs ++ x ∷ []) ≡ xs
but_last-snoc [] x = refl
but_last-snoc (y ∷ []) x = refl
but_last-snoc (y ∷ z ∷ zs) x = ap (λ l. y ∷ l) (but_last-snoc (z ∷ zs) x)

by_end : (ended : Bool) (lines front : List LineView) (partial : List ℕ) → lines ≡ front ++ map plain_line (last_line partial) → LastLine ended partial
    → front ≡ cond ended lines (but_last lines)
by_end true lines front partial are last = sym (are ∙ ap (λ l. front ++ map plain_line l) last ∙ append-nil front)
by_end false lines front partial are last =
    sym (ap but_last (are ∙ ap (λ l. front ++ map plain_line l) last) ∙ but_last-snoc front (plain_line partial))

pub ended_lines_are_cut : EndedLinesAreCut
ended_lines_are_cut [] = refl
ended_lines_are_cut (b ∷ bs) =
    let cut = cut_more nothing_cut (b ∷ bs) in
    by_end (ends_a_line (b ∷ bs)) (plain_lines_of (b ∷ bs)) cut.ended cut.partial (lines_are_cut (b ∷ bs)) (last_by_bytes nothing_cut b bs (λ e. refl))
