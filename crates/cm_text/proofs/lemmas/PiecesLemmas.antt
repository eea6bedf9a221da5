-- What is left of a list of pieces.
use Rattle.std.proofs.Common.{[], true, false, nat_lt, subst, Some, length-append, ◌≡◌, ℕ, ◌+◌, ◌-◌, ◌<◌, ◌≤◌, List, ◌++◌, length, take, drop, get_or, refl, sym, ap, ◌∙◌, arith, add-one, drop-cons, drop-drop, take-append-drop, append_assoc, take_all, length-drop, min}
use Rattle.std.specs.List.{flat_map}
use Rattle.std.proofs.lemmas.List.{drop-append-le}
use Rattle.std.proofs.Math.Seq.{drop-append-add}
use Rattle.std.proofs.Math.ListN.{drop_of_length-le}
use Rattle.std.proofs.lemmas.Bool.{lt-ltb, le-ltb}
use Rattle.cm_text.specs.Devices.{piece_after}

pub joined_next : {X : Type 0} (f : X → List ℕ) (ps : List X) (i : ℕ) (d : X) → i < length ps
    → flat_map f (drop i ps) ≡ f (get_or ps i d) ++ flat_map f (drop (i + 1) ps)
joined_next f ps i d h = ap (flat_map f) (drop-cons ps i d h) ∙ rw (add-one) refl

-- what is given of a piece
pub piece_given : (piece rest : List ℕ) (s n : ℕ) → s + n ≤ length piece
    → drop s (piece ++ rest) ≡ take n (drop s piece) ++ drop (s + n) (piece ++ rest)
piece_given piece rest s n h =
    let first : s ≤ length piece = omega arith in
    drop-append-le s piece rest first ∙ ap (λ t. t ++ rest) (sym (take-append-drop n (drop s piece)))
    ∙ append_assoc (take n (drop s piece)) (drop n (drop s piece)) rest
    ∙ ap (λ t. take n (drop s piece) ++ t) (ap (λ t. t ++ rest) (drop-drop n s piece) ∙ sym (drop-append-le (s + n) piece rest h))

-- a piece that is skipped
pub piece_passed : (piece rest : List ℕ) (s : ℕ) → length piece ≤ s → drop s (piece ++ rest) ≡ drop (s - length piece) rest
piece_passed piece rest s h =
    let n = s - length piece in
    let whole : s ≡ length piece + n = omega arith in
    ap (λ k. drop k (piece ++ rest)) whole ∙ drop-append-add piece rest n

-- the rest of a piece, as the code slices it
rest_of_piece : (piece : List ℕ) (s : ℕ) → take (length piece - s) (drop s piece) ≡ drop s piece
rest_of_piece piece s = take_all (length piece - s) (drop s piece) (omega (arith, length-drop s piece))

pub bytes_given : (all piece later out : List ℕ) (s n room : ℕ) → all ≡ piece ++ later → s < length piece
    → n ≡ min (length (take (length piece - s) (drop s piece))) room → take n out ≡ take n (take (length piece - s) (drop s piece))
    → drop s all ≡ take n out ++ drop (s + n) all
bytes_given all piece later out s n room whole inside count given =
    let within : s + n ≤ length piece = omega (arith, count, ap length (rest_of_piece piece s), length-drop s piece) in
    rw (whole, given, rest_of_piece piece s) (piece_given piece later s n within)

pub some_given : (piece : List ℕ) (s n room : ℕ) → s < length piece
    → n ≡ min (length (take (length piece - s) (drop s piece))) room → n ≡ 0 → room ≡ 0
some_given piece s n room inside count none = omega (arith, count, ap length (rest_of_piece piece s), length-drop s piece)

-- within a piece something is left
pub some_left : (piece rest : List ℕ) (s : ℕ) → s < length piece → drop s (piece ++ rest) ≡ [] → ⊥
some_left piece rest s inside none = omega (arith, ap length none, length-drop s (piece ++ rest), length-append piece rest)

-- past the last piece nothing is left
pub none_left : {X : Type 0} (f : X → List ℕ) (ps : List X) (i s : ℕ) → length ps ≤ i → drop s (flat_map f (drop i ps)) ≡ []
none_left f ps i s past =
    ap (λ t. drop s (flat_map f t)) (drop_of_length-le ps past) ∙ drop_of_length-le [] (omega arith)

pub unwrapped : (xs ys : List ℕ) → Some xs ≡ Some ys → xs ≡ ys
unwrapped xs ys same = cc

-- the piece that comes next, where the one at a place isn't used up
pub piece_here : {X : Type 0} (f : X → List ℕ) (ps : List X) (i start : ℕ) (d : X) (piece : List ℕ) → i < length ps → f (get_or ps i d) ≡ piece → start < length piece
    → piece_after f start (drop i ps) ≡ drop start piece
piece_here f ps i start d piece within is inside =
    let first : nat_lt start (length (f (get_or ps i d))) ≡ true = lt-ltb start _ (subst (λ t. start < length t) (sym is) inside) in
    rw (drop-cons ps i d within) (grind (arith, first, is))

-- or where it is
pub piece_later : {X : Type 0} (f : X → List ℕ) (ps : List X) (i start : ℕ) (d : X) (piece : List ℕ) → i < length ps → f (get_or ps i d) ≡ piece → length piece ≤ start
    → piece_after f start (drop i ps) ≡ piece_after f (start - length piece) (drop (i + 1) ps)
piece_later f ps i start d piece within is past =
    let first : nat_lt start (length (f (get_or ps i d))) ≡ false = le-ltb start _ (subst (λ t. length t ≤ start) (sym is) past) in
    rw (drop-cons ps i d within, add-one) (grind (arith, first, is))

-- past the last piece none comes
pub piece_none : {X : Type 0} (f : X → List ℕ) (ps : List X) (i start : ℕ) → length ps ≤ i → piece_after f start (drop i ps) ≡ []
piece_none f ps i start past = ap (piece_after f start) (drop_of_length-le ps past)

-- how much of it is given
pub given_of_piece : {next : List ℕ} (piece : List ℕ) (s n room : ℕ) → next ≡ drop s piece
    → n ≡ min (length (take (length piece - s) (drop s piece))) room → n ≡ min (length next) room
given_of_piece piece s n room is count = count ∙ ap (λ t. min (length t) room) (rest_of_piece piece s ∙ sym is)
