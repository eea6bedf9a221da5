-- The longest well-formed prefix, as more bytes come.
use Rattle.std.proofs.Common.{◌≡◌, ◌⊎◌, ℕ, zero, suc, ◌<◌, ◌≤◌, true, List, [], ◌∷◌, ◌++◌, length, take, drop, IsUtf8, refl, sym, ap, subst, ◌∙◌, arith, inl, inr, ⊎_elim, true≢false, append_assoc, length-append, take_all, None}
use Rattle.std.proofs.lemmas.Bool.{cases_Bool, cases_lt, cond-true, cond-false, and_parts}
use Rattle.std.proofs.lemmas.Str.{IsUtf8-from_is_utf8, is_utf8-from_IsUtf8, utf8_valid_len-IsUtf8, encode_same, length-encode, len_utf8_bounds}
use Rattle.std.specs.Str.{IsValidUpTo, is_utf8}
use Rattle.std.specs.Str.Lossy.{valid_len_up_to, utf8_valid_len, utf8_error_len}
use Rattle.std.proofs.Math.ListN.{drop_of_length-le}
use lib.Utf8.{scalars, encodes, encode}

longest_front : (bs : List ℕ) (m : ℕ)
    → IsUtf8 (take (valid_len_up_to bs m) bs) × ((k : ℕ) → valid_len_up_to bs m < k → k ≤ m → ¬ (IsUtf8 (take k bs)))
longest_front bs zero = (([], (refl, refl)), λ k above within. absurd (omega arith))
longest_front bs (suc m) =
    let rest = longest_front bs m in
    ⊎_elim
    (λ yes.
    let is : valid_len_up_to bs (suc m) ≡ suc m = cond-true _ _ _ yes in
    (subst (λ n. IsUtf8 (take n bs)) (sym is) (IsUtf8-from_is_utf8 _ yes), λ k above within. absurd (omega arith)))
    (λ no.
    let is : valid_len_up_to bs (suc m) ≡ valid_len_up_to bs m = cond-false _ _ _ no in (
      subst (λ n. IsUtf8 (take n bs)) (sym is) rest.0,
      λ k above within u. ⊎_elim
          (λ (top : m < k).
          let same : k ≡ suc m = omega arith in
          true≢false (sym (is_utf8-from_IsUtf8 _ (subst (λ n. IsUtf8 (take n bs)) same u)) ∙ no))
          (λ (low : k ≤ m). rest.1 k (omega arith) low u)
          (cases_lt m k),
    ))
    (cases_Bool (is_utf8 (take (suc m) bs)))

-- bytes are UTF-8, or they stop being it at `utf8_valid_len`
pub utf8_valid_len-cases : (bs : List ℕ) → IsUtf8 bs ⊎ IsValidUpTo bs (utf8_valid_len bs)
unfolding utf8_valid_len
utf8_valid_len-cases bs =
    let n = utf8_valid_len bs in
    let front = longest_front bs (length bs) in
    ⊎_elim
    (λ (short : n < length bs). inr (record {
      short = short;
      front = front.0;
      longest = λ m above u. ⊎_elim
          (λ (past : length bs < m).
          front.1 (length bs) short (omega arith) (subst IsUtf8 (take_all m bs (omega arith) ∙ sym (take_all (length bs) bs (omega arith))) u))
          (λ (within : m ≤ length bs). front.1 m above within u)
          (cases_lt (length bs) m);
    }))
    (λ (whole : length bs ≤ n). inl (subst IsUtf8 (take_all n bs whole) front.0))
    (cases_lt n (length bs))

pub valid_front-IsUtf8 : (bs : List ℕ) → IsUtf8 (take (utf8_valid_len bs) bs)
unfolding utf8_valid_len
valid_front-IsUtf8 bs = (longest_front bs (length bs)).0

-- what is left of a text after a text at its start is a text
cancel : (cs ds : List ℕ) (y : List ℕ) → scalars ds ≡ true → encodes cs ++ y ≡ encodes ds → IsUtf8 y
cancel [] ds y all same = (ds, (all, sym same))
cancel (c ∷ cs) [] y all same =
    absurd (omega (arith, ap length same, length-append (encodes (c ∷ cs)) y, length-append (encode c) (encodes cs), length-encode c, (len_utf8_bounds c).0))
cancel (c ∷ cs) (d ∷ ds) y all same =
    let both = and_parts _ _ all in
    let parts = encode_same c d (encodes cs ++ y) (encodes ds) (sym (append_assoc (encode c) (encodes cs) y) ∙ same) in
    cancel cs ds y both.1 parts.1

pub IsUtf8-cancel : (f y : List ℕ) → IsUtf8 f → IsUtf8 (f ++ y) → IsUtf8 y
IsUtf8-cancel f y u w = cancel u.0 w.0 y w.1.0 (ap (λ t. t ++ y) u.1.1 ∙ sym w.1.1)

pub take_valid : (bs : List ℕ) → IsUtf8 bs → take (utf8_valid_len bs) bs ≡ bs
take_valid bs u = take_all (utf8_valid_len bs) bs (omega (arith, utf8_valid_len-IsUtf8 bs u))

pub error_len-nil : utf8_error_len [] ≡ None
unfolding utf8_error_len
error_len-nil = refl

pub sound_whole : (bs : List ℕ) → IsUtf8 bs → utf8_error_len (drop (utf8_valid_len bs) bs) ≡ None
sound_whole bs u = ap utf8_error_len (drop_of_length-le bs (omega (arith, utf8_valid_len-IsUtf8 bs u))) ∙ error_len-nil
