-- The case fold of ASCII.
use Rattle.std.proofs.Common.{◌≡◌, ℕ, suc, ◌<◌, List, [], ◌∷◌, ◌++◌, map, refl, ap, ap₂, subst, ◌∙◌, arith}
use Rattle.std.specs.Prelude.{All, IsAscii, encode_utf8_all}
use Rattle.std.specs.Char.{to_ascii_lowercase}
use Rattle.std.proofs.lemmas.Str.{chars-IsAscii, encode_ascii}
use Rattle.std.proofs.lemmas.Str.Ascii.{lowercase_ascii}
use Rattle.caseless.specs.Caseless.{default_case_fold}
use Rattle.caseless.proofs.CaselessLemmas.{All-chars, default_case_fold-ascii}
use Rattle.cm_text.specs.Labels.{case_fold}

spelled : (cs : List ℕ) → All (λ c. c < 128) cs → encode_utf8_all (map to_ascii_lowercase cs) ≡ map to_ascii_lowercase cs
spelled [] all = refl
spelled (c ∷ cs) all =
    ap₂ ◌++◌ (encode_ascii (to_ascii_lowercase c) (lowercase_ascii c (all 0 0 (omega arith)))) (spelled cs (λ k d below. all (suc k) d (omega (arith, below))))

pub ascii_folds : (text : List ℕ) → IsAscii text → case_fold text ≡ map to_ascii_lowercase text
unfolding case_fold
ascii_folds text ascii =
    let plain = chars-IsAscii text ascii in
    let all = subst (All (λ c. c < 128)) plain (All-chars text ascii) in
    ap (λ cs. encode_utf8_all (default_case_fold cs)) plain ∙ ap encode_utf8_all (default_case_fold-ascii text all) ∙ spelled text all
