-- Inlines whose strings are UTF-8 are spelled in UTF-8.
use Rattle.std.proofs.Common.{◌≡◌, ℕ, zero, suc, Bool, true, false, ◌&&◌, List, [], ◌∷◌, ◌++◌, map, replicate, codes, IsUtf8, if◌then◌else◌, refl, sym, subst, ◌∙◌}
use Rattle.std.proofs.lemmas.Bool.{and_parts}
use Rattle.std.proofs.lemmas.Str.{IsUtf8-append, IsUtf8-from_is_utf8, IsUtf8-nil}
use Rattle.std.specs.Str.{is_utf8}
use Rattle.cm_tree.specs.declared.tree.Inline.{Inline}
use Rattle.cm_source.specs.Texts.{spelled_bytes, is_padded, padding, spelled_code, spelled_title, spelled_target, longest_run}
use Rattle.cm_source.specs.Inlines.{Spelled, join, between, spelled, is_line_end}
use Rattle.cm_source.specs.steps.Utf8Inlines.{all_of, has_utf8, utf8_step}
use Rattle.cm_source.proofs.lemmas.spelling.SpelledTexts.{inner-text}
use Rattle.cm_source.proofs.lemmas.shared.InlineInduction.{AllHold, Cases, by-cases}
use Rattle.cm_source.proofs.lemmas.fitting.Neighbours.{ascii-utf8, spelled-utf8}
use Rattle.cm_tree.proofs.lemmas.InlineFolds as inline_fold
use Rattle.cm_source.specs.Inlines as spelling

-- the parts of a spelling

pub ticks-utf8 : (n : ℕ) → IsUtf8 (replicate n 96)
ticks-utf8 zero = IsUtf8-nil
ticks-utf8 (suc n) = IsUtf8-append (96 ∷ []) (replicate n 96) (ascii-utf8 (96 ∷ []) refl) (ticks-utf8 n)

padding-utf8 : (text : List ℕ) → IsUtf8 (padding text)
padding-utf8 text = go (is_padded text)
  where
    go : (p : Bool) → IsUtf8 (if p then 32 ∷ [] else [])
    go true = ascii-utf8 (32 ∷ []) refl
    go false = IsUtf8-nil

code-utf8 : (text : List ℕ) → IsUtf8 text → IsUtf8 (spelled_code text)
unfolding spelled_code
code-utf8 text u =
    let marks = replicate (suc (longest_run 0 text)) 96 in
    let ticks = ticks-utf8 (suc (longest_run 0 text)) in
    let pad = padding-utf8 text in
    IsUtf8-append (marks ++ padding text ++ text ++ padding text) marks
    (IsUtf8-append (marks ++ padding text ++ text) (padding text) (IsUtf8-append (marks ++ padding text) text (IsUtf8-append marks (padding text) ticks pad) u) pad) ticks

bytes-utf8 : (text : List ℕ) → IsUtf8 text → IsUtf8 (spelled_bytes text)
bytes-utf8 text u = subst IsUtf8 (inner-text text) (spelled-utf8 false false text u)

title-utf8 : (title : List ℕ) → IsUtf8 title → IsUtf8 (spelled_title title)
title-utf8 [] u = IsUtf8-nil
title-utf8 (b ∷ bs) u =
    IsUtf8-append (codes " \"" ++ spelled_bytes (b ∷ bs)) (codes "\"") (IsUtf8-append (codes " \"") (spelled_bytes (b ∷ bs)) (ascii-utf8 (codes " \"") refl) (bytes-utf8 (b ∷ bs) u)) (ascii-utf8 (codes "\"") refl)

pub target-utf8 : (dest title : List ℕ) → IsUtf8 dest → IsUtf8 title → IsUtf8 (spelled_target dest title)
unfolding spelled_target
target-utf8 dest title u v =
    let front = codes "](<" ++ spelled_bytes dest ++ codes ">" in
    IsUtf8-append (front ++ spelled_title title) (codes ")")
    (IsUtf8-append front (spelled_title title)
    (IsUtf8-append (codes "](<" ++ spelled_bytes dest) (codes ">") (IsUtf8-append (codes "](<") (spelled_bytes dest) (ascii-utf8 (codes "](<") refl) (bytes-utf8 dest u)) (ascii-utf8 (codes ">") refl))
    (title-utf8 title v))
    (ascii-utf8 (codes ")") refl)

-- ---- inlines

abbrev IsSpelledSo : Inline → Type 0
IsSpelledSo i = has_utf8 i ≡ true → (first last : Bool) → IsUtf8 ((spelled i).spelling first last)

joined-utf8 : (content : List Inline) → AllHold IsSpelledSo content → all_of (map has_utf8 content) ≡ true → (first last : Bool) → IsUtf8 (join first last (map spelled content))
unfolding AllHold
joined-utf8 [] hold all first last = IsUtf8-nil
joined-utf8 (i ∷ is) hold all first last =
    let parts = and_parts (has_utf8 i) (all_of (map has_utf8 is)) all in
    IsUtf8-append ((spelled i).spelling first (is_line_end last (map spelled is))) (join (spelled i).begins_line last (map spelled is))
    (hold.0 parts.0 first (is_line_end last (map spelled is))) (joined-utf8 is hold.1 parts.1 (spelled i).begins_line last)

between-utf8 : (start end : List ℕ) (content : List Inline) → IsUtf8 start → IsUtf8 end → AllHold IsSpelledSo content → all_of (map has_utf8 content) ≡ true → (first last : Bool)
    → IsUtf8 ((between start (map spelled content) end).spelling first last)
between-utf8 start end content u v hold all first last =
    IsUtf8-append (start ++ join false false (map spelled content)) end (IsUtf8-append start (join false false (map spelled content)) u (joined-utf8 content hold all false false)) v

linked-utf8 : (mark dest title : List ℕ) (content : List Inline) → IsUtf8 mark → AllHold IsSpelledSo content → (is_utf8 dest && is_utf8 title && all_of (map has_utf8 content)) ≡ true → (first last : Bool)
    → IsUtf8 ((between mark (map spelled content) (spelled_target dest title)).spelling first last)
linked-utf8 mark dest title content u hold all first last =
    let whole = and_parts (is_utf8 dest && is_utf8 title) (all_of (map has_utf8 content)) all in
    let both = and_parts (is_utf8 dest) (is_utf8 title) whole.0 in
    between-utf8 mark (spelled_target dest title) content u (target-utf8 dest title (IsUtf8-from_is_utf8 dest both.0) (IsUtf8-from_is_utf8 title both.1)) hold whole.1 first last

-- what holds of one as it is spelled
pub utf8-as : {s t : Spelled} → s ≡ t → (first last : Bool) → IsUtf8 (s.spelling first last) → IsUtf8 (t.spelling first last)
utf8-as e first last u = subst (λ (spelled : Spelled). IsUtf8 (spelled.spelling first last)) e u

spelled-cases : Cases IsSpelledSo
spelled-cases = record {
  text = λ text all first last. utf8-as (sym (inline_fold.text spelling.inline_step text)) first last (spelled-utf8 first last text (IsUtf8-from_is_utf8 text (sym (inline_fold.text utf8_step text) ∙ all)));
  code = λ text all first last. utf8-as (sym (inline_fold.code spelling.inline_step text)) first last (code-utf8 text (IsUtf8-from_is_utf8 text (sym (inline_fold.code utf8_step text) ∙ all)));
  html = λ text all first last. utf8-as (sym (inline_fold.html spelling.inline_step text)) first last (IsUtf8-from_is_utf8 text (sym (inline_fold.html utf8_step text) ∙ all));
  soft = λ all first last. utf8-as (sym (inline_fold.soft spelling.inline_step)) first last (ascii-utf8 (codes "\n") refl);
  hard = λ all first last. utf8-as (sym (inline_fold.hard spelling.inline_step)) first last (ascii-utf8 (codes "\\\n") refl);
  emph = λ content hold all first last. utf8-as (sym (inline_fold.emph spelling.inline_step content)) first last
      (between-utf8 (codes "*") (codes "*") content (ascii-utf8 (codes "*") refl) (ascii-utf8 (codes "*") refl) hold (sym (inline_fold.emph utf8_step content) ∙ all) first last);
  strong = λ content hold all first last. utf8-as (sym (inline_fold.strong spelling.inline_step content)) first last
      (between-utf8 (codes "**") (codes "**") content (ascii-utf8 (codes "**") refl) (ascii-utf8 (codes "**") refl) hold (sym (inline_fold.strong utf8_step content) ∙ all) first last);
  strike = λ content hold all first last. utf8-as (sym (inline_fold.strike spelling.inline_step content)) first last
      (between-utf8 (codes "~~") (codes "~~") content (ascii-utf8 (codes "~~") refl) (ascii-utf8 (codes "~~") refl) hold (sym (inline_fold.strike utf8_step content) ∙ all) first last);
  link = λ dest title content hold all first last. utf8-as (sym (inline_fold.link spelling.inline_step dest title content)) first last
      (linked-utf8 (codes "[") dest title content (ascii-utf8 (codes "[") refl) hold (sym (inline_fold.link utf8_step dest title content) ∙ all) first last);
  image = λ dest title content hold all first last. utf8-as (sym (inline_fold.image spelling.inline_step dest title content)) first last
      (linked-utf8 (codes "![") dest title content (ascii-utf8 (codes "![") refl) hold (sym (inline_fold.image utf8_step dest title content) ∙ all) first last);
}

pub inline-utf8 : (i : Inline) → has_utf8 i ≡ true → (first last : Bool) → IsUtf8 ((spelled i).spelling first last)
inline-utf8 = by-cases IsSpelledSo spelled-cases
