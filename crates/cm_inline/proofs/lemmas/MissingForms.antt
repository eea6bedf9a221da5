-- Forms whose end is missing.
use Rattle.cm_inline.proofs.lemmas.Words.{◌≡◌, ℕ, zero, suc, ◌+◌, ◌-◌, ◌<◌, ◌≤◌, Bool, true, false, List, [], ◌∷◌, ◌++◌, length, drop, get_or, Option, Some, None, codes, refl, sym}
use Rattle.cm_inline.proofs.lemmas.Words.{ap, subst, ◌∙◌, arith, drop_all, Rules, raw_html, Comment, Declaration, MissingEnds, nat_lt, nat_le, nat_tests}
use Rattle.std.proofs.Common.{drop-drop, length-drop, length-append, get_or-drop}
use Rattle.std.proofs.Math.Seq.{drop-append_seam}
use Rattle.std.specs.Char.{is_ascii_alphabetic}
use Rattle.cm_scan.specs.spans.RawHtml.{beyond_word, html_tag}
use Rattle.cm_scan.specs.laws.SpanLaws.{NeedsEnd}
use Rattle.cm_scan.proofs.lemmas.spans.RawHtmlGoesOn.{raw-on}
use Rattle.cm_scan.proofs.lemmas.spans.RawHtmlNeedsItsEnd.{comment-needs, instruction-needs, section-needs, any-needs}
use Rattle.cm_scan.proofs.lemmas.spans.RawHtmlLacksItsEnd.{past-drop, comment-lacks, instruction-lacks, section-lacks, declaration-lacks}
use Rattle.cm_inline.specs.declared.missing_ends.Form.{Form}
use Rattle.cm_inline.specs.declared.missing_ends.Form.TheVariants.{Instruction, CharacterData}
use Rattle.cm_inline.specs.steps.Missing.{start_of, end_of, Starts, Lacks, missing_from, remembered, Knows, IsPast, spare_from, spare}

-- no word is at the end of a source
past-nothing : (word : List ℕ) → beyond_word word [] ≡ None
unfolding beyond_word
past-nothing word = refl

lacks-at-end : (source : List ℕ) (form : Form) → Lacks source form (length source)
lacks-at-end source form = record {
  started = λ low. absurd (omega (arith, low));
  missing = λ later high. ap (beyond_word (end_of form)) (drop_all later source (omega (arith, high))) ∙ past-nothing (end_of form);
}

-- what is said of a source before anything is looked for
abbrev of_length : ℕ → MissingEnds
of_length len = record { comment = len; instruction = len; character_data = len; declaration = len; backticks = None }

pub known-at-end : (source : List ℕ) → Knows source (of_length (length source))
known-at-end source = record { forms = go; backticks = tt }
  where
    go : (form : Form) → Lacks source form (missing_from (of_length (length source)) form)
    go Comment = lacks-at-end source Comment
    go Instruction = lacks-at-end source Instruction
    go CharacterData = lacks-at-end source CharacterData
    go Declaration = lacks-at-end source Declaration

-- what one more form without its end changes

module _ (source : List ℕ) (ends : MissingEnds) (at : ℕ) where
  pub knows-more : (form : Form) → Knows source ends → Lacks source form at → Knows source (remembered form at ends)
  knows-more form k lacks = record { forms = λ f. go form f lacks; backticks = same form }
    where
      go : (form f : Form) → Lacks source form at → Lacks source f (missing_from (remembered form at ends) f)
      go Comment Comment l = l
      go Comment Instruction l = k.forms Instruction
      go Comment CharacterData l = k.forms CharacterData
      go Comment Declaration l = k.forms Declaration
      go Instruction Comment l = k.forms Comment
      go Instruction Instruction l = l
      go Instruction CharacterData l = k.forms CharacterData
      go Instruction Declaration l = k.forms Declaration
      go CharacterData Comment l = k.forms Comment
      go CharacterData Instruction l = k.forms Instruction
      go CharacterData CharacterData l = l
      go CharacterData Declaration l = k.forms Declaration
      go Declaration Comment l = k.forms Comment
      go Declaration Instruction l = k.forms Instruction
      go Declaration CharacterData l = k.forms CharacterData
      go Declaration Declaration l = l

      same : (form : Form) → Rattle.cm_inline.specs.steps.Missing.AreLastIfKnown source (remembered form at ends).backticks
      same Comment = k.backticks
      same Instruction = k.backticks
      same CharacterData = k.backticks
      same Declaration = k.backticks

  pub past-more : (form : Form) → IsPast source at ends → IsPast source (at + 1) (remembered form at ends)
  past-more form past = λ f. go form f
    where
      go : (form f : Form) → missing_from (remembered form at ends) f < length source → missing_from (remembered form at ends) f < at + 1
      go Comment Comment = λ _. omega arith
      go Comment Instruction = λ known. omega (arith, past Instruction known)
      go Comment CharacterData = λ known. omega (arith, past CharacterData known)
      go Comment Declaration = λ known. omega (arith, past Declaration known)
      go Instruction Comment = λ known. omega (arith, past Comment known)
      go Instruction Instruction = λ _. omega arith
      go Instruction CharacterData = λ known. omega (arith, past CharacterData known)
      go Instruction Declaration = λ known. omega (arith, past Declaration known)
      go CharacterData Comment = λ known. omega (arith, past Comment known)
      go CharacterData Instruction = λ known. omega (arith, past Instruction known)
      go CharacterData CharacterData = λ _. omega arith
      go CharacterData Declaration = λ known. omega (arith, past Declaration known)
      go Declaration Comment = λ known. omega (arith, past Comment known)
      go Declaration Instruction = λ known. omega (arith, past Instruction known)
      go Declaration CharacterData = λ known. omega (arith, past CharacterData known)
      go Declaration Declaration = λ _. omega arith

  pub past-on : IsPast source at ends → IsPast source (at + 1) ends
  past-on past = λ f known. omega (arith, past f known)

  spent : (from : ℕ) → at < length source → nat_lt from at ≡ false → (from < length source → from < at) → spare_from at (length source) + length source ≤ spare_from from (length source)
  unfolding spare_from
  spent from within not past = grind (arith, within, not, past)

  pub spare-falls : (form : Form) → at < length source → nat_lt (missing_from ends form) at ≡ false → IsPast source at ends → spare source (remembered form at ends) + length source ≤ spare source ends
  spare-falls Comment within not past = omega (arith, spent ends.comment within not (past Comment))
  spare-falls Instruction within not past = omega (arith, spent ends.instruction within not (past Instruction))
  spare-falls CharacterData within not past = omega (arith, spent ends.character_data within not (past CharacterData))
  spare-falls Declaration within not past = omega (arith, spent ends.declaration within not (past Declaration))

-- No form starts within the start of another.

start-head : (form : Form) (rest : List ℕ) → get_or (start_of form ++ rest) 0 0 ≡ 60
start-head Comment rest = refl
start-head Instruction rest = refl
start-head CharacterData rest = refl
start-head Declaration rest = refl

no-start-inside : (form : Form) (rest : List ℕ) (k : ℕ) → 0 < k → k < length (start_of form) → get_or (start_of form ++ rest) k 0 ≡ 60 → ⊥
no-start-inside Comment rest zero some within is = omega (arith, some)
no-start-inside Comment rest (suc zero) some within is = omega (arith, is)
no-start-inside Comment rest (suc (suc zero)) some within is = omega (arith, is)
no-start-inside Comment rest (suc (suc (suc zero))) some within is = omega (arith, is)
no-start-inside Comment rest (suc (suc (suc (suc k)))) some within is = omega (arith, within)
no-start-inside Instruction rest zero some within is = omega (arith, some)
no-start-inside Instruction rest (suc zero) some within is = omega (arith, is)
no-start-inside Instruction rest (suc (suc k)) some within is = omega (arith, within)
no-start-inside CharacterData rest zero some within is = omega (arith, some)
no-start-inside CharacterData rest (suc zero) some within is = omega (arith, is)
no-start-inside CharacterData rest (suc (suc zero)) some within is = omega (arith, is)
no-start-inside CharacterData rest (suc (suc (suc zero))) some within is = omega (arith, is)
no-start-inside CharacterData rest (suc (suc (suc (suc zero)))) some within is = omega (arith, is)
no-start-inside CharacterData rest (suc (suc (suc (suc (suc zero))))) some within is = omega (arith, is)
no-start-inside CharacterData rest (suc (suc (suc (suc (suc (suc zero)))))) some within is = omega (arith, is)
no-start-inside CharacterData rest (suc (suc (suc (suc (suc (suc (suc zero))))))) some within is = omega (arith, is)
no-start-inside CharacterData rest (suc (suc (suc (suc (suc (suc (suc (suc zero)))))))) some within is = omega (arith, is)
no-start-inside CharacterData rest (suc (suc (suc (suc (suc (suc (suc (suc (suc k))))))))) some within is = omega (arith, within)
no-start-inside Declaration rest zero some within is = omega (arith, some)
no-start-inside Declaration rest (suc zero) some within is = omega (arith, is)
no-start-inside Declaration rest (suc (suc k)) some within is = omega (arith, within)

some-start : (form : Form) → 0 < length (start_of form)
some-start Comment = omega arith
some-start Instruction = omega arith
some-start CharacterData = omega arith
some-start Declaration = omega arith

-- so it starts after that

module _ (source : List ℕ) (at : ℕ) (form : Form) (rest : List ℕ) (starts : drop at source ≡ start_of form ++ rest) where
  start-within : at < length source
  start-within = omega (arith, ap length starts, length-append (start_of form) rest, length-drop at source, some-start form)

  apart : (from : ℕ) (before : List ℕ) → from < at → drop from source ≡ start_of form ++ before → from + length (start_of form) ≤ at
  apart from before less there = elim (nat_le (from + length (start_of form)) at) as (λ t. nat_le (from + length (start_of form)) at ≡ t → from + length (start_of form) ≤ at) [
    | true ↦ λ h. grind (arith, nat_tests, h)
    | false ↦ λ h.
        let place : from + (at - from) ≡ at = omega (arith, less) in
        let here : get_or (start_of form ++ before) (at - from) 0 ≡ 60
        = ap (λ t. get_or t (at - from) 0) (sym there) ∙ get_or-drop from source (at - from) 0 ∙ ap (λ k. get_or source k 0) (place ∙ sym zero-right) ∙ sym (get_or-drop at source 0 0)
        ∙ ap (λ t. get_or t 0 0) starts ∙ start-head form rest in
        let low : at < from + length (start_of form) = grind (arith, nat_tests, h) in
        absurd (no-start-inside form before (at - from) (omega (arith, less)) (omega (arith, low, less)) here)
  ] refl
    where
      zero-right : at + 0 ≡ at
      zero-right = omega arith

-- no raw HTML starts where its end is missing

needs-none : (start end : List ℕ) → NeedsEnd start end → (rules : Rules) (text rest : List ℕ) → text ≡ start ++ rest → beyond_word end text ≡ None → raw_html rules text ≡ None
needs-none start end needs rules text rest begins missing = ap (raw_html rules) begins ∙ needs rules rest (ap (beyond_word end) (sym begins) ∙ missing)

pub no-raw-html : (rules : Rules) (source : List ℕ) (ends : MissingEnds) (form : Form) (at : ℕ) → Knows source ends → nat_lt (missing_from ends form) at ≡ true
    → Starts rules.older (drop at source) form → raw_html rules (drop at source) ≡ None
no-raw-html rules source ends form at knows known starts =
    let within = start-within source at form starts.rest starts.is in
    let after : missing_from ends form < at = grind (arith, nat_tests, known) in
    let lacks = knows.forms form in
    let before = lacks.started (omega (arith, after, within)) in
    go form starts.rest starts.is (lacks.missing at (apart source at form starts.rest starts.is (missing_from ends form) before.0 after before.1))
  where
    go : (f : Form) (rest : List ℕ) → drop at source ≡ start_of f ++ rest → beyond_word (end_of f) (drop at source) ≡ None → raw_html rules (drop at source) ≡ None
    go Comment rest b missing = needs-none (codes "<!--") (codes "-->") comment-needs rules (drop at source) rest b missing
    go Instruction rest b missing = needs-none (codes "<?") (codes "?>") instruction-needs rules (drop at source) rest b missing
    go CharacterData rest b missing = needs-none (codes "<![CDATA[") (codes "]]>") section-needs rules (drop at source) rest b missing
    go Declaration rest b missing = any-needs rules (drop at source) missing

-- and where none starts, its end is missing

letter-next : (b : ℕ) (bs : List ℕ) → is_ascii_alphabetic b ≡ true → beyond_word (codes ">") bs ≡ None → beyond_word (codes ">") (b ∷ bs) ≡ None
unfolding beyond_word Rattle.cm_scan.specs.Words.after_word
letter-next b bs letter h = grind (arith, letter, h)

end-lacks : (rules : Rules) (form : Form) (text rest : List ℕ) → text ≡ start_of form ++ rest → (form ≡ Comment → rules.older ≡ false) → (form ≡ Declaration → is_ascii_alphabetic (get_or rest 0 0) ≡ true)
    → html_tag rules text ≡ None → beyond_word (end_of form) rest ≡ None
end-lacks rules Comment text rest is strict letter none = comment-lacks rules rest (strict refl) (ap (html_tag rules) (sym is) ∙ none)
end-lacks rules Instruction text rest is strict letter none = instruction-lacks rules rest (ap (html_tag rules) (sym is) ∙ none)
end-lacks rules CharacterData text rest is strict letter none = section-lacks rules rest (ap (html_tag rules) (sym is) ∙ none)
end-lacks rules Declaration text [] is strict letter none = past-nothing (codes ">")
end-lacks rules Declaration text (b ∷ bs) is strict letter none =
    letter-next b bs (letter refl) (declaration-lacks rules b bs (letter refl) (ap (html_tag rules) (sym is) ∙ none))

pub lacks : (rules : Rules) (source : List ℕ) (form : Form) (at : ℕ) → rules.raw_html ≡ true → Starts rules.older (drop at source) form → None ≡ raw_html rules (drop at source) → Lacks source form at
lacks rules source form at on starts none =
    let len = length (start_of form) in
    let past : drop (at + len) source ≡ starts.rest = sym (drop-drop len at source) ∙ ap (drop len) starts.is ∙ drop-append_seam (start_of form) starts.rest in
    let ended = end-lacks rules form (drop at source) starts.rest starts.is starts.strict starts.letter (sym (raw-on rules (drop at source) on) ∙ sym none) in
    record {
      started = λ _. (starts.rest, starts.is);
      missing = λ later high.
          let place : at + len + (later - (at + len)) ≡ later = omega (arith, high) in
          ap (λ k. beyond_word (end_of form) (drop k source)) (sym place) ∙ ap (beyond_word (end_of form)) (sym (drop-drop (later - (at + len)) (at + len) source))
          ∙ past-drop (end_of form) (later - (at + len)) (drop (at + len) source) (ap (beyond_word (end_of form)) past ∙ ended);
    }
