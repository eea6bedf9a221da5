use Rattle.cm_inline.proofs.lemmas.Words.{◌≡◌, ◌+◌, ◌-◌, ◌≤◌, ◌∙◌, ℕ, List, Option, Some, None, length, drop, drop-drop, get_or, refl, sym, ap, arith}
use Rattle.cm_text.specs.References.{reference, chars_of}
use Rattle.cm_text.specs.ReferenceReach.{reference_reach}
use Rattle.cm_text.proofs.lemmas.ReferenceLemmas.{read-within, boundary-after, slice_rest}
use Rattle.cm_inline.proofs.lemmas.AtomLemmas.{reference-is, ampersand-is-text}
use Rattle.cm_inline.proofs.atoms.ampersand.Given.{Over}
use Rattle.cm_inline.proofs.atoms.ampersand.Goals.{In-Some}
use Rattle.cm_inline.proofs.atoms.ampersand.Goals as goal

-- the place after the reference, or none, where one is read
abbrev placed : ℕ → Option (List ℕ × ℕ) → Option (List ℕ × ℕ)
placed at o = elim o [ None ↦ None | Some read ↦ Some (read.0, at + read.1) ]

-- the end is in the source, after a semicolon
ends : (g : Over) (c : In-Some g) → (c.args.at + c.in-Some.len ≤ length c.args.source.now) × (1 ≤ c.in-Some.len) × (get_or c.args.source.now (c.args.at + c.in-Some.len - 1) 0 ≡ 59)
ends g c =
    let same = c.after-text.ensures ∙ ap (drop c.args.at) (c.of.ensures ∙ c.as_bytes.ensures.value) in
    read-within c.args.source.now c.args.source.now c.args.at c.in-Some.len (chars_of c.in-Some.chars) refl (omega (arith, c.requires.within))
    (c.in-Some.ensures.read ∙ ap reference (same ∙ sym (slice_rest c.args.at c.args.source.now)))

pub returns-in-Some-clause-atom : goal.returns-in-Some-clause-atom
returns-in-Some-clause-atom g c =
    let source = c.args.source.now in
    let same = c.after-text.ensures ∙ ap (drop c.args.at) (c.of.ensures ∙ c.as_bytes.ensures.value) in
    λ rules. reference-is rules source c.args.at c.in-Some.chars (c.args.at + c.in-Some.len) c.requires (ap (placed c.args.at) (c.in-Some.ensures.read ∙ ap reference same))
    (boundary-after source c.args.at c.in-Some.len c.utf8.source (ends g (goal.at.returns-in-Some-clause-atom g c).In-Some))

pub returns-in-None-clause-atom : goal.returns-in-None-clause-atom
returns-in-None-clause-atom g c =
    let source = c.args.source.now in
    let same = c.after-text.ensures ∙ ap (drop c.args.at) (c.of.ensures ∙ c.as_bytes.ensures.value) in
    λ rules. ampersand-is-text rules source c.args.at c.utf8.source c.requires (ap (placed c.args.at) (c.in-None.ensures.read ∙ ap reference same))

pub returns-in-Some-clause-looks : goal.returns-in-Some-clause-looks
returns-in-Some-clause-looks g c =
    let same = c.after-text.ensures ∙ ap (drop c.args.at) (c.of.ensures ∙ c.as_bytes.ensures.value) in
    let reach = ap (λ t. reference_reach (drop 1 t)) same ∙ ap reference_reach (drop-drop 1 c.args.at c.args.source.now) in
    omega (arith, c.reference.ensures.looks, reach)

pub returns-in-None-clause-looks : goal.returns-in-None-clause-looks
returns-in-None-clause-looks g c =
    let same = c.after-text.ensures ∙ ap (drop c.args.at) (c.of.ensures ∙ c.as_bytes.ensures.value) in
    let reach = ap (λ t. reference_reach (drop 1 t)) same ∙ ap reference_reach (drop-drop 1 c.args.at c.args.source.now) in
    omega (arith, c.reference.ensures.looks, reach)

pub overflow_add-result : goal.overflow_add-result
overflow_add-result g c = omega (arith, (ends g (goal.at.overflow_add-result g c).In-Some).0)
