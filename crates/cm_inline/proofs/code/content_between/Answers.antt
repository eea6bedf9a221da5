use Rattle.cm_inline.proofs.lemmas.Words.{◌≡◌, ◌+◌, ◌-◌, ◌∙◌, length, take, drop, get_or, get_or-drop, sym, ap, arith, list_all, slice_range, IsCharBoundary-before_ascii, IsCharBoundary-after_ascii, one_line}
use Rattle.cm_inline.specs.steps.Marks.{is_space_in_code}
use Rattle.cm_inline.proofs.lemmas.CodeLemmas.{space-ascii, inner-is, part-length, part-first, part-last, stripped-short, stripped-first, stripped-last, stripped-spaces, stripped-cut}
use Rattle.cm_inline.proofs.code.content_between.Goals.{then-not-is_space_next-via-then-not-is_space_next, then-not-is_space_next-via-else-not-is_space_next+then-not-is_space_next-2}
use Rattle.cm_inline.proofs.code.content_between.Goals as goal

pub returns-then-len-lt2-clause-stripped : goal.returns-then-len-lt2-clause-stripped
returns-then-len-lt2-clause-stripped g c =
    stripped-short (slice_range c.args.source.now c.args.from c.args.to) (omega (arith, part-length c.args.source.now c.args.from c.args.to c.requires.0 c.requires.2.0, c.if-len-lt2.true))

pub returns-then-not-is_space_next-clause-stripped : goal.returns-then-not-is_space_next-clause-stripped
returns-then-not-is_space_next-clause-stripped g c =
    let bytes = slice_range c.args.source.now c.args.from c.args.to in
    let seen : c.front-inside.result ≡ bytes = (c.front-inside.ensures ∙ ap (take (c.args.to - c.args.from)) (c.after.ensures ∙ ap (drop c.args.from) (c.of.ensures ∙ c.as_bytes.ensures.value))) in
    let size = part-length c.args.source.now c.args.from c.args.to c.requires.0 c.requires.2.0 in
    elim c.then-not-is_space_next.branch [
      | then-not-is_space_next-via-then-not-is_space_next w ↦
          stripped-first bytes (ap (λ t. is_space_in_code (get_or t 0 0)) (sym seen) ∙ sym c.is_space_next.ensures.next ∙ w.if-not-is_space_next.true)
      | then-not-is_space_next-via-else-not-is_space_next+then-not-is_space_next-2 w ↦
          let place : c.args.to - c.args.from - 1 + 0 ≡ length bytes - 1 = omega (arith, size) in
          let last = w.after-else-not-is_space_next.ensures ∙ ap (drop (c.args.to - c.args.from - 1)) seen in
          stripped-last bytes
          (ap (λ n. is_space_in_code (get_or bytes n 0)) (sym place) ∙ ap is_space_in_code (sym (get_or-drop (c.args.to - c.args.from - 1) bytes 0 0)) ∙ ap (λ t. is_space_in_code (get_or t 0 0)) (sym last)
          ∙ sym w.is_space_next-else-not-is_space_next.ensures.next ∙ w.if-not-is_space_next-2.true)
    ]

pub returns-then-are_spaces-clause-stripped : goal.returns-then-are_spaces-clause-stripped
returns-then-are_spaces-clause-stripped g c =
    let bytes = slice_range c.args.source.now c.args.from c.args.to in
    let seen : c.front-inside.result ≡ bytes = (c.front-inside.ensures ∙ ap (take (c.args.to - c.args.from)) (c.after.ensures ∙ ap (drop c.args.from) (c.of.ensures ∙ c.as_bytes.ensures.value))) in
    stripped-spaces bytes (ap (list_all is_space_in_code) (sym seen) ∙ sym c.are_spaces.ensures.spaces ∙ c.if-are_spaces.true)

pub returns-clause-stripped : goal.returns-clause-stripped
returns-clause-stripped g c =
    let source = c.args.source.now in
    let bytes = slice_range source c.args.from c.args.to in
    let seen : c.front-inside.result ≡ bytes = (c.front-inside.ensures ∙ ap (take (c.args.to - c.args.from)) (c.after.ensures ∙ ap (drop c.args.from) (c.of.ensures ∙ c.as_bytes.ensures.value))) in
    let size = part-length source c.args.from c.args.to c.requires.0 c.requires.2.0 in
    let place : c.args.to - c.args.from - 1 + 0 ≡ length bytes - 1 = omega (arith, size) in
    let last = c.after-else-not-is_space_next.ensures ∙ ap (drop (c.args.to - c.args.from - 1)) seen in
    ap one_line (sym (inner-is source c.args.from c.args.to c.requires.0 c.requires.2.0))
    ∙ stripped-cut bytes (omega (arith, size, c.if-len-lt2.false)) (ap (λ t. is_space_in_code (get_or t 0 0)) (sym seen) ∙ sym c.is_space_next.ensures.next ∙ c.if-not-is_space_next.false)
    (ap (λ n. is_space_in_code (get_or bytes n 0)) (sym place) ∙ ap is_space_in_code (sym (get_or-drop (c.args.to - c.args.from - 1) bytes 0 0)) ∙ ap (λ t. is_space_in_code (get_or t 0 0)) (sym last)
    ∙ sym c.is_space_next-else-not-is_space_next.ensures.next ∙ c.if-not-is_space_next-2.false)
    (ap (list_all is_space_in_code) (sym seen) ∙ sym c.are_spaces.ensures.spaces ∙ c.if-are_spaces.false)

pub returns-clause-between : goal.returns-clause-between
returns-clause-between g c =
    let source = c.args.source.now in
    let bytes = slice_range source c.args.from c.args.to in
    let seen : c.front-inside.result ≡ bytes = (c.front-inside.ensures ∙ ap (take (c.args.to - c.args.from)) (c.after.ensures ∙ ap (drop c.args.from) (c.of.ensures ∙ c.as_bytes.ensures.value))) in
    let size = part-length source c.args.from c.args.to c.requires.0 c.requires.2.0 in
    let place : c.args.to - c.args.from - 1 + 0 ≡ length bytes - 1 = omega (arith, size) in
    let behind = c.after-else-not-is_space_next.ensures ∙ ap (drop (c.args.to - c.args.from - 1)) seen in
    let low = space-ascii bytes 0 (ap (λ t. is_space_in_code (get_or t 0 0)) (sym seen) ∙ sym c.is_space_next.ensures.next ∙ c.if-not-is_space_next.false) in
    let last = space-ascii bytes (length bytes - 1)
    (ap (λ n. is_space_in_code (get_or bytes n 0)) (sym place) ∙ ap is_space_in_code (sym (get_or-drop (c.args.to - c.args.from - 1) bytes 0 0)) ∙ ap (λ t. is_space_in_code (get_or t 0 0)) (sym behind)
    ∙ sym c.is_space_next-else-not-is_space_next.ensures.next ∙ c.if-not-is_space_next-2.false) in
    let first-is = part-first source c.args.from c.args.to (omega (arith, c.if-len-lt2.false)) in
    let last-is = part-last source c.args.from c.args.to c.requires.0 c.requires.2.0 (omega (arith, c.if-len-lt2.false)) in (
      omega (arith, c.if-len-lt2.false),
      IsCharBoundary-after_ascii source c.args.from c.utf8.source (omega (arith, c.if-len-lt2.false, c.requires.2.0)) (omega (arith, low, first-is)),
      IsCharBoundary-before_ascii source (c.args.to - 1) (omega (arith, c.if-len-lt2.false, c.requires.2.0)) (omega (arith, last, last-is)),
    )
