use Rattle.cm_inline.proofs.lemmas.Words.{◌≡◌, ℕ, ◌+◌, ◌<◌, true, get_or, refl, sym, ap, ◌∙◌, arith, is_ascii_punct}
use Rattle.cm_inline.proofs.lemmas.AtomLemmas.{hard-is, escape-is, backslash-is-text}
use Rattle.cm_inline.proofs.lemmas.LinkLemmas.{next-of}
use Rattle.cm_inline.proofs.atoms.backslash.Goals as goal
use Rattle.cm_inline.proofs.atoms.backslash.Goals.{else-at-source-via-then-at-source+else-is_ascii_punct, else-at-source-via-else-at-source}

pub returns-then-is_next : goal.returns-then-is_next
returns-then-is_next c = record {
  atom = λ rules.
      (hard-is rules c.args.source.now c.args.at c.utf8.source c.requires (sym (next-of 10 c.args.source.now c.as_bytes.result.now (c.args.at + 1) c.is_next.result c.as_bytes.ensures.value c.is_next.ensures.next) ∙ c.if-is_next.true));
}

pub returns-then-is_ascii_punct : goal.returns-then-is_ascii_punct
returns-then-is_ascii_punct c = record {
  atom = let punct : is_ascii_punct (get_or c.args.source.now (c.args.at + 1) 0) ≡ true =
      ap (λ t. is_ascii_punct (get_or t (c.args.at + 1) 0)) (sym c.as_bytes-then-at-source.ensures.value) ∙ sym c.is_ascii_punct.ensures ∙ c.if-is_ascii_punct.true in
      λ rules. (escape-is rules c.args.source.now c.args.at (get_or c.args.source.now (c.args.at + 1) 0) c.utf8.source c.requires c.if-at-source.true refl
      (small (get_or c.args.source.now (c.args.at + 1) 0) punct) punct);
}
  where
    small : (b : ℕ) → is_ascii_punct b ≡ true → b < 128
    small b h = grind (arith, h)

pub returns : goal.returns
returns c = record {
  atom = λ rules. (backslash-is-text rules c.args.source.now c.args.at c.utf8.source c.requires (sym (next-of 10 c.args.source.now c.as_bytes.result.now (c.args.at + 1) c.is_next.result c.as_bytes.ensures.value c.is_next.ensures.next) ∙ c.if-is_next.false)
      (λ some. elim c.else-at-source.branch [
        | else-at-source-via-then-at-source+else-is_ascii_punct w ↦ ap (λ t. is_ascii_punct (get_or t (c.args.at + 1) 0)) (sym w.as_bytes-then-at-source.ensures.value) ∙ sym w.is_ascii_punct.ensures ∙ w.if-is_ascii_punct.false
        | else-at-source-via-else-at-source w ↦ absurd (omega (arith, some, w.if-at-source.false))
      ]));
}
