use Rattle.cm_inline.proofs.lemmas.Words.{◌≡◌, ◌+◌, ◌-◌, List, ℕ, Bool, true, false, refl, sym, subst, ◌∙◌, ap, if◌then◌else◌, Finished, Kind}
use Rattle.std.specs.Prelude.{nat_le}
use Rattle.cm_tree.specs.declared.tree.Inline.TheVariants as inlines
use Rattle.cm_inline.specs.declared.marks.Kind.TheVariants.{Soft, Hard}
use Rattle.cm_inline.specs.steps.Reads.{IsAtom, inline_in, IsInline}
use Rattle.cm_inline.proofs.lemmas.AtomLemmas.{break-is, space-is-text}
use Rattle.cm_inline.proofs.lemmas.LinkLemmas.{next-of}
use Rattle.cm_inline.proofs.atoms.line_break.Goals as goal

pub returns-then-not-is_next : goal.returns-then-not-is_next
returns-then-not-is_next c = record {
  atom = λ rules. space-is-text rules c.args.source.now c.args.at 32 c.after_run-feed.result c.utf8.source c.requires refl c.after_run-feed.ensures.beyond
      (sym (next-of 10 c.args.source.now c.as_bytes.result.now c.after_run-feed.result c.is_next.result c.as_bytes.ensures.value c.is_next.ensures.next) ∙ c.if-not-is_next.true) refl;
}

pub returns : goal.returns
returns c = record {
  atom = let source = c.args.source.now in
      let at = c.args.at in
      let feed = c.after_run-feed.result in
      let made = broken source at (feed + 1) (nat_le 2 (feed - at)) c.break_after.result c.break_after.ensures in
      λ rules. record {
        is = subst (λ inline. IsAtom rules source at (Finished inline) (feed + 1)) (sym made.0)
            (break-is rules source at 32 feed c.utf8.source c.requires refl c.after_run-feed.ensures.end c.after_run-feed.ensures.beyond
            (sym (next-of 10 source c.as_bytes.result.now feed c.is_next.result c.as_bytes.ensures.value c.is_next.ensures.next) ∙ c.if-not-is_next.false));
        there = made.1;
      };
}
  where
    broken : (source : List ℕ) (at end : ℕ) (hard : Bool) (kind : Kind) → kind ≡ (if hard then Hard else Soft) → (inline_in source at end kind ≡ (if hard then inlines.Hard else inlines.Soft)) × IsInline source at end kind
    broken source at end true kind e = (ap (inline_in source at end) e, subst (IsInline source at end) (sym e) tt)
    broken source at end false kind e = (ap (inline_in source at end) e, subst (IsInline source at end) (sym e) tt)
