use Rattle.std.proofs.Common.{◌≡◌, ◌++◌, drop}
use Rattle.cm_html.specs.Escape.{escape}
use Rattle.cm_html.specs.steps.AlternativeText.{alternative_text}
use Rattle.cm_html.proofs.inlines.+alternative_text.Given as goal

-- what was written and what is left are all
abbrev pub invariant-push_alternative_text-loop-inline : goal.invariant-push_alternative_text-loop-inline
invariant-push_alternative_text-loop-inline l =
    l.out ++ escape (alternative_text (drop l.inline-index l.content)) ≡ l.fn.out ++ escape (alternative_text l.content)
