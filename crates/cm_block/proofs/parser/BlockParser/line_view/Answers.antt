use Rattle.std.proofs.Common.{◌≡◌, ◌+◌, ◌-◌, Result, Ok, arith, rules, sym, ap, subst}
use Rattle.std.specs.Result.{OnOk}
use Rattle.cm_text.specs.Views.{seen_view}
use Rattle.cm_text.proofs.lemmas.IndentationLemmas.{line-spaces}
use Rattle.cm_block.specs.Parser.{stack_of}
use Rattle.cm_block.specs.Tests.{count_of}
use Rattle.cm_block.specs.steps.LineTests.{Tested}
use Rattle.cm_block.proofs.lemmas.ParserLemmas.{tells_deep, stands_next}
use Rattle.cm_block.proofs.parser.BlockParser.line_view.Goals as goal

pub returns-in-Err-clause-told : goal.returns-in-Err-clause-told
returns-in-Err-clause-told c = λ lines h.
    tells_deep c.args.self.now.limits (stack_of c.args.self.now) lines (seen_view c.args.line.now) (seen_view c.new-line.result.rest) (ap seen_view c.new-line.ensures.line) h.are_lines (line-spaces c.args.line.now.spaces c.args.line.now.rest.now c.args.line.now.one_line) h.holds h.within
    c.in-Err.fault c.in-Err.ensures.deep

on_success : {T E : Type 0} {P : Type 0} (r : Result T E) (x : T) → r ≡ Ok x → P → OnOk r P
on_success {P = P} r x is holds = subst (λ k. OnOk k P) (sym is) holds

pub returns-in_default-result-clause-stands : goal.returns-in_default-result-clause-stands
returns-in_default-result-clause-stands c =
    let s = c.args.self.now in
    let done = c.in_default-result.ensures in
    let count = count_of (stack_of c.accept-result.new.self) - count_of (stack_of s) in
    on_success c.accept-result.result _ c.in_default-result.is
    (λ lines h. stands_next s _ lines (seen_view c.args.line.now) (seen_view c.new-line.result.rest) c.accept-result.new.line.tests (ap seen_view c.new-line.ensures.line) (line-spaces c.args.line.now.spaces c.args.line.now.rest.now c.args.line.now.one_line) h
    done.pushed (done.few h.few)
    (omega (arith, c.blocks-limit.ensures.value, c.blocks-limit.ensures.bound))
    (subst (λ n. Tested count (s.limits.blocks + 5) n c.accept-result.new.line.tests) c.new-line.ensures.tests (done.tests h.few))
    (search rules)
    done.limits done.fault)
