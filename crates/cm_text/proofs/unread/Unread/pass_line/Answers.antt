use Rattle.std.proofs.Common.{◌≡◌, ◌∙◌, ◌<◌, ◌+◌, ◌==◌, ℕ, List, drop, get_or, length, ap, sym, subst, arith, string_bytes, length-drop}
use Rattle.std.proofs.lemmas.List.{get_or-drop}
use Rattle.std.proofs.lemmas.Str.{IsCharBoundary-after_ascii}
use Rattle.cm_text.specs.Cut.{cut_of, cut_more, begun}
use Rattle.cm_text.proofs.lemmas.CutLemmas.{none_ends}
use Rattle.cm_text.proofs.lemmas.UnreadLemmas.{passed_by, none_passed, ending_is_ascii}
use Rattle.cm_text.proofs.unread.Unread.pass_line.Goals as goal

pub returns-then-self-rest-clause-cut : goal.returns-then-self-rest-clause-cut
returns-then-self-rest-clause-cut c =
    let u = c.args.self.now in
    none_passed (cut_of u) (none_ends u.after_return u.line (drop u.passed (string_bytes u.text)) u.first (c.if-self-rest.true ∙ ap length c.rest-rest.ensures))

pub past_line_feed-passed-requires : goal.past_line_feed-passed-requires
past_line_feed-passed-requires c =
    let u = c.args.self.now in
    let within : u.line < length (drop u.passed (string_bytes u.text)) = omega (arith, c.if-self-rest.false, ap length c.rest-rest.ensures, u.first.within) in
    let ascii = ending_is_ascii (get_or (drop u.passed (string_bytes u.text)) u.line 0) (u.first.ends within) in
    IsCharBoundary-after_ascii c.deref.result.now (u.passed + u.line) c.deref.utf8
    (omega (arith, within, ap length c.deref.ensures, length-drop u.passed (string_bytes u.text)))
    (omega (arith, ascii, get_or-drop u.passed (string_bytes u.text) u.line 0, ap (λ t. get_or t (u.passed + u.line) 0) c.deref.ensures))

pub returns-clause-cut : goal.returns-clause-cut
returns-clause-cut c =
    let u = c.args.self.now in
    let within : u.line < length (drop u.passed (string_bytes u.text)) = omega (arith, c.if-self-rest.false, ap length c.rest-rest.ensures, u.first.within) in
    let p = c.past_line_feed-passed.result in
    let beyond = u.passed + u.line + 1 in
    let P : List ℕ → Type 0 = λ t. cut_more (begun (get_or c.as_bytes.result.now u.line 0 == 13)) (drop beyond t) ≡ cut_more (begun p.1) (drop p.0 t) in
    sym (subst P c.deref.ensures c.past_line_feed-passed.ensures.same)
    ∙ ap (λ t. cut_more (begun (get_or t u.line 0 == 13)) (drop beyond (string_bytes u.text))) (c.as_bytes.ensures.value ∙ c.rest-rest.ensures)
    ∙ passed_by u.after_return (string_bytes u.text) u.passed u.line u.waits u.first within
