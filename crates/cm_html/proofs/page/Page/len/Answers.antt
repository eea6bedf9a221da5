use Rattle.std.proofs.Common.{rules, ◌≡◌, ap, arith, drop, length, string_bytes}
use Rattle.std.proofs.lemmas.List.{drop_all}
use Rattle.cm_html.proofs.lemmas.PageLemmas.{length_page, lengths}
use Rattle.cm_html.proofs.page.Page.len.Goals as goal

pub returns : goal.returns
returns c =
    let at = c.loop-insertion.insertion-index in
    let none : lengths (drop at c.as_slice-insertions.result.now) ≡ 0 = ap lengths (drop_all at c.as_slice-insertions.result.now c.loop-insertion-test.false) in
    let text : c.len-len.result ≡ length (string_bytes c.self.inside.text) = search (rules, c.len-len.ensures) in
    omega (arith, none, text, c.loop-insertion.invariant, ap lengths c.as_slice-insertions.ensures.value, length_page (string_bytes c.self.inside.text) c.self.inside.insertions.items c.self.invariant, ap length c.self.view_is)
