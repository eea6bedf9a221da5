use Rattle.std.proofs.Common.{◌∙◌, List, ℕ, ap, subst, length, arith}
use Rattle.std.proofs.lemmas.Result.{on_ok_weaker}
use Rattle.memchr.specs.Find.{is_byte, Passes, Nowhere}
use Rattle.cm_text.specs.Cut.{cut_of, cut_more}
use Rattle.cm_text.proofs.lemmas.TextLemmas.{nul-nowhere, text_of-length}
use Rattle.cm_text.proofs.unread.Unread.take.Goals as goal

pub returns-in-None-clause-ok : goal.returns-in-None-clause-ok
returns-in-None-clause-ok c =
    let none = nul-nowhere c.args.more.now (subst (λ (t : List ℕ). Nowhere (Passes (is_byte 0) t) 0 (length t)) c.as_bytes.ensures.value c.in-None.ensures) in
    on_ok_weaker c.go_on.result (λ done. done ∙ ap (cut_more (cut_of c.args.self.now)) none) c.go_on.ensures.ok

pub returns-in_ok-text-in-Some-clause-len : goal.returns-in_ok-text-in-Some-clause-len
returns-in_ok-text-in-Some-clause-len c =
    omega (arith, c.go_on-in-Some.ensures.len, text_of-length c.args.more.now, ap length c.deref.ensures, ap length c.in_ok-text-in-Some.ensures.text)
