-- Nodes that are judged or spelled alike.
use Rattle.std.proofs.Common.{◌≡◌, Bool, Option, None, sym, ap, ◌∙◌}
use Rattle.cm_source.specs.Inlines.{Spelled}
use Rattle.cm_source.specs.Refusals.{BlockFace, JudgedBlock}

-- at the start and at the end of a line or not
pub its-spelling : {s t : Spelled} → s ≡ t → (first last : Bool) → s.spelling first last ≡ t.spelling first last
its-spelling e first last = ap (λ (spelled : Spelled). spelled.spelling first last) e

pub refused-as : {j k : JudgedBlock} → j ≡ k → (before : Option BlockFace) → j.refusal before ≡ None → k.refusal before ≡ None
refused-as is before e = sym (ap (λ (j : JudgedBlock). j.refusal before) is) ∙ e
