-- What a call returns where its output isn't written whole.
use Rattle.std.proofs.Common.{◌≡◌, ℕ, List, subst, inl}
use Rattle.std.specs.Prelude.{Err}
use Rattle.cm_text.specs.DeviceViews.{SinkView, SourceView}
use Rattle.cm_text.specs.Limits.{LimitsView}
use Rattle.cm_text.specs.Rules.{Rules}
use Rattle.cm_html.specs.declared.fault.HtmlFault.{HtmlFault}
use Rattle.cm_html.specs.declared.fault.HtmlFault.TheVariants as html
use Rattle.cm_html.specs.Writing.{WritesText}
use Rattle.cm_tool.specs.ToldFaults.{unwritten}
use Rattle.cm_tool.specs.Reading.{ReadWhole}
use Rattle.cm_tool.specs.Writing.{Writes}

pub output_lost : (Lost : SinkView → SinkView → List ℕ → Type 0) (output : Rules → List ℕ → List ℕ)
    → (fault : HtmlFault) (limits : LimitsView) (bytes pages : List ℕ) (from left : SourceView) (old new : SinkView)
    → ReadWhole limits bytes from left → pages ≡ output limits.rules bytes → WritesText (Err fault) pages old new
    → Writes Lost output (Err (unwritten fault)) limits bytes from left old new
output_lost Lost output html.NoMemory limits bytes pages from left old new read is lost =
    (read.same, inl lost)
output_lost Lost output (html.WriteFailed written) limits bytes pages from left old new read is lost =
    (read, subst (λ t. WritesText (Err (html.WriteFailed written)) t old new) is lost)
