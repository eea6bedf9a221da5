-- What writing a text to a sink returns, and what has been written then.
use Rattle.std.specs.Prelude.{◌≡◌, ℕ, List, length, Result, Ok, Err}
use Rattle.cm_text.specs.DeviceViews.{SinkView}
use Rattle.cm_text.specs.Writing.{IsUnwritten, Wrote, WroteFront}
use Rattle.cm_html.specs.declared.fault.HtmlFault.{HtmlFault}
use Rattle.cm_html.specs.declared.fault.HtmlFault.TheVariants.{NoMemory, WriteFailed}

-- All of the text was written, and its length is returned; or one write failed, and the first `written` bytes were written; or
-- memory ran out, and nothing was written.
abbrev pub WritesText : Result ℕ HtmlFault → List ℕ → SinkView → SinkView → Type 0
WritesText (Ok n) text old new = Wrote old new text 0 × (n ≡ length text)
WritesText (Err (WriteFailed written)) text old new = WroteFront old new text written
WritesText (Err NoMemory) text old new = IsUnwritten old new
