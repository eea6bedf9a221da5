-- Writing a tree as JSON.
use Rattle.std.proofs.Common.{◌≡◌, ◌∙◌, ℕ, List, ◌++◌, length, ap, subst}
use Rattle.std.specs.Prelude.{Result, Ok, Err, IfOk, OnOk, codes}
use Rattle.cm_text.specs.DeviceViews.{SinkView, SourceView}
use Rattle.cm_text.specs.Limits.{LimitsView}
use Rattle.cm_text.specs.Writing.{IsUnwritten, Wrote}
use Rattle.cm_html.specs.declared.fault.HtmlFault.{HtmlFault}
use Rattle.cm_html.specs.declared.fault.HtmlFault.TheVariants as html
use Rattle.cm_html.specs.Writing.{WritesText}
use Rattle.cm_tool.specs.ToldFaults.{unwritten}
use Rattle.cm_tool.specs.Reading.{ReadWhole}
use Rattle.cm_tool.specs.Writing.{IsTreeInJson, JsonIfWritten, WritesJson, in_json, json_line}
use Rattle.cm_tool.proofs.lemmas.ConversionLemmas.{output_lost}

-- two facts of what was made
pub both : {A E : Type 0} (r : Result A E) (P : A → Type 0) (Q : Type 0) → IfOk r P → OnOk r Q → IfOk r (λ made. P made × Q)
both (Ok made) P Q p q = (p, q)
both (Err fault) P Q p q = tt

module _ (limits : LimitsView) (bytes : List ℕ) (from left : SourceView) (old new : SinkView) (read : ReadWhole limits bytes from left)
    (json line : List ℕ) (same : json ≡ in_json limits.rules bytes) (sound : IsTreeInJson limits.rules bytes) (ended : line ≡ json ++ codes "\n") where
  line_is : line ≡ json_line limits.rules bytes
  line_is = ended ∙ ap (λ t. t ++ codes "\n") same

  -- the line was written
  pub json_written : (n : ℕ) → WritesText (Ok n) line old new → WritesJson (Ok n) limits bytes from left old new
  json_written n wrote = ((read, subst (λ t. Wrote old new t 0) line_is wrote.0, wrote.1 ∙ ap length line_is), sound)

  -- it wasn't written whole
  pub json_lost : (fault : HtmlFault) → WritesText (Err fault) line old new → WritesJson (Err (unwritten fault)) limits bytes from left old new
  json_lost fault lost = (output_lost (λ old new text. IsUnwritten old new) json_line fault limits bytes line from left old new read line_is lost, if_written fault)
    where
      if_written : (fault : HtmlFault) → JsonIfWritten (Err (unwritten fault)) limits.rules bytes
      if_written html.NoMemory = tt
      if_written (html.WriteFailed written) = sound
