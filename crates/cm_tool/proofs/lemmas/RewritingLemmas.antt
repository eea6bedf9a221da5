-- Rewriting a text.
use Rattle.std.proofs.Common.{◌≡◌, ◌∙◌, ℕ, List, length, ap, subst, inl, inr}
use Rattle.std.specs.Prelude.{None, Result, Ok, Err, String, string_bytes, IsUtf8}
use Rattle.std.proofs.lemmas.Str.{IsUtf8-string_bytes}
use Rattle.std.specs.declared.alloc.Global.{Global}
use Rattle.cm_text.specs.DeviceViews.{SinkView, SourceView}
use Rattle.cm_text.specs.Limits.{LimitsView}
use Rattle.cm_text.specs.Writing.{Wrote, WroteFront}
use Rattle.cm_tool.specs.declared.fault.Fault.{Fault}
use Rattle.cm_tool.specs.declared.fault.Fault.TheVariants.{NotUtf8, TooLong, BlocksTooDeep, InlinesTooDeep, NoMemory, ReadFailed, WriteFailed, Unspellable, BadExampleFile, ExampleDiffers}
use Rattle.cm_tool.specs.Faults.{fault_of}
use Rattle.cm_tool.specs.Reading.{ReadWhole}
use Rattle.cm_tool.specs.Rewriting.{Rewrites, IsLasting, WritesBack, kept_tree, rewritten}
use Rattle.cm_tool.specs.steps.PlainSources.{Spelled}
use Rattle.cm_tool.proofs.lemmas.LastingLemmas.{is_lasting}

-- what is spelled lasts
pub lasts : (limits : LimitsView) (bytes : List ℕ) → fault_of limits bytes ≡ None → (text : String Global) → Spelled limits.rules (kept_tree limits.rules bytes) (Ok text)
    → IsLasting limits bytes
lasts limits bytes sound text spelled = is_lasting limits bytes sound spelled.0 (subst IsUtf8 spelled.1 (IsUtf8-string_bytes text))

module _ (limits : LimitsView) (bytes : List ℕ) (from left : SourceView) (old new : SinkView) (read : ReadWhole limits bytes from left)
    (text : String Global) (spelled : Spelled limits.rules (kept_tree limits.rules bytes) (Ok text)) where
  lasting : IsLasting limits bytes
  lasting = lasts limits bytes read.sound text spelled

  -- it went out
  pub went_out : (written : List ℕ) (n : ℕ) → written ≡ string_bytes text → n ≡ length (string_bytes text) → Wrote old new written 0
      → Rewrites (Ok n) limits bytes from left old new
  went_out written n same count wrote = ((read, subst (λ t. Wrote old new t 0) (same ∙ spelled.1) wrote, count ∙ ap length spelled.1), lasting)

  -- a prefix of it did
  pub was_lost : (written : List ℕ) (n : ℕ) → written ≡ string_bytes text → WroteFront old new written n
      → Rewrites (Err (WriteFailed n)) limits bytes from left old new
  was_lost written n same lost =
      ((read, subst (λ t. WroteFront old new t n) (same ∙ spelled.1) lost), lasting)

-- what is written so reads back
pub writes_back : (answer : Result ℕ Fault) (limits : LimitsView) (bytes : List ℕ) (from left : SourceView) (old new : SinkView)
    → Rewrites answer limits bytes from left old new → WritesBack answer limits bytes from left old new
writes_back (Ok n) limits bytes from left old new ((read, wrote, count), stays) = (read, rewritten limits.rules bytes, stays.1, wrote, count)
writes_back (Err (WriteFailed written)) limits bytes from left old new ((read, wrote), stays) = (read, rewritten limits.rules bytes, stays.1, wrote)
writes_back (Err (Unspellable why)) limits bytes from left old new (read, why_is, unwritten) = unwritten
writes_back (Err NoMemory) limits bytes from left old new ((refused, inl unwritten), stays) = unwritten
writes_back (Err NoMemory) limits bytes from left old new ((refused, inr (read, unwritten)), stays) = unwritten
writes_back (Err (NotUtf8 at)) limits bytes from left old new ((refused, unwritten), stays) = unwritten
writes_back (Err (TooLong at)) limits bytes from left old new ((refused, unwritten), stays) = unwritten
writes_back (Err (BlocksTooDeep line)) limits bytes from left old new ((refused, unwritten), stays) = unwritten
writes_back (Err (InlinesTooDeep leaf)) limits bytes from left old new ((refused, unwritten), stays) = unwritten
writes_back (Err ReadFailed) limits bytes from left old new ((refused, unwritten), stays) = unwritten
writes_back (Err (BadExampleFile line)) limits bytes from left old new ((refused, unwritten), stays) = unwritten
writes_back (Err (ExampleDiffers number)) limits bytes from left old new ((refused, unwritten), stays) = unwritten
