-- What a reading of a text in memory says of the text.
use Rattle.std.proofs.Common.{◌≡◌, ℕ, List, sym, ap, subst, ◌∙◌, None}
use Rattle.std.specs.Prelude.{Option, Ok, Err, Result, Vec, String, IfErr, IfOk, IfSome, string_bytes}
use Rattle.std.specs.declared.alloc.Global.{Global}
use Rattle.std.specs.Option.{option_or, option_map}
use Rattle.std.specs.Result.{result_ok}
use Rattle.cm_text.specs.Limits.{LimitsView}
use Rattle.cm_source.specs.Refusals.{refusal_of, IsSpellable}
use Rattle.cm_tool.specs.declared.fault.Fault.{Fault}
use Rattle.cm_tool.specs.declared.fault.Fault.TheVariants.{NotUtf8, TooLong, BlocksTooDeep, InlinesTooDeep, NoMemory, ReadFailed, WriteFailed, Unspellable, BadExampleFile, ExampleDiffers}
use Rattle.cm_tool.specs.Faults.{fault_of}
use Rattle.cm_tool.specs.Parsing.{TellsFault}
use Rattle.cm_tool.specs.Rewriting.{MakesPlainSource, kept_tree}
use Rattle.cmk_c.specs.Calls.{Gives, ended, rewriting_fault}

-- a text that was made, if there was memory for it
pub made_text : {E : Type 0} (result : Result (String Global) E) (text : Option (String Global)) (made output : List ℕ) → IfOk result (λ t. string_bytes t ≡ made)
    → text ≡ result_ok result → made ≡ output → IfSome text (λ t. string_bytes t ≡ output)
made_text (Ok t) text made output is same e = subst (λ o. IfSome o (λ u. string_bytes u ≡ output)) (sym same) (is ∙ e)
made_text (Err f) text made output is same e = subst (λ o. IfSome o (λ u. string_bytes u ≡ output)) (sym same) tt

-- what was made is returned, followed by a NUL
pub given : (fault : Option Fault) (output : List ℕ) (result : Result (Vec ℕ Global) Fault) → fault ≡ None
    → IfOk result (λ v. v.items ≡ ended output) → IfErr result (λ f. f ≡ NoMemory) → Gives fault output result
given fault output (Ok v) none value memory = (none, value)
given fault output (Err f) none value memory = subst (λ g. Gives fault output (Err g)) (sym memory) tt

-- a fault that is reported is returned
pub refused : (found : Option Fault) (output : List ℕ) (fault : Fault) → TellsFault fault found → Gives found output (Err fault)
refused found output (NotUtf8 at) tells = tells
refused found output (TooLong at) tells = tells
refused found output (BlocksTooDeep line) tells = tells
refused found output (InlinesTooDeep leaf) tells = tells
refused found output NoMemory tells = tt
refused found output ReadFailed tells = absurd tells
refused found output (WriteFailed written) tells = absurd tells
refused found output (Unspellable why) tells = absurd tells
refused found output (BadExampleFile line) tells = absurd tells
refused found output (ExampleDiffers number) tells = absurd tells

module _ (limits : LimitsView) (text : List ℕ) where
  -- why the tree can't be spelled comes after the fault of the text
  beyond : fault_of limits text ≡ None → rewriting_fault limits text ≡ option_map Unspellable (refusal_of limits.rules (kept_tree limits.rules text))
  beyond none = ap (λ f. option_or f (option_map Unspellable (refusal_of limits.rules (kept_tree limits.rules text)))) none

  pub no_fault : fault_of limits text ≡ None → IsSpellable limits.rules (kept_tree limits.rules text) → rewriting_fault limits text ≡ None
  no_fault none spellable = beyond none ∙ ap (option_map Unspellable) spellable

  pub unrewritten : (fault : Fault) (output : List ℕ) → MakesPlainSource (Err fault) limits text → Gives (rewriting_fault limits text) output (Err fault)
  unrewritten (NotUtf8 at) output e = ap (λ f. option_or f (option_map Unspellable (refusal_of limits.rules (kept_tree limits.rules text)))) e
  unrewritten (TooLong at) output e = ap (λ f. option_or f (option_map Unspellable (refusal_of limits.rules (kept_tree limits.rules text)))) e
  unrewritten (BlocksTooDeep line) output e = ap (λ f. option_or f (option_map Unspellable (refusal_of limits.rules (kept_tree limits.rules text)))) e
  unrewritten (InlinesTooDeep leaf) output e = ap (λ f. option_or f (option_map Unspellable (refusal_of limits.rules (kept_tree limits.rules text)))) e
  unrewritten NoMemory output e = tt
  unrewritten ReadFailed output e = absurd e
  unrewritten (WriteFailed written) output e = absurd e
  unrewritten (Unspellable why) output e = beyond e.0 ∙ ap (option_map Unspellable) e.1
  unrewritten (BadExampleFile line) output e = absurd e
  unrewritten (ExampleDiffers number) output e = absurd e
