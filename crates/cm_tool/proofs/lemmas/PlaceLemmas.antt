-- The lines that faults are on.
use Rattle.std.proofs.Common.{◌≡◌, ◌≢◌, ◌∙◌, ℕ, Bool, true, false, List, [], ◌∷◌, refl, sym, ap, subst, Some, None, inr}
use Rattle.std.specs.Prelude.{Option, Result, Ok, Err, IfOk, OnOk, OnErr, option_and_then, option_map}
use Rattle.std.specs.Io.KnownBytes.{IsAtEnd}
use Rattle.cm_command.specs.declared.job.Job.{Job}
use Rattle.cm_command.specs.declared.job.Job.TheVariants.{Render, Tree, TreeJson, Rewrite, Examples}
use Rattle.cm_text.specs.DeviceViews.{SourceView}
use Rattle.cm_text.specs.Limits.{LimitsView}
use Rattle.cm_tree.specs.declared.tree.Owner.{Owner}
use Rattle.cm_block.specs.declared.parser.Outline.{Outline}
use Rattle.cm_tool.specs.declared.fault.Fault.{Fault}
use Rattle.cm_tool.specs.declared.fault.Fault.TheVariants.{NotUtf8, TooLong, BlocksTooDeep, InlinesTooDeep, NoMemory, ReadFailed, WriteFailed, Unspellable, BadExampleFile, ExampleDiffers}
use Rattle.cm_tool.specs.FaultPlaces.{EndsWith, FindsLine, IsLineOfFault, first_line_of_leaf, line_of_fault}
use Rattle.cm_tool.specs.Faults.{fault_of}
use Rattle.cm_tool.specs.Parsing.{TellsFault}
use Rattle.cm_tool.specs.Reading.{Refuses}
use Rattle.cm_tool.specs.FaultOrder.{leaf_deep}
use Rattle.cm_tool.specs.steps.ReadingSteps.{IsInText, IsOutline}

-- whether the line that hasn't ended has a byte
abbrev pub IsBegun : Bool → List ℕ → Type 0
IsBegun begun [] = begun ≡ false
IsBegun begun (b ∷ bs) = begun ≡ true

-- the first line of a leaf that is too deep
pub line_of_leaf : (limits : LimitsView) (bytes : List ℕ) (outline : Outline) (owners : List Owner) (fault : Fault) (leaf : ℕ) (line : Option ℕ) → IsOutline limits bytes outline
    → owners ≡ outline.owners → fault ≡ InlinesTooDeep leaf → TellsFault fault (fault_of limits bytes) → line ≡ first_line_of_leaf leaf owners
    → line ≡ option_and_then (line_of_fault limits.rules bytes) (fault_of limits bytes)
line_of_leaf limits bytes outline owners fault leaf line is same deep told found =
    found
    ∙ ap (first_line_of_leaf leaf) (same ∙ is.same.owners)
    ∙ ap (option_and_then (line_of_fault limits.rules bytes)) (sym (subst (λ (f : Fault). TellsFault f (fault_of limits bytes)) deep told))

module _ (limits : LimitsView) (bytes : List ℕ) (source later : SourceView) (job : Job) (text : job ≢ Examples) where
  -- the line of a job on a text
  of_text : (E : Type 0) (line : Option ℕ) → IsLineOfFault line limits bytes source later → FindsLine {E = E} (Ok line) job limits bytes source later
  of_text E line is = by_job job text
    where
      by_job : (job : Job) → job ≢ Examples → FindsLine {E = E} (Ok line) job limits bytes source later
      by_job Render other = is
      by_job Tree other = is
      by_job TreeJson other = is
      by_job Rewrite other = is
      by_job Examples other = absurd (other refl)

  -- the bytes have no outline
  pub found_before : (E : Type 0) (kept : List ℕ) (fault : Fault) (r : Result (Option ℕ) E) → Refuses fault limits bytes source later → (IsInText fault → kept ≡ bytes)
      → IfOk r (λ line. line ≡ line_of_fault limits.rules kept fault) → OnOk r (fault ≢ NoMemory) → OnErr r (fault ≢ ReadFailed)
      → FindsLine r job limits bytes source later
  found_before E kept fault (Ok line) refuses same is known memory = of_text E line (Some fault, ends fault refuses known, is ∙ moved fault refuses same)
    where
      ends : (fault : Fault) → Refuses fault limits bytes source later → fault ≢ NoMemory → EndsWith (Some fault) limits bytes source later
      ends (NotUtf8 at) h known = h
      ends (TooLong at) h known = h
      ends (BlocksTooDeep line) h known = h
      ends (InlinesTooDeep leaf) h known = h
      ends NoMemory h known = known refl
      ends ReadFailed h known = h
      ends (WriteFailed written) h known = h
      ends (Unspellable why) h known = h
      ends (BadExampleFile line) h known = h
      ends (ExampleDiffers number) h known = h

      moved : (fault : Fault) → Refuses fault limits bytes source later → (IsInText fault → kept ≡ bytes)
          → line_of_fault limits.rules kept fault ≡ line_of_fault limits.rules bytes fault
      moved (NotUtf8 at) h same = ap (λ t. line_of_fault limits.rules t (NotUtf8 at)) (same tt)
      moved (TooLong at) h same = ap (λ t. line_of_fault limits.rules t (TooLong at)) (same tt)
      moved (BlocksTooDeep line) h same = refl
      moved (InlinesTooDeep leaf) h same = ap (λ t. line_of_fault limits.rules t (InlinesTooDeep leaf)) (same tt)
      moved NoMemory h same = refl
      moved ReadFailed h same = refl
      moved (WriteFailed written) h same = refl
      moved (Unspellable why) h same = refl
      moved (BadExampleFile line) h same = refl
      moved (ExampleDiffers number) h same = refl
  found_before E kept fault (Err e) refuses same is known memory = failed fault refuses memory
    where
      failed : (fault : Fault) → Refuses fault limits bytes source later → fault ≢ ReadFailed → later.failed ≡ source.failed
      failed (NotUtf8 at) h other = h.same
      failed (TooLong at) h other = h.same
      failed (BlocksTooDeep line) h other = h.same
      failed (InlinesTooDeep leaf) h other = h.same
      failed NoMemory h other = h
      failed ReadFailed h other = absurd (other refl)
      failed (WriteFailed written) h other = absurd h
      failed (Unspellable why) h other = absurd h
      failed (BadExampleFile line) h other = absurd h
      failed (ExampleDiffers number) h other = absurd h

  -- the bytes have one
  pub found_in_outline : (E : Type 0) (outline : Outline) (r : Result (Option ℕ) E) → later.failed ≡ source.failed → IsAtEnd later.remaining → IsOutline limits bytes outline
      → IfOk r (λ line. line ≡ option_and_then (line_of_fault limits.rules bytes) (fault_of limits bytes)) → FindsLine r job limits bytes source later
  found_in_outline E outline (Err e) same at_end is found = same
  found_in_outline E outline (Ok line) same at_end is found = of_text E line (by_leaf (leaf_deep limits bytes) is.left)
    where
      by_leaf : (leaf : Option ℕ) → fault_of limits bytes ≡ option_map InlinesTooDeep leaf → IsLineOfFault line limits bytes source later
      by_leaf None left = (
        None,
        record { same = same; at_end = at_end; sound = left },
        found ∙ ap (option_and_then (line_of_fault limits.rules bytes)) left,
      )
      by_leaf (Some leaf) left = (
        Some (InlinesTooDeep leaf),
        record { same = same; told = inr (is.sound, at_end, left) },
        found ∙ ap (option_and_then (line_of_fault limits.rules bytes)) left,
      )
