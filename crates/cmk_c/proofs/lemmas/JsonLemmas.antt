-- What a call that makes JSON made is JSON.
use Rattle.std.proofs.Common.{◌≡◌, ℕ, List, [], refl, sym, inl, inr, ◌∙◌, Some}
use Rattle.std.specs.Prelude.{Option, Ok, Err, Result, Vec, OnOk}
use Rattle.std.specs.declared.alloc.Global.{Global}
use Rattle.cm_tool.specs.declared.fault.Fault.{Fault}
use Rattle.cm_tool.specs.declared.fault.Fault.TheVariants.{NotUtf8, TooLong, BlocksTooDeep, InlinesTooDeep, NoMemory, ReadFailed, WriteFailed, Unspellable, BadExampleFile, ExampleDiffers}
use Rattle.cmk_c.specs.Calls.{Answer, AnswersBy, Gives}
use Rattle.cmk_c.specs.Numbers.{number_of}

-- what holds, holds where there is a result
pub on_made : {V E : Type 0} (Holds : Type 0) → Holds → (made : Result V E) → OnOk made Holds
on_made Holds holds (Ok v) = holds
on_made Holds holds (Err e) = tt

-- a fault has a number of its own
no_zero : (fault : Fault) → number_of fault ≡ 0 → ⊥
no_zero (NotUtf8 at) is = cc
no_zero (TooLong at) is = cc
no_zero (BlocksTooDeep line) is = cc
no_zero (InlinesTooDeep leaf) is = cc
no_zero NoMemory is = cc
no_zero ReadFailed is = cc
no_zero (WriteFailed written) is = cc
no_zero (Unspellable why) is = cc
no_zero (BadExampleFile line) is = cc
no_zero (ExampleDiffers number) is = cc

gives_itself : (fault : Fault) → Gives (Some fault) [] (Err fault)
gives_itself (NotUtf8 at) = refl
gives_itself (TooLong at) = refl
gives_itself (BlocksTooDeep line) = refl
gives_itself (InlinesTooDeep leaf) = refl
gives_itself NoMemory = tt
gives_itself ReadFailed = refl
gives_itself (WriteFailed written) = refl
gives_itself (Unspellable why) = refl
gives_itself (BadExampleFile line) = refl
gives_itself (ExampleDiffers number) = refl

refused_by_a_number : (fault : Fault) (answer : Answer) → AnswersBy (Some fault) [] answer → answer.number ≡ 0 → ⊥
refused_by_a_number fault answer (inl done) zero = let sound = done.sound in cc
refused_by_a_number fault answer (inr (inl refused)) zero = no_zero refused.told (sym refused.number ∙ zero)
refused_by_a_number fault answer (inr (inr empty)) zero = let five = sym empty.number ∙ zero in cc

-- what holds of what was made holds where the call returns 0
pub made_so : (Holds : Type 0) (made : Result (Vec ℕ Global) Fault) (answer : Answer)
    → ((fault : Option Fault) (bytes : List ℕ) → Gives fault bytes made → AnswersBy fault bytes answer) → OnOk made Holds → answer.number ≡ 0 → Holds
made_so Holds (Ok v) answer puts holds zero = holds
made_so Holds (Err fault) answer puts holds zero = absurd (refused_by_a_number fault answer (puts (Some fault) [] (gives_itself fault)) zero)
