-- When the bytes so far settle a fault of a text: it has this fault however it continues.
use Rattle.std.specs.Prelude.{◌≡◌, ◌↔◌, ℕ, ◌<◌, List, ◌++◌, Some, All}
use Rattle.cm_text.specs.declared.fault.TextFault.{TextFault}
use Rattle.cm_text.specs.Faults.{settled_fault, text_fault}

-- each number is below 256
abbrev pub AreBytes : List ℕ → Type 0
AreBytes bytes = All (λ b. b < 256) bytes

-- every text that starts with these bytes has the fault
abbrev pub Settles : ℕ → List ℕ → TextFault → Type 0
Settles limit bytes fault = (more : List ℕ) → AreBytes more → text_fault limit (bytes ++ more) ≡ Some fault

-- `settled_fault` is the fault that the bytes settle, or none if they settle none
abbrev pub SettledIsTold : Type 0
SettledIsTold = (limit : ℕ) (bytes : List ℕ) (fault : TextFault)
    → (settled_fault limit bytes ≡ Some fault) ↔ Settles limit bytes fault
