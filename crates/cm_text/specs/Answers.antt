-- What calls return after a fault.
use Rattle.std.specs.Prelude.{Option, Some, None, Result, Ok, Err}

-- the fault, or `Ok` if there was none
abbrev pub answer_after : {F : Type 0} → Option F → Result (Unit {0}) F
answer_after None = Ok tt
answer_after (Some fault) = Err fault
