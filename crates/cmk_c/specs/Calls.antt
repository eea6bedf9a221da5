-- What a call from C returns.
use Rattle.std.specs.Prelude.{◌≡◌, ◌⊎◌, ◌==◌, not, Bool, ℕ, suc, ◌^◌, ◌<◌, ◌≤◌, List, [], ◌∷◌, ◌++◌, length, drop, Option, Some, None, Result, Ok, Err, ⊤, option_map, if◌then◌else◌, Vec}
use Rattle.std.specs.Option.{option_or}
use Rattle.std.specs.declared.alloc.Global.{Global}
use Rattle.cm_text.specs.Rules.{Rules}
use Rattle.cm_text.specs.Limits.{LimitsView, limits_for}
use Rattle.cm_source.specs.Refusals.{refusal_of}
use Rattle.cm_tool.specs.declared.fault.Fault.{Fault}
use Rattle.cm_tool.specs.declared.fault.Fault.TheVariants.{NoMemory, Unspellable}
use Rattle.cm_tool.specs.Faults.{fault_of}
use Rattle.cm_tool.specs.Rewriting.{kept_tree}
use Rattle.cmk_c.specs.declared.options.Options.{Options}
use Rattle.cmk_c.specs.declared.message.Message.{Message}
use Rattle.cmk_c.specs.Numbers.{number_of, place_of, message_line, IsLine}

-- the number, or the standard one in place of 0
abbrev pub or_standard : ℕ → ℕ → ℕ
or_standard number standard = if number == 0 then standard else number

-- a rule is on if its byte isn't 0
abbrev pub is_on : ℕ → Bool
is_on byte = not (byte == 0)

-- the rules of the options
abbrev pub rules_asked : Options → Rules
rules_asked options = record {
  older = is_on options.older;
  strike = is_on options.strike;
  raw_html = not (is_on options.no_html);
  any_address = not (is_on options.web_links);
}

-- limits with these rules
abbrev pub with_rules : Rules → LimitsView → LimitsView
with_rules rules limits = record { bytes = limits.bytes; blocks = limits.blocks; inlines = limits.inlines; rules = rules }

-- the limits of the options, with the standard number in place of 0, or none if a number is out of its range
abbrev pub limits_asked : Options → Option LimitsView
limits_asked options =
    option_map (with_rules (rules_asked options))
    (limits_for (or_standard options.bytes (2 ^ 28)) (or_standard options.blocks 100) (or_standard options.inlines 100))

-- why a text isn't rewritten: its fault, or else the reason why its tree can't be spelled
abbrev pub rewriting_fault : LimitsView → List ℕ → Option Fault
rewriting_fault limits text = option_or (fault_of limits text) (option_map Unspellable (refusal_of limits.rules (kept_tree limits.rules text)))

-- the bytes followed by a NUL
abbrev pub ended : List ℕ → List ℕ
ended bytes = bytes ++ 0 ∷ []

-- the output followed by a NUL, or the fault
abbrev pub Gives : Option Fault → List ℕ → Result (Vec ℕ Global) Fault → Type 0
Gives fault output (Ok made) = (fault ≡ None) × (made.items ≡ ended output)
Gives fault output (Err NoMemory) = ⊤
Gives fault output (Err told) = fault ≡ Some told

-- What a call returns: its number, the place of a fault, the length of the output, and its bytes, or those in the caller's room.
pub record Answer : Type 0 where
  pub number : ℕ
  pub place : ℕ
  pub count : ℕ
  pub bytes : List ℕ

-- there is no fault, and these are all bytes of the output
pub record IsDone (fault : Option Fault) (output : List ℕ) (answer : Answer) : Type 0 where
  pub sound : fault ≡ None
  pub number : answer.number ≡ 0
  pub place : answer.place ≡ 0
  pub count : answer.count ≡ length output
  pub bytes : answer.bytes ≡ ended output

-- there is this fault, and no output
pub record IsRefused (fault : Option Fault) (left : List ℕ) (answer : Answer) : Type 0 where
  pub told : Fault
  pub is : fault ≡ Some told
  pub number : answer.number ≡ number_of told
  pub place : answer.place ≡ place_of told
  pub count : answer.count ≡ 0
  pub kept : answer.bytes ≡ left

-- there is no output for another reason, which has this number
pub record IsEmpty (cause : ℕ) (left : List ℕ) (answer : Answer) : Type 0 where
  pub number : answer.number ≡ cause
  pub place : answer.place ≡ 0
  pub count : answer.count ≡ 0
  pub kept : answer.bytes ≡ left

-- the output, or the fault, or exhausted memory
abbrev pub AnswersBy : Option Fault → List ℕ → Answer → Type 0
AnswersBy fault output answer = IsDone fault output answer ⊎ (IsRefused fault [] answer ⊎ IsEmpty 5 [] answer)

-- What a call returns for a text: all bytes of the output and a NUL, with 0; or the text's fault and no bytes; or 5 if memory ran
-- out; or 11 if the options are out of their range.
abbrev pub Answers : (fault : LimitsView → List ℕ → Option Fault) → (output : Rules → List ℕ → List ℕ) → Option LimitsView → List ℕ → Answer → Type 0
Answers fault output None text answer = IsEmpty 11 [] answer
Answers fault output (Some limits) text answer = AnswersBy (fault limits text) (output limits.rules text) answer

-- the output and a NUL are at the start of the room, and the other bytes of the room are as they were
pub record IsFilled (output room : List ℕ) (answer : Answer) : Type 0 where
  pub number : answer.number ≡ 0
  pub place : answer.place ≡ 0
  pub count : answer.count ≡ length output
  pub filled : answer.bytes ≡ ended output ++ drop (suc (length output)) room
  pub fits : length output < length room

-- there is no room for the output and a NUL; its length is reported, and the room is as it was
pub record IsShort (output room : List ℕ) (answer : Answer) : Type 0 where
  pub short : length room ≤ length output
  pub number : answer.number ≡ 12
  pub place : answer.place ≡ 0
  pub count : answer.count ≡ length output
  pub kept : answer.bytes ≡ room

-- one of the two
abbrev pub IsPut : (output room : List ℕ) → Answer → Type 0
IsPut output room answer = IsFilled output room answer ⊎ IsShort output room answer

-- the output in the room, or its length; or the fault, or exhausted memory
abbrev pub FillsBy : Option Fault → List ℕ → (room : List ℕ) → Answer → Type 0
FillsBy fault output room answer =
    ((fault ≡ None) × IsPut output room answer) ⊎ (IsRefused fault room answer ⊎ IsEmpty 5 room answer)

-- What a call returns that puts its output into the caller's room: the output and a NUL, with 0; or its length and 12 if the room
-- is too small; or the text's fault; or 5 if memory ran out; or 11 if the options are out of their range. The rest of the room is
-- as it was.
abbrev pub Fills : (fault : LimitsView → List ℕ → Option Fault) → (output : Rules → List ℕ → List ℕ) → Option LimitsView → List ℕ → (room : List ℕ) → Answer → Type 0
Fills fault output None text room answer = IsEmpty 11 room answer
Fills fault output (Some limits) text room answer = FillsBy (fault limits text) (output limits.rules text) room answer

-- The line of a message, which is one line, is in the room, or its length is reported. If there is no message the number is 11.
abbrev pub TellsLine : Option Message → (room : List ℕ) → Answer → Type 0
TellsLine None room answer = IsEmpty 11 room answer
TellsLine (Some message) room answer = IsPut (message_line message) room answer × IsLine (message_line message)
