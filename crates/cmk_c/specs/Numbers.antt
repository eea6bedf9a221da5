-- Faults as numbers.
use Rattle.std.specs.List.{list_all}
use Rattle.std.specs.Prelude.{◌≡◌, ◌==◌, ◌&&◌, not, true, ℕ, List, codes, ◌++◌, Option, Some, None, option_map, if◌then◌else◌}
use Rattle.cm_source.specs.declared.why.Why.{Why}
use Rattle.cm_source.specs.declared.why.Why.TheVariants as whys
use Rattle.cm_tool.specs.declared.fault.Fault.{Fault}
use Rattle.cm_tool.specs.declared.fault.Fault.TheVariants.{NotUtf8, TooLong, BlocksTooDeep, InlinesTooDeep, NoMemory, ReadFailed, WriteFailed, Unspellable, BadExampleFile, ExampleDiffers}
use Rattle.cm_tool.specs.FaultLines.{fault_text, line_of}
use Rattle.cmk_c.specs.declared.message.Message.{Message}
use Rattle.cmk_c.specs.declared.message.Message.TheVariants.{Refused, OutOfRange, NoRoom}

-- the number of a fault, which its line has after `F`
abbrev pub number_of : Fault → ℕ
number_of (NotUtf8 at) = 1
number_of (TooLong at) = 2
number_of (BlocksTooDeep line) = 3
number_of (InlinesTooDeep leaf) = 4
number_of NoMemory = 5
number_of ReadFailed = 6
number_of (WriteFailed written) = 7
number_of (Unspellable why) = 8
number_of (BadExampleFile line) = 9
number_of (ExampleDiffers number) = 10

-- the number of a reason why a tree can't be spelled
abbrev pub reason_of : Why → ℕ
reason_of whys.Definition = 1
reason_of whys.Nul = 2
reason_of whys.Shape = 3
reason_of whys.Text = 4
reason_of whys.EmphasisNested = 5
reason_of whys.EmphasisTouching = 6
reason_of whys.EmphasisEdge = 7
reason_of whys.CodeSpan = 8
reason_of whys.RawHtml = 9
reason_of whys.LinkInLink = 10
reason_of whys.LineBreak = 11
reason_of whys.CodeText = 12
reason_of whys.HtmlBlock = 13
reason_of whys.AdjacentLists = 14
reason_of whys.ItemBeginsWithList = 15
reason_of whys.Looseness = 16
reason_of whys.StrikeOff = 17
reason_of whys.AddressOff = 18
reason_of whys.InfoOff = 19

-- where a fault is: at a byte, on a line or in a leaf; or the number of a reason
abbrev pub place_of : Fault → ℕ
place_of (NotUtf8 at) = at
place_of (TooLong at) = at
place_of (BlocksTooDeep line) = line
place_of (InlinesTooDeep leaf) = leaf
place_of NoMemory = 0
place_of ReadFailed = 0
place_of (WriteFailed written) = written
place_of (Unspellable why) = reason_of why
place_of (BadExampleFile line) = line
place_of (ExampleDiffers number) = number

-- the reason with this number
abbrev pub why_numbered : ℕ → Option Why
why_numbered number =
    if number == 1 then Some whys.Definition
    else if number == 2 then Some whys.Nul
    else if number == 3 then Some whys.Shape
    else if number == 4 then Some whys.Text
    else if number == 5 then Some whys.EmphasisNested
    else if number == 6 then Some whys.EmphasisTouching
    else if number == 7 then Some whys.EmphasisEdge
    else if number == 8 then Some whys.CodeSpan
    else if number == 9 then Some whys.RawHtml
    else if number == 10 then Some whys.LinkInLink
    else if number == 11 then Some whys.LineBreak
    else if number == 12 then Some whys.CodeText
    else if number == 13 then Some whys.HtmlBlock
    else if number == 14 then Some whys.AdjacentLists
    else if number == 15 then Some whys.ItemBeginsWithList
    else if number == 16 then Some whys.Looseness
    else if number == 17 then Some whys.StrikeOff
    else if number == 18 then Some whys.AddressOff
    else if number == 19 then Some whys.InfoOff
    else None

-- the fault with this number at this place
abbrev pub fault_numbered : (number place : ℕ) → Option Fault
fault_numbered number place =
    if number == 1 then Some (NotUtf8 place)
    else if number == 2 then Some (TooLong place)
    else if number == 3 then Some (BlocksTooDeep place)
    else if number == 4 then Some (InlinesTooDeep place)
    else if number == 5 then Some NoMemory
    else if number == 6 then Some ReadFailed
    else if number == 7 then Some (WriteFailed place)
    else if number == 8 then option_map Unspellable (why_numbered place)
    else if number == 9 then Some (BadExampleFile place)
    else if number == 10 then Some (ExampleDiffers place)
    else None

-- what a number and a place report: a fault, a number out of its range, or too little room
abbrev pub message_of : (number place : ℕ) → Option Message
message_of number place =
    if number == 11 then Some OutOfRange
    else if number == 12 then Some NoRoom
    else option_map Refused (fault_numbered number place)

-- the line of a message, as the program prints it
abbrev pub message_line : Message → List ℕ
message_line (Refused fault) = line_of (fault_text fault)
message_line OutOfRange = line_of (codes "a number is out of its range")
message_line NoRoom = line_of (codes "the room is too small")

-- one line: a line feed at its end and nowhere else, and no NUL
abbrev pub IsLine : List ℕ → Type 0
IsLine bytes = (text : List ℕ) × ((bytes ≡ text ++ codes "\n") × (list_all (λ b. not (b == 0) && not (b == 10)) text ≡ true))

-- The number and the place of a fault report just this fault.
abbrev pub FaultsHaveMessages : Type 0
FaultsHaveMessages = (fault : Fault) → message_of (number_of fault) (place_of fault) ≡ Some (Refused fault)
