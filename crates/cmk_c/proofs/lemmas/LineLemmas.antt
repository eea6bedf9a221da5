-- The lines of messages have no NUL, and no line feed but at their end.
use Rattle.std.specs.Prelude.{◌==◌, ◌&&◌, not, nat_lt, codes, if◌then◌else◌}
use Rattle.std.specs.List.{list_all}
use Rattle.std.specs.Fmt.{decimal, digits, digits_onto, digit_glyph}
use Rattle.std.proofs.Common.{◌≡◌, ◌∙◌, ◌≤◌, ◌+◌, ◌/◌, ◌%◌, ℕ, zero, suc, Bool, true, false, List, [], ◌∷◌, ◌++◌, refl, ap, arith}
use Rattle.std.proofs.lemmas.Bool.Decides.{nat_tests}
use Rattle.std.proofs.lemmas.List.Folds.{list_all-append}
use Rattle.cm_source.specs.declared.why.Why.{Why}
use Rattle.cm_source.specs.declared.why.Why.TheVariants as why
use Rattle.cm_source.specs.Reasons.{reason_text}
use Rattle.cm_tool.specs.FaultLines.{fault_text, line_of}
use Rattle.cm_tool.specs.declared.fault.Fault.{Fault}
use Rattle.cm_tool.specs.declared.fault.Fault.TheVariants.{NotUtf8, TooLong, BlocksTooDeep, InlinesTooDeep, NoMemory, ReadFailed, WriteFailed, Unspellable, BadExampleFile, ExampleDiffers}
use Rattle.cmk_c.specs.declared.message.Message.{Message}
use Rattle.cmk_c.specs.declared.message.Message.TheVariants.{Refused, OutOfRange, NoRoom}
use Rattle.cmk_c.specs.Numbers.{IsLine, message_line}

abbrev plain : ℕ → Bool
plain b = not (b == 0) && not (b == 10)

abbrev ArePlain : List ℕ → Type 0
ArePlain text = list_all plain text ≡ true

from-digit : (b : ℕ) → 48 ≤ b → plain b ≡ true
from-digit b high = grind (arith, nat_tests, high)

glyph : (d : ℕ) → plain (digit_glyph false d) ≡ true
glyph d = pick (nat_lt d 10)
  where
    pick : (low : Bool) → plain (if low then 48 + d else 87 + d) ≡ true
    pick true = from-digit (48 + d) (omega arith)
    pick false = from-digit (87 + d) (omega arith)

together : (one other : List ℕ) → ArePlain one → ArePlain other → ArePlain (one ++ other)
together one other first second = list_all-append plain one other ∙ ap (λ b. b && list_all plain other) first ∙ second

more : (b : ℕ) (text : List ℕ) → plain b ≡ true → ArePlain text → ArePlain (b ∷ text)
more b text first others = ap (λ a. a && list_all plain text) first ∙ others

one-of : (ends : Bool) (one other : List ℕ) → ArePlain one → ArePlain other → ArePlain (if ends then one else other)
one-of true one other first second = first
one-of false one other first second = second

number-onto : (k n : ℕ) (beyond : List ℕ) → ArePlain beyond → ArePlain (digits_onto k 10 false n beyond)
number-onto zero n beyond are = are
number-onto (suc k) n beyond are =
    let last = digit_glyph false (n % 10) ∷ beyond in
    let fine = more (digit_glyph false (n % 10)) beyond (glyph (n % 10)) are in
    one-of (n / 10 == 0) last (digits_onto k 10 false (n / 10) last) fine (number-onto k (n / 10) last fine)

number : (n : ℕ) → ArePlain (decimal n)
unfolding digits
number n = number-onto 64 n [] refl

reason : (r : Why) → ArePlain (reason_text r)
reason why.Definition = refl
reason why.Nul = refl
reason why.Shape = refl
reason why.Text = refl
reason why.EmphasisNested = refl
reason why.EmphasisTouching = refl
reason why.EmphasisEdge = refl
reason why.CodeSpan = refl
reason why.RawHtml = refl
reason why.LinkInLink = refl
reason why.LineBreak = refl
reason why.CodeText = refl
reason why.HtmlBlock = refl
reason why.AdjacentLists = refl
reason why.ItemBeginsWithList = refl
reason why.Looseness = refl
reason why.StrikeOff = refl
reason why.AddressOff = refl
reason why.InfoOff = refl

with-number : (front : List ℕ) (n : ℕ) → ArePlain front → ArePlain (front ++ decimal n)
with-number front n are = together front (decimal n) are (number n)

fault : (f : Fault) → ArePlain (fault_text f)
fault (NotUtf8 at) = with-number (codes "F1 not UTF-8 at byte ") at refl
fault (TooLong at) = with-number (codes "F2 input too long at byte ") at refl
fault (BlocksTooDeep line) = with-number (codes "F3 blocks too deep on line ") line refl
fault (InlinesTooDeep leaf) = with-number (codes "F4 inlines too deep in leaf ") leaf refl
fault NoMemory = refl
fault ReadFailed = refl
fault (WriteFailed written) = together (codes "F7 write failed after " ++ decimal written) (codes " bytes") (with-number (codes "F7 write failed after ") written refl) refl
fault (Unspellable r) = together (codes "F8 cannot be spelled: ") (reason_text r) refl (reason r)
fault (BadExampleFile line) = with-number (codes "F9 bad example file at line ") line refl
fault (ExampleDiffers n) = together (codes "F10 example " ++ decimal n) (codes " differs") (with-number (codes "F10 example ") n refl) refl

line : (text : List ℕ) → ArePlain text → IsLine (line_of text)
line text are = (codes "cmk: " ++ text, (refl, together (codes "cmk: ") text refl are))

pub is_line : (message : Message) → IsLine (message_line message)
is_line (Refused f) = line (fault_text f) (fault f)
is_line OutOfRange = line (codes "a number is out of its range") refl
is_line NoRoom = line (codes "the room is too small") refl
