-- The bytes that are written as references, or by an escape between quotes.
use Rattle.std.proofs.Common.{◌≡◌, ℕ, ◌<◌, true, None, List, arith}
use Rattle.std.specs.List.{position}
use Rattle.cm_html.specs.Escape.{escape_byte, escape}
use Rattle.json.specs.Print as json
use Rattle.cm_html.specs.steps.Bytes.{is_escaped, has_escape, has_json_escape}
use Rattle.cm_html.specs.Listing.{quote_byte}
use Rattle.cm_text.proofs.lemmas.ReplacedLemmas.{Keeps, replaced-none}

-- any other byte stays unchanged
pub escape_byte-plain : Keeps is_escaped escape_byte
escape_byte-plain b plain = grind arith

pub quote_byte-plain : Keeps has_escape quote_byte
quote_byte-plain b plain = grind arith

pub json_byte-plain : Keeps has_json_escape json.escape_byte
unfolding json.escape_byte
json_byte-plain b plain = grind arith

-- they are ASCII
pub escaped_ascii : (b : ℕ) → is_escaped b ≡ true → b < 128
escaped_ascii b escaped = grind arith

pub has_escape_ascii : (b : ℕ) → has_escape b ≡ true → b < 128
has_escape_ascii b quoted = grind arith

pub has_json_escape_ascii : (b : ℕ) → has_json_escape b ≡ true → b < 128
has_json_escape_ascii b escaped = grind arith

pub escape-none : (bs : List ℕ) → position is_escaped bs ≡ None → escape bs ≡ bs
escape-none bs none = replaced-none is_escaped escape_byte escape_byte-plain bs none
