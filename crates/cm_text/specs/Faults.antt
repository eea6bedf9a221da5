-- The faults of a text: bytes that aren't UTF-8, and bytes past the limit.
use Rattle.std.specs.Prelude.{ℕ, nat_lt, if◌then◌else◌, List, length, take, drop, Option, Some, None, is_some}
use Rattle.std.specs.Str.Lossy.{utf8_valid_len, utf8_error_len}
use Rattle.cm_text.specs.declared.fault.TextFault.{TextFault}
use Rattle.cm_text.specs.declared.fault.TextFault.TheVariants.{NotUtf8, TooLong}

-- the bytes after the longest prefix that is UTF-8
abbrev pub left_of : List ℕ → List ℕ
left_of bytes = drop (utf8_valid_len bytes) bytes

-- the length of the longest prefix of the bytes within the limit that is UTF-8
abbrev pub valid_len : ℕ → List ℕ → ℕ
valid_len limit bytes = utf8_valid_len (take limit bytes)

-- the bytes within the limit after that prefix
abbrev pub after_valid : ℕ → List ℕ → List ℕ
after_valid limit bytes = left_of (take limit bytes)

-- The fault that the bytes have however they continue: bytes that aren't UTF-8 within the limit, or else a byte
-- past the limit.
abbrev pub settled_fault : ℕ → List ℕ → Option TextFault
settled_fault limit bytes =
    if is_some (utf8_error_len (after_valid limit bytes)) then Some (NotUtf8 (valid_len limit bytes))
    else (if nat_lt limit (length bytes) then Some (TooLong limit) else None)

-- The fault of the bytes if they end here: the same, or a character that is cut short.
abbrev pub text_fault : ℕ → List ℕ → Option TextFault
text_fault limit bytes =
    if is_some (settled_fault limit bytes) then settled_fault limit bytes
    else (if nat_lt (valid_len limit bytes) (length bytes) then Some (NotUtf8 (valid_len limit bytes)) else None)
