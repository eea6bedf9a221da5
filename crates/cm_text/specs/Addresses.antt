-- The scheme of an address, and which addresses the rules follow.
use Rattle.std.specs.Prelude.{ℕ, Bool, true, ◌||◌, ◌==◌, Option, Some, None, List, [], ◌∷◌, codes, if◌then◌else◌}
use Rattle.std.specs.List.{list_any}
use Rattle.std.specs.Option.{option_map, option_map_or}
use Rattle.std.specs.Str.{str_eq_ignore_ascii_case, byte}
use Rattle.cm_text.specs.Rules.{Rules}

-- a byte at which a path, a query or a fragment starts
abbrev pub begins_a_part : ℕ → Bool
begins_a_part b = b == byte "/" || b == byte "?" || b == byte "#"

-- The scheme of an address is what comes before the first `:`, if no `/`, `?` or `#` comes before that.
unfoldable pub address_scheme : List ℕ → Option (List ℕ)
address_scheme [] = None
address_scheme (b ∷ bs) =
    if b == byte ":" then Some [] else if begins_a_part b then None else option_map (λ scheme. b ∷ scheme) (address_scheme bs)

-- the schemes of the web
abbrev pub web_schemes : List (List ℕ)
web_schemes = codes "http" ∷ codes "https" ∷ codes "mailto" ∷ []

-- a scheme of the web, in any case of its letters
abbrev pub is_web_scheme : List ℕ → Bool
is_web_scheme scheme = list_any (str_eq_ignore_ascii_case scheme) web_schemes

-- An address of the web has no scheme, or one of these.
abbrev pub is_web_address : List ℕ → Bool
is_web_address address = option_map_or is_web_scheme (address_scheme address) true

-- the rules follow the address: they follow every address, or this is one of the web
abbrev pub is_followed : Rules → List ℕ → Bool
is_followed rules address = rules.any_address || is_web_address address
