-- The names of entity references (CommonMark 0.31.2, 2.5 Entity and numeric character references), each with its code points. They are
-- those of HTML for the characters of Latin 1, for its five markup characters, for the Greek letters, and for a choice of others. Case counts.
use Rattle.std.specs.Prelude.{ℕ, ◌+◌, ◌==◌, List, [], ◌∷◌, ◌++◌, codes}
use Rattle.std.specs.List.{slice_split}
use Rattle.std.specs.Str.{byte}

-- names of characters that follow one another, from this number on
abbrev pub from_on : ℕ → List (List ℕ) → List (List ℕ × List ℕ)
from_on c [] = []
from_on c (name ∷ names) = (name, c ∷ []) ∷ from_on (c + 1) names

-- the same of names between single spaces
abbrev pub row : ℕ → List ℕ → List (List ℕ × List ℕ)
row c names = from_on c (slice_split (λ b. b == byte " ") names)

unfoldable pub names : List (List ℕ × List ℕ)
names =
    row 0x22 (codes "quot") ++ row 0x26 (codes "amp") ++ row 0x3C (codes "lt") ++ row 0x3E (codes "gt") ++ row 0x27 (codes "apos")
    ++ row 0xA0 (codes "nbsp iexcl cent pound curren yen brvbar sect uml copy ordf laquo not shy reg macr")
    ++ row 0xB0 (codes "deg plusmn sup2 sup3 acute micro para middot cedil sup1 ordm raquo frac14 frac12 frac34 iquest")
    ++ row 0xC0 (codes "Agrave Aacute Acirc Atilde Auml Aring AElig Ccedil Egrave Eacute Ecirc Euml Igrave Iacute Icirc Iuml")
    ++ row 0xD0 (codes "ETH Ntilde Ograve Oacute Ocirc Otilde Ouml times Oslash Ugrave Uacute Ucirc Uuml Yacute THORN szlig")
    ++ row 0xE0 (codes "agrave aacute acirc atilde auml aring aelig ccedil egrave eacute ecirc euml igrave iacute icirc iuml")
    ++ row 0xF0 (codes "eth ntilde ograve oacute ocirc otilde ouml divide oslash ugrave uacute ucirc uuml yacute thorn yuml")
    ++ row 0x10E (codes "Dcaron") ++ row 0x210B (codes "HilbertSpace") ++ row 0x2146 (codes "DifferentialD")
    ++ row 0x2232 (codes "ClockwiseContourIntegral") ++ ((codes "ngE", 0x2267 ∷ 0x338 ∷ []) ∷ [])
    ++ row 0x2013 (codes "ndash mdash") ++ row 0x2018 (codes "lsquo rsquo sbquo") ++ row 0x201C (codes "ldquo rdquo bdquo")
    ++ row 0x2020 (codes "dagger Dagger bull") ++ row 0x2026 (codes "hellip") ++ row 0x2030 (codes "permil")
    ++ row 0x2039 (codes "lsaquo rsaquo") ++ row 0x20AC (codes "euro") ++ row 0x2122 (codes "trade")
    ++ row 0x2190 (codes "larr uarr rarr darr harr")
    ++ row 0x391 (codes "Alpha Beta Gamma Delta Epsilon Zeta Eta Theta Iota Kappa Lambda Mu Nu Xi Omicron Pi Rho")
    ++ row 0x3A3 (codes "Sigma Tau Upsilon Phi Chi Psi Omega")
    ++ row 0x3B1 (codes "alpha beta gamma delta epsilon zeta eta theta iota kappa lambda mu nu xi omicron pi rho")
    ++ row 0x3C2 (codes "sigmaf sigma tau upsilon phi chi psi omega")
