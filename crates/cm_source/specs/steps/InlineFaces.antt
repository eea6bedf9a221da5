-- The faces of inlines, as the code has them: what an inline shows to those next to it, and its position.
use Rattle.std.specs.Prelude.{Option, option_map, reverse}
use Rattle.cm_scan.specs.inlines.Atoms.{first_character, last_character}
use Rattle.cm_source.specs.InlineRefusals as refusals
use Rattle.cm_source.specs.declared.inline_refusals.faces.Face.{Face}
use Rattle.cm_source.specs.declared.inline_refusals.faces.Face.TheVariants.{Text, Code, Break, Emphasis, Other}
use Rattle.cm_source.specs.declared.inline_refusals.faces.Place.{Place}

-- the face of the definitions, which has the first and the last character of a text
abbrev pub shown : Face → refusals.Face
shown (Text text) = refusals.TextFace (first_character text.now) (last_character (reverse text.now))
shown Code = refusals.CodeFace
shown Break = refusals.BreakFace
shown Emphasis = refusals.EmphasisFace
shown Other = refusals.OtherFace

-- that of what is there, if anything is
abbrev pub seen : Option Face → Option refusals.Face
seen beside = option_map shown beside

-- the place of the definitions
abbrev pub place_of : Place → refusals.Place
place_of place = record { heading = place.heading; opens_paragraph = place.opens_paragraph; in_opening_link = place.in_opening_link }
