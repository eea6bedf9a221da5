use Rattle.cm_scan.proofs.lemmas.cuts.CharacterPlaces.{places_part_characters}
use Rattle.cm_scan.proofs.lemmas.cuts.NestedPlaces.{places_are_sources, places_are_within, places_are_nested}
use Rattle.cm_scan.proofs.cut_laws.places_are_nested.Goals as goal

pub returns-clause-sources : goal.returns-clause-sources
returns-clause-sources c = places_are_sources

pub returns-clause-within : goal.returns-clause-within
returns-clause-within c = places_are_within

pub returns-clause-nested : goal.returns-clause-nested
returns-clause-nested c = places_are_nested

pub returns-clause-characters : goal.returns-clause-characters
returns-clause-characters c = places_part_characters
