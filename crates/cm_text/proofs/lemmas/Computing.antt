-- Computing the definitions at literals.
use Rattle.std.specs.Str.{chars}
use Rattle.caseless.proofs.Computing.{caseless}
use Rattle.cm_text.specs.Trims.{skip, trim_end_by}
use Rattle.cm_text.specs.Labels.{case_fold, settle_gaps, fold_label}
use Rattle.ucd_category.proofs.Computing.{ucd_category}
use Rattle.cm_text.specs.Characters.{is_punct_by, is_space}
use Rattle.cm_text.specs.NamedReferences.{names}
use Rattle.cm_text.specs.References.{after_word, reference}
use Rattle.cm_text.specs.Unescaping.{special, unescape_after}
use lib.Utf8.{encode}

-- `unfolding label_folding` lets `refl` compute what a short label is compared as
unfoldable pub label_folding : Unit {0}
unfolding caseless chars encode case_fold skip trim_end_by settle_gaps fold_label
label_folding = tt

-- `unfolding character_kinds` lets it compute of which kind a character is
unfoldable pub character_kinds : Unit {0}
unfolding ucd_category is_punct_by is_space
character_kinds = tt

-- `unfolding reading_references` lets it compute references, and a text with them resolved
unfoldable pub reading_references : Unit {0}
unfolding names after_word reference special unescape_after encode
reading_references = tt
