use Rattle.cm_text.proofs.lemmas.ViewLemmas.{spaces_are_columns, spaces_are_stripped}
use Rattle.cm_text.proofs.laws.spaces_are_columns.Goals as goal

pub returns-clause-indentation : goal.returns-clause-indentation
returns-clause-indentation c = spaces_are_columns

pub returns-clause-stripped : goal.returns-clause-stripped
returns-clause-stripped c = spaces_are_stripped
