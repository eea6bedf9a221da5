use Rattle.cm_text.proofs.looks.Rest.find.Goals as goal

pub returns-in_default-clause-found : goal.returns-in_default-clause-found
returns-in_default-clause-found g c = rw (← c.self.view_is) c.in_default.ensures
