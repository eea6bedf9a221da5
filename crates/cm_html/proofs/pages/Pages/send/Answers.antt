use Rattle.std.proofs.Common.{◌++◌, arith}
use Rattle.std.specs.List.{concat}
use Rattle.cm_html.proofs.lemmas.WritingLemmas.{no_longer}
use Rattle.cm_html.proofs.pages.Pages.send.Goals as goal

pub write_pages-requires-clause-counted : goal.write_pages-requires-clause-counted
write_pages-requires-clause-counted g c =
    omega (arith, no_longer g.K.Phrases.written c.args.longest c.requires.short (concat c.as_slice-full.result.now ++ c.self.inside.last), c.is_countable.ensures c.if-not-is_countable.false)
