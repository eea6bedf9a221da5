use Rattle.std.proofs.Common.{◌++◌, flat_map}
use Rattle.std.specs.List.{concat}
use Rattle.cm_html.proofs.lemmas.WritingLemmas.{finished}
use Rattle.cm_html.proofs.writing.write_pages.Goals as goal

pub returns-in-Ok : goal.returns-in-Ok
returns-in-Ok g c =
    finished c.args.out.now c.add_all.new.out (flat_map g.K.Phrases.written (concat c.args.full.now ++ c.args.last.now)) _ _ _ c.requires.waiting c.requires.written c.in-Ok.ensures
    c.finish.result c.finish.ensures
