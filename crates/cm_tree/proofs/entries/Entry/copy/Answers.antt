use Rattle.std.proofs.Common.{◌∙◌, ap, string_bytes}
use Rattle.cm_text.specs.Rules.{Rules}
use Rattle.cm_text.specs.Addresses.{is_followed}
use Rattle.cm_tree.proofs.lemmas.EntryLemmas.{made}
use Rattle.cm_tree.proofs.entries.Entry.copy.Goals as goal

pub returns-clause-made : goal.returns-clause-made
returns-clause-made c =
    made (string_bytes c.copy.new.texts) _ c.args.label.now (c.args.dest.now, c.args.title.now) c.in_ok-copy.ensures.kept c.requires
    (c.is_followed.ensures.followed ∙ ap (λ (rules : Rules). is_followed rules c.args.dest.now) c.with_any_address-web_alone.ensures)
