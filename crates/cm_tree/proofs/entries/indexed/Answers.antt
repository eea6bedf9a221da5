use Rattle.std.proofs.Common.{◌∙◌, sym, ap, arith}
use Rattle.cm_tree.specs.steps.LabelIndex.{hash_of}
use Rattle.cm_tree.specs.steps.Entries.{labels_in}
use Rattle.cm_tree.proofs.lemmas.IndexLemmas.{index-more}
use Rattle.cm_tree.proofs.lemmas.EntryLemmas.{read-entry, read-label, count}
use Rattle.cm_tree.proofs.entries.indexed.Goals as goal

pub label-requires : goal.label-requires
label-requires c = (read-entry c.args.texts.now c.args.entries.now c.loop-at.at c.index-entries-at.result c.requires.entries (omega arith) c.index-entries-at.is).kept

pub put-requires : goal.put-requires
put-requires c =
    (read-entry c.args.texts.now c.args.entries.now c.loop-at.at c.index-entries-at.result c.requires.entries (omega arith) c.index-entries-at.is).hash
    ∙ ap hash_of (sym c.label.ensures)

pub loop-at-preserved : goal.loop-at-preserved
loop-at-preserved c =
    let all = count c.args.texts.now c.args.entries.now in
    index-more c.loop-at.index c.put.new.self (labels_in c.args.texts.now c.args.entries.now) c.loop-at.at c.label.result.now (omega arith) c.requires.distinct
    (c.label.ensures ∙ sym (read-label c.args.texts.now c.args.entries.now c.loop-at.at c.index-entries-at.result (omega arith) c.index-entries-at.is))
    c.loop-at.invariant c.in_ok-put.field-0 c.in_ok-put.ensures.added c.in_ok-put.ensures.there
