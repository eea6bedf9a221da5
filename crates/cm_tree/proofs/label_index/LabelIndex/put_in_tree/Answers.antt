use Rattle.std.proofs.Common.{◌≡◌, refl, sym, ap, subst, ◌∙◌, string_bytes, Some, None, IsSome, cond}
use Rattle.std.specs.Str.{bytes_eq}
use Rattle.std.proofs.lemmas.Map.Text.{btree_map_updates_text}
use Rattle.cm_tree.specs.declared.label_index.LabelIndex.{LabelIndex}
use Rattle.cm_tree.specs.steps.LabelIndex.{crowded}
use Rattle.cm_tree.proofs.lemmas.IndexLemmas.{put-there, put-back}
use Rattle.cm_tree.proofs.label_index.LabelIndex.put_in_tree.Goals as goal

pub returns-in-None-clause-added : goal.returns-in-None-clause-added
returns-in-None-clause-added c = λ _. record {
  absent = ap (crowded c.args.self.now) (sym c.in_ok-key.ensures.ok) ∙ sym c.in_ok-insert.ensures.old ∙ c.in-None.is;
  is = λ l. btree_map_updates_text (string_bytes c.in_ok-key.key) c.args.self.now.crowded c.insert.new.self (Some c.args.entry) c.in_ok-insert.ensures.updates l
      ∙ ap (λ b. cond (bytes_eq b l) (Some c.args.entry) (crowded c.args.self.now l)) c.in_ok-key.ensures.ok;
}

pub returns-in_ok-insert-in-Some-clause-there : goal.returns-in_ok-insert-in-Some-clause-there
returns-in_ok-insert-in-Some-clause-there c = λ _.
    let old = c.args.self.now in
    let once : LabelIndex = record { slots = old.slots; crowded = c.insert.new.self } in
    let was : crowded old c.args.label.now ≡ Some c.in-Some.first = ap (crowded old) (sym c.in_ok-key.ensures.ok) ∙ sym c.in_ok-insert.ensures.old ∙ c.in-Some.is in
    record {
      there = subst IsSome (sym was) refl;
      same = record {
        same = refl;
        is = put-back old once (record { slots = old.slots; crowded = c.insert-in-Some.new.self }) c.args.label.now c.args.entry
            (λ l. btree_map_updates_text (string_bytes c.in_ok-key.key) old.crowded c.insert.new.self (Some c.args.entry) c.in_ok-insert.ensures.updates l
            ∙ ap (λ b. cond (bytes_eq b l) (Some c.args.entry) (crowded old l)) c.in_ok-key.ensures.ok)
            c.in-Some.first was
            (λ l. btree_map_updates_text (string_bytes c.in_ok-again.again) c.insert.new.self c.insert-in-Some.new.self (Some c.in-Some.first) c.in_ok-insert-in-Some.ensures.updates l
            ∙ ap (λ b. cond (bytes_eq b l) (Some c.in-Some.first) (crowded once l)) c.in_ok-again.ensures.ok);
      };
    }

pub returns-in_err-insert-in-Some-clause-err : goal.returns-in_err-insert-in-Some-clause-err
returns-in_err-insert-in-Some-clause-err c =
    let old = c.args.self.now in
    let once : LabelIndex = record { slots = old.slots; crowded = c.insert.new.self } in
    let there : crowded once c.args.label.now ≡ Some c.args.entry = put-there old once once c.args.label.now c.args.entry
    (λ l. btree_map_updates_text (string_bytes c.in_ok-key.key) old.crowded c.insert.new.self (Some c.args.entry) c.in_ok-insert.ensures.updates l
    ∙ ap (λ b. cond (bytes_eq b l) (Some c.args.entry) (crowded old l)) c.in_ok-key.ensures.ok) in
    let absent : crowded once c.args.label.now ≡ None = ap (crowded once) (sym c.in_ok-again.ensures.ok) ∙ c.in_err-insert-in-Some.ensures.absent in
    let wrong : Some c.args.entry ≡ None = sym there ∙ absent in cc
