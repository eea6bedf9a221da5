use Rattle.std.proofs.Common.{[], suc, string_bytes, ap, ◌∙◌, refl}
use Rattle.std.proofs.lemmas.Result.{on_ok_weaker}
use Rattle.cm_scan.specs.blocks.Parts.{leaf_block, code, html}
use Rattle.cm_scan.specs.blocks.Blocks.{line_feeds}
use Rattle.cm_block.specs.Level.{block_closes}
use Rattle.cm_block.specs.Stack.{close_leaves, own_leaves}
use Rattle.cm_block.specs.LeafViews.{ended}
use Rattle.cm_block.specs.steps.LeafSteps.{fence_lines}
use Rattle.cm_block.proofs.lemmas.LeafLemmas.{leaves_by_kind}
use Rattle.cm_block.proofs.lemmas.PutLemmas.{none_closes, none_owns, one_closes, one_owns}
use Rattle.cm_block.proofs.open_leaf.OpenLeaf.put.Goals as goal

pub returns-in-Nothing-clause-level : goal.returns-in-Nothing-clause-level
returns-in-Nothing-clause-level c =
    let level = c.args.stack.now.level in
    none_closes level ∙ ap (close_leaves level) (leaves_by_kind c.args.ending c.args.self.now _ c.in-Nothing.is)

pub returns-in-Nothing-clause-owners : goal.returns-in-Nothing-clause-owners
returns-in-Nothing-clause-owners c =
    let owned = c.args.owners.now in
    none_owns owned ∙ ap (own_leaves owned) (leaves_by_kind c.args.ending c.args.self.now _ c.in-Nothing.is)

pub returns-in-Run-clause-level : goal.returns-in-Run-clause-level
returns-in-Run-clause-level c =
    on_ok_weaker c.put_run.result (λ put. put ∙ ap (close_leaves c.args.stack.now.level) (leaves_by_kind c.args.ending c.args.self.now _ c.in-Run.is))
    c.put_run.ensures.level

pub returns-in-Run-clause-owners : goal.returns-in-Run-clause-owners
returns-in-Run-clause-owners c =
    on_ok_weaker c.put_run.result (λ put. put ∙ ap (own_leaves c.args.owners.now) (leaves_by_kind c.args.ending c.args.self.now _ c.in-Run.is))
    c.put_run.ensures.owners

pub returns-in-Code-clause-level : goal.returns-in-Code-clause-level
returns-in-Code-clause-level c =
    let level = c.args.stack.now.level in
    let text = c.args.self.now.text in
    on_ok_weaker c.put_indented.result (λ put.
    put
    ∙ one_closes level (code [] (ended text)) (suc (line_feeds text))
    ∙ ap (close_leaves level) (leaves_by_kind c.args.ending c.args.self.now _ c.in-Code.is)) c.put_indented.ensures.level

pub returns-in-Code-clause-owners : goal.returns-in-Code-clause-owners
returns-in-Code-clause-owners c =
    let owned = c.args.owners.now in
    let text = c.args.self.now.text in
    on_ok_weaker c.put_indented.result (λ put.
    put
    ∙ one_owns owned (code [] (ended text)) (suc (line_feeds text)) refl
    ∙ ap (own_leaves owned) (leaves_by_kind c.args.ending c.args.self.now _ c.in-Code.is)) c.put_indented.ensures.owners

pub returns-in-Fence-clause-level : goal.returns-in-Fence-clause-level
returns-in-Fence-clause-level c =
    let level = c.args.stack.now.level in
    let text = c.args.self.now.text in
    let info = string_bytes c.args.self.now.info in
    on_ok_weaker c.put_fenced.result (λ put.
    put
    ∙ ap (λ i. block_closes level (leaf_block (code i text))) c.deref.ensures
    ∙ one_closes level (code info text) (fence_lines c.args.ending text)
    ∙ ap (close_leaves level) (leaves_by_kind c.args.ending c.args.self.now _ c.in-Fence.is)) c.put_fenced.ensures.level

pub returns-in-Fence-clause-owners : goal.returns-in-Fence-clause-owners
returns-in-Fence-clause-owners c =
    let owned = c.args.owners.now in
    let text = c.args.self.now.text in
    on_ok_weaker c.put_fenced.result (λ put.
    put
    ∙ one_owns owned (code (string_bytes c.args.self.now.info) text) (fence_lines c.args.ending text) refl
    ∙ ap (own_leaves owned) (leaves_by_kind c.args.ending c.args.self.now _ c.in-Fence.is)) c.put_fenced.ensures.owners

pub returns-in-Html-clause-level : goal.returns-in-Html-clause-level
returns-in-Html-clause-level c =
    let level = c.args.stack.now.level in
    let text = c.args.self.now.text in
    on_ok_weaker c.put_html.result (λ put.
    put
    ∙ one_closes level (html (ended text)) (suc (line_feeds text))
    ∙ ap (close_leaves level) (leaves_by_kind c.args.ending c.args.self.now _ c.in-Html.is)) c.put_html.ensures.level

pub returns-in-Html-clause-owners : goal.returns-in-Html-clause-owners
returns-in-Html-clause-owners c =
    let owned = c.args.owners.now in
    let text = c.args.self.now.text in
    on_ok_weaker c.put_html.result (λ put.
    put
    ∙ one_owns owned (html (ended text)) (suc (line_feeds text)) refl
    ∙ ap (own_leaves owned) (leaves_by_kind c.args.ending c.args.self.now _ c.in-Html.is)) c.put_html.ensures.owners
