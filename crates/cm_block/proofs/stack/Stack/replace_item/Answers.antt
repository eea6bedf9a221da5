use Rattle.std.proofs.Common.{◌-◌, ◌++◌, ◌∷◌, [], take, slice_set, vec_len, refl, sym, ap, ◌∙◌, arith}
use Rattle.std.proofs.lemmas.Grind.{common_steps}
use Rattle.cm_tree.proofs.lemmas.RawLemmas.{grows-same}
use Rattle.cm_block.specs.Level.{item_opens}
use Rattle.cm_block.specs.Frames.{an_item, Row}
use Rattle.cm_block.specs.declared.stack.Frame.{Frame}
use Rattle.cm_block.specs.declared.stack.Container.TheVariants.{Item}
use Rattle.cm_block.specs.steps.FrameSteps.{close_container}
use Rattle.cm_block.specs.steps.FrameViews.{container_of}
use Rattle.cm_block.specs.steps.LevelViews.{level_in}
use Rattle.cm_block.proofs.lemmas.FrameStartLemmas.{frame}
use Rattle.cm_block.proofs.lemmas.QuoteLemmas.{quotes-replaced, continued-item}
use Rattle.cm_block.proofs.lemmas.RowLemmas.{last-is, last-set, taken-placed, inside-is, next-placed, inside-next, next-is}
use Rattle.cm_block.proofs.stack.Stack.replace_item.Goals as goal

pub begin_next_item-requires-clause-outer : goal.begin_next_item-requires-clause-outer
begin_next_item-requires-clause-outer c =
    let s = c.self.inside in
    let n = vec_len s.frames in
    let last = c.in-Some.frame.now in
    let taken = last-is s.frames.items n last (omega arith) (c.in-Some.ensures.variant.0 refl) c.in-Some.ensures.value in
    (taken-placed s.chunks s.raw s.raw s.frames.items (take (n - 1) s.frames.items) last last.level taken refl c.self.invariant.0 (grows-same s.raw)).1

pub invariant_of-self-inside-in-Break-1 : goal.invariant_of-self-inside-in-Break-1
invariant_of-self-inside-in-Break-1 c =
    let s = c.self.inside in
    let n = vec_len s.frames in
    let last = c.in-Some.frame.now in
    let next : Frame = record { level = c.begin_next_item.new.outer; container = last.container } in
    let taken = last-is s.frames.items n last (omega arith) (c.in-Some.ensures.variant.0 refl) c.in-Some.ensures.value in
    let replaced = last-set s.frames.items n next (omega arith) (c.in-Some.ensures.variant.0 refl) in
    (quotes-replaced s.frames.items (slice_set s.frames.items (n - 1) next) (take (n - 1) s.frames.items) last next s.quotes taken replaced refl s.counted, tt)

pub invariant_of-self-inside-2 : goal.invariant_of-self-inside-2
invariant_of-self-inside-2 c =
    let s = c.self.inside in
    let n = vec_len s.frames in
    let last = c.in-Some.frame.now in
    let next : Frame = record { level = c.begin_next_item.new.outer; container = Item c.args.kind c.args.column } in
    let taken = last-is s.frames.items n last (omega arith) (c.in-Some.ensures.variant.0 refl) c.in-Some.ensures.value in
    let replaced = last-set s.frames.items n next (omega arith) (c.in-Some.ensures.variant.0 refl) in
    (quotes-replaced s.frames.items (slice_set s.frames.items (n - 1) next) (take (n - 1) s.frames.items) last next s.quotes taken replaced (continued-item c.args.kind (container_of last.container) (level_in s.raw last.level) (sym (c.is_continued_by.ensures s.raw) ∙ c.if-not-is_continued_by.false)) s.counted, tt)

pub invariant_of-self-in_err-begin_next_item : goal.invariant_of-self-in_err-begin_next_item
invariant_of-self-in_err-begin_next_item c =
    let s = c.self.inside in
    let n = vec_len s.frames in
    let last = c.in-Some.frame.now in
    let next : Frame = record { level = c.begin_next_item.new.outer; container = last.container } in
    let taken = last-is s.frames.items n last (omega arith) (c.in-Some.ensures.variant.0 refl) c.in-Some.ensures.value in
    let replaced = last-set s.frames.items n next (omega arith) (c.in-Some.ensures.variant.0 refl) in
    let done = c.in_err-begin_next_item.ensures in
    (next-placed s.chunks s.raw c.begin_next_item.new.raw s.frames.items (take (n - 1) s.frames.items) (slice_set s.frames.items (n - 1) next) last next taken replaced c.self.invariant.0 done.grows done.outer_placed, done.placed)

pub invariant_of-self-2 : goal.invariant_of-self-2
invariant_of-self-2 c =
    let s = c.self.inside in
    let n = vec_len s.frames in
    let last = c.in-Some.frame.now in
    let next : Frame = record { level = c.begin_next_item.new.outer; container = Item c.args.kind c.args.column } in
    let taken = last-is s.frames.items n last (omega arith) (c.in-Some.ensures.variant.0 refl) c.in-Some.ensures.value in
    let replaced = last-set s.frames.items n next (omega arith) (c.in-Some.ensures.variant.0 refl) in
    let done = c.in_ok-begin_next_item.ensures in
    (next-placed s.chunks s.raw c.begin_next_item.new.raw s.frames.items (take (n - 1) s.frames.items) (slice_set s.frames.items (n - 1) next) last next taken replaced c.self.invariant.0 done.grows done.outer_placed, done.placed)

pub returns-clause-frames : goal.returns-clause-frames
returns-clause-frames c = λ _ outer last all.
    let s = c.self.inside in
    let n = vec_len s.frames in
    let old = c.in-Some.frame.now in
    let next : Frame = record { level = c.begin_next_item.new.outer; container = Item c.args.kind c.args.column } in
    let before = take (n - 1) s.frames.items in
    let taken = last-is s.frames.items n old (omega arith) (c.in-Some.ensures.variant.0 refl) c.in-Some.ensures.value in
    let replaced = last-set s.frames.items n next (omega arith) (c.in-Some.ensures.variant.0 refl) in
    let done = c.in_ok-begin_next_item.ensures in
    let inside = inside-is s.chunks s.raw s.raw s.frames.items before old old.level taken refl c.self.invariant.0 (grows-same s.raw) (level_in s.raw s.level) in
    next-is s.chunks s.raw c.begin_next_item.new.raw s.frames.items before (slice_set s.frames.items (n - 1) next) old next taken replaced c.self.invariant.0 done.grows
    c.args.kind c.args.column (level_in s.raw s.level) (sym (c.is_continued_by.ensures s.raw) ∙ c.if-not-is_continued_by.false) done.outer refl
    c.args.self.now.frames outer last (ap (λ (r : Row). r.frames) c.self.view_is) all
    ∙ ap (λ v. outer ++ frame (item_opens (close_container last.container last.level v) c.args.kind) (an_item c.args.kind c.args.column) ∷ []) (sym inside ∙ ap (λ (r : Row). r.level) c.self.view_is)

pub returns-clause-level : goal.returns-clause-level
returns-clause-level c = λ _.
    let s = c.self.inside in
    let n = vec_len s.frames in
    let old = c.in-Some.frame.now in
    let next : Frame = record { level = c.begin_next_item.new.outer; container = Item c.args.kind c.args.column } in
    let taken = last-is s.frames.items n old (omega arith) (c.in-Some.ensures.variant.0 refl) c.in-Some.ensures.value in
    let replaced = last-set s.frames.items n next (omega arith) (c.in-Some.ensures.variant.0 refl) in
    let done = c.in_ok-begin_next_item.ensures in
    inside-next s.chunks s.raw c.begin_next_item.new.raw s.frames.items (take (n - 1) s.frames.items) (slice_set s.frames.items (n - 1) next) old next taken replaced c.self.invariant.0 done.grows
    (level_in c.begin_next_item.new.raw c.begin_next_item.new.self)
    ∙ done.level

pub invariant_of-self-then-not-is_continued_by : goal.invariant_of-self-then-not-is_continued_by
invariant_of-self-then-not-is_continued_by c = grind (arith, common_steps)
