-- What a line starts in the innermost of the open containers, as the code has them.
use Rattle.std.specs.Prelude.{◌≡◌, ℕ, suc, ◌<◌, ◌≤◌, Bool, true, false, List, [], ◌∷◌, length, ⊤}
use Rattle.cm_text.specs.Rules.{Rules}
use Rattle.cm_text.specs.Lines.{LineView}
use Rattle.cm_tree.specs.declared.tree.Owner.TheVariants.{Marker}
use Rattle.cm_block.specs.declared.counted_line.starts.Start.{Start}
use Rattle.cm_block.specs.declared.fault.BlockFault.{BlockFault}
use Rattle.cm_block.specs.declared.fault.BlockFault.TheVariants.{BlocksTooDeep, NoMemory}
use Rattle.cm_block.specs.declared.containers.Innermost.{Innermost}
use Rattle.cm_block.specs.declared.containers.Innermost.TheVariants.{TooDeep, Blank, Leaf}
use Rattle.cm_block.specs.OpenLeaf.{LeafLine, no_leaf, begins_leaf, begin_of_start}
use Rattle.cm_block.specs.Level.{Level, push_blank, block_opens}
use Rattle.cm_block.specs.Stack.{Owned, Stack, own_lines, blank_owner, push_leaf_line, push_begin}
use Rattle.cm_block.specs.Depths.{nesting}
use Rattle.cm_block.specs.Frames.{Frame, Row, stack_with}
use Rattle.cm_block.specs.steps.FrameSteps.{within, quoted_by}
use Rattle.cm_block.specs.steps.StartViews.{seen}
use Rattle.cm_block.specs.steps.FirstLines.{begins_container}

-- the line starts something in the innermost of these containers
abbrev pub begun_in : Rules → List Frame → Level → LineView → Owned → Stack
begun_in rules frames level line owned = within frames (push_begin rules (quoted_by false frames) owned level line)

abbrev pub begun_by : Rules → Row → LineView → Owned → Stack
begun_by rules before line owned = begun_in rules before.frames before.level line owned

-- a blank line in the innermost container: right after an item's marker it belongs to that
abbrev pub blank_in : (bare : Bool) → List Frame → Level → Owned → Stack
blank_in true frames level owned = stack_with true frames level no_leaf (own_lines owned (Marker ∷ []))
blank_in false frames level owned = stack_with false frames (push_blank level) no_leaf (own_lines owned (blank_owner (quoted_by false frames) ∷ []))

abbrev pub with_blank : Row → Owned → Stack
with_blank now owned = blank_in now.bare now.frames now.level owned

-- what is left to do in the innermost container, which is bare if nothing but a blank line is left
abbrev pub left_in : Rules → (bare : Bool) → List Frame → Level → LineView → Owned → Stack
left_in rules true frames level line owned = blank_in true frames level owned
left_in rules false frames level line owned = begun_in rules frames level line owned

abbrev pub left_of : Rules → Row → LineView → Owned → Stack
left_of rules now line owned = left_in rules now.bare now.frames now.level line owned

-- The containers that the line starts have been opened, and this is the rest of it.
abbrev pub Inside : Rules → ℕ → Row → LineView → Row → LineView → Innermost → Type 0
Inside rules limit before line now inner TooDeep = (owned : Owned) → limit < nesting (begun_by rules before line owned).now
Inside rules limit before line now inner Blank = (length now.frames ≤ limit) × ((owned : Owned) → begun_by rules before line owned ≡ with_blank now owned)
Inside rules limit before line now inner (Leaf start) =
    (length now.frames ≤ limit) × ((now.bare ≡ false) × ((begins_container (seen start.found) ≡ false)
    × ((owned : Owned) (l : LeafLine) → begins_leaf l ≡ begin_of_start rules (seen start.found) inner
    → begun_by rules before line owned ≡ within now.frames (push_leaf_line owned (block_opens now.level) l))))

-- the first line of a leaf block, in the innermost container
abbrev pub LeafBegins : Rules → Start → LineView → Row → Owned → Stack → Type 0
LeafBegins rules start line before owned now =
    (l : LeafLine) × ((begins_leaf l ≡ begin_of_start rules (seen start) line) × (now ≡ within before.frames (push_leaf_line owned (block_opens before.level) l)))

-- so many containers are open that a line is too deep, and it is the next
abbrev pub DeepIn : BlockFault → ℕ → Stack → Owned → Type 0
DeepIn (BlocksTooDeep n) limit now owned = (limit < nesting now.now) × (n ≡ suc (length owned.owners))
DeepIn NoMemory limit now owned = ⊤
