-- How often lines are read, and how many block quotes and list items there are.
use Rattle.std.specs.Prelude.{ℕ, suc, ◌+◌, ◌-◌, ◌^◌, ◌<◌, ◌≤◌, List, [], ◌∷◌, map}
use Rattle.std.specs.List.{sum}
use Rattle.cm_tree.specs.declared.tree.Block.{Block, Block-F}
use Rattle.cm_tree.specs.declared.tree.Block.TheOpen.{Quote, List as ListBlock}
use Rattle.cm_tree.specs.declared.tree.Block.TheFolds.{fold-Block}
use Rattle.cm_block.specs.Machine.{Open, in_leaf, in_quote, in_item}
use Rattle.cm_block.specs.Level.{Level, closed_blocks}
use Rattle.cm_block.specs.Stack.{Stack}

-- Between two counts lines were read at least and at most this often; a count that has reached the greatest
-- stays there.
abbrev pub Counted : (greatest least most before after : ℕ) → Type 0
Counted greatest least most before after = (after < greatest → before + least ≤ after) × (after ≤ before + most)

-- the same, where the greatest count is that of 128 bits
abbrev pub AllTested : (least most before after : ℕ) → Type 0
AllTested = Counted (2 ^ 128 - 1)

-- how many block quotes and items there are in items and of them, given the numbers in their blocks
abbrev pub item_count : List (List ℕ) → ℕ
item_count [] = 0
item_count (item ∷ items) = suc (sum item) + item_count items

-- one block, given the number in each block inside: a block quote counts, and so does each item
abbrev pub container_step : Block-F ℕ → ℕ
container_step (Quote blocks) = suc (sum blocks)
container_step (ListBlock kind tight items) = item_count items
container_step _ = 0

abbrev pub containers_of_block : Block → ℕ
containers_of_block = fold-Block ℕ container_step

-- how many block quotes and list items there are in a tree, at any depth
abbrev pub container_count : List Block → ℕ
container_count blocks = sum (map containers_of_block blocks)

-- how many are closed in a level
abbrev pub count_in : Level → ℕ
count_in level = container_count (closed_blocks level)

-- how many are open, and closed in these
unfoldable pub count_open : Open Level → ℕ
count_open (in_leaf x) = 0
count_open (in_quote inside now) = suc (count_in inside + count_open now)
count_open (in_item kind column bare inside now) = suc (count_in inside + count_open now)

-- how many a stack holds
abbrev pub count_of : Stack → ℕ
count_of st = count_in st.level + count_open st.now
