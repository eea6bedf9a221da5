-- The stack goes with the machine: its levels are the closed parts read from the left, and its owners and definitions are theirs.
use Rattle.std.specs.Prelude.{replicate}
use Rattle.std.proofs.Common.{◌≡◌, ℕ, zero, suc, ◌<◌, Bool, true, false, List, [], ◌∷◌, ◌++◌, length, refl, ◌∙◌, sym, ap, ap₂, arith, Option, Some, None, le_refl, subst}
use Rattle.std.proofs.lemmas.List.{append_assoc}
use Rattle.std.proofs.Math.Bool.{or-false}
use Rattle.cm_text.specs.Rules.{Rules}
use Rattle.cm_text.specs.Lines.{LineView}
use Rattle.cm_tree.specs.declared.tree.ListKind.{ListKind}
use Rattle.cm_tree.specs.declared.tree.Block.{Block}
use Rattle.cm_tree.specs.declared.tree.Block.TheVariants.{Quote}
use Rattle.cm_tree.specs.declared.tree.Owner.TheVariants.{Marker}
use Rattle.cm_scan.specs.blocks.Lines.{is_blank, marks}
use Rattle.cm_scan.specs.blocks.Starts.{continuation_in_quote, continuation_in_item}
use Rattle.cm_scan.specs.blocks.Parts.{LeafPart, Parts, none, blank, leaf, quote, list, ItemParts, last_item, next_items, put_before, put_item, leaf_block, is_separated, items_end_blank, ends_blank_after, blocks_of_parts, line_owners, table_of}
use Rattle.cm_scan.specs.blocks.Blocks.{blocks_of, owners_of, reference_table}
use Rattle.cm_scan.specs.laws.PartLaws.{goes_inward}
use Rattle.cm_scan.proofs.lemmas.blocks.CountedLines.{one_owner}
use Rattle.cm_block.specs.OpenLeaf.{OpenLeaf, no_leaf, open_text, open_code, open_fence, open_html, run_leaves, closed_leaves, blank_lines_after, LeafLine, stays_open, is_last, line_of_leaf, LineOpens, begins_nothing, begins_leaf, begins_quote, begins_item, begin_of}
use Rattle.cm_block.specs.Machine.{ClosedPart, closed_blank, closed_leaf, closed_quote, closed_item, put_all, Open, in_leaf, in_quote, in_item, has_open_text, Change, change, parts_of_leaves, closing, leaf_change, begin_by, begin_within, begin, after_closing, leaf_step, step, Machine, new_machine, take_line, take_lines, close, parts_in_one_pass}
use Rattle.cm_block.specs.Level.{Level, empty_level, closed_blocks, push_blank, separated_next, block_opens, item_opens, block_closes, Item, push_block, push_item, item_of_parts, add, add_all}
use Rattle.cm_block.specs.Stack.{Owned, Stack, stack, empty_stack, close_leaves, push_blanks, item_of, close_open, own_lines, own_blanks, own_open, close_stack, push_leaf_line, not_blank, push_by, push_within, push_begin, push_after, push_to_leaf, push_in, push_line, push_lines}
use Rattle.cm_block.specs.Laws.{StackBlocks, StackOwners, StackTable, OneOwnerEach}
use Rattle.cm_block.proofs.lemmas.BeginCases.{OfInner, inner-less, of-less}
use Rattle.cm_block.proofs.lemmas.OpenEnd.{Fit, FitLeaf, NotFresh, run-open, HasLeaves, some-closed, some-open, fits-step, fit-new, SoundLeaf, SoundLine, sound-line, SoundLineOf, SoundBegin, begin-sound}
use Rattle.cm_block.proofs.lemmas.OnePass.{one_pass}
use Rattle.cm_block.proofs.lemmas.LevelLaws.{level_of_parts}
use Rattle.cm_block.proofs.lemmas.Owners.{mark-none, own_closed_parts, own-append, own-law, own-leaves, own-blanks, quote-owned, own_item, item-owned}

-- closed parts from the left

add_all-append : (v : Level) (ps qs : List ClosedPart) → add_all v (ps ++ qs) ≡ add_all (add_all v ps) qs
unfolding add_all
add_all-append v [] qs = refl
add_all-append v (x ∷ ps) qs = add_all-append (add v x) ps qs

-- right after a block the next is opened in the unchanged level
block-again : (v : Level) (a b : Block) → block_closes (push_block v a) b ≡ push_block (push_block v a) b
block-again v a b = ap (λ s. record (block_closes (push_block v a) b) { separated = s }) (sym (or-false (separated_next v)))

leaves-more : (v : Level) (b : Block) (xs : List (LeafPart × ℕ)) → close_leaves (push_block v b) xs ≡ add_all (push_block v b) (parts_of_leaves xs)
unfolding add_all add close_leaves
leaves-more v b [] = refl
leaves-more v b (x ∷ xs) = ap (λ w. close_leaves w xs) (block-again v b (leaf_block x.0)) ∙ leaves-more (push_block v b) (leaf_block x.0) xs

leaves-add : (v : Level) (xs : List (LeafPart × ℕ)) → HasLeaves xs → close_leaves (block_opens v) xs ≡ add_all v (parts_of_leaves xs)
unfolding add_all add close_leaves
leaves-add v [] h = absurd h
leaves-add v (x ∷ xs) h = leaves-more v (leaf_block x.0) xs

some-leaf : (x : OpenLeaf) → SoundLeaf x → HasLeaves (closed_leaves x)
unfolding closed_leaves
some-leaf no_leaf h = absurd h
some-leaf (open_text source) h = some-open (run_leaves None source) (run-open source false h)
some-leaf (open_code text lines blank_text blank_lines) h = tt
some-leaf (open_fence fence columns text lines) h = tt
some-leaf (open_html kind text lines) h = tt

blanks-add : (n : ℕ) (v : Level) → push_blanks n v ≡ add_all v (replicate n closed_blank)
unfolding add_all add push_blanks
blanks-add zero v = refl
blanks-add (suc n) v = blanks-add n (push_blank v)

-- an item's own line, if it is blank, is no blank line of the item

abbrev past_blank : List ClosedPart → List ClosedPart
past_blank [] = []
past_blank (closed_blank ∷ ps) = ps
past_blank (x ∷ ps) = x ∷ ps

past-leaves : (xs : List (LeafPart × ℕ)) → past_blank (parts_of_leaves xs) ≡ parts_of_leaves xs
past-leaves [] = refl
past-leaves (x ∷ xs) = refl

-- closed parts after those of an item, where the first of all isn't a blank line among them
abbrev Beyond : List ClosedPart → List ClosedPart → Type 0
Beyond ps qs = past_blank (ps ++ qs) ≡ past_blank ps ++ qs

item-own-same : (q : Bool) (s : Owned) (ps : List ClosedPart) → past_blank ps ≡ ps → own_item q s ps ≡ own_closed_parts q s ps
item-own-same q s [] e = refl
item-own-same q s (closed_blank ∷ ps) e = absurd (differ (length ps) (ap length e))
  where
    differ : (k : ℕ) → k ≡ suc k → ⊥
    differ k e = omega arith
item-own-same q s (closed_leaf x m ∷ ps) e = refl
item-own-same q s (closed_quote c ∷ ps) e = refl
item-own-same q s (closed_item kind c ∷ ps) e = refl

item-own-append : (q : Bool) (s : Owned) (ps qs : List ClosedPart) → Beyond ps qs → own_item q s (ps ++ qs) ≡ own_closed_parts q (own_item q s ps) qs
item-own-append q s [] qs e = item-own-same q s qs e ∙ own-append q s [] qs
item-own-append q s (closed_blank ∷ ps) qs e = own-append q (own_lines s (Marker ∷ [])) ps qs
item-own-append q s (closed_leaf x m ∷ ps) qs e = own-append q s (closed_leaf x m ∷ ps) qs
item-own-append q s (closed_quote c ∷ ps) qs e = own-append q s (closed_quote c ∷ ps) qs
item-own-append q s (closed_item kind c ∷ ps) qs e = own-append q s (closed_item kind c ∷ ps) qs

item-add-append : (ps qs : List ClosedPart) → Beyond ps qs → add_all empty_level (past_blank (ps ++ qs)) ≡ add_all (add_all empty_level (past_blank ps)) qs
item-add-append ps qs e = ap (add_all empty_level) e ∙ add_all-append empty_level (past_blank ps) qs

-- what a list needs of an item

separated-first : (p : Parts) → is_separated false true p ≡ is_separated false false p
unfolding is_separated
separated-first none = refl
separated-first (blank p) = refl
separated-first (leaf x n p) = refl
separated-first (quote c p) = refl
separated-first (list kind items p) = refl

item-of-list : (kind : ListKind) (c p : Parts) → items_end_blank (last_item (put_item kind c p)) ≡ ends_blank_after false (put_item kind c p)
unfolding put_item items_end_blank
item-of-list kind c p = go (next_items kind 0 p)
  where
    go : (v : Option (ℕ × ItemParts × Parts)) → items_end_blank (last_item (put_before kind c p v)) ≡ ends_blank_after false (put_before kind c p v)
    go None = refl
    go (Some f) = refl

abbrev level_item : List ClosedPart → Item
level_item ps = item_of (add_all empty_level ps)

item-by : (ps qs : List ClosedPart) → blocks_of_parts (put_all qs none) ≡ blocks_of_parts (put_all ps none) → ends_blank_after false (put_all qs none) ≡ items_end_blank (last_item (put_all ps none))
    → is_separated false false (put_all qs none) ≡ is_separated false false (put_all ps none) → level_item qs ≡ item_of_parts (put_all ps none)
item-by ps qs t e s =
    let l = level_of_parts qs in
    ap₂ (λ bs b. record { blocks = bs; ends_blank = b; separated = (add_all empty_level qs).separated }) (l.blocks ∙ t) (l.ends_blank ∙ e)
    ∙ ap (λ b. record (item_of_parts (put_all ps none)) { separated = b }) (l.separated ∙ s)

item-level : (ps : List ClosedPart) → level_item (past_blank ps) ≡ item_of_parts (put_all ps none)
unfolding put_all blocks_of_parts is_separated items_end_blank
item-level [] = item-by [] [] refl refl refl
item-level (closed_blank ∷ ps) = item-by (closed_blank ∷ ps) ps refl refl (sym (separated-first (put_all ps none)))
item-level (closed_leaf x n ∷ ps) = item-by (closed_leaf x n ∷ ps) (closed_leaf x n ∷ ps) refl refl refl
item-level (closed_quote c ∷ ps) = item-by (closed_quote c ∷ ps) (closed_quote c ∷ ps) refl refl refl
item-level (closed_item kind c ∷ ps) = item-by (closed_item kind c ∷ ps) (closed_item kind c ∷ ps) refl (sym (item-of-list kind c (put_all ps none))) refl

-- what is open

-- the level in which it was opened
abbrev opened_leaf : OpenLeaf → Level → Level
opened_leaf no_leaf v = v
opened_leaf x v = block_opens v

abbrev pub opened : Open (List ClosedPart) → Level → Level
opened (in_leaf x) v = opened_leaf x v
opened (in_quote closed now) v = block_opens v
opened (in_item kind column bare closed now) v = item_opens v kind

-- with the levels that its closed parts make
unfoldable pub held : Open (List ClosedPart) → Open Level
held (in_leaf x) = in_leaf x
held (in_quote closed now) = in_quote (opened now (add_all empty_level closed)) (held now)
held (in_item kind column bare closed now) = in_item kind column bare (opened now (add_all empty_level (past_blank closed))) (held now)

-- with the owners of its closed parts
unfoldable pub owned_in : (in_a_quote : Bool) → Owned → Open (List ClosedPart) → Owned
owned_in q s (in_leaf x) = s
owned_in q s (in_quote closed now) = owned_in true (own_closed_parts true s closed) now
owned_in q s (in_item kind column bare closed now) = owned_in q (own_item q s closed) now

pub held-open : (o : Open (List ClosedPart)) → has_open_text (held o) ≡ has_open_text o
unfolding held has_open_text
held-open (in_leaf x) = refl
held-open (in_quote ps o) = held-open o
held-open (in_item kind column bare ps o) = held-open o

run-past : (xs : List (LeafPart × ℕ)) (qs : List ClosedPart) → HasLeaves xs → past_blank (parts_of_leaves xs ++ qs) ≡ parts_of_leaves xs ++ qs
run-past [] qs h = absurd h
run-past (x ∷ xs) qs h = refl

closing-beyond : (ps : List ClosedPart) (o : Open (List ClosedPart)) → Fit ps o → Beyond ps (closing o)
unfolding closing closed_leaves Fit
closing-beyond (closed_blank ∷ ps) o h = refl
closing-beyond (closed_leaf x n ∷ ps) o h = refl
closing-beyond (closed_quote c ∷ ps) o h = refl
closing-beyond (closed_item kind c ∷ ps) o h = refl
closing-beyond [] (in_leaf no_leaf) h = refl
closing-beyond [] (in_leaf (open_text source)) h = run-past (run_leaves None source) [] (some-leaf (open_text source) h)
closing-beyond [] (in_leaf (open_code text lines blank_text blank_lines)) h = refl
closing-beyond [] (in_leaf (open_fence fence columns text lines)) h = refl
closing-beyond [] (in_leaf (open_html kind text lines)) h = refl
closing-beyond [] (in_quote ps o) h = refl
closing-beyond [] (in_item kind column bare ps o) h = refl

-- closing it gives the level and the owners of its closed parts

close-leaf : (v : Level) (x : OpenLeaf) → SoundLeaf x → close_open (block_opens v) (in_leaf x) ≡ add_all v (closing (in_leaf x))
unfolding close_open closing
close-leaf v x h =
    ap (push_blanks (blank_lines_after x)) (leaves-add v (closed_leaves x) (some-leaf x h)) ∙ blanks-add (blank_lines_after x) (add_all v (parts_of_leaves (closed_leaves x)))
    ∙ sym (add_all-append v (parts_of_leaves (closed_leaves x)) (replicate (blank_lines_after x) closed_blank))

close-held : (v : Level) (ps : List ClosedPart) (o : Open (List ClosedPart)) → Fit ps o → close_open (opened o v) (held o) ≡ add_all v (closing o)
unfolding held close_open closing add_all add Fit closed_leaves close_leaves push_blanks
close-held v ps (in_leaf no_leaf) h = refl
close-held v ps (in_leaf (open_text source)) h = close-leaf v (open_text source) h
close-held v ps (in_leaf (open_code text lines blank_text blank_lines)) h = close-leaf v (open_code text lines blank_text blank_lines) tt
close-held v ps (in_leaf (open_fence fence columns text lines)) h = close-leaf v (open_fence fence columns text lines) tt
close-held v ps (in_leaf (open_html kind text lines)) h = close-leaf v (open_html kind text lines) tt
close-held v ps (in_quote qs o) h =
    ap (λ w. push_block v (Quote (closed_blocks w))) (close-held (add_all empty_level qs) qs o h ∙ sym (add_all-append empty_level qs (closing o)))
    ∙ ap (λ bs. push_block v (Quote bs)) (level_of_parts (qs ++ closing o)).blocks
close-held v ps (in_item kind column bare qs o) h =
    ap (λ w. push_item v kind (item_of w)) (close-held (add_all empty_level (past_blank qs)) qs o h.1 ∙ sym (item-add-append qs (closing o) (closing-beyond qs o h.1)))
    ∙ ap (push_item v kind) (item-level (qs ++ closing o))

own-held : (q : Bool) (s : Owned) (ps : List ClosedPart) (o : Open (List ClosedPart)) → Fit ps o → own_open q (owned_in q s o) (held o) ≡ own_closed_parts q s (closing o)
unfolding held own_open closing owned_in Fit
own-held q s ps (in_leaf x) h =
    ap (own_blanks q (blank_lines_after x)) (own-leaves q s (closed_leaves x)) ∙ own-blanks q (blank_lines_after x) (own_closed_parts q s (parts_of_leaves (closed_leaves x)))
    ∙ sym (own-append q s (parts_of_leaves (closed_leaves x)) (replicate (blank_lines_after x) closed_blank))
own-held q s ps (in_quote qs o) h = own-held true (own_closed_parts true s qs) qs o h ∙ sym (own-append true s qs (closing o)) ∙ quote-owned q s (qs ++ closing o)
own-held q s ps (in_item kind column bare qs o) h =
    own-held q (own_item q s qs) qs o h.1 ∙ sym (item-own-append q s qs (closing o) (closing-beyond qs o h.1)) ∙ item-owned q s kind (qs ++ closing o)

-- a stack goes with a change, at a level with these owners before
pub record Follows (q : Bool) (s : Owned) (v : Level) (c : Change) (st : Stack) : Type 0 where
  pub level : st.level ≡ opened c.now (add_all v c.closed)
  pub now : st.now ≡ held c.now
  pub owned : st.owned ≡ owned_in q (own_closed_parts q s c.closed) c.now

-- after more closed parts
follows-beyond : (q : Bool) (s : Owned) (v : Level) (ps : List ClosedPart) (c : Change) (st : Stack) → Follows q (own_closed_parts q s ps) (add_all v ps) c st → Follows q s v (change (ps ++ c.closed) c.now) st
follows-beyond q s v ps c st f = record {
  level = f.level ∙ ap (opened c.now) (sym (add_all-append v ps c.closed));
  now = f.now;
  owned = f.owned ∙ ap (λ s. owned_in q s c.now) (sym (own-append q s ps c.closed));
}

sound-opened : (x : OpenLeaf) (v : Level) → SoundLeaf x → block_opens v ≡ opened_leaf x v
sound-opened no_leaf v h = absurd h
sound-opened (open_text source) v h = refl
sound-opened (open_code text lines blank_text blank_lines) v h = refl
sound-opened (open_fence fence columns text lines) v h = refl
sound-opened (open_html kind text lines) v h = refl

follows-leaf : (q : Bool) (s : Owned) (v : Level) (l : LeafLine) → SoundLine l → Follows q s v (leaf_change l) (push_leaf_line s (block_opens v) l)
unfolding add_all held owned_in own_closed_parts
follows-leaf q s v (stays_open x) h = record { level = sound-opened x v h; now = refl; owned = refl }
follows-leaf q s v (is_last leaves) h = record { level = leaves-add v leaves (some-closed leaves h); now = refl; owned = own-leaves q s leaves }

follows-quote : (q : Bool) (s : Owned) (v : Level) (c : Change) (st : Stack) → Follows true s empty_level c st
    → Follows q s v (change [] (in_quote c.closed c.now)) (stack (block_opens v) (in_quote st.level st.now) st.owned)
unfolding add_all held owned_in own_closed_parts
follows-quote q s v c st f = record { level = refl; now = ap₂ in_quote f.level f.now; owned = f.owned }

follows-item : (q : Bool) (s : Owned) (v : Level) (kind : ListKind) (column : ℕ) (bare : Bool) (qs : List ClosedPart) (c : Change) (st : Stack) → Beyond qs c.closed
    → Follows q (own_item q s qs) (add_all empty_level (past_blank qs)) c st
    → Follows q s v (change [] (in_item kind column bare (qs ++ c.closed) c.now)) (stack (item_opens v kind) (in_item kind column bare st.level st.now) st.owned)
unfolding add_all held owned_in own_closed_parts
follows-item q s v kind column bare qs c st beyond f = record {
  level = refl;
  now = ap₂ (in_item kind column bare) (f.level ∙ ap (opened c.now) (sym (item-add-append qs c.closed beyond))) f.now;
  owned = f.owned ∙ ap (λ s. owned_in q s c.now) (sym (item-own-append q s qs c.closed beyond));
}

-- the first line of an item

-- its level without the blank line, and its owners, in a quote or not
record First (c : Change) : Type 0 where
  level : not_blank (opened c.now (add_all empty_level c.closed)) ≡ opened c.now (add_all empty_level (past_blank c.closed))
  owned : (q : Bool) (s : Owned) → owned_in true (own_closed_parts true s c.closed) c.now ≡ owned_in q (own_item q s c.closed) c.now

not_blank-leaves : (v : Level) (xs : List (LeafPart × ℕ)) → not_blank (add_all (not_blank v) (parts_of_leaves xs)) ≡ add_all (not_blank v) (parts_of_leaves xs)
unfolding add_all add
not_blank-leaves v [] = refl
not_blank-leaves v (x ∷ xs) = not_blank-leaves (push_block (not_blank v) (leaf_block x.0)) xs

opened-not_blank : (x : OpenLeaf) → not_blank (opened_leaf x empty_level) ≡ opened_leaf x empty_level
opened-not_blank no_leaf = refl
opened-not_blank (open_text source) = refl
opened-not_blank (open_code text lines blank_text blank_lines) = refl
opened-not_blank (open_fence fence columns text lines) = refl
opened-not_blank (open_html kind text lines) = refl

first-by : (begin : LineView → Change) (b : LineOpens) → OfInner (λ inner. First (begin inner)) b → First (begin_by begin b)
unfolding add_all add owned_in own_closed_parts
first-by begin begins_nothing i = record { level = refl; owned = λ q s. refl }
first-by begin (begins_leaf (stays_open x)) i = record { level = opened-not_blank x; owned = λ q s. refl }
first-by begin (begins_leaf (is_last leaves)) i = record {
  level = not_blank-leaves empty_level leaves ∙ ap (add_all empty_level) (sym (past-leaves leaves));
  owned = λ q s. sym (own-leaves true s leaves) ∙ own-leaves q s leaves ∙ sym (item-own-same q s (parts_of_leaves leaves) (past-leaves leaves));
}
first-by begin (begins_quote inner) i = record { level = refl; owned = λ q s. refl }
first-by begin (begins_item kind column inner) i = record { level = refl; owned = λ q s. sym (i.owned true s) ∙ i.owned q s }

follows-by : (begin : LineView → Change) (push : (q : Bool) → Owned → Level → LineView → Stack) (q : Bool) (s : Owned) (v : Level) (b : LineOpens) → SoundBegin b
    → OfInner (λ inner. Follows true s empty_level (begin inner) (push true s empty_level inner) × First (begin inner)) b → Follows q s v (begin_by begin b) (push_by push q s v b)
unfolding add_all add held owned_in own_closed_parts
follows-by begin push true s v begins_nothing h i = record { level = refl; now = refl; owned = refl }
follows-by begin push false s v begins_nothing h i = record { level = refl; now = refl; owned = refl }
follows-by begin push q s v (begins_leaf l) h i = follows-leaf q s v l h
follows-by begin push q s v (begins_quote inner) h i = follows-quote q s v (begin inner) (push true s empty_level inner) i.0
follows-by begin push q s v (begins_item kind column inner) h i = record {
  level = refl;
  now = ap₂ (in_item kind column (is_blank inner)) (ap not_blank i.0.level ∙ i.1.level) i.0.now;
  owned = i.0.owned ∙ i.1.owned q s;
}

module _ (rules : Rules) where
  first-within : (n : ℕ) (line : LineView) → marks line.text < n → First (begin_within rules n line)
  unfolding begin_within
  first-within zero line less = absurd (omega arith)
  first-within (suc n) line less =
      first-by (λ l. begin_within rules n l) (begin_of rules line)
      (of-less (λ l. marks l.text < marks line.text) _ (λ l fewer. first-within n l (omega arith)) (begin_of rules line) (inner-less rules line))

  follows-within : (n : ℕ) (q : Bool) (s : Owned) (v : Level) (line : LineView) → marks line.text < n → Follows q s v (begin_within rules n line) (push_within rules n q s v line)
  unfolding begin_within push_within
  follows-within zero q s v line less = absurd (omega arith)
  follows-within (suc n) q s v line less =
      follows-by (λ l. begin_within rules n l) (λ q s v inner. push_within rules n q s v inner) q s v (begin_of rules line) (begin-sound rules line)
      (of-less (λ l. marks l.text < marks line.text) _ (λ l fewer. (follows-within n true s empty_level l (omega arith), first-within n l (omega arith))) (begin_of rules line) (inner-less rules line))

  follows-begin : (q : Bool) (s : Owned) (v : Level) (line : LineView) → Follows q s v (begin rules line) (push_begin rules q s v line)
  unfolding begin push_begin
  follows-begin q s v line = follows-within (suc (marks line.text)) q s v line (le_refl _)

  follows-after : (q : Bool) (s : Owned) (v : Level) (ps : List ClosedPart) (o : Open (List ClosedPart)) (line : LineView) → Fit ps o
      → Follows q s v (after_closing rules (closing o) line) (push_after rules q (owned_in q s o) (opened o v) (held o) line)
  follows-after q s v ps o line h =
      follows-beyond q s v (closing o) (begin rules line) _
      (subst (λ w. Follows q (own_closed_parts q s (closing o)) (add_all v (closing o)) (begin rules line) (push_begin rules q (own_open q (owned_in q s o) (held o)) w line)) (sym (close-held v ps o h))
      (subst (λ t. Follows q (own_closed_parts q s (closing o)) (add_all v (closing o)) (begin rules line) (push_begin rules q t (add_all v (closing o)) line)) (sym (own-held q s ps o h))
      (follows-begin q (own_closed_parts q s (closing o)) (add_all v (closing o)) line)))

  -- after an item that isn't fresh no blank line comes first

  past-closed : (o : Open (List ClosedPart)) (line : LineView) → NotFresh [] o → Fit [] o → past_blank (closing o ++ (begin rules line).closed) ≡ closing o ++ (begin rules line).closed
  unfolding closing closed_leaves Fit
  past-closed (in_leaf no_leaf) line n h = absurd n
  past-closed (in_leaf (open_text source)) line n h =
      let xs = parts_of_leaves (run_leaves None source) in
      ap past_blank (append_assoc xs [] (begin rules line).closed) ∙ run-past (run_leaves None source) ([] ++ (begin rules line).closed) (some-leaf (open_text source) h)
      ∙ sym (append_assoc xs [] (begin rules line).closed)
  past-closed (in_leaf (open_code text lines blank_text blank_lines)) line n h = refl
  past-closed (in_leaf (open_fence fence columns text lines)) line n h = refl
  past-closed (in_leaf (open_html kind text lines)) line n h = refl
  past-closed (in_quote ps o) line n h = refl
  past-closed (in_item kind column bare ps o) line n h = refl

  step-past : (o : Open (List ClosedPart)) (line : LineView) → NotFresh [] o → Fit [] o → past_blank (step rules o line).closed ≡ (step rules o line).closed
  unfolding step
  step-past (in_leaf x) line n h = go (line_of_leaf rules x line)
    where
      go : (l : Option LeafLine) → past_blank (leaf_step rules x line l).closed ≡ (leaf_step rules x line l).closed
      go None = past-closed (in_leaf x) line n h
      go (Some (stays_open y)) = refl
      go (Some (is_last leaves)) = past-leaves leaves
  step-past (in_quote ps o) line n h = go (goes_inward (continuation_in_quote rules line) (has_open_text o))
    where
      go : (l : Option LineView) → (λ (c : Change). past_blank c.closed ≡ c.closed) (elim l as (λ _. Change) [
        | Some inner ↦ let c = step rules o inner in change [] (in_quote (ps ++ c.closed) c.now)
        | None ↦ after_closing rules (closing (in_quote ps o)) line
      ])
      go None = past-closed (in_quote ps o) line n h
      go (Some inner) = refl
  step-past (in_item kind column bare ps o) line n h = go (goes_inward (continuation_in_item rules column bare line) (has_open_text o))
    where
      go : (l : Option LineView) → (λ (c : Change). past_blank c.closed ≡ c.closed) (elim l as (λ _. Change) [
        | Some inner ↦ let c = step rules o inner in change [] (in_item kind column false (ps ++ c.closed) c.now)
        | None ↦ after_closing rules (closing (in_item kind column bare ps o)) line
      ])
      go None = past-closed (in_item kind column bare ps o) line n h
      go (Some inner) = refl

  step-beyond : (ps : List ClosedPart) (o : Open (List ClosedPart)) (line : LineView) → NotFresh ps o → Fit ps o → Beyond ps (step rules o line).closed
  step-beyond [] o line n h = step-past o line n h
  step-beyond (closed_blank ∷ ps) o line n h = refl
  step-beyond (closed_leaf x m ∷ ps) o line n h = refl
  step-beyond (closed_quote c ∷ ps) o line n h = refl
  step-beyond (closed_item kind c ∷ ps) o line n h = refl

  -- each line

  follows-step : (o : Open (List ClosedPart)) (q : Bool) (s : Owned) (v : Level) (ps : List ClosedPart) (line : LineView) → Fit ps o → Follows q s v (step rules o line) (push_in rules q (owned_in q s o) (opened o v) (held o) line)
  unfolding Fit step push_in held owned_in line_of_leaf
  follows-step (in_leaf x) q s v ps line h = go x h (line_of_leaf rules x line) refl (sound-line rules x ps line h)
    where
      go : (x : OpenLeaf) → FitLeaf ps x → (l : Option LeafLine) → line_of_leaf rules x line ≡ l → SoundLineOf l → Follows q s v (leaf_step rules x line l) (push_to_leaf rules q s (opened_leaf x v) x line l)
      go x h None e sound = follows-after q s v ps (in_leaf x) line h
      go no_leaf h (Some l) e sound = grind (arith, e)
      go (open_text source) h (Some l) e sound = follows-leaf q s v l sound
      go (open_code text lines blank_text blank_lines) h (Some l) e sound = follows-leaf q s v l sound
      go (open_fence fence columns text lines) h (Some l) e sound = follows-leaf q s v l sound
      go (open_html kind text lines) h (Some l) e sound = follows-leaf q s v l sound
  follows-step (in_quote qs o) q s v ps line h =
      subst (λ b. Follows q s v (step rules (in_quote qs o) line) (pushed (goes_inward (continuation_in_quote rules line) b))) (sym (held-open o))
      (go (goes_inward (continuation_in_quote rules line) (has_open_text o)) (λ inner. follows-step o true (own_closed_parts true s qs) (add_all empty_level qs) qs inner h))
    where
      now : Owned
      now = owned_in true (own_closed_parts true s qs) o

      w : Level
      w = opened o (add_all empty_level qs)

      pushed : Option LineView → Stack
      pushed l = elim l as (λ _. Stack) [
        | Some inner ↦ let c = push_in rules true now w (held o) inner in stack (block_opens v) (in_quote c.level c.now) c.owned
        | None ↦ push_after rules q now (block_opens v) (in_quote w (held o)) line
      ]

      go : (l : Option LineView) → ((inner : LineView) → Follows true (own_closed_parts true s qs) (add_all empty_level qs) (step rules o inner) (push_in rules true now w (held o) inner))
          → Follows q s v (elim l as (λ _. Change) [
            | Some inner ↦ let c = step rules o inner in change [] (in_quote (qs ++ c.closed) c.now)
            | None ↦ after_closing rules (closing (in_quote qs o)) line
          ]) (pushed l)
      go None f = follows-after q s v ps (in_quote qs o) line h
      go (Some inner) f = follows-quote q s v (change (qs ++ (step rules o inner).closed) (step rules o inner).now) _ (follows-beyond true s empty_level qs (step rules o inner) _ (f inner))
  follows-step (in_item kind column bare qs o) q s v ps line h =
      subst (λ b. Follows q s v (step rules (in_item kind column bare qs o) line) (pushed (goes_inward (continuation_in_item rules column bare line) b))) (sym (held-open o))
      (go (goes_inward (continuation_in_item rules column bare line) (has_open_text o)) (λ inner. follows-step o q (own_item q s qs) (add_all empty_level (past_blank qs)) qs inner h.1))
    where
      w : Level
      w = opened o (add_all empty_level (past_blank qs))

      now : Owned
      now = owned_in q (own_item q s qs) o

      pushed : Option LineView → Stack
      pushed l = elim l as (λ _. Stack) [
        | Some inner ↦ let c = push_in rules q now w (held o) inner in stack (item_opens v kind) (in_item kind column false c.level c.now) c.owned
        | None ↦ push_after rules q now (item_opens v kind) (in_item kind column bare w (held o)) line
      ]

      go : (l : Option LineView) → ((inner : LineView) → Follows q (own_item q s qs) (add_all empty_level (past_blank qs)) (step rules o inner) (push_in rules q now w (held o) inner))
          → Follows q s v (elim l as (λ _. Change) [
            | Some inner ↦ let c = step rules o inner in change [] (in_item kind column false (qs ++ c.closed) c.now)
            | None ↦ after_closing rules (closing (in_item kind column bare qs o)) line
          ]) (pushed l)
      go None f = follows-after q s v ps (in_item kind column bare qs o) line h
      go (Some inner) f = follows-item q s v kind column false qs (step rules o inner) _ (step-beyond qs o inner h.0 h.1) (f inner)

  pub follows-line : (q : Bool) (s : Owned) (v : Level) (m : Machine) (st : Stack) (line : LineView) → Fit m.closed m.now → Follows q s v m st
      → Follows q s v (take_line rules m line) (push_in rules q st.owned st.level st.now line)
  unfolding take_line
  follows-line q s v m st line h f =
      follows-beyond q s v m.closed (step rules m.now line) _
      (subst (λ w. Follows q t u c (push_in rules q st.owned w st.now line)) (sym f.level)
      (subst (λ o. Follows q t u c (push_in rules q st.owned (opened m.now u) o line)) (sym f.now)
      (subst (λ r. Follows q t u c (push_in rules q r (opened m.now u) (held m.now) line)) (sym f.owned) (follows-step m.now q t u m.closed line h))))
    where
      t : Owned
      t = own_closed_parts q s m.closed

      u : Level
      u = add_all v m.closed

      c : Change
      c = step rules m.now line

  follows-lines : (s : Owned) (v : Level) (m : Machine) (st : Stack) (lines : List LineView) → Fit m.closed m.now → Follows false s v m st
      → Follows false s v (take_lines rules m lines) (push_lines rules st lines) × Fit (take_lines rules m lines).closed (take_lines rules m lines).now
  unfolding take_lines push_lines push_line take_line
  follows-lines s v m st [] h f = (f, h)
  follows-lines s v m st (line ∷ lines) h f =
      follows-lines s v (take_line rules m line) (push_line rules st line) lines (fits-step rules m.now line m.closed h).0 (follows-line false s v m st line h f)

  -- the stack of the document, closed
  record Comes (lines : List LineView) (st : Stack) : Type 0 where
    level : close_open st.level st.now ≡ add_all empty_level ((take_lines rules new_machine lines).closed ++ closing (take_lines rules new_machine lines).now)
    owned : own_open false st.owned st.now ≡ own_closed_parts false empty_stack.owned ((take_lines rules new_machine lines).closed ++ closing (take_lines rules new_machine lines).now)

  pub follows-new : Follows false empty_stack.owned empty_level new_machine empty_stack
  unfolding add_all held owned_in own_closed_parts
  follows-new = record { level = refl; now = refl; owned = refl }

  comes : (lines : List LineView) → Comes lines (push_lines rules empty_stack lines)
  comes lines =
      let r : Follows false empty_stack.owned empty_level m (push_lines rules empty_stack lines) × Fit m.closed m.now = follows-lines empty_stack.owned empty_level new_machine empty_stack lines fit-new follows-new in
      record {
        level = ap₂ close_open r.0.level r.0.now ∙ close-held (add_all empty_level m.closed) m.closed m.now r.1 ∙ sym (add_all-append empty_level m.closed (closing m.now));
        owned = ap₂ (own_open false) r.0.owned r.0.now ∙ own-held false (own_closed_parts false empty_stack.owned m.closed) m.closed m.now r.1 ∙ sym (own-append false empty_stack.owned m.closed (closing m.now));
      }
    where
      m : Machine
      m = take_lines rules new_machine lines

pub stack_blocks : StackBlocks
unfolding close_stack blocks_of parts_in_one_pass close
stack_blocks rules lines =
    let m = take_lines rules new_machine lines in
    ap closed_blocks (comes rules lines).level ∙ (level_of_parts (m.closed ++ closing m.now)).blocks ∙ ap blocks_of_parts (one_pass rules lines)

pub stack_owners : StackOwners
unfolding close_stack owners_of line_owners parts_in_one_pass close
stack_owners rules lines =
    let m = take_lines rules new_machine lines in
    ap (λ (s : Owned). s.owners) ((comes rules lines).owned ∙ own-law false empty_stack.owned (m.closed ++ closing m.now))
    ∙ mark-none _
    ∙ ap line_owners (one_pass rules lines)

pub stack_table : StackTable
unfolding close_stack reference_table table_of parts_in_one_pass close
stack_table rules lines =
    let m = take_lines rules new_machine lines in
    ap (λ (s : Owned). s.table) ((comes rules lines).owned ∙ own-law false empty_stack.owned (m.closed ++ closing m.now))
    ∙ ap table_of (one_pass rules lines)

pub one_owner_each : OneOwnerEach
one_owner_each rules lines h = ap length (stack_owners rules lines) ∙ one_owner rules lines h

pub ruleset of_stacks = (stack_blocks, stack_owners, stack_table)
