-- What a line starts in the innermost of the open containers.
use Rattle.std.proofs.Common.{◌≡◌, ℕ, zero, suc, ◌+◌, ◌<◌, Bool, true, false, ◌&&◌, List, [], ◌∷◌, ◌++◌, length, refl, ◌∙◌, sym, ap, ap₂, arith, le_refl, Option, Some, None}
use Rattle.std.specs.Prelude.{⊤}
use Rattle.cm_text.specs.Rules.{Rules}
use Rattle.cm_text.specs.Lines.{LineView}
use Rattle.cm_tree.specs.declared.tree.ListKind.{ListKind}
use Rattle.cm_scan.specs.blocks.Lines.{is_blank, marks}
use Rattle.cm_scan.specs.blocks.LineForms.{is_same_kind}
use Rattle.cm_scan.specs.blocks.Parts.{LeafPart, leaf_block}
use Rattle.cm_scan.specs.blocks.Starts.{Start, IndentedCode, QuoteMarker, AtxHeading, OpeningFence, HtmlStart, BreakLine, ItemStart, TextLine, start_of}
use Rattle.cm_tree.specs.declared.tree.Owner.TheVariants.{Marker}
use Rattle.cm_block.specs.OpenLeaf.{OpenLeaf, no_leaf, LeafLine, stays_open, is_last as ends, LineOpens, begins_nothing, begins_leaf, begins_quote, begins_item, begin_of_start, begin_of}
use Rattle.cm_block.specs.Machine.{Open, in_leaf, in_quote, in_item}
use Rattle.cm_block.specs.Level.{Level, OpenList, empty_level, block_opens, block_closes, item_opens, item_opens_in, list_opens, list_goes_on}
use Rattle.cm_block.specs.Stack.{Owned, Stack, stack, close_leaves, own_lines, push_leaf_line, not_blank, push_by, push_within, push_begin}
use Rattle.cm_block.specs.Depths.{nesting}
use Rattle.cm_block.specs.Frames.{Container, a_quote, an_item, Frame, opened, is_last, nest, stack_with}
use Rattle.cm_block.specs.steps.FrameSteps.{within}
use Rattle.cm_block.proofs.lemmas.BeginCases.{OfInner, inner-less, of-less}

-- the cases, with no word of how deep the calls go

abbrev Push : Type 0
Push = Bool → Owned → Level → LineView → Stack

agree-by : (f g : Push) (q : Bool) (s : Owned) (v : Level) (b : LineOpens) → OfInner (λ inner. (q : Bool) (s : Owned) (v : Level) → f q s v inner ≡ g q s v inner) b
    → push_by f q s v b ≡ push_by g q s v b
agree-by f g q s v begins_nothing h = refl
agree-by f g q s v (begins_leaf l) h = refl
agree-by f g q s v (begins_quote inner) h = ap (λ (c : Stack). stack (block_opens v) (in_quote c.level c.now) c.owned) (h true s empty_level)
agree-by f g q s v (begins_item kind column inner) h =
    ap (λ (c : Stack). stack (item_opens v kind) (in_item kind column (is_blank inner) (not_blank c.level) c.now) c.owned) (h true s empty_level)

within-agree : (rules : Rules) (n m : ℕ) (q : Bool) (s : Owned) (v : Level) (line : LineView) → marks line.text < n → marks line.text < m
    → push_within rules n q s v line ≡ push_within rules m q s v line
unfolding push_within
within-agree rules zero m q s v line h k = absurd (omega arith)
within-agree rules (suc n) zero q s v line h k = absurd (omega arith)
within-agree rules (suc n) (suc m) q s v line h k =
    agree-by (push_within rules n) (push_within rules m) q s v (begin_of rules line)
    (of-less (λ l. marks l.text < marks line.text) _ (λ l less q s v. within-agree rules n m q s v l (omega arith) (omega arith)) (begin_of rules line) (inner-less rules line))

pub push-cases : (rules : Rules) (q : Bool) (s : Owned) (v : Level) (line : LineView) → push_begin rules q s v line ≡ push_by (push_begin rules) q s v (begin_of rules line)
unfolding push_begin push_within
push-cases rules q s v line =
    agree-by (push_within rules (marks line.text)) (push_begin rules) q s v (begin_of rules line)
    (of-less (λ l. marks l.text < marks line.text) _ (λ l less q s v. within-agree rules (marks line.text) (suc (marks l.text)) q s v l less (le_refl _)) (begin_of rules line) (inner-less rules line))

-- after a line that isn't blank, the level doesn't end in a blank line

leaves-end : (v : Level) (xs : List (LeafPart × ℕ)) → v.ends_blank ≡ false → (close_leaves v xs).ends_blank ≡ false
unfolding close_leaves
leaves-end v [] h = h
leaves-end v (x ∷ xs) h = leaves-end (block_closes v (leaf_block x.0)) xs refl

item-ends : (v : Level) (kind : ListKind) → (item_opens v kind).ends_blank ≡ false
item-ends v kind = go v.open_list
  where
    same : (list : OpenList) (b : Bool) → (elim b as (λ _. Level) [ true ↦ list_goes_on v list | false ↦ list_opens v kind ]).ends_blank ≡ false
    same list true = refl
    same list false = refl

    go : (o : Option OpenList) → (item_opens_in v o kind).ends_blank ≡ false
    go None = refl
    go (Some list) = same list (is_same_kind list.kind kind)

-- what isn't nothing
abbrev pub IsBegin : LineOpens → Type 0
IsBegin begins_nothing = ⊥
IsBegin _ = ⊤

by-ends : (rules : Rules) (q : Bool) (s : Owned) (v : Level) (b : LineOpens) → IsBegin b → (push_by (push_begin rules) q s v b).level.ends_blank ≡ false
by-ends rules q s v begins_nothing h = absurd h
by-ends rules q s v (begins_leaf (stays_open x)) h = refl
by-ends rules q s v (begins_leaf (ends leaves)) h = leaves-end (block_opens v) leaves refl
by-ends rules q s v (begins_quote inner) h = refl
by-ends rules q s v (begins_item kind column inner) h = item-ends v kind

start-begins : (rules : Rules) (start : Start) (line : LineView) → IsBegin (begin_of_start rules start line)
start-begins rules IndentedCode line = tt
start-begins rules QuoteMarker line = tt
start-begins rules (AtxHeading h) line = tt
start-begins rules (OpeningFence fence) line = tt
start-begins rules (HtmlStart kind) line = tt
start-begins rules BreakLine line = tt
start-begins rules (ItemStart marker) line = tt
start-begins rules TextLine line = tt

pub not-nothing : (rules : Rules) (line : LineView) → is_blank line ≡ false → IsBegin (begin_of rules line)
unfolding begin_of
not-nothing rules line h = go (is_blank line) h
  where
    go : (b : Bool) → b ≡ false → IsBegin (elim b as (λ _. LineOpens) [ true ↦ begins_nothing | false ↦ begin_of_start rules (start_of rules line) line ])
    go true h = absurd (cc h)
    go false h = start-begins rules (start_of rules line) line

line-ends : (rules : Rules) (q : Bool) (s : Owned) (v : Level) (line : LineView) → is_blank line ≡ false → (push_begin rules q s v line).level.ends_blank ≡ false
line-ends rules q s v line h = ap (λ (c : Stack). c.level.ends_blank) (push-cases rules q s v line) ∙ by-ends rules q s v (begin_of rules line) (not-nothing rules line h)

still : (w : Level) → w.ends_blank ≡ false → not_blank w ≡ w
still w h = ap (λ b. record w { ends_blank = b }) (sym h)

-- what the line starts

pub begins-nothing : (rules : Rules) (q : Bool) (s : Owned) (v : Level) (line : LineView) → begin_of rules line ≡ begins_nothing
    → push_begin rules q s v line ≡ push_by (push_begin rules) q s v begins_nothing
begins-nothing rules q s v line h = push-cases rules q s v line ∙ ap (push_by (push_begin rules) q s v) h

pub begins-leaf : (rules : Rules) (q : Bool) (s : Owned) (v : Level) (line : LineView) (l : LeafLine) → begin_of rules line ≡ begins_leaf l
    → push_begin rules q s v line ≡ push_leaf_line s (block_opens v) l
begins-leaf rules q s v line l h = push-cases rules q s v line ∙ ap (push_by (push_begin rules) q s v) h

abbrev pub frame : Level → Container → Frame
frame v c = record { level = v; container = c }

pub begins-quote : (rules : Rules) (q : Bool) (s : Owned) (v : Level) (line inner : LineView) → begin_of rules line ≡ begins_quote inner
    → push_begin rules q s v line ≡ within (frame (block_opens v) a_quote ∷ []) (push_begin rules true s empty_level inner)
unfolding within
begins-quote rules q s v line inner h = push-cases rules q s v line ∙ ap (push_by (push_begin rules) q s v) h

pub begins-item : (rules : Rules) (q : Bool) (s : Owned) (v : Level) (line inner : LineView) (kind : ListKind) (column : ℕ) → begin_of rules line ≡ begins_item kind column inner
    → is_blank inner ≡ false → push_begin rules q s v line ≡ within (frame (item_opens v kind) (an_item kind column) ∷ []) (push_begin rules true s empty_level inner)
unfolding within
begins-item rules q s v line inner kind column h some =
    push-cases rules q s v line ∙ ap (push_by (push_begin rules) q s v) h
    ∙ ap₂ (λ b w. stack (item_opens v kind) (in_item kind column b w c.now) c.owned) some (still c.level (line-ends rules true s empty_level inner some))
  where
    c : Stack
    c = push_begin rules true s empty_level inner

pub blank-begins : (rules : Rules) (line : LineView) → is_blank line ≡ true → begin_of rules line ≡ begins_nothing
unfolding begin_of
blank-begins rules line h = grind (arith, h)

pub begins-bare-item : (rules : Rules) (q : Bool) (s : Owned) (v : Level) (line inner : LineView) (kind : ListKind) (column : ℕ) → begin_of rules line ≡ begins_item kind column inner
    → is_blank inner ≡ true
    → push_begin rules q s v line ≡ stack_with true (frame (item_opens v kind) (an_item kind column) ∷ []) empty_level no_leaf (own_lines s (Marker ∷ []))
unfolding nest
begins-bare-item rules q s v line inner kind column h none =
    push-cases rules q s v line ∙ ap (push_by (push_begin rules) q s v) h
    ∙ ap₂ (λ b (c : Stack). stack (item_opens v kind) (in_item kind column b (not_blank c.level) c.now) c.owned) none
    (begins-nothing rules true s empty_level inner (blank-begins rules inner none))

-- containers around a stack

pub within-append : (fs gs : List Frame) (st : Stack) → within (fs ++ gs) st ≡ within fs (within gs st)
unfolding within
within-append [] gs st = refl
within-append (f ∷ fs) gs st = ap (λ (i : Stack). stack f.level (opened f.container false i.level i.now) i.owned) (within-append fs gs st)

pub nest-within : (fs : List Frame) (v : Level) (x : OpenLeaf) (s : Owned) → stack_with false fs v x s ≡ within fs (stack v (in_leaf x) s)
unfolding within nest
nest-within [] v x s = refl
nest-within (f ∷ fs) v x s = ap (λ (i : Stack). stack f.level (opened f.container false i.level i.now) i.owned) (nest-within fs v x s)

pub nest-last : (bare : Bool) (fs : List Frame) (f : Frame) (v : Level) (x : OpenLeaf) (s : Owned)
    → stack_with bare (fs ++ f ∷ []) v x s ≡ within fs (stack_with bare (f ∷ []) v x s)
unfolding within nest
nest-last bare [] f v x s = refl
nest-last bare (g ∷ fs) f v x s =
    ap (λ (b : Bool). stack g.level (opened g.container b (nest bare (fs ++ f ∷ []) v x).0 (nest bare (fs ++ f ∷ []) v x).1) s) (not-the-last fs)
    ∙ ap (λ (i : Stack). stack g.level (opened g.container false i.level i.now) i.owned) (nest-last bare fs f v x s)
  where
    no : (b : Bool) → (b && false) ≡ false
    no true = refl
    no false = refl

    not-the-last : (fs : List Frame) → (bare && is_last (fs ++ f ∷ [])) ≡ false
    not-the-last [] = no bare
    not-the-last (h ∷ hs) = no bare

-- how many are open

open-nesting : (c : Container) (bare : Bool) (v : Level) (now : Open Level) → nesting (opened c bare v now) ≡ suc (nesting now)
unfolding nesting
open-nesting a_quote bare v now = refl
open-nesting (an_item kind column) bare v now = refl

pub within-nesting : (fs : List Frame) (st : Stack) → nesting (within fs st).now ≡ length fs + nesting st.now
unfolding within
within-nesting [] st = sym (omega arith)
within-nesting (f ∷ fs) st = open-nesting f.container false (within fs st).level (within fs st).now ∙ ap suc (within-nesting fs st) ∙ omega arith

pub nest-nesting : (bare : Bool) (fs : List Frame) (v : Level) (x : OpenLeaf) → nesting (nest bare fs v x).1 ≡ length fs
unfolding nest nesting
nest-nesting bare [] v x = refl
nest-nesting bare (f ∷ fs) v x = open-nesting f.container (bare && is_last fs) (nest bare fs v x).0 (nest bare fs v x).1 ∙ ap suc (nest-nesting bare fs v x)
