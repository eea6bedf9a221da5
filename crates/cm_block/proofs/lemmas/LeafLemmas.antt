-- The open leaf as the code has it: what one more line does to it.
use Rattle.std.proofs.Common.{◌≡◌, ℕ, zero, suc, ◌+◌, ◌<◌, ◌≤◌, Bool, true, false, List, [], ◌∷◌, ◌++◌, replicate, Option, Some, None, string_bytes, refl, sym, ap, ap₂, ◌∙◌, arith}
use Rattle.std.specs.Prelude.{nat_le, not, ◌&&◌, ◌||◌}
use Rattle.std.specs.Option.{is_some, option_map, unwrap_or}
use Rattle.std.proofs.lemmas.List.{append_assoc}
use Rattle.std.proofs.lemmas.Bool.Decides.{nat_tests}
use Rattle.cm_tree.specs.declared.tree.Block.{Block}
use Rattle.cm_text.specs.Rules.{Rules}
use Rattle.cm_text.specs.Lines.{LineView}
use Rattle.cm_text.specs.Indentation.{indent_of, strip_columns}
use Rattle.cm_scan.specs.Words.{given, is_at_word, holds_word}
use Rattle.cm_scan.specs.blocks.Lines.{is_blank, with_ending}
use Rattle.cm_scan.specs.blocks.HtmlBlocks.{HtmlKind, RawText, Comment, Instruction, Declaration, CharacterData, BlockTag, AnyTag, is_html_end, ends_at_blank_line}
use Rattle.cm_scan.specs.blocks.LineForms.{Fence}
use Rattle.cm_scan.specs.blocks.Starts.{Start, IndentedCode, QuoteMarker, AtxHeading, OpeningFence, HtmlStart, BreakLine, ItemStart, TextLine}
use Rattle.cm_scan.specs.blocks.Parts.{LeafPart, html, leaf_block, info_of}
use Rattle.cm_scan.specs.blocks.Blocks.{line_feeds, add_text, NextLine, GoesOn, Ends, Underlines, next_line, closes_fence, code_line}
use Rattle.cm_block.proofs.lemmas.FeedLemmas.{feeds_append, feeds_ended}
use Rattle.cm_block.specs.declared.open_leaf.OpenLeaf.{OpenLeaf}
use Rattle.cm_block.specs.declared.open_leaf.LeafLine as code
use Rattle.cm_block.specs.declared.open_leaf.LeafLine.TheVariants.{Stays}
use Rattle.cm_block.specs.declared.open_leaf.Ending.{Ending}
use Rattle.cm_block.specs.declared.open_leaf.Ending.TheVariants.{Plain, Underline}
use Rattle.cm_block.specs.declared.leaf_kind.LeafKind.{LeafKind}
use Rattle.cm_block.specs.declared.leaf_kind.LeafKind.TheVariants as leaf
use Rattle.cm_block.specs.OpenLeaf.{no_leaf, open_text, open_code, open_fence, open_html, closed_leaves, LeafLine, stays_open, is_last, LineOpens, begins_leaf, begin_of_start, line_of_text, line_of_code, line_of_fence, line_of_html, line_of_leaf}
use Rattle.cm_block.specs.Level.{Level, block_closes}
use Rattle.cm_block.specs.Stack.{Owned, close_leaves, own_leaves}
use Rattle.cm_block.specs.LeafViews.{ended, code_of, leaf_with, leaf_of}
use Rattle.cm_block.specs.steps.LeafSteps.{leaf_line, leaves_of_kind, leaves_with, taken_of, own_plain_leaf}
use Rattle.cm_block.specs.steps.FirstLines.{first_of, begins_container, whole_leaf, is_whole, of_one_line, whole_leaves, opens_leaf}

-- spaces before a line don't matter to the end of an HTML block

end-space : (kind : HtmlKind) (text : List ℕ) → is_html_end kind (32 ∷ text) ≡ is_html_end kind text
unfolding is_html_end holds_word is_at_word
end-space RawText text = refl
end-space Comment text = refl
end-space Instruction text = refl
end-space Declaration text = refl
end-space CharacterData text = refl
end-space BlockTag text = refl
end-space AnyTag text = refl

end-spaces : (kind : HtmlKind) (n : ℕ) (text : List ℕ) → is_html_end kind (replicate n 32 ++ text) ≡ is_html_end kind text
end-spaces kind zero text = refl
end-spaces kind (suc n) text = end-space kind (replicate n 32 ++ text) ∙ end-spaces kind n text

some-given : (there : Bool) (end : ℕ) → is_some (given there end) ≡ there
some-given true end = refl
some-given false end = refl

pub html_ends : (kind : HtmlKind) (n : ℕ) (text : List ℕ) (read : Option ℕ) (end : ℕ) → read ≡ given (is_html_end kind text) end
    → is_some read ≡ is_html_end kind (replicate n 32 ++ text)
html_ends kind n text read end e = ap is_some e ∙ some-given (is_html_end kind text) end ∙ sym (end-spaces kind n text)

pub no_html_end : (kind : HtmlKind) (text : List ℕ) → ends_at_blank_line kind ≡ true → false ≡ is_html_end kind text
unfolding is_html_end
no_html_end RawText text ends = absurd (cc ends)
no_html_end Comment text ends = absurd (cc ends)
no_html_end Instruction text ends = absurd (cc ends)
no_html_end Declaration text ends = absurd (cc ends)
no_html_end CharacterData text ends = absurd (cc ends)
no_html_end BlockTag text ends = refl
no_html_end AnyTag text ends = refl

-- by which kind it is open

pub is_nothing : (kind : LeafKind) (text blanks info : List ℕ) → leaf_with kind text blanks info ≡ no_leaf → kind ≡ leaf.Nothing
is_nothing leaf.Nothing text blanks info h = refl
is_nothing leaf.Run text blanks info h = absurd (cc (h))
is_nothing leaf.Code text blanks info h = absurd (cc (h))
is_nothing (leaf.Fence kind columns) text blanks info h = absurd (cc (h))
is_nothing (leaf.Html kind) text blanks info h = absurd (cc (h))

pub nothing_open : (now : OpenLeaf) → now.kind ≡ leaf.Nothing → leaf_of now ≡ no_leaf
nothing_open now e = ap (λ k. leaf_with k now.text now.blank_lines (string_bytes now.info)) e

pub no_text : (now : OpenLeaf) → leaf_of now ≡ no_leaf → now.text ≡ []
no_text now h = now.empty (is_nothing now.kind now.text now.blank_lines (string_bytes now.info) h)

pub line_by_kind : (rules : Rules) (now : OpenLeaf) (kind : LeafKind) (line : LineView) → now.kind ≡ kind
    → line_of_leaf rules (leaf_with kind now.text now.blank_lines (string_bytes now.info)) line ≡ line_of_leaf rules (leaf_of now) line
line_by_kind rules now kind line e = ap (λ k. line_of_leaf rules (leaf_with k now.text now.blank_lines (string_bytes now.info)) line) (sym e)

pub leaves_by_kind : (ending : Ending) (now : OpenLeaf) (kind : LeafKind) → now.kind ≡ kind → leaves_of_kind ending kind now.text (string_bytes now.info) ≡ leaves_with ending now
leaves_by_kind ending now kind e = ap (λ k. leaves_of_kind ending k now.text (string_bytes now.info)) (sym e)

-- closing

closes-kind : (kind : LeafKind) (text blanks info : List ℕ) → leaves_of_kind Plain kind text info ≡ closed_leaves (leaf_with kind text blanks info)
unfolding closed_leaves
closes-kind leaf.Nothing text blanks info = refl
closes-kind leaf.Run text blanks info = refl
closes-kind leaf.Code text blanks info = refl
closes-kind (leaf.Fence kind columns) text blanks info = refl
closes-kind (leaf.Html kind) text blanks info = refl

pub closes : (now : OpenLeaf) → leaves_with Plain now ≡ closed_leaves (leaf_of now)
closes now = closes-kind now.kind now.text now.blank_lines (string_bytes now.info)

-- a line after indented code

module _ (rules : Rules) where
  line-of-code : (text blanks : List ℕ) (line : LineView) (blank indented : Bool) → is_blank line ≡ blank → nat_le 4 (indent_of line) ≡ indented
      → line_of_code (ended text) (suc (line_feeds text)) blanks (line_feeds blanks) line blank indented ≡ line_of_leaf rules (code_of text blanks) line
  unfolding line_of_leaf
  line-of-code text blanks line blank indented b i =
      sym (λ k. line_of_code (ended text) (suc (line_feeds text)) blanks (line_feeds blanks) line (b k) (i k))

  pub waits : (text blanks after : List ℕ) (line : LineView) → is_blank line ≡ true → after ≡ blanks ++ with_ending (strip_columns 4 line) → line_feeds after ≡ suc (line_feeds blanks)
      → given true (stays_open (code_of text after)) ≡ line_of_leaf rules (code_of text blanks) line
  waits text blanks after line blank e feeds =
      let same : code_of text after ≡ open_code (ended text) (suc (line_feeds text)) (blanks ++ with_ending (strip_columns 4 line)) (suc (line_feeds blanks)) =
      ap₂ (open_code (ended text) (suc (line_feeds text))) e feeds in
      ap (λ x. Some (stays_open x)) same ∙ line-of-code text blanks line true (nat_le 4 (indent_of line)) blank refl

  pub no_code : (text blanks : List ℕ) (line : LineView) → is_blank line ≡ false → indent_of line < 4
      → given false (stays_open (code_of text blanks)) ≡ line_of_leaf rules (code_of text blanks) line
  no_code text blanks line blank near =
      let far : nat_le 4 (indent_of line) ≡ false = grind (arith, nat_tests, near) in
      line-of-code text blanks line false false blank far

  pub goes_on : (text blanks after : List ℕ) (line : LineView) → is_blank line ≡ false → 4 ≤ indent_of line
      → after ≡ ((text ++ 10 ∷ []) ++ blanks) ++ (strip_columns 4 line).text → line_feeds after ≡ line_feeds ((text ++ 10 ∷ []) ++ blanks)
      → given true (stays_open (code_of after [])) ≡ line_of_leaf rules (code_of text blanks) line
  unfolding line_feeds
  goes_on text blanks after line blank far e feeds =
      let indented : nat_le 4 (indent_of line) ≡ true = grind (arith, nat_tests, far) in
      let ends : ended after ≡ ended text ++ blanks ++ with_ending (strip_columns 4 line) = ap ended e ∙ append_assoc ((text ++ 10 ∷ []) ++ blanks) (strip_columns 4 line).text (10 ∷ []) in
      let lines : suc (line_feeds after) ≡ suc (line_feeds text) + line_feeds blanks + 1 = omega (arith, feeds, feeds_append (text ++ 10 ∷ []) blanks, feeds_ended text) in
      ap₂ (λ t n. Some (stays_open (open_code t n [] 0))) ends lines ∙ line-of-code text blanks line false true blank indented

-- a line after each other kind of leaf

module _ (rules : Rules) where
  pub no_line : (line : LineView) → None ≡ line_of_leaf rules no_leaf line
  unfolding line_of_leaf
  no_line line = refl

  text-line : (source : List ℕ) (line : LineView) (next : NextLine) → next ≡ next_line rules source line → line_of_text source line next ≡ line_of_leaf rules (open_text source) line
  unfolding line_of_leaf
  text-line source line next e = ap (line_of_text source line) e

  pub fence_line : (fence : Fence) (columns : ℕ) (text : List ℕ) (lines : ℕ) (line : LineView) (closes : Bool) → closes ≡ closes_fence fence line
      → Some (line_of_fence fence columns text lines line closes) ≡ line_of_leaf rules (open_fence fence columns text lines) line
  unfolding line_of_leaf
  fence_line fence columns text lines line closes e = ap (λ b. Some (line_of_fence fence columns text lines line b)) e

  pub html_out : (kind : HtmlKind) (text : List ℕ) (lines : ℕ) (line : LineView) → (ends_at_blank_line kind && is_blank line) ≡ true → None ≡ line_of_leaf rules (open_html kind text lines) line
  unfolding line_of_leaf
  html_out kind text lines line e =
      sym (ap (λ b. elim b as (λ _. Option LeafLine) [ true ↦ None | false ↦ Some (line_of_html kind text lines line (is_html_end kind line.text)) ]) e)

  pub html_line : (kind : HtmlKind) (text : List ℕ) (lines : ℕ) (line : LineView) (ends : Bool) → (ends_at_blank_line kind && is_blank line) ≡ false → ends ≡ is_html_end kind line.text
      → Some (line_of_html kind text lines line ends) ≡ line_of_leaf rules (open_html kind text lines) line
  unfolding line_of_leaf
  html_line kind text lines line ends e k =
      ap (λ b. Some (line_of_html kind text lines line b)) k
      ∙ sym (ap (λ b. elim b as (λ _. Option LeafLine) [ true ↦ None | false ↦ Some (line_of_html kind text lines line (is_html_end kind line.text)) ]) e)

-- a line after a run, as the code has both
module _ (rules : Rules) (before : OpenLeaf) where
  -- one that was added to it
  pub run_goes_on : (now : OpenLeaf) (line : LineView) (taken : code.LeafLine) → before.kind ≡ leaf.Run → now.kind ≡ leaf.Run → taken ≡ Stays → taken ≡ leaf_line (next_line rules before.text line)
      → now.text ≡ add_text before.text line → taken_of taken now ≡ line_of_leaf rules (leaf_of before) line
  run_goes_on now line taken run still stays e text =
      ap (λ t. taken_of t now) stays
      ∙ ap₂ (λ k t. Some (stays_open (leaf_with k t now.blank_lines (string_bytes now.info)))) still text
      ∙ text-line rules before.text line GoesOn (goes-on (next_line rules before.text line) (sym stays ∙ e))
      ∙ line_by_kind rules before leaf.Run line run
    where
      goes-on : (next : NextLine) → Stays ≡ leaf_line next → GoesOn ≡ next
      goes-on GoesOn e = refl
      goes-on Ends e = absurd (cc)
      goes-on (Underlines level) e = absurd (cc)

  -- one that wasn't
  pub run_ends : (line : LineView) (taken : code.LeafLine) → before.kind ≡ leaf.Run → (taken ≡ Stays → ⊥) → taken ≡ leaf_line (next_line rules before.text line)
      → taken_of taken before ≡ line_of_leaf rules (leaf_of before) line
  run_ends line taken run ends e = go (next_line rules before.text line) refl ∙ line_by_kind rules before leaf.Run line run
    where
      go : (next : NextLine) → next_line rules before.text line ≡ next → taken_of taken before ≡ line_of_leaf rules (open_text before.text) line
      go GoesOn is = absurd (ends (e ∙ ap leaf_line is))
      go Ends is = ap (λ t. taken_of t before) (e ∙ ap leaf_line is) ∙ text-line rules before.text line Ends (sym is)
      go (Underlines level) is =
          ap (λ t. taken_of t before) (e ∙ ap leaf_line is)
          ∙ ap (λ k. Some (is_last (leaves_of_kind (Underline level) k before.text (string_bytes before.info)))) run
          ∙ text-line rules before.text line (Underlines level) (sym is)

-- lines that line feeds part, and one more
pub one_more : (text after line : List ℕ) → after ≡ text ++ 10 ∷ line → ended after ≡ ended text ++ (line ++ 10 ∷ [])
one_more text after line e = ap ended e ∙ append_assoc text (10 ∷ line) (10 ∷ []) ∙ sym (append_assoc text (10 ∷ []) (line ++ 10 ∷ []))

-- first lines

pub code_begins : (rules : Rules) (text blanks : List ℕ) (line : LineView) → text ≡ (strip_columns 4 line).text → line_feeds text ≡ 0 → blanks ≡ []
    → begins_leaf (stays_open (code_of text blanks)) ≡ begin_of_start rules IndentedCode line
unfolding line_feeds
code_begins rules text blanks line e feeds none =
    let lines : suc (line_feeds text) ≡ 1 = ap suc feeds in
    ap₂ (λ t n. begins_leaf (stays_open (open_code t n blanks (line_feeds blanks)))) (ap ended e) lines
    ∙ ap (λ b. begins_leaf (stays_open (open_code (code_line line) 1 b (line_feeds b)))) none

pub html_begins : (rules : Rules) (kind : HtmlKind) (text : List ℕ) (line : LineView) → text ≡ line.text → line_feeds text ≡ 0 → false ≡ is_html_end kind line.text
    → begins_leaf (stays_open (open_html kind (ended text) (suc (line_feeds text)))) ≡ begin_of_start rules (HtmlStart kind) line
html_begins rules kind text line e feeds ends =
    ap₂ (λ t n. begins_leaf (stays_open (open_html kind t n))) (ap ended e) (ap suc feeds) ∙ ap (λ b. begins_leaf (line_of_html kind [] 0 line b)) ends

-- a line that is a leaf by itself

pub whole_begins : (rules : Rules) (start : Start) (line : LineView) → is_whole start ≡ true → begins_leaf (is_last (whole_leaves start)) ≡ begin_of_start rules start line
whole_begins rules (AtxHeading h) line is = refl
whole_begins rules BreakLine line is = refl
whole_begins rules IndentedCode line is = absurd (cc (is))
whole_begins rules QuoteMarker line is = absurd (cc (is))
whole_begins rules (OpeningFence fence) line is = absurd (cc (is))
whole_begins rules (HtmlStart kind) line is = absurd (cc (is))
whole_begins rules (ItemStart marker) line is = absurd (cc (is))
whole_begins rules TextLine line is = absurd (cc (is))

-- any other start of a leaf opens one, of which this is the first line
pub first_opens : (first : code.LeafLine) (now : OpenLeaf) (start : Start) (opens : LineOpens) → is_whole start ≡ false → begins_container start ≡ false
    → first_of first now ≡ given (opens_leaf start) opens → first_of first now ≡ Some opens
first_opens first now start opens whole container e = e ∙ ap₂ (λ w c. given (not (w || c)) opens) whole container

pub first_begins : (first : code.LeafLine) (now : OpenLeaf) (l : LeafLine) (opens : LineOpens) → taken_of first now ≡ Some l → first_of first now ≡ Some opens → begins_leaf l ≡ opens
first_begins first now l opens is e = ap (λ o. unwrap_or o opens) (sym (ap (option_map begins_leaf) is) ∙ e)

pub none_whole : (start : Start) → None ≡ option_map leaf_block (whole_leaf start) → whole_leaf start ≡ None
none_whole start none = go (whole_leaf start) none
  where
    go : (x : Option LeafPart) → None ≡ option_map leaf_block x → x ≡ None
    go None e = refl
    go (Some x) e = absurd (cc (e))

module _ (start : Start) (block : Block) (is : Some block ≡ option_map leaf_block (whole_leaf start)) where
  pub some_whole : true ≡ is_whole start
  some_whole = ap is_some is ∙ go (whole_leaf start)
    where
      go : (x : Option LeafPart) → is_some (option_map leaf_block x) ≡ is_some x
      go None = refl
      go (Some x) = refl

  pub whole_closes : (v : Level) → block_closes v block ≡ close_leaves v (whole_leaves start)
  unfolding close_leaves
  whole_closes v = go (whole_leaf start) is
    where
      go : (x : Option LeafPart) → Some block ≡ option_map leaf_block x → block_closes v block ≡ close_leaves v (of_one_line x)
      go None e = absurd (cc (e))
      go (Some x) e = ap (λ o. block_closes v (unwrap_or o block)) e

  pub whole_owns : (s : Owned) → own_plain_leaf s 1 ≡ own_leaves s (whole_leaves start)
  unfolding own_leaves
  whole_owns s = go start is
    where
      go : (t : Start) → Some block ≡ option_map leaf_block (whole_leaf t) → own_plain_leaf s 1 ≡ own_leaves s (whole_leaves t)
      go (AtxHeading h) e = refl
      go BreakLine e = refl
      go IndentedCode e = absurd (cc (e))
      go QuoteMarker e = absurd (cc (e))
      go (OpeningFence fence) e = absurd (cc (e))
      go (HtmlStart kind) e = absurd (cc (e))
      go (ItemStart marker) e = absurd (cc (e))
      go TextLine e = absurd (cc (e))

pub html_whole : (rules : Rules) (kind : HtmlKind) (text : List ℕ) (line : LineView) → text ≡ line.text → line_feeds text ≡ 0 → true ≡ is_html_end kind line.text
    → begins_leaf (is_last ((html (ended text), suc (line_feeds text)) ∷ [])) ≡ begin_of_start rules (HtmlStart kind) line
html_whole rules kind text line e feeds ends =
    ap₂ (λ t n. begins_leaf (is_last ((html t, n) ∷ []))) (ap ended e) (ap suc feeds) ∙ ap (λ b. begins_leaf (line_of_html kind [] 0 line b)) ends

pub fence_begins : (rules : Rules) (marker count : ℕ) (info source : List ℕ) (columns : ℕ) (text : List ℕ) (line : LineView) → info ≡ info_of rules source → columns ≡ indent_of line → text ≡ []
    → begins_leaf (stays_open (open_fence (record { marker = marker; count = count; info = info }) columns text (suc (line_feeds text))))
    ≡ begin_of_start rules (OpeningFence (record { marker = marker; count = count; info = source })) line
unfolding line_feeds
fence_begins rules marker count info source columns text line e k none =
    ap₂ (λ i n. begins_leaf (stays_open (open_fence (record { marker = marker; count = count; info = i }) n text (suc (line_feeds text))))) e k
    ∙ ap (λ t. begins_leaf (stays_open (open_fence (record { marker = marker; count = count; info = info_of rules source }) (indent_of line) t (suc (line_feeds t))))) none
