-- What a parser stands for, as more bytes come.
use Rattle.std.proofs.Common.{◌≡◌, ℕ, ◌+◌, Bool, true, false, List, [], ◌∷◌, ◌++◌, length, drop, map, refl, sym, ap, ap₂, subst, ◌∙◌, append_assoc, length-append, Some, None}
use Rattle.std.specs.Prelude.{Option, Result, Ok, Err, IfOk, IfErr, OnOk}
use Rattle.cm_text.specs.Answers.{answer_after}
use Rattle.std.specs.Option.{option_map, option_or}
use Rattle.cm_text.specs.declared.fault.TextFault.{TextFault}
use Rattle.cm_text.specs.declared.fault.TextFault.TheVariants as text
use Rattle.cm_text.specs.Limits.{LimitsView}
use Rattle.cm_text.specs.Lines.{LineView, plain_line, last_line, plain_lines_of, text_of}
use Rattle.cm_text.specs.Cut.{Cut, IsFront}
use Rattle.cm_text.specs.Faults.{settled_fault, text_fault}
use Rattle.cm_text.specs.Feed.{Feed, StandsFor as FeedStandsFor, StandsAs, HasEnded, Answers as FeedAnswers, cut_bytes, with_ready}
use Rattle.cm_text.proofs.lemmas.FeedLemmas.{goes, goes_on, whole_lines}
use Rattle.cm_scan.specs.blocks.Blocks.{first_too_deep}
use Rattle.cm_scan.specs.inlines.Brackets.{defined_in}
use Rattle.cm_scan.specs.laws.PartLaws.{AreLines}
use Rattle.cm_tree.specs.declared.tree.Block.{Block}
use Rattle.cm_tree.specs.declared.tree.Owner.{Owner}
use Rattle.cm_tree.specs.declared.tree.Doc.{Doc}
use Rattle.cm_block.specs.declared.fault.BlockFault.{BlockFault}
use Rattle.cm_block.specs.declared.fault.BlockFault.TheVariants as blocks
use Rattle.cm_block.specs.declared.parser.BlockParser.{BlockParser}
use Rattle.cm_block.specs.declared.parser.Outline.{Outline}
use Rattle.cm_block.specs.Parser.{HasTaken, TellsDepth}
use Rattle.cm_block.proofs.lemmas.Depths.{too_deep_stays}
use Rattle.cm_tool.specs.declared.fault.Fault.{Fault}
use Rattle.cm_tool.specs.declared.fault.Fault.TheVariants.{BlocksTooDeep, InlinesTooDeep}
use Rattle.cm_tool.specs.ToldFaults.{told, refused}
use Rattle.cm_tool.specs.Leaves.{first_leaf_past, leaf_depths}
use Rattle.cm_scan.specs.Documents.{with_inlines}
use Rattle.cm_tool.specs.Document.{doc_of}
use Rattle.cm_scan.specs.Documents.{tree_of}
use Rattle.cm_tool.specs.Faults.{fault_of, settled_fault_of}
use Rattle.cm_tool.specs.Parsing.{Goes, TellsFault, Makes}
use Rattle.cm_tool.specs.declared.outlines.leaf_walk.LeafWalk.{LeafWalk}
use Rattle.cm_tool.specs.steps.LeafWalks.{all_left, HasReadAll, TellsOf}
use Rattle.cm_tool.specs.steps.ReadingSteps.{IsOutline}
use Rattle.cm_tool.proofs.lemmas.EndedLemmas.{all_are_lines, ended_are_lines, ended_stay}
use Rattle.cm_tool.specs.FaultOrder.{leaf_deep, of_four, of_two}
use Rattle.cm_tool.proofs.lemmas.LeafWalkLemmas.{walk_told, walk_within}
use Rattle.cm_tool.proofs.lemmas.OrderLemmas.{faults_in_order}

-- an answer without a fault, and with one
pub no_fault : (x : Unit {0}) (of : Option TextFault) → Ok x ≡ answer_after of → of ≡ None
no_fault x None is = refl
no_fault x (Some fault) is = cc

-- what is left of a list after its start
rest_of_front : (front all ready : List LineView) → IsFront front all → ready ≡ drop (length front) all → front ++ ready ≡ all
rest_of_front front all ready is was =
    ap (λ t. front ++ t) (was ∙ ap (drop (length front)) is.1 ∙ drop-length front is.0) ∙ sym is.1
  where
    drop-length : (xs ys : List LineView) → drop (length xs) (xs ++ ys) ≡ ys
    drop-length [] ys = refl
    drop-length (x ∷ xs) ys = drop-length xs ys

-- the lines that can be taken from a feed that has been refused no memory
ready_lines : (fault : Option TextFault) (ended : Bool) (feed : Feed) (bytes : List ℕ) (taken : ℕ) → (fault ≡ Some text.NoMemory → ⊥) → ended ≡ false
    → StandsAs fault ended feed bytes taken → feed.cut.ended ≡ drop taken (cut_bytes feed.limit bytes).ended
ready_lines None false feed bytes taken memory going h = ap (λ (d : Cut). d.ended) h.cut
ready_lines None true feed bytes taken memory going h = cc
ready_lines (Some (text.NotUtf8 at)) ended feed bytes taken memory going h = h.ready
ready_lines (Some (text.TooLong at)) ended feed bytes taken memory going h = h.ready
ready_lines (Some text.NoMemory) ended feed bytes taken memory going h = absurd (memory refl)

-- A line isn't taken in: so it is with those that follow it too.
pub taken_told : (fault : BlockFault) (limits now : LimitsView) (lines front next all : List LineView) (line : LineView) → now ≡ limits → front ++ line ∷ next ≡ all
    → TellsDepth fault now ((lines ++ front) ++ line ∷ []) → AreLines (lines ++ all) → TellsDepth fault limits (lines ++ all)
taken_told fault limits now lines front next all line same parts tells are =
    subst (TellsDepth fault limits) whole (more fault (subst (λ l. TellsDepth fault l ((lines ++ front) ++ line ∷ [])) same tells) (subst AreLines (sym whole) are))
  where
    whole : ((lines ++ front) ++ line ∷ []) ++ next ≡ lines ++ all
    whole = append_assoc (lines ++ front) (line ∷ []) next ∙ append_assoc lines front (line ∷ next) ∙ ap (λ t. lines ++ t) parts

    more : (fault : BlockFault) → TellsDepth fault limits ((lines ++ front) ++ line ∷ []) → AreLines (((lines ++ front) ++ line ∷ []) ++ next)
        → TellsDepth fault limits (((lines ++ front) ++ line ∷ []) ++ next)
    more (blocks.BlocksTooDeep n) e are = too_deep_stays limits.rules limits.blocks n ((lines ++ front) ++ line ∷ []) next are e
    more blocks.NoMemory e are = tt

abbrev pub doc_with : List Block → List Owner → Doc
doc_with blocks owners = record { blocks = blocks; owners = owners }

module _ (limits : LimitsView) where
  abbrev pub ended_of : List ℕ → List LineView
  ended_of bytes = (cut_bytes limits.bytes bytes).ended

  abbrev pub count_of : List ℕ → ℕ
  count_of bytes = length (ended_of bytes)

  abbrev deep : List LineView → Option ℕ
  deep lines = first_too_deep limits.rules limits.blocks lines

  pub stands : (feed : Feed) (before : BlockParser) (bytes : List ℕ) → Goes limits feed before bytes → FeedStandsFor feed bytes (count_of bytes)
  stands feed before bytes g = goes_on feed bytes (count_of bytes) g.sound g.going g.feeds

  -- none of the lines that have been taken in is too deep
  none_deep : (before : BlockParser) (lines : List LineView) → before.limits ≡ limits → HasTaken before lines → deep lines ≡ None
  none_deep before lines same h = ap (λ (l : LimitsView). first_too_deep l.rules l.blocks lines) (sym same) ∙ h.within

  -- so nothing is settled
  pub nothing_settled : (feed : Feed) (before : BlockParser) (bytes : List ℕ) → Goes limits feed before bytes → settled_fault_of limits bytes ≡ None
  nothing_settled feed before bytes g =
      (faults_in_order limits bytes).1
      ∙ ap₂ (λ o t. option_or (option_map BlocksTooDeep o) (option_map told t))
      (none_deep before (ended_of bytes) g.same_limits g.handed) (ap (λ l. settled_fault l bytes) (sym g.limit) ∙ g.feeds.sound)

  -- the lines that had ended, and those that are ready after a piece
  pub all_ended : (pushed : Feed) (bytes piece : List ℕ) → pushed.limit ≡ limits.bytes → pushed.ended ≡ false → (pushed.fault ≡ Some text.NoMemory → ⊥)
      → FeedStandsFor pushed (bytes ++ piece) (count_of bytes) → ended_of bytes ++ pushed.cut.ended ≡ ended_of (bytes ++ piece)
  all_ended pushed bytes piece limit going memory h =
      let P : ℕ → Type 0 = λ l. pushed.cut.ended ≡ drop (count_of bytes) (cut_bytes l (bytes ++ piece)).ended in
      rest_of_front (ended_of bytes) (ended_of (bytes ++ piece)) pushed.cut.ended (ended_stay limits.bytes bytes piece)
      (subst P limit (ready_lines pushed.fault pushed.ended pushed (bytes ++ piece) (count_of bytes) memory going h))

  -- A piece without a fault has been pushed, and its lines taken in.
  pub push_goes : (old pushed new : Feed) (before after : BlockParser) (bytes piece : List ℕ) → Goes limits old before bytes
      → pushed.limit ≡ old.limit → pushed.ended ≡ false → pushed.fault ≡ None → FeedStandsFor pushed (bytes ++ piece) (count_of bytes)
      → new ≡ with_ready [] pushed → FeedStandsFor new (bytes ++ piece) (count_of bytes + length pushed.cut.ended)
      → after.limits ≡ before.limits → HasTaken after (ended_of bytes ++ pushed.cut.ended) → Goes limits new after (bytes ++ piece)
  push_goes old pushed new before after bytes piece g limit going sound was is now same taken =
      let whole = all_ended pushed bytes piece (limit ∙ g.limit) going (λ e. let both : None ≡ Some text.NoMemory = sym sound ∙ e in cc) was in
      let new_going : new.ended ≡ false = ap (λ (f : Feed). f.ended) is ∙ going in
      let new_sound : new.fault ≡ None = ap (λ (f : Feed). f.fault) is ∙ sound in
      let total : count_of bytes + length pushed.cut.ended ≡ count_of (bytes ++ piece) = sym (length-append (ended_of bytes) pushed.cut.ended) ∙ ap length whole in
      record {
        limit = ap (λ (f : Feed). f.limit) is ∙ limit ∙ g.limit;
        same_limits = same ∙ g.same_limits;
        going = new_going;
        sound = new_sound;
        feeds = goes new (bytes ++ piece) (count_of (bytes ++ piece)) new_sound new_going (subst (FeedStandsFor new (bytes ++ piece)) total now);
        handed = subst (HasTaken after) whole taken;
      }

  -- A piece with a fault of the text has been pushed, and the lines before that taken in.
  pub text_told : (fault : TextFault) (pushed : Feed) (after : BlockParser) (bytes piece : List ℕ) → pushed.limit ≡ limits.bytes → pushed.ended ≡ false
      → (pushed.fault ≡ Some text.NoMemory → ⊥) → FeedStandsFor pushed (bytes ++ piece) (count_of bytes)
      → after.limits ≡ limits → HasTaken after (ended_of bytes ++ pushed.cut.ended)
      → FeedAnswers (Err fault) (settled_fault limits.bytes (bytes ++ piece)) → TellsFault (told fault) (settled_fault_of limits (bytes ++ piece))
  text_told fault pushed after bytes piece limit going memory was same taken answers = by_fault fault answers
    where
      none : deep (ended_of (bytes ++ piece)) ≡ None
      none = ap deep (sym (all_ended pushed bytes piece limit going memory was)) ∙ none_deep after (ended_of bytes ++ pushed.cut.ended) same taken

      settled : (fault : TextFault) → settled_fault limits.bytes (bytes ++ piece) ≡ Some fault → settled_fault_of limits (bytes ++ piece) ≡ Some (told fault)
      settled fault e = (faults_in_order limits (bytes ++ piece)).1 ∙ ap₂ (λ o t. option_or (option_map BlocksTooDeep o) (option_map told t)) none e

      by_fault : (fault : TextFault) → FeedAnswers (Err fault) (settled_fault limits.bytes (bytes ++ piece)) → TellsFault (told fault) (settled_fault_of limits (bytes ++ piece))
      by_fault (text.NotUtf8 at) e = settled (text.NotUtf8 at) e
      by_fault (text.TooLong at) e = settled (text.TooLong at) e
      by_fault text.NoMemory e = tt

  -- A piece has been pushed, and one of its lines not taken in.
  pub line_told : (fault : BlockFault) (pushed : Feed) (bytes piece : List ℕ) → pushed.limit ≡ limits.bytes → pushed.ended ≡ false
      → (pushed.fault ≡ Some text.NoMemory → ⊥) → FeedStandsFor pushed (bytes ++ piece) (count_of bytes)
      → (AreLines (ended_of bytes ++ pushed.cut.ended) → TellsDepth fault limits (ended_of bytes ++ pushed.cut.ended))
      → TellsFault (refused fault) (settled_fault_of limits (bytes ++ piece))
  line_told fault pushed bytes piece limit going memory was tells =
      by_fault fault (subst (λ lines. AreLines lines → TellsDepth fault limits lines) whole tells (ended_are_lines limits.bytes (bytes ++ piece)))
    where
      whole : ended_of bytes ++ pushed.cut.ended ≡ ended_of (bytes ++ piece)
      whole = all_ended pushed bytes piece limit going memory was

      by_fault : (fault : BlockFault) → TellsDepth fault limits (ended_of (bytes ++ piece)) → TellsFault (refused fault) (settled_fault_of limits (bytes ++ piece))
      by_fault (blocks.BlocksTooDeep line) e = (faults_in_order limits (bytes ++ piece)).1 ∙ ap (λ o. option_or (option_map BlocksTooDeep o) (option_map told (settled_fault limits.bytes (bytes ++ piece)))) e
      by_fault blocks.NoMemory e = tt

  -- The text ends with a fault,
  pub end_told : (fault : TextFault) (feed : Feed) (before : BlockParser) (bytes : List ℕ) → Goes limits feed before bytes
      → FeedAnswers (Err fault) (text_fault limits.bytes bytes) → TellsFault (told fault) (fault_of limits bytes)
  end_told fault feed before bytes g answers = by_fault fault answers
    where
      fault_is : (fault : TextFault) → text_fault limits.bytes bytes ≡ Some fault → fault_of limits bytes ≡ Some (told fault)
      fault_is fault e =
          (faults_in_order limits bytes).0
          ∙ ap₂ (λ o t. of_four o t (deep (plain_lines_of (text_of bytes))) (leaf_deep limits bytes)) (none_deep before (ended_of bytes) g.same_limits g.handed) e

      by_fault : (fault : TextFault) → FeedAnswers (Err fault) (text_fault limits.bytes bytes) → TellsFault (told fault) (fault_of limits bytes)
      by_fault (text.NotUtf8 at) e = fault_is (text.NotUtf8 at) e
      by_fault (text.TooLong at) e = fault_is (text.TooLong at) e
      by_fault text.NoMemory e = tt

  -- or without one, and then its last line is ready.
  pub record Ended (feed : Feed) (bytes : List ℕ) : Type 0 where
    pub sound : text_fault limits.bytes bytes ≡ None
    pub whole : ended_of bytes ++ feed.cut.ended ≡ plain_lines_of (text_of bytes)

  pub has_ended : (feed : Feed) (bytes : List ℕ) → feed.limit ≡ limits.bytes → feed.ended ≡ true → feed.fault ≡ None
      → FeedStandsFor feed bytes (count_of bytes) → Ended feed bytes
  has_ended feed bytes limit all_given sound was =
      let P : Option TextFault → Type 0 = λ o. StandsAs o feed.ended feed bytes (count_of bytes) in
      let Q : Bool → Type 0 = λ b. StandsAs None b feed bytes (count_of bytes) in
      let h : HasEnded feed bytes (count_of bytes) = subst Q all_given (subst P sound was) in
      let no_fault : text_fault limits.bytes bytes ≡ None = ap (λ l. text_fault l bytes) (sym limit) ∙ h.sound in
      let front : IsFront (ended_of bytes) (plain_lines_of (text_of bytes)) = (map plain_line (last_line (cut_bytes limits.bytes bytes).partial), whole_lines limits.bytes bytes no_fault) in
      record { sound = no_fault; whole = rest_of_front (ended_of bytes) (plain_lines_of (text_of bytes)) feed.cut.ended front h.ready }

  fault_by_lines : (feed : Feed) (before : BlockParser) (bytes : List ℕ) (all : Option ℕ) → Goes limits feed before bytes → text_fault limits.bytes bytes ≡ None
      → deep (plain_lines_of (text_of bytes)) ≡ all → fault_of limits bytes ≡ of_two all (leaf_deep limits bytes)
  fault_by_lines feed before bytes all g sound e =
      (faults_in_order limits bytes).0
      ∙ ap₂ (λ o t. of_four o t (deep (plain_lines_of (text_of bytes))) (leaf_deep limits bytes)) (none_deep before (ended_of bytes) g.same_limits g.handed) sound
      ∙ ap (λ all. of_two all (leaf_deep limits bytes)) e

  -- the last line isn't taken in
  pub last_line_told : (fault : BlockFault) (feed ended : Feed) (before : BlockParser) (bytes : List ℕ) → Goes limits feed before bytes → Ended ended bytes
      → (AreLines (ended_of bytes ++ ended.cut.ended) → TellsDepth fault before.limits (ended_of bytes ++ ended.cut.ended))
      → TellsFault (refused fault) (fault_of limits bytes)
  last_line_told fault feed ended before bytes g end tells = by_fault fault (all_told (all_are_lines (text_of bytes)))
    where
      all_told : AreLines (plain_lines_of (text_of bytes)) → TellsDepth fault limits (plain_lines_of (text_of bytes))
      all_told = subst (λ l. AreLines (plain_lines_of (text_of bytes)) → TellsDepth fault l (plain_lines_of (text_of bytes))) g.same_limits
          (subst (λ lines. AreLines lines → TellsDepth fault before.limits lines) end.whole tells)

      by_fault : (fault : BlockFault) → TellsDepth fault limits (plain_lines_of (text_of bytes)) → TellsFault (refused fault) (fault_of limits bytes)
      by_fault (blocks.BlocksTooDeep line) e = fault_by_lines feed before bytes (Some line) g end.sound e
      by_fault blocks.NoMemory e = tt

  -- all lines are taken in
  pub whole_taken : (feed ended : Feed) (before after : BlockParser) (bytes : List ℕ) → Goes limits feed before bytes → Ended ended bytes
      → after.limits ≡ before.limits → HasTaken after (ended_of bytes ++ ended.cut.ended)
      → (fault_of limits bytes ≡ option_map InlinesTooDeep (leaf_deep limits bytes)) × HasTaken after (plain_lines_of (text_of bytes))
  whole_taken feed ended before after bytes g end same taken =
      let all = subst (HasTaken after) end.whole taken in
      (fault_by_lines feed before bytes None g end.sound (none_deep after (plain_lines_of (text_of bytes)) (same ∙ g.same_limits) all), all)

  -- An outline with its leaves read is the tree of the text.
  module _ (outline : Outline) (bytes : List ℕ) (is : IsOutline limits bytes outline) where
    abbrev read : List Block
    read = with_inlines limits.rules (defined_in outline.definitions) outline.blocks

    tree_read : read ≡ tree_of limits.rules bytes
    tree_read = ap₂ (λ table blocks. with_inlines limits.rules (defined_in table) blocks) is.same.definitions is.same.blocks

    pub whole : first_leaf_past limits.inlines read ≡ None → fault_of limits bytes ≡ None
    whole within = is.left ∙ ap (option_map InlinesTooDeep) (sym (ap (first_leaf_past limits.inlines) tree_read) ∙ within)

    -- a leaf is too deep
    pub leaf_told : (fault : Fault) → TellsFault fault (option_map InlinesTooDeep (first_leaf_past limits.inlines read)) → TellsFault fault (fault_of limits bytes)
    leaf_told fault told = subst (TellsFault fault) (ap (λ tree. option_map InlinesTooDeep (first_leaf_past limits.inlines tree)) tree_read ∙ sym is.left) told

    pub all_read : (blocks : List Block) (owners : List Owner) → blocks ≡ read → first_leaf_past limits.inlines blocks ≡ None → owners ≡ outline.owners
        → (fault_of limits bytes ≡ None) × (doc_with blocks owners ≡ doc_of limits.rules bytes)
    all_read blocks owners same within owners_are =
        (whole (ap (first_leaf_past limits.inlines) (sym same) ∙ within), ap₂ doc_with (same ∙ tree_read) (owners_are ∙ is.same.owners))

    -- what is made of the tree
    pub tree_made : {A : Type 0} (Made : List Block → A → Type 0) (r : Result A Fault) → IfOk r (Made read) → IfOk r (λ _. first_leaf_past limits.inlines read ≡ None)
        → IfErr r (λ fault. TellsFault fault (option_map InlinesTooDeep (first_leaf_past limits.inlines read))) → Makes (Made (tree_of limits.rules bytes)) r limits bytes
    tree_made Made (Ok made) done within told = (whole within, subst (λ t. Made t made) tree_read done)
    tree_made Made (Err fault) done within told = leaf_told fault told

    -- and by a walk over its blocks
    pub walk_made : {A : Type 0} (Made : List Block → A → Type 0) (walk now : LeafWalk) → walk.next ≡ 1 → walk.unread.limits ≡ limits → all_left walk.unread ≡ read → (r : Result A Fault)
        → IfOk r (Made (all_left walk.unread)) → OnOk r (HasReadAll walk now) → IfErr r (λ fault. TellsOf walk fault (leaf_depths (all_left walk.unread)))
        → Makes (Made (tree_of limits.rules bytes)) r limits bytes
    walk_made Made walk now first same all r done passes told =
        tree_made Made r (subst (λ blocks. IfOk r (Made blocks)) all done) (walk_within walk limits read first same all r now passes) (walk_told walk limits read first same all r told)
