-- The blocks of a tree that can be spelled are a sequence which fits, with the same lines.
use Rattle.std.proofs.Common.{◌≡◌, ℕ, ◌&&◌, ◌||◌, not, Bool, true, false, List, [], ◌∷◌, ◌++◌, map, refl, sym, ◌∙◌, ap, subst, Option, Some, None, append_assoc, append-nil}
use Rattle.std.proofs.lemmas.Bool.{false≢true, and_parts, or_parts, not-false}
use Rattle.std.specs.Prelude.{nat_le, flat_map}
use Rattle.std.specs.List.{list_any, list_all}
use Rattle.cm_text.specs.Rules.{Rules}
use Rattle.cm_tree.specs.declared.tree.Block.{Block, Block-F, map-Block}
use Rattle.cm_tree.specs.declared.tree.Block.TheOpen as block
use Rattle.cm_tree.specs.declared.tree.Block.TheVariants.{Paragraph, Heading, Code, Definition as DefinitionBlock, Quote, List as ListBlock}
use Rattle.cm_tree.specs.declared.tree.Block.TheViews.{roll-Block}
use Rattle.cm_tree.specs.declared.tree.Block.TheFolds.{fold-roll-Block}
use Rattle.cm_tree.specs.declared.tree.ListKind.{ListKind}
use Rattle.cm_scan.specs.Words.{◌<|>◌}
use Rattle.cm_tree.specs.Followed.{is_read_info}
use Rattle.cm_scan.specs.blocks.Parts.{paragraph, heading, code, html, thematic_break, definition, leaf_block}
use Rattle.cm_tree.specs.RawBlocks.{raw_inlines}
use Rattle.cm_source.specs.declared.why.Why.{Why}
use Rattle.cm_source.specs.declared.why.Why.TheVariants.{Definition, Nul, Shape, HtmlBlock}
use Rattle.cm_source.specs.Inlines.{spelled_content}
use Rattle.cm_source.specs.InlineRefusals.{refused, has_nul, paragraph_refusal, heading_refusal}
use Rattle.cm_source.specs.Refusals as refusals
use Rattle.cm_source.specs.Refusals.{BlockFace, ListFace, JudgedBlock, faces, is_filled, is_list, is_tight_item, is_as_said, has_two, is_html_block, is_code_text, code_reasons, judged_block, refusal_of_all, refusal_of_items, is_after_same, begins_too_high, list_reasons}
use Rattle.cm_source.specs.Spelling as spelling
use Rattle.cm_source.specs.Spelling.{break_line, gap, joined, quote_lines, marker, item_lines, list_lines, lines_of_block}
use Rattle.cm_source.specs.ReadingBack.{source_step, sourced}
use Rattle.cm_source.specs.steps.Sources.{ContentsGiveSources}
use Rattle.cm_source.specs.steps.Sequences.{SpelledLeaf, Sequence, is_none, no_blocks, leaf_then, quote_then, list_then, tree, items_tree, gap_before, block_lines, lines_of_items, first_inside, fits_tight, can_be_loose, begins_with_list, chain, chain_items, sequence_step, in_front_of}
use Rattle.cm_source.proofs.lemmas.shared.AcceptedLemmas.{none-holds, or-none}
use Rattle.cm_source.proofs.lemmas.shared.BlockInduction.{AllHold, ItemsHold, InsideHold, all-by-layers}
use Rattle.cm_source.proofs.lemmas.blocks.SequenceFits.{LeafFits, FitAll, ItemsFit}
use Rattle.cm_source.proofs.lemmas.blocks.SequenceFaces.{leaf_face, faces_of, clashes, some-face, has-two, list-first, no-clash, leaf-apart, tight-item}
use Rattle.cm_source.proofs.lemmas.blocks.MarkersBack.{kind-fits}
use Rattle.cm_source.proofs.lemmas.blocks.LeavesBack.{break-fits, heading-fits, paragraph-fits}
use Rattle.cm_source.proofs.lemmas.blocks.FencesBack.{code-fits}
use Rattle.cm_source.proofs.lemmas.blocks.HtmlBack.{html-fits}

-- Lines

abbrev beyond : Bool → List (List (List ℕ)) → List (List ℕ)
beyond apart others = flat_map (λ lines. gap apart ++ lines) others

joined-more : (apart : Bool) (l m : List (List ℕ)) (ms : List (List (List ℕ))) → (l ++ gap apart) ++ joined apart (m ∷ ms) ≡ joined apart (l ∷ m ∷ ms)
joined-more apart l m ms = append_assoc l (gap apart) (m ++ beyond apart ms) ∙ ap (λ t. l ++ t) (sym (append_assoc (gap apart) m (beyond apart ms)))

gap-some : (a e : Bool) (o : Sequence) → is_none o ≡ false → gap_before a e o ≡ a
gap-some a e no_blocks h = absurd (false≢true (sym h))
gap-some a e (leaf_then x rest) h = refl
gap-some a e (quote_then inside rest) h = refl
gap-some a e (list_then kind tight items rest) h = refl

module _ (rules : Rules) where
  -- One block: the function that puts it before a sequence, how it is judged, its tree with sources, and its lines.

  record Stands (f : Sequence → Sequence) (s : Block) (l : List (List ℕ)) (rest : Sequence) : Type 0 where
    pub fits : FitAll rules (f rest)
    pub blocks : tree (f rest) ≡ s ∷ tree rest
    pub lines : (a e : Bool) → block_lines a e (f rest) ≡ l ++ gap (gap_before a e rest) ++ block_lines a e rest

  record Spelled (f : Sequence → Sequence) (j : JudgedBlock) (s : Block) (l : List (List ℕ)) : Type 0 where
    pub faces : (rest : Sequence) → faces_of (f rest) ≡ j.face ∷ faces_of rest
    pub apart : (before : Option BlockFace) (others : List BlockFace) → j.refusal before ≡ None → clashes before (j.face ∷ others) ≡ false
    pub stands : (before : Option BlockFace) (rest : Sequence) → j.refusal before ≡ None → FitAll rules rest → clashes (Some j.face) (faces_of rest) ≡ false → Stands f s l rest

  -- Blocks, one after another

  data AllSpelled : List (Sequence → Sequence) → List JudgedBlock → List Block → List (List (List ℕ)) → Type 0 where
    none_spelled : AllSpelled [] [] [] []
    one_spelled : {f : Sequence → Sequence} {j : JudgedBlock} {s : Block} {l : List (List ℕ)} {fs : List (Sequence → Sequence)} {js : List JudgedBlock} {ss : List Block} {ls : List (List (List ℕ))}
        → Spelled f j s l → AllSpelled fs js ss ls → AllSpelled (f ∷ fs) (j ∷ js) (s ∷ ss) (l ∷ ls)

  chain-faces : {fs : List (Sequence → Sequence)} {js : List JudgedBlock} {ss : List Block} {ls : List (List (List ℕ))} → AllSpelled fs js ss ls → faces_of (chain fs) ≡ faces js
  chain-faces none_spelled = refl
  chain-faces (one_spelled {j = j} {fs = fs} one more) = one.faces (chain fs) ∙ ap (λ others. j.face ∷ others) (chain-faces more)

  pub record AllStand (before : Option BlockFace) (fs : List (Sequence → Sequence)) (ss : List Block) (ls : List (List (List ℕ))) : Type 0 where
    pub fits : FitAll rules (chain fs)
    pub apart : clashes before (faces_of (chain fs)) ≡ false
    pub blocks : tree (chain fs) ≡ ss
    pub lines : (a : Bool) → block_lines a false (chain fs) ≡ joined a ls

  lines-more : (a : Bool) {f : Sequence → Sequence} {s : Block} {l : List (List ℕ)} {fs : List (Sequence → Sequence)} {js : List JudgedBlock} {ss : List Block} {ls : List (List (List ℕ))} → Stands f s l (chain fs) → AllSpelled fs js ss ls
      → block_lines a false (chain fs) ≡ joined a ls → block_lines a false (f (chain fs)) ≡ joined a (l ∷ ls)
  unfolding block_lines
  lines-more a {l = l} one none_spelled more = one.lines a false ∙ ap (λ t. t ++ []) (append-nil l)
  lines-more a {l = l} one (one_spelled {f = g} {j = k} {l = m} {fs = fs} {ls = ls} next others) more =
      one.lines a false
      ∙ ap (λ v. (l ++ gap v) ++ block_lines a false (g (chain fs))) (gap-some a false (g (chain fs)) (some-face (g (chain fs)) k.face (faces_of (chain fs)) (next.faces (chain fs))))
      ∙ ap (λ t. (l ++ gap a) ++ t) more
      ∙ joined-more a l m ls

  all-stand : {fs : List (Sequence → Sequence)} {js : List JudgedBlock} {ss : List Block} {ls : List (List (List ℕ))} (before : Option BlockFace) → AllSpelled fs js ss ls → refusal_of_all before js ≡ None → AllStand before fs ss ls
  unfolding FitAll tree block_lines
  all-stand before none_spelled h = record { fits = tt; apart = refl; blocks = refl; lines = λ a. refl }
  all-stand before (one_spelled {f = f} {j = j} {s = s} {fs = fs} {js = js} one more) h =
      let (first, others) = or-none (j.refusal before) (refusal_of_all (Some j.face) js) h in
      let rest = all-stand (Some j.face) more others in
      let here = one.stands before (chain fs) first rest.fits rest.apart in
      record {
        fits = here.fits;
        apart = ap (clashes before) (one.faces (chain fs)) ∙ one.apart before (faces_of (chain fs)) first;
        blocks = here.blocks ∙ ap (λ t. s ∷ t) rest.blocks;
        lines = λ a. lines-more a here more (rest.lines a);
      }

  -- Items

  data ItemsSpelled : List (List (Sequence → Sequence)) → List (List JudgedBlock) → List (List Block) → List (List (List (List ℕ))) → Type 0 where
    no_items : ItemsSpelled [] [] [] []
    one_item : {fs : List (Sequence → Sequence)} {js : List JudgedBlock} {ss : List Block} {ls : List (List (List ℕ))}
        {fss : List (List (Sequence → Sequence))} {jss : List (List JudgedBlock)} {sss : List (List Block)} {lss : List (List (List (List ℕ)))}
        → AllSpelled fs js ss ls → ItemsSpelled fss jss sss lss → ItemsSpelled (fs ∷ fss) (js ∷ jss) (ss ∷ sss) (ls ∷ lss)

  record ItemsStand (kind : ListKind) (tight : Bool) (fss : List (List (Sequence → Sequence))) (sss : List (List Block)) (lss : List (List (List (List ℕ)))) : Type 0 where
    pub fits : ItemsFit rules tight (chain_items fss)
    pub blocks : items_tree (chain_items fss) ≡ sss
    pub lines : lines_of_items kind tight (chain_items fss) ≡ list_lines kind tight lss

  -- what is asked of one item, and of each further one
  tight-inside : (tight : Bool) {fs : List (Sequence → Sequence)} {js : List JudgedBlock} {ss : List Block} {ls : List (List (List ℕ))} → AllSpelled fs js ss ls
      → (not tight || is_tight_item (faces js)) ≡ true → (not tight || fits_tight (chain fs)) ≡ true
  tight-inside true {fs = fs} all h = tight-item (chain fs) (ap is_tight_item (chain-faces all) ∙ h)
  tight-inside false all h = refl

  parts-tight : (tight v w : Bool) → (not tight || v && w) ≡ true → ((not tight || v) ≡ true) × ((not tight || w) ≡ true)
  parts-tight true v w h = and_parts v w h
  parts-tight false v w h = (refl, refl)

  no-list-first : {fs : List (Sequence → Sequence)} {js : List JudgedBlock} {ss : List Block} {ls : List (List (List ℕ))} → AllSpelled fs js ss ls → is_list (faces js) ≡ false → begins_with_list (chain fs) ≡ false
  no-list-first {fs = fs} all h = sym (list-first (chain fs)) ∙ ap is_list (chain-faces all) ∙ h

  items-stand : (kind : ListKind) (tight : Bool) {fs : List (Sequence → Sequence)} {js : List JudgedBlock} {ss : List Block} {ls : List (List (List ℕ))}
      {fss : List (List (Sequence → Sequence))} {jss : List (List JudgedBlock)} {sss : List (List Block)} {lss : List (List (List (List ℕ)))} → AllSpelled fs js ss ls → ItemsSpelled fss jss sss lss
      → refusal_of_items (js ∷ jss) ≡ None → list_any is_list (map faces (js ∷ jss)) ≡ false → (not tight || list_all is_tight_item (map faces (js ∷ jss))) ≡ true
      → ItemsStand kind tight (fs ∷ fss) (ss ∷ sss) (ls ∷ lss)
  unfolding ItemsFit items_tree lines_of_items
  items-stand kind tight {js = js} {ls = ls} one no_items h lists said =
      let (first, others) = or-none (refusal_of_all None js) None h in
      let here = all-stand None one first in
      let inside = joined (not tight) ls in
      record {
        fits = (no-list-first one (or_parts (is_list (faces js)) false lists).0, tight-inside tight one (parts-tight tight (is_tight_item (faces js)) true said).0, here.fits);
        blocks = ap (λ t. t ∷ []) here.blocks;
        lines = ap (item_lines (marker kind)) (here.lines (not tight)) ∙ sym (append-nil (item_lines (marker kind) inside));
      }
  items-stand kind tight {js = js} {ss = ss} {ls = ls} one (one_item {fs = gs} {js = ks} {ls = ms} {fss = fss} {jss = jss} {lss = lss} next more) h lists said =
      let (first, others) = or-none (refusal_of_all None js) (refusal_of_items (ks ∷ jss)) h in
      let (list_not, no_lists) = or_parts (is_list (faces js)) (list_any is_list (map faces (ks ∷ jss))) lists in
      let (tight_one, tight_others) = parts-tight tight (is_tight_item (faces js)) (list_all is_tight_item (map faces (ks ∷ jss))) said in
      let here = all-stand None one first in
      let rest = items-stand kind tight next more others no_lists tight_others in
      let own : List (List (List ℕ)) → List (List ℕ) = λ blocks. item_lines (marker kind) (joined (not tight) blocks) in
      record {
        fits = (no-list-first one list_not, tight-inside tight one tight_one, here.fits, rest.fits);
        blocks = ap (λ t. t ∷ items_tree (chain_items (gs ∷ fss))) here.blocks ∙ ap (λ t. ss ∷ t) rest.blocks;
        lines = ap (λ t. (item_lines (marker kind) t ++ gap (not tight)) ++ lines_of_items kind tight (chain_items (gs ∷ fss))) (here.lines (not tight))
            ∙ ap (λ t. (own ls ++ gap (not tight)) ++ t) rest.lines
            ∙ joined-more (not tight) (own ls) (own ms) (map own lss);
      }

  loose-inside : (tight : Bool) {fs : List (Sequence → Sequence)} {js : List JudgedBlock} {ss : List Block} {ls : List (List (List ℕ))}
      {fss : List (List (Sequence → Sequence))} {jss : List (List JudgedBlock)} {sss : List (List Block)} {lss : List (List (List (List ℕ)))} → AllSpelled fs js ss ls → ItemsSpelled fss jss sss lss
      → is_as_said tight (map faces (js ∷ jss)) ≡ true → (tight || can_be_loose (chain_items (fs ∷ fss))) ≡ true
  loose-inside true one more said = refl
  loose-inside false {fs = fs} {js = js} one no_items said = sym (has-two (chain fs)) ∙ ap has_two (chain-faces one) ∙ or-no (has_two (faces js)) said
    where
      or-no : (v : Bool) → (v || false) ≡ true → v ≡ true
      or-no true h = refl
      or-no false h = h
  loose-inside false one (one_item next more) said = refl

  tight-as-said : (tight : Bool) (items : List (List BlockFace)) → is_as_said tight items ≡ true → (not tight || list_all is_tight_item items) ≡ true
  tight-as-said true items said = said
  tight-as-said false items said = refl

  filled-first : {fs : List (Sequence → Sequence)} {js : List JudgedBlock} {ss : List Block} {ls : List (List (List ℕ))}
      {fss : List (List (Sequence → Sequence))} {jss : List (List JudgedBlock)} {sss : List (List Block)} {lss : List (List (List (List ℕ)))} → AllSpelled fs js ss ls → ItemsSpelled fss jss sss lss
      → not (is_none (first_inside (chain_items (fs ∷ fss)))) ≡ is_filled (js ∷ jss)
  filled-first none_spelled no_items = refl
  filled-first none_spelled (one_item next more) = refl
  filled-first (one_spelled {f = f} {j = j} {fs = fs} one others) no_items = ap not (some-face (f (chain fs)) j.face (faces_of (chain fs)) (one.faces (chain fs)))
  filled-first (one_spelled {f = f} {j = j} {fs = fs} one others) (one_item next more) = ap not (some-face (f (chain fs)) j.face (faces_of (chain fs)) (one.faces (chain fs)))

  -- The kinds of blocks

  abbrev leaf_judged : SpelledLeaf → Option Why → JudgedBlock
  leaf_judged x reason = refusals.leaf_block (leaf_face x.part) reason

  leaf-spelled : (x : SpelledLeaf) (s : Block) (reason : Option Why) → (reason ≡ None → LeafFits rules x × (leaf_block x.part ≡ s)) → Spelled (leaf_then x) (leaf_judged x reason) s x.lines
  unfolding FitAll tree block_lines
  leaf-spelled x s reason fits = record {
    faces = λ rest. refl;
    apart = λ before others h. leaf-apart before x.part others;
    stands = λ before rest h rest_fits clash. record { fits = ((fits h).0, rest_fits); blocks = ap (λ b. b ∷ tree rest) (fits h).1; lines = λ a e. refl };
  }

  quote-spelled : {fs : List (Sequence → Sequence)} {js : List JudgedBlock} {ss : List Block} {ls : List (List (List ℕ))} → AllSpelled fs js ss ls
      → Spelled (quote_then (chain fs)) (refusals.leaf_block refusals.QuoteFace (refusal_of_all None js)) (Quote ss) (quote_lines (joined true ls))
  unfolding FitAll tree block_lines
  quote-spelled all = record {
    faces = λ rest. refl;
    apart = λ before others h. refl;
    stands = λ before rest h rest_fits clash.
        let inside = all-stand None all h in
        record {
          fits = (inside.fits, rest_fits);
          blocks = ap (λ t. Quote t ∷ tree rest) inside.blocks;
          lines = λ a e. ap (λ t. quote_lines t ++ gap (gap_before a e rest) ++ block_lines a e rest) (inside.lines true);
        };
  }

  abbrev list_judged : ListKind → Bool → List (List JudgedBlock) → JudgedBlock
  list_judged kind tight jss = record {
    face = ListFace kind (is_filled jss);
    refusal = λ before. refused (list_reasons kind tight (map faces jss) before) <|> refusal_of_items jss;
  }

  -- why a list isn't refused
  record ListStands (kind : ListKind) (tight : Bool) (jss : List (List JudgedBlock)) (before : Option BlockFace) : Type 0 where
    pub some : list_any (λ (item : List BlockFace). true) (map faces jss) ≡ true
    pub low : begins_too_high kind ≡ false
    pub apart : is_after_same kind before ≡ false
    pub no_lists : list_any is_list (map faces jss) ≡ false
    pub said : is_as_said tight (map faces jss) ≡ true
    pub inside : refusal_of_items jss ≡ None

  list-stands : (kind : ListKind) (tight : Bool) (jss : List (List JudgedBlock)) (before : Option BlockFace) → (list_judged kind tight jss).refusal before ≡ None → ListStands kind tight jss before
  list-stands kind tight jss before h =
      let (reasons, inside) = or-none (refused (list_reasons kind tight (map faces jss) before)) (refusal_of_items jss) h in
      let none = none-holds (list_reasons kind tight (map faces jss) before) reasons in
      let (some, low) = or_parts (not (list_any (λ (item : List BlockFace). true) (map faces jss))) (begins_too_high kind) none.0 in
      record {
        some = not-false (list_any (λ (item : List BlockFace). true) (map faces jss)) some;
        low = low;
        apart = none.1.0;
        no_lists = none.1.1.0;
        said = not-false (is_as_said tight (map faces jss)) none.1.1.1.0;
        inside = inside;
      }

  list-spelled : (kind : ListKind) (tight : Bool) {fss : List (List (Sequence → Sequence))} {jss : List (List JudgedBlock)} {sss : List (List Block)} {lss : List (List (List (List ℕ)))} → ItemsSpelled fss jss sss lss
      → Spelled (list_then kind tight (chain_items fss)) (list_judged kind tight jss) (ListBlock kind tight sss) (list_lines kind tight lss)
  unfolding FitAll tree block_lines
  list-spelled kind tight no_items = record {
    faces = λ rest. refl;
    apart = λ before others h. (list-stands kind tight [] before h).apart;
    stands = λ before rest h rest_fits clash. absurd (false≢true (list-stands kind tight [] before h).some);
  }
  list-spelled kind tight (one_item {js = js} {jss = jss} one more) = record {
    faces = λ rest. ap (λ v. ListFace kind v ∷ faces_of rest) (filled-first one more);
    apart = λ before others h. (list-stands kind tight (js ∷ jss) before h).apart;
    stands = λ before rest h rest_fits clash.
        let reasons = list-stands kind tight (js ∷ jss) before h in
        let items = items-stand kind tight one more reasons.inside reasons.no_lists (tight-as-said tight (map faces (js ∷ jss)) reasons.said) in
        record {
          fits = (kind-fits rules kind reasons.low, items.fits, loose-inside tight one more reasons.said, no-clash kind (is_filled (js ∷ jss)) rest clash, rest_fits);
          blocks = ap (λ t. ListBlock kind tight t ∷ tree rest) items.blocks;
          lines = λ a e. ap (λ t. t ++ gap (gap_before a e rest) ++ block_lines a e rest) items.lines;
        };
  }

  -- Every block, by induction over the tree

  abbrev BlockSpelled : Block → Type 0
  BlockSpelled b = Spelled (in_front_of b) (judged_block rules b) (sourced b) (lines_of_block b)

  all-spelled : (bs : List Block) → AllHold BlockSpelled bs → AllSpelled (map in_front_of bs) (map (judged_block rules) bs) (map sourced bs) (map lines_of_block bs)
  unfolding AllHold
  all-spelled [] hold = none_spelled
  all-spelled (b ∷ bs) hold = one_spelled hold.0 (all-spelled bs hold.1)

  items-spelled : (items : List (List Block)) → ItemsHold BlockSpelled items
      → ItemsSpelled (map (map in_front_of) items) (map (map (judged_block rules)) items) (map (map sourced) items) (map (map lines_of_block) items)
  unfolding ItemsHold
  items-spelled [] hold = no_items
  items-spelled (item ∷ items) hold = one_item (all-spelled item hold.0) (items-spelled items hold.1)

  abbrev LayerSpelled : Block-F Block → Type 0
  LayerSpelled x = Spelled (sequence_step (map-Block Block (Sequence → Sequence) in_front_of x)) (refusals.block_step rules (map-Block Block JudgedBlock (judged_block rules) x))
      (source_step (map-Block Block Block sourced x)) (spelling.block_step (map-Block Block (List (List ℕ)) lines_of_block x))

  module _ (gives : ContentsGiveSources rules) where
    layer : (x : Block-F Block) → InsideHold BlockSpelled x → LayerSpelled x
    unfolding InsideHold
    layer (block.Paragraph content) inside =
        leaf-spelled (record { part = paragraph (spelled_content content); lines = spelling.parted_lines (spelled_content content) }) (Paragraph (raw_inlines (spelled_content content)))
        (refused ((not (list_any (λ i. true) content), Shape) ∷ []) <|> paragraph_refusal rules content) (λ h.
        let (shape, accepted) = or-none (refused ((not (list_any (λ i. true) content), Shape) ∷ [])) (paragraph_refusal rules content) h in
        let none = none-holds ((not (list_any (λ i. true) content), Shape) ∷ []) shape in
        (paragraph-fits rules (spelled_content content) (gives.paragraphs content accepted (not-false (list_any (λ i. true) content) none.0)), refl))
    layer (block.Heading level content) inside =
        leaf-spelled (record { part = heading level (spelled_content content); lines = spelling.heading_lines level content }) (Heading level (raw_inlines (spelled_content content)))
        (refused ((not (nat_le 1 level && nat_le level 6), Shape) ∷ []) <|> heading_refusal rules content) (λ h.
        let (shape, accepted) = or-none (refused ((not (nat_le 1 level && nat_le level 6), Shape) ∷ [])) (heading_refusal rules content) h in
        let none = none-holds ((not (nat_le 1 level && nat_le level 6), Shape) ∷ []) shape in
        let (low, high) = and_parts (nat_le 1 level) (nat_le level 6) (not-false (nat_le 1 level && nat_le level 6) none.0) in
        (heading-fits rules level content low high (gives.headings content accepted), refl))
    layer (block.Code info text) inside =
        leaf-spelled (record { part = code info text; lines = spelling.code_lines info text }) (Code info text)
        (refused (code_reasons rules info text)) (λ h.
        let none = none-holds (code_reasons rules info text) h in
        let (info_nul, text_nul) = or_parts (has_nul info) (has_nul text) none.0 in
        (code-fits rules info text (gives.infos info info_nul) (gives.infos_back info info_nul (not-false (is_read_info rules info) none.1.1.0)) (not-false (is_code_text text) none.1.0) text_nul, refl))
    layer (block.Html text) inside =
        leaf-spelled (record { part = html text; lines = spelling.ended_lines text }) (leaf_block (html text))
        (refused ((has_nul text, Nul) ∷ (not (is_html_block rules text), HtmlBlock) ∷ [])) (λ h.
        let none = none-holds ((has_nul text, Nul) ∷ (not (is_html_block rules text), HtmlBlock) ∷ []) h in
        (html-fits rules text none.0 (not-false (is_html_block rules text) none.1.0), refl))
    layer block.Break inside = leaf-spelled (record { part = thematic_break; lines = break_line ∷ [] }) (leaf_block thematic_break) None (λ h. (break-fits rules, refl))
    layer (block.Definition label dest title) inside = leaf-spelled (record { part = definition label dest title; lines = [] }) (DefinitionBlock label dest title) (Some Definition) (λ h. absurd (cc h))
    layer (block.Quote blocks) inside = quote-spelled (all-spelled blocks inside)
    layer (block.List kind tight items) inside = list-spelled kind tight (items-spelled items inside)

    rolled : (x : Block-F Block) → LayerSpelled x → BlockSpelled (roll-Block x)
    rolled x of_layer =
        subst (λ f. Spelled f (judged_block rules (roll-Block x)) (sourced (roll-Block x)) (lines_of_block (roll-Block x))) (sym (fold-roll-Block (Sequence → Sequence) sequence_step x))
        (subst (λ j. Spelled (sequence_step (map-Block Block (Sequence → Sequence) in_front_of x)) j (sourced (roll-Block x)) (lines_of_block (roll-Block x))) (sym (fold-roll-Block JudgedBlock (refusals.block_step rules) x))
        (subst (λ s. Spelled (sequence_step (map-Block Block (Sequence → Sequence) in_front_of x)) (refusals.block_step rules (map-Block Block JudgedBlock (judged_block rules) x)) s (lines_of_block (roll-Block x))) (sym (fold-roll-Block Block source_step x))
        (subst (λ l. Spelled (sequence_step (map-Block Block (Sequence → Sequence) in_front_of x)) (refusals.block_step rules (map-Block Block JudgedBlock (judged_block rules) x)) (source_step (map-Block Block Block sourced x)) l)
        (sym (fold-roll-Block (List (List ℕ)) spelling.block_step x)) of_layer)))

    -- a tree that can be spelled
    pub tree-stands : (bs : List Block) → refusals.refusal_of rules bs ≡ None → AllStand None (map in_front_of bs) (map sourced bs) (map lines_of_block bs)
    tree-stands bs h = all-stand None (all-spelled bs (all-by-layers BlockSpelled (λ x inside. rolled x (layer x inside)) bs)) h
