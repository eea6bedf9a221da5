-- Lines of text at the end of a run.
use Rattle.std.proofs.Common.{◌≡◌, ℕ, zero, suc, ◌<◌, ◌==◌, true, false, List, [], ◌∷◌, ◌++◌, length, map, drop, refl, sym, ap, ◌∙◌, arith, append_assoc}
use Rattle.std.specs.List.{fold, flat_map, list_all}
use Rattle.std.proofs.lemmas.Bool.{and_parts, eqb-true}
use Rattle.std.proofs.lemmas.List.{append_cancel_right}
use Rattle.cm_text.specs.LineText.{is_line}
use Rattle.cm_text.specs.Lines.{lines_of, plain_line, plain_lines_of, with_line_feed}
use Rattle.cm_text.specs.TextLines.{is_text_after, are_text, AreTextLines}
use Rattle.cm_text.proofs.lemmas.TextLineLemmas.{all_lines, begins_as_text}
use Rattle.cm_scan.specs.Words.{is_space_or_tab, trim_start, skip}
use Rattle.cm_scan.specs.blocks.Blocks.{line_feeds, add_text}
use Rattle.cm_block.proofs.lemmas.TextStarts.{text-shows}
use Rattle.cm_block.specs.steps.TextRuns.{add_lines, with_line}
use Rattle.cm_block.proofs.lemmas.FeedLemmas.{feeds_append, feeds_of_line, feeds_ended}

-- the content of a line of text is after its spaces
pub content_after : (spaces : ℕ) (line : List ℕ) → is_text_after spaces line ≡ true → trim_start line ≡ drop spaces line
unfolding skip
content_after spaces [] h = absurd (cc (h))
content_after zero (b ∷ bs) h =
    ap (λ v. elim v as (λ _. List ℕ) [ true ↦ trim_start bs | false ↦ b ∷ bs ]) (text-shows b h)
content_after (suc n) (b ∷ bs) h =
    let parts = and_parts (b == 32) (is_text_after n bs) h in
    let space : is_space_or_tab b ≡ true = ap is_space_or_tab (eqb-true b 32 parts.0) in
    ap (λ v. elim v as (λ _. List ℕ) [ true ↦ trim_start bs | false ↦ b ∷ bs ]) space ∙ content_after n bs parts.1

pub content_text : (spaces : ℕ) (line : List ℕ) → is_text_after spaces line ≡ true → is_text_after 0 (drop spaces line) ≡ true
content_text spaces [] h = absurd (cc (h))
content_text zero (b ∷ bs) h = h
content_text (suc n) (b ∷ bs) h = content_text n bs (and_parts (b == 32) (is_text_after n bs) h).1

dropped : (spaces : ℕ) (line more : List ℕ) → is_text_after spaces line ≡ true → drop spaces (line ++ more) ≡ drop spaces line ++ more
dropped spaces [] more h = absurd (cc (h))
dropped zero (b ∷ bs) more h = refl
dropped (suc n) (b ∷ bs) more h = dropped n bs more (and_parts (b == 32) (is_text_after n bs) h).1

-- lines after a source that isn't empty, each after a line feed
beyond-some : (lines : List (List ℕ)) (b : ℕ) (bs : List ℕ) → are_text 0 lines ≡ true
    → fold add_text (b ∷ bs) (map plain_line lines) ++ 10 ∷ [] ≡ (b ∷ bs) ++ 10 ∷ flat_map with_line_feed lines
beyond-some [] b bs h = refl
beyond-some (line ∷ lines) b bs h =
    let parts = and_parts (is_text_after 0 line) (are_text 0 lines) h in
    let content = content_after 0 line parts.0 in
    beyond-some lines b (bs ++ 10 ∷ trim_start line) parts.1
    ∙ append_assoc (b ∷ bs) (10 ∷ trim_start line) (10 ∷ flat_map with_line_feed lines)
    ∙ ap (λ t. (b ∷ bs) ++ 10 ∷ (t ++ 10 ∷ flat_map with_line_feed lines)) content
    ∙ ap (λ t. (b ∷ bs) ++ 10 ∷ t) (sym (append_assoc line (10 ∷ []) (flat_map with_line_feed lines)))

-- the first after spaces, and the others
module _ (spaces : ℕ) (line : List ℕ) (lines : List (List ℕ)) (first : is_text_after spaces line ≡ true) (rest : are_text 0 lines ≡ true) (text content : List ℕ)
    (is : text ≡ flat_map with_line_feed (line ∷ lines)) (left : drop spaces text ≡ content ++ 10 ∷ []) where
  left-is : drop spaces line ++ 10 ∷ flat_map with_line_feed lines ≡ content ++ 10 ∷ []
  left-is =
      sym (dropped spaces line (10 ∷ flat_map with_line_feed lines) first)
      ∙ ap (drop spaces) (sym (append_assoc line (10 ∷ []) (flat_map with_line_feed lines)) ∙ sym is) ∙ left

  beyond-source : (b : ℕ) (bs : List ℕ) → fold add_text (b ∷ bs) (map plain_line (line ∷ lines)) ≡ (b ∷ bs) ++ 10 ∷ content
  beyond-source b bs =
      append_cancel_right _ _ (10 ∷ [])
      (beyond-some lines b (bs ++ 10 ∷ trim_start line) rest
      ∙ append_assoc (b ∷ bs) (10 ∷ trim_start line) (10 ∷ flat_map with_line_feed lines)
      ∙ ap (λ t. (b ∷ bs) ++ 10 ∷ (t ++ 10 ∷ flat_map with_line_feed lines)) (content_after spaces line first)
      ∙ ap (λ t. (b ∷ bs) ++ 10 ∷ t) left-is
      ∙ sym (append_assoc (b ∷ bs) (10 ∷ content) (10 ∷ [])))

  beyond-none : fold add_text [] (map plain_line (line ∷ lines)) ≡ content
  beyond-none = go (trim_start line) refl (ap (is_text_after 0) (content_after spaces line first) ∙ content_text spaces line first)
    where
      go : (t : List ℕ) → trim_start line ≡ t → is_text_after 0 t ≡ true → fold add_text (trim_start line) (map plain_line lines) ≡ content
      go [] e h = absurd (cc (h))
      go (c ∷ cs) e h =
          append_cancel_right _ _ (10 ∷ [])
          (ap (λ t. fold add_text t (map plain_line lines) ++ 10 ∷ []) e ∙ beyond-some lines c cs rest
          ∙ ap (λ t. t ++ 10 ∷ flat_map with_line_feed lines) (sym e ∙ content_after spaces line first) ∙ left-is)

module _ (text : List ℕ) (spaces count : ℕ) (h : AreTextLines text spaces count) (content : List ℕ) (left : drop spaces text ≡ content ++ 10 ∷ []) where
  by-lines : (P : List (List ℕ) → Type 0)
      → ((line : List ℕ) (lines : List (List ℕ)) → is_text_after spaces line ≡ true → are_text 0 lines ≡ true → text ≡ flat_map with_line_feed (line ∷ lines) → P (line ∷ lines))
      → P (lines_of text)
  by-lines P step = go (lines_of text) h.are_text h.lines (omega (arith, h.some, h.counted))
    where
      go : (lines : List (List ℕ)) → are_text spaces lines ≡ true → text ≡ flat_map with_line_feed lines → 0 < length lines → P lines
      go [] are is some = absurd (omega (arith, some))
      go (line ∷ lines) are is some = let parts = and_parts (is_text_after spaces line) (are_text 0 lines) are in step line lines parts.0 parts.1 is

  -- after a run, or as its first lines
  pub lines_added : (source : List ℕ) → with_line source ++ content ≡ add_lines source (plain_lines_of text)
  lines_added [] =
      by-lines (λ lines. content ≡ fold add_text [] (map plain_line lines)) (λ line lines first rest is. sym (beyond-none spaces line lines first rest text content is left))
  lines_added (b ∷ bs) =
      append_assoc (b ∷ bs) (10 ∷ []) content
      ∙ by-lines (λ lines. (b ∷ bs) ++ 10 ∷ content ≡ fold add_text (b ∷ bs) (map plain_line lines))
      (λ line lines first rest is. sym (beyond-source spaces line lines first rest text content is left b bs))

  -- they have a line feed fewer than they are
  feeds-of : (lines : List (List ℕ)) → list_all is_line lines ≡ true → line_feeds (flat_map with_line_feed lines) ≡ length lines
  unfolding line_feeds
  feeds-of [] all = refl
  feeds-of (line ∷ lines) all =
      let parts = and_parts (is_line line) (list_all is_line lines) all in
      let more : line_feeds (flat_map with_line_feed lines) ≡ length lines = feeds-of lines parts.1 in
      omega (arith, feeds_append (with_line_feed line) (flat_map with_line_feed lines), feeds_ended line, feeds_of_line line parts.0, more)

  spaces-feeds : (n : ℕ) (t : List ℕ) → is_text_after n t ≡ true → line_feeds (drop n t) ≡ line_feeds t
  unfolding line_feeds
  spaces-feeds n [] k = absurd (cc (k))
  spaces-feeds zero (b ∷ bs) k = refl
  spaces-feeds (suc n) (b ∷ bs) k =
      let parts = and_parts (b == 32) (is_text_after n bs) k in
      spaces-feeds n bs parts.1 ∙ ap (λ c. line_feeds (c ∷ bs)) (sym (eqb-true b 32 parts.0))

  pub content_feeds : suc (line_feeds content) ≡ count
  content_feeds =
      sym (feeds_ended content) ∙ ap line_feeds (sym left) ∙ spaces-feeds spaces text (begins_as_text text spaces count h) ∙ ap line_feeds h.lines
      ∙ feeds-of (lines_of text) (all_lines text) ∙ sym h.counted
