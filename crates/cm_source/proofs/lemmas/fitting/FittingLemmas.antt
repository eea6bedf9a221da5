-- Contents that aren't refused fit.
use Rattle.std.proofs.Common.{◌≡◌, ℕ, ◌<◌, ◌==◌, Bool, true, false, ◌&&◌, ◌||◌, not, List, [], ◌∷◌, ◌++◌, map, reverse, IsUtf8, slice_get, Option, Some, None, refl, sym, ap, subst, ◌∙◌, arith, append_assoc, append-nil}
use Rattle.std.proofs.lemmas.Bool.{and_parts, or_parts, or_from, lt-ltb, not-false, and_right}
use Rattle.std.proofs.lemmas.List.{reverse-append}
use Rattle.std.proofs.lemmas.Str.{IsUtf8-nil, chars-nil}
use Rattle.std.specs.Str.{is_utf8}
use Rattle.cm_text.specs.Rules.{Rules}
use Rattle.cm_text.specs.Characters.{is_ascii_punct}
use Rattle.cm_tree.specs.declared.tree.Inline.{Inline}
use Rattle.cm_tree.specs.declared.tree.Inline.TheVariants.{Emph, Strong, Strike}
use Rattle.cm_scan.specs.Words.{begins_with}
use Rattle.cm_scan.specs.inlines.Delimiters.{Neighbour, whitespace, punctuation, other, neighbour, is_other, is_punctuation, is_left_flanking, is_right_flanking, may_open}
use Rattle.cm_scan.specs.inlines.Pairing.{emphasised}
use Rattle.cm_scan.specs.inlines.Atoms.{first_character, last_character, run_between}
use Rattle.cm_source.specs.Texts.{spelled_target}
use Rattle.cm_source.specs.Inlines.{join, is_line_end, spelled, spelled_inlines}
use Rattle.cm_source.specs.InlineRefusals.{Face, is_text, is_code, is_break, is_emphasis, is_none, first_of, last_of, is_whitespace, is_plain, first_face, last_face, hold_emphasis, Place, Judged, further_in, inside_link, refusal_of_all, judged, of_paragraph, of_heading}
use Rattle.cm_source.specs.steps.ContentBack.{Mark, Star, TwoStars, TwoTildes, character_of, count_of, written, is_known, IsBetween, is_before_line_end, Fits, FitsText, FitsCode, FitsHtml, FitsSoft, FitsHard, FitsEmphasis, FitsLink, FitsImage, FitsAll, FitsNone, FitsNext}
use Rattle.cm_source.specs.steps.Utf8Inlines.{all_of, has_utf8, utf8_step}
use Rattle.cm_source.specs.steps.Fitting.{ParagraphsFit, HeadingsFit}
use Rattle.cm_source.proofs.lemmas.shared.InlineInduction.{AllHold, Cases, by-cases, all-by-cases}
use Rattle.cm_source.proofs.lemmas.shared.AcceptedLemmas.{or-none, Accepted, EmphasisAccepted, text-accepted, code-accepted, html-accepted, emph-accepted, strong-accepted, strike-accepted, link-accepted, image-accepted}
use Rattle.cm_source.proofs.lemmas.fitting.Neighbours.{is_blank, ascii-utf8, first-ascii, last-ascii}
use Rattle.cm_source.proofs.lemmas.fitting.SpellingsAreUtf8.{inline-utf8}
use Rattle.cm_source.proofs.lemmas.fitting.InlineEdges.{second-fails, Shows, shows-punctuation, further-utf8}
use Rattle.cm_source.proofs.lemmas.fitting.EdgesOfKinds.{known}
use Rattle.cm_source.proofs.lemmas.inlines.BytesRead.{no-line-here}
use Rattle.cm_tree.proofs.lemmas.InlineFolds as inline_fold
use Rattle.cm_source.specs.InlineRefusals as refusals

-- emphasis has emphasis
abbrev IsHeld : Judged → Type 0
IsHeld j = (is_emphasis (Some j.face) && not j.has_emphasis) ≡ false

held-cases : (rules : Rules) → Cases (λ i. IsHeld (judged rules i))
held-cases rules = record {
  text = λ text. subst IsHeld (sym (inline_fold.text (refusals.inline_step rules) text)) refl;
  code = λ text. subst IsHeld (sym (inline_fold.code (refusals.inline_step rules) text)) refl;
  html = λ text. subst IsHeld (sym (inline_fold.html (refusals.inline_step rules) text)) refl;
  soft = subst IsHeld (sym (inline_fold.soft (refusals.inline_step rules))) refl;
  hard = subst IsHeld (sym (inline_fold.hard (refusals.inline_step rules))) refl;
  emph = λ content hold. subst IsHeld (sym (inline_fold.emph (refusals.inline_step rules) content)) refl;
  strong = λ content hold. subst IsHeld (sym (inline_fold.strong (refusals.inline_step rules) content)) refl;
  strike = λ content hold. subst IsHeld (sym (inline_fold.strike (refusals.inline_step rules) content)) refl;
  link = λ dest title content hold. subst IsHeld (sym (inline_fold.link (refusals.inline_step rules) dest title content)) refl;
  image = λ dest title content hold. subst IsHeld (sym (inline_fold.image (refusals.inline_step rules) dest title content)) refl;
}

not-emphasis : (rules : Rules) (i : Inline) → (judged rules i).has_emphasis ≡ false → is_emphasis (Some (judged rules i).face) ≡ false
not-emphasis rules i e = go (is_emphasis (Some (judged rules i).face)) (judged rules i).has_emphasis (by-cases (λ i. IsHeld (judged rules i)) (held-cases rules) i) e
  where
    go : (v w : Bool) → (v && not w) ≡ false → w ≡ false → v ≡ false
    go false w h k = refl
    go true false h k = absurd (cc h)
    go true true h k = absurd (cc k)

module _ (rules : Rules) where
  -- ---- what is ahead of an inline

  record Ahead (face : Face) (emphasis begins last : Bool) (content : List Inline) (rest : List ℕ) : Type 0 where
    texts : (is_text (Some face) && is_text (first_face (map (judged rules) content))) ≡ false
    shows : Shows rules (first_face (map (judged rules) content)) (first_of (first_face (map (judged rules) content))) (neighbour rules (first_character (join begins last (map spelled content) ++ rest)))
    no_line_end : is_text (Some face) ≡ true → is_line_end last (map spelled content) ≡ false → is_before_line_end (join begins last (map spelled content) ++ rest) ≡ false
    no_tick : is_code (Some face) ≡ true → begins_with 96 (join begins last (map spelled content) ++ rest) ≡ false
    no_star : emphasis ≡ true → is_emphasis (Some face) ≡ true → begins_with 42 (join begins last (map spelled content) ++ rest) ≡ false
    no_tilde : emphasis ≡ true → is_emphasis (Some face) ≡ true → begins_with 126 (join begins last (map spelled content) ++ rest) ≡ false

  -- what a content needs of what is around it
  record Outside (emphasis last : Bool) (face : Option Face) (before rest : List ℕ) : Type 0 where
    utf8 : IsUtf8 (reverse before)
    beyond : Shows rules face (last_of face) (neighbour rules (last_character before))
    ahead : Shows rules None None (neighbour rules (first_character rest))
    no_line_end : last ≡ false → is_before_line_end rest ≡ false
    no_tick : begins_with 96 rest ≡ false
    no_star : emphasis ≡ true → begins_with 42 rest ≡ false
    no_tilde : emphasis ≡ true → begins_with 126 rest ≡ false

  ahead-of : (place : Place) (face : Face) (beyond : Option Face) (emphasis begins last : Bool) (content : List Inline) (before rest : List ℕ)
      → refusal_of_all place (Some face) (map (judged rules) content) ≡ None → all_of (map has_utf8 content) ≡ true → Outside emphasis last beyond before rest
      → Ahead face emphasis begins last content rest
  ahead-of place face beyond emphasis begins last [] before rest e all o = record {
    texts = and_right (is_text (Some face)) false refl;
    shows = o.ahead;
    no_line_end = λ t k. o.no_line_end k;
    no_tick = λ t. o.no_tick;
    no_star = λ m t. o.no_star m;
    no_tilde = λ m t. o.no_tilde m;
  }
  ahead-of place face beyond emphasis begins last (k ∷ ks) before rest e all o =
      let j = judged rules k in
      let s = (spelled k).spelling begins (is_line_end last (map spelled ks)) in
      let more = join (spelled k).begins_line last (map spelled ks) in
      let parts = or-none (j.refusal place (Some face) (first_face (map (judged rules) ks))) (refusal_of_all (further_in place) (Some j.face) (map (judged rules) ks)) e in
      let own : has_utf8 k ≡ true = (and_parts (has_utf8 k) (all_of (map has_utf8 ks)) all).0 in
      let facts = known rules k place (Some face) (first_face (map (judged rules) ks)) parts.0 own in
      let same : (s ++ more) ++ rest ≡ s ++ (more ++ rest) = append_assoc s more rest in
      record {
        texts = facts.apart.text;
        shows = subst (λ l. Shows rules (Some j.face) (first_of (Some j.face)) (neighbour rules (first_character l))) (sym same) (facts.begins begins (is_line_end last (map spelled ks)) (more ++ rest));
        no_line_end = λ t ends. ap is_before_line_end same ∙ facts.no_line_end ends (second-fails (is_text (Some face)) (is_text (Some j.face)) facts.apart.text t) begins (is_line_end last (map spelled ks)) (more ++ rest);
        no_tick = λ t. ap (begins_with 96) same ∙ facts.no_tick (second-fails (is_code (Some face)) (is_code (Some j.face)) facts.apart.code t) begins (is_line_end last (map spelled ks)) (more ++ rest);
        no_star = λ m t. ap (begins_with 42) same ∙ facts.no_star (second-fails (is_emphasis (Some face)) (is_emphasis (Some j.face)) facts.apart.emphasis t) begins (is_line_end last (map spelled ks)) (more ++ rest);
        no_tilde = λ m t. ap (begins_with 126) same ∙ facts.no_tilde (second-fails (is_emphasis (Some face)) (is_emphasis (Some j.face)) facts.apart.emphasis t) begins (is_line_end last (map spelled ks)) (more ++ rest);
      }

  -- ---- one inline after another

  -- what an inline needs of what is around it
  record Between (face : Face) (emphasis last : Bool) (ahead_face after_face : Option Face) (before rest : List ℕ) : Type 0 where
    utf8 : IsUtf8 (reverse before)
    beyond : Shows rules after_face (last_of after_face) (neighbour rules (last_character before))
    ahead : Shows rules ahead_face (first_of ahead_face) (neighbour rules (first_character rest))
    no_line_end : is_text (Some face) ≡ true → last ≡ false → is_before_line_end rest ≡ false
    no_tick : is_code (Some face) ≡ true → begins_with 96 rest ≡ false
    no_star : emphasis ≡ true → is_emphasis (Some face) ≡ true → begins_with 42 rest ≡ false
    no_tilde : emphasis ≡ true → is_emphasis (Some face) ≡ true → begins_with 126 rest ≡ false

  abbrev FitsThere : Inline → Type 0
  FitsThere i = (place : Place) (beyond ahead : Option Face) (emphasis first last : Bool) (before rest : List ℕ) → Accepted rules place beyond ahead i → has_utf8 i ≡ true
      → (emphasis ≡ false → (judged rules i).has_emphasis ≡ false) → Between (judged rules i).face emphasis last ahead beyond before rest
      → Fits rules emphasis first last before i rest

  content-fits : (content : List Inline) → AllHold FitsThere content → (place : Place) (face : Option Face) (emphasis first last : Bool) (before rest : List ℕ)
      → refusal_of_all place face (map (judged rules) content) ≡ None → all_of (map has_utf8 content) ≡ true
      → (emphasis ≡ false → hold_emphasis (map (judged rules) content) ≡ false) → Outside emphasis last face before rest
      → FitsAll rules emphasis first last before content rest
  unfolding AllHold
  content-fits [] hold place face emphasis first last before rest e all flat o = FitsNone
  content-fits (i ∷ is) hold place face emphasis first last before rest e all flat o =
      let j = judged rules i in
      let others = map (judged rules) is in
      let ends = is_line_end last (map spelled is) in
      let s = (spelled i).spelling first ends in
      let parts = or-none (j.refusal place face (first_face others)) (refusal_of_all (further_in place) (Some j.face) others) e in
      let both = and_parts (has_utf8 i) (all_of (map has_utf8 is)) all in
      let facts = known rules i place face (first_face others) parts.0 both.0 in
      let ahead = ahead-of (further_in place) j.face face emphasis (spelled i).begins_line last is before rest parts.1 both.1 o in
      FitsNext ahead.texts
      (hold.0 place face (first_face others) emphasis first ends before (join (spelled i).begins_line last (map spelled is) ++ rest) parts.0 both.0
      (λ m. (or_parts j.has_emphasis (hold_emphasis others) (flat m)).0)
      (record {
        utf8 = o.utf8;
        beyond = o.beyond;
        ahead = ahead.shows;
        no_line_end = ahead.no_line_end;
        no_tick = ahead.no_tick;
        no_star = ahead.no_star;
        no_tilde = ahead.no_tilde;
      }))
      (content-fits is hold.1 (further_in place) (Some j.face) emphasis (spelled i).begins_line last (reverse s ++ before) rest parts.1 both.1
      (λ m. (or_parts j.has_emphasis (hold_emphasis others) (flat m)).1)
      (record {
        utf8 = further-utf8 s before (inline-utf8 i both.0 first ends) o.utf8;
        beyond = facts.ends first ends before o.utf8;
        ahead = o.ahead;
        no_line_end = o.no_line_end;
        no_tick = o.no_tick;
        no_star = o.no_star;
        no_tilde = o.no_tilde;
      }))

  -- ---- the edges of emphasis

  -- what is seen of a content from before it
  record Begun (content : List Inline) (rest : List ℕ) : Type 0 where
    shows : Shows rules (first_face (map (judged rules) content)) (first_of (first_face (map (judged rules) content))) (neighbour rules (first_character (spelled_inlines false false content ++ rest)))
    no_break : is_break (first_face (map (judged rules) content)) ≡ false
    no_star : begins_with 42 (spelled_inlines false false content ++ rest) ≡ false
    no_tilde : begins_with 126 (spelled_inlines false false content ++ rest) ≡ false

  begun : (place : Place) (content : List Inline) (rest : List ℕ) → is_none (first_face (map (judged rules) content)) ≡ false → refusal_of_all place None (map (judged rules) content) ≡ None
      → all_of (map has_utf8 content) ≡ true → hold_emphasis (map (judged rules) content) ≡ false → Begun content rest
  begun place [] rest some e all flat = absurd (cc some)
  begun place (i ∷ is) rest some e all flat =
      let j = judged rules i in
      let others = map (judged rules) is in
      let ends = is_line_end false (map spelled is) in
      let s = (spelled i).spelling false ends in
      let more = join (spelled i).begins_line false (map spelled is) in
      let parts = or-none (j.refusal place None (first_face others)) (refusal_of_all (further_in place) (Some j.face) others) e in
      let facts = known rules i place None (first_face others) parts.0 (and_parts (has_utf8 i) (all_of (map has_utf8 is)) all).0 in
      let plain = not-emphasis rules i (or_parts j.has_emphasis (hold_emphasis others) flat).0 in
      let same : (s ++ more) ++ rest ≡ s ++ (more ++ rest) = append_assoc s more rest in
      record {
        shows = subst (λ l. Shows rules (Some j.face) (first_of (Some j.face)) (neighbour rules (first_character l))) (sym same) (facts.begins false ends (more ++ rest));
        no_break = facts.apart.first refl;
        no_star = ap (begins_with 42) same ∙ facts.no_star plain false ends (more ++ rest);
        no_tilde = ap (begins_with 126) same ∙ facts.no_tilde plain false ends (more ++ rest);
      }

  -- what is seen of a content from after it
  record Ended (begins : Bool) (content : List Inline) (before : List ℕ) : Type 0 where
    shows : Shows rules (last_face (map (judged rules) content)) (last_of (last_face (map (judged rules) content))) (neighbour rules (last_character (reverse (spelled_inlines begins false content) ++ before)))
    no_break : is_break (last_face (map (judged rules) content)) ≡ false

  ended : (place : Place) (face : Option Face) (begins : Bool) (content : List Inline) (before : List ℕ) → is_none (first_face (map (judged rules) content)) ≡ false
      → refusal_of_all place face (map (judged rules) content) ≡ None → all_of (map has_utf8 content) ≡ true → IsUtf8 (reverse before) → Ended begins content before
  ended place face begins [] before some e all u = absurd (cc some)
  ended place face begins (i ∷ []) before some e all u =
      let j = judged rules i in
      let s = (spelled i).spelling begins false in
      let parts = or-none (j.refusal place face None) (refusal_of_all (further_in place) (Some j.face) []) e in
      let facts = known rules i place face None parts.0 (and_parts (has_utf8 i) true all).0 in
      record {
        shows = subst (λ l. Shows rules (Some j.face) (last_of (Some j.face)) (neighbour rules (last_character (reverse l ++ before)))) (sym (append-nil s)) (facts.ends begins false before u);
        no_break = facts.apart.last refl;
      }
  ended place face begins (i ∷ k ∷ ks) before some e all u =
      let j = judged rules i in
      let others = map (judged rules) (k ∷ ks) in
      let ends = is_line_end false (map spelled (k ∷ ks)) in
      let s = (spelled i).spelling begins ends in
      let more = spelled_inlines (spelled i).begins_line false (k ∷ ks) in
      let parts = or-none (j.refusal place face (first_face others)) (refusal_of_all (further_in place) (Some j.face) others) e in
      let both = and_parts (has_utf8 i) (all_of (map has_utf8 (k ∷ ks))) all in
      let inner = ended (further_in place) (Some j.face) (spelled i).begins_line (k ∷ ks) (reverse s ++ before) refl parts.1 both.1 (further-utf8 s before (inline-utf8 i both.0 begins ends) u) in
      let same : reverse (s ++ more) ++ before ≡ reverse more ++ (reverse s ++ before) = ap (λ l. l ++ before) (reverse-append s more) ∙ append_assoc (reverse more) (reverse s) before in
      record {
        shows = subst (λ l. Shows rules (last_face others) (last_of (last_face others)) (neighbour rules (last_character l))) (sym same) inner.shows;
        no_break = inner.no_break;
      }

  -- a run of stars or tildes between these may open, or close
  flanks : (c : ℕ) (b a : Neighbour) → (c == 95) ≡ false → is_blank a ≡ false → (is_other b && not (is_other a)) ≡ false → may_open c b a ≡ true
  flanks c b a e f g = go (c == 95) b a e f g
    where
      go : (v : Bool) (b a : Neighbour) → v ≡ false → is_blank a ≡ false → (is_other b && not (is_other a)) ≡ false
          → (is_left_flanking b a && (not v || not (is_right_flanking b a) || is_punctuation b)) ≡ true
      go true b a e f g = absurd (cc e)
      go false b whitespace e f g = absurd (cc f)
      go false whitespace punctuation e f g = refl
      go false punctuation punctuation e f g = refl
      go false other punctuation e f g = absurd (cc g)
      go false b other e f g = refl

  -- no whitespace is seen at an edge that has none
  not-blank : (face : Option Face) (edge : Option ℕ) (seen : Neighbour) → Shows rules face edge seen → is_whitespace edge ≡ false → is_break face ≡ false → is_none face ≡ false → is_blank seen ≡ false
  not-blank face edge seen shows e f g = go (is_blank seen) refl
    where
      none : (is_whitespace edge || is_break face || is_none face) ≡ false
      none = or_from (is_whitespace edge || is_break face) (is_none face) (or_from (is_whitespace edge) (is_break face) e f) g

      go : (v : Bool) → is_blank seen ≡ v → v ≡ false
      go false h = refl
      go true h = absurd (cc (none, shows.blank h))

  last-some : (inlines : List Judged) → is_none (first_face inlines) ≡ false → is_none (last_face inlines) ≡ false
  last-some [] e = absurd (cc e)
  last-some (j ∷ []) e = refl
  last-some (j ∷ k ∷ ks) e = last-some (k ∷ ks) refl

  -- ---- inside of marks

  -- a content between two bytes of punctuation
  at-marks : (emphasis : Bool) (x y : ℕ) (before rest : List ℕ) → x < 128 → y < 128 → is_ascii_punct x ≡ true → is_ascii_punct y ≡ true → (y == 32) ≡ false → (y == 10) ≡ false → (y == 96) ≡ false
      → (emphasis ≡ true → (y == 42) ≡ false) → (emphasis ≡ true → (y == 126) ≡ false) → IsUtf8 (reverse before) → Outside emphasis false None (x ∷ before) (y ∷ rest)
  at-marks emphasis x y before rest h k p q a b c d e u = record {
    utf8 = further-utf8 (x ∷ []) before (ascii-utf8 (x ∷ []) (ap (λ t. t && true) (lt-ltb x 128 h))) u;
    beyond = subst (λ o. Shows rules None None (neighbour rules o)) (sym (last-ascii x before h u)) (shows-punctuation rules None x h p);
    ahead = subst (λ o. Shows rules None None (neighbour rules o)) (sym (first-ascii y rest k)) (shows-punctuation rules None y k q);
    no_line_end = λ f. no-line-here y rest a b;
    no_tick = c;
    no_star = d;
    no_tilde = e;
  }

  in-marks : (mark : Mark) (before rest : List ℕ) → IsUtf8 (reverse before) → Outside false false None (written mark ++ before) (written mark ++ rest)
  in-marks Star before rest u = at-marks false 42 42 before rest (omega arith) (omega arith) refl refl refl refl refl (λ e. absurd (cc e)) (λ e. refl) u
  in-marks TwoStars before rest u =
      at-marks false 42 42 (42 ∷ before) (42 ∷ rest) (omega arith) (omega arith) refl refl refl refl refl (λ e. absurd (cc e)) (λ e. refl) (further-utf8 (42 ∷ []) before (ascii-utf8 (42 ∷ []) refl) u)
  in-marks TwoTildes before rest u =
      at-marks false 126 126 (126 ∷ before) (126 ∷ rest) (omega arith) (omega arith) refl refl refl refl refl (λ e. refl) (λ e. absurd (cc e)) (further-utf8 (126 ∷ []) before (ascii-utf8 (126 ∷ []) refl) u)

  mark-ends : (mark : Mark) (text : List ℕ) → begins_with 42 text ≡ false → begins_with 126 text ≡ false → begins_with (character_of mark) text ≡ false
  mark-ends Star text e f = e
  mark-ends TwoStars text e f = e
  mark-ends TwoTildes text e f = f

  no-underscore : (mark : Mark) → (character_of mark == 95) ≡ false
  no-underscore Star = refl
  no-underscore TwoStars = refl
  no-underscore TwoTildes = refl

  mark-utf8 : (mark : Mark) (before : List ℕ) → IsUtf8 (reverse before) → IsUtf8 (reverse (written mark ++ before))
  mark-utf8 mark before u = (in-marks mark before [] u).utf8

  -- a content with an accepted edge has a mark on both sides
  has-marks : (mark : Mark) (strike : Bool) (place : Place) (beyond ahead : Option Face) (content : List Inline) (before rest : List ℕ)
      → EmphasisAccepted rules strike (map (judged rules) content) place beyond ahead → is_known rules mark ≡ true → all_of (map has_utf8 content) ≡ true → IsUtf8 (reverse before)
      → Shows rules beyond (last_of beyond) (neighbour rules (last_character before)) → Shows rules ahead (first_of ahead) (neighbour rules (first_character rest))
      → begins_with 42 rest ≡ false → begins_with 126 rest ≡ false → IsBetween rules mark before (spelled_inlines false false content) rest
  unfolding run_between
  has-marks mark strike place beyond ahead content before rest a is all u shown shows no_star no_tilde =
      let inner = map (judged rules) content in
      let spelling = spelled_inlines false false content in
      let first = first_of (first_face inner) in
      let last = last_of (last_face inner) in
      let five = or_parts (is_none (first_face inner) || is_whitespace first || is_plain rules (last_of beyond) && not (is_plain rules first) || is_whitespace last) (is_plain rules (first_of ahead) && not (is_plain rules last)) a.edge in
      let four = or_parts (is_none (first_face inner) || is_whitespace first || is_plain rules (last_of beyond) && not (is_plain rules first)) (is_whitespace last) five.0 in
      let three = or_parts (is_none (first_face inner) || is_whitespace first) (is_plain rules (last_of beyond) && not (is_plain rules first)) four.0 in
      let two = or_parts (is_none (first_face inner)) (is_whitespace first) three.0 in
      let front = begun (further_in place) content (written mark ++ rest) two.0 a.inside all a.flat in
      let back = ended (further_in place) None false content (written mark ++ before) two.0 a.inside all (mark-utf8 mark before u) in
      let ahead_is : (spelling ++ written mark) ++ rest ≡ spelling ++ (written mark ++ rest) = append_assoc spelling (written mark) rest in
      let beyond_is : (reverse spelling ++ written mark) ++ before ≡ reverse spelling ++ (written mark ++ before) = append_assoc (reverse spelling) (written mark) before in
      let inside_first = subst (λ l. Shows rules (first_face inner) first (neighbour rules (first_character l))) (sym ahead_is) front.shows in
      let inside_last = subst (λ l. Shows rules (last_face inner) last (neighbour rules (last_character l))) (sym beyond_is) back.shows in
      record {
        known = is;
        first_ends = ap (begins_with (character_of mark)) ahead_is ∙ mark-ends mark (spelling ++ (written mark ++ rest)) front.no_star front.no_tilde;
        second_ends = mark-ends mark rest no_star no_tilde;
        opens = flanks (character_of mark) (neighbour rules (last_character before)) (neighbour rules (first_character ((spelling ++ written mark) ++ rest))) (no-underscore mark)
            (not-blank (first_face inner) first _ inside_first two.1 front.no_break two.0)
            (ap (λ v. v && not (is_other (neighbour rules (first_character ((spelling ++ written mark) ++ rest))))) shown.plain ∙ ap (λ v. is_plain rules (last_of beyond) && not v) inside_first.plain ∙ three.1);
        closes = flanks (character_of mark) (neighbour rules (first_character rest)) (neighbour rules (last_character ((reverse spelling ++ written mark) ++ before))) (no-underscore mark)
            (not-blank (last_face inner) last _ inside_last four.1 back.no_break (last-some inner two.0))
            (ap (λ v. v && not (is_other (neighbour rules (last_character ((reverse spelling ++ written mark) ++ before))))) shows.plain ∙ ap (λ v. is_plain rules (first_of ahead) && not v) inside_last.plain ∙ five.1);
      }

  -- ---- each kind

  mark-fits : (mark : Mark) (strike : Bool) (content : List Inline) → AllHold FitsThere content → (j : Judged) → j.has_emphasis ≡ true → is_emphasis (Some j.face) ≡ true
      → (place : Place) (beyond ahead : Option Face) (emphasis first last : Bool) (before rest : List ℕ) → EmphasisAccepted rules strike (map (judged rules) content) place beyond ahead
      → is_known rules mark ≡ true → all_of (map has_utf8 content) ≡ true → (emphasis ≡ false → j.has_emphasis ≡ false) → Between j.face emphasis last ahead beyond before rest
      → Fits rules emphasis first last before (emphasised (character_of mark) (count_of mark) content) rest
  mark-fits mark strike content hold j held face place beyond ahead false first last before rest a is all may b = absurd (cc (may refl, held))
  mark-fits mark strike content hold j held face place beyond ahead true first last before rest a is all may b =
      FitsEmphasis mark
      (has-marks mark strike place beyond ahead content before rest a is all b.utf8 b.beyond b.ahead (b.no_star refl face) (b.no_tilde refl face))
      (content-fits content hold (further_in place) None false false false (written mark ++ before) (written mark ++ rest) a.inside all (λ e. a.flat) (in-marks mark before rest b.utf8))

  in-target : (before rest dest title : List ℕ) → IsUtf8 (reverse before) → Outside true false None (91 ∷ before) (spelled_target dest title ++ rest)
  unfolding spelled_target
  in-target before rest dest title u = at-marks true 91 93 before _ (omega arith) (omega arith) refl refl refl refl refl (λ e. refl) (λ e. refl) u

  fits-cases : Cases FitsThere
  fits-cases = record {
    text = λ text place beyond ahead emphasis first last before rest e all may b.
        let a = text-accepted rules place beyond ahead text e in
        FitsText a.nonempty a.no_nul (b.no_line_end (ap (λ (j : Judged). is_text (Some j.face)) (inline_fold.text (refusals.inline_step rules) text)));
    code = λ text place beyond ahead emphasis first last before rest e all may b.
        let a = code-accepted rules place beyond ahead text e in
        FitsCode a.nonempty a.one_line (b.no_tick (ap (λ (j : Judged). is_code (Some j.face)) (inline_fold.code (refusals.inline_step rules) text)));
    html = λ text place beyond ahead emphasis first last before rest e all may b. FitsHtml (html-accepted rules place beyond ahead text e).one_tag;
    soft = λ place beyond ahead emphasis first last before rest e all may b. FitsSoft;
    hard = λ place beyond ahead emphasis first last before rest e all may b. FitsHard;
    emph = λ content hold place beyond ahead emphasis first last before rest e all may b.
        mark-fits Star false content hold (judged rules (Emph content)) (ap (λ (j : Judged). j.has_emphasis) (inline_fold.emph (refusals.inline_step rules) content)) (ap (λ (j : Judged). is_emphasis (Some j.face)) (inline_fold.emph (refusals.inline_step rules) content))
        place beyond ahead emphasis first last before rest (emph-accepted rules place beyond ahead content e) refl (sym (inline_fold.emph utf8_step content) ∙ all) may b;
    strong = λ content hold place beyond ahead emphasis first last before rest e all may b.
        mark-fits TwoStars false content hold (judged rules (Strong content)) (ap (λ (j : Judged). j.has_emphasis) (inline_fold.strong (refusals.inline_step rules) content)) (ap (λ (j : Judged). is_emphasis (Some j.face)) (inline_fold.strong (refusals.inline_step rules) content))
        place beyond ahead emphasis first last before rest (strong-accepted rules place beyond ahead content e) refl (sym (inline_fold.strong utf8_step content) ∙ all) may b;
    strike = λ content hold place beyond ahead emphasis first last before rest e all may b.
        let a = strike-accepted rules place beyond ahead content e in
        mark-fits TwoTildes true content hold (judged rules (Strike content)) (ap (λ (j : Judged). j.has_emphasis) (inline_fold.strike (refusals.inline_step rules) content)) (ap (λ (j : Judged). is_emphasis (Some j.face)) (inline_fold.strike (refusals.inline_step rules) content))
        place beyond ahead emphasis first last before rest a (not-false rules.strike a.enabled) (sym (inline_fold.strike utf8_step content) ∙ all) may b;
    link = λ dest title content hold place beyond ahead emphasis first last before rest e all may b.
        let a = link-accepted rules place beyond ahead dest title content e in
        let strings = (and_parts (is_utf8 dest && is_utf8 title) (all_of (map has_utf8 content)) (sym (inline_fold.link utf8_step dest title content) ∙ all)).1 in
        FitsLink a.no_nul_dest a.no_nul_title a.no_link a.followed
        (content-fits content hold (inside_link place) None true false false (91 ∷ before) (spelled_target dest title ++ rest) a.inside strings (λ m. absurd (cc m)) (in-target before rest dest title b.utf8));
    image = λ dest title content hold place beyond ahead emphasis first last before rest e all may b.
        let a = image-accepted rules place beyond ahead dest title content e in
        let strings = (and_parts (is_utf8 dest && is_utf8 title) (all_of (map has_utf8 content)) (sym (inline_fold.image utf8_step dest title content) ∙ all)).1 in
        FitsImage a.no_nul_dest a.no_nul_title a.followed
        (content-fits content hold (further_in place) None true false false (91 ∷ 33 ∷ before) (spelled_target dest title ++ rest) a.inside strings (λ m. absurd (cc m))
        (in-target (33 ∷ before) rest dest title (further-utf8 (33 ∷ []) before (ascii-utf8 (33 ∷ []) refl) b.utf8)));
  }

  -- ---- a whole content

  nothing-shows : Shows rules None None (neighbour rules None)
  unfolding neighbour
  nothing-shows = record { plain = refl; blank = λ e. refl }

  whole : Outside true true None [] []
  whole = record {
    utf8 = IsUtf8-nil;
    beyond = subst (λ o. Shows rules None None (neighbour rules o)) (sym (ap (λ l. slice_get (reverse l) 0) chars-nil)) nothing-shows;
    ahead = subst (λ o. Shows rules None None (neighbour rules o)) (sym (ap (λ l. slice_get l 0) chars-nil)) nothing-shows;
    no_line_end = λ e. absurd (cc e);
    no_tick = refl;
    no_star = λ e. refl;
    no_tilde = λ e. refl;
  }

  accepted-fits : (place : Place) (content : List Inline) → refusal_of_all place None (map (judged rules) content) ≡ None → all_of (map has_utf8 content) ≡ true → FitsAll rules true true true [] content []
  accepted-fits place content e all = content-fits content (all-by-cases FitsThere fits-cases content) place None true true true [] [] e all (λ m. absurd (cc m)) whole

pub paragraphs_fit : ParagraphsFit
paragraphs_fit rules content texts e = accepted-fits rules of_paragraph content e texts

pub headings_fit : HeadingsFit
headings_fit rules content texts e = accepted-fits rules of_heading content e texts
