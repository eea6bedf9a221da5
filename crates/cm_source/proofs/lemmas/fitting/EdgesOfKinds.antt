-- What is known of each kind of accepted inline from outside.
use Rattle.std.proofs.Common.{◌≡◌, ℕ, zero, suc, ◌<◌, ◌==◌, Bool, true, false, List, [], ◌∷◌, ◌++◌, map, reverse, replicate, codes, IsUtf8, Option, Some, None, refl, sym, ap, subst, ◌∙◌, arith, append_assoc}
use Rattle.std.proofs.lemmas.Bool.{and_left, and_right}
use Rattle.std.proofs.lemmas.Str.{IsUtf8-from_is_utf8}
use Rattle.cm_text.specs.Rules.{Rules}
use Rattle.cm_text.specs.Characters.{is_ascii_punct}
use Rattle.cm_tree.specs.declared.tree.Inline.{Inline}
use Rattle.cm_tree.specs.declared.tree.Inline.TheOpen as inline
use Rattle.cm_tree.specs.declared.tree.Inline.TheVariants.{Text, Code, Html, Soft, Hard, Emph, Strong, Strike, Link, Image}
use Rattle.cm_scan.specs.Words.{is_empty}
use Rattle.cm_scan.specs.inlines.Delimiters.{neighbour}
use Rattle.cm_scan.specs.inlines.Atoms.{first_character, last_character}
use Rattle.cm_source.specs.Texts.{spelled_bytes, padding, longest_run, spelled_text, spelled_code, spelled_title, spelled_target}
use Rattle.cm_source.specs.Inlines.{Spelled, join, between, spelled}
use Rattle.cm_source.specs.Inlines as spelling
use Rattle.cm_source.specs.InlineRefusals.{Face, TextFace, CodeFace, BreakFace, EmphasisFace, OtherFace, is_text, is_code, is_emphasis, is_none, is_one_tag, Place, Judged, emphasis, judged}
use Rattle.cm_source.specs.InlineRefusals as refusals
use Rattle.cm_source.specs.steps.Utf8Inlines.{has_utf8, utf8_step}
use Rattle.cm_source.proofs.lemmas.shared.InlineInduction.{Cases, by-cases}
use Rattle.cm_source.proofs.lemmas.shared.AcceptedLemmas.{Accepted, text-accepted, code-accepted, html-accepted, soft-accepted, hard-accepted, emph-accepted, strong-accepted, strike-accepted}
use Rattle.cm_source.proofs.lemmas.fitting.Neighbours.{text-begins, text-ends}
use Rattle.cm_source.proofs.lemmas.fitting.SpellingsAreUtf8.{inline-utf8, utf8-as}
use Rattle.cm_source.proofs.lemmas.fitting.InlineEdges.{Shows, shows-punctuation, shows-feed, beside-shows, Ends, Facts, Bytes, by-bytes, text-hidden, tick-hidden, star-hidden, tilde-hidden}
use Rattle.cm_source.proofs.lemmas.shared.OneTag.{tag-begins, tag-ends}
use Rattle.cm_tree.proofs.lemmas.InlineFolds as inline_fold

-- ---- the first and the last byte of each kind

ticks-last : (n : ℕ) → replicate {A = ℕ} (suc n) 96 ≡ replicate n 96 ++ 96 ∷ []
ticks-last zero = refl
ticks-last (suc n) = ap (λ l. 96 ∷ l) (ticks-last n)

code-first : (text : List ℕ) → (ys : List ℕ) × (spelled_code text ≡ 96 ∷ ys)
unfolding spelled_code
code-first text = let marks = replicate (longest_run 0 text) 96 in (marks ++ padding text ++ text ++ padding text ++ 96 ∷ marks, refl)

code-last : (text : List ℕ) → (zs : List ℕ) × (spelled_code text ≡ zs ++ 96 ∷ [])
unfolding spelled_code
code-last text =
    let n = longest_run 0 text in
    let front = replicate (suc n) 96 ++ padding text ++ text ++ padding text in
    (front ++ replicate n 96, ap (λ l. front ++ l) (ticks-last n) ∙ sym (append_assoc front (replicate n 96) (96 ∷ [])))

pub code-ends : (text : List ℕ) → Ends (λ first last. spelled_code text) 96 96
code-ends text = record { front = λ first last. code-first text; back = λ first last. code-last text }

pub html-ends : (rules : Rules) (text : List ℕ) → is_one_tag rules text ≡ true → Ends (λ first last. text) 60 62
html-ends rules text one = record { front = λ first last. tag-begins rules text one; back = λ first last. tag-ends rules text one }

pub soft-ends : Ends (λ first last. codes "\n") 10 10
soft-ends = record { front = λ first last. ([], refl); back = λ first last. ([], refl) }

pub hard-ends : Ends (λ first last. codes "\\\n") 92 10
hard-ends = record { front = λ first last. (10 ∷ [], refl); back = λ first last. (92 ∷ [], refl) }

pub between-ends : (start end : List ℕ) (content : List Spelled) (x y : ℕ) (more zs : List ℕ) → start ≡ x ∷ more → end ≡ zs ++ y ∷ [] → Ends (between start content end).spelling x y
between-ends start end content x y more zs e f = record {
  front = λ first last. (more ++ join false false content ++ end, ap (λ l. l ++ join false false content ++ end) e);
  back = λ first last. (start ++ join false false content ++ zs, ap (λ l. start ++ join false false content ++ l) f ∙ sym (append_assoc (start ++ join false false content) zs (y ∷ [])));
}

target-last : (dest title : List ℕ) → (zs : List ℕ) × (spelled_target dest title ≡ zs ++ 41 ∷ [])
unfolding spelled_target
target-last dest title = (codes "](<" ++ spelled_bytes dest ++ codes ">" ++ spelled_title title, refl)

pub link-ends : (dest title : List ℕ) (content : List Spelled) → Ends (between (codes "[") content (spelled_target dest title)).spelling 91 41
link-ends dest title content = let last = target-last dest title in between-ends (codes "[") (spelled_target dest title) content 91 41 [] last.0 refl last.1

pub image-ends : (dest title : List ℕ) (content : List Spelled) → Ends (between (codes "![") content (spelled_target dest title)).spelling 33 41
image-ends dest title content = let last = target-last dest title in between-ends (codes "![") (spelled_target dest title) content 33 41 (91 ∷ []) last.0 refl last.1

-- ---- each kind

module _ (rules : Rules) where
  -- of an inline, from what it is judged to be and how it is spelled
  abbrev pub FactsOf : (j : Judged) (s : Spelled) (before after : Option Face) → Type 0
  FactsOf j s before after = Facts rules j.face s.spelling s.ends_line before after

  text-facts : (text : List ℕ) (before after : Option Face) → IsUtf8 text → is_empty text ≡ false → is_text before ≡ false
      → Facts rules (TextFace (first_character text) (last_character (reverse text))) (λ first last. spelled_text first last text) false before after
  text-facts text before after u some apart =
      let face = TextFace (first_character text) (last_character (reverse text)) in
      record {
        begins = λ first last rest. beside-shows rules (Some face) (first_character text) _ (text-begins rules first last text rest u some);
        ends = λ first last beyond v. beside-shows rules (Some face) (last_character (reverse text)) _ (text-ends rules first last text beyond u some v);
        no_line_end = λ k t. absurd (cc t);
        no_tick = λ k first last rest. text-hidden 96 first last text rest tick-hidden some;
        no_star = λ k first last rest. text-hidden 42 first last text rest star-hidden some;
        no_tilde = λ k first last rest. text-hidden 126 first last text rest tilde-hidden some;
        apart = record { text = and_left (is_text before) true apart; code = and_right (is_code before) false refl; emphasis = and_right (is_emphasis before) false refl; first = λ e. refl; last = λ e. refl };
      }

  code-facts : (text : List ℕ) (before after : Option Face) → is_code before ≡ false → ((first last : Bool) → IsUtf8 (spelled_code text))
      → Facts rules CodeFace (λ first last. spelled_code text) false before after
  code-facts text before after apart u = by-bytes rules CodeFace (λ first last. spelled_code text) false before after 96 96
      (record {
        first_low = omega arith;
        last_low = omega arith;
        first_shows = shows-punctuation rules (Some CodeFace) 96 (omega arith) refl;
        last_shows = shows-punctuation rules (Some CodeFace) 96 (omega arith) refl;
        no_space = refl;
        no_feed = λ e. refl;
        no_tick = λ e. absurd (cc e);
        no_star = λ e. refl;
        no_tilde = λ e. refl;
        apart = record { text = and_right (is_text before) false refl; code = and_left (is_code before) true apart; emphasis = and_right (is_emphasis before) false refl; first = λ e. refl; last = λ e. refl };
      })
      (code-ends text) u

  -- raw HTML, a link or an image
  other-bytes : (before after : Option Face) (x y : ℕ) → x < 128 → y < 128 → is_ascii_punct x ≡ true → is_ascii_punct y ≡ true
      → (x == 32) ≡ false → (x == 10) ≡ false → (x == 96) ≡ false → (x == 42) ≡ false → (x == 126) ≡ false → Bytes rules OtherFace false before after x y
  other-bytes before after x y h k p q a b c d e = record {
    first_low = h;
    last_low = k;
    first_shows = shows-punctuation rules (Some OtherFace) x h p;
    last_shows = shows-punctuation rules (Some OtherFace) y k q;
    no_space = a;
    no_feed = λ f. b;
    no_tick = λ f. c;
    no_star = λ f. d;
    no_tilde = λ f. e;
    apart = record { text = and_right (is_text before) false refl; code = and_right (is_code before) false refl; emphasis = and_right (is_emphasis before) false refl; first = λ f. refl; last = λ f. refl };
  }

  emphasis-bytes : (before after : Option Face) (x : ℕ) → x < 128 → is_ascii_punct x ≡ true → (x == 32) ≡ false → (x == 10) ≡ false → (x == 96) ≡ false → is_emphasis before ≡ false
      → Bytes rules EmphasisFace false before after x x
  emphasis-bytes before after x h p a b c apart = record {
    first_low = h;
    last_low = h;
    first_shows = shows-punctuation rules (Some EmphasisFace) x h p;
    last_shows = shows-punctuation rules (Some EmphasisFace) x h p;
    no_space = a;
    no_feed = λ f. b;
    no_tick = λ f. c;
    no_star = λ f. absurd (cc f);
    no_tilde = λ f. absurd (cc f);
    apart = record { text = and_right (is_text before) false refl; code = and_right (is_code before) false refl; emphasis = and_left (is_emphasis before) true apart; first = λ f. refl; last = λ f. refl };
  }

  -- a break, which ends with a line feed
  break-bytes : (ends_line : Bool) (before after : Option Face) (x : ℕ) → x < 128 → Shows rules (Some BreakFace) None (neighbour rules (Some x)) → (x == 32) ≡ false
      → (ends_line ≡ false → (x == 10) ≡ false) → (x == 96) ≡ false → (x == 42) ≡ false → (x == 126) ≡ false → is_none before ≡ false → is_none after ≡ false
      → Bytes rules BreakFace ends_line before after x 10
  break-bytes ends_line before after x h shows a b c d e beyond ahead = record {
    first_low = h;
    last_low = omega arith;
    first_shows = shows;
    last_shows = shows-feed rules (Some BreakFace) refl;
    no_space = a;
    no_feed = b;
    no_tick = λ f. c;
    no_star = λ f. d;
    no_tilde = λ f. e;
    apart = record { text = and_right (is_text before) false refl; code = and_right (is_code before) false refl; emphasis = and_right (is_emphasis before) false refl; first = λ f. absurd (cc (beyond, f)); last = λ f. absurd (cc (ahead, f)) };
  }

so-spelled : (i : Inline) (s : Spelled) → spelled i ≡ s → has_utf8 i ≡ true → (first last : Bool) → IsUtf8 (s.spelling first last)
so-spelled i s e all first last = utf8-as e first last (inline-utf8 i all first last)

module _ (rules : Rules) where
  abbrev IsKnown : Inline → Type 0
  IsKnown i = (place : Place) (before after : Option Face) → Accepted rules place before after i → has_utf8 i ≡ true → FactsOf rules (judged rules i) (spelled i) before after

  as-said : (j k : Judged) (s t : Spelled) (before after : Option Face) → j ≡ k → s ≡ t → FactsOf rules k t before after → FactsOf rules j s before after
  as-said j k s t before after e f facts = subst (λ v. FactsOf rules v s before after) (sym e) (subst (λ w. FactsOf rules k w before after) (sym f) facts)

  known-emphasis : (strike : Bool) (i : Inline) (content : List Inline) (mark : List ℕ) (x : ℕ) (more zs : List ℕ) (before after : Option Face)
      → judged rules i ≡ emphasis rules strike (map (judged rules) content) → spelled i ≡ between mark (map spelled content) mark → has_utf8 i ≡ true
      → mark ≡ x ∷ more → mark ≡ zs ++ x ∷ [] → Bytes rules EmphasisFace false before after x x → FactsOf rules (judged rules i) (spelled i) before after
  known-emphasis strike i content mark x more zs before after e f all g h bytes =
      let s = between mark (map spelled content) mark in
      as-said (judged rules i) (emphasis rules strike (map (judged rules) content)) (spelled i) s before after e f
      (by-bytes rules EmphasisFace s.spelling false before after x x bytes (between-ends mark mark (map spelled content) x x more zs g h) (so-spelled i s f all))

  known-cases : Cases IsKnown
  known-cases = record {
    text = λ text place before after e all.
        let a = text-accepted rules place before after text e in
        as-said (judged rules (Text text)) (refusals.inline_step rules (inline.Text text)) (spelled (Text text)) (spelling.inline_step (inline.Text text)) before after
        (inline_fold.text (refusals.inline_step rules) text) (inline_fold.text spelling.inline_step text) (text-facts rules text before after (IsUtf8-from_is_utf8 text (sym (inline_fold.text utf8_step text) ∙ all)) a.nonempty a.apart);
    code = λ text place before after e all.
        let a = code-accepted rules place before after text e in
        as-said (judged rules (Code text)) (refusals.inline_step rules (inline.Code text)) (spelled (Code text)) (spelling.inline_step (inline.Code text)) before after
        (inline_fold.code (refusals.inline_step rules) text) (inline_fold.code spelling.inline_step text) (code-facts rules text before after a.apart (so-spelled (Code text) (spelling.inline_step (inline.Code text)) (inline_fold.code spelling.inline_step text) all));
    html = λ text place before after e all.
        let a = html-accepted rules place before after text e in
        as-said (judged rules (Html text)) (refusals.inline_step rules (inline.Html text)) (spelled (Html text)) (spelling.inline_step (inline.Html text)) before after
        (inline_fold.html (refusals.inline_step rules) text) (inline_fold.html spelling.inline_step text)
        (by-bytes rules OtherFace (λ first last. text) false before after 60 62 (other-bytes rules before after 60 62 (omega arith) (omega arith) refl refl refl refl refl refl refl)
        (html-ends rules text a.one_tag) (so-spelled (Html text) (spelling.inline_step (inline.Html text)) (inline_fold.html spelling.inline_step text) all));
    soft = λ place before after e all.
        let a = soft-accepted rules place before after e in
        as-said (judged rules Soft) (refusals.inline_step rules inline.Soft) (spelled Soft) (spelling.inline_step inline.Soft) before after (inline_fold.soft (refusals.inline_step rules)) (inline_fold.soft spelling.inline_step)
        (by-bytes rules BreakFace (λ first last. codes "\n") true before after 10 10
        (break-bytes rules true before after 10 (omega arith) (shows-feed rules (Some BreakFace) refl) refl (λ f. absurd (cc f)) refl refl refl a.beyond a.in_front)
        soft-ends (so-spelled Soft (spelling.inline_step inline.Soft) (inline_fold.soft spelling.inline_step) all));
    hard = λ place before after e all.
        let a = hard-accepted rules place before after e in
        as-said (judged rules Hard) (refusals.inline_step rules inline.Hard) (spelled Hard) (spelling.inline_step inline.Hard) before after (inline_fold.hard (refusals.inline_step rules)) (inline_fold.hard spelling.inline_step)
        (by-bytes rules BreakFace (λ first last. codes "\\\n") false before after 92 10
        (break-bytes rules false before after 92 (omega arith) (shows-punctuation rules (Some BreakFace) 92 (omega arith) refl) refl (λ f. refl) refl refl refl a.beyond a.in_front)
        hard-ends (so-spelled Hard (spelling.inline_step inline.Hard) (inline_fold.hard spelling.inline_step) all));
    emph = λ content hold place before after e all.
        let a = emph-accepted rules place before after content e in
        known-emphasis false (Emph content) content (codes "*") 42 [] [] before after (inline_fold.emph (refusals.inline_step rules) content) (inline_fold.emph spelling.inline_step content) all refl refl
        (emphasis-bytes rules before after 42 (omega arith) refl refl refl refl a.apart);
    strong = λ content hold place before after e all.
        let a = strong-accepted rules place before after content e in
        known-emphasis false (Strong content) content (codes "**") 42 (42 ∷ []) (42 ∷ []) before after (inline_fold.strong (refusals.inline_step rules) content) (inline_fold.strong spelling.inline_step content) all refl refl
        (emphasis-bytes rules before after 42 (omega arith) refl refl refl refl a.apart);
    strike = λ content hold place before after e all.
        let a = strike-accepted rules place before after content e in
        known-emphasis true (Strike content) content (codes "~~") 126 (126 ∷ []) (126 ∷ []) before after (inline_fold.strike (refusals.inline_step rules) content) (inline_fold.strike spelling.inline_step content) all refl refl
        (emphasis-bytes rules before after 126 (omega arith) refl refl refl refl a.apart);
    link = λ dest title content hold place before after e all.
        let s = between (codes "[") (map spelled content) (spelled_target dest title) in
        as-said (judged rules (Link dest title content)) (refusals.inline_step rules (inline.Link dest title (map (judged rules) content))) (spelled (Link dest title content)) s before after
        (inline_fold.link (refusals.inline_step rules) dest title content) (inline_fold.link spelling.inline_step dest title content)
        (by-bytes rules OtherFace s.spelling false before after 91 41 (other-bytes rules before after 91 41 (omega arith) (omega arith) refl refl refl refl refl refl refl)
        (link-ends dest title (map spelled content)) (so-spelled (Link dest title content) s (inline_fold.link spelling.inline_step dest title content) all));
    image = λ dest title content hold place before after e all.
        let s = between (codes "![") (map spelled content) (spelled_target dest title) in
        as-said (judged rules (Image dest title content)) (refusals.inline_step rules (inline.Image dest title (map (judged rules) content))) (spelled (Image dest title content)) s before after
        (inline_fold.image (refusals.inline_step rules) dest title content) (inline_fold.image spelling.inline_step dest title content)
        (by-bytes rules OtherFace s.spelling false before after 33 41 (other-bytes rules before after 33 41 (omega arith) (omega arith) refl refl refl refl refl refl refl)
        (image-ends dest title (map spelled content)) (so-spelled (Image dest title content) s (inline_fold.image spelling.inline_step dest title content) all));
  }

  pub known : (i : Inline) → IsKnown i
  known = by-cases IsKnown known-cases
