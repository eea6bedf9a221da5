-- No content that can be spelled has U+0000 or a carriage return in its spelling, nor one of a heading a line feed.
use Rattle.std.proofs.Common.{◌≡◌, ℕ, suc, ◌==◌, ◌&&◌, ◌||◌, not, cond, Bool, true, false, List, [], ◌∷◌, ◌++◌, replicate, map, Option, Some, None, codes, refl, sym, ap, subst, ◌∙◌}
use Rattle.std.specs.List.{list_all}
use Rattle.std.proofs.lemmas.Bool.{or_parts, and_from, and_parts}
use Rattle.cm_text.specs.Rules.{Rules}
use Rattle.cm_tree.specs.declared.tree.Inline.{Inline}
use Rattle.cm_tree.specs.declared.tree.Inline.TheVariants.{Text, Code, Html, Soft, Hard, Emph, Strong, Strike, Link, Image}
use Rattle.cm_source.specs.Inlines.{Spelled, spelled, join, is_line_end, between}
use Rattle.cm_source.specs.Texts.{longest_run, is_padded, padding, spelled_code, spelled_text, spelled_target}
use Rattle.cm_source.specs.InlineRefusals.{has_nul, has_line_ending, Face, Place, judged, further_in, inside_link, first_face, refusal_of_all}
use Rattle.cm_source.proofs.lemmas.shared.AcceptedLemmas.{or-none, Accepted, code-accepted, html-accepted, soft-accepted, hard-accepted, emph-accepted, strong-accepted, strike-accepted, link-accepted, image-accepted}
use Rattle.cm_source.proofs.lemmas.shared.InlineInduction.{AllHold, Cases, all-by-cases}
use Rattle.cm_source.proofs.lemmas.shared.BytesOfSpellings.{is_tame, text-tame, target-tame}
use Rattle.cm_source.proofs.lemmas.shared.AllPass.{all-both, all-times, all-so}
use Rattle.cm_tree.proofs.lemmas.InlineFolds as inline_fold
use Rattle.cm_source.specs.Inlines as spelling

-- neither U+0000 nor a line ending
unfoldable pub is_line_byte : ℕ → Bool
is_line_byte b = not (b == 0) && (not (b == 10) && not (b == 13))

-- neither U+0000 nor a carriage return, and in a heading no line feed
unfoldable pub is_kept : (heading : Bool) → ℕ → Bool
is_kept true b = is_line_byte b
is_kept false b = not (b == 0) && not (b == 13)

line-kept : (heading : Bool) (b : ℕ) → is_line_byte b ≡ true → is_kept heading b ≡ true
unfolding is_kept is_line_byte
line-kept true b e = e
line-kept false b e =
    let parts = and_parts (not (b == 0)) (not (b == 10) && not (b == 13)) e in
    and_from (not (b == 0)) (not (b == 13)) parts.0 (and_parts (not (b == 10)) (not (b == 13)) parts.1).1

tame-line : (b : ℕ) → is_tame b ≡ true → is_line_byte b ≡ true
unfolding is_tame is_line_byte
tame-line b e = go (b == 0) (b == 10) (b == 13) (b == 96) e
  where
    go : (v w x y : Bool) → (not v && (not w && (not x && not y))) ≡ true → (not v && (not w && not x)) ≡ true
    go false false false y k = refl
    go true w x y k = absurd (cc k)
    go false true x y k = absurd (cc k)
    go false false true y k = absurd (cc k)

-- a string without U+0000 and line endings
pub one-line : (text : List ℕ) → has_nul text ≡ false → has_line_ending text ≡ false → list_all is_line_byte text ≡ true
unfolding is_line_byte
one-line [] e f = refl
one-line (b ∷ bs) e f =
    let nul = or_parts (b == 0) (has_nul bs) e in
    let ending = or_parts (b == 10 || b == 13) (has_line_ending bs) f in
    let ends = or_parts (b == 10) (b == 13) ending.0 in
    ap (λ v. v && list_all is_line_byte bs) (go (b == 0) (b == 10) (b == 13) nul.0 ends.0 ends.1) ∙ one-line bs nul.1 ending.1
  where
    go : (v w x : Bool) → v ≡ false → w ≡ false → x ≡ false → (not v && (not w && not x)) ≡ true
    go false false false h k l = refl
    go true w x h k l = absurd (cc h)
    go false true x h k l = absurd (cc k)
    go false false true h k l = absurd (cc l)

pub padding-line : (text : List ℕ) → list_all is_line_byte (padding text) ≡ true
unfolding is_line_byte
padding-line text = go (is_padded text)
  where
    go : (v : Bool) → list_all is_line_byte (cond v (32 ∷ []) []) ≡ true
    go true = refl
    go false = refl

pub code-is-line : (text : List ℕ) → list_all is_line_byte text ≡ true → list_all is_line_byte (spelled_code text) ≡ true
unfolding spelled_code is_line_byte
code-is-line text e =
    let marks = replicate (suc (longest_run 0 text)) 96 in
    let ticks = all-times is_line_byte (suc (longest_run 0 text)) 96 refl in
    all-both is_line_byte (marks ++ padding text ++ text ++ padding text) marks
    (all-both is_line_byte (marks ++ padding text ++ text) (padding text)
    (all-both is_line_byte (marks ++ padding text) text (all-both is_line_byte marks (padding text) ticks (padding-line text)) e) (padding-line text)) ticks

pub text-is-line : (first last : Bool) (text : List ℕ) → list_all is_line_byte (spelled_text first last text) ≡ true
text-is-line first last text = all-so is_tame is_line_byte tame-line (spelled_text first last text) (text-tame first last text)

pub target-is-line : (dest title : List ℕ) → list_all is_line_byte (spelled_target dest title) ≡ true
target-is-line dest title = all-so is_tame is_line_byte tame-line (spelled_target dest title) (target-tame dest title)

module _ (rules : Rules) (heading : Bool) where
  abbrev Keeps : List ℕ → Type 0
  Keeps text = list_all (is_kept heading) text ≡ true

  line-keeps : (text : List ℕ) → list_all is_line_byte text ≡ true → Keeps text
  line-keeps text e = all-so is_line_byte (is_kept heading) (line-kept heading) text e

  -- however an inline is spelled that isn't refused
  abbrev InlineKeeps : Inline → Type 0
  InlineKeeps i = (place : Place) → place.heading ≡ heading → (before after : Option Face) → Accepted rules place before after i → (first last : Bool) → Keeps ((spelled i).spelling first last)

  content-keeps : (is : List Inline) → AllHold InlineKeeps is → (place : Place) → place.heading ≡ heading → (before : Option Face)
      → refusal_of_all place before (map (judged rules) is) ≡ None → (first last : Bool) → Keeps (join first last (map spelled is))
  unfolding AllHold
  content-keeps [] all place h before e first last = refl
  content-keeps (i ∷ is) all place h before e first last =
      let parts = or-none ((judged rules i).refusal place before (first_face (map (judged rules) is))) (refusal_of_all (further_in place) (Some (judged rules i).face) (map (judged rules) is)) e in
      let ends = is_line_end last (map spelled is) in
      all-both (is_kept heading) ((spelled i).spelling first ends) (join (spelled i).begins_line last (map spelled is))
      (all.0 place h before (first_face (map (judged rules) is)) parts.0 first ends)
      (content-keeps is all.1 (further_in place) h (Some (judged rules i).face) parts.1 (spelled i).begins_line last)

  round-keeps : (start close : List ℕ) (is : List Inline) → list_all is_line_byte start ≡ true → list_all is_line_byte close ≡ true → Keeps (join false false (map spelled is))
      → (first last : Bool) → Keeps ((between start (map spelled is) close).spelling first last)
  round-keeps start close is s c inside first last =
      all-both (is_kept heading) (start ++ join false false (map spelled is)) close
      (all-both (is_kept heading) start (join false false (map spelled is)) (line-keeps start s) inside) (line-keeps close c)

  -- how an inline is spelled, by its kind
  abbrev told : (i : Inline) (s : Spelled) → spelled i ≡ s → ((first last : Bool) → Keeps (s.spelling first last)) → (first last : Bool) → Keeps ((spelled i).spelling first last)
  told i s e k first last = subst (λ (z : Spelled). Keeps (z.spelling first last)) (sym e) (k first last)

  break-keeps : (text : List ℕ) → list_all (is_kept false) text ≡ true → heading ≡ false → Keeps text
  break-keeps text e h = subst (λ v. list_all (is_kept v) text ≡ true) (sym h) e

  cases : Cases InlineKeeps
  unfolding is_line_byte is_kept
  cases = record {
    text = λ text place h before after e. told (Text text) _ (inline_fold.text spelling.inline_step text) (λ first last. line-keeps (spelled_text first last text) (text-is-line first last text));
    code = λ text place h before after e.
        let a = code-accepted rules place before after text e in
        told (Code text) _ (inline_fold.code spelling.inline_step text) (λ first last. line-keeps (spelled_code text) (code-is-line text (one-line text a.no_nul a.one_line)));
    html = λ text place h before after e.
        let a = html-accepted rules place before after text e in
        told (Html text) _ (inline_fold.html spelling.inline_step text) (λ first last. line-keeps text (one-line text a.no_nul a.one_line));
    soft = λ place h before after e. told Soft _ (inline_fold.soft spelling.inline_step) (λ first last. break-keeps (codes "\n") refl (sym h ∙ (soft-accepted rules place before after e).no_heading));
    hard = λ place h before after e. told Hard _ (inline_fold.hard spelling.inline_step) (λ first last. break-keeps (codes "\\\n") refl (sym h ∙ (hard-accepted rules place before after e).no_heading));
    emph = λ is all place h before after e. told (Emph is) _ (inline_fold.emph spelling.inline_step is)
        (round-keeps (codes "*") (codes "*") is refl refl (content-keeps is all (further_in place) h None (emph-accepted rules place before after is e).inside false false));
    strong = λ is all place h before after e. told (Strong is) _ (inline_fold.strong spelling.inline_step is)
        (round-keeps (codes "**") (codes "**") is refl refl (content-keeps is all (further_in place) h None (strong-accepted rules place before after is e).inside false false));
    strike = λ is all place h before after e. told (Strike is) _ (inline_fold.strike spelling.inline_step is)
        (round-keeps (codes "~~") (codes "~~") is refl refl (content-keeps is all (further_in place) h None (strike-accepted rules place before after is e).inside false false));
    link = λ dest title is all place h before after e. told (Link dest title is) _ (inline_fold.link spelling.inline_step dest title is)
        (round-keeps (codes "[") (spelled_target dest title) is refl (target-is-line dest title) (content-keeps is all (inside_link place) h None (link-accepted rules place before after dest title is e).inside false false));
    image = λ dest title is all place h before after e. told (Image dest title is) _ (inline_fold.image spelling.inline_step dest title is)
        (round-keeps (codes "![") (spelled_target dest title) is refl (target-is-line dest title) (content-keeps is all (further_in place) h None (image-accepted rules place before after dest title is e).inside false false));
  }

  pub contents-keep : (is : List Inline) (place : Place) → place.heading ≡ heading → (before : Option Face) → refusal_of_all place before (map (judged rules) is) ≡ None
      → (first last : Bool) → Keeps (join first last (map spelled is))
  contents-keep is = content-keeps is (all-by-cases InlineKeeps cases is)
