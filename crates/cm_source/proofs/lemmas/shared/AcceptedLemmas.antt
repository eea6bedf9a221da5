-- What is known of an inline that isn't refused, kind by kind.
use Rattle.std.proofs.Common.{◌≡◌, ℕ, Bool, true, false, not, ◌||◌, ◌&&◌, List, [], ◌∷◌, map, Option, Some, None, refl, sym, ap, ◌∙◌}
use Rattle.std.proofs.lemmas.Bool.{or_parts, not-false}
use Rattle.std.specs.Prelude.{⊤}
use Rattle.cm_text.specs.Rules.{Rules}
use Rattle.cm_text.specs.Addresses.{is_followed}
use Rattle.cm_tree.specs.declared.tree.Inline.{Inline}
use Rattle.cm_tree.specs.declared.tree.Inline.TheVariants.{Text, Code, Html, Soft, Hard, Emph, Strong, Strike, Link, Image}
use Rattle.cm_scan.specs.Words.{is_empty, ◌<|>◌}
use Rattle.cm_source.specs.declared.why.Why.{Why}
use Rattle.cm_source.specs.declared.why.Why.TheVariants as why
use Rattle.cm_source.specs.InlineRefusals.{refused, has_nul, has_line_ending, Face, is_text, is_code, is_break, is_emphasis, is_none, Place, Judged, further_in, inside_link, refusal_of_all, hold_emphasis, hold_link, has_wrong_edge, emphasis_reasons, emphasis, ends_a_label, code_reasons, html_reasons, break_reasons, link_reasons, image_reasons, is_one_tag, judged}
use Rattle.cm_tree.proofs.lemmas.InlineFolds as inline_fold
use Rattle.cm_source.specs.InlineRefusals as refusals

-- no reason holds

abbrev pub NoneHold : List (Bool × Why) → Type 0
NoneHold [] = ⊤
NoneHold (reason ∷ reasons) = (reason.0 ≡ false) × NoneHold reasons

pub none-holds : (reasons : List (Bool × Why)) → refused reasons ≡ None → NoneHold reasons
none-holds [] e = tt
none-holds ((true, why) ∷ reasons) e = absurd (cc e)
none-holds ((false, why) ∷ reasons) e = (refl, none-holds reasons e)

pub or-none : (first second : Option Why) → (first <|> second) ≡ None → (first ≡ None) × (second ≡ None)
or-none None second e = (refl, e)
or-none (Some u) second e = absurd (cc e)

-- what holds of an inline that isn't refused at its place and between its neighbours

pub record TextAccepted (text : List ℕ) (before : Option Face) : Type 0 where
  pub no_nul : has_nul text ≡ false
  pub nonempty : is_empty text ≡ false
  pub apart : is_text before ≡ false

pub record CodeAccepted (text : List ℕ) (place : Place) (before : Option Face) : Type 0 where
  pub no_nul : has_nul text ≡ false
  pub nonempty : is_empty text ≡ false
  pub one_line : has_line_ending text ≡ false
  pub apart : is_code before ≡ false
  pub no_label : ends_a_label place text ≡ false

pub record HtmlAccepted (rules : Rules) (text : List ℕ) (place : Place) (before : Option Face) : Type 0 where
  pub no_nul : has_nul text ≡ false
  pub one_line : has_line_ending text ≡ false
  pub one_tag : is_one_tag rules text ≡ true
  pub not_first : place.opens_paragraph ≡ false
  pub no_break : is_break before ≡ false
  pub no_label : ends_a_label place text ≡ false

pub record BreakAccepted (place : Place) (before after : Option Face) : Type 0 where
  pub no_heading : place.heading ≡ false
  pub beyond : is_none before ≡ false
  pub in_front : is_none after ≡ false
  pub apart : is_break before ≡ false

pub record EmphasisAccepted (rules : Rules) (strike : Bool) (content : List Judged) (place : Place) (before after : Option Face) : Type 0 where
  pub flat : hold_emphasis content ≡ false
  pub apart : is_emphasis before ≡ false
  pub edge : has_wrong_edge rules before content after ≡ false
  pub enabled : (strike && not rules.strike) ≡ false
  pub inside : refusal_of_all (further_in place) None content ≡ None

pub record LinkAccepted (rules : Rules) (dest title : List ℕ) (content : List Judged) (place : Place) : Type 0 where
  pub no_nul_dest : has_nul dest ≡ false
  pub no_nul_title : has_nul title ≡ false
  pub no_link : hold_link content ≡ false
  pub followed : is_followed rules dest ≡ true
  pub inside : refusal_of_all (inside_link place) None content ≡ None

pub record ImageAccepted (rules : Rules) (dest title : List ℕ) (content : List Judged) (place : Place) : Type 0 where
  pub no_nul_dest : has_nul dest ≡ false
  pub no_nul_title : has_nul title ≡ false
  pub followed : is_followed rules dest ≡ true
  pub inside : refusal_of_all (further_in place) None content ≡ None

module _ (rules : Rules) (place : Place) (before after : Option Face) where
  -- the inline isn't refused
  abbrev pub Accepted : Inline → Type 0
  Accepted i = (judged rules i).refusal place before after ≡ None

  as-judged : {j k : Judged} → j ≡ k → j.refusal place before after ≡ None → k.refusal place before after ≡ None
  as-judged is e = sym (ap (λ (judged : Judged). judged.refusal place before after) is) ∙ e

  pub text-accepted : (text : List ℕ) → Accepted (Text text) → TextAccepted text before
  text-accepted text e =
      let parts = none-holds ((has_nul text, why.Nul) ∷ (is_empty text || is_text before, why.Text) ∷ []) (as-judged (inline_fold.text (refusals.inline_step rules) text) e) in
      let more = or_parts (is_empty text) (is_text before) parts.1.0 in
      record { no_nul = parts.0; nonempty = more.0; apart = more.1 }

  pub code-accepted : (text : List ℕ) → Accepted (Code text) → CodeAccepted text place before
  code-accepted text e =
      let parts = none-holds (code_reasons place text before) (as-judged (inline_fold.code (refusals.inline_step rules) text) e) in
      let most = or_parts (is_empty text || has_line_ending text || is_code before) (ends_a_label place text) parts.1.0 in
      let more = or_parts (is_empty text || has_line_ending text) (is_code before) most.0 in
      let ones = or_parts (is_empty text) (has_line_ending text) more.0 in
      record { no_nul = parts.0; nonempty = ones.0; one_line = ones.1; apart = more.1; no_label = most.1 }

  pub html-accepted : (text : List ℕ) → Accepted (Html text) → HtmlAccepted rules text place before
  html-accepted text e =
      let first = has_line_ending text || not (is_one_tag rules text) in
      let parts = none-holds (html_reasons rules place text before) (as-judged (inline_fold.html (refusals.inline_step rules) text) e) in
      let most = or_parts (first || place.opens_paragraph || is_break before) (ends_a_label place text) parts.1.0 in
      let more = or_parts (first || place.opens_paragraph) (is_break before) most.0 in
      let some = or_parts first (place.opens_paragraph) more.0 in
      let ones = or_parts (has_line_ending text) (not (is_one_tag rules text)) some.0 in
      record { no_nul = parts.0; one_line = ones.0; one_tag = not-false (is_one_tag rules text) ones.1; not_first = some.1; no_break = more.1; no_label = most.1 }

  break-accepted : refused (break_reasons place before after) ≡ None → BreakAccepted place before after
  break-accepted e =
      let most = or_parts (place.heading || is_none before || is_none after) (is_break before) (none-holds (break_reasons place before after) e).0 in
      let more = or_parts (place.heading || is_none before) (is_none after) most.0 in
      let ones = or_parts place.heading (is_none before) more.0 in
      record { no_heading = ones.0; beyond = ones.1; in_front = more.1; apart = most.1 }

  pub soft-accepted : Accepted Soft → BreakAccepted place before after
  soft-accepted e = break-accepted (as-judged (inline_fold.soft (refusals.inline_step rules)) e)

  pub hard-accepted : Accepted Hard → BreakAccepted place before after
  hard-accepted e = break-accepted (as-judged (inline_fold.hard (refusals.inline_step rules)) e)

  emphasis-accepted : (strike : Bool) (content : List Judged) → (emphasis rules strike content).refusal place before after ≡ None → EmphasisAccepted rules strike content place before after
  emphasis-accepted strike content e =
      let parts = or-none (refused (emphasis_reasons rules content before after))
      (refused ((strike && not rules.strike, why.StrikeOff) ∷ []) <|> refusal_of_all (further_in place) None content) e in
      let three = none-holds (emphasis_reasons rules content before after) parts.0 in
      let more = or-none (refused ((strike && not rules.strike, why.StrikeOff) ∷ [])) (refusal_of_all (further_in place) None content) parts.1 in
      record { flat = three.0; apart = three.1.0; edge = three.1.1.0; enabled = (none-holds ((strike && not rules.strike, why.StrikeOff) ∷ []) more.0).0; inside = more.1 }

  pub emph-accepted : (content : List Inline) → Accepted (Emph content) → EmphasisAccepted rules false (map (judged rules) content) place before after
  emph-accepted content e = emphasis-accepted false (map (judged rules) content) (as-judged (inline_fold.emph (refusals.inline_step rules) content) e)

  pub strong-accepted : (content : List Inline) → Accepted (Strong content) → EmphasisAccepted rules false (map (judged rules) content) place before after
  strong-accepted content e = emphasis-accepted false (map (judged rules) content) (as-judged (inline_fold.strong (refusals.inline_step rules) content) e)

  pub strike-accepted : (content : List Inline) → Accepted (Strike content) → EmphasisAccepted rules true (map (judged rules) content) place before after
  strike-accepted content e = emphasis-accepted true (map (judged rules) content) (as-judged (inline_fold.strike (refusals.inline_step rules) content) e)

  pub link-accepted : (dest title : List ℕ) (content : List Inline) → Accepted (Link dest title content) → LinkAccepted rules dest title (map (judged rules) content) place
  link-accepted dest title content e =
      let inner = map (judged rules) content in
      let parts = or-none (refused (link_reasons rules dest title inner)) (refusal_of_all (inside_link place) None inner)
      (as-judged (inline_fold.link (refusals.inline_step rules) dest title content) e) in
      let three = none-holds (link_reasons rules dest title inner) parts.0 in
      let nuls = or_parts (has_nul dest) (has_nul title) three.0 in
      record { no_nul_dest = nuls.0; no_nul_title = nuls.1; no_link = three.1.0; followed = not-false (is_followed rules dest) three.1.1.0; inside = parts.1 }

  pub image-accepted : (dest title : List ℕ) (content : List Inline) → Accepted (Image dest title content) → ImageAccepted rules dest title (map (judged rules) content) place
  image-accepted dest title content e =
      let inner = map (judged rules) content in
      let parts = or-none (refused (image_reasons rules dest title)) (refusal_of_all (further_in place) None inner)
      (as-judged (inline_fold.image (refusals.inline_step rules) dest title content) e) in
      let two = none-holds (image_reasons rules dest title) parts.0 in
      let nuls = or_parts (has_nul dest) (has_nul title) two.0 in
      record { no_nul_dest = nuls.0; no_nul_title = nuls.1; followed = not-false (is_followed rules dest) two.1.0; inside = parts.1 }
