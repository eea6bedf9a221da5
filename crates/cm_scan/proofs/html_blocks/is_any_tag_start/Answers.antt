use Rattle.std.proofs.Common.{◌≡◌, ◌∷◌, ◌∙◌, None, sym, ap, arith}
use Rattle.cm_scan.specs.blocks.HtmlBlocks.{is_any_tag_start}
use Rattle.cm_scan.specs.spans.Tags.{open_tag}
use Rattle.cm_scan.proofs.lemmas.blocks.HtmlStarts.{any_nothing, any_closing_none, any_closing, any_open_none, any_open}
use Rattle.cm_scan.proofs.html_blocks.is_any_tag_start.Goals as goal

pub returns-in_default : goal.returns-in_default
returns-in_default c = record { start = sym (ap (λ t. is_any_tag_start (60 ∷ t)) c.in_default.ensures.read ∙ any_nothing) }

pub returns-in_default-closing_tag : goal.returns-in_default-closing_tag
returns-in_default-closing_tag c = record {
  start = let text = c.in-Some.ensures.read ∙ ap (λ b. b ∷ c.in-Some.inside.now) c.if-b-eq47.true in
      sym (ap (λ t. is_any_tag_start (60 ∷ t)) text ∙ any_closing_none c.in-Some.inside.now c.in_default-closing_tag.ensures.read);
}

pub returns-then-b-eq47 : goal.returns-then-b-eq47
returns-then-b-eq47 c = record {
  start = let text = c.in-Some.ensures.read ∙ ap (λ b. b ∷ c.in-Some.inside.now) c.if-b-eq47.true in
      c.is_blank_text.ensures.blank ∙ sym (ap (λ t. is_any_tag_start (60 ∷ t)) text ∙ any_closing c.in-Some.inside.now _ c.in-Some-closing_tag.ensures.read);
}

pub returns-in_default-open_tag : goal.returns-in_default-open_tag
returns-in_default-open_tag c = record {
  start = let none : open_tag (60 ∷ c.in-Some.b ∷ c.in-Some.inside.now) ≡ None = sym (ap (λ t. open_tag (60 ∷ t)) c.in-Some.ensures.read) ∙ c.in_default-open_tag.ensures.read in
      sym (ap (λ t. is_any_tag_start (60 ∷ t)) c.in-Some.ensures.read ∙ any_open_none c.in-Some.b c.in-Some.inside.now c.if-b-eq47.false none);
}

pub returns-then-is_blank_text : goal.returns-then-is_blank_text
returns-then-is_blank_text c = record {
  start = let found = sym (ap (λ t. open_tag (60 ∷ t)) c.in-Some.ensures.read) ∙ c.in-Some-open_tag.ensures.read in
      let is = ap (λ t. is_any_tag_start (60 ∷ t)) c.in-Some.ensures.read ∙ any_open c.in-Some.b c.in-Some.inside.now c.if-b-eq47.false _ found in
      let yes = sym c.is_blank_text-2.ensures.blank ∙ c.if-is_blank_text.true in
      grind (arith, is, yes, c.is_raw_text_name.ensures.among);
}

pub returns-else-is_blank_text : goal.returns-else-is_blank_text
returns-else-is_blank_text c = record {
  start = let found = sym (ap (λ t. open_tag (60 ∷ t)) c.in-Some.ensures.read) ∙ c.in-Some-open_tag.ensures.read in
      let is = ap (λ t. is_any_tag_start (60 ∷ t)) c.in-Some.ensures.read ∙ any_open c.in-Some.b c.in-Some.inside.now c.if-b-eq47.false _ found in
      let not_so = sym c.is_blank_text-2.ensures.blank ∙ c.if-is_blank_text.false in
      grind (arith, is, not_so, c.if-is_blank_text.false);
}
