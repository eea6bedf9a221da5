-- The contents and info strings of trees that can be spelled have sources that read back in their blocks.
use Rattle.std.proofs.Common.{◌≡◌, ℕ, ◌==◌, ◌||◌, not, Bool, true, false, List, [], ◌∷◌, None, map, refl, ap, ◌∙◌}
use Rattle.std.specs.Prelude.{if◌then◌else◌}
use Rattle.std.proofs.lemmas.Bool.{or_parts, not-true}
use Rattle.std.specs.List.{list_all, list_any}
use Rattle.cm_text.specs.Rules.{Rules}
use Rattle.cm_text.specs.Unescaping.{unescape}
use Rattle.cm_tree.specs.Followed.{is_line_space, is_read_info}
use Rattle.cm_tree.specs.declared.tree.Inline.{Inline}
use Rattle.cm_scan.specs.blocks.Parts.{as_space, info_of}
use Rattle.cm_scan.specs.blocks.LineForms.{without_closing}
use Rattle.cm_scan.specs.Words.{skip, trim_end_by, trim, trim_end}
use Rattle.cm_source.specs.Inlines.{spelled_content}
use Rattle.cm_source.specs.InlineRefusals.{has_nul, paragraph_refusal, heading_refusal, of_paragraph, of_heading}
use Rattle.cm_source.specs.Texts.{spelled_text}
use Rattle.cm_source.specs.steps.Sources.{IsParagraphSource, IsHeadingSource, IsInfoSource, ContentsGiveSources}
use Rattle.cm_source.proofs.lemmas.sources.ContentEnds.{trimmed-start, trimmed-end, unclosed, text-bare, text-well, content-bare, content-ends}
use Rattle.cm_source.proofs.lemmas.sources.ContentLabels.{defines-nothing, content-none}
use Rattle.cm_source.proofs.lemmas.sources.KeptBytes.{is_kept, contents-keep, text-is-line, is_line_byte}
use Rattle.cm_source.proofs.lemmas.sources.LineFronts.{seen_view, further_lines, parted-lines, front-line, lines-are-text, first-front}
use Rattle.cm_source.proofs.lemmas.shared.BytesOfSpellings.{is_tame, text-tame, none-tame}
use Rattle.cm_source.proofs.lemmas.inlines.UnescapeBack.{unescape_text}
use Rattle.cm_source.proofs.lemmas.sources.ContentFronts.{paragraph-lines}

paragraph-source : (rules : Rules) (content : List Inline) → paragraph_refusal rules content ≡ None → list_any (λ i. true) content ≡ true → IsParagraphSource rules (spelled_content content)
unfolding is_kept
paragraph-source rules [] e some = absurd (cc some)
paragraph-source rules (i ∷ is) e some =
    let source = spelled_content (i ∷ is) in
    let begin = paragraph-lines rules i is of_paragraph refl e in
    let line = front-line rules source (first-front source begin) in
    record {
      clean = contents-keep rules false (i ∷ is) of_paragraph refl None e true true;
      first = seen_view source;
      further = further_lines source;
      lines = parted-lines source;
      bare = line.bare;
      starts = line.starts;
      no_dashes = line.no_dashes;
      no_stars = line.no_stars;
      others = lines-are-text rules true source begin;
      trimmed = trimmed-end false source (content-ends rules i is of_paragraph None e true).well;
      defines_nothing = defines-nothing source (content-none rules i is of_paragraph refl e true);
    }

heading-source : (rules : Rules) (content : List Inline) → heading_refusal rules content ≡ None → IsHeadingSource (spelled_content content)
unfolding is_kept is_line_byte skip trim_end_by without_closing
heading-source rules [] e = record { clean = refl; trimmed = refl; unclosed = refl }
heading-source rules (i ∷ is) e =
    let source = spelled_content (i ∷ is) in
    let ends = (content-ends rules i is of_heading None e true).well in
    record {
      clean = contents-keep rules true (i ∷ is) of_heading refl None e true true;
      trimmed = ap trim_end (trimmed-start source (content-bare rules i is of_heading e true)) ∙ trimmed-end false source ends;
      unclosed = unclosed true false source refl ends;
    }

no-backtick : (text : List ℕ) → list_all is_tame text ≡ true → list_any (λ b. b == 96) text ≡ false
unfolding is_tame
no-backtick text e = none-tame 96 refl text e

info-source : (rules : Rules) (info : List ℕ) → IsInfoSource (spelled_text true true info)
unfolding is_line_byte skip trim_end_by spelled_text
info-source rules info = record { clean = text-is-line true true info; trimmed = trimmed-info info; no_backtick = no-backtick (spelled_text true true info) (text-tame true true info) }
  where
    trimmed-info : (info : List ℕ) → trim (spelled_text true true info) ≡ spelled_text true true info
    trimmed-info [] = refl
    trimmed-info (b ∷ bs) =
        let source = spelled_text true true (b ∷ bs) in
        ap trim_end (trimmed-start source (text-bare rules true (b ∷ bs) refl)) ∙ trimmed-end false source (text-well true (b ∷ bs) refl).well

-- an info on one line has no other spaces than these
on-one-line : (info : List ℕ) → list_any is_line_space info ≡ false → map as_space info ≡ info
on-one-line [] e = refl
on-one-line (b ∷ bs) e =
    let parts = or_parts (is_line_space b) (list_any is_line_space bs) e in
    ap (λ (t : Bool). (if t then 32 else b) ∷ map as_space bs) parts.0 ∙ ap (λ t. b ∷ t) (on-one-line bs parts.1)

info-back : (rules : Rules) (info : List ℕ) → has_nul info ≡ false → is_read_info rules info ≡ true → info_of rules (spelled_text true true info) ≡ info
unfolding info_of
info-back rules info nul read = go rules.raw_html read
  where
    source : List ℕ
    source = spelled_text true true info

    go : (t : Bool) → (t || not (list_any is_line_space info)) ≡ true → (if t then unescape source else map as_space (unescape source)) ≡ info
    go true h = unescape_text true true info nul
    go false h = ap (map as_space) (unescape_text true true info nul) ∙ on-one-line info (not-true (list_any is_line_space info) h)

pub contents_give_sources : (rules : Rules) → ContentsGiveSources rules
contents_give_sources rules = record {
  paragraphs = paragraph-source rules;
  headings = heading-source rules;
  infos = λ info nul. info-source rules info;
  infos_back = λ info nul read. info-back rules info nul read;
}
