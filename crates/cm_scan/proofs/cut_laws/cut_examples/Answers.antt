use Rattle.std.proofs.Common.{refl}
use Rattle.cm_scan.specs.inlines.Cuts.{inline_of, inlines_of, source_of, sources_of, resolved}
use Rattle.cm_scan.specs.inlines.Places.{places_at, places_from}
use Rattle.cm_scan.proofs.lemmas.InlineComputing.{inline_structure}
use Rattle.cm_scan.proofs.cut_laws.cut_examples.Goals as goal

pub returns-clause-text : goal.returns-clause-text
unfolding inline_structure inline_of inlines_of source_of sources_of resolved
returns-clause-text c = record {
  nothing = record { inlines_are = refl; whole = refl; cut = tt };
  escape_and_reference = record { inlines_are = refl; whole = refl; cut = ((7, refl), tt) };
  no_escape_and_no_reference = record { inlines_are = refl; whole = refl; cut = ((10, refl), tt) };
  reference_of_markup = record { inlines_are = refl; whole = refl; cut = ((3, refl), tt) };
  backslash_before_emphasis = record { inlines_are = refl; whole = refl; cut = ((1, refl), ((refl, ((1, refl), tt)), tt)) };
  backticks_without_end = record { inlines_are = refl; whole = refl; cut = ((4, refl), tt) };
  brackets_without_end = record { inlines_are = refl; whole = refl; cut = ((6, refl), tt) };
}

pub returns-clause-emphasis : goal.returns-clause-emphasis
unfolding inline_structure inline_of inlines_of source_of sources_of resolved
returns-clause-emphasis c = record {
  nested = record { inlines_are = refl; whole = refl; cut = ((refl, ((2, refl), ((refl, ((1, refl), tt)), tt))), tt) };
  strong_in_emphasis = record { inlines_are = refl; whole = refl; cut = ((refl, ((refl, ((1, refl), tt)), tt)), tt) };
  star_left_before = record { inlines_are = refl; whole = refl; cut = ((1, refl), ((refl, ((1, refl), tt)), ((2, refl), tt))) };
  star_left_after = record { inlines_are = refl; whole = refl; cut = ((refl, ((1, refl), tt)), ((1, refl), tt)) };
  underscores = record { inlines_are = refl; whole = refl; cut = ((refl, ((1, refl), tt)), ((1, refl), ((refl, ((1, refl), tt)), tt))) };
  runs_inside = record { inlines_are = refl; whole = refl; cut = ((refl, ((4, refl), tt)), tt) };
  strike = record { inlines_are = refl; whole = refl; cut = ((refl, ((1, refl), tt)), tt) };
  no_strike = record { inlines_are = refl; whole = refl; cut = ((5, refl), tt) };
}

pub returns-clause-link : goal.returns-clause-link
unfolding inline_structure inline_of inlines_of source_of sources_of resolved
returns-clause-link c = record {
  titled = record { inlines_are = refl; whole = refl; cut = ((refl, ((1, refl), tt)), ((1, refl), tt)) };
  emphasis_inside = record { inlines_are = refl; whole = refl; cut = ((refl, ((refl, ((1, refl), tt)), tt)), tt) };
  escape_in_an_address = record { inlines_are = refl; whole = refl; cut = ((refl, ((1, refl), tt)), tt) };
  image_in_a_link = record { inlines_are = refl; whole = refl; cut = ((refl, ((refl, ((1, refl), tt)), tt)), tt) };
  no_text = record { inlines_are = refl; whole = refl; cut = ((refl, tt), tt) };
  full = record { inlines_are = refl; whole = refl; cut = ((refl, ((1, refl), tt)), tt) };
  collapsed = record { inlines_are = refl; whole = refl; cut = ((refl, ((1, refl), tt)), ((1, refl), tt)) };
  shortcut = record { inlines_are = refl; whole = refl; cut = ((refl, ((refl, ((1, refl), tt)), tt)), ((1, refl), tt)) };
  tail_over_backticks = record { inlines_are = refl; whole = refl; cut = ((refl, ((1, refl), tt)), ((1, refl), tt)) };
}

pub returns-clause-atom : goal.returns-clause-atom
unfolding inline_structure inline_of inlines_of source_of sources_of resolved
returns-clause-atom c = record {
  code_span = record { inlines_are = refl; whole = refl; cut = (refl, ((1, refl), tt)) };
  autolink = record { inlines_are = refl; whole = refl; cut = (refl, ((1, refl), tt)) };
  raw_html = record { inlines_are = refl; whole = refl; cut = ((1, refl), (refl, ((1, refl), tt))) };
  two_spaces = record { inlines_are = refl; whole = refl; cut = ((1, refl), (refl, ((1, refl), tt))) };
  backslash = record { inlines_are = refl; whole = refl; cut = ((1, refl), (refl, ((1, refl), tt))) };
  one_space = record { inlines_are = refl; whole = refl; cut = ((1, refl), (refl, ((1, refl), tt))) };
  code_span_in_emphasis = record { inlines_are = refl; whole = refl; cut = ((refl, (refl, tt)), tt) };
}

pub returns-clause-place : goal.returns-clause-place
unfolding source_of sources_of places_at places_from
returns-clause-place c = record { escape_and_reference = refl; nested = refl; titled = refl; image_in_a_link = refl; raw_html = refl }
