use Rattle.std.proofs.Common.{refl}
use Rattle.cm_source.specs.WorkedExamples.{TextExamples, InlineExamples, BlockExamples}
use Rattle.cm_source.proofs.lemmas.shared.Computing.{string_spellings, spelling}
use Rattle.cm_source.proofs.laws.worked_examples.Goals as goal

texts : TextExamples
unfolding string_spellings
texts = record {
  punctuation = refl;
  inner_space = refl;
  space_alone = refl;
  spaces_at_both_ends = refl;
  spaces_inside_a_line = refl;
  backtick_and_tab = refl;
  beyond_ascii = refl;
  code = refl;
  code_of_a_backtick = refl;
  code_of_spaces = refl;
  code_of_nothing_but_spaces = refl;
  code_with_runs = refl;
  target = refl;
  target_without_title = refl;
}

inlines : InlineExamples
unfolding string_spellings
inlines = record {
  space_before_emphasis = simp spelling;
  link = simp spelling;
  image = simp spelling;
  space_before_a_soft_break = simp spelling;
  space_before_a_hard_break = simp spelling;
  marks = simp spelling;
}

blocks : BlockExamples
unfolding string_spellings
blocks = record {
  nothing = refl;
  paragraphs = simp spelling;
  headings = simp spelling;
  code_block = simp spelling;
  html_and_break = simp spelling;
  quotes = simp spelling;
  tight_list = simp spelling;
  loose_list = simp spelling;
  list_in_a_quote = simp spelling;
}

pub returns-clause-texts : goal.returns-clause-texts
returns-clause-texts c = texts

pub returns-clause-inlines : goal.returns-clause-inlines
returns-clause-inlines c = inlines

pub returns-clause-blocks : goal.returns-clause-blocks
returns-clause-blocks c = blocks
