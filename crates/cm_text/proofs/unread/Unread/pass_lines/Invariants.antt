use Rattle.std.proofs.Common.{◌≡◌}
use Rattle.std.specs.Prelude.{string_len}
use Rattle.cm_text.specs.Cut.{cut_of, without}
use Rattle.cm_text.proofs.unread.Unread.pass_lines.Given as goal

abbrev pub invariant-loop : goal.invariant-loop
invariant-loop l = record {
  cut : cut_of l.self ≡ without l.counter (cut_of l.initial.self);
  len : string_len l.self.text ≡ string_len l.initial.self.text;
}
