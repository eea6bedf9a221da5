use Rattle.std.proofs.Common.{◌≡◌, List, ℕ, subst}
use Rattle.cm_text.specs.LineText.{is_line_ending}
use Rattle.cm_text.specs.Search.{next_place}
use Rattle.cm_text.proofs.lemmas.UnreadLemmas.{first_line_is}
use Rattle.cm_text.proofs.endings.line_len.Goals as goal

pub returns : goal.returns
returns c = record {
  line = let P = λ (t : List ℕ). c.next_far_of.result ≡ next_place is_line_ending t c.args.known in
      first_line_is c.args.text.now c.args.known c.next_far_of.result c.requires.within c.requires.plain (subst P c.as_bytes.ensures.value c.next_far_of.ensures.next);
}
