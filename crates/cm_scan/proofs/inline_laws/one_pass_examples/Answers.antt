use Rattle.std.proofs.Common.{refl}
use Rattle.cm_scan.specs.inlines.Delimiters.{delimiters_match}
use Rattle.cm_scan.specs.inlines.Pairing.{settled_after, nearest_opener}
use Rattle.cm_scan.specs.inlines.OnePass.{closed_within, pass_from}
use Rattle.cm_scan.proofs.inline_laws.one_pass_examples.Goals as goal

pub returns : goal.returns
unfolding delimiters_match settled_after nearest_opener closed_within pass_from
returns c = record { two_pairs = refl; one_star_left = refl }
