use Rattle.std.proofs.Common.{◌≡◌, Some, None, get_or, arith}
use Rattle.std.proofs.lemmas.Grind.{common_steps}
use Rattle.std.specs.List.{position}
use Rattle.std.proofs.lemmas.List.Quantifiers.{position-Some}
use Rattle.cm_text.proofs.lemmas.ReplacedLemmas.{replaced-found, replaced-none}
use Rattle.cm_text.proofs.replaced.push_replaced.Goals as goal

pub cut_at-requires-clause-ascii : goal.cut_at-requires-clause-ascii
cut_at-requires-clause-ascii g c =
    let rest = c.loop-at.rest.now in
    let found : position g.K.ByteKind.passes rest ≡ Some c.in-Some.at = cc in
    c.requires.ascii (get_or rest c.in-Some.at 0) (position-Some g.K.ByteKind.passes rest c.in-Some.at 0 found).1

pub push-requires : goal.push-requires
push-requires g c =
    let found : position g.K.ByteKind.passes c.as_bytes-in-Some.result.now ≡ Some c.in-Some.at = cc in
    (position-Some g.K.ByteKind.passes c.as_bytes-in-Some.result.now c.in-Some.at 0 found).1

pub loop-at-preserved : goal.loop-at-preserved
loop-at-preserved g c =
    let rest = c.loop-at.rest.now in
    let found : position g.K.ByteKind.passes rest ≡ Some c.in-Some.at = cc in
    let cut = replaced-found g.K.ByteKind.passes g.K.Replaced.written c.requires.others rest c.in-Some.at found in
    (c.cut_at.ensures.after_utf8, grind (arith, common_steps, c.loop-at.invariant.1, cut))

pub returns : goal.returns
returns g c = record {
  replaced = let none : position g.K.ByteKind.passes c.loop-at.rest.now ≡ None = cc in
      grind (arith, common_steps, c.loop-at.invariant.1, replaced-none g.K.ByteKind.passes g.K.Replaced.written c.requires.others c.loop-at.rest.now none);
}
