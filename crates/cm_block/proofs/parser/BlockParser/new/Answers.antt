use Rattle.std.proofs.Common.{◌∙◌, ap, refl, arith, length}
use Rattle.cm_block.specs.OpenLeaf.{OpenLeaf, no_leaf}
use Rattle.cm_block.specs.Stack.{Stack}
use Rattle.cm_block.specs.Frames.{stack_with}
use Rattle.cm_block.specs.Tests.{count_of}
use Rattle.cm_block.proofs.lemmas.ContainerLemmas.{count_new}
use Rattle.cm_block.proofs.lemmas.ParserLemmas.{new_holds, new_within}
use Rattle.cm_block.proofs.parser.BlockParser.new.Goals as goal

pub returns-clause-stands : goal.returns-clause-stands
returns-clause-stands c =
    let stack : OpenLeaf → Stack = λ leaf. stack_with c.new.result.bare c.new.result.frames c.new.result.level leaf c.new-3.result in
    record {
      going = refl;
      are_lines = refl;
      holds = ap stack c.new-2.ensures ∙ new_holds c.args.limits.rules c.new.result c.new-3.result c.new.ensures.frames c.new.ensures.bare c.new.ensures.level c.new-3.ensures;
      within = new_within c.args.limits.rules c.args.limits.blocks;
      few = omega (arith, ap length c.new.ensures.frames);
      tests =
          let none = count_new c.new.result.bare c.new.result.frames c.new.result.level no_leaf c.new-3.result c.new.ensures.frames c.new.ensures.level in
          let same = ap (λ leaf. count_of (stack leaf)) c.new-2.ensures in
          (λ below. omega (arith, none, same), omega arith);
    }
