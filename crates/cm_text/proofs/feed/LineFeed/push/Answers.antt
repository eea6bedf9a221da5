use Rattle.std.proofs.Common.{◌++◌, Some, Err, sym, subst}
use Rattle.cm_text.specs.Feed.{Feed, StandsAs}
use Rattle.cm_text.proofs.lemmas.FeedLemmas.{goes, answers, push_goes, push_fails, failed}
use Rattle.cm_text.proofs.feed.LineFeed.push.Goals as goal

pub returns-in-Err-clause-stands : goal.returns-in-Err-clause-stands
returns-in-Err-clause-stands c = λ sound bytes taken stands.
    let g = goes c.args.self.now bytes taken sound c.requires stands in
    let P : Feed → Type 0 = λ f. StandsAs (Some c.in-Err.fault) f.ended (failed c.in-Err.fault f) (bytes ++ c.args.piece.now) taken in
    subst P (sym c.self-2.view_is) (push_fails c.in-Err.fault c.args.self.now c.accept-result.new.self c.args.piece.now bytes taken g c.in-Err.ensures.step)

pub returns-in-Err-clause-settled : goal.returns-in-Err-clause-settled
returns-in-Err-clause-settled c = λ sound bytes taken stands.
    let g = goes c.args.self.now bytes taken sound c.requires stands in
    answers (Err c.in-Err.fault) c.args.self.now c.accept-result.new.self c.args.piece.now bytes taken g c.in-Err.ensures.step

pub returns-in_default-result-clause-stands : goal.returns-in_default-result-clause-stands
returns-in_default-result-clause-stands c = λ sound bytes taken stands.
    let g = goes c.args.self.now bytes taken sound c.requires stands in
    push_goes c.args.self.now c.accept-result.new.self c.args.piece.now bytes taken sound c.requires g c.in_default-result.ensures.step

pub returns-in_default-result-clause-settled : goal.returns-in_default-result-clause-settled
returns-in_default-result-clause-settled c = λ sound bytes taken stands.
    let g = goes c.args.self.now bytes taken sound c.requires stands in
    answers c.accept-result.result c.args.self.now c.accept-result.new.self c.args.piece.now bytes taken g c.accept-result.ensures.step
