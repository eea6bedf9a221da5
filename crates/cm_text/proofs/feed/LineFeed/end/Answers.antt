use Rattle.std.proofs.Common.{Some, Err, sym, subst}
use Rattle.cm_text.specs.Feed.{Feed, StandsAs}
use Rattle.cm_text.proofs.lemmas.FeedLemmas.{goes, close_stands, close_answers, close_fails, failed}
use Rattle.cm_text.proofs.feed.LineFeed.end.Goals as goal

pub returns-in-Err-clause-stands : goal.returns-in-Err-clause-stands
returns-in-Err-clause-stands c = λ sound bytes taken stands.
    let g = goes c.args.self.now bytes taken sound c.requires stands in
    let P : Feed → Type 0 = λ f. StandsAs (Some c.in-Err.fault) f.ended (failed c.in-Err.fault f) bytes taken in
    subst P (sym c.self-2.view_is) (close_fails c.in-Err.fault c.args.self.now c.close-result.new.self bytes taken g c.in-Err.ensures.closes)

pub returns-in-Err-clause-told : goal.returns-in-Err-clause-told
returns-in-Err-clause-told c = λ sound bytes taken stands.
    let g = goes c.args.self.now bytes taken sound c.requires stands in
    close_answers (Err c.in-Err.fault) c.args.self.now c.close-result.new.self bytes taken g c.in-Err.ensures.closes

pub returns-in_default-result-clause-stands : goal.returns-in_default-result-clause-stands
returns-in_default-result-clause-stands c = λ sound bytes taken stands.
    close_stands c.args.self.now c.close-result.new.self bytes taken sound c.requires stands c.in_default-result.ensures.closes

pub returns-in_default-result-clause-told : goal.returns-in_default-result-clause-told
returns-in_default-result-clause-told c = λ sound bytes taken stands.
    let g = goes c.args.self.now bytes taken sound c.requires stands in
    close_answers c.close-result.result c.args.self.now c.close-result.new.self bytes taken g c.close-result.ensures.closes
