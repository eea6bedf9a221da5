use Rattle.cm_inline.proofs.lemmas.Words.{rules}
use Rattle.cm_inline.proofs.lemmas.NestingLemmas.{autolink-fits, autolink-level, begin-level, end-level, flat-level}
use Rattle.cm_inline.proofs.nesting.after_mark.Goals as goal

pub overflow_add-level : goal.overflow_add-level
overflow_add-level c = search (rules, autolink-fits)

pub returns-in-Autolink : goal.returns-in-Autolink
returns-in-Autolink c = λ source targets. autolink-level source targets c.args.reader.now c.args.mark c.args.level c.in-Autolink.is_address c.max.result c.in-Autolink.is c.max.ensures

pub returns-in-Start : goal.returns-in-Start
returns-in-Start c = λ source targets. begin-level source targets c.args.reader.now c.args.mark c.args.level c.begin.result c.in-Start.number c.in-Start.is c.begin.ensures

pub returns-in-End : goal.returns-in-End
returns-in-End c = λ source targets. end-level source targets c.args.reader.now c.args.mark c.args.level c.end.result c.in-End.number c.in-End.is c.end.ensures

pub returns-in_default : goal.returns-in_default
returns-in_default c = λ source targets.
    flat-level source targets c.args.reader.now c.args.mark c.args.level c.requires.high c.in_default.not-Autolink c.in_default.not-Run c.in_default.not-Start c.in_default.not-End
