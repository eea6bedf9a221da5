use Rattle.cm_inline.proofs.lemmas.Words.{◌≡◌, sym, ap, subst, ◌∙◌, arith, Result, IsErrAnd, inlines_depth, emphasis_of, InlineFault}
use Rattle.std.specs.Prelude.{Ok, Err, IfErr}
use Rattle.cm_inline.specs.Reading.{Refused}
use Rattle.cm_inline.specs.steps.pairing.Segments.{items_in}
use Rattle.cm_inline.specs.steps.Brackets.{view_of}
use Rattle.cm_inline.specs.steps.Marks.{IsSettled}
use Rattle.cm_inline.proofs.lemmas.ReaderLemmas.{nothing-read, fresh_view}
use Rattle.cm_inline.proofs.lemmas.SettledLemmas.{all-can-pass, pairs-too-deep, settled, nest, html-is, too-deep, is-read}
use Rattle.cm_inline.proofs.lemmas.WholeLemmas.{refused}
use Rattle.cm_inline.proofs.reading.InlineReader.read_marks.Goals as goal

pub read_leaf-requires-clause-start : goal.read_leaf-requires-clause-start
read_leaf-requires-clause-start c =
    let reader = c.restart.new.self in
    let e = c.restart.ensures in
    let fresh : view_of reader ≡ fresh_view c.args.lines reader.ends =
    λ i. record { lines = e.lines i; marks = e.marks i; runs = e.runs i; waiting = e.waiting i; pairs = e.pairs i; links = e.links i; links_end = e.links_end i; ends = reader.ends } in
    nothing-read c.args.rules c.args.source.now c.args.definitions.now reader c.args.lines (omega (arith, c.if-source.false)) c.utf8.source fresh e.brackets e.looks e.knows

pub pair_from-requires-clause-pass : goal.pair_from-requires-clause-pass
pair_from-requires-clause-pass c = all-can-pass c.args.rules c.args.source.now c.args.definitions.now c.read_leaf.new.reader c.in_ok-read_leaf.ensures.reading

passed-on : {A : Type 0} (P : InlineFault → Type 0) (r : Result A InlineFault) (told : InlineFault) → IsErrAnd r (λ e. e ≡ told) → P told → IfErr r P
passed-on P (Ok x) told is p = absurd is
passed-on P (Err f) told is p = subst P (sym is) p

pub returns-in_err-pair_from-clause-refused : goal.returns-in_err-pair_from-clause-refused
returns-in_err-pair_from-clause-refused c =
    let told = c.in_err-pair_from.field-0.0 in
    let rules = c.args.rules in
    let source = c.args.source.now in
    let targets = c.args.definitions.now in
    passed-on (λ fault. Refused fault rules targets c.args.limit source) c.from_residual-in_err-pair_from.result told c.from_residual-in_err-pair_from.ensures.1
    (refused told rules targets c.args.limit source (λ e. pairs-too-deep rules source targets c.read_leaf.new.reader c.in_ok-read_leaf.ensures.reading c.args.limit (c.pair_from.ensures.deep (c.in_err-pair_from.was ∙ ap Err e)))
    (λ e. absurd (c.pair_from.ensures.short (c.in_err-pair_from.was ∙ ap Err e))))

pub nests_past-requires : goal.nests_past-requires
nests_past-requires c =
    let reader = c.read_leaf.new.reader in
    let g = c.in_ok-read_leaf.ensures.reading in
    let e = c.in_ok-pair_from.ensures in (
      reader.lines,
      c.args.source.now,
      c.args.definitions.now,
      inlines_depth (emphasis_of (items_in g.segments)),
      nest c.args.rules c.args.source.now c.args.definitions.now reader g c.pair_from.new.self e.passes e.same e.chained,
    )

pub returns-then-nests_past-clause-refused : goal.returns-then-nests_past-clause-refused
returns-then-nests_past-clause-refused c =
    let reader = c.read_leaf.new.reader in
    let source = c.args.source.now in
    let targets = c.args.definitions.now in
    let g = c.in_ok-read_leaf.ensures.reading in
    let e = c.in_ok-pair_from.ensures in
    let nests = nest c.args.rules source targets reader g c.pair_from.new.self e.passes e.same e.chained in
    too-deep c.args.rules source targets reader g c.pair_from.new.self e.passes e.same e.chained c.args.limit (sym (c.nests_past.ensures reader.lines source targets (inlines_depth (emphasis_of (items_in g.segments))) nests) ∙ c.if-nests_past.true)

pub returns-clause-settled : goal.returns-clause-settled
returns-clause-settled c =
    let reader = c.read_leaf.new.reader in
    let e = c.in_ok-pair_from.ensures in
    subst (λ lines. IsSettled lines c.args.source.now c.args.definitions.now (record { marks = reader.marks; runs = c.pair_from.new.self; links = reader.links; brackets = reader.brackets; links_end = reader.links_end; lines = reader.lines; ends = reader.ends }))
    (c.in_ok-read_leaf.ensures.lines ∙ c.restart.ensures.lines) (settled c.args.rules c.args.source.now c.args.definitions.now reader c.in_ok-read_leaf.ensures.reading c.pair_from.new.self e.passes e.same e.chained)

pub returns-clause-read : goal.returns-clause-read
returns-clause-read c =
    let reader = c.read_leaf.new.reader in
    let source = c.args.source.now in
    let targets = c.args.definitions.now in
    let g = c.in_ok-read_leaf.ensures.reading in
    let e = c.in_ok-pair_from.ensures in
    let nests = nest c.args.rules source targets reader g c.pair_from.new.self e.passes e.same e.chained in
    is-read c.args.rules source targets reader g c.pair_from.new.self e.passes e.same e.chained c.args.limit c.looks.result c.looks.ensures
    (sym (c.nests_past.ensures reader.lines source targets (inlines_depth (emphasis_of (items_in g.segments))) nests) ∙ c.if-nests_past.false)

pub returns-clause-html : goal.returns-clause-html
returns-clause-html c =
    let e = c.in_ok-pair_from.ensures in
    html-is c.args.rules c.args.source.now c.args.definitions.now c.read_leaf.new.reader c.in_ok-read_leaf.ensures.reading c.pair_from.new.self e.passes e.same e.chained
