use Rattle.cm_inline.proofs.lemmas.Words.{◌≡◌, ℕ, List, get_or, sym, ap, subst, ◌∙◌, rules}
use Rattle.std.specs.Prelude.{Result, Ok, Err, IfOk}
use Rattle.cm_text.specs.Rules.{Rules}
use Rattle.cm_inline.specs.declared.atoms.Atom.{Atom}
use Rattle.cm_inline.specs.declared.brackets.Reader.{Reader}
use Rattle.cm_inline.specs.declared.missing_ends.MissingEnds.{MissingEnds}
use Rattle.cm_inline.specs.steps.Brackets.{Puts}
use Rattle.cm_inline.specs.steps.Reads.{Stands, Begins}
use Rattle.cm_inline.proofs.lemmas.AtomLemmas.{feed-is, opener-is, lone-byte}
use Rattle.cm_inline.proofs.atoms.read_atom.Goals.{in-96+in_ok-read-in-96, in-60, in-92, in-38, in-10, in-32, in-33, in-91, in-42, in-95, in-126, in_default}
use Rattle.cm_inline.proofs.atoms.read_atom.Goals as goal

pub put-requires-clause-begins : goal.put-requires-clause-begins
put-requires-clause-begins g c = elim c.match-as_bytes-at.branch [
  | in-96+in_ok-read-in-96 w ↦ told w.read-is (w.in_ok-read-in-96.ensures.atom c.args.rules)
  | in-60 w ↦ told w.read-is w.angle-read.ensures.atom
  | in-92 w ↦ told w.read-is (w.backslash-read.ensures.atom c.args.rules)
  | in-38 w ↦ told w.read-is (w.ampersand-read.ensures.atom c.args.rules)
  | in-10 w ↦ told w.read-is (feed-is c.args.rules source at c.utf8.source (here 10 w.in-10.is))
  | in-32 w ↦ told w.read-is (w.line_break-read.ensures.atom c.args.rules)
  | in-33 w ↦ told w.read-is (w.exclamation_mark-read.ensures.atom c.args.rules)
  | in-91 w ↦ told w.read-is (opener-is c.args.rules source at c.utf8.source (here 91 w.in-91.is))
  | in-42 w ↦ told w.read-is w.run-read.ensures.atom
  | in-95 w ↦ told w.read-is w.run-read-in-95.ensures.atom
  | in-126 w ↦ told w.read-is w.run-read-in-126.ensures.atom
  | in_default w ↦ told w.read-is (w.byte-read.ensures.atom c.args.rules)
]
  where
    source : List ℕ
    source = c.args.source.now

    at : ℕ
    at = c.args.at

    told : {read : Atom × ℕ} → c.match-as_bytes-at.read ≡ read → Begins c.args.rules source at read.0 read.1 → Begins c.args.rules source at c.match-as_bytes-at.read.0 c.match-as_bytes-at.read.1
    told e is = subst (λ (r : Atom × ℕ). Begins c.args.rules source at r.0 r.1) (sym e) is

    here : (b : ℕ) → get_or c.as_bytes.result.now at 0 ≡ b → Stands source at b
    here b is = record { short = c.requires.short; within = c.requires.within; boundary = c.requires.boundary; byte = ap (λ t. get_or t at 0) (sym c.as_bytes.ensures.value) ∙ is }

pub byte-read-requires-clause-lone : goal.byte-read-requires-clause-lone
byte-read-requires-clause-lone g c = search (rules, lone-byte)

-- what was put doesn't depend on what was known
kept : (rules : Rules) (source : List ℕ) (at : ℕ) (reader new : Reader) (ends : MissingEnds) {E : Type 0} (result : Result ℕ E)
    → IfOk result (λ end. Puts rules source at end (record { marks = reader.marks; runs = reader.runs; links = reader.links; brackets = reader.brackets; links_end = reader.links_end; lines = reader.lines; ends = ends }) new)
    → IfOk result (λ end. Puts rules source at end reader new)
kept rules source at reader new ends (Ok end) p = record {
  atom = p.atom;
  begins = p.begins;
  marks = p.marks;
  runs = p.runs;
  waiting = p.waiting;
  pairs = p.pairs;
  looks = p.looks;
  links = p.links;
  brackets = p.brackets;
  links_end = p.links_end;
  lines = p.lines;
  knows = p.knows;
}
kept rules source at reader new ends (Err e) p = tt

pub returns : goal.returns
returns g c = record {
  puts = elim c.match-as_bytes-at.branch [
    | in-96+in_ok-read-in-96 w ↦ changed w.backticks.new.ends w.reader-is
    | in-60 w ↦ changed w.angle-read.new.ends w.reader-is
    | in-92 w ↦ same w.reader-is
    | in-38 w ↦ same w.reader-is
    | in-10 w ↦ same w.reader-is
    | in-32 w ↦ same w.reader-is
    | in-33 w ↦ same w.reader-is
    | in-91 w ↦ same w.reader-is
    | in-42 w ↦ same w.reader-is
    | in-95 w ↦ same w.reader-is
    | in-126 w ↦ same w.reader-is
    | in_default w ↦ same w.reader-is
  ];
}
  where
    Put : Reader → Type 0
    Put reader = IfOk c.put.result (λ end. Puts c.args.rules c.args.source.now c.args.at end reader c.put.new.reader)

    same : c.match-as_bytes-at.reader ≡ c.args.reader.now → Put c.args.reader.now
    same e = subst Put e c.put.ensures.puts

    changed : (ends : MissingEnds) → c.match-as_bytes-at.reader ≡ record { marks = c.args.reader.now.marks; runs = c.args.reader.now.runs; links = c.args.reader.now.links; brackets = c.args.reader.now.brackets; links_end = c.args.reader.now.links_end; lines = c.args.reader.now.lines; ends = ends }
        → Put c.args.reader.now
    changed ends e = kept c.args.rules c.args.source.now c.args.at c.args.reader.now c.put.new.reader ends c.put.result (subst Put e c.put.ensures.puts)
