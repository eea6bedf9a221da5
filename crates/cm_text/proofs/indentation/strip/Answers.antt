use Rattle.std.proofs.Common.{◌≡◌, ap, sym, ◌∙◌, string_bytes, arith}
use Rattle.cm_text.specs.LineText.{is_line}
use Rattle.cm_text.specs.Indentation.{strip_from}
use Rattle.cm_text.proofs.lemmas.IndentationLemmas.{strip-fits, strip-line, stripped-parts}
use Rattle.cm_text.proofs.indentation.strip.Goals.{In_ok-push_str}
use Rattle.cm_text.proofs.indentation.strip.Goals as goal

left_is : (c : In_ok-push_str) → strip_from c.args.n c.args.line.now.column (string_bytes c.args.line.now.text) ≡ (c.take_columns-column.result.0, string_bytes c.push_str.new.self)
left_is c =
    stripped-parts c.args.n c.args.line.now.column c.take_columns-column.result.2 c.take_columns-column.result.1 c.take_columns-column.result.0
    (string_bytes c.args.line.now.text) c.deref-2.result.now c.range.result.now (string_bytes c.in_ok-text.text) c.range_from.result.now (string_bytes c.push_str.new.self)
    (rw c.deref.ensures at c.take_columns-column.ensures.taken) c.take_columns-column.ensures.few c.range.ensures.value c.in_ok-text.ensures.ok c.deref-2.ensures c.range_from.ensures.value c.in_ok-push_str.ensures.bytes

pub invariant_of-result : goal.invariant_of-result
invariant_of-result c =
    let line = c.args.line.now in
    let text = string_bytes line.text in
    let left = left_is (goal.at.invariant_of-result c).In_ok-push_str in
    record {
      one_line = ap (λ l. is_line l.1) (sym left) ∙ strip-line c.args.n line.column text line.one_line;
      fits = let all = rw left at (strip-fits c.args.n line.column text) in omega (arith, all, line.fits, line.text.bytes.ok.0, c.push_str.new.self.bytes.ok.0);
    }

pub returns : goal.returns
returns c =
    let left = left_is (goal.at.returns c).In_ok-push_str in
    ap (λ l. record { column = l.0; text = l.1; lazy = c.args.line.now.lazy }) (sym left)
