use Rattle.std.proofs.Common.{◌≡◌, ◌∙◌, ap, sym, rules, ℕ, true, List, Option, Some, ◌≤◌}
use Rattle.std.specs.Prelude.{option_map}
use Rattle.clap.specs.Words.{ReadsOne, Row, Text, found_of, one_text, rows_of}
use Rattle.clap.specs.declared.parser.matches.ArgMatches.{ArgMatches}
use Rattle.clap.proofs.WalkLemmas.{one_text-rows}
use Rattle.cm_text.specs.Limits.{LimitsView}
use Rattle.cm_command.specs.CommandLine.{Limit, Bytes, Blocks, Inlines, as_number, is_limit, limit_name, limits_from, most, number_at, rules_in}
use Rattle.cm_command.specs.steps.Arguments.{IsRead}
use Rattle.cm_command.proofs.lemmas.CommandLineLemmas.{Gives, read_in_range, number_read, limits_made}
use Rattle.cm_command.proofs.command_line.limits_of.Goals as goal

pub unwrap-bytes-requires : goal.unwrap-bytes-requires
unwrap-bytes-requires c =
    let one = c.requires.limits Bytes in
    let got = read_in_range Bytes one.text c.get_one.result (c.get_one.ensures.value one.text (one_text-rows (found_of c.args.found.now) (limit_name Bytes) ∙ one.is_read)) one.is_fit in
    search (rules, got.1)

pub unwrap-blocks-requires : goal.unwrap-blocks-requires
unwrap-blocks-requires c =
    let one = c.requires.limits Blocks in
    let got = read_in_range Blocks one.text c.get_one-2.result (c.get_one-2.ensures.value one.text (one_text-rows (found_of c.args.found.now) (limit_name Blocks) ∙ one.is_read)) one.is_fit in
    search (rules, got.1)

pub unwrap-inlines-requires : goal.unwrap-inlines-requires
unwrap-inlines-requires c =
    let one = c.requires.limits Inlines in
    let got = read_in_range Inlines one.text c.get_one-3.result (c.get_one-3.ensures.value one.text (one_text-rows (found_of c.args.found.now) (limit_name Inlines) ∙ one.is_read)) one.is_fit in
    search (rules, got.1)

-- the number of a limit that was read, in its range
record IsNumber (limit : Limit) (rows : List Row) (n : ℕ) : Type 0 where
  is : number_at limit rows ≡ Some n
  range : (1 ≤ n) × (n ≤ most limit)

number : (limit : Limit) (matches : ArgMatches) (one : IsRead (limit_name limit) (rows_of (found_of matches))) (r : Option ℕ) (n : ℕ) → is_limit limit one.text ≡ true
    → ((text : Text) → one_text (found_of matches) (limit_name limit) ≡ Some text → ReadsOne Gives text r) → r ≡ Some n → IsNumber limit (rows_of (found_of matches)) n
number limit matches one r n fit reads is =
    let got = number_read limit one.text r n (reads one.text (one_text-rows (found_of matches) (limit_name limit) ∙ one.is_read)) fit is in
    record { is = ap (option_map as_number) one.is_first ∙ ap Some got.0; range = (got.1, got.2) }

pub unwrap-limits-requires : goal.unwrap-limits-requires
unwrap-limits-requires c =
    let read = c.requires.limits in
    let of_bytes = number Bytes c.args.found.now (read Bytes) c.get_one.result c.unwrap-bytes.result (read Bytes).is_fit c.get_one.ensures.value c.unwrap-bytes.ensures in
    let of_blocks = number Blocks c.args.found.now (read Blocks) c.get_one-2.result c.unwrap-blocks.result (read Blocks).is_fit c.get_one-2.ensures.value c.unwrap-blocks.ensures in
    let of_inlines = number Inlines c.args.found.now (read Inlines) c.get_one-3.result c.unwrap-inlines.result (read Inlines).is_fit c.get_one-3.ensures.value c.unwrap-inlines.ensures in
    search (rules, c.new.ensures ∙ limits_made c.unwrap-bytes.result c.unwrap-blocks.result c.unwrap-inlines.result of_bytes.range of_blocks.range of_inlines.range)

pub returns : goal.returns
returns c =
    let read = c.requires.limits in
    let rows = rows_of (found_of c.args.found.now) in
    let of_rules = rules_in rows in
    let of_bytes = number Bytes c.args.found.now (read Bytes) c.get_one.result c.unwrap-bytes.result (read Bytes).is_fit c.get_one.ensures.value c.unwrap-bytes.ensures in
    let of_blocks = number Blocks c.args.found.now (read Blocks) c.get_one-2.result c.unwrap-blocks.result (read Blocks).is_fit c.get_one-2.ensures.value c.unwrap-blocks.ensures in
    let of_inlines = number Inlines c.args.found.now (read Inlines) c.get_one-3.result c.unwrap-inlines.result (read Inlines).is_fit c.get_one-3.ensures.value c.unwrap-inlines.ensures in
    ap (λ n. limits_from of_rules n (number_at Blocks rows) (number_at Inlines rows)) of_bytes.is
    ∙ ap (λ n. limits_from of_rules (Some c.unwrap-bytes.result) n (number_at Inlines rows)) of_blocks.is
    ∙ ap (limits_from of_rules (Some c.unwrap-bytes.result) (Some c.unwrap-blocks.result)) of_inlines.is
    ∙ ap (option_map (λ (l : LimitsView). record l { rules = of_rules })) (sym c.new.ensures ∙ c.unwrap-limits.ensures)
    ∙ search rules
