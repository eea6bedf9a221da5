use Rattle.std.proofs.Common.{false, arith}
use Rattle.std.proofs.lemmas.Fmt.{hex_byte}
use Rattle.std.proofs.lemmas.Grind.{common_steps}
use Rattle.json.specs.Print.{escape_byte}
use Rattle.cm_html.proofs.json_strings.JsonEscapedReplaced.push.Goals as goal

pub returns-in_default : goal.returns-in_default
unfolding escape_byte
returns-in_default c = grind (arith, common_steps, hex_byte false c.args.b c.ranges.b.fits)
