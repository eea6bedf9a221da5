-- The form in which a text of the tree is written.
use Rattle.std.specs.Prelude.{ℕ, List}
use Rattle.cm_html.specs.declared.forms.Form.{Form}
use Rattle.cm_html.specs.declared.forms.Form.TheVariants.{Destination, Escaped, Quoted, Json}
use Rattle.cm_html.specs.Escape.{escape, destination_html}
use Rattle.cm_html.specs.Listing.{quoted}
use Rattle.json.specs.Print as json

-- a text in a form: as a destination, as any other text in HTML, or between the quotes of a listing
abbrev pub formed : Form → List ℕ → List ℕ
formed Destination text = destination_html text
formed Escaped text = escape text
formed Quoted text = quoted text
formed Json text = json.escape text
