use Rattle.std.proofs.Common.{◌≡◌, List, subst}
use Rattle.std.specs.Prelude.{IfOk}
use Rattle.cm_tree.specs.declared.tree.Owner.{Owner}
use Rattle.cm_html.specs.Listing.{listing_of}
use Rattle.cm_tool.specs.Document.{owners_of_bytes}
use Rattle.cm_tool.specs.steps.LeafWalks.{all_left}
use Rattle.cm_tool.proofs.lemmas.ParserLemmas.{walk_made}
use Rattle.cm_tool.proofs.outlines.listing_of_outline.Goals as goal

pub returns : goal.returns
returns c = λ bytes is.
    let new = c.new.ensures in
    let walk = c.new.result in
    walk_made c.args.limits c.args.outline bytes is (λ tree pages. pages ≡ listing_of tree (owners_of_bytes c.args.limits.rules bytes)) walk c.listing.new.self
    new.first new.limits new.all c.listing.result
    (subst (λ (owners : List Owner). IfOk c.listing.result (λ pages. pages ≡ listing_of (all_left walk.unread) owners)) is.same.owners c.listing.ensures.listing)
    c.listing.ensures.passes c.listing.ensures.told
