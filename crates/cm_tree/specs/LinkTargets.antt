-- The destination and title of a link, borrowed.
use Rattle.cm_tree.specs.declared.link_target.LinkTarget.{LinkTarget}
use Rattle.cm_tree.specs.declared.link_target.LinkTarget.TheVariants as lent
use Rattle.cm_tree.specs.Definitions.{Target}

-- the destination and title that a borrowed target has
abbrev pub led_to : LinkTarget → Target
led_to (lent.Plain dest title) = (dest.now, title.now)
led_to (lent.Shared dest title) = (dest.now, title.now)
