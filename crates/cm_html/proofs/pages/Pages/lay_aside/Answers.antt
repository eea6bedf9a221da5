use Rattle.std.proofs.Common.{◌∙◌}
use Rattle.cm_html.proofs.lemmas.PageLemmas.{laid_aside}
use Rattle.cm_html.proofs.pages.Pages.lay_aside.Goals as goal

pub returns : goal.returns
returns c =
    laid_aside c.self.inside.full.items c.push.new.self.items c.self.inside.last c.replace.result c.in_ok-page.page c.replace.new.dest c.in_ok-push.ensures.items (c.replace.ensures.value ∙ c.shrink_to_fit.ensures)
    c.replace.ensures.after c.in_ok-page.ensures c.args.self.now c.self.view_is
