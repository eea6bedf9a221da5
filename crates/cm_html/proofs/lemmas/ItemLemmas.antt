-- One pass over the blocks of an item comes to its inside.
use Rattle.std.proofs.Common.{◌≡◌, ℕ, Bool, true, List, [], ◌++◌, ap, sym, ◌∙◌, append-nil}
use Rattle.cm_html.specs.Html.{Written, inside_from}
use Rattle.cm_html.specs.steps.HtmlParts.{inside}

-- what a pass has added after some bytes once no block is left
pub inside_added : (tight fresh : Bool) (ws left : List Written) (old new : List ℕ) → left ≡ []
    → new ++ inside_from tight fresh left ≡ old ++ inside_from tight true ws → new ≡ old ++ inside tight ws
inside_added tight fresh ws left old new none added = sym (append-nil new) ∙ ap (λ left. new ++ inside_from tight fresh left) (sym none) ∙ added
