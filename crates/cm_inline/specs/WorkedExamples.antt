-- Worked examples of how much emphasis is counted, by computation.
use Rattle.std.specs.Prelude.{◌≡◌, List, [], ◌∷◌, codes}
use Rattle.cm_tree.specs.declared.tree.Inline.{Inline}
use Rattle.cm_tree.specs.declared.tree.Inline.TheVariants.{Text, Emph, Strong, Strike, Link, Image}
use Rattle.cm_inline.specs.Emphases.{emphases}

-- a text, as inlines
abbrev words : List Inline
words = Text (codes "a") ∷ []

pub record EmphasisExamples : Type 0 where
  pub none : emphases (Link (codes "/a") [] words ∷ words) ≡ 0
  pub side_by_side : emphases (Emph words ∷ Strong words ∷ Strike words ∷ []) ≡ 3
  pub in_one_another : emphases (Emph (Strong words ∷ Strike (Emph words ∷ words) ∷ []) ∷ words) ≡ 4
  pub in_a_link_and_an_image : emphases (Link (codes "/a") [] (Emph words ∷ []) ∷ Image (codes "/b") [] (Strong words ∷ []) ∷ []) ≡ 2
