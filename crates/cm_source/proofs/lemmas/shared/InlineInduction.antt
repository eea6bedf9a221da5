-- Induction over inlines and the inlines of their contents.
use Rattle.std.proofs.Common.{ℕ, List, [], ◌∷◌, map, subst}
use Rattle.std.specs.Prelude.{⊤}
use Rattle.cm_tree.specs.declared.tree.Inline.{Inline, Inline-F, map-Inline}
use Rattle.cm_tree.specs.declared.tree.Inline.TheOpen as inline
use Rattle.cm_tree.specs.declared.tree.Inline.TheVariants.{Text, Code, Html, Soft, Hard, Emph, Strong, Strike, Link, Image}
use Rattle.cm_tree.specs.declared.tree.Inline.TheViews.{roll-Inline}
use Rattle.cm_tree.specs.declared.tree.Inline.TheFolds.{ind-Inline}

module _ (Holds : Inline → Type 0) where
  -- of each of some inlines
  unfoldable pub AllHold : List Inline → Type 0
  AllHold [] = ⊤
  AllHold (i ∷ is) = Holds i × AllHold is

  -- what is to be shown, kind by kind
  pub record Cases : Type 0 where
    pub text : (text : List ℕ) → Holds (Text text)
    pub code : (text : List ℕ) → Holds (Code text)
    pub html : (text : List ℕ) → Holds (Html text)
    pub soft : Holds Soft
    pub hard : Holds Hard
    pub emph : (content : List Inline) → AllHold content → Holds (Emph content)
    pub strong : (content : List Inline) → AllHold content → Holds (Strong content)
    pub strike : (content : List Inline) → AllHold content → Holds (Strike content)
    pub link : (dest title : List ℕ) (content : List Inline) → AllHold content → Holds (Link dest title content)
    pub image : (dest title : List ℕ) (content : List Inline) → AllHold content → Holds (Image dest title content)

  abbrev Proved : Type 0
  Proved = (i : Inline) × Holds i

  proved-hold : (es : List Proved) → AllHold (map (λ e. e.0) es)
  unfolding AllHold
  proved-hold [] = tt
  proved-hold (e ∷ es) = (e.1, proved-hold es)

  layer : Cases → (y : Inline-F Proved) → Holds (roll-Inline (map-Inline Proved Inline (λ e. e.0) y))
  unfolding roll-Inline denote.Hole.Carrier.roll
  layer cases (inline.Text text) = cases.text text
  layer cases (inline.Code text) = cases.code text
  layer cases (inline.Html text) = cases.html text
  layer cases inline.Soft = cases.soft
  layer cases inline.Hard = cases.hard
  layer cases (inline.Emph es) = cases.emph (map (λ e. e.0) es) (proved-hold es)
  layer cases (inline.Strong es) = cases.strong (map (λ e. e.0) es) (proved-hold es)
  layer cases (inline.Strike es) = cases.strike (map (λ e. e.0) es) (proved-hold es)
  layer cases (inline.Link dest title es) = cases.link dest title (map (λ e. e.0) es) (proved-hold es)
  layer cases (inline.Image dest title es) = cases.image dest title (map (λ e. e.0) es) (proved-hold es)

  pub by-cases : Cases → (i : Inline) → Holds i
  by-cases cases = ind-Inline Holds (λ x y is. subst (λ z. Holds (roll-Inline z)) is (layer cases y))

  pub all-by-cases : Cases → (is : List Inline) → AllHold is
  unfolding AllHold
  all-by-cases cases [] = tt
  all-by-cases cases (i ∷ is) = (by-cases cases i, all-by-cases cases is)
