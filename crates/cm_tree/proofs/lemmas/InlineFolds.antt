-- A fold of an inline, by its kind.
use Rattle.std.proofs.Common.{◌≡◌, ℕ, List, map}
use Rattle.cm_tree.specs.declared.tree.Inline.{Inline, Inline-F}
use Rattle.cm_tree.specs.declared.tree.Inline.TheOpen as inline
use Rattle.cm_tree.specs.declared.tree.Inline.TheVariants.{Text, Code, Html, Soft, Hard, Emph, Strong, Strike, Link, Image}
use Rattle.cm_tree.specs.declared.tree.Inline.TheViews.{outs-Text, outs-Code, outs-Html, outs-Soft, outs-Hard, outs-Emph, outs-Strong, outs-Strike, outs-Link, outs-Image}
use Rattle.cm_tree.specs.declared.tree.Inline.TheFolds.{fold-Inline, fold_out-Inline}

module _ {T : Type 0} (step : Inline-F T → T) where
  abbrev each : List Inline → List T
  each = map (fold-Inline T step)

  pub text : (value : List ℕ) → fold-Inline T step (Text value) ≡ step (inline.Text value)
  text value = simp (fold_out-Inline T step, outs-Text)

  pub code : (value : List ℕ) → fold-Inline T step (Code value) ≡ step (inline.Code value)
  code value = simp (fold_out-Inline T step, outs-Code)

  pub html : (value : List ℕ) → fold-Inline T step (Html value) ≡ step (inline.Html value)
  html value = simp (fold_out-Inline T step, outs-Html)

  pub soft : fold-Inline T step Soft ≡ step inline.Soft
  soft = simp (fold_out-Inline T step, outs-Soft)

  pub hard : fold-Inline T step Hard ≡ step inline.Hard
  hard = simp (fold_out-Inline T step, outs-Hard)

  pub emph : (content : List Inline) → fold-Inline T step (Emph content) ≡ step (inline.Emph (each content))
  emph content = simp (fold_out-Inline T step, outs-Emph)

  pub strong : (content : List Inline) → fold-Inline T step (Strong content) ≡ step (inline.Strong (each content))
  strong content = simp (fold_out-Inline T step, outs-Strong)

  pub strike : (content : List Inline) → fold-Inline T step (Strike content) ≡ step (inline.Strike (each content))
  strike content = simp (fold_out-Inline T step, outs-Strike)

  pub link : (dest title : List ℕ) (content : List Inline) → fold-Inline T step (Link dest title content) ≡ step (inline.Link dest title (each content))
  link dest title content = simp (fold_out-Inline T step, outs-Link)

  pub image : (dest title : List ℕ) (content : List Inline) → fold-Inline T step (Image dest title content) ≡ step (inline.Image dest title (each content))
  image dest title content = simp (fold_out-Inline T step, outs-Image)
