-- The kinds of inlines, and what is in them.
use Rattle.std.proofs.Common.{◌≡◌, ℕ, ◌≤◌, Bool, true, false, ◌==◌, List, [], ap, arith}
use Rattle.std.specs.Prelude.{if◌then◌else◌}
use Rattle.cm_tree.specs.declared.tree.Inline.{Inline, Inline-F, out-Inline}
use Rattle.cm_tree.specs.declared.tree.Inline.TheOpen as inline
use Rattle.cm_tree.specs.declared.tree.Inline.TheVariants.{Text, Emph, Strong, Strike, Link, Image, outs-Text, outs-Emph, outs-Strong, outs-Strike, outs-Link, outs-Image}
use Rattle.cm_scan.specs.inlines.Pairing.{emphasised}
use Rattle.cm_scan.specs.inlines.Cuts.{link_or_image}
use Rattle.cm_scan.specs.laws.CutLaws.{IsWritten}

-- a number for each kind; that of a link counts as an atom's as well, since an autolink is one
kind_in : Inline-F Inline → ℕ
kind_in (inline.Text text) = 0
kind_in (inline.Emph content) = 1
kind_in (inline.Strong content) = 2
kind_in (inline.Strike content) = 3
kind_in (inline.Image dest title content) = 4
kind_in (inline.Link dest title content) = 5
kind_in _ = 6

text_in : Inline-F Inline → List ℕ
text_in (inline.Text text) = text
text_in _ = []

content_in : Inline-F Inline → List Inline
content_in (inline.Emph content) = content
content_in (inline.Strong content) = content
content_in (inline.Strike content) = content
content_in (inline.Link dest title content) = content
content_in (inline.Image dest title content) = content
content_in _ = []

dest_in : Inline-F Inline → List ℕ
dest_in (inline.Link dest title content) = dest
dest_in (inline.Image dest title content) = dest
dest_in _ = []

title_in : Inline-F Inline → List ℕ
title_in (inline.Link dest title content) = title
title_in (inline.Image dest title content) = title
title_in _ = []

pub kind : Inline → ℕ
kind i = kind_in (out-Inline i)

pub text : Inline → List ℕ
text i = text_in (out-Inline i)

pub content : Inline → List Inline
content i = content_in (out-Inline i)

pub dest : Inline → List ℕ
dest i = dest_in (out-Inline i)

pub title : Inline → List ℕ
title i = title_in (out-Inline i)

pub kind-text : (t : List ℕ) → kind (Text t) ≡ 0
unfolding kind kind_in
kind-text t = ap kind_in (outs-Text t)

pub text-text : (t : List ℕ) → text (Text t) ≡ t
unfolding text text_in
text-text t = ap text_in (outs-Text t)

-- an inline that is written as one without inlines inside is neither text, nor made by runs, nor an image
pub kind-written : (i : Inline) (source : List ℕ) → IsWritten (out-Inline i) source → 5 ≤ kind i
unfolding kind kind_in
kind-written i source w = go (out-Inline i) w
  where
    go : (f : Inline-F Inline) → IsWritten f source → 5 ≤ kind_in f
    go (inline.Text t) w = absurd w
    go (inline.Code t) w = omega arith
    go (inline.Html t) w = omega arith
    go inline.Soft w = omega arith
    go inline.Hard w = omega arith
    go (inline.Emph is) w = absurd w
    go (inline.Strong is) w = absurd w
    go (inline.Strike is) w = absurd w
    go (inline.Link d t is) w = omega arith
    go (inline.Image d t is) w = absurd w

pub kind-link : (image : Bool) (d t : List ℕ) (is : List Inline) → kind (link_or_image image d t is) ≡ (if image then 4 else 5)
unfolding kind kind_in
kind-link true d t is = ap kind_in (outs-Image d t is)
kind-link false d t is = ap kind_in (outs-Link d t is)

pub content-link : (image : Bool) (d t : List ℕ) (is : List Inline) → content (link_or_image image d t is) ≡ is
unfolding content content_in
content-link true d t is = ap content_in (outs-Image d t is)
content-link false d t is = ap content_in (outs-Link d t is)

pub dest-link : (image : Bool) (d t : List ℕ) (is : List Inline) → dest (link_or_image image d t is) ≡ d
unfolding dest dest_in
dest-link true d t is = ap dest_in (outs-Image d t is)
dest-link false d t is = ap dest_in (outs-Link d t is)

pub title-link : (image : Bool) (d t : List ℕ) (is : List Inline) → title (link_or_image image d t is) ≡ t
unfolding title title_in
title-link true d t is = ap title_in (outs-Image d t is)
title-link false d t is = ap title_in (outs-Link d t is)

pub kind-emphasised : (character count : ℕ) (is : List Inline)
    → kind (emphasised character count is) ≡ (if character == 126 then 3 else (if count == 2 then 2 else 1))
unfolding kind kind_in
kind-emphasised character count is = go (character == 126) (count == 2)
  where
    go : (s t : Bool)
        → kind_in (out-Inline (if s then Strike is else (if t then Strong is else Emph is))) ≡ (if s then 3 else (if t then 2 else 1))
    go true t = ap kind_in (outs-Strike is)
    go false true = ap kind_in (outs-Strong is)
    go false false = ap kind_in (outs-Emph is)

pub content-emphasised : (character count : ℕ) (is : List Inline) → content (emphasised character count is) ≡ is
unfolding content content_in
content-emphasised character count is = go (character == 126) (count == 2)
  where
    go : (s t : Bool) → content_in (out-Inline (if s then Strike is else (if t then Strong is else Emph is))) ≡ is
    go true t = ap content_in (outs-Strike is)
    go false true = ap content_in (outs-Strong is)
    go false false = ap content_in (outs-Emph is)
