-- Inlines whose strings are UTF-8. Those of each tree that a program has are.
use Rattle.std.specs.Prelude.{◌≡◌, Bool, true, ◌&&◌, List, map}
use Rattle.std.specs.List.{list_all}
use Rattle.std.specs.Str.{is_utf8}
use Rattle.cm_tree.specs.declared.tree.Inline.{Inline, Inline-F}
use Rattle.cm_tree.specs.declared.tree.Inline.TheOpen as inline
use Rattle.cm_tree.specs.declared.tree.Inline.TheFolds.{fold-Inline}

-- each of some
abbrev pub all_of : List Bool → Bool
all_of tests = list_all (λ t. t) tests

-- one inline, with whether each inline of its content has such strings in its place
abbrev pub utf8_step : Inline-F Bool → Bool
utf8_step (inline.Text text) = is_utf8 text
utf8_step (inline.Code text) = is_utf8 text
utf8_step (inline.Html text) = is_utf8 text
utf8_step inline.Soft = true
utf8_step inline.Hard = true
utf8_step (inline.Emph content) = all_of content
utf8_step (inline.Strong content) = all_of content
utf8_step (inline.Strike content) = all_of content
utf8_step (inline.Link dest title content) = is_utf8 dest && is_utf8 title && all_of content
utf8_step (inline.Image dest title content) = is_utf8 dest && is_utf8 title && all_of content

abbrev pub has_utf8 : Inline → Bool
has_utf8 = fold-Inline Bool utf8_step

-- the texts, code spans, tags, destinations and titles of inlines are UTF-8, at every depth
abbrev pub AreTexts : List Inline → Type 0
AreTexts content = all_of (map has_utf8 content) ≡ true
