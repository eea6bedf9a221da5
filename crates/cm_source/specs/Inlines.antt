-- How inlines are spelled (CommonMark 0.31.2, chapter 6).
use Rattle.std.specs.Prelude.{ℕ, Bool, true, false, List, [], ◌∷◌, ◌++◌, map, codes}
use Rattle.cm_tree.specs.declared.tree.Inline.{Inline, Inline-F}
use Rattle.cm_tree.specs.declared.tree.Inline.TheOpen as inline
use Rattle.cm_tree.specs.declared.tree.Inline.TheFolds.{fold-Inline}
use Rattle.cm_source.specs.Texts.{spelled_text, spelled_code, spelled_target}

-- An inline as it is spelled, at the start of a line or not, and at the end of one or not; whether the line ends directly before
-- it, as before a soft line break; and whether one starts directly after it, as after each line break.
pub record Spelled : Type 0 where
  pub spelling : (first last : Bool) → List ℕ
  pub ends_line : Bool
  pub begins_line : Bool

-- whether a line ends directly before inlines, given whether one ends after them
abbrev pub is_line_end : (last : Bool) → List Spelled → Bool
is_line_end last [] = last
is_line_end last (next ∷ inlines) = next.ends_line

-- inlines, one after another
abbrev pub join : (first last : Bool) → List Spelled → List ℕ
join first last [] = []
join first last (next ∷ inlines) = next.spelling first (is_line_end last inlines) ++ join next.begins_line last inlines

-- an inline at which no line starts or ends
abbrev pub inside_line : ((first last : Bool) → List ℕ) → Spelled
inside_line spelling = record { spelling = spelling; ends_line = false; begins_line = false }

-- content between two marks
abbrev pub between : List ℕ → List Spelled → List ℕ → Spelled
between start content end = inside_line (λ first last. start ++ join false false content ++ end)

-- One inline, given how each inline of its content is spelled.
abbrev pub inline_step : Inline-F Spelled → Spelled
inline_step (inline.Text text) = inside_line (λ first last. spelled_text first last text)
inline_step (inline.Code text) = inside_line (λ first last. spelled_code text)
inline_step (inline.Html text) = inside_line (λ first last. text)
inline_step inline.Soft = record { spelling = λ first last. codes "\n"; ends_line = true; begins_line = true }
inline_step inline.Hard = record { spelling = λ first last. codes "\\\n"; ends_line = false; begins_line = true }
inline_step (inline.Emph content) = between (codes "*") content (codes "*")
inline_step (inline.Strong content) = between (codes "**") content (codes "**")
inline_step (inline.Strike content) = between (codes "~~") content (codes "~~")
inline_step (inline.Link dest title content) = between (codes "[") content (spelled_target dest title)
inline_step (inline.Image dest title content) = between (codes "![") content (spelled_target dest title)

-- how an inline is spelled
abbrev pub spelled : Inline → Spelled
spelled = fold-Inline Spelled inline_step

-- inlines at the beginning and the end of a line, or not
abbrev pub spelled_inlines : (first last : Bool) → List Inline → List ℕ
spelled_inlines first last inlines = join first last (map spelled inlines)

-- how the content of a paragraph or a heading is spelled
abbrev pub spelled_content : List Inline → List ℕ
spelled_content content = spelled_inlines true true content
