-- The names that the contracts of the larger files cite, passed on from one place. It declares nothing.
pub use Rattle.std.specs.Str.{IsCharBoundary, byte}
pub use Rattle.cm_text.specs.Rules.{Rules}
pub use Rattle.cm_scan.specs.inlines.Atoms.{is_markup}
pub use Rattle.cm_scan.specs.spans.RawHtml.{raw_html}
pub use Rattle.cm_scan.specs.Scanned.{reading_of, whole_of}
pub use Rattle.cm_inline.specs.steps.Brackets.{Puts}
pub use Rattle.cm_inline.specs.steps.Marks.{is_escaped}
pub use Rattle.cm_inline.specs.steps.Missing.{Knows}
pub use Rattle.cm_inline.specs.steps.Reads.{IsTextTo, Stands, Begins}
pub use Rattle.cm_inline.specs.steps.Runs.{byte_of}
