-- A line that is seen without a copy.
use Rattle.std.specs.Prelude.{◌++◌, replicate}
use Rattle.std.specs.Str.{byte}
use Rattle.cm_text.specs.declared.view.View.{View}
use Rattle.cm_text.specs.Lines.{LineView}

-- the line that a view shows: its spaces, and then the rest of the text
abbrev pub seen_view : View → LineView
seen_view view = record { column = view.column; text = replicate view.spaces (byte " ") ++ view.rest.now; lazy = view.lazy }
