-- The names of the crates below, and of the declared types, that many files of the proof cite, passed on from one place. It declares nothing.
pub use Rattle.std.proofs.Common.{Bool, Err, IfSome, List, None, Option, Some, [], add-one, ap, append-nil, append_assoc, arith, codes, cond, drop, drop-drop, false}
pub use Rattle.std.proofs.Common.{get_or, get_or-drop, inl, inr, length, length-append, length-drop, map, max, nat_le, not, refl, replicate, reverse, rules, set}
pub use Rattle.std.proofs.Common.{subst, suc, sym, take, take-add, true, zero, ℕ, ◌&&◌, ◌*◌, ◌++◌, ◌+◌, ◌-◌, ◌<◌, ◌==◌, ◌^◌, ◌||◌, ◌∙◌, ◌∷◌, ◌≡◌, ◌≢◌, ◌≤◌, ◌⊎◌}
pub use Rattle.std.proofs.Math.Seq.{drop-append_seam}
pub use Rattle.std.proofs.lemmas.Bool.{and_parts, cond-false, cond-true, eq-eqb, eqb-false, eqb-true, le-leb, leb-true, ltb-false, ltb-true, ne_eqb, not-true}
pub use Rattle.std.proofs.lemmas.Bool.Decides.{nat_tests}
pub use Rattle.std.proofs.lemmas.Grind.{flat_map-append}
pub use Rattle.std.proofs.lemmas.List.{drop-append-le, drop_all, drop_more, get_or-map, get_or-set_other, get_or-set_same, get_or-take, get_or_append_left}
pub use Rattle.std.proofs.lemmas.List.{get_or_push, get_or_read, length-map, length-reverse, length-set, length-take, length-take-le, map-append, map-set}
pub use Rattle.std.proofs.lemmas.List.{reverse-append, reverse-reverse, take-append-drop, take-append-le, take_all}
pub use Rattle.std.proofs.lemmas.List.Sums.{sum_by-append, sum_by-cons}
pub use Rattle.std.proofs.lemmas.Option.{same_Some}
pub use Rattle.std.proofs.lemmas.Str.{IsCharBoundary-after_ascii, IsCharBoundary-before_ascii, IsCharBoundary-start}
pub use Rattle.std.specs.List.{concat, list_all, slice_range}
pub use Rattle.std.specs.Prelude.{IsUtf8, Result, encode_utf8, encode_utf8_all, if◌then◌else◌, nat_lt}
pub use Rattle.std.specs.Result.{IsErrAnd}
pub use Rattle.std.specs.Str.{IsCharBoundary}
pub use Rattle.cm_html.specs.Escape.{escape, escape_byte}
pub use Rattle.cm_html.specs.Html.{Rendered, inline_step, inlines_html, rendered}
pub use Rattle.cm_inline.specs.declared.brackets.Bracket.{Bracket}
pub use Rattle.cm_inline.specs.declared.brackets.Link.{Link}
pub use Rattle.cm_inline.specs.declared.brackets.Reader.{Reader}
pub use Rattle.cm_inline.specs.declared.delimiter_runs.DelimiterRun.{DelimiterRun}
pub use Rattle.cm_inline.specs.declared.delimiter_runs.Marker.{Marker}
pub use Rattle.cm_inline.specs.declared.delimiter_runs.Marker.TheVariants.{Star, Tilde}
pub use Rattle.cm_inline.specs.declared.fault.InlineFault.{InlineFault}
pub use Rattle.cm_inline.specs.declared.fault.InlineFault.TheVariants.{InlinesTooDeep}
pub use Rattle.cm_inline.specs.declared.marks.Kind.{Kind}
pub use Rattle.cm_inline.specs.declared.marks.Kind.TheVariants.{Plain}
pub use Rattle.cm_inline.specs.declared.marks.Mark.{Mark}
pub use Rattle.cm_inline.specs.declared.missing_ends.Form.TheVariants.{Comment, Declaration}
pub use Rattle.cm_inline.specs.declared.missing_ends.MissingEnds.{MissingEnds}
pub use Rattle.cm_inline.specs.declared.pairing.Emphasis.{Emphasis}
pub use Rattle.cm_inline.specs.declared.pairing.Pair.{Pair as HeldPair, Pair}
pub use Rattle.cm_inline.specs.declared.runs.Run.{Run as HeldRun}
pub use Rattle.cm_inline.specs.declared.runs.Runs.{Runs}
pub use Rattle.cm_scan.proofs.lemmas.inlines.OnePassLemmas.{closed_by-gone, closed_by-more, pairs_in_one_pass}
pub use Rattle.cm_scan.proofs.lemmas.inlines.PairingLemmas.{nearest-splits, opened_at}
pub use Rattle.cm_scan.proofs.lemmas.inlines.ReadingSteps.{plain_front_is_text}
pub use Rattle.cm_scan.proofs.lemmas.links.DefinitionParts.{gap-of}
pub use Rattle.cm_scan.proofs.lemmas.spans.AutolinkParts.{next-ascii}
pub use Rattle.cm_scan.proofs.lemmas.spans.BacktickStrings.{not-same}
pub use Rattle.cm_scan.proofs.lemmas.texts.ScannerAnswers.{begins-at}
pub use Rattle.cm_scan.proofs.lemmas.texts.WordsGoOn.{none-some}
pub use Rattle.cm_scan.specs.Scanned.{whole_of}
unfoldable pub use Rattle.cm_scan.specs.Words.{after_run, after_word, run_length}
pub use Rattle.cm_scan.specs.Words.{begins_with, is_empty}
pub use Rattle.cm_scan.specs.inlines.Atoms.{Atom, link_of}
unfoldable pub use Rattle.cm_scan.specs.inlines.Atoms.{atom_at, markup_atom}
pub use Rattle.cm_scan.specs.inlines.Brackets.{Bracketed, Defined, LinkEnd, OpenerFound, bracket_is_text, brackets_are_text, defined_in, end_if_followed, is_linked}
pub use Rattle.cm_scan.specs.inlines.Brackets.{made, target_between, target_of}
unfoldable pub use Rattle.cm_scan.specs.inlines.Brackets.{close_bracket, closed_by_bracket, end_at, holds_link, last_opener}
pub use Rattle.cm_scan.specs.inlines.Delimiters.{Run}
unfoldable pub use Rattle.cm_scan.specs.inlines.Delimiters.{delimiters_match}
unfoldable pub use Rattle.cm_scan.specs.inlines.Inlines.{add_atom, depth_of_leaf, inlines_of, item_step, items_after}
pub use Rattle.cm_scan.specs.inlines.Inlines.{nests_past, with_item}
pub use Rattle.cm_scan.specs.inlines.Links.{Reading, beyond}
unfoldable pub use Rattle.cm_scan.specs.inlines.Links.{label}
unfoldable pub use Rattle.cm_scan.specs.inlines.OnePass.{pass_from}
pub use Rattle.cm_scan.specs.inlines.OnePass.{passed, up_to_pair}
pub use Rattle.cm_scan.specs.inlines.Pairing.{Characters, Delimiters, Finished, Item, Linked, Opened, Opener, bracket_text, emphasis_of, emphasised, pair_all, settled}
pub use Rattle.cm_scan.specs.inlines.Pairing.{text_before, used, without}
unfoldable pub use Rattle.cm_scan.specs.inlines.Pairing.{nearest_opener, settled_after}
pub use Rattle.cm_scan.specs.inlines.Pieces.{in_pieces, one_by_one}
pub use Rattle.cm_scan.specs.laws.InlineLaws.{is_plain_byte}
unfoldable pub use Rattle.cm_scan.specs.spans.Angles.{before}
pub use Rattle.cm_scan.specs.spans.Autolinks.{Autolink}
unfoldable pub use Rattle.cm_scan.specs.spans.Autolinks.{ends_with, followed_autolink}
pub use Rattle.cm_scan.specs.spans.CodeSpans.{one_line}
unfoldable pub use Rattle.cm_scan.specs.spans.CodeSpans.{spanned_as_written, stripped, up_to_run}
pub use Rattle.cm_scan.specs.spans.RawHtml.{raw_html}
pub use Rattle.cm_text.specs.Characters.{is_ascii_punct}
pub use Rattle.cm_text.specs.References.{chars_of}
pub use Rattle.cm_text.specs.Rules.{Rules}
pub use Rattle.cm_text.specs.Search.{is_marked, next_place}
pub use Rattle.cm_text.specs.declared.references.Chars.{Chars}
pub use Rattle.cm_tree.specs.Definitions.{Target, Targets}
pub use Rattle.cm_tree.specs.Depth.{depth_of, depth_step, inlines_depth}
pub use Rattle.cm_tree.specs.declared.tree.Inline.{Inline}
pub use Rattle.cm_tree.specs.declared.tree.Inline.TheFolds.{fold_out-Inline}
pub use Rattle.cm_tree.specs.declared.tree.Inline.TheVariants.{Code, Emph, Hard, Html, Image, Soft, Strike, Strong, Text}
pub use Rattle.cm_tree.specs.declared.tree.Inline.TheViews.{outs-Code, outs-Emph, outs-Hard, outs-Html, outs-Image, outs-Link, outs-Soft, outs-Strike, outs-Strong}
pub use Rattle.cm_tree.specs.declared.tree.Inline.TheViews.{outs-Text}
pub use Rattle.memchr.specs.Find.{is_byte}
pub use denote.Shadow.{shadow}
pub use denote.Text.{Utf8}
