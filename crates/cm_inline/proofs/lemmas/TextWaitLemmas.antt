-- Marks are written one after another, while the text before the next one waits.
use Rattle.cm_inline.proofs.lemmas.Words.{◌≡◌, ℕ, ◌+◌, ◌<◌, ◌≤◌, true, false, List, [], ◌∷◌, ◌++◌, length, drop, get_or, sym, ap, subst, ◌∙◌, arith, append_assoc}
use Rattle.cm_inline.proofs.lemmas.Words.{Result, slice_range, IsCharBoundary, and_parts, eqb-true, drop_more, drop_all, get_or_read, get_or-map, Targets, escape}
use Rattle.cm_inline.proofs.lemmas.Words.{one_line, Reader, Mark, rules, nat_tests}
use Rattle.std.specs.Prelude.{IfOk}
use Rattle.std.proofs.lemmas.List.{append-nil, get_or_default}
use Rattle.cm_inline.specs.declared.marks.Place.{Place}
use Rattle.cm_inline.specs.steps.pairing.Parts.{events_of}
use Rattle.cm_inline.specs.steps.pairing.Readings.{Mode, Tags, Alternative, Page, page, write_all}
use Rattle.cm_inline.specs.steps.Marks.{events_in, IsUnmarked, AreLaid, IsSettled}
use Rattle.cm_inline.specs.steps.Runs.{runs_in, pairs_in}
use Rattle.cm_inline.specs.steps.Standalone.{IsBetween}
use Rattle.cm_inline.specs.steps.Writing.{Adds, no_mark, mark_numbered, mark_events, events_from, events_after, events_at, is_text, is_end_of, mode_after, IsMarkIn, GoesOn, TextWaits, IsImageAt, IsWrittenTo}
use Rattle.cm_inline.proofs.lemmas.HtmlLemmas.{run-html, text-html}
use Rattle.cm_inline.proofs.lemmas.LaidLemmas.{events-next, events-last, settled-mark, settled-beyond}
use Rattle.cm_inline.proofs.lemmas.TagLemmas.{ends-last, starts-none}
use Rattle.cm_inline.proofs.lemmas.WriteLemmas.{write-append, write-from, mode-same, texts-tags, texts-alternative}
use Rattle.cm_inline.proofs.lemmas.SliceLemmas.{slice-both, slice-none}

abbrev mode : Page → Mode
mode p = p.mode

-- a mark that is written as the text that is there
text-mark : (source : List ℕ) (targets : Targets) (reader : Reader) (mark : Mark) (html : List ℕ) → IsMarkIn source targets reader mark → is_text reader.runs.list.runs mark.kind ≡ true
    → write_all (page html Tags) (mark_events source targets reader mark) ≡ page (html ++ slice_range source mark.at mark.end) Tags
unfolding write_all
text-mark source targets reader mark html m is = search (rules, and_parts, eqb-true, ends-last, starts-none, run-html, text-html, get_or-map)

-- where marks are laid, there is the boundary of a character
laid-boundary : (source : List ℕ) (targets : Targets) (reader : Reader) (from : ℕ) (ms : List Mark) → AreLaid false source targets reader.runs.list.runs reader.links.items from (length source) ms → IsCharBoundary source from
laid-boundary source targets reader from [] laid = laid.between.1
laid-boundary source targets reader from (m ∷ ms) laid = laid.0.between.1

-- the next of them
pub laid-next : (source : List ℕ) (targets : Targets) (reader : Reader) (place n : ℕ) → n < length reader.marks.items → AreLaid false source targets reader.runs.list.runs reader.links.items place (length source) (drop n reader.marks.items)
    → AreLaid false source targets reader.runs.list.runs reader.links.items place (length source) (mark_numbered reader.marks.items n ∷ drop (n + 1) reader.marks.items)
laid-next source targets reader place n h laid = subst (AreLaid false source targets reader.runs.list.runs reader.links.items place (length source)) (drop_more reader.marks.items n no_mark h) laid

-- at first nothing is written
pub waits-first : (source : List ℕ) (targets : Targets) (reader : Reader) (html : List ℕ) → IsSettled false source targets reader → TextWaits source targets reader html html (record { mark = 0; from = 0 })
waits-first source targets reader html settled = search (rules, laid-boundary, slice-none, append-nil)

-- the text up to a mark, then the mark and what follows it
waits-mark : (source : List ℕ) (targets : Targets) (reader : Reader) (old html : List ℕ) (next : Place) → next.mark < length reader.marks.items → TextWaits source targets reader old html next
    → write_all (page old Tags) (events_in source targets reader) ≡ write_all (page (html ++ slice_range source next.from (mark_numbered reader.marks.items next.mark).at) Tags) (events_at source targets reader next.mark)
waits-mark source targets reader old html next h w = search (rules, laid-next, drop_more, events-next, write-append, texts-tags, append_assoc, slice-both)

-- the place up to which the text waits
pub waits-between : (source : List ℕ) (targets : Targets) (reader : Reader) (old html : List ℕ) (next : Place) → next.mark < length reader.marks.items → TextWaits source targets reader old html next → IsBetween source next.from (mark_numbered reader.marks.items next.mark).at
waits-between source targets reader old html next h w =
    let laid = laid-next source targets reader w.place next.mark h w.laid in
    (omega (arith, w.between.0, laid.0.between.0), w.between.1, laid.0.between.2)

-- a mark that is text waits too
pub waits-text : (source : List ℕ) (targets : Targets) (reader : Reader) (old html : List ℕ) (next : Place) → next.mark < length reader.marks.items → IsSettled false source targets reader → TextWaits source targets reader old html next
    → is_text reader.runs.list.runs (mark_numbered reader.marks.items next.mark).kind ≡ true → TextWaits source targets reader old html (record { mark = next.mark + 1; from = next.from })
waits-text source targets reader old html next h settled w is = grind (arith, nat_tests, laid-next, waits-between, settled-mark, waits-mark, write-append, text-mark, append_assoc, slice-both)

-- no alternative text is left open
pub waits-mode : (source : List ℕ) (targets : Targets) (reader : Reader) (old html new : List ℕ) (next : Place) → next.mark < length reader.marks.items → IsSettled false source targets reader → TextWaits source targets reader old html next
    → new ≡ html ++ slice_range source next.from (mark_numbered reader.marks.items next.mark).at → (write_all (page new Tags) (events_at source targets reader next.mark)).mode ≡ Tags
waits-mode source targets reader old html new next h settled w e = search (rules, waits-mark, mode-same)

-- another mark is written, with the text before it
pub waits-on : (source : List ℕ) (targets : Targets) (reader : Reader) (old html before new : List ℕ) (next further : Place) → next.mark < length reader.marks.items → TextWaits source targets reader old html next
    → before ≡ html ++ slice_range source next.from (mark_numbered reader.marks.items next.mark).at → GoesOn source targets reader (page before Tags) (events_at source targets reader next.mark) new further → TextWaits source targets reader old new further
waits-on source targets reader old html before new next further h w e g = search (rules, laid-boundary, waits-mark, slice-none, append-nil)

-- the text after the last mark
laid-last : (source : List ℕ) (targets : Targets) (reader : Reader) (place n : ℕ) → length reader.marks.items ≤ n → AreLaid false source targets reader.runs.list.runs reader.links.items place (length source) (drop n reader.marks.items) → IsUnmarked false source place (length source)
laid-last source targets reader place n h laid = subst (AreLaid false source targets reader.runs.list.runs reader.links.items place (length source)) (drop_all n reader.marks.items h) laid

pub waits-last : (source : List ℕ) (targets : Targets) (reader : Reader) (old html new : List ℕ) (next : Place) → length reader.marks.items ≤ next.mark → TextWaits source targets reader old html next → new ≡ html ++ slice_range source next.from (length source)
    → new ≡ old ++ (write_all (page [] Tags) (events_in source targets reader)).html
waits-last source targets reader old html new next h w e = search (rules, laid-last, drop_all, events-last, texts-tags, append_assoc, slice-both, write-from)

-- one mark, and what follows it

pub mark-read : (reader : Reader) (at : ℕ) (mark : Mark) → at < length reader.marks.items → mark ≡ get_or reader.marks.items at mark → mark ≡ mark_numbered reader.marks.items at
mark-read reader at mark h e = get_or_read reader.marks.items at mark h e no_mark

pub mark-among : (reader : Reader) (marks : List Mark) (at : ℕ) (d : Mark) → marks ≡ reader.marks.items → at < length reader.marks.items → get_or marks at d ≡ mark_numbered reader.marks.items at
mark-among reader marks at d same h = ap (λ ms. get_or ms at d) same ∙ get_or_default reader.marks.items at d no_mark h

-- what a mark writes, then what follows it
mark-then : (source : List ℕ) (targets : Targets) (reader : Reader) (old html : List ℕ) (at : ℕ) (mark : Mark) → mark ≡ mark_numbered reader.marks.items at
    → write_all (page old Tags) (mark_events source targets reader mark) ≡ page html (mode_after reader.links.items mark.kind)
    → write_all (page old Tags) (events_at source targets reader at) ≡ write_all (page html (mode_after reader.links.items mark.kind)) (events_after source targets reader at)
mark-then source targets reader old html at mark is e =
    ap (λ m. write_all (page old Tags) (mark_events source targets reader m ++ events_after source targets reader at)) (sym is)
    ∙ write-append (page old Tags) (mark_events source targets reader mark) (events_after source targets reader at) ∙ ap (λ p. write_all p (events_after source targets reader at)) e

pub image-at : (source : List ℕ) (targets : Targets) (reader : Reader) (old html : List ℕ) (at number : ℕ) (mark : Mark) → IsSettled false source targets reader → at < length reader.marks.items → mark ≡ mark_numbered reader.marks.items at
    → write_all (page old Tags) (mark_events source targets reader mark) ≡ page html (mode_after reader.links.items mark.kind) → mode_after reader.links.items mark.kind ≡ Alternative number
    → (write_all (page old Tags) (events_at source targets reader at)).mode ≡ Tags → IsImageAt source targets reader html at number
image-at source targets reader old html at number mark settled h is e image ends = search (rules, mark-then)

image-goes-on : (source : List ℕ) (targets : Targets) (reader : Reader) (old html new : List ℕ) (at number : ℕ) (mark : Mark) (next : Place) → mark ≡ mark_numbered reader.marks.items at
    → write_all (page old Tags) (mark_events source targets reader mark) ≡ page html (mode_after reader.links.items mark.kind) → mode_after reader.links.items mark.kind ≡ Alternative number
    → GoesOn source targets reader (page html (Alternative number)) (events_after source targets reader at) new next → GoesOn source targets reader (page old Tags) (events_at source targets reader at) new next
image-goes-on source targets reader old html new at number mark next is e image g = search (rules, mark-then)

pub image-ends : {E : Type 0} (source : List ℕ) (targets : Targets) (reader : Reader) (old html new : List ℕ) (at number : ℕ) (mark : Mark) (r : Result Place E) → mark ≡ mark_numbered reader.marks.items at
    → write_all (page old Tags) (mark_events source targets reader mark) ≡ page html (mode_after reader.links.items mark.kind) → mode_after reader.links.items mark.kind ≡ Alternative number → IsImageAt source targets reader html at number
    → IfOk r (λ next. (targets : Targets) → IsImageAt source targets reader html at number → GoesOn source targets reader (page html (Alternative number)) (events_after source targets reader at) new next)
    → IfOk r (λ next. GoesOn source targets reader (page old Tags) (events_at source targets reader at) new next)
image-ends source targets reader old html new at number mark r is f image known goes = grind (arith, nat_tests, image-goes-on)

pub mark-goes-on : (source : List ℕ) (targets : Targets) (reader : Reader) (old html : List ℕ) (at : ℕ) (mark : Mark) → IsSettled false source targets reader → at < length reader.marks.items → mark ≡ mark_numbered reader.marks.items at
    → write_all (page old Tags) (mark_events source targets reader mark) ≡ page html (mode_after reader.links.items mark.kind) → mode_after reader.links.items mark.kind ≡ Tags
    → GoesOn source targets reader (page old Tags) (events_at source targets reader at) html (record { mark = at + 1; from = mark.end })
mark-goes-on source targets reader old html at mark settled h is e tags = search (rules, settled-beyond, mark-then)

-- the alternative text

pub alternative-first : (source : List ℕ) (targets : Targets) (reader : Reader) (html : List ℕ) (start link : ℕ) (mark : Mark) → mark ≡ mark_numbered reader.marks.items start → IsImageAt source targets reader html start link
    → IsWrittenTo source targets reader html html start link mark.end (start + 1)
alternative-first source targets reader html start link mark is image = search (rules, settled-beyond)

-- the text up to the next mark
alternative-text : (source : List ℕ) (targets : Targets) (reader : Reader) (old html before : List ℕ) (start link from at : ℕ) → at < length reader.marks.items → IsWrittenTo source targets reader old html start link from at
    → before ≡ html ++ escape (one_line (slice_range source from (mark_numbered reader.marks.items at).at))
    → write_all (page old (Alternative link)) (events_after source targets reader start) ≡ write_all (page before (Alternative link)) (events_at source targets reader at)
alternative-text source targets reader old html before start link from at h w e = search (rules, drop_more, events-next, write-append, texts-alternative)

pub alternative-between : (source : List ℕ) (targets : Targets) (reader : Reader) (old html : List ℕ) (start link from at : ℕ) (mark : Mark) → at < length reader.marks.items → mark ≡ mark_numbered reader.marks.items at
    → IsWrittenTo source targets reader old html start link from at → IsBetween source from mark.at
alternative-between source targets reader old html start link from at mark h is w = subst (λ (m : Mark). IsBetween source from m.at) (sym is) ((laid-next source targets reader from at h w.laid).0.between)

pub alternative-next : (source : List ℕ) (targets : Targets) (reader : Reader) (old html before new : List ℕ) (start link from at : ℕ) (mark : Mark) → at < length reader.marks.items → mark ≡ mark_numbered reader.marks.items at
    → IsWrittenTo source targets reader old html start link from at → before ≡ html ++ escape (one_line (slice_range source from mark.at)) → Adds (Alternative link) before (mark_events source targets reader mark) new
    → IsWrittenTo source targets reader old new start link mark.end (at + 1)
alternative-next source targets reader old html before new start link from at mark h is w e added =
    let m = mark_numbered reader.marks.items at in
    subst (λ (k : Mark). IsWrittenTo source targets reader old new start link k.end (at + 1)) (sym is)
    (record {
      laid = (laid-next source targets reader from at h w.laid).3;
      same = alternative-text source targets reader old html before start link from at h w (e ∙ ap (λ (k : Mark). html ++ escape (one_line (slice_range source from k.at))) is)
          ∙ write-append (page before (Alternative link)) (mark_events source targets reader m) (events_from source targets reader m.end (drop (at + 1) reader.marks.items))
          ∙ ap (λ p. write_all p (events_from source targets reader m.end (drop (at + 1) reader.marks.items))) (ap (λ k. write_all (page before (Alternative link)) (mark_events source targets reader k)) (sym is) ∙ added);
    })

-- the end of the image is written among tags
end-mark : (source : List ℕ) (targets : Targets) (reader : Reader) (link : ℕ) (html : List ℕ) (mark : Mark) → is_end_of link mark.kind ≡ true
    → write_all (page html (Alternative link)) (mark_events source targets reader mark) ≡ write_all (page html Tags) (mark_events source targets reader mark)
unfolding write_all
end-mark source targets reader link html mark is = search rules

-- from a mark on, without text before it
events-here : (source : List ℕ) (targets : Targets) (reader : Reader) (at : ℕ) → at < length reader.marks.items
    → events_from source targets reader (mark_numbered reader.marks.items at).at (drop at reader.marks.items) ≡ events_at source targets reader at
unfolding events_of
events-here source targets reader at h = search (rules, drop_more, events-next, slice-none)

laid-here : (source : List ℕ) (targets : Targets) (reader : Reader) (from at : ℕ) → at < length reader.marks.items → AreLaid false source targets reader.runs.list.runs reader.links.items from (length source) (drop at reader.marks.items)
    → AreLaid false source targets reader.runs.list.runs reader.links.items (mark_numbered reader.marks.items at).at (length source) (drop at reader.marks.items)
laid-here source targets reader from at h laid = search (rules, laid-next, slice-none, drop_more)

pub alternative-end : (source : List ℕ) (targets : Targets) (reader : Reader) (old html before : List ℕ) (start link from at : ℕ) (mark : Mark) → at < length reader.marks.items → mark ≡ mark_numbered reader.marks.items at
    → IsWrittenTo source targets reader old html start link from at → before ≡ html ++ escape (one_line (slice_range source from mark.at)) → is_end_of link mark.kind ≡ true
    → GoesOn source targets reader (page old (Alternative link)) (events_after source targets reader start) before (record { mark = at; from = mark.at })
alternative-end source targets reader old html before start link from at mark h is w e end =
    let m = mark_numbered reader.marks.items at in
    let beyond = events_after source targets reader at in
    subst (λ (k : Mark). GoesOn source targets reader (page old (Alternative link)) (events_after source targets reader start) before (record { mark = at; from = k.at })) (sym is)
    (record {
      laid = laid-here source targets reader from at h w.laid;
      same = alternative-text source targets reader old html before start link from at h w (e ∙ ap (λ (k : Mark). html ++ escape (one_line (slice_range source from k.at))) is)
          ∙ write-append (page before (Alternative link)) (mark_events source targets reader m) beyond
          ∙ ap (λ p. write_all p beyond) (end-mark source targets reader link before m (ap (λ (k : Mark). is_end_of link k.kind) (sym is) ∙ end))
          ∙ sym (write-append (page before Tags) (mark_events source targets reader m) beyond)
          ∙ ap (write_all (page before Tags)) (sym (events-here source targets reader at h));
    })

-- the image has an end
pub alternative-ends : (source : List ℕ) (targets : Targets) (reader : Reader) (old html : List ℕ) (start link from at : ℕ) → length reader.marks.items ≤ at → IsImageAt source targets reader old start link → IsWrittenTo source targets reader old html start link from at → ⊥
alternative-ends source targets reader old html start link from at h image w =
    let left : (write_all (page old (Alternative link)) (events_after source targets reader start)).mode ≡ Alternative link =
    ap (λ p. mode p) (w.same ∙ ap (λ t. write_all (page html (Alternative link)) (events_from source targets reader from t)) (drop_all at reader.marks.items h)
    ∙ ap (write_all (page html (Alternative link))) (events-last source targets reader from)
    ∙ texts-alternative (runs_in reader.runs.list.runs) (pairs_in reader.runs.pairs.items) (slice_range source from (length source)) html link) in
    let never : Alternative link ≡ Tags = sym left ∙ image.ends in
    absurd (cc never)
