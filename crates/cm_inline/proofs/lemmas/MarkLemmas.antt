-- What one mark writes, among tags and in an alternative text.
use Rattle.cm_inline.proofs.lemmas.Words.{◌≡◌, ℕ, zero, suc, ◌+◌, ◌-◌, ◌<◌, Bool, true, false, cond, List, [], ◌∷◌, ◌++◌, take, drop, get_or, codes, refl, sym, ap}
use Rattle.cm_inline.proofs.lemmas.Words.{subst, ◌∙◌, arith, encode_utf8, if◌then◌else◌, slice_range, cond-false, get_or-take, get_or_read, get_or-map, Targets}
use Rattle.cm_inline.proofs.lemmas.Words.{fold_out-Inline, escape, Rendered, inline_step, inlines_html, rendered, one_line, Link, Reader, Kind, Mark, Emphasis, rules}
use Rattle.cm_inline.proofs.lemmas.Words.{nat_tests, ◌==◌}
use Rattle.std.proofs.lemmas.List.{append-nil, take-map, get_or-drop, drop-map}
use Rattle.cm_tree.specs.declared.tree.Inline.TheVariants as inlines
use Rattle.cm_tree.specs.declared.tree.Inline.TheVariants.{outs-Text, outs-Code, outs-Html, outs-Link, outs-Hard}
use Rattle.cm_html.specs.Html.{link_html}
use Rattle.cm_html.specs.steps.HtmlParts.{code_span_html}
use Rattle.cm_inline.specs.declared.marks.Kind.TheVariants as kinds
use Rattle.cm_inline.specs.declared.runs.Run as held
use Rattle.cm_inline.specs.declared.pairing.Pair as made
use Rattle.cm_inline.specs.steps.pairing.States.{run_at}
use Rattle.cm_inline.specs.steps.pairing.Events.{LinkTag}
use Rattle.cm_inline.specs.steps.pairing.Parts.{Pair, chain, ends, run_events, part_events}
use Rattle.cm_inline.specs.steps.pairing.Readings.{start_html, end_html, Tags, Alternative, is_number, mode_of, page, write_all}
use Rattle.cm_inline.specs.steps.Marks.{link_tag, part_of_kind, is_escaped, IsOfKind, no_link}
use Rattle.cm_inline.specs.steps.Runs.{byte_of, tag_in, pairs_in, paired_run, runs_in}
use Rattle.cm_inline.specs.steps.Standalone.{autolink, autolink_html}
use Rattle.cm_inline.specs.steps.Writing.{Adds, mark_events, mode_after, is_end_of, IsNumbered, IsLinked, IsMarkIn}
use Rattle.cm_inline.proofs.lemmas.HtmlLemmas.{run-html, text-html}
use Rattle.cm_inline.proofs.lemmas.WriteLemmas.{write-append, soft-html, soft-plain}
use Rattle.std.specs.Prelude.{replicate}

-- what is written of a mark among tags
abbrev pub Wrote : List ℕ → Targets → Reader → Mark → (html new : List ℕ) → Type 0
Wrote source targets reader mark html new = write_all (page html Tags) (mark_events source targets reader mark) ≡ page new (mode_after reader.links.items mark.kind)

abbrev WroteKind : List ℕ → Targets → Reader → Mark → (html new : List ℕ) → Kind → Type 0
WroteKind source targets reader mark html new kind =
    write_all (page html Tags) (part_events (runs_in reader.runs.list.runs) (pairs_in reader.runs.pairs.items) (part_of_kind source targets reader.links.items mark.at mark.end kind)) ≡ page new (mode_after reader.links.items kind)

of-kind : (source : List ℕ) (targets : Targets) (reader : Reader) (mark : Mark) (html new : List ℕ) (kind : Kind) → mark.kind ≡ kind → WroteKind source targets reader mark html new kind → Wrote source targets reader mark html new
of-kind source targets reader mark html new kind is h = subst (WroteKind source targets reader mark html new) (sym is) h

known : (source : List ℕ) (targets : Targets) (reader : Reader) (mark : Mark) (kind : Kind) → mark.kind ≡ kind → IsMarkIn source targets reader mark → IsOfKind source targets reader.runs.list.runs reader.links.items mark.at mark.end kind
known source targets reader mark kind is m = subst (IsOfKind source targets reader.runs.list.runs reader.links.items mark.at mark.end) is m.kind

tags : (html new text : List ℕ) → new ≡ html ++ text → page (html ++ text) Tags ≡ page new Tags
tags html new text e = ap (λ h. page h Tags) (sym e)

pub tags-plain : (source : List ℕ) (targets : Targets) (reader : Reader) (mark : Mark) (html new part : List ℕ) → mark.kind ≡ kinds.Plain → IsMarkIn source targets reader mark → part ≡ slice_range source mark.at mark.end → new ≡ html ++ part
    → Wrote source targets reader mark html new
unfolding write_all
tags-plain source targets reader mark html new part is m of e = search (rules, of-kind, tags, text-html, known)

-- the byte that is escaped
byte-at : (source : List ℕ) (at end b : ℕ) → slice_range source at end ≡ b ∷ [] → get_or source at 0 ≡ b
byte-at source at end b e = go (end - at) refl
  where
    go : (n : ℕ) → end - at ≡ n → get_or source at 0 ≡ b
    go zero f = absurd (cc (sym (ap (λ n. take n (drop at source)) f) ∙ e))
    go (suc n) f =
        let place : at + 0 ≡ at = omega arith in
        let some : 0 < suc n = omega arith in
        sym (ap (λ k. get_or source k 0) place) ∙ sym (get_or-drop at source 0 0) ∙ sym (get_or-take (suc n) (drop at source) 0 0 some) ∙ ap (λ t. get_or t 0 0) (sym (ap (λ k. take k (drop at source)) f) ∙ e)

pub escaped-at : (source bytes : List ℕ) (targets : Targets) (reader : Reader) (mark : Mark) → mark.kind ≡ kinds.Escaped → IsMarkIn source targets reader mark → bytes ≡ source
    → (is_escaped (get_or bytes mark.at 0) ≡ true) × (slice_range source mark.at mark.end ≡ get_or bytes mark.at 0 ∷ [])
escaped-at source bytes targets reader mark is m same =
    let k = known source targets reader mark kinds.Escaped is m in
    let b : get_or bytes mark.at 0 ≡ k.0 = ap (λ t. get_or t mark.at 0) same ∙ byte-at source mark.at mark.end k.0 k.2 in
    (ap is_escaped b ∙ k.1, k.2 ∙ ap (λ n. n ∷ []) (sym b))

pub tags-escaped : (source bytes : List ℕ) (targets : Targets) (reader : Reader) (mark : Mark) (html new : List ℕ) → mark.kind ≡ kinds.Escaped → IsMarkIn source targets reader mark → bytes ≡ source → new ≡ html ++ escape (get_or bytes mark.at 0 ∷ [])
    → Wrote source targets reader mark html new
unfolding write_all
tags-escaped source bytes targets reader mark html new is m same e =
    of-kind source targets reader mark html new kinds.Escaped is
    (tags html new (escape (slice_range source mark.at mark.end)) (e ∙ ap (λ t. html ++ escape t) (sym (escaped-at source bytes targets reader mark is m same).1)))

pub tags-nothing : (source : List ℕ) (targets : Targets) (reader : Reader) (mark : Mark) (html : List ℕ) → mark.kind ≡ kinds.Nothing → Wrote source targets reader mark html html
unfolding write_all
tags-nothing source targets reader mark html is = of-kind source targets reader mark html html kinds.Nothing is refl

pub tags-character : (source : List ℕ) (targets : Targets) (reader : Reader) (mark : Mark) (html new : List ℕ) (c : ℕ) → mark.kind ≡ kinds.Character c → new ≡ html ++ escape (encode_utf8 c) → Wrote source targets reader mark html new
unfolding write_all
tags-character source targets reader mark html new c is e = of-kind source targets reader mark html new (kinds.Character c) is (tags html new (escape (encode_utf8 c)) e)

code-html : (text : List ℕ) → (rendered (inlines.Code text)).html ≡ code_span_html text
code-html text = simp (fold_out-Inline Rendered inline_step, outs-Code)

pub tags-code : (source : List ℕ) (targets : Targets) (reader : Reader) (mark : Mark) (html new part : List ℕ) (from to : ℕ) → mark.kind ≡ kinds.Code from to → part ≡ slice_range source from to → new ≡ html ++ code_span_html (one_line part)
    → Wrote source targets reader mark html new
unfolding write_all
tags-code source targets reader mark html new part from to is of e =
    let text = one_line (slice_range source from to) in
    of-kind source targets reader mark html new (kinds.Code from to) is
    (tags html new (rendered (inlines.Code text)).html (e ∙ ap (λ t. html ++ code_span_html (one_line t)) of ∙ ap (λ t. html ++ t) (sym (code-html text))))

raw-html : (text : List ℕ) → (rendered (inlines.Html text)).html ≡ text
raw-html text = simp (fold_out-Inline Rendered inline_step, outs-Html)

pub tags-html : (source : List ℕ) (targets : Targets) (reader : Reader) (mark : Mark) (html new part : List ℕ) → mark.kind ≡ kinds.Html → part ≡ slice_range source mark.at mark.end → new ≡ html ++ part
    → Wrote source targets reader mark html new
unfolding write_all
tags-html source targets reader mark html new part is of e =
    let text = slice_range source mark.at mark.end in
    of-kind source targets reader mark html new kinds.Html is (tags html new (rendered (inlines.Html text)).html (e ∙ ap (λ t. html ++ t) (of ∙ sym (raw-html text))))

autolink-is : (is_address : Bool) (text : List ℕ) → (rendered (autolink is_address text)).html ≡ autolink_html is_address text
autolink-is is_address text = linked (if is_address then codes "mailto:" ++ text else text)
  where
    text-is : (rendered (inlines.Text text)).html ≡ escape text
    text-is = simp (fold_out-Inline Rendered inline_step, outs-Text)

    link-is : (dest : List ℕ) → (rendered (inlines.Link dest [] (inlines.Text text ∷ []))).html ≡ link_html dest [] (inlines_html (inlines.Text text ∷ []))
    link-is dest = simp (fold_out-Inline Rendered inline_step, outs-Link)

    linked : (dest : List ℕ) → (rendered (inlines.Link dest [] (inlines.Text text ∷ []))).html ≡ link_html dest [] (escape text)
    linked dest = link-is dest ∙ ap (link_html dest []) (append-nil (rendered (inlines.Text text)).html ∙ text-is)

pub tags-autolink : (source : List ℕ) (targets : Targets) (reader : Reader) (mark : Mark) (html new part : List ℕ) (is_address : Bool) → mark.kind ≡ kinds.Autolink is_address → part ≡ slice_range source (mark.at + 1) (mark.end - 1)
    → new ≡ html ++ autolink_html is_address part → Wrote source targets reader mark html new
unfolding write_all
tags-autolink source targets reader mark html new part is_address is of e =
    let text = slice_range source (mark.at + 1) (mark.end - 1) in
    of-kind source targets reader mark html new (kinds.Autolink is_address) is
    (tags html new (rendered (autolink is_address text)).html (e ∙ ap (λ t. html ++ autolink_html is_address t) of ∙ ap (λ t. html ++ t) (sym (autolink-is is_address text))))

pub tags-soft : (source : List ℕ) (targets : Targets) (reader : Reader) (mark : Mark) (html new : List ℕ) → mark.kind ≡ kinds.Soft → new ≡ html ++ codes "\n" → Wrote source targets reader mark html new
unfolding write_all
tags-soft source targets reader mark html new is e = of-kind source targets reader mark html new kinds.Soft is (tags html new (rendered inlines.Soft).html (e ∙ ap (λ t. html ++ t) (sym soft-html)))

hard-html : (rendered inlines.Hard).html ≡ codes "<br />\n"
hard-html = simp (fold_out-Inline Rendered inline_step, outs-Hard)

hard-plain : (rendered inlines.Hard).plain ≡ 32 ∷ []
hard-plain = simp (fold_out-Inline Rendered inline_step, outs-Hard)

pub tags-hard : (source : List ℕ) (targets : Targets) (reader : Reader) (mark : Mark) (html new : List ℕ) → mark.kind ≡ kinds.Hard → new ≡ html ++ codes "<br />\n" → Wrote source targets reader mark html new
unfolding write_all
tags-hard source targets reader mark html new is e = of-kind source targets reader mark html new kinds.Hard is (tags html new (rendered inlines.Hard).html (e ∙ ap (λ t. html ++ t) (sym hard-html)))

mode-link : (number : ℕ) (image : Bool) (dest title : List ℕ) → mode_of (LinkTag number image dest title) ≡ cond image (Alternative number) Tags
mode-link number image dest title = grind (arith, nat_tests)

pub tags-start : (source : List ℕ) (targets : Targets) (reader : Reader) (mark : Mark) (html new : List ℕ) (number : ℕ) (link : Link) → mark.kind ≡ kinds.Start number → IsMarkIn source targets reader mark → link ≡ get_or reader.links.items number link
    → new ≡ html ++ start_html (link_tag source targets number link) → Wrote source targets reader mark html new
unfolding write_all
tags-start source targets reader mark html new number link is m read e = search (rules, get_or_read, known, of-kind, mode-link)

pub tags-end : (source : List ℕ) (targets : Targets) (reader : Reader) (mark : Mark) (html new : List ℕ) (number : ℕ) (link : Link) → mark.kind ≡ kinds.End number → IsMarkIn source targets reader mark → link ≡ get_or reader.links.items number link
    → new ≡ html ++ end_html (link_tag source targets number link) → Wrote source targets reader mark html new
unfolding write_all
tags-end source targets reader mark html new number link is m read e =
    let of : link ≡ get_or reader.links.items number no_link = get_or_read reader.links.items number link (known source targets reader mark (kinds.End number) is m).known read no_link in
    of-kind source targets reader mark html new (kinds.End number) is (ap (λ h. page h Tags) (ap (λ k. html ++ end_html (link_tag source targets number k)) (sym of) ∙ sym e))

-- a mark that is written as the text that is there

pub numbered : (source : List ℕ) (targets : Targets) (reader : Reader) (mark : Mark) → IsMarkIn source targets reader mark → IsNumbered reader.runs.list.runs mark.kind
numbered source targets reader mark m = search rules

pub linked : (source : List ℕ) (targets : Targets) (reader : Reader) (mark : Mark) → IsMarkIn source targets reader mark → IsLinked reader.links.items mark.kind
linked source targets reader mark m = search rules

-- in an alternative text

abbrev AltKind : List ℕ → Targets → Reader → Mark → (link : ℕ) → (html new : List ℕ) → Kind → Type 0
AltKind source targets reader mark link html new kind =
    write_all (page html (Alternative link)) (part_events (runs_in reader.runs.list.runs) (pairs_in reader.runs.pairs.items) (part_of_kind source targets reader.links.items mark.at mark.end kind)) ≡ page new (Alternative link)

alt-of : (source : List ℕ) (targets : Targets) (reader : Reader) (mark : Mark) (link : ℕ) (html new : List ℕ) (kind : Kind) → mark.kind ≡ kind → AltKind source targets reader mark link html new kind
    → Adds (Alternative link) html (mark_events source targets reader mark) new
alt-of source targets reader mark link html new kind is h = subst (AltKind source targets reader mark link html new) (sym is) h

alt : (link : ℕ) (html new text : List ℕ) → new ≡ html ++ text → page (html ++ text) (Alternative link) ≡ page new (Alternative link)
alt link html new text e = ap (λ h. page h (Alternative link)) (sym e)

pub alt-plain : (source : List ℕ) (targets : Targets) (reader : Reader) (mark : Mark) (link : ℕ) (html new part : List ℕ) → mark.kind ≡ kinds.Plain → part ≡ slice_range source mark.at mark.end → new ≡ html ++ escape part
    → Adds (Alternative link) html (mark_events source targets reader mark) new
unfolding write_all
alt-plain source targets reader mark link html new part is of e = alt-of source targets reader mark link html new kinds.Plain is (alt link html new (escape (slice_range source mark.at mark.end)) (e ∙ ap (λ t. html ++ escape t) of))

pub alt-escaped : (source : List ℕ) (targets : Targets) (reader : Reader) (mark : Mark) (link : ℕ) (html new part : List ℕ) → mark.kind ≡ kinds.Escaped → part ≡ slice_range source mark.at mark.end → new ≡ html ++ escape part
    → Adds (Alternative link) html (mark_events source targets reader mark) new
unfolding write_all
alt-escaped source targets reader mark link html new part is of e = alt-of source targets reader mark link html new kinds.Escaped is (alt link html new (escape (slice_range source mark.at mark.end)) (e ∙ ap (λ t. html ++ escape t) of))

pub alt-nothing : (source : List ℕ) (targets : Targets) (reader : Reader) (mark : Mark) (link : ℕ) (html : List ℕ) → mark.kind ≡ kinds.Nothing → Adds (Alternative link) html (mark_events source targets reader mark) html
unfolding write_all
alt-nothing source targets reader mark link html is = alt-of source targets reader mark link html html kinds.Nothing is refl

pub alt-character : (source : List ℕ) (targets : Targets) (reader : Reader) (mark : Mark) (link : ℕ) (html new : List ℕ) (c : ℕ) → mark.kind ≡ kinds.Character c → new ≡ html ++ escape (encode_utf8 c)
    → Adds (Alternative link) html (mark_events source targets reader mark) new
unfolding write_all
alt-character source targets reader mark link html new c is e = alt-of source targets reader mark link html new (kinds.Character c) is (alt link html new (escape (encode_utf8 c)) e)

code-plain : (text : List ℕ) → (rendered (inlines.Code text)).plain ≡ text
code-plain text = simp (fold_out-Inline Rendered inline_step, outs-Code)

pub alt-code : (source : List ℕ) (targets : Targets) (reader : Reader) (mark : Mark) (link : ℕ) (html new part : List ℕ) (from to : ℕ) → mark.kind ≡ kinds.Code from to → part ≡ slice_range source from to → new ≡ html ++ escape (one_line part)
    → Adds (Alternative link) html (mark_events source targets reader mark) new
unfolding write_all
alt-code source targets reader mark link html new part from to is of e =
    let text = one_line (slice_range source from to) in
    alt-of source targets reader mark link html new (kinds.Code from to) is
    (alt link html new (escape (rendered (inlines.Code text)).plain) (e ∙ ap (λ t. html ++ escape (one_line t)) of ∙ ap (λ t. html ++ escape t) (sym (code-plain text))))

raw-plain : (text : List ℕ) → (rendered (inlines.Html text)).plain ≡ text
raw-plain text = simp (fold_out-Inline Rendered inline_step, outs-Html)

pub alt-html : (source : List ℕ) (targets : Targets) (reader : Reader) (mark : Mark) (link : ℕ) (html new part : List ℕ) → mark.kind ≡ kinds.Html → part ≡ slice_range source mark.at mark.end → new ≡ html ++ escape part
    → Adds (Alternative link) html (mark_events source targets reader mark) new
unfolding write_all
alt-html source targets reader mark link html new part is of e =
    let text = slice_range source mark.at mark.end in
    alt-of source targets reader mark link html new kinds.Html is (alt link html new (escape (rendered (inlines.Html text)).plain) (e ∙ ap (λ t. html ++ escape t) (of ∙ sym (raw-plain text))))

autolink-plain : (is_address : Bool) (text : List ℕ) → (rendered (autolink is_address text)).plain ≡ text
autolink-plain is_address text = linked-plain (if is_address then codes "mailto:" ++ text else text)
  where
    text-is : (rendered (inlines.Text text)).plain ≡ text
    text-is = simp (fold_out-Inline Rendered inline_step, outs-Text)

    link-is : (dest : List ℕ) → (rendered (inlines.Link dest [] (inlines.Text text ∷ []))).plain ≡ (rendered (inlines.Text text)).plain ++ []
    link-is dest = simp (fold_out-Inline Rendered inline_step, outs-Link)

    linked-plain : (dest : List ℕ) → (rendered (inlines.Link dest [] (inlines.Text text ∷ []))).plain ≡ text
    linked-plain dest = link-is dest ∙ append-nil (rendered (inlines.Text text)).plain ∙ text-is

pub alt-autolink : (source : List ℕ) (targets : Targets) (reader : Reader) (mark : Mark) (link : ℕ) (html new part : List ℕ) (is_address : Bool) → mark.kind ≡ kinds.Autolink is_address → part ≡ slice_range source (mark.at + 1) (mark.end - 1)
    → new ≡ html ++ escape part → Adds (Alternative link) html (mark_events source targets reader mark) new
unfolding write_all
alt-autolink source targets reader mark link html new part is_address is of e =
    let text = slice_range source (mark.at + 1) (mark.end - 1) in
    alt-of source targets reader mark link html new (kinds.Autolink is_address) is
    (alt link html new (escape (rendered (autolink is_address text)).plain) (e ∙ ap (λ t. html ++ escape t) (of ∙ sym (autolink-plain is_address text))))

pub alt-soft : (source : List ℕ) (targets : Targets) (reader : Reader) (mark : Mark) (link : ℕ) (html new : List ℕ) → mark.kind ≡ kinds.Soft → new ≡ html ++ codes " " → Adds (Alternative link) html (mark_events source targets reader mark) new
unfolding write_all
alt-soft source targets reader mark link html new is e = alt-of source targets reader mark link html new kinds.Soft is (alt link html new (escape (rendered inlines.Soft).plain) (e ∙ ap (λ t. html ++ escape t) (sym soft-plain)))

pub alt-hard : (source : List ℕ) (targets : Targets) (reader : Reader) (mark : Mark) (link : ℕ) (html new : List ℕ) → mark.kind ≡ kinds.Hard → new ≡ html ++ codes " " → Adds (Alternative link) html (mark_events source targets reader mark) new
unfolding write_all
alt-hard source targets reader mark link html new is e = alt-of source targets reader mark link html new kinds.Hard is (alt link html new (escape (rendered inlines.Hard).plain) (e ∙ ap (λ t. html ++ escape t) (sym hard-plain)))

pub alt-start : (source : List ℕ) (targets : Targets) (reader : Reader) (mark : Mark) (link : ℕ) (html : List ℕ) (number : ℕ) → mark.kind ≡ kinds.Start number → Adds (Alternative link) html (mark_events source targets reader mark) html
unfolding write_all
alt-start source targets reader mark link html number is = alt-of source targets reader mark link html html (kinds.Start number) is refl

pub alt-end : (source : List ℕ) (targets : Targets) (reader : Reader) (mark : Mark) (link : ℕ) (html : List ℕ) (number : ℕ) → mark.kind ≡ kinds.End number → is_end_of link mark.kind ≡ false → Adds (Alternative link) html (mark_events source targets reader mark) html
unfolding write_all
alt-end source targets reader mark link html number is other =
    let l = get_or reader.links.items number no_link in
    alt-of source targets reader mark link html html (kinds.End number) is
    (cond-false (number == link) (page (html ++ end_html (link_tag source targets number l)) Tags) (page html (Alternative link)) (sym (ap (is_end_of link) is) ∙ other))

-- of a run, what is left
emphasis-end : (link : ℕ) (emphasis : Emphasis) → is_number link (tag_in emphasis) ≡ false
emphasis-end link emphasis = grind (arith, nat_tests)

ends-alternative : (link : ℕ) (html : List ℕ) (ps : List made.Pair) → write_all (page html (Alternative link)) (ends (pairs_in ps)) ≡ page html (Alternative link)
unfolding write_all
ends-alternative link html [] = refl
ends-alternative link html (p ∷ ps) = search (rules, cond-false, emphasis-end, (ends-alternative link html ps))

chain-alternative : (link : ℕ) (html : List ℕ) (ps : List Pair) (n : ℕ) → write_all (page html (Alternative link)) (chain ps n) ≡ page html (Alternative link)
unfolding write_all chain
chain-alternative link html [] n = refl
chain-alternative link html (p ∷ ps) n = search (rules, (chain-alternative link html ps p.before), (chain-alternative link html ps n))

run-alternative : (link : ℕ) (html : List ℕ) (ps : List made.Pair) (number : ℕ) (r : held.Run) → write_all (page html (Alternative link)) (run_events (pairs_in ps) number (paired_run r)) ≡ page (html ++ replicate r.run.left (byte_of r.run.marker)) (Alternative link)
unfolding write_all
run-alternative link html ps number r = search (rules, write-append, take-map, drop-map, ends-alternative, run-html, chain-alternative)

pub alt-run : (source : List ℕ) (targets : Targets) (reader : Reader) (mark : Mark) (link : ℕ) (html new : List ℕ) (number : ℕ) (run : held.Run) → mark.kind ≡ kinds.Run number → IsMarkIn source targets reader mark
    → run ≡ run_at reader.runs.list.runs number → new ≡ html ++ replicate run.run.left (byte_of run.run.marker) → Adds (Alternative link) html (mark_events source targets reader mark) new
alt-run source targets reader mark link html new number run is m of e = search (rules, known, get_or-map, alt-of, run-alternative)
