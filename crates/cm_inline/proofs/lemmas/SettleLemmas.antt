-- What inlines marks build, one after another.
use Rattle.cm_inline.proofs.lemmas.Words.{◌≡◌, ℕ, ◌+◌, ◌-◌, ◌<◌, ◌≤◌, Bool, true, List, [], ◌∷◌, ◌++◌, length, drop, get_or, refl, sym, ap, subst, ◌∙◌, encode_utf8}
use Rattle.cm_inline.proofs.lemmas.Words.{slice_range, drop_more, drop_all, get_or_read, Targets, Inline, one_line, Link, Reader, Kind, Mark, rules}
use Rattle.cm_tree.specs.declared.tree.Inline.TheVariants as inlines
use Rattle.cm_inline.specs.declared.marks.Kind.TheVariants as kinds
use Rattle.cm_inline.specs.steps.pairing.Events.{Built, ended, innermost, others, add_text, add_inline, build, made_of, inlines_of}
use Rattle.cm_inline.specs.steps.pairing.Parts.{part_events}
use Rattle.cm_inline.specs.steps.Building.{opened, closed, IsBuiltTo}
use Rattle.cm_inline.specs.steps.Marks.{link_tag, part_of_kind, IsUnmarked, AreLaid, events_in, no_link, IsOfKind}
use Rattle.cm_inline.specs.steps.Runs.{runs_in, pairs_in}
use Rattle.cm_inline.specs.steps.Standalone.{autolink}
use Rattle.cm_inline.specs.steps.Writing.{no_mark, mark_numbered, mark_events, IsMarkIn}
use Rattle.cm_inline.proofs.lemmas.BuildLemmas.{texts-built}
use Rattle.cm_inline.proofs.lemmas.LaidLemmas.{events-next, events-last}
use Rattle.cm_inline.proofs.lemmas.EventLemmas.{build-append}

-- one mark

abbrev BuiltKind : List ℕ → Targets → Reader → Mark → (m new : Built) → Kind → Type 0
BuiltKind source targets reader mark m new kind =
    new ≡ build m (part_events (runs_in reader.runs.list.runs) (pairs_in reader.runs.pairs.items) (part_of_kind source targets reader.links.items mark.at mark.end kind))

of-kind : (source : List ℕ) (targets : Targets) (reader : Reader) (mark : Mark) (m new : Built) (kind : Kind) → mark.kind ≡ kind → BuiltKind source targets reader mark m new kind → new ≡ build m (mark_events source targets reader mark)
of-kind source targets reader mark m new kind is h = subst (BuiltKind source targets reader mark m new) (sym is) h

pub built-plain : (source : List ℕ) (targets : Targets) (reader : Reader) (mark : Mark) (m new : Built) (part : List ℕ) → mark.kind ≡ kinds.Plain → part ≡ slice_range source mark.at mark.end → new ≡ add_text m part
    → new ≡ build m (mark_events source targets reader mark)
unfolding build
built-plain source targets reader mark m new part is of e = of-kind source targets reader mark m new kinds.Plain is (e ∙ ap (add_text m) of)

pub built-escaped : (source : List ℕ) (targets : Targets) (reader : Reader) (mark : Mark) (m new : Built) (part : List ℕ) → mark.kind ≡ kinds.Escaped → part ≡ slice_range source mark.at mark.end → new ≡ add_text m part
    → new ≡ build m (mark_events source targets reader mark)
unfolding build
built-escaped source targets reader mark m new part is of e = of-kind source targets reader mark m new kinds.Escaped is (e ∙ ap (add_text m) of)

pub built-nothing : (source : List ℕ) (targets : Targets) (reader : Reader) (mark : Mark) (m : Built) → mark.kind ≡ kinds.Nothing → m ≡ build m (mark_events source targets reader mark)
unfolding build
built-nothing source targets reader mark m is = of-kind source targets reader mark m m kinds.Nothing is refl

pub built-character : (source : List ℕ) (targets : Targets) (reader : Reader) (mark : Mark) (m new : Built) (c : ℕ) → mark.kind ≡ kinds.Character c → new ≡ add_text m (encode_utf8 c) → new ≡ build m (mark_events source targets reader mark)
unfolding build
built-character source targets reader mark m new c is e = of-kind source targets reader mark m new (kinds.Character c) is e

pub built-code : (source : List ℕ) (targets : Targets) (reader : Reader) (mark : Mark) (m new : Built) (part : List ℕ) (from to : ℕ) → mark.kind ≡ kinds.Code from to → part ≡ slice_range source from to
    → new ≡ add_inline m (inlines.Code (one_line part)) → new ≡ build m (mark_events source targets reader mark)
unfolding build
built-code source targets reader mark m new part from to is of e = of-kind source targets reader mark m new (kinds.Code from to) is (e ∙ ap (λ t. add_inline m (inlines.Code (one_line t))) of)

pub built-html : (source : List ℕ) (targets : Targets) (reader : Reader) (mark : Mark) (m new : Built) (part text : List ℕ) → mark.kind ≡ kinds.Html → part ≡ slice_range source mark.at mark.end → text ≡ part
    → new ≡ add_inline m (inlines.Html text) → new ≡ build m (mark_events source targets reader mark)
unfolding build
built-html source targets reader mark m new part text is of copy e = of-kind source targets reader mark m new kinds.Html is (e ∙ ap (λ t. add_inline m (inlines.Html t)) (copy ∙ of))

pub built-autolink : (source : List ℕ) (targets : Targets) (reader : Reader) (mark : Mark) (m new : Built) (part : List ℕ) (is_address : Bool) (link : Inline) → mark.kind ≡ kinds.Autolink is_address → part ≡ slice_range source (mark.at + 1) (mark.end - 1)
    → link ≡ autolink is_address part → new ≡ add_inline m link → new ≡ build m (mark_events source targets reader mark)
unfolding build
built-autolink source targets reader mark m new part is_address link is of linked e =
    of-kind source targets reader mark m new (kinds.Autolink is_address) is (e ∙ ap (add_inline m) (linked ∙ ap (autolink is_address) of))

pub built-soft : (source : List ℕ) (targets : Targets) (reader : Reader) (mark : Mark) (m new : Built) → mark.kind ≡ kinds.Soft → new ≡ add_inline m inlines.Soft → new ≡ build m (mark_events source targets reader mark)
unfolding build
built-soft source targets reader mark m new is e = of-kind source targets reader mark m new kinds.Soft is e

pub built-hard : (source : List ℕ) (targets : Targets) (reader : Reader) (mark : Mark) (m new : Built) → mark.kind ≡ kinds.Hard → new ≡ add_inline m inlines.Hard → new ≡ build m (mark_events source targets reader mark)
unfolding build
built-hard source targets reader mark m new is e = of-kind source targets reader mark m new kinds.Hard is e

pub built-start : (source : List ℕ) (targets : Targets) (reader : Reader) (mark : Mark) (m new : Built) (number : ℕ) → mark.kind ≡ kinds.Start number → new ≡ opened m → new ≡ build m (mark_events source targets reader mark)
unfolding build
built-start source targets reader mark m new number is e = of-kind source targets reader mark m new (kinds.Start number) is e

pub built-end : (source : List ℕ) (targets : Targets) (reader : Reader) (mark : Mark) (m new : Built) (number : ℕ) (link : Link) → mark.kind ≡ kinds.End number → IsMarkIn source targets reader mark → link ≡ get_or reader.links.items number link
    → new ≡ closed m (made_of (link_tag source targets number link) (ended m)) → new ≡ build m (mark_events source targets reader mark)
unfolding build
built-end source targets reader mark m new number link is known read e =
    let kind : IsOfKind source targets reader.runs.list.runs reader.links.items mark.at mark.end (kinds.End number) = subst (IsOfKind source targets reader.runs.list.runs reader.links.items mark.at mark.end) is known.kind in
    let of : link ≡ get_or reader.links.items number no_link = get_or_read reader.links.items number link kind.known read no_link in
    of-kind source targets reader mark m new (kinds.End number) is (e ∙ ap (λ l. closed m (made_of (link_tag source targets number l) (ended m))) of)

-- a node ends with an inline

abbrev pub of_parts : List Inline → List ℕ → List (List Inline) → Built
of_parts content text outer = record { content = content; text = text; outer = outer }

pub closed-with : (m : Built) (text : List ℕ) (before after : List Inline) (outer : List (List Inline)) (inline made : Inline) → of_parts before text outer ≡ of_parts (innermost m.outer) [] (others m.outer)
    → after ≡ before ++ inline ∷ [] → inline ≡ made → of_parts after text outer ≡ closed m made
closed-with m text before after outer inline made left pushed is =
    ap (λ c. of_parts c text outer) (pushed ∙ ap (λ (i : Inline). before ++ i ∷ []) is) ∙ ap (λ (b : Built). of_parts (b.content ++ made ∷ []) b.text b.outer) left

-- all of them

laid-next : (source : List ℕ) (targets : Targets) (reader : Reader) (m : Built) (from at : ℕ) → at < length reader.marks.items → IsBuiltTo source targets reader m from at
    → AreLaid true source targets reader.runs.list.runs reader.links.items from (length source) (mark_numbered reader.marks.items at ∷ drop (at + 1) reader.marks.items)
laid-next source targets reader m from at h b = subst (AreLaid true source targets reader.runs.list.runs reader.links.items from (length source)) (drop_more reader.marks.items at no_mark h) b.laid

pub built-next : (source : List ℕ) (targets : Targets) (reader : Reader) (m before new : Built) (from at : ℕ) (mark : Mark) (text : List ℕ) → at < length reader.marks.items → mark ≡ mark_numbered reader.marks.items at → IsBuiltTo source targets reader m from at
    → text ≡ slice_range source from mark.at → before ≡ add_text m text → new ≡ build before (mark_events source targets reader mark) → IsBuiltTo source targets reader new mark.end (at + 1)
built-next source targets reader m before new from at mark text h is b of added made = search (rules, laid-next, drop_more, events-next, build-append, texts-built)

last-laid : (source : List ℕ) (targets : Targets) (reader : Reader) (m : Built) (from at : ℕ) → length reader.marks.items ≤ at → IsBuiltTo source targets reader m from at → IsUnmarked true source from (length source)
last-laid source targets reader m from at h b = subst (AreLaid true source targets reader.runs.list.runs reader.links.items from (length source)) (drop_all at reader.marks.items h) b.laid

pub built-last : (source : List ℕ) (targets : Targets) (reader : Reader) (m new : Built) (from at : ℕ) (text : List ℕ) (content : List Inline) → length reader.marks.items ≤ at → IsBuiltTo source targets reader m from at
    → text ≡ slice_range source from (length source) → new ≡ add_text m text → content ≡ ended new → content ≡ inlines_of (events_in source targets reader)
built-last source targets reader m new from at text content h b of added e = search (rules, drop_all, events-last, texts-built, last-laid)
