-- What marks write as HTML, one after another.
use Rattle.cm_inline.proofs.lemmas.Words.{◌≡◌, ℕ, ◌==◌, cond, true, false, List, [], ◌∷◌, ◌++◌, refl, sym, ap, ◌∙◌, append_assoc, list_all, and_parts, eqb-true}
use Rattle.cm_inline.proofs.lemmas.Words.{fold_out-Inline, outs-Soft, escape_byte, escape, Rendered, inline_step, rendered, one_line, rules, nat_tests, arith}
use Rattle.std.proofs.lemmas.List.{append-nil}
use Rattle.cm_tree.specs.declared.tree.Inline.TheVariants as inlines
use Rattle.cm_inline.specs.steps.pairing.Events.{Event}
use Rattle.cm_inline.specs.steps.pairing.Parts.{Pair, PairedRun, events_of}
use Rattle.cm_inline.specs.steps.pairing.Readings.{Mode, Tags, Alternative, Page, page, write, write_all}
use Rattle.cm_inline.specs.steps.Marks.{text_event, texts, stays_text}
use Rattle.cm_inline.proofs.lemmas.HtmlLemmas.{byte-html}

pub write-append : (p : Page) (fs gs : List Event) → write_all p (fs ++ gs) ≡ write_all (write_all p fs) gs
unfolding write_all
write-append p [] gs = refl
write-append p (f ∷ fs) gs = write-append (write p.html p.mode f) fs gs

-- what is written doesn't depend on what was written before
write-one : (f : Event) (m : Mode) (a b : List ℕ) → write (a ++ b) m f ≡ page (a ++ (write b m f).html) (write b m f).mode
write-one f m a b = grind (arith, nat_tests, append_assoc)

pub write-after : (a b : List ℕ) (m : Mode) (fs : List Event) → write_all (page (a ++ b) m) fs ≡ page (a ++ (write_all (page b m) fs).html) (write_all (page b m) fs).mode
unfolding write_all
write-after a b m [] = refl
write-after a b m (f ∷ fs) = ap (λ p. write_all p fs) (write-one f m a b) ∙ write-after a (write b m f).html (write b m f).mode fs

pub write-from : (a : List ℕ) (m : Mode) (fs : List Event) → write_all (page a m) fs ≡ page (a ++ (write_all (page [] m) fs).html) (write_all (page [] m) fs).mode
write-from a m fs = ap (λ h. write_all (page h m) fs) (sym (append-nil a)) ∙ write-after a [] m fs

-- nor does the mode after it
pub mode-same : (a b : List ℕ) (m : Mode) (fs : List Event) → (write_all (page a m) fs).mode ≡ (write_all (page b m) fs).mode
mode-same a b m fs = ap (λ p. mode p) (write-from a m fs) ∙ sym (ap (λ p. mode p) (write-from b m fs))
  where
    mode : Page → Mode
    mode p = p.mode

pub soft-html : (rendered inlines.Soft).html ≡ 10 ∷ []
soft-html = simp (fold_out-Inline Rendered inline_step, outs-Soft)

pub soft-plain : (rendered inlines.Soft).plain ≡ 32 ∷ []
soft-plain = simp (fold_out-Inline Rendered inline_step, outs-Soft)

-- text between marks

byte-tags : (html : List ℕ) (b : ℕ) → stays_text false b ≡ true → write html Tags (text_event b) ≡ page (html ++ b ∷ []) Tags
byte-tags html b h = search (rules, soft-html, eqb-true, append-nil, byte-html)

pub texts-tags : (runs : List PairedRun) (pairs : List Pair) (text html : List ℕ) → list_all (stays_text false) text ≡ true → write_all (page html Tags) (events_of runs pairs (texts text)) ≡ page (html ++ text) Tags
unfolding write_all events_of
texts-tags runs pairs [] html h = ap (λ t. page t Tags) (sym (append-nil html))
texts-tags runs pairs (b ∷ bs) html h =
    let parts = and_parts (stays_text false b) (list_all (stays_text false) bs) h in
    ap (λ p. write_all p (events_of runs pairs (texts bs))) (byte-tags html b parts.0) ∙ texts-tags runs pairs bs (html ++ b ∷ []) parts.1
    ∙ ap (λ t. page t Tags) (append_assoc html (b ∷ []) bs)

byte-alternative : (html : List ℕ) (n b : ℕ) → write html (Alternative n) (text_event b) ≡ page (html ++ escape_byte (cond (b == 10) 32 b)) (Alternative n)
byte-alternative html n b = search (rules, soft-plain, append-nil)

pub texts-alternative : (runs : List PairedRun) (pairs : List Pair) (text html : List ℕ) (n : ℕ) → write_all (page html (Alternative n)) (events_of runs pairs (texts text)) ≡ page (html ++ escape (one_line text)) (Alternative n)
unfolding write_all events_of
texts-alternative runs pairs [] html n = ap (λ t. page t (Alternative n)) (sym (append-nil html))
texts-alternative runs pairs (b ∷ bs) html n = search (rules, byte-alternative, append_assoc, (texts-alternative runs pairs bs (html ++ escape_byte (cond (b == 10) 32 b)) n))
