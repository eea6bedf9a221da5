-- What inlines events build, one after another.
use Rattle.cm_inline.proofs.lemmas.Words.{◌≡◌, ℕ, suc, ◌+◌, ◌-◌, ◌<◌, true, List, [], ◌∷◌, ◌++◌, sym, ap, ◌∙◌, arith, append_assoc, list_all, and_parts, Emphasis}
use Rattle.cm_inline.proofs.lemmas.Words.{rules}
use Rattle.cm_inline.specs.declared.runs.Run as held
use Rattle.cm_inline.specs.declared.pairing.Pair as made
use Rattle.cm_inline.specs.steps.pairing.Events.{Event, Start, End, Built, ended, add_text, build_one, build, made_of}
use Rattle.cm_inline.specs.steps.pairing.Parts.{Pair, PairedRun, starts, ends_between, run_events, events_of}
use Rattle.cm_inline.specs.steps.Building.{opened, closed}
use Rattle.cm_inline.specs.steps.Marks.{text_event, texts, stays_text}
use Rattle.cm_inline.specs.steps.Runs.{byte_of, tag_in, pairs_in, paired_run}
use Rattle.cm_inline.proofs.lemmas.EventLemmas.{build-append}
use Rattle.std.proofs.lemmas.List.{append-nil}
use Rattle.std.specs.Prelude.{replicate}

-- text between marks, without a line feed

text-none : (m : Built) → add_text m [] ≡ m
text-none m = ap (λ t. with_text t) (append-nil m.text)
  where
    with_text : List ℕ → Built
    with_text t = record { content = m.content; text = t; outer = m.outer }

pub text-more : (m : Built) (a b : List ℕ) → add_text (add_text m a) b ≡ add_text m (a ++ b)
text-more m a b = ap (λ t. with_text t) (append_assoc m.text a b)
  where
    with_text : List ℕ → Built
    with_text t = record { content = m.content; text = t; outer = m.outer }

byte-built : (m : Built) (b : ℕ) → stays_text true b ≡ true → build_one m (text_event b) ≡ add_text m (b ∷ [])
byte-built m b h = search rules

pub texts-built : (runs : List PairedRun) (pairs : List Pair) (text : List ℕ) (m : Built) → list_all (stays_text true) text ≡ true → build m (events_of runs pairs (texts text)) ≡ add_text m text
unfolding build events_of
texts-built runs pairs [] m h = sym (text-none m)
texts-built runs pairs (b ∷ bs) m h =
    let parts = and_parts (stays_text true b) (list_all (stays_text true) bs) h in
    ap (λ k. build k (events_of runs pairs (texts bs))) (byte-built m b parts.0) ∙ texts-built runs pairs bs (add_text m (b ∷ [])) parts.1 ∙ text-more m (b ∷ []) bs

-- ends and starts of pairs

pub end-built : (m new whole : Built) (emphasis : Emphasis) (events more : List Event) → new ≡ closed m (made_of (tag_in emphasis) (ended m)) → events ≡ End (tag_in emphasis) ∷ more → build m events ≡ whole → build new more ≡ whole
unfolding build
end-built m new whole emphasis events more e f h = ap (λ k. build k more) e ∙ sym (ap (build m) f) ∙ h

pub start-built : (m new whole : Built) (emphasis : Emphasis) (events more : List Event) → new ≡ opened m → events ≡ Start (tag_in emphasis) ∷ more → build m events ≡ whole → build new more ≡ whole
unfolding build
start-built m new whole emphasis events more e f h = ap (λ k. build k more) e ∙ sym (ap (build m) f) ∙ h

pub none-built : (m whole : Built) (events : List Event) → events ≡ [] → build m events ≡ whole → m ≡ whole
unfolding build
none-built m whole events e h = sym (ap (build m) e) ∙ h

-- what is left of a run
pub left-next : (m new whole : Built) (b left counter : ℕ) (text : List ℕ) → counter < left → new ≡ add_text m text → text ≡ b ∷ [] → add_text m (replicate (left - counter) b) ≡ whole → add_text new (replicate (left - (counter + 1)) b) ≡ whole
left-next m new whole b left counter text below e is h =
    let next : left - counter ≡ suc (left - (counter + 1)) = omega (arith, below) in
    ap (λ k. add_text k (replicate (left - (counter + 1)) b)) (e ∙ ap (add_text m) is) ∙ text-more m (b ∷ []) (replicate (left - (counter + 1)) b) ∙ ap (λ n. add_text m (replicate n b)) (sym next) ∙ h

pub run-built : (pairs first second : List made.Pair) (number : ℕ) (r : held.Run) (m ended left new : Built) → first ≡ pairs → second ≡ pairs → ended ≡ build m (ends_between (pairs_in first) r.from r.to)
    → left ≡ add_text ended (replicate r.run.left (byte_of r.run.marker)) → new ≡ build left (starts (pairs_in second) r.opened) → new ≡ build m (run_events (pairs_in pairs) number (paired_run r))
unfolding build
run-built pairs first second number r m ended left new same again ends rest opened = search (rules, build-append)
