-- The delimiter runs of a source: they are few, and reading on from a place gives those that follow.
use Rattle.std.proofs.Common.{◌≡◌, ℕ, zero, suc, ◌+◌, ◌-◌, ◌≤◌, true, List, [], ◌∷◌, ◌++◌, length, reverse, refl, sym, ap, ◌∙◌, arith, append_assoc, length-append}
use Rattle.std.specs.List.{list_all}
use Rattle.std.proofs.lemmas.Bool.{and_parts}
use Rattle.std.proofs.lemmas.List.{reverse-append}
use Rattle.std.proofs.lemmas.List.Sums.{sum_by-append}
use Rattle.cm_text.specs.Rules.{Rules}
use Rattle.cm_scan.specs.inlines.Delimiters.{Run}
use Rattle.cm_scan.specs.inlines.Pairing.{Item, Characters}
use Rattle.cm_scan.specs.inlines.Pieces.{one_by_one, in_pieces}
use Rattle.cm_scan.specs.inlines.Atoms.{AtomRead, atom_at}
use Rattle.cm_scan.specs.inlines.Brackets.{Defined, Bracketed}
use Rattle.cm_scan.specs.laws.InlineLaws.{is_plain_byte, keeps_spaces}
use Rattle.cm_scan.specs.inlines.Inlines.{add_atom, item_step}
use Rattle.cm_scan.specs.inlines.DelimiterRuns.{run_in, runs_after, runs_of, characters_of, RunsAreFew}
use Rattle.cm_scan.proofs.lemmas.inlines.ReadingSteps.{plain-atom, further-keeps}
use Rattle.cm_scan.proofs.lemmas.inlines.ReadingInPieces.{back-is, step-same}
use Rattle.cm_scan.proofs.lemmas.inlines.PairingInPieces.{back}
use Rattle.cm_scan.proofs.lemmas.inlines.LeftByEachStep.{atom-left, step-left}

-- no run is empty, and all have their room in a part of the source
record Few (runs : List Run) (room : ℕ) : Type 0 where
  pub some : length runs ≤ characters_of runs
  pub within : characters_of runs ≤ room

both-few : (front others : List Run) (n m room : ℕ) → Few front n → Few others m → n + m ≤ room → Few (front ++ others) room
both-few front others n m room h k e =
    let size : length (front ++ others) ≡ length front + length others = length-append front others in
    let characters : characters_of (front ++ others) ≡ characters_of front + characters_of others = sum_by-append (λ (run : Run). run.whole) front others in
    record { some = omega (arith, size, characters, h.some, k.some); within = omega (arith, characters, h.within, k.within, e) }

more-room : (runs : List Run) (n m : ℕ) → n ≤ m → Few runs n → Few runs m
more-room runs n m e h = record { some = h.some; within = omega (arith, h.within, e) }

few-after : (rules : Rules) (defined : Defined) (n : ℕ) (before source : List ℕ) (items : List Item) → Few (runs_after rules defined n before source items) (length source - n)
unfolding runs_after
few-after rules defined n before [] items = record { some = omega arith; within = omega arith }
few-after rules defined (suc n) before (b ∷ bs) items =
    more-room (runs_after rules defined n (b ∷ before) bs items) (length bs - n) (suc (length bs) - suc n) (omega arith) (few-after rules defined n (b ∷ before) bs items)
few-after rules defined zero before (b ∷ bs) items =
    let a = atom_at rules before b bs in
    let next = item_step rules defined before b bs items in
    let atom = atom-left rules before b bs in
    let step = step-left rules defined before b bs items in
    let own : characters_of (run_in a.atom) + length a.rest ≤ suc (length bs) = atom.few in
    let less : length a.rest ≡ length step.front + length next.rest = ap length step.is ∙ length-append step.front next.rest in
    let fewer : length bs ≡ length atom.end.front + length a.rest = ap length atom.end.is ∙ length-append atom.end.front a.rest in
    both-few (run_in a.atom) (runs_after rules defined (length bs - length next.rest) (b ∷ before) bs next.items)
    (characters_of (run_in a.atom)) (length bs - (length bs - length next.rest)) (suc (length bs) - 0)
    (record { some = atom.some; within = omega arith })
    (few-after rules defined (length bs - length next.rest) (b ∷ before) bs next.items)
    (omega (arith, own, less, fewer))

pub runs_are_few : RunsAreFew
unfolding runs_of
runs_are_few rules defined source = let few = few-after rules defined zero [] source [] in (few.some, omega (arith, few.within))

-- bytes that belong to what was read last are skipped
passed-over : (rules : Rules) (defined : Defined) (before taken rest : List ℕ) (items : List Item)
    → runs_after rules defined (length taken) before (taken ++ rest) items ≡ runs_after rules defined zero (reverse taken ++ before) rest items
unfolding runs_after
passed-over rules defined before [] rest items = refl
passed-over rules defined before (b ∷ bs) rest items =
    passed-over rules defined (b ∷ before) bs rest items
    ∙ ap (λ passed. runs_after rules defined zero passed rest items)
    (sym (append_assoc (reverse bs) (b ∷ []) before) ∙ ap (λ passed. passed ++ before) (sym (reverse-append (b ∷ []) bs)))

-- the runs from a place on are that of one step, if it reads one, and those after it
pub runs-go-on : (rules : Rules) (defined : Defined) (before : List ℕ) (b : ℕ) (taken rest : List ℕ) (items : List Item) → (item_step rules defined before b (taken ++ rest) items).rest ≡ rest
    → runs_after rules defined zero before (b ∷ (taken ++ rest)) items
    ≡ run_in (atom_at rules before b (taken ++ rest)).atom ++ runs_after rules defined zero (reverse taken ++ b ∷ before) rest (item_step rules defined before b (taken ++ rest) items).items
unfolding runs_after
runs-go-on rules defined before b taken rest items left =
    let step = item_step rules defined before b (taken ++ rest) items in
    let count : length (taken ++ rest) - length step.rest ≡ length taken = omega (arith, length-append taken rest, ap length left) in
    ap (λ runs. run_in (atom_at rules before b (taken ++ rest)).atom ++ runs)
    (ap (λ n. runs_after rules defined n (b ∷ before) (taken ++ rest) step.items) count ∙ passed-over rules defined (b ∷ before) taken rest step.items)

-- text without markup holds no run
pub runs-beyond-text : (rules : Rules) (defined : Defined) (before text rest : List ℕ) (items : List Item) → list_all is_plain_byte text ≡ true → keeps_spaces rest text ≡ true
    → runs_after rules defined zero before (text ++ rest) items ≡ runs_after rules defined zero (reverse text ++ before) rest (reverse (one_by_one text) ++ items)
unfolding runs_after item_step add_atom
runs-beyond-text rules defined before [] rest items plain parts = refl
runs-beyond-text rules defined before (b ∷ bs) rest items plain parts =
    ap (λ (a : AtomRead). run_in a.atom ++ by (add_atom rules defined items a.atom a.rest)) (plain-atom rules before b bs rest plain parts)
    ∙ ap (λ n. runs_after rules defined n (b ∷ before) (bs ++ rest) (Characters (b ∷ []) ∷ items)) nothing
    ∙ runs-beyond-text rules defined (b ∷ before) bs rest (Characters (b ∷ []) ∷ items) (and_parts (is_plain_byte b) (list_all is_plain_byte bs) plain).1 (further-keeps b bs rest parts)
    ∙ ap (λ passed. runs_after rules defined zero passed rest (reverse (one_by_one bs) ++ Characters (b ∷ []) ∷ items)) (sym (append_assoc (reverse bs) (b ∷ []) before) ∙ ap (λ t. t ++ before) (sym (reverse-append (b ∷ []) bs)))
    ∙ ap (runs_after rules defined zero (reverse (b ∷ bs) ++ before) rest) (sym (append_assoc (reverse (one_by_one bs)) (Characters (b ∷ []) ∷ []) items)
    ∙ ap (λ all. all ++ items) (sym (reverse-append (Characters (b ∷ []) ∷ []) (one_by_one bs))))
  where
    by : Bracketed → List Run
    by next = runs_after rules defined (length (bs ++ rest) - length next.rest) (b ∷ before) (bs ++ rest) next.items

    nothing : length (bs ++ rest) - length (bs ++ rest) ≡ 0
    nothing = omega arith

-- items that are the same in pieces are followed by the same runs
runs-same : (rules : Rules) (defined : Defined) (n : ℕ) (before source : List ℕ) (items others : List Item) → back items ≡ back others → runs_after rules defined n before source items ≡ runs_after rules defined n before source others
unfolding runs_after
runs-same rules defined n before [] items others e = refl
runs-same rules defined (suc n) before (b ∷ bs) items others e = runs-same rules defined n (b ∷ before) bs items others e
runs-same rules defined zero before (b ∷ bs) items others e =
    let one = item_step rules defined before b bs items in
    let other = item_step rules defined before b bs others in
    let alike = step-same rules defined before b bs items others e in
    ap (λ runs. run_in (atom_at rules before b bs).atom ++ runs)
    (ap (λ left. runs_after rules defined (length bs - length left) (b ∷ before) bs one.items) alike.rest
    ∙ runs-same rules defined (length bs - length other.rest) (b ∷ before) bs one.items other.items alike.items)

pub runs-in-pieces : (rules : Rules) (defined : Defined) (n : ℕ) (before source : List ℕ) (items others : List Item) → in_pieces (reverse items) ≡ in_pieces (reverse others)
    → runs_after rules defined n before source items ≡ runs_after rules defined n before source others
runs-in-pieces rules defined n before source items others same = runs-same rules defined n before source items others (back-is items ∙ ap reverse same ∙ sym (back-is others))
