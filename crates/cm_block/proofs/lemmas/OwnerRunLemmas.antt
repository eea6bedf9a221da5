-- Runs of owners that get longer.
use Rattle.std.proofs.Common.{◌≡◌, ℕ, ◌+◌, ◌-◌, ◌≤◌, List, [], ◌∷◌, ◌++◌, replicate, refl, sym, ap, ◌∙◌, append_assoc, append-nil, arith}
use Rattle.std.proofs.lemmas.List.{replicate-append-replicate}
use Rattle.cm_tree.specs.declared.tree.Owner.{Owner}
use Rattle.cm_tree.specs.declared.tree.Owner.TheVariants as owner
use Rattle.cm_block.specs.declared.owner_runs.OwnerRun.{OwnerRun}
use Rattle.cm_block.specs.declared.owner_runs.RunOwner.{RunOwner}
use Rattle.cm_block.specs.declared.owner_runs.RunOwner.TheVariants.{Blank, Marker, NextLeaf, SameLeaf}
use Rattle.cm_block.specs.OwnerRuns.{leaves_with, leaves_in, owner_of, owners_of, owners_of_run, owners_in}

-- the leaves with one run more
pub next_leaves : (leaves : ℕ) (closed : List OwnerRun) (last : OwnerRun)
    → leaves_in leaves (closed ++ last ∷ []) ≡ leaves_with (leaves_in leaves closed) last.owner
next_leaves leaves [] last = refl
next_leaves leaves (run ∷ runs) last = next_leaves (leaves_with leaves run.owner) runs last

-- the owners with one run more
pub next_owners : (leaves : ℕ) (closed : List OwnerRun) (last : OwnerRun)
    → owners_of leaves (closed ++ last ∷ []) ≡ owners_of leaves closed ++ owners_of_run (leaves_in leaves closed) last
next_owners leaves [] last = append-nil (owners_of_run leaves last)
next_owners leaves (run ∷ runs) last =
    ap (λ xs. owners_of_run leaves run ++ xs) (next_owners (leaves_with leaves run.owner) runs last)
    ∙ sym (append_assoc (owners_of_run leaves run) (owners_of (leaves_with leaves run.owner) runs)
    (owners_of_run (leaves_in (leaves_with leaves run.owner) runs) last))

-- a run without blank lines after it
pub run_alone : (leaves : ℕ) (run : OwnerRun) → run.blanks ≡ 0 → owners_of_run leaves run ≡ replicate run.lines (owner_of (leaves_with leaves run.owner) run.owner)
run_alone leaves run none =
    let lines = replicate run.lines (owner_of (leaves_with leaves run.owner) run.owner) in
    ap (λ n. lines ++ replicate n owner.Blank) none ∙ append-nil lines

-- the last run, which has no blank lines after it, longer by the given number of lines
pub longer_run : (closed : List OwnerRun) (last : OwnerRun) (times : ℕ) (owner : Owner) → last.blanks ≡ 0
    → ((leaves : ℕ) → owner_of leaves last.owner ≡ owner)
    → owners_in closed (record last { lines = last.lines + times }) ≡ owners_in closed last ++ replicate times owner
longer_run closed last times owner none e =
    let before = leaves_in 0 closed in
    let same = owner_of (leaves_with before last.owner) last.owner in
    ap (λ xs. owners_of 0 closed ++ xs) (run_alone before (record last { lines = last.lines + times }) none ∙ sym (replicate-append-replicate last.lines times same))
    ∙ sym (append_assoc (owners_of 0 closed) (replicate last.lines same) (replicate times same))
    ∙ ap (λ xs. (owners_of 0 closed ++ xs) ++ replicate times same) (sym (run_alone before last none))
    ∙ ap (λ o. owners_in closed last ++ replicate times o) (e (leaves_with before last.owner))

-- the last run with more blank lines after it
pub more_blanks : (closed : List OwnerRun) (last : OwnerRun) (times : ℕ)
    → owners_in closed (record last { blanks = last.blanks + times }) ≡ owners_in closed last ++ replicate times owner.Blank
more_blanks closed last times =
    let before = owners_of 0 closed in
    let lines = replicate last.lines (owner_of (leaves_with (leaves_in 0 closed) last.owner) last.owner) in
    ap (λ xs. before ++ (lines ++ xs)) (sym (replicate-append-replicate last.blanks times owner.Blank))
    ∙ ap (λ xs. before ++ xs) (sym (append_assoc lines (replicate last.blanks owner.Blank) (replicate times owner.Blank)))
    ∙ sym (append_assoc before (lines ++ replicate last.blanks owner.Blank) (replicate times owner.Blank))

-- one run more
pub next_run : (closed : List OwnerRun) (last next : OwnerRun) (leaves : ℕ) → leaves ≡ leaves_with (leaves_in 0 closed) last.owner
    → owners_in (closed ++ last ∷ []) next ≡ owners_in closed last ++ owners_of_run leaves next
next_run closed last next leaves e =
    ap (λ n. owners_of 0 (closed ++ last ∷ []) ++ owners_of_run n next) (next_leaves 0 closed last ∙ sym e)
    ∙ ap (λ xs. xs ++ owners_of_run leaves next) (next_owners 0 closed last)

-- as many more leaves as are counted
pub leaves_begun : (closed : List OwnerRun) (last next : OwnerRun) (leaves : ℕ) → leaves ≡ leaves_with (leaves_in 0 closed) last.owner
    → leaves_with leaves next.owner ≡ leaves_with (leaves_in 0 (closed ++ last ∷ [])) next.owner
leaves_begun closed last next leaves e = ap (λ n. leaves_with n next.owner) (e ∙ sym (next_leaves 0 closed last))

-- and at most one
pub at_most_one : (leaves : ℕ) (owner : RunOwner) → leaves_with leaves owner ≤ leaves + 1
at_most_one leaves Blank = omega arith
at_most_one leaves Marker = omega arith
at_most_one leaves NextLeaf = omega arith
at_most_one leaves SameLeaf = omega arith

-- a part of the lines, and the rest
pub in_parts : (owners : List Owner) (owner : Owner) (part left : ℕ) → part ≤ left
    → (owners ++ replicate part owner) ++ replicate (left - part) owner ≡ owners ++ replicate left owner
in_parts owners owner part left within =
    append_assoc owners (replicate part owner) (replicate (left - part) owner)
    ∙ ap (λ xs. owners ++ xs) (replicate-append-replicate part (left - part) owner)
    ∙ ap (λ n. owners ++ replicate n owner) (omega (arith, within))
