-- A piece that is taken in slice by slice.
use Rattle.std.proofs.Common.{◌≡◌, ◌<◌, ℕ, List, [], ◌∷◌, ◌++◌, refl, sym, ap, subst, ◌∙◌, append_assoc, append-nil, Some}
use Rattle.std.specs.Prelude.{Result, Ok, Err, OnOk}
use Rattle.std.proofs.lemmas.List.Elements.{All-append, All-tail}
use Rattle.cm_text.specs.Limits.{LimitsView}
use Rattle.cm_text.specs.Feed.{Feed}
use Rattle.cm_text.specs.Settled.{AreBytes}
use Rattle.cm_block.specs.declared.parser.BlockParser.{BlockParser}
use Rattle.cm_tool.specs.declared.fault.Fault.{Fault}
use Rattle.cm_tool.specs.declared.fault.Fault.TheVariants.{NotUtf8, TooLong, BlocksTooDeep, InlinesTooDeep, NoMemory, ReadFailed, WriteFailed, Unspellable, BadExampleFile, ExampleDiffers}
use Rattle.cm_tool.specs.Faults.{fault_of, settled_fault_of}
use Rattle.cm_tool.specs.Parsing.{Goes, TellsFault, Answers}
use Rattle.cm_tool.specs.steps.Pushing.{Pushes}
use Rattle.cm_tool.proofs.lemmas.SettledLemmas.{settled_is_told}

-- what comes before the rest of the piece has been taken in
abbrev pub PushedSoFar : Feed → BlockParser → (piece rest : List ℕ) → Feed → BlockParser → Type 0
PushedSoFar feed blocks piece rest later now =
    (done : List ℕ) × ((piece ≡ done ++ rest) × ((limits : LimitsView) (bytes : List ℕ) → Goes limits feed blocks bytes → Goes limits later now (bytes ++ done)))

pub none_pushed : (feed : Feed) (blocks : BlockParser) (piece : List ℕ) → PushedSoFar feed blocks piece piece feed blocks
none_pushed feed blocks piece = ([], (refl, λ limits bytes g. subst (Goes limits feed blocks) (sym (append-nil bytes)) g))

-- one slice more
pub slice_pushed : (feed : Feed) (blocks : BlockParser) (piece rest front back : List ℕ) (later next : Feed) (now then_now : BlockParser)
    → PushedSoFar feed blocks piece rest later now → rest ≡ front ++ back
    → ((limits : LimitsView) (bytes : List ℕ) → Goes limits later now bytes → Goes limits next then_now (bytes ++ front))
    → PushedSoFar feed blocks piece back next then_now
slice_pushed feed blocks piece rest front back later next now then_now so_far slices more = (
  so_far.0 ++ front,
  (
    so_far.1.0 ∙ ap (λ t. so_far.0 ++ t) slices ∙ sym (append_assoc so_far.0 front back),
    λ limits bytes g. subst (Goes limits next then_now) (append_assoc bytes so_far.0 front) (more limits (bytes ++ so_far.0) (so_far.1.1 limits bytes g)),
  ),
)

-- the last slice
pub last_pushed : (answer : Result (Unit {0}) Fault) (feed : Feed) (blocks : BlockParser) (piece rest : List ℕ) (later next : Feed) (now then_now : BlockParser)
    → PushedSoFar feed blocks piece rest later now → Pushes answer rest later now next then_now → Pushes answer piece feed blocks next then_now
last_pushed answer feed blocks piece rest later next now then_now so_far pushed = record {
  goes = goes answer pushed.goes;
  settled = λ limits bytes g. subst (λ t. Answers answer (settled_fault_of limits t)) (whole bytes) (pushed.settled limits (bytes ++ so_far.0) (so_far.1.1 limits bytes g));
}
  where
    whole : (bytes : List ℕ) → (bytes ++ so_far.0) ++ rest ≡ bytes ++ piece
    whole bytes = append_assoc bytes so_far.0 rest ∙ ap (λ t. bytes ++ t) (sym so_far.1.0)

    goes : (answer : Result (Unit {0}) Fault)
        → OnOk answer ((limits : LimitsView) (bytes : List ℕ) → Goes limits later now bytes → Goes limits next then_now (bytes ++ rest))
        → OnOk answer ((limits : LimitsView) (bytes : List ℕ) → Goes limits feed blocks bytes → Goes limits next then_now (bytes ++ piece))
    goes (Ok x) more = λ limits bytes g. subst (Goes limits next then_now) (whole bytes) (more limits (bytes ++ so_far.0) (so_far.1.1 limits bytes g))
    goes (Err fault) more = tt

-- a fault that is settled stays so
settled_stays : (limits : LimitsView) (bytes more : List ℕ) (fault : Fault) → AreBytes more → settled_fault_of limits bytes ≡ Some fault
    → settled_fault_of limits (bytes ++ more) ≡ Some fault
settled_stays limits bytes more fault are is =
    let settles = (settled_is_told limits bytes fault).0 is in
    (settled_is_told limits (bytes ++ more) fault).1 (λ further are_further.
    ap (fault_of limits) (append_assoc bytes more further) ∙ settles (more ++ further) (All-append (λ b. b < 256) more further are are_further))

pub told_stays : (limits : LimitsView) (bytes more : List ℕ) (fault : Fault) → AreBytes more → TellsFault fault (settled_fault_of limits bytes)
    → TellsFault fault (settled_fault_of limits (bytes ++ more))
told_stays limits bytes more (NotUtf8 at) are h = settled_stays limits bytes more (NotUtf8 at) are h
told_stays limits bytes more (TooLong at) are h = settled_stays limits bytes more (TooLong at) are h
told_stays limits bytes more (BlocksTooDeep line) are h = settled_stays limits bytes more (BlocksTooDeep line) are h
told_stays limits bytes more (InlinesTooDeep leaf) are h = settled_stays limits bytes more (InlinesTooDeep leaf) are h
told_stays limits bytes more NoMemory are h = tt
told_stays limits bytes more ReadFailed are h = absurd h
told_stays limits bytes more (WriteFailed written) are h = absurd h
told_stays limits bytes more (Unspellable why) are h = absurd h
told_stays limits bytes more (BadExampleFile line) are h = absurd h
told_stays limits bytes more (ExampleDiffers number) are h = absurd h

bytes_after : (front back : List ℕ) → AreBytes (front ++ back) → AreBytes back
bytes_after [] back are = are
bytes_after (x ∷ xs) back are = bytes_after xs back (All-tail (λ b. b < 256) x (xs ++ back) are)

-- a slice has a fault: so has the piece
pub slice_told : (feed : Feed) (blocks : BlockParser) (piece rest front back : List ℕ) (later : Feed) (now : BlockParser) (fault : Fault)
    → PushedSoFar feed blocks piece rest later now → rest ≡ front ++ back → AreBytes piece
    → ((limits : LimitsView) (bytes : List ℕ) → Goes limits later now bytes → TellsFault fault (settled_fault_of limits (bytes ++ front)))
    → (limits : LimitsView) (bytes : List ℕ) → Goes limits feed blocks bytes → TellsFault fault (settled_fault_of limits (bytes ++ piece))
slice_told feed blocks piece rest front back later now fault so_far slices are told limits bytes g =
    let first = told limits (bytes ++ so_far.0) (so_far.1.1 limits bytes g) in
    let inside : piece ≡ (so_far.0 ++ front) ++ back = so_far.1.0 ∙ ap (λ t. so_far.0 ++ t) slices ∙ sym (append_assoc so_far.0 front back) in
    let are_back : AreBytes back = bytes_after (so_far.0 ++ front) back (subst AreBytes inside are) in
    let whole : (((bytes ++ so_far.0) ++ front) ++ back) ≡ bytes ++ piece =
    append_assoc (bytes ++ so_far.0) front back ∙ append_assoc bytes so_far.0 (front ++ back)
    ∙ ap (λ t. bytes ++ t) (ap (λ t. so_far.0 ++ t) (sym slices) ∙ sym so_far.1.0) in
    subst (λ t. TellsFault fault (settled_fault_of limits t)) whole (told_stays limits ((bytes ++ so_far.0) ++ front) back fault are_back first)
