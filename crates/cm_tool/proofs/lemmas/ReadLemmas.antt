-- A reading, piece by piece.
use Rattle.std.proofs.Common.{◌≡◌, ℕ, ◌+◌, List, [], ◌++◌, take, refl, sym, ap, subst, ◌∙◌, append_assoc, append-nil, Some, None, inl, inr}
use Rattle.std.specs.Prelude.{Option, Result, Ok, Err, IfOk, IfErr}
use Rattle.std.specs.Io.KnownBytes.{Consumes, Keeps, IsAtEnd}
use Rattle.cm_text.specs.DeviceViews.{SourceView}
use Rattle.cm_text.specs.Limits.{LimitsView}
use Rattle.cm_tree.specs.declared.tree.Doc.{Doc}
use Rattle.cm_tool.specs.declared.fault.Fault.{Fault}
use Rattle.cm_tool.specs.declared.fault.Fault.TheVariants.{NotUtf8, TooLong, BlocksTooDeep, InlinesTooDeep, NoMemory, ReadFailed, WriteFailed, Unspellable, BadExampleFile, ExampleDiffers}
use Rattle.cm_tool.specs.Faults.{fault_of, settled_fault_of}
use Rattle.cm_block.specs.declared.parser.Outline.{Outline}
use Rattle.cm_tool.specs.Parsing.{ParserView, HasTakenIn, TellsFault, Finishes}
use Rattle.cm_tool.specs.Reading.{HasFailed, RefusesBy, Refuses, Reads, ReadWhole}
use Rattle.cm_tool.specs.steps.ReadingSteps.{IsOutline, ReadsOutline}

-- these bytes have been read so far, and no read has failed
pub record SoFar (source now : SourceView) (read : List ℕ) : Type 0 where
  pub failed : now.failed ≡ source.failed
  pub next : Consumes source.remaining now.remaining read

consumes-nil : (known : Option (List ℕ)) → Consumes known known []
consumes-nil None = tt
consumes-nil (Some xs) = refl

consumes-append : (a b c : Option (List ℕ)) (xs ys : List ℕ) → Consumes a b xs → Consumes b c ys → Consumes a c (xs ++ ys)
consumes-append None b c xs ys h k = tt
consumes-append (Some p) None c xs ys h k = absurd h
consumes-append (Some p) (Some q) None xs ys h k = absurd k
consumes-append (Some p) (Some q) (Some r) xs ys h k = h ∙ ap (λ t. xs ++ t) k ∙ sym (append_assoc xs ys r)

consumes-keeps : (a b : Option (List ℕ)) → Keeps a b → Consumes a b []
consumes-keeps None b h = tt
consumes-keeps (Some p) None h = absurd h
consumes-keeps (Some p) (Some q) h = sym h

pub nothing_read : (source : SourceView) → SoFar source source []
nothing_read source = record { failed = refl; next = consumes-nil source.remaining }

-- one piece more
pub more_so_far : (source now later : SourceView) (read piece : List ℕ) → SoFar source now read → later.failed ≡ now.failed
    → Consumes now.remaining later.remaining piece → SoFar source later (read ++ piece)
more_so_far source now later read piece so_far failed next = record {
  failed = failed ∙ so_far.failed;
  next = consumes-append source.remaining now.remaining later.remaining read piece so_far.next next;
}

-- what was read is all, and has a fault
pub end_told : (settled whole : Option Fault) (fault : Fault) (source later : SourceView) → later.failed ≡ source.failed → IsAtEnd later.remaining
    → settled ≡ None → TellsFault fault whole → RefusesBy settled whole fault source later
end_told settled whole (NotUtf8 at) source later same at_end sound h = record { same = same; told = inr (sound, at_end, h) }
end_told settled whole (TooLong at) source later same at_end sound h = record { same = same; told = inr (sound, at_end, h) }
end_told settled whole (BlocksTooDeep line) source later same at_end sound h = record { same = same; told = inr (sound, at_end, h) }
end_told settled whole (InlinesTooDeep leaf) source later same at_end sound h = record { same = same; told = inr (sound, at_end, h) }
end_told settled whole NoMemory source later same at_end sound h = same
end_told settled whole ReadFailed source later same at_end sound h = absurd h
end_told settled whole (WriteFailed written) source later same at_end sound h = absurd h
end_told settled whole (Unspellable why) source later same at_end sound h = absurd h
end_told settled whole (BadExampleFile line) source later same at_end sound h = absurd h
end_told settled whole (ExampleDiffers number) source later same at_end sound h = absurd h

-- a parser that has been given all the bytes returns their outline
pub outline_read : (limits : LimitsView) (source later : SourceView) (read : List ℕ) (parser : ParserView)
    → (later.failed ≡ source.failed) × IsAtEnd later.remaining × HasTakenIn limits parser read × (settled_fault_of limits read ≡ None) → (r : Result Outline Fault)
    → IfOk r (λ outline. (limits : LimitsView) (bytes : List ℕ) → HasTakenIn limits parser bytes → IsOutline limits bytes outline)
    → IfErr r (λ fault. (limits : LimitsView) (bytes : List ℕ) → HasTakenIn limits parser bytes → TellsFault fault (fault_of limits bytes))
    → ReadsOutline r limits read source later
outline_read limits source later read parser taken (Ok outline) made told = (taken.0, taken.1, made limits read taken.2)
outline_read limits source later read parser taken (Err fault) made told =
    end_told (settled_fault_of limits read) (fault_of limits read) fault source later taken.0 taken.1 taken.3 (told limits read taken.2)

-- The outline of all the bytes is there.
module _ (limits : LimitsView) (outline : Outline) (source later : SourceView) (read : List ℕ) (whole : ReadsOutline (Ok outline) limits read source later) where
  -- what is made of it, or why it isn't
  pub refused_at_end : (fault : Fault) → TellsFault fault (fault_of limits read) → Refuses fault limits read source later
  refused_at_end fault told = end_told (settled_fault_of limits read) (fault_of limits read) fault source later whole.0 whole.1 whole.2.sound told

  pub read_whole : fault_of limits read ≡ None → ReadWhole limits read source later
  read_whole sound = record { same = whole.0; at_end = whole.1; sound = sound }

  -- their document
  pub doc_read : (r : Result Doc Fault) → Finishes r limits read → Reads r limits read source later
  doc_read (Ok doc) h = (read_whole h.0, h.1)
  doc_read (Err fault) h = refused_at_end fault h

-- what was read settles a fault
pub fault_told : (settled whole : Option Fault) (fault : Fault) (source now later : SourceView) (read : List ℕ) → SoFar source now read
    → later.failed ≡ now.failed → TellsFault fault settled → RefusesBy settled whole fault source later
fault_told settled whole fault source now later read so_far failed told = by_fault fault told
  where
    same : later.failed ≡ source.failed
    same = failed ∙ so_far.failed

    by_fault : (fault : Fault) → TellsFault fault settled → RefusesBy settled whole fault source later
    by_fault (NotUtf8 at) h = record { same = same; told = inl h }
    by_fault (TooLong at) h = record { same = same; told = inl h }
    by_fault (BlocksTooDeep line) h = record { same = same; told = inl h }
    by_fault (InlinesTooDeep leaf) h = record { same = same; told = inl h }
    by_fault NoMemory h = same
    by_fault ReadFailed h = absurd h
    by_fault (WriteFailed written) h = absurd h
    by_fault (Unspellable why) h = absurd h
    by_fault (BadExampleFile line) h = absurd h
    by_fault (ExampleDiffers number) h = absurd h

-- the bytes of one more read
pub more_read : (source now : SourceView) (later : Option (List ℕ)) (read piece : List ℕ) → SoFar source now read
    → Consumes now.remaining later piece → Consumes source.remaining later (read ++ piece)
more_read source now later read piece so_far consumed =
    consumes-append source.remaining now.remaining later read piece so_far.next consumed

-- the bytes of a read that gave none
pub last_read : (source now : SourceView) (later : Option (List ℕ)) (read buffer : List ℕ) (n : ℕ) → SoFar source now read
    → n ≡ 0 → Consumes now.remaining later (take n buffer) → Consumes source.remaining later read
last_read source now later read buffer n so_far none consumed =
    let P : ℕ → Type 0 = λ k. Consumes now.remaining later (take k buffer) in
    let Q : List ℕ → Type 0 = λ t. Consumes source.remaining later t in
    subst Q (append-nil read) (more_read source now later read [] so_far (subst P none consumed))

-- a read that failed gave no bytes
pub nothing_more : (source now : SourceView) (later : Option (List ℕ)) (read : List ℕ) → SoFar source now read → Keeps now.remaining later
    → Consumes source.remaining later read
nothing_more source now later read so_far keeps =
    let Q : List ℕ → Type 0 = λ t. Consumes source.remaining later t in
    subst Q (append-nil read) (more_read source now later read [] so_far (consumes-keeps now.remaining later keeps))

pub failed_so_far : (settled : Option Fault) (source now later : SourceView) (read : List ℕ) → SoFar source now read → later.failed ≡ now.failed + 1
    → settled ≡ None → HasFailed settled source later
failed_so_far settled source now later read so_far failed sound = record { failed = failed ∙ ap (λ n. n + 1) so_far.failed; sound = sound }
