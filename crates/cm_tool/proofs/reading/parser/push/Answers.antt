use Rattle.std.proofs.Common.{◌≡◌, ◌<◌, ◌+◌, ◌++◌, ℕ, List, refl, arith, length, length-append, get_or, Fits, w8, take-append-drop, sym, ap, ap₂, ◌∙◌}
use Rattle.std.specs.List.{IsSplitAt}
use Rattle.std.proofs.lemmas.List.Elements.{All-from_get_or}
use Rattle.std.proofs.lemmas.Result.{err_from_is_err_and}
use Rattle.cm_text.specs.Settled.{AreBytes}
use Rattle.cm_tool.proofs.lemmas.SliceLemmas.{none_pushed, slice_pushed, last_pushed, slice_told}
use Rattle.cm_tool.proofs.reading.parser.push.Goals as goal

pub loop-slice-init : goal.loop-slice-init
loop-slice-init c =
    record { going = c.requires; limit = refl; count = refl; so_far = none_pushed c.args.feed.now c.args.blocks.now c.args.piece.now }

are_bytes : (piece : List ℕ) → ((k : ℕ) → Fits w8 (get_or piece k 0)) → AreBytes piece
are_bytes piece fits = All-from_get_or (λ b. b < 256) piece 0 (λ k within. (fits k).fits)

-- what the piece was cut into
cut : (rest slice beyond : List ℕ) → IsSplitAt rest 8192 slice beyond → rest ≡ slice ++ beyond
cut rest slice beyond is = sym (take-append-drop 8192 rest) ∙ ap₂ (λ x y. x ++ y) (sym is.1) (sym is.2)

pub returns-in_err-push_slice-clause-pushes : goal.returns-in_err-push_slice-clause-pushes
returns-in_err-push_slice-clause-pushes c =
    let p = err_from_is_err_and c.from_residual.result c.from_residual.ensures.1 in
    rw (p.1, p.2) (record {
      goes = tt;
      settled = slice_told c.args.feed.now c.args.blocks.now c.args.piece.now c.loop-slice.rest.now c.in-Some.slice.now c.in-Some.beyond.now c.loop-slice.feed c.loop-slice.blocks
          c.in_err-push_slice.field-0.0 c.loop-slice.invariant.so_far (cut c.loop-slice.rest.now c.in-Some.slice.now c.in-Some.beyond.now c.in-Some.ensures.cases)
          (are_bytes c.args.piece.now c.type_inv.piece) c.in_err-push_slice.ensures.pushes.settled;
    })

pub loop-slice-preserved : goal.loop-slice-preserved
loop-slice-preserved c =
    let i = c.loop-slice.invariant in
    let slices = cut c.loop-slice.rest.now c.in-Some.slice.now c.in-Some.beyond.now c.in-Some.ensures.cases in
    let total : length c.loop-slice.rest.now ≡ length c.in-Some.slice.now + length c.in-Some.beyond.now = ap length slices ∙ length-append c.in-Some.slice.now c.in-Some.beyond.now in
    let counts = c.in_ok-push_slice.ensures.counts in
    record {
      going = counts.going;
      limit = counts.limit ∙ i.limit;
      count = omega (arith, total, counts.counted, i.count);
      so_far = slice_pushed c.args.feed.now c.args.blocks.now c.args.piece.now c.loop-slice.rest.now c.in-Some.slice.now c.in-Some.beyond.now c.loop-slice.feed c.push_slice.new.feed
          c.loop-slice.blocks c.push_slice.new.blocks i.so_far slices c.in_ok-push_slice.ensures.pushes.goes;
    }

pub returns-clause-pushes : goal.returns-clause-pushes
returns-clause-pushes c = last_pushed c.push_slice-2.result c.args.feed.now c.args.blocks.now c.args.piece.now c.loop-slice.rest.now c.loop-slice.feed c.push_slice-2.new.feed
    c.loop-slice.blocks c.push_slice-2.new.blocks c.loop-slice.invariant.so_far c.push_slice-2.ensures.pushes
