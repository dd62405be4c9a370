use Rattle.std.proofs.Common.{◌≡◌, ◌<◌, ◌≤◌, ◌∙◌, ℕ, List, [], get_or, length, map, subst, sym}
use Rattle.std.proofs.lemmas.Option.{get_or_from_slice_get, slice_get-get_or}
use Rattle.net_model.specs.declared.claims.PinRef.{PinRef}
use Rattle.net_model.specs.declared.claims.PinRef.TheVariants.{Net}
use Rattle.frame_unroll.specs.Moves.{rows_of, Lists, SetMoves, IsTaken}
use Rattle.frame_unroll.proofs.Listed.{lists_more, lists_all, those_all}
use Rattle.frame_unroll.proofs.moved_nets.taken.Goals as goal

pub loop-pin-preserved : goal.loop-pin-preserved
loop-pin-preserved c =
    let d = c.args.design.now in
    let sets = c.args.sets.now in
    let row : List PinRef = get_or sets c.args.l [] in
    let i : ℕ = c.loop-pin.pin-index in
    let items : c.as_slice-pin-items.result.now ≡ row =
    c.as_slice-pin-items.ensures ∙ (c.pins.ensures ∙ sym (get_or_from_slice_get sets c.args.l c.item.result.now [] c.item.ensures)) in
    let low : i < length row = subst (λ (l : List PinRef). i < length l) items c.loop-pin-test.true in
    let moves : PinRef → ℕ → Type 0 = SetMoves d sets (rows_of d.nets (map (λ s. s.keys) c.args.layers.now)) c.args.l in
    lists_more row moves i (get_or row i (Net 0)) [] c.loop-pin.found.keys c.take.new.found.keys (slice_get-get_or row i (Net 0) low) c.loop-pin.invariant
    (subst (λ (l : List PinRef). Lists (moves (get_or l i (Net 0))) c.loop-pin.found.keys c.take.new.found.keys) items c.in_ok-take.ensures)

pub returns : goal.returns
returns c =
    let d = c.args.design.now in
    let sets = c.args.sets.now in
    let row : List PinRef = get_or sets c.args.l [] in
    let items : c.as_slice-pin-items.result.now ≡ row =
    c.as_slice-pin-items.ensures ∙ (c.pins.ensures ∙ sym (get_or_from_slice_get sets c.args.l c.item.result.now [] c.item.ensures)) in
    let rows = rows_of d.nets (map (λ s. s.keys) c.args.layers.now) in
    those_all (IsTaken d sets rows c.args.l) c.loop-pin.found.keys
    (lists_all row (SetMoves d sets rows c.args.l) c.loop-pin.pin-index [] c.loop-pin.found.keys
    (subst (λ (l : List PinRef). length l ≤ c.loop-pin.pin-index) items c.loop-pin-test.false) c.loop-pin.invariant)
