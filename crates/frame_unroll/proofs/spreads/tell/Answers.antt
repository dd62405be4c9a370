use Rattle.std.proofs.Common.{◌<◌, ◌≤◌, ℕ, List, get_or, length, subst, sym}
use Rattle.std.proofs.lemmas.Option.{slice_get-get_or}
use Rattle.std.proofs.lemmas.List.Elements.{Contains-get_or}
use Rattle.net_model.specs.Fits.{IsPinIn}
use Rattle.net_model.specs.declared.claims.PinRef.{PinRef}
use Rattle.net_model.specs.declared.claims.PinRef.TheVariants.{Net}
use Rattle.net_paths.specs.Readers.{readers_at}
use Rattle.std.specs.Prelude.{Contains}
use Rattle.frame_unroll.specs.Moves.{Lists, PinMoves, NetMoves}
use Rattle.frame_unroll.proofs.Listed.{lists_more, lists_all, lists_as}
use Rattle.frame_unroll.proofs.Spreading.{leads_in}
use Rattle.frame_unroll.proofs.spreads.tell.Goals as goal

pub pass-requires-clause-pin : goal.pass-requires-clause-pin
pass-requires-clause-pin c =
    let row : List PinRef = readers_at c.args.readers.now.rows.items c.args.net in
    let low : c.loop-pin.pin-index < length row = subst (λ (l : List PinRef). c.loop-pin.pin-index < length l) c.of_net-pin-items.ensures
    c.loop-pin-test.true in
    let pin : PinRef = get_or row c.loop-pin.pin-index (Net 0) in
    subst (λ (l : List PinRef). IsPinIn c.args.design.now (get_or l c.loop-pin.pin-index (Net 0))) (sym c.of_net-pin-items.ensures)
    (leads_in c.args.design.now c.args.net pin
    (c.requires.readers.reads c.args.net pin (Contains-get_or row c.loop-pin.pin-index (Net 0) low)))

pub loop-pin-preserved : goal.loop-pin-preserved
loop-pin-preserved c =
    let row : List PinRef = readers_at c.args.readers.now.rows.items c.args.net in
    let i : ℕ = c.loop-pin.pin-index in
    let low : i < length row = subst (λ (l : List PinRef). i < length l) c.of_net-pin-items.ensures c.loop-pin-test.true in
    lists_more row (PinMoves c.args.design.now c.args.sets.now c.args.layer) i (get_or row i (Net 0)) c.args.found.now.keys c.loop-pin.found.keys
    c.pass.new.found.keys (slice_get-get_or row i (Net 0) low) c.loop-pin.invariant
    (subst (λ (l : List PinRef). Lists (PinMoves c.args.design.now c.args.sets.now c.args.layer (get_or l i (Net 0))) c.loop-pin.found.keys
    c.pass.new.found.keys) c.of_net-pin-items.ensures c.in_ok-pass.ensures)

pub returns : goal.returns
returns c =
    let d = c.args.design.now in
    let row : List PinRef = readers_at c.args.readers.now.rows.items c.args.net in
    let moves = PinMoves d c.args.sets.now c.args.layer in
    lists_as (λ n. (pin : PinRef) × Contains row pin × moves pin n) (NetMoves d c.args.sets.now c.args.layer c.args.net) c.args.found.now.keys
    c.loop-pin.found.keys
    (λ n (pin, has, is). (pin, c.requires.readers.reads c.args.net pin has, is))
    (λ n (pin, leads, is). (pin, c.requires.readers.all c.args.net pin leads tt, is))
    (lists_all row moves c.loop-pin.pin-index c.args.found.now.keys c.loop-pin.found.keys
    (let past = subst (λ (l : List PinRef). length l ≤ c.loop-pin.pin-index) c.of_net-pin-items.ensures c.loop-pin-test.false in past)
    c.loop-pin.invariant)
