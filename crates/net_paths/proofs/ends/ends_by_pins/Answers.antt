use Rattle.std.proofs.Common.{ℕ, List, get_or, subst}
use Rattle.std.specs.Prelude.{Result, Ok, Err, IfOk, Contains}
use Rattle.std.proofs.lemmas.List.Elements.{Contains-get_or}
use Rattle.std.proofs.lemmas.Option.{slice_get_within}
use Rattle.net_paths.proofs.Aiming.{stand_once}
use Rattle.net_paths.proofs.Arriving.{end_of_arrival, ends_found}
use Rattle.net_paths.proofs.ends.ends_by_pins.Goals as goal

if_ok : {T E : Type 0} (r : Result T E) {P Q : T → Type 0} → IfOk r P → ((x : T) → P x → Q x) → IfOk r Q
if_ok (Ok x) p f = f x p
if_ok (Err e) p f = p

pub taken-requires-clause-once : goal.taken-requires-clause-once
taken-requires-clause-once c = stand_once c.args.reach.now.launch.now.design.now c.args.ends.now c.args.places.now c.requires.places

pub taken-requires-clause-within : goal.taken-requires-clause-within
taken-requires-clause-within c = λ k d low.
    let listed : List ℕ = c.as_slice.result.now in
    let place : ℕ = get_or listed k d in
    let has : Contains c.in_order-found.result.items place = subst (λ (l : List ℕ). Contains l place) c.as_slice.ensures.value
    (Contains-get_or listed k d low) in
    let (net, arrives) = c.in_ok-arrivals.ensures.only place (c.in_order-found.ensures.only place has) in
    let (end_, at, meets) = end_of_arrival c.args.reach.now c.args.places.now c.args.ends.now net place c.requires.places arrives in
    slice_get_within c.args.ends.now place end_ at

pub returns : goal.returns
returns c =
    if_ok c.taken.result c.taken.ensures (λ found those. ends_found c.args.reach.now c.args.places.now c.args.ends.now
    c.in_ok-arrivals.field-0.items c.in_order-found.result.items c.as_slice.result.now found c.requires.reach c.requires.ends c.requires.places
    c.in_ok-arrivals.ensures c.in_order-found.ensures c.as_slice.ensures.value those)
