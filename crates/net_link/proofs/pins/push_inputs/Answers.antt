use Rattle.std.proofs.Common.{ℕ, List, [], ◌∷◌, ◌++◌, ap, ◌∙◌, arith}
use Rattle.linked_types.specs.declared.names.PinName.{PinName}
use Rattle.linked_types.specs.declared.names.PinRole.TheVariants as role
use Rattle.net_model.specs.declared.claims.PinRef.{PinRef}
use Rattle.link_defs.specs.CellNames.{input_roles}
use Rattle.link_items.proofs.Listing.{drop_next, drop_past}
use Rattle.net_link.specs.Numbers.{number_in}
use Rattle.net_link.proofs.Listed.{left_next, left_none}
use Rattle.net_link.proofs.pins.push_inputs.Goals as goal

pub loop-place-preserved : goal.loop-place-preserved
loop-place-preserved c =
    let n = c.args.n.now in
    let roles = λ (k : ℕ) (xs : List (List ℕ)). input_roles (number_in n.numbers.now n.nets) n.sources c.args.reg c.args.part.now k xs in
    let build = λ (name : List ℕ) (pins : List PinRef). let r : PinName = record { name = name; role = role.Load pins } in r in
    let made = c.in_ok-push.ensures.ok
    ∙ ap (λ (x : List ℕ). c.loop-place.list ++ build x c.in_ok-pins.pins ∷ []) c.in_ok-name.ensures
    ∙ ap (λ (x : List PinRef). c.loop-place.list ++ build c.item.result.now x ∷ []) c.in_ok-pins.ensures in
    left_next _ _ _ _ _ (c.loop-place.invariant ∙ ap (λ (xs : List (List ℕ)). c.loop-place.list ++ roles c.loop-place.place xs)
    (drop_next c.args.names.now c.loop-place.place c.item.result.now c.item.ensures)) made

pub returns : goal.returns
returns c =
    let n = c.args.n.now in
    left_none _ _ _ c.loop-place.invariant
    (ap (λ (xs : List (List ℕ)). input_roles (number_in n.numbers.now n.nets) n.sources c.args.reg c.args.part.now c.loop-place.place xs)
    (drop_past c.args.names.now c.loop-place.place (omega arith)))
