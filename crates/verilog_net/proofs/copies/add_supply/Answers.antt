use Rattle.std.proofs.Common.{◌∙◌, ◌++◌, ◌∷◌, ◌+◌, [], ℕ, map, refl, ap, sym, append_assoc}
use Rattle.std.proofs.lemmas.List.FromFn.{map-range_with_len_more}
use Rattle.std.specs.List.{range_with_len}
use Rattle.netlist_types.specs.declared.sources.Wire.TheVariants as wire
use Rattle.netlist_types.specs.declared.sources.Item.TheVariants as item
use Rattle.verilog_net.proofs.copies.add_supply.Goals as goal

pub loop-i-preserved : goal.loop-i-preserved
loop-i-preserved c =
    let f = (λ (to : ℕ). item.Copy to (wire.Const c.args.bit)) in
    let a = c.bits-run.result.first in
    let i = c.loop-i.i in
    c.in_ok-push.ensures.ok ∙ rw c.loop-i.invariant (append_assoc c.args.items.now (map f (range_with_len a i)) (f (a + i) ∷ [])
    ∙ ap (λ ys. c.args.items.now ++ ys) (sym (map-range_with_len_more f a i (a + i) refl)))
