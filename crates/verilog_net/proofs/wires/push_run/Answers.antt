use Rattle.std.proofs.Common.{◌∙◌, ◌++◌, ◌∷◌, ◌+◌, [], ℕ, map, refl, ap, sym, append_assoc}
use Rattle.std.proofs.lemmas.List.FromFn.{map-range_with_len_more}
use Rattle.std.specs.List.{range_with_len}
use Rattle.netlist_types.specs.declared.sources.Wire.TheVariants as wire
use Rattle.verilog_net.proofs.wires.push_run.Goals as goal

pub loop-i-preserved : goal.loop-i-preserved
loop-i-preserved c =
    let f = (λ (n : ℕ). wire.Net n) in
    let a = c.args.run.now.first in
    let i = c.loop-i.i in
    c.in_ok-push.ensures.ok ∙ rw c.loop-i.invariant (append_assoc c.args.found.now (map f (range_with_len a i)) (f (a + i) ∷ [])
    ∙ ap (λ ys. c.args.found.now ++ ys) (sym (map-range_with_len_more f a i (a + i) refl)))
