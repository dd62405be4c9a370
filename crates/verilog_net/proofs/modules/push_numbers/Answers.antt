use Rattle.std.proofs.Common.{◌∙◌, ◌++◌, ◌∷◌, ◌+◌, [], ap, sym, append_assoc}
use Rattle.verilog_net.proofs.RunLemmas.{range_more}
use Rattle.std.specs.List.{range_with_len}
use Rattle.verilog_net.proofs.modules.push_numbers.Goals as goal

pub loop-i-preserved : goal.loop-i-preserved
loop-i-preserved c =
    let a = c.args.run.now.first in
    let i = c.loop-i.i in
    c.in_ok-push.ensures.ok ∙ rw c.loop-i.invariant (append_assoc c.args.found.now (range_with_len a i) ((a + i) ∷ [])
    ∙ ap (λ ys. c.args.found.now ++ ys) (sym (range_more a i)))
