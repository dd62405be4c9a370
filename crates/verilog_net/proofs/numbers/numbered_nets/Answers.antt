use Rattle.std.proofs.Common.{◌∙◌, sym}
use Rattle.std.proofs.lemmas.List.{map_more}
use Rattle.verilog_net.specs.Uses.{number_in}
use Rattle.verilog_net.proofs.numbers.numbered_nets.Goals as goal

pub loop-net-preserved : goal.loop-net-preserved
loop-net-preserved c =
    c.in_ok-push.ensures.ok ∙ rw (c.loop-net.invariant, c.number.ensures)
    (sym (map_more (number_in c.args.used.now) c.args.nets.now c.loop-net.net-index 0 c.loop-net-test.true))
