use Rattle.decision_heap.proofs.Heaping.{IsTaken-from}
use Rattle.decision_heap.proofs.heaps.Heap.pop.Goals as goal

pub returns : goal.returns
returns c =
    IsTaken-from c.args.self.now c.exchange.new.self c.take_last-var.new.self c.down.new.self c.take_last-var.result
    c.exchange.ensures c.take_last-var.ensures.some c.take_last-var.ensures.within c.take_last-var.ensures.vars c.take_last-var.ensures.last
    c.take_last-var.ensures.out c.down.ensures
