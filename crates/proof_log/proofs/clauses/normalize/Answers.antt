use Rattle.std.proofs.Common.{arith}
use Rattle.proof_log.proofs.Normalizing.{normal_from, none_from}
use Rattle.proof_log.proofs.clauses.normalize.Goals as goal

pub returns : goal.returns
returns c =
    let n = normal_from c.args.lits.now.items c.deref_mut.result.now c.put_in_order.new.lits _ _ c.truncate-2.new.self.items c.args.start c.in-Some.count
    c.args.lits.now.len c.deref_mut.ensures.value c.requires (omega (arith, c.args.lits.now.ok.0)) c.put_in_order.auto.lits c.in-Some.ensures
    c.truncate-2.ensures.items in
    record { normal = n.0; short = n.1 }

pub returns-in_default : goal.returns-in_default
returns-in_default c =
    let n = none_from c.args.lits.now.items c.deref_mut.result.now c.put_in_order.new.lits _ _ c.truncate.new.self.items c.args.start
    c.args.lits.now.len c.deref_mut.ensures.value c.requires (omega (arith, c.args.lits.now.ok.0)) c.in_default.ensures c.truncate.ensures.items in
    record { normal = n.0; short = n.1 }
