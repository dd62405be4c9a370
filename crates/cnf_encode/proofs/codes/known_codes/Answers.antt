use Rattle.cnf_encode.proofs.Tabled.{AreCodes-more}
use Rattle.cnf_encode.proofs.codes.known_codes.Goals as goal

pub loop-l-preserved : goal.loop-l-preserved
loop-l-preserved c =
    AreCodes-more c.args.frames.now c.args.lits.now c.loop-l.l-index _ c.loop-l.codes.items c.push.new.self.items c.known_code.result c.loop-l-test.true
    c.loop-l.invariant c.known_code.ensures c.in_ok-push.ensures.ok
