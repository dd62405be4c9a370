use Rattle.std.proofs.Common.{◌≡◌, ap, sym, ◌∙◌}
use Rattle.proof_log.specs.Clauses.{is_set}
use Rattle.proof_log.proofs.Members.{is_set_first, is_set_later}
use Rattle.sat_solver.specs.Watches.{watched}
use Rattle.sat_solver.proofs.Watching.{put_again}
use Rattle.sat_solver.proofs.propagation.put_back.Goals as goal

pub loop-watch-preserved : goal.loop-watch-preserved
loop-watch-preserved c =
    let k = c.in-Some.ensures in
    let n = c.in-Some.watch in
    let w = c.loop-watch.watches in
    let i = c.loop-watch.invariant in
    let at : watched w.literals n ≡ c.index.result =
    ap (λ xs. watched xs n) i.literals ∙ (i.waits n (ap (λ xs. is_set xs n) k.3 ∙ is_set_first n c.take.new.self.waiting) ∙ sym c.index.ensures.value) in
    let p = put_again w c.take.new.self c.attach.new.self n c.index.result at k.0 k.4 c.attach.ensures in
    record {
      limit = p.1 ∙ i.limit;
      literals = p.0 ∙ i.literals;
      waits = λ m h. i.waits m (ap (λ xs. is_set xs m) k.3 ∙ is_set_later n c.take.new.self.waiting m (ap (λ xs. is_set xs m) (sym p.2) ∙ h));
    }
