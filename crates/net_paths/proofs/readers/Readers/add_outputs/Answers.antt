use Rattle.std.proofs.Common.{◌≡◌, ◌<◌, ℕ, List, length, ap, sym, subst, get_or}
use Rattle.net_paths.proofs.Readings.{port_added}
use Rattle.net_paths.proofs.readers.Readers.add_outputs.Goals as goal

pub loop-o-preserved : goal.loop-o-preserved
loop-o-preserved c =
    let items = c.as_slice-net-items.ensures in
    let o : ℕ = c.loop-o.o in
    let low : o < length c.args.design.now.outputs = subst (λ (l : List ℕ). o < length l) items c.loop-o-test.true in
    let from : get_or c.args.design.now.outputs o 0 ≡ get_or c.as_slice-net-items.result.now o 0 = ap (λ (l : List ℕ). get_or l o 0) (sym items) in
    port_added c.args.design.now o (get_or c.as_slice-net-items.result.now o 0) c.loop-o.self.rows.items c.add.new.self.rows.items low from
    (subst (λ n. n < c.args.design.now.nets) from (c.requires.sound.in_range.outputs o 0 low)) c.loop-o.invariant c.in_ok-add.ensures
