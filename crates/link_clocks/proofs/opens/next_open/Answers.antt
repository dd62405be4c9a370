use Rattle.std.proofs.Common.{◌≡◌, ℕ, true, List, All, subst}
use Rattle.sdcv_base.specs.Seqs.{is_marked}
use Rattle.link_clocks.specs.Marks.{AreClosed}
use Rattle.link_clocks.proofs.Marking.{closed_all, none_weaker}
use Rattle.link_clocks.proofs.opens.next_open.Goals as goal

pub returns-in-None-clause-none : goal.returns-in-None-clause-none
returns-in-None-clause-none c =
    let m = c.args.marks.now in
    let parts = c.args.circuit.now.parts in
    let clocks = subst (λ (ns : List ℕ). All (λ (net : ℕ). is_marked m.even net ≡ true) ns) c.as_slice.ensures c.in_default.ensures.none in
    let after = subst (λ (n : ℕ). AreClosed m parts c.args.from n) c.len.ensures c.in-None.ensures.none in
    none_weaker c.open_in-in-None.result (λ before. closed_all c.args.circuit.now m c.args.from clocks after before) c.open_in-in-None.ensures.none
