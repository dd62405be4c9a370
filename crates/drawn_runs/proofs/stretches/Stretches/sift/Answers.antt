use Rattle.std.proofs.Common.{ℕ, ◌<◌, List, subst, sym}
use Rattle.net_model.specs.LaneBits.{lane, lane_row}
use Rattle.net_model.specs.declared.lane_words.Lanes.{Lanes}
use Rattle.drawn_runs.specs.Stretches.{holds_where, HasStretchTo, IsThinnedOnce}
use Rattle.drawn_runs.proofs.Stretching.{fails_next, thinned_by}
use Rattle.drawn_runs.proofs.stretches.Stretches.sift.Goals as goal

pub returns-clause-sifted : goal.returns-clause-sifted
returns-clause-sifted c =
    λ t at.
    let d = c.args.design.now in
    let set = c.args.clauses in
    let before = c.args.self.now in
    let settled = c.settle.new.self in
    let ran : (i : ℕ) → i < 64 → HasStretchTo d set (lane settled.met i) t (lane_row i settled.bits) =
    λ i lt.
    subst (λ (w : Lanes). HasStretchTo d set (lane w i) t (lane_row i settled.bits)) (sym c.settle.ensures.met)
    (subst (λ (bits : List Lanes). HasStretchTo d set (lane before.met i) t (lane_row i bits)) (sym c.settle.ensures.bits) (at.ran i lt)) in
    subst (IsThinnedOnce d t set) (sym c.sift_where.ensures)
    (thinned_by d t (holds_where settled.met settled.bits) set
    (λ clause none. fails_next d set t settled.bits settled.ins settled.nets settled.met clause ran c.settle.ensures.cycles none))
