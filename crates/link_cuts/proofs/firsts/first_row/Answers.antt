use Rattle.std.proofs.Common.{◌≡◌, ℕ, List, length, get_or, subst, sym, ◌∙◌}
use Rattle.link_cuts.proofs.Firsting.{first_put, first_left}
use Rattle.link_cuts.proofs.firsts.first_row.Goals as goal
use Rattle.link_cuts.proofs.firsts.first_row.Goals.{then-is_at, else-is_at}

pub loop-place-preserved : goal.loop-place-preserved
loop-place-preserved c =
    let list = c.args.list.now in
    let row = c.loop-place.row in
    let y = c.at-net.result in
    let none : c.len-none.result ≡ length list = c.len-none.ensures in
    elim c.if-is_at.branch [
      | then-is_at w ↦
          let (within, is) = c.is_at.ensures.0 w.if-is_at.true in
          rw (w.row-is, w.put.ensures) (first_put c.args.nets list c.loop-place.place y row c.at-net.ensures within
          (subst (λ (n : ℕ). get_or row y n ≡ n) none is) c.loop-place.invariant)
      | else-is_at w ↦
          rw w.row-is (first_left c.args.nets list c.loop-place.place y row c.at-net.ensures (λ there.
          let hit = c.is_at.ensures.1 (there.0, subst (λ (n : ℕ). get_or row y n ≡ n) (sym none) there.1) in
          let e = sym hit ∙ w.if-is_at.false in cc) c.loop-place.invariant)
    ]
