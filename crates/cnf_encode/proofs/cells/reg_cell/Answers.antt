use Rattle.std.proofs.Common.{◌≤◌, ℕ, subst, sym}
use Rattle.net_model.specs.Form.{IsOver}
use Rattle.frame_unroll.proofs.Captured.{capture_few, capture_over}
use Rattle.cnf_encode.proofs.cells.reg_cell.Goals as goal

pub place-requires-clause-few : goal.place-requires-clause-few
place-requires-clause-few c = subst (λ (n : ℕ). n ≤ 7) (sym c.capture_places.ensures) (capture_few c.args.reg.now c.requires.few)

pub place-requires-clause-over : goal.place-requires-clause-over
place-requires-clause-over c =
    subst (λ (n : ℕ). IsOver n c.in_ok-func.func) (sym c.capture_places.ensures)
    (capture_over c.args.reg.now c.in_ok-func.func c.requires.over c.in_ok-func.ensures.places c.in_ok-func.ensures.over)
