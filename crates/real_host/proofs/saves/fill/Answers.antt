use Rattle.real_host.proofs.PieceLemmas.{Writes-whole}
use Rattle.real_host.proofs.saves.fill.Goals as goal

pub returns : goal.returns
returns g c = Writes-whole _ _ _ _ c.in_ok-write_piece.ensures
