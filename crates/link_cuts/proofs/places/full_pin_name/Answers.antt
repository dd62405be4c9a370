use Rattle.std.proofs.Common.{◌≡◌, ℕ, List, ◌++◌, ◌∷◌}
use Rattle.std.proofs.lemmas.Result.{IfOk-weaker}
use Rattle.link_defs.specs.Cuts.{pin_name}
use Rattle.link_cuts.specs.Cutting.{pin_at}
use Rattle.link_cuts.proofs.Placed.{name_read}
use Rattle.link_cuts.proofs.places.full_pin_name.Goals as goal

pub returns : goal.returns
returns c =
    IfOk-weaker c.pin_name.result (λ (name : List ℕ). name ≡ c.item-cell.result.now.name ++ 47 ∷ c.pin_at.result.now.name)
    (λ (name : List ℕ). name ≡ pin_name (pin_at c.args.cells.now c.args.at))
    (λ name is. name_read c.args.cells.now c.args.at c.item-cell.result.now c.pin_at.result.now name c.item-cell.ensures c.pin_at.ensures is)
    c.pin_name.ensures
