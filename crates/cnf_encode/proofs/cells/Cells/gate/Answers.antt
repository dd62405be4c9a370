use Rattle.std.proofs.Common.{◌≡◌, ◌<◌, length, subst}
use Rattle.std.proofs.lemmas.Option.{slice_get_within}
use Rattle.cnf_encode.proofs.cells.Cells.gate.Goals as goal

pub at-requires : goal.at-requires
at-requires c = slice_get_within c.args.self.now.gates c.args.k c.requires.0 c.requires.1

pub cell-requires : goal.cell-requires
cell-requires c =
    let same : c.requires.0 ≡ c.at.result = cc in
    subst (λ p. p < length c.args.self.now.list.cells) same c.requires.2

pub returns : goal.returns
returns c = (c.at.result, c.at.ensures, c.cell.ensures)
