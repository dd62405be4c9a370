use Rattle.std.proofs.Common.{sym, ◌∙◌}
use Rattle.sdcv_top.proofs.BuiltinLibrary.{builtin_is}
use Rattle.sdcv_top.proofs.Staging.{cells_builtin}
use Rattle.sdcv_top.proofs.readers.cells.Goals as goal

pub returns-then-eq-clause-found : goal.returns-then-eq-clause-found
returns-then-eq-clause-found g c =
    let cells = builtin_is c.in_ok-library.library c.in_ok-library.ensures.table in
    cells_builtin c.args.name.now _ _ c.in_ok-library.library (sym c.eq.ensures ∙ c.if-eq.true) cells
