-- The library of the built-in cells.
use Rattle.std.proofs.Common.{◌≡◌, List, ap}
use Rattle.cell_types.specs.declared.libraries.Cell.{Cell}
use Rattle.cell_types.specs.declared.libraries.Library.{Library}
use Rattle.cell_types.specs.Builtin.{builtin_cells}
use Rattle.sdcv_top.specs.Texts.{builtin_library}

-- a library with the built-in cells is the built-in library
pub builtin_is : (library : Library) → library.cells ≡ builtin_cells → library ≡ builtin_library
unfolding builtin_library
builtin_is library table =
    let of : List Cell → Library = λ cells. record { cells = cells } in ap of table
