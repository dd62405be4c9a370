use Rattle.std.proofs.Common.{arith, ◌≡◌, ◌<◌, ℕ, [], Some, get_or}
use Rattle.std.proofs.lemmas.List.FromFn.{get_or-map-range_with_len}
use Rattle.verilog_scope.specs.Ranges.{width}
use Rattle.verilog_scope.specs.Scopes as spec
use Rattle.verilog_scope.proofs.bits.bit_name.Goals as goal

pub returns-in-Some : goal.returns-in-Some
returns-in-Some c =
    let name = c.args.name.now in
    let bits = c.in-Some.bits in
    let i = c.args.bit in
    let low : i < width (Some bits) = rw c.in-Some.is at c.requires in
    let same : get_or (spec.bit_names name (Some bits)) i [] ≡ spec.bit_name name (spec.index_at bits i) =
    get_or-map-range_with_len (λ (k : ℕ). spec.bit_name name (spec.index_at bits k)) 0 (width (Some bits)) i i [] low (omega arith) in
    rw (c.in-Some.is, same) (rw c.index_at.ensures at c.indexed_name.ensures)
