-- Ranges of buses, and selections of their bits.
use Rattle.std.specs.Prelude.{ℕ, Bool, true, false, ◌+◌, ◌-◌, ◌==◌, ◌&&◌, ◌||◌, nat_le, if◌then◌else◌, Option, Some, None}
use Rattle.verilog_syntax.specs.declared.declarations.Range.{Range}
use Rattle.verilog_syntax.specs.declared.declarations.Select.{Select}
use Rattle.verilog_syntax.specs.declared.declarations.Select.TheVariants.{All, Bit, Slice}
use Rattle.verilog_scope.specs.declared.ranges.Run.{Run}

-- how far two numbers are apart
abbrev pub distance : ℕ → ℕ → ℕ
distance a b = if nat_le a b then b - a else a - b

-- how many bits a name has
abbrev pub width : Option Range → ℕ
width None = 1
width (Some r) = distance r.msb r.lsb + 1

abbrev pub same_range : Option Range → Option Range → Bool
same_range None None = true
same_range None (Some b) = false
same_range (Some a) None = false
same_range (Some a) (Some b) = a.msb == b.msb && a.lsb == b.lsb

-- four numbers none of which is above the next
abbrev pub in_order : ℕ → ℕ → ℕ → ℕ → Bool
in_order a b c d = nat_le a b && (nat_le b c && nat_le c d)

-- from i to j lies within the range and goes its way
abbrev pub is_within : Range → ℕ → ℕ → Bool
is_within r i j = in_order r.msb i j r.lsb || in_order r.lsb j i r.msb

-- which bits of the range are those from i to j, counted from the most significant
abbrev pub part_of : Range → ℕ → ℕ → Option Run
part_of r i j = if is_within r i j then Some (record { first = distance r.msb i; count = distance i j + 1 }) else None

-- which bits of a name a selection takes; a name without a range has no bits to select
unfoldable pub selected : Option Range → Select → Option Run
selected range All = Some (record { first = 0; count = width range })
selected None (Bit i) = None
selected None (Slice i j) = None
selected (Some r) (Bit i) = part_of r i i
selected (Some r) (Slice i j) = part_of r i j
