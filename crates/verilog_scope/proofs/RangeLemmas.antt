-- A selection lies within its name.
use Rattle.std.proofs.Common.{arith, ◌≡◌, ℕ, ◌+◌, ◌-◌, ◌≤◌, Bool, true, false, ◌&&◌, ◌||◌, if◌then◌else◌, nat_le, Option, Some, None, refl}
use Rattle.std.proofs.Common.{◌∙◌, subst, inl, inr}
use Rattle.std.proofs.lemmas.Bool.{leb-true, le-leb, lt-leb, cases_lt, and_parts}
use Rattle.verilog_syntax.specs.declared.declarations.Range.{Range}
use Rattle.verilog_syntax.specs.declared.declarations.Select.{Select}
use Rattle.verilog_syntax.specs.declared.declarations.Select.TheVariants.{All, Bit, Slice}
use Rattle.verilog_scope.specs.declared.ranges.Run.{Run}
use Rattle.verilog_scope.specs.Ranges.{distance, width, in_order, is_within, part_of, selected}

up : (a b : ℕ) → a ≤ b → distance a b ≡ b - a
up a b order = rw (le-leb a b order) refl

down : (a b : ℕ) → b ≤ a → distance a b ≡ a - b
down a b order = elim (cases_lt b a) [
  | inl less ↦ rw (lt-leb a b less) refl
  | inr same ↦ up a b same ∙ omega arith
]

ordered : (a b c d : ℕ) → in_order a b c d ≡ true → (a ≤ b) × ((b ≤ c) × (c ≤ d))
ordered a b c d e =
    let (first, rest) = and_parts (nat_le a b) (nat_le b c && nat_le c d) e in
    let (second, third) = and_parts (nat_le b c) (nat_le c d) rest in
    (leb-true a b first, (leb-true b c second, leb-true c d third))

-- four numbers in order: the two in the middle are no further apart than the outer two
rising : (a b c d : ℕ) → in_order a b c d ≡ true → distance a b + (distance b c + 1) ≤ distance a d + 1
rising a b c d e =
    let (first, (second, third)) = ordered a b c d e in
    rw (up a b first, up b c second, up a d (omega arith)) (omega arith)

falling : (a b c d : ℕ) → in_order a b c d ≡ true → distance d c + (distance c b + 1) ≤ distance d a + 1
falling a b c d e =
    let (first, (second, third)) = ordered a b c d e in
    rw (down d c third, down c b second, down d a (omega arith)) (omega arith)

either : (r : Range) (i j : ℕ) (a b : Bool) → in_order r.msb i j r.lsb ≡ a → in_order r.lsb j i r.msb ≡ b → (a || b) ≡ true
    → distance r.msb i + (distance i j + 1) ≤ distance r.msb r.lsb + 1
either r i j true b rises falls e = rising r.msb i j r.lsb rises
either r i j false true rises falls e = falling r.lsb j i r.msb falls
either r i j false false rises falls e = absurd cc

part_cases : (r : Range) (i j : ℕ) (b : Bool) (run : Run) → is_within r i j ≡ b
    → (if b then Some (record { first = distance r.msb i; count = distance i j + 1 }) else None) ≡ Some run
    → run.first + run.count ≤ distance r.msb r.lsb + 1
part_cases r i j true run within e =
    let made : Run = record { first = distance r.msb i; count = distance i j + 1 } in
    let same : made ≡ run = cc in
    subst (λ (run : Run). run.first + run.count ≤ distance r.msb r.lsb + 1) same
    (either r i j (in_order r.msb i j r.lsb) (in_order r.lsb j i r.msb) refl refl within)
part_cases r i j false run within e = absurd cc

part_within : (r : Range) (i j : ℕ) (run : Run) → part_of r i j ≡ Some run → run.first + run.count ≤ distance r.msb r.lsb + 1
part_within r i j run e = part_cases r i j (is_within r i j) run refl e

-- the bits that are selected are bits of the name
pub selected_within : (range : Option Range) (select : Select) (run : Run) → selected range select ≡ Some run → run.first + run.count ≤ width range
unfolding selected
selected_within range All run e =
    let made : Run = record { first = 0; count = width range } in
    let same : made ≡ run = cc in
    subst (λ (run : Run). run.first + run.count ≤ width range) same (omega arith)
selected_within None (Bit i) run e = absurd cc
selected_within None (Slice i j) run e = absurd cc
selected_within (Some r) (Bit i) run e = part_within r i i run e
selected_within (Some r) (Slice i j) run e = part_within r i j run e
