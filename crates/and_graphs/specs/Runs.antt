-- What a graph with latches does, step by step (AIGER 1.9).
use Rattle.std.specs.Prelude.{ℕ, zero, suc, Bool, false, if◌then◌else◌, List, [], ◌∷◌, ◌++◌, map}
use Rattle.and_graphs.specs.Graphs.{literal_bit, all_bits}
use Rattle.and_graphs.specs.declared.aigs.Latch.{Latch}
use Rattle.and_graphs.specs.declared.aigs.Aig.{Aig}

-- at the first step a latch whose first bit is any has the next of the given bits, and any other is 0
unfoldable pub first_bits : List Latch → List Bool → List Bool
first_bits [] any = []
first_bits (x ∷ xs) [] = false ∷ first_bits xs []
first_bits (x ∷ xs) (b ∷ any) = if x.is_any then b ∷ first_bits xs any else false ∷ first_bits xs (b ∷ any)

-- the bit of a literal where inputs and latches have these bits
abbrev pub step_bit : Aig → List Bool → List Bool → ℕ → Bool
step_bit a ins latches l = literal_bit (all_bits a.lines (ins ++ latches)) l

-- the bits of the latches at a step, given those of the inputs at each: at each next step a latch has the bit that its next
-- literal had
unfoldable pub latches_at : Aig → List Bool → (ℕ → List Bool) → ℕ → List Bool
latches_at a any ins zero = first_bits a.latches any
latches_at a any ins (suc t) = map (λ (x : Latch). step_bit a (ins t) (latches_at a any ins t) x.next) a.latches

-- the bad literal at a step
abbrev pub bad_at : Aig → List Bool → (ℕ → List Bool) → ℕ → Bool
bad_at a any ins t = step_bit a (ins t) (latches_at a any ins t) a.bad
