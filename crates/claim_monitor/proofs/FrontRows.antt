-- The bits of latches at the first step and at each next one.
use Rattle.std.proofs.Common.{◌≡◌, ℕ, suc, ◌+◌, ◌-◌, Bool, true, false, List, [], ◌∷◌, ◌++◌, map, length, replicate, refl, ap, sym, ◌∙◌, arith, inl, inr}
use Rattle.std.proofs.lemmas.Bool.{cases_lt}
use Rattle.std.proofs.lemmas.List.{length-map, length-append, length-replicate, get_or_append_left, get_or-append_right, get_or-replicate, get_or_past}
use Rattle.std.proofs.lemmas.Simd.{map-map}
use Rattle.net_model.specs.Cycles.{bit_at}
use Rattle.net_model.specs.Held.{free_below}
use Rattle.net_model.specs.declared.netlist.Design.{Design}
use Rattle.net_model.specs.declared.cycles.Cycle.{Cycle}
use Rattle.net_model.specs.declared.claims.Claim.{Claim}
use Rattle.and_graphs.specs.Graphs.{literal_bit, all_bits}
use Rattle.and_graphs.specs.Runs.{first_bits, latches_at}
use Rattle.and_graphs.specs.declared.graphs.AndLine.{AndLine}
use Rattle.and_graphs.specs.declared.graphs.AndGraph.{AndGraph}
use Rattle.and_graphs.specs.declared.aigs.Latch.{Latch}
use Rattle.and_graphs.specs.declared.aigs.Aig.{Aig}
use Rattle.claim_monitor.specs.Fronts.{sizes_of, latch_count, AreFreeBits}
use Rattle.claim_monitor.specs.Shown.{shown_row}
use Rattle.claim_monitor.specs.Tells.{IsFirstFront}
use Rattle.claim_monitor.proofs.InputLits.{free_low}

-- so many latches of which the first ones may begin with any bit
abbrev pub HaveFlags : List Latch → ℕ → ℕ → Type 0
HaveFlags xs m n = map (λ (x : Latch). x.is_any) xs ≡ replicate m true ++ replicate n false

flags_count : (xs : List Latch) (m n : ℕ) → HaveFlags xs m n → length xs ≡ m + n
flags_count xs m n flags =
    sym (length-map xs (λ (x : Latch). x.is_any))
    ∙ (ap length flags ∙ omega (arith, length-append (replicate m true) (replicate n false), length-replicate m true, length-replicate n false))

none_given : (xs : List Latch) → first_bits xs [] ≡ replicate (length xs) false
unfolding first_bits
none_given [] = refl
none_given (x ∷ xs) = ap (λ (bits : List Bool). false ∷ bits) (none_given xs)

-- the given bits are those of the first latches, and the others are 0
pub first_given : (xs : List Latch) (any : List Bool) (n : ℕ) → HaveFlags xs (length any) n → first_bits xs any ≡ any ++ replicate n false
unfolding first_bits
first_given xs [] n flags =
    let count : length xs ≡ n = omega (arith, flags_count xs 0 n flags) in none_given xs ∙ ap (λ (k : ℕ). replicate k false) count
first_given [] (b ∷ any) n flags = cc
first_given (x ∷ xs) (b ∷ any) n flags =
    let on : x.is_any ≡ true = cc in
    let rest : HaveFlags xs (length any) n = cc in
    rw on (ap (λ (bits : List Bool). b ∷ bits) (first_given xs any n rest))

zeros_at : (n k : ℕ) → bit_at (replicate n false) k ≡ false
zeros_at n k =
    elim (cases_lt k n) [
      | inl low ↦ get_or-replicate n k false false low
      | inr high ↦ get_or_past (replicate n false) k false (omega (arith, high, length-replicate n false))
    ]

-- the bits of free inputs stay, whatever comes after them
pub free_bits_before : (d : Design) (c : Cycle) (ins more : List Bool) → length ins ≡ free_below d (length d.inputs) → AreFreeBits d c ins
    → AreFreeBits d c (ins ++ more)
free_bits_before d c ins more count are =
    record {
      each = λ i low free.
          get_or_append_left ins more false (free_below d i) (omega (arith, count, free_low d i (length d.inputs) low free)) ∙ are.each i low free;
    }

-- the first front: inputs, the first bits of registers, and zeros
pub first_front : (d : Design) (claim : Claim) (c : Cycle) (ins any : List Bool) → length ins ≡ free_below d (length d.inputs)
    → length any ≡ length d.regs → any ≡ c.bits → AreFreeBits d c ins
    → IsFirstFront d (sizes_of d claim) c (ins ++ (any ++ replicate (latch_count (sizes_of d claim) - length d.regs) false))
first_front d claim c ins any count regs bits are =
    let n = latch_count (sizes_of d claim) - length d.regs in
    let zeros = replicate n false in
    let latches = any ++ zeros in
    let size : length latches ≡ length any + n = omega (arith, length-append any zeros, length-replicate n false) in
    record {
      count = omega (arith, length-append ins latches, size, count, regs);
      inputs = free_bits_before d c ins latches count are;
      regs = λ r low.
          get_or-append_right ins latches (free_below d (length d.inputs)) (free_below d (length d.inputs) + r) false count (omega arith)
          ∙ (ap (bit_at latches) (omega arith)
          ∙ (get_or_append_left any zeros false r (omega (arith, regs, low)) ∙ ap (λ (row : List Bool). bit_at row r) bits));
      rest = λ k high.
          get_or-append_right ins latches (free_below d (length d.inputs)) k false count (omega arith)
          ∙ (get_or-append_right any zeros (length d.regs) (k - free_below d (length d.inputs)) false regs (omega arith)
          ∙ zeros_at n (k - free_below d (length d.inputs) - length d.regs));
    }

-- a graph with latches has the lines of a graph, and these literals as the next ones of its latches
pub record IsOver (g : AndGraph) (nexts : List ℕ) (a : Aig) : Type 0 where
  pub next : map (λ (x : Latch). x.next) a.latches ≡ nexts
  pub lines : a.lines ≡ g.lines

-- at each next step latches have the bits that their next literals showed
pub latches_next : (g : AndGraph) (nexts : List ℕ) (a : Aig) (any : List Bool) (ins : ℕ → List Bool) (t : ℕ) → IsOver g nexts a
    → latches_at a any ins (suc t) ≡ shown_row g (ins t ++ latches_at a any ins t) nexts
unfolding latches_at
latches_next g nexts a any ins t is =
    let x = ins t ++ latches_at a any ins t in
    sym (map-map (literal_bit (all_bits a.lines x)) (λ (y : Latch). y.next) a.latches)
    ∙ (ap (map (literal_bit (all_bits a.lines x))) is.next
    ∙ ap (λ (lines : List AndLine). map (literal_bit (all_bits lines x)) nexts) is.lines)

pub latches_first : (a : Aig) (any : List Bool) (ins : ℕ → List Bool) → latches_at a any ins 0 ≡ first_bits a.latches any
unfolding latches_at
latches_first a any ins = refl
