-- What an and-inverter graph with latches does (AIGER 1.9), and how the latches of a monitor begin.
use Rattle.std.proofs.Common.{◌≡◌, ℕ, zero, suc, ◌+◌, ◌<◌, Bool, true, false, List, [], ◌∷◌, None, Some, refl, ap, subst, arith}
use Rattle.std.specs.Prelude.{codes, slice_get}
use Rattle.std.proofs.lemmas.List.Elements.{All-nil, All-cons}
use Rattle.std.specs.Fmt.{digits}
use Rattle.net_model.specs.Form.{PinForm}
use Rattle.sdcv_base.specs.declared.kinds.Kind.TheVariants.{False}
use Rattle.sdcv_base.specs.declared.kinds.Edge.TheVariants.{Any}
use Rattle.net_model.specs.Held.{free_below}
use Rattle.net_model.specs.Cycles.{bit_at, IsSettled, IsNext, IsRun}
use Rattle.net_model.specs.declared.cycles.Cycle.{Cycle}
use Rattle.net_model.specs.declared.netlist.Design.{Design}
use Rattle.net_model.specs.declared.netlist.Reg.{Reg}
use Rattle.net_model.specs.declared.claims.Claim.{Claim}
use Rattle.net_model.specs.declared.claims.Start.TheVariants.{Reg as RegStart}
use Rattle.net_model.specs.declared.claims.End.TheVariants.{Reg as RegEnd}
use Rattle.and_graphs.specs.declared.graphs.AndLine.{AndLine}
use Rattle.and_graphs.specs.declared.aigs.Latch.{Latch}
use Rattle.and_graphs.specs.declared.aigs.Aig.{Aig}
use Rattle.and_graphs.specs.Graphs.{literal_bit, bits_after, all_bits}
use Rattle.and_graphs.specs.Runs.{first_bits, latches_at, bad_at}
use Rattle.and_graphs.specs.Texts.{aiger_text, input_rows, rows_from}
use Rattle.claim_monitor.specs.Watches.{AreOfRun, Watches}
use Rattle.worked_values.specs.Designs.{looped}
use Rattle.worked_values.proofs.Cycles.{cycle, cycle_with_the_buffered_bit_is_settled}

-- a latch that takes this literal next, and begins with any bit or with 0
abbrev latch : ℕ → Bool → Latch
latch next is_any = record { next = next; is_any = is_any }

-- an odd literal is the complement of its variable
odd_literal_is_the_complement : literal_bit (false ∷ true ∷ []) 3 ≡ false
odd_literal_is_the_complement = refl

-- an even literal is its variable
even_literal_is_the_variable : literal_bit (false ∷ true ∷ []) 2 ≡ true
even_literal_is_the_variable = refl

-- the constants are the literals of variable 0
literal_0_is_0 : literal_bit (false ∷ true ∷ []) 0 ≡ false
literal_0_is_0 = refl

-- 1 is the complement of 0
literal_1_is_1 : literal_bit (false ∷ true ∷ []) 1 ≡ true
literal_1_is_1 = refl

-- a line is the conjunction of its literals
line_is_a_conjunction : all_bits ((record { left = 2; right = 5 }) ∷ []) (true ∷ false ∷ []) ≡ false ∷ true ∷ false ∷ true ∷ []
unfolding bits_after
line_is_a_conjunction = refl

-- a register begins with any bit, every other latch with 0
register_begins_with_any_bit : first_bits (latch 2 true ∷ latch 2 false ∷ latch 2 true ∷ []) (true ∷ true ∷ []) ≡ true ∷ false ∷ true ∷ []
unfolding first_bits
register_begins_with_any_bit = refl

-- one input, and a latch that takes it next, which is bad where it is 1
abbrev delayed : Aig
delayed = record { inputs = 1; latches = latch 2 false ∷ []; lines = []; bad = 4 }

-- the input is 1 at each step
abbrev ones : ℕ → List Bool
ones t = true ∷ []

-- so it is not bad at the first step, and at the next one it is
latch_tells_the_step_before : bad_at delayed [] ones 1 ≡ true
unfolding latches_at first_bits bits_after
latch_tells_the_step_before = refl

-- at the first step a latch is 0
latch_begins_with_0 : bad_at delayed [] ones 0 ≡ false
unfolding latches_at first_bits bits_after
latch_begins_with_0 = refl

-- its text: a line of counts, the input, the latch, the bad literal
text_has_counts_input_latch_and_bad_literal : aiger_text delayed ≡ codes "aag 2 1 1 0 0 1\n2\n4 2 0\n4\n"
unfolding input_rows rows_from digits
text_has_counts_input_latch_and_bad_literal = refl

-- a register that reads its own output
abbrev flop : Reg
flop = record { next = PinForm 0; clear = None; preset = None; both = false; ins = 0 ∷ []; outs = (record { net = 0; inverted = false }) ∷ [] }

-- that register alone, on net 0
abbrev pub design : Design
design = record { nets = 1; gates = []; regs = flop ∷ []; inputs = []; outputs = []; fixed = []; resets = []; reset_len = 0 }

-- the register is its own start and end
abbrev claim : Claim
claim = record { kind = False; edge = Any; lag = 0; hazard = false; early = false; start = RegStart 0; end = RegEnd 0; through = [] }

-- and so it is of the early side
abbrev pub early_claim : Claim
early_claim = record { kind = False; edge = Any; lag = 0; hazard = false; early = true; start = RegStart 0; end = RegEnd 0; through = [] }

-- no graph watches it whose register begins at 0
graph_whose_register_begins_at_0_watches_nothing : (rest : List Latch) (lines : List AndLine) (bad : ℕ)
    → ¬ Watches design claim (record { inputs = 0; latches = latch 2 false ∷ rest; lines = lines; bad = bad })
graph_whose_register_begins_at_0_watches_nothing rest lines bad watches = let e = watches.latches in cc

-- nor does one watch the early side of a false path that has no latch for the capture of the cycle before
graph_without_its_latch_watches_no_early_side : (lines : List AndLine) (bad : ℕ)
    → ¬ Watches design early_claim (record { inputs = 0; latches = latch 2 true ∷ latch 1 false ∷ latch 2 false ∷ []; lines = lines; bad = bad })
graph_without_its_latch_watches_no_early_side lines bad watches = let e = watches.latches in cc

-- in the worked design a register reads itself through a buffer: in two cycles it has its 1
abbrev two : List Cycle
two = cycle true ∷ cycle true ∷ []

cycle_of_two : (t : ℕ) (c : Cycle) → slice_get two t ≡ Some c → cycle true ≡ c
cycle_of_two zero c at = cc
cycle_of_two (suc zero) c at = cc
cycle_of_two (suc (suc t)) c at = absurd cc

one_is_kept : IsNext looped (cycle true) (cycle true)
one_is_kept zero low = refl
one_is_kept (suc r) low = absurd (omega (arith, low))

two_are_a_run : IsRun looped two
two_are_a_run =
    record {
      linked =
          record {
            some = omega arith;
            settled = All-cons (IsSettled looped) (cycle true) (cycle true ∷ []) cycle_with_the_buffered_bit_is_settled
                (All-cons (IsSettled looped) (cycle true) [] cycle_with_the_buffered_bit_is_settled (All-nil (IsSettled looped)));
            next = λ t before c at then.
                subst (λ (x : Cycle). IsNext looped x c) (cycle_of_two t before at)
                (subst (IsNext looped (cycle true)) (cycle_of_two (t + 1) c then) one_is_kept);
            fixed = λ k c low f d below. absurd (omega (arith, below));
          };
      resets = λ t c at f d below. absurd (omega (arith, below));
    }

-- beside it the one input is 0 in each step
abbrev zeros : ℕ → List Bool
zeros t = false ∷ []

zero_is_shown : (c : Cycle) → cycle true ≡ c → (i : ℕ) → i < 1 → bit_at (false ∷ []) (free_below looped i) ≡ bit_at c.ins i
unfolding free_below
zero_is_shown c same zero low = ap (λ (x : Cycle). bit_at x.ins 0) same
zero_is_shown c same (suc i) low = absurd (omega (arith, low))

zeros_are_of_two : AreOfRun looped two (true ∷ []) zeros
unfolding free_below
zeros_are_of_two =
    record {
      first = λ c at. ap (λ (x : Cycle). x.bits) (cycle_of_two 0 c at);
      count = λ t. refl;
      inputs = λ t c at.
          record { each = λ i low free. zero_is_shown c (cycle_of_two t c at) i low };
    }

-- so no graph watches a claim of that design whose register takes 0
graph_whose_register_takes_0_watches_nothing : (rest : List Latch) (bad : ℕ)
    → ¬ Watches looped claim (record { inputs = 1; latches = latch 0 true ∷ rest; lines = []; bad = bad })
unfolding latches_at first_bits bits_after
graph_whose_register_takes_0_watches_nothing rest bad watches =
    let e = watches.which two (true ∷ []) zeros 1 0 (cycle true) two_are_a_run zeros_are_of_two refl (omega arith) in cc
