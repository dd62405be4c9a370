use Rattle.std.proofs.Common.{◌≡◌, ℕ, ◌≤◌, ◌==◌, List, refl, subst, sym, arith}
use Rattle.std.specs.Prelude.{count_by}
use Rattle.link_design.specs.declared.faults.CircuitFault.{CircuitFault}
use Rattle.link_design.specs.declared.faults.CircuitFault.TheVariants as fault
use Rattle.link_design.specs.Rows.{IsTwice}
use Rattle.net_link.proofs.rows.gate_row.Goals as goal

-- where each net has one driver, memory alone is wanted
memory_alone : (drivers : List ℕ) (e : CircuitFault) → ((net : ℕ) → count_by (λ m. m == net) drivers ≤ 1) → IsTwice drivers e
    → (e ≡ fault.Memory → ⊥) → ⊥
memory_alone drivers (fault.ManyDrivers net) once twice other = omega (arith, twice, once net)
memory_alone drivers fault.Memory once twice other = other refl
memory_alone drivers (fault.Undriven net) once twice other = absurd twice
memory_alone drivers (fault.Loop net) once twice other = absurd twice
memory_alone drivers (fault.NotTheClock place) once twice other = absurd twice
memory_alone drivers (fault.ClockAsData net) once twice other = absurd twice
memory_alone drivers (fault.Limit kind number) once twice other = absurd twice

pub unreachable-requires : goal.unreachable-requires
unreachable-requires c =
    memory_alone c.in_ok-outs.outs c.in-Err.fault
    (λ net. subst (λ (ns : List ℕ). count_by (λ m. m == net) ns ≤ 1) (sym c.in_ok-outs.ensures) (c.requires.once net)) c.in-Err.ensures.err
    c.in_default.not-Memory
