-- Linked cycles exist for each stimulus that gives a bit for each register and input.
use Rattle.std.proofs.Common.{◌≡◌, ℕ, zero, suc, ◌+◌, ◌<◌, Bool, false, List, [], ◌∷◌, length, map, get_or, refl, ap, subst, sym, arith, All}
use Rattle.std.specs.Prelude.{slice_get, slice_index_or, Some}
use Rattle.std.proofs.lemmas.List.Elements.{All-head, All-tail}
use Rattle.std.proofs.lemmas.Option.{slice_get-get_or}
use Rattle.net_model.specs.Netlist.{IsSound}
use Rattle.net_model.specs.Cycles.{IsLinked, AreFixedKept}
use Rattle.net_model.specs.Stimuli.{StandsFor}
use Rattle.net_model.specs.declared.netlist.Design.{Design}
use Rattle.net_model.specs.declared.cycles.Cycle.{Cycle}
use Rattle.net_model.specs.declared.cycles.Stimulus.{Stimulus}
use Rattle.net_model.proofs.OneRun.{bits_exist}
use Rattle.net_sim.specs.Runs.{KeepFixed, IsLinkable}
use Rattle.query_asks.proofs.FreeCycles.{cycles_exist}

-- the rows of a stimulus, and another row of the same length after them, have a bit for each input
all_wide : (d : Design) (rows : List (List Bool)) (other : List Bool) → All (KeepFixed d) rows → length other ≡ length d.inputs → (t : ℕ)
    → length (slice_index_or rows t other) ≡ length d.inputs
all_wide d [] other all wide t = wide
all_wide d (row ∷ rows) other all wide zero = (All-head (KeepFixed d) row rows all).count
all_wide d (row ∷ rows) other all wide (suc t) = all_wide d rows other (All-tail (KeepFixed d) row rows all) wide t

-- each of its rows keeps the fixed inputs
row_kept : (d : Design) (rows : List (List Bool)) (other : List Bool) → All (KeepFixed d) rows → (t : ℕ) → t < length rows
    → AreFixedKept d (slice_index_or rows t other)
row_kept d [] other all t low = absurd (omega (arith, low))
row_kept d (row ∷ rows) other all zero low = (All-head (KeepFixed d) row rows all).fixed
row_kept d (row ∷ rows) other all (suc t) low = row_kept d rows other (All-tail (KeepFixed d) row rows all) t (omega (arith, low))

-- cycles whose input bits are the rows, one by one, have the rows
same_rows : (run : List Cycle) (rows : List (List Bool)) (other : List Bool) → length run ≡ length rows
    → ((t : ℕ) (c : Cycle) → slice_get run t ≡ Some c → c.ins ≡ slice_index_or rows t other) → map (λ (c : Cycle). c.ins) run ≡ rows
same_rows [] [] other long each = refl
same_rows [] (row ∷ rows) other long each = absurd cc
same_rows (c ∷ run) [] other long each = absurd cc
same_rows (c ∷ run) (row ∷ rows) other long each =
    let here : c.ins ≡ row = each 0 c refl in
    let rest = same_rows run rows other (omega (arith, long)) (λ t x at. each (suc t) x at) in
    cc

-- a stimulus stands for linked cycles
pub linked_exist : (d : Design) (s : Stimulus) → IsSound d → IsLinkable d s → (run : List Cycle) × IsLinked d run × StandsFor s run
linked_exist d s sound is =
    let other = bits_exist (λ (_ : ℕ). false) (length d.inputs) in
    let made = cycles_exist d s.state (λ t. slice_index_or s.inputs t other.0) (length s.inputs) sound is.state
    (all_wide d s.inputs other.0 is.inputs other.1) in
    let run = made.0 in (
      run,
      record {
        some = omega (arith, made.1.long, is.some);
        settled = made.1.settled;
        next = made.1.next;
        fixed = λ t o within.
            let c = get_or run t o in
            subst (AreFixedKept d) (sym (made.1.inputs t c (slice_get-get_or run t o within)))
            (row_kept d s.inputs other.0 is.inputs t (omega (arith, within, made.1.long)));
      },
      record { state = made.1.first; inputs = same_rows run s.inputs other.0 made.1.long made.1.inputs },
    )
