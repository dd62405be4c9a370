-- Names of latches, worked out by hand.
use Rattle.std.proofs.Common.{◌≡◌, ℕ, Bool, true, false, List, [], ◌∷◌, ◌++◌, Option, Some, None, refl}
use Rattle.std.specs.Fmt.{digits}
use Rattle.std.specs.Prelude.{codes}
use Rattle.sdcv_base.specs.Seqs.{each_at}
use Rattle.linked_types.specs.declared.names.CellName.{CellName}
use Rattle.claim_monitor.specs.declared.sizes.Sizes.{Sizes}
use Rattle.monitor_symbols.specs.Latches.{latch_names}
use Rattle.monitor_symbols.specs.Symbols.{symbol}

abbrev cell : List ℕ → Option ℕ → CellName
cell name reg = record { name = name; reg = reg; outs = []; pins = [] }

-- so many registers, cycles of reset and judged captures, and whether a multicycle path ends at a port
abbrev sizes : ℕ → ℕ → ℕ → Bool → Sizes
sizes regs resets judged port = record { inputs = 1; regs = regs; resets = resets; judged = judged; has_capture = port; has_early = false }

-- the same for the early side of a false path
abbrev early_sizes : ℕ → ℕ → Sizes
early_sizes regs resets = record { inputs = 1; regs = regs; resets = resets; judged = 1; has_capture = false; has_early = true }

abbrev lines : List CellName → Sizes → List ℕ
lines cells s = each_at symbol 0 (latch_names cells s)

-- a line of the table, and those after it
infixr 5 ◌⏎◌
abbrev ◌⏎◌ : List ℕ → List ℕ → List ℕ
text ⏎ rest = text ++ 10 ∷ rest

abbrev a_to_b : List ℕ
a_to_b = codes "l0 a" ⏎ codes "l1 b" ⏎ codes "l2 sdcv.reset[0]" ⏎ codes "l3 sdcv.live" ⏎ codes "l4 sdcv.start[0]" ⏎ []

two_registers : lines (cell (codes "a") (Some 0) ∷ cell (codes "b") (Some 1) ∷ []) (sizes 2 1 1 false) ≡ a_to_b
unfolding digits
two_registers = refl

one_register : lines (cell (codes "r") (Some 0) ∷ []) (sizes 1 1 1 false)
    ≡ codes "l0 r" ⏎ codes "l1 sdcv.reset[0]" ⏎ codes "l2 sdcv.live" ⏎ codes "l3 sdcv.start[0]" ⏎ []
unfolding digits
one_register = refl

-- cells without a register count for nothing
gates_between : lines (cell (codes "t0") None ∷ cell (codes "a") (Some 0) ∷ cell (codes "g1") None ∷ cell (codes "b") (Some 1) ∷ []) (sizes 2 1 1 false)
    ≡ a_to_b
unfolding digits
gates_between = refl

-- the order is that of the registers, whatever that of their cells
cells_the_other_way_round : lines (cell (codes "b") (Some 1) ∷ cell (codes "a") (Some 0) ∷ []) (sizes 2 1 1 false) ≡ a_to_b
unfolding digits
cells_the_other_way_round = refl

-- without a reset; two captures are judged, so that one toggle before counts
two_captures : lines (cell (codes "u/r[1]") (Some 0) ∷ []) (sizes 1 0 2 false)
    ≡ codes "l0 u/r[1]" ⏎ codes "l1 sdcv.live" ⏎ codes "l2 sdcv.start[0]" ⏎ codes "l3 sdcv.start[1]" ⏎ codes "l4 sdcv.toggle[0]" ⏎ []
unfolding digits
two_captures = refl

-- two cycles in reset, and a port as the end
a_port_captures : lines (cell (codes "r") (Some 0) ∷ []) (sizes 1 2 1 true)
    ≡ codes "l0 r" ⏎ codes "l1 sdcv.reset[0]" ⏎ codes "l2 sdcv.reset[1]" ⏎ codes "l3 sdcv.live" ⏎ codes "l4 sdcv.start[0]" ⏎ codes "l5 sdcv.capture" ⏎ []
unfolding digits
a_port_captures = refl

-- a multicycle path of one cycle judges no capture, and its port's is kept all the same
no_capture_is_judged : lines [] (sizes 0 0 0 true) ≡ codes "l0 sdcv.live" ⏎ codes "l1 sdcv.capture" ⏎ []
unfolding digits
no_capture_is_judged = refl

-- the early side of a false path has one latch more, the last one
an_early_claim_has_a_latch_more : lines (cell (codes "r") (Some 0) ∷ []) (early_sizes 1 1)
    ≡ codes "l0 r" ⏎ codes "l1 sdcv.reset[0]" ⏎ codes "l2 sdcv.live" ⏎ codes "l3 sdcv.start[0]" ⏎ codes "l4 sdcv.early" ⏎ []
unfolding digits
an_early_claim_has_a_latch_more = refl
