-- The symbol table of a monitor's text (AIGER 1.9): a line for each latch.
use Rattle.std.specs.Prelude.{ℕ, List, [], ◌∷◌, ◌++◌, codes}
use Rattle.std.specs.Fmt.{decimal}
use Rattle.sdcv_base.specs.Seqs.{each_at}
use Rattle.net_model.specs.declared.netlist.Design.{Design}
use Rattle.net_model.specs.declared.claims.Claim.{Claim}
use Rattle.linked_types.specs.declared.names.Names.{Names}
use Rattle.claim_monitor.specs.Fronts.{sizes_of}
use Rattle.monitor_symbols.specs.Latches.{latch_names}

-- the line of a latch, by its number
abbrev pub symbol : ℕ → List ℕ → List ℕ
symbol number name = codes "l" ++ (decimal number ++ (codes " " ++ (name ++ 10 ∷ [])))

-- the latches of the monitor of a claim in their order, numbered from 0
abbrev pub symbols_text : Names → Design → Claim → List ℕ
symbols_text names d claim = each_at symbol 0 (latch_names names.cells (sizes_of d claim))
