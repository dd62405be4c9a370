-- What is saved and told of the graph that watches a claim.
use Rattle.std.specs.Prelude.{◌≡◌, ℕ, Bool, true, false, List, [], ◌∷◌, ◌++◌, length, Option, None}
use Rattle.net_model.specs.declared.claims.Claim.{Claim}
use Rattle.and_graphs.specs.Texts.{aiger_text}
use Rattle.and_graphs.specs.declared.aigs.Aig.{Aig}
use Rattle.linked_types.specs.declared.names.Linked.{Linked}
use Rattle.claim_monitor.specs.Watches.{Watches}
use Rattle.monitor_symbols.specs.Symbols.{symbols_text}
use Rattle.answer_lines.specs.Graphs.{aiger_line}
use Rattle.run_ends.specs.declared.statuses.Ending.TheVariants as ending
use Rattle.sdcv_top.specs.Outcomes.{Outcome}

-- the symbols of the latches, where they are asked for
abbrev pub symbols_if : Bool → Linked → Claim → List ℕ
symbols_if false l claim = []
symbols_if true l claim = symbols_text l.names l.design claim

-- a graph that watches the claim is saved as AIGER text, with symbols where they are asked for, and its counts are told
pub record IsWatchedOut (out : List ℕ) (number : ℕ) (symbols : Bool) (free : Option ℕ) (l : Linked) (claim : Claim) (due : Outcome) : Type 0 where
  pub graph : Aig
  pub watches : Watches l.design claim graph
  pub saved : due.saved ≡ (out, aiger_text graph ++ symbols_if symbols l claim) ∷ []
  pub ending : due.ending ≡ ending.Done
  pub printed : due.printed ≡ aiger_line number graph.inputs (length graph.latches) (length graph.lines) free
  pub judged : due.judged ≡ None
  pub detected : due.detected ≡ None
