-- When a text is that of a claim.
use Rattle.std.specs.Prelude.{◌≡◌, length}
use Rattle.net_model.specs.declared.netlist.Design.{Design}
use Rattle.net_model.specs.declared.claims.Claim.{Claim}
use Rattle.and_graphs.specs.Texts.{aiger_text}
use Rattle.and_graphs.specs.declared.aigs.Aig.{Aig}
use Rattle.claim_monitor.specs.Watches.{Watches}
use Rattle.claim_monitor.specs.declared.aiger_texts.AigerText.{AigerText}

-- the bytes are the text of a graph that watches the claim, and these are its counts
pub record IsAigerOf (d : Design) (claim : Claim) (text : AigerText) : Type 0 where
  pub graph : Aig
  pub watches : Watches d claim graph
  pub bytes : text.bytes.items ≡ aiger_text graph
  pub inputs : text.inputs ≡ graph.inputs
  pub latches : text.latches ≡ length graph.latches
  pub gates : text.gates ≡ length graph.lines
