-- Sites: what the places of a function read where it defines a key, and that key.
use Rattle.std.specs.Prelude.{ℕ, zero, suc, ◌+◌, Bool, true, false, List, [], ◌∷◌, ◌++◌, map, Option, Some, None, if◌then◌else◌}
use Rattle.net_model.specs.declared.netlist.Design.{Design}
use Rattle.net_model.specs.declared.netlist.Gate.{Gate}
use Rattle.net_model.specs.declared.netlist.Reg.{Reg}
use Rattle.net_model.specs.declared.claims.Claim.{Claim}
use Rattle.query_model.specs.Keys.{key, lit}
use Rattle.query_model.specs.Reads.{bit_key, read_base}
use Rattle.query_model.specs.Defined.{Definition, plain, rails, with_own, gate_reads, reg_reads, late_key}
use Rattle.query_model.specs.declared.keys.KeyLit.{KeyLit}
use Rattle.query_model.specs.declared.keys.Coding.{Coding}
use Rattle.frame_unroll.specs.Counting.{counted}
use Rattle.frame_unroll.specs.declared.sites.Rail.{Rail}
use Rattle.frame_unroll.specs.declared.sites.Site.{Site}

-- one rail, and where hazards count another
abbrev pub both_rails : Claim → Rail → Rail → Site
both_rails claim high low = record { high = high; low = if claim.hazard then Some low else None }

-- the net that a gate drives in a cycle
abbrev pub gate_site : Design → ℕ → Gate → Site
gate_site d c g = record { high = record { reads = map (read_base d c) g.ins; out = key c 0 0 g.out }; low = None }

-- the literals that a register reads in a cycle
abbrev pub bit_reads : Design → ℕ → ℕ → Reg → List KeyLit
bit_reads d c r reg = with_own reg (lit true (bit_key d c r)) (map (read_base d c) reg.ins)

-- its bit in the cycle after
abbrev pub bit_site : Design → ℕ → ℕ → Reg → Site
bit_site d c r reg = record { high = record { reads = bit_reads d c r reg; out = bit_key d (c + 1) r }; low = None }

-- the net that a gate drives on a rail of a layer
abbrev pub gate_rail : Design → Claim → List (List Bool) → ℕ → ℕ → ℕ → ℕ → Gate → Rail
gate_rail d claim moved c layer rail k g = record { reads = gate_reads d claim moved c layer rail k g; out = key c layer rail g.out }

-- and on its rails
abbrev pub late_gate_site : Design → Claim → List (List Bool) → ℕ → ℕ → ℕ → Gate → Site
late_gate_site d claim moved c layer k g = both_rails claim (gate_rail d claim moved c layer 0 k g) (gate_rail d claim moved c layer 1 k g)

-- a register reads its own bit as it is on the first rail, and as its complement on the other
abbrev pub own_sign : ℕ → Bool
own_sign zero = true
own_sign (suc rail) = false

-- the late capture of a register on a rail, which reads its own bit by a literal of this sign
abbrev pub reg_rail : Design → Claim → List (List Bool) → ℕ → ℕ → Bool → ℕ → Reg → Rail
reg_rail d claim moved c rail own r reg = record { reads = reg_reads d claim moved c rail own r reg; out = late_key d claim c rail }

-- and on its rails
abbrev pub late_reg_site : Design → Claim → List (List Bool) → ℕ → ℕ → Reg → Site
late_reg_site d claim moved c r reg = both_rails claim (reg_rail d claim moved c 0 true r reg) (reg_rail d claim moved c 1 false r reg)

-- of what is read on a rail that whose place counts, and the key that is defined
abbrev pub counted_rail : Coding → ((ℕ → Bool) → Bool) → Rail → List KeyLit
counted_rail coding cell rail = counted coding cell rail.reads ++ lit true rail.out ∷ []

-- the definition by a function of what is read on a rail, or on two
abbrev pub defined_on : Coding → ((ℕ → Bool) → Bool) → Rail → Option Rail → Definition
defined_on coding cell high None = plain coding cell high.reads high.out
defined_on coding cell high (Some low) = rails coding cell high.reads low.reads high.out low.out

-- the definition at a site
abbrev pub defined_at : Coding → ((ℕ → Bool) → Bool) → Site → Definition
defined_at coding cell site = defined_on coding cell site.high site.low
