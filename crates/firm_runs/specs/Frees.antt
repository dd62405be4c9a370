-- Free inputs and sinks, and what is known of an input's bit.
use Rattle.std.specs.Prelude.{ℕ, ◌+◌, ◌<◌, ◌≤◌, Bool, not, ◌&&◌, ◌||◌, nat_lt, if◌then◌else◌, length, ◌⊎◌}
use Rattle.std.specs.List.{list_any}
use Rattle.net_model.specs.Held.{sets}
use Rattle.net_model.specs.Ternary.{tern_of}
use Rattle.net_model.specs.declared.netlist.Design.{Design}
use Rattle.net_model.specs.declared.claims.End.{End}
use Rattle.net_model.specs.declared.claims.End.TheVariants.{Reg as RegEnd, Output as OutputEnd}
use Rattle.net_model.specs.declared.terns.Tern.{Tern}
use Rattle.net_model.specs.declared.terns.Tern.TheVariants.{Unknown}
use Rattle.firm_runs.specs.declared.free_bits.FreeBits.{FreeBits}

-- whether an input is free: it is driven by what is cut out of the design
abbrev pub is_free : FreeBits → ℕ → Bool
is_free free i = not (nat_lt i free.first) && nat_lt i (free.first + free.count)

-- the end is a sink: it is read by what is cut out of the design alone
abbrev pub IsSink : FreeBits → End → Type 0
IsSink free (RegEnd r) = ⊥
IsSink free (OutputEnd o) = free.sinks_from ≤ o

-- the design has a free input or a sink
abbrev pub LeavesOpen : Design → FreeBits → Type 0
LeavesOpen d free = (0 < free.count) ⊎ (free.sinks_from < length d.outputs)

-- whether an input's bit is given in cycle t: it is fixed, or it is reset and resets are active in that cycle
abbrev pub is_given : Design → ℕ → ℕ → Bool
is_given d t i = list_any (sets i) d.fixed || (nat_lt t d.reset_len && list_any (sets i) d.resets)

-- what is known of an input in cycle t, where a stimulus has this bit: nothing of a free one that is not given
abbrev pub known_bit : Design → FreeBits → ℕ → ℕ → Bool → Tern
known_bit d free t i bit = if is_free free i && not (is_given d t i) then Unknown else tern_of bit
