-- The keys that are found from what is asked, by what each key's definition reads.
use Rattle.std.specs.Prelude.{◌≡◌, ℕ, ◌+◌, ◌^◌, ◌<◌, ◌≤◌, Bool, true, List, [], ◌∷◌, ◌++◌, length, Contains, Option}
use Rattle.std.specs.Prelude.{Some, None, slice_index_or, if◌then◌else◌}
use Rattle.net_model.specs.declared.netlist.Design.{Design}
use Rattle.net_model.specs.declared.claims.Claim.{Claim}
use Rattle.query_model.specs.Keys.{lit, Ascend}
use Rattle.query_model.specs.Formula.{has_key}
use Rattle.query_model.specs.declared.keys.Key.{Key}
use Rattle.query_model.specs.declared.keys.KeyLit.{KeyLit}
use Rattle.frame_unroll.specs.Counting.{marked}
use Rattle.frame_unroll.specs.Framed.{IsWithin}
use Rattle.frame_unroll.specs.Origins.{gate_of}
use Rattle.frame_unroll.specs.declared.origins.Origin.{Origin}
use Rattle.frame_unroll.specs.declared.sites.Rail.{Rail}
use Rattle.frame_unroll.specs.declared.sites.Site.{Site}
use Rattle.frame_unroll.specs.declared.origins.Origin.TheVariants.{Gate as OfGate, Reg as OfReg, Stale as OfStale}

-- the gate that drives a net, by a table
abbrev pub gate_at : List (Option ℕ) → ℕ → Option ℕ
gate_at table n = slice_index_or table n None

-- the table tells of each net which gate drives it
pub record AreNetGates (d : Design) (table : List (Option ℕ)) : Type 0 where
  pub len : length table ≡ d.nets
  pub gates : (n : ℕ) → gate_at table n ≡ gate_of d.gates 0 n

-- the keys with one more, if it is new
abbrev pub with_key : List Key → Key → List Key
with_key keys k = if has_key keys k then keys else keys ++ k ∷ []

-- the keys with those of these literals that are new
abbrev pub with_keys : List Key → List KeyLit → List Key
with_keys keys [] = keys
with_keys keys (l ∷ ls) = with_keys (with_key keys l.key) ls

-- the keys of these literals that are new were added
abbrev pub Finds : List KeyLit → List Key → List Key → Type 0
Finds lits old new = new ≡ with_keys old lits

-- the keys with those of these clauses that are new
abbrev pub with_clauses : List Key → List (List KeyLit) → List Key
with_clauses keys [] = keys
with_clauses keys (clause ∷ clauses) = with_clauses (with_keys keys clause) clauses

-- of what is read on a rail that whose place has a mark, and the key that is defined
abbrev pub marked_rail : List Bool → Rail → List KeyLit
marked_rail places rail = marked places rail.reads ++ lit true rail.out ∷ []

-- the same of a rail, if there is one
abbrev pub marked_low : List Bool → Option Rail → List KeyLit
marked_low places None = []
marked_low places (Some rail) = marked_rail places rail

-- and of a site
abbrev pub marked_rails : List Bool → Site → List KeyLit
marked_rails places site = marked_rail places site.high ++ marked_low places site.low

-- the gate or register is one of the design, and the toggle not so long ago
abbrev pub IsOriginIn : Design → Origin → Type 0
IsOriginIn d (OfGate k) = k < length d.gates
IsOriginIn d (OfReg r) = r < length d.regs
IsOriginIn d (OfStale r) = r < 2 ^ 31
IsOriginIn d _ = Unit {0}

-- and a gate defines keys of layers alone that come through the sets
abbrev pub IsOriginAt : Design → Claim → ℕ → Origin → Type 0
IsOriginAt d claim layer (OfGate k) = (k < length d.gates) × (layer ≤ length claim.through + 1)
IsOriginAt d claim layer (OfReg r) = r < length d.regs
IsOriginAt d claim layer _ = Unit {0}

-- each key is of one of these cycles
abbrev pub AreKeysWithin : Design → ℕ → List Key → Type 0
AreKeysWithin d cycles keys = (k : Key) → Contains keys k → IsWithin d cycles k

-- one of these keys, or one that the definition of a reached key reads
pub data IsReached (reads : Key → List KeyLit) (start : List Key) : Key → Type 0 where
  Started : (k : Key) → Contains start k → IsReached reads start k
  Read : (k : Key) (l : KeyLit) → IsReached reads start k → Contains (reads k) l → IsReached reads start l.key

-- these are the keys that are reached
pub record AreReached (reads : Key → List KeyLit) (start keys : List Key) : Type 0 where
  pub only : (k : Key) → Contains keys k → IsReached reads start k
  pub all : (k : Key) → IsReached reads start k → Contains keys k

-- a key of so few cycles, layers, rails and points
pub record IsSmall (k : Key) : Type 0 where
  pub cycle : k.cycle ≤ 144
  pub layer : k.layer ≤ 5
  pub rail : k.rail ≤ 1
  pub point : k.point < 220050

-- so is each key of a list
abbrev pub AreSmall : List Key → Type 0
AreSmall keys = (k : Key) → Contains keys k → IsSmall k

-- the same keys, each once, ascending
pub record AreAscending (found keys : List Key) : Type 0 where
  pub ascending : Ascend keys
  pub only : (k : Key) → Contains keys k → Contains found k
  pub all : (k : Key) → Contains found k → Contains keys k
