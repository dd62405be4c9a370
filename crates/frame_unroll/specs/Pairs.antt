-- Pairs: the two literals by which a further point of a cycle is defined, and the key of that point.
use Rattle.std.specs.Prelude.{ℕ, ◌-◌, Bool, true, false, List, [], ◌∷◌, if◌then◌else◌}
use Rattle.sdcv_base.specs.declared.kinds.Edge.{Edge}
use Rattle.sdcv_base.specs.declared.kinds.Edge.TheVariants.{Any, Rise, Fall}
use Rattle.net_model.specs.declared.netlist.Design.{Design}
use Rattle.net_model.specs.declared.claims.Claim.{Claim}
use Rattle.query_model.specs.Keys.{opposite}
use Rattle.query_model.specs.Defined.{Definition, exclusive, both, start_lit, capture_lit, late_capture_lit, toggle_key, change_key, differ_key, stale_key}
use Rattle.query_model.specs.declared.keys.Key.{Key}
use Rattle.query_model.specs.declared.keys.KeyLit.{KeyLit}
use Rattle.frame_unroll.specs.declared.pairs.Pair.{Pair}

-- the definition by a pair
abbrev pub defined_by : Pair → Definition
defined_by pair = if pair.both then both pair.out pair.first pair.second else exclusive pair.out pair.first pair.second

-- what it reads
abbrev pub reads_of : Pair → List KeyLit
reads_of pair = pair.first ∷ pair.second ∷ []

-- a change from y to x with this edge
abbrev pub edge_pair : Edge → Key → KeyLit → KeyLit → Pair
edge_pair Any z x y = record { out = z; first = x; second = y; both = false }
edge_pair Rise z x y = record { out = z; first = x; second = opposite y; both = true }
edge_pair Fall z x y = record { out = z; first = opposite x; second = y; both = true }

-- the start toggles with the claim's edge
abbrev pub toggle_pair : Design → Claim → ℕ → Pair
toggle_pair d claim c = edge_pair claim.edge (toggle_key d c) (start_lit d claim.start c) (start_lit d claim.start (c - 1))

-- the capture changes
abbrev pub change_pair : Design → Claim → ℕ → Pair
change_pair d claim c = record { out = change_key d c; first = capture_lit d claim.end c; second = capture_lit d claim.end (c - 1); both = false }

-- what the late capture is compared with: where hazards count its other rail, else the capture
abbrev pub compared_lit : Design → Claim → List (List Bool) → ℕ → KeyLit
compared_lit d claim moved c = if claim.hazard then late_capture_lit d claim moved c 1 claim.end else capture_lit d claim.end c

-- the late capture differs
abbrev pub differ_pair : Design → Claim → List (List Bool) → ℕ → Pair
differ_pair d claim moved c =
    record { out = differ_key d c; first = late_capture_lit d claim moved c 0 claim.end; second = compared_lit d claim moved c; both = claim.hazard }

-- the start's bit is another one than before a toggle so many cycles ago
abbrev pub stale_pair : Design → Claim → ℕ → ℕ → Pair
stale_pair d claim c later =
    record { out = stale_key d c later; first = start_lit d claim.start c; second = start_lit d claim.start (c - later - 1); both = false }
