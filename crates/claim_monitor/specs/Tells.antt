-- What the literals of a monitor tell of a cycle, as the bits in front and the cycle have it.
use Rattle.std.specs.Prelude.{◌≡◌, ◌≢◌, ◌↔◌, ℕ, zero, suc, ◌+◌, ◌<◌, ◌≤◌, Bool, true, false, not, ◌&&◌, ◌||◌, if◌then◌else◌, List, [], ◌∷◌, length}
use Rattle.net_model.specs.Form.{xor}
use Rattle.net_model.specs.Cycles.{bit_at, capture}
use Rattle.net_model.specs.Layers.{IsLateCapture}
use Rattle.net_model.specs.Judge.{start_bit}
use Rattle.net_model.specs.declared.netlist.Design.{Design}
use Rattle.net_model.specs.declared.cycles.Cycle.{Cycle}
use Rattle.net_model.specs.declared.claims.Claim.{Claim}
use Rattle.net_model.specs.declared.claims.PinRef.{PinRef}
use Rattle.net_model.specs.declared.claims.Start.{Start}
use Rattle.net_model.specs.declared.claims.End.{End}
use Rattle.net_model.specs.declared.claims.End.TheVariants.{Reg as RegEnd, Output as OutputEnd}
use Rattle.sdcv_base.specs.declared.kinds.Edge.{Edge}
use Rattle.sdcv_base.specs.declared.kinds.Edge.TheVariants.{Any, Rise, Fall}
use Rattle.sdcv_base.specs.declared.kinds.Kind.{Kind}
use Rattle.sdcv_base.specs.declared.kinds.Kind.TheVariants.{False, Multi}
use Rattle.claim_monitor.specs.Fronts.{front_count, reg_place, reset_place, live_place, start_place, toggle_place, capture_place, early_place, AreFreeBits, DiffersFlipped}
use Rattle.claim_monitor.specs.Shown.{is_live}
use Rattle.claim_monitor.specs.declared.sizes.Sizes.{Sizes}

-- a change from a stale bit has the edge
abbrev pub edge_bit : Edge → Bool → Bool
edge_bit Any stale = true
edge_bit Rise stale = not stale
edge_bit Fall stale = stale

-- the start toggles: the cycle before was live, and its bit there, the stale bit, differs, with the edge
abbrev pub toggle_bit : Sizes → Edge → Start → List Bool → Cycle → Bool
toggle_bit s edge start x c =
    let stale = bit_at x (start_place s 0) in
    bit_at x (live_place s) && (xor (start_bit start c) stale && edge_bit edge stale)

-- the start toggled so many cycles before
abbrev pub toggled : Sizes → Edge → Start → List Bool → Cycle → ℕ → Bool
toggled s edge start x c zero = toggle_bit s edge start x c
toggled s edge start x c (suc k) = bit_at x (toggle_place s k)

-- the capture of the cycle before: a register has it
abbrev pub captured : Sizes → End → List Bool → Cycle → Bool
captured s (RegEnd r) x c = bit_at c.bits r
captured s (OutputEnd o) x c = bit_at x (capture_place s)

-- the capture changes
abbrev pub ChangesNow : Design → Sizes → Claim → List Bool → Cycle → Type 0
ChangesNow d s claim x c = capture d claim.end c ≢ captured s claim.end x c

-- the late capture of the stale bit of that cycle differs
abbrev pub DiffersNow : Design → Sizes → Claim → List Bool → Cycle → ℕ → Type 0
DiffersNow d s claim x c r =
    (late : Bool) × IsLateCapture d claim c (not (start_bit claim.start c)) late × (late ≢ capture d claim.end c)
    × (start_bit claim.start c ≢ bit_at x (start_place s r))

-- the cycle is bad for a toggle so many cycles before
abbrev pub IsBadNow : Kind → List (List PinRef) → Design → Sizes → Claim → List Bool → Cycle → ℕ → Type 0
IsBadNow False sets d s claim x c r = DiffersNow d s claim x c r
IsBadNow (Multi k) [] d s claim x c r = ChangesNow d s claim x c
IsBadNow (Multi k) (set ∷ sets) d s claim x c r = DiffersNow d s claim x c r × ChangesNow d s claim x c

-- it is bad for a claim of this side; for one of the early side the capture of the cycle before is judged, as its latch tells
abbrev pub IsBadNowOn : Bool → Design → Sizes → Claim → List Bool → Cycle → ℕ → Type 0
IsBadNowOn false d s claim x c r = IsBadNow claim.kind claim.through d s claim x c r
IsBadNowOn true d s claim x c r = bit_at x (early_place s) ≡ true

-- it is bad for some toggle whose captures are judged
pub record IsCaughtNow (d : Design) (s : Sizes) (claim : Claim) (x : List Bool) (c : Cycle) : Type 0 where
  pub r : ℕ
  pub judged : r < s.judged
  pub toggles : toggled s claim.edge claim.start x c r ≡ true
  pub bad : IsBadNowOn claim.early d s claim x c r

-- the bits in front of a run's first cycle: registers have the cycle's bits, and all other latches are 0
pub record IsFirstFront (d : Design) (s : Sizes) (c : Cycle) (x : List Bool) : Type 0 where
  pub count : length x ≡ front_count s
  pub inputs : AreFreeBits d c x
  pub regs : (r : ℕ) → r < length d.regs → bit_at x (reg_place s r) ≡ bit_at c.bits r
  pub rest : (k : ℕ) → s.inputs + s.regs ≤ k → bit_at x k ≡ false

-- the bits in front of a next cycle, given those before and the cycle that they show: what latches take
pub record IsNextFront (d : Design) (claim : Claim) (s : Sizes) (x : List Bool) (c next : Cycle) (y : List Bool) : Type 0 where
  pub count : length y ≡ front_count s
  pub inputs : AreFreeBits d next y
  pub regs : (r : ℕ) → r < length d.regs → bit_at y (reg_place s r) ≡ capture d (RegEnd r) c
  pub first_reset : 0 < s.resets → bit_at y (reset_place s 0) ≡ true
  pub resets : (i : ℕ) → i + 1 < s.resets → bit_at y (reset_place s (i + 1)) ≡ bit_at x (reset_place s i)
  pub was_live : bit_at y (live_place s) ≡ is_live s x
  pub first_start : 0 < s.judged → bit_at y (start_place s 0) ≡ start_bit claim.start c
  pub starts : (h : ℕ) → h + 1 < s.judged → bit_at y (start_place s (h + 1)) ≡ bit_at x (start_place s h)
  pub toggles : (k : ℕ) → k + 1 < s.judged → bit_at y (toggle_place s k) ≡ toggled s claim.edge claim.start x c k
  pub captured : s.has_capture ≡ true → bit_at y (capture_place s) ≡ capture d claim.end c
  pub early : s.has_early ≡ true → (bit_at y (early_place s) ≡ true) ↔ DiffersFlipped d claim c

-- the late capture counts: for a false path, and where there are through sets
abbrev pub has_late : Kind → List (List PinRef) → Bool
has_late False sets = true
has_late (Multi k) [] = false
has_late (Multi k) (set ∷ sets) = true

-- a change of the capture counts for a multicycle path alone
abbrev pub changes_bit : Kind → Bool → Bool → Bool
changes_bit False now before = true
changes_bit (Multi k) now before = xor now before

-- a bit tells that it differs, where it counts, and is else 1
pub record TellsLate (d : Design) (claim : Claim) (c : Cycle) (b : Bool) : Type 0 where
  pub none : has_late claim.kind claim.through ≡ false → b ≡ true
  pub some : has_late claim.kind claim.through ≡ true → ((b ≡ true) ↔ DiffersFlipped d claim c)

-- the start toggled so many cycles before, and where the late capture counts its bit is not the one that was stale then
abbrev pub stale_bit : Sizes → Claim → List Bool → Cycle → ℕ → Bool
stale_bit s claim x c r =
    toggled s claim.edge claim.start x c r
    && (if has_late claim.kind claim.through then xor (start_bit claim.start c) (bit_at x (start_place s r)) else true)

-- it is stale so for a toggle fewer than k cycles before
unfoldable pub some_stale : Sizes → Claim → List Bool → Cycle → ℕ → Bool
some_stale s claim x c zero = false
some_stale s claim x c (suc k) = some_stale s claim x c k || stale_bit s claim x c k
