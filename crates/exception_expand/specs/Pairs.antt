-- Pairs of a start and an end, the paths between them, and claims of them.
use Rattle.std.specs.Prelude.{ℕ, Bool, true, false, not, if◌then◌else◌, ◌&&◌, ◌||◌, ◌==◌, nat_lt, List, map, flat_map}
use Rattle.std.specs.List.{list_any}
use Rattle.net_model.specs.Judge.{judged_count}
use Rattle.sdcv_base.specs.declared.kinds.Kind.{Kind}
use Rattle.sdcv_base.specs.declared.kinds.Kind.TheVariants.{False, Multi}
use Rattle.sdcv_base.specs.declared.kinds.Edge.{Edge}
use Rattle.sdcv_base.specs.declared.kinds.Edge.TheVariants.{Any, Rise}
use Rattle.net_model.specs.Fits.{IsStartIn, IsEndIn}
use Rattle.net_model.specs.Paths.{HasPath}
use Rattle.net_model.specs.declared.netlist.Design.{Design}
use Rattle.net_model.specs.declared.netlist.Fixed.{Fixed}
use Rattle.net_model.specs.declared.claims.Start.{Start}
use Rattle.net_model.specs.declared.claims.Start.TheVariants.{Reg as RegStart, Input as InputStart}
use Rattle.net_model.specs.declared.claims.End.{End}
use Rattle.net_model.specs.declared.claims.PinRef.{PinRef}
use Rattle.net_model.specs.declared.claims.Claim.{Claim}
use Rattle.run_options.specs.declared.judging.Judging.{Judging}
use Rattle.exception_expand.specs.declared.pairs.Pair.{Pair}
use Rattle.exception_expand.specs.declared.sides.Side.{Side}

abbrev pub pair : Start → End → Pair
pair start end = record { start = start; end = end }

-- the start and the end are of the design
abbrev pub IsPairIn : Design → Pair → Type 0
IsPairIn d p = IsStartIn d p.start × IsEndIn d p.end

-- the pairs of these starts and these ends, by start and then by end
abbrev pub pairs_between : List Start → List End → List Pair
pairs_between starts ends = flat_map (λ start. map (pair start) ends) starts

-- a path leads from the start of the pair to its end, through these sets in their order
abbrev pub IsConnected : Design → List (List PinRef) → Pair → Type 0
IsConnected d sets p = HasPath d p.start p.end sets

-- the lag of a claim of this kind, and of the early side or else of the late one: only the late side of a false path has one
abbrev pub lag_for : Bool → Kind → ℕ → ℕ
lag_for early False lag = if early then 0 else lag
lag_for early (Multi k) lag = 0

-- the rise of a clock pin begins the paths from a register at both changes of its bit, and so it is of a cell that is cut out,
-- which drives an input after those of so many port bits; a port keeps the edge
abbrev pub clocked_rise : ℕ → Start → Edge
clocked_rise ports (RegStart r) = Any
clocked_rise ports (InputStart i) = if nat_lt i ports then Rise else Any

abbrev pub rise_of : ℕ → Bool → Start → Edge
rise_of ports false start = Rise
rise_of ports true start = clocked_rise ports start

-- so it is in a strict run
abbrev pub edge_of : ℕ → Bool → Edge → Start → Edge
edge_of ports strict Rise start = rise_of ports strict start
edge_of ports strict edge start = edge

-- a claim of a side of a pair, at the changes of an edge
abbrev pub claim_with : Kind → Edge → Judging → List (List PinRef) → Side → Claim
claim_with kind edge judging sets s = record {
  kind = kind;
  edge = edge;
  lag = lag_for s.early kind judging.lag;
  hazard = judging.hazard;
  early = s.early;
  start = s.pair.start;
  end = s.pair.end;
  through = sets;
}

-- a claim of a side of a pair, by what the claims of an exception have in common, with so many port bits among the inputs
abbrev pub claim_for : ℕ → Kind → Edge → Judging → List (List PinRef) → Side → Claim
claim_for ports kind edge judging sets s = claim_with kind (edge_of ports judging.strict edge s.pair.start) judging sets s

-- the input is one of those that have a value
abbrev pub is_set : ℕ → List Fixed → Bool
is_set input settings = list_any (λ (f : Fixed). f.input == input) settings

-- the start is no fixed and no reset input
abbrev pub is_free : Design → Start → Bool
is_free d (RegStart r) = true
is_free d (InputStart i) = not (is_set i d.fixed || is_set i d.resets)

-- a claim that needs a verdict: it judges some capture, and its start may toggle
abbrev pub is_judged : Design → Claim → Bool
is_judged d c = nat_lt 0 (judged_count c) && is_free d c.start
