-- What the program keeps of what is selected: the least multipliers of multicycle paths, by pairs and by exceptions.
use Rattle.std.specs.Prelude.{◌≡◌, ℕ, ◌==◌, nat_lt, nat_eq, min, not, Bool, true, false, ◌&&◌, if◌then◌else◌, List, take, slice_get, Option, None, Some}
use Rattle.std.specs.List.{list_any}
use Rattle.std.specs.Map.{lookup}
use Rattle.sdcv_base.specs.declared.kinds.Kind.{Kind}
use Rattle.sdcv_base.specs.declared.kinds.Kind.TheVariants.{False, Multi}
use Rattle.sdcv_base.specs.Seqs.{each_at, option_list}
use Rattle.net_model.specs.declared.claims.Start.{Start}
use Rattle.net_model.specs.declared.claims.Start.TheVariants.{Reg as RegStart, Input as InputStart}
use Rattle.net_model.specs.declared.claims.End.{End}
use Rattle.net_model.specs.declared.claims.End.TheVariants.{Reg as RegEnd, Output as OutputEnd}
use Rattle.net_model.specs.declared.claims.Claim.{Claim}
use Rattle.selected_types.specs.declared.selections.Selected.{Selected}
use Rattle.script_notices.specs.declared.pairs.Ends.{Ends}
use Rattle.script_notices.specs.Companions.{is_bool}
use Rattle.script_notices.specs.Notices.{is_crossed, claim_at, claims_of}

-- a multiplier, where there is one, is not above a number
abbrev pub is_low : ℕ → Option ℕ → Bool
is_low number None = false
is_low number (Some k) = not (nat_lt number k)

-- the lesser of two multipliers, where there are any
abbrev pub lesser : Option ℕ → Option ℕ → Option ℕ
lesser (Some a) (Some b) = Some (min a b)
lesser (Some a) None = Some a
lesser None second = second

abbrev pub multiplier : Kind → Option ℕ
multiplier False = None
multiplier (Multi k) = Some k

-- the start and the end of a claim, as the key of its pair
abbrev pub is_input : Start → Bool
is_input (RegStart r) = false
is_input (InputStart i) = true

abbrev pub start_place : Start → ℕ
start_place (RegStart r) = r
start_place (InputStart i) = i

abbrev pub is_output : End → Bool
is_output (RegEnd r) = false
is_output (OutputEnd o) = true

abbrev pub end_place : End → ℕ
end_place (RegEnd r) = r
end_place (OutputEnd o) = o

abbrev pub ends_of : Claim → Ends
ends_of c = record { input = is_input c.start; start = start_place c.start; output = is_output c.end; end = end_place c.end }

-- one pair
abbrev pub is_ends : Ends → Ends → Bool
is_ends a b = is_bool a.input b.input && (a.start == b.start && (is_bool a.output b.output && a.end == b.end))

-- the least multiplier of a pair
abbrev pub low_in : List (Ends × ℕ) → Ends → Option ℕ
low_in table ends = lookup (is_ends ends) table

-- the least multiplier at a key of a table, where there is one, is the lesser of the one before and another; all others stay
abbrev pub IsLowered : {K : Type 0} → (K → K → Bool) → List (K × ℕ) → K → Option ℕ → List (K × ℕ) → Type 0
IsLowered {K} eq old key low new =
    (q : K) → lookup (eq q) new ≡ (if eq key q then lesser (lookup (eq q) old) low else lookup (eq q) old)

-- a table by pairs: its multiplier of the pair of a claim is not above exactly those numbers that cross the claim
abbrev pub ArePairLows : List Claim → List (Ends × ℕ) → Type 0
ArePairLows claims table = (c : Claim) (number : ℕ) → is_low number (low_in table (ends_of c)) ≡ is_crossed claims number c

-- a multiplier is not above exactly those numbers that cross the claim at a place, if there is one
abbrev pub IsLowAt : List Claim → ℕ → Option ℕ → Type 0
IsLowAt claims place low = (number : ℕ) → is_low number low ≡ list_any (is_crossed claims number) (option_list (slice_get claims place))

-- a table by exceptions: its multiplier of one is not above exactly those numbers that cross a claim of the exception; of the first pairs
abbrev pub AreFirstLows : Selected → ℕ → List (ℕ × ℕ) → Type 0
AreFirstLows s k table =
    (command number : ℕ) → is_low number (lookup (nat_eq command) table) ≡ list_any (is_crossed s.claims number)
    (each_at (claim_at command s.claims) 0 (take k s.pairs))

-- and of all pairs
abbrev pub AreLows : Selected → List (ℕ × ℕ) → Type 0
AreLows s table =
    (command number : ℕ) → is_low number (lookup (nat_eq command) table) ≡ list_any (is_crossed s.claims number) (claims_of command s)
