-- The starts and the ends of a design in its order, and those that an exception means.
use Rattle.std.specs.Prelude.{◌≡◌, ℕ, ◌+◌, nat_lt, ◌==◌, ◌||◌, Bool, true, false, if◌then◌else◌, ◌↔◌, List, [], ◌∷◌, ◌++◌, length, Contains}
use Rattle.std.specs.Prelude.{Option, Some, None, slice_get, slice_index_or, filter}
use Rattle.std.specs.List.{list_any}
use Rattle.sdcv_base.specs.declared.kinds.Edge.{Edge}
use Rattle.net_model.specs.declared.netlist.Design.{Design}
use Rattle.net_model.specs.declared.claims.Start.{Start}
use Rattle.net_model.specs.declared.claims.Start.TheVariants.{Reg as RegStart, Input as InputStart}
use Rattle.net_model.specs.declared.claims.End.{End}
use Rattle.net_model.specs.declared.claims.End.TheVariants.{Output as OutputEnd}
use Rattle.linked_types.specs.declared.names.Linked.{Linked}
use Rattle.linked_types.specs.declared.names.Names.{Names}
use Rattle.linked_types.specs.declared.names.CellName.{CellName}
use Rattle.linked_types.specs.declared.names.PinName.{PinName}
use Rattle.linked_types.specs.declared.names.PinRole.{PinRole}
use Rattle.linked_types.specs.declared.names.PinRole.TheVariants.{Source}
use Rattle.script_types.specs.declared.objects.Object.{Object}
use Rattle.script_types.specs.declared.scripts.Script.{Script}
use Rattle.sdcv_base.specs.Seqs.{each_at, where_true}
use Rattle.sdc_objects.specs.Standing.{all_reg_starts, all_reg_ends, starts_of, ends_of}

-- all inputs, and all outputs
abbrev pub input_starts : List ℕ → List Start
input_starts nets = each_at (λ i (net : ℕ). InputStart i ∷ []) 0 nets

abbrev pub output_ends : List ℕ → List End
output_ends nets = each_at (λ o (net : ℕ). OutputEnd o ∷ []) 0 nets

-- the registers and then the inputs, in the order of the design
abbrev pub start_points : Design → List Start
start_points d = all_reg_starts d ++ input_starts d.inputs

-- a pin is the source of the input
abbrev pub is_source_of : ℕ → PinRole → Bool
is_source_of i (Source input) = input == i
is_source_of i _ = false

abbrev pub drives : ℕ → List PinName → Bool
drives i pins = list_any (λ (p : PinName). is_source_of i p.role) pins

-- a cell that is cut out drives the input, and has the judged clock
abbrev pub is_driven : List CellName → ℕ → Bool
is_driven cells i = list_any (λ (c : CellName). drives i c.pins) cells

-- paths begin at each register, at each bit of an input port, and at each input that a clocked cell drives which is cut out; at no
-- other input
abbrev pub begins : Names → Start → Bool
begins n (RegStart r) = true
begins n (InputStart i) = nat_lt i (length n.ins) || is_driven n.cells i

-- the starts in the order of the design
abbrev pub all_starts : Linked → List Start
all_starts l = filter (begins l.names) (start_points l.design)

-- the ends in the order of the design: the registers, and then the outputs, those of ports before the sinks
abbrev pub all_ends : Design → List End
all_ends d = all_reg_ends d ++ output_ends d.outputs

-- the place of a number below a count, where the first one stands at a place
abbrev pub place_below : ℕ → ℕ → ℕ → Option ℕ
place_below number first count = if nat_lt number count then Some (first + number) else None

-- an item is among those that the objects of a list stand for, or no list is given
abbrev pub IsMeant : {A : Type 0} → (List Object → List A) → Option (List Object) → A → Type 0
IsMeant of None x = Unit {0}
IsMeant of (Some objects) x = Contains (of objects) x

-- the start is one of those after the option of this edge, in a run that is strict or not: `-from`, `-rise_from` or `-fall_from`
abbrev pub IsFrom : Linked → Script → Bool → Edge → Option (List Object) → Start → Type 0
IsFrom l script strict edge from start = IsMeant (starts_of l script strict edge) from start

-- the end is one of those after `-to`
abbrev pub IsTo : Linked → Script → Bool → Option (List Object) → End → Type 0
IsTo l script strict to end = IsMeant (ends_of l script strict) to end

-- the objects after an option that may be missing
abbrev pub given : {A : Type 0} → Option (List A) → List A
given None = []
given (Some xs) = xs

-- the place has a mark
abbrev pub has_mark : List Bool → ℕ → Bool
has_mark marks k = slice_index_or marks k false

-- a row has a mark for each item of a list, true where the item is wanted
pub record AreMarks {A : Type 0} (Wanted : A → Type 0) (all : List A) (marks : List Bool) : Type 0 where
  pub len : length marks ≡ length all
  pub wanted : (k : ℕ) (x : A) → slice_get all k ≡ Some x → (has_mark marks k ≡ true ↔ Wanted x)

-- the items that have a mark, in their order
abbrev pub marked : {A : Type 0} → List Bool → List A → List A
marked marks all = each_at (λ k x. where_true (has_mark marks k) x) 0 all
