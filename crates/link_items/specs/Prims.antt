-- The operators of the gate primitives.
use Rattle.std.specs.Prelude.{ℕ, true, List, [], ◌∷◌, ◌++◌, map, slice_index}
use Rattle.net_model.specs.Form.{Form, AndForm, OrForm, XorForm}
use Rattle.netlist_types.specs.declared.gates.PrimKind.{PrimKind}
use Rattle.netlist_types.specs.declared.gates.PrimKind.TheVariants as prim
use Rattle.netlist_types.specs.declared.sources.Wire.{Wire}
use Rattle.link_defs.specs.declared.circuits.Part.{Part}
use Rattle.link_defs.specs.declared.circuits.Part.TheVariants as part
use Rattle.link_defs.specs.Parts.{is_buffer_prim, prim_gate, ties, wire_net}
use Rattle.link_items.specs.declared.prims.Op.{Op}
use Rattle.link_items.specs.declared.prims.Op.TheVariants as op

-- the function of two functions by an operator
abbrev pub op_form : Op → Form → Form → Form
op_form op.And f g = AndForm f g
op_form op.Or f g = OrForm f g
op_form op.Xor f g = XorForm f g

-- a primitive that reads these flat nets, without its constants
abbrev pub prim_part : PrimKind → List ℕ → List ℕ → List ℕ → Part
prim_part k nets ins outs = part.Comb (is_buffer_prim k) ins (map (λ (out : ℕ). prim_gate k ins (slice_index nets out)) outs)

-- an assigned bit, its constant first
abbrev pub copy_parts : List ℕ → ℕ → ℕ → Wire → List Part
copy_parts nets first to from =
    let pins = wire_net nets first from ∷ [] in
    ties first (from ∷ []) ++ part.Comb true pins (prim_gate prim.Buf pins (slice_index nets to) ∷ []) ∷ []
