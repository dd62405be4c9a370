-- Load pins that nets lead to.
use Rattle.std.proofs.Common.{◌≡◌, ℕ, List, subst}
use Rattle.std.specs.Prelude.{Some, Ok, Err, slice_get, slice_index, OnOk, IfErr}
use Rattle.std.specs.declared.result.Result.{Result}
use Rattle.std.proofs.lemmas.Option.{slice_get_within, get_or_from_slice_get, slice_get-get_or}
use Rattle.net_model.specs.Paths.{LeadsTo, To_gate, To_reg, To_output}
use Rattle.net_model.specs.declared.netlist.Design.{Design}
use Rattle.net_model.specs.declared.netlist.Gate.{Gate}
use Rattle.net_model.specs.declared.netlist.Reg.{Reg}
use Rattle.net_model.specs.declared.claims.PinRef.{PinRef}
use Rattle.net_model.specs.declared.claims.PinRef.TheVariants.{Net, GateIn, RegIn, OutPort}
use Rattle.selected_types.specs.declared.faults.ExpandFault.{ExpandFault}
use Rattle.case_objects.specs.declared.values.CaseValue.{CaseValue}
use Rattle.case_objects.specs.declared.subjects.Subject.{Subject}
use Rattle.case_objects.specs.declared.subjects.Subject.TheVariants.{Load}
use Rattle.case_objects.specs.declared.loads.Owner.TheVariants as owner
use Rattle.case_objects.specs.Subjects.{AgreeOn, IsSubject}
use Rattle.case_objects.specs.Causes.{IsTwiceOf}
use Rattle.case_objects.specs.Stages.{AgreeOnPins, IsPinTwice}

abbrev pub IsLoadTwice : Design → List CaseValue → ExpandFault → Type 0
IsLoadTwice d values e = (s : Subject) × IsSubject d s × IsTwiceOf s values e

abbrev moved : (d : Design) (xs : List ℕ) (i net : ℕ) (pin : PinRef) → slice_get xs i ≡ Some net
    → LeadsTo d (Net (slice_index xs i)) pin → LeadsTo d (Net net) pin
moved d xs i net pin at leads = subst (λ (n : ℕ). LeadsTo d (Net n) pin) (get_or_from_slice_get xs i net 0 at) leads

pub gate_twice : (d : Design) (values : List CaseValue) (e : ExpandFault)
    → ((k : ℕ) × (g : Gate) × (slice_get d.gates k ≡ Some g) × IsPinTwice values (owner.Gate k) g.ins e) → IsLoadTwice d values e
gate_twice d values e (k, g, here, (i, net, at, twice)) =
    (Load (GateIn k i) net, moved d g.ins i net (GateIn k i) at (To_gate k g i here (slice_get_within g.ins i net at)), twice)

pub reg_twice : (d : Design) (values : List CaseValue) (e : ExpandFault)
    → ((k : ℕ) × (g : Reg) × (slice_get d.regs k ≡ Some g) × IsPinTwice values (owner.Reg k) g.ins e) → IsLoadTwice d values e
reg_twice d values e (k, g, here, (i, net, at, twice)) =
    (Load (RegIn k i) net, moved d g.ins i net (RegIn k i) at (To_reg k g i here (slice_get_within g.ins i net at)), twice)

pub output_twice : (d : Design) (values : List CaseValue) (e : ExpandFault) → IsPinTwice values owner.Ports d.outputs e → IsLoadTwice d values e
output_twice d values e (i, net, at, twice) =
    (Load (OutPort i) net, moved d d.outputs i net (OutPort i) at (To_output i (slice_get_within d.outputs i net at)), twice)

pub all_agree : (d : Design) (values : List CaseValue)
    → ((k : ℕ) (g : Gate) → slice_get d.gates k ≡ Some g → AgreeOnPins values (owner.Gate k) g.ins)
    → ((k : ℕ) (g : Reg) → slice_get d.regs k ≡ Some g → AgreeOnPins values (owner.Reg k) g.ins)
    → AgreeOnPins values owner.Ports d.outputs → (pin : PinRef) (net : ℕ) → LeadsTo d (Net net) pin → AgreeOn (Load pin net) values
all_agree d values gates regs outputs _ _ (To_gate k g i here low) = gates k g here i (slice_index g.ins i) (slice_get-get_or g.ins i 0 low)
all_agree d values gates regs outputs _ _ (To_reg r g i here low) = regs r g here i (slice_index g.ins i) (slice_get-get_or g.ins i 0 low)
all_agree d values gates regs outputs _ _ (To_output o low) = outputs o (slice_index d.outputs o) (slice_get-get_or d.outputs o 0 low)

pub ok_then : {T E P Q : Type 0} (r : Result T E) → OnOk r P → (P → Q) → OnOk r Q
ok_then (Ok x) p then_ = then_ p
ok_then (Err e) p then_ = tt

pub err_then : {T E : Type 0} {P Q : E → Type 0} (r : Result T E) → IfErr r P → ((e : E) → P e → Q e) → IfErr r Q
err_then (Ok x) p then_ = tt
err_then (Err e) p then_ = then_ e p
