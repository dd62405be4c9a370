-- The rest of a path from a source to the end, which grows from the end back.
use Rattle.std.proofs.Common.{arith, ◌≡◌, ℕ, ◌<◌, List, [], ◌∷◌, ◌++◌, Option, None, length, drop, reverse, refl, ap, sym, ◌∙◌, subst}
use Rattle.std.specs.Prelude.{Some, IfSome, slice_get, slice_index, Contains, All}
use Rattle.std.proofs.lemmas.List.{drop_all, reverse-append}
use Rattle.std.specs.List.Sorted.{IsPermutation}
use Rattle.std.proofs.lemmas.List.Sorted.{All-permutation}
use Rattle.std.proofs.lemmas.List.Elements.{All-nil, All-cons, All-append}
use Rattle.std.proofs.lemmas.Option.{get_or_from_slice_get, slice_get_within}
use Rattle.net_model.specs.Netlist.{AllBelow, IsGateInRange, IsRegInRange}
use Rattle.net_model.specs.Pins.{start_nets}
use Rattle.net_model.specs.Paths.{LeadsTo, To_gate, Through_gate, To_reg, To_output, EndsAt, Meets}
use Rattle.net_model.proofs.Settling.{All-at}
use Rattle.net_model.specs.declared.netlist.Gate.{Gate}
use Rattle.net_model.specs.declared.netlist.Reg.{Reg}
use Rattle.net_model.specs.declared.claims.PinRef.{PinRef}
use Rattle.net_model.specs.declared.claims.PinRef.TheVariants.{Net, GateIn, RegIn, OutPort}
use Rattle.net_model.specs.declared.claims.End.{End}
use Rattle.net_model.specs.declared.claims.End.TheVariants.{Reg as RegEnd, Output as OutputEnd}
use Rattle.shown_runs.specs.Carried.{IsCarried, nets_on}
use Rattle.shown_runs.specs.LateCycles.{IsLateCycle, IsLateNet, IsSourceOf, IsSourceAt, IsRest}
use Rattle.shown_runs.specs.declared.late_cycles.LateCycle.{LateCycle}
use Rattle.shown_runs.specs.declared.sources.Source.{Source}
use Rattle.shown_runs.specs.Sources.{pin_of}
use Rattle.shown_runs.specs.declared.sources.Reader.{Reader}
use Rattle.shown_runs.specs.declared.sources.Reader.TheVariants.{Gate as OfGate, Reg as OfReg}
use Rattle.shown_runs.proofs.Walking.{meets_later}

one_late : (l : LateCycle) (net : ℕ) → IsLateNet l net → All (IsLateNet l) (net ∷ [])
one_late l net late = All-cons (IsLateNet l) net [] late (All-nil (IsLateNet l))

nothing_due : (l : LateCycle) (pin : PinRef) → Meets (drop (length l.claim.now.through) l.claim.now.through) (pin ∷ [])
nothing_due l pin = rw (drop_all (length l.claim.now.through) l.claim.now.through (omega arith)) tt

-- the source of what the end reads, at its input pin or as a port
at_end : (l : LateCycle) (pin : PinRef) (net : ℕ) (s : Source) → LeadsTo l.design.now (Net net) pin → EndsAt l.design.now l.claim.now.end pin
    → ((rest : List PinRef) → nets_on (pin ∷ rest) ≡ nets_on rest) → IsSourceOf l (length l.claim.now.through) pin net s → IsRest l s (s.net ∷ [])
at_end l pin net s leads ends no_net source =
    let here : net ≡ s.net = sym source.of_net in
    record {
      path = pin ∷ [];
      goes = (subst (λ (n : ℕ). LeadsTo l.design.now (Net n) pin) here leads, ends);
      meets = subst (λ (n : ℕ). Meets (drop s.layer l.claim.now.through) (Net n ∷ pin ∷ [])) here (source.meets [] (nothing_due l pin));
      nets_of = ap (λ (ns : List ℕ). s.net ∷ ns) (no_net []);
      late = one_late l s.net (subst (IsLateNet l) here source.late);
      in_range = source.below;
    }

pub at_reg : (l : LateCycle) (r : ℕ) (reg : Reg) (s : Source) → l.claim.now.end ≡ RegEnd r → slice_get l.design.now.regs r ≡ Some reg
    → IsSourceAt l (length l.claim.now.through) (OfReg r) reg.ins s → IsRest l s (s.net ∷ [])
at_reg l r reg s end_is at source =
    at_end l (RegIn r source.place) (slice_index reg.ins source.place) s (To_reg r reg source.place at source.within)
    (subst (λ (e : End). EndsAt l.design.now e (RegIn r source.place)) (sym end_is) (source.place, refl)) (λ rest. refl) source.of_pin

pub at_output : (l : LateCycle) (o net : ℕ) (s : Source) → l.claim.now.end ≡ OutputEnd o → o < length l.design.now.outputs
    → slice_index l.design.now.outputs o ≡ net → IsSourceOf l (length l.claim.now.through) (OutPort o) net s → IsRest l s (s.net ∷ [])
at_output l o net s end_is within at source =
    at_end l (OutPort o) net s (subst (λ (n : ℕ). LeadsTo l.design.now (Net n) (OutPort o)) at (To_output o within))
    (subst (λ (e : End). EndsAt l.design.now e (OutPort o)) (sym end_is) refl) (λ rest. refl) source

-- one gate further back
pub rest_more : (l : LateCycle) (k : ℕ) (g : Gate) (s before : Source) (nets : List ℕ) → slice_get l.design.now.gates k ≡ Some g → g.out ≡ s.net
    → IsRest l s nets → IsSourceAt l s.layer (OfGate k) g.ins before → IsRest l before (nets ++ before.net ∷ [])
rest_more l k g s before nets at out rest source =
    let pin : PinRef = GateIn k source.place in
    let here : slice_index g.ins source.place ≡ before.net = sym source.of_pin.of_net in
    let leads : LeadsTo l.design.now (Net before.net) pin =
    subst (λ (n : ℕ). LeadsTo l.design.now (Net n) pin) here (To_gate k g source.place at source.within) in
    let through : LeadsTo l.design.now pin (Net s.net) =
    subst (λ (n : ℕ). LeadsTo l.design.now pin (Net n)) out (Through_gate k g source.place at source.within) in
    record {
      path = pin ∷ Net s.net ∷ rest.path;
      goes = (leads, (through, rest.goes));
      meets = subst (λ (n : ℕ). Meets (drop before.layer l.claim.now.through) (Net n ∷ pin ∷ Net s.net ∷ rest.path)) here
          (source.of_pin.meets (Net s.net ∷ rest.path)
          (meets_later (drop s.layer l.claim.now.through) pin (Net s.net ∷ rest.path) rest.meets));
      nets_of = ap (λ (ns : List ℕ). before.net ∷ ns) rest.nets_of ∙ sym (reverse-append nets (before.net ∷ []));
      late = All-append (IsLateNet l) nets (before.net ∷ []) rest.late
          (one_late l before.net (subst (IsLateNet l) here source.of_pin.late));
      in_range = omega (arith, source.of_pin.below, rest.in_range);
    }

-- the rest from a net of the start is the whole path
pub carried : (l : LateCycle) (s : Source) (nets turned : List ℕ) → IsRest l s nets → s.layer ≡ 0
    → Contains (start_nets l.design.now l.claim.now.start) s.net → turned ≡ reverse nets → IsPermutation nets turned
    → IsCarried l.design.now l.claim.now l.cycle.now l.stale turned
carried l s nets turned rest low starts turned_is same = record {
  path = Net s.net ∷ rest.path;
  is_path = ((s.net, starts, refl), rest.goes);
  meets = subst (λ (n : ℕ). Meets (drop n l.claim.now.through) (Net s.net ∷ rest.path)) low rest.meets;
  nets_of = rest.nets_of ∙ sym turned_is;
  late = All-permutation (IsLateNet l) nets turned same rest.late;
}

pub gate_ins : (l : LateCycle) (k : ℕ) (g : Gate) → IsLateCycle l → slice_get l.design.now.gates k ≡ Some g → AllBelow l.design.now.nets g.ins
gate_ins l k g is at = (All-at (IsGateInRange l.design.now) l.design.now.gates k g at is.sound.in_range.gates).ins

pub reg_ins : (l : LateCycle) (r : ℕ) (reg : Reg) → IsLateCycle l → slice_get l.design.now.regs r ≡ Some reg → AllBelow l.design.now.nets reg.ins
reg_ins l r reg is at = (All-at (IsRegInRange l.design.now) l.design.now.regs r reg at is.sound.in_range.regs).ins

pub output_net : (l : LateCycle) (o net : ℕ) → IsLateCycle l → slice_get l.design.now.outputs o ≡ Some net → net < l.design.now.nets
output_net l o net is at = All-at (λ n. n < l.design.now.nets) l.design.now.outputs o net at is.sound.in_range.outputs

pub source_at : (l : LateCycle) (layer : ℕ) (reader : Reader) (ins : List ℕ) (place : ℕ) (pin : PinRef) (net : ℕ) (s : Source)
    → pin ≡ pin_of reader place → slice_get ins place ≡ Some net → IsSourceOf l layer pin net s → IsSourceAt l layer reader ins s
source_at l layer reader ins place pin net s pin_is at source =
    let here : slice_index ins place ≡ net = get_or_from_slice_get ins place net 0 at in
    record {
      place = place;
      within = slice_get_within ins place net at;
      of_pin = subst (λ (n : ℕ). IsSourceOf l layer (pin_of reader place) n s) (sym here)
          (subst (λ (p : PinRef). IsSourceOf l layer p net s) pin_is source);
    }

-- where the end reads what is late, that is the rest of a path
pub any_at_reg : (l : LateCycle) (layer r : ℕ) (reg : Reg) (found : Option Source) → l.claim.now.end ≡ RegEnd r
    → slice_get l.design.now.regs r ≡ Some reg → layer ≡ length l.claim.now.through → IfSome found (IsSourceAt l layer (OfReg r) reg.ins)
    → IfSome found (λ last. IsRest l last (last.net ∷ []))
any_at_reg l layer r reg None end_is at top source = tt
any_at_reg l layer r reg (Some s) end_is at top source =
    at_reg l r reg s end_is at (subst (λ (n : ℕ). IsSourceAt l n (OfReg r) reg.ins s) top source)

pub any_at_output : (l : LateCycle) (layer o net : ℕ) (found : Option Source) → l.claim.now.end ≡ OutputEnd o
    → slice_get l.design.now.outputs o ≡ Some net → layer ≡ length l.claim.now.through → IfSome found (IsSourceOf l layer (OutPort o) net)
    → IfSome found (λ last. IsRest l last (last.net ∷ []))
any_at_output l layer o net None end_is at top source = tt
any_at_output l layer o net (Some s) end_is at top source =
    at_output l o net s end_is (slice_get_within l.design.now.outputs o net at) (get_or_from_slice_get l.design.now.outputs o net 0 at)
    (subst (λ (n : ℕ). IsSourceOf l n (OutPort o) net s) top source)
