-- The ports of the top module with what is set at them.
use Rattle.std.proofs.Common.{◌≡◌, ℕ, ◌≤◌, Bool, true, false, List, [], ◌++◌, length, Some, refl, ap, subst, sym, ◌∙◌, arith, inl, inr}
use Rattle.std.specs.Prelude.{Contains, Option, None, filter, count_by, ◌==◌}
use Rattle.std.specs.List.{AllZip, IsDistinct}
use Rattle.std.specs.Str.{bytes_eq}
use Rattle.std.proofs.lemmas.List.{map-append, length-map}
use Rattle.texts.specs.Names.{is_among, are_distinct}
use Rattle.net_model.specs.Netlist.{AllBelow}
use Rattle.net_model.specs.declared.netlist.Fixed.{Fixed}
use Rattle.netlist_types.specs.declared.sources.Module.{Module}
use Rattle.texts.proofs.NameLemmas.{distinct_by_test}
use Rattle.link_design.specs.declared.designs.Held.{Held}
use Rattle.link_design.specs.Made.{IsHeldBy}
use Rattle.linked_types.specs.declared.faults.LinkFault.{LinkFault}
use Rattle.linked_types.specs.declared.faults.LinkFault.TheVariants as fault
use Rattle.linked_types.specs.declared.names.PortName.{PortName}
use Rattle.linked_types.specs.declared.options.LinkOptions.{LinkOptions}
use Rattle.link_defs.specs.Circuits.{PortBit, input_bits, output_bits, data_bits, clock_bits, clock_port, bit_nets, is_clock as is_clock_bit}
use Rattle.link_defs.specs.Faults.{StandsTwice, bit_names, set_names, IsBadSetting, No_clock, No_input, Twice}
use Rattle.link_defs.specs.Links.{ports_of}
use Rattle.link_items.proofs.Searching.{among_in, in_among}
use Rattle.link_tops.specs.Clashes.{port_names, IsClash}
use Rattle.link_tops.proofs.Clashing.{apart}
use Rattle.net_link.specs.declared.ports.TopPorts.{TopPorts}
use Rattle.net_link.specs.Data.{clock_in, data_ports}
use Rattle.net_link.specs.Given.{IsGiven, IsHeldAt, IsUnfit, IsUnfitName}
use Rattle.net_link.specs.Ports.{AreTopPorts, IsPortCause, IsNameFault, IsClockAmong}
use Rattle.net_link.proofs.Giving.{zip_append, given_among, all_set, inputs_below, given_once}
use Rattle.net_link.proofs.Picking.{clock_is, names_of_bits, data_is, distinct_fewer, no_clock, some_clock}

-- what a test says of a name
pub absent_by : (r b : Bool) → r ≡ b → r ≡ false → b ≡ false
absent_by r b is miss = sym is ∙ miss

pub there_by : (r b : Bool) → r ≡ b → r ≡ true → b ≡ true
there_by r b is hit = sym is ∙ hit

-- a clash of the names is a fault of them
pub clash_fault : (inputs outs : List (List ℕ)) (clock : Option (List ℕ)) (e : LinkFault) → IsClash (inputs ++ outs) e → IsNameFault inputs outs clock e
clash_fault inputs outs clock (fault.UnknownCell n) clash = clash
clash_fault inputs outs clock (fault.UnsupportedCell n) clash = clash
clash_fault inputs outs clock (fault.UnknownPin n) clash = clash
clash_fault inputs outs clock (fault.OpenInput n) clash = clash
clash_fault inputs outs clock (fault.Undriven n) clash = clash
clash_fault inputs outs clock (fault.ManyDrivers n) clash = clash
clash_fault inputs outs clock (fault.Loop n) clash = clash
clash_fault inputs outs clock (fault.NotTheClock n) clash = clash
clash_fault inputs outs clock (fault.ClockAsData n) clash = clash
clash_fault inputs outs clock (fault.Recursive n) clash = clash
clash_fault inputs outs clock (fault.NameClash n) clash = clash
clash_fault inputs outs clock (fault.NoTop n) clash = clash
clash_fault inputs outs clock (fault.Limit kind n) clash = clash
clash_fault inputs outs clock (fault.BadSetting n) clash = absurd clash
clash_fault inputs outs clock fault.Memory clash = clash

none_among : (n : List ℕ) (names : List (List ℕ)) (b : Bool) → is_among n names ≡ b → (Contains names n → ⊥) → is_among n names ≡ false
none_among n names true e none = absurd (none (among_in n names e))
none_among n names false e none = e

-- what is known of the ports of a module once their names are looked at
pub record ArePorts (top : Module) (clock : Option (List ℕ)) (inputs outs : List PortName) : Type 0 where
  pub inputs_are : inputs ≡ ports_of (input_bits top)
  pub outs_are : outs ≡ ports_of (output_bits top)
  pub differ : are_distinct (port_names inputs ++ port_names outs) ≡ true
  pub clock_is : IsClockAmong (port_names inputs) clock

-- the names of all port bits
pub all_names : (top : Module) (inputs outs : List PortName) → inputs ≡ ports_of (input_bits top) → outs ≡ ports_of (output_bits top)
    → port_names inputs ++ port_names outs ≡ bit_names (input_bits top ++ output_bits top)
all_names top inputs outs inputs_are outs_are =
    ap (λ (ps : List PortName). port_names ps ++ port_names outs) inputs_are ∙ ap (λ (ps : List PortName). port_names (ports_of (input_bits top)) ++ port_names ps) outs_are
    ∙ ap (λ (ns : List (List ℕ)). ns ++ port_names (ports_of (output_bits top))) (names_of_bits (input_bits top))
    ∙ ap (λ (ns : List (List ℕ)). bit_names (input_bits top) ++ ns) (names_of_bits (output_bits top))
    ∙ sym (map-append (λ (b : PortBit). b.port.name) (input_bits top) (output_bits top))

-- the names of the data inputs
pub data_are : (top : Module) (clock : Option (List ℕ)) (inputs ins : List PortName) → inputs ≡ ports_of (input_bits top) → ins ≡ data_ports clock inputs
    → ins ≡ ports_of (data_bits clock top)
data_are top clock inputs ins inputs_are is = is ∙ ap (λ (ps : List PortName). data_ports clock ps) inputs_are ∙ data_is clock (input_bits top)

pub data_names_are : (top : Module) (clock : Option (List ℕ)) (inputs ins : List PortName) → inputs ≡ ports_of (input_bits top)
    → ins ≡ data_ports clock inputs → port_names ins ≡ bit_names (data_bits clock top)
data_names_are top clock inputs ins inputs_are is =
    ap (λ (ps : List PortName). port_names ps) (data_are top clock inputs ins inputs_are is) ∙ names_of_bits (data_bits clock top)

-- they differ from one another and from those of the outputs
pub data_differ : (top : Module) (clock : Option (List ℕ)) (inputs outs ins : List PortName) → ArePorts top clock inputs outs → ins ≡ data_ports clock inputs
    → are_distinct (port_names ins ++ port_names outs) ≡ true
data_differ top clock inputs outs ins are is =
    subst (λ (ps : List PortName). are_distinct (port_names ps ++ port_names outs) ≡ true) (sym is) (distinct_fewer clock inputs (port_names outs) are.differ)

absent_clock : (top : Module) (clock : Option (List ℕ)) (name : List ℕ) → clock ≡ Some name → (Contains (bit_names (input_bits top)) name → ⊥)
    → clock_bits clock top ≡ []
absent_clock top clock name is none =
    rw is (no_clock name (input_bits top) (none_among name (bit_names (input_bits top)) (is_among name (bit_names (input_bits top))) refl none))

clock_there : (top : Module) (clock : Option (List ℕ)) (name : List ℕ) → clock ≡ Some name → is_among name (bit_names (input_bits top)) ≡ true
    → clock_bits clock top ≡ [] → ⊥
clock_there top clock name is among none =
    some_clock name (input_bits top) among (let no : filter (is_clock_bit (Some name)) (input_bits top) ≡ [] = rw is at none in no)

-- a clock that is none of the inputs is a bad setting
no_clock_bits : (top : Module) (o : LinkOptions) (name : List ℕ) → o.clock ≡ Some name → (Contains (bit_names (input_bits top)) name → ⊥) → IsBadSetting top o name
no_clock_bits top o name is none = No_clock is (absent_clock top o.clock name is none)

-- a refusal of the names
pub name_cause : (top : Module) (o : LinkOptions) (inputs outs : List PortName) (e : LinkFault) → inputs ≡ ports_of (input_bits top)
    → outs ≡ ports_of (output_bits top) → IsNameFault (port_names inputs) (port_names outs) o.clock e → IsPortCause top o e
name_cause top o inputs outs (fault.UnknownCell n) inputs_are outs_are cause = cause
name_cause top o inputs outs (fault.UnsupportedCell n) inputs_are outs_are cause = cause
name_cause top o inputs outs (fault.UnknownPin n) inputs_are outs_are cause = cause
name_cause top o inputs outs (fault.OpenInput n) inputs_are outs_are cause = cause
name_cause top o inputs outs (fault.Undriven n) inputs_are outs_are cause = cause
name_cause top o inputs outs (fault.ManyDrivers n) inputs_are outs_are cause = cause
name_cause top o inputs outs (fault.Loop n) inputs_are outs_are cause = cause
name_cause top o inputs outs (fault.NotTheClock n) inputs_are outs_are cause = cause
name_cause top o inputs outs (fault.ClockAsData n) inputs_are outs_are cause = cause
name_cause top o inputs outs (fault.Recursive n) inputs_are outs_are cause = cause
name_cause top o inputs outs (fault.NameClash n) inputs_are outs_are cause =
    subst (λ (ns : List (List ℕ)). StandsTwice ns n) (all_names top inputs outs inputs_are outs_are) cause
name_cause top o inputs outs (fault.NoTop n) inputs_are outs_are cause = cause
name_cause top o inputs outs (fault.Limit kind n) inputs_are outs_are cause = cause
name_cause top o inputs outs (fault.BadSetting n) inputs_are outs_are cause =
    let names = ap (λ (ps : List PortName). port_names ps) inputs_are ∙ names_of_bits (input_bits top) in
    no_clock_bits top o n cause.0 (λ there. cause.1 (subst (λ (ns : List (List ℕ)). Contains ns n) (sym names) there))
name_cause top o inputs outs fault.Memory inputs_are outs_are cause = cause

unfit_cause : (top : Module) (o : LinkOptions) (n : List ℕ) → IsUnfitName (bit_names (data_bits o.clock top)) (set_names o) n → IsBadSetting top o n
unfit_cause top o n (inl (given, none)) = No_input given none
unfit_cause top o n (inr twice) = Twice twice

-- a refusal of the settings
pub setting_cause : (top : Module) (o : LinkOptions) (ins : List (List ℕ)) (e : LinkFault) → ins ≡ bit_names (data_bits o.clock top)
    → IsUnfit ins (set_names o) e → IsPortCause top o e
setting_cause top o ins (fault.UnknownCell n) is cause = cause
setting_cause top o ins (fault.UnsupportedCell n) is cause = cause
setting_cause top o ins (fault.UnknownPin n) is cause = cause
setting_cause top o ins (fault.OpenInput n) is cause = cause
setting_cause top o ins (fault.Undriven n) is cause = cause
setting_cause top o ins (fault.ManyDrivers n) is cause = cause
setting_cause top o ins (fault.Loop n) is cause = cause
setting_cause top o ins (fault.NotTheClock n) is cause = cause
setting_cause top o ins (fault.ClockAsData n) is cause = cause
setting_cause top o ins (fault.Recursive n) is cause = cause
setting_cause top o ins (fault.NameClash n) is cause = absurd cause
setting_cause top o ins (fault.NoTop n) is cause = cause
setting_cause top o ins (fault.Limit kind n) is cause = cause
setting_cause top o ins (fault.BadSetting n) is cause = unfit_cause top o n (subst (λ (d : List (List ℕ)). IsUnfitName d (set_names o) n) is cause)
setting_cause top o ins fault.Memory is cause = cause

-- all settings, the fixed ones first
all_given : (ins : List (List ℕ)) (o : LinkOptions) (h : Held) → IsHeldAt ins o h → AllZip (IsGiven ins) (o.fixed ++ o.resets) (h.fixed ++ h.resets)
all_given ins o h held = zip_append (IsGiven ins) o.fixed h.fixed o.resets h.resets held.fixed held.resets

clock_met : (top : Module) (clock : Option (List ℕ)) (name : List ℕ) → IsClockAmong (bit_names (input_bits top)) clock → clock ≡ Some name
    → is_among name (bit_names (input_bits top)) ≡ true
clock_met top None name among is = cc
clock_met top (Some clock) name among is =
    let same : clock ≡ name = cc in subst (λ (n : List ℕ). is_among n (bit_names (input_bits top)) ≡ true) same
    (in_among clock (bit_names (input_bits top)) among)

-- no setting is bad
pub settings_fit : (top : Module) (o : LinkOptions) (ins : List (List ℕ)) (h : Held) → ins ≡ bit_names (data_bits o.clock top)
    → IsClockAmong (bit_names (input_bits top)) o.clock → IsHeldAt ins o h → are_distinct (set_names o) ≡ true → (name : List ℕ) → IsBadSetting top o name → ⊥
settings_fit top o ins h is clock held differ name (No_clock named none) = clock_there top o.clock name named (clock_met top o.clock name clock named) none
settings_fit top o ins h is clock held differ name (No_input given none) =
    none (subst (λ (ns : List (List ℕ)). Contains ns name) is
    (given_among ins (o.fixed ++ o.resets) (h.fixed ++ h.resets) name (all_given ins o h held) (in_among name (set_names o) given)))
settings_fit top o ins h is clock held differ name (Twice twice) = apart (set_names o) differ name twice

-- what is set can be held by a design of these inputs
held_by : (ins : List (List ℕ)) (o : LinkOptions) (h : Held) → IsHeldAt ins o h → are_distinct (set_names o) ≡ true → o.reset_len ≤ 64
    → IsHeldBy (length ins) h
held_by ins o h held differ short =
    let all = all_given ins o h held in
    let joined = map-append (λ (f : Fixed). f.input) h.fixed h.resets in
    record {
      below = subst (λ (ns : List ℕ). AllBelow (length ins) ns) joined (inputs_below ins (o.fixed ++ o.resets) (h.fixed ++ h.resets) all);
      once = λ i lt. subst (λ (ns : List ℕ). count_by (λ m. m == i) ns ≤ 1) joined
          (given_once ins i (o.fixed ++ o.resets) (h.fixed ++ h.resets) all differ);
      reset_len = omega (arith, held.reset_len, short);
    }

-- the clock by name
pub clock_named : (top : Module) (clock : Option (List ℕ)) (inputs : List PortName) (port : Option PortName) → inputs ≡ ports_of (input_bits top)
    → port ≡ clock_in clock inputs → port ≡ clock_port clock top
clock_named top clock inputs port inputs_are is = is ∙ ap (λ (ps : List PortName). clock_in clock ps) inputs_are ∙ clock_is clock (input_bits top)

-- the ports with what is set
pub ports_made : (top : Module) (o : LinkOptions) (inputs : List PortName) (p : TopPorts) → ArePorts top o.clock inputs p.outs
    → p.ins ≡ data_ports o.clock inputs → p.clock ≡ clock_port o.clock top → IsHeldAt (port_names p.ins) o p.held → are_distinct (set_names o) ≡ true
    → o.reset_len ≤ 64 → AreTopPorts top o p
ports_made top o inputs p are is named held differ short =
    let ins = data_names_are top o.clock inputs p.ins are.inputs_are is in
    let len : length (port_names p.ins) ≡ length (bit_nets (data_bits o.clock top)) =
    ap length ins ∙ length-map (data_bits o.clock top) (λ (b : PortBit). b.port.name) ∙ sym (length-map (data_bits o.clock top) (λ (b : PortBit). b.net)) in
    let at = subst (λ (d : List (List ℕ)). IsHeldAt d o p.held) ins held in
    record {
      ins = data_are top o.clock inputs p.ins are.inputs_are is;
      outs = are.outs_are;
      clock = named;
      differ = subst (λ (ns : List (List ℕ)). IsDistinct bytes_eq ns) (sym (map-append (λ (x : PortName). x.name) p.ins p.outs))
          (distinct_by_test (port_names p.ins ++ port_names p.outs) (data_differ top o.clock inputs p.outs p.ins are is));
      fixed = all_set (data_bits o.clock top) o.fixed p.held.fixed at.fixed;
      resets = all_set (data_bits o.clock top) o.resets p.held.resets at.resets;
      reset_len = held.reset_len;
      held = subst (λ (n : ℕ). IsHeldBy n p.held) len (held_by (port_names p.ins) o p.held held differ short);
    }
