-- What the objects of a script name (SDC 2.1, object access).
use Rattle.std.proofs.Common.{◌≡◌, ℕ, true, false, List, [], ◌∷◌, Some, None, refl}
use Rattle.std.specs.Prelude.{codes}
use Rattle.glob.specs.Match.{matches_whole, matches_after, star}
use Rattle.linked_types.specs.declared.names.PortName.{PortName}
use Rattle.script_types.specs.declared.objects.Class.TheVariants.{Ports, Cells, Any}
use Rattle.script_types.specs.declared.objects.Query.{Query}
use Rattle.script_types.specs.declared.objects.Object.TheVariants.{Named, AllRegisters}
use Rattle.sdc_settings.specs.Inputs.{named_places, is_port_object}

-- input d[1], input d[0] of the bus d, and input e
abbrev inputs : List PortName
inputs =
    record { name = codes "d[1]"; bus = Some (codes "d") } ∷ record { name = codes "d[0]"; bus = Some (codes "d") }
    ∷ record { name = codes "e"; bus = None } ∷ []

-- the query of a pattern for ports
abbrev ports : List ℕ → Query
ports pattern = record { class = Ports; hier = false; pattern = pattern }

-- the places that a pattern names, as the values below compute them
reads : Query → List ℕ
unfolding named_places matches_whole matches_after star
reads q = named_places q inputs

-- the name of a bus names each bit of it
name_of_a_bus_names_its_bits : named_places (ports (codes "d")) inputs ≡ 0 ∷ 1 ∷ []
unfolding reads
name_of_a_bus_names_its_bits = refl

-- the name of a bit names it alone
name_of_a_bit_names_it_alone : named_places (ports (codes "d[0]")) inputs ≡ 1 ∷ []
unfolding reads
name_of_a_bit_names_it_alone = refl

-- a star names them all, in their order
star_names_all_ports : named_places (ports (codes "*")) inputs ≡ 0 ∷ 1 ∷ 2 ∷ []
unfolding reads
star_names_all_ports = refl

-- a name that no port has
unknown_name_names_nothing : named_places (ports (codes "f")) inputs ≡ []
unfolding reads
unknown_name_names_nothing = refl

-- a pattern for cells is none for ports
pattern_for_cells_is_none_for_ports : is_port_object (Named (record { class = Cells; hier = false; pattern = codes "e" })) ≡ false
pattern_for_cells_is_none_for_ports = refl

-- a pattern for whatever there is may name ports
pattern_without_a_class_may_name_ports : is_port_object (Named (record { class = Any; hier = false; pattern = codes "e" })) ≡ true
pattern_without_a_class_may_name_ports = refl

-- a case analysis may not have all registers
all_registers_are_no_ports : is_port_object AllRegisters ≡ false
all_registers_are_no_ports = refl
