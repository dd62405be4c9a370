-- Patterns that name no port.
use Rattle.std.proofs.Common.{◌≡◌, ◌∙◌, inl, inr, ℕ, ◌+◌, true, false, ◌||◌, List, [], ◌∷◌, ◌++◌, flat_map, refl, sym}
use Rattle.std.specs.Prelude.{Option, Some, None}
use Rattle.std.specs.List.{list_any}
use Rattle.std.specs.Str.{bytes_eq}
use Rattle.std.proofs.lemmas.Bool.{cases_Bool, or_parts}
use Rattle.std.proofs.lemmas.List.Folds.{list_any-append}
use Rattle.std.proofs.lemmas.Slice.Eq.{bytes_eq-Decides}
use Rattle.texts.specs.Names.{is_among, each_once}
use Rattle.texts.proofs.NameLemmas.{is_among-with_names}
use Rattle.glob.specs.Indexes.{IsExact}
use Rattle.linked_types.specs.declared.names.Names.{Names}
use Rattle.linked_types.specs.declared.names.PortName.{PortName}
use Rattle.script_types.specs.declared.objects.Query.{Query}
use Rattle.sdc_settings.specs.Inputs.{names_bit, names_bus}
use Rattle.sdcv_base.specs.Seqs.{each_at, option_list}
use Rattle.sdc_objects.specs.Tables.{bit_names, clock_names, port_names}
use Rattle.sdc_objects.specs.Things.{names, bit_named, clock_port_named, ports_named}
use Rattle.sdc_objects.specs.declared.things.Side.{Side}
use Rattle.sdc_objects.specs.declared.things.Side.TheVariants.{In, Out}

-- an exact pattern matches no other name
unnamed : (q : Query) (name : List ℕ) → IsExact q.pattern q.hier → bytes_eq q.pattern name ≡ false → names q name ≡ false
unnamed q name exact other =
    elim (cases_Bool (names q name)) [
      | inl match ↦ let (f, g) = bytes_eq-Decides q.pattern name in absurd (let bad : true ≡ false = sym (g (sym ((exact name).0 match))) ∙ other in cc)
      | inr miss ↦ miss
    ]

unnamed_bit : (q : Query) (name : List ℕ) (bus : Option (List ℕ)) → IsExact q.pattern q.hier → is_among q.pattern (name ∷ option_list bus) ≡ false
    → (names q name || names_bus q bus) ≡ false
unnamed_bit q name None exact absent =
    let (here, rest) = or_parts (bytes_eq q.pattern name) false absent in
    rw (unnamed q name exact here) refl
unnamed_bit q name (Some b) exact absent =
    let (here, there) = or_parts (bytes_eq q.pattern name) (is_among q.pattern (b ∷ [])) absent in
    let (bus, rest) = or_parts (bytes_eq q.pattern b) false there in
    rw (unnamed q name exact here, unnamed q b exact bus) refl

no_bits : (q : Query) (side : Side) (i : ℕ) (ports : List PortName) → IsExact q.pattern q.hier → is_among q.pattern (flat_map bit_names ports) ≡ false
    → each_at (bit_named q side) i ports ≡ []
no_bits q side i [] exact absent = refl
no_bits q side i (p ∷ ps) exact absent =
    let (here, there) = or_parts (is_among q.pattern (bit_names p)) (is_among q.pattern (flat_map bit_names ps))
    (sym (list_any-append (bytes_eq q.pattern) (bit_names p) (flat_map bit_names ps)) ∙ absent) in
    let none : names_bit q p ≡ false = unnamed_bit q p.name p.bus exact here in
    rw (none, no_bits q side (i + 1) ps exact there) refl

no_clock_port : (q : Query) (clock : Option PortName) → IsExact q.pattern q.hier → is_among q.pattern (clock_names clock) ≡ false
    → clock_port_named q clock ≡ []
no_clock_port q None exact absent = refl
no_clock_port q (Some port) exact absent =
    let (here, rest) = or_parts (bytes_eq q.pattern port.name) false absent in
    rw (unnamed q port.name exact here) refl

-- nor a port, where it is not among the names of ports
pub no_ports : (q : Query) (n : Names) → IsExact q.pattern q.hier → is_among q.pattern (each_once (port_names n)) ≡ false → ports_named q n ≡ []
no_ports q n exact absent =
    let ins : List (List ℕ) = flat_map bit_names n.ins in
    let clock : List (List ℕ) = clock_names n.clock in
    let outs : List (List ℕ) = flat_map bit_names n.outs in
    let all : list_any (bytes_eq q.pattern) ((ins ++ clock) ++ outs) ≡ false = sym (is_among-with_names q.pattern [] (port_names n)) ∙ absent in
    let (first, last) = or_parts (is_among q.pattern (ins ++ clock)) (is_among q.pattern outs)
    (sym (list_any-append (bytes_eq q.pattern) (ins ++ clock) outs) ∙ all) in
    let (here, there) = or_parts (is_among q.pattern ins) (is_among q.pattern clock) (sym (list_any-append (bytes_eq q.pattern) ins clock) ∙ first) in
    rw (no_bits q In 0 n.ins exact here, no_clock_port q n.clock exact there, no_bits q Out 0 n.outs exact last) refl
