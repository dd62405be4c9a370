-- The bits of ports by name.
use Rattle.std.proofs.Common.{◌≡◌, ℕ, Bool, true, false, cond, List, [], ◌∷◌, ◌++◌, map, refl, ap, sym, ◌∙◌}
use Rattle.std.specs.Prelude.{flat_map, filter}
use Rattle.std.proofs.lemmas.List.{map-append}
use Rattle.netlist_types.specs.declared.sources.Module.{Module}
use Rattle.netlist_types.specs.declared.sources.Port.{Port}
use Rattle.linked_types.specs.declared.names.PortName.{PortName}
use Rattle.link_defs.specs.Circuits.{PortBit, port_bit, bits_of}
use Rattle.link_defs.specs.Links.{ports_of}
use Rattle.link_tops.specs.Ports.{bit_name, bit_names_if}

bits_named : (m : Module) (p : Port) (bits : List ℕ) → ports_of (map (port_bit m p) bits) ≡ map (bit_name m p) bits
bits_named m p [] = refl
bits_named m p (bit ∷ bits) = ap (λ ns. bit_name m p bit ∷ ns) (bits_named m p bits)

port_or : (t : Port → Bool) (m : Module) (p : Port) (ps : List Port) (b : Bool) → t p ≡ b
    → flat_map (λ (q : Port). bit_names_if (t q) m q) ps ≡ ports_of (flat_map (bits_of m) (filter t ps))
    → bit_names_if (t p) m p ++ flat_map (λ (q : Port). bit_names_if (t q) m q) ps
    ≡ ports_of (flat_map (bits_of m) (cond b (p ∷ filter t ps) (filter t ps)))
port_or t m p ps true e further =
    let rest = flat_map (bits_of m) (filter t ps) in
    rw e (ap (λ (ns : List PortName). map (bit_name m p) p.bits ++ ns) further
    ∙ ap (λ (ns : List PortName). ns ++ ports_of rest) (sym (bits_named m p p.bits))
    ∙ sym (map-append (λ (b : PortBit). b.port) (bits_of m p) rest))
port_or t m p ps false e further = rw e further

-- the names of the bits of the ports that pass a test, port by port
pub names_are : (t : Port → Bool) (m : Module) (ps : List Port)
    → flat_map (λ (q : Port). bit_names_if (t q) m q) ps ≡ ports_of (flat_map (bits_of m) (filter t ps))
names_are t m [] = refl
names_are t m (p ∷ ps) = port_or t m p ps (t p) refl (names_are t m ps)
