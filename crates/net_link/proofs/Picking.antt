-- The bits without the clock's, and their names.
use Rattle.std.proofs.Common.{◌≡◌, ℕ, Bool, true, false, not, ◌||◌, cond, List, [], ◌∷◌, ◌++◌, refl, ap, ◌∙◌}
use Rattle.std.specs.Prelude.{Option, Some, None, filter}
use Rattle.std.specs.Str.{bytes_eq}
use Rattle.std.proofs.lemmas.Bool.{and_parts, or_parts, not-true}
use Rattle.texts.specs.Names.{is_among, are_distinct}
use Rattle.linked_types.specs.declared.names.PortName.{PortName}
use Rattle.link_defs.specs.Circuits.{PortBit, first_port, is_clock as is_clock_bit}
use Rattle.link_defs.specs.Faults.{bit_names}
use Rattle.link_defs.specs.Links.{ports_of}
use Rattle.link_items.proofs.Searching.{eq_flips}
use Rattle.link_tops.specs.Clashes.{port_names}
use Rattle.net_link.specs.Data.{is_clock, clock_in, data_port, data_ports}

-- bits have the names of their ports
pub names_of_bits : (bits : List PortBit) → port_names (ports_of bits) ≡ bit_names bits
names_of_bits [] = refl
names_of_bits (b ∷ bs) = ap (λ (ns : List (List ℕ)). b.port.name ∷ ns) (names_of_bits bs)

clock_same : (clock : Option (List ℕ)) (b : PortBit) → is_clock clock b.port.name ≡ is_clock_bit clock b
clock_same None b = refl
clock_same (Some name) b = refl

data_or : (clock : Option (List ℕ)) (b : PortBit) (bs kept : List PortBit) (t : Bool) → is_clock_bit clock b ≡ t
    → data_ports clock (ports_of bs) ≡ ports_of kept → data_port clock b.port ++ data_ports clock (ports_of bs) ≡ ports_of (cond (not t) (b ∷ kept) kept)
data_or clock b bs kept true e further = let is : is_clock clock b.port.name ≡ true = clock_same clock b ∙ e in rw is further
data_or clock b bs kept false e further =
    let is : is_clock clock b.port.name ≡ false = clock_same clock b ∙ e in rw is (ap (λ (ps : List PortName). b.port ∷ ps) further)

-- the names of the data inputs
pub data_is : (clock : Option (List ℕ)) (bits : List PortBit)
    → data_ports clock (ports_of bits) ≡ ports_of (filter (λ (b : PortBit). not (is_clock_bit clock b)) bits)
data_is clock [] = refl
data_is clock (b ∷ bs) =
    data_or clock b bs (filter (λ (b : PortBit). not (is_clock_bit clock b)) bs) (is_clock_bit clock b) refl (data_is clock bs)

clock_or : (clock : Option (List ℕ)) (b : PortBit) (bs : List PortBit) (t : Bool) → is_clock_bit clock b ≡ t
    → clock_in clock (ports_of bs) ≡ first_port (filter (is_clock_bit clock) bs)
    → clock_in clock (ports_of (b ∷ bs)) ≡ first_port (filter (is_clock_bit clock) (b ∷ bs))
clock_or clock b bs true e further = let is : is_clock clock b.port.name ≡ true = clock_same clock b ∙ e in rw (is, e) refl
clock_or clock b bs false e further = let is : is_clock clock b.port.name ≡ false = clock_same clock b ∙ e in rw (is, e) further

-- the name of the clock
pub clock_is : (clock : Option (List ℕ)) (bits : List PortBit)
    → clock_in clock (ports_of bits) ≡ first_port (filter (is_clock_bit clock) bits)
clock_is clock [] = refl
clock_is clock (b ∷ bs) = clock_or clock b bs (is_clock_bit clock b) refl (clock_is clock bs)

among_or : (n : List ℕ) (clock : Option (List ℕ)) (p : PortName) (ps : List PortName) (ys : List (List ℕ)) (t : Bool) → is_clock clock p.name ≡ t
    → bytes_eq n p.name ≡ false → is_among n (port_names (data_ports clock ps) ++ ys) ≡ false
    → is_among n (port_names (data_port clock p ++ data_ports clock ps) ++ ys) ≡ false
among_or n clock p ps ys true e here there = rw e there
among_or n clock p ps ys false e here there = rw e (rw (here, there) refl)

-- a name that is none of the bits' is none of the data inputs'
among_fewer : (n : List ℕ) (clock : Option (List ℕ)) (ps : List PortName) (ys : List (List ℕ)) → is_among n (port_names ps ++ ys) ≡ false
    → is_among n (port_names (data_ports clock ps) ++ ys) ≡ false
among_fewer n clock [] ys none = none
among_fewer n clock (p ∷ ps) ys none =
    let (here, there) = or_parts (bytes_eq n p.name) (is_among n (port_names ps ++ ys)) none in
    among_or n clock p ps ys (is_clock clock p.name) refl here (among_fewer n clock ps ys there)

differ_or : (clock : Option (List ℕ)) (p : PortName) (ps : List PortName) (ys : List (List ℕ)) (t : Bool) → is_clock clock p.name ≡ t
    → is_among p.name (port_names (data_ports clock ps) ++ ys) ≡ false → are_distinct (port_names (data_ports clock ps) ++ ys) ≡ true
    → are_distinct (port_names (data_port clock p ++ data_ports clock ps) ++ ys) ≡ true
unfolding are_distinct
differ_or clock p ps ys true e new rest = rw e rest
differ_or clock p ps ys false e new rest = rw e (rw (new, rest) refl)

-- where the bits' names differ, so do those without the clock's
pub distinct_fewer : (clock : Option (List ℕ)) (ps : List PortName) (ys : List (List ℕ)) → are_distinct (port_names ps ++ ys) ≡ true
    → are_distinct (port_names (data_ports clock ps) ++ ys) ≡ true
unfolding are_distinct
distinct_fewer clock [] ys differ = differ
distinct_fewer clock (p ∷ ps) ys differ =
    let (new, rest) = and_parts (not (is_among p.name (port_names ps ++ ys))) (are_distinct (port_names ps ++ ys)) differ in
    differ_or clock p ps ys (is_clock clock p.name) refl
    (among_fewer p.name clock ps ys (not-true (is_among p.name (port_names ps ++ ys)) new)) (distinct_fewer clock ps ys rest)

-- no bit has a name that is none of the bits'
pub no_clock : (name : List ℕ) (bits : List PortBit) → is_among name (bit_names bits) ≡ false → filter (is_clock_bit (Some name)) bits ≡ []
no_clock name [] none = refl
no_clock name (b ∷ bs) none =
    let (here, there) = or_parts (bytes_eq name b.port.name) (is_among name (bit_names bs)) none in
    let miss : bytes_eq b.port.name name ≡ false = eq_flips b.port.name name ∙ here in
    rw miss (no_clock name bs there)

some_or : (name : List ℕ) (b : PortBit) (bs : List PortBit) (t : Bool) → bytes_eq b.port.name name ≡ t
    → (is_among name (bit_names bs) ≡ true → filter (is_clock_bit (Some name)) bs ≡ [] → ⊥)
    → (bytes_eq name b.port.name || is_among name (bit_names bs)) ≡ true
    → cond t (b ∷ filter (is_clock_bit (Some name)) bs) (filter (is_clock_bit (Some name)) bs) ≡ [] → ⊥
some_or name b bs true e further among none = cc
some_or name b bs false e further among none =
    let miss : bytes_eq name b.port.name ≡ false = eq_flips name b.port.name ∙ e in
    further (let there : is_among name (bit_names bs) ≡ true = rw miss at among in there) none

-- and one has a name that is
pub some_clock : (name : List ℕ) (bits : List PortBit) → is_among name (bit_names bits) ≡ true → filter (is_clock_bit (Some name)) bits ≡ [] → ⊥
some_clock name [] among none = cc
some_clock name (b ∷ bs) among none = some_or name b bs (bytes_eq b.port.name name) refl (some_clock name bs) among none
