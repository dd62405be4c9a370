-- The bits of a port, one by one.
use Rattle.std.proofs.Common.{◌≡◌, ℕ, ◌+◌, ◌≤◌, List, [], ◌∷◌, ◌++◌, length, drop, Some, refl, ap, sym, ◌∙◌, length-set, append_assoc}
use Rattle.std.specs.Prelude.{slice_get, slice_index}
use Rattle.netlist_types.specs.declared.sources.Wire.{Wire}
use Rattle.netlist_types.specs.declared.sources.Wire.TheVariants as wire
use Rattle.link_defs.specs.declared.circuits.Part.{Part}
use Rattle.link_defs.specs.Flatten.{join_bit, join_bits}
use Rattle.link_defs.specs.Parts.{ties, bit_ties}
use Rattle.link_items.proofs.Listing.{drop_next, drop_past, with_none}

pub join_more : (outer nets bits : List ℕ) (wires : List Wire) (i bit : ℕ) (w : Wire) → slice_get bits i ≡ Some bit → slice_get wires i ≡ Some w
    → join_bits outer nets (drop i bits) (drop i wires) ≡ join_bits outer (join_bit outer nets bit w) (drop (i + 1) bits) (drop (i + 1) wires)
unfolding join_bits
join_more outer nets bits wires i bit w at here =
    ap (λ (bs : List ℕ). join_bits outer nets bs (drop i wires)) (drop_next bits i bit at)
    ∙ ap (λ (ws : List Wire). join_bits outer nets (bit ∷ drop (i + 1) bits) ws) (drop_next wires i w here)

-- bits without wires stay
pub join_none : (outer nets bits : List ℕ) → join_bits outer nets bits [] ≡ nets
unfolding join_bits
join_none outer nets [] = refl
join_none outer nets (bit ∷ bits) = refl

pub join_end : (outer nets bits : List ℕ) (wires : List Wire) (i : ℕ) → length wires ≤ i → join_bits outer nets (drop i bits) (drop i wires) ≡ nets
join_end outer nets bits wires i le =
    ap (λ (ws : List Wire). join_bits outer nets (drop i bits) ws) (drop_past wires i le) ∙ join_none outer nets (drop i bits)

pub length_join : (outer nets : List ℕ) (bit : ℕ) (w : Wire) → length (join_bit outer nets bit w) ≡ length nets
length_join outer nets bit (wire.Const b) = refl
length_join outer nets bit (wire.Net n) = length-set nets bit (slice_index outer n)

bit_ties_next : (first bit : ℕ) (bits : List ℕ) (w : Wire) (ws : List Wire) → bit_ties first (bit ∷ bits) (w ∷ ws) ≡ ties (first + bit) (w ∷ []) ++ bit_ties
    first bits ws
bit_ties_next first bit bits w ws = refl

pub bit_ties_more : (parts : List Part) (first : ℕ) (bits : List ℕ) (wires : List Wire) (i bit : ℕ) (w : Wire) → slice_get bits i ≡ Some bit
    → slice_get wires i ≡ Some w
    → parts ++ bit_ties first (drop i bits) (drop i wires) ≡ parts ++ ties (first + bit) (w ∷ []) ++ bit_ties first (drop (i + 1) bits) (drop (i + 1) wires)
bit_ties_more parts first bits wires i bit w at here =
    ap (λ (bs : List ℕ). parts ++ bit_ties first bs (drop i wires)) (drop_next bits i bit at)
    ∙ ap (λ (ws : List Wire). parts ++ bit_ties first (bit ∷ drop (i + 1) bits) ws) (drop_next wires i w here)
    ∙ ap (λ ps. parts ++ ps) (bit_ties_next first bit (drop (i + 1) bits) w (drop (i + 1) wires))
    ∙ sym (append_assoc parts (ties (first + bit) (w ∷ [])) (bit_ties first (drop (i + 1) bits) (drop (i + 1) wires)))

-- bits without wires have no constants
bit_ties_none : (first : ℕ) (bits : List ℕ) → bit_ties first bits [] ≡ []
bit_ties_none first [] = refl
bit_ties_none first (bit ∷ bits) = refl

pub bit_ties_end : (parts : List Part) (first : ℕ) (bits : List ℕ) (wires : List Wire) (i : ℕ) → length wires ≤ i
    → parts ++ bit_ties first (drop i bits) (drop i wires) ≡ parts
bit_ties_end parts first bits wires i le =
    ap (λ (ws : List Wire). parts ++ bit_ties first (drop i bits) ws) (drop_past wires i le)
    ∙ ap (λ ps. parts ++ ps) (bit_ties_none first (drop i bits)) ∙ with_none parts
