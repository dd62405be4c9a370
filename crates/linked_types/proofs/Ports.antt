-- Port bits among the data inputs and the outputs.
use Rattle.std.proofs.Common.{arith, ◌≡◌, ◌∙◌, ℕ, ◌+◌, ◌<◌, List, ◌++◌, length, map, ap, append-nil}
use Rattle.std.proofs.lemmas.List.{length-append, length-map}
use Rattle.linked_types.specs.declared.names.Linked.{Linked}
use Rattle.linked_types.specs.declared.names.Names.{Names}
use Rattle.linked_types.specs.declared.names.PortName.{PortName}
use Rattle.linked_types.specs.Inputs.{input_names, output_names}
use Rattle.linked_types.specs.Narrow.{IsWhole}
use Rattle.linked_types.specs.Usable.{IsUsable}

-- where nothing is cut out and nothing is assumed, the data inputs are the input ports' bits
pub input_count : (n : Names) → IsWhole n → length (input_names n) ≡ length n.ins
input_count n whole =
    rw (whole.free, whole.assumed) (ap (λ (xs : List (List ℕ)). length xs) (append-nil (map (λ (p : PortName). p.name) n.ins))
    ∙ length-map n.ins (λ (p : PortName). p.name))

-- and the outputs are the output ports' bits
pub output_count : (n : Names) → IsWhole n → length (output_names n) ≡ length n.outs
output_count n whole =
    rw whole.sinks (ap (λ (xs : List (List ℕ)). length xs) (append-nil (map (λ (p : PortName). p.name) n.outs))
    ∙ length-map n.outs (λ (p : PortName). p.name))

-- an input port's bit is a data input
pub within_inputs : (l : Linked) (k : ℕ) → IsUsable l → k < length l.names.ins → k < length l.design.inputs
within_inputs l k usable low =
    let ports : length (map (λ (p : PortName). p.name) l.names.ins) ≡ length l.names.ins = length-map l.names.ins (λ (p : PortName). p.name) in
    let all : length (input_names l.names) ≡ length (map (λ (p : PortName). p.name) l.names.ins) + length (l.names.free ++ l.names.assumed) =
    length-append (map (λ (p : PortName). p.name) l.names.ins) (l.names.free ++ l.names.assumed) in
    omega (arith, low, ports, all, usable.ins)

-- an output port's bit is an output
pub within_outputs : (l : Linked) (k : ℕ) → IsUsable l → k < length l.names.outs → k < length l.design.outputs
within_outputs l k usable low =
    let ports : length (map (λ (p : PortName). p.name) l.names.outs) ≡ length l.names.outs = length-map l.names.outs (λ (p : PortName). p.name) in
    let all : length (output_names l.names) ≡ length (map (λ (p : PortName). p.name) l.names.outs) + length l.names.sinks =
    length-append (map (λ (p : PortName). p.name) l.names.outs) l.names.sinks in
    omega (arith, low, ports, all, usable.outs)
