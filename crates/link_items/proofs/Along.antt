-- Lists made along others, from a first number on.
use Rattle.std.proofs.Common.{◌≡◌, ℕ, zero, suc, ◌+◌, List, [], ◌∷◌, ◌++◌, length, take, Some, refl, ap, sym, ◌∙◌, arith, append_assoc}
use Rattle.std.proofs.Common.{add-zero, add-one}
use Rattle.std.specs.Prelude.{slice_get}
use Rattle.net_model.specs.Form.{Form, PinForm}
use Rattle.net_model.specs.declared.netlist.Gate.{Gate}
use Rattle.net_model.specs.declared.netlist.RegOut.{RegOut}
use Rattle.netlist_types.specs.declared.sources.Conn.{Conn}
use Rattle.netlist_types.specs.declared.sources.Wire.{Wire}
use Rattle.netlist_types.specs.declared.sources.Wire.TheVariants as wire
use Rattle.cell_types.specs.declared.libraries.CombOut.{CombOut}
use Rattle.cell_types.specs.declared.libraries.FlopOut.{FlopOut}
use Rattle.link_defs.specs.declared.circuits.Part.{Part}
use Rattle.link_defs.specs.Hierarchy.{wires_of}
use Rattle.link_defs.specs.Parts.{wire_net, wire_nets, ties, pin_net, pin_nets, pin_ties, comb_gates, reg_outs, folded}
use Rattle.link_defs.specs.Flatten.{numbers}
use Rattle.link_items.proofs.Listing.{with_none}

-- what each item gives with its number, the numbers from a first one on
pub along : {A B : Type 0} → (ℕ → A → List B) → ℕ → List A → List B
along g own [] = []
along g own (x ∷ xs) = g own x ++ along g (own + 1) xs

-- one item more
along_next : {A B : Type 0} (g : ℕ → A → List B) (own : ℕ) (xs : List A) (i : ℕ) (x : A) → slice_get xs i ≡ Some x
    → along g own (take (suc i) xs) ≡ along g own (take i xs) ++ g (own + i) x
unfolding along
along_next g own [] i x at = cc
along_next g own (y ∷ ys) zero x at =
    let same : y ≡ x = cc in
    with_none (g own y) ∙ ap (λ z. g own z) same ∙ ap (λ n. g n x) (sym (add-zero own))
along_next g own (y ∷ ys) (suc i) x at =
    let number : own + 1 + i ≡ own + suc i = omega arith in
    ap (λ zs. g own y ++ zs) (along_next g (own + 1) ys i x at ∙ ap (λ n. along g (own + 1) (take i ys) ++ g n x) number)
    ∙ sym (append_assoc (g own y) (along g (own + 1) (take i ys)) (g (own + suc i) x))

pub along_more : {A B : Type 0} (g : ℕ → A → List B) (own : ℕ) (xs : List A) (i : ℕ) (x : A) → slice_get xs i ≡ Some x
    → along g own (take (i + 1) xs) ≡ along g own (take i xs) ++ g (own + i) x
along_more g own xs i x at = ap (λ n. along g own (take n xs)) (add-one i) ∙ along_next g own xs i x at

-- one more of what is a list along another
more_of : {A B : Type 0} (f : ℕ → List A → List B) (g : ℕ → A → List B) → ((own : ℕ) (xs : List A) → f own xs ≡ along g own xs)
    → (own : ℕ) (xs : List A) (i : ℕ) (x : A) → slice_get xs i ≡ Some x → f own (take (i + 1) xs) ≡ f own (take i xs) ++ g (own + i) x
more_of f g same own xs i x at =
    same own (take (i + 1) xs) ∙ along_more g own xs i x at ∙ ap (λ ys. ys ++ g (own + i) x) (sym (same own (take i xs)))

-- the constant that a wire is
abbrev tie : ℕ → Wire → List Part
tie own w = ties own (w ∷ [])

ties_along : (own : ℕ) (ws : List Wire) → ties own ws ≡ along tie own ws
unfolding along
ties_along own [] = refl
ties_along own (wire.Const b ∷ ws) = ap (λ ps. tie own (wire.Const b) ++ ps) (ties_along (own + 1) ws)
ties_along own (wire.Net n ∷ ws) = ties_along (own + 1) ws

pub ties_more : (own : ℕ) (ws : List Wire) (i : ℕ) (w : Wire) → slice_get ws i ≡ Some w
    → ties own (take (i + 1) ws) ≡ ties own (take i ws) ++ ties (own + i) (w ∷ [])
ties_more own ws i w at = more_of ties tie ties_along own ws i w at

wire_nets_along : (nets : List ℕ) (own : ℕ) (ws : List Wire) → wire_nets nets own ws ≡ along (λ n w. wire_net nets n w ∷ []) own ws
unfolding along
wire_nets_along nets own [] = refl
wire_nets_along nets own (w ∷ ws) = ap (λ ns. wire_net nets own w ∷ ns) (wire_nets_along nets (own + 1) ws)

pub wire_nets_more : (nets : List ℕ) (own : ℕ) (ws : List Wire) (i : ℕ) (w : Wire) → slice_get ws i ≡ Some w
    → wire_nets nets own (take (i + 1) ws) ≡ wire_nets nets own (take i ws) ++ wire_net nets (own + i) w ∷ []
wire_nets_more nets own ws i w at = more_of (wire_nets nets) (λ n w. wire_net nets n w ∷ []) (wire_nets_along nets) own ws i w at

-- the net of a pin by its number
abbrev pin_one : List ℕ → List Conn → ℕ → List ℕ → List ℕ
pin_one nets conns own pin = pin_net nets own (wires_of conns pin) ∷ []

pin_nets_along : (nets : List ℕ) (conns : List Conn) (own : ℕ) (pins : List (List ℕ)) → pin_nets nets conns own pins ≡ along (pin_one nets conns) own pins
unfolding along
pin_nets_along nets conns own [] = refl
pin_nets_along nets conns own (p ∷ ps) = ap (λ ns. pin_net nets own (wires_of conns p) ∷ ns) (pin_nets_along nets conns (own + 1) ps)

pub pin_nets_more : (nets : List ℕ) (conns : List Conn) (own : ℕ) (pins : List (List ℕ)) (i : ℕ) (p : List ℕ) → slice_get pins i ≡ Some p
    → pin_nets nets conns own (take (i + 1) pins) ≡ pin_nets nets conns own (take i pins) ++ pin_net nets (own + i) (wires_of conns p) ∷ []
pin_nets_more nets conns own pins i p at = more_of (pin_nets nets conns) (pin_one nets conns) (pin_nets_along nets conns) own pins i p at

abbrev pin_tie : List Conn → ℕ → List ℕ → List Part
pin_tie conns own pin = ties own (wires_of conns pin)

pin_ties_along : (conns : List Conn) (own : ℕ) (pins : List (List ℕ)) → pin_ties conns own pins ≡ along (pin_tie conns) own pins
unfolding along
pin_ties_along conns own [] = refl
pin_ties_along conns own (p ∷ ps) = ap (λ more. ties own (wires_of conns p) ++ more) (pin_ties_along conns (own + 1) ps)

pub pin_ties_more : (conns : List Conn) (own : ℕ) (pins : List (List ℕ)) (i : ℕ) (p : List ℕ) → slice_get pins i ≡ Some p
    → pin_ties conns own (take (i + 1) pins) ≡ pin_ties conns own (take i pins) ++ ties (own + i) (wires_of conns p)
pin_ties_more conns own pins i p at = more_of (pin_ties conns) (pin_tie conns) (pin_ties_along conns) own pins i p at

abbrev comb_gate : List ℕ → List Conn → List ℕ → ℕ → CombOut → List Gate
comb_gate nets conns ins own o = (record { func = o.func; ins = ins; out = pin_net nets own (wires_of conns o.name) }) ∷ []

comb_gates_along : (nets : List ℕ) (conns : List Conn) (ins : List ℕ) (own : ℕ) (outs : List CombOut)
    → comb_gates nets conns ins own outs ≡ along (comb_gate nets conns ins) own outs
unfolding along
comb_gates_along nets conns ins own [] = refl
comb_gates_along nets conns ins own (o ∷ os) = ap (λ gs. comb_gate nets conns ins own o ++ gs) (comb_gates_along nets conns ins (own + 1) os)

pub comb_gates_more : (nets : List ℕ) (conns : List Conn) (ins : List ℕ) (own : ℕ) (outs : List CombOut) (i : ℕ) (o : CombOut) → slice_get outs i ≡ Some o
    → comb_gates nets conns ins own (take (i + 1) outs)
    ≡ comb_gates nets conns ins own (take i outs) ++ (record { func = o.func; ins = ins; out = pin_net nets (own + i) (wires_of conns o.name) }) ∷ []
comb_gates_more nets conns ins own outs i o at =
    more_of (comb_gates nets conns ins) (comb_gate nets conns ins) (comb_gates_along nets conns ins) own outs i o at

abbrev reg_out : List ℕ → List Conn → ℕ → FlopOut → List RegOut
reg_out nets conns own o = (record { net = pin_net nets own (wires_of conns o.name); inverted = o.inverted }) ∷ []

reg_outs_along : (nets : List ℕ) (conns : List Conn) (own : ℕ) (outs : List FlopOut) → reg_outs nets conns own outs ≡ along (reg_out nets conns) own outs
unfolding along
reg_outs_along nets conns own [] = refl
reg_outs_along nets conns own (o ∷ os) = ap (λ rs. reg_out nets conns own o ++ rs) (reg_outs_along nets conns (own + 1) os)

pub reg_outs_more : (nets : List ℕ) (conns : List Conn) (own : ℕ) (outs : List FlopOut) (i : ℕ) (o : FlopOut) → slice_get outs i ≡ Some o
    → reg_outs nets conns own (take (i + 1) outs)
    ≡ reg_outs nets conns own (take i outs) ++ (record { net = pin_net nets (own + i) (wires_of conns o.name); inverted = o.inverted }) ∷ []
reg_outs_more nets conns own outs i o at = more_of (reg_outs nets conns) (reg_out nets conns) (reg_outs_along nets conns) own outs i o at

-- one number more
numbers_next : (first n : ℕ) → numbers first (suc n) ≡ numbers first n ++ (first + n) ∷ []
numbers_next first zero = ap (λ k. k ∷ []) (sym (add-zero first))
numbers_next first (suc n) =
    let number : first + 1 + n ≡ first + suc n = omega arith in
    ap (λ ns. first ∷ ns) (numbers_next (first + 1) n ∙ ap (λ k. numbers (first + 1) n ++ k ∷ []) number)

pub numbers_more : (first n : ℕ) → numbers first (n + 1) ≡ numbers first n ++ (first + n) ∷ []
numbers_more first n = ap (λ k. numbers first k) (add-one n) ∙ numbers_next first n

pub length_numbers : (first n : ℕ) → length (numbers first n) ≡ n
length_numbers first zero = refl
length_numbers first (suc n) = ap suc (length_numbers (first + 1) n)

-- one place more
pub folded_more : (op : Form → Form → Form) (n : ℕ) → folded op (n + 1) ≡ op (folded op n) (PinForm (n + 1))
folded_more op n = ap (λ k. folded op k) (add-one n)

-- as many nets as wires
pub length_wire_nets : (nets : List ℕ) (own : ℕ) (ws : List Wire) → length (wire_nets nets own ws) ≡ length ws
length_wire_nets nets own [] = refl
length_wire_nets nets own (w ∷ ws) = ap suc (length_wire_nets nets (own + 1) ws)
