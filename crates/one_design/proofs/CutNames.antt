-- What is left of a circuit where cells are cut out of it, and the names of these, which are one.
use Rattle.std.proofs.Common.{◌≡◌, ◌∙◌, ℕ, ◌+◌, not, ◌&&◌, ◌||◌, if◌then◌else◌, List, [], ◌∷◌, ◌++◌, map, length, refl, ap, arith}
use Rattle.std.specs.Prelude.{Contains, None, count_by, filter, flat_map}
use Rattle.std.specs.List.{list_any}
use Rattle.std.proofs.lemmas.Bool.Decides.{same_from_decides}
use Rattle.std.proofs.lemmas.List.Elements.{Contains-get_or}
use Rattle.sdcv_base.specs.Seqs.{is_marked}
use Rattle.linked_types.specs.declared.names.PinRole.TheVariants as role
use Rattle.link_defs.specs.declared.circuits.Circuit.{Circuit}
use Rattle.link_defs.specs.declared.cuts.CutCell.{CutCell}
use Rattle.link_defs.specs.declared.cuts.CutPin.{CutPin}
use Rattle.link_defs.specs.Circuits.{all_drivers}
use Rattle.link_defs.specs.Cuts.{Tree, IsTreeOf, CutFrame, OwnedPin, owned_pins, net_of, may_read, is_in, stands_in, free_nets, is_clocked, is_sink}
use Rattle.link_defs.specs.Cuts.{sink_pins, cut_circuit, drives_free, owns, is_source, input_of, cut_role, sink_count, cut_pin_names, cut_outs}
use Rattle.link_defs.specs.Cuts.{cut_cell_name, cut_cell_names}

-- the frame of a circuit with this clock tree
abbrev pub frame_of : Circuit → List CutCell → (ℕ → ℕ) → Tree → CutFrame
frame_of c cells number t = record { circuit = c; tree = t; cells = cells; number = number }

-- two pairs of rows that mark the nets of a clock tree
module _ (c : Circuit) (cells : List CutCell) (t u : Tree) (first : IsTreeOf c t) (second : IsTreeOf c u) where
  -- mark the same nets
  all_same : (net : ℕ) → is_marked t.all net ≡ is_marked u.all net
  all_same net = same_from_decides (is_marked t.all net) (is_marked u.all net) (first.all net) (second.all net)

  even_same : (net : ℕ) → is_marked t.even net ≡ is_marked u.even net
  even_same net = same_from_decides (is_marked t.even net) (is_marked u.even net) (first.even net) (second.even net)

  -- so the same cells are on the clock
  clocked_same : (x : CutCell) → is_clocked t x ≡ is_clocked u x
  clocked_same x = λ i. x.clocked && list_any (λ (p : CutPin). even_same p.net i) x.pins

  -- and the same pins are sinks
  sink_same : (p : OwnedPin) → is_sink c t (free_nets c cells) p ≡ is_sink c u (free_nets c cells) p
  sink_same p = λ i. clocked_same p.cell i && (not (all_same p.pin.net i)
      && ((may_read p.pin.way && stands_in (all_drivers c) p.pin.net) || (is_in p.pin.way && stands_in (free_nets c cells) p.pin.net)))

  pub sinks_same : sink_pins c t cells ≡ sink_pins c u cells
  sinks_same = λ i. filter (λ (p : OwnedPin). sink_same p i) (flat_map owned_pins cells)

  -- and sources
  source_same : (number : ℕ → ℕ) (p : OwnedPin) → is_source (frame_of c cells number t) p ≡ is_source (frame_of c cells number u) p
  source_same number p =
      let f = frame_of c cells number t in λ i. clocked_same p.cell i && (drives_free f p.pin && owns f p.cell p.pin.net)

  -- so a pin is the same
  role_same : (number : ℕ → ℕ) (sinks : ℕ) (p : OwnedPin)
      → cut_role (frame_of c cells number t) sinks p ≡ cut_role (frame_of c cells number u) sinks p
  role_same number sinks p =
      let f = frame_of c cells number t in
      λ i. if source_same number p i then role.Source (input_of f p.pin.net)
      else (if sink_same p i then role.Sink (length c.outputs + sinks)
      else (if drives_free f p.pin then role.Drive (number p.pin.net) else role.Load []))

  count_same : (number : ℕ → ℕ) (ps : List OwnedPin)
      → sink_count (frame_of c cells number t) ps ≡ sink_count (frame_of c cells number u) ps
  count_same number ps = λ i. count_by (λ (p : OwnedPin). sink_same p i) ps

  -- and so are all pins by their names
  pins_same : (number : ℕ → ℕ) (sinks : ℕ) (ps : List OwnedPin)
      → cut_pin_names (frame_of c cells number t) sinks ps ≡ cut_pin_names (frame_of c cells number u) sinks ps
  pins_same number sinks [] = refl
  pins_same number sinks (p ∷ ps) =
      let here = role_same number sinks p in
      let moved = ap (λ (n : ℕ). cut_pin_names (frame_of c cells number t) (sinks + n) ps) (count_same number (p ∷ [])) in
      let rest = moved ∙ pins_same number (sinks + sink_count (frame_of c cells number u) (p ∷ [])) ps in
      λ i. (record { name = p.pin.name; role = here i }) ∷ rest i

  named_same : (number : ℕ → ℕ) (sinks : ℕ) (x : CutCell)
      → cut_cell_name (frame_of c cells number t) sinks x ≡ cut_cell_name (frame_of c cells number u) sinks x
  named_same number sinks x =
      let f = frame_of c cells number t in
      let pins = pins_same number sinks (owned_pins x) in
      λ i. record { name = x.name; reg = None; outs = cut_outs f x; pins = pins i }

  -- and all cells
  pub cells_same : (number : ℕ → ℕ) (sinks : ℕ) (xs : List CutCell)
      → cut_cell_names (frame_of c cells number t) sinks xs ≡ cut_cell_names (frame_of c cells number u) sinks xs
  cells_same number sinks [] = refl
  cells_same number sinks (x ∷ xs) =
      let here = named_same number sinks x in
      let moved = ap (λ (n : ℕ). cut_cell_names (frame_of c cells number t) (sinks + n) xs) (count_same number (owned_pins x)) in
      let rest = moved ∙ cells_same number (sinks + sink_count (frame_of c cells number u) (owned_pins x)) xs in
      λ i. here i ∷ rest i

-- the first of cells is one of them
first_of : (x : CutCell) (xs : List CutCell) → Contains (x ∷ xs) x
first_of x xs = Contains-get_or (x ∷ xs) 0 x (omega arith)

-- rows mark the clock tree of a circuit, where any cell is cut out of it
abbrev pub IsTreeFor : Circuit → List CutCell → Tree → Type 0
IsTreeFor c cells t = (x : CutCell) → Contains cells x → IsTreeOf c t

-- the sinks are the same, whatever rows mark the clock tree
pub one_sinks : (c : Circuit) (cells : List CutCell) (t u : Tree) → IsTreeFor c cells t → IsTreeFor c cells u
    → sink_pins c t cells ≡ sink_pins c u cells
one_sinks c [] t u first second = refl
one_sinks c (x ∷ xs) t u first second = sinks_same c (x ∷ xs) t u (first x (first_of x xs)) (second x (first_of x xs))

-- so is what is left
pub one_left : (c : Circuit) (cells : List CutCell) (t u : Tree) → IsTreeFor c cells t → IsTreeFor c cells u
    → cut_circuit c t cells ≡ cut_circuit c u cells
unfolding cut_circuit
one_left c cells t u first second =
    let same = one_sinks c cells t u first second in
    λ i. record {
      nets = c.nets;
      clocks = c.clocks;
      inputs = c.inputs ++ free_nets c cells;
      outputs = c.outputs ++ map net_of (same i);
      parts = c.parts;
    }

-- and the names of the cells
pub one_names : (c : Circuit) (cells : List CutCell) (number : ℕ → ℕ) (t u : Tree) → IsTreeFor c cells t → IsTreeFor c cells u
    → cut_cell_names (frame_of c cells number t) 0 cells ≡ cut_cell_names (frame_of c cells number u) 0 cells
one_names c [] number t u first second = refl
one_names c (x ∷ xs) number t u first second =
    cells_same c (x ∷ xs) t u (first x (first_of x xs)) (second x (first_of x xs)) number 0 (x ∷ xs)
