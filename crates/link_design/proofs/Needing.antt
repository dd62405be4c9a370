-- What gates need by the row is what they need by their drivers.
use Rattle.std.proofs.Common.{◌≡◌, ℕ, ◌+◌, ◌-◌, ◌<◌, List, [], ◌∷◌, ◌++◌, length, map, refl, ap, sym, ◌∙◌, arith, inl, inr, length-append}
use Rattle.std.specs.Prelude.{Some, slice_get}
use Rattle.std.proofs.lemmas.List.{length-map}
use Rattle.net_model.specs.Netlist.{AllBelow, gate_nets}
use Rattle.net_model.proofs.Members.{In}
use Rattle.net_model.specs.declared.netlist.Gate.{Gate}
use Rattle.link_defs.specs.Designs.{number_by, gate_needs}
use Rattle.link_design.specs.Orders.{IsWired, need_by, row_needs}
use Rattle.link_design.proofs.DriverPlaces.{number_cases, number_within}
use Rattle.link_design.proofs.Leading.{map_from, after, row_at, need_is, need_cases}
use Rattle.link_design.proofs.Parted.{all_in}

-- functions that agree on the items of a list map it alike
map_same : {X Y : Type 0} (f g : X → Y) (xs : List X) → ((x : X) → In x xs → f x ≡ g x) → map f xs ≡ map g xs
map_same f g [] same = refl
map_same {X} {Y} f g (x ∷ xs) same =
    ap (λ (y : Y). y ∷ map f xs) (same x (inl refl)) ∙ ap (λ (ys : List Y). g x ∷ ys) (map_same f g xs (λ y has. same y (inr has)))

module _ (gates : List Gate) (sources row : List ℕ) (w : IsWired gates sources row) (n : ℕ) (within : n < length row) where
  -- the gate that drives a net is found by the row
  driven_need : slice_get (gate_nets gates) (number_by (gate_nets gates) n) ≡ Some n
      → need_by (length gates) (length sources) row n ≡ number_by (gate_nets gates) n
  driven_need there =
      let (g, at, out) = map_from (λ (g : Gate). g.out) gates (number_by (gate_nets gates) n) n there in
      ap (need_by (length gates) (length sources) row) (sym out) ∙ need_is gates sources row w (number_by (gate_nets gates) n) g at

  -- a net that no gate drives is driven by a source, or by nothing
  free_need : number_by (gate_nets gates) n ≡ length (gate_nets gates) → need_by (length gates) (length sources) row n ≡ number_by (gate_nets gates) n
  free_need free =
      let place : ℕ = number_by (sources ++ gate_nets gates) n in
      let count : length (gate_nets gates) ≡ length gates = length-map gates (λ (g : Gate). g.out) in
      elim (need_cases (length gates) (length sources) row n place (row_at gates sources row w n within)) [
        | inl none ↦ omega (arith, none, free, count)
        | inr some ↦ elim (number_cases (sources ++ gate_nets gates) n) [
          | inr past ↦ omega (arith, some.0, some.1, past, free, count, length-append sources (gate_nets gates))
          | inl there ↦
              let behind : length sources + (place - length sources) ≡ place = omega (arith, some.0) in
              let own : slice_get (gate_nets gates) (place - length sources) ≡ Some n = sym (after sources (gate_nets gates) (place - length sources))
              ∙ ap (λ (i : ℕ). slice_get (sources ++ gate_nets gates) i) behind ∙ there in
              absurd (omega (arith, free, number_within (gate_nets gates) n (place - length sources) own))
        ]
      ]

  pub need_number : need_by (length gates) (length sources) row n ≡ number_by (gate_nets gates) n
  need_number = elim (number_cases (gate_nets gates) n) [ inl there ↦ driven_need there | inr free ↦ free_need free ]

-- so gates need the same
pub needs_are : (gates : List Gate) (sources row : List ℕ) → IsWired gates sources row → row_needs gates (length sources) row ≡ gate_needs gates
needs_are gates sources row w =
    map_same (λ (g : Gate). map (need_by (length gates) (length sources) row) g.ins) (λ (g : Gate). map (number_by (gate_nets gates)) g.ins) gates (λ g has.
    map_same (need_by (length gates) (length sources) row) (number_by (gate_nets gates)) g.ins (λ n reads.
    need_number gates sources row w n
    (all_in (λ (m : ℕ). m < length row) g.ins (all_in (λ (h : Gate). AllBelow (length row) h.ins) gates w.ins g has) n reads)))
