-- Which assumption a load pin stands under, and the net that the pin reads under it.
use Rattle.std.specs.Prelude.{◌≡◌, ℕ, suc, ◌+◌, ◌≤◌, Bool, ◌||◌, if◌then◌else◌, List, [], ◌∷◌, map, flat_map, length, Option, Some, None, option_map}
use Rattle.net_model.specs.Pins.{is_in}
use Rattle.net_model.specs.declared.claims.PinRef.{PinRef}
use Rattle.net_model.specs.declared.claims.PinRef.TheVariants.{Net}
use Rattle.case_inputs.specs.declared.assumptions.Assumed.{Assumed}
use Rattle.case_inputs.specs.declared.ties.Ties.{Ties}

-- whether an assumption on these pins is of a load pin of a net: they have the pin itself, or its net, which stands for all its load pins
abbrev pub is_of : List PinRef → PinRef → ℕ → Bool
is_of pins pin net = is_in pin pins || is_in (Net net) pins

-- the number of the first assumption that is of a load pin of a net, if one is; each assumption is given by its pins
abbrev pub first_of : List (List PinRef) → PinRef → ℕ → Option ℕ
first_of [] pin net = None
first_of (pins ∷ rest) pin net = if is_of pins pin net then Some 0 else option_map suc (first_of rest pin net)

-- the net of an assumption, where they have the nets from n on in their order; without one the pin's own net
abbrev pub net_under : ℕ → ℕ → Option ℕ → ℕ
net_under n net None = net
net_under n net (Some j) = n + j

-- the net that a load pin of a net reads under the assumptions
abbrev pub read_net : ℕ → List (List PinRef) → PinRef → ℕ → ℕ
read_net n sets pin net = net_under n net (first_of sets pin net)

-- the pins of an assumption
abbrev pub pins_of : Assumed → List PinRef
pins_of a = a.pins

-- the pins of each assumption
abbrev pub pin_sets : List Assumed → List (List PinRef)
pin_sets assumed = map pins_of assumed

-- the pins of all assumptions
abbrev pub all_pins : List Assumed → List PinRef
all_pins assumed = flat_map pins_of assumed

-- the one set has the pins of all sets, and with a net for each set there are no more nets than a design may have
pub record AreTies (ties : Ties) : Type 0 where
  pub named : ties.named ≡ flat_map (λ (pins : List PinRef). pins) ties.sets
  pub few : ties.nets + length ties.sets ≤ 200000

-- what ties the load pins of a design with so many nets to assumptions
pub record AreTiesOf (n : ℕ) (assumed : List Assumed) (ties : Ties) : Type 0 where
  pub nets : ties.nets ≡ n
  pub sets : ties.sets ≡ pin_sets assumed
  pub are : AreTies ties
