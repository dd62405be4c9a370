-- A register feeds one of some registers exactly where gates lead from one of its output nets to a pin of one of them.
use Rattle.std.proofs.Common.{arith, ◌≡◌, ℕ, zero, suc, ◌<◌, Bool, List, [], ◌∷◌, length, map, Option, Some, None}
use Rattle.std.proofs.Common.{refl, sym, subst, ◌∙◌, inl, inr, Contains, flat_map, slice_get}
use Rattle.std.specs.Prelude.{slice_index}
use Rattle.std.proofs.lemmas.List.Elements.{Contains-append_left, Contains-append_right, Contains-append_cases, Contains-get_or}
use Rattle.std.proofs.lemmas.List.{get_or_default}
use Rattle.std.proofs.lemmas.Option.{slice_get_within, same_Some}
use Rattle.net_model.specs.Netlist.{reg_nets}
use Rattle.net_model.specs.Pins.{start_nets, outs_of_reg}
use Rattle.net_model.specs.Paths.{LeadsTo, To_gate, Through_gate, To_reg, To_output, GoesOn}
use Rattle.net_model.specs.declared.netlist.Design.{Design}
use Rattle.net_model.specs.declared.netlist.Gate.{Gate}
use Rattle.net_model.specs.declared.netlist.Reg.{Reg}
use Rattle.net_model.specs.declared.netlist.RegOut.{RegOut}
use Rattle.net_model.specs.declared.claims.Start.TheVariants.{Reg as RegStart}
use Rattle.net_model.specs.declared.claims.End.TheVariants.{Reg as RegEnd}
use Rattle.net_model.specs.declared.claims.PinRef.{PinRef}
use Rattle.net_model.specs.declared.claims.PinRef.TheVariants.{Net, GateIn, RegIn, OutPort}
use Rattle.inv_candidates.specs.Near.{FeedsSome}
use Rattle.inv_candidates.specs.Leading.{LeadsInto, At_one, Into_gate, ins_of, pin_nets, AreLeading, HasMark, ShowsMark}

-- a list's item at a place
pub item_at : (xs : List ℕ) (i : ℕ) → i < length xs → Contains xs (slice_index xs i)
item_at xs i below = Contains-get_or xs i 0 below

-- the place of an item
pub place_of_item : (xs : List ℕ) (x : ℕ) → Contains xs x → (i : ℕ) × (i < length xs) × (slice_index xs i ≡ x)
place_of_item xs x (i, below, is) = (i, below, get_or_default xs i 0 x below ∙ is)

-- an item of joined lists is one of one of them
pub flat_cases : {X : Type 0} (f : X → List ℕ) (xs : List X) (n : ℕ) → Contains (flat_map f xs) n → (x : X) × Contains xs x × Contains (f x) n
flat_cases f [] n (i, below, is) = absurd (omega (arith, below))
flat_cases f (x ∷ xs) n has = elim (Contains-append_cases (f x) (flat_map f xs) n has) [
  | inl here ↦ (x, (0, omega arith, refl), here)
  | inr later ↦ let (y, among, there) = flat_cases f xs n later in (y, Contains-append_right (x ∷ []) xs y among, there)
]

first_is : {X : Type 0} (x y : X) → Contains (x ∷ []) y → x ≡ y
first_is x y (zero, below, is) = is
first_is x y (suc i, below, is) = absurd (omega (arith, below))

-- an item of one of the lists is one of those joined
pub flat_at : {X : Type 0} (f : X → List ℕ) (xs : List X) (x : X) (n : ℕ) → Contains xs x → Contains (f x) n → Contains (flat_map f xs) n
flat_at f [] x n (i, below, is) has = absurd (omega (arith, below))
flat_at {X} f (y ∷ xs) x n among has = elim (Contains-append_cases (y ∷ []) xs x among) [
  | inl (i, below, is) ↦
      let first : y ≡ x = first_is y x (i, below, is) in
      Contains-append_left (f y) (flat_map f xs) n (subst (λ (z : X). Contains (f z) n) (sym first) has)
  | inr later ↦ Contains-append_right (f y) (flat_map f xs) n (flat_at f xs x n later has)
]

-- what a pin of a path to one of the registers leads into
abbrev LeadsOn : Design → List ℕ → PinRef → Type 0
LeadsOn d regs (Net n) = LeadsInto d (Contains (pin_nets d regs)) n
LeadsOn d regs (GateIn k i) = (g : Gate) × (slice_get d.gates k ≡ Some g) × LeadsInto d (Contains (pin_nets d regs)) g.out
LeadsOn d regs (RegIn r i) = Contains regs r
LeadsOn d regs (OutPort o) = ⊥

pin_of_reg : (d : Design) (regs : List ℕ) (r : ℕ) (reg : Reg) (i : ℕ) → slice_get d.regs r ≡ Some reg → i < length reg.ins → Contains regs r
    → Contains (pin_nets d regs) (slice_index reg.ins i)
pin_of_reg d regs r reg i at below has =
    flat_at (λ q. ins_of (slice_get d.regs q)) regs r (slice_index reg.ins i) has
    (subst (λ (o : Option Reg). Contains (ins_of o) (slice_index reg.ins i)) (sym at) (item_at reg.ins i below))

-- so does the pin before it
step_back : (d : Design) (regs : List ℕ) (pin next : PinRef) → LeadsTo d pin next → LeadsOn d regs next → LeadsOn d regs pin
step_back d regs _ _ (To_gate k g i at below) (h, at', into) =
    let same : h ≡ g = same_Some h g (sym at' ∙ at) in
    Into_gate k g (slice_index g.ins i) at (item_at g.ins i below) (subst (λ (q : Gate). LeadsInto d (Contains (pin_nets d regs)) q.out) same into)
step_back d regs _ _ (Through_gate k g i at below) into = (g, at, into)
step_back d regs _ _ (To_reg r reg i at below) has = At_one (slice_index reg.ins i) (pin_of_reg d regs r reg i at below has)
step_back d regs _ _ (To_output o below) none = absurd none

-- a pin from which a path goes on to one of the registers
leads_on : (d : Design) (regs : List ℕ) (to : ℕ) (pin : PinRef) (path : List PinRef) → Contains regs to → GoesOn d (RegEnd to) pin path → LeadsOn d regs pin
leads_on d regs to pin [] has (i, is) = subst (LeadsOn d regs) (sym is) has
leads_on d regs to pin (next ∷ path) has (leads, goes) = step_back d regs pin next leads (leads_on d regs to next path has goes)

-- one of the registers, and a path to it from a net
abbrev GoesToSome : Design → List ℕ → ℕ → Type 0
GoesToSome d regs net = (to : ℕ) × Contains regs to × ((path : List PinRef) × GoesOn d (RegEnd to) (Net net) path)

goes_into_reg : (d : Design) (regs : List ℕ) (r net : ℕ) (o : Option Reg) → Contains regs r → slice_get d.regs r ≡ o → Contains (ins_of o) net
    → GoesToSome d regs net
goes_into_reg d regs r net None has at (i, below, is) = absurd (omega (arith, below))
goes_into_reg d regs r net (Some reg) has at among =
    let (i, below, is) = place_of_item reg.ins net among in (
      r,
      has,
      (RegIn r i ∷ [], (subst (λ n. LeadsTo d (Net n) (RegIn r i)) is (To_reg r reg i at below), (i, refl))),
    )

goes_to_some : (d : Design) (regs : List ℕ) (net : ℕ) → LeadsInto d (Contains (pin_nets d regs)) net → GoesToSome d regs net
goes_to_some d regs _ (At_one net among) =
    let (r, has, here) = flat_cases (λ q. ins_of (slice_get d.regs q)) regs net among in
    goes_into_reg d regs r net (slice_get d.regs r) has refl here
goes_to_some d regs _ (Into_gate k g net at among into) =
    let (to, has, (path, goes)) = goes_to_some d regs g.out into in
    let (i, below, is) = place_of_item g.ins net among in (
      to,
      has,
      (
        GateIn k i ∷ Net g.out ∷ path,
        (subst (λ n. LeadsTo d (Net n) (GateIn k i)) is (To_gate k g i at below), (Through_gate k g i at below, goes)),
      ),
    )

-- a net of the register's outputs leads to one of the registers
pub feeds_from_net : (d : Design) (regs : List ℕ) (r net : ℕ) → Contains (start_nets d (RegStart r)) net → LeadsInto d (Contains (pin_nets d regs)) net
    → FeedsSome d regs r
feeds_from_net d regs r net starts into =
    let (to, has, (path, goes)) = goes_to_some d regs net into in (to, has, (Net net ∷ path, ((net, starts, refl), goes), tt))

pub net_from_feeds : (d : Design) (regs : List ℕ) (r : ℕ) → FeedsSome d regs r
    → (net : ℕ) × Contains (start_nets d (RegStart r)) net × LeadsInto d (Contains (pin_nets d regs)) net
net_from_feeds d regs r (to, has, ([], is_path, meets)) = absurd is_path
net_from_feeds d regs r (to, has, (pin ∷ path, ((net, starts, is), goes), meets)) =
    (net, starts, subst (LeadsOn d regs) is (leads_on d regs to pin path has goes))

-- by marks of the nets that lead to one
pub feeds_from_shows : (d : Design) (regs : List ℕ) (marks : List Bool) → AreLeading d regs marks → (r : ℕ) → ShowsMark d marks r → FeedsSome d regs r
feeds_from_shows d regs marks are r (net, starts, marked) = feeds_from_net d regs r net starts ((are.exact net).0 marked)

pub shows_from_feeds : (d : Design) (regs : List ℕ) (marks : List Bool) → AreLeading d regs marks → (r : ℕ) → FeedsSome d regs r → ShowsMark d marks r
shows_from_feeds d regs marks are r feeds =
    let (net, starts, into) = net_from_feeds d regs r feeds in (net, starts, (are.exact net).1 into)

-- only a register of the design has output nets
outs_in_range : (d : Design) (r net : ℕ) (o : Option Reg) → slice_get d.regs r ≡ o → Contains (map (λ (q : RegOut). q.net) (outs_of_reg o)) net
    → r < length d.regs
outs_in_range d r net None at (i, below, is) = absurd (omega (arith, below))
outs_in_range d r net (Some reg) at has = slice_get_within d.regs r reg at

pub feeds_in_range : (d : Design) (regs : List ℕ) (r : ℕ) → FeedsSome d regs r → r < length d.regs
feeds_in_range d regs r feeds = let (net, starts, into) = net_from_feeds d regs r feeds in outs_in_range d r net (slice_get d.regs r) refl starts

pub shows_in_range : (d : Design) (marks : List Bool) (r : ℕ) → ShowsMark d marks r → r < length d.regs
shows_in_range d marks r (net, starts, marked) = outs_in_range d r net (slice_get d.regs r) refl starts

-- the marks of a register that is read at its place
pub shows_at : (d : Design) (marks : List Bool) (r : ℕ) (reg : Reg) → slice_get d.regs r ≡ Some reg
    → (net : ℕ) × Contains (reg_nets reg) net × HasMark marks net → ShowsMark d marks r
shows_at d marks r reg at (net, has, marked) =
    (net, subst (λ (o : Option Reg). Contains (map (λ (q : RegOut). q.net) (outs_of_reg o)) net) (sym at) has, marked)

pub shown_at : (d : Design) (marks : List Bool) (r : ℕ) (reg : Reg) → slice_get d.regs r ≡ Some reg → ShowsMark d marks r
    → (net : ℕ) × Contains (reg_nets reg) net × HasMark marks net
shown_at d marks r reg at (net, has, marked) =
    (net, subst (λ (o : Option Reg). Contains (map (λ (q : RegOut). q.net) (outs_of_reg o)) net) at has, marked)
