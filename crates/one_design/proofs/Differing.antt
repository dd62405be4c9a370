-- The input bits of a netlist without a fault have different names.
use Rattle.std.proofs.Common.{◌≡◌, ◌∙◌, ℕ, zero, suc, ◌<◌, Bool, true, false, cond, List, [], ◌∷◌, ◌++◌, refl, sym, ap, arith, inl, inr}
use Rattle.std.specs.Prelude.{Some, option_map, slice_get, filter}
use Rattle.std.proofs.lemmas.Bool.{cases_lt}
use Rattle.std.proofs.lemmas.Option.{slice_get-map}
use Rattle.netlist_types.specs.declared.sources.Module.{Module}
use Rattle.cell_types.specs.declared.libraries.Library.{Library}
use Rattle.linked_types.specs.declared.faults.LinkFault.{LinkFault}
use Rattle.linked_types.specs.declared.faults.LinkFault.TheVariants as fault
use Rattle.linked_types.specs.declared.options.LinkOptions.{LinkOptions}
use Rattle.link_defs.specs.declared.cuts.CutSource.{CutSource}
use Rattle.link_defs.specs.Circuits.{PortBit, data_bits, input_bits, output_bits}
use Rattle.link_defs.specs.Faults.{Ports, StandsTwice, bit_names, IsCause, IsFaultless}
use Rattle.link_defs.specs.Hierarchy.{tops}
use Rattle.sdc_settings.proofs.Keying.{IsKeyed}

-- an item at a place of what is kept of a list has a place in the list
record IsKept {A : Type 0} (xs : List A) (x : A) : Type 0 where
  place : ℕ
  there : slice_get xs place ≡ Some x

-- two items at two places of it have two places in the list, in the same order
record AreKept {A : Type 0} (xs : List A) (x y : A) : Type 0 where
  first : ℕ
  second : ℕ
  rising : first < second
  first_there : slice_get xs first ≡ Some x
  second_there : slice_get xs second ≡ Some y

kept_later : {A : Type 0} (z : A) (xs : List A) (x : A) → IsKept xs x → IsKept (z ∷ xs) x
kept_later z xs x is = record { place = suc is.place; there = is.there }

both_later : {A : Type 0} (z : A) (xs : List A) (x y : A) → AreKept xs x y → AreKept (z ∷ xs) x y
both_later z xs x y are = record {
  first = suc are.first;
  second = suc are.second;
  rising = omega (arith, are.rising);
  first_there = are.first_there;
  second_there = are.second_there;
}

kept_or : {A : Type 0} (p : A → Bool) (z : A) (xs : List A) (j : ℕ) (y : A) (b : Bool) → ((i : ℕ) → slice_get (filter p xs) i ≡ Some y → IsKept xs y)
    → slice_get (cond b (z ∷ filter p xs) (filter p xs)) j ≡ Some y → IsKept (z ∷ xs) y
kept_or p z xs zero y true further at = record { place = 0; there = at }
kept_or p z xs (suc j) y true further at = kept_later z xs y (further j at)
kept_or p z xs j y false further at = kept_later z xs y (further j at)

kept : {A : Type 0} (p : A → Bool) (xs : List A) (j : ℕ) (y : A) → slice_get (filter p xs) j ≡ Some y → IsKept xs y
kept p [] j y at = absurd cc
kept p (z ∷ xs) j y at = kept_or p z xs j y (p z) (λ i. kept p xs i y) at

both_or : {A : Type 0} (p : A → Bool) (z : A) (xs : List A) (i j : ℕ) (x y : A) (b : Bool)
    → ((k n : ℕ) → k < n → slice_get (filter p xs) k ≡ Some x → slice_get (filter p xs) n ≡ Some y → AreKept xs x y) → i < j
    → slice_get (cond b (z ∷ filter p xs) (filter p xs)) i ≡ Some x → slice_get (cond b (z ∷ filter p xs) (filter p xs)) j ≡ Some y → AreKept (z ∷ xs) x y
both_or p z xs i j x y false further low at_x at_y = both_later z xs x y (further i j low at_x at_y)
both_or p z xs i zero x y true further low at_x at_y = absurd (omega (arith, low))
both_or p z xs zero (suc j) x y true further low at_x at_y =
    let later = kept p xs j y at_y in
    record { first = 0; second = suc later.place; rising = omega arith; first_there = at_x; second_there = later.there }
both_or p z xs (suc i) (suc j) x y true further low at_x at_y = both_later z xs x y (further i j (omega (arith, low)) at_x at_y)

both_kept : {A : Type 0} (p : A → Bool) (xs : List A) (i j : ℕ) (x y : A) → i < j → slice_get (filter p xs) i ≡ Some x → slice_get (filter p xs) j ≡ Some y
    → AreKept xs x y
both_kept p [] i j x y low at_x at_y = absurd cc
both_kept p (z ∷ xs) i j x y low at_x at_y = both_or p z xs i j x y (p z) (λ k n. both_kept p xs k n x y) low at_x at_y

-- what stands at a place stands there in a longer list
grown_at : {A : Type 0} (xs ys : List A) (k : ℕ) (x : A) → slice_get xs k ≡ Some x → slice_get (xs ++ ys) k ≡ Some x
grown_at [] ys k x at = absurd cc
grown_at (z ∷ xs) ys zero x at = at
grown_at (z ∷ xs) ys (suc k) x at = grown_at xs ys k x at

-- the name of a bit stands at its place among the names
name_stands : (bits : List PortBit) (k : ℕ) (b : PortBit) → slice_get bits k ≡ Some b → slice_get (bit_names bits) k ≡ Some b.port.name
name_stands bits k b at = slice_get-map (λ (b : PortBit). b.port.name) bits k ∙ ap (option_map (λ (b : PortBit). b.port.name)) at

-- two data inputs of one name are two port bits of one name
stands_twice : (o : LinkOptions) (top : Module) (i j : ℕ) (x y : PortBit) → i < j → slice_get (data_bits o.clock top) i ≡ Some x
    → slice_get (data_bits o.clock top) j ≡ Some y → x.port.name ≡ y.port.name → StandsTwice (bit_names (input_bits top ++ output_bits top)) x.port.name
stands_twice o top i j x y low at_x at_y same =
    let all = input_bits top ++ output_bits top in
    let are = both_kept _ (input_bits top) i j x y low at_x at_y in
    let first = name_stands all are.first x (grown_at (input_bits top) (output_bits top) are.first x are.first_there) in
    let second = name_stands all are.second y (grown_at (input_bits top) (output_bits top) are.second y are.second_there) in
    (are.first, are.second, are.rising, first, second ∙ ap (λ (n : List ℕ). Some n) (sym same))

-- so a netlist without a fault has none
not_twice : (s : CutSource) (lib : Library) (o : LinkOptions) (top : Module) → tops s.source ≡ top ∷ [] → IsFaultless s lib o → (i j : ℕ) (x y : PortBit)
    → i < j → slice_get (data_bits o.clock top) i ≡ Some x → slice_get (data_bits o.clock top) j ≡ Some y → x.port.name ≡ y.port.name → ⊥
not_twice s lib o top is faultless i j x y low at_x at_y same =
    faultless (fault.NameClash x.port.name) (λ wrong. cc) (top, is, λ n judged. inl (λ k left. Ports (stands_twice o top i j x y low at_x at_y same)))

-- and the names of its data inputs differ
pub inputs_differ : (s : CutSource) (lib : Library) (o : LinkOptions) → IsFaultless s lib o → (top : Module) → tops s.source ≡ top ∷ []
    → IsKeyed (λ (b : PortBit). b.port.name) (data_bits o.clock top)
inputs_differ s lib o faultless top is i j x y at_x at_y same =
    elim (cases_lt i j) [
      | inl low ↦ absurd (not_twice s lib o top is faultless i j x y low at_x at_y same)
      | inr high ↦ elim (cases_lt j i) [
        | inl low ↦ absurd (not_twice s lib o top is faultless j i y x low at_y at_x (sym same))
        | inr most ↦ let e : i ≡ j = omega (arith, high, most) in e
      ]
    ]

-- a netlist without a fault is refused for want of memory alone
pub faultless_only : (s : CutSource) (lib : Library) (o : LinkOptions) (e : LinkFault) → IsFaultless s lib o → IsCause s lib o e → e ≡ fault.Memory
faultless_only s lib o fault.Memory faultless cause = refl
faultless_only s lib o (fault.UnknownCell name) faultless cause = absurd (faultless (fault.UnknownCell name) (λ wrong. cc) cause)
faultless_only s lib o (fault.UnsupportedCell name) faultless cause = absurd (faultless (fault.UnsupportedCell name) (λ wrong. cc) cause)
faultless_only s lib o (fault.UnknownPin name) faultless cause = absurd (faultless (fault.UnknownPin name) (λ wrong. cc) cause)
faultless_only s lib o (fault.OpenInput name) faultless cause = absurd (faultless (fault.OpenInput name) (λ wrong. cc) cause)
faultless_only s lib o (fault.Undriven name) faultless cause = absurd (faultless (fault.Undriven name) (λ wrong. cc) cause)
faultless_only s lib o (fault.ManyDrivers name) faultless cause = absurd (faultless (fault.ManyDrivers name) (λ wrong. cc) cause)
faultless_only s lib o (fault.Loop name) faultless cause = absurd (faultless (fault.Loop name) (λ wrong. cc) cause)
faultless_only s lib o (fault.NotTheClock name) faultless cause = absurd (faultless (fault.NotTheClock name) (λ wrong. cc) cause)
faultless_only s lib o (fault.ClockAsData name) faultless cause = absurd (faultless (fault.ClockAsData name) (λ wrong. cc) cause)
faultless_only s lib o (fault.Recursive name) faultless cause = absurd (faultless (fault.Recursive name) (λ wrong. cc) cause)
faultless_only s lib o (fault.NameClash name) faultless cause = absurd (faultless (fault.NameClash name) (λ wrong. cc) cause)
faultless_only s lib o (fault.NoTop number) faultless cause = absurd (faultless (fault.NoTop number) (λ wrong. cc) cause)
faultless_only s lib o (fault.Limit what number) faultless cause = absurd (faultless (fault.Limit what number) (λ wrong. cc) cause)
faultless_only s lib o (fault.BadSetting name) faultless cause = absurd (faultless (fault.BadSetting name) (λ wrong. cc) cause)
