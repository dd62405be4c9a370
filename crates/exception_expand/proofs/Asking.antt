-- What a command asks.
use Rattle.std.proofs.Common.{◌≡◌, ℕ, Bool, true, false, refl, sym, subst, inl, inr, ◌⊎◌, arith}
use Rattle.std.specs.Prelude.{◌≤◌, if◌then◌else◌, Some, None}
use Rattle.std.proofs.lemmas.Option.{same_Some}
use Rattle.sdcv_base.specs.declared.kinds.Kind.{Kind}
use Rattle.sdcv_base.specs.declared.kinds.Kind.TheVariants.{False, Multi}
use Rattle.net_model.specs.Fits.{IsKindFit, IsLagFit, IsSideFit}
use Rattle.script_types.specs.declared.scripts.Checks.{Checks}
use Rattle.script_types.specs.declared.scripts.Exception.{Exception}
use Rattle.script_types.specs.declared.scripts.Held.{Held}
use Rattle.script_types.specs.declared.scripts.What.{What}
use Rattle.script_types.specs.declared.scripts.What.TheVariants.{Clock, Case, Claiming, Hold, Aside, Passed, Unjudged, Scope, Generated, Delay}
use Rattle.exception_expand.specs.declared.sides.Sides.TheVariants.{Early}
use Rattle.exception_expand.specs.Sides.{HasSide}
use Rattle.exception_expand.specs.Pairs.{lag_for}
use Rattle.exception_expand.specs.Asking.{Asked, asked, held, sides_of, is_hold_side}
use Rattle.exception_expand.specs.Selections.{HasMultiplier}

abbrev setup_asked : Bool → Exception → Asked
setup_asked hold e = record { exception = e; sides = sides_of hold e.kind e.checks }

abbrev hold_asked : Held → Asked
hold_asked h = record { exception = held h; sides = Early }

-- the exception, of a setup check or of the hold side alone, that asks it
abbrev AsksBy : Bool → What → Asked → Type 0
AsksBy hold what by = ((e : Exception) × (what ≡ Claiming e) × (setup_asked hold e ≡ by)) ⊎ ((h : Held) × (what ≡ Hold h) × (hold_asked h ≡ by))

hold_asks : (hold b : Bool) (h : Held) (by : Asked) → (if b then Some (hold_asked h) else None) ≡ Some by → AsksBy hold (Hold h) by
hold_asks hold true h by is = inr (h, refl, same_Some (hold_asked h) by is)
hold_asks hold false h by is = absurd cc

pub asks_by : (hold : Bool) (what : What) (by : Asked) → asked hold what ≡ Some by → AsksBy hold what by
asks_by hold (Claiming e) by is = inl (e, refl, same_Some (setup_asked hold e) by is)
asks_by hold (Hold h) by is = hold_asks hold (is_hold_side hold h.number) h by is
asks_by hold (Clock name source) by is = absurd cc
asks_by hold (Case value objects) by is = absurd cc
asks_by hold (Aside option) by is = absurd cc
asks_by hold Passed by is = absurd cc
asks_by hold (Unjudged name) by is = absurd cc
asks_by hold (Scope name) by is = absurd cc
asks_by hold (Generated name objects) by is = absurd cc
asks_by hold (Delay output clocks objects) by is = absurd cc

-- its multiplier is fit where the command's is
pub kind_fits : (hold : Bool) (what : What) (by : Asked) → asked hold what ≡ Some by → HasMultiplier what → IsKindFit by.exception.kind
kind_fits hold what by is fits =
    elim (asks_by hold what by is) [
      | inl setup ↦ subst (λ (a : Asked). IsKindFit a.exception.kind) setup.2 (subst HasMultiplier setup.1 fits)
      | inr alone ↦ subst (λ (a : Asked). IsKindFit a.exception.kind) alone.2 tt
    ]

-- the lag of a claim fits its kind
pub lag_fits : (early : Bool) (kind : Kind) (lag : ℕ) → lag ≤ 8 → IsLagFit kind (lag_for early kind lag)
lag_fits false False lag few = few
lag_fits true False lag few = omega arith
lag_fits early (Multi k) lag few = refl

side_of : (early hold : Bool) (kind : Kind) (checks : Checks) (lag : ℕ) → HasSide (sides_of hold kind checks) early
    → IsSideFit early kind (lag_for early kind lag)
side_of false hold kind checks lag has = tt
side_of true hold False checks lag has = refl
side_of true hold (Multi k) checks lag has = absurd cc

alone_side : (early : Bool) (lag : ℕ) → early ≡ true → IsSideFit early False (lag_for early False lag)
alone_side true lag is = refl
alone_side false lag is = tt

-- only a false path has an early side, and that has no lag
pub side_fits : (early hold : Bool) (what : What) (by : Asked) (lag : ℕ) → asked hold what ≡ Some by → HasSide by.sides early
    → IsSideFit early by.exception.kind (lag_for early by.exception.kind lag)
side_fits early hold what by lag is has =
    elim (asks_by hold what by is) [
      | inl setup ↦
          let e = setup.0 in
          let given : HasSide (sides_of hold e.kind e.checks) early = subst (λ (a : Asked). HasSide a.sides early) (sym setup.2) has in
          subst (λ (a : Asked). IsSideFit early a.exception.kind (lag_for early a.exception.kind lag)) setup.2
          (side_of early hold e.kind e.checks lag given)
      | inr alone ↦
          let given : early ≡ true = subst (λ (a : Asked). HasSide a.sides early) (sym alone.2) has in
          subst (λ (a : Asked). IsSideFit early a.exception.kind (lag_for early a.exception.kind lag)) alone.2 (alone_side early lag given)
    ]
