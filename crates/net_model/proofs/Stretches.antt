-- Cycles that follow one another in a run.
use Rattle.std.proofs.Common.{◌≡◌, ℕ, zero, suc, ◌+◌, ◌<◌, ◌≤◌, Bool, false, List, [], ◌∷◌, length, take, drop, get_or, Some, refl, ap, subst}
use Rattle.std.proofs.Common.{sym, ◌∙◌, arith}
use Rattle.std.specs.Prelude.{slice_get, nat_lt}
use Rattle.std.proofs.lemmas.Bool.{le-ltb}
use Rattle.std.proofs.lemmas.List.{length-take-le, length-drop}
use Rattle.std.proofs.lemmas.List.Elements.{All-take, All-drop}
use Rattle.std.proofs.lemmas.Option.{slice_get_within, slice_get-get_or}
use Rattle.net_model.specs.Cycles.{IsSettled, IsLinked, IsRun, IsStretch, HasFixed, HasResets}
use Rattle.net_model.specs.declared.netlist.Design.{Design}
use Rattle.net_model.specs.declared.cycles.Cycle.{Cycle}

-- the m cycles of a run from cycle s on
abbrev pub window : {X : Type 0} → ℕ → ℕ → List X → List X
window s m run = take m (drop s run)

pub slice_get-take : {X : Type 0} (m i : ℕ) (xs : List X) → i < m → slice_get (take m xs) i ≡ slice_get xs i
slice_get-take zero i xs lt = absurd (omega arith)
slice_get-take (suc m) i [] lt = refl
slice_get-take (suc m) zero (x ∷ xs) lt = refl
slice_get-take (suc m) (suc i) (x ∷ xs) lt = slice_get-take m i xs (omega arith)

pub slice_get-drop : {X : Type 0} (s i : ℕ) (xs : List X) → slice_get (drop s xs) i ≡ slice_get xs (s + i)
slice_get-drop {X} zero i xs = let e : i ≡ 0 + i = omega arith in ap (λ (k : ℕ). slice_get xs k) e
slice_get-drop (suc s) i [] = refl
slice_get-drop {X} (suc s) i (x ∷ xs) =
    let e : suc (s + i) ≡ suc s + i = omega arith in
    slice_get-drop s i xs ∙ ap (λ (k : ℕ). slice_get (x ∷ xs) k) e

pub slice_get-window : {X : Type 0} (s m i : ℕ) (xs : List X) → i < m → slice_get (window s m xs) i ≡ slice_get xs (s + i)
slice_get-window s m i xs lt = slice_get-take m i (drop s xs) lt ∙ slice_get-drop s i xs

pub length-window : {X : Type 0} (s m : ℕ) (xs : List X) → s + m ≤ length xs → length (window s m xs) ≡ m
length-window s m xs long = length-take-le m (drop s xs) (rw (length-drop s xs) (omega arith))

pub IsLinked-window : (d : Design) (run : List Cycle) (s m : ℕ) → 0 < m → s + m ≤ length run → IsLinked d run → IsLinked d (window s m run)
IsLinked-window d run s m some long linked =
    let len = length-window s m run long in
    record {
      some = omega arith;
      settled = All-take (IsSettled d) m (drop s run) (All-drop (IsSettled d) s run linked.settled);
      next = λ t before c at then.
          let low : t + 1 < length (window s m run) = slice_get_within (window s m run) (t + 1) c then in
          let e : s + (t + 1) ≡ (s + t) + 1 = omega arith in
          linked.next (s + t) before c
          (sym (slice_get-window s m t run (omega arith)) ∙ at)
          (subst (λ (k : ℕ). slice_get run k ≡ Some c) e (sym (slice_get-window s m (t + 1) run (omega arith)) ∙ then));
      fixed = All-take (HasFixed d) m (drop s run) (All-drop (HasFixed d) s run linked.fixed);
    }

-- the live cycles of a run are a stretch
pub IsStretch-window : (d : Design) (run : List Cycle) (s m : ℕ) → 0 < m → s + m ≤ length run → d.reset_len ≤ s → IsRun d run → IsStretch d (window s m run)
IsStretch-window d run s m some long live from_reset =
    let len = length-window s m run long in
    record {
      linked = IsLinked-window d run s m some long from_reset.linked;
      resets = λ t o within.
          let c = get_or (window s m run) t o in
          let low : t < m = omega arith in
          let at : slice_get run (s + t) ≡ Some c = sym (slice_get-window s m t run low) ∙ slice_get-get_or (window s m run) t o within in
          let inactive : nat_lt (s + t) d.reset_len ≡ false = le-ltb (s + t) d.reset_len (omega arith) in
          subst (λ (active : Bool). HasResets d active c) inactive (from_reset.resets (s + t) c at);
    }
