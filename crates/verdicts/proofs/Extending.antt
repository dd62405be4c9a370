-- A run goes on: each run with a live cycle is the beginning of a longer one.
use Rattle.std.proofs.Common.{◌≡◌, ℕ, zero, suc, ◌+◌, ◌-◌, ◌<◌, ◌≤◌, Bool, false, List, [], ◌∷◌, ◌++◌, length, Some, refl, subst, sym, arith, inl}
use Rattle.std.proofs.Common.{inr, length-append}
use Rattle.std.specs.Prelude.{◌⊎◌, slice_get, nat_lt}
use Rattle.std.proofs.lemmas.Bool.{le-ltb}
use Rattle.std.proofs.lemmas.List.Elements.{All-push}
use Rattle.std.proofs.lemmas.Option.{slice_get_within}
use Rattle.net_model.specs.Netlist.{IsSound}
use Rattle.net_model.specs.Cycles.{capture, IsSettled, IsNext, IsRun, HasFixed, HasResets}
use Rattle.net_model.proofs.Settling.{All-at}
use Rattle.net_model.proofs.Existence.{settled_exists, item_at}
use Rattle.net_model.proofs.OneRun.{bits_exist}
use Rattle.net_model.specs.declared.netlist.Design.{Design}
use Rattle.net_model.specs.declared.cycles.Cycle.{Cycle}
use Rattle.net_model.specs.declared.claims.End.TheVariants.{Reg as RegEnd}

-- an item keeps its place where more is added at the end
pub push_keeps : {X : Type 0} (xs ys : List X) (i : ℕ) (x : X) → slice_get xs i ≡ Some x → slice_get (xs ++ ys) i ≡ Some x
push_keeps [] ys i x at = cc
push_keeps (y ∷ xs) ys zero x at = at
push_keeps (y ∷ xs) ys (suc i) x at = push_keeps xs ys i x at

-- an item of a list with one more at its end is an earlier one, or that one
pub push_cases : {X : Type 0} (xs : List X) (y : X) (i : ℕ) (x : X) → slice_get (xs ++ y ∷ []) i ≡ Some x
    → slice_get xs i ≡ Some x ⊎ ((i ≡ length xs) × (y ≡ x))
push_cases [] y zero x at = inr (refl, cc)
push_cases [] y (suc i) x at = cc
push_cases (z ∷ xs) y zero x at = inl at
push_cases (z ∷ xs) y (suc i) x at =
    elim (push_cases xs y i x at) [
      | inl early ↦ inl early
      | inr last ↦ inr (omega (arith, last.0), last.1)
    ]

-- a run of so many more cycles that begins with the run
pub record GoesOn (d : Design) (run : List Cycle) (count : ℕ) (more : List Cycle) : Type 0 where
  pub is_run : IsRun d more
  pub long : length more ≡ length run + count
  pub same : (i : ℕ) (c : Cycle) → slice_get run i ≡ Some c → slice_get more i ≡ Some c

-- the added cycle comes next, and the others as before
next_of : (d : Design) (run : List Cycle) (last new : Cycle) → IsRun d run → slice_get run (length run - 1) ≡ Some last → IsNext d last new
    → (t : ℕ) (before c : Cycle) → slice_get (run ++ new ∷ []) t ≡ Some before → slice_get (run ++ new ∷ []) (t + 1) ≡ Some c → IsNext d before c
next_of d run last new is last_at next t before c at then =
    elim (push_cases run new (t + 1) c then) [
      | inl early ↦ elim (push_cases run new t before at) [
        | inl here ↦ is.linked.next t before c here early
        | inr there ↦ absurd (omega (arith, there.0, slice_get_within run (t + 1) c early))
      ]
      | inr late ↦ elim (push_cases run new t before at) [
        | inl here ↦
            let e : length run - 1 ≡ t = omega (arith, late.0) in
            let both : slice_get run t ≡ Some last = subst (λ (i : ℕ). slice_get run i ≡ Some last) e last_at in
            let same : last ≡ before = cc in
            subst (λ (x : Cycle). IsNext d before x) late.1 (subst (λ (x : Cycle). IsNext d x new) same next)
        | inr there ↦ absurd (omega (arith, late.0, there.0))
      ]
    ]

-- the added cycle has inactive resets, and the others theirs
resets_of : (d : Design) (run : List Cycle) (new : Cycle) → IsRun d run → d.reset_len ≤ length run → HasResets d false new → (t : ℕ) (c : Cycle)
    → slice_get (run ++ new ∷ []) t ≡ Some c → HasResets d (nat_lt t d.reset_len) c
resets_of d run new is live inactive t c at =
    elim (push_cases run new t c at) [
      | inl early ↦ is.resets t c early
      | inr last ↦
          let off : false ≡ nat_lt t d.reset_len = sym (le-ltb t d.reset_len (omega (arith, last.0, live))) in
          subst (λ (active : Bool). HasResets d active c) off (subst (HasResets d false) last.1 inactive)
    ]

-- one more cycle, with the inputs of the last
one_more : (d : Design) (run : List Cycle) → IsSound d → IsRun d run → d.reset_len < length run → (more : List Cycle) × GoesOn d run 1 more
one_more d run sound is live =
    let found = item_at run (length run - 1) (omega (arith, live)) in
    let last = found.0 in
    let settled = All-at (IsSettled d) run (length run - 1) last found.1 is.linked.settled in
    let bits = bits_exist (λ r. capture d (RegEnd r) last) (length d.regs) in
    let nets = settled_exists d bits.0 last.ins sound bits.1 settled.shape.ins in
    let new : Cycle = record { bits = bits.0; ins = last.ins; nets = nets.0 } in
    let inactive : nat_lt (length run - 1) d.reset_len ≡ false = le-ltb (length run - 1) d.reset_len (omega (arith, live)) in
    let resets : HasResets d false new = subst (λ (active : Bool). HasResets d active last) inactive (is.resets (length run - 1) last found.1) in (
      run ++ new ∷ [],
      record {
        is_run =
            record {
              linked =
                  record {
                    some = omega (arith, length-append run (new ∷ []));
                    settled = All-push (IsSettled d) run new is.linked.settled nets.1;
                    next = next_of d run last new is found.1 bits.2;
                    fixed = All-push (HasFixed d) run new is.linked.fixed (All-at (HasFixed d) run (length run - 1) last found.1 is.linked.fixed);
                  };
              resets = resets_of d run new is (omega (arith, live)) resets;
            };
        long = length-append run (new ∷ []);
        same = λ i c at. push_keeps run (new ∷ []) i c at;
      },
    )

-- a run with a live cycle goes on
pub goes_on : (d : Design) (run : List Cycle) (count : ℕ) → IsSound d → IsRun d run → d.reset_len < length run
    → (more : List Cycle) × GoesOn d run count more
goes_on d run zero sound is live = (run, record { is_run = is; long = omega arith; same = λ i c at. at })
goes_on d run (suc count) sound is live =
    let less = goes_on d run count sound is live in
    let more = one_more d less.0 sound less.1.is_run (omega (arith, live, less.1.long)) in (
      more.0,
      record {
        is_run = more.1.is_run;
        long = omega (arith, more.1.long, less.1.long);
        same = λ i c at. more.1.same i c (less.1.same i c at);
      },
    )
