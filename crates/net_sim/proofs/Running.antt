-- The cycles of a run that are made so far, and one more.
use Rattle.std.proofs.Common.{◌≡◌, ℕ, zero, suc, ◌+◌, ◌<◌, Bool, List, [], ◌∷◌, ◌++◌, map, length, take, get_or, Some, refl, ap, sym, ◌∙◌, arith, ◌⊎◌, inl, inr}
use Rattle.std.specs.Prelude.{All, slice_get, option_map}
use Rattle.std.proofs.Math.Seq.{take-length}
use Rattle.std.proofs.lemmas.List.{take_more, map-append}
use Rattle.std.proofs.lemmas.List.Elements.{All-nil, All-cons, All-append}
use Rattle.std.proofs.lemmas.Option.{slice_get_within, slice_get-map, slice_get-get_or, get_or_from_slice_get, same_Some}
use Rattle.net_model.specs.Cycles.{bit_at, capture, IsSettled, IsNext, IsLinked, IsRun}
use Rattle.net_model.specs.Stimuli.{IsLawful, StandsFor}
use Rattle.net_model.proofs.Settling.{All-at}
use Rattle.net_model.specs.declared.netlist.Design.{Design}
use Rattle.net_model.specs.declared.cycles.Cycle.{Cycle}
use Rattle.net_model.specs.declared.cycles.Stimulus.{Stimulus}
use Rattle.net_model.specs.declared.claims.End.TheVariants.{Reg as RegEnd}
use Rattle.net_sim.specs.Runs.{AreCaptures, KeepFixed, IsLinkable}

abbrev pub ins_of : Cycle → List Bool
ins_of c = c.ins

-- the first t cycles, and the register bits of the next one
pub record RunSoFar (d : Design) (s : Stimulus) (run : List Cycle) (bits : List Bool) (t : ℕ) : Type 0 where
  pub count : length run ≡ t
  pub settled : All (IsSettled d) run
  pub next : (k : ℕ) (before c : Cycle) → slice_get run k ≡ Some before → slice_get run (k + 1) ≡ Some c → IsNext d before c
  pub first : (c : Cycle) → slice_get run 0 ≡ Some c → c.bits ≡ s.state
  pub begins : t ≡ 0 → bits ≡ s.state
  pub follows : (k : ℕ) (c : Cycle) → slice_get run k ≡ Some c → k + 1 ≡ t → (r : ℕ) → r < length d.regs → bit_at bits r ≡ capture d (RegEnd r) c
  pub bits_len : length bits ≡ length d.regs
  pub inputs : map ins_of run ≡ take t s.inputs

pub run_none : (d : Design) (s : Stimulus) (bits : List Bool) → IsLinkable d s → bits ≡ s.state → RunSoFar d s [] bits 0
run_none d s bits linkable same =
    record {
      count = refl;
      settled = All-nil (IsSettled d);
      next = λ k before c at. absurd (omega (arith, slice_get_within [] k before at));
      first = λ c at. absurd (omega (arith, slice_get_within [] 0 c at));
      begins = λ e. same;
      follows = λ k c at. absurd (omega (arith, slice_get_within [] k c at));
      bits_len = ap length same ∙ linkable.state;
      inputs = refl;
    }

-- an item of a list with one more item
pushed : {X : Type 0} (xs : List X) (x : X) (k : ℕ) (y : X) → slice_get (xs ++ x ∷ []) k ≡ Some y → (slice_get xs k ≡ Some y) ⊎ ((k ≡ length xs) × (x ≡ y))
pushed [] x zero y at = inr (refl, same_Some x y at)
pushed [] x (suc k) y at = absurd (omega (arith, slice_get_within (x ∷ []) (suc k) y at))
pushed (z ∷ xs) x zero y at = inl at
pushed (z ∷ xs) x (suc k) y at =
    elim (pushed xs x k y at) [ inl here ↦ inl here | inr last ↦ inr (omega (arith, last.0), last.1) ]

next_more : (d : Design) (s : Stimulus) (run : List Cycle) (bits : List Bool) (t : ℕ) (c : Cycle) → c.bits ≡ bits → RunSoFar d s run bits t
    → (k : ℕ) (before after : Cycle) → slice_get (run ++ c ∷ []) k ≡ Some before → slice_get (run ++ c ∷ []) (k + 1) ≡ Some after → IsNext d before after
next_more d s run bits t c same done k before after at then =
    elim (pushed run c k before at) [
      | inl first ↦ elim (pushed run c (k + 1) after then) [
        | inl second ↦ done.next k before after first second
        | inr last ↦ λ r low. ap (λ (x : Cycle). bit_at x.bits r) (sym last.1) ∙
            (ap (λ (row : List Bool). bit_at row r) same ∙ done.follows k before first (last.0 ∙ done.count) r low)
      ]
      | inr end_ ↦ elim (pushed run c (k + 1) after then) [
        | inl second ↦ absurd (omega (arith, end_.0, slice_get_within run (k + 1) after second))
        | inr last ↦ absurd (omega (arith, end_.0, last.0))
      ]
    ]

first_more : (d : Design) (s : Stimulus) (run : List Cycle) (bits : List Bool) (t : ℕ) (c : Cycle) → c.bits ≡ bits → RunSoFar d s run bits t → (x : Cycle)
    → slice_get (run ++ c ∷ []) 0 ≡ Some x → x.bits ≡ s.state
first_more d s run bits t c same done x at =
    elim (pushed run c 0 x at) [
      | inl here ↦ done.first x here
      | inr last ↦ ap (λ (y : Cycle). y.bits) (sym last.1) ∙ (same ∙ done.begins (sym done.count ∙ sym last.0))
    ]

follows_more : (d : Design) (run : List Cycle) (t : ℕ) (c : Cycle) (next : List Bool) → length run ≡ t → AreCaptures d c next → (k : ℕ) (x : Cycle)
    → slice_get (run ++ c ∷ []) k ≡ Some x → k + 1 ≡ t + 1 → (r : ℕ) → r < length d.regs → bit_at next r ≡ capture d (RegEnd r) x
follows_more d run t c next count captures k x at is r low =
    elim (pushed run c k x at) [
      | inl here ↦ absurd (omega (arith, slice_get_within run k x here))
      | inr last ↦ captures.each r low ∙ ap (capture d (RegEnd r)) last.1
    ]

pub run_more : (d : Design) (s : Stimulus) (run : List Cycle) (bits next ins : List Bool) (t : ℕ) (c : Cycle) → slice_get s.inputs t ≡ Some ins
    → c.bits ≡ bits → c.ins ≡ ins → IsSettled d c → AreCaptures d c next → RunSoFar d s run bits t → RunSoFar d s (run ++ c ∷ []) next (t + 1)
run_more d s run bits next ins t c row same same_ins settled captures done =
    record {
      count = omega (arith, length_pushed run c, done.count);
      settled = All-append (IsSettled d) run (c ∷ []) done.settled (All-cons (IsSettled d) c [] settled (All-nil (IsSettled d)));
      next = next_more d s run bits t c same done;
      first = first_more d s run bits t c same done;
      begins = λ e. absurd (omega arith);
      follows = follows_more d run t c next done.count captures;
      bits_len = captures.count;
      inputs =
          map-append ins_of run (c ∷ [])
          ∙ (ap (λ (rows : List (List Bool)). rows ++ c.ins ∷ []) done.inputs
          ∙ (ap (λ (x : List Bool). take t s.inputs ++ x ∷ []) (same_ins ∙ sym (get_or_from_slice_get s.inputs t ins ins row))
          ∙ sym (take_more s.inputs t ins (slice_get_within s.inputs t ins row))));
    }
  where
    length_pushed : {X : Type 0} (xs : List X) (x : X) → length (xs ++ x ∷ []) ≡ length xs + 1
    length_pushed [] x = refl
    length_pushed (y ∷ xs) x = omega (arith, length_pushed xs x)

ins_at : (run : List Cycle) (inputs : List (List Bool)) (t : ℕ) (c : Cycle) → map ins_of run ≡ inputs → slice_get run t ≡ Some c
    → slice_get inputs t ≡ Some c.ins
ins_at run inputs t c same at =
    ap (λ (rows : List (List Bool)). slice_get rows t) (sym same) ∙ (slice_get-map ins_of run t ∙ ap (option_map ins_of) at)

inputs_done : (d : Design) (s : Stimulus) (run : List Cycle) (bits : List Bool) → RunSoFar d s run bits (length s.inputs) → map ins_of run ≡ s.inputs
inputs_done d s run bits done = done.inputs ∙ take-length s.inputs

-- all cycles are linked
pub run_linked : (d : Design) (s : Stimulus) (run : List Cycle) (bits : List Bool) → IsLinkable d s → RunSoFar d s run bits (length s.inputs) → IsLinked d run
run_linked d s run bits linkable done =
    let same = inputs_done d s run bits done in
    record {
      some = omega (arith, linkable.some, done.count);
      settled = done.settled;
      next = done.next;
      fixed = λ t c within. (All-at (KeepFixed d) s.inputs t (get_or run t c).ins
          (ins_at run s.inputs t (get_or run t c) same (slice_get-get_or run t c within)) linkable.inputs).fixed;
    }

-- a lawful stimulus is one for linked cycles
pub lawful_linkable : (d : Design) (s : Stimulus) → IsLawful d s → IsLinkable d s
lawful_linkable d s lawful =
    record {
      state = lawful.state;
      some = lawful.some;
      inputs = λ t ins within. let row = lawful.inputs t (get_or s.inputs t ins)
          (slice_get-get_or s.inputs t ins within) in record { count = row.count; fixed = row.fixed };
    }

-- linked cycles that a lawful stimulus stands for are a run from reset
pub lawful_run : (d : Design) (s : Stimulus) (run : List Cycle) → IsLawful d s → IsLinked d run → StandsFor s run → IsRun d run
lawful_run d s run lawful linked stands =
    record { linked = linked; resets = λ t c at. (lawful.inputs t c.ins (ins_at run s.inputs t c stands.inputs at)).resets }

pub run_stands : (d : Design) (s : Stimulus) (run : List Cycle) (bits : List Bool) → RunSoFar d s run bits (length s.inputs) → StandsFor s run
run_stands d s run bits done = record { state = done.first; inputs = inputs_done d s run bits done }
