-- The values of all keys, read off a run: its cycles, its layers, and the further keys of layer 0.
use Rattle.std.proofs.Common.{◌≡◌, ℕ, zero, suc, ◌+◌, ◌-◌, ◌≤◌, Bool, false, List, length, Option, Some, None, refl, ap, ◌∙◌, arith}
use Rattle.std.specs.Prelude.{slice_get, if◌then◌else◌, nat_lt}
use Rattle.std.proofs.lemmas.Bool.{cond-true, cond-false, lt-ltb, le-ltb}
use Rattle.net_model.specs.Form.{xor}
use Rattle.net_model.specs.Cycles.{capture, IsSettled, IsLinked}
use Rattle.net_model.specs.Judge.{judged_count}
use Rattle.net_model.specs.Judge.{start_bit}
use Rattle.net_model.proofs.Settling.{All-at}
use Rattle.net_model.specs.declared.netlist.Design.{Design}
use Rattle.net_model.specs.declared.cycles.Cycle.{Cycle}
use Rattle.net_model.specs.declared.claims.Claim.{Claim}
use Rattle.sdcv_base.specs.declared.kinds.Edge.{Edge}
use Rattle.query_model.specs.Defined.{bad_key, differ_key, extra}
use Rattle.query_model.proofs.Runs.{Told, AnyKey}
use Rattle.query_model.proofs.Based.{Says, reads_said}
use Rattle.query_laws.proofs.Meaning.{meaning, meaning_extra}
use Rattle.query_laws.proofs.Extras.{ExtrasTold, is_edge}
use Rattle.query_model.specs.declared.keys.Key.{Key}

-- the further keys, read off a run
abbrev pub start_in_option : Claim → Option Cycle → Bool
start_in_option claim None = false
start_in_option claim (Some c) = start_bit claim.start c

abbrev pub capture_in_option : Design → Claim → Option Cycle → Bool
capture_in_option d claim None = false
capture_in_option d claim (Some c) = capture d claim.end c

abbrev pub extra_bit : Edge → (ℕ → Bool) → (ℕ → Bool) → (ℕ → Bool) → (ℕ → Bool) → ℕ → ℕ → Bool
extra_bit edge starts captures differs bad t zero = is_edge edge (starts t) (starts (t - 1))
extra_bit edge starts captures differs bad t (suc zero) = xor (captures t) (captures (t - 1))
extra_bit edge starts captures differs bad t (suc (suc zero)) = differs t
extra_bit edge starts captures differs bad t (suc (suc (suc r))) = if nat_lt r 17 then xor (starts t) (starts (t - r - 2)) else bad (r - 17)

abbrev pub others_by : Design → Claim → List Cycle → (Key → ℕ → Bool) → (ℕ → Bool) → (ℕ → Bool) → Key → ℕ → Bool
others_by d claim run layer differs bad k zero =
    extra_bit claim.edge (λ t. start_in_option claim (slice_get run t)) (λ t. capture_in_option d claim (slice_get run t)) differs bad k.cycle
    (k.point - (d.nets + length d.regs))
others_by d claim run layer differs bad k (suc l) = layer k l

abbrev pub others : Design → Claim → List Cycle → (Key → ℕ → Bool) → (ℕ → Bool) → (ℕ → Bool) → Key → Bool
others d claim run layer differs bad k = others_by d claim run layer differs bad k k.layer

abbrev pub story : Design → Claim → List Cycle → (Key → ℕ → Bool) → (ℕ → Bool) → (ℕ → Bool) → Key → Bool
story d claim run layer differs bad = meaning d run (others d claim run layer differs bad)

story_extra : (d : Design) (claim : Claim) (run : List Cycle) (layer : Key → ℕ → Bool) (differs bad : ℕ → Bool) (t i j : ℕ) → i ≡ j
    → story d claim run layer differs bad (extra d t i) ≡ extra_bit claim.edge (λ u. start_in_option claim (slice_get run u))
    (λ u. capture_in_option d claim (slice_get run u)) differs bad t j
story_extra d claim run layer differs bad t i j e =
    let back : d.nets + length d.regs + i - (d.nets + length d.regs) ≡ j = omega arith in
    meaning_extra d run (others d claim run layer differs bad) t i
    ∙ ap (λ n. extra_bit claim.edge (λ u. start_in_option claim (slice_get run u)) (λ u. capture_in_option d claim (slice_get run u)) differs bad t n) back

two : (f : Bool → Bool → Bool) (a b x y : Bool) → a ≡ x → b ≡ y → f a b ≡ f x y
two f a b x y e g = ap (λ p. f p b) e ∙ ap (f x) g

pub story_differ : (d : Design) (claim : Claim) (run : List Cycle) (layer : Key → ℕ → Bool) (differs bad : ℕ → Bool) (t : ℕ)
    → story d claim run layer differs bad (differ_key d t) ≡ differs t
story_differ d claim run layer differs bad t = story_extra d claim run layer differs bad t 2 2 refl

pub story_extras : (d : Design) (claim : Claim) (run : List Cycle) (layer : Key → ℕ → Bool) (differs bad : ℕ → Bool) → judged_count claim ≤ 15
    → ExtrasTold AnyKey (story d claim run layer differs bad) d claim run differs
story_extras d claim run layer differs bad few =
    record {
      toggle = λ t a b at_a at_b any.
          story_extra d claim run layer differs bad t 0 0 refl
          ∙ two (is_edge claim.edge) (start_in_option claim (slice_get run t)) (start_in_option claim (slice_get run (t - 1))) (start_bit claim.start b)
          (start_bit claim.start a) (ap (start_in_option claim) at_b) (ap (start_in_option claim) at_a);
      change = λ t a b at_a at_b any.
          story_extra d claim run layer differs bad t 1 1 refl
          ∙ two xor (capture_in_option d claim (slice_get run t)) (capture_in_option d claim (slice_get run (t - 1))) (capture d claim.end b)
          (capture d claim.end a) (ap (capture_in_option d claim) at_b) (ap (capture_in_option d claim) at_a);
      differ = λ t c at any. story_differ d claim run layer differs bad t;
      stale = λ t r a b lt at_a at_b any.
          story_extra d claim run layer differs bad t (2 + (r + 1)) (suc (suc (suc r))) (omega arith)
          ∙ cond-true (nat_lt r 17) _ _ (lt-ltb r 17 (omega arith))
          ∙ two xor (start_in_option claim (slice_get run t)) (start_in_option claim (slice_get run (t - r - 2))) (start_bit claim.start b)
          (start_bit claim.start a) (ap (start_in_option claim) at_b) (ap (start_in_option claim) at_a);
    }

pub story_bad : (d : Design) (claim : Claim) (run : List Cycle) (layer : Key → ℕ → Bool) (differs bad : ℕ → Bool) (t a : ℕ)
    → story d claim run layer differs bad (bad_key d t a) ≡ bad a
story_bad d claim run layer differs bad t a =
    let back : 17 + a - 17 ≡ a = omega arith in
    story_extra d claim run layer differs bad t (20 + a) (suc (suc (suc (17 + a)))) (omega arith)
    ∙ cond-false (nat_lt (17 + a) 17) _ _ (le-ltb (17 + a) 17 (omega arith))
    ∙ ap bad back

-- all keys say the run
pub said_told : (v : Key → Bool) (d : Design) (run : List Cycle) → IsLinked d run → Says v d run → Told AnyKey v d run
said_told v d run linked says =
    record {
      nets = λ t c at n low. reads_said v d run t c (All-at (IsSettled d) run t c at linked.settled) says at n low;
      bits = λ t le r lt any. says.bits t le r lt;
    }
