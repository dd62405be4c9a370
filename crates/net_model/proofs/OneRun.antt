-- A lawful stimulus stands for exactly one run.
use Rattle.std.proofs.Common.{◌≡◌, ℕ, zero, suc, ◌+◌, ◌<◌, Bool, false, List, [], ◌∷◌, map, length, get_or, Some, refl, ap, subst, sym, ◌∙◌, arith}
use Rattle.std.specs.Prelude.{All, slice_get, option_map}
use Rattle.std.proofs.lemmas.List.{same_lists, get_or_default, length-map}
use Rattle.std.proofs.lemmas.List.Elements.{All-nil, All-cons, All-head, All-tail}
use Rattle.std.proofs.lemmas.Option.{slice_get-map, slice_get-get_or}
use Rattle.net_model.specs.Netlist.{IsSound}
use Rattle.net_model.specs.Cycles.{bit_at, capture, IsSettled, IsNext, IsRun}
use Rattle.net_model.specs.Stimuli.{IsLawful, HasOneRun}
use Rattle.net_model.proofs.Settling.{All-at}
use Rattle.net_model.proofs.Unique.{settled_same}
use Rattle.net_model.proofs.Existence.{settled_exists}
use Rattle.net_model.specs.declared.netlist.Design.{Design}
use Rattle.net_model.specs.declared.cycles.Cycle.{Cycle}
use Rattle.net_model.specs.declared.cycles.Stimulus.{Stimulus}
use Rattle.net_model.specs.declared.claims.End.TheVariants.{Reg as RegEnd}

abbrev ins_of : Cycle → List Bool
ins_of c = c.ins

-- settled cycles that follow one another
record IsChain (d : Design) (run : List Cycle) : Type 0 where
  settled : All (IsSettled d) run
  next : (t : ℕ) (before c : Cycle) → slice_get run t ≡ Some before → slice_get run (t + 1) ≡ Some c → IsNext d before c

chain_tail : (d : Design) (c : Cycle) (run : List Cycle) → IsChain d (c ∷ run) → IsChain d run
chain_tail d c run chain =
    record {
      settled = All-tail (IsSettled d) c run chain.settled;
      next = λ t before after at then.
          let e : suc (t + 1) ≡ suc t + 1 = omega arith in
          chain.next (suc t) before after at (subst (λ (i : ℕ). slice_get (c ∷ run) i ≡ Some after) e then);
    }

first_and_rest : (bit : ℕ → Bool) (n : ℕ) (xs : List Bool) → ((i : ℕ) → i < n → bit_at xs i ≡ bit (suc i)) → (i : ℕ) → i < suc n → bit_at (bit 0 ∷ xs) i ≡ bit i
first_and_rest bit n xs rest zero lt = refl
first_and_rest bit n xs rest (suc i) lt = rest i (omega arith)

-- a list of bits by a function
pub bits_exist : (bit : ℕ → Bool) (n : ℕ) → (xs : List Bool) × (length xs ≡ n) × ((i : ℕ) → i < n → bit_at xs i ≡ bit i)
bits_exist bit zero = ([], refl, λ i lt. absurd (omega arith))
bits_exist bit (suc n) =
    let rest = bits_exist (λ i. bit (suc i)) n in (bit 0 ∷ rest.0, omega (arith, rest.1), first_and_rest bit n rest.0 rest.2)

-- the first cycle has these register bits
abbrev BeginsWith : List Bool → List Cycle → Type 0
BeginsWith bits run = (c : Cycle) → slice_get run 0 ≡ Some c → c.bits ≡ bits

record IsChainFor (d : Design) (bits : List Bool) (rows : List (List Bool)) (run : List Cycle) : Type 0 where
  chain : IsChain d run
  first : BeginsWith bits run
  inputs : map ins_of run ≡ rows

linked : (d : Design) (c : Cycle) (next : List Bool) (inputs : List (List Bool)) (run : List Cycle)
    → ((r : ℕ) → r < length d.regs → bit_at next r ≡ capture d (RegEnd r) c) → IsChainFor d next inputs run → (t : ℕ) (before after : Cycle)
    → slice_get (c ∷ run) t ≡ Some before → slice_get (c ∷ run) (t + 1) ≡ Some after → IsNext d before after
linked d c next inputs run captured more zero before after at then =
    let same : c ≡ before = cc in
    subst (λ (x : Cycle). IsNext d x after) same (λ r low. ap (λ (xs : List Bool). bit_at xs r) (more.first after then) ∙ captured r low)
linked d c next inputs run captured more (suc t) before after at then =
    let e : suc t + 1 ≡ suc (t + 1) = omega arith in
    more.chain.next t before after at (subst (λ (i : ℕ). slice_get (c ∷ run) i ≡ Some after) e then)

add_first : (d : Design) (c : Cycle) (next : List Bool) (inputs : List (List Bool)) (run : List Cycle) → IsSettled d c
    → ((r : ℕ) → r < length d.regs → bit_at next r ≡ capture d (RegEnd r) c) → IsChainFor d next inputs run → IsChainFor d c.bits (c.ins ∷ inputs) (c ∷ run)
add_first d c next inputs run settled captured more =
    record {
      chain =
          record {
            settled = All-cons (IsSettled d) c run settled more.chain.settled;
            next = linked d c next inputs run captured more;
          };
      first = λ other at. let same : c ≡ other = cc in ap (λ (x : Cycle). x.bits) (sym same);
      inputs = ap (λ (rows : List (List Bool)). c.ins ∷ rows) more.inputs;
    }

chain_exists : (d : Design) (bits : List Bool) (inputs : List (List Bool)) → IsSound d → length bits ≡ length d.regs
    → All (λ ins. length ins ≡ length d.inputs) inputs → (run : List Cycle) × IsChainFor d bits inputs run
chain_exists d bits [] sound some all = (
  [],
  record {
    chain = record { settled = All-nil (IsSettled d); next = λ t before c at. cc };
    first = λ c at. cc;
    inputs = refl;
  },
)
chain_exists d bits (ins ∷ inputs) sound some all =
    let nets = settled_exists d bits ins sound some (All-head (λ (row : List Bool). length row ≡ length d.inputs) ins inputs all) in
    let c : Cycle = record { bits = bits; ins = ins; nets = nets.0 } in
    let next = bits_exist (λ r. capture d (RegEnd r) c) (length d.regs) in
    let more = chain_exists d next.0 inputs sound next.1 (All-tail (λ (row : List Bool). length row ≡ length d.inputs) ins inputs all) in
    (c ∷ more.0, add_first d c next.0 inputs more.0 nets.1 next.2 more.1)

-- the register bits after a cycle are one list
bits_same : (d : Design) (before a b : Cycle) → IsSettled d a → IsSettled d b → IsNext d before a → IsNext d before b → a.bits ≡ b.bits
bits_same d before a b s t p q =
    let same_len : length a.bits ≡ length b.bits = s.shape.bits ∙ sym t.shape.bits in
    same_lists a.bits b.bits same_len
    (λ r o within.
    let low : r < length d.regs = omega (arith, s.shape.bits) in
    get_or_default a.bits r o false within ∙ (p r low ∙ (sym (q r low) ∙ get_or_default b.bits r false o (omega arith))))

-- chains with the same inputs and the same first register bits are the same
chain_once : (d : Design) (a b : List Cycle) → IsSound d → IsChain d a → IsChain d b → map ins_of a ≡ map ins_of b
    → ((p q : Cycle) → slice_get a 0 ≡ Some p → slice_get b 0 ≡ Some q → p.bits ≡ q.bits) → a ≡ b
chain_once d [] [] sound s t inputs first = refl
chain_once d [] (y ∷ b) sound s t inputs first = cc
chain_once d (x ∷ a) [] sound s t inputs first = cc
chain_once d (x ∷ a) (y ∷ b) sound s t inputs first =
    let ins : x.ins ≡ y.ins = cc in
    let rest : map ins_of a ≡ map ins_of b = cc in
    let head_x = All-head (IsSettled d) x a s.settled in
    let head_y = All-head (IsSettled d) y b t.settled in
    let same : x ≡ y = settled_same d x y sound head_x head_y (first x y refl refl) ins in
    let tail_x = chain_tail d x a s in
    let tail_y = chain_tail d y b t in
    let tails : a ≡ b =
    chain_once d a b sound tail_x tail_y rest
    (λ p q at then.
    bits_same d y p q (All-at (IsSettled d) a 0 p at tail_x.settled) (All-at (IsSettled d) b 0 q then tail_y.settled)
    (subst (λ (c : Cycle). IsNext d c p) same (s.next 0 x p refl at)) (t.next 0 y q refl then)) in
    cc

-- a cycle of a run has the inputs that the stimulus has at its number
ins_at : (run : List Cycle) (inputs : List (List Bool)) (t : ℕ) (c : Cycle) → map ins_of run ≡ inputs → slice_get run t ≡ Some c
    → slice_get inputs t ≡ Some c.ins
ins_at run inputs t c same at =
    ap (λ (rows : List (List Bool)). slice_get rows t) (sym same) ∙ (slice_get-map ins_of run t ∙ ap (option_map ins_of) at)

run_from : (d : Design) (s : Stimulus) (run : List Cycle) → IsLawful d s → IsChainFor d s.state s.inputs run → IsRun d run
run_from d s run lawful made =
    let count : length run ≡ length s.inputs = sym (length-map run ins_of) ∙ ap length made.inputs in
    record {
      linked =
          record {
            some = omega (arith, lawful.some);
            settled = made.chain.settled;
            next = made.chain.next;
            fixed = λ t c within.
                let row = ins_at run s.inputs t (get_or run t c) made.inputs (slice_get-get_or run t c within) in
                (lawful.inputs t (get_or run t c).ins row).fixed;
          };
      resets = λ t c at. (lawful.inputs t c.ins (ins_at run s.inputs t c made.inputs at)).resets;
    }

rows_fit : (d : Design) (s : Stimulus) → IsLawful d s → All (λ ins. length ins ≡ length d.inputs) s.inputs
rows_fit d s lawful k o within =
    (lawful.inputs k (get_or s.inputs k o) (slice_get-get_or s.inputs k o within)).count

-- a lawful stimulus stands for exactly one run
pub has_one_run : (d : Design) (s : Stimulus) → IsSound d → IsLawful d s → HasOneRun d s
has_one_run d s sound lawful =
    let made = chain_exists d s.state s.inputs sound lawful.state (rows_fit d s lawful) in
    record {
      run = made.0;
      from_reset = run_from d s made.0 lawful made.1;
      stands = record { state = made.1.first; inputs = made.1.inputs };
      only = λ other is stands.
          chain_once d other made.0 sound (record { settled = is.linked.settled; next = is.linked.next }) made.1.chain (stands.inputs ∙ sym made.1.inputs)
          (λ p q at then. stands.state p at ∙ sym (made.1.first q then));
    }
