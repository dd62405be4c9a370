-- Each run has first bits of its registers and bits of its free inputs.
use Rattle.std.proofs.Common.{◌≡◌, ℕ, zero, suc, ◌<◌, ◌+◌, Bool, true, false, List, [], ◌∷◌, ◌++◌, length, get_or, refl, ap, sym, ◌∙◌, subst, arith, below_more}
use Rattle.std.proofs.Math.Seq.{get_or-append_seam}
use Rattle.std.proofs.lemmas.List.{length-append, get_or_append_left}
use Rattle.std.proofs.lemmas.Option.{get_or_from_slice_get, same_Some}
use Rattle.net_model.specs.Cycles.{bit_at, IsSettled, IsRun}
use Rattle.net_model.specs.Held.{is_held, free_below}
use Rattle.net_model.specs.declared.netlist.Design.{Design}
use Rattle.net_model.specs.declared.cycles.Cycle.{Cycle}
use Rattle.net_model.proofs.Existence.{item_at}
use Rattle.net_model.proofs.Settling.{All-at}
use Rattle.claim_monitor.specs.Watches.{AreOfRun}
use Rattle.claim_monitor.proofs.InputLits.{free_below-zero, free_more, held_more, free_low}

-- the bits of the free ones of the first k inputs
record AreFree (d : Design) (row : List Bool) (k : ℕ) (bits : List Bool) : Type 0 where
  count : length bits ≡ free_below d k
  each : (i : ℕ) → i < k → is_held d i ≡ false → bit_at bits (free_below d i) ≡ bit_at row i

free_passed : (d : Design) (row bits : List Bool) (k : ℕ) → is_held d k ≡ true → AreFree d row k bits → AreFree d row (k + 1) bits
free_passed d row bits k held are =
    record {
      count = are.count ∙ sym (held_more d k held);
      each =
          below_more (λ i. is_held d i ≡ false → bit_at bits (free_below d i) ≡ bit_at row i) k are.each
          (λ free. let no : true ≡ false = sym held ∙ free in cc);
    }

free_pushed : (d : Design) (row bits : List Bool) (k : ℕ) → is_held d k ≡ false → AreFree d row k bits
    → AreFree d row (k + 1) (bits ++ bit_at row k ∷ [])
free_pushed d row bits k free are =
    let last = bit_at row k ∷ [] in
    record {
      count = omega (arith, length-append bits last, are.count, free_more d k free);
      each =
          below_more (λ i. is_held d i ≡ false → bit_at (bits ++ last) (free_below d i) ≡ bit_at row i) k
          (λ i low is.
          get_or_append_left bits last false (free_below d i) (omega (arith, are.count, free_low d i k low is)) ∙ are.each i low is)
          (λ is. ap (bit_at (bits ++ last)) (sym are.count) ∙ get_or-append_seam bits (bit_at row k) [] false);
    }

free_exist : (d : Design) (row : List Bool) (k : ℕ) → (bits : List Bool) × AreFree d row k bits
free_exist d row zero = ([], record { count = sym (free_below-zero d); each = λ i low. absurd (omega arith) })
free_exist d row (suc k) =
    let up : k + 1 ≡ suc k = omega arith in
    let more = free_exist d row k in
    by more.0 more.1 up (is_held d k) refl
  where
    by : (bits : List Bool) → AreFree d row k bits → k + 1 ≡ suc k → (held : Bool) → is_held d k ≡ held → (all : List Bool) × AreFree d row (suc k) all
    by bits are up true is = (bits, subst (λ (n : ℕ). AreFree d row n bits) up (free_passed d row bits k is are))
    by bits are up false is = (bits ++ bit_at row k ∷ [], subst (λ (n : ℕ). AreFree d row n (bits ++ bit_at row k ∷ [])) up (free_pushed d row bits k is are))

-- the bits of a run, and how many there are
pub record HasBits (d : Design) (run : List Cycle) : Type 0 where
  pub any : List Bool
  pub ins : ℕ → List Bool
  pub regs : length any ≡ length d.regs
  pub are : AreOfRun d run any ins

pub bits_of_run : (d : Design) (run : List Cycle) → IsRun d run → HasBits d run
bits_of_run d run is =
    let first = item_at run 0 is.linked.some in
    let c = first.0 in
    let free : (t : ℕ) → (bits : List Bool) × AreFree d (get_or run t c).ins (length d.inputs) bits =
    λ t. free_exist d (get_or run t c).ins (length d.inputs) in
    record {
      any = c.bits;
      ins = λ t. (free t).0;
      regs = (All-at (IsSettled d) run 0 c first.1 is.linked.settled).shape.bits;
      are =
          record {
            first = λ x at. let same : c ≡ x = same_Some c x (sym first.1 ∙ at) in ap (λ (y : Cycle). y.bits) same;
            count = λ t. (free t).1.count;
            inputs = λ t x at.
                let same : get_or run t c ≡ x = get_or_from_slice_get run t x c at in
                record { each = λ i low is. (free t).1.each i low is ∙ ap (λ (y : Cycle). bit_at y.ins i) same };
          };
    }
