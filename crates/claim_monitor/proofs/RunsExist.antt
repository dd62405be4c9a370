-- Any first bits of registers and any bits of free inputs are those of a run.
use Rattle.std.proofs.Common.{◌≡◌, ℕ, ◌<◌, ◌≤◌, ◌+◌, Bool, true, false, if◌then◌else◌, List, map, length, get_or, Some, refl, ap, sym, ◌∙◌, subst, arith}
use Rattle.std.specs.Prelude.{slice_get, option_map, nat_lt}
use Rattle.std.specs.List.{list_any, range_with_len}
use Rattle.std.proofs.lemmas.Bool.{or_left, or_right, eq-eqb}
use Rattle.std.proofs.lemmas.List.{length-map}
use Rattle.std.proofs.lemmas.List.Folds.{list_any_at}
use Rattle.std.proofs.lemmas.List.FromFn.{length-map-range_with_len, get_or-map-range_with_len}
use Rattle.std.proofs.lemmas.Option.{slice_get-map, slice_get-get_or, slice_get_within, get_or_from_slice_get}
use Rattle.net_model.specs.Netlist.{IsSound}
use Rattle.net_model.specs.Cycles.{bit_at}
use Rattle.net_model.specs.Held.{sets, is_held, free_below}
use Rattle.net_model.specs.Stimuli.{AreInputs, IsLawful}
use Rattle.net_model.specs.declared.netlist.Design.{Design}
use Rattle.net_model.specs.declared.netlist.Fixed.{Fixed}
use Rattle.net_model.specs.declared.cycles.Cycle.{Cycle}
use Rattle.net_model.specs.declared.cycles.Stimulus.{Stimulus}
use Rattle.net_model.proofs.Existence.{item_at}
use Rattle.net_model.proofs.OneRun.{bits_exist, has_one_run}
use Rattle.net_model.proofs.Stimulating.{stimulus_exists}
use Rattle.net_sim.proofs.SettingsPut.{input_below, fixed_below, resets_below}
use Rattle.claim_monitor.specs.Rises.{HasRunOf}

-- an input of a setting is held
setting_has : (settings : List Fixed) (k : ℕ) (o : Fixed) → k < length settings → list_any (sets (get_or settings k o).input) settings ≡ true
setting_has settings k o within =
    let f = get_or settings k o in list_any_at (sets f.input) settings k o within (eq-eqb f.input f.input refl)

fixed_held : (d : Design) (k : ℕ) (o : Fixed) → k < length d.fixed → is_held d (get_or d.fixed k o).input ≡ true
fixed_held d k o within =
    let i = (get_or d.fixed k o).input in
    or_left (list_any (sets i) d.fixed) (list_any (sets i) d.resets) (setting_has d.fixed k o within)

reset_held : (d : Design) (k : ℕ) (o : Fixed) → k < length d.resets → is_held d (get_or d.resets k o).input ≡ true
reset_held d k o within =
    let i = (get_or d.resets k o).input in
    or_right (list_any (sets i) d.fixed) (list_any (sets i) d.resets) (setting_has d.resets k o within)

-- a held input has its bit of a lawful row, and a free one the one that is given
abbrev filled_bit : Design → List Bool → List Bool → ℕ → Bool
filled_bit d lawful given i = if is_held d i then bit_at lawful i else bit_at given (free_below d i)

filled_held : (d : Design) (lawful given : List Bool) (i : ℕ) → is_held d i ≡ true → filled_bit d lawful given i ≡ bit_at lawful i
filled_held d lawful given i held = ap (λ (b : Bool). if b then bit_at lawful i else bit_at given (free_below d i)) held

filled_free : (d : Design) (lawful given : List Bool) (i : ℕ) → is_held d i ≡ false → filled_bit d lawful given i ≡ bit_at given (free_below d i)
filled_free d lawful given i free = ap (λ (b : Bool). if b then bit_at lawful i else bit_at given (free_below d i)) free

-- lawful input bits, of which the free ones are given
record AreFilled (d : Design) (active : Bool) (given row : List Bool) : Type 0 where
  lawful : AreInputs d active row
  free : (i : ℕ) → i < length d.inputs → is_held d i ≡ false → bit_at row i ≡ bit_at given (free_below d i)

filled_exists : (d : Design) (active : Bool) (lawful given : List Bool) → IsSound d → AreInputs d active lawful → (row : List Bool)
    × AreFilled d active given row
filled_exists d active lawful given sound are =
    let made = bits_exist (filled_bit d lawful given) (length d.inputs) in (
      made.0,
      record {
        lawful =
            record {
              count = made.1;
              fixed = λ k o within.
                  let f = get_or d.fixed k o in
                  let low = input_below (length d.inputs) d.fixed k f (fixed_below d sound) (slice_get-get_or d.fixed k o within) in
                  made.2 f.input low ∙ (filled_held d lawful given f.input (fixed_held d k o within) ∙ are.fixed k o within);
              resets = λ k o within.
                  let f = get_or d.resets k o in
                  let low = input_below (length d.inputs) d.resets k f (resets_below d sound) (slice_get-get_or d.resets k o within) in
                  made.2 f.input low ∙ (filled_held d lawful given f.input (reset_held d k o within) ∙ are.resets k o within);
            };
        free = λ i low free. made.2 i low ∙ filled_free d lawful given i free;
      },
    )

lawful_exists : (d : Design) (t : ℕ) → IsSound d → (row : List Bool) × AreInputs d (nat_lt t d.reset_len) row
lawful_exists d t sound =
    let some = stimulus_exists d (t + 1) sound (omega arith) in
    let row = item_at some.stimulus.inputs t (omega (arith, some.count)) in
    (row.0, some.lawful.inputs t row.0 row.1)

-- the input bits at a step
row_exists : (d : Design) (ins : ℕ → List Bool) (t : ℕ) → IsSound d → (row : List Bool) × AreFilled d (nat_lt t d.reset_len) (ins t) row
row_exists d ins t sound =
    let lawful = lawful_exists d t sound in filled_exists d (nat_lt t d.reset_len) lawful.0 (ins t) sound lawful.1

-- those of so many steps
record AreRows (d : Design) (ins : ℕ → List Bool) (cycles : ℕ) (rows : List (List Bool)) : Type 0 where
  count : length rows ≡ cycles
  each : (t : ℕ) (row : List Bool) → slice_get rows t ≡ Some row → AreFilled d (nat_lt t d.reset_len) (ins t) row

rows_exist : (d : Design) (ins : ℕ → List Bool) (cycles : ℕ) → IsSound d → (rows : List (List Bool)) × AreRows d ins cycles rows
rows_exist d ins cycles sound =
    let row : ℕ → List Bool = λ (t : ℕ). (row_exists d ins t sound).0 in
    let rows = map row (range_with_len 0 cycles) in
    let count : length rows ≡ cycles = length-map-range_with_len row 0 cycles in (
      rows,
      record {
        count = count;
        each = λ t r at.
            let within = slice_get_within rows t r at in
            let made : get_or rows t r ≡ row t = get_or-map-range_with_len row 0 cycles t t r (omega (arith, count, within)) (omega arith) in
            let is : row t ≡ r = sym made ∙ get_or_from_slice_get rows t r r at in
            subst (AreFilled d (nat_lt t d.reset_len) (ins t)) is (row_exists d ins t sound).1;
      },
    )

-- there is a run of each length with them
pub run_exists : (d : Design) (any : List Bool) (ins : ℕ → List Bool) (cycles : ℕ) → IsSound d → length any ≡ length d.regs
    → ((t : ℕ) → length (ins t) ≡ free_below d (length d.inputs)) → 1 ≤ cycles → HasRunOf d any ins cycles
run_exists d any ins cycles sound regs count some =
    let made = rows_exist d ins cycles sound in
    let s : Stimulus = record { state = any; inputs = made.0 } in
    let lawful : IsLawful d s =
    record { state = regs; some = omega (arith, made.1.count); inputs = λ t row at. (made.1.each t row at).lawful } in
    let one = has_one_run d s sound lawful in
    record {
      run = one.run;
      count = sym (length-map one.run (λ (c : Cycle). c.ins)) ∙ (ap length one.stands.inputs ∙ made.1.count);
      from_reset = one.from_reset;
      bits =
          record {
            first = λ c at. sym (one.stands.state c at);
            count = count;
            inputs = λ t c at.
                let there : slice_get (map (λ (x : Cycle). x.ins) one.run) t ≡ Some c.ins =
                slice_get-map (λ (x : Cycle). x.ins) one.run t ∙ ap (option_map (λ (x : Cycle). x.ins)) at in
                let filled = made.1.each t c.ins (sym (ap (λ (rows : List (List Bool)). slice_get rows t) one.stands.inputs) ∙ there) in
                record { each = λ i low free. sym (filled.free i low free) };
          };
    }
