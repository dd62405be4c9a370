use Rattle.std.proofs.Common.{◌≡◌, ◌+◌, ◌*◌, ◌<◌, ◌≤◌, ℕ, List, length, take, get_or, arith, refl, sym, ap, ◌∙◌}
use Rattle.std.specs.Prelude.{if◌then◌else◌}
use Rattle.std.specs.Char.{digit_value, is_digit}
use Rattle.verilog_words.specs.Numbers.{run_value}
use Rattle.verilog_words.proofs.NumberLemmas.{run_value_more, run_value_front}
use Rattle.verilog_words.proofs.numbers.value_below.Goals as goal

pub loop-byte-init : goal.loop-byte-init
unfolding run_value
loop-byte-init c = record { value = refl; small = c.requires.some }

-- a value with one more byte
turn : (radix v i : ℕ) (run : List ℕ) (next : ℕ) → i < length run → v ≡ run_value radix (take i run)
    → next ≡ (if is_digit (get_or run i 0) radix then v * radix + digit_value (get_or run i 0) else v) → next ≡ run_value radix (take (i + 1) run)
turn radix v i run next below is step = step ∙ rw is (sym (run_value_more radix run i below))

pub returns-then-value-limit : goal.returns-then-value-limit
returns-then-value-limit c =
    let run = c.args.run.now in
    let i = c.loop-byte.byte-index in
    let here = turn c.args.radix c.loop-byte.value i run c.grown-value.result (omega arith) c.loop-byte.invariant.value c.grown-value.ensures in
    let front = run_value_front c.args.radix run (i + 1) (omega arith) in
    omega (arith, here, front)

pub loop-byte-preserved : goal.loop-byte-preserved
loop-byte-preserved c =
    let run = c.args.run.now in
    let i = c.loop-byte.byte-index in
    record {
      value = turn c.args.radix c.loop-byte.value i run c.grown-value.result (omega arith) c.loop-byte.invariant.value c.grown-value.ensures;
      small = omega arith;
    }
