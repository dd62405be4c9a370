use Rattle.std.proofs.Common.{◌≡◌, ◌<◌, ◌^◌, ◌∷◌, ◌++◌, map, arith}
use Rattle.std.specs.Prelude.{codes}
use Rattle.std.proofs.lemmas.Result.{err_from_is_err_and}
use Rattle.witness_replay.specs.StimulusTexts.{digits_of, head_of, input_line}
use Rattle.witness_replay.specs.BlockParts.{left, next_number}
use Rattle.witness_replay.proofs.BlockLemmas.{stuck_head, stuck_state, stuck_inputs, stuck_end, whole_block}
use Rattle.witness_replay.proofs.StimLemmas.{missing_through, inputs_through}
use Rattle.witness_replay.proofs.stimulus_reads.read_block.Goals as goal

pub returns-in_err-count-clause-err : goal.returns-in_err-count-clause-err
returns-in_err-count-clause-err c =
    let p = err_from_is_err_and c.from_residual.result c.from_residual.ensures.1 in
    let lines = c.args.lines.now in
    rw (p.1, p.2) (missing_through c.args.number (next_number lines) (next_number lines) (left lines) _
    (λ line place lacks. stuck_head c.args.number (next_number lines) line (left lines) place lacks) c.in_err-count.field-0.0
    c.in_err-count.ensures.err)

pub returns-in_err-state-clause-err : goal.returns-in_err-state-clause-err
returns-in_err-state-clause-err c =
    let p = err_from_is_err_and c.from_residual-in_err-state.result c.from_residual-in_err-state.ensures.1 in
    let lines = c.args.lines.now in
    let then = c.take_head.new.lines in
    let few : c.in_ok-count.count < 2 ^ 64 = omega arith in
    let one = c.in_ok-count.ensures.number in
    rw (p.1, p.2) (missing_through c.args.number (next_number lines) (next_number then) (left lines) _
    (λ line place lacks. stuck_state c.args.number c.in_ok-count.count (next_number lines) line (left lines)
    (left then) few c.in_ok-count.ensures.ok (omega arith) lacks) c.in_err-state.field-0.0 c.in_err-state.ensures.err)

pub returns-in_err-inputs-clause-err : goal.returns-in_err-inputs-clause-err
returns-in_err-inputs-clause-err c =
    let p = err_from_is_err_and c.from_residual-in_err-inputs.result c.from_residual-in_err-inputs.ensures.1 in
    let lines = c.args.lines.now in
    let then = c.take_row.new.lines in
    let few : c.in_ok-count.count < 2 ^ 64 = omega arith in
    let one = c.in_ok-count.ensures.number in
    let two = c.in_ok-state.ensures.number in
    let first = c.in_ok-count.ensures.ok in
    let second = c.in_ok-state.ensures.ok in
    let is : left lines ≡ head_of c.args.number c.in_ok-count.count ∷ (codes "state " ++ digits_of c.in_ok-state.state) ∷ left then = cc in
    rw (p.1, p.2) (inputs_through c.args.number (next_number lines) (next_number then) c.in_ok-count.count (left lines) (left then)
    (λ line lacks. stuck_inputs c.args.number c.in_ok-count.count (next_number lines) (next_number then) line (left lines)
    (left then) c.in_ok-state.state few is (omega arith) lacks) c.in_err-inputs.field-0.0 c.in_err-inputs.ensures.err)

pub returns-in_err-take_end-clause-err : goal.returns-in_err-take_end-clause-err
returns-in_err-take_end-clause-err c =
    let p = err_from_is_err_and c.from_residual-in_err-take_end.result c.from_residual-in_err-take_end.ensures.1 in
    let lines = c.args.lines.now in
    let then = c.take_inputs.new.lines in
    let few : c.in_ok-count.count < 2 ^ 64 = omega arith in
    let one = c.in_ok-count.ensures.number in
    let two = c.in_ok-state.ensures.number in
    let more = c.in_ok-inputs.ensures.number in
    let first = c.in_ok-count.ensures.ok in
    let second = c.in_ok-state.ensures.ok in
    let third = c.in_ok-inputs.ensures.ok in
    let is : left lines ≡ head_of c.args.number c.in_ok-count.count ∷ (codes "state " ++ digits_of c.in_ok-state.state)
    ∷ (map input_line c.in_ok-inputs.inputs ++ left then) = cc in
    rw (p.1, p.2) (missing_through c.args.number (next_number lines) (next_number then) (left lines) _
    (λ line place lacks. stuck_end c.args.number c.in_ok-count.count (next_number lines) line (left lines) (left then) c.in_ok-state.state
    c.in_ok-inputs.inputs few is c.in_ok-inputs.ensures.count (omega arith) lacks) c.in_err-take_end.field-0.0 c.in_err-take_end.ensures.err)

pub returns-clause-ok : goal.returns-clause-ok
returns-clause-ok c =
    let lines = c.args.lines.now in
    let few : c.in_ok-count.count < 2 ^ 64 = omega arith in
    let first = c.in_ok-count.ensures.ok in
    let second = c.in_ok-state.ensures.ok in
    let third = c.in_ok-inputs.ensures.ok in
    let fourth = c.in_ok-take_end.ensures.ok in
    let is : left lines ≡ head_of c.args.number c.in_ok-count.count ∷ (codes "state " ++ digits_of c.in_ok-state.state)
    ∷ (map input_line c.in_ok-inputs.inputs ++ codes "end" ∷ left c.take_end.new.lines) = cc in
    whole_block c.args.number c.in_ok-count.count (left lines) (left c.take_end.new.lines) c.in_ok-state.state c.in_ok-inputs.inputs few is
    c.in_ok-inputs.ensures.count
