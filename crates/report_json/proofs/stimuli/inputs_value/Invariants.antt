use Rattle.std.proofs.Common.{◌≡◌, map, take}
use Rattle.serde_json.specs.Data.{string}
use Rattle.serde_json.specs.View.{view}
use Rattle.witness_replay.specs.StimulusTexts.{digits_of}
use Rattle.report_json.proofs.stimuli.inputs_value.Given as goal

abbrev pub invariant-loop-bits : goal.invariant-loop-bits
invariant-loop-bits l = map view l.list.items ≡ map (λ bits. string (digits_of bits)) (take l.bits-index l.bits-items)
