-- The lines of a stimulus that is replayed for a pair.
use Rattle.std.specs.Prelude.{ℕ, List, codes, Option, Some, None}
use Rattle.std.specs.Fmt.{decimal}
use Rattle.witness_replay.specs.declared.faults.StimFault.{StimFault}
use Rattle.witness_replay.specs.declared.faults.StimFault.TheVariants as stimulus
use Rattle.witness_replay.specs.declared.faults.ReplayFault.{ReplayFault}
use Rattle.witness_replay.specs.declared.faults.ReplayFault.TheVariants as replay
use Rattle.witness_replay.specs.declared.outcomes.Replay.{Replay}
use Rattle.witness_replay.specs.declared.outcomes.Replay.TheVariants.{Violated, Holds}
use Rattle.answer_lines.specs.Texts.{◌⁀◌, newline}

-- no pair has this number
abbrev pub no_pair_line : ℕ → List ℕ
no_pair_line number = codes "refused pair 1 NoPair " ⁀ decimal number ⁀ newline

abbrev pub stimulus_line : StimFault → Option (List ℕ)
stimulus_line stimulus.NoBlock = Some (codes "refused stimulus 1 NoBlock" ⁀ newline)
stimulus_line (stimulus.Form line) = Some (codes "refused stimulus 2 Form " ⁀ decimal line ⁀ newline)
stimulus_line stimulus.Memory = None

abbrev pub replay_line : ReplayFault → Option (List ℕ)
replay_line replay.Shape = Some (codes "refused replay 1 Shape" ⁀ newline)
replay_line (replay.NotReset cycle) = Some (codes "refused replay 2 NotReset " ⁀ decimal cycle ⁀ newline)
replay_line replay.Memory = None

-- what the stimulus does to the pair of this number
abbrev pub replayed_line : ℕ → Replay → List ℕ
replayed_line number (Violated cycle) = codes "pair " ⁀ decimal number ⁀ codes " violated at " ⁀ decimal cycle ⁀ newline
replayed_line number Holds = codes "pair " ⁀ decimal number ⁀ codes " holds" ⁀ newline
