-- How a run ends.
use Rattle.std.specs.Prelude.{ℕ, Result, Ok, Err}
use Rattle.run_ends.specs.declared.statuses.Status.{Status}
use Rattle.run_ends.specs.declared.statuses.Status.TheVariants as status
use Rattle.run_ends.specs.declared.statuses.Ending.{Ending}
use Rattle.run_ends.specs.declared.statuses.Ending.TheVariants as ending

-- the number that the program ends with
abbrev pub code_of : Status → ℕ
code_of status.Done = 0
code_of status.Refuted = 1
code_of status.Undecided = 2
code_of status.Refused = 3
code_of status.Words = 4
code_of status.HostFault = 5
code_of status.Memory = 6
code_of status.Rejected = 7
code_of status.Holds = 8

-- the status of a run that does all that is due
abbrev pub status_of : Ending → Status
status_of ending.Done = status.Done
status_of ending.Refuted = status.Refuted
status_of ending.Undecided = status.Undecided
status_of ending.Refused = status.Refused
status_of ending.Words = status.Words
status_of ending.Rejected = status.Rejected
status_of ending.Holds = status.Holds

-- the status of a run whose last print answered so
abbrev pub status_after : {T E : Type 0} → Result T E → Ending → Status
status_after (Ok _) how = status_of how
status_after (Err _) how = status.HostFault
