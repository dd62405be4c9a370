-- What a run did, as its host tells it.
use Rattle.std.specs.Prelude.{◌≡◌, ◌⊎◌, ℕ, List, length, take, Option, None}
use Rattle.sdcv_base.specs.Hosts.{Files, grown, CountsOne}
use Rattle.run_ends.specs.declared.statuses.Status.{Status}
use Rattle.run_ends.specs.declared.statuses.Status.TheVariants as ended
use Rattle.sdcv_top.specs.declared.rans.Ran.{Ran}
use Rattle.run_ends.specs.Statuses.{status_of}
use Rattle.sdcv_words.specs.Commands.{Command}
use Rattle.sdcv_words.specs.Words.{command}
use Rattle.sdcv_top.specs.Outcomes.{Outcome, refusal_of}
use Rattle.sdcv_top.specs.Reads.{ReadOf, Got, Asked, AreTold, first_names, reads_of}
use Rattle.sdcv_top.specs.Stages.{Due}
use Rattle.sdcv_top.specs.Due.{IsDueFor}

-- some first files were read, and by what these reads answered this outcome is due
pub record DueByReads (R : Due) (files_of : List ReadOf) (files : Option Files) (before now : Asked) (due : Outcome) : Type 0 where
  pub reads : List Got
  pub told : AreTold files files_of reads
  pub asked : now ≡ grown before (first_names (length reads) files_of)
  pub is_due : R reads due

-- some first files were asked for, in order
pub record AskedSome (files_of : List ReadOf) (before now : Asked) : Type 0 where
  pub count : ℕ
  pub asked : now ≡ grown before (first_names count files_of)

-- what a host tells of the calls so far
pub record Calls : Type 0 where
  pub asked : Asked
  pub printed : Option (List ℕ)
  pub saved : Option (List (List ℕ × List ℕ))

-- a delivery was cut off: the save failed and nothing is printed, or all is saved and a front is printed
abbrev pub IsCut : Calls → Calls → Outcome → Type 0
IsCut before now due =
    ((now.saved ≡ before.saved) × (now.printed ≡ before.printed))
    ⊎ ((now.saved ≡ grown before.saved due.saved) × ((n : ℕ) × (now.printed ≡ grown before.printed (take n due.printed))))

-- the run did all that was due
pub record DidAll (named : Option Command) (files : Option Files) (before now : Calls) (result : Ran) : Type 0 where
  pub due : Outcome
  pub by_reads : DueByReads (IsDueFor named) (reads_of named) files before.asked now.asked due
  pub status : result.status ≡ status_of due.ending
  pub saved : now.saved ≡ grown before.saved due.saved
  pub printed : now.printed ≡ grown before.printed due.printed
  pub judged : result.judged ≡ due.judged
  pub detected : result.detected ≡ due.detected
  pub refused : result.refused ≡ refusal_of due

-- a host fault stopped the run while it saved or printed what was due
pub record WasCutOff (named : Option Command) (files : Option Files) (before now : Calls) (result : Ran) : Type 0 where
  pub due : Outcome
  pub by_reads : DueByReads (IsDueFor named) (reads_of named) files before.asked now.asked due
  pub status : result.status ≡ ended.HostFault
  pub cut : IsCut before now due
  pub judged : result.judged ≡ due.judged
  pub detected : result.detected ≡ due.detected
  pub refused : result.refused ≡ refusal_of due

-- the run stopped for a host fault or for want of memory before it saved or printed anything
pub record DidNothing (named : Option Command) (before now : Calls) (result : Ran) : Type 0 where
  pub asked : AskedSome (reads_of named) before.asked now.asked
  pub status : (result.status ≡ ended.HostFault) ⊎ (result.status ≡ ended.Memory)
  pub saved : now.saved ≡ before.saved
  pub printed : now.printed ≡ before.printed
  pub judged : result.judged ≡ None
  pub detected : result.detected ≡ None
  pub refused : result.refused ≡ None

-- what a run for a command, or for no command, did, and what it answered
abbrev pub HasRunFor : Option Command → Option Files → Calls → Calls → Ran → Type 0
HasRunFor named files before now result =
    DidAll named files before now result ⊎ WasCutOff named files before now result ⊎ DidNothing named before now result

-- what a run for these words did, and what it answered
abbrev pub HasRun : List (List ℕ) → Option Files → Calls → Calls → Ran → Type 0
HasRun words files before now result = HasRunFor (command words) files before now result

-- the count of faults rose in a run that ends in HostFault, and in no other it changed
abbrev pub RunCounts : ℕ → ℕ → Status → Type 0
RunCounts before now ended.HostFault = CountsOne before now
RunCounts before now result = now ≡ before
