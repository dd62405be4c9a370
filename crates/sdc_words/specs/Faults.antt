-- A fault of words, where a script is read.
use Rattle.script_types.specs.declared.faults.SdcFault.{SdcFault}
use Rattle.script_types.specs.declared.faults.SdcFault.TheVariants as fault
use Rattle.sdc_words.specs.declared.faults.WordFault.{WordFault}
use Rattle.sdc_words.specs.declared.faults.WordFault.TheVariants as word_fault

-- a fault of words, as one of a script
abbrev pub of_words : WordFault → SdcFault
of_words (word_fault.Syntax place) = fault.Syntax place
of_words word_fault.Memory = fault.Memory
of_words (word_fault.Deep place) = fault.Deep place
