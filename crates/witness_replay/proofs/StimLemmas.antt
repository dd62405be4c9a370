-- Faults and answers of a block's reader are those of the report.
use Rattle.std.proofs.Common.{◌≡◌, ℕ, ◌+◌, ◌<◌, ◌^◌, List, [], length, Result, Ok, Err, IfOk, IfErr, refl, sym, ap, ◌∙◌, subst, arith}
use Rattle.net_model.specs.declared.cycles.Stimulus.{Stimulus}
use Rattle.witness_replay.specs.declared.faults.StimFault.{StimFault}
use Rattle.witness_replay.specs.declared.faults.StimFault.TheVariants.{NoBlock, Form, Memory}
use Rattle.witness_replay.specs.Blocks.{lines, block_in, HasFirstBlock, IsStimCause, IsWritten, Recalls}
use Rattle.witness_replay.specs.BlockParts.{IsMissing, IsInputFault, LackInputs, IsStuck, IsBlockFault, ReadsBlock}
use Rattle.witness_replay.proofs.BlockLemmas.{broken, stuck_none, one_stimulus}
use Rattle.witness_replay.proofs.WrittenLemmas.{written_first}

-- a missing line makes the block stuck
pub missing_through : (number next after : ℕ) (ls : List (List ℕ)) (missing : Type 0)
    → ((line : ℕ) → line ≡ after → missing → IsStuck number ls next line) → (e : StimFault) → IsMissing after missing e
    → IsBlockFault number ls next e
missing_through number next after ls missing stuck NoBlock h = absurd h
missing_through number next after ls missing stuck (Form line) h = stuck line h.0 h.1
missing_through number next after ls missing stuck Memory h = tt

pub inputs_through : (number next after count : ℕ) (ls left : List (List ℕ))
    → ((line : ℕ) → LackInputs count left after line → IsStuck number ls next line) → (e : StimFault) → IsInputFault count left after e
    → IsBlockFault number ls next e
inputs_through number next after count ls left stuck NoBlock h = absurd h
inputs_through number next after count ls left stuck (Form line) h = stuck line h
inputs_through number next after count ls left stuck Memory h = tt

module _ (number next : ℕ) (report : List ℕ) (ls : List (List ℕ)) (small : length report < 2 ^ 64) (is : block_in number report ≡ ls) where
  at_block : (line : ℕ) → IsStuck number ls next line → IsStuck number (block_in number report) next line
  at_block line stuck = subst (λ (x : List (List ℕ)). IsStuck number x next line) (sym is) stuck

  -- a fault of the block is one of the report
  pub at_fault : 0 < length ls → next + length ls ≡ length (lines report) + 1 → (e : StimFault) → IsBlockFault number ls next e → IsStimCause number report e
  at_fault some all NoBlock h = absurd h
  at_fault some all (Form line) stuck = let n = ap length is in broken number next line report small (omega arith) (omega arith) (at_block line stuck)
  at_fault some all Memory h = tt

  -- where the report has the stimulus, it is the answer
  pub recalls : (r : Result Stimulus StimFault) → IfOk r (ReadsBlock number ls) → IfErr r (IsBlockFault number ls next) → (s : Stimulus)
      → HasFirstBlock number report s → Recalls r s
  recalls (Ok t) reads fault s has = one_stimulus number report s t small has (subst (λ (x : List (List ℕ)). ReadsBlock number x t) (sym is) reads)
  recalls (Err NoBlock) reads fault s has = absurd fault
  recalls (Err (Form line)) reads fault s has = absurd (stuck_none number next line report small (at_block line fault) s has)
  recalls (Err Memory) reads fault s has = refl

-- a report without a block of the number has no stimulus
pub none_written : (number : ℕ) (report : List ℕ) (s : Stimulus) → block_in number report ≡ [] → ¬ IsWritten number report s
none_written number report s none written = let e = sym none ∙ (written_first number report s written).is in cc
