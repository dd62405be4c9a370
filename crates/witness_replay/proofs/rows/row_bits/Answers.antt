use Rattle.std.proofs.Common.{◌≡◌, ◌≢◌, Bool, List, Option, ◌++◌, MatchOption}
use Rattle.std.proofs.lemmas.Bool.Decides.{Decides-eqb}
use Rattle.std.proofs.lemmas.Slice.Eq.{strip_prefix_is}
use Rattle.std.proofs.lemmas.Result.{IfOk-weaker}
use Rattle.witness_replay.specs.StimulusTexts.{digits_of}
use Rattle.witness_replay.proofs.DigitLemmas.{row_from}
use Rattle.witness_replay.proofs.rows.row_bits.Goals as goal

pub returns-in-Some : goal.returns-in-Some
returns-in-Some c =
    let line = c.args.line.now in
    let word = c.args.word.now in
    let digits = c.in-Some.digits.now in
    let is = strip_prefix_is Decides-eqb line word c.strip_prefix.result c.strip_prefix.ensures.cases in
    let cut : line ≡ word ++ digits = rw c.in-Some.is at is in
    IfOk-weaker c.bits_of.result (λ (o : Option (List Bool)). MatchOption o ((bits : List Bool) → digits ≢ digits_of bits)
    (λ bits. digits ≡ digits_of bits)) (λ (o : Option (List Bool)). MatchOption o ((bits : List Bool) → line ≢ word ++ digits_of bits)
    (λ bits. line ≡ word ++ digits_of bits)) (row_from word line digits cut) c.bits_of.ensures

pub returns-in-None : goal.returns-in-None
returns-in-None c =
    let is = strip_prefix_is Decides-eqb c.args.line.now c.args.word.now c.strip_prefix.result c.strip_prefix.ensures.cases in
    let none = rw c.in-None.is at is in
    λ bits e. none (digits_of bits) e
