use Rattle.std.proofs.Common.{◌≡◌, ◌++◌, ◌∙◌, sym, arith}
use Rattle.std.specs.Fmt.{decimal}
use Rattle.std.proofs.lemmas.Bool.Decides.{Decides-eqb}
use Rattle.std.proofs.lemmas.Slice.Eq.{strip_prefix_is}
use Rattle.std.proofs.lemmas.List.{append_cancel_left}
use Rattle.witness_replay.proofs.HeadLemmas.{read_back}
use Rattle.witness_replay.proofs.stimulus_reads.number_after.Goals as goal

pub returns-in_err-strip_prefix : goal.returns-in_err-strip_prefix
returns-in_err-strip_prefix c =
    let is = strip_prefix_is Decides-eqb c.args.line.now c.args.front.now c.strip_prefix.result c.strip_prefix.ensures.cases in
    let none = rw c.in_err-strip_prefix.was at is in
    λ n fits e. absurd (none (decimal n) e)

pub returns : goal.returns
returns c =
    let front = c.args.front.now in
    let digits = c.in_ok-strip_prefix.field-0.now in
    let is = strip_prefix_is Decides-eqb c.args.line.now front c.strip_prefix.result c.strip_prefix.ensures.cases in
    let cut : c.args.line.now ≡ front ++ digits = rw c.in_ok-strip_prefix.was at is in
    λ n fits e. read_back digits n _ c.read_decimal.result fits (omega arith) (append_cancel_left front digits (decimal n) (sym cut ∙ e))
    c.read_decimal.ensures.some c.read_decimal.ensures.value
