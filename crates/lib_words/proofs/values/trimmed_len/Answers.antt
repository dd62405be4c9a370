use Rattle.std.proofs.Common.{◌∙◌, length, ap, arith, length-take-le}
use Rattle.std.proofs.lemmas.Str.Ascii.{trim_ascii_end_is}
use Rattle.lib_words.proofs.values.trimmed_len.Goals as goal

pub returns-clause-value : goal.returns-clause-value
returns-clause-value c =
    let s = c.args.run.now in
    let r = c.trim_ascii_end.result.now in
    ap length (trim_ascii_end_is s r c.trim_ascii_end.ensures.value) ∙ length-take-le _ s (omega arith)
