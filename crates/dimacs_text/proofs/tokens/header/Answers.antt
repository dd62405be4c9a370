use Rattle.std.proofs.Common.{sym, ◌∙◌}
use Rattle.dimacs_text.proofs.Heading.{header_yes, header_no}
use Rattle.dimacs_text.proofs.tokens.header.Goals as goal

pub returns-then-is_header-clause-is : goal.returns-then-is_header-clause-is
returns-then-is_header-clause-is c =
    c.counts.ensures.is
    ∙ sym (header_yes c.args.words.now _ _ (c.is_header.ensures.four c.if-is_header.true) (sym c.is_header.ensures.is ∙ c.if-is_header.true))

pub returns-clause-is : goal.returns-clause-is
returns-clause-is c = sym (header_no c.args.words.now (sym c.is_header.ensures.is ∙ c.if-is_header.false))
