use Rattle.sdcv_top.proofs.verifying.certified.Goals as goal

pub certificate-requires-clause-judged : goal.certificate-requires-clause-judged
certificate-requires-clause-judged c = c.requires.judged

pub certificate-requires-clause-in_form : goal.certificate-requires-clause-in_form
certificate-requires-clause-in_form c = c.requires.in_form
