use Rattle.model_tests.proofs.functions.toggle_capture.Goals as goal

pub returns : goal.returns
returns c = c.in_ok-func.ensures.over 7 c.in_ok-reg.ensures.next c.in_ok-reg.ensures.clear c.in_ok-reg.ensures.preset
