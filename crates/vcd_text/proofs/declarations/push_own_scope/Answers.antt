use Rattle.std.proofs.Common.{◌≡◌, ℕ, List, ◌++◌, ◌∙◌, ap}
use Rattle.std.proofs.lemmas.Result.{on_ok_weaker}
use Rattle.wave_signals.specs.Numbered.{numbered}
use Rattle.vcd_text.specs.Scopes.{upscope_line}
use Rattle.vcd_text.specs.Declarations.{title, clock_line, var_line}
use Rattle.vcd_text.proofs.Pushes.{four_pushed}
use Rattle.vcd_text.proofs.declarations.push_own_scope.Goals as goal

pub returns : goal.returns
returns c =
    let clock = c.in_ok-push_clock.ensures ∙ ap (λ (name : List ℕ). c.push_title.new.text.items ++ clock_line name) c.as_bytes.ensures in
    on_ok_weaker c.push_upscope.result
    (λ (last : c.push_upscope.new.text.items ≡ c.push_marks.new.text.items ++ upscope_line).
    four_pushed c.args.text.now.items c.push_title.new.text.items c.push_clock.new.text.items c.push_marks.new.text.items c.push_upscope.new.text.items title
    (clock_line c.args.wave.now.clock) (numbered var_line 1 c.args.wave.now.marks) upscope_line c.in_ok-push_title.ensures clock c.in_ok-push_marks.ensures
    last)
    c.push_upscope.ensures
