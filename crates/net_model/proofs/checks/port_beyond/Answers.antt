use Rattle.net_model.proofs.Ranging.{ports}
use Rattle.net_model.proofs.checks.port_beyond.Goals as goal

pub returns : goal.returns
returns c =
    rw (c.or-3.ensures, c.or-2.ensures, c.or.ensures)
    (ports c.args.design.now c.number_beyond.result c.number_beyond-2.result c.input_beyond.result c.input_beyond-2.result c.number_beyond.ensures
    c.number_beyond-2.ensures (rw (← c.len.ensures) c.input_beyond.ensures) (rw (← c.len-2.ensures) c.input_beyond-2.ensures))
