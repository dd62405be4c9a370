use Rattle.net_link.proofs.links.inner_names.Goals as goal

pub returns-clause-ok : goal.returns-clause-ok
returns-clause-ok c = λ held m.
    let g = c.in_ok-made.ensures.gated held m in
    record {
      once = g.once;
      clocked = g.clocked;
      lawful = g.lawful;
      tree = c.in_ok-made.made.tree;
      gates = g.gates;
      gated_is = g.gated_is;
      own = c.in_ok-cells.ensures.own;
      cells_are = λ own found cut lawful at. c.in_ok-cells.ensures.names m.order g own found cut lawful at;
      places = λ own found cut lawful leaves at. c.in_ok-cells.ensures.usable m.order own found cut lawful g leaves at;
      nets_are = c.in_ok-nets.ensures.ok held m;
    }
