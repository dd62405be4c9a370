use Rattle.sdcv_top.proofs.verifying.judged.Goals as goal

pub judge-requires-clause-sought : goal.judge-requires-clause-sought
judge-requires-clause-sought g c = record {
  shallow = c.requires.options.inv_depth;
  names = c.requires.names;
  in_form = c.requires.in_form;
}
