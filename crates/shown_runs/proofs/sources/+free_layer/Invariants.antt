use Rattle.shown_runs.proofs.sources.+free_layer.Given as goal

abbrev pub decreases-free_layer : goal.decreases-free_layer
decreases-free_layer l = l.layer
