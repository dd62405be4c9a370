use Rattle.claim_monitor.proofs.layers.+layer_pin.Given as goal

abbrev pub decreases-layer_pin : goal.decreases-layer_pin
decreases-layer_pin l = l.layer
