-- What is left of a netlist, as its parts.
use Rattle.link_defs.specs.declared.cuts.CutSource.{CutSource}
use Rattle.design_stages.specs.declared.designing.Below.{Below}

-- the source and the instances that are cut out of it
abbrev pub cut_below : Below → CutSource
cut_below b = record { source = b.source.now; items = b.items.now }
