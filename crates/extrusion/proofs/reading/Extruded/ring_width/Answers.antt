use Rattle.extrusion.proofs.Blocks.{section_same}
use Rattle.extrusion.proofs.Fitting.{closes_is, ring_closed, ring_open}
use Rattle.mesh.specs.Extrusion.{ring_of}
use mathlib.Core.Path.{◌∙◌, ap}
use Rattle.extrusion.proofs.reading.Extruded.ring_width.Goals as goal

pub returns-then-closes : goal.returns-then-closes
returns-then-closes c =
    ring_closed _ _ _ (closes_is _ _ c.closes.ensures) c.len.ensures c.if-closes.true ∙ ap ring_of (c.section-section.ensures ∙ section_same _ _ c.args.self.now.given.head)

pub returns : goal.returns
returns c = ring_open _ 0 _ (closes_is _ _ c.closes.ensures) c.if-closes.false ∙ ap ring_of (c.section-section.ensures ∙ section_same _ _ c.args.self.now.given.head)
