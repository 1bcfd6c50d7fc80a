-- image: D, B, Z and E in document 01's order, each in the next one's range.
use mathlib.Core.Path.{◌∙◌}
use Rattle.step.proofs.Parts.{d-in, b-in, e-in, parts_in, image-made}
use Rattle.step.proofs.image.Goals as goal

pub d_vector-d-requires : goal.d_vector-d-requires
d_vector-d-requires c = d-in c.requires

pub b_matrix-b-requires : goal.b_matrix-b-requires
b_matrix-b-requires c = b-in c.requires

pub offsets-z-requires : goal.offsets-z-requires
offsets-z-requires c = let p = c.requires in record { x_in = p.box; m_in = p.middles }

pub e_vector-e-requires : goal.e_vector-e-requires
e_vector-e-requires c = e-in c.requires c.b_matrix-b.ensures c.offsets-z.ensures

pub joined-requires : goal.joined-requires
joined-requires c =
    parts_in c.requires c.b_matrix-b.ensures c.offsets-z.ensures
    c.d_vector-d.ensures c.e_vector-e.ensures

pub returns : goal.returns
returns c =
    c.joined.ensures
    ∙ image-made c.requires c.b_matrix-b.ensures c.offsets-z.ensures
    c.d_vector-d.ensures
    c.e_vector-e.ensures
