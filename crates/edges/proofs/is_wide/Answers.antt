-- is_wide: the width of the widest edge fits.
use Rattle.edges.proofs.Fits.{fits_width}
use Rattle.edges.proofs.is_wide.Goals as goal

pub width-requires : goal.width-requires
width-requires c = fits_width (c.requires.x_in.each c.widest.result c.widest.ensures.live)
