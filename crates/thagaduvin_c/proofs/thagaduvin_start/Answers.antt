-- What the library ensures of this call is what is promised in C.
use Rattle.thagaduvin_c.proofs.thagaduvin_start.Goals as goal

pub returns : goal.returns
returns c = c.thagaduvin_start.ensures
