-- What the library ensures of this call is what is promised in C.
use Rattle.thagaduvin_convert_c.proofs.thagaduvin_convert.Goals as goal

pub returns : goal.returns
returns c = c.thagaduvin_convert.ensures
