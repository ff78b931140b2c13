-- What the library ensures of this call is what is promised in C.
use Rattle.thagaduvin_mend_c.proofs.thagaduvin_mend.Goals as goal

pub returns : goal.returns
returns c = c.thagaduvin_mend.ensures
