-- What the library ensures of this call is what is promised in C.
use Rattle.thagaduvin_scroll_c.proofs.thagaduvin_shift.Goals as goal

pub returns : goal.returns
returns c = c.thagaduvin_shift.ensures
