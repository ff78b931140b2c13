-- What the library ensures of this call is what is promised in C.
use Rattle.thagaduvin_scroll_c.proofs.thagaduvin_shown.Goals as goal

pub returns : goal.returns
returns c = c.thagaduvin_shown.ensures
