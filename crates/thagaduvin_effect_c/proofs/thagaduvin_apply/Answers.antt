-- What the library ensures of this call is what is promised in C.
use Rattle.thagaduvin_effect_c.proofs.thagaduvin_apply.Goals as goal

pub returns : goal.returns
returns c = c.thagaduvin_apply.ensures
