-- Each field is made of its words; the pointers begin where their words stand.
use Rattle.windows.specs.Window.{window_of}
use Rattle.windows.proofs.window_of.Goals as goal

pub returns : goal.returns
unfolding window_of
returns c =
    rw (
      c.pointer_of-2.ensures,
      c.words_ahead.ensures,
      c.pointer_of.ensures,
      c.low_byte-2.ensures,
      c.high_byte-2.ensures,
      c.low_byte.ensures,
      c.high_byte.ensures,
    )
