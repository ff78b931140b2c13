-- After i turns the first i bytes of the text stand after `at`, and the buffer is else as it was; the loop ends with all.
use mathlib.Core.Path.{◌≡◌, refl}
use native.Mathlib.Omega.{arith}
use native.Mathlib.Numerals.{add-one}
use lib.ListN.{length, length-set}
use lib.Seq.{paste-zero, paste-suc, take-paste, drop-paste, take_all}
use Rattle.mail.proofs.put.Goals as goal

pub loop-i-init : goal.loop-i-init
loop-i-init c = (refl, paste-zero c.args.out.now c.args.at c.args.text.now)

pub loop-i-preserved : goal.loop-i-preserved
loop-i-preserved c =
    let l = c.loop-i in (
      simp length-set l.invariant.0,
      rw (l.invariant.1, add-one l.i) (paste-suc _ _ _ l.i 0 (omega arith) (omega arith)),
    )

pub returns : goal.returns
returns c =
    let l = c.loop-i in
    let a = c.args in
    let all : length a.text.now ≡ l.i = omega arith in
    record {
      ends = refl;
      front = rw (l.invariant.1, all, take-paste a.out.now a.at a.text.now l.i (omega arith) (omega arith), take_all l.i a.text.now (omega arith));
      past = rw (l.invariant.1, all) (drop-paste a.out.now a.at a.text.now l.i (omega arith) (omega arith));
    }
