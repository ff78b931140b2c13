-- What is written, then the records of the registers from i on, are the bytes before and all records: each turn writes one, four bytes at most.
use mathlib.Core.Path.{sym, ◌∙◌}
use mathlib.Core.List.{append-nil}
use native.Mathlib.Omega.{arith}
use lib.ListN.{take}
use Rattle.image.specs.Written.{register_record}
use Rattle.image.proofs.PieceLaws.{value-more, no-values}
use borrow.Author.Rules.{rules}
use Rattle.image.proofs.put_registers.Goals as goal

pub loop-i-preserved : goal.loop-i-preserved
loop-i-preserved c =
    let p = c.put_register-at in
    let l = c.loop-i in (
      search rules,
      omega arith,
      value-more register_record c.args.registers.now _ (take l.at l.out) (take p.result c.put_register-at.new.out) l.i (omega arith) l.invariant.2 c.put_register-at.ensures.1,
    )

pub returns : goal.returns
returns c =
    let l = c.loop-i in
    let registers = c.args.registers.now in
    (omega arith, sym (append-nil _) ∙ (rw (no-values register_record registers l.i (omega arith)) at l.invariant.2))
