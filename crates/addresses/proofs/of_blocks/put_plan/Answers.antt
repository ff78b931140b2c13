-- The four blocks, one after the other.
use mathlib.Core.Path.{ap, sym, ◌∙◌}
use mathlib.Core.Bool.{true, false}
use mathlib.Core.List.{List, ◌++◌}
use Prim.Native.Nat.{ℕ, ◌+◌}
use native.Mathlib.Omega.{arith}
use lib.ListN.{length, length-append}
use lib.Seq.{sets}
use Rattle.addresses.specs.Addresses.{pointed, head_word, block_words, redefinition_of, plan_addresses}
use Rattle.addresses.proofs.PlaceLaws.{sets-append}
use Rattle.addresses.proofs.of_blocks.put_plan.Goals as goal

pub put_pointed-first-requires : goal.put_pointed-first-requires
unfolding plan_addresses
put_pointed-first-requires c =
    let a = c.args in
    let x = pointed a.linear 6 a.due in
    let y = pointed a.linear (block_words true (head_word a.linear a.mem.now a.next)) a.next in
    let z = pointed a.linear 3 (redefinition_of a.linear a.mem.now a.next) in
    let u = pointed a.linear (block_words false (head_word a.linear a.mem.now a.rows)) a.rows in
    (omega (arith, c.requires, length-append x (y ++ (z ++ u)), length-append y (z ++ u), length-append z u), omega arith)

pub put_block-second-requires : goal.put_block-second-requires
unfolding plan_addresses
put_block-second-requires c =
    let a = c.args in
    let x = pointed a.linear 6 a.due in
    let y = pointed a.linear (block_words true (head_word a.linear a.mem.now a.next)) a.next in
    let z = pointed a.linear 3 (redefinition_of a.linear a.mem.now a.next) in
    let u = pointed a.linear (block_words false (head_word a.linear a.mem.now a.rows)) a.rows in
    rw c.put_pointed-first.ensures.value (omega (arith, c.requires, length-append x (y ++ (z ++ u)), length-append y (z ++ u), length-append z u, c.put_pointed-first.auto.list))

pub put_pointed-third-requires : goal.put_pointed-third-requires
unfolding plan_addresses
put_pointed-third-requires c =
    let a = c.args in
    let x = pointed a.linear 6 a.due in
    let y = pointed a.linear (block_words true (head_word a.linear a.mem.now a.next)) a.next in
    let z = pointed a.linear 3 (redefinition_of a.linear a.mem.now a.next) in
    let u = pointed a.linear (block_words false (head_word a.linear a.mem.now a.rows)) a.rows in (
      rw (c.redefinition_of-redefinition.ensures, c.put_block-second.ensures.value, c.put_pointed-first.ensures.value)
          (omega (arith, c.requires, length-append x (y ++ (z ++ u)), length-append y (z ++ u), length-append z u, c.put_pointed-first.auto.list, c.put_block-second.auto.list)),
      omega arith,
    )

pub put_block-requires : goal.put_block-requires
unfolding plan_addresses
put_block-requires c =
    let a = c.args in
    let x = pointed a.linear 6 a.due in
    let y = pointed a.linear (block_words true (head_word a.linear a.mem.now a.next)) a.next in
    let z = pointed a.linear 3 (redefinition_of a.linear a.mem.now a.next) in
    let u = pointed a.linear (block_words false (head_word a.linear a.mem.now a.rows)) a.rows in
    rw (c.put_pointed-third.ensures.value, c.redefinition_of-redefinition.ensures, c.put_block-second.ensures.value, c.put_pointed-first.ensures.value)
    (omega (arith, c.requires, length-append x (y ++ (z ++ u)), length-append y (z ++ u), length-append z u, c.put_pointed-first.auto.list, c.put_block-second.auto.list, c.put_pointed-third.auto.list))

pub returns : goal.returns
unfolding plan_addresses
returns c =
    let a = c.args in
    let x = pointed a.linear 6 a.due in
    let y = pointed a.linear (block_words true (head_word a.linear a.mem.now a.next)) a.next in
    let z = pointed a.linear 3 (redefinition_of a.linear a.mem.now a.next) in
    let u = pointed a.linear (block_words false (head_word a.linear a.mem.now a.rows)) a.rows in
    let two = rw c.put_pointed-first.ensures.value at c.put_block-second.ensures in
    let three = rw (two.value, c.redefinition_of-redefinition.ensures) at c.put_pointed-third.ensures in
    let four = rw three.value at c.put_block.ensures in
    let l = a.list.now in record {
      value = four.value ∙ omega (arith, length-append x (y ++ (z ++ u)), length-append y (z ++ u), length-append z u);
      list_after = four.list_after
          ∙ ap (λ (k : List ℕ). sets k (a.at + length x + length y + length z) u)
          (three.list_after ∙ ap (λ (k : List ℕ). sets k (a.at + length x + length y) z) (two.list_after ∙ ap (λ (k : List ℕ). sets k (a.at + length x) y) c.put_pointed-first.ensures.list_after))
          ∙ sym (sets-append l a.at x (y ++ (z ++ u)) ∙ sets-append (sets l a.at x) (a.at + length x) y (z ++ u)
          ∙ sets-append (sets (sets l a.at x) (a.at + length x) y) (a.at + length x + length y) z u);
    }
