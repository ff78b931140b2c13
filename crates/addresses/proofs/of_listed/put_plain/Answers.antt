-- Words none of whose codes invokes take no word of the list, so their addresses stand one after the other before what is then left.
use mathlib.Core.Path.{◌≡◌, ap, ap₂, sym, ◌∙◌}
use mathlib.Core.Bool.{true}
use mathlib.Core.List.{List}
use Prim.Native.Nat.{ℕ, ◌*◌, ◌/◌, ◌≤◌}
use native.Mathlib.Omega.{arith}
use lib.ListN.{length}
use lib.Seq.{sets}
use lib.Dec.{leb}
use Rattle.memory.specs.Answers.{is_run}
use Rattle.memory.proofs.ReadBounds.{both}
use Rattle.memory.proofs.RunLaws.{run_ends}
use Rattle.addresses.specs.declared.of_listed.Rest.{Rest}
use Rattle.addresses.specs.Listed.{left_addresses, left_written}
use Rattle.addresses.proofs.ListedLaws.{past-length, past-written, past-sets}
use Rattle.addresses.proofs.of_listed.put_plain.Goals as goal

pub plain_words-k-requires : goal.plain_words-k-requires
plain_words-k-requires c =
    let a = c.args.rest.here.address in
    let run : is_run c.args.settings.linear (length c.args.mem.now) a (c.args.rest.left / 2) ≡ true = sym c.is_run.ensures ∙ (both (leb 8 (c.args.rest.left / 2)) _ c.if-words-is_run.true).1 in
    let few = c.requires.1 in
    (run_ends _ a _ _ run, omega arith)

pub put_run-requires : goal.put_run-requires
put_run-requires c =
    let a = c.args.rest.here.address in
    let run : is_run c.args.settings.linear (length c.args.mem.now) a (c.args.rest.left / 2) ≡ true = sym c.is_run.ensures ∙ (both (leb 8 (c.args.rest.left / 2)) _ c.if-words-is_run.true).1 in
    let k = c.plain_words-k.ensures in
    let fits = c.requires in
    let sum = past-length c.args.settings c.args.mem.now c.args.rest (c.args.rest.left / 2) _ run c.plain_words-k.ensures.0 (omega arith) c.plain_words-k.ensures.1 in
    (omega arith, omega arith)

pub returns-then-words-is_run : goal.returns-then-words-is_run
returns-then-words-is_run c =
    let σ = c.args.settings in
    let m = c.args.mem.now in
    let rest = c.args.rest in
    let run : is_run σ.linear (length m) rest.here.address (rest.left / 2) ≡ true = sym c.is_run.ensures ∙ (both (leb 8 (rest.left / 2)) _ c.if-words-is_run.true).1 in
    let k = c.plain_words-k.ensures in
    let fits : 2 * (rest.left / 2) ≤ rest.left = omega arith in record {
      result_value = ap (left_written σ m) c.past.ensures ∙ past-written σ m rest (rest.left / 2) _ run k.0 fits k.1;
      result_after = ap₂ (λ (l : List ℕ) (r : Rest). sets l r.at (left_addresses σ m r)) c.put_run.ensures c.past.ensures
          ∙ past-sets σ m rest (rest.left / 2) _ run k.0 fits k.1 c.args.list.now;
    }
