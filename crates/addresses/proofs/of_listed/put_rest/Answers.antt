-- Each turn writes a word with two codes: what is left to write, from the next place on, makes the whole.
use mathlib.Core.Path.{◌≡◌, refl, ap, sym, ◌∙◌}
use Prim.Native.Nat.{ℕ, ◌+◌, ◌-◌}
use native.Mathlib.Omega.{arith}
use lib.ListN.{length, length-append}
use lib.Seq.{sets}
use Rattle.memory.specs.Word.{high}
use Rattle.memory.specs.Address.{onward}
use Rattle.codes.specs.declared.AttributeList.{AttributeList}
use Rattle.addresses.specs.Listed.{list_from, left_addresses}
use Rattle.addresses.specs.Addresses.{word_in, pair, pair_after, single, code_after, code_addresses, code_list}
use Rattle.addresses.proofs.PlaceLaws.{sets-append}
use Rattle.addresses.proofs.CodeAddressLaws.{pair-addresses, pair-list, pair_parts, single-addresses, single-list, none-addresses, none_list}
use Rattle.addresses.proofs.of_listed.put_rest.Goals as goal

pub loop-left-init : goal.loop-left-init
loop-left-init c = (refl, refl, refl, refl)

pub put_pair-after-requires : goal.put_pair-after-requires
put_pair-after-requires c =
    let a = c.args in
    let l = c.loop-left in
    let u = list_from l.next in
    let w = word_in a.mem.now l.here.address in
    rw (c.written_to-to.ensures, c.word_in-w.ensures)
    (omega (
      arith,
      c.requires,
      l.invariant.0,
      l.invariant.1,
      ap length (pair-addresses a.settings a.mem.now l.left l.here u c.loop-left-test.true),
      length-append (pair a.settings l.here.address u w) (code_addresses a.settings a.mem.now (l.left - 2) (onward a.settings.linear l.here) (pair_after a.settings u w)),
    ))

pub loop-left-preserved : goal.loop-left-preserved
loop-left-preserved c =
    let a = c.args in
    let l = c.loop-left in
    let σ = a.settings in
    let m = a.mem.now in
    let test = c.loop-left-test.true in
    let u = list_from l.next in
    let w = word_in m l.here.address in
    let here = onward σ.linear l.here in
    let front = pair σ l.here.address u w in
    let rest = code_addresses σ m (l.left - 2) here (pair_after σ u w) in
    let r = rw (c.written_to-to.ensures, c.word_in-w.ensures) at c.put_pair-after.ensures in
    let e = pair-addresses σ m l.left l.here u test in (
      c.put_pair-after.auto.list ∙ l.invariant.0,
      rw (r.value, c.onward-here.ensures)
          (pair_parts σ u w (λ (v : AttributeList). a.rest.at + length (left_addresses σ m a.rest) ≡ l.place + length front + length (code_addresses σ m (l.left - 2) here v))
          (omega (arith, l.invariant.1, ap length e, length-append front rest))),
      rw (r.value, c.onward-here.ensures)
          (pair_parts σ u w (λ (v : AttributeList). code_list σ m a.rest.left a.rest.here (list_from a.rest.next) ≡ code_list σ m (l.left - 2) here v)
          (l.invariant.2 ∙ pair-list σ m l.left l.here u test)),
      rw (r.list_after, r.value, c.onward-here.ensures)
          (pair_parts σ u w (λ (v : AttributeList). sets a.list.now a.rest.at (left_addresses σ m a.rest) ≡ sets (sets l.list l.place front) (l.place + length front) (code_addresses σ m (l.left - 2) here v))
          (l.invariant.3 ∙ ap (sets l.list l.place) e ∙ sets-append l.list l.place front rest)),
    )

pub put_single-requires : goal.put_single-requires
put_single-requires c =
    let a = c.args in
    let l = c.loop-left in
    let u = list_from l.next in
    rw (c.written_to-to-2.ensures, c.word_in-w-then-left-eq1.ensures)
    (omega (arith, c.requires, l.invariant.0, l.invariant.1, ap length (single-addresses a.settings a.mem.now l.left l.here u c.if-left-eq1.true)))

pub returns-then-left-eq1 : goal.returns-then-left-eq1
returns-then-left-eq1 c =
    let a = c.args in
    let l = c.loop-left in
    let σ = a.settings in
    let m = a.mem.now in
    let u = list_from l.next in
    let one = c.if-left-eq1.true in
    let r = rw (c.written_to-to-2.ensures, c.word_in-w-then-left-eq1.ensures) at c.put_single.ensures in
    let e = single-addresses σ m l.left l.here u one in
    let place : l.place + length (single σ l.here.address u (word_in m l.here.address)) ≡ a.rest.at + length (left_addresses σ m a.rest) = omega (arith, l.invariant.1, ap length e) in record {
      value = r.value
          ∙ ap (λ (k : ℕ). record { at = k; list = code_after σ u (high (word_in m l.here.address)) }) place
          ∙ ap (λ (v : AttributeList). record { at = a.rest.at + length (left_addresses σ m a.rest); list = v }) (sym (l.invariant.2 ∙ single-list σ m l.left l.here u one));
      list_after = r.list_after ∙ sym (l.invariant.3 ∙ ap (sets l.list l.place) e);
    }

pub returns-else-left-eq1 : goal.returns-else-left-eq1
returns-else-left-eq1 c =
    let a = c.args in
    let l = c.loop-left in
    let σ = a.settings in
    let m = a.mem.now in
    let u = list_from l.next in
    let none : l.left ≡ 0 = omega arith in
    let e = none-addresses σ m l.left l.here u none in
    let place : l.place ≡ a.rest.at + length (left_addresses σ m a.rest) = omega (arith, l.invariant.1, ap length e) in record {
      value = c.written_to-to-2.ensures
          ∙ ap (λ (k : ℕ). record { at = k; list = u }) place
          ∙ ap (λ (v : AttributeList). record { at = a.rest.at + length (left_addresses σ m a.rest); list = v }) (sym (l.invariant.2 ∙ none_list σ m l.left l.here u none));
      list_after = sym (l.invariant.3 ∙ ap (sets l.list l.place) e);
    }
