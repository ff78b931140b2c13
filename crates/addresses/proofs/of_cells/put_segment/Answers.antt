-- The words of the codes, then the word that the fill run takes.
use mathlib.Core.Path.{sym, ◌∙◌}
use native.Mathlib.Omega.{arith}
use lib.ListN.{length-append}
use Rattle.codes.specs.Codes.{list_at}
use Rattle.cells.specs.Cells.{code_count}
use Rattle.addresses.specs.Addresses.{taken, code_addresses, after_codes, segment_fills, segment_addresses, segment_list}
use Rattle.addresses.proofs.PlaceLaws.{written-append, sets-append}
use Rattle.addresses.proofs.of_cells.put_segment.Goals as goal

pub put_codes-to-requires : goal.put_codes-to-requires
unfolding segment_addresses
put_codes-to-requires c =
    let a = c.args in
    let n = c.code_count.ensures in
    let l = after_codes a.settings a.mem.now a.fill a.cells.now a.g in
    rw (c.list_at.ensures, c.code_count.ensures.0) (
      omega (arith, c.requires.g_in_bounds_2, length-append (code_addresses a.settings a.mem.now (code_count a.g) a.g.codes (list_at a.g.attributes)) (taken (segment_fills a.settings a.mem.now a.fill a.cells.now a.column a.g) l)),
      rw c.code_count.ensures.0 at c.code_count.ensures.1,
    )

pub put_taken-requires : goal.put_taken-requires
unfolding segment_addresses
put_taken-requires c =
    let a = c.args in
    let codes = code_addresses a.settings a.mem.now (code_count a.g) a.g.codes (list_at a.g.attributes) in
    let l = after_codes a.settings a.mem.now a.fill a.cells.now a.g in
    let r = rw (c.list_at.ensures, c.code_count.ensures.0) at c.put_codes-to.ensures.value in
    rw (c.does_fill-due.ensures, c.ends_in_fill.ensures, c.width.ensures, r)
    (omega (arith, c.requires.g_in_bounds_2, c.put_codes-to.auto.list, length-append codes (taken (segment_fills a.settings a.mem.now a.fill a.cells.now a.column a.g) l)))

pub returns : goal.returns
unfolding segment_addresses segment_list
returns c =
    let a = c.args in
    let codes = code_addresses a.settings a.mem.now (code_count a.g) a.g.codes (list_at a.g.attributes) in
    let l = after_codes a.settings a.mem.now a.fill a.cells.now a.g in
    let due = segment_fills a.settings a.mem.now a.fill a.cells.now a.column a.g in
    let first = rw (c.list_at.ensures, c.code_count.ensures.0) at c.put_codes-to.ensures in
    let r = rw (c.does_fill-due.ensures, c.ends_in_fill.ensures, c.width.ensures, first.value) at c.put_taken.ensures in record { value = r.value ∙ written-append a.at codes (taken due l) _; list_after = r.list_after ∙ rw first.list_after (sym (sets-append a.list.now a.at codes (taken due l))) }
