-- The match is the choice by kind, and each test is its kind's.
use Rattle.std.proofs.Common.{arith, ◌≡◌, ℕ, ◌/◌, ◌%◌, ◌&&◌, eqb, ltb, sym}
use Rattle.script.specs.Records.{address, accepted}
use Rattle.script.proofs.KindLaws.{kind_1, kind_2, kind_3}
use Rattle.script.proofs.is_accepted.Goals as goal

word-accepted : (kind body : ℕ) → kind ≡ 2 → eqb (address body % 2) 0 && ltb (address body / 2) 16384 ≡ accepted kind body
unfolding accepted
word-accepted kind body e = sym (kind_2 kind _ _ _ e)

pub returns-in-1 : goal.returns-in-1
unfolding accepted
returns-in-1 c = sym (kind_1 _ _ _ _ c.in-1.is)

pub returns-in-2 : goal.returns-in-2
returns-in-2 c = word-accepted _ _ c.in-2.is

pub returns-in_default : goal.returns-in_default
unfolding accepted
returns-in_default c = sym (kind_3 c.args.kind _ _ _ (omega arith) (omega arith))
