-- Joining is associative, and so the same in any grouping; the empty effect is neutral on both sides, and a joined effect applies one after the other.
use Rattle.std.proofs.Common.{Result, Ok, Err}
use Rattle.memory.specs.declared.Refusal.{Refusal}
use mathlib.Core.Path.{◌≡◌, refl, ap, sym, ◌∙◌}
use mathlib.Core.Bool.{Bool, true, false}
use mathlib.Core.List.{List, [], ◌∷◌, ◌++◌}
use Prim.Native.Nat.{ℕ}
use Rattle.codes.specs.Attribute.{ignores}
use Rattle.joining.specs.declared.Part.{Part}
use Rattle.joining.specs.declared.Part.TheVariants.{Keep, Set, Refuse}
use Rattle.joining.specs.declared.Effect.{Effect}
use Rattle.joining.specs.Grouping.{Grouping, nothing, one, both, joined, effects, AnyGrouping}
use Rattle.joining.specs.Join.{empty, part_for, set_then, join_part, join, apply_part, apply}

effect-path : {d e : Effect} → d.clear ≡ e.clear → d.set ≡ e.set → d ≡ e
effect-path p q = λ i. record { clear = p i; set = q i }

part_join : (b : Bool) (d e : Effect) → part_for b (join d e) ≡ join_part (part_for b d) b e
part_join false d e = refl
part_join true d e = refl

part-empty : (b : Bool) → part_for b empty ≡ Keep
part-empty false = refl
part-empty true = refl

-- a set before a join of parts: the later set or refusal stands
set-set : (w v : ℕ) (p : Part) → set_then w (set_then v p) ≡ set_then v p
set-set w v Keep = refl
set-set w v (Set u) = refl
set-set w v (Refuse r) = refl

set-join : (w : ℕ) (p : Part) (b : Bool) (e : Effect) → join_part (set_then w p) b e ≡ set_then w (join_part p (ignores w) e)
set-join w Keep b e = refl
set-join w (Set v) b e = sym (set-set w v (part_for (ignores v) e))
set-join w (Refuse r) b e = refl

join-part : (p : Part) (b : Bool) (d e : Effect) → join_part (join_part p b d) b e ≡ join_part p b (join d e)
join-part (Refuse r) b d e = refl
join-part Keep b d e = sym (part_join b d e)
join-part (Set w) b d e = set-join w (part_for (ignores w) d) b e ∙ ap (set_then w) (sym (part_join (ignores w) d e))

join-part-empty : (p : Part) (b : Bool) → join_part p b empty ≡ p
join-part-empty (Refuse r) b = refl
join-part-empty Keep b = part-empty b
join-part-empty (Set w) b = ap (set_then w) (part-empty (ignores w))

pub join-assoc : (a b c : Effect) → join (join a b) c ≡ join a (join b c)
join-assoc a b c = effect-path (join-part a.clear false b c) (join-part a.set true b c)

pub empty-join : (e : Effect) → join empty e ≡ e
empty-join e = refl

pub join-empty : (e : Effect) → join e empty ≡ e
join-empty e = effect-path (join-part-empty e.clear false) (join-part-empty e.set true)

-- ---- any grouping ----
-- a list of effects, joined first to last
abbrev join_all : List Effect → Effect
join_all [] = empty
join_all (e ∷ es) = join e (join_all es)

join-lists : (ds es : List Effect) → join_all (ds ++ es) ≡ join (join_all ds) (join_all es)
join-lists [] es = refl
join-lists (d ∷ ds) es = ap (join d) (join-lists ds es) ∙ sym (join-assoc d (join_all ds) (join_all es))

grouped : (g : Grouping) → joined g ≡ join_all (effects g)
grouped nothing = refl
grouped (one e) = sym (join-empty e)
grouped (both g h) =
    ap (λ (d : Effect). join d (joined h)) (grouped g) ∙ ap (join (join_all (effects g))) (grouped h) ∙ sym (join-lists (effects g) (effects h))

pub any-grouping : AnyGrouping
any-grouping g h e = grouped g ∙ ap join_all e ∙ sym (grouped h)

-- an effect after what came before
abbrev pub then_apply : Result ℕ Refusal → Effect → Result ℕ Refusal
then_apply (Ok l) e = apply e l
then_apply (Err r) e = Err r

apply-set : (w l : ℕ) (p : Part) → apply_part (set_then w p) l ≡ apply_part p w
apply-set w l Keep = refl
apply-set w l (Set v) = refl
apply-set w l (Refuse r) = refl

apply-part : (p : Part) (l : ℕ) (e : Effect) → apply_part (join_part p (ignores l) e) l ≡ then_apply (apply_part p l) e
apply-part (Refuse r) l e = refl
apply-part Keep l e = refl
apply-part (Set w) l e = apply-set w l (part_for (ignores w) e)

pub apply-join : (d e : Effect) (l : ℕ) → apply (join d e) l ≡ then_apply (apply d l) e
apply-join d e l = rw (part_join (ignores l) d e) (apply-part (part_for (ignores l) d) l e)

pub apply-empty : (l : ℕ) → apply empty l ≡ Ok l
apply-empty l = rw (part-empty (ignores l))
