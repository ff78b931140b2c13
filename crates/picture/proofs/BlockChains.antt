-- The heights of rows depend on the chain of row blocks and on the scan lines handed down: two chains from one address have the same as far
-- as both go. Where a pointer begins is in no height.
use mathlib.Core.Path.{◌≡◌, refl, ap}
use mathlib.Core.Bool.{Bool, true, false}
use mathlib.Core.List.{List, [], ◌∷◌, ◌++◌}
use mathlib.Core.Option.{some}
use Prim.Native.Nat.{ℕ}
use lib.ListN.{get_elem?}
use lib.Dec.{eqb}
use Rattle.memory.specs.declared.Pointer.{Pointer}
use Rattle.memory.specs.Word.{when◌then◌else◌}
use Rattle.memory.specs.Reading.{Reading, done, ◌>>=◌, Outcome, given, run}
use Rattle.memory.specs.Address.{null, words}
use Rattle.memory.proofs.Agree.{All, none as none_asked, also, SameWord}
use Rattle.blocks.specs.declared.RowFormat.{RowFormat}
use Rattle.blocks.specs.RowBlock.{RowBlock, row_block_at, redefined, format_of}
use Rattle.background.specs.Background.{BackgroundRow, background_block}
use Rattle.insertion.proofs.Near.{Near, dones, bind, bind-same, weaken, open-near, Outcomes, givens, refuseds, run-near, at}
use Rattle.insertion.proofs.Accepted.{never}
use Rattle.insertion.proofs.Blocks.{BlockAlike, blocks, block-opens, block_null}
use Rattle.picture.proofs.Places.{Along, left, right, both}

-- ---- one block ----
all_same : (m xs : List ℕ) → All (SameWord m m) xs
all_same m [] = none_asked
all_same m (x ∷ xs) = also refl (all_same m xs)

one_block : {p : Pointer} {b d : RowBlock} → BlockAlike p p b d → b ≡ d
one_block (blocks re gs) = refl

block_near : (linear : Bool) (a x y : ℕ) → Near (λ (b d : RowBlock). b ≡ d) (row_block_at linear (at a x)) (row_block_at linear (at a y))
block_near linear a x y = by (eqb a 0) refl
  where
    by : (t : Bool) → eqb a 0 ≡ t → Near (λ (b d : RowBlock). b ≡ d) (row_block_at linear (at a x)) (row_block_at linear (at a y))
    by true e = weaken (λ b d. one_block) (block_null linear a x y e)
    by false e = open-near (λ w v b d. one_block) (block-opens linear a x y e)

-- two blocks of one address, to formats that are handed down
pub record Ground (t u : RowFormat) (g h : BackgroundRow) : Type 0 where
  pub block : g.block ≡ h.block
  pub lines : t.lines ≡ u.lines → g.format.lines ≡ h.format.lines

module _ (linear : Bool) (t u : RowFormat) where
  abbrev formatted : RowFormat → RowBlock → Reading BackgroundRow
  formatted t b = redefined linear b.redefinition t >>= λ v. done (record { block = b; format = v })

  format-near : (b : RowBlock) → Near (Ground t u) (formatted t b) (formatted u b)
  unfolding redefined ◌>>=◌
  format-near b = by (null b.redefinition)
    where
      by : (n : Bool) → Near (Ground t u) ((when n then done t else (words linear 3 b.redefinition >>= λ ws. done (format_of ws))) >>= λ v. done (record { block = b; format = v }))
          ((when n then done u else (words linear 3 b.redefinition >>= λ ws. done (format_of ws))) >>= λ v. done (record { block = b; format = v }))
      by true = dones (record { block = refl; lines = λ e. e })
      by false = bind-same (words linear 3 b.redefinition >>= λ ws. done (format_of ws)) λ v. dones (record { block = refl; lines = λ _. refl })

  ground-near : (a x y : ℕ) → Near (Ground t u) (background_block linear (at a x) t) (background_block linear (at a y) u)
  unfolding background_block
  ground-near a x y = bind (block_near linear a x y) λ b d e. rw (← e) (format-near b)

  pub same-ground : (m : List ℕ) (p q : Pointer) {k l : ℕ} {g h : BackgroundRow} → p.address ≡ q.address
      → run m (background_block linear p t) ≡ given k g → run m (background_block linear q u) ≡ given l h → Ground t u g h
  same-ground m p q {g} {h} e first second =
      out (run-near m m refl 0 (rw e (ground-near q.address p.from q.from)) (all_same m _)) first second
    where
      out : {o : Outcome BackgroundRow} {r : Outcome BackgroundRow} {k l : ℕ} → Outcomes (Ground t u) o r → o ≡ given k g → r ≡ given l h → Ground t u g h
      out (givens {a} {b} i) c d =
          let one : a ≡ g = cc in
          let two : b ≡ h = cc in
          rw (← one, ← two) i
      out refuseds c d = never c

-- ---- a chain ----
-- the heights of row blocks one after the other, from a pointer and the format handed down, to where they lead
pub data BlockChain (linear : Bool) (m : List ℕ) : Pointer → RowFormat → List ℕ → Pointer → RowFormat → Type 0 where
  here : {p : Pointer} {t : RowFormat} → BlockChain linear m p t [] p t
  link : {p q : Pointer} {t u : RowFormat} {g : BackgroundRow} {k : ℕ} {hs : List ℕ} → run m (background_block linear p t) ≡ given k g
      → BlockChain linear m g.block.link g.format hs q u → BlockChain linear m p t (g.format.lines ∷ hs) q u

module _ {linear : Bool} {m : List ℕ} where
  pub join : {p q r : Pointer} {t u v : RowFormat} {hs ks : List ℕ} → BlockChain linear m p t hs q u → BlockChain linear m q u ks r v
      → BlockChain linear m p t (hs ++ ks) r v
  join here b = b
  join (link e a) b = link e (join a b)

more : {h k : ℕ} {hs ks : List ℕ} → h ≡ k → Along hs ks → Along (h ∷ hs) (k ∷ ks)
more e a = rw e (both a)

module _ {linear : Bool} {m : List ℕ} where
  pub along : {p q r s : Pointer} {t u v w : RowFormat} {hs ks : List ℕ} → p.address ≡ q.address → t.lines ≡ u.lines
      → BlockChain linear m p t hs r v → BlockChain linear m q u ks s w → Along hs ks
  along e n here b = left
  along e n (link c a) here = right
  along {p} {q} {t} {u} e n (link c a) (link d b) =
      let g = same-ground linear t u m p q e c d in
      more (g.lines n) (along (ap (λ (b : RowBlock). b.link.address) g.block) (g.lines n) a b)

  -- where the first rows are equally high, whatever was handed down
  pub along-first : {p q r s : Pointer} {t u v w : RowFormat} {hs ks : List ℕ} → p.address ≡ q.address
      → ((h k : ℕ) → get_elem? hs 0 ≡ some h → get_elem? ks 0 ≡ some k → h ≡ k)
      → BlockChain linear m p t hs r v → BlockChain linear m q u ks s w → Along hs ks
  along-first e n here b = left
  along-first e n (link c a) here = right
  along-first {p} {q} {t} {u} e n (link c a) (link d b) =
      let g = same-ground linear t u m p q e c d in
      let lines = n _ _ refl refl in
      more lines (along (ap (λ (b : RowBlock). b.link.address) g.block) lines a b)
