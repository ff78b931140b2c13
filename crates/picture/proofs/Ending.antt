-- The rows of both frames are read along one chain of row blocks, and at the whole row's shift they stand on the same lines.
use Rattle.std.proofs.Common.{Option, Some, None, Ok}
use mathlib.Core.Path.{◌≡◌, refl, sym, ap, subst, ◌∙◌}
use mathlib.Core.Bool.{Bool, true, false}
use mathlib.Core.List.{List, [], ◌∷◌, ◌++◌, append-nil}
use mathlib.Core.Option.{Option as Maybe, none, some}
use Prim.Native.Nat.{ℕ, ◌+◌, ◌-◌, ◌≤◌, ◌<◌}
use native.Mathlib.Omega.{arith}
use lib.IntN.{pos, negsuc, nat_abs}
use lib.ListN.{get_elem?}
use lib.Dec.{ltb}
use borrow.Author.Tests.{ltb-true, ltb-false, le-leb}
use Rattle.memory.specs.declared.Pointer.{Pointer}
use Rattle.memory.specs.Reading.{given, run}
use Rattle.memory.proofs.ReadBounds.{Words, if-cases}
use Rattle.settings.specs.declared.PointerWords.{PointerWords}
use Rattle.settings.specs.declared.Settings.{Settings}
use Rattle.settings.specs.Timing.{lines_for_rows}
use Rattle.blocks.specs.declared.MainBlock.{MainBlock}
use Rattle.blocks.specs.declared.RowFormat.{RowFormat}
use Rattle.background.specs.Background.{BackgroundRow, background_block}
use Rattle.state.specs.declared.Fields.{Fields}
use Rattle.state.specs.declared.State.{State}
use Rattle.plan.specs.Plan.{next_fields}
use Rattle.start.specs.Top.{top_block}
use Rattle.start.specs.Start.{first_format, first_fields}
use Rattle.frame.specs.declared.Progress.{Progress}
use Rattle.frame.specs.Step.{begin}
use Rattle.frame.specs.Frame.{FrameRow, rest, frame}
use Rattle.frame.proofs.Frames.{Ends, complete, refusing, rest-ends}
use Rattle.beside.specs.Beside.{with_top}
use Rattle.panel.specs.declared.Background.TheVariants.{Above}
use Rattle.panel.specs.Line.{place_at, later, place, row_at, above_at, is_down}
use Rattle.panel.specs.declared.Place.{Place}
use Rattle.picture.specs.Picture.{PictureRow, Picture, picture_row, picture_rows, rows_from, frame_rows, onward, below_of, below_rows, above_row, picture, height_above, heights_of, line_on, first}
use Rattle.picture.specs.EveryLine.{refusal_below}
use Rattle.picture.specs.Ending.{Linked, linked, SameNext, one_further, EndsUp, EndsDown}
use Rattle.picture.proofs.Above.{above-down}
use Rattle.picture.proofs.Grounds.{row-grounded, Started, Opening, opened, closed, opening}
use Rattle.picture.proofs.Following.{Successive, stops, draws, rest-following}
use Rattle.picture.proofs.Heights.{refuses-none, rows_fill}
use Rattle.picture.proofs.Places.{sum, sum-append, Along, along-place, place-front, place-next, fills-sum, line-up, line-above, line-down}
use Rattle.picture.proofs.EveryLine.{frame_below}
use Rattle.picture.proofs.FirstRow.{frame-first, above-first, same_first, place-first}
use Rattle.picture.proofs.BlockChains.{BlockChain, here, link, join, along-first}

-- ---- the chains of a picture's rows ----
more-chain : {linear : Bool} {m : List ℕ} {p p' q : Pointer} {t t' u : RowFormat} {g : BackgroundRow} {h k : ℕ} {hs : List ℕ}
    → run m (background_block linear p t) ≡ given k g → h ≡ g.format.lines → p' ≡ g.block.link → t' ≡ g.format
    → BlockChain linear m p' t' hs q u → BlockChain linear m p t (h ∷ hs) q u
more-chain e a b c d = rw a (link e (rw (b, c) at d))

-- the rows of the list at a top, as far as `hs`
pub data ListChain (linear : Bool) (top : PointerWords) (m hs : List ℕ) : Type 0 where
  chain : {main : MainBlock} {i : ℕ} {q : Pointer} {u : RowFormat} → run m (top_block linear top) ≡ given i main
      → BlockChain linear m main.rows (first_format main.lines) hs q u → ListChain linear top m hs

module _ (σ : Settings) (m : List ℕ) where
  follows-chain : {s t : State} {rs : List FrameRow} {o : Maybe State} → Successive σ m s rs o → o ≡ some t
      → BlockChain σ.linear m s.fields.next s.fields.format (heights_of (picture_rows σ m s rs)) t.fields.next t.fields.format
  unfolding picture_rows picture_row next_fields
  follows-chain {t} (stops {s}) e = let same : s ≡ t = cc in rw (← same) here
  follows-chain (draws {s} {r} l e k) h =
      let g = row-grounded σ m s e in
      more-chain g.read (ap (λ (f : Fields). f.format.lines) g.leads) (ap (λ (f : Fields). f.next) g.leads)
      (ap (λ (f : Fields). f.format) g.leads) (follows-chain k h)

  -- where an accepted frame ends
  data Framed (latch : ℕ) : Type 0 where
    framed : {main : MainBlock} {i : ℕ} {t : State} → run m (top_block σ.linear σ.top) ≡ given i main → (frame latch σ m).state ≡ some t
        → BlockChain σ.linear m main.rows (first_format main.lines) (heights_of (frame_rows latch σ m)) t.fields.next t.fields.format
        → Framed latch

  module _ (w : Words m) where
    frame-framed : (latch : ℕ) → (frame latch σ m).refusal ≡ none → Framed latch
    unfolding frame frame_rows first_fields
    frame-framed latch ok = by (opening latch σ m)
      where
        by_end : (n : ℕ) (s : State) → begin latch σ m ≡ Ok (record { state = s; words = n }) → Started latch σ m s
            → (rest σ m (record { state = s; words = n })).refusal ≡ none → Ends (rest σ m (record { state = s; words = n })) → Framed latch
        by_end n s e st ok (refusing a) = refuses-none (sym a ∙ ok)
        by_end n s e st ok (complete {s = t} a b c) =
            let p : Progress = record { state = s; words = n } in
            let rows = follows-chain (rest-following σ m p) b in
            framed {t = t} st.read (rw e b)
            (rw e (subst (λ (f : Fields). BlockChain σ.linear m f.next f.format (heights_of (rows_from σ m p)) t.fields.next t.fields.format) st.leads rows))

        by : Opening latch σ m → Framed latch
        by (opened {n} {s} e st) = by_end n s e st (rw e at ok) (rest-ends σ m w (record { state = s; words = n }))
        by (closed e) = refuses-none (rw e at ok)

    frame-chain : (latch : ℕ) → (frame latch σ m).refusal ≡ none → ListChain σ.linear σ.top m (heights_of (frame_rows latch σ m))
    frame-chain latch ok = by (frame-framed latch ok)
      where
        by : Framed latch → ListChain σ.linear σ.top m (heights_of (frame_rows latch σ m))
        by (framed read e c) = chain read c

    -- and on with the rows below
    below_chain : (latch n : ℕ) → (frame latch σ m).refusal ≡ none → refusal_below σ m n (frame latch σ m).state ≡ none
        → ListChain σ.linear σ.top m (heights_of (frame_rows latch σ m) ++ heights_of (below_rows σ m n (frame latch σ m)))
    unfolding below_rows
    below_chain latch n ok below = by (frame-framed latch ok)
      where
        by_end : (t : State) → (rest σ m (onward n t)).refusal ≡ none → Ends (rest σ m (onward n t)) → {main : MainBlock} {i : ℕ}
            → run m (top_block σ.linear σ.top) ≡ given i main
            → BlockChain σ.linear m main.rows (first_format main.lines) (heights_of (frame_rows latch σ m)) t.fields.next t.fields.format
            → ListChain σ.linear σ.top m (heights_of (frame_rows latch σ m) ++ heights_of (rows_from σ m (onward n t)))
        by_end t ok (refusing a) read c = refuses-none (sym a ∙ ok)
        by_end t ok (complete a b d) read c = chain read (join c (follows-chain (rest-following σ m (onward n t)) b))

        by : Framed latch
            → ListChain σ.linear σ.top m (heights_of (frame_rows latch σ m) ++ heights_of (below_of σ m n (frame latch σ m).refusal (frame latch σ m).state))
        by (framed {t} read e c) = rw (ok, e) (by_end t (rw e at below) (rest-ends σ m w (onward n t)) read c)

-- ---- one list after the other's row 0 ----
linked-along : {linear : Bool} {m : List ℕ} {from to : PointerWords} {n : ℕ} {hs ks : List ℕ} → Linked linear m from to
    → ListChain linear from m (n ∷ hs) → ListChain linear to m ks → SameNext (n ∷ hs) ks → Along hs ks
linked-along {linear} {m} (linked {a} {b} {g} {k} reads-a reads-b reads-g same) (chain {main} read (link {g = ground} {k = words} block rows)) (chain {main = main'} read' rows') next =
    let one : main ≡ a = cc in
    let two : main' ≡ b = cc in
    let own : run m (background_block linear a.rows (first_format a.lines)) ≡ given words ground = rw one at block in
    let three : ground ≡ g = cc in
    along-first (ap (λ (row : BackgroundRow). row.block.link.address) three ∙ rw two (sym same)) next rows rows'

-- past row 0 of one list a line has the place that it has in the other
next_place : (hs ks : List ℕ) (n y : ℕ) → get_elem? hs 0 ≡ some n → ((rest : List ℕ) → hs ≡ n ∷ rest → Along rest ks) → y + n < sum hs → y < sum ks
    → place hs (y + n) ≡ later (place ks y)
next_place [] ks n y e a h k = refuses-none (sym e)
next_place (x ∷ hs) ks n y e a h k =
    let same : x ≡ n = cc in
    let next = a hs (ap (λ (i : ℕ). i ∷ hs) same) in
    rw (← same) (place-next x hs y ∙ ap later (along-place next y (omega arith) k))

further : (q : Option Place) → row_at (later q) ≡ one_further (row_at q)
further None = refl
further (Some p) = refl

first-height : (rs : List PictureRow) (hs : List ℕ) → 1 ≤ sum (heights_of rs) → get_elem? (heights_of rs ++ hs) 0 ≡ some (height_above rs)
first-height [] hs h = absurd (omega arith)
first-height (r ∷ rs) hs h = refl

-- a line of the frame that ends the scroll
unshifted : (e : Picture) (y : ℕ) → y < sum (heights_of e.rows) → e.shift ≡ pos 0 → (line_on e y).background ≡ row_at (place (heights_of e.rows) y)
unshifted e y on unmoved =
    let at : y + nat_abs e.shift ≡ y = omega (arith, ap nat_abs unmoved) in
    line-up e y on (ap is_down unmoved) ∙ rw at (ap row_at (place-front (heights_of e.rows) (heights_of e.below) y on))

head-place : (hs : List ℕ) (n y : ℕ) → get_elem? hs 0 ≡ some n → y < n → place hs y ≡ Some (place_at 0 y (n - y))
head-place [] n y e h = refuses-none (sym e)
head-place (x ∷ hs) n y e h = let same : x ≡ n = cc in rw (← same) (place-first x hs y (rw same h))

whole_above : (d y : ℕ) → above_at d d y ≡ Above (place_at 0 y (d - y))
unfolding above_at
whole_above d y =
    let line : d + y - d ≡ y = omega arith in
    rw (le-leb d (d + y) (omega arith), line)

-- two pictures, by the heights of their rows alone: the rows of one are those of the other after its row 0
module _ (p e : Picture) (unmoved : e.shift ≡ pos 0) (y : ℕ) (on : y < sum (heights_of p.rows)) (on' : y < sum (heights_of e.rows)) where
  pub glides-up : is_down p.shift ≡ false → nat_abs p.shift ≡ height_above p.rows
      → y + nat_abs p.shift < sum (heights_of p.rows ++ heights_of p.below)
      → ((rest : List ℕ) → heights_of p.rows ++ heights_of p.below ≡ nat_abs p.shift ∷ rest → Along rest (heights_of e.rows))
      → (line_on p y).background ≡ one_further (line_on e y).background
  glides-up up n-is few next =
      let first-is = first-height p.rows (heights_of p.below) (omega arith) ∙ ap some (sym n-is) in
      line-up p y on up ∙ ap row_at (next_place _ (heights_of e.rows) (nat_abs p.shift) y first-is next few on')
      ∙ further (place (heights_of e.rows) y) ∙ ap one_further (sym (unshifted e y on' unmoved))

  pub glides-down : is_down p.shift ≡ true → nat_abs p.shift ≡ height_above p.above → get_elem? (heights_of e.rows) 0 ≡ some (nat_abs p.shift)
      → ((rest : List ℕ) → heights_of e.rows ≡ nat_abs p.shift ∷ rest → Along rest (heights_of p.rows))
      → (line_on e y).background ≡ one_further (line_on p y).background
  glides-down down n-is first-is next = unshifted e y on' unmoved ∙ by (ltb y d) refl
    where
      d : ℕ
      d = nat_abs p.shift

      by : (t : Bool) → ltb y d ≡ t → row_at (place (heights_of e.rows) y) ≡ one_further (line_on p y).background
      by true t =
          let few = ltb-true y d t in
          let above : (line_on p y).background ≡ Above (place_at 0 y (d - y)) = line-above p y on down few ∙ rw (← n-is) (whole_above d y) in
          ap row_at (head-place (heights_of e.rows) d y first-is few) ∙ ap one_further (sym above)
      by false t =
          let past = ltb-false y d t in
          let line : y - d + d ≡ y = omega arith in
          let place_is = next_place (heights_of e.rows) (heights_of p.rows) d (y - d) first-is next (rw line on') (omega arith) in
          ap row_at (rw line at place_is) ∙ further (place (heights_of p.rows) (y - d)) ∙ ap one_further (sym (line-down p y on down past))

pub ends-up : EndsUp
unfolding picture with_top lines_for_rows
ends-up (negsuc n) soft latch latch' σ m w lk same ok below ended up n-is y h = let z : ◌≡◌ {A = ℕ} 0 1 = cc in absurd (omega arith)
ends-up (pos n) soft latch latch' σ m w lk same ok below ended up n-is y h =
    let τ = with_top σ soft in
    let p = picture (pos n) soft latch σ m in
    let rows = fills-sum (rows_fill latch σ m w ok) in
    let rows' = fills-sum (rows_fill latch' τ m w ended) in
    let more : n ≤ sum (heights_of p.below) =
    if-cases (λ (rs : List PictureRow). n ≤ sum (heights_of rs)) (ltb 0 n) (λ _. frame_below σ m w n latch ok below) (λ t. ltb-false 0 n t) in
    let all : ListChain σ.linear σ.top m (heights_of p.rows ++ heights_of p.below) =
    if-cases (λ (rs : List PictureRow). ListChain σ.linear σ.top m (heights_of (frame_rows latch σ m) ++ heights_of rs)) (ltb 0 n)
    (λ _. below_chain σ m w latch n ok below) (λ _. rw append-nil (frame-chain σ m w latch ok)) in
    glides-up p (picture (pos 0) soft latch' τ m) refl y (omega arith) (omega arith) up n-is
    (rw (sum-append (heights_of p.rows) (heights_of p.below)) (omega arith))
    (λ rest e. linked-along lk (rw e at all) (frame-chain τ m w latch' ended) (rw e at same))

-- the row above is row 0 of the frame that ends the scroll
ends-first : (latch latch' : ℕ) (τ : Settings) (m : List ℕ) → Words m → (above rows : List PictureRow) → above_row latch τ m ≡ above → frame_rows latch' τ m ≡ rows
    → 1 ≤ height_above above → 1 ≤ sum (heights_of rows) → get_elem? (heights_of rows) 0 ≡ some (height_above above)
ends-first latch latch' τ m w [] rows a b h k = absurd (omega arith)
ends-first latch latch' τ m w (x ∷ xs) [] a b h k = absurd (omega arith)
ends-first latch latch' τ m w (x ∷ xs) (r ∷ rs) a b h k =
    ap some (same_first (frame-first τ m w latch' (ap first b)) (above-first τ m w latch (ap first a)))

pub ends-down : EndsDown
unfolding picture with_top lines_for_rows
ends-down (pos n) soft latch latch' σ m w lk same ok ended down n-is y h = absurd (omega (arith, ltb-true n 0 down))
ends-down (negsuc n) soft latch latch' σ m w lk same ok ended down n-is y h =
    let τ = with_top σ soft in
    let rows = fills-sum (rows_fill latch σ m w ok) in
    let rows' = fills-sum (rows_fill latch' τ m w ended) in
    let above-is : height_above (above_row latch τ m) ≡ nat_abs (negsuc n) =
    ap height_above (sym (above-down n soft latch σ m)) ∙ sym n-is in
    let first-is = ends-first latch latch' τ m w (above_row latch τ m) (frame_rows latch' τ m) refl refl (omega arith) (omega arith) in
    glides-down (picture (negsuc n) soft latch σ m) (picture (pos 0) soft latch' τ m) refl y (omega arith) (omega arith) refl n-is
    (first-is ∙ ap some above-is)
    (λ rest e. linked-along lk (rw e at (frame-chain τ m w latch' ended)) (frame-chain σ m w latch ok) (rw e at same))
