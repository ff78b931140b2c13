-- The start of a frame that was followed to its end, and the frame from there.
use mathlib.Core.Path.{◌≡◌, refl, ap, sym, ◌∙◌}
use mathlib.Core.Bool.{Bool, true, false}
use mathlib.Core.Option as Option
use mathlib.Core.List.{List, [], ◌∷◌, ◌++◌}
use Prim.Native.Nat.{ℕ, ◌+◌, ◌/◌, ◌≤◌, ◌<◌}
use native.Mathlib.Omega.{arith}
use lib.ListN.{length, get_or, replicate, length-replicate}
use lib.Dec.{ltb, lit≤}
use Rattle.memory.specs.Word.{when◌then◌else◌}
use Rattle.memory.specs.Reading.{Reading, done, refuse, ask, ◌>>=◌, given, refused, absent, run_from, run, asked}
use Rattle.memory.proofs.Laws.{bind-given}
use Rattle.memory.proofs.ReadBounds.{Words, Reads, reads-given}
use Rattle.memory.proofs.ReadBounds as Bounds
use Rattle.settings.specs.declared.Settings.{Settings}
use Rattle.blocks.specs.declared.MainBlock.{MainBlock}
use Rattle.windows.specs.Window.{first_window}
use Rattle.windows.proofs.WindowBounds.{window-reads}
use Rattle.state.specs.declared.State.{State}
use Rattle.start.specs.Top.{registered, top_block}
use Rattle.start.specs.Start.{window_start, main_start}
use Rattle.start.proofs.StartBound.{top-reads}
use Rattle.converter.specs.Walk.{Walked, went, halted, walk}
use Rattle.converter.specs.Below.{frame_below, frame_read}
use Rattle.converter.specs.Converter.{Followed, ended, onwards, follow_rows, follow_window, follow, turned_memory, turned_register, turned_settings}
use Rattle.converter.proofs.Alike.{Same}
use Rattle.converter.proofs.Pointers.{Stands}
use Rattle.converter.proofs.Rows.{segmented, Standing, top-alike, start-alike}
use Rattle.converter.proofs.Walks.{Walks, walks, Kept, kept_on, walks-on, Follows, follows}
use Rattle.converter.proofs.Theorem.{Rows, rows, rows_on, rows_same, rows-drawn, rows-read}

-- the addresses of one reading after another that comes to a result
pub asked-then : {A B : Type 0} (n : ℕ) (m : List ℕ) (p : Reading A) (k : A → Reading B) {i : ℕ} {a : A} → run_from n m p ≡ given i a
    → asked m (p >>= k) ≡ asked m p ++ asked m (k a)
unfolding run_from asked ◌>>=◌
asked-then n m (done x) k {a} e = let same : x ≡ a = cc in ap (λ y. asked m (k y)) same
asked-then n m (refuse x) k e = let q : ◌≡◌ {A = ℕ} 0 1 = cc in absurd (omega arith)
asked-then {A} n m (ask q f) k {i} {a} e = by_place (ltb (q.address / 2) (length m)) e (asked-then (n + 1) m (f (get_or m (q.address / 2) 0)) k)
  where
    by_place : (t : Bool) → (when t then run_from (n + 1) m (f (get_or m (q.address / 2) 0)) else refused (absent q)) ≡ given i a
        → (run_from (n + 1) m (f (get_or m (q.address / 2) 0)) ≡ given i a
        → asked m (f (get_or m (q.address / 2) 0) >>= k) ≡ asked m (f (get_or m (q.address / 2) 0)) ++ asked m (k a))
        → q.address ∷ (when t then asked m (f (get_or m (q.address / 2) 0) >>= k) else []) ≡ (q.address ∷ (when t then asked m (f (get_or m (q.address / 2) 0)) else [])) ++ asked m (k a)
    by_place true h rest = ap (◌∷◌ q.address) (rest h)
    by_place false h rest = let z : ◌≡◌ {A = ℕ} 0 1 = cc in absurd (omega arith)

start-reads : (latch : ℕ) (σ : Settings) (x : MainBlock) → Reads (λ _. Unit {0}) 6 (window_start latch σ x)
unfolding window_start first_window
start-reads latch σ x = Bounds.bind {n = 6} {k = 0} (lit≤ tt) (window-reads σ.linear 0 0 _ (lit≤ tt)) λ _ _. Bounds.dones tt

module _ (latch : ℕ) (σ : Settings) (m : List ℕ) (b : Words m) (fin : List ℕ) where
  -- the parts of a frame that was followed to its end
  pub record Parts : Type 0 where
    pub marks₁ : List ℕ
    pub block : MainBlock
    pub top : Walks (registered false σ.top).address m marks₁ block (replicate (length m) 0) (top_block false σ.top)
    pub marks₂ : List ℕ
    pub state : State
    pub window : Walks (registered false σ.tow).address m marks₂ state marks₁ (window_start latch (segmented σ) block)
    pub rest : Rows σ m b fin state.fields.left marks₂ state

  pub parts : follow latch (segmented σ) m ≡ ended fin → Parts
  unfolding follow
  parts e = by-top (walk (registered false σ.top).address m (replicate (length m) 0) (top_block false σ.top)) refl e
    where
      rest : List ℕ → State → Followed
      rest marks s = follow_rows s.fields.left (segmented σ) m marks s

      by-window : (marks : List ℕ) (x : MainBlock) → Walks (registered false σ.top).address m marks x (replicate (length m) 0) (top_block false σ.top)
          → (w : Walked State) → walk (registered false σ.tow).address m marks (window_start latch (segmented σ) x) ≡ w → onwards 0 w rest ≡ ended fin → Parts
      by-window marks x t (went marks₂ s) h g = record {
        marks₁ = marks;
        block = x;
        top = t;
        marks₂ = marks₂;
        state = s;
        window = walks (registered false σ.tow).address m (window_start latch (segmented σ) x) marks h;
        rest = rows σ m b fin s.fields.left marks₂ s g;
      }
      by-window marks x t (halted y) h g = let q : ◌≡◌ {A = ℕ} 0 1 = cc in absurd (omega arith)

      by-top : (w : Walked MainBlock) → walk (registered false σ.top).address m (replicate (length m) 0) (top_block false σ.top) ≡ w
          → onwards 0 w (follow_window latch (segmented σ) m) ≡ ended fin → Parts
      by-top (went marks x) h g =
          by-window marks x (walks (registered false σ.top).address m (top_block false σ.top) (replicate (length m) 0) h)
          (walk (registered false σ.tow).address m marks (window_start latch (segmented σ) x)) refl g
      by-top (halted y) h g = let q : ◌≡◌ {A = ℕ} 0 1 = cc in absurd (omega arith)

  -- both starts come to the same state, with the same count and the same addresses
  record Starts (s : State) : Type 0 where
    count : ℕ
    before : run m (main_start latch (segmented σ)) ≡ given count s
    after : run (turned_memory fin m) (main_start latch (turned_settings σ)) ≡ given count s
    stands : Standing m b s.fields
    addresses : asked (turned_memory fin m) (main_start latch (turned_settings σ)) ≡ asked m (main_start latch (segmented σ))

  module _ (top : σ.top.second < 65536) (tow : σ.tow.second < 65536) (x : Parts) where
    none : length {A = ℕ} (replicate (length m) 0) ≡ length m
    none = length-replicate (length m) 0

    size₁ : length x.marks₁ ≡ length m
    size₁ = (walks-on none x.top).size

    size₂ : length x.marks₂ ≡ length m
    size₂ = (walks-on size₁ x.window).size

    kept₂ : Kept x.marks₂ fin
    kept₂ = (rows_on σ m b fin size₂ x.rest).kept

    top-follows : Follows (registered false σ.top).address m b fin (Same (λ y. Stands m b y.rows)) 0 (top_block false σ.top) (top_block true (turned_register σ.top)) x.block
    top-follows =
        follows (registered false σ.top).address m b fin none (kept_on (walks-on size₁ x.window).kept kept₂) x.top (top-reads false σ.top) (lit≤ tt) (top-alike m b 0 σ.top top)

    few : top-follows.count ≤ 7
    few = (reads-given 0 m b (top-reads false σ.top) top-follows.before).0

    window-follows : Follows (registered false σ.tow).address m b fin (Same (λ s. Standing m b s.fields)) top-follows.count (window_start latch (segmented σ) x.block) (window_start latch (turned_settings σ) x.block) x.state
    window-follows =
        follows (registered false σ.tow).address m b fin size₁ kept₂ x.window (start-reads latch (segmented σ) x.block) (omega (arith, few))
        (start-alike m b top-follows.count latch σ x.block tow top-follows.related.holds)

    starts : Starts x.state
    unfolding turned_settings
    starts =
        let t = top-follows in
        let w = window-follows in
        let τ = turned_settings σ in
        let l = turned_memory fin m in
        let same = sym t.related.equal in
        record {
          count = w.count;
          before = bind-given 0 m (top_block false σ.top) (window_start latch (segmented σ)) t.before ∙ w.before;
          after = bind-given 0 l (top_block true (turned_register σ.top)) (window_start latch τ) t.after
              ∙ ap (λ (y : MainBlock). run_from t.count l (window_start latch τ y)) same ∙ w.after ∙ ap (given w.count) (sym w.related.equal);
          stands = w.related.holds;
          addresses = asked-then 0 l (top_block true (turned_register σ.top)) (window_start latch τ) t.after
              ∙ ap (λ (y : MainBlock). asked l (top_block true (turned_register σ.top)) ++ asked l (window_start latch τ y)) same
              ∙ rw (t.addresses, w.addresses) (sym (asked-then 0 m (top_block false σ.top) (window_start latch (segmented σ)) t.before));
        }

    pub frames-same : frame_below latch (turned_settings σ) (turned_memory fin m) ≡ frame_below latch (segmented σ) m
    unfolding frame_below
    frames-same =
        let s = starts in
        rw (s.before, s.after)
        (rows_same σ m b fin x.state.fields.left (record { state = x.state; words = s.count }) x.marks₂ size₂ s.stands x.rest)

    pub frames-drawn : (frame_below latch (segmented σ) m).refusal ≡ Option.none
    unfolding frame_below
    frames-drawn =
        let s = starts in
        rw s.before
        (rows-drawn σ m b fin x.state.fields.left (record { state = x.state; words = s.count }) x.marks₂ size₂ s.stands x.rest)

    pub frames-read : frame_read latch (turned_settings σ) (turned_memory fin m) ≡ frame_read latch (segmented σ) m
    unfolding frame_read
    frames-read =
        let s = starts in
        rw (s.before, s.after, s.addresses)
        (ap (◌++◌ (asked m (main_start latch (segmented σ)))) (rows-read σ m b fin x.state.fields.left x.state x.marks₂ size₂ s.stands x.rest))
