-- The blocks of an accepted start or row ask for the addresses of the walk.
use Rattle.std.proofs.Common.{Option, Some, None}
use mathlib.Core.Path.{◌≡◌, refl, ap, ap₂, sym, ◌∙◌}
use mathlib.Core.List.{List, [], ◌∷◌, ◌++◌, append_assoc}
use mathlib.Core.Bool.{Bool, true, false, ◌&&◌, not}
use Prim.Native.Nat.{ℕ, zero, suc, ◌+◌, ◌-◌, ◌*◌, ◌%◌, ◌<◌}
use native.Mathlib.Omega.{arith}
use native.Mathlib.Nat.{zero-add}
use lib.Dec.{ltb, leb, lit<}
use Rattle.memory.specs.Word.{when◌then◌else◌, bit, at}
use Rattle.memory.specs.declared.Pointer.{Pointer}
use Rattle.memory.specs.Reading.{Reading, done, ◌>>=◌, ◌>>◌, read_as, one_pointer, check_of, check}
use Rattle.memory.specs.Address.{nothing, pointer, null, next_word, ahead, onward, further, words}
use Rattle.memory.proofs.RunLaws.{ahead-add}
use Rattle.settings.specs.declared.Settings.{Settings}
use Rattle.settings.specs.Good.{check_settings, good}
use Rattle.windows.specs.declared.Window.{Window}
use Rattle.windows.specs.Window.{window_of, two_pointers, in_order, window_at, first_window, due_window}
use Rattle.blocks.specs.declared.RowFormat.{RowFormat}
use Rattle.blocks.specs.Main.{main_block_at}
use Rattle.blocks.specs.RowBlock.{RowBlock, no_block, segment_roles, rest_of_block, block_at, row_block_at, window_row_at, format_of, redefined}
use Rattle.state.specs.declared.Fields.{Fields}
use Rattle.state.specs.declared.State.{State}
use Rattle.state.specs.State.{in_range}
use Rattle.layout.specs.Layout.{total, all_fit, Overlay, none, over, edges_fit}
use Rattle.layout.specs.Overlay.{Overlaid, window_row, overlaid}
use Rattle.background.specs.Background.{BackgroundRow, background_block, background_row}
use Rattle.plan.specs.Plan.{Plan, plan}
use Rattle.start.specs.Top.{registered, top_block, enabled, of_window}
use Rattle.start.specs.Start.{window_start, start_from}
use Rattle.noting.specs.Noting.{in_turn}
use Rattle.addresses.specs.Addresses.{word_in, pointed, head_word, block_words, pointer_in, redefinition_of, due_of, rows_of, over_rows, plan_addresses, block_addresses, start_addresses}
use Rattle.addresses.proofs.Trace.{Trace, dones, asks, parts, joined, alone, trace-done, trace-check, trace-check-of, trace-as, no-refusal}

-- words one after the other: their addresses, and each as memory has it
pub record Read (m : List ℕ) (l : Bool) (k a : ℕ) (xs ws : List ℕ) : Type 0 where
  pub addresses : xs ≡ in_turn l k a
  pub each : (j : ℕ) → j < k → at ws j ≡ word_in m (ahead l j a)

pub words-asked : (m : List ℕ) (l : Bool) (k : ℕ) (p : Pointer) {xs ws : List ℕ} → Trace m (words l k p) xs ws → Read m l k p.address xs ws
unfolding words in_turn ahead ◌>>=◌
words-asked m l zero p dones = record { addresses = refl; each = λ j h. absurd (omega (arith, h)) }
words-asked m l (suc k) p {ws = ws} (asks t) =
    let w = word_in m p.address in
    let r = parts (words l k (onward l p)) (λ rest. done (w ∷ rest)) t in
    let f = words-asked m l k (onward l p) r.one in
    let ended = trace-done r.two in
    record {
      addresses = ap (◌∷◌ p.address) (alone r.sum f.addresses ended.0);
      each = word ended.1 f.each;
    }
  where
    word : {rest : List ℕ} → word_in m p.address ∷ rest ≡ ws → ((j : ℕ) → j < k → at rest j ≡ word_in m (ahead l j (next_word l p.address)))
        → (j : ℕ) → j < suc k → at ws j ≡ word_in m (ahead l j p.address)
    word e f zero h = ap (λ (k : List ℕ). at k 0) (sym e)
    word e f (suc j) h = ap (λ (k : List ℕ). at k (suc j)) (sym e) ∙ f j (omega arith)

-- j words and then k
pub turn-append : (l : Bool) (j k a : ℕ) → in_turn l (j + k) a ≡ in_turn l j a ++ in_turn l k (ahead l j a)
unfolding in_turn ahead
turn-append l zero k a = ap (λ (i : ℕ). in_turn l i a) (zero-add k)
turn-append l (suc j) k a =
    let sum : suc j + k ≡ suc (j + k) = omega arith in
    ap (λ (i : ℕ). in_turn l i a) sum ∙ ap (◌∷◌ a) (turn-append l j k (next_word l a))

module _ (m : List ℕ) (l : Bool) where
  -- a window block
  pub record WindowAsked (ys : List ℕ) (rows : Pointer) (xs : List ℕ) (w : Option Window) : Type 0 where
    pub addresses : xs ≡ ys
    pub block : (x : Window) → w ≡ Some x → x.rows ≡ rows

  absent : (x : Window) {A : Type 0} → None ≡ Some x → A
  absent x e = let q : ◌≡◌ {A = ℕ} 0 1 = cc in absurd (omega arith)

  present-same : (x y : Window) → Some x ≡ Some y → x ≡ y
  present-same x y e = cc

  window-asked : (number least : ℕ) (p : Pointer) {xs : List ℕ} {w : Option Window} → Trace m (window_at l number least p) xs w
      → WindowAsked (pointed l 6 p) (pointer_in l m 2 p.address) xs w
  unfolding window_at window_of pointed
  window-asked number least p t = by (null p) t
    where
      w₁ : List ℕ → Window
      w₁ ws = window_of l number p.address ws

      by : (b : Bool) {xs : List ℕ} {w : Option Window}
          → Trace m (when b then done None else (read_as two_pointers (words l 6 p) >>= λ ws. check_of 8 p (in_order (w₁ ws).block && leb least (w₁ ws).block.top) >>= λ _. done (Some (w₁ ws)))) xs w
          → WindowAsked (when b then [] else in_turn l 6 p.address) (pointer_in l m 2 p.address) xs w
      by true dones = record { addresses = refl; block = λ x e. absent x e }
      by false t =
          let r = parts (read_as two_pointers (words l 6 p)) _ t in
          let f = words-asked m l 6 p (trace-as two_pointers (words l 6 p) r.one) in
          let ended = trace-done (trace-check-of 8 p (in_order (w₁ r.result).block && leb least (w₁ r.result).block.top) (λ _. done (Some (w₁ r.result))) r.two).1 in
          record {
            addresses = alone r.sum f.addresses ended.0;
            block = λ x e.
                ap (λ (y : Window). y.rows) (sym (present-same (w₁ r.result) x (ended.1 ∙ e))) ∙ ap₂ (pointer l (ahead l 2 p.address)) (f.each 2 (lit< tt)) (f.each 3 (lit< tt));
          }

  pub due-asked : (row : ℕ) (w₀ : Option Window) {xs : List ℕ} {w : Option Window} → Trace m (due_window l row w₀) xs w
      → WindowAsked (pointed l 6 (due_of row w₀)) (rows_of l m row w₀) xs w
  unfolding due_window due_of rows_of pointed
  due-asked row None dones = record { addresses = refl; block = λ x e. absent x e }
  due-asked row (Some v) t = by (ltb v.block.bottom row) t
    where
      by : (b : Bool) {xs : List ℕ} {w : Option Window}
          → Trace m (when b then window_at l (v.block.number + 1) (v.block.bottom + 1) v.block.link else done (Some v)) xs w
          → WindowAsked (pointed l 6 (when b then v.block.link else nothing)) (when b then pointer_in l m 2 v.block.link.address else v.rows) xs w
      by true t = window-asked _ _ v.block.link t
      by false dones = record { addresses = refl; block = λ x e. ap (λ (y : Window). y.rows) (sym (present-same v x e)) }

  -- a row block or window row block, after its first three words, of which the third is w
  null-pointer : (k : Bool) (from : ℕ) → pointer k from 0 0 ≡ nothing
  unfolding pointer
  null-pointer true from = refl
  null-pointer false from = refl

  no_words : (k : ℕ) (p : Pointer) → k ≡ 0 → {xs ws : List ℕ} → Trace m (words l k p) xs ws → ws ≡ []
  unfolding words
  no_words zero p e t = sym (trace-done t).1
  no_words (suc k) p e t = absurd (omega (arith, e))

  pub record RestAsked (p : Pointer) (w k : ℕ) (xs : List ℕ) (b : RowBlock) : Type 0 where
    pub addresses : xs ≡ in_turn l (k + 5 * (w % 16)) (ahead l 3 p.address)
    pub with-pointer : k ≡ 2 → b.redefinition ≡ pointer_in l m 3 p.address
    pub without : k ≡ 0 → b.redefinition ≡ nothing

  rest-asked : (p : Pointer) (head : List ℕ) (w k : ℕ) → at head 2 ≡ w → {xs : List ℕ} {b : RowBlock} → Trace m (rest_of_block l p head k) xs b
      → RestAsked p w k xs b
  unfolding rest_of_block words ahead
  rest-asked p head w k e {xs} {b} t =
      let a = p.address in
      let r = parts (read_as one_pointer (words l k (further l 3 p))) _ t in
      let f = words-asked m l k (further l 3 p) (trace-as one_pointer (words l k (further l 3 p)) r.one) in
      let s = parts (read_as (segment_roles (at head 2 % 16)) (words l (5 * (at head 2 % 16)) (further l (3 + k) p))) _ r.two in
      let g = words-asked m l (5 * (at head 2 % 16)) (further l (3 + k) p) (trace-as (segment_roles (at head 2 % 16)) (words l (5 * (at head 2 % 16)) (further l (3 + k) p)) s.one) in
      let ended = trace-done s.two in
      let re = ap (λ (x : RowBlock). x.redefinition) (sym ended.1) in
      record {
        addresses =
            joined r.sum f.addresses (alone s.sum (g.addresses ∙ ap₂ (λ (i j : ℕ). in_turn l (5 * (i % 16)) j) e (sym (ahead-add l 3 k a))) ended.0)
            ∙ sym (turn-append l k (5 * (w % 16)) (ahead l 3 a));
        with-pointer = λ two.
            re ∙ ap₂ (pointer l (ahead l 3 a)) (f.each 0 (omega arith)) (f.each 1 (omega arith) ∙ ap (word_in m) (ahead-add l 3 1 a));
        without = λ none.
            re ∙ ap (λ (ws : List ℕ). pointer l (ahead l 3 a) (at ws 0) (at ws 1)) (no_words k (further l 3 p) none (trace-as one_pointer (words l k (further l 3 p)) r.one)) ∙ null-pointer l (ahead l 3 a);
      }

  pub record BlockAsked (redefines : Bool) (p : Pointer) (xs : List ℕ) (b : RowBlock) : Type 0 where
    pub addresses : xs ≡ pointed l (block_words redefines (head_word l m p)) p
    pub redefinition : redefines ≡ true → b.redefinition ≡ redefinition_of l m p

  pub block-asked : (redefines : Bool) (p : Pointer) {xs : List ℕ} {b : RowBlock} → Trace m (block_at l redefines p) xs b → BlockAsked redefines p xs b
  unfolding block_at pointed redefinition_of
  block-asked redefines p t = by (null p) refl t
    where
      w : ℕ
      w = head_word l m p

      chosen : (t : Bool) (k : ℕ) → k ≡ (when t then 2 else 0) → {ys : List ℕ} {b : RowBlock} → RestAsked p w k ys b
          → b.redefinition ≡ (when t then pointer_in l m 3 p.address else nothing)
      chosen true k e q = q.with-pointer e
      chosen false k e q = q.without e

      by : (t : Bool) → null p ≡ t → {xs : List ℕ} {b : RowBlock}
          → Trace m (when t then done no_block else (read_as one_pointer (words l 3 p) >>= λ head. rest_of_block l p head (when redefines && bit 15 (at head 2) then 2 else 0))) xs b
          → BlockAsked redefines p xs b
      by true n dones = record { addresses = rw n; redefinition = λ _. rw n }
      by false n t =
          let r = parts (read_as one_pointer (words l 3 p)) _ t in
          let f = words-asked m l 3 p (trace-as one_pointer (words l 3 p) r.one) in
          let third = f.each 2 (lit< tt) in
          let k : ℕ = when redefines && bit 15 (at r.result 2) then 2 else 0 in
          let q = rest-asked p r.result w k third r.two in
          let is : k ≡ (when redefines && bit 15 w then 2 else 0) = ap (λ (v : ℕ). when redefines && bit 15 v then 2 else 0) third in
          let sum : 3 + (k + 5 * (w % 16)) ≡ block_words redefines w = rw is (omega arith) in
          record {
            addresses = joined r.sum f.addresses q.addresses ∙ sym (turn-append l 3 (k + 5 * (w % 16)) p.address) ∙ ap (λ (i : ℕ). in_turn l i p.address) sum ∙ rw n;
            redefinition = λ e. chosen (bit 15 w) k (is ∙ rw e) q ∙ rw n;
          }

  -- a redefinition
  redefined-asked : (p : Pointer) (format : RowFormat) {xs : List ℕ} {t : RowFormat} → Trace m (redefined l p format) xs t → xs ≡ pointed l 3 p
  unfolding redefined pointed
  redefined-asked p format u = by (null p) u
    where
      by : (b : Bool) {xs : List ℕ} {t : RowFormat} → Trace m (when b then done format else (words l 3 p >>= λ ws. done (format_of ws))) xs t → xs ≡ (when b then [] else in_turn l 3 p.address)
      by true dones = refl
      by false u =
          let r = parts (words l 3 p) _ u in
          alone r.sum (words-asked m l 3 p r.one).addresses (trace-done r.two).0

  -- the row block, then its redefinition
  pub background-asked : (p : Pointer) (format : RowFormat) {xs : List ℕ} {g : BackgroundRow} → Trace m (background_block l p format) xs g
      → xs ≡ pointed l (block_words true (head_word l m p)) p ++ pointed l 3 (redefinition_of l m p)
  unfolding background_block row_block_at
  background-asked p format t =
      let r = parts (block_at l true p) _ t in
      let f = block-asked true p r.one in
      let s = parts (redefined l r.result.redefinition format) _ r.two in
      let g = redefined-asked r.result.redefinition format s.one in
      joined r.sum f.addresses (alone s.sum (g ∙ ap (pointed l 3) (f.redefinition refl)) (trace-done s.two).0)

-- the window's row block, on a row with a window
abbrev rows_for : Option Window → Overlay → Pointer
rows_for (Some x) (over number first end ws) = x.rows
rows_for (Some x) none = nothing
rows_for None o = nothing

module _ (m : List ℕ) (σ : Settings) where
  window-row-asked : (x : Window) {xs : List ℕ} {o : Overlaid} → Trace m (window_row σ x) xs o
      → xs ≡ pointed σ.linear (block_words false (head_word σ.linear m (rows_for (Some x) o.overlay))) (rows_for (Some x) o.overlay)
  unfolding window_row window_row_at
  window-row-asked x t =
      let l = σ.linear in
      let r = parts (block_at l false x.rows) _ t in
      let ended = trace-done (trace-check 11 (leb (total σ.hidden r.result.segments) (x.block.right + 1 - x.block.left)) _ (trace-check-of 9 x.rows (all_fit r.result.segments) _ r.two).1).1 in
      alone r.sum (block-asked m l false x.rows r.one).addresses ended.0
      ∙ ap (λ (o : Overlaid). pointed l (block_words false (head_word l m (rows_for (Some x) o.overlay))) (rows_for (Some x) o.overlay)) ended.1

  overlaid-asked : (row : ℕ) (w : Option Window) {xs : List ℕ} {o : Overlaid} → Trace m (overlaid σ row w) xs o
      → xs ≡ pointed σ.linear (block_words false (head_word σ.linear m (rows_for w o.overlay))) (rows_for w o.overlay)
  unfolding overlaid pointed
  overlaid-asked row None dones = refl
  overlaid-asked row (Some x) t = by (leb x.block.top row && leb row x.block.bottom) t
    where
      by : (b : Bool) {xs : List ℕ} {o : Overlaid}
          → Trace m (when b then window_row σ x else done (record { overlay = none; window = Some x })) xs o
          → xs ≡ pointed σ.linear (block_words false (head_word σ.linear m (rows_for (Some x) o.overlay))) (rows_for (Some x) o.overlay)
      by true t = window-row-asked x t
      by false dones = refl

  -- what a window in hand has for its rows
  rows_same : (row : ℕ) (w₀ w : Option Window) (o : Overlay) → ((x : Window) → w ≡ Some x → x.rows ≡ rows_of σ.linear m row w₀)
      → (w ≡ None → o ≡ none) → rows_for w o ≡ over_rows σ.linear m row w₀ o
  unfolding over_rows
  rows_same row w₀ None none h k = refl
  rows_same row w₀ None (over number first end ws) h k = let e = k refl in let q : ◌≡◌ {A = ℕ} 0 1 = cc in absurd (omega arith)
  rows_same row w₀ (Some x) none h k = refl
  rows_same row w₀ (Some x) (over number first end ws) h k = h x refl

  absent_none : (row : ℕ) (w : Option Window) {xs : List ℕ} {o : Overlaid} → Trace m (overlaid σ row w) xs o → w ≡ None → o.overlay ≡ none
  unfolding overlaid
  absent_none row None t e = ap (λ (o : Overlaid). o.overlay) (sym (trace-done t).1)
  absent_none row (Some x) t e = let q : ◌≡◌ {A = ℕ} 0 1 = cc in absurd (omega arith)

  -- the checks on settings ask for no word
  settings-traced : {A : Type 0} (k : Unit {0} → Reading A) {xs : List ℕ} {a : A} → Trace m (check_settings σ >>= k) xs a → Trace m (k tt) xs a
  unfolding check_settings ◌>>=◌
  settings-traced {A} k {xs} {a} t = by (good σ) σ.linear t
    where
      by : (g l : Bool) → Trace m ((check 2 g >> check 17 l) >>= k) xs a → Trace m (k tt) xs a
      by true true t = t
      by true false t = absurd (no-refusal t)
      by false l t = absurd (no-refusal t)

  -- the blocks of a row
  pub plan-asked : (f : Fields) {xs : List ℕ} {p : Plan} → Trace m (plan σ f) xs p
      → xs ≡ block_addresses σ.linear m f p.overlay
  unfolding plan background_row plan_addresses block_addresses
  plan-asked f t =
      let l = σ.linear in
      let t₁ = (trace-check 4 (ltb 0 f.left) _ (trace-check 3 (in_range f) _ (settings-traced _ t)).1).1 in
      let r = parts (due_window l f.row f.window) _ t₁ in
      let due = due-asked m l f.row f.window r.one in
      let s = parts (background_row σ f) _ r.two in
      let u = parts (background_block l f.next f.format) _ s.one in
      let back = background-asked m l f.next f.format u.one in
      let checked = trace-done (trace-check-of 10 f.next (leb (total σ.hidden u.result.block.segments) 132) _ (trace-check-of 9 f.next (all_fit u.result.block.segments) _ u.two).1).1 in
      let v = parts (overlaid σ f.row r.result) _ s.two in
      let ended = trace-done (trace-check 12 (edges_fit σ.hidden v.result.overlay s.result.block.segments) _ v.two).1 in
      let over = overlaid-asked f.row r.result v.one in
      let rows = rows_same f.row f.window r.result v.result.overlay due.block (absent_none f.row r.result v.one) in
      let last = over ∙ ap (λ (q : Pointer). pointed l (block_words false (head_word l m q)) q) (rows ∙ ap (λ (p : Plan). over_rows l m f.row f.window p.overlay) ended.1) in
      let x = pointed l (block_words true (head_word l m f.next)) f.next in
      let y = pointed l 3 (redefinition_of l m f.next) in
      joined r.sum due.addresses (joined s.sum (alone u.sum back checked.0) (alone v.sum last ended.0) ∙ append_assoc x y _)

  -- a start
  pub start-asked : (latch : ℕ) {xs : List ℕ} {s : State} → Trace m (start_from latch σ) xs s → xs ≡ start_addresses σ
  unfolding start_from top_block main_block_at window_start first_window start_addresses pointed
  start-asked latch t =
      let l = σ.linear in
      let top = registered l σ.top in
      let tow = registered l σ.tow in
      let r = parts (top_block l σ.top) _ (settings-traced _ t) in
      let six = trace-check 6 (not (null top)) _ r.one in
      let u = parts (main_block_at l top) _ six.1 in
      let v = parts (read_as one_pointer (words l 7 top)) _ u.one in
      let main = alone v.sum ((words-asked m l 7 top (trace-as one_pointer (words l 7 top) v.one)).addresses ∙ sym (not_null top six.0)) (trace-done v.two).0 in
      let checked = trace-done (trace-check 14 (not (enabled u.result && of_window u.result)) _ u.two).1 in
      let w = parts (window_at l 0 0 tow) _ r.two in
      let window = (window-asked m l 0 0 tow w.one).addresses in
      joined r.sum (alone u.sum main checked.0) (alone w.sum window (trace-done w.two).0)
    where
      not_null : (p : Pointer) → not (null p) ≡ true → pointed σ.linear 7 p ≡ in_turn σ.linear 7 p.address
      not_null p e = by (null p) refl e
        where
          by : (b : Bool) → null p ≡ b → not b ≡ true → pointed σ.linear 7 p ≡ in_turn σ.linear 7 p.address
          by true h e = cc
          by false h e = rw h
