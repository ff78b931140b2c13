-- What is so of every row's figures, and of the report over any list of rows handed in: the totals are the sums over the accepted rows,
-- with the first of the largest; and rows whose sums fit are all accepted.
use Rattle.std.proofs.Common.{Ok}
use mathlib.Core.Path.{◌≡◌, refl, sym, ap, subst, ◌∙◌}
use mathlib.Core.Bool.{Bool, true, false}
use mathlib.Core.List.{List, [], ◌∷◌}
use Prim.Native.Nat.{ℕ, zero, suc, ◌+◌, ◌-◌, ◌*◌, ◌/◌, ◌^◌, ◌<◌, ◌≤◌}
use native.Mathlib.Omega.{arith}
use native.Mathlib.Nat.{div-add-mod', mod-lt, suc-mul, zero-mul, le-mul_of_pos_right, mul-le-mul_right}
use lib.Dec.{eqb, ltb}
use borrow.Author.Tests.{ne_eqb, eqb-false, lt-ltb, ltb-true, ltb-false}
use Rattle.memory.proofs.ReadBounds.{if-cases}
use Rattle.bus.specs.declared.BusRow.{BusRow}
use Rattle.bus.specs.declared.Totals.{Totals}
use Rattle.bus.specs.declared.Reported.{Reported}
use Rattle.bus.specs.Bus.{burst_space, burst_count, bursts, gaps, released, figures, none, larger, added, all_fit, refuse, reported}
use Rattle.bus.specs.Rows.{report, counted, accepted, sum, words_of, bursts_of, released_of, AtMost, empty, more, FirstLargest, here, later, Tells, Largest, no_row, of_row, Counting, none_left, counting}
use Rattle.bus.proofs.BusLaws.{no_words, kept-bus, rounded-up}

-- ---- a row ----
less_one : (d c : ℕ) → 0 < d → (d - 1) * c + c ≡ d * c
less_one zero c h = absurd (omega arith)
less_one (suc d) c h = let e : suc d - 1 ≡ d = omega arith in rw e (sym (suc-mul d c))

some-burst : (d c n : ℕ) {m : ℕ} → d * c + m ≡ n → m < c → c ≤ n → 0 < d
some-burst zero c n e h k = absurd (omega (arith, zero-mul c))
some-burst (suc d) c n e h k = omega arith

-- the bursts hold the words, and one burst less does not
module _ (burst words : ℕ) (count : burst_count burst ≡ 0 → ⊥) (space : burst_space burst ≡ 0 → ⊥) (read : words ≡ 0 → ⊥) where
  pub bursts-hold : words ≤ bursts burst words * burst_count burst
  bursts-hold =
      let c = burst_count burst in
      rw (rounded-up burst words read space)
      (omega (arith, div-add-mod' (words + (c - 1)) c, mod-lt (words + (c - 1)) {m = c} (omega arith)))

  pub fewer-do-not : (bursts burst words - 1) * burst_count burst < words
  fewer-do-not =
      let c = burst_count burst in
      let d = (words + (c - 1)) / c in
      let whole = div-add-mod' (words + (c - 1)) c in
      let part = mod-lt (words + (c - 1)) {m = c} (omega arith) in
      rw (rounded-up burst words read space) (omega (arith, less_one d c (some-burst d c (words + (c - 1)) whole part (omega arith))))

-- no more bursts than words
pub few-bursts : (burst words : ℕ) → (burst_count burst ≡ 0 → ⊥) → bursts burst words ≤ words
unfolding bursts
few-bursts burst words count =
    if-cases (λ (n : ℕ). n ≤ words) (eqb words 0) (λ e. omega arith)
    (λ e. if-cases (λ (n : ℕ). n ≤ words) (eqb (burst_space burst) 0) (λ s. omega (arith, eqb-false words 0 e))
    (λ s. rounded (eqb-false (burst_space burst) 0 s) (eqb-false words 0 e)))
  where
    rounded : (burst_space burst ≡ 0 → ⊥) → (words ≡ 0 → ⊥) → (words + (burst_count burst - 1)) / burst_count burst ≤ words
    rounded s e =
        let d = (words + (burst_count burst - 1)) / burst_count burst in
        let h = rw (rounded-up burst words e s) at (fewer-do-not burst words count s e) in
        omega (arith, le-mul_of_pos_right {m = burst_count burst} (d - 1) (omega arith))

-- and a bound on the time released, by a register of 16 bits
pub few-released : (burst words : ℕ) → (burst_count burst ≡ 0 → ⊥) → burst < 65536 → released burst words ≤ 3825 * words
unfolding released
few-released burst words count h =
    omega (arith, few-bursts burst words count, mul-le-mul_right {m = burst_space burst} {n = 255} (gaps burst words) (omega arith))

-- a space of 0 keeps the bus: one burst if any word is read, and no gap
pub bus-kept : (burst words : ℕ) → burst_space burst ≡ 0 → (words ≡ 0 → ⊥) → (bursts burst words ≡ 1) × (released burst words ≡ 0)
unfolding released
bus-kept burst words s read = (kept-bus burst words read s, rw (kept-bus burst words read s) (omega arith))

-- a row of no words takes no burst
pub nothing_read : (burst : ℕ) → (bursts burst 0 ≡ 0) × (released burst 0 ≡ 0)
unfolding released
nothing_read burst = (no_words burst, rw (no_words burst) (omega arith))

-- ---- the report ----
-- what a row does to the totals: it is counted, or it is refused and they stay
data Reports (t : Totals) (h : BusRow) : Reported → Type 0 where
  counts : Reports t h (record { totals = added t h; answer = Ok (figures h) })
  refuses : (n : ℕ) → Reports t h (refuse n t)

reports : (t : Totals) (h : BusRow) → Reports t h (reported t h)
unfolding reported
reports t h =
    if-cases (Reports t h) (eqb (burst_count h.burst) 0) (λ _. refuses 20)
    (λ _. if-cases (Reports t h) (all_fit (added t h)) (λ _. counts) (λ _. refuses 21))

-- a total that each row adds a figure to is the sum over the accepted rows
module _ (figure : BusRow → ℕ) (total : Totals → ℕ) (adds : (t : Totals) (h : BusRow) → total (added t h) ≡ total t + figure h) where
  total-is : (t : Totals) (hs : List BusRow) → total (report t hs) ≡ total t + sum figure (accepted t hs)
  unfolding report accepted sum
  total-is t [] = omega arith
  total-is t (h ∷ hs) = by-report (reports t h) (total-is (reported t h).totals hs)
    where
      by-report : {r : Reported} → Reports t h r → total (report r.totals hs) ≡ total r.totals + sum figure (accepted r.totals hs)
          → total (report r.totals hs) ≡ total t + sum figure (counted r.answer h (accepted r.totals hs))
      by-report counts e = omega (arith, adds t h)
      by-report (refuses n) e = e

-- the totals over any list of rows handed in
module _ (t : Totals) (hs : List BusRow) where
  pub words-summed : (report t hs).words ≡ t.words + sum words_of (accepted t hs)
  unfolding added
  words-summed = total-is words_of (λ (t : Totals). t.words) (λ t h. refl) t hs

  pub bursts-summed : (report t hs).bursts ≡ t.bursts + sum bursts_of (accepted t hs)
  unfolding added
  bursts-summed = total-is bursts_of (λ (t : Totals). t.bursts) (λ t h. refl) t hs

  pub released-summed : (report t hs).released ≡ t.released + sum released_of (accepted t hs)
  unfolding added
  released-summed = total-is released_of (λ (t : Totals). t.released) (λ t h. refl) t hs

-- ---- the largest ----
-- what the totals u tell after rows hs that are counted from totals t with a row: the same row as before, or the first of the largest
data Passed (t u : Totals) (hs : List BusRow) : Type 0 where
  stands : AtMost t.largest hs → u.largest ≡ t.largest → u.screen ≡ t.screen → u.row ≡ t.row → u.any ≡ true → Passed t u hs
  passed : {r : BusRow} → t.largest < r.words → FirstLargest r hs → Tells u r → Passed t u hs

-- a row that takes the largest's place, and one that does not
module _ (t : Totals) (h : BusRow) where
  takes : larger t h ≡ true → Tells (added t h) h
  unfolding added
  takes e = record { words = rw e; screen = rw e; row = rw e; any = refl }

  leaves : larger t h ≡ false → ((added t h).largest ≡ t.largest) × ((added t h).screen ≡ t.screen) × ((added t h).row ≡ t.row)
  unfolding added
  leaves e = (rw e, rw e, rw e)

  first-takes : t.any ≡ false → larger t h ≡ true
  first-takes e = rw e

  then-more : t.any ≡ true → larger t h ≡ ltb t.largest h.words
  then-more e = rw e

at_most : {m n : ℕ} {hs : List BusRow} → m ≡ n → AtMost m hs → AtMost n hs
at_most {hs} e a = subst (λ (n : ℕ). AtMost n hs) e a

-- a row in front that takes the place
first-row : (t : Totals) (h : BusRow) {u : Totals} {hs : List BusRow} → Tells (added t h) h → Passed (added t h) u hs → Largest u (h ∷ hs)
first-row t h e (stands a w s r y) =
    of_row (here (at_most e.words a)) (record { words = w ∙ e.words; screen = s ∙ e.screen; row = r ∙ e.row; any = y })
first-row t h e (passed {r} k f i) = of_row {r = r} (later {h = h} (omega (arith, e.words)) f) i

no-fewer : {r h : BusRow} {hs : List BusRow} → FirstLargest r (h ∷ hs) → h.words ≤ r.words
no-fewer (here a) = omega arith
no-fewer (later l f) = omega arith

-- one in front of rows that are counted from totals with a row
more-words : (t : Totals) (h : BusRow) {u : Totals} {hs : List BusRow} → t.largest < h.words → Largest u (h ∷ hs) → Passed t u (h ∷ hs)
more-words t h l (of_row {r} f i) = passed {r = r} (omega (arith, no-fewer f)) f i

no-more-words : (t : Totals) (h : BusRow) {u : Totals} {hs : List BusRow} → h.words ≤ t.largest
    → ((added t h).largest ≡ t.largest) × ((added t h).screen ≡ t.screen) × ((added t h).row ≡ t.row) → Passed (added t h) u hs → Passed t u (h ∷ hs)
no-more-words t h l e (stands a w s r y) = stands (more l (at_most e.0 a)) (w ∙ e.0) (s ∙ e.1) (r ∙ e.2) y
no-more-words t h l e (passed {r} k f i) = passed {r = r} (omega (arith, e.0)) (later {h = h} (omega (arith, e.0)) f) i

still-any : (t : Totals) (h : BusRow) → (added t h).any ≡ true
unfolding added
still-any t h = refl

passing : (t : Totals) (hs : List BusRow) → t.any ≡ true → Passed t (report t hs) (accepted t hs)
unfolding report accepted
passing t [] a = stands empty refl refl refl a
passing t (h ∷ hs) a = by-report (reports t h) (passing (reported t h).totals hs)
  where
    by-more : (b : Bool) → ltb t.largest h.words ≡ b → {u : Totals} {hs : List BusRow} → Passed (added t h) u hs → Passed t u (h ∷ hs)
    by-more true e p = more-words t h (ltb-true _ _ e) (first-row t h (takes t h (then-more t h a ∙ e)) p)
    by-more false e p = no-more-words t h (ltb-false _ _ e) (leaves t h (then-more t h a ∙ e)) p

    by-report : {r : Reported} → Reports t h r → (r.totals.any ≡ true → Passed r.totals (report r.totals hs) (accepted r.totals hs))
        → Passed t (report r.totals hs) (counted r.answer h (accepted r.totals hs))
    by-report counts i = by-more (ltb t.largest h.words) refl (i (still-any t h))
    by-report (refuses n) i = i a

none_told : Largest none []
unfolding none
none_told = no_row refl refl refl refl

none_any : none.any ≡ false
unfolding none
none_any = refl

-- the totals of rows handed in from the first on tell the first of the largest of the accepted ones; 0 and 0 while there is none
pub largest-told : (hs : List BusRow) → Largest (report none hs) (accepted none hs)
unfolding report accepted
largest-told [] = none_told
largest-told (h ∷ hs) = by-report (reports none h) (largest-told hs)
  where
    by-report : {r : Reported} → Reports none h r → Largest (report none hs) (accepted none hs)
        → Largest (report r.totals hs) (counted r.answer h (accepted r.totals hs))
    by-report counts i = first-row none h (takes none h (first-takes none h none_any)) (passing (added none h) hs (still-any none h))
    by-report (refuses n) i = i

-- ---- rows that are all accepted ----
-- a row that has a burst count, and whose sums fit
accepts : (t : Totals) (h : BusRow) → (burst_count h.burst ≡ 0 → ⊥)
    → t.words + words_of h < 2 ^ 64 → t.bursts + bursts_of h < 2 ^ 64 → t.released + released_of h < 2 ^ 64
    → reported t h ≡ record { totals = added t h; answer = Ok (figures h) }
unfolding reported added
accepts t h k w b r =
    rw (ne_eqb (burst_count h.burst) 0 k, lt-ltb (t.words + words_of h) (2 ^ 64) w, lt-ltb (t.bursts + bursts_of h) (2 ^ 64) b, lt-ltb (t.released + released_of h) (2 ^ 64) r)

-- rows with a burst count whose sums fit are all accepted
pub all-accepted : (t : Totals) (hs : List BusRow) → Counting hs
    → t.words + sum words_of hs < 2 ^ 64 → t.bursts + sum bursts_of hs < 2 ^ 64 → t.released + sum released_of hs < 2 ^ 64 → accepted t hs ≡ hs
unfolding accepted sum added
all-accepted t [] none_left w b r = refl
all-accepted t (h ∷ hs) (counting k ks) w b r =
    rw (accepts t h k (omega arith) (omega arith) (omega arith)) (ap (◌∷◌ h) (all-accepted (added t h) hs ks (omega arith) (omega arith) (omega arith)))
