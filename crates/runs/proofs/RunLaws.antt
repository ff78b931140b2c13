-- Codes whose words stand one after the other in memory: they are all there, and their loops make what the definitions read.
use Rattle.std.proofs.Common.{Some}
use mathlib.Core.Path.{◌≡◌, refl, ap, ap₂, sym, ◌∙◌}
use mathlib.Core.List.{List, [], ◌∷◌}
use mathlib.Core.Bool.{Bool, true, false, ◌&&◌, ◌||◌, not, and-false}
use Prim.Native.Nat.{ℕ, zero, suc, ◌+◌, ◌-◌, ◌*◌, ◌/◌, ◌%◌, ◌<◌, ◌≤◌}
use native.Mathlib.Omega.{arith}
use lib.ListN.{length, get_or, take, drop, set, length-set, length-take, length-drop}
use Rattle.std.proofs.lemmas.List.{get_or-take, get_or-drop}
use lib.Seq.{drop-cons}
use lib.Dec.{ltb, leb-suc-zero}
use borrow.Author.Tests.{ltb-true, ltb-false, lt-ltb, le-ltb}
use Rattle.memory.specs.Word.{when◌then◌else◌, high, low}
use Rattle.memory.specs.Reading.{◌>>=◌, each, fetch, given, run_from}
use Rattle.memory.specs.declared.Pointer.{Pointer}
use Rattle.memory.specs.Address.{ahead, onward}
use Rattle.memory.specs.Answers.{is_run}
use Rattle.memory.proofs.Laws.{bind-given, run-done, ask-word, step_same, each_append}
use Rattle.memory.proofs.RunLaws.{ahead_more, run_ends, run-fetch}
use Rattle.memory.proofs.ReadBounds.{if-cases}
use Rattle.codes.specs.declared.CodeSettings.{CodeSettings}
use Rattle.codes.specs.declared.Source.{Source}
use Rattle.codes.specs.declared.Pen.{Pen}
use Rattle.runs.specs.declared.with_list.InForce.{InForce}
use Rattle.runs.specs.declared.with_list.Cursor.{Cursor}
use Rattle.codes.specs.Attribute.{invokes, latches, ignores, cell}
use Rattle.codes.specs.Codes.{Drawing, moved_to, taking, put, character, examine, word_codes, codes}
use Rattle.codes.specs.Answers.{so_far}
use Rattle.runs.specs.Runs.{codes_in, characters, examined, in_force, cursor_of, with_word, pen_of}
use Rattle.codes.proofs.CodeLaws.{cell-code, cell_room, character-put, character-out, examine-word, examine-latch}

-- ---- one character ----

-- an ignored character stands before no column
limit-test : (shown : Bool) (column end : ℕ) → ltb column (when shown then end else 0) ≡ shown && ltb column end
limit-test true column end = refl
limit-test false column end = leb-suc-zero column

limit-least : (shown : Bool) (end : ℕ) → (when shown then end else 0) ≤ end
limit-least true end = omega arith
limit-least false end = omega arith

module _ (hidden : Bool) (source : Source) (end a code : ℕ) (p : Pen) (cs : List ℕ) where
  pub in-force-put : end ≤ length cs → p.column < (in_force hidden source end a).limit
      → so_far (moved_to (p.column + 1) p) (set cs p.column (cell source a 0 + code)) ≡ character hidden source end a code (so_far p cs)
  in-force-put l h =
      rw (cell-code source a code) (character-put hidden source end a code p cs (sym (limit-test (hidden || not (ignores a)) p.column end) ∙ lt-ltb _ _ h) l)

  pub in-force-out : (in_force hidden source end a).limit ≤ p.column → so_far p cs ≡ character hidden source end a code (so_far p cs)
  in-force-out h = character-out hidden source end a code p cs (sym (limit-test (hidden || not (ignores a)) p.column end) ∙ le-ltb _ _ h)

-- what an attribute makes of a character, in a row with room up to a column
pub in-force-room : (attribute : InForce) (hidden : Bool) (source : Source) (end a n : ℕ) → attribute ≡ in_force hidden source end a → end ≤ n
    → (attribute.limit ≤ n) × (attribute.bits % 256 ≡ 0)
in-force-room attribute hidden source end a n e l = (
  omega (arith, ap (λ (k : InForce). k.limit) e, limit-least (hidden || not (ignores a)) end),
  omega (arith, ap (λ (k : InForce). k.bits) e, cell_room source a),
)

pub column-room : (attribute : InForce) (hidden : Bool) (source : Source) (end a column : ℕ) → attribute ≡ in_force hidden source end a → column ≤ end
    → (when ltb column attribute.limit then column + 1 else column) ≤ end
column-room attribute hidden source end a column e l =
    if-cases (λ n. n ≤ end) (ltb column attribute.limit)
    (λ t. omega (arith, ltb-true column attribute.limit t, ap (λ (k : InForce). k.limit) e, limit-least (hidden || not (ignores a)) end)) (λ _. l)

-- a word taken: the attribute of the latch, and the pen
module _ (w : ℕ) (own : InForce) (column : ℕ) (h : Cursor) where
  pub in-force-taken : (hidden : Bool) (source : Source) (end : ℕ) → own ≡ in_force hidden source end w → h.attribute ≡ in_force hidden source end h.latch
      → (with_word w own column h).attribute ≡ in_force hidden source end (with_word w own column h).latch
  in-force-taken hidden source end e g = cases (latches w)
    where
      cases : (b : Bool) → (when b then own else h.attribute) ≡ in_force hidden source end (when b then w else h.latch)
      cases true = e
      cases false = g

  pub pen-taken : (linear : Bool) (list : Pointer) → pen_of linear list (with_word w own column h) ≡ moved_to column (taking linear w (pen_of linear list h))
  unfolding taking
  pen-taken linear list =
      ap (λ (next : ℕ). record {
        column = column;
        latch = when latches w then w else h.latch;
        latched = when latches w then true else h.latched;
        list = record { present = true; next = record { address = next; from = list.from } };
      }) (ahead_more linear h.taken list.address)

-- the pen of a segment's begin
pub pen-begun : (linear hidden : Bool) (source : Source) (end : ℕ) (p : Pen) → p.list.present ≡ true
    → pen_of linear p.list.next (cursor_of hidden source end p) ≡ p
unfolding ahead
pen-begun linear hidden source end p e =
    ap (λ (present : Bool). record {
      column = p.column;
      latch = p.latch;
      latched = p.latched;
      list = record { present = present; next = p.list.next };
    }) (sym e)

pub one-most : (b : Bool) → (when b then 1 else 0) ≤ 1
one-most true = omega arith
one-most false = omega arith

-- ---- the codes of words ----
module _ (m : List ℕ) (p : ℕ) (h : p < length m) where
  pub codes-last : codes_in (drop p m) 1 ≡ high (get_or m p 0) ∷ []
  unfolding codes_in
  codes-last = ap (λ (ws : List ℕ). codes_in ws 1) (drop-cons m p 0 h)

  pub codes-both : (k : ℕ) → codes_in (drop p m) (suc (suc k)) ≡ high (get_or m p 0) ∷ low (get_or m p 0) ∷ codes_in (drop (suc p) m) k
  unfolding codes_in
  codes-both k = ap (λ (ws : List ℕ). codes_in ws (suc (suc k))) (drop-cons m p 0 h)

-- words of memory as a slice
module _ (m : List ℕ) (at n : ℕ) where
  abbrev pub stretch : List ℕ
  stretch = take (at + n - at) (drop at m)

  pub stretch-length : at + n ≤ length m → length stretch ≡ n
  stretch-length h = omega (arith, length-take (at + n - at) (drop at m), length-drop at m)

  pub stretch-word : (i : ℕ) → i < n → get_or stretch i 0 ≡ get_or m (at + i) 0
  stretch-word i h = get_or-take _ _ i 0 (omega arith) ∙ get_or-drop at m i 0

-- .. from word i on of those that count codes fill
module _ (m : List ℕ) (at i count : ℕ) (h : at + i < length m) where
  pub codes-pair : 2 * i + 2 ≤ count
      → codes_in (drop (at + i) m) (count - 2 * i)
      ≡ high (get_or m (at + i) 0) ∷ low (get_or m (at + i) 0) ∷ codes_in (drop (at + (i + 1)) m) (count - 2 * (i + 1))
  codes-pair l =
      let left : count - 2 * i ≡ suc (suc (count - 2 * (i + 1))) = omega arith in
      let next : suc (at + i) ≡ at + (i + 1) = omega arith in
      ap (codes_in (drop (at + i) m)) left ∙ codes-both m (at + i) h (count - 2 * (i + 1))
      ∙ ap (λ (p : ℕ). high (get_or m (at + i) 0) ∷ low (get_or m (at + i) 0) ∷ codes_in (drop p m) (count - 2 * (i + 1))) next

  pub codes-odd : count - 2 * i ≡ 1 → codes_in (drop (at + i) m) (count - 2 * i) ≡ high (get_or m (at + i) 0) ∷ []
  codes-odd e = ap (codes_in (drop (at + i) m)) e ∙ codes-last m (at + i) h

module _ (m : List ℕ) (σ : CodeSettings) (source : Source) (end : ℕ) where
  -- the codes of words that are there
  codes-there : (n count p : ℕ) (q : Pointer) (d : Drawing) → p + (count + 1) / 2 ≤ length m
      → ((j : ℕ) → j < (count + 1) / 2 → fetch m (ahead σ.linear j q.address) ≡ Some (get_or m (p + j) 0))
      → run_from n m (codes σ source end count q d) ≡ run_from (n + (count + 1) / 2) m (each (examine σ source end) (codes_in (drop p m) count) d)
  unfolding codes word_codes codes_in each ahead ◌>>=◌
  codes-there n zero p q d h f = ap (λ (i : ℕ). run_from i m (codes σ source end 0 q d)) (omega arith)
  codes-there n (suc zero) p q d h f =
      let first : fetch m q.address ≡ Some (get_or m p 0) = f 0 (omega arith) ∙ ap (λ (i : ℕ). Some (get_or m i 0)) (omega arith) in
      ask-word n m q _ _ first ∙ ap₂ (λ (i : ℕ) (cs : List ℕ). run_from i m (each (examine σ source end) cs d)) (omega arith) (sym (codes-last m p (omega arith)))
  codes-there n (suc (suc k)) p q d h f =
      let w = get_or m p 0 in
      let first : fetch m q.address ≡ Some w = f 0 (omega arith) ∙ ap (λ (i : ℕ). Some (get_or m i 0)) (omega arith) in
      let pair = high w ∷ low w ∷ [] in
      let rest = codes_in (drop (suc p) m) k in
      ask-word n m q _ _ first
      ∙ step_same (n + 1) ((k + 1) / 2) m (each (examine σ source end) pair d) (codes σ source end k (onward σ.linear q)) (each (examine σ source end) rest)
      (λ i d₁. codes-there i k (suc p) (onward σ.linear q) d₁ (omega arith) (λ j g. f (suc j) (omega arith) ∙ ap (λ (i : ℕ). Some (get_or m i 0)) (omega arith)))
      ∙ sym (each_append (n + 1 + (k + 1) / 2) m (examine σ source end) pair rest d)
      ∙ ap₂ (λ (i : ℕ) (cs : List ℕ). run_from i m (each (examine σ source end) cs d)) (omega arith) (sym (codes-both m p (omega arith) k))

  -- .. of a run
  pub codes-run : (n count : ℕ) (q : Pointer) (d : Drawing) → is_run σ.linear (length m) q.address ((count + 1) / 2) ≡ true
      → run_from n m (codes σ source end count q d)
      ≡ run_from (n + (count + 1) / 2) m (each (examine σ source end) (codes_in (drop (q.address / 2) m) count) d)
  codes-run n count q d h =
      codes-there n count (q.address / 2) q d (run_ends (length m) q.address ((count + 1) / 2) σ.linear h) (λ j. run-fetch σ.linear m q.address ((count + 1) / 2) j h)

  -- one code, where the next word of its list is there
  pub examine-there : (n w code : ℕ) (d : Drawing) → d.pen.list.present ≡ true → fetch m d.pen.list.next.address ≡ Some w
      → run_from n m (examine σ source end code d) ≡ given (n + (when invokes σ.flag code then 1 else 0)) (examined σ source end w code d)
  unfolding examined
  examine-there n w code d p e = cases (invokes σ.flag code) refl
    where
      cases : (b : Bool) → invokes σ.flag code ≡ b
          → run_from n m (examine σ source end code d) ≡ given (n + (when invokes σ.flag code then 1 else 0)) (examined σ source end w code d)
      cases true t = examine-word n m σ source end code d w (rw (t, p)) e ∙ sym (rw t)
      cases false t = examine-latch n m σ source end code d (rw t) ∙ sym (rw t (ap (λ (i : ℕ). given i (character σ.hidden source end d.pen.latch code d)) (omega arith)))

  -- .. as the cursor of a segment goes on
  pub listed-step : (n : ℕ) (list : Pointer) (count c : ℕ) (rest : List ℕ) (h h₁ : Cursor) (cs cs₁ : List ℕ) → is_run σ.linear (length m) list.address count ≡ true
      → h.taken < count → h₁.taken ≡ h.taken + (when invokes σ.flag c then 1 else 0)
      → so_far (pen_of σ.linear list h₁) cs₁ ≡ examined σ source end (get_or m (list.address / 2 + h.taken) 0) c (so_far (pen_of σ.linear list h) cs)
      → run_from (n + h.taken) m (each (examine σ source end) (c ∷ rest) (so_far (pen_of σ.linear list h) cs))
      ≡ run_from (n + h₁.taken) m (each (examine σ source end) rest (so_far (pen_of σ.linear list h₁) cs₁))
  unfolding each
  listed-step n list count c rest h h₁ cs cs₁ r l t e =
      let there = run-fetch σ.linear m list.address count h.taken r l in
      bind-given (n + h.taken) m _ _ (examine-there (n + h.taken) _ c (so_far (pen_of σ.linear list h) cs) refl there)
      ∙ ap₂ (λ (i : ℕ) (d : Drawing). run_from i m (each (examine σ source end) rest d)) (omega (arith, t)) (sym e)

-- ---- characters with the latch ----
module _ (hidden : Bool) (source : Source) (end a : ℕ) where
  -- an ignored character, and one with no room, change nothing
  pub characters-ignored : (cs : List ℕ) (d : Drawing) → hidden || not (ignores a) ≡ false → characters hidden source end a cs d ≡ d
  unfolding characters character
  characters-ignored [] d h = refl
  characters-ignored (c ∷ cs) d h = rw h (characters-ignored cs d h)

  pub characters-dropped : (cs : List ℕ) (d : Drawing) → end ≤ d.pen.column → characters hidden source end a cs d ≡ d
  unfolding characters character
  characters-dropped [] d h = refl
  characters-dropped (c ∷ cs) d h = rw (le-ltb d.pen.column end h, and-false (hidden || not (ignores a))) (characters-dropped cs d h)

  character-list : (code : ℕ) (d : Drawing) → ((character hidden source end a code d).pen.list ≡ d.pen.list) × ((character hidden source end a code d).pen.latch ≡ d.pen.latch)
  unfolding character put
  character-list code d =
      if-cases (λ (e : Drawing). (e.pen.list ≡ d.pen.list) × (e.pen.latch ≡ d.pen.latch)) ((hidden || not (ignores a)) && ltb d.pen.column end) (λ _. (refl, refl)) (λ _. (refl, refl))

  character-column : (code : ℕ) (d : Drawing) → hidden || not (ignores a) ≡ true → end ≤ d.pen.column + 1
      → end ≤ (character hidden source end a code d).pen.column
  unfolding character put
  character-column code d h l =
      rw h (if-cases (λ (e : Drawing). end ≤ e.pen.column) (ltb d.pen.column end) (λ _. l) (λ t. ltb-false d.pen.column end t))

  -- the first code from word p on, where it is the last one or the others have no room
  pub first-left : (m : List ℕ) (p k : ℕ) (d d₁ : Drawing) → p < length m → 0 < k → hidden || not (ignores a) ≡ true
      → d₁ ≡ character hidden source end a (high (get_or m p 0)) d → (1 < k → end ≤ d.pen.column + 1) → characters hidden source end a (codes_in (drop p m) k) d ≡ d₁
  unfolding characters
  first-left m p zero d d₁ h g s e f = absurd (omega arith)
  first-left m p (suc zero) d d₁ h g s e f = ap (λ (cs : List ℕ). characters hidden source end a cs d) (codes-last m p h) ∙ sym e
  first-left m p (suc (suc k)) d d₁ h g s e f =
      let c = high (get_or m p 0) in
      let rest = low (get_or m p 0) ∷ codes_in (drop (suc p) m) k in
      ap (λ (cs : List ℕ). characters hidden source end a cs d) (codes-both m p h k)
      ∙ characters-dropped rest (character hidden source end a c d) (character-column c d s (f (omega arith))) ∙ sym e

-- without a list
pub each-plain : (n : ℕ) (m : List ℕ) (σ : CodeSettings) (source : Source) (end latch : ℕ) (cs : List ℕ) (d : Drawing)
    → d.pen.list.present ≡ false → d.pen.latch ≡ latch
    → run_from n m (each (examine σ source end) cs d) ≡ given n (characters σ.hidden source end latch cs d)
unfolding each characters
each-plain n m σ source end latch [] d h l = run-done _ _ _
each-plain n m σ source end latch (c ∷ cs) d h l =
    let k = character-list σ.hidden source end d.pen.latch c d in
    bind-given n m _ _ (examine-latch n m σ source end c d (rw (h, and-false (invokes σ.flag c))))
    ∙ each-plain n m σ source end latch cs _ (rw k.0 h) (k.1 ∙ l)
    ∙ rw l

-- two characters with room for both
pub pair_put : (hidden : Bool) (source : Source) (end a c₁ c₂ : ℕ) (p : Pen) (cs : List ℕ) → hidden || not (ignores a) ≡ true → end ≤ length cs
    → p.column + 2 ≤ end
    → character hidden source end a c₂ (character hidden source end a c₁ (so_far p cs))
    ≡ so_far (moved_to (p.column + 2) p) (set (set cs p.column (cell source a 0 + c₁)) (p.column + 1) (cell source a 0 + c₂))
pair_put hidden source end a c₁ c₂ p cs s l r =
    let cs₁ = set cs p.column (cell source a 0 + c₁) in
    let p₁ = moved_to (p.column + 1) p in
    let len : length cs₁ ≡ length cs = length-set cs p.column (cell source a 0 + c₁) in
    let one = in-force-put hidden source end a c₁ p cs l (rw s (omega arith)) in
    let two = in-force-put hidden source end a c₂ p₁ cs₁ (omega (arith, len)) (rw s (omega arith)) in
    let sum : p.column + 1 + 1 ≡ p.column + 2 = omega arith in
    ap (character hidden source end a c₂) (sym one) ∙ sym two
    ∙ ap (λ (c : ℕ). so_far (moved_to c p) (set cs₁ (p.column + 1) (cell source a 0 + c₂))) sum
