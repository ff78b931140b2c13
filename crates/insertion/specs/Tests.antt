-- What an insertion asks for, as tests on the two memories that can be computed: they pass exactly where the hypotheses hold.
use Rattle.std.specs.Prelude.{ℕ, suc, ◌*◌, Bool, true, false, ◌&&◌, ◌||◌, not, List, [], ◌∷◌, length, eqb, leb, ltb}
use Rattle.std.proofs.Math.Option.{Option, none, some}
use Rattle.memory.specs.declared.Refusal.{Refusal}
use Rattle.memory.specs.Address.{null}
use Rattle.settings.specs.declared.Settings.{Settings}
use Rattle.start.specs.Top.{registered}
use Rattle.frame.specs.Frame.{frame}
use Rattle.insertion.specs.Followed.{states, main_of, pointer_in, times_followed, block_words, apart, all_apart, read_else, no_redefinition}
use Rattle.insertion.specs.Insertion.{changed}

unfoldable pub every : List Bool → Bool
every [] = true
every (b ∷ bs) = b && every bs

-- 16-bit words
unfoldable pub words_fit : List ℕ → Bool
words_fit [] = true
words_fit (w ∷ ws) = ltb w 65536 && words_fit ws

-- two memories, from word number k on: equal outside the words at some addresses
unfoldable pub same_from : List ℕ → ℕ → List ℕ → List ℕ → Bool
same_from bs k [] [] = true
same_from bs k [] (y ∷ ys) = false
same_from bs k (x ∷ xs) [] = false
same_from bs k (x ∷ xs) (y ∷ ys) = (not (apart bs (k * 2)) || eqb x y) && same_from bs (suc k) xs ys

abbrev pub is_accepted : Option Refusal → Bool
is_accepted none = true
is_accepted (some r) = false

-- of each frame: no redefinition; the changed words are read for nothing else; the link is followed at most once; not refused
abbrev pub frame_tests : ℕ → Settings → ℕ → List ℕ → ℕ → List ℕ → List Bool
frame_tests latch σ link changes size m =
    words_fit m ∷ no_redefinition σ m (states latch σ m) ∷ all_apart changes (read_else latch σ m link size)
    ∷ leb (times_followed link (main_of σ) (states latch σ m)) 1 ∷ is_accepted (frame latch σ m).refusal ∷ []

-- of both: no window, no cursor; the link, and that it is not null; the old link taken over; no other words differ
abbrev pub both_tests : Settings → ℕ → List ℕ → List ℕ → List Bool
both_tests σ link old new =
    let block = (pointer_in σ link new).address in
    null (registered σ.linear σ.tow) ∷ not σ.cursor ∷ not (eqb link 0) ∷ not (null (pointer_in σ link new))
    ∷ eqb (pointer_in σ block new).address (pointer_in σ link old).address ∷ same_from (changed σ link new) 0 old new ∷ []

unfoldable pub passes : ℕ → Settings → ℕ → List ℕ → List ℕ → Bool
passes latch σ link old new =
    every (both_tests σ link old new) && every (frame_tests latch σ link (changed σ link new) 0 old)
    && every (frame_tests latch σ link (changed σ link new) (length (block_words σ link new)) new)
