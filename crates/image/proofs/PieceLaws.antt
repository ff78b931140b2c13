-- The pieces of an image's script, each with what comes after it.
use Rattle.std.proofs.Common.{Some}
use mathlib.Core.Path.{◌≡◌, sym}
use mathlib.Core.List.{List, [], ◌++◌, append_assoc, append-nil}
use Prim.Native.Nat.{ℕ, ◌+◌, ◌<◌, ◌≤◌}
use native.Mathlib.Omega.{arith}
use native.Mathlib.Numerals.{add-one}
use lib.ListN.{length, get_or, take, drop, drop_of_length-le}
use lib.Seq.{drop-cons}
use borrow.Author.Tests.{eq-eqb, ne_eqb}
use Rattle.lines.specs.Lines.{Line}
use Rattle.lines.proofs.PieceLaws.{with-piece, last-piece}
use Rattle.image.specs.declared.Text.TheVariants.{Head, Words, Ended}
use Rattle.image.specs.Written.{head_text, word_record, value_text, values_text, draw_record, written}
use Rattle.image.specs.ToCome.{to_come, Next}

-- ---- values ----
module _ (record_of : ℕ → ℕ → List ℕ) where
  pub no_record : (before : List ℕ) (i v : ℕ) → v ≡ 0 → before ≡ before ++ value_text record_of i v
  no_record before i v e = rw (eq-eqb v 0 e) (sym (append-nil before))

  pub its-record : (i v : ℕ) → (v ≡ 0 → ⊥) → value_text record_of i v ≡ record_of i v
  its-record i v f = rw (ne_eqb v 0 f)

  -- value i, then those after it
  values-next : (vs : List ℕ) (i : ℕ) → i < length vs
      → values_text record_of i (drop i vs) ≡ value_text record_of i (get_or vs i 0) ++ values_text record_of (i + 1) (drop (i + 1) vs)
  unfolding values_text
  values-next vs i h = rw (drop-cons vs i 0 h, add-one i)

  -- a text that ends in the records from value i on, with that of value i written
  pub value-more : (vs whole out next : List ℕ) (i : ℕ) → i < length vs → out ++ values_text record_of i (drop i vs) ≡ whole
      → next ≡ out ++ value_text record_of i (get_or vs i 0) → next ++ values_text record_of (i + 1) (drop (i + 1) vs) ≡ whole
  value-more vs whole out next i h e n = rw (n, append_assoc, ← values-next vs i h) e

  -- past the last value there is none
  pub no-values : (vs : List ℕ) (i : ℕ) → length vs ≤ i → values_text record_of i (drop i vs) ≡ []
  unfolding values_text
  no-values vs i h = rw (drop_of_length-le vs h)

-- ---- pieces ----
module _ (rs m : List ℕ) where
  pub head-piece : (s n : ℕ) (buffer : List ℕ) → Line (head_text s rs) n buffer → Next rs m (Head s) (Some (record { count = n; after = Words 0 })) buffer
  unfolding to_come written
  head-piece s n buffer l = with-piece l (sym (append_assoc (head_text s rs) (values_text word_record 0 m) draw_record)) (omega arith)

  pub draw-piece : (from n : ℕ) (buffer : List ℕ) → length m ≤ from → Line draw_record n buffer → Next rs m (Words from) (Some (record { count = n; after = Ended })) buffer
  unfolding to_come
  draw-piece from n buffer h l = last-piece l (rw (no-values word_record m from h)) (omega arith)

  pub words-piece : (from end n : ℕ) (buffer : List ℕ) → n ≤ length buffer → n ≡ length (take n buffer) → from < end → end ≤ 16384
      → take n buffer ++ values_text word_record end (drop end m) ≡ values_text word_record from (drop from m)
      → Next rs m (Words from) (Some (record { count = n; after = Words end })) buffer
  unfolding to_come
  words-piece from end n buffer w s h g e = record { within = w; sized = s; bytes = rw (← append_assoc, e); fewer = omega arith }
