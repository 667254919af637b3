-- Laws of a pool stream that is written, entry by entry, and of what a writer answers and leaves.
use mathlib.Core.Path.{◌≡◌, refl, sym, ap, ap₂, ◌∙◌}
use Prim.Native.Nat.{ℕ, ◌+◌, ◌*◌, ◌≤◌, ◌<◌}
use native.Mathlib.Omega.{arith}
use mathlib.Core.Bool.{Bool, true, false}
use mathlib.Core.List.{List, [], ◌∷◌, ◌++◌, map, append_assoc, append-nil}
use lib.ListN.{length, take, drop, length-append, length-drop}
use lib.Seq.{length-take-le}
use Rattle.std.proofs.lemmas.List.{take-append-drop}
use Rattle.std.proofs.lemmas.List.Sums.{sum_by-cons}
use Rattle.std.specs.List.{sum, zip}
use borrow.Author.Tests.{lt-ltb, le-ltb}
use Rattle.common.specs.Choice.{when◌then◌else◌}
use Rattle.common.specs.Lists.{◌over◌, over_at, joined, total}
use Rattle.common.specs.Answers.{Answer, gives, refused, nowhere, outcome, written_to}
use Rattle.common.proofs.Parts.{over_next, length-over_at}
use Rattle.little_endian.specs.Numbers.{bytes_of, put_outcome}
use Rattle.little_endian.proofs.Laws.{written}
use Rattle.pool_entries.specs.Entries.{Entry, Rooms, cut}
use Rattle.pool_entries.specs.inner.Fit.{Fit}
use Rattle.pool_stream.specs.Entries.{short_of, wide, entry_bytes, mark_of, stream_bytes}
use Rattle.pool_stream.specs.inner.Write.{entries_bytes, stream_by}

-- by whether the 4-byte length follows
abbrev By : ℕ → ℕ → Bool → List ℕ
By l c b = bytes_of 2 (short_of l) ++ bytes_of 2 c ++ (when b then bytes_of 4 l else [])

pub is-narrow : (l c : ℕ) → wide l c ≡ false → entry_bytes l c ≡ bytes_of 2 (short_of l) ++ bytes_of 2 c
unfolding entry_bytes
is-narrow l c e = ap (By l c) e ∙ append-nil (bytes_of 2 (short_of l) ++ bytes_of 2 c)

pub is_wide : (l c : ℕ) → wide l c ≡ true → entry_bytes l c ≡ bytes_of 2 (short_of l) ++ bytes_of 2 c ++ bytes_of 4 l
unfolding entry_bytes
is_wide l c e = ap (By l c) e

pub length-narrow : (l c : ℕ) → wide l c ≡ false → length (entry_bytes l c) ≡ 4
length-narrow l c e = ap length (is-narrow l c e)

pub length-wide : (l c : ℕ) → wide l c ≡ true → length (entry_bytes l c) ≡ 8
length-wide l c e = ap length (is_wide l c e)

pub length-entry : (l c : ℕ) → (4 ≤ length (entry_bytes l c)) × (length (entry_bytes l c) ≤ 8)
length-entry l c = go (wide l c) refl
  where
    go : (b : Bool) → wide l c ≡ b → (4 ≤ length (entry_bytes l c)) × (length (entry_bytes l c) ≤ 8)
    go true e = omega (arith, length-wide l c e)
    go false e = omega (arith, length-narrow l c e)

-- what `write` leaves where the bytes have room
pub wrote : {a : Answer ℕ} {left : List ℕ} (n width : ℕ) (out : List ℕ) (at : ℕ) → at + width ≤ length out
    → (a, left) ≡ put_outcome n width out at → left ≡ over_at at (bytes_of width n) out
wrote n width out at h e = ap (λ (x : _). x.1) (e ∙ sym (written n width out at _ h refl))

-- the two or three writes of an entry
module _ (l c at : ℕ) (out o₁ o₂ : List ℕ) (room : at + 4 ≤ length out)
    (e₁ : o₁ ≡ over_at at (bytes_of 2 (short_of l)) out) (e₂ : o₂ ≡ over_at (at + 2) (bytes_of 2 c) o₁) where
  two-writes : o₂ ≡ over_at at (bytes_of 2 (short_of l) ++ bytes_of 2 c) out
  two-writes = e₂ ∙ ap (over_at (at + 2) (bytes_of 2 c)) e₁ ∙ over_next (bytes_of 2 (short_of l)) (bytes_of 2 c) out at 2 (omega arith) refl

  pub wrote_narrow : wide l c ≡ false → o₂ ≡ over_at at (entry_bytes l c) out
  wrote_narrow w = two-writes ∙ ap (λ (x : List ℕ). over_at at x out) (sym (is-narrow l c w))

  pub wrote_wide : wide l c ≡ true → (o₃ : List ℕ) → o₃ ≡ over_at (at + 4) (bytes_of 4 l) o₂ → o₃ ≡ over_at at (entry_bytes l c) out
  wrote_wide w o₃ e₃ =
      e₃ ∙ ap (over_at (at + 4) (bytes_of 4 l)) two-writes
      ∙ over_next (bytes_of 2 (short_of l) ++ bytes_of 2 c) (bytes_of 4 l) out at 4 (omega arith) refl
      ∙ ap (λ (x : List ℕ). over_at at x out) (sym (is_wide l c w))

-- ---- entry after entry

-- of all bytes these are written from the output's byte 4 on, and the rest is to come
pub record Through (all rest d out : List ℕ) (at : ℕ) : Type 0 where
  pub done : List ℕ
  pub whole : done ++ rest ≡ all
  pub place : at ≡ 4 + length done
  pub left : out ≡ over_at 4 done d

pub through-none : (all d : List ℕ) → Through all all d d 4
through-none all d = record { done = []; whole = refl; place = refl; left = sym (take-append-drop 4 d) }

-- an entry has room, and is written
module _ {all rest d out : List ℕ} {at : ℕ} (t : Through all rest d out at) (room : 4 + length all ≤ length d) (x more : List ℕ) (e : rest ≡ x ++ more) where
  size-is : length t.done + length x + length more ≡ length all
  size-is = omega (arith, ap length t.whole, length-append t.done rest, ap length e, length-append x more)

  pub through-size : length out ≡ length d
  through-size = ap length t.left ∙ length-over_at 4 t.done d (omega (arith, size-is))

  pub through-room : at + length x ≤ length out
  through-room = omega (arith, size-is, through-size, t.place)

  pub through-next : {new : List ℕ} {n : ℕ} → n ≡ length x → new ≡ over_at at x out → Through all more d new (at + n)
  through-next {new} {n} f g = record {
    done = t.done ++ x;
    whole = append_assoc t.done x more ∙ ap (λ (y : List ℕ). t.done ++ y) (sym e) ∙ t.whole;
    place = omega (arith, f, t.place, length-append t.done x);
    left = g ∙ ap₂ (λ (k : ℕ) (o : List ℕ). over_at k x o) t.place t.left ∙ over_next t.done x d 4 (length t.done) (omega (arith, size-is)) refl;
  }

pub through-all : {all rest d out : List ℕ} {at : ℕ} → Through all rest d out at → rest ≡ [] → out ≡ over_at 4 all d
through-all {d = d} t e =
    t.left ∙ ap (λ (y : List ℕ). over_at 4 y d) (sym (append-nil t.done) ∙ ap (λ (y : List ℕ). t.done ++ y) (sym e) ∙ t.whole)

-- with no length or no count left no entry is
pub none-left : (ls cs : List ℕ) → length ls ≡ 0 → entries_bytes ls cs ≡ []
none-left [] cs e = refl
none-left (l ∷ ls) cs e = absurd (omega arith)

pub none-counted : (ls cs : List ℕ) → length cs ≡ 0 → entries_bytes ls cs ≡ []
none-counted [] cs e = refl
none-counted (l ∷ ls) [] e = refl
none-counted (l ∷ ls) (c ∷ cs) e = absurd (omega arith)

-- the sizes of the entries, summed
pub sizes-sum : (ls cs : List ℕ) → sum (map (λ (p : ℕ × ℕ). length (entry_bytes p.0 p.1)) (zip ls cs)) ≡ length (entries_bytes ls cs)
sizes-sum [] cs = refl
sizes-sum (l ∷ ls) [] = refl
sizes-sum (l ∷ ls) (c ∷ cs) =
    sum_by-cons (λ (n : ℕ). n) (length (entry_bytes l c)) (map (λ (p : ℕ × ℕ). length (entry_bytes p.0 p.1)) (zip ls cs))
    ∙ ap (λ (n : ℕ). length (entry_bytes l c) + n) (sizes-sum ls cs) ∙ sym (length-append (entry_bytes l c) (entries_bytes ls cs))

pub length-few : (ls cs : List ℕ) → length (entries_bytes ls cs) ≤ 8 * length ls
length-few [] cs = omega arith
length-few (l ∷ ls) [] = omega arith
length-few (l ∷ ls) (c ∷ cs) = omega (arith, length-append (entry_bytes l c) (entries_bytes ls cs), (length-entry l c).1, length-few ls cs)

-- ---- what a writer answers

pub write_short : (s out : List ℕ) → length out < length s → (refused 7 nowhere, out) ≡ outcome out (written_to out s)
write_short s out h = sym (ap (λ (b : Bool). outcome out (when b then refused 7 nowhere else gives (length s, s over out))) (lt-ltb (length out) (length s) h))

pub write_done : (s out : List ℕ) (n : ℕ) (left : List ℕ) → length s ≤ length out → n ≡ length s → left ≡ s over out
    → (gives n, left) ≡ outcome out (written_to out s)
write_done s out n left h e l =
    ap₂ (λ (i : ℕ) (o : List ℕ). (gives i, o)) e l
    ∙ sym (ap (λ (b : Bool). outcome out (when b then refused 7 nowhere else gives (length s, s over out))) (le-ltb (length out) (length s) h))

-- the mark, and the entries after it
pub marked : (m E out o₁ o₂ : List ℕ) → length m ≡ 4 → 4 ≤ length out → o₁ ≡ over_at 0 m out → o₂ ≡ over_at 4 E o₁ → o₂ ≡ (m ++ E) over out
marked m E out o₁ o₂ e h e₁ e₂ = e₂ ∙ ap (over_at 4 E) e₁ ∙ over_next m E out 0 4 (omega arith) e

-- ---- by the entries

entries-same : (ls cs ts : List ℕ) → total ls ≤ length ts → entries_bytes ls cs ≡ joined (map (λ (e : Entry). entry_bytes (length e.text) e.count) (cut ls cs ts))
entries-same [] cs ts h = refl
entries-same (l ∷ ls) [] ts h = refl
entries-same (l ∷ ls) (c ∷ cs) ts h =
    ap₂ (λ (i : ℕ) (y : List ℕ). entry_bytes i c ++ y) (sym (length-take-le l ts (omega arith))) (entries-same ls cs (drop l ts) (simp length-drop (omega arith)))

-- where the entries fit their rooms, a stream by lengths and counts is that of the entries
pub stream-same : (n : ℕ) (long : Bool) (codepage : ℕ) (w : Rooms) → Fit n w → stream_by (mark_of long codepage) n w.lengths w.counts ≡ stream_bytes n long codepage w
stream-same n long codepage w fit =
    ap (λ (x : List ℕ). bytes_of 4 (mark_of long codepage) ++ x) (entries-same (take n w.lengths) (take n w.counts) w.text fit.text)
