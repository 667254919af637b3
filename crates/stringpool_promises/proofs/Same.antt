-- A stream that was read is written back identically exactly when nothing in it is written otherwise.
use mathlib.Core.Path.{◌≡◌, refl, sym, ap, ap₂, subst, ◌∙◌}
use Prim.Native.Nat.{ℕ, zero, suc, ◌+◌, ◌*◌, ◌%◌, ◌≤◌, ◌<◌}
use native.Mathlib.Omega.{arith}
use mathlib.Core.Bool.{Bool, true, false, ◌&&◌}
use mathlib.Core.List.{List, ◌∷◌, ◌++◌}
use mathlib.Core.Logic.{◌↔◌, ◌⊎◌, inl, inr, ⊎_elim}
use lib.Dec.{ltb, leb, eqb}
use lib.ListN.{length, take, drop, length-drop, length-append, take-append-drop}
use lib.Seq.{length-take-le, take_all, take_at, take-add}
use borrow.Author.Tests.{leb-true, leb-false, lt-ltb, le-ltb, le-leb, eqb-true, eq-eqb, ne_eqb}
use Rattle.common.proofs.Lists.{no_length}
use Rattle.common.specs.Choice.{when◌then◌else◌}
use Rattle.common.specs.Lists.{◌over◌, total}
use Rattle.common.specs.Answers.{Answer, gives}
use Rattle.little_endian.specs.Numbers.{bytes_of, number_at}
use Rattle.little_endian.specs.Promises.{AreBytes}
use Rattle.little_endian.proofs.Laws.{write_back, number_lt}
use Rattle.stringpool.specs.Pool.{Rooms}
use Rattle.stringpool.specs.Load.{Found, one, ends, on_found, entries_in, pool_from_lem, load_outcome}
use Rattle.stringpool.specs.Write.{short_of, wide, entry_bytes, mark_of, pool_bytes, data_bytes}
use Rattle.pool_stream.specs.inner.Write.{entries_bytes, stream_by}
use Rattle.stringpool.specs.declared.pool.StringPool.{StringPool}
use Rattle.stringpool_promises.proofs.Sounds.{SoundFit}
use Rattle.pool_stream.proofs.Writing.{is-narrow, is_wide, length-narrow, length-wide}
use Rattle.stringpool.proofs.Streams.{data_same}
use Rattle.pool_stream.proofs.Writing.{stream-same}
use Rattle.stringpool_promises.specs.Promises.{SoundState, add_found, add_in, stray, short_wide, Plain, Writes, SamePoolStream, SameDataStream}
use Rattle.stringpool_promises.proofs.Loading.{loads_sound, View, at_end, is_cut, narrow, broad, view, refused-gives, given, gave, IsLoaded, is-loaded, bytes_drop, lengths-in, counts-in, loaded-fits}
use Rattle.stringpool_promises.proofs.Back.{writes}

-- ---- one entry

-- two numbers of two bytes are the four bytes that they were read from
four : (s : List ℕ) → AreBytes s → 4 ≤ length s → bytes_of 2 (number_at 2 s 0) ++ bytes_of 2 (number_at 2 s 2) ≡ take 4 s
four s b h = ap₂ (λ (x y : List ℕ). x ++ y) (write_back 2 s 0 b (omega arith)) (write_back 2 s 2 b (omega arith)) ∙ sym (take-add 2 2 s)

eight : (s : List ℕ) → AreBytes s → 8 ≤ length s → bytes_of 2 (number_at 2 s 0) ++ bytes_of 2 (number_at 2 s 2) ++ bytes_of 4 (number_at 4 s 4) ≡ take 8 s
eight s b h = ap₂ (λ (x y : List ℕ). x ++ y) (four s b (omega arith)) (write_back 4 s 4 b (omega arith)) ∙ sym (take-add 4 4 s)

-- a length of two bytes stays one, and nothing follows it
narrow-is : (s : List ℕ) → AreBytes s → (number_at 2 s 0 ≡ 0 → number_at 2 s 2 ≡ 0)
    → (short_of (number_at 2 s 0) ≡ number_at 2 s 0) × (wide (number_at 2 s 0) (number_at 2 s 2) ≡ false)
narrow-is s b z =
    let l : ℕ = number_at 2 s 0 in
    let c : ℕ = number_at 2 s 2 in
    let e : short_of l ≡ l = ap (λ (t : Bool). when t then l else 0) (le-leb l 65535 (omega (arith, number_lt 2 s 0 b))) in
    (e, ap (λ (x : ℕ). eqb x 0 && ltb 0 c) e ∙ go (eqb l 0) refl)
  where
    go : (t : Bool) → eqb (number_at 2 s 0) 0 ≡ t → (t && ltb 0 (number_at 2 s 2)) ≡ false
    go true f = le-ltb 0 (number_at 2 s 2) (omega (arith, z (eqb-true (number_at 2 s 0) 0 f)))
    go false f = refl

-- a 4-byte length that is 0 or above 65,535 is written so again; one from 1 to 65,535 takes four bytes less
module _ (l c : ℕ) (h : 0 < c) where
  stays : short_of l ≡ 0 → wide l c ≡ true
  stays e = ap₂ (λ (x y : Bool). x && y) (eq-eqb (short_of l) 0 e) (lt-ltb 0 c h)

  pub broad_cases : ((short_wide (one l c true 8) ≡ 0) × (short_of l ≡ 0)) ⊎ ((short_wide (one l c true 8) ≡ 1) × (wide l c ≡ false))
  broad_cases = go (leb 1 l) (leb l 65535) refl refl
    where
      go : (a b : Bool) → leb 1 l ≡ a → leb l 65535 ≡ b
          → ((◌≡◌ {A = ℕ} (when a && b then 1 else 0) 0) × ((when b then l else 0) ≡ 0)) ⊎ ((◌≡◌ {A = ℕ} (when a && b then 1 else 0) 1) × ((eqb (when b then l else 0) 0 && ltb 0 c) ≡ false))
      go true true e f = inr (refl, ap (λ (t : Bool). t && ltb 0 c) (ne_eqb l 0 (λ q. omega (arith, leb-true 1 l e))))
      go true false e f = inl (refl, refl)
      go false true e f = inl (refl, omega (arith, leb-false 1 l e))
      go false false e f = inl (refl, refl)

-- ---- all entries

abbrev Sum : ℕ → List ℕ → List ℕ → List ℕ → Type 0
Sum f s ls cs = length (entries_bytes ls cs) + add_in stray f s + 4 * add_in short_wide f s ≡ length s

abbrev Same : ℕ → List ℕ → List ℕ → List ℕ → Type 0
Same f s ls cs = add_in stray f s ≡ 0 → add_in short_wide f s ≡ 0 → entries_bytes ls cs ≡ s

pub record Written (f : ℕ) (s : List ℕ) (x : List ℕ × List ℕ) : Type 0 where
  pub sum : Sum f s x.0 x.1
  pub same : Same f s x.0 x.1

-- what is written for an entry that takes k bytes, where the rest is known
module _ (f : ℕ) (s : List ℕ) (l c : ℕ) (t : Bool) (k : ℕ) (hk : k ≤ length s) (ls cs : List ℕ) (ih : Written f (drop k s) (ls, cs)) where
  join : length (entry_bytes l c) + 4 * short_wide (one l c t k) ≡ k → (short_wide (one l c t k) ≡ 0 → entry_bytes l c ≡ take k s)
      → (length (entries_bytes (l ∷ ls) (c ∷ cs)) + (stray (one l c t k) + add_in stray f (drop k s)) + 4 * (short_wide (one l c t k) + add_in short_wide f (drop k s)) ≡ length s)
      × ((stray (one l c t k) + add_in stray f (drop k s)) ≡ 0 → (short_wide (one l c t k) + add_in short_wide f (drop k s)) ≡ 0 → entries_bytes (l ∷ ls) (c ∷ cs) ≡ s)
  join n e = (
    omega (arith, n, ih.sum, length-append (entry_bytes l c) (entries_bytes ls cs), length-drop k s),
    λ a b. ap₂ (λ (x y : List ℕ). x ++ y) (e (omega arith)) (ih.same (omega arith) (omega arith)) ∙ take-append-drop k s,
  )

abbrev WrittenFound : ℕ → List ℕ → Found → List ℕ × List ℕ → Type 0
WrittenFound f s v x =
    (length (entries_bytes x.0 x.1) + add_found stray v (λ k. add_in stray f (drop k s)) + 4 * add_found short_wide v (λ k. add_in short_wide f (drop k s)) ≡ length s)
    × (add_found stray v (λ k. add_in stray f (drop k s)) ≡ 0 → add_found short_wide v (λ k. add_in short_wide f (drop k s)) ≡ 0 → entries_bytes x.0 x.1 ≡ s)

by_view : (f : ℕ) (s : List ℕ) → AreBytes s → ((k : ℕ) (y : List ℕ × List ℕ) → entries_in f (drop k s) ≡ gives y → Written f (drop k s) y)
    → {v : Found} → View s v → (x : List ℕ × List ℕ) → on_found v (λ k. entries_in f (drop k s)) ≡ gives x → WrittenFound f s v x
by_view f s b ih (at_end h) x q =
    subst (WrittenFound f s (ends (length s))) (ap (given x) q) (omega arith, λ e g. sym (no_length s (omega arith)))
by_view f s b ih is_cut x q = absurd (refused-gives q)
by_view f s b ih (narrow h z) x q =
    let l : ℕ = number_at 2 s 0 in
    let c : ℕ = number_at 2 s 2 in
    let g = gave (entries_in f (drop 4 s)) (λ y. gives (l ∷ y.0, c ∷ y.1)) x q in
    let e = narrow-is s b z in
    subst (WrittenFound f s (one l c false 4)) (ap (given x) g.then')
    (join f s l c false 4 h g.first.0 g.first.1 (ih 4 g.first g.is) (omega (arith, length-narrow l c e.1))
    (λ _. is-narrow l c e.1 ∙ ap (λ (i : ℕ). bytes_of 2 i ++ bytes_of 2 c) e.0 ∙ four s b h))
by_view f s b ih (broad h z hc) x q =
    let l : ℕ = number_at 4 s 4 in
    let c : ℕ = number_at 2 s 2 in
    let g = gave (entries_in f (drop 8 s)) (λ y. gives (l ∷ y.0, c ∷ y.1)) x q in
    let i = ih 8 g.first g.is in
    subst (WrittenFound f s (one l c true 8)) (ap (given x) g.then')
    (⊎_elim
    (λ k. join f s l c true 8 h g.first.0 g.first.1 i (omega (arith, k.0, length-wide l c (stays l c hc k.1)))
    (λ _. is_wide l c (stays l c hc k.1) ∙ ap (λ (j : ℕ). bytes_of 2 j ++ bytes_of 2 c ++ bytes_of 4 l) (k.1 ∙ sym z) ∙ eight s b h))
    (λ k. join f s l c true 8 h g.first.0 g.first.1 i (omega (arith, k.0, length-narrow l c k.1)) (λ y. absurd (omega (arith, k.0))))
    (broad_cases l c hc))

pub written : (f : ℕ) (s : List ℕ) → AreBytes s → (x : List ℕ × List ℕ) → entries_in f s ≡ gives x → Written f s x
written zero s b x e = absurd (refused-gives e)
written (suc f) s b x e =
    let w = by_view f s b (λ k y q. written f (drop k s) (bytes_drop k s b) y q) (view s) x e in
    record { sum = w.0; same = w.1 }

-- ---- the whole stream

module _ (s d : List ℕ) (w v : Rooms) (p : StringPool) (out : List ℕ) (b : AreBytes s) (e : load_outcome s d w ≡ (gives p, v)) where
  l : IsLoaded s d w p v
  l = is-loaded s d w p v e

  fit : SoundFit p v
  fit = (loaded-fits s d w p v b l).0

  state : SoundState (record { pool = p; rooms = v })
  state = loads_sound s d w p v b e

  abbrev Mark : ℕ
  Mark = let q = pool_from_lem s (length l.ls) in mark_of q.long_string_refs q.codepage

  -- the mark is written back
  mark_same : bytes_of 4 Mark ≡ take 4 s
  mark_same = ap (bytes_of 4) (go (leb 2147483648 (number_at 4 s 0)) refl) ∙ write_back 4 s 0 b l.marked
    where
      go : (t : Bool) → leb 2147483648 (number_at 4 s 0) ≡ t → number_at 4 s 0 % 2147483648 + (when t then 2147483648 else 0) ≡ number_at 4 s 0
      go true f = omega (arith, leb-true 2147483648 (number_at 4 s 0) f, number_lt 4 s 0 b)
      go false f = omega (arith, leb-false 2147483648 (number_at 4 s 0) f)

  pool-is : pool_bytes p v ≡ take 4 s ++ entries_bytes l.ls l.cs
  pool-is =
      sym (stream-same p.num_strings p.long_string_refs p.codepage v fit.fit)
      ∙ ap₂ (λ (q : StringPool) (r : Rooms). stream_by (mark_of q.long_string_refs q.codepage) q.num_strings r.lengths r.counts) l.pool l.left
      ∙ ap₂ (λ (x y : List ℕ). bytes_of 4 Mark ++ entries_bytes x y) (lengths-in s d w p v b l) (counts-in s d w p v b l)
      ∙ ap (λ (x : List ℕ). x ++ entries_bytes l.ls l.cs) mark_same

  all-written : Written (length s) (drop 4 s) (l.ls, l.cs)
  all-written = written (length s) (drop 4 s) (bytes_drop 4 s b) (l.ls, l.cs) l.entries

  -- bytes written over an output that equal others written over it are as many, and the same
  same_over : (x y : List ℕ) → length y ≤ length out → ◌≡◌ {A = Answer ℕ × List ℕ} (gives (length x), x over out) (gives (length y), y over out) → x ≡ y
  same_over x y h q =
      let n : length x ≡ length y = ap (λ (o : Answer ℕ × List ℕ). given 0 o.0) q in
      sym (take_at x (drop (length x) out) (length x) refl)
      ∙ ap₂ take n (ap (λ (o : Answer ℕ × List ℕ). o.1) q)
      ∙ take_at y (drop (length y) out) (length y) refl

  -- 01's "written back identically" is that the bytes are the stream's
  module _ (x y : List ℕ) (room : length y ≤ length out) (fits : length x ≤ length out) where
    pub same_from : Writes p v x out y → x ≡ y
    same_from q = same_over x y room (sym (writes p v x out state fits) ∙ q)

    pub same_to : x ≡ y → Writes p v x out y
    same_to q = writes p v x out state fits ∙ ap (λ (z : List ℕ). (gives (length z), z over out)) q

  length-pool : length (pool_bytes p v) + add_in stray (length s) (drop 4 s) + 4 * add_in short_wide (length s) (drop 4 s) ≡ length s
  length-pool =
      omega (arith, ap length pool-is, length-append (take 4 s) (entries_bytes l.ls l.cs), length-take-le 4 s l.marked, all-written.sum, length-drop 4 s, l.marked)

  pub pool-stream : length s ≤ length out → Writes p v (pool_bytes p v) out s ↔ Plain s
  pool-stream room =
      let fits : length (pool_bytes p v) ≤ length out = omega (arith, length-pool) in (
        λ q. let n = ap length (same_from (pool_bytes p v) s room fits q) in (omega (arith, n, length-pool), omega (arith, n, length-pool)),
        λ q. same_to (pool_bytes p v) s room fits
            (pool-is ∙ ap (λ (z : List ℕ). take 4 s ++ z) (all-written.same q.0 q.1) ∙ take-append-drop 4 s),
      )

  -- the data stream
  data_is : data_bytes p v ≡ take (total l.ls) d
  data_is =
      sym (data_same p v fit.fit refl)
      ∙ ap₂ (λ (q : StringPool) (r : Rooms). take (total (take q.num_strings r.lengths)) r.text) l.pool l.left
      ∙ ap (λ (z : List ℕ). take (total z) (take (total l.ls) d over w.text)) (lengths-in s d w p v b l)
      ∙ take_at (take (total l.ls) d) (drop (length (take (total l.ls) d)) w.text) (total l.ls) (length-take-le (total l.ls) d l.in_data)

  used_is : total (take p.num_strings v.lengths) ≡ total l.ls
  used_is =
      ap₂ (λ (q : StringPool) (r : Rooms). total (take q.num_strings r.lengths)) l.pool l.left ∙ ap total (lengths-in s d w p v b l)

  pub data_stream : length d ≤ length out → Writes p v (data_bytes p v) out d ↔ (length d ≡ total (take p.num_strings v.lengths))
  data_stream room =
      let n : length (data_bytes p v) ≡ total l.ls = ap length data_is ∙ length-take-le (total l.ls) d l.in_data in
      let fits : length (data_bytes p v) ≤ length out = omega (arith, n, l.in_data) in (
        λ q. omega (arith, n, used_is, ap length (same_from (data_bytes p v) d room fits q)),
        λ q. same_to (data_bytes p v) d room fits (data_is ∙ take_all (total l.ls) d (omega (arith, q, used_is))),
      )

pub same_pool_stream : SamePoolStream
same_pool_stream s d w v p out b e room = pool-stream s d w v p out b e room

pub same_data_stream : SameDataStream
same_data_stream s d w v p out b e room = data_stream s d w v p out b e room
