-- A written pool reads back as the same pool.
use mathlib.Core.Path.{◌≡◌, refl, sym, ap, ap₂, ◌∙◌}
use Prim.Native.Nat.{ℕ, zero, suc, ◌+◌, ◌*◌, ◌%◌, ◌≤◌, ◌<◌, ◌^◌}
use native.Mathlib.Omega.{arith}
use mathlib.Core.Bool.{Bool, true, false, not, ◌&&◌}
use mathlib.Core.List.{List, [], ◌∷◌, ◌++◌, append_assoc}
use lib.Dec.{ltb, leb, eqb}
use lib.ListN.{length, take, drop, get_or, length-append, length-take, get_or-eq_default}
use lib.Seq.{length-take-le, take_all, take_at, drop_at, get_or-take}
use borrow.Author.Tests.{ltb-true, ltb-false, leb-true, le-ltb, le-leb, lt-leb, eqb-true, eq-eqb}
use Rattle.common.specs.Choice.{when◌then◌else◌}
use Rattle.common.specs.Lists.{◌over◌, total}
use Rattle.common.specs.Answers.{Answer, gives, refused, nowhere, outcome, on_given, written_to}
use Rattle.little_endian.specs.Numbers.{bytes_of, number_at}
use Rattle.little_endian.proofs.Laws.{read_back, number_past}
use Rattle.stringpool.specs.Pool.{Entry, Rooms, rooms, cut, entries_of, entry_room_lem}
use Rattle.stringpool.specs.Load.{Found, one, ends, entry_in, with_entry, on_found, entries_in, pool_entries_lem, pool_from_lem, load_plan, load_entries, load_outcome}
use Rattle.stringpool.specs.Load as load
use Rattle.stringpool.specs.Write.{short_of, wide, entry_bytes, mark_of, pool_bytes, data_bytes, write_outcome}
use Rattle.pool_entries.specs.inner.Sound.{small_b, all_small_lem}
use Rattle.stringpool.specs.inner.Entries.{lengths_of, counts_of}
use Rattle.pool_stream.specs.inner.Write.{entries_bytes, stream_by}
use Rattle.stringpool.specs.declared.pool.StringPool.{StringPool}
use Rattle.stringpool.proofs.Entries.{both, lengths-cut, counts-cut, texts-cut}
use Rattle.pool_entries.proofs.Sound.{then_second}
use Rattle.common.proofs.Bools.{clash, both_true}
use Rattle.pool_stream.proofs.Writing.{is-narrow, is_wide, length-narrow, length-wide, length-entry, write_done}
use Rattle.pool_stream.proofs.Writing.{stream-same}
use Rattle.stringpool_promises.specs.Promises.{SoundState, Counts16, ReadsBack, Writes}
use Rattle.order.specs.Order.{load_fits_lem}
use Rattle.order.proofs.Laws.{streams_do}
use Rattle.stringpool_promises.proofs.Lists.{cut-texts}
use Rattle.stringpool_promises.proofs.Sounds.{SoundFit, sound-fits}

-- ---- one entry

-- an entry that a pool stream can hold
pub record Holds (l c : ℕ) : Type 0 where
  pub long : l < 4294967296
  pub counted : c < 65536
  pub small : c ≡ 0 → l ≤ 65535

-- by its tests
abbrev By : List ℕ → Bool → Bool → Found
By s w d = when w then (when d then load.cut else one (number_at 4 s 4) (number_at 2 s 2) true 8) else one (number_at 2 s 0) (number_at 2 s 2) false 4

module _ (s : List ℕ) (h : 4 ≤ length s) where
  past : entry_in s ≡ By s (eqb (number_at 2 s 0) 0 && ltb 0 (number_at 2 s 2)) (ltb (length s) 8)
  past =
      ap₂ (λ (a b : Bool). when a then ends (length s) else when b then load.cut else By s (eqb (number_at 2 s 0) 0 && ltb 0 (number_at 2 s 2)) (ltb (length s) 8))
      (le-ltb (length s) 2 (omega arith)) (le-ltb (length s) 4 h)

-- the numbers at the front of an entry's bytes
module _ (x c : ℕ) (r : List ℕ) (hx : x < 65536) (hc : c < 65536) where
  first_number : number_at 2 (bytes_of 2 x ++ bytes_of 2 c ++ r) 0 ≡ x
  first_number = read_back 2 x (bytes_of 2 c ++ r) hx

  second_number : number_at 2 (bytes_of 2 x ++ bytes_of 2 c ++ r) 2 ≡ c
  second_number = number_past 2 (bytes_of 2 x) (bytes_of 2 c ++ r) 0 2 refl ∙ read_back 2 c r hc

-- an entry's bytes are read as that entry
read_narrow : (l c : ℕ) (r : List ℕ) → Holds l c → wide l c ≡ false → entry_in (entry_bytes l c ++ r) ≡ one l c false 4
read_narrow l c r h w =
    let short : l ≤ 65535 = go (leb l 65535) refl w in
    let fits : short_of l ≡ l = ap (λ (b : Bool). when b then l else 0) (le-leb l 65535 short) in
    let s : List ℕ = bytes_of 2 l ++ bytes_of 2 c ++ r in
    let e : entry_bytes l c ++ r ≡ s = ap (λ (x : List ℕ). x ++ r) (is-narrow l c w) ∙ ap (λ (x : ℕ). bytes_of 2 x ++ bytes_of 2 c ++ r) fits in
    let a : number_at 2 s 0 ≡ l = first_number l c r (omega arith) h.counted in
    let b : number_at 2 s 2 ≡ c = second_number l c r (omega arith) h.counted in
    let t : (eqb (number_at 2 s 0) 0 && ltb 0 (number_at 2 s 2)) ≡ false =
    ap₂ (λ (x y : ℕ). eqb x 0 && ltb 0 y) a b ∙ sym (ap (λ (x : ℕ). eqb x 0 && ltb 0 c) fits) ∙ w in
    ap entry_in e ∙ past s (omega arith) ∙ ap (λ (x : Bool). By s x (ltb (length s) 8)) t ∙ ap₂ (λ (x y : ℕ). one x y false 4) a b
  where
    free : (b : Bool) → ltb 0 c ≡ b → b ≡ false → l ≤ 65535
    free true f g = clash (cc)
    free false f g = h.small (omega (arith, ltb-false 0 c f))

    go : (b : Bool) → leb l 65535 ≡ b → (eqb (when b then l else 0) 0 && ltb 0 c) ≡ false → l ≤ 65535
    go true f g = leb-true l 65535 f
    go false f g = free (ltb 0 c) refl g

read_wide : (l c : ℕ) (r : List ℕ) → Holds l c → wide l c ≡ true → entry_in (entry_bytes l c ++ r) ≡ one l c true 8
read_wide l c r h w =
    let q = both_true (eqb (short_of l) 0) (ltb 0 c) w in
    let none : short_of l ≡ 0 = eqb-true (short_of l) 0 q.0 in
    let s : List ℕ = bytes_of 2 0 ++ bytes_of 2 c ++ (bytes_of 4 l ++ r) in
    let e : entry_bytes l c ++ r ≡ s =
    ap (λ (x : List ℕ). x ++ r) (is_wide l c w) ∙ append_assoc (bytes_of 2 (short_of l) ++ bytes_of 2 c) (bytes_of 4 l) r ∙ ap (λ (x : ℕ). bytes_of 2 x ++ bytes_of 2 c ++ (bytes_of 4 l ++ r)) none in
    let a : number_at 2 s 0 ≡ 0 = first_number 0 c (bytes_of 4 l ++ r) (omega arith) h.counted in
    let b : number_at 2 s 2 ≡ c = second_number 0 c (bytes_of 4 l ++ r) (omega arith) h.counted in
    let d : number_at 4 s 4 ≡ l = number_past 4 (bytes_of 2 0 ++ bytes_of 2 c) (bytes_of 4 l ++ r) 0 4 refl ∙ read_back 4 l r h.long in
    let t : (eqb (number_at 2 s 0) 0 && ltb 0 (number_at 2 s 2)) ≡ true = ap₂ (λ (x y : ℕ). eqb x 0 && ltb 0 y) a b ∙ q.1 in
    ap entry_in e ∙ past s (omega arith) ∙ ap₂ (λ (x y : Bool). By s x y) t (le-ltb (length s) 8 (omega arith)) ∙ ap₂ (λ (x y : ℕ). one x y true 8) d b

-- ---- all entries

pub data AllHold : List ℕ → List ℕ → Type 0 where
  none : AllHold [] []
  more : {l c : ℕ} {ls cs : List ℕ} → Holds l c → AllHold ls cs → AllHold (l ∷ ls) (c ∷ cs)

pub read_entries : (f : ℕ) {ls cs : List ℕ} → AllHold ls cs → length ls < f → entries_in f (entries_bytes ls cs) ≡ gives (ls, cs)
read_entries zero a h = absurd (omega arith)
read_entries (suc f) none h = refl
read_entries (suc f) (more {l} {c} {ls} {cs} q a) h = go (wide l c) refl (read_entries f a (omega arith))
  where
    rest : entries_in f (entries_bytes ls cs) ≡ gives (ls, cs) → (k : ℕ) → length (entry_bytes l c) ≡ k → entries_in f (drop k (entry_bytes l c ++ entries_bytes ls cs)) ≡ gives (ls, cs)
    rest ih k e = ap (entries_in f) (drop_at (entry_bytes l c) (entries_bytes ls cs) k e) ∙ ih

    step : entries_in f (entries_bytes ls cs) ≡ gives (ls, cs) → (b : Bool) (k : ℕ) → entry_in (entry_bytes l c ++ entries_bytes ls cs) ≡ one l c b k → length (entry_bytes l c) ≡ k
        → entries_in (suc f) (entry_bytes l c ++ entries_bytes ls cs) ≡ gives (l ∷ ls, c ∷ cs)
    step ih b k e n =
        ap (λ (x : Found). on_found x (λ size. entries_in f (drop size (entry_bytes l c ++ entries_bytes ls cs)))) e
        ∙ ap (with_entry l c) (rest ih k n)

    go : (b : Bool) → wide l c ≡ b → entries_in f (entries_bytes ls cs) ≡ gives (ls, cs) → entries_in (suc f) (entry_bytes l c ++ entries_bytes ls cs) ≡ gives (l ∷ ls, c ∷ cs)
    go true w ih = step ih true 8 (read_wide l c (entries_bytes ls cs) q w) (length-wide l c w)
    go false w ih = step ih false 4 (read_narrow l c (entries_bytes ls cs) q w) (length-narrow l c w)

pub between : {ls cs : List ℕ} → AllHold ls cs → (4 * length ls ≤ length (entries_bytes ls cs)) × (length (entries_bytes ls cs) ≤ 8 * length ls)
between none = (omega arith, omega arith)
between (more {l} {c} {ls} {cs} q a) =
    let b = between a in
    let n = length-append (entry_bytes l c) (entries_bytes ls cs) in
    let k = length-entry l c in
    (omega arith, omega arith)

-- ---- the entries of a sound pool are such

small_is : (l c : ℕ) → small_b l c ≡ true → c ≡ 0 → l ≤ 65535
small_is l c e z = leb-true l 65535 (sym (ap (λ (b : Bool). when b then leb l 65535 else true) (eq-eqb c 0 z)) ∙ e)

all_hold : (ls cs : List ℕ) → length ls ≡ length cs → total ls ≤ 268435455 → ((i : ℕ) → get_or cs i 0 < 65536) → all_small_lem ls cs ≡ true → AllHold ls cs
all_hold [] [] e t c s = none
all_hold [] (y ∷ cs) e t c s = absurd (omega arith)
all_hold (x ∷ ls) [] e t c s = absurd (omega arith)
all_hold (x ∷ ls) (y ∷ cs) e t c s =
    let q = then_second (small_b x y) (all_small_lem ls cs) s in
    more {l = x} {c = y} (record { long = omega arith; counted = c 0; small = small_is x y q.0 }) (all_hold ls cs (omega arith) (omega arith) (λ i. c (suc i)) q.1)

get_or-taken : (n : ℕ) (cs : List ℕ) (i : ℕ) → ((j : ℕ) → get_or cs j 0 < 65536) → get_or (take n cs) i 0 < 65536
get_or-taken n cs i h = go (ltb i n) refl
  where
    go : (b : Bool) → ltb i n ≡ b → get_or (take n cs) i 0 < 65536
    go true e = rw (get_or-take n cs i 0 (ltb-true i n e)) (h i)
    go false e =
        let past : length (take n cs) ≤ i = omega (arith, ltb-false i n e, length-take n cs) in
        rw (get_or-eq_default (take n cs) 0 past) (omega arith)

module _ (p : StringPool) (w : Rooms) (f : SoundFit p w) (size : length w.text ≤ 268435455) (counts : Counts16 w) where
  abbrev n : ℕ
  n = p.num_strings

  abbrev L : List ℕ
  L = take n w.lengths

  abbrev C : List ℕ
  C = take n w.counts

  pub held : AllHold L C
  held = all_hold L C (both n w f.fit) (omega (arith, f.fit.text)) (λ i. get_or-taken n w.counts i counts) f.small

  many : length L ≡ n
  many = length-take-le n w.lengths f.fit.lengths

  -- the streams, by the lengths and counts
  abbrev S : List ℕ
  S = stream_by (mark_of p.long_string_refs p.codepage) n w.lengths w.counts

  abbrev D : List ℕ
  D = data_bytes p w

  length-S : length S ≡ 4 + length (entries_bytes L C)
  length-S = omega arith

  length-D : length D ≡ total L
  length-D = ap length (texts-cut L C w.text (both n w f.fit)) ∙ length-take-le (total L) w.text f.fit.text

  marked-pool : pool_from_lem S n ≡ p
  marked-pool = ap (λ (m : ℕ). record { num_strings = n; long_string_refs = leb 2147483648 m; codepage = m % 2147483648 }) (read_back 4 (mark_of p.long_string_refs p.codepage) (entries_bytes L C) (below p.long_string_refs)) ∙ go p.long_string_refs
    where
      below : (b : Bool) → p.codepage + (when b then 2147483648 else 0) < 256 ^ 4
      below true = omega (arith, f.page)
      below false = omega (arith, f.page)

      go : (b : Bool) → ◌≡◌ {A = StringPool} (record { num_strings = n; long_string_refs = leb 2147483648 (p.codepage + (when b then 2147483648 else 0)); codepage = (p.codepage + (when b then 2147483648 else 0)) % 2147483648 })
          (record { num_strings = n; long_string_refs = b; codepage = p.codepage })
      go true =
          let a : leb 2147483648 (p.codepage + 2147483648) ≡ true = le-leb 2147483648 (p.codepage + 2147483648) (omega arith) in
          let b : (p.codepage + 2147483648) % 2147483648 ≡ p.codepage = omega (arith, f.page) in
          ap₂ (λ (x : Bool) (y : ℕ). record { num_strings = n; long_string_refs = x; codepage = y }) a b
      go false =
          let a : leb 2147483648 (p.codepage + 0) ≡ false = lt-leb 2147483648 (p.codepage + 0) (omega (arith, f.page)) in
          let b : (p.codepage + 0) % 2147483648 ≡ p.codepage = omega (arith, f.page) in
          ap₂ (λ (x : Bool) (y : ℕ). record { num_strings = n; long_string_refs = x; codepage = y }) a b

  module _ (v : Rooms) (small : length v.text ≤ 268435455) (room : n ≤ entry_room_lem v) (text : length D ≤ length v.text) where
    abbrev Left : Rooms
    Left = rooms (L over v.lengths) (C over v.counts) (take (total L) D over v.text)

    pub read_pool : load_outcome S D v ≡ (gives p, Left)
    read_pool =
        let b = between held in
        let e : pool_entries_lem S ≡ gives (L, C) = read_entries (length S) held (omega (arith, many, length-S)) in
        let fa : ltb 16777215 (length L) ≡ false = le-ltb 16777215 (length L) (omega (arith, many, f.few)) in
        let fb : ltb (entry_room_lem v) (length L) ≡ false = le-ltb (entry_room_lem v) (length L) (omega (arith, many, room)) in
        let fc : ltb (length D) (total L) ≡ false = le-ltb (length D) (total L) (omega (arith, length-D)) in
        let fd : ltb (length v.text) (total L) ≡ false = le-ltb (length v.text) (total L) (omega (arith, length-D, text)) in
        let fitting : List ℕ × List ℕ → Answer (List ℕ × List ℕ) = λ x. on_given (load_fits_lem (length x.0) (total x.0) (entry_room_lem v) (length D) (length v.text)) (λ _. gives x) in
        let g : fitting (L, C) ≡ gives (L, C) = simp (fa, fb, fc, fd) in
        let made : load_plan S (entry_room_lem v) (length D) (length v.text) ≡ gives (L, C) =
        ap (λ (a : Answer (Unit {0})). on_given a (λ _. on_given (pool_entries_lem S) fitting))
        (streams_do (length S) (length D) (length v.text) (omega (arith, b, many, f.few, length-S)) (omega (arith, length-D, f.fit.text)) small (omega (arith, length-S)))
        ∙ ap (λ (x : Answer (List ℕ × List ℕ)). on_given x fitting) e
        ∙ g in
        ap (λ (x : Answer (List ℕ × List ℕ)). outcome v (on_given x (λ y. gives (load_entries S D v y)))) made
        ∙ ap (λ (i : ℕ). (gives (pool_from_lem S i), Left)) many ∙ ap (λ (q : StringPool). (gives q, Left)) marked-pool

    pub read_same : entries_of p Left ≡ entries_of p w
    read_same =
        let es : List Entry = entries_of p w in
        let tl : take n (L over v.lengths) ≡ lengths_of es = take_at L (drop (length L) v.lengths) n many ∙ sym (lengths-cut L C w.text (both n w f.fit) f.fit.text) in
        let tc : take n (C over v.counts) ≡ counts_of es = take_at C (drop (length C) v.counts) n (sym (both n w f.fit) ∙ many) ∙ sym (counts-cut L C w.text (both n w f.fit)) in
        let td : take (total L) D ≡ D = take_all (total L) D (omega (arith, length-D)) in
        ap₂ (λ (x y : List ℕ). cut x y (take (total L) D over v.text)) tl tc
        ∙ ap (λ (x : List ℕ). cut (lengths_of es) (counts_of es) (x over v.text)) td
        ∙ cut-texts es (drop (length D) v.text)

-- ---- through the calls

pub writes : (p : StringPool) (w : Rooms) (s out : List ℕ) → SoundState (record { pool = p; rooms = w }) → length s ≤ length out → Writes p w s out s
writes p w s out h room =
    ap₂ (λ (x y : Bool). outcome out (when x then refused 22 nowhere else when not y then refused 24 nowhere else written_to out s)) (le-ltb 268435455 (length w.text) h.0) h.1
    ∙ sym (write_done s out (length s) (s over out) room refl refl)

pub reads_back : ReadsBack
reads_back p w v out₁ out₂ h c small room text r₁ r₂ =
    let f : SoundFit p w = sound-fits p w h.1 in
    let a : Writes p w (pool_bytes p w) out₁ (pool_bytes p w) = writes p w (pool_bytes p w) out₁ h r₁ in
    let b : Writes p w (data_bytes p w) out₂ (data_bytes p w) = writes p w (data_bytes p w) out₂ h r₂ in
    let ta : take (length (pool_bytes p w)) (write_outcome p w (pool_bytes p w) out₁).1 ≡ pool_bytes p w =
    ap (λ (x : Answer ℕ × List ℕ). take (length (pool_bytes p w)) x.1) a ∙ take_at (pool_bytes p w) (drop (length (pool_bytes p w)) out₁) (length (pool_bytes p w)) refl in
    let tb : take (length (data_bytes p w)) (write_outcome p w (data_bytes p w) out₂).1 ≡ data_bytes p w =
    ap (λ (x : Answer ℕ × List ℕ). take (length (data_bytes p w)) x.1) b ∙ take_at (data_bytes p w) (drop (length (data_bytes p w)) out₂) (length (data_bytes p w)) refl in
    let e : load_outcome (take (length (pool_bytes p w)) (write_outcome p w (pool_bytes p w) out₁).1) (take (length (data_bytes p w)) (write_outcome p w (data_bytes p w) out₂).1) v
    ≡ (gives p, Left p w f h.0 c v small room text) =
    ap₂ (λ (x y : List ℕ). load_outcome x y v) (ta ∙ sym (stream-same p.num_strings p.long_string_refs p.codepage w f.fit)) tb ∙ read_pool p w f h.0 c v small room text in
    record {
      m = length (pool_bytes p w);
      n = length (data_bytes p w);
      pool-written = ap (λ (x : Answer ℕ × List ℕ). x.0) a;
      data_written = ap (λ (x : Answer ℕ × List ℕ). x.0) b;
      pool-read = ap (λ (x : Answer StringPool × Rooms). x.0) e;
      entries-read = ap (λ (x : Answer StringPool × Rooms). entries_of p x.1) e ∙ read_same p w f h.0 c v small room text;
    }
