-- What counting down an entry is, on the rooms.
use mathlib.Core.Path.{◌≡◌, refl, sym, ap, ap₂, subst, ◌∙◌}
use Prim.Native.Nat.{ℕ, ◌+◌, ◌-◌, ◌≤◌, ◌<◌}
use native.Mathlib.Omega.{arith}
use mathlib.Core.Bool.{Bool, true, false}
use mathlib.Core.List.{List, []}
use lib.ListN.{length, take, get_or, set}
use lib.Seq.{get_or-take}
use lib.IntN.{ℤ}
use Rattle.std.specs.Prelude.{Result, Ok, Err}
use lib.Dec.{leb}
use borrow.Author.Tests.{le-leb, lt-leb}
use Rattle.common.specs.Choice.{when◌then◌else◌}
use Rattle.common.specs.Lists.{total}
use Rattle.common.specs.Answers.{Answer, gives, on_given, outcome}
use Rattle.common.specs.Refusals.{refused_by}
use Rattle.common.specs.declared.refusal.Refusal.{Refusal}
use Rattle.common.proofs.Sums.{total-in}
use Rattle.order.specs.Order.{drop_fits_lem}
use Rattle.order.proofs.Laws.{drop-fits}
use Rattle.pool_entries.specs.Calls.{judge_answer}
use Rattle.stringpool.specs.Pool.{Entry, entry, Rooms, entries_of, put_back}
use Rattle.stringpool.specs.Refs.{on_reference}
use Rattle.stringpool.specs.Drop.{lessened, drop_at_lem, drop_outcome}
use Rattle.stringpool.specs.inner.Entries.{Fit, none}
use Rattle.stringpool.specs.inner.Plan.{put_at, Planned}
use Rattle.stringpool.specs.declared.entry.Plan.{Plan}
use Rattle.stringpool.specs.declared.entry.Plan.TheVariants.{Count}
use Rattle.stringpool.specs.declared.pool.StringPool.{StringPool}
use Rattle.stringpool.proofs.Judging.{on_place}
use Rattle.stringpool.proofs.Entries.{put_one, put_count, length-entries, count_same}

-- ---- each answer of a drop at a place of a sound pool, with its step

-- what a drop at the place k settles
abbrev pub DropsAt : StringPool → Rooms → ℕ → Result Plan Refusal → Type 0
DropsAt p w k x = Planned (outcome w (drop_at_lem p w k)) (λ (y : Plan). p) x w []

module _ (p : StringPool) (w : Rooms) (fit : Fit p.num_strings w) (k : ℕ) where
  abbrev n : ℕ
  n = p.num_strings

  abbrev es : List Entry
  es = entries_of p w

  abbrev e₀ : Entry
  e₀ = get_or es k none

  -- the count that was looked up
  abbrev c : ℕ
  c = get_or (take n w.counts) k 0

  -- by the order of a drop
  by_fits : {a : Answer (Unit {0})} → a ≡ drop_fits_lem n k c → drop_at_lem p w k ≡ on_given a (λ _. gives (p, put_back p w (set es k (lessened e₀))))
  by_fits f =
      ap₂ (λ (i j : ℕ). on_given (drop_fits_lem i k j) (λ _. gives (p, put_back p w (set es k (lessened e₀))))) (length-entries n w fit) (sym (count_same n w fit k))
      ∙ ap (λ (a : Answer (Unit {0})). on_given a (λ _. gives (p, put_back p w (set es k (lessened e₀))))) (sym f)

  pub not_dropped : (x : Refusal) → refused_by x ≡ drop_fits_lem n k c → DropsAt p w k (Err x)
  not_dropped x f = sym (ap (outcome w) (by_fits f))

  module _ (f : gives tt ≡ drop_fits_lem n k c) where
    h : k < n
    h = (drop-fits n k c (sym f)).0

    -- the count is what the counts hold
    counted : c ≡ get_or w.counts k 0
    counted = get_or-take n w.counts k 0 h

    -- the entry becomes e
    done : (e : Entry) (b : Bool) → leb e₀.count 1 ≡ b → (when b then entry [] 0 else entry e₀.text (e₀.count - 1)) ≡ e
        → (left : Rooms) → put_back p w (set es k e) ≡ left → (gives p, left) ≡ outcome w (drop_at_lem p w k)
    done e b t made left d =
        ap (λ (y : Rooms). (gives p, y)) (sym d)
        ∙ sym (ap (λ (x : Entry). (gives p, put_back p w (set es k x))) (ap (λ (b : Bool). when b then entry [] 0 else entry e₀.text (e₀.count - 1)) t ∙ made))
        ∙ sym (ap (outcome w) (by_fits f))

    pub drop_more : n ≤ 16777215 → 1 < c → (less : ℕ) → less ≡ c - 1 → DropsAt p w k (Ok (Count k less))
    drop_more few z less down =
        let same : e₀.count - 1 ≡ less = omega (arith, count_same n w fit k, down) in (
          done (entry e₀.text less) false (lt-leb e₀.count 1 (omega (arith, count_same n w fit k, z))) (ap (entry e₀.text) same) _
              (put_count p w fit k h less),
          (omega (arith, few, h), omega (arith, fit.counts, h)),
        )

    pub drop-last : n ≤ 16777215 → length w.text ≤ 268435455 → c ≤ 1
        → DropsAt p w k (Ok (put_at k (total (take k w.lengths)) (get_or w.lengths k 0) (total (take n w.lengths)) 0))
    drop-last few size y =
        let inside : total (take k w.lengths) + get_or w.lengths k 0 ≤ total (take n w.lengths) = total-in w.lengths k n h fit.lengths in (
          done none true (le-leb e₀.count 1 (omega (arith, count_same n w fit k, y))) refl _ (put_one p w fit k h none (omega (arith, fit.text))),
          (omega (arith, few, h), omega (arith, fit.lengths, h), omega (arith, fit.counts, h), omega arith, inside, fit.text, omega (arith, fit.text), size),
        )

-- ---- on a pool that is judged

-- a drop at the place of the number is the drop
pub drops_at : (p : StringPool) (w : Rooms) (r : ℤ) {r' : ℤ} {u k : ℕ} → gives u ≡ judge_answer p.num_strings p.codepage w → r' ≡ r → gives k ≡ on_reference r' gives
    → (x : Result Plan Refusal) → DropsAt p w k x → Planned (drop_outcome p w r) (λ (y : Plan). p) x w []
drops_at p w r e b f x d = subst (λ (o : Answer StringPool × Rooms). Planned o (λ (y : Plan). p) x w []) (ap (outcome w) (on_place p w e r b f (drop_at_lem p w))) d
