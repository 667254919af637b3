-- Laws of what a load answers and leaves.
use mathlib.Core.Path.{◌≡◌, sym, ap, ap₂, ◌∙◌}
use Prim.Native.Nat.{ℕ, ◌≤◌}
use native.Mathlib.Omega.{arith}
use mathlib.Core.List.{List}
use lib.ListN.{length, take}
use lib.Seq.{length-take-le}
use Rattle.common.specs.Lists.{◌over◌, total}
use Rattle.common.specs.Answers.{Answer, gives, refused, on_given, outcome}
use Rattle.common.specs.Refusals.{refused_by}
use Rattle.common.specs.declared.refusal.Refusal.{Refusal}
use Rattle.common.proofs.Outcomes.{refused-gives}
use Rattle.pool_entries.proofs.Calls.{same_refusal}
use Rattle.pool_stream.specs.Plan.{entries_outcome}
use Rattle.pool_stream.proofs.Planning.{PlanOf, plan_of, loaded-plan}
use Rattle.stringpool.specs.Pool.{Rooms, rooms, entry_room_lem}
use Rattle.stringpool.specs.Load.{pool_from_lem, load_plan, load_entries, load_outcome}
use Rattle.stringpool.specs.declared.pool.StringPool.{StringPool}
use Rattle.stringpool.proofs.Entries.{rooms-eq}
use Rattle.text_room.specs.Texts.{copy_outcome}
use Rattle.text_room.proofs.Splice.{copied}

module _ (s d : List ℕ) (w : Rooms) where
  abbrev Plan : Answer (List ℕ × List ℕ)
  Plan = load_plan s (entry_room_lem w) (length d) (length w.text)

  -- by the plan: what the layer answers and leaves, and the load
  abbrev Filled : Answer (List ℕ × List ℕ) → Answer (ℕ × ℕ) × Rooms
  Filled a = outcome w (on_given a (λ x. gives ((length x.0, total x.0), rooms (x.0 over w.lengths) (x.1 over w.counts) w.text)))

  abbrev Loaded : Answer (List ℕ × List ℕ) → Answer StringPool × Rooms
  Loaded a = outcome w (on_given a (λ x. gives (load_entries s d w x)))

  pub load_refused : (x : Refusal) (left : Rooms) → (refused_by x, left) ≡ entries_outcome s (length d) w → (refused_by x, left) ≡ load_outcome s d w
  load_refused x left e = go Plan e
    where
      go : (a : Answer (List ℕ × List ℕ)) → (refused_by x, left) ≡ Filled a → (refused_by x, left) ≡ Loaded a
      go (gives y) q = absurd (refused-gives (ap (λ (o : Answer (ℕ × ℕ) × Rooms). o.0) q))
      go (refused n at) q =
          ap₂ (λ (a : Answer StringPool) (o : Rooms). (a, o)) (same_refusal (ap (λ (o : Answer (ℕ × ℕ) × Rooms). o.0) q)) (ap (λ (o : Answer (ℕ × ℕ) × Rooms). o.1) q)

  module _ (n u : ℕ) (left : Rooms) (e : (gives (n, u), left) ≡ entries_outcome s (length d) w) where
    of : PlanOf s (entry_room_lem w) (length d) (length w.text) n u
    of = plan_of s (entry_room_lem w) (length d) (length w.text) n u (loaded-plan s (length d) w n u left e)

    pub stored : u ≤ length d
    stored = omega (arith, of.stored, of.sum)

    -- the texts are copied
    copied_texts : (a : Answer ℕ) (ts : List ℕ) → (a, ts) ≡ copy_outcome (take u d) left.text → ◌≡◌ {A = Answer ℕ × List ℕ} (a, ts) (gives u, take u d over w.text)
    copied_texts a ts et =
        let same : left.text ≡ w.text = ap (λ (o : Answer (ℕ × ℕ) × Rooms). o.1.text) (e ∙ ap Filled of.is) in
        let long : length (take u d) ≡ u = length-take-le u d stored in
        et ∙ ap (copy_outcome (take u d)) same ∙ copied (take u d) w.text (omega (arith, of.room, of.sum, of.within)) (omega (arith, of.room, of.sum))
        ∙ ap (λ (i : ℕ). (gives i, take u d over w.text)) long

    pub copy_given : (a : Answer ℕ) (ts : List ℕ) → (a, ts) ≡ copy_outcome (take u d) left.text → a ≡ gives u
    copy_given a ts et = ap (λ (o : Answer ℕ × List ℕ). o.0) (copied_texts a ts et)

    -- the rooms after a load, by the stores
    pub loaded : (p : StringPool) → p ≡ pool_from_lem s n → (a : Answer ℕ) (ts : List ℕ) → (a, ts) ≡ copy_outcome (take u d) left.text → (gives p, rooms left.lengths left.counts ts) ≡ load_outcome s d w
    loaded p ep a ts et =
        let f = e ∙ ap Filled of.is in
        ap₂ (λ (q : StringPool) (r : Rooms). (gives q, r)) (ep ∙ ap (pool_from_lem s) of.many)
        (rooms-eq (ap (λ (o : Answer (ℕ × ℕ) × Rooms). o.1.lengths) f) (ap (λ (o : Answer (ℕ × ℕ) × Rooms). o.1.counts) f)
        (ap (λ (o : Answer ℕ × List ℕ). o.1) (copied_texts a ts et) ∙ ap (λ (i : ℕ). take i d over w.text) of.sum))
        ∙ sym (ap Loaded of.is)
