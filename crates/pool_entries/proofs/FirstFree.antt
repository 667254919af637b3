-- The first free entry, of a block and block after block.
use Rattle.std.proofs.Common.{◌≡◌, ℕ, ◌+◌, ◌-◌, ◌<◌, ◌≤◌, Bool, true, false, not, eqb, ltb, cond, List, ◌++◌, length, get_or, take, drop, sym, refl, ap, ◌∙◌, subst, arith, Some, None, length-append, length-take-le, get_or-drop, get_or-take, drop-drop, eqb-true, ltb-false}
use Rattle.std.specs.List.{position_or_len, position}
use Rattle.std.specs.Option.{unwrap_or}
use Rattle.std.proofs.Math.ListN.{get_or-append}
use Rattle.std.proofs.Math.Seq.{drop-append_seam}
use Rattle.std.proofs.lemmas.List.Sums.{fails_before_first, passes_at_first, prefix_len-le-length}
use borrow.Author.Tests.{eqb-false}
use Rattle.pool_entries.specs.inner.Look.{Counted, FreeAt}
use Rattle.pool_entries.proofs.Sums.{each-join}

above : (n : ℕ) → eqb n 0 ≡ false → 0 < n
above n e = omega (arith, eqb-false n 0 e)

-- ---- a block

pub none-free : (cs : List ℕ) → ((k : ℕ) → k < length cs → eqb (get_or cs k 0) 0 ≡ false) → FreeAt cs 0 (length cs) (length cs)
none-free cs f = record { after = omega arith; within = omega arith; counted = λ k a b. above _ (f k b); free = λ e. absurd (omega arith) }

module _ (cs : List ℕ) where
  abbrev First : ℕ
  First = position_or_len (λ (c : ℕ). eqb c 0) cs

  first-free : FreeAt cs 0 (length cs) First
  first-free = record {
    after = omega arith;
    within = prefix_len-le-length (λ (c : ℕ). not (eqb c 0)) cs;
    counted = λ k a b. above _ (fails_before_first (λ (c : ℕ). eqb c 0) cs k 0 b);
    free = λ e. eqb-true _ 0 (passes_at_first (λ (c : ℕ). eqb c 0) cs 0 e);
  }

  pub found_free : (r : ℕ) → r ≡ unwrap_or (position (λ (c : ℕ). eqb c 0) cs) (length cs) → FreeAt cs 0 (length cs) r
  found_free r e = subst (FreeAt cs 0 (length cs)) (sym (e ∙ go (ltb First (length cs)) refl)) first-free
    where
      go : (b : Bool) → ltb First (length cs) ≡ b → unwrap_or (cond b (Some First) None) (length cs) ≡ First
      go true f = refl
      go false f = omega (arith, ltb-false First (length cs) f, prefix_len-le-length (λ (c : ℕ). not (eqb c 0)) cs)

-- ---- block after block

-- of the first n counts those from i on are left
pub record Left (cs : List ℕ) (n i : ℕ) (rest : List ℕ) : Type 0 where
  pub whole : i + length rest ≡ n
  pub is : drop i (take n cs) ≡ rest

pub left-all : (cs : List ℕ) (n : ℕ) (rest : List ℕ) → n ≤ length cs → rest ≡ take n cs → Left cs n 0 rest
left-all cs n rest h e = record { whole = omega (arith, ap length e, length-take-le n cs h); is = sym e }

module _ (cs : List ℕ) (n i : ℕ) (now block rest : List ℕ) (h : n ≤ length cs) (a : Left cs n i now) (e : now ≡ block ++ rest) where
  size-is : i + length block + length rest ≡ n
  size-is = omega (arith, a.whole, ap length e, length-append block rest)

  pub block-ends : i + length block ≤ n
  block-ends = omega (arith, size-is)

  pub left-next : Left cs n (i + length block) rest
  left-next = record {
    whole = size-is;
    is = sym (drop-drop (length block) i (take n cs)) ∙ ap (drop (length block)) (a.is ∙ e) ∙ drop-append_seam block rest;
  }

  at : (k : ℕ) → k < length block → get_or block k 0 ≡ get_or cs (i + k) 0
  at k l =
      sym (get_or-append block rest 0 k l) ∙ ap (λ (x : List ℕ). get_or x k 0) (sym (a.is ∙ e)) ∙ get_or-drop i (take n cs) k 0
      ∙ get_or-take n cs (i + k) 0 (omega (arith, size-is))

  pub free-block : {f : ℕ} → FreeAt block 0 (length block) f → FreeAt cs i (i + length block) (i + f)
  free-block {f} z = record {
    after = omega arith;
    within = omega (arith, z.within);
    counted = λ k a b.
        let l : i + (k - i) ≡ k = omega arith in
        subst (λ (x : ℕ). 0 < x) (at (k - i) (omega (arith, z.within)) ∙ ap (λ (j : ℕ). get_or cs j 0) l) (z.counted (k - i) (omega arith) (omega arith));
    free = λ l. sym (at f (omega arith)) ∙ z.free (omega arith);
  }

  -- the first free entry is in this block, or the block is passed by
  module _ (c : Counted cs 0 i) {f : ℕ} (z : FreeAt block 0 (length block) f) where
    pub found-in : f < length block → FreeAt cs 0 n (i + f)
    found-in l = record { after = omega arith; within = omega (arith, size-is); counted = each-join c (free-block z).counted; free = λ g. (free-block z).free (omega arith) }

    pub counted-block : length block ≤ f → Counted cs 0 (i + length block)
    counted-block l = each-join c (λ k a b. (free-block z).counted k a (omega arith))

-- the first n counts are a part of all
pub free-front : (cs : List ℕ) (n : ℕ) → n ≤ length cs → {f : ℕ} → FreeAt (take n cs) 0 (length (take n cs)) f → FreeAt cs 0 n f
free-front cs n h {f} z =
    let l : length (take n cs) ≡ n = length-take-le n cs h in
    record {
      after = omega arith;
      within = omega (arith, z.within, l);
      counted = λ k a b. subst (λ (x : ℕ). 0 < x) (get_or-take n cs k 0 (omega (arith, z.within, l))) (z.counted k a b);
      free = λ g. sym (get_or-take n cs f 0 g) ∙ z.free (omega (arith, l));
    }
