-- As many steps as bytes suffice to read a pool stream.
use mathlib.Core.Path.{◌≡◌, refl, ap}
use Prim.Native.Nat.{ℕ, zero, suc, ◌+◌, ◌<◌}
use native.Mathlib.Omega.{arith}
use mathlib.Core.List.{List}
use lib.ListN.{length, drop, length-drop}
use Rattle.pool_stream.specs.Entries.{Found, one, cut, ends, entry_in, with_entry, on_found, entries_in}
use Rattle.pool_stream.specs.Promises.{StepsSuffice}
use Rattle.pool_stream.proofs.Reading.{found_size}

-- more steps than bytes: as many as one likes
enough : (k m : ℕ) (s : List ℕ) → length s < k → length s < m → entries_in k s ≡ entries_in m s
enough zero m s h h' = absurd (omega arith)
enough (suc k) zero s h h' = absurd (omega arith)
enough (suc k) (suc m) s h h' = go (λ size a b. enough k m (drop size s) a b) (entry_in s) refl
  where
    go : ((size : ℕ) → length (drop size s) < k → length (drop size s) < m → entries_in k (drop size s) ≡ entries_in m (drop size s))
        → (f : Found) → entry_in s ≡ f → on_found f (λ size. entries_in k (drop size s)) ≡ on_found f (λ size. entries_in m (drop size s))
    go rest (one l c w n) e =
        let b = found_size s l c w n e in
        ap (with_entry l c) (rest n (omega (arith, length-drop n s, b)) (omega (arith, length-drop n s, b)))
    go rest cut e = refl
    go rest (ends stray) e = refl

pub steps_suffice : StepsSuffice
steps_suffice s more h = enough (length s + more) (length s) (drop 4 s) (omega (arith, length-drop 4 s)) (omega (arith, length-drop 4 s))
