use mathlib.Core.Path.{◌≡◌, sym, ap, ◌∙◌}
use Prim.Native.Nat.{ℕ, suc, ◌+◌, ◌-◌, ◌≤◌, ◌<◌}
use native.Mathlib.Omega.{arith}
use mathlib.Core.List.{List}
use lib.ListN.{length, drop, get_or, set, length-drop}
use native.Mathlib.Nat.{sub-zero, zero-add}
use native.Mathlib.Numerals.{add-one}
use Rattle.common.specs.Answers.{gives}
use Rattle.common.proofs.Parts.{tail_part}
use Rattle.common.proofs.Run.{Run, run-start, run-turn}
use Rattle.pool_stream.specs.Entries.{entry_in, entries_in}
use Rattle.pool_stream.specs.inner.Sizes.{lengths_in, counts_in}
use Rattle.pool_stream.specs.inner.Found.{found_as}
use Rattle.pool_stream.proofs.Reading.{found_size, one_more, is_one}
use Rattle.pool_stream.proofs.load.fill.Goals as goal

-- a turn of a run that starts at 0
turn0 : {d s : List ℕ} {n : ℕ} {t : List ℕ} {j : ℕ} (x : ℕ) → n ≤ length d → n ≤ length s
    → Run d 0 s n t j → j < n → x ≡ get_or s j 0 → Run d 0 s n (set t j x) (j + 1)
turn0 {d} {s} {n} {t} {j} x hd hs r h v = rw (zero-add j) at (run-turn x 0 (omega arith) hs r h v)

-- one step more is left than follow
left : (s : List ℕ) (i at : ℕ) → i < length s → entries_in (length s - i) (drop at s) ≡ gives (drop i (lengths_in s), drop i (counts_in s))
    → entries_in (suc (length s - (i + 1))) (drop at s) ≡ gives (drop i (lengths_in s), drop i (counts_in s))
left s i at h e = let f : length s - i ≡ suc (length s - (i + 1)) = omega arith in ap (λ (k : ℕ). entries_in k (drop at s)) (sym f) ∙ e

pub loop-i-init : goal.loop-i-init
loop-i-init c =
    let s : List ℕ = c.args.s.now in
    (run-start _ _ _ _, run-start _ _ _ _, omega arith, omega arith, ap (λ (k : ℕ). entries_in k (drop 4 s)) (sub-zero (length s)) ∙ c.requires.is)

pub returns-in_default : goal.returns-in_default
returns-in_default c =
    let l = c.loop-i in
    let s : List ℕ = c.args.s.now in
    let f = c.requires in
    let o = is_one s (length s - (l.i + 1)) l.at (lengths_in s) (counts_in s) l.i (omega (arith, f.many)) (omega (arith, f.even)) (left s l.i l.at (omega arith) l.invariant.4)
    c.first_entry-entry.result (c.first_entry-entry.ensures ∙ ap entry_in (tail_part l.at s)) in
    absurd (c.in_default.not-One o.0 o.1 o.2 o.3 o.4)

pub loop-i-preserved : goal.loop-i-preserved
loop-i-preserved c =
    let found : entry_in (drop c.loop-i.at c.args.s.now) ≡ found_as c.first_entry-entry.result = ap entry_in (sym (tail_part c.loop-i.at c.args.s.now)) ∙ sym c.first_entry-entry.ensures in
    let l = c.loop-i in
    let s : List ℕ = c.args.s.now in
    let f = c.requires in
    let e = found ∙ ap found_as c.in-One.is in
    let a = found_size (drop l.at s) _ _ _ _ e in
    let m = one_more s (length s - (l.i + 1)) l.at (lengths_in s) (counts_in s) l.i (omega (arith, f.many)) (omega (arith, f.even)) (left s l.i l.at (omega arith) l.invariant.4) _ _ _ _ e in (
      turn0 _ (omega (arith, f.long)) (omega (arith, f.many)) l.invariant.0 (omega arith) m.lens,
      turn0 _ (omega (arith, f.counted)) (omega (arith, f.even)) l.invariant.1 (omega arith) m.cnts,
      omega (arith, a),
      omega (arith, a, length-drop l.at s),
      m.rest ∙ rw (add-one l.i),
    )
