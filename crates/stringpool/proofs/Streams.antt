-- What is written: the data stream by the lengths is that by the entries.
use mathlib.Core.Path.{◌≡◌, sym, ap, ◌∙◌}
use Prim.Native.Nat.{ℕ}
use lib.ListN.{take}
use Rattle.common.specs.Lists.{total}
use Rattle.stringpool.specs.Pool.{Rooms}
use Rattle.stringpool.specs.Write.{data_bytes}
use Rattle.stringpool.specs.inner.Entries.{Fit}
use Rattle.stringpool.specs.declared.pool.StringPool.{StringPool}
use Rattle.stringpool.proofs.Entries.{both, texts-cut}

pub data_same : (p : StringPool) (w : Rooms) → Fit p.num_strings w → {u : ℕ} → u ≡ total (take p.num_strings w.lengths) → take u w.text ≡ data_bytes p w
data_same p w fit e =
    ap (λ (k : ℕ). take k w.text) e
    ∙ sym (texts-cut (take p.num_strings w.lengths) (take p.num_strings w.counts) w.text (both p.num_strings w fit))
