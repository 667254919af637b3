-- The promises of specs/Promises.antt, from the laws over the width.
use mathlib.Core.Path.{◌≡◌, refl, sym, ap}
use native.Mathlib.Nat.{min-eq_left}
use native.Mathlib.Omega.{arith}
use lib.ListN.{length, take, drop, take-append-drop, length-drop}
use lib.Seq.{length-take-le}
use Rattle.little_endian.specs.Numbers.{bytes_of, read_answer}
use Rattle.little_endian.specs.Promises.{NumberReadsBack, NumberWritesBack}
use Rattle.little_endian.proofs.Laws.{read_back_at, write_back, written}

pub write_then_read : NumberReadsBack
write_then_read width n at out w h room =
    let e = sym (written n width out at _ room refl) in
    (ap (λ (x : _). x.0) e, rw (min-eq_left w, ap (λ (x : _). x.1) e) (read_back_at width n at out h (omega arith)))

pub read_then_write : NumberWritesBack
read_then_write width at s w b room =
    let same : bytes_of width (read_answer s at width) ≡ take width (drop at s) = rw (min-eq_left w) (write_back width s at b room) in
    let n : length (take width (drop at s)) ≡ width = length-take-le width (drop at s) (rw length-drop (omega arith)) in
    sym (written (read_answer s at width) width s at s room (sym (rw (same, n, take-append-drop width (drop at s), take-append-drop at s))))
