use Rattle.std.proofs.Common.{le-ltb, lt-ltb, le-leb}
use borrow.Author.Tests.{lt-leb}
use Rattle.pool_entries.specs.inner.Sound.{fits_b}
use Rattle.pool_entries.proofs.judging.entries_of.Goals as goal

pub returns-then-n-rooms : goal.returns-then-n-rooms
unfolding fits_b
returns-then-n-rooms c = simp (le-ltb _ _ c.if-rooms-gt-MAX_BYTES.false, lt-ltb _ _ c.if-n-rooms.true)

pub returns-then-n-rooms-2 : goal.returns-then-n-rooms-2
unfolding fits_b
returns-then-n-rooms-2 c = simp (le-ltb _ _ c.if-rooms-gt-MAX_BYTES.false, le-ltb _ _ c.if-n-rooms.false, lt-ltb _ _ c.if-n-rooms-2.true)

pub returns-then-n-gt-MAX_ENTRIES : goal.returns-then-n-gt-MAX_ENTRIES
unfolding fits_b
returns-then-n-gt-MAX_ENTRIES c = simp (le-ltb _ _ c.if-rooms-gt-MAX_BYTES.false, le-ltb _ _ c.if-n-rooms.false, le-ltb _ _ c.if-n-rooms-2.false, lt-ltb _ _ c.if-n-gt-MAX_ENTRIES.true)

pub returns-then-codepage-gt-MAX_CODEPAGE : goal.returns-then-codepage-gt-MAX_CODEPAGE
unfolding fits_b
returns-then-codepage-gt-MAX_CODEPAGE c = simp (le-ltb _ _ c.if-rooms-gt-MAX_BYTES.false, le-ltb _ _ c.if-n-rooms.false, le-ltb _ _ c.if-n-rooms-2.false, le-ltb _ _ c.if-n-gt-MAX_ENTRIES.false, lt-leb _ _ c.if-codepage-gt-MAX_CODEPAGE.true)

pub returns : goal.returns
unfolding fits_b
returns c = simp (le-ltb _ _ c.if-rooms-gt-MAX_BYTES.false, le-ltb _ _ c.if-n-rooms.false, le-ltb _ _ c.if-n-rooms-2.false, le-ltb _ _ c.if-n-gt-MAX_ENTRIES.false, le-leb _ _ c.if-codepage-gt-MAX_CODEPAGE.false)
