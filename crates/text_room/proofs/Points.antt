-- The points of specs/Points.antt, by computation.
use mathlib.Core.Path.{refl}
use lib.ListN.{length}
use borrow.Author.Tests.{lt-ltb}
use Rattle.text_room.specs.Texts.{splice}
use Rattle.text_room.specs.Points.{CopySize, OverSize, NotInUse, TextRoom, InOrder, Replaced, Copied}

pub over_size : OverSize
over_size = (refl, refl, refl)

pub not_in_use : NotInUse
not_in_use = (refl, refl, refl, refl)

pub text-room : TextRoom
text-room = (refl, refl)

pub in_order : InOrder
in_order = (refl, refl)

pub replaced : Replaced
unfolding splice
replaced = (refl, refl, refl)

pub copied : Copied
copied = (refl, refl, refl, λ bytes out h. simp (lt-ltb 268435455 (length bytes) h))

pub copy_size : CopySize
copy_size bytes e = rw e
