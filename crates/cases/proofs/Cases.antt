-- The thirteen cases, computed.
use mathlib.Core.Path.{refl}
use Rattle.streamname.specs.Letters.{letters}
use Rattle.streamname.specs.Names.{encoded}
use Rattle.pool_entries.specs.Sound.{sound_rooms}
use Rattle.cases.specs.Cases.{Cases}

pub all-cases : Cases
unfolding encoded letters sound_rooms
all-cases = refl
