-- What writing a pool stream answers and leaves: for the crate above; the desk reads stringpool/specs/Write.antt.
use Rattle.std.specs.Prelude.{ℕ, Bool, List}
use Rattle.common.specs.Answers.{Answer, outcome, written_to}
use Rattle.pool_entries.specs.Entries.{Rooms}
use Rattle.pool_entries.specs.Sound.{on_sound_rooms}
use Rattle.pool_stream.specs.Entries.{stream_bytes}

-- 22, 24, 7
abbrev pub stream_outcome : ℕ → Bool → ℕ → Rooms → List ℕ → Answer ℕ × List ℕ
stream_outcome n long codepage w out = outcome out (on_sound_rooms n codepage w (written_to out (stream_bytes n long codepage w)))
