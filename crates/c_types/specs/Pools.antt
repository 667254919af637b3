-- The answers that hold a pool's state, which C has as it is.
use Rattle.std.specs.Prelude.{false, ℤ, pos, Result}
use Rattle.common.specs.Answers.{Answer}
use Rattle.stringpool.specs.declared.pool.StringPool.{StringPool}
use Rattle.c_types.specs.Answers.{told_lem, refusal_told, given_told}
use Rattle.c_types.specs.declared.answers.Refused.{Refused}
use Rattle.c_types.specs.declared.answers.PoolAnswer.{PoolAnswer}
use Rattle.c_types.specs.declared.answers.TakeAnswer.{TakeAnswer}
use Rattle.c_types.specs.declared.answers.Reference.{Reference}

-- what stands for a pool where none is given
abbrev pub no_pool_lem : StringPool
no_pool_lem = record { num_strings = 0; long_string_refs = false; codepage = 0 }

abbrev pub pool_told : Result StringPool Refused → PoolAnswer
pool_told a = record { refused = refusal_told a; pool = given_told no_pool_lem a }

abbrev pub pool_in : Answer StringPool → PoolAnswer
pool_in a = pool_told (told_lem a)

abbrev pub taken_told : Result (ℤ × StringPool) Refused → TakeAnswer
taken_told a = record { refused = refusal_told a; pool = (given_told (pos 0, no_pool_lem) a).1; reference = (given_told (pos 0, no_pool_lem) a).0 }

abbrev pub taken_in : Answer (ℤ × StringPool) → TakeAnswer
taken_in a = taken_told (told_lem a)

abbrev pub reference_told : Result ℤ Refused → Reference
reference_told a = record { refused = refusal_told a; value = given_told (pos 0) a }

abbrev pub reference_in : Answer ℤ → Reference
reference_in a = reference_told (told_lem a)
