-- The answers of the calls as C has them: the refusal and what was given, side by side, 0 for what there is none of.
use Rattle.std.specs.Prelude.{ℕ, Bool, false, Result, Ok, Err}
use Rattle.common.specs.Answers.{Answer, gives, refused, Place, nowhere, column, cell}
use Rattle.streamname.specs.declared.Decoded.{Decoded}
use Rattle.c_types.specs.declared.answers.Refused.{Refused}
use Rattle.c_types.specs.declared.answers.Count.{Count}
use Rattle.c_types.specs.declared.answers.Name.{Name}
use Rattle.c_types.specs.declared.answers.Flag.{Flag}

abbrev pub no_refusal : Refused
no_refusal = record { number = 0; place = 0; row = 0; column = 0 }

-- "A refusal returns its number, with the column or cell place"
abbrev pub refusal_at : ℕ → Place → Refused
refusal_at n nowhere = record { number = n; place = 0; row = 0; column = 0 }
refusal_at n (column c) = record { number = n; place = 1; row = 0; column = c }
refusal_at n (cell r c) = record { number = n; place = 2; row = r; column = c }

-- an answer with C's refusal
abbrev pub told_lem : {A : Type 0} → Answer A → Result A Refused
told_lem (gives a) = Ok a
told_lem (refused n at) = Err (refusal_at n at)

-- what the code has of one, in document 01's terms; f reads what it gives
abbrev pub told_as : {T A : Type 0} → (T → A) → Result T Refused → Result A Refused
told_as f (Ok x) = Ok (f x)
told_as f (Err why) = Err why

-- its halves: the refusal, or that there is none; what was given, or what stands for nothing
abbrev pub refusal_told : {A : Type 0} → Result A Refused → Refused
refusal_told (Ok a) = no_refusal
refusal_told (Err why) = why

abbrev pub given_told : {A : Type 0} → A → Result A Refused → A
given_told nothing (Ok a) = a
given_told nothing (Err why) = nothing

abbrev pub refusal_in : {A : Type 0} → Answer A → Refused
refusal_in a = refusal_told (told_lem a)

abbrev pub count_told : Result ℕ Refused → Count
count_told a = record { refused = refusal_told a; value = given_told 0 a }

abbrev pub count_in : Answer ℕ → Count
count_in a = count_told (told_lem a)

-- a decoded name's units and flag
abbrev pub name_parts : Decoded → ℕ × Bool
name_parts d = (d.units, d.is_table)

abbrev pub name_told : Result (ℕ × Bool) Refused → Name
name_told a = record { refused = refusal_told a; units = (given_told (0, false) a).0; is_table = (given_told (0, false) a).1 }

abbrev pub name_in : Answer (ℕ × Bool) → Name
name_in a = name_told (told_lem a)

abbrev pub flag_told : Result Bool Refused → Flag
flag_told a = record { refused = refusal_told a; value = given_told false a }

abbrev pub flag_in : Answer Bool → Flag
flag_in a = flag_told (told_lem a)

-- an outcome with its answer as C has it; the rooms beside it stay as the call left them
abbrev pub answered_as : {A C W : Type 0} → (A → C) → A × W → C × W
answered_as f x = (f x.0, x.1)
