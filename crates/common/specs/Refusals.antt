-- Document 01, "Refusal numbers": the number and the place of each refusal.
use Rattle.std.specs.Prelude.{ℕ, Result, Ok, Err}
use Rattle.common.specs.Answers.{Place, nowhere, column, cell, Answer, gives, refused}
use Rattle.common.specs.declared.refusal.Refusal.{Refusal}
use Rattle.common.specs.declared.refusal.Refusal.TheVariants as why
use Rattle.common.specs.declared.refusal.Place.{Place as CodePlace}
use Rattle.common.specs.declared.refusal.Place.TheVariants.{Nowhere, Column, Cell}

abbrev pub number_of : Refusal → ℕ
number_of why.PoolStreamShort = 1
number_of why.EntryCut = 2
number_of why.TooManyEntries = 3
number_of why.EntryRoom = 4
number_of why.DataStreamShort = 5
number_of why.TextRoom = 6
number_of why.OutputRoom = 7
number_of why.ReferenceRange = 8
number_of (why.CellReferenceRange r c) = 8
number_of why.DropPastEnd = 9
number_of why.CountZero = 10
number_of why.ShortReferencesFull = 11
number_of why.EntriesFull = 12
number_of (why.IntegerSize c) = 13
number_of why.TooManyRows = 14
number_of why.OutsideTable = 15
number_of (why.CellKind r c) = 16
number_of (why.CellIntegerRange r c) = 17
number_of (why.CellReferenceLong r c) = 18
number_of (why.StringMaximum c) = 19
number_of why.TooManyColumns = 20
number_of why.CodepageRange = 21
number_of why.OverSize = 22
number_of why.CellCount = 23
number_of why.Unsound = 24

abbrev pub where_of : Refusal → Place
where_of why.PoolStreamShort = nowhere
where_of why.EntryCut = nowhere
where_of why.TooManyEntries = nowhere
where_of why.EntryRoom = nowhere
where_of why.DataStreamShort = nowhere
where_of why.TextRoom = nowhere
where_of why.OutputRoom = nowhere
where_of why.ReferenceRange = nowhere
where_of (why.CellReferenceRange r c) = cell r c
where_of why.DropPastEnd = nowhere
where_of why.CountZero = nowhere
where_of why.ShortReferencesFull = nowhere
where_of why.EntriesFull = nowhere
where_of (why.IntegerSize c) = column c
where_of why.TooManyRows = nowhere
where_of why.OutsideTable = nowhere
where_of (why.CellKind r c) = cell r c
where_of (why.CellIntegerRange r c) = cell r c
where_of (why.CellReferenceLong r c) = cell r c
where_of (why.StringMaximum c) = column c
where_of why.TooManyColumns = nowhere
where_of why.CodepageRange = nowhere
where_of why.OverSize = nowhere
where_of why.CellCount = nowhere
where_of why.Unsound = nowhere

-- the code's place in document 01's terms
abbrev pub place_as : CodePlace → Place
place_as Nowhere = nowhere
place_as (Column c) = column c
place_as (Cell r c) = cell r c

-- the answer that a refusal is
abbrev pub refused_by : {A : Type 0} → Refusal → Answer A
refused_by x = refused (number_of x) (where_of x)

-- what a call of the code answers, in document 01's terms; f reads what it gives
abbrev pub answer_as : {T A : Type 0} → (T → A) → Result T Refusal → Answer A
answer_as f (Ok x) = gives (f x)
answer_as f (Err why) = refused_by why

-- the same where what it gives is read as it is
abbrev pub answered : {A : Type 0} → Result A Refusal → Answer A
answered r = answer_as (λ x. x) r
