-- What `encode`, `decode` and `is_valid` answer, and what their output holds afterwards.
use Rattle.std.specs.Prelude.{ℕ, Bool, ◌||◌, List, length, Result}
use Rattle.common.specs.Choice.{when◌then◌else◌, ◌<?◌}
use Rattle.common.specs.Sizes.{max_name, max_stored}
use Rattle.common.specs.Answers.{Answer, gives, refused, nowhere, on_given, outcome, written_to}
use Rattle.common.specs.Refusals.{answer_as}
use Rattle.common.specs.declared.refusal.Refusal.{Refusal}
use Rattle.streamname.specs.Names.{encoded_name, is_table, decoded_name, valid}
use Rattle.streamname.specs.declared.Decoded.{Decoded}

-- "22 first"; "Names and pool writing: 7"
abbrev pub encode_answer : List ℕ → Bool → List ℕ → Answer (ℕ × List ℕ)
encode_answer name table out =
    when max_name <? length name then refused 22 nowhere
    else written_to out (encoded_name name table)

abbrev pub encode_outcome : List ℕ → Bool → List ℕ → Answer ℕ × List ℕ
encode_outcome name table out = outcome out (encode_answer name table out)

-- a stored name, and the name that it stands for, are within the sizes, or 22
abbrev pub decode_answer : List ℕ → List ℕ → Answer ((ℕ × Bool) × List ℕ)
decode_answer stored out =
    let result = decoded_name stored in
    when max_stored <? length stored || max_name <? length result then refused 22 nowhere
    else on_given (written_to out result) (λ x. gives ((x.0, is_table stored), x.1))

abbrev pub decode_outcome : List ℕ → List ℕ → Answer (ℕ × Bool) × List ℕ
decode_outcome stored out = outcome out (decode_answer stored out)

abbrev pub valid_answer : List ℕ → Bool → Answer Bool
valid_answer name table = when max_name <? length name then refused 22 nowhere else gives (valid name table)

-- the name's units and flag, in document 01's terms
abbrev pub decoded_as : Result Decoded Refusal → Answer (ℕ × Bool)
decoded_as decoded = answer_as (λ (d : Decoded). (d.units, d.is_table)) decoded
