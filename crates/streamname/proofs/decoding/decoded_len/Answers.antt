use Rattle.std.proofs.Common.{rules, arith, ◌^◌, ◌≤◌, length}
use Rattle.std.proofs.lemmas.Iterator.{YieldsList-from_slice}
use Rattle.std.proofs.lemmas.Iterator.Adapters.{fits_from_length, at_most_from_yields_List}
use Rattle.streamname.proofs.DecodeLaws.{short, decoded-length}
use Rattle.streamname.proofs.decoding.decoded_len.Goals as goal

pub sum-requires-clause-fits : goal.sum-requires-clause-fits
sum-requires-clause-fits c =
    let few : length c.args.stored.now ≤ 2 ^ 62 = omega arith in
    fits_from_length _ _ (2 ^ 62) (2 ^ 64) (at_most_from_yields_List (YieldsList-from_slice c.args.stored.now cc) few) c.map.ensures.closure (omega arith) (λ x r q k. search (rules, short))

pub returns : goal.returns
returns c = rw decoded-length (search rules)
