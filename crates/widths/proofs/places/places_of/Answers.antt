use Rattle.widths.proofs.Judged.{types_count, count-few}
use Rattle.widths.proofs.Rows.{size-some, size-le, length-widths, widths_given}
use Rattle.widths.specs.Widths.{widths_in, zeros, widths_for}
use Rattle.widths.specs.Judged.{used_types, sound_columns}
use Rattle.cell.specs.declared.form.ColumnType.{ColumnType}
use Rattle.common.specs.Answers.{gives, refusal_of}
use Rattle.common.specs.Lists.{total}
use lib.ListN.{length, drop}
use lib.Seq.{take_at}
use native.Mathlib.Omega.{arith}
use mathlib.Core.List.{List}
use mathlib.Core.Path.{◌≡◌, ap, ◌∙◌}
use Rattle.widths.proofs.places.places_of.Goals as goal

pub starts_of-starts-requires : goal.starts_of-starts-requires
starts_of-starts-requires c =
    let whole : length c.args.columns ≡ 64 = c.well_formed.0.1.0.1 in
    let types : List ColumnType = used_types c.args.columns c.args.count in
    let given : (gives tt ≡ refusal_of (sound_columns c.args.columns c.args.count)) × (c.in_ok-widths.field-0 ≡ widths_for types c.args.long_string_refs) = widths_given c.args.columns c.args.count c.args.long_string_refs c.in_ok-widths.field-0 c.in_ok-widths.ensures in
    let long = c.args.long_string_refs in
    let few = count-few c.args.columns c.args.count given.0 in
    let n = types_count c.args.columns c.args.count few whole in
    let used = take_at (widths_in types long) (drop (length (widths_in types long)) zeros) c.args.count (length-widths long types ∙ n) in
    rw given.1 (few, c.if-bytes-gt-MAX_BYTES.false, ap total used, omega (arith, size-le long types), λ p. size-some long types 0 (omega arith))
