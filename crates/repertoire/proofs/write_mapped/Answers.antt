use native.Mathlib.Omega.{arith}
use Rattle.repertoire.proofs.Written.{put_some, one_fits, wrote_one, first_fits, second_fits, wrote_two}
use Rattle.repertoire.proofs.write_mapped.Goals as goal

pub unwrap-requires : goal.unwrap-requires
unwrap-requires c = put_some _ _ _ _ _ c.encode_at.ensures (one_fits _ _ _ _ c.requires c.in-One.is)

pub returns-in-One : goal.returns-in-One
returns-in-One c = wrote_one _ _ _ _ _ _ _ c.requires c.in-One.is c.encode_at.ensures c.unwrap.ensures

pub unwrap-n-requires : goal.unwrap-n-requires
unwrap-n-requires c = put_some _ _ _ _ _ c.encode_at-in-Two.ensures (first_fits _ _ _ _ _ c.requires c.in-Two.is)

pub overflow_add-at : goal.overflow_add-at
overflow_add-at c =
    let f = second_fits _ _ _ _ _ c.requires c.in-Two.is _ _ _ c.encode_at-in-Two.ensures c.unwrap-n.ensures in
    omega (arith, f.room)

pub unwrap-requires-in-Two : goal.unwrap-requires-in-Two
unwrap-requires-in-Two c = put_some _ _ _ _ _ c.encode_at-in-Two-2.ensures
    (second_fits _ _ _ _ _ c.requires c.in-Two.is _ _ _ c.encode_at-in-Two.ensures c.unwrap-n.ensures)

pub returns-in-Two : goal.returns-in-Two
returns-in-Two c = wrote_two _ _ _ _ _ c.requires c.in-Two.is _ _ _ c.encode_at-in-Two.ensures c.unwrap-n.ensures _ _ _
    c.encode_at-in-Two-2.ensures c.unwrap-in-Two.ensures

pub overflow_add-result : goal.overflow_add-result
overflow_add-result c = let w = returns-in-Two c in
    omega (arith, w.counted, c.requires.room)
