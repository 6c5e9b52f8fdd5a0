-- Four numbers side by side are the values of the head.
use Rattle.std.proofs.Common.{arith}
use Rattle.encoding.proofs.Heading.{four_numbers, values_are}
use Rattle.encoding.proofs.put_values.Goals as goal

pub returns : goal.returns
returns c =
    values_are c.args.head _ _ _ _ c.value_of.ensures c.exc_value.ensures c.writeback_value.ensures
    (four_numbers c.args.out.now c.write_u64.new.bytes c.write_u64-2.new.bytes c.write_u64-3.new.bytes c.write_u64-4.new.bytes
    c.value_of.result c.exc_value.result c.writeback_value.result 0 8 16 24 32
    (omega arith) (omega arith) (omega arith) (omega arith) (omega arith) c.requires
    c.write_u64.ensures c.write_u64-2.ensures c.write_u64-3.ensures c.write_u64-4.ensures)
