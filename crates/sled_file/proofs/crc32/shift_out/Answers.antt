-- The tables leave what shifting out leaves.
use Rattle.sled_file.proofs.CrcTables.{by_tables}
use Rattle.sled_file.proofs.crc32.shift_out.Goals as goal

pub returns : goal.returns
returns c = by_tables c.args.bits c.ranges.bits.fits
