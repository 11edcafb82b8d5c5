use Rattle.sled_core.proofs.PublicLaws.{table_kept}
use Rattle.sled_core.proofs.laws.what_was_in_a_table_keeps_its_record.Goals as goal

pub returns : goal.returns
returns g c = λ old new H H' m cut before after same grows up entry.
    table_kept g.D.Device.trace g.C.Checksum.sum_of old new H H' m cut before after same grows up entry
