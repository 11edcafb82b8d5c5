use Rattle.std.proofs.Common.{◌∙◌, arith}
use Rattle.sled_codec.specs.Snapshots.{model_of, short_snapshot}
use Rattle.sled_store.proofs.Names.Trailers.{laid_out}
use Rattle.sled_store.proofs.snapshot_file.write_file.Goals as goal

pub returns : goal.returns
returns g c =
    let made = c.serialize_into-len in
    record {
      bytes = laid_out g.C.Checksum.sum_of c.args.bytes.now made.new.buf (short_snapshot (model_of c.args.snapshot.now)) c.copy_from_slice.new.self made.result made.ensures.next (omega (arith, c.requires.room)) made.ensures.bytes (c.copy_from_slice.ensures.after ∙ c.trailer_of-trailer.ensures);
    }
