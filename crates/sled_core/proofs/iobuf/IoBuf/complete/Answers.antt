use Rattle.std.proofs.Common.{◌≡◌, ◌∙◌, ap, sym}
use Rattle.sled_codec.specs.Written.{written}
use Rattle.sled_core.specs.declared.iobuf.Reserved.{Reserved}
use Rattle.sled_core.specs.inside.Buffers.{completing}
use Rattle.sled_core.proofs.Reserve.Parts.{get_there}
use Rattle.sled_core.proofs.iobuf.IoBuf.complete.Goals as goal

pub returns : goal.returns
returns c =
    let done = c.end.ensures in
    record {
      bytes = λ r there.
          let same : r ≡ c.index-r.result.now = sym (get_there c.args.self.now.reserved.items c.args.index r c.index-r.result.now there) ∙ sym c.index-r.ensures in
          done.bytes r there ∙ ap (λ (x : Reserved). written c.args.self.now.bytes.items r.from (completing x)) (sym same);
      reserved = done.reserved;
      sealed = done.sealed;
      from = done.from;
      gone = done.gone;
      filled = done.filled;
      long = done.long;
      room = done.room;
    }
