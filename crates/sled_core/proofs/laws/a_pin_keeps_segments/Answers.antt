-- A slot that is handed out was free, a write frees none while a pin is out, and marks change no segment.
use Rattle.sled_core.proofs.Iterated.SegmentsStay.{segment_linked, segment_next, segment_replaced, segment_reserved, segment_sealed, segment_written}
use Rattle.sled_core.proofs.laws.a_pin_keeps_segments.Goals as goal

pub returns : goal.returns
returns g c = record {
  reserved = λ log H A f U page n place fits has. segment_reserved g.D.Device.trace g.C.Checksum.sum_of log H A f U fits place has page n;
  next = λ log H A f U place fits has. segment_next g.D.Device.trace g.C.Checksum.sum_of log H A f U fits place has;
  sealed = λ log H A f U at place fits has. segment_sealed g.D.Device.trace g.C.Checksum.sum_of log H A f U fits place has at;
  written = λ size bs l place pinned has. segment_written size bs l place pinned has;
  linked = λ size pid info m place may has. segment_linked size pid info m place may has;
  replaced = λ size pid info old m place may has. segment_replaced size pid info old m place may has;
}
