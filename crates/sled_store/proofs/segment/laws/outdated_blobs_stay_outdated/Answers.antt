-- What goes with a segment stays outdated.
use Rattle.sled_store.specs.SegmentStates.{handed_out, linked, popped, stabilized}
use Rattle.sled_store.proofs.Marks.OutdatedSteps.{blobs_same, completed_outdated, former_there, handed_blobs, linked_blobs, none_outdated, outdated_still, replaced_outdated, stabilized_blobs, unused_outdated}
use Rattle.sled_store.proofs.Marks.TableLemmas.{apart_ascends}
use Rattle.sled_store.proofs.segment.laws.outdated_blobs_stay_outdated.Goals as goal

pub returns : goal.returns
returns c = record {
  unused = λ size H. unused_outdated size H;
  hands_out = λ size H m place are. outdated_still size H m (handed_out place m) are (handed_blobs m place);
  completes = λ size H m x H' apart are adds may. completed_outdated size H x H' m adds (none_outdated size H m (apart_ascends H.messages apart) are x may) are;
  links = λ size H m pid info are. outdated_still size H m (linked size pid info m) are (linked_blobs size pid info m);
  replaces = λ size H G m x old apart are there begins more former none may.
      replaced_outdated size H m (apart_ascends H.messages apart) x there begins old (former_there H G x.page old more former) none may are;
  stabilizes = λ size H m next are. outdated_still size H m (stabilized size next m).machine are (stabilized_blobs size next m);
  pops = λ size H m are. outdated_still size H m (record m { cleaner = popped m.cleaner }) are (blobs_same m.slots);
}
