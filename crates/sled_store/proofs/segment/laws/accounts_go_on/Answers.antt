-- The account of a history goes on.
use Rattle.sled_store.specs.SegmentStates.{popped}
use Rattle.sled_store.proofs.Marks.AccountSteps.{handed_out_account, linked_account, popped_account, replaced_account, stabilized_account, unused_account}
use Rattle.sled_store.proofs.Marks.TableLemmas.{apart_ascends}
use Rattle.sled_store.proofs.segment.laws.accounts_go_on.Goals as goal

pub returns : goal.returns
returns c = record {
  unused = λ size base. unused_account size base;
  hands_out = λ size base H m place account new_place. handed_out_account size base H m account place new_place;
  links = λ size base H m x H' some apart account completes may. linked_account size base H m some (apart_ascends H.messages apart) account x H' completes may;
  replaces = λ size base H m x H' old some apart account completes may begins former.
      replaced_account size base H m some (apart_ascends H.messages apart) account x H' completes may old begins former;
  stabilizes = λ size base H m next raised some apart account le due.
      stabilized_account size base H m some (apart_ascends H.messages apart) account next raised le due;
  pops = λ size base H m account. popped_account size base H m account (popped m.cleaner);
}
