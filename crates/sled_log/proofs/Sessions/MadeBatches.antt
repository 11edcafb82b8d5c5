-- A history with one more batch: what holds of its messages holds still.
use Rattle.std.proofs.Common.{◌≡◌, inl, inr, refl, sym, subst, ℕ, List}
use Rattle.sled_codec.specs.History.{History, Message, table}
use Rattle.sled_codec.specs.PageTables.{IsTable}
use Rattle.sled_codec.specs.Snapshots.{Page}
use Rattle.sled_log.specs.Made.{HasReplaceBelow, IsMade, MayJoin}
use Rattle.sled_log.proofs.Sessions.MadeHistories.{blob_among, joins_among}

-- what holds of the messages of a history holds of all that have these
with_messages : (P : History → Type 0) (H H' : History) → H'.messages ≡ H.messages → P (record { messages = H.messages; batches = H'.batches }) → P H'
with_messages P H H' same holds = subst P (λ i. record { messages = sym same i; batches = H'.batches }) holds

module _ (H H' : History) (same : H'.messages ≡ H.messages) where
  abbrev other : History
  other = record { messages = H.messages; batches = H'.batches }

  pub made_still : IsMade H → IsMade H'
  unfolding table
  made_still made = with_messages IsMade H H' same (record {
    orderly = record {
      formed = record { apart = made.orderly.formed.apart; kinds = made.orderly.formed.kinds; begun = made.orderly.formed.begun; pages = made.orderly.formed.pages };
      few = made.orderly.few;
    };
    blobs = λ m there. blob_among H other m m.pointer (λ x among. among) (made.blobs m there);
    low = made.low;
  })

  pub table_still : (pages : List Page) (cut : ℕ) → IsTable pages H cut → IsTable pages H' cut
  unfolding table
  table_still pages cut is = with_messages (λ G. IsTable pages G cut) H H' same (record {
    states = is.states;
    begun = λ page. (
      λ low. let has = (is.begun page).0 low in record { message = has.message; there = has.there; replaces = has.replaces },
      λ has. (is.begun page).1 (record { message = has.message; there = has.there; replaces = has.replaces }),
    );
  })

  below_still : (page place : ℕ) → HasReplaceBelow H page place → HasReplaceBelow other page place
  below_still page place has = record { message = has.message; there = has.there; of = has.of; replaces = has.replaces; below = has.below }

  pub joins_still : (m : Message) → MayJoin H m → MayJoin H' m
  unfolding table
  joins_still m may = with_messages (λ G. MayJoin G m) H H' same (record {
    changes = may.changes;
    small = may.small;
    blob = joins_among H other m m.pointer (λ x among. among) refl may.blob;
    low = may.low;
    own = elim may.own [ inl replaces ↦ inl replaces | inr has ↦ inr (below_still m.page m.place has) ];
    lower = λ page less. below_still page m.place (may.lower page less);
    later = may.later;
    few = may.few;
  })
