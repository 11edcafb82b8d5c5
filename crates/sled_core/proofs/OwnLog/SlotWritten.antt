-- A write into the slot of a segment, of records of its number alone, and of its header where it begins there: nothing own has a greater number behind it than
-- before.
use Rattle.std.proofs.Common.{◌≡◌, ◌∙◌, ◌+◌, ◌*◌, ◌/◌, ◌<◌, ◌≤◌, ℕ, ℤ, pos, false, List, [], ◌∷◌, length, sym, ap, arith, inl, inr}
use Rattle.std.proofs.Math.Nat.{mod-add-div'}
use Rattle.std.proofs.lemmas.Bool.{cases_order}
use Rattle.sled_codec.specs.declared.serialization.message.MessageKind.{MessageKind}
use Rattle.sled_codec.specs.Record.{IsHeader, IsRecord}
use Rattle.sled_store.specs.Device.{Placement, State, Wrote, step}
use Rattle.sled_store.specs.Foreign.{HeaderWasPlaced, RecordWasPlaced}
use Rattle.sled_store.specs.SegmentStates.{Machine, is_free, slot_at}
use Rattle.sled_store.proofs.Own.ReachedLemmas.{record_some}
use Rattle.sled_store.proofs.Segments.FilledLemmas.{slot_before}
use Rattle.sled_core.specs.inside.FreeSlots.{HaveOwn}
use Rattle.sled_core.specs.inside.Hides.{IsOwnRecord, LiesInSlot}
use Rattle.sled_core.specs.inside.Numbers.{HasNumbers}
use Rattle.sled_core.proofs.OwnLog.WrittenOwn.{header_or_written, new, placed_covers, record_or_written}

-- what has some length lies in one slot
one_slot : (size j k at : ℕ) (text : List ℕ) → 0 < length text → LiesInSlot size j at text → LiesInSlot size k at text → j ≡ k
one_slot size j k at text some here there = elim (cases_order j k) [
  | inl same ↦ same
  | inr (inl lower) ↦ absurd (let far = slot_before size j k lower in omega (arith, far, here.1, there.0, some))
  | inr (inr higher) ↦ absurd (let far = slot_before size k j higher in omega (arith, far, there.1, here.0, some))
]

module _ {base : ℕ} (sum : List ℕ → ℕ) (size : ℕ) (s : State) (m : Machine) (end : ℕ)
    (has : HasNumbers sum size base s m end) (slots : HaveOwn size end m) (some : 0 < size)
    (at : ℕ) (asked now : List ℕ)
    (k place : ℕ) (used : is_free (slot_at m k).state ≡ false) (lsn : (slot_at m k).lsn ≡ place) (below : place < end) (begins : place / size * size ≡ place)
    (low : k * size ≤ at) (high : at + length asked ≤ k * size + size) where
  abbrev its : Placement
  its = new sum size s at asked now

  -- what the write placed lies in the slot
  lies_there : (number lid : ℕ) (text : List ℕ) → RecordWasPlaced sum size (its ∷ []) number lid text → LiesInSlot size k lid text
  lies_there number lid text laid =
      let covers = placed_covers sum size its number lid text laid in
      let from = covers.begins in
      let to = covers.ends in
      (omega (arith, from, low), omega (arith, to, high))

  -- it lies in no other one
  its_slot : (number lid : ℕ) (text : List ℕ) → IsOwnRecord sum size (step (Wrote at asked now) s) number lid text
      → RecordWasPlaced sum size (its ∷ []) number lid text → (j : ℕ) → LiesInSlot size j lid text → j ≡ k
  its_slot number lid text own laid j inside =
      let long = record_some sum text own.kind own.page number own.body own.is in
      one_slot size j k lid text (omega (arith, long)) inside (lies_there number lid text laid)

  -- no other slot has the segment's number
  one_number : (j : ℕ) → is_free (slot_at m j).state ≡ false → (slot_at m j).lsn / size ≡ place / size → k ≡ j
  one_number j taken same =
      let its = slots.aligned j taken in
      slots.one k j used taken (let rows = ap (λ n. n * size) same in omega (arith, mod-add-div' (slot_at m j).lsn size, its, rows, begins, lsn))

  pub numbers_written : ((number lid : ℕ) (text : List ℕ) → RecordWasPlaced sum size (its ∷ []) number lid text
      → (kind : MessageKind) (page : ℕ) (body : List ℕ) → IsRecord sum text kind page number body → number ≡ place / size)
      → ((j p : ℕ) (mark : ℤ) (text : List ℕ) → IsHeader sum text (pos p) mark → HeaderWasPlaced (its ∷ []) (j * size) text → (j ≡ k) × (p ≡ place))
      → HasNumbers sum size base (step (Wrote at asked now) s) m end
  numbers_written records headers = record {
    to_come = λ number lid text own. elim (record_or_written sum size s at asked now number lid text own) [
      | inl had ↦ has.to_come number lid text had
      | inr laid ↦ (
          let is = records number lid text laid own.kind own.page own.body own.is in
          omega (arith, below, begins, ap (λ n. n * size) is))
    ];
    taken = λ j taken. record {
      greatest = λ n lid text inside own. elim (record_or_written sum size s at asked now n lid text own) [
        | inl had ↦ (has.taken j taken).greatest n lid text inside had
        | inr laid ↦ (
            let is = records n lid text laid own.kind own.page own.body own.is in
            let here : j ≡ k = its_slot n lid text own laid j inside in
            omega (arith, is, ap (λ p. p / size) (ap (λ i. (slot_at m i).lsn) here ∙ lsn)))
      ];
      only = λ i lid text inside own. let number : ℕ = (slot_at m j).lsn / size in elim (record_or_written sum size s at asked now number lid text own) [
        | inl had ↦ (has.taken j taken).only i lid text inside had
        | inr laid ↦ its_slot number lid text own laid i inside
            ∙ one_number j taken (records number lid text laid own.kind own.page own.body own.is)
      ];
    };
    headers = λ j p mark above own. elim (header_or_written sum size s at asked now j p mark own) [
      | inl had ↦ has.headers j p mark above had
      | inr laid ↦ (
          let is = headers j p mark own.text own.is laid in
          (ap (λ i. is_free (slot_at m i).state) is.0 ∙ used, ap (λ i. (slot_at m i).lsn) is.0 ∙ lsn ∙ sym is.1))
    ];
    lie = λ number lid text own. elim (record_or_written sum size s at asked now number lid text own) [
      | inl had ↦ has.lie number lid text had
      | inr laid ↦ (k, lies_there number lid text laid)
    ];
  }
