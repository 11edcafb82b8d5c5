-- Zeros are written within one slot: a segment of another slot is found as before, and so are the messages that a reader comes to in it. That holds for all that a crash leaves of the write, and for all of it.
use Rattle.std.proofs.Common.{⊎_elim, ◌≡◌, ◌≢◌, ◌⊎◌, ◌∙◌, ◌+◌, ◌/◌, ◌%◌, ◌<◌, ◌≤◌, ℕ, pos, List, [], ◌∷◌, length, replicate, refl, sym, ap, subst, arith, inl, inr}
use Rattle.std.proofs.lemmas.Bool.{cases_order}
use Rattle.sled_codec.specs.declared.result.DiskPtr.{DiskPtr}
use Rattle.sled_codec.specs.declared.result.DiskPtr.TheVariants.{Inline, Blob}
use Rattle.sled_codec.specs.History.{Message, History}
use Rattle.sled_codec.specs.Places.{part}
use Rattle.sled_codec.specs.Pointers.{lid_of}
use Rattle.sled_codec.specs.Record.{IsHeader}
use Rattle.sled_store.specs.Device.{LeavesLog}
use Rattle.sled_core.specs.declared.iterator.Segment.{Segment}
use Rattle.sled_core.specs.inside.Recoverable.{StandsInline, IsReachedIn, IsSegmentOf}
use Rattle.sled_core.specs.inside.Scan.{IsFoundSegment}
use Rattle.sled_core.specs.Scan.{IsPath}
use Rattle.sled_core.proofs.Read.FoundLemmas.{found_there}
use Rattle.sled_core.proofs.Read.ScanLemmas.{met_fits, aligned_offset}
use Rattle.sled_core.proofs.Reached.KeptStands.{read_on_kept}
use Rattle.sled_core.proofs.Torn.TornLemmas.{after_write}
use Rattle.sled_core.proofs.Torn.ZeroedSlots.{grows, kept, path_stays}
use Rattle.sled_core.proofs.Tail.Multiples.{apart}
use Rattle.sled_core.proofs.Tail.Moved.{message_moved}

module _ (sum : List ℕ → ℕ) (size : ℕ) (old : List ℕ) (some : 256 ≤ size) (at count : ℕ) (now left : List ℕ) (no_more : length now ≤ length (replicate {A = ℕ} count 0)) (leaves : LeavesLog (after_write old at (replicate count 0) now) left)
    (slot : ℕ) (slot_at : slot % size ≡ 0) (begin : slot ≤ at) (end : at + count ≤ slot + size) where
  pub beside : (a : ℕ) → a % size ≡ 0 → a ≢ slot → (a + size ≤ at) ⊎ (at + count ≤ a)
  beside a aligned other = elim (cases_order a slot) [
    | inl same ↦ absurd (other same)
    | inr (inl lower) ↦ (let far = apart size (omega (arith, some)) a slot aligned slot_at lower in inl (omega (arith, far, begin)))
    | inr (inr higher) ↦ (let far = apart size (omega (arith, some)) slot a slot_at aligned higher in inr (omega (arith, far, end)))
  ]

  -- a segment in another slot is found as before
  pub found_beside : (least : ℕ) (s : Segment) → s.slot ≢ slot → IsFoundSegment sum size old least s → IsFoundSegment sum size left least s
  found_beside least s other is =
      let apart_here : (s.slot + 20 ≤ at) ⊎ (at + count ≤ s.slot) = ⊎_elim (λ before. inl (omega (arith, before, some))) (λ past. inr past) (beside s.slot is.slot other) in
      let alike = kept sum size old at count now left no_more leaves s.slot 20 (found_there sum size old least s is) apart_here in
      record { slot = is.slot; header = subst (λ (l : List ℕ). IsHeader sum l (pos s.place) s.mark) (sym alike) is.header; not_below = is.not_below }

  -- what lies there has the bytes that it had
  bytes_beside : (a : ℕ) → a % size ≡ 0 → a ≢ slot → (lid len : ℕ) → a ≤ lid → lid + len ≤ a + size → lid + len ≤ length old → part left lid len ≡ part old lid len
  bytes_beside a aligned other lid len low high there =
      let apart_here : (lid + len ≤ at) ⊎ (at + count ≤ lid) = ⊎_elim (λ before. inl (omega (arith, before, high))) (λ past. inr (omega (arith, past, low))) (beside a aligned other) in
      kept sum size old at count now left no_more leaves lid len there apart_here

  in_slot : (s : Segment) → IsFoundSegment sum size old 0 s → (n : Message) → (r : IsReachedIn sum size old s n) → r.at + n.size ≤ size
  in_slot s found n r =
      let room = r.room in
      let inside = (met_fits sum size old (s.slot + r.at) (s.place / size) r.met r.is_met).1 in
      let offset = aligned_offset s.slot r.at size found.slot (omega (arith, room)) in
      let long = r.meets.len in
      omega (arith, inside, offset, long)

  reached_left : (s : Segment) → IsFoundSegment sum size old 0 s → s.slot ≢ slot → (n : Message) → IsReachedIn sum size old s n → IsReachedIn sum size left s n
  reached_left s found other n r =
      let long = r.meets.len in
      let within = in_slot s found n r in
      let before : (s.slot + r.at ≤ at) ⊎ (at + count ≤ s.slot) = ⊎_elim (λ low. inl (omega (arith, low, within))) (λ past. inr past) (beside s.slot found.slot other) in
      let behind : (s.slot + (r.at + r.met.len) ≤ at) ⊎ (at + count ≤ s.slot) = ⊎_elim (λ low. inl (omega (arith, low, within, long))) (λ past. inr past) (beside s.slot found.slot other) in
      let one : IsPath sum size old s.slot s.place r.at (r.met ∷ []) (r.at + r.met.len) = (r.room, r.meets.place ∙ r.place, r.is_met, refl) in
      record {
        before = r.before;
        at = r.at;
        path = path_stays sum size old at count now left no_more leaves s.slot s.place found.slot 20 r.before r.at before r.path;
        room = r.room;
        place = r.place;
        lid = r.lid;
        met = r.met;
        is_met = (path_stays sum size old at count now left no_more leaves s.slot s.place found.slot r.at (r.met ∷ []) (r.at + r.met.len) behind one).2;
        meets = r.meets;
      }

  -- What a table needs of a message below the cut is there, where no segment below the cut lies in the slot.
  pub needed_beside : (H : History) (cut : ℕ) → ((s : Segment) → IsFoundSegment sum size old 0 s → s.slot ≡ slot → cut ≤ s.place) → (m : Message) → m.place < cut
      → IsSegmentOf sum size old H cut m × StandsInline sum size old m m.pointer → IsSegmentOf sum size left H cut m × StandsInline sum size left m m.pointer
  needed_beside H cut free m below had =
      let seg = had.0 in
      let other : seg.segment.slot ≢ slot = λ same. (let above = free seg.segment seg.found same in let place = seg.reached.place in omega (arith, above, below, place)) in (
        record {
          segment = seg.segment;
          found = found_beside 0 seg.segment other seg.found;
          place = seg.place;
          reached = reached_left seg.segment seg.found other m seg.reached;
          whole = λ n known number lower. reached_left seg.segment seg.found other n (seg.whole n known number lower);
          full = λ under. read_on_kept sum size old left seg.segment.slot seg.found.slot (bytes_beside seg.segment.slot seg.found.slot other) H seg.segment refl (seg.full under);
        },
        stands_left seg.reached.at seg.segment.slot m.pointer refl seg.reached.lid (in_slot seg.segment seg.found m seg.reached) (beside seg.segment.slot seg.found.slot other) had.1,
      )
    where
      stands_left : (r s : ℕ) (p : DiskPtr) → m.pointer ≡ p → lid_of m.pointer ≡ s + r → r + m.size ≤ size → (s + size ≤ at) ⊎ (at + count ≤ s) → StandsInline sum size old m p → StandsInline sum size left m p
      stands_left r s (Inline lid) pointer offset within apart_from stands_old =
          let here : lid ≡ s + r = ap lid_of (sym pointer) ∙ offset in
          let there = stands_old.stands.in_file in
          let long = grows sum size old at count now left no_more leaves in
          let apart_here : (lid + m.size ≤ at) ⊎ (at + count ≤ lid) = ⊎_elim (λ low. inl (omega (arith, low, here, within))) (λ past. inr (omega (arith, past, here))) apart_from in
          message_moved sum size old left lid (m.place / size) m (kept sum size old at count now left no_more leaves lid m.size there apart_here) (omega (arith, there, long)) stands_old
      stands_left r s (Blob lid place) pointer offset within apart_from stands_old = tt
