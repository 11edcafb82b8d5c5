-- The log file that a recovery leaves has what a log needs of it that goes on from the snapshot: the messages of the active segment up to the cut, behind its header, with zeros behind them, and the records of all entries, in slots that the snapshot uses.
use Rattle.std.proofs.Common.{◌≡◌, ◌∙◌, ◌+◌, ◌-◌, ◌*◌, ◌/◌, ◌%◌, ◌<◌, ◌≤◌, ℕ, pos, List, Option, Some, None, get_or, refl, sym, ap, subst, arith, inl, inr}
use Rattle.std.specs.List.{Contains}
use Rattle.sled_codec.specs.declared.result.DiskPtr.{DiskPtr}
use Rattle.sled_codec.specs.declared.result.DiskPtr.TheVariants.{Inline}
use Rattle.sled_codec.specs.Pointers.{lid_of}
use Rattle.sled_codec.specs.Places.{MayBegin, part}
use Rattle.sled_codec.specs.Record.{IsHeader}
use Rattle.sled_codec.specs.History.{Message, History, table}
use Rattle.sled_codec.specs.PageTables.{IsTable}
use Rattle.sled_codec.specs.Snapshots.{SnapshotModel, stable_place}
use Rattle.sled_store.specs.Begin.{is_used}
use Rattle.sled_store.proofs.Histories.Ascending.{Ascends}
use Rattle.sled_core.specs.LogFile.{HasHeader, StandsHere}
use Rattle.sled_core.specs.Ready.{StandsUsed, HaveRecords, HasActive, HasNoActive, HasFile, active_site}
use Rattle.sled_core.specs.inside.Recoverable.{ActiveFits, StandsInline, IsRecoverableLog}
use Rattle.sled_core.specs.Tail.{Scanned, IsScanned}
use Rattle.sled_core.proofs.Read.ScanLemmas.{aligned_offset}
use Rattle.sled_core.proofs.Reached.ReachedEntries.{reached_of}
use Rattle.sled_core.proofs.Tail.GreatestMark.{mark_below}
use Rattle.sled_core.proofs.Tail.Multiples.{put_down}
use Rattle.sled_core.proofs.Tail.OfHistory.{message_of}
use Rattle.sled_core.proofs.Tail.OneTail.{segment_there}
use Rattle.sled_core.proofs.Tail.Rows.{stand_in, met_stand, covers}
use Rattle.sled_log.proofs.Moments.FromCut.{EndsAtCut}
use Rattle.sled_log.proofs.Ready.ReadToPlace.{EndsThere}
use Rattle.sled_log.proofs.Ready.SlotNamed.{uses_entry}
use Rattle.sled_log.proofs.Recovers.PassCut.{whole}
pub use Rattle.sled_core.proofs.Reached.MetWritten.{reached_begins}

module _ (sum : List ℕ → ℕ) (size : ℕ) (log : List ℕ) (some : 256 ≤ size) (H : History) (A : ℕ) (next : SnapshotModel) (cut : ℕ × Option ℕ) (is : IsRecoverableLog sum size log H A next cut)
    (place : stable_place next.stable ≡ cut.0) (active : ActiveFits size (stable_place next.stable) next.active) (messages : (m : Message) → Contains H.messages m → m.place < cut.0) (ordered : Ascends H.messages)
    (pages : IsTable next.pages H cut.0) (same : next.active ≡ cut.1) (ends : EndsThere sum size log some is.scanned cut) where
  -- Entries.

  entry_stands : (page : ℕ) (m : Message) → Contains (table H cut.0 page) m → (lid : ℕ) → m.pointer ≡ Inline lid → StandsUsed sum size log next lid m
  entry_stands page m there lid pointer =
      let needed = is.needed page m there in
      let at : lid_of m.pointer ≡ lid = ap lid_of pointer in
      record {
        begins = subst (MayBegin size) at (reached_begins sum size log needed.0.segment m needed.0.found.slot needed.0.reached);
        stands = subst (λ (p : DiskPtr). StandsInline sum size log m p) pointer needed.1;
        used = ap (λ n. is_used size next (n / size)) (sym at) ∙ uses_entry size next H cut.0 page m pages there;
      }

  records : (below : ℕ) → HaveRecords sum size log next H below
  records below page m there lower lid pointer = entry_stands page m (subst (λ n. Contains (table H n page) m) place there) lid pointer

  -- The active segment.

  module _ (z : Scanned) (stop : EndsAtCut sum size log some is.scanned cut z) (slot : ℕ) (has : cut.1 ≡ Some slot) where
    slots : z.segment.slot ≡ slot
    slots = let both : Some z.segment.slot ≡ Some slot = sym stop.slot ∙ has in cc

    known : Contains is.ordering z.segment × IsScanned sum size log z
    known = segment_there sum size log is.ordering is.scanned is.reads z stop.there

    header : HasHeader sum log (active_site size cut.0 slot)
    header =
        let found = (is.numbers.found z.segment).0 known.0 in
        let mark = is.marks z.segment known.0 in
        record {
          mark = z.segment.mark;
          header = subst (λ (s : ℕ). IsHeader sum (part log s 20) (pos (cut.0 / size * size)) z.segment.mark) slots (subst (λ n. IsHeader sum (part log z.segment.slot 20) (pos n) z.segment.mark) stop.place found.header);
          below = λ n at. (let low = mark_below z.segment.mark n z.segment.place at mark.below in omega (arith, low, stop.place));
        }

    -- each message of it was met, and its record stands
    own : (m : Message) → Contains H.messages m → cut.0 / size * size ≤ m.place → (lid : ℕ) → m.pointer ≡ Inline lid → StandsHere sum size log (active_site size cut.0 slot) (cut.0 % size) lid m
    own m there above lid pointer =
        let under = messages m there in
        let lies = is.placed m there under in
        let at = stop.place in
        let ended = stop.stop in
        let parts = put_down size cut.0 in
        let own_parts = put_down size m.place in
        let low = lies.begins.behind in
        let inside : cut.0 % size < size = omega (arith, some) in
        let offset : m.place % size ≡ m.place - cut.0 / size * size = (let n : ℕ = m.place - cut.0 / size * size in ap (λ k. k % size) (omega (arith, above)) ∙ aligned_offset (cut.0 / size * size) n size parts.1 (omega (arith, under, parts.0, inside))) in
        let its = whole sum size log some H A next cut is z stop.there in
        let x = covers sum size log some z its m.place (omega (arith, at, above, offset, low)) (omega (arith, ended, under)) in
        let within = stand_in (z.segment.place + 20) z.met (z.segment.place + z.stop) (met_stand sum size log some z its) x.0 x.1 in
        let met = message_of sum size log H ordered x.0 (is.truth z x.0 stop.there x.1) m there x.2 x.3 in
        let reached = reached_of sum size log z known.1 x.0 x.1 m met.0 in
        let aligned = ((is.numbers.found z.segment).0 known.0).slot in
        let here : lid_of m.pointer ≡ lid = ap lid_of pointer in
        let its_place = met.0.place in
        let its_len = met.0.len in
        let its_at = reached.place in
        let its_lid = reached.lid in
        record {
          at = reached.at;
          place = omega (arith, its_at, at);
          offset = omega (arith, here, its_lid, slots);
          begins = subst (MayBegin size) here (reached_begins sum size log z.segment m aligned reached);
          stands = subst (λ (p : DiskPtr). StandsInline sum size log m p) pointer met.1;
          inside = omega (arith, within.2, its_place, its_len, its_at, at, ended, parts.0);
        }

  -- The file, by the slot that is active.
  module _ (clean : (slot : ℕ) → cut.1 ≡ Some slot → (i : ℕ) → slot + cut.0 % size ≤ i → i < slot + size → get_or log i 0 ≡ 0) where
    none_active : next.active ≡ None → HasNoActive sum size log next H
    none_active none = record { begins = subst (ActiveFits size (stable_place next.stable)) none active; older = records (stable_place next.stable) }

    some_active : (slot : ℕ) → next.active ≡ Some slot → HasActive sum size log next slot H
    some_active slot has = by ends where
      has_slot : cut.1 ≡ Some slot
      has_slot = sym same ∙ has

      begins : 20 ≤ stable_place next.stable % size
      begins = (subst (ActiveFits size (stable_place next.stable)) has active).0

      by : EndsThere sum size log some is.scanned cut → HasActive sum size log next slot H
      by (inr (no_slot, aligned)) = let none : None ≡ Some slot = sym no_slot ∙ has_slot in cc
      by (inl (z, stop)) = record {
        inside = begins;
        header = subst (λ n. HasHeader sum log (active_site size n slot)) (sym place) (header z stop slot has_slot);
        own = subst (λ n. (m : Message) → Contains H.messages m → n / size * size ≤ m.place → (lid : ℕ) → m.pointer ≡ Inline lid → StandsHere sum size log (active_site size n slot) (n % size) lid m) (sym place) (own z stop slot has_slot);
        older = records (stable_place next.stable / size * size);
        clean = subst (λ n. (i : ℕ) → slot + n % size ≤ i → i < slot + size → get_or log i 0 ≡ 0) (sym place) (clean slot has_slot);
      }

    -- The file is there.
    pub has_file : HasFile sum size log next next.active H
    has_file = by next.active refl where
      by : (o : Option ℕ) → next.active ≡ o → HasFile sum size log next o H
      by None none = none_active none
      by (Some slot) has = some_active slot has
