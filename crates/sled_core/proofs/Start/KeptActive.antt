-- A log that goes on from a snapshot stands in each file that keeps the slots which the snapshot uses.
use Rattle.std.proofs.Common.{◌≡◌, ◌∙◌, ◌+◌, ◌*◌, ◌/◌, ◌%◌, ◌≤◌, ◌<◌, ℕ, true, List, length, Some, ap, refl, sym, subst, arith, inl, inr}
use Rattle.std.specs.List.{Contains}
use Rattle.sled_codec.specs.History.{Message, History, table}
use Rattle.sled_codec.specs.PageTables.{IsTable}
use Rattle.sled_codec.specs.Snapshots.{SnapshotModel, stable_place}
use Rattle.sled_store.specs.Begin.{is_used}
use Rattle.sled_core.specs.declared.iobuf.SegmentPosition.{SegmentPosition}
use Rattle.sled_core.specs.declared.iterator.Segment.{Segment}
use Rattle.sled_core.specs.declared.iterator.scan.ScanEnd.TheVariants.{Broken}
use Rattle.sled_store.proofs.Segments.Elements.{in_nothing}
use Rattle.sled_core.specs.OpenBatches.{stable_below}
use Rattle.sled_core.specs.inside.Reached.{StandsTo, StandsAlone, StandsActive, GoesOnIn}
use Rattle.sled_core.specs.inside.Scan.{IsFoundSegment}
use Rattle.sled_core.specs.Tail.{Scanned, IsScanned, least_place}
use Rattle.sled_core.proofs.Start.Entries.{message_used, active_used}
use Rattle.sled_core.proofs.Start.Recoverable.{same_place}
use Rattle.sled_core.proofs.Reached.KeptStands.{SameInUsed, found_kept, scan_kept, kept_stands}
use Rattle.sled_core.proofs.Reached.StartedStands.{found_inside, slot_needed}
use Rattle.sled_core.proofs.Reached.StableBelow.{stable_all}
use Rattle.sled_core.proofs.Reached.Marks.{less_than}
use Rattle.sled_core.proofs.Tail.OneTail.{segment_there, reading_there}
use Rattle.sled_core.proofs.Tail.Moved.{one_in_slot}
use Rattle.sled_core.proofs.Torn.KeptSlots.{KeepsSlots}
use Rattle.sled_core.proofs.Torn.StartedSlots.{UsedIn}

module _ (sum : List ℕ → ℕ) (size : ℕ) (long : 20 ≤ size) (log : List ℕ) (s : SnapshotModel) (H : History) (is : IsTable s.pages H (stable_place s.stable)) (alone : StandsActive sum size log s H) where
  abbrev stable : ℕ
  stable = stable_place s.stable

  -- a slot of the file that the snapshot uses
  abbrev pub Uses : ℕ → Type 0
  Uses = UsedIn size (length log) s

  -- each segment that is found is used
  pub found_used : (x : Segment) → IsFoundSegment sum size log (least_place size s) x → Uses (x.slot / size)
  found_used x found = (active_used size s x.slot (alone.only x found), found_inside sum size log (least_place size s) x long found)

  pub listed_used : (x : Segment) → Contains alone.stands.ordering x → Uses (x.slot / size)
  listed_used x there = found_used x ((alone.stands.numbers.found x).0 there)

  -- and so is that of each entry
  pub entry_slot_used : (cut : ℕ) (low : alone.stands.from ≤ cut) (high : cut ≤ stable) (page : ℕ) (m : Message) (entry : Contains (table H cut page) m) → Uses ((alone.stands.needed cut low high page m entry).0.segment.slot / size)
  entry_slot_used cut low high page m entry =
      let of = (alone.stands.needed cut low high page m entry).0 in
      let begins = alone.stands.from_low in
      let here : cut ≡ stable = omega (arith, low, high, begins) in
      let at_stable = subst (λ n. Contains (table H n page) m) here entry in
      (subst (λ k. is_used size s k ≡ true) (sym (slot_needed sum size log H cut m of)) (message_used size s H stable is page m at_stable), found_inside sum size log 0 of.segment long of.found)

  module _ (some : 256 ≤ size) (left : List ℕ) (keeps : KeepsSlots sum size Uses log left) (same : SameInUsed size Uses log left) where
    pub stands_left : StandsTo sum size left H stable s stable
    stands_left = (kept_stands sum size Uses log left keeps same H stable s stable alone.stands listed_used entry_slot_used some).0

    -- where a write goes on, it still does
    goes_left : (slot from place : ℕ) → GoesOnIn alone.stands.scanned slot from place → GoesOnIn stands_left.scanned slot from place
    goes_left slot from place g =
        let t : Scanned = g.scan in
        let had = segment_there sum size log alone.stands.ordering alone.stands.scanned alone.stands.reads t g.there in
        let found = (alone.stands.numbers.found t.segment).0 had.0 in
        let used = found_used t.segment found in
        let read : IsScanned sum size left t = scan_kept sum size Uses log left keeps same (least_place size s) t.segment found used t.met t.stop t.why had.1 in
        let there = (stands_left.numbers.found t.segment).1 (found_kept sum size Uses log left keeps same (least_place size s) t.segment found used) in
        record {
          scan = t;
          there = reading_there sum size left stands_left.ordering stands_left.scanned stands_left.reads t there read;
          in_slot = g.in_slot;
          at_place = g.at_place;
          ended = g.ended;
          broken = g.broken;
        }

    pub active_left : StandsActive sum size left s H
    active_left = record {
      stands = stands_left;
      only = λ x found. alone.only x (keeps.before (least_place size s) x found);
      going = λ slot active. goes_left slot (stable % size) (stable / size * size) (alone.going slot active);
    }

-- So a log that begins where the snapshot ends stands alone, with the newest snapshot in place of this one.
pub begins_alone : (sum : List ℕ → ℕ) (size : ℕ) (log : List ℕ) (s first : SnapshotModel) (H : History) (site : SegmentPosition) (from : ℕ) → stable_place first.stable ≡ stable_place s.stable → site.place + from ≡ stable_place s.stable
    → site.place ≡ stable_place s.stable / size * size → ((slot : ℕ) → s.active ≡ Some slot → slot ≡ site.slot) → (0 < from → (s.active ≡ Some site.slot) × (from ≡ stable_place s.stable % size))
    → StandsActive sum size log s H → (held : ℕ) → stable_place s.stable ≤ held → StandsAlone sum held size log site from (site.place + from) H first
begins_alone sum size log s first H site from same end begins own behind alone held above =
    let stable : ℕ = stable_place s.stable in
    let reach : ℕ = site.place + from in
    let open_none : stable_below reach H.batches ≡ stable = stable_all reach H.batches (λ b there low. (let under = alone.stands.closed b there (omega (arith, low, end)) in omega (arith, under, end))) ∙ end in
    let on = same_place sum size log H s first stable reach (stable_below reach H.batches) same end open_none alone.stands in
    let least : least_place size first ≡ least_place size s = ap (λ n. n / size * size) same in
    let was : (x : Segment) → IsFoundSegment sum size log (least_place size first) x → IsFoundSegment sum size log (least_place size s) x = λ x found. subst (λ n. IsFoundSegment sum size log n x) least found in
    let here : (x : Segment) → IsFoundSegment sum size log (least_place size s) x → x.place ≡ site.place = λ x found.
    (let z = alone.going x.slot (alone.only x found) in
    let known = segment_there sum size log alone.stands.ordering alone.stands.scanned alone.stands.reads z.scan z.there in
    one_in_slot sum size log (least_place size s) (least_place size s) x z.scan.segment found ((alone.stands.numbers.found z.scan.segment).0 known.0) (sym z.in_slot) ∙ z.at_place ∙ sym begins) in
    record {
      stands = on.0;
      -- all counts from the snapshot's place
      low = (let up = on.0.from_high in omega (arith, up, open_none, above));
      reached = inl refl;
      led = inr (inl (omega (arith, begins, least)));
      here = record {
        only = λ x found at. own x.slot (alone.only x (was x found));
        own = λ x found at. here x (was x found);
        read = λ some.
            let at = behind some in
            let g : GoesOnIn on.0.scanned site.slot from site.place = subst (λ (ss : List Scanned). GoesOnIn ss site.slot from site.place) (sym on.1)
            (subst (λ n. GoesOnIn alone.stands.scanned site.slot n site.place) (sym at.1) (subst (λ n. GoesOnIn alone.stands.scanned site.slot (stable % size) n) (sym begins) (alone.going site.slot at.0))) in
            (from, Broken, record { scan = g.scan; there = g.there; in_slot = g.in_slot; at_place = g.at_place; ended = g.ended; ends = g.broken }, inl (refl, λ room. refl), λ whole. omega arith);
      };
      behind = λ x among. absurd (in_nothing x among);
      apart = tt;
      last = λ x found. inl (omega (arith, here x (was x found)));
      below = λ x found. (
          let known = (alone.stands.numbers.found x).1 (was x found) in
          less_than x.mark x.place reach (omega (arith, here x (was x found))) (alone.stands.marks x known).below);
    }
