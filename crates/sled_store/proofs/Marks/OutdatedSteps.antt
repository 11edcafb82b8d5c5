-- What each step makes of the blobs that go with segments: they stay outdated, and those that come are.
use Rattle.std.proofs.Common.{if◌then◌else◌, ⊎_elim, ◌≡◌, ◌∙◌, ◌⊎◌, ◌&&◌, ◌+◌, ◌-◌, ◌*◌, ◌/◌, ◌<◌, ◌≤◌, ℕ, ℤ, Bool, true, false, not, nat_lt, nat_le, List, [], ◌∷◌, ◌++◌, length, set, filter, get_or, refl, sym, ap, subst, arith, inl, inr}
use Rattle.std.specs.List.{Contains}
use Rattle.std.specs.BTreeSet.{insert_key}
use Rattle.std.specs.Ordering.{int_cmp, int_eq}
use Rattle.std.proofs.lemmas.Bool.{true≢false, cases_lt, and_parts}
use Rattle.std.proofs.lemmas.Bool.Decides.{Decides-int_eq}
use Rattle.std.proofs.lemmas.List.{get_or-set_other, length-set}
use Rattle.sled_codec.specs.declared.result.DiskPtr.{DiskPtr}
use Rattle.sled_codec.specs.declared.result.DiskPtr.TheVariants.{Inline, Blob}
use Rattle.sled_codec.specs.History.{AddsMessage, History, Message, begins_page, table}
use Rattle.sled_codec.specs.Pointers.{lid_of}
use Rattle.sled_store.specs.Marks.{IsFormerList, IsSuperseded, info_of, slot_with}
use Rattle.sled_store.specs.Outdated.{AreOutdated, IsNamedNow, IsOutdated, MayName, NamesBlob, NoneShares}
use Rattle.sled_store.specs.SegmentStates.{SlotState, Machine, MayMark, active_among, all_outdated, deactivated, drained, drained_if_sparse, drained_if_wasteful, drained_slot, free_slot, freed, handed_out, in_turn, inactive_among, inactive_slot, is_active, is_active_place, is_done, is_due, is_free, is_inactive, is_sparse, is_wasteful, linked, linked_slot, next_slot, outdated, outdating, replaced, replaced_all, replaced_one, replaced_slot, segment_place, slot_at, stabilized, taken_slot, tested, unused_machine, waiting_for, with_slot}
use Rattle.sled_store.specs.Tracked.{at}
use Rattle.sled_store.specs.declared.segment.slot.CacheInfo.{CacheInfo}
use Rattle.sled_store.specs.inside.Outdated.{NamesNoOutdated}
use Rattle.sled_store.proofs.Histories.Ascending.{Ascends, one_at_place}
use Rattle.sled_store.proofs.Segments.Elements.{in_first, in_nothing, in_rest}
use Rattle.sled_store.proofs.Segments.TableEntries.{from_table}
use Rattle.sled_store.proofs.Marks.FormerLists.{from_former}
use Rattle.sled_store.proofs.Marks.MarkSteps.{SameSegments, inactive_not_active, linked_same}
use Rattle.sled_store.proofs.Marks.MarkedLemmas.{not_superseded, superseded_more}
use Rattle.sled_store.proofs.Marks.SlotLemmas.{Changes, each_slot, free_behind, from_insert, push_changes, set_changes, taken_there}
use Rattle.sled_store.proofs.Marks.StabilizeSteps.{wasteful_inactive}
use Rattle.sled_store.proofs.Marks.TableLemmas.{added_cases, added_keeps, entry_above}

-- Slots.

-- A blob that goes with the segment in a slot did so before, and the segment is as active as it was.
pub record IsKeptBlob (old new : SlotState) (blob : ℤ) : Type 0 where
  pub there : Contains old.blobs blob
  pub active : is_active old.state ≡ true → is_active new.state ≡ true
  pub lsn : new.lsn ≡ old.lsn

-- no other blob goes with a segment than did
abbrev pub KeepsBlobs : List SlotState → List SlotState → Type 0
KeepsBlobs old new = (k : ℕ) (blob : ℤ) → Contains (at new k).blobs blob → IsKeptBlob (at old k) (at new k) blob

pub blobs_same : (ss : List SlotState) → KeepsBlobs ss ss
blobs_same ss k blob there = record { there = there; active = λ is. is; lsn = refl }

pub blobs_then : (old mid new : List SlotState) → KeepsBlobs old mid → KeepsBlobs mid new → KeepsBlobs old new
blobs_then old mid new first more k blob there =
    let last = more k blob there in
    let one = first k blob last.there in
    record { there = one.there; active = λ is. last.active (one.active is); lsn = last.lsn ∙ one.lsn }

blobs_changed : (ss : List SlotState) (k : ℕ) (s : SlotState) (new : List SlotState) → Changes ss k s new
    → ((blob : ℤ) → Contains s.blobs blob → IsKeptBlob (at ss k) s blob)
    → KeepsBlobs ss new
blobs_changed ss k s new changes here =
    each_slot (λ j x. (blob : ℤ) → Contains x.blobs blob → IsKeptBlob (at ss j) x blob) ss k s new changes here
    (λ j other blob there. blobs_same ss j blob there)

-- where one slot is set whose blobs it had, in range or not
blobs_set : (ss : List SlotState) (k : ℕ) (s : SlotState) → ((blob : ℤ) → Contains s.blobs blob → IsKeptBlob (at ss k) s blob) → KeepsBlobs ss (set ss k s)
blobs_set ss k s here = ⊎_elim (λ lt. blobs_changed ss k s (set ss k s) (set_changes ss k s lt) here) (λ le. behind le) (cases_lt k (length ss)) where
  behind : length ss ≤ k → KeepsBlobs ss (set ss k s)
  behind le = blobs_changed ss k free_slot (set ss k s) (record {
    here = free_behind (set ss k s) k (let long = length-set ss k s in omega (arith, long, le));
    others = λ j other. get_or-set_other ss k j s free_slot other;
  }) (λ blob there. absurd (in_nothing blob there))

-- a slot that is set and has no blobs
pub set_without : (ss : List SlotState) (k : ℕ) (s : SlotState) → s.blobs ≡ [] → KeepsBlobs ss (set ss k s)
set_without ss k s none = blobs_set ss k s (λ blob there. absurd (in_nothing blob (subst (λ (bs : List ℤ). Contains bs blob) none there)))

-- Steps of the slots.

pub handed_blobs : (m : Machine) (place : ℕ) → KeepsBlobs m.slots (handed_out place m).slots
handed_blobs m place = by (nat_lt (next_slot m) (length m.slots)) where
  by : (b : Bool) → KeepsBlobs m.slots (if b then set m.slots (next_slot m) (taken_slot place) else m.slots ++ taken_slot place ∷ [])
  by true = set_without m.slots (next_slot m) (taken_slot place) refl
  by false =
      blobs_changed m.slots (length m.slots) (taken_slot place) (m.slots ++ taken_slot place ∷ []) (push_changes m.slots (taken_slot place))
      (λ blob there. absurd (in_nothing blob there))

pub linked_blobs : (size pid : ℕ) (info : CacheInfo) (m : Machine) → KeepsBlobs m.slots (linked size pid info m).slots
linked_blobs size pid info m =
    let k = lid_of info.pointer / size in
    blobs_set m.slots k (linked_slot pid info.log_size (slot_at m k)) (λ blob there. record { there = there; active = λ is. is; lsn = refl })

-- one that isn't active is drained
pub drained_blobs : (m : Machine) (k : ℕ) → is_inactive (slot_at m k).state ≡ true → KeepsBlobs m.slots (drained k m).slots
drained_blobs m k inactive =
    blobs_set m.slots k (drained_slot (slot_at m k))
    (λ blob there. record { there = there; active = λ is. absurd (true≢false (sym is ∙ inactive_not_active (slot_at m k) inactive)); lsn = refl })

sparse_blobs : (size : ℕ) (m : Machine) (k : ℕ) → KeepsBlobs m.slots (drained_if_sparse size k m).slots
sparse_blobs size m k = by (is_sparse size (slot_at m k)) refl where
  by : (b : Bool) → is_sparse size (slot_at m k) ≡ b → KeepsBlobs m.slots (if b then drained k m else m).slots
  by true sparse = drained_blobs m k (and_parts (is_inactive (slot_at m k).state) (nat_le ((slot_at m k).held * 100 / size) 50) sparse).0
  by false full = blobs_same m.slots

-- older messages are replaced
all_blobs : (size pid place : ℕ) (os : List CacheInfo) (m : Machine) → KeepsBlobs m.slots (replaced_all size pid place os m).slots
all_blobs size pid place [] m = blobs_same m.slots
all_blobs size pid place (o ∷ os) m =
    let k = lid_of o.pointer / size in
    let s : SlotState = replaced_slot pid o.log_size place (slot_at m k) in
    let n : Machine = replaced_one size pid place o m in
    let one : KeepsBlobs m.slots n.slots = blobs_then m.slots (set m.slots k s) n.slots
    (blobs_set m.slots k s (λ blob there. record { there = there; active = λ is. is; lsn = refl })) (sparse_blobs size (with_slot k s m) k) in
    blobs_then m.slots n.slots (replaced_all size pid place (o ∷ os) m).slots one (all_blobs size pid place os n)

-- slots are freed
freed_blobs : (size : ℕ) (ks : List ℕ) (m : Machine) → KeepsBlobs m.slots (in_turn (freed size) ks m).machine.slots
freed_blobs size [] m = blobs_same m.slots
freed_blobs size (k ∷ ks) m =
    let n : Machine = (freed size k m).machine in
    blobs_then m.slots n.slots (in_turn (freed size) ks n).machine.slots (set_without m.slots k free_slot refl) (freed_blobs size ks n)

tested_blobs : (size k : ℕ) (m : Machine) → KeepsBlobs m.slots (tested size k m).machine.slots
tested_blobs size k m =
    blobs_then m.slots n.slots (tested size k m).machine.slots (sparse_blobs size m k)
    (by (is_done (slot_at n k) && not (is_active_place n (slot_at n k).latest))) where
      n : Machine
      n = drained_if_sparse size k m

      by : (b : Bool) → KeepsBlobs n.slots (if b then freed size k n else record { machine = n; calls = [] }).machine.slots
      by true = set_without n.slots k free_slot refl
      by false = blobs_same n.slots

wasteful_blobs : (m : Machine) → KeepsBlobs m.slots (drained_if_wasteful m).slots
wasteful_blobs m = by (is_wasteful m.slots) refl where
  by : (b : Bool) → is_wasteful m.slots ≡ b
      → KeepsBlobs m.slots (if b then drained (get_or (inactive_among m.slots) (length (inactive_among m.slots) - 1) 0) m else m).slots
  by true wasteful = drained_blobs m (get_or (inactive_among m.slots) (length (inactive_among m.slots) - 1) 0) (wasteful_inactive m wasteful)
  by false lean = blobs_same m.slots

-- a segment is deactivated
pub deactivated_blobs : (size : ℕ) (a : ℕ × ℕ) (m : Machine) → KeepsBlobs m.slots (deactivated size a m).machine.slots
deactivated_blobs size a m =
    let n : Machine = with_slot a.1 (inactive_slot (slot_at m a.1)) m in
    let freed_all : Machine = (in_turn (freed size) (waiting_for a.0 n) n).machine in
    let after_test : Machine = (tested size a.1 freed_all).machine in
    blobs_then m.slots n.slots (drained_if_wasteful after_test).slots (set_without m.slots a.1 (inactive_slot (slot_at m a.1)) refl)
    (blobs_then n.slots freed_all.slots (drained_if_wasteful after_test).slots (freed_blobs size (waiting_for a.0 n) n)
    (blobs_then freed_all.slots after_test.slots (drained_if_wasteful after_test).slots (tested_blobs size a.1 freed_all) (wasteful_blobs after_test)))

all_deactivated_blobs : (size : ℕ) (due : List (ℕ × ℕ)) (m : Machine) → KeepsBlobs m.slots (in_turn (deactivated size) due m).machine.slots
all_deactivated_blobs size [] m = blobs_same m.slots
all_deactivated_blobs size (a ∷ due) m =
    let n : Machine = (deactivated size a m).machine in
    blobs_then m.slots n.slots (in_turn (deactivated size) due n).machine.slots (deactivated_blobs size a m) (all_deactivated_blobs size due n)

pub stabilized_blobs : (size : ℕ) (next : ℤ) (m : Machine) → KeepsBlobs m.slots (stabilized size next m).machine.slots
stabilized_blobs size next m = all_deactivated_blobs size (filter (λ (a : ℕ × ℕ). is_due size next a.0) (active_among m.slots)) m

-- Outdated blobs.

-- They stay so in a history with more messages, of which none names one of them, and with slots that have no other blobs.
pub outdated_kept : (size : ℕ) (H H' : History) (m n : Machine) → AreOutdated size H m → KeepsBlobs m.slots n.slots
    → ((x : Message) → Contains H.messages x → Contains H'.messages x)
    → ((x : Message) → Contains H'.messages x → Contains H.messages x ⊎ NamesNoOutdated m x) → AreOutdated size H' n
outdated_kept size H H' m n are keeps more new k blob there =
    let kept = keeps k blob there in
    let was = are k blob kept.there in
    let lsn : (slot_at n k).lsn ≡ (slot_at m k).lsn = kept.lsn in
    record {
      active = kept.active was.active;
      message = was.message;
      there = more was.message was.there;
      names = was.names;
      superseded =
          λ e found names. ⊎_elim
          (λ old. superseded_more size ((slot_at m k).lsn + size) ((slot_at n k).lsn + size) H H' e more (omega (arith, lsn)) (was.superseded e old names))
          (λ none. absurd (none k blob kept.there names)) (new e found);
    }

-- so it is where the history is the same
pub outdated_still : (size : ℕ) (H : History) (m n : Machine) → AreOutdated size H m → KeepsBlobs m.slots n.slots → AreOutdated size H n
outdated_still size H m n are keeps = outdated_kept size H H m n are keeps (λ x there. there) (λ x there. inl there)

pub unused_outdated : (size : ℕ) (H : History) → AreOutdated size H unused_machine
unused_outdated size H k blob there = absurd (in_nothing blob (subst (λ (s : SlotState). Contains s.blobs blob) (free_behind [] k (omega arith)) there))

-- A message is completed that names none of them.
pub completed_outdated : (size : ℕ) (H : History) (x : Message) (H' : History) (m : Machine) → AddsMessage H x H' → NamesNoOutdated m x
    → AreOutdated size H m → AreOutdated size H' m
completed_outdated size H x H' m adds none are =
    outdated_kept size H H' m m are (blobs_same m.slots) (added_keeps H x H' adds)
    (λ y found. ⊎_elim (λ is. inr (subst (NamesNoOutdated m) is none)) (λ old. inl old) (added_cases H x H' adds y found))

module _ (size : ℕ) (H : History) (m : Machine) (order : Ascends H.messages) (are : AreOutdated size H m) where
  -- No entry of a table from the segment's end on names one of them,
  pub outdated_in_no_table : 0 < size → (k : ℕ) (blob : ℤ) → Contains (slot_at m k).blobs blob → (cut page : ℕ) (e : Message)
      → (slot_at m k).lsn + size ≤ cut → Contains (table H cut page) e
      → NamesBlob e blob → ⊥
  outdated_in_no_table some k blob there cut page e le entry names =
      not_superseded size ((slot_at m k).lsn + size) H cut page e some order entry le ((are k blob there).superseded e (from_table H cut page e entry).0 names)

  -- so one that a message may name isn't among them.
  pub none_outdated : (x : Message) → MayName H x → NamesNoOutdated m x
  none_outdated x may k blob there names = ⊎_elim (λ none. none out.message out.there out.names) now (may blob names) where
    out : IsOutdated size H (slot_at m k) blob
    out = are k blob there

    now : IsNamedNow H blob → ⊥
    now is =
        let by : IsSuperseded size ((slot_at m k).lsn + size) H is.entry = out.superseded is.entry (from_table H is.cut is.page is.entry is.there).0 is.names in
        omega (arith, entry_above H is.cut is.page is.entry order is.there by.message by.there by.same_page by.begins (is.past by.message by.there), by.later)

-- Blobs that come.

-- An older message names a blob that the new one doesn't.
abbrev NamesOther : DiskPtr → DiskPtr → ℤ → Type 0
NamesOther new old blob = (lid : ℕ) × (old ≡ Blob lid blob) × ((l : ℕ) → new ≡ Blob l blob → ⊥)

-- A blob that goes because of a replaced message is that.
from_one : (new old : DiskPtr) (blobs : List ℤ) (blob : ℤ) → Contains (outdated new old blobs) blob → Contains blobs blob ⊎ NamesOther new old blob
from_one (Inline lid) (Inline lid_then) blobs blob there = inl there
from_one (Blob lid place) (Inline lid_then) blobs blob there = inl there
from_one (Inline lid) (Blob lid_then place_then) blobs blob there =
    ⊎_elim (λ is. inr (lid_then, ap (λ (p : ℤ). Blob lid_then p) is, λ l same. cc)) (λ was. inl was) (from_insert int_cmp blobs place_then blob there)
from_one (Blob lid place) (Blob lid_then place_then) blobs blob there = by (int_eq place place_then) refl there where
  by : (b : Bool) → int_eq place place_then ≡ b → Contains (if b then blobs else insert_key int_cmp blobs place_then) blob
      → Contains blobs blob ⊎ NamesOther (Blob lid place) (Blob lid_then place_then) blob
  by true same found = inl found
  by false other found =
      ⊎_elim (λ is. inr (
        lid_then,
        ap (λ (p : ℤ). Blob lid_then p) is,
        λ l same.
            let own : place ≡ blob = cc in
            true≢false (sym ((Decides-int_eq place place_then).1 (own ∙ sym is)) ∙ other),
      )) (λ was. inl was) (from_insert int_cmp blobs place_then blob found)

from_all : (new : DiskPtr) (os : List CacheInfo) (blobs : List ℤ) (blob : ℤ) → Contains (all_outdated new os blobs) blob
    → Contains blobs blob ⊎ ((o : CacheInfo) × Contains os o × NamesOther new o.pointer blob)
from_all new [] blobs blob there = inl there
from_all new (o ∷ os) blobs blob there = elim (from_all new os (outdated new o.pointer blobs) blob there) [
  | inl before ↦ elim (from_one new o.pointer blobs blob before) [ inl was ↦ inl was | inr named ↦ inr (o, in_first o os, named) ]
  | inr later ↦ inr (later.0, in_rest o later.0 os later.1, later.2)
]

-- A message is there in place of older ones of its page, whose blobs no other message needs.
module _ (size : ℕ) (H : History) (m : Machine) (order : Ascends H.messages) (x : Message) (there : Contains H.messages x)
    (begins : begins_page x.kind ≡ true) (old : List CacheInfo)
    (former : (o : CacheInfo) → Contains old o → (e : Message) × Contains H.messages e × (e.pointer ≡ o.pointer)) (none : NoneShares H x old) where
  -- a message that names such a blob lies below it
  lower : (blob : ℤ) → (NamesBlob x blob → ⊥) → (e : Message) → Contains H.messages e → NamesBlob e blob → e.place ≤ x.place → e.place < x.place
  lower blob other e found names le = ⊎_elim (λ lt. lt) (λ ge.
      let same : e ≡ x = one_at_place H.messages e x order found there (omega (arith, le, ge)) in
      absurd (other (subst (λ (y : Message). NamesBlob y blob) same names))) (cases_lt e.place x.place)

  -- Each blob that comes is outdated,
  comes_outdated : (s : SlotState) → is_active s.state ≡ true → x.place / size * size ≡ s.lsn → (blob : ℤ) (o : CacheInfo) → Contains old o
      → NamesOther x.pointer o.pointer blob → IsOutdated size H s blob
  comes_outdated s active lsn blob o among (lid, names, other) =
      let was = former o among in
      let apart : NamesBlob x blob → ⊥ = λ own. other own.0 own.1 in
      record {
        active = active;
        message = was.0;
        there = was.1;
        names = (lid, was.2 ∙ names);
        superseded = λ e found its.
            let of = none o lid blob among names apart e found its in
            record { message = x; there = there; same_page = sym of.0; begins = begins; later = lower blob apart e found its of.1; ends = omega (arith, lsn) };
      }

  -- and so are all then.
  pub replaced_outdated : MayMark size m (info_of x) old → AreOutdated size H m → AreOutdated size H (replaced size x.page (info_of x) old m)
  replaced_outdated may are =
      let k = slot_with size x in
      let n : Machine = linked size x.page (info_of x) m in
      let s : SlotState = slot_at n k in
      let same : SameSegments m.slots n.slots = linked_same size m (info_of x) may.lies.taken x.page in
      let o : Machine = outdating size (info_of x) old n in
      let are_n : AreOutdated size H n = outdated_still size H m n are (linked_blobs size x.page (info_of x) m) in
      let taken : is_free s.state ≡ false = (same k).free ∙ may.lies.taken in
      let active : is_active s.state ≡ true = (same k).active ∙ may.active in
      let lsn : x.place / size * size ≡ s.lsn = may.lies.lsn ∙ sym (same k).lsn in
      let are_o : AreOutdated size H o = each_slot (λ j y. (blob : ℤ) → Contains y.blobs blob → IsOutdated size H y blob) n.slots k
      (record s { blobs = all_outdated x.pointer old s.blobs }) o.slots
      (set_changes n.slots k (record s { blobs = all_outdated x.pointer old s.blobs }) (taken_there n.slots k taken))
      (λ blob found. ⊎_elim (λ was. let out = are_n k blob was in
      record { active = out.active; message = out.message; there = out.there; names = out.names; superseded = out.superseded })
      (λ new. comes_outdated (record s { blobs = all_outdated x.pointer old s.blobs }) active lsn blob new.0 new.1 new.2)
      (from_all x.pointer old s.blobs blob found)) (λ j other. are_n j) in
      outdated_still size H o (replaced size x.page (info_of x) old m) are_o (all_blobs size x.page (segment_place size (info_of x).lsn) old o)

-- the former state of a page is of messages of the history, as they are marked
pub former_there : (H G : History) (page : ℕ) (old : List CacheInfo) → ((x : Message) → Contains G.messages x → Contains H.messages x)
    → IsFormerList G page old
    → (o : CacheInfo) → Contains old o → (e : Message) × Contains H.messages e × (e.pointer ≡ o.pointer)
former_there H G page old more former o among =
    let found = from_former G page old former o among in
    (found.0, more found.0 (from_table G former.cut page found.0 found.1).0, ap (λ (i : CacheInfo). i.pointer) found.2)
