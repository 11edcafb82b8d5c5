-- While free slots at the end are cut off, and until the cut is synced, all that a crash may leave can be recovered where it can of what is shown.
use Rattle.std.proofs.Common.{◌≡◌, ◌∙◌, ◌+◌, ◌-◌, ◌*◌, ◌/◌, ◌≤◌, ℕ, ℤ, pos, true, false, List, [], ◌∷◌, length, take, drop, refl, sym, ap, subst, arith, inl, inr, length-take}
use Rattle.std.specs.List.{Contains}
use Rattle.std.proofs.Math.Nat.{mul-mod_left}
use Rattle.std.proofs.lemmas.Bool.{cases_lt}
use Rattle.std.proofs.lemmas.List.{drop-take, take-take, take_all}
use Rattle.sled_codec.specs.History.{History}
use Rattle.sled_codec.specs.Places.{part}
use Rattle.sled_codec.specs.Record.{IsHeader}
use Rattle.sled_codec.specs.Snapshots.{SnapshotModel}
use Rattle.sled_store.specs.Device.{Cut, Event, LeavesLog, LogState, State, Synced, at_rest, log_step, step}
use Rattle.sled_store.specs.Foreign.{HeaderWasPlaced, NoForeignLog, RecordWasPlaced}
use Rattle.sled_store.specs.Readers.{Reads}
use Rattle.sled_store.specs.SegmentStates.{Machine, is_free, slot_at}
use Rattle.sled_store.specs.inside.Script.{Along}
use Rattle.sled_store.proofs.Segments.FilledLemmas.{slot_before}
use Rattle.sled_core.specs.declared.iterator.Segment.{Segment}
use Rattle.sled_core.specs.Begun.{SegmentView}
use Rattle.sled_core.specs.Logged.{logged}
use Rattle.sled_core.specs.Recoverable.{NoHeaderOfZeros}
use Rattle.sled_core.specs.inside.Cleared.{cleared, is_stale}
use Rattle.sled_core.specs.inside.FreeSlots.{HaveOwn}
use Rattle.sled_core.specs.inside.Hides.{Hides, ReadsShown}
use Rattle.sled_core.specs.inside.Lasting.{LeavesRecovering}
use Rattle.sled_core.specs.inside.OwnLog.{ReadsPlaced}
use Rattle.sled_core.specs.inside.Recoverable.{IsMarkOf}
use Rattle.sled_core.specs.inside.Running.{NamesFit}
use Rattle.sled_core.specs.Tail.{IsOrdering, least_place, tail_begins}
use Rattle.sled_core.proofs.Freed.CutHides.{hides_cut, zeroed_part, zeroed_taken}
use Rattle.sled_core.proofs.Freed.CutReads.{cut_reads}
use Rattle.sled_core.proofs.Freed.Known.{IsKnown}
use Rattle.sled_core.proofs.Freed.LeftRecovers.{KeepsHeaders, ReadsBy, leaves_as_shown, rest_recovers, shown_device}
use Rattle.sled_core.proofs.OwnLog.NoneForeign.{WasPlaced}
use Rattle.sled_core.proofs.OwnLog.Starting.{file_synced, slots_cut}
use Rattle.sled_core.proofs.OwnLog.Zeroed.{own_read}
use Rattle.sled_core.proofs.Torn.WrittenParts.{in_this_file, twenty}

module _ {sum : List ℕ → ℕ} (none : NoHeaderOfZeros sum) {size : ℕ} {s : State} (rest : s.log ≡ at_rest s.log.bytes) {m : Machine} {line : List SegmentView}
    (first : SnapshotModel) {base : ℕ} {H : History} (known : IsKnown sum size s m line (least_place size first) base H) (slots : ℕ)
    (unused : (k : ℕ) → slots ≤ k → is_free (slot_at m k).state ≡ true) where
  abbrev log : List ℕ
  log = s.log.bytes

  abbrev shown : List ℕ
  shown = cleared size m line log

  some : 256 ≤ size
  some = known.some

  abbrev shown_now : State
  shown_now = shown_device size m line s

  -- Each content that a crash may leave of the device reads as one that it leaves of what is shown with the same cut under way.
  pub cut_device_reads : (cut : ℕ) → slots * size ≤ cut → (left : List ℕ) → LeavesLog (step (Cut (slots * size) cut) s).log left
      → NoForeignLog sum size (step (Cut (slots * size) cut) s).log (step (Cut (slots * size) cut) s).placed left
      → (front : List ℕ) × LeavesLog (step (Cut (slots * size) cut) shown_now).log front
      × NoForeignLog sum size (step (Cut (slots * size) cut) shown_now).log (step (Cut (slots * size) cut) shown_now).placed front
      × ReadsBy sum size s shown (least_place size first) base H front left
  cut_device_reads cut no_less left leaves only_own =
      let r = cut_reads none known slots unused cut no_less left
      (subst (λ (l : LogState). LeavesLog (log_step (Cut (slots * size) cut) l) left) rest leaves)
      (subst (λ (l : LogState). NoForeignLog sum size (log_step (Cut (slots * size) cut) l) s.placed left) rest only_own) in
      (take (length left) shown, r.0, r.1, r.2)

  abbrev to : ℕ
  to = slots * size

  -- the state behind the cut and a sync
  abbrev pub behind : State
  behind = step Synced (step (Cut to to) s)

  abbrev shown_left : List ℕ
  shown_left = cleared size m line behind.log.bytes

  big : 32 ≤ size
  big = omega (arith, some)

  free_above : (k : ℕ) → to ≤ k * size → is_free (slot_at m k).state ≡ true
  free_above k high = elim (cases_lt k slots) [
    | inl low ↦ absurd (let row = slot_before size k slots low in omega (arith, row, high, some))
    | inr above ↦ unused k above
  ]

  hides_behind : Hides sum size behind m line (least_place size first) base H
  hides_behind = hides_cut sum size (omega (arith, some)) s m line (least_place size first) base H known.hides to (mul-mod_left slots size) free_above

  shown_behind : shown_left ≡ take to shown
  shown_behind = zeroed_taken (is_stale size m line) log to

  -- A part in front of the cut is shown as before, and stands.
  shown_same : (lid n : ℕ) → lid + n ≤ to → part shown_left lid n ≡ part shown lid n
  shown_same lid n below = zeroed_part (is_stale size m line) log to lid n below

  file_same : (lid n : ℕ) → lid + n ≤ to → part behind.log.bytes lid n ≡ part log lid n
  file_same lid n below =
      let parts : lid + (to - lid) ≡ to = omega (arith, below) in
      ap (λ i. take n (drop lid (take i log))) (sym parts) ∙ ap (λ (l : List ℕ). take n l) (drop-take lid (to - lid) log)
      ∙ take-take n (to - lid) (drop lid log) (omega (arith, below))

  -- The slot of a header that is shown lies in front of it.
  used_below : (k place : ℕ) (mark : ℤ) → IsHeader sum (part shown (k * size) 20) (pos place) mark → k * size + size ≤ to
  used_below k place mark is = elim (cases_lt k slots) [
    | inl low ↦ (let row = slot_before size k slots low in omega (arith, row))
    | inr above ↦ (let used = (known.reads.slots k place mark is).0 in let both : true ≡ false = sym (unused k above) ∙ used in absurd cc)
  ]

  was_shown : (k place : ℕ) (mark : ℤ) → IsHeader sum (part shown_left (k * size) 20) (pos place) mark
      → IsHeader sum (part shown (k * size) 20) (pos place) mark
  was_shown k place mark is =
      let there = in_this_file sum size shown_left shown_left (k * size) 20 (omega arith) (twenty sum size shown_left (k * size) (pos place) mark is) refl in
      subst (λ (l : List ℕ). IsHeader sum l (pos place) mark)
      (shown_same (k * size) 20 (omega (arith, there, ap length shown_behind, length-take to shown))) is

  reads_behind : ReadsShown sum size m shown_left behind.log.bytes
  reads_behind = record {
    slots = λ k place mark is. known.reads.slots k place mark (was_shown k place mark is);
    headers = λ k place mark is.
        let was = was_shown k place mark is in
        let below = used_below k place mark was in
        file_same (k * size) 20 (omega (arith, below, some)) ∙ known.reads.headers k place mark was
        ∙ sym (shown_same (k * size) 20 (omega (arith, below, some)));
    records = λ k place mark at len is r.
        let was = was_shown k place mark is in
        let below = used_below k place mark was in
        let inside = r.inside in
        let fits : at + len ≤ size = omega (arith, inside, length-take size (drop (k * size) shown_left)) in
        file_same (k * size + at) len (omega (arith, below, fits))
        ∙ known.reads.records k place mark at len was
        (subst (λ (l : List ℕ). Reads sum size (place / size) l 20 at len) (shown_same (k * size) size (omega (arith, below))) r)
        ∙ sym (shown_same (k * size + at) len (omega (arith, below, fits)));
  }

  stays_behind : KeepsHeaders sum size shown shown_left
  stays_behind k place mark is = let below = used_below k place mark is in shown_same (k * size) 20 (omega (arith, below, some))

  -- Nothing is foreign in what is shown while it is under way.
  own_cut : ReadsPlaced sum size (step (Cut to to) shown_now)
  own_cut = elim (cases_lt (length shown) to) [
    | inl short ↦ subst (λ (l : List ℕ). (k : ℕ) → WasPlaced sum size s.placed l k) (sym (take_all to shown (omega (arith, short)))) before
    | inr long ↦ slots_cut sum size none big shown_now slots long before
  ] where
    before : ReadsPlaced sum size shown_now
    before k = own_read sum size (HeaderWasPlaced s.placed) (RecordWasPlaced sum size s.placed) shown k (known.own k)

  -- So all that it may leave can be recovered where it can of what is shown: for a history of which the log has the same, from the snapshot of the log.
  module _ (end : ℕ) (own : HaveOwn size end m) (ordering : List Segment) (numbers : IsOrdering sum size shown (least_place size first) ordering)
      (marks : (t : Segment) → Contains ordering t → IsMarkOf H t) (tail : base ≤ tail_begins size (least_place size first) ordering)
      (R : History) (same : logged H ≡ logged R) (K : History) (f : ℕ) (names : NamesFit sum size s.snapshots K f first) (A g : ℕ) where
    abbrev Recovers : State → Type 0
    Recovers = LeavesRecovering sum size R A g

    pub cut_recovers : (cut : ℕ) → slots * size ≤ cut → Recovers (step (Cut (slots * size) cut) shown_now) → Recovers (step (Cut (slots * size) cut) s)
    cut_recovers cut no_less =
        leaves_as_shown sum size some s m line first base H known.hides known.reads end own shown ordering numbers marks tail R same
        (step (Cut (slots * size) cut) s) (step (Cut (slots * size) cut) shown_now) refl refl K f names (cut_device_reads cut no_less) A g

    -- Before the cut it is so, too.
    pub uncut_recovers : Recovers shown_now → Recovers s
    uncut_recovers =
        rest_recovers sum size some s m line first base H known.hides known.reads end own shown ordering numbers marks tail R same rest (λ k p mark is. refl)
        shown_now refl refl refl
        (λ slot. own_read sum size (HeaderWasPlaced s.placed) (RecordWasPlaced sum size s.placed) shown slot (known.own slot)) K f names A g

    -- So it is behind the sync.
    pub behind_recovers : Recovers (step Synced (step (Cut to to) shown_now)) → Recovers behind
    behind_recovers =
        rest_recovers sum size some behind m line first base H hides_behind reads_behind end own shown ordering numbers marks tail R same refl stays_behind
        (step Synced (step (Cut to to) shown_now)) (ap at_rest (sym shown_behind)) refl refl
        (λ k. subst (λ (l : List ℕ). WasPlaced sum size (step Synced (step (Cut to to) shown_now)).placed l k) (sym shown_behind)
        (file_synced sum size none big (step (Cut to to) shown_now) own_cut k)) K f names A g

    -- So it is at each moment of the calls where it is so of what is shown.
    pub along_cut : Along Recovers (Cut to to ∷ Synced ∷ []) shown_now → Along Recovers (Cut to to ∷ Synced ∷ []) s
    along_cut (before, torn, (during, none_tear, last)) = (
      uncut_recovers before,
      λ event tears. subst (λ (e : Event). Recovers (step e s)) (sym tears.2)
          (cut_recovers tears.0 tears.1 (subst (λ (e : Event). Recovers (step e shown_now)) tears.2 (torn event tears))),
      (cut_recovers to (omega arith) during, λ event tears. absurd tears, behind_recovers last),
    )
