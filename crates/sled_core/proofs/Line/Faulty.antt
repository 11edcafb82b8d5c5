-- A log whose device failed in a call holds and fits what it did, and so does one with the same segments and slots.
use Rattle.std.proofs.Common.{◌≡◌, ◌⊎◌, ◌∙◌, ◌∷◌, inl, inr, [], ap, sym, subst, ℕ, List, Option, None, Some, refl}
use Rattle.std.specs.declared.io.Error.{Error as IoError}
use Rattle.sled_codec.specs.History.{Batch, Message, History}
use Rattle.sled_store.specs.Device.{Event, NamesState, State, Trace, Synced, Wrote, state_of, step}
use Rattle.sled_store.specs.inside.Script.{Along}
use Rattle.sled_store.specs.Script.{Performs}
use Rattle.sled_store.specs.SegmentStates.{Machine}
use Rattle.sled_store.proofs.Traces.MomentLemmas.{at_last}
use Rattle.sled_store.proofs.Traces.ScriptLemmas.{performs_throughout}
use Rattle.sled_core.specs.Begun.{SegmentView}
use Rattle.sled_core.specs.declared.logger.joined_marks.JoinedMarks.{JoinedMarks}
use Rattle.sled_core.specs.inside.Fits.{HoldsLine, HoldsShown, HoldsWith}
use Rattle.sled_core.specs.inside.FreeSlots.{HasSlots}
use Rattle.sled_core.specs.NoForeign.{NoHeaderOfZeros}
use Rattle.sled_core.specs.OpenBatches.{stable_below}
use Rattle.sled_core.specs.inside.Lasting.{LeavesRecovering}
use Rattle.sled_core.specs.inside.Running.{FitsLine, FitsShown, FitsWith}
use Rattle.sled_core.specs.inside.Begun.{line_end}
use Rattle.sled_core.specs.inside.Numbers.{HasNumbers, HaveSlotsFrom}
use Rattle.sled_core.specs.inside.Shown.{shown}
use Rattle.sled_core.specs.inside.Slots.{HasAccount}
use Rattle.sled_core.proofs.Cleared.Shown.{shown_faulty}
use Rattle.sled_core.proofs.Flush.FlushLemmas.{fault_or_none, holds-faulty}
use Rattle.sled_core.proofs.Flush.SameFits.{fits_faulty}
use Rattle.sled_core.proofs.Numbers.OwnLess.{less_same}
use Rattle.sled_core.proofs.Numbers.Stay.{numbers_less}
use Rattle.sled_core.specs.LogSegments.{begins_from}

-- It keeps the failure, and its snapshots and blobs are the same.
pub holds_line_faulty : (sum : List ℕ → ℕ) (marks : JoinedMarks) (size : ℕ) (device : State) (fault : Option IoError) (line : List SegmentView) (H : History) → HoldsLine sum marks size device fault line H → (new : State) (e : IoError) (now : Option IoError) → now ≡ Some e
    → new.snapshots ≡ device.snapshots → HoldsLine sum marks size new now line H
holds_line_faulty sum marks size device fault [] H holds new e now is names = holds
holds_line_faulty sum marks size device fault (v ∷ vs) H holds new e now is names =
    holds-faulty sum size v.parts.site device fault v.parts.bytes v.parts.written_len v.parts.sealed v.parts.reserved H holds new e now is (ap (λ (s : NamesState). s.file) names)

pub fits_line_faulty : (sum : List ℕ → ℕ) (marks : JoinedMarks) (size : ℕ) (device : State) (fault : Option IoError) (line : List SegmentView) (reach pins : ℕ) (H : History) (A f : ℕ) (U : List Message) → FitsLine sum marks size device fault line reach pins H A f U → (new : State) (e : IoError) (now : Option IoError)
    → now ≡ Some e → new.blobs ≡ device.blobs → new.snapshots ≡ device.snapshots → LeavesRecovering sum size H (stable_below reach H.batches) f new → FitsLine sum marks size new now line reach pins H A f U
fits_line_faulty sum marks size device fault [] reach pins H A f U fits new e now is blobs names left = fits
fits_line_faulty sum marks size device fault (v ∷ vs) reach pins H A f U fits new e now is blobs names left =
    fits_faulty sum size v.parts.site device fault v.parts.bytes v.parts.written_len v.parts.sealed v.parts.reserved pins H A f U fits new e now is blobs names left

pub slots_line_faulty : (size : ℕ) (line : List SegmentView) (log log' : List ℕ) (fault : Option IoError) (m : Machine) → HasSlots size line log fault m → (e : IoError) (now : Option IoError) → now ≡ Some e → HasSlots size line log' now m
slots_line_faulty size line log log' fault m slots e now is = record { taken = slots.taken; zeros = λ none. cc; own = slots.own }

-- So it is with all that a log holds and fits, whatever the device is then: it shows that as it is.
pub holds_faulty : (sum : List ℕ → ℕ) (marks : JoinedMarks) (noted : List Batch) (size : ℕ) (device new : State) (fault now : Option IoError) (line : List SegmentView)
    (m : Machine) (H : History) → HoldsWith sum marks noted size device fault line m H → (e : IoError) → now ≡ Some e → new.snapshots ≡ device.snapshots
    → HoldsShown sum marks noted size new now line m H
holds_faulty sum marks noted size device new fault now line m H holds e is names = record {
  shows = record {
    holds = holds_line_faulty sum _ size device fault line H holds.holds (shown size now m line new) e now is names;
    batches = holds.batches;
    slots = slots_line_faulty size line device.log.bytes (shown size now m line new).log.bytes fault m holds.slots e now is;
  };
  rests = λ none. cc;
}

pub fits_shown_faulty : (sum : List ℕ → ℕ) (marks : JoinedMarks) (noted : List Batch) (size : ℕ) (device new : State) (fault now : Option IoError) (line : List SegmentView)
    (m : Machine) (pins : ℕ) (H : History) (A f : ℕ) (U : List Message) (fits : FitsWith sum marks noted size device fault line m pins H A f U)
    → (e : IoError) → now ≡ Some e → new.blobs ≡ device.blobs → new.snapshots ≡ device.snapshots
    → LeavesRecovering sum size H (stable_below fits.reach H.batches) f new
    → (NoHeaderOfZeros sum → HasNumbers sum size (begins_from size marks.joined) new m (line_end size line)) → FitsShown sum marks noted size new now line m pins H A f U
fits_shown_faulty sum marks noted size device new fault now line m pins H A f U fits e is blobs names left numbers =
    let sees : State = shown size now m line new in
    let same : sees ≡ new = shown_faulty size e now is m line new in
    record {
      shows = record {
        reach = fits.reach;
        parts = fits_line_faulty sum _ size device fault line fits.reach pins H A f U fits.parts sees e now is blobs names
            (subst (LeavesRecovering sum size H (stable_below fits.reach H.batches) f) (sym same) left);
        batches = fits.batches;
        slots = slots_line_faulty size line device.log.bytes sees.log.bytes fault m fits.slots e now is;
        whole = λ none zeros. cc;
        own = λ none zeros. cc;
        account = subst (λ (s : NamesState). HasAccount sum marks size s.file H U m) (sym names) fits.account;
        numbers = λ zeros. subst (λ (s : State). HasNumbers sum size (begins_from size marks.joined) s m (line_end size line)) (sym same) (numbers zeros);
        in_slots = subst (λ (s : NamesState). HaveSlotsFrom sum marks size s.file H (stable_below fits.reach H.batches) m) (sym names) fits.in_slots;
      };
      rests = λ none. cc;
      hides = λ none zeros. cc;
      marked = λ none zeros. cc;
      passed = λ none. cc;
      clean = λ none low. cc;
    }

-- The same, where all that it says is of equal parts.
pub holds_with_same : (sum : List ℕ → ℕ) (marks marks' : JoinedMarks) (noted noted' : List Batch) (size size' : ℕ) (device : State) (fault : Option IoError) (line line' : List SegmentView) (m m' : Machine) (H : History) → marks' ≡ marks → noted' ≡ noted → size' ≡ size → line' ≡ line → m' ≡ m
    → HoldsShown sum marks noted size device fault line m H → HoldsShown sum marks' noted' size' device fault line' m' H
holds_with_same sum marks marks' noted noted' size size' device fault line line' m m' H k b s l a holds =
    subst (λ (x : JoinedMarks). HoldsShown sum x noted' size' device fault line' m' H) (sym k) (subst (λ (bs : List Batch). HoldsShown sum marks bs size' device fault line' m' H) (sym b) (subst (λ n. HoldsShown sum marks noted n device fault line' m' H) (sym s) (subst (λ (x : List SegmentView). HoldsShown sum marks noted size device fault x m' H) (sym l) (subst (λ (x : Machine). HoldsShown sum marks noted size device fault line x H) (sym a) holds))))

pub fits_with_same : (sum : List ℕ → ℕ) (marks marks' : JoinedMarks) (noted noted' : List Batch) (size size' : ℕ) (device : State) (fault : Option IoError) (line line' : List SegmentView) (m m' : Machine) (pins pins' : ℕ) (H : History) (A f : ℕ) (U : List Message) → marks' ≡ marks → noted' ≡ noted → size' ≡ size → line' ≡ line → m' ≡ m → pins' ≡ pins
    → FitsShown sum marks noted size device fault line m pins H A f U → FitsShown sum marks' noted' size' device fault line' m' pins' H A f U
fits_with_same sum marks marks' noted noted' size size' device fault line line' m m' pins pins' H A f U k b s l a p fits =
    subst (λ (x : JoinedMarks). FitsShown sum x noted' size' device fault line' m' pins' H A f U) (sym k) (subst (λ (bs : List Batch). FitsShown sum marks bs size' device fault line' m' pins' H A f U) (sym b) (subst (λ n. FitsShown sum marks noted n device fault line' m' pins' H A f U) (sym s) (subst (λ (x : List SegmentView). FitsShown sum marks noted size device fault x m' pins' H A f U) (sym l)
    (subst (λ (x : Machine). FitsShown sum marks noted size device fault line x pins' H A f U) (sym a) (subst (λ n. FitsShown sum marks noted size device fault line m n H A f U) (sym p) fits)))))

pub holds_with_device : (sum : List ℕ → ℕ) (marks : JoinedMarks) (noted : List Batch) (size : ℕ) (device new : State) (fault now : Option IoError) (line : List SegmentView) (m : Machine) (H : History) → new ≡ device → now ≡ fault → HoldsShown sum marks noted size device fault line m H → HoldsShown sum marks noted size new now line m H
holds_with_device sum marks noted size device new fault now line m H d o holds =
    subst (λ (s : State). HoldsShown sum marks noted size s now line m H) (sym d) (subst (λ (x : Option IoError). HoldsShown sum marks noted size device x line m H) (sym o) holds)

pub fits_with_device : (sum : List ℕ → ℕ) (marks : JoinedMarks) (noted : List Batch) (size : ℕ) (device new : State) (fault now : Option IoError) (line : List SegmentView) (m : Machine) (pins : ℕ) (H : History) (A f : ℕ) (U : List Message) → new ≡ device → now ≡ fault → FitsShown sum marks noted size device fault line m pins H A f U
    → FitsShown sum marks noted size new now line m pins H A f U
fits_with_device sum marks noted size device new fault now line m pins H A f U d o fits =
    subst (λ (s : State). FitsShown sum marks noted size s now line m pins H A f U) (sym d) (subst (λ (x : Option IoError). FitsShown sum marks noted size device x line m pins H A f U) (sym o) fits)

-- A call that reads its device alone, and keeps what failure there was, or one more.

pub holds_with_kept : (sum : List ℕ → ℕ) (marks marks' : JoinedMarks) (noted : List Batch) (size size' : ℕ) (device new : State) (fault now : Option IoError) (line line' : List SegmentView) (m m' : Machine) (H : History) → marks' ≡ marks → size' ≡ size → line' ≡ line → m' ≡ m → new ≡ device → (now ≡ fault) ⊎ ((e : IoError) × (now ≡ Some e))
    → HoldsShown sum marks noted size device fault line m H → HoldsShown sum marks' noted size' new now line' m' H
holds_with_kept sum marks marks' noted size size' device new fault now line line' m m' H k s l a d kept holds = holds_with_same sum marks marks' noted noted size size' new now line line' m m' H k refl s l a (elim kept [
  | inl still ↦ holds_with_device sum marks noted size device new fault now line m H d still holds
  | inr (e, is) ↦
      holds_faulty sum marks noted size (shown size fault m line device) new fault now line m H holds.shows e is (ap (λ (x : State). x.snapshots) d)
])

-- where the same was placed the same numbers are the log's own
pub numbers_placed : (sum : List ℕ → ℕ) (size : ℕ) {base : ℕ} (s t : State) (m : Machine) (end : ℕ) → t.placed ≡ s.placed → HasNumbers sum size base s m end
    → HasNumbers sum size base t m end
numbers_placed sum size s t m end same has = numbers_less sum size t s (less_same sum size t s same) m end has

-- what a log fits a crash leaves
pub line_leaves : (sum : List ℕ → ℕ) (marks : JoinedMarks) (size : ℕ) (device : State) (fault : Option IoError) (line : List SegmentView) (reach pins : ℕ) (H : History) (A f : ℕ) (U : List Message) → FitsLine sum marks size device fault line reach pins H A f U → LeavesRecovering sum size H (stable_below reach H.batches) f device
line_leaves sum marks size device fault [] reach pins H A f U fits = absurd fits
line_leaves sum marks size device fault (v ∷ vs) reach pins H A f U fits = fits.left

pub fits_with_kept : (sum : List ℕ → ℕ) (marks marks' : JoinedMarks) (noted : List Batch) (size size' : ℕ) (device new : State) (fault now : Option IoError) (line line' : List SegmentView) (m m' : Machine) (pins pins' : ℕ) (H : History) (A f : ℕ) (U : List Message) → marks' ≡ marks → size' ≡ size → line' ≡ line → m' ≡ m → pins' ≡ pins → new ≡ device
    → (now ≡ fault) ⊎ ((e : IoError) × (now ≡ Some e)) → (fits : FitsShown sum marks noted size device fault line m pins H A f U)
    → LeavesRecovering sum size H (stable_below fits.shows.reach H.batches) f device → FitsShown sum marks' noted size' new now line' m' pins' H A f U
fits_with_kept sum marks marks' noted size size' device new fault now line line' m m' pins pins' H A f U k s l a p d kept fits left = fits_with_same sum marks marks' noted noted size size' new now line line' m m' pins pins' H A f U k refl s l a p (elim kept [
  | inl still ↦ fits_with_device sum marks noted size device new fault now line m pins H A f U d still fits
  | inr (e, is) ↦ (
      let sees : State = shown size fault m line device in
      let stable : ℕ = stable_below fits.shows.reach H.batches in
      fits_shown_faulty sum marks noted size sees new fault now line m pins H A f U fits.shows e is (ap (λ (x : State). x.blobs) d)
      (ap (λ (x : State). x.snapshots) d)
      (subst (LeavesRecovering sum size H stable f) (sym d) left)
      (λ zeros. numbers_placed sum size sees new m (line_end size line) (ap (λ (x : State). x.placed) d) (fits.shows.numbers zeros)))
])

-- where there was none, what there is now is none or a failure
pub none_or_kept : (fault now : Option IoError) → fault ≡ None → (now ≡ fault) ⊎ ((e : IoError) × (now ≡ Some e))
none_or_kept fault now none = elim (fault_or_none now) [ inl still ↦ inl (still ∙ sym none) | inr some ↦ inr some ]

-- A write and a sync of the log file leave blobs and snapshots as they were.
pub names_written : (at : ℕ) (xs : List ℕ) (old new : Trace) → Performs (Wrote at xs xs ∷ Synced ∷ []) old new → ((state_of new).blobs ≡ (state_of old).blobs) × ((state_of new).snapshots ≡ (state_of old).snapshots)
names_written at xs old new came = at_last Purpose old new (performs_throughout Purpose (Wrote at xs xs ∷ Synced ∷ []) old new came along)
  where
    Purpose : State → Type 0
    Purpose s = (s.blobs ≡ (state_of old).blobs) × (s.snapshots ≡ (state_of old).snapshots)

    along : Along Purpose (Wrote at xs xs ∷ Synced ∷ []) (state_of old)
    along = (
      (refl, refl),
      λ torn tears. subst (λ (e : Event). Purpose (step e (state_of old))) (sym tears.2) (refl, refl),
      ((refl, refl), λ torn tears. absurd tears, (refl, refl)),
    )
