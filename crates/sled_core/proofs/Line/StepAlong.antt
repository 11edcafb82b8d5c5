-- The calls of a step of the accountant, over the slots as they are behind it: a log at rest fits what it fitted behind each blob that is removed, and behind
-- each cut with its sync. So what a crash leaves at each moment of them can be recovered, and lasts; and a log that keeps a failure from
-- then on fits the history.
use Rattle.std.proofs.Common.{◌≡◌, ◌≢◌, ◌∙◌, ◌+◌, ◌*◌, ◌/◌, ◌<◌, ◌≤◌, ℕ, ℤ, pos, true, false, Bool, List, [], ◌∷◌, length, take, None, Some, refl}
use Rattle.std.proofs.Common.{sym, ap, subst, arith, inl, inr}
use Rattle.std.proofs.Math.Nat.{mul-mod_left}
use Rattle.std.specs.List.{Contains}
use Rattle.std.specs.declared.io.Error.{Error as IoError}
use Rattle.std.proofs.lemmas.Bool.{cases_lt}
use Rattle.std.proofs.lemmas.Int.{ints}
use Rattle.sled_codec.specs.History.{Batch, History, Message}
use Rattle.sled_codec.specs.Places.{part}
use Rattle.sled_codec.specs.Record.{IsHeader}
use Rattle.sled_codec.specs.Snapshots.{SnapshotModel, stable_place}
use Rattle.sled_store.specs.Device.{BlobRemoved, Cut, Event, State, Synced, Trace, state_of, step}
use Rattle.sled_store.specs.Foreign.{HeaderWasPlaced, RecordWasPlaced}
use Rattle.sled_store.specs.Marks.{slot_with}
use Rattle.sled_store.specs.SegmentStates.{Machine, is_free, slot_at, stabilized}
use Rattle.sled_store.specs.SnapshotFiles.{BeginsFrom}
use Rattle.sled_store.specs.inside.Script.{Along}
use Rattle.sled_store.specs.inside.SegmentStates.{NoneDue}
use Rattle.sled_store.proofs.Crashes.StoodLemmas.{header_stands, record_stands}
use Rattle.sled_store.proofs.Histories.Ascending.{Ascends}
use Rattle.sled_store.proofs.Marks.SlotMoves.{AreFreeFrom, GoesWith, IsDueFor, stabilized_made}
use Rattle.sled_store.proofs.Marks.StepCalls.{AreStepCalls, along_step_calls, ends_step_calls, step_calls_more}
use Rattle.sled_store.proofs.Names.OneBegin.{one_begin}
use Rattle.sled_store.proofs.Segments.FilledLemmas.{slot_before}
use Rattle.sled_store.proofs.Traces.ScriptLemmas.{EndsIn}
use Rattle.sled_core.specs.declared.logger.joined_marks.JoinedMarks.{JoinedMarks}
use Rattle.sled_core.specs.Begun.{SegmentView}
use Rattle.sled_core.specs.LogFile.{StaysFrom}
use Rattle.sled_core.specs.LogSegments.{begins_from}
use Rattle.sled_core.specs.Fits.{IsBegunFrom}
use Rattle.sled_core.specs.Logged.{in_log, logged}
use Rattle.sled_core.specs.NoForeign.{NoHeaderOfZeros}
use Rattle.sled_core.specs.OpenBatches.{stable_below}
use Rattle.sled_core.specs.Tail.{least_place}
use Rattle.sled_core.specs.inside.Begun.{line_end}
use Rattle.sled_core.specs.inside.Cleared.{cleared, is_stale}
use Rattle.sled_core.specs.inside.Lasting.{IsLasting, LeavesRecovering}
use Rattle.sled_core.specs.inside.LogSegments.{held_since}
use Rattle.sled_core.specs.inside.MarksFit.{MarkStands, MarksFit}
use Rattle.sled_core.specs.inside.Numbers.{HasNumbers}
use Rattle.sled_core.specs.inside.OpenBatches.{IsOpenBatch}
use Rattle.sled_core.specs.inside.Running.{FitsShown, FitsWith}
use Rattle.sled_core.specs.inside.Shown.{shown}
use Rattle.sled_core.proofs.Freed.CutHides.{hides_cut, zeroed_taken}
use Rattle.sled_core.proofs.Freed.CutRecovers.{cut_recovers}
use Rattle.sled_core.proofs.Freed.Known.{IsKnown}
use Rattle.sled_core.proofs.Freed.LineCut.{cutting_leaves, fits_line_cut, numbers_cut, used_shown, whole_cut, zeros_new}
use Rattle.sled_core.proofs.Freed.OutdatedGoes.{FitsPast, IsSpent, ends_above, fits_removed, goes_spent, spent_passed}
use Rattle.sled_core.proofs.Freed.PlacedCut.{placed_cut}
use Rattle.sled_core.proofs.Freed.SameSlots.{slot_in}
use Rattle.sled_core.proofs.Freed.SlotsLost.{stays_used}
use Rattle.sled_core.proofs.Freed.StepSlots.{due_ends}
use Rattle.sled_core.proofs.Line.Faulty.{fits_shown_faulty, numbers_placed}
use Rattle.sled_core.proofs.Line.LeftShown.{left_real}
use Rattle.sled_core.proofs.Line.MarksJoin.{marks_base}
use Rattle.sled_core.proofs.Line.NumbersKept.{stays_in}
use Rattle.sled_core.proofs.Line.Segments.{AreSegments}
use Rattle.sled_core.proofs.Line.ShownParts.{file_among, file_low, file_own, file_reads}
use Rattle.sled_core.proofs.Line.StepFits.{line_rise, step_fits}
use Rattle.sled_core.proofs.Logged.Messages.{logged_there, logged_twice}
use Rattle.sled_core.proofs.Numbers.HidesAs.{from_names}
use Rattle.sled_core.proofs.Numbers.OwnLess.{OwnLess, less_cut, less_same, less_synced}
use Rattle.sled_core.proofs.Numbers.Stay.{numbers_less}
use Rattle.sled_core.proofs.Numbers.Stood.{header_stood, record_stood}
use Rattle.sled_core.proofs.Reached.StableBelow.{stable_is}
use Rattle.sled_core.proofs.Tail.MarkPlaces.{begins_under}
use Rattle.sled_core.proofs.Torn.AlikeSlots.{found_same, slot_found}

-- A log that keeps no failure fits a history over a device. What lies below the segment of the mark that joined is stable, and what was placed stands in the
-- file.
pub record FitsAt (sum : List ℕ → ℕ) (marks : JoinedMarks) (noted : List Batch) (size : ℕ) (line : List SegmentView) (m : Machine) (pins : ℕ) (H : History)
    (A f : ℕ) (U : List Message) (s : State) : Type 0 where
  pub fits : FitsShown sum marks noted size s None line m pins H A f U
  pub past : (x : Message) → Contains H.messages x → x.place / size * size + size ≤ begins_from size marks.joined
      → x.place < stable_below fits.shows.reach H.batches
  pub headers : (at : ℕ) (text : List ℕ) → HeaderWasPlaced s.placed at text → part s.log.bytes at (length text) ≡ text
  pub records : (number at : ℕ) (text : List ℕ) → RecordWasPlaced sum size s.placed number at text → part s.log.bytes at (length text) ≡ text

-- A moment of the calls: what a crash leaves can be recovered, and lasts, and a log that keeps a failure from then on fits the history.
pub record StopsWell (sum : List ℕ → ℕ) (marks : JoinedMarks) (noted : List Batch) (size : ℕ) (line : List SegmentView) (m : Machine) (pins : ℕ)
    (H : History) (A f : ℕ) (U : List Message) (s : State) : Type 0 where
  pub lasts : IsLasting sum size s H A f
  pub fits : (e : IoError) → FitsShown sum marks noted size s (Some e) line m pins H A f U

-- Since a state of the device nothing became the log's own, and the snapshots are the same.
pub record IsSince (sum : List ℕ → ℕ) (size : ℕ) (s t : State) : Type 0 where
  pub less : OwnLess sum size t s
  pub snapshots : t.snapshots ≡ s.snapshots

module _ (sum : List ℕ → ℕ) (size : ℕ) (s t : State) (since : IsSince sum size s t) where
  -- So it is behind a call behind which less is own.
  since_then : (u : State) → OwnLess sum size u t → u.snapshots ≡ t.snapshots → IsSince sum size s u
  since_then u less same = record {
    less = record {
      records = λ number at text own. since.less.records number at text (less.records number at text own);
      headers = λ k place mark own. since.less.headers k place mark (less.headers k place mark own);
    };
    snapshots = same ∙ since.snapshots;
  }

  since_removed : (p : ℤ) (done : Bool) → IsSince sum size s (step (BlobRemoved p done) t)
  since_removed p done = since_then (step (BlobRemoved p done) t) (less_same sum size (step (BlobRemoved p done) t) t refl) refl

  since_during : (to now : ℕ) → IsSince sum size s (step (Cut to now) t)
  since_during to now = since_then (step (Cut to now) t) (less_cut sum size to now t) refl

since_cut : (sum : List ℕ → ℕ) (size : ℕ) (s t : State) (to : ℕ) → IsSince sum size s t → IsSince sum size s (step Synced (step (Cut to to) t))
since_cut sum size s t to since =
    since_then sum size s (step (Cut to to) t) (since_during sum size s t since to to) (step Synced (step (Cut to to) t))
    (less_synced sum size (step (Cut to to) t)) refl

module _ (sum : List ℕ → ℕ) (marks : JoinedMarks) (noted : List Batch) (size : ℕ) (big : 256 ≤ size) (m : Machine) (pins : ℕ) (H : History) (A f : ℕ)
    (U : List Message) (order : Ascends H.messages) (v : SegmentView) (vs : List SegmentView) (are : AreSegments size v.parts.site.place (v ∷ vs)) where
  abbrev line : List SegmentView
  line = v ∷ vs

  abbrev base : ℕ
  base = begins_from size marks.joined

  abbrev FitsNow : State → Type 0
  FitsNow = FitsAt sum marks noted size line m pins H A f U

  -- what lies below the mark's segment is stable, where a reader comes so far
  abbrev Passes : ℕ → Type 0
  Passes reach = (x : Message) → Contains H.messages x → x.place / size * size + size ≤ base → x.place < stable_below reach H.batches

  abbrev StopsNow : State → Type 0
  StopsNow = StopsWell sum marks noted size line m pins H A f U

  some : 0 < size
  some = omega (arith, big)

  -- What lies below the segment of the mark that joined is stable, since that mark is passed.
  passes_apart : (s : State) (fits : FitsShown sum marks noted size s None line m pins H A f U) → Passes fits.shows.reach
  passes_apart s fits x there ends = elim (stable_is fits.shows.reach H.batches) [
    | inl all ↦ omega (arith, all, read)
    | inr (b, known, at, is_open) ↦ elim (cases_lt x.place b.low) [
      | inl front ↦ omega (arith, front, at)
      | inr within ↦ absurd (elim (fits.passed refl begun.first begun.begins).joined [
        | inl began ↦ (
            let start : ℕ = stable_place begun.first.stable in
            let low : base ≤ start = begins_under size marks.joined start (omega (arith, ints, began)) in
            let closed = begun.fits.batches b known (omega (arith, within, under, low)) in
            let up = begun.reached in
            not_within b known is_open (omega (arith, closed, up)))
        | inr (written, apart) ↦ elim (apart b known) [
          | inl before ↦ (
              let low : base ≤ b.low = begins_under size marks.joined b.low (omega (arith, ints, before)) in
              omega (arith, low, within, under))
          | inr behind ↦ not_within b known is_open (omega (arith, ints, behind, written))
        ]
      ])
    ]
  ] where
    begun : IsBegunFrom sum marks.joined marks.durable size s.snapshots.file v.parts.site v.parts.written_len (logged H)
    begun = fits.shows.parts.holds.begun

    under : x.place < base
    under = ends_above size base some x ends

    read : x.place < fits.shows.reach
    read =
        let low = marks_base sum marks size big (shown size None m line s) None line (logged H) fits.shows.parts.holds in
        (fits.shows.parts.reached.ends (in_log x) (logged_there H x there) (omega (arith, under, low))).0

    not_within : (b : Batch) → Contains H.batches b → IsOpenBatch fits.shows.reach b → b.peg < v.parts.site.place + v.parts.written_len → ⊥
    not_within b known is_open short = elim (fits.shows.parts.reached.no_end b known) [
      | inl read_all ↦ (let high = is_open.1 in omega (arith, read_all, high))
      | inr far ↦ omega (arith, far, short)
    ]

  -- What is placed stands in a file at rest.
  pub fits_at : (t : Trace) → FitsShown sum marks noted size (state_of t) None line m pins H A f U → FitsNow (state_of t)
  fits_at t fits = record {
    fits = fits;
    past = passes_apart (state_of t) fits;
    headers = header_stood sum size t (state_of t).log.bytes (fits.rests refl);
    records = record_stood sum size t (state_of t).log.bytes (fits.rests refl);
  }

  -- A blob is removed, or may be, of which each message that names it is replaced below the mark's segment.
  pub removed_at : (p : ℤ) → IsSpent size base H p → (s : State) (done : Bool) → FitsNow s → FitsNow (step (BlobRemoved p done) s)
  removed_at p spent s done its = record {
    fits = record {
      shows = now.fits;
      rests = its.fits.rests;
      hides = λ none zeros. from_names sum size s (step (BlobRemoved p done) s) m line (logged H) refl refl refl (its.fits.hides none zeros);
      marked = its.fits.marked;
      passed = its.fits.passed;
      clean = its.fits.clean;
    };
    past = λ x there ends. let low = its.past x there ends in let up = now.past in omega (arith, low, up);
    headers = its.headers;
    records = its.records;
  } where
    stable_now : ℕ
    stable_now = stable_below its.fits.shows.reach H.batches

    now : FitsPast sum marks noted size None line m pins H A f U stable_now (shown size None m line (step (BlobRemoved p done) s))
    now = fits_removed sum marks noted size None line m pins H A f U stable_now order p (spent_passed size base stable_now H p its.past spent)
        (shown size None m line s) done (record { fits = its.fits.shows; past = omega arith })

  -- What a crash leaves then can be recovered, and lasts; so it is where a failure is kept.
  numbers_at : (s : State) → FitsNow s → NoHeaderOfZeros sum → HasNumbers sum size base s m (line_end size line)
  numbers_at s its zeros =
      numbers_placed sum size (shown size None m line s) s m (line_end size line) refl (its.fits.shows.numbers zeros)

  stops_at : (s t : State) (its : FitsNow s) → t.blobs ≡ s.blobs → t.snapshots ≡ s.snapshots
      → (NoHeaderOfZeros sum → HasNumbers sum size base t m (line_end size line))
      → LeavesRecovering sum size H (stable_below its.fits.shows.reach H.batches) f t → StopsNow t
  stops_at s t its blobs names numbers can = record {
    lasts = record {
      stable = stable_below its.fits.shows.reach H.batches;
      passes = its.fits.shows.parts.passes;
      lasts = record {
        can = can;
        numbers = λ zeros.
            stays_in sum noted size big (shown size None m line s) None line m pins H A f U its.fits.shows order zeros t (numbers zeros);
      };
    };
    fits = λ e.
        fits_shown_faulty sum marks noted size (shown size None m line s) t None (Some e) line m pins H A f U its.fits.shows e refl blobs names can numbers;
  }

  pub stops_now : (s : State) → FitsNow s → StopsNow s
  stops_now s its =
      stops_at s s its refl refl (numbers_at s its)
      (left_real sum marks noted size big s None m pins H A f U refl v.parts.site.place line are its.fits)

  -- Slots at the end that are free are cut off.
  module _ (slots : ℕ) (free : (k : ℕ) → slots ≤ k → is_free (slot_at m k).state ≡ true) (s : State) (its : FitsNow s) where
    abbrev shows : FitsWith sum marks noted size (shown size None m line s) None line m pins H A f U
    shows = its.fits.shows

    abbrev first : SnapshotModel
    first = shows.parts.holds.begun.first

    abbrev begins : BeginsFrom sum s.snapshots.file first
    begins = shows.parts.holds.begun.begins

    abbrev stable : ℕ
    stable = stable_below shows.reach H.batches

    abbrev log : List ℕ
    log = s.log.bytes

    abbrev to : ℕ
    to = slots * size

    -- the state behind the cut and its sync
    abbrev behind : State
    behind = step Synced (step (Cut to to) s)

    abbrev short : List ℕ
    short = behind.log.bytes

    known : (zeros : NoHeaderOfZeros sum) → IsKnown sum size s m line (least_place size first) base (logged H)
    known zeros = record {
      some = big;
      hides = its.fits.hides refl zeros first begins;
      reads = file_reads sum marks noted size big s None refl zeros m pins H A f U v vs are shows;
      own = file_own sum marks noted size big s None refl zeros m pins H A f U v vs are shows;
    }

    stays : (x : Message) → StaysFrom (logged H) (held_since size marks first) x → is_free (slot_at m (slot_with size x)).state ≡ false
    stays = stays_used sum size m H (held_since size marks first) stable (shows.in_slots first begins)

    -- While that is done it is so, too,
    pub during_cut : (now : ℕ) → to ≤ now → StopsNow (step (Cut to now) s)
    during_cut now no_less =
        stops_at s (step (Cut to now) s) its refl refl
        (λ zeros. numbers_less sum size (step (Cut to now) s) s (less_cut sum size to now s) m (line_end size line) (numbers_at s its zeros))
        (λ left leaves own_left.
        let zeros : NoHeaderOfZeros sum = own_left.zeros in
        let among = file_among sum marks noted size big s None refl zeros m pins H A f U v vs are shows in
        cut_recovers zeros (its.fits.rests refl) first (known zeros) slots free (line_end size line) shows.slots.own
        among.stands.ordering among.stands.numbers among.stands.marks
        (file_low sum marks noted size big s None refl zeros m pins H A f U v vs are shows (its.fits.marked refl zeros)) H (logged_twice H) (logged H) f
        shows.parts.named.names stable f now no_less
        (cutting_leaves sum marks size big m v vs shows.slots.taken (line_rise size v.parts.site.place v vs are) slots free s shows.reach pins H A f U order
        shows.parts stays now no_less) left leaves own_left)

    -- The header on which the greatest mark stands lies in front of the cut.
    mark_front : NoHeaderOfZeros sum → MarkStands sum size (cleared size m line log) first marks.durable
        → MarkStands sum size (cleared size m line short) first marks.durable
    mark_front zeros (inl under) = inl under
    mark_front zeros (inr (x, found, up)) =
        let here = slot_found sum size (cleared size m line log) (least_place size first) x found in
        let header = subst (λ n. IsHeader sum (part (cleared size m line log) n 20) (pos x.place) x.mark) here found.header in
        let used = ((known zeros).reads.slots (x.slot / size) x.place x.mark header).0 in
        inr (
          x,
          found_same sum size (cleared size m line log) (cleared size m line short) (x.slot / size)
              (slot_in size (cleared size m line log) (cleared size m line short) (x.slot / size)
              (used_shown size big m line log slots free (x.slot / size) used))
              (omega (arith, big)) (least_place size first) x here found,
          up,
        )

    free_above : (k : ℕ) → to ≤ k * size → is_free (slot_at m k).state ≡ true
    free_above k high = elim (cases_lt k slots) [
      | inl lower ↦ absurd (let row = slot_before size k slots lower in omega (arith, row, high, big))
      | inr above ↦ free k above
    ]

    -- and behind the sync the log fits what it fitted.
    pub cut_at : FitsNow behind
    cut_at = record {
      fits = record {
        shows = record {
          reach = shows.reach;
          parts = fits_line_cut sum marks size big m v vs shows.slots.taken (line_rise size v.parts.site.place v vs are) slots free s shows.reach pins H A f U
              order shows.parts stays;
          batches = shows.batches;
          slots = record { taken = shows.slots.taken; zeros = λ none. zeros_new size big m line log slots free; own = shows.slots.own };
          whole = λ none zeros. whole_cut size big m line log slots free sum (logged H) v.parts.site.place (shows.whole refl zeros);
          own = λ none zeros. placed_cut sum zeros size big m line shows.slots.taken slots free s its.headers its.records (shows.own refl zeros);
          account = shows.account;
          numbers = λ zeros.
              numbers_placed sum size behind (shown size None m line behind) m (line_end size line) refl
              (numbers_cut sum size base s m (line_end size line) to (numbers_at s its zeros));
          in_slots = shows.in_slots;
        };
        rests = λ none. refl;
        hides = λ none zeros x from.
            hides_cut sum size some s m line (least_place size x) base (logged H) (its.fits.hides refl zeros x from) to (mul-mod_left slots size) free_above;
        marked = λ none zeros x from.
            subst (λ (y : SnapshotModel). MarksFit sum size (cleared size m line short) y marks.joined marks.durable)
            (one_begin sum s.snapshots.file first x begins from)
            (let fit = its.fits.marked refl zeros first begins in record { joined = fit.joined; stands = mark_front zeros fit.stands });
        passed = its.fits.passed;
        clean = λ none low. let was = its.fits.clean none low in (zeroed_taken (is_stale size m line) log to ∙ ap (take to) was.0, was.1);
      };
      past = its.past;
      headers = λ at text laid. header_stands short s.placed at text laid;
      records = λ number at text laid. record_stands sum size short s.placed number at text laid;
    }

  -- So it is at each moment of calls each of which removes such a blob, or cuts slots off that are free, and syncs that; and behind all of them.
  module _ (calls : List Event) (made : AreStepCalls size (IsSpent size base H) (AreFreeFrom m.slots) calls) (s : State) (its : FitsNow s) where
    abbrev Stops : State → Type 0
    Stops t = StopsNow t × IsSince sum size s t

    abbrev Holds : State → Type 0
    Holds t = FitsNow t × IsSince sum size s t

    here : Holds s
    here = (its, record { less = less_same sum size s s refl; snapshots = refl })

    within : (t : State) → Holds t → Stops t
    within t has = (stops_now t has.0, has.1)

    removes : (p : ℤ) → IsSpent size base H p → (t : State) (done : Bool) → Holds t → Holds (step (BlobRemoved p done) t)
    removes p spent t done has = (removed_at p spent t done has.0, since_removed sum size s t has.1 p done)

    during : (k : ℕ) → AreFreeFrom m.slots k → (t : State) (to : ℕ) → k * size ≤ to → Holds t → Stops (step (Cut (k * size) to) t)
    during k free t to less has = (during_cut k free t has.0 to less, since_during sum size s t has.1 (k * size) to)

    cuts_off : (k : ℕ) → AreFreeFrom m.slots k → (t : State) → Holds t → Holds (step Synced (step (Cut (k * size) (k * size)) t))
    cuts_off k free t has = (cut_at k free t has.0, since_cut sum size s t (k * size) has.1)

    pub along_calls : Along Stops calls s
    along_calls =
        along_step_calls size (IsSpent size base H) (AreFreeFrom m.slots) Holds Stops within removes during cuts_off calls made s here

    pub behind_calls : EndsIn Holds calls s
    behind_calls =
        ends_step_calls size (IsSpent size base H) (AreFreeFrom m.slots) Holds Stops within removes during cuts_off calls made s here

-- Along a step of the accountant for the mark that joined, where all messages are marked, or nothing is due.
module _ (sum : List ℕ → ℕ) (marks : JoinedMarks) (noted : List Batch) (size : ℕ) (big : 256 ≤ size) (s : State) (m : Machine) (pins : ℕ) (H : History)
    (A f : ℕ) (order : Ascends H.messages) (v : SegmentView) (vs : List SegmentView) (are : AreSegments size v.parts.site.place (v ∷ vs)) (U : List Message)
    (idle : U ≢ [] → NoneDue size marks.joined m) (its : FitsAt sum marks noted size (v ∷ vs) m pins H A f U s) where
  abbrev after : Machine
  after = (stabilized size marks.joined m).machine

  abbrev calls : List Event
  calls = (stabilized size marks.joined m).calls

  now : (fits : FitsShown sum marks noted size s None (v ∷ vs) after pins H A f U) × (fits.shows.reach ≡ its.fits.shows.reach)
  now = step_fits sum marks noted size big s m pins H A f order v vs are U idle its.fits

  fits_behind : FitsAt sum marks noted size (v ∷ vs) after pins H A f U s
  fits_behind = record {
    fits = now.0;
    past = λ x there ends. subst (λ reach. x.place < stable_below reach H.batches) (sym now.1) (its.past x there ends);
    headers = its.headers;
    records = its.records;
  }

  made : AreStepCalls size (IsSpent size (begins_from size marks.joined) H) (AreFreeFrom after.slots) calls
  made =
      step_calls_more size (GoesWith (IsDueFor size marks.joined m) m.slots) (AreFreeFrom after.slots)
      (IsSpent size (begins_from size marks.joined) H) (AreFreeFrom after.slots)
      (goes_spent size (begins_from size marks.joined) H m marks.joined its.fits.shows.account.outdated (due_ends size marks.joined)) (λ k free. free)
      calls (stabilized_made size marks.joined m its.fits.shows.account.account.cut_off).calls

  pub step_along : Along (λ t. StopsWell sum marks noted size (v ∷ vs) after pins H A f U t × IsSince sum size s t) calls s
  step_along = along_calls sum marks noted size big after pins H A f U order v vs are calls made s fits_behind

  pub step_ends : EndsIn (λ t. FitsAt sum marks noted size (v ∷ vs) after pins H A f U t × IsSince sum size s t) calls s
  step_ends = behind_calls sum marks noted size big after pins H A f U order v vs are calls made s fits_behind
