-- A generator's log: what a further bound makes of it, and what a flush does.
use Rattle.std.proofs.Common.{◌≡◌, ◌∙◌, inl, inr, ◌≤◌, ◌<◌, ◌+◌, ◌-◌, ◌^◌, ℕ, ℤ, Bool, true, false, nat_lt, if◌then◌else◌, max, List, [], ◌∷◌, ◌++◌, length, length-append, Option, None, Some, Result, Ok, Err, refl, sym, ap, subst, arith}
use Rattle.std.specs.declared.io.Error.{Error as IoError}
use Rattle.std.specs.Prelude.{IsSome, OnOk}
use Rattle.std.specs.List.{All}
use Rattle.std.proofs.lemmas.Bool.{cases_lt}
use Rattle.std.proofs.lemmas.Bool.Decides.{nat_tests}
use Rattle.std.proofs.lemmas.List.Elements.{All-weaker}
use Rattle.sled_codec.specs.declared.result.DiskPtr.{DiskPtr}
use Rattle.sled_codec.specs.declared.result.Error.{Error}
use Rattle.sled_codec.specs.declared.result.Error.TheVariants as error
use Rattle.sled_codec.specs.declared.serialization.message.LogKind.TheVariants.{Replace}
use Rattle.sled_codec.specs.History.{Completed, History, Message, Step}
use Rattle.sled_codec.specs.Spelling.{short_number}
use Rattle.sled_codec.specs.SpellingLaws.{length-short_number, short_spells-number}
use Rattle.sled_codec.specs.WellFormed.{LieApart}
use Rattle.sled_store.specs.declared.config.RunningConfig.{RunningConfig}
use Rattle.sled_store.specs.Device.{Event, Trace, state_of}
use Rattle.sled_store.specs.Moments.{Throughout}
use Rattle.sled_store.specs.Script.{Performs, after_all}
use Rattle.sled_store.proofs.PublicLaws.{joined, later_same, started}
use Rattle.sled_core.specs.declared.logger.Log.{Log}
use Rattle.sled_core.specs.declared.reservation.Reservation.{Reservation}
use Rattle.sled_core.specs.Causes.{FaultAnswers, HeldAnswers, ReserveAnswers, ReserveCauses}
use Rattle.sled_core.specs.Fits.{FitsInline, IsUnchanged, IsUsedUp as NeedsFurther, IsUsedUpBelow, buffers_of, config_of, current_begin, current_of, device_of, fault_of, flushing, machine_at, position_behind, position_of, is_moved, next_place, open_for, open_of, open_places, pins_of, reserved_end, segment_size_of, synced_end}
use Rattle.sled_core.specs.Fronts.{CameTo, WritesWhole}
use Rattle.sled_core.specs.Positions.{Position, is_short, next_segment_at, position_in}
use Rattle.sled_core.specs.Keeps.{ConfigKept, GoesOn, Preserves}
use Rattle.sled_core.specs.OpenPlaces.{TakesOut, places_from}
use Rattle.sled_core.specs.invariants.Running.{Fits}
use Rattle.sled_core.specs.Running.{end_below}
use Rattle.sled_core.specs.Waiting.{last_of, writes_below}
use Rattle.sled_core.proofs.PublicLaws.{current_count, fits_apart, fits_leaves, fits_reach, inline_message, message_acknowledged, pinned_below, pinned_some, target_above}
use Rattle.ids.specs.Bounds.{GivesFrom, HasBound}
use Rattle.ids.specs.declared.generator.IdGenerator.{IdGenerator}
use Rattle.sled_log.specs.RunStates.{EndsInReach}
use Rattle.ids.specs.Generators.{Generates, GivesOn, HasAsked, HasBounds, HasRoom, IsUsedUp, NextFails, OnRefusal, WritesBuffers, further_length, next_position, asked_of, block_of, bound_of, kept_fault, running, size_of}
use Rattle.ids.proofs.BoundLemmas.{bound_there, bounds_added, has_size, most_added, reserves_less, reserves_still}
use Rattle.ids.proofs.Moments.{gives_less, gives_now, gives_throughout, through_less}

module _ {D C : Type 0} (trace : D → Trace) (sum : List ℕ → ℕ) where
  -- What a log with bounds gives from now,
  pub has_gives : (log : Log D C) (bound asked : ℕ) → HasBounds trace sum log bound asked → GivesFrom sum (segment_size_of log) bound asked (state_of (trace (device_of log)))
  has_gives log bound asked has =
      gives_now sum (segment_size_of log) bound asked has.history has.acknowledged has.floor has.bounds has.reserved has.most (state_of (trace (device_of log)))
      (fits_leaves trace sum log has.history has.acknowledged has.floor has.unmarked has.fits)

  -- which is what a generator has of its own;
  pub generates_has : (g : IdGenerator D C) → Generates trace sum g → HasBounds trace sum g.log g.bound g.asked
  unfolding Generates
  generates_has g generates = generates

  pub has_generates : (g : IdGenerator D C) → HasBounds trace sum g.log g.bound g.asked → Generates trace sum g
  unfolding Generates
  has_generates g has = has

  -- as a generator has it,
  pub generates_gives : (g : IdGenerator D C) → Generates trace sum g → GivesFrom sum (size_of g) (bound_of g) (asked_of g) (state_of (trace (running g).device))
  unfolding Generates
  generates_gives g generates = has_gives g.log g.bound g.asked generates

  -- and where nothing is done,
  pub gives_still : (g : IdGenerator D C) → GivesOn trace sum g g
  gives_still g = record {
    asked = omega arith;
    block = refl;
    generates = λ generates. generates;
    keeps = λ generates. started (GivesFrom sum (size_of g) (bound_of g) (asked_of g + block_of g)) (trace (running g).device)
        (gives_less sum (size_of g) (bound_of g) (bound_of g) (asked_of g) (asked_of g + block_of g) (state_of (trace (running g).device)) (omega arith) (omega arith) (generates_gives g generates));
    later = later_same (trace (running g).device);
    config = record { config = refl; checksum = refl };
  }

  -- and while it goes on.
  pub has_throughout : (old new : Log D C) (bound asked : ℕ) → HasBounds trace sum old bound asked → GoesOn trace sum old new
      → Throughout (GivesFrom sum (segment_size_of old) bound asked) (trace (device_of old)) (trace (device_of new))
  has_throughout old new bound asked has goes =
      gives_throughout sum (segment_size_of old) bound asked has.history has.acknowledged has.floor has.bounds has.reserved has.most (trace (device_of old)) (trace (device_of new))
      (goes.crash has.history has.acknowledged has.floor has.unmarked has.fits)

  -- So it is over two calls one behind another, of which the first asks for a bound.
  pub asked_then : (old mid : IdGenerator D C) (new : Log D C) → size_of mid ≡ size_of old → bound_of mid ≡ bound_of old → asked_of mid ≤ asked_of old + block_of old → Generates trace sum mid → GoesOn trace sum mid.log new
      → Throughout (GivesFrom sum (size_of old) (bound_of old) (asked_of old + block_of old)) (trace (running old).device) (trace (running mid).device)
      → Throughout (GivesFrom sum (size_of old) (bound_of old) (asked_of old + block_of old)) (trace (running old).device) (trace (device_of new))
  asked_then old mid new size bound asked generates goes first =
      joined (GivesFrom sum (size_of old) (bound_of old) (asked_of old + block_of old)) (trace (running old).device) (trace (running mid).device) (trace (device_of new)) first
      (through_less sum (size_of old) (bound_of mid) (bound_of old) (asked_of mid) (asked_of old + block_of old) (trace (running mid).device) (trace (device_of new)) (omega (arith, bound)) asked
      (subst (λ n. Throughout (GivesFrom sum n (bound_of mid) (asked_of mid)) (trace (running mid).device) (trace (device_of new))) size
      (has_throughout mid.log new mid.bound mid.asked (generates_has mid generates) goes)))

  -- A call that keeps what the log holds keeps its bounds.
  pub has_still : (old new : Log D C) (bound asked : ℕ) → Preserves trace sum old new → reserved_end old ≤ reserved_end new → HasBounds trace sum old bound asked → HasBounds trace sum new bound asked
  has_still old new bound asked keeps le has = record {
    history = has.history;
    acknowledged = has.acknowledged;
    floor = has.floor;
    unmarked = has.unmarked;
    fits = keeps.fits has.history has.acknowledged has.floor has.unmarked has.fits;
    bounds = has.bounds;
    reserved = has.reserved;
    most = has.most;
    there = elim has.there [
      | inl none ↦ inl none
      | inr x ↦ inr (record { message = x.message; there = x.there; ends = (let ends = x.ends in omega (arith, ends, le)); bound = x.bound; has = x.has; enough = x.enough })
    ];
  }

  -- A flush, which makes all durable that was reserved.
  pub has_flushed : (old new : Log D C) (bound asked : ℕ) → bound ≤ asked → reserved_end old ≤ synced_end new → reserved_end new ≡ reserved_end old
      → ((H : History) (A f : ℕ) (U : List Message) → Fits trace sum old H A f U → Fits trace sum new H (max A (end_below (synced_end new) H)) f U)
      → HasBounds trace sum old bound asked → HasBounds trace sum new asked asked
  has_flushed old new bound asked le whole same acknowledges has =
      let H = has.history in
      let A : ℕ = max has.acknowledged (end_below (synced_end new) H) in
      record {
        history = H;
        acknowledged = A;
        floor = has.floor;
        unmarked = has.unmarked;
        fits = acknowledges H has.acknowledged has.floor has.unmarked has.fits;
        bounds = has.bounds;
        reserved = elim has.there [
          | inl none ↦ reserves_less H (max has.acknowledged has.floor) (max A has.floor) bound asked (omega arith) (omega (arith, none)) has.reserved
          | inr x ↦ (
              let some = has_size H.messages x.message has.bounds.replaces.apart x.there in
              let ends = x.ends in
              let durable = message_acknowledged (synced_end new) H x.message x.there (omega (arith, some, ends, whole)) in
              inr (record { message = x.message; there = x.there; ends = omega (arith, durable); bound = x.bound; has = x.has; enough = x.enough }))
        ];
        most = has.most;
        there = inl refl;
      }

  -- The bound of a further block, which was reserved and completed.
  module _ (log mid new : Log D C) (bound most asked : ℕ) (has : HasBounds trace sum log bound most) (higher : most ≤ asked) (small : asked < 2 ^ 64)
      (inline : FitsInline (segment_size_of log) (length (short_number asked))) (first : Preserves trace sum log mid)
      (put : reserved_end mid ≡ (inline_message log Replace 0 (short_number asked)).place + (inline_message log Replace 0 (short_number asked)).size) (same : reserved_end new ≡ reserved_end mid)
      (goes : GoesOn trace sum mid new)
      (fits : (H : History) (A f : ℕ) (U : List Message) → Fits trace sum mid H A f U → (H' : History) × Step H (Completed (inline_message log Replace 0 (short_number asked))) H' × Fits trace sum new H' A f (inline_message log Replace 0 (short_number asked) ∷ U)) where
    abbrev m : Message
    m = inline_message log Replace 0 (short_number asked)

    abbrev after : (H' : History) × Step has.history (Completed m) H' × Fits trace sum new H' has.acknowledged has.floor (m ∷ has.unmarked)
    after = fits has.history has.acknowledged has.floor has.unmarked (first.fits has.history has.acknowledged has.floor has.unmarked has.fits)

    spells : HasBound m asked
    spells = short_spells-number asked small

    behind : All (λ x. x.place < m.place) has.history.messages
    behind =
        let up = target_above log 0 (length (short_number asked)) inline in
        All-weaker (λ x. x.place < next_place log) (λ x. x.place < m.place) (λ x low. omega (arith, low, up)) has.history.messages
        (fits_reach trace sum log has.history has.acknowledged has.floor has.unmarked has.fits)

    apart : LieApart after.0.messages
    apart = fits_apart trace sum new after.0 has.acknowledged has.floor (m ∷ has.unmarked) after.2

    pub has_asked : HasBounds trace sum new bound asked
    has_asked = record {
      history = after.0;
      acknowledged = has.acknowledged;
      floor = has.floor;
      unmarked = m ∷ has.unmarked;
      fits = after.2;
      bounds = bounds_added has.history after.0 m asked most after.1 has.bounds has.most higher refl refl tt spells behind apart;
      reserved = reserves_still has.history after.0 m asked most after.1 has.bounds has.most higher refl refl tt spells behind apart (max has.acknowledged has.floor) bound has.reserved;
      most = most_added has.history after.0 m asked most after.1 has.bounds has.most higher refl refl tt spells behind apart;
      there = inr (record {
        message = m;
        there = bound_there has.history after.0 m asked most after.1 has.bounds has.most higher refl refl tt spells behind apart;
        ends = omega (arith, put, same);
        bound = asked;
        has = spells;
        enough = omega arith;
      });
    }

-- What runs it is the same over two calls.
pub config_then : {D C : Type 0} {old mid new : RunningConfig D C} → ConfigKept old mid → ConfigKept mid new → ConfigKept old new
config_then first second = record { config = second.config ∙ first.config; checksum = second.checksum ∙ first.checksum }

-- A flush needs a further segment only where the one that the next record would begin isn't in reach.
out_of_reach : {D C : Type 0} (log : Log D C) → NeedsFurther log → EndsInReach (segment_size_of log) (position_of log) → ⊥
out_of_reach log used reach = by used.0 reach where
  by : is_short (segment_size_of log) (length (current_of log).parts.bytes) ≡ true → EndsInReach (segment_size_of log) (position_of log) → ⊥
  by short ends =
      let at : position_of log ≡ next_segment_at (segment_size_of log) (current_of log).parts.site.place (machine_at log) =
      ap (λ (b : Bool). if b then next_segment_at (segment_size_of log) (current_of log).parts.site.place (machine_at log)
      else record { place = (current_of log).parts.site.place + length (current_of log).parts.bytes; begins = (current_of log).parts.site.place; slot = (current_of log).parts.site.slot; machine = machine_at log }) short in
      let begins = ap (λ x. x.begins) at in
      let slot = ap (λ x. x.slot) at in
      let low = ends.place in
      let high = ends.slot in
      used.1 (record { place = omega (arith, low, begins); offset = omega (arith, high, slot) })

-- Where nothing is another, the next record may begin where it might.
pub position_still : {D C : Type 0} (old new : Log D C) → IsUnchanged old new → position_of new ≡ position_of old
position_still old new same = λ i. position_in (same.config i).config.segment_size (last_of (current_of old) (same.line i)) (same.machine i)

-- A number has always room in a record.
pub number_fits : (size n : ℕ) → 256 ≤ size → n < 2 ^ 64 → FitsInline size (length (short_number n))
number_fits size n least small = let short = (length-short_number n small).1 in omega (arith, short, least)

-- What is written.

-- what holds of a call that succeeded
on_success : {T : Type 0} (result : Result T Error) (P : Type 0) → P → OnOk result P
on_success (Ok x) P holds = holds
on_success (Err e) P holds = tt

-- and of one that was refused what it needs
on_refusal : {T : Type 0} (result : Result T Error) (P : Type 0) → P → OnRefusal result P
on_refusal (Ok x) P holds = tt
on_refusal (Err (error.Io e)) P holds = tt
on_refusal (Err error.OutOfMemory) P holds = holds
on_refusal (Err error.PlacesUsedUp) P holds = holds
on_refusal (Err (error.Held at)) P holds = holds
on_refusal (Err (error.Unsupported text)) P holds = holds
on_refusal (Err (error.Corruption at)) P holds = holds
on_refusal (Err (error.NotReserved at)) P holds = holds
on_refusal (Err (error.CollectionNotFound name)) P holds = holds
on_refusal (Err (error.ReportableBug text)) P holds = holds

-- Within a block it begins where it would have.
pub within_block : {D C : Type 0} (g : IdGenerator D C) → g.next < g.bound → position_of g.log ≡ next_position g
within_block g less = by (nat_lt g.next g.bound) refl where
  behind : Position
  behind = if nat_lt g.bound g.asked then position_of g.log else position_behind g.log 0 (further_length g)

  by : (a : Bool) → nat_lt g.next g.bound ≡ a → position_of g.log ≡ (if a then position_of g.log else behind)
  by true is = refl
  by false is = absurd (grind (arith, nat_tests, is, less))

-- Nothing was.
pub none_written : {T : Type 0} (result : Result T Error) (old new : Trace) → new ≡ old → WritesBuffers result old new
unfolding Performs
none_written result old new same =
    record { to = 0; buffers = []; made = on_success result (new ≡ old) same; at_most = same; whole = on_refusal result ((count : ℕ) × WritesWhole count [] old new) (0, same) }

-- A flush that is refused what it needs wrote so many buffers whole.
whole_to : {D C : Type 0} (trace : D → Trace) (sum : List ℕ → ℕ) (to : ℕ) (old new : Log D C) → 0 < pins_of old → fault_of new ≡ None → CameTo trace sum to old new
    → (count : ℕ) × WritesWhole count (writes_below to (buffers_of sum old)) (trace (device_of old)) (trace (device_of new))
whole_to trace sum to old new out sound (inl none) = (0, none.still)
whole_to trace sum to old new out sound (inr front) = (front.count, front.whole sound ∙ ap (λ (es : List Event). after_all es (trace (device_of old))) (pinned_some old out sum to front.count))

pub flush_whole : (S T : Type 0) {D C : Type 0} (trace : D → Trace) (sum : List ℕ → ℕ) (mid new : Log D C) (e : Error) (held : Option ℕ) (used : Type 0) (old : Option IoError) (before now : ℕ) → 0 < pins_of mid
    → HeldAnswers {T = S} (Err e) held used old (fault_of new) before now → CameTo trace sum (reserved_end mid) mid new
    → OnRefusal {T = T} (Err e) ((count : ℕ) × WritesWhole count (writes_below (reserved_end mid) (buffers_of sum mid)) (trace (device_of mid)) (trace (device_of new)))
flush_whole S T trace sum mid new (error.Io e) held used old before now out answers came = tt
flush_whole S T trace sum mid new error.OutOfMemory held used old before now out answers came = whole_to trace sum (reserved_end mid) mid new out answers.2 came
flush_whole S T trace sum mid new error.PlacesUsedUp held used old before now out answers came = whole_to trace sum (reserved_end mid) mid new out answers.2 came
flush_whole S T trace sum mid new (error.Held at) held used old before now out answers came = whole_to trace sum (reserved_end mid) mid new out answers.3 came
flush_whole S T trace sum mid new (error.Unsupported text) held used old before now out answers came = absurd answers
flush_whole S T trace sum mid new (error.Corruption at) held used old before now out answers came = absurd answers
flush_whole S T trace sum mid new (error.NotReserved at) held used old before now out answers came = absurd answers
flush_whole S T trace sum mid new (error.CollectionNotFound name) held used old before now out answers came = absurd answers
flush_whole S T trace sum mid new (error.ReportableBug text) held used old before now out answers came = absurd answers

-- A flush writes the buffers that begin below the end of what was reserved, and as a pin is out it makes no other call.
pub flush_written : {T D C : Type 0} (trace : D → Trace) (sum : List ℕ → ℕ) (old mid : IdGenerator D C) → running mid ≡ running old → (result : Result T Error) (new : Trace) → OnOk result (new ≡ after_all (flushing sum mid.log) (trace (running mid).device))
    → Performs (flushing sum mid.log) (trace (running mid).device) new → OnRefusal result ((count : ℕ) × WritesWhole count (writes_below (reserved_end mid.log) (buffers_of sum mid.log)) (trace (running mid).device) new)
    → WritesBuffers result (trace (running old).device) new
flush_written trace sum old mid same result new made at_most whole = subst (λ x. WritesBuffers result (trace x.device) new) same
    (record {
      to = reserved_end mid.log;
      buffers = buffers_of sum mid.log;
      made = subst (λ (es : List Event). OnOk result (new ≡ after_all es (trace (running mid).device))) calls made;
      at_most = subst (λ (es : List Event). Performs es (trace (running mid).device) new) calls at_most;
      whole = whole;
    })
  where
    calls : flushing sum mid.log ≡ writes_below (reserved_end mid.log) (buffers_of sum mid.log)
    calls = pinned_below mid.log mid.pinned sum (reserved_end mid.log)

-- Where the log keeps a failure, it writes nothing.
pub faulty_still : {D C : Type 0} (old mid : IdGenerator D C) (new : Log D C) → running mid ≡ running old → kept_fault mid ≡ kept_fault old → ((e : IoError) → fault_of mid.log ≡ Some e → new ≡ mid.log) → IsSome (kept_fault old) → config_of new ≡ running old
faulty_still old mid new same kept faulty some = by (kept_fault old) refl some where
  by : (o : Option IoError) → kept_fault old ≡ o → IsSome o → config_of new ≡ running old
  by (Some e) is some = ap config_of (faulty e (kept ∙ is)) ∙ same
  by None is some = cc

module _ {D C : Type 0} (old mid : IdGenerator D C) (still : bound_of old < asked_of old → mid ≡ old) (asks : asked_of old ≡ bound_of old → HasAsked old mid) where
  -- Where a flush has no further segment, the generator is used up,
  pub used_up : size_of mid ≡ size_of old → kept_fault mid ≡ kept_fault old → kept_fault mid ≡ None → IsUsedUpBelow mid.log (reserved_end mid.log) → IsUsedUp old
  used_up size kept free used = inr (
    sym kept ∙ free,
    elim (cases_lt old.bound old.asked) [
      | inl less ↦ inr (less, subst (λ (x : IdGenerator D C). IsUsedUpBelow x.log (reserved_end x.log)) (still less) used)
      | inr none ↦ inl (
        (let ahead = old.ahead in omega (arith, none, ahead)),
        inr (λ reach.
            let ahead = old.ahead in
            let position = (asks (omega (arith, none, ahead))).position in
            out_of_reach mid.log used.1 (subst (λ k. EndsInReach k (position_of mid.log)) (sym size) (subst (EndsInReach (size_of old)) (sym position) reach))),
      )
    ],
  )

  -- and where it has what it needs, it had room.
  pub had_room : kept_fault old ≡ None → old.bound < 2 ^ 64 - 1 → (IsUsedUpBelow mid.log (reserved_end mid.log) → ⊥) → HasRoom old
  had_room free left none = inr (free, left, (λ same. (asks same).room), λ less used. none (subst (λ (x : IdGenerator D C). IsUsedUpBelow x.log (reserved_end x.log)) (sym (still less)) used))

  -- The next record may begin behind that of the further bound then.
  pub next_begins : (old.next < old.bound → ⊥) → position_of mid.log ≡ next_position old
  next_begins none = by (nat_lt old.next old.bound) (nat_lt old.bound old.asked) refl refl where
    behind : Position
    behind = position_behind old.log 0 (further_length old)

    by : (a b : Bool) → nat_lt old.next old.bound ≡ a → nat_lt old.bound old.asked ≡ b → position_of mid.log ≡ (if a then position_of old.log else (if b then position_of old.log else behind))
    by true b is less = absurd (none (grind (arith, nat_tests, is)))
    by false true is less = ap (λ (x : IdGenerator D C). position_of x.log) (still (grind (arith, nat_tests, less)))
    by false false is less = (let ahead = old.ahead in (asks (grind (arith, nat_tests, less, ahead))).position)

-- What a reservation answers where none is open.

some_error : (e : IoError) → None ≡ Some e → ⊥
some_error e is = cc

some_place : (place : ℕ) → None ≡ Some place → ⊥
some_place place is = cc

-- none is open of the buffer that a record would be of
pub none_for : {D C : Type 0} (log : Log D C) (page n : ℕ) → open_places log ≡ [] → open_for log page n ≡ 0
none_for log page n none = by (is_moved log page n) where
  count : open_of log ≡ 0
  count = current_count log ∙ ap (λ (ps : List ℕ). length (places_from (current_begin log) ps)) none

  by : (moved : Bool) → (if moved then 0 else open_of log) ≡ 0
  by true = refl
  by false = count

-- Behind the end of the one reservation that was open none is.
none_left : (place q : ℕ) (old new : List ℕ) → old ≡ q ∷ [] → TakesOut place old new → new ≡ []
none_left place q old new one takes = takes.is ∙ by takes.before takes.after (sym one ∙ takes.was) where
  by : (before after : List ℕ) → q ∷ [] ≡ before ++ place ∷ after → before ++ after ≡ []
  by [] [] is = refl
  by [] (a ∷ more) is = absurd (let long = ap (λ (l : List ℕ). length l) is in omega (arith, long))
  by (b ∷ bs) rest is = absurd (let long = ap (λ (l : List ℕ). length l) is in let parts = length-append bs (place ∷ rest) in omega (arith, long, parts))

pub none_behind : (place : ℕ) (old mid new : List ℕ) → mid ≡ old ++ place ∷ [] → old ≡ [] → TakesOut place mid new → new ≡ []
none_behind place old mid new puts none takes = none_left place place mid new (puts ∙ ap (λ (ps : List ℕ). ps ++ place ∷ []) none) takes

-- Where the log keeps no failure, an end doesn't fail.
pub ends_well : (e : Error) (fault : Option IoError) → fault ≡ None → FaultAnswers {T = ℤ × DiskPtr} (Err e) fault → ⊥
ends_well (error.Io e) fault none answers = some_error e (sym none ∙ answers)
ends_well error.OutOfMemory fault none answers = answers
ends_well error.PlacesUsedUp fault none answers = answers
ends_well (error.Unsupported text) fault none answers = answers
ends_well (error.Held at) fault none answers = answers
ends_well (error.Corruption at) fault none answers = answers
ends_well (error.NotReserved at) fault none answers = answers
ends_well (error.CollectionNotFound name) fault none answers = answers
ends_well (error.ReportableBug text) fault none answers = answers

-- It fails only as a generator may, where its item goes to no blob.
pub reserve_fails : (e : Error) (used so : Type 0) (least : ℤ → Type 0) (causes : ReserveCauses) → (causes.old ≡ None → used → so) → (causes.kind ≡ None → ⊥) → causes.in_blob ≡ false → causes.open_count ≡ 0
    → ReserveAnswers {T = Reservation} (Err e) used least causes → NextFails e so causes.old causes.new causes.before causes.after
reserve_fails (error.Io e) used so least causes up written inline none (inl kept) = inl kept
reserve_fails (error.Io e) used so least causes up written inline none (inr refused) = let clash : false ≡ true = sym inline ∙ refused.in_blob in cc
reserve_fails error.OutOfMemory used so least causes up written inline none answers = answers.0
reserve_fails error.PlacesUsedUp used so least causes up written inline none answers = (up answers.0.0 answers.2, answers.0.1 ∙ sym answers.0.0, answers.0.2)
reserve_fails (error.Unsupported text) used so least causes up written inline none answers = absurd (written answers.1)
reserve_fails (error.Held at) used so least causes up written inline none answers = absurd (let full = answers.3 in omega (arith, full, none))
reserve_fails (error.Corruption at) used so least causes up written inline none answers = absurd answers
reserve_fails (error.NotReserved at) used so least causes up written inline none answers = absurd answers
reserve_fails (error.CollectionNotFound name) used so least causes up written inline none answers = absurd answers
reserve_fails (error.ReportableBug text) used so least causes up written inline none answers = absurd answers

-- So does a flush that nothing holds.
pub flush_fails : (e : Error) (held : Option ℕ) (used so : Type 0) (old new : Option IoError) (before now : ℕ) → (old ≡ None → used → so) → held ≡ None
    → HeldAnswers {T = ℕ} (Err e) held used old new before now → NextFails e so old new before now
flush_fails (error.Io e) held used so old new before now up free answers = answers
flush_fails error.OutOfMemory held used so old new before now up free answers = (answers.1, answers.2, answers.3)
flush_fails error.PlacesUsedUp held used so old new before now up free answers = (up answers.1 answers.0, answers.2 ∙ sym answers.1, answers.3)
flush_fails (error.Held at) held used so old new before now up free answers = absurd (some_place answers.0.0 (sym free ∙ answers.0.1))
flush_fails (error.Unsupported text) held used so old new before now up free answers = absurd answers
flush_fails (error.Corruption at) held used so old new before now up free answers = absurd answers
flush_fails (error.NotReserved at) held used so old new before now up free answers = absurd answers
flush_fails (error.CollectionNotFound name) held used so old new before now up free answers = absurd answers
flush_fails (error.ReportableBug text) held used so old new before now up free answers = absurd answers
