-- Reading a bound: what an answer of the log says of it.
use Rattle.std.proofs.Common.{◌≡◌, ◌∙◌, ◌⊎◌, ◌-◌, ◌%◌, inl, inr, ◌<◌, ◌++◌, ◌<ℤ◌, ◌≤ℤ◌, ℕ, ℤ, pos, Bool, true, false, if◌then◌else◌, List, [], ◌∷◌, length, map, get_or, Option, None, Some, Result, Ok, Err, Vec, Global, refl, sym, ap, subst, arith}
use Rattle.std.specs.Prelude.{IfErr, IfOk, OnErr, OnOk, int_lt}
use Rattle.std.specs.List.{Contains, slice_get}
use Rattle.std.proofs.lemmas.Bool.{cases_lt}
use Rattle.std.proofs.lemmas.Int.{ints}
use Rattle.std.proofs.lemmas.Option.{same_Some}
use Rattle.std.proofs.lemmas.List.{append-nil, length-map}
use Rattle.std.specs.declared.io.Error.{Error as IoError}
use Rattle.sled_codec.specs.declared.result.Error.{Error}
use Rattle.sled_codec.specs.declared.result.Error.TheVariants as error
use Rattle.sled_codec.specs.declared.serialization.snapshot.PageState.{PageState}
use Rattle.sled_codec.specs.declared.serialization.message.MessageHeader.{MessageHeader}
use Rattle.sled_codec.specs.Errors.{IsCorrupt, IsCorruption}
use Rattle.sled_codec.specs.History.{History, Message, table}
use Rattle.sled_codec.specs.PageTables.{entry_of}
use Rattle.sled_codec.specs.declared.result.DiskPtr.TheVariants as ptr
use Rattle.sled_codec.specs.declared.serialization.snapshot.PageState.TheVariants as state
use Rattle.sled_codec.specs.Snapshots.{Entry, Free, Page, Present, Uninitialized, page_of}
use Rattle.sled_codec.specs.Spelling.{SpellsNumber}
use Rattle.sled_codec.specs.SpellingLaws.{no_front-number, one_value-number}
use Rattle.sled_store.specs.Device.{Trace}
use Rattle.sled_core.specs.declared.logger.Log.{Log}
use Rattle.sled_core.specs.declared.logger.read_message.LogRead.{LogRead}
use Rattle.sled_core.specs.declared.logger.read_message.LogRead.TheVariants as read
use Rattle.sled_core.specs.Reading.{GivesMessage, IsInline, IsNoPlace}
use Rattle.sled_core.specs.ReadBuffer.{IsUsedUpAt, ReadAnswers, RefusesPlace, Settles, held_at}
use Rattle.sled_core.specs.Causes.{IsFault}
use Rattle.sled_core.specs.Fits.{FirstWaits, HasRecordOf, current_begin, device_of, fault_of, reserved_end, segment_size_of, synced_end}
use Rattle.sled_core.specs.Keeps.{KeepsLog}
use Rattle.sled_core.proofs.PublicLaws.{first_waits, log_still, record_of_entry}
use Rattle.sled_log.specs.Replaces.{HasLast}
use Rattle.sled_log.proofs.PublicLaws.{table_has_last, table_has_page}
use Rattle.ids.specs.Bounds.{IsLastBound, IsLastMessage}
use Rattle.ids.specs.Readings.{BeginsWith, CountsError, CountsFailure, HasTable, HoldsAt, IsIdle, IsNumberIn, IsOpenError, IsReadError, IsReadErrorUnless}

-- A message that has its item in its record is read with that,
pub inline_read : (m : Message) (r : LogRead) → GivesMessage m r → IsInline m.pointer → ((h : MessageHeader) (item : Vec ℕ Global) (len : ℕ) → r ≡ read.Inline h item len → ⊥) → ⊥
inline_read m (read.Inline h item len) gives inline not = not h item len refl
inline_read m (read.Blob h item place len) gives inline not = subst IsInline gives.3.1 inline
inline_read m (read.Canceled len) gives inline not = gives
inline_read m (read.Cap number) gives inline not = gives
inline_read m read.Corrupted gives inline not = gives
inline_read m (read.DanglingBlob h place len) gives inline not = gives
inline_read m (read.BatchManifest peg len) gives inline not = gives

-- and nothing else that is read has a number in its record.
pub no_number : (r : LogRead) (n : ℕ) → IsNumberIn r n → ((h : MessageHeader) (item : Vec ℕ Global) (len : ℕ) → r ≡ read.Inline h item len → ⊥) → ⊥
no_number (read.Inline h item len) n is not = not h item len refl
no_number (read.Blob h item place len) n is not = is
no_number (read.Canceled len) n is not = is
no_number (read.Cap number) n is not = is
no_number read.Corrupted n is not = is
no_number (read.DanglingBlob h place len) n is not = is
no_number (read.BatchManifest peg len) n is not = is

-- a number at the front of bytes that are one is that one
pub same_number : (bytes front rest : List ℕ) (v n : ℕ) → SpellsNumber bytes n → SpellsNumber front v → bytes ≡ front ++ rest → v ≡ n
same_number bytes front rest v n whole first is =
    let same : front ≡ bytes = no_front-number front bytes rest [] v n first whole (sym is ∙ sym (append-nil bytes)) in
    one_value-number bytes v n (subst (λ (t : List ℕ). SpellsNumber t v) same first) whole

-- what the bytes of a number are decoded to
pub decoded : (result : Result ℕ Error) (bytes left : List ℕ) (n : ℕ) → SpellsNumber bytes n → IfOk result (λ v. (front : List ℕ) × SpellsNumber front v × (bytes ≡ front ++ left))
    → (IsCorruption result → (front rest : List ℕ) (v : ℕ) → bytes ≡ front ++ rest → Unit {0} → SpellsNumber front v → ⊥) → IfErr result (λ e. e ≡ error.Corruption None) → IfOk result (λ v. v ≡ n) × OnErr result ⊥
decoded (Ok v) bytes left n whole ok corrupt damage = (same_number bytes ok.0 left v n whole ok.1 ok.2, tt)
decoded (Err e) bytes left n whole ok corrupt damage = (tt, corrupt (subst IsCorrupt (sym damage) tt) bytes [] n (sym (append-nil bytes)) tt whole)

-- The number that is decoded is at the front,
pub spells_front : (result : Result ℕ Error) (bytes item left : List ℕ) → bytes ≡ item → IfOk result (λ v. (front : List ℕ) × SpellsNumber front v × (bytes ≡ front ++ left)) → IfOk result (BeginsWith item)
spells_front (Ok v) bytes item left same ok = (ok.0, left, ok.1, sym same ∙ ok.2)
spells_front (Err e) bytes item left same ok = tt

-- and where none is decoded there is none.
pub spells_none : (result : Result ℕ Error) (bytes item : List ℕ) → bytes ≡ item → (IsCorruption result → (front rest : List ℕ) (v : ℕ) → bytes ≡ front ++ rest → Unit {0} → SpellsNumber front v → ⊥)
    → IfErr result (λ e. e ≡ error.Corruption None) → OnErr result ((n : ℕ) → BeginsWith item n → ⊥)
spells_none (Ok v) bytes item same corrupt damage = tt
spells_none (Err e) bytes item same corrupt damage = λ n b. corrupt (subst IsCorrupt (sym damage) tt) b.0 b.1 n (same ∙ b.3) tt b.2

-- what holds of no error
pub no_error : (P : Error → Type 0) (result : Result ℕ Error) → OnErr result ⊥ → IfErr result P
no_error P (Ok v) none = tt
no_error P (Err e) none = absurd none

pub on_ok : (P : Type 0) (result : Result ℕ Error) → P → OnOk result P
on_ok P (Ok v) holds = holds
on_ok P (Err e) holds = tt

pub counts_damage : (result : Result ℕ Error) (before now : ℕ) → IfErr result (λ e. e ≡ error.Corruption None) → now ≡ before → CountsFailure result before now
counts_damage (Ok v) before now damage counted = counted
counts_damage (Err e) before now damage counted = subst (λ e. CountsError e before now) (sym damage) counted

-- the failure of the device that a read answers is of this call where the log kept none
fails_now : (e : IoError) (old new : Option IoError) (before now : ℕ) → old ≡ None → IsFault e old new before now → CountsError (error.Io e) before now
fails_now e old new before now none fault = elim fault [
  | inl kept ↦ absurd (kept_none (sym none ∙ kept.0))
  | inr here ↦ (here.3, here.2)
] where
  kept_none : None ≡ Some e → ⊥
  kept_none is = cc

-- Where a place is stable, no reservation holds the read of it.
pub none_holds : (lsn : ℤ) (stable : ℕ) (held : Option ℕ) → lsn <ℤ pos stable → (if int_lt lsn (pos stable) then None else held) ≡ None
none_holds lsn stable held low = by (int_lt lsn (pos stable)) refl where
  by : (b : Bool) → int_lt lsn (pos stable) ≡ b → (if b then None else held) ≡ None
  by true is = refl
  by false is = absurd (grind (arith, ints, is, low))

-- It isn't decided by the code what is no place of a record.
no_place : (size : ℕ) (lsn : ℤ) (lid : ℕ) → IsNoPlace size lsn lid ⊎ (IsNoPlace size lsn lid → ⊥)
no_place size lsn lid = by (int_lt lsn (pos 0)) refl where
  begins : (lsn <ℤ pos 0 → ⊥) → IsNoPlace size lsn lid ⊎ (IsNoPlace size lsn lid → ⊥)
  begins up = elim (cases_lt (lid % size) 20) [
    | inl low ↦ inl (inr (λ may. let behind = may.behind_header in omega (arith, low, behind)))
    | inr behind ↦ elim (cases_lt (size - 32) (lid % size)) [
      | inl short ↦ inl (inr (λ may. let room = may.before_end in omega (arith, short, room)))
      | inr room ↦ inr (λ w. elim w [
        | inl low ↦ up low
        | inr none ↦ none (record { behind_header = omega (arith, behind); before_end = omega (arith, room) })
      ])
    ]
  ]

  by : (b : Bool) → int_lt lsn (pos 0) ≡ b → IsNoPlace size lsn lid ⊎ (IsNoPlace size lsn lid → ⊥)
  by true is = inl (inl (grind (arith, ints, is)))
  by false is = begins (λ low. grind (arith, ints, is, low))

-- one place is below another, or isn't
below_read : (a b : ℤ) → int_lt a b ≡ true → a <ℤ b
below_read a b is = grind (arith, ints, is)

not_below_read : (a b : ℤ) → int_lt a b ≡ false → b ≤ℤ a
not_below_read a b is = grind (arith, ints, is)

-- A log in which nothing was reserved.
module _ {D C : Type 0} (trace : D → Trace) (sum : List ℕ → ℕ) (lsn : ℤ) (lid : ℕ) (old new : Log D C) (idle : IsIdle old) where
  -- A read of it writes nothing.
  pub read_unwritten : (result : Result LogRead Error) → Settles trace sum result lsn (ptr.Inline lid) old new → RefusesPlace result lsn (ptr.Inline lid) old new → trace (device_of new) ≡ trace (device_of old)
  read_unwritten result settles refuses = by (int_lt lsn (pos (synced_end old))) refl where
    by : (b : Bool) → int_lt lsn (pos (synced_end old)) ≡ b → trace (device_of new) ≡ trace (device_of old)
    by true is = settles.unwritten (below_read lsn (pos (synced_end old)) is)
    by false is =
        let end = idle.reserved in
        let up : pos (synced_end old) ≤ℤ lsn = not_below_read lsn (pos (synced_end old)) is in
        elim (no_place (segment_size_of old) lsn lid) [
          | inl none ↦ ap (λ x. trace (device_of x)) (refuses.no_place idle.fault none).1
          | inr place ↦ ap (λ x. trace (device_of x)) (refuses.unchanged (refuses.not_reserved idle.fault place (omega (arith, ints, up, end)) up))
        ]

  -- It keeps all that the log is.
  pub read_keeps : (result : Result LogRead Error) → (lsn <ℤ pos (synced_end old) → KeepsLog trace sum old new) → RefusesPlace result lsn (ptr.Inline lid) old new
      → KeepsLog trace sum old new
  read_keeps result only refuses = by (int_lt lsn (pos (synced_end old))) refl where
    still : new ≡ old → KeepsLog trace sum old new
    still same = subst (λ (l : Log D C). KeepsLog trace sum old l) (sym same) (log_still trace sum old)

    by : (b : Bool) → int_lt lsn (pos (synced_end old)) ≡ b → KeepsLog trace sum old new
    by true is = only (below_read lsn (pos (synced_end old)) is)
    by false is =
        let end = idle.reserved in
        let up : pos (synced_end old) ≤ℤ lsn = not_below_read lsn (pos (synced_end old)) is in
        elim (no_place (segment_size_of old) lsn lid) [
          | inl none ↦ still (refuses.no_place idle.fault none).1
          | inr place ↦ still (refuses.unchanged (refuses.not_reserved idle.fault place (omega (arith, ints, up, end)) up))
        ]

  current_synced : current_begin old ≡ synced_end old
  current_synced = sym (subst (FirstWaits (synced_end old) (current_begin old)) idle.unsealed (first_waits old))

  -- Nothing holds it, it needs no further segment, and its place was reserved where it is on the device.
  pub read_known : (blobs : ℤ → Option (List ℕ)) (before now : ℕ) (e : Error)
      → ReadAnswers {T = LogRead} sum blobs (ptr.Inline lid) (Err e) lsn (synced_end old) (reserved_end old) (held_at sum old lsn) (IsUsedUpAt old lsn) (fault_of old) (fault_of new) before now → IsReadErrorUnless (lsn <ℤ pos (synced_end old)) e
  read_known blobs before now (error.Io e) answers = tt
  read_known blobs before now error.OutOfMemory answers = tt
  read_known blobs before now (error.Corruption at) answers = tt
  read_known blobs before now (error.NotReserved at) answers = λ there. (let up = answers.1 in omega (arith, ints, there, up))
  read_known blobs before now error.PlacesUsedUp answers =
      let low = answers.0 in
      let up = answers.1.0 in
      let end = idle.reserved in
      let begin = current_synced in
      absurd (omega (arith, ints, low, up, end, begin))
  read_known blobs before now (error.Held at) answers =
      let low = answers.0 in
      let end = idle.reserved in
      absurd (some_place answers.1.0 (sym (none_holds lsn (synced_end old) _ (omega (arith, ints, low, end))) ∙ answers.1.1)) where
        some_place : (place : ℕ) → None ≡ Some place → ⊥
        some_place place is = cc
  read_known blobs before now (error.Unsupported text) answers = absurd answers
  read_known blobs before now (error.CollectionNotFound name) answers = absurd answers
  read_known blobs before now (error.ReportableBug text) answers = absurd answers

-- damage is a reason
pub damage_known : (Below : Type 0) (result : Result ℕ Error) → IfErr result (λ e. e ≡ error.Corruption None) → IfErr result (IsReadErrorUnless Below)
damage_known Below (Ok v) damage = tt
damage_known Below (Err e) damage = subst (IsReadErrorUnless Below) (sym damage) tt

-- and what is one unless something holds is one unless something holds that this follows from
unless_more : (Below More : Type 0) (e : Error) → (More → Below) → IsReadErrorUnless Below e → IsReadErrorUnless More e
unless_more Below More (error.Io e) from known = known
unless_more Below More error.OutOfMemory from known = known
unless_more Below More (error.Corruption at) from known = known
unless_more Below More (error.NotReserved at) from known = λ more. known (from more)
unless_more Below More error.PlacesUsedUp from known = known
unless_more Below More (error.Held at) from known = known
unless_more Below More (error.Unsupported text) from known = known
unless_more Below More (error.CollectionNotFound name) from known = known
unless_more Below More (error.ReportableBug text) from known = known

pub known_more : (Below More : Type 0) (result : Result ℕ Error) → (More → Below) → IfErr result (IsReadErrorUnless Below) → IfErr result (IsReadErrorUnless More)
known_more Below More (Ok v) from known = tt
known_more Below More (Err e) from known = unless_more Below More e from known

-- Where that holds it is one.
pub known_there : (Below : Type 0) (e : Error) → Below → IsReadErrorUnless Below e → IsReadError e
known_there Below (error.Io e) there known = known
known_there Below error.OutOfMemory there known = known
known_there Below (error.Corruption at) there known = known
known_there Below (error.NotReserved at) there known = absurd (known there)
known_there Below error.PlacesUsedUp there known = known
known_there Below (error.Held at) there known = known
known_there Below (error.Unsupported text) there known = known
known_there Below (error.CollectionNotFound name) there known = known
known_there Below (error.ReportableBug text) there known = known

-- what fails for a reason alone, where there is that reason or where there is none
pub on_reason : (P : Type 0) (result : Result ℕ Error) → OnErr result ⊥ → OnErr result (P → ⊥)
on_reason P (Ok v) none = tt
on_reason P (Err e) none = absurd none

pub no_reason : (P : Type 0) (result : Result ℕ Error) → P → OnErr result (P → ⊥) → OnErr result ⊥
no_reason P (Ok v) holds none = tt
no_reason P (Err e) holds none = none holds

-- Tables.

no_first : {X : Type 0} (xs : List X) → None ≡ slice_get xs 0 → length xs ≡ 0
no_first [] is = refl
no_first (x ∷ xs) is = cc

pub first_page : (pages : List PageState) (page : PageState) → Some page ≡ slice_get pages 0 → (0 < length (map page_of pages)) × (get_or (map page_of pages) 0 Uninitialized ≡ page_of page)
first_page [] page is = cc
first_page (p ∷ ps) page is = (omega arith, ap page_of (sym (same_Some page p is)))

module _ {D C : Type 0} (trace : D → Trace) (sum : List ℕ → ℕ) (log : Log D C) (pages : List PageState) (H : History) (cut : ℕ) (table_is : HasTable trace sum log (map page_of pages) H cut) where
  -- where there is no page there is no message
  pub none_found : None ≡ slice_get pages 0 → IsLastBound H cut 0
  none_found is = inl (
    (λ m there low.
        let less = table_has_page H cut (map page_of pages) table_is.bounds.replaces table_is.table m there low in
        let none = no_first pages is in
        let long : length (map page_of pages) ≡ length pages = simp length-map in
        absurd (omega (arith, less, none, long))),
    refl,
  )

  module _ (page : PageState) (is : Some page ≡ slice_get pages 0) where
    abbrev has : HasLast (map page_of pages) H cut 0
    has = table_has_last H cut (map page_of pages) table_is.bounds.replaces table_is.table 0 (first_page pages page is).0

    abbrev pub last_read : Message
    last_read = has.message

    abbrev pub bound_read : ℕ
    bound_read = (table_is.bounds.bounds has.message has.is_last.there).0

    is_read : IsLastMessage H cut last_read bound_read
    is_read = record {
      there = has.is_last.there;
      below = has.is_last.below;
      has = (table_is.bounds.bounds has.message has.is_last.there).1;
      last = λ x there low. has.is_last.last x there (table_is.bounds.page x there) low;
    }

    pub holds_read : HoldsAt trace sum log H last_read cut bound_read
    holds_read = record {
      acknowledged = table_is.acknowledged;
      floor = table_is.floor;
      unmarked = table_is.unmarked;
      fits = table_is.fits;
      last = is_read;
      inline = table_is.bounds.inline has.message has.is_last.there;
      stable = table_is.stable;
      entry = subst (λ p. Contains (table H cut p) has.message) (sym has.is_last.of) has.in_table;
    }

    pub page_read : page_of page ≡ Present (entry_of last_read) []
    page_read = sym (first_page pages page is).1 ∙ has.entry

    pub found_read : (result : Result ℕ Error) → IfOk result (λ v. v ≡ bound_read) → IfOk result (λ v. IsLastBound H cut v)
    found_read (Ok v) same = subst (λ n. IsLastBound H cut n) (sym same) (inr (last_read, is_read))
    found_read (Err e) same = tt

-- A page is a message and nothing else.
abbrev base_in : Page → Entry
base_in (Present base frags) = base
base_in (Free place pointer) = (place, pointer, 0)
base_in Uninitialized = (pos 0, ptr.Inline 0, 0)

pub same_base : (page : PageState) (base : Entry) (frags : Vec Entry Global) (m : Message) → page ≡ state.Present base frags → page_of page ≡ Present (entry_of m) [] → base ≡ entry_of m
same_base page base frags m is same = ap base_in (sym (ap page_of is) ∙ same)

-- A message that a log holds at a place has its record there.
pub record_there : {D C : Type 0} (trace : D → Trace) (sum : List ℕ → ℕ) (log : Log D C) (H : History) (m : Message) (cut n : ℕ) → HoldsAt trace sum log H m cut n → HasRecordOf log H m
record_there trace sum log H m cut n holds =
    let stable = holds.stable in
    record_of_entry log H m cut (omega (arith, stable)) holds.entry

-- What a read answers in place of a message.
module _ (sum : List ℕ → ℕ) (blobs : ℤ → Option (List ℕ)) (lid : ℕ) (lsn : ℤ) (stable end : ℕ) (held : Option ℕ) (used : Type 0) (old new : Option IoError) (before now : ℕ) where
  -- it counts a failure of the device, and nothing else
  pub read_counts : (e : Error) → old ≡ None → ReadAnswers {T = LogRead} sum blobs (ptr.Inline lid) (Err e) lsn stable end held used old new before now → CountsError e before now
  read_counts (error.Io e) none answers = fails_now e old new before now none answers
  read_counts error.OutOfMemory none answers = answers.4
  read_counts error.PlacesUsedUp none answers = answers.4
  read_counts (error.Held at) none answers = answers.5
  read_counts (error.NotReserved at) none answers = answers.5
  read_counts (error.Corruption at) none answers = answers.2
  read_counts (error.Unsupported text) none answers = absurd answers
  read_counts (error.CollectionNotFound name) none answers = absurd answers
  read_counts (error.ReportableBug text) none answers = absurd answers

  -- where the place is stable, and no damage is met, it fails only as an opening may
  pub read_fails : (e : Error) → lsn <ℤ pos stable → held ≡ None → (IsCorruption {T = LogRead} (Err e) → ⊥) → ReadAnswers {T = LogRead} sum blobs (ptr.Inline lid) (Err e) lsn stable end held used old new before now → IsOpenError e
  read_fails (error.Io e) low free whole answers = tt
  read_fails error.OutOfMemory low free whole answers = tt
  read_fails error.PlacesUsedUp low free whole answers = tt
  read_fails (error.Held at) low free whole answers = absurd (some_place answers.1.0 (sym free ∙ answers.1.1)) where
    some_place : (place : ℕ) → None ≡ Some place → ⊥
    some_place place is = cc
  read_fails (error.NotReserved at) low free whole answers = absurd (let up = answers.1 in omega (arith, ints, low, up))
  read_fails (error.Corruption at) low free whole answers = absurd (whole tt)
  read_fails (error.Unsupported text) low free whole answers = absurd answers
  read_fails (error.CollectionNotFound name) low free whole answers = absurd answers
  read_fails (error.ReportableBug text) low free whole answers = absurd answers
