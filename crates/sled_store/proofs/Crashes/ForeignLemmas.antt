-- What passes as the log's own by what was settled and asked for before a call, or when it was torn, does so after the whole call.
use Rattle.std.proofs.Common.{◌≡◌, ◌∙◌, ◌&&◌, ◌*◌, ◌/◌, ◌+◌, ℕ, ℤ, zero, length, take, drop, suc, Bool, true, false, is_some, if◌then◌else◌, List, [], ◌∷◌, ◌++◌, Option, Some, None, refl, sym, ap, subst, inl, inr, arith}
use Rattle.std.specs.Ordering.{int_eq}
use Rattle.std.specs.List.{Contains}
use Rattle.std.proofs.lemmas.List.Elements.{Contains-append_right}
use Rattle.sled_codec.specs.Places.{part}
use Rattle.sled_store.specs.Device.{Event, NameState, LogState, NamesState, Placement, State, step, renamed, unnamed, settled_file, settled_files, settled_again, at_rest, names_at_rest}
use Rattle.sled_store.specs.Answers.{Tears}
use Rattle.sled_store.specs.Foreign.{IsWhole, HeaderWasPlaced, RecordWasPlaced, NoForeignLog, NoForeignNames}
use Rattle.sled_store.proofs.Crashes.StoodLemmas.{header_settled, record_settled}
use Rattle.sled_store.proofs.Crashes.LeavesLemmas.{Asked, write, cut, make_blob, remove_blob, fill, publish, remove_snapshot}
use Rattle.sled_store.proofs.Names.KeptLemmas.{settled_on as settled_before}

-- Two states of a part have the same settled content, and what was asked of the first was asked of the second.

-- the log file
pub record LogKnows (s t : LogState) : Type 0 where
  pub settled : s.settled ≡ t.settled
  pub asked : (w : ℕ × List ℕ) → Contains s.asked w → Contains t.asked w

-- files under names
pub record NamesKnow (s t : NamesState) : Type 0 where
  pub settled : (n : ℤ) → settled_files s n ≡ settled_files t n
  pub asked : (n : ℤ) (bytes : List ℕ) → Contains (s.asked n) bytes → Contains (t.asked n) bytes

-- a whole state
pub record Knows (s t : State) : Type 0 where
  pub log : LogKnows s.log t.log
  pub blobs : NamesKnow s.blobs t.blobs
  pub snapshots : NamesKnow s.snapshots t.snapshots
  pub placed : (w : Placement) → Contains s.placed w → Contains t.placed w

-- So what passes as the log's own by the first does so by the second.

whole_still : (s t : LogState) (at : ℕ) (text : List ℕ) → LogKnows s t → IsWhole s at text → IsWhole t at text
unfolding IsWhole
whole_still s t at text knows (inl stood) = inl (subst (λ (l : List ℕ). part l at (length text) ≡ text) knows.settled stood)
whole_still s t at text knows (inr since) = inr (since.0, knows.asked since.0 since.1, since.2)

-- Writes are among others.
abbrev pub Among : List Placement → List Placement → Type 0
Among few all = (w : Placement) → Contains few w → Contains all w

header_placed : (few all : List Placement) (at : ℕ) (text : List ℕ) → Among few all → HeaderWasPlaced few at text → HeaderWasPlaced all at text
unfolding HeaderWasPlaced
header_placed few all at text more laid = (laid.0, more laid.0 laid.1, laid.2, laid.3, laid.4)

record_placed : (sum : List ℕ → ℕ) (size : ℕ) (few all : List Placement) (number at : ℕ) (text : List ℕ) → Among few all → RecordWasPlaced sum size few number at text → RecordWasPlaced sum size all number at text
unfolding RecordWasPlaced
record_placed sum size few all number at text more laid = (laid.0, more laid.0 laid.1, laid.2, laid.3, laid.4)

-- of the log file
pub own_log : (sum : List ℕ → ℕ) (size : ℕ) (s t : LogState) (few all : List Placement) (left : List ℕ) → LogKnows s t → Among few all → NoForeignLog sum size s few left → NoForeignLog sum size t all left
own_log sum size s t few all left knows more own = record {
  headers = λ slot lsn mark is. let was = own.headers slot lsn mark is in (header_placed few all _ _ more was.0, whole_still s t _ _ knows was.1);
  records = λ slot lsn mark at len is read.
      let was = own.records slot lsn mark at len is read in (record_placed sum size few all _ _ _ more was.0, whole_still s t _ _ knows was.1);
}

-- of files under names
pub own_names : (passes : List ℕ → Type 0) (s t : NamesState) (files : ℤ → Option (List ℕ)) → NamesKnow s t → NoForeignNames passes s files → NoForeignNames passes t files
own_names passes s t files knows own = record {
  own = λ n bytes there is. elim (own.own n bytes there is) [ inl settled ↦ inl (sym (knows.settled n) ∙ settled) | inr asked ↦ inr (knows.asked n bytes asked) ];
}

-- Before a call.

log_same : (s : LogState) → LogKnows s s
log_same s = record { settled = refl; asked = λ w is. is }

names_same : (s : NamesState) → NamesKnow s s
names_same s = record { settled = λ n. refl; asked = λ n bytes is. is }

-- a change leaves the settled files, whether it was done or not
settled_renamed : (s : NamesState) (name : ℤ) (done : Bool) (top : NameState) (asked : List (List ℕ)) (n : ℤ) → settled_files (renamed s name done top asked) n ≡ settled_files s n
settled_renamed s name done top asked n = by (done && int_eq name n)
  where
    by : (b : Bool) → settled_file (if b then top.file else s.file n) (if b then top.is_unsynced else s.is_unsynced n) (if b then record { file = s.file n; is_unsynced = s.is_unsynced n } ∷ s.earlier n else s.earlier n) ≡ settled_files s n
    by true = settled_before top.file top.is_unsynced (record { file = s.file n; is_unsynced = s.is_unsynced n }) (s.earlier n)
    by false = refl

asked_more : (b : Bool) (asked old : List (List ℕ)) (bytes : List ℕ) → Contains old bytes → Contains (if b then asked ++ old else old) bytes
asked_more true asked old bytes is = Contains-append_right asked old bytes is
asked_more false asked old bytes is = is

before_change : (s : NamesState) (name : ℤ) (done : Bool) (top : NameState) (asked : List (List ℕ)) → NamesKnow s (renamed s name done top asked)
before_change s name done top asked = record {
  settled = λ n. sym (settled_renamed s name done top asked n);
  asked = λ n bytes is. asked_more (int_eq name n) asked (s.asked n) bytes is;
}

-- done with other bytes, or not done
torn_change : (s : NamesState) (name : ℤ) (done : Bool) (torn top : NameState) (asked : List (List ℕ)) → NamesKnow (renamed s name done torn asked) (renamed s name true top asked)
torn_change s name done torn top asked = record {
  settled = λ n. settled_renamed s name done torn asked n ∙ sym (settled_renamed s name true top asked n);
  asked = λ n bytes is. is;
}

before_removal : (s : NamesState) (name : ℤ) (done : Bool) → NamesKnow s (unnamed s name done)
before_removal s name done = by (is_some (s.file name))
  where
    by : (b : Bool) → NamesKnow s (if b then renamed s name done (record { file = None; is_unsynced = false }) [] else s)
    by true = before_change s name done (record { file = None; is_unsynced = false }) []
    by false = names_same s

torn_removal : (s : NamesState) (name : ℤ) (done : Bool) → NamesKnow (unnamed s name done) (unnamed s name true)
torn_removal s name done = by (is_some (s.file name))
  where
    by : (b : Bool) → NamesKnow (if b then renamed s name done (record { file = None; is_unsynced = false }) [] else s) (if b then renamed s name true (record { file = None; is_unsynced = false }) [] else s)
    by true = torn_change s name done (record { file = None; is_unsynced = false }) (record { file = None; is_unsynced = false }) []
    by false = names_same s

later : {X : Type 0} (w : X) (ws : List X) (x : X) → Contains ws x → Contains (w ∷ ws) x
later w ws x (k, below, is) = (suc k, omega (arith, below), is)

-- The state after a call knows all that the one before it does.
pub before_knows : (e : Event) (s : State) → Asked e → Knows s (step e s)
before_knows e s (write at bytes) = record { log = record { settled = refl; asked = later (at, bytes) s.log.asked }; blobs = names_same s.blobs; snapshots = names_same s.snapshots; placed = later (record { at = at; bytes = bytes; since = [] }) s.placed }
before_knows e s (cut len) = record { log = record { settled = refl; asked = λ w is. is }; blobs = names_same s.blobs; snapshots = names_same s.snapshots; placed = λ w is. is }
before_knows e s (make_blob place bytes) = record { log = log_same s.log; blobs = before_change s.blobs place true (record { file = Some bytes; is_unsynced = true }) (bytes ∷ []); snapshots = names_same s.snapshots; placed = λ w is. is }
before_knows e s (remove_blob place) = record { log = log_same s.log; blobs = before_removal s.blobs place true; snapshots = names_same s.snapshots; placed = λ w is. is }
before_knows e s (fill bytes) = record { log = log_same s.log; blobs = names_same s.blobs; snapshots = names_same s.snapshots; placed = λ w is. is }
before_knows e s (publish number) = record { log = log_same s.log; blobs = names_same s.blobs; snapshots = before_change s.snapshots number true (record { file = Some s.temporary.bytes; is_unsynced = false }) (s.temporary.asked ∷ []); placed = λ w is. is }
before_knows e s (remove_snapshot number) = record { log = log_same s.log; blobs = names_same s.blobs; snapshots = before_removal s.snapshots number true; placed = λ w is. is }

-- So does the state after the whole call, where the other one is after a torn one.
pub torn_knows : (e torn : Event) (s : State) → Asked e → Tears e torn → Knows (step torn s) (step e s)
torn_knows e torn s (write at bytes) tears =
    subst (λ (x : Event). Knows (step x s) (step e s)) (sym tears.2) (record { log = record { settled = refl; asked = λ w is. is }; blobs = names_same s.blobs; snapshots = names_same s.snapshots; placed = λ w is. is })
torn_knows e torn s (cut len) tears =
    subst (λ (x : Event). Knows (step x s) (step e s)) (sym tears.2) (record { log = record { settled = refl; asked = λ w is. is }; blobs = names_same s.blobs; snapshots = names_same s.snapshots; placed = λ w is. is })
torn_knows e torn s (make_blob place bytes) tears =
    subst (λ (x : Event). Knows (step x s) (step e s)) (sym tears.2)
    (record { log = log_same s.log; blobs = torn_change s.blobs place tears.1 (record { file = Some tears.0; is_unsynced = true }) (record { file = Some bytes; is_unsynced = true }) (bytes ∷ []); snapshots = names_same s.snapshots; placed = λ w is. is })
torn_knows e torn s (remove_blob place) tears =
    subst (λ (x : Event). Knows (step x s) (step e s)) (sym tears.1) (record { log = log_same s.log; blobs = torn_removal s.blobs place tears.0; snapshots = names_same s.snapshots; placed = λ w is. is })
torn_knows e torn s (fill bytes) tears =
    subst (λ (x : Event). Knows (step x s) (step e s)) (sym tears.1) (record { log = log_same s.log; blobs = names_same s.blobs; snapshots = names_same s.snapshots; placed = λ w is. is })
torn_knows e torn s (publish number) tears =
    let top : NameState = record { file = Some s.temporary.bytes; is_unsynced = false } in
    subst (λ (x : Event). Knows (step x s) (step e s)) (sym tears.1) (record { log = log_same s.log; blobs = names_same s.blobs; snapshots = torn_change s.snapshots number tears.0 top top (s.temporary.asked ∷ []); placed = λ w is. is })
torn_knows e torn s (remove_snapshot number) tears =
    subst (λ (x : Event). Knows (step x s) (step e s)) (sym tears.1) (record { log = log_same s.log; blobs = names_same s.blobs; snapshots = torn_removal s.snapshots number tears.0; placed = λ w is. is })

-- What a crash left, or was read at a sync, is settled from then on. What was the log's own in it is so still.

pub take_again : (n : ℕ) (xs : List ℕ) → take (length (take n xs)) xs ≡ take n xs
take_again zero xs = refl
take_again (suc n) [] = refl
take_again (suc n) (x ∷ xs) = ap (λ (l : List ℕ). x ∷ l) (take_again n xs)

-- the log file, as it was left
pub own_log_at_rest : (sum : List ℕ → ℕ) (size : ℕ) (past : LogState) (placed : List Placement) (log : List ℕ) → NoForeignLog sum size past placed log → NoForeignLog sum size (at_rest log) (settled_again log placed) log
unfolding IsWhole
own_log_at_rest sum size past placed log own = record {
  headers = λ slot lsn mark is.
      let stands = take_again 20 (drop (slot * size) log) in
      (header_settled log placed (slot * size) (part log (slot * size) 20) (own.headers slot lsn mark is).0 stands, inl stands);
  records = λ slot lsn mark at len is read.
      let stands = take_again len (drop (slot * size + at) log) in
      let laid = (own.records slot lsn mark at len is read).0 in
      (record_settled sum size log placed (lsn / size) (slot * size + at) (part log (slot * size + at) len) laid stands, inl stands);
}

-- files under names
pub own_names_at_rest : (passes : List ℕ → Type 0) (file : ℤ → Option (List ℕ)) → NoForeignNames passes (names_at_rest file) file
own_names_at_rest passes file = record { own = λ n bytes there is. inl (settled_alone (file n) ∙ there) }
  where
    settled_alone : (o : Option (List ℕ)) → settled_file o false [] ≡ o
    settled_alone None = refl
    settled_alone (Some bytes) = refl
