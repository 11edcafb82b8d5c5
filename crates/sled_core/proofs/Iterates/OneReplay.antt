-- Up to a batch that is open, a segment is met in one way: what is given of it is so of each reading, and no reading has a damaged record before that. Where it
-- is read up to an iterator's end, so it is whatever stands behind that. So one reading of a segment says what an iterator gives of it.
use Rattle.std.proofs.Common.{◌≡◌, ◌⊎◌, ◌∙◌, ◌+◌, ◌/◌, ◌≤◌, ◌++◌, ◌||◌, nat_le, nat_lt, ℕ, ℤ, Bool, true, false, List, [], ◌∷◌, Option, Some, None, IfNone, if◌then◌else◌, refl, sym, ap, subst, arith, inl, inr}
use Rattle.std.specs.Bool.{MatchBool}
use Rattle.std.proofs.lemmas.Bool.Decides.{nat_tests}
use Rattle.sled_core.specs.declared.iterator.Segment.{Segment}
use Rattle.sled_core.specs.declared.iterator.scan.ScannedRecord.{ScannedRecord}
use Rattle.sled_core.specs.declared.iterator.scan.ScanEnd.{ScanEnd}
use Rattle.sled_core.specs.Reading.{IsMalformed}
use Rattle.sled_core.specs.Scan.{IsEnd, IsMet, IsPath, IsScan}
use Rattle.sled_core.specs.Replayed.{IsReplayed, HasBadBlob, NamesBlobOf, with_blob, IsDamagedBefore}
use Rattle.sled_core.specs.Tail.{Scanned, opens, open_at}
use Rattle.sled_core.specs.Iterates.{Item, Damage, EndsAt, IsNamed, items_of, stops, GivesOf, GivesBehind, IsMissing, IsIteration}
use Rattle.sled_core.proofs.Tail.OneReading.{one_met, met_formed, no_end_at, end_formed, one_scan, path_begins}

-- what holds by a test, where another thing does in the second case
pub second_case : (b : Bool) (A B X : Type 0) → (b ≡ false → B → X) → MatchBool b A B → MatchBool b A X
second_case true A B X on holds = holds
second_case false A B X on holds = on refl holds

-- no batch is open among these: the first doesn't begin one, nor do the others
pub none_open : (end : ℕ) (m : ScannedRecord) (ms : List ScannedRecord) → open_at end (m ∷ ms) ≡ None → (opens end m.what ≡ false) × (open_at end ms ≡ None)
none_open end m ms none = by_test (opens end m.what) none where
  by_test : (b : Bool) → (if b then Some m.place else open_at end ms) ≡ None → (b ≡ false) × (open_at end ms ≡ None)
  by_test true is = absurd (cc)
  by_test false is = (refl, is)

-- and where none is open among them and others behind, none is among them
open_before : (end : ℕ) (ms rest : List ScannedRecord) → open_at end (ms ++ rest) ≡ None → open_at end ms ≡ None
open_before end [] rest none = refl
open_before end (m ∷ ms) rest none =
    let parts = none_open end m (ms ++ rest) none in
    subst (λ (b : Bool). (if b then Some m.place else open_at end ms) ≡ None) (sym parts.0) (open_before end ms rest parts.1)

-- what holds where there is none
if_none_so : {A : Type 0} (o : Option A) (P : Type 0) → (o ≡ None → P) → IfNone o P
if_none_so None P so = so refl
if_none_so (Some a) P so = tt

-- and what holds is put in another way
none_as : {P Q : Type 0} (o : Option ℕ) → IfNone o P → (P → Q) → IfNone o Q
none_as None holds so = so holds
none_as (Some at) holds so = tt

-- a record that doesn't stop an iterator begins no batch that is open
pub no_stop : (end : ℕ) (m : ScannedRecord) → stops end m ≡ false → opens end m.what ≡ false
no_stop end m is = by (nat_le end m.place) is where
  by : (b : Bool) → b || opens end m.what ≡ false → opens end m.what ≡ false
  by true at = absurd (cc)
  by false at = at

-- nothing is given
abbrev pub IsNothing : List Item → Damage → Type 0
IsNothing items damage = (items ≡ []) × (damage ≡ None)

-- what is asked behind a record that begins none
shut : (end : ℕ) (m : ScannedRecord) (ms : List ScannedRecord) (P : Type 0) → opens end m.what ≡ false → IfNone (open_at end (m ∷ ms)) P → IfNone (open_at end ms) P
shut end m ms P is asks = subst (λ (b : Bool). IfNone (if b then Some m.place else open_at end ms) P) is asks

module _ (sum : List ℕ → ℕ) (size : ℕ) (log : List ℕ) (end slot place : ℕ) where
  abbrev Path : ℕ → List ScannedRecord → ℕ → Type 0
  Path at ms next = IsPath sum size log slot place at ms next

  abbrev Ends : List ScannedRecord → ℕ → ScanEnd → Type 0
  Ends ms stop why = IfNone (open_at end ms) (IsEnd sum size log slot place stop why)

  module _ (blobs : ℤ → Option (List ℕ)) (on : List Item → Damage → Type 0) where
    -- what is given of one reading is given of another one
    gives_of_other : (at : ℕ) (ms : List ScannedRecord) (stop : ℕ) (why : ScanEnd) (ns : List ScannedRecord) (last : ℕ) (reason : ScanEnd) → Path at ms stop → Ends ms stop why → Path at ns last → Ends ns last reason
        → (items : List Item) (damage : Damage) → GivesOf sum blobs end ns on items damage → GivesOf sum blobs end ms on items damage
    gives_of_other at [] stop why [] last reason path ends other behind items damage gives = gives
    gives_of_other at [] stop why (n ∷ ns) last reason path ends other behind items damage gives =
        absurd (no_end_at sum size log slot place at n why other.0 other.2 (subst (λ k. IsEnd sum size log slot place k why) path ends))
    gives_of_other at (m ∷ ms) stop why [] last reason path ends other behind items damage gives =
        absurd (no_end_at sum size log slot place at m reason path.0 path.2 (subst (λ k. IsEnd sum size log slot place k reason) other behind))
    gives_of_other at (m ∷ ms) stop why (n ∷ ns) last reason path ends other behind items damage gives =
        let same : n ≡ m = one_met sum size log (slot + at) (place / size) n other.2 m path.2 (other.1 ∙ sym path.1) in
        let len : at + n.len ≡ at + m.len = ap (λ (y : ScannedRecord). at + y.len) same in
        let here : GivesOf sum blobs end (m ∷ ns) on items damage = subst (λ (y : ScannedRecord). GivesOf sum blobs end (y ∷ ns) on items damage) same gives in
        let Left : List ScannedRecord → Type 0 = λ ks.
        (HasBadBlob sum blobs m.what × (items ≡ []) × IsNamed (NamesBlobOf sum blobs m.what) damage)
        ⊎ ((HasBadBlob sum blobs m.what → ⊥) × ((rest : List Item) × (items ≡ items_of m (with_blob blobs m.what) ++ rest) × GivesOf sum blobs end ks on rest damage)) in
        second_case (stops end m) ((items ≡ []) × (damage ≡ None)) (Left ns) (Left ms)
        (λ end_not left. let is = no_stop end m end_not in by is left
        (λ rest. gives_of_other (at + m.len) ms stop why ns last reason path.3 (shut end m ms (IsEnd sum size log slot place stop why) is ends)
        (subst (λ k. Path k ns last) len other.3)
        (shut end n ns (IsEnd sum size log slot place last reason) (ap (λ (y : ScannedRecord). opens end y.what) same ∙ is) behind) rest damage))
        here
      where
        by : opens end m.what ≡ false
            → (HasBadBlob sum blobs m.what × (items ≡ []) × IsNamed (NamesBlobOf sum blobs m.what) damage) ⊎ ((HasBadBlob sum blobs m.what → ⊥) × ((rest : List Item) × (items ≡ items_of m (with_blob blobs m.what) ++ rest) × GivesOf sum blobs end ns on rest damage))
            → ((rest : List Item) → GivesOf sum blobs end ns on rest damage → GivesOf sum blobs end ms on rest damage)
            → (HasBadBlob sum blobs m.what × (items ≡ []) × IsNamed (NamesBlobOf sum blobs m.what) damage) ⊎ ((HasBadBlob sum blobs m.what → ⊥) × ((rest : List Item) × (items ≡ items_of m (with_blob blobs m.what) ++ rest) × GivesOf sum blobs end ms on rest damage))
        by is (inl bad) more = inl bad
        by is (inr (fine, (rest, parts, gives))) more = inr (fine, (rest, parts, more rest gives))

  module _ (blobs : ℤ → Option (List ℕ)) (some : List Item → Damage → Type 0) (others : List Item → Damage → Type 0) where
    -- what is given behind these records may be said in another way, where no batch among them is open
    pub gives_as : (ms : List ScannedRecord) → IfNone (open_at end ms) ((items : List Item) (damage : Damage) → some items damage → others items damage)
        → (items : List Item) (damage : Damage) → GivesOf sum blobs end ms some items damage → GivesOf sum blobs end ms others items damage
    gives_as [] so items damage gives = so items damage gives
    gives_as (m ∷ ms) so items damage gives =
        let Left : (List Item → Damage → Type 0) → Type 0 = λ on.
        (HasBadBlob sum blobs m.what × (items ≡ []) × IsNamed (NamesBlobOf sum blobs m.what) damage)
        ⊎ ((HasBadBlob sum blobs m.what → ⊥) × ((rest : List Item) × (items ≡ items_of m (with_blob blobs m.what) ++ rest) × GivesOf sum blobs end ms on rest damage)) in
        second_case (stops end m) ((items ≡ []) × (damage ≡ None)) (Left some) (Left others)
        (λ end_not left. elim left [
          | inl bad ↦ inl bad
          | inr on ↦ inr (on.0, (on.1.0, on.1.1, gives_as ms (shut end m ms ((is : List Item) (d : Damage) → some is d → others is d) (no_stop end m end_not) so) on.1.0 damage on.1.2))
        ])
        gives

  -- no damaged record stands before a batch that is open
  undamaged : (at : ℕ) (ms : List ScannedRecord) (stop : ℕ) (why : ScanEnd) (ns : List ScannedRecord) (next : ℕ) → Path at ms stop → Ends ms stop why → Path at ns next → open_at end ns ≡ None → next + 32 ≤ size
      → IsMalformed sum size log (slot + next) (place / size) → ⊥
  undamaged at [] stop why [] next path ends other none room bad =
      end_formed sum size log slot place at why (subst (λ k. k + 32 ≤ size) other room) (subst (λ k. IsEnd sum size log slot place k why) path ends)
      (subst (λ k. IsMalformed sum size log (slot + k) (place / size)) other bad)
  undamaged at [] stop why (n ∷ ns) next path ends other none room bad =
      no_end_at sum size log slot place at n why other.0 other.2 (subst (λ k. IsEnd sum size log slot place k why) path ends)
  undamaged at (m ∷ ms) stop why [] next path ends other none room bad =
      met_formed sum size log (slot + at) (place / size) m path.2 (subst (λ k. IsMalformed sum size log (slot + k) (place / size)) other bad)
  undamaged at (m ∷ ms) stop why (n ∷ ns) next path ends other none room bad =
      let same : n ≡ m = one_met sum size log (slot + at) (place / size) n other.2 m path.2 (other.1 ∙ sym path.1) in
      let len : at + n.len ≡ at + m.len = ap (λ (y : ScannedRecord). at + y.len) same in
      let parts = none_open end n ns none in
      undamaged (at + m.len) ms stop why ns next path.3 (shut end m ms (IsEnd sum size log slot place stop why) (ap (λ (y : ScannedRecord). opens end y.what) (sym same) ∙ parts.0) ends)
      (subst (λ k. Path k ns next) len other.3) parts.1 room bad

  module _ (blobs : ℤ → Option (List ℕ)) where
    -- what is given before one damaged record is given before another one
    gives_of_damaged : (at : ℕ) (ms : List ScannedRecord) (next : ℕ) (ns : List ScannedRecord) (last : ℕ) → Path at ms next → Path at ns last
        → IsMalformed sum size log (slot + next) (place / size) → IsMalformed sum size log (slot + last) (place / size)
        → (items : List Item) (damage : Damage) → GivesOf sum blobs end ns (EndsAt end (place + last)) items damage
        → GivesOf sum blobs end ms (EndsAt end (place + next)) items damage
    gives_of_damaged at [] next [] last path other bad worse items damage gives =
        subst (λ k. EndsAt end (place + k) items damage) (other ∙ sym path) gives
    gives_of_damaged at [] next (n ∷ ns) last path other bad worse items damage gives =
        absurd (met_formed sum size log (slot + at) (place / size) n other.2
        (subst (λ k. IsMalformed sum size log (slot + k) (place / size)) path bad))
    gives_of_damaged at (m ∷ ms) next [] last path other bad worse items damage gives =
        absurd (met_formed sum size log (slot + at) (place / size) m path.2
        (subst (λ k. IsMalformed sum size log (slot + k) (place / size)) other worse))
    gives_of_damaged at (m ∷ ms) next (n ∷ ns) last path other bad worse items damage gives =
        let same : n ≡ m = one_met sum size log (slot + at) (place / size) n other.2 m path.2 (other.1 ∙ sym path.1) in
        let len : at + n.len ≡ at + m.len = ap (λ (y : ScannedRecord). at + y.len) same in
        let from : List Item → Damage → Type 0 = EndsAt end (place + last) in
        let to : List Item → Damage → Type 0 = EndsAt end (place + next) in
        let Left : (List Item → Damage → Type 0) → List ScannedRecord → Type 0 = λ on ks.
        (HasBadBlob sum blobs m.what × (items ≡ []) × IsNamed (NamesBlobOf sum blobs m.what) damage)
        ⊎ ((HasBadBlob sum blobs m.what → ⊥)
        × ((rest : List Item) × (items ≡ items_of m (with_blob blobs m.what) ++ rest) × GivesOf sum blobs end ks on rest damage)) in
        second_case (stops end m) ((items ≡ []) × (damage ≡ None)) (Left from ns) (Left to ms)
        (λ end_not left. elim left [
          | inl it ↦ inl it
          | inr on ↦ inr (
            on.0,
            (
              on.1.0,
              on.1.1,
              gives_of_damaged (at + m.len) ms next ns last path.3 (subst (λ k. Path k ns last) len other.3) bad worse on.1.0 damage on.1.2,
            ),
          )
        ])
        (subst (λ (y : ScannedRecord). GivesOf sum blobs end (y ∷ ns) from items damage) same gives)

  -- What is given of a reading that comes up to the end is given of each one that goes on: what stands behind that is not given.
  module _ (blobs : ℤ → Option (List ℕ)) (others : List Item → Damage → Type 0) where
    -- no record is met where the one that goes on ends, and nothing is given behind that
    abbrev EndsSo : List ScannedRecord → ℕ → Type 0
    EndsSo ns next = IfNone (open_at end ns)
        (((m : ScannedRecord) → next + 32 ≤ size → IsMet sum size log (slot + next) (place / size) m → ⊥) × (end ≤ place + next → others [] None))

    -- what is given of a record that doesn't stop an iterator, and of those behind it
    abbrev Left : (List Item → Damage → Type 0) → ScannedRecord → List ScannedRecord → List Item → Damage → Type 0
    Left on x xs items damage =
        (HasBadBlob sum blobs x.what × (items ≡ []) × IsNamed (NamesBlobOf sum blobs x.what) damage)
        ⊎ ((HasBadBlob sum blobs x.what → ⊥)
        × ((rest : List Item) × (items ≡ items_of x (with_blob blobs x.what) ++ rest) × GivesOf sum blobs end xs on rest damage))

    gives_further : (at : ℕ) (ms : List ScannedRecord) (stop : ℕ) → Path at ms stop → end ≤ place + stop → (ns : List ScannedRecord) (next : ℕ)
        → Path at ns next → EndsSo ns next → (items : List Item) (damage : Damage) → GivesOf sum blobs end ms IsNothing items damage
        → GivesOf sum blobs end ns others items damage
    gives_further at [] stop path far [] next other ends items damage gives =
        subst (λ (l : List Item). others l damage) (sym gives.0)
        (subst (λ (d : Damage). others [] d) (sym gives.1) (ends.1 (omega (arith, far, path, other))))
    gives_further at [] stop path far (n ∷ ns) next other ends items damage gives =
        let over : end ≤ n.place = omega (arith, far, path, other.1) in
        let test : nat_le end n.place ≡ true = grind (arith, nat_tests, over) in
        let stopped : stops end n ≡ true = ap (λ (b : Bool). b || opens end n.what) test in
        subst (λ (b : Bool). MatchBool b ((items ≡ []) × (damage ≡ None)) (Left others n ns items damage)) (sym stopped) gives
    gives_further at (m ∷ ms) stop path far [] next other ends items damage gives =
        absurd (ends.0 m (omega (arith, path.0, other)) (subst (λ k. IsMet sum size log (slot + k) (place / size) m) (sym other) path.2))
    gives_further at (m ∷ ms) stop path far (n ∷ ns) next other ends items damage gives =
        let same : m ≡ n = one_met sum size log (slot + at) (place / size) m path.2 n other.2 (path.1 ∙ sym other.1) in
        let len : at + m.len ≡ at + n.len = ap (λ (y : ScannedRecord). at + y.len) same in
        let here : GivesOf sum blobs end (n ∷ ms) IsNothing items damage =
        subst (λ (y : ScannedRecord). GivesOf sum blobs end (y ∷ ms) IsNothing items damage) same gives in
        second_case (stops end n) ((items ≡ []) × (damage ≡ None)) (Left IsNothing n ms items damage) (Left others n ns items damage)
        (λ end_not left. elim left [
          | inl bad ↦ inl bad
          | inr on ↦ inr (
            on.0,
            (
              on.1.0,
              on.1.1,
              gives_further (at + n.len) ms stop (subst (λ k. Path k ms stop) len path.3) far ns next other.3
                  (shut end n ns (((x : ScannedRecord) → next + 32 ≤ size → IsMet sum size log (slot + next) (place / size) x → ⊥)
                  × (end ≤ place + next → others [] None)) (no_stop end n end_not) ends)
                  on.1.0 damage on.1.2,
            ),
          )
        ])
        here

module _ (sum : List ℕ → ℕ) (size : ℕ) (log : List ℕ) (end : ℕ) (x : Scanned) (s : Segment) (at : x.segment ≡ s) (read : IsReplayed sum size log end x) where
  -- a segment that is read so has no damaged record before a batch that is open
  pub replayed_undamaged : IsDamagedBefore sum size log end s → ⊥
  replayed_undamaged bad =
      let here = subst (λ (y : Segment). IsDamagedBefore sum size log end y) (sym at) bad in
      undamaged sum size log end x.segment.slot x.segment.place 20 x.met x.stop x.why here.met here.next read.0 read.1 here.path here.not_open here.room here.damaged

  -- and gives what any other reading gives
  pub replayed_gives : (blobs : ℤ → Option (List ℕ)) (on : List Item → Damage → Type 0) (y : Scanned) → y.segment ≡ s → IsReplayed sum size log end y
      → (items : List Item) (damage : Damage) → GivesOf sum blobs end y.met on items damage → GivesOf sum blobs end x.met on items damage
  replayed_gives blobs on y other again items damage gives =
      let there = subst (λ (t : Segment). IsPath sum size log t.slot t.place 20 y.met y.stop × IfNone (open_at end y.met) (IsEnd sum size log t.slot t.place y.stop y.why)) (other ∙ sym at) again in
      gives_of_other sum size log end x.segment.slot x.segment.place blobs on 20 x.met x.stop x.why y.met y.stop y.why read.0 read.1 there.0 there.1 items damage gives

  -- no batch is open in the one where none is in the other, and then both end for one reason
  pub replayed_ends : (y : Scanned) → y.segment ≡ s → IsReplayed sum size log end y → IfNone (open_at end x.met) (y.why ≡ x.why)
  unfolding IsScan
  replayed_ends y other again = if_none_so (open_at end x.met) (y.why ≡ x.why) (λ none. by none) where
    there : IsPath sum size log x.segment.slot x.segment.place 20 y.met y.stop × IfNone (open_at end y.met) (IsEnd sum size log x.segment.slot x.segment.place y.stop y.why)
    there = subst (λ (t : Segment). IsPath sum size log t.slot t.place 20 y.met y.stop × IfNone (open_at end y.met) (IsEnd sum size log t.slot t.place y.stop y.why)) (other ∙ sym at) again

    by : open_at end x.met ≡ None → y.why ≡ x.why
    by none =
        let slot : ℕ = x.segment.slot in
        let place : ℕ = x.segment.place in
        let ends : IsEnd sum size log slot place x.stop x.why = subst (λ (o : Option ℕ). IfNone o (IsEnd sum size log slot place x.stop x.why)) none read.1 in
        let begins = path_begins sum size log slot place 20 y.met y.stop x.met x.stop x.why there.0 read.0 ends in
        let shut_too = open_before end y.met begins.0 (ap (open_at end) (sym begins.1) ∙ none) in
        let its_end : IsEnd sum size log slot place y.stop y.why = subst (λ (o : Option ℕ). IfNone o (IsEnd sum size log slot place y.stop y.why)) shut_too there.1 in
        let xs : Scanned = record { segment = x.segment; met = x.met; stop = x.stop; why = x.why } in
        let ys : Scanned = record { segment = x.segment; met = y.met; stop = y.stop; why = y.why } in
        ap (λ (t : Scanned). t.why) (one_scan sum size log ys xs refl (there.0, its_end) (read.0, ends))

-- Where a segment is read up to the end, what is given of that is given of it, whatever stands behind the end.
module _ (sum : List ℕ → ℕ) (size : ℕ) (log : List ℕ) (end : ℕ) (s : Segment) (blobs : ℤ → Option (List ℕ)) (ms : List ScannedRecord) (stop : ℕ)
    (path : IsPath sum size log s.slot s.place 20 ms stop) (far : end ≤ s.place + stop) (items : List Item) (damage : Damage)
    (gives : GivesOf sum blobs end ms IsNothing items damage) where
  pub damaged_further : (d : IsDamagedBefore sum size log end s) → GivesOf sum blobs end d.met (EndsAt end (s.place + d.next)) items damage
  damaged_further d =
      gives_further sum size log end s.slot s.place blobs (EndsAt end (s.place + d.next)) 20 ms stop path far d.met d.next d.path
      (if_none_so (open_at end d.met) _ (λ none. (
        λ m room met. met_formed sum size log (s.slot + d.next) (s.place / size) m met d.damaged,
        λ behind. (
          refl,
          sym (ap (λ (b : Bool). if b then Some None else None) (let test : nat_lt (s.place + d.next) end ≡ false =
              grind (arith, nat_tests, behind) in test)),
        ),
      ))) items damage gives

  pub replayed_further : (x : Scanned) → x.segment ≡ s → IsReplayed sum size log end x → (on : List Item → Damage → Type 0) → on [] None
      → GivesOf sum blobs end x.met on items damage
  replayed_further x at read on nothing =
      let there = subst (λ (t : Segment). IsPath sum size log t.slot t.place 20 x.met x.stop
      × IfNone (open_at end x.met) (IsEnd sum size log t.slot t.place x.stop x.why)) at read in
      gives_further sum size log end s.slot s.place blobs on 20 ms stop path far x.met x.stop there.0
      (if_none_so (open_at end x.met) _ (λ none. (
        λ m room met. no_end_at sum size log s.slot s.place x.stop m x.why room met
            (subst (λ (o : Option ℕ). IfNone o (IsEnd sum size log s.slot s.place x.stop x.why)) none there.1),
        λ behind. nothing,
      ))) items damage gives

-- What an iterator gives of segments, by one reading of the first: up to a batch that is open or to its end, or up to a damaged record.
module _ (sum : List ℕ → ℕ) (size : ℕ) (log : List ℕ) (blobs : ℤ → Option (List ℕ)) (end : ℕ) (strict : Bool) (s : Segment) (ss : List Segment)
    (there : IsMissing strict sum log s → ⊥) (items : List Item) (damage : Damage) where
  abbrev Behind : ScanEnd → List Item → Damage → Type 0
  Behind why = GivesBehind strict why (IsIteration sum size log blobs end strict ss)

  pub iteration_replayed : (x : Scanned) → x.segment ≡ s → IsReplayed sum size log end x → GivesOf sum blobs end x.met (Behind x.why) items damage
      → IsIteration sum size log blobs end strict (s ∷ ss) items damage
  iteration_replayed x at read gives =
      inr (
        there,
        (
          λ d. absurd (replayed_undamaged sum size log end x s at read d),
          λ y same again.
              gives_as sum size log end y.segment.slot y.segment.place blobs (Behind x.why) (Behind y.why) y.met
              (none_as (open_at end y.met) (replayed_ends sum size log end y s same again x at read)
              (λ why is d on. subst (λ (w : ScanEnd). Behind w is d) why on))
              items damage
              (replayed_gives sum size log end y s same again blobs (Behind x.why) x at read items damage gives),
        ),
      )

  pub iteration_damaged : (d : IsDamagedBefore sum size log end s) → GivesOf sum blobs end d.met (EndsAt end (s.place + d.next)) items damage
      → IsIteration sum size log blobs end strict (s ∷ ss) items damage
  iteration_damaged d gives =
      inr (
        there,
        (
          λ e.
              gives_of_damaged sum size log end s.slot s.place blobs 20 e.met e.next d.met d.next e.path d.path e.damaged d.damaged items damage gives,
          λ x at read. absurd (replayed_undamaged sum size log end x s at read d),
        ),
      )
