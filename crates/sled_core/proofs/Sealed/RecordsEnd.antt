-- Where the records end of entries of which the last one may fill the segment, and why the reading ends there.
use Rattle.std.proofs.lemmas.Bool.Decides.{nat_tests}
use Rattle.sled_core.specs.declared.iterator.scan.ScanEnd.TheVariants.{Full, Broken}
use Rattle.std.proofs.Common.{zero, suc, nat_lt, take, drop, ◌≡◌, ◌≢◌, ◌⊎◌, ◌≤◌, ◌<◌, ◌+◌, ◌∙◌, ℕ, Bool, true, false, if◌then◌else◌, List, [], ◌∷◌, ◌++◌, sym, ap, arith, refl, inl, inr}
use Rattle.std.specs.List.{All}
use Rattle.std.proofs.lemmas.List.Elements.{All-cons, All-tail}
use Rattle.sled_core.specs.declared.iobuf.ReservationState.{ReservationState}
use Rattle.sled_core.specs.declared.iobuf.ReservationState.TheVariants.{Open, Completed, Canceled, Manifest, Padding}
use Rattle.sled_core.specs.declared.iobuf.Reserved.{Reserved}
use Rattle.sled_core.specs.declared.iobuf.SegmentPosition.{SegmentPosition}
use Rattle.sled_core.specs.declared.iterator.scan.ScanEnd.{ScanEnd}
use Rattle.sled_core.specs.Buffers.{padding_state}
use Rattle.sled_core.specs.inside.Buffers.{IsChain, IsPadding, NoPadding, Stands, batch_in, batches_in, completed_in, records_end, records_of, with_batch, with_own}
use Rattle.sled_core.specs.Buffers.{message_in, none_open}
use Rattle.sled_core.specs.inside.Caps.{rest_why}
use Rattle.sled_core.proofs.Reached.OpenTickets.{both_ended, by_first}
use Rattle.sled_core.proofs.Reached.BufferPath.{ending_at}
use Rattle.sled_core.proofs.Reserve.Entries.{reserved_in, padding_in, some_long}
use Rattle.sled_core.proofs.Reserve.Ranges.{chain_grows}
use Rattle.sled_core.proofs.Reserve.RecordEnds.{plain_state as state_plain}

-- why the reading ends where these records end: for what fills the segment, or as behind any last record
abbrev pub records_why : ℕ → List Reserved → ℕ → ScanEnd
records_why size [] end = ending_at size end
records_why size (r ∷ rs) end = if padding_state r.state then rest_why size r.from else records_why size rs end

padding_is : (s : ReservationState) → padding_state s ≡ true → s ≡ Padding
padding_is Open is = cc
padding_is Completed is = cc
padding_is Canceled is = cc
padding_is Manifest is = cc
padding_is Padding is = refl

plain_is : (s : ReservationState) → padding_state s ≡ false → s ≢ Padding
plain_is s is same = let both : padding_state Padding ≡ false = ap padding_state (sym same) ∙ is in cc

-- no entry lies behind the end of a chain
pub none_behind : (from : ℕ) (rs : List Reserved) (end : ℕ) → IsChain from rs end → end ≤ from → All (λ r. 0 < r.len) rs → rs ≡ []
none_behind from [] end chain far some = refl
none_behind from (r ∷ rs) end chain far some =
    let long = some 0 r (omega arith) in
    let grows = chain_grows (from + r.len) end rs chain.1 in
    absurd (omega (arith, long, grows, far))

-- The last one of these entries fills the segment, behind the records.
pub record IsFilled (sum : List ℕ → ℕ) (size number : ℕ) (bytes : List ℕ) (rs : List Reserved) (end stop : ℕ) (why : ScanEnd) : Type 0 where
  pub padding : Reserved
  pub begins : padding.from ≡ stop
  pub fills : IsPadding sum size number bytes padding
  pub full : end ≡ size
  pub reason : why ≡ rest_why size stop
  pub unlike : All NoPadding rs → ⊥

-- Of the entries of a chain these are the records, which end there for that reason: at what fills the segment, or where the chain ends.
pub record AreRecords (sum : List ℕ → ℕ) (size number : ℕ) (bytes : List ℕ) (from : ℕ) (rs : List Reserved) (end : ℕ) (records : List Reserved) (stop : ℕ) (why : ScanEnd) : Type 0 where
  pub chain : IsChain from records stop
  pub stand : All (Stands sum size number bytes) records
  pub plain : All NoPadding records
  pub closed : none_open rs ≡ true → none_open records ≡ true
  pub messages : (site : SegmentPosition) → completed_in site bytes records ≡ completed_in site bytes rs
  pub batches : (site : SegmentPosition) → batches_in site bytes records ≡ batches_in site bytes rs
  pub low : stop ≤ end
  pub last : ((records ≡ rs) × (stop ≡ end) × (why ≡ ending_at size end)) ⊎ IsFilled sum size number bytes rs end stop why

module _ (sum : List ℕ → ℕ) (size number : ℕ) (bytes : List ℕ) where
  -- one more in front
  first_record : (from : ℕ) (r : Reserved) (rs : List Reserved) (end : ℕ) → IsChain from (r ∷ rs) end → end ≤ size → All (Stands sum size number bytes) (r ∷ rs)
      → AreRecords sum size number bytes (from + r.len) rs end (records_of rs) (records_end rs end) (records_why size rs end) → (o : Bool) → padding_state r.state ≡ o
      → AreRecords sum size number bytes from (r ∷ rs) end (if o then [] else r ∷ records_of rs) (if o then r.from else records_end rs end) (if o then rest_why size r.from else records_why size rs end)
  first_record from r rs end chain short stand rest false is = record {
    chain = (chain.0, rest.chain);
    stand = All-cons (Stands sum size number bytes) r (records_of rs) (stand 0 r (omega arith)) rest.stand;
    plain = All-cons NoPadding r (records_of rs) (plain_is r.state is) rest.plain;
    closed = λ closed. (let ended = by_first r.state rs closed in both_ended r.state (records_of rs) ended.0 (rest.closed ended.1));
    messages = λ site. ap (with_own r.state (message_in site bytes r)) (rest.messages site);
    batches = λ site. ap (with_batch r.state (batch_in site bytes r)) (rest.batches site);
    low = rest.low;
    last = elim rest.last [
      | inl l ↦ inl (ap (λ (l : List Reserved). r ∷ l) l.0, l.1, l.2)
      | inr f ↦ inr (record { padding = f.padding; begins = f.begins; fills = f.fills; full = f.full; reason = f.reason; unlike = λ plain. f.unlike (All-tail NoPadding r rs plain) })
    ];
  }
  first_record from r rs end chain short stand rest true is =
      let state : r.state ≡ Padding = padding_is r.state is in
      let fills : IsPadding sum size number bytes r = padding_in sum size number bytes r state (stand 0 r (omega arith)) in
      let begins = chain.0 in
      let to_end = fills.to_end in
      let grows = chain_grows (from + r.len) end rs chain.1 in
      let none : rs ≡ [] = none_behind (from + r.len) rs end chain.1 (omega (arith, begins, to_end, short)) (some_long sum size number bytes rs (All-tail (Stands sum size number bytes) r rs stand)) in
      record {
        chain = sym chain.0;
        stand = λ k d lt. absurd (omega (arith, lt));
        plain = λ k d lt. absurd (omega (arith, lt));
        closed = λ closed. refl;
        messages = λ site. sym (ap (λ (s : ReservationState). with_own s (message_in site bytes r) (completed_in site bytes rs)) state ∙ ap (completed_in site bytes) none);
        batches = λ site. sym (ap (λ (s : ReservationState). with_batch s (batch_in site bytes r) (batches_in site bytes rs)) state ∙ ap (batches_in site bytes) none);
        low = omega (arith, grows, begins);
        last = inr (record { padding = r; begins = refl; fills = fills; full = omega (arith, grows, begins, to_end, short); reason = refl; unlike = λ plain. plain 0 r (omega arith) state });
      }

  pub records_in : (from : ℕ) (rs : List Reserved) (end : ℕ) → IsChain from rs end → end ≤ size → All (Stands sum size number bytes) rs
      → AreRecords sum size number bytes from rs end (records_of rs) (records_end rs end) (records_why size rs end)
  records_in from [] end chain short stand = record {
    chain = chain;
    stand = λ k d lt. absurd (omega (arith, lt));
    plain = λ k d lt. absurd (omega (arith, lt));
    closed = λ is. refl;
    messages = λ site. refl;
    batches = λ site. refl;
    low = omega arith;
    last = inl (refl, refl, refl);
  }
  records_in from (r ∷ rs) end chain short stand =
      first_record from r rs end chain short stand (records_in (from + r.len) rs end chain.1 short (All-tail (Stands sum size number bytes) r rs stand)) (padding_state r.state) refl

-- Entries of which none fills the segment are records, with those of the others behind them.
pub records_on : (xs ys : List Reserved) (end : ℕ) → All NoPadding xs → (records_of (xs ++ ys) ≡ xs ++ records_of ys) × (records_end (xs ++ ys) end ≡ records_end ys end)
records_on [] ys end plain = (refl, refl)
records_on (x ∷ xs) ys end plain =
    let rest = records_on xs ys end (All-tail NoPadding x xs plain) in
    let is : padding_state x.state ≡ false = state_plain x.state (plain 0 x (omega arith)) in (
      ap (λ (o : Bool). if o then [] else x ∷ records_of (xs ++ ys)) is ∙ ap (λ (l : List Reserved). x ∷ l) rest.0,
      ap (λ (o : Bool). if o then x.from else records_end (xs ++ ys) end) is ∙ rest.1,
    )

-- Where the reading ends behind the records of the first entries, but for want of a record, it ends behind those of all.
module _ (sum : List ℕ → ℕ) (size number : ℕ) (bytes : List ℕ) where
  no_room : (stop : ℕ) → ending_at size stop ≢ Broken → size < stop + 32
  no_room stop goes = by (nat_lt size (stop + 32)) refl goes where
    by : (o : Bool) → nat_lt size (stop + 32) ≡ o → (if o then Full else Broken) ≢ Broken → size < stop + 32
    by true test on = grind (arith, nat_tests, test)
    by false test on = absurd (on refl)

  -- behind an offset where no header has room there is at most what fills the segment
  pub covered_behind : (rs : List Reserved) (stop end : ℕ) → IsChain stop rs end → All (Stands sum size number bytes) rs → size < stop + 32 → records_end rs end ≤ stop
  covered_behind [] stop end chain stand full = omega (arith, chain)
  covered_behind (r ∷ rs) stop end chain stand full = by (padding_state r.state) refl where
    by : (o : Bool) → padding_state r.state ≡ o → (if o then r.from else records_end rs end) ≤ stop
    by true is = let at = chain.0 in omega (arith, at)
    by false is = absurd (let room = (reserved_in sum size number bytes r (plain_is r.state is) (stand 0 r (omega arith))).room in let at = chain.0 in omega (arith, room, at, full))

  pub records_taken : (from : ℕ) (rs : List Reserved) (n stop end : ℕ) → IsChain from (take n rs) stop → IsChain stop (drop n rs) end → All (Stands sum size number bytes) rs → size < stop + 32 → records_end rs end ≤ records_end (take n rs) stop
  records_taken from rs zero stop end chain rest stand full = covered_behind rs stop end rest stand full
  records_taken from [] (suc n) stop end chain rest stand full = covered_behind [] stop end rest stand full
  records_taken from (r ∷ rs) (suc n) stop end chain rest stand full = by (padding_state r.state) (records_taken (from + r.len) rs n stop end chain.1 rest (All-tail (Stands sum size number bytes) r rs stand) full) where
    by : (o : Bool) → records_end rs end ≤ records_end (take n rs) stop → (if o then r.from else records_end rs end) ≤ (if o then r.from else records_end (take n rs) stop)
    by true later = omega arith
    by false later = later

  pub records_covered : (from : ℕ) (rs : List Reserved) (n stop end : ℕ) → IsChain from (take n rs) stop → IsChain stop (drop n rs) end → All (Stands sum size number bytes) rs
      → records_why size (take n rs) stop ≢ Broken → records_end rs end ≤ records_end (take n rs) stop
  records_covered from rs zero stop end chain rest stand goes = covered_behind rs stop end rest stand (no_room stop goes)
  records_covered from [] (suc n) stop end chain rest stand goes = covered_behind [] stop end rest stand (no_room stop goes)
  records_covered from (r ∷ rs) (suc n) stop end chain rest stand goes =
      by (padding_state r.state) (records_covered (from + r.len) rs n stop end chain.1 rest (All-tail (Stands sum size number bytes) r rs stand)) goes
    where
      by : (o : Bool) → (records_why size (take n rs) stop ≢ Broken → records_end rs end ≤ records_end (take n rs) stop) → (if o then rest_why size r.from else records_why size (take n rs) stop) ≢ Broken
          → (if o then r.from else records_end rs end) ≤ (if o then r.from else records_end (take n rs) stop)
      by true later on = omega arith
      by false later on = later on
