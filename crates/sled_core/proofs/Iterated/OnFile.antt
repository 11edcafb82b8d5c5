-- An iterator over the segments of a log gives the messages of its history up to the iterator's end, but for those whose segment is gone and those whose blob
-- is missing, and doesn't end at damage.
use Rattle.std.proofs.Common.{⊎_elim, ◌≡◌, ◌≢◌, ◌⊎◌, ◌∙◌, ◌+◌, ◌*◌, ◌/◌, ◌%◌, ◌^◌, ◌<◌, ◌≤◌, ℕ, ℤ, pos, true, false, List, [], ◌∷◌, ◌++◌, map, Option, None, Some, IfNone, refl, sym, ap, subst, arith, inl, inr}
use Rattle.std.specs.List.{Contains}
use Rattle.std.proofs.Math.Nat.{mul-mod_left}
use Rattle.std.proofs.lemmas.List.{map-append}
use Rattle.std.proofs.lemmas.List.Elements.{All-contains, Contains-append_cases, Contains-append_left, Contains-append_right}
use Rattle.sled_codec.specs.History.{Message, Batch, History}
use Rattle.sled_codec.specs.Places.{part}
use Rattle.sled_codec.specs.Record.{IsHeader}
use Rattle.sled_codec.specs.WellFormed.{LieApart}
use Rattle.sled_store.specs.SegmentStates.{Machine, is_free, slot_at}
use Rattle.sled_store.proofs.Histories.Ascending.{Ascends, apart_ascends, append_ascends, later_above}
use Rattle.sled_store.proofs.Segments.Elements.{in_first, in_rest, in_cases, in_nothing, no_element, all_from_in}
use Rattle.sled_core.specs.declared.iterator.Segment.{Segment}
use Rattle.sled_core.specs.declared.iterator.scan.ScannedRecord.{ScannedRecord}
use Rattle.sled_core.specs.declared.iterator.scan.ScanEnd.{ScanEnd}
use Rattle.sled_core.specs.declared.iterator.scan.ScanEnd.TheVariants.{Full, Capped, Broken}
use Rattle.sled_core.specs.Iterates.{Item, Damage, HasItsHeader, GivesBehind, IsIteration}
use Rattle.sled_core.specs.LogSegments.{AreSegments}
use Rattle.sled_core.specs.OnFile.{HasBlobThere, item_of, AreOnFile}
use Rattle.sled_core.specs.inside.Recoverable.{PassesIfThere}
use Rattle.sled_core.specs.Replayed.{IsReplayed}
use Rattle.sled_core.specs.Scan.{IsPath}
use Rattle.sled_core.specs.Tail.{Scanned, open_at}
use Rattle.sled_core.proofs.Iterated.Given.{AreGiven, GivesInline, met_inline, messages_given}
use Rattle.sled_core.proofs.Iterated.Listed.{listed_of, listed_has, listed_rises}
use Rattle.sled_core.proofs.Iterated.ReadHere.{IsReadHere}
use Rattle.sled_core.proofs.Iterates.OneReplay.{IsNothing, damaged_further, iteration_replayed, replayed_further}
use Rattle.sled_core.proofs.Reached.ReachedEntries.{path_to}
use Rattle.sled_core.proofs.Tail.Multiples.{put_down, apart, lower_multiple, one_multiple}
use Rattle.sled_core.proofs.Tail.OneTail.{Rises}
use Rattle.sled_core.proofs.Tail.Rows.{path_stands, path_within}

-- Messages by place that are of a list in which they lie apart lie apart.

-- of two such messages the lower one ends where the other begins, or before
pair_apart : (ys : List Message) → LieApart ys → (m n : Message) → Contains ys m → Contains ys n → m.place < n.place → (0 < m.size) × (m.place + m.size ≤ n.place)
pair_apart [] lie m n here there less = absurd (in_nothing m here)
pair_apart (y ∷ ys) lie m n here there less = by (pair_apart ys lie.2 m n) (in_cases y m ys here) (in_cases y n ys there) where
  by : (Contains ys m → Contains ys n → m.place < n.place → (0 < m.size) × (m.place + m.size ≤ n.place)) → (y ≡ m) ⊎ Contains ys m → (y ≡ n) ⊎ Contains ys n → (0 < m.size) × (m.place + m.size ≤ n.place)
  by rest (inl a) (inl b) = absurd (omega (arith, less, ap (λ (z : Message). z.place) a, ap (λ (z : Message). z.place) b))
  by rest (inl a) (inr b) = subst (λ (z : Message). (0 < z.size) × (z.place + z.size ≤ n.place)) a (lie.0, All-contains (λ x. y.place + y.size ≤ x.place) ys n lie.1 b)
  by rest (inr a) (inl b) = let far = All-contains (λ x. y.place + y.size ≤ x.place) ys m lie.1 a in absurd (omega (arith, far, less, ap (λ (z : Message). z.place) b))
  by rest (inr a) (inr b) = rest a b less

-- each has a size
sized : (ys : List Message) → LieApart ys → (m : Message) → Contains ys m → 0 < m.size
sized [] lie m there = absurd (in_nothing m there)
sized (y ∷ ys) lie m there = ⊎_elim (λ same. subst (λ (z : Message). 0 < z.size) same lie.0) (λ later. sized ys lie.2 m later) (in_cases y m ys there)

-- so they lie apart too
apart_among : (ys : List Message) → LieApart ys → (xs : List Message) → Ascends xs → ((m : Message) → Contains xs m → Contains ys m) → LieApart xs
apart_among ys lie [] up there = tt
apart_among ys lie (x ∷ xs) up there = (
  sized ys lie x (there x (in_first x xs)),
  all_from_in (λ n. x.place + x.size ≤ n.place) xs (λ n later. (pair_apart ys lie x n (there x (in_first x xs)) (there n (in_rest x n xs later)) (later_above x xs n up later)).1),
  apart_among ys lie xs up.1 (λ m later. there m (in_rest x m xs later)),
)

-- what holds holds where there is none
none_too : (o : Option ℕ) (P : Type 0) → P → IfNone o P
none_too None P holds = holds
none_too (Some at) P holds = tt

-- Behind a segment that leads on, or behind which nothing is given, that is given which is given of the others.
behind_goes : (why : ScanEnd) (on : List Item → Damage → Type 0) (items : List Item) → (why ≢ Broken) ⊎ (items ≡ []) → on items None → GivesBehind true why on items None
behind_goes Full on items goes given = given
behind_goes Capped on items goes given = given
behind_goes Broken on items (inl leads) given = absurd (leads refl)
behind_goes Broken on items (inr none) given = (none, refl)

module _ (sum : List ℕ → ℕ) (size : ℕ) (log : List ℕ) (some : 256 ≤ size) (H : History) (lie : LieApart H.messages)
    (blobs : ℤ → Option (List ℕ)) (good : (n : Message) → Contains H.messages n → PassesIfThere sum blobs n n.pointer)
    (end : ℕ) (closed : (b : Batch) → Contains H.batches b → b.low < end → b.peg < end) where
  abbrev ordered : Ascends H.messages
  ordered = apart_ascends H.messages lie

  -- A segment that can be given: it begins below the end, in a slot where its header stands, and is read.
  pub record CanBeGivenOf (s : Segment) : Type 0 where
    pub slot : s.slot % size ≡ 0
    pub aligned : s.place % size ≡ 0
    pub below : s.place < end
    pub header : HasItsHeader sum log s
    pub reads : IsReadHere sum size log H end s.slot s.place

  -- These messages of the history are given of these segments: all that lie in them below the end, but for those whose blob is missing.
  pub record AreGivenOf (ss : List Segment) (L : List Message) : Type 0 where
    pub of : (n : Message) → Contains L n → Contains H.messages n × (n.place < end) × HasBlobThere blobs n.pointer × ((s : Segment) × Contains ss s × (n.place / size * size ≡ s.place))
    pub ascends : Ascends L
    pub all : (s : Segment) (n : Message) → Contains ss s → Contains H.messages n → n.place / size * size ≡ s.place → n.place < end → HasBlobThere blobs n.pointer → Contains L n
    pub gives : IsIteration sum size log blobs end true ss (map item_of L) None

  -- One segment more.
  module _ (s : Segment) (ss : List Segment) (first : CanBeGivenOf s) (each : (u : Segment) → Contains ss u → CanBeGivenOf u) (rises : (u : Segment) → Contains ss u → s.place < u.place) (L : List Message) (are : AreGivenOf ss L) where
    -- what is read of it
    abbrev r : IsReadHere sum size log H end s.slot s.place
    r = first.reads

    -- up to where
    abbrev to : ℕ
    to = s.place + r.stop

    -- the records that are met in it
    path : IsPath sum size log s.slot s.place 20 r.met r.stop
    path = r.path

    -- they lie in it
    within : r.stop ≤ size
    within = path_within sum size log s.slot s.place first.slot 20 r.met r.stop (omega (arith, some)) path

    -- the later ones begin where it ends, or behind that
    later_far : (u : Segment) → Contains ss u → s.place + size ≤ u.place
    later_far u there = apart size (omega (arith, some)) s.place u.place first.aligned (each u there).aligned (rises u there)

    -- what is given of them lies behind it
    rest_above : (n : Message) → Contains L n → s.place + size ≤ n.place
    rest_above n there =
        let u = (are.of n there).3 in
        let far = later_far u.0 u.1 in
        let parts = put_down size n.place in
        omega (arith, far, parts.0, u.2)

    -- where it doesn't lead on, or reaches beyond the end, there are none
    none_behind : ((u : Segment) → Contains ss u → ⊥) → map item_of L ≡ []
    none_behind none = ap (map item_of) (no_element L (λ n there. let u = (are.of n there).3 in none u.0 u.1))

    -- it leads on, or nothing is given behind it
    none_far : end ≤ to → map item_of L ≡ []
    none_far far = none_behind (λ u there. let next = later_far u there in let below = (each u there).below in omega (arith, next, below, far, within))

    -- where it is read beyond the end nothing is given behind it
    last : end < to → map item_of L ≡ []
    last over = none_far (omega (arith, over))

    -- no record that is met gives a message with a blob
    known : (x : ScannedRecord) → Contains r.met x → GivesInline blobs x
    known x there = let at = path_to sum size log s.slot s.place 20 r.met r.stop path x there in met_inline sum size log blobs (s.slot + at.1) (s.place / size) x at.2.3

    -- Where this is given behind it,
    module _ (On : List Item → Damage → Type 0) (goes : On (map item_of L) None) where
      -- these are given of its records,
      abbrev IsOwn : List Message → Type 0
      IsOwn own = AreGiven sum size log blobs H ordered good end closed On (map item_of L) goes to last (s.place + 20) r.met own

      own_given : (own : List Message) × IsOwn own
      own_given =
          messages_given sum size log blobs H ordered good end closed On (map item_of L) goes to last (s.place + 20) r.met
          (path_stands sum size log s.slot s.place 20 r.met r.stop path) (λ x there. (r.truth x there, known x there))

      module _ (own : List Message) (is : IsOwn own)
          (gives : IsIteration sum size log blobs end true (s ∷ ss) (map item_of own ++ map item_of L) None) where
        -- they lie in it
        own_below : (n : Message) → Contains own n → (n.place < s.place + size) × (n.place / size * size ≡ s.place)
        own_below n there =
            let of = is.of n there in
            let inside : n.place % size < size = omega (arith, some) in
            let parts = put_down size n.place in
            let low : n.place < s.place + size = omega (arith, of.2, within) in
            (low, by_multiple n (omega (arith, of.1)) low)
          where
            by_multiple : (n : Message) → s.place ≤ n.place → n.place < s.place + size → n.place / size * size ≡ s.place
            by_multiple n above below = one_multiple size some s.place n.place first.aligned above below

        -- these, and then those of the others
        one_more : AreGivenOf (s ∷ ss) (own ++ L)
        one_more = record {
          of = λ n there. ⊎_elim
              (λ mine. let of = is.of n mine in (of.0, of.3, of.4, (s, in_first s ss, (own_below n mine).1)))
              (λ later. let of = are.of n later in (of.0, of.1, of.2, (of.3.0, in_rest s of.3.0 ss of.3.1, of.3.2)))
              (Contains-append_cases own L n there);
          ascends = append_ascends own L (s.place + size) is.ascends are.ascends
              (all_from_in (λ n. n.place < s.place + size) own (λ n there. (own_below n there).0))
              (all_from_in (λ n. s.place + size ≤ n.place) L rest_above);
          all = λ u n there known_n lies under blob. ⊎_elim
              (λ same.
              let x = r.has n known_n (lies ∙ ap (λ (y : Segment). y.place) (sym same)) under in
              Contains-append_left own L n (is.all x.0 n x.1 known_n x.2 under blob))
              (λ later. Contains-append_right own L n (are.all u n later known_n lies under blob))
              (in_cases s u ss there);
          gives = subst (λ (l : List Item). IsIteration sum size log blobs end true (s ∷ ss) l None) (sym (map-append item_of own L)) gives;
        }

    -- In each reading of it that is given, whether it leads on or is read up to the end.
    with_own : (own : List Message) × AreGivenOf (s ∷ ss) (own ++ L)
    with_own = elim r.goes [
      | inl (why, ends, leads) ↦ (
          let On : List Item → Damage → Type 0 = GivesBehind true why (IsIteration sum size log blobs end true ss) in
          let goes : On (map item_of L) None = behind_goes why (IsIteration sum size log blobs end true ss) (map item_of L) (inl leads) are.gives in
          let given = own_given On goes in
          let own : List Message = given.0 in
          let x : Scanned = record { segment = s; met = r.met; stop = r.stop; why = why } in
          let read : IsReplayed sum size log end x = (r.path, none_too (open_at end r.met) _ ends) in (
            own,
            one_more On goes own given.1
                (iteration_replayed sum size log blobs end true s ss (λ missing. missing first.header) (map item_of own ++ map item_of L) None x refl read
                given.1.gives),
          ))
      | inr far ↦ (
          let nothing : map item_of L ≡ [] = none_far far in
          let given = own_given IsNothing (nothing, refl) in
          let own : List Message = given.0 in (
            own,
            one_more IsNothing (nothing, refl) own given.1 (inr (
              λ missing. missing first.header,
              (
                damaged_further sum size log end s blobs r.met r.stop r.path far (map item_of own ++ map item_of L) None given.1.gives,
                λ y at again.
                    replayed_further sum size log end s blobs r.met r.stop r.path far (map item_of own ++ map item_of L) None given.1.gives y at again
                    (GivesBehind true y.why (IsIteration sum size log blobs end true ss))
                    (subst (λ (l : List Item). GivesBehind true y.why (IsIteration sum size log blobs end true ss) l None) nothing
                    (behind_goes y.why (IsIteration sum size log blobs end true ss) (map item_of L) (inr nothing) are.gives)),
              ),
            )),
          ))
    ]

  -- The messages that are given of segments.
  pub given_of : (ss : List Segment) → Rises ss → ((s : Segment) → Contains ss s → CanBeGivenOf s) → (L : List Message) × AreGivenOf ss L
  given_of [] rises each = ([], record { of = λ n there. absurd (in_nothing n there); ascends = tt; all = λ s n there known lies under blob. absurd (in_nothing s there); gives = (refl, refl) })
  given_of (s ∷ ss) rises each =
      let later = given_of ss rises.1 (λ u there. each u (in_rest s u ss there)) in
      let own = with_own s ss (each s (in_first s ss)) (λ u there. each u (in_rest s u ss there)) rises.0 later.0 later.1 in
      (own.0 ++ later.0, own.1)

-- a slot has a segment
abbrev pub IsTakenIn : Machine → ℕ → Type 0
IsTakenIn m k = is_free (slot_at m k).state ≡ false

-- What is asked of the slots that aren't free, of the segment in each of them.
pub record AreSlotsOf (sum : List ℕ → ℕ) (size : ℕ) (log : List ℕ) (H : History) (end : ℕ) (m : Machine) : Type 0 where
  -- it begins at a multiple of the size
  pub aligned : (k : ℕ) → IsTakenIn m k → (slot_at m k).lsn % size ≡ 0
  -- no other slot has one that begins there
  pub one : (j k : ℕ) → IsTakenIn m j → IsTakenIn m k → (slot_at m j).lsn ≡ (slot_at m k).lsn → j ≡ k
  -- below the end its header stands in its slot
  pub begun : (k : ℕ) → IsTakenIn m k → (slot_at m k).lsn < end → (mark : ℤ) × IsHeader sum (part log (k * size) 20) (pos (slot_at m k).lsn) mark
  -- and it is read
  pub reads : (k : ℕ) → IsTakenIn m k → (slot_at m k).lsn < end → IsReadHere sum size log H end (k * size) (slot_at m k).lsn
  -- it ends below the last place
  pub fits : (k : ℕ) → IsTakenIn m k → (slot_at m k).lsn + size < 2 ^ 63

module _ (sum : List ℕ → ℕ) (size : ℕ) (log : List ℕ) (some : 256 ≤ size) (H : History) (lie : LieApart H.messages) (end : ℕ)
    (closed : (b : Batch) → Contains H.batches b → b.low < end → b.peg < end) (m : Machine) (slots : AreSlotsOf sum size log H end m)
    (blobs : ℤ → Option (List ℕ)) (good : (n : Message) → Contains H.messages n → PassesIfThere sum blobs n n.pointer)
    (from : ℕ) (begins : from % size ≡ 0) (ss : List Segment) (are : AreSegments size m from end ss) where
  -- each segment of the list can be given
  can_be_given : (s : Segment) → Contains ss s → CanBeGivenOf sum size log some H lie blobs good end closed s
  can_be_given s there =
      let of = listed_of size m from end ss are s there in
      let k : ℕ = of.index in
      let place = of.place in
      let slot : s.slot ≡ k * size = of.slot ∙ ap (λ n. n * size) (omega arith) in
      let below = of.below in
      let low : (slot_at m k).lsn < end = omega (arith, below, place) in
      let header = slots.begun k of.taken low in
      let aligned = slots.aligned k of.taken in
      record {
        slot = ap (λ n. n % size) slot ∙ mul-mod_left k size;
        aligned = ap (λ n. n % size) place ∙ aligned;
        below = below;
        header = (header.0, subst (λ n. IsHeader sum (part log n 20) (pos s.place) header.0) (sym slot) (subst (λ p. IsHeader sum (part log (k * size) 20) (pos p) header.0) (sym place) header.1));
        reads = subst (λ n. IsReadHere sum size log H end n s.place) (sym slot)
            (subst (λ p. IsReadHere sum size log H end (k * size) p) (sym place) (slots.reads k of.taken low));
      }

  -- An iterator gives the messages of the history that are on file.
  pub gives_on_file : (ms : List Message) × AreOnFile size m blobs H from end ms × IsIteration sum size log blobs end true ss (map item_of ms) None
  gives_on_file =
      let given = given_of sum size log some H lie blobs good end closed ss (listed_rises size m from end ss are slots.one) can_be_given in
      let L : List Message = given.0 in
      let is = given.1 in (
        L,
        record {
          apart = apart_among H.messages lie L is.ascends (λ n there. (is.of n there).0);
          are = λ n. (
            λ there.
                let of = is.of n there in
                let s = of.3 in
                let slot = listed_of size m from end ss are s.0 s.1 in
                let parts = put_down size n.place in
                let above = slot.above in
                (of.0, omega (arith, above, parts.0, s.2), of.1, (slot.index, slot.taken, sym slot.place ∙ sym s.2), of.2),
            λ on_file. let (known, above, below, (k, taken, place), blob) = on_file in
                let parts = put_down size n.place in
                let whole = put_down size from in
                let low = lower_multiple size some from n.place above in
                let s = listed_has size m from end ss are k taken (omega (arith, low, whole.0, begins, place)) (omega (arith, place, parts.0, below)) (slots.fits k taken) in
                is.all s.0 n s.1 known (sym place ∙ sym s.2) below blob,
          );
        },
        is.gives,
      )
