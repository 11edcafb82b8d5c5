-- What an iterator gives of segments one behind another has ever greater places; and the segments that are found in a file lie so, and those of a log.
use Rattle.std.proofs.Common.{◌≡◌, ◌⊎◌, ◌∙◌, ◌+◌, ◌%◌, ◌/◌, ◌≤◌, ◌<◌, ◌++◌, ℕ, suc, ℤ, min, Bool, true, false, nat_lt, if◌then◌else◌, List, [], ◌∷◌, Option, None, refl, sym, ap, subst, arith, inl, inr}
use Rattle.std.specs.Bool.{MatchBool}
use Rattle.std.specs.List.{Contains}
use Rattle.sled_codec.specs.History.{History, Message}
use Rattle.sled_store.specs.Device.{Trace}
use Rattle.sled_store.proofs.Segments.Elements.{in_first, in_rest}
use Rattle.sled_core.specs.declared.iterator.Segment.{Segment}
use Rattle.sled_core.specs.declared.iterator.scan.RecordContent.{RecordContent}
use Rattle.sled_core.specs.declared.iterator.scan.RecordContent.TheVariants.{Gives, NamesBlob, Skipped, BatchStart}
use Rattle.sled_core.specs.declared.iterator.scan.ScanEnd.{ScanEnd}
use Rattle.sled_core.specs.declared.iterator.scan.ScanEnd.TheVariants.{Full, Capped, Broken}
use Rattle.sled_core.specs.declared.iterator.scan.ScannedRecord.{ScannedRecord}
use Rattle.sled_core.specs.declared.logger.Log.{Log}
use Rattle.sled_core.specs.Fits.{machine_at, segment_size_of}
use Rattle.sled_core.specs.Iterates.{Damage, EndsAt, GivesBehind, GivesOf, IsIteration, IsNamed, Item, items_of, stops}
use Rattle.sled_core.specs.LogSegments.{AreSegments}
use Rattle.sled_core.specs.Replayed.{HasBadBlob, NamesBlobOf, with_blob}
use Rattle.sled_core.specs.Rising.{FollowFrom, IsReadBy, RiseFrom}
use Rattle.sled_core.specs.Scan.{IsPath}
use Rattle.sled_core.specs.Tail.{IsOrdering, begun_below}
use Rattle.sled_core.specs.invariants.Running.{Fits}
use Rattle.sled_core.proofs.Iterated.Listed.{listed_of, listed_rises}
use Rattle.sled_core.proofs.Read.ScanLemmas.{met_fits}
use Rattle.sled_core.proofs.Tail.Multiples.{apart}
use Rattle.sled_core.proofs.Tail.OneTail.{Rises, place_aligned, rises_of}

-- Messages rise from a lower place, too.
rise_lower : (low high : ℕ) (items : List Item) → low ≤ high → RiseFrom high items → RiseFrom low items
rise_lower low high [] le rise = tt
rise_lower low high (item ∷ items) le rise = (rise.0, rise.1, (let up = rise.2 in omega (arith, le, up)), rise.3)

rise_none : (low : ℕ) (items : List Item) → items ≡ [] → RiseFrom low items
rise_none low items none = subst (RiseFrom low) (sym none) tt

-- What a record gives lies at its place.
rise_record : (m : ScannedRecord) (what : RecordContent) (rest items : List Item) (next : ℕ) → items ≡ items_of m what ++ rest → m.place < next
    → RiseFrom next rest → RiseFrom m.place items
rise_record m what rest items next is less rise = subst (RiseFrom m.place) (sym is) (by what) where
  behind : RiseFrom m.place rest
  behind = rise_lower m.place next rest (omega (arith, less)) rise

  by : (x : RecordContent) → RiseFrom m.place (items_of m x ++ rest)
  by (Gives kind page pointer) = (m.place, refl, omega arith, rise_lower (suc m.place) next rest (omega (arith, less)) rise)
  by (NamesBlob kind page lid place) = behind
  by Skipped = behind
  by (BatchStart peg) = behind

module _ (sum : List ℕ → ℕ) (size : ℕ) (log : List ℕ) (blobs : ℤ → Option (List ℕ)) (end : ℕ) where
  -- Of the records of a segment rising messages are given, where those behind rise from its end on.
  path_rises : (slot place at : ℕ) (ms : List ScannedRecord) (next : ℕ) (on : List Item → Damage → Type 0) → IsPath sum size log slot place at ms next
      → ((items : List Item) (damage : Damage) → on items damage → RiseFrom (place + size) items)
      → (items : List Item) (damage : Damage) → GivesOf sum blobs end ms on items damage → RiseFrom (min (place + at) (place + size)) items
  path_rises slot place at [] next on path behind items damage gives =
      rise_lower (min (place + at) (place + size)) (place + size) items (omega arith) (behind items damage gives)
  path_rises slot place at (m ∷ ms) next on path behind items damage gives =
      by (λ rest more. path_rises slot place (at + m.len) ms next on path.3 behind rest damage more) (stops end m) gives where
        low : ℕ
        low = min (place + at) (place + size)

        high : ℕ
        high = min (place + (at + m.len)) (place + size)

        by : ((rest : List Item) → GivesOf sum blobs end ms on rest damage → RiseFrom high rest) → (b : Bool) → MatchBool b ((items ≡ []) × (damage ≡ None))
            ((HasBadBlob sum blobs m.what × (items ≡ []) × IsNamed (NamesBlobOf sum blobs m.what) damage)
            ⊎ ((HasBadBlob sum blobs m.what → ⊥)
            × ((rest : List Item) × (items ≡ items_of m (with_blob blobs m.what) ++ rest) × GivesOf sum blobs end ms on rest damage)))
            → RiseFrom low items
        by later true none = rise_none low items none.0
        by later false (inl bad) = rise_none low items bad.1
        by later false (inr (fine, (rest, is, more))) =
            let room = path.0 in
            let lies = path.1 in
            let fits = met_fits sum size log (slot + at) (place / size) m path.2 in
            let long : 0 < m.len = omega (arith, fits.0) in
            subst (λ n. RiseFrom n items) (omega (arith, room, lies))
            (rise_record m (with_blob blobs m.what) rest items high is (omega (arith, room, lies, long)) (later rest more))

  -- behind a segment those of the later ones are given, or none
  behind_rises : (strict : Bool) (why : ScanEnd) (low : ℕ) (on : List Item → Damage → Type 0)
      → ((items : List Item) (damage : Damage) → on items damage → RiseFrom low items)
      → (items : List Item) (damage : Damage) → GivesBehind strict why on items damage → RiseFrom low items
  behind_rises true Broken low on so items damage gives = rise_none low items gives.0
  behind_rises true Full low on so items damage gives = so items damage gives
  behind_rises true Capped low on so items damage gives = so items damage gives
  behind_rises false why low on so items damage gives = so items damage gives

  pub iteration_rises : (strict : Bool) (low : ℕ) (ss : List Segment) (items : List Item) (damage : Damage) → FollowFrom size low ss
      → ((s : Segment) → Contains ss s → IsReadBy sum size log end s) → IsIteration sum size log blobs end strict ss items damage → RiseFrom low items
  iteration_rises strict low [] items damage follow read gives = rise_none low items gives.0
  iteration_rises strict low (s ∷ ss) items damage follow read (inl missing) = rise_none low items missing.1
  iteration_rises strict low (s ∷ ss) items damage follow read (inr (there, (damaged, replayed))) =
      by (λ is its more. iteration_rises strict (s.place + size) ss is its follow.1 (λ t later. read t (in_rest s t ss later)) more) (read s (in_first s ss)) where
        lower : (n : ℕ) → RiseFrom (min (s.place + n) (s.place + size)) items → RiseFrom low items
        lower n rise = rise_lower low (min (s.place + n) (s.place + size)) items (let up = follow.0 in omega (arith, up)) rise

        by : ((is : List Item) (its : Damage) → IsIteration sum size log blobs end strict ss is its → RiseFrom (s.place + size) is)
            → IsReadBy sum size log end s → RiseFrom low items
        by behind (inl d) =
            lower 20 (path_rises s.slot s.place 20 d.met d.next (EndsAt end (s.place + d.next)) d.path
            (λ is its none. rise_none (s.place + size) is none.0) items damage (damaged d))
        by behind (inr (x, same, reads)) =
            lower 20 (path_rises s.slot s.place 20 x.met x.stop (GivesBehind strict x.why (IsIteration sum size log blobs end strict ss))
            (subst (λ (y : Segment). IsPath sum size log y.slot y.place 20 x.met x.stop) same reads.0)
            (behind_rises strict x.why (s.place + size) (IsIteration sum size log blobs end strict ss) behind)
            items damage (replayed x same reads))

-- Segments that rise by place follow one another where each begins at a multiple of their size.
follow_rising : (size low : ℕ) → 0 < size → (ss : List Segment) → Rises ss → ((s : Segment) → Contains ss s → (s.place % size ≡ 0) × (low ≤ s.place))
    → FollowFrom size low ss
follow_rising size low some [] rises each = tt
follow_rising size low some (s ∷ ss) rises each =
    let first = each s (in_first s ss) in (
      first.1,
      follow_rising size (s.place + size) some ss rises.1 (λ t there.
          let later = each t (in_rest s t ss there) in
          (later.0, apart size some s.place t.place first.0 later.0 (rises.0 t there))),
    )

-- So do those of them that begin below a place.
follow_lower : (size low high : ℕ) (ss : List Segment) → low ≤ high → FollowFrom size high ss → FollowFrom size low ss
follow_lower size low high [] le follow = tt
follow_lower size low high (s ∷ ss) le follow = ((let up = follow.0 in omega (arith, le, up)), follow.1)

follow_below : (size low end : ℕ) (ss : List Segment) → FollowFrom size low ss → FollowFrom size low (begun_below end ss)
follow_below size low end [] follow = tt
follow_below size low end (s ∷ ss) follow = by (follow_below size (s.place + size) end ss follow.1) (nat_lt s.place end) where
  by : FollowFrom size (s.place + size) (begun_below end ss) → (b : Bool)
      → FollowFrom size low (if b then s ∷ begun_below end ss else begun_below end ss)
  by rest true = (follow.0, rest)
  by rest false = follow_lower size low (s.place + size) (begun_below end ss) (let up = follow.0 in omega (arith, up)) rest

-- The segments that are found lie so.
pub found_follow : (sum : List ℕ → ℕ) (size : ℕ) (log : List ℕ) (least end : ℕ) (ordering : List Segment) → 0 < size → IsOrdering sum size log least ordering
    → FollowFrom size least (begun_below end ordering)
found_follow sum size log least end ordering some is =
    follow_below size least end ordering (follow_rising size least some ordering (rises_of ordering is.ascending)
    (λ s there. (place_aligned sum size log least ordering is s there, ((is.found s).0 there).not_below)))

-- And those of a log do.
pub log_follows : {D C : Type 0} (trace : D → Trace) (sum : List ℕ → ℕ) (log : Log D C) (H : History) (A f : ℕ) (U : List Message)
    → Fits trace sum log H A f U → (from to : ℕ) (ss : List Segment) → AreSegments (segment_size_of log) (machine_at log) from to ss
    → FollowFrom (segment_size_of log) from ss
unfolding Fits
log_follows trace sum log H A f U fits from to ss are =
    let size : ℕ = segment_size_of log in
    let own = fits.shows.slots.own in
    follow_rising size from (let least = log.config.config.least in omega (arith, least)) ss (listed_rises size (machine_at log) from to ss are own.one)
    (λ s there.
    let of = listed_of size (machine_at log) from to ss are s there in
    (ap (λ n. n % size) of.place ∙ own.aligned of.index of.taken, of.above))
