-- All slots of a log stay own where a call changes its segments alone: a reservation is made, or ends, the current buffer is sealed, or a further segment is begun.
use Rattle.std.proofs.Common.{◌≡◌, ◌/◌, ℕ, Bool, true, false, nat_lt, if◌then◌else◌, List, [], ◌∷◌, length, drop, set, Some, refl}
use Rattle.std.specs.List.{slice_get}
use Rattle.sled_codec.specs.Places.{part}
use Rattle.sled_store.specs.Readers.{IsOwnRange}
use Rattle.sled_store.specs.SegmentStates.{Machine}
use Rattle.sled_core.specs.Begun.{SegmentView}
use Rattle.sled_core.specs.declared.iobuf.ReservationState.{ReservationState}
use Rattle.sled_core.specs.declared.iobuf.Reserved.{Reserved}
use Rattle.sled_core.specs.inside.OwnLog.{IsOwnFile, IsOwnSegment}
use Rattle.sled_core.specs.SealedBuffers.{seal_at, sealed_count}
use Rattle.sled_core.specs.invariants.Caps.{segment_rest}
use Rattle.sled_core.specs.inside.Turned.{begun_view, ended_now, next_line, reserved_now}
use Rattle.sled_core.specs.Waiting.{at_last, closed_now, last_of, sealed_now, with_filling}
use Rattle.sled_core.proofs.OwnLog.LineChanges.{own_at_last, own_begun, own_set}
use Rattle.sled_core.proofs.OwnLog.SealedRanges.{ended_among, sealed_behind}

module _ (sum : List ℕ → ℕ) (size : ℕ) (Header : ℕ → List ℕ → Type 0) (Own : ℕ → ℕ → List ℕ → Type 0) (log : List ℕ) where
  abbrev OwnIn : SegmentView → Type 0
  OwnIn v = IsOwnSegment sum size Header Own log v.parts.site v.parts.written_len v.parts.sealed

  abbrev Range : SegmentView → ℕ → ℕ → Type 0
  Range v = IsOwnRange sum size Header Own (v.parts.site.place / size) v.parts.site.slot (part log v.parts.site.slot size)

  abbrev AllOwn : List SegmentView → Type 0
  AllOwn = IsOwnFile sum size Header Own log

  -- A reservation is made.
  pub own_reserved : (more : List ℕ) (r : Reserved) (line : List SegmentView) → AllOwn line → AllOwn (at_last (reserved_now more r) line)
  own_reserved more r = own_at_last sum size Header Own log (reserved_now more r) (λ v. refl) (λ v own. own)

  -- One ends.
  pub own_ended : (line : List SegmentView) (n : ℕ) (v : SegmentView) (i : ℕ) (r : Reserved) (ending : List ℕ) (state : ReservationState) → slice_get line n ≡ Some v → AllOwn line → AllOwn (set line n (ended_now i r ending state v))
  own_ended line n v i r ending state there =
      own_set sum size Header Own log v (ended_now i r ending state v) refl (λ own. record { front = own.front; behind = ended_among (Range v) v.parts.written_len i v.parts.sealed own.behind }) line n there

  -- The current buffer is sealed.
  sealed_own : (v : SegmentView) → OwnIn v → OwnIn (sealed_now v)
  sealed_own v own = record {
    front = own.front;
    behind = sealed_behind (Range v) v.parts.written_len v.parts.sealed (seal_at (length v.parts.bytes) (drop (sealed_count v.parts.sealed) v.parts.reserved)) refl own.behind;
  }

  pub own_sealed : (line : List SegmentView) → AllOwn line → AllOwn (at_last sealed_now line)
  own_sealed = own_at_last sum size Header Own log sealed_now (λ v. refl) sealed_own

  -- A segment is filled and sealed to its end.
  closed_own : (v : SegmentView) → OwnIn v → OwnIn (closed_now sum size v)
  closed_own v own = by (nat_lt (length v.parts.bytes) size) where
    by : (b : Bool) → OwnIn (sealed_now (if b then with_filling size v (segment_rest sum size (v.parts.site.place / size) (length v.parts.bytes)) else v))
    by true = sealed_own (with_filling size v (segment_rest sum size (v.parts.site.place / size) (length v.parts.bytes))) own
    by false = sealed_own v own

  closed_stays : (v : SegmentView) → (closed_now sum size v).parts.site ≡ v.parts.site
  closed_stays v = by (nat_lt (length v.parts.bytes) size) where
    by : (b : Bool) → (sealed_now (if b then with_filling size v (segment_rest sum size (v.parts.site.place / size) (length v.parts.bytes)) else v)).parts.site ≡ v.parts.site
    by true = refl
    by false = refl

  -- A further one is begun behind it.
  pub own_next : (m : Machine) (stable : ℕ) (line : List SegmentView) → AllOwn line → AllOwn (next_line sum size m stable line)
  own_next m stable [] own = own
  own_next m stable (v ∷ vs) own =
      own_begun sum size Header Own log (begun_view sum size m stable (last_of v vs)) refl refl (at_last (closed_now sum size) (v ∷ vs))
      (own_at_last sum size Header Own log (closed_now sum size) closed_stays closed_own (v ∷ vs) own)
