-- What a crash leaves at each moment of the removal of blobs that lie at or above the cut can be read back; and so at each moment of all that a recovery takes away: the slots that it did not read, and then those blobs.
use Rattle.std.proofs.Common.{◌≡◌, ◌⊎◌, ◌∙◌, ◌≤◌, ◌<◌, ◌++◌, ℕ, ℤ, Bool, true, false, is_some, if◌then◌else◌, List, [], ◌∷◌, Option, Some, None, refl, subst, inl, inr}
use Rattle.std.specs.List.{Contains}
use Rattle.std.specs.Ordering.{int_eq}
use Rattle.std.proofs.lemmas.Bool.Decides.{Decides-int_eq}
use Rattle.sled_codec.specs.declared.serialization.message.MessageKind.{MessageKind}
use Rattle.sled_codec.specs.History.{Message, History, CutFits}
use Rattle.sled_codec.specs.Snapshots.{stable_place}
use Rattle.sled_store.specs.Blobs.{IsBlob, removing_blobs}
use Rattle.sled_store.specs.Device.{BlobRemoved, NamesState, Temporary, State, at_rest, unnamed, renamed, settled_files, LeavesName, Placement}
use Rattle.sled_store.specs.Foreign.{NoForeignNames}
use Rattle.sled_store.specs.inside.Script.{Along}
use Rattle.sled_store.proofs.Crashes.ForeignLemmas.{NamesKnow, before_knows}
use Rattle.sled_store.proofs.Crashes.LeavesLemmas.{remove_blob}
use Rattle.sled_store.proofs.Crashes.SettledLemmas.{name_settled_left}
use Rattle.sled_store.proofs.Names.NamesLemmas.{after_unnamed}
use Rattle.sled_store.proofs.Segments.Elements.{in_first, in_rest}
use Rattle.sled_core.specs.Recoverable.{NoHeaderOfZeros}
use Rattle.sled_core.specs.inside.Recoverable.{LiesInSegment}
use Rattle.sled_log.specs.Orderly.{IsOrderly}
use Rattle.sled_log.specs.WritesBack.{after_zeroing, forgetting}
use Rattle.sled_log.proofs.Moments.BlobsRemoved.{IsAbove, AreRemovedFrom, blobs_removed}
use Rattle.sled_log.proofs.Moments.LogAlong.{LeavesReadable, NamesBegin, BlobsStand, along_call, stops_readable, zeroing_along}
use Rattle.sled_log.proofs.Moments.UnreadSlots.{AreFree, StopsAtCut, all_zeroed}

module _ (sum : List ℕ → ℕ) where
  abbrev Passes : List ℕ → Type 0
  Passes bytes = (k : MessageKind) × (item : List ℕ) × IsBlob sum bytes k item

  -- One blob is removed.
  module _ (blobs : NamesState) (p : ℤ) (knows : NamesKnow blobs (unnamed blobs p true)) where
    abbrev gone : NamesState
    gone = unnamed blobs p true

    asked_before : (n : ℤ) (bytes : List ℕ) → Contains (gone.asked n) bytes → Contains (blobs.asked n) bytes
    asked_before n bytes there = by (is_some (blobs.file p)) there where
      by_name : (b : Bool) → Contains (if b then [] ++ blobs.asked n else blobs.asked n) bytes → Contains (blobs.asked n) bytes
      by_name true there = there
      by_name false there = there

      by : (b : Bool) → Contains ((if b then renamed blobs p true (record { file = None; is_unsynced = false }) [] else blobs).asked n) bytes → Contains (blobs.asked n) bytes
      by true there = by_name (int_eq p n) there
      by false there = there

    -- What a crash leaves then it left before, but for that blob.
    module _ (left : ℤ → Option (List ℕ)) (leaves : (n : ℤ) → LeavesName gone n (left n)) where
      abbrev MayBeGone : ℤ → Type 0
      MayBeGone n = LeavesName blobs n (left n) ⊎ ((int_eq p n ≡ true) × (left n ≡ None))

      file_at : (n : ℤ) → MayBeGone n → Option (List ℕ)
      file_at n (inl was) = left n
      file_at n (inr is_gone) = settled_files blobs n

      abbrev before : ℤ → Option (List ℕ)
      before n = file_at n (after_unnamed blobs p true n (left n) (leaves n))

      before_left : (n : ℤ) → LeavesName blobs n (before n)
      unfolding file_at
      before_left n = by (after_unnamed blobs p true n (left n) (leaves n)) where
        by : (c : MayBeGone n) → LeavesName blobs n (file_at n c)
        by (inl was) = was
        by (inr is_gone) = name_settled_left blobs n

      before_own : NoForeignNames Passes gone left → NoForeignNames Passes blobs before
      unfolding file_at
      before_own own_left = record { own = λ n bytes there is. by n bytes is (after_unnamed blobs p true n (left n) (leaves n)) there } where
        by : (n : ℤ) (bytes : List ℕ) → Passes bytes → (c : MayBeGone n) → file_at n c ≡ Some bytes → (settled_files blobs n ≡ Some bytes) ⊎ Contains (blobs.asked n) bytes
        by n bytes is (inl was) there = elim (own_left.own n bytes there is) [ inl settled ↦ inl (knows.settled n ∙ settled) | inr asked ↦ inr (asked_before n bytes asked) ]
        by n bytes is (inr is_gone) there = inl there

      removed_from : (cut : ℕ) → IsAbove cut p → AreRemovedFrom cut before left
      unfolding file_at
      removed_from cut above n = by (after_unnamed blobs p true n (left n) (leaves n)) where
        by : (c : MayBeGone n) → (left n ≡ file_at n c) ⊎ (IsAbove cut n × (left n ≡ None))
        by (inl was) = inl refl
        by (inr is_gone) = inr (subst (IsAbove cut) ((Decides-int_eq p n).0 is_gone.0) above, is_gone.1)

-- The blobs that a recovery needs stay.
pub stand_gone : (sum : List ℕ → ℕ) (size : ℕ) (H : History) (cut : ℕ) (blobs : NamesState) (p : ℤ) → NamesKnow blobs (unnamed blobs p true) → IsAbove cut p → ((m : Message) → Contains H.messages m → m.place < cut → LiesInSegment size m)
    → BlobsStand sum H cut blobs → BlobsStand sum H cut (unnamed blobs p true)
stand_gone sum size H cut blobs p knows above placed stand left leaves own_left =
    blobs_removed sum (before sum blobs p knows left leaves) left cut (removed_from sum blobs p knows left leaves cut above) size H placed
    (stand (before sum blobs p knows left leaves) (before_left sum blobs p knows left leaves) (before_own sum blobs p knows left leaves own_left))

module _ (sum : List ℕ → ℕ) (size : ℕ) (H : History) (A f : ℕ) (orderly : IsOrderly H) (cut : ℕ × Option ℕ) where
  module _ (names : NamesState) (temporary : Temporary) (some : 256 ≤ size) (fits : CutFits H cut.0) (none : NoHeaderOfZeros sum) (begin : NamesBegin sum size H f (λ s. stable_place s.stable ≡ cut.0) names) where
    abbrev device : NamesState → List ℕ → List Placement → State
    device blobs log placed = record { log = at_rest log; blobs = blobs; snapshots = names; temporary = temporary; placed = placed }

    pub removing_along : (places : List ℤ) → ((p : ℤ) → Contains places p → IsAbove cut.0 p) → (blobs : NamesState) → BlobsStand sum H cut.0 blobs
        → (log : List ℕ) (placed : List Placement) → StopsAtCut sum size log some H A cut → Along (LeavesReadable sum size H A f) (removing_blobs places) (device blobs log placed)
    removing_along [] above blobs stand log placed stops = stops_readable sum size H A f orderly cut blobs names temporary stand some fits none begin log placed stops
    removing_along (p ∷ ps) above blobs stand log placed stops =
        let knows : NamesKnow blobs (unnamed blobs p true) = (before_knows (BlobRemoved p true) (device blobs log placed) (remove_blob p)).blobs in
        along_call sum size H A f (BlobRemoved p true) (removing_blobs ps) (device blobs log placed) (remove_blob p)
        (removing_along ps (λ q there. above q (in_rest p q ps there)) (unnamed blobs p true)
        (stand_gone sum size H cut.0 blobs p knows (above p (in_first p ps)) stops.parts.placed stand) log placed stops)

    -- All that is taken away.
    pub forgetting_along : (blobs : NamesState) → BlobsStand sum H cut.0 blobs → (unread log : List ℕ) (placed : List Placement) → AreFree sum size log cut.0 unread → StopsAtCut sum size log some H A cut
        → (places : List ℤ) → ((p : ℤ) → Contains places p → IsAbove cut.0 p) → Along (LeavesReadable sum size H A f) (forgetting size unread places) (device blobs log placed)
    forgetting_along blobs stand unread log placed are_free stops places above =
        zeroing_along sum size H A f orderly cut blobs names temporary stand some fits none begin unread log placed are_free stops (removing_blobs places)
        (λ all. removing_along places above blobs stand (after_zeroing size unread (at_rest log)).bytes all (all_zeroed sum size some H A cut none unread log are_free stops))
