-- What the cleared file shows of the log file: of a segment of the line what is written, and all of one that has left the line.
use Rattle.std.proofs.Common.{◌≡◌, ◌≢◌, ◌⊎◌, ◌∙◌, ◌+◌, ◌*◌, ◌/◌, ◌≤◌, ◌<◌, ◌&&◌, ◌||◌, ℕ, zero, suc, Some, Bool, true, false, not, List, [], ◌∷◌, get_or, length, refl, sym, ap, arith, inl, inr}
use Rattle.std.specs.List.{slice_get}
use Rattle.std.proofs.lemmas.Bool.{and_right, or_from}
use Rattle.sled_store.specs.SegmentStates.{Machine, is_free, slot_at}
use Rattle.sled_core.specs.declared.iobuf.Sealed.{Sealed}
use Rattle.sled_core.specs.Begun.{SegmentView}
use Rattle.sled_core.specs.inside.Cleared.{StandWritten, cleared, is_between, is_stale, is_unwritten, is_unwritten_in, is_unwritten_of}
use Rattle.sled_core.specs.inside.FreeSlots.{HasSlot}
use Rattle.sled_core.specs.inside.SealedBuffers.{Laid}
use Rattle.sled_core.proofs.Cleared.Offsets.{Beside, LineRises, OthersBeside, between_not, cleared_laid, line_none, slot_is, unwritten_high, unwritten_low, zeroed_beside, zeroed_long}
use Rattle.sled_core.proofs.Cleared.Moves.{part_same}
use Rattle.sled_core.proofs.Sealed.LaidLemmas.{EndsRise, ends_below}
use Rattle.sled_core.proofs.Torn.AlikeSlots.{SameIn}

-- where no other one has anything, what isn't written is what isn't of one segment
line_only : (size : ℕ) (line : List SegmentView) (n : ℕ) (v : SegmentView) (i : ℕ) → slice_get line n ≡ Some v
    → ((j : ℕ) (u : SegmentView) → slice_get line j ≡ Some u → j ≢ n → is_unwritten_of size u.parts i ≡ false)
    → is_unwritten size line i ≡ is_unwritten_of size v.parts i
line_only size [] n v i there others = cc
line_only size (x ∷ xs) zero v i there others =
    let same : x ≡ v = cc in
    let none = line_none size xs i (λ j u at. others (suc j) u at (λ is. absurd (omega (arith, is)))) in
    ap (λ (t : Bool). is_unwritten_of size x.parts i || t) none ∙ alone (is_unwritten_of size x.parts i)
    ∙ ap (λ (y : SegmentView). is_unwritten_of size y.parts i) same where
      alone : (t : Bool) → (t || false) ≡ t
      alone true = refl
      alone false = refl
line_only size (x ∷ xs) (suc n) v i there others =
    ap (λ (t : Bool). t || is_unwritten size xs i) (others 0 x refl (λ is. absurd (omega (arith, is))))
    ∙ line_only size xs n v i there (λ j u at differs. others (suc j) u at (λ is. differs (omega (arith, is))))

module _ (size : ℕ) (some : 0 < size) (m : Machine) (line : List SegmentView) (log : List ℕ)
    (rises : LineRises size line) where
  abbrev now : List ℕ
  now = cleared size m line log

  -- a segment has nothing in a slot beside its own
  beside : (j : ℕ) (u : SegmentView) → slice_get line j ≡ Some u → (i : ℕ) → (i < u.parts.site.slot) ⊎ (u.parts.site.slot + size ≤ i)
      → is_unwritten_of size u.parts i ≡ false
  beside j u at i (inl before) = unwritten_low u.parts.site.slot u.parts.written_len u.parts.sealed size i (rises j u at) (omega (arith, before))
  beside j u at i (inr behind) = unwritten_high u.parts.site.slot u.parts.written_len u.parts.sealed size i (rises j u at) behind

  module _ (n : ℕ) (v : SegmentView) (among : slice_get line n ≡ Some v) (has : HasSlot size m v)
      (apart : OthersBeside size line n v) where
    -- In the slot of a segment that counts for nothing which isn't written of it.
    pub stale_in : (i : ℕ) → v.parts.site.slot ≤ i → i < v.parts.site.slot + size → is_stale size m line i ≡ is_unwritten_of size v.parts i
    stale_in i low high =
        let lies = has.lies in
        ap (λ (t : Bool). t || is_unwritten size line i)
        (ap (λ j. is_free (slot_at m j).state) (slot_is size has.number i (omega (arith, low, lies)) (omega (arith, high, lies))) ∙ has.taken)
        ∙ line_only size line n v i among (λ j u at differs. beside j u at i (elim (apart j u at differs) [
          | inl before ↦ inr (omega (arith, before, low))
          | inr behind ↦ inl (omega (arith, behind, high))
        ]))

    -- So the cleared file has what is written of it without a gap,
    pub front_shown : (i : ℕ) → v.parts.site.slot ≤ i → i < v.parts.site.slot + v.parts.written_len → get_or now i 0 ≡ get_or log i 0
    front_shown i low high =
        let rise = rises n v among in
        let below = ends_below v.parts.written_len v.parts.sealed size rise in
        zeroed_beside (is_stale size m line) log i
        (stale_in i low (omega (arith, high, below.0, below.1)) ∙ unwritten_low v.parts.site.slot v.parts.written_len v.parts.sealed size i rise high)

    -- each of its buffers that is written: what stands of them in one of two files that have the same where that counts stands in the other,
    module _ (a b : List ℕ) (long : length a ≡ length b) (same : (i : ℕ) → is_stale size m line i ≡ false → get_or b i 0 ≡ get_or a i 0) where
      written_in : (from : ℕ) (bs : List Sealed) → EndsRise from bs size
          → ((i : ℕ) → v.parts.site.slot + from ≤ i → i < v.parts.site.slot + size
          → is_stale size m line i ≡ is_unwritten_in v.parts.site.slot from bs size i)
          → StandWritten a v.parts.site.slot v.parts.bytes from bs → StandWritten b v.parts.site.slot v.parts.bytes from bs
      written_in from [] rise is stand = tt
      written_in from (c ∷ cs) rise is stand =
          let up = rise.0 in
          let below = ends_below c.end cs size rise.1 in (
            λ done.
                let there = stand.0 done in
                let in_file = there.in_file in record {
                  same = λ i low high.
                      same (v.parts.site.slot + i)
                      (is (v.parts.site.slot + i) (omega (arith, low)) (omega (arith, high, below.0, below.1))
                      ∙ or_from (not c.is_written && is_between (v.parts.site.slot + from) (v.parts.site.slot + c.end) (v.parts.site.slot + i))
                      (is_unwritten_in v.parts.site.slot c.end cs size (v.parts.site.slot + i))
                      (ap (λ (t : Bool). not t && is_between (v.parts.site.slot + from) (v.parts.site.slot + c.end) (v.parts.site.slot + i)) done)
                      (unwritten_low v.parts.site.slot c.end cs size (v.parts.site.slot + i) rise.1 (omega (arith, high))))
                      ∙ there.same i low high;
                  in_file = omega (arith, in_file, long);
                  in_bytes = there.in_bytes;
                },
            written_in c.end cs rise.1
                (λ i low high. is i (omega (arith, low, up)) high
                ∙ ap (λ (t : Bool). t || is_unwritten_in v.parts.site.slot c.end cs size i)
                (and_right (not c.is_written) (is_between (v.parts.site.slot + from) (v.parts.site.slot + c.end) i)
                (between_not (v.parts.site.slot + from) (v.parts.site.slot + c.end) i (inr low))))
                stand.1,
          )

      written_of : StandWritten a v.parts.site.slot v.parts.bytes v.parts.written_len v.parts.sealed
          → StandWritten b v.parts.site.slot v.parts.bytes v.parts.written_len v.parts.sealed
      written_of = written_in v.parts.written_len v.parts.sealed (rises n v among) (λ i low high. stale_in i (omega (arith, low)) high)

    pub written_shown : StandWritten log v.parts.site.slot v.parts.bytes v.parts.written_len v.parts.sealed
        → StandWritten now v.parts.site.slot v.parts.bytes v.parts.written_len v.parts.sealed
    written_shown = written_of log now (sym (zeroed_long (is_stale size m line) log)) (zeroed_beside (is_stale size m line) log)

    -- (and so the other way)
    pub written_there : StandWritten now v.parts.site.slot v.parts.bytes v.parts.written_len v.parts.sealed
        → StandWritten log v.parts.site.slot v.parts.bytes v.parts.written_len v.parts.sealed
    written_there = written_of now log (zeroed_long (is_stale size m line) log) (λ i counts. sym (zeroed_beside (is_stale size m line) log i counts))

    -- and zeros for all else.
    pub laid_shown : StandWritten log v.parts.site.slot v.parts.bytes v.parts.written_len v.parts.sealed
        → Laid now v.parts.site.slot v.parts.bytes v.parts.written_len v.parts.sealed size
    laid_shown stand = cleared_laid size some m line log n v among (written_shown stand)

  -- Of a segment that isn't of the line any more it has all.
  module _ (k : ℕ) (taken : is_free (slot_at m k).state ≡ false)
      (gone : (j : ℕ) (u : SegmentView) → slice_get line j ≡ Some u → Beside size u.parts.site.slot (k * size)) where
    pub none_stale : (i : ℕ) → k * size ≤ i → i < k * size + size → is_stale size m line i ≡ false
    none_stale i low high =
        or_from (is_free (slot_at m (i / size)).state) (is_unwritten size line i) (ap (λ n. is_free (slot_at m n).state) (slot_is size k i low high) ∙ taken)
        (line_none size line i (λ j u at. beside j u at i
        (elim (gone j u at) [ inl before ↦ inr (omega (arith, before, low)) | inr behind ↦ inl (omega (arith, behind, high)) ])))

    pub older_shown : SameIn size log now k × SameIn size now log k
    older_shown = (
      λ lid len low high there. part_same log now lid len (zeroed_long (is_stale size m line) log)
          (λ i above below. zeroed_beside (is_stale size m line) log i (none_stale i (omega (arith, low, above)) (omega (arith, high, below)))),
      λ lid len low high there. part_same now log lid len (sym (zeroed_long (is_stale size m line) log))
          (λ i above below. sym (zeroed_beside (is_stale size m line) log i (none_stale i (omega (arith, low, above)) (omega (arith, high, below))))),
    )
