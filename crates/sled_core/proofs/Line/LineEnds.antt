-- Where the segments of a log end, which batches it has noted, and up to where it is stable: as calls leave it.
use Rattle.std.proofs.Common.{◌≡◌, ◌∙◌, ◌≤◌, ◌+◌, ◌*◌, ap, sym, refl, subst, arith, inl, inr, ℕ, zero, suc, List, [], ◌∷◌, length, map, set, Some}
use Rattle.std.specs.List.{Contains, slice_get}
use Rattle.std.proofs.lemmas.Bool.{cases_lt}
use Rattle.std.proofs.lemmas.List.{length-set}
use Rattle.std.proofs.Math.Nat.{suc-mul}
use Rattle.sled_codec.specs.History.{Batch}
use Rattle.sled_core.specs.Begun.{SegmentView}
use Rattle.sled_core.specs.inside.Begun.{first_place}
use Rattle.sled_core.specs.declared.iobuf.SegmentPosition.{SegmentPosition}
use Rattle.sled_core.specs.declared.logger.batches.NotedBatch.{NotedBatch}
use Rattle.sled_core.specs.declared.logger.Log.{Log}
use Rattle.sled_core.specs.Fits.{kept_batches, noted_in, stable_end, synced_end}
use Rattle.sled_core.specs.inside.Begun.{line_end}
use Rattle.sled_core.specs.OpenBatches.{batch_of, behind_batch, not_whole, stable_below}
use Rattle.sled_core.specs.inside.Turned.{promoted}
use Rattle.sled_core.specs.Waiting.{at_last}
use Rattle.sled_core.proofs.Line.Segments.{AreSegments, by_front}
use Rattle.sled_core.proofs.Reached.NotedSteps.{behind_all, behind_has, behind_least}
use Rattle.sled_core.proofs.Reached.OpenBatch.{not_whole_further, not_whole_there, stable_alike, whole_not}
use Rattle.sled_core.proofs.Reached.StableBelow.{stable_is, stable_low, stable_open, stable_rises}

-- The last one is another, where it lies.
length_last : (f : SegmentView → SegmentView) (v : SegmentView) (vs : List SegmentView) → length (at_last f (v ∷ vs)) ≡ suc (length vs)
length_last f v [] = refl
length_last f v (w ∷ ws) = ap suc (length_last f w ws)

pub end_last : (size : ℕ) (f : SegmentView → SegmentView) → ((x : SegmentView) → (f x).parts.site ≡ x.parts.site) → (v : SegmentView) (vs : List SegmentView) → line_end size (at_last f (v ∷ vs)) ≡ line_end size (v ∷ vs)
end_last size f stays v [] = ap (λ (p : SegmentPosition). p.place + 1 * size) (stays v)
end_last size f stays v (w ∷ ws) = ap (λ n. v.parts.site.place + suc n * size) (length_last f w ws)

pub end_at_last : (size : ℕ) (f : SegmentView → SegmentView) → ((x : SegmentView) → (f x).parts.site ≡ x.parts.site) → (line : List SegmentView) → line_end size (at_last f line) ≡ line_end size line
end_at_last size f stays [] = refl
end_at_last size f stays (v ∷ vs) = end_last size f stays v vs

-- One of them is another, where it lies.
pub end_set : (size : ℕ) (line : List SegmentView) (n : ℕ) (v w : SegmentView) → slice_get line n ≡ Some v → w.parts.site ≡ v.parts.site → line_end size (set line n w) ≡ line_end size line
end_set size [] n v w there stays = refl
end_set size (x ∷ xs) zero v w there stays =
    let same : x ≡ v = cc in
    ap (λ (p : SegmentPosition). p.place + suc (length xs) * size) stays ∙ ap (λ (y : SegmentView). y.parts.site.place + suc (length xs) * size) (sym same)
end_set size (x ∷ xs) (suc n) v w there stays = ap (λ k. x.parts.site.place + suc k * size) (length-set xs n w)

-- The first one begins where it did.
pub first_at_last : (f : SegmentView → SegmentView) → ((x : SegmentView) → (f x).parts.site ≡ x.parts.site) → (line : List SegmentView) → first_place (at_last f line) ≡ first_place line
first_at_last f stays [] = refl
first_at_last f stays (v ∷ []) = ap (λ (p : SegmentPosition). p.place) (stays v)
first_at_last f stays (v ∷ w ∷ ws) = refl

pub first_set : (line : List SegmentView) (n : ℕ) (v w : SegmentView) → slice_get line n ≡ Some v → w.parts.site ≡ v.parts.site → first_place (set line n w) ≡ first_place line
first_set [] n v w there stays = refl
first_set (x ∷ xs) zero v w there stays = let same : x ≡ v = cc in ap (λ (p : SegmentPosition). p.place) stays ∙ ap (λ (y : SegmentView). y.parts.site.place) (sym same)
first_set (x ∷ xs) (suc n) v w there stays = refl

-- Those at the front that are wholly on the device have gone.
pub end_left : (size place : ℕ) (vs : List SegmentView) → AreSegments size place vs → line_end size (promoted size vs) ≡ line_end size vs
end_left size place vs are =
    (by_front size (λ l. ((p : ℕ) × AreSegments size p l) × (line_end size l ≡ line_end size vs))
    (λ v w ws full has. (
      (has.0.0 + size, has.0.1.1),
      (let at = has.0.1.0.at in let next = has.0.1.1.0.at in let so_far = has.1 in omega (arith, at, next, so_far, suc-mul (suc (length ws)) size)),
    ))
    vs ((place, are), refl)).1

-- The same batches are noted, where as much is written as was,
pub noted_same : {D C : Type 0} (old new : Log D C) → new.batches.noted.items ≡ old.batches.noted.items → synced_end new ≡ synced_end old → noted_in new ≡ noted_in old
noted_same old new items synced = λ i. not_whole (synced i) (map batch_of (items i))

-- and where more is written those that aren't wholly.
pub noted_later : {D C : Type 0} (old new : Log D C) → new.batches.noted.items ≡ old.batches.noted.items → synced_end old ≤ synced_end new → noted_in new ≡ not_whole (synced_end new) (noted_in old)
noted_later old new items up = ap (λ (l : List NotedBatch). not_whole (synced_end new) (map batch_of l)) items ∙ sym (not_whole_further (synced_end old) (synced_end new) up (map batch_of old.batches.noted.items))

pub noted_quiet : {D C : Type 0} (old new : Log D C) → noted_in new ≡ noted_in old → synced_end new ≡ synced_end old → noted_in new ≡ not_whole (synced_end new) (noted_in old)
noted_quiet old new noted synced =
    noted ∙ sym (not_whole_further (synced_end old) (synced_end old) (omega arith) (map batch_of old.batches.noted.items)) ∙ ap (λ n. not_whole n (noted_in old)) (sym synced)

pub noted_still : {D C : Type 0} (log : Log D C) → noted_in log ≡ not_whole (synced_end log) (noted_in log)
noted_still log = noted_quiet log log refl refl

-- As many are kept in memory then.
pub kept_same : {D C : Type 0} (old new : Log D C) → new.batches.noted.items ≡ old.batches.noted.items → kept_batches new ≤ kept_batches old
kept_same old new items = let same = ap (λ (l : List NotedBatch). length l) items in omega (arith, same)

-- Two calls, one behind the other.
pub noted_further : {D C : Type 0} (old mid new : Log D C) → synced_end mid ≤ synced_end new → noted_in mid ≡ not_whole (synced_end mid) (noted_in old) → noted_in new ≡ not_whole (synced_end new) (noted_in mid) → noted_in new ≡ not_whole (synced_end new) (noted_in old)
noted_further old mid new up first then = then ∙ ap (not_whole (synced_end new)) first ∙ not_whole_further (synced_end mid) (synced_end new) up (noted_in old)

-- The stable end doesn't fall.
pub stable_kept : {D C : Type 0} (old new : Log D C) → synced_end old ≤ synced_end new → noted_in new ≡ not_whole (synced_end new) (noted_in old) → stable_end old ≤ stable_end new
stable_kept old new up noted =
    let more = stable_rises (synced_end old) (synced_end new) up (noted_in old) in
    let left = stable_alike (synced_end new) (noted_in old) (not_whole (synced_end new) (noted_in old)) (λ b later there. (whole_not (synced_end new) (noted_in old) b there).0) (λ b later there. not_whole_there (synced_end new) (noted_in old) b there later) in
    let now = ap (stable_below (synced_end new)) noted in
    omega (arith, more, left, now)

-- What is written up to where a place asks for it makes all before that place stable.
pub stable_reached : {D C : Type 0} (old new : Log D C) (behind : ℕ) → noted_in new ≡ not_whole (synced_end new) (noted_in old) → behind_batch behind (noted_in old) ≤ synced_end new → behind ≤ stable_end new
stable_reached old new behind noted reached = elim (stable_is (synced_end new) (noted_in new)) [
  | inl all ↦ (let least = behind_least behind (noted_in old) in omega (arith, all, least, reached))
  | inr (b, there, at, (low, peg)) ↦ elim (cases_lt b.low behind) [
    | inl before ↦ absurd (
        let known = (whole_not (synced_end new) (noted_in old) b (subst (λ (l : List Batch). Contains l b) noted there)).0 in
        let far = behind_has behind (noted_in old) b known before in
        omega (arith, far, reached, peg))
    | inr past ↦ omega (arith, past, at)
  ]
]

-- Where all before it is stable nothing more is asked for.
pub behind_still : {D C : Type 0} (log : Log D C) (behind : ℕ) → behind ≤ stable_end log → behind_batch behind (noted_in log) ≡ behind
behind_still log behind low = behind_all behind (noted_in log) (λ b there. elim (cases_lt b.low behind) [
  | inl before ↦ absurd (
      let under = stable_low (synced_end log) (noted_in log) in
      let peg = (whole_not (synced_end log) (map batch_of log.batches.noted.items) b there).1 in
      let at_most = stable_open (synced_end log) (noted_in log) b there (omega (arith, before, low, under), peg) in
      omega (arith, at_most, before, low))
  | inr past ↦ past
])
