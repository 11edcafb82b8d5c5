-- The header of a segment that a call begins has the last stable place for its mark, and no other that isn't on the device is changed; nor is what fills one.
use Rattle.std.proofs.Common.{◌≡◌, ◌∙◌, ◌⊎◌, ◌<◌, ◌-ℤ◌, ◌++◌, ap, sym, refl, subst, inl, inr, set, ℕ, List, [], Some, pos, append_assoc}
use Rattle.std.specs.List.{Contains, slice_get}
use Rattle.std.proofs.lemmas.List.{append-nil}
use Rattle.sled_codec.specs.Record.{short_header}
use Rattle.sled_store.specs.SegmentStates.{Machine}
use Rattle.sled_core.specs.Among.{AreAmong}
use Rattle.sled_core.specs.Begun.{SegmentView, segment_view}
use Rattle.sled_core.specs.declared.logger.Log.{Log}
use Rattle.sled_core.specs.Fits.{current_begin, current_of, fillings_of, heads_of, line_of, reserved_end, stable_end}
use Rattle.sled_core.specs.Fillings.{FillingAt, fillings_along}
use Rattle.sled_core.specs.Heads.{HeadAt, heads_along}
use Rattle.sled_core.specs.Marked.{BeginsMarked, IsMarkedHead}
use Rattle.sled_core.specs.inside.Marked.{KeepsSegment}
use Rattle.sled_core.specs.inside.Turned.{begun_view, promoted, written_now}
use Rattle.sled_core.specs.Waiting.{last_of}
use Rattle.sled_core.proofs.Holds.Facts.{nth_facts}
use Rattle.sled_core.proofs.Line.Among.{among_further, among_same}
use Rattle.sled_core.proofs.Line.FillingsAlong.{fillings_promoted, fillings_written, set_fillings}
use Rattle.sled_core.proofs.Line.Heads.{heads_promoted, heads_written, set_heads}
use Rattle.sled_core.proofs.Line.Promotes.{last_promoted, last_set}

module _ {D C : Type 0} (sum : List ℕ → ℕ) (old : Log D C) where
  -- each header of a log that isn't on the device is one of this log's, or that with which the current buffer begins, with its last stable place
  abbrev pub HasOnly : Log D C → HeadAt → Type 0
  HasOnly new h = Contains (heads_of old) h ⊎ ((current_begin old < current_begin new) × IsMarkedHead sum (current_begin new) (stable_end old) h)

  -- what fills a segment of a log fills one of this log's, or the one in front of the current buffer, from where what was reserved ended
  abbrev pub FillsOnly : Log D C → FillingAt → Type 0
  FillsOnly new f = Contains (fillings_of old) f ⊎ ((current_begin old < current_begin new) × (f ≡ record { next = current_begin new; from = reserved_end old }))

  -- Where none was begun there is nothing to say,
  pub none_begun : (new : Log D C) → (current_of new).parts.site.place ≡ (current_of old).parts.site.place → AreAmong (heads_of new) (heads_of old) → AreAmong (fillings_of new) (fillings_of old) → BeginsMarked sum old new
  none_begun new same among fill = record { header = λ other. absurd (other same); heads = λ h there. inl (among h there); fillings = λ f there. inl (fill f there) }

  -- one that is begun has that mark,
  pub begun_marked : (size : ℕ) (m : Machine) (new : Log D C) → current_of new ≡ begun_view sum size m (stable_end old) (current_of old) → ((h : HeadAt) → Contains (heads_of new) h → HasOnly new h)
      → ((f : FillingAt) → Contains (fillings_of new) f → FillsOnly new f) → BeginsMarked sum old new
  begun_marked size m new is heads fillings = record {
    header = λ other. (
      [],
      ap (λ (v : SegmentView). v.parts.bytes) is
          ∙ sym (ap (λ (v : SegmentView). short_header sum (pos v.parts.site.place) (pos (stable_end old) -ℤ pos 1)) is)
          ∙ sym (append-nil (short_header sum (pos (current_of new).parts.site.place) (pos (stable_end old) -ℤ pos 1))),
    );
    heads = heads;
    fillings = fillings;
  }

  -- and keeps it while more is laid out behind that.
  pub marked_further : (mid new : Log D C) (more : List ℕ) → BeginsMarked sum old mid → (current_of new).parts.site.place ≡ (current_of mid).parts.site.place → (current_of new).parts.bytes ≡ (current_of mid).parts.bytes ++ more
      → current_begin new ≡ current_begin mid → AreAmong (heads_of new) (heads_of mid) → AreAmong (fillings_of new) (fillings_of mid) → BeginsMarked sum old new
  marked_further mid new more marked at is begins among fill = record {
    header = λ other.
        let first = marked.header (λ same. other (at ∙ same)) in (
          first.0 ++ more,
          is ∙ ap (λ (bytes : List ℕ). bytes ++ more) first.1
              ∙ append_assoc (short_header sum (pos (current_of mid).parts.site.place) (pos (stable_end old) -ℤ pos 1)) first.0 more
              ∙ ap (λ n. short_header sum (pos n) (pos (stable_end old) -ℤ pos 1) ++ (first.0 ++ more)) (sym at),
        );
    heads = λ h there. elim (marked.heads h (among h there)) [
      | inl had ↦ inl had
      | inr begun ↦ inr (subst (λ n. (current_begin old < n) × IsMarkedHead sum n (stable_end old) h) (sym begins) begun)
    ];
    fillings = λ f there. elim (marked.fillings f (fill f there)) [
      | inl had ↦ inl had
      | inr begun ↦ inr (subst (λ n. (current_begin old < n) × (f ≡ record { next = n; from = reserved_end old })) (sym begins) begun)
    ];
  }

  -- So it is where the segment that is being filled has the same bytes still.
  pub marked_same : (mid new : Log D C) → BeginsMarked sum old mid → KeepsSegment mid new → current_begin new ≡ current_begin mid → BeginsMarked sum old new
  marked_same mid new marked kept begins = marked_further mid new [] marked kept.place (kept.bytes ∙ sym (append-nil (current_of mid).parts.bytes)) begins kept.heads kept.fillings

-- The segment that is being filled stays as it is where no segment is another,
pub segment_same : {D C : Type 0} (old new : Log D C) → line_of new ≡ line_of old → KeepsSegment old new
segment_same old new same =
    let first : SegmentView = segment_view old.segments.first in
    record {
      place = ap (λ (vs : List SegmentView). (last_of first vs).parts.site.place) same;
      bytes = ap (λ (vs : List SegmentView). (last_of first vs).parts.bytes) same;
      heads = among_same (heads_of new) (heads_of old) (ap heads_along same);
      fillings = among_same (fillings_of new) (fillings_of old) (ap fillings_along same);
    }

-- where a buffer is written,
pub heads_of_written : {D C : Type 0} (old new : Log D C) (size n k : ℕ) (v : SegmentView) → slice_get (line_of old) n ≡ Some v → line_of new ≡ promoted size (set (line_of old) n (written_now k v)) → AreAmong (heads_of new) (heads_of old)
heads_of_written old new size n k v among is =
    let left : List SegmentView = set (line_of old) n (written_now k v) in
    among_further (heads_of new) (heads_along left) (heads_of old)
    (among_further (heads_of new) (heads_along (promoted size left)) (heads_along left) (among_same (heads_of new) (heads_along (promoted size left)) (ap heads_along is)) (heads_promoted size left))
    (set_heads (line_of old) n v (written_now k v) among (heads_written v k (nth_facts old n v among).are))

pub fillings_of_written : {D C : Type 0} (old new : Log D C) (size n k : ℕ) (v : SegmentView) → slice_get (line_of old) n ≡ Some v → line_of new ≡ promoted size (set (line_of old) n (written_now k v)) → AreAmong (fillings_of new) (fillings_of old)
fillings_of_written old new size n k v among is =
    let left : List SegmentView = set (line_of old) n (written_now k v) in
    among_further (fillings_of new) (fillings_along left) (fillings_of old)
    (among_further (fillings_of new) (fillings_along (promoted size left)) (fillings_along left) (among_same (fillings_of new) (fillings_along (promoted size left)) (ap fillings_along is)) (fillings_promoted size left))
    (set_fillings (line_of old) n v (written_now k v) among (fillings_written v k))

pub segment_written : {D C : Type 0} (old new : Log D C) (size n k : ℕ) (v : SegmentView) → slice_get (line_of old) n ≡ Some v → line_of new ≡ promoted size (set (line_of old) n (written_now k v)) → KeepsSegment old new
segment_written old new size n k v among is = record {
  place = so ℕ (λ (x : SegmentView). x.parts.site.place) refl;
  bytes = so (List ℕ) (λ (x : SegmentView). x.parts.bytes) refl;
  heads = heads_of_written old new size n k v among is;
  fillings = fillings_of_written old new size n k v among is;
} where
  so : (X : Type 0) (P : SegmentView → X) → P (written_now k v) ≡ P v → P (current_of new) ≡ P (current_of old)
  so X P same =
      ap (λ (vs : List SegmentView). P (last_of v vs)) is
      ∙ ap P (last_promoted size v (set (line_of old) n (written_now k v)))
      ∙ last_set P v (line_of old) n v (written_now k v) among same

-- and behind two calls that leave it.
pub segment_further : {D C : Type 0} (old mid new : Log D C) → KeepsSegment old mid → KeepsSegment mid new → KeepsSegment old new
segment_further old mid new first second = record {
  place = second.place ∙ first.place;
  bytes = second.bytes ∙ first.bytes;
  heads = among_further (heads_of new) (heads_of mid) (heads_of old) second.heads first.heads;
  fillings = among_further (fillings_of new) (fillings_of mid) (fillings_of old) second.fillings first.fillings;
}
