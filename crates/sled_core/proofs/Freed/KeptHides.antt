-- What a log file has besides what is shown stays so where less is own, and each slot of a segment, and each that has a header that is own, keeps its bytes.
use Rattle.std.proofs.Common.{◌≡◌, ◌∙◌, ◌*◌, ◌≤◌, ℕ, ℤ, pos, false, List, [], ◌∷◌, length, refl, sym, ap, subst, arith}
use Rattle.std.proofs.Math.Nat.{mul-mod_left}
use Rattle.sled_codec.specs.History.{History}
use Rattle.sled_codec.specs.Places.{part}
use Rattle.sled_codec.specs.Record.{IsHeader}
use Rattle.sled_store.specs.Device.{State}
use Rattle.sled_store.specs.SegmentStates.{Machine, is_free, slot_at}
use Rattle.sled_core.specs.declared.iterator.Segment.{Segment}
use Rattle.sled_core.specs.Begun.{SegmentView}
use Rattle.sled_core.specs.Scan.{IsScan}
use Rattle.sled_core.specs.Tail.{Scanned}
use Rattle.sled_core.specs.inside.Cleared.{cleared}
use Rattle.sled_core.specs.inside.Hides.{Hides, IsOwnHeader, IsTrueReading, LiesInSlot}
use Rattle.sled_core.specs.inside.Slots.{marked_at}
use Rattle.sled_core.proofs.Numbers.Hides.{KeepsShown, hides_less}
use Rattle.sled_core.proofs.Numbers.OwnLess.{OwnLess}
use Rattle.sled_core.proofs.Reached.KeptStands.{alike_kept}
use Rattle.sled_core.proofs.Reached.LeftBeside.{truth_alike}
use Rattle.sled_core.proofs.Torn.AlikeSlots.{SameIn, scan_same}
use Rattle.sled_core.proofs.Torn.WrittenParts.{in_this_file, twenty}

-- The reading of a segment in a slot that keeps its bytes.
module _ (sum : List ℕ → ℕ) (size : ℕ) (old left : List ℕ) (k : ℕ) (same : SameIn size old left k) (back : SameIn size left old k) where
  pub reading_same : (H : History) (place : ℕ) (mark : ℤ) → IsTrueReading sum size old H (marked_at (k * size) place mark)
      → IsTrueReading sum size left H (marked_at (k * size) place mark)
  unfolding IsScan
  reading_same H place mark r =
      let t : Scanned = r.scan in
      let was = subst (λ (x : Segment). IsScan sum size old x.slot x.place t.met t.stop t.why) r.segment r.read in
      let now = scan_same sum size old left k same back place t.met t.stop t.why was in
      let alike = alike_kept sum size old left (k * size) (mul-mod_left k size) same place 20 t.met t.stop was.0 in
      record {
        scan = t;
        segment = r.segment;
        read = subst (λ (x : Segment). IsScan sum size left x.slot x.place t.met t.stop t.why) (sym r.segment) now;
        truth = truth_alike sum size old left H (k * size) place 20 t.met t.stop alike now.0 r.truth;
        caps = r.caps;
      }

-- A text in a slot that keeps its bytes stands there still, and so does a header.
module _ (sum : List ℕ → ℕ) (size : ℕ) (old new : List ℕ) (k : ℕ) (same : SameIn size old new k) where
  pub text_kept : (at : ℕ) (text : List ℕ) → LiesInSlot size k at text → part old at (length text) ≡ text → part new at (length text) ≡ text
  text_kept at [] inside is = refl
  text_kept at (x ∷ xs) inside is =
      same at (length (x ∷ xs)) inside.0 inside.1 (in_this_file sum size old old at (length (x ∷ xs)) (omega arith) (ap length is) refl) ∙ is

  pub header_kept : 256 ≤ size → (place : ℕ) (mark : ℤ) → IsHeader sum (part old (k * size) 20) (pos place) mark
      → IsHeader sum (part new (k * size) 20) (pos place) mark
  header_kept some place mark is =
      let whole = twenty sum size old (k * size) (pos place) mark is in
      subst (λ (l : List ℕ). IsHeader sum l (pos place) mark)
      (sym (same (k * size) 20 (omega arith) (omega (arith, some)) (in_this_file sum size old old (k * size) 20 (omega arith) whole refl))) is

module _ (sum : List ℕ → ℕ) (size : ℕ) (some : 256 ≤ size) (s t : State) (m : Machine) (line : List SegmentView) where
  abbrev shown_before : List ℕ
  shown_before = cleared size m line s.log.bytes

  abbrev shown_now : List ℕ
  shown_now = cleared size m line t.log.bytes

  -- Each slot of a segment is shown the same, and so is each with a header that is own.
  module _ (used : (k : ℕ) → is_free (slot_at m k).state ≡ false → SameIn size shown_before shown_now k)
      (headed : (k place : ℕ) (mark : ℤ) → IsOwnHeader sum size t k place mark → SameIn size shown_before shown_now k) where
    pub keeps_shown : KeepsShown sum size s t m line
    keeps_shown = record {
      taken = λ k at text is inside. text_kept sum size shown_before shown_now k (used k is) at text inside;
      headers = λ k place mark own. header_kept sum size shown_before shown_now k (headed k place mark own) some place mark;
    }

    -- So it stays.
    pub hides_kept : (least base : ℕ) (H : History) → Hides sum size s m line least base H → OwnLess sum size t s → Hides sum size t m line least base H
    hides_kept least base H hides less = hides_less sum size s m line least base H hides t less keeps_shown
