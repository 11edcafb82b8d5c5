-- What a log file has besides what is shown stays so where nothing is asked of the device: where slots have the segments that they had, and where a free one
-- gets the segment that begins where the others end.
use Rattle.std.proofs.Common.{◌≡◌, ◌≢◌, ◌∙◌, ◌*◌, ◌/◌, ◌%◌, ◌≤◌, ◌<◌, ℕ, ℤ, pos, false, List, Option, length, sym, ap, subst, arith, inl, inr}
use Rattle.std.proofs.Math.Nat.{mul-le-mul_right}
use Rattle.std.proofs.lemmas.Bool.{cases_eq, cases_lt}
use Rattle.sled_codec.specs.History.{History}
use Rattle.sled_codec.specs.Places.{part}
use Rattle.sled_codec.specs.Record.{IsHeader}
use Rattle.sled_store.specs.Device.{State}
use Rattle.sled_store.specs.SegmentStates.{Machine, SlotState, is_free, slot_at}
use Rattle.sled_store.specs.SnapshotFiles.{BeginsFrom}
use Rattle.sled_core.specs.Begun.{SegmentView}
use Rattle.sled_core.specs.inside.Begun.{line_end}
use Rattle.sled_core.specs.inside.Cleared.{cleared}
use Rattle.sled_core.specs.inside.Hides.{Hides, HidesFrom, IsOwnRecord}
use Rattle.sled_core.specs.Tail.{least_place}
use Rattle.sled_core.proofs.Numbers.Hides.{gone_less, hides_higher, hides_same}
use Rattle.sled_core.proofs.Numbers.OwnLess.{less_same}
use Rattle.sled_core.proofs.Tail.Multiples.{put_down}

-- A number of a segment below a place where one can begin is below that of the segment there.
number_below : (size number place : ℕ) → place % size ≡ 0 → number * size < place → number < place / size
number_below size number place aligned low = elim (cases_lt number (place / size)) [
  | inl below ↦ below
  | inr above ↦ absurd (let more = mul-le-mul_right size above in let parts = (put_down size place).0 in omega (arith, more, parts, aligned, low))
]

module _ (sum : List ℕ → ℕ) (size : ℕ) (s : State) (least base : ℕ) (H : History) where
  -- Slots have the segments that they had, the same is shown, and what is to come is no less.
  module _ (m m' : Machine) (line line' : List SegmentView) (free : (k : ℕ) → is_free (slot_at m' k).state ≡ is_free (slot_at m k).state)
      (lsn : (k : ℕ) → (slot_at m' k).lsn ≡ (slot_at m k).lsn)
      (same : cleared size m' line' s.log.bytes ≡ cleared size m line s.log.bytes) (up : line_end size line ≤ line_end size line') where
    pub hides_as : Hides sum size s m line least base H → Hides sum size s m' line' least base H
    hides_as hides = record {
      to_come = λ number at text own. let low = hides.to_come number at text own in omega (arith, low, up);
      taken = λ k number at text used inside own.
          let had = hides.taken k number at text (sym (free k) ∙ used) inside own in (
            subst (λ n. number ≤ n / size) (sym (lsn k)) had.0,
            λ is. subst (λ (l : List ℕ). part l at (length text) ≡ text) (sym same) (had.1 (is ∙ ap (λ n. n / size) (lsn k))),
          );
      free = λ k number at text inside own j used is.
          hides.free k number at text inside own j (sym (free j) ∙ used) (is ∙ ap (λ n. n / size) (lsn j));
      headers = λ k place mark low own. elim (hides.headers k place mark low own) [
        | inl shown ↦ inl (subst (λ (l : List ℕ). IsHeader sum (part l (k * size) 20) (pos place) mark) (sym same) shown)
        | inr gone ↦ inr (gone_less sum size s s m m' base base H k place mark (λ at text its. its)
            (λ has. (has.0, sym (free has.0) ∙ has.1, sym (lsn has.0) ∙ has.2)) (omega arith) gone)
      ];
      alone = hides.alone;
    }

  -- A slot that was free has the segment that begins where the others end, and the mark's segment isn't above that. The same is shown.
  module _ (m m' : Machine) (line line' : List SegmentView) (k place : ℕ) (its : (slot_at m' k).lsn ≡ place)
      (others : (j : ℕ) → j ≢ k → slot_at m' j ≡ slot_at m j)
      (same : cleared size m' line' s.log.bytes ≡ cleared size m line s.log.bytes) (ends : place ≡ line_end size line)
      (aligned : place % size ≡ 0) (up : line_end size line ≤ line_end size line') (some : 0 < size) (low : base ≤ place) where
    pub hides_begun : Hides sum size s m line least base H → Hides sum size s m' line' least base H
    hides_begun hides = record {
      to_come = λ number at text own. let lower = hides.to_come number at text own in omega (arith, lower, up);
      taken = λ j number at text used inside own. elim (cases_eq j k) [
        | inl here ↦ (
            let at_place : (slot_at m' j).lsn ≡ place = ap (λ n. (slot_at m' n).lsn) here ∙ its in
            let below = to_come number at text own in (
              subst (λ n. number ≤ n / size) (sym at_place) (omega (arith, below)),
              λ is. absurd (omega (arith, below, is ∙ ap (λ n. n / size) at_place)),
            ))
        | inr other ↦ (
            let had = hides.taken j number at text (was_used j other used) inside own in
            let at_place = ap (λ (x : SlotState). x.lsn) (others j other) in (
              subst (λ n. number ≤ n / size) (sym at_place) had.0,
              λ is. subst (λ (l : List ℕ). part l at (length text) ≡ text) (sym same) (had.1 (is ∙ ap (λ n. n / size) at_place)),
            ))
      ];
      free = λ i number at text inside own j used is. elim (cases_eq j k) [
        | inl here ↦ absurd (
            let below = to_come number at text own in
            omega (arith, below, is ∙ ap (λ n. n / size) (ap (λ n. (slot_at m' n).lsn) here ∙ its)))
        | inr other ↦
            hides.free i number at text inside own j (was_used j other used) (is ∙ ap (λ (x : SlotState). x.lsn / size) (others j other))
      ];
      headers = λ i at mark not_below own. elim (hides.headers i at mark not_below own) [
        | inl shown ↦ inl (subst (λ (l : List ℕ). IsHeader sum (part l (i * size) 20) (pos at) mark) (sym same) shown)
        | inr gone ↦ inr (gone_less sum size s s m m' base base H i at mark (λ lid text its_own. its_own)
            (λ (j, used, is). elim (cases_eq j k) [
              | inl here ↦ absurd (
                  let below = gone.below in omega (arith, below, low, some, sym is ∙ ap (λ n. (slot_at m' n).lsn) here ∙ its))
              | inr other ↦ (j, was_used j other used, sym (ap (λ (x : SlotState). x.lsn) (others j other)) ∙ is)
            ]) (omega arith) gone)
      ];
      alone = hides.alone;
    } where
      to_come : (number at : ℕ) (text : List ℕ) → IsOwnRecord sum size s number at text → number < place / size
      to_come number at text own = number_below size number place aligned (let lower = hides.to_come number at text own in omega (arith, lower, ends))

      was_used : (j : ℕ) → j ≢ k → is_free (slot_at m' j).state ≡ false → is_free (slot_at m j).state ≡ false
      was_used j other used = ap (λ (x : SlotState). is_free x.state) (sym (others j other)) ∙ used

module _ (sum : List ℕ → ℕ) (size : ℕ) {base : ℕ} (s : State) (m m' : Machine) (line line' : List SegmentView) (H : History) where
  -- So it is from the snapshot on with which the log began: where slots have what they had,
  pub from_as : ((k : ℕ) → is_free (slot_at m' k).state ≡ is_free (slot_at m k).state) → ((k : ℕ) → (slot_at m' k).lsn ≡ (slot_at m k).lsn)
      → cleared size m' line' s.log.bytes ≡ cleared size m line s.log.bytes → line_end size line ≤ line_end size line'
      → HidesFrom sum size base s m line H → HidesFrom sum size base s m' line' H
  from_as free lsn same up hides first begins =
      hides_as sum size s (least_place size first) base H m m' line line' free lsn same up (hides first begins)

  -- and where one more has a segment.
  pub from_begun : 0 < size → (k place : ℕ) → (slot_at m' k).lsn ≡ place → ((j : ℕ) → j ≢ k → slot_at m' j ≡ slot_at m j)
      → cleared size m' line' s.log.bytes ≡ cleared size m line s.log.bytes → place ≡ line_end size line → place % size ≡ 0
      → line_end size line ≤ line_end size line' → base ≤ place → HidesFrom sum size base s m line H → HidesFrom sum size base s m' line' H
  from_begun some k place its others same ends aligned up low hides first begins =
      hides_begun sum size s (least_place size first) base H m m' line line' k place its others same ends aligned up some low (hides first begins)

-- It is so where the names are others, and the newest snapshot is the same,
pub from_names : (sum : List ℕ → ℕ) (size : ℕ) {base : ℕ} (s t : State) (m : Machine) (line : List SegmentView) (H : History) → t.placed ≡ s.placed
    → t.log.bytes ≡ s.log.bytes → t.snapshots.file ≡ s.snapshots.file → HidesFrom sum size base s m line H → HidesFrom sum size base t m line H
from_names sum size {base} s t m line H placed bytes files hides first begins =
    hides_same sum size s m line (least_place size first) base H
    (hides first (subst (λ (f : ℤ → Option (List ℕ)). BeginsFrom sum f first) files begins)) t (less_same sum size t s placed) bytes

-- and where a mark rises.
pub from_higher : (sum : List ℕ → ℕ) (size base higher : ℕ) → base ≤ higher → (s : State) (m : Machine) (line : List SegmentView) (H : History)
    → HidesFrom sum size base s m line H → HidesFrom sum size higher s m line H
from_higher sum size base higher up s m line H hides first begins =
    hides_higher sum size s m line (least_place size first) base H (hides first begins) higher up
