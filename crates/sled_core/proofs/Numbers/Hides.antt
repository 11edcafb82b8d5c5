-- What a log file has besides what is shown stays so where less of it is the log's own: by a sync, by a crash, by a cut and by zeros. And where a mark rises.
use Rattle.std.proofs.Common.{◌≡◌, ◌+◌, ◌*◌, ◌/◌, ◌≤◌, ℕ, ℤ, pos, false, List, length, refl, sym, subst, arith, inl, inr}
use Rattle.sled_codec.specs.History.{History}
use Rattle.sled_codec.specs.Places.{part}
use Rattle.sled_codec.specs.Record.{IsHeader}
use Rattle.sled_store.specs.Device.{Crashed, Left, State, Synced, log_left, step}
use Rattle.sled_store.specs.SegmentStates.{Machine, is_free, slot_at}
use Rattle.sled_core.specs.Begun.{SegmentView}
use Rattle.sled_core.specs.inside.Cleared.{cleared}
use Rattle.sled_core.specs.inside.Hides.{HasSegment, Hides, IsGone, IsGoneSegment, IsOwnHeader, IsOwnRecord, LiesInSlot, ReadsOwnIn}
use Rattle.sled_core.specs.inside.Slots.{marked_at}
use Rattle.sled_core.proofs.Numbers.OwnLess.{OwnLess, less_crashed, less_synced}

module _ (sum : List ℕ → ℕ) (size : ℕ) where
  -- What is shown of the slots of segments stays, and so does each header that is own still.
  pub record KeepsShown (s t : State) (m : Machine) (line : List SegmentView) : Type 0 where
    pub taken : (k at : ℕ) (text : List ℕ) → is_free (slot_at m k).state ≡ false → LiesInSlot size k at text
        → part (cleared size m line s.log.bytes) at (length text) ≡ text → part (cleared size m line t.log.bytes) at (length text) ≡ text
    pub headers : (k place : ℕ) (mark : ℤ) → IsOwnHeader sum size t k place mark
        → IsHeader sum (part (cleared size m line s.log.bytes) (k * size) 20) (pos place) mark
        → IsHeader sum (part (cleared size m line t.log.bytes) (k * size) 20) (pos place) mark

  -- A segment that is gone stays so where no more of its number is own, no slot is taken by it, and a mark rises.
  pub gone_less : (s t : State) (m m' : Machine) (base higher : ℕ) (H : History) (k place : ℕ) (mark : ℤ)
      → ((at : ℕ) (text : List ℕ) → IsOwnRecord sum size t (place / size) at text → IsOwnRecord sum size s (place / size) at text)
      → (HasSegment m' place → HasSegment m place) → base ≤ higher
      → IsGone sum size s m base H k place mark → IsGone sum size t m' higher H k place mark
  gone_less s t m m' base higher H k place mark less slots up gone = record {
    no_slot = λ has. gone.no_slot (slots has);
    aligned = gone.aligned;
    below = (let low = gone.below in omega (arith, low, up));
    is_mark = gone.is_mark;
    reading = λ log own. gone.reading log (λ at len r. less (k * size + at) (part log (k * size + at) len) (own at len r));
  }

  -- In a file in which a reader reads nothing of it but what is own it is gone.
  pub gone_in : (s : State) (m : Machine) (base : ℕ) (H : History) (k place : ℕ) (mark : ℤ) → IsGone sum size s m base H k place mark → (log : List ℕ)
      → ReadsOwnIn sum size s k (place / size) log → IsGoneSegment sum size log H base (marked_at (k * size) place mark)
  gone_in s m base H k place mark gone log own = record { below = gone.below; is_mark = gone.is_mark; reading = gone.reading log own }

  module _ (s : State) (m : Machine) (line : List SegmentView) (least base : ℕ) (H : History) (hides : Hides sum size s m line least base H) where
    -- Less is own, and what is shown stays.
    pub hides_less : (t : State) → OwnLess sum size t s → KeepsShown s t m line → Hides sum size t m line least base H
    hides_less t less keeps = record {
      to_come = λ number at text own. hides.to_come number at text (less.records number at text own);
      taken = λ k number at text used inside own.
          let had = hides.taken k number at text used inside (less.records number at text own) in
          (had.0, λ same. keeps.taken k at text used inside (had.1 same));
      free = λ k number at text inside own. hides.free k number at text inside (less.records number at text own);
      headers = λ k place mark low own. elim (hides.headers k place mark low (less.headers k place mark own)) [
        | inl shown ↦ inl (keeps.headers k place mark own shown)
        | inr gone ↦ inr (gone_less s t m m base base H k place mark (less.records (place / size)) (λ has. has) (omega arith) gone)
      ];
      alone = λ j k place mark other low its own. hides.alone j k place mark other low (less.headers j place mark its) (less.headers k place other own);
    }

    -- It does where the file keeps its bytes,
    pub hides_same : (t : State) → OwnLess sum size t s → t.log.bytes ≡ s.log.bytes → Hides sum size t m line least base H
    hides_same t less bytes = hides_less t less (record {
      taken = λ k at text used inside is. subst (λ (l : List ℕ). part (cleared size m line l) at (length text) ≡ text) (sym bytes) is;
      headers = λ k place mark own is. subst (λ (l : List ℕ). IsHeader sum (part (cleared size m line l) (k * size) 20) (pos place) mark) (sym bytes) is;
    })

    -- as a sync does, and a crash of a file at rest.
    pub hides_synced : Hides sum size (step Synced s) m line least base H
    hides_synced = hides_same (step Synced s) (less_synced sum size s) refl

    pub hides_crashed : (left : Left) → log_left left s.log ≡ s.log.bytes → Hides sum size (step (Crashed left) s) m line least base H
    hides_crashed left same = hides_same (step (Crashed left) s) (less_crashed sum size left s) same

    -- A mark rises.
    pub hides_higher : (higher : ℕ) → base ≤ higher → Hides sum size s m line least higher H
    hides_higher higher up = record {
      to_come = hides.to_come;
      taken = hides.taken;
      free = hides.free;
      headers = λ k place mark low own. elim (hides.headers k place mark low own) [
        | inl shown ↦ inl shown
        | inr gone ↦ inr (gone_less s s m m base higher H k place mark (λ at text own. own) (λ has. has) up gone)
      ];
      alone = hides.alone;
    }
