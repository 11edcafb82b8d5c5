-- What stands in a log file, in the current segment or in other slots, stays where it is when the rest of the current segment is written.
use Rattle.std.proofs.Common.{◌≤◌, ◌+◌, ◌/◌, ℕ, List, length, arith, inl, inr}
use Rattle.sled_codec.specs.History.{Message}
use Rattle.sled_store.specs.Device.{overwritten}
use Rattle.sled_core.specs.declared.iobuf.SegmentPosition.{SegmentPosition}
use Rattle.sled_core.specs.LogFile.{StandsHere, StandsElsewhere}
use Rattle.sled_core.proofs.Tail.LogFileLemmas.{message_kept}

-- a record that stands below an offset stands below a higher one
pub here_below : (sum : List ℕ → ℕ) (size : ℕ) (log : List ℕ) (site : SegmentPosition) (from to lid : ℕ) (m : Message) → from ≤ to → StandsHere sum size log site from lid m → StandsHere sum size log site to lid m
here_below sum size log site from to lid m more s =
    let within = s.inside in record { at = s.at; place = s.place; offset = s.offset; begins = s.begins; stands = s.stands; inside = omega (arith, within, more) }

module _ (sum : List ℕ → ℕ) (size : ℕ) (old : List ℕ) (at : ℕ) (xs : List ℕ) where
  abbrev new : List ℕ
  new = overwritten old at xs

  -- a record of the segment before the write
  pub here_kept : (site : SegmentPosition) (from lid : ℕ) (m : Message) → site.slot + from ≤ at → StandsHere sum size old site from lid m → StandsHere sum size new site from lid m
  here_kept site from lid m before s =
      let within = s.inside in
      let offset = s.offset in
      record {
        at = s.at;
        place = s.place;
        offset = s.offset;
        begins = s.begins;
        stands = message_kept sum size old at xs lid (m.place / size) m (inl (omega (arith, within, offset, before))) s.stands;
        inside = s.inside;
      }

  -- a record in another slot
  pub elsewhere_kept : (site : SegmentPosition) (lid : ℕ) (m : Message) → site.slot ≤ at → at + length xs ≤ site.slot + size → StandsElsewhere sum size old site lid m → StandsElsewhere sum size new site lid m
  elsewhere_kept site lid m begins ends s = record {
    begins = s.begins;
    stands = message_kept sum size old at xs lid (m.place / size) m (elim s.apart [ inl below ↦ inl (omega (arith, below, begins)) | inr above ↦ inr (omega (arith, above, ends)) ]) s.stands;
    apart = s.apart;
  }
