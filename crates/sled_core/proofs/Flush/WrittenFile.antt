-- A log file has all messages once the buffer is written: those that stood there, and those of the buffer behind them.
use Rattle.std.proofs.Common.{◌≡◌, ◌≤◌, ◌<◌, ◌+◌, ◌^◌, ◌∙◌, ℕ, pos, List, ◌++◌, length, take, sym, ap, arith, subst, inl, inr}
use Rattle.std.specs.List.{All}
use Rattle.std.proofs.lemmas.List.Elements.{All-contains, Contains-append_cases}
use Rattle.sled_codec.specs.Places.{part}
use Rattle.sled_codec.specs.Record.{IsHeader}
use Rattle.sled_codec.specs.History.{Message, History}
use Rattle.sled_store.specs.Device.{overwritten}
use Rattle.sled_core.specs.declared.iobuf.SegmentPosition.{SegmentPosition}
use Rattle.sled_core.specs.inside.Fits.{HasMark}
use Rattle.sled_core.specs.LogFile.{HasHeader, IsLogFile}
use Rattle.sled_core.proofs.Flush.LogFileKept.{here_below, here_kept, elsewhere_kept}
use Rattle.sled_core.proofs.Reached.BufferPath.{buffer_header}
use Rattle.sled_core.specs.inside.SealedBuffers.{Agrees}
use Rattle.sled_core.proofs.Reached.BufferStands.{StandsOwn, same_part}
use Rattle.sled_core.proofs.Tail.GreatestMark.{mark_below}

-- The header of a segment stands where its first bytes were written.
pub header_written : (sum : List ℕ → ℕ) (new bytes : List ℕ) (site : SegmentPosition) (to : ℕ) (H : History) → site.place < 2 ^ 63 → 20 ≤ to → Agrees new site.slot bytes 0 to → HasMark sum site bytes H → HasHeader sum new site
header_written sum new bytes site to H small begun agree m =
    let here : site.slot + 0 ≡ site.slot = omega arith in
    let at : part new site.slot 20 ≡ take 20 bytes = ap (λ i. part new i 20) (sym here) ∙ same_part new site.slot bytes 0 to agree 0 20 (omega arith) (omega (arith, begun)) in
    record {
      mark = m.mark;
      header = subst (λ (l : List ℕ). IsHeader sum l (pos site.place) m.mark) (sym at) (buffer_header sum site bytes H m small);
      below = λ n is. mark_below m.mark n site.place is m.of_history.below;
    }

-- A write behind what was written keeps all that stood in the log file. What else stands up to a place no lower is there too.
pub file_more : (sum : List ℕ → ℕ) (size : ℕ) (site : SegmentPosition) (old : List ℕ) (at : ℕ) (xs : List ℕ) (from to : ℕ) (earlier late : List Message) (stays : Message → Type 0) → IsLogFile sum size old site from earlier stays
    → from ≤ at → at + length xs ≤ size → from ≤ to → (0 < to → 20 ≤ to) → (0 < to → HasHeader sum (overwritten old (site.slot + at) xs) site) → All (StandsOwn sum size (overwritten old (site.slot + at) xs) site to) late
    → IsLogFile sum size (overwritten old (site.slot + at) xs) site to (earlier ++ late) stays
file_more sum size site old at xs from to earlier late stays file behind inside up begun header there = record {
  own = λ m among above lid is. elim (Contains-append_cases earlier late m among) [
    | inl early ↦ here_below sum size (overwritten old (site.slot + at) xs) site from to lid m up (here_kept sum size old (site.slot + at) xs site from lid m (omega (arith, behind)) (file.own m early above lid is))
    | inr after ↦ All-contains (StandsOwn sum size (overwritten old (site.slot + at) xs) site to) late m there after lid is
  ];
  elsewhere = λ m among low lid is. elsewhere_kept sum size old (site.slot + at) xs site lid m (omega arith) (omega (arith, inside)) (file.elsewhere m among low lid is);
  begun = begun;
  header = header;
}
