-- Where a write to a slot was torn, of the records that were to be met behind a place in it the first ones are met, with the bytes that were written, and none behind them.
use Rattle.std.proofs.Common.{◌≡◌, ◌⊎◌, ◌≤◌, ◌<◌, ◌+◌, ◌*◌, ◌/◌, ◌∙◌, ℕ, suc, pos, ℤ, List, [], ◌∷◌, ◌++◌, length, take, drop, get_or, sym, ap, arith, refl, subst, inl, inr}
use Rattle.std.proofs.Math.Nat.{mul-mod_left}
use Rattle.std.proofs.lemmas.List.{get_or-take, get_or-drop}
use Rattle.sled_codec.specs.declared.serialization.message.MessageHeader.{MessageHeader}
use Rattle.sled_codec.specs.Places.{part}
use Rattle.sled_codec.specs.Record.{IsHeader}
use Rattle.sled_store.specs.Device.{overwritten, LeavesLog, Placement}
use Rattle.sled_store.specs.Foreign.{Covers, NoForeignLog}
use Rattle.sled_core.specs.declared.iterator.scan.ScannedRecord.{ScannedRecord}
use Rattle.sled_core.specs.declared.iterator.scan.ScanEnd.{ScanEnd}
use Rattle.sled_core.specs.declared.iterator.scan.ScanEnd.TheVariants.{Full, Capped, Broken}
use Rattle.sled_core.proofs.Read.PathLemmas.{IsEmpty}
use Rattle.sled_core.specs.Reading.{StandsAt}
use Rattle.sled_core.specs.Scan.{IsMet, IsPath, IsEnd, EndsThere}
use Rattle.sled_core.proofs.Tail.LogFileLemmas.{part_kept, record_moved}
use Rattle.sled_core.proofs.Read.GivesLemmas.{one_len}
use Rattle.sled_core.proofs.Read.PathLemmas.{zeros_empty}
use Rattle.sled_core.proofs.Torn.TornLemmas.{after_write}
use Rattle.sled_core.proofs.Torn.TornRecords.{same_or_not, long_enough, says_plain}
use Rattle.sled_core.proofs.Torn.WrittenParts.{ComesTo, all_there, in_this_file, comes_behind, path_rises, covered_laid, record_where}

-- These records have in one file the bytes that they have in another, and are all in it.
abbrev pub AlikeAlong : List ℕ → List ℕ → ℕ → ℕ → List ScannedRecord → Type 0
AlikeAlong new left slot from [] = Unit {0}
AlikeAlong new left slot from (m ∷ ms) = (part left (slot + from) m.len ≡ part new (slot + from) m.len) × (slot + from + m.len ≤ length left) × AlikeAlong new left slot (from + m.len) ms

-- the reading ends for the same reason, or for want of the cap
abbrev pub EndsAlike : ScanEnd → ScanEnd → Type 0
EndsAlike ending why = (ending ≡ why) ⊎ ((why ≡ Capped) × (ending ≡ Broken))

-- Of the records that are met in one file from an offset of a segment on, the first ones are met in another file, with the same bytes. Either these are all of them, and the reading ends where it does in the one file, or it is broken behind them.
pub record MeetsFirst (sum : List ℕ → ℕ) (size : ℕ) (new left : List ℕ) (slot place from : ℕ) (more : List ScannedRecord) (stop : ℕ) (why : ScanEnd) : Type 0 where
  pub count : ℕ
  pub end : ℕ
  pub ending : ScanEnd
  pub path : IsPath sum size left slot place from (take count more) end
  pub ends : IsEnd sum size left slot place end ending
  pub alike : AlikeAlong new left slot from (take count more)
  -- what isn't met
  pub rest : IsPath sum size new slot place end (drop count more) stop
  pub how : ((count ≡ length more) × (end ≡ stop) × EndsAlike ending why) ⊎ ((count < length more) × (ending ≡ Broken))

-- Records with the same bytes in two files.
module _ (new left : List ℕ) (slot : ℕ) where
  -- some, and others behind them
  pub alike_joined : (sum : List ℕ → ℕ) (size : ℕ) (log : List ℕ) (place from : ℕ) (ms : List ScannedRecord) (mid : ℕ) (more : List ScannedRecord) → IsPath sum size log slot place from ms mid
      → AlikeAlong new left slot from ms → AlikeAlong new left slot mid more → AlikeAlong new left slot from (ms ++ more)
  alike_joined sum size log place from [] mid more path first rest = subst (λ n. AlikeAlong new left slot n more) path rest
  alike_joined sum size log place from (m ∷ ms) mid more path (same, there, first) rest = (same, there, alike_joined sum size log place (from + m.len) ms mid more path.3 first rest)

-- The reading ends between where it began and where it ends in the one file.
pub meets_within : (sum : List ℕ → ℕ) (size : ℕ) (new left : List ℕ) (slot place from : ℕ) (more : List ScannedRecord) (stop : ℕ) (why : ScanEnd) (w : MeetsFirst sum size new left slot place from more stop why) → (from ≤ w.end) × (w.end ≤ stop)
meets_within sum size new left slot place from more stop why w =
    (path_rises sum size left slot place from (take w.count more) w.end w.path, path_rises sum size new slot place w.end (drop w.count more) stop w.rest)

-- Where a record may begin at an offset, its sum and its kind lie in front of another one, or it lies behind that.
abbrev pub IsClear : ℕ → ℕ → ℕ → Type 0
IsClear size until here = here + 32 ≤ size → (here + 5 ≤ until) ⊎ (until ≤ here)

-- so it is at each offset of some records that stand one behind another, and behind the last one
abbrev pub AreClear : ℕ → ℕ → ℕ → List ScannedRecord → Type 0
AreClear size until here [] = IsClear size until here
AreClear size until here (m ∷ ms) = IsClear size until here × AreClear size until (here + m.len) ms

-- the end of the segment lies behind all of them
pub all_clear : (size here : ℕ) (ms : List ScannedRecord) → AreClear size size here ms
all_clear size here [] = λ room. inl (omega (arith, room))
all_clear size here (m ∷ ms) = ((λ room. inl (omega (arith, room))), all_clear size (here + m.len) ms)

-- A segment in a slot of two files. Each record of it that a reader of one comes to, where a record may begin there, has the same bytes in the other.
module _ (sum : List ℕ → ℕ) (size : ℕ) (new left : List ℕ) (slot place first until : ℕ)
    (same : (here : ℕ) → first ≤ here → here + 32 ≤ size → (here + 5 ≤ until) ⊎ (until ≤ here) → ComesTo sum size left (slot * size) place here
    → (h : MessageHeader) (body : List ℕ) (len : ℕ) → StandsAt sum size left (slot * size + here) (place / size) h body len
    → part new (slot * size + here) len ≡ part left (slot * size + here) len) where
  -- At such an offset.
  module _ (here : ℕ) (later : first ≤ here) (room : here + 32 ≤ size) (clear : (here + 5 ≤ until) ⊎ (until ≤ here)) (comes : ComesTo sum size left (slot * size) place here) where
    -- a record that stands there stands in the other file
    stands_new : (h : MessageHeader) (body : List ℕ) (len : ℕ) → StandsAt sum size left (slot * size + here) (place / size) h body len → StandsAt sum size new (slot * size + here) (place / size) h body len
    stands_new h body len s =
        let some = long_enough sum size left (slot * size + here) (place / size) h body len s in
        let whole = all_there sum size left (slot * size + here) (place / size) h body len s in
        let alike = same here later room clear comes h body len s in
        record_moved sum size left new (slot * size + here) (place / size) h body len alike
        (in_this_file sum size new left (slot * size + here) len (omega (arith, some)) whole alike) s

    -- one of the other file stands, or none does
    stands_or_none : (h : MessageHeader) (body : List ℕ) (len : ℕ) → StandsAt sum size new (slot * size + here) (place / size) h body len
        → ((part left (slot * size + here) len ≡ part new (slot * size + here) len) × (slot * size + here + len ≤ length left) × StandsAt sum size left (slot * size + here) (place / size) h body len)
        ⊎ IsEmpty sum size left (slot * size + here) (place / size)
    stands_or_none h body len s = elim (same_or_not (part left (slot * size + here) len) (part new (slot * size + here) len)) [
      | inl alike ↦ (
          let eight = long_enough sum size new (slot * size + here) (place / size) h body len s in
          let there = in_this_file sum size left new (slot * size + here) len (omega (arith, eight)) (all_there sum size new (slot * size + here) (place / size) h body len s) alike in
          inl (alike, there, record_moved sum size new left (slot * size + here) (place / size) h body len alike there s))
      | inr other ↦ inr (λ h' body' len' s'.
          let one : len' ≡ len = one_len sum size new (slot * size + here) (place / size) h' h body' body len' len (stands_new h' body' len' s') s in
          other (subst (λ n. part left (slot * size + here) n ≡ part new (slot * size + here) n) one (sym (same here later room clear comes h' body' len' s'))))
    ]

  -- where the reading of the other file ends, it ends
  ended : (here : ℕ) → first ≤ here → IsClear size until here → ComesTo sum size left (slot * size) place here → (why : ScanEnd) → IsEnd sum size new (slot * size) place here why
      → MeetsFirst sum size new left (slot * size) place here [] here why
  unfolding EndsThere
  ended here later clear comes Full full = record { count = 0; end = here; ending = Full; path = refl; ends = full; alike = tt; rest = refl; how = inl (refl, refl, inl refl) }
  ended here later clear comes Capped (room, (h, body, len, s, is_cap)) = elim (stands_or_none here later room (clear room) comes h body len s) [
    | inl (alike, there, still) ↦
        record { count = 0; end = here; ending = Capped; path = refl; ends = (room, (h, body, len, still, is_cap)); alike = tt; rest = refl; how = inl (refl, refl, inl refl) }
    | inr none ↦ record { count = 0; end = here; ending = Broken; path = refl; ends = (room, none); alike = tt; rest = refl; how = inl (refl, refl, inr (refl, refl)) }
  ]
  ended here later clear comes Broken (room, none) = record {
    count = 0;
    end = here;
    ending = Broken;
    path = refl;
    ends = (room, λ h body len s. none h body len (stands_new here later room (clear room) comes h body len s));
    alike = tt;
    rest = refl;
    how = inl (refl, refl, inl refl);
  }

  -- The first of the records are met that are met in the other file from a place on, and none behind them.
  pub meets_front : (here : ℕ) (more : List ScannedRecord) (stop : ℕ) (why : ScanEnd) → first ≤ here → AreClear size until here more → ComesTo sum size left (slot * size) place here
      → IsPath sum size new (slot * size) place here more stop → IsEnd sum size new (slot * size) place stop why → MeetsFirst sum size new left (slot * size) place here more stop why
  unfolding IsMet EndsThere
  meets_front here [] stop why later clear comes path end =
      let at_once = ended here later clear comes why (subst (λ n. IsEnd sum size new (slot * size) place n why) path end) in
      subst (λ n. MeetsFirst sum size new left (slot * size) place here [] n why) (sym path) at_once
  meets_front here (m ∷ ms) stop why later clear comes (room, at_place, (h, body, stands, says), path) end = elim (stands_or_none here later room (clear.0 room) comes h body m.len stands) [
    | inl (alike, there, still) ↦ (
        let on = meets_front (here + m.len) ms stop why (omega (arith, later)) clear.1
        (comes_behind sum size left (slot * size) (mul-mod_left slot size) place here h body m.len room (says_plain h body (slot * size + here) m.what says) still comes) path end in
        record {
          count = suc on.count;
          end = on.end;
          ending = on.ending;
          path = (room, at_place, (h, body, still, says), on.path);
          ends = on.ends;
          alike = (alike, there, on.alike);
          rest = on.rest;
          how = elim on.how [ inl (all, stops, alike) ↦ inl (omega (arith, all), stops, alike) | inr (few, broken) ↦ inr (omega (arith, few), broken) ];
        })
    | inr none ↦ record {
      count = 0;
      end = here;
      ending = Broken;
      path = refl;
      ends = (room, none);
      alike = tt;
      rest = (room, at_place, (h, body, stands, says), path);
      how = inr (omega arith, refl);
    }
  ]

-- What a write lays down where there were zeros: a record of some file that stood there before, or is a part of the write, stands where all is written.
module _ (sum : List ℕ → ℕ) (size : ℕ) (old : List ℕ) (slot from : ℕ) (asked left : List ℕ)
    (until : ℕ) (covers : from + length asked ≤ until) (clean : (i : ℕ) → slot * size + from ≤ i → i < slot * size + until → get_or old i 0 ≡ 0)
    (place here : ℕ) (later : from ≤ here) (clear : (here + 5 ≤ until) ⊎ (until ≤ here)) (h : MessageHeader) (body : List ℕ) (len : ℕ)
    (s : StandsAt sum size left (slot * size + here) (place / size) h body len) where
  some : 8 ≤ len
  some = long_enough sum size left (slot * size + here) (place / size) h body len s

  whole : length (part left (slot * size + here) len) ≡ len
  whole = all_there sum size left (slot * size + here) (place / size) h body len s

  not_before : here + 5 ≤ until → part old (slot * size + here) len ≡ part left (slot * size + here) len → ⊥
  not_before near same =
      let zero : get_or left (slot * size + here + 4) 0 ≡ 0 =
      sym (get_or-take len (drop (slot * size + here) left) 4 0 (omega (arith, some)) ∙ get_or-drop (slot * size + here) left 4 0)
      ∙ ap (λ (l : List ℕ). get_or l 4 0) (sym same)
      ∙ get_or-take len (drop (slot * size + here) old) 4 0 (omega (arith, some)) ∙ get_or-drop (slot * size + here) old 4 0
      ∙ clean (slot * size + here + 4) (omega (arith, later)) (omega (arith, near)) in
      zeros_empty sum size left (slot * size + here) (place / size) zero h body len s

  pub laid_there : (part old (slot * size + here) len ≡ part left (slot * size + here) len) ⊎ Covers (slot * size + from, asked) (slot * size + here) (part left (slot * size + here) len)
      → part (overwritten old (slot * size + from) asked) (slot * size + here) len ≡ part left (slot * size + here) len
  laid_there (inl stood) = elim clear [
    | inl near ↦ absurd (not_before near stood)
    | inr far ↦ (
        let there = in_this_file sum size old left (slot * size + here) len (omega (arith, some)) whole stood in
        part_kept sum size old (slot * size + from) asked (slot * size + here) len there (inr (omega (arith, far, covers))) ∙ stood)
  ]
  laid_there (inr write) = covered_laid sum size old (slot * size + from) asked left (slot * size + here) len whole write

-- A write into a slot, up to an offset of which there were zeros.
module _ (sum : List ℕ → ℕ) (size : ℕ) (old : List ℕ) (slot from : ℕ) (asked now left : List ℕ) (no_more : length now ≤ length asked) (leaves : LeavesLog (after_write old (slot * size + from) asked now) left)
    {placed : List Placement} (only_own : NoForeignLog sum size (after_write old (slot * size + from) asked now) placed left)
    (until : ℕ) (covers : from + length asked ≤ until) (clean : (i : ℕ) → slot * size + from ≤ i → i < slot * size + until → get_or old i 0 ≡ 0)
    (place : ℕ) (mark : ℤ) (header : IsHeader sum (part left (slot * size) 20) (pos place) mark) where
  -- The first of the records that were written from a place on are met, and none behind them.
  pub meets_first : (here : ℕ) (more : List ScannedRecord) (stop : ℕ) (why : ScanEnd) → from ≤ here → AreClear size until here more → ComesTo sum size left (slot * size) place here
      → IsPath sum size (overwritten old (slot * size + from) asked) (slot * size) place here more stop → IsEnd sum size (overwritten old (slot * size + from) asked) (slot * size) place stop why
      → MeetsFirst sum size (overwritten old (slot * size + from) asked) left (slot * size) place here more stop why
  meets_first = meets_front sum size (overwritten old (slot * size + from) asked) left slot place from until (λ here later room clear comes h body len s.
      laid_there sum size old slot from asked left until covers clean place here later clear h body len s
      (record_where sum size old (slot * size + from) asked now left no_more leaves only_own slot place mark header here comes room h body len s))
