-- While a log starts on a settled file, fills the slots that it doesn't use and cuts off free ones at the end: whatever a crash leaves at any moment has the segments of the used slots as they were, and no others than there were.
use Rattle.std.proofs.Common.{◌≡◌, ◌≢◌, ◌⊎◌, ◌≤◌, ◌<◌, ◌*◌, ◌/◌, ◌∙◌, ℕ, suc, ℤ, pos, List, [], ◌∷◌, ◌++◌, length, take, refl, sym, ap, arith, subst, inl, inr}
use Rattle.std.specs.List.{All, Contains}
use Rattle.std.proofs.Math.Nat.{mul-mod_left}
use Rattle.std.proofs.lemmas.Bool.{cases_lt}
use Rattle.std.proofs.lemmas.Bool.Decides.{eqb_tells}
use Rattle.std.proofs.lemmas.List.{take_all}
use Rattle.std.proofs.lemmas.List.Elements.{All-cons}
use Rattle.sled_codec.specs.Places.{part}
use Rattle.sled_codec.specs.Record.{IsHeader}
use Rattle.sled_store.specs.Begin.{filling}
use Rattle.sled_store.specs.Device.{Event, Trace, LogState, State, Content, state_of, at_rest, LeavesLog, Placement}
use Rattle.sled_store.specs.Foreign.{NoForeignLog}
use Rattle.sled_store.specs.Moments.{AllLeft}
use Rattle.sled_store.specs.inside.Script.{Along}
use Rattle.sled_store.specs.Script.{after_all}
use Rattle.sled_store.specs.SegmentStates.{SlotState, left_after, cutting}
use Rattle.sled_store.proofs.LogFile.LogLemmas.{at_rest_left}
use Rattle.sled_store.proofs.Segments.Elements.{in_first, in_rest}
use Rattle.sled_store.proofs.Segments.FilledLemmas.{filled, filling-log}
use Rattle.sled_core.specs.declared.iterator.Segment.{Segment}
use Rattle.sled_core.specs.declared.iterator.scan.ScannedRecord.{ScannedRecord}
use Rattle.sled_core.specs.declared.iterator.scan.ScanEnd.{ScanEnd}
use Rattle.sled_core.specs.Recoverable.{NoHeaderOfZeros}
use Rattle.sled_core.specs.inside.Scan.{IsFoundSegment}
use Rattle.sled_core.specs.Scan.{IsScan}
use Rattle.sled_core.proofs.Torn.AlikeSlots.{slot_found}
use Rattle.sled_core.proofs.Torn.CutAlong.{cutting_along}
use Rattle.sled_core.proofs.Torn.CutSlots.{after_cut, cut_header_was, below_found, below_met, below_met_before, none_behind, taken_found, taken_found_before, taken_met, taken_met_before}
use Rattle.sled_core.proofs.Torn.FilledAlong.{filled_along}
use Rattle.sled_core.proofs.Torn.FilledBehind.{none_in_filled, filled_found, filled_found_before, filled_met, filled_met_before}
use Rattle.sled_core.proofs.Torn.FilledSlots.{IsFilling, found_before, found_stays, others_met, others_met_before}

-- One file has of another the segments in some slots, in which all is met as there, and no segments that the other hasn't.
pub record KeepsSlots (sum : List ℕ → ℕ) (size : ℕ) (Used : ℕ → Type 0) (old left : List ℕ) : Type 0 where
  pub before : (least : ℕ) (s : Segment) → IsFoundSegment sum size left least s → IsFoundSegment sum size old least s
  pub found : (j : ℕ) → Used j → (least : ℕ) (s : Segment) → s.slot ≡ j * size → IsFoundSegment sum size old least s → IsFoundSegment sum size left least s
  pub met : (j : ℕ) → Used j → (place : ℕ) (mark : ℤ) → IsHeader sum (part left (j * size) 20) (pos place) mark → (met : List ScannedRecord) (stop : ℕ) (why : ScanEnd)
      → IsScan sum size old (j * size) place met stop why → IsScan sum size left (j * size) place met stop why
  pub met_before : (j : ℕ) → Used j → (place : ℕ) (mark : ℤ) → IsHeader sum (part left (j * size) 20) (pos place) mark → (met : List ScannedRecord) (stop : ℕ) (why : ScanEnd)
      → IsScan sum size left (j * size) place met stop why → IsScan sum size old (j * size) place met stop why

-- a slot is one of a list, or each of the list is another
in_or_not : (j : ℕ) (ks : List ℕ) → Contains ks j ⊎ All (λ k. k ≢ j) ks
in_or_not j [] = inr (λ k d lt. absurd (omega (arith, lt)))
in_or_not j (k ∷ ks) = elim (eqb_tells k j) [
  | inl same ↦ inl (subst (Contains (k ∷ ks)) same.1 (in_first k ks))
  | inr other ↦ elim (in_or_not j ks) [ inl there ↦ inl (in_rest k j ks there) | inr others ↦ inr (All-cons (λ x. x ≢ j) k ks other.1 others) ]
]

module _ (sum : List ℕ → ℕ) (size : ℕ) (Used : ℕ → Type 0) where
  -- a file has all of itself
  pub keeps_same : (old : List ℕ) → KeepsSlots sum size Used old old
  keeps_same old = record { before = λ least s is. is; found = λ j used least s here is. is; met = λ j used place mark header ms stop why scan. scan; met_before = λ j used place mark header ms stop why scan. scan }

  -- the header of a segment passes where it was found
  header_before : (old left : List ℕ) → KeepsSlots sum size Used old left → (j place : ℕ) (mark : ℤ) → IsHeader sum (part left (j * size) 20) (pos place) mark → IsHeader sum (part old (j * size) 20) (pos place) mark
  header_before old left keeps j place mark header =
      let s : Segment = record { place = place; slot = j * size; mark = mark } in
      (keeps.before 0 s (record { slot = mul-mod_left j size; header = header; not_below = omega arith })).header

  -- what one file has of another, and that of a third, it has of the third
  pub keeps_then : (old mid left : List ℕ) → KeepsSlots sum size Used old mid → KeepsSlots sum size Used mid left → KeepsSlots sum size Used old left
  keeps_then old mid left first then = record {
    before = λ least s is. first.before least s (then.before least s is);
    found = λ j used least s here is. then.found j used least s here (first.found j used least s here is);
    met = λ j used place mark header ms stop why scan. then.met j used place mark header ms stop why (first.met j used place mark (header_before mid left then j place mark header) ms stop why scan);
    met_before = λ j used place mark header ms stop why scan. first.met_before j used place mark (header_before mid left then j place mark header) ms stop why (then.met_before j used place mark header ms stop why scan);
  }

  module _ (long : 20 ≤ size) where
    -- Slots that aren't used are filled.
    module _ (none : NoHeaderOfZeros sum) (old ks : List ℕ) (apart : (j : ℕ) → Used j → All (λ k. k ≢ j) ks) where
      -- while that is done
      pub filling_keeps : (s : LogState) → IsFilling size old ks s → (left : List ℕ) → LeavesLog s left → {placed : List Placement} → NoForeignLog sum size s placed left → KeepsSlots sum size Used old left
      filling_keeps s is left leaves only_own = record {
        before = found_before sum size old ks s is left leaves only_own none;
        found = λ j used. found_stays sum size old ks s is left leaves only_own long j (apart j used);
        met = λ j used. others_met sum size old ks s is left leaves only_own long j (apart j used);
        met_before = λ j used. others_met_before sum size old ks s is left leaves only_own long j (apart j used);
      }

      -- and behind it
      pub filled_keeps : All (λ k. k * size < length old) ks → KeepsSlots sum size Used old (filled size old ks)
      filled_keeps begin = record {
        before = λ least s is.
            let here = slot_found sum size (filled size old ks) least s is in
            let header = subst (λ n. IsHeader sum (part (filled size old ks) n 20) (pos s.place) s.mark) here is.header in
            elim (in_or_not (s.slot / size) ks) [
              | inl there ↦ absurd (none_in_filled sum size old ks long begin none (s.slot / size) there (pos s.place) s.mark header)
              | inr others ↦ filled_found_before sum size old ks long begin (s.slot / size) others least s here is
            ];
        found = λ j used. filled_found sum size old ks long begin j (apart j used);
        met = λ j used place mark header. filled_met sum size old ks long begin j (apart j used) place;
        met_before = λ j used place mark header. filled_met_before sum size old ks long begin j (apart j used) place;
      }

    -- Slots above the used ones are cut off.
    module _ (old : List ℕ) (slots : ℕ) (below : (j : ℕ) → Used j → j < slots) where
      -- while that is done
      pub cutting_keeps : (now : ℕ) → slots * size ≤ now → (left : List ℕ) → LeavesLog (after_cut size old slots now) left → {placed : List Placement} → NoForeignLog sum size (after_cut size old slots now) placed left
          → KeepsSlots sum size Used old left
      cutting_keeps now no_less left leaves only_own = record {
        before = λ least s is.
            let here = slot_found sum size left least s is in
            let header = subst (λ n. IsHeader sum (part left n 20) (pos s.place) s.mark) here is.header in
            let was = cut_header_was sum size old slots now no_less left leaves only_own long (s.slot / size) (pos s.place) s.mark header in
            record { slot = is.slot; header = subst (λ n. IsHeader sum (part old n 20) (pos s.place) s.mark) (sym here) was; not_below = is.not_below };
        found = λ j used. below_found sum size old slots now no_less left leaves only_own long j (below j used);
        met = λ j used. below_met sum size old slots now no_less left leaves only_own long j (below j used);
        met_before = λ j used. below_met_before sum size old slots now no_less left leaves only_own long j (below j used);
      }

      -- and behind it
      pub cut_keeps : NoHeaderOfZeros sum → KeepsSlots sum size Used old (take (slots * size) old)
      cut_keeps none = record {
        before = λ least s is.
            let here = slot_found sum size (take (slots * size) old) least s is in
            let header = subst (λ n. IsHeader sum (part (take (slots * size) old) n 20) (pos s.place) s.mark) here is.header in
            elim (cases_lt (s.slot / size) slots) [
              | inl low ↦ taken_found_before sum size old slots long (s.slot / size) low least s here is
              | inr above ↦ absurd (none_behind sum size old slots long none (s.slot / size) above (pos s.place) s.mark header)
            ];
        found = λ j used. taken_found sum size old slots long j (below j used);
        met = λ j used place mark header. taken_met sum size old slots long j (below j used) place;
        met_before = λ j used place mark header. taken_met_before sum size old slots long j (below j used) place;
      }

-- What a crash left has the segments of some slots, where only what the log itself wrote passes as its own.
abbrev pub KeepsIfOwn : (List ℕ → ℕ) → ℕ → (ℕ → Type 0) → List ℕ → State → Content → Type 0
KeepsIfOwn sum size Used old past left = NoForeignLog sum size past.log past.placed left.log → KeepsSlots sum size Used old left.log

-- what holds along some calls, and along those behind them
pub along_both : (P : State → Type 0) (es fs : List Event) (t : Trace) → Along P es (state_of t) → Along P fs (state_of (after_all es t)) → Along P (es ++ fs) (state_of t)
along_both P [] fs t first then = then
along_both P (e ∷ es) fs t first then = (first.0, first.1, along_both P es fs (e ∷ t) first.2 then)

module _ (sum : List ℕ → ℕ) (size : ℕ) (Used : ℕ → Type 0) (long : 20 ≤ size) (none : NoHeaderOfZeros sum) (log : List ℕ) where
  abbrev Keeps : State → Type 0
  Keeps = AllLeft (KeepsIfOwn sum size Used log)

  -- at rest, a crash leaves all that there is
  rest_keeps : (bytes : List ℕ) → KeepsSlots sum size Used log bytes → (x : State) → x.log ≡ at_rest bytes → Keeps x
  rest_keeps bytes keeps x is left leaves own = subst (KeepsSlots sum size Used log) (sym (at_rest_left bytes left.log (subst (λ (l : LogState). LeavesLog l left.log) is leaves.log))) keeps

  -- Free slots at the end of a file are cut off that has the used ones.
  pub cutting_keeps_along : (slots : List SlotState) (n : ℕ) (old : List ℕ) → KeepsSlots sum size Used log old → length old ≤ n * size → ((j : ℕ) → Used j → j < left_after n slots) → (s : State) → s.log ≡ at_rest old
      → Along Keeps (cutting size n slots) s
  cutting_keeps_along slots n old keeps short below s is =
      cutting_along Keeps size old slots s n
      (λ m low high x is_cut blobs snapshots. rest_keeps (take (m * size) old) (shorter m low) x is_cut)
      (λ m now low high no_less x is_cut blobs snapshots left leaves own.
      keeps_then sum size Used log (take (suc m * size) old) left.log (shorter (suc m) (omega (arith, low)))
      (cutting_keeps sum size Used long (take (suc m * size) old) m (λ j used. let lower = below j used in omega (arith, lower, low)) now no_less left.log
      (subst (λ (l : LogState). LeavesLog l left.log) is_cut leaves.log) {placed = x.placed} (subst (λ (l : LogState). NoForeignLog sum size l x.placed left.log) is_cut own)))
      s (is ∙ ap at_rest (sym (take_all (n * size) old short))) refl refl
    where
      shorter : (m : ℕ) → left_after n slots ≤ m → KeepsSlots sum size Used log (take (m * size) old)
      shorter m low = keeps_then sum size Used log old (take (m * size) old) keeps (cut_keeps sum size Used long old m (λ j used. let lower = below j used in omega (arith, lower, low)) none)

  -- Slots that aren't used are filled, and then free ones at the end of the file cut off.
  module _ (ks : List ℕ) (slots : List SlotState) (n : ℕ) (begin : All (λ k. k * size < length log) ks) (short : length (filled size log ks) ≤ n * size) (apart : (j : ℕ) → Used j → All (λ k. k ≢ j) ks)
      (below : (j : ℕ) → Used j → j < left_after n slots) where
    pub starting_along : (t : Trace) → (state_of t).log ≡ at_rest log → Along Keeps (filling size ks ++ cutting size n slots) (state_of t)
    starting_along t is =
        let keeps : KeepsSlots sum size Used log (filled size log ks) = filled_keeps sum size Used long none log ks apart begin in
        along_both Keeps (filling size ks) (cutting size n slots) t
        (filled_along Keeps size log ks (state_of t) is (λ x filling blobs snapshots left leaves own. filling_keeps sum size Used long none log ks apart x.log filling left.log leaves.log {placed = x.placed} own)
        (λ x behind blobs snapshots. rest_keeps (filled size log ks) keeps x behind))
        (cutting_keeps_along slots n (filled size log ks) keeps short below (state_of (after_all (filling size ks) t)) (filling-log size ks t log is))
