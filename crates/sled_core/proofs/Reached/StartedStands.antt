-- While an accountant starts on a settled log file, a crash at any moment leaves the bytes of the slots that the snapshot uses; the segments that are found, and those that a table needs, lie in slots of the file.
use Rattle.std.proofs.Common.{◌≡◌, ◌≢◌, ◌≤◌, ◌<◌, ◌+◌, ◌-◌, ◌*◌, ◌/◌, ◌%◌, ◌∙◌, ℕ, suc, List, [], ◌∷◌, ◌++◌, length, take, drop, refl, sym, ap, arith, subst, inl, inr, length-take, length-drop}
use Rattle.std.specs.List.{All}
use Rattle.std.proofs.Math.Nat.{mod-add-div', mul-le-mul_right}
use Rattle.std.proofs.lemmas.Bool.{cases_eq, cases_lt, cases_order}
use Rattle.std.proofs.lemmas.List.{take_all}
use Rattle.sled_codec.specs.History.{Message, History}
use Rattle.sled_codec.specs.Places.{part}
use Rattle.sled_codec.specs.Pointers.{lid_of}
use Rattle.sled_store.specs.Begin.{filling, slots_of}
use Rattle.sled_store.specs.Device.{Event, Trace, LogState, State, state_of, step, at_rest, LeavesLog}
use Rattle.sled_store.specs.Moments.{AllLeft}
use Rattle.sled_store.specs.inside.Script.{Along}
use Rattle.sled_store.specs.Script.{after_all}
use Rattle.sled_store.specs.SegmentStates.{SlotState, left_after, cutting}
use Rattle.sled_store.proofs.LogFile.LogLemmas.{at_rest_left, part_cut}
use Rattle.sled_store.proofs.Segments.FilledLemmas.{filled, filling-log, slot_before}
use Rattle.sled_core.specs.declared.iterator.Segment.{Segment}
use Rattle.sled_core.specs.inside.Recoverable.{IsSegmentOf}
use Rattle.sled_core.specs.inside.Scan.{IsFoundSegment}
use Rattle.sled_core.proofs.Read.FoundLemmas.{found_there}
use Rattle.sled_core.proofs.Read.ScanLemmas.{aligned_offset}
use Rattle.sled_core.proofs.Torn.AlikeSlots.{SameIn, slot_found}
use Rattle.sled_core.proofs.Torn.CutAlong.{cutting_along}
use Rattle.sled_core.proofs.Torn.CutSlots.{below_same}
use Rattle.sled_core.proofs.Torn.FilledAlong.{filled_along}
use Rattle.sled_core.proofs.Torn.FilledBehind.{filled_same}
use Rattle.sled_core.proofs.Torn.FilledSlots.{others_same}
use Rattle.sled_core.proofs.Torn.KeptSlots.{along_both}
use Rattle.sled_core.proofs.Reached.KeptStands.{SameInUsed}

-- what two things that hold on the way say together
pub both_along : (P Q R : State → Type 0) → ((x : State) → P x → Q x → R x) → (es : List Event) (s : State) → Along P es s → Along Q es s → Along R es s
both_along P Q R each [] s p q = each s p q
both_along P Q R each (e ∷ es) s p q = (each s p.0 q.0, (λ torn tears. each (step torn s) (p.1 torn tears) (q.1 torn tears)), both_along P Q R each es (step e s) p.2 q.2)

-- The bytes of a slot.
module _ (size : ℕ) where
  -- those that one file has of another, and that one of a third, it has of the third
  pub same_then : (old mid left : List ℕ) (j : ℕ) → SameIn size old mid j → SameIn size mid left j → SameIn size old left j
  same_then old mid left j first then lid len low high there = elim (cases_eq len 0) [
    | inl nothing ↦ subst (λ n. part left lid n ≡ part old lid n) (sym nothing) refl
    | inr some ↦ (
        let alike = first lid len low high there in
        let whole : lid + len ≤ length mid = omega (arith, some, there, ap length alike, length-take len (drop lid old), length-drop lid old, length-take len (drop lid mid), length-drop lid mid) in
        then lid len low high whole ∙ alike)
  ]

  -- a file that is cut above the slot has them
  pub cut_same : (old : List ℕ) (slots j : ℕ) → j < slots → SameIn size old (take (slots * size) old) j
  cut_same old slots j below lid len low high there =
      let count : lid + len - lid ≡ len = omega arith in
      ap (λ n. take n (drop lid (take (slots * size) old))) (sym count)
      ∙ part_cut old (slots * size) lid (lid + len) there (omega (arith, high, slot_before size j slots below))
      ∙ ap (λ n. take n (drop lid old)) count

-- At each moment of a start, what a crash leaves has the bytes of the used slots.
module _ (sum : List ℕ → ℕ) (size : ℕ) (Used : ℕ → Type 0) (long : 20 ≤ size) (log : List ℕ) where
  abbrev HasBytes : State → Type 0
  HasBytes = AllLeft (λ past left. SameInUsed size Used log left.log)

  -- at rest, a crash leaves all that there is
  rest_has : (bytes : List ℕ) → SameInUsed size Used log bytes → (x : State) → x.log ≡ at_rest bytes → HasBytes x
  rest_has bytes same x is left leaves = subst (SameInUsed size Used log) (sym (at_rest_left bytes left.log (subst (λ (l : LogState). LeavesLog l left.log) is leaves.log))) same

  cutting_has : (slots : List SlotState) (n : ℕ) (old : List ℕ) → SameInUsed size Used log old → length old ≤ n * size → ((j : ℕ) → Used j → j < left_after n slots) → (s : State) → s.log ≡ at_rest old → Along HasBytes (cutting size n slots) s
  cutting_has slots n old same short below s is =
      cutting_along HasBytes size old slots s n
      (λ m low high x is_cut blobs snapshots. rest_has (take (m * size) old) (shorter m low) x is_cut)
      (λ m now low high no_less x is_cut blobs snapshots left leaves j used.
      same_then size log (take (suc m * size) old) left.log j (shorter (suc m) (omega (arith, low)) j used)
      (below_same sum size (take (suc m * size) old) m now no_less left.log (subst (λ (l : LogState). LeavesLog l left.log) is_cut leaves.log) j (let lower = below j used in omega (arith, lower, low))))
      s (is ∙ ap at_rest (sym (take_all (n * size) old short))) refl refl
    where
      shorter : (m : ℕ) → left_after n slots ≤ m → SameInUsed size Used log (take (m * size) old)
      shorter m low j used = same_then size log old (take (m * size) old) j (same j used) (cut_same size old m j (let lower = below j used in omega (arith, lower, low)))

  pub starting_has : (ks : List ℕ) (slots : List SlotState) (n : ℕ) → All (λ k. k * size < length log) ks → length (filled size log ks) ≤ n * size → ((j : ℕ) → Used j → All (λ k. k ≢ j) ks) → ((j : ℕ) → Used j → j < left_after n slots)
      → (t : Trace) → (state_of t).log ≡ at_rest log → Along HasBytes (filling size ks ++ cutting size n slots) (state_of t)
  starting_has ks slots n begin short apart below t is =
      let same : SameInUsed size Used log (filled size log ks) = (λ j used. filled_same sum size log ks long begin j (apart j used)) in
      along_both HasBytes (filling size ks) (cutting size n slots) t
      (filled_along HasBytes size log ks (state_of t) is (λ x filling blobs snapshots left leaves j used. others_same sum size log ks x.log filling left.log leaves.log j (apart j used))
      (λ x behind blobs snapshots. rest_has (filled size log ks) same x behind))
      (cutting_has slots n (filled size log ks) same short below (state_of (after_all (filling size ks) t)) (filling-log size ks t log is))

-- a slot in which a segment is found lies in the file
pub found_inside : (sum : List ℕ → ℕ) (size : ℕ) (log : List ℕ) (least : ℕ) (s : Segment) → 20 ≤ size → IsFoundSegment sum size log least s → s.slot / size < slots_of size (length log)
found_inside sum size log least s long is_found =
    let slots : ℕ = slots_of size (length log) in
    let there = found_there sum size log least s is_found in
    let begins : s.slot ≡ s.slot / size * size = slot_found sum size log least s is_found in
    elim (cases_lt (s.slot / size) slots) [
      | inl below ↦ below
      | inr above ↦ (
          let more : slots * size ≤ s.slot / size * size = mul-le-mul_right size above in
          absurd (omega (arith, there, begins, more, long)))
    ]

-- a reader comes to a message in the slot that its pointer says
pub slot_needed : (sum : List ℕ → ℕ) (size : ℕ) (log : List ℕ) (H : History) (cut : ℕ) (m : Message) (of : IsSegmentOf sum size log H cut m) → of.segment.slot / size ≡ lid_of m.pointer / size
slot_needed sum size log H cut m of =
    let slot : ℕ = of.segment.slot in
    let lid : ℕ = lid_of m.pointer in
    let at : ℕ = of.reached.at in
    let room = of.reached.room in
    let lies : lid ≡ slot + at = of.reached.lid in
    let begins : slot ≡ slot / size * size = slot_found sum size log 0 of.segment of.found in
    let own : lid / size * size ≡ slot = (let inside : lid % size ≡ at = ap (λ n. n % size) lies ∙ aligned_offset slot at size of.found.slot (omega (arith, room)) in omega (arith, mod-add-div' lid size, inside, lies)) in
    elim (cases_order (slot / size) (lid / size)) [
      | inl same ↦ same
      | inr (inl lower) ↦ absurd (let far = slot_before size (slot / size) (lid / size) lower in omega (arith, far, own, begins, room))
      | inr (inr higher) ↦ absurd (let far = slot_before size (lid / size) (slot / size) higher in omega (arith, far, own, begins, room))
    ]
