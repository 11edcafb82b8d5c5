-- Marks change no segment: each slot has the one that it had, as active as it was.
use Rattle.std.proofs.Common.{◌≡◌, ◌∙◌, ◌/◌, ℕ, false, List, [], ◌∷◌, set, refl}
use Rattle.std.specs.List.{Contains}
use Rattle.std.proofs.lemmas.List.Elements.{All-contains}
use Rattle.sled_codec.specs.Pointers.{lid_of}
use Rattle.sled_store.specs.SegmentStates.{LiesIn, Machine, MayMark, SlotState, is_free, linked, outdating, replaced, replaced_all, replaced_one, replaced_slot, segment_place, slot_at, with_slot}
use Rattle.sled_store.specs.declared.segment.slot.CacheInfo.{CacheInfo}
use Rattle.sled_store.proofs.Segments.Elements.{in_first, in_rest}
use Rattle.sled_store.proofs.Marks.SlotLemmas.{taken_there}
use Rattle.sled_store.proofs.Marks.MarkSteps.{SameSegments, linked_same, outdating_same, same_then, set_same}
use Rattle.sled_store.proofs.Marks.ReplaceSteps.{sparse_same}

module _ (size pid place : ℕ) where
  -- An older message is replaced,
  pub one_same : (m : Machine) (o : CacheInfo) → is_free (slot_at m (lid_of o.pointer / size)).state ≡ false → SameSegments m.slots (replaced_one size pid place o m).slots
  one_same m o taken =
      let k = lid_of o.pointer / size in
      let s : SlotState = replaced_slot pid o.log_size place (slot_at m k) in
      same_then m.slots (set m.slots k s) (replaced_one size pid place o m).slots
      (set_same m.slots k s (taken_there m.slots k taken) (record { free = refl; active = refl; lsn = refl; pages = λ p found. found })) (sparse_same size (with_slot k s m) k)

  -- and so are several.
  all_same : (os : List CacheInfo) (m : Machine) → ((o : CacheInfo) → Contains os o → is_free (slot_at m (lid_of o.pointer / size)).state ≡ false)
      → SameSegments m.slots (replaced_all size pid place os m).slots
  all_same [] m taken = λ j. record { free = refl; active = refl; lsn = refl; pages = λ p found. found }
  all_same (o ∷ os) m taken =
      let n : Machine = replaced_one size pid place o m in
      let first : SameSegments m.slots n.slots = one_same m o (taken o (in_first o os)) in
      same_then m.slots n.slots (replaced_all size pid place (o ∷ os) m).slots first
      (all_same os n (λ p found. (first (lid_of p.pointer / size)).free ∙ taken p (in_rest o p os found)))

-- A message is there in place of older ones.
pub replaced_segments : (size pid : ℕ) (info : CacheInfo) (old : List CacheInfo) (m : Machine) → MayMark size m info old → SameSegments m.slots (replaced size pid info old m).slots
replaced_segments size pid info old m may =
    let k = lid_of info.pointer / size in
    let n : Machine = linked size pid info m in
    let first : SameSegments m.slots n.slots = linked_same size m info may.lies.taken pid in
    let o : Machine = outdating size info old n in
    let same : SameSegments m.slots o.slots = same_then m.slots n.slots o.slots first (outdating_same size n info ((first k).free ∙ may.lies.taken) old) in
    same_then m.slots o.slots (replaced size pid info old m).slots same
    (all_same size pid (segment_place size info.lsn) old o (λ p found. (same (lid_of p.pointer / size)).free ∙ (All-contains (LiesIn size m) old p may.old_lie found).taken))
