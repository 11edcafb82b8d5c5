-- Two Replaces of one page in two segments: a mark above both frees the first segment's slot.
use Rattle.std.proofs.Common.{◌≡◌, ◌∙◌, ◌<◌, ℕ, zero, suc, pos, true, false, [], ◌∷◌, refl, sym, ap, subst, arith, inl}
use Rattle.std.specs.List.{All}
use Rattle.std.proofs.lemmas.Bool.{true≢false}
use Rattle.sled_codec.specs.History.{Message, History, no_history, table, page_state, of_page}
use Rattle.sled_codec.specs.declared.serialization.message.LogKind.TheVariants.{Replace}
use Rattle.sled_codec.specs.declared.result.DiskPtr.TheVariants.{Inline}
use Rattle.sled_store.specs.Marks.{info_of, IsPast, IsNewPlace, Completes, IsFormerState, Marked, hands_out, replaces, unused}
use Rattle.sled_store.specs.SegmentStates.{SlotState, Machine, unused_machine, is_free, slot_at, MayMark, handed_out, replaced, stabilized}
use Rattle.sled_store.specs.declared.segment.slot.CacheInfo.{CacheInfo}
use Rattle.sled_store.proofs.Segments.Elements.{in_nothing, only_in}
use Rattle.sled_store.proofs.Marks.SlotLemmas.{free_behind}

-- a Replace of page 0 at a place that is its offset too
abbrev replace_at : ℕ → Message
replace_at place = record { kind = Replace; page = 0; place = place; pointer = Inline place; size = 40; bytes = [] }

abbrev one_message : History
one_message = record { messages = replace_at 20 ∷ []; batches = [] }

abbrev pub two_messages : History
two_messages = record { messages = replace_at 20 ∷ replace_at 276 ∷ []; batches = [] }

-- the machine from step to step
abbrev first_out : Machine
first_out = handed_out 0 unused_machine

abbrev first_marked : Machine
first_marked = replaced 256 0 (info_of (replace_at 20)) [] first_out

abbrev second_out : Machine
second_out = handed_out 256 first_marked

abbrev pub second_marked : Machine
second_marked = replaced 256 0 (info_of (replace_at 276)) (info_of (replace_at 20) ∷ []) second_out

nothing_past : IsPast no_history 0
nothing_past m there = absurd (in_nothing m there)

-- nothing was completed before, and the page is made of nothing
first_completes : Completes no_history (replace_at 20) one_message
first_completes = record {
  adds = record { changes = inl refl; before = []; after = []; old = refl; new = refl; lower = λ x there. absurd (in_nothing x there); higher = λ x there. absurd (in_nothing x there); batches = refl };
  newest = λ x there. absurd (in_nothing x there);
}

first_former : IsFormerState no_history 0 []
unfolding table page_state of_page
first_former = record { cut = 0; past = nothing_past; is = refl }

-- nothing is to be replaced
none_lie : (P : CacheInfo → Type 0) → All P []
none_lie P k d lt = absurd (omega (arith, lt))

first_may : MayMark 256 first_out (info_of (replace_at 20)) []
first_may = record { lies = record { slot = omega arith; taken = refl; not_negative = search arith; lsn = refl }; active = refl; old_lie = none_lie (λ o. _) }

-- the first segment's place is that of a new one, and the second one's lies above it
first_new : IsNewPlace 256 0 unused_machine
first_new = record { aligned = refl; above = λ k taken. absurd (true≢false (sym (ap (λ (s : SlotState). is_free s.state) (free_behind [] k (omega arith))) ∙ taken)) }

second_new : IsNewPlace 256 256 first_marked
second_new = record { aligned = refl; above = above } where
  above : (k : ℕ) → is_free (slot_at first_marked k).state ≡ false → (slot_at first_marked k).lsn < 256
  above zero taken = omega arith
  above (suc k) taken = absurd (true≢false (sym (ap (λ (s : SlotState). is_free s.state) (free_behind first_marked.slots (suc k) (omega arith))) ∙ taken))

-- the page is made of the first message
second_completes : Completes one_message (replace_at 276) two_messages
second_completes = record {
  adds = record {
    changes = inl refl;
    before = replace_at 20 ∷ [];
    after = [];
    old = refl;
    new = refl;
    lower = λ x there. let is : replace_at 20 ≡ x = only_in (replace_at 20) x there in subst (λ (m : Message). m.place < 276) is (omega arith);
    higher = λ x there. absurd (in_nothing x there);
    batches = refl;
  };
  newest = λ x there same. let is : replace_at 20 ≡ x = only_in (replace_at 20) x there in subst (λ (m : Message). m.place < 276) is (omega arith);
}

second_former : IsFormerState one_message 0 (info_of (replace_at 20) ∷ [])
unfolding table page_state of_page
second_former = record { cut = 21; past = λ x there. let is : replace_at 20 ≡ x = only_in (replace_at 20) x there in subst (λ (m : Message). m.place < 21) is (omega arith); is = refl }

second_may : MayMark 256 second_out (info_of (replace_at 276)) []
second_may = record { lies = record { slot = omega arith; taken = refl; not_negative = search arith; lsn = refl }; active = refl; old_lie = none_lie (λ o. _) }

-- All marks are truthful.
pub both_marked : Marked 256 0 two_messages second_marked
both_marked =
    replaces (replace_at 276) (info_of (replace_at 20) ∷ []) two_messages
    (hands_out 256 (replaces (replace_at 20) [] one_message (hands_out 0 (unused (omega arith)) first_new) first_completes refl first_former first_may) second_new) second_completes refl second_former second_may

-- Before the mark the free waits, and the mark makes it.
pub first_waits : is_free (slot_at second_marked 0).state ≡ false
first_waits = refl

pub first_freed : is_free (slot_at (stabilized 256 (pos 768) second_marked).machine 0).state ≡ true
first_freed = refl
