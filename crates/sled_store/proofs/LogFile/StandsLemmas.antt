-- Where a log file in memory stands for a state, it stands for the next one once a write was carried out.
use Rattle.std.proofs.Common.{◌≡◌, ◌⊎◌, ◌≤◌, ◌<◌, ◌+◌, ◌||◌, ◌&&◌, ℕ, min, max, Bool, true, false, nat_lt, nat_le, List, [], ◌∷◌, ◌++◌, length, get_or, vec_capacity, refl, sym, ◌∙◌, ap, arith, inl, inr}
use Rattle.std.proofs.lemmas.Bool.{cases_lt}
use Rattle.sled_store.specs.declared.device.memory.log_file.MemLog.{MemLog}
use Rattle.sled_store.specs.Device.{LogState, log_step, overwritten, end_of, Wrote}
use Rattle.sled_store.specs.inside.Memory.{Stands, is_within, is_unsynced_at}
use Rattle.sled_store.proofs.LogFile.LooseLemmas.{end_of-some, end_of-le, either_false, or-true, or-swap, inside, within_cut, unwritten}
use Rattle.sled_store.proofs.LogFile.OverwrittenLemmas.{length-overwritten}

-- what a write makes of what is kept
pub record Writes (log new : MemLog) (at : ℕ) (asked now : List ℕ) : Type 0 where
  pub some : 0 < length asked
  pub part : length now ≤ length asked
  pub bytes : new.bytes.items ≡ overwritten log.bytes.items at now
  pub settled : new.settled.items ≡ log.settled.items
  pub least : new.least ≡ log.least
  pub most : new.most ≡ max log.most (at + length asked)
  pub unsynced : new.unsynced.items ≡ log.unsynced.items ++ (min at (length log.bytes.items), at + length asked) ∷ []
  pub cut : new.cut ≡ log.cut
  pub room : at + length asked ≤ vec_capacity new.bytes
  pub old_room : vec_capacity log.bytes ≤ vec_capacity new.bytes
  pub settled_room : at + length asked ≤ vec_capacity new.settled
  pub old_settled_room : vec_capacity log.settled ≤ vec_capacity new.settled

-- one more range, at the end
is_within-push : (ranges : List (ℕ × ℕ)) (r : ℕ × ℕ) (i : ℕ) → is_within (ranges ++ r ∷ []) i ≡ is_within ranges i || (nat_le r.0 i && nat_lt i r.1)
is_within-push [] r i = refl
is_within-push (q ∷ ranges) r i =
    ap (λ (b : Bool). b || (nat_le q.0 i && nat_lt i q.1)) (is_within-push ranges r i)
    ∙ or-swap (is_within ranges i) (nat_le r.0 i && nat_lt i r.1) (nat_le q.0 i && nat_lt i q.1)

-- what was loose, or is in the range
loose_more : (was within past here : Bool) → (was ≡ within || past) ⊎ (here ≡ true) → was || here ≡ (within || here) || past
loose_more was within past here (inl is) = ap (λ (b : Bool). b || here) is ∙ or-swap within past here
loose_more was within past here (inr is) =
    ap (λ (b : Bool). was || b) is ∙ or-true was ∙ sym (ap (λ (b : Bool). (within || b) || past) is ∙ ap (λ (b : Bool). b || past) (or-true within))

module _ (log new : MemLog) (s : LogState) (at : ℕ) (asked now : List ℕ) (w : Writes log new at asked now) (stands : Stands log s) where
  abbrev from : ℕ
  from = min at (length s.bytes)

  abbrev end : ℕ
  end = end_of at (max (length asked) (length now))

  end-is : end ≡ at + length asked
  end-is = let longest : max (length asked) (length now) ≡ length asked = omega (arith, w.part) in ap (end_of at) longest ∙ end_of-some at (length asked) w.some

  from-is : min at (length log.bytes.items) ≡ from
  from-is = ap (λ (xs : List ℕ). min at (length xs)) stands.bytes

  unsynced-is : (i : ℕ) → is_unsynced_at new.unsynced.items new.cut i ≡ (is_within log.unsynced.items i || (nat_le from i && nat_lt i end)) || nat_le log.cut i
  unsynced-is i =
      let range : is_within new.unsynced.items i ≡ is_within log.unsynced.items i || (nat_le from i && nat_lt i end) =
      ap (λ (rs : List (ℕ × ℕ)). is_within rs i) w.unsynced ∙ is_within-push log.unsynced.items (min at (length log.bytes.items), at + length asked) i
      ∙ ap (λ (f : ℕ). is_within log.unsynced.items i || (nat_le f i && nat_lt i (at + length asked))) from-is
      ∙ ap (λ (e : ℕ). is_within log.unsynced.items i || (nat_le from i && nat_lt i e)) (sym end-is) in
      ap (λ (b : Bool). b || nat_le new.cut i) range ∙ ap (λ (c : ℕ). (is_within log.unsynced.items i || (nat_le from i && nat_lt i end)) || nat_le c i) w.cut

  new_loose : (i : ℕ) → i < max s.most end → s.is_unsynced i || (nat_le from i && nat_lt i end) ≡ is_unsynced_at new.unsynced.items new.cut i
  new_loose i low =
      loose_more (s.is_unsynced i) (is_within log.unsynced.items i) (nat_le log.cut i) (nat_le from i && nat_lt i end)
      (elim (cases_lt i s.most) [ inl old ↦ inl (stands.unsynced i old) | inr past ↦ inr (inside from end i (omega (arith, stands.no_longer)) (omega (arith))) ])
      ∙ sym (unsynced-is i)

  new_same : (i : ℕ) → is_unsynced_at new.unsynced.items new.cut i ≡ false → get_or s.settled i 0 ≡ get_or (overwritten s.bytes at now) i 0
  new_same i firm =
      let parts = either_false _ _ (sym (unsynced-is i) ∙ firm) in
      let ranges = either_false _ _ parts.0 in
      let in_cut : i < log.cut = within_cut log.cut i parts.1 in
      let was_firm : is_unsynced_at log.unsynced.items log.cut i ≡ false = ap (λ (b : Bool). b || nat_le log.cut i) ranges.0 ∙ parts.1 in
      stands.same i was_firm ∙ sym (unwritten s.bytes at asked now i ranges.1)

  pub written : Stands new (log_step (Wrote at asked now) s)
  written = let long = length-overwritten s.bytes at now in
      let low = end_of-le at (length now) (length asked) w.part in record {
        bytes = w.bytes ∙ ap (λ (xs : List ℕ). overwritten xs at now) stands.bytes;
        settled = w.settled ∙ stands.settled;
        least = w.least ∙ stands.least;
        most = w.most ∙ ap (λ (n : ℕ). max n (at + length asked)) stands.most ∙ ap (max s.most) (sym end-is);
        unsynced = new_loose;
        no_shorter = omega (arith, stands.no_shorter, long);
        no_longer = omega (arith, stands.no_longer, long, low, end-is);
        settled_no_shorter = stands.settled_no_shorter;
        settled_no_longer = omega (arith, stands.settled_no_longer);
        cut = omega (arith, stands.cut, w.cut, long);
        settled_cut = omega (arith, stands.settled_cut, w.cut);
        same = new_same;
        room = omega (arith, stands.room, w.room, w.old_room, end-is);
        settled_room = omega (arith, stands.settled_room, w.settled_room, w.old_settled_room, end-is);
      }
