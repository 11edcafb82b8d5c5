-- A mark joins: segments one behind another hold and fit what they did, where no mark is above what is written of the first one, nor its segment above that.
use Rattle.std.proofs.Common.{◌≡◌, ◌⊎◌, ◌*◌, ◌/◌, ◌%◌, ◌+◌, ◌≤◌, ◌<ℤ◌, ◌≤ℤ◌, ℕ, ℤ, pos, negsuc, Bool, true, false, if◌then◌else◌, List, [], ◌∷◌, map, Option, None, Some, refl, sym, ap, subst, arith, inl, inr}
use Rattle.std.specs.Prelude.{int_lt}
use Rattle.std.specs.declared.io.Error.{Error as IoError}
use Rattle.std.proofs.lemmas.Bool.{cases_lt}
use Rattle.std.proofs.lemmas.Int.{ints}
use Rattle.sled_codec.specs.History.{History, Message}
use Rattle.sled_store.specs.Device.{State, Trace}
use Rattle.sled_store.specs.SegmentStates.{Machine}
use Rattle.sled_store.proofs.Histories.Ascending.{Ascends}
use Rattle.sled_store.proofs.Histories.EarlierEntries.{entry_earlier}
use Rattle.sled_store.proofs.Segments.TableEntries.{from_table}
use Rattle.sled_core.specs.Begun.{SegmentView}
use Rattle.sled_core.specs.HeaderMark.{greater_mark}
use Rattle.sled_core.specs.LogSegments.{begins_from}
use Rattle.sled_core.specs.NoForeign.{NoHeaderOfZeros}
use Rattle.sled_core.specs.declared.logger.joined_marks.JoinedMarks.{JoinedMarks}
use Rattle.sled_core.specs.inside.Begun.{first_place}
use Rattle.sled_core.specs.inside.Fits.{HoldsLine, parts_in, written_to}
use Rattle.sled_core.specs.inside.Numbers.{HaveSlots}
use Rattle.sled_core.specs.inside.Running.{FitsLine}
use Rattle.sled_core.proofs.Holds.HoldsRaised.{fits_raised, holds_raised}
use Rattle.sled_core.proofs.Line.Segments.{AreSegments, written_within}
use Rattle.sled_core.proofs.Tail.MarkPlaces.{begins_lower}
use Rattle.sled_core.proofs.Tail.Multiples.{apart, put_down}
use Rattle.sled_core.specs.Account.{Account, account_of}
use Rattle.sled_core.specs.Fits.{synced_end}
use Rattle.sled_core.specs.declared.logger.Log.{Log}
use Rattle.sled_core.specs.inside.Marked.{JoinsBelow}
use Rattle.sled_core.specs.invariants.Fits.{Holds}

-- A mark isn't above what is written of the first segment, nor is its own segment above that one.
pub record IsMarkLow (size : ℕ) (line : List SegmentView) (mark : ℤ) : Type 0 where
  pub written : mark ≤ℤ pos (written_to line)
  pub begins : begins_from size mark ≤ first_place line

-- What is written of the first segment ends in it.
pub written_short : (size place : ℕ) (line : List SegmentView) → AreSegments size place line → written_to line ≤ first_place line + size
written_short size place [] are = omega arith
written_short size place (v ∷ vs) are =
    let up = written_within size place v are.0 in
    let begins = are.0.begins in
    let short = are.0.short in
    omega (arith, up, begins, short)

-- It is so where it lies below what is written.
pub low_under : (size : ℕ) → 256 ≤ size → (place : ℕ) (line : List SegmentView) → AreSegments size place line → first_place line % size ≡ 0 → written_to line ≤ first_place line + size
    → (mark : ℤ) → mark <ℤ pos (written_to line) → IsMarkLow size line mark
low_under size big place line are aligned ends (negsuc n) under = record { written = omega (arith, ints, under); begins = omega arith }
low_under size big place line are aligned ends (pos n) under = record {
  written = omega (arith, ints, under);
  begins = (
      let parts = put_down size n in
      elim (cases_lt (first_place line) (n / size * size)) [
        | inl over ↦ (let far = apart size (omega (arith, big)) (first_place line) (n / size * size) aligned parts.1 over in absurd (omega (arith, ints, far, parts.0, under, ends)))
        | inr le ↦ le
      ]);
}

-- What is so with each of two is so with the greater one.
pub greater_has : (P : ℤ → Type 0) (o : Option ℤ) (durable : ℤ) → P durable → ((mark : ℤ) → o ≡ Some mark → P mark) → P (greater_mark o durable)
greater_has P None durable has others = has
greater_has P (Some mark) durable has others = by (int_lt durable mark) where
  by : (b : Bool) → P (if b then mark else durable)
  by true = others mark refl
  by false = has

-- It isn't below the other one: so where it joins the mark that joined isn't lower than that before.
pub greater_above : (o : Option ℤ) (durable : ℤ) → durable ≤ℤ greater_mark o durable
greater_above None durable = omega (arith, ints)
greater_above (Some mark) durable = by (int_lt durable mark) refl where
  by : (b : Bool) → int_lt durable mark ≡ b → durable ≤ℤ (if b then mark else durable)
  by true is = grind (arith, ints, is)
  by false is = omega (arith, ints)

pub joined_up : (pinned : Bool) (o : Option ℤ) (old now : JoinedMarks) → now.joined ≡ (if pinned then old.joined else greater_mark o old.durable)
    → old.joined ≤ℤ now.joined
joined_up true o old now is = omega (arith, ints, is)
joined_up false o old now is = let up = greater_above o old.durable in let ordered = old.ordered in omega (arith, ints, is, up, ordered)

-- It is the greatest one, or that which joined before.
pub joined_as : (pinned : Bool) (now old greatest : ℤ) → now ≡ (if pinned then old else greatest) → (now ≡ old) ⊎ (now ≡ greatest)
joined_as true now old greatest is = inl is
joined_as false now old greatest is = inr is

-- A mark is low where more is written and the first segment is a later one.
pub low_further : (size : ℕ) (line later : List SegmentView) → written_to line ≤ written_to later → first_place line ≤ first_place later → (mark : ℤ)
    → IsMarkLow size line mark → IsMarkLow size later mark
low_further size line later more up mark low = record {
  written = (let written = low.written in omega (arith, ints, written, more));
  begins = (let begins = low.begins in omega (arith, begins, up));
}

module _ (sum : List ℕ → ℕ) (size : ℕ) (big : 256 ≤ size) (marks now : JoinedMarks) (up : marks.joined ≤ℤ now.joined) (place : ℕ) where
  pub holds_joined : (device : State) (fault : Option IoError) (line : List SegmentView) → AreSegments size place line → IsMarkLow size line now.durable → (H : History)
      → HoldsLine sum marks size device fault line H → HoldsLine sum now size device fault line H
  holds_joined device fault [] are low H holds = absurd holds
  holds_joined device fault (v ∷ vs) are low H holds =
      holds_raised sum size v.parts.site device fault v.parts.bytes v.parts.written_len v.parts.sealed v.parts.reserved (map parts_in vs) big are.0.short marks now
      up low.written low.begins H holds

  pub fits_joined : (device : State) (fault : Option IoError) (line : List SegmentView) → AreSegments size place line → IsMarkLow size line now.durable
      → (reach pins : ℕ) (H : History) (A f : ℕ) (U : List Message)
      → FitsLine sum marks size device fault line reach pins H A f U → FitsLine sum now size device fault line reach pins H A f U
  fits_joined device fault [] are low reach pins H A f U fits = absurd fits
  fits_joined device fault (v ∷ vs) are low reach pins H A f U fits =
      fits_raised sum size v.parts.site device fault v.parts.bytes v.parts.written_len v.parts.sealed v.parts.reserved (map parts_in vs) big are.0.short marks now
      up low.written low.begins reach pins H A f U fits

-- The marks of a log are low.
pub marks_low : (sum : List ℕ → ℕ) (marks : JoinedMarks) (size : ℕ) (device : State) (fault : Option IoError) (line : List SegmentView) (H : History)
    → HoldsLine sum marks size device fault line H → IsMarkLow size line marks.durable
marks_low sum marks size device fault [] H holds = absurd holds
marks_low sum marks size device fault (v ∷ vs) H holds = record { written = holds.begun.written; begins = holds.begun.marked }

-- So the segment of the mark that joined begins no higher than the first one.
pub marks_base : (sum : List ℕ → ℕ) (marks : JoinedMarks) (size : ℕ) → 256 ≤ size → (device : State) (fault : Option IoError) (line : List SegmentView) (H : History)
    → HoldsLine sum marks size device fault line H → begins_from size marks.joined ≤ first_place line
marks_base sum marks size big device fault line H holds =
    let low = (marks_low sum marks size device fault line H holds).begins in
    let up = begins_lower size big marks.joined marks.durable marks.ordered in
    omega (arith, low, up)

-- What a table needs from a higher place on is in the slots.
pub slots_raised : (sum : List ℕ → ℕ) (size base A : ℕ) (H : History) → Ascends H.messages → (m : Machine) → HaveSlots sum size base H A m
    → (higher B : ℕ) → base ≤ higher → (NoHeaderOfZeros sum → higher ≤ B) → HaveSlots sum size higher H B m
slots_raised sum size base A H order m has higher B le low = record {
  later = λ e there above. has.later e there (omega (arith, le, above));
  older = λ page e entry.
      let from = from_table H higher page e entry in
      elim (cases_lt e.place base) [
        | inl under ↦ has.older page e (entry_earlier H order base higher page le e under entry)
        | inr above ↦ has.later e from.0 above
      ];
  not_above = low;
}

-- So the mark that joined isn't above what is synced.
pub mark_synced : {D C : Type 0} (trace : D → Trace) (sum : List ℕ → ℕ) (log : Log D C) (H : History) → Holds trace sum log H
    → (account_of log).mark ≤ℤ pos (synced_end log)
unfolding Holds
mark_synced trace sum log H holds =
    let durable = holds.shows.holds.begun.written in
    let ordered = log.marks.ordered in
    omega (arith, ints, durable, ordered)

-- That stays where no mark joins,
pub joins_same : {D C : Type 0} (trace : D → Trace) (sum : List ℕ → ℕ) (old new : Log D C) → account_of new ≡ account_of old → JoinsBelow trace sum old new
joins_same trace sum old new same H holds =
    let is = ap (λ (a : Account). a.mark) same in
    let low = mark_synced trace sum old H holds in
    subst (λ z. z ≤ℤ pos (synced_end old)) (sym is) low

-- and where one joins behind a call that leaves what is synced.
pub joins_further : {D C : Type 0} (trace : D → Trace) (sum : List ℕ → ℕ) (old mid new : Log D C) → ((H : History) → Holds trace sum old H → Holds trace sum mid H)
    → synced_end mid ≡ synced_end old → JoinsBelow trace sum mid new → JoinsBelow trace sum old new
joins_further trace sum old mid new keeps same joins H holds = subst (λ n. (account_of new).mark ≤ℤ pos n) same (joins H (keeps H holds))
