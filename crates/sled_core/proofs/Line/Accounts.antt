-- The account of what is marked of a history, as a message is completed or marked, a batch is noted, and a slot is handed out.
use Rattle.std.proofs.Common.{if◌then◌else◌, ⊎_elim, ◌≡◌, ◌≢◌, ◌∙◌, ◌||◌, ◌==◌, ◌<◌, ℕ, ℤ, Bool, true, false, not, List, [], ◌∷◌, ◌++◌, filter, Option, refl, sym, ap, subst, arith, eq-eqb, inl, ◌≤◌, inr}
use Rattle.std.specs.List.{Contains}
use Rattle.std.proofs.lemmas.Bool.{eqb-true}
use Rattle.std.proofs.lemmas.Bool.Decides.{eqb_tells}
use Rattle.std.proofs.lemmas.List.Elements.{filter-append}
use Rattle.sled_codec.specs.History.{AddsMessage, ChangesPage, History, Message, begins_page}
use Rattle.sled_store.specs.Marks.{Completes, IsFormerList, IsNewPlace, info_of}
use Rattle.sled_store.specs.Outdated.{AreOutdated, NoneShares}
use Rattle.sled_store.specs.SegmentStates.{Machine, MayMark, SlotState, handed_out, linked, replaced, slot_at}
use Rattle.sled_store.specs.Tracked.{IsNoEntry, IsTracked}
use Rattle.sled_store.specs.declared.segment.slot.CacheInfo.{CacheInfo}
use Rattle.sled_store.specs.inside.Outdated.{AreInActive, IsInActive, NamesNoOutdated}
use Rattle.sled_store.proofs.Histories.Ascending.{Ascends, filter_ascends, from_filter, in_first, in_rest, later_above}
use Rattle.sled_store.proofs.Histories.TableParts.{earlier_below, split_at}
use Rattle.sled_store.proofs.Marks.AccountSteps.{handed_out_account, linked_account, replaced_account, same_account}
use Rattle.sled_store.proofs.Marks.DeactivationSteps.{any_in}
use Rattle.sled_store.proofs.Marks.MarkSteps.{SameSegments, linked_same, next_free, same_segment}
use Rattle.sled_store.proofs.Marks.OutdatedSteps.{KeepsBlobs, blobs_same, completed_outdated, former_there, handed_blobs, linked_blobs, outdated_kept, outdated_still, replaced_outdated}
use Rattle.sled_store.proofs.Marks.SameSlots.{replaced_segments}
use Rattle.sled_store.proofs.Marks.UnmarkedSteps.{in_active_handed, in_active_more, in_active_same}
use Rattle.sled_core.specs.Marking.{TakesMark, but_for}
use Rattle.sled_core.specs.Unmarked.{is_among, without}
use Rattle.sled_core.specs.declared.logger.joined_marks.JoinedMarks.{JoinedMarks}
use Rattle.sled_core.specs.inside.LogSegments.{held_since}
use Rattle.sled_core.specs.inside.Slots.{HasAccount}
use Rattle.sled_store.proofs.Marks.MarkedLemmas.{more_tracks}

-- Lists.

-- tests that agree on all of a list keep the same of it
pub filter_alike : {X : Type 0} (p q : X → Bool) (xs : List X) → ((x : X) → Contains xs x → p x ≡ q x) → filter p xs ≡ filter q xs
filter_alike p q [] alike = refl
filter_alike p q (x ∷ xs) alike =
    let rest = filter_alike p q xs (λ y found. alike y (in_rest x y xs found)) in
    ap (λ (b : Bool). if b then x ∷ filter p xs else filter p xs) (alike x (in_first x xs)) ∙ ap (λ (l : List _). if q x then x ∷ l else l) rest

-- a message that follows another lies above it
later_below : (before : List Message) (m : Message) (after : List Message) (x : Message) → Ascends (before ++ m ∷ after) → Contains after x → m.place < x.place
later_below [] m after x order there = later_above m after x order there
later_below (y ∷ before) m after x order there = later_below before m after x order.1 there

-- numbers that differ are found to
apart_places : (a b : ℕ) → a ≢ b → (a == b) ≡ false
apart_places a b apart = ⊎_elim (λ same. absurd (apart same.1)) (λ other. other.0) (eqb_tells a b)

-- Unmarked messages.

-- none of them lies at a place once that one is left out
none_left : (place : ℕ) (U : List Message) → is_among (but_for place U) place ≡ false
none_left place [] = refl
none_left place (u ∷ U) = by (u.place == place) refl (none_left place U) where
  by : (b : Bool) → (u.place == place) ≡ b → is_among (but_for place U) place ≡ false
      → is_among (if not b then u ∷ but_for place U else but_for place U) place ≡ false
  by true same rest = rest
  by false other rest = ap (λ (b : Bool). b || is_among (but_for place U) place) other ∙ rest

-- at other places they are the same
others_left : (place at : ℕ) → at ≢ place → (U : List Message) → is_among (but_for place U) at ≡ is_among U at
others_left place at other [] = refl
others_left place at other (u ∷ U) = by (u.place == place) refl (others_left place at other U) where
  by : (b : Bool) → (u.place == place) ≡ b → is_among (but_for place U) at ≡ is_among U at
      → is_among (if not b then u ∷ but_for place U else but_for place U) at ≡ ((u.place == at) || is_among U at)
  by false apart rest = ap (λ (b : Bool). (u.place == at) || b) rest
  by true same rest =
      let is : u.place ≡ place = eqb-true u.place place same in
      let differs : (u.place == at) ≡ false = apart_places u.place at (λ e. other (sym e ∙ is)) in
      rest ∙ ap (λ (b : Bool). b || is_among U at) (sym differs)

module _ (H : History) (x : Message) where
  -- A message that is completed isn't marked yet: what is marked is the same.
  completed_same : (H' : History) (U : List Message) → AddsMessage H x H' → (without (x ∷ U) H').messages ≡ (without U H).messages
  completed_same H' U adds =
      let p : Message → Bool = λ m. not (is_among (x ∷ U) m.place) in
      let q : Message → Bool = λ m. not (is_among U m.place) in
      let out : p x ≡ false = ap (λ (b : Bool). not (b || is_among U x.place)) (eq-eqb x.place x.place refl) in
      let other : (y : Message) → y.place ≢ x.place → p y ≡ q y =
      λ y apart. ap (λ (b : Bool). not (b || is_among U y.place)) (apart_places x.place y.place (λ e. apart (sym e))) in
      ap (filter p) adds.new
      ∙ filter-append p adds.before (x ∷ adds.after)
      ∙ ap (λ (b : Bool). filter p adds.before ++ (if b then x ∷ filter p adds.after else filter p adds.after)) out
      ∙ ap (λ (l : List Message). l ++ filter p adds.after)
      (filter_alike p q adds.before (λ y found. other y (let low = adds.lower y found in λ e. absurd (omega (arith, low, e)))))
      ∙ ap (λ (l : List Message). filter q adds.before ++ l)
      (filter_alike p q adds.after (λ y found. other y (let high = adds.higher y found in λ e. absurd (omega (arith, high, e)))))
      ∙ sym (filter-append q adds.before adds.after)
      ∙ ap (filter q) (sym adds.old)

  -- One that is marked comes to those that are.
  completes_marked : (U V : List Message) → Ascends H.messages → TakesMark H U x V → ChangesPage x.kind → Completes (without U H) x (without V H)
  completes_marked U V order takes changes = record { adds = adds; newest = takes.newest } where
    p : Message → Bool
    p m = not (is_among U m.place)

    q : Message → Bool
    q m = not (is_among V m.place)

    front : List Message
    front = (split_at H.messages x takes.there).0

    back : List Message
    back = (split_at H.messages x takes.there).1

    split : H.messages ≡ front ++ x ∷ back
    split = (split_at H.messages x takes.there).2

    ordered : Ascends (front ++ x ∷ back)
    ordered = subst Ascends split order

    lower : (y : Message) → Contains front y → y.place < x.place
    lower y found = earlier_below front x back y ordered found

    higher : (y : Message) → Contains back y → x.place < y.place
    higher y found = later_below front x back y ordered found

    out : p x ≡ false
    out = ap not (any_in (λ (u : Message). u.place == x.place) U x takes.due (eq-eqb x.place x.place refl))

    kept : q x ≡ true
    kept = ap (λ (l : List Message). not (is_among l x.place)) takes.left ∙ ap not (none_left x.place U)

    alike : (y : Message) → y.place ≢ x.place → q y ≡ p y
    alike y apart = ap (λ (l : List Message). not (is_among l y.place)) takes.left ∙ ap not (others_left x.place y.place apart U)

    adds : AddsMessage (without U H) x (without V H)
    adds = record {
      changes = changes;
      before = filter p front;
      after = filter p back;
      old = ap (filter p) split ∙ filter-append p front (x ∷ back) ∙ ap (λ (b : Bool). filter p front ++ (if b then x ∷ filter p back else filter p back)) out;
      new = ap (filter q) split
          ∙ filter-append q front (x ∷ back)
          ∙ ap (λ (b : Bool). filter q front ++ (if b then x ∷ filter q back else filter q back)) kept
          ∙ ap (λ (l : List Message). l ++ x ∷ filter q back)
          (filter_alike q p front (λ y found. alike y (let low = lower y found in λ e. absurd (omega (arith, low, e)))))
          ∙ ap (λ (l : List Message). filter p front ++ x ∷ l)
          (filter_alike q p back (λ y found. alike y (let high = higher y found in λ e. absurd (omega (arith, high, e)))));
      lower = λ y found. lower y (from_filter p front y found).0;
      higher = λ y found. higher y (from_filter p back y found).0;
      batches = refl;
    }

-- Accounts.

module _ (sum : List ℕ → ℕ) (size : ℕ) (snapshots : ℤ → Option (List ℕ)) (H : History) (U : List Message) (m : Machine) {marks : JoinedMarks}
    (has : HasAccount sum marks size snapshots H U m) where
  abbrev base : ℕ
  base = held_since size marks has.first

  -- the account is that of the same messages
  same_marked : (G : History) (V : List Message) → (without V G).messages ≡ (without U H).messages → AreOutdated size G m → AreInActive size m V
      → HasAccount sum marks size snapshots G V m
  same_marked G V same outdated unmarked = record {
    first = has.first;
    begins = has.begins;
    account = same_account size base (without U H) m has.account (without V G) same;
    outdated = outdated;
    unmarked = unmarked;
  }

  -- Tables may count from a higher place.
  pub account_raised : (now : JoinedMarks) → base ≤ held_since size now has.first → HasAccount sum now size snapshots H U m
  account_raised now up = record {
    first = has.first;
    begins = has.begins;
    account = more_tracks size base (held_since size now has.first) (without U H) (without U H) (IsNoEntry (without U H) base)
        (IsNoEntry (without U H) (held_since size now has.first)) m has.account up (λ x there. there) (λ x there. inr there)
        (λ e there none cut le entry. none cut (omega (arith, up, le)) entry);
    outdated = has.outdated;
    unmarked = has.unmarked;
  }

  -- A message is completed that lies in an active segment, and names no blob that goes.
  pub account_completed : (H' : History) (x : Message) → AddsMessage H x H' → NamesNoOutdated m x → IsInActive size m x
      → HasAccount sum marks size snapshots H' (x ∷ U) m
  account_completed H' x adds none active =
      same_marked H' (x ∷ U) (completed_same H x H' U adds) (completed_outdated size H x H' m adds none has.outdated)
      (in_active_more size m x U active has.unmarked)

  pub account_noted : (H' : History) → H'.messages ≡ H.messages → HasAccount sum marks size snapshots H' U m
  account_noted H' same =
      same_marked H' U (ap (filter (λ (x : Message). not (is_among U x.place))) same)
      (outdated_kept size H H' m m has.outdated (blobs_same m.slots) (λ x there. subst (λ (ms : List Message). Contains ms x) (sym same) there)
      (λ x there. inl (subst (λ (ms : List Message). Contains ms x) same there))) has.unmarked

  pub account_handed : (place : ℕ) → IsNewPlace size place m → HasAccount sum marks size snapshots H U (handed_out place m)
  account_handed place new_place = record {
    first = has.first;
    begins = has.begins;
    account = handed_out_account size base (without U H) m has.account place new_place;
    outdated = outdated_still size H m (handed_out place m) has.outdated (handed_blobs m place);
    unmarked = in_active_handed size m place U (next_free size base (without U H) (IsNoEntry (without U H) base) m has.account) has.unmarked;
  }

  pub account_popped : (n : Machine) → n.slots ≡ m.slots → n.tip ≡ m.tip → HasAccount sum marks size snapshots H U n
  account_popped n slots tip = record {
    first = has.first;
    begins = has.begins;
    account = subst (λ (ss : List SlotState). IsTracked size base (without U H) (IsNoEntry (without U H) base) ss n.tip) (sym slots)
        (subst (λ (t : ℕ). IsTracked size base (without U H) (IsNoEntry (without U H) base) m.slots t) (sym tip) has.account);
    outdated = outdated_still size H m n has.outdated (subst (KeepsBlobs m.slots) (sym slots) (blobs_same m.slots));
    unmarked = in_active_same size m n U U (subst (SameSegments m.slots) (sym slots) (λ j. same_segment (slot_at m j))) (λ e there. there) has.unmarked;
  }

  module _ (some : 0 < size) (order : Ascends H.messages) (x : Message) (V : List Message) (takes : TakesMark H U x V)
      (may : MayMark size m (info_of x) []) where
    abbrev marked : ChangesPage x.kind → Completes (without U H) x (without V H)
    marked changes = completes_marked H x U V order takes changes

    ordered : Ascends (without U H).messages
    ordered = filter_ascends (λ (y : Message). not (is_among U y.place)) H.messages order

    -- those that are left unmarked weren't marked
    fewer : (e : Message) → Contains V e → Contains U e
    fewer e there = (from_filter (λ (u : Message). not (u.place == x.place)) U e (subst (λ (l : List Message). Contains l e) takes.left there)).0

    pub account_linked : ChangesPage x.kind → HasAccount sum marks size snapshots H V (linked size x.page (info_of x) m)
    account_linked changes = record {
      first = has.first;
      begins = has.begins;
      account = linked_account size base (without U H) m some ordered has.account x (without V H) (marked changes) may;
      outdated = outdated_still size H m (linked size x.page (info_of x) m) has.outdated (linked_blobs size x.page (info_of x) m);
      unmarked = in_active_same size m (linked size x.page (info_of x) m) U V (linked_same size m (info_of x) may.lies.taken x.page) fewer has.unmarked;
    }

    pub account_replaced : ChangesPage x.kind → (old : List CacheInfo) → MayMark size m (info_of x) old → begins_page x.kind ≡ true
        → IsFormerList (without U H) x.page old → NoneShares H x old
        → HasAccount sum marks size snapshots H V (replaced size x.page (info_of x) old m)
    account_replaced changes old may_old begins former none = record {
      first = has.first;
      begins = has.begins;
      account = replaced_account size base (without U H) m some ordered has.account x (without V H) (marked changes) may old begins former;
      outdated = replaced_outdated size H m order x takes.there begins old
          (former_there H (without U H) x.page old (λ e there. (from_filter (λ (y : Message). not (is_among U y.place)) H.messages e there).0) former) none
          may_old has.outdated;
      unmarked = in_active_same size m (replaced size x.page (info_of x) old m) U V (replaced_segments size x.page (info_of x) old m may_old) fewer
          has.unmarked;
    }
