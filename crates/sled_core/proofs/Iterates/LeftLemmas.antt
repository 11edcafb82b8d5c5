-- What is left for an iterator, step by step: a record has its turn, a segment is read, nothing is left.
use Rattle.std.proofs.Common.{◌≡◌, ◌⊎◌, ◌+◌, ◌≤◌, ◌<◌, ◌++◌, nat_lt, if◌then◌else◌, ℕ, ℤ, Bool, true, false, List, [], ◌∷◌, length, get_or, drop, Option, Some, None, arith, refl, sym, subst, inl, inr, ◌∙◌}
use Rattle.std.specs.Bool.{MatchBool}
use Rattle.std.specs.List.{Contains}
use Rattle.std.proofs.lemmas.List.{drop_all, drop_more}
use Rattle.std.proofs.lemmas.List.Elements.{Contains-get_or}
use Rattle.sled_codec.specs.declared.result.DiskPtr.{DiskPtr}
use Rattle.sled_codec.specs.declared.result.Error.TheVariants.{Corruption}
use Rattle.sled_store.specs.declared.config.Config.{Config}
use Rattle.sled_store.specs.declared.config.RunningConfig.{RunningConfig}
use Rattle.sled_store.specs.Device.{Trace, state_of}
use Rattle.sled_core.specs.declared.iterator.Segment.{Segment}
use Rattle.sled_core.specs.declared.iterator.scan.ScannedRecord.{ScannedRecord}
use Rattle.sled_core.specs.declared.iterator.scan.ScanEnd.{ScanEnd}
use Rattle.sled_core.specs.declared.iterator.scan.ScanEnd.TheVariants.{Full, Capped, Broken}
use Rattle.sled_core.specs.Keeps.{OnlyReads}
use Rattle.sled_core.specs.declared.iterator.rest.Rest.{Rest}
use Rattle.sled_core.specs.Replayed.{IsReplayed, HasBadBlob, NamesBlobOf, with_blob, IsDamagedBefore}
use Rattle.sled_core.specs.Tail.{Scanned, open_at}
use Rattle.sled_core.specs.Iterates.{Item, Damage, EndsAt, IsNamed, SaysDamage, items_of, stops, GivesOf, GivesBehind, IsMissing, IsIteration}
use Rattle.sled_core.specs.inside.Ahead.{IsGiven, IsLeft, IsSpent, LeftBehind, reads_behind}
use Rattle.sled_core.proofs.Iterates.Named.{named_so}
use Rattle.sled_core.proofs.Iterates.OneReplay.{gives_as}
use Rattle.sled_core.proofs.Iterates.TurnLemmas.{none_so}

-- what ends at a damaged record is left where that is kept: it comes behind them where it lies below the end, and else nothing does
ends_kept : (end place : ℕ) (b : Bool) → b ≡ nat_lt place end → (on : List Item → Damage → Type 0) → ((items : List Item) (damage : Damage) → (items ≡ []) × (damage ≡ None) → on items damage)
    → (items : List Item) (damage : Damage) → EndsAt end place items damage → LeftBehind b on items damage
ends_kept end place b same on none items damage ends = subst (λ (x : Bool). LeftBehind x on items damage) (sym same) (by (nat_lt place end) ends) where
  by : (x : Bool) → (items ≡ []) × (damage ≡ (if x then Some None else None)) → LeftBehind x on items damage
  by true at = at
  by false at = none items damage at

module _ {D C : Type 0} (trace : D → Trace) (sum : List ℕ → ℕ) (config : RunningConfig D C) where
  abbrev log : List ℕ
  log = (state_of (trace config.device)).log.bytes

  abbrev blobs : ℤ → Option (List ℕ)
  blobs = (state_of (trace config.device)).blobs.file

  abbrev size : ℕ
  size = config.config.segment_size

  -- the segments that are left lie in the file, but for those of a strict iterator
  pub left_inside : (r : Rest) (items : List Item) (damage : Damage) → IsLeft trace sum config r items damage → r.strict ≡ false → (x : Segment) → Contains r.segments.items x → x.slot ≤ length log
  unfolding IsLeft
  left_inside r items damage left = left.0

  -- what comes behind the records that were read
  abbrev Behind : Rest → Bool → List Item → Damage → Type 0
  Behind r b = LeftBehind b (IsIteration sum size log blobs r.end r.strict (drop r.read r.segments.items))

  -- where all records were given, this is left
  module _ (r : Rest) (given : length r.met.items ≤ r.given) (items : List Item) (damage : Damage) where
    given_left : (r.strict ≡ false → (x : Segment) → Contains r.segments.items x → x.slot ≤ length log) → Behind r r.damaged items damage → IsLeft trace sum config r items damage
    unfolding IsLeft
    given_left inside on = (
      inside,
      subst (λ (ms : List ScannedRecord). GivesOf sum blobs r.end ms (Behind r r.damaged) items damage) (sym (drop_all r.given r.met.items given)) on,
    )

    left_given : IsLeft trace sum config r items damage → Behind r r.damaged items damage
    unfolding IsLeft
    left_given left = subst (λ (ms : List ScannedRecord). GivesOf sum blobs r.end ms (Behind r r.damaged) items damage) (drop_all r.given r.met.items given) left.1

    -- a damaged record stands there
    pub left_damaged : r.damaged ≡ true → IsLeft trace sum config r items damage → SaysDamage (Corruption None) items damage
    left_damaged is left = subst (λ (b : Bool). Behind r b items damage) is (left_given left)

  -- Nothing is left.
  pub left_spent : (r : Rest) (items : List Item) (damage : Damage) → (r.strict ≡ false → (x : Segment) → Contains r.segments.items x → x.slot ≤ length log) → IsSpent r → items ≡ [] → damage ≡ None → IsLeft trace sum config r items damage
  left_spent r items damage inside spent none fine =
      given_left r spent.1.0 items damage inside
      (subst (λ (b : Bool). Behind r b items damage) (sym spent.1.1)
      (subst (λ (ss : List Segment). IsIteration sum size log blobs r.end r.strict ss items damage) (sym (drop_all r.read r.segments.items spent.0)) (none, fine)))

  -- so it is where all was passed over at the end of the messages
  pub left_finished : (r : Rest) (items : List Item) (damage : Damage) → IsLeft trace sum config r items damage → (q : Rest) → q ≡ record r { read = length r.segments.items; given = length r.met.items; damaged = false } → items ≡ [] → damage ≡ None → IsLeft trace sum config q items damage
  left_finished r items damage left q is none fine =
      let end : Rest = record r { read = length r.segments.items; given = length r.met.items; damaged = false } in
      subst (λ (x : Rest). IsLeft trace sum config x items damage) (sym is) (left_spent end items damage (left_inside r items damage left) (omega arith, (omega arith, refl)) none fine)

  -- and then no message comes
  pub spent_ends : (r : Rest) (items : List Item) (damage : Damage) → IsSpent r → IsLeft trace sum config r items damage → (items ≡ []) × (damage ≡ None)
  spent_ends r items damage spent left =
      subst (λ (ss : List Segment). IsIteration sum size log blobs r.end r.strict ss items damage) (drop_all r.read r.segments.items spent.0)
      (subst (λ (b : Bool). Behind r b items damage) spent.1.1 (left_given r spent.1.0 items damage left))

  -- A record has its turn.
  module _ (r : Rest) (here : ScannedRecord) (lt : r.given < length r.met.items) (at : here ≡ get_or r.met.items r.given here) (items : List Item) (damage : Damage) (left : IsLeft trace sum config r items damage) where
    abbrev On : List Item → Damage → Type 0
    On = Behind r r.damaged

    abbrev Rests : Type 0
    Rests = (HasBadBlob sum blobs here.what × (items ≡ []) × IsNamed (NamesBlobOf sum blobs here.what) damage)
        ⊎ ((HasBadBlob sum blobs here.what → ⊥) × ((rest : List Item) × (items ≡ items_of here (with_blob blobs here.what) ++ rest) × GivesOf sum blobs r.end (drop (r.given + 1) r.met.items) On rest damage))

    by_turn : MatchBool (stops r.end here) ((items ≡ []) × (damage ≡ None)) Rests
    unfolding IsLeft
    by_turn =
        subst (λ (m : ScannedRecord). GivesOf sum blobs r.end (m ∷ drop (r.given + 1) r.met.items) On items damage) (sym at)
        (subst (λ (ms : List ScannedRecord). GivesOf sum blobs r.end ms On items damage) (drop_more r.met.items r.given here lt) left.1)

    -- it ends the messages
    pub turn_ends : stops r.end here ≡ true → (items ≡ []) × (damage ≡ None)
    turn_ends is = subst (λ (b : Bool). MatchBool b ((items ≡ []) × (damage ≡ None)) Rests) is by_turn

    module _ (is : stops r.end here ≡ false) where
      turn_rests : Rests
      turn_rests = subst (λ (b : Bool). MatchBool b ((items ≡ []) × (damage ≡ None)) Rests) is by_turn

      -- its blob doesn't pass for it, and that is the damage
      pub turn_bad : (name : Option DiskPtr) → HasBadBlob sum blobs here.what → NamesBlobOf sum blobs here.what name → SaysDamage (Corruption name) items damage
      turn_bad name bad names = elim turn_rests [ inl broken ↦ (broken.1, named_so sum blobs here.what damage name broken.2 names) | inr good ↦ absurd (good.0 bad) ]

      -- or it is a message, or is passed over
      pub turn_given : (HasBadBlob sum blobs here.what → ⊥) → (rest : List Item) × (items ≡ items_of here (with_blob blobs here.what) ++ rest) × IsLeft trace sum config (record r { given = r.given + 1 }) rest damage
      unfolding IsLeft
      turn_given fine = elim turn_rests [ inl broken ↦ absurd (fine broken.0) | inr good ↦ (good.1.0, good.1.1, (left.0, good.1.2)) ]

  -- A segment is read.
  module _ (r : Rest) (next : Segment) (lt : r.read < length r.segments.items) (here : next ≡ get_or r.segments.items r.read next) (done : IsGiven r) (items : List Item) (damage : Damage) (left : IsLeft trace sum config r items damage) where
    abbrev Next : List Item → Damage → Type 0
    Next = IsIteration sum size log blobs r.end r.strict (drop (r.read + 1) r.segments.items)

    pub next_inside : r.strict ≡ false → next.slot ≤ length log
    next_inside file = left_inside r items damage left file next (subst (Contains r.segments.items) (sym here) (Contains-get_or r.segments.items r.read next lt))

    abbrev Read : Type 0
    Read = ((d : IsDamagedBefore sum size log r.end next) → GivesOf sum blobs r.end d.met (EndsAt r.end (next.place + d.next)) items damage)
        × ((x : Scanned) → x.segment ≡ next → IsReplayed sum size log r.end x
        → GivesOf sum blobs r.end x.met (GivesBehind r.strict x.why Next) items damage)

    by_segment : (IsMissing r.strict sum log next × (items ≡ []) × (damage ≡ None)) ⊎ ((IsMissing r.strict sum log next → ⊥) × Read)
    by_segment =
        subst (λ (s : Segment). IsIteration sum size log blobs r.end r.strict (s ∷ drop (r.read + 1) r.segments.items) items damage) (sym here)
        (subst (λ (ss : List Segment). IsIteration sum size log blobs r.end r.strict ss items damage) (drop_more r.segments.items r.read next lt)
        (subst (λ (b : Bool). Behind r b items damage) done.1 (left_given r done.0 items damage left)))

    -- its header is missing
    pub segment_missing : IsMissing r.strict sum log next → (items ≡ []) × (damage ≡ None)
    segment_missing gone = elim by_segment [ inl none ↦ (none.1, none.2) | inr there ↦ absurd (there.0 gone) ]

    module _ (there : IsMissing r.strict sum log next → ⊥) where
      is_read : Read
      is_read = elim by_segment [ inl none ↦ absurd (there none.0) | inr on ↦ on.1 ]

      -- a damaged record is met: what lies ahead of it is kept, and nothing is read behind it
      pub segment_damaged : (d : IsDamagedBefore sum size log r.end next) (q : Rest) → q.strict ≡ r.strict → q.segments ≡ r.segments → q.read ≡ length r.segments.items
          → q.met.items ≡ d.met → q.given ≡ 0 → q.end ≡ r.end → q.damaged ≡ nat_lt (next.place + d.next) r.end → IsLeft trace sum config q items damage
      unfolding IsLeft
      segment_damaged d q strict segments all met given end damaged =
          let Ends : ℕ → List Item → Damage → Type 0 = λ n. EndsAt r.end (next.place + n) in
          let On : List Item → Damage → Type 0 = IsIteration sum size log blobs q.end q.strict (drop q.read q.segments.items) in
          let none_left : drop q.read q.segments.items ≡ [] =
          subst (λ v. drop q.read v.items ≡ []) (sym segments) (drop_all q.read r.segments.items (omega (arith, all))) in
          let ends = ends_kept r.end (next.place + d.next) q.damaged damaged On
          (λ is e at. subst (λ (ss : List Segment). IsIteration sum size log blobs q.end q.strict ss is e) (sym none_left) at) in
          let gives = gives_as sum size log r.end next.slot next.place blobs (Ends d.next) (LeftBehind q.damaged On) d.met
          (none_so (open_at r.end d.met) ((is : List Item) (e : Damage) → Ends d.next is e → LeftBehind q.damaged On is e) ends) items damage
          (is_read.0 d) in (
            λ file y there_too. left_inside r items damage left (sym strict ∙ file) y (subst (λ v. Contains v.items y) segments there_too),
            subst (λ n. GivesOf sum blobs n (drop q.given q.met.items) (LeftBehind q.damaged On) items damage) (sym end)
                (subst (λ n. GivesOf sum blobs r.end (drop n q.met.items) (LeftBehind q.damaged On) items damage) (sym given)
                (subst (λ (ms : List ScannedRecord). GivesOf sum blobs r.end ms (LeftBehind q.damaged On) items damage) (sym met) gives)),
          )

      -- what is given behind a segment is what is left once it counts as read
      behind_read : (why : ScanEnd) (is : List Item) (d : Damage) → GivesBehind r.strict why Next is d → IsIteration sum size log blobs r.end r.strict (drop (reads_behind r.strict why (r.read + 1) (length r.segments.items)) r.segments.items) is d
      behind_read why is d = by r.strict why where
        all : drop (length r.segments.items) r.segments.items ≡ []
        all = drop_all (length r.segments.items) r.segments.items (omega arith)

        by : (b : Bool) (w : ScanEnd) → GivesBehind b w Next is d → IsIteration sum size log blobs r.end r.strict (drop (reads_behind b w (r.read + 1) (length r.segments.items)) r.segments.items) is d
        by true Broken ends = subst (λ (ss : List Segment). IsIteration sum size log blobs r.end r.strict ss is d) (sym all) ends
        by true Full on = on
        by true Capped on = on
        by false w on = on

      -- or it is read, and kept
      pub segment_kept : (x : Scanned) → x.segment ≡ next → IsReplayed sum size log r.end x → (q : Rest) → q.strict ≡ r.strict → q.segments ≡ r.segments → q.read ≡ reads_behind r.strict x.why (r.read + 1) (length r.segments.items)
          → q.met.items ≡ x.met → q.given ≡ 0 → q.end ≡ r.end → q.damaged ≡ false → IsLeft trace sum config q items damage
      unfolding IsLeft
      segment_kept x at read q strict segments next_one met given end undamaged =
          let To : ℕ → List Item → Damage → Type 0 = λ n. IsIteration sum size log blobs r.end r.strict (drop n r.segments.items) in
          let gives = gives_as sum size log r.end x.segment.slot x.segment.place blobs (GivesBehind r.strict x.why Next)
          (To (reads_behind r.strict x.why (r.read + 1) (length r.segments.items))) x.met
          (none_so (open_at r.end x.met) ((is : List Item) (e : Damage) → GivesBehind r.strict x.why Next is e
          → To (reads_behind r.strict x.why (r.read + 1) (length r.segments.items)) is e) (λ is d on. behind_read x.why is d on))
          items damage (is_read.1 x at read) in (
            λ file y there_too. left_inside r items damage left (sym strict ∙ file) y (subst (λ v. Contains v.items y) segments there_too),
            subst (λ (b : Bool). GivesOf sum blobs q.end (drop q.given q.met.items) (LeftBehind b (IsIteration sum size log blobs q.end q.strict (drop q.read q.segments.items))) items damage) (sym undamaged)
                (subst (λ n. GivesOf sum blobs n (drop q.given q.met.items) (IsIteration sum size log blobs n q.strict (drop q.read q.segments.items)) items damage) (sym end)
                (subst (λ (b : Bool). GivesOf sum blobs r.end (drop q.given q.met.items) (IsIteration sum size log blobs r.end b (drop q.read q.segments.items)) items damage) (sym strict)
                (subst (λ n. GivesOf sum blobs r.end (drop n q.met.items) (IsIteration sum size log blobs r.end r.strict (drop q.read q.segments.items)) items damage) (sym given)
                (subst (λ (ms : List ScannedRecord). GivesOf sum blobs r.end ms (IsIteration sum size log blobs r.end r.strict (drop q.read q.segments.items)) items damage) (sym met)
                (subst (λ n. GivesOf sum blobs r.end x.met (IsIteration sum size log blobs r.end r.strict (drop n q.segments.items)) items damage) (sym next_one)
                (subst (λ v. GivesOf sum blobs r.end x.met (IsIteration sum size log blobs r.end r.strict (drop (reads_behind r.strict x.why (r.read + 1) (length r.segments.items)) v.items)) items damage) (sym segments) gives)))))),
          )

-- What is left is left where the device was only read.
pub left_still : {D C : Type 0} (trace : D → Trace) (sum : List ℕ → ℕ) (old new : RunningConfig D C) (r : Rest) (items : List Item) (damage : Damage) → OnlyReads trace old new → IsLeft trace sum old r items damage → IsLeft trace sum new r items damage
unfolding IsLeft
left_still trace sum old new r items damage reads left =
    let At : Config → Trace → Type 0 = λ cfg t.
    (r.strict ≡ false → (x : Segment) → Contains r.segments.items x → x.slot ≤ length (state_of t).log.bytes)
    × GivesOf sum (state_of t).blobs.file r.end (drop r.given r.met.items)
    (LeftBehind r.damaged (IsIteration sum cfg.segment_size (state_of t).log.bytes (state_of t).blobs.file r.end r.strict (drop r.read r.segments.items))) items damage in
    subst (λ cfg. At cfg (trace new.device)) (sym reads.config) (subst (At old.config) (sym reads.unwritten) left)
