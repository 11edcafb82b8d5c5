-- What an iterator gives of the records of one segment: the messages of the history below its end, but for those whose blob is missing.
use Rattle.std.proofs.Common.{⊎_elim, ◌≡◌, ◌∙◌, ◌⊎◌, ◌+◌, ◌<◌, ◌≤◌, ◌==◌, ◌||◌, nat_le, ℕ, ℤ, pos, Bool, true, false, is_some, if◌then◌else◌, List, [], ◌∷◌, ◌++◌, map, Option, Some, None, refl, sym, ap, subst, arith, inl, inr}
use Rattle.std.specs.Bool.{MatchBool}
use Rattle.std.specs.List.{Contains}
use Rattle.std.proofs.lemmas.Bool.{cases_lt}
use Rattle.std.proofs.lemmas.Bool.Decides.{nat_tests}
use Rattle.sled_codec.specs.declared.result.DiskPtr.{DiskPtr}
use Rattle.sled_codec.specs.declared.result.DiskPtr.TheVariants.{Blob}
use Rattle.sled_codec.specs.declared.serialization.message.LogKind.{LogKind}
use Rattle.sled_codec.specs.declared.serialization.message.LogKind.TheVariants as does
use Rattle.sled_codec.specs.declared.serialization.message.MessageKind.{MessageKind}
use Rattle.sled_codec.specs.declared.serialization.message.MessageKind.TheVariants as kind
use Rattle.sled_codec.specs.Kinds.{kind_written, log_kind_of}
use Rattle.sled_codec.specs.History.{Message, Batch, History}
use Rattle.sled_store.proofs.Histories.Ascending.{Ascends, one_at_place}
use Rattle.sled_store.proofs.Segments.Elements.{in_first, in_rest, in_cases, in_nothing, all_from_in}
use Rattle.sled_core.specs.declared.iterator.scan.ScannedRecord.{ScannedRecord}
use Rattle.sled_core.specs.declared.iterator.scan.RecordContent.{RecordContent}
use Rattle.sled_core.specs.declared.iterator.scan.RecordContent.TheVariants.{Gives, NamesBlob, Skipped, BatchStart}
use Rattle.sled_core.specs.Iterates.{Item, Damage, items_of, stops, GivesOf}
use Rattle.sled_core.specs.OnFile.{HasBlobThere, item_of}
use Rattle.sled_core.specs.inside.Recoverable.{MeetsMessage, NamesBlobOf, IsOfHistory, PassesIfThere}
use Rattle.sled_core.specs.Replayed.{HasBadBlob, with_blob}
use Rattle.sled_core.specs.Scan.{IsMet, Says}
use Rattle.sled_core.specs.Tail.{opens}
use Rattle.sled_core.proofs.Read.PathLemmas.{back_if}
use Rattle.sled_core.proofs.Tail.OfHistory.{opened_of}
use Rattle.sled_core.proofs.Tail.Rows.{Stand, stand_in}

-- the kind of a message with a blob says what it does
pub blob_kind_back : (does_it : LogKind) (page : ℕ) (k : MessageKind) → kind_written does_it page true ≡ Some k → log_kind_of k ≡ does_it
blob_kind_back does.Replace page k is = back_if (page == 1) (page == 0) _ _ _ k does.Replace refl refl refl is
blob_kind_back does.Link page k is = let same : kind.BlobLink ≡ k = cc in sym (ap log_kind_of same)
blob_kind_back does.Free page k is = cc
blob_kind_back does.Skip page k is = cc
blob_kind_back does.Corrupted page k is = cc

-- a record that gives a message names no blob
abbrev pub GivesInline : (ℤ → Option (List ℕ)) → ScannedRecord → Type 0
GivesInline blobs x = (k : LogKind) (page : ℕ) (pointer : DiskPtr) → x.what ≡ Gives k page pointer → HasBlobThere blobs pointer

-- since a record that is met gives the item that stands in it
pub met_inline : (sum : List ℕ → ℕ) (size : ℕ) (log : List ℕ) (blobs : ℤ → Option (List ℕ)) (lid number : ℕ) (x : ScannedRecord) → IsMet sum size log lid number x → GivesInline blobs x
unfolding IsMet
met_inline sum size log blobs lid number x (h, body, stands, says) k page pointer is =
    let says_so = subst (Says h body lid) is says in
    subst (HasBlobThere blobs) (sym says_so.3) tt

-- what is no message isn't taken for one
no_message : (x : ScannedRecord) (what : RecordContent) → x.what ≡ what → (m : Message) → MeetsMessage x m → ((k : LogKind) (page : ℕ) (pointer : DiskPtr) → what ≡ Gives k page pointer → ⊥)
    → ((k : MessageKind) (page lid : ℕ) (place : ℤ) → what ≡ NamesBlob k page lid place → ⊥) → ⊥
no_message x what is m meets not_given not_named = elim meets.what [
  | inl gives ↦ not_given m.kind m.page m.pointer (sym is ∙ gives)
  | inr names ↦ not_named names.0 m.page names.1 names.2 (sym is ∙ names.5)
]

-- no damage is met
abbrev undamaged : Damage
undamaged = None

-- Given is what this gives, behind which that is given.
module _ (sum : List ℕ → ℕ) (size : ℕ) (log : List ℕ) (blobs : ℤ → Option (List ℕ)) (H : History) (ordered : Ascends H.messages) (good : (n : Message) → Contains H.messages n → PassesIfThere sum blobs n n.pointer)
    (end : ℕ) (closed : (b : Batch) → Contains H.batches b → b.low < end → b.peg < end) (on : List Item → Damage → Type 0) (rest : List Item) (goes : on rest None) (to : ℕ) (last : end < to → rest ≡ []) where
  -- These are the messages of the history that are given of records which lie from one place up to another: all that are met below the end, but for those whose blob is missing.
  pub record AreGiven (from : ℕ) (ms : List ScannedRecord) (L : List Message) : Type 0 where
    pub of : (m : Message) → Contains L m → Contains H.messages m × (from ≤ m.place) × (m.place < to) × (m.place < end) × HasBlobThere blobs m.pointer
    pub ascends : Ascends L
    pub all : (x : ScannedRecord) (m : Message) → Contains ms x → Contains H.messages m → MeetsMessage x m → m.place < end → HasBlobThere blobs m.pointer → Contains L m
    pub gives : GivesOf sum blobs end ms on (map item_of L ++ rest) None

  -- a record of the history
  abbrev IsKnown : ScannedRecord → Type 0
  IsKnown x = IsOfHistory sum size log H x × GivesInline blobs x

  -- no blob is there that doesn't pass for the record that names it
  none_bad : (x : ScannedRecord) → IsOfHistory sum size log H x → HasBadBlob sum blobs x.what → ⊥
  none_bad x (inl (m, there, meets, stands, alone, apart)) bad = elim meets.what [
    | inl gives ↦ subst (HasBadBlob sum blobs) gives bad
    | inr names ↦ subst (PassesIfThere sum blobs m) names.3 (good m there) names.0 names.4 (subst (HasBadBlob sum blobs) names.5 bad)
  ]
  none_bad x (inr (inl (b, there, place, what, alone, apart))) bad = subst (HasBadBlob sum blobs) what bad
  none_bad x (inr (inr (what, alone, apart))) bad = subst (HasBadBlob sum blobs) what bad

  -- before the end no batch begins that is open
  not_open : (x : ScannedRecord) → IsOfHistory sum size log H x → x.place < end → opens end x.what ≡ false
  not_open x truth under = by (opens end x.what) refl where
    by : (b : Bool) → opens end x.what ≡ b → opens end x.what ≡ false
    by false is = is
    by true is =
        let o = opened_of sum size log H end x truth is in
        let ends = closed o.0 o.1 (omega (arith, under, o.2)) in
        absurd (omega (arith, ends, o.3))

  -- what is given of a record that doesn't stop an iterator, and of those behind it
  abbrev Passed : ScannedRecord → List ScannedRecord → List Item → Type 0
  Passed x ms items =
      (HasBadBlob sum blobs x.what × (items ≡ []) × ⊥)
      ⊎ ((HasBadBlob sum blobs x.what → ⊥) × ((others : List Item) × (items ≡ items_of x (with_blob blobs x.what) ++ others) × GivesOf sum blobs end ms on others None))

  -- One record more.
  module _ (from : ℕ) (x : ScannedRecord) (ms : List ScannedRecord) (stand : Stand from (x ∷ ms) to) (known : IsKnown x) where
    -- at the end or behind it
    stopped : end ≤ x.place → AreGiven from (x ∷ ms) []
    stopped over =
        let first = stand_in from (x ∷ ms) to stand x (in_first x ms) in
        let test : nat_le end x.place ≡ true = grind (arith, nat_tests, over) in
        let stops_here : stops end x ≡ true = ap (λ b. b || opens end x.what) test in
        record {
          of = λ m there. absurd (in_nothing m there);
          ascends = tt;
          all = λ y m there also meets under blob.
              let bounds = stand_in x.place (x ∷ ms) to (omega arith, stand.1, stand.2) y there in
              let place = meets.place in
              absurd (omega (arith, over, bounds.0, place, under));
          gives = subst (λ b. MatchBool b ((rest ≡ []) × (undamaged ≡ undamaged)) (Passed x ms rest)) (sym stops_here) (last (omega (arith, over, first.1, first.2)), refl);
        }

    module _ (under : x.place < end) (L : List Message) (are : AreGiven (x.place + x.len) ms L) where
      -- this is given of it and of those behind it
      on_given : (items : List Item) → Passed x ms items → GivesOf sum blobs end (x ∷ ms) on items None
      on_given items passed =
          let test : nat_le end x.place ≡ false = grind (arith, nat_tests, under) in
          let goes_on : stops end x ≡ false = ap (λ b. b || opens end x.what) test ∙ not_open x known.0 under in
          subst (λ b. MatchBool b ((items ≡ []) × (undamaged ≡ undamaged)) (Passed x ms items)) (sym goes_on) passed

      -- with which nothing is given
      passed_by : items_of x (with_blob blobs x.what) ≡ [] → ((m : Message) → Contains H.messages m → MeetsMessage x m → HasBlobThere blobs m.pointer → ⊥) → AreGiven from (x ∷ ms) L
      passed_by nothing none = record {
        of = λ m there. let of = are.of m there in (of.0, omega (arith, of.1, stand.0, stand.1), of.2, of.3, of.4);
        ascends = are.ascends;
        all = λ y m there also meets below blob. ⊎_elim
            (λ first. absurd (none m also (subst (λ (z : ScannedRecord). MeetsMessage z m) (sym first) meets) blob))
            (λ later. are.all y m later also meets below blob)
            (in_cases x y ms there);
        gives = on_given (map item_of L ++ rest) (inr (none_bad x known.0, (map item_of L ++ rest, ap (λ (l : List Item). l ++ (map item_of L ++ rest)) (sym nothing), are.gives)));
      }

      -- and one with a message
      taken : (m : Message) → Contains H.messages m → MeetsMessage x m → HasBlobThere blobs m.pointer → items_of x (with_blob blobs x.what) ≡ item_of m ∷ [] → AreGiven from (x ∷ ms) (m ∷ L)
      taken m there meets blob is =
          let place = meets.place in
          let bounds = stand_in from (x ∷ ms) to stand x (in_first x ms) in
          record {
            of = λ n at. ⊎_elim
                (λ same. subst (λ (z : Message). Contains H.messages z × (from ≤ z.place) × (z.place < to) × (z.place < end) × HasBlobThere blobs z.pointer) same
                (there, omega (arith, bounds.0, place), omega (arith, bounds.1, bounds.2, place), omega (arith, under, place), blob))
                (λ later. let of = are.of n later in (of.0, omega (arith, of.1, stand.0, stand.1), of.2, of.3, of.4))
                (in_cases m n L at);
            ascends = (all_from_in (λ n. m.place < n.place) L (λ n at. let of = are.of n at in omega (arith, of.1, stand.1, place)), are.ascends);
            all = λ y n at also meets_n below has. ⊎_elim
                (λ first.
                let places : m.place ≡ n.place = sym place ∙ ap (λ (z : ScannedRecord). z.place) first ∙ meets_n.place in
                subst (Contains (m ∷ L)) (one_at_place H.messages m n ordered there also places) (in_first m L))
                (λ later. in_rest m n L (are.all y n later also meets_n below has))
                (in_cases x y ms at);
            gives = on_given (item_of m ∷ (map item_of L ++ rest)) (inr (none_bad x known.0, (map item_of L ++ rest, ap (λ (l : List Item). l ++ (map item_of L ++ rest)) (sym is), are.gives)));
          }

      -- the messages that are given of it and of those behind it
      Out : Type 0
      Out = (L : List Message) × AreGiven from (x ∷ ms) L

      -- what is given of a record is given of what it is
      what_given : (what : RecordContent) → x.what ≡ what → items_of x (with_blob blobs x.what) ≡ items_of x (with_blob blobs what)
      what_given what is = ap (λ w. items_of x (with_blob blobs w)) is

      -- a message with its item
      given_one : (m : Message) → MeetsMessage x m → x.what ≡ Gives m.kind m.page m.pointer → items_of x (with_blob blobs x.what) ≡ item_of m ∷ []
      given_one m meets gives =
          let place = meets.place in
          let len = meets.len in
          what_given (Gives m.kind m.page m.pointer) gives ∙ (λ i. (m.kind, m.page, pos (place i), m.pointer, len i) ∷ [])

      -- a message with a blob
      named_one : (m : Message) → Contains H.messages m → MeetsMessage x m → NamesBlobOf x.what m → Out
      unfolding Out
      named_one m there meets (k, lid, place, pointer, written, what) = by_blob (is_some (blobs place)) refl where
        with_test : (b : Bool) → is_some (blobs place) ≡ b → items_of x (with_blob blobs x.what) ≡ items_of x (if b then Gives (log_kind_of k) m.page (Blob lid place) else Skipped)
        with_test b is = what_given (NamesBlob k m.page lid place) what ∙ ap (λ t. items_of x (if t then Gives (log_kind_of k) m.page (Blob lid place) else Skipped)) is

        by_blob : (b : Bool) → is_some (blobs place) ≡ b → (L : List Message) × AreGiven from (x ∷ ms) L
        by_blob false is = (
          L,
          passed_by (with_test false is) (λ n also meets_n blob.
              let places : m.place ≡ n.place = sym meets.place ∙ meets_n.place in
              let same : m ≡ n = one_at_place H.messages m n ordered there also places in
              let has : HasBlobThere blobs (Blob lid place) = subst (HasBlobThere blobs) pointer (subst (λ (z : Message). HasBlobThere blobs z.pointer) (sym same) blob) in
              let both : false ≡ true = sym is ∙ has in
              cc),
        )
        by_blob true is =
            let at = meets.place in
            let len = meets.len in
            let kinds : log_kind_of k ≡ m.kind = blob_kind_back m.kind m.page k written in
            (m ∷ L, taken m there meets (subst (HasBlobThere blobs) (sym pointer) is) (with_test true is ∙ (λ i. (kinds i, m.page, pos (at i), sym pointer i, len i) ∷ [])))

      -- of a record of the history
      by_truth : IsOfHistory sum size log H x → Out
      unfolding Out
      by_truth (inl (m, there, meets, stands, alone, apart)) = elim meets.what [
        | inl gives ↦ (m ∷ L, taken m there meets (known.1 m.kind m.page m.pointer gives) (given_one m meets gives))
        | inr names ↦ named_one m there meets names
      ]
      by_truth (inr (inl (b, there, place, what, alone, apart))) =
          (L, passed_by (what_given (BatchStart (pos b.peg)) what) (λ m also meets blob. no_message x (BatchStart (pos b.peg)) what m meets (λ k page pointer is. cc) (λ k page lid at is. cc)))
      by_truth (inr (inr (what, alone, apart))) = (L, passed_by (what_given Skipped what) (λ m also meets blob. no_message x Skipped what m meets (λ k page pointer is. cc) (λ k page lid at is. cc)))

  -- The messages among records of the history.
  pub messages_given : (from : ℕ) (ms : List ScannedRecord) → Stand from ms to → ((x : ScannedRecord) → Contains ms x → IsOfHistory sum size log H x × GivesInline blobs x) → (L : List Message) × AreGiven from ms L
  unfolding Out
  messages_given from [] stand known = ([], record { of = λ m there. absurd (in_nothing m there); ascends = tt; all = λ x m there also meets under blob. absurd (in_nothing x there); gives = goes })
  messages_given from (x ∷ ms) stand known = elim (cases_lt x.place end) [
    | inl under ↦ (
        let later = messages_given (x.place + x.len) ms stand.2 (λ y there. known y (in_rest x y ms there)) in
        by_truth from x ms stand (known x (in_first x ms)) under later.0 later.1 (known x (in_first x ms)).0)
    | inr over ↦ ([], stopped from x ms stand (known x (in_first x ms)) over)
  ]
