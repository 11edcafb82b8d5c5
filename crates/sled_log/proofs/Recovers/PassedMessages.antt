-- What a pass meets of a history: its messages in their order, but those whose blob is missing.
use Rattle.std.proofs.Common.{⊎_elim, ◌≡◌, ◌∙◌, ◌+◌, ◌<◌, ◌≤◌, ℕ, ℤ, pos, Bool, true, false, nat_lt, is_some, if◌then◌else◌, List, [], ◌∷◌, ◌++◌, map, Option, Some, None, refl, sym, ap, subst, arith, inl, inr}
use Rattle.std.specs.List.{Contains}
use Rattle.std.proofs.lemmas.Bool.{cases_lt}
use Rattle.std.proofs.lemmas.Bool.Decides.{nat_tests}
use Rattle.sled_codec.specs.declared.result.DiskPtr.{DiskPtr}
use Rattle.sled_codec.specs.declared.result.DiskPtr.TheVariants.{Blob}
use Rattle.sled_codec.specs.declared.serialization.message.LogKind.{LogKind}
use Rattle.sled_codec.specs.declared.serialization.message.MessageKind.{MessageKind}
use Rattle.sled_codec.specs.Kinds.{log_kind_of}
use Rattle.sled_codec.specs.History.{Message, History}
use Rattle.sled_core.specs.declared.iterator.scan.ScannedRecord.{ScannedRecord}
use Rattle.sled_core.specs.declared.iterator.scan.RecordContent.{RecordContent}
use Rattle.sled_core.specs.declared.iterator.scan.RecordContent.TheVariants.{Gives, NamesBlob, Skipped, BatchStart}
use Rattle.sled_core.specs.inside.Recoverable.{HasItem, NamesBlobOf, MeetsMessage, IsOfHistory}
use Rattle.sled_store.proofs.Segments.Elements.{in_first, in_rest, in_cases, in_nothing, all_from_in}
use Rattle.sled_log.specs.Recovery.{Applied, applied, applied_of, given, resolved, with_blob}
use Rattle.sled_store.proofs.Histories.Ascending.{IsSublist, Ascends, later_above, one_at_place}
use Rattle.sled_core.proofs.Tail.Rows.{Stand, stand_in}
use Rattle.sled_core.proofs.Iterated.Given.{blob_kind_back}

-- Messages by place that are a history's are a sublist of it.
pub ascending_sublist : (xs ys : List Message) → Ascends xs → Ascends ys → ((m : Message) → Contains xs m → Contains ys m) → IsSublist xs ys
ascending_sublist [] ys up down there = tt
ascending_sublist (x ∷ xs) [] up down there = absurd (in_nothing x (there x (in_first x xs)))
ascending_sublist (x ∷ xs) (y ∷ ys) up down there = ⊎_elim
    (λ is. inl (
      sym is,
      ascending_sublist xs ys up.1 down.1 (λ m at. ⊎_elim
          (λ same. absurd (omega (arith, later_above x xs m up at, ap (λ (z : Message). z.place) (sym is ∙ same))))
          (λ rest. rest) (in_cases y m ys (there m (in_rest x m xs at)))),
    ))
    (λ later. inr (ascending_sublist (x ∷ xs) ys up down.1 (λ m at. ⊎_elim
    (λ same. absurd (behind m at (later_above y ys x down later) (ap (λ (z : Message). z.place) same)))
    (λ rest. rest) (in_cases y m ys (there m at)))))
    (in_cases y x ys (there x (in_first x xs)))
  where
    behind : (m : Message) → Contains (x ∷ xs) m → y.place < x.place → y.place ≡ m.place → ⊥
    behind m at above same = ⊎_elim
        (λ is. omega (arith, above, same, ap (λ (z : Message). z.place) is))
        (λ rest. omega (arith, above, same, later_above x xs m up rest))
        (in_cases x m xs at)

module _ (sum : List ℕ → ℕ) (size : ℕ) (log : List ℕ) (blobs : ℤ → Option (List ℕ)) (H : History) (ordered : Ascends H.messages) (low : ℕ) where
  -- These are the messages of the history that are met among records which lie between two places. All are there but those below a place and those whose blob is missing.
  pub record AreMet (from : ℕ) (ms : List ScannedRecord) (to : ℕ) (L : List Message) : Type 0 where
    pub is : given low (map (resolved blobs) ms) ≡ map applied L
    pub of : (m : Message) → Contains L m → Contains H.messages m × (low ≤ m.place) × (from ≤ m.place) × (m.place < to)
    pub ascends : Ascends L
    pub all : (x : ScannedRecord) (m : Message) → Contains ms x → Contains H.messages m → MeetsMessage x m → low ≤ m.place → HasItem sum blobs m m.pointer → Contains L m

  -- One record more.
  module _ (from : ℕ) (x : ScannedRecord) (ms : List ScannedRecord) (to : ℕ) (stand : Stand from (x ∷ ms) to) (L : List Message) (are : AreMet (x.place + x.len) ms to L) where
    -- with which nothing is applied
    passed_by : given low (map (resolved blobs) (x ∷ ms)) ≡ given low (map (resolved blobs) ms)
        → ((m : Message) → Contains H.messages m → MeetsMessage x m → low ≤ m.place → HasItem sum blobs m m.pointer → ⊥) → AreMet from (x ∷ ms) to L
    passed_by same none = record {
      is = same ∙ are.is;
      of = λ m there. let of = are.of m there in (of.0, of.1, omega (arith, of.2, stand.0, stand.1), of.3);
      ascends = are.ascends;
      all = λ y m there known meets above item. ⊎_elim
          (λ first. absurd (none m known (subst (λ (z : ScannedRecord). MeetsMessage z m) (sym first) meets) above item))
          (λ later. are.all y m later known meets above item)
          (in_cases x y ms there);
    }

    -- and one with a message
    taken : (m : Message) → Contains H.messages m → MeetsMessage x m → low ≤ x.place → applied_of (resolved blobs x) (with_blob blobs x.what) ≡ applied m ∷ [] → AreMet from (x ∷ ms) to (m ∷ L)
    taken m known meets above is =
        let place = meets.place in
        let bounds = stand_in from (x ∷ ms) to stand x (in_first x ms) in
        let not_below : nat_lt x.place low ≡ false = grind (arith, nat_tests, above) in
        record {
          is = ap (λ b. if b then given low (map (resolved blobs) ms) else applied_of (resolved blobs x) (with_blob blobs x.what) ++ given low (map (resolved blobs) ms)) not_below
              ∙ ap (λ (l : List Applied). l ++ given low (map (resolved blobs) ms)) is ∙ ap (λ (l : List Applied). applied m ∷ l) are.is;
          of = λ n there. ⊎_elim
              (λ same. subst (λ (z : Message). Contains H.messages z × (low ≤ z.place) × (from ≤ z.place) × (z.place < to)) same (known, omega (arith, above, place), omega (arith, bounds.0, place), omega (arith, bounds.1, bounds.2, place)))
              (λ later. let of = are.of n later in (of.0, of.1, omega (arith, of.2, stand.0, stand.1), of.3))
              (in_cases m n L there);
          ascends = (all_from_in (λ n. m.place < n.place) L (λ n there. let of = are.of n there in omega (arith, of.2, stand.1, place)), are.ascends);
          all = λ y n there also meets_n high item. ⊎_elim
              (λ first.
              let places : m.place ≡ n.place = sym place ∙ ap (λ (z : ScannedRecord). z.place) first ∙ meets_n.place in
              subst (Contains (m ∷ L)) (one_at_place H.messages m n ordered known also places) (in_first m L))
              (λ later. in_rest m n L (are.all y n later also meets_n high item))
              (in_cases x y ms there);
        }

  -- what is no message isn't taken for one
  no_message : (x : ScannedRecord) (what : RecordContent) → x.what ≡ what → (m : Message) → MeetsMessage x m → ((k : LogKind) (page : ℕ) (pointer : DiskPtr) → what ≡ Gives k page pointer → ⊥)
      → ((k : MessageKind) (page lid : ℕ) (place : ℤ) → what ≡ NamesBlob k page lid place → ⊥) → ⊥
  no_message x what is m meets not_given not_named = elim meets.what [
    | inl gives ↦ not_given m.kind m.page m.pointer (sym is ∙ gives)
    | inr names ↦ not_named names.0 m.page names.1 names.2 (sym is ∙ names.5)
  ]

  -- The messages among records of the history.
  pub messages_met : (from : ℕ) (ms : List ScannedRecord) (to : ℕ) → Stand from ms to → ((x : ScannedRecord) → Contains ms x → IsOfHistory sum size log H x) → (L : List Message) × AreMet from ms to L
  messages_met from [] to stand truth = (
    [],
    record {
      is = refl;
      of = λ m there. absurd (in_nothing m there);
      ascends = tt;
      all = λ x m there known meets above item. absurd (in_nothing x there);
    },
  )
  messages_met from (x ∷ ms) to stand truth = by (messages_met (x.place + x.len) ms to stand.2 (λ y there. truth y (in_rest x y ms there))) where
    none_given : x.place < low → given low (map (resolved blobs) (x ∷ ms)) ≡ given low (map (resolved blobs) ms)
    none_given below =
        let test : nat_lt x.place low ≡ true = grind (arith, nat_tests, below) in
        ap (λ b. if b then given low (map (resolved blobs) ms) else applied_of (resolved blobs x) (with_blob blobs x.what) ++ given low (map (resolved blobs) ms)) test

    nothing : low ≤ x.place → applied_of (resolved blobs x) (with_blob blobs x.what) ≡ [] → given low (map (resolved blobs) (x ∷ ms)) ≡ given low (map (resolved blobs) ms)
    nothing above none =
        let test : nat_lt x.place low ≡ false = grind (arith, nat_tests, above) in
        ap (λ b. if b then given low (map (resolved blobs) ms) else applied_of (resolved blobs x) (with_blob blobs x.what) ++ given low (map (resolved blobs) ms)) test
        ∙ ap (λ (l : List Applied). l ++ given low (map (resolved blobs) ms)) none

    Out : Type 0
    Out = (L : List Message) × AreMet from (x ∷ ms) to L

    what_applied : (what : RecordContent) → x.what ≡ what → applied_of (resolved blobs x) (with_blob blobs x.what) ≡ applied_of (resolved blobs x) (with_blob blobs what)
    what_applied what is = ap (λ w. applied_of (resolved blobs x) (with_blob blobs w)) is

    -- a message with its item
    given_one : (m : Message) → MeetsMessage x m → x.what ≡ Gives m.kind m.page m.pointer → applied_of (resolved blobs x) (with_blob blobs x.what) ≡ applied m ∷ []
    given_one m meets gives =
        let place = meets.place in
        let len = meets.len in
        what_applied (Gives m.kind m.page m.pointer) gives ∙ (λ i. record { kind = m.kind; page = m.page; entry = (pos (place i), m.pointer, len i) } ∷ [])

    -- a message with a blob
    named_one : (m : Message) → Contains H.messages m → MeetsMessage x m → NamesBlobOf x.what m → low ≤ x.place → (L : List Message) → AreMet (x.place + x.len) ms to L → Out
    named_one m known meets (k, lid, place, pointer, written, what) above L are = by_blob (blobs place) refl where
      there : (b : Bool) → is_some (blobs place) ≡ b → applied_of (resolved blobs x) (with_blob blobs x.what) ≡ applied_of (resolved blobs x) (if b then Gives (log_kind_of k) m.page (Blob lid place) else Skipped)
      there b is = what_applied (NamesBlob k m.page lid place) what ∙ ap (λ t. applied_of (resolved blobs x) (if t then Gives (log_kind_of k) m.page (Blob lid place) else Skipped)) is

      by_blob : (o : Option (List ℕ)) → blobs place ≡ o → Out
      by_blob None is = (
        L,
        passed_by from x ms to stand L are (nothing above (there false (ap is_some is))) (λ n also meets_n high item.
            let places : m.place ≡ n.place = sym meets.place ∙ meets_n.place in
            let same : m ≡ n = one_at_place H.messages m n ordered known also places in
            let has = subst (HasItem sum blobs m) pointer (subst (λ (z : Message). HasItem sum blobs z z.pointer) (sym same) item) in
            let both : None ≡ Some has.file = sym is ∙ has.there in
            cc),
      )
      by_blob (Some file) is =
          let at = meets.place in
          let len = meets.len in
          let kinds : log_kind_of k ≡ m.kind = blob_kind_back m.kind m.page k written in
          (m ∷ L, taken from x ms to stand L are m known meets above (there true (ap is_some is) ∙ (λ i. record { kind = kinds i; page = m.page; entry = (pos (at i), sym pointer i, len i) } ∷ [])))

    by_truth : IsOfHistory sum size log H x → low ≤ x.place → (L : List Message) → AreMet (x.place + x.len) ms to L → Out
    by_truth (inl (m, known, meets, stands, alone, apart)) above L are = elim meets.what [
      | inl gives ↦ (m ∷ L, taken from x ms to stand L are m known meets above (given_one m meets gives))
      | inr names ↦ named_one m known meets names above L are
    ]
    by_truth (inr (inl (b, known, place, what, alone, apart))) above L are =
        (L, passed_by from x ms to stand L are (nothing above (what_applied (BatchStart (pos b.peg)) what)) (λ m also meets high item. no_message x (BatchStart (pos b.peg)) what m meets (λ k page pointer is. cc) (λ k page lid at is. cc)))
    by_truth (inr (inr (what, alone, apart))) above L are =
        (L, passed_by from x ms to stand L are (nothing above (what_applied Skipped what)) (λ m also meets high item. no_message x Skipped what m meets (λ k page pointer is. cc) (λ k page lid at is. cc)))

    by : ((L : List Message) × AreMet (x.place + x.len) ms to L) → Out
    by (L, are) = elim (cases_lt x.place low) [
      | inl below ↦ (L, passed_by from x ms to stand L are (none_given below) (λ m also meets high item. let place = meets.place in absurd (omega (arith, below, place, high))))
      | inr above ↦ by_truth (truth x (in_first x ms)) above L are
    ]
