-- A pass over the segments of a log file stops in the same place with segments that are gone among them: no batch is open in one, and each is followed by
-- one that isn't gone.
use Rattle.std.proofs.Common.{◌≡◌, ◌⊎◌, ◌∙◌, ◌<◌, ◌≤◌, ℕ, Bool, false, if◌then◌else◌, List, [], ◌∷◌, Option, Some, None, refl, ap, subst, arith, inl, inr}
use Rattle.std.specs.List.{Contains}
use Rattle.sled_codec.specs.Snapshots.{SnapshotModel}
use Rattle.sled_store.proofs.Segments.Elements.{in_cases, in_first, in_nothing, in_rest}
use Rattle.sled_core.specs.declared.iterator.scan.ScannedRecord.{ScannedRecord}
use Rattle.sled_core.specs.inside.Recoverable.{cut_over}
use Rattle.sled_core.specs.Tail.{cut_of, stops_in, Scanned, open_at, opens}
use Rattle.sled_core.proofs.Tail.Rows.{IsRow}

-- Where no beginning of a batch that is open is met, none is open.
pub none_opens : (end : ℕ) (ms : List ScannedRecord) → ((x : ScannedRecord) → Contains ms x → opens end x.what ≡ false) → open_at end ms ≡ None
none_opens end [] closed = refl
none_opens end (m ∷ ms) closed =
    ap (λ (b : Bool). if b then Some m.place else open_at end ms) (closed m (in_first m ms)) ∙ none_opens end ms (λ x there. closed x (in_rest m x ms there))

-- The cut of a pass.
module _ (sum : List ℕ → ℕ) (size : ℕ) (some : 256 ≤ size) (shown left : List ℕ) (first : SnapshotModel) (end : ℕ) where
  -- a segment over which a pass goes on to another one: no batch is open in it
  abbrev pub IsPassed : List Scanned → Scanned → Type 0
  IsPassed ys x = (open_at end x.met ≡ None) × (y : Scanned) × Contains ys y × (x.segment.place < y.segment.place)

  -- all of some segments are among others, and each other one is passed
  abbrev pub Has : List Scanned → List Scanned → Type 0
  Has xs ys = (y : Scanned) → Contains ys y → Contains xs y

  abbrev pub HasOrPasses : List Scanned → List Scanned → Type 0
  HasOrPasses xs ys = (x : Scanned) → Contains xs x → Contains ys x ⊎ IsPassed ys x

  goes_on : (x y : Scanned) (xs : List Scanned) → open_at end x.met ≡ None → Contains xs y → cut_over size first end (x ∷ xs) ≡ cut_over size first end xs
  goes_on x y [] closed there = absurd (in_nothing y there)
  goes_on x y (t ∷ ts) closed there = ap (λ (o : Option ℕ). cut_of size (stops_in end x o (t ∷ ts))) closed

  pub same_over : (xs ys : List Scanned) → IsRow sum size left some xs → IsRow sum size shown some ys → Has xs ys → HasOrPasses xs ys
      → cut_over size first end xs ≡ cut_over size first end ys
  same_over [] [] row rises has each = refl
  same_over [] (y ∷ ys) row rises has each = absurd (in_nothing y (has y (in_first y ys)))
  same_over (x ∷ xs) [] row rises has each = elim (each x (in_first x xs)) [
    | inl none ↦ absurd (in_nothing x none)
    | inr passed ↦ absurd (in_nothing passed.1 passed.2)
  ]
  same_over (x ∷ xs) (y ∷ ys) row rises has each = elim (in_cases x y xs (has y (in_first y ys))) [
    | inl same ↦ heads same (same_over xs ys)
    | inr later ↦ passes later (same_over xs (y ∷ ys))
  ] where
    below_x : (t : Scanned) → Contains xs t → x.segment.place < t.segment.place
    below_x t there = let far = row.1 t there in omega (arith, far, some)

    below_y : (t : Scanned) → Contains ys t → y.segment.place < t.segment.place
    below_y t there = let far = rises.1 t there in omega (arith, far, some)

    -- from one that is the other's first, or lies behind it, all that isn't below
    in_rest_of : (t : Scanned) → Contains (x ∷ xs) t → x.segment.place < t.segment.place → Contains xs t
    in_rest_of t there above = elim (in_cases x t xs there) [
      | inl is ↦ absurd (omega (arith, above, ap (λ (z : Scanned). z.segment.place) is))
      | inr later ↦ later
    ]

    -- The first one is passed.
    passes : Contains xs y → (IsRow sum size left some xs → IsRow sum size shown some (y ∷ ys) → Has xs (y ∷ ys) → HasOrPasses xs (y ∷ ys)
        → cut_over size first end xs ≡ cut_over size first end (y ∷ ys)) → cut_over size first end (x ∷ xs) ≡ cut_over size first end (y ∷ ys)
    passes later rest = elim (each x (in_first x xs)) [
      | inl had ↦ absurd (let up = below_x y later in elim (in_cases y x ys had) [
        | inl is ↦ omega (arith, up, ap (λ (z : Scanned). z.segment.place) is)
        | inr behind ↦ (let above = below_y x behind in omega (arith, up, above))
      ])
      | inr passed ↦ goes_on x y xs passed.0 later ∙ rest row.2 rises rests (λ t there. each t (in_rest x t xs there))
    ] where
      rests : Has xs (y ∷ ys)
      rests t there = elim (in_cases y t ys there) [
        | inl is ↦ subst (Contains xs) is later
        | inr behind ↦ (let up = below_x y later in let above = below_y t behind in in_rest_of t (has t (in_rest y t ys behind)) (omega (arith, up, above)))
      ]

    -- Both begin with the same one.
    heads : x ≡ y → (IsRow sum size left some xs → IsRow sum size shown some ys → Has xs ys → HasOrPasses xs ys
        → cut_over size first end xs ≡ cut_over size first end ys) → cut_over size first end (x ∷ xs) ≡ cut_over size first end (y ∷ ys)
    heads same rest = from (open_at end x.met) xs ys rests others (rest row.2 rises.2 rests others) ∙ ap (λ (z : Scanned). cut_over size first end (z ∷ ys)) same where
      at : x.segment.place ≡ y.segment.place
      at = ap (λ (z : Scanned). z.segment.place) same

      rests : Has xs ys
      rests t there = let above = below_y t there in in_rest_of t (has t (in_rest y t ys there)) (omega (arith, above, at))

      others : HasOrPasses xs ys
      others t there = let up = below_x t there in elim (each t (in_rest x t xs there)) [
        | inl had ↦ elim (in_cases y t ys had) [
          | inl is ↦ absurd (omega (arith, up, at, ap (λ (z : Scanned). z.segment.place) is))
          | inr behind ↦ inl behind
        ]
        | inr passed ↦ elim (in_cases y passed.1 ys passed.2) [
          | inl is ↦ absurd (omega (arith, up, at, passed.3, ap (λ (z : Scanned). z.segment.place) is))
          | inr behind ↦ inr (passed.0, passed.1, behind, passed.3)
        ]
      ]

      from : (o : Option ℕ) (ts us : List Scanned) → Has ts us → HasOrPasses ts us → cut_over size first end ts ≡ cut_over size first end us
          → cut_of size (stops_in end x o ts) ≡ cut_of size (stops_in end x o us)
      from (Some place) ts us has each rest = refl
      from None [] [] has each rest = refl
      from None [] (u ∷ us) has each rest = absurd (in_nothing u (has u (in_first u us)))
      from None (t ∷ ts) [] has each rest = elim (each t (in_first t ts)) [
        | inl none ↦ absurd (in_nothing t none)
        | inr passed ↦ absurd (in_nothing passed.1 passed.2)
      ]
      from None (t ∷ ts) (u ∷ us) has each rest = rest
