-- What was placed behind a note of the past of a log file, and what stands whole there, follows from the note and from what was so before it.
use Rattle.std.proofs.Common.{◌≡◌, ◌↔◌, ◌⊎◌, ◌<◌, ◌+◌, ◌∙◌, ℕ, zero, suc, List, [], ◌∷◌, ◌++◌, length, get_or, take, refl, sym, ap, subst, arith, inl, inr, Vec}
use Rattle.std.specs.declared.alloc.Global.{Global}
use Rattle.std.specs.List.{Contains}
use Rattle.std.proofs.lemmas.List.Elements.{All-nil}
use Rattle.sled_codec.specs.Places.{part}
use Rattle.sled_oracle.specs.declared.foreign.LogNote.TheVariants.{Wrote, Settled}
use Rattle.sled_oracle.specs.declared.foreign.LogNote.{LogNote}
use Rattle.sled_store.specs.Device.{Placement}
use Rattle.sled_store.specs.Foreign.{Covers, IsWhole, HeaderWasPlaced, RecordWasPlaced}
use Rattle.sled_oracle.specs.OwnParts.{KnownPast, Lays, LaysRecord, noted, all_noted, nothing_known, log_of}
use Rattle.sled_store.proofs.Crashes.StoodLemmas.{StandsIn, header_settled, header_before, header_stands, record_settled, record_before, record_stands}
use Rattle.sled_store.proofs.Segments.FitLemmas.{take_one}
use Rattle.sled_store.proofs.Segments.Elements.{in_first}

-- an element is the first one, or one of the others
first_or_other : {X : Type 0} (x : X) (xs : List X) (y : X) → Contains (x ∷ xs) y → (x ≡ y) ⊎ Contains xs y
first_or_other x xs y (zero, below, is) = inl is
first_or_other x xs y (suc k, below, is) = inr (k, omega (arith, below), is)

in_others : {X : Type 0} (x : X) (xs : List X) (y : X) → Contains xs y → Contains (x ∷ xs) y
in_others x xs y (k, below, is) = (suc k, omega (arith, below), is)

in_none : {X : Type 0} (y : X) → Contains [] y → ⊥
in_none y (k, below, is) = absurd (omega (arith, below))

-- a write that was asked just now
abbrev just_asked : ℕ × List ℕ → Placement
just_asked w = record { at = w.0; bytes = w.1; since = [] }

module _ (k : KnownPast) (at : ℕ) (text : List ℕ) where
  -- Behind a write.
  module _ (w : ℕ × List ℕ) where
    pub whole_wrote : (IsWhole (log_of k) at text ⊎ Covers w at text) ↔ IsWhole (log_of (noted (Wrote w) k)) at text
    unfolding IsWhole
    whole_wrote = (there, back)
      where
        there : IsWhole (log_of k) at text ⊎ Covers w at text → IsWhole (log_of (noted (Wrote w) k)) at text
        there (inl (inl stood)) = inl stood
        there (inl (inr since)) = inr (since.0, in_others w k.asked since.0 since.1, since.2)
        there (inr covers) = inr (w, in_first w k.asked, covers)

        back : IsWhole (log_of (noted (Wrote w) k)) at text → IsWhole (log_of k) at text ⊎ Covers w at text
        back (inl stood) = inl (inl stood)
        back (inr since) = elim (first_or_other w k.asked since.0 since.1) [
          | inl here ↦ inr (subst (λ (v : ℕ × List ℕ). Covers v at text) (sym here) since.2)
          | inr before ↦ inl (inr (since.0, before, since.2))
        ]

    pub header_wrote : (HeaderWasPlaced k.placed at text ⊎ Lays w at text) ↔ HeaderWasPlaced (noted (Wrote w) k).placed at text
    unfolding HeaderWasPlaced
    header_wrote = (there, back)
      where
        there : HeaderWasPlaced k.placed at text ⊎ Lays w at text → HeaderWasPlaced (noted (Wrote w) k).placed at text
        there (inl laid) = (laid.0, in_others (just_asked w) k.placed laid.0 laid.1, laid.2, laid.3, laid.4)
        there (inr lays) = (just_asked w, in_first (just_asked w) k.placed, lays.0, lays.1, All-nil (StandsIn at text))

        back : HeaderWasPlaced (noted (Wrote w) k).placed at text → HeaderWasPlaced k.placed at text ⊎ Lays w at text
        back laid = elim (first_or_other (just_asked w) k.placed laid.0 laid.1) [
          | inl here ↦ inr (subst (λ (p : Placement). Lays (p.at, p.bytes) at text) (sym here) (laid.2, laid.3))
          | inr before ↦ inl (laid.0, before, laid.2, laid.3, laid.4)
        ]

    pub record_wrote : (sum : List ℕ → ℕ) (size number : ℕ) → (RecordWasPlaced sum size k.placed number at text ⊎ LaysRecord sum size w number at text) ↔ RecordWasPlaced sum size (noted (Wrote w) k).placed number at text
    unfolding RecordWasPlaced
    record_wrote sum size number = (there, back)
      where
        there : RecordWasPlaced sum size k.placed number at text ⊎ LaysRecord sum size w number at text → RecordWasPlaced sum size (noted (Wrote w) k).placed number at text
        there (inl laid) = (laid.0, in_others (just_asked w) k.placed laid.0 laid.1, laid.2, laid.3, laid.4)
        there (inr lays) = (just_asked w, in_first (just_asked w) k.placed, lays.0, lays.1, All-nil (StandsIn at text))

        back : RecordWasPlaced sum size (noted (Wrote w) k).placed number at text → RecordWasPlaced sum size k.placed number at text ⊎ LaysRecord sum size w number at text
        back laid = elim (first_or_other (just_asked w) k.placed laid.0 laid.1) [
          | inl here ↦ inr (subst (λ (p : Placement). LaysRecord sum size (p.at, p.bytes) number at text) (sym here) (laid.2, laid.3))
          | inr before ↦ inl (laid.0, before, laid.2, laid.3, laid.4)
        ]

  -- Behind a sync or a crash.
  module _ (bytes : Vec ℕ Global) where
    pub whole_settled : StandsIn at text bytes.items ↔ IsWhole (log_of (noted (Settled bytes) k)) at text
    unfolding IsWhole
    whole_settled = (λ stands. inl stands, back)
      where
        back : IsWhole (log_of (noted (Settled bytes) k)) at text → StandsIn at text bytes.items
        back (inl stands) = stands
        back (inr since) = absurd (in_none since.0 since.1)

    pub header_kept : (HeaderWasPlaced k.placed at text × StandsIn at text bytes.items) ↔ HeaderWasPlaced (noted (Settled bytes) k).placed at text
    header_kept = (λ both. header_settled bytes.items k.placed at text both.0 both.1, λ laid. (header_before bytes.items k.placed at text laid, header_stands bytes.items k.placed at text laid))

    pub record_kept : (sum : List ℕ → ℕ) (size number : ℕ) → (RecordWasPlaced sum size k.placed number at text × StandsIn at text bytes.items) ↔ RecordWasPlaced sum size (noted (Settled bytes) k).placed number at text
    record_kept sum size number = (
      λ both. record_settled sum size bytes.items k.placed number at text both.0 both.1,
      λ laid. (record_before sum size bytes.items k.placed number at text laid, record_stands sum size bytes.items k.placed number at text laid),
    )

-- Where nothing is known a text without bytes stands whole, and nothing was placed.
pub whole_nowhere : (at : ℕ) (text : List ℕ) → (text ≡ []) ↔ IsWhole (log_of nothing_known) at text
unfolding IsWhole
whole_nowhere at text = (there, back)
  where
    no_part : (n m : ℕ) → part [] n m ≡ []
    no_part zero zero = refl
    no_part zero (suc m) = refl
    no_part (suc n) zero = refl
    no_part (suc n) (suc m) = refl

    there : text ≡ [] → IsWhole (log_of nothing_known) at text
    there none = inl (no_part at (length text) ∙ sym none)

    back : IsWhole (log_of nothing_known) at text → text ≡ []
    back (inl stands) = sym stands ∙ no_part at (length text)
    back (inr since) = absurd (in_none since.0 since.1)

pub no_bytes : (text : List ℕ) → length text ≡ 0 → text ≡ []
no_bytes [] none = refl
no_bytes (x ∷ xs) none = absurd (omega (arith, none))

pub header_nowhere : (at : ℕ) (text : List ℕ) → HeaderWasPlaced nothing_known.placed at text → ⊥
unfolding HeaderWasPlaced
header_nowhere at text laid = in_none laid.0 laid.1

pub record_nowhere : (sum : List ℕ → ℕ) (size number at : ℕ) (text : List ℕ) → RecordWasPlaced sum size nothing_known.placed number at text → ⊥
unfolding RecordWasPlaced
record_nowhere sum size number at text laid = in_none laid.0 laid.1

-- Notes are read one after another.
noted_last : (notes : List LogNote) (n : LogNote) (k : KnownPast) → all_noted (notes ++ n ∷ []) k ≡ noted n (all_noted notes k)
noted_last [] n k = refl
noted_last (m ∷ notes) n k = noted_last notes n (noted m k)

pub noted_more : (notes : List LogNote) (i : ℕ) (n : LogNote) (k : KnownPast) → i < length notes → n ≡ get_or notes i n → all_noted (take (i + 1) notes) k ≡ noted n (all_noted (take i notes) k)
noted_more notes i n k there is = ap (λ (l : List LogNote). all_noted l k) (take_one notes i n there is) ∙ noted_last (take i notes) n k
