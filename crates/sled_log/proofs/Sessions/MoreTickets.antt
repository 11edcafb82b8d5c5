-- Tickets with one more that comes.
use Rattle.std.proofs.Common.{◌≡◌, ◌≢◌, ◌∙◌, ◌<◌, ◌==◌, ◌⊎◌, inl, inr, ℕ, zero, suc, Bool, true, false, if◌then◌else◌, List, [], ◌∷◌, ◌++◌, length, map, set, get_or, Option, Some, None, refl, ap, arith}
use Rattle.std.specs.List.{All, slice_get}
use Rattle.std.proofs.lemmas.Bool.Decides.{nat_tests}
use Rattle.std.proofs.lemmas.Bool.{ne_eqb}
use Rattle.std.proofs.lemmas.List.{get_or-set_other, get_or-set_same}
use Rattle.std.proofs.lemmas.List.Elements.{All-cons, All-nil, All-push}
use Rattle.std.proofs.lemmas.Option.{same_Some}
use Rattle.sled_codec.specs.History.{Message}
use Rattle.sled_core.specs.Manifests.{manifest_page}
use Rattle.sled_core.proofs.Reserve.ReserveLemmas.{there_append}
use Rattle.sled_log.specs.RunPhases.{AreRising, HasBatch}
use Rattle.sled_log.specs.RunStates.{has_message_for, open_messages}

-- Lists.

-- what is last in a list with one more, and what was there before
pub push_cases : {X : Type 0} (xs : List X) (x y : X) (i : ℕ) → slice_get (xs ++ x ∷ []) i ≡ Some y → (slice_get xs i ≡ Some y) ⊎ ((i ≡ length xs) × (x ≡ y))
push_cases [] x y zero there = inr (refl, same_Some x y there)
push_cases [] x y (suc i) there = cc
push_cases (z ∷ xs) x y zero there = inl there
push_cases (z ∷ xs) x y (suc i) there = elim (push_cases xs x y i there) [ inl old ↦ inl old | inr last ↦ inr (ap suc last.0, last.1) ]

-- Tickets.

-- the messages of the open ones with one more
pub open_push : (ts : List (Option Message)) (m : Message) → open_messages (ts ++ Some m ∷ []) ≡ open_messages ts ++ m ∷ []
open_push [] m = refl
open_push (None ∷ ts) m = open_push ts m
open_push (Some x ∷ ts) m = ap (λ (l : List Message). x ∷ l) (open_push ts m)

-- what holds of each of them holds of all their places
pub open_all : (P : ℕ → Type 0) (ts : List (Option Message)) → ((i : ℕ) (m : Message) → slice_get ts i ≡ Some (Some m) → P m.place) → All P (map (λ m. m.place) (open_messages ts))
open_all P [] each = All-nil P
open_all P (None ∷ ts) each = open_all P ts (λ i m there. each (suc i) m there)
open_all P (Some x ∷ ts) each = All-cons P x.place (map (λ m. m.place) (open_messages ts)) (each 0 x refl) (open_all P ts (λ i m there. each (suc i) m there))

-- whether one is of a page, with one more
pub page_push : (page : ℕ) (ms : List Message) (m : Message) → has_message_for page (ms ++ m ∷ []) ≡ (if m.page == page then true else has_message_for page ms)
page_push page [] m = refl
page_push page (x ∷ ms) m = by (x.page == page) (m.page == page) (page_push page ms m) where
  by : (a b : Bool) → has_message_for page (ms ++ m ∷ []) ≡ (if b then true else has_message_for page ms)
      → (if a then true else has_message_for page (ms ++ m ∷ [])) ≡ (if b then true else (if a then true else has_message_for page ms))
  by true true rest = refl
  by true false rest = refl
  by false true rest = rest
  by false false rest = rest

-- the number of the manifest's ticket stays, where the one that comes isn't one
pub batch_push : (ts : List (Option Message)) (m : Message) (batch : Option ℕ) → m.page ≢ manifest_page → HasBatch ts batch → HasBatch (ts ++ Some m ∷ []) batch
batch_push ts m None message none =
    ap (has_message_for manifest_page) (open_push ts m) ∙ page_push manifest_page (open_messages ts) m ∙ ap (λ (b : Bool). if b then true else has_message_for manifest_page (open_messages ts)) (ne_eqb m.page manifest_page message) ∙ none
batch_push ts m (Some n) message has = (has.0, there_append ts (Some m ∷ []) n (Some has.0) has.1, has.2)

-- one page is noted
pub busy_set : (old new : List Bool) (page p : ℕ) → new ≡ set old page true → page < length old → get_or new p false ≡ (if page == p then true else get_or old p false)
busy_set old new page p is small = ap (λ (l : List Bool). get_or l p false) is ∙ by (page == p) refl where
  by : (o : Bool) → (page == p) ≡ o → get_or (set old page true) p false ≡ (if o then true else get_or old p false)
  by true is = let same : p ≡ page = grind (arith, nat_tests, is) in ap (λ n. get_or (set old page true) n false) same ∙ get_or-set_same old page true false small
  by false is = get_or-set_other old page p true false (λ same. absurd (grind (arith, nat_tests, is, same)))

-- one more place above all of them
pub rising_push : (ps : List ℕ) (q : ℕ) → AreRising ps → All (λ p. p < q) ps → AreRising (ps ++ q ∷ [])
rising_push [] q rising below = (All-nil (λ p. q < p), tt)
rising_push (p ∷ ps) q rising below =
    (All-push (λ x. p < x) ps q rising.0 (below 0 p (omega arith)), rising_push ps q rising.1 (λ k d lt. below (suc k) d (omega (arith, lt))))
