-- Which tickets are open, and whether a batch is, is seen of the messages that are awaited.
use Rattle.std.proofs.Common.{◌≡◌, ◌≢◌, ◌==◌, ◌<◌, ◌≤◌, ◌∙◌, ap, eq-eqb, get_or, if◌then◌else◌, not, sym, refl, ℕ, zero, suc, Bool, true, false, List, [], ◌∷◌, length, arith, inl, inr, Option, None, Some}
use Rattle.std.specs.List.{slice_get}
use Rattle.std.specs.Option.{is_some}
use Rattle.std.proofs.lemmas.Bool.{cases_lt, false≢true, ne_eqb}
use Rattle.std.proofs.lemmas.Bool.Decides.{nat_tests}
use Rattle.std.proofs.lemmas.List.{get_or_past}
use Rattle.std.proofs.lemmas.Option.{same_Some}
use Rattle.sled_codec.specs.History.{Message, History}
use Rattle.sled_log.specs.declared.session.opened.Opened.{Opened}
use Rattle.sled_log.specs.declared.session.tickets.Ticket.{Ticket}
use Rattle.sled_core.specs.Manifests.{manifest_page}
use Rattle.sled_store.specs.Device.{Trace}
use Rattle.sled_log.specs.RunPhases.{HasBatch, HasTickets}
use Rattle.sled_log.specs.RunStates.{has_message, has_message_for, has_ticket, in_batch, open_messages}

has_got : (n : ℕ) (ts : List (Option Message)) (m : Message) → slice_get ts n ≡ Some (Some m) → has_ticket n ts ≡ true
has_got n [] m got = cc
has_got zero (None ∷ ts) m got = cc
has_got zero (Some x ∷ ts) m got = refl
has_got (suc n) (t ∷ ts) m got = has_got n ts m got

has_spent : (n : ℕ) (ts : List (Option Message)) → slice_get ts n ≡ Some None → has_ticket n ts ≡ false
has_spent n [] got = refl
has_spent zero (None ∷ ts) got = refl
has_spent zero (Some x ∷ ts) got = cc
has_spent (suc n) (t ∷ ts) got = has_spent n ts got

has_none : (n : ℕ) (ts : List (Option Message)) → slice_get ts n ≡ None → has_ticket n ts ≡ false
has_none n [] got = refl
has_none zero (t ∷ ts) got = cc
has_none (suc n) (t ∷ ts) got = has_none n ts got

got_within : {X : Type 0} (n : ℕ) (xs : List X) → n < length xs → slice_get xs n ≡ None → ⊥
got_within n [] lt got = omega (arith, lt)
got_within zero (x ∷ xs) lt got = cc
got_within (suc n) (x ∷ xs) lt got = got_within n xs (omega (arith, lt)) got

pub got_or : {X : Type 0} (n : ℕ) (xs : List (Option X)) (o : Option X) → slice_get xs n ≡ Some o → get_or xs n None ≡ o
got_or n [] o got = cc
got_or zero (x ∷ xs) o got = cc
got_or (suc n) (x ∷ xs) o got = got_or n xs o got

-- one that is read is there
pub got_open : {X : Type 0} (n : ℕ) (xs : List (Option X)) (x : X) → get_or xs n None ≡ Some x → slice_get xs n ≡ Some (Some x)
got_open n [] x got = cc
got_open zero (o ∷ os) x got = ap (λ y. Some y) got
got_open (suc n) (o ∷ os) x got = got_open n os x got

-- the page of an open one is among theirs
pub page_has : (ts : List (Option Message)) (i page : ℕ) (m : Message) → slice_get ts i ≡ Some (Some m) → m.page ≡ page → has_message_for page (open_messages ts) ≡ true
page_has [] i page m there of = cc
page_has (None ∷ ts) zero page m there of = cc
page_has (None ∷ ts) (suc i) page m there of = page_has ts i page m there of
page_has (Some x ∷ ts) zero page m there of = by (x.page == page) refl where
  same : x ≡ m
  same = same_Some x m (same_Some (Some x) (Some m) there)

  by : (o : Bool) → (x.page == page) ≡ o → (if o then true else has_message_for page (open_messages ts)) ≡ true
  by true is = refl
  by false is = absurd (let at = ap (λ (y : Message). y.page) same in grind (arith, nat_tests, is, at, of))
page_has (Some x ∷ ts) (suc i) page m there of = by (x.page == page) (page_has ts i page m there of) where
  by : (o : Bool) → has_message_for page (open_messages ts) ≡ true → (if o then true else has_message_for page (open_messages ts)) ≡ true
  by true rest = refl
  by false rest = rest

-- A ticket that isn't a manifest's is one of a message where it is open,
message_when : (n : ℕ) (ts : List (Option Message)) → ((m : Message) → slice_get ts n ≡ Some (Some m) → m.page ≢ manifest_page) → has_message n ts ≡ has_ticket n ts
message_when n [] other = refl
message_when zero (None ∷ ts) other = refl
message_when zero (Some m ∷ ts) other = ap not (ne_eqb m.page manifest_page (other m refl))
message_when (suc n) (t ∷ ts) other = message_when n ts other

-- and a manifest's isn't.
no_message : (n : ℕ) (ts : List (Option Message)) (m : Message) → slice_get ts n ≡ Some (Some m) → m.page ≡ manifest_page → has_message n ts ≡ false
no_message n [] m there is = cc
no_message zero (None ∷ ts) m there is = cc
no_message zero (Some x ∷ ts) m there is =
    let same : x ≡ m = same_Some x m (same_Some (Some x) (Some m) there) in ap not (eq-eqb x.page manifest_page (ap (λ (y : Message). y.page) same ∙ is))
no_message (suc n) (t ∷ ts) m there is = no_message n ts m there is

-- one that is known to be of a message is open, and no manifest's
pub message_there : (n : ℕ) (ts : List (Option Message)) → has_message n ts ≡ true → (m : Message) × (slice_get ts n ≡ Some (Some m)) × (m.page ≢ manifest_page)
message_there n [] has = cc
message_there zero (None ∷ ts) has = cc
message_there zero (Some m ∷ ts) has = (m, refl, λ is. false≢true (sym (ap not (eq-eqb m.page manifest_page is)) ∙ has))
message_there (suc n) (t ∷ ts) has = message_there n ts has

module _ {D C : Type 0} {trace : D → Trace} {sum : List ℕ → ℕ} (opened : Opened D C) (H : History) (tickets : List (Option Message)) (has : HasTickets trace sum opened H tickets) where
  -- Whether a batch is begun is seen,
  pub batch_seen : is_some opened.batch ≡ in_batch tickets
  batch_seen = by opened.batch has.batch where
    by : (o : Option ℕ) → HasBatch tickets o → is_some o ≡ in_batch tickets
    by None is = sym is
    by (Some n) is = sym (page_has tickets n manifest_page is.0 is.1 is.2)

  -- and another ticket is a message's, as one that isn't open is.
  pub other_message : (n : ℕ) → (opened.batch ≡ Some n → ⊥) → has_message n tickets ≡ has_ticket n tickets
  other_message n other = message_when n tickets (λ m there is. by opened.batch has.batch refl m there is) where
    by : (o : Option ℕ) → HasBatch tickets o → opened.batch ≡ o → (m : Message) → slice_get tickets n ≡ Some (Some m) → m.page ≡ manifest_page → ⊥
    by None begun at m there is = absurd (false≢true (sym begun ∙ page_has tickets n manifest_page m there is))
    by (Some b) begun at m there is = other (at ∙ ap (λ x. Some x) (has.apart b n begun.0 m begun.1 there (begun.2 ∙ sym is)))

  -- That of the manifest is none.
  pub batch_message : (n : ℕ) → opened.batch ≡ Some n → has_message n tickets ≡ false
  batch_message n is = by opened.batch has.batch is where
    by : (o : Option ℕ) → HasBatch tickets o → o ≡ Some n → has_message n tickets ≡ false
    by None begun at = cc
    by (Some b) begun at = let same : b ≡ n = same_Some b n at in no_message n tickets begun.0 (ap (slice_get tickets) (sym same) ∙ begun.1) begun.2

module _ {D C : Type 0} {trace : D → Trace} {sum : List ℕ → ℕ} (opened : Opened D C) (H : History) (tickets : List (Option Message)) (has : HasTickets trace sum opened H tickets) (n : ℕ) where
  -- none is read where no number was given
  never_given : slice_get tickets n ≡ None → get_or opened.tickets.items n None ≡ None
  never_given is = elim (cases_lt n (length tickets)) [
    | inl lt ↦ absurd (got_within n tickets lt is)
    | inr behind ↦ get_or_past opened.tickets.items n None (omega (arith, behind, has.as_many))
  ]

  -- A ticket that is there is open,
  pub open_seen : (t : Ticket) → get_or opened.tickets.items n None ≡ Some t → has_ticket n tickets ≡ true
  open_seen t there = by (slice_get tickets n) refl where
    by : (o : Option (Option Message)) → slice_get tickets n ≡ o → has_ticket n tickets ≡ true
    by None is = let two : Some t ≡ None = sym there ∙ never_given is in cc
    by (Some None) is = let two : Some t ≡ None = sym there ∙ got_or n opened.tickets.items None (has.gone n is) in cc
    by (Some (Some m)) is = has_got n tickets m is

  -- and one that was spent isn't, nor one that was never given.
  pub none_seen : get_or opened.tickets.items n None ≡ None → has_ticket n tickets ≡ false
  none_seen there = by (slice_get tickets n) refl where
    by : (o : Option (Option Message)) → slice_get tickets n ≡ o → has_ticket n tickets ≡ false
    by None is = has_none n tickets is
    by (Some None) is = has_spent n tickets is
    by (Some (Some m)) is = let two : None ≡ Some (has.each n m is).ticket = sym there ∙ got_or n opened.tickets.items (Some (has.each n m is).ticket) (has.each n m is).there in cc
