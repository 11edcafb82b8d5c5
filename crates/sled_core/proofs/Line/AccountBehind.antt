-- The slots and the marks of a log are the same where nothing of it is another; and which of its buffers are written.
use Rattle.std.proofs.Common.{◌≡◌, ◌∙◌, ◌<◌, ap, sym, refl, arith, ℕ, zero, suc, Bool, true, false, nat_lt, if◌then◌else◌, List, [], ◌∷◌, ◌++◌, length, length-append, take, drop, append_assoc}
use Rattle.std.proofs.lemmas.List.{append-nil}
use Rattle.std.proofs.lemmas.Bool.Decides.{nat_tests}
use Rattle.sled_core.specs.declared.logger.Log.{Log}
use Rattle.sled_core.specs.Account.{account_of}
use Rattle.sled_core.specs.Fits.{IsUnchanged, ledger_of, machine_at, pins_of}
use Rattle.sled_core.specs.Waiting.{BufferAt, free_below, front_below}
use Rattle.sled_core.proofs.Line.Below.{BeginFrom}

-- Its account is the same where the marks are, and as many pins are out.
pub account_same : {D C : Type 0} (old new : Log D C) → new.marks ≡ old.marks → pins_of new ≡ pins_of old → account_of new ≡ account_of old
account_same old new marks pins = λ i. record { mark = (marks i).joined; durable = (marks i).durable; pinned = nat_lt 0 (pins i) }

pub account_unchanged : {D C : Type 0} (old new : Log D C) → IsUnchanged old new → account_of new ≡ account_of old
account_unchanged old new same = account_same old new same.marks same.pins

-- So the ledger is where the slots are, too.
pub ledger_same : {D C : Type 0} (old new : Log D C) → machine_at new ≡ machine_at old → account_of new ≡ account_of old → ledger_of new ≡ ledger_of old
ledger_same old new machine account = λ i. record { machine = machine i; account = account i }

pub ledger_unchanged : {D C : Type 0} (old new : Log D C) → IsUnchanged old new → ledger_of new ≡ ledger_of old
ledger_unchanged old new same = ledger_same old new same.machine (account_unchanged old new same)

-- one more than so many at the front
pub take_one : (n : ℕ) (xs : List BufferAt) (y : BufferAt) (ys : List BufferAt) → drop n xs ≡ y ∷ ys → take (suc n) xs ≡ take n xs ++ y ∷ []
take_one zero [] y ys same = cc
take_one zero (x ∷ xs) y ys same = let is : x ≡ y = cc in ap (λ (b : BufferAt). b ∷ []) is
take_one (suc n) [] y ys same = cc
take_one (suc n) (x ∷ xs) y ys same = ap (λ (l : List BufferAt). x ∷ l) (take_one n xs y ys same)

-- The one at the front that begins below a place is the first of those that do,
pub front_first : (to : ℕ) (b : BufferAt) (bs : List BufferAt) → b.place < to → front_below to (b ∷ bs) ≡ b ∷ front_below to bs
front_first to b bs below = ap (λ (o : Bool). if o then b ∷ front_below to bs else []) (let yes : nat_lt b.place to ≡ true = grind (arith, nat_tests, below) in yes)

-- and where they begin from there on none does.
pub front_none : (to : ℕ) (bs : List BufferAt) → BeginFrom to bs → front_below to bs ≡ []
front_none to [] begin = refl
front_none to (b ∷ bs) begin = let low = begin.0 in ap (λ (o : Bool). if o then b ∷ front_below to bs else []) (let no : nat_lt b.place to ≡ false = grind (arith, nat_tests, low) in no)

-- So many at the front were written, and of those that are left one more is.
module _ (to n : ℕ) (old mid new : List BufferAt) (b : BufferAt) (gone : mid ≡ drop n old) (is : mid ≡ b ∷ new) where
  taken : take (suc n) old ≡ take n old ++ b ∷ []
  taken = take_one n old b new (sym gone ∙ is)

  pub front_further : b.place < to → front_below to old ≡ take n old ++ front_below to mid → front_below to old ≡ take (suc n) old ++ front_below to new
  front_further below so_far =
      so_far
      ∙ ap (λ (l : List BufferAt). take n old ++ l) (ap (front_below to) is ∙ front_first to b new below)
      ∙ sym (append_assoc (take n old) (b ∷ []) (front_below to new))
      ∙ ap (λ (l : List BufferAt). l ++ front_below to new) (sym taken)

  -- which could be
  pub free_further : free_below to mid ≡ b ∷ free_below to new → free_below to old ≡ take n old ++ free_below to mid → free_below to old ≡ take (suc n) old ++ free_below to new
  free_further free so_far =
      so_far
      ∙ ap (λ (l : List BufferAt). take n old ++ l) free
      ∙ sym (append_assoc (take n old) (b ∷ []) (free_below to new))
      ∙ ap (λ (l : List BufferAt). l ++ free_below to new) (sym taken)

  pub many_further : length (take n old) ≡ n → length (take (suc n) old) ≡ suc n
  many_further many = let one = ap length taken in omega (arith, one, many, length-append (take n old) (b ∷ []))

-- Where those that are left begin at the place or behind it, all were written that begin below it.
pub front_whole : (to : ℕ) (done old new : List BufferAt) → BeginFrom to new → front_below to old ≡ done ++ front_below to new → done ≡ front_below to old
front_whole to done old new begin is = sym (is ∙ ap (λ (l : List BufferAt). done ++ l) (front_none to new begin) ∙ append-nil done)
