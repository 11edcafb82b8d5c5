-- What begins below a place ends at or below the greatest end of such; and where all messages and batches do, so do all of them.
use Rattle.std.proofs.Common.{◌≡◌, ◌⊎◌, ◌≤◌, ◌<◌, ◌+◌, nat_lt, max, if◌then◌else◌, Bool, true, false, ℕ, List, [], ◌∷◌, refl, ap, arith, inl, inr}
use Rattle.std.specs.List.{Contains}
use Rattle.std.proofs.lemmas.Bool.Decides.{nat_tests}
use Rattle.std.proofs.lemmas.List.Elements.{All-cons, All-tail}
use Rattle.sled_codec.specs.History.{Message, Batch, History}
use Rattle.sled_codec.specs.WellFormed.{LieApart}
use Rattle.sled_store.proofs.Segments.Elements.{in_cases, in_first, in_nothing, in_rest}
use Rattle.sled_core.specs.Fits.{CloseBelow, EndBelow}
use Rattle.sled_core.specs.Running.{end_below, last_batch, last_message}

-- messages
pub messages_last : (place n : ℕ) (ms : List Message) → last_message place ms ≤ n → EndBelow place ms → LieApart ms → EndBelow n ms
messages_last place n [] up below apart = λ k d lt. absurd (omega (arith, lt))
messages_last place n (m ∷ ms) up below apart = by (messages_last place n ms) (below 0 m (omega arith)).0 (nat_lt m.place place) refl up where
  by : (last_message place ms ≤ n → EndBelow place ms → LieApart ms → EndBelow n ms) → m.place < place → (b : Bool) → nat_lt m.place place ≡ b
      → (if b then max (m.place + m.size) (last_message place ms) else last_message place ms) ≤ n → EndBelow n (m ∷ ms)
  by rest low false test le = absurd (let not : ⊥ = grind (arith, nat_tests, test, low) in not)
  by rest low true test le =
      let some = apart.0 in
      All-cons (λ (x : Message). (x.place < n) × (x.place + x.size ≤ n)) m ms (omega (arith, some, le), omega (arith, le)) (rest (omega (arith, le)) (All-tail (λ x. (x.place < place) × (x.place + x.size ≤ place)) m ms below) apart.2)

-- batches
pub batches_last : (place n : ℕ) (bs : List Batch) → last_batch place bs ≤ n → CloseBelow place bs → CloseBelow n bs
batches_last place n [] up below = λ k d lt. absurd (omega (arith, lt))
batches_last place n (b ∷ bs) up below = by (batches_last place n bs) (below 0 b (omega arith)).0 (nat_lt b.low place) refl up where
  by : (last_batch place bs ≤ n → CloseBelow place bs → CloseBelow n bs) → b.low < place → (o : Bool) → nat_lt b.low place ≡ o
      → (if o then max (max b.low b.peg + 1) (last_batch place bs) else last_batch place bs) ≤ n → CloseBelow n (b ∷ bs)
  by rest low false test le = absurd (let not : ⊥ = grind (arith, nat_tests, test, low) in not)
  by rest low true test le = All-cons (λ (x : Batch). (x.low < n) × (x.peg < n)) b bs (omega (arith, le), omega (arith, le)) (rest (omega (arith, le)) (All-tail (λ x. (x.low < place) × (x.peg < place)) b bs below))

-- One of the messages ends at or below the greatest end,
message_ends : (place : ℕ) (ms : List Message) (m : Message) → Contains ms m → m.place < place → m.place + m.size ≤ last_message place ms
message_ends place [] m there low = absurd (in_nothing m there)
message_ends place (x ∷ xs) m there low = by (λ later. message_ends place xs m later low) (in_cases x m xs there) (nat_lt x.place place) refl where
  by : (Contains xs m → m.place + m.size ≤ last_message place xs) → (x ≡ m) ⊎ Contains xs m → (o : Bool) → nat_lt x.place place ≡ o
      → m.place + m.size ≤ (if o then max (x.place + x.size) (last_message place xs) else last_message place xs)
  by rest (inl same) false test =
      let at : x.place ≡ m.place = ap (λ (y : Message). y.place) same in
      absurd (let not : ⊥ = grind (arith, nat_tests, test, low, at) in not)
  by rest (inl same) true test =
      let at : x.place ≡ m.place = ap (λ (y : Message). y.place) same in
      let long : x.size ≡ m.size = ap (λ (y : Message). y.size) same in
      omega (arith, at, long)
  by rest (inr later) false test = rest later
  by rest (inr later) true test = let up = rest later in omega (arith, up)

-- and so does one of the batches,
batch_ends : (place : ℕ) (bs : List Batch) (b : Batch) → Contains bs b → b.low < place → (b.low < last_batch place bs) × (b.peg < last_batch place bs)
batch_ends place [] b there low = absurd (in_nothing b there)
batch_ends place (x ∷ xs) b there low = by (λ later. batch_ends place xs b later low) (in_cases x b xs there) (nat_lt x.low place) refl where
  by : (Contains xs b → (b.low < last_batch place xs) × (b.peg < last_batch place xs)) → (x ≡ b) ⊎ Contains xs b → (o : Bool) → nat_lt x.low place ≡ o
      → (b.low < (if o then max (max x.low x.peg + 1) (last_batch place xs) else last_batch place xs)) × (b.peg < (if o then max (max x.low x.peg + 1) (last_batch place xs) else last_batch place xs))
  by rest (inl same) false test =
      let at : x.low ≡ b.low = ap (λ (y : Batch). y.low) same in
      absurd (let not : ⊥ = grind (arith, nat_tests, test, low, at) in not)
  by rest (inl same) true test =
      let at : x.low ≡ b.low = ap (λ (y : Batch). y.low) same in
      let end : x.peg ≡ b.peg = ap (λ (y : Batch). y.peg) same in
      (omega (arith, at), omega (arith, end))
  by rest (inr later) false test = rest later
  by rest (inr later) true test = let up = rest later in (omega (arith, up.0), omega (arith, up.1))

-- and that is no greater than these ask.
messages_least : (place n : ℕ) (ms : List Message) → ((m : Message) → Contains ms m → m.place < place → m.place + m.size ≤ n) → last_message place ms ≤ n
messages_least place n [] all = omega arith
messages_least place n (x ∷ xs) all = by (messages_least place n xs (λ m there low. all m (in_rest x m xs there) low)) (nat_lt x.place place) refl where
  by : last_message place xs ≤ n → (o : Bool) → nat_lt x.place place ≡ o → (if o then max (x.place + x.size) (last_message place xs) else last_message place xs) ≤ n
  by rest false test = rest
  by rest true test =
      let low : x.place < place = grind (arith, nat_tests, test) in
      let up = all x (in_first x xs) low in
      omega (arith, up, rest)

batches_least : (place n : ℕ) (bs : List Batch) → ((b : Batch) → Contains bs b → b.low < place → (b.low < n) × (b.peg < n)) → last_batch place bs ≤ n
batches_least place n [] all = omega arith
batches_least place n (x ∷ xs) all = by (batches_least place n xs (λ b there low. all b (in_rest x b xs there) low)) (nat_lt x.low place) refl where
  by : last_batch place xs ≤ n → (o : Bool) → nat_lt x.low place ≡ o → (if o then max (max x.low x.peg + 1) (last_batch place xs) else last_batch place xs) ≤ n
  by rest false test = rest
  by rest true test =
      let low : x.low < place = grind (arith, nat_tests, test) in
      let up = all x (in_first x xs) low in
      omega (arith, up.0, up.1, rest)

-- So it is with what is acknowledged of a history once all below a place is durable.
pub message_acknowledged : (place : ℕ) (H : History) (m : Message) → Contains H.messages m → m.place < place → m.place + m.size ≤ end_below place H
message_acknowledged place H m there low = let up = message_ends place H.messages m there low in omega (arith, up)

pub batch_acknowledged : (place : ℕ) (H : History) (b : Batch) → Contains H.batches b → b.low < place → (b.low < end_below place H) × (b.peg < end_below place H)
batch_acknowledged place H b there low = let up = batch_ends place H.batches b there low in (omega (arith, up.0), omega (arith, up.1))

pub acknowledged_least : (place n : ℕ) (H : History) → ((m : Message) → Contains H.messages m → m.place < place → m.place + m.size ≤ n) → ((b : Batch) → Contains H.batches b → b.low < place → (b.low < n) × (b.peg < n)) → end_below place H ≤ n
acknowledged_least place n H messages batches =
    let ms = messages_least place n H.messages messages in
    let bs = batches_least place n H.batches batches in
    omega (arith, ms, bs)

-- More is acknowledged where more is durable.
pub acknowledged_up : (low high : ℕ) (H : History) → low ≤ high → end_below low H ≤ end_below high H
acknowledged_up low high H up = acknowledged_least low (end_below high H) H
    (λ m there below. message_acknowledged high H m there (omega (arith, up, below)))
    (λ b there below. batch_acknowledged high H b there (omega (arith, up, below)))
