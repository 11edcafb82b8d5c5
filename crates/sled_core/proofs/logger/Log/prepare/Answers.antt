-- A record has a place in the current segment, or a further one is begun for it.
use Rattle.std.proofs.Common.{◌≡◌, ◌∙◌, ◌+◌, refl, arith, ℕ, ℤ, true, false, Err}
use Rattle.std.proofs.lemmas.Result.{err_from_is_err_and}
use Rattle.sled_codec.specs.declared.result.Error.{Error}
use Rattle.sled_codec.specs.declared.result.Error.TheVariants as error
use Rattle.sled_store.specs.Accounts.{NextAnswers}
use Rattle.sled_core.specs.Buffers.{record_size}
use Rattle.sled_core.specs.inside.Causes.{MakesRoom}
use Rattle.sled_core.specs.inside.Prepared.{PrepareAnswers, number_of}
use Rattle.sled_core.specs.inside.Turned.{HasPlace}
use Rattle.sled_core.proofs.Line.Prepares.{IsHeadOf, head_size, here_further, here_open, next_open, next_up, next_used, prepared_here, prepared_next}
use Rattle.sled_core.proofs.Line.Begins.{begins_same}
use Rattle.sled_core.proofs.Line.Unchanged.{left_alone, unchanged_same}
use Rattle.sled_core.proofs.logger.Log.prepare.Goals as goal

-- Why it failed.

room_refused : (e : Error) (used : Type 0) (count all : ℕ) (least : ℤ → Type 0) → MakesRoom {T = ℕ} (Err e) all least → (used → ⊥) → count ≡ all → PrepareAnswers {T = ℕ} (Err e) used count least
room_refused (error.Held at) used count all least is not same = (not, same ∙ is.0, is.1)
room_refused error.OutOfMemory used count all least is not same = (not, omega (arith, is, same))
room_refused (error.Io e) used count all least is not same = absurd is
room_refused (error.Unsupported text) used count all least is not same = absurd is
room_refused error.PlacesUsedUp used count all least is not same = absurd is
room_refused (error.Corruption at) used count all least is not same = absurd is
room_refused (error.NotReserved at) used count all least is not same = absurd is
room_refused (error.CollectionNotFound name) used count all least is not same = absurd is
room_refused (error.ReportableBug text) used count all least is not same = absurd is

next_refused : (e : Error) (used may : Type 0) (count : ℕ) (least : ℤ → Type 0) → NextAnswers {T = ℕ} (Err e) may → ((may → ⊥) → used) → (used → may → ⊥) → count ≡ 0 → PrepareAnswers {T = ℕ} (Err e) used count least
next_refused error.OutOfMemory used may count least is all back zero_open = ((λ u. back u is), omega (arith, zero_open))
next_refused error.PlacesUsedUp used may count least is all back zero_open = all is
next_refused (error.Held at) used may count least is all back zero_open = absurd is
next_refused (error.Io e) used may count least is all back zero_open = absurd is
next_refused (error.Unsupported text) used may count least is all back zero_open = absurd is
next_refused (error.Corruption at) used may count least is all back zero_open = absurd is
next_refused (error.NotReserved at) used may count least is all back zero_open = absurd is
next_refused (error.CollectionNotFound name) used may count least is all back zero_open = absurd is
next_refused (error.ReportableBug text) used may count least is all back zero_open = absurd is

-- In the current segment.

pub returns-in_err-room_for-clause-answers : goal.returns-in_err-room_for-clause-answers
returns-in_err-room_for-clause-answers g c =
    let old = c.args.self.now in
    let kept = c.args.purpose.now in
    let head = c.fill_head.new.head in
    let is : IsHeadOf head kept c.args.body_len (number_of old) = record { bytes = c.fill_head.ensures.bytes; len = c.fill_head.ensures.len } in
    let has : HasPlace old (head.len + c.args.body_len) = c.if-has_place.ensures.0 refl in
    let e = err_from_is_err_and c.from_residual.result c.from_residual.ensures.1 in
    rw (e.1, e.2) (room_refused c.in_err-room_for.field-0.0 _ _ _ _ c.in_err-room_for.ensures.answers
    (here_further g.D.Device.trace g.C.Checksum.sum_of old c.room_for.new.self kept head c.args.body_len is has) (here_open g.D.Device.trace g.C.Checksum.sum_of old c.room_for.new.self kept head c.args.body_len is has))

pub returns-then-has_place-clause-prepared : goal.returns-then-has_place-clause-prepared
returns-then-has_place-clause-prepared g c =
    let did = c.in_ok-room_for.ensures in
    prepared_here g.D.Device.trace g.C.Checksum.sum_of c.args.self.now c.room_for.new.self c.args.purpose.now c.fill_head.new.head c.args.body_len
    (record { bytes = c.fill_head.ensures.bytes; len = c.fill_head.ensures.len }) (c.if-has_place.ensures.0 refl) c.requires did.line did.rest did.room (λ is. did.batch (c.is_manifest-manifest.ensures ∙ is))

pub returns-then-has_place-clause-answers : goal.returns-then-has_place-clause-answers
returns-then-has_place-clause-answers g c =
    let old = c.args.self.now in
    let kept = c.args.purpose.now in
    let head = c.fill_head.new.head in
    let is : IsHeadOf head kept c.args.body_len (number_of old) = record { bytes = c.fill_head.ensures.bytes; len = c.fill_head.ensures.len } in
    let has : HasPlace old (head.len + c.args.body_len) = c.if-has_place.ensures.0 refl in
    let few = c.in_ok-room_for.ensures.answers in
    let open_same = here_open g.D.Device.trace g.C.Checksum.sum_of old c.room_for.new.self kept head c.args.body_len is has in
    (here_further g.D.Device.trace g.C.Checksum.sum_of old c.room_for.new.self kept head c.args.body_len is has, omega (arith, few, open_same))

-- In a further one.

pub begin_next-requires : goal.begin_next-requires
begin_next-requires g c =
    let old = c.args.self.now in
    let kept = c.args.purpose.now in
    let n : ℕ = c.args.body_len in
    let head = c.fill_head.new.head in
    let long : head.len + n ≡ record_size (number_of old) kept.page n = head_size head kept n (number_of old) (record { bytes = c.fill_head.ensures.bytes; len = c.fill_head.ensures.len }) in
    record { used = next_used g.D.Device.trace g.C.Checksum.sum_of old kept n c.requires (head.len + n) long (λ has. let bad : false ≡ true = c.if-has_place.ensures.1 has in cc) }

pub returns-in_err-begin_next-clause-answers : goal.returns-in_err-begin_next-clause-answers
returns-in_err-begin_next-clause-answers g c =
    let old = c.args.self.now in
    let kept = c.args.purpose.now in
    let n : ℕ = c.args.body_len in
    let head = c.fill_head.new.head in
    let long : head.len + n ≡ record_size (number_of old) kept.page n = head_size head kept n (number_of old) (record { bytes = c.fill_head.ensures.bytes; len = c.fill_head.ensures.len }) in
    let not : HasPlace old (head.len + n) → ⊥ = λ has. let bad : false ≡ true = c.if-has_place.ensures.1 has in cc in
    let e = err_from_is_err_and c.from_residual-in_err-begin_next.result c.from_residual-in_err-begin_next.ensures.1 in
    rw (e.1, e.2) (next_refused c.in_err-begin_next.field-0.0 _ _ _ _ c.in_err-begin_next.ensures.answers
    (next_up g.D.Device.trace g.C.Checksum.sum_of old kept n c.requires (head.len + n) long not) (λ used. used.1) (next_open g.D.Device.trace g.C.Checksum.sum_of old kept n c.requires (head.len + n) long not))

pub returns-clause-prepared : goal.returns-clause-prepared
returns-clause-prepared g c =
    let old = c.args.self.now in
    let kept = c.args.purpose.now in
    let n : ℕ = c.args.body_len in
    let head = c.fill_head.new.head in
    let did = c.in_ok-begin_next.ensures in
    let long : head.len + n ≡ record_size (number_of old) kept.page n = head_size head kept n (number_of old) (record { bytes = c.fill_head.ensures.bytes; len = c.fill_head.ensures.len }) in
    prepared_next g.D.Device.trace g.C.Checksum.sum_of old kept n c.requires (head.len + n) long (λ has. let bad : false ≡ true = c.if-has_place.ensures.1 has in cc) c.begin_next.new.self c.fill_head-2.new.head
    (record { bytes = c.fill_head-2.ensures.bytes; len = c.fill_head-2.ensures.len }) did.line did.machine did.pooled did.rest did.reserved did.room (λ is. did.batch (c.is_manifest-manifest.ensures ∙ is))

pub returns-clause-answers : goal.returns-clause-answers
returns-clause-answers g c =
    let old = c.args.self.now in
    let kept = c.args.purpose.now in
    let n : ℕ = c.args.body_len in
    let head = c.fill_head.new.head in
    let long : head.len + n ≡ record_size (number_of old) kept.page n = head_size head kept n (number_of old) (record { bytes = c.fill_head.ensures.bytes; len = c.fill_head.ensures.len }) in
    let not : HasPlace old (head.len + n) → ⊥ = λ has. let bad : false ≡ true = c.if-has_place.ensures.1 has in cc in
    let none = next_open g.D.Device.trace g.C.Checksum.sum_of old kept n c.requires (head.len + n) long not in
    (λ used. used.1 c.in_ok-begin_next.ensures.answers, omega (arith, none))

-- All that is kept besides is kept.

pub returns-in_err-room_for-clause-same : goal.returns-in_err-room_for-clause-same
returns-in_err-room_for-clause-same g c = let did = c.in_err-room_for.ensures in unchanged_same c.args.self.now c.room_for.new.self (left_alone c.args.self.now c.room_for.new.self did.line did.rest)

pub returns-then-has_place-clause-same : goal.returns-then-has_place-clause-same
returns-then-has_place-clause-same g c = let did = c.in_ok-room_for.ensures in unchanged_same c.args.self.now c.room_for.new.self (left_alone c.args.self.now c.room_for.new.self did.line did.rest)

pub returns-in_err-begin_next-clause-same : goal.returns-in_err-begin_next-clause-same
returns-in_err-begin_next-clause-same g c = unchanged_same c.args.self.now c.begin_next.new.self c.in_err-begin_next.ensures.err

pub returns-clause-same : goal.returns-clause-same
returns-clause-same g c = let did = c.in_ok-begin_next.ensures in begins_same g.D.Device.trace g.C.Checksum.sum_of c.args.self.now c.begin_next.new.self did.line did.machine did.rest
