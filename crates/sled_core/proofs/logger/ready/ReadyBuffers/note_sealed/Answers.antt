-- The new buffer's place comes behind the others, or it is counted.
use Rattle.std.proofs.Common.{rules, arith, ◌≡◌, ◌∙◌, ◌+◌, ◌-◌, ◌≤◌, ap, sym, refl, ℕ, Bool, true, false, if◌then◌else◌, List, [], ◌∷◌, ◌++◌, length, length-append, take, get_or, deque_len}
use Rattle.std.proofs.Math.Seq.{get_or-append_seam}
use Rattle.std.proofs.lemmas.List.{append-nil}
use Rattle.std.proofs.lemmas.List.Elements.{All-nil}
use Rattle.sled_core.specs.declared.iobuf.Sealed.{Sealed}
use Rattle.sled_core.specs.inside.ReadyBuffers.{held_in}
use Rattle.sled_core.specs.inside.SealedBuffers.{is_ready}
use Rattle.sled_core.specs.SealedBuffers.{sealed_end}
use Rattle.sled_core.proofs.Pending.Owns.{held_counted, one_more, ready_uncounted}
use Rattle.sled_core.proofs.logger.ready.ReadyBuffers.note_sealed.Goals as goal

-- the last one, and those before it
last_is : (all bs : List Sealed) (b x : Sealed) (k : ℕ) → all ≡ bs ++ b ∷ [] → k ≡ length bs → x ≡ get_or all k x → x ≡ b
last_is all bs b x k is at read = read ∙ (λ j. get_or (is j) (at j) x) ∙ get_or-append_seam bs b [] x

before_last : (bs : List Sealed) (b : Sealed) → take (length bs) (bs ++ b ∷ []) ≡ bs
before_last [] b = refl
before_last (x ∷ bs) b = ap (λ (l : List Sealed). x ∷ l) (before_last bs b)

pub returns-then-is_ready : goal.returns-then-is_ready
returns-then-is_ready c bs b before others is fresh has =
    let all : List Sealed = c.args.buffer.now.sealed.items in
    let long : deque_len c.args.buffer.now.sealed ≡ length all = search rules in
    let k : ℕ = c.len-k.result - 1 in
    let at : k ≡ length bs = omega (arith, long, c.len-k.ensures, ap length is, length-append bs (b ∷ [])) in
    let same = last_is all bs b c.index.result.now k is at c.index.ensures in
    let ready : is_ready b ≡ true = ap is_ready (sym same) ∙ sym c.is_ready.ensures ∙ c.if-is_ready.true in
    let place : ℕ = c.args.site.now.place in
    let from : ℕ = c.args.buffer.now.written_len in
    let begins : c.span-from.result.0 ≡ sealed_end from bs = c.span-from.ensures.from ∙ (λ j. sealed_end from (take (at j) (is j))) ∙ ap (sealed_end from) (before_last bs b) in
    let none = ready_uncounted b ready in
    let held : c.args.self.now.held ≡ c.args.self.now.held + held_in (b ∷ []) = omega (arith, none) in
    let more = one_more place from bs b before others c.args.self.now has all is c.push_back_reserved.new.self.items c.args.self.now.held
    (c.push_back_reserved.ensures.items ∙ ap (λ n. c.args.self.now.places.items ++ (place + n) ∷ []) begins ∙ ap (λ (o : Bool). c.args.self.now.places.items ++ (if o then (place + sealed_end from bs) ∷ [] else [])) (sym ready))
    held in
    record { places = more.0; held = more.1; low = has.low; high = All-nil (λ p. place + sealed_end from all ≤ p) }

pub returns-else-is_ready : goal.returns-else-is_ready
returns-else-is_ready c bs b before others is fresh has =
    let all : List Sealed = c.args.buffer.now.sealed.items in
    let long : deque_len c.args.buffer.now.sealed ≡ length all = search rules in
    let k : ℕ = c.len-k.result - 1 in
    let at : k ≡ length bs = omega (arith, long, c.len-k.ensures, ap length is, length-append bs (b ∷ [])) in
    let same = last_is all bs b c.index.result.now k is at c.index.ensures in
    let isnt : is_ready b ≡ false = ap is_ready (sym same) ∙ sym c.is_ready.ensures ∙ c.if-is_ready.false in
    let place : ℕ = c.args.site.now.place in
    let from : ℕ = c.args.buffer.now.written_len in
    let one = held_counted b fresh isnt in
    let held : c.args.self.now.held + 1 ≡ c.args.self.now.held + held_in (b ∷ []) = omega (arith, one) in
    let more = one_more place from bs b before others c.args.self.now has all is c.args.self.now.places.items (c.args.self.now.held + 1)
    (sym (append-nil c.args.self.now.places.items) ∙ ap (λ (o : Bool). c.args.self.now.places.items ++ (if o then (place + sealed_end from bs) ∷ [] else [])) (sym isnt))
    held in
    record { places = more.0; held = more.1; low = has.low; high = All-nil (λ p. place + sealed_end from all ≤ p) }
