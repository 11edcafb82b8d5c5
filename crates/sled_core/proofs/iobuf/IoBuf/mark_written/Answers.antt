-- Those at the front that are on the device now go, with their reservations; the others are as they were.
use Rattle.std.proofs.Common.{◌≡◌, ◌∙◌, ◌+◌, ◌-◌, ◌≤◌, ◌<◌, ◌^◌, ap, sym, rules, arith, subst, ℕ, zero, suc, List, [], ◌∷◌, max, length, drop, length-drop, deque_len, refl, Some}
use Rattle.std.specs.List.{All, slice_get}
use Rattle.std.proofs.lemmas.List.{drop-drop}
use Rattle.std.proofs.lemmas.List.Elements.{All-drop}
use Rattle.sled_core.specs.declared.iobuf.Reserved.{Reserved}
use Rattle.sled_core.specs.declared.iobuf.Sealed.{Sealed}
use Rattle.sled_core.specs.inside.Buffers.{IsChain, IsHeaded}
use Rattle.sled_core.specs.Buffers.{open_in}
use Rattle.sled_core.specs.inside.SealedBuffers.{AreSealed, FirstUnwritten, behind_run, run_count, run_end, written_at}
use Rattle.sled_core.specs.SealedBuffers.{sealed_count, sealed_end}
use Rattle.sled_core.proofs.Sealed.Marked.{count_run, count_written, end_run, end_written, first_behind, ready_closed, written_are}
use Rattle.sled_core.proofs.Sealed.Runs.{run_of}
use Rattle.sled_core.proofs.iobuf.IoBuf.mark_written.Goals as goal

there_at : {X : Type 0} (xs : List X) (i : ℕ) → i < length xs → (x : X) × (slice_get xs i ≡ Some x)
there_at [] i lt = absurd (omega (arith, lt))
there_at (x ∷ xs) zero lt = (x, refl)
there_at (x ∷ xs) (suc i) lt = there_at xs i (omega (arith, lt))

-- no more go than there are
few : (bs : List Sealed) (k first : ℕ) → first ≡ sealed_count bs → run_count (written_at k bs) + sealed_count (behind_run (written_at k bs)) ≡ first
few bs k first before = omega (arith, before, count_written k bs, count_run (written_at k bs))

pub take_run-end-requires : goal.take_run-end-requires
take_run-end-requires c =
    let bs : List Sealed = c.args.self.now.sealed.items in
    let count = ap sealed_count c.note_written.ensures.items ∙ count_written c.args.k bs in
    let before = c.args.self.now.before in
    let within = c.args.self.now.parted in
    let long : length c.args.self.now.reserved.items ≡ deque_len c.args.self.now.reserved = search rules in
    let small : deque_len c.args.self.now.reserved < 2 ^ 63 = search rules in
    omega (arith, count, before, within, long, small)

pub overflow_add-self : goal.overflow_add-self
overflow_add-self c =
    let bs : List Sealed = c.args.self.now.sealed.items in
    let count = c.take_run-end.ensures.count ∙ ap run_count c.note_written.ensures.items in
    let less = few bs c.args.k c.args.self.now.first c.args.self.now.before in
    let within = c.args.self.now.parted in
    let numbered = c.args.self.now.numbered in
    let small = c.args.self.now.laid.small in
    omega (arith, count, less, within, numbered, small)

pub overflow_sub-self : goal.overflow_sub-self
overflow_sub-self c =
    let count = c.take_run-end.ensures.count ∙ ap run_count c.note_written.ensures.items in
    let less = few c.args.self.now.sealed.items c.args.k c.args.self.now.first c.args.self.now.before in
    omega (arith, count, less)

pub invariant_of-self : goal.invariant_of-self
invariant_of-self c =
    let from : ℕ = c.args.self.now.written_len in
    let rs : List Reserved = c.args.self.now.reserved.items in
    let bs : List Sealed = c.args.self.now.sealed.items in
    let ws : List Sealed = written_at c.args.k bs in
    let first : ℕ = c.args.self.now.first in
    let lt : c.args.k < length bs = search rules in
    let it = there_at bs c.args.k lt in
    let are = written_are from rs bs c.args.k it.0 it.1 (ready_closed it.0 (c.requires.ready it.0 it.1)) c.args.self.now.are in
    let run = run_of from rs ws are in
    let end : c.take_run-end.result.0 ≡ run_end from ws = c.take_run-end.ensures.end ∙ ap (run_end from) c.note_written.ensures.items in
    let count : c.take_run-end.result.1 ≡ run_count ws = c.take_run-end.ensures.count ∙ ap run_count c.note_written.ensures.items in
    let left : c.take_run-end.new.sealed.items ≡ behind_run ws = c.take_run-end.ensures.left ∙ ap behind_run c.note_written.ensures.items in
    let rest : c.drop_first.new.reserved.items ≡ drop (run_count ws) rs = c.drop_first.ensures ∙ ap (λ n. drop n rs) count in
    let less = few bs c.args.k first c.args.self.now.before in
    let long : length c.drop_first.new.reserved.items ≡ length rs - run_count ws = ap length rest ∙ length-drop (run_count ws) rs in
    let within = c.args.self.now.parted in
    let same : drop (first - c.take_run-end.result.1) c.drop_first.new.reserved.items ≡ drop first rs =
    (λ i. drop (first - count i) (rest i)) ∙ drop-drop (first - run_count ws) (run_count ws) rs ∙ ap (λ n. drop n rs) (let at : run_count ws + (first - run_count ws) ≡ first = omega (arith, less) in at) in
    record {
      begun = c.args.self.now.begun;
      behind = c.args.self.now.behind;
      within = subst (λ (l : List Reserved). All (λ r. r.from + r.len ≤ length c.args.self.now.bytes.items) l) (sym rest) (All-drop (λ (r : Reserved). r.from + r.len ≤ length c.args.self.now.bytes.items) (run_count ws) rs c.args.self.now.within);
      headed = subst (λ (l : List Reserved). All IsHeaded l) (sym rest) (All-drop IsHeaded (run_count ws) rs c.args.self.now.headed);
      numbered = (let numbered = c.args.self.now.numbered in omega (arith, numbered, count, long, less, within));
      head = subst (λ (l : List Sealed). FirstUnwritten l) (sym left) (first_behind ws);
      are = subst (λ n. AreSealed n c.drop_first.new.reserved.items c.take_run-end.new.sealed.items) (sym end)
          (subst (λ (l : List Reserved). AreSealed (run_end from ws) l c.take_run-end.new.sealed.items) (sym rest) (subst (λ (l : List Sealed). AreSealed (run_end from ws) (drop (run_count ws) rs) l) (sym left) run.rest));
      begins = c.args.self.now.begins ∙ sym (end_written from c.args.k bs) ∙ end_run from ws ∙ sym (λ i. sealed_end (end i) (left i));
      before = (let counts = ap sealed_count left in omega (arith, counts, count, less));
      parted = omega (arith, long, within, count, less);
      chain = subst (λ (l : List Reserved). IsChain (max 20 c.args.self.now.begin) l (length c.args.self.now.bytes.items)) (sym same) c.args.self.now.chain;
      counted = c.args.self.now.counted ∙ sym (ap open_in same);
      few = c.args.self.now.few;
      laid = record { small = c.args.self.now.laid.small; roomy = c.args.self.now.laid.roomy; there = λ some. c.args.self.now.laid.there (omega (arith, lt)) };
    }

pub returns-clause-written : goal.returns-clause-written
returns-clause-written c = λ site.
    let old = c.args.self.now in
    let noted = c.note_written.ensures.items in
    let end = c.take_run-end.ensures.end ∙ ap (run_end old.written_len) noted in
    let count = c.take_run-end.ensures.count ∙ ap run_count noted in
    let left = c.take_run-end.ensures.left ∙ ap behind_run noted in
    let rest = c.drop_first.ensures ∙ ap (λ n. drop n old.reserved.items) count in
    λ i. record { parts = record { site = site; bytes = old.bytes.items; written_len = end i; filled = old.filled; sealed = left i; reserved = rest i }; gone = old.gone + count i }
