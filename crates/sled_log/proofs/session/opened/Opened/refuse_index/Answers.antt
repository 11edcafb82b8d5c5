-- So many buffers can be written as are seen.
use Rattle.std.proofs.Common.{◌≡◌, ◌∙◌, ℕ, length, ap, sym, arith, nat_le, None, Bool, true, false}
use Rattle.std.proofs.lemmas.Bool.Decides.{nat_tests}
use Rattle.sled_log.specs.declared.session.command.Refusal.TheVariants as why
use Rattle.sled_log.specs.Refusals.{when}
use Rattle.sled_log.specs.RunPhases.{seen}
use Rattle.sled_log.specs.RunStates.{pending_in_view}
use Rattle.sled_log.proofs.Sessions.Writing.{pending_seen}
use Rattle.sled_log.proofs.session.opened.Opened.refuse_index.Goals as goal

pub returns-then-i-pending : goal.returns-then-i-pending
returns-then-i-pending g c = record {
  why = λ k at.
      let opened = c.args.self.now in
      let n : ℕ = pending_in_view (seen opened k.tickets k.given_up k.heads) in
      let is : c.pending.result ≡ n = c.pending.ensures ∙ pending_seen opened.log g.C.Checksum.sum_of (length opened.pages.items) k.tickets k.given_up k.heads in
      let low = c.if-i-pending.true in
      let test : nat_le n c.args.i ≡ false = grind (arith, nat_tests, is, low) in
      ap (λ (b : Bool). when b why.Index None) (sym test);
}

pub returns-else-i-pending : goal.returns-else-i-pending
returns-else-i-pending g c = record {
  why = λ k at.
      let opened = c.args.self.now in
      let n : ℕ = pending_in_view (seen opened k.tickets k.given_up k.heads) in
      let is : c.pending.result ≡ n = c.pending.ensures ∙ pending_seen opened.log g.C.Checksum.sum_of (length opened.pages.items) k.tickets k.given_up k.heads in
      let up = c.if-i-pending.false in
      let test : nat_le n c.args.i ≡ true = grind (arith, nat_tests, is, up) in
      ap (λ (b : Bool). when b why.Index None) (sym test);
}
