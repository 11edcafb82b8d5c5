-- The search is one by number among ascending ones.
use Rattle.std.proofs.Common.{◌≡◌, length, rules, subst, sym}
use Rattle.std.specs.List.Sorted.{IsSearchInRange}
use Rattle.std.specs.VecDeque.{deque_len}
use Rattle.std.proofs.lemmas.List.Sorted.{answers_always}
use Rattle.sled_log.proofs.Sessions.NumberedTickets.{searched}
use Rattle.sled_log.proofs.session.tickets.find.Goals as goal

pub returns : goal.returns
returns c =
    let facts = c.binary_search_by_key.ensures in
    let found = c.binary_search_by_key.result in
    let len : length c.args.entries.now.items ≡ deque_len c.args.entries.now = search rules in
    let by_key = facts.position (λ ticket. ticket.0) (answers_always _ _ _ (λ f a r g called. search rules)) in
    let done = searched c.args.entries.now.items c.requires c.args.number found (subst (IsSearchInRange found) (sym len) facts.bound) by_key in
    rw c.ok.ensures.value (record { found = done.found; missing = done.missing })
