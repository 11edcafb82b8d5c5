-- The offered files may be left exactly where each name passed its test.
use Rattle.sled_store.proofs.Names.OfferLemmas.{may_leave-iff, may_leave-no}
use Rattle.sled_store.proofs.device.memory.named_files.MemNames.may_leave.Goals as goal

pub returns-then-not-may_have_offered : goal.returns-then-not-may_have_offered
returns-then-not-may_have_offered c = λ s keeps.
    (λ h. absurd (cc), λ all. absurd (may_leave-no c.args.self.now s c.args.files.now.items keeps c.if-not-may_have_offered.ensures all))

pub returns : goal.returns
returns c = λ s keeps.
    may_leave-iff c.args.self.now s c.args.files.now.items c.may_have_kept.result keeps c.if-not-may_have_offered.ensures c.may_have_kept.ensures
