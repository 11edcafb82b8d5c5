-- Of the name the latest state is left, or nothing.
use Rattle.std.proofs.Common.{◌≡◌, ◌∙◌, ◌∷◌, [], ap, sym, refl, subst, rules, ℤ, List, to_z, of_z, w64}
use Rattle.sled_store.specs.inside.MemoryNames.{states_of, latest, files_under}
use Rattle.sled_store.specs.declared.device.memory.named_files.version.FileVersion.{FileVersion}
use Rattle.sled_store.proofs.Names.KeepsLemmas.{KeptMap, written, found_under, found_none, put_here}
use Rattle.sled_store.proofs.device.memory.named_files.MemNames.settle_one.Goals as goal

-- a name without files has no state but the latest
none_settled : (xs : List FileVersion) → xs ≡ [] → states_of xs ≡ latest (states_of xs) ∷ []
none_settled xs none = subst (λ (ys : List FileVersion). states_of ys ≡ latest (states_of ys) ∷ []) (sym none) refl

pub returns-in_default-clause-here : goal.returns-in_default-clause-here
returns-in_default-clause-here c =
    let name : ℤ = c.args.name in
    let old : KeptMap = c.args.self.now.kept in
    let is : to_z w64 (of_z w64 name) ≡ name = search rules in
    ap (λ (k : KeptMap). states_of (files_under k name)) c.get_mut.follows.holds-at-none
    ∙ none_settled (files_under old name) (found_none old _ name is c.in_default.ensures.value)

pub returns-then-not-settle_name-clause-here : goal.returns-then-not-settle_name-clause-here
returns-then-not-settle_name-clause-here c =
    let name : ℤ = c.args.name in
    let old : KeptMap = c.args.self.now.kept in
    let is : to_z w64 (of_z w64 name) ≡ name = search rules in
    ap states_of (found_none c.remove.new.self _ name is (sym c.remove.ensures.updates.1))
    ∙ c.if-not-settle_name.ensures.alone
    ∙ ap (λ (xs : List FileVersion). latest (states_of xs) ∷ []) (found_under old _ name c.in-Some.kept.now is c.in-Some.ensures.value)

pub returns-else-not-settle_name-clause-here : goal.returns-else-not-settle_name-clause-here
returns-else-not-settle_name-clause-here c =
    let name : ℤ = c.args.name in
    let old : KeptMap = c.args.self.now.kept in
    let is : to_z w64 (of_z w64 name) ≡ name = search rules in
    let new : KeptMap = c.get_mut.follows.lender c.settle_name.new.kept in
    let put = written old new _ name c.in-Some.kept.now c.settle_name.new.kept is c.in-Some.ensures.value (c.get_mut.follows.holds c.settle_name.new.kept) in
    ap states_of (put_here old new name c.settle_name.new.kept put)
    ∙ c.if-not-settle_name.ensures.alone
    ∙ ap (λ (xs : List FileVersion). latest (states_of xs) ∷ []) (found_under old _ name c.in-Some.kept.now is c.in-Some.ensures.value)
